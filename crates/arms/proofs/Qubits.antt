-- Number 3 in the cases of a shape, and what it leaves: qubits below n, so below 64. Assumes nothing.
use mathlib.Core.Path.{◌≡◌, refl, ◌∙◌}
use mathlib.Core.Bool.{Bool, true, false, ◌||◌}
use Prim.Native.Nat.{ℕ, ◌≤◌}
use native.Mathlib.Nat.{lt_of_lt_of_le}
use lib.Dec.{leb}
use borrow.Author.Tests.{leb-false}
use Rattle.model.specs.Lists.{some_of}
use Rattle.model.specs.Numbers.{some_not_below}
use Rattle.arms.specs.Arms.{shape_qubits, ShapeBelow}
use Rattle.arms.specs.declared.Shape.{Shape}
use Rattle.arms.specs.declared.Shape.TheVariants.{One, Lose, Two}
use Rattle.model.proofs.Lists.{or-neither}

-- one test, alone
alone : (b : Bool) → b ≡ (b || false)
alone true = refl
alone false = refl

module _ (n : ℕ) where
  pub all-below : (h : Shape) → some_not_below n (shape_qubits h) ≡ false → ShapeBelow n h
  unfolding some_not_below some_of shape_qubits
  all-below (One q) e = leb-false n q (alone (leb n q) ∙ e)
  all-below (Lose q) e = leb-false n q (alone (leb n q) ∙ e)
  all-below (Two p q) e =
      let both = or-neither (leb n p) (leb n q || false) e in
      (leb-false n p both.0, leb-false n q (alone (leb n q) ∙ both.1))

pub below_more : (m k : ℕ) (h : Shape) → m ≤ k → ShapeBelow m h → ShapeBelow k h
below_more m k (One q) l b = lt_of_lt_of_le b l
below_more m k (Lose q) l b = lt_of_lt_of_le b l
below_more m k (Two p q) l b = (lt_of_lt_of_le b.0 l, lt_of_lt_of_le b.1 l)
