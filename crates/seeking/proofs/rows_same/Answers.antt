use mathlib.Core.Path.{◌≡◌, refl, ◌∙◌, sym}
use mathlib.Core.List.{List}
use mathlib.Core.Logic.{inl}
use Prim.Native.Nat.{ℕ, min, ◌≤◌, ◌<◌, ◌+◌, ◌-◌, ◌*◌}
use native.Mathlib.Omega.{arith}
use lib.ListN.{length}
use Rattle.model.specs.Entries.{entry_len, body_in}
use Rattle.model.specs.Keys.{usual_salts}
use Rattle.model.specs.declared.BranchMutation.{BranchMutation}
use Rattle.model.specs.declared.Size.{Size}
use Rattle.model.proofs.Lists.{all_none}
use Rattle.changes.specs.Changes.{flip_bits, change_of}
use Rattle.changes.specs.declared.Change.{Change}
use Rattle.seeking.specs.Parts.{flips_from}
use Rattle.seeking.proofs.Rows.{lent_rows, lent-bits, PartAt, next-part, part-flips, part_same, part-differs, rows_all}
use Rattle.seeking.proofs.rows_same.Goals as goal

-- the bits of the rows that are compared next
flips-are : (s : Size) → s.n ≤ 64 → (m : BranchMutation) (p e : List ℕ) → length p ≡ entry_len s → (r many : ℕ) → r < 2 * s.n → many ≡ min (2 * s.n - r) 64
    → PartAt s.n r → (c : Change) (f : ℕ) → f ≡ flips_from c r → c ≡ change_of usual_salts s.n m (body_in s p).rows → f ≡ flip_bits m (lent_rows s r many p) 0 many
flips-are s few m p e l r many b k at c f g h = g ∙ part-flips s.n few r many b k m (body_in s p).rows c h at ∙ sym (lent-bits s m p e l r many)

pub loop-r-init : goal.loop-r-init
loop-r-init c = (omega arith, inl refl, λ m e. all_none _)

pub returns-then-not-same_part : goal.returns-then-not-same_part
returns-then-not-same_part c =
    let a = c.args in
    let l = c.loop-r in
    let many = c.min-many in
    let f = c.flips_from-flips in
    let b : l.r + many.result ≤ 2 * a.size.n = omega arith in
    λ m e.
    sym
    (part-differs
    a.size m a.parent.now a.e.now c.requires.2 l.r many.result b
    (c.same_part.ensures m (flips-are a.size c.requires.0.qubits m a.parent.now a.e.now c.requires.2 l.r many.result c.loop-r-test.true many.ensures l.invariant.1 a.c f.result f.ensures e))
    c.if-not-same_part.true)

pub loop-r-preserved : goal.loop-r-preserved
loop-r-preserved c =
    let a = c.args in
    let l = c.loop-r in
    let many = c.min-many in
    let f = c.flips_from-flips in
    let b : l.r + many.result ≤ 2 * a.size.n = omega arith in (
      omega arith,
      next-part a.size.n c.requires.0.qubits l.r many.result c.loop-r-test.true many.ensures l.invariant.1,
      λ m e.
          part_same
          a.size m a.parent.now a.e.now c.requires.2 l.r many.result b
          (c.same_part.ensures m (flips-are a.size c.requires.0.qubits m a.parent.now a.e.now c.requires.2 l.r many.result c.loop-r-test.true many.ensures l.invariant.1 a.c f.result f.ensures e))
          (l.invariant.2 m e) c.if-not-same_part.false,
    )

pub returns : goal.returns
returns c =
    let a = c.args in
    let l = c.loop-r in
    λ m e. sym (rows_all a.size m a.parent.now a.e.now c.requires.2 l.r 0 (omega arith) (l.invariant.2 m e))
