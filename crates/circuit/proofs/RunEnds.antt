-- Where a run of bytes ends, byte by byte.
use mathlib.Core.Path.{◌≡◌, refl, sym, ap, ◌∙◌}
use mathlib.Core.Bool.{Bool, true, false, cond, ◌&&◌}
use mathlib.Core.List.{List, [], ◌∷◌}
use Prim.Native.Nat.{ℕ, suc, ◌+◌, ◌<◌, ◌≤◌}
use native.Mathlib.Numerals.{add-one}
use native.Mathlib.Omega.{arith}
use lib.ListN.{length, drop, get_or, drop_of_length-le, length-drop}
use lib.Seq.{drop-cons}
use lib.Dec.{eqb, ltb}
use borrow.Author.Tests.{ltb-true}
use Rattle.circuit.specs.Runs.{run_length, run_end, is_end, is_at}

shorter : (t : Bool) (n m : ℕ) → n ≤ m → cond t (suc n) 0 ≤ suc m
shorter true n m h = omega arith
shorter false n m h = omega arith

run_length-le : (p : ℕ → Bool) (bs : List ℕ) → run_length p bs ≤ length bs
unfolding run_length
run_length-le p [] = omega arith
run_length-le p (b ∷ bs) = shorter (p b) (run_length p bs) (length bs) (run_length-le p bs)

module _ (p : ℕ → Bool) (text : List ℕ) (i : ℕ) where
  first : i < length text → run_length p (drop i text) ≡ cond (p (get_or text i 0)) (suc (run_length p (drop (i + 1) text))) 0
  unfolding run_length
  first h = ap (run_length p) (drop-cons text i 0 h ∙ ap (λ (k : ℕ). get_or text i 0 ∷ drop k text) (sym (add-one i)))

  -- a byte of the kind
  pub run_on : i < length text → p (get_or text i 0) ≡ true → run_end p text (i + 1) ≡ run_end p text i
  run_on h e =
      let z : run_length p (drop i text) ≡ suc (run_length p (drop (i + 1) text)) = first h ∙ ap (λ (t : Bool). cond t (suc (run_length p (drop (i + 1) text))) 0) e in
      omega arith

  -- .. of another
  pub run-stops : i < length text → p (get_or text i 0) ≡ false → i ≡ run_end p text i
  run-stops h e =
      let z : run_length p (drop i text) ≡ 0 = first h ∙ ap (λ (t : Bool). cond t (suc (run_length p (drop (i + 1) text))) 0) e in
      omega arith

  -- no byte
  pub run_past : length text ≤ i → i ≡ run_end p text i
  unfolding run_length
  run_past h =
      let z : run_length p (drop i text) ≡ 0 = ap (run_length p) (drop_of_length-le text {i = i} h) in
      omega arith

  pub run-within : i ≤ length text → run_end p text i ≤ length text
  run-within h = omega (arith, run_length-le p (drop i text), length-drop i text)

-- ---- what stands at a place is in the line

pub both_first : (a b : Bool) → (a && b) ≡ true → a ≡ true
both_first true b h = refl
both_first false b h = h

pub at-inside : (text : List ℕ) (at b : ℕ) → is_at text at b ≡ true → at < length text
unfolding is_at
at-inside text at b h = ltb-true at (length text) (both_first (ltb at (length text)) (eqb (get_or text at 0) b) h)

pub not_end : (text : List ℕ) (at : ℕ) → is_end text at ≡ false → at < length text
unfolding is_end
not_end text at h = grind arith
