-- Laws of the places of a trial, and of what is judged before the first one. Assumes nothing.
use Rattle.std.specs.List.{list_all}
use Rattle.model.specs.Lists.{every}
use Rattle.model.specs.Trials.{Plan, trial_number}
use Rattle.model.proofs.Trials.{judged}
use Prim.Native.Nat.{ℕ, suc, ◌+◌, ◌*◌, ◌-◌, ◌<◌, ◌≤◌}
use native.Mathlib.Nat.{mul-le-mul, mul_assoc, mul_comm}
use native.Mathlib.Omega.{arith}
use mathlib.Core.Path.{◌≡◌, refl, sym, ap, ◌∙◌}
use mathlib.Core.Bool.{Bool, true, false, ◌&&◌}
use mathlib.Core.List.{List, [], ◌∷◌, ◌++◌, append_assoc, append-nil}
use lib.ListN.{length, take, set, length-set}
use lib.Seq.{take-suc-set, take_all}
use borrow.Author.Tests.{leb-true, ltb-false}
use lib.Dec.{ltb}
use Rattle.model.specs.Numbers.{one_to}
use Rattle.model.specs.Trials.{max_steps, max_cutoffs, repeated}
use Rattle.model.proofs.Lists.{and_both}
use Rattle.model.proofs.Groups.{stride-le}

-- a test of each element, as std has it
pub every-all : {X : Type 0} (p : X → Bool) (l : List X) → list_all p l ≡ every p l
unfolding every
every-all p [] = refl
every-all p (x ∷ xs) = ap (λ (b : Bool). p x && b) (every-all p xs)

-- as many steps and cutoffs as there may be
pub record Few (steps cutoffs : ℕ) : Type 0 where
  pub some-steps : 1 ≤ steps
  pub steps-64 : steps ≤ 64
  pub some-cutoffs : 1 ≤ cutoffs
  pub cutoffs-8 : cutoffs ≤ 8

pub few : (steps cutoffs : ℕ) → (one_to max_steps steps && one_to max_cutoffs cutoffs) ≡ true → Few steps cutoffs
few steps cutoffs e =
    let a = and_both (one_to max_steps steps) (one_to max_cutoffs cutoffs) e in
    let b = and_both _ _ a.0 in
    let c = and_both _ _ a.1 in
    record {
      some-steps = leb-true 1 steps b.0;
      steps-64 = leb-true steps 64 b.1;
      some-cutoffs = leb-true 1 cutoffs c.0;
      cutoffs-8 = leb-true cutoffs 8 c.1;
    }

-- .. and as many words of output
pub few_words : {steps cutoffs : ℕ} → Few steps cutoffs → 2 * cutoffs * steps ≤ 1024
few_words {steps} {cutoffs} f = let c : 2 * cutoffs ≤ 16 = omega (arith, f.cutoffs-8) in mul-le-mul c f.steps-64

-- so much was judged of a plan that is tried
pub few-judged : (p : Plan) (words room : ℕ) → trial_number p words room ≡ 0 → Few p.count (length p.cutoffs)
few-judged p words room e = few p.count (length p.cutoffs) (judged p words room e).counts

-- the places of a trial are among these words
pub places-small : {steps cutoffs : ℕ} (i : ℕ) → Few steps cutoffs → i < cutoffs → i * (2 * steps) + 2 * steps ≤ 1024
places-small {steps} {cutoffs} i f h =
    let w : 2 * steps ≤ 128 = omega (arith, f.steps-64) in
    let c : i ≤ 7 = omega (arith, h, f.cutoffs-8) in
    let m : i * (2 * steps) ≤ 7 * 128 = mul-le-mul c w in
    omega (arith, m, w)

pub places-within : (steps cutoffs i room : ℕ) → i < cutoffs → ltb room (2 * cutoffs * steps) ≡ false → i * (2 * steps) + 2 * steps ≤ room
places-within steps cutoffs i room h e =
    let l : 2 * cutoffs * steps ≤ room = ltb-false room (2 * cutoffs * steps) e in
    omega (arith, stride-le (2 * steps) i cutoffs h, l, twice cutoffs steps)
  where
    twice : (c s : ℕ) → c * (2 * s) ≡ 2 * c * s
    twice c s = sym (mul_assoc c 2 s) ∙ ap (λ (n : ℕ). n * s) (mul_comm c 2)

-- place i is written
pub place-put : (p : List ℕ) (i n e : ℕ) → 2 * i + 2 ≤ length p → take (2 * (i + 1)) (set (set p (2 * i) n) (2 * i + 1) e) ≡ take (2 * i) p ++ n ∷ e ∷ []
place-put p i n e h =
    ap (λ (k : ℕ). take k (set (set p (2 * i) n) (2 * i + 1) e)) (twice i)
    ∙ take-suc-set (set p (2 * i) n) (2 * i + 1) e (omega (arith, length-set p (2 * i) n, h))
    ∙ ap (λ (l : List ℕ). l ++ e ∷ []) (ap (λ (k : ℕ). take k (set p (2 * i) n)) (next i) ∙ take-suc-set p (2 * i) n (omega (arith, h)))
    ∙ append_assoc (take (2 * i) p) (n ∷ []) (e ∷ [])
  where
    twice : (i : ℕ) → 2 * (i + 1) ≡ suc (2 * i + 1)
    twice i = omega arith

    next : (i : ℕ) → 2 * i + 1 ≡ suc (2 * i)
    next i = omega arith

-- .. and those behind it: place i and the others of `count` that are alike
pub place-filled : (p : List ℕ) (i count n e : ℕ) → i < count → 2 * i + 2 ≤ length p
    → take (2 * (i + 1)) (set (set p (2 * i) n) (2 * i + 1) e) ++ repeated (count - (i + 1)) (n ∷ e ∷ []) ≡ take (2 * i) p ++ repeated (count - i) (n ∷ e ∷ [])
unfolding repeated
place-filled p i count n e h l =
    ap (λ (q : List ℕ). q ++ repeated (count - (i + 1)) (n ∷ e ∷ [])) (place-put p i n e l)
    ∙ append_assoc (take (2 * i) p) (n ∷ e ∷ []) (repeated (count - (i + 1)) (n ∷ e ∷ []))
    ∙ ap (λ (k : ℕ). take (2 * i) p ++ repeated k (n ∷ e ∷ [])) (sym (less count i h))
  where
    less : (count i : ℕ) → i < count → count - i ≡ suc (count - (i + 1))
    less count i h = omega arith

-- none is left
pub all_placed : (p : List ℕ) (i count n e : ℕ) → length p ≡ 2 * count → count ≤ i → p ≡ take (2 * i) p ++ repeated (count - i) (n ∷ e ∷ [])
unfolding repeated
all_placed p i count n e l h =
    sym
    (ap (λ (q : List ℕ). q ++ repeated (count - i) (n ∷ e ∷ [])) (take_all (2 * i) p (omega (arith, l, h)))
    ∙ ap (λ (k : ℕ). p ++ repeated k (n ∷ e ∷ [])) (none count i h)
    ∙ append-nil p)
  where
    none : (count i : ℕ) → count ≤ i → count - i ≡ 0
    none count i h = omega arith
