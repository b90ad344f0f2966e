-- How long columns, fields and lines of a sheet are, and that a number can be read from its columns. Assumes nothing.
use mathlib.Core.Path.{◌≡◌, refl, sym, ap, ◌∙◌}
use mathlib.Core.Bool.{Bool, true, false, cond}
use mathlib.Core.List.{List, [], ◌∷◌, ◌++◌, map, append_assoc}
use Prim.Native.Nat.{ℕ, zero, suc, ◌+◌, ◌*◌, ◌-◌, ◌/◌, ◌%◌, ◌^◌, ◌≤◌, ◌<◌}
use native.Mathlib.Nat.{suc-mul, zero-mul, pow-suc, div-lt_iff_lt-mul, div-add-mod}
use native.Mathlib.Omega.{arith}
use lib.Dec.{eqb}
use lib.ListN.{length, length-append}
use borrow.Author.Tests.{eqb-true, ne_eqb}
use Rattle.model.specs.Lists.{joined}
use Rattle.model.specs.Sheet.{blank, line_end, digit, columns, leading, justified, field, line, line_len, value_from}

snoc : (c : ℕ) (l : List ℕ) (b : ℕ) → length l ≡ c → length (l ++ b ∷ []) ≡ suc c
snoc c l b e = length-append l (b ∷ []) ∙ (omega arith)

pub length-leading : (c v : ℕ) → length (leading c v) ≡ c
unfolding leading
length-leading zero v = refl
length-leading (suc c) v =
    go (eqb v 0) (leading c 0 ++ blank ∷ []) (leading c (v / 10) ++ digit (v % 10) ∷ [])
    (snoc c (leading c 0) blank (length-leading c 0)) (snoc c (leading c (v / 10)) (digit (v % 10)) (length-leading c (v / 10)))
  where
    go : (t : Bool) (a b : List ℕ) → length a ≡ suc c → length b ≡ suc c → length (cond t a b) ≡ suc c
    go true a b p q = p
    go false a b p q = q

pub length-justified : (width v : ℕ) → 1 ≤ width → length (justified width v) ≡ width
length-justified width v h = length-append (leading (width - 1) (v / 10)) (digit (v % 10) ∷ []) ∙ (omega (arith, length-leading (width - 1) (v / 10)))

pub length-field : (v : ℕ) → length (field v) ≡ columns
unfolding field
length-field v = length-justified columns v (omega arith)

-- a line's first field
pub line-cons : (v : ℕ) (vs : List ℕ) → line (v ∷ vs) ≡ field v ++ line vs
unfolding line joined
line-cons v vs = append_assoc (field v) (joined (map field vs)) (line_end ∷ [])

-- 21 bytes a field, and the line's end
pub length-line : (vs : List ℕ) → length (line vs) ≡ line_len (length vs)
unfolding line joined
length-line [] = omega (arith, zero-mul columns)
length-line (v ∷ vs) =
    ap length (line-cons v vs) ∙ length-append (field v) (line vs) ∙ (omega (arith, length-field v, length-line vs, suc-mul (length vs) columns))

-- ---- read back

-- columns read one after the other
value-append : (v : ℕ) (a b : List ℕ) → value_from v (a ++ b) ≡ value_from (value_from v a) b
unfolding value_from
value-append v [] b = refl
value-append v (x ∷ a) b = value-append (cond (eqb x blank) v (10 * v + (x - digit 0))) a b

value-digit : (v d : ℕ) → value_from v (digit d ∷ []) ≡ 10 * v + d
unfolding value_from
value-digit v d = rw (ne_eqb (digit d) blank (λ e. omega arith)) (omega arith)

-- a number's last digit after the columns of the others
value-last : (v : ℕ) (l : List ℕ) → value_from 0 l ≡ v / 10 → value_from 0 (l ++ digit (v % 10) ∷ []) ≡ v
value-last v l e =
    value-append 0 l (digit (v % 10) ∷ []) ∙ ap (λ (w : ℕ). value_from w (digit (v % 10) ∷ [])) e ∙ value-digit (v / 10) (v % 10) ∙ div-add-mod v 10

tenth : (c v : ℕ) → v < 10 ^ suc c → v / 10 < 10 ^ c
tenth c v h =
    let p : 10 ^ suc c ≡ 10 ^ c * 10 = pow-suc 10 c in
    (div-lt_iff_lt-mul {k = 10} (omega arith)).1 (omega arith)

value-leading : (c v : ℕ) → v < 10 ^ c → value_from 0 (leading c v) ≡ v
unfolding leading value_from
value-leading zero v h = omega arith
value-leading (suc c) v h =
    let l = tenth c v h in
    go (eqb v 0) refl (value-leading c 0 (omega arith)) (value-leading c (v / 10) l)
  where
    go : (t : Bool) → eqb v 0 ≡ t → value_from 0 (leading c 0) ≡ 0 → value_from 0 (leading c (v / 10)) ≡ v / 10
        → value_from 0 (cond t (leading c 0 ++ blank ∷ []) (leading c (v / 10) ++ digit (v % 10) ∷ [])) ≡ v
    go true e z h = value-append 0 (leading c 0) (blank ∷ []) ∙ z ∙ sym (eqb-true v 0 e)
    go false e z h = value-last v (leading c (v / 10)) h

-- a number that its columns are wide enough for loses no digit
pub justified-read : (width v : ℕ) → 1 ≤ width → v < 10 ^ width → value_from 0 (justified width v) ≡ v
justified-read zero v h l = absurd (omega arith)
justified-read (suc c) v h l =
    let e : suc c - 1 ≡ c = omega arith in
    rw e (value-last v (leading c (v / 10)) (value-leading c (v / 10) (tenth c v l)))
