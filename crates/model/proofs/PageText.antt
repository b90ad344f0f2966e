-- How long the lines of a page are, and the page line by line. Assumes nothing.
use mathlib.Core.Path.{◌≡◌, refl, sym, ap, ◌∙◌}
use mathlib.Core.List.{List, [], ◌∷◌, ◌++◌, append_assoc, append-nil}
use Prim.Native.Nat.{ℕ, zero, suc, ◌+◌, ◌*◌, ◌/◌, ◌%◌, ◌<◌}
use native.Mathlib.Nat.{not-suc-le-zero, le_of_suc-le-suc, add-zero, suc-add, add-suc, suc-mul, zero-mul}
use native.Mathlib.Numerals.{add-one}
use native.Mathlib.Omega.{arith}
use lib.ListN.{length, take, get_or, length-append}
use Rattle.model.specs.Entries.{Entry}
use Rattle.model.specs.Sheet.{blank, line_end, justified}
use Rattle.model.specs.Page.{share, hex_digit, hexadecimal, page_line_len, page_line, page_from, page_text}
use Rattle.model.proofs.Sheet.{length-justified}

pub length-hexadecimal : (width v : ℕ) → length (hexadecimal width v) ≡ width
unfolding hexadecimal
length-hexadecimal zero v = refl
length-hexadecimal (suc width) v =
    length-append (hexadecimal width (v / 16)) (hex_digit (v % 16) ∷ []) ∙ (omega (arith, length-hexadecimal width (v / 16)))

pub length-page_line : (place : ℕ) (e : Entry) → length (page_line place e) ≡ page_line_len
unfolding page_line
length-page_line place e =
    let a = justified 5 place in
    let b = justified 11 (share e.weight) in
    let c = hexadecimal 16 e.body.loss in
    length-append (a ++ b ++ (blank ∷ blank ∷ []) ++ c) (line_end ∷ [])
    ∙ (omega (
      arith,
      length-append (a ++ b ++ (blank ∷ blank ∷ [])) c,
      length-append (a ++ b) (blank ∷ blank ∷ []),
      length-append a b,
      length-justified 5 place (omega arith),
      length-justified 11 (share e.weight) (omega arith),
      length-hexadecimal 16 e.body.loss,
    ))

length-page_from : (place : ℕ) (es : List Entry) → length (page_from place es) ≡ length es * page_line_len
unfolding page_from
length-page_from place [] = sym (zero-mul page_line_len)
length-page_from place (e ∷ es) =
    length-append (page_line place e) (page_from (suc place) es)
    ∙ (omega (arith, length-page_line place e, length-page_from (suc place) es, suc-mul (length es) page_line_len))

pub length-page_text : (es : List Entry) → length (page_text es) ≡ length es * page_line_len
unfolding page_text
length-page_text es = length-page_from 1 es

-- ---- line by line

-- the lines of the first i entries, and the next one
next-from : (place : ℕ) (es : List Entry) (i : ℕ) (d : Entry) → i < length es → page_from place (take (suc i) es) ≡ page_from place (take i es) ++ page_line (place + i) (get_or es i d)
unfolding page_from
next-from place [] i d h = absurd (not-suc-le-zero h)
next-from place (e ∷ es) zero d h = simp (add-zero, append-nil)
next-from place (e ∷ es) (suc i) d h = rw (next-from (suc place) es i d (le_of_suc-le-suc h), append_assoc, suc-add, add-suc)

pub page-next : (es : List Entry) (i : ℕ) (d : Entry) → i < length es → page_text (take (i + 1) es) ≡ page_text (take i es) ++ page_line (i + 1) (get_or es i d)
unfolding page_text
page-next es i d h =
    let k : 1 + i ≡ i + 1 = omega arith in
    ap (λ (j : ℕ). page_from 1 (take j es)) (add-one i)
    ∙ next-from 1 es i d h
    ∙ ap (λ (p : ℕ). page_from 1 (take i es) ++ page_line p (get_or es i d)) k

-- an empty list prints nothing
pub page-none : page_text [] ≡ []
unfolding page_text page_from
page-none = refl
