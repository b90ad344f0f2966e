-- Whether a line, or lines, can be read: the loops that leave at the first field or line that cannot. Assumes nothing.
use mathlib.Core.Path.{◌≡◌, refl, sym, ap, ap₂, ◌∙◌}
use mathlib.Core.Bool.{Bool, true, false, true≢false, cond, ◌&&◌}
use mathlib.Core.List.{List, [], ◌∷◌, map}
use mathlib.Core.Option.{Option, none, some}
use Prim.Native.Nat.{ℕ, suc, ◌+◌, ◌*◌, ◌-◌, ◌/◌, ◌%◌, ◌<◌, ◌≤◌}
use native.Mathlib.Nat.{div-eq_of_lt, div-eq-sub-div, mul-mod_left}
use native.Mathlib.Numerals.{add-one}
use native.Mathlib.Omega.{arith}
use lib.Dec.{eqb}
use lib.ListN.{length, take, drop, get_or, length-drop, drop_of_length-le}
use lib.Seq.{drop-drop, drop-cons}
use Rattle.model.specs.Lists.{groups}
use Rattle.model.specs.Sheet.{line_end, columns, line_len, same_words, field_value, also, line_fields, all_some, lines_fields}
use Rattle.std.specs.Prelude as code
use Rattle.std.specs.Option as option
use Rattle.std.specs.Prelude.{None, Some}
use Rattle.fields.specs.Read.{as_option, is_some}
use Rattle.fields.proofs.Lines.{lines-count}

-- ---- something was read, or nothing

-- there is no value that was read
pub nothing_read : {A : Type 0} (o : Option A) → ((a : A) → o ≡ some a → ⊥) → is_some o ≡ false
unfolding is_some
nothing_read none h = refl
nothing_read (some a) h = absurd (h a refl)

-- there is one
pub something-read : {A : Type 0} (o : Option A) → is_some o ≡ true → (a : A) × (o ≡ some a)
unfolding is_some
something-read none e = absurd (true≢false (sym e))
something-read (some a) e = (a, refl)

-- two readings in one
also-read : {A B C : Type 0} (f : A → B → C) (o : Option A) (q : Option B) → is_some (also f o q) ≡ (is_some o && is_some q)
unfolding is_some also
also-read f none q = refl
also-read f (some a) none = refl
also-read f (some a) (some b) = refl

-- what `read_field` answers, as a test
pub field-tested : (o : code.Option ℕ) (bs : List ℕ) → as_option o ≡ field_value bs → is_some (field_value bs) ≡ option.is_some o
unfolding is_some
field-tested (Some v) bs e = ap is_some (sym e)
field-tested None bs e = ap is_some (sym e)

-- ---- the fields of a line

module _ (m j at : ℕ) (t : List ℕ) where
  -- the fields from field j on, which begins at byte `at`
  abbrev pub line_from : Bool
  line_from = is_some (line_fields (m - j) (drop at t))

  module _ (h : j < m) where
    -- field j and those after it
    fields-are : line_from ≡ (is_some (field_value (take columns (drop at t))) && is_some (line_fields (m - (j + 1)) (drop (at + columns) t)))
    unfolding line_fields
    fields-are =
        let k : m - j ≡ suc (m - (j + 1)) = omega arith in
        ap (λ (n : ℕ). is_some (line_fields n (drop at t))) k
        ∙ also-read (λ v vs. v ∷ vs) (field_value (take columns (drop at t))) (line_fields (m - (j + 1)) (drop columns (drop at t)))
        ∙ ap (λ (w : List ℕ). is_some (field_value (take columns (drop at t))) && is_some (line_fields (m - (j + 1)) w)) (drop-drop columns at t)

    -- it can be read: those after it decide
    pub field-passed : is_some (field_value (take columns (drop at t))) ≡ true → is_some (line_fields (m - (j + 1)) (drop (at + columns) t)) ≡ line_from
    field-passed e = sym (fields-are ∙ ap (λ (b : Bool). b && is_some (line_fields (m - (j + 1)) (drop (at + columns) t))) e)

    -- it cannot
    pub field-failed : is_some (field_value (take columns (drop at t))) ≡ false → false ≡ line_from
    field-failed e = sym (fields-are ∙ ap (λ (b : Bool). b && is_some (line_fields (m - (j + 1)) (drop (at + columns) t))) e)

  -- only the line's end is left
  pub line-ended : m ≤ j → length t ≡ at + 1 → eqb (get_or t at 0) line_end ≡ line_from
  unfolding line_fields same_words is_some
  line-ended h l =
      let k : m - j ≡ 0 = omega arith in
      let w : drop at t ≡ get_or t at 0 ∷ [] = drop-cons t at 0 (omega arith) ∙ ap (λ (r : List ℕ). get_or t at 0 ∷ r) (drop_of_length-le t {i = suc at} (omega arith)) in
      sym (ap₂ (λ (n : ℕ) (u : List ℕ). is_some (line_fields n u)) k w ∙ ends (eqb (get_or t at 0) line_end))
    where
      ends : (b : Bool) → is_some (cond {A = Option (List ℕ)} (b && true) (some []) none) ≡ b
      ends true = refl
      ends false = refl

-- ---- lines

-- nothing is no line at all
pub lines_none : (m : ℕ) → is_some (lines_fields m []) ≡ true
unfolding lines_fields groups all_some is_some
lines_none m =
    let k : (0 + m * columns) / line_len m ≡ 0 = div-eq_of_lt (omega arith) in
    ap (λ (n : ℕ). is_some (all_some (map (line_fields m) (groups (line_len m) n [])))) k

-- a text that does not have the bytes of whole lines
pub lines-uneven : (m : ℕ) (t : List ℕ) → (length t % line_len m ≡ 0 → ⊥) → is_some (lines_fields m t) ≡ false
lines-uneven m t h =
    nothing_read (lines_fields m t) (λ ls e. h (ap (λ (n : ℕ). n % line_len m) (lines-count m t ls e) ∙ mul-mod_left (length ls) (line_len m)))

-- the line that begins at byte `at`, and those after it
module _ (m at : ℕ) (t : List ℕ) (h : at + line_len m ≤ length t) where
  -- its bytes, and those after them
  abbrev here : List ℕ
  here = take (line_len m) (drop at t)

  abbrev after : List ℕ
  after = drop (line_len m) (drop at t)

  -- there is one piece more than in those
  one_more : (length (drop at t) + m * columns) / line_len m ≡ suc ((length after + m * columns) / line_len m)
  one_more =
      let l : length (drop at t) ≡ length t - at = length-drop at t in
      let d : length after ≡ length (drop at t) - line_len m = length-drop (line_len m) (drop at t) in
      let q : length (drop at t) + m * columns - line_len m ≡ length after + m * columns = omega arith in
      div-eq-sub-div {m = line_len m} (omega arith) (omega arith) ∙ ap (λ (n : ℕ). n / line_len m + 1) q ∙ add-one ((length after + m * columns) / line_len m)

  lines_are : is_some (lines_fields m (drop at t)) ≡ (is_some (line_fields m here) && is_some (lines_fields m (drop (at + line_len m) t)))
  unfolding lines_fields groups all_some
  lines_are =
      ap (λ (n : ℕ). is_some (all_some (map (line_fields m) (groups (line_len m) n (drop at t))))) one_more
      ∙ also-read (λ l ls. l ∷ ls) (line_fields m here) (lines_fields m after)
      ∙ ap (λ (w : List ℕ). is_some (line_fields m here) && is_some (lines_fields m w)) (drop-drop (line_len m) at t)

  -- it can be read: those after it decide
  pub line-passed : is_some (line_fields m here) ≡ true → is_some (lines_fields m (drop (at + line_len m) t)) ≡ is_some (lines_fields m (drop at t))
  line-passed e = sym (lines_are ∙ ap (λ (b : Bool). b && is_some (lines_fields m (drop (at + line_len m) t))) e)

  -- it cannot
  pub line-failed : is_some (line_fields m here) ≡ false → false ≡ is_some (lines_fields m (drop at t))
  line-failed e = sym (lines_are ∙ ap (λ (b : Bool). b && is_some (lines_fields m (drop (at + line_len m) t))) e)
