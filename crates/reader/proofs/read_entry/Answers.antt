use mathlib.Core.Path.{◌≡◌, refl, sym, ap, ap₂, ◌∙◌}
use mathlib.Core.List.{List, ◌++◌}
use Prim.Native.Nat.{ℕ, ◌+◌, ◌*◌, ◌-◌, ◌≤◌}
use native.Mathlib.Omega.{arith}
use lib.ListN.{length, take, drop, replicate, length-drop}
use lib.Seq.{drop-drop}
use borrow.Rule.Slice.PartMut.{put_mid, mid_of, mid_len}
use Rattle.model.specs.Lists.{joined}
use Rattle.model.specs.Sheet.{lines_fields}
use Rattle.fields.specs.Read.{is_some}
use Rattle.reader.specs.Reading.{Lined, lines_on, count_on}
use Rattle.reader.proofs.Lined.{lines_long, field_at, rest-lined, rest_lines}
use Rattle.reader.proofs.Entry.{entry-written}
use Rattle.reader.proofs.Filled.{Filled, begun, more, whole}
use Rattle.reader.proofs.read_entry.Goals as goal

-- the lines of the coefficients on, and those of the rows on
module _ (t ct rt : List ℕ) (count : ℕ) (l : Lined t) (h : 1 + count_on (lines_on t) ≤ length (lines_on t)) (counted : count ≡ count_on (lines_on t)) (c : ct ≡ drop 64 t)
    (r : rt ≡ drop (64 + 64 * count) t) where
  coefs-lined : Lined ct
  coefs-lined = ap (λ (w : List ℕ). is_some (lines_fields 3 w)) c ∙ rest-lined t l 1 (omega arith)

  coefs-lines : lines_on ct ≡ drop 1 (lines_on t)
  coefs-lines = ap lines_on c ∙ rest_lines t l 1 (omega arith)

  rows-text : rt ≡ drop (64 * (1 + count_on (lines_on t))) t
  rows-text =
      let past : 64 + 64 * count ≡ 64 * (1 + count_on (lines_on t)) = omega arith in
      r ∙ ap (λ (k : ℕ). drop k t) past

  rows-lined : Lined rt
  rows-lined = ap (λ (w : List ℕ). is_some (lines_fields 3 w)) rows-text ∙ rest-lined t l (1 + count_on (lines_on t)) h

  rows-lines : lines_on rt ≡ drop (count_on (lines_on t)) (drop 1 (lines_on t))
  rows-lines = ap lines_on rows-text ∙ rest_lines t l (1 + count_on (lines_on t)) h ∙ sym (drop-drop (count_on (lines_on t)) 1 (lines_on t))

pub number_at-count-requires : goal.number_at-count-requires
number_at-count-requires c =
    let long : length c.args.text.now ≡ length (lines_on c.args.text.now) * 64 = lines_long c.args.text.now c.requires.lined.0 in
    omega (arith, long, c.requires.lined.1)

pub overflow_mul-unused : goal.overflow_mul-unused
overflow_mul-unused c =
    let counted : c.number_at-count.result ≡ count_on (lines_on c.args.text.now) = c.number_at-count.ensures _ (field_at c.args.text.now c.requires.lined.0 42 0 2 refl (omega (arith, c.requires.lined.1)) (omega arith)) in
    let few : c.number_at-count.result ≤ c.args.size.k = omega (arith, counted, c.requires.lined.2) in
    omega (arith, few, c.requires.within.0.coefficients)

pub overflow_add-unused : goal.overflow_add-unused
overflow_add-unused c =
    let counted : c.number_at-count.result ≡ count_on (lines_on c.args.text.now) = c.number_at-count.ensures _ (field_at c.args.text.now c.requires.lined.0 42 0 2 refl (omega (arith, c.requires.lined.1)) (omega arith)) in
    let few : c.number_at-count.result ≤ c.args.size.k = omega (arith, counted, c.requires.lined.2) in
    omega (arith, few, c.requires.within.0.coefficients)

pub text_from-coefs_text-requires : goal.text_from-coefs_text-requires
text_from-coefs_text-requires c =
    let long : length c.args.text.now ≡ length (lines_on c.args.text.now) * 64 = lines_long c.args.text.now c.requires.lined.0 in
    omega (arith, long, c.requires.lined.1)

pub overflow_mul-count : goal.overflow_mul-count
overflow_mul-count c =
    let counted : c.number_at-count.result ≡ count_on (lines_on c.args.text.now) = c.number_at-count.ensures _ (field_at c.args.text.now c.requires.lined.0 42 0 2 refl (omega (arith, c.requires.lined.1)) (omega arith)) in
    let few : c.number_at-count.result ≤ c.args.size.k = omega (arith, counted, c.requires.lined.2) in
    omega (arith, few, c.requires.within.0.coefficients)

pub overflow_add-count : goal.overflow_add-count
overflow_add-count c =
    let counted : c.number_at-count.result ≡ count_on (lines_on c.args.text.now) = c.number_at-count.ensures _ (field_at c.args.text.now c.requires.lined.0 42 0 2 refl (omega (arith, c.requires.lined.1)) (omega arith)) in
    let few : c.number_at-count.result ≤ c.args.size.k = omega (arith, counted, c.requires.lined.2) in
    omega (arith, few, c.requires.within.0.coefficients)

pub text_from-rows_text-requires : goal.text_from-rows_text-requires
text_from-rows_text-requires c =
    let long : length c.args.text.now ≡ length (lines_on c.args.text.now) * 64 = lines_long c.args.text.now c.requires.lined.0 in
    let counted : c.number_at-count.result ≡ count_on (lines_on c.args.text.now) = c.number_at-count.ensures _ (field_at c.args.text.now c.requires.lined.0 42 0 2 refl (omega (arith, c.requires.lined.1)) (omega arith)) in
    omega (arith, counted, long, c.requires.lined.1)

pub slice_bounds-read_lines-end : goal.slice_bounds-read_lines-end
slice_bounds-read_lines-end c =
    let head_in : Filled (length c.args.e.now) 5 c.read_head.new.e (put_mid 0 5 c.args.e.now c.read_head.new.e) = more (begun c.args.e.now) 5 c.read_head.new.e (omega arith) (omega (arith, c.requires.within.1)) c.read_head.auto.e in
    let counted : c.number_at-count.result ≡ count_on (lines_on c.args.text.now) = c.number_at-count.ensures _ (field_at c.args.text.now c.requires.lined.0 42 0 2 refl (omega (arith, c.requires.lined.1)) (omega arith)) in
    let few : c.number_at-count.result ≤ c.args.size.k = omega (arith, counted, c.requires.lined.2) in
    let unused-within : 5 + 3 * c.number_at-count.result ≤ length c.args.e.now = omega (arith, few, c.requires.within.1) in
    omega (arith, head_in.long, unused-within)

pub read_lines-requires : goal.read_lines-requires
read_lines-requires c =
    let counted : c.number_at-count.result ≡ count_on (lines_on c.args.text.now) = c.number_at-count.ensures _ (field_at c.args.text.now c.requires.lined.0 42 0 2 refl (omega (arith, c.requires.lined.1)) (omega arith)) in
    let head_in : Filled (length c.args.e.now) 5 c.read_head.new.e (put_mid 0 5 c.args.e.now c.read_head.new.e) = more (begun c.args.e.now) 5 c.read_head.new.e (omega arith) (omega (arith, c.requires.within.1)) c.read_head.auto.e in
    let few : c.number_at-count.result ≤ c.args.size.k = omega (arith, counted, c.requires.lined.2) in
    let unused-within : 5 + 3 * c.number_at-count.result ≤ length c.args.e.now = omega (arith, few, c.requires.within.1) in
    let w = put_mid 0 5 c.args.e.now c.read_head.new.e in (
      coefs-lined c.args.text.now c.text_from-coefs_text.result.now c.text_from-rows_text.result.now c.number_at-count.result c.requires.lined.0 (omega (arith, c.requires.lined.1)) counted c.text_from-coefs_text.ensures c.text_from-rows_text.ensures,
      omega (arith, ap length (coefs-lines c.args.text.now c.text_from-coefs_text.result.now c.text_from-rows_text.result.now c.number_at-count.result c.requires.lined.0 (omega (arith, c.requires.lined.1)) counted c.text_from-coefs_text.ensures c.text_from-rows_text.ensures), length-drop 1 (lines_on c.args.text.now), counted, c.requires.lined.1),
      mid_len 5 (5 + 3 * c.number_at-count.result) w (omega (arith, head_in.long, unused-within)) ∙ (omega arith),
    )

pub slice_bounds-clear-count : goal.slice_bounds-clear-count
slice_bounds-clear-count c =
    let counted : c.number_at-count.result ≡ count_on (lines_on c.args.text.now) = c.number_at-count.ensures _ (field_at c.args.text.now c.requires.lined.0 42 0 2 refl (omega (arith, c.requires.lined.1)) (omega arith)) in
    let few : c.number_at-count.result ≤ c.args.size.k = omega (arith, counted, c.requires.lined.2) in
    omega (arith, few)

pub slice_bounds-clear-start : goal.slice_bounds-clear-start
slice_bounds-clear-start c =
    let counted : c.number_at-count.result ≡ count_on (lines_on c.args.text.now) = c.number_at-count.ensures _ (field_at c.args.text.now c.requires.lined.0 42 0 2 refl (omega (arith, c.requires.lined.1)) (omega arith)) in
    let few : c.number_at-count.result ≤ c.args.size.k = omega (arith, counted, c.requires.lined.2) in
    omega (arith, few)

pub read_lines-requires-2 : goal.read_lines-requires-2
read_lines-requires-2 c =
    let counted : c.number_at-count.result ≡ count_on (lines_on c.args.text.now) = c.number_at-count.ensures _ (field_at c.args.text.now c.requires.lined.0 42 0 2 refl (omega (arith, c.requires.lined.1)) (omega arith)) in
    let few : c.number_at-count.result ≤ c.args.size.k = omega (arith, counted, c.requires.lined.2) in
    let rows-within : 5 + 3 * c.args.size.k ≤ length c.args.e.now = omega (arith, c.requires.within.1) in
    let head_in : Filled (length c.args.e.now) 5 c.read_head.new.e (put_mid 0 5 c.args.e.now c.read_head.new.e) = more (begun c.args.e.now) 5 c.read_head.new.e (omega arith) (omega (arith, c.requires.within.1)) c.read_head.auto.e in
    let unused-within : 5 + 3 * c.number_at-count.result ≤ length c.args.e.now = omega (arith, few, c.requires.within.1) in
    let coefs-in : Filled (length c.args.e.now) (5 + 3 * c.number_at-count.result) (c.read_head.new.e ++ c.read_lines.new.out) (let u = 5 + 3 * c.number_at-count.result in
    put_mid 5 (u - 5) (put_mid 0 5 c.args.e.now c.read_head.new.e) c.read_lines.new.out) = more head_in (5 + 3 * c.number_at-count.result) c.read_lines.new.out (omega arith) unused-within c.read_lines.auto.out in
    let zeros-in : Filled (length c.args.e.now) (5 + 3 * c.args.size.k) ((c.read_head.new.e ++ c.read_lines.new.out) ++ c.clear.new.part) (
    let u = 5 + 3 * c.number_at-count.result in
    put_mid u (5 + 3 * c.args.size.k - u) (let u = 5 + 3 * c.number_at-count.result in
    put_mid 5 (u - 5) (put_mid 0 5 c.args.e.now c.read_head.new.e) c.read_lines.new.out) c.clear.new.part) = more coefs-in (5 + 3 * c.args.size.k) c.clear.new.part (omega (arith, few)) rows-within c.clear.auto.part in
    let ls = (lines_on c.args.text.now) in (
      rows-lined c.args.text.now c.text_from-coefs_text.result.now c.text_from-rows_text.result.now c.number_at-count.result c.requires.lined.0 (omega (arith, c.requires.lined.1)) counted c.text_from-coefs_text.ensures c.text_from-rows_text.ensures,
      omega (arith, ap length (rows-lines c.args.text.now c.text_from-coefs_text.result.now c.text_from-rows_text.result.now c.number_at-count.result c.requires.lined.0 (omega (arith, c.requires.lined.1)) counted c.text_from-coefs_text.ensures c.text_from-rows_text.ensures), length-drop (count_on ls) (drop 1 ls), length-drop 1 ls, c.requires.lined.1),
      mid_len (5 + 3 * c.args.size.k) (length (
          let u = 5 + 3 * c.number_at-count.result in
          put_mid u (5 + 3 * c.args.size.k - u) (let u = 5 + 3 * c.number_at-count.result in
          put_mid 5 (u - 5) (put_mid 0 5 c.args.e.now c.read_head.new.e) c.read_lines.new.out) c.clear.new.part)) (
          let u = 5 + 3 * c.number_at-count.result in
          put_mid u (5 + 3 * c.args.size.k - u) (let u = 5 + 3 * c.number_at-count.result in
          put_mid 5 (u - 5) (put_mid 0 5 c.args.e.now c.read_head.new.e) c.read_lines.new.out) c.clear.new.part) (omega arith) ∙ (omega (arith, zeros-in.long, c.requires.within.1)),
    )

pub returns : goal.returns
returns c =
    let counted : c.number_at-count.result ≡ count_on (lines_on c.args.text.now) = c.number_at-count.ensures _ (field_at c.args.text.now c.requires.lined.0 42 0 2 refl (omega (arith, c.requires.lined.1)) (omega arith)) in
    let rows-within : 5 + 3 * c.args.size.k ≤ length c.args.e.now = omega (arith, c.requires.within.1) in
    let head_in : Filled (length c.args.e.now) 5 c.read_head.new.e (put_mid 0 5 c.args.e.now c.read_head.new.e) = more (begun c.args.e.now) 5 c.read_head.new.e (omega arith) (omega (arith, c.requires.within.1)) c.read_head.auto.e in
    let few : c.number_at-count.result ≤ c.args.size.k = omega (arith, counted, c.requires.lined.2) in
    let unused-within : 5 + 3 * c.number_at-count.result ≤ length c.args.e.now = omega (arith, few, c.requires.within.1) in
    let coefs-in : Filled (length c.args.e.now) (5 + 3 * c.number_at-count.result) (c.read_head.new.e ++ c.read_lines.new.out) (let u = 5 + 3 * c.number_at-count.result in
    put_mid 5 (u - 5) (put_mid 0 5 c.args.e.now c.read_head.new.e) c.read_lines.new.out) = more head_in (5 + 3 * c.number_at-count.result) c.read_lines.new.out (omega arith) unused-within c.read_lines.auto.out in
    let zeros-in : Filled (length c.args.e.now) (5 + 3 * c.args.size.k) ((c.read_head.new.e ++ c.read_lines.new.out) ++ c.clear.new.part) (
    let u = 5 + 3 * c.number_at-count.result in
    put_mid u (5 + 3 * c.args.size.k - u) (let u = 5 + 3 * c.number_at-count.result in
    put_mid 5 (u - 5) (put_mid 0 5 c.args.e.now c.read_head.new.e) c.read_lines.new.out) c.clear.new.part) = more coefs-in (5 + 3 * c.args.size.k) c.clear.new.part (omega (arith, few)) rows-within c.clear.auto.part in
    let rows_in : let r = 5 + 3 * c.args.size.k in Filled (length c.args.e.now) (length (
    let u = 5 + 3 * c.number_at-count.result in
    put_mid u (5 + 3 * c.args.size.k - u) (let u = 5 + 3 * c.number_at-count.result in
    put_mid 5 (u - 5) (put_mid 0 5 c.args.e.now c.read_head.new.e) c.read_lines.new.out) c.clear.new.part)) (((c.read_head.new.e ++ c.read_lines.new.out) ++ c.clear.new.part) ++ c.read_lines-2.new.out) (put_mid r (length (
    let u = 5 + 3 * c.number_at-count.result in
    put_mid u (5 + 3 * c.args.size.k - u) (let u = 5 + 3 * c.number_at-count.result in
    put_mid 5 (u - 5) (put_mid 0 5 c.args.e.now c.read_head.new.e) c.read_lines.new.out) c.clear.new.part) - r) (
    let u = 5 + 3 * c.number_at-count.result in
    put_mid u (5 + 3 * c.args.size.k - u) (let u = 5 + 3 * c.number_at-count.result in
    put_mid 5 (u - 5) (put_mid 0 5 c.args.e.now c.read_head.new.e) c.read_lines.new.out) c.clear.new.part) c.read_lines-2.new.out) = let f = zeros-in.long in
    more zeros-in (length (
    let u = 5 + 3 * c.number_at-count.result in
    put_mid u (5 + 3 * c.args.size.k - u) (let u = 5 + 3 * c.number_at-count.result in
    put_mid 5 (u - 5) (put_mid 0 5 c.args.e.now c.read_head.new.e) c.read_lines.new.out) c.clear.new.part)) c.read_lines-2.new.out (omega (arith, rows-within)) (omega arith) c.read_lines-2.auto.out in
    let s = c.args.size in
    let u = 5 + 3 * c.number_at-count.result in
    let cleared : length (mid_of u (5 + 3 * s.k - u) (let u = 5 + 3 * c.number_at-count.result in
    put_mid 5 (u - 5) (put_mid 0 5 c.args.e.now c.read_head.new.e) c.read_lines.new.out)) ≡ 3 * (s.k - count_on (lines_on c.args.text.now)) =
    mid_len u (5 + 3 * s.k) (let u = 5 + 3 * c.number_at-count.result in
    put_mid 5 (u - 5) (put_mid 0 5 c.args.e.now c.read_head.new.e) c.read_lines.new.out) (omega (arith, coefs-in.long, rows-within)) ∙ (omega (arith, counted)) in
    whole rows_in (omega (arith, zeros-in.long))
    ∙ entry-written s (lines_on c.args.text.now) c.read_head.new.e c.read_lines.new.out c.clear.new.part c.read_lines-2.new.out
    c.read_head.ensures
    (c.read_lines.ensures ∙ ap₂ (λ (k : ℕ) (x : List (List ℕ)). joined (take k x)) counted (coefs-lines c.args.text.now c.text_from-coefs_text.result.now c.text_from-rows_text.result.now c.number_at-count.result c.requires.lined.0 (omega (arith, c.requires.lined.1)) counted c.text_from-coefs_text.ensures c.text_from-rows_text.ensures))
    (c.clear.ensures ∙ ap (λ (k : ℕ). replicate k 0) cleared)
    (c.read_lines-2.ensures ∙ ap (λ (x : List (List ℕ)). joined (take (2 * s.n) x)) (rows-lines c.args.text.now c.text_from-coefs_text.result.now c.text_from-rows_text.result.now c.number_at-count.result c.requires.lined.0 (omega (arith, c.requires.lined.1)) counted c.text_from-coefs_text.ensures c.text_from-rows_text.ensures))
