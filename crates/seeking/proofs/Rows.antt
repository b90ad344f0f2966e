-- The changed parent's loss word, coefficients and rows, by the parent's words; and an entry beside it, some rows at a time. Assumes nothing.
use mathlib.Core.Path.{◌≡◌, refl, sym, ap, ap₂, ◌∙◌}
use mathlib.Core.List.{List}
use mathlib.Core.Logic.{◌⊎◌, inl, inr}
use Prim.Native.Nat.{ℕ, zero, suc, min, ◌+◌, ◌*◌, ◌-◌, ◌/◌, ◌%◌, ◌≤◌, ◌<◌}
use mathlib.Core.Bool.{Bool, true, false, ◌&&◌}
use native.Mathlib.Nat.{add-zero, add-suc}
use native.Mathlib.Omega.{arith}
use lib.Dec.{eqb}
use lib.Ieee.{Float}
use lib.ListN.{length, take, get_or, drop, length-drop}
use lib.Seq.{length-take-le, get_or-take, get_or-drop}
use borrow.Author.Tests.{eq-eqb}
use Rattle.model.specs.Lists.{all_below}
use Rattle.model.specs.Entries.{Body, Row, row_at, x_at, z_at, phase_at, row_words, map_rows, head_len, coefs_len, rows_len, entry_len, entry_of, body_in}
use Rattle.model.specs.Changes.{flips_by, flipped_row, changed_body}
use Rattle.model.specs.Keys.{usual_salts}
use Rattle.model.specs.Likeness.{square, near_at, same_rows, alike}
use Rattle.model.specs.declared.BranchMutation.{BranchMutation}
use Rattle.model.specs.declared.Size.{Size}
use Rattle.model.proofs.Lists.{and-false, and-true}
use Rattle.model.proofs.Rows.{words_below-at}
use Rattle.likeness.proofs.Alike.{same_at}
use Rattle.changes.specs.Changes.{flip_bits, low_rows, change_of}
use Rattle.changes.specs.declared.Change.{Change}
use Rattle.changes.proofs.Packed.{packed-ext, packed-shift}
use Rattle.branch.specs.Flips.{flipped_rows, loss_after}
use Rattle.branch.specs.Same.{same_word}
use Rattle.branch.proofs.Slot.{rows-after}
use Rattle.seeking.specs.Parts.{flips_from}

-- what is compared with an entry
abbrev pub changed : Size → BranchMutation → List ℕ → Body
changed s m p = changed_body s.n m (body_in s p)

module _ (s : Size) (m : BranchMutation) (p : List ℕ) (l : length p ≡ entry_len s) where
  changed-is : changed s m p ≡ record { loss = loss_after m (get_or p 1 0); count = get_or p 4 0; coefs = (body_in s p).coefs; rows = map_rows s.n (flipped_row m) (body_in s p).rows }
  unfolding entry_of
  changed-is =
      rows-after s.n m (get_or p 1 0) (get_or p 4 0) (body_in s p).coefs (drop (head_len + coefs_len s) p) (length-drop (head_len + coefs_len s) p ∙ (omega arith))

  pub loss-is : (changed s m p).loss ≡ loss_after m (get_or p 1 0)
  loss-is = ap (λ (b : Body). b.loss) changed-is

  pub count-is : (changed s m p).count ≡ get_or p 4 0
  count-is = ap (λ (b : Body). b.count) changed-is

  pub coefs-is : (changed s m p).coefs ≡ (body_in s p).coefs
  coefs-is = ap (λ (b : Body). b.coefs) changed-is

  pub rows_are : (changed s m p).rows ≡ map_rows s.n (flipped_row m) (body_in s p).rows
  rows_are = ap (λ (b : Body). b.rows) changed-is

-- ---- an entry e beside the changed parent p, some rows at a time

-- a test of a + b words, in two parts
and_assoc : (a b c : Bool) → (a && b && c) ≡ (a && (b && c))
and_assoc true b c = refl
and_assoc false b c = refl

all_split : (f : ℕ → Bool) (a b : ℕ) → all_below f (a + b) ≡ (all_below f a && all_below (λ k. f (a + k)) b)
unfolding all_below
all_split f a zero = ap (all_below f) (add-zero a) ∙ sym (and-true (all_below f a))
all_split f a (suc b) =
    ap (all_below f) (add-suc a b) ∙ ap (λ (t : Bool). t && f (a + b)) (all_split f a b)
    ∙ and_assoc (all_below f a) (all_below (λ k. f (a + k)) b) (f (a + b))

all_alike : (f g : ℕ → Bool) (m : ℕ) → ((k : ℕ) → k < m → f k ≡ g k) → all_below f m ≡ all_below g m
unfolding all_below
all_alike f g zero h = refl
all_alike f g (suc m) h = ap₂ (λ (x y : Bool). x && y) (all_alike f g m (λ k l. h k (omega arith))) (h m (omega arith))

-- a difference in the first j words of the rows
unlike-part : (s : Size) (a b : Body) (j : ℕ) → j ≤ rows_len s → all_below (same_at a.rows b.rows) j ≡ false → same_rows s a b ≡ false
unfolding same_rows
unlike-part s a b j l h =
    let d : rows_len s ≡ j + (rows_len s - j) = omega arith in
    let f = same_at a.rows b.rows in
    ap (all_below f) d ∙ all_split f j (rows_len s - j) ∙ ap (λ (t : Bool). t && all_below (λ k. f (j + k)) (rows_len s - j)) h

-- `many` rows from row r on, as they are lent
abbrev pub lent_rows : Size → (r many : ℕ) → List ℕ → List ℕ
lent_rows s r many w = take (head_len + coefs_len s + 3 * r + 3 * many - (head_len + coefs_len s + 3 * r)) (drop (head_len + coefs_len s + 3 * r) w)

module _ (s : Size) (r many : ℕ) where
  abbrev at : ℕ
  at = head_len + coefs_len s + 3 * r

  pub lent_length : (w : List ℕ) → length w ≡ entry_len s → r + many ≤ 2 * s.n → length (lent_rows s r many w) ≡ 3 * many
  lent_length w h b =
      let f : at + 3 * many - at ≡ 3 * many = omega arith in
      length-take-le (at + 3 * many - at) (drop at w) (omega (arith, length-drop at w)) ∙ f

  -- a word of these is a word of all
  lent-word : (w : List ℕ) (k : ℕ) → k < 3 * many → get_or (lent_rows s r many w) k 0 ≡ get_or (drop (head_len + coefs_len s) w) (3 * r + k) 0
  lent-word w k h =
      let f : head_len + coefs_len s + (3 * r + k) ≡ at + k = omega arith in
      get_or-take (at + 3 * many - at) (drop at w) k 0 (omega arith) ∙ get_or-drop at w k 0
      ∙ sym (get_or-drop (head_len + coefs_len s) w (3 * r + k) 0 ∙ ap (λ (i : ℕ). get_or w i 0) f)

module _ (s : Size) (m : BranchMutation) (p e : List ℕ) (l : length p ≡ entry_len s) (r many : ℕ) where
  lent_row : (i : ℕ) → i < many → row_at (lent_rows s r many p) i ≡ row_at (body_in s p).rows (r + i)
  unfolding entry_of
  lent_row i h =
      let rows = drop (head_len + coefs_len s) p in
      let x : 3 * r + 3 * i ≡ 3 * (r + i) = omega arith in
      let z : 3 * r + (3 * i + 1) ≡ 3 * (r + i) + 1 = omega arith in
      let q : 3 * r + (3 * i + 2) ≡ 3 * (r + i) + 2 = omega arith in
      let phase = lent-word s r many p (3 * i + 2) (omega arith) ∙ ap (λ (j : ℕ). get_or rows j 0) q in
      ap₂ (λ (a b : ℕ). record { x = a; z = b; phase = phase_at (lent_rows s r many p) i })
      (lent-word s r many p (3 * i) (omega arith) ∙ ap (λ (j : ℕ). get_or rows j 0) x) (lent-word s r many p (3 * i + 1) (omega arith) ∙ ap (λ (j : ℕ). get_or rows j 0) z)
      ∙ ap (λ (c : ℕ). record { x = x_at rows (r + i); z = z_at rows (r + i); phase = c }) phase

  -- so their bits are those of all from row r on
  pub lent-bits : flip_bits m (lent_rows s r many p) 0 many ≡ flip_bits m (body_in s p).rows r many
  unfolding flip_bits
  lent-bits =
      packed-ext (λ i. flips_by m (row_at (lent_rows s r many p) i)) (λ i. flips_by m (row_at (body_in s p).rows (r + i))) 0 many (λ i h k. ap (flips_by m) (lent_row i (omega arith)))
      ∙ packed-shift (λ i. flips_by m (row_at (body_in s p).rows i)) r 0 many ∙ ap (λ (i : ℕ). flip_bits m (body_in s p).rows i many) (add-zero r)

  -- and of the flipped ones, of all flipped
  flipped_word : (k : ℕ) → k < 3 * many → r + many ≤ 2 * s.n → get_or (flipped_rows m many (lent_rows s r many p)) k 0 ≡ get_or (changed s m p).rows (3 * r + k) 0
  unfolding flipped_rows map_rows
  flipped_word k h b =
      let i = k / 3 in
      let j = k % 3 in
      let d : k ≡ 3 * (k / 3) + k % 3 = omega arith in
      let g : 3 * (r + k / 3) + k % 3 ≡ 3 * r + k = omega arith in
      let rows = (body_in s p).rows in
      ap (λ (x : ℕ). get_or (flipped_rows m many (lent_rows s r many p)) x 0) d
      ∙ words_below-at 3 (λ (x : ℕ). row_words (flipped_row m (row_at (lent_rows s r many p) x))) (λ x. refl) many i j (omega arith) (omega arith)
      ∙ ap (λ (x : Row). get_or (row_words (flipped_row m x)) j 0) (lent_row i (omega arith))
      ∙ sym (words_below-at 3 (λ (x : ℕ). row_words (flipped_row m (row_at rows x))) (λ x. refl) (2 * s.n) (r + i) j (omega arith) (omega arith))
      ∙ ap₂ (λ (y : List ℕ) (x : ℕ). get_or y x 0) (sym (rows_are s m p l)) g

  abbrev tests : ℕ → Bool
  tests k = same_at (drop (head_len + coefs_len s) e) (changed s m p).rows k

  module _ (b : r + many ≤ 2 * s.n) {ans : Bool} (h : ans ≡ all_below (same_word (lent_rows s r many e) (flipped_rows m many (lent_rows s r many p))) (3 * many)) where
    part-tested : all_below tests (3 * (r + many)) ≡ (all_below tests (3 * r) && ans)
    part-tested =
        let d : 3 * (r + many) ≡ 3 * r + 3 * many = omega arith in
        ap (all_below tests) d ∙ all_split tests (3 * r) (3 * many)
        ∙ ap (λ (t : Bool). all_below tests (3 * r) && t)
        (sym (h ∙ all_alike _ _ (3 * many) (λ k c. ap₂ eqb (lent-word s r many e k c) (flipped_word k c b))))

    -- the rows so far are the same, and so are these
    pub part_same : all_below tests (3 * r) ≡ true → ans ≡ true → all_below tests (3 * (r + many)) ≡ true
    part_same f g = part-tested ∙ ap₂ (λ (x y : Bool). x && y) f g

    -- these are not: nor are all
    pub part-differs : ans ≡ false → same_rows s (body_in s e) (changed s m p) ≡ false
    unfolding entry_of
    part-differs g =
        let none : all_below tests (3 * (r + many)) ≡ false = part-tested ∙ ap (λ (t : Bool). all_below tests (3 * r) && t) g ∙ and-false (all_below tests (3 * r)) in
        unlike-part s (body_in s e) (changed s m p) (3 * (r + many)) (omega arith) none

  -- all of them are the same
  pub rows_all : r ≡ 2 * s.n → all_below tests (3 * r) ≡ true → same_rows s (body_in s e) (changed s m p) ≡ true
  unfolding entry_of same_rows
  rows_all h f = let d : rows_len s ≡ 3 * r = omega arith in ap (all_below tests) d ∙ f

-- ---- the two parts

-- where a part begins, and where all end
abbrev pub PartAt : (n r : ℕ) → Type 0
PartAt n r = (r ≡ 0) ⊎ ((r ≡ low_rows n) ⊎ (r ≡ 2 * n))

module _ (n : ℕ) (few : n ≤ 64) (r many : ℕ) (l : r < 2 * n) (k : many ≡ min (2 * n - r) 64) where
  pub next-part : PartAt n r → PartAt n (r + many)
  unfolding low_rows
  next-part (inl e) = inr (inl (omega arith))
  next-part (inr (inl e)) = inr (inr (omega arith))
  next-part (inr (inr e)) = absurd (omega arith)

  pub part-flips : (m : BranchMutation) (rows : List ℕ) (c : Change) → c ≡ change_of usual_salts n m rows → PartAt n r → flips_from c r ≡ flip_bits m rows r many
  unfolding flips_from low_rows change_of
  part-flips m rows c f (inl e) =
      let d : low_rows n ≡ many = omega arith in
      ap (flips_from c) e ∙ ap (λ (x : Change). x.low) f ∙ ap₂ (λ (i j : ℕ). flip_bits m rows i j) (sym e) d
  part-flips m rows c f (inr (inl e)) =
      let d : 2 * n - low_rows n ≡ many = omega arith in
      let p : r ≡ suc 63 = omega arith in
      ap (flips_from c) p ∙ ap (λ (x : Change). x.high) f ∙ ap₂ (λ (i j : ℕ). flip_bits m rows i j) (sym e) d
  part-flips m rows c f (inr (inr e)) = absurd (omega arith)

-- the coefficients of an entry as they are lent
pub coefs-length : (s : Size) (w : List ℕ) → length w ≡ entry_len s → length (take (head_len + coefs_len s - head_len) (drop head_len w)) ≡ coefs_len s
coefs-length s w h =
    let e : head_len + coefs_len s - head_len ≡ coefs_len s = omega arith in
    length-take-le (head_len + coefs_len s - head_len) (drop head_len w) (omega (arith, length-drop head_len w)) ∙ e

-- ---- all that is compared

-- coefficients are near by the other's coefficients and their number alone
near-by-parts : (limit : Float) (a b c : Body) (j : ℕ) → b.coefs ≡ c.coefs → b.count ≡ c.count → near_at limit a b j ≡ near_at limit a c j
unfolding near_at
near-by-parts limit a b c j f g = rw (f, g)

-- a and b have the same loss and as many coefficients
module _ (s : Size) (threshold : Float) (a b : Body) (l : a.loss ≡ b.loss) (n : a.count ≡ b.count) where
  pub unlike-rows : same_rows s a b ≡ false → alike s threshold a b ≡ false
  unfolding alike
  unlike-rows h = rw (alike, h) (simp and-false)

  -- rows that are the same leave the coefficients; c has those of b
  pub alike-rows : (c : Body) → b.coefs ≡ c.coefs → b.count ≡ c.count → same_rows s a b ≡ true → alike s threshold a b ≡ all_below (near_at (square threshold) a c) a.count
  unfolding alike
  alike-rows c f g h =
      rw (alike, eq-eqb a.loss b.loss l, eq-eqb a.count b.count n, h)
      (all_alike (near_at (square threshold) a b) (near_at (square threshold) a c) a.count (λ j k. near-by-parts (square threshold) a b c j f g))
