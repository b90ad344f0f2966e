-- Entries that were written, read again: from the lines of sound entries the same entries are read. Assumes nothing.
use mathlib.Core.Path.{◌≡◌, refl, sym, ap, ap₂, ◌∙◌}
use mathlib.Core.Bool.{Bool, true, cond, ◌&&◌}
use mathlib.Core.List.{List, [], ◌∷◌, ◌++◌, append_assoc, append-nil, map}
use mathlib.Core.Option.{Option, none, some}
use Prim.Native.Nat.{ℕ, zero, suc, ◌+◌, ◌*◌, ◌-◌, ◌<◌, ◌≤◌}
use native.Mathlib.Omega.{arith}
use lib.Dec.{eqb, leb}
use lib.ListN.{length, take, drop, get_or, replicate, length-append, length-drop, take-append-drop, drop_of_length-le}
use lib.Seq.{take_at, drop_at, get_or-drop, length-take-le}
use borrow.Author.Tests.{le-leb, le-ltb, eqb-true, leb-true}
use Rattle.model.specs.Lists.{is_empty, every, groups, joined}
use Rattle.model.specs.Entries.{Entry, coefs_len, rows_len, bare_words, index_at, re_at, im_at}
use Rattle.model.specs.Sheet.{entry_lines, also, read_entry, read_entries}
use Rattle.model.specs.Numbers.{weight_sound, body_sound, fits_in, coef_sound, coefs_sound, rows_sound}
use Rattle.model.specs.declared.Size.{Size}
use Rattle.model.proofs.Lists.{and_both, all-at, length-groups}
use Rattle.model.proofs.Groups.{words_are}
use Rattle.checks.specs.Sound.{entry_sound}
use Rattle.fields.proofs.Lines.{is_word, numbers, numbers-are}

-- what an entry must be besides sound: as many words as the size says, each below 2^64
unfoldable pub fitting : Size → Entry → Bool
fitting s e = eqb (length e.body.coefs) (coefs_len s) && eqb (length e.body.rows) (rows_len s) && every is_word (bare_words e)

-- places of three words, all 0
all-unused : (m : ℕ) (w : List ℕ) → length w ≡ 3 * m → ((j : ℕ) → j < m → (index_at w j ≡ 0) × (re_at w j ≡ 0) × (im_at w j ≡ 0)) → w ≡ replicate (3 * m) 0
all-unused zero [] l h = refl
all-unused zero (a ∷ w) l h = absurd (omega arith)
all-unused (suc m) [] l h = absurd (omega arith)
all-unused (suc m) (a ∷ []) l h = absurd (omega arith)
all-unused (suc m) (a ∷ b ∷ []) l h = absurd (omega arith)
all-unused (suc m) (a ∷ b ∷ c ∷ w) l h =
    let z = h 0 (omega arith) in
    let n : 3 * suc m ≡ suc (suc (suc (3 * m))) = omega arith in
    ap₂ (λ (x : ℕ) (y : List ℕ). x ∷ y) z.0 (ap₂ (λ (x : ℕ) (y : List ℕ). x ∷ y) z.1 (ap₂ (λ (x : ℕ) (y : List ℕ). x ∷ y) z.2 (all-unused m w (omega arith) (λ j k. later j (h (suc j) (omega arith))))))
    ∙ ap (λ (k : ℕ). replicate k 0) (sym n)
  where
    later : (j : ℕ) → (index_at (a ∷ b ∷ c ∷ w) (suc j) ≡ 0) × (re_at (a ∷ b ∷ c ∷ w) (suc j) ≡ 0) × (im_at (a ∷ b ∷ c ∷ w) (suc j) ≡ 0) → (index_at w j ≡ 0) × (re_at w j ≡ 0) × (im_at w j ≡ 0)
    later j q =
        let e₀ : 3 * suc j ≡ suc (suc (suc (3 * j))) = omega arith in
        let e₁ : 3 * suc j + 1 ≡ suc (suc (suc (3 * j + 1))) = omega arith in
        let e₂ : 3 * suc j + 2 ≡ suc (suc (suc (3 * j + 2))) = omega arith in (
          sym (ap (λ (k : ℕ). get_or (a ∷ b ∷ c ∷ w) k 0) e₀) ∙ q.0,
          sym (ap (λ (k : ℕ). get_or (a ∷ b ∷ c ∷ w) k 0) e₁) ∙ q.1,
          sym (ap (λ (k : ℕ). get_or (a ∷ b ∷ c ∷ w) k 0) e₂) ∙ q.2,
        )

-- a place past the count is 0
unused-zero : (count : ℕ) (coefs : List ℕ) (j : ℕ) → count ≤ j → coef_sound count coefs j ≡ true → (index_at coefs j ≡ 0) × (re_at coefs j ≡ 0) × (im_at coefs j ≡ 0)
unfolding coef_sound
unused-zero count coefs j h e =
    let f : (eqb (index_at coefs j) 0 && eqb (re_at coefs j) 0 && eqb (im_at coefs j) 0) ≡ true = rw (le-ltb j count h) at e in
    let b = and_both (eqb (index_at coefs j) 0 && eqb (re_at coefs j) 0) (eqb (im_at coefs j) 0) f in
    let d = and_both (eqb (index_at coefs j) 0) (eqb (re_at coefs j) 0) b.0 in
    (eqb-true _ _ d.0, eqb-true _ _ d.1, eqb-true _ _ b.1)

-- the coefficients counted, and 0 in the unused places, are the coefficients
coefs-back : (k count : ℕ) (coefs : List ℕ) → length coefs ≡ 3 * k → count ≤ k → coefs_sound k count coefs ≡ true
    → joined (groups 3 count coefs) ++ replicate (3 * (k - count)) 0 ≡ coefs
unfolding coefs_sound
coefs-back k count coefs l h e =
    let tail : List ℕ = drop (count * 3) coefs in
    ap (λ (w : List ℕ). joined (groups 3 count coefs) ++ w)
    (sym (all-unused (k - count) tail (length-drop (count * 3) coefs ∙ (omega arith)) (λ j p. there j (unused-zero count coefs (count + j) (omega arith) (all-at (coef_sound count coefs) k (count + j) e (omega arith))))))
    ∙ words_are 3 count coefs
  where
    at : (i j : ℕ) → i ≡ count * 3 + j → get_or coefs i 0 ≡ 0 → get_or (drop (count * 3) coefs) j 0 ≡ 0
    at i j p q = get_or-drop (count * 3) coefs j 0 ∙ ap (λ (m : ℕ). get_or coefs m 0) (sym p) ∙ q

    there : (j : ℕ) → (index_at coefs (count + j) ≡ 0) × (re_at coefs (count + j) ≡ 0) × (im_at coefs (count + j) ≡ 0)
        → (index_at (drop (count * 3) coefs) j ≡ 0) × (re_at (drop (count * 3) coefs) j ≡ 0) × (im_at (drop (count * 3) coefs) j ≡ 0)
    there j q = (at (3 * (count + j)) (3 * j) (omega arith) q.0, at (3 * (count + j) + 1) (3 * j + 1) (omega arith) q.1, at (3 * (count + j) + 2) (3 * j + 2) (omega arith) q.2)

-- ---- a test of every element, by parts

module _ {X : Type 0} (p : X → Bool) where
  every-joined : (a b : List X) → every p a ≡ true → every p b ≡ true → every p (a ++ b) ≡ true
  unfolding every
  every-joined [] b e f = f
  every-joined (x ∷ a) b e f = let q = and_both (p x) (every p a) e in ap₂ (λ (s t : Bool). s && t) q.0 (every-joined a b q.1 f)

  every-parts : (a b : List X) → every p (a ++ b) ≡ true → (every p a ≡ true) × (every p b ≡ true)
  unfolding every
  every-parts [] b e = (refl, e)
  every-parts (x ∷ a) b e =
      let q = and_both (p x) (every p (a ++ b)) e in
      let r = every-parts a b q.1 in
      (ap₂ (λ (s t : Bool). s && t) q.0 r.0, r.1)

-- words below 2^64, in groups of three
groups-numbers : (m : ℕ) (w : List ℕ) → 3 * m ≤ length w → every is_word w ≡ true → every (numbers 3) (groups 3 m w) ≡ true
unfolding groups every
groups-numbers zero w h e = refl
groups-numbers (suc m) w h e =
    let q = every-parts is_word (take 3 w) (drop 3 w) (ap (every is_word) (take-append-drop 3 w) ∙ e) in
    ap₂ (λ (s t : Bool). s && t) (numbers-are 3 (take 3 w) (length-take-le 3 w (omega arith)) q.0) (groups-numbers m (drop 3 w) (omega (arith, length-drop 3 w)) q.1)

-- ---- an entry

module _ (s : Size) (e : Entry) (f : fitting s e ≡ true) (k : entry_sound s e ≡ true) where
  abbrev coefs : List ℕ
  coefs = e.body.coefs

  abbrev rows : List ℕ
  rows = e.body.rows

  abbrev counted : List (List ℕ)
  counted = groups 3 e.body.count coefs

  abbrev rowed : List (List ℕ)
  rowed = groups 3 (2 * s.n) rows

  fit : (length coefs ≡ coefs_len s) × (length rows ≡ rows_len s) × (every is_word (bare_words e) ≡ true)
  unfolding fitting
  fit =
      let a = and_both (eqb (length coefs) (coefs_len s) && eqb (length rows) (rows_len s)) (every is_word (bare_words e)) f in
      let b = and_both (eqb (length coefs) (coefs_len s)) (eqb (length rows) (rows_len s)) a.0 in
      (eqb-true _ _ b.0, eqb-true _ _ b.1, a.1)

  sound : (e.body.count ≤ s.k) × (coefs_sound s.k e.body.count coefs ≡ true)
  unfolding entry_sound body_sound
  sound =
      let o = e.body in
      let a = (and_both (weight_sound e.weight) (body_sound s o) k).1 in
      let b = (and_both (fits_in s.n o.loss && leb o.count s.k && coefs_sound s.k o.count coefs) (rows_sound s.n rows) a).0 in
      let c = and_both (fits_in s.n o.loss && leb o.count s.k) (coefs_sound s.k o.count coefs) b in
      (leb-true o.count s.k (and_both (fits_in s.n o.loss) (leb o.count s.k) c.0).1, c.1)

  rows_back : joined rowed ≡ rows
  rows_back =
      sym (append-nil (joined rowed))
      ∙ ap (λ (w : List ℕ). joined rowed ++ w) (sym (drop_of_length-le rows {i = 2 * s.n * 3} (omega (arith, fit.1))))
      ∙ words_are 3 (2 * s.n) rows

  entry-back : read_entry s.k (e.weight ∷ e.body.loss ∷ e.body.count ∷ []) counted rowed ≡ e
  unfolding read_entry
  entry-back =
      ap₂ (λ (a b : List ℕ). record { weight = e.weight; body = record { loss = e.body.loss; count = e.body.count; coefs = a; rows = b } })
      (coefs-back s.k e.body.count coefs fit.0 sound.0 sound.1)
      rows_back

  -- its lines are lines of three numbers
  entry-numbers : every (numbers 3) (entry_lines s.n e) ≡ true
  unfolding every entry_lines bare_words
  entry-numbers =
      let n = fit.2 in
      let a = every-parts is_word (e.weight ∷ e.body.loss ∷ e.body.count ∷ []) (coefs ++ rows) n in
      let b = every-parts is_word coefs rows a.1 in
      ap₂ (λ (x y : Bool). x && y) (numbers-are 3 (e.weight ∷ e.body.loss ∷ e.body.count ∷ []) refl a.0)
      (every-joined (numbers 3) counted rowed (groups-numbers e.body.count coefs (omega (arith, fit.0, sound.0)) b.0) (groups-numbers (2 * s.n) rows (omega (arith, fit.1)) b.1))

-- ---- the entries

first_back : (s : Size) (count : ℕ) (l : List ℕ) (a b r : List (List ℕ)) → length a ≡ get_or l 2 0 → length b ≡ 2 * s.n
    → read_entries s (suc count) (l ∷ ((a ++ b) ++ r)) ≡ also (λ e es. e ∷ es) (some (read_entry s.k l a b)) (read_entries s count r)
unfolding read_entries
first_back s count l a b r p q =
    let c : ℕ = get_or l 2 0 in
    let n : ℕ = 2 * s.n in
    let w : (a ++ b) ++ r ≡ a ++ (b ++ r) = append_assoc a b r in
    let d : drop c ((a ++ b) ++ r) ≡ b ++ r = ap (drop c) w ∙ drop_at a (b ++ r) c p in
    let one : leb c (length ((a ++ b) ++ r)) ≡ true = le-leb c (length ((a ++ b) ++ r)) (omega (arith, ap length w, length-append a (b ++ r), p)) in
    let two : leb n (length (drop c ((a ++ b) ++ r))) ≡ true = le-leb n (length (drop c ((a ++ b) ++ r))) (omega (arith, ap length d, length-append b r, q)) in
    ap₂ (λ (x y : Bool). cond (x && y) (also (λ e es. e ∷ es) (some (read_entry s.k l (take c ((a ++ b) ++ r)) (take n (drop c ((a ++ b) ++ r))))) (read_entries s count (drop n (drop c ((a ++ b) ++ r))))) none) one two
    ∙ ap₂ (λ (x y : List (List ℕ)). also (λ e es. e ∷ es) (some (read_entry s.k l x (take n y))) (read_entries s count (drop n y))) (ap (take c) w ∙ take_at a (b ++ r) c p) d
    ∙ ap₂ (λ (x y : List (List ℕ)). also (λ e es. e ∷ es) (some (read_entry s.k l a x)) (read_entries s count y)) (take_at b r n q) (drop_at b r n q)

abbrev pub lines_of : Size → List Entry → List (List ℕ)
lines_of s es = joined (map (entry_lines s.n) es)

module _ (s : Size) where
  pub entries-back : (es : List Entry) → every (fitting s) es ≡ true → every (entry_sound s) es ≡ true → read_entries s (length es) (lines_of s es) ≡ some es
  unfolding every joined read_entries is_empty entry_lines also
  entries-back [] f k = refl
  entries-back (e ∷ es) f k =
      let a = and_both (fitting s e) (every (fitting s) es) f in
      let b = and_both (entry_sound s e) (every (entry_sound s) es) k in
      first_back s (length es) (e.weight ∷ e.body.loss ∷ e.body.count ∷ []) (groups 3 e.body.count e.body.coefs) (groups 3 (2 * s.n) e.body.rows) (lines_of s es) (length-groups 3 e.body.count e.body.coefs) (length-groups 3 (2 * s.n) e.body.rows)
      ∙ ap₂ (λ (x : Entry) (y : Option (List Entry)). also (λ e es. e ∷ es) (some x) y) (entry-back s e a.0 b.0) (entries-back es a.1 b.1)

  pub entries-numbers : (es : List Entry) → every (fitting s) es ≡ true → every (entry_sound s) es ≡ true → every (numbers 3) (lines_of s es) ≡ true
  unfolding every joined
  entries-numbers [] f k = refl
  entries-numbers (e ∷ es) f k =
      let a = and_both (fitting s e) (every (fitting s) es) f in
      let b = and_both (entry_sound s e) (every (entry_sound s) es) k in
      every-joined (numbers 3) (entry_lines s.n e) (lines_of s es) (entry-numbers s e a.0 b.0) (entries-numbers es a.1 b.1)
