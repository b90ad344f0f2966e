-- A store that holds a list of entries and 0 past them: what a write to one entry, one more entry, and a change of them all leave. Assumes nothing.
use mathlib.Core.Path.{◌≡◌, refl, sym, ap, ap₂, ◌∙◌}
use mathlib.Core.Bool.{true}
use mathlib.Core.List.{List, [], ◌∷◌, ◌++◌, map, map-append}
use Prim.Native.Nat.{ℕ, zero, suc, ◌+◌, ◌*◌, ◌-◌, ◌≤◌, ◌<◌}
use native.Mathlib.Nat.{suc-mul, mul-sub, mul_comm, mul-le-mul_right}
use native.Mathlib.Numerals.{add-one}
use native.Mathlib.Omega.{arith}
use lib.Dec.{eqb}
use lib.ListN.{length, take, drop, set, replicate, length-drop, length-append, length-set, take-append-drop}
use lib.Seq.{drop-drop, drop-set-lt, set_at, take_at, drop_at, length-take-le}
use borrow.Author.Tests.{eqb-true}
use Rattle.model.specs.Lists.{groups, joined, every}
use Rattle.model.specs.Entries.{Body, Keyed, head_len, coefs_len, rows_len, entry_len, words_of, entry_of, stretch, listed, past_count, pack, with_stretch}
use Rattle.model.specs.Numbers.{first_of, all_zero}
use Rattle.model.specs.Calls.{Lent, shape, zeros_past}
use Rattle.model.specs.Sound.{Packed}
use Rattle.model.specs.declared.Size.{Size}
use Rattle.model.proofs.Lists.{and_both, length-groups, group_at}
use Rattle.model.proofs.Groups.{stride-lt, groups-set, groups-add, words_are, lent-groups, lent_length, lent-rest}
use Rattle.model.proofs.Entries.{length-listed}
use Rattle.model.proofs.Shape.{shaped}

-- ---- an entry's words and back

-- the words of the entry that a stretch holds are the stretch
pub words-entry : (s : Size) (e : List ℕ) → length e ≡ entry_len s → words_of (entry_of s e) ≡ e
unfolding words_of entry_of
words-entry s [] l = absurd (omega arith)
words-entry s (a ∷ []) l = absurd (omega arith)
words-entry s (a ∷ b ∷ []) l = absurd (omega arith)
words-entry s (a ∷ b ∷ c ∷ []) l = absurd (omega arith)
words-entry s (a ∷ b ∷ c ∷ d ∷ []) l = absurd (omega arith)
words-entry s (a ∷ b ∷ c ∷ d ∷ f ∷ r) l =
    ap (λ (t : List ℕ). a ∷ b ∷ c ∷ d ∷ f ∷ t)
    (ap (λ (t : List ℕ). take (coefs_len s) r ++ t) (sym (drop-drop (coefs_len s) head_len (a ∷ b ∷ c ∷ d ∷ f ∷ r))) ∙ take-append-drop (coefs_len s) r)

-- a body with as many words as the size says, and an entry with such a body
pub record FullBody (s : Size) (b : Body) : Type 0 where
  pub coefs : length b.coefs ≡ coefs_len s
  pub rows : length b.rows ≡ rows_len s

abbrev pub Fits : Size → Keyed → Type 0
Fits s e = FullBody s e.entry.body

pub entry-words : (s : Size) (e : Keyed) → Fits s e → entry_of s (words_of e) ≡ e
unfolding words_of entry_of
entry-words s e f =
    let cs = e.entry.body.coefs in
    let rs = e.entry.body.rows in
    let w : List ℕ = e.entry.weight ∷ e.entry.body.loss ∷ e.word_key ∷ e.phase_loss_key ∷ e.entry.body.count ∷ (cs ++ rs) in
    ap₂ (λ (a b : List ℕ). record { entry = record { weight = e.entry.weight; body = record { loss = e.entry.body.loss; count = e.entry.body.count; coefs = a; rows = b } }; word_key = e.word_key; phase_loss_key = e.phase_loss_key })
    (take_at cs rs (coefs_len s) f.coefs)
    (sym (drop-drop (coefs_len s) head_len w) ∙ drop_at cs rs (coefs_len s) f.coefs)

pub words-length : (s : Size) (e : Keyed) → Fits s e → length (words_of e) ≡ entry_len s
unfolding words_of
words-length s e f = omega (arith, length-append e.entry.body.coefs e.entry.body.rows, f.coefs, f.rows)

-- ---- the store

-- what numbers 1, 2 and 5 leave
pub packed : (x : Lent) → first_of (shape x) ≡ 0 → zeros_past x ≡ true → Packed x.header.size x.header.count x.words
packed x p q = let h = shaped x p in record { sized = h.size; room = h.count; zeros = q }

sub-mul : (a b c : ℕ) → (a - b) * c ≡ a * c - b * c
sub-mul a b c = mul_comm (a - b) c ∙ mul-sub c a b ∙ ap₂ (λ (x y : ℕ). x - y) (mul_comm c a) (mul_comm c b)

zeros-are : (l : List ℕ) → all_zero l ≡ true → l ≡ replicate (length l) 0
unfolding all_zero every
zeros-are [] e = refl
zeros-are (x ∷ l) e =
    let b = and_both (eqb x 0) (every (λ y. eqb y 0) l) e in
    ap₂ (λ (y : ℕ) (t : List ℕ). y ∷ t) (eqb-true x 0 b.0) (zeros-are l b.1)

module _ (s : Size) (count : ℕ) (w : List ℕ) (h : Packed s count w) where
  -- the listed entries end within the store
  pub within : count * entry_len s ≤ length w
  within = omega (arith, mul-le-mul_right (entry_len s) h.room, h.sized.words)

  groups-back : (n : ℕ) (v : List ℕ) → n * entry_len s ≤ length v → map words_of (map (entry_of s) (groups (entry_len s) n v)) ≡ groups (entry_len s) n v
  unfolding groups
  groups-back zero v p = refl
  groups-back (suc n) v p =
      let e : suc n * entry_len s ≡ n * entry_len s + entry_len s = suc-mul n (entry_len s) in
      ap₂ (λ (x : List ℕ) (l : List (List ℕ)). x ∷ l) (words-entry s (take (entry_len s) v) (length-take-le (entry_len s) v (omega arith)))
      (groups-back n (drop (entry_len s) v) (omega (arith, length-drop (entry_len s) v)))

  -- THE STORE IS ITS LIST, packed
  pub packed-is : w ≡ pack s (listed s count w)
  unfolding pack listed past_count
  packed-is =
      let len = entry_len s in
      let d : length (drop (count * len) w) ≡ (s.capacity - length (listed s count w)) * len =
      length-drop (count * len) w ∙ ap (λ (k : ℕ). k - count * len) h.sized.words ∙ sym (sub-mul s.capacity count len) ∙ ap (λ (k : ℕ). (s.capacity - k) * len) (sym (length-listed s count w)) in
      sym (words_are len count w)
      ∙ ap₂ (λ (a b : List ℕ). a ++ b) (ap joined (sym (groups-back count w within))) (zeros-are (drop (count * len) w) h.zeros ∙ ap (λ (k : ℕ). replicate k 0) d)

  -- ---- a change of one entry

  map-set : (f : List ℕ → Keyed) (l : List (List ℕ)) (i : ℕ) (x : List ℕ) → map f (set l i x) ≡ set (map f l) i (f x)
  map-set f [] zero x = refl
  map-set f [] (suc i) x = refl
  map-set f (y ∷ l) zero x = refl
  map-set f (y ∷ l) (suc i) x = ap (λ (t : List Keyed). f y ∷ t) (map-set f l i x)

  -- a store as long, with the same words past the count
  keeps : (v : List ℕ) → length v ≡ length w → drop (count * entry_len s) v ≡ drop (count * entry_len s) w → Packed s count v
  unfolding past_count
  keeps v l d = record { sized = rw l h.sized; room = h.room; zeros = rw d h.zeros }

  module _ (i : ℕ) (b : i < count) where
    -- word j of entry i is written
    pub set-listed : (j v : ℕ) → j < entry_len s → listed s count (set w (i * entry_len s + j) v) ≡ set (listed s count w) i (entry_of s (set (stretch s w i) j v))
    unfolding listed
    set-listed j v g =
        ap (map (entry_of s)) (groups-set (entry_len s) count i j v w b g)
        ∙ map-set (entry_of s) (groups (entry_len s) count w) i _
        ∙ ap (λ (e : List ℕ). set (map (entry_of s) (groups (entry_len s) count w)) i (entry_of s (set e j v))) (group_at (entry_len s) count i w b)

    pub set-packed : (j v : ℕ) → j < entry_len s → Packed s count (set w (i * entry_len s + j) v)
    set-packed j v g = keeps _ (length-set w (i * entry_len s + j) v) (drop-set-lt (count * entry_len s) w (i * entry_len s + j) v (stride-lt (entry_len s) i count j b g))

    -- its stretch is lent, and comes back as x
    pub lent-listed : (x : List ℕ) → length x ≡ entry_len s → listed s count (with_stretch (entry_len s) i w x) ≡ set (listed s count w) i (entry_of s x)
    unfolding listed
    lent-listed x g = ap (map (entry_of s)) (lent-groups (entry_len s) count i w x within b g) ∙ map-set (entry_of s) (groups (entry_len s) count w) i x

    pub lent-packed : (x : List ℕ) → length x ≡ entry_len s → Packed s count (with_stretch (entry_len s) i w x)
    lent-packed x g = keeps _ (lent_length (entry_len s) count i w x within b g) (lent-rest (entry_len s) count i w x within b g)

  -- ---- one more entry

  module _ (b : count < s.capacity) (x : List ℕ) (g : length x ≡ entry_len s) where
    more_within : (count + 1) * entry_len s ≤ length w
    more_within = rw add-one (omega (arith, mul-le-mul_right (entry_len s) b, h.sized.words))

    last_set : (l : List (List ℕ)) (y z : List ℕ) (n : ℕ) → length l ≡ n → set (l ++ y ∷ []) n z ≡ l ++ z ∷ []
    last_set l y z n e = set_at l y [] z n e

    pub more-listed : listed s (count + 1) (with_stretch (entry_len s) count w x) ≡ listed s count w ++ entry_of s x ∷ []
    unfolding listed groups
    more-listed =
        let len = entry_len s in
        ap (map (entry_of s))
        (lent-groups len (count + 1) count w x more_within (omega arith) g
        ∙ ap (λ (l : List (List ℕ)). set l count x) (groups-add len count 1 w)
        ∙ last_set (groups len count w) (take len (drop (count * len) w)) x count (length-groups len count w))
        ∙ map-append (entry_of s) (groups len count w) (x ∷ [])

    zeros-drop : (n : ℕ) (l : List ℕ) → all_zero l ≡ true → all_zero (drop n l) ≡ true
    unfolding all_zero every
    zeros-drop zero l e = e
    zeros-drop (suc n) [] e = e
    zeros-drop (suc n) (y ∷ l) e = zeros-drop n l (and_both (eqb y 0) (every (λ z. eqb z 0) l) e).1

    pub more-packed : Packed s (count + 1) (with_stretch (entry_len s) count w x)
    unfolding past_count
    more-packed =
        let len = entry_len s in
        let e : (count + 1) * len ≡ count * len + len = rw add-one (suc-mul count len) in
        record {
          sized = rw (lent_length len (count + 1) count w x more_within (omega arith) g) h.sized;
          room = omega arith;
          zeros = rw (lent-rest len (count + 1) count w x more_within (omega arith) g, e, ← drop-drop len (count * len) w) (zeros-drop len (drop (count * len) w) h.zeros);
        }
