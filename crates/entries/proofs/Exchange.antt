-- Two groups of words exchanged, word by word, and so two of the listed entries. Assumes nothing.
use mathlib.Core.Path.{◌≡◌, refl, sym, ap, ap₂, ◌∙◌}
use mathlib.Core.List.{List, [], ◌∷◌, ◌++◌, map, append-nil}
use Prim.Native.Nat.{ℕ, zero, suc, ◌+◌, ◌*◌, ◌≤◌, ◌<◌}
use native.Mathlib.Nat.{not-suc-le-zero, le_of_suc-le-suc}
use native.Mathlib.Numerals.{add-one}
use native.Mathlib.Omega.{arith}
use lib.ListN.{length, take, drop, get_or, set, length-set, drop_of_length-le, get_or-map}
use lib.Seq.{take_all, drop-set-lt, get_or-set_same, get_or-set_other, set-set, set_comm}
use Rattle.model.specs.Lists.{groups}
use Rattle.model.specs.Entries.{entry_len, entry_of, listed, past_count}
use Rattle.model.specs.declared.Size.{Size}
use Rattle.model.proofs.Lists.{length-groups}
use Rattle.model.proofs.Groups.{stride-lt, word_at, group-length, groups-set}
use Rattle.model.specs.Sound.{Packed}
use Rattle.model.proofs.Packed.{within}
use Rattle.entries.specs.Exchanged.{exchanged}

-- ---- words of two lists

-- the first k words of x, and from there on those of y
abbrev mixed : ℕ → List ℕ → List ℕ → List ℕ
mixed k x y = take k x ++ drop k y

mixed-at : (k : ℕ) (x y : List ℕ) → k < length x → k < length y → get_or (mixed k x y) k 0 ≡ get_or y k 0
mixed-at zero x y h g = refl
mixed-at (suc k) [] y h g = absurd (not-suc-le-zero h)
mixed-at (suc k) (a ∷ x) [] h g = absurd (not-suc-le-zero g)
mixed-at (suc k) (a ∷ x) (b ∷ y) h g = mixed-at k x y (le_of_suc-le-suc h) (le_of_suc-le-suc g)

mixed-next : (k : ℕ) (x y : List ℕ) → k < length x → k < length y → set (mixed k x y) k (get_or x k 0) ≡ mixed (suc k) x y
mixed-next k [] y h g = absurd (not-suc-le-zero h)
mixed-next k (a ∷ x) [] h g = absurd (not-suc-le-zero g)
mixed-next zero (a ∷ x) (b ∷ y) h g = refl
mixed-next (suc k) (a ∷ x) (b ∷ y) h g = ap (λ (l : List ℕ). a ∷ l) (mixed-next k x y (le_of_suc-le-suc h) (le_of_suc-le-suc g))

mixed-all : (k : ℕ) (x y : List ℕ) → length x ≤ k → length y ≤ k → mixed k x y ≡ x
mixed-all k x y h g = ap₂ (λ (a b : List ℕ). a ++ b) (take_all k x h) (drop_of_length-le y g) ∙ append-nil x

-- ---- two elements of a list written, and written again

module _ {X : Type 0} (l : List X) (a b : ℕ) (ne : a ≡ b → ⊥) where
  both-again : (p q p' q' : X) → set (set (set (set l a p) b q) a p') b q' ≡ set (set l a p') b q'
  both-again p q p' q' =
      ap (λ (m : List X). set (set m a p') b q') (set_comm l a b p q ne)
      ∙ ap (λ (m : List X). set m b q') (set-set (set l b q) a p p' ∙ sym (set_comm l a b p' q ne))
      ∙ set-set (set l a p') b q q'

  pub first-there : (p q d : X) → a < length l → get_or (set (set l a p) b q) a d ≡ p
  first-there p q d h = get_or-set_other (set l a p) b a q d ne ∙ get_or-set_same l a p d h

  pub second-there : (p q d : X) → b < length l → get_or (set (set l a p) b q) b d ≡ q
  second-there p q d h = get_or-set_same (set l a p) b q d (omega (arith, length-set l a p))

  pub others-there : (p q d : X) (i : ℕ) → (i ≡ a → ⊥) → (i ≡ b → ⊥) → get_or (set (set l a p) b q) i d ≡ get_or l i d
  others-there p q d i f g = get_or-set_other (set l a p) b i q d g ∙ get_or-set_other l a i p d f

pub map-set : {X Y : Type 0} (f : X → Y) (l : List X) (i : ℕ) (x : X) → map f (set l i x) ≡ set (map f l) i (f x)
map-set f [] zero x = refl
map-set f [] (suc i) x = refl
map-set f (y ∷ l) zero x = refl
map-set f (y ∷ l) (suc i) x = ap (λ t. f y ∷ t) (map-set f l i x)

map-exchanged : {X Y : Type 0} (f : X → Y) (d : X) (a b : ℕ) (l : List X) → map f (exchanged d a b l) ≡ exchanged (f d) a b (map f l)
unfolding exchanged
map-exchanged f d a b l =
    map-set f (set l a (get_or l b d)) b (get_or l a d)
    ∙ ap₂ (λ m y. set m b y) (map-set f l a (get_or l b d) ∙ ap (set (map f l) a) (sym (get_or-map f l b d))) (sym (get_or-map f l a d))

-- ---- two groups of words, of which k words are exchanged

module _ (len count a b : ℕ) (w₀ : List ℕ) where
  abbrev first : List ℕ
  first = get_or (groups len count w₀) a []

  abbrev second : List ℕ
  second = get_or (groups len count w₀) b []

  pub record Exchanging (k : ℕ) (w : List ℕ) : Type 0 where
    pub long : length w ≡ length w₀
    pub rest : drop (count * len) w ≡ drop (count * len) w₀
    pub words : groups len count w ≡ set (set (groups len count w₀) a (mixed k second first)) b (mixed k first second)

  module _ (p : count * len ≤ length w₀) (h : a < b) (g : b < count) where
    apart : a ≡ b → ⊥
    apart e = omega (arith, e, h)

    here : a < count
    here = omega (arith, h, g)

    first-long : length first ≡ len
    first-long = group-length len count a w₀ p here

    second-long : length second ≡ len
    second-long = group-length len count b w₀ p g

    module _ (k : ℕ) (w : List ℕ) (j : k < len) (e : Exchanging k w) where
      abbrev gs : List (List ℕ)
      gs = groups len count w

      abbrev x : ℕ
      x = get_or w (a * len + k) 0

      abbrev y : ℕ
      y = get_or w (b * len + k) 0

      abbrev w₁ : List ℕ
      w₁ = set w (a * len + k) y

      many : length (groups len count w₀) ≡ count
      many = length-groups len count w₀

      at_a : get_or gs a [] ≡ mixed k second first
      at_a = ap (λ (l : List (List ℕ)). get_or l a []) e.words ∙ first-there (groups len count w₀) a b apart _ _ [] (omega (arith, many, here))

      at_b : get_or gs b [] ≡ mixed k first second
      at_b = ap (λ (l : List (List ℕ)). get_or l b []) e.words ∙ second-there (groups len count w₀) a b apart _ _ [] (omega (arith, many, g))

      x-is : x ≡ get_or first k 0
      x-is = sym (word_at len count a k w here j) ∙ ap (λ (l : List ℕ). get_or l k 0) at_a ∙ mixed-at k second first (omega (arith, second-long, j)) (omega (arith, first-long, j))

      y-is : y ≡ get_or second k 0
      y-is = sym (word_at len count b k w g j) ∙ ap (λ (l : List ℕ). get_or l k 0) at_b ∙ mixed-at k first second (omega (arith, first-long, j)) (omega (arith, second-long, j))

      words₁ : groups len count w₁ ≡ set gs a (mixed (suc k) second first)
      words₁ =
          groups-set len count a k y w here j
          ∙ ap (set gs a) (ap₂ (λ (l : List ℕ) (v : ℕ). set l k v) at_a y-is ∙ mixed-next k second first (omega (arith, second-long, j)) (omega (arith, first-long, j)))

      at-b₁ : get_or (groups len count w₁) b [] ≡ mixed k first second
      at-b₁ = ap (λ (l : List (List ℕ)). get_or l b []) words₁ ∙ get_or-set_other gs a b (mixed (suc k) second first) [] (λ z. apart (sym z)) ∙ at_b

      words₂ : groups len count (set w₁ (b * len + k) x) ≡ set (set (groups len count w₀) a (mixed (suc k) second first)) b (mixed (suc k) first second)
      words₂ =
          groups-set len count b k x w₁ g j
          ∙ ap₂ (λ (l : List (List ℕ)) (m : List ℕ). set l b m) words₁ (ap₂ (λ (l : List ℕ) (v : ℕ). set l k v) at-b₁ x-is ∙ mixed-next k first second (omega (arith, first-long, j)) (omega (arith, second-long, j)))
          ∙ ap (λ (l : List (List ℕ)). set (set l a (mixed (suc k) second first)) b (mixed (suc k) first second)) e.words
          ∙ both-again (groups len count w₀) a b apart _ _ _ _

      pub one-exchanged : Exchanging (k + 1) (set w₁ (b * len + k) x)
      one-exchanged =
          rw add-one (record {
            long = length-set w₁ (b * len + k) x ∙ length-set w (a * len + k) y ∙ e.long;
            rest =
                drop-set-lt (count * len) w₁ (b * len + k) x (stride-lt len b count k g j)
                ∙ drop-set-lt (count * len) w (a * len + k) y (stride-lt len a count k here j)
                ∙ e.rest;
            words = words₂;
          })

    pub all-exchanged : (k : ℕ) (w : List ℕ) → len ≤ k → Exchanging k w → groups len count w ≡ exchanged [] a b (groups len count w₀)
    unfolding exchanged
    all-exchanged k w j e =
        e.words
        ∙ ap₂ (λ (m n : List ℕ). set (set (groups len count w₀) a m) b n)
        (mixed-all k second first (omega (arith, second-long, j)) (omega (arith, first-long, j)))
        (mixed-all k first second (omega (arith, first-long, j)) (omega (arith, second-long, j)))

-- ---- two entries

module _ (s : Size) (count a b len : ℕ) (w₀ : List ℕ) (p : Packed s count w₀) (i : len ≡ entry_len s) (h : a < b) (g : b < count) where
  pub entries-exchanged : (k : ℕ) (w : List ℕ) → len ≤ k → Exchanging len count a b w₀ k w
      → Packed s count w × (listed s count w ≡ exchanged (entry_of s []) a b (listed s count w₀))
  unfolding listed past_count
  entries-exchanged k w j e = (
    record { sized = rw e.long p.sized; room = p.room; zeros = rw (← i, e.rest, i) p.zeros },
    ap (λ (n : ℕ). map (entry_of s) (groups n count w)) (sym i)
        ∙ ap (map (entry_of s)) (all-exchanged len count a b w₀ (rw i (within s count w₀ p)) h g k w j e)
        ∙ ap (λ (n : ℕ). map (entry_of s) (exchanged [] a b (groups n count w₀))) i
        ∙ map-exchanged (entry_of s) [] a b (groups (entry_len s) count w₀),
  )
