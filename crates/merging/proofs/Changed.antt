-- A branch that is not made yet: its key, its search, and the keys noted once it is merged or appended. Assumes nothing.
use Rattle.std.specs.Prelude.{Some}
use mathlib.Core.Path.{◌≡◌, refl, sym, ap, ap₂, ◌∙◌}
use mathlib.Core.Bool.{cond}
use mathlib.Core.List.{List, [], ◌∷◌, ◌++◌}
use mathlib.Core.Logic.{⊎_elim}
use Prim.Native.Nat.{ℕ, suc, ◌+◌, ◌*◌, ◌-◌, ◌≤◌, ◌<◌}
use native.Mathlib.Nat.{eq-zero-or-pos, mul-le-mul_right}
use native.Mathlib.Omega.{arith}
use lib.Bits.{bit_xor}
use lib.Dec.{eqb}
use lib.Ieee.{Float}
use lib.ListN.{length, get_or, set, drop, get_or-append}
use lib.Seq.{get_or-set_other, get_or_at, get_or-take, get_or-drop}
use Rattle.model.specs.Entries.{Keyed, entry_len, words_of, entry_of, stretch, listed}
use Rattle.model.specs.Keys.{usual_salts, stored_key}
use Rattle.model.specs.Changes.{masks_of, changed_keyed}
use Rattle.model.specs.Likeness.{alike}
use Rattle.model.specs.Store.{keyed_weighed, reweighed, walk, Walked}
use Rattle.model.specs.declared.Size.{Size}
use Rattle.model.proofs.Xor.{xor_assoc}
use Rattle.model.proofs.Groups.{stride-le}
use Rattle.model.proofs.Entries.{length-stretch, length-listed, listed_at}
use Rattle.model.specs.Sound.{Packed}
use Rattle.model.proofs.Packed.{within, more-listed}
use Rattle.changes.specs.Changes.{change_of}
use Rattle.changes.specs.declared.Change.{Change}
use Rattle.branch.proofs.Made.{made-entry, made-length}
use Rattle.seeking.specs.Noted.{seen_at, Noted}
use Rattle.seeking.specs.Walk.{Searched}
use Rattle.seeking.specs.declared.Search.{Search}
use Rattle.seeking.proofs.Noting.{key-words, SameKeys}
use Rattle.merging.specs.Progress.{mutation_of, branch_in, Changes, appended}
use Rattle.merging.specs.declared.Branch.{Branch}

-- ---- its search is that of its parent, changed: the weight plays no part

walk-blind : (s : Size) (threshold : Float) (v : ℕ) (b : Keyed) (i : ℕ) (es : List Keyed) → walk s threshold (reweighed keyed_weighed v b) i es ≡ walk s threshold b i es
unfolding walk reweighed stored_key
walk-blind s threshold v b i [] = refl
walk-blind s threshold v b i (e ∷ es) =
    ap
    (λ (later : Walked).
    cond (eqb (stored_key e) (stored_key b))
    (cond (alike s threshold e.entry.body b.entry.body) (record { found = Some i; tested = i ∷ [] }) (record { found = later.found; tested = i ∷ later.tested }))
    later)
    (walk-blind s threshold v b (suc i) es)

module _ (s : Size) (count : ℕ) (w : List ℕ) (g : Packed s count w) (b : Branch) (h : b.parent < count) where
  abbrev parent : List ℕ
  parent = stretch s w b.parent

  abbrev pub made : List ℕ
  made = words_of (branch_in s w b)

  parent-length : length parent ≡ entry_len s
  parent-length = length-stretch s w b.parent count (within s count w g) h

  -- its words hold it
  pub made_holds : entry_of s made ≡ branch_in s w b
  made_holds = made-entry s (mutation_of b) b.weight parent parent-length

  pub made-long : length made ≡ entry_len s
  made-long = made-length s (mutation_of b) b.weight parent parent-length

  pub search_is : (threshold : Float) (es : List Keyed) (r : Search) → Searched s threshold (changed_keyed usual_salts s.n (mutation_of b) (entry_of s parent)) es r → Searched s threshold (branch_in s w b) es r
  search_is threshold es r f =
      record {
        found = f.found ∙ ap (λ (x : Walked). x.found) (sym (walk-blind s threshold b.weight _ 0 es));
        tested = f.tested ∙ ap (λ (x : Walked). length x.tested) (sym (walk-blind s threshold b.weight _ 0 es));
      }

  -- ---- its key

  module _ (keys firsts : List ℕ) (n : Noted count (seen_at s [] w) keys firsts) (d : Changes s w b) where
    pub key-is : bit_xor (get_or keys b.parent 0) b.change.delta ≡ stored_key (changed_keyed usual_salts s.n (mutation_of b) (entry_of s parent))
    unfolding stored_key changed_keyed change_of
    key-is =
        let e = entry_of s parent in
        ap₂ bit_xor (n.kept b.parent h) (ap (λ (c : Change). c.delta) d.change) ∙ xor_assoc e.word_key e.phase_loss_key (masks_of usual_salts s.n (mutation_of b) e.entry.body.rows)

    pub key-made : bit_xor (get_or keys b.parent 0) b.change.delta ≡ stored_key (branch_in s w b)
    unfolding stored_key reweighed
    key-made = key-is

  -- ---- appended, it is the last, and the others are as they were

  module _ (l : count < s.capacity) where
    abbrev all : List Keyed
    all = listed s count w ++ branch_in s w b ∷ []

    listed-are : listed s (count + 1) (appended s count b w) ≡ all
    listed-are = more-listed s count w g l made made-long ∙ ap (λ (e : Keyed). listed s count w ++ e ∷ []) made_holds

    at : (j : ℕ) → j < count + 1 → entry_of s (stretch s (appended s count b w) j) ≡ get_or all j (entry_of s [])
    at j k = sym (listed_at s (count + 1) j (appended s count b w) (entry_of s []) k) ∙ ap (λ (es : List Keyed). get_or es j (entry_of s [])) listed-are

    pub appended-keys : SameKeys count (seen_at s [] w) (seen_at s [] (appended s count b w))
    appended-keys j k =
        ap stored_key
        (at j (omega arith) ∙ get_or-append (listed s count w) (branch_in s w b ∷ []) (entry_of s []) j (omega (arith, length-listed s count w))
        ∙ listed_at s count j w (entry_of s []) k)

    pub appended-last : stored_key (branch_in s w b) ≡ stored_key (entry_of s (stretch s (appended s count b w) count))
    appended-last =
        sym (ap stored_key (at count (omega arith) ∙ get_or_at (listed s count w) (branch_in s w b) [] (entry_of s []) count (length-listed s count w)))

-- ---- a weight written leaves the keys

-- the key of the entry at place i, read from the store
key-at : (s : Size) (i : ℕ) (w : List ℕ) → bit_xor (get_or w (i * entry_len s + 2) 0) (get_or w (i * entry_len s + 3) 0) ≡ stored_key (entry_of s (stretch s w i))
key-at s i w =
    sym
    (ap₂ bit_xor (get_or-take (entry_len s) (drop (i * entry_len s) w) 2 0 (omega arith) ∙ get_or-drop (i * entry_len s) w 2 0)
    (get_or-take (entry_len s) (drop (i * entry_len s) w) 3 0 (omega arith) ∙ get_or-drop (i * entry_len s) w 3 0))
    ∙ key-words s (stretch s w i)

pub weight-keys : (s : Size) (count : ℕ) (w : List ℕ) (place v : ℕ) → SameKeys count (seen_at s [] w) (seen_at s [] (set w (place * entry_len s) v))
weight-keys s count w place v i b = sym (key-at s i (set w (place * entry_len s) v)) ∙ ap₂ bit_xor (other 2 (omega arith) (omega arith)) (other 3 (omega arith) (omega arith)) ∙ key-at s i w
  where
    apart : (j : ℕ) → 0 < j → j < entry_len s → i * entry_len s + j ≡ place * entry_len s → ⊥
    apart j p q e =
        ⊎_elim
        (λ (z : place - i ≡ 0). let l : place ≤ i = omega arith in omega (arith, mul-le-mul_right (entry_len s) l))
        (λ (z : 0 < place - i). let l : i < place = omega arith in omega (arith, stride-le (entry_len s) i place l))
        (eq-zero-or-pos (place - i))

    other : (j : ℕ) → 0 < j → j < entry_len s → get_or (set w (place * entry_len s) v) (i * entry_len s + j) 0 ≡ get_or w (i * entry_len s + j) 0
    other j p q = get_or-set_other w (place * entry_len s) (i * entry_len s + j) v 0 (apart j p q)
