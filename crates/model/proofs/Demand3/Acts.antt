-- What a call does to a list with keys and to the list kept without them is the same, once number 3 is not given. Assumes nothing.
use Prim.Native.Nat.{ℕ, ◌+◌, ◌*◌, ◌<◌}
use native.Mathlib.Omega.{arith}
use mathlib.Core.Path.{◌≡◌, refl, sym, ap, subst, ◌∙◌}
use mathlib.Core.Bool.{Bool, true, false, cond, not, true≢false}
use mathlib.Core.List.{List, [], ◌∷◌, ◌++◌, map}
use lib.Dec.{eqb, leb, ltb}
use lib.Ieee.{Float}
use lib.ListN.{length, take, drop}
use borrow.Author.Tests.{leb-false, eqb-true}
use Rattle.model.specs.Lists.{is_empty, joined}
use Rattle.model.specs.Entries.{Entry, Keyed, strip, words_of, bare_words, pack}
use Rattle.model.specs.Keys.{usual_salts, keyed}
use Rattle.model.specs.Store.{keyed_weighed, Tally, begun, Split, reweighed, merged_split, above_cutoff, tested_all, how_many}
use Rattle.model.specs.Sum.{Result, done, refused, map_result, normalised, Cut, truncated, finished}
use Rattle.model.specs.Channels.{Noise, qubits, noise_split, noise_tally, with_cut, channelled}
use Rattle.model.specs.Reset.{reset_split, reset_tally}
use Rattle.model.specs.Gates.{turned}
use Rattle.model.specs.Sheet.{Sheet, sheet_text}
use Rattle.model.specs.Page.{page_text}
use Rattle.model.specs.Table.{table_words, pick_place}
use Rattle.model.specs.Numbers.{Test, gives, first_of, some_not_below, draw_sound}
use Rattle.model.specs.Keyless.{bare_weighed, keyless, clashes_all, clashes_by}
use Rattle.model.specs.Calls.{Call, noise, reset, gate, truncate, normalise, table, pick, sheet, view, page, Sum, Outcome, tests, argument_tests, unless, changed_to, cut_down, act, engine, kind_of, rebuilt_entries, rebuilt, words_after, split_by, tested_by}
use Rattle.model.specs.declared.Gate.{Gate}
use Rattle.model.specs.Demand3.{without_keys, flag_left}
use Rattle.model.proofs.Demand3.Lists.{map_same, map-twice, tally_map, cut_map, empty-map, one_map}
use Rattle.model.proofs.Demand3.Weights.{Keeps, normalised-map, truncated-map}
use Rattle.model.proofs.Demand3.Merge.{own-keeps, tested-same}
use Rattle.model.proofs.Arms.{arms-below}
use Rattle.model.proofs.Demand3.Branches.{noise-same, reset-same, channelled-same, reset-tally-same}
use Rattle.model.proofs.Yields.{passed}
use Rattle.model.proofs.Demand3.States.{own, Good, count-is}

-- ---- keys added and taken away

pub own-strip : (m : Sum Entry) (l : List Entry) → map strip (map (own m) l) ≡ l
unfolding keyed
own-strip m l = map-twice (own m) strip l ∙ map_same l

strip-keeps : Keeps keyed_weighed bare_weighed strip
unfolding reweighed
strip-keeps = record { entry = λ x. refl; reweigh = λ w x. refl }

-- the list m with the stored keys of es
abbrev pub stored : Sum Entry → List Keyed → Sum Keyed
stored m es = record { size = m.size; threshold = m.threshold; cutoff = m.cutoff; entries = es }

-- .. and with those worked out
abbrev pub own_sum : Sum Entry → Sum Keyed
own_sum m = stored m (map (own m) m.entries)

-- the sum that a call works on
abbrev pub worked : Call → Sum Entry → Bool → List Keyed → Sum Keyed
worked c m dirty es = rebuilt (kind_of c) dirty (stored m es)

-- ---- what a call gives

pub record SameOutcome (c : Call) (m : Sum Entry) (dirty : Bool) (es : List Keyed) (o : Outcome Keyed) (p : Outcome Entry) : Type 0 where
  pub content : map strip o.tally.entries ≡ p.tally.entries
  pub keys : flag_left c dirty ≡ false → o.tally.entries ≡ map (own m) p.tally.entries
  pub merged : o.tally.merged ≡ p.tally.merged
  pub stored : o.tally.stored ≡ p.tally.stored
  pub dropped : o.tally.dropped ≡ p.tally.dropped
  pub lost : o.tally.lost ≡ p.tally.lost
  pub place : o.place ≡ p.place
  pub output : without_keys c o.output ≡ p.output
  pub compared : how_many (tested_by c (worked c m dirty es)) ≡ p.tally.merged + clashes_by usual_salts c m
  -- the words left are those of the list left
  pub words : words_after (kind_of c) m.size (pack m.size es) o.tally.entries ≡ pack m.size o.tally.entries

pub data Same (c : Call) (m : Sum Entry) (dirty : Bool) (es : List Keyed) : Result (Outcome Keyed) → Result (Outcome Entry) → Type 0 where
  both-done : {o : Outcome Keyed} {p : Outcome Entry} → SameOutcome c m dirty es o p → Same c m dirty es (done o) (done p)
  both-refused : {n : ℕ} → Same c m dirty es (refused n) (refused n)

pub same-unless : {c : Call} {m : Sum Entry} {dirty : Bool} {es : List Keyed} (ts : List Test) {r : Result (Outcome Keyed)} {q : Result (Outcome Entry)}
    → (first_of ts ≡ 0 → Same c m dirty es r q) → Same c m dirty es (unless ts r) (unless ts q)
unfolding unless
same-unless {c} {m} {dirty} {es} ts {r} {q} h = go (eqb (first_of ts) 0) refl
  where
    go : (t : Bool) → eqb (first_of ts) 0 ≡ t → Same c m dirty es (cond t r (refused (first_of ts))) (cond t q (refused (first_of ts)))
    go true e = h (eqb-true (first_of ts) 0 e)
    go false e = both-refused

module _ (m : Sum Entry) where
  -- ---- the full comparisons of a list's branches

  tested-split : (p : Split Entry)
      → how_many (tested_all usual_salts m.size m.threshold (above_cutoff m.cutoff) (map (own m) p.branches) (begun (map (own m) p.stay)))
      ≡ (merged_split (keyless m.size m.threshold) (above_cutoff m.cutoff) p).merged
      + clashes_all usual_salts m.size m.threshold (above_cutoff m.cutoff) p.branches (begun p.stay)
  unfolding merged_split
  tested-split p = let e = tested-same usual_salts m.size m.threshold (above_cutoff m.cutoff) p.branches (begun p.stay) in omega (arith, e)

  -- ---- channels and resets, on keys that are worked out

  rebuilt-own : (dirty : Bool) (es : List Keyed) → Good m dirty es → cond dirty (rebuilt_entries m.size.n es) es ≡ map (own m) m.entries
  unfolding rebuilt_entries
  rebuilt-own true es g = sym (map-twice strip (own m) es) ∙ ap (map (own m)) g.content
  rebuilt-own false es g = g.keys refl

  noise-worked : (c : Noise) (dirty : Bool) (es : List Keyed) → Good m dirty es → worked (noise c) m dirty es ≡ own_sum m
  unfolding rebuilt kind_of
  noise-worked c dirty es g = ap (stored m) (rebuilt-own dirty es g)

  reset-worked : (q : ℕ) (dirty : Bool) (es : List Keyed) → Good m dirty es → worked (reset q) m dirty es ≡ own_sum m
  unfolding rebuilt kind_of
  reset-worked q dirty es g = ap (stored m) (rebuilt-own dirty es g)

  noise-tested : (c : Noise) → some_not_below m.size.n (qubits c) ≡ false
      → how_many (tested_by (noise c) (own_sum m)) ≡ (noise_tally (keyless m.size m.threshold) m.cutoff c m.entries).merged + clashes_by usual_salts (noise c) m
  unfolding tested_by split_by clashes_by noise_tally
  noise-tested c h =
      ap (λ (p : Split Keyed). how_many (tested_all usual_salts m.size m.threshold (above_cutoff m.cutoff) p.branches (begun p.stay)))
      (noise-same usual_salts m.size m.threshold c (arms-below m.size.n c h) m.entries)
      ∙ tested-split (noise_split (keyless m.size m.threshold) c m.entries)

  reset-tested : (q : ℕ) → q < m.size.n
      → how_many (tested_by (reset q) (own_sum m)) ≡ (reset_tally (keyless m.size m.threshold) m.cutoff q m.entries).merged + clashes_by usual_salts (reset q) m
  unfolding tested_by split_by clashes_by reset_tally
  reset-tested q h =
      ap (λ (p : Split Keyed). how_many (tested_all usual_salts m.size m.threshold (above_cutoff m.cutoff) p.branches (begun p.stay)))
      (reset-same usual_salts m.size m.threshold q h m.entries)
      ∙ tested-split (reset_split (keyless m.size m.threshold) q m.entries)

  module _ (dirty : Bool) (es : List Keyed) (g : Good m dirty es) where
    noise-ended : (c : Noise) (t : Tally Entry) → how_many (tested_by (noise c) (worked (noise c) m dirty es)) ≡ t.merged + clashes_by usual_salts (noise c) m
        → (r : Result (Cut Entry))
        → Same (noise c) m dirty es (map_result changed_to (map_result (tally_map (own m)) (map_result (with_cut (keyless m.size m.threshold) t) r)))
        (map_result changed_to (map_result (with_cut (keyless m.size m.threshold) t) r))
    unfolding map_result without_keys words_after kind_of
    noise-ended c t e (done k) =
        both-done (record {
          content = own-strip m k.entries;
          keys = λ d. refl;
          merged = refl;
          stored = refl;
          dropped = refl;
          lost = refl;
          place = refl;
          output = refl;
          compared = e;
          words = refl;
        })
    noise-ended c t e (refused n) = both-refused

    noise-acts : (c : Noise) → some_not_below m.size.n (qubits c) ≡ false → Same (noise c) m dirty es (act engine (noise c) (worked (noise c) m dirty es)) (act keyless (noise c) m)
    unfolding act channelled
    noise-acts c h =
        let w = noise-worked c dirty es g in
        let t = noise_tally (keyless m.size m.threshold) m.cutoff c m.entries in
        let e : act engine (noise c) (worked (noise c) m dirty es) ≡ map_result changed_to (map_result (tally_map (own m)) (channelled (keyless m.size m.threshold) m.size.capacity m.cutoff c m.entries)) =
        ap (act engine (noise c)) w
        ∙ ap (map_result changed_to) (channelled-same usual_salts m.size m.threshold m.size.capacity m.cutoff c (arms-below m.size.n c h) m.entries) in
        subst (λ (r : Result (Outcome Keyed)). Same (noise c) m dirty es r (act keyless (noise c) m)) (sym e)
        (noise-ended c t (ap (λ (k : Sum Keyed). how_many (tested_by (noise c) k)) w ∙ noise-tested c h)
        (finished bare_weighed m.size.capacity m.cutoff t.dropped t.entries))

    reset-acts : (q : ℕ) → q < m.size.n → Same (reset q) m dirty es (act engine (reset q) (worked (reset q) m dirty es)) (act keyless (reset q) m)
    unfolding act without_keys words_after kind_of
    reset-acts q h =
        let w = reset-worked q dirty es g in
        let t = reset_tally (keyless m.size m.threshold) m.cutoff q m.entries in
        let e : act engine (reset q) (worked (reset q) m dirty es) ≡ done (changed_to (tally_map (own m) t)) =
        ap (act engine (reset q)) w
        ∙ ap (λ (u : Tally Keyed). done (changed_to u)) (reset-tally-same usual_salts m.size m.threshold m.cutoff q h m.entries) in
        subst (λ (r : Result (Outcome Keyed)). Same (reset q) m dirty es r (act keyless (reset q) m)) (sym e)
        (both-done (record {
          content = own-strip m t.entries;
          keys = λ d. refl;
          merged = refl;
          stored = refl;
          dropped = refl;
          lost = refl;
          place = refl;
          output = refl;
          compared = ap (λ (k : Sum Keyed). how_many (tested_by (reset q) k)) w ∙ reset-tested q h;
          words = refl;
        }))

    -- ---- gates, on the keys as they are

    turned_same : (f : Gate) (l : List Keyed) → map strip (map (turned keyed_weighed m.size.n f) l) ≡ map (turned bare_weighed m.size.n f) (map strip l)
    unfolding turned
    turned_same f [] = refl
    turned_same f (x ∷ l) = ap (λ (r : List Entry). turned bare_weighed m.size.n f (strip x) ∷ r) (turned_same f l)

    gate-acts : (f : Gate) → Same (gate f) m dirty es (act engine (gate f) (worked (gate f) m dirty es)) (act keyless (gate f) m)
    unfolding act without_keys words_after kind_of rebuilt flag_left tested_by split_by tested_all how_many clashes_by clashes_all
    gate-acts f =
        both-done (record {
          content = turned_same f es ∙ ap (map (turned bare_weighed m.size.n f)) g.content;
          keys = λ d. absurd (true≢false d);
          merged = refl;
          stored = refl;
          dropped = refl;
          lost = refl;
          place = refl;
          output = refl;
          compared = refl;
          words = refl;
        })

    -- ---- truncating and normalising move each key with its entry

    -- what is given, if anything is
    given-or : {A : Type 0} → A → Result A → A
    given-or d (done a) = a
    given-or d (refused n) = d

    -- a call c that merges nothing and shows nothing: F makes a tally of what it gives with keys, G of what it gives without
    module _ (c : Call) (o : without_keys c [] ≡ []) (f : flag_left c dirty ≡ dirty)
        (w : (l : List Keyed) → words_after (kind_of c) m.size (pack m.size es) l ≡ pack m.size l)
        {A B : Type 0} (F : A → Tally Keyed) (G : B → Tally Entry) (n : (b : B) → how_many (tested_by c (worked c m dirty es)) ≡ (G b).merged + clashes_by usual_salts c m)
        (bared : A → B) (e : (a : A) → tally_map strip (F a) ≡ G (bared a)) (owned : B → A) (h : (b : B) → F (owned b) ≡ tally_map (own m) (G b)) where
      moved-done : (a : A) → (dirty ≡ false → a ≡ owned (bared a)) → SameOutcome c m dirty es (changed_to (F a)) (changed_to (G (bared a)))
      moved-done a k =
          record {
            content = ap (λ (t : Tally Entry). t.entries) (e a);
            keys = λ d. ap (λ (t : Tally Keyed). t.entries) (ap F (k (sym f ∙ d)) ∙ h (bared a));
            merged = ap (λ (t : Tally Entry). t.merged) (e a);
            stored = ap (λ (t : Tally Entry). t.stored) (e a);
            dropped = ap (λ (t : Tally Entry). t.dropped) (e a);
            lost = ap (λ (t : Tally Entry). t.lost) (e a);
            place = refl;
            output = o;
            compared = n (bared a);
            words = w (F a).entries;
          }

      moved : (a : Result A) (b : Result B) → b ≡ map_result bared a → (dirty ≡ false → a ≡ map_result owned b)
          → Same c m dirty es (map_result (λ x. changed_to (F x)) a) (map_result (λ x. changed_to (G x)) b)
      unfolding map_result given-or
      moved a b p k =
          subst (λ (r : Result B). Same c m dirty es (map_result (λ x. changed_to (F x)) a) (map_result (λ x. changed_to (G x)) r)) (sym p)
          (go a (λ d. k d ∙ ap (map_result owned) p))
        where
          go : (a : Result A) → (dirty ≡ false → a ≡ map_result owned (map_result bared a))
              → Same c m dirty es (map_result (λ x. changed_to (F x)) a) (map_result (λ x. changed_to (G x)) (map_result bared a))
          go (done x) k = both-done (moved-done x (λ d. ap (given-or x) (k d)))
          go (refused n) k = both-refused

    truncate-acts : Same truncate m dirty es (act engine truncate (worked truncate m dirty es)) (act keyless truncate m)
    unfolding act without_keys words_after kind_of rebuilt flag_left tested_by split_by tested_all how_many clashes_by clashes_all
    truncate-acts =
        moved truncate refl refl (λ l. refl) cut_down cut_down (λ b. refl) (cut_map strip) (λ a. refl) (cut_map (own m)) (λ b. refl)
        (truncated keyed_weighed m.cutoff es) (truncated bare_weighed m.cutoff m.entries)
        (ap (truncated bare_weighed m.cutoff) (sym g.content) ∙ truncated-map strip-keeps m.cutoff es)
        (λ d. ap (truncated keyed_weighed m.cutoff) (g.keys d) ∙ truncated-map (own-keeps usual_salts m.size.n) m.cutoff m.entries)

    normalise-acts : Same normalise m dirty es (act engine normalise (worked normalise m dirty es)) (act keyless normalise m)
    unfolding act without_keys words_after kind_of rebuilt flag_left tested_by split_by tested_all how_many clashes_by clashes_all
    normalise-acts =
        moved normalise refl refl (λ l. refl) begun begun (λ b. refl) (map strip) (λ a. refl) (map (own m)) (λ b. refl)
        (normalised keyed_weighed es) (normalised bare_weighed m.entries)
        (ap (normalised bare_weighed) (sym g.content) ∙ normalised-map strip-keeps es)
        (λ d. ap (normalised keyed_weighed) (g.keys d) ∙ normalised-map (own-keeps usual_salts m.size.n) m.entries)

    -- ---- tables, picks, sheets, views and pages only look

    -- what is seen: place and output
    looks : (c : Call) → flag_left c dirty ≡ dirty
        → how_many (tested_by c (worked c m dirty es)) ≡ 0 + clashes_by usual_salts c m → words_after (kind_of c) m.size (pack m.size es) es ≡ pack m.size es
        → (i j : ℕ) (v w : List ℕ) → i ≡ j → without_keys c v ≡ w
        → Same c m dirty es (done (record { tally = begun es; place = i; output = v })) (done (record { tally = begun m.entries; place = j; output = w }))
    looks c f n p i j v w e o =
        both-done (record {
          content = g.content;
          keys = λ d. g.keys (sym f ∙ d);
          merged = refl;
          stored = refl;
          dropped = refl;
          lost = refl;
          place = e;
          output = o;
          compared = n;
          words = p;
        })

    -- the same entries without keys, whichever list they are read from
    bare-same : map (λ (x : Keyed). x.entry) es ≡ map (λ (x : Entry). x) m.entries
    bare-same = g.content ∙ sym (map_same m.entries)

    sheet-same : ◌≡◌ {A = Sheet} (record { size = m.size; threshold = m.threshold; cutoff = m.cutoff; entries = map (λ (x : Keyed). x.entry) es })
        (record { size = m.size; threshold = m.threshold; cutoff = m.cutoff; entries = map (λ (x : Entry). x) m.entries })
    sheet-same = ap (λ (l : List Entry). record { size = m.size; threshold = m.threshold; cutoff = m.cutoff; entries = l }) bare-same

    empty-same : is_empty es ≡ is_empty m.entries
    empty-same = sym (empty-map strip es) ∙ ap is_empty g.content

    table-acts : (room : ℕ) → Same (table room) m dirty es (act engine (table room) (worked (table room) m dirty es)) (act keyless (table room) m)
    unfolding act without_keys words_after kind_of rebuilt flag_left tested_by split_by tested_all how_many clashes_by clashes_all
    table-acts room =
        rw (count-is m dirty es g, empty-same)
        (same-unless (gives 8 (ltb room (2 * length m.entries)) ∷ gives 9 (is_empty m.entries) ∷ [])
        (λ _. looks (table room) refl refl refl 0 0 _ _ refl (ap table_words bare-same)))

    pick-acts : (draw : Float) → Same (pick draw) m dirty es (act engine (pick draw) (worked (pick draw) m dirty es)) (act keyless (pick draw) m)
    unfolding act without_keys words_after kind_of rebuilt flag_left tested_by split_by tested_all how_many clashes_by clashes_all
    pick-acts draw =
        rw empty-same
        (same-unless (gives 9 (is_empty m.entries) ∷ gives 10 (not (draw_sound draw)) ∷ [])
        (λ _. looks (pick draw) refl refl refl _ _ [] [] (ap (pick_place draw) bare-same) refl))

    sheet-acts : (room : ℕ) → Same (sheet room) m dirty es (act engine (sheet room) (worked (sheet room) m dirty es)) (act keyless (sheet room) m)
    unfolding act without_keys words_after kind_of rebuilt flag_left tested_by split_by tested_all how_many clashes_by clashes_all
    sheet-acts room =
        rw sheet-same
        (same-unless (gives 8 (ltb room (length (sheet_text _))) ∷ []) (λ _. looks (sheet room) refl refl refl 0 0 _ _ refl refl))

    -- an entry's words without the two keys
    shown-same : (l : List Keyed) → take 2 (joined (map words_of (take 1 l))) ++ drop 4 (joined (map words_of (take 1 l))) ≡ joined (map bare_words (map strip (take 1 l)))
    unfolding joined words_of bare_words
    shown-same [] = refl
    shown-same (x ∷ l) = refl

    view-acts : (place : ℕ) → Same (view place) m dirty es (act engine (view place) (worked (view place) m dirty es)) (act keyless (view place) m)
    unfolding act without_keys words_after kind_of rebuilt flag_left tested_by split_by tested_all how_many clashes_by clashes_all
    view-acts place =
        looks (view place) refl refl refl 0 0 _ _ refl
        (shown-same (drop place es)
        ∙ ap (λ (l : List Entry). joined (map bare_words l)) (sym (one_map strip place es) ∙ ap (λ (l : List Entry). take 1 (drop place l)) g.content))

    page-acts : (room : ℕ) → Same (page room) m dirty es (act engine (page room) (worked (page room) m dirty es)) (act keyless (page room) m)
    unfolding act without_keys words_after kind_of rebuilt flag_left tested_by split_by tested_all how_many clashes_by clashes_all
    page-acts room =
        rw bare-same
        (same-unless (gives 8 (ltb room (length (page_text _))) ∷ []) (λ _. looks (page room) refl refl refl 0 0 _ _ refl refl))

    -- ---- any call

    pub acts-same : (c : Call) (zeros : Bool) (l : List Entry) → first_of (tests c m.size zeros l) ≡ 0 → Same c m dirty es (act engine c (worked c m dirty es)) (act keyless c m)
    unfolding tests argument_tests
    acts-same (noise c) zeros l h = noise-acts c (passed (some_not_below m.size.n (qubits c)) 2 _ h).0
    acts-same (reset q) zeros l h = reset-acts q (leb-false m.size.n q (passed (leb m.size.n q) 2 _ h).0)
    acts-same (gate f) zeros l h = gate-acts f
    acts-same truncate zeros l h = truncate-acts
    acts-same normalise zeros l h = normalise-acts
    acts-same (table room) zeros l h = table-acts room
    acts-same (pick draw) zeros l h = pick-acts draw
    acts-same (sheet room) zeros l h = sheet-acts room
    acts-same (view place) zeros l h = view-acts place
    acts-same (page room) zeros l h = page-acts room
