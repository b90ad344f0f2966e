-- What a call does to a list of entries, with keys or without, once its tests let it through. Assumes nothing.
use Rattle.std.specs.Prelude.{ℕ, ◌*◌, Bool, not, List, [], ◌∷◌, map, ltb, Float, length, take, drop}
use Rattle.model.specs.Lists.{is_empty, joined}
use Rattle.model.specs.Floats.{float, zero_bits}
use Rattle.model.specs.Entries.{Entry}
use Rattle.model.specs.Store.{Holding, Tally, begun, Split}
use Rattle.model.specs.Sum.{Result, done, map_result, normalised, Cut, truncated}
use Rattle.model.specs.Channels.{noise_split, channelled}
use Rattle.model.specs.Reset.{reset_split, reset_tally}
use Rattle.model.specs.Table.{table_words, pick_place}
use Rattle.model.specs.Gates.{turned}
use Rattle.model.specs.Sheet.{Sheet, sheet_text}
use Rattle.model.specs.Page.{page_text}
use Rattle.model.specs.Numbers.{gives, draw_sound}
use Rattle.model.specs.Calls.Judged.{Call, noise, reset, gate, truncate, normalise, table, pick, sheet, view, page, Merging, by_noise, by_reset, Kind, branching, turning, moving, looking, kind_of, tests, unless}
use Rattle.model.specs.declared.Size.{Size}

-- size, threshold, cutoff and entries
pub record Sum (X : Type 0) : Type 0 where
  pub size : Size
  pub threshold : Float
  pub cutoff : Float
  pub entries : List X

abbrev pub with_list : {X : Type 0} → Sum X → List X → Sum X
with_list m l = record { size = m.size; threshold = m.threshold; cutoff = m.cutoff; entries = l }

-- what an accepted call gives: the list with its counts, a place, and what it writes or shows
pub record Outcome (X : Type 0) : Type 0 where
  pub tally : Tally X
  pub place : ℕ
  pub output : List ℕ

module _ {X : Type 0} where
  abbrev pub changed_to : Tally X → Outcome X
  changed_to t = record { tally = t; place = 0; output = [] }

  -- truncating merges nothing
  abbrev pub cut_down : Cut X → Tally X
  cut_down c =
      record { entries = c.entries; merged = 0; stored = 0; dropped = 0; lost = record { dropped = float zero_bits; truncated = c.taken } }

module _ {X : Type 0} (K : Size → Float → Holding X) where
  abbrev pub holding : Sum X → Holding X
  holding m = K m.size m.threshold

  abbrev pub bare : Sum X → List Entry
  bare m = map (λ x. (holding m).weighed.entry x) m.entries

  -- a call that changes nothing
  abbrev pub shows : Sum X → ℕ → List ℕ → Outcome X
  shows m place output = record { tally = begun m.entries; place = place; output = output }

  abbrev pub sheet_of : Sum X → Sheet
  sheet_of m = record { size = m.size; threshold = m.threshold; cutoff = m.cutoff; entries = bare m }

  -- the call itself, with numbers 6 and 9 where normalising or the room for entries is at stake, 8, 9 and 10
  unfoldable pub act : Call → Sum X → Result (Outcome X)
  act (noise c) m = map_result changed_to (channelled (holding m) m.size.capacity m.cutoff c m.entries)
  act (reset q) m = done (changed_to (reset_tally (holding m) m.cutoff q m.entries))
  act (gate g) m = done (changed_to (begun (map (turned (holding m).weighed m.size.n g) m.entries)))
  act truncate m = map_result (λ c. changed_to (cut_down c)) (truncated (holding m).weighed m.cutoff m.entries)
  act normalise m = map_result (λ l. changed_to (begun l)) (normalised (holding m).weighed m.entries)
  act (table room) m =
      unless (gives 8 (ltb room (2 * length m.entries)) ∷ gives 9 (is_empty m.entries) ∷ [])
      (done (shows m 0 (table_words (bare m))))
  act (pick draw) m =
      unless (gives 9 (is_empty m.entries) ∷ gives 10 (not (draw_sound draw)) ∷ [])
      (done (shows m (pick_place draw (bare m)) []))
  act (sheet room) m =
      unless (gives 8 (ltb room (length (sheet_text (sheet_of m)))) ∷ [])
      (done (shows m 0 (sheet_text (sheet_of m))))
  act (view place) m = done (shows m 0 (joined (map (holding m).shown (take 1 (drop place m.entries)))))
  act (page room) m = unless (gives 8 (ltb room (length (page_text (bare m)))) ∷ []) (done (shows m 0 (page_text (bare m))))

  -- the call on a sum: 3, 4, 5, and then the call itself
  unfoldable pub performed : Call → Bool → Sum X → Result (Outcome X)
  performed c zeros m = unless (tests c m.size zeros (bare m)) (act c m)

-- the branches that a call merges into the entries that stay
unfoldable pub split_in : {X : Type 0} → Holding X → Merging → List X → Split X
split_in H (by_noise c) l = noise_split H c l
split_in H (by_reset q) l = reset_split H q l

unfoldable pub split_as : {X : Type 0} → Holding X → Kind → List X → Split X
split_as H (branching b) l = split_in H b l
split_as H turning l = record { stay = l; branches = [] }
split_as H moving l = record { stay = l; branches = [] }
split_as H (looking f) l = record { stay = l; branches = [] }

unfoldable pub split_by : {X : Type 0} → Holding X → Call → List X → Split X
unfolding split_as split_in kind_of
split_by H c l = split_as H (kind_of c) l
