-- What a run that fits has. Assumes nothing.
use mathlib.Core.Path.{◌≡◌, sym, ap, ◌∙◌}
use mathlib.Core.Bool.{Bool, true, not, ◌&&◌, ◌||◌}
use mathlib.Core.List.{List, []}
use Prim.Native.Nat.{ℕ, ◌+◌, ◌*◌, ◌%◌, ◌<◌, ◌≤◌}
use native.Mathlib.Nat.{div-mul-le_self}
use native.Mathlib.Omega.{arith}
use lib.Dec.{eqb, leb}
use lib.ListN.{length, take, drop, get_or, length-map, length-drop}
use lib.Seq.{length-take-le}
use borrow.Author.Tests.{leb-true}
use Rattle.model.specs.Lists.{every}
use Rattle.model.specs.Calls.{Call}
use Rattle.model.proofs.Groups.{stride-le}
use Rattle.model.proofs.Lists.{and_both, every-at, length-groups, group_at, get_or-mapped}
use Rattle.perform.specs.Encoding.{call_words, shown_words, most_shown, known, shows_words, fitting, call_of}
use Rattle.runs.specs.Runs.{count_in, groups_in, calls_in, record_len, fits}
use Rattle.runs.specs.declared.Room.{Room}

pub record Fitting (room : Room) (calls : List ℕ) (log text : ℕ) : Type 0 where
  pub shown : room.shown ≤ most_shown
  pub records : count_in calls * record_len room ≤ log
  pub texts : count_in calls * room.bytes ≤ text
  pub kinds : every (fitting room.shown) (groups_in calls) ≡ true

module _ (room : Room) (calls : List ℕ) (log text : ℕ) where
  abbrev n : ℕ
  n = count_in calls

  pub all-fits : fits room calls log text ≡ true → Fitting room calls log text
  unfolding fits
  all-fits e =
      let whole = eqb (length calls % call_words) 0 in
      let small = leb room.shown most_shown in
      let records = leb (n * record_len room) log in
      let texts = leb (n * room.bytes) text in
      let b₁ = and_both (whole && small && records && texts) (every (fitting room.shown) (groups_in calls)) e in
      let b₂ = and_both (whole && small && records) texts b₁.0 in
      let b₃ = and_both (whole && small) records b₂.0 in
      record {
        shown = leb-true room.shown most_shown (and_both whole small b₃.0).1;
        records = leb-true (n * record_len room) log b₃.1;
        texts = leb-true (n * room.bytes) text b₂.1;
        kinds = b₁.1;
      }

  -- the five tests
  pub five : {a b d e f : Bool} → eqb (length calls % call_words) 0 ≡ a → leb room.shown most_shown ≡ b → leb (n * record_len room) log ≡ d → leb (n * room.bytes) text ≡ e
      → every (fitting room.shown) (groups_in calls) ≡ f → (a && b && d && e && f) ≡ fits room calls log text
  unfolding fits
  five p q r s t = rw (← p, ← q, ← r, ← s, ← t)

-- in call i's turn, its record and its text are there
module _ {room : Room} {calls : List ℕ} {log text : ℕ} (f : Fitting room calls log text) (i : ℕ) (h : i < count_in calls) where
  pub log-within : {len : ℕ} → len ≡ record_len room → i * len + len ≤ log
  log-within e = rw e (omega (arith, stride-le (record_len room) i (count_in calls) h, f.records))

  pub text-within : i * room.bytes + room.bytes ≤ text
  text-within = omega (arith, stride-le room.bytes i (count_in calls) h, f.texts)

-- ---- one call that fits: a known kind, and its record can show what it may show

pub record FittingCall (shown : ℕ) (w : List ℕ) : Type 0 where
  pub kind : known w ≡ true
  pub shows : shows_words w ≡ true → shown_words ≤ shown

pub call_fits : (shown : ℕ) (w : List ℕ) → fitting shown w ≡ true → FittingCall shown w
unfolding fitting
call_fits shown w e =
    let b = and_both (known w) (not (shows_words w) || leb shown_words shown) e in
    record { kind = b.0; shows = λ s. leb-true shown_words shown (rw s at b.1) }

-- ---- the words of call i

module _ (calls : List ℕ) where
  abbrev pub words_at : ℕ → List ℕ
  words_at i = take call_words (drop (i * call_words) calls)

  pub words-within : count_in calls * call_words ≤ length calls
  words-within = div-mul-le_self (length calls) call_words

  pub call-within : (i : ℕ) → i < count_in calls → i * call_words + call_words ≤ length calls
  call-within i h = omega (arith, stride-le call_words i (count_in calls) h, words-within)

  pub words_long : (i : ℕ) → i * call_words + call_words ≤ length calls → length (words_at i) ≡ call_words
  words_long i h = length-take-le call_words (drop (i * call_words) calls) (omega (arith, length-drop (i * call_words) calls))

  pub groups-many : length (groups_in calls) ≡ count_in calls
  groups-many = length-groups call_words (count_in calls) calls

  pub calls-many : (bytes : ℕ) → length (calls_in bytes calls) ≡ count_in calls
  calls-many bytes = length-map (groups_in calls) (call_of bytes) ∙ groups-many

  pub call_at : (bytes i : ℕ) (d : Call) → i < count_in calls → get_or (calls_in bytes calls) i d ≡ call_of bytes (words_at i)
  call_at bytes i d h =
      get_or-mapped (call_of bytes) (groups_in calls) i [] d (omega (arith, groups-many)) ∙ ap (call_of bytes) (group_at call_words (count_in calls) i calls h)

  pub fits-at : (shown i : ℕ) → every (fitting shown) (groups_in calls) ≡ true → i < count_in calls → FittingCall shown (words_at i)
  fits-at shown i e h =
      call_fits shown (words_at i)
      (ap (fitting shown) (sym (group_at call_words (count_in calls) i calls h)) ∙ every-at (fitting shown) (groups_in calls) i [] e (omega (arith, groups-many)))
