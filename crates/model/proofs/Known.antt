-- A CALL KEEPS WHAT IS KNOWN: accepted or refused, it leaves a header and words that are `Checked` if it is given such; an accepted call
-- leaves such of any, and an accepted start begins with such. So a list of calls looks through the bodies once, and of number 5 the weights
-- alone are left to test. Assumes nothing.
use Prim.Native.Nat.{ℕ, ◌*◌, ◌≤◌}
use native.Mathlib.Omega.{arith}
use mathlib.Core.Path.{◌≡◌, refl, sym, ap, subst, ◌∙◌}
use mathlib.Core.Bool.{Bool, true, false, true≢false, not}
use mathlib.Core.List.{List, [], ◌∷◌, map, append-nil}
use lib.Dec.{eqb}
use lib.ListN.{length, length-map}
use borrow.Author.Tests.{le-leb, eqb-true, eqb-false, not-false}
use Rattle.model.specs.Entries.{Body, Entry, Keyed, strip, entry_len, listed, pack}
use Rattle.model.specs.Keys.{usual_salts}
use Rattle.model.specs.Sum.{Result, done}
use Rattle.model.specs.Sheet.{Sheet}
use Rattle.model.specs.Numbers.{first_of, size_sound, bounds_sound, header_sound, body_sound, weights_sound, bodies_sound, entries_sound}
use Rattle.model.specs.Calls.{Call, noise, reset, gate, truncate, normalise, table, pick, sheet, view, page, Sum, with_list, Outcome, argument_tests, act, Lent, held, engine, sum_of, Kind, branching, turning, moving, looking, kind_of, rebuilt, words_after, dirty_after, header_with, plain_answer, accepted, Left, gave, left, words_sound, front, worked, step, Start, start_dirty, start_keyed, sheet_header, left_by, start}
use Rattle.model.specs.Demand3.{next, after_calls}
use Rattle.model.specs.Known.{Checked, Known, known_after, Stepped}
use Rattle.model.specs.declared.Answer.{Answer}
use Rattle.model.specs.declared.Header.{Header}
use Rattle.model.specs.declared.Size.{Size}
use Rattle.model.proofs.Lists.{and-true}
use Rattle.model.proofs.Each.{Each, each_map, each-unmap, each_of, every_of}
use Rattle.model.proofs.Entries.{length-listed}
use Rattle.model.proofs.Shape.{Shaped, shaped, sized, listed-within}
use Rattle.model.proofs.Packed.{FullBody, Fits}
use Rattle.model.proofs.Packs.{pack-length, pack-zeros, pack-listed, listed-fits}
use Rattle.model.proofs.Sound.{sound-sum}
use Rattle.model.proofs.Steps.{bare-rebuilt, front-refuses, front-passes, front-passed}
use Rattle.model.proofs.Yields.{Yields, given, not-given, yields_more, yields_both, yields-unless, passed}
use Rattle.model.proofs.Kept.{KeptBody, body_kept, keyed-holds, act-keeps}
use Rattle.model.proofs.Full.{full-kept}
use Rattle.model.proofs.Bodies.{sound-kept}
use Rattle.model.proofs.Room.{act-room}
use Rattle.model.proofs.Starts.{Started, begun-with, not-begun, started, start-strip}

-- ---- told or not

pub known-checked : (k : Bool) (x : Lent) → Known k x → k ≡ true → Checked x
known-checked true x b e = b
known-checked false x b e = absurd (true≢false (sym e))

-- of number 5 the weights are left
pub known-words : (x : Lent) → Checked x → words_sound x ≡ weights_sound (map strip (listed x.header.size x.header.count x.words))
unfolding entries_sound
known-words x b = rw (b.zeros, b.bodies) (and-true (weights_sound (map strip (sum_of x).entries)))

-- what the tests in front of a call tell
pub passed-checked : (own : ℕ) (x : Lent) → front own x ≡ 0 → Checked x
passed-checked own x e =
    let p = front-passed own x e in
    let s = sound-sum x p.shaped p.words in
    record { shaped = p.shaped; zeros = s.packed.zeros; bodies = s.bodies }

-- ---- the store of a list

abbrev SoundBody : Size → Body → Type 0
SoundBody s b = body_sound s b ≡ true

-- the predicate P of an entry's body
abbrev OfBody : (Body → Type 0) → Keyed → Type 0
OfBody P e = P e.entry.body

module _ (P : Body → Type 0) where
  abbrev OfBare : Entry → Type 0
  OfBare e = P e.body

  without-keys : {es : List Keyed} → Each (OfBody P) es → Each OfBare (map strip es)
  without-keys a = each_map (OfBody P) OfBare strip (λ e p. p) a

  with_keys-each : (es : List Keyed) → Each OfBare (map strip es) → Each (OfBody P) es
  with_keys-each es a = each-unmap (OfBody P) OfBare strip (λ e p. p) es a

-- a list that has its place in a store, and whose bodies are sound
record Fine (s : Size) (es : List Keyed) : Type 0 where
  full : Each (Fits s) es
  sound : Each (OfBody (SoundBody s)) es
  room : length es ≤ s.capacity

module _ (h : Header) (z : size_sound h.size (h.size.capacity * entry_len h.size) ≡ true) (o : bounds_sound h.threshold h.cutoff ≡ true) where
  packed-checked : (es : List Keyed) (dirty : Bool) → Fine h.size es → Checked (held (header_with h (length es) dirty) (pack h.size es))
  unfolding first_of header_sound bodies_sound
  packed-checked es dirty f =
      let s = h.size in
      record {
        shaped = rw (pack-length s f.full f.room, z, le-leb (length es) s.capacity f.room, o);
        zeros = pack-zeros s f.full;
        bodies =
            ap (λ (l : List Keyed). bodies_sound s (map strip l)) (pack-listed s f.full)
            ∙ every_of (λ e. body_sound s e.body) (without-keys (SoundBody s) f.sound);
      }

-- ---- one call

rebuilt-is : (k : Kind) (dirty : Bool) (m : Sum Keyed) → rebuilt k dirty m ≡ with_list m (rebuilt k dirty m).entries
unfolding rebuilt
rebuilt-is (branching b) dirty m = refl
rebuilt-is turning dirty m = refl
rebuilt-is moving dirty m = refl
rebuilt-is (looking f) dirty m = refl

module _ (c : Call) (x : Lent) (b : Checked x) where
  abbrev s : Size
  s = x.header.size

  shape_of : Shaped x
  shape_of = shaped x b.shaped

  -- the list that it works on: the one that is given, with its keys rebuilt or not
  abbrev works : List Keyed
  works = (worked c x).entries

  bare-works : map strip works ≡ map strip (sum_of x).entries
  bare-works = bare-rebuilt (kind_of c) x.header.dirty (sum_of x)

  works-length : length works ≡ x.header.count
  works-length =
      sym (length-map works strip) ∙ ap length bare-works ∙ length-map (sum_of x).entries strip ∙ length-listed s x.header.count x.words

  works-each : (P : Body → Type 0) → Each (OfBare P) (map strip (sum_of x).entries) → Each (OfBody P) works
  works-each P a = with_keys-each P works (subst (Each (OfBare P)) (sym bare-works) a)

  works-fine : Fine s works
  unfolding bodies_sound
  works-fine =
      record {
        full = works-each (FullBody s) (without-keys (FullBody s) (listed-fits s x.header.count x.words (listed-within x shape_of)));
        sound = works-each (SoundBody s) (each_of _ _ b.bodies);
        room = omega (arith, works-length, shape_of.count);
      }

  -- it leaves such a list, if its own tests give no number
  leaves-fine : first_of (argument_tests c s x.header.count) ≡ 0 → Yields (λ o. Fine s o.tally.entries) (act engine c (worked c x))
  leaves-fine e =
      let m = with_list (sum_of x) works in
      let f = works-fine in
      let kept : (P : Body → Type 0) → KeptBody s.n P → Each (OfBody P) works → Yields (λ o. Each (OfBody P) o.tally.entries) (act engine c m) =
      λ P k a. act-keeps engine m (OfBody P) (body_kept (engine s x.header.threshold) s.n P (keyed-holds usual_salts s x.header.threshold) k) a c x.header.count [] (ap first_of (append-nil (argument_tests c s x.header.count)) ∙ e) in
      subst (λ (n : Sum Keyed). Yields (λ o. Fine s o.tally.entries) (act engine c n)) (sym (rebuilt-is (kind_of c) x.header.dirty (sum_of x)))
      (yields_more _ _ (λ o p. record { full = p.0; sound = p.1.0; room = p.1.1 })
      (yields_both _ _ (kept (FullBody s) (full-kept s) f.full) (yields_both _ _ (kept (SoundBody s) (sound-kept s) f.sound) (act-room engine m f.room c))))

  size_is : size_sound s (s.capacity * entry_len s) ≡ true
  size_is = ap (size_sound s) (sym shape_of.size.words) ∙ not-false (size_sound s (length x.words)) (passed (not (size_sound s (length x.words))) 0 _ b.shaped).0

  -- a store that it writes
  written : (dirty : Bool) (o : Outcome Keyed) → Fine s o.tally.entries → Checked (held (header_with x.header (length o.tally.entries) dirty) (pack s o.tally.entries))
  written dirty o f = packed-checked x.header size_is shape_of.bounds o.tally.entries dirty f

  -- a store that it leaves alone
  unwritten : Checked (held (header_with x.header (length (sum_of x).entries) x.header.dirty) x.words)
  unwritten = subst (λ (k : ℕ). Checked (held (header_with x.header k x.header.dirty) x.words)) (sym (length-listed s x.header.count x.words)) b

-- what is left where a call gave r
LeftChecked : Call → Lent → Result (Outcome Keyed) → Type 0
LeftChecked c x r = Checked (next (left c x (worked c x) r))

-- the call itself, after its tests
acted-checked : (c : Call) (x : Lent) → Checked x → first_of (argument_tests c x.header.size x.header.count) ≡ 0 → Yields (λ o. LeftChecked c x (done o)) (act engine c (worked c x))
unfolding LeftChecked left accepted kind_of words_after dirty_after rebuilt act
acted-checked (noise n) x b e = yields_more _ _ (written (noise n) x b _) (leaves-fine (noise n) x b e)
acted-checked (reset q) x b e = yields_more _ _ (written (reset q) x b _) (leaves-fine (reset q) x b e)
acted-checked (gate g) x b e = yields_more _ _ (written (gate g) x b _) (leaves-fine (gate g) x b e)
acted-checked truncate x b e = yields_more _ _ (written truncate x b _) (leaves-fine truncate x b e)
acted-checked normalise x b e = yields_more _ _ (written normalise x b _) (leaves-fine normalise x b e)
acted-checked (table room) x b e = yields-unless _ _ (λ _. given (unwritten (table room) x b))
acted-checked (pick draw) x b e = yields-unless _ _ (λ _. given (unwritten (pick draw) x b))
acted-checked (sheet room) x b e = yields-unless _ _ (λ _. given (unwritten (sheet room) x b))
acted-checked (view place) x b e = given (unwritten (view place) x b)
acted-checked (page room) x b e = yields-unless _ _ (λ _. given (unwritten (page room) x b))

-- a refusal leaves all as it was
left-checked : (c : Call) (x : Lent) → Checked x → {r : Result (Outcome Keyed)} → Yields (λ o. LeftChecked c x (done o)) r → LeftChecked c x r
unfolding LeftChecked left plain_answer
left-checked c x b (given p) = p
left-checked c x b not-given = b

module _ (c : Call) (x : Lent) where
  -- the number of its own tests, and that of all the tests in front
  abbrev own : ℕ
  own = first_of (argument_tests c x.header.size x.header.count)

  abbrev first : ℕ
  first = front own x

  through-checked : first ≡ 0 → Checked x → Checked (next (step c x))
  unfolding LeftChecked
  through-checked z b =
      subst (λ (l : Left). Checked (next l)) (sym (front-passes c x own first refl refl z)) (left-checked c x b (acted-checked c x b (front-passed own x z).own-0))

  refused-checked : (first ≡ 0 → ⊥) → Checked x → Checked (next (step c x))
  unfolding plain_answer
  refused-checked h b = subst (λ (l : Left). Checked (next l)) (sym (front-refuses c x own first refl refl h)) b

  -- ONE CALL, accepted or refused
  pub step-checked : Checked x → Checked (next (step c x))
  step-checked b = go (eqb first 0) refl
    where
      go : (t : Bool) → eqb first 0 ≡ t → Checked (next (step c x))
      go true e = through-checked (eqb-true first 0 e) b
      go false e = refused-checked (eqb-false first 0 e) b

  -- a call that gives 0 has passed the tests in front
  accepted-passed : (step c x).answer.number ≡ 0 → first ≡ 0
  unfolding plain_answer
  accepted-passed e = go (eqb first 0) refl
    where
      go : (t : Bool) → eqb first 0 ≡ t → first ≡ 0
      go true p = eqb-true first 0 p
      go false p = sym (ap (λ (l : Left). l.answer.number) (front-refuses c x own first refl refl (eqb-false first 0 p))) ∙ e

  -- AN ACCEPTED CALL, whatever was known before it: it has looked through all words
  pub accepted-checked : (step c x).answer.number ≡ 0 → Checked (next (step c x))
  accepted-checked e = let z = accepted-passed e in through-checked z (passed-checked own x z)

-- A LIST OF CALLS
pub calls-checked : (cs : List Call) (x : Lent) → Checked x → Checked (after_calls cs x)
unfolding after_calls
calls-checked [] x b = b
calls-checked (c ∷ cs) x b = calls-checked cs (next (step c x)) (step-checked c x b)

-- ---- as a call is told

pub step-known : (c : Call) (k : Bool) (x : Lent) → Known k x → Known (known_after k (step c x).answer.number) (next (step c x))
step-known c true x b = step-checked c x b
step-known c false x b = go (eqb (step c x).answer.number 0) refl
  where
    go : (t : Bool) → eqb (step c x).answer.number 0 ≡ t → Known t (next (step c x))
    go true e = accepted-checked c x (eqb-true (step c x).answer.number 0 e)
    go false e = tt

-- .. an answer and words that are what the call gives
pub stepped : (c : Call) (k : Bool) (x : Lent) (r : Answer) (w : List ℕ) → Known k x → gave r w ≡ step c x → Stepped c k x r w
stepped c k x r w b e =
    record { is = e; after = subst (λ (l : Left). Known (known_after k l.answer.number) (next l)) (sym e) (step-known c k x b) }

-- ---- A START

begun-checked : (b : Start) (w : List ℕ) {r : Result Sheet} → Started (length w) r → (left_by b w r).answer.number ≡ 0 → Checked (next (left_by b w r))
unfolding left_by plain_answer bodies_sound
begun-checked b w (not-begun h) e = absurd (h e)
begun-checked b w (begun-with {t = t} z o h f) e =
    let s = t.size in
    let es = map (start_keyed b s.n) t.entries in
    let keyed : (P : Body → Type 0) → Each (OfBare P) t.entries → Each (OfBody P) es =
    λ P a. with_keys-each P es (subst (Each (OfBare P)) (sym (start-strip b s.n t.entries)) a) in
    let n = length-map t.entries (start_keyed b s.n) in
    let size : size_sound s (s.capacity * entry_len s) ≡ true = ap (size_sound s) (sym (sized s (length w) z).words) ∙ z in
    subst (λ (k : ℕ). Checked (held (header_with (sheet_header t (start_dirty b)) k (start_dirty b)) (pack s es))) n
    (packed-checked (sheet_header t (start_dirty b)) size o es (start_dirty b)
    (record { full = keyed (FullBody s) h.each; sound = keyed (SoundBody s) (each_of _ t.entries f); room = omega (arith, n, h.room) }))

pub start-checked : (b : Start) (w : List ℕ) → (start b w).answer.number ≡ 0 → Checked (next (start b w))
unfolding start
start-checked b w e = begun-checked b w (started b (length w)) e
