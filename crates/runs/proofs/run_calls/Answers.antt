use Rattle.std.proofs.Common.{◌≡◌, refl, ℕ, List, [], ◌+◌, ◌*◌, ◌-◌, ◌<◌, ◌≤◌, ◌∙◌, sym, ap, subst, arith, length, drop}
use mathlib.Core.Bool.{Bool, true, false, cond, not, ◌&&◌}
use native.Mathlib.Nat.{add-sub_cancel_left}
use lib.Dec.{eqb}
use borrow.Rule.Slice.PartMut.{mid_of, mid_len, put_mid}
use Rattle.model.specs.Calls.{Lent, held}
use Rattle.model.specs.Demand3.{made_of}
use Rattle.model.specs.Known.{Known}
use Rattle.model.specs.declared.Answer.{Answer}
use Rattle.perform.specs.Encoding.{known, shows_words, call_of}
use Rattle.perform.specs.Records.{Made}
use Rattle.runs.specs.Runs.{count_in, calls_in, record_len}
use Rattle.runs.specs.declared.Room.{Room}
use Rattle.runs.proofs.Fitting.{Fitting, all-fits, words_at, call-within, log-within, text-within, words_long, calls-many, call_at, fits-at}
use Rattle.runs.proofs.Filling.{Running, running_none, running-next, running-end, made-next, made-end}
use Rattle.runs.proofs.run_calls.Goals as goal

-- the stretch of call i, of stretches of n words
abbrev stretch_of : ℕ → ℕ → List ℕ → List ℕ
stretch_of n i w = mid_of (i * n) (i * n + n - i * n) w

stretch-long : (n i : ℕ) (w : List ℕ) → i * n + n ≤ length w → length (stretch_of n i w) ≡ n
stretch-long n i w h = mid_len (i * n) (i * n + n) w h ∙ add-sub_cancel_left (i * n) n

-- what came back of it is put there
abbrev put_back : ℕ → ℕ → List ℕ → List ℕ → List ℕ
put_back n i w v = put_mid (i * n) (i * n + n - i * n) w v

-- after call i: if it ends the run, nothing is left to make
turned : (room : Room) (stop : Bool) (calls log₀ text₀ log text call out txt w : List ℕ) (len i : ℕ) (x₀ x : Lent) (a : Answer) (e : Bool)
    → Fitting room calls (length log₀) (length text₀) → len ≡ record_len room → i < count_in calls → length log ≡ length log₀ → length text ≡ length text₀
    → length out ≡ length (stretch_of len i log) → length txt ≡ length (stretch_of room.bytes i text)
    → call ≡ words_at calls i → Made (call_of (length (stretch_of room.bytes i text)) call) x a w (stretch_of len i log) out (stretch_of room.bytes i text) txt
    → (stop && not (eqb a.number 0)) ≡ e
    → Running len room.bytes (made_of stop (calls_in room.bytes calls) x₀) x₀ log₀ text₀ i (made_of stop (drop i (calls_in room.bytes calls)) x) x log text
    → Running len room.bytes (made_of stop (calls_in room.bytes calls) x₀) x₀ log₀ text₀ (i + 1) (cond e [] (made_of stop (drop (i + 1) (calls_in room.bytes calls)) (held a.header w))) (held a.header w) (put_back len i log out) (put_back room.bytes i text txt)
turned room stop calls log₀ text₀ log text call out txt w len i x₀ x a e f n h lk tk lo lt s m t r =
    let there : i * room.bytes + room.bytes ≤ length text = omega (arith, text-within f i h, tk) in
    let d = call_of room.bytes (words_at calls i) in
    let made : Made d x a w (stretch_of len i log) out (stretch_of room.bytes i text) txt =
    subst (λ (v : List ℕ). Made (call_of room.bytes v) x a w (stretch_of len i log) out (stretch_of room.bytes i text) txt) s
    (subst (λ (b : ℕ). Made (call_of b call) x a w (stretch_of len i log) out (stretch_of room.bytes i text) txt) (stretch-long room.bytes i text there) m) in
    running-next len room.bytes
    (made-next stop (calls_in room.bytes calls) i x made (omega (arith, calls-many calls room.bytes, h)) (call_at calls room.bytes i d h) e t)
    (omega (arith, log-within f i h n, lk)) there lo lt made r

pub record_len-words-requires : goal.record_len-words-requires
record_len-words-requires c = (all-fits c.args.room c.args.calls.now (length c.args.log.now) (length c.args.text.now) c.requires.0).shown

pub loop-made-init : goal.loop-made-init
loop-made-init c = (c.requires.1, running_none _ _ _ _ _ _)

pub stretch-call-requires : goal.stretch-call-requires
stretch-call-requires c = call-within c.args.calls.now c.loop-made.made c.loop-made-test.true

pub overflow_mul-from : goal.overflow_mul-from
overflow_mul-from c = omega (arith, log-within (all-fits c.args.room c.args.calls.now (length c.args.log.now) (length c.args.text.now) c.requires.0) c.loop-made.made c.loop-made-test.true c.record_len-words.ensures)

pub overflow_add-to : goal.overflow_add-to
overflow_add-to c = omega (arith, log-within (all-fits c.args.room c.args.calls.now (length c.args.log.now) (length c.args.text.now) c.requires.0) c.loop-made.made c.loop-made-test.true c.record_len-words.ensures)

pub overflow_mul-at : goal.overflow_mul-at
overflow_mul-at c = omega (arith, text-within (all-fits c.args.room c.args.calls.now (length c.args.log.now) (length c.args.text.now) c.requires.0) c.loop-made.made c.loop-made-test.true)

pub overflow_add-end : goal.overflow_add-end
overflow_add-end c = omega (arith, text-within (all-fits c.args.room c.args.calls.now (length c.args.log.now) (length c.args.text.now) c.requires.0) c.loop-made.made c.loop-made-test.true)

pub offset_bounds-log-from : goal.offset_bounds-log-from
offset_bounds-log-from c = omega (arith, log-within (all-fits c.args.room c.args.calls.now (length c.args.log.now) (length c.args.text.now) c.requires.0) c.loop-made.made c.loop-made-test.true c.record_len-words.ensures)

pub slice_bounds-perform-end : goal.slice_bounds-perform-end
slice_bounds-perform-end c = omega (arith, log-within (all-fits c.args.room c.args.calls.now (length c.args.log.now) (length c.args.text.now) c.requires.0) c.loop-made.made c.loop-made-test.true c.record_len-words.ensures)

pub slice_bounds-perform-end-in-loop-made : goal.slice_bounds-perform-end-in-loop-made
slice_bounds-perform-end-in-loop-made c = omega (arith, text-within (all-fits c.args.room c.args.calls.now (length c.args.log.now) (length c.args.text.now) c.requires.0) c.loop-made.made c.loop-made-test.true)

pub perform-a-requires-clause-call_len : goal.perform-a-requires-clause-call_len
perform-a-requires-clause-call_len c =
    let a = c.args in
    let l = c.loop-made in
    let h = c.loop-made-test.true in
    let f = all-fits a.room a.calls.now (length a.log.now) (length a.text.now) c.requires.0 in
    let t = fits-at a.calls.now a.room.shown l.made f.kinds h in
    (ap length c.stretch-call.ensures ∙ words_long a.calls.now l.made (call-within a.calls.now l.made h), ap known c.stretch-call.ensures ∙ t.kind, l.invariant.0)

pub perform-a-requires-clause-number_words_in_bounds : goal.perform-a-requires-clause-number_words_in_bounds
perform-a-requires-clause-number_words_in_bounds c =
    let a = c.args in
    let l = c.loop-made in
    let h = c.loop-made-test.true in
    let f = all-fits a.room a.calls.now (length a.log.now) (length a.text.now) c.requires.0 in
    let t = fits-at a.calls.now a.room.shown l.made f.kinds h in
    let n = stretch-long c.record_len-words.result l.made l.log (omega (arith, log-within f l.made h c.record_len-words.ensures)) ∙ c.record_len-words.ensures in
    (omega (arith, n), λ e. omega (arith, n, t.shows (ap shows_words (sym c.stretch-call.ensures) ∙ e)))

pub returns-then-ends : goal.returns-then-ends
returns-then-ends c =
    let a = c.args in
    let l = c.loop-made in
    running-end c.record_len-words.result a.room.bytes a.room refl c.record_len-words.ensures refl refl
    (turned a.room a.stop a.calls.now a.log.now a.text.now l.log l.text _ c.perform-a.new.out c.perform-a.new.text c.perform-a.new.store c.record_len-words.result l.made (held a.h a.store.now) (held l.header l.store) c.perform-a.result true
    (all-fits a.room a.calls.now (length a.log.now) (length a.text.now) c.requires.0) c.record_len-words.ensures c.loop-made-test.true l.auto.log l.auto.text c.perform-a.auto.out c.perform-a.auto.text
    c.stretch-call.ensures c.perform-a.ensures.made (sym c.ends.ensures ∙ c.if-ends.true) l.invariant.1)

pub loop-made-preserved : goal.loop-made-preserved
loop-made-preserved c =
    let a = c.args in
    let l = c.loop-made in (
      subst (λ (k : Bool). Known k (held c.perform-a.result.header c.perform-a.new.store)) (sym c.known_after-sure.ensures) c.perform-a.ensures.known,
      turned a.room a.stop a.calls.now a.log.now a.text.now l.log l.text _ c.perform-a.new.out c.perform-a.new.text c.perform-a.new.store c.record_len-words.result l.made (held a.h a.store.now) (held l.header l.store) c.perform-a.result false
          (all-fits a.room a.calls.now (length a.log.now) (length a.text.now) c.requires.0) c.record_len-words.ensures c.loop-made-test.true l.auto.log l.auto.text c.perform-a.auto.out c.perform-a.auto.text
          c.stretch-call.ensures c.perform-a.ensures.made (sym c.ends.ensures ∙ c.if-ends.false) l.invariant.1,
    )

pub returns : goal.returns
returns c =
    let a = c.args in
    let l = c.loop-made in
    let done : length (calls_in a.room.bytes a.calls.now) ≤ l.made = omega (arith, calls-many a.calls.now a.room.bytes, c.loop-made-test.false) in
    running-end c.record_len-words.result a.room.bytes a.room (omega arith) c.record_len-words.ensures refl (made-end a.stop (calls_in a.room.bytes a.calls.now) l.made (held l.header l.store) done) l.invariant.1
