use Rattle.std.proofs.Common.{◌≡◌, ℕ, List, [], ◌+◌, ◌*◌, ◌<◌, ◌≤◌, ◌∙◌, sym, ap, add-one, arith, length, drop, get_or}
use mathlib.Core.Bool.{Bool}
use Rattle.model.specs.Lists.{groups, every}
use Rattle.model.proofs.Groups.{stride-le}
use Rattle.model.proofs.Lists.{every-next, every-stop, every-end, length-groups, group_at}
use Rattle.perform.specs.Encoding.{call_words, fitting}
use Rattle.runs.proofs.Fitting.{words_at, words_long}
use Rattle.runs.proofs.all_fitting.Goals as goal

-- call i's words are there
within : (calls : List ℕ) (count i : ℕ) → count * call_words ≤ length calls → i < count → i * call_words + call_words ≤ length calls
within calls count i r h = omega (arith, stride-le call_words i count h, r)

many : (calls : List ℕ) (count i : ℕ) → i < count → i < length (groups call_words count calls)
many calls count i h = omega (arith, length-groups call_words count calls, h)

-- .. and are tested
tested : (calls : List ℕ) (count i shown : ℕ) (call : List ℕ) (r b : Bool) → i < count → call ≡ words_at calls i → r ≡ fitting shown call → r ≡ b
    → fitting shown (get_or (groups call_words count calls) i []) ≡ b
tested calls count i shown call r b h e f g = ap (fitting shown) (group_at call_words count i calls h ∙ sym e) ∙ sym f ∙ g

pub stretch-call-requires : goal.stretch-call-requires
stretch-call-requires c = within c.args.calls.now c.args.count c.loop-i.i c.requires c.loop-i-test.true

pub fitting-requires : goal.fitting-requires
fitting-requires c = ap length c.stretch-call.ensures ∙ words_long c.args.calls.now c.loop-i.i (within c.args.calls.now c.args.count c.loop-i.i c.requires c.loop-i-test.true)

pub returns-then-not-fitting : goal.returns-then-not-fitting
returns-then-not-fitting c =
    let a = c.args in
    let i = c.loop-i.i in
    let h = c.loop-i-test.true in
    sym
    (every-stop (fitting a.shown) (groups call_words a.count a.calls.now) i [] (many a.calls.now a.count i h)
    (tested a.calls.now a.count i a.shown _ _ _ h c.stretch-call.ensures c.fitting.ensures c.if-not-fitting.true))
    ∙ c.loop-i.invariant

pub loop-i-preserved : goal.loop-i-preserved
loop-i-preserved c =
    let a = c.args in
    let i = c.loop-i.i in
    let h = c.loop-i-test.true in
    let g = groups call_words a.count a.calls.now in
    ap (λ (k : ℕ). every (fitting a.shown) (drop k g)) (add-one i)
    ∙ every-next (fitting a.shown) g i [] (many a.calls.now a.count i h) (tested a.calls.now a.count i a.shown _ _ _ h c.stretch-call.ensures c.fitting.ensures c.if-not-fitting.false)
    ∙ c.loop-i.invariant

pub returns : goal.returns
returns c =
    let a = c.args in
    let g = groups call_words a.count a.calls.now in
    sym (every-end (fitting a.shown) g c.loop-i.i (omega (arith, length-groups call_words a.count a.calls.now, c.loop-i-test.false))) ∙ c.loop-i.invariant
