use Rattle.std.proofs.Common.{ℕ, List, [], ◌∷◌, ◌++◌, ◌+◌, ◌*◌, ◌≤◌, ◌∙◌, sym, ap, append_assoc, append-nil, arith, length, take}
use mathlib.Core.Bool.{true}
use lib.Seq.{take_all}
use Rattle.model.specs.Calls.{Call, held}
use Rattle.model.specs.Demand3.{after_calls}
use Rattle.model.specs.Trials.{accepted_of, places_of}
use Rattle.trials.proofs.Places.{place-put}
use Rattle.trials.proofs.Turns.{turn_on, shown-on, turn-ends, shown-ends, rest, rest-none}
use Rattle.trials.proofs.run_trial.Goals as goal

pub returns-then-a-ne0-clause-left : goal.returns-then-a-ne0-clause-left
returns-then-a-ne0-clause-left c =
    let l = c.loop-i in
    let a = c.args in
    turn-ends a.count l.i a.channels a.qubits c.loop-i-test.true (omega arith) (omega arith) true (held l.header l.store) c.channel_known-a.result _ c.channel_known-a.ensures c.if-a-ne0.true
    ∙ l.invariant.1

pub returns-then-a-ne0-clause-shown : goal.returns-then-a-ne0-clause-shown
returns-then-a-ne0-clause-shown c =
    let l = c.loop-i in
    let a = c.args in
    c.fill_places.ensures
    ∙ ap (λ (p : List ℕ). take (2 * l.i) l.places ++ p)
    (shown-ends a.count l.i a.channels a.qubits c.loop-i-test.true (omega arith) (omega arith) true (held l.header l.store) c.channel_known-a.result _ c.channel_known-a.ensures c.if-a-ne0.true)
    ∙ l.invariant.2

pub loop-i-preserved : goal.loop-i-preserved
loop-i-preserved c =
    let l = c.loop-i in
    let a = c.args in
    let h = c.loop-i-test.true in
    let f : a.count ≤ length a.channels = omega arith in
    let g : a.count ≤ length a.qubits = omega arith in
    let r = c.channel_known-a.result in
    let x = held l.header l.store in
    let s = c.channel_known-a.ensures in
    let z = c.if-a-ne0.false in
    let q = places_of (rest a.count a.channels a.qubits (l.i + 1)) (held r.header c.channel_known-a.new.store) in (
      s.after,
      turn_on a.count l.i a.channels a.qubits h f g true x r _ s z ∙ l.invariant.1,
      ap (λ (p : List ℕ). take (2 * (l.i + 1)) p ++ q) c.put_place.ensures
          ∙ ap (λ (p : List ℕ). p ++ q) (place-put l.places l.i 0 r.header.count (omega arith))
          ∙ append_assoc (take (2 * l.i) l.places) (0 ∷ r.header.count ∷ []) q
          ∙ ap (λ (p : List ℕ). take (2 * l.i) l.places ++ p) (shown-on a.count l.i a.channels a.qubits h f g true x r _ s z)
          ∙ l.invariant.2,
    )

pub returns-clause-left : goal.returns-clause-left
unfolding accepted_of after_calls
returns-clause-left c =
    let l = c.loop-i in
    let a = c.args in
    let x = held l.header l.store in
    ap (λ (cs : List Call). after_calls (accepted_of cs x) x) (sym (rest-none a.count l.i a.channels a.qubits c.loop-i-test.false)) ∙ l.invariant.1

pub returns-clause-shown : goal.returns-clause-shown
unfolding places_of
returns-clause-shown c =
    let l = c.loop-i in
    let a = c.args in
    let x = held l.header l.store in
    sym (append-nil l.places)
    ∙ ap (λ (p : List ℕ). p ++ []) (sym (take_all (2 * l.i) l.places (omega arith)))
    ∙ ap (λ (cs : List Call). take (2 * l.i) l.places ++ places_of cs x) (sym (rest-none a.count l.i a.channels a.qubits c.loop-i-test.false))
    ∙ l.invariant.2
