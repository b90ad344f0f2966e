-- A refusal, or every entry turned.
use Rattle.std.proofs.Common.{sym, ap, ◌∙◌}
use Rattle.model.specs.Calls.{held, gave, gate, plain_answer}
use Rattle.model.specs.declared.Header.{Header}
use Rattle.model.specs.declared.Answer.{Answer}
use Rattle.model.proofs.Known.{stepped}
use Rattle.model.proofs.Sound.{front-sound}
use Rattle.model.proofs.Steps.{front-refuses, front-passes, refusal}
use Rattle.gates.proofs.Turned.{own-so, turnable, all-turned}
use Rattle.gates.proofs.call.gate_known.Goals as goal

pub returns-then-number-ne0 : goal.returns-then-number-ne0
returns-then-number-ne0 c =
    let x = held c.args.h c.args.store.now in
    let g = c.args.gate in
    stepped (gate g) c.args.known x _ _ c.requires
    (refusal x _ c.plain_answer.ensures (front-refuses (gate g) x _ _ (own-so x g c.test-own.ensures c.qubits_refused.ensures) c.front-number.ensures c.if-number-ne0.true))

pub turn_entries-requires : goal.turn_entries-requires
turn_entries-requires c =
    let x = held c.args.h c.args.store.now in
    let passed = sym c.front-number.ensures ∙ c.if-number-ne0.false in
    ((front-sound x _ passed).packed, turnable x c.args.gate c.test-own.ensures c.qubits_refused.ensures passed)

pub returns : goal.returns
returns c =
    let t = c.turn_entries in
    let x = held c.args.h c.args.store.now in
    let g = c.args.gate in
    stepped (gate g) c.args.known x _ _ c.requires
    (ap (λ (r : Answer). gave r t.new.store) (c.plain_answer-2.ensures ∙ ap (λ (h : Header). plain_answer h 0) c.header_with.ensures)
    ∙ all-turned x g t.new.store t.ensures.0 t.ensures.1
    ∙ sym (front-passes (gate g) x _ _ (own-so x g c.test-own.ensures c.qubits_refused.ensures) c.front-number.ensures c.if-number-ne0.false))
