use Rattle.std.proofs.Common.{◌+◌, ◌*◌, refl, subst, arith}
use Rattle.model.specs.Entries.{entry_len}
use Rattle.model.specs.Keys.{usual_salts, phase_loss_key_of}
use Rattle.model.specs.declared.Salts.{Salts}
use Rattle.model.proofs.Groups.{stride-le}
use Rattle.model.proofs.Packed.{within}
use Rattle.keys.specs.Tables.{PhaseMasks}
use Rattle.entries.proofs.Slots.{limits}
use Rattle.rebuild.specs.Saved.{phase_loss_key_at}
use Rattle.rebuild.proofs.Worked.{worked-none, worked-next, worked-all}
use Rattle.rebuild.proofs.phase_loss_keys.Goals as goal

pub overflow_mul-size : goal.overflow_mul-size
overflow_mul-size c = omega (arith, c.requires.sized.qubits.high)

pub phase_masks-table-requires : goal.phase_masks-table-requires
phase_masks-table-requires c = omega (arith, c.requires.sized.qubits.high)

pub loop-i-init : goal.loop-i-init
loop-i-init c = worked-none _ _ refl

pub phase_loss_key_at-requires : goal.phase_loss_key_at-requires
phase_loss_key_at-requires c =
    let b = c.args in
    let table = c.phase_masks-table in
    (subst (λ (s : Salts). PhaseMasks s (2 * b.size.n) table.result) c.usual_salts.ensures table.ensures, limits _ _ c.requires.sized, omega (arith, stride-le (entry_len b.size) c.loop-i.i b.count c.loop-i-test.true, within b.size b.count b.store.now c.requires))

pub loop-i-preserved : goal.loop-i-preserved
loop-i-preserved c =
    worked-next (phase_loss_key_at c.args.size c.args.store.now) c.loop-i.i (c.loop-i.i + 1) refl (omega (arith, c.requires.room, c.requires.sized.capacity.high)) c.loop-i.invariant c.phase_loss_key_at.ensures

pub returns : goal.returns
returns c =
    let b = c.args in
    let w = c.loop-i.invariant in
    (w.words, worked-all b.size b.count b.store.now (λ e. phase_loss_key_of usual_salts b.size.n e.entry.body) c.loop-i.i (omega arith) (omega (arith, c.requires.room, c.requires.sized.capacity.high)) w)
