use Rattle.std.proofs.Common.{◌*◌, sym, subst, arith}
use Rattle.model.specs.declared.Salts.{Salts}
use Rattle.model.proofs.Entries.{loss-word}
use Rattle.keys.specs.Tables.{PhaseMasks}
use Rattle.rebuild.proofs.Worked.{phase-loss-key-is, inside}
use Rattle.rebuild.proofs.phase_loss_key_at.Goals as goal

pub overflow_mul-loss : goal.overflow_mul-loss
overflow_mul-loss c = omega (arith, inside c.args.size c.args.i c.args.store.now c.entry_len-len.ensures c.requires.2)

pub overflow_add-loss : goal.overflow_add-loss
overflow_add-loss c = omega (arith, inside c.args.size c.args.i c.args.store.now c.entry_len-len.ensures c.requires.2, c.entry_len-len.ensures)

pub offset_bounds-store-i : goal.offset_bounds-store-i
offset_bounds-store-i c = omega (arith, inside c.args.size c.args.i c.args.store.now c.entry_len-len.ensures c.requires.2, c.entry_len-len.ensures)

pub bounds-store-i : goal.bounds-store-i
bounds-store-i c = omega (arith, inside c.args.size c.args.i c.args.store.now c.entry_len-len.ensures c.requires.2, c.entry_len-len.ensures)

pub phase_loss_key_from-requires : goal.phase_loss_key_from-requires
phase_loss_key_from-requires c =
    let b = c.args in
    (subst (λ (s : Salts). PhaseMasks s (2 * b.size.n) b.table.now) (sym c.usual_salts.ensures) c.requires.0, c.requires.1.qubits, omega (arith, c.rows_of-rows.ensures.1))

pub returns : goal.returns
returns c =
    let a = c.args in
    let len = c.entry_len-len in
    phase-loss-key-is a.size a.store.now a.i c.phase_loss_key_from.ensures c.usual_salts.ensures c.rows_of-rows.ensures.0 (loss-word a.size len.result a.i a.store.now len.ensures)
