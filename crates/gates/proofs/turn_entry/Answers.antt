-- Its rows are lent, and come back turned, if none of the gate's qubits is lost.
use Rattle.std.proofs.Common.{sym, ◌∙◌}
use Rattle.gates.proofs.Entries.{rows-turned, left_alone}
use Rattle.gates.proofs.turn_entry.Goals as goal

pub returns-then-is_live : goal.returns-then-is_live
returns-then-is_live c = rows-turned c.args.size c.args.gate c.args.e.now c.requires.1 (sym c.is_live.ensures ∙ c.if-is_live.true) c.turn_rows.ensures

pub returns-else-is_live : goal.returns-else-is_live
returns-else-is_live c = left_alone c.args.size c.args.gate c.args.e.now c.requires.1 (sym c.is_live.ensures ∙ c.if-is_live.false)
