use mathlib.Core.Path.{ap, ◌∙◌}
use Rattle.model.specs.Floats.{float, zero_bits}
use Rattle.model.specs.Table.{table_from, table_words}
use Rattle.table.proofs.put_table.Goals as goal

pub returns : goal.returns
unfolding table_words
returns c =
    c.put_totals.ensures ∙ ap (table_from (float zero_bits)) c.put_order.ensures
