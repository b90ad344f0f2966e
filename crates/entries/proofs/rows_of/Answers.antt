use Rattle.std.proofs.Common.{ap, ◌∙◌, arith, ◌+◌, ◌*◌, length, length-drop, drop}
use Rattle.model.specs.Entries.{entry_of}
use Rattle.model.proofs.Entries.{part-tail}
use Rattle.entries.proofs.rows_of.Goals as goal

-- the part of an entry's words from its rows on
pub returns : goal.returns
unfolding entry_of
returns c =
    let k = 5 + 3 * c.args.size.k in
    let w = c.entry.result.now in
    (part-tail k w ∙ ap (drop k) c.entry.ensures.0, omega (arith, ap length (part-tail k w), length-drop k w, c.entry.ensures.1))
