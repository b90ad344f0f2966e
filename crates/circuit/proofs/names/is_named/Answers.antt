use Rattle.std.proofs.Common.{◌∙◌, sym, arith}
use Rattle.circuit.proofs.Spelled.{other_length, all_same, same_byte, other_byte}
use Rattle.circuit.proofs.names.is_named.Goals as goal

pub loop-i-preserved : goal.loop-i-preserved
loop-i-preserved c =
    same_byte c.args.word.now c.args.name.now c.loop-i.i (omega arith) (omega arith) c.capital.result c.capital.ensures c.if-capital-name.false
    ∙ c.loop-i.invariant

pub returns : goal.returns
returns c = sym (all_same c.args.word.now c.args.name.now c.loop-i.i (omega arith) (omega arith)) ∙ c.loop-i.invariant

pub returns-then-capital-name : goal.returns-then-capital-name
returns-then-capital-name c =
    other_byte c.args.word.now c.args.name.now c.loop-i.i (omega arith) (omega arith) c.capital.result c.capital.ensures c.if-capital-name.true
    ∙ c.loop-i.invariant

pub returns-then-word-name : goal.returns-then-word-name
returns-then-word-name c = sym (other_length c.args.word.now c.args.name.now c.if-word-name.true)
