use Rattle.std.proofs.Common.{sym, true, false}
use Rattle.circuit.specs.Lines.{tag_verdict, loss_tag, reset_tag}
use Rattle.circuit.proofs.SameBytes.{same_is}
use Rattle.circuit.proofs.tag_verdict.Goals as goal

pub returns-in-IError : goal.returns-in-IError
unfolding tag_verdict
returns-in-IError c = simp (c.in-IError.is, sym (same_is c.args.tag.now loss_tag true c.if-same.ensures))

pub returns-in-IError-2 : goal.returns-in-IError-2
unfolding tag_verdict
returns-in-IError-2 c = simp (c.in-IError-2.is, sym (same_is c.args.tag.now loss_tag false c.if-same.ensures))

pub returns-in-I : goal.returns-in-I
unfolding tag_verdict
returns-in-I c = simp (c.in-I.is, sym (same_is c.args.tag.now reset_tag true c.if-same-2.ensures))

pub returns-in-I-2 : goal.returns-in-I-2
unfolding tag_verdict
returns-in-I-2 c = simp (c.in-I-2.is, sym (same_is c.args.tag.now reset_tag false c.if-same-2.ensures))
