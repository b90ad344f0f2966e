use Rattle.std.proofs.Common.{ℕ, [], ◌∷◌, ◌+◌, get_or, bit_xor, ap, ◌∙◌}
use Rattle.branch.specs.Onto.{onto}
use Rattle.branch.proofs.Onto.{head-made}
use Rattle.branch.proofs.make_head.Goals as goal

pub returns : goal.returns
returns c =
    let a = c.args in
    let w = a.store.now in
    head-made a.to w a.weight c.loss_after.result (get_or w (a.from + 2) 0) (bit_xor (get_or w (a.from + 3) 0) a.delta) (get_or w (a.from + 4) 0) c.requires.1
    ∙ ap (λ (v : ℕ). onto a.to (a.weight ∷ v ∷ get_or w (a.from + 2) 0 ∷ bit_xor (get_or w (a.from + 3) 0) a.delta ∷ get_or w (a.from + 4) 0 ∷ []) w) c.loss_after.ensures
