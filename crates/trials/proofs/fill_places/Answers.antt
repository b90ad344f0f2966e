use Rattle.std.proofs.Common.{ℕ, List, [], ◌∷◌, ◌++◌, ◌+◌, ◌*◌, ◌-◌, ◌∙◌, ap, arith, take}
use Rattle.model.specs.Trials.{repeated}
use Rattle.trials.proofs.Places.{place-filled, all_placed}
use Rattle.trials.proofs.fill_places.Goals as goal

pub loop-place-preserved : goal.loop-place-preserved
loop-place-preserved c =
    let l = c.loop-place in
    let a = c.args in
    ap (λ (p : List ℕ). take (2 * (l.place + 1)) p ++ repeated (a.count - (l.place + 1)) (a.number ∷ a.entries ∷ [])) c.put_place.ensures
    ∙ place-filled l.places l.place a.count a.number a.entries (omega arith) (omega arith)
    ∙ l.invariant

pub returns : goal.returns
returns c =
    let l = c.loop-place in
    all_placed l.places l.place c.args.count c.args.number c.args.entries (omega arith) (omega arith) ∙ l.invariant
