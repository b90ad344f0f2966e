use mathlib.Core.Path.{sym, ◌∙◌}
use Rattle.model.specs.Calls.{held, noise}
use Rattle.model.proofs.Steps.{by_front, front-passed}
use Rattle.model.proofs.Sound.{front-sound, front-cutoff}
use Rattle.arms.proofs.Qubits.{below_more}
use Rattle.noise.proofs.Noised.{own_is}
use Rattle.noise.proofs.calls.noise_number.Goals as goal

pub returns-clause-may_run : goal.returns-clause-may_run
returns-clause-may_run c =
    let x = held c.args.h c.args.store.now in
    let own = c.own_number.result in
    λ z.
    let f = sym c.front.ensures ∙ z in
    let s = front-sound x own f in
    record {
      sound = s;
      cutoff = front-cutoff x own f;
      qubits = below_more x.header.size.n 64 c.args.arms.shape s.packed.sized.qubits.high (c.own_number.ensures.shape_below (front-passed _ x f).own-0);
      few = c.requires.0;
    }

pub returns-clause-store_value : goal.returns-clause-store_value
returns-clause-store_value c =
    let x = held c.args.h c.args.store.now in
    λ a h m. by_front (noise a) x _ _ (c.own_number.ensures.value a h m ∙ own_is a x.header.size x.header.count) c.front.ensures
