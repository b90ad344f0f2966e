-- What the channel leaves with keys rebuilt is what it leaves of the dirty sum, once a refused one has its keys put back.
use native.Mathlib.Nat.{le_refl}
use Rattle.noise.proofs.Ran.{rebuilt-sound, dirty-accepted, dirty-refused}
use Rattle.noise.proofs.run_dirty.Goals as goal

pub run_ready-answer-requires : goal.run_ready-answer-requires
run_ready-answer-requires c =
    let h = c.args.h in
    let r = c.requires.0 in
    record {
      sound = rebuilt-sound h.size h.count c.args.store.now _ r.sound c.rebuild_keys.ensures.0 c.rebuild_keys.ensures.1;
      cutoff = r.cutoff;
      qubits = r.qubits;
      few = r.few;
    }

pub returns-then-answer-eq0 : goal.returns-then-answer-eq0
returns-then-answer-eq0 c =
    let r = c.run_ready-answer.ensures in
    λ n h. dirty-accepted n c.args.h c.args.store.now _ c.requires.1 c.rebuild_keys.ensures.1 _ _ (r.store_after n h) (r.dirty_value c.if-answer-eq0.true)

pub returns : goal.returns
returns c =
    let count = c.args.h.count in
    let v = c.save_keys.ensures in
    λ n h.
    dirty-refused
    n c.args.h c.args.store.now _ c.requires.1 c.rebuild_keys.ensures.1 _ _ (c.run_ready-answer.ensures.store_after n h) c.if-answer-eq0.false _ _ _ v.2 v.3 c.requires.0.sound.packed c.rebuild_keys.ensures.0
    (c.restore_keys.ensures count (le_refl count))
