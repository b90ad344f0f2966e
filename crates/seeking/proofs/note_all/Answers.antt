use mathlib.Core.Path.{refl, ap, ◌∙◌}
use mathlib.Core.List.{List}
use Prim.Native.Nat.{ℕ}
use native.Mathlib.Omega.{arith}
use Rattle.model.specs.Entries.{entry_of}
use Rattle.model.specs.Keys.{stored_key}
use Rattle.seeking.specs.Noted.{seen_at}
use Rattle.seeking.proofs.Noting.{key-words, none-noted, one-noted}
use Rattle.seeking.proofs.note_all.Goals as goal

pub loop-i-init : goal.loop-i-init
loop-i-init c = none-noted _ _ _ c.requires.3 c.requires.4

pub loop-i-preserved : goal.loop-i-preserved
loop-i-preserved c =
    let a = c.args in
    let at = seen_at a.size a.places.now a.store.now in
    let e = c.entry_at-e in
    let key = key-words a.size e.result.now ∙ ap (λ (w : List ℕ). stored_key (entry_of a.size w)) e.ensures.0 in
    one-noted at at c.loop-i.invariant (λ j h. refl) (omega arith) key c.note.ensures.0 c.note.ensures.1
