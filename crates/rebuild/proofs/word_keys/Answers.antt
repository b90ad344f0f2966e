use Rattle.std.proofs.Common.{◌≡◌, ℕ, ◌+◌, ◌≤◌, List, [], ◌∷◌, get_or, refl, ap, arith}
use native.Mathlib.Nat.{mul-le-mul_right}
use Rattle.model.specs.Entries.{entry_len}
use Rattle.model.specs.Keys.{word_key_of}
use Rattle.model.proofs.Groups.{stride-le}
use Rattle.model.proofs.Packed.{within}
use Rattle.entries.proofs.Slots.{limits}
use Rattle.rebuild.specs.Saved.{word_key_at}
use Rattle.rebuild.proofs.Worked.{worked-none, worked-next, worked-all}
use Rattle.rebuild.proofs.word_keys.Goals as goal

pub loop-i-init : goal.loop-i-init
loop-i-init c = (omega arith, worked-none _ _ refl)

pub four_at-requires : goal.four_at-requires
four_at-requires c =
    let b = c.args in
    (limits _ _ c.requires.sized, omega (arith, mul-le-mul_right (entry_len b.size) c.loop-i-test.true, within b.size b.count b.store.now c.requires))

pub loop-i-preserved : goal.loop-i-preserved
loop-i-preserved c =
    let f = word_key_at c.args.size c.args.store.now in
    let i = c.loop-i.i in
    let few : i + 4 ≤ 256 = omega (arith, c.requires.room, c.requires.sized.capacity.high) in
    let r : (k : ℕ) → get_or c.four_at.result k 0 ≡ get_or (f i ∷ f (i + 1) ∷ f (i + 2) ∷ f (i + 3) ∷ []) k 0 = λ k. ap (λ (l : List ℕ). get_or l k 0) c.four_at.ensures in
    (omega arith, worked-next f (i + 3) (i + 4) (omega arith) (omega arith) (worked-next f (i + 2) (i + 3) (omega arith) (omega arith) (worked-next f (i + 1) (i + 2) (omega arith) (omega arith) (worked-next f i (i + 1) refl (omega arith) c.loop-i.invariant.1 (r 0)) (r 1)) (r 2)) (r 3))

pub loop-j-init : goal.loop-j-init
loop-j-init c = c.loop-i.invariant.1

pub word_key_at-requires : goal.word_key_at-requires
word_key_at-requires c =
    let b = c.args in
    (limits _ _ c.requires.sized, omega (arith, stride-le (entry_len b.size) c.loop-j.j b.count c.loop-j-test.true, within b.size b.count b.store.now c.requires))

pub loop-j-preserved : goal.loop-j-preserved
loop-j-preserved c =
    worked-next (word_key_at c.args.size c.args.store.now) c.loop-j.j (c.loop-j.j + 1) refl (omega (arith, c.requires.room, c.requires.sized.capacity.high)) c.loop-j.invariant c.word_key_at.ensures

pub returns : goal.returns
returns c =
    let b = c.args in
    let w = c.loop-j.invariant in
    (w.words, worked-all b.size b.count b.store.now (λ e. word_key_of b.size.n e.entry.body) c.loop-j.j (omega arith) (omega (arith, c.requires.room, c.requires.sized.capacity.high)) w)
