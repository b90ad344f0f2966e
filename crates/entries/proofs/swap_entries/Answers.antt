-- Both entries end within the store, and the exchange of two words is one step of the exchange of the entries.
use Rattle.std.proofs.Common.{◌+◌, ◌*◌, ◌<◌, length, arith, sym, subst, ◌∙◌}
use Rattle.std.proofs.lemmas.List.Edits.{swap_is}
use Rattle.entries.proofs.Slots.{slots_end, slot-end}
use Rattle.entries.proofs.Exchange.{Exchanging, one-exchanged, entries-exchanged}
use Rattle.entries.proofs.swap_entries.Goals as goal

pub swap-requires-clause-b_in_bounds : goal.swap-requires-clause-b_in_bounds
swap-requires-clause-b_in_bounds c =
    let a = c.args in
    let p = c.requires in
    omega (arith, slot-end a.size c.entry_len-len.result _ a.count p.0.sized c.entry_len-len.ensures p.0.room a.b p.2, c.loop-j.invariant.long)

pub loop-j-preserved : goal.loop-j-preserved
loop-j-preserved c =
    let a = c.args in
    let p = c.requires in
    let n = c.entry_len-len.result in
    let l = c.loop-j in
    let in-b : a.b * n + l.j < length l.store =
    omega (arith, slot-end a.size n _ a.count p.0.sized c.entry_len-len.ensures p.0.room a.b p.2, l.invariant.long) in
    let in-a : a.a * n + l.j < length l.store =
    omega (arith, slot-end a.size n _ a.count p.0.sized c.entry_len-len.ensures p.0.room a.a (omega arith), l.invariant.long) in
    subst (Exchanging n a.count a.a a.b a.store.now (l.j + 1))
    (swap_is l.store (a.a * n + l.j) (a.b * n + l.j) 0 in-a in-b ∙ sym c.swap.ensures.after)
    (one-exchanged n a.count a.a a.b a.store.now (slots_end a.size n _ a.count p.0.sized c.entry_len-len.ensures p.0.room) p.1 p.2 l.j l.store c.loop-j-test.true l.invariant)

pub returns : goal.returns
returns c =
    let a = c.args in
    let p = c.requires in
    let l = c.loop-j in
    entries-exchanged a.size a.count a.a a.b c.entry_len-len.result a.store.now p.0 c.entry_len-len.ensures p.1 p.2 l.j l.store c.loop-j-test.false l.invariant
