-- Each return is the law of its answer; the entry and the slots past it are the two parts of the store.
use Rattle.std.proofs.Common.{◌≡◌, ℕ, ◌-◌, List, ◌++◌, replicate, length, sym, ap, ap₂, ◌∙◌, arith}
use Rattle.model.specs.Entries.{entry_len}
use Rattle.fresh.proofs.Begun.{within, slots-fit, few, refused-size, refused-bounds, empty, one_entry}
use Rattle.fresh.proofs.fresh.Goals as goal

pub returns-then-not-size_sound : goal.returns-then-not-size_sound
returns-then-not-size_sound c = refused-size _ _ _ _ c.plain_answer.ensures c.zero_header.ensures (sym c.size_sound.ensures ∙ c.if-not-size_sound.true)

pub returns-then-not-bounds_sound : goal.returns-then-not-bounds_sound
returns-then-not-bounds_sound c =
    refused-bounds _ _ _ _ c.plain_answer-then-not-bounds_sound.ensures c.zero_header-then-not-bounds_sound.ensures (sym c.size_sound.ensures ∙ c.if-not-size_sound.false)
    (sym c.bounds_sound.ensures ∙ c.if-not-bounds_sound.true)

pub entry_len-requires : goal.entry_len-requires
entry_len-requires c = within _ _ (sym c.size_sound.ensures ∙ c.if-not-size_sound.false)

pub split_at_mut-first-requires : goal.split_at_mut-first-requires
split_at_mut-first-requires c = omega (arith, c.entry_len.ensures, slots-fit _ _ (sym c.size_sound.ensures ∙ c.if-not-size_sound.false))

pub fresh_entry-requires : goal.fresh_entry-requires
fresh_entry-requires c =
    let e = sym c.size_sound.ensures ∙ c.if-not-size_sound.false in
    (within _ _ e, few _ _ e, c.split_at_mut-first.ensures.front_len ∙ c.entry_len.ensures)

pub returns-then-cutoff : goal.returns-then-cutoff
returns-then-cutoff c =
    let w = c.args.store.now in
    let past : length c.split_at_mut-first.result.1.now ≡ length w - entry_len c.args.size = omega (arith, c.split_at_mut-first.ensures.back_len, c.entry_len.ensures) in
    one_entry _ _ _ _ (sym c.size_sound.ensures ∙ c.if-not-size_sound.false) (sym c.bounds_sound.ensures ∙ c.if-not-bounds_sound.false) c.plain_answer-then-cutoff.ensures c.header.ensures
    (ap₂ (λ (x y : List ℕ). x ++ y) c.fresh_entry.ensures (c.fill.ensures.after (λ y e. e) ∙ ap (λ (m : ℕ). replicate m 0) past)) c.if-cutoff.true

pub returns : goal.returns
returns c =
    empty _ _ _ _ (sym c.size_sound.ensures ∙ c.if-not-size_sound.false) (sym c.bounds_sound.ensures ∙ c.if-not-bounds_sound.false) c.plain_answer-2.ensures c.header-2.ensures
    (c.fill-2.ensures.after (λ y e. e)) c.if-cutoff.false
