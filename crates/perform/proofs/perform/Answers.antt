use Rattle.std.proofs.Common.{refl, subst, length}
use Rattle.model.specs.Calls.{Call, held, sheet, page, kind_of}
use Rattle.perform.specs.Records.{Made}
use Rattle.perform.specs.Said.{said_change, said_look}
use Rattle.perform.proofs.Encoded.{within}
use Rattle.perform.proofs.Records.{made-change, made-text, made-look, with-known}
use Rattle.perform.proofs.perform.Goals as goal

pub show-requires-clause-room : goal.show-requires-clause-room
show-requires-clause-room c = within c.in-Look.look c.args.call.now (length c.args.out.now) c.in-Look.ensures.shows c.requires.number_words_in_bounds.0 c.requires.number_words_in_bounds.1

pub returns-in-Change-clause-made : goal.returns-in-Change-clause-made
returns-in-Change-clause-made c =
    let a = c.args in
    subst (λ (d : Call). Made d (held a.h a.store.now) c.make-a.result c.make-a.new.store a.out.now c.put_numbers.new.out a.text.now a.text.now) (c.in-Change.ensures.said (length a.text.now))
    (made-change (said_change c.in-Change.change) (held a.h a.store.now) c.make-a.result c.make-a.new.store a.out.now a.text.now c.make-a.ensures.is c.put_numbers.ensures)

pub returns-in-Look-clause-known : goal.returns-in-Look-clause-known
returns-in-Look-clause-known c =
    (with-known c.args.known (held c.args.h c.args.store.now) c.requires.call_len.2 {c = said_look c.in-Look.look} (made-look c.args.text.now c.show.ensures)).1

pub returns-in-Sheet-clause-made : goal.returns-in-Sheet-clause-made
unfolding kind_of
returns-in-Sheet-clause-made c =
    let a = c.args in
    let r = c.write_sheet_known-a in
    subst (λ (d : Call). Made d (held a.h a.store.now) r.result a.store.now a.out.now c.put_numbers-in-Sheet.new.out a.text.now r.new.out) (c.in-Sheet.ensures.said (length a.text.now))
    (made-text (sheet (length a.text.now)) (held a.h a.store.now) r.result a.out.now a.text.now refl r.ensures.answer r.ensures.output c.put_numbers-in-Sheet.ensures)

pub returns-in-Sheet-clause-known : goal.returns-in-Sheet-clause-known
unfolding kind_of
returns-in-Sheet-clause-known c =
    let a = c.args in
    let r = c.write_sheet_known-a in
    (with-known a.known (held a.h a.store.now) c.requires.call_len.2
    (made-text (sheet (length a.text.now)) (held a.h a.store.now) r.result a.out.now a.text.now refl r.ensures.answer r.ensures.output c.put_numbers-in-Sheet.ensures)).1

pub returns-in-Page-clause-made : goal.returns-in-Page-clause-made
unfolding kind_of
returns-in-Page-clause-made c =
    let a = c.args in
    let r = c.write_page_known-a in
    subst (λ (d : Call). Made d (held a.h a.store.now) r.result a.store.now a.out.now c.put_numbers-in-Page.new.out a.text.now r.new.out) (c.in-Page.ensures.said (length a.text.now))
    (made-text (page (length a.text.now)) (held a.h a.store.now) r.result a.out.now a.text.now refl r.ensures.answer r.ensures.output c.put_numbers-in-Page.ensures)

pub returns-in-Page-clause-known : goal.returns-in-Page-clause-known
unfolding kind_of
returns-in-Page-clause-known c =
    let a = c.args in
    let r = c.write_page_known-a in
    (with-known a.known (held a.h a.store.now) c.requires.call_len.2
    (made-text (page (length a.text.now)) (held a.h a.store.now) r.result a.out.now a.text.now refl r.ensures.answer r.ensures.output c.put_numbers-in-Page.ensures)).1
