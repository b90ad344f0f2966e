-- Where no bit is set the rows are copied as they are, which is what the mutation leaves; else in two parts.
use Rattle.std.proofs.Common.{arith}
use Rattle.changes.proofs.ChangeTables.{low-few}
use Rattle.branch.proofs.Kept.{copied-unflipped}
use Rattle.branch.proofs.Parts.{first-bits, second-bits, both-copied}
use Rattle.branch.proofs.copy_rows.Goals as goal

pub returns-then-c-eq0-2 : goal.returns-then-c-eq0-2
returns-then-c-eq0-2 c =
    let a = c.args in
    λ m f.
    copied-unflipped a.n m a.from a.to a.store.now a.c f c.if-c-eq0.true c.if-c-eq0-2.true c.requires.0 (omega arith) c.copy_part.ensures

pub copy_flipped-requires : goal.copy_flipped-requires
copy_flipped-requires c =
    let l = low-few c.args.n c.requires.0 c.low_rows-low.ensures in
    (omega arith, omega (arith, c.requires.1), omega (arith, c.requires.2))

pub overflow_mul-low : goal.overflow_mul-low
overflow_mul-low c = let l = low-few c.args.n c.requires.0 c.low_rows-low.ensures in omega (arith, c.requires.1, c.requires.2)

pub overflow_add-from : goal.overflow_add-from
overflow_add-from c = let l = low-few c.args.n c.requires.0 c.low_rows-low.ensures in omega (arith, c.requires.1, c.requires.2)

pub overflow_mul-low-2 : goal.overflow_mul-low-2
overflow_mul-low-2 c = let l = low-few c.args.n c.requires.0 c.low_rows-low.ensures in omega (arith, c.requires.1, c.requires.2)

pub overflow_add-to : goal.overflow_add-to
overflow_add-to c = let l = low-few c.args.n c.requires.0 c.low_rows-low.ensures in omega (arith, c.requires.1, c.requires.2)

pub overflow_sub-n : goal.overflow_sub-n
overflow_sub-n c = let l = low-few c.args.n c.requires.0 c.low_rows-low.ensures in omega (arith, c.requires.1, c.requires.2)

pub copy_flipped-requires-2 : goal.copy_flipped-requires-2
copy_flipped-requires-2 c =
    let l = low-few c.args.n c.requires.0 c.low_rows-low.ensures in
    (omega arith, omega (arith, c.requires.1), omega (arith, c.requires.2, c.copy_flipped.auto.store))

pub returns : goal.returns
returns c =
    let low = c.low_rows-low.ensures in
    let a = c.args in
    let s = c.requires in
    λ m f.
    let first = c.copy_flipped.ensures m (first-bits a.n s.0 m a.from a.to a.store.now s.1 s.2 a.c f low) in
    both-copied a.n s.0 m a.from a.to a.store.now s.1 s.2 a.c f low first
    (c.copy_flipped-2.ensures m (second-bits a.n s.0 m a.from a.to a.store.now s.1 s.2 a.c f low first))
