-- The invariant: the first i are the masks of the rows below i.
use Rattle.changes.specs.Changes.{SignMasks}
use Rattle.changes.proofs.sign_masks.Given as goal

abbrev pub invariant-loop-i : goal.invariant-loop-i
invariant-loop-i l = SignMasks l.salts l.i l.masks
