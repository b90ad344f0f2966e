-- The invariant: the rows from i on are walked.
use Rattle.std.proofs.Common.{◌≡◌, ◌-◌, ◌≤◌, bit_xor}
use Rattle.model.specs.Keys.{x_bit, z_bit, mask_xor}
use Rattle.model.specs.declared.Salts.{Salts}
use Rattle.changes.specs.Changes.{SignMasks, packed}
use Rattle.changes.proofs.walk_rows.Given as goal

abbrev pub invariant-loop-i : goal.invariant-loop-i
invariant-loop-i l =
    (l.from ≤ l.i) × (l.xs ≡ packed (x_bit l.rows l.q) l.i (l.to - l.i)) × (l.zs ≡ packed (z_bit l.rows l.q) l.i (l.to - l.i))
    × ((s : Salts) → SignMasks s l.to l.masks
    → (bit_xor (mask_xor s.sign l.i (x_bit l.rows l.q)) l.x ≡ mask_xor s.sign l.to (x_bit l.rows l.q))
    × (bit_xor (mask_xor s.sign l.i (z_bit l.rows l.q)) l.z ≡ mask_xor s.sign l.to (z_bit l.rows l.q)))
