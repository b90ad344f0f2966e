-- An entry's part of number 5. Assumes nothing.
use Rattle.std.specs.Prelude.{Bool, ◌&&◌}
use Rattle.model.specs.Entries.{Entry}
use Rattle.model.specs.Numbers.{weight_sound, body_sound}
use Rattle.model.specs.declared.Size.{Size}

-- the weight and the body of one entry
unfoldable pub entry_sound : Size → Entry → Bool
entry_sound s e = weight_sound e.weight && body_sound s e.body
