-- The names of the instructions, as Stim has them, and what each asks for. A name is written in capitals here, and in letters of any case
-- in a circuit. Assumes nothing.
use Rattle.std.specs.Prelude.{Bool, true, false, ◌&&◌, cond, List, [], ◌∷◌, ℕ, ◌-◌, eqb, ltb, Float, get_or}
use Rattle.std.specs.Float.{nan}
use Rattle.model.specs.Floats.{float, zero_bits}
use Rattle.model.specs.declared.Channel.TheVariants.{Pauli, Loss, Depolarizing}
use Rattle.circuit.specs.declared.lines.Name.{Name}
use Rattle.circuit.specs.declared.lines.Act.{Act}
use Rattle.circuit.specs.declared.lines.Item.{Item}
use Rattle.circuit.specs.declared.lines.Item.TheVariants.{Nothing, Call}

-- a letter's capital; any other byte as it is
unfoldable pub capital : ℕ → ℕ
capital b = cond (ltb b 97) b (cond (ltb 122 b) b (b - 32))

-- a word is a name
unfoldable pub spells : List ℕ → List ℕ → Bool
spells [] [] = true
spells [] (y ∷ ys) = false
spells (x ∷ xs) [] = false
spells (x ∷ xs) (y ∷ ys) = eqb (capital x) y && spells xs ys

-- I, TICK, REPEAT
unfoldable pub named_rest : List ℕ → Name
named_rest w =
    cond (spells w (73 ∷ [])) Name.I
    (cond (spells w (84 ∷ 73 ∷ 67 ∷ 75 ∷ [])) Name.Tick
    (cond (spells w (82 ∷ 69 ∷ 80 ∷ 69 ∷ 65 ∷ 84 ∷ [])) Name.Repeat
    Name.Other))

-- DEPOLARIZE1, DEPOLARIZE2, PAULI_CHANNEL_1, PAULI_CHANNEL_2
unfoldable pub named_channel : List ℕ → Name
named_channel w =
    cond (spells w (68 ∷ 69 ∷ 80 ∷ 79 ∷ 76 ∷ 65 ∷ 82 ∷ 73 ∷ 90 ∷ 69 ∷ 49 ∷ [])) Name.Depolarize1
    (cond (spells w (68 ∷ 69 ∷ 80 ∷ 79 ∷ 76 ∷ 65 ∷ 82 ∷ 73 ∷ 90 ∷ 69 ∷ 50 ∷ [])) Name.Depolarize2
    (cond (spells w (80 ∷ 65 ∷ 85 ∷ 76 ∷ 73 ∷ 95 ∷ 67 ∷ 72 ∷ 65 ∷ 78 ∷ 78 ∷ 69 ∷ 76 ∷ 95 ∷ 49 ∷ [])) Name.PauliChannel1
    (cond (spells w (80 ∷ 65 ∷ 85 ∷ 76 ∷ 73 ∷ 95 ∷ 67 ∷ 72 ∷ 65 ∷ 78 ∷ 78 ∷ 69 ∷ 76 ∷ 95 ∷ 50 ∷ [])) Name.PauliChannel2
    (named_rest w))))

-- X_ERROR, Y_ERROR, Z_ERROR, I_ERROR
unfoldable pub named_error : List ℕ → Name
named_error w =
    cond (spells w (88 ∷ 95 ∷ 69 ∷ 82 ∷ 82 ∷ 79 ∷ 82 ∷ [])) Name.XError
    (cond (spells w (89 ∷ 95 ∷ 69 ∷ 82 ∷ 82 ∷ 79 ∷ 82 ∷ [])) Name.YError
    (cond (spells w (90 ∷ 95 ∷ 69 ∷ 82 ∷ 82 ∷ 79 ∷ 82 ∷ [])) Name.ZError
    (cond (spells w (73 ∷ 95 ∷ 69 ∷ 82 ∷ 82 ∷ 79 ∷ 82 ∷ [])) Name.IError
    (named_channel w))))

-- H, S, CX, CNOT, and those above
unfoldable pub named : List ℕ → Name
named w =
    cond (spells w (72 ∷ [])) Name.H
    (cond (spells w (83 ∷ [])) Name.S
    (cond (spells w (67 ∷ 88 ∷ [])) Name.Cx
    (cond (spells w (67 ∷ 78 ∷ 79 ∷ 84 ∷ [])) Name.Cx
    (named_error w))))

abbrev pub arguments_of : Name → ℕ
arguments_of Name.XError = 1
arguments_of Name.YError = 1
arguments_of Name.ZError = 1
arguments_of Name.IError = 1
arguments_of Name.Depolarize1 = 1
arguments_of Name.Depolarize2 = 1
arguments_of Name.PauliChannel1 = 3
arguments_of Name.PauliChannel2 = 15
arguments_of Name.H = 0
arguments_of Name.S = 0
arguments_of Name.Cx = 0
arguments_of Name.I = 0
arguments_of Name.Tick = 0
arguments_of Name.Repeat = 0
arguments_of Name.Other = 0

-- the first argument, the second, the third
abbrev pub rate : ℕ → List Float → Float
rate i rs = get_or rs i nan

-- what an instruction asks for, with its arguments; REPEAT and what is no instruction are read apart
abbrev pub item_of : Name → List Float → Item
item_of Name.H rs = Call Act.H
item_of Name.S rs = Call Act.S
item_of Name.Cx rs = Call Act.Cnot
item_of Name.XError rs = Call (Act.Channel (Pauli (rate 0 rs) (float zero_bits) (float zero_bits)))
item_of Name.YError rs = Call (Act.Channel (Pauli (float zero_bits) (rate 0 rs) (float zero_bits)))
item_of Name.ZError rs = Call (Act.Channel (Pauli (float zero_bits) (float zero_bits) (rate 0 rs)))
item_of Name.IError rs = Call (Act.Channel (Loss (rate 0 rs)))
item_of Name.PauliChannel1 rs = Call (Act.Channel (Pauli (rate 0 rs) (rate 1 rs) (rate 2 rs)))
item_of Name.PauliChannel2 rs = Call Act.PauliPairs
item_of Name.Depolarize1 rs = Call (Act.Channel (Depolarizing (rate 0 rs)))
item_of Name.Depolarize2 rs = Call (Act.Depolarize2 (rate 0 rs))
item_of Name.I rs = Call Act.ResetLoss
item_of Name.Tick rs = Nothing
item_of Name.Repeat rs = Nothing
item_of Name.Other rs = Nothing

-- targets that come in pairs
abbrev pub takes_pairs : Act → Bool
takes_pairs Act.Cnot = true
takes_pairs Act.PauliPairs = true
takes_pairs (Act.Depolarize2 p) = true
takes_pairs Act.H = false
takes_pairs Act.S = false
takes_pairs (Act.Channel c) = false
takes_pairs Act.ResetLoss = false
