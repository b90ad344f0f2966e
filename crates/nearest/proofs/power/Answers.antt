use mathlib.Core.Path.{refl, subst}
use mathlib.Core.Bool.{false}
use mathlib.Core.List.{List, [], ◌∷◌, map}
use Prim.Native.Nat.{ℕ, ◌^◌}
use native.Mathlib.Nat.{one-mul}
use lib.ListN.{get_or}
use lib.Ieee.{Float, nan, binary64, of_bits}
use lib.Ieee.Exact.{HasValue}
use borrow.Author.Rules.{rules}
use Rattle.nearest.proofs.Exacts.{exactly, tenfold, power_at}
use Rattle.nearest.proofs.power.Goals as goal

-- the table, by its bits
abbrev powers : List Float
powers =
    map (of_bits binary64)
    (0x3ff0_0000_0000_0000 ∷ 0x4024_0000_0000_0000 ∷ 0x4059_0000_0000_0000 ∷ 0x408f_4000_0000_0000 ∷ 0x40c3_8800_0000_0000 ∷ 0x40f8_6a00_0000_0000 ∷
    0x412e_8480_0000_0000 ∷ 0x4163_12d0_0000_0000 ∷ 0x4197_d784_0000_0000 ∷ 0x41cd_cd65_0000_0000 ∷ 0x4202_a05f_2000_0000 ∷ 0x4237_4876_e800_0000 ∷
    0x426d_1a94_a200_0000 ∷ 0x42a2_309c_e540_0000 ∷ 0x42d6_bcc4_1e90_0000 ∷ 0x430c_6bf5_2634_0000 ∷ 0x4341_c379_37e0_8000 ∷ 0x4376_3457_85d8_a000 ∷
    0x43ab_c16d_674e_c800 ∷ 0x43e1_58e4_6091_3d00 ∷ 0x4415_af1d_78b5_8c40 ∷ 0x444b_1ae4_d6e2_ef50 ∷ 0x4480_f0cf_064d_d592 ∷ [])

pub returns : goal.returns
unfolding exactly tenfold of_bits
returns c =
    let k = c.args.k in
    subst (λ (n : ℕ). HasValue (get_or powers k nan) false n 1) (one-mul (10 ^ k)) (power_at 1 powers nan refl k (search rules))
