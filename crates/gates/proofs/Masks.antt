-- Bits taken by masks: what `w & 2^q` selects, bit q of w selects. So a gate's masked words are its rule on bits. Assumes nothing.
use mathlib.Core.Path.{◌≡◌, refl, sym, ap, ap₂, ◌∙◌}
use mathlib.Core.List.{List, [], ◌∷◌, ◌++◌}
use Prim.Native.Nat.{ℕ, zero, suc, ◌+◌, ◌*◌, ◌-◌, ◌/◌, ◌%◌, ◌^◌, ◌<◌}
use native.Mathlib.Nat.{zero-mul, one-mul, mul-zero, mul-one}
use native.Mathlib.Omega.{arith}
use lib.Bits.{bit_and, bit_xor, and_comm, and_zero_r, and_shr, and_mod, and_high}
use lib.ListN.{length, take, drop, get_or, set}
use borrow.Rule.Slice.PartMut.{put_mid}
use lib.Pow.{pow-add, pow_pos}
use Rattle.model.specs.Lists.{words_below}
use Rattle.model.specs.Entries.{Row, row_at, row_words, rows_below}
use Rattle.model.specs.Keys.{bit, if_set}
use Rattle.model.specs.Gates.{turned_row}
use Rattle.model.specs.declared.Gate.TheVariants.{H, S, Cnot}
use Rattle.model.proofs.IfSet.{if_set-set, bit-lt, bit-xor, bit-pow-same, bit-picked}
use Rattle.gates.proofs.Rows.{Three, three}

-- ---- what a mask takes

times-if_set : (b m : ℕ) → b < 2 → b * m ≡ if_set b m
unfolding if_set
times-if_set zero m h = zero-mul m
times-if_set (suc zero) m h = one-mul m
times-if_set (suc (suc b)) m h = absurd (omega arith)

pub and-power : (w q : ℕ) → bit_and w (2 ^ q) ≡ if_set (bit q w) (2 ^ q)
and-power w q =
    let e : 2 ^ (1 + q) - 2 ^ q ≡ 2 ^ q = omega (arith, pow-add 2 1 q) in
    ap (bit_and w) (sym e) ∙ and_high w 1 q ∙ times-if_set (bit q w) (2 ^ q) (bit-lt q w)

power-picks : (b q m : ℕ) → if_set (if_set b (2 ^ q)) m ≡ if_set b m
unfolding if_set
power-picks zero q m = refl
power-picks (suc b) q m = sym (if_set-set (2 ^ q) m (λ e. omega (arith, e, pow_pos q)))

pub mask-picks : (w q m : ℕ) → if_set (bit_and w (2 ^ q)) m ≡ if_set (bit q w) m
mask-picks w q m = ap (λ (v : ℕ). if_set v m) (and-power w q) ∙ power-picks (bit q w) q m

-- a bit of an AND
and-bits : (a b : ℕ) → a < 2 → b < 2 → bit_and a b ≡ a * b
and-bits zero b h k = sym (zero-mul b)
and-bits (suc zero) zero h k = refl
and-bits (suc zero) (suc zero) h k = refl
and-bits (suc zero) (suc (suc b)) h k = absurd (omega arith)
and-bits (suc (suc a)) b h k = absurd (omega arith)

bit-and : (q a b : ℕ) → bit q (bit_and a b) ≡ bit q a * bit q b
bit-and q a b = ap (λ (x : ℕ). x % 2) (and_shr a b q) ∙ and_mod (a / 2 ^ q) (b / 2 ^ q) 1 ∙ and-bits (bit q a) (bit q b) (bit-lt q a) (bit-lt q b)

-- a word masked by a bit that is picked, or by two
masked-once : (w q b m : ℕ) → b < 2 → if_set (bit_and w (if_set b (2 ^ q))) m ≡ if_set (b * bit q w) m
unfolding if_set
masked-once w q zero m h = ap (λ (v : ℕ). if_set v m) (and_zero_r w) ∙ sym (ap (λ (v : ℕ). if_set v m) (zero-mul (bit q w)))
masked-once w q (suc zero) m h = mask-picks w q m ∙ sym (ap (λ (v : ℕ). if_set v m) (one-mul (bit q w)))
masked-once w q (suc (suc b)) m h = absurd (omega arith)

masked-twice : (w v q b m : ℕ) → b < 2 → if_set (bit_and (bit_and w (if_set b (2 ^ q))) v) m ≡ if_set (bit q w * b * bit q v) m
unfolding if_set
masked-twice w v q zero m h = ap (λ (u : ℕ). if_set (bit_and u v) m) (and_zero_r w) ∙ sym (ap (λ (u : ℕ). if_set u m) (ap (λ (u : ℕ). u * bit q v) (mul-zero (bit q w)) ∙ zero-mul (bit q v)))
masked-twice w v q (suc zero) m h =
    ap (λ (u : ℕ). if_set (bit_and u v) m) (and-power w q) ∙ ap (λ (u : ℕ). if_set u m) (and_comm (if_set (bit q w) (2 ^ q)) v) ∙ masked-once v q (bit q w) m (bit-lt q w)
    ∙ sym (ap (λ (u : ℕ). if_set (u * bit q v) m) (mul-one (bit q w)))
masked-twice w v q (suc (suc b)) m h = absurd (omega arith)

-- ---- what the writes leave

pub h-written : {l : List ℕ} {s at : ℕ} (q : ℕ) → Three l → at ≡ 2 ^ q → s ≡ if_set (bit_and (bit_and (get_or l 0 0) (get_or l 1 0)) at) 2
    → let apart = bit_and (bit_xor (get_or l 0 0) (get_or l 1 0)) at in
    set (set (set l 2 (bit_xor (get_or l 2 0) s)) 0 (bit_xor (get_or l 0 0) apart)) 1 (bit_xor (get_or l 1 0) apart) ≡ row_words (turned_row (H q) (row_at l 0))
unfolding turned_row
h-written {l} {s} {at} q (three x z p) e es =
    ap₂ (λ (d r : ℕ). bit_xor x d ∷ bit_xor z d ∷ bit_xor p r ∷ [])
    (ap (bit_and (bit_xor x z)) e ∙ and-power (bit_xor x z) q ∙ ap (λ (b : ℕ). if_set b (2 ^ q)) (bit-xor q x z))
    (es ∙ ap (λ (m : ℕ). if_set (bit_and (bit_and x z) m) 2) e ∙ mask-picks (bit_and x z) q 2 ∙ ap (λ (b : ℕ). if_set b 2) (bit-and q x z))

pub s-written : {l : List ℕ} {s at : ℕ} (q : ℕ) → Three l → at ≡ 2 ^ q → s ≡ if_set (bit_and (get_or l 1 0) (bit_and (get_or l 0 0) at)) 2
    → set (set l 2 (bit_xor (get_or l 2 0) s)) 1 (bit_xor (get_or l 1 0) (bit_and (get_or l 0 0) at)) ≡ row_words (turned_row (S q) (row_at l 0))
unfolding turned_row
s-written {l} {s} {at} q (three x z p) e es =
    let mask : bit_and x at ≡ if_set (bit q x) (2 ^ q) = ap (bit_and x) e ∙ and-power x q in
    ap₂ (λ (d r : ℕ). x ∷ bit_xor z d ∷ bit_xor p r ∷ []) mask
    (es ∙ ap (λ (m : ℕ). if_set (bit_and z m) 2) mask ∙ masked-once z q (bit q x) 2 (bit-lt q x))

pub cnot-written : {l : List ℕ} {at to xa zb xb s : ℕ} (a b : ℕ) → Three l → at ≡ 2 ^ a → to ≡ 2 ^ b → zb ≡ if_set (bit_and (get_or l 1 0) to) at
    → xb ≡ if_set (bit_and (get_or l 0 0) to) at → s ≡ if_set (bit_and (bit_and (get_or l 0 0) zb) (bit_xor (bit_xor xb (get_or l 1 0)) at)) 2 → xa ≡ if_set (bit_and (get_or l 0 0) at) to
    → set (set (set l 2 (bit_xor (get_or l 2 0) s)) 0 (bit_xor (get_or l 0 0) xa)) 1 (bit_xor (get_or l 1 0) zb) ≡ row_words (turned_row (Cnot a b) (row_at l 0))
unfolding turned_row
cnot-written {l} {at} {to} {xa} {zb} {xb} {s} a b (three x z p) ea eb ez ex es exa =
    let copied : (w : ℕ) → if_set (bit_and w to) at ≡ if_set (bit b w) (2 ^ a) = λ w. ap₂ (λ (m n : ℕ). if_set (bit_and w m) n) eb ea ∙ mask-picks w b (2 ^ a) in
    let z-copy : zb ≡ if_set (bit b z) (2 ^ a) = ez ∙ copied z in
    let x-copy : xb ≡ if_set (bit b x) (2 ^ a) = ex ∙ copied x in
    let x-moved : xa ≡ if_set (bit a x) (2 ^ b) = exa ∙ ap₂ (λ (m n : ℕ). if_set (bit_and x m) n) ea eb ∙ mask-picks x a (2 ^ b) in
    let differ : bit_xor (bit_xor xb z) at ≡ bit_xor (bit_xor (if_set (bit b x) (2 ^ a)) z) (2 ^ a) = ap₂ (λ (u m : ℕ). bit_xor (bit_xor u z) m) x-copy ea in
    let same : bit a (bit_xor (bit_xor (if_set (bit b x) (2 ^ a)) z) (2 ^ a)) ≡ bit_xor (bit_xor (bit b x) (bit a z)) 1 =
    bit-xor a (bit_xor (if_set (bit b x) (2 ^ a)) z) (2 ^ a)
    ∙ ap₂ bit_xor (bit-xor a (if_set (bit b x) (2 ^ a)) z ∙ ap (λ (u : ℕ). bit_xor u (bit a z)) (bit-picked a (bit b x) (bit-lt b x))) (bit-pow-same a) in
    let sign : s ≡ if_set (bit a x * bit b z * bit_xor (bit_xor (bit b x) (bit a z)) 1) 2 =
    es ∙ ap₂ (λ (u v : ℕ). if_set (bit_and (bit_and x u) v) 2) z-copy differ
    ∙ masked-twice x (bit_xor (bit_xor (if_set (bit b x) (2 ^ a)) z) (2 ^ a)) a (bit b z) 2 (bit-lt b z)
    ∙ ap (λ (d : ℕ). if_set (bit a x * bit b z * d) 2) same in
    cc

-- ---- two rows turned, one after the other

data Six : List ℕ → Type 0 where
  six : (a b c d e g : ℕ) → Six (a ∷ b ∷ c ∷ d ∷ e ∷ g ∷ [])

six-words : (l : List ℕ) → length l ≡ 6 → Six l
six-words [] h = absurd (omega arith)
six-words (a ∷ []) h = absurd (omega arith)
six-words (a ∷ b ∷ []) h = absurd (omega arith)
six-words (a ∷ b ∷ c ∷ []) h = absurd (omega arith)
six-words (a ∷ b ∷ c ∷ d ∷ []) h = absurd (omega arith)
six-words (a ∷ b ∷ c ∷ d ∷ e ∷ []) h = absurd (omega arith)
six-words (a ∷ b ∷ c ∷ d ∷ e ∷ g ∷ []) h = six a b c d e g
six-words (a ∷ b ∷ c ∷ d ∷ e ∷ g ∷ i ∷ l) h = absurd (omega arith)

six-turned : {p u v : List ℕ} (f : Row → Row) → Six p → u ≡ row_words (f (row_at (take 3 p) 0)) → v ≡ row_words (f (row_at (take 3 (drop 3 (u ++ drop 3 p))) 0))
    → put_mid 3 3 (u ++ drop 3 p) v ≡ rows_below (λ r. f (row_at p r)) 2
unfolding words_below
six-turned f (six a b c d e g) eu ev =
    let last = d ∷ e ∷ g ∷ [] in
    ap₂ (λ (s t : List ℕ). put_mid 3 3 (s ++ last) t) eu (ev ∙ ap (λ (s : List ℕ). row_words (f (row_at (take 3 (drop 3 (s ++ last))) 0))) eu)

pub pair-turned : {u v : List ℕ} (f : Row → Row) (p : List ℕ) → length p ≡ 6 → u ≡ row_words (f (row_at (take 3 p) 0)) → v ≡ row_words (f (row_at (take 3 (drop 3 (u ++ drop 3 p))) 0))
    → put_mid 3 3 (u ++ drop 3 p) v ≡ rows_below (λ r. f (row_at p r)) 2
pair-turned f p l = six-turned f (six-words p l)
