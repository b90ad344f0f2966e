-- Words written over the start of others. Assumes nothing.
use mathlib.Core.Path.{◌≡◌, sym, ap, ◌∙◌}
use mathlib.Core.List.{List, ◌++◌, append_assoc, append-nil}
use Prim.Native.Nat.{ℕ, ◌≤◌}
use native.Mathlib.Omega.{arith}
use lib.ListN.{length, take, drop, length-append, length-drop, take-append-drop, drop_of_length-le}
use lib.Seq.{drop_at, drop-drop, drop-append-le, length-take-le}
use borrow.Rule.Slice.PartMut.{put_mid, mid_of}
use Rattle.model.specs.Calls.{overlaid}

-- what can be written over a list is no longer than it
pub over-fits : (o v : List ℕ) {v' : List ℕ} → length v' ≡ length v → v' ≡ overlaid o v → length o ≤ length v
over-fits o v l e = omega (arith, length-append o (drop (length o) v), length-drop (length o) v, ap length e)

-- as much as there is: all of it
pub over-whole : (o v : List ℕ) → length o ≡ length v → o ≡ overlaid o v
over-whole o v l = let h : length v ≤ length o = omega arith in sym (ap (λ (r : List ℕ). o ++ r) (drop_of_length-le v h) ∙ append-nil o)

-- over a part, with what stands behind it
over-part : (o d : List ℕ) (m : ℕ) → length o ≤ length (take m d) → overlaid o (take m d) ++ drop m d ≡ overlaid o d
over-part o d m h =
    append_assoc o (drop (length o) (take m d)) (drop m d)
    ∙ ap (λ (r : List ℕ). o ++ r) (sym (drop-append-le (length o) (take m d) (drop m d) h) ∙ ap (drop (length o)) (take-append-drop m d))

-- one list after another
over-both : (a o w : List ℕ) → a ++ overlaid o (drop (length a) w) ≡ overlaid (a ++ o) w
over-both a o w =
    sym (append_assoc a o (drop (length o) (drop (length a) w)))
    ∙ ap (λ (r : List ℕ). (a ++ o) ++ r) (drop-drop (length o) (length a) w ∙ ap (λ (n : ℕ). drop n w) (sym (length-append a o)))

-- a part of m words behind the first n is lent and written over, and then the first n are
pub over-stretch : (a o w : List ℕ) (m : ℕ) → length a ≤ length w → length o ≤ length (mid_of (length a) m w)
    → overlaid a (put_mid (length a) m w (overlaid o (mid_of (length a) m w))) ≡ overlaid (a ++ o) w
over-stretch a o w m h g =
    let d = drop (length a) w in
    ap (λ (r : List ℕ). a ++ r) (drop_at (take (length a) w) (overlaid o (take m d) ++ drop m d) (length a) (length-take-le (length a) w h) ∙ over-part o d m g)
    ∙ over-both a o w
