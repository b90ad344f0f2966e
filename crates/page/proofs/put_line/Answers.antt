use mathlib.Core.Path.{◌≡◌, ap, ap₂, ◌∙◌}
use mathlib.Core.List.{List, [], ◌∷◌, ◌++◌, append_assoc}
use Prim.Native.Nat.{ℕ}
use native.Mathlib.Omega.{arith}
use lib.ListN.{set, get_or}
use borrow.Rule.Slice.PartMut.{put_mid}
use Rattle.model.specs.Entries.{strip, entry_of}
use Rattle.model.specs.Sheet.{blank, line_end, justified}
use Rattle.model.specs.Page.{share, hexadecimal, page_line_len, page_line}
use Rattle.model.specs.declared.Size.{Size}
use Rattle.page.proofs.Pieces.{Begins, nothing_yet, part-long, with_part, with_byte, whole}
use Rattle.page.proofs.put_line.Goals as goal

-- ---- the pieces

-- they are the line
line-is : (s : Size) (at : ℕ) (w : List ℕ) {a b c : List ℕ} → a ≡ justified 5 at → b ≡ justified 11 (share (get_or w 0 0)) → c ≡ hexadecimal 16 (get_or w 1 0)
    → a ++ b ++ blank ∷ [] ++ blank ∷ [] ++ c ++ line_end ∷ [] ≡ page_line at (strip (entry_of s w))
unfolding page_line entry_of
line-is s at w p q r = rw (p, q, r, append_assoc (justified 5 at ++ justified 11 (share (get_or w 0 0))) (blank ∷ []) (blank ∷ []))

-- ---- what was written

pub returns : goal.returns
returns c =
    let nothing : Begins page_line_len 0 [] c.args.out.now = nothing_yet page_line_len c.args.out.now c.requires.0 in
    -- the place
    let placed : Begins page_line_len 5 c.put_number.new.out (put_mid 0 5 c.args.out.now c.put_number.new.out) = with_part nothing 5 c.put_number.new.out (omega arith) (omega arith) c.put_number.auto.out in
    -- .. and the share
    let numbered : Begins page_line_len 16 (c.put_number.new.out ++ c.put_number-2.new.out) (put_mid 5 11 (put_mid 0 5 c.args.out.now c.put_number.new.out) c.put_number-2.new.out) = with_part placed 16 c.put_number-2.new.out (omega arith) (omega arith) c.put_number-2.auto.out in
    let spaced : Begins page_line_len 18 (c.put_number.new.out ++ c.put_number-2.new.out ++ blank ∷ [] ++ blank ∷ []) (set (set (put_mid 5 11 (put_mid 0 5 c.args.out.now c.put_number.new.out) c.put_number-2.new.out) 16 blank) 17 blank) = with_byte (with_byte numbered blank (omega arith)) blank (omega arith) in
    -- .. and the loss word
    let ended : Begins page_line_len 34 ((c.put_number.new.out ++ c.put_number-2.new.out ++ blank ∷ [] ++ blank ∷ []) ++ c.put_hexadecimal.new.out) (put_mid 18 16 (set (set (put_mid 5 11 (put_mid 0 5 c.args.out.now c.put_number.new.out) c.put_number-2.new.out) 16 blank) 17 blank) c.put_hexadecimal.new.out) = with_part spaced 34 c.put_hexadecimal.new.out (omega arith) (omega arith) c.put_hexadecimal.auto.out in
    whole (with_byte ended line_end (omega arith)) (omega arith)
    ∙ line-is c.args.size c.args.place c.args.e.now
    (c.put_number.ensures ∙ ap (λ (k : ℕ). justified k c.args.place) (part-long nothing 5 (omega arith)))
    (c.put_number-2.ensures ∙ ap₂ justified (part-long placed 16 (omega arith)) c.share.ensures)
    (c.put_hexadecimal.ensures ∙ ap (λ (k : ℕ). hexadecimal k (get_or c.args.e.now 1 0)) (part-long spaced 34 (omega arith)))
