-- A header and words that hold a list: no call finds fault with their shape, and what is listed in them is that list. Assumes nothing.
use Prim.Native.Nat.{◌*◌, ◌≤◌}
use native.Mathlib.Omega.{arith}
use mathlib.Core.Path.{◌≡◌, sym, ap, subst, ◌∙◌}
use mathlib.Core.Bool.{Bool, true, false}
use mathlib.Core.List.{List, map}
use lib.ListN.{length, length-map}
use borrow.Author.Tests.{le-leb}
use Rattle.model.specs.Entries.{Entry, Keyed, strip, entry_len, listed, pack}
use Rattle.model.specs.Keys.{usual_salts, keyed}
use Rattle.model.specs.Numbers.{first_of, size_sound, bounds_sound, header_sound}
use Rattle.model.specs.Calls.{Sum, Lent, held, shape, zeros_past}
use Rattle.model.proofs.Packed.{Fits}
use Rattle.model.proofs.Packs.{pack-length, pack-zeros, pack-listed}
use Rattle.model.proofs.Each.{Each, each-unmap}
use Rattle.model.proofs.Full.{Full}
use Rattle.model.proofs.Held.{Held}

-- ---- the state that holds the list m with the stored keys of es

abbrev pub state : Sum Entry → Bool → List Keyed → Lent
state m dirty es =
    held (record { size = m.size; count = length es; threshold = m.threshold; cutoff = m.cutoff; dirty = dirty }) (pack m.size es)

-- the keys worked out from an entry
abbrev pub own : Sum Entry → Entry → Keyed
own m e = keyed usual_salts m.size.n e

pub record Good (m : Sum Entry) (dirty : Bool) (es : List Keyed) : Type 0 where
  pub size : size_sound m.size (m.size.capacity * entry_len m.size) ≡ true
  pub bounds : bounds_sound m.threshold m.cutoff ≡ true
  pub held : Held m.size m.entries
  pub content : map strip es ≡ m.entries
  pub keys : dirty ≡ false → es ≡ map (own m) m.entries

module _ (m : Sum Entry) (dirty : Bool) (es : List Keyed) (g : Good m dirty es) where
  pub count-is : length es ≡ length m.entries
  count-is = sym (length-map es strip) ∙ ap length g.content

  each_fits : Each (Fits m.size) es
  each_fits =
      each-unmap (Fits m.size) (Full m.size) strip (λ x h. record { coefs = h.coefs; rows = h.rows }) es
      (subst (Each (Full m.size)) (sym g.content) g.held.each)

  room-is : length es ≤ m.size.capacity
  room-is = let e = count-is in omega (arith, e, g.held.room)

  pub listed-is : listed m.size (length es) (pack m.size es) ≡ es
  listed-is = pack-listed m.size each_fits

  pub zeros-is : zeros_past (state m dirty es) ≡ true
  zeros-is = pack-zeros m.size each_fits

  -- neither 1 nor 2
  pub shape_is : first_of (shape (state m dirty es)) ≡ 0
  unfolding first_of header_sound
  shape_is = rw (pack-length m.size each_fits room-is, g.size, le-leb (length es) m.size.capacity room-is, g.bounds)
