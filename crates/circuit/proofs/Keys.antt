-- What an arm of a match leaves: the value is not of another arm's variant. Assumes nothing.
use mathlib.Core.Path.{◌≡◌, refl, sym, ◌∙◌, subst}
use mathlib.Core.Bool.{false, not}
use mathlib.Core.List.{List}
use Prim.Native.Nat.{ℕ}
use denote.Enum.Declared.{tag_of}
use lib.Dec.{T}
use mir.Val.{has_key}
use types.Run.{OneOf, miss}
use borrow.Author.Tests.{ne_eqb}
use Rattle.circuit.specs.Lines.{order, is_name}
use Rattle.circuit.specs.declared.lines.Name.{Name}
use Rattle.circuit.specs.contracts.lines.Name.{the_type}

order_is : (n : Name) → order n ≡ tag_of the_type n
order_is Name.H = refl
order_is Name.S = refl
order_is Name.Cx = refl
order_is Name.XError = refl
order_is Name.YError = refl
order_is Name.ZError = refl
order_is Name.IError = refl
order_is Name.PauliChannel1 = refl
order_is Name.PauliChannel2 = refl
order_is Name.Depolarize1 = refl
order_is Name.Depolarize2 = refl
order_is Name.I = refl
order_is Name.Tick = refl
order_is Name.Repeat = refl
order_is Name.Other = refl

-- a name among those of an arm is not one of another
pub not-name : (ks : List ℕ) (n o : Name) → T (not (has_key ks (order o))) → OneOf ks (tag_of the_type n) → is_name n o ≡ false
not-name ks n o h k =
    ne_eqb (order n) (order o) (λ e. miss ks (order o) h (subst (λ (x : ℕ). OneOf ks x) (sym (order_is n) ∙ e) k))
