-- What is shown of the instruction that a match found is shown of the one that was given. Assumes nothing.
use mathlib.Core.Path.{◌≡◌, sym, ap, ◌∙◌}
use Rattle.circuit.specs.declared.lines.Act.{Act}

pub matched : {B : Type 0} (f : Act → B) {act found : Act} → act ≡ found → {y : B} → y ≡ f found → y ≡ f act
matched f told e = e ∙ ap f (sym told)
