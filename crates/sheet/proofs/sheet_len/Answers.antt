use native.Mathlib.Omega.{arith}
use Rattle.sheet.specs.Text.{sheet_on}
use Rattle.sheet.proofs.Text.{length-sheet}
use Rattle.sheet.proofs.sheet_len.Goals as goal

pub returns : goal.returns
returns c = omega (arith, c.entries_text_len.ensures.0, length-sheet (sheet_on c.args.h c.args.store.now))
