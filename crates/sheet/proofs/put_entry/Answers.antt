use mathlib.Core.Path.{sym, ap₂, ◌∙◌}
use mathlib.Core.List.{List, ◌++◌}
use Prim.Native.Nat.{ℕ, ◌≤◌}
use native.Mathlib.Omega.{arith}
use lib.ListN.{length}
use Rattle.sheet.proofs.Written.{two-pieces}
use Rattle.sheet.proofs.Text.{entry-text}
use Rattle.sheet.proofs.put_entry.Goals as goal

pub returns : goal.returns
returns c =
    -- its own line ends within the slice
    let room : 64 ≤ length c.args.out.now = omega arith in
    two-pieces c.args.out.now c.put_head.new.out c.put_body.new.out 64
    room c.put_head.auto.out c.put_body.auto.out
    ∙ ap₂ (λ (u v : List ℕ). u ++ v) c.put_head.ensures c.put_body.ensures
    ∙ sym (entry-text c.args.size c.args.e.now)
