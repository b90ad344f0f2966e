use Rattle.std.proofs.Common.{◌≡◌, ◌+◌, ◌*◌, ◌<◌, ◌≤◌, ℕ, arith}
use Rattle.nearest.proofs.Patterns.{too_large, not-too-large, finite-pattern, infinite-pattern}
use Rattle.nearest.proofs.pattern.Goals as goal

pub returns : goal.returns
returns c =
    let a = c.args in
    let r = c.requires in
    let bits : ℕ = a.k * 0x10_0000_0000_0000 + a.q in
    let low : bits < 0x7ff0_0000_0000_0000 → bits ≡ _ = λ l. finite-pattern a.q a.k r.0 r.2 (not-too-large a.q a.k r.0 r.2 l) in
    let high : 0x7ff0_0000_0000_0000 ≤ bits → 0x7ff0_0000_0000_0000 ≡ _ = λ g. infinite-pattern a.q a.k r.0 r.2 (too_large a.q a.k r.0 r.2 g) in
    grind (arith, low, high)
