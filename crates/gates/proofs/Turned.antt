-- What `gate` tests of its own, and what it leaves of a sum that the tests in front let through. Assumes nothing.
use mathlib.Core.Path.{◌≡◌, sym, ap, ap₂, ◌∙◌}
use mathlib.Core.Bool.{Bool, true}
use mathlib.Core.List.{List, [], ◌∷◌, map}
use Prim.Native.Nat.{ℕ}
use native.Mathlib.Omega.{arith}
use lib.ListN.{length}
use Rattle.model.specs.Entries.{Keyed, listed, pack}
use Rattle.model.specs.Store.{keyed_weighed, tested_all, how_many}
use Rattle.model.specs.Gates.{turned}
use Rattle.model.specs.Numbers.{gives, first_of}
use Rattle.model.specs.Calls.{Lent, Left, gate, argument_tests, act, kind_of, rebuilt, dirty_after, words_after, split_as, split_by, tested_by, gave, plain_answer, header_with, accepted, left, front, acted}
use Rattle.model.specs.Sound.{Packed}
use Rattle.model.specs.declared.Gate.{Gate}
use Rattle.model.proofs.Entries.{length-listed}
use Rattle.model.proofs.Packed.{packed-is}
use Rattle.model.proofs.Sound.{front-sound}
use Rattle.model.proofs.Steps.{not-applies, front-passed}
use Rattle.gates.specs.Qubits.{GateBelow}
use Rattle.gates.proofs.Qubits.{refuses, accepted-below, below_more}

module _ (x : Lent) (g : Gate) where
  -- 3: a qubit is not below n, or both are the same
  module _ {own : ℕ} {r : Bool} (e : own ≡ first_of (gives 3 r ∷ [])) (q : r ≡ refuses x.header.size.n g) where
    own_is : own ≡ first_of (gives 3 (refuses x.header.size.n g) ∷ [])
    own_is = e ∙ ap (λ (b : Bool). first_of (gives 3 b ∷ [])) q

    pub own-so : own ≡ first_of (argument_tests (gate g) x.header.size x.header.count)
    unfolding argument_tests
    own-so = own_is

    -- the qubits of a gate that is let through are below 64
    pub turnable : front own x ≡ 0 → GateBelow 64 g
    turnable z =
        let n = x.header.size.n in
        below_more n 64 g (front-sound x own z).packed.sized.qubits.high
        (accepted-below n g (not-applies 3 (refuses n g) (λ k. omega arith) (sym own_is ∙ (front-passed own x z).own-0)))

  -- 0: the store holds the turned entries, and the sum is dirty
  pub all-turned : (w : List ℕ) → Packed x.header.size x.header.count w
      → listed x.header.size x.header.count w ≡ map (turned keyed_weighed x.header.size.n g) (listed x.header.size x.header.count x.words)
      → gave (plain_answer (header_with x.header x.header.count true) 0) w ≡ acted (gate g) x
  unfolding kind_of rebuilt act left accepted dirty_after words_after tested_by split_by split_as tested_all how_many plain_answer
  all-turned w p l =
      let size = x.header.size in
      let count = x.header.count in
      let leaves : ℕ → List ℕ → Left = λ n v. gave (plain_answer (header_with x.header n true) 0) v in
      ap₂ leaves (sym (length-listed size count w)) (packed-is size count w p) ∙ ap (λ (es : List Keyed). leaves (length es) (pack size es)) l
