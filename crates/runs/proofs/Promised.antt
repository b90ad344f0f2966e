-- DEMAND 3 of a run from a start on: what the definitions leave is what the promise says. Assumes nothing.
use mathlib.Core.Path.{◌≡◌, refl, sym, ap, subst, ◌∙◌}
use mathlib.Core.Bool.{Bool, true, false, cond}
use mathlib.Core.List.{List, [], ◌∷◌}
use Prim.Native.Nat.{ℕ, ◌*◌, ◌≤◌}
use native.Mathlib.Omega.{arith}
use lib.ListN.{length}
use borrow.Author.Tests.{eq-eqb, ne_eqb}
use Rattle.model.specs.Entries.{Entry}
use Rattle.model.specs.Sum.{Result, done, refused, map_result}
use Rattle.model.specs.Sheet.{Sheet}
use Rattle.model.specs.Calls.{Call, Sum, Lent, held, Left, step, gave, plain_answer, Start, begins, left_by, start}
use Rattle.model.specs.Keyless.{sheet_sum, keyless_start}
use Rattle.model.specs.declared.Answer.{Answer}
use Rattle.model.specs.Demand3.{next, made_of, flag_begun, flag_after, Agree, Begins, Demand3}
use Rattle.model.specs.Known.{Checked}
use Rattle.model.proofs.Known.{start-checked}
use Rattle.model.proofs.Demand3.{demand-3}
use Rattle.runs.specs.Runs.{groups_in, calls_in, record_len, fits, Came, came, untouched, unfit, ran_these, ran_all, ran_after, ran_from}
use Rattle.runs.specs.declared.Ran.{Ran}
use Rattle.runs.specs.declared.Room.{Room}
use Rattle.runs.specs.Promise.{Agreed, Begun, PromiseIf, Promise}
use Rattle.runs.proofs.Fitting.{Fitting, all-fits, groups-many}
use Rattle.runs.proofs.Reading.{all_shown-is, all-compared}

-- ---- where a refusal ends nothing, all calls are made

made_all : (cs : List Call) (x : Lent) → made_of false cs x ≡ cs
unfolding made_of
made_all [] x = refl
made_all (c ∷ cs) x = ap (λ (l : List Call). c ∷ l) (made_all cs (next (step c x)))

-- ---- how a start leads on

-- an accepted one leaves what is checked
pub start-known : (b : Start) (w : List ℕ) (a : Answer) (v : List ℕ) → gave a v ≡ start b w → a.number ≡ 0 → Checked (held a.header v)
start-known b w a v e z = subst (λ (l : Left). Checked (next l)) (sym e) (start-checked b w (sym (ap (λ (l : Left). l.answer.number) e) ∙ z))

module _ (room : Room) (cs : List Call) (l : Left) (log text : List ℕ) where
  pub after-done : l.answer.number ≡ 0 → ran_after room cs l log text ≡ ran_all room false cs (next l) log text
  unfolding ran_after
  after-done e = rw (eq-eqb l.answer.number 0 e)

  pub after-refused : (l.answer.number ≡ 0 → ⊥) → ran_after room cs l log text ≡ untouched l.answer.number (next l) log text
  unfolding ran_after
  after-refused e = rw (ne_eqb l.answer.number 0 e)

-- ---- a run from a start on

module _ (room : Room) (calls : List ℕ) (b : Start) (w log text : List ℕ) where
  abbrev cs : List Call
  cs = calls_in room.bytes calls

  -- the promise

  -- what agrees of the definitions agrees of what came back
  agreed : (m : Sum Entry) (x : Lent) → Fitting room calls (length log) (length text) → x.header.dirty ≡ flag_begun b → Agree cs x m → Agreed room cs m (flag_begun b) (ran_these room cs x log text)
  agreed m x f d a =
      let n = groups-many calls in
      let p : length (groups_in calls) * record_len room ≤ length log = rw n f.records in
      let q : length (groups_in calls) * room.bytes ≤ length text = rw n f.texts in
      record {
        number = refl;
        made = refl;
        size = a.size;
        threshold = a.threshold;
        cutoff = a.cutoff;
        count = a.count;
        entries = a.entries;
        flag = a.flag ∙ ap (flag_after cs m) d;
        keys = a.keys;
        shown = all_shown-is room (groups_in calls) x log text f.kinds p q ∙ a.shown;
        compared = all-compared room (groups_in calls) x log f.kinds p ∙ a.compared;
      }

  begun : {o : Came} (r : Result Sheet) → Fitting room calls (length log) (length text) → start b w ≡ left_by b w r → Begins b w (map_result sheet_sum r) → o ≡ ran_after room cs (start b w) log text
      → Begun room cs b w log text o (map_result sheet_sum r)
  unfolding map_result Begins Begun left_by plain_answer
  begun (refused n) f e (k, z, t) p =
      record { not_0 = z; all = p ∙ ap (λ (l : Left). ran_after room cs l log text) e ∙ after-refused room cs (left_by b w (refused n)) log text z }
  begun (done t) f e (k, d, a) p =
      let x = next (start b w) in
      subst (Agreed room cs (sheet_sum t) (flag_begun b)) (sym (p ∙ after-done room cs (start b w) log text k ∙ ap (λ (ds : List Call). ran_these room ds x log text) (made_all cs x))) (agreed (sheet_sum t) x f d (a cs))

  pub promised : {o : Came} → o ≡ ran_from room calls b w log text → Promise room calls b w log text o
  unfolding Promise ran_from PromiseIf keyless_start start Demand3
  promised {o} p = go (fits room calls (length log) (length text)) refl p
    where
      go : (f : Bool) → fits room calls (length log) (length text) ≡ f → o ≡ cond f (ran_after room cs (start b w) log text) (came unfit w log text)
          → PromiseIf f room cs b w log text o
      go false e q = record { not_0 = λ z. omega arith; all = q }
      go true e q = begun (begins b (length w)) (all-fits room calls (length log) (length text) e) refl (demand-3 b w) q

  -- ---- both clauses of a contract, by one law for each answer

  abbrev Both : Came → Type 0
  Both o = (o ≡ ran_from room calls b w log text) × Promise room calls b w log text o

  both : {o : Came} → o ≡ ran_from room calls b w log text → Both o
  both p = (p, promised p)

  pub ran-unfit : {r : Ran} → fits room calls (length log) (length text) ≡ false → r ≡ unfit → Both (came r w log text)
  unfolding ran_from
  ran-unfit e p = both (rw e (ap (λ (r : Ran). came r w log text) p))

  pub ran_on-start : {o : Came} (a : Answer) (v : List ℕ) → fits room calls (length log) (length text) ≡ true → gave a v ≡ start b w → o ≡ ran_after room cs (gave a v) log text
      → Both o
  unfolding ran_from
  ran_on-start a v e s p = both (rw e (p ∙ ap (λ (l : Left). ran_after room cs l log text) s))
