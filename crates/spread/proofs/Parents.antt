-- The branches of one parent: merging changes only weights, so a parent goes on giving the branches that it gave at first. Assumes nothing.
use mathlib.Core.Path.{◌≡◌, refl, sym, ap, ap₂, subst, ◌∙◌}
use mathlib.Core.Bool.{Bool, true, false, cond, true≢false}
use mathlib.Core.List.{List, [], ◌∷◌, ◌++◌, map, map-append}
use Prim.Native.Nat.{ℕ, zero, suc, ◌+◌, ◌*◌, ◌≤◌, ◌<◌}
use native.Mathlib.Nat.{le_refl}
use native.Mathlib.Numerals.{add-one}
use native.Mathlib.Omega.{arith}
use lib.Dec.{eqb}
use lib.Ieee.{Float, nan}
use lib.ListN.{length, take, get_or, length-append, length-map, get_or-map}
use lib.Seq.{get_or-take}
use borrow.Author.Tests.{eqb-true}
use Rattle.model.specs.Lists.{all_below}
use Rattle.model.specs.Floats.{float, bits, times}
use Rattle.model.specs.Entries.{Keyed, x_at, z_at, entry_len, entry_of, stretch, listed}
use Rattle.model.specs.Keys.{usual_salts}
use Rattle.model.specs.Changes.{changed_keyed, changed_entry}
use Rattle.model.specs.Store.{keyed_weighed, reweighed, merge_all, tested_all, how_many}
use Rattle.model.specs.Channels.{branch_of}
use Rattle.model.specs.Calls.{engine}
use Rattle.model.specs.declared.BranchMutation.{BranchMutation}
use Rattle.model.specs.declared.Size.{Size}
use Rattle.model.proofs.Lists.{and_both, all-at}
use Rattle.model.proofs.Groups.{stride-le}
use Rattle.model.proofs.Entries.{listed_at}
use Rattle.model.specs.Sound.{Packed}
use Rattle.model.proofs.Packed.{within}
use Rattle.changes.specs.Changes.{change_of}
use Rattle.changes.specs.declared.Change.{Change}
use Rattle.changes.specs.Tables.{first_table, second_table, change_at, walked_rows}
use Rattle.changes.proofs.Tables.{SamePaulis, first-same, second-same, branch-changes}
use Rattle.branch.specs.Same.{same_pauli}
use Rattle.arms.specs.Arms.{mutation_at, arm_at, arms_below, ShapeBelow}
use Rattle.arms.specs.declared.Arms.{Arms}
use Rattle.arms.specs.declared.Shape.{Shape}
use Rattle.arms.specs.declared.Shape.TheVariants.{One, Lose, Two}
use Rattle.model.specs.Qubits.{QubitsBelow}
use Rattle.merging.specs.Progress.{unweighed, Light, Went, started}
use Rattle.spread.specs.Branches.{TablesOf, TablesUpTo, parent_at, branches_below, live_at, branches_by, branches_up_to}
use Rattle.spread.specs.declared.Tables.{Tables}
use Rattle.merging.specs.declared.Progress.{Progress}
use Rattle.merging.proofs.Went.{all_there, two_runs}

-- the qubits of a branch are those of its shape
pub qubits-below : (m : ℕ) (h : Shape) (a : ℕ) → ShapeBelow m h → QubitsBelow m (mutation_at h a)
unfolding mutation_at
qubits-below m (One q) a b = b
qubits-below m (Lose q) a b = b
qubits-below m (Two p q) a b = b

-- a branch takes nothing from its parent's weight but by its own
module _ (n v : ℕ) (m : BranchMutation) where
  weightless : (e : Keyed) → reweighed keyed_weighed v (changed_keyed usual_salts n m e) ≡ reweighed keyed_weighed v (changed_keyed usual_salts n m (unweighed e))
  unfolding reweighed changed_keyed changed_entry
  weightless e = refl

  pub same_branch : (e x : Keyed) → unweighed e ≡ unweighed x → reweighed keyed_weighed v (changed_keyed usual_salts n m e) ≡ reweighed keyed_weighed v (changed_keyed usual_salts n m x)
  same_branch e x h = weightless e ∙ ap (λ (y : Keyed). reweighed keyed_weighed v (changed_keyed usual_salts n m y)) h ∙ sym (weightless x)

pub same_count : (e x : Keyed) → unweighed e ≡ unweighed x → e.entry.body.count ≡ x.entry.body.count
unfolding reweighed
same_count e x h = ap (λ (y : Keyed). y.entry.body.count) h

pub same_rows : (e x : Keyed) → unweighed e ≡ unweighed x → e.entry.body.rows ≡ x.entry.body.rows
unfolding reweighed
same_rows e x h = ap (λ (y : Keyed). y.entry.body.rows) h

-- so its tables are the same
pub same_tables : {s : Size} {h : Shape} {e x : Keyed} {t : Tables} → unweighed e ≡ unweighed x → TablesOf s h x t → TablesOf s h e t
same_tables {s} {h} {e} {x} u t =
    let rows = sym (same_rows e x u) in
    record { first = t.first ∙ ap (first_table h s.n) rows; second = t.second ∙ ap (second_table h s.n) rows }

-- an entry with the x and z of another one, as far as tables are made from them, has its tables
pub shared-tables : (s : Size) (h : Shape) {e x : Keyed} {t : Tables} → all_below (same_pauli e.entry.body.rows x.entry.body.rows) (walked_rows h s.n) ≡ true
    → TablesOf s h e t → TablesOf s h x t
shared-tables s h {e} {x} same t =
    let rows = e.entry.body.rows in
    let others = x.entry.body.rows in
    record { first = t.first ∙ first-same h s.n rows others paulis; second = t.second ∙ second-same h s.n rows others paulis }
  where
    paulis : SamePaulis (walked_rows h s.n) e.entry.body.rows x.entry.body.rows
    paulis i l =
        let a = e.entry.body.rows in
        let b = x.entry.body.rows in
        let two = and_both (eqb (x_at a i) (x_at b i)) (eqb (z_at a i) (z_at b i)) (all-at (same_pauli a b) (walked_rows h s.n) i same l) in
        (eqb-true (x_at a i) (x_at b i) two.0, eqb-true (z_at a i) (z_at b i) two.1)

-- tables that are made of the entry at place i
pub made-here : (s : Size) (h : Shape) (w : List ℕ) {t : Tables} {i : ℕ} → t.place ≡ i → TablesOf s h (entry_of s (stretch s w i)) t → TablesUpTo s h i w t
made-here s h w {t} e p = record { low = omega (arith, e); tables = subst (λ (k : ℕ). TablesOf s h (entry_of s (stretch s w k)) t) (sym e) p }

pub up-to-next : {s : Size} {h : Shape} {w : List ℕ} {t : Tables} {i : ℕ} → TablesUpTo s h i w t → TablesUpTo s h (i + 1) w t
up-to-next t = record { low = omega (arith, t.low); tables = t.tables }

-- a listed entry lies in the store
pub inside : (s : Size) (count i : ℕ) (w : List ℕ) → Packed s count w → i < count → i * entry_len s + entry_len s ≤ length w
inside s count i w g h = omega (arith, stride-le (entry_len s) i count h, within s count w g)

again : (old : ℕ) (e : Keyed) → unweighed e ≡ unweighed (reweighed keyed_weighed old e)
unfolding reweighed
again old e = refl

many-arms : (r : Arms) (a : ℕ) → length (arms_below r a) ≡ a
unfolding arms_below
many-arms r zero = refl
many-arms r (suc a) = length-append (arms_below r a) (arm_at r a ∷ []) ∙ omega (arith, many-arms r a)

many-branches : (s : Size) (threshold : Float) (r : Arms) (a : ℕ) (x : Keyed) → length (branches_below s threshold r a x) ≡ a
many-branches s threshold r a x = length-map (arms_below r a) (branch_of (engine s threshold) x) ∙ many-arms r a

module _ (s : Size) (threshold cutoff : Float) where
  -- no branch yet
  pub nothing-went : (p : Progress) (w : List ℕ) → Packed s p.count w → Went s threshold cutoff [] p w p w
  unfolding merge_all tested_all how_many
  nothing-went p w g =
      record {
        packed = g;
        grows = le_refl p.count;
        front = ap (map unweighed) (all_there s p.count w);
        stuck = λ z. z;
        tally = λ z. refl;
        compared = λ z. omega arith;
        overflow = λ y z. absurd (true≢false (sym z ∙ y));
        few = omega arith;
        tested = omega arith;
      }

  -- the entry at a place that was listed, but for its weight
  pub still-there : {bs : List Keyed} {p q : Progress} {w v : List ℕ} (i : ℕ) → i < p.count → Went s threshold cutoff bs p w q v → unweighed (entry_of s (stretch s v i)) ≡ unweighed (entry_of s (stretch s w i))
  still-there {p = p} {q = q} {w = w} {v = v} i h t =
      let d = entry_of s [] in
      ap unweighed (sym (get_or-take p.count (listed s q.count v) i d h ∙ listed_at s q.count i v d (omega (arith, t.grows))))
      ∙ sym (get_or-map unweighed (take p.count (listed s q.count v)) i d)
      ∙ ap (λ (l : List Keyed). get_or l i (unweighed d)) t.front
      ∙ get_or-map unweighed (listed s p.count w) i d
      ∙ ap unweighed (listed_at s p.count i w d h)

  -- so its tables are what they were, and were what they are
  module _ {bs : List Keyed} {p q : Progress} {w v : List ℕ} (i : ℕ) (l : i < p.count) (t : Went s threshold cutoff bs p w q v) {h : Shape} {o : Tables} where
    pub tables-now : TablesUpTo s h i w o → TablesUpTo s h i v o
    tables-now u = record { low = u.low; tables = same_tables (still-there o.place (omega (arith, u.low)) t) u.tables }

    pub tables_then : TablesUpTo s h i v o → TablesUpTo s h i w o
    tables_then u = record { low = u.low; tables = same_tables (sym (still-there o.place (omega (arith, u.low)) t)) u.tables }

  module _ (r : Arms) (i old : ℕ) (p : Progress) (w : List ℕ) (h : i < p.count) where
    abbrev parent : Keyed
    parent = parent_at s w i old

    abbrev Sofar : ℕ → Progress → List ℕ → Type 0
    Sofar a q v = Went s threshold cutoff (branches_below s threshold r a parent) p w q v

    pub no-branch : Packed s p.count w → Sofar 0 p w
    unfolding arms_below
    no-branch g = nothing-went p w g

    branch-is : (a : ℕ) (e : Keyed) → unweighed e ≡ unweighed (entry_of s (stretch s w i))
        → reweighed keyed_weighed (bits (times (float old) (get_or r.rates a nan))) (changed_keyed usual_salts s.n (mutation_at r.shape a) e) ≡ branch_of (engine s threshold) parent (arm_at r a)
    unfolding branch_of reweighed
    branch-is a e u = same_branch s.n _ (mutation_at r.shape a) e parent (u ∙ again old (entry_of s (stretch s w i)))

    next-branch : (a : ℕ) (q q' : Progress) (v v' : List ℕ) → Sofar a q v
        → Went s threshold cutoff (reweighed keyed_weighed (bits (times (float old) (get_or r.rates a nan))) (changed_keyed usual_salts s.n (mutation_at r.shape a) (entry_of s (stretch s v i))) ∷ []) q v q' v'
        → Sofar (a + 1) q' v'
    unfolding arms_below
    next-branch a q q' v v' t b =
        let e = ap (map (branch_of (engine s threshold) parent)) (ap (arms_below r) (add-one a)) ∙ map-append (branch_of (engine s threshold) parent) (arms_below r a) (arm_at r a ∷ []) in
        rw e
        (two_runs s threshold cutoff (branches_below s threshold r a parent) (branch_of (engine s threshold) parent (arm_at r a) ∷ []) p q q' w v v' t
        (rw (sym (branch-is a (entry_of s (stretch s v i)) (still-there i h t))) b))

    -- one branch more, as the code makes it
    pub branch-merged : (a : ℕ) (q q' : Progress) (v v' : List ℕ) {weight : Float} {m : BranchMutation} {b : ℕ} → weight ≡ float old
        → m ≡ mutation_at r.shape a → b ≡ bits (times weight (get_or r.rates a nan)) → Sofar a q v
        → Went s threshold cutoff (reweighed keyed_weighed b (changed_keyed usual_salts s.n m (entry_of s (stretch s v i))) ∷ []) q v q' v' → Sofar (a + 1) q' v'
    branch-merged a q q' v v' {weight} {m} {b} f c e t g =
        let e' : b ≡ bits (times (float old) (get_or r.rates a nan)) = e ∙ ap (λ (x : Float). bits (times x (get_or r.rates a nan))) f in
        next-branch a q q' v v' t (rw (sym c, sym e') g)

    -- the tables of the parent as it was give what a branch changes now
    pub change-now : (a : ℕ) (q : Progress) (v : List ℕ) {first second : List ℕ} {d : Change} → a < 15 → Sofar a q v
        → first ≡ first_table r.shape s.n (entry_of s (stretch s w i)).entry.body.rows → second ≡ second_table r.shape s.n (entry_of s (stretch s w i)).entry.body.rows
        → d ≡ change_at first second a → d ≡ change_of usual_salts s.n (mutation_at r.shape a) (entry_of s (stretch s v i)).entry.body.rows
    change-now a q v {first} {second} {d} b t f g k =
        let rows = (entry_of s (stretch s w i)).entry.body.rows in
        k ∙ ap₂ (λ (x y : List ℕ). change_at x y a) f g ∙ branch-changes s.n rows r.shape a b
        ∙ ap (change_of usual_salts s.n (mutation_at r.shape a)) (sym (same_rows (entry_of s (stretch s v i)) (entry_of s (stretch s w i)) (still-there i h t)))

    pub light : (a : ℕ) (q : Progress) (v : List ℕ) → Light (15 * i) p → a ≤ 15 → i < 256 → Sofar a q v → Light 65536 q
    light a q v l b k t =
        record {
          settled = omega (arith, l.settled, t.few, many-branches s threshold r a parent);
          compared = omega (arith, l.compared, t.tested, many-branches s threshold r a parent);
        }

    -- the parent is a listed entry still, with as many coefficients
    pub as_before : (a : ℕ) (q : Progress) (v : List ℕ) → (entry_of s (stretch s w i)).entry.body.count ≤ s.k → Sofar a q v → (entry_of s (stretch s v i)).entry.body.count ≤ s.k
    as_before a q v k t = omega (arith, k, same_count (entry_of s (stretch s v i)) (entry_of s (stretch s w i)) (still-there i h t))

-- ---- one parent after the other

blank : (old : ℕ) (e : Keyed) → reweighed keyed_weighed old e ≡ reweighed keyed_weighed old (unweighed e)
unfolding reweighed
blank old e = refl

-- a parent is the same whatever weight stands in the store
pub same-parent : (s : Size) (w v : List ℕ) (i old : ℕ) → unweighed (entry_of s (stretch s v i)) ≡ unweighed (entry_of s (stretch s w i)) → parent_at s v i old ≡ parent_at s w i old
same-parent s w v i old u = blank old (entry_of s (stretch s v i)) ∙ ap (reweighed keyed_weighed old) u ∙ sym (blank old (entry_of s (stretch s w i)))

by-loss : (s : Size) (threshold : Float) (r : Arms) (old : ℕ) (e : Keyed) {b : Bool} → live_at r.shape e.entry.body.loss ≡ b
    → branches_by s threshold r (reweighed keyed_weighed old e) ≡ cond b (branches_below s threshold r r.count (reweighed keyed_weighed old e)) []
unfolding branches_by reweighed
by-loss s threshold r old e l = ap (λ (b : Bool). cond b (branches_below s threshold r r.count (reweighed keyed_weighed old e)) []) l

module _ (s : Size) (threshold cutoff : Float) (r : Arms) (saved w : List ℕ) (n : ℕ) (few : r.count ≤ 15) where
  abbrev Done : ℕ → Progress → List ℕ → Type 0
  Done i q v = Went s threshold cutoff (branches_up_to s threshold r saved w i) (started n) w q v

  of_one : (x : Keyed) → length (branches_by s threshold r x) ≤ 15
  unfolding branches_by
  of_one x = go (live_at r.shape x.entry.body.loss)
    where
      go : (b : Bool) → length (cond b (branches_below s threshold r r.count x) []) ≤ 15
      go true = omega (arith, few, many-branches s threshold r r.count x)
      go false = omega arith

  pub none_done : Packed s n w → Done 0 (started n) w
  unfolding branches_up_to
  none_done g = nothing-went s threshold cutoff (started n) w g

  at_most : (i : ℕ) → length (branches_up_to s threshold r saved w i) ≤ 15 * i
  unfolding branches_up_to
  at_most zero = omega arith
  at_most (suc i) = omega (arith, at_most i, length-append (branches_up_to s threshold r saved w i) (branches_by s threshold r (parent_at s w i (get_or saved i 0))), of_one (parent_at s w i (get_or saved i 0)))

  module _ (i : ℕ) (h : i < n) (q : Progress) (v : List ℕ) (t : Done i q v) where
    abbrev now-parent : Keyed
    now-parent = parent_at s v i (get_or saved i 0)

    branches-are : {b : Bool} → live_at r.shape (entry_of s (stretch s v i)).entry.body.loss ≡ b
        → branches_up_to s threshold r saved w (i + 1) ≡ branches_up_to s threshold r saved w i ++ cond b (branches_below s threshold r r.count now-parent) []
    unfolding branches_up_to
    branches-are {b} l =
        ap (branches_up_to s threshold r saved w) (add-one i)
        ∙ ap (λ (x : List Keyed). branches_up_to s threshold r saved w i ++ x)
        (ap (branches_by s threshold r) (sym (same-parent s w v i (get_or saved i 0) (still-there s threshold cutoff i h t)))
        ∙ by-loss s threshold r (get_or saved i 0) (entry_of s (stretch s v i)) l)

    -- it is live, and its branches are merged
    pub parent-done : live_at r.shape (entry_of s (stretch s v i)).entry.body.loss ≡ true → (q' : Progress) (v' : List ℕ)
        → Went s threshold cutoff (branches_below s threshold r r.count now-parent) q v q' v' → Done (i + 1) q' v'
    parent-done l q' v' b =
        rw (branches-are l)
        (two_runs s threshold cutoff (branches_up_to s threshold r saved w i) (branches_below s threshold r r.count now-parent) (started n) q q' w v v' t b)

    -- it is lost: nothing is done
    pub parent-lost : live_at r.shape (entry_of s (stretch s v i)).entry.body.loss ≡ false → Done (i + 1) q v
    parent-lost l =
        rw (branches-are l)
        (two_runs s threshold cutoff (branches_up_to s threshold r saved w i) [] (started n) q q w v v t (nothing-went s threshold cutoff q v t.packed))

    -- at most 15 branches of each parent
    pub few-so-far : Light (15 * i) q
    few-so-far =
        record {
          settled = omega (arith, t.few, at_most i);
          compared = omega (arith, t.tested, at_most i);
        }
