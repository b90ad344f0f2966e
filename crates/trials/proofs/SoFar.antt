-- The trials so far: what they have shown, and the last one's sum. Assumes nothing.
use Prim.Native.Nat.{ℕ, zero, suc, ◌+◌, ◌*◌, ◌-◌, ◌<◌, ◌≤◌}
use native.Mathlib.Nat.{zero-mul, suc-mul, mul_assoc, mul_comm, le_refl, add-sub_cancel_left}
use native.Mathlib.Numerals.{add-one}
use native.Mathlib.Omega.{arith}
use mathlib.Core.Path.{◌≡◌, refl, sym, ap, ap₂, subst, ◌∙◌}
use mathlib.Core.Bool.{Bool, true, false, cond}
use mathlib.Core.List.{List, [], ◌∷◌, ◌++◌, map, map-append, append_assoc, append-nil}
use lib.Dec.{eqb}
use lib.Ieee.{Float, nan}
use lib.ListN.{length, take, drop, get_or, length-append}
use lib.Seq.{take-suc, take_all, take-length, take_at, drop_at, drop-drop}
use borrow.Rule.Slice.PartMut.{put_mid}
use Rattle.model.specs.Floats.{float, zero_bits}
use Rattle.model.specs.Lists.{joined}
use Rattle.model.specs.Sheet.{Sheet}
use Rattle.model.specs.Sum.{done}
use Rattle.model.specs.Calls.{Call, Lent, Left, gave, plain_answer, zero_header, fresh_sheet, begins, left_by, start, overlaid, step}
use Rattle.model.specs.Demand3.{next, after_calls}
use borrow.Author.Tests.{ne_eqb}
use Rattle.model.specs.Trials.{trial_number, tried_all, tried_by, tried, TrialsPromise, TrialsAgree, Plan, fresh_of, trial_begun, trial_left, trial_places, last_cutoff, accepted_of, place_of, places_of, repeated}
use Rattle.model.specs.Known.{Checked}
use Rattle.model.proofs.Known.{start-checked}
use Rattle.model.proofs.Trials.{Judged, fresh-begins, trials-agree}

-- ---- the places of a trial: two words for each step

repeated-length : (n : ℕ) (a b : ℕ) → length (repeated n (a ∷ b ∷ [])) ≡ 2 * n
unfolding repeated
repeated-length zero a b = refl
repeated-length (suc n) a b = omega (arith, repeated-length n a b)

pub places-length : (cs : List Call) (x : Lent) → length (places_of cs x) ≡ 2 * length cs
unfolding places_of
places-length [] x = refl
places-length (c ∷ cs) x = go (eqb (step c x).answer.number 0) (places_of cs (next (step c x))) (places-length cs (next (step c x)))
  where
    go : (b : Bool) (rest : List ℕ) → length rest ≡ 2 * length cs → length (place_of (step c x) ++ cond b rest (repeated (length cs) (place_of (step c x)))) ≡ 2 * length (c ∷ cs)
    go true rest e = omega (arith, e)
    go false rest e = omega (arith, repeated-length (length cs) (step c x).answer.number (step c x).answer.header.count)

-- an element within a list, whatever stands for those past its end
pub within-any : (l : List Float) (i : ℕ) (d e : Float) → i < length l → get_or l i d ≡ get_or l i e
within-any [] i d e h = absurd (omega (arith, h))
within-any (x ∷ l) zero d e h = refl
within-any (x ∷ l) (suc i) d e h = within-any l i d e (omega (arith, h))

-- ---- the fresh call of a trial, in a store of any words

module _ (p : Plan) (room : ℕ) (w : List ℕ) (j : Judged p (length w) room) (i : ℕ) (h : i < length p.cutoffs) where
  abbrev cutoff : Float
  cutoff = get_or p.cutoffs i (float zero_bits)

  abbrev sheet : Sheet
  sheet = fresh_sheet p.size p.threshold cutoff

  fresh-is : (v : List ℕ) → length v ≡ length w → start (fresh_of p cutoff) v ≡ left_by (fresh_of p cutoff) w (done sheet)
  unfolding start left_by
  fresh-is v e = ap (left_by (fresh_of p cutoff) v) (ap (begins (fresh_of p cutoff)) e ∙ fresh-begins p (length w) room j i h)

  pub fresh-same : (v : List ℕ) → length v ≡ length w → start (fresh_of p cutoff) v ≡ start (fresh_of p cutoff) w
  fresh-same v e = fresh-is v e ∙ sym (fresh-is w refl)

  pub fresh-accepted : (v : List ℕ) → length v ≡ length w → (start (fresh_of p cutoff) v).answer.number ≡ 0
  unfolding left_by plain_answer
  fresh-accepted v e = ap (λ (l : Left). l.answer.number) (fresh-is v e)

  -- .. which begins the trial of turn i
  pub turn-begun : (d : Float) (v : List ℕ) (b : Lent) → length v ≡ length w → b ≡ next (start (fresh_of p (get_or p.cutoffs i d)) v) → Checked b × (b ≡ trial_begun p w cutoff)
  turn-begun d v b l e =
      let e₀ : b ≡ next (start (fresh_of p cutoff) v) = e ∙ ap (λ (c : Float). next (start (fresh_of p c) v)) (within-any p.cutoffs i d (float zero_bits) h) in
      (subst Checked (sym e₀) (start-checked _ v (fresh-accepted v l)), e₀ ∙ ap next (fresh-same v l))

-- ---- stretches of k words, one for each of a list's elements

joined_snoc : (ls : List (List ℕ)) (l : List ℕ) → joined (ls ++ l ∷ []) ≡ joined ls ++ l
unfolding joined
joined_snoc [] l = append-nil l
joined_snoc (m ∷ ls) l = ap (λ (q : List ℕ). m ++ q) (joined_snoc ls l) ∙ sym (append_assoc m (joined ls) l)

-- those of the first i
abbrev pub first_ones : (Float → List ℕ) → List Float → ℕ → List ℕ
first_ones f cs i = joined (map f (take i cs))

module _ (f : Float → List ℕ) (k : ℕ) (each : (c : Float) → length (f c) ≡ k) (cs : List Float) where
  abbrev written : ℕ → List ℕ
  written = first_ones f cs

  pub written_next : (i : ℕ) (d : Float) → i < length cs → written (i + 1) ≡ written i ++ f (get_or cs i d)
  written_next i d h =
      ap written (add-one i)
      ∙ ap (λ (l : List Float). joined (map f l)) (take-suc cs i d h)
      ∙ ap joined (map-append f (take i cs) (get_or cs i d ∷ []))
      ∙ joined_snoc (map f (take i cs)) (f (get_or cs i d))

  pub written-length : (i : ℕ) → i ≤ length cs → length (written i) ≡ i * k
  unfolding joined
  written-length zero h = sym (zero-mul k)
  written-length (suc i) h =
      ap (λ (n : ℕ). length (written n)) (sym (add-one i))
      ∙ ap length (written_next i nan h)
      ∙ length-append (written i) (f (get_or cs i nan))
      ∙ ap₂ ◌+◌ (written-length i (omega (arith, h))) (each (get_or cs i nan))
      ∙ sym (suc-mul i k)

  -- the next stretch is put behind them
  pub written-put : (i : ℕ) (d : Float) (out out₀ ys : List ℕ) → i < length cs → out ≡ written i ++ drop (i * k) out₀ → ys ≡ f (get_or cs i d)
      → put_mid (i * k) (i * k + k - i * k) out ys ≡ written (i + 1) ++ drop ((i + 1) * k) out₀
  written-put i d out out₀ ys h e g =
      ap (λ (n : ℕ). put_mid (i * k) n out ys) (add-sub_cancel_left (i * k) k)
      ∙ ap₂ (put_mid (i * k) k) e g
      ∙ ap₂ (λ (a b : List ℕ). a ++ (f (get_or cs i d) ++ b)) (take_at (written i) (drop (i * k) out₀) (i * k) l)
      (ap (drop k) (drop_at (written i) (drop (i * k) out₀) (i * k) l) ∙ drop-drop k (i * k) out₀ ∙ ap (λ (n : ℕ). drop n out₀) (after i k))
      ∙ sym (append_assoc (written i) (f (get_or cs i d)) (drop ((i + 1) * k) out₀))
      ∙ ap (λ (q : List ℕ). q ++ drop ((i + 1) * k) out₀) (sym (written_next i d h))
    where
      l : length (written i) ≡ i * k
      l = written-length i (omega (arith, h))

      after : (i k : ℕ) → i * k + k ≡ (i + 1) * k
      after i k = sym (ap (λ (n : ℕ). n * k) (add-one i) ∙ suc-mul i k)

-- ---- all trials

module _ (p : Plan) (w out₀ : List ℕ) (many : length p.calls ≡ p.count) where
  -- the places of the trial of a cutoff
  abbrev shown_by : Float → List ℕ
  shown_by c = places_of p.calls (trial_begun p w c)

  shown-length : (c : Float) → length (shown_by c) ≡ 2 * p.count
  shown-length c = places-length p.calls (trial_begun p w c) ∙ ap (λ (n : ℕ). 2 * n) many

  -- after i trials: x is left, and out written
  pub record SoFar (i : ℕ) (x : Lent) (out : List ℕ) : Type 0 where
    pub left : (i ≡ 0 → ⊥) → x ≡ trial_left p w (get_or p.cutoffs (i - 1) (float zero_bits))
    pub shown : out ≡ first_ones shown_by p.cutoffs i ++ drop (i * (2 * p.count)) out₀

  pub none_so_far : (x : Lent) → SoFar 0 x out₀
  unfolding joined
  none_so_far x = record { left = λ n. absurd (n refl); shown = sym (ap (λ (k : ℕ). drop k out₀) (zero-mul (2 * p.count))) }

  -- one more
  module _ (i : ℕ) (x : Lent) (out : List ℕ) (s : SoFar i x out) (h : i < length p.cutoffs) where
    pub one_more : (y b : Lent) (ys : List ℕ) → b ≡ trial_begun p w (get_or p.cutoffs i (float zero_bits)) → y ≡ after_calls (accepted_of p.calls b) b → ys ≡ places_of p.calls b
        → SoFar (i + 1) y (put_mid (i * (2 * p.count)) (i * (2 * p.count) + 2 * p.count - i * (2 * p.count)) out ys)
    one_more y b ys e f g =
        record {
          left = λ n. f ∙ ap (λ (b : Lent). after_calls (accepted_of p.calls b) b) e ∙ ap (λ (k : ℕ). trial_left p w (get_or p.cutoffs k (float zero_bits))) (back i);
          shown = written-put shown_by (2 * p.count) shown-length p.cutoffs i (float zero_bits) out out₀ ys h s.shown (g ∙ ap (places_of p.calls) e);
        }
      where
        back : (i : ℕ) → i ≡ i + 1 - 1
        back i = omega arith

  -- all of them
  module _ (i : ℕ) (x : Lent) (out : List ℕ) (s : SoFar i x out) (h : length p.cutoffs ≡ i) where
    pub all_left : (i ≡ 0 → ⊥) → x ≡ trial_left p w (last_cutoff p)
    all_left n = s.left n ∙ ap (λ (k : ℕ). trial_left p w (get_or p.cutoffs (k - 1) (float zero_bits))) (sym h)

    pub all_shown-is : out ≡ overlaid (trial_places p w) out₀
    unfolding trial_places
    all_shown-is =
        s.shown
        ∙ ap₂ (λ (a b : List ℕ). a ++ b)
        (ap (λ (l : List Float). joined (map shown_by l)) (take_all i p.cutoffs (omega (arith, h))))
        (ap (λ (n : ℕ). drop n out₀) (sym (written-length shown_by (2 * p.count) shown-length p.cutoffs i (omega (arith, h))) ∙ ap (λ (l : List Float). length (joined (map shown_by l))) (take_all i p.cutoffs (omega (arith, h)))))

-- ---- the call

module _ (p : Plan) (room : ℕ) (w : List ℕ) (n : ℕ) (e : n ≡ trial_number p (length w) room) where
  pub tried-refused : (n ≡ 0 → ⊥) → tried p room w ≡ gave (plain_answer zero_header n) w
  unfolding tried_by
  tried-refused h = ap (λ (k : ℕ). tried_by k p w) (sym e) ∙ ap (λ (b : Bool). cond b (tried_all p w) (gave (plain_answer zero_header n) w)) (ne_eqb n 0 h)

  pub tried-done : n ≡ 0 → tried p room w ≡ tried_all p w
  unfolding tried_by
  tried-done z = ap (λ (k : ℕ). tried_by k p w) (sym e ∙ z)

-- what is promised of a call that is done
module _ (p : Plan) (room : ℕ) (w : List ℕ) (many : length p.calls ≡ p.count) (z : trial_number p (length w) room ≡ 0) where
  shown-all : length (trial_places p w) ≡ 2 * length p.cutoffs * p.count
  unfolding trial_places
  shown-all =
      ap (λ (l : List Float). length (joined (map (shown_by p w [] many) l))) (sym (take-length p.cutoffs))
      ∙ written-length (shown_by p w [] many) (2 * p.count) (shown-length p w [] many) p.cutoffs (length p.cutoffs) (le_refl (length p.cutoffs))
      ∙ sym (mul_assoc (length p.cutoffs) 2 p.count)
      ∙ ap (λ (n : ℕ). n * p.count) (mul_comm (length p.cutoffs) 2)

  pub promised : (x : Lent) (out out₀ : List ℕ) → x ≡ next (tried p room w) → out ≡ overlaid (tried p room w).output out₀ → TrialsPromise p w x (take (2 * length p.cutoffs * p.count) out)
  unfolding TrialsAgree tried_all
  promised x out out₀ e f =
      let words = 2 * length p.cutoffs * p.count in
      let t = tried-done p room w (trial_number p (length w) room) refl z in
      let o : length (tried p room w).output ≡ words = ap (λ (l : Left). length l.output) t ∙ shown-all in
      let s : (tried p room w).output ≡ take words out = sym (ap (take words) f ∙ take_at (tried p room w).output _ words o) in
      subst (λ (q : List ℕ). TrialsPromise p w x q) s (subst (λ (y : Lent). TrialsPromise p w y (tried p room w).output) (sym e) (trials-agree p room w z))
