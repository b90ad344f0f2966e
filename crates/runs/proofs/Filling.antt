-- A run that has made i calls: what is left of the calls that it makes gives the whole. Assumes nothing.
use mathlib.Core.Path.{◌≡◌, refl, sym, ap, ap₂, ◌∙◌}
use mathlib.Core.Bool.{Bool, cond, not, ◌&&◌}
use mathlib.Core.List.{List, [], ◌∷◌, ◌++◌, append_assoc}
use Prim.Native.Nat.{ℕ, ◌+◌, ◌*◌, ◌-◌, ◌≤◌, ◌<◌}
use native.Mathlib.Nat.{zero-mul, suc-mul, add-sub_cancel_left}
use native.Mathlib.Numerals.{add-one}
use native.Mathlib.Omega.{arith}
use lib.Dec.{eqb}
use lib.ListN.{length, take, drop, get_or, take-append-drop, drop_of_length-le}
use lib.Seq.{drop-cons, drop-drop}
use borrow.Rule.Slice.PartMut.{put_mid, mid_of, drop_put, mid_len}
use Rattle.model.specs.Calls.{Call, Lent, held, Left, step, overlaid}
use Rattle.model.specs.Demand3.{next, after_calls, made_of}
use Rattle.model.specs.declared.Answer.{Answer}
use Rattle.reader.proofs.Filled.{Filled, more}
use Rattle.perform.specs.Records.{record_of, text_of, Made}
use Rattle.runs.specs.Runs.{record_len, filled, Came, ran_these}
use Rattle.runs.specs.declared.Room.{Room}

-- ---- the calls that are made

module _ (stop : Bool) (cs : List Call) (i : ℕ) (x : Lent) where
  -- those that are left, the first one apart, which is made here: b says whether it ends the run
  pub made-next : {c : Call} {a : Answer} {w r r' t t' : List ℕ} → Made c x a w r r' t t' → i < length cs → get_or cs i c ≡ c → (b : Bool) → (stop && not (eqb a.number 0)) ≡ b
      → made_of stop (drop i cs) x ≡ c ∷ cond b [] (made_of stop (drop (i + 1) cs) (held a.header w))
  unfolding made_of
  made-next {c} {a} {w} m h e b t =
      ap (λ (l : List Call). made_of stop l x) (drop-cons cs i c h ∙ ap₂ (λ (d : Call) (k : ℕ). d ∷ drop k cs) e (sym (add-one i)))
      ∙ ap₂ (λ (d : Answer) (v : List ℕ). c ∷ cond (stop && not (eqb d.number 0)) [] (made_of stop (drop (i + 1) cs) (held d.header v))) (sym m.answer_is) (sym m.words_are)
      ∙ ap (λ (k : Bool). c ∷ cond k [] (made_of stop (drop (i + 1) cs) (held a.header w))) t

  pub made-end : length cs ≤ i → made_of stop (drop i cs) x ≡ []
  unfolding made_of
  made-end h = ap (λ (l : List Call). made_of stop l x) (drop_of_length-le cs {i = i} h)

-- ---- the records, or the text: stretches of one length

module _ (len : ℕ) (f : Call → Left → List ℕ) where
  -- the calls cs on x₀ fill w₀; i of them are made, ds are left, to be made on x, and w is filled so far
  pub record Filling (cs : List Call) (x₀ : Lent) (w₀ : List ℕ) (i : ℕ) (ds : List Call) (x : Lent) (w : List ℕ) : Type 0 where
    pub long : length w ≡ length w₀
    pub whole : take (i * len) w ++ filled len f ds x (drop (i * len) w) ≡ filled len f cs x₀ w₀

  filling-none : (cs : List Call) (x : Lent) (w : List ℕ) → Filling cs x w 0 cs x w
  filling-none cs x w =
      let z : 0 * len ≡ 0 = zero-mul len in
      record { long = refl; whole = rw z }

  filling-end : {cs : List Call} {x₀ x : Lent} {w₀ w : List ℕ} (i : ℕ) → Filling cs x₀ w₀ i [] x w → w ≡ filled len f cs x₀ w₀
  unfolding filled
  filling-end {w = w} i r = sym (take-append-drop (i * len) w) ∙ r.whole

  -- the stretch of call i came back as v
  filling-next : {cs ds : List Call} {x₀ : Lent} {w₀ : List ℕ} (x : Lent) (w v : List ℕ) (i : ℕ) (c : Call) → i * len + len ≤ length w
      → length v ≡ length (mid_of (i * len) (i * len + len - i * len) w) → v ≡ overlaid (f c (step c x)) (mid_of (i * len) (i * len + len - i * len) w)
      → Filling cs x₀ w₀ i (c ∷ ds) x w → Filling cs x₀ w₀ (i + 1) ds (next (step c x)) (put_mid (i * len) (i * len + len - i * len) w v)
  unfolding filled
  filling-next {ds = ds} x w v i c b l o r =
      let at = i * len in
      let end = i * len + len in
      let y = next (step c x) in
      let k : end - at ≡ len = add-sub_cancel_left at len in
      let s : (i + 1) * len ≡ end = ap (λ (m : ℕ). m * len) (add-one i) ∙ suc-mul i len in
      let put : Filled (length w) end (take at w ++ v) (put_mid at (end - at) w v) = more (record { long = refl; front = refl }) end v (omega arith) b l in
      let rest : drop end (put_mid at (end - at) w v) ≡ drop end w = drop_put at end w v (omega arith) b (l ∙ mid_len at end w b) in
      let go : filled len f (c ∷ ds) x (drop at w) ≡ v ++ filled len f ds y (drop end w) =
      ap₂ (λ (u : List ℕ) (t : List ℕ). u ++ t) (sym (o ∙ ap (λ (m : ℕ). overlaid (f c (step c x)) (take m (drop at w))) k))
      (ap (filled len f ds y) (drop-drop len at w)) in
      record {
        long = put.long ∙ r.long;
        whole =
            ap (λ (m : ℕ). take m (put_mid at (end - at) w v) ++ filled len f ds y (drop m (put_mid at (end - at) w v))) s
            ∙ ap₂ (λ (u t : List ℕ). u ++ filled len f ds y t) put.front rest
            ∙ append_assoc (take at w) v (filled len f ds y (drop end w))
            ∙ ap (λ (t : List ℕ). take at w ++ t) (sym go)
            ∙ r.whole;
      }

-- ---- all of it, with records of `len` words and `bytes` bytes of text for each call

abbrev ended : ℕ → Lent → List ℕ → List ℕ → Came
ended i x log text = record { number = 0; made = i; lent = x; log = log; text = text }

all_same : {i j : ℕ} {x y : Lent} {log log' text text' : List ℕ} → i ≡ j → x ≡ y → log ≡ log' → text ≡ text' → ended i x log text ≡ ended j y log' text'
all_same p q r s = rw (p, q, r, s)

module _ (len bytes : ℕ) where
  pub record Running (cs : List Call) (x₀ : Lent) (log₀ text₀ : List ℕ) (i : ℕ) (ds : List Call) (x : Lent) (log text : List ℕ) : Type 0 where
    pub made : i + length ds ≡ length cs
    pub lent : after_calls ds x ≡ after_calls cs x₀
    pub log_is : Filling len record_of cs x₀ log₀ i ds x log
    pub text_is : Filling bytes text_of cs x₀ text₀ i ds x text

  pub running_none : (cs : List Call) (x : Lent) (log text : List ℕ) → Running cs x log text 0 cs x log text
  running_none cs x log text =
      record { made = omega arith; lent = refl; log_is = filling-none len record_of cs x log; text_is = filling-none bytes text_of cs x text }

  -- the next call is made
  pub running-next : {cs ds es : List Call} {x₀ x : Lent} {log₀ log text₀ text u v w : List ℕ} {a : Answer} {i : ℕ} {c : Call}
      → ds ≡ c ∷ es → i * len + len ≤ length log → i * bytes + bytes ≤ length text
      → length u ≡ length (mid_of (i * len) (i * len + len - i * len) log) → length v ≡ length (mid_of (i * bytes) (i * bytes + bytes - i * bytes) text)
      → Made c x a w (mid_of (i * len) (i * len + len - i * len) log) u (mid_of (i * bytes) (i * bytes + bytes - i * bytes) text) v
      → Running cs x₀ log₀ text₀ i ds x log text
      → Running cs x₀ log₀ text₀ (i + 1) es (held a.header w) (put_mid (i * len) (i * len + len - i * len) log u) (put_mid (i * bytes) (i * bytes + bytes - i * bytes) text v)
  unfolding after_calls
  running-next {x = x} {log = log} {text = text} {u = u} {v = v} {i = i} {c = c} e p q k l m r =
      let s = rw e at r in
      rw (m.answer_is, m.words_are)
      record {
        made = omega (arith, s.made);
        lent = s.lent;
        log_is = filling-next len record_of x log u i c p k m.record_is s.log_is;
        text_is = filling-next bytes text_of x text v i c q l m.text_is s.text_is;
      }

  -- none is left
  pub running-end : {cs ds : List Call} {x₀ x : Lent} {log₀ log text₀ text : List ℕ} {i n : ℕ} (room : Room) → n ≡ i → len ≡ record_len room → bytes ≡ room.bytes → ds ≡ [] → Running cs x₀ log₀ text₀ i ds x log text
      → ended n x log text ≡ ran_these room cs x₀ log₀ text₀
  unfolding after_calls
  running-end {cs = cs} {x₀ = x₀} {log₀ = log₀} {text₀ = text₀} {i = i} room m p q e r =
      let s = rw e at r in
      all_same (omega (arith, m, s.made)) s.lent
      (filling-end len record_of i s.log_is ∙ ap (λ (n : ℕ). filled n record_of cs x₀ log₀) p)
      (filling-end bytes text_of i s.text_is ∙ ap (λ (n : ℕ). filled n text_of cs x₀ text₀) q)
