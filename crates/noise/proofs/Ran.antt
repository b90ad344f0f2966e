-- What `run_ready` leaves is what the definition of a channel leaves that works on the entries with the keys they have: on a sum that is not
-- dirty that is the channel, and on a dirty one once keys are rebuilt. Assumes nothing.
use mathlib.Core.Path.{◌≡◌, refl, sym, ap, ap₂, subst, ◌∙◌}
use mathlib.Core.Bool.{Bool, true, false, cond, true≢false}
use mathlib.Core.List.{List, map}
use Prim.Native.Nat.{ℕ, ◌≤◌}
use native.Mathlib.Omega.{arith}
use lib.Ieee.{Float}
use lib.ListN.{length, take}
use Rattle.model.specs.Lists.{joined}
use Rattle.model.specs.Floats.{float, one_bits, zero_bits, minus}
use Rattle.model.specs.Entries.{Keyed, listed, strip}
use Rattle.model.specs.Keys.{usual_salts}
use Rattle.model.specs.Store.{Tally, begun, keyed_weighed, weight_of, merge_all, merged_split, tested_all, how_many, above_cutoff}
use Rattle.model.specs.Sum.{Result, Cut, done, refused, map_result, finished}
use Rattle.model.specs.Channels as Channels
use Rattle.model.specs.Channels.{Noise, total_rate, folded_to, scaled, branches_of, noise_split, noise_tally, with_cut, channelled}
use Rattle.model.specs.Calls.{noise, Lent, held, Sum, with_list, sum_of, rebuilt, rebuilt_entries, acted, engine, act, Left, left, gave, Outcome, changed_to, accepted, plain_answer, kind_of, dirty_after, words_after, split_as, split_in, split_by, tested_by}
use Rattle.model.specs.declared.Size.{Size}
use Rattle.model.specs.declared.Header.{Header}
use Rattle.model.specs.declared.Answer.{Answer}
use Rattle.model.proofs.Entries.{length-listed}
use Rattle.model.specs.Numbers.{weights_sound, bodies_sound}
use Rattle.model.specs.Sound.{Packed, Sound}
use Rattle.model.proofs.Packed.{packed-is}
use Rattle.model.proofs.Merging.{no_room}
use Rattle.arms.specs.declared.Arms.{Arms}
use Rattle.rebuild.specs.Saved.{with_weights, with_key_words}
use Rattle.rebuild.proofs.Restored as Restored
use Rattle.entries.proofs.Emptied.{same_store}
use Rattle.merging.specs.Progress.{tally_of, unweighed, answered}
use Rattle.spread.specs.Branches.{scaled_by, branches_by}
use Rattle.arms.specs.Arms.{Stands}
use Rattle.spread.specs.Spread.{keep_by, split_for, merging, Spread}
use Rattle.noise.specs.Finish.{Finished, left_by, number_of, ending, acted_ready}
use Rattle.noise.specs.declared.Refusal.{Refusal}
use Rattle.noise.specs.declared.Refusal.TheVariants.{NoRoom, TotalZero}
use Rattle.weights.specs.declared.Cut.{Cut as Kept}
use Rattle.std.specs.Prelude.{Result as Ended, Ok, Err}
use Rattle.merging.specs.declared.Progress.{Progress}
use Rattle.spread.proofs.Split.{map_is, scaled-is, branches-of}

-- ---- the branches and the scaled entries are those of the definition

module _ (s : Size) (threshold cutoff : Float) (r : Arms) (c : Noise) (h : Stands r c) (ds : List Keyed) where
  keep-is : keep_by r ≡ minus (float one_bits) (total_rate c)
  unfolding total_rate
  keep-is = ap (λ (l : List Channels.Arm). minus (float one_bits) (folded_to (float zero_bits) l)) h.rates

  stay-is : (split_for s threshold r ds).stay ≡ (noise_split (engine s threshold) c ds).stay
  unfolding noise_split
  stay-is = ap (λ (k : Float). map (scaled_by r.shape k) ds) keep-is ∙ map_is (scaled_by r.shape (minus (float one_bits) (total_rate c))) (scaled keyed_weighed c) (scaled-is r c h) ds

  branches-is : (split_for s threshold r ds).branches ≡ (noise_split (engine s threshold) c ds).branches
  unfolding noise_split
  branches-is = ap joined (map_is (branches_by s threshold r) (branches_of (engine s threshold) c) (branches-of r c h s threshold) ds)

  tally-is : merging s threshold cutoff (split_for s threshold r ds) ≡ noise_tally (engine s threshold) cutoff c ds
  unfolding noise_tally merged_split
  tally-is = ap₂ (λ (b l : List Keyed). merge_all (engine s threshold) (above_cutoff cutoff) b (begun l)) branches-is stay-is

  tested-is : how_many (tested_all usual_salts s threshold (above_cutoff cutoff) (split_for s threshold r ds).branches (begun (split_for s threshold r ds).stay))
      ≡ how_many (tested_all usual_salts s threshold (above_cutoff cutoff) (noise_split (engine s threshold) c ds).branches (begun (noise_split (engine s threshold) c ds).stay))
  tested-is = ap₂ (λ (b l : List Keyed). how_many (tested_all usual_salts s threshold (above_cutoff cutoff) b (begun l))) branches-is stay-is

-- ---- the answers

pub number-not-0 : (q : Refusal) → number_of q ≡ 0 → ⊥
unfolding number_of
number-not-0 NoRoom e = omega arith
number-not-0 TotalZero e = omega arith

module _ (x : Lent) (r : Arms) (c : Noise) (h : Stands r c) (p : Progress) (w₃ : List ℕ) where
  abbrev hd : Header
  hd = x.header

  abbrev ds : List Keyed
  ds = listed hd.size hd.count x.words

  module _ (t : Spread hd.size hd.threshold hd.cutoff r ds p w₃) where
    -- with room, the channel's tally is what p and the store say
    module _ (o : p.full ≡ false) where
      pub same-tally : noise_tally (engine hd.size hd.threshold) hd.cutoff c ds ≡ tally_of hd.size p w₃
      same-tally = sym (t.tally o ∙ tally-is hd.size hd.threshold hd.cutoff r c h ds)

      pub ends_as : (r : Ended Kept Refusal) (es : List Keyed) → finished keyed_weighed hd.size.capacity hd.cutoff p.dropped (listed hd.size p.count w₃) ≡ ending r es
          → act engine (noise c) (sum_of x) ≡ map_result changed_to (map_result (with_cut (engine hd.size hd.threshold) (tally_of hd.size p w₃)) (ending r es))
      unfolding act channelled
      ends_as r es e =
          ap (λ (u : Tally Keyed). map_result changed_to (map_result (with_cut (engine hd.size hd.threshold) u) (finished keyed_weighed hd.size.capacity hd.cutoff u.dropped u.entries))) same-tally
          ∙ ap (λ (f : Result (Cut Keyed)). map_result changed_to (map_result (with_cut (engine hd.size hd.threshold) (tally_of hd.size p w₃)) f)) e

    -- ---- accepted

    module _ (k : Kept) (w₄ : List ℕ) (f : Finished hd.size hd.cutoff p w₃ (Ok k) w₄) where
      has_room : (b : Bool) → p.full ≡ b → p.full ≡ false
      has_room false e = e
      has_room true e = let g = f.full e in let z : true ≡ false = cc in e ∙ z

      pub ran-accepted : gave (answered hd k.left p k.taken) w₄ ≡ acted_ready c x
      unfolding left left_by map_result ending kind_of dirty_after words_after tested_by split_by split_as split_in accepted
      ran-accepted =
          let o = has_room p.full refl in
          sym
          (ap (left (noise c) x (sum_of x)) (ends_as o (Ok k) (listed hd.size k.left w₄) (f.result o))
          ∙ rw (length-listed hd.size k.left w₄, ← packed-is hd.size k.left w₄ f.packed, sym (t.compared o ∙ tested-is hd.size hd.threshold hd.cutoff r c h ds)))

    -- ---- refused

    overfull : p.full ≡ true → act engine (noise c) (sum_of x) ≡ refused 6
    unfolding act channelled map_result
    overfull e =
        let u = noise_tally (engine hd.size hd.threshold) hd.cutoff c ds in
        ap (λ (g : Result (Cut Keyed)). map_result changed_to (map_result (with_cut (engine hd.size hd.threshold) u) g))
        (no_room keyed_weighed hd.size.capacity hd.cutoff u.dropped u.entries
        (omega (arith, t.overflow e, ap (λ (v : Tally Keyed). length v.entries) (tally-is hd.size hd.threshold hd.cutoff r c h ds))))

    module _ (q : Refusal) (w₄ : List ℕ) (f : Finished hd.size hd.cutoff p w₃ (Err q) w₄) where
      refused_as : (b : Bool) → p.full ≡ b → act engine (noise c) (sum_of x) ≡ refused (number_of q)
      unfolding number_of ending map_result
      refused_as true e = let g = f.full e in let z : q ≡ NoRoom = cc in overfull e ∙ ap (λ (r : Refusal). refused (number_of r)) (sym z)
      refused_as false e = ends_as e (Err q) (listed hd.size (left_by p (Err q)) w₄) (f.result e)

      pub ran-refused : gave (plain_answer hd (number_of q)) x.words ≡ acted_ready c x
      unfolding left
      ran-refused = sym (ap (left (noise c) x (sum_of x)) (refused_as p.full refl))

-- ---- undone

module _ (s : Size) (count : ℕ) (w : List ℕ) (threshold cutoff : Float) (r : Arms) (p : Progress) (w₃ : List ℕ) (t : Spread s threshold cutoff r (listed s count w) p w₃) where
  pub at_least : count ≤ p.count
  at_least = omega (arith, t.grows, length-listed s count w)

  module _ (q : Refusal) (w₄ : List ℕ) (f : Finished s cutoff p w₃ (Err q) w₄) where
    front-is : map unweighed (take count (listed s p.count w₄)) ≡ map unweighed (listed s count w)
    front-is =
        ap₂ (λ (k : ℕ) (v : List ℕ). map unweighed (take k (listed s p.count v))) (sym (length-listed s count w)) (f.unchanged q refl)
        ∙ t.front

    -- the store is as it was
    pub undone : (saved v : List ℕ) → take count saved ≡ map (weight_of keyed_weighed) (listed s count w) → Packed s count w → Packed s count v
        → listed s count v ≡ with_weights (take count saved) (take count (listed s p.count w₄)) → v ≡ w
    unfolding Restored.unweighed
    undone saved v o g k l =
        let fs = take count (listed s p.count w₄) in
        same_store s count v w k g (l ∙ ap (λ (u : List ℕ). with_weights u fs) o ∙ Restored.weights-restored fs (listed s count w) front-is)

-- ---- by the flag

-- rebuilt keys leave a sum sound
pub rebuilt-sound : (s : Size) (count : ℕ) (w v : List ℕ) → Sound s count w → Packed s count v → listed s count v ≡ rebuilt_entries s.n (listed s count w) → Sound s count v
rebuilt-sound s count w v h g k =
    let e = ap (map strip) k ∙ Restored.rebuilt-same s.n (listed s count w) in
    record { packed = g; weights = ap weights_sound e ∙ h.weights; bodies = ap (bodies_sound s) e ∙ h.bodies }

module _ (c : Noise) (h : Header) (w : List ℕ) where
  abbrev x : Lent
  x = held h w

  abbrev on : Sum Keyed → Left
  on m = left (noise c) x m (act engine (noise c) m)

  pub not-dirty : h.dirty ≡ false → acted_ready c x ≡ acted (noise c) x
  unfolding rebuilt kind_of
  not-dirty d = sym (ap (λ (b : Bool). on (rebuilt (kind_of (noise c)) b (sum_of x))) d)

  abbrev list : List ℕ → List Keyed
  list = listed h.size h.count

  abbrev Packs : List ℕ → Type 0
  Packs = Packed h.size h.count

  -- a dirty sum, and v, its words with keys rebuilt: the channel works on the entries of v
  module _ (v : List ℕ) (d : h.dirty ≡ true) (k : list v ≡ rebuilt_entries h.size.n (list w)) where
    abbrev y : Lent
    y = held h v

    from-rebuilt : on (sum_of y) ≡ acted (noise c) x
    unfolding rebuilt kind_of
    from-rebuilt = ap (λ (es : List Keyed). on (with_list (sum_of x) es)) (k ∙ ap (λ (b : Bool). cond b (rebuilt_entries h.size.n (list w)) (list w)) (sym d))

    module _ (r : Answer) (u : List ℕ) where
      -- an accepted channel clears the flag, and leaves nothing of the words it was given
      if-accepted : r.header.dirty ≡ false → (m : Sum Keyed) (t : Result (Outcome Keyed)) → gave r u ≡ left (noise c) y m t → gave r u ≡ left (noise c) x m t
      unfolding left kind_of dirty_after words_after plain_answer
      if-accepted f m (done o) e = e
      if-accepted f m (refused n) e = absurd (true≢false (sym d ∙ sym (ap (λ (l : Left). l.answer.header.dirty) e) ∙ f))

      -- a refused one leaves header and words
      if-refused : (r.number ≡ 0 → ⊥) → (m : Sum Keyed) (t : Result (Outcome Keyed)) → gave r u ≡ left (noise c) y m t → (u ≡ v) × (gave r w ≡ left (noise c) x m t)
      unfolding left accepted plain_answer
      if-refused z m (done o) e = absurd (z (ap (λ (l : Left). l.answer.number) e))
      if-refused z m (refused n) e = (ap (λ (l : Left). l.words) e, ap (λ (l : Left). gave l.answer w) e)

      module _ (e : gave r u ≡ acted_ready c y) where
        pub dirty-accepted : r.header.dirty ≡ false → gave r u ≡ acted (noise c) x
        dirty-accepted f = if-accepted f (sum_of y) (act engine (noise c) (sum_of y)) e ∙ from-rebuilt

        -- with the saved keys put back, the store is as it was
        pub dirty-refused : (r.number ≡ 0 → ⊥) → (words phases u' : List ℕ) → words ≡ map (λ e. e.word_key) (list w) → phases ≡ map (λ e. e.phase_loss_key) (list w)
            → Packs w → Packs v → (Packs u → Packs u' × (list u' ≡ with_key_words words phases (list u))) → gave r u' ≡ acted (noise c) x
        dirty-refused z words phases u' i j g q b =
            let t = if-refused z (sum_of y) (act engine (noise c) (sum_of y)) e in
            let p = b (subst Packs (sym t.0) q) in
            let keys : list u' ≡ list w =
            p.1
            ∙ ap (with_key_words words phases) (ap list t.0 ∙ k)
            ∙ ap₂ (λ (a b : List ℕ). with_key_words a b (rebuilt_entries h.size.n (list w))) i j
            ∙ Restored.keys-restored h.size.n (list w) in
            ap (gave r) (same_store h.size h.count u' w p.0 g keys) ∙ t.1 ∙ from-rebuilt
