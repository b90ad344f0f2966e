-- The branches of a channel or a reset, made over keys that are worked out, are those made without keys, with their own keys. Assumes nothing.
use Prim.Native.Nat.{ℕ, ◌<◌}
use mathlib.Core.Path.{◌≡◌, refl, sym, ap, ap₂, ◌∙◌}
use mathlib.Core.Bool.{Bool, cond}
use mathlib.Core.List.{List, [], ◌∷◌, map}
use lib.Dec.{eqb}
use lib.Ieee.{Float}
use lib.ListN.{length, length-map}
use Rattle.model.specs.Lists.{joined}
use Rattle.model.specs.Floats.{float, bits, times}
use Rattle.model.specs.Entries.{Entry, Keyed}
use Rattle.model.specs.Keys.{lost_bit, keyed}
use Rattle.model.specs.Changes.{changed_entry, changed_keyed}
use Rattle.model.specs.Store.{keyed_weighed, with_keys, Tally, begun, Split, reweighed, merged_split, above_cutoff}
use Rattle.model.specs.Sum.{Result, done, refused, map_result, Cut, finished}
use Rattle.model.specs.Channels.{Noise, Arm, arms, live, scaled, branch_of, branches_of, noise_split, noise_tally, with_cut, channelled}
use Rattle.model.specs.Reset.{drained, reset_split, reset_tally}
use Rattle.model.specs.Keyless.{bare_weighed, keyless}
use Rattle.model.specs.declared.BranchMutation.{BranchMutation}
use Rattle.model.specs.declared.BranchMutation.TheVariants.{Loss as loss}
use Rattle.model.specs.declared.Salts.{Salts}
use Rattle.model.specs.declared.Size.{Size}
use Rattle.model.specs.Qubits.{LossBelow}
use Rattle.model.proofs.Changed.{changed-keys}
use Rattle.model.proofs.Demand3.Lists.{cond_map, map-ext, map-twice, joined-map, split_map, tally_map, cut_map, drained-map}
use Rattle.model.proofs.Qubits.{qubits-loss}
use Rattle.model.proofs.Arms.{ArmBelow}
use Rattle.model.proofs.Each.{Each, nil, cons}
use Rattle.model.proofs.Demand3.Weights.{finished-map}
use Rattle.model.proofs.Demand3.Merge.{own-keeps, merges-same}

module _ (salts : Salts) (s : Size) (threshold : Float) where
  abbrev own : Entry → Keyed
  own = keyed salts s.n

  -- ---- branches

  changed-same : (c : BranchMutation) → LossBelow s.n c → (x : Entry) → changed_keyed salts s.n c (own x) ≡ own (changed_entry s.n c x)
  changed-same c h x = sym (changed-keys salts s.n c x h)

  branch_same : (x : Entry) (a : Arm) → ArmBelow s.n a → branch_of (with_keys salts s threshold) (own x) a ≡ own (branch_of (keyless s threshold) x a)
  unfolding branch_of keyed
  branch_same x a h =
      let w = bits (times (float x.weight) a.rate) in
      ap (reweighed keyed_weighed w) (changed-same a.change (qubits-loss s.n a.change h) x) ∙ (own-keeps salts s.n).reweigh w (changed_entry s.n a.change x)

  arms_same : (x : Entry) {l : List Arm} → Each (ArmBelow s.n) l
      → map (branch_of (with_keys salts s threshold) (own x)) l ≡ map own (map (branch_of (keyless s threshold) x) l)
  arms_same x nil = refl
  arms_same x (cons {x = a} h r) = ap₂ (λ (y : Keyed) (t : List Keyed). y ∷ t) (branch_same x a h) (arms_same x r)

  module _ (c : Noise) where
    scaled-same : (x : Entry) → scaled keyed_weighed c (own x) ≡ own (scaled bare_weighed c x)
    unfolding scaled keyed reweighed
    scaled-same x = cond_map own (live c x.body) _ x

    module _ (h : Each (ArmBelow s.n) (arms c)) where
      branches-same : (x : Entry) → branches_of (with_keys salts s threshold) c (own x) ≡ map own (branches_of (keyless s threshold) c x)
      unfolding branches_of keyed
      branches-same x = ap (λ (l : List Keyed). cond (live c x.body) l []) (arms_same x h) ∙ cond_map (map own) (live c x.body) _ []

      pub noise-same : (l : List Entry) → noise_split (with_keys salts s threshold) c (map own l) ≡ split_map own (noise_split (keyless s threshold) c l)
      unfolding noise_split
      noise-same l =
          ap₂ (λ (a b : List Keyed). record { stay = a; branches = b })
          (map-twice own _ l ∙ map-ext _ _ scaled-same l ∙ sym (map-twice (scaled bare_weighed c) own l))
          (ap joined (map-twice own _ l ∙ map-ext _ _ branches-same l ∙ sym (map-twice (branches_of (keyless s threshold) c) (map own) l))
          ∙ joined-map own (map (branches_of (keyless s threshold) c) l))

  pub reset-same : (q : ℕ) → q < s.n → (l : List Entry) → reset_split (with_keys salts s threshold) q (map own l) ≡ split_map own (reset_split (keyless s threshold) q l)
  unfolding reset_split keyed
  reset-same q h l =
      let d = drained (λ x. eqb (lost_bit x.body q) 1) (length l) l in
      ap (λ (p : Split Keyed). record { stay = p.stay; branches = map (changed_keyed salts s.n (loss q)) p.branches })
      (ap (λ (n : ℕ). drained (λ (x : Keyed). eqb (lost_bit x.entry.body q) 1) n (map own l)) (length-map l own)
      ∙ drained-map own (λ x. eqb (lost_bit x.entry.body q) 1) (λ x. eqb (lost_bit x.body q) 1) (λ x. refl) (length l) l)
      ∙ ap (λ (b : List Keyed). record { stay = map own d.stay; branches = b })
      (map-twice own _ d.branches ∙ map-ext _ _ (changed-same (loss q) h) d.branches ∙ sym (map-twice (changed_entry s.n (loss q)) own d.branches))

  -- ---- merged

  pub merged-same : (admit : ℕ → Bool) (p : Split Entry) → merged_split (with_keys salts s threshold) admit (split_map own p) ≡ tally_map own (merged_split (keyless s threshold) admit p)
  unfolding merged_split
  merged-same admit p = merges-same salts s threshold admit p.branches (begun p.stay)

  ended_same : (t : Tally Entry) (r : Result (Cut Entry))
      → map_result (with_cut (with_keys salts s threshold) (tally_map own t)) (map_result (cut_map own) r) ≡ map_result (tally_map own) (map_result (with_cut (keyless s threshold) t) r)
  unfolding map_result
  ended_same t (done c) = refl
  ended_same t (refused n) = refl

  -- a channel
  pub channelled-same : (capacity : ℕ) (cutoff : Float) (c : Noise) → Each (ArmBelow s.n) (arms c) → (l : List Entry)
      → channelled (with_keys salts s threshold) capacity cutoff c (map own l) ≡ map_result (tally_map own) (channelled (keyless s threshold) capacity cutoff c l)
  unfolding channelled noise_tally
  channelled-same capacity cutoff c h l =
      let t = noise_tally (keyless s threshold) cutoff c l in
      let e : noise_tally (with_keys salts s threshold) cutoff c (map own l) ≡ tally_map own t =
      ap (merged_split (with_keys salts s threshold) (above_cutoff cutoff)) (noise-same c h l) ∙ merged-same (above_cutoff cutoff) (noise_split (keyless s threshold) c l) in
      ap (λ (u : Tally Keyed). map_result (with_cut (with_keys salts s threshold) u) (finished keyed_weighed capacity cutoff u.dropped u.entries)) e
      ∙ ap (map_result (with_cut (with_keys salts s threshold) (tally_map own t))) (finished-map (own-keeps salts s.n) capacity cutoff t.dropped t.entries)
      ∙ ended_same t (finished bare_weighed capacity cutoff t.dropped t.entries)

  -- a reset
  pub reset-tally-same : (cutoff : Float) (q : ℕ) → q < s.n → (l : List Entry)
      → reset_tally (with_keys salts s threshold) cutoff q (map own l) ≡ tally_map own (reset_tally (keyless s threshold) cutoff q l)
  unfolding reset_tally
  reset-tally-same cutoff q h l =
      ap (merged_split (with_keys salts s threshold) (above_cutoff cutoff)) (reset-same q h l) ∙ merged-same (above_cutoff cutoff) (reset_split (keyless s threshold) q l)
