-- What a gate makes of an entry's words: those of the turned entry, where none of its qubits is lost, and else those that were there. Assumes
-- nothing.
use mathlib.Core.Path.{◌≡◌, refl, sym, ap, ap₂, ◌∙◌}
use mathlib.Core.Bool.{Bool, true, false, cond}
use mathlib.Core.List.{List, [], ◌++◌, append_assoc, append-nil}
use Prim.Native.Nat.{ℕ, ◌+◌, ◌-◌, ◌≤◌}
use native.Mathlib.Omega.{arith}
use lib.ListN.{length, take, drop, get_or, length-drop, drop_of_length-le}
use lib.Seq.{take-add}
use borrow.Rule.Slice.PartMut.{put_mid}
use Rattle.model.specs.Entries.{Keyed, head_len, coefs_len, entry_len, words_of, entry_of, map_rows, body_in}
use Rattle.model.specs.Keys.{all_live}
use Rattle.model.specs.Changes.{with_rows, with_body}
use Rattle.model.specs.Store.{keyed_weighed}
use Rattle.model.specs.Gates.{turned_row, turned_body, turned, gate_qubits}
use Rattle.model.specs.declared.Gate.{Gate}
use Rattle.model.specs.declared.Size.{Size}
use Rattle.model.proofs.Entries.{part-tail}
use Rattle.model.proofs.Packed.{Fits, words-entry}
use Rattle.model.proofs.Packs.{entry-fits}
use Rattle.model.proofs.Rows.{map_rows-length}

module _ (s : Size) (g : Gate) (e : List ℕ) (l : length e ≡ entry_len s) where
  abbrev pub turned_entry : Keyed
  turned_entry = turned keyed_weighed s.n g (entry_of s e)

  -- by its loss word: with its rows turned, or as it is
  abbrev made : Bool → Keyed
  made live =
      let x = entry_of s e in
      let b = x.entry.body in
      keyed_weighed.with_entry (with_body x.entry (cond live (with_rows b (map_rows s.n (turned_row g) b.rows)) b)) x

  by-loss : {live : Bool} → all_live (get_or e 1 0) (gate_qubits g) ≡ live → turned_entry ≡ made live
  unfolding turned turned_body entry_of
  by-loss h = ap made h

  made-fits : (live : Bool) → Fits s (made live)
  made-fits true = record { coefs = (entry-fits s e l).coefs; rows = map_rows-length s.n (turned_row g) (body_in s e).rows }
  made-fits false = let f = entry-fits s e l in record { coefs = f.coefs; rows = f.rows }

  pub turned-fits : Fits s turned_entry
  turned-fits = rw (by-loss refl) (made-fits (all_live (get_or e 1 0) (gate_qubits g)))

  -- its rows are lent, and come back turned
  pub rows-turned : {new : List ℕ} → let at = head_len + coefs_len s in all_live (get_or e 1 0) (gate_qubits g) ≡ true
      → new ≡ map_rows s.n (turned_row g) (take (length e - at) (drop at e)) → put_mid at (length e - at) e new ≡ words_of turned_entry
  unfolding words_of entry_of
  rows-turned {new} live p =
      let at = head_len + coefs_len s in
      let coefs = take (coefs_len s) (drop head_len e) in
      let rows : new ≡ map_rows s.n (turned_row g) (drop at e) = p ∙ ap (map_rows s.n (turned_row g)) (part-tail at e) in
      let head : take head_len e ≡ take head_len (words_of (entry_of s e)) = ap (take head_len) (sym (words-entry s e l)) in
      let past : length (drop at e) ≤ length e - at = omega (arith, length-drop at e) in
      let end : drop (length e - at) (drop at e) ≡ [] = drop_of_length-le (drop at e) past in
      ap₂ (λ (a d : List ℕ). a ++ (new ++ d)) (take-add head_len (coefs_len s) e) end
      ∙ ap (λ (d : List ℕ). (take head_len e ++ coefs) ++ d) (append-nil new ∙ rows)
      ∙ append_assoc (take head_len e) coefs (map_rows s.n (turned_row g) (drop at e))
      ∙ ap (λ (h : List ℕ). h ++ (coefs ++ map_rows s.n (turned_row g) (drop at e))) head
      ∙ ap words_of (sym (by-loss live))

  -- it is passed over
  pub left_alone : all_live (get_or e 1 0) (gate_qubits g) ≡ false → e ≡ words_of turned_entry
  unfolding entry_of
  left_alone lost = sym (words-entry s e l) ∙ ap words_of (sym (by-loss lost))
