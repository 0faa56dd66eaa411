-- The events of a full reference can be cut into innermost spans, none over a line ending but at its end: its parts stand end to end.
use Rattle.std.proofs.Common.{◌≡◌, ◌+◌, ◌-◌, ◌≤◌, ℕ, List, ◌++◌, Bool, true, false, cond, Some, None, arith, drop, length, subst, sym, take}
use Rattle.std.proofs.lemmas.List.{length-drop, length-map, length-take-le}
use Rattle.std.specs.List.{between}
use Rattle.std.specs.Option.{option_and_then}
use Rattle.markdown_base.specs.declared.event.Name.TheVariants.{Reference, ReferenceMarker, ReferenceString}
use Rattle.markdown_base.specs.Virtual.{Seat}
use Rattle.mdinline_text_machine.proofs.DeepSpans.Atoms.{IsCut, cut-leaf, cut-span}
use Rattle.mdinline_text_machine.proofs.DeepSpans.Stretches.{one-taken, three-cut}
use Rattle.mdinline_text_machine.specs.Construct.{Found}
use Rattle.mdinline_text_machine.specs.Parts.{bytes_of, leaf, span}
use Rattle.mdinline_link_tails.specs.Resource.{string_events}
use Rattle.mdinline_link_tails.proofs.Resources.Cuts.{short-line, string-cut}
use Rattle.mdinline_full_references.specs.FullReference.{full_reference, full_reference_grammar, label_length, label_string, label_text}
use Rattle.mdinline_full_references.proofs.FullReferences.Sizes.{full-reference-sizes}

module _ (bytes : List ℕ) where
  -- a reference whose label has so many bytes
  pub reference-cut : (n : ℕ) (l : List Seat) → length l ≡ n + 2 → IsCut bytes ((full_reference n).events bytes l) l
  reference-cut n l long =
      let inside = between 1 (1 + n) l in
      let last : 1 + n ≡ length l - 1 = omega (arith, long) in
      let left = length-drop (1 + n) l in
      subst (λ k. IsCut bytes (span bytes Reference l (leaf bytes ReferenceMarker (take 1 l) ++ (label_string bytes (between 1 k l) ++ leaf bytes ReferenceMarker (drop k l)))) l) last
      (three-cut bytes Reference 1 n l (cut-leaf bytes ReferenceMarker (take 1 l) (one-taken l)) (cut-span bytes ReferenceString inside (string_events bytes inside) (string-cut bytes inside))
      (cut-leaf bytes ReferenceMarker (drop (1 + n) l) (short-line (drop (1 + n) l) (omega (arith, left, long)))))

  -- one is at the front of virtual bytes: its events can be cut
  pub full-reference-cut : (wanted : List ℕ → Bool) (l : List Seat) (tail : Found) → (full_reference_grammar wanted).front (bytes_of l) ≡ Some tail
      → IsCut bytes (tail.events bytes (take tail.size l)) (take tail.size l)
  full-reference-cut wanted l tail is =
      let sizes = full-reference-sizes wanted (bytes_of l) tail is in
      let fits : tail.size ≤ length l = omega (arith, sizes.fits, length-map l (λ (y : Seat). y.byte)) in
      elim (label_length (bytes_of l)) as (λ o. option_and_then (λ n. cond (wanted (label_text n (bytes_of l))) (Some (full_reference n)) None) o ≡ Some tail → IsCut bytes (tail.events bytes (take tail.size l)) (take tail.size l)) [
        | None ↦ λ e. absurd (cc)
        | Some n ↦ elim (wanted (label_text n (bytes_of l))) as (λ t. cond t (Some (full_reference n)) None ≡ Some tail → IsCut bytes (tail.events bytes (take tail.size l)) (take tail.size l)) [
          | true ↦ λ e.
              let same : full_reference n ≡ tail = cc in
              let fits' : n + 2 ≤ length l = subst (λ (t : Found). t.size ≤ length l) (sym same) fits in
              subst (λ (t : Found). IsCut bytes (t.events bytes (take t.size l)) (take t.size l)) same (reference-cut n (take (n + 2) l) (length-take-le (n + 2) l fits'))
          | false ↦ λ e. absurd (cc)
        ]
      ] is
