-- Tails of links and images: a resource; a full reference; `[]` of a collapsed reference; or nothing. Their events can be cut into innermost spans, and
-- are of neither runs nor brackets.
use Rattle.markdown_base.specs.declared.event.Name.TheVariants.{Reference, ReferenceMarker, ReferenceString}
use Rattle.mddocument.proofs.Prelude.{◌≡◌, ◌≤◌, ℕ, Bool, true, false, cond, List, [], ◌∷◌, ◌++◌, Some, None, arith, length, refl, subst, and-right, option_and_then, Seat, leaf, cut, has_byte_at, bytes_of, Found, ItemCut, cut-append, cut-leaf, piece_at, piece_length}
use Rattle.std.proofs.lemmas.List.{length-map}
use Rattle.mdinline_text_machine.proofs.DeepSpans.Atoms.{cut-none, cut-span}
use Rattle.mdinline_link_tails.proofs.Resources.Cuts.{resource-cut}
use Rattle.mdinline_link_tails.specs.Resource.{resource_grammar, string_events, unmarked}
use Rattle.mdinline_full_references.proofs.FullReferences.Cuts.{full-reference-cut}
use Rattle.mdinline_full_references.specs.FullReference.{full_reference, full_reference_grammar, label_length, label_string, label_text}
use Rattle.mdinline_machine.proofs.BracketBytes.{resource-fits, tail-holds}
use Rattle.mdinline_machine.specs.Brackets.{Bracket, Memory, are_brackets, collapsed_reference, is_close_bracket, is_open_bracket, is_wanted_at, tail_of}
use Rattle.mddocument.proofs.FlowTexts.InlineSteps.{free-span}
use Rattle.mddocument.proofs.FlowTexts.ResourceSteps.{Others, free-lines, free-marked, free-resource}

module _ (bytes : List ℕ) where
  -- ---- they can be cut
  resource-tail : (l : List Seat) (tail : Found) → resource_grammar.front (bytes_of l) ≡ Some tail → ItemCut bytes l tail
  resource-tail l tail is =
      let many = length-map l (λ (x : Seat). x.byte) in
      let within = resource-fits (bytes_of l) tail is in
      let fits : tail.size ≤ length l = omega (arith, many, within) in
      resource-cut bytes l tail fits is

  collapsed-cut : (l : List Seat) → are_brackets (bytes_of l) ≡ true → ItemCut bytes l collapsed_reference
  collapsed-cut [] e = absurd (cc)
  collapsed-cut (s ∷ []) e = absurd (let no : has_byte_at (bytes_of (s ∷ [])) 1 is_close_bracket ≡ true = and-right (is_open_bracket s.byte) false e in cc)
  collapsed-cut (s ∷ r ∷ rest) e =
      cut-span bytes Reference (s ∷ r ∷ []) (leaf bytes ReferenceMarker (s ∷ []) ++ leaf bytes ReferenceMarker (r ∷ [])) (cut-append bytes (cut-leaf bytes ReferenceMarker (s ∷ []) tt) (cut-leaf bytes ReferenceMarker (r ∷ []) tt))

  pub tail-cut : (defined : List ℕ → Bool) (b : Bracket) (m : Memory) (l : List Seat) (tail : Found) → tail_of defined bytes b m (bytes_of l) ≡ Some tail → ItemCut bytes l tail
  tail-cut defined b m l = tail-holds defined bytes (ItemCut bytes l) b m (bytes_of l) (resource-tail l) (full-reference-cut bytes (is_wanted_at defined bytes m.ahead) l) (collapsed-cut l) (cut-none bytes)

  -- ---- and are of neither runs nor brackets
  abbrev IsFreeTail : Found → Type 0
  IsFreeTail tail = (seats : List Seat) → Others bytes (tail.events bytes seats)

  free-reference : (n : ℕ) → IsFreeTail (full_reference n)
  free-reference n seats =
      let inside = unmarked bytes seats in
      free-marked bytes Reference ReferenceMarker (label_string bytes inside) seats refl refl
      (free-span 4 bytes ReferenceString inside (string_events bytes inside) refl (free-lines bytes (cut piece_at piece_length (length inside) inside)))

  free-full : (text : List ℕ) (wanted : List ℕ → Bool) (tail : Found) → (full_reference_grammar wanted).front text ≡ Some tail → IsFreeTail tail
  free-full text wanted tail is =
      elim (label_length text) as (λ o. option_and_then (λ n. cond (wanted (label_text n text)) (Some (full_reference n)) None) o ≡ Some tail → IsFreeTail tail) [
        | None ↦ λ e. absurd (cc)
        | Some n ↦ elim (wanted (label_text n text)) as (λ t. cond t (Some (full_reference n)) None ≡ Some tail → IsFreeTail tail) [
          | true ↦ λ e. (let same : full_reference n ≡ tail = cc in subst IsFreeTail same (free-reference n))
          | false ↦ λ e. absurd (cc)
        ]
      ] is

  pub free-tail : (defined : List ℕ → Bool) (b : Bracket) (m : Memory) (text : List ℕ) (tail : Found) → tail_of defined bytes b m text ≡ Some tail → IsFreeTail tail
  free-tail defined b m text =
      tail-holds defined bytes IsFreeTail b m text (free-resource bytes text) (free-full text (is_wanted_at defined bytes m.ahead)) (λ e seats. free-marked bytes Reference ReferenceMarker [] seats refl refl tt) (λ seats. tt)
