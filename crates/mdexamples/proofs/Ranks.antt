-- The ranks of headings: those that the linter finds are those that the events of the document tell.
use Rattle.std.proofs.Common.{◌≡◌, ℕ, List, [], ◌∷◌, ◌++◌, Bool, true, false, cond, Option, Some, None, map, refl, ap, ◌∙◌}
use Rattle.std.proofs.lemmas.Bool.{or_parts}
use Rattle.std.proofs.lemmas.List.{map-append}
use Rattle.std.specs.List.{flat_map}
use Rattle.std.specs.Option.{option_to_list}
use Rattle.std.specs.Prelude.{◌==◌, option_map}
use Rattle.markdown.specs.declared.event.Event.{Event}
use Rattle.markdown.specs.declared.event.Name.TheVariants as name
use Rattle.mdconstructs.proofs.DocumentRanks.{headings-tell-their-ranks}
use Rattle.mdconstructs.specs.DocumentEvents.{document_events}
use Rattle.mdconstructs.specs.Ranks.{byte_of_first, enters, enters_heading, from_first, leaf_blocks_of, rank_at, rank_of, ranks_in, size_of_first}
use Rattle.mdexamples.specs.Linter.{heading_at, headings}
use Rattle.mdexamples.specs.Ranks.{HeadingsHaveTheirRanks}
use Rattle.mdexamples.specs.declared.linter.Heading.{Heading}

abbrev ranks_of : List Heading → List ℕ
ranks_of hs = map (λ (h : Heading). h.rank) hs

module _ (bytes : List ℕ) where
  -- what enters no heading tells no rank
  no-rank : (e : Event) (es : List Event) → enters_heading e ≡ false → rank_at bytes e es ≡ None
  no-rank e es h =
      let parts = or_parts (enters name.HeadingAtx e) (enters name.HeadingSetext e) h in
      let size = size_of_first (from_first (enters name.HeadingAtxSequence) es) in
      let byte = option_map (λ (b : ℕ). cond (b == 61) 1 2) (byte_of_first bytes (from_first (enters name.HeadingSetextUnderlineSequence) es)) in
      (λ i. cond (parts.0 i) size (cond (parts.1 i) byte None))

  rank-found : (line : ℕ) (o : Option ℕ) → ranks_of (option_to_list (option_map (λ (rank : ℕ). record { line = line; rank = rank }) o)) ≡ option_to_list o
  rank-found line None = refl
  rank-found line (Some rank) = refl

  -- the linter finds the ranks that are told
  found : (es : List Event) → ranks_of (headings bytes es) ≡ flat_map option_to_list (ranks_in bytes es)
  found [] = refl
  found (e ∷ es) =
      map-append (λ (h : Heading). h.rank) (option_to_list (heading_at bytes e es)) (headings bytes es)
      ∙ (λ i. rank-found e.point.line (rank_at bytes e es) i ++ found es i)
      ∙ by (enters_heading e) refl
    where
      by : (b : Bool) → enters_heading e ≡ b
          → option_to_list (rank_at bytes e es) ++ flat_map option_to_list (ranks_in bytes es) ≡ flat_map option_to_list (cond b (rank_at bytes e es ∷ ranks_in bytes es) (ranks_in bytes es))
      by true h = refl
      by false h = ap (λ o. option_to_list o ++ flat_map option_to_list (ranks_in bytes es)) (no-rank e es h)

all-there : (xs : List ℕ) → flat_map option_to_list (map Some xs) ≡ xs
all-there [] = refl
all-there (x ∷ xs) = ap (λ l. x ∷ l) (all-there xs)

pub ranks : HeadingsHaveTheirRanks
ranks g is = found g.bytes (document_events g) ∙ ap (flat_map option_to_list) (headings-tell-their-ranks g is) ∙ all-there (flat_map rank_of (leaf_blocks_of g))
