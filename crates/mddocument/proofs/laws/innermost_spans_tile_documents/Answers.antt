use Rattle.mddocument.proofs.Prelude.{◌∙◌, true, false, sym, subst, virtual_bytes, document, Tile, lines-account-for, paragraphs-account, AreEventsOf, Paragraphs, read-as-data, read-as-texts}
use Rattle.mddocument.specs.declared.choice.Which.TheVariants.{Text}
use Rattle.mddocument.proofs.FlowTiles.{flow-tiles}
use Rattle.mddocument.proofs.Tiled.{tiled}
use Rattle.mddocument.proofs.laws.innermost_spans_tile_documents.Goals as goal

pub returns-clause-lines : goal.returns-clause-lines
returns-clause-lines c = λ options bytes deep events d are.
    subst (Tile options.tab_size bytes) (sym are) (tiled options.tab_size bytes d.tab.0 _ (lines-account-for bytes (virtual_bytes options bytes)))

pub returns-clause-paragraphs : goal.returns-clause-paragraphs
returns-clause-paragraphs c = λ options bytes deep events d. elim deep as (λ is_deep. AreEventsOf is_deep Paragraphs options bytes events → Tile options.tab_size bytes events) [
  | false ↦ λ are. subst (Tile options.tab_size bytes) (sym are) (tiled options.tab_size bytes d.tab.0 _ (paragraphs-account bytes (virtual_bytes options bytes)))
  | true ↦ λ are. subst (Tile options.tab_size bytes) (read-as-data (document options bytes) d ∙ sym are) (tiled options.tab_size bytes d.tab.0 _ (c.innermost_spans_account_for_children.ensures.data (document options bytes) d))
]

pub returns-clause-text : goal.returns-clause-text
returns-clause-text c = λ options bytes deep events d. elim deep as (λ is_deep. AreEventsOf is_deep Text options bytes events → Tile options.tab_size bytes events) [
  | false ↦ λ are. subst (Tile options.tab_size bytes) (sym are) (tiled options.tab_size bytes d.tab.0 _ (paragraphs-account bytes (virtual_bytes options bytes)))
  | true ↦ λ are. subst (Tile options.tab_size bytes) (read-as-texts (document options bytes) d ∙ sym are) (tiled options.tab_size bytes d.tab.0 _ (c.innermost_spans_account_for_children.ensures.texts (document options bytes) d))
]

pub returns-clause-flow : goal.returns-clause-flow
returns-clause-flow c = flow-tiles
