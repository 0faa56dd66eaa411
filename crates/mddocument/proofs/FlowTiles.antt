-- The innermost spans of the events of leaf blocks account for each virtual byte, also with the texts of their chains.
use Rattle.mddocument.proofs.Prelude.{false, true, subst, sym, whole_text, whole-is-text, virtual_bytes, Tile, flow-accounts, document, AreEventsOf, TilesDocuments, Flow}
use Rattle.mddocument.proofs.Emphasis.InlineAccounts.{inlines-account}
use Rattle.mddocument.proofs.Tiled.{tiled}

pub flow-tiles : TilesDocuments Flow
flow-tiles options bytes deep events d = elim deep as (λ is_deep. AreEventsOf is_deep Flow options bytes events → Tile options.tab_size bytes events) [
  | false ↦ λ are. subst (Tile options.tab_size bytes) (sym are) (tiled options.tab_size bytes d.tab.0 _ (flow-accounts options.constructs bytes (virtual_bytes options bytes)))
  | true ↦ λ are. subst (Tile options.tab_size bytes) (sym are) (tiled options.tab_size bytes d.tab.0 _ (inlines-account (document options bytes) (whole_text (document options bytes)) (whole-is-text (document options bytes) d)))
]
