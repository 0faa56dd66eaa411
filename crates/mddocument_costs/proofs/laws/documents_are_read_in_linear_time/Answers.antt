use Rattle.mddocument_costs.proofs.DocumentCalls.{documents-linear}
use Rattle.mddocument_costs.proofs.laws.documents_are_read_in_linear_time.Goals as goal

pub returns : goal.returns
returns c =
    documents-linear c.innermost_spans_of_skeletons_account_for_documents.ensures c.innermost_spans_tile_documents_with_containers.ensures c.chains_of_leaf_blocks_are_linear.ensures
    c.chains_of_inline_text_are_linear.ensures.texts
