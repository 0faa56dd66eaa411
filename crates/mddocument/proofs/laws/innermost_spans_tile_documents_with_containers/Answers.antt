use Rattle.mddocument.proofs.Innermost.Texts.{document-tiles}
use Rattle.mddocument.proofs.laws.innermost_spans_tile_documents_with_containers.Goals as goal

pub returns : goal.returns
returns c = document-tiles
