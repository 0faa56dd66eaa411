-- That the innermost spans of skeletons account for documents.
use Rattle.markdown_base.specs.Virtual.{virtual}
use Rattle.markdown_tokenizer.specs.Text.{Given, IsDocument}
use Rattle.mdconstructs_machines.specs.Innermost.{AccountFor}
use Rattle.mdblock_containers.specs.Blocks.{document_skeleton}

-- Each virtual byte of a document is in exactly one innermost span of its skeleton: white space or a marker of a prefix, white space of a blank
-- line, a line ending, or a chunk
abbrev pub SkeletonsAccount : Type 0
SkeletonsAccount = (g : Given) → IsDocument g → AccountFor (document_skeleton g) g.bytes (virtual g.tab g.bytes)
