-- Chains of a document: a block quote of two lines, and a list item.
use Rattle.std.specs.Prelude.{ℕ, List, [], ◌∷◌, None}
use Rattle.markdown_base.specs.Presets.{default_parse_options}
use Rattle.markdown_tokenizer.specs.Engine.{given_by}
use Rattle.markdown_tokenizer.specs.Text.{Given}
use Rattle.mdblock_definitions.specs.Blocks.{document_skeleton, shown_as_text}
use Rattle.mdblock_text_lines.specs.DocumentBlocks.{document_blocks}
use Rattle.mddocument_costs.specs.Chains.{chain_bytes, chain_count}

-- `> a`, LF, `> b`, LF, `- c`
abbrev pub quoted : Given
quoted = given_by (62 ∷ 32 ∷ 97 ∷ 10 ∷ 62 ∷ 32 ∷ 98 ∷ 10 ∷ 45 ∷ 32 ∷ 99 ∷ []) default_parse_options

-- how many chains its skeleton has, with how many virtual bytes, and then those of its blocks
abbrev pub measured : List ℕ
measured =
    chain_count None (document_skeleton quoted) ∷ chain_bytes (shown_as_text quoted) None (document_skeleton quoted) ∷ chain_count None (document_blocks quoted) ∷ chain_bytes quoted None (document_blocks quoted) ∷ []
