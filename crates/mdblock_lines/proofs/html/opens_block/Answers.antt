use Rattle.std.proofs.Common.{◌∙◌, ap, drop}
use Rattle.std.specs.Prelude.{◌&&◌}
use Rattle.mdblock_leaf_blocks.specs.HtmlLines.{is_block_name}
use Rattle.mdblock_lines.proofs.html.opens_block.Goals as goal

pub returns-then-starts_with-clause-value : goal.returns-then-starts_with-clause-value
returns-then-starts_with-clause-value g c =
    c.is_block_name.ensures.value
    ∙ ap is_block_name c.behind.ensures.value
    ∙ ap (λ s. s && is_block_name (drop 1 c.args.r.now)) c.if-starts_with.ensures.value
