use Rattle.std.proofs.Common.{◌∙◌, ap, sym, drop}
use Rattle.mdblock_lines.proofs.LineLemmas.{line_kind_rest}
use Rattle.mdblock_lines.proofs.kinds.line_kind.Goals as goal

pub returns-clause-value : goal.returns-clause-value
returns-clause-value g c =
    c.kind_of_rest.ensures.value
    ∙ line_kind_rest c.args.on.now c.args.t.now c.behind.result.now c.indent-columns.result (sym c.if-is_blank_line.ensures.value) (sym c.if-is_far.ensures.value) c.indent-columns.ensures.value
    (c.behind.ensures.value ∙ ap (λ k. drop k c.args.t.now) c.indent-columns.ensures.value)
