use Rattle.mddocument_editing.proofs.Prelude.{◌+◌, ap, ◌∙◌, arith, option_map}
use Rattle.mddocument_editing.proofs.SectionPositions.{kept-offset, offset-fits}
use Rattle.mddocument_editing.proofs.lookup.offset_of.Goals as goal

pub overflow_add-result : goal.overflow_add-result
overflow_add-result c =
    let found = c.line_in-found.result in
    let fits = offset-fits c.args.kept.now c.requires c.args.encoding found c.one.result.now c.as_slice-bytes.result.now c.one.ensures c.as_slice-bytes.ensures.value c.args.position.line c.line_in-found.ensures in
    omega (arith, fits, c.in_ok-offset.ensures.within)

pub returns : goal.returns
returns c =
    let found = c.line_in-found.result in
    let is = kept-offset c.args.kept.now c.requires c.args.encoding found c.one.result.now c.as_slice-bytes.result.now c.one.ensures c.as_slice-bytes.ensures.value c.args.position c.line_in-found.ensures in
    ap (option_map (λ offset. found.bytes + offset)) c.in_ok-offset.ensures.offset ∙ is

pub returns-in_err-offset : goal.returns-in_err-offset
returns-in_err-offset c =
    let found = c.line_in-found.result in
    let is = kept-offset c.args.kept.now c.requires c.args.encoding found c.one.result.now c.as_slice-bytes.result.now c.one.ensures c.as_slice-bytes.ensures.value c.args.position c.line_in-found.ensures in
    c.from_residual.ensures ∙ ap (option_map (λ offset. found.bytes + offset)) c.in_err-offset.ensures.offset ∙ is
