use Rattle.mddocument_editing.proofs.Prelude.{ap, ◌∙◌, option_map, down}
use Rattle.mddocument_editing.proofs.SectionPositions.{kept-position}
use Rattle.mddocument_editing.proofs.lookup.position_of.Goals as goal

pub returns : goal.returns
returns c =
    let found = c.byte_in-found.result in
    let is = kept-position c.args.kept.now c.requires c.args.encoding found c.one.result.now c.as_slice-bytes.result.now c.one.ensures c.as_slice-bytes.ensures.value c.args.byte c.byte_in-found.ensures in
    ap (option_map (down found.lines)) c.in_ok-position.ensures.position ∙ is

pub returns-in_err-position : goal.returns-in_err-position
returns-in_err-position c =
    let found = c.byte_in-found.result in
    let is = kept-position c.args.kept.now c.requires c.args.encoding found c.one.result.now c.as_slice-bytes.result.now c.one.ensures c.as_slice-bytes.ensures.value c.args.byte c.byte_in-found.ensures in
    c.from_residual.ensures ∙ ap (option_map (down found.lines)) c.in_err-position.ensures.position ∙ is
