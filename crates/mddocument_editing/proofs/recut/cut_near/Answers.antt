use Rattle.mddocument_editing.proofs.Prelude.{◌<◌, ◌++◌, ◌∙◌, ap, arith, subst, length, take, take-append_seam, IsSeam, items_of}
use Rattle.std.proofs.lemmas.Option.{IfSome_then}
use Rattle.mddocument_editing.proofs.NearCuts.{front-sections, front-seam, near-is, near-some, of-some}
use Rattle.mddocument_editing.proofs.recut.cut_near.Goals as goal

pub first_line_end-requires : goal.first_line_end-requires
first_line_end-requires c =
    let lt : c.args.behind < length c.args.kept.now.sections.items = omega arith in
    near-some c.args.kept.now lt c.one.ensures c.as_slice-section.ensures.value c.requires

pub returns-clause-text : goal.returns-clause-text
returns-clause-text c =
    let text = c.args.text.now.items in
    let line = take c.first_line_end.result c.as_slice-section.result.now in
    c.truncate.ensures.items ∙ ap (take c.len-size.result) c.in_ok-extend_from_slice.ensures.items ∙ ap (λ n. take n (text ++ line)) (c.len-size.ensures ∙ c.args.text.now.ok.0) ∙ take-append_seam text line

pub returns-clause-within : goal.returns-clause-within
returns-clause-within c =
    let lt : c.args.behind < length c.args.kept.now.sections.items = omega arith in
    of-some c.in_ok-found.found lt

pub returns-clause-parts : goal.returns-clause-parts
returns-clause-parts c =
    let line = c.first_line_end.ensures in
    IfSome_then c.in_ok-found.found c.in_ok-found.ensures
    (λ parts f.
    front-sections c.args.kept.now.options c.args.text.now.items c.as_slice-section.result.now c.first_line_end.result line.some line.within line.line (c.as_slice.ensures.value ∙ c.in_ok-extend_from_slice.ensures.items) (items_of parts.items)
    (f.0, (f.1.0, f.1.1 ∙ c.len-size.ensures ∙ c.args.text.now.ok.0)))

pub returns-clause-seam : goal.returns-clause-seam
returns-clause-seam c =
    let lt : c.args.behind < length c.args.kept.now.sections.items = omega arith in
    let line = c.first_line_end.ensures in
    IfSome_then c.in_ok-found.found c.in_ok-found.ensures
    (λ parts f.
    subst (IsSeam c.args.kept.now.options (items_of parts.items)) (near-is c.args.kept.now lt c.one.ensures c.as_slice-section.ensures.value)
    (front-seam c.args.kept.now.options c.args.text.now.items c.as_slice-section.result.now c.first_line_end.result line.some line.within line.line (c.as_slice.ensures.value ∙ c.in_ok-extend_from_slice.ensures.items) (items_of parts.items)
    (f.0, (f.1.0, f.1.1 ∙ c.len-size.ensures ∙ c.args.text.now.ok.0))))
