use Rattle.mddocument_editing.proofs.Prelude.{◌+◌, ap, ◌∙◌, sym, subst, IsWithinLimit, document_of, bytes_of_sections, IsSectionAt, start_of}
use Rattle.mddocument_editing.proofs.PutKept.{short-kept, touched-bytes, touched-seam, touched-within}
use Rattle.mddocument_editing.proofs.recut.cut_again.Goals as goal

pub first_touched-from-requires-clause-section : goal.first_touched-from-requires-clause-section
first_touched-from-requires-clause-section c =
    subst (λ ss. IsSectionAt (bytes_of_sections ss) c.args.edit.now.from c.section_and_left-found.result.0) (sym c.as_slice-sections.ensures.value) c.section_and_left-found.ensures.section

pub first_touched-from-requires-clause-left : goal.first_touched-from-requires-clause-left
first_touched-from-requires-clause-left c =
    ap (λ ss. start_of (bytes_of_sections ss) c.section_and_left-found.result.0 + c.section_and_left-found.result.1) c.as_slice-sections.ensures.value ∙ c.section_and_left-found.ensures.left

pub first_touched-from-requires-clause-short : goal.first_touched-from-requires-clause-short
first_touched-from-requires-clause-short c = short-kept c.args.kept.now c.as_slice-sections.ensures.value c.get-columns.ensures.columns c.get-columns.ensures.least c.requires.kept

pub behind-behind-requires-clause-short : goal.behind-behind-requires-clause-short
behind-behind-requires-clause-short c = short-kept c.args.kept.now c.as_slice-sections.ensures.value c.get-columns.ensures.columns c.get-columns.ensures.least c.requires.kept

pub edited_bytes-requires-clause-within : goal.edited_bytes-requires-clause-within
edited_bytes-requires-clause-within c =
    touched-within c.args.kept.now c.args.edit.now c.as_slice-sections.ensures.value c.behind-behind.ensures.order c.first_touched-from.ensures.start c.behind-behind.ensures.start c.first_touched-from.ensures.before c.requires.inside.0
    c.behind-behind.ensures.behind

pub cut_from-requires-clause-limit : goal.cut_from-requires-clause-limit
cut_from-requires-clause-limit c =
    let told = touched-bytes c.args.kept.now c.args.edit.now c.as_slice-sections.ensures.value c.behind-behind.ensures.order c.first_touched-from.ensures.start c.behind-behind.ensures.start c.first_touched-from.ensures.before c.requires.inside.0
    c.behind-behind.ensures.behind c.in_ok-text.ensures in
    subst (λ bs. IsWithinLimit c.args.kept.now.options.tab_size bs) (sym told) c.requires.limit

pub cut_from-requires-clause-seam : goal.cut_from-requires-clause-seam
cut_from-requires-clause-seam c =
    touched-seam c.args.kept.now c.args.edit.now c.as_slice-sections.ensures.value c.behind-behind.ensures.order c.first_touched-from.ensures.start c.behind-behind.ensures.start c.first_touched-from.ensures.before c.requires.inside.0
    c.behind-behind.ensures.behind c.in_ok-text.ensures c.requires.kept c.first_touched-from.ensures.settled

pub returns-clause-bytes : goal.returns-clause-bytes
returns-clause-bytes c =
    let told = touched-bytes c.args.kept.now c.args.edit.now c.as_slice-sections.ensures.value c.behind-behind.ensures.order c.first_touched-from.ensures.start c.behind-behind.ensures.start c.first_touched-from.ensures.before c.requires.inside.0
    c.behind-behind.ensures.behind c.in_ok-text.ensures in
    ap document_of c.trim.ensures.same ∙ c.in_ok-recut.ensures.bytes ∙ told
