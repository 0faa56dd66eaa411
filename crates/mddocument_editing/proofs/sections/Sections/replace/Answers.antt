use Rattle.mddocument_editing.proofs.Prelude.{◌≡◌, true, refl, subst, sym, err_from_is_err_and, IsWithinLimit, IsDocument, document, Divided, bytes_of, is_key_of, edited, items_of, ArePackable, divided_of, recut_document, events_fit, gfm_events}
use Rattle.mddocument_editing.proofs.FitSections.{edited-document, sections-fit}
use Rattle.mddocument_editing.specs.Fits.{CanBeEdited}
use Rattle.mddocument_editing.proofs.sections.Sections.replace.Goals as goal

-- the edited document is a possible one
pub put-requires-clause-possible_now : goal.put-requires-clause-possible_now
put-requires-clause-possible_now c =
    let edit = c.args.edit.now in
    let kept = c.self.inside.kept in
    let options = kept.options in
    let same = c.in_ok-recut.ensures.bytes in
    let within = subst (IsWithinLimit options.tab_size) same c.in_ok-recut.ensures.recut.divided.limit in
    subst (λ bs. IsDocument (document options bs)) (sym same) (edited-document options edit (bytes_of (divided_of kept)) c.is_document.ensures c.is_bytes.ensures within)

pub returns-in_err-change-clause-fits : goal.returns-in_err-change-clause-fits
returns-in_err-change-clause-fits c inside limit fits long =
    let edit = c.args.edit.now in
    let kept = c.self.inside.kept in
    let options = kept.options in
    let recut = c.in_ok-recut.recut in
    let new = recut_document kept recut.from recut.end (items_of recut.parts.items) in
    let bytes = bytes_of (divided_of kept) in
    let same : bytes_of new ≡ edited edit bytes = c.in_ok-recut.ensures.bytes in
    -- the edit in terms of what is kept
    let within : IsWithinLimit options.tab_size (edited edit bytes) = subst (λ (d : Divided). IsWithinLimit d.options.tab_size (edited edit (bytes_of d))) (sym c.self.view_is) limit in
    let all : events_fit (gfm_events options (edited edit bytes)) ≡ true =
    subst (λ (d : Divided). events_fit (gfm_events d.options (edited edit (bytes_of d))) ≡ true) (sym c.self.view_is) fits in
    let possible = edited-document options edit bytes c.is_document.ensures c.is_bytes.ensures within in
    let each : ArePackable new =
    sections-fit new (is_key_of new) (subst (λ bs. IsDocument (document options bs)) (sym same) possible) c.in_ok-recut.ensures.recut.divided (λ label. refl)
    (subst (λ bs. events_fit (gfm_events options bs) ≡ true) (sym same) all) in
    let p = err_from_is_err_and c.from_residual-in_err-change.result c.from_residual-in_err-change.ensures.1 in
    c.in_err-change.ensures.fits each (cc (p.1, p.2, long))

pub returns-in_err-change-clause-exact : goal.returns-in_err-change-clause-exact
returns-in_err-change-clause-exact c can long =
    let edit = c.args.edit.now in
    let kept = c.self.inside.kept in
    let recut = c.in_ok-recut.recut in
    let new = recut_document kept recut.from recut.end (items_of recut.parts.items) in
    let its : CanBeEdited kept.options (edited edit (bytes_of (divided_of kept))) = subst (λ (d : Divided). CanBeEdited d.options (edited edit (bytes_of d))) (sym c.self.view_is) can in
    let each : ArePackable new = its.fits new c.in_ok-recut.ensures.recut.divided refl c.in_ok-recut.ensures.bytes in
    let p = err_from_is_err_and c.from_residual-in_err-change.result c.from_residual-in_err-change.ensures.1 in
    c.in_err-change.ensures.fits each (cc (p.1, p.2, long))
