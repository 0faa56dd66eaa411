use Rattle.mddocument_editing.proofs.Prelude.{◌≡◌, ◌∙◌, List, ℕ, ap, arith, length, refl, subst, sym, or-false, err_from_is_err_and, AllByRecursion, ◌||◌, ParseOptions, IsWithinLimit, IsDocument, document, Divided, IsDivided, is_key_of, items_of, IsPackable, bytes_of_parts, bytes_of_sections, events_fit, IsRead, knows, gfm_events, Key, is_written}
use Rattle.mddocument_editing.proofs.FitSections.{sections-fit}
use Rattle.mddocument_editing.proofs.SectionBytes.{divided-cut, sections-within}
use Rattle.mddocument_editing.proofs.SectionLabels.{labels-divided}
use Rattle.mddocument_editing.proofs.kept.read.Goals as goal
use Rattle.mddocument_editing.proofs.kept.read.Goals.{In_ok-cut, In_ok-define_parts}

-- the document with these sections
abbrev cut_into : ParseOptions → List (List ℕ) → Divided
cut_into options sections = record { options = options; sections = sections }

-- the document, cut
abbrev d : In_ok-cut → Divided
d c = cut_into c.args.options.now (items_of c.in_ok-cut.field-0.items)

divided : (c : In_ok-cut) → IsDivided (d c)
divided c =
    divided-cut c.args.options.now c.args.bytes.now (items_of c.in_ok-cut.field-0.items) c.in_ok-cut.ensures ((c.limit_of.ensures (length c.args.bytes.now)).0 c.if-bytes-limit_of.false)

within : (c : In_ok-cut) → AllByRecursion (IsWithinLimit c.args.options.now.tab_size) (items_of c.in_ok-cut.field-0.items)
within c = sections-within c.args.options.now.tab_size (items_of c.in_ok-cut.field-0.items) (divided c).limit

pub parts_of-requires : goal.parts_of-requires
parts_of-requires c = within (goal.at.parts_of-requires c).In_ok-cut

pub sections_of-requires-clause-limit : goal.sections_of-requires-clause-limit
sections_of-requires-clause-limit c = subst (AllByRecursion (IsWithinLimit c.args.options.now.tab_size)) (sym c.in_ok-parts.ensures.bytes) (within (goal.at.sections_of-requires-clause-limit c).In_ok-cut)

-- the labels of its parts are its labels
they-are : (c : In_ok-define_parts) → let it = cut_into c.args.options.now (items_of c.in_ok-cut.field-0.items) in IsDivided it → (key : Key) → knows c.define_parts.new.labels key ≡ is_key_of it key
they-are c is key =
    let options = c.args.options.now in
    let in_parts = λ (sections : List (List ℕ)). is_written options sections key in
    c.in_ok-define_parts.ensures key
    ∙ ap (λ b. in_parts (bytes_of_parts c.as_slice.result.now) || b) (c.new-known.ensures key)
    ∙ or-false (in_parts (bytes_of_parts c.as_slice.result.now))
    ∙ ap (λ parts. in_parts (bytes_of_parts parts)) c.as_slice.ensures.value
    ∙ ap in_parts c.in_ok-parts.ensures.bytes
    ∙ labels-divided (cut_into options (items_of c.in_ok-cut.field-0.items)) (subst (λ bytes. IsDocument (document options bytes)) (sym c.in_ok-cut.ensures.document) c.is_document.ensures) is key

pub returns-in_err-sections-clause-fits : goal.returns-in_err-sections-clause-fits
returns-in_err-sections-clause-fits c limit fits long =
    let options = c.args.options.now in
    let steps = goal.at.returns-in_err-sections-clause-fits c in
    let it = d steps.In_ok-cut in
    let is : IsDivided it = divided steps.In_ok-cut in
    let same = c.in_ok-cut.ensures.document in
    let possible = subst (λ bytes. IsDocument (document options bytes)) (sym same) c.is_document.ensures in
    let all = ap (λ bytes. events_fit (gfm_events options bytes)) same ∙ fits in
    let each = sections-fit it (knows c.define_parts.new.labels) possible is (they-are steps.In_ok-define_parts is) all in
    let p = err_from_is_err_and c.from_residual-in_err-sections.result c.from_residual-in_err-sections.ensures.1 in
    c.in_err-sections.ensures.fits (subst (AllByRecursion (IsPackable options (knows c.define_parts.new.labels))) (sym c.in_ok-parts.ensures.bytes) each) (cc (p.1, p.2, long))

pub returns-then-bytes-limit_of-clause-exact : goal.returns-then-bytes-limit_of-clause-exact
returns-then-bytes-limit_of-clause-exact c can = absurd (omega (arith, (c.limit_of.ensures (length c.args.bytes.now)).1 can.limit, c.if-bytes-limit_of.true))

pub returns-in_err-sections-clause-exact : goal.returns-in_err-sections-clause-exact
returns-in_err-sections-clause-exact c can long =
    let options = c.args.options.now in
    let steps = goal.at.returns-in_err-sections-clause-exact c in
    let it = d steps.In_ok-cut in
    let is : IsDivided it = divided steps.In_ok-cut in
    let by : knows c.define_parts.new.labels ≡ is_key_of it = λ i key. they-are steps.In_ok-define_parts is key i in
    let each = subst (λ defined. AllByRecursion (IsPackable options defined) it.sections) (sym by) (can.fits it is refl c.in_ok-cut.ensures.document) in
    let p = err_from_is_err_and c.from_residual-in_err-sections.result c.from_residual-in_err-sections.ensures.1 in
    c.in_err-sections.ensures.fits (subst (AllByRecursion (IsPackable options (knows c.define_parts.new.labels))) (sym c.in_ok-parts.ensures.bytes) each) (cc (p.1, p.2, long))

pub returns-clause-kept : goal.returns-clause-kept
returns-clause-kept c =
    let options = c.args.options.now in
    let steps = goal.at.returns-clause-kept c in
    let is : IsDivided (d steps.In_ok-cut) = divided steps.In_ok-cut in
    let same : bytes_of_sections c.in_ok-list.list.items ≡ items_of c.in_ok-cut.field-0.items = ap bytes_of_sections c.in_ok-list.ensures ∙ c.in_ok-sections.ensures.bytes ∙ c.in_ok-parts.ensures.bytes in
    record {
      divided = subst (λ sections. IsDivided (cut_into options sections)) (sym same) is;
      labels = λ key. they-are steps.In_ok-define_parts is key ∙ ap (λ sections. is_key_of (cut_into options sections) key) (sym same);
      read = subst (AllByRecursion (IsRead options (knows c.define_parts.new.labels))) (sym c.in_ok-list.ensures) c.in_ok-sections.ensures.read;
    }
