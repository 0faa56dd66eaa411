use Rattle.mddocument_editing.proofs.Prelude.{◌≡◌, ap, subst, sym, ◌∙◌, err_from_is_err_and, part_events, TooLong, IsPackable, has_end, endings, knows}
use Rattle.mddocument_editing.specs.Said.{linking}
use Rattle.mddocument_editing.proofs.section.section_of.Goals as goal

pub returns-clause-read : goal.returns-clause-read
returns-clause-read c =
    let same = c.as_slice-bytes.ensures.value in
    record {
      limit = c.requires.limit;
      labels = c.requires.labels;
      lines = c.line_endings-lines.ensures ∙ ap endings same;
      asks = c.has_end-asks.ensures ∙ ap has_end same;
      events = c.in_ok-read.ensures.events ∙ ap (part_events c.args.options.now (knows c.args.known.now)) same;
      linking = c.in_ok-read.ensures.linking ∙ ap (λ bytes. linking bytes c.in_ok-read.read.events) same;
    }

pub returns-in_err-read-clause-fits : goal.returns-in_err-read-clause-fits
returns-in_err-read-clause-fits c fits long =
    let p = err_from_is_err_and c.from_residual.result c.from_residual.ensures.1 in
    let is : c.in_err-read.field-0.0 ≡ TooLong = cc (p.1, p.2, long) in
    c.in_err-read.ensures.events is (subst (IsPackable c.args.options.now (knows c.args.known.now)) (sym c.as_slice-bytes.ensures.value) fits)
