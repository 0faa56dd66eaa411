use Rattle.std.proofs.Common.{◌≡◌, ◌∷◌, [], ◌∙◌, false, ap, arith, cond, length, length-drop, sym}
use Rattle.markdown_edits.specs.Edited.{edited}
use Rattle.markdown_edits.specs.Edits.{edit_at}
use Rattle.markdown_tokenizer.proofs.Readings.Plain.{edited-same}
use Rattle.mdinline_emphasis.specs.Emphasis.{paired}
use Rattle.mdinline_emphasis.specs.RunEdits.{edits_of}
use Rattle.mdinline_emphasis.specs.Runs.{runs_in}
use Rattle.mdinline_links.proofs.Costs.{runs-pay}
use Rattle.mdinline_links.proofs.LinkEdits.{links-can-be-made}
use Rattle.mdinline_links.proofs.Marks.{from-first, no-edits}
use Rattle.mdinline_links.specs.LinkEdits.{has_brackets}
use Rattle.mdinline_links.specs.Linked.{with_links}
use Rattle.mdinline_links.proofs.link_edits.linked_counted.Goals as goal

pub returns-then-first-events-clause-edits : goal.returns-then-first-events-clause-edits
returns-then-first-events-clause-edits g c =
    let es = c.args.events.now in
    let none = no-edits c.args.one_tilde c.args.bytes.now es c.first_mark-first.result c.first_mark-first.ensures.mark c.if-first-events.true in
    sym (ap (λ ds. edited ds es) none ∙ edited-same es c.requires.unlinked)

pub returns-then-not-has_brackets-clause-edits : goal.returns-then-not-has_brackets-clause-edits
returns-then-not-has_brackets-clause-edits g c =
    let es = c.args.events.now in
    let one = c.args.one_tilde in
    let bytes = c.args.bytes.now in
    let none : has_brackets es ≡ false = sym (from-first es c.first_mark-first.result c.first_mark-first.ensures.mark) ∙ sym c.has_brackets.ensures.brackets ∙ c.if-not-has_brackets.true in
    c.in_ok-new.ensures.emphasis ∙ sym (ap (λ t. edited (cond t (edit_at 0 (length es) (with_links one bytes es) ∷ []) (edits_of (paired (runs_in one bytes es)))) es) none)

pub returns-clause-edits : goal.returns-clause-edits
returns-clause-edits g c = c.in_ok-all.ensures.links ∙ sym (links-can-be-made c.args.one_tilde c.args.bytes.now c.args.events.now c.requires.balanced c.requires.unlinked).1

pub returns-then-not-has_brackets-clause-linear : goal.returns-then-not-has_brackets-clause-linear
returns-then-not-has_brackets-clause-linear g c =
    let first = c.first_mark-first.ensures.turns in
    let few = length-drop c.first_mark-first.result c.args.events.now in
    let turns = c.has_brackets.ensures.turns in
    let linear = c.emphasized_counted.ensures.linear in
    omega (arith, first, few, turns, linear)

pub returns-clause-linear : goal.returns-clause-linear
returns-clause-linear g c =
    let first = c.first_mark-first.ensures.turns in
    let few = length-drop c.first_mark-first.result c.args.events.now in
    let turns = c.has_brackets.ensures.turns in
    let linear = c.in_ok-all.ensures.linear in
    let pay = runs-pay c.args.one_tilde c.args.bytes.now c.args.events.now in
    omega (arith, first, few, turns, linear, pay)
