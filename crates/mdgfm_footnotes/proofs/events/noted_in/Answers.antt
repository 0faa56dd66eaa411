use Rattle.std.proofs.Common.{◌∙◌, sym, ap}
use Rattle.std.proofs.lemmas.Bool.{false≢true}
use Rattle.mdgfm_footnotes.specs.CallEvents.{is_one_of}
use Rattle.mdgfm_footnotes.proofs.Unchanged.{defined-none, none-defined}
use Rattle.mdgfm_footnotes.proofs.events.noted_in.Goals as goal

pub returns-then-not-has_definition-clause-labels : goal.returns-then-not-has_definition-clause-labels
returns-then-not-has_definition-clause-labels c on label =
    let none = none-defined c.args.bytes.now c.args.events.now (sym c.has_definition.ensures ∙ c.if-not-has_definition.true) in
    c.new-then-not-has_definition.ensures label ∙ sym (ap (λ ls. is_one_of ls label) none)

pub returns-clause-none : goal.returns-clause-none
returns-clause-none c none =
    let is = sym c.has_definition.ensures ∙ c.if-not-has_definition.false in
    absurd (false≢true (sym (defined-none c.args.bytes.now c.args.events.now none) ∙ is))
