use Rattle.std.proofs.Common.{ap, drop, length, sym, ◌∙◌}
use Rattle.std.specs.Option.{option_map_or}
use Rattle.std.specs.Prelude.{max}
use Rattle.mdhtml_document.specs.Frames.{size_by}
use Rattle.mdhtml_document.specs.Html.{extent}
use Rattle.mdhtml_document.specs.Walks.{references_from}
use Rattle.mdhtml_document.proofs.Undefined.{none-over, none-referred, undefined}
use Rattle.mdhtml_document.proofs.html.definitions_in.Goals as goal

pub returns-then-not-has_definition-clause-defined : goal.returns-then-not-has_definition-clause-defined
returns-then-not-has_definition-clause-defined c = λ label.
    c.in_ok-none.ensures label ∙ sym (undefined c.args.bytes.now label 0 c.args.events.now (sym c.has_definition.ensures ∙ c.if-not-has_definition.true))

pub returns-then-not-has_definition-clause-limit : goal.returns-then-not-has_definition-clause-limit
returns-then-not-has_definition-clause-limit c =
    let bytes = c.args.bytes.now in
    let events = c.args.events.now in
    let size = size_by events c.in_ok-none.none in
    sym
    (none-over (max 100000 (length bytes)) (references_from bytes size 0 events)
    (none-referred bytes size (λ label. ap (λ o. option_map_or (λ at. extent (drop at events)) o 0) (c.in_ok-none.ensures label)) 0 events))
