use Rattle.std.proofs.Common.{[], ap, sym, ◌∙◌}
use Rattle.std.specs.Option.{option_copied, unwrap_or}
use Rattle.std.specs.Prelude.{option_map}
use Rattle.mddocument_link_targets.proofs.Lookups.{found}
use Rattle.mdhtml_document.proofs.note_section.Notes.get.Goals as goal

pub returns-in-None : goal.returns-in-None
returns-in-None c =
    ap (λ o. unwrap_or (option_map (λ events. events.items) o) [])
    (ap option_copied (sym c.in-None.is) ∙ c.get.ensures.value ∙ found (λ k. k.items) c.args.label.now c.args.self.now.found.entries)

pub returns-in-Some : goal.returns-in-Some
returns-in-Some c =
    c.as_slice.ensures.value
    ∙ ap (λ o. unwrap_or (option_map (λ events. events.items) o) [])
    (ap option_copied (sym c.in-Some.is) ∙ c.get.ensures.value ∙ found (λ k. k.items) c.args.label.now c.args.self.now.found.entries)
