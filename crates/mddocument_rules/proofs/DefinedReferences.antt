-- Each reference among the events of a document has a definition among them.
use Rattle.mddocument_rules.proofs.Prelude.{◌∙◌, ap, is_some, sym}
use Rattle.mddocument.proofs.InContainers.Skeletons.{skeleton-laws}
use Rattle.mddocument.proofs.Innermost.Texts.{texts-account}
use Rattle.mddocument.specs.DocumentEvents.{document_events, document_texts, is_defined_in}
use Rattle.mddocument_link_targets.specs.Targets.{definition_of}
use Rattle.mddocument_rules.proofs.ApartLinks.{apart-lead}
use Rattle.mddocument_rules.proofs.LabelTexts.{defined-is-defined}
use Rattle.mddocument_rules.proofs.Leading.{lead-target}
use Rattle.mddocument_rules.proofs.StringsLead.{strings-lead}
use Rattle.mddocument_rules.proofs.TextGaps.{text-gaps}
use Rattle.mddocument_rules.proofs.TextsLead.{texts-apart}
use Rattle.mddocument_rules.specs.ReferenceLaws.{ReferencesAreDefined}

pub references-are-defined : ReferencesAreDefined
references-are-defined g at label is h =
    let defined = is_defined_in g in
    let texts = apart-lead g.bytes defined (document_texts g) (texts-apart g is (text-gaps g is)) in
    let leads = strings-lead g.options.constructs g.tab g.bytes is.tab.0 defined (document_texts g) (texts-account skeleton-laws g is defined) texts in
    let (own, same, found) = lead-target g.bytes defined (document_events g) at label leads h in
    ap (λ l. is_some (definition_of g.bytes (document_events g) l)) same ∙ sym (defined-is-defined g own is) ∙ found
