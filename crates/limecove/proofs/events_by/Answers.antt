use Rattle.std.proofs.Common.{◌≡◌, ◌∙◌, true, false, ap, arith, subst, sym}
use Rattle.std.proofs.lemmas.Bool.Decides.{nat_tests}
use Rattle.std.proofs.lemmas.Result.{IfOk-weaker}
use Rattle.std.specs.Prelude.{IfOk}
use Rattle.mdconstructs.specs.Documents.{AreEventsOf, options_with}
use Rattle.mdgfm_documents.specs.Documents.{gfm_events}
use Rattle.limecove.proofs.events_by.Goals as goal
use Rattle.limecove.specs.Choices.{constructs_of, counts_one_tilde, has_rewritten, parse_options_of}
use Rattle.limecove.specs.Records.{AreEventsBy}

pub returns-then-has_rewritten : goal.returns-then-has_rewritten
returns-then-has_rewritten c =
    let choice = c.args.choice.now in
    let bytes = c.args.bytes.now in
    let options = parse_options_of c.args.bits choice.tab in
    let are = IfOk-weaker c.read_gfm_document.result _ (λ list. AreEventsBy true choice options bytes list.items) (λ list e. e ∙ ap (λ o. gfm_events o bytes) c.parse_options_of.ensures) c.read_gfm_document.ensures.events in
    let is : has_rewritten c.args.bits ≡ true = sym c.has_rewritten.ensures ∙ c.if-has_rewritten.true in
    subst (λ b. IfOk c.read_gfm_document.result (λ list. AreEventsBy b choice options bytes list.items)) (sym is) are

pub returns-else-has_rewritten : goal.returns-else-has_rewritten
returns-else-has_rewritten c =
    let choice = c.args.choice.now in
    let bytes = c.args.bytes.now in
    let are = subst (λ k. IfOk c.events_of.result (λ list. AreEventsOf choice.deep choice.machine (options_with k choice.tab) bytes list.items)) c.constructs_of.ensures c.events_of.ensures.events in
    let is : has_rewritten c.args.bits ≡ false = sym c.has_rewritten.ensures ∙ c.if-has_rewritten.false in
    let one : counts_one_tilde c.args.bits ≡ true = grind (arith, nat_tests, is) in
    let whole = subst (λ t. IfOk c.events_of.result (λ list. AreEventsOf choice.deep choice.machine (record (options_with (constructs_of c.args.bits) choice.tab) { gfm_strikethrough_single_tilde = t }) bytes list.items)) (sym one) are in
    subst (λ b. IfOk c.events_of.result (λ list. AreEventsBy b choice (parse_options_of c.args.bits choice.tab) bytes list.items)) (sym is) whole
