use Rattle.std.proofs.Common.{◌≡◌, ◌∙◌, ℕ, List, ◌∷◌, [], Some, true, refl, sym, ap, arith}
use Rattle.std.specs.Prelude.{option_and_then, Contains}
use Rattle.markdown_base.specs.declared.event.Content.TheVariants.{Text as TextContent}
use Rattle.markdown_base.specs.declared.event.Event.{Event}
use Rattle.markdown_base.specs.declared.state.Name.{Name}
use Rattle.markdown_base.specs.declared.state.TheConstants.Name.{FlowStart, TextStart}
use Rattle.markdown_tokenizer.specs.declared.tokenizer.fault.Fault.{Fault}
use Rattle.markdown_tokenizer.specs.declared.tokenizer.fault.Fault.TheVariants.{Memory, Failed, Message as OfMessage}
use Rattle.markdown_tokenizer.specs.Configuration.{start_configuration}
use Rattle.markdown_tokenizer.specs.Engine.{given_by}
use Rattle.markdown_tokenizer.specs.Text.{Given}
use Rattle.markdown_tokenizer.proofs.Runs.Whole.{err-if}
use Rattle.markdown_children.specs.Chains.{begins, chain_of, content_at}
use Rattle.markdown_children.specs.Ready.{IsReady}
use Rattle.markdown_children.specs.Reads.{start_at, start_name, text_of_chain, IsSubtokenizeFault}
use Rattle.markdown_children.proofs.ChainOrder.Forward.{begins-fits}
use Rattle.mdconstructs_tables.proofs.Tables.Refusals.{none-refused}
use Rattle.mdinline_text_machine.specs.TextEvents.{text_events}
use Rattle.mdinline_text_machine.specs.TextRules.{text_rules}
use Rattle.mdinline_text_machine.proofs.NoRefusals.{text-refuses-nothing}
use Rattle.mdinline_text_machine.proofs.Paragraphs.ChainEvents.{chains-read, is-text-content}
use Rattle.mdinline_text_machine.proofs.Texts.Ends.{reads-items}
use Rattle.mdexamples.proofs.text_lines.read_chunks.Goals as goal

-- the machine of texts may start with the state of each of these chains
may-start : (tab : ℕ) (bytes : List ℕ) (events : List Event) → IsReady tab bytes (Some TextContent) events → (c : ℕ) (name : Name) → begins (Some TextContent) events c ≡ true → start_at events c ≡ Some name
    → Contains (FlowStart ∷ TextStart ∷ []) name
may-start tab bytes events ready c name begin is =
    let at = is-text-content (content_at events c) (begins-fits tab bytes (Some TextContent) events ready c begin) in
    let same : Some TextStart ≡ Some name = sym (ap (option_and_then start_name) at) ∙ is in
    let there : TextStart ≡ name = cc in
    (1, omega arith, there)

pub subtokenize-requires-clause-starts : goal.subtokenize-requires-clause-starts
subtokenize-requires-clause-starts c =
    may-start c.args.options.now.tab_size c.args.bytes.now c.args.events.now.items c.requires.ready

-- it refuses no chain
only-memory : (g : Given) (events : List Event) (fault : Fault) → IsSubtokenizeFault g text_rules (Some TextContent) events fault → fault ≡ Memory
only-memory g events Memory h = refl
only-memory g events Failed h = absurd h
only-memory g events (OfMessage m) h =
    let child = h.refused in
    absurd (none-refused text_rules text-refuses-nothing g (text_of_chain g events (chain_of events h.chain)) true 0 (start_configuration child.read.flag) child.read.start child.result m child.read.ends child.message)

pub returns-in_err-subtokenize-clause-err : goal.returns-in_err-subtokenize-clause-err
returns-in_err-subtokenize-clause-err c =
    err-if c.from_residual.result _ _ (λ f is. is ∙ only-memory _ _ _ c.in_err-subtokenize.ensures.err) c.from_residual.ensures.1

pub returns-clause-ok : goal.returns-clause-ok
returns-clause-ok c =
    let g = given_by c.args.bytes.now c.args.options.now in
    let h = rw (c.in-Some.ensures.bytes, c.in-Some.ensures.options) at c.in_ok-subtokenize.ensures.ok in
    chains-read g c.args.events.now.items c.requires.document c.requires.ready text_rules (text_events g) (reads-items g) c.subtokenize.new.events.items c.in_ok-subtokenize.field-0 h
