use Rattle.std.proofs.Common.{Some, sym, subst}
use Rattle.markdown_base.specs.declared.event.Content.TheVariants.{Text as TextContent}
use Rattle.markdown_tokenizer.specs.Text.{Given}
use Rattle.markdown_children.specs.Ready.{IsReady}
use Rattle.mdexamples.specs.Laws.TextLines.{chunks-ready}
use Rattle.mdexamples.proofs.text_lines.TextLinesMachine.resolve.Goals as goal

pub read_chunks-requires-clause-ready : goal.read_chunks-requires-clause-ready
read_chunks-requires-clause-ready c =
    let t = c.args.t.now in
    let ready = chunks-ready t.given t.text c.args.name c.requires.invariant.0 t.configuration c.requires.invariant.1 in
    rw c.events_mut.ensures.value (subst (λ (g : Given). IsReady g.tab g.bytes (Some TextContent) t.configuration.events) (sym c.parse_state-state.ensures.given) ready)
