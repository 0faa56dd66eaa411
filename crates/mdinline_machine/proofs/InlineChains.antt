-- Chains of text are read as inline text; and what is read leaves other chains ready.
use Rattle.mdinline_machine.proofs.Prelude.{ℕ, Bool, List, Some, arith, refl, sym, ap, ◌∙◌, subst, AllByRecursion, TextContent, TextStart, IsBalanced, fitting_starts, lists, IsReady, lists-all, stays-ready, edited, HaveNoLinks, Given, Text, chain_text, all-begin, chains-read, children-events, each-alone, ReadsTexts, inline_events, read_events, linking_edits, inlines_rules, ReadsChainsAsInlineText, StaysReadyAfterInlineText}
use Rattle.mdinline_links.proofs.LinkEdits.{links-can-be-made}
use Rattle.mdinline_machine.proofs.Counted.{ends-as-counted}
use Rattle.mdinline_machine.proofs.InlineBuilt.{read-alone, read-balanced}
use Rattle.mdinline_machine.proofs.InlineMemory.{inlines-read}
use Rattle.mdinline_machine.proofs.InlineReads.{text_ending}
use Rattle.mdinline_machine.proofs.Resolved.{resolved-so}

-- what is read of any text, once all is resolved
pub reads-texts : (defined : List ℕ → Bool) (g : Given) → ReadsTexts g (inlines_rules defined) (inline_events defined g)
reads-texts defined g text is flag r ends well final sub resolved =
    let read = (ends-as-counted defined g text flag TextStart (text_ending defined g text) (inlines-read defined g text is flag) r ends).1 in
    let made = links-can-be-made g.options.gfm_strikethrough_single_tilde g.bytes (read_events defined g text) (read-balanced defined g text) (read-alone defined g text) in
    (resolved-so defined g TextStart (0, omega arith, (cc)) text is flag r ends well final sub resolved).1 (subst (λ es. HaveNoLinks (edited (linking_edits g es) es)) (sym read) (subst HaveNoLinks (sym made.1) made.3))
    ∙ ap (λ es. edited (linking_edits g es) es) read
    ∙ made.1

pub chains-read-inline : ReadsChainsAsInlineText
chains-read-inline defined g events document ready = chains-read g events document ready (inlines_rules defined) (inline_events defined g) (reads-texts defined g)

-- what is read has no links
pub inline-alone : (defined : List ℕ → Bool) (g : Given) (text : Text) → HaveNoLinks (inline_events defined g text)
inline-alone defined g text = (links-can-be-made g.options.gfm_strikethrough_single_tilde g.bytes (read_events defined g text) (read-balanced defined g text) (read-alone defined g text)).3

pub inline-stays-ready : StaysReadyAfterInlineText
inline-stays-ready defined g events document ready next new sub other h =
    let starts = fitting_starts (Some TextContent) events in
    let are = children-events g events document TextContent ready TextStart refl (inlines_rules defined) (inline_events defined g) (reads-texts defined g) starts h.children (all-begin g events document TextContent ready) h.read in
    let balanced = lists-all g (inlines_rules defined) events IsBalanced (λ c child is. is.in_shape.balanced) starts h.children h.read in
    let alone = subst (AllByRecursion HaveNoLinks) (sym are) (each-alone (λ c. inline_events defined g (chain_text g events c)) (λ c. inline-alone defined g (chain_text g events c)) starts) in
    subst (IsReady g.tab g.bytes next) (sym h.events) (stays-ready g.tab g.bytes (Some TextContent) events ready next (lists h.children) other balanced alone)
