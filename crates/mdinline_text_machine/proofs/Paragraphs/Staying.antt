-- A list whose texts were read stays ready for its chains of another content.
use Rattle.mdinline_text_machine.proofs.Prelude.{TextStart, refl, ℕ, List, [], ◌∷◌, Some, sym, subst, map, AllByRecursion, Event, IsBalanced, Given, IsDocument, IsReady, lists, fitting_starts, chain_text, text_events, text_rules}
use Rattle.markdown_base.specs.declared.event.Content.TheVariants.{Text as TextContent}
use Rattle.markdown_children.proofs.ChildReads.SoFar.{lists-all}
use Rattle.markdown_children.proofs.Parts.Staying.{stays-ready}
use Rattle.markdown_tokenizer.specs.Plain.{HaveNoLinks}
use Rattle.mdinline_text_machine.specs.ChainTexts.{StaysReadyBy}
use Rattle.mdinline_text_machine.proofs.Paragraphs.ChainEvents.{all-begin, children-events}
use Rattle.mdinline_text_machine.proofs.Texts.Ends.{reads-items}
use Rattle.mdinline_text_machine.proofs.Texts.Tight.{text-alone}

pub each-alone : (of_chain : ℕ → List Event) → ((c : ℕ) → HaveNoLinks (of_chain c)) → (cs : List ℕ) → AllByRecursion HaveNoLinks (map of_chain cs)
each-alone of_chain alone [] = tt
each-alone of_chain alone (c ∷ cs) = (alone c, each-alone of_chain alone cs)

pub texts-stay-ready : (g : Given) (events : List Event) → IsDocument g → IsReady g.tab g.bytes (Some TextContent) events → StaysReadyBy g events text_rules
texts-stay-ready g events document ready next new sub other h =
    let starts = fitting_starts (Some TextContent) events in
    let are = children-events g events document TextContent ready TextStart refl text_rules (text_events g) (reads-items g) starts h.children (all-begin g events document TextContent ready) h.read in
    let balanced = lists-all g text_rules events IsBalanced (λ c child is. is.in_shape.balanced) starts h.children h.read in
    let alone = subst (AllByRecursion HaveNoLinks) (sym are) (each-alone (λ c. text_events g (chain_text g events c)) (λ c. text-alone g (chain_text g events c)) starts) in
    subst (IsReady g.tab g.bytes next) (sym h.events) (stays-ready g.tab g.bytes (Some TextContent) events ready next (lists h.children) other balanced alone)
