-- Chains of content are read as the leaf blocks of their texts, and what is left is ready for the next content.
use Rattle.mddocument.proofs.Prelude.{◌≡◌, ◌+◌, List, [], ◌∷◌, true, Option, None, Some, sym, ap, ◌∙◌, subst, arith, zero, suc, refl, Contains, slice_get, none-some, same_Some, Content, Event, Enter, Seat, virtual, is_void, Given, IsText, Text, IsReady, flow_events, flow_rules, flow-ends, whole-flow-is-read, children-events, chain_text, blocks-are-formed}
use Rattle.markdown_base.specs.declared.event.Content.TheVariants as content
use Rattle.markdown_base.specs.declared.state.TheConstants.Name.{ContentDefinitionBefore}
use Rattle.markdown_children.proofs.Parts.GoingOn.{goes-on-by}
use Rattle.markdown_children.proofs.Parts.Staying.{each-ready as each-content}
use Rattle.markdown_children.specs.NextContent.{CanBeReadNext, HoldsOnlyText, ReadsNext}
use Rattle.markdown_tokenizer.specs.Text.{in_range}
use Rattle.mdblock_leaf_blocks.proofs.Marks.Courses.{text-room}
use Rattle.mdblock_leaf_blocks.proofs.Marks.MarkHolds.{HoldEach, HoldsFirst, blocks-hold}
use Rattle.mdinline_text_machine.proofs.Paragraphs.ChainEvents.{chains-read-from, is-text}
use Rattle.mdinline_text_machine.proofs.Texts.Ends.{ReadsTextsFrom}
use Rattle.mddocument.specs.BlockChains.{LeafBlocksCanBeReadNext, LeafBlocksOfTextsAreReadable, ReadsChainsAsLeafBlocks}
use Rattle.mddocument.proofs.FlowTexts.Textual.{each-ready}

-- what is read of any text from the start of content
reads-blocks-of : (g : Given) → ReadsTextsFrom ContentDefinitionBefore g flow_rules (λ text. flow_events g.options.constructs g.bytes text.seats)
reads-blocks-of g text is flag r ends well final sub resolved =
    (flow-ends whole-flow-is-read g text flag ContentDefinitionBefore (1, omega arith, refl) (text-room g text is) r ends).events_are final sub resolved

pub chains-read-blocks : ReadsChainsAsLeafBlocks
chains-read-blocks g events new sub document ready h =
    chains-read-from g events document content.Content ready ContentDefinitionBefore refl flow_rules (λ text. flow_events g.options.constructs g.bytes text.seats) (reads-blocks-of g) new sub h

-- void spans at indices
module _ (g : Given) (text : Text) where
  abbrev Held : Event → Event → Type 0
  Held e f = (s : Seat) → Contains (virtual g.tab g.bytes) s → in_range e.point f.point s ≡ true → Contains text.seats s

  held-first : (e f : Event) (es : List Event) → slice_get es 0 ≡ Some f → HoldsFirst g.tab g.bytes (Contains text.seats) e.point es → Held e f
  held-first e f [] at h = absurd h
  held-first e f (x ∷ es) at h = subst (Held e) (same_Some x f at) h

  pub held-at : (es : List Event) → HoldEach g.tab g.bytes (Contains text.seats) es → HoldsOnlyText g text es
  held-at [] h n e f at next enters void = absurd (none-some e at)
  held-at (x ∷ es) h zero e f at next enters void =
      let same = same_Some x e at in
      let first = subst (λ (y : Event). y.kind ≡ Enter → is_void y.name ≡ true → HoldsFirst g.tab g.bytes (Contains text.seats) y.point es) same h.0 enters void in
      held-first e f es next first
  held-at (x ∷ es) h (suc n) e f at next enters void =
      let one : suc n + 1 ≡ suc (n + 1) = omega arith in
      held-at es h.1 n e f at (ap (slice_get (x ∷ es)) (sym one) ∙ next) enters void

  -- all chains can be read, so those of each content can
  ready-for : IsText g text → (next : Option Content) → IsReady g.tab g.bytes next (flow_events g.options.constructs g.bytes text.seats)
  ready-for is None = each-ready g text is
  ready-for is (Some c) = each-content g.tab g.bytes (flow_events g.options.constructs g.bytes text.seats) (each-ready g text is) c

pub blocks-read-next : LeafBlocksOfTextsAreReadable
blocks-read-next g text next is =
    let formed = blocks-are-formed.blocks g text is in
    record {
      ready = ready-for g text is next;
      shown = λ i e within. (formed.at_places i e within, formed.in_order.1 i e within);
      tight = formed.void_tight;
      whole = held-at g text (flow_events g.options.constructs g.bytes text.seats) (blocks-hold g text is);
    }

pub blocks-leave-ready : LeafBlocksCanBeReadNext
blocks-leave-ready g events new sub next document ready other gaps h =
    let reads : ReadsNext g flow_rules (Some content.Content) next events = λ c child begin one.
    let text = chain_text g events c in
    let is : IsText g text = is-text g events document content.Content ready c begin in
    let are = children-events g events document content.Content ready ContentDefinitionBefore refl flow_rules (λ text. flow_events g.options.constructs g.bytes text.seats) (reads-blocks-of g) (c ∷ []) (child ∷ []) (begin, tt) (one, tt) in
    let same : child.events ≡ flow_events g.options.constructs g.bytes text.seats = cc in
    subst (CanBeReadNext g next text) (sym same) (blocks-read-next g text next is) in
    goes-on-by g flow_rules (Some content.Content) next events document ready other gaps reads new sub h
