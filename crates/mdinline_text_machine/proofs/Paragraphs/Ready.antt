-- What the machines of paragraphs and of texts read of a document, from the start of paragraphs, has chains of text that can be read.
use Rattle.mdinline_text_machine.proofs.Prelude.{◌≡◌, ◌<◌, [], Some, false, inl, inr, refl, sym, ap, ◌∙◌, subst, arith, Contains, IsBalanced, IsVoidTight, IsInOrder, Next, Ok, FlowStart, virtual, Configuration, start_configuration, whole_text, KeepsInvariant, Reading, EndsIn, Rules, Given, Text, IsDocument, AreMutual, no-links-shape, IsReady, kept-well, knowing-lawful, paragraphs, knows_chunk, paragraphs_rules, paragraph_events, paragraphs-fit, paragraphs-known, reads-whole, HasReadableChains, text_rules, text-lawful}
use Rattle.markdown_base.specs.declared.event.Content.TheVariants.{Text as TextContent}
use Rattle.mdconstructs_machines.proofs.BlockReads.Reads.{ReadsBlocks}
use Rattle.mdinline_text_machine.proofs.Paragraphs.ChunkPairs.{AreChunks}
use Rattle.mdinline_text_machine.proofs.Paragraphs.ChunksReady.{chunks-are-ready}
use Rattle.mdinline_text_machine.proofs.Paragraphs.Formed.{paragraphs-formed}
use Rattle.mdinline_text_machine.proofs.Paragraphs.Steps.{Known, flow-kept}
use Rattle.mdinline_text_machine.proofs.Texts.Ends.{holds-at-end}
use Rattle.mdinline_text_machine.proofs.Texts.WholePlaces.{whole-is-text}

module _ (rules : Given → Rules Unit Unit) where
  -- What is known of a machine that reads paragraphs. Its chains are mutual where all was read
  record ReadsParagraphs : Type 0 where
    law : (g : Given) → KeepsInvariant g (rules g)
    flow : (g : Given) → ReadsBlocks g (whole_text g) (rules g).step
    starts : (g : Given) → Contains (rules g).starts FlowStart
    both : (g : Given) (text : Text) (k : Configuration Unit Unit) → (rules g).holds text k [] Ok → IsBalanced k.events → AreMutual k.events

  -- the chunks of a reading of a whole document follow one another, and can be read
  reading-readable : ReadsParagraphs → (g : Given) → IsDocument g → (r : Reading Unit Unit) → EndsIn g (rules g).step (whole_text g) 0 (start_configuration false) [] (Next FlowStart) r → r.answer ≡ Ok
      → IsBalanced r.configuration.events → IsVoidTight r.configuration.events → IsInOrder g.bytes r.configuration.events → AreChunks g.tab g.bytes r.configuration.events × IsReady g.tab g.bytes (Some TextContent) r.configuration.events
  reading-readable reads g document r ends well balanced tight in_order =
      let text = whole_text g in
      let k = r.configuration in
      let none : AreChunks g.tab g.bytes [] = record { each = tt; pairs = λ k d is. absurd (cc) } in
      let kept = flow-kept g document (rules g).step (reads.flow g) in
      let chunks = kept-well g (rules g).step text (Known g document) kept 0 (start_configuration false) (Next FlowStart) r (none, inl refl) ends well in
      let holds = holds-at-end g rules (reads.law g) FlowStart (reads.starts g) text (whole-is-text g document) false r ends well in
      (chunks, chunks-are-ready g.tab g.bytes k.events chunks balanced tight in_order (reads.both g text k holds balanced))

  readable : ReadsParagraphs → HasReadableChains rules FlowStart
  readable reads g events sub document run =
      let same : run.result.configuration.events ≡ events = sym (run.events ∙ ap (λ (q : Configuration Unit Unit). q.events) run.resolved.0) in
      subst (IsReady g.tab g.bytes (Some TextContent)) same (reading-readable reads g document run.result run.ends run.well run.well_formed.balanced run.well_formed.void_tight run.well_formed.in_order).1

paragraphs-reads : ReadsParagraphs paragraphs_rules
paragraphs-reads = record {
  law = λ g. (knowing-lawful paragraphs knows_chunk g paragraphs-fit paragraphs-known).invariant_kept;
  flow = λ g. record { flow_start = λ k. refl; line_start = λ k. refl; start = λ k. refl; inside = λ k. refl };
  starts = λ g. (0, omega arith, (cc));
  both = λ g text k h balanced i j. let shape = h.known.shape in (shape.on i j, shape.back i j);
}

pub paragraphs-readable : HasReadableChains paragraphs_rules FlowStart
paragraphs-readable = readable paragraphs_rules paragraphs-reads

pub text-readable : HasReadableChains text_rules FlowStart
text-readable = readable text_rules (record {
  law = λ g. (text-lawful g).invariant_kept;
  flow = λ g. record { flow_start = λ k. refl; line_start = λ k. refl; start = λ k. refl; inside = λ k. refl };
  starts = λ g. (0, omega arith, (cc));
  both = λ g text k h balanced. elim h [
    | inl h ↦ (let shape = h.known.shape in λ i j. (shape.on i j, shape.back i j))
    | inr h ↦ (no-links-shape k.events h.0.2 balanced).chained
  ];
})

-- The events of the blocks of a document: its chunks follow one another, and its chains can be read
pub document-readable : (g : Given) → IsDocument g → let es = paragraph_events g.bytes (virtual g.tab g.bytes) in AreChunks g.tab g.bytes es × IsReady g.tab g.bytes (Some TextContent) es
document-readable g document =
    let some : 0 < g.tab = (let tab = document.tab.0 in omega (arith, tab)) in
    let it = reads-whole g (whole_text g) (paragraphs_rules g).step (paragraphs-reads.flow g) false 0 in
    let formed = paragraphs-formed g.tab g.bytes some in
    subst (λ l. AreChunks g.tab g.bytes l × IsReady g.tab g.bytes (Some TextContent) l) it.1.2 (reading-readable paragraphs_rules paragraphs-reads g document it.0 it.1.0 it.1.1
    (subst IsBalanced (sym it.1.2) formed.0) (subst IsVoidTight (sym it.1.2) formed.1) (subst (IsInOrder g.bytes) (sym it.1.2) formed.2))
