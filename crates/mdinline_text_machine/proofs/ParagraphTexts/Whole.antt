-- What `Paragraphs` and `Text` make of a document, with the text of each chain read, is what stands in its lines.
use Rattle.std.proofs.Common.{◌≡◌, ℕ, ◌+◌, ◌<◌, List, [], ◌∷◌, ◌++◌, append-nil, None, Some, length, map, refl, sym, ap, ◌∙◌, subst, arith}
use Rattle.std.specs.List.{flat_map}
use Rattle.std.proofs.lemmas.List.{length-map}
use Rattle.markdown_base.proofs.Orders.{order-pairs}
use Rattle.markdown_base.specs.Events.{IsInOrder, IsVoidTight}
use Rattle.markdown_base.specs.declared.event.Content.TheVariants.{Text as TextContent}
use Rattle.markdown_base.specs.declared.event.Event.{Event}
use Rattle.markdown_base.specs.Places.{IsShown}
use Rattle.markdown_base.specs.Virtual.{Seat, end_after, point, virtual}
use Rattle.markdown_edits.proofs.Edits.Passes.{woven-pass}
use Rattle.markdown_edits.specs.Woven.{AreApart, Change, Tagged, placed_end, placed_in, woven}
use Rattle.markdown_children.proofs.ChainOrder.Following.{follow_one_another}
use Rattle.markdown_children.proofs.ChainOrder.Spaced.{changes_are_apart}
use Rattle.markdown_children.proofs.Parts.Kept.{untagged}
use Rattle.markdown_children.specs.Chains.{chain_of, fitting_starts}
use Rattle.markdown_children.specs.Children.{child_changes}
use Rattle.markdown_children.specs.LawStatements.{AreSpaced}
use Rattle.markdown_tokenizer.proofs.Readings.Plain.{unlinked-same}
use Rattle.markdown_tokenizer.specs.Plain.{HaveNoLinks}
use Rattle.markdown_tokenizer.specs.Text.{Given, IsDocument, empty_text}
use Rattle.mdconstructs_machines.proofs.BlockReads.Accounts.{block_bytes, blocks-are-all}
use Rattle.mdconstructs_machines.proofs.BlockReads.Accounts.{lines-are-all}
use Rattle.mdconstructs_machines.specs.LineEvents.{data_events, lines_in}
use Rattle.mdconstructs_machines.specs.ParagraphEvents.{as_linked, blocks_marks, blocks_of}
use Rattle.mdinline_text_machine.proofs.DeepSpans.Atoms.{IsCut}
use Rattle.mdinline_text_machine.proofs.DeepSpans.Stretches.{data-cut}
use Rattle.mdinline_text_machine.proofs.DeepSpans.TextCuts.{text-cut}
use Rattle.mdinline_text_machine.proofs.Paragraphs.Ready.{document-readable}
use Rattle.mdinline_text_machine.proofs.Texts.Built.{data-built}
use Rattle.mdinline_text_machine.proofs.Texts.Tight.{links-kept, text-alone}
use Rattle.mdinline_text_machine.proofs.Paragraphs.Tight.{data-stays-tight, texts-stay-tight}
use Rattle.mdinline_text_machine.proofs.ParagraphTexts.Blocks.{blocks-done, blocks-of-good}
use Rattle.mdinline_text_machine.proofs.ParagraphTexts.Every.{blocks-every}
use Rattle.mdinline_text_machine.proofs.ParagraphTexts.Orders.{blocks-order, reads-shown}
use Rattle.mdinline_text_machine.proofs.Prelude.{All-from_recursion, IsChain, shown-shown, whole-chain}
use Rattle.mdinline_text_machine.proofs.ParagraphTexts.MarksAt.{Ahead, starts_in}
use Rattle.mdinline_text_machine.specs.ChainTexts.{chain_text, paragraphs_of, with_read}
use Rattle.mdinline_text_machine.specs.ParagraphTexts.{ParagraphsReadAsData, ParagraphsReadAsTexts, TextsAreInOrder, block_with, paragraph_texts}
use Rattle.mdinline_text_machine.specs.TextEvents.{seat_events}

placed-same : (ts us : List Tagged) → HaveNoLinks (untagged us) → placed_in ts us ≡ untagged us
placed-same ts [] h = refl
placed-same ts (u ∷ us) h = λ i. unlinked-same (placed_end ts u.identity) u.event h.0 i ∷ placed-same ts us h.1 i

-- ---- a whole document
module _ (g : Given) (document : IsDocument g) (reads : List Seat → List Event) (cuts : (l : List Seat) → IsCut g.bytes (reads l) l) (alone : (l : List Seat) → HaveNoLinks (reads l)) where
  pub paragraphs-read : with_read g (paragraphs_of g) (λ c. reads (chain_text g (paragraphs_of g) c).seats) ≡ paragraph_texts reads g.bytes (virtual g.tab g.bytes)
  paragraphs-read =
      let some : 0 < g.tab = (let tab = document.tab.0 in omega (arith, tab)) in
      let seats = virtual g.tab g.bytes in
      let blocks = blocks_of (lines_in seats) in
      let all = blocks_marks g.bytes 0 blocks in
      let events = paragraphs_of g in
      let of_chain : ℕ → List Event = λ c. reads (chain_text g events c).seats in
      let readable = document-readable g document in
      let ready = readable.1 in
      let wanted = Some TextContent in
      let n = length events in
      let starts = fitting_starts wanted events in
      let f = follow_one_another g.tab g.bytes wanted events ready in
      let ws : List Change = child_changes wanted events (map of_chain starts) in
      let z : n ≡ 0 + n = omega arith in
      let apart : AreApart 0 ws (0 + n) = subst (AreApart 0 ws) z (changes_are_apart g.tab g.bytes wanted events (map of_chain starts) ready).apart in
      let spaced : AreSpaced 0 (flat_map (chain_of events) starts) n = subst (λ (ks : List ℕ). AreSpaced 0 ks n) (sym f.in_order) f.spaced in
      let ahead : Ahead all 0 (length all) starts = record { starts = ap (λ m. starts_in all 0 m) (sym (length-map all (as_linked all))); whole = f.whole; spaced = spaced } in
      let whole : seats ≡ flat_map block_bytes blocks = sym (blocks-are-all (lines_in seats) ∙ lines-are-all seats) in
      let done = blocks-done g some all ready (λ k d is. (readable.0.pairs k d is).follows) reads cuts blocks 0 0 starts [] (blocks-of-good seats) refl ahead whole in
      let ts = woven ws 0 events in
      let texts = flat_map (block_with reads g.bytes) blocks in
      let is : untagged ts ≡ texts = ap untagged (woven-pass ws 0 events apart) ∙ done in
      placed-same ts ts (subst HaveNoLinks (sym is) (blocks-every g.bytes (λ (e : Event). e.link ≡ None) (λ kind name p. refl) reads alone blocks)) ∙ is

  -- they are in order
  pub paragraphs-in-order : IsInOrder g.bytes (paragraph_texts reads g.bytes (virtual g.tab g.bytes))
  paragraphs-in-order =
      let some : 0 < g.tab = (let tab = document.tab.0 in omega (arith, tab)) in
      let seats = virtual g.tab g.bytes in
      let blocks = blocks_of (lines_in seats) in
      let es = flat_map (block_with reads g.bytes) blocks in
      let p = point 1 1 0 0 in
      let is : seats ≡ flat_map block_bytes blocks ++ [] = sym (append-nil (flat_map block_bytes blocks) ∙ blocks-are-all (lines_in seats) ∙ lines-are-all seats) in
      let h = blocks-order g.bytes g.tab reads cuts blocks p [] (subst (IsChain g.tab g.bytes p) is (whole-chain g.tab g.bytes some)) in
      let shown_all = blocks-every g.bytes (λ (e : Event). IsShown g.bytes e.point) (λ kind name q. shown-shown g.tab g.bytes q) reads (λ l. reads-shown g.bytes g.tab reads cuts l) blocks in
      (order-pairs p es (end_after p (flat_map block_bytes blocks)) h, All-from_recursion (λ (e : Event). IsShown g.bytes e.point) es shown_all)

pub read-as-data : ParagraphsReadAsData
read-as-data g document = paragraphs-read g document (data_events g.bytes) (data-cut g.bytes) (data-built g.bytes HaveNoLinks (links-kept g.bytes))

pub read-as-texts : ParagraphsReadAsTexts
read-as-texts g document =
    paragraphs-read g document (seat_events g.options.constructs g.bytes) (λ l. text-cut g (record (empty_text (point 1 1 0 0)) { seats = l })) (λ l. text-alone g (record (empty_text (point 1 1 0 0)) { seats = l }))

-- void spans stay empty, too
pub data-formed : TextsAreInOrder (λ g. data_events g.bytes)
data-formed g document =
    (subst IsVoidTight (read-as-data g document) (data-stays-tight g document).new, paragraphs-in-order g document (data_events g.bytes) (data-cut g.bytes) (data-built g.bytes HaveNoLinks (links-kept g.bytes)))

pub texts-formed : TextsAreInOrder (λ g. seat_events g.options.constructs g.bytes)
texts-formed g document = (
  subst IsVoidTight (read-as-texts g document) (texts-stay-tight g document).new,
  paragraphs-in-order g document (seat_events g.options.constructs g.bytes) (λ l. text-cut g (record (empty_text (point 1 1 0 0)) { seats = l })) (λ l. text-alone g (record (empty_text (point 1 1 0 0)) { seats = l })),
)
