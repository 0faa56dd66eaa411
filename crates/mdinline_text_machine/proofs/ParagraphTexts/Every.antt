-- What holds of each event of spans and of what texts are read as holds of each event of texts in their paragraphs.
use Rattle.std.proofs.Common.{ℕ, List, [], ◌∷◌, ◌++◌, length, drop, sym, subst}
use Rattle.std.specs.List.{AllByRecursion, flat_map}
use Rattle.markdown_base.proofs.Common.{every-append}
use Rattle.markdown_base.specs.declared.event.Event.{Event}
use Rattle.markdown_base.specs.declared.event.Kind.{Kind}
use Rattle.markdown_base.specs.declared.event.Kind.TheVariants.{Enter, Exit}
use Rattle.markdown_base.specs.declared.event.Name.{Name}
use Rattle.markdown_base.specs.declared.event.Name.TheVariants.{BlankLineEnding, BlockQuoteMarker, Paragraph}
use Rattle.markdown_base.specs.declared.event.Point.{Point}
use Rattle.markdown_base.specs.Places.{shown}
use Rattle.markdown_base.specs.Virtual.{Seat, end_after}
use Rattle.markdown_children.specs.Parts.{front_until}
use Rattle.markdown_tokenizer.proofs.Positions.Order.{every-back, every-front}
use Rattle.mdconstructs_machines.specs.LineEvents.{all_of}
use Rattle.mdconstructs_machines.specs.ParagraphEvents.{Block, blank, paragraph, chunk_of, mark_of}
use Rattle.mdconstructs_machines.specs.Spans.{event, leaf, span}
use Rattle.mdinline_text_machine.proofs.DeepSpans.Chains.{front-and-rest}
use Rattle.mdinline_text_machine.specs.ParagraphTexts.{block_with, chunk_events, lines_with, text_of}

module _ (bytes : List ℕ) (Q : Event → Type 0) (each : (kind : Kind) (name : Name) (p : Point) → Q (event bytes kind name p)) where
  abbrev Every : List Event → Type 0
  Every es = AllByRecursion Q es

  front-every : (l : List Seat) (es : List Event) → Every es → Every (chunk_events bytes l es) × Every (drop (length (chunk_events bytes l es)) es)
  front-every [] es h = (tt, h)
  front-every (s ∷ ss) es h =
      let end = shown bytes (end_after s.end ss) in
      let front = front_until end es in
      let rest = drop (length front) es in
      let both = subst Every (sym (front-and-rest end es)) h in
      (every-front Q front rest both, every-back Q front rest both)

  leaf-every : (name : Name) (l : List Seat) → Every (leaf bytes name l)
  leaf-every name [] = tt
  leaf-every name (s ∷ ss) = (each Enter name s.point, (each Exit name (end_after s.end ss), tt))

  lines-every : (lines : List (List Seat)) (es : List Event) → Every es → Every (lines_with bytes lines es)
  lines-every [] es h = tt
  lines-every (line ∷ lines) es h =
      let part = chunk_events bytes (chunk_of line) es in
      let cut = front-every (chunk_of line) es h in
      let rest = drop (length part) es in
      every-append Q (leaf bytes BlockQuoteMarker (mark_of line)) (part ++ lines_with bytes lines rest) (leaf-every BlockQuoteMarker (mark_of line))
      (every-append Q part (lines_with bytes lines rest) cut.0 (lines-every lines rest cut.1))

  span-every : (name : Name) (l : List Seat) (es : List Event) → Every es → Every (span bytes name l es)
  span-every name [] es h = h
  span-every name (s ∷ ss) es h = (each Enter name s.point, every-append Q es (event bytes Exit name (end_after s.end ss) ∷ []) h (each Exit name (end_after s.end ss), tt))

  module _ (reads : List Seat → List Event) (every : (l : List Seat) → Every (reads l)) where
    block-every : (block : Block) → Every (block_with reads bytes block)
    block-every (blank line) = leaf-every BlankLineEnding line
    block-every (paragraph lines) = span-every Paragraph (all_of lines) (lines_with bytes lines (reads (text_of lines))) (lines-every lines (reads (text_of lines)) (every (text_of lines)))

    pub blocks-every : (blocks : List Block) → Every (flat_map (block_with reads bytes) blocks)
    blocks-every [] = tt
    blocks-every (block ∷ blocks) = every-append Q (block_with reads bytes block) (flat_map (block_with reads bytes) blocks) (block-every block) (blocks-every blocks)
