-- One piece more is read: what a sink took then, and how far the document was read.
use Rattle.std.proofs.Common.{◌∙◌, ◌≡◌, ◌++◌, ◌+◌, ◌<◌, ◌≤◌, Bool, List, ap, arith, map, subst, take, ℕ}
use Rattle.std.proofs.lemmas.List.{length-take}
use Rattle.markdown_base.specs.declared.configuration.ParseOptions.{ParseOptions}
use Rattle.markdown_base.specs.declared.event.Event.{Event}
use Rattle.markdown_tokenizer.specs.Text.{IsDocument}
use Rattle.mddocument.specs.Documents.{document}
use Rattle.mddocument_parts.specs.BothDocuments.{events_by}
use Rattle.mddocument_parts.specs.Moved.{moved_event}
use Rattle.mddocument_editing.proofs.CutLines.{endings-are-counted}
use Rattle.mddocument_editing.proofs.SectionPlaces.{endings-few, lines-few}
use Rattle.mddocument_editing.specs.PositionParts.{endings}
use Rattle.mddocument_sinks.proofs.PieceEvents.{moved_piece, took-front, took-more}
use Rattle.mddocument_sinks.proofs.Seams.{lines-on, long, piece}
use Rattle.mddocument_sinks.specs.Reached.{IsReached}
use Rattle.mddocument_sinks.specs.Seams.{IsSeam}
use Rattle.mddocument_sinks.specs.Taken.{TookFront}
use Rattle.mddocument_sinks.specs.declared.reading.Reached.{Reached}

module _ (options : ParseOptions) (bytes : List ℕ) (reached : Reached) (at : IsReached options bytes reached) (to : ℕ) (end : IsSeam options bytes to) (order : reached.bytes < to) where
  abbrev this : List ℕ
  this = piece options bytes reached.bytes to

  -- the line endings are counted on
  pub next-reached : (lines : ℕ) → lines ≡ reached.lines + endings this → IsReached options bytes (record { bytes = to; lines = lines })
  next-reached lines e = record {
    seam = end;
    lines = omega (arith, e, lines-on options bytes reached.bytes to at.seam end order, at.lines, endings-are-counted this);
  }

  -- there are no more of them than bytes
  pub lines-fit : reached.lines + endings this ≤ to
  lines-fit =
      let front = lines-few (take reached.bytes bytes) in
      let size = length-take reached.bytes bytes in
      let few = endings-few this in
      let longest = long options bytes reached.bytes to (omega (arith, order)) end.within in
      omega (arith, at.lines, front, size, few, longest, order, end.within)

  module _ (defined : List ℕ → Bool) (is : IsDocument (document options bytes)) where
    abbrev read : List ℕ → List Event
    read part = events_by options defined part

    abbrev moved : List Event
    moved = map (moved_event reached.lines reached.bytes 0) (read this)

    moved-is : moved ≡ moved_piece options defined bytes is reached.bytes to
    moved-is = ap (λ n. map (moved_event n reached.bytes 0) (read this)) at.lines

    pub next-events : (before old new : List Event) → new ≡ old ++ moved → old ≡ before ++ read (take reached.bytes bytes) → new ≡ before ++ read (take to bytes)
    next-events before old new took so_far =
        took-more options defined bytes is reached.bytes to at.seam end order before old new so_far (took ∙ ap (λ es. old ++ es) moved-is)

    pub next-front : (before old new : List Event) → TookFront moved old new → old ≡ before ++ read (take reached.bytes bytes) → TookFront (read bytes) before new
    next-front before old new t so_far =
        took-front options defined bytes is reached.bytes to at.seam end order before old new so_far (subst (λ es. TookFront es old new) moved-is t)
