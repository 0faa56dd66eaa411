-- The events of a document up to a seam, and those of the piece behind it.
use Rattle.std.proofs.Common.{[], ◌∙◌, ◌∷◌, ◌≡◌, ◌++◌, ◌<◌, ◌≤◌, Bool, List, ap, append-nil, append_assoc, arith, drop, false, inl, inr, length, map, refl, subst, suc, sym, take, true, zero, ℕ}
use Rattle.std.proofs.lemmas.Bool.{cases_lt}
use Rattle.std.proofs.lemmas.List.{length-take, take-append-drop, take_all}
use Rattle.markdown_base.specs.declared.configuration.ParseOptions.{ParseOptions}
use Rattle.markdown_base.specs.declared.event.Event.{Event}
use Rattle.markdown_tokenizer.specs.Plain.{HaveNoLinks}
use Rattle.markdown_tokenizer.specs.Text.{IsDocument}
use Rattle.mdinline_link_strings.proofs.Kept.{strings_keep}
use Rattle.mdinline_labels.specs.Defined.{defines}
use Rattle.mdinline_labels.specs.declared.labels.Labels.{Labels}
use Rattle.mdinline_machine.specs.InlineChains.{with_inlines, with_strings as with_string_chunks}
use Rattle.mddocument.specs.DocumentEvents.{document_events, is_defined_in}
use Rattle.mddocument.specs.Documents.{document}
use Rattle.mddocument_parts.proofs.BothDocuments.{document-events-of-both}
use Rattle.mddocument_parts.proofs.ChildrenOfBoth.{no-further}
use Rattle.mddocument_parts.proofs.DocumentParts.{behind-document, front-document}
use Rattle.mddocument_parts.proofs.EventsLeft.{no-links-left}
use Rattle.mddocument_parts.specs.BothDocuments.{blocks_of, events_by}
use Rattle.mddocument_parts.specs.Moved.{line_endings, moved_event, moved_link, moved_point}
use Rattle.mddocument_sinks.proofs.Seams.{joined, piece, piece-rest, seam-last}
use Rattle.mddocument_sinks.specs.Seams.{IsSeam}
use Rattle.mddocument_sinks.specs.Taken.{TookFront}

-- events without links are moved alike, by whatever number of events
unlinked : (lines bytes n : ℕ) (es : List Event) → HaveNoLinks es → map (moved_event lines bytes n) es ≡ map (moved_event lines bytes 0) es
unlinked lines bytes n [] none = refl
unlinked lines bytes n (e ∷ es) none =
    let link : moved_link n e.link ≡ moved_link 0 e.link = ap (moved_link n) none.0 ∙ sym (ap (moved_link 0) none.0) in
    let rest = unlinked lines bytes n es none.1 in
    (λ i. (let v : Event = record { kind = e.kind; name = e.name; point = moved_point lines bytes e.point; link = link i } in v) ∷ rest i)

module _ (options : ParseOptions) (bytes : List ℕ) (is : IsDocument (document options bytes)) where
  -- the bytes up to an index are a document, and so are those of a piece
  up-to : (to : ℕ) → IsDocument (document options (take to bytes))
  up-to to = front-document options (take to bytes) (drop to bytes) (subst (λ b. IsDocument (document options b)) (sym (take-append-drop to bytes)) is)

  of-both : (from to : ℕ) → from ≤ to → IsDocument (document options (take from bytes ++ piece options bytes from to))
  of-both from to order = subst (λ b. IsDocument (document options b)) (sym (joined options bytes from to order)) (up-to to)

  pub of-piece : (from to : ℕ) → from ≤ to → IsDocument (document options (piece options bytes from to))
  of-piece from to order = behind-document options (take from bytes) (piece options bytes from to) (of-both from to order)

-- an empty document has no events
pub events-none : (options : ParseOptions) (defined : List ℕ → Bool) → events_by options defined [] ≡ []
events-none options defined = by options.constructs.gfm_table
  where
    by : (tables : Bool) → events_by (record options { constructs = record options.constructs { gfm_table = tables } }) defined [] ≡ []
    by true = refl
    by false = refl

module _ (options : ParseOptions) (defined : List ℕ → Bool) where
  abbrev read : List ℕ → List Event
  read bytes = events_by options defined bytes

  -- the events of a document have no links
  no-links : (bytes : List ℕ) → IsDocument (document options bytes) → HaveNoLinks (read bytes)
  no-links bytes is =
      let g = document options bytes in
      (strings_keep options.constructs options.tab_size bytes (with_string_chunks g (with_inlines defined g (blocks_of options bytes)))).1 (no-links-left g is defined)

  module _ (bytes : List ℕ) (is : IsDocument (document options bytes)) where
    -- the events of a piece, as those of the document
    abbrev pub moved_piece : (from to : ℕ) → List Event
    moved_piece from to = map (moved_event (line_endings (take from bytes)) from 0) (read (piece options bytes from to))

    -- the events up to the end of a piece: those up to its beginning, and those of the piece
    pub events-on : (from to : ℕ) → IsSeam options bytes from → IsSeam options bytes to → from < to → read (take to bytes) ≡ read (take from bytes) ++ moved_piece from to
    events-on zero to start end order =
        let c = piece options bytes zero to in
        ap read (sym (joined options bytes zero to (omega arith)))
        ∙ sym (no-further (read c))
        ∙ ap (λ es. es ++ map (moved_event 0 0 0) (read c)) (sym (events-none options defined))
    events-on (suc n) to start end order =
        let a = take (suc n) bytes in
        let c = piece options bytes (suc n) to in
        let le : suc n ≤ to = omega (arith, order) in
        let rest = piece-rest options bytes (suc n) to start end order (omega arith) in
        let size : length a ≡ suc n = omega (arith, length-take (suc n) bytes, start.within) in
        ap read (sym (joined options bytes (suc n) to le))
        ∙ document-events-of-both defined options a c (of-both options bytes is (suc n) to le) rest
        ∙ ap (λ es. read a ++ es) (unlinked (line_endings a) (length a) (length (read a)) (read c) (no-links c (of-piece options bytes is (suc n) to le)))
        ∙ ap (λ m. read a ++ map (moved_event (line_endings a) m 0) (read c)) size

    -- the events up to a seam are a front of all
    record Front (to : ℕ) : Type 0 where
      rest : List Event
      are : read bytes ≡ read (take to bytes) ++ rest

    front-at : (to : ℕ) → IsSeam options bytes to → Front to
    front-at to seam = elim (cases_lt to (length bytes)) [
      | inl lt ↦ record {
        rest = moved_piece to (length bytes);
        are = ap read (sym (take_all (length bytes) bytes (omega arith))) ∙ events-on to (length bytes) seam (seam-last options bytes) lt;
      }
      | inr ge ↦ record {
        rest = [];
        are = ap read (sym (take_all to bytes ge)) ∙ sym (append-nil (read (take to bytes)));
      }
    ]

    module _ (from to : ℕ) (start : IsSeam options bytes from) (end : IsSeam options bytes to) (order : from < to) (before old new : List Event) (so_far : old ≡ before ++ read (take from bytes)) where
      -- one piece more
      pub took-more : new ≡ old ++ moved_piece from to → new ≡ before ++ read (take to bytes)
      took-more took =
          took ∙ ap (λ es. es ++ moved_piece from to) so_far ∙ append_assoc before (read (take from bytes)) (moved_piece from to)
          ∙ ap (λ es. before ++ es) (sym (events-on from to start end order))

      -- a front of one piece more
      pub took-front : TookFront (moved_piece from to) old new → TookFront (read bytes) before new
      took-front t =
          let behind = front-at to end in
          record {
            front = read (take from bytes) ++ t.front;
            rest = t.rest ++ behind.rest;
            events_are =
                behind.are
                ∙ ap (λ es. es ++ behind.rest) (events-on from to start end order ∙ ap (λ es. read (take from bytes) ++ es) t.events_are ∙ sym (append_assoc (read (take from bytes)) t.front t.rest))
                ∙ append_assoc (read (take from bytes) ++ t.front) t.rest behind.rest;
            took = t.took ∙ ap (λ es. es ++ t.front) so_far ∙ append_assoc before (read (take from bytes)) t.front;
          }

-- nothing of events is a front of them
pub took-none : (events old : List Event) → TookFront events old old
took-none events old = record { front = []; rest = events; events_are = refl; took = sym (append-nil old) }

-- by the labels that are defined in a document its events are those of the document
pub own-events : (options : ParseOptions) (bytes : List ℕ) (labels : Labels) → ((label : List ℕ) → defines labels label ≡ is_defined_in (document options bytes) label)
    → events_by options (defines labels) bytes ≡ document_events (document options bytes)
own-events options bytes labels same = ap (λ (defined : List ℕ → Bool). events_by options defined bytes) (λ i label. same label i)
