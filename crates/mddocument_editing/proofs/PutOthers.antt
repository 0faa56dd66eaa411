-- Sections that were read of a document: their events are those by other labels, if they look up no label that changes.
use Rattle.mddocument_editing.proofs.Prelude.{Bool, ◌≡◌, ◌&&◌, false, List, [], ◌∷◌, sym, ap, ◌∙◌, AllByRecursion, ParseOptions, IsDocument, document, part_events, document_of, changes, may_ask, IsRead, bytes_of_sections, HasEvents, IsReadDocument, looks_up, Section, Key, Defined, asks_for, knows}
use Rattle.mddocument_parts.proofs.DocumentParts.{behind-document, front-document}
use Rattle.mddocument_editing.proofs.AskedAgain.{same-unless-asked}
use Rattle.mddocument_editing.proofs.AskingCode.{same-unless-changed}

-- each section that was read of a document is one
pub read-documents : (options : ParseOptions) (defined : Key → Bool) (ss : List Section) → IsDocument (document options (document_of (bytes_of_sections ss)))
    → AllByRecursion (IsRead options defined) ss → AllByRecursion (IsReadDocument options defined) ss
read-documents options defined [] is read = tt
read-documents options defined (s ∷ ss) is read =
    let bytes = s.part.bytes.items in
    let more = document_of (bytes_of_sections ss) in
    (record { read = read.0; document = front-document options bytes more is }, read-documents options defined ss (behind-document options bytes more is) read.1)

module _ (options : ParseOptions) (old new : Defined) (s : Section) (is : IsReadDocument options (knows old) s) where
  -- a section that looks up no label that changes has its events by both
  pub has-unasked : looks_up old new s ≡ false → HasEvents (part_events options (knows new)) s
  has-unasked none =
      let bytes = s.part.bytes.items in
      same-unless-asked options (knows old) (knows new) (changes (knows old) (knows new)) (same-unless-changed (knows old) (knows new)) bytes is.document
      (ap (λ a. a && may_ask (asks_for (changes (knows old) (knows new))) bytes) (sym is.read.asks) ∙ none)
      ∙ sym is.read.events
