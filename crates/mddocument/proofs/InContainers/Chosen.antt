-- The events of a document, by the choice of how it is read.
use Rattle.mddocument.proofs.Prelude.{◌≡◌, ℕ, Bool, true, List, Event, ParseOptions, AreEventsOf, Which}
use Rattle.mddocument.specs.declared.choice.Which.TheVariants.{Document}
use Rattle.mddocument.specs.Documents.{AreDocumentEvents}

pub deep-document : (deep : Bool) (which : Which) → which ≡ Document → deep ≡ true → (options : ParseOptions) (bytes : List ℕ) (events : List Event) → AreDocumentEvents options bytes events → AreEventsOf deep which options bytes events
deep-document deep which w d options bytes events h = rw (w, d) h
