-- Documents with a character reference, by computation: its events are its spans.
use Rattle.mddocument_laws.proofs.Prelude.{◌≡◌, ℕ, List, [], ◌∷◌, ◌++◌, refl, codes, Event, Enter, Exit, Paragraph, default_constructs, default_parse_options, point, unlinked_event, decimal, hexadecimal, document_events, reference_span, drop, take}

abbrev events : List ℕ → List Event
events bytes = document_events (record { bytes = bytes; options = record default_parse_options { constructs = default_constructs }; tab = 4 })

-- a paragraph that is one
in-paragraph : events (codes "&#38;") ≡ unlinked_event Enter Paragraph (point 1 1 0 0) ∷ (reference_span decimal 2 (point 1 1 0 0) ++ unlinked_event Exit Paragraph (point 1 6 5 0) ∷ [])
in-paragraph = refl

-- the info string of fenced code
in-info : take 12 (drop 5 (events (codes "~~~&#x26;"))) ≡ reference_span hexadecimal 2 (point 1 4 3 0)
in-info = refl
