-- Inner: sections that are read again, and their events put in, for private functions.
use Rattle.std.specs.Prelude.{◌≡◌, ◌⊎◌, ℕ, zero, suc, ◌+◌, ◌&&◌, Bool, List, [], ◌∷◌}
use Rattle.std.specs.List.{fold}
use Rattle.markdown_base.specs.declared.configuration.ParseOptions.{ParseOptions}
use Rattle.markdown_base.specs.declared.event.Event.{Event}
use Rattle.markdown_tokenizer.specs.Text.{IsDocument}
use Rattle.mddocument.specs.Documents.{document}
use Rattle.mddocument_editing.specs.declared.defined.Defined.{Defined}
use Rattle.mddocument_editing.specs.declared.reread.Reread.{Reread}
use Rattle.mddocument_editing.specs.declared.section.Section.{Section}
use Rattle.mddocument_editing.specs.InBrackets.{asks_for, changes, may_ask}
use Rattle.mddocument_editing.specs.Kept.{IsRead}
use Rattle.mddocument_editing.specs.Known.{Key, knows}
use Rattle.mddocument_editing.specs.Said.{linking}

-- a section may look up a label that changes
abbrev pub looks_up : (old new : Defined) → Section → Bool
looks_up old new s = s.asks && may_ask (asks_for (changes (knows old) (knows new))) s.part.bytes.items

-- a section has what links go by that are among its events
abbrev pub HasLinking : Section → Type 0
HasLinking s = s.linking ≡ linking s.part.bytes.items s.events

-- a section that was read, and whose bytes are a possible document
pub record IsReadDocument (options : ParseOptions) (defined : Key → Bool) (section : Section) : Type 0 where
  pub read : IsRead options defined section
  pub document : IsDocument (document options section.part.bytes.items)

module _ (read : List ℕ → List Event) where
  -- a section has the events that reading it gives
  abbrev pub HasEvents : Section → Type 0
  HasEvents s = read s.part.bytes.items ≡ s.events

  -- a section with a number, read again
  abbrev pub read_again : (number : ℕ) → Section → Reread
  read_again number s = let events = read s.part.bytes.items in record { section = number; events = events; linking = linking s.part.bytes.items events }

  -- Of sections, those that have other events are read again, and those alone; the first of the sections has this number
  abbrev pub AreReread : (first : ℕ) → List Section → List Reread → Type 0
  AreReread first [] others = others ≡ []
  AreReread first (s ∷ more) others =
      ((HasEvents s × HasLinking s) × AreReread (first + 1) more others)
      ⊎ ((rest : List Reread) × ((others ≡ read_again first s ∷ rest) × (¬ HasEvents s × AreReread (first + 1) more rest)))

-- a section as it is read again
abbrev pub read_as : Reread → Section → Section
read_as r s = record { part = s.part; lines = s.lines; asks = s.asks; events = r.events; linking = r.linking }

-- sections, of which the one with this number is read again
abbrev pub put_at : (number : ℕ) → Reread → List Section → List Section
put_at number r [] = []
put_at zero r (s ∷ more) = read_as r s ∷ more
put_at (suc number) r (s ∷ more) = s ∷ put_at number r more

-- sections, of which some were read again
abbrev pub put_all : List Section → List Reread → List Section
put_all sections others = fold (λ sections other. put_at other.section other sections) sections others
