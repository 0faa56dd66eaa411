-- How the program reads a document: by which machine, in which cuts, and whether its chunks are read too.
use Rattle.std.specs.Prelude.{◌≡◌, ℕ, ◌≤◌, IfSome, ◌&&◌, not, Bool, true, false, List, Option, Some, None, cond}
use Rattle.std.specs.Option.{option_map_or}
use Rattle.markdown.specs.declared.event.Event.{Event}
use Rattle.markdown.specs.Presets.{default_constructs, gfm_constructs}
use Rattle.mddocument.specs.declared.choice.Which.{Which as LibraryWhich}
use Rattle.mddocument.specs.declared.choice.Which.TheVariants.{Lines as LibraryLines, Paragraphs as LibraryParagraphs, Peek as LibraryPeek, Deep as LibraryDeep, Back as LibraryBack, Save as LibrarySave, Text as LibraryText, Flow as LibraryFlow, Document as LibraryDocument}
use Rattle.mddocument.specs.Choices.{links_text as library_links_text}
use Rattle.mddocument.specs.Documents.{AreDocumentBlocks, AreEventsOf, options_with}
use Rattle.mdgfm_documents.specs.Documents.{gfm_events}
use Rattle.mdevents_program.specs.declared.choice.Choice.{Choice}
use Rattle.mdevents_program.specs.declared.choice.Which.{Which}
use Rattle.mdevents_program.specs.declared.choice.Which.TheVariants.{Lines, Paragraphs, Peek, Deep, Back, Save, Text, Flow, Document, Gfm}

-- the machine of the library that a name means; for `gfm` there is none of its own
abbrev pub library_machine : Which → Option LibraryWhich
library_machine Lines = Some LibraryLines
library_machine Paragraphs = Some LibraryParagraphs
library_machine Peek = Some LibraryPeek
library_machine Deep = Some LibraryDeep
library_machine Back = Some LibraryBack
library_machine Save = Some LibrarySave
library_machine Text = Some LibraryText
library_machine Flow = Some LibraryFlow
library_machine Document = Some LibraryDocument
library_machine Gfm = None

-- whether a machine links chunks of text
abbrev pub links_text : Which → Bool
links_text which = option_map_or library_links_text (library_machine which) true

-- the choice of a cut, of `--deep`, of a machine and of a tab size, if they are accepted together: `--deep` only with a machine that links
abbrev pub choice_together : Option ℕ → Bool → Which → ℕ → Option Choice
choice_together n is_deep which t = cond (is_deep && not (links_text which)) None (Some (record { cut = n; deep = is_deep; machine = which; tab = t }))

-- a cut is at least 1
abbrev pub CanCut : Choice → Type 0
CanCut choice = IfSome choice.cut (λ n. 1 ≤ n)

-- Events are those of a document with the constructs of GFM: its blocks, tables and footnote definitions among them; or, deep, with inline text, checks of
-- tasks, calls of footnotes and literals
abbrev pub AreGfmEvents : (deep : Bool) → (t : ℕ) → List ℕ → List Event → Type 0
AreGfmEvents false t bytes events = AreDocumentBlocks (options_with gfm_constructs t) bytes events
AreGfmEvents true t bytes events = events ≡ gfm_events (options_with gfm_constructs t) bytes

-- Events are those that a machine of the library makes of a document, or without one those of GFM
abbrev pub AreMadeBy : Option LibraryWhich → (deep : Bool) → (t : ℕ) → List ℕ → List Event → Type 0
AreMadeBy (Some machine) deep t bytes events = AreEventsOf deep machine (options_with default_constructs t) bytes events
AreMadeBy None deep t bytes events = AreGfmEvents deep t bytes events

-- Events are those of a document by a choice
abbrev pub AreEventsBy : Choice → List ℕ → List Event → Type 0
AreEventsBy choice bytes events = AreMadeBy (library_machine choice.machine) choice.deep choice.tab bytes events
