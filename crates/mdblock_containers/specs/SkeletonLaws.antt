-- What is said of the skeletons of documents.
use Rattle.std.specs.Prelude.{◌≡◌, ℕ, List, Option, Some}
use Rattle.markdown_base.specs.declared.configuration.Constructs.{Constructs}
use Rattle.markdown_base.specs.declared.event.Content.{Content}
use Rattle.markdown_base.specs.Events.{IsVoidTight}
use Rattle.markdown_base.specs.Virtual.{Seat, virtual}
use Rattle.markdown_edits.specs.Links.{IsChunk, content_at}
use Rattle.markdown_tokenizer.specs.Engine.{IsWellFormed}
use Rattle.markdown_tokenizer.specs.Text.{Given, IsDocument}
use Rattle.markdown_children.specs.NextContent.{HasTextInGaps}
use Rattle.markdown_children.specs.Ready.{IsReady}
use Rattle.mdblock_containers.specs.Blocks.{document_skeleton}
use Rattle.mdblock_containers.specs.Letters.{ArePlainFrom, lazy_underlines}
use Rattle.mdblock_containers.specs.Skeleton.{skeleton}

-- A lazy underline's first mark is no tab and no part of a line ending, so the letter in its place keeps all places
abbrev pub LazyLettersArePlain : Type 0
LazyLettersArePlain = (on : Constructs) (t : ℕ) (bytes : List ℕ) → ArePlainFrom 0 (lazy_underlines on (virtual t bytes)) bytes

-- Void spans of a skeleton are empty, whatever constructs are on
abbrev pub SkeletonsAreVoidTight : Type 0
SkeletonsAreVoidTight = (on : Constructs) (bytes : List ℕ) (seats : List Seat) → IsVoidTight (skeleton on bytes seats)

-- Each event of a skeleton that has a link is a chunk: it enters a void span, and its exit comes next
abbrev pub SkeletonsHaveChunks : Type 0
SkeletonsHaveChunks = (on : Constructs) (bytes : List ℕ) (seats : List Seat) (k : ℕ) (c : Content) → content_at (skeleton on bytes seats) k ≡ Some c
    → IsChunk (skeleton on bytes seats) k

-- The events of a document's skeleton are well formed: balanced, void spans empty, at places of the document, and in order of these
abbrev pub SkeletonsAreFormed : Type 0
SkeletonsAreFormed = (g : Given) → IsDocument g → IsWellFormed g (document_skeleton g)

-- The chains of a document's skeleton can be read, those of each content and all of them
abbrev pub SkeletonsAreReady : Type 0
SkeletonsAreReady = (g : Given) → IsDocument g → (wanted : Option Content) → IsReady g.tab g.bytes wanted (document_skeleton g)

-- and between two chunks that are linked there is text
abbrev pub SkeletonsHaveTextInGaps : Type 0
SkeletonsHaveTextInGaps = (g : Given) → IsDocument g → (wanted : Option Content) → HasTextInGaps wanted (document_skeleton g)
