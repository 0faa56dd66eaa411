-- What is said of the skeletons of documents with link reference definitions.
use Rattle.std.specs.Prelude.{◌≡◌, ℕ, List, Option, Some}
use Rattle.markdown_base.specs.declared.configuration.Constructs.{Constructs}
use Rattle.markdown_base.specs.declared.event.Content.{Content}
use Rattle.markdown_base.specs.declared.event.Content.TheVariants as content
use Rattle.markdown_base.specs.Events.{IsVoidTight}
use Rattle.markdown_base.specs.Virtual.{virtual}
use Rattle.markdown_edits.specs.Links.{IsChunk, content_at}
use Rattle.markdown_tokenizer.specs.Engine.{IsWellFormed}
use Rattle.markdown_tokenizer.specs.Text.{Given, IsDocument}
use Rattle.markdown_children.specs.NextContent.{HasTextInGaps}
use Rattle.markdown_children.specs.Ready.{IsReady}
use Rattle.mdconstructs_machines.specs.Innermost.{AccountFor}
use Rattle.mdblock_containers.specs.Letters.{ArePlainFrom}
use Rattle.mdblock_definitions.specs.Blocks.{document_skeleton}
use Rattle.mdblock_definitions.specs.Skeleton.{letters, skeleton}

-- Each byte in whose place a letter is shown is no tab and no part of a line ending, so letters keep all places
abbrev pub LettersArePlain : Type 0
LettersArePlain = (on : Constructs) (t : ℕ) (bytes : List ℕ) → ArePlainFrom 0 (letters on (virtual t bytes)) bytes

-- Void spans of a document's skeleton are empty, whatever constructs are on
abbrev pub SkeletonsAreVoidTight : Type 0
SkeletonsAreVoidTight = (on : Constructs) (t : ℕ) (bytes : List ℕ) → IsVoidTight (skeleton on bytes (virtual t bytes))

-- Each event of a skeleton that has a link is a chunk: it enters a void span, and its exit comes next
abbrev pub SkeletonsHaveChunks : Type 0
SkeletonsHaveChunks = (on : Constructs) (t : ℕ) (bytes : List ℕ) (k : ℕ) (c : Content) → content_at (skeleton on bytes (virtual t bytes)) k ≡ Some c → IsChunk (skeleton on bytes (virtual t bytes)) k

-- The events of a document's skeleton are well formed: balanced, void spans empty, at places of the document, and in order of these
abbrev pub SkeletonsAreFormed : Type 0
SkeletonsAreFormed = (g : Given) → IsDocument g → IsWellFormed g (document_skeleton g)

-- Each chunk of it is of leaf blocks: strings of definitions have none
abbrev pub SkeletonsHaveOneContent : Type 0
SkeletonsHaveOneContent = (g : Given) → IsDocument g → (k : ℕ) (c : Content) → content_at (document_skeleton g) k ≡ Some c → c ≡ content.Content

-- Its chains can be read, those of each content and all of them
abbrev pub SkeletonsAreReady : Type 0
SkeletonsAreReady = (g : Given) → IsDocument g → (wanted : Option Content) → IsReady g.tab g.bytes wanted (document_skeleton g)

-- and between two chunks that are linked there is text
abbrev pub SkeletonsHaveTextInGaps : Type 0
SkeletonsHaveTextInGaps = (g : Given) → IsDocument g → (wanted : Option Content) → HasTextInGaps wanted (document_skeleton g)

-- Each virtual byte of a document is in exactly one innermost span of its skeleton: of a prefix, of a blank line, of a definition, or a chunk
abbrev pub SkeletonsAccount : Type 0
SkeletonsAccount = (g : Given) → IsDocument g → AccountFor (document_skeleton g) g.bytes (virtual g.tab g.bytes)
