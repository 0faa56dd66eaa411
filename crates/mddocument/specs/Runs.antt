-- Inner: what a run of a machine returns, for private functions. No public clause cites this file.
use Rattle.std.specs.Prelude.{◌≡◌, ◌⊎◌, ℕ, Bool, Contains, IfSome, List, Option, Some, false}
use Rattle.markdown_base.specs.declared.configuration.ParseOptions.{ParseOptions}
use Rattle.markdown_base.specs.declared.event.Content.{Content}
use Rattle.markdown_base.specs.declared.event.Content.TheVariants.{Content as ContentOfBlocks, String as StringContent, Text as TextContent}
use Rattle.markdown_base.specs.declared.event.Event.{Event}
use Rattle.markdown_base.specs.declared.message.Message.{Message}
use Rattle.markdown_base.specs.declared.state.Name.{Name}
use Rattle.markdown_tokenizer.specs.declared.subtokenize.Subresult.{Subresult}
use Rattle.markdown_tokenizer.specs.Engine.{IsRun, IsRunRefused}
use Rattle.markdown_children.specs.Chains.{content_at}
use Rattle.markdown_children.specs.Ready.{IsReady}
use Rattle.markdown_children.specs.Reads.{IsSubtokenized, IsSubtokenizeRefused, start_name}
use Rattle.markdown_tokenizer.specs.Rules.{Rules}
use Rattle.markdown_tokenizer.specs.Text.{Given}
use Rattle.mddocument.specs.Documents.{document}

-- each chunk of a list is of content
abbrev pub HasOnlyContent : List Event → Type 0
HasOnlyContent events = (k : ℕ) (c : Content) → content_at events k ≡ Some c → c ≡ ContentOfBlocks

-- each chunk of a list is of text, or of a string
abbrev pub HasOnlyTexts : List Event → Type 0
HasOnlyTexts events = (k : ℕ) (c : Content) → content_at events k ≡ Some c → (c ≡ TextContent) ⊎ (c ≡ StringContent)

-- a machine
module _ {R D : Type 0} (rules : Given → Rules R D) (options : ParseOptions) (bytes : List ℕ) where
  -- the machine may start with the state that a content is read with
  abbrev pub MayRead : Content → Type 0
  MayRead content = IfSome (start_name content) (λ start. Contains (rules (document options bytes)).starts start)

  -- events of a document, whose chains that pass a filter can be read, with the children of these in place of the chunks, all read by the machine
  abbrev pub HasChildren : Option Content → List Event → List Event → Type 0
  HasChildren wanted old new = IsReady options.tab_size bytes wanted old × ((sub : Subresult) × IsSubtokenized (document options bytes) rules wanted old new sub)

  -- the first of these children that does not end in Ok ends in a message
  abbrev pub HasRefusedChild : Option Content → List Event → Message → Type 0
  HasRefusedChild wanted old m = IsReady options.tab_size bytes wanted old × IsSubtokenizeRefused (document options bytes) rules wanted old m

-- a machine with a start
module _ {R D : Type 0} (rules : Given → Rules R D) (start : Name) (options : ParseOptions) (bytes : List ℕ) where
  -- a run of the machine over a document returns these events, with or without the edits that the machine adds
  abbrev pub Returns : (resolve : Bool) → List Event → Type 0
  Returns resolve events = (sub : Subresult) × IsRun (document options bytes) rules resolve start events sub

  -- a run without edits does
  abbrev pub Gives : List Event → Type 0
  Gives events = Returns false events

  -- a run returns events, and with the children of their chains of text they are these
  abbrev pub GivesDeep : List Event → Type 0
  GivesDeep events = (flat : List Event) × Gives flat × HasChildren rules options bytes (Some TextContent) flat events

  -- the run, or a child of its chains of text, ends in a message
  abbrev pub IsRefusedDeep : Message → Type 0
  IsRefusedDeep m = IsRunRefused (document options bytes) rules false start m ⊎ ((flat : List Event) × Gives flat × HasRefusedChild rules options bytes (Some TextContent) flat m)

  -- a run returns events whose chains of text cannot be read
  abbrev pub GivesUnready : Type 0
  GivesUnready = (flat : List Event) × Gives flat × ¬ IsReady options.tab_size bytes (Some TextContent) flat
