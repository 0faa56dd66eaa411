-- What the chains of a list are read as.
use Rattle.std.specs.Prelude.{◌≡◌, ℕ, ◌+◌, ◌-◌, ◌<◌, ◌≤◌, ◌↔◌, ◌⊎◌, Bool, true, List, [], ◌∷◌, ◌++◌, map, flat_map, Option, Some, None, option_and_then, IsSomeAnd, slice_get, Contains}
use Rattle.std.specs.List.{AllByRecursion, AllZip}
use Rattle.markdown_base.specs.declared.configuration.Constructs.{Constructs}
use Rattle.markdown_base.specs.declared.configuration.ParseOptions.{ParseOptions}
use Rattle.markdown_base.specs.declared.event.Content.{Content}
use Rattle.markdown_base.specs.declared.event.Content.TheVariants.{Flow, String, Text}
use Rattle.markdown_base.specs.declared.event.Content.TheVariants as content
use Rattle.markdown_base.specs.declared.event.Event.{Event}
use Rattle.markdown_base.specs.declared.event.Kind.TheVariants.{Enter, Exit}
use Rattle.markdown_base.specs.declared.event.Name.TheVariants.{BlankLineEnding, Definition, LineEnding, SpaceOrTab, Paragraph, ListItemPrefix}
use Rattle.markdown_base.specs.declared.message.Message.{Message}
use Rattle.markdown_base.specs.declared.state.Name.{Name}
use Rattle.markdown_base.specs.declared.state.TheConstants.Name.{ContentDefinitionBefore, StringStart, TextStart}
use Rattle.markdown_base.specs.declared.state.State.TheVariants.{Next, Ok, Error}
use Rattle.markdown_base.specs.Events.{IsVoidTight}
use Rattle.markdown_tokenizer.specs.declared.subtokenize.Subresult.{Subresult}
use Rattle.markdown_tokenizer.specs.declared.tokenizer.fault.Fault.{Fault}
use Rattle.markdown_tokenizer.specs.declared.tokenizer.fault.Fault.TheVariants.{Memory, Failed}
use Rattle.markdown_tokenizer.specs.declared.tokenizer.fault.Fault.TheVariants as fault
use Rattle.markdown_tokenizer.specs.AtPlaces.{AreAtPlaces}
use Rattle.markdown_tokenizer.specs.Text.{Given, Text as TextOf, Piece, pushed, passed, empty_text, followed_by_all, CanFollow}
use Rattle.markdown_tokenizer.specs.Configuration.{Configuration, start_configuration}
use Rattle.markdown_tokenizer.specs.Rules.{Rules}
use Rattle.markdown_tokenizer.specs.Reading.{Reading, EndsIn}
use Rattle.markdown_tokenizer.specs.Resolving.{IsResolved, IsResolvingRefused, IsInShape, LeavesEvents}
use Rattle.markdown_tokenizer.specs.Engine.{IsWellFormed, given_of}
use Rattle.markdown_tokenizer.specs.declared.parser.ParseState.{ParseState}
use Rattle.markdown_edits.specs.SpanWalks.{IsLongestRunTo}
use Rattle.markdown_edits.specs.Survivors.{StaysUnlessRemoved, KeepsLinks}
use Rattle.markdown_children.specs.Chains.{content_at, chain_of, begins, fitting_starts}
use Rattle.markdown_children.specs.Ready.{place_at}
use Rattle.markdown_children.specs.LawStatements.{NoneTorn}
use Rattle.markdown_children.specs.Children.{first_chunk, child_changes, with_children}

-- the event at an index is the first paragraph of a list item: task list items are on, and the paragraph is entered directly before; before
-- that, not counting blank lines, definitions and white space, is the prefix of a list item
pub record IsAtFirstParagraph (events : List Event) (index : ℕ) (constructs : Constructs) : Type 0 where
  pub on : constructs.gfm_task_list_item ≡ true
  pub above : 2 < index
  pub paragraph : IsSomeAnd (slice_get events (index - 1)) (λ e. (e.kind ≡ Enter) × (e.name ≡ Paragraph))
  pub start : ℕ
  pub run : IsLongestRunTo (BlankLineEnding ∷ Definition ∷ LineEnding ∷ SpaceOrTab ∷ []) events (index - 2) start
  pub item : IsSomeAnd (slice_get events (start - 1)) (λ e. (e.kind ≡ Exit) × (e.name ≡ ListItemPrefix))

-- the state with which content is read; Flow is not read here
abbrev pub start_name : Content → Option Name
start_name Flow = None
start_name content.Content = Some ContentDefinitionBefore
start_name String = Some StringStart
start_name Text = Some TextStart

abbrev pub start_at : List Event → ℕ → Option Name
start_at events i = option_and_then start_name (content_at events i)

-- each chunk's range is pushed, after the gap before it is passed
abbrev pub pieces_behind : List Event → List ℕ → List Piece
pieces_behind events [] = []
pieces_behind events (k ∷ ks) = passed (place_at events k) ∷ pushed (place_at events k) (place_at events (k + 1)) ∷ pieces_behind events ks

abbrev pub pieces_of : List Event → List ℕ → List Piece
pieces_of events [] = []
pieces_of events (k ∷ ks) = pushed (place_at events k) (place_at events (k + 1)) ∷ pieces_behind events ks

-- the text of a chain
abbrev pub text_of_chain : Given → List Event → List ℕ → TextOf
text_of_chain g events ks = followed_by_all g (empty_text (place_at events (first_chunk ks))) (pieces_of events ks)

-- the text of the chain that begins at an index
abbrev pub text_from : Given → List Event → ℕ → TextOf
text_from g events c = text_of_chain g events (chain_of events c)

-- the pieces of the chain that begins at an index can be read one after another
abbrev pub CanReadChain : Given → List Event → ℕ → Type 0
CanReadChain g events c = CanFollow g (empty_text (place_at events c)) (pieces_of events (chain_of events c))

-- the pieces of each chain that fits can be read, whatever the other options
abbrev pub CanReadChains : (tab : ℕ) → List ℕ → Option Content → List Event → Type 0
CanReadChains tab bytes wanted events =
    (options : ParseOptions) (c : ℕ) → begins wanted events c ≡ true
    → CanReadChain (record { bytes = bytes; options = options; tab = tab }) events c

-- The result of reading a chain
pub record Child : Type 0 where
  pub events : List Event
  pub found : Subresult

-- the events of each child
abbrev pub lists : List Child → List (List Event)
lists children = map (λ (c : Child). c.events) children

module _ {R D : Type 0} (g : Given) (rules : Given → Rules R D) where
  -- The chain that begins at c is read, from the start of its content, to this end, with no more calls than its cost
  pub record IsRead (events : List Event) (c : ℕ) (r : Reading R D) : Type 0 where
    pub flag : Bool
    pub flagged : (flag ≡ true) ↔ IsAtFirstParagraph events c g.options.constructs
    pub start : Name
    pub starts : start_at events c ≡ Some start
    pub ends : EndsIn g (rules g).step (text_from g events c) 0 (start_configuration flag) [] (Next start) r
    pub within : r.calls ≤ (rules g).cost (text_from g events c) (start_configuration flag) [] (Next start)

  -- The child of the chain that begins at c: what resolvers make of its reading. The events are well formed before resolvers, and in shape
  -- (`IsInShape`) and as the machine promises (`ends`) after them; they still stand at places if resolving changes none
  pub record IsChild (events : List Event) (c : ℕ) (child : Child) : Type 0 where
    pub result : Reading R D
    pub read : IsRead events c result
    pub well : result.answer ≡ Ok
    pub final : Configuration R D
    pub resolved : IsResolved (rules g).resolver g (text_from g events c) true result.configuration final child.found
    pub child_events : child.events ≡ final.events
    pub well_formed : IsWellFormed g result.configuration.events
    pub at_places : LeavesEvents true result.configuration → AreAtPlaces g.tab g.bytes child.events
    pub in_shape : IsInShape child.events
    pub promised : (rules g).ends (text_from g events c) child.events

  -- The reading of the chain that begins at c, or a resolver after it, ends in this message
  pub record IsChildRefused (events : List Event) (c : ℕ) (m : Message) : Type 0 where
    pub result : Reading R D
    pub read : IsRead events c result
    pub message : (result.answer ≡ Error m)
        ⊎ ((result.answer ≡ Ok) × IsResolvingRefused (rules g).resolver g (text_from g events c) true result.configuration m)

  -- why the chain that begins at c has no child: it ran out of memory, or the chain was refused with a message
  abbrev pub IsChildFault : List Event → ℕ → Fault → Type 0
  IsChildFault events c Memory = Unit {0}
  IsChildFault events c Failed = ⊥
  IsChildFault events c (fault.Message m) = IsChildRefused events c m

  -- The children of chains, in their order
  abbrev pub AreChildren : List Event → List ℕ → List Child → Type 0
  AreChildren events cs children = AllZip (IsChild events) cs children

  -- What `subtokenize` leaves: the list with the children of all chains that fit. It is balanced, and its links are in shape. Its void
  -- spans are empty if they are in the old list and in the children, and no chunks tear one. Its events stand at places if those of the
  -- old list and of the children do
  pub record IsSubtokenized (wanted : Option Content) (old new : List Event) (sub : Subresult) : Type 0 where
    pub children : List Child
    pub read : AreChildren old (fitting_starts wanted old) children
    pub events : new ≡ with_children wanted old (lists children)
    pub in_shape : IsInShape new
    pub tight : IsVoidTight old → AllByRecursion IsVoidTight (lists children) → NoneTorn wanted old (lists children) → IsVoidTight new
    pub at_places : AreAtPlaces g.tab g.bytes old → AllByRecursion (AreAtPlaces g.tab g.bytes) (lists children) → AreAtPlaces g.tab g.bytes new
    pub stays : StaysUnlessRemoved (child_changes wanted old (lists children)) old
    pub links : KeepsLinks (child_changes wanted old (lists children)) old
    pub done : (sub.done ≡ true) ↔ (fitting_starts wanted old ≡ [])
    pub definitions : sub.definitions ≡ flat_map (λ (c : Child). c.found.definitions) children
    pub footnotes : sub.gfm_footnote_definitions ≡ flat_map (λ (c : Child). c.found.gfm_footnote_definitions) children

  -- `subtokenize` returns a message: the first chain whose reading, or a resolver after it, ends in one has this message
  pub record IsSubtokenizeRefused (wanted : Option Content) (events : List Event) (m : Message) : Type 0 where
    pub front : List ℕ
    pub chain : ℕ
    pub behind : List ℕ
    pub starts : fitting_starts wanted events ≡ front ++ chain ∷ behind
    pub children : List Child
    pub read : AreChildren events front children
    pub refused : IsChildRefused events chain m

  -- why `subtokenize` fails: it ran out of memory, or a chain was refused with a message
  abbrev pub IsSubtokenizeFault : Option Content → List Event → Fault → Type 0
  IsSubtokenizeFault wanted events Memory = Unit {0}
  IsSubtokenizeFault wanted events Failed = ⊥
  IsSubtokenizeFault wanted events (fault.Message m) = IsSubtokenizeRefused wanted events m

  -- A list gets its children in one way: there is one new list with one result, or one message, and not both
  pub record HasOneAnswer (wanted : Option Content) (events : List Event) : Type 0 where
    pub list : (new other : List Event) (sub more : Subresult) → IsSubtokenized wanted events new sub
        → IsSubtokenized wanted events other more → (new ≡ other) × (sub ≡ more)
    pub well : (new : List Event) (sub : Subresult) (m : Message) → IsSubtokenized wanted events new sub
        → IsSubtokenizeRefused wanted events m → ⊥
    pub message : (m n : Message) → IsSubtokenizeRefused wanted events m → IsSubtokenizeRefused wanted events n → m ≡ n

-- the start names of the chains that fit are among these
abbrev pub StartAmong : List Name → Option Content → List Event → Type 0
StartAmong starts wanted events = (c : ℕ) (name : Name) → begins wanted events c ≡ true → start_at events c ≡ Some name
    → Contains starts name

-- The machine of a parse state reads its document; `rules` are the rules of its type of machines
module _ {M R D : Type 0} (rules : M → Given → Rules R D) (p : ParseState M) where
  -- the machine may start with the start names of the chains that fit
  abbrev pub MayStart : Option Content → List Event → Type 0
  MayStart wanted events = StartAmong (rules p.machine.now (given_of p)).starts wanted events

  -- these events, with what was found, are the child of the chain that begins at an index
  abbrev pub GivesChild : List Event → ℕ → List Event → Subresult → Type 0
  GivesChild events c child found = IsChild (given_of p) (rules p.machine.now) events c (record { events = child; found = found })

  -- why that chain has no child
  abbrev pub GivesNoChild : List Event → ℕ → Fault → Type 0
  GivesNoChild = IsChildFault (given_of p) (rules p.machine.now)

  -- one list is another one with its children
  abbrev pub GivesChildren : Option Content → (old new : List Event) → Subresult → Type 0
  GivesChildren = IsSubtokenized (given_of p) (rules p.machine.now)

  -- why a list is not given its children
  abbrev pub GivesNoChildren : Option Content → List Event → Fault → Type 0
  GivesNoChildren = IsSubtokenizeFault (given_of p) (rules p.machine.now)
