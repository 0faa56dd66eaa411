-- What `push`, `flush` and `run` promise. What comes: the outcome that a push keeps for each text that may follow (`KeepsOutcome`); events
-- that are well formed (`IsWellFormed`); what a push, a flush and a run leave (`IsPushed`, `IsFlushed`, `IsRun`), and their messages.
use Rattle.std.specs.Prelude.{◌≡◌, ◌+◌, ◌≤◌, ◌⊎◌, ℕ, List, [], ◌∷◌, Some, Bool, true, false, cond, length, ◌↔◌, None}
use Rattle.markdown_base.specs.declared.configuration.ParseOptions.{ParseOptions}
use Rattle.markdown_base.specs.declared.event.Event.{Event}
use Rattle.markdown_base.specs.declared.event.Point.{Point}
use Rattle.markdown_base.specs.declared.message.Message.{Message}
use Rattle.markdown_base.specs.declared.state.Name.{Name}
use Rattle.markdown_base.specs.declared.state.State.{State}
use Rattle.markdown_base.specs.declared.state.State.TheVariants.{Next, Error, Ok}
use Rattle.markdown_base.specs.Virtual.{point, virtual, document_end}
use Rattle.markdown_base.specs.Places.{is_upto, point_at}
use Rattle.markdown_base.specs.Events.{IsBalanced, IsVoidTight, IsInOrder}
use Rattle.markdown_tokenizer.specs.declared.subtokenize.Subresult.{Subresult}
use Rattle.markdown_tokenizer.specs.declared.waiting.Waits.TheVariants.{Nothing}
use Rattle.markdown_tokenizer.specs.declared.waiting.Phase.TheVariants as phase
use Rattle.markdown_tokenizer.specs.declared.parser.ParseState.{ParseState}
use Rattle.markdown_tokenizer.specs.AtPlaces.{AreAtPlaces}
use Rattle.markdown_tokenizer.specs.Text.{Given, Text, Piece, IsText, pushed, FitsAfter, CanFollow, followed_by, followed_by_all}
use Rattle.markdown_tokenizer.specs.Configuration.{Configuration, Choice, TokenizerValue, start_configuration}
use Rattle.markdown_tokenizer.specs.Rules.{Rules}
use Rattle.markdown_tokenizer.specs.Reading.{Reading, EndsIn}
use Rattle.markdown_tokenizer.specs.Turns.{turn, Turns, stand_of}
use Rattle.markdown_tokenizer.specs.Resolving.{IsResolved, IsResolvingRefused, IsInShape, LeavesEvents}

module _ {M R D : Type 0} (rules : Rules R D) where
  -- the calls made, and the calls that a state and the waiting choices may still take on a text
  abbrev pub budget : Text → TokenizerValue M R D → State → ℕ
  budget text t state = t.calls + rules.cost text t.configuration t.choices state

  -- the invariant holds for a tokenizer and its current state
  abbrev pub HoldsOf : TokenizerValue M R D → State → Type 0
  HoldsOf t state = rules.holds t.text t.configuration t.choices state

module _ {M R D : Type 0} (g : Given) (rules : Rules R D) where
  -- reading the text on from this tokenizer and state ends in r; the calls of r are the calls made and the calls to come
  abbrev pub ReadsTo : Text → TokenizerValue M R D → State → Reading R D → Type 0
  ReadsTo text t state r = EndsIn g rules.step text t.calls t.configuration t.choices state r

  -- On a text, the new tokenizer with its state comes to the same end as the old one with its own, with as many calls in all; the invariant
  -- holds, and the calls made and still allowed are no more than before
  pub record LeadsOn (text : Text) (old : TokenizerValue M R D) (state : State) (new : TokenizerValue M R D) (answer : State) : Type 0 where
    pub kept : rules.holds text new.configuration new.choices answer
    pub same : (r : Reading R D) → ReadsTo text new answer r ↔ ReadsTo text old state r
    pub paid : budget rules text new answer ≤ budget rules text old state

  -- For every rest that can follow the new text: reading on from the new tokenizer and the state returned ends as reading on from the old
  -- one and its state
  abbrev pub KeepsOutcome : TokenizerValue M R D → State → TokenizerValue M R D → State → Type 0
  KeepsOutcome old state new answer =
      (rest : List Piece) → CanFollow g new.text rest → LeadsOn (followed_by_all g new.text rest) old state new answer

-- The events are balanced, each void span is empty, and each event stands at a place of the document; these are in order
pub record IsWellFormed (g : Given) (events : List Event) : Type 0 where
  pub balanced : IsBalanced events
  pub void_tight : IsVoidTight events
  pub at_places : AreAtPlaces g.tab g.bytes events
  pub in_order : IsInOrder g.bytes events

-- what each machine without resolvers can promise of its final events: they are well formed
abbrev pub EndsWellFormed : Given → Text → List Event → Type 0
EndsWellFormed g text events = IsWellFormed g events

-- a range of the document, given by the places of its ends, each an index and a number in a tab, can be put at the end of a text
abbrev pub CanPush : Given → Text → (from to : ℕ × ℕ) → Type 0
CanPush g text from to = (f : Point) × (t : Point)
    × (point_at g.tab g.bytes from ≡ Some f) × (point_at g.tab g.bytes to ≡ Some t) × FitsAfter g text (pushed f t)

-- the property holds for the points of two places
abbrev pub ForPoints : Given → (from to : ℕ × ℕ) → (Point → Point → Type 0) → Type 0
ForPoints g from to P = (f t : Point) → point_at g.tab g.bytes from ≡ Some f → point_at g.tab g.bytes to ≡ Some t → P f t

module _ {M R D : Type 0} (rules : Rules R D) where
  -- What a push of a range leaves if it succeeds: the range, given by the places of its ends, is at the end of the text; the outcome is the
  -- same for every rest; turn by turn the reading came to where it stands, and no turn is left; and all was read, or a message ended it.
  -- The events that are there stand at places
  pub record IsPushed (old : TokenizerValue M R D) (from to : ℕ × ℕ) (state : State)
      (new : TokenizerValue M R D) (answer : State) : Type 0 where
    pub given : new.given ≡ old.given
    pub machine : new.machine ≡ old.machine
    pub open_still : new.closed ≡ false
    pub phase : new.phase ≡ phase.Reading
    pub text : ForPoints old.given from to (λ f t. new.text ≡ followed_by old.given old.text (pushed f t))
    pub outcome : KeepsOutcome old.given rules old state new answer
    -- what is left is where turns end, so it is determined by what was found
    pub stands : Turns old.given rules.step new.text (stand_of old state) (stand_of new answer)
    pub used_up : turn old.given rules.step new.text new.configuration new.choices answer new.calls ≡ None
    pub read : (name : Name) → answer ≡ Next name → (new.configuration.position ≡ length new.text.seats)
        × (new.configuration.waiting ≡ Nothing)
    pub answers : ((name : Name) × (answer ≡ Next name)) ⊎ ((m : Message) × (answer ≡ Error m))
    pub counted : old.calls ≤ new.calls
    pub at_places : AreAtPlaces new.given.tab new.given.bytes new.configuration.events
    -- a message is returned again, and nothing is read
    pub message : (m : Message) → state ≡ Error m → (answer ≡ Error m) × (new ≡ record old { text = new.text })

  -- What a flush leaves and returns if it succeeds: what resolving makes of the configuration in which the reading ends. Without resolving
  -- that is the configuration without the definitions, which are returned. The events are well formed before resolvers, and in shape
  -- (`IsInShape`) and as the machine promises (`ends`) after them; they still stand at places if resolving changes none.
  pub record IsFlushed (resolve : Bool) (old : TokenizerValue M R D) (state : State)
      (new : TokenizerValue M R D) (sub : Subresult) : Type 0 where
    pub given : new.given ≡ old.given
    pub machine : new.machine ≡ old.machine
    pub text : new.text ≡ old.text
    pub result : Reading R D
    pub ends : ReadsTo old.given rules old.text old state result
    pub well : result.answer ≡ Ok
    pub calls : new.calls ≡ result.calls
    pub within : new.calls ≤ budget rules old.text old state
    pub resolved : IsResolved rules.resolver old.given old.text resolve result.configuration new.configuration sub
    pub phase : new.phase ≡ cond resolve phase.Resolved phase.Reading
    pub settled : new.choices ≡ []
    pub before : IsWellFormed old.given result.configuration.events
    pub well_formed : resolve ≡ false → IsWellFormed old.given new.configuration.events
    pub at_places : LeavesEvents resolve result.configuration → AreAtPlaces old.given.tab old.given.bytes new.configuration.events
    pub in_shape : resolve ≡ true → IsInShape new.configuration.events
    pub promised : resolve ≡ true → rules.ends old.text new.configuration.events

  -- A flush returns this message: the reading ends in it, or a resolver after the reading, and then it has resolved
  pub record IsRefused (resolve : Bool) (old : TokenizerValue M R D) (state : State) (new : TokenizerValue M R D)
      (m : Message) : Type 0 where
    pub given : new.given ≡ old.given
    pub machine : new.machine ≡ old.machine
    pub text : new.text ≡ old.text
    pub result : Reading R D
    pub ends : ReadsTo old.given rules old.text old state result
    pub message : (result.answer ≡ Error m)
        ⊎ ((result.answer ≡ Ok) × IsResolvingRefused rules.resolver old.given old.text resolve result.configuration m)
    pub calls : new.calls ≡ result.calls
    pub within : new.calls ≤ budget rules old.text old state
    pub phase : new.phase ≡ elim result.answer [ Ok ↦ phase.Resolved | _ ↦ phase.Reading ]

module _ {R D : Type 0} (g : Given) (rules : Rules R D) where
  -- On every text at which the invariant holds, a reading comes to one end, with no more calls than its cost
  abbrev pub HasOneEnd : Type 0
  HasOneEnd = (text : Text) (calls : ℕ) (k : Configuration R D) (choices : List Choice) (state : State)
      → IsText g text → rules.holds text k choices state
      → (r : Reading R D) × EndsIn g rules.step text calls k choices state r
      × ((q : Reading R D) → EndsIn g rules.step text calls k choices state q → q ≡ r)
      × (r.calls ≤ calls + rules.cost text k choices state)

-- what a machine may read of a document; the options give the tab size
abbrev pub given_by : List ℕ → ParseOptions → Given
given_by bytes options = record { bytes = bytes; options = options; tab = options.tab_size }

-- the same for a parse state
abbrev pub given_of : {M : Type 0} → ParseState M → Given
given_of p = given_by p.bytes.now p.options.now

-- the whole virtual text of the document
abbrev pub whole_text : Given → Text
whole_text g = record { start = point 1 1 0 0; seats = virtual g.tab g.bytes; end = document_end g.tab g.bytes }

-- places of the document, given by index and number in a tab; none is before the one in front of it, and the first is not before this place
abbrev pub FollowInOrder : (t : ℕ) → List ℕ → Point → List (ℕ × ℕ) → Type 0
FollowInOrder t bytes p [] = Unit {0}
FollowInOrder t bytes p (place ∷ places) =
    (q : Point) × (point_at t bytes place ≡ Some q) × (is_upto t bytes p q ≡ true) × FollowInOrder t bytes q places

-- places at which a document can be cut, in order
abbrev pub AreCuts : (t : ℕ) → List ℕ → List (ℕ × ℕ) → Type 0
AreCuts t bytes cuts = FollowInOrder t bytes (point 1 1 0 0) cuts

module _ {R D : Type 0} (g : Given) (rules : Given → Rules R D) where
  -- reading the whole text from the start, with a start name, ends in this
  abbrev pub StartEndsIn : Name → Reading R D → Type 0
  StartEndsIn start r = EndsIn g (rules g).step (whole_text g) 0 (start_configuration false) [] (Next start) r

  -- What a run returns: the events and definitions of the one reading of the whole text, within its cost of calls, and then of its
  -- resolvers. After these the events are in shape, and as the machine promises. They stand at places if resolving changes none
  pub record IsRun (resolve : Bool) (start : Name) (list : List Event) (sub : Subresult) : Type 0 where
    pub result : Reading R D
    pub ends : StartEndsIn start result
    pub well : result.answer ≡ Ok
    pub final : Configuration R D
    pub resolved : IsResolved (rules g).resolver g (whole_text g) resolve result.configuration final sub
    pub events : list ≡ final.events
    pub well_formed : IsWellFormed g result.configuration.events
    pub at_places : LeavesEvents resolve result.configuration → AreAtPlaces g.tab g.bytes list
    pub in_shape : resolve ≡ true → IsInShape list
    pub promised : resolve ≡ true → (rules g).ends (whole_text g) list
    pub within : result.calls ≤ (rules g).cost (whole_text g) (start_configuration false) [] (Next start)

  -- the events of a tokenizer are what a run returns
  abbrev pub IsRunOf : {M : Type 0} → Bool → Name → TokenizerValue M R D → Subresult → Type 0
  IsRunOf resolve start t sub = IsRun resolve start t.configuration.events sub

  -- A run returns this message: the reading of the whole text ends in it, within its cost, or a resolver after the reading
  pub record IsRunRefused (resolve : Bool) (start : Name) (m : Message) : Type 0 where
    pub result : Reading R D
    pub ends : StartEndsIn start result
    pub message : (result.answer ≡ Error m)
        ⊎ ((result.answer ≡ Ok) × IsResolvingRefused (rules g).resolver g (whole_text g) resolve result.configuration m)
    pub within : result.calls ≤ (rules g).cost (whole_text g) (start_configuration false) [] (Next start)
