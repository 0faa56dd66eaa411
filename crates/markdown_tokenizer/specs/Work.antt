-- How the work of a tokenizer goes on, turn by turn. An inner file: only private functions cite it.
use Rattle.std.specs.Prelude.{◌≡◌, ◌≤◌, ◌<◌, List, [], ◌∷◌, Bool, true, false, Option, Some, None, IsSome, length, Result}
use Rattle.std.specs.declared.result.Result.TheVariants as result
use Rattle.markdown_base.specs.declared.state.Name.{Name}
use Rattle.markdown_base.specs.declared.state.State.{State}
use Rattle.markdown_base.specs.declared.state.State.TheVariants.{Next, Retry, Ok, Nok, Error}
use Rattle.markdown_tokenizer.specs.declared.waiting.Waits.TheVariants.{Byte, End}
use Rattle.markdown_tokenizer.specs.declared.waiting.Phase.TheVariants.{Reading}
use Rattle.markdown_tokenizer.specs.AtPlaces.{AreAtPlaces}
use Rattle.markdown_tokenizer.specs.Text.{Given, Text, IsText, Piece, CanFollow, followed_by_all}
use Rattle.markdown_tokenizer.specs.Configuration.{Configuration, Choice, Step, TokenizerValue, at_configuration}
use Rattle.markdown_tokenizer.specs.Reading.{fed, settled_at}
use Rattle.markdown_tokenizer.specs.Turns.{Turns, stand_of}
use Rattle.markdown_tokenizer.specs.Rules.{Rules}
use Rattle.markdown_tokenizer.specs.Engine.{LeadsOn}
use Rattle.markdown_tokenizer.specs.declared.subtokenize.Subresult.{Subresult}
use Rattle.markdown_tokenizer.specs.Resolving.{Resolved, done, refused, resolved_by, with_more, IsInShape}
use Rattle.markdown_tokenizer.specs.Calls.{with_resolvers}
use Rattle.markdown_tokenizer.specs.Lawful.{resolver_of}
use Rattle.markdown_base.specs.declared.message.Message.{Message}

-- the text is another one
abbrev pub extended : {M R D : Type 0} → TokenizerValue M R D → Text → TokenizerValue M R D
extended t text = record t { text = text }

abbrev pub answer_of : Bool → State
answer_of true = Ok
answer_of false = Nok

abbrev pub answer_in : State → Option Bool
answer_in Ok = Some true
answer_in Nok = Some false
answer_in _ = None

-- no more is read than the text, the end is fed only to a closed tokenizer, and an open one reads; while one reads, its events stand at
-- places
pub record IsInText {M R D : Type 0} (t : TokenizerValue M R D) : Type 0 where
  pub text : IsText t.given t.text
  pub within : t.configuration.position ≤ length t.text.seats
  pub byte : t.configuration.waiting ≡ Byte → t.configuration.position < length t.text.seats
  pub end : t.configuration.waiting ≡ End → t.closed ≡ true
  pub ended : t.configuration.ended ≡ true → t.closed ≡ true
  pub reads : t.closed ≡ false → t.phase ≡ Reading
  pub at_places : t.phase ≡ Reading → AreAtPlaces t.given.tab t.given.bytes t.configuration.events

-- only the configuration, the choices and the count differ, and the count is no less
pub record OnlyWorked {M R D : Type 0} (old new : TokenizerValue M R D) : Type 0 where
  pub given : new.given ≡ old.given
  pub machine : new.machine ≡ old.machine
  pub text : new.text ≡ old.text
  pub closed : new.closed ≡ old.closed
  pub phase : new.phase ≡ old.phase
  pub counted : old.calls ≤ new.calls

-- the work ends: at the text's end, or at Ok, Nok or Error with no choice waiting
abbrev pub Stops : {M R D : Type 0} → Bool → TokenizerValue M R D → State → Type 0
Stops flush t (Next name) = (flush ≡ false) × (length t.text.seats ≤ t.configuration.position)
Stops flush t (Retry name) = ⊥
Stops flush t Ok = t.choices ≡ []
Stops flush t Nok = t.choices ≡ []
Stops flush t (Error message) = Unit {0}

-- what is fed to which state, or the work ends
abbrev pub TakesUp : {M R D : Type 0} → Bool → TokenizerValue M R D → TokenizerValue M R D → State → Result Name State → Type 0
TakesUp flush old new (Next name) (result.Ok n) = (n ≡ name) × (new ≡ at_configuration old (fed old.text old.configuration))
    × (flush ≡ false → old.configuration.position < length old.text.seats)
TakesUp flush old new (Retry name) (result.Ok n) = (n ≡ name) × (new ≡ old)
TakesUp flush old new Ok (result.Ok n) = ⊥
TakesUp flush old new Nok (result.Ok n) = ⊥
TakesUp flush old new (Error message) (result.Ok n) = ⊥
TakesUp flush old new (Next name) (result.Err answer) = (new ≡ old) × (answer ≡ Next name) × (flush ≡ false)
    × (length old.text.seats ≤ old.configuration.position)
TakesUp flush old new (Retry name) (result.Err answer) = ⊥
TakesUp flush old new Ok (result.Err answer) = (new ≡ old) × (answer ≡ Ok)
TakesUp flush old new Nok (result.Err answer) = (new ≡ old) × (answer ≡ Nok)
TakesUp flush old new (Error message) (result.Err answer) = (new ≡ old) × (answer ≡ Error message)

-- choices end, the last first, until one goes on with a state, or none is left: the configuration, the choices left, and the state to go on
-- with
abbrev pub settled_all : {R D : Type 0} → Configuration R D → List Choice → State → Step R D
settled_all k cs (Next name) = record { configuration = k; choices = cs; answer = Next name }
settled_all k cs (Retry name) = record { configuration = k; choices = cs; answer = Retry name }
settled_all k cs (Error message) = record { configuration = k; choices = cs; answer = Error message }
settled_all k [] Ok = record { configuration = k; choices = []; answer = Ok }
settled_all k [] Nok = record { configuration = k; choices = []; answer = Nok }
settled_all k (c ∷ cs) Ok = settled_all (settled_at c.kind c.saved Ok k) cs c.ok
settled_all k (c ∷ cs) Nok = settled_all (settled_at c.kind c.saved Nok k) cs c.nok

-- the tokenizer after choices ended
abbrev pub settled_to : {M R D : Type 0} → TokenizerValue M R D → Step R D → TokenizerValue M R D
settled_to t s = record t { configuration = s.configuration; choices = s.choices }

-- if a call returned Ok or Nok, choices end; then the state to go on with is fed, or the work ends
abbrev pub GoesOnTo : {M R D : Type 0} → Bool → TokenizerValue M R D → State → TokenizerValue M R D → Result Name State → Type 0
GoesOnTo flush old state new taken =
    let s = settled_all old.configuration old.choices state in TakesUp flush (settled_to old s) new s.answer taken

-- if the reading ends, no span is open
abbrev pub EndsClosed : {R D : Type 0} → Step R D → Type 0
EndsClosed s = IsSome (answer_in s.answer) → s.configuration.stack ≡ []

-- a name to go on with, or the state in which the work ends
abbrev pub taken_up : Option Name → State → Result Name State
taken_up (Some name) answer = result.Ok name
taken_up None answer = result.Err answer

-- the same for Next: its name if something was fed, else Next itself
abbrev pub taken_by_next : Bool → Name → Result Name State
taken_by_next true name = result.Ok name
taken_by_next false name = result.Err (Next name)

-- the invariant holds on every text that continues the tokenizer's; if the end is fed, on the tokenizer's text
abbrev pub HoldsAll : {M R D : Type 0} → Rules R D → Bool → TokenizerValue M R D → State → Type 0
HoldsAll rules flush t state = (rest : List Piece) → CanFollow t.given t.text rest → (flush ≡ true → rest ≡ [])
    → rules.holds (followed_by_all t.given t.text rest) t.configuration t.choices state

module _ {M R D : Type 0} (g : Given) (rules : Rules R D) where
  -- the old tokenizer leads on to the new one on every text that continues its text; if the end is fed, on its text
  abbrev pub LeadsAll : Bool → TokenizerValue M R D → State → TokenizerValue M R D → State → Type 0
  LeadsAll flush old state new answer = (rest : List Piece) → CanFollow g new.text rest → (flush ≡ true → rest ≡ [])
      → LeadsOn g rules (followed_by_all g new.text rest) old state new answer

  -- if the end is not fed, turns lead from the old tokenizer to the new one
  abbrev pub ComesTo : Bool → TokenizerValue M R D → State → TokenizerValue M R D → State → Type 0
  ComesTo flush old state new answer = flush ≡ false → Turns g rules.step new.text (stand_of old state) (stand_of new answer)

module _ {M R D : Type 0} (rules : Rules R D) where
  -- what resolvers make of a configuration, on the text of a tokenizer
  abbrev pub resolved_in : TokenizerValue M R D → List R → Configuration R D → Subresult → Resolved R D
  resolved_in t rs k sub = resolved_by rules.resolver t.given t.text rs k sub

  -- resolvers have run over the events, and the edits were made; what is left is in shape, and as the machine promises
  pub record GoneOver (old : TokenizerValue M R D) (rs : List R) (k : Configuration R D) (sub : Subresult)
      (new : TokenizerValue M R D) (all : Subresult) : Type 0 where
    pub is : resolved_in old rs k sub ≡ done new.configuration (Some all)
    pub in_shape : IsInShape new.configuration.events
    pub promised : rules.ends old.text new.configuration.events

-- the configuration over which the registered resolvers run: they are taken out
abbrev pub registered_out : {M R D : Type 0} → TokenizerValue M R D → Configuration R D
registered_out t = with_resolvers t.configuration []

module _ {M R D : Type 0} (rules : M → Given → Rules R D) (t : TokenizerValue M R D) where
  -- one resolver has run over the events of a tokenizer; the definitions that it found come after the earlier ones
  abbrev pub HasResolved : R → Subresult → TokenizerValue M R D → Subresult → Type 0
  HasResolved r sub new all =
      (more : Option Subresult) × (resolver_of (rules t.machine) t r ≡ done new.configuration more) × (all ≡ with_more sub more)

  -- the invariant of resolvers holds before these run over the events of a configuration
  abbrev pub CanGoOver : List R → Configuration R D → Type 0
  CanGoOver rs k = (rules t.machine t.given).resolves t.text rs k

  -- these resolvers have run over the events of a configuration, and the edits were made
  abbrev pub HasGoneOver : List R → Configuration R D → Subresult → TokenizerValue M R D → Subresult → Type 0
  HasGoneOver = GoneOver (rules t.machine t.given) t

  -- one of these resolvers refuses the document with a message
  abbrev pub RefusesOver : List R → Configuration R D → Subresult → Message → Type 0
  RefusesOver rs k sub m = resolved_in (rules t.machine t.given) t rs k sub ≡ refused m

  -- all of them have, and the edits were made
  abbrev pub AllGoneOver : Subresult → TokenizerValue M R D → Subresult → Type 0
  AllGoneOver = HasGoneOver t.configuration.local.resolvers (registered_out t)
