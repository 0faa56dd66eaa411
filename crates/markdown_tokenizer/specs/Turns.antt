-- Reading a text turn by turn, as far as its bytes go. What a push leaves is where these turns end.
use Rattle.std.specs.Prelude.{◌≡◌, ◌+◌, ◌≤◌, ◌↔◌, ℕ, nat_lt, true, cond, List, [], ◌∷◌, ◌++◌, Option, None, Some, length}
use Rattle.std.specs.Option.{is_some}
use Rattle.markdown_base.specs.declared.state.Name.{Name}
use Rattle.markdown_base.specs.declared.state.State.{State}
use Rattle.markdown_base.specs.declared.state.State.TheVariants.{Next, Retry, Ok, Nok, Error}
use Rattle.markdown_tokenizer.specs.declared.waiting.Waits.TheVariants.{Byte}
use Rattle.markdown_tokenizer.specs.Text.{Given, Text}
use Rattle.markdown_tokenizer.specs.Configuration.{Configuration, Choice, Step, TokenizerValue}
use Rattle.markdown_tokenizer.specs.Sight.{Sight, sight}
use Rattle.markdown_tokenizer.specs.Reading.{Reading, EndsIn, settled_at}

-- Where a reading stands: the configuration, the choices that wait, the state in hand, and the calls made
pub record Stand (R D : Type 0) : Type 0 where
  pub configuration : Configuration R D
  pub choices : List Choice
  pub state : State
  pub calls : ℕ

abbrev pub stand : {R D : Type 0} → Configuration R D → List Choice → State → ℕ → Stand R D
stand k choices state calls = record { configuration = k; choices = choices; state = state; calls = calls }

-- where a tokenizer stands with a state
abbrev pub stand_of : {M R D : Type 0} → TokenizerValue M R D → State → Stand R D
stand_of t state = stand t.configuration t.choices state t.calls

module _ {R D : Type 0} (g : Given) (step : Sight → Configuration R D → Name → Step R D) (text : Text) where
  -- One turn: the next byte is fed, a state is called while a byte waits, or a choice ends. None if the bytes of the text are used up, or
  -- nothing is left to do. The end of the text is not fed.
  abbrev pub turn : Configuration R D → List Choice → State → ℕ → Option (Stand R D)
  turn k choices (Next name) calls = cond (nat_lt k.position (length text.seats)) (Some (stand (record k { waiting = Byte }) choices (Retry name) calls)) None
  turn k choices (Retry name) calls =
      let s = step (sight g text k) k name in
      cond (is_some (sight g text k).current) (Some (stand s.configuration (s.choices ++ choices) s.answer (calls + 1))) None
  turn k (c ∷ choices) Ok calls = Some (stand (settled_at c.kind c.saved Ok k) choices c.ok calls)
  turn k (c ∷ choices) Nok calls = Some (stand (settled_at c.kind c.saved Nok k) choices c.nok calls)
  turn k [] Ok calls = None
  turn k [] Nok calls = None
  turn k choices (Error message) calls = None

  -- some turns lead from one stand to the other
  pub data Turns : (a b : Stand R D) → Type 0 where
    no_turn : {a : Stand R D} → Turns a a
    one_turn : {a b c : Stand R D} → turn a.configuration a.choices a.state a.calls ≡ Some b → Turns b c → Turns a c

  -- reading on from there ends so
  abbrev pub EndsFrom : Stand R D → Reading R D → Type 0
  EndsFrom a r = EndsIn g step text a.calls a.configuration a.choices a.state r

-- On a longer text, perhaps of another document, the calls at the bytes of the shorter one are the same
pub record AreCalledAlike {R D : Type 0} (g h : Given) (one other : Sight → Configuration R D → Name → Step R D) (short long : Text) : Type 0 where
  pub longer : length short.seats ≤ length long.seats
  pub alike : (k : Configuration R D) (name : Name) → is_some (sight g short k).current ≡ true → one (sight g short k) k name ≡ other (sight h long k) k name

-- Turns on a text are turns on a longer one, perhaps of another document, on which calls are alike; and reading on from where they end is
-- reading on from where they begin
abbrev pub TurnsAreKept : (R D : Type 0) → Type 0
TurnsAreKept R D = (g h : Given) (one other : Sight → Configuration R D → Name → Step R D) (short long : Text) → AreCalledAlike g h one other short long
    → (a b : Stand R D) → Turns g one short a b
    → Turns h other long a b × ((r : Reading R D) → EndsFrom h other long b r ↔ EndsFrom h other long a r)
