-- The one reading of a text, with ordered choices, by recursion on whole texts and whole configurations. What comes: how a byte is fed, and
-- what a choice puts back when it ends (`settled_at`); a state that is read to its end, and then the choices that it made, the last first
-- (`read`); the same with choices that wait (`outcome`); and that a reading ends in a result (`EndsIn`), whose calls are counted.
use Rattle.std.specs.Prelude.{ℕ, zero, suc, ◌≡◌, ◌+◌, nat_lt, ◌∷◌, [], List, true, cond, Option, Some, None, take, length}
use Rattle.markdown_base.specs.declared.state.Name.{Name}
use Rattle.markdown_base.specs.declared.state.State.{State}
use Rattle.markdown_base.specs.declared.state.State.TheVariants.{Next, Retry, Ok, Nok, Error}
use Rattle.markdown_tokenizer.specs.declared.waiting.Waits.TheVariants.{Nothing, Byte, End}
use Rattle.markdown_tokenizer.specs.declared.waiting.AttemptKind.{AttemptKind}
use Rattle.markdown_tokenizer.specs.declared.waiting.AttemptKind.TheVariants.{Attempt, Check}
use Rattle.markdown_tokenizer.specs.Text.{Given, Text}
use Rattle.markdown_tokenizer.specs.Configuration.{Configuration, Choice, Saved, Step}
use Rattle.markdown_tokenizer.specs.Sight.{Sight, sight}

module _ {R D : Type 0} where
  -- the next byte of the text waits, or its end; the end mark is set where the end is fed, and `consumed` takes it off
  abbrev pub fed : Text → Configuration R D → Configuration R D
  fed text k = cond (nat_lt k.position (length text.seats)) (record k { waiting = Byte }) (record k { waiting = End; ended = true })

  -- nothing waits
  abbrev pub unfed : Configuration R D → Configuration R D
  unfed k = record k { waiting = Nothing }

  -- what was saved is put back: position, end mark, number of events and stack; and nothing waits
  abbrev pub restored : Option Saved → Configuration R D → Configuration R D
  restored None k = unfed k
  restored (Some saved) k = record k {
    position = saved.position;
    waiting = Nothing;
    ended = saved.ended;
    events = take saved.events k.events;
    stack = saved.stack;
  }

  -- the configuration from which a choice goes on, by the state that ended it. A check always goes back, an attempt only after Nok.
  abbrev pub settled_at : AttemptKind → Option Saved → State → Configuration R D → Configuration R D
  settled_at Check saved answer k = restored saved k
  settled_at Attempt saved Nok k = restored saved k
  settled_at Attempt saved _ k = unfed k

-- The result of a reading: the last configuration, the last state returned, and how many states were called
pub record Reading (R D : Type 0) : Type 0 where
  pub configuration : Configuration R D
  pub answer : State
  pub calls : ℕ

abbrev pub more_calls : {R D : Type 0} → ℕ → Option (Reading R D) → Option (Reading R D)
more_calls n None = None
more_calls n (Some r) = Some (record r { calls = n + r.calls })

module _ {R D : Type 0} where
  -- the last state returned settles a choice, and the reading goes on with what the choice says. A message ends all choices at once.
  abbrev pub settle : (Configuration R D → State → Option (Reading R D)) → Choice → Reading R D → Option (Reading R D)
  settle reads choice r =
      elim r.answer [
        | Ok ↦ more_calls r.calls (reads (settled_at choice.kind choice.saved Ok r.configuration) choice.ok)
        | Nok ↦ more_calls r.calls (reads (settled_at choice.kind choice.saved Nok r.configuration) choice.nok)
        | _ ↦ Some r
      ]

  -- each choice in turn
  abbrev pub after_choices : (Configuration R D → State → Option (Reading R D)) → List Choice → Option (Reading R D) → Option (Reading R D)
  after_choices reads [] r = r
  after_choices reads (choice ∷ choices) None = None
  after_choices reads (choice ∷ choices) (Some r) = after_choices reads choices (settle reads choice r)

  -- one call: the state that it returns is read to its end, and then each choice that it pushed, the last first, is settled
  abbrev pub read_step : (Configuration R D → State → Option (Reading R D)) → Step R D → Option (Reading R D)
  read_step reads s = more_calls 1 (after_choices reads s.choices (reads s.configuration s.answer))

module _ {R D : Type 0} (g : Given) (step : Sight → Configuration R D → Name → Step R D) (text : Text) where
  -- The reading of a state on a text, if it nests no more calls than the bound
  abbrev pub read : ℕ → Configuration R D → State → Option (Reading R D)
  read bound k Ok = Some (record { configuration = k; answer = Ok; calls = 0 })
  read bound k Nok = Some (record { configuration = k; answer = Nok; calls = 0 })
  read bound k (Error message) = Some (record { configuration = k; answer = Error message; calls = 0 })
  read zero k (Next name) = None
  read zero k (Retry name) = None
  read (suc bound) k (Next name) = read_step (read bound) (step (sight g text (fed text k)) (fed text k) name)
  read (suc bound) k (Retry name) = read_step (read bound) (step (sight g text k) k name)

  -- the reading of a state, and then of the choices that wait
  abbrev pub outcome : ℕ → Configuration R D → List Choice → State → Option (Reading R D)
  outcome bound k choices state = after_choices (read bound) choices (read bound k state)

  -- After some calls, reading a state and the choices that wait ends in this; the calls of the result are all of them
  pub record EndsIn (calls : ℕ) (k : Configuration R D) (choices : List Choice) (state : State) (r : Reading R D) : Type 0 where
    pub bound : ℕ
    pub is : more_calls calls (outcome bound k choices state) ≡ Some r
