-- What is said of a construct of a machine that is a list of constructs: that it is read, where nothing needs to be known; and within how many calls.
use Rattle.mdinline_text_machine.proofs.Prelude.{◌≡◌, ◌∷◌, [], ℕ, Bool, List, Event, Name, State, Retry, Byte, Seat, Given, Text, Configuration, Choice, Local, Option, Some, None, true, Found, Between, Construct, TextByte, text_byte, item_length, item_events, bytes_of, counts, drop}
use Rattle.mdinline_text_machine.proofs.Constructs.Listed.{AddsFrom, DecidesTo, IsKept, Knowledge, Reads, ReadsFrom, outer}
use Rattle.mdinline_text_machine.proofs.Texts.Steps.{Plays, between_items}

-- nothing is known
abbrev pub nothing_known : Knowledge Found TextByte (Unit {0})
nothing_known = record { after_item = λ m item. m; knows = λ m p events local. Unit {0}; tries = λ m cs p events local. Unit {0}; at_data = λ m p events local. Unit {0} }

pub nothing-kept : {g : Given} {text : Text} → IsKept g text nothing_known
nothing-kept = record { passes = λ m c cs p events local s ss here none h. tt; to_data = λ m p events local h. tt }

module _ (g : Given) (text : Text) (m : Plays g text) (names : Between) where
  abbrev pub DecidesPart : (nok : Name) (p : ℕ) (ended : Bool) (events : List Event) → List Seat → Configuration Unit Unit → List Choice → State → Option Found → Type 0
  DecidesPart nok p ended events seats k cs s o = DecidesTo g text m.step names text_byte item_length (item_events g.bytes) nothing_known tt [] nok p ended events seats k cs s o

  -- the theorem of one of its constructs
  abbrev pub ReadsPart : Construct Found TextByte Unit Unit → Type 0
  ReadsPart c =
      (nok : Name) (p : ℕ) (ended : Bool) (events : List Event) (local : Local Unit Unit) (s : Seat) (ss : List Seat) → drop p text.seats ≡ s ∷ ss → c.grammar.first s.byte ≡ true → Unit {0}
      → DecidesPart nok p ended events (s ∷ ss) (between_items p Byte ended events local) (outer names.home nok p ended events ∷ []) (Retry c.start) (c.grammar.front (bytes_of (s ∷ ss)))

  -- whatever may still be tried
  decided-before : (rest : List (Construct Found TextByte Unit Unit)) (nok : Name) (p : ℕ) (ended : Bool) (events : List Event) (seats : List Seat) (k : Configuration Unit Unit) (cs : List Choice) (s : State) (o : Option Found)
      → DecidesPart nok p ended events seats k cs s o → DecidesTo g text m.step names text_byte item_length (item_events g.bytes) nothing_known tt rest nok p ended events seats k cs s o
  decided-before rest nok p ended events seats k cs s None d = d
  decided-before rest nok p ended events seats k cs s (Some item) d = d

  pub reads-before : (c : Construct Found TextByte Unit Unit) (rest : List (Construct Found TextByte Unit Unit)) → ReadsPart c
      → Reads g text m.step names text_byte item_length (item_events g.bytes) nothing_known tt c rest
  reads-before c rest reads nok p ended events local s ss here first is_on knows =
      decided-before rest nok p ended events (s ∷ ss) (between_items p Byte ended events (counts local)) (outer names.home nok p ended events ∷ []) (Retry c.start) (c.grammar.front (bytes_of (s ∷ ss)))
      (reads nok p ended events (counts local) s ss here first tt)

  -- the theorem of data, and of line endings
  abbrev pub ReadsItems : Name → (ℕ → Type 0) → (List ℕ → Found) → Type 0
  ReadsItems name At front = ReadsFrom g text m.step names text_byte item_length (item_events g.bytes) nothing_known tt (λ p events local. Unit {0}) name At front

  abbrev pub AddsItem : Configuration Unit Unit → State → (p : ℕ) (events : List Event) → List Seat → Found → Type 0
  AddsItem k s p events seats item = AddsFrom g text m.step names text_byte item_length (item_events g.bytes) nothing_known tt k s p events seats item
