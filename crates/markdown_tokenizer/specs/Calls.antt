-- What the calls of a tokenizer do to a configuration.
use Rattle.std.specs.Prelude.{◌≡◌, ℕ, ◌+◌, ◌-◌, ◌<◌, ◌++◌, ◌∷◌, [], List, Bool, true, false, if◌then◌else◌, Option, Some, None, IfSome, All, take, length}
use Rattle.std.specs.List.{last_or, list_any}
use Rattle.markdown_base.specs.declared.event.Event.{Event}
use Rattle.markdown_base.specs.declared.event.Link.{Link}
use Rattle.markdown_base.specs.declared.event.Kind.TheVariants.{Enter, Exit}
use Rattle.markdown_base.specs.declared.event.Name.{Name}
use Rattle.markdown_base.specs.declared.event.Point.{Point}
use Rattle.markdown_base.specs.declared.state.State.{State}
use Rattle.markdown_base.specs.declared.state.State.TheVariants.{Next, Retry, Ok, Nok, Error}
use Rattle.markdown_base.specs.Places.{stands_before}
use Rattle.markdown_base.specs.Events.{is_void, open_events}
use Rattle.markdown_tokenizer.specs.declared.waiting.Waits.TheVariants.{Nothing}
use Rattle.markdown_tokenizer.specs.declared.waiting.AttemptKind.TheVariants.{Attempt, Check}
use Rattle.markdown_tokenizer.specs.Configuration.{Configuration, Local, Saved, Choice, TokenizerValue, at_configuration}
use Rattle.markdown_tokenizer.specs.declared.tokenizer.noted.Noted.{Noted}
use Rattle.markdown_tokenizer.specs.Sight.{Sight, sight_of}
use Rattle.markdown_edits.specs.Links.{linked_to}

-- one byte is consumed
abbrev pub consumed : {R D : Type 0} → Configuration R D → Configuration R D
consumed k = record k { position = k.position + 1; waiting = Nothing; ended = false }

-- a span begins at a place
abbrev pub entered : {R D : Type 0} → Name → Option Link → Point → Configuration R D → Configuration R D
entered name link point k = record k {
  events = k.events ++ record { kind = Enter; name = name; point = point; link = link } ∷ [];
  stack = k.stack ++ name ∷ [];
}

-- the innermost span ends at a place
abbrev pub exited : {R D : Type 0} → Name → Point → Configuration R D → Configuration R D
exited name point k = record k {
  events = k.events ++ record { kind = Exit; name = name; point = point; link = None } ∷ [];
  stack = take (length k.stack - 1) k.stack;
}

-- two events are made neighbours in a chain
abbrev pub linked : {R D : Type 0} → (previous next : ℕ) → Configuration R D → Configuration R D
linked previous next k = record k { events = linked_to previous next k.events }

-- other fields are written
abbrev pub with_local : {R D : Type 0} → Configuration R D → Local R D → Configuration R D
with_local k local = record k { local = local }

-- the place of a byte that waits: where a span before it would end, and where one that begins with it would begin
abbrev pub place_of : Sight → Noted
place_of s = record { exit = s.exit_place; enter = s.enter_place }

-- a place is noted
abbrev pub noting : {R D : Type 0} → Noted → Configuration R D → Configuration R D
noting place k = with_local k (record k.local { noted = place })

-- other events are there
abbrev pub with_events : {R D : Type 0} → Configuration R D → List Event → Configuration R D
with_events k events = record k { events = events }

-- other resolvers are registered
abbrev pub with_resolvers : {R D : Type 0} → Configuration R D → List R → Configuration R D
with_resolvers k resolvers = record k { local = record k.local { resolvers = resolvers } }

-- resolvers with one more after them, unless it is there
abbrev pub registered : {R : Type 0} → (R → R → Bool) → R → List R → List R
registered same r rs = if list_any (λ q. same q r) rs then rs else rs ++ r ∷ []

-- resolvers with one more before them, unless it is there
abbrev pub registered_before : {R : Type 0} → (R → R → Bool) → R → List R → List R
registered_before same r rs = if list_any (λ q. same q r) rs then rs else r ∷ rs

-- the enter of the innermost open span
abbrev pub innermost : List Event → Option Event
innermost events = last_or None (open_events events)

-- a span begins here, in a tokenizer
abbrev pub with_enter : {M R D : Type 0} → Name → Option Link → TokenizerValue M R D → TokenizerValue M R D
with_enter name link t = at_configuration t (entered name link (sight_of t).enter_place t.configuration)

-- the innermost span ends here, in a tokenizer
abbrev pub with_exit : {M R D : Type 0} → Name → TokenizerValue M R D → TokenizerValue M R D
with_exit name t = at_configuration t (exited name (sight_of t).exit_place t.configuration)

-- The innermost span may end under this name. It is the span's name; a byte was consumed since it began; a void span holds no other event;
-- and the span began after the last waiting choice that would restore the stack
pub record CanExit {M R D : Type 0} (name : Name) (t : TokenizerValue M R D) : Type 0 where
  pub top : last_or None t.configuration.stack ≡ Some name
  pub read : (enter : Event) → innermost t.configuration.events ≡ Some enter
      → stands_before enter.point (sight_of t).exit_place ≡ true
  pub void : is_void name ≡ true → (e : Event) × (last_or None t.configuration.events ≡ Some e) × (e.kind ≡ Enter)
  pub above : All (λ c. IfSome c.saved (λ s. length s.stack < length t.configuration.stack)) t.choices

-- a choice may go on with this state: `Next`, `Ok` or `Nok`
abbrev pub CanGoOn : State → Type 0
CanGoOn (Next name) = Unit {0}
CanGoOn (Retry name) = ⊥
CanGoOn Ok = Unit {0}
CanGoOn Nok = Unit {0}
CanGoOn (Error message) = ⊥

-- what a choice saves when it is made
abbrev pub saved_at : {R D : Type 0} → Configuration R D → Saved
saved_at k = record { position = k.position; ended = k.ended; events = length k.events; stack = k.stack }

-- an attempt that goes on with Nok when it fails saves nothing: the enclosing choice fails too, and restores its own save
abbrev pub saved_for_attempt : {R D : Type 0} → State → Configuration R D → Option Saved
saved_for_attempt Nok k = None
saved_for_attempt _ k = Some (saved_at k)

abbrev pub attempt_at : {R D : Type 0} → State → State → Configuration R D → Choice
attempt_at ok nok k = record { kind = Attempt; ok = ok; nok = nok; saved = saved_for_attempt nok k }

abbrev pub check_at : {R D : Type 0} → State → State → Configuration R D → Choice
check_at ok nok k = record { kind = Check; ok = ok; nok = nok; saved = Some (saved_at k) }

-- one more choice waits
abbrev pub with_choice : {M R D : Type 0} → TokenizerValue M R D → Choice → TokenizerValue M R D
with_choice t c = record t { choices = c ∷ t.choices }
