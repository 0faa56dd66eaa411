-- Spans that begin or end at a place that was noted before.
use Rattle.std.specs.Prelude.{◌≡◌, ◌<◌, ℕ, All, true, false, Some, None, IfSome, length}
use Rattle.std.specs.List.{last_or}
use Rattle.markdown_base.specs.declared.event.Event.{Event}
use Rattle.markdown_base.specs.declared.event.Kind.TheVariants.{Enter}
use Rattle.markdown_base.specs.declared.event.Name.{Name}
use Rattle.markdown_base.specs.declared.event.Point.{Point}
use Rattle.markdown_base.specs.Events.{is_void}
use Rattle.markdown_base.specs.Places.{stands_before, IsPointOf, IsShown}
use Rattle.markdown_tokenizer.specs.Configuration.{TokenizerValue, at_configuration}
use Rattle.markdown_tokenizer.specs.declared.tokenizer.noted.Noted.{Noted}
use Rattle.markdown_tokenizer.specs.declared.waiting.Waits.TheVariants.{Byte}
use Rattle.markdown_tokenizer.specs.Calls.{consumed, entered, exited, innermost, noting, place_of}
use Rattle.markdown_tokenizer.specs.Sight.{sight_in, sight_of}
use Rattle.markdown_tokenizer.specs.Text.{Given, Text, IsText}

-- A place that was noted: a place of the document, as it is shown, up to where an exit would be; and no event is after it
pub record IsNoted {M R D : Type 0} (p : Point) (t : TokenizerValue M R D) : Type 0 where
  pub place : IsPointOf t.given.tab t.given.bytes p
  pub shown : IsShown t.given.bytes p
  pub upto : stands_before (sight_of t).exit_place p ≡ false
  pub behind : All (λ e. stands_before p e.point ≡ false) t.configuration.events

-- The innermost span may end under this name at this place: as `CanExit`, with the place for that of an exit
pub record CanExitAt {M R D : Type 0} (name : Name) (p : Point) (t : TokenizerValue M R D) : Type 0 where
  pub top : last_or None t.configuration.stack ≡ Some name
  pub read : (enter : Event) → innermost t.configuration.events ≡ Some enter → stands_before enter.point p ≡ true
  pub void : is_void name ≡ true → (e : Event) × (last_or None t.configuration.events ≡ Some e) × (e.kind ≡ Enter)
  pub above : All (λ c. IfSome c.saved (λ s. length s.stack < length t.configuration.stack)) t.choices

-- a span begins at this place, in a tokenizer
abbrev pub with_enter_at : {M R D : Type 0} → Name → Point → TokenizerValue M R D → TokenizerValue M R D
with_enter_at name p t = at_configuration t (entered name None p t.configuration)

-- the innermost span ends at this place, in a tokenizer
abbrev pub with_exit_at : {M R D : Type 0} → Name → Point → TokenizerValue M R D → TokenizerValue M R D
with_exit_at name p t = at_configuration t (exited name p t.configuration)

-- a place that was noted stays noted when a byte is consumed
abbrev pub StayNoted : (M R D : Type 0) → Type 0
StayNoted M R D = (t : TokenizerValue M R D) (p : Point) → IsText t.given t.text → t.configuration.position < length t.text.seats → IsNoted p t
    → IsNoted p (at_configuration t (consumed t.configuration))

-- The two places of a byte are places of the document, as they are shown, and that of an exit is not after that of an enter
pub record ArePlaces (g : Given) (n : Noted) : Type 0 where
  pub exit_place : IsPointOf g.tab g.bytes n.exit
  pub exit_shown : IsShown g.bytes n.exit
  pub enter_place : IsPointOf g.tab g.bytes n.enter
  pub enter_shown : IsShown g.bytes n.enter
  pub order : stands_before n.enter n.exit ≡ false

-- so are those of each byte of a text, and both are before the end of the byte
abbrev pub BytesHavePlaces : Type 0
BytesHavePlaces = (g : Given) (text : Text) (p : ℕ) → IsText g text → p < length text.seats
    → let s = sight_in g text p Byte in
    ArePlaces g (place_of s) × (stands_before s.exit_place s.next ≡ true) × (stands_before s.enter_place s.next ≡ true)

-- the two places are noted, in a tokenizer
abbrev pub AreNoted : {M R D : Type 0} → Noted → TokenizerValue M R D → Type 0
AreNoted n t = ArePlaces t.given n × IsNoted n.exit t × IsNoted n.enter t

-- if a byte waits, and no event is after the place of an exit, then both places are noted once its place was noted and it was consumed
abbrev pub NoteOnceRead : (M R D : Type 0) → Type 0
NoteOnceRead M R D = (t : TokenizerValue M R D) → IsText t.given t.text → t.configuration.position < length t.text.seats → t.configuration.waiting ≡ Byte
    → let n = place_of (sight_of t) in All (λ e. stands_before n.exit e.point ≡ false) t.configuration.events
    → AreNoted n (at_configuration t (consumed (noting n t.configuration)))

-- an exit at the place of an exit keeps both noted; after an enter at the place of an enter, that one is still noted
abbrev pub EventsKeepNoted : (M R D : Type 0) → Type 0
EventsKeepNoted M R D = (t : TokenizerValue M R D) (n : Noted) (name : Name) → AreNoted n t
    → AreNoted n (with_exit_at name n.exit t) × IsNoted n.enter (with_enter_at name n.enter t)
