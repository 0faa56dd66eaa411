-- Bytes that a state reads over, or notes and reads over: the engine need not call it for them.
use Rattle.std.specs.Prelude.{◌≡◌, ◌+◌, ◌-◌, ◌<◌, ℕ, Bool, true, false, List, [], Option, None, Some, get_or, length, slice_index}
use Rattle.markdown_base.specs.declared.event.Point.{Point}
use Rattle.markdown_base.specs.declared.state.Name.{Name}
use Rattle.markdown_base.specs.declared.state.State.TheVariants.{Next}
use Rattle.markdown_tokenizer.specs.declared.tokenizer.noted.Noted.{Noted}
use Rattle.markdown_tokenizer.specs.Text.{Given}
use Rattle.markdown_tokenizer.specs.Configuration.{Configuration, Step, TokenizerValue}
use Rattle.markdown_tokenizer.specs.Sight.{Sight, sight}
use Rattle.markdown_tokenizer.specs.Reading.{fed}
use Rattle.markdown_tokenizer.specs.Calls.{consumed, noting, place_of}
use Rattle.markdown_tokenizer.specs.Cursor.{moved_over}
use Rattle.markdown_tokenizer.specs.Rules.{Rules}
use Rattle.markdown_tokenizer.specs.Lawful.{ForEachCall}

-- the step that consumes the byte that waits, does nothing else, and returns Next of the same name
abbrev pub step_over : {R D : Type 0} → Configuration R D → Name → Step R D
step_over k name = record { configuration = consumed k; choices = []; answer = Next name }

-- A state reads over a byte: wherever the byte waits, that is its step
abbrev pub ReadsOver : {R D : Type 0} → Given → Rules R D → Name → ℕ → Type 0
ReadsOver g rules name byte =
    ForEachCall g rules (λ text k choices n s. n ≡ name → (sight g text k).current ≡ Some byte → s ≡ step_over k n)

-- a byte is above CR, and a state reads over it on every document
abbrev pub IsByteOver : {R D : Type 0} → (Given → Rules R D) → Name → ℕ → Type 0
IsByteOver rules name byte = (13 < byte) × ((g : Given) → ReadsOver g (rules g) name byte)

-- a state reads over each byte of a set, which says of each byte whether it is in it
abbrev pub AreReadOver : {R D : Type 0} → (Given → Rules R D) → Name → List Bool → Type 0
AreReadOver rules name set = (byte : ℕ) → get_or set byte false ≡ true → IsByteOver rules name byte

-- ---- bytes that are noted

-- the step that notes the place of the byte that waits, consumes it, does nothing else, and returns Next of a name
abbrev pub step_noted : {R D : Type 0} → Sight → Configuration R D → Name → Step R D
step_noted s k name = record { configuration = consumed (noting (place_of s) k); choices = []; answer = Next name }

-- A state notes a byte and goes on with another: wherever the byte waits, that is its step
abbrev pub NotesByte : {R D : Type 0} → Given → Rules R D → (name other : Name) → ℕ → Type 0
NotesByte g rules name other byte =
    ForEachCall g rules (λ text k choices n s. n ≡ name → (sight g text k).current ≡ Some byte → s ≡ step_noted (sight g text k) k other)

-- That one goes back at a byte: wherever the byte waits, its step consumes it, does nothing else, and returns Next of the name of the first
abbrev pub GoesBack : {R D : Type 0} → Given → Rules R D → (other name : Name) → ℕ → Type 0
GoesBack g rules other name byte =
    ForEachCall g rules (λ text k choices n s. n ≡ other → (sight g text k).current ≡ Some byte → s ≡ step_over k name)

-- Two bytes are above CR, and on every document a state notes the first and goes on with one that goes back at the second
abbrev pub IsPairOver : {R D : Type 0} → (Given → Rules R D) → Name → (byte next : ℕ) → Type 0
IsPairOver rules name byte next =
    (13 < byte) × (13 < next) × ((g : Given) → (other : Name) × NotesByte g (rules g) name other byte × GoesBack g (rules g) other name next)

-- a state does so at each byte of one set before each of another
abbrev pub AreNotedOver : {R D : Type 0} → (Given → Rules R D) → Name → (noted behind : List Bool) → Type 0
AreNotedOver rules name noted behind =
    (byte next : ℕ) → get_or noted byte false ≡ true → get_or behind next false ≡ true → IsPairOver rules name byte next

-- ---- in a tokenizer

-- the tokenizer after it was fed and read over one byte
abbrev pub over_one : {M R D : Type 0} → TokenizerValue M R D → TokenizerValue M R D
over_one t = record t { configuration = consumed (fed t.text t.configuration); calls = t.calls + 1 }

-- the tokenizer after it was fed one byte, noted its place and consumed it
abbrev pub noted_one : {M R D : Type 0} → TokenizerValue M R D → TokenizerValue M R D
noted_one t =
    let k = fed t.text t.configuration in
    record t { configuration = consumed (noting (place_of (sight t.given t.text k)) k); calls = t.calls + 1 }

module _ {M R D : Type 0} (rules : Given → Rules R D) (name : Name) where
  -- the next byte of a tokenizer's text is one that a state reads over
  abbrev pub IsOver : TokenizerValue M R D → Type 0
  IsOver t = (t.configuration.position < length t.text.seats)
      × ((byte : ℕ) × ((sight t.given t.text (fed t.text t.configuration)).current ≡ Some byte) × ReadsOver t.given (rules t.given) name byte)

  -- the next two bytes of a tokenizer's text are such that a state notes the first and goes on with another, which goes back at the second
  pub record IsPair (t : TokenizerValue M R D) : Type 0 where
    pub other : Name
    pub byte : ℕ
    pub next : ℕ
    pub more : t.configuration.position < length t.text.seats
    pub is : (sight t.given t.text (fed t.text t.configuration)).current ≡ Some byte
    pub notes : NotesByte t.given (rules t.given) name other byte
    pub more_behind : (noted_one t).configuration.position < length t.text.seats
    pub is_behind : (sight t.given t.text (fed t.text (noted_one t).configuration)).current ≡ Some next
    pub goes_back : GoesBack t.given (rules t.given) other name next

  -- a tokenizer has read over bytes in a state, one or two at a time
  module _ (old : TokenizerValue M R D) where
    pub data HasReadOver : (new : TokenizerValue M R D) → Type 0 where
      none_over : HasReadOver old
      one_over : {new : TokenizerValue M R D} → HasReadOver new → IsOver new → HasReadOver (over_one new)
      two_over : {new : TokenizerValue M R D} → HasReadOver new → IsPair new → HasReadOver (over_one (noted_one new))

-- ---- in the bytes of the document: an inner part, which no public clause cites

module _ {R D : Type 0} (rules : Given → Rules R D) (name : Name) (bytes : List ℕ) (from : ℕ) where
  -- a state reads over the bytes from one index up to another, one or two at a time; `last` is the index of the last one that it notes
  pub data AreOverUpto : (to : ℕ) (last : Option ℕ) → Type 0 where
    no_byte : AreOverUpto from None
    one_byte : {to : ℕ} {last : Option ℕ} → AreOverUpto to last → IsByteOver rules name (slice_index bytes to) → AreOverUpto (to + 1) last
    two_bytes : {to : ℕ} {last : Option ℕ} → AreOverUpto to last → IsPairOver rules name (slice_index bytes to) (slice_index bytes (to + 1)) → AreOverUpto (to + 2) (Some to)

-- what is noted once bytes were read over from a place on: the place of the last one that was, if one was
abbrev pub noted_upto : Option ℕ → Point → Noted → Noted
noted_upto None place noted = noted
noted_upto (Some last) place noted = let p = moved_over (last - place.index) place in record { exit = p; enter = p }
