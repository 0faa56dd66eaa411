-- Documents that begin alike, and machines that look no further than the byte that waits.
use Rattle.std.specs.Prelude.{◌≡◌, ◌↔◌, ◌==◌, ◌&&◌, ◌+◌, ◌++◌, ℕ, suc, Bool, false, cond, Contains, List, length, take, slice_index}
use Rattle.markdown_base.specs.declared.event.Point.{Point}
use Rattle.markdown_base.specs.declared.message.Message.{Message}
use Rattle.markdown_base.specs.declared.state.Name.{Name}
use Rattle.markdown_base.specs.declared.state.State.{State}
use Rattle.markdown_base.specs.declared.state.State.TheVariants.{Next}
use Rattle.markdown_base.specs.Virtual.{Seat, point}
use Rattle.markdown_base.specs.Places.{IsShown}
use Rattle.markdown_tokenizer.specs.declared.subtokenize.Subresult.{Subresult}
use Rattle.markdown_tokenizer.specs.AtPlaces.{AreAtPlaces}
use Rattle.markdown_tokenizer.specs.Text.{Given, Text, IsText, IsDocument, empty_text}
use Rattle.markdown_tokenizer.specs.Configuration.{Configuration, TokenizerValue, start_seen}
use Rattle.markdown_tokenizer.specs.Sight.{sight}
use Rattle.markdown_tokenizer.specs.Rules.{Rules}
use Rattle.markdown_tokenizer.specs.Reading.{Reading}
use Rattle.markdown_tokenizer.specs.Turns.{AreCalledAlike, EndsFrom, stand_of}
use Rattle.markdown_tokenizer.specs.Engine.{CanPush, HoldsOf, IsFlushed, IsPushed, IsRefused, IsRunOf, IsRunRefused, StartEndsIn, whole_text}

-- how many bytes a place needs to be what it is: those before it, and if it is in a tab, the tab too
abbrev pub bytes_up_to : Point → ℕ
bytes_up_to p = cond (p.vs == 0) p.index (suc p.index)

-- Two documents are alike up to a place: the options and the bytes up to it are the same, and in neither is it between a CR and its LF
pub record AreAlikeUpTo (g h : Given) (p : Point) : Type 0 where
  pub options : g.options ≡ h.options
  pub bytes : take (bytes_up_to p) g.bytes ≡ take (bytes_up_to p) h.bytes
  pub whole : IsShown g.bytes p × IsShown h.bytes p
  pub possible : IsDocument h

-- a CR LF begins at this place
abbrev pub is_at_cr_lf : List ℕ → Point → Bool
is_at_cr_lf bytes p = (slice_index bytes p.index == 13) && (slice_index bytes (p.index + 1) == 10)

-- A tokenizer whose text ends at a place can be moved to another document: both are alike up to there, and there no CR LF of its own begins
pub record CanMove (g h : Given) (p : Point) : Type 0 where
  pub alike : AreAlikeUpTo g h p
  pub apart : is_at_cr_lf g.bytes p ≡ false

-- A machine looks no further than the byte that waits: on two documents that are alike up to the place after it, a call is the same
abbrev pub LooksNoFurther : {R D : Type 0} → (Given → Rules R D) → Type 0
LooksNoFurther {R} {D} rules = (g h : Given) (text : Text) (k : Configuration R D) (name : Name) → IsText g text → AreAlikeUpTo g h (sight g text k).next
    → (rules g).step (sight g text k) k name ≡ (rules h).step (sight g text k) k name

-- For such a machine: on a document that begins alike, up to where a text ends, calls at the bytes of the text are the same on each text
-- that goes on from it
abbrev pub CallsAreAlike : {R D : Type 0} → (Given → Rules R D) → Type 0
CallsAreAlike rules = LooksNoFurther rules → (g h : Given) (text long : Text) (more : List Seat) → IsText g text → AreAlikeUpTo g h text.end
    → long.start ≡ text.start → long.seats ≡ text.seats ++ more → AreCalledAlike g h (rules g).step (rules h).step text long

-- For such a machine: what was read of a document up to a place need not be read again in another one that is alike up to it. Reading the
-- other one from its start ends as reading it on from what the push left, with as many calls
abbrev pub ReadingGoesOn : {M R D : Type 0} → (M → Given → Rules R D) → Type 0
ReadingGoesOn {M} {R} {D} rules = (m : M) → LooksNoFurther (rules m)
    → (g h : Given) (cut : ℕ × ℕ) (start : Name) (new : TokenizerValue M R D) (answer : State)
    → IsDocument g → CanPush g (empty_text (point 1 1 0 0)) (0, 0) cut → cut.1 ≡ 0
    → IsPushed (rules m g) (start_seen g m (empty_text (point 1 1 0 0))) (0, 0) cut (Next start) new answer → AreAlikeUpTo g h new.text.end
    → (r : Reading R D) → StartEndsIn h (rules m) start r ↔ EndsFrom h (rules m h).step (whole_text h) (stand_of new answer) r

-- the same tokenizer in another document
abbrev pub in_document : {M R D : Type 0} → Given → TokenizerValue M R D → TokenizerValue M R D
in_document h t = record t { given = h }

-- a new tokenizer at a document's start
abbrev pub at_document_start : {M R D : Type 0} → Given → M → TokenizerValue M R D
at_document_start g m = start_seen g m (empty_text (point 1 1 0 0))

-- A push of a document's beginning, up to a cut, leaves a tokenizer; in another document that is alike up to the cut, the same push is allowed,
-- and leaves the same one
abbrev pub IsLeftIn : {M R D : Type 0} → (M → Given → Rules R D) → M → Given → (cut : ℕ × ℕ) → Name → TokenizerValue M R D → State → Type 0
IsLeftIn rules m h cut start new answer =
    CanPush h (empty_text (point 1 1 0 0)) (0, 0) cut
    × IsPushed (rules m h) (at_document_start h m) (0, 0) cut (Next start) (in_document h new) answer

-- a push of the rest of a document, from a cut on, left this tokenizer and state
abbrev pub RestIsPushed : {M R D : Type 0} → Rules R D → Given → (cut : ℕ × ℕ) → TokenizerValue M R D → State → TokenizerValue M R D → State → Type 0
RestIsPushed rules h cut t state read last = IsPushed rules t cut (length h.bytes, 0) state read last

-- Reading on in this document from a cut is a run of it: the rest can be pushed, and if the flush after it succeeds, its events are those of a
-- run; if the flush ends in a message, so does a run
pub record RestIsRun {M R D : Type 0} (rules : Given → Rules R D) (h : Given) (cut : ℕ × ℕ) (start : Name) (t : TokenizerValue M R D)
    (state : State) : Type 0 where
  pub holds : HoldsOf (rules h) t state
  pub range : CanPush h t.text cut (length h.bytes, 0)
  pub flushes : (read : TokenizerValue M R D) (last : State) → RestIsPushed (rules h) h cut t state read last → HoldsOf (rules h) read last
  pub run : (resolve : Bool) (read final : TokenizerValue M R D) (last : State) (sub : Subresult)
      → RestIsPushed (rules h) h cut t state read last → IsFlushed (rules h) resolve read last final sub → IsRunOf h rules resolve start final sub
  pub refused : (resolve : Bool) (read final : TokenizerValue M R D) (last : State) (message : Message)
      → RestIsPushed (rules h) h cut t state read last → IsRefused (rules h) resolve read last final message → IsRunRefused h rules resolve start message

-- For a lawful machine that looks no further than the byte that waits: what was read of a document up to a cut is what reading another one
-- leaves there, if that is alike up to the cut, and the events stand at places of it, as they do in a tokenizer that was moved there
-- (`moved_to`). And reading on there is a run of the other one
abbrev pub GoesOnElsewhere : {M R D : Type 0} → (M → Given → Rules R D) → Type 0
GoesOnElsewhere {M} {R} {D} rules = (m : M) → LooksNoFurther (rules m)
    → (g h : Given) (cut : ℕ × ℕ) (start : Name) (new : TokenizerValue M R D) (answer : State)
    → IsDocument g → Contains (rules m h).starts start → CanPush g (empty_text (point 1 1 0 0)) (0, 0) cut
    → IsPushed (rules m g) (at_document_start g m) (0, 0) cut (Next start) new answer → AreAlikeUpTo g h new.text.end
    → AreAtPlaces h.tab h.bytes new.configuration.events
    → IsLeftIn rules m h cut start new answer × RestIsRun (rules m) h cut start (in_document h new) answer
