-- Laws about texts, choices and readings.
use Rattle.std.specs.Prelude.{◌≡◌, ℕ, Some, map}
use Rattle.markdown_base.specs.declared.event.Point.{Point}
use Rattle.markdown_base.specs.declared.state.State.{State}
use Rattle.markdown_base.specs.declared.state.State.TheVariants.{Nok}
use Rattle.markdown_base.specs.Events.{unlinked, HasFrontUpToLinkEnds}
use Rattle.markdown_tokenizer.specs.declared.waiting.AttemptKind.TheVariants.{Attempt, Check}
use Rattle.markdown_tokenizer.specs.Text.{Given, Text, IsText, FitsAfter, pushed, followed_by}
use Rattle.markdown_tokenizer.specs.Configuration.{Configuration, TokenizerValue}
use Rattle.markdown_tokenizer.specs.Sight.{sight}
use Rattle.markdown_tokenizer.specs.Calls.{saved_at}
use Rattle.markdown_tokenizer.specs.Reading.{unfed, restored, settled_at}
use Rattle.markdown_tokenizer.specs.Rules.{Rules}
use Rattle.markdown_tokenizer.specs.Engine.{CanPush, IsPushed}

-- A range can be pushed at once, and makes the same text as its two parts
pub record IsOneRange (g : Given) (text : Text) (a b c d : Point) : Type 0 where
  pub allowed : FitsAfter g text (pushed a d)
  pub same : followed_by g (followed_by g text (pushed a b)) (pushed c d) ≡ followed_by g text (pushed a d)

-- A range that is pushed in two parts makes the same text as the range pushed at once: the second part begins where the first one ends, or
-- at a place that denotes the same
abbrev pub CutsLeaveNoTrace : Type 0
CutsLeaveNoTrace = (g : Given) (text : Text) (a b c d : Point) → IsText g text → FitsAfter g text (pushed a b)
    → FitsAfter g (followed_by g text (pushed a b)) (pushed c d) → IsOneRange g text a b c d

-- A push of a range can leave no other tokenizer, and return no other state
abbrev pub LeavesOnly : {M R D : Type 0} → Rules R D → TokenizerValue M R D → (from to : ℕ × ℕ) → State → TokenizerValue M R D → State → Type 0
LeavesOnly {M} {R} {D} rules old from to state new answer =
    (other : TokenizerValue M R D) (last : State) → IsPushed rules old from to state other last → (other ≡ new) × (last ≡ answer)

-- What a push leaves is determined: two tokenizers that are alike, and push the same range from the same state, are left alike
abbrev pub PushesInOneWay : {M R D : Type 0} → (M → Given → Rules R D) → Type 0
PushesInOneWay {M} {R} {D} rules = (old new : TokenizerValue M R D) (from to : ℕ × ℕ) (state answer : State)
    → CanPush old.given old.text from to → IsPushed (rules old.machine old.given) old from to state new answer
    → LeavesOnly (rules old.machine old.given) old from to state new answer

-- If two pushes of the parts of a range are allowed, so is one push of the range. It leaves what the two pushes leave, and nothing else
abbrev pub PushesAreOne : {M R D : Type 0} → (M → Given → Rules R D) → Type 0
PushesAreOne {M} {R} {D} rules = (old mid new : TokenizerValue M R D) (a b c d : ℕ × ℕ) (first second third : State)
    → IsText old.given old.text
    → CanPush old.given old.text a b → IsPushed (rules old.machine old.given) old a b first mid second
    → CanPush mid.given mid.text c d → IsPushed (rules mid.machine mid.given) mid c d second new third
    → CanPush old.given old.text a d × IsPushed (rules old.machine old.given) old a d first new third
    × LeavesOnly (rules old.machine old.given) old a d first new third

module _ {R D : Type 0} where
  -- What reading on makes of a configuration. Parts of calls keep the events, but for the ends of their links, and add their own after them
  -- (`only_adds`). Feeding, and a choice that goes on without going back, change no event. A choice made meanwhile may go back to the
  -- configuration in which it was made
  pub data Later : (made now : Configuration R D) → Type 0 where
    here : {made : Configuration R D} → Later made made
    added : {made k now : Configuration R D} → Later made k → HasFrontUpToLinkEnds now.events k.events → Later made now
    went_back : {made chosen k : Configuration R D} → Later made chosen → Later chosen k → Later made (restored (Some (saved_at chosen)) k)

  -- A choice that goes back restores the position, the events and the stack of when it was made, but not what states share
  pub record IsPutBack (g : Given) (text : Text) (made now back : Configuration R D) : Type 0 where
    pub events : map unlinked back.events ≡ map unlinked made.events
    pub stack : back.stack ≡ made.stack
    pub ended : back.ended ≡ made.ended
    pub seen : sight g text back ≡ sight g text (unfed made)
    pub local : back.local ≡ now.local

-- Whatever was read meanwhile, the earlier events are still there, up to the ends of their links; so a check that ends, and an attempt that
-- fails, restore what was there when they were made
pub record ChoicesPutBack (R D : Type 0) : Type 0 where
  pub kept : (made now : Configuration R D) → Later made now → HasFrontUpToLinkEnds now.events made.events
  pub check : (g : Given) (text : Text) (made now : Configuration R D) (answer : State) → Later made now
      → IsPutBack g text made now (settled_at Check (Some (saved_at made)) answer now)
  pub attempt : (g : Given) (text : Text) (made now : Configuration R D) → Later made now
      → IsPutBack g text made now (settled_at Attempt (Some (saved_at made)) Nok now)
