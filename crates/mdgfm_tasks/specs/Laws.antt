-- Laws of checks: where they stand, and what they leave as it was.
use Rattle.std.specs.Prelude.{◌≡◌, ◌≤◌, ⊤, ℕ, ◌+◌, Bool, true, false, cond, List, [], ◌∷◌, ◌++◌, Some}
use Rattle.std.specs.List.{AllByRecursion}
use Rattle.markdown_base.specs.declared.configuration.ParseOptions.{ParseOptions}
use Rattle.markdown_base.specs.declared.event.Event.{Event}
use Rattle.markdown_base.specs.declared.event.Name.{Name}
use Rattle.markdown_base.specs.declared.event.Name.TheVariants.{Data, Definition, GfmTaskListItemCheck, GfmTaskListItemMarker, GfmTaskListItemValueChecked, GfmTaskListItemValueUnchecked, ListItemPrefix, Paragraph, SpaceOrTab}
use Rattle.markdown_base.specs.Events.{IsBalanced, same_name}
use Rattle.mdgfm_tasks.specs.declared.awaited.Awaited.{Awaited}
use Rattle.mdgfm_tasks.specs.declared.awaited.Awaited.TheVariants.{Nothing}
use Rattle.mdgfm_tasks.specs.declared.checks.Found.{Found}
use Rattle.mdgfm_tasks.specs.Awaits.{awaited_behind, enters, exits, is_passed}
use Rattle.mdgfm_tasks.specs.Checks.{check_of, has_check}
use Rattle.mdgfm_tasks.specs.TaskEvents.{task_events}

-- Without the option nothing changes
abbrev pub OffChangesNothing : Type 0
OffChangesNothing = (options : ParseOptions) (bytes : List ℕ) (events : List Event) → options.constructs.gfm_task_list_item ≡ false
    → task_events options bytes events ≡ events

-- Without a check nothing changes
abbrev pub NoCheckChangesNothing : Type 0
NoCheckChangesNothing = (options : ParseOptions) (bytes : List ℕ) (events : List Event) → has_check bytes Nothing events ≡ false
    → task_events options bytes events ≡ events

-- Balanced events stay balanced
abbrev pub BalanceIsKept : Type 0
BalanceIsKept = (options : ParseOptions) (bytes : List ℕ) (events : List Event) → IsBalanced events → IsBalanced (task_events options bytes events)

-- the names of a check, and of what is beside it in its text
abbrev pub check_names : List Name
check_names = GfmTaskListItemCheck ∷ GfmTaskListItemMarker ∷ GfmTaskListItemValueChecked ∷ GfmTaskListItemValueUnchecked ∷ SpaceOrTab ∷ Data ∷ []

-- A test of names that all events pass, and these names, is passed by all events with checks: there are no other new names
abbrev pub NamesAreKept : Type 0
NamesAreKept = (test : Name → Bool) (options : ParseOptions) (bytes : List ℕ) (events : List Event)
    → AllByRecursion (λ n. test n ≡ true) check_names → AllByRecursion (λ e. test e.name ≡ true) events
    → AllByRecursion (λ e. test e.name ≡ true) (task_events options bytes events)

-- what is awaited behind events, if nothing was before them
abbrev pub awaited_from : Awaited → List Event → Awaited
awaited_from a [] = a
awaited_from a (e ∷ es) = awaited_from (awaited_behind a e) es

-- events that may stand between the prefix of an item and its first block: white space, line endings, prefixes of quotes, and definitions
pub data ArePassed : List Event → Type 0 where
  none : ArePassed []
  one : (e : Event) (es : List Event) → is_passed e.name ≡ true → ArePassed es → ArePassed (e ∷ es)
  definition : (e f : Event) (xs es : List Event) {l : List Event} → l ≡ e ∷ (xs ++ f ∷ es) → enters Definition e ≡ true → exits Definition f ≡ true → ArePassed es → ArePassed l

-- Events end in the first block of an item, before its text: the prefix of the item, what may be passed, the enter of a paragraph, and white space
pub record IsFirstText (events : List Event) : Type 0 where
  pub before : List Event
  pub prefix : Event
  pub between : List Event
  pub paragraph : Event
  pub white : List Event
  pub parts : events ≡ before ++ prefix ∷ (between ++ paragraph ∷ white)
  pub is_prefix : exits ListItemPrefix prefix ≡ true
  pub passed : ArePassed between
  pub is_paragraph : enters Paragraph paragraph ≡ true
  pub is_white : AllByRecursion (λ (e : Event). same_name e.name SpaceOrTab ≡ true) white

-- Where a check is found, the first block of an item begins, and it is a paragraph
abbrev pub ChecksStandFirst : Type 0
ChecksStandFirst = (bytes : List ℕ) (before events : List Event) (f : Found) → check_of bytes (awaited_from Nothing before) events ≡ Some f → IsFirstText before

-- the byte indices of events never decrease, from an index on
abbrev pub GoForward : (from : ℕ) → List Event → Type 0
GoForward from [] = ⊤
GoForward from (e ∷ es) = (from ≤ e.point.index) × GoForward e.point.index es

-- Events that go forward still do
abbrev pub ForwardIsKept : Type 0
ForwardIsKept = (options : ParseOptions) (bytes : List ℕ) (from : ℕ) (events : List Event) → GoForward from events → GoForward from (task_events options bytes events)

-- how many events pass a test
abbrev pub count_of : (Event → Bool) → List Event → ℕ
count_of test [] = 0
count_of test (e ∷ es) = cond (test e) (count_of test es + 1) (count_of test es)

-- There are not more checks than prefixes of items, but for those that were there
abbrev pub ChecksAreFew : Type 0
ChecksAreFew = (options : ParseOptions) (bytes : List ℕ) (events : List Event)
    → count_of (enters GfmTaskListItemCheck) (task_events options bytes events) ≤ count_of (enters GfmTaskListItemCheck) events + count_of (exits ListItemPrefix) events
