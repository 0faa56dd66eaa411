-- Void spans of inline text are each in one line of their text: they hold bytes of the text alone, and none goes over a gap.
use Rattle.mddocument.proofs.Prelude.{ℕ, Bool, List, [], ◌++◌, append-nil, sym, subst, AllByRecursion, Contains, Constructs, ParseOptions, Point, shown, Seat, AcrossGap, Course, course-every, text-course, Given, Text, IsText, inline_seat_events}
use Rattle.std.proofs.lemmas.List.Elements.{All-contains_itself, recursion_from_All}
use Rattle.markdown_children.specs.NextContent.{HoldsOnlyText}
use Rattle.mdblock_leaf_blocks.proofs.Marks.MarkHolds.{HoldEach}
use Rattle.mdinline_machine.specs.InlineEvents.{inline_events}
use Rattle.mddocument.proofs.Emphasis.InlineReads.{read-lined}
use Rattle.mddocument.proofs.Emphasis.LinedHolds.{lined-holds}
use Rattle.mddocument.proofs.FlowChains.Blocks.{held-at}
use Rattle.mddocument.proofs.FlowTexts.InlineSteps.{Steps, steps-virtual}
use Rattle.mddocument.proofs.FlowTexts.InlineTight.{inline-tight}

pub inline-holds : (defined : List ℕ → Bool) (t : ℕ) (bytes : List ℕ) (In : Seat → Type 0) (options : ParseOptions) (seats : List Seat) (p : Point) (rest : List Seat) → Course AcrossGap t bytes p (seats ++ rest) → AllByRecursion (Steps bytes) seats
    → AllByRecursion In seats → HoldEach t bytes In (inline_seat_events defined options bytes seats)
inline-holds defined t bytes In options seats p rest course steps inside =
    lined-holds t bytes In (inline_seat_events defined options bytes seats) seats p rest (read-lined t bytes defined options.constructs seats p rest course steps options.gfm_strikethrough_single_tilde) (inline-tight defined options bytes seats) course inside

-- So void spans of what texts are read as hold only text
module _ (defined : List ℕ → Bool) (g : Given) (text : Text) (is : IsText g text) where
  abbrev start : Point
  start = shown g.bytes text.start

  abbrev on : Constructs
  on = g.options.constructs

  own-course : Course AcrossGap g.tab g.bytes start (text.seats ++ [])
  own-course = subst (Course AcrossGap g.tab g.bytes start) (sym (append-nil text.seats)) (text-course g text is)

  own-steps : AllByRecursion (Steps g.bytes) text.seats
  own-steps = course-every AcrossGap g.tab g.bytes (Steps g.bytes) (steps-virtual g.bytes g.tab) start text.seats (text-course g text is)

  own-seats : AllByRecursion (Contains text.seats) text.seats
  own-seats = recursion_from_All (Contains text.seats) text.seats (All-contains_itself text.seats)

  pub inlines-hold-text : HoldsOnlyText g text (inline_events defined g text)
  inlines-hold-text = held-at g text (inline_events defined g text) (inline-holds defined g.tab g.bytes (Contains text.seats) g.options text.seats start [] own-course own-steps own-seats)
