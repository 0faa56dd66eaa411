-- What links keep between places: a property of lists of events that go from a place to a place. What a place is, is left open: a point, the
-- virtual bytes that are left, or nothing at all.
use Rattle.std.specs.Prelude.{◌≡◌, ◌||◌, ◌-◌, ◌<◌, ℕ, Bool, true, List, [], ◌∷◌, ◌++◌, length, slice_get}
use Rattle.markdown_base.specs.declared.event.Event.{Event}
use Rattle.markdown_base.specs.declared.event.Name.{Name}
use Rattle.markdown_base.specs.declared.event.Name.TheVariants.{LabelMarker, LabelText}
use Rattle.markdown_base.specs.Events.{IsBalanced}
use Rattle.mdinline_emphasis.specs.Emphasis.{Run, paired}
use Rattle.mdinline_emphasis.specs.RunEdits.{in_place}
use Rattle.mdinline_emphasis.specs.Runs.{is_sequence, marker_from}
use Rattle.mdinline_links.specs.Kept.{IsFresh, is_made_of}
use Rattle.mdinline_links.specs.Linked.{Part, run, events, around, as_data, is_bracket, is_named, last_place, runs_of_parts, spanning}

-- Two events are the enter and the exit of this run, which is in no pair yet
pub record IsRunOf (bytes : List ℕ) (r : Run) (e f : Event) : Type 0 where
  pub is : is_sequence e f ≡ true
  pub fresh : IsFresh r
  pub start : r.start ≡ e.point
  pub many : r.left ≡ f.point.index - e.point.index
  pub marker : r.marker ≡ marker_from (slice_get bytes e.point.index)

-- a span that data may take the place of: a bracket, or a `]` that makes nothing
abbrev pub is_marked : List Event → Bool
is_marked span = is_bracket span || is_named LabelMarker span

-- the events of parts, with these runs in the place of theirs
abbrev pub with_runs : List Part → List Run → List Event
with_runs [] rs = []
with_runs (run r ∷ ps) [] = with_runs ps []
with_runs (run r ∷ ps) (s ∷ ss) = in_place s ++ with_runs ps ss
with_runs (events es ∷ ps) rs = es ++ with_runs ps rs

-- `B` is the property, and `R` what a run between two places is
module _ (Q : Type 0) (B : Q → List Event → Q → Type 0) (R : Q → Run → Q → Type 0) where
  -- a part goes from a place to a place
  abbrev pub IsPart : Q → Part → Q → Type 0
  IsPart p (run r) q = R p r q × IsFresh r × (0 < r.left)
  IsPart p (events es) q = B p es q × IsBalanced es × (0 < length es)

  -- parts do, each from where the one before it ends
  abbrev pub AreParts : Q → List Part → Q → Type 0
  AreParts p [] q = p ≡ q
  AreParts p (part ∷ ps) q = (m : Q) × IsPart p part m × AreParts m ps q

-- `B` holds of two lists together, if it holds of both
abbrev pub HoldsTogether : (Q : Type 0) → (Q → List Event → Q → Type 0) → Type 0
HoldsTogether Q B = (p m q : Q) (xs ys : List Event) → IsBalanced xs → IsBalanced ys → B p xs m → B m ys q → B p (xs ++ ys) q

-- and of a span around a list
abbrev pub HoldsAround : (Q : Type 0) → (Q → List Event → Q → Type 0) → Type 0
HoldsAround Q B = (p q : Q) (name : Name) (e : Event) (es : List Event) → is_made_of name ≡ true → IsBalanced (e ∷ es) → B p (e ∷ es) q → B p (around name (e ∷ es)) q

-- and of a bracket, the span of a text and an end
abbrev pub HoldsAroundText : (Q : Type 0) → (Q → List Event → Q → Type 0) → Type 0
HoldsAroundText Q B =
    (p m n q : Q) (e : Event) (es text : List Event) (f : Event) (fs : List Event) → 0 < length text → IsBalanced (e ∷ es) → IsBalanced text → B p (e ∷ es) m → B m text n
    → B n (f ∷ fs) q → B p ((e ∷ es) ++ (spanning LabelText (last_place e.point es) (last_place (last_place e.point es) text) text ++ f ∷ fs)) q

-- `A` is the property of what is read, `B` that of what is made, and `T` what is known of each outermost span besides. `A` holds of both parts of
-- a list, and gives `B`; `B` holds of nothing, of two lists together, of a span around a list, of data in the place of a span that may be data, of a
-- bracket, the span of a text and an end, and of what emphasis makes of parts
pub record IsKeptBetween (bytes : List ℕ) (T : List Event → Type 0) (Q : Type 0) (A B : Q → List Event → Q → Type 0) (R : Q → Run → Q → Type 0) : Type 0 where
  pub apart : (p q : Q) (xs ys : List Event) → IsBalanced xs → IsBalanced ys → A p (xs ++ ys) q → (m : Q) × A p xs m × A m ys q
  pub same : (p q : Q) (es : List Event) → IsBalanced es → A p es q → B p es q
  pub run_of : (p q : Q) (r : Run) (e f : Event) → IsRunOf bytes r e f → T (e ∷ f ∷ []) → A p (e ∷ f ∷ []) q → R p r q × (0 < r.left)
  pub data_of_it : (p q : Q) (e : Event) (es : List Event) → is_marked (e ∷ es) ≡ true → T (e ∷ es) → A p (e ∷ es) q → B p (as_data (e ∷ es)) q
  pub nothing : (q : Q) → B q [] q
  pub together : HoldsTogether Q B
  pub around_it : HoldsAround Q B
  pub text_around : HoldsAroundText Q B
  pub emphasis : (p q : Q) (ps : List Part) → AreParts Q B R p ps q → B p (with_runs ps (paired (runs_of_parts ps))) q
