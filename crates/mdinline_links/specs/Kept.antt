-- What links keep: a property of lists of events, by the places that it lets events have.
use Rattle.std.specs.Prelude.{◌≡◌, ◌||◌, ℕ, Bool, true, List, [], ◌∷◌, ◌++◌}
use Rattle.std.specs.List.{AllByRecursion}
use Rattle.markdown_base.specs.declared.event.Event.{Event}
use Rattle.markdown_base.specs.declared.event.Name.{Name}
use Rattle.markdown_base.specs.declared.event.Name.TheVariants.{Image, Label, LabelText, Link}
use Rattle.markdown_base.specs.declared.event.Point.{Point}
use Rattle.markdown_base.specs.Events.{same_name}
use Rattle.markdown_tokenizer.specs.Plain.{HaveNoLinks}
use Rattle.mdinline_emphasis.specs.Emphasis.{Run, emphasised}
use Rattle.mdinline_links.specs.Linked.{last_place, spanning, as_data}

-- a run in no pair yet
abbrev pub IsFresh : Run → Type 0
IsFresh r = (r.closed ≡ []) × (r.opened ≡ [])

-- a name of the spans that links and images are made of
abbrev pub is_made_of : Name → Bool
is_made_of name = same_name name Image || (same_name name Label || (same_name name LabelText || same_name name Link))

-- The property `B`, of lists whose events have places of `P`, holds of nothing, of two lists together, of a span around a list, of data, and of
-- what emphasis makes of lists between fresh runs
pub record IsKept (P : Point → Type 0) (B : List Event → Type 0) (F : Run → Type 0) : Type 0 where
  pub places : (e : Event) (es : List Event) → B (e ∷ es) → P e.point × P (last_place e.point es)
  pub nothing : B []
  pub together : (xs ys : List Event) → B xs → B ys → B (xs ++ ys)
  pub span_around : (name : Name) (start end : Point) (es : List Event) → is_made_of name ≡ true → P start → P end → B es → B (spanning name start end es)
  pub data_of_it : (es : List Event) → B es → B (as_data es)
  pub emphasis : (texts : ℕ → List Event) (rs : List Run) (rest : List Event) → ((k : ℕ) → B (texts k)) → AllByRecursion F rs → B rest → B (emphasised texts rs rest)

-- emphasis between lists without links has none
abbrev pub LeavesNoLinks : Type 0
LeavesNoLinks = (texts : ℕ → List Event) (rs : List Run) (rest : List Event) → ((k : ℕ) → HaveNoLinks (texts k)) → HaveNoLinks rest → HaveNoLinks (emphasised texts rs rest)
