-- Examples of spans of emphasis and strikethrough, by the pairs of runs and among events, computed from the definitions.
use Rattle.std.proofs.Common.{◌≡◌, ◌+◌, ℕ, List, [], ◌∷◌, Bool, true, false, refl}
use Rattle.std.specs.Prelude.{◌%◌}
use Rattle.markdown_base.specs.declared.event.Point.{Point}
use Rattle.mdinline_emphasis.specs.declared.pairs.Style.{Style}
use Rattle.mdinline_emphasis.specs.declared.pairs.Style.TheVariants.{Emphasis as OfEmphasis, Strong as OfStrong, Struck, StruckTwice}
use Rattle.mdinline_emphasis.specs.declared.pairs.Marker.{Marker}
use Rattle.mdinline_emphasis.specs.declared.pairs.Marker.TheVariants.{Asterisk, Tilde}
use Rattle.mdinline_emphasis.specs.Emphasis.{Run, emphasised, outer_name}
use Rattle.mddocument_laws.specs.EmphasisSpans.{EmphasisSpan, emphasis_spans, spans_of_runs}

abbrev at : ℕ → Point
at i = record { line = 1; column = i + 1; index = i; vs = 0 }

-- a run of so many markers at a place, as of asterisks and of tildes
abbrev run_of : Marker → (place many : ℕ) → (opens closes : Bool) → Run
run_of marker place many opens closes = record { index = place; start = at place; marker = marker; rest = many % 3; opens = opens; closes = closes; closed = []; left = many; opened = [] }

abbrev stars : (place many : ℕ) → (opens closes : Bool) → Run
stars place many opens closes = run_of Asterisk place many opens closes

abbrev tildes : (place many : ℕ) → (opens closes : Bool) → Run
tildes place many opens closes = run_of Tilde place many opens closes

abbrev over : (start end : ℕ) → Style → EmphasisSpan
over start end style = record { start = at start; end = at end; name = outer_name style }

-- `***a***`: strong emphasis in emphasis
abbrev threes : List Run
threes = stars 0 3 true false ∷ stars 4 3 false true ∷ []

threes-pair : spans_of_runs threes ≡ over 1 6 OfStrong ∷ over 0 7 OfEmphasis ∷ []
threes-pair = refl

threes-made : emphasis_spans (emphasised (λ k. []) threes []) ≡ over 1 6 OfStrong ∷ over 0 7 OfEmphasis ∷ []
threes-made = refl

-- `*a **b***`: one run closes two pairs
abbrev both : List Run
both = stars 0 1 true false ∷ stars 3 2 true false ∷ stars 6 3 false true ∷ []

both-pair : spans_of_runs both ≡ over 3 8 OfStrong ∷ over 0 9 OfEmphasis ∷ []
both-pair = refl

both-made : emphasis_spans (emphasised (λ k. []) both []) ≡ over 3 8 OfStrong ∷ over 0 9 OfEmphasis ∷ []
both-made = refl

-- `*a **b*`: the nearer run gives one of its asterisks, and the others are text
abbrev over-one : List Run
over-one = stars 0 1 true false ∷ stars 3 2 true false ∷ stars 6 1 false true ∷ []

over-one-pair : spans_of_runs over-one ≡ over 4 7 OfEmphasis ∷ []
over-one-pair = refl

over-one-made : emphasis_spans (emphasised (λ k. []) over-one []) ≡ over 4 7 OfEmphasis ∷ []
over-one-made = refl

-- `~a~ ~~b~~`: one tilde, and two
abbrev struck : List Run
struck = tildes 0 1 true false ∷ tildes 2 1 false true ∷ tildes 4 2 true false ∷ tildes 7 2 false true ∷ []

struck-pair : spans_of_runs struck ≡ over 0 3 Struck ∷ over 4 9 StruckTwice ∷ []
struck-pair = refl

struck-made : emphasis_spans (emphasised (λ k. []) struck []) ≡ over 0 3 Struck ∷ over 4 9 StruckTwice ∷ []
struck-made = refl

-- `~~a ~b~~`: the run of another size is passed over, and is text
abbrev other-size : List Run
other-size = tildes 0 2 true false ∷ tildes 4 1 true false ∷ tildes 6 2 false true ∷ []

other-size-pair : spans_of_runs other-size ≡ over 0 8 StruckTwice ∷ []
other-size-pair = refl

other-size-made : emphasis_spans (emphasised (λ k. []) other-size []) ≡ over 0 8 StruckTwice ∷ []
other-size-made = refl

-- `*a ~b* c~`: an asterisk closes first, so the tildes do not cross it
abbrev crossing : List Run
crossing = stars 0 1 true false ∷ tildes 3 1 true false ∷ stars 5 1 false true ∷ tildes 8 1 false true ∷ []

crossing-pair : spans_of_runs crossing ≡ over 0 6 OfEmphasis ∷ []
crossing-pair = refl
