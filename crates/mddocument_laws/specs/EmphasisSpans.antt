-- The spans of emphasis and strikethrough that a list of events has, and those that pairs of delimiter runs make (CommonMark 0.31, 6.2; GFM 0.29, 6.5).
use Rattle.std.specs.Prelude.{ℕ, ◌+◌, ◌-◌, ◌==◌, ◌||◌, Bool, cond, List, [], ◌∷◌, ◌++◌, drop, option_map, slice_get, unwrap_or}
use Rattle.markdown_base.specs.declared.event.Event.{Event}
use Rattle.markdown_base.specs.declared.event.Name.{Name}
use Rattle.markdown_base.specs.declared.event.Name.TheVariants.{Emphasis, GfmStrikethrough, Strong}
use Rattle.markdown_base.specs.declared.event.Point.{Point}
use Rattle.markdown_base.specs.Events.{is_enter, same_name}
use Rattle.markdown_base.specs.Virtual.{point}
use Rattle.mdinline_emphasis.specs.Emphasis.{Pair, Run, later, markers_of, markers_of_all, outer_name, pairs, styles}

-- A span of emphasis: where its opening sequence begins, where its closing sequence ends, and its name. Emphasis, strong emphasis and strikethrough
-- have a name each
pub record EmphasisSpan : Type 0 where
  pub start : Point
  pub end : Point
  pub name : Name

abbrev pub is_emphasis : Name → Bool
is_emphasis name = same_name name Emphasis || (same_name name Strong || same_name name GfmStrikethrough)

-- the span that an exit ends: the last one that is open
abbrev pub ended_span : List Point → Event → List EmphasisSpan
ended_span [] e = []
ended_span (start ∷ starts) e = record { start = start; end = e.point; name = e.name } ∷ []

-- the spans of emphasis that end among events, if open ones begin at these places, the last one first
abbrev pub spans_behind : (starts : List Point) → List Event → List EmphasisSpan
spans_behind starts [] = []
spans_behind starts (e ∷ es) =
    cond (is_emphasis e.name)
    (cond (is_enter e.kind) (spans_behind (e.point ∷ starts) es) (ended_span starts e ++ spans_behind (drop 1 starts) es))
    (spans_behind starts es)

-- The spans of emphasis of a list of events, in the order of their ends
abbrev pub emphasis_spans : List Event → List EmphasisSpan
emphasis_spans events = spans_behind [] events

-- how many markers the pairs take, of some, that a test takes
abbrev pub markers_given : (Pair → Bool) → List Pair → ℕ
markers_given takes ps = markers_of_all (styles takes ps)

-- a place in the run of a number, so many bytes behind its beginning
abbrev pub place_in_run : List Run → ℕ → (Run → ℕ) → Point
place_in_run rs n bytes = unwrap_or (option_map (λ (r : Run). later (bytes r) r.start) (slice_get rs n)) (point 1 1 0 0)

-- The span of a pair, by the pairs that were made before it: an opener gives its markers from its end on, and a closer from its beginning on
abbrev pub span_of_pair : List Run → (before : List Pair) → Pair → EmphasisSpan
span_of_pair rs before p = record {
  start = place_in_run rs p.opener (λ r. r.left - (markers_given (λ q. q.opener == p.opener) before + markers_of p.style));
  end = place_in_run rs p.closer (λ r. markers_given (λ q. q.closer == p.closer) before + markers_of p.style);
  name = outer_name p.style;
}

abbrev pub spans_of_pairs : List Run → (before : List Pair) → List Pair → List EmphasisSpan
spans_of_pairs rs before [] = []
spans_of_pairs rs before (p ∷ ps) = span_of_pair rs before p ∷ spans_of_pairs rs (before ++ p ∷ []) ps

-- The spans of emphasis of delimiter runs that pair among themselves: one for each pair
abbrev pub spans_of_runs : List Run → List EmphasisSpan
spans_of_runs rs = spans_of_pairs rs [] (pairs rs)
