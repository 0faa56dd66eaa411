-- Which delimiter runs of a text pair among themselves: those in the text of each link and image, and the others (CommonMark 0.31, 6.2, rule 17:
-- "Inline code spans, links, images, and HTML tags group more tightly than emphasis"; and the appendix, "look for link or image").
use Rattle.std.specs.Prelude.{ℕ, Bool, cond, List, [], ◌∷◌, ◌++◌}
use Rattle.std.specs.List.{flat_map}
use Rattle.markdown_base.specs.declared.event.Event.{Event}
use Rattle.markdown_base.specs.declared.event.Name.TheVariants.{LabelEnd}
use Rattle.mdinline_emphasis.specs.Emphasis.{Run}
use Rattle.mdinline_emphasis.specs.Runs.{runs_in}
use Rattle.mdinline_links.specs.Linked.{SoFar, Waiting, all_parts, ended, is_named, is_tail, outermost_spans, runs_of_parts, taken}
use Rattle.mddocument_laws.specs.EmphasisSpans.{EmphasisSpan, spans_of_runs}

-- where a `]` makes a link or an image: the runs in its text, which are those behind the last bracket that waits
abbrev pub runs_inside : List Waiting → SoFar → List (List Run)
runs_inside [] z = []
runs_inside (w ∷ ws) z = runs_of_parts z.behind ∷ []

-- at the end of a text: the runs that are in no link or image
abbrev pub runs_outside : SoFar → List (List Run)
runs_outside z = runs_of_parts (all_parts z.waiting z.behind) ∷ []

-- along the fold over the spans of a text
abbrev pub runs_apart_from : SoFar → List (List Event) → List (List Run)
runs_apart_from z [] = runs_outside z
runs_apart_from z (span ∷ []) = cond (is_named LabelEnd span) (runs_inside z.waiting z ++ runs_outside (ended span [] z.waiting z)) (runs_outside (taken span z))
runs_apart_from z (span ∷ next ∷ spans) =
    cond (is_named LabelEnd span)
    (runs_inside z.waiting z ++ cond (is_tail next) (runs_apart_from (ended span next z.waiting z) spans) (runs_apart_from (ended span [] z.waiting z) (next ∷ spans)))
    (runs_apart_from (taken span z) (next ∷ spans))

-- The delimiter runs of a text, with strikethrough by one tilde or without, by which of them pair among themselves
abbrev pub runs_apart : (one_tilde : Bool) → (bytes : List ℕ) → List Event → List (List Run)
runs_apart one_tilde bytes es = runs_apart_from (record { waiting = []; behind = []; runs = runs_in one_tilde bytes es }) (outermost_spans es)

-- The spans of emphasis of a text: one for each pair of its runs
abbrev pub spans_of_text : (one_tilde : Bool) → (bytes : List ℕ) → List Event → List EmphasisSpan
spans_of_text one_tilde bytes es = flat_map spans_of_runs (runs_apart one_tilde bytes es)
