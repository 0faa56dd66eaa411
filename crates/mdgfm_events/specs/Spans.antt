-- Spans among events, by the events behind their enters.
use Rattle.std.specs.Prelude.{ℕ, ◌+◌, ◌-◌, ◌==◌, cond, List, [], ◌∷◌}
use Rattle.markdown_base.specs.declared.event.Event.{Event}
use Rattle.markdown_base.specs.declared.event.Point.{Point}
use Rattle.markdown_base.specs.Events.{is_enter}

-- How many events a span has behind its enter, by the events there: up to its exit, and with it. So many spans in it are open
abbrev pub span_size : (opened : ℕ) → List Event → ℕ
span_size opened [] = 0
span_size opened (e ∷ es) =
    let inside = span_size (opened + 1) es + 1 in
    let outside = span_size (opened - 1) es + 1 in
    cond (is_enter e.kind) inside (cond (opened == 0) 1 outside)

-- the place of its exit; that of its enter, if there is none
abbrev pub span_end : (enter : Point) → (opened : ℕ) → List Event → Point
span_end p opened [] = p
span_end p opened (e ∷ es) =
    let inside = span_end p (opened + 1) es in
    let outside = span_end p (opened - 1) es in
    cond (is_enter e.kind) inside (cond (opened == 0) e.point outside)
