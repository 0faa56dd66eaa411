-- Events with autolink literals in place of the data that they cover.
use Rattle.std.specs.Prelude.{ℕ, zero, suc, nat_le, nat_lt, true, cond, List, [], ◌∷◌, ◌++◌, take}
use Rattle.markdown_base.specs.declared.configuration.ParseOptions.{ParseOptions}
use Rattle.markdown_base.specs.declared.event.Event.{Event}
use Rattle.markdown_base.specs.declared.event.Name.TheVariants.{Data}
use Rattle.markdown_base.specs.declared.event.Point.{Point}
use Rattle.markdown_base.specs.Virtual.{point}
use Rattle.mdgfm_literals.specs.declared.texts.Literal.{Literal}
use Rattle.mdgfm_events.specs.Places.{later, leaf, place_at}
use Rattle.mdgfm_events.specs.Spans.{span_end, span_size}
use Rattle.mdgfm_literals.specs.Stretches.{depth_behind, is_text, literals_of}

-- where a literal begins that comes behind a place, and where it ends
abbrev pub start_of : (tab : ℕ) → List ℕ → (from : Point) → Literal → Point
start_of tab bytes from l = place_at tab bytes from l.from

abbrev pub end_of : (tab : ℕ) → List ℕ → (from : Point) → Literal → Point
end_of tab bytes from l = place_at tab bytes (start_of tab bytes from l) l.to

-- data from a place up to a literal, and the literal
abbrev pub with_one : (tab : ℕ) → List ℕ → (from : Point) → Literal → List Event
with_one tab bytes from l =
    leaf Data from (start_of tab bytes from l) ++ leaf l.name (start_of tab bytes from l) (end_of tab bytes from l)

-- What was written of literals: events, where the last one ended, and those that are left
pub record Written : Type 0 where
  pub events : List Event
  pub place : Point
  pub left : List Literal

-- The literals that begin in a span, which begins at a place and ends at an index. The last literal before it ended at `place`
abbrev pub written : (tab : ℕ) → List ℕ → (first : Point) → (stop : ℕ) → (place : Point) → List Literal → Written
written tab bytes first stop place [] = record { events = []; place = place; left = [] }
written tab bytes first stop place (l ∷ ls) =
    let from = later place first in
    let more = written tab bytes first stop (end_of tab bytes from l) ls in
    let one = record more { events = with_one tab bytes from l ++ more.events } in
    cond (nat_lt l.from stop) one (record { events = []; place = place; left = l ∷ ls })

-- What literals that end at a place leave of a span: the span itself, if they do not reach it; data behind them
abbrev pub left_over : (place first last : Point) → (span : List Event) → List Event
left_over place first last span = cond (nat_le place.index first.index) span (leaf Data place last)

-- Events with these literals, behind the first `skip`. The last literal before them ended at `place`
abbrev pub events_with : (tab : ℕ) → List ℕ → (skip depth : ℕ) → (place : Point) → List Literal → List Event → List Event
events_with tab bytes skip depth place ls [] = []
events_with tab bytes (suc skip) depth place ls (e ∷ es) = events_with tab bytes skip depth place ls es
events_with tab bytes zero depth place ls (e ∷ es) =
    let n = span_size 0 es in
    let last = span_end e.point 0 es in
    let w = written tab bytes e.point last.index place ls in
    let text = w.events ++ (left_over w.place e.point last (e ∷ take n es) ++ events_with tab bytes n depth w.place w.left es) in
    let other = e ∷ events_with tab bytes 0 (depth_behind depth e) place ls es in
    cond (is_text depth e) text other

-- The events with literals, if they are on
abbrev pub literal_events : ParseOptions → List ℕ → List Event → List Event
literal_events options bytes events =
    cond options.constructs.gfm_autolink_literal (events_with options.tab_size bytes 0 0 (point 1 1 0 0) (literals_of bytes true 0 0 events) events) events
