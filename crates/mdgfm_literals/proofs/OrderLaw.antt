-- The order of place is kept: events with literals go forward, and none is between a CR and its LF.
use Rattle.std.proofs.Common.{◌≡◌, ℕ, zero, suc, ◌+◌, ◌-◌, ◌++◌, Bool, true, false, cond, List, [], ◌∷◌, take, refl, ap, ◌∙◌}
use Rattle.std.proofs.Math.Bool.{and-false}
use Rattle.std.proofs.lemmas.List.Elements.{All-from_recursion, recursion_from_All}
use Rattle.std.specs.List.{AllByRecursion}
use Rattle.std.specs.Prelude.{◌==◌, ◌&&◌, nat_le, nat_lt, slice_index}
use Rattle.markdown_base.specs.declared.event.Event.{Event}
use Rattle.markdown_base.specs.declared.event.Kind.TheVariants.{Enter, Exit}
use Rattle.markdown_base.specs.declared.event.Name.{Name}
use Rattle.markdown_base.specs.declared.event.Name.TheVariants.{Data}
use Rattle.markdown_base.specs.declared.event.Point.{Point}
use Rattle.markdown_base.specs.Events.{IsInOrder, is_enter}
use Rattle.markdown_base.specs.Places.{IsShown, follows_cr}
use Rattle.markdown_base.specs.Virtual.{point}
use Rattle.markdown_base.proofs.Common.{every-append, every-map, every-take}
use Rattle.mdgfm_literals.specs.declared.texts.Literal.{Literal}
use Rattle.mdgfm_literals.specs.Laws.{OrderIsKept}
use Rattle.mdgfm_literals.specs.LiteralEvents.{Written, end_of, events_with, left_over, start_of, with_one, written}
use Rattle.mdgfm_events.specs.Places.{event, later, leaf, place_at}
use Rattle.mdgfm_events.specs.Spans.{span_end, span_size}
use Rattle.mdgfm_literals.specs.Stretches.{depth_behind, is_fresh, is_text, literals_between, literals_of, reach}
use Rattle.mdgfm_literals.proofs.Fits.{LiesIn, Rise, all-fit, between-lies, literals-rise, past-start}
use Rattle.mdgfm_literals.proofs.Names.{either-all}
use Rattle.mdgfm_literals.proofs.Order.{Goes, beyond, goes-pairs, goes-rise, pairs-go-all, start-comes, with-goes}

module _ (bytes : List ℕ) where
  -- a literal has no line ending at either end
  abbrev pub HasNone : Literal → Type 0
  HasNone l = ((slice_index bytes l.from == 10) ≡ false) × (follows_cr bytes l.to ≡ false)

  have-none : (fresh : Bool) (depth skip : ℕ) (es : List Event) → AllByRecursion HasNone (literals_of bytes fresh depth skip es)
  have-none fresh depth skip [] = tt
  have-none fresh depth (suc skip) (e ∷ es) = have-none fresh depth skip es
  have-none fresh depth zero (e ∷ es) =
      let s = reach (span_size 0 es) (span_end e.point 0 es).index es in
      let here = literals_between bytes fresh e.point.index s.stop in
      either-all HasNone (is_text depth e) (here ++ literals_of bytes false depth s.size es) (literals_of bytes (is_fresh e) (depth_behind depth e) 0 es)
      (every-append HasNone here (literals_of bytes false depth s.size es) (every-map (LiesIn bytes e.point.index s.stop) HasNone (λ l h. (h.first, h.last)) here (between-lies bytes fresh e.point.index s.stop).1)
      (have-none false depth s.size es))
      (have-none (is_fresh e) (depth_behind depth e) 0 es)

  abbrev pub Shows : Event → Type 0
  Shows e = IsShown bytes e.point

  pub shown-from : (p : Point) → (slice_index bytes p.index == 10) ≡ false → IsShown bytes p
  shown-from p h = ap (λ t. cond (t && follows_cr bytes p.index) (record { line = p.line; column = p.column; index = p.index - 1; vs = p.vs }) p) h

  pub shown-to : (p : Point) → follows_cr bytes p.index ≡ false → IsShown bytes p
  shown-to p h =
      ap (λ t. cond ((slice_index bytes p.index == 10) && t) (record { line = p.line; column = p.column; index = p.index - 1; vs = p.vs }) p) h
      ∙ ap (λ t. cond t (record { line = p.line; column = p.column; index = p.index - 1; vs = p.vs }) p) (and-false (slice_index bytes p.index == 10))

  later-shown : (p q : Point) → IsShown bytes p → IsShown bytes q → IsShown bytes (later p q)
  later-shown p q h k = by (nat_le p.index q.index)
    where
      by : (t : Bool) → IsShown bytes (cond t q p)
      by true = k
      by false = h

  end-shown : (p : Point) (n : ℕ) (es : List Event) → IsShown bytes p → AllByRecursion Shows es → IsShown bytes (span_end p n es)
  end-shown p n [] h all = h
  end-shown p n (e ∷ es) h all = by (is_enter e.kind) (n == 0) (end-shown p (n + 1) es h all.1) (end-shown p (n - 1) es h all.1)
    where
      by : (b z : Bool) → IsShown bytes (span_end p (n + 1) es) → IsShown bytes (span_end p (n - 1) es) → IsShown bytes (cond b (span_end p (n + 1) es) (cond z e.point (span_end p (n - 1) es)))
      by true z i o = i
      by false true i o = all.0
      by false false i o = o

  pub leaf-shows : (n : Name) (p q : Point) → IsShown bytes p → IsShown bytes q → AllByRecursion Shows (leaf n p q)
  leaf-shows n p q h k = either-all Shows (nat_lt p.index q.index) (event Enter n p ∷ event Exit n q ∷ []) [] (h, (k, tt)) tt

  module _ (tab : ℕ) where
    pub at-shown : (p : Point) (i : ℕ) → IsShown bytes p → IsShown bytes (beyond tab bytes p i) → IsShown bytes (place_at tab bytes p i)
    at-shown p i h k = by (nat_le i p.index)
      where
        by : (t : Bool) → IsShown bytes (cond t p (beyond tab bytes p i))
        by true = h
        by false = k

    start-shown : (p : Point) (l : Literal) → IsShown bytes p → HasNone l → IsShown bytes (start_of tab bytes p l)
    start-shown p l h k = at-shown p l.from h (shown-from (beyond tab bytes p l.from) k.0)

    end-of-shown : (p : Point) (l : Literal) → IsShown bytes p → HasNone l → IsShown bytes (end_of tab bytes p l)
    end-of-shown p l h k = at-shown (start_of tab bytes p l) l.to (start-shown p l h k) (shown-to (beyond tab bytes (start_of tab bytes p l) l.to) k.1)

    one-shows : (p : Point) (l : Literal) → IsShown bytes p → HasNone l → AllByRecursion Shows (with_one tab bytes p l)
    one-shows p l h k =
        every-append Shows (leaf Data p (start_of tab bytes p l)) (leaf l.name (start_of tab bytes p l) (end_of tab bytes p l))
        (leaf-shows Data p (start_of tab bytes p l) h (start-shown p l h k)) (leaf-shows l.name (start_of tab bytes p l) (end_of tab bytes p l) (start-shown p l h k) (end-of-shown p l h k))

    -- what is written, its last place, and what is left
    written-shows : (first : Point) (stop : ℕ) (place : Point) (ls : List Literal) → IsShown bytes first → IsShown bytes place → AllByRecursion HasNone ls
        → AllByRecursion Shows (written tab bytes first stop place ls).events × IsShown bytes (written tab bytes first stop place ls).place × AllByRecursion HasNone (written tab bytes first stop place ls).left
    written-shows first stop place [] f p h = (tt, p, tt)
    written-shows first stop place (l ∷ ls) f p h =
        by (nat_lt l.from stop) (written tab bytes first stop (end_of tab bytes (later place first) l) ls)
        (written-shows first stop (end_of tab bytes (later place first) l) ls f (end-of-shown (later place first) l (later-shown place first p f) h.0) h.1)
      where
        by : (b : Bool) (more : Written) → AllByRecursion Shows more.events × IsShown bytes more.place × AllByRecursion HasNone more.left
            → AllByRecursion Shows (cond b (record more { events = with_one tab bytes (later place first) l ++ more.events }) (record { events = []; place = place; left = l ∷ ls })).events
            × IsShown bytes (cond b (record more { events = with_one tab bytes (later place first) l ++ more.events }) (record { events = []; place = place; left = l ∷ ls })).place
            × AllByRecursion HasNone (cond b (record more { events = with_one tab bytes (later place first) l ++ more.events }) (record { events = []; place = place; left = l ∷ ls })).left
        by true more k =
            (every-append Shows (with_one tab bytes (later place first) l) more.events (one-shows (later place first) l (later-shown place first p f) h.0) k.0, k.1, k.2)
        by false more k = (tt, p, h)

    pub with-shows : (skip depth : ℕ) (place : Point) (ls : List Literal) (es : List Event) → IsShown bytes place → AllByRecursion HasNone ls → AllByRecursion Shows es
        → AllByRecursion Shows (events_with tab bytes skip depth place ls es)
    with-shows skip depth place ls [] p h k = tt
    with-shows (suc skip) depth place ls (e ∷ es) p h k = with-shows skip depth place ls es p h k.1
    with-shows zero depth place ls (e ∷ es) p h k =
        let n = span_size 0 es in
        let last = span_end e.point 0 es in
        let w = written tab bytes e.point last.index place ls in
        let v = written-shows e.point last.index place ls k.0 p h in
        let here = left_over w.place e.point last (e ∷ take n es) in
        let rest = events_with tab bytes n depth w.place w.left es in
        either-all Shows (is_text depth e) (w.events ++ (here ++ rest)) (e ∷ events_with tab bytes 0 (depth_behind depth e) place ls es)
        (every-append Shows w.events (here ++ rest) v.0
        (every-append Shows here rest
        (either-all Shows (nat_le w.place.index e.point.index) (e ∷ take n es) (leaf Data w.place last) (k.0, every-take Shows n es k.1) (leaf-shows Data w.place last v.1 (end-shown e.point 0 es k.0 k.1)))
        (with-shows n depth w.place w.left es v.1 v.2 k.1)))
        (k.0, with-shows 0 (depth_behind depth e) place ls es p h k.1)

pub start-shown-at : (bytes : List ℕ) → IsShown bytes (point 1 1 0 0)
start-shown-at bytes = shown-to bytes (point 1 1 0 0) refl

pub order-kept : OrderIsKept
order-kept options bytes events order = by options.constructs.gfm_autolink_literal
  where
    start : Point
    start = point 1 1 0 0

    goes : Goes start events
    goes = pairs-go-all start events refl refl order.0

    rise : Rise 0 events
    rise = goes-rise start events goes

    ls : List Literal
    ls = literals_of bytes true 0 0 events

    by : (t : Bool) → IsInOrder bytes (cond t (events_with options.tab_size bytes 0 0 start ls events) events)
    by true =
        let all = events_with options.tab_size bytes 0 0 start ls events in (
          goes-pairs start all
              (with-goes options.tab_size bytes 0 0 start ls events start refl (literals-rise bytes true 0 0 0 events rise) (all-fit bytes true 0 0 0 events rise) (past-start 0 0 events) (start-comes start start events refl goes)),
          All-from_recursion (Shows bytes) all
              (with-shows bytes options.tab_size 0 0 start ls events (start-shown-at bytes) (have-none bytes true 0 0 events) (recursion_from_All (Shows bytes) events order.1)),
        )
    by false = order
