-- Literals are few: no more than bytes, and they make few events.
use Rattle.std.proofs.Common.{◌≡◌, ℕ, zero, suc, ◌+◌, ◌*◌, ◌≤◌, ◌++◌, Bool, true, false, cond, List, [], ◌∷◌, length, drop, take, refl, sym, ap, ◌∙◌, arith}
use Rattle.std.proofs.lemmas.List.{length-append, take-append-drop}
use Rattle.std.specs.List.{AllByRecursion}
use Rattle.std.specs.Prelude.{nat_le, nat_lt}
use Rattle.markdown_base.specs.declared.event.Event.{Event}
use Rattle.markdown_base.specs.declared.event.Name.{Name}
use Rattle.markdown_base.specs.declared.event.Name.TheVariants.{Data}
use Rattle.markdown_base.specs.declared.event.Point.{Point}
use Rattle.markdown_base.specs.Virtual.{point}
use Rattle.mdgfm_literals.specs.declared.texts.Literal.{Literal}
use Rattle.mdgfm_literals.specs.Laws.{EventsStayFew}
use Rattle.mdgfm_literals.specs.LiteralEvents.{Written, end_of, events_with, left_over, start_of, with_one, written}
use Rattle.mdgfm_events.specs.Places.{later, leaf}
use Rattle.mdgfm_events.specs.Spans.{span_end, span_size}
use Rattle.mdgfm_literals.specs.Stretches.{depth_behind, is_text, literals_of}
use Rattle.mdgfm_literals.proofs.Below.{literals-below}
use Rattle.mdgfm_literals.proofs.Fits.{Ascend, Rise, from-zero, literals-rise}
use Rattle.mdgfm_literals.proofs.Order.{goes-rise, leaf-events, pairs-go-all}

-- literals that rise up to an index
ascend-few : (i most : ℕ) (ls : List Literal) → Ascend i ls → AllByRecursion (λ (l : Literal). l.to ≤ most) ls → i ≤ most → i + length ls ≤ most
ascend-few i most [] a all h = let goal : i + 0 ≤ most = omega (arith, h) in goal
ascend-few i most (l ∷ ls) a all h = let more = ascend-few l.to most ls a.2 all.1 all.0 in let low = a.0 in let some = a.1 in let goal : i + suc (length ls) ≤ most = omega (arith, more, low, some) in goal

module _ (tab : ℕ) (bytes : List ℕ) where
  pub leaf-few : (n : Name) (p q : Point) → length (leaf n p q) ≤ 2
  leaf-few n p q = by (nat_lt p.index q.index)
    where
      by : (t : Bool) → length (cond t (leaf-events n p q) []) ≤ 2
      by true = let goal : 2 ≤ 2 = omega arith in goal
      by false = let goal : 0 ≤ 2 = omega arith in goal

  one-few : (p : Point) (l : Literal) → length (with_one tab bytes p l) ≤ 4
  one-few p l =
      let s = start_of tab bytes p l in
      let e = end_of tab bytes p l in
      let long = length-append (leaf Data p s) (leaf l.name s e) in
      let first = leaf-few Data p s in
      let last = leaf-few l.name s e in
      omega (arith, long, first, last)

  written-few : (first : Point) (stop : ℕ) (place : Point) (ls : List Literal)
      → length (written tab bytes first stop place ls).events + 4 * length (written tab bytes first stop place ls).left ≤ 4 * length ls
  written-few first stop place [] = let goal : 0 + 4 * 0 ≤ 4 * 0 = omega arith in goal
  written-few first stop place (l ∷ ls) =
      by (nat_lt l.from stop) (written tab bytes first stop (end_of tab bytes (later place first) l) ls) (written-few first stop (end_of tab bytes (later place first) l) ls)
    where
      by : (t : Bool) (more : Written) → length more.events + 4 * length more.left ≤ 4 * length ls
          → length (cond t (record more { events = with_one tab bytes (later place first) l ++ more.events }) (record { events = []; place = place; left = l ∷ ls })).events
          + 4 * length (cond t (record more { events = with_one tab bytes (later place first) l ++ more.events }) (record { events = []; place = place; left = l ∷ ls })).left ≤ 4 * suc (length ls)
      by true more h =
          let long : length (with_one tab bytes (later place first) l ++ more.events) ≡ length (with_one tab bytes (later place first) l) + length more.events = length-append (with_one tab bytes (later place first) l) more.events in
          let one : length (with_one tab bytes (later place first) l) ≤ 4 = one-few (later place first) l in
          let goal : length (with_one tab bytes (later place first) l ++ more.events) + 4 * length more.left ≤ 4 * suc (length ls) = omega (arith, h, long, one) in
          goal
      by false more h = let goal : 0 + 4 * suc (length ls) ≤ 4 * suc (length ls) = omega arith in goal

  left-few : (place first last : Point) (span : List Event) → length (left_over place first last span) ≤ length span + 2
  left-few place first last span = by (nat_le place.index first.index)
    where
      by : (t : Bool) → length (cond t span (leaf Data place last)) ≤ length span + 2
      by true = let goal : length span ≤ length span + 2 = omega arith in goal
      by false = let few = leaf-few Data place last in let goal : length (leaf Data place last) ≤ length span + 2 = omega (arith, few) in goal

  pub with-few : (skip depth : ℕ) (place : Point) (ls : List Literal) (es : List Event) → length (events_with tab bytes skip depth place ls es) ≤ 3 * length (drop skip es) + 4 * length ls
  with-few skip depth place ls [] = from-zero _
  with-few (suc skip) depth place ls (e ∷ es) = with-few skip depth place ls es
  with-few zero depth place ls (e ∷ es) =
      by (is_text depth e)
      (with-few (span_size 0 es) depth (written tab bytes e.point (span_end e.point 0 es).index place ls).place (written tab bytes e.point (span_end e.point 0 es).index place ls).left es)
      (with-few 0 (depth_behind depth e) place ls es)
    where
      n : ℕ
      n = span_size 0 es

      q : Point
      q = span_end e.point 0 es

      w : Written
      w = written tab bytes e.point q.index place ls

      here : List Event
      here = left_over w.place e.point q (e ∷ take n es)

      rest : List Event
      rest = events_with tab bytes n depth w.place w.left es

      other : List Event
      other = events_with tab bytes 0 (depth_behind depth e) place ls es

      both : length (take n es) + length (drop n es) ≡ length es
      both = sym (length-append (take n es) (drop n es)) ∙ ap (λ (ts : List Event). length ts) (take-append-drop n es)

      by : (t : Bool) → length rest ≤ 3 * length (drop n es) + 4 * length w.left → length other ≤ 3 * length es + 4 * length ls
          → length (cond t (w.events ++ (here ++ rest)) (e ∷ other)) ≤ 3 * suc (length es) + 4 * length ls
      by true h k =
          let all : length (w.events ++ (here ++ rest)) ≡ length w.events + length (here ++ rest) = length-append w.events (here ++ rest) in
          let behind : length (here ++ rest) ≡ length here + length rest = length-append here rest in
          let left : length here ≤ suc (length (take n es)) + 2 = left-few w.place e.point q (e ∷ take n es) in
          let few : length w.events + 4 * length w.left ≤ 4 * length ls = written-few e.point q.index place ls in
          let whole = both in
          let goal : length (w.events ++ (here ++ rest)) ≤ 3 * suc (length es) + 4 * length ls = omega (arith, all, behind, left, few, whole, h) in
          goal
      by false h k = let goal : suc (length other) ≤ 3 * suc (length es) + 4 * length ls = omega (arith, k) in goal

pub events-few : EventsStayFew
events-few options bytes events order inside = by options.constructs.gfm_autolink_literal
  where
    start : Point
    start = point 1 1 0 0

    rise : Rise 0 events
    rise = goes-rise start events (pairs-go-all start events refl refl order.0)

    ls : List Literal
    ls = literals_of bytes true 0 0 events

    by : (t : Bool) → length (cond t (events_with options.tab_size bytes 0 0 start ls events) events) ≤ 3 * length events + 4 * length bytes
    by true =
        let many : 0 + length ls ≤ length bytes = ascend-few 0 (length bytes) ls (literals-rise bytes true 0 0 0 events rise) (literals-below (length bytes) bytes true 0 0 events inside) (omega arith) in
        let few : length (events_with options.tab_size bytes 0 0 start ls events) ≤ 3 * length events + 4 * length ls = with-few options.tab_size bytes 0 0 start ls events in
        let goal : length (events_with options.tab_size bytes 0 0 start ls events) ≤ 3 * length events + 4 * length bytes = omega (arith, many, few) in
        goal
    by false = let goal : length events ≤ 3 * length events + 4 * length bytes = omega arith in goal
