use Rattle.markdown_children.proofs.Prelude.{◌≡◌, ◌++◌, ◌+◌, ◌<◌, ℕ, List, length, map, take, drop, get_or, slice_set, ap, ◌∙◌, arith, Event, relinked, table_place, length-append, length-map, length-take, length-drop, get_or_default, map_over_more}
use Rattle.markdown_children.proofs.division.place_links.Goals as goal

-- one more event is written over, where the loop is inside the list
one-more : (f : Event → Event) (xs ys : List Event) (n : ℕ) (d : Event) → ys ≡ map f (take n xs) ++ drop n xs → n < length ys → slice_set ys n (f (get_or ys n d)) ≡ map f (take (n + 1) xs) ++ drop (n + 1) xs
one-more f xs ys n d is lt =
    let within : n < length xs = omega (arith, ap length is, length-append (map f (take n xs)) (drop n xs), length-map (take n xs) f, length-take n xs, length-drop n xs) in
    map_over_more f xs ys n (get_or ys n d) within is (get_or_default ys n d (get_or ys n d) lt)

pub loop-event-preserved : goal.loop-event-preserved
loop-event-preserved c =
    ap (slice_set c.loop-event.events c.loop-event.event-index) c.place_link.ensures
    ∙ one-more (relinked (table_place c.args.chunks.now c.args.acc.0 c.args.acc.1)) c.args.events.now c.loop-event.events c.loop-event.event-index _ c.loop-event.invariant (omega (arith, c.loop-event-test.true))
