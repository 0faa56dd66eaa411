use Rattle.std.proofs.Common.{◌≡◌, ◌∙◌, ◌+◌, ◌*◌, ◌<◌, ◌≤◌, ◌++◌, ◌&&◌, true, ap, append_assoc, arith, drop, length, refl, subst, sym, take}
use Rattle.std.proofs.lemmas.List.{drop-drop, length-drop}
use Rattle.std.proofs.lemmas.List.Elements.{All-drop}
use Rattle.std.specs.Prelude.{slice_index_or}
use Rattle.markdown_base.specs.Places.{IsPointOf}
use Rattle.markdown_base.specs.declared.event.Event.{Event}
use Rattle.markdown_tokenizer.specs.AtPlaces.{AreAtPlaces}
use Rattle.mdinline_link_strings.proofs.Listed.{no_event, read-at}
use Rattle.mdinline_link_strings.proofs.Nexts.{line_at, some-left, string-there}
use Rattle.mdinline_link_strings.specs.Costs.{string_size_from}
use Rattle.mdinline_link_strings.specs.Reached.{begins_with_data}
use Rattle.mdinline_link_strings.specs.Strings.{seats_between, with_strings_from}
use Rattle.mdinline_link_strings.proofs.strings.write_next.Goals as goal

pub write_line-requires-clause-place : goal.write_line-requires-clause-place
write_line-requires-clause-place g c =
    let t = c.args.tab in
    let bytes = c.args.bytes.now in
    let n = c.plain_events-count.result.0 in
    let es = c.args.list.now.1 in
    let there = c.left-3.ensures ∙ ap (λ v. v.1) c.keep.ensures in
    let some = subst (λ l. 0 < length l) (c.left-2.ensures ∙ sym c.left-3.ensures) (some-left c.left-2.result.now c.if-is_empty.ensures) in
    let all : AreAtPlaces t bytes (drop n es) = All-drop (λ (e : Event). IsPointOf t bytes e.point) n es c.requires.places in
    subst (AreAtPlaces t bytes) (sym there) all 0 no_event some

pub returns-clause-places : goal.returns-clause-places
returns-clause-places g c =
    let t = c.args.tab in
    let bytes = c.args.bytes.now in
    let n = c.plain_events-count.result.0 in
    let es = c.args.list.now.1 in
    let is = ap (λ v. v.1) c.in_ok-write_line.ensures.events ∙ ap (λ v. v.1) c.skip.ensures ∙ ap (λ v. drop 2 v.1) c.keep.ensures in
    let all : AreAtPlaces t bytes (drop n es) = All-drop (λ (e : Event). IsPointOf t bytes e.point) n es c.requires.places in
    subst (AreAtPlaces t bytes) (sym is) (All-drop (λ (e : Event). IsPointOf t bytes e.point) 2 (drop n es) all)

pub returns-clause-events : goal.returns-clause-events
returns-clause-events g c =
    let on = c.args.on.now in
    let t = c.args.tab in
    let bytes = c.args.bytes.now in
    let n = c.plain_events-count.result.0 in
    let inside = c.plain_events-count.result.1 in
    let now = c.args.list.now in
    let kept = c.keep.new.self in
    let rest = with_strings_from on t bytes inside (drop 2 kept.1) in
    let whole = c.left.ensures in
    let some = subst (λ l. 0 < length l) c.left-2.ensures (some-left c.left-2.result.now c.if-is_empty.ensures) in
    let front = subst (λ es. n < length es → (inside && begins_with_data (drop n es)) ≡ true) whole c.plain_events-count.ensures.data in
    let is = string-there inside now.1 kept.1 n (ap (λ v. v.1) c.keep.ensures) some front in
    let r = read-at on t bytes no_event inside kept.1 0 1 2 refl refl is in
    let plain = subst (λ es. with_strings_from on t bytes c.args.first es ≡ take n es ++ with_strings_from on t bytes inside (drop n es)) whole (c.plain_events-count.ensures.plain on) in
    ap (λ v. v.0 ++ with_strings_from on t bytes inside v.1) c.in_ok-write_line.ensures.events
    ∙ ap (λ v. (v.0 ++ line_at on t bytes c.left-3.result.now c.left-4.result.now) ++ with_strings_from on t bytes inside v.1) c.skip.ensures
    ∙ ap (λ xs. (kept.0 ++ line_at on t bytes xs c.left-4.result.now) ++ rest) c.left-3.ensures
    ∙ ap (λ xs. (kept.0 ++ line_at on t bytes kept.1 xs) ++ rest) c.left-4.ensures
    ∙ append_assoc kept.0 (line_at on t bytes kept.1 kept.1) rest
    ∙ ap (λ xs. kept.0 ++ xs) (sym r.events)
    ∙ ap (λ v. v.0 ++ with_strings_from on t bytes inside v.1) c.keep.ensures
    ∙ append_assoc now.0 (take n now.1) (with_strings_from on t bytes inside (drop n now.1))
    ∙ ap (λ xs. now.0 ++ xs) (sym plain)

pub returns-clause-linear : goal.returns-clause-linear
returns-clause-linear g c =
    let on = c.args.on.now in
    let t = c.args.tab in
    let bytes = c.args.bytes.now in
    let n = c.plain_events-count.result.0 in
    let inside = c.plain_events-count.result.1 in
    let es = c.args.list.now.1 in
    let kept = c.keep.new.self.1 in
    let whole = c.left.ensures in
    let kept-is : kept ≡ drop n es = ap (λ v. v.1) c.keep.ensures in
    let some = subst (λ l. 0 < length l) c.left-2.ensures (some-left c.left-2.result.now c.if-is_empty.ensures) in
    let front = subst (λ es. n < length es → (inside && begins_with_data (drop n es)) ≡ true) whole c.plain_events-count.ensures.data in
    let r = read-at on t bytes no_event inside kept 0 1 2 refl refl (string-there inside es kept n kept-is some front) in
    let left-is : c.write_line.new.list.1 ≡ drop 2 kept = ap (λ v. v.1) c.in_ok-write_line.ensures.events ∙ ap (λ v. v.1) c.skip.ensures in
    let behind : drop (n + 2) es ≡ drop 2 kept = sym (drop-drop 2 n es) ∙ ap (drop 2) (sym kept-is) in
    let paid : c.write_line.new.turns ≤ c.plain_events-count.new.turns + 3 * length (seats_between t bytes (slice_index_or kept 0 no_event).point (slice_index_or kept 1 no_event).point) =
    subst (λ xs. c.write_line.new.turns ≤ c.plain_events-count.new.turns + 3 * length (seats_between t bytes (slice_index_or kept 0 no_event).point (slice_index_or xs 1 no_event).point)) c.left-4.ensures
    (subst (λ xs. c.write_line.new.turns ≤ c.plain_events-count.new.turns + 3 * length (seats_between t bytes (slice_index_or xs 0 no_event).point (slice_index_or c.left-4.result.now 1 no_event).point)) c.left-3.ensures c.in_ok-write_line.ensures.linear) in
    let linear = subst (λ xs. c.plain_events-count.new.turns + string_size_from t bytes inside (drop (n + 2) xs) ≤ c.args.turns.now + n + 1 + string_size_from t bytes c.args.first xs) whole c.plain_events-count.ensures.linear in
    let less = subst (λ xs. string_size_from t bytes inside (drop n xs) ≤ string_size_from t bytes c.args.first xs) whole c.plain_events-count.ensures.size in
    let kept-size = ap (string_size_from t bytes inside) kept-is in
    let size = r.size in
    let two = r.two in
    let left-size = ap (string_size_from t bytes inside) left-is in
    let left-long = ap length left-is ∙ length-drop 2 kept in
    let kept-long = ap length kept-is ∙ length-drop n es in
    let behind-size = ap (string_size_from t bytes inside) behind in
    omega (arith, paid, linear, less, kept-size, size, two, left-size, left-long, kept-long, behind-size)
