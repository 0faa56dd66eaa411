use Rattle.std.proofs.Common.{◌≡◌, ℕ, List, ◌++◌, length, drop, ap, sym, subst, ◌∙◌, arith}
use Rattle.std.proofs.lemmas.List.{drop-map, length-map}
use Rattle.markdown_base.specs.declared.event.Point.{Point}
use Rattle.markdown_base.specs.Virtual.{Seat, point}
use Rattle.mdblock_lines.specs.declared.containers.Prefix.{Prefix}
use Rattle.mdblock_lines.specs.Lines.{place_after}
use Rattle.mdblock_containers.specs.Prefixes.{columns_of}
use Rattle.mdblock_containers.specs.SeatPlaces.{AreSeatsAt, events_of}
use Rattle.mdblock_containers.specs.Skeleton.{begun_all}
use Rattle.mdblock_containers.specs.Views.{begun_of}
use Rattle.mdblock_containers.proofs.SeatLemmas.{seats_drop}
use Rattle.mdblock_containers.proofs.WritingLemmas.{columns_behind, place_chain}
use Rattle.mdblock_containers.proofs.skeleton.begun_of.Goals as goal

pub begun_prefixes-requires-clause-columns : goal.begun_prefixes-requires-clause-columns
begun_prefixes-requires-clause-columns g c =
    let start : c.moved-start.result ≡ place_after c.args.tab c.args.bytes.now (point c.args.span.number 1 c.args.span.start 0) c.args.row.now.going = c.moved-start.ensures.value ∙ ap (λ (p : Point). place_after c.args.tab c.args.bytes.now p c.args.row.now.going) c.start_of.ensures in
    columns_behind c.args.tab c.args.bytes.now (point c.args.span.number 1 c.args.span.start 0) c.moved-start.result (length c.args.t.now) c.args.row.now.going (length c.behind.result.now) start c.requires.columns (omega (arith, c.behind.ensures.len, c.requires.going))

pub returns-clause-marks : goal.returns-clause-marks
returns-clause-marks g c = λ seats are is.
    let going = c.args.row.now.going in
    let start : c.moved-start.result ≡ place_after c.args.tab c.args.bytes.now (point c.args.span.number 1 c.args.span.start 0) going = c.moved-start.ensures.value ∙ ap (λ (p : Point). place_after c.args.tab c.args.bytes.now p going) c.start_of.ensures in
    let size : length c.args.t.now ≡ length seats = ap (λ (l : List ℕ). length l) is ∙ length-map seats (λ (s : Seat). s.byte) in
    let there : AreSeatsAt c.args.tab c.args.bytes.now c.moved-start.result (drop going seats) =
    subst (λ (p : Point). AreSeatsAt c.args.tab c.args.bytes.now p (drop going seats)) (sym start) (seats_drop c.args.tab c.args.bytes.now (point c.args.span.number 1 c.args.span.start 0) seats going are (omega (arith, size, c.requires.going))) in
    c.in_ok-place.ensures.marks (drop going seats) there (c.behind.ensures.value ∙ ap (drop going) is ∙ drop-map (λ (s : Seat). s.byte) going seats)
    ∙ ap (λ (l : List Prefix). c.args.events.now.items ++ events_of (begun_all c.args.bytes.now (begun_of c.args.row.now.list c.args.span.number l) (drop going seats))) c.as_slice.ensures.value

pub returns-clause-place : goal.returns-clause-place
returns-clause-place g c =
    let going = c.args.row.now.going in
    let start : c.moved-start.result ≡ place_after c.args.tab c.args.bytes.now (point c.args.span.number 1 c.args.span.start 0) going = c.moved-start.ensures.value ∙ ap (λ (p : Point). place_after c.args.tab c.args.bytes.now p going) c.start_of.ensures in
    place_chain c.args.tab c.args.bytes.now (point c.args.span.number 1 c.args.span.start 0) c.moved-start.result c.in_ok-place.place going (columns_of (begun_of c.args.row.now.list c.args.span.number c.args.row.now.begun.items)) start
    (c.in_ok-place.ensures.place ∙ ap (λ (l : List Prefix). place_after c.args.tab c.args.bytes.now c.moved-start.result (columns_of (begun_of c.args.row.now.list c.args.span.number l))) c.as_slice.ensures.value)
    ∙ ap (place_after c.args.tab c.args.bytes.now (point c.args.span.number 1 c.args.span.start 0)) (sym c.requires.sum)
