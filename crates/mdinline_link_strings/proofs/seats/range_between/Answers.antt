use Rattle.std.proofs.Common.{◌∙◌, [], ◌∷◌, ap, arith, length, length-append, refl, subst, sym}
use Rattle.markdown_base.specs.Places.{IsPointOf}
use Rattle.markdown_base.specs.Virtual.{Seat}
use Rattle.markdown_tokenizer.proofs.Positions.Standing.{steps}
use Rattle.mdinline_link_strings.proofs.Ranges.{all-read, begins-reading, left-none, reads-more}
use Rattle.mdinline_link_strings.specs.Laid.{IsRangeOf}
use Rattle.mdinline_link_strings.specs.Strings.{seats_between}
use Rattle.mdinline_link_strings.proofs.seats.range_between.Goals as goal

pub loop-byte-init : goal.loop-byte-init
loop-byte-init g c =
    let bytes = c.args.bytes.now in
    let from = c.args.from.now in
    let r = c.in_ok-range.range in
    let none = ap length c.in_ok-range.ensures.bytes in (
      begins-reading c.get-t.result bytes c.get-t.ensures.least from c.args.to.now r (subst (λ t. IsPointOf t bytes from) (sym c.get-t.ensures.columns) c.requires.place) c.in_ok-range.ensures.bytes
          (c.in_ok-range.ensures.places ∙ ap (λ p. p ∷ []) c.shown.ensures),
      omega (arith, none),
    )

pub returns-then-not-is_before-clause-range : goal.returns-then-not-is_before-clause-range
returns-then-not-is_before-clause-range g c =
    let t = c.get-t.result in
    let bytes = c.args.bytes.now in
    let from = c.args.from.now in
    let to = c.args.to.now in
    let l = c.loop-byte in
    let n = c.in-Some.ensures t c.get-t.ensures.least in
    let seat : Seat = record { byte = c.in-Some.byte; point = c.in-Some.seat; end = n.0 } in
    let none = left-none t bytes l.place to seat n.1 (sym c.is_before.ensures ∙ c.if-not-is_before.true) in
    subst (λ k. IsRangeOf bytes (seats_between k bytes from to) l.range) c.get-t.ensures.columns
    (all-read t bytes c.get-t.ensures.least (seats_between t bytes from to) from to l.range l.place l.invariant.0 none)

pub pass-requires-clause-next : goal.pass-requires-clause-next
pass-requires-clause-next g c =
    let s = c.in-Some.ensures c.get-t.result c.get-t.ensures.least in
    (record { byte = c.in-Some.byte; point = c.in-Some.seat; end = s.0 }, s.1, refl)

pub loop-byte-smaller : goal.loop-byte-smaller
loop-byte-smaller g c =
    let n = (c.in-Some.ensures c.get-t.result c.get-t.ensures.least).1 in
    omega (arith, ap length (steps c.get-t.result c.args.bytes.now c.get-t.ensures.least c.loop-byte.place _ c.loop-byte.invariant.0.passed.place_is n c.pass.new.point (c.pass.ensures _ n)).1)

pub loop-byte-preserved : goal.loop-byte-preserved
loop-byte-preserved g c =
    let t = c.get-t.result in
    let bytes = c.args.bytes.now in
    let to = c.args.to.now in
    let l = c.loop-byte in
    let n = c.in-Some.ensures t c.get-t.ensures.least in
    let seat : Seat = record { byte = c.in-Some.byte; point = c.in-Some.seat; end = n.0 } in
    let one = c.add_one.ensures in
    let so_far = l.invariant.1 in
    let more = ap length c.in_ok-push.ensures.bytes ∙ length-append l.range.bytes.items (c.in-Some.byte ∷ []) in (
      reads-more t bytes c.get-t.ensures.least (seats_between t bytes c.args.from.now to) c.args.from.now to l.range c.push.new.self l.place c.pass.new.point seat c.in-Some.byte l.invariant.0 n.1 refl
          (c.pass.ensures seat n.1) (sym c.is_before.ensures ∙ c.if-not-is_before.false) c.in_ok-push.ensures.bytes c.in_ok-push.ensures.places,
      omega (arith, one, so_far, more),
    )
