use Rattle.std.proofs.Common.{◌≡◌, ◌∙◌, ◌++◌, [], ◌∷◌, ap, arith, length, length-append, refl, subst, sym}
use Rattle.std.specs.Prelude.{filter}
use Rattle.markdown_base.specs.declared.event.Point.{Point}
use Rattle.markdown_base.specs.Places.{IsPointOf, stands_before}
use Rattle.markdown_base.specs.Virtual.{IsWithinLimit, Seat}
use Rattle.markdown_tokenizer.specs.Cursor.{rest_at}
use Rattle.markdown_tokenizer.proofs.Positions.Standing.{steps}
use Rattle.mdinline_link_strings.proofs.PlainRanges.{data-all, data-fits, data-upto, passed-few, passed-fewer, plain-all, plain-more}
use Rattle.mdinline_link_strings.proofs.Ranges.{left-none}
use Rattle.mdinline_link_strings.specs.Reached.{ArePlainBetween, IsPlainUpto}
use Rattle.mdinline_link_strings.specs.Strings.{seats_between}
use Rattle.mdinline_link_strings.proofs.seats.are_plain_between.Goals as goal

pub behind-place-requires-clause-column : goal.behind-place-requires-clause-column
behind-place-requires-clause-column g c =
    let t = c.get-t.result in
    let bytes = c.args.bytes.now in
    let from = c.args.from.now in
    let is = subst (λ k. IsPointOf k bytes from) (sym c.get-t.ensures.columns) c.requires.place in
    let limit = subst (λ k. IsWithinLimit k bytes) (sym c.get-t.ensures.columns) c.requires.limit in
    (data-fits t bytes c.get-t.ensures.least from c.args.to.now c.data_ahead-ahead.result is c.data_ahead-ahead.ensures.ahead limit).0

pub behind-place-requires-clause-index : goal.behind-place-requires-clause-index
behind-place-requires-clause-index g c =
    let t = c.get-t.result in
    let bytes = c.args.bytes.now in
    let from = c.args.from.now in
    let is = subst (λ k. IsPointOf k bytes from) (sym c.get-t.ensures.columns) c.requires.place in
    let limit = subst (λ k. IsWithinLimit k bytes) (sym c.get-t.ensures.columns) c.requires.limit in
    (data-fits t bytes c.get-t.ensures.least from c.args.to.now c.data_ahead-ahead.result is c.data_ahead-ahead.ensures.ahead limit).1

pub loop-byte-init : goal.loop-byte-init
loop-byte-init g c =
    let from = c.args.from.now in
    let to = c.args.to.now in
    let bytes = c.args.bytes.now in
    let t = c.get-t.result in
    let is = subst (λ t. IsPointOf t bytes from) (sym c.get-t.ensures.columns) c.requires.place in
    let upto = data-upto t bytes c.get-t.ensures.least from to c.data_ahead-ahead.result is c.data_ahead-ahead.ensures.ahead in
    let long = upto.1 in
    let few = c.data_ahead-ahead.ensures.turns in
    (upto.0, subst (λ (p : Point). IsPlainUpto t bytes (seats_between t bytes from to) from to p upto.0) (sym c.behind-place.ensures) upto.2, omega (arith, long, few))

pub returns-then-is_behind-clause-plain : goal.returns-then-is_behind-clause-plain
returns-then-is_behind-clause-plain g c = λ h.
    let t = c.get-t.result in
    let bytes = c.args.bytes.now in
    let from = c.args.from.now in
    let to = c.args.to.now in
    let is = subst (λ k. IsPointOf k bytes from) (sym c.get-t.ensures.columns) c.requires.place in
    let there = sym c.behind-place.ensures ∙ c.is_behind.ensures.passed c.if-is_behind.true in
    subst (λ k. ArePlainBetween k bytes from to) c.get-t.ensures.columns
    (data-all t bytes c.get-t.ensures.least from to c.data_ahead-ahead.result is c.data_ahead-ahead.ensures.ahead (c.is_behind.ensures.some c.if-is_behind.true) there)

pub returns-then-is_behind-clause-turns : goal.returns-then-is_behind-clause-turns
returns-then-is_behind-clause-turns g c =
    let t = c.get-t.result in
    let bytes = c.args.bytes.now in
    let from = c.args.from.now in
    let to = c.args.to.now in
    let is = subst (λ k. IsPointOf k bytes from) (sym c.get-t.ensures.columns) c.requires.place in
    let upto = data-upto t bytes c.get-t.ensures.least from to c.data_ahead-ahead.result is c.data_ahead-ahead.ensures.ahead in
    let long = upto.1 in
    let few = passed-few t bytes c.get-t.ensures.least from to _ upto.0 upto.2.passed in
    let taken = c.data_ahead-ahead.ensures.turns in
    let same = ap (λ k. length (seats_between k bytes from to)) c.get-t.ensures.columns in
    omega (arith, long, few, taken, same)

pub returns-then-not-is_before-clause-plain : goal.returns-then-not-is_before-clause-plain
returns-then-not-is_before-clause-plain g c = λ h.
    let t = c.get-t.result in
    let bytes = c.args.bytes.now in
    let from = c.args.from.now in
    let to = c.args.to.now in
    let l = c.loop-byte in
    let n = c.in-Some.ensures t c.get-t.ensures.least in
    let seat : Seat = record { byte = c.in-Some.byte; point = c.in-Some.seat; end = n.0 } in
    let none = left-none t bytes l.place to seat n.1 (sym c.is_before.ensures ∙ c.if-not-is_before.true) in
    subst (λ k. ArePlainBetween k bytes from to) c.get-t.ensures.columns
    (plain-all t bytes c.get-t.ensures.least from to l.place l.invariant.0 l.invariant.1 none (c.are_ends.ensures.passed h) (c.are_ends.ensures.some h) (c.are_ends.ensures.shown h))

pub pass-requires-clause-next : goal.pass-requires-clause-next
pass-requires-clause-next g c =
    let s = c.in-Some.ensures c.get-t.result c.get-t.ensures.least in
    (record { byte = c.in-Some.byte; point = c.in-Some.seat; end = s.0 }, s.1, refl)

pub loop-byte-smaller : goal.loop-byte-smaller
loop-byte-smaller g c =
    let n = (c.in-Some.ensures c.get-t.result c.get-t.ensures.least).1 in
    omega (arith, ap length (steps c.get-t.result c.args.bytes.now c.get-t.ensures.least c.loop-byte.place _ c.loop-byte.invariant.1.passed.place_is n c.pass.new.point (c.pass.ensures _ n)).1)

pub loop-byte-preserved : goal.loop-byte-preserved
loop-byte-preserved g c =
    let t = c.get-t.result in
    let bytes = c.args.bytes.now in
    let from = c.args.from.now in
    let to = c.args.to.now in
    let l = c.loop-byte in
    let n = c.in-Some.ensures t c.get-t.ensures.least in
    let seat : Seat = record { byte = c.in-Some.byte; point = c.in-Some.seat; end = n.0 } in
    let one = c.add_one.ensures in
    let so_far = l.invariant.2 in
    let more = length-append l.invariant.0 (seat ∷ []) in (
      l.invariant.0 ++ seat ∷ [],
      plain-more t bytes c.get-t.ensures.least from to l.place c.pass.new.point seat l.invariant.0 l.invariant.1 n.1 (c.pass.ensures seat n.1) (sym c.is_before.ensures ∙ c.if-not-is_before.false) (sym c.is_special.ensures ∙ c.if-is_special.false),
      omega (arith, one, so_far, more),
    )

pub returns-then-is_special-clause-turns : goal.returns-then-is_special-clause-turns
returns-then-is_special-clause-turns g c =
    let t = c.get-t.result in
    let bytes = c.args.bytes.now in
    let from = c.args.from.now in
    let to = c.args.to.now in
    let l = c.loop-byte in
    let n = c.in-Some.ensures t c.get-t.ensures.least in
    let seat : Seat = record { byte = c.in-Some.byte; point = c.in-Some.seat; end = n.0 } in
    let one = c.add_one.ensures in
    let so_far = l.invariant.2 in
    let few = passed-fewer t bytes c.get-t.ensures.least from to l.place n.0 seat l.invariant.0 l.invariant.1.passed n.1 refl (sym c.is_before.ensures ∙ c.if-not-is_before.false) in
    let same = ap (λ k. length (seats_between k bytes from to)) c.get-t.ensures.columns in
    omega (arith, one, so_far, few, same)

pub returns-then-not-is_before-clause-turns : goal.returns-then-not-is_before-clause-turns
returns-then-not-is_before-clause-turns g c =
    let bytes = c.args.bytes.now in
    let from = c.args.from.now in
    let to = c.args.to.now in
    let l = c.loop-byte in
    let so_far = l.invariant.2 in
    let few = passed-few c.get-t.result bytes c.get-t.ensures.least from to l.place l.invariant.0 l.invariant.1.passed in
    let same = ap (λ k. length (seats_between k bytes from to)) c.get-t.ensures.columns in
    omega (arith, so_far, few, same)

pub returns-clause-turns : goal.returns-clause-turns
returns-clause-turns g c =
    let bytes = c.args.bytes.now in
    let from = c.args.from.now in
    let to = c.args.to.now in
    let l = c.loop-byte in
    let so_far = l.invariant.2 in
    let few = passed-few c.get-t.result bytes c.get-t.ensures.least from to l.place l.invariant.0 l.invariant.1.passed in
    let same = ap (λ k. length (seats_between k bytes from to)) c.get-t.ensures.columns in
    omega (arith, so_far, few, same)

pub returns-clause-plain : goal.returns-clause-plain
returns-clause-plain g c = λ h.
    let t = c.get-t.result in
    let bytes = c.args.bytes.now in
    let from = c.args.from.now in
    let to = c.args.to.now in
    let l = c.loop-byte in
    let end : rest_at t bytes l.place ≡ [] = c.in_default.ensures t c.get-t.ensures.least in
    subst (λ k. ArePlainBetween k bytes from to) c.get-t.ensures.columns
    (plain-all t bytes c.get-t.ensures.least from to l.place l.invariant.0 l.invariant.1 (ap (filter (λ s. stands_before s.point to)) end) (c.are_ends-2.ensures.passed h) (c.are_ends-2.ensures.some h) (c.are_ends-2.ensures.shown h))
