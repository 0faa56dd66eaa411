use Rattle.std.proofs.Common.{◌≡◌, ◌+◌, ◌-◌, ◌<◌, ◌∙◌, true, arith, drop, length, refl, sym}
use Rattle.std.proofs.lemmas.List.{length-drop}
use Rattle.mdinline_links.proofs.Costs.{with-left}
use Rattle.mdinline_links.proofs.Cuts.{tail-slice}
use Rattle.mdinline_links.proofs.Read.{step-end, step-read, step-tail}
use Rattle.mdinline_links.proofs.Reached.{some-behind}
use Rattle.mdinline_links.specs.Linked.{is_tail}
use Rattle.mdinline_links.proofs.brackets.Pieces.step.Goals as goal

pub returns-then-not-is_named-clause-stands : goal.returns-then-not-is_named-clause-stands
returns-then-not-is_named-clause-stands g c =
    let s = c.span_end-end in
    step-read c.args.events.now c.args.self.now c.read.new.self c.args.left.now.items c.args.start s.result c.requires.inside s.ensures.span (s.ensures.some c.requires.inside) c.read.new.left.items
    (sym c.is_named.ensures ∙ c.if-not-is_named.true) c.in_ok-read.ensures.read

pub returns-then-not-is_tail-clause-stands : goal.returns-then-not-is_tail-clause-stands
returns-then-not-is_tail-clause-stands g c =
    let s = c.span_end-end in
    step-end c.args.events.now c.args.self.now c.end.new.self c.args.left.now.items c.args.start s.result c.requires.inside s.ensures.span (s.ensures.some c.requires.inside) s.result refl
    (sym c.is_named.ensures ∙ c.if-not-is_named.false) (tail-slice c.args.events.now s.result ∙ sym c.is_tail.ensures ∙ c.if-not-is_tail.true) s.ensures.inside c.in_ok-end.ensures.ended

pub returns-clause-stands : goal.returns-clause-stands
returns-clause-stands g c =
    let es = c.args.events.now in
    let s = c.span_end-end in
    let t = c.span_end-tail in
    let is : is_tail (drop s.result es) ≡ true = tail-slice c.args.events.now s.result ∙ sym c.is_tail.ensures ∙ c.if-not-is_tail.false in
    let left = length-drop s.result es in
    let behind = some-behind (drop s.result es) is in
    let further : s.result < length es = omega (arith, left, behind) in
    step-tail es c.args.self.now c.end-2.new.self c.args.left.now.items c.args.start s.result c.requires.inside s.ensures.span (s.ensures.some c.requires.inside) t.result
    (sym c.is_named.ensures ∙ c.if-not-is_named.false) is further (t.ensures.some further) t.ensures.inside t.ensures.span c.in_ok-end-2.ensures.ended

pub returns-then-not-is_named-clause-paid : goal.returns-then-not-is_named-clause-paid
returns-then-not-is_named-clause-paid g c =
    let s = c.span_end-end in
    let turns = s.ensures.turns in
    let more = s.ensures.some c.requires.inside in
    let paid = c.in_ok-read.ensures.paid in
    omega (arith, turns, more, paid)

pub returns-then-not-is_tail-clause-paid : goal.returns-then-not-is_tail-clause-paid
returns-then-not-is_tail-clause-paid g c =
    let s = c.span_end-end in
    let turns = s.ensures.turns in
    let more = s.ensures.some c.requires.inside in
    let paid = with-left c.args.self.now c.end.new.self c.args.left.now.items s.new.turns c.end.new.turns (1 + (s.result - s.result)) c.in_ok-end.ensures.paid in
    omega (arith, turns, more, paid)

pub returns-clause-paid : goal.returns-clause-paid
returns-clause-paid g c =
    let s = c.span_end-end in
    let t = c.span_end-tail in
    let turns = s.ensures.turns in
    let more = s.ensures.some c.requires.inside in
    let turns' = t.ensures.turns in
    let order = t.ensures.order in
    let paid = with-left c.args.self.now c.end-2.new.self c.args.left.now.items t.new.turns c.end-2.new.turns (1 + (t.result - s.result)) c.in_ok-end-2.ensures.paid in
    omega (arith, turns, more, turns', order, paid)
