use Rattle.std.proofs.Common.{◌≡◌, ℕ, cond, List, ◌++◌, length, drop, map, sym, ap, subst, ◌∙◌, append_assoc, arith}
use Rattle.std.proofs.lemmas.List.{append-nil}
use Rattle.std.proofs.lemmas.Bool.{and_parts}
use Rattle.markdown_base.specs.declared.event.Event.{Event}
use Rattle.markdown_base.specs.declared.event.Point.{Point}
use Rattle.mdblock_lines.specs.Lines.{line_bytes}
use Rattle.mdblock_containers.specs.Prefixes.{columns_of, going_on}
use Rattle.mdblock_containers.specs.Rows.{has_none}
use Rattle.mdblock_containers.specs.SeatPlaces.{AreSeatsAt, events_of}
use Rattle.mdblock_containers.specs.Skeleton.{begun_all, prefixes_marks}
use Rattle.mdblock_containers.specs.Views.{begun_of, open_of}
use Rattle.mdblock_containers.proofs.FrameFacts.{none_is}
use Rattle.mdblock_containers.proofs.skeleton.begin_part.Goals as goal

pub returns-then-has_no_prefix-clause-marks : goal.returns-then-has_no_prefix-clause-marks
returns-then-has_no_prefix-clause-marks g c = λ seats are is.
    let s = c.args.at.now.span in
    let none = and_parts (has_none c.args.stack.now) (has_none c.args.at.now.row.begun.items) (sym c.has_no_prefix.ensures ∙ c.if-has_no_prefix.true) in
    let stack = none_is c.args.stack.now none.0 in
    let begun = none_is c.args.at.now.row.begun.items none.1 in
    let t = line_bytes c.args.tab s.number 1 s.start (drop s.start c.args.bytes.now) in
    sym (append-nil c.args.events.now.items)
    ∙ (λ k. c.args.events.now.items ++ (events_of (prefixes_marks c.args.bytes.now (going_on (map open_of (sym stack k)) s.number t) seats) ++ events_of (begun_all c.args.bytes.now (begun_of c.args.at.now.row.list s.number (sym begun k)) (drop c.args.at.now.row.going seats))))

pub returns-then-has_no_prefix-clause-columns : goal.returns-then-has_no_prefix-clause-columns
returns-then-has_no_prefix-clause-columns g c =
    let s = c.args.at.now.span in
    let none = and_parts (has_none c.args.stack.now) (has_none c.args.at.now.row.begun.items) (sym c.has_no_prefix.ensures ∙ c.if-has_no_prefix.true) in
    let stack = none_is c.args.stack.now none.0 in
    (λ k. cond (sym none.1 k) (columns_of (going_on (map open_of (sym stack k)) s.number (line_bytes c.args.tab s.number 1 s.start (drop s.start c.args.bytes.now)))) c.args.at.now.row.columns)

pub returns-clause-marks : goal.returns-clause-marks
returns-clause-marks g c = λ seats are is.
    let s = c.args.at.now.span in
    let t = line_bytes c.args.tab s.number 1 s.start (drop s.start c.args.bytes.now) in
    let text : c.in_ok-text.text.bytes.now ≡ t = c.in_ok-text.ensures.seats s.number in
    let events = c.args.events.now.items in
    let begun = events_of (begun_all c.args.bytes.now (begun_of c.args.at.now.row.list s.number c.args.at.now.row.begun.items) (drop c.args.at.now.row.going seats)) in
    let going = c.in_ok-behind.ensures.marks seats (subst (λ (p : Point). AreSeatsAt c.args.tab c.args.bytes.now p seats) (sym c.start_of.ensures) are) (text ∙ is) in
    c.in_ok-begin.ensures.marks seats are (text ∙ is) ∙ ap (λ (l : List Event). l ++ begun) going
    ∙ append_assoc events (events_of (prefixes_marks c.args.bytes.now (going_on (map open_of c.args.stack.now) s.number c.in_ok-text.text.bytes.now) seats)) begun
    ∙ (λ k. events ++ (events_of (prefixes_marks c.args.bytes.now (going_on (map open_of c.args.stack.now) s.number (text k)) seats) ++ begun))

pub returns-clause-columns : goal.returns-clause-columns
returns-clause-columns g c =
    let s = c.args.at.now.span in
    c.in_ok-begin.ensures.columns
    ∙ ap (λ n. cond (has_none c.args.at.now.row.begun.items) n c.args.at.now.row.columns)
    (c.in_ok-behind.ensures.columns ∙ ap (λ (l : List ℕ). columns_of (going_on (map open_of c.args.stack.now) s.number l)) (c.in_ok-text.ensures.seats s.number))

pub returns-clause-turns : goal.returns-clause-turns
returns-clause-turns g c =
    let long = ap (λ (l : List ℕ). length l) (c.in_ok-text.ensures.seats c.args.at.now.span.number) in
    omega (arith, c.text_at.ensures.turns c.args.at.now.span.number, c.going_prefixes.ensures.turns, c.begun_of.ensures.turns, long)

pub returns-in_err-text-clause-turns : goal.returns-in_err-text-clause-turns
returns-in_err-text-clause-turns g c = omega (arith, c.text_at.ensures.turns c.args.at.now.span.number)

pub returns-in_err-behind-clause-turns : goal.returns-in_err-behind-clause-turns
returns-in_err-behind-clause-turns g c =
    let long = ap (λ (l : List ℕ). length l) (c.in_ok-text.ensures.seats c.args.at.now.span.number) in
    omega (arith, c.text_at.ensures.turns c.args.at.now.span.number, c.going_prefixes.ensures.turns, long)

pub returns-in_err-begin-clause-turns : goal.returns-in_err-begin-clause-turns
returns-in_err-begin-clause-turns g c =
    let long = ap (λ (l : List ℕ). length l) (c.in_ok-text.ensures.seats c.args.at.now.span.number) in
    omega (arith, c.text_at.ensures.turns c.args.at.now.span.number, c.going_prefixes.ensures.turns, c.begun_of.ensures.turns, long)
