use Rattle.std.proofs.Common.{◌*◌, ◌+◌, ℕ, List, ap, length, refl, ◌∙◌, arith}
use Rattle.mdblock_definitions.proofs.KnownLemmas.{kept-read}
use Rattle.mdblock_definitions.proofs.rows.next_row.Goals as goal

pub row_of_text-requires-clause-seats : goal.row_of_text-requires-clause-seats
row_of_text-requires-clause-seats g c = c.as_slice.ensures.value ∙ c.in_ok-end.ensures.seats c.args.number

pub returns-clause-text : goal.returns-clause-text
returns-clause-text g c = c.in_ok-end.ensures.seats c.args.number

pub returns-clause-kept : goal.returns-clause-kept
returns-clause-kept g c = λ budget kept.
    let size = c.in_ok-at.at.span.size in
    kept-read (c.args.turns.now + c.args.known.now.before.over + 3 * length c.args.known.now.last.items) (c.read_text.new.turns + c.args.known.now.before.over + 3 * length c.args.known.now.last.items) (c.row_of_text.new.turns + c.row_of_text.new.known.before.over + 3 * length c.row_of_text.new.known.last.items) budget size size c.args.known.now.text.items c.row_of_text.new.known.text.items
    (omega (arith, c.read_text.ensures.turns c.args.number, c.in_ok-at.ensures.placed.size_is)) refl kept (λ more on. c.in_ok-at.ensures.kept more on)

pub returns-clause-turns : goal.returns-clause-turns
returns-clause-turns g c =
    let long = ap (λ (l : List ℕ). length l) (c.as_slice.ensures.value ∙ c.in_ok-end.ensures.seats c.args.number) in
    omega (arith, c.read_text.ensures.turns c.args.number, c.row_of_text.ensures.turns, long)

pub returns-in_err-end-clause-turns : goal.returns-in_err-end-clause-turns
returns-in_err-end-clause-turns g c = omega (arith, c.read_text.ensures.turns c.args.number)

pub returns-in_err-at-clause-turns : goal.returns-in_err-at-clause-turns
returns-in_err-at-clause-turns g c =
    let long = ap (λ (l : List ℕ). length l) (c.as_slice.ensures.value ∙ c.in_ok-end.ensures.seats c.args.number) in
    omega (arith, c.read_text.ensures.turns c.args.number, c.row_of_text.ensures.turns, long)
