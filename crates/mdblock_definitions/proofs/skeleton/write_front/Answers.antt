use Rattle.std.proofs.Common.{◌≡◌, ◌+◌, ◌-◌, ℕ, cond, length, drop, sym, ap, ◌∙◌, arith}
use Rattle.markdown_base.specs.Virtual.{point}
use Rattle.mdblock_leaf_blocks.specs.LineKinds.{indent}
use Rattle.mdblock_lines.specs.Lines.{line_bytes, place_after}
use Rattle.mdblock_containers.proofs.WritingLemmas.{columns_behind, place_chain}
use Rattle.mdblock_definitions.proofs.skeleton.write_front.Goals as goal

pub white-requires : goal.white-requires
white-requires g c =
    let s = c.args.first.now.span in
    let size = length (line_bytes c.args.tab s.number 1 s.start (drop s.start c.args.bytes.now)) in
    columns_behind c.args.tab c.args.bytes.now (point s.number 1 s.start 0) c.args.begin.place size c.args.begin.columns (c.in_ok-columns.columns - c.args.begin.columns) c.requires.place c.requires.columns
    (omega (arith, c.in_ok-columns.ensures.within, c.in_ok-columns.ensures.value, c.requires.begin))

pub returns-clause-place : goal.returns-clause-place
returns-clause-place g c =
    let s = c.args.first.now.span in
    let start = point s.number 1 s.start 0 in
    let here = indent (drop c.args.first.now.row.columns (line_bytes c.args.tab s.number 1 s.start (drop s.start c.args.bytes.now))) in
    let on : c.args.begin.columns + (c.in_ok-columns.columns - c.args.begin.columns) ≡ c.args.first.now.row.columns + here = omega (arith, c.in_ok-columns.ensures.value, c.requires.begin) in
    place_chain c.args.tab c.args.bytes.now start c.args.begin.place c.in_ok-place.place c.args.begin.columns (c.in_ok-columns.columns - c.args.begin.columns) c.requires.place c.in_ok-place.ensures.place
    ∙ ap (λ (n : ℕ). place_after c.args.tab c.args.bytes.now start n) on
    ∙ ap (λ b. cond b (place_after c.args.tab c.args.bytes.now start (c.args.first.now.row.columns + here)) c.args.begin.place) (sym c.if-not-is_behind.false)

pub returns-in_err-place-clause-turns : goal.returns-in_err-place-clause-turns
returns-in_err-place-clause-turns g c = omega (arith, c.text_columns.ensures.turns, c.white.ensures.turns, c.in_ok-columns.ensures.within)

pub returns-clause-turns : goal.returns-clause-turns
returns-clause-turns g c = omega (arith, c.text_columns.ensures.turns, c.white.ensures.turns, c.in_ok-columns.ensures.within)
