use Rattle.std.proofs.Common.{◌≡◌, ◌∙◌, ◌+◌, ℕ, List, ap, sym, arith, take, drop, false}
use Rattle.mdblock_tables.specs.Tables.{alignment_of, alignments_of, content, contents, counted, cut}
use Rattle.mdblock_tables.proofs.CellLemmas.{contents_end, contents_step, is_next}
use Rattle.mdblock_tables.proofs.DelimiterLemmas.{counted_more, counted_none}
use Rattle.mdblock_tables.proofs.tables.count_delimiters.Goals as goal

pub loop-next-preserved : goal.loop-next-preserved
loop-next-preserved g c =
    let row = c.args.row.now in
    let next = c.loop-next.next in
    let size = c.cell_size-size.result in
    let at = is_next row next size _ (omega arith) c.behind-rest.ensures.value c.cell_size-size.ensures.value c.cell_size-size.ensures.within in
    let cell = c.content-cell.ensures.value ∙ ap content (c.front.ensures.value ∙ ap (take size) c.behind-rest.ensures.value) in
    let is = ap alignment_of (sym cell) ∙ sym c.alignment_of.ensures.value ∙ c.in-Some.is in
    let more : List (List ℕ) = contents (cut false (drop (next + (size + 1)) row)) in
    let step = sym (counted_more c.loop-next.count (content (take size (drop next row))) more _ is) ∙ ap (λ l. counted c.loop-next.count (alignments_of l)) (sym (contents_step row next size at)) ∙ c.loop-next.invariant.0 in (
      step,
      omega (arith, c.cell_size-size.ensures.within, c.behind-rest.ensures.len),
      omega (arith, c.loop-next.invariant.2),
      omega (arith, c.loop-next.invariant.3, c.add_one.ensures, c.cell_size-size.ensures.turns, c.content-cell.ensures.turns, c.content-cell.ensures.within, c.front.ensures.len, c.alignment_of.ensures.turns),
    )

pub returns-in-None-clause-value : goal.returns-in-None-clause-value
returns-in-None-clause-value g c =
    let row = c.args.row.now in
    let next = c.loop-next.next in
    let size = c.cell_size-size.result in
    let at = is_next row next size _ (omega arith) c.behind-rest.ensures.value c.cell_size-size.ensures.value c.cell_size-size.ensures.within in
    let cell = c.content-cell.ensures.value ∙ ap content (c.front.ensures.value ∙ ap (take size) c.behind-rest.ensures.value) in
    let is = ap alignment_of (sym cell) ∙ sym c.alignment_of.ensures.value ∙ c.in-None.is in
    let more : List (List ℕ) = contents (cut false (drop (next + (size + 1)) row)) in
    sym (sym c.loop-next.invariant.0 ∙ ap (λ l. counted c.loop-next.count (alignments_of l)) (contents_step row next size at) ∙ counted_none c.loop-next.count (content (take size (drop next row))) more is)

pub returns-in-None-clause-turns : goal.returns-in-None-clause-turns
returns-in-None-clause-turns g c =
    omega (arith, c.loop-next.invariant.3, c.add_one.ensures, c.cell_size-size.ensures.turns, c.cell_size-size.ensures.within, c.behind-rest.ensures.len, c.content-cell.ensures.turns, c.content-cell.ensures.within, c.front.ensures.len, c.alignment_of.ensures.turns)

pub returns-clause-value : goal.returns-clause-value
returns-clause-value g c =
    let n = c.loop-next.count in
    let zero : n + 0 ≡ n = omega arith in
    let none = ap (λ l. counted n (alignments_of l)) (contents_end c.args.row.now c.loop-next.next (omega arith)) in
    sym zero ∙ sym none ∙ c.loop-next.invariant.0
