use Rattle.std.proofs.Common.{◌≡◌, ◌+◌, ◌-◌, true, take, drop, ap, sym, ◌∙◌, arith, length-drop}
use Rattle.std.specs.List.{list_all, prefix_len}
use Rattle.std.specs.Prelude.{not}
use Rattle.std.proofs.lemmas.List.{drop-drop}
use Rattle.mdhtml_markup.specs.SafeHtml.{is_mark}
use Rattle.mdhtml_markup.proofs.Runs.{passed}
use Rattle.mdhtml_markup.proofs.escape.plain_blocks.Goals as goal

pub loop-next-preserved : goal.loop-next-preserved
loop-next-preserved c =
    let next = c.loop-next.next in
    let text = c.args.text.now in
    let rest = drop next text in
    let size : next + 16 - next ≡ 16 = omega arith in
    let all : list_all (λ b. not (is_mark b)) (take 16 rest) ≡ true =
    ap (λ n. list_all (λ b. not (is_mark b)) (take n rest)) (sym size) ∙ sym c.are_plain.ensures ∙ c.if-not-are_plain.false in
    let more = passed (λ b. not (is_mark b)) 16 rest (omega (arith, c.loop-next-test.true, length-drop next text)) all in
    let behind = ap (prefix_len (λ b. not (is_mark b))) (drop-drop 16 next text) in
    record {
      same = omega (arith, more, behind, c.loop-next.invariant.same);
      room = omega (arith, c.loop-next-test.true);
    }
