use Rattle.mdblock_lines.specs.declared.containers.ContainerKind.TheVariants as kinds
use Rattle.std.proofs.Common.{◌≡◌, ◌<◌, false, length, take, drop, get_or, ap, arith, ◌∙◌, length-drop}
use Rattle.mdblock_leaf_blocks.specs.LineKinds.{indent}
use Rattle.mdblock_lines.specs.declared.containers.Prefix.{Prefix}
use Rattle.mdblock_lines.specs.Lines.{place_after}
use Rattle.mdblock_containers.proofs.PrefixLemmas.{inside_drop, inside_some, begun_columns, begun_written}
use Rattle.mdblock_containers.proofs.WritingLemmas.{columns_behind, place_chain}
use Rattle.mdblock_containers.proofs.prefixes.begun_prefixes.Goals as goal

abbrev none : Prefix
none = record { container = record { kind = kinds.Quote; is_near = false; line = 0; size = 0; marker = 0; digits = 0; is_blank = false; label = 0 }; size = 0 }

pub front-text-requires : goal.front-text-requires
front-text-requires g c =
    let i = c.loop-prefix.invariant in
    let in_line = inside_drop c.args.begun.now c.args.t.now c.loop-prefix.prefix-index c.loop-prefix.at none (omega arith) i.inside in
    omega (arith, in_line.0.within, c.behind.ensures.len, length-drop c.loop-prefix.at c.args.t.now)

pub begun_prefix-requires : goal.begun_prefix-requires
begun_prefix-requires g c =
    let i = c.loop-prefix.invariant in
    let in_line = inside_drop c.args.begun.now c.args.t.now c.loop-prefix.prefix-index c.loop-prefix.at none (omega arith) i.inside in
    let size = (get_or c.args.begun.now c.loop-prefix.prefix-index none).size in
    let text : c.front-text.result.now ≡ take size (drop c.loop-prefix.at c.args.t.now) = c.front-text.ensures.value ∙ ap (take size) c.behind.ensures.value in
    let n : indent c.front-text.result.now ≡ indent (take size (drop c.loop-prefix.at c.args.t.now)) = ap indent text in
    record {
      columns = columns_behind c.args.tab c.args.bytes.now c.args.start c.loop-prefix.place (length c.args.t.now) c.loop-prefix.at (length c.front-text.result.now) i.place c.requires.columns
          (omega (arith, c.front-text.ensures.len, in_line.0.within, length-drop c.loop-prefix.at c.args.t.now, i.within));
      quote = λ q. let w = in_line.0.of_quote q in omega (arith, n, w, c.front-text.ensures.len);
      item = λ q. let w = in_line.0.of_item q in omega (arith, n, w, c.front-text.ensures.len);
      footnote = λ q. let w = in_line.0.of_footnote q in (w.0, omega (arith, n, w.1, c.front-text.ensures.len));
    }

pub loop-prefix-preserved : goal.loop-prefix-preserved
loop-prefix-preserved g c =
    let i = c.loop-prefix.invariant in
    let begun = c.args.begun.now in
    let h : c.loop-prefix.prefix-index < length begun = omega arith in
    let in_line = inside_drop begun c.args.t.now c.loop-prefix.prefix-index c.loop-prefix.at none h i.inside in
    let some = inside_some _ _ in_line.0 in
    let n = length-drop c.loop-prefix.at c.args.t.now in
    let columns = begun_columns c.loop-prefix.of_list c.args.number begun c.loop-prefix.prefix-index none h in
    record {
      marks = λ seats are is.
          begun_written c.args.tab c.args.bytes.now c.args.start c.args.t.now seats are is begun c.loop-prefix.of_list c.args.number c.loop-prefix.prefix-index c.loop-prefix.at none c.behind.result.now c.front-text.result.now c.loop-prefix.place
          c.loop-prefix.events.items c.enter_container.new.events.items c.begun_prefix.new.events.items _ h c.behind.ensures.value c.front-text.ensures.value i.place i.within some (omega (arith, in_line.0.within, n))
          c.in_ok-enter_container.ensures (λ ss s b. c.in_ok-place.ensures.marks _ ss s b) (i.marks seats are is);
      columns = omega (arith, i.columns, columns);
      within = omega (arith, in_line.0.within, n, i.within);
      few = omega (arith, i.few, some);
      turns = omega (arith, i.turns, c.add_one.ensures, c.begun_prefix.ensures.turns, c.front-text.ensures.len);
      inside = in_line.1;
      place = place_chain c.args.tab c.args.bytes.now c.args.start c.loop-prefix.place c.in_ok-place.place c.loop-prefix.at _ i.place (c.in_ok-place.ensures.place ∙ ap (place_after c.args.tab c.args.bytes.now c.loop-prefix.place) c.front-text.ensures.len);
    }
