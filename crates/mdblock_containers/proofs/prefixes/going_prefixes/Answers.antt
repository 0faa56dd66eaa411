use Rattle.std.proofs.Common.{◌≡◌, ◌<◌, ◌≤◌, ℕ, List, [], length, map, ap, drop, arith, ◌∙◌}
use Rattle.std.proofs.lemmas.List.{drop_all, length-map}
use Rattle.markdown_base.specs.Virtual.{Seat}
use Rattle.mdconstructs_tables.specs.Breaks.{is_white}
use Rattle.mdblock_leaf_blocks.specs.LineKinds.{indent}
use Rattle.mdblock_lines.specs.Lines.{place_after}
use Rattle.mdblock_containers.specs.Views.{open_of}
use Rattle.mdblock_containers.proofs.CostLemmas.{first_within, some_size_at}
use Rattle.mdblock_containers.proofs.GoingLemmas.{prefix_within, going_columns}
use Rattle.mdblock_containers.proofs.PrefixLemmas.{quote_fits, going_written, going_nothing, nothing_columns}
use Rattle.mdblock_containers.proofs.WritingLemmas.{columns_behind, place_chain}
use Rattle.mdblock_containers.proofs.prefixes.going_prefixes.Goals as goal

pub loop-entry-preserved : goal.loop-entry-preserved
loop-entry-preserved g c =
    let i = c.loop-entry.invariant in
    let stack = c.args.stack.now in
    let h : c.loop-entry.entry-index < length stack = omega arith in
    let some : 1 ≤ c.in-Some.size =
    some_size_at stack c.loop-entry.entry-index _ c.args.number c.behind-rest.result.now c.in-Some.size c.requires.sizes h (omega (arith, c.behind-rest.ensures.len, i.within, c.if-at-whole.false)) c.in-Some.ensures.value in
    record {
      marks = λ seats are is.
          going_written c.args.tab c.args.bytes.now c.args.start c.args.t.now seats are is stack c.args.number c.loop-entry.entry-index c.loop-entry.at c.in-Some.size _ c.behind-rest.result.now c.front-part.result.now c.loop-entry.place
          c.loop-entry.events.items c.going_prefix.new.events.items _ h c.behind-rest.ensures.value c.in-Some.ensures.value c.front-part.ensures.value i.place i.within
          (λ ss s b. c.in_ok-place.ensures.marks _ ss s b) (i.marks seats are is);
      columns = let m = going_columns stack c.args.number c.args.t.now c.behind-rest.result.now c.loop-entry.entry-index c.loop-entry.at _ h c.behind-rest.ensures.value c.in-Some.size c.in-Some.ensures.value in omega (arith, i.columns, m);
      within = omega (arith, c.in-Some.ensures.within, c.behind-rest.ensures.len, i.within);
      few = omega (arith, i.few, some);
      turns = omega (arith, i.turns, c.add_one.ensures, c.going_prefix.ensures.turns, c.front-part.ensures.len, c.first_from-first.ensures.turns);
      first = c.first_from-first.ensures.value;
      place = place_chain c.args.tab c.args.bytes.now c.args.start c.loop-entry.place c.in_ok-place.place c.loop-entry.at c.in-Some.size i.place (c.in_ok-place.ensures.place ∙ ap (place_after c.args.tab c.args.bytes.now c.loop-entry.place) c.front-part.ensures.len);
    }

pub goes_on_open-requires-clause-within : goal.goes_on_open-requires-clause-within
goes_on_open-requires-clause-within g c =
    let w : indent (drop c.loop-entry.at c.args.t.now) ≤ length (drop c.loop-entry.at c.args.t.now) = prefix_within is_white (drop c.loop-entry.at c.args.t.now) in
    let l : length c.behind-rest.result.now ≡ length (drop c.loop-entry.at c.args.t.now) = ap length c.behind-rest.ensures.value in
    omega (arith, c.loop-entry.invariant.first)

pub going_prefix-requires : goal.going_prefix-requires
going_prefix-requires g c =
    let i = c.loop-entry.invariant in
    record {
      columns = columns_behind c.args.tab c.args.bytes.now c.args.start c.loop-entry.place (length c.args.t.now) c.loop-entry.at (length c.front-part.result.now) i.place c.requires.columns (omega (arith, c.front-part.ensures.len, c.in-Some.ensures.within, c.behind-rest.ensures.len, i.within));
      marker = quote_fits _ c.args.number _ c.behind-rest.result.now c.front-part.result.now c.in-Some.size c.in-Some.ensures.value c.front-part.ensures.value;
    }

pub returns-then-at-whole-clause-marks : goal.returns-then-at-whole-clause-marks
returns-then-at-whole-clause-marks g c = λ seats are is.
    let stack = map open_of (drop c.loop-entry.entry-index c.args.stack.now) in
    let gone : drop c.loop-entry.at c.args.t.now ≡ [] = drop_all c.loop-entry.at c.args.t.now (omega (arith, c.if-at-whole.true)) in
    let size : length c.args.t.now ≡ length seats = ap (λ (l : List ℕ). length l) is ∙ length-map seats (λ (s : Seat). s.byte) in
    let left : drop c.loop-entry.at seats ≡ [] = drop_all c.loop-entry.at seats (omega (arith, c.if-at-whole.true, size)) in
    going_nothing c.args.bytes.now stack c.args.number c.loop-entry.events.items _ _ _ gone left (c.loop-entry.invariant.marks seats are is)

pub returns-then-at-whole-clause-columns : goal.returns-then-at-whole-clause-columns
returns-then-at-whole-clause-columns g c =
    let gone : drop c.loop-entry.at c.args.t.now ≡ [] = drop_all c.loop-entry.at c.args.t.now (omega (arith, c.if-at-whole.true)) in
    let none = nothing_columns (map open_of (drop c.loop-entry.entry-index c.args.stack.now)) c.args.number _ gone in
    omega (arith, none, c.loop-entry.invariant.columns)

pub returns-then-at-whole-clause-turns : goal.returns-then-at-whole-clause-turns
returns-then-at-whole-clause-turns g c =
    let i = c.loop-entry.invariant in
    let white = first_within c.args.t.now c.loop-entry.at c.loop-entry.first i.within i.first in
    omega (arith, i.turns, i.few, i.within, white, c.add_one.ensures)

pub returns-in_default-clause-turns : goal.returns-in_default-clause-turns
returns-in_default-clause-turns g c =
    let i = c.loop-entry.invariant in
    let white = first_within c.args.t.now c.loop-entry.at c.loop-entry.first i.within i.first in
    omega (arith, i.turns, i.few, i.within, white, c.add_one.ensures)

pub returns-clause-turns : goal.returns-clause-turns
returns-clause-turns g c =
    let i = c.loop-entry.invariant in
    let white = first_within c.args.t.now c.loop-entry.at c.loop-entry.first i.within i.first in
    omega (arith, i.turns, i.few, i.within, white)

pub returns-in_err-place-clause-turns : goal.returns-in_err-place-clause-turns
returns-in_err-place-clause-turns g c =
    let i = c.loop-entry.invariant in
    let white = first_within c.args.t.now c.loop-entry.at c.loop-entry.first i.within i.first in
    omega (arith, i.turns, i.few, i.within, white, c.add_one.ensures, c.going_prefix.ensures.turns, c.front-part.ensures.len, c.in-Some.ensures.within, c.behind-rest.ensures.len)
