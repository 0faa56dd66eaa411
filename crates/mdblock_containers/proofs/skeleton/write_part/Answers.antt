use Rattle.std.proofs.Common.{◌≡◌, ℕ, ◌+◌, ◌<◌, ◌≤◌, ◌^◌, ◌*◌, true, false, cond, List, [], ◌++◌, length, take, drop, map, min, length-take, refl, sym, ap, ◌∙◌, subst, arith}
use Rattle.std.specs.Prelude.{◌==◌, ◌&&◌, not, Some, None}
use Rattle.std.specs.List.{flat_map}
use Rattle.std.proofs.lemmas.List.{append-nil, length-map, length-take-le}
use Rattle.markdown_base.specs.Virtual.{point}
use Rattle.mdblock_leaf_blocks.specs.LeafEvents.{Mark}
use Rattle.mdblock_lines.specs.Containers.{Container, Prefix}
use Rattle.mdblock_containers.specs.declared.going.Open.{Open}
use Rattle.mdblock_containers.specs.Costs.{IsEnough, columns_in}
use Rattle.mdblock_containers.specs.Frames.{frame_of, frames_in}
use Rattle.mdblock_containers.specs.Over.{AreEarlier}
use Rattle.mdblock_containers.specs.Rest.{AreLeft, rest_marks}
use Rattle.mdblock_containers.specs.Rows.{has_none, holds_ending}
use Rattle.mdblock_containers.specs.Skeleton.{behind_marks, frames_at, frames_of, further, is_held, parts}
use Rattle.mdblock_containers.specs.Prefixes.{containers_of}
use Rattle.mdblock_containers.specs.Stood.{IsStood}
use Rattle.mdblock_containers.specs.Stretches.{HasFurther, InStretch, end_at, last_at}
use Rattle.mdblock_containers.specs.Views.{begun_of, leaf_of, open_of}
use Rattle.mdblock_containers.specs.Written.{Written}
use Rattle.mdblock_containers.proofs.ColumnLemmas.{few_columns}
use Rattle.mdblock_containers.proofs.CostLemmas.{going_sizes}
use Rattle.mdblock_containers.proofs.FrameFacts.{none_is}
use Rattle.mdblock_containers.proofs.PartLemmas.{passed_next, passed_own}
use Rattle.mdblock_containers.proofs.PartCosts.{part_open, part_paid, part_turned}
use Rattle.mdblock_containers.proofs.PartFacts.{line_size, lines_few, the_columns, the_fits, the_going, the_inside, the_lazy, the_left, the_many, the_row, the_sum, the_went}
use Rattle.mdblock_containers.proofs.PartWritten.{begin_small, blank_columns, ends_is, few_of, frames_is, further_left, going_of, last_number, last_size, left_behind, own_of, rest_is, stretch_begins, write_begin, write_blank}
use Rattle.mdblock_containers.proofs.RestLemmas.{part_of}
use Rattle.mdblock_containers.proofs.StoodLemmas.{spans_all, spans_fewer, spans_own, spans_shown, stood_all, stood_own, stood_shown}
use Rattle.mdblock_containers.proofs.skeleton.write_part.Goals as goal
use Rattle.markdown_children.proofs.ChainOrder.Following.{by_test}

pub begin_part-requires : goal.begin_part-requires
begin_part-requires g c =
    let some : 0 < c.args.tab = omega (arith, c.get-tab_size.ensures.least, c.get-tab_size.ensures.columns) in
    let stack = map open_of c.args.stack.now.items in
    let p = c.requires.part in
    record {
      inside = the_inside c.args.tab c.args.bytes.now some c.requires.limit stack c.args.first.now c.args.behind.now p.row p.rows p.left;
      columns = the_columns c.args.tab c.args.bytes.now some c.requires.limit stack c.args.first.now c.args.behind.now p.row p.rows p.left;
      going = the_going c.args.tab c.args.bytes.now some c.requires.limit stack c.args.first.now c.args.behind.now p.row p.rows p.left;
      fits = the_fits c.args.tab c.args.bytes.now some c.requires.limit stack c.args.first.now c.args.behind.now p.row p.rows p.left;
      sum = the_sum c.args.tab c.args.bytes.now some c.requires.limit stack c.args.first.now c.args.behind.now p.row p.rows p.left;
      sizes =
          let first = c.args.first.now in
          let went = the_went c.args.tab c.args.bytes.now some c.requires.limit stack first c.args.behind.now p.row p.rows p.left in
          let own_all = c.in_ok-all.ensures.many p.row (the_row c.args.tab c.args.bytes.now some c.requires.limit stack first c.args.behind.now p.row p.rows p.left) went (the_left c.args.tab c.args.bytes.now some c.requires.limit stack first c.args.behind.now p.row p.rows p.left)
          (the_lazy c.args.tab c.args.bytes.now some c.requires.limit stack first c.args.behind.now p.row p.rows p.left) in
          let own_is = own_of c.open_in.new.stack.items c.first_of-own.result.now c.as_slice-2.result.now c.in_ok-all.all c.first_of-own.ensures c.as_slice-2.ensures.value in
          let going_is = going_of c.first_of-own.result.now c.first_of-going.result.now c.least.result (min c.standing-stands.result first.row.many) c.first_of-going.ensures c.least.ensures in
          going_sizes (map open_of c.first_of-going.result.now) (map open_of c.first_of-own.result.now) (containers_of p.row.went_on) (containers_of p.row.begun) stack c.standing-stands.result first.row.many going_is (own_is ∙ own_all) went (omega (arith, p.left.are.0.many)) p.left.are.0.sizes;
    }

-- the containers of the part before, in the code's slice
pub stood_in-went-requires : goal.stood_in-went-requires
stood_in-went-requires g c = subst (λ (l : List Open). IsStood c.args.stood (map open_of l)) (sym c.as_slice.ensures.value) c.requires.stood

pub stood_in-kept-requires : goal.stood_in-kept-requires
stood_in-kept-requires g c =
    let t = c.args.tab in
    let bytes = c.args.bytes.now in
    let some : 0 < c.args.tab = omega (arith, c.get-tab_size.ensures.least, c.get-tab_size.ensures.columns) in
    let stack = map open_of c.args.stack.now.items in
    let p = c.requires.part in
    let first = c.args.first.now in
    let behind = c.args.behind.now in
    let went = the_went t bytes some c.requires.limit stack first behind p.row p.rows p.left in
    let own_all = c.in_ok-all.ensures.many p.row (the_row t bytes some c.requires.limit stack first behind p.row p.rows p.left) went (the_left t bytes some c.requires.limit stack first behind p.row p.rows p.left) (the_lazy t bytes some c.requires.limit stack first behind p.row p.rows p.left) in
    let own_is = own_of c.open_in.new.stack.items c.first_of-own.result.now c.as_slice-2.result.now c.in_ok-all.all c.first_of-own.ensures c.as_slice-2.ensures.value in
    let before = subst (λ (l : List Open). IsStood c.stood_in-went.result (map open_of l)) c.as_slice.ensures.value c.stood_in-went.ensures.stood in
    stood_own c.stood_in-went.result stack (map open_of c.first_of-own.result.now) (containers_of p.row.went_on) (containers_of p.row.begun) first.row.many before c.stood_in-went.ensures.few went (own_is ∙ own_all)

pub standing-stands-requires : goal.standing-stands-requires
standing-stands-requires g c =
    let t = c.args.tab in
    let bytes = c.args.bytes.now in
    let some : 0 < c.args.tab = omega (arith, c.get-tab_size.ensures.least, c.get-tab_size.ensures.columns) in
    let stack = map open_of c.args.stack.now.items in
    let p = c.requires.part in
    let first = c.args.first.now in
    let behind = c.args.behind.now in
    let the = the_row t bytes some c.requires.limit stack first behind p.row p.rows p.left in
    let went = the_went t bytes some c.requires.limit stack first behind p.row p.rows p.left in
    let own_all = c.in_ok-all.ensures.many p.row the went (the_left t bytes some c.requires.limit stack first behind p.row p.rows p.left) (the_lazy t bytes some c.requires.limit stack first behind p.row p.rows p.left) in
    let own = map open_of c.first_of-own.result.now in
    let own_is = own_of c.open_in.new.stack.items c.first_of-own.result.now c.as_slice-2.result.now c.in_ok-all.all c.first_of-own.ensures c.as_slice-2.ensures.value in
    let none_begin : has_none first.row.begun.items ≡ true → own ≡ take first.row.many stack =
    λ none.
    let begun : p.row.begun ≡ [] = sym the.begun ∙ ap (begun_of first.row.list first.span.number) (none_is first.row.begun.items none) in
    own_is ∙ own_all ∙ ap (λ (l : List Prefix). containers_of p.row.went_on ++ containers_of l) begun ∙ append-nil (containers_of p.row.went_on) ∙ went in
    let few : length own ≤ c.in_ok-all.all = omega (arith, ap (λ (l : List Container). length l) own_is, length-take c.in_ok-all.all (map open_of c.open_in.new.stack.items)) in
    subst (λ (n : ℕ). AreEarlier first.span.number c.passed_in-seen.result n own) (length-map c.first_of-own.result.now open_of)
    (passed_own first.span.number c.args.passed.from c.args.passed.to first.row.many c.in_ok-all.all c.passed_in-seen.result stack own (has_none first.row.begun.items) c.requires.passed none_begin few c.passed_in-seen.ensures)

pub go_to_part-requires : goal.go_to_part-requires
go_to_part-requires g c =
    let t = c.args.tab in
    let bytes = c.args.bytes.now in
    let some : 0 < c.args.tab = omega (arith, c.get-tab_size.ensures.least, c.get-tab_size.ensures.columns) in
    let stack = map open_of c.args.stack.now.items in
    let p = c.requires.part in
    let first = c.args.first.now in
    let behind = c.args.behind.now in
    let frames = c.args.frames.now.items in
    let went = the_went t bytes some c.requires.limit stack first behind p.row p.rows p.left in
    let own_all = c.in_ok-all.ensures.many p.row (the_row t bytes some c.requires.limit stack first behind p.row p.rows p.left) went (the_left t bytes some c.requires.limit stack first behind p.row p.rows p.left) (the_lazy t bytes some c.requires.limit stack first behind p.row p.rows p.left) in
    let own = map open_of c.first_of-own.result.now in
    let own_is = own_of c.open_in.new.stack.items c.first_of-own.result.now c.as_slice-2.result.now c.in_ok-all.all c.first_of-own.ensures c.as_slice-2.ensures.value in
    let before = subst (λ (l : List Open). IsStood c.stood_in-went.result (map open_of l)) c.as_slice.ensures.value c.stood_in-went.ensures.stood in
    let has = spans_fewer frames c.args.stood c.stood_in-went.result stack c.requires.spans c.requires.stood before c.stood_in-went.ensures.fewer in
    let own_stood = stood_own c.stood_in-went.result stack own (containers_of p.row.went_on) (containers_of p.row.begun) first.row.many before c.stood_in-went.ensures.few went (own_is ∙ own_all) in
    let own_has = spans_own c.stood_in-went.result stack own (containers_of p.row.went_on) (containers_of p.row.begun) first.row.many before c.stood_in-went.ensures.few went (own_is ∙ own_all) frames has in
    let kept_has = spans_fewer frames c.stood_in-went.result c.stood_in-kept.result own own_has own_stood c.stood_in-kept.ensures.stood c.stood_in-kept.ensures.fewer in
    let shown_is = going_of c.first_of-own.result.now c.first_of-shown.result.now c.standing-stands.result c.standing-stands.result c.first_of-shown.ensures refl in
    record {
      stood = stood_shown c.stood_in-kept.result own (map open_of c.first_of-shown.result.now) c.standing-stands.result c.stood_in-kept.ensures.stood c.stood_in-kept.ensures.few shown_is;
      spans = spans_shown c.stood_in-kept.result own (map open_of c.first_of-shown.result.now) c.standing-stands.result c.stood_in-kept.ensures.stood c.stood_in-kept.ensures.few shown_is frames kept_has;
    }

pub slice_bounds-more-end : goal.slice_bounds-more-end
slice_bounds-more-end g c =
    let some : 0 < c.args.tab = omega (arith, c.get-tab_size.ensures.least, c.get-tab_size.ensures.columns) in
    let p = c.requires.part in
    let few = lines_few c.args.tab c.args.bytes.now some c.requires.limit (map open_of c.args.stack.now.items) c.args.first.now c.args.behind.now p.row p.rows p.left c.args.ahead p.ahead_is in
    omega (arith, few, c.lines_of-lines.ensures, length-take c.lines_of-lines.result c.args.behind.now)

pub end_of_part-end-requires : goal.end_of_part-end-requires
end_of_part-end-requires g c =
    let some : 0 < c.args.tab = omega (arith, c.get-tab_size.ensures.least, c.get-tab_size.ensures.columns) in
    let p = c.requires.part in
    let first = c.args.first.now in
    let behind = c.args.behind.now in
    record {
      size = subst (λ (n : ℕ). (last_at first (take n behind)).span.size + 1 < 2 ^ 64) (sym c.lines_of-lines.ensures) (last_size c.args.tab c.args.bytes.now some c.requires.limit (map open_of c.args.stack.now.items) first behind p.row p.rows p.left c.args.ahead p.ahead_is);
      number = subst (λ (n : ℕ). (last_at first (take n behind)).span.number + 1 < 2 ^ 64) (sym c.lines_of-lines.ensures) (last_number c.args.tab c.args.bytes.now some c.requires.limit (map open_of c.args.stack.now.items) first behind p.row p.rows p.left c.args.ahead p.ahead_is);
    }

pub fill_part-requires : goal.fill_part-requires
fill_part-requires g c =
    let t = c.args.tab in
    let bytes = c.args.bytes.now in
    let some : 0 < c.args.tab = omega (arith, c.get-tab_size.ensures.least, c.get-tab_size.ensures.columns) in
    let stack = map open_of c.args.stack.now.items in
    let p = c.requires.part in
    let first = c.args.first.now in
    let behind = c.args.behind.now in
    let the = the_row t bytes some c.requires.limit stack first behind p.row p.rows p.left in
    let went = the_went t bytes some c.requires.limit stack first behind p.row p.rows p.left in
    let own_all = c.in_ok-all.ensures.many p.row the went (the_left t bytes some c.requires.limit stack first behind p.row p.rows p.left) (the_lazy t bytes some c.requires.limit stack first behind p.row p.rows p.left) in
    let own_is = own_of c.open_in.new.stack.items c.first_of-own.result.now c.as_slice-2.result.now c.in_ok-all.all c.first_of-own.ensures c.as_slice-2.ensures.value in
    let going_is = going_of c.first_of-own.result.now c.first_of-going.result.now c.least.result (min c.standing-stands.result first.row.many) c.first_of-going.ensures c.least.ensures in
    let stack_is = ap (map open_of) c.as_slice-3.ensures.value ∙ c.in_ok-all.ensures.stack p.row the went in
    record {
      limit = c.requires.limit;
      within = λ b. begin_small t bytes some c.requires.limit stack first behind p.row p.rows p.left c.args.ahead p.ahead_is (map open_of c.open_in.new.stack.items) (map open_of c.first_of-own.result.now) c.in_ok-all.all c.standing-stands.result own_is own_all
          c.standing-stands.ensures.value (few_of c.first_of-own.result.now c.standing-stands.result c.standing-stands.ensures.few) (map open_of c.first_of-going.result.now) going_is c.in_ok-begin.begin c.in_ok-begin.ensures.columns c.in_ok-begin.ensures.place;
      columns = λ b. blank_columns t bytes some c.requires.limit stack first behind p.row p.rows p.left c.args.ahead p.ahead_is (map open_of c.open_in.new.stack.items) (map open_of c.first_of-own.result.now) c.in_ok-all.all c.standing-stands.result own_is own_all
          c.standing-stands.ensures.value (few_of c.first_of-own.result.now c.standing-stands.result c.standing-stands.ensures.few) (map open_of c.first_of-going.result.now) going_is c.in_ok-begin.begin c.in_ok-begin.ensures.columns c.in_ok-begin.ensures.place;
      further = λ b. subst (λ (n : ℕ). HasFurther t bytes (map open_of c.as_slice-3.result.now) (take n behind)) (sym c.lines_of-lines.ensures)
          (further_left t bytes some c.requires.limit stack first behind p.row p.rows p.left c.args.ahead p.ahead_is (map open_of c.as_slice-3.result.now) stack_is);
    }

pub returns : goal.returns
returns g c =
    let t = c.args.tab in
    let bytes = c.args.bytes.now in
    let some : 0 < c.args.tab = omega (arith, c.get-tab_size.ensures.least, c.get-tab_size.ensures.columns) in
    let limit = c.requires.limit in
    let stack = map open_of c.args.stack.now.items in
    let first = c.args.first.now in
    let behind = c.args.behind.now in
    let ahead = c.args.ahead in
    let next = map frame_of c.go_to_part.new.frames.items in
    let p = c.requires.part in
    let all_open = map open_of c.open_in.new.stack.items in
    let all_own = map open_of c.first_of-own.result.now in
    let all_own_is = own_of c.open_in.new.stack.items c.first_of-own.result.now c.as_slice-2.result.now c.in_ok-all.all c.first_of-own.ensures c.as_slice-2.ensures.value in
    let all_shown_is = going_of c.first_of-own.result.now c.first_of-shown.result.now c.standing-stands.result c.standing-stands.result c.first_of-shown.ensures refl in
    let all_size = c.in_ok-next.ensures.containers ∙ sym (length-map c.first_of-shown.result.now open_of) in
    let all_few : c.in_ok-all.all ≤ length all_open =
    omega (arith, c.in_ok-all.ensures.few (omega (arith, the_many t bytes some limit stack first behind p.row p.rows p.left, length-map c.args.stack.now.items open_of)), length-map c.open_in.new.stack.items open_of) in
    record {
      turns = λ r rs budget left ae paid before.
          let few : first.row.many ≤ length c.args.stack.now.items = omega (arith, left.are.0.many, length-map c.args.stack.now.items open_of) in
          let small : r.columns ≤ first.span.size = omega (arith, left.are.0.placed.columns, left.are.0.is.columns) in
          let the = the_row t bytes some limit stack first behind r rs left in
          let own : length c.first_of-own.result.now ≡ c.in_ok-all.all =
          ap (λ (l : List Open). length l) (c.first_of-own.ensures ∙ ap (take c.in_ok-all.all) c.as_slice-2.ensures.value) ∙ length-take-le c.in_ok-all.all c.open_in.new.stack.items (c.in_ok-all.ensures.few few) in
          let shown : length c.first_of-shown.result.now ≡ c.standing-stands.result =
          ap (λ (l : List Open). length l) c.first_of-shown.ensures ∙ length-take-le c.standing-stands.result c.first_of-own.result.now c.standing-stands.ensures.few in
          let turned = part_turned r rs paid first.span.number first.row the first.span.size small c.args.turns.now budget (length c.args.frames.now.items) c.args.stood.containers c.args.passed.from c.args.passed.to (length c.args.stack.now.items) before c.stood_in-went.new.turns c.stood_in-went.result.containers c.open_in.new.turns c.stood_in-went.ensures.turns c.open_in.ensures.turns
          few c.stood_in-went.ensures.least c.in_ok-all.all c.in_ok-all.ensures.fewer (c.in_ok-all.ensures.least few) c.args.ahead ae c.passed_in-seen.result c.passed_in-seen.ensures c.standing-stands.new.turns c.standing-stands.result
          (omega (arith, c.standing-stands.ensures.turns, own)) c.standing-stands.ensures.asked c.standing-stands.ensures.below (omega (arith, c.standing-stands.ensures.few, own)) c.stood_in-kept.new.turns c.stood_in-kept.result.containers c.stood_in-kept.ensures.turns c.stood_in-kept.ensures.least c.go_to_part.new.turns (omega (arith, c.go_to_part.ensures.turns, shown)) in
          let line = line_size t bytes some limit stack first behind r rs left in
          let more = few_columns behind c.lines_of-lines.result in
          omega (arith, turned, line, more, c.begin_part.ensures.turns, c.fill_part.ensures.turns);
      paid = λ r rs budget left ae paid before.
          let few : first.row.many ≤ length c.args.stack.now.items = omega (arith, left.are.0.many, length-map c.args.stack.now.items open_of) in
          let small : r.columns ≤ first.span.size = omega (arith, left.are.0.placed.columns, left.are.0.is.columns) in
          let the = the_row t bytes some limit stack first behind r rs left in
          let own : length c.first_of-own.result.now ≡ c.in_ok-all.all =
          ap (λ (l : List Open). length l) (c.first_of-own.ensures ∙ ap (take c.in_ok-all.all) c.as_slice-2.ensures.value) ∙ length-take-le c.in_ok-all.all c.open_in.new.stack.items (c.in_ok-all.ensures.few few) in
          let shown : length c.first_of-shown.result.now ≡ c.standing-stands.result =
          ap (λ (l : List Open). length l) c.first_of-shown.ensures ∙ length-take-le c.standing-stands.result c.first_of-own.result.now c.standing-stands.ensures.few in
          let line = line_size t bytes some limit stack first behind r rs left in
          let extra = 12 * first.span.size + 4 + 8 * columns_in (take c.lines_of-lines.result behind) in
          let enough = part_paid r rs paid first.span.number first.row the first.span.size small c.args.turns.now budget (length c.args.frames.now.items) c.args.stood.containers c.args.passed.from c.args.passed.to (length c.args.stack.now.items) before c.stood_in-went.new.turns c.stood_in-went.result.containers c.open_in.new.turns c.stood_in-went.ensures.turns c.open_in.ensures.turns
          few c.stood_in-went.ensures.least c.in_ok-all.all c.in_ok-all.ensures.fewer (c.in_ok-all.ensures.least few) c.args.ahead ae c.passed_in-seen.result c.passed_in-seen.ensures c.standing-stands.new.turns c.standing-stands.result
          (omega (arith, c.standing-stands.ensures.turns, own)) c.standing-stands.ensures.asked c.standing-stands.ensures.below (omega (arith, c.standing-stands.ensures.few, own)) c.stood_in-kept.new.turns c.stood_in-kept.result.containers c.stood_in-kept.ensures.turns c.stood_in-kept.ensures.least
          (λ b. omega (arith, c.standing-stands.ensures.least b, own)) (length c.open_in.new.stack.items) c.passed_by-next_passed.result.from c.passed_by-next_passed.result.to c.lines_of-lines.result (length c.go_to_part.new.frames.items) c.go_to_part.new.turns c.fill_part.new.turns extra
          c.in_ok-all.ensures.whole c.passed_by-next_passed.ensures.from c.passed_by-next_passed.ensures.to c.lines_of-lines.ensures (omega (arith, c.in_ok-next.ensures.paid, shown)) (omega (arith, line, c.begin_part.ensures.turns, c.fill_part.ensures.turns)) in
          let stands : c.in_ok-next.next.containers ≡ c.standing-stands.result = c.in_ok-next.ensures.containers ∙ shown in
          let wider : budget + (7 * first.span.size + 1 + extra) ≤ budget + 19 * first.span.size + 5 + 8 * columns_in (take c.lines_of-lines.result behind) = omega arith in
          subst (λ (s : ℕ). IsEnough c.fill_part.new.turns (budget + 19 * first.span.size + 5 + 8 * columns_in (take c.lines_of-lines.result behind)) (length c.go_to_part.new.frames.items) s c.passed_by-next_passed.result.from c.passed_by-next_passed.result.to (length c.open_in.new.stack.items) (drop c.lines_of-lines.result rs)) (sym stands)
          (record { asked = enough.asked; are = enough.are; enough = omega (arith, enough.enough, wider) });
      passed = passed_next first.span.number c.standing-stands.result c.in_ok-all.all c.passed_by-next_passed.result.from c.passed_by-next_passed.result.to all_own all_open first.row.is_blank (has_none first.row.begun.items) all_own_is all_few
          c.passed_by-next_passed.ensures.from c.passed_by-next_passed.ensures.to
          (λ b. subst (λ (n : ℕ). AreEarlier first.span.number c.standing-stands.result n all_own) (sym (length-map c.first_of-own.result.now open_of)) (c.standing-stands.ensures.passed b));
      stood = stood_all c.in_ok-next.next all_open all_own (map open_of c.first_of-shown.result.now) c.in_ok-all.all c.standing-stands.result c.in_ok-next.ensures.stood all_size all_own_is all_shown_is;
      spans = spans_all c.in_ok-next.next all_open all_own (map open_of c.first_of-shown.result.now) c.in_ok-all.all c.standing-stands.result c.in_ok-next.ensures.stood all_size all_own_is all_shown_is c.go_to_part.new.frames.items
          (frames_in c.list_behind-list.result) c.in_ok-next.ensures.frames;
      few = let few = lines_few t bytes some limit stack first behind p.row p.rows p.left ahead p.ahead_is in omega (arith, few, c.lines_of-lines.ensures);
      left = λ r rs left ae.
          subst (λ (n : ℕ). AreLeft bytes t (map open_of c.open_in.new.stack.items) (drop n behind) (drop n rs)) (sym c.lines_of-lines.ensures)
          (left_behind t bytes some limit stack first behind r rs left ahead ae (map open_of c.open_in.new.stack.items) (c.in_ok-all.ensures.stack r (the_row t bytes some limit stack first behind r rs left) (the_went t bytes some limit stack first behind r rs left)));
      written = λ r rs all left ae w.
          let the = the_row t bytes some limit stack first behind r rs left in
          let went = the_went t bytes some limit stack first behind r rs left in
          let open_now = map open_of c.open_in.new.stack.items in
          let own = map open_of c.first_of-own.result.now in
          let stands = c.standing-stands.result in
          let own_all = c.in_ok-all.ensures.many r the went (the_left t bytes some limit stack first behind r rs left) (the_lazy t bytes some limit stack first behind r rs left) in
          let own_is = own_of c.open_in.new.stack.items c.first_of-own.result.now c.as_slice-2.result.now c.in_ok-all.all c.first_of-own.ensures c.as_slice-2.ensures.value in
          let few = few_of c.first_of-own.result.now stands c.standing-stands.ensures.few in
          let going = map open_of c.first_of-going.result.now in
          let going_is = going_of c.first_of-own.result.now c.first_of-going.result.now c.least.result (min stands first.row.many) c.first_of-going.ensures c.least.ensures in
          let open_is = c.in_ok-all.ensures.stack r the went in
          let shown_is : map open_of c.first_of-shown.result.now ≡ take stands own = going_of c.first_of-own.result.now c.first_of-shown.result.now stands stands c.first_of-shown.ensures refl in
          let frames : next ≡ frames_at r rs = c.in_ok-next.ensures.frames ∙ (λ k. flat_map frames_of (shown_is k) ++ frames_in c.list_behind-list.result)
          ∙ frames_is t bytes some limit stack first behind r rs left ahead ae open_now own c.in_ok-all.all stands own_is own_all c.standing-stands.ensures.value few (frames_in c.list_behind-list.result) c.list_behind-list.ensures in
          let old = map frame_of c.args.frames.now.items in
          let exits = c.in_ok-next.ensures.events in
          let rest = behind_marks bytes (part_of r rs) (parts (drop (cond r.is_blank 0 (further rs)) rs)) in
          let begun = write_begin t bytes some limit stack first behind r rs left ahead ae open_now own c.in_ok-all.all stands own_is own_all c.standing-stands.ensures.value few going going_is
          c.args.events.now.items c.go_to_part.new.events.items c.begin_part.new.events.items old next c.args.end all frames exits c.in_ok-begin.ensures.marks w in
          let e = c.end_of_part-end.result in
          let n : c.lines_of-lines.result ≡ cond first.row.is_blank 0 ahead.further = c.lines_of-lines.ensures in
          let place = c.end_of_part-end.ensures.place ∙ (λ k. end_at (not first.row.is_blank && holds_ending (leaf_of (last_at first (take (n k) behind)).row.leaf)) (last_at first (take (n k) behind))) in
          let ending = c.end_of_part-end.ensures.behind ∙ (λ k. cond (not first.row.is_blank && holds_ending (leaf_of (last_at first (take (n k) behind)).row.leaf)) None (cond ((last_at first (take (n k) behind)).span.end == (last_at first (take (n k) behind)).span.next) None (Some (point ((last_at first (take (n k) behind)).span.number + 1) 1 (last_at first (take (n k) behind)).span.next 0)))) in
          let ends = ends_is t bytes some limit stack first behind r rs left ahead ae e c.end_of_part-end.ensures.is_blank place ending in
          let is_left = rest_is t bytes some limit stack first behind r rs left ahead ae e c.end_of_part-end.ensures.is_blank place ending next frames in
          let filled : Written c.fill_part.new.events.items None false rest all = by_test first.row.is_blank
          (λ b. write_blank t bytes some limit stack first behind r rs left ahead ae open_now own c.in_ok-all.all stands own_is own_all c.standing-stands.ensures.value few going going_is c.in_ok-begin.begin c.in_ok-begin.ensures.columns c.in_ok-begin.ensures.place
          c.begin_part.new.events.items c.fill_part.new.events.items rest all b (c.in_ok-fill_part.ensures.blank b) begun)
          (λ b. c.in_ok-fill_part.ensures.stretch b (is_held (part_of r rs)) rest all
          (subst (λ (m : ℕ). InStretch t bytes (map open_of c.as_slice-3.result.now) (is_held (part_of r rs)) c.begin_part.new.events.items None c.in_ok-begin.begin.place e.place (take m behind) rest all) (sym n)
          (subst (λ (s : List Container). InStretch t bytes s (is_held (part_of r rs)) c.begin_part.new.events.items None c.in_ok-begin.begin.place e.place (take (cond first.row.is_blank 0 ahead.further) behind) rest all) (sym (ap (map open_of) c.as_slice-3.ensures.value))
          (stretch_begins t bytes some limit stack first behind r rs left ahead ae open_now own c.in_ok-all.all stands own_is own_all c.standing-stands.ensures.value few going going_is c.in_ok-begin.begin c.in_ok-begin.ensures.columns c.in_ok-begin.ensures.place open_is
          c.begin_part.new.events.items e.place rest all b ends begun)))) in
          subst (λ (m : ℕ). Written c.fill_part.new.events.items None false (rest_marks bytes next e (parts (drop m rs))) all) (sym n) (subst (λ (ms : List Mark). Written c.fill_part.new.events.items None false ms all) is_left filled);
    }

-- where memory is wanted, the columns have paid
pub returns-in_err-all-clause-turns : goal.returns-in_err-all-clause-turns
returns-in_err-all-clause-turns g c = λ r rs budget left ae paid before.
    let t = c.args.tab in
    let bytes = c.args.bytes.now in
    let some : 0 < c.args.tab = omega (arith, c.get-tab_size.ensures.least, c.get-tab_size.ensures.columns) in
    let stack = map open_of c.args.stack.now.items in
    let first = c.args.first.now in
    let behind = c.args.behind.now in
    let the = the_row t bytes some c.requires.limit stack first behind r rs left in
    let small : r.columns ≤ first.span.size = omega (arith, left.are.0.placed.columns, left.are.0.is.columns) in
    let few : first.row.many ≤ length c.args.stack.now.items = omega (arith, left.are.0.many, length-map c.args.stack.now.items open_of) in
    let opened = part_open r rs paid first.span.number first.row the first.span.size small c.args.turns.now budget (length c.args.frames.now.items) c.args.stood.containers c.args.passed.from c.args.passed.to (length c.args.stack.now.items) before c.stood_in-went.new.turns c.stood_in-went.result.containers c.open_in.new.turns c.stood_in-went.ensures.turns c.open_in.ensures.turns in
    omega (arith, opened)

pub returns-in_err-next-clause-turns : goal.returns-in_err-next-clause-turns
returns-in_err-next-clause-turns g c = λ r rs budget left ae paid before.
    let t = c.args.tab in
    let bytes = c.args.bytes.now in
    let some : 0 < c.args.tab = omega (arith, c.get-tab_size.ensures.least, c.get-tab_size.ensures.columns) in
    let stack = map open_of c.args.stack.now.items in
    let first = c.args.first.now in
    let behind = c.args.behind.now in
    let the = the_row t bytes some c.requires.limit stack first behind r rs left in
    let small : r.columns ≤ first.span.size = omega (arith, left.are.0.placed.columns, left.are.0.is.columns) in
    let few : first.row.many ≤ length c.args.stack.now.items = omega (arith, left.are.0.many, length-map c.args.stack.now.items open_of) in
    let own : length c.first_of-own.result.now ≡ c.in_ok-all.all =
    ap (λ (l : List Open). length l) (c.first_of-own.ensures ∙ ap (take c.in_ok-all.all) c.as_slice-2.ensures.value) ∙ length-take-le c.in_ok-all.all c.open_in.new.stack.items (c.in_ok-all.ensures.few few) in
    let shown : length c.first_of-shown.result.now ≡ c.standing-stands.result =
    ap (λ (l : List Open). length l) c.first_of-shown.ensures ∙ length-take-le c.standing-stands.result c.first_of-own.result.now c.standing-stands.ensures.few in
    let turned = part_turned r rs paid first.span.number first.row the first.span.size small c.args.turns.now budget (length c.args.frames.now.items) c.args.stood.containers c.args.passed.from c.args.passed.to (length c.args.stack.now.items) before c.stood_in-went.new.turns c.stood_in-went.result.containers c.open_in.new.turns c.stood_in-went.ensures.turns c.open_in.ensures.turns
    few c.stood_in-went.ensures.least c.in_ok-all.all c.in_ok-all.ensures.fewer (c.in_ok-all.ensures.least few) c.args.ahead ae c.passed_in-seen.result c.passed_in-seen.ensures c.standing-stands.new.turns c.standing-stands.result
    (omega (arith, c.standing-stands.ensures.turns, own)) c.standing-stands.ensures.asked c.standing-stands.ensures.below (omega (arith, c.standing-stands.ensures.few, own)) c.stood_in-kept.new.turns c.stood_in-kept.result.containers c.stood_in-kept.ensures.turns c.stood_in-kept.ensures.least c.go_to_part.new.turns (omega (arith, c.go_to_part.ensures.turns, shown)) in
    omega (arith, turned)

pub returns-in_err-begin-clause-turns : goal.returns-in_err-begin-clause-turns
returns-in_err-begin-clause-turns g c = λ r rs budget left ae paid before.
    let t = c.args.tab in
    let bytes = c.args.bytes.now in
    let some : 0 < c.args.tab = omega (arith, c.get-tab_size.ensures.least, c.get-tab_size.ensures.columns) in
    let stack = map open_of c.args.stack.now.items in
    let first = c.args.first.now in
    let behind = c.args.behind.now in
    let the = the_row t bytes some c.requires.limit stack first behind r rs left in
    let small : r.columns ≤ first.span.size = omega (arith, left.are.0.placed.columns, left.are.0.is.columns) in
    let few : first.row.many ≤ length c.args.stack.now.items = omega (arith, left.are.0.many, length-map c.args.stack.now.items open_of) in
    let own : length c.first_of-own.result.now ≡ c.in_ok-all.all =
    ap (λ (l : List Open). length l) (c.first_of-own.ensures ∙ ap (take c.in_ok-all.all) c.as_slice-2.ensures.value) ∙ length-take-le c.in_ok-all.all c.open_in.new.stack.items (c.in_ok-all.ensures.few few) in
    let shown : length c.first_of-shown.result.now ≡ c.standing-stands.result =
    ap (λ (l : List Open). length l) c.first_of-shown.ensures ∙ length-take-le c.standing-stands.result c.first_of-own.result.now c.standing-stands.ensures.few in
    let turned = part_turned r rs paid first.span.number first.row the first.span.size small c.args.turns.now budget (length c.args.frames.now.items) c.args.stood.containers c.args.passed.from c.args.passed.to (length c.args.stack.now.items) before c.stood_in-went.new.turns c.stood_in-went.result.containers c.open_in.new.turns c.stood_in-went.ensures.turns c.open_in.ensures.turns
    few c.stood_in-went.ensures.least c.in_ok-all.all c.in_ok-all.ensures.fewer (c.in_ok-all.ensures.least few) c.args.ahead ae c.passed_in-seen.result c.passed_in-seen.ensures c.standing-stands.new.turns c.standing-stands.result
    (omega (arith, c.standing-stands.ensures.turns, own)) c.standing-stands.ensures.asked c.standing-stands.ensures.below (omega (arith, c.standing-stands.ensures.few, own)) c.stood_in-kept.new.turns c.stood_in-kept.result.containers c.stood_in-kept.ensures.turns c.stood_in-kept.ensures.least c.go_to_part.new.turns (omega (arith, c.go_to_part.ensures.turns, shown)) in
    let line = line_size t bytes some c.requires.limit stack first behind r rs left in
    omega (arith, turned, line, c.begin_part.ensures.turns)

pub returns-in_err-fill_part-clause-turns : goal.returns-in_err-fill_part-clause-turns
returns-in_err-fill_part-clause-turns g c = λ r rs budget left ae paid before.
    let t = c.args.tab in
    let bytes = c.args.bytes.now in
    let some : 0 < c.args.tab = omega (arith, c.get-tab_size.ensures.least, c.get-tab_size.ensures.columns) in
    let stack = map open_of c.args.stack.now.items in
    let first = c.args.first.now in
    let behind = c.args.behind.now in
    let the = the_row t bytes some c.requires.limit stack first behind r rs left in
    let small : r.columns ≤ first.span.size = omega (arith, left.are.0.placed.columns, left.are.0.is.columns) in
    let few : first.row.many ≤ length c.args.stack.now.items = omega (arith, left.are.0.many, length-map c.args.stack.now.items open_of) in
    let own : length c.first_of-own.result.now ≡ c.in_ok-all.all =
    ap (λ (l : List Open). length l) (c.first_of-own.ensures ∙ ap (take c.in_ok-all.all) c.as_slice-2.ensures.value) ∙ length-take-le c.in_ok-all.all c.open_in.new.stack.items (c.in_ok-all.ensures.few few) in
    let shown : length c.first_of-shown.result.now ≡ c.standing-stands.result =
    ap (λ (l : List Open). length l) c.first_of-shown.ensures ∙ length-take-le c.standing-stands.result c.first_of-own.result.now c.standing-stands.ensures.few in
    let turned = part_turned r rs paid first.span.number first.row the first.span.size small c.args.turns.now budget (length c.args.frames.now.items) c.args.stood.containers c.args.passed.from c.args.passed.to (length c.args.stack.now.items) before c.stood_in-went.new.turns c.stood_in-went.result.containers c.open_in.new.turns c.stood_in-went.ensures.turns c.open_in.ensures.turns
    few c.stood_in-went.ensures.least c.in_ok-all.all c.in_ok-all.ensures.fewer (c.in_ok-all.ensures.least few) c.args.ahead ae c.passed_in-seen.result c.passed_in-seen.ensures c.standing-stands.new.turns c.standing-stands.result
    (omega (arith, c.standing-stands.ensures.turns, own)) c.standing-stands.ensures.asked c.standing-stands.ensures.below (omega (arith, c.standing-stands.ensures.few, own)) c.stood_in-kept.new.turns c.stood_in-kept.result.containers c.stood_in-kept.ensures.turns c.stood_in-kept.ensures.least c.go_to_part.new.turns (omega (arith, c.go_to_part.ensures.turns, shown)) in
    let line = line_size t bytes some c.requires.limit stack first behind r rs left in
    let more = few_columns behind c.lines_of-lines.result in
    omega (arith, turned, line, more, c.begin_part.ensures.turns, c.fill_part.ensures.turns)
