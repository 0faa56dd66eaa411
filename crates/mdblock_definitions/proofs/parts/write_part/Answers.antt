use Rattle.std.proofs.Common.{◌≡◌, ℕ, suc, ◌+◌, ◌<◌, ◌≤◌, ◌*◌, true, cond, List, [], ◌∷◌, ◌++◌, length, take, drop, map, min, length-take, refl, sym, ap, ◌∙◌, subst, arith}
use Rattle.std.specs.Prelude.{◌||◌, None, false}
use Rattle.std.specs.List.{flat_map}
use Rattle.std.proofs.lemmas.List.{append-nil, length-map, length-take-le}
use Rattle.mdblock_leaf_blocks.specs.LeafEvents.{Mark}
use Rattle.mdblock_lines.specs.Containers.{Container, Prefix}
use Rattle.mdblock_containers.specs.declared.going.Open.{Open}
use Rattle.mdblock_containers.specs.declared.spans.RowAt.{RowAt}
use Rattle.mdblock_containers.specs.Costs.{FirstIsNotLazy, IsEnough, columns_in}
use Rattle.mdblock_containers.specs.Frames.{frame_of, frames_in}
use Rattle.mdblock_containers.specs.Over.{AreEarlier}
use Rattle.mdblock_containers.specs.Rest.{AreLeft}
use Rattle.mdblock_containers.specs.Rows.{has_none}
use Rattle.mdblock_containers.specs.Skeleton.{frames_at, frames_of}
use Rattle.mdblock_containers.specs.Prefixes.{containers_of}
use Rattle.mdblock_containers.specs.Stood.{IsStood}
use Rattle.mdblock_containers.specs.Views.{begun_of, open_of}
use Rattle.mdblock_containers.specs.Written.{Written}
use Rattle.mdblock_containers.proofs.CostLemmas.{going_sizes}
use Rattle.mdblock_containers.proofs.FrameFacts.{none_is}
use Rattle.mdblock_containers.proofs.PartLemmas.{passed_next, passed_own}
use Rattle.mdblock_containers.proofs.PartFacts.{line_size, lines_few, the_columns, the_fits, the_going, the_inside, the_lazy, the_left, the_many, the_row, the_sum, the_went}
use Rattle.mdblock_containers.proofs.PartWritten.{few_of, frames_is, going_of, left_behind, own_of}
use Rattle.mdblock_containers.proofs.RestLemmas.{part_of}
use Rattle.mdblock_containers.proofs.StoodLemmas.{spans_all, spans_fewer, spans_own, spans_shown, stood_all, stood_own, stood_shown}
use Rattle.mdblock_definitions.specs.Labelled.{is_one_of}
use Rattle.mdblock_definitions.specs.Sectioned.{IsSectionOf}
use Rattle.mdblock_definitions.specs.Sections.{cut, sections}
use Rattle.mdblock_definitions.specs.Skeleton.{behind_marks, labels_of_section, letters_of_section}
use Rattle.mdblock_definitions.specs.Within.{last_of, rest_sections}
use Rattle.mdblock_definitions.proofs.PartSections.{behind-part, labels-step, letters-step, next-not-lazy, part-begun, part-section, part-texts, stands-all, write-begin}
use Rattle.mdinline_labels.specs.Defined.{defines}
use Rattle.mdblock_containers.proofs.ColumnLemmas.{few_columns}
use Rattle.mdblock_containers.proofs.PartCosts.{part_open, part_paid, part_turned}
use Rattle.mdblock_definitions.specs.Costs.{bytes_in}
use Rattle.mdblock_definitions.proofs.SectionFacts.{left-bytes}
use Rattle.mdblock_definitions.proofs.Uncut.{whole-part}
use Rattle.mdblock_definitions.proofs.parts.write_part.Goals as goal

pub begin_part-requires : goal.begin_part-requires
begin_part-requires g c =
    let some : 0 < c.args.tab = omega (arith, c.get-tab_size.ensures.least, c.get-tab_size.ensures.columns) in
    let stack = map open_of c.args.stack.now.items in
    record {
      inside = the_inside c.args.tab c.args.bytes.now some c.requires.1.0 stack c.args.first.now c.args.behind.now g.given.0 g.given.1 c.requires.1.1.1.0;
      columns = the_columns c.args.tab c.args.bytes.now some c.requires.1.0 stack c.args.first.now c.args.behind.now g.given.0 g.given.1 c.requires.1.1.1.0;
      going = the_going c.args.tab c.args.bytes.now some c.requires.1.0 stack c.args.first.now c.args.behind.now g.given.0 g.given.1 c.requires.1.1.1.0;
      fits = the_fits c.args.tab c.args.bytes.now some c.requires.1.0 stack c.args.first.now c.args.behind.now g.given.0 g.given.1 c.requires.1.1.1.0;
      sum = the_sum c.args.tab c.args.bytes.now some c.requires.1.0 stack c.args.first.now c.args.behind.now g.given.0 g.given.1 c.requires.1.1.1.0;
      sizes =
          let first = c.args.first.now in
          let went = the_went c.args.tab c.args.bytes.now some c.requires.1.0 stack first c.args.behind.now g.given.0 g.given.1 c.requires.1.1.1.0 in
          let own_all = c.in_ok-all.ensures.many g.given.0 (the_row c.args.tab c.args.bytes.now some c.requires.1.0 stack first c.args.behind.now g.given.0 g.given.1 c.requires.1.1.1.0) went (the_left c.args.tab c.args.bytes.now some c.requires.1.0 stack first c.args.behind.now g.given.0 g.given.1 c.requires.1.1.1.0)
          (the_lazy c.args.tab c.args.bytes.now some c.requires.1.0 stack first c.args.behind.now g.given.0 g.given.1 c.requires.1.1.1.0) in
          let own_is = own_of c.open_in.new.stack.items c.first_of-own.result.now c.as_slice-2.result.now c.in_ok-all.all c.first_of-own.ensures c.as_slice-2.ensures.value in
          let going_is = going_of c.first_of-own.result.now c.first_of-going.result.now c.least.result (min c.standing-stands.result first.row.many) c.first_of-going.ensures c.least.ensures in
          going_sizes (map open_of c.first_of-going.result.now) (map open_of c.first_of-own.result.now) (containers_of g.given.0.went_on) (containers_of g.given.0.begun) stack c.standing-stands.result first.row.many going_is (own_is ∙ own_all) went (omega (arith, c.requires.1.1.1.0.are.0.many)) c.requires.1.1.1.0.are.0.sizes;
    }

-- the containers of the part before, in the code's slice
pub stood_in-went-requires : goal.stood_in-went-requires
stood_in-went-requires g c = subst (λ (l : List Open). IsStood c.args.stood (map open_of l)) (sym c.as_slice.ensures.value) c.requires.1.1.1.1.1.1.1.1.0

pub stood_in-kept-requires : goal.stood_in-kept-requires
stood_in-kept-requires g c =
    let t = c.args.tab in
    let bytes = c.args.bytes.now in
    let some : 0 < c.args.tab = omega (arith, c.get-tab_size.ensures.least, c.get-tab_size.ensures.columns) in
    let stack = map open_of c.args.stack.now.items in
    let first = c.args.first.now in
    let behind = c.args.behind.now in
    let went = the_went t bytes some c.requires.1.0 stack first behind g.given.0 g.given.1 c.requires.1.1.1.0 in
    let own_all = c.in_ok-all.ensures.many g.given.0 (the_row t bytes some c.requires.1.0 stack first behind g.given.0 g.given.1 c.requires.1.1.1.0) went (the_left t bytes some c.requires.1.0 stack first behind g.given.0 g.given.1 c.requires.1.1.1.0) (the_lazy t bytes some c.requires.1.0 stack first behind g.given.0 g.given.1 c.requires.1.1.1.0) in
    let own_is = own_of c.open_in.new.stack.items c.first_of-own.result.now c.as_slice-2.result.now c.in_ok-all.all c.first_of-own.ensures c.as_slice-2.ensures.value in
    let before = subst (λ (l : List Open). IsStood c.stood_in-went.result (map open_of l)) c.as_slice.ensures.value c.stood_in-went.ensures.stood in
    stood_own c.stood_in-went.result stack (map open_of c.first_of-own.result.now) (containers_of g.given.0.went_on) (containers_of g.given.0.begun) first.row.many before c.stood_in-went.ensures.few went (own_is ∙ own_all)

pub standing-stands-requires : goal.standing-stands-requires
standing-stands-requires g c =
    let t = c.args.tab in
    let bytes = c.args.bytes.now in
    let some : 0 < c.args.tab = omega (arith, c.get-tab_size.ensures.least, c.get-tab_size.ensures.columns) in
    let stack = map open_of c.args.stack.now.items in
    let first = c.args.first.now in
    let behind = c.args.behind.now in
    let the = the_row t bytes some c.requires.1.0 stack first behind g.given.0 g.given.1 c.requires.1.1.1.0 in
    let went = the_went t bytes some c.requires.1.0 stack first behind g.given.0 g.given.1 c.requires.1.1.1.0 in
    let own_all = c.in_ok-all.ensures.many g.given.0 the went (the_left t bytes some c.requires.1.0 stack first behind g.given.0 g.given.1 c.requires.1.1.1.0) (the_lazy t bytes some c.requires.1.0 stack first behind g.given.0 g.given.1 c.requires.1.1.1.0) in
    let own = map open_of c.first_of-own.result.now in
    let own_is = own_of c.open_in.new.stack.items c.first_of-own.result.now c.as_slice-2.result.now c.in_ok-all.all c.first_of-own.ensures c.as_slice-2.ensures.value in
    let none_begin : has_none first.row.begun.items ≡ true → own ≡ take first.row.many stack =
    λ none.
    let begun : g.given.0.begun ≡ [] = sym the.begun ∙ ap (begun_of first.row.list first.span.number) (none_is first.row.begun.items none) in
    own_is ∙ own_all ∙ ap (λ (l : List Prefix). containers_of g.given.0.went_on ++ containers_of l) begun ∙ append-nil (containers_of g.given.0.went_on) ∙ went in
    let few : length own ≤ c.in_ok-all.all = omega (arith, ap (λ (l : List Container). length l) own_is, length-take c.in_ok-all.all (map open_of c.open_in.new.stack.items)) in
    subst (λ (n : ℕ). AreEarlier first.span.number c.passed_in-seen.result n own) (length-map c.first_of-own.result.now open_of)
    (passed_own first.span.number c.args.passed.from c.args.passed.to first.row.many c.in_ok-all.all c.passed_in-seen.result stack own (has_none first.row.begun.items) c.requires.1.1.1.1.1.1.1.1.1.1 none_begin few c.passed_in-seen.ensures)

pub go_to_part-requires : goal.go_to_part-requires
go_to_part-requires g c =
    let t = c.args.tab in
    let bytes = c.args.bytes.now in
    let some : 0 < c.args.tab = omega (arith, c.get-tab_size.ensures.least, c.get-tab_size.ensures.columns) in
    let stack = map open_of c.args.stack.now.items in
    let first = c.args.first.now in
    let behind = c.args.behind.now in
    let frames = c.args.frames.now.items in
    let went = the_went t bytes some c.requires.1.0 stack first behind g.given.0 g.given.1 c.requires.1.1.1.0 in
    let own_all = c.in_ok-all.ensures.many g.given.0 (the_row t bytes some c.requires.1.0 stack first behind g.given.0 g.given.1 c.requires.1.1.1.0) went (the_left t bytes some c.requires.1.0 stack first behind g.given.0 g.given.1 c.requires.1.1.1.0) (the_lazy t bytes some c.requires.1.0 stack first behind g.given.0 g.given.1 c.requires.1.1.1.0) in
    let own = map open_of c.first_of-own.result.now in
    let own_is = own_of c.open_in.new.stack.items c.first_of-own.result.now c.as_slice-2.result.now c.in_ok-all.all c.first_of-own.ensures c.as_slice-2.ensures.value in
    let before = subst (λ (l : List Open). IsStood c.stood_in-went.result (map open_of l)) c.as_slice.ensures.value c.stood_in-went.ensures.stood in
    let has = spans_fewer frames c.args.stood c.stood_in-went.result stack c.requires.1.1.1.1.1.1.1.1.1.0 c.requires.1.1.1.1.1.1.1.1.0 before c.stood_in-went.ensures.fewer in
    let own_stood = stood_own c.stood_in-went.result stack own (containers_of g.given.0.went_on) (containers_of g.given.0.begun) first.row.many before c.stood_in-went.ensures.few went (own_is ∙ own_all) in
    let own_has = spans_own c.stood_in-went.result stack own (containers_of g.given.0.went_on) (containers_of g.given.0.begun) first.row.many before c.stood_in-went.ensures.few went (own_is ∙ own_all) frames has in
    let kept_has = spans_fewer frames c.stood_in-went.result c.stood_in-kept.result own own_has own_stood c.stood_in-kept.ensures.stood c.stood_in-kept.ensures.fewer in
    let shown_is = going_of c.first_of-own.result.now c.first_of-shown.result.now c.standing-stands.result c.standing-stands.result c.first_of-shown.ensures refl in
    record {
      stood = stood_shown c.stood_in-kept.result own (map open_of c.first_of-shown.result.now) c.standing-stands.result c.stood_in-kept.ensures.stood c.stood_in-kept.ensures.few shown_is;
      spans = spans_shown c.stood_in-kept.result own (map open_of c.first_of-shown.result.now) c.standing-stands.result c.stood_in-kept.ensures.stood c.stood_in-kept.ensures.few shown_is frames kept_has;
    }

pub slice_bounds-fill_part-end : goal.slice_bounds-fill_part-end
slice_bounds-fill_part-end g c =
    let some : 0 < c.args.tab = omega (arith, c.get-tab_size.ensures.least, c.get-tab_size.ensures.columns) in
    let few = lines_few c.args.tab c.args.bytes.now some c.requires.1.0 (map open_of c.args.stack.now.items) c.args.first.now c.args.behind.now g.given.0 g.given.1 c.requires.1.1.1.0 c.args.ahead c.requires.1.1.1.1.0 in
    omega (arith, few, c.lines_of-lines.ensures, ap (λ (l : List RowAt). length l) c.requires.1.1.0, length-take (c.lines_of-lines.result + 1) c.args.rows.now)

pub slice_bounds-fill_part-end-2 : goal.slice_bounds-fill_part-end-2
slice_bounds-fill_part-end-2 g c =
    let some : 0 < c.args.tab = omega (arith, c.get-tab_size.ensures.least, c.get-tab_size.ensures.columns) in
    let few = lines_few c.args.tab c.args.bytes.now some c.requires.1.0 (map open_of c.args.stack.now.items) c.args.first.now c.args.behind.now g.given.0 g.given.1 c.requires.1.1.1.0 c.args.ahead c.requires.1.1.1.1.0 in
    omega (arith, few, c.lines_of-lines.ensures, length-take c.lines_of-lines.result c.args.behind.now)

pub prove-unreachable-requires-2 : goal.prove-unreachable-requires-2
prove-unreachable-requires-2 g c =
    let some : 0 < c.args.tab = omega (arith, c.get-tab_size.ensures.least, c.get-tab_size.ensures.columns) in
    let few = lines_few c.args.tab c.args.bytes.now some c.requires.1.0 (map open_of c.args.stack.now.items) c.args.first.now c.args.behind.now g.given.0 g.given.1 c.requires.1.1.1.0 c.args.ahead c.requires.1.1.1.1.0 in
    omega (arith, few, c.lines_of-lines.ensures, ap (λ (l : List RowAt). length l) c.requires.1.1.0, c.if-prove-2.true)

pub fill_part-requires : goal.fill_part-requires
fill_part-requires g c = λ lifetimes outlives.
    let t = c.args.tab in
    let bytes = c.args.bytes.now in
    let some : 0 < c.args.tab = omega (arith, c.get-tab_size.ensures.least, c.get-tab_size.ensures.columns) in
    let limit = c.requires.1.0 in
    let stack = map open_of c.args.stack.now.items in
    let r = g.given.0 in
    let rs = g.given.1 in
    let left = c.requires.1.1.1.0 in
    let ahead = c.args.ahead in
    let ae = c.requires.1.1.1.1.0 in
    let first = c.args.first.now in
    let behind = c.args.behind.now in
    let the = the_row t bytes some limit stack first behind r rs left in
    let went = the_went t bytes some limit stack first behind r rs left in
    let own_all = c.in_ok-all.ensures.many r the went (the_left t bytes some limit stack first behind r rs left) (the_lazy t bytes some limit stack first behind r rs left) in
    let own_is = own_of c.open_in.new.stack.items c.first_of-own.result.now c.as_slice-2.result.now c.in_ok-all.all c.first_of-own.ensures c.as_slice-2.ensures.value in
    let going_is = going_of c.first_of-own.result.now c.first_of-going.result.now c.least.result (min c.standing-stands.result first.row.many) c.first_of-going.ensures c.least.ensures in
    let open_is = c.in_ok-all.ensures.stack r the went in
    let stack_is = ap (map open_of) c.as_slice-3.ensures.value ∙ open_is in
    let lines = c.lines_of-lines.result in
    let on : lines + 1 ≡ suc lines = omega arith in
    let slot : List Container = map open_of c.as_slice-3.result.now in (
      outlives,
      (
        limit,
        (
          (λ k. take (on k) (c.requires.1.1.0 k)),
          (
            subst (λ (n : ℕ). IsSectionOf t bytes slot first (take n behind) (part_of r rs)) (sym c.lines_of-lines.ensures) (part-section t bytes some limit stack first behind r rs left ahead ae slot stack_is),
            (
              (λ b. omega (arith, stands-all t bytes some limit stack first behind r rs left ahead ae slot stack_is c.requires.1.1.1.1.1.1.0.0 c.requires.1.1.1.1.1.0 b, length-map c.as_slice-3.result.now open_of)),
              (
                whole-part r rs,
                (
                  part-texts t bytes some limit stack first behind r rs left ahead ae c.requires.1.1.1.1.1.1.1.0,
                  part-begun t bytes some limit stack first behind r rs left ahead ae (map open_of c.open_in.new.stack.items) open_is (map open_of c.first_of-own.result.now) c.in_ok-all.all c.standing-stands.result own_is own_all c.standing-stands.ensures.value
                      (few_of c.first_of-own.result.now c.standing-stands.result c.standing-stands.ensures.few) (map open_of c.first_of-going.result.now) going_is c.in_ok-begin.begin c.in_ok-begin.ensures.columns c.in_ok-begin.ensures.place,
                ),
              ),
            ),
          ),
        ),
      ),
    )

pub returns : goal.returns
returns g c =
    let t = c.args.tab in
    let bytes = c.args.bytes.now in
    let on = c.args.on.now in
    let some : 0 < c.args.tab = omega (arith, c.get-tab_size.ensures.least, c.get-tab_size.ensures.columns) in
    let limit = c.requires.1.0 in
    let stack = map open_of c.args.stack.now.items in
    let first = c.args.first.now in
    let behind = c.args.behind.now in
    let ahead = c.args.ahead in
    let r = g.given.0 in
    let rs = g.given.1 in
    let left = c.requires.1.1.1.0 in
    let ae = c.requires.1.1.1.1.0 in
    let the = the_row t bytes some limit stack first behind r rs left in
    let went = the_went t bytes some limit stack first behind r rs left in
    let own_all = c.in_ok-all.ensures.many r the went (the_left t bytes some limit stack first behind r rs left) (the_lazy t bytes some limit stack first behind r rs left) in
    let all_open = map open_of c.open_in.new.stack.items in
    let all_own = map open_of c.first_of-own.result.now in
    let all_own_is = own_of c.open_in.new.stack.items c.first_of-own.result.now c.as_slice-2.result.now c.in_ok-all.all c.first_of-own.ensures c.as_slice-2.ensures.value in
    let all_shown_is = going_of c.first_of-own.result.now c.first_of-shown.result.now c.standing-stands.result c.standing-stands.result c.first_of-shown.ensures refl in
    let all_size = c.in_ok-next.ensures.containers ∙ sym (length-map c.first_of-shown.result.now open_of) in
    let all_few : c.in_ok-all.all ≤ length all_open =
    omega (arith, c.in_ok-all.ensures.few (omega (arith, the_many t bytes some limit stack first behind r rs left, length-map c.args.stack.now.items open_of)), length-map c.open_in.new.stack.items open_of) in
    let stands = c.standing-stands.result in
    let few = few_of c.first_of-own.result.now stands c.standing-stands.ensures.few in
    let going = map open_of c.first_of-going.result.now in
    let going_is = going_of c.first_of-own.result.now c.first_of-going.result.now c.least.result (min stands first.row.many) c.first_of-going.ensures c.least.ensures in
    let open_is = c.in_ok-all.ensures.stack r the went in
    let next = map frame_of c.go_to_part.new.frames.items in
    let n = sym c.lines_of-lines.ensures in
    let part = part_of r rs in
    record {
      turns = λ budget before.
          let t = c.args.tab in
          let bytes = c.args.bytes.now in
          let some : 0 < c.args.tab = omega (arith, c.get-tab_size.ensures.least, c.get-tab_size.ensures.columns) in
          let limit = c.requires.1.0 in
          let stack = map open_of c.args.stack.now.items in
          let first = c.args.first.now in
          let behind = c.args.behind.now in
          let r = g.given.0 in
          let rs = g.given.1 in
          let left = c.requires.1.1.1.0 in
          let ae = c.requires.1.1.1.1.0 in
          let paid = c.requires.1.1.1.1.1.1.0 in
          let the = the_row t bytes some limit stack first behind r rs left in
          let small : r.columns ≤ first.span.size = omega (arith, left.are.0.placed.columns, left.are.0.is.columns) in
          let few : first.row.many ≤ length c.args.stack.now.items = omega (arith, left.are.0.many, length-map c.args.stack.now.items open_of) in
          let own : length c.first_of-own.result.now ≡ c.in_ok-all.all =
          ap (λ (l : List Open). length l) (c.first_of-own.ensures ∙ ap (take c.in_ok-all.all) c.as_slice-2.ensures.value) ∙ length-take-le c.in_ok-all.all c.open_in.new.stack.items (c.in_ok-all.ensures.few few) in
          let shown : length c.first_of-shown.result.now ≡ c.standing-stands.result =
          ap (λ (l : List Open). length l) c.first_of-shown.ensures ∙ length-take-le c.standing-stands.result c.first_of-own.result.now c.standing-stands.ensures.few in
          let turned = part_turned r rs paid first.span.number first.row the first.span.size small c.args.turns.now budget (length c.args.frames.now.items) c.args.stood.containers c.args.passed.from c.args.passed.to (length c.args.stack.now.items) before c.stood_in-went.new.turns c.stood_in-went.result.containers c.open_in.new.turns c.stood_in-went.ensures.turns c.open_in.ensures.turns
          few c.stood_in-went.ensures.least c.in_ok-all.all c.in_ok-all.ensures.fewer (c.in_ok-all.ensures.least few) c.args.ahead ae c.passed_in-seen.result c.passed_in-seen.ensures c.standing-stands.new.turns c.standing-stands.result
          (omega (arith, c.standing-stands.ensures.turns, own)) c.standing-stands.ensures.asked c.standing-stands.ensures.below (omega (arith, c.standing-stands.ensures.few, own)) c.stood_in-kept.new.turns c.stood_in-kept.result.containers c.stood_in-kept.ensures.turns c.stood_in-kept.ensures.least c.go_to_part.new.turns (omega (arith, c.go_to_part.ensures.turns, shown)) in
          let line = line_size t bytes some limit stack first behind r rs left in
          let lines = c.lines_of-lines.result in
          let one : lines + 1 ≡ suc lines = omega arith in
          let filled : bytes_in t bytes (take (lines + 1) c.args.rows.now) ≡ suc first.span.size + columns_in (take lines behind) =
          (λ k. bytes_in t bytes (take (one k) (c.requires.1.1.0 k))) ∙ sym (left-bytes t bytes stack (suc lines) (first ∷ behind) (r ∷ rs) left) in
          let more = few_columns behind lines in
          omega (arith, turned, line, filled, more, c.begin_part.ensures.turns, c.fill_part.ensures.turns);
      paid = λ budget before.
          let t = c.args.tab in
          let bytes = c.args.bytes.now in
          let some : 0 < c.args.tab = omega (arith, c.get-tab_size.ensures.least, c.get-tab_size.ensures.columns) in
          let limit = c.requires.1.0 in
          let stack = map open_of c.args.stack.now.items in
          let first = c.args.first.now in
          let behind = c.args.behind.now in
          let r = g.given.0 in
          let rs = g.given.1 in
          let left = c.requires.1.1.1.0 in
          let ae = c.requires.1.1.1.1.0 in
          let paid = c.requires.1.1.1.1.1.1.0 in
          let the = the_row t bytes some limit stack first behind r rs left in
          let small : r.columns ≤ first.span.size = omega (arith, left.are.0.placed.columns, left.are.0.is.columns) in
          let few : first.row.many ≤ length c.args.stack.now.items = omega (arith, left.are.0.many, length-map c.args.stack.now.items open_of) in
          let own : length c.first_of-own.result.now ≡ c.in_ok-all.all =
          ap (λ (l : List Open). length l) (c.first_of-own.ensures ∙ ap (take c.in_ok-all.all) c.as_slice-2.ensures.value) ∙ length-take-le c.in_ok-all.all c.open_in.new.stack.items (c.in_ok-all.ensures.few few) in
          let shown : length c.first_of-shown.result.now ≡ c.standing-stands.result =
          ap (λ (l : List Open). length l) c.first_of-shown.ensures ∙ length-take-le c.standing-stands.result c.first_of-own.result.now c.standing-stands.ensures.few in
          let line = line_size t bytes some limit stack first behind r rs left in
          let lines = c.lines_of-lines.result in
          let one : lines + 1 ≡ suc lines = omega arith in
          let filled : bytes_in t bytes (take (lines + 1) c.args.rows.now) ≡ suc first.span.size + columns_in (take lines behind) =
          (λ k. bytes_in t bytes (take (one k) (c.requires.1.1.0 k))) ∙ sym (left-bytes t bytes stack (suc lines) (first ∷ behind) (r ∷ rs) left) in
          let more = few_columns behind lines in
          let cost = 142 * first.span.size + 135 + 131 * columns_in (take lines behind) in
          let enough = part_paid r rs paid first.span.number first.row the first.span.size small c.args.turns.now budget (length c.args.frames.now.items) c.args.stood.containers c.args.passed.from c.args.passed.to (length c.args.stack.now.items) before c.stood_in-went.new.turns c.stood_in-went.result.containers c.open_in.new.turns c.stood_in-went.ensures.turns c.open_in.ensures.turns
          few c.stood_in-went.ensures.least c.in_ok-all.all c.in_ok-all.ensures.fewer (c.in_ok-all.ensures.least few) c.args.ahead ae c.passed_in-seen.result c.passed_in-seen.ensures c.standing-stands.new.turns c.standing-stands.result
          (omega (arith, c.standing-stands.ensures.turns, own)) c.standing-stands.ensures.asked c.standing-stands.ensures.below (omega (arith, c.standing-stands.ensures.few, own)) c.stood_in-kept.new.turns c.stood_in-kept.result.containers c.stood_in-kept.ensures.turns c.stood_in-kept.ensures.least
          (λ b. omega (arith, c.standing-stands.ensures.least b, own)) (length c.open_in.new.stack.items) c.passed_by-next_passed.result.from c.passed_by-next_passed.result.to lines (length c.go_to_part.new.frames.items) c.go_to_part.new.turns c.fill_part.new.turns cost
          c.in_ok-all.ensures.whole c.passed_by-next_passed.ensures.from c.passed_by-next_passed.ensures.to c.lines_of-lines.ensures (omega (arith, c.in_ok-next.ensures.paid, shown)) (omega (arith, line, filled, c.begin_part.ensures.turns, c.fill_part.ensures.turns)) in
          let stands : c.in_ok-next.next.containers ≡ c.standing-stands.result = c.in_ok-next.ensures.containers ∙ shown in
          let wider : budget + (7 * first.span.size + 1 + cost) ≤ budget + 149 * first.span.size + 136 + 131 * columns_in (take lines behind) = omega arith in
          subst (λ (s : ℕ). IsEnough c.fill_part.new.turns (budget + 149 * first.span.size + 136 + 131 * columns_in (take lines behind)) (length c.go_to_part.new.frames.items) s c.passed_by-next_passed.result.from c.passed_by-next_passed.result.to (length c.open_in.new.stack.items) (drop lines rs)) (sym stands)
          (record { asked = enough.asked; are = enough.are; enough = omega (arith, enough.enough, wider) });
      passed = passed_next first.span.number c.standing-stands.result c.in_ok-all.all c.passed_by-next_passed.result.from c.passed_by-next_passed.result.to all_own all_open first.row.is_blank (has_none first.row.begun.items) all_own_is all_few
          c.passed_by-next_passed.ensures.from c.passed_by-next_passed.ensures.to
          (λ b. subst (λ (n : ℕ). AreEarlier first.span.number c.standing-stands.result n all_own) (sym (length-map c.first_of-own.result.now open_of)) (c.standing-stands.ensures.passed b));
      stood = stood_all c.in_ok-next.next all_open all_own (map open_of c.first_of-shown.result.now) c.in_ok-all.all c.standing-stands.result c.in_ok-next.ensures.stood all_size all_own_is all_shown_is;
      spans = spans_all c.in_ok-next.next all_open all_own (map open_of c.first_of-shown.result.now) c.in_ok-all.all c.standing-stands.result c.in_ok-next.ensures.stood all_size all_own_is all_shown_is c.go_to_part.new.frames.items
          (frames_in c.list_behind-list.result) c.in_ok-next.ensures.frames;
      few = let few = lines_few t bytes some limit stack first behind r rs left ahead ae in omega (arith, few, c.lines_of-lines.ensures);
      lazy = subst (λ (n : ℕ). FirstIsNotLazy (drop n rs)) n (next-not-lazy t bytes some limit stack first behind r rs left ahead ae c.requires.1.1.1.1.1.1.0);
      left = subst (λ (n : ℕ). AreLeft bytes t all_open (drop n behind) (drop n rs)) n (left_behind t bytes some limit stack first behind r rs left ahead ae all_open open_is);
      events = λ all w.
          let shown_is : map open_of c.first_of-shown.result.now ≡ take stands all_own = all_shown_is in
          let frames : next ≡ frames_at r rs = c.in_ok-next.ensures.frames ∙ (λ k. flat_map frames_of (shown_is k) ++ frames_in c.list_behind-list.result)
          ∙ frames_is t bytes some limit stack first behind r rs left ahead ae all_open all_own c.in_ok-all.all stands all_own_is own_all c.standing-stands.ensures.value few (frames_in c.list_behind-list.result) c.list_behind-list.ensures in
          let old = map frame_of c.args.frames.now.items in
          let begun = write-begin t bytes some limit stack first behind r rs left ahead ae all_open open_is all_own c.in_ok-all.all stands all_own_is own_all c.standing-stands.ensures.value few going going_is on
          c.args.skeleton.now.events.items c.go_to_part.new.events.items c.begin_part.new.events.items old next c.args.end all frames c.in_ok-next.ensures.events c.in_ok-begin.ensures.marks w in
          let more = sections on (drop (cond first.row.is_blank 0 ahead.further) rs) in
          let filled = c.in_ok-end.ensures.events (behind_marks bytes (last_of part (cut on part)) more) all begun in
          let is : behind_marks bytes (last_of part (cut on part)) more ≡ rest_sections bytes next c.in_ok-end.end (sections on (drop c.lines_of-lines.result rs)) =
          behind-part on bytes part more c.in_ok-end.end c.in_ok-end.ensures.end ∙ (λ k. rest_sections bytes (sym frames k) c.in_ok-end.end (sections on (drop (n k) rs))) in
          subst (λ (ms : List Mark). Written c.fill_part.new.skeleton.events.items None false ms all) is filled;
      letters = subst (λ (n : ℕ). c.fill_part.new.skeleton.letters.items ++ flat_map (letters_of_section on) (sections on (drop n rs)) ≡ c.args.skeleton.now.letters.items ++ flat_map (letters_of_section on) (sections on (r ∷ rs))) n
          (letters-step t bytes some limit stack first behind r rs left ahead ae on c.args.skeleton.now.letters.items c.fill_part.new.skeleton.letters.items c.in_ok-end.ensures.letters);
      labels = λ label. subst (λ (n : ℕ). (defines c.fill_part.new.skeleton.labels label || is_one_of (flat_map labels_of_section (sections on (drop n rs))) label) ≡ (defines c.args.skeleton.now.labels label || is_one_of (flat_map labels_of_section (sections on (r ∷ rs))) label)) n
          (labels-step t bytes some limit stack first behind r rs left ahead ae on label (defines c.args.skeleton.now.labels label) (defines c.fill_part.new.skeleton.labels label) (c.in_ok-end.ensures.labels label));
    }

pub returns-in_err-all-clause-turns : goal.returns-in_err-all-clause-turns
returns-in_err-all-clause-turns g c = λ budget before.
    let t = c.args.tab in
    let bytes = c.args.bytes.now in
    let some : 0 < c.args.tab = omega (arith, c.get-tab_size.ensures.least, c.get-tab_size.ensures.columns) in
    let limit = c.requires.1.0 in
    let stack = map open_of c.args.stack.now.items in
    let first = c.args.first.now in
    let behind = c.args.behind.now in
    let r = g.given.0 in
    let rs = g.given.1 in
    let left = c.requires.1.1.1.0 in
    let ae = c.requires.1.1.1.1.0 in
    let paid = c.requires.1.1.1.1.1.1.0 in
    let the = the_row t bytes some limit stack first behind r rs left in
    let small : r.columns ≤ first.span.size = omega (arith, left.are.0.placed.columns, left.are.0.is.columns) in
    let opened = part_open r rs paid first.span.number first.row the first.span.size small c.args.turns.now budget (length c.args.frames.now.items) c.args.stood.containers c.args.passed.from c.args.passed.to (length c.args.stack.now.items) before c.stood_in-went.new.turns c.stood_in-went.result.containers c.open_in.new.turns c.stood_in-went.ensures.turns c.open_in.ensures.turns in
    omega (arith, opened)

pub returns-in_err-next-clause-turns : goal.returns-in_err-next-clause-turns
returns-in_err-next-clause-turns g c = λ budget before.
    let t = c.args.tab in
    let bytes = c.args.bytes.now in
    let some : 0 < c.args.tab = omega (arith, c.get-tab_size.ensures.least, c.get-tab_size.ensures.columns) in
    let limit = c.requires.1.0 in
    let stack = map open_of c.args.stack.now.items in
    let first = c.args.first.now in
    let behind = c.args.behind.now in
    let r = g.given.0 in
    let rs = g.given.1 in
    let left = c.requires.1.1.1.0 in
    let ae = c.requires.1.1.1.1.0 in
    let paid = c.requires.1.1.1.1.1.1.0 in
    let the = the_row t bytes some limit stack first behind r rs left in
    let small : r.columns ≤ first.span.size = omega (arith, left.are.0.placed.columns, left.are.0.is.columns) in
    let few : first.row.many ≤ length c.args.stack.now.items = omega (arith, left.are.0.many, length-map c.args.stack.now.items open_of) in
    let own : length c.first_of-own.result.now ≡ c.in_ok-all.all =
    ap (λ (l : List Open). length l) (c.first_of-own.ensures ∙ ap (take c.in_ok-all.all) c.as_slice-2.ensures.value) ∙ length-take-le c.in_ok-all.all c.open_in.new.stack.items (c.in_ok-all.ensures.few few) in
    let shown : length c.first_of-shown.result.now ≡ c.standing-stands.result =
    ap (λ (l : List Open). length l) c.first_of-shown.ensures ∙ length-take-le c.standing-stands.result c.first_of-own.result.now c.standing-stands.ensures.few in
    let turned = part_turned r rs paid first.span.number first.row the first.span.size small c.args.turns.now budget (length c.args.frames.now.items) c.args.stood.containers c.args.passed.from c.args.passed.to (length c.args.stack.now.items) before c.stood_in-went.new.turns c.stood_in-went.result.containers c.open_in.new.turns c.stood_in-went.ensures.turns c.open_in.ensures.turns
    few c.stood_in-went.ensures.least c.in_ok-all.all c.in_ok-all.ensures.fewer (c.in_ok-all.ensures.least few) c.args.ahead ae c.passed_in-seen.result c.passed_in-seen.ensures c.standing-stands.new.turns c.standing-stands.result
    (omega (arith, c.standing-stands.ensures.turns, own)) c.standing-stands.ensures.asked c.standing-stands.ensures.below (omega (arith, c.standing-stands.ensures.few, own)) c.stood_in-kept.new.turns c.stood_in-kept.result.containers c.stood_in-kept.ensures.turns c.stood_in-kept.ensures.least c.go_to_part.new.turns (omega (arith, c.go_to_part.ensures.turns, shown)) in
    omega (arith, turned)

pub returns-in_err-begin-clause-turns : goal.returns-in_err-begin-clause-turns
returns-in_err-begin-clause-turns g c = λ budget before.
    let t = c.args.tab in
    let bytes = c.args.bytes.now in
    let some : 0 < c.args.tab = omega (arith, c.get-tab_size.ensures.least, c.get-tab_size.ensures.columns) in
    let limit = c.requires.1.0 in
    let stack = map open_of c.args.stack.now.items in
    let first = c.args.first.now in
    let behind = c.args.behind.now in
    let r = g.given.0 in
    let rs = g.given.1 in
    let left = c.requires.1.1.1.0 in
    let ae = c.requires.1.1.1.1.0 in
    let paid = c.requires.1.1.1.1.1.1.0 in
    let the = the_row t bytes some limit stack first behind r rs left in
    let small : r.columns ≤ first.span.size = omega (arith, left.are.0.placed.columns, left.are.0.is.columns) in
    let few : first.row.many ≤ length c.args.stack.now.items = omega (arith, left.are.0.many, length-map c.args.stack.now.items open_of) in
    let own : length c.first_of-own.result.now ≡ c.in_ok-all.all =
    ap (λ (l : List Open). length l) (c.first_of-own.ensures ∙ ap (take c.in_ok-all.all) c.as_slice-2.ensures.value) ∙ length-take-le c.in_ok-all.all c.open_in.new.stack.items (c.in_ok-all.ensures.few few) in
    let shown : length c.first_of-shown.result.now ≡ c.standing-stands.result =
    ap (λ (l : List Open). length l) c.first_of-shown.ensures ∙ length-take-le c.standing-stands.result c.first_of-own.result.now c.standing-stands.ensures.few in
    let turned = part_turned r rs paid first.span.number first.row the first.span.size small c.args.turns.now budget (length c.args.frames.now.items) c.args.stood.containers c.args.passed.from c.args.passed.to (length c.args.stack.now.items) before c.stood_in-went.new.turns c.stood_in-went.result.containers c.open_in.new.turns c.stood_in-went.ensures.turns c.open_in.ensures.turns
    few c.stood_in-went.ensures.least c.in_ok-all.all c.in_ok-all.ensures.fewer (c.in_ok-all.ensures.least few) c.args.ahead ae c.passed_in-seen.result c.passed_in-seen.ensures c.standing-stands.new.turns c.standing-stands.result
    (omega (arith, c.standing-stands.ensures.turns, own)) c.standing-stands.ensures.asked c.standing-stands.ensures.below (omega (arith, c.standing-stands.ensures.few, own)) c.stood_in-kept.new.turns c.stood_in-kept.result.containers c.stood_in-kept.ensures.turns c.stood_in-kept.ensures.least c.go_to_part.new.turns (omega (arith, c.go_to_part.ensures.turns, shown)) in
    let line = line_size t bytes some limit stack first behind r rs left in
    omega (arith, turned, line, c.begin_part.ensures.turns)

pub returns-in_err-end-clause-turns : goal.returns-in_err-end-clause-turns
returns-in_err-end-clause-turns g c = λ budget before.
    let t = c.args.tab in
    let bytes = c.args.bytes.now in
    let some : 0 < c.args.tab = omega (arith, c.get-tab_size.ensures.least, c.get-tab_size.ensures.columns) in
    let limit = c.requires.1.0 in
    let stack = map open_of c.args.stack.now.items in
    let first = c.args.first.now in
    let behind = c.args.behind.now in
    let r = g.given.0 in
    let rs = g.given.1 in
    let left = c.requires.1.1.1.0 in
    let ae = c.requires.1.1.1.1.0 in
    let paid = c.requires.1.1.1.1.1.1.0 in
    let the = the_row t bytes some limit stack first behind r rs left in
    let small : r.columns ≤ first.span.size = omega (arith, left.are.0.placed.columns, left.are.0.is.columns) in
    let few : first.row.many ≤ length c.args.stack.now.items = omega (arith, left.are.0.many, length-map c.args.stack.now.items open_of) in
    let own : length c.first_of-own.result.now ≡ c.in_ok-all.all =
    ap (λ (l : List Open). length l) (c.first_of-own.ensures ∙ ap (take c.in_ok-all.all) c.as_slice-2.ensures.value) ∙ length-take-le c.in_ok-all.all c.open_in.new.stack.items (c.in_ok-all.ensures.few few) in
    let shown : length c.first_of-shown.result.now ≡ c.standing-stands.result =
    ap (λ (l : List Open). length l) c.first_of-shown.ensures ∙ length-take-le c.standing-stands.result c.first_of-own.result.now c.standing-stands.ensures.few in
    let turned = part_turned r rs paid first.span.number first.row the first.span.size small c.args.turns.now budget (length c.args.frames.now.items) c.args.stood.containers c.args.passed.from c.args.passed.to (length c.args.stack.now.items) before c.stood_in-went.new.turns c.stood_in-went.result.containers c.open_in.new.turns c.stood_in-went.ensures.turns c.open_in.ensures.turns
    few c.stood_in-went.ensures.least c.in_ok-all.all c.in_ok-all.ensures.fewer (c.in_ok-all.ensures.least few) c.args.ahead ae c.passed_in-seen.result c.passed_in-seen.ensures c.standing-stands.new.turns c.standing-stands.result
    (omega (arith, c.standing-stands.ensures.turns, own)) c.standing-stands.ensures.asked c.standing-stands.ensures.below (omega (arith, c.standing-stands.ensures.few, own)) c.stood_in-kept.new.turns c.stood_in-kept.result.containers c.stood_in-kept.ensures.turns c.stood_in-kept.ensures.least c.go_to_part.new.turns (omega (arith, c.go_to_part.ensures.turns, shown)) in
    let line = line_size t bytes some limit stack first behind r rs left in
    let lines = c.lines_of-lines.result in
    let one : lines + 1 ≡ suc lines = omega arith in
    let filled : bytes_in t bytes (take (lines + 1) c.args.rows.now) ≡ suc first.span.size + columns_in (take lines behind) =
    (λ k. bytes_in t bytes (take (one k) (c.requires.1.1.0 k))) ∙ sym (left-bytes t bytes stack (suc lines) (first ∷ behind) (r ∷ rs) left) in
    let more = few_columns behind lines in
    omega (arith, turned, line, filled, more, c.begin_part.ensures.turns, c.fill_part.ensures.turns)
