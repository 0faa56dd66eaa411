use Rattle.std.proofs.Common.{◌≡◌, ◌+◌, ℕ, List, [], ◌++◌, length, map, length-append, length-take, arith, refl, sym, ap, subst, ◌∙◌}
use Rattle.std.proofs.lemmas.List.{append-nil, take-map, length-map, length-take-le}
use Rattle.mdblock_lines.specs.declared.containers.Prefix.{Prefix as CodePrefix}
use Rattle.mdblock_lines.specs.Containers.{Container, Prefix}
use Rattle.mdblock_containers.specs.declared.going.Open.{Open}
use Rattle.mdblock_containers.specs.Over.{AreOver}
use Rattle.mdblock_containers.specs.Prefixes.{containers_of}
use Rattle.mdblock_containers.specs.Rows.{closed, has_none}
use Rattle.mdblock_containers.specs.Views.{before_of, begun_of, leaf_of, open_of}
use Rattle.mdblock_containers.proofs.CostLemmas.{begun_size, over_begun, over_lazy, over_left, over_none}
use Rattle.mdblock_containers.proofs.FrameFacts.{none_is}
use Rattle.mdblock_containers.proofs.OverLemmas.{front_over, over_later}
use Rattle.mdblock_containers.proofs.RowLemmas.{known_blank, known_lazy, known_next}
use Rattle.mdblock_containers.proofs.rows.Before.go_behind.Goals as goal

pub returns-then-row-clause-known : goal.returns-then-row-clause-known
returns-then-row-clause-known g c = λ on r is front. known_blank on (before_of c.args.self.now) r closed c.args.row.now.many (sym is.is_left_blank ∙ c.if-row.true) is.many refl

pub returns-then-row-2-clause-known : goal.returns-then-row-2-clause-known
returns-then-row-2-clause-known g c = λ on r is front.
    known_lazy on (before_of c.args.self.now) r (leaf_of c.args.row.now.leaf) (sym is.is_left_blank ∙ c.if-row.false) (sym is.is_lazy ∙ c.if-row-2.true) is.leaf

pub returns-clause-known : goal.returns-clause-known
returns-clause-known g c = λ on r is front.
    let stack : map open_of c.open_all.new.stack.items ≡ containers_of r.went_on ++ containers_of r.begun =
    c.in_ok-open_all.ensures.value
    ∙ (λ k. map open_of (c.truncate.ensures.items k) ++ containers_of (begun_of c.args.row.now.list c.args.number (c.as_slice-2.ensures.value k)))
    ∙ (λ k. (sym (take-map open_of c.args.row.now.many c.args.self.now.stack.items) ∙ sym front) k ++ containers_of (is.begun k)) in
    let size : c.len-self.result ≡ length (map open_of c.open_all.new.stack.items) = omega (arith, c.len-self.ensures, c.open_all.new.stack.ok, length-map c.open_all.new.stack.items open_of) in
    known_next on (before_of c.args.self.now) r (map open_of c.open_all.new.stack.items) c.len-self.result (leaf_of c.args.row.now.leaf) (sym is.is_left_blank ∙ c.if-row.false) (sym is.is_lazy ∙ c.if-row-2.false) stack
    size is.leaf

pub returns-then-has_none-clause-known : goal.returns-then-has_none-clause-known
returns-then-has_none-clause-known g c = λ on r is front.
    let none : c.args.row.now.begun.items ≡ [] = none_is c.args.row.now.begun.items (ap has_none (sym c.as_slice.ensures.value) ∙ sym c.has_none.ensures ∙ c.if-has_none.true) in
    let begun : r.begun ≡ [] = sym is.begun ∙ ap (begun_of c.args.row.now.list c.args.number) none in
    let stack : map open_of c.truncate.new.self.items ≡ containers_of r.went_on ++ containers_of r.begun =
    ap (map open_of) c.truncate.ensures.items ∙ sym (take-map open_of c.args.row.now.many c.args.self.now.stack.items) ∙ sym front ∙ sym (append-nil (containers_of r.went_on)) ∙ ap (λ (l : List Prefix). containers_of r.went_on ++ containers_of l) (sym begun) in
    let size : c.len-kept.result ≡ length (map open_of c.truncate.new.self.items) = omega (arith, c.len-kept.ensures, c.truncate.new.self.ok, length-map c.truncate.new.self.items open_of) in
    known_next on (before_of c.args.self.now) r (map open_of c.truncate.new.self.items) c.len-kept.result (leaf_of c.args.row.now.leaf) (sym is.is_left_blank ∙ c.if-row.false) (sym is.is_lazy ∙ c.if-row-2.false) stack
    size is.leaf

pub returns-then-row-clause-over : goal.returns-then-row-clause-over
returns-then-row-clause-over g c = λ before here few. here

pub returns-then-row-2-clause-over : goal.returns-then-row-2-clause-over
returns-then-row-2-clause-over g c = λ before here few. over_later c.args.number (c.args.number + 1) c.args.self.now.over c.args.self.now.depth c.args.self.now.stack.items (omega arith) before

pub returns-then-has_none-clause-over : goal.returns-then-has_none-clause-over
returns-then-has_none-clause-over g c = λ before here few.
    let size : c.len-kept.result ≡ c.args.row.now.many = omega (arith, c.len-kept.ensures, c.truncate.new.self.ok, ap (λ (l : List Open). length l) c.truncate.ensures.items, length-take-le c.args.row.now.many c.args.self.now.stack.items few) in
    subst (λ (n : ℕ). AreOver (c.args.number + 1) c.args.row.now.over n c.truncate.new.self.items) (sym size)
    (front_over (c.args.number + 1) c.args.row.now.over c.args.row.now.many c.args.row.now.many c.args.self.now.stack.items c.truncate.new.self.items c.truncate.ensures.items (omega arith) here)

pub returns-clause-over : goal.returns-clause-over
returns-clause-over g c = λ before here few k d a b. absurd (omega (arith, a, b))

pub returns-then-row-clause-least : goal.returns-then-row-clause-least
returns-then-row-clause-least g c = over_left c.args.row.now.is_left_blank c.args.row.now.over _ c.if-row.true

pub returns-then-row-2-clause-least : goal.returns-then-row-2-clause-least
returns-then-row-2-clause-least g c = over_lazy c.args.row.now.is_left_blank c.args.row.now.is_lazy c.args.self.now.over c.args.row.now.over _ c.if-row.false c.if-row-2.true

pub returns-then-has_none-clause-least : goal.returns-then-has_none-clause-least
returns-then-has_none-clause-least g c =
    over_none c.args.row.now.is_left_blank c.args.row.now.is_lazy (has_none c.args.row.now.begun.items) c.args.self.now.over c.args.row.now.over _ c.if-row.false c.if-row-2.false
    (ap has_none (sym c.as_slice.ensures.value) ∙ sym c.has_none.ensures ∙ c.if-has_none.true)

pub returns-clause-least : goal.returns-clause-least
returns-clause-least g c =
    let row = c.args.row.now in
    let all = ap (λ (l : List Container). length l) c.in_ok-open_all.ensures.value in
    let parts = length-append (map open_of c.truncate.new.self.items) (containers_of (begun_of row.list c.args.number c.as_slice-2.result.now)) in
    let front = length-map c.truncate.new.self.items open_of in
    let cut = ap (λ (l : List Open). length l) c.truncate.ensures.items in
    let few = length-take row.many c.args.self.now.stack.items in
    let begun = begun_size row.list c.args.number c.as_slice-2.result.now in
    let same = ap (λ (l : List CodePrefix). length l) c.as_slice-2.ensures.value in
    let here = length-map c.open_all.new.stack.items open_of in
    over_begun row.is_left_blank row.is_lazy (has_none row.begun.items) c.args.self.now.over row.over (row.many + length row.begun.items) c.len-self.result c.if-row.false c.if-row-2.false
    (ap has_none (sym c.as_slice.ensures.value) ∙ sym c.has_none.ensures ∙ c.if-has_none.false) (omega (arith, c.len-self.ensures, c.open_all.new.stack.ok, all, parts, front, cut, few, begun, same, here))
