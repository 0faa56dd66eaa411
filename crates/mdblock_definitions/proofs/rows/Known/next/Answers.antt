use Rattle.std.proofs.Common.{◌*◌, ◌≡◌, ◌+◌, ◌≤◌, ◌∙◌, ℕ, List, [], ap, arith, cond, drop, length, length-drop, subst, sym}
use Rattle.std.proofs.lemmas.List.{length-map}
use Rattle.std.specs.Prelude.{◌&&◌}
use Rattle.mdblock_leaf_blocks.specs.LeafBlocks.{text_of}
use Rattle.mdblock_containers.specs.Over.{AreOver}
use Rattle.mdblock_containers.specs.Rows.{has_none, is_paragraph}
use Rattle.mdblock_containers.specs.declared.rows.Row.{Row}
use Rattle.mdblock_containers.specs.Views.{IsRow, before_of, leaf_of, open_of}
use Rattle.mdblock_containers.proofs.CostLemmas.{next_begun, next_paid}
use Rattle.mdblock_containers.proofs.DocumentRows.{went_few, went_front}
use Rattle.mdblock_definitions.specs.Known.{IsKnown, held_behind, last_behind}
use Rattle.mdblock_definitions.specs.Rows.{Known, known_after, row_of}
use Rattle.mdblock_definitions.proofs.HeldTexts.{filled-after, leaf-same, same-known, seen_as}
use Rattle.mdblock_definitions.proofs.KnownLemmas.{last-few, next-kept, next-last, next-row, next-text}
use Rattle.mdblock_definitions.proofs.rows.Known.next.Goals as goal

pub returns-clause-row : goal.returns-clause-row
returns-clause-row g c = λ known is line text.
    let on = c.args.on.now in
    let k = seen_as c.args.self.now known in
    let row = c.look_behind.new.row in
    let looks = c.look_behind.ensures.leaf ∙ leaf-same on c.args.self.now known is c.in_ok-row.row.stays c.in_ok-row.row.is_lazy (leaf_of c.in_ok-row.row.leaf) (drop c.in_ok-row.row.columns c.args.t.now) in
    subst (λ (s : Known). IsRow c.args.number row (row_of on s c.args.number line)) (same-known on c.args.self.now known is)
    (subst (λ (r : Row). IsRow c.args.number r (row_of on k c.args.number line)) (sym c.look_behind.ensures.row)
    (next-row on k c.args.number line c.args.t.now c.in_ok-row.row row.leaf text (c.in_ok-row.ensures.row line text) looks))

pub returns-clause-known : goal.returns-clause-known
returns-clause-known g c = λ known is line text.
    let on = c.args.on.now in
    let k = seen_as c.args.self.now known in
    let old = c.in_ok-row.row in
    let row = c.look_behind.new.row in
    let same = c.look_behind.ensures.row in
    let own = c.in_ok-row.ensures.row line text in
    let looks = c.look_behind.ensures.leaf ∙ leaf-same on c.args.self.now known is old.stays old.is_lazy (leaf_of old.leaf) (drop old.columns c.args.t.now) in
    let here = subst (λ (r : Row). IsRow c.args.number r (row_of on k c.args.number line)) (sym same) (next-row on k c.args.number line c.args.t.now old row.leaf text own looks) in
    let before = c.in_ok-go_behind.ensures.known on (row_of on k c.args.number line) here (went_front on k.before c.args.number line row.many (ap (λ (r : Row). r.many) same ∙ own.many)) in
    let held = next-text on k c.args.number line c.args.t.now old row.leaf text own looks c.hold_row.new.text.items
    (c.in_ok-hold_row.ensures.text ∙ (λ i. cond (is_paragraph (leaf_of row.leaf)) (held_behind ((same i).stays && is_paragraph k.before.leaf) (is.text i) (drop (same i).columns c.args.t.now)) [])) in
    let last = next-last on k c.args.number line c.args.t.now old row.leaf text own looks c.hold_last.new.last.items
    (c.in_ok-hold_last.ensures ∙ (λ i. last_behind on (leaf_of row.leaf) (drop (same i).columns c.args.t.now))) in
    subst (λ (s : Known). IsKnown on (record { before = c.go_behind.new.self; text = c.hold_row.new.text; last = c.hold_last.new.last }) (known_after on s (row_of on s c.args.number line))) (same-known on c.args.self.now known is)
    (record { before = before; text = held; last = last; filled = filled-after on k c.args.number line })

pub returns-clause-within : goal.returns-clause-within
returns-clause-within g c = omega (arith, c.in_ok-row.ensures.within, ap (λ (r : Row). r.columns) c.look_behind.ensures.row)

pub hold_row-requires : goal.hold_row-requires
hold_row-requires g c = omega (arith, c.in_ok-row.ensures.within, ap (λ (r : Row). r.columns) c.look_behind.ensures.row)

pub hold_last-requires : goal.hold_last-requires
hold_last-requires g c = omega (arith, c.in_ok-row.ensures.within, ap (λ (r : Row). r.columns) c.look_behind.ensures.row)

pub returns-clause-depth : goal.returns-clause-depth
returns-clause-depth g c = λ line text.
    let is = c.in_ok-row.ensures.row line text in
    let same = ap (λ (r : Row). r.many) c.look_behind.ensures.row in
    let few : c.look_behind.new.row.many ≤ length c.args.self.now.before.stack.items = omega (arith, same, went_few c.args.on.now (before_of c.args.self.now.before) c.args.number line c.in_ok-row.row.many is.many, length-map c.args.self.now.before.stack.items open_of) in
    c.in_ok-go_behind.ensures.depth c.requires.depth few

pub returns-clause-over : goal.returns-clause-over
returns-clause-over g c = λ line text.
    let is = c.in_ok-row.ensures.row line text in
    let same = c.look_behind.ensures.row in
    let few : c.look_behind.new.row.many ≤ length c.args.self.now.before.stack.items = omega (arith, ap (λ (r : Row). r.many) same, went_few c.args.on.now (before_of c.args.self.now.before) c.args.number line c.in_ok-row.row.many is.many, length-map c.args.self.now.before.stack.items open_of) in
    c.in_ok-go_behind.ensures.over c.requires.over (subst (λ (r : Row). AreOver (c.args.number + 1) r.over r.many c.args.self.now.before.stack.items) (sym same) (c.in_ok-row.ensures.over c.requires.began)) few

pub returns-clause-kept : goal.returns-clause-kept
returns-clause-kept g c = λ line text budget kept.
    let on = c.args.on.now in
    let before = before_of c.args.self.now.before in
    let t = c.args.t.now in
    let row = c.in_ok-row.row in
    let own = c.look_behind.new.row.leaf in
    let same = c.look_behind.ensures.row in
    let is = c.in_ok-row.ensures.row line text in
    let here : length t ≡ length (text_of line) = ap (λ (l : List ℕ). length l) (sym text) in
    let now = c.go_behind.new.self.over in
    let begun = ap (λ (r : Row). length r.begun.items) same in
    let least = subst (λ (r : Row). now ≤ cond r.is_left_blank r.over (cond r.is_lazy c.args.self.now.before.over (cond (has_none r.begun.items) r.over (r.many + length r.begun.items)))) same c.in_ok-go_behind.ensures.least in
    let paid = next_paid on before c.args.number line c.requires.sizes row is c.args.turns.now c.args.turns.now c.row.new.turns (c.row.new.turns + length row.begun.items) c.args.self.now.before.over now
    (omega arith) (omega (arith, c.in_ok-row.ensures.paid, here)) (λ less. omega (arith, c.in_ok-row.ensures.full (omega (arith, less, here)), here)) (omega arith) least in
    let held = c.in_ok-hold_row.ensures.text ∙ (λ i. cond (is_paragraph (leaf_of own)) (held_behind ((same i).stays && is_paragraph before.leaf) c.args.self.now.text.items (drop (same i).columns t)) []) in
    let held_last = c.in_ok-hold_last.ensures ∙ (λ i. last_behind on (leaf_of own) (drop (same i).columns t)) in
    let last : length c.hold_last.new.last.items ≤ length t = omega (arith, ap (λ (l : List ℕ). length l) held_last, last-few on (leaf_of own) (drop row.columns t), length-drop row.columns t) in
    next-kept on before.leaf c.args.self.now.text.items c.args.self.now.last.items row.stays row.is_lazy (drop row.columns t) (leaf_of own) (leaf_of row.leaf) c.look_behind.ensures.leaf c.hold_row.new.text.items held
    (c.args.turns.now + c.args.self.now.before.over + 3 * length c.args.self.now.last.items) (c.go_behind.new.turns + now + 3 * length c.hold_last.new.last.items) budget (length t) (omega (arith, length-drop row.columns t))
    (λ e. omega (arith, paid, here, begun, last, c.look_behind.ensures.text e, c.hold_row.ensures.turns, c.go_behind.ensures.turns)) (omega (arith, paid, here, begun, last, c.look_behind.ensures.turns, c.hold_row.ensures.turns, c.go_behind.ensures.turns)) kept

pub returns-clause-turns : goal.returns-clause-turns
returns-clause-turns g c = λ line text.
    let here : length c.args.t.now ≡ length (text_of line) = ap (λ (l : List ℕ). length l) (sym text) in
    let begun = next_begun c.args.on.now (before_of c.args.self.now.before) c.args.number line c.requires.sizes c.in_ok-row.row (c.in_ok-row.ensures.row line text) in
    let same = ap (λ (r : Row). length r.begun.items) c.look_behind.ensures.row in
    omega (arith, c.row.ensures.turns, c.look_behind.ensures.turns, c.hold_row.ensures.turns, c.go_behind.ensures.turns, begun, same, here)

pub returns-in_err-go_behind-clause-turns : goal.returns-in_err-go_behind-clause-turns
returns-in_err-go_behind-clause-turns g c = λ line text.
    let here : length c.args.t.now ≡ length (text_of line) = ap (λ (l : List ℕ). length l) (sym text) in
    let begun = next_begun c.args.on.now (before_of c.args.self.now.before) c.args.number line c.requires.sizes c.in_ok-row.row (c.in_ok-row.ensures.row line text) in
    let same = ap (λ (r : Row). length r.begun.items) c.look_behind.ensures.row in
    omega (arith, c.row.ensures.turns, c.look_behind.ensures.turns, c.hold_row.ensures.turns, c.go_behind.ensures.turns, begun, same, here)

pub returns-in_err-hold_last-clause-turns : goal.returns-in_err-hold_last-clause-turns
returns-in_err-hold_last-clause-turns g c = λ line text. omega (arith, c.row.ensures.turns, c.look_behind.ensures.turns, c.hold_row.ensures.turns)

pub returns-in_err-hold_row-clause-turns : goal.returns-in_err-hold_row-clause-turns
returns-in_err-hold_row-clause-turns g c = λ line text. omega (arith, c.row.ensures.turns, c.look_behind.ensures.turns, c.hold_row.ensures.turns)

pub returns-in_err-row-clause-turns : goal.returns-in_err-row-clause-turns
returns-in_err-row-clause-turns g c = λ line text. omega (arith, c.row.ensures.turns)
