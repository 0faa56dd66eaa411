use Rattle.std.proofs.Common.{◌≡◌, List, take, drop, map, subst, sym, refl, ◌∙◌, arith}
use Rattle.std.specs.Prelude.{◌==◌, ◌&&◌, ◌||◌}
use Rattle.std.proofs.lemmas.List.{length-map}
use Rattle.mdblock_lines.specs.declared.containers.Prefix.{Prefix}
use Rattle.mdblock_lines.specs.Views.{prefix_of}
use Rattle.mdblock_containers.specs.Prefixes.{going_on, with_list}
use Rattle.mdblock_containers.specs.Rows.{Row, has_none}
use Rattle.mdblock_containers.specs.Views.{begun_of, before_of, open_of, IsRow}
use Rattle.mdblock_containers.proofs.RowLemmas.{row_parts, row_is}
use Rattle.mdblock_containers.proofs.rows.Before.row.Goals as goal

pub returns-clause-row : goal.returns-clause-row
returns-clause-row g c = λ line text.
    let b = before_of c.args.self.now in
    let xs = c.in_ok-begun.begun.prefixes.items in
    let going = c.going_in-going.result in
    let went = going_on (take c.args.self.now.depth (map open_of c.args.self.now.stack.items)) c.args.number c.args.t.now in
    let listed : begun_of c.list_in-list.result c.args.number xs ≡ with_list (drop going.many (map open_of c.args.self.now.stack.items)) (map (prefix_of c.args.number) xs) =
    subst (λ (l : List Prefix). begun_of c.list_in-list.result c.args.number l ≡ with_list (drop going.many (map open_of c.args.self.now.stack.items)) (map (prefix_of c.args.number) l)) c.as_slice.ensures.value c.list_in-list.ensures in
    let parts = row_parts c.args.on.now b c.args.number line c.args.t.now text going.many going.columns c.list_in-list.result c.behind-after.result.now xs c.going_in-going.ensures.many c.going_in-going.ensures.columns c.behind-after.ensures.value
    c.in_ok-begun.ensures.prefixes listed in
    let e = c.row_with.ensures in
    let stays = e.stays ∙ (λ k. has_none xs && (c.row_with.result.is_lazy || ((going.many == c.args.self.now.depth) && (sym (length-map c.args.self.now.stack.items open_of) k == c.args.self.now.depth)))) in
    let is = row_is c.args.on.now b c.args.number line c.args.t.now text went (begun_of c.list_in-list.result c.args.number xs) c.row_with.result going.many going.columns c.in_ok-begun.begun.columns xs c.list_in-list.result
    c.going_in-going.ensures.many c.going_in-going.ensures.columns c.in_ok-begun.ensures.columns refl e.many e.going e.list e.begun e.columns e.is_lazy stays e.is_blank e.is_left_blank e.leaf in
    subst (λ (r : Row). IsRow c.args.number c.row_with.result r) (sym parts) is

pub returns-clause-within : goal.returns-clause-within
returns-clause-within g c = omega (arith, c.row_with.ensures.columns, c.in_ok-begun.ensures.within, c.behind-after.ensures.len, c.going_in-going.ensures.within)

pub row_with-requires : goal.row_with-requires
row_with-requires g c = omega (arith, c.in_ok-begun.ensures.within, c.behind-after.ensures.len, c.going_in-going.ensures.within)
