use Rattle.std.proofs.Common.{◌≡◌, ◌≤◌, ◌+◌, ◌*◌, ◌∙◌, ℕ, Bool, List, true, false, cond, ap, arith, drop, length, sym}
use Rattle.std.specs.Prelude.{◌&&◌, is_some}
use Rattle.markdown_base.specs.declared.configuration.Constructs.{Constructs}
use Rattle.mdblock_leaf_blocks.specs.LineKinds.{underline_rank}
use Rattle.mdblock_containers.specs.declared.rows.Row.{Row}
use Rattle.mdblock_containers.specs.Rows.{is_paragraph, open_table}
use Rattle.mdblock_containers.specs.Views.{leaf_of}
use Rattle.mdblock_definitions.specs.declared.rows.Known.{Known}
use Rattle.mdblock_definitions.specs.Known.{is_held_used_up, is_in_table, leaf_behind, table_asked}
use Rattle.mdblock_definitions.proofs.TableLeaves.{leaf-in, leaf-under}
use Rattle.mdblock_definitions.proofs.rows.look_behind.Goals as goal

-- a line that would be text: what is asked of it costs little, and the leaf block behind it is a table if it was found in one
module _ (on : Constructs) (known : Known) (row : Row) where
  few : (rest : List ℕ) → table_asked on (leaf_of known.before.leaf) known.text.items known.last.items row.stays row.is_lazy (leaf_of row.leaf) rest ≤ 16 * length known.text.items + 16
  few rest = by _ (16 * length known.text.items + 16)
    where
      by : (b : Bool) (n : ℕ) → cond b n 0 ≤ n
      by true n = omega arith
      by false n = omega arith

  found : (rest read : List ℕ) (is b : Bool) → is_paragraph (leaf_of row.leaf) ≡ true → is ≡ b → is ≡ is_in_table on (leaf_of known.before.leaf) known.text.items known.last.items row.stays row.is_lazy (leaf_of row.leaf) read → read ≡ rest
      → cond b open_table (leaf_of row.leaf) ≡ leaf_behind on (leaf_of known.before.leaf) known.text.items known.last.items row.stays row.is_lazy (leaf_of row.leaf) rest
  found rest read is b text e value same =
      leaf-in on (leaf_of known.before.leaf) known.text.items known.last.items row.stays row.is_lazy (leaf_of row.leaf) rest b text
      (sym e ∙ value ∙ ap (λ (r : List ℕ). is_in_table on (leaf_of known.before.leaf) known.text.items known.last.items row.stays row.is_lazy (leaf_of row.leaf) r) same)

pub returns-then-is_row_of_table-clause-leaf : goal.returns-then-is_row_of_table-clause-leaf
returns-then-is_row_of_table-clause-leaf g c =
    found c.args.on.now c.args.known.now c.args.row.now (drop c.args.row.now.columns c.args.t.now) c.behind-rest.result.now c.is_row_of_table.result true (sym c.is_paragraph.ensures ∙ c.if-is_paragraph.true) c.if-is_row_of_table.true c.is_row_of_table.ensures.value c.behind-rest.ensures.value

pub returns-else-is_row_of_table-clause-leaf : goal.returns-else-is_row_of_table-clause-leaf
returns-else-is_row_of_table-clause-leaf g c =
    found c.args.on.now c.args.known.now c.args.row.now (drop c.args.row.now.columns c.args.t.now) c.behind-rest.result.now c.is_row_of_table.result false (sym c.is_paragraph.ensures ∙ c.if-is_paragraph.true) c.if-is_row_of_table.false c.is_row_of_table.ensures.value c.behind-rest.ensures.value

pub returns-then-underlines_held-clause-leaf : goal.returns-then-underlines_held-clause-leaf
returns-then-underlines_held-clause-leaf g c =
    let on = c.args.on.now in
    let known = c.args.known.now in
    let row = c.args.row.now in
    leaf-under on (leaf_of known.before.leaf) known.text.items known.last.items row.stays row.is_lazy (leaf_of row.leaf) (drop row.columns c.args.t.now) true (sym c.is_paragraph.ensures ∙ c.if-is_paragraph.false)
    (sym c.if-underlines_held.true ∙ c.underlines_held.ensures.value
    ∙ (λ i. on.definition && ((row.stays && is_paragraph (leaf_of known.before.leaf)) && (is_some (underline_rank on (c.behind-rest.ensures.value i)) && is_held_used_up (c.as_slice.ensures.value i)))))

pub returns-then-is_row_of_table-clause-turns : goal.returns-then-is_row_of_table-clause-turns
returns-then-is_row_of_table-clause-turns g c = omega (arith, c.is_row_of_table.ensures.turns, few c.args.on.now c.args.known.now c.args.row.now c.behind-rest.result.now, c.behind-rest.ensures.len)

pub returns-else-is_row_of_table-clause-turns : goal.returns-else-is_row_of_table-clause-turns
returns-else-is_row_of_table-clause-turns g c = omega (arith, c.is_row_of_table.ensures.turns, few c.args.on.now c.args.known.now c.args.row.now c.behind-rest.result.now, c.behind-rest.ensures.len)
