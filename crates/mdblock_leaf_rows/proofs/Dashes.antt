-- At a dash the look at a line does what the rows of a dash say.
use Rattle.std.proofs.Common.{◌≡◌, ℕ, Option, Some, sym, subst}
use Rattle.markdown_base.specs.declared.state.State.{State}
use Rattle.markdown_tokenizer.specs.Configuration.{TokenizerValue}
use Rattle.markdown_tokenizer.specs.Sight.{sight_of}
use Rattle.mdconstructs_tables.specs.RowInvariant.{DoesAll, step_in}
use Rattle.mdconstructs_tables.specs.Rows.{class_of, picked, step_of}
use Rattle.mdblock_leaf_rows.specs.FlowBytes.{cased, flow_byte}
use Rattle.mdblock_leaf_rows.specs.Look.{dash_may_begin, flow_blank_line_before_rows, flow_blank_line_before}
use Rattle.mdblock_leaf_rows.specs.Steps.{rows_step}

pub at-dash : {M R D : Type 0} (t u : TokenizerValue M R D) (answer : State) → (sight_of t).current ≡ Some 45 → DoesAll (rows_step dash_may_begin t) t u answer
    → DoesAll (step_in flow_byte flow_blank_line_before t) t u answer
at-dash {M = M} {R = R} {D = D} t u answer waits h =
    let s = sight_of t in
    let k = t.configuration in
    subst (λ (o : Option ℕ). DoesAll (step_of (picked (cased (flow_blank_line_before_rows {R = R} {D = D}) (class_of flow_byte s.previous) (class_of flow_byte o)) t.given s k) s k) t u answer) (sym waits) h
