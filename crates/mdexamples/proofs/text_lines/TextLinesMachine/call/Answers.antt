use Rattle.std.proofs.Common.{rules, refl}
use Rattle.mdconstructs_tables.proofs.Rows.Calls.{callable, never-called}
use Rattle.mdconstructs.specs.Tables.{counts}
use Rattle.mdexamples.specs.TextLines.{text_lines, flow_start, line_start, line_inside}
use Rattle.mdexamples.proofs.text_lines.TextLinesMachine.call.Goals as goal

pub flow_start-requires : goal.flow_start-requires
flow_start-requires c = callable text_lines counts (λ local. refl) c.args.name flow_start _ _ (search rules) refl c.requires.invariant.1 c.begin.ensures

pub line_start-requires : goal.line_start-requires
line_start-requires c = callable text_lines counts (λ local. refl) c.args.name line_start _ _ (search rules) refl c.requires.invariant.1 c.begin.ensures

pub line_inside-requires : goal.line_inside-requires
line_inside-requires c = callable text_lines counts (λ local. refl) c.args.name line_inside _ _ (search rules) refl c.requires.invariant.1 c.begin.ensures

pub unreachable-requires : goal.unreachable-requires
unreachable-requires c = never-called text_lines c.args.name c.args.t.now (search rules) c.requires.invariant.1
