use Rattle.std.proofs.Common.{ap, sym, ◌∙◌, cond, Some}
use Rattle.std.specs.Map.{lookup}
use Rattle.std.specs.Prelude.{bytes_eq, ◌&&◌}
use Rattle.mddocument_link_targets.specs.Defined.{defined_at}
use Rattle.mddocument_link_targets.specs.Spans.{inside}
use Rattle.mddocument_link_targets.specs.Targets.{defined_label}
use Rattle.mddocument_link_targets.proofs.Lookups.{added}
use Rattle.mddocument_link_targets.proofs.definitions.Definitions.define.Goals as goal

pub returns-in_ok-insert-clause-defined : goal.returns-in_ok-insert-clause-defined
returns-in_ok-insert-clause-defined g c = λ label.
    let old = c.args.self.now.indices.entries in
    ap (λ es. lookup (λ known. bytes_eq label known.items) es) c.in_ok-insert.ensures.entries
    ∙ added (λ k. k.items) label c.in_ok-label.label c.args.at old
    ∙ ap (λ bs. cond (bytes_eq label bs) (Some c.args.at) (defined_at c.args.self.now label)) (c.in_ok-label.ensures.label ∙ ap (λ es. defined_label c.args.bytes.now es) c.inside-definition.ensures.inside)
    ∙ ap (λ b. cond (b && bytes_eq label (defined_label c.args.bytes.now (inside c.args.behind.now))) (Some c.args.at) (defined_at c.args.self.now label)) (sym (sym c.enters.ensures ∙ c.if-enters.true))
