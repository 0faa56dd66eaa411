use Rattle.std.proofs.Common.{List, map, sym, subst, ap, arith}
use Rattle.mdblock_containers.specs.declared.spans.RowAt.{RowAt}
use Rattle.mdblock_containers.specs.Views.{open_of}
use Rattle.mdblock_definitions.specs.Sectioned.{AreFirst}
use Rattle.mdblock_definitions.specs.Skeleton.{all_rows}
use Rattle.mdblock_definitions.proofs.SectionFacts.{section-first}
use Rattle.mdblock_definitions.specs.Costs.{bytes_in}
use Rattle.mdblock_definitions.proofs.skeleton.write_text.Goals as goal

pub push_letters-requires : goal.push_letters-requires
push_letters-requires g c = λ lifetimes outlives. (
  outlives,
  (
    c.requires.1.0,
    (
      subst (λ (l : List RowAt). AreFirst c.args.tab c.args.bytes.now l (all_rows g.part)) (sym c.requires.1.1.0) (section-first c.args.tab c.args.bytes.now (map open_of c.args.stack.now) c.args.first.now c.args.more.now g.part c.requires.1.1.1.0),
      (λ b. (c.requires.1.1.1.1.1.0 b).1),
    ),
  ),
)

pub returns-in_err-write_lines-clause-turns : goal.returns-in_err-write_lines-clause-turns
returns-in_err-write_lines-clause-turns g c = omega (arith, ap (bytes_in c.args.tab c.args.bytes.now) c.requires.1.1.0, c.write_lines.ensures.turns)

pub returns-in_err-push_letters-clause-turns : goal.returns-in_err-push_letters-clause-turns
returns-in_err-push_letters-clause-turns g c = omega (arith, ap (bytes_in c.args.tab c.args.bytes.now) c.requires.1.1.0, c.write_lines.ensures.turns, c.push_letters.ensures.turns)

pub returns-clause-turns : goal.returns-clause-turns
returns-clause-turns g c = omega (arith, ap (bytes_in c.args.tab c.args.bytes.now) c.requires.1.1.0, c.write_lines.ensures.turns, c.push_letters.ensures.turns)
