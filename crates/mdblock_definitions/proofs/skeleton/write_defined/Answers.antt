use Rattle.std.proofs.Common.{ℕ, List, ◌∷◌, map, sym, ap, ◌∙◌, subst, arith, length}
use Rattle.std.specs.Prelude.{◌||◌}
use Rattle.mdblock_containers.specs.declared.spans.RowAt.{RowAt}
use Rattle.mdblock_containers.specs.Views.{open_of}
use Rattle.mdinline_labels.specs.Defined.{defines}
use Rattle.mdinline_labels.specs.Definitions.{definitions}
use Rattle.mdblock_definitions.specs.Cursor.{IsBegin}
use Rattle.mdblock_definitions.specs.Held.{HaveTexts}
use Rattle.mdblock_definitions.specs.Labelled.{is_one_of}
use Rattle.mdblock_definitions.specs.Seen.{rows_by}
use Rattle.mdblock_definitions.specs.Skeleton.{all_rows, labels_in}
use Rattle.mdblock_definitions.proofs.SectionFacts.{rows-lines, rows-text, section-columns, section-these, write-definitions, rows-bytes}
use Rattle.mdblock_definitions.proofs.SectionLemmas.{texts-by}
use Rattle.mdblock_definitions.proofs.SectionCosts.{definitions-few, text-size, write-few}
use Rattle.mdinline_labels.specs.declared.definitions.Definition.{Definition}
use Rattle.mdblock_definitions.proofs.skeleton.write_defined.Goals as goal

pub hold_lines-requires : goal.hold_lines-requires
hold_lines-requires g c = λ lifetimes outlives. (
  outlives,
  subst (λ (l : List RowAt). HaveTexts c.args.tab c.args.bytes.now l (rows_by c.args.tab c.args.bytes.now l)) (sym c.requires.1.1.0)
      (texts-by c.args.tab c.args.bytes.now (c.args.first.now ∷ c.args.more.now) (all_rows g.part)
      (section-these c.args.tab c.args.bytes.now (map open_of c.args.stack.now) c.args.first.now c.args.more.now g.part c.requires.1.1.1.0).texts),
)

pub write_definitions-requires : goal.write_definitions-requires
write_definitions-requires g c =
    let t = c.args.tab in
    let bytes = c.args.bytes.now in
    let stack = map open_of c.args.stack.now in
    let first = c.args.first.now in
    let more = c.args.more.now in
    let section = c.requires.1.1.1.0 in
    let text = c.as_slice-text.ensures.value ∙ c.in_ok-hold_lines.ensures.text in
    record {
      limit = c.requires.1.0;
      lines = record { all = all_rows g.part; are = rows-lines t bytes stack first more g.part section c.args.rows.now c.requires.1.1.0 };
      begin = subst (λ (l : List RowAt). IsBegin t bytes l c.args.begin) (sym c.requires.1.1.0) (section-columns t bytes stack first more g.part section c.args.begin c.requires.1.1.1.1.0 c.requires.1.1.1.1.1.0, c.requires.1.1.1.1.0.place);
      text = text;
      definitions = c.requires.1.1.1.1.1.1 ∙ ap definitions (sym (rows-text t bytes stack first more g.part section c.args.rows.now c.requires.1.1.0 c.as_slice-text.result.now text));
    }

pub define_labels-requires : goal.define_labels-requires
define_labels-requires g c =
    let text = rows-text c.args.tab c.args.bytes.now (map open_of c.args.stack.now) c.args.first.now c.args.more.now g.part c.requires.1.1.1.0 c.args.rows.now c.requires.1.1.0 c.as_slice-text.result.now (c.as_slice-text.ensures.value ∙ c.in_ok-hold_lines.ensures.text) in
    c.requires.1.1.1.1.1.1 ∙ ap definitions (sym text)

pub returns-clause-events : goal.returns-clause-events
returns-clause-events g c = λ rest all w.
    let are = rows-lines c.args.tab c.args.bytes.now (map open_of c.args.stack.now) c.args.first.now c.args.more.now g.part c.requires.1.1.1.0 c.args.rows.now c.requires.1.1.0 in
    write-definitions c.args.bytes.now c.args.skeleton.now.events.items c.write_definitions.new.events.items c.args.defined.now (all_rows g.part) rest all (c.in_ok-write_definitions.ensures.events (all_rows g.part) are) w

pub returns-clause-labels : goal.returns-clause-labels
returns-clause-labels g c = λ label.
    let text = rows-text c.args.tab c.args.bytes.now (map open_of c.args.stack.now) c.args.first.now c.args.more.now g.part c.requires.1.1.1.0 c.args.rows.now c.requires.1.1.0 c.as_slice-text.result.now (c.as_slice-text.ensures.value ∙ c.in_ok-hold_lines.ensures.text) in
    c.in_ok-define_labels.ensures.labels label ∙ ap (λ (l : List ℕ). defines c.args.skeleton.now.labels label || is_one_of (labels_in c.args.defined.now l) label) text

pub returns-in_err-write_definitions-clause-turns : goal.returns-in_err-write_definitions-clause-turns
returns-in_err-write_definitions-clause-turns g c =
    let t = c.args.tab in
    let bytes = c.args.bytes.now in
    let stack = map open_of c.args.stack.now in
    let columns = rows-bytes t bytes stack c.args.first.now c.args.more.now g.part c.requires.1.1.1.0 c.args.rows.now c.requires.1.1.0 in
    let write = write-few c.args.begin.columns c.args.rows.now in
    let text = ap (λ (l : List ℕ). length l) (c.as_slice-text.ensures.value ∙ c.in_ok-hold_lines.ensures.text) in
    let size = text-size t bytes c.args.rows.now in
    let same = rows-text t bytes stack c.args.first.now c.args.more.now g.part c.requires.1.1.1.0 c.args.rows.now c.requires.1.1.0 c.as_slice-text.result.now (c.as_slice-text.ensures.value ∙ c.in_ok-hold_lines.ensures.text) in
    let many = ap (λ (l : List Definition). length l) (c.requires.1.1.1.1.1.1 ∙ ap definitions (sym same)) in
    let few = definitions-few c.as_slice-text.result.now in
    omega (arith, columns, write, text, size, many, few, c.hold_lines.ensures.turns, c.write_definitions.ensures.turns)

pub returns-in_err-define_labels-clause-turns : goal.returns-in_err-define_labels-clause-turns
returns-in_err-define_labels-clause-turns g c =
    let t = c.args.tab in
    let bytes = c.args.bytes.now in
    let stack = map open_of c.args.stack.now in
    let columns = rows-bytes t bytes stack c.args.first.now c.args.more.now g.part c.requires.1.1.1.0 c.args.rows.now c.requires.1.1.0 in
    let write = write-few c.args.begin.columns c.args.rows.now in
    let text = ap (λ (l : List ℕ). length l) (c.as_slice-text.ensures.value ∙ c.in_ok-hold_lines.ensures.text) in
    let size = text-size t bytes c.args.rows.now in
    let same = rows-text t bytes stack c.args.first.now c.args.more.now g.part c.requires.1.1.1.0 c.args.rows.now c.requires.1.1.0 c.as_slice-text.result.now (c.as_slice-text.ensures.value ∙ c.in_ok-hold_lines.ensures.text) in
    let many = ap (λ (l : List Definition). length l) (c.requires.1.1.1.1.1.1 ∙ ap definitions (sym same)) in
    let few = definitions-few c.as_slice-text.result.now in
    omega (arith, columns, write, text, size, many, few, c.hold_lines.ensures.turns, c.write_definitions.ensures.turns, c.define_labels.ensures.turns)

pub returns-clause-turns : goal.returns-clause-turns
returns-clause-turns g c =
    let t = c.args.tab in
    let bytes = c.args.bytes.now in
    let stack = map open_of c.args.stack.now in
    let columns = rows-bytes t bytes stack c.args.first.now c.args.more.now g.part c.requires.1.1.1.0 c.args.rows.now c.requires.1.1.0 in
    let write = write-few c.args.begin.columns c.args.rows.now in
    let text = ap (λ (l : List ℕ). length l) (c.as_slice-text.ensures.value ∙ c.in_ok-hold_lines.ensures.text) in
    let size = text-size t bytes c.args.rows.now in
    let same = rows-text t bytes stack c.args.first.now c.args.more.now g.part c.requires.1.1.1.0 c.args.rows.now c.requires.1.1.0 c.as_slice-text.result.now (c.as_slice-text.ensures.value ∙ c.in_ok-hold_lines.ensures.text) in
    let many = ap (λ (l : List Definition). length l) (c.requires.1.1.1.1.1.1 ∙ ap definitions (sym same)) in
    let few = definitions-few c.as_slice-text.result.now in
    omega (arith, columns, write, text, size, many, few, c.hold_lines.ensures.turns, c.write_definitions.ensures.turns, c.define_labels.ensures.turns)
