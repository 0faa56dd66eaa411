use Rattle.mdinline_labels.specs.Defined.{defines}
use Rattle.mdinline_text_machine.specs.Bytes.{is_space}
use Rattle.mdinline_machine.specs.Over.{is_in_data}
use Rattle.mdinline_machine.proofs.Prelude.{rules}
use Rattle.mdinline_machine.proofs.OverBytes.{set-passes, space-over}
use Rattle.mdinline_machine.proofs.inlines.InlinesMachine.notes_over.Goals as goal

pub returns-in-DataInside : goal.returns-in-DataInside
returns-in-DataInside c = λ byte next e f.
    let space = set-passes is_space c.spaces.ensures byte e in let is = set-passes is_in_data c.in_data.ensures next f in
    (space.0, is.0, space-over byte next space.1 is.1 c.args.name (search rules) (defines c.args.self.now.labels))
