use Rattle.mdconstructs_tables.proofs.Tables.Lawful.{late-lawful}
use Rattle.mdtests_tables.specs.Marks.{begins_line, follows_line, marks}
use Rattle.mdtests_tables.specs.Laws.Marks.{marks-late, marks-plain}
use Rattle.mdtests_tables.proofs.looping.looks_and_rounds_may_be_late.Goals as goal

pub returns : goal.returns
returns c = λ g. late-lawful marks begins_line follows_line g marks-late marks-plain
