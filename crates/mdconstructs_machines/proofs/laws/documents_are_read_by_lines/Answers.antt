use Rattle.mdconstructs_machines.proofs.LineReads.Back.{back-reads}
use Rattle.mdconstructs_machines.proofs.LineReads.Deep.{deep-reads}
use Rattle.mdconstructs_machines.proofs.LineReads.Lines.{lines-read}
use Rattle.mdconstructs_machines.proofs.LineReads.Peek.{peek-reads}
use Rattle.mdconstructs_machines.proofs.LineReads.Save.{save-reads}
use Rattle.mdconstructs_machines.proofs.laws.documents_are_read_by_lines.Goals as goal

pub returns : goal.returns
returns c = record { lines = lines-read; peek = peek-reads; deep = deep-reads; save = save-reads; back = back-reads }
