use Rattle.mdconstructs_machines.proofs.LineReads.Rest.{peek-rest, deep-rest, rest-quiet}
use Rattle.mdconstructs_machines.proofs.Prelude.{refl}
use Rattle.mdconstructs_machines.proofs.laws.looks_read_the_rest.Goals as goal

pub returns : goal.returns
returns c = record { peek = peek-rest; deep = deep-rest; quiet = rest-quiet; loud = refl }
