use Rattle.std.proofs.Common.{refl}
use Rattle.std.proofs.lemmas.Bool.{and_parts, ltb-true}
use Rattle.std.specs.Prelude.{◌&&◌, nat_lt}
use Rattle.markdown.proofs.ByteSets.{passed}
use Rattle.mdtests_tables.specs.Over.{is_text}
use Rattle.mdtests_tables.specs.declared.over.TheConstants.{DATA}
use Rattle.mdtests_tables.proofs.over.data_bytes.Goals as goal

pub returns : goal.returns
returns c = λ byte e.
    let both = and_parts (nat_lt 13 byte) (is_text byte) (passed (λ n. nat_lt 13 n && is_text n) DATA refl byte e) in
    (ltb-true 13 byte both.0, both.1)
