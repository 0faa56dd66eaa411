use Rattle.mddocument_editing.proofs.Prelude.{◌<◌, arith, All-from_get_or}
use Rattle.mddocument_editing.proofs.moved.is_bytes.Goals as goal

pub returns : goal.returns
returns c = All-from_get_or (λ b. b < 256) c.args.bytes.now 0 (λ i l. omega (arith, c.type_inv.bytes i))
