use Rattle.mdtests_machines.proofs.Prelude.{IsWithinLimit, sym, subst, ParseOptions}
use Rattle.mdtests_machines.proofs.subtokenize.put_children.Goals as goal

pub ready-requires : goal.ready-requires
ready-requires g c = record { limit = subst (λ (o : ParseOptions). IsWithinLimit o.tab_size c.args.bytes.now) (sym c.default-options.ensures) c.requires.limit }
