use Rattle.mdtests_base.proofs.Prelude.{IsWithinLimit, sym, subst, ParseOptions}
use Rattle.mdtests_base.proofs.documents.lines_by.Goals as goal

pub cuts_every-requires : goal.cuts_every-requires
cuts_every-requires g c = record { fits = subst (λ (o : ParseOptions). IsWithinLimit o.tab_size c.args.bytes.now) (sym c.default-options.ensures) c.requires.limit; some = c.requires.cut }
