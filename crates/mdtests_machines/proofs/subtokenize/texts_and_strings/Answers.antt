use Rattle.mdtests_machines.proofs.Prelude.{IsWithinLimit, ParseOptions, arith, given_by, refl, subst, sym, ◌<◌}
use Rattle.std.proofs.lemmas.List.Elements.{All-from_get_or}
use Rattle.markdown.specs.Text.{IsDocument}
use Rattle.mdtests_machines.proofs.subtokenize.texts_and_strings.Goals as goal

pub ready-requires : goal.ready-requires
ready-requires c = record { limit = subst (λ (o : ParseOptions). IsWithinLimit o.tab_size c.args.bytes.now) (sym c.default-options.ensures) c.requires.limit }

pub read_texts-requires-clause-document : goal.read_texts-requires-clause-document
read_texts-requires-clause-document c =
    let bytes = All-from_get_or (λ b. b < 256) c.args.bytes.now 0 (λ i l. omega (arith, c.type_inv.bytes i)) in
    subst (λ (o : ParseOptions). IsDocument (given_by c.args.bytes.now o)) (sym c.default-options.ensures) (record { bytes = bytes; tab = (omega arith, omega arith); limit = c.requires.limit; one_size = refl })
