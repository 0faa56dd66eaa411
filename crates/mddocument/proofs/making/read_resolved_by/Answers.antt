use Rattle.mddocument.proofs.Prelude.{◌<◌, arith, refl, All-from_get_or, IsTabSize}
use Rattle.mddocument.proofs.making.read_resolved_by.Goals as goal

pub returns-clause-events : goal.returns-clause-events
returns-clause-events g c = let ran = rw (c.in-Some.ensures.bytes, c.in-Some.ensures.options, c.in-Some.ensures.machine) at c.in_ok-events.ensures.ok in (_, ran)

pub returns-clause-document : goal.returns-clause-document
returns-clause-document g c =
    let bytes = All-from_get_or (λ b. b < 256) c.args.bytes.now 0 (λ i l. omega (arith, c.type_inv.bytes i)) in
    let tab : IsTabSize c.args.options.now.tab_size = rw c.in-Some.ensures.options at c.in-Some.parse_state.tab_size in
    record { bytes = bytes; tab = tab; limit = c.requires.limit; one_size = refl }
