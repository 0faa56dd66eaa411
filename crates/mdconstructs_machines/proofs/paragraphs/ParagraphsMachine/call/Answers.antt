use Rattle.mdconstructs_machines.proofs.Prelude.{rules, sym, subst, begun, counts, CanLinkChunk, known-before, can-follow}
use Rattle.mdconstructs_machines.proofs.paragraphs.ParagraphsMachine.call.Goals as goal

pub paragraph_start-requires-clause-chunk : goal.paragraph_start-requires-clause-chunk
paragraph_start-requires-clause-chunk c =
    let t = c.args.t.now in
    subst CanLinkChunk (sym c.begin.ensures)
    (can-follow (begun counts t) (known-before t.configuration.events t.configuration.local t.choices c.args.name.number (search rules) c.requires.invariant.known))
