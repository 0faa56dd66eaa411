use Rattle.mddocument.proofs.making.with_ready_children.Goals as goal

pub subtokenize-requires-clause-starts : goal.subtokenize-requires-clause-starts
subtokenize-requires-clause-starts g c = rw (c.shrink_to_fit.ensures.items, c.in-Some.ensures.bytes, c.in-Some.ensures.options, c.in-Some.ensures.machine) c.requires.start
