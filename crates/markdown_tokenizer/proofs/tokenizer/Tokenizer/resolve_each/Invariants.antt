use Rattle.markdown_tokenizer.proofs.Prelude.{drop}
use Rattle.markdown_tokenizer.proofs.Runs.Resolvers.{ResolvesOn}
use Rattle.markdown_tokenizer.proofs.tokenizer.Tokenizer.resolve_each.Given as goal

abbrev pub invariant-loop-name : goal.invariant-loop-name
invariant-loop-name g l = ResolvesOn g.M.Machine.rules l.fn.self l.names (drop l.name-index l.names) l.fn.sub l.self l.found
