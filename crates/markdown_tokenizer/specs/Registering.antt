-- A tokenizer in which one more resolver is registered.
use Rattle.std.specs.Prelude.{Bool}
use Rattle.markdown_tokenizer.specs.Configuration.{TokenizerValue, at_configuration}
use Rattle.markdown_tokenizer.specs.Calls.{with_resolvers, registered, registered_before}

module _ {M R D : Type 0} (same : R → R → Bool) (r : R) (t : TokenizerValue M R D) where
  -- a resolver is registered after the ones that are there, unless it is one of them
  abbrev pub with_resolver : TokenizerValue M R D
  with_resolver = at_configuration t (with_resolvers t.configuration (registered same r t.configuration.local.resolvers))

  -- or before them
  abbrev pub with_resolver_before : TokenizerValue M R D
  with_resolver_before = at_configuration t (with_resolvers t.configuration (registered_before same r t.configuration.local.resolvers))
