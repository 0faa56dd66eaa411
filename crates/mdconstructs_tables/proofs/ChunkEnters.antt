-- A chunk of text that is entered, and may be linked to the one before.
use Rattle.std.proofs.Common.{Some, true, ◌≡◌}
use Rattle.markdown_base.specs.declared.event.Name.TheVariants.{Data}
use Rattle.markdown_edits.specs.Links.{CanLink}
use Rattle.markdown_tokenizer.specs.Calls.{entered}
use Rattle.markdown_tokenizer.specs.Configuration.{TokenizerValue, at_configuration}
use Rattle.markdown_tokenizer.specs.Sight.{sight_of}
use Rattle.mdconstructs_tables.specs.Chunks.{chunk_before, last_event}
use Rattle.mdconstructs_tables.specs.Paragraphs.{text_link}

-- what can be linked in one configuration can be in another that is the same
pub linkable : {M R D : Type 0} (t u : TokenizerValue M R D) → u ≡ t
    → (t.configuration.local.tokenize_state.connect ≡ true → CanLink t.configuration.events (chunk_before t.configuration) (last_event t.configuration))
    → u.configuration.local.tokenize_state.connect ≡ true → CanLink u.configuration.events (chunk_before u.configuration) (last_event u.configuration)
linkable t u e h = rw e h

-- the chunk was entered as text, and then what follows
pub as_text : {M R D B : Type 0} (t u : TokenizerValue M R D) → u ≡ at_configuration t (entered Data (Some text_link) (sight_of t).enter_place t.configuration) → B → B
as_text t u e b = b
