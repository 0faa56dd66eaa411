-- A list of events with each chain of text read: the text of a chain is what its chunks have together, and each chunk gives place to its part of what that text is read as.
use Rattle.std.specs.Prelude.{ℕ, List, Some, map}
use Rattle.markdown_base.specs.declared.event.Content.TheVariants as content
use Rattle.markdown_base.specs.declared.event.Event.{Event}
use Rattle.markdown_tokenizer.specs.Text.{Given, Text}
use Rattle.markdown_children.specs.Chains.{chain_of, fitting_starts}
use Rattle.markdown_children.specs.Children.{with_children}
use Rattle.markdown_children.specs.Reads.{text_of_chain}

module _ (g : Given) (events : List Event) where
  -- the text of the chain that begins at an index
  abbrev pub chain_text : ℕ → Text
  chain_text c = text_of_chain g events (chain_of events c)

  -- the list with each chunk of each chain of text replaced by its part of what the chain is read as
  abbrev pub with_read : (ℕ → List Event) → List Event
  with_read of_chain = with_children (Some content.Text) events (map of_chain (fitting_starts (Some content.Text) events))
