-- A list of events with each chain of texts, or of strings, read as inline text, or as a string (CommonMark 0.30, "Inlines").
use Rattle.std.specs.Prelude.{ℕ, Bool, List, Some, map}
use Rattle.markdown_base.specs.declared.event.Content.TheVariants.{String}
use Rattle.markdown_base.specs.declared.event.Event.{Event}
use Rattle.markdown_tokenizer.specs.Text.{Given}
use Rattle.markdown_children.specs.Chains.{fitting_starts}
use Rattle.markdown_children.specs.Children.{with_children}
use Rattle.mdinline_text_machine.specs.ReadChains.{chain_text, with_read}
use Rattle.mdinline_machine.specs.InlineEvents.{inline_events}
use Rattle.mdinline_machine.specs.StringEvents.{string_events}

-- the list with each chunk of each chain of text replaced by its part of the inline text of the chain, by which labels are defined
abbrev pub with_inlines : (defined : List ℕ → Bool) → Given → List Event → List Event
with_inlines defined g events = with_read g events (λ c. inline_events defined g (chain_text g events c))

-- the list with each chunk of each chain of strings replaced by its part of the events of the string that the chain is
abbrev pub with_strings : Given → List Event → List Event
with_strings g events = with_children (Some String) events (map (λ c. string_events g (chain_text g events c)) (fitting_starts (Some String) events))
