-- Chains: the enters of some void spans of a list of events, joined by links.
--
-- A linked enter and the exit after it are a chunk. The enter's index names it. The joined text of a chain's chunks is content of its own
-- (the crate's comments on `subtokenize`).
use Rattle.std.specs.Prelude.{ℕ, zero, suc, Bool, true, false, ◌&&◌, List, [], ◌∷◌, length, filter, Option, Some, None, option_map, unwrap_or, is_none}
use Rattle.std.specs.List.{range_with_len}
use denote.Enum.Bare.{sameb}
use Rattle.markdown_base.specs.contracts.event.Content.{the_type}
use Rattle.markdown_base.specs.declared.event.Content.{Content}
use Rattle.markdown_base.specs.declared.event.Event.{Event}
pub use Rattle.markdown_edits.specs.Links.{content_at}
use Rattle.markdown_edits.specs.Links.{next_of, previous_of}

-- a filter lets its own content through; no filter lets each content through
abbrev pub lets_through : Option Content → Content → Bool
lets_through None c = true
lets_through (Some wanted) c = sameb the_type wanted c

-- whether there is a content, and it is let through
abbrev pub some_fits : Option Content → Option Content → Bool
some_fits wanted None = false
some_fits wanted (Some c) = lets_through wanted c

-- the event at an index is in a chain that fits the filter
abbrev pub fits : Option Content → List Event → ℕ → Bool
fits wanted events i = some_fits wanted (content_at events i)

-- and begins it
abbrev pub begins : Option Content → List Event → ℕ → Bool
begins wanted events i = fits wanted events i && is_none (previous_of events i)

-- the indices from i on along the links, at most n
abbrev pub chain_from : ℕ → List Event → ℕ → List ℕ
chain_from zero events i = []
chain_from (suc n) events i = i ∷ unwrap_or (option_map (λ d. chain_from n events d) (next_of events i)) []

-- the chunks of the chain that begins at an index
abbrev pub chain_of : List Event → ℕ → List ℕ
chain_of events i = chain_from (length events) events i

-- the chunks of chains that fit, in order
abbrev pub fitting_chunks : Option Content → List Event → List ℕ
fitting_chunks wanted events = filter (fits wanted events) (range_with_len 0 (length events))

-- the first chunks of the chains that fit, in order
abbrev pub fitting_starts : Option Content → List Event → List ℕ
fitting_starts wanted events = filter (begins wanted events) (range_with_len 0 (length events))
