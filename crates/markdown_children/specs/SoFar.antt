-- Inner: what the loop of `subtokenize` knows before it looks at the event at an index. No public contract cites this file.
use Rattle.std.specs.Prelude.{◌≡◌, ◌↔◌, ℕ, Bool, true, List, [], length, filter, flat_map, Option}
use Rattle.std.specs.List.{range_with_len}
use Rattle.markdown_base.specs.declared.event.Content.{Content}
use Rattle.markdown_base.specs.declared.event.Event.{Event}
use Rattle.markdown_tokenizer.specs.declared.subtokenize.Subresult.{Subresult}
use Rattle.markdown_tokenizer.specs.Text.{Given}
use Rattle.markdown_tokenizer.specs.Configuration.{TokenizerValue}
use Rattle.markdown_tokenizer.specs.Rules.{Rules}
use Rattle.markdown_edits.specs.Edits.{Edit, removed_by, added_by}
use Rattle.markdown_children.specs.Chains.{begins}
use Rattle.markdown_children.specs.Parts.{divided_over, all_edits}
use Rattle.markdown_children.specs.Reads.{Child, lists, AreChildren}

-- the first chunks of the chains that fit, below an index
abbrev pub starts_below : Option Content → List Event → ℕ → List ℕ
starts_below wanted events i = filter (begins wanted events) (range_with_len 0 i)

module _ {R D : Type 0} (g : Given) (rules : Given → Rules R D) (wanted : Option Content) (events : List Event) where
  -- the chains that begin below i were read; the map holds their edits, and the sums are the map's
  pub record SoFar (i : ℕ) (es : List Edit) (sums : ℕ × ℕ) (sub : Subresult) : Type 0 where
    pub children : List Child
    pub read : AreChildren g rules events (starts_below wanted events i) children
    pub edits : es ≡ all_edits 0 0 (divided_over events (starts_below wanted events i) (lists children))
    pub removed : sums.0 ≡ removed_by es
    pub added : sums.1 ≡ added_by es
    pub done : (sub.done ≡ true) ↔ (starts_below wanted events i ≡ [])
    pub definitions : sub.definitions ≡ flat_map (λ (c : Child). c.found.definitions) children
    pub footnotes : sub.gfm_footnote_definitions ≡ flat_map (λ (c : Child). c.found.gfm_footnote_definitions) children

  -- all chains were read; the map holds their edits, and `sub` the definitions found
  abbrev pub HasGathered : List Edit → Subresult → Type 0
  HasGathered es sub = (sums : ℕ × ℕ) × SoFar (length events) es sums sub

-- a tokenizer with the flag for the first paragraph of a list item set
abbrev pub with_flag : {M R D : Type 0} → Bool → TokenizerValue M R D → TokenizerValue M R D
with_flag flag t =
    let local = t.configuration.local in
    let state = record local.tokenize_state { document_at_first_paragraph_of_list_item = flag } in
    record t { configuration = record t.configuration { local = record local { tokenize_state = state } } }
