-- What the machine knows where a chunk of a paragraph begins, and where an underline may end.
use Rattle.std.proofs.Common.{◌≡◌, ℕ, List, [], ◌∷◌, true, false, Some, refl, subst, arith}
use Rattle.markdown_base.specs.declared.event.Event.{Event}
use Rattle.markdown_base.specs.declared.state.State.TheVariants.{Retry}
use Rattle.markdown_base.specs.declared.state.TheConstants.Name.{ParagraphStart, HeadingSetextAfter}
use Rattle.markdown_base.specs.declared.event.Name.TheVariants.{HeadingSetextUnderline}
use Rattle.markdown_tokenizer.specs.Configuration.{Configuration, Local, Choice}
use Rattle.mdconstructs_tables.specs.Quiet.{is_one_of}
use Rattle.mdconstructs_tables.specs.Paragraphs.{HasChunk}
use Rattle.mdblock_leaf_rows.specs.FlowKnows.{looks, Place, before_chunk, in_underline, place_at, KnowsChunk, KnowsEdits, IsBehindParagraph, knows_flow}
use Rattle.mdblock_leaf_rows.specs.HeadingEdits.{CanEndHeading}
use Rattle.mdblock_leaf_rows.specs.Laws.Headings.{edits-before, exit-within}

-- before a chunk of a paragraph, the previous one is where it was noted
pub known-before : (events : List Event) (local : Local Unit Unit) (choices : List Choice) (n : ℕ) → n ≡ ParagraphStart.number → knows_flow events local choices (Retry (record { number = n }))
    → local.tokenize_state.connect ≡ true → HasChunk events local.tokenize_state.start
known-before events local [] n e h =
    let there : place_at (record { number = n }) ≡ before_chunk = rw e refl in subst (λ (p : Place). KnowsChunk p events local) there h.chunk
known-before events local (c ∷ []) n e h = let none : is_one_of looks (record { number = n }) ≡ false = rw e refl in let looking = h.0 in absurd (cc)
known-before events local (c ∷ d ∷ choices) n e h = absurd h

-- in an underline, the paragraph before it is where it was noted
pub known-underline : (events : List Event) (local : Local Unit Unit) (choices : List Choice) (n : ℕ) → n ≡ HeadingSetextAfter.number → knows_flow events local choices (Retry (record { number = n }))
    → IsBehindParagraph (HeadingSetextUnderline ∷ []) events local.map local.tokenize_state.end local.tokenize_state.start
known-underline events local [] n e h =
    let there : place_at (record { number = n }) ≡ in_underline (HeadingSetextUnderline ∷ []) = rw e refl in subst (λ (p : Place). KnowsEdits p events local) there h.edits
known-underline events local (c ∷ []) n e h = let none : is_one_of looks (record { number = n }) ≡ false = rw e refl in let looking = h.0 in absurd (cc)
known-underline events local (c ∷ d ∷ choices) n e h = absurd h

-- and so the heading can end
pub can-end : (k : Configuration Unit Unit) → IsBehindParagraph (HeadingSetextUnderline ∷ []) k.events k.local.map k.local.tokenize_state.end k.local.tokenize_state.start → CanEndHeading k
can-end k h = record {
  edits = edits-before (HeadingSetextUnderline ∷ []) k.events k.local.map k.local.tokenize_state.end k.local.tokenize_state.start h;
  order = omega (arith, h.first_is, h.last_is);
  within = exit-within (HeadingSetextUnderline ∷ []) k.events k.local.map k.local.tokenize_state.end k.local.tokenize_state.start h;
}
