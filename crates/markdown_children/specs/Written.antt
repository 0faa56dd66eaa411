-- Inner: a list with edits made, as it is written from its beginning on. No public contract cites this file.
use Rattle.std.specs.Prelude.{◌≡◌, ℕ, ◌+◌, List, [], ◌∷◌, ◌++◌, None}
use Rattle.std.specs.List.{between}
use Rattle.markdown_base.specs.declared.event.Event.{Event}
use Rattle.markdown_tokenizer.specs.declared.subtokenize.Subresult.{Subresult}
use Rattle.markdown_tokenizer.specs.Text.{Given}
use Rattle.markdown_tokenizer.specs.Rules.{Rules}
use Rattle.markdown_edits.specs.Edited.{edited}
use Rattle.markdown_edits.specs.Edits.{Edit}
use Rattle.markdown_children.specs.SoFar.{HasGathered}

-- the events from an index on to where the last edit ends, with the additions of each edit in place of the events that it removes
abbrev pub written : ℕ → List Edit → List Event → List Event
written from [] events = []
written from (e ∷ es) events = between from e.index events ++ (e.additions ++ written (e.index + e.remove) es events)

-- where the last edit ends, or where nothing is edited yet
abbrev pub end_of : ℕ → List Edit → ℕ
end_of from [] = from
end_of from (e ∷ es) = end_of (e.index + e.remove) es

-- all chains of a list were read, and their edits made in it
abbrev pub HasWoven : {R D : Type 0} → Given → (Given → Rules R D) → (old new : List Event) → Subresult → Type 0
HasWoven g rules old new sub = (es : List Edit) × HasGathered g rules None old es sub × (new ≡ edited es old)
