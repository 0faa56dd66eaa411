-- The edits that put links, images and emphasis among events: one for each delimiter run, if no bracket is among them, and else one for all.
use Rattle.std.specs.Prelude.{◌≡◌, ℕ, ◌||◌, Bool, false, cond, List, [], ◌∷◌, length}
use Rattle.markdown_base.specs.declared.event.Event.{Event}
use Rattle.markdown_base.specs.declared.event.Name.{Name}
use Rattle.markdown_base.specs.declared.event.Name.TheVariants.{AttentionSequence, LabelEnd, LabelImage, LabelLink, LabelMarker}
use Rattle.markdown_base.specs.Events.{IsBalanced, same_name}
use Rattle.markdown_edits.specs.Edits.{Edit, edit_at, AreDisjoint}
use Rattle.markdown_edits.specs.Edited.{edited}
use Rattle.markdown_tokenizer.specs.Plain.{HaveNoLinks}
use Rattle.mdinline_emphasis.specs.Emphasis.{paired}
use Rattle.mdinline_emphasis.specs.RunEdits.{edits_of}
use Rattle.mdinline_emphasis.specs.Runs.{runs_in}
use Rattle.mdinline_links.specs.Linked.{with_links}

-- a name is of a bracket, of an end or of a `]` alone
abbrev pub is_of_bracket : Name → Bool
is_of_bracket name = same_name name LabelLink || (same_name name LabelImage || (same_name name LabelEnd || same_name name LabelMarker))

-- an event is of one of them or of an attention sequence
abbrev pub is_mark : Event → Bool
is_mark e = same_name e.name AttentionSequence || is_of_bracket e.name

-- one of them is among events
abbrev pub has_brackets : List Event → Bool
has_brackets [] = false
has_brackets (e ∷ es) = is_of_bracket e.name || has_brackets es

abbrev pub link_edits : (one_tilde : Bool) → List ℕ → List Event → List Edit
link_edits one_tilde bytes events = cond (has_brackets events) (edit_at 0 (length events) (with_links one_tilde bytes events) ∷ []) (edits_of (paired (runs_in one_tilde bytes events)))

-- In a balanced list without links the edits can be made: links, images and emphasis take the place of brackets and runs, and the list stays
-- balanced and without links
abbrev pub LinksCanBeMade : Type 0
LinksCanBeMade = (one_tilde : Bool) (bytes : List ℕ) (events : List Event) → IsBalanced events → HaveNoLinks events
    → let edits = link_edits one_tilde bytes events in
    AreDisjoint 0 edits (length events) × (edited edits events ≡ with_links one_tilde bytes events) × IsBalanced (with_links one_tilde bytes events) × HaveNoLinks (with_links one_tilde bytes events)
