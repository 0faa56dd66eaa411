-- Edits of setext headings. A paragraph's events come before its underline is seen. So at the underline's end three events get other names:
-- the paragraph's enter begins the heading and its text, the paragraph's exit ends the text, and the heading ends with the underline.
use Rattle.std.specs.Prelude.{ℕ, ◌<◌, List, [], ◌∷◌, map, Option, Some, None, slice_get, length}
use Rattle.markdown_base.specs.declared.event.Event.{Event}
use Rattle.markdown_base.specs.declared.event.Name.{Name as EventName}
use Rattle.markdown_base.specs.declared.event.Name.TheVariants.{HeadingSetext, HeadingSetextText, HeadingSetextUnderline}
use Rattle.std.specs.List.{AllByRecursion}
use Rattle.markdown_edits.specs.Edits.{Edit, edit_at, added_after}
use Rattle.markdown_tokenizer.specs.Configuration.{Configuration, Local}
use Rattle.mdconstructs_tables.specs.Chunks.{last_event}

-- the event with another name, and no link
abbrev pub under : Event → EventName → Event
under e name = record { kind = e.kind; name = name; point = e.point; link = None }

-- the event with each of these names, one after another
abbrev pub with_names : List EventName → Option Event → List Event
with_names names None = []
with_names names (Some e) = map (under e) names

-- the edit that puts the event at an index under these names in its place
abbrev pub renaming : List Event → ℕ → List EventName → Edit
renaming events index names = edit_at index 1 (with_names names (slice_get events index))

module _ {R D : Type 0} where
  -- the event at an index will have these names
  abbrev pub renamed : ℕ → List EventName → Configuration R D → Local R D
  renamed index names k = record k.local { map = added_after k.local.map (renaming k.events index names) }

  -- The index of a paragraph's enter is in `end`
  abbrev pub paragraph_begins : Configuration R D → Local R D
  paragraph_begins k = record k.local { tokenize_state = record k.local.tokenize_state { end = last_event k } }

  -- The index of its exit, before an underline, is in `start`
  abbrev pub paragraph_ends : Configuration R D → Local R D
  paragraph_ends k = record k.local { tokenize_state = record k.local.tokenize_state { start = last_event k } }

  -- Before the last exit of an underline: the paragraph's exit comes behind its enter, the edits that wait are before both, and more events
  -- come
  pub record CanEndHeading (k : Configuration R D) : Type 0 where
    pub edits : AllByRecursion (λ (e : Edit). e.index < k.local.tokenize_state.end) k.local.map
    pub order : k.local.tokenize_state.end < k.local.tokenize_state.start
    pub within : k.local.tokenize_state.start < length k.events

  -- The three edits, at the end of the underline
  abbrev pub heading_ends : Configuration R D → Local R D
  heading_ends k =
      let first = renaming k.events k.local.tokenize_state.end (HeadingSetext ∷ HeadingSetextText ∷ []) in
      let second = renaming k.events k.local.tokenize_state.start (HeadingSetextText ∷ []) in
      let third = renaming k.events (last_event k) (HeadingSetextUnderline ∷ HeadingSetext ∷ []) in
      record k.local { map = added_after (added_after (added_after k.local.map first) second) third }
