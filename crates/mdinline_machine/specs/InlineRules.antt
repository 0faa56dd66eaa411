-- The rules of the machine of inline text: once all was read, links, images and emphasis take the place of brackets and delimiter runs.
use Rattle.std.specs.Prelude.{◌≡◌, ℕ, Bool, false, List}
use Rattle.markdown_base.specs.declared.event.Event.{Event}
use Rattle.markdown_edits.specs.Edits.{Edit}
use Rattle.markdown_tokenizer.specs.Engine.{IsWellFormed}
use Rattle.markdown_tokenizer.specs.Plain.{HaveNoLinks}
use Rattle.markdown_tokenizer.specs.Rules.{Rules}
use Rattle.markdown_tokenizer.specs.Text.{Given, Text}
use Rattle.mdconstructs_tables.specs.Plans.{Plan, planned_rules}
use Rattle.mdinline_links.specs.LinkEdits.{link_edits}
use Rattle.mdinline_links.specs.Linked.{with_links}
use Rattle.mdinline_text_machine.specs.TextBytes.{TextByte}
use Rattle.mdinline_machine.specs.InlineTable.{begins_inline, follows_inline, inline_starts, inlines}
use Rattle.mdinline_machine.specs.Registered.{registered_plan}

-- the edits that put links, images and emphasis in place of the brackets and the delimiter runs of events
abbrev pub linking_edits : Given → List Event → List Edit
linking_edits g events = link_edits g.options.gfm_strikethrough_single_tilde g.bytes events

-- What the machine promises of its final events: they are some well formed events without links to other events, with links, images and emphasis in
-- place of their brackets and delimiter runs; and none is linked to another
abbrev pub EndsLinked : Given → Text → List Event → Type 0
EndsLinked g text events = (read : List Event) × IsWellFormed g read × HaveNoLinks read × (events ≡ with_links g.options.gfm_strikethrough_single_tilde g.bytes read) × HaveNoLinks events

-- the plan of the machine, by which labels are defined
abbrev pub inline_plan : (defined : List ℕ → Bool) → Plan TextByte Unit Unit
inline_plan defined = registered_plan (inlines defined) begins_inline follows_inline inline_starts tt linking_edits EndsLinked

-- no label is defined
abbrev pub no_labels : List ℕ → Bool
no_labels label = false

-- The rules of a machine whose labels define these
abbrev pub inlines_rules : (defined : List ℕ → Bool) → Given → Rules Unit Unit
inlines_rules defined = planned_rules (inline_plan defined)
