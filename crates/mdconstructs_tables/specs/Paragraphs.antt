-- The machine of paragraphs: adjacent lines are a paragraph. Each line is a chunk of text, linked to the chunk before. A line may begin
-- with a quote mark.
use Rattle.std.specs.Prelude.{◌≡◌, ℕ, ◌==◌, ◌∷◌, ◌++◌, [], List, Bool, true, false, Option, Some, None, length}
use Rattle.markdown_base.specs.declared.event.Content.TheVariants.{Text as TextContent}
use Rattle.markdown_base.specs.declared.event.Event.{Event}
use Rattle.markdown_base.specs.declared.event.Link.{Link}
use Rattle.markdown_base.specs.declared.event.Name.TheVariants.{Paragraph, Data, BlankLineEnding, BlockQuoteMarker}
use Rattle.markdown_base.specs.declared.state.State.{State}
use Rattle.markdown_base.specs.declared.state.State.TheVariants.{Next, Retry, Ok}
use Rattle.markdown_base.specs.declared.state.TheConstants.Name.{FlowStart, ParagraphLineStart, ParagraphStart, ParagraphInside, TextStart, DataStart}
use Rattle.markdown_tokenizer.specs.Text.{Given}
use Rattle.markdown_tokenizer.specs.Configuration.{Configuration, Local, Choice, TokenizerValue}
use Rattle.markdown_tokenizer.specs.Sight.{Sight, sight_of}
use Rattle.markdown_tokenizer.specs.Calls.{entered}
use Rattle.markdown_edits.specs.Links.{CanLink, IsLinkedEnter, IsEndedBy, content_of}
use Rattle.markdown_tokenizer.specs.Rules.{Rules}
use Rattle.markdown_tokenizer.specs.Engine.{EndsWellFormed}
use Rattle.mdconstructs_tables.specs.Rows.{enter, enter_link, exit, consume, links, write, Rows, row, when, at_byte, StateRows, calls, state, Table}
use Rattle.mdconstructs_tables.specs.Chunks.{is_connected, alone, last_event, chunk_before, connected}
use Rattle.mdconstructs_tables.specs.Knowledge.{knowing_rules}
use Rattle.mdconstructs_tables.specs.LinkShapes.{next_end, AreInShape}
use Rattle.mdconstructs_tables.specs.Tables.{LineByte, line_ending, other, line_byte, is_other, is_any, counts}
use Rattle.mdconstructs_tables.specs.DataRows.{data_start, data_inside}

-- a quote mark, `>`, waits
abbrev pub is_quote_mark : Option ℕ → Bool
is_quote_mark None = false
is_quote_mark (Some byte) = byte == 62

abbrev pub at_quote_mark : {R D : Type 0} → Given → Sight → Configuration R D → Bool
at_quote_mark g s k = is_quote_mark s.current

-- a chunk is read as text
abbrev pub text_link : Link
text_link = record { previous = None; next = None; content = TextContent }

-- a chunk that begins here can be linked to the previous chunk, if there is one in the paragraph
abbrev pub CanLinkChunk : {M R D : Type 0} → TokenizerValue M R D → Type 0
CanLinkChunk t =
    let k = entered Data (Some text_link) (sight_of t).enter_place t.configuration in
    k.local.tokenize_state.connect ≡ true → CanLink k.events (chunk_before k) (last_event k)

-- before a paragraph
abbrev pub flow_start_rows : {R D : Type 0} → (previous current : Option LineByte) → Rows R D
flow_start_rows _ None = row [] Ok
flow_start_rows _ (Some line_ending) = row (enter BlankLineEnding ∷ consume ∷ exit BlankLineEnding ∷ []) (Next FlowStart)
flow_start_rows _ (Some other) = row (enter Paragraph ∷ write alone ∷ []) (Retry ParagraphLineStart)

abbrev pub flow_start : {R D : Type 0} → StateRows LineByte R D
flow_start = state FlowStart flow_start_rows [] (calls 4 3)

-- before a line of a paragraph, which ends at a blank one
abbrev pub paragraph_line_start_rows : {R D : Type 0} → (previous current : Option LineByte) → Rows R D
paragraph_line_start_rows _ None = row (exit Paragraph ∷ []) (Retry FlowStart)
paragraph_line_start_rows _ (Some line_ending) = row (exit Paragraph ∷ []) (Retry FlowStart)
paragraph_line_start_rows _ (Some other) =
    when at_quote_mark (row (enter BlockQuoteMarker ∷ consume ∷ exit BlockQuoteMarker ∷ []) (Next ParagraphStart)) (row [] (Retry ParagraphStart))

abbrev pub paragraph_line_start : {R D : Type 0} → StateRows LineByte R D
paragraph_line_start = record (state ParagraphLineStart paragraph_line_start_rows (Paragraph ∷ []) (calls 4 3)) { begun = at_byte is_other }

-- before the chunk of a line
abbrev pub paragraph_start_rows : {R D : Type 0} → (previous current : Option LineByte) → Rows R D
paragraph_start_rows _ None = row [] (Retry ParagraphLineStart)
paragraph_start_rows _ (Some _) =
    when is_connected (row (enter_link Data text_link ∷ links chunk_before last_event ∷ write connected ∷ []) (Retry ParagraphInside))
    (row (enter_link Data text_link ∷ write connected ∷ []) (Retry ParagraphInside))

abbrev pub paragraph_start : {R D : Type 0} → StateRows LineByte R D
paragraph_start = record (state ParagraphStart paragraph_start_rows (Paragraph ∷ []) (calls 4 3)) { begun = at_byte is_other }

-- in a chunk, which ends with its line ending
abbrev pub paragraph_inside_rows : {R D : Type 0} → (previous current : Option LineByte) → Rows R D
paragraph_inside_rows _ None = row (exit Data ∷ []) (Retry ParagraphLineStart)
paragraph_inside_rows _ (Some line_ending) = row (consume ∷ exit Data ∷ []) (Next ParagraphLineStart)
paragraph_inside_rows _ (Some other) = row (consume ∷ []) (Next ParagraphInside)

abbrev pub paragraph_inside : {R D : Type 0} → StateRows LineByte R D
paragraph_inside = record (state ParagraphInside paragraph_inside_rows (Paragraph ∷ Data ∷ []) (calls 4 3)) { begun = at_byte is_any }

-- before text, which is read as data
abbrev pub text_start_rows : (previous current : Option LineByte) → Rows Unit Unit
text_start_rows _ _ = row [] (Retry DataStart)

abbrev pub text_start : StateRows LineByte Unit Unit
text_start = state TextStart text_start_rows [] (calls 2 2)

abbrev pub paragraphs : Table LineByte Unit Unit
paragraphs = record {
  class = line_byte;
  first = counts;
  states = flow_start ∷ paragraph_line_start ∷ paragraph_start ∷ paragraph_inside ∷ text_start ∷ data_start ∷ data_inside ∷ [];
  starts = FlowStart ∷ TextStart ∷ [];
}

-- An event begins a chunk that has no next chunk yet
pub record BeginsChunk (e : Event) : Type 0 where
  pub linked : IsLinkedEnter e
  pub named : e.name ≡ Data
  pub text : content_of e ≡ Some TextContent
  pub last : next_end e ≡ None

-- The last event, at this index, begins a chunk
pub record EndsWithChunk (events : List Event) (index : ℕ) : Type 0 where
  pub before : List Event
  pub first : Event
  pub events_are : events ≡ before ++ first ∷ []
  pub index_is : index ≡ length before
  pub begins : BeginsChunk first

-- There is a chunk at this index: it begins there, and ends with the next event
pub record HasChunk (events : List Event) (index : ℕ) : Type 0 where
  pub before : List Event
  pub first : Event
  pub last : Event
  pub after : List Event
  pub events_are : events ≡ before ++ first ∷ last ∷ after
  pub index_is : index ≡ length before
  pub begins : BeginsChunk first
  pub ended : IsEndedBy first last

-- inside a chunk, the last event begins it; elsewhere the previous chunk, if there is one, is at the index that is kept for it
abbrev pub KnowsChunk : (inside : Bool) → List Event → Local Unit Unit → Type 0
KnowsChunk true events local = EndsWithChunk events local.tokenize_state.start
KnowsChunk false events local = local.tokenize_state.connect ≡ true → HasChunk events local.tokenize_state.start

-- the state reads a chunk
abbrev pub is_inside : State → Bool
is_inside (Next name) = name.number == ParagraphInside.number
is_inside (Retry name) = name.number == ParagraphInside.number
is_inside _ = false

-- What the machine knows that its table does not say: the index of the previous chunk; the links of all chunks are in shape; no resolver is
-- registered, and no edit waits
pub record Knows (inside : Bool) (events : List Event) (local : Local Unit Unit) : Type 0 where
  pub chunk : KnowsChunk inside events local
  pub shape : AreInShape events
  pub resolvers : local.resolvers ≡ []
  pub edits : local.map ≡ []

-- the same, at a state returned; the machine makes no choice
abbrev pub knows_chunk : List Event → Local Unit Unit → List Choice → State → Type 0
knows_chunk events local [] state = Knows (is_inside state) events local
knows_chunk events local (choice ∷ choices) state = ⊥

abbrev pub paragraphs_rules : Given → Rules Unit Unit
paragraphs_rules = knowing_rules paragraphs knows_chunk EndsWellFormed
