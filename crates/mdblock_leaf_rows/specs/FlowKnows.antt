-- What the machine of leaf blocks knows beside its table, and its rules. It knows where it is in a paragraph, whose chunks are in shape; which
-- events get other names by the edits that wait, those of setext headings; that no resolver waits; and that a look leaves all of that as it
-- is.
use Rattle.std.specs.Prelude.{◌≡◌, ℕ, ◌+◌, List, [], ◌∷◌, ◌++◌, map, Bool, true, cond, length, Some, IfSome}
use Rattle.markdown_base.specs.declared.event.Event.{Event}
use Rattle.markdown_base.specs.declared.event.Kind.TheVariants.{Enter, Exit}
use Rattle.markdown_base.specs.declared.event.Name.{Name as EventName}
use Rattle.markdown_base.specs.declared.event.Name.TheVariants.{Data, HeadingSetextUnderline, HeadingSetextUnderlineSequence as Sequence, Paragraph, SpaceOrTab}
use Rattle.markdown_base.specs.declared.state.Name.{Name}
use Rattle.markdown_base.specs.declared.state.State.{State}
use Rattle.markdown_base.specs.declared.state.State.TheVariants.{Next, Retry}
use Rattle.markdown_base.specs.declared.state.TheConstants.Name.{FlowBlankLineBefore, FlowBeforeThematicBreak, FlowBeforeHeadingSetext, FlowBeforeHeadingAtx, CodeIndentedFurtherStart, FlowBeforeRaw, RawFlowCloseStart, RawFlowBeforeSequenceClose, RawFlowSequenceClose, RawFlowAfterSequenceClose, HtmlFlowOpen, HtmlFlowDeclarationOpen, HtmlFlowCommentOpenInside, HtmlFlowCdataOpenInside, HtmlFlowTagCloseStart, HtmlFlowTagName, HtmlFlowBasicSelfClosing, HtmlFlowCompleteClosingTagAfter, HtmlFlowCompleteEnd, HtmlFlowCompleteAttributeNameBefore, HtmlFlowCompleteAttributeName, HtmlFlowCompleteAttributeNameAfter, HtmlFlowCompleteAttributeValueBefore, HtmlFlowCompleteAttributeValueQuoted, HtmlFlowCompleteAttributeValueQuotedAfter, HtmlFlowCompleteAttributeValueUnquoted, HtmlFlowCompleteAfter, HtmlFlowBlankLineBefore, ParagraphStart, ParagraphInside, ParagraphLineStart, HeadingSetextStart, HeadingSetextBefore, HeadingSetextInside, HeadingSetextAfter}
use Rattle.mdblock_leaf_rows.specs.declared.names.TheConstants.{ParagraphLookStart, HeadingSetextLookAfter, HeadingAtxLookStart, HeadingAtxLookText, HeadingAtxLookBlank, HeadingAtxLookSigns, HeadingAtxLookAfter, RawFlowLookInfo, HtmlFlowBlankLineInside, ParagraphLineAfter, HeadingSetextTextAfter}
use Rattle.markdown_edits.specs.Edits.{Edit}
use Rattle.markdown_base.specs.OpenNames.{names_after_all}
use Rattle.markdown_tokenizer.specs.declared.waiting.AttemptKind.TheVariants.{Check}
use Rattle.markdown_tokenizer.specs.Text.{Given}
use Rattle.markdown_tokenizer.specs.Configuration.{Local, Choice}
use Rattle.markdown_tokenizer.specs.Engine.{EndsWellFormed}
use Rattle.markdown_tokenizer.specs.Rules.{Rules}
use Rattle.mdconstructs_tables.specs.Knowledge.{knowing_rules}
use Rattle.mdconstructs_tables.specs.LinkShapes.{AreInShape}
use Rattle.mdconstructs_tables.specs.Quiet.{is_one_of}
use Rattle.mdconstructs_tables.specs.Paragraphs.{EndsWithChunk, HasChunk}
use Rattle.mdblock_leaf_rows.specs.FlowTable.{flow}
use Rattle.mdblock_leaf_rows.specs.Renamings.{Told, kept, AreTold, SameOpen}

-- the states of looks
abbrev pub looks : List Name
looks =
    FlowBlankLineBefore ∷ ParagraphLookStart ∷ FlowBeforeThematicBreak ∷ FlowBeforeHeadingSetext ∷ HeadingSetextLookAfter
    ∷ FlowBeforeHeadingAtx ∷ HeadingAtxLookStart ∷ HeadingAtxLookText ∷ HeadingAtxLookBlank ∷ HeadingAtxLookSigns ∷ HeadingAtxLookAfter
    ∷ CodeIndentedFurtherStart
    ∷ FlowBeforeRaw ∷ RawFlowLookInfo ∷ RawFlowCloseStart ∷ RawFlowBeforeSequenceClose ∷ RawFlowSequenceClose ∷ RawFlowAfterSequenceClose
    ∷ HtmlFlowOpen ∷ HtmlFlowDeclarationOpen ∷ HtmlFlowCommentOpenInside ∷ HtmlFlowCdataOpenInside ∷ HtmlFlowTagCloseStart ∷ HtmlFlowTagName ∷ HtmlFlowBasicSelfClosing ∷ HtmlFlowCompleteClosingTagAfter
    ∷ HtmlFlowCompleteEnd ∷ HtmlFlowCompleteAttributeNameBefore ∷ HtmlFlowCompleteAttributeName ∷ HtmlFlowCompleteAttributeNameAfter ∷ HtmlFlowCompleteAttributeValueBefore ∷ HtmlFlowCompleteAttributeValueQuoted ∷ HtmlFlowCompleteAttributeValueQuotedAfter ∷ HtmlFlowCompleteAttributeValueUnquoted
    ∷ HtmlFlowCompleteAfter ∷ HtmlFlowBlankLineBefore ∷ HtmlFlowBlankLineInside ∷ []

-- the states in a chunk of a paragraph
abbrev pub chunks : List Name
chunks = ParagraphInside ∷ ParagraphLineStart ∷ ParagraphLineAfter ∷ []

-- Where a reading is: in a chunk of a paragraph; before one; behind a paragraph that will be a heading, where these names of its underline are
-- open, the innermost first; or elsewhere
pub data Place : Type 0 where
  in_chunk : Place
  before_chunk : Place
  in_underline : List EventName → Place
  elsewhere : Place

abbrev pub underline_at : Name → Place
underline_at name =
    cond (is_one_of (HeadingSetextTextAfter ∷ HeadingSetextStart ∷ []) name) (in_underline [])
    (cond (is_one_of (HeadingSetextBefore ∷ []) name) (in_underline (SpaceOrTab ∷ HeadingSetextUnderline ∷ []))
    (cond (is_one_of (HeadingSetextInside ∷ []) name) (in_underline (Sequence ∷ HeadingSetextUnderline ∷ []))
    (cond (is_one_of (HeadingSetextAfter ∷ []) name) (in_underline (HeadingSetextUnderline ∷ [])) elsewhere)))

abbrev pub place_at : Name → Place
place_at name = cond (is_one_of chunks name) in_chunk (cond (is_one_of (ParagraphStart ∷ []) name) before_chunk (underline_at name))

-- the same of a state returned
abbrev pub place_of : State → Place
place_of (Next name) = place_at name
place_of (Retry name) = place_at name
place_of _ = elsewhere

-- a state returned in a look: one of its states, or its end
abbrev pub is_looking : State → Bool
is_looking (Next name) = is_one_of looks name
is_looking (Retry name) = is_one_of looks name
is_looking _ = true

-- in a chunk, the last event begins it; before one, the previous chunk of the paragraph is where it was noted, if there is one
abbrev pub KnowsChunk : Place → List Event → Local Unit Unit → Type 0
KnowsChunk in_chunk events local = EndsWithChunk events local.tokenize_state.start
KnowsChunk before_chunk events local = local.tokenize_state.connect ≡ true → HasChunk events local.tokenize_state.start
KnowsChunk (in_underline names) events local = Unit {0}
KnowsChunk elsewhere events local = Unit {0}

-- behind these events these names are open, the innermost first, whatever was open before
abbrev pub LeaveOpen : List EventName → List Event → Type 0
LeaveOpen names events = (before : List EventName) → names_after_all (Some before) events ≡ Some (names ++ before)

-- A paragraph is read: its enter is at this index, these names are open behind that, and the edits that wait are all before it
pub record IsInParagraph (names : List EventName) (events : List Event) (edits : List Edit) (index : ℕ) : Type 0 where
  pub front : List Told
  pub enter : Event
  pub chunks : List Event
  pub told : AreTold (front ++ map kept (enter ∷ chunks)) events edits
  pub same : SameOpen front
  pub index_is : index ≡ length front
  pub enters : enter.kind ≡ Enter
  pub named : enter.name ≡ Paragraph
  pub opened : LeaveOpen names chunks

-- The underline of a heading is read: the paragraph before it has its enter and its exit at these indices, and these names are open behind
-- it. The edits that wait are all before the paragraph
pub record IsBehindParagraph (names : List EventName) (events : List Event) (edits : List Edit) (first last : ℕ) : Type 0 where
  pub front : List Told
  pub enter : Event
  pub chunks : List Event
  pub exit : Event
  pub underline : List Event
  pub told : AreTold (front ++ map kept (enter ∷ (chunks ++ exit ∷ underline))) events edits
  pub same : SameOpen front
  pub first_is : first ≡ length front
  pub last_is : last ≡ length front + 1 + length chunks
  pub enters : enter.kind ≡ Enter
  pub named : enter.name ≡ Paragraph
  pub exits : exit.kind ≡ Exit
  pub closes : exit.name ≡ Paragraph
  pub text : LeaveOpen [] chunks
  pub opened : LeaveOpen names underline

-- the edits that wait give events other names, so that as many spans are open with them as without
abbrev pub RenameSpans : List Event → List Edit → Type 0
RenameSpans events edits = (ts : List Told) × AreTold ts events edits × SameOpen ts

-- what is known of the edits that wait
abbrev pub KnowsEdits : Place → List Event → Local Unit Unit → Type 0
KnowsEdits in_chunk events local = IsInParagraph (Data ∷ []) events local.map local.tokenize_state.end
KnowsEdits before_chunk events local = IsInParagraph [] events local.map local.tokenize_state.end
KnowsEdits (in_underline names) events local = IsBehindParagraph names events local.map local.tokenize_state.end local.tokenize_state.start
KnowsEdits elsewhere events local = RenameSpans events local.map

-- What is known at a place
pub record Knows (place : Place) (events : List Event) (local : Local Unit Unit) : Type 0 where
  pub chunk : KnowsChunk place events local
  pub shape : AreInShape events
  pub resolvers : local.resolvers ≡ []
  pub edits : KnowsEdits place events local

-- A look waits to go back: it saved all events that there are, and goes on at one place, whatever it comes to
pub record IsLook (events : List Event) (c : Choice) : Type 0 where
  pub checks : c.kind ≡ Check
  pub saved : IfSome c.saved (λ saved. saved.events ≡ length events)
  pub same : place_of c.ok ≡ place_of c.nok

-- What is known at a state returned: in a look, what is known where it goes back to
abbrev pub knows_flow : List Event → Local Unit Unit → List Choice → State → Type 0
knows_flow events local [] state = Knows (place_of state) events local
knows_flow events local (c ∷ []) state = (is_looking state ≡ true) × IsLook events c × Knows (place_of c.ok) events local
knows_flow events local (c ∷ d ∷ choices) state = ⊥

-- The rules: the table's, with what is known. It promises that its final events are well formed
abbrev pub flow_rules : Given → Rules Unit Unit
flow_rules = knowing_rules flow knows_flow EndsWellFormed
