-- What spans say that are written at once: code (CommonMark 0.31, 4.4, 4.5, 6.1), raw HTML (4.6, 6.6), autolinks (6.5), literals (GFM 0.29, 6.9), and
-- what images are described by (6.4). By the events in the span, or the spans in it.
use Rattle.std.specs.List.{list_all, list_any, repeat, slice_range}
use Rattle.std.specs.Prelude.{ℕ, ◌-◌, ◌%◌, ◌==◌, ◌&&◌, ◌||◌, not, nat_lt, Bool, false, cond, List, [], ◌∷◌, ◌++◌, drop, length, slice_index}
use Rattle.markdown_base.specs.declared.event.Event.{Event}
use Rattle.markdown_base.specs.declared.event.Name.{Name}
use Rattle.markdown_base.specs.declared.event.Name.TheVariants as name
use Rattle.markdown_base.specs.declared.event.Point.{Point}
use Rattle.markdown_base.specs.Events.{is_enter}
use Rattle.mddocument_link_targets.specs.declared.strings.Reading.{Reading}
use Rattle.mddocument_link_targets.specs.declared.strings.Reading.TheVariants.{AsWritten, Decoded}
use Rattle.mddocument_link_targets.specs.Spans.{enters}
use Rattle.mddocument_link_targets.specs.Strings.{given}
use Rattle.mdhtml_document.specs.declared.names.Inline.{Inline}
use Rattle.mdhtml_document.specs.declared.names.Inline.TheVariants as inline
use Rattle.mdhtml_document.specs.Names.{inline_of}
use Rattle.mdhtml_document.specs.Spans.{Nothing, Span, Spans, events_of}

-- "First, line endings are converted to spaces. If the resulting string both begins and ends with a space character, but does not consist entirely of
-- space characters, a single space character is removed from the front and back" (6.1)
abbrev pub stripped : List ℕ → List ℕ
stripped t =
    cond (nat_lt 1 (length t) && ((slice_index t 0 == 32) && ((slice_index t (length t - 1) == 32) && not (list_all (λ b. b == 32) t)))) (slice_range t 1 (length t - 1)) t

-- the events behind the first line ending: of fenced code, behind the line of its opening fence
abbrev pub behind_first_line : List Event → List Event
behind_first_line [] = []
behind_first_line (e ∷ es) = cond (enters name.LineEnding e) (drop 1 es) (behind_first_line es)

-- the events of the last line
abbrev pub last_line : List Event → List Event
last_line [] = []
last_line (e ∷ es) = cond (list_any (enters name.LineEnding) (e ∷ es)) (last_line es) (e ∷ es)

-- a last line of code has begun that no line ending ends: something is in it, and no closing fence
abbrev pub has_last_line : List Event → Bool
has_last_line es = list_any (λ e. is_enter e.kind) (last_line es) && not (list_any (enters name.CodeFencedFence) (last_line es))

-- the address of an autolink is entered, and is one of email
abbrev pub is_address : Event → Bool
is_address e = enters name.AutolinkEmail e || enters name.AutolinkProtocol e

abbrev pub is_email : List Event → Bool
is_email es = list_any (enters name.AutolinkEmail) es

-- how an innermost span of inline text is read: a literal is its bytes
abbrev pub reading_of : Inline → Reading
reading_of inline.Www = AsWritten
reading_of inline.Email = AsWritten
reading_of inline.Address = AsWritten
reading_of _ = Decoded

-- text without a backslash (92) directly before a pipe (124)
abbrev pub is_escape : ℕ → List ℕ → Bool
is_escape b [] = false
is_escape b (c ∷ cs) = (b == 92) && (c == 124)

abbrev pub unescaped : List ℕ → List ℕ
unescaped [] = []
unescaped (b ∷ bs) = cond (is_escape b bs) (unescaped bs) (b ∷ unescaped bs)

-- Code and HTML in a cell of a table: "It is possible to include a pipe in a cell's content by escaping it, including inside other inline spans" (GFM 0.29,
-- 4.10)
abbrev pub cell_text : (in_cell : Bool) → List ℕ → List ℕ
cell_text in_cell t = cond in_cell (unescaped t) t

-- a document
module _ (bytes : List ℕ) where
  -- the bytes of the innermost span that an event enters, by the events behind that
  abbrev pub bytes_at : Event → List Event → List ℕ
  bytes_at e [] = []
  bytes_at e (f ∷ fs) = slice_range bytes e.point.index f.point.index

  -- Lines of these spans, with this byte for each line ending
  abbrev pub lines_from : Name → (ending : ℕ) → List Event → List ℕ
  lines_from n ending [] = []
  lines_from n ending (e ∷ es) =
      cond (enters name.LineEnding e) (ending ∷ lines_from n ending es) (cond (enters n e) (bytes_at e es ++ lines_from n ending es) (lines_from n ending es))

  abbrev pub code_text : List Event → List ℕ
  code_text es = stripped (lines_from name.CodeTextData 32 es)

  abbrev pub html_text : List Event → List ℕ
  html_text es = lines_from name.HtmlTextData 10 es

  -- the address of an autolink
  abbrev pub autolink_address : List Event → List ℕ
  autolink_address [] = []
  autolink_address (e ∷ es) = cond (is_address e) (bytes_at e es) (autolink_address es)

  -- what an innermost span of inline text says: nothing, if other spans are in it
  abbrev pub said : (enter exit : Event) → Spans → List ℕ
  said e f Nothing = given bytes (reading_of (inline_of e.name)) e.name e.point.index f.point.index
  said e f (Span d g inside behind) = []

  -- What is said of a span within an image's description, by what it is, the events in it, what it says and what is said of the spans in it
  abbrev pub alt_by : Inline → List Event → (said alt : List ℕ) → List ℕ
  alt_by inline.Code es said alt = code_text es
  alt_by inline.Html es said alt = html_text es
  alt_by inline.Autolink es said alt = autolink_address es
  alt_by inline.Ending es said alt = 32 ∷ []
  alt_by inline.Tail es said alt = []
  alt_by _ es said alt = said ++ alt

  -- What an image is described by: "the plain string content" of its label (6.4), by the spans in it
  abbrev pub alt_of : Spans → List ℕ
  alt_of Nothing = []
  alt_of (Span e f inside behind) = alt_by (inline_of e.name) (events_of inside) (said e f inside) (alt_of inside) ++ alt_of behind

-- a document, and the distance of its tab stops
module _ (bytes : List ℕ) (tab : ℕ) where
  -- Bytes between two places, with spaces for the columns of a tab that they begin or end in
  abbrev pub cut : (from to : Point) → List ℕ
  cut from to =
      cond (from.index == to.index) (repeat (to.vs - from.vs) (32 ∷ []))
      (cond (from.vs == 0) (slice_range bytes from.index to.index) (repeat (tab - (from.column - 1) % tab) (32 ∷ []) ++ drop 1 (slice_range bytes from.index to.index))
      ++ repeat to.vs (32 ∷ []))

  abbrev pub cut_at : Event → List Event → List ℕ
  cut_at e [] = []
  cut_at e (f ∷ fs) = cut e.point f.point

  -- lines of a block: these spans, and a line feed for each line ending
  abbrev pub block_lines : Name → List Event → List ℕ
  block_lines n [] = []
  block_lines n (e ∷ es) =
      cond (enters name.LineEnding e || enters name.BlankLineEnding e) (10 ∷ block_lines n es) (cond (enters n e) (cut_at e es ++ block_lines n es) (block_lines n es))

  abbrev pub html_flow : List Event → List ℕ
  html_flow es = block_lines name.HtmlFlowData es

  abbrev pub code_lines : List Event → List ℕ
  code_lines es = block_lines name.CodeFlowChunk es ++ cond (has_last_line es) (10 ∷ []) []
