-- Rows that read raw HTML between marks.
use Rattle.std.specs.Prelude.{ℕ, ◌-◌, ◌^◌, ◌==◌, ◌&&◌, ◌||◌, nat_le, nat_lt, Bool, cond, false, List, [], ◌∷◌, Option, Some, None, codes}
use Rattle.std.specs.Char.{is_ascii_alphabetic}
use Rattle.markdown_base.specs.declared.event.Name.TheVariants.{HtmlText, HtmlTextData, LineEnding, SpaceOrTab}
use Rattle.markdown_base.specs.declared.state.State.TheVariants.{Next, Retry, Nok}
use Rattle.markdown_base.specs.declared.state.TheConstants.Name.{TextBeforeData, HtmlTextDeclarationOpen, HtmlTextCdataOpenInside, HtmlTextCommentOpenInside}
use Rattle.mdinline_constructs.specs.declared.names.TheConstants.{HtmlTextMarkClose, HtmlTextMarkInside, HtmlTextMarkLine, HtmlTextMarkOpen, HtmlTextMarkStart, HtmlTextMarkWhite}
use Rattle.markdown_tokenizer.specs.Text.{Given}
use Rattle.markdown_tokenizer.specs.Configuration.{Configuration, Local}
use Rattle.markdown_tokenizer.specs.Sight.{Sight}
use Rattle.mdconstructs_tables.specs.Breaks.{is_white}
use Rattle.mdconstructs_tables.specs.Rows.{enter, exit, consume, write, writes, Rows, row, when, at_bytes, StateRows, state}
use Rattle.mdconstructs_tables.specs.Numbers.{Price, by_left}
use Rattle.mdinline_text_machine.specs.Bytes.{is_greater_than, has_byte_at, passes}
use Rattle.mdinline_text_machine.specs.Construct.{Found, Construct, if_option, tried}
use Rattle.mdinline_text_machine.specs.TextBytes.{TextByte, line_feed, is_less_class}
use Rattle.mdinline_text_machine.specs.TextCosts.{text_cost}
use Rattle.mdinline_text_machine.specs.TextSizes.{size_b_is, size_b_grows}
use Rattle.mdinline_constructs.specs.HtmlTextRows.{html_ends, html_goes_on, html_rows, html_state, no_html, sees}
use Rattle.mdinline_constructs.specs.HtmlMarked.{html_mark_grammar}

-- up to where a kind does not end whose look stops: up to the blank line that stops it, or anywhere
abbrev pub stopped_at : (current : Option ℕ) → (index : ℕ) → ℕ
stopped_at None index = 2 ^ 64 - 1
stopped_at (Some b) index = index

-- the byte of which closing marks have so many: `-`, `?`, `]`; and NUL for declarations, whose closing mark has none
abbrev pub is_mark_byte : ℕ → Bool
is_mark_byte byte = (byte == 0) || ((byte == 45) || ((byte == 63) || (byte == 93)))

-- The kinds, by what their closing mark is: so many of a byte, and `>`. How many of them are directly before is counted.
module _ {R D : Type 0} where
  -- raw HTML is open, up to `>` behind so many of a byte, of which these were read
  abbrev pub closed_by : (byte times read : ℕ) → Configuration R D → Local R D
  closed_by byte times read k = record k.local { tokenize_state = record k.local.tokenize_state { marker = byte; size_c = times; size_b = read } }

  -- the mark ends here
  abbrev pub mark_ends : Given → Sight → Configuration R D → Bool
  mark_ends g s k = passes is_greater_than s.current && nat_le k.local.tokenize_state.size_c k.local.tokenize_state.size_b

  -- its byte waits
  abbrev pub in_mark : Given → Sight → Configuration R D → Bool
  in_mark g s k = passes (λ byte. is_mark_byte byte && (byte == k.local.tokenize_state.marker)) s.current

  -- the byte of `CDATA[` that comes behind so many waits, or its last byte
  abbrev pub in_cdata_mark : Given → Sight → Configuration R D → Bool
  in_cdata_mark g s k = has_byte_at (codes "CDATA") k.local.tokenize_state.size_b (λ byte. passes (λ b. b == byte) s.current)

  abbrev pub ends_cdata_mark : Given → Sight → Configuration R D → Bool
  ends_cdata_mark g s k = (k.local.tokenize_state.size_b == 5) && passes (λ b. b == 91) s.current

  -- ---- What is remembered of looks that failed: for each kind an index of the document. No mark of the kind that begins before it ends, in
  -- what is left of the text.
  abbrev pub no_comment : Given → Sight → Configuration R D → Bool
  no_comment g s k = nat_lt s.point.index k.local.tokenize_state.start

  abbrev pub no_instruction : Given → Sight → Configuration R D → Bool
  no_instruction g s k = nat_lt s.point.index k.local.tokenize_state.end

  abbrev pub no_declaration : Given → Sight → Configuration R D → Bool
  no_declaration g s k = nat_lt s.point.index k.local.tokenize_state.space_or_tab_min

  abbrev pub no_cdata : Given → Sight → Configuration R D → Bool
  no_cdata g s k = nat_lt s.point.index k.local.tokenize_state.space_or_tab_max

  -- the kind of this closing byte does not end up to an index of the document
  abbrev pub none_upto : (byte index : ℕ) → Configuration R D → Local R D
  none_upto byte index k =
      record k.local {
        tokenize_state = record k.local.tokenize_state {
          start = cond (byte == 45) index k.local.tokenize_state.start;
          end = cond (byte == 63) index k.local.tokenize_state.end;
          space_or_tab_min = cond (byte == 0) index k.local.tokenize_state.space_or_tab_min;
          space_or_tab_max = cond (byte == 93) index k.local.tokenize_state.space_or_tab_max;
        };
      }

  -- the look for the kind that is open stops
  abbrev pub look_fails : Sight → Configuration R D → Local R D
  look_fails s k = none_upto k.local.tokenize_state.marker (stopped_at s.current s.point.index) k

  abbrev pub mark_fails : Rows R D
  mark_fails = row (writes look_fails ∷ []) Nok

  -- what a state behind an opening mark does: at the end, at a line ending, and at any other byte
  abbrev pub look_rows : (ending others : Rows R D) → (previous current : Option TextByte) → Rows R D
  look_rows ending others _ None = mark_fails
  look_rows ending others _ (Some line_feed) = ending
  look_rows ending others _ (Some _) = others

  -- Raw HTML between marks: it begins with `<`
  abbrev pub mark_start_rows : (previous current : Option TextByte) → Rows R D
  mark_start_rows _ _ = row (enter HtmlText ∷ enter HtmlTextData ∷ consume ∷ []) (Next HtmlTextMarkOpen)

  -- its state: it is called only at `<`, and no span is open yet
  abbrev pub mark_start : StateRows TextByte R D
  mark_start =
      tried (record (state HtmlTextMarkStart mark_start_rows [] (text_cost (by_left 0 2 1))) { called = at_bytes is_less_class })

  -- behind `<`: an instruction, if one may end, or one of the others
  abbrev pub mark_open_rows : (previous current : Option TextByte) → Rows R D
  mark_open_rows =
      html_rows no_html
      (when (sees (λ b. b == 63)) (when no_instruction no_html (row (write (closed_by 63 1 0) ∷ consume ∷ []) (Next HtmlTextMarkInside)))
      (when (sees (λ b. b == 33)) (html_goes_on HtmlTextDeclarationOpen) no_html))

  abbrev pub mark_open : StateRows TextByte R D
  mark_open = html_state HtmlTextMarkOpen mark_open_rows

  -- behind `<!`: a declaration, or the mark of a comment or of CDATA
  abbrev pub declaration_open_rows : (previous current : Option TextByte) → Rows R D
  declaration_open_rows =
      html_rows no_html
      (when (sees is_ascii_alphabetic) (when no_declaration no_html (row (write (closed_by 0 0 0) ∷ consume ∷ []) (Next HtmlTextMarkInside)))
      (when (sees (λ b. b == 45)) (html_goes_on HtmlTextCommentOpenInside)
      (when (sees (λ b. b == 91)) (row (write (size_b_is 0) ∷ consume ∷ []) (Next HtmlTextCdataOpenInside)) no_html)))

  abbrev pub declaration_open : StateRows TextByte R D
  declaration_open = html_state HtmlTextDeclarationOpen declaration_open_rows

  -- behind `<!-`: the mark of a comment. Its two `-` may be those of the closing mark
  abbrev pub comment_open_rows : (previous current : Option TextByte) → Rows R D
  comment_open_rows = html_rows no_html (when (sees (λ b. b == 45)) (when no_comment no_html (row (write (closed_by 45 2 2) ∷ consume ∷ []) (Next HtmlTextMarkClose))) no_html)

  abbrev pub comment_open : StateRows TextByte R D
  comment_open = html_state HtmlTextCommentOpenInside comment_open_rows

  -- behind `<![`: `CDATA[`
  abbrev pub cdata_open_rows : (previous current : Option TextByte) → Rows R D
  cdata_open_rows =
      html_rows no_html
      (when in_cdata_mark (row (write size_b_grows ∷ consume ∷ []) (Next HtmlTextCdataOpenInside))
      (when ends_cdata_mark (when no_cdata no_html (row (write (closed_by 93 2 0) ∷ consume ∷ []) (Next HtmlTextMarkInside))) no_html))

  abbrev pub cdata_open : StateRows TextByte R D
  cdata_open = html_state HtmlTextCdataOpenInside cdata_open_rows

  -- a line ending is read, and its closing mark is counted anew
  abbrev pub mark_line_ends : Rows R D
  mark_line_ends = row (exit HtmlTextData ∷ enter LineEnding ∷ consume ∷ exit LineEnding ∷ write (size_b_is 0) ∷ []) (Next HtmlTextMarkLine)

  -- behind the opening mark: the end, a byte of the closing mark, or any other, as these rows say; and at a line feed data ends
  abbrev pub inside_rows : (others : Rows R D) → (previous current : Option TextByte) → Rows R D
  inside_rows others = look_rows mark_line_ends (when mark_ends html_ends (when in_mark (row (write size_b_grows ∷ consume ∷ []) (Next HtmlTextMarkClose)) others))

  -- where no byte of the closing mark is directly before, any other byte is read, and nothing is written
  abbrev pub mark_inside : StateRows TextByte R D
  mark_inside = html_state HtmlTextMarkInside (inside_rows (html_goes_on HtmlTextMarkInside))

  -- behind some of them nothing of the closing mark is before any other byte
  abbrev pub mark_close : StateRows TextByte R D
  mark_close = html_state HtmlTextMarkClose (inside_rows (row (write (size_b_is 0) ∷ consume ∷ []) (Next HtmlTextMarkInside)))

  -- behind a line feed white space or data begins. A line feed would make a blank line
  abbrev pub mark_line_rows : (previous current : Option TextByte) → Rows R D
  mark_line_rows = look_rows mark_fails (when (sees is_white) (row (enter SpaceOrTab ∷ consume ∷ []) (Next HtmlTextMarkWhite)) (row (enter HtmlTextData ∷ []) (Retry HtmlTextMarkInside)))

  -- its state: raw HTML is open
  abbrev pub mark_line : StateRows TextByte R D
  mark_line = tried (state HtmlTextMarkLine mark_line_rows (HtmlText ∷ []) (text_cost (by_left 0 2 2)))

  -- white space at the start of a line ends where data begins
  abbrev pub mark_white_rows : (previous current : Option TextByte) → Rows R D
  mark_white_rows = look_rows mark_fails (when (sees is_white) (html_goes_on HtmlTextMarkWhite) (row (exit SpaceOrTab ∷ enter HtmlTextData ∷ []) (Retry HtmlTextMarkInside)))

  -- its state: raw HTML and white space are open
  abbrev pub mark_white : StateRows TextByte R D
  mark_white = tried (state HtmlTextMarkWhite mark_white_rows (HtmlText ∷ SpaceOrTab ∷ []) (text_cost (by_left 0 2 2)))

-- What its states cost: each reads a byte or ends, or begins data behind a line ending
abbrev pub html_mark_prices : List (Price TextByte)
html_mark_prices = by_left 0 2 1 ∷ by_left 0 2 1 ∷ by_left 0 2 1 ∷ by_left 0 2 1 ∷ by_left 0 2 1 ∷ by_left 0 2 1 ∷ by_left 0 2 1 ∷ by_left 0 2 2 ∷ by_left 0 2 2 ∷ []

-- How raw HTML between marks is read
abbrev pub html_marks : {R D : Type 0} → Construct Found TextByte R D
html_marks = record {
  grammar = html_mark_grammar;
  begins = is_less_class;
  allowed = if_option html_mark_grammar;
  start = HtmlTextMarkStart;
  otherwise = TextBeforeData;
  states = mark_start ∷ mark_open ∷ declaration_open ∷ comment_open ∷ cdata_open ∷ mark_inside ∷ mark_close ∷ mark_line ∷ mark_white ∷ [];
  begun = λ name w. name.number == HtmlTextMarkStart.number;
  follows = λ name. false;
}
