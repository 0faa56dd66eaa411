-- What the states of leaf blocks share. That is the kind of a line, a mark, and three sizes. A look writes them, and what reads the block sees them.
use Rattle.std.specs.Prelude.{ℕ, ◌==◌, ◌||◌, ◌&&◌, not, nat_lt, nat_le, Bool, false, Option, Some, None}
use Rattle.markdown_base.specs.declared.event.Content.TheVariants.{String as StringContent}
use Rattle.markdown_base.specs.declared.event.Link.{Link}
use Rattle.markdown_base.specs.declared.event.Name.{Name as EventName}
use Rattle.markdown_base.specs.declared.event.Name.TheVariants.{HeadingSetextUnderline, ThematicBreak}
use Rattle.markdown_base.specs.Events.{same_name}
use Rattle.markdown_tokenizer.specs.Text.{Given}
use Rattle.markdown_tokenizer.specs.Configuration.{Configuration, Local}
use Rattle.markdown_tokenizer.specs.Sight.{Sight}
use Rattle.mdconstructs_tables.specs.Breaks.{one_more}

-- the content of an info string is read as a string
abbrev pub string_link : Link
string_link = record { previous = None; next = None; content = StringContent }

-- this byte waits
abbrev pub is_byte : ℕ → Option ℕ → Bool
is_byte n None = false
is_byte n (Some byte) = byte == n

module _ {R D : Type 0} where
  -- The kind of a line, as the name of its block, is in `token_1`
  abbrev pub kind_becomes : EventName → Configuration R D → Local R D
  kind_becomes name k = record k.local { tokenize_state = record k.local.tokenize_state { token_1 = name } }

  abbrev pub kind_is : EventName → Given → Sight → Configuration R D → Bool
  kind_is name g s k = same_name k.local.tokenize_state.token_1 name

  -- The mark of a thematic break or of a fence is in `marker`
  abbrev pub mark_becomes : ℕ → Configuration R D → Local R D
  mark_becomes byte k = record k.local { tokenize_state = record k.local.tokenize_state { marker = byte } }

  -- The columns of a line's indentation are counted in `size_c`
  abbrev pub indent_becomes : ℕ → Configuration R D → Local R D
  indent_becomes n k = record k.local { tokenize_state = record k.local.tokenize_state { size_c = n } }

  abbrev pub indent_grows : Configuration R D → Local R D
  indent_grows k = indent_becomes (one_more k.local.tokenize_state.size_c) k

  -- The marks of a line, or the bytes of a heading's text, are counted in `size_b`
  abbrev pub size_becomes : ℕ → Configuration R D → Local R D
  size_becomes n k = record k.local { tokenize_state = record k.local.tokenize_state { size_b = n } }

  abbrev pub size_grows : Configuration R D → Local R D
  size_grows k = size_becomes (one_more k.local.tokenize_state.size_b) k

  -- What was read so far is counted in `space_or_tab_size`
  abbrev pub count_becomes : ℕ → Configuration R D → Local R D
  count_becomes n k = record k.local { tokenize_state = record k.local.tokenize_state { space_or_tab_size = n } }

  abbrev pub count_grows : Configuration R D → Local R D
  count_grows k = count_becomes (one_more k.local.tokenize_state.space_or_tab_size) k

  -- The text of a heading reaches up to here
  abbrev pub text_grows : Configuration R D → Local R D
  text_grows k =
      let n = one_more k.local.tokenize_state.space_or_tab_size in
      record k.local { tokenize_state = record k.local.tokenize_state { space_or_tab_size = n; size_b = n } }

  -- Number signs end here: they are text, if more signs follow
  abbrev pub signs_end : Configuration R D → Local R D
  signs_end k =
      let n = k.local.tokenize_state.space_or_tab_size in
      record k.local { tokenize_state = record k.local.tokenize_state { size_c = n; space_or_tab_size = one_more n } }

  -- Number signs before these were text
  abbrev pub signs_were_text : Configuration R D → Local R D
  signs_were_text k =
      let s = k.local.tokenize_state in
      record k.local { tokenize_state = record s { size_b = s.size_c; space_or_tab_size = one_more s.space_or_tab_size } }

  -- Each construct can be turned off
  abbrev pub headings_are_on : Given → Sight → Configuration R D → Bool
  headings_are_on g s k = g.options.constructs.heading_atx

  abbrev pub underlines_are_on : Given → Sight → Configuration R D → Bool
  underlines_are_on g s k = g.options.constructs.heading_setext

  abbrev pub breaks_are_on : Given → Sight → Configuration R D → Bool
  breaks_are_on g s k = g.options.constructs.thematic_break

  abbrev pub fences_are_on : Given → Sight → Configuration R D → Bool
  fences_are_on g s k = g.options.constructs.code_fenced

  -- the line is indented by four columns, and is code; without that construct no line is too far to the right
  abbrev pub is_indented : Given → Sight → Configuration R D → Bool
  is_indented g s k = g.options.constructs.code_indented && nat_le 4 k.local.tokenize_state.size_c

  -- a closing fence may be indented further: by three columns, or by any number where no line is too far to the right
  abbrev pub may_be_indented : Given → Sight → Configuration R D → Bool
  may_be_indented g s k = not g.options.constructs.code_indented || nat_lt k.local.tokenize_state.space_or_tab_size 3

  -- fewer than four columns were read
  abbrev pub counts_to_four : Given → Sight → Configuration R D → Bool
  counts_to_four g s k = nat_lt k.local.tokenize_state.space_or_tab_size 4

  -- fewer than the opening fence is indented by
  abbrev pub counts_to_indent : Given → Sight → Configuration R D → Bool
  counts_to_indent g s k = nat_lt k.local.tokenize_state.space_or_tab_size k.local.tokenize_state.size_c

  -- the opening fence is indented, so that lines of code lose as much
  abbrev pub is_stripped : Given → Sight → Configuration R D → Bool
  is_stripped g s k = nat_lt 0 k.local.tokenize_state.size_c

  -- there are fewer than six number signs
  abbrev pub has_room : Given → Sight → Configuration R D → Bool
  has_room g s k = nat_lt k.local.tokenize_state.size_b 6

  -- The line is a thematic break, also if it could be an underline: it is one of at least three dashes
  abbrev pub is_break : Given → Sight → Configuration R D → Bool
  is_break g s k =
      let state = k.local.tokenize_state in
      kind_is ThematicBreak g s k || (g.options.constructs.thematic_break && (kind_is HeadingSetextUnderline g s k && ((state.marker == 45) && nat_le 3 state.size_b)))

  -- there are at least three marks
  abbrev pub has_three : Given → Sight → Configuration R D → Bool
  has_three g s k = nat_le 3 k.local.tokenize_state.size_b

  -- the closing fence has at least as many marks as the opening one
  abbrev pub is_as_long : Given → Sight → Configuration R D → Bool
  is_as_long g s k = nat_le k.local.tokenize_state.size_b k.local.tokenize_state.space_or_tab_size

  -- the mark of the line waits
  abbrev pub at_mark : Given → Sight → Configuration R D → Bool
  at_mark g s k = is_byte k.local.tokenize_state.marker s.current

  -- the mark is a tilde
  abbrev pub is_tilde_fence : Given → Sight → Configuration R D → Bool
  is_tilde_fence g s k = k.local.tokenize_state.marker == 126

  -- the heading has text that was not read yet
  abbrev pub has_text : Given → Sight → Configuration R D → Bool
  has_text g s k = nat_lt 0 k.local.tokenize_state.size_b

  -- the text goes on
  abbrev pub is_in_text : Given → Sight → Configuration R D → Bool
  is_in_text g s k = nat_lt k.local.tokenize_state.space_or_tab_size k.local.tokenize_state.size_b
