-- What states of HTML blocks share. The kind of HTML, from 1 to 7, is in `marker_b`; whether a tag is a closing one, in `seen`; and the
-- number of its name, in `size_b`.
use Rattle.std.specs.Prelude.{ℕ, ◌==◌, ◌||◌, ◌&&◌, not, nat_le, Bool, cond}
use Rattle.std.specs.Char.{is_ascii_alphabetic}
use Rattle.markdown_base.specs.declared.event.Name.TheVariants.{CodeIndented, HtmlFlow}
use Rattle.markdown_base.specs.Events.{same_name}
use Rattle.markdown_base.specs.Texts.{html_block_names, html_raw_names}
use Rattle.markdown_tokenizer.specs.Text.{Given}
use Rattle.markdown_tokenizer.specs.Configuration.{Configuration, Local}
use Rattle.markdown_tokenizer.specs.Sight.{Sight}
use Rattle.mdblock_leaf_rows.specs.FlowWrites.{size_becomes, is_byte}
use Rattle.mdblock_leaf_rows.specs.HtmlNames.{no_name, one_byte_more, is_number_in}

-- the bytes of `CDATA[`, by number
abbrev pub cdata_byte : ℕ → ℕ
cdata_byte n = cond (n == 0) 67 (cond (n == 1) 68 (cond (n == 2) 65 (cond (n == 3) 84 (cond (n == 4) 65 91))))

module _ {R D : Type 0} where
  -- the line begins HTML of this kind
  abbrev pub html_becomes : ℕ → Configuration R D → Local R D
  html_becomes kind k = record k.local { tokenize_state = record k.local.tokenize_state { token_1 = HtmlFlow; marker_b = kind } }

  -- a tag is a closing one, or an opening one
  abbrev pub tag_closes : Bool → Configuration R D → Local R D
  tag_closes closes k = record k.local { tokenize_state = record k.local.tokenize_state { seen = closes } }

  -- the name of a tag has one more byte
  abbrev pub name_grows : ℕ → Configuration R D → Local R D
  name_grows byte k = size_becomes (one_byte_more k.local.tokenize_state.size_b byte) k

  -- the name of a tag that ends HTML of kind 1 has one more byte; with a digit it is none of the listed names
  abbrev pub raw_name_grows : ℕ → Configuration R D → Local R D
  raw_name_grows byte k = size_becomes (cond (is_ascii_alphabetic byte) (one_byte_more k.local.tokenize_state.size_b byte) no_name) k

  -- the construct can be turned off
  abbrev pub html_is_on : Given → Sight → Configuration R D → Bool
  html_is_on g s k = g.options.constructs.html_flow

  -- it is HTML of this kind
  abbrev pub html_is : ℕ → Given → Sight → Configuration R D → Bool
  html_is kind g s k = k.local.tokenize_state.marker_b == kind

  -- a blank line ends it: it is of kind 6 or 7
  abbrev pub ends_at_blank_line : Given → Sight → Configuration R D → Bool
  ends_at_blank_line g s k = nat_le 6 k.local.tokenize_state.marker_b

  -- a paragraph goes on over a line that is indented, or that begins HTML of kind 7
  abbrev pub is_passed_over : Given → Sight → Configuration R D → Bool
  is_passed_over g s k = same_name k.local.tokenize_state.token_1 CodeIndented || (same_name k.local.tokenize_state.token_1 HtmlFlow && (k.local.tokenize_state.marker_b == 7))

  -- the tag is a closing one
  abbrev pub closes_tag : Given → Sight → Configuration R D → Bool
  closes_tag g s k = k.local.tokenize_state.seen

  -- its name is one of kind 1, and it is an opening one; or only the former
  abbrev pub opens_raw : Given → Sight → Configuration R D → Bool
  opens_raw g s k = not k.local.tokenize_state.seen && is_number_in html_raw_names k.local.tokenize_state.size_b

  abbrev pub is_raw_tag : Given → Sight → Configuration R D → Bool
  is_raw_tag g s k = is_number_in html_raw_names k.local.tokenize_state.size_b

  -- its name is one of kind 6
  abbrev pub is_block_tag : Given → Sight → Configuration R D → Bool
  is_block_tag g s k = is_number_in html_block_names k.local.tokenize_state.size_b

  -- the byte of `CDATA[` that comes behind so many waits
  abbrev pub at_cdata : Given → Sight → Configuration R D → Bool
  at_cdata g s k = is_byte (cdata_byte k.local.tokenize_state.size_b) s.current
