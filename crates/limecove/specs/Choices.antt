-- The machine, tab size, cut and constructs that options choose, given as numbers.
use Rattle.std.specs.Prelude.{ℕ, ◌&&◌, ◌||◌, not, true, Bool, List, Option, Some, None, Result, cond, nat_eq, nat_lt, bit_and}
use Rattle.std.specs.declared.result.Result.TheVariants.{Ok, Err}
use Rattle.std.specs.Option.{option_map_or}
use Rattle.markdown.specs.declared.configuration.Constructs.{Constructs}
use Rattle.markdown.specs.declared.configuration.ParseOptions.{ParseOptions}
use Rattle.markdown.specs.Engine.{given_by}
use Rattle.markdown.specs.Presets.{default_constructs}
use Rattle.markdown.specs.Text.{Given}
use Rattle.mdconstructs.specs.declared.choice.Choice.{Choice}
use Rattle.mdconstructs.specs.declared.choice.Which.{Which}
use Rattle.mdconstructs.specs.declared.choice.Which.TheVariants.{Lines, Paragraphs, Peek, Deep, Back, Save, Text, Flow, Document}
use Rattle.mdconstructs.specs.Choices.{choice_together}
use Rattle.mdconstructs.specs.Documents.{options_with}
use Rattle.limecove.specs.declared.choose.HtmlOptions.{HtmlOptions}
use Rattle.limecove.specs.declared.choose.Options.{Options}
use Rattle.limecove.specs.declared.choose.TextOptions.{TextOptions}

-- the machine of a number
abbrev pub machine_of : ℕ → Option Which
machine_of n =
    cond (nat_eq n 0) (Some Lines)
    (cond (nat_eq n 1) (Some Paragraphs)
    (cond (nat_eq n 2) (Some Peek) (cond (nat_eq n 3) (Some Deep) (cond (nat_eq n 4) (Some Back) (cond (nat_eq n 5) (Some Save) (cond (nat_eq n 6) (Some Text) (cond (nat_eq n 7) (Some Flow) (cond (nat_eq n 8) (Some Document) None))))))))

-- the tab size of a number: itself, from 1 to 16; 0 is 4
abbrev pub tab_of : ℕ → Option ℕ
tab_of n = cond (nat_eq n 0) (Some 4) (cond (nat_lt n 17) (Some n) None)

-- a number that is not 0
abbrev pub cut_of : ℕ → Option ℕ
cut_of n = cond (nat_eq n 0) None (Some n)

-- a number other than 0 is yes
abbrev pub is_yes : ℕ → Bool
is_yes n = not (nat_eq n 0)

-- a sum of bits has alone the bits of constructs that events have by each machine
abbrev pub are_constructs : ℕ → Bool
are_constructs bits = nat_lt bits 2097152

-- the same of those that HTML has, and the one that leaves one tilde out
abbrev pub are_html_constructs : ℕ → Bool
are_html_constructs bits = nat_lt bits 134217728

-- one tilde strikes through, as two do: the greatest of these bits is not there
abbrev pub counts_one_tilde : ℕ → Bool
counts_one_tilde bits = nat_lt bits 67108864

-- tables, literals, checks or footnotes are on, or one tilde is left out: a sum of bits is greater than that of all constructs that events have by each machine
abbrev pub has_rewritten : ℕ → Bool
has_rewritten bits = nat_lt 2097151 bits

-- options choose whole documents with their texts: the machine of documents, and `deep`
abbrev pub are_of_documents : Options → Bool
are_of_documents options = nat_eq options.machine 8 && is_yes options.deep

-- a sum of bits has the bits of constructs that such options may have: for whole documents with their texts also those that HTML has
abbrev pub have_constructs : Options → Bool
have_constructs options = are_constructs options.constructs || (are_of_documents options && are_html_constructs options.constructs)

-- why options choose nothing, as codes
abbrev pub other_size : ℕ
other_size = 3

abbrev pub no_such_tab_size : ℕ
no_such_tab_size = 4

abbrev pub no_such_construct : ℕ
no_such_construct = 5

abbrev pub no_such_machine : ℕ
no_such_machine = 6

abbrev pub links_no_text : ℕ
links_no_text = 7

abbrev pub no_such_permission : ℕ
no_such_permission = 11

-- what a machine, a cut and `deep` choose with a tab size, if they are accepted together
abbrev pub together : Options → ℕ → Result Choice ℕ
together options t =
    option_map_or (λ which. option_map_or Ok (choice_together (cut_of options.cut) (is_yes options.deep) which t) (Err links_no_text))
    (machine_of options.machine) (Err no_such_machine)

-- what options choose, or the code of the first thing that there is not: their size, tab size, constructs, machine, and texts of it
abbrev pub choice_of : Options → Result Choice ℕ
choice_of options =
    cond (nat_eq options.size 40)
    (option_map_or (λ t. cond (have_constructs options) (together options t) (Err no_such_construct)) (tab_of options.tab_size) (Err no_such_tab_size))
    (Err other_size)

-- the tab size that options of text choose, or such a code, by whether their constructs are some that there are
abbrev pub tab_by : (are : Bool) → TextOptions → Result ℕ ℕ
tab_by are options =
    cond (nat_eq options.size 24) (option_map_or (λ t. cond are (Ok t) (Err no_such_construct)) (tab_of options.tab_size) (Err no_such_tab_size)) (Err other_size)

abbrev pub text_choice_of : TextOptions → Result ℕ ℕ
text_choice_of options = tab_by (are_constructs options.constructs) options

-- the same of an edited document, which has all that HTML has
abbrev pub document_choice_of : TextOptions → Result ℕ ℕ
document_choice_of options = tab_by (are_html_constructs options.constructs) options

-- a sum of bits has alone the bits of what HTML may let through, and that of the filter of tags
abbrev pub are_permissions : ℕ → Bool
are_permissions bits = nat_lt bits 16

-- the tab size that options of HTML choose, or the code of the first thing that there is not: their size, tab size, constructs, permissions
abbrev pub html_choice_of : HtmlOptions → Result ℕ ℕ
html_choice_of options =
    cond (nat_eq options.size 32)
    (option_map_or (λ t. cond (are_html_constructs options.constructs) (cond (are_permissions options.allow) (Ok t) (Err no_such_permission)) (Err no_such_construct))
    (tab_of options.tab_size) (Err no_such_tab_size))
    (Err other_size)

-- whether a sum of bits has a bit
abbrev pub has_bit : ℕ → ℕ → Bool
has_bit bits bit = is_yes (bit_and bits bit)

-- each construct that has a bit is on if its bit is there; the others are none of CommonMark's, and off
abbrev pub constructs_of : ℕ → Constructs
constructs_of bits = record default_constructs {
  attention = has_bit bits 8;
  autolink = has_bit bits 2;
  block_quote = has_bit bits 16384;
  character_escape = has_bit bits 4;
  character_reference = has_bit bits 16;
  code_fenced = has_bit bits 256;
  code_indented = has_bit bits 512;
  code_text = has_bit bits 1;
  definition = has_bit bits 524288;
  gfm_autolink_literal = has_bit bits 2097152;
  gfm_footnote_definition = has_bit bits 16777216;
  gfm_label_start_footnote = has_bit bits 33554432;
  gfm_strikethrough = has_bit bits 1048576;
  gfm_table = has_bit bits 8388608;
  gfm_task_list_item = has_bit bits 4194304;
  hard_break_escape = has_bit bits 32;
  hard_break_trailing = has_bit bits 64;
  heading_atx = has_bit bits 1024;
  heading_setext = has_bit bits 2048;
  html_flow = has_bit bits 4096;
  html_text = has_bit bits 128;
  label_end = has_bit bits 262144;
  label_start_image = has_bit bits 131072;
  label_start_link = has_bit bits 65536;
  list_item = has_bit bits 32768;
  thematic_break = has_bit bits 8192;
}

-- how a document is read by a sum of bits, with this tab size
abbrev pub parse_options_of : (bits tab : ℕ) → ParseOptions
parse_options_of bits tab = record (options_with (constructs_of bits) tab) { gfm_strikethrough_single_tilde = counts_one_tilde bits }

-- the constructs that have a bit: CommonMark's, and GFM's strikethrough; in HTML and whole documents its tables, literals, checks and footnotes too
abbrev pub constructs_with_bits : Constructs
constructs_with_bits = record default_constructs { gfm_strikethrough = true }

abbrev pub constructs_of_html : Constructs
constructs_of_html = record constructs_with_bits { gfm_autolink_literal = true; gfm_footnote_definition = true; gfm_label_start_footnote = true; gfm_table = true; gfm_task_list_item = true }

-- a document that is read as text with these constructs and this tab size
abbrev pub text_document : (bits tab : ℕ) → List ℕ → Given
text_document bits tab bytes = given_by bytes (options_with (constructs_of bits) tab)
