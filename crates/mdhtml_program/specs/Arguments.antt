-- The program's command-line arguments, each a list of bytes.
use Rattle.std.specs.Prelude.{ℕ, ◌||◌, Bool, true, false, List, [], ◌∷◌, Option, Some, None, codes, cond, not, unwrap_or}
use Rattle.std.specs.Option.{option_and_then, option_map}
use Rattle.std.specs.Str.{bytes_eq}
use Rattle.markdown_base.specs.declared.configuration.Constructs.{Constructs}
use Rattle.markdown_base.specs.declared.configuration.Options.{Options}
use Rattle.markdown_base.specs.Presets.{default_compile_options, default_constructs, default_parse_options}
use Rattle.mdhtml_program.specs.declared.arguments.Choice.{Choice}
use Rattle.mdprograms.specs.Numbers.{decimal_of, tab_size_of}

-- an argument is `--unsafe`
abbrev pub lets_all : List ℕ → Bool
lets_all word = bytes_eq word (codes "--unsafe")

-- an argument is `--gfm`
abbrev pub asks_gfm : List ℕ → Bool
asks_gfm word = bytes_eq word (codes "--gfm")

-- an argument is `--strikethrough-double-tilde`, as cmark-gfm has it
abbrev pub asks_two_tildes : List ℕ → Bool
asks_two_tildes word = bytes_eq word (codes "--strikethrough-double-tilde")

-- an argument is an option without a value
abbrev pub stands_alone : List ℕ → Bool
stands_alone word = lets_all word || (asks_gfm word || asks_two_tildes word)

-- A choice with an option without a value, if it did not come before: `--unsafe`, `--gfm` or `--strikethrough-double-tilde`
abbrev pub with_word : Choice → (word : List ℕ) → Option Choice
with_word choice word =
    cond (lets_all word) (cond choice.is_unsafe None (Some (record choice { is_unsafe = true })))
    (cond (asks_gfm word) (cond choice.is_gfm None (Some (record choice { is_gfm = true })))
    (cond (asks_two_tildes word) (cond choice.needs_two_tildes None (Some (record choice { needs_two_tildes = true }))) None))

-- a value, if there was none before
abbrev pub once : {A : Type 0} → Option A → Option A → Option A
once None value = value
once (Some x) value = None

-- A choice with an option and its value, if it had none: `--tab` and a tab size, or `--depth` and a number from 1 on
abbrev pub with_value : Choice → (name value : List ℕ) → Option Choice
with_value choice name value =
    cond (bytes_eq name (codes "--tab")) (option_map (λ t. record choice { tab = Some t }) (once choice.tab (tab_size_of value)))
    (cond (bytes_eq name (codes "--depth")) (option_map (λ n. record choice { depth = Some n }) (once choice.depth (decimal_of value))) None)

-- What arguments choose behind a choice, if they are accepted: one argument is an option without a value, or two are an option with its value
abbrev pub chosen_after : Choice → List (List ℕ) → Option Choice
chosen_after choice [] = Some choice
chosen_after choice (name ∷ []) = cond (stands_alone name) (with_word choice name) None
chosen_after choice (name ∷ value ∷ words) =
    cond (stands_alone name) (option_and_then (λ next. chosen_after next (value ∷ words)) (with_word choice name))
    (option_and_then (λ next. chosen_after next words) (with_value choice name value))

-- What arguments choose, if they are accepted: each option at most once, in any order. Without them the HTML is safe, of CommonMark, the tab size 4, and there
-- is no limit of depth
abbrev pub nothing_chosen : Choice
nothing_chosen = record { is_unsafe = false; is_gfm = false; needs_two_tildes = false; tab = None; depth = None }

abbrev pub choice_of_words : List (List ℕ) → Option Choice
choice_of_words words = chosen_after nothing_chosen words

-- the tab size of a choice
abbrev pub tab_of : Choice → ℕ
tab_of choice = unwrap_or choice.tab 4

-- The constructs of a choice: CommonMark's, and those of GFM that HTML has, if the choice has them
abbrev pub constructs_of : Choice → Constructs
constructs_of choice =
    record default_constructs { gfm_autolink_literal = choice.is_gfm; gfm_footnote_definition = choice.is_gfm; gfm_label_start_footnote = choice.is_gfm; gfm_strikethrough = choice.is_gfm; gfm_table = choice.is_gfm; gfm_task_list_item = choice.is_gfm }

-- The options of a choice: these constructs, this tab size, and how many tildes strike through; as cmark's `--unsafe` raw HTML and addresses with any scheme, if the choice is unsafe; and GFM's
-- filter of tags, if the choice has GFM
abbrev pub options_of : Choice → Options
options_of choice = record {
  parse = record default_parse_options { constructs = constructs_of choice; gfm_strikethrough_single_tilde = not choice.needs_two_tildes; tab_size = tab_of choice };
  compile = record default_compile_options { allow_dangerous_html = choice.is_unsafe; allow_dangerous_protocol = choice.is_unsafe; gfm_tagfilter = choice.is_gfm };
}
