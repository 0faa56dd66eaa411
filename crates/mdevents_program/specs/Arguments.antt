-- The program's command-line arguments, each a list of bytes.
use Rattle.std.specs.Prelude.{ℕ, Bool, true, false, List, [], ◌∷◌, Option, Some, None, unwrap_or, codes, cond, filter_map}
use Rattle.std.specs.Option.{option_and_then, option_map}
use Rattle.std.specs.Str.{bytes_eq}
use Rattle.mdevents_program.specs.declared.choice.Choice.{Choice}
use Rattle.mdevents_program.specs.declared.choice.Which.{Which}
use Rattle.mdevents_program.specs.declared.choice.Which.TheVariants.{Lines, Paragraphs, Peek, Deep, Back, Save, Text, Flow, Document, Gfm}
use Rattle.mdevents_program.specs.Choices.{choice_together}
use Rattle.mdprograms.specs.Numbers.{decimal_of, tab_size_of}

-- the machine of a name
abbrev pub which_of : List ℕ → Option Which
which_of name =
    cond (bytes_eq name (codes "lines")) (Some Lines)
    (cond (bytes_eq name (codes "paragraphs")) (Some Paragraphs)
    (cond (bytes_eq name (codes "peek")) (Some Peek)
    (cond (bytes_eq name (codes "deep")) (Some Deep) (cond (bytes_eq name (codes "back")) (Some Back) (cond (bytes_eq name (codes "save")) (Some Save)
    (cond (bytes_eq name (codes "text")) (Some Text) (cond (bytes_eq name (codes "flow")) (Some Flow) (cond (bytes_eq name (codes "document")) (Some Document)
    (cond (bytes_eq name (codes "gfm")) (Some Gfm) None)))))))))

-- An option, with its value if it has one
pub data Spelled : Type 0 where
  cut : ℕ → Spelled
  deep : Spelled
  machine : Which → Spelled
  tab : ℕ → Spelled

-- the option that two arguments spell, if they spell one: `--cut` and a number, `--machine` and a name, or `--tab` and a tab size
abbrev pub option_of : List ℕ → List ℕ → Option Spelled
option_of name value =
    cond (bytes_eq name (codes "--cut")) (option_map cut (decimal_of value))
    (cond (bytes_eq name (codes "--machine")) (option_map machine (which_of value)) (cond (bytes_eq name (codes "--tab")) (option_map tab (tab_size_of value)) None))

-- the options that arguments spell, in order, if they spell options: one argument is `--deep`, or two are an option with its value
abbrev pub options_of : List (List ℕ) → Option (List Spelled)
options_of [] = Some []
options_of (word ∷ []) = cond (bytes_eq word (codes "--deep")) (Some (deep ∷ [])) None
options_of (word ∷ value ∷ words) =
    cond (bytes_eq word (codes "--deep")) (option_map (λ options. deep ∷ options) (options_of (value ∷ words)))
    (option_and_then (λ option. option_map (λ options. option ∷ options) (options_of words)) (option_of word value))

-- the number of an option to cut
abbrev pub cut_in : Spelled → Option ℕ
cut_in (cut n) = Some n
cut_in deep = None
cut_in (machine which) = None
cut_in (tab n) = None

-- that an option is `--deep`
abbrev pub deep_in : Spelled → Option Bool
deep_in (cut n) = None
deep_in deep = Some true
deep_in (machine which) = None
deep_in (tab n) = None

-- the machine of an option that names one
abbrev pub machine_in : Spelled → Option Which
machine_in (cut n) = None
machine_in deep = None
machine_in (machine which) = Some which
machine_in (tab n) = None

-- the tab size of an option that gives one
abbrev pub tab_in : Spelled → Option ℕ
tab_in (cut n) = None
tab_in deep = None
tab_in (machine which) = None
tab_in (tab n) = Some n

-- the element of a list of at most one, if there is one; None for a longer list
abbrev pub at_most_one : {A : Type 0} → List A → Option (Option A)
at_most_one [] = Some None
at_most_one (x ∷ []) = Some (Some x)
at_most_one (x ∷ y ∷ xs) = None

-- what options choose, if there is at most one of each; the default machine is `lines`, and the default tab size 4
abbrev pub chosen_by : List Spelled → Option Choice
chosen_by options =
    option_and_then (λ n. option_and_then (λ is_deep. option_and_then (λ which. option_and_then (λ t. choice_together n (unwrap_or is_deep false) (unwrap_or which Lines) (unwrap_or t 4))
    (at_most_one (filter_map tab_in options))) (at_most_one (filter_map machine_in options))) (at_most_one (filter_map deep_in options)))
    (at_most_one (filter_map cut_in options))

-- what arguments choose, if they are accepted: what the options that they spell choose
abbrev pub choice_of_words : List (List ℕ) → Option Choice
choice_of_words words = option_and_then chosen_by (options_of words)
