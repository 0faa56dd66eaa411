-- Which bytes begin something in inline text: one list. All else that says so is made from it, or is compared with it by `one_list_says_what_begins`.
use Rattle.std.specs.Prelude.{ℕ, ◌==◌, ◌&&◌, Bool, List, [], ◌∷◌, ◌++◌, map}
use Rattle.std.specs.List.{list_any}
use Rattle.markdown_base.specs.declared.configuration.Constructs.{Constructs}
use Rattle.mdinline_emphasis.specs.Emphasis.{all_markers, marker_byte}
use Rattle.mdinline_text_machine.specs.TextBytes.{TextByte, ampersand, backslash, backtick, less, punctuation}
use Rattle.mdinline_machine.specs.RunRows.{marker_is_on}

-- a byte, the option that has on what begins with it, and its class
pub record Beginning : Type 0 where
  pub byte : ℕ
  pub on : Constructs → Bool
  pub class : TextByte

abbrev pub begins : (byte : ℕ) → (on : Constructs → Bool) → (class : TextByte) → Beginning
begins byte on class = record { byte = byte; on = on; class = class }

-- Constructs whose mark has a class of its own, in the order in which they are tried: code spans; autolinks, email autolinks, raw HTML between
-- marks, and tags; backslash escapes, and hard breaks by a backslash; and character references
abbrev pub marked_beginnings : List Beginning
marked_beginnings =
    begins 96 (λ on. on.code_text) backtick
    ∷ begins 60 (λ on. on.autolink) less
    ∷ begins 60 (λ on. on.autolink) less
    ∷ begins 60 (λ on. on.html_text) less
    ∷ begins 60 (λ on. on.html_text) less
    ∷ begins 92 (λ on. on.character_escape) backslash
    ∷ begins 92 (λ on. on.hard_break_escape) backslash
    ∷ begins 38 (λ on. on.character_reference) ampersand
    ∷ []

-- delimiter runs, of each marker
abbrev pub run_beginnings : List Beginning
run_beginnings = map (λ marker. begins (marker_byte marker) (marker_is_on marker) punctuation) all_markers

-- `[` and `!` of labels, and `]`
abbrev pub bracket_beginnings : List Beginning
bracket_beginnings =
    begins 91 (λ on. on.label_start_link) punctuation
    ∷ begins 33 (λ on. on.label_start_image) punctuation
    ∷ begins 93 (λ on. on.label_end) punctuation
    ∷ []

-- those of the class of punctuation: the byte alone tells them apart
abbrev pub punctuation_beginnings : List Beginning
punctuation_beginnings = run_beginnings ++ bracket_beginnings

-- The list
abbrev pub beginnings : List Beginning
beginnings = marked_beginnings ++ punctuation_beginnings

-- one of these begins with the byte
abbrev pub is_first : List Beginning → ℕ → Bool
is_first these byte = list_any (λ (b : Beginning). byte == b.byte) these

-- one that is on does
abbrev pub is_first_on : List Beginning → Constructs → ℕ → Bool
is_first_on these on byte = list_any (λ (b : Beginning). b.on on && (byte == b.byte)) these
