-- The constructs of CommonMark that are read here, each by its bytes at the front of a text.
--
-- A text is cut into items from the front. A construct is there if its bytes are. The definition has no states.
use Rattle.std.specs.Prelude.{ℕ, ◌||◌, Bool, List, [], ◌∷◌}
use Rattle.markdown_base.specs.declared.configuration.Constructs.{Constructs}
use Rattle.mdinline_text_machine.specs.Autolink.{autolink_grammar}
use Rattle.mdinline_text_machine.specs.Bytes.{is_line_feed}
use Rattle.mdinline_text_machine.specs.CodeSpan.{code_span_grammar}
use Rattle.mdinline_text_machine.specs.Construct.{Found, Grammar, first_there, some_first}
use Rattle.mdinline_text_machine.specs.Escape.{escape_grammar}
use Rattle.mdinline_text_machine.specs.Parts.{part, part_at}

-- The constructs of texts: code spans, autolinks and backslash escapes
abbrev pub text_grammars : List (Grammar Found)
text_grammars = code_span_grammar ∷ autolink_grammar ∷ escape_grammar ∷ []

-- the bytes that a line ending or a construct may begin with
abbrev pub is_special : ℕ → Bool
is_special byte = is_line_feed byte || some_first text_grammars byte

-- The item at the front of a text: the first of the constructs that is there, or else a line ending or data. Each of the three begins with a
-- byte of its own, so at most one of them is there.
abbrev pub item_at : Constructs → List ℕ → Found
item_at on text = first_there text_grammars on text (part (part_at is_special text))

-- how many bytes an item has
abbrev pub item_length : Found → ℕ
item_length item = item.size
