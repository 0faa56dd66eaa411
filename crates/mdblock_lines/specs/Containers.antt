-- Containers of a line: whether one that is open goes on with it, and which begins in it (CommonMark 0.31, 5). A line is its bytes without its
-- line ending; a prefix is a number of columns. The definitions have no states.
use Rattle.std.specs.Prelude.{ℕ, suc, ◌+◌, ◌==◌, ◌&&◌, ◌||◌, not, nat_le, min, Bool, cond, List, [], ◌∷◌, take, drop, length, Option, Some, None}
use Rattle.std.specs.List.{prefix_len}
use Rattle.markdown_base.specs.declared.configuration.Constructs.{Constructs}
use Rattle.mdconstructs_tables.specs.Breaks.{is_white}
use Rattle.mdblock_leaf_blocks.specs.LineWords.{starts_with}
use Rattle.mdblock_leaf_blocks.specs.LineKinds.{begins_with, indent, unindented, is_blank_line, is_thematic_break}

-- An item: the number of its first line, and of the first line of its list; the columns of white space that a line needs to go on with it;
-- its marker, how many digits come before it, and whether nothing is behind it
pub record Item : Type 0 where
  pub line : ℕ
  pub list : ℕ
  pub size : ℕ
  pub marker : ℕ
  pub digits : ℕ
  pub is_empty : Bool

-- A block quote: the number of its first line, and whether its markers are near, so that at most three columns of white space come before each, in its
-- further lines as in its first. "A block quote marker, optionally preceded by up to three spaces of indentation" (CommonMark, 5.1)
pub record Quote : Type 0 where
  pub line : ℕ
  pub is_near : Bool

-- A footnote definition: the number of its first line, and how many bytes its label has. No specification has footnotes; cmark-gfm and GitHub read them
pub record Footnote : Type 0 where
  pub line : ℕ
  pub label : ℕ

-- A container: a block quote, an item, or a footnote definition
pub data Container : Type 0 where
  quote : Quote → Container
  item : Item → Container
  footnote : Footnote → Container

-- A container that goes on or begins in a line, and the columns of its prefix there
pub record Prefix : Type 0 where
  pub container : Container
  pub size : ℕ

-- the columns of white space, a quote's marker, and one column of white space behind it
abbrev pub quote_size : List ℕ → ℕ
quote_size t = suc (indent t) + min 1 (indent (drop 1 (unindented t)))

-- How a container goes on with a line's rest, if it does. A blank line goes on with an item, but not with one that began empty in the line before; and
-- with a footnote definition. Other lines need four columns of white space to go on with that
abbrev pub goes_on : Container → (number : ℕ) → List ℕ → Option ℕ
goes_on (quote q) number t = cond (begins_with 62 (unindented t) && not (q.is_near && nat_le 4 (indent t))) (Some (quote_size t)) None
goes_on (item i) number t =
    cond (is_blank_line t) (cond (i.is_empty && (number == suc i.line)) None (Some (min i.size (indent t))))
    (cond (nat_le i.size (indent t)) (Some i.size) None)
goes_on (footnote f) number t = cond (is_blank_line t) (Some (min 4 (indent t))) (cond (nat_le 4 (indent t)) (Some 4) None)

-- the digits that come first
abbrev pub digits : List ℕ → ℕ
digits r = prefix_len (λ b. nat_le 48 b && nat_le b 57) r

-- zeros, and then a one
abbrev pub is_one : List ℕ → Bool
is_one r = let n = prefix_len (λ b. b == 48) r in begins_with 49 (drop n r) && (length r == suc n)

abbrev pub first_byte : List ℕ → ℕ
first_byte [] = 0
first_byte (b ∷ bs) = b

-- List marker (CommonMark, 5.2): one of `*`, `+`, `-`; or one to nine digits and a dot or a parenthesis
abbrev pub is_marker : List ℕ → Bool
is_marker r =
    let n = digits r in
    let b = first_byte (drop n r) in
    cond (n == 0) ((b == 42) || ((b == 43) || (b == 45))) (nat_le n 9 && ((b == 46) || (b == 41)))

-- the columns between a marker and the text of an item: those of the white space, if they are four at most and a text comes; else one
abbrev pub padding : List ℕ → ℕ
padding after = cond (not (is_blank_line after) && nat_le (indent after) 4) (indent after) 1

-- the item that begins with a line's rest, and the columns of its prefix. Its list begins with it, if it goes on with none
abbrev pub item_at : (number : ℕ) → List ℕ → Prefix
item_at number t =
    let n = digits (unindented t) in
    let after = drop (suc n) (unindented t) in
    let front = indent t + suc n in
    record {
      container = item (record { line = number; list = number; size = front + padding after; marker = first_byte (drop n (unindented t)); digits = n; is_empty = is_blank_line after });
      size = cond (is_blank_line after) front (front + padding after);
    }

-- an item may begin: white space or nothing is behind its marker. In a paragraph it must not be empty, and its number must be one
abbrev pub may_begin_item : (in_paragraph : Bool) → List ℕ → Bool
may_begin_item in_paragraph r =
    let n = digits r in
    let after = drop (suc n) r in
    is_marker r && ((is_blank_line after || nat_le 1 (indent after))
    && not (in_paragraph && (is_blank_line after || (nat_le 1 n && not (is_one (take n r))))))

-- the label of a footnote at the front: bytes up to white space, a NUL or a closing bracket
abbrev pub is_in_label : ℕ → Bool
is_in_label b = not (is_white b || ((b == 0) || (b == 93)))

abbrev pub label_size : List ℕ → ℕ
label_size r = prefix_len is_in_label r

-- A footnote definition is at the front: `[^`, a label that is not empty, and `]:`
abbrev pub is_footnote : List ℕ → Bool
is_footnote r = starts_with (91 ∷ 94 ∷ []) r && (let n = label_size (drop 2 r) in nat_le 1 n && starts_with (93 ∷ 58 ∷ []) (drop (n + 2) r))

-- the footnote definition that begins with a line's rest, and the columns of its prefix: all white space behind the colon belongs to that
abbrev pub footnote_at : (number : ℕ) → List ℕ → Prefix
footnote_at number t =
    let r = unindented t in
    let n = label_size (drop 2 r) in
    record { container = footnote (record { line = number; label = n }); size = indent t + (n + 4) + indent (drop (n + 4) r) }

-- The constructs that are on
module _ (on : Constructs) where
  -- the container that begins with a line's rest, if one does. A thematic break comes first. Without indented code none is too far to the right, and so
  -- are no markers of a quote that begins. A footnote definition may begin in a paragraph
  abbrev pub begins : (number : ℕ) → (in_paragraph : Bool) → List ℕ → Option Prefix
  begins number in_paragraph t =
      let r = unindented t in
      cond ((on.code_indented && nat_le 4 (indent t)) || (is_blank_line t || (on.thematic_break && is_thematic_break r))) None
      (cond (on.block_quote && begins_with 62 r) (Some (record { container = quote (record { line = number; is_near = on.code_indented }); size = quote_size t }))
      (cond (on.gfm_footnote_definition && is_footnote r) (Some (footnote_at number t))
      (cond (on.list_item && may_begin_item in_paragraph r) (Some (item_at number t)) None)))
