-- What a line is, by its bytes without its line ending (CommonMark 0.31, 4). The definitions have no states. A tab is as many bytes as it has
-- columns.
use Rattle.std.specs.Prelude.{ℕ, ◌==◌, ◌&&◌, ◌||◌, not, nat_le, Bool, cond, List, filter, take, drop, length, reverse, Option, None, Some}
use Rattle.std.specs.List.{list_all, prefix_len}
use Rattle.markdown_base.specs.declared.configuration.Constructs.{Constructs}
use Rattle.mdconstructs_tables.specs.Breaks.{is_white}
pub use Rattle.mdblock_leaf_blocks.specs.LineWords.{begins_with, indent, is_blank_line, run, unindented}
use Rattle.mdblock_leaf_blocks.specs.HtmlLines.{HtmlKind, html_kind}

-- Thematic break (CommonMark, 4.1): three marks or more of one kind, and white space between and behind them
abbrev pub is_break_of_marks : (mark : ℕ) → List ℕ → Bool
is_break_of_marks mark r = begins_with mark r && (list_all (λ b. (b == mark) || is_white b) r && nat_le 3 (length (filter (λ b. b == mark) r)))

abbrev pub is_thematic_break : List ℕ → Bool
is_thematic_break r = is_break_of_marks 42 r || (is_break_of_marks 45 r || is_break_of_marks 95 r)

-- ATX heading (CommonMark, 4.2): one to six number signs, and then white space or nothing
abbrev pub is_atx_heading : List ℕ → Bool
is_atx_heading r = let n = run 35 r in nat_le 1 n && (nat_le n 6 && is_blank_line (take 1 (drop n r)))

-- Setext heading underline (CommonMark, 4.3): one mark or more of one kind, and then only white space
abbrev pub is_underline_of_marks : (mark : ℕ) → List ℕ → Bool
is_underline_of_marks mark r = begins_with mark r && is_blank_line (drop (run mark r) r)

-- A fence: its byte, how many of it, and the columns before it
pub record Fence : Type 0 where
  pub byte : ℕ
  pub size : ℕ
  pub indent : ℕ

-- Opening fence (CommonMark, 4.5): three grave accents or more, behind which none comes; or three tildes or more
abbrev pub is_fence_of : (byte : ℕ) → List ℕ → Bool
is_fence_of byte r = let n = run byte r in nat_le 3 n && ((byte == 126) || list_all (λ b. not (b == 96)) (drop n r))

-- What a line is, if it is asked alone
pub data LineKind : Type 0 where
  blank : LineKind
  indented : LineKind
  heading : LineKind
  fence : Fence → LineKind
  html : HtmlKind → LineKind
  thematic_break : LineKind
  text : LineKind

-- The constructs that are on
module _ (on : Constructs) where
  -- Four columns or more: no other block but a paragraph's further line begins so far to the right (CommonMark, 4.4). Without indented code no
  -- line is too far to the right
  abbrev pub is_far : List ℕ → Bool
  is_far t = on.code_indented && nat_le 4 (indent t)

  -- Closing fence (CommonMark, 4.5): at least as many of the same byte as the opening one has, and then only white space
  abbrev pub closes : Fence → List ℕ → Bool
  closes f t = let n = run f.byte (unindented t) in not (is_far t) && (nat_le f.size n && is_blank_line (drop n (unindented t)))

  -- what a line is, from its first byte that is not white space on, and by the columns before it
  abbrev pub kind_of_rest : (columns : ℕ) → List ℕ → LineKind
  kind_of_rest columns r =
      cond (on.heading_atx && is_atx_heading r) heading
      (cond (on.code_fenced && is_fence_of 96 r) (fence (record { byte = 96; size = run 96 r; indent = columns }))
      (cond (on.code_fenced && is_fence_of 126 r) (fence (record { byte = 126; size = run 126 r; indent = columns }))
      (elim (cond on.html_flow (html_kind r) None) [
        | Some kind ↦ html kind
        | None ↦ cond (on.thematic_break && is_thematic_break r) thematic_break text
      ])))

  -- What a line is
  abbrev pub line_kind : List ℕ → LineKind
  line_kind t = cond (is_blank_line t) blank (cond (is_far t) indented (kind_of_rest (indent t) (unindented t)))

  -- A line may be a setext heading underline. It is one behind lines of a paragraph, which it makes a heading of this rank: "The heading is a level 1
  -- heading if = characters are used in the setext heading underline, and a level 2 heading if - characters are used" (CommonMark, 4.3)
  abbrev pub underline_rank : List ℕ → Option ℕ
  underline_rank t =
      cond (is_far t || not on.heading_setext) None
      (cond (is_underline_of_marks 61 (unindented t)) (Some 1)
      (cond (is_underline_of_marks 45 (unindented t)) (Some 2) None))

-- bytes without those at their end that pass a test
abbrev pub trimmed : (ℕ → Bool) → List ℕ → List ℕ
trimmed test t = reverse (drop (prefix_len test (reverse t)) (reverse t))

-- The text of an ATX heading (CommonMark, 4.2), from behind its opening sequence and white space: without white space at its end, and without
-- a closing sequence, if white space or nothing is before that
abbrev pub heading_text : List ℕ → List ℕ
heading_text t =
    let all = trimmed is_white t in
    let before = trimmed (λ b. b == 35) all in
    cond (is_blank_line (take 1 (reverse before))) (trimmed is_white before) all
