-- Lines with their containers. How a line is read needs of the lines before it only which containers are open and which leaf block may go on.
use Rattle.std.specs.Prelude.{ℕ, suc, ◌+◌, ◌==◌, ◌&&◌, ◌||◌, not, Bool, true, false, cond, List, [], ◌∷◌, ◌++◌, take, drop, length, is_some}
use Rattle.markdown_base.specs.declared.configuration.Constructs.{Constructs}
use Rattle.mdblock_leaf_blocks.specs.HtmlLines.{HtmlKind, ends, waits_for_blank}
use Rattle.mdblock_leaf_blocks.specs.LeafBlocks.{Line, interrupts, text_of}
use Rattle.mdblock_leaf_blocks.specs.LineKinds.{Fence, LineKind, fence, html, text, closes, is_blank_line, line_kind, underline_rank}
use Rattle.mdblock_lines.specs.Containers.{Container, Prefix}
use Rattle.mdblock_containers.specs.Prefixes.{going_on, beginning, with_list, columns_of, containers_of}

-- The leaf block that may go on behind a line: a paragraph, fenced code, HTML, or a table, behind its delimiter row. Each line of another leaf block can
-- be one of its own
pub data Leaf : Type 0 where
  closed : Leaf
  open_paragraph : Leaf
  open_fence : Fence → Leaf
  open_html : HtmlKind → Leaf
  open_table : Leaf

abbrev pub is_paragraph : Leaf → Bool
is_paragraph open_paragraph = true
is_paragraph _ = false

-- a line behind which a table may go on is its delimiter row, or a row behind that
abbrev pub is_table : Leaf → Bool
is_table open_table = true
is_table _ = false

-- What is in it is not read as blocks, so no container begins there (4.5, 4.6)
abbrev pub is_raw : Leaf → Bool
is_raw (open_fence f) = true
is_raw (open_html kind) = true
is_raw _ = false

-- It goes on over blank lines, "until the end of the containing block" (4.5, 4.6), so the line ending there is in it
abbrev pub holds_ending : Leaf → Bool
holds_ending (open_fence f) = true
holds_ending (open_html kind) = not (waits_for_blank kind)
holds_ending _ = false

abbrev pub has_none : {A : Type 0} → List A → Bool
has_none [] = true
has_none (x ∷ xs) = false

-- The constructs that are on
module _ (on : Constructs) where
  -- what a line of this kind opens, where nothing goes on
  abbrev pub opened_by : LineKind → List ℕ → Leaf
  opened_by (fence f) t = open_fence f
  opened_by (html kind) t = cond (ends kind t) closed (open_html kind)
  opened_by text t = open_paragraph
  opened_by _ t = closed

  -- What may go on behind a line, by what may go on before it: an underline ends a paragraph, a line that interrupts it opens what it opens, and
  -- other lines go on with it (4.3, 4.8); a closing fence (4.5), or the line with the end condition, or a blank line (4.6) ends fenced code and HTML.
  -- Behind a table, a line that is none of its rows is what it is alone: "The table is broken at the first empty line, or beginning of another
  -- block-level structure" (GFM 0.29, 4.10)
  abbrev pub leaf_after : Leaf → List ℕ → Leaf
  leaf_after closed t = opened_by (line_kind on t) t
  leaf_after open_paragraph t = cond (is_some (underline_rank on t)) closed (cond (interrupts (line_kind on t)) (opened_by (line_kind on t) t) open_paragraph)
  leaf_after (open_fence f) t = cond (closes on f t) closed (open_fence f)
  leaf_after (open_html kind) t = cond (cond (waits_for_blank kind) (is_blank_line t) (ends kind t)) closed (open_html kind)
  leaf_after open_table t = opened_by (line_kind on t) t

-- What is known before a line: the containers of the last line that was not left blank; how many of them went on since; and the open leaf
pub record Before : Type 0 where
  pub stack : List Container
  pub depth : ℕ
  pub leaf : Leaf

-- A line with its containers: those that go on and those that begin, with their prefixes; the columns of these; whether only white space is behind
-- them; whether it goes on lazily; whether it goes on with the stretch of lines before; whether it is left blank, so that the lines behind it say
-- in which containers it stands; and the open leaf behind it
pub record Row : Type 0 where
  pub number : ℕ
  pub line : Line
  pub went_on : List Prefix
  pub begun : List Prefix
  pub columns : ℕ
  pub is_blank : Bool
  pub is_lazy : Bool
  pub stays : Bool
  pub is_left_blank : Bool
  pub leaf : Leaf

-- what is behind the prefixes of a line
abbrev pub rest_of : Row → List ℕ
rest_of row = drop row.columns (text_of row.line)

-- lines one after another, each read by what is known before it
abbrev pub rows_by : {K : Type 0} → (row : K → ℕ → Line → Row) → (next : K → Row → K) → K → (number : ℕ) → List Line → List Row
rows_by row next k number [] = []
rows_by row next k number (line ∷ lines) = let r = row k number line in r ∷ rows_by row next (next k r) (suc number) lines

module _ (on : Constructs) where
  -- A line goes on with a paragraph though not with all its containers, as "paragraph continuation text": it "will be parsed as part of the content
  -- of a paragraph, but does not occur at the beginning of the paragraph" (5.1, 5.2, "Laziness"). So no block begins there. "The setext heading
  -- underline cannot be a lazy continuation line" (4.3), so what would be one is text
  abbrev pub is_lazily : Before → (all_go_on none_begins : Bool) → List ℕ → Bool
  is_lazily b all_go_on none_begins t = not all_go_on && (none_begins && (is_paragraph b.leaf && not (interrupts (line_kind on t))))

  -- a line, by what is known before it, with the prefixes that go on and begin
  abbrev pub row_with : Before → (number : ℕ) → Line → (went_on begun : List Prefix) → Row
  row_with b number line went_on begun =
      let all_go_on = length went_on == b.depth in
      let columns = columns_of went_on + columns_of begun in
      let rest = drop columns (text_of line) in
      let is_lazy = is_lazily b all_go_on (has_none begun) rest in
      let stays = has_none begun && (is_lazy || (all_go_on && (length b.stack == b.depth))) in
      let is_left_blank = is_blank_line rest && (has_none begun && not (stays && holds_ending b.leaf)) in
      record {
        number = number;
        line = line;
        went_on = went_on;
        begun = begun;
        columns = columns;
        is_blank = is_blank_line rest;
        is_lazy = is_lazy;
        stays = stays;
        is_left_blank = is_left_blank;
        leaf = cond is_left_blank closed (cond is_lazy open_paragraph (leaf_after on (cond stays b.leaf closed) rest));
      }

  -- Containers begin unless all go on and the leaf is raw. An item "interrupts a paragraph" (5.2) where all go on: if not, the paragraph ends
  abbrev pub row_of : Before → (number : ℕ) → Line → Row
  row_of b number line =
      let went_on = going_on (take b.depth b.stack) number (text_of line) in
      let all_go_on = length went_on == b.depth in
      let rest = drop (columns_of went_on) (text_of line) in
      let begun = beginning on (length rest) number (all_go_on && is_paragraph b.leaf) rest in
      row_with b number line went_on (cond (all_go_on && is_raw b.leaf) [] (with_list (drop (length went_on) b.stack) begun))

  -- what is known behind a line. A blank line and a lazy line end no container yet
  abbrev pub known_after : Before → Row → Before
  known_after b row =
      let all = containers_of row.went_on ++ containers_of row.begun in
      cond row.is_left_blank (record b { depth = length row.went_on; leaf = closed })
      (cond row.is_lazy (record b { leaf = row.leaf }) (record { stack = all; depth = length all; leaf = row.leaf }))

  abbrev pub rows_from : Before → (number : ℕ) → List Line → List Row
  rows_from = rows_by row_of known_after

  -- what is known before the first line
  abbrev pub nothing_known : Before
  nothing_known = record { stack = []; depth = 0; leaf = closed }

  -- The lines of a document, with their containers
  abbrev pub rows : List Line → List Row
  rows lines = rows_from nothing_known 1 lines
