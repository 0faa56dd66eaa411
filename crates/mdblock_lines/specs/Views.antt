-- What values of the code mean. Below them are definitions cut into parts, one for each function that computes a part.
use Rattle.std.specs.Prelude.{ℕ, suc, ◌+◌, [], ◌∷◌, cond, false, map, Option, Some, None, ◌&&◌, ◌||◌, nat_le, ◌==◌, not, Bool, List, take, drop, length}
use Rattle.std.specs.Char.{is_ascii_alphanumeric}
use Rattle.mdconstructs_tables.specs.Breaks.{is_white}
use Rattle.markdown_base.specs.declared.configuration.Constructs.{Constructs}
use Rattle.mdblock_leaf_blocks.specs.LineWords.{first_passes, indent, is_blank_line, lower, starts_with, unindented}
use Rattle.mdblock_leaf_blocks.specs.HtmlLines.{behind_attribute, ends_tag}
use Rattle.mdblock_leaf_blocks.specs.HtmlLines as html
use Rattle.mdblock_lines.specs.declared.html.HtmlKind.{HtmlKind}
use Rattle.mdblock_lines.specs.declared.html.HtmlKind.TheVariants as html_kinds
use Rattle.mdblock_lines.specs.declared.kinds.Fence.{Fence}
use Rattle.mdblock_lines.specs.declared.kinds.LineKind.{LineKind}
use Rattle.mdblock_lines.specs.declared.kinds.LineKind.TheVariants as kinds
use Rattle.mdblock_lines.specs.declared.containers.Container.{Container}
use Rattle.mdblock_lines.specs.declared.containers.ContainerKind.{ContainerKind}
use Rattle.mdblock_lines.specs.declared.containers.ContainerKind.TheVariants as container_kinds
use Rattle.mdblock_lines.specs.declared.containers.Prefix.{Prefix}
use Rattle.mdblock_leaf_blocks.specs.LineKinds as lines
use Rattle.mdblock_lines.specs.Containers as nested

-- a kind of HTML
abbrev pub html_kind_of : HtmlKind → html.HtmlKind
html_kind_of html_kinds.Raw = html.raw
html_kind_of html_kinds.Comment = html.comment
html_kind_of html_kinds.Instruction = html.instruction
html_kind_of html_kinds.Declaration = html.declaration
html_kind_of html_kinds.Cdata = html.cdata
html_kind_of html_kinds.BlockTag = html.block_tag
html_kind_of html_kinds.AnyTag = html.any_tag

-- a fence, and what a line is
abbrev pub fence_of : Fence → lines.Fence
fence_of f = record { byte = f.byte; size = f.size; indent = f.indent }

abbrev pub kind_of : LineKind → lines.LineKind
kind_of kinds.Blank = lines.blank
kind_of kinds.Indented = lines.indented
kind_of kinds.Heading = lines.heading
kind_of (kinds.Fence f) = lines.fence (fence_of f)
kind_of (kinds.Html kind) = lines.html (html_kind_of kind)
kind_of kinds.ThematicBreak = lines.thematic_break
kind_of kinds.Text = lines.text

-- `kind_of_rest` by its last parts: HTML if it is on, and what is neither a heading nor a fence
abbrev pub html_if_on : Constructs → List ℕ → Option html.HtmlKind
html_if_on on r = cond on.html_flow (html.html_kind r) None

abbrev pub unfenced_kind : Constructs → List ℕ → lines.LineKind
unfenced_kind on r = elim (html_if_on on r) [
  | Some kind ↦ lines.html kind
  | None ↦ cond (on.thematic_break && lines.is_thematic_break r) lines.thematic_break lines.text
]

-- a block quote, an item in a list that begins in this line, and a footnote definition
abbrev pub quote_of : Container → nested.Quote
quote_of c = record { line = c.line; is_near = c.is_near }

abbrev pub item_of : (list : ℕ) → Container → nested.Item
item_of list c = record { line = c.line; list = list; size = c.size; marker = c.marker; digits = c.digits; is_empty = c.is_blank }

abbrev pub footnote_of : Container → nested.Footnote
footnote_of c = record { line = c.line; label = c.label }

-- a container of a kind
abbrev pub container_by : ContainerKind → (list : ℕ) → Container → nested.Container
container_by container_kinds.Quote list c = nested.quote (quote_of c)
container_by container_kinds.Item list c = nested.item (item_of list c)
container_by container_kinds.Footnote list c = nested.footnote (footnote_of c)

-- a container, in a list that begins in this line
abbrev pub container_of : (list : ℕ) → Container → nested.Container
container_of list c = container_by c.kind list c

-- a container that begins, and the columns of its prefix
abbrev pub prefix_of : (list : ℕ) → Prefix → nested.Prefix
prefix_of list p = record { container = container_of list p.container; size = p.size }

-- `begins` and `may_begin_item` by their parts
abbrev pub quote_prefix : (is_near : Bool) → (number : ℕ) → List ℕ → nested.Prefix
quote_prefix is_near number t = record { container = nested.quote (record { line = number; is_near = is_near }); size = nested.quote_size t }

abbrev pub is_marker_behind : (n b : ℕ) → Bool
is_marker_behind n b = cond (n == 0) ((b == 42) || ((b == 43) || (b == 45))) (nat_le n 9 && ((b == 46) || (b == 41)))

abbrev pub may_stand : (in_paragraph : Bool) → (n : ℕ) → (number after : List ℕ) → Bool
may_stand in_paragraph n number after =
    (is_blank_line after || nat_le 1 (indent after)) && not (in_paragraph && (is_blank_line after || (nat_le 1 n && not (nested.is_one number))))

abbrev pub is_past : Constructs → List ℕ → Bool
is_past on t = (on.code_indented && nat_le 4 (indent t)) || (is_blank_line t || (on.thematic_break && lines.is_thematic_break (lines.unindented t)))

abbrev pub is_quote_at : Constructs → List ℕ → Bool
is_quote_at on t = on.block_quote && lines.begins_with 62 (lines.unindented t)

abbrev pub is_footnote_at : Constructs → List ℕ → Bool
is_footnote_at on t = on.gfm_footnote_definition && nested.is_footnote (lines.unindented t)

-- the footnote definition behind white space of so many columns whose label has so many bytes, by what is behind the colon
abbrev pub footnote_prefix : (number columns label : ℕ) → (after : List ℕ) → nested.Prefix
footnote_prefix number columns label after =
    record { container = nested.footnote (record { line = number; label = label }); size = columns + (label + 4) + indent after }

-- tests of bytes that definitions write as λ
abbrev pub is_name_byte : ℕ → Bool
is_name_byte b = is_ascii_alphanumeric b || (b == 45)

abbrev pub is_mark_or_white : (mark b : ℕ) → Bool
is_mark_or_white mark b = (b == mark) || is_white b

-- an item by its marker and what is behind it; `item_at` behind white space of so many columns
abbrev pub prefix_by : (number front marker digits : ℕ) → (after : List ℕ) → nested.Prefix
prefix_by number front marker digits after = record {
  container = nested.item (record { line = number; list = number; size = front + nested.padding after; marker = marker; digits = digits; is_empty = is_blank_line after });
  size = cond (is_blank_line after) front (front + nested.padding after);
}

-- the item of a marker behind n digits, if it may stand there; its text is behind m bytes
abbrev pub prefix_behind : (in_paragraph : Bool) → (number columns n marker : ℕ) → (r : List ℕ) → (m : ℕ) → Option nested.Prefix
prefix_behind in_paragraph number columns n marker r m =
    cond (may_stand in_paragraph n (take n r) (drop m r)) (Some (prefix_by number (columns + m) marker n (drop m r))) None

-- `ends_open_tag` by its steps: what is behind one more attribute, if one comes, and else whether the tag ends
abbrev pub next_in_tag : List ℕ → Option (List ℕ)
next_in_tag t =
    let more = unindented t in
    cond (first_passes (λ b. b == 47) more || first_passes (λ b. b == 62) more) None (cond (first_passes is_white t) (behind_attribute more) None)

abbrev pub closes_tag : List ℕ → Bool
closes_tag t =
    let more = unindented t in
    cond (first_passes (λ b. b == 47) more) (ends_tag (drop 1 more)) (cond (first_passes (λ b. b == 62) more) (ends_tag more) false)

-- a name is this one, in any case
abbrev pub is_name : (listed name : List ℕ) → Bool
is_name listed name = starts_with listed (map lower name) && (length listed == length name)

-- how many names there are, and how many bytes they have
abbrev pub names_size : List (List ℕ) → ℕ
names_size [] = 0
names_size (n ∷ ns) = suc (length n + names_size ns)
