-- The events of leaf blocks have names of the constructs that are on.
use Rattle.mddocument_laws.proofs.Prelude.{◌≡◌, ℕ, zero, suc, Bool, List, [], ◌∷◌, true, false, cond, not, Some, None, Option, refl, subst, length, and_parts, cond_both, or_left, or_right, none-some, AllByRecursion, ◌&&◌, ◌||◌, Constructs, Name, Seat, lines_in, block_lines, HtmlKind, html_kind, Line, LeafBlock, atx_heading, blank_line, break_line, fenced_code, html_block, indented_code, paragraph, setext_heading, text_of, Mark, flow_events, leaf_block_marks, leaf_blocks_marks, linked_from, LineKind, blank, fence, heading, html, indent, indented, is_atx_heading, is_blank_line, is_far, is_fence_of, is_thematic_break, is_underline_of_marks, kind_of_rest, line_kind, run, text, thematic_break, underline_rank, unindented, may_be_named}
use Rattle.markdown_base.specs.declared.event.Name.TheVariants as name
use Rattle.mdblock_text_lines.specs.TextLines as told
use Rattle.mddocument.proofs.Walks.BlockWalk.{MayBlock, block-are}
use Rattle.mddocument.proofs.Walks.InnerTexts.{AnySeat, any-each, any-lines}
use Rattle.mddocument_laws.proofs.LinesAlone.{blocks-alone, is_text_nowhere}
use Rattle.mddocument_laws.proofs.Named.{Marked, Named, around, linked-named, marked-flat-by, names-walk, none}

-- ---- a block's construct is on
module _ (on : Constructs) where
  abbrev pub IsOn : LeafBlock → Type 0
  IsOn (blank_line line) = Unit {0}
  IsOn (break_line line) = on.thematic_break ≡ true
  IsOn (atx_heading line) = on.heading_atx ≡ true
  IsOn (paragraph lines) = Unit {0}
  IsOn (setext_heading rank lines underline) = on.heading_setext ≡ true
  IsOn (indented_code lines) = on.code_indented ≡ true
  IsOn (fenced_code f is_closed lines) = on.code_fenced ≡ true
  IsOn (html_block kind is_closed lines) = on.html_flow ≡ true

  abbrev KindIsOn : LineKind → Type 0
  KindIsOn blank = Unit {0}
  KindIsOn indented = on.code_indented ≡ true
  KindIsOn heading = on.heading_atx ≡ true
  KindIsOn (fence f) = on.code_fenced ≡ true
  KindIsOn (html kind) = on.html_flow ≡ true
  KindIsOn thematic_break = on.thematic_break ≡ true
  KindIsOn text = Unit {0}

  html-or-break : (r : List ℕ) (found : Option HtmlKind) → cond on.html_flow (html_kind r) None ≡ found
      → KindIsOn (elim found [ Some kind ↦ html kind | None ↦ cond (on.thematic_break && is_thematic_break r) thematic_break text ])
  html-or-break r (Some kind) h = elim on.html_flow as (λ b. cond b (html_kind r) None ≡ Some kind → b ≡ true) [
    | true ↦ λ e. refl
    | false ↦ λ e. absurd (cc)
  ] h
  html-or-break r None h = cond_both (on.thematic_break && is_thematic_break r) thematic_break text KindIsOn (λ e. (and_parts _ _ e).0) (λ e. tt)

  rest-is-on : (columns : ℕ) (r : List ℕ) → KindIsOn (kind_of_rest on columns r)
  rest-is-on columns r =
      cond_both (on.heading_atx && is_atx_heading r) heading _ KindIsOn (λ e. (and_parts _ _ e).0) (λ e0.
      cond_both (on.code_fenced && is_fence_of 96 r) (fence (record { byte = 96; size = run 96 r; indent = columns })) _ KindIsOn (λ e. (and_parts _ _ e).0) (λ e1.
      cond_both (on.code_fenced && is_fence_of 126 r) (fence (record { byte = 126; size = run 126 r; indent = columns })) _ KindIsOn (λ e. (and_parts _ _ e).0) (λ e2.
      html-or-break r (cond on.html_flow (html_kind r) None) refl)))

  kind-is-on : (t : List ℕ) → KindIsOn (line_kind on t)
  kind-is-on t =
      cond_both (is_blank_line t) blank _ KindIsOn (λ e. tt) (λ e0.
      cond_both (is_far on t) indented _ KindIsOn (λ e. (and_parts _ _ e).0) (λ e1. rest-is-on (indent t) (unindented t)))

  rank-is-on : (t : List ℕ) (rank : ℕ) → underline_rank on t ≡ Some rank → on.heading_setext ≡ true
  rank-is-on t rank h = elim on.heading_setext as (λ b. cond (is_far on t || not b) None (cond (is_underline_of_marks 61 (unindented t)) (Some 1) (cond (is_underline_of_marks 45 (unindented t)) (Some 2) None)) ≡ Some rank → b ≡ true) [
    | true ↦ λ e. refl
    | false ↦ λ e. (let far : (is_far on t || true) ≡ true = or_right (is_far on t) true refl in absurd (none-some rank (rw far at e)))
  ] h

  -- whichever lines are text
  module _ (is_text : Line → Bool) where
    kind-at-is-on : (line : Line) → KindIsOn (told.kind_at on is_text line)
    kind-at-is-on line = cond_both (is_text line) text (line_kind on (text_of line)) KindIsOn (λ e. tt) (λ e. kind-is-on (text_of line))

    rank-at-is-on : (line : Line) (rank : ℕ) → told.rank_at on is_text line ≡ Some rank → on.heading_setext ≡ true
    rank-at-is-on line rank h = elim (is_text line) as (λ b. cond b None (underline_rank on (text_of line)) ≡ Some rank → on.heading_setext ≡ true) [
      | true ↦ λ e. absurd (none-some rank e)
      | false ↦ λ e. rank-is-on (text_of line) rank e
    ] h

    underlined-is-on : (lines behind : List Line) → IsOn (told.underlined on is_text lines behind).0
    underlined-is-on lines [] = tt
    underlined-is-on lines (next ∷ behind) = go (told.rank_at on is_text next) refl where
      go : (found : Option ℕ) → told.rank_at on is_text next ≡ found
          → IsOn (let p : LeafBlock × ℕ = elim found [ None ↦ (paragraph lines, length lines) | Some rank ↦ (setext_heading rank lines next, suc (length lines)) ] in p.0)
      go None h = tt
      go (Some rank) h = rank-at-is-on next rank h

    content-is-on : (lines : List Line) → IsOn (told.content_at on is_text lines).0
    content-is-on [] = tt
    content-is-on (line ∷ lines) = underlined-is-on _ _

    block-is-on : (kind : LineKind) (line : Line) (lines : List Line) → KindIsOn kind → IsOn (told.block_of_kind on is_text kind line lines).0
    block-is-on blank line lines h = tt
    block-is-on text line lines h = content-is-on (line ∷ lines)
    block-is-on kind line lines h = h

    pub blocks-are-on : (bound : ℕ) (lines : List Line) → AllByRecursion IsOn (told.blocks_in on is_text bound lines)
    blocks-are-on zero lines = tt
    blocks-are-on (suc bound) [] = tt
    blocks-are-on (suc bound) (line ∷ lines) = (block-is-on (told.kind_at on is_text line) line lines (kind-at-is-on line), blocks-are-on bound _)

-- ---- the marks of a block
module _ (on : Constructs) (bytes : List ℕ) where
  abbrev May : Name → Type 0
  May n = may_be_named on n ≡ true

  abbrev Are : List Mark → Type 0
  Are marks = Marked May marks

  may-block : (block : LeafBlock) → IsOn on block → MayBlock May block
  may-block (blank_line line) h = tt
  may-block (atx_heading line) h = (h, h, h)
  may-block (paragraph lines) h = refl
  may-block (setext_heading rank lines underline) h = (h, h, h, h)
  may-block (indented_code lines) h = (h, or_left on.code_indented on.code_fenced h)
  may-block (fenced_code f is_closed lines) h = record { code_fenced = h; fence = h; sequence = h; info = h; meta = h; code = or_right on.code_indented on.code_fenced h }
  may-block block h = (h, h)

  pub block-names : (block : LeafBlock) → IsOn on block → Are (leaf_block_marks bytes block)
  block-names block h = block-are bytes Are May AnySeat AnySeat (names-walk May refl refl refl bytes) (λ c seats q i. around bytes (Some c) name.Data seats refl none) block (may-block block h) (any-each (block_lines block)) (any-lines (block_lines block))

-- The leaf blocks of a text have names of the constructs that are on, also if others than leaf blocks' are not
pub told-named-by : (on other : Constructs) → ((block : LeafBlock) → IsOn on block → IsOn other block) → (is_text : Line → Bool) (bytes : List ℕ) (seats : List Seat)
    → Named (λ n. may_be_named other n ≡ true) (told.flow_events on is_text bytes seats)
told-named-by on other still is_text bytes seats =
    linked-named 0 _ (marked-flat-by (IsOn on) (leaf_block_marks bytes) (told.leaf_blocks on is_text (lines_in seats)) (λ block h. block-names other bytes block (still block h)) (blocks-are-on on is_text _ _))

pub flow-named-by : (on other : Constructs) → ((block : LeafBlock) → IsOn on block → IsOn other block) → (bytes : List ℕ) (seats : List Seat) → Named (λ n. may_be_named other n ≡ true) (flow_events on bytes seats)
flow-named-by on other still bytes seats =
    subst (λ blocks. Named (λ n. may_be_named other n ≡ true) (linked_from 0 (leaf_blocks_marks bytes blocks))) (blocks-alone on (lines_in seats)) (told-named-by on other still is_text_nowhere bytes seats)

pub flow-named : (on : Constructs) (bytes : List ℕ) (seats : List Seat) → Named (λ n. may_be_named on n ≡ true) (flow_events on bytes seats)
flow-named on bytes seats = flow-named-by on on (λ block h. h) bytes seats
