-- Calls of footnotes in a text. No specification has footnotes; cmark-gfm and GitHub read them. A call is `[^`, a label and `]`, where a footnote definition has
-- this label.
use Rattle.std.specs.Prelude.{ℕ, zero, suc, ◌+◌, ◌-◌, ◌==◌, ◌&&◌, not, nat_le, Bool, cond, List, [], ◌∷◌, ◌++◌, drop, slice_range, take, Option, Some, None}
use Rattle.markdown_base.specs.declared.event.Event.{Event}
use Rattle.markdown_base.specs.declared.event.Name.TheVariants.{GfmFootnoteCall}
use Rattle.mdblock_leaf_blocks.specs.LineWords.{begins_with, starts_with}
use Rattle.mdblock_lines.specs.Containers.{is_in_label}
use Rattle.mdgfm_events.specs.Spans.{span_end, span_size}
use Rattle.mdgfm_literals.specs.declared.texts.Literal.{Literal}
use Rattle.mdgfm_literals.specs.Bytes.{is_escape}
use Rattle.mdgfm_literals.specs.Literals.{more_passed}
use Rattle.mdgfm_literals.specs.Stretches.{depth_behind, is_text, reach}

-- a byte may stand in the label of a call: what may stand in that of a definition, but no bracket that opens
abbrev pub is_in_call : ℕ → Bool
is_in_call b = is_in_label b && not (b == 91)

-- How many bytes of a label come first. An escape is two of them, also if it is one of a bracket. The first `skip` belong to it
abbrev pub label_size : (skip : ℕ) → List ℕ → ℕ
label_size skip [] = 0
label_size (suc skip) (b ∷ bs) = label_size skip bs + 1
label_size zero (b ∷ bs) = cond (is_escape (b ∷ bs)) (label_size 1 bs + 1) (cond (is_in_call b) (label_size 0 bs + 1) 0)

-- the size of the label of what may be a call at the front of a text: it is not empty
abbrev pub label_at : List ℕ → Option ℕ
label_at text =
    let n = label_size 0 (drop 2 text) in
    cond (starts_with (91 ∷ 94 ∷ []) text && (nat_le 1 n && begins_with 93 (drop (n + 2) text))) (Some n) None

-- The labels that footnote definitions have
module _ (defined : (label : List ℕ) → Bool) where
  -- the size of the call at the front of a text, if one is there
  abbrev pub call_at : List ℕ → Option ℕ
  call_at text = elim (label_at text) [ None ↦ None | Some n ↦ cond (defined (take n (drop 2 text))) (Some (n + 3)) None ]

  -- Calls of a text whose first byte is at this index. In the first `skip` bytes none begins, and none in an escape
  abbrev pub calls_from : (skip at : ℕ) → List ℕ → List Literal
  calls_from skip at [] = []
  calls_from (suc skip) at (b ∷ bs) = calls_from skip (at + 1) bs
  calls_from zero at (b ∷ bs) = elim (call_at (b ∷ bs)) [
    | Some n ↦ record { from = at; to = at + n; name = GfmFootnoteCall } ∷ calls_from (n - 1) (at + 1) bs
    | None ↦ calls_from (more_passed (b ∷ bs)) (at + 1) bs
  ]

  -- Calls of all stretches of text of these events, behind the first `skip`: none is in a link, in an image or in what is not shown as text, as with autolink
  -- literals
  abbrev pub calls_of : List ℕ → (depth skip : ℕ) → List Event → List Literal
  calls_of bytes depth skip [] = []
  calls_of bytes depth (suc skip) (e ∷ es) = calls_of bytes depth skip es
  calls_of bytes depth zero (e ∷ es) =
      let r = reach (span_size 0 es) (span_end e.point 0 es).index es in
      let stretch = calls_from 0 e.point.index (slice_range bytes e.point.index r.stop) ++ calls_of bytes depth r.size es in
      cond (is_text depth e) stretch (calls_of bytes (depth_behind depth e) 0 es)
