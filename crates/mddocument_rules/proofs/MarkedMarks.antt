-- Lists of marks behind which what is around is as before them: no list is entered among them, and no item.
use Rattle.std.proofs.Common.{◌≡◌, ◌∙◌, ℕ, suc, Bool, true, false, cond, List, [], ◌∷◌, ◌++◌, None, Option, Some, ap, append_assoc, drop, refl, subst, sym, take}
use Rattle.std.proofs.lemmas.Bool.{cond_both, false≢true}
use Rattle.std.specs.List.{AllByRecursion, flat_map}
use Rattle.std.specs.Prelude.{not}
use Rattle.markdown_base.specs.Events.{same_name}
use Rattle.markdown_base.specs.Virtual.{Seat, end_after}
use Rattle.markdown_base.specs.declared.event.Content.TheVariants as content
use Rattle.markdown_base.specs.declared.event.Kind.TheVariants.{Enter, Exit}
use Rattle.markdown_base.specs.declared.event.Link.{Link}
use Rattle.markdown_base.specs.declared.event.Name.{Name}
use Rattle.markdown_base.specs.declared.event.Name.TheVariants as name
use Rattle.markdown_base.specs.declared.event.Point.{Point}
use Rattle.markdown_base.specs.declared.event.Event.{Event}
use Rattle.markdown_base.proofs.Balanced.{same_name-true}
use Rattle.markdown_edits.specs.SpanWalks.{is_wanted}
use Rattle.markdown_tokenizer.proofs.Positions.Order.{every-all}
use Rattle.mdconstructs_machines.specs.LineEvents.{ending_of}
use Rattle.mdconstructs_machines.specs.Spans.{event}
use Rattle.mdblock_leaf_blocks.specs.LeafEvents.{Chunk, Mark, chunk_span, leaf_marks, span_marks, white}
use Rattle.mdblock_leaf_blocks.specs.LineKinds.{indent}
use Rattle.mdblock_lines.specs.Containers.{Container, Prefix}
use Rattle.mdblock_containers.specs.declared.lists.Marker.{Marker}
use Rattle.mdblock_containers.specs.Lists.{item_names, list_names}
use Rattle.mdblock_containers.specs.Rows.{Row, has_none, rest_of}
use Rattle.mdblock_containers.specs.Skeleton.{Part, Piece, begun_marks, chained_from, chunks_of, ending_marks, is_held, joined_pieces, last_line, pieces_of, prefixes_marks}
use Rattle.mdblock_definitions.specs.Sections.{Inside, defined, lines, table}
use Rattle.mdblock_definitions.specs.Skeleton.{all_rows, inside_marks}
use Rattle.mddocument.proofs.Walks.SkeletonWalk.{PieceIs, stretch-is}
use Rattle.mddocument_rules.proofs.Definitions.{IsKept, IsKeptByAll, begins-are, defined-in-rows, kept-by-all, prefixes-are, some-kept, table-in-part}
use Rattle.mddocument_rules.proofs.ListItems.{AreMarked}
use Rattle.mddocument_rules.proofs.Places.{free-inside, free-parts, is_free}
use Rattle.mddocument_rules.specs.MarkerLaws.{item_marker}

-- neither a list nor an item
abbrev pub IsPlain : Name → Type 0
IsPlain n = (is_wanted list_names n ≡ false) × (is_wanted item_names n ≡ false)

free-plain : (n : Name) → is_free n ≡ true → IsPlain n
free-plain n f = (free-inside n f, (free-parts n f).0)

plain-item : (n : Name) → IsPlain n → same_name n name.ListItem ≡ true → ⊥
plain-item n plain e = false≢true (sym plain.1 ∙ ap (is_wanted item_names) (same_name-true n name.ListItem e))

module _ (bytes : List ℕ) where
  -- marks are so wherever they stand among others
  abbrev pub MarksAre : (around : List (Option Marker)) → List Mark → Type 0
  MarksAre around ms = (i : ℕ) (previous : Option ℕ) → AreMarked bytes around (chained_from i previous ms)

  abbrev pub Passes : (around : List (Option Marker)) → List Mark → Type 0
  Passes around ms = (ys : List Mark) → MarksAre around ys → MarksAre around (ms ++ ys)

  -- an enter of another name, whatever its link
  plain-enter : (n : Name) (p : Point) (link : Option Link) (around : List (Option Marker)) (es : List Event) → IsPlain n → AreMarked bytes (None ∷ around) es
      → AreMarked bytes around (record { kind = Enter; name = n; point = p; link = link } ∷ es)
  plain-enter n p link around es plain h = (
    record { list = λ e. absurd (false≢true (sym plain.0 ∙ e)); named = λ e. absurd (false≢true (sym plain.0 ∙ e)); item = λ e. absurd (plain-item n plain e) },
    subst (λ (m : Option Marker). AreMarked bytes (m ∷ around) es) (sym (ap (λ b. cond b (item_marker bytes (drop 1 es)) None) plain.0)) h,
  )

  pub enters-plain : (n : Name) (place : Point) (around : List (Option Marker)) (ms : List Mark) → IsPlain n → MarksAre (None ∷ around) ms → MarksAre around ((event bytes Enter n place, None) ∷ ms)
  enters-plain n place around ms plain h = λ i previous. plain-enter n (event bytes Enter n place).point None around (chained_from (suc i) previous ms) plain (h (suc i) previous)

  -- ---- marks that leave what is around them
  pub record Plain (ms : List Mark) : Type 0 where
    pub passes : (around : List (Option Marker)) → Passes around ms

  pub plain-none : Plain []
  plain-none = record { passes = λ around ys w. w }

  pub plain-both : (xs ys : List Mark) → Plain xs → Plain ys → Plain (xs ++ ys)
  plain-both xs ys h k = record { passes = λ around zs w. subst (MarksAre around) (sym (append_assoc xs ys zs)) (h.passes around (ys ++ zs) (k.passes around zs w)) }

  pub plain-span : (n : Name) (seats : List Seat) (inside : List Mark) → IsPlain n → Plain inside → Plain (span_marks bytes n seats inside)
  plain-span n [] inside plain h = h
  plain-span n (s ∷ ss) inside plain h =
      let exit : Mark = (event bytes Exit n (end_after s.end ss), None) in
      record {
        passes = λ around ys w.
            enters-plain n s.point around ((inside ++ exit ∷ []) ++ ys) plain
            (subst (MarksAre (None ∷ around)) (sym (append_assoc inside (exit ∷ []) ys)) (h.passes (None ∷ around) (exit ∷ ys) (λ i previous. (tt, w (suc i) previous))));
      }

  plain-by-all : IsKeptByAll bytes Plain
  plain-by-all = kept-by-all plain-none plain-both (λ n seats inside f h. plain-span n seats inside (free-plain n f) h)

  plain-kept : IsKept bytes Plain
  plain-kept = some-kept plain-by-all

  plain-leaf : (n : Name) (seats : List Seat) → IsPlain n → Plain (leaf_marks bytes n seats)
  plain-leaf n seats plain = plain-span n seats [] plain plain-none

  plain-chunk : (c : Chunk) (seats : List Seat) → Plain (chunk_span bytes (Some c) name.Data seats [])
  plain-chunk c [] = plain-none
  plain-chunk c (s ∷ ss) = record { passes = λ around ys w i previous. (record { list = λ e. absurd (false≢true e); named = λ e. absurd (false≢true e); item = λ e. absurd (false≢true e) }, (tt, w (suc (suc i)) (Some i))) }

  pub prefixes-plain : (ps : List Prefix) (seats : List Seat) → Plain (prefixes_marks bytes ps seats)
  prefixes-plain ps seats = prefixes-are plain-kept ps seats

  pub begins-plain : (c : Container) (seats : List Seat) → Plain (begun_marks bytes c seats)
  begins-plain c seats = begins-are plain-kept c seats

  -- ---- what is in a section
  chunks-plain : (has_previous : Bool) (ps : List (Piece bytes)) → AllByRecursion (PieceIs bytes Plain) ps → Plain (chunks_of bytes has_previous ps)
  chunks-plain has_previous [] h = plain-none
  chunks-plain has_previous (p ∷ ps) h =
      let c : Chunk = record { content = content.Content; has_previous = has_previous; has_next = not (has_none (flat_map (λ (q : Piece bytes). q.seats) ps)) } in
      plain-both p.before (chunk_span bytes (Some c) name.Data p.seats [] ++ chunks_of bytes true ps) h.0 (plain-both (chunk_span bytes (Some c) name.Data p.seats []) (chunks_of bytes true ps) (plain-chunk c p.seats) (chunks-plain true ps h.1))

  white-plain : (seats : List Seat) → Plain (white bytes seats)
  white-plain seats = plain-leaf name.SpaceOrTab seats (refl, refl)

  of-part : (part : Part) → AllByRecursion (PieceIs bytes Plain) (joined_pieces bytes (pieces_of bytes (is_held part) part.first part.more))
  of-part part = stretch-is bytes Plain (λ (row : Row). Unit {0}) (λ row u. prefixes-plain row.went_on row.line) part (every-all (λ (row : Row). Unit {0}) (λ row. tt) (all_rows part))

  stretch-plain : (ps : List (Piece bytes)) → AllByRecursion (PieceIs bytes Plain) ps → Plain (elim ps [ [] ↦ [] | p ∷ ps ↦ chunks_of bytes false (record p { before = [] } ∷ ps) ])
  stretch-plain [] h = plain-none
  stretch-plain (p ∷ ps) h = chunks-plain false (record p { before = [] } ∷ ps) (plain-none, h.1)

  behind-plain : (columns : ℕ) (ps : List (Piece bytes)) → AllByRecursion (PieceIs bytes Plain) ps
      → Plain (elim ps [ [] ↦ [] | p ∷ ps ↦ white bytes (take columns p.seats) ++ chunks_of bytes false (record p { before = []; seats = drop columns p.seats } ∷ ps) ])
  behind-plain columns [] h = plain-none
  behind-plain columns (p ∷ ps) h =
      plain-both (white bytes (take columns p.seats)) (chunks_of bytes false (record p { before = []; seats = drop columns p.seats } ∷ ps)) (white-plain (take columns p.seats)) (chunks-plain false (record p { before = []; seats = drop columns p.seats } ∷ ps) (plain-none, h.1))

  pub inside-plain : (part : Part) (inside : Inside) → Plain (inside_marks bytes part inside)
  inside-plain part (lines true) = behind-plain (indent (rest_of part.first)) (joined_pieces bytes (pieces_of bytes (is_held part) part.first part.more)) (of-part part)
  inside-plain part (lines false) = cond_both part.first.is_blank _ _ Plain (λ e. white-plain _) (λ e. stretch-plain (joined_pieces bytes (pieces_of bytes (is_held part) part.first part.more)) (of-part part))
  inside-plain part (defined ds) = defined-in-rows plain-kept Plain plain-none plain-both (λ ms h. h) (λ seats inside h. plain-span name.Definition seats inside (refl, refl) h) ds (all_rows part)
  inside-plain part table = table-in-part plain-by-all Plain (λ ms h. h) (λ seats inside h. plain-span name.GfmTable seats inside (refl, refl) h) part

  pub ends-plain : (part : Part) → Plain (ending_marks bytes part)
  ends-plain part =
      cond_both (is_held part) [] (leaf_marks bytes (cond part.first.is_blank name.BlankLineEnding name.LineEnding) (ending_of (last_line bytes part))) Plain (λ e. plain-none)
      (λ e. plain-leaf (cond part.first.is_blank name.BlankLineEnding name.LineEnding) (ending_of (last_line bytes part)) (cond_both part.first.is_blank name.BlankLineEnding name.LineEnding IsPlain (λ b. (refl, refl)) (λ b. (refl, refl))))
