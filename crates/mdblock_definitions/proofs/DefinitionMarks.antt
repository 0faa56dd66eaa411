-- The marks of definitions: whole spans over the virtual bytes of their lines, behind the prefixes of the first one, without links.
use Rattle.std.proofs.Common.{◌≡◌, ℕ, true, false, cond, List, [], ◌∷◌, ◌++◌, append-nil, append_assoc, arith, drop, map, refl, sym, ap, subst, take, ◌∙◌}
use Rattle.std.specs.Prelude.{Some, None}
use Rattle.std.specs.List.{AllByRecursion}
use Rattle.std.proofs.lemmas.Grind.{flat_map-append}
use Rattle.std.proofs.lemmas.List.{drop-append-le, take-append-drop, take-append-le}
use Rattle.markdown_base.proofs.Common.{every-append}
use Rattle.markdown_base.proofs.Seats.{stands-self}
use Rattle.markdown_base.specs.declared.event.Kind.TheVariants.{Enter, Exit}
use Rattle.markdown_base.specs.declared.event.Name.{Name}
use Rattle.markdown_base.specs.Places.{shown, stands_before}
use Rattle.markdown_base.specs.Virtual.{Seat, end_after}
use Rattle.markdown_base.proofs.Balanced.{same_name-refl}
use Rattle.markdown_base.specs.OpenNames.{names_after_all}
use Rattle.mdconstructs_machines.specs.LineEvents.{ending_of, line_text}
use Rattle.mdblock_leaf_blocks.proofs.Lines.WholeLines.{IsWhole}
use Rattle.mdblock_leaf_blocks.proofs.Marks.Courses.{Place as IsPlaceOf, track-on, track-place, track-upto}
use Rattle.mdblock_leaf_blocks.proofs.Marks.LeafSpans.{text-shorter}
use Rattle.mdblock_leaf_blocks.proofs.Marks.MarkAccounts.{AreSpans, accounts-kept}
use Rattle.mdblock_leaf_blocks.proofs.Marks.MarkForms.{Forms, forms-kept}
use Rattle.mdblock_leaf_blocks.proofs.Marks.MarkSpans.{no-spans, spans-around, spans-both}
use Rattle.mdblock_leaf_blocks.specs.LeafEvents.{Mark, leaf_marks}
use Rattle.mdblock_lines.specs.Containers.{Prefix}
use Rattle.mdblock_containers.proofs.PartGoes.{columns_few, seats_of as part_seats, text_first}
use Rattle.mdblock_containers.proofs.PartSpans.{RowFits}
use Rattle.mdblock_containers.proofs.FrameFacts.{none_is}
use Rattle.mdblock_containers.proofs.PrefixSpans.{leaf_unlinked, prefixes_kept, prefixes_unlinked, span_unlinked}
use Rattle.mdblock_containers.proofs.SeatFacts.{line_front, take_text}
use Rattle.mdblock_containers.proofs.SkeletonChains.{Unlinked, unlinked_both}
use Rattle.mdblock_containers.proofs.TightMarks.{Tight, leaf_tight, prefixes_tight, span_tight, tight_more}
use Rattle.mdblock_containers.specs.Prefixes.{columns_of}
use Rattle.mdblock_containers.specs.Rows.{Row, has_none}
use Rattle.mdblock_containers.specs.Skeleton.{prefixes_marks}
use Rattle.mdblock_containers.proofs.AnySpans.{IsKeptByAnySpans, accounts-kept-by}
use Rattle.mdinline_labels.specs.declared.definitions.Definition.{Definition}
use Rattle.mdblock_definitions.specs.Definitions.{all_seats, byte_at, definitions_marks, ending_at, places_in, seats_of}
use Rattle.mdblock_definitions.proofs.DefinitionLines.{line_places}
use Rattle.mdblock_definitions.proofs.DefinitionSpans.{AllHold, AreLaid, definitions-kept}
use Rattle.mdblock_table_marks.specs.CellPlaces.{ends_entering}
use Rattle.mdblock_table_marks.proofs.CellEnds.{IsOut, out-kept-by}
use Rattle.mdblock_table_marks.proofs.CellGaps.{no-cells-end}
use Rattle.mdblock_table_marks.proofs.NoCellMarks.{prefixes-none}

-- ---- what is kept by spans

module _ (bytes : List ℕ) where
  -- marks in order, at places
  pub forms-kept-by : (t : ℕ) → IsKeptByAnySpans bytes (Forms t bytes)
  forms-kept-by t = record {
    none = no-spans bytes (Forms t bytes) (forms-kept t bytes);
    both = λ xs ys a b h k. spans-both bytes (Forms t bytes) (forms-kept t bytes) h k;
    alone = alone;
    around = λ n ss inside void h. spans-around bytes (Forms t bytes) (forms-kept t bytes) n ss inside void h;
  }
    where
      alone : (n : Name) (ss : List Seat) → Forms t bytes (leaf_marks bytes n ss) ss
      alone n [] = no-spans bytes (Forms t bytes) (forms-kept t bytes)
      alone n (s ∷ ss) = λ p rest track.
          let q = end_after s.end ss in
          let there : IsPlaceOf t bytes q = track-place t bytes q rest (track-on t bytes p (s ∷ ss) rest track) in
          let same : shown bytes s.point ≡ p = track.1.meets in
          let upto : stands_before q p ≡ false = track-upto t bytes p (s ∷ ss) rest track in
          let shows : shown bytes q ≡ q = there.is_shown in
          record {
            balanced = λ st. ap (λ b. names_after_all (cond b (Some st) None) []) (same_name-refl n);
            tight = ((λ enter void. (refl, refl)), ((λ enter void. absurd (let both : Exit ≡ Enter = enter in cc)), tt));
            order = (
              ap (λ r. stands_before r p) same ∙ stands-self p,
              ((λ k. stands_before (shows k) (same k)) ∙ upto, ap (stands_before q) shows ∙ stands-self q),
            );
            places = (track.1.seat.here, (subst (IsPlaceOf t bytes) (sym shows) there, tt));
          }

  -- marks with no links, of which each enter of a void span is followed by its exit
  abbrev AreShaped : List Mark → List Seat → Type 0
  AreShaped marks seats = Tight marks × Unlinked marks

  shapes-kept-by : IsKeptByAnySpans bytes AreShaped
  shapes-kept-by = record {
    none = (tt, tt);
    both = λ xs ys a b h k. (tight_more xs ys h.0 k.0, unlinked_both xs ys h.1 k.1);
    alone = λ n ss. (leaf_tight bytes n ss, leaf_unlinked bytes n ss);
    around = λ n ss inside void h. (span_tight bytes n ss inside void h.0, span_unlinked bytes n ss inside h.1);
  }

  -- ---- lines of definitions

  bytes-hold : (P : List Mark → List Seat → Type 0) (kept : IsKeptByAnySpans bytes P) (ss : List Seat) → AllHold bytes P kept (map byte_at ss)
  bytes-hold P kept [] = tt
  bytes-hold P kept (s ∷ ss) = (tt, bytes-hold P kept ss)

  -- the prefixes between lines
  places-hold : (P : List Mark → List Seat → Type 0) (kept : IsKeptByAnySpans bytes P) → ((ps : List Prefix) (ss : List Seat) → IsWhole ss → P (prefixes_marks bytes ps ss) (take (columns_of ps) ss)) → (rs : List Row) → AllByRecursion RowFits rs
      → AllHold bytes P kept (places_in bytes rs)
  places-hold P kept prefixes [] h = tt
  places-hold P kept prefixes (r ∷ []) h = every-append _ (line_places bytes r) [] (bytes-hold P kept (drop r.columns (line_text r.line))) tt
  places-hold P kept prefixes (r ∷ q ∷ qs) h =
      every-append _ (line_places bytes r) (ending_at (ending_of r.line) (take (columns_of q.went_on) q.line) (prefixes_marks bytes q.went_on q.line) ∷ places_in bytes (q ∷ qs)) (bytes-hold P kept (drop r.columns (line_text r.line)))
      (prefixes q.went_on q.line h.1.0.line.whole, places-hold P kept prefixes (q ∷ qs) h.1)

  module _ (ds : List Definition) (rs : List Row) (laid : AreLaid ds (places_in bytes rs)) (fits : AllByRecursion RowFits rs) where
    abbrev marks : List Mark
    marks = definitions_marks bytes ds (places_in bytes rs)

    pub definitions-are-spans : AreSpans bytes marks (seats_of (places_in bytes rs))
    definitions-are-spans = definitions-kept bytes (AreSpans bytes) (accounts-kept-by bytes) ds (places_in bytes rs) laid (places-hold (AreSpans bytes) (accounts-kept-by bytes) (prefixes_kept bytes (AreSpans bytes) (accounts-kept bytes)) rs fits)

    pub definitions-form : (t : ℕ) → Forms t bytes marks (seats_of (places_in bytes rs))
    definitions-form t = definitions-kept bytes (Forms t bytes) (forms-kept-by t) ds (places_in bytes rs) laid (places-hold (Forms t bytes) (forms-kept-by t) (prefixes_kept bytes (Forms t bytes) (forms-kept t bytes)) rs fits)

    pub definitions-are-shaped : Tight marks × Unlinked marks
    definitions-are-shaped = definitions-kept bytes AreShaped shapes-kept-by ds (places_in bytes rs) laid (places-hold AreShaped shapes-kept-by (λ ps ss w. (prefixes_tight bytes ps ss, prefixes_unlinked bytes ps ss)) rs fits)

    -- and end behind the texts of cells
    pub definitions-out : ends_entering false marks ≡ false
    definitions-out = definitions-kept bytes (IsOut bytes) (out-kept-by bytes) ds (places_in bytes rs) laid (places-hold (IsOut bytes) (out-kept-by bytes) (λ ps ss w. no-cells-end (prefixes_marks bytes ps ss) (prefixes-none bytes ps ss)) rs fits)

  -- ---- their virtual bytes

  seats-of-bytes : (ss : List Seat) → seats_of (map byte_at ss) ≡ ss
  seats-of-bytes [] = refl
  seats-of-bytes (s ∷ ss) = ap (λ l. s ∷ l) (seats-of-bytes ss)

  -- the virtual bytes of lines, behind the prefixes of the first one
  pub seats-are : (r : Row) (rs : List Row) → RowFits r → AllByRecursion RowFits rs → AllByRecursion (λ (x : Row). has_none x.begun ≡ true) rs → seats_of (places_in bytes (r ∷ rs)) ≡ drop r.columns (part_seats false r rs)
  seats-are r [] h hs none = ap seats_of (append-nil (line_places bytes r)) ∙ seats-of-bytes (drop r.columns (line_text r.line))
  seats-are r (q ∷ qs) h hs none =
      let w = h.line.whole in
      let few = columns_few 0 bytes r h in
      let size = text-shorter r.line w in
      let x = ending_at (ending_of r.line) (take (columns_of q.went_on) q.line) (prefixes_marks bytes q.went_on q.line) in
      let rest = part_seats false q qs in
      let text = drop r.columns (line_text r.line) in
      let prefix = take (columns_of q.went_on) q.line in
      let line : drop r.columns r.line ≡ text ++ ending_of r.line = ap (drop r.columns) (line_front r.line w) ∙ drop-append-le r.columns (line_text r.line) (ending_of r.line) few in
      let columns : columns_of q.went_on ≡ q.columns = (let none-begun : columns_of q.begun ≡ 0 = ap columns_of (none_is q.begun none.0) in let all = hs.0.columns in omega (arith, none-begun, all)) in
      let begin : take q.columns rest ≡ take q.columns q.line = front q qs hs.0 in
      let behind : prefix ++ drop q.columns rest ≡ rest = ap (λ l. l ++ drop q.columns rest) (ap (λ n. take n q.line) columns ∙ sym begin) ∙ take-append-drop q.columns rest in
      flat_map-append all_seats (line_places bytes r) (x ∷ places_in bytes (q ∷ qs))
      ∙ (λ k. seats-of-bytes text k ++ ((ending_of r.line ++ prefix) ++ seats-are q qs hs.0 hs.1 none.1 k))
      ∙ ap (λ l. text ++ l) (append_assoc (ending_of r.line) prefix (drop q.columns rest) ∙ ap (λ l. ending_of r.line ++ l) behind)
      ∙ sym (append_assoc text (ending_of r.line) rest)
      ∙ ap (λ l. l ++ rest) (sym line)
      ∙ sym (drop-append-le r.columns r.line rest (omega (arith, few, size)))
    where
      front : (q : Row) (qs : List Row) → RowFits q → take q.columns (part_seats false q qs) ≡ take q.columns q.line
      front q qs k =
          let first = text_first false q qs k.line.whole in
          let few = columns_few 0 bytes q k in
          ap (take q.columns) first.1 ∙ take-append-le q.columns (line_text q.line) first.0 few ∙ sym (take_text q.line q.columns k.line.whole few)
