-- The marks of tables: whole spans over the virtual bytes of their lines, behind the prefixes of the first one, without links.
use Rattle.std.proofs.Common.{◌≡◌, ℕ, suc, ◌+◌, cond, List, [], ◌∷◌, ◌++◌, append-nil, arith, drop, refl, sym, ap, subst, take, ◌∙◌}
use Rattle.std.specs.Prelude.{Some, None}
use Rattle.std.specs.List.{AllByRecursion}
use Rattle.std.proofs.lemmas.List.{map-append, take-append-drop}
use Rattle.std.proofs.lemmas.List.Sums.{sum_by-cons}
use Rattle.markdown_base.specs.declared.event.Kind.TheVariants.{Exit}
use Rattle.markdown_base.specs.declared.event.Name.{Name}
use Rattle.markdown_base.specs.declared.event.Name.TheVariants as name
use Rattle.markdown_base.specs.Events.{IsVoidTight}
use Rattle.markdown_base.specs.Virtual.{Seat, end_after}
use Rattle.markdown_base.proofs.Balanced.{balanced_from_open, names_after_all-append, same_name-refl}
use Rattle.markdown_base.specs.OpenNames.{names_after_all}
use Rattle.mdconstructs_machines.specs.Innermost.{AccountFor}
use Rattle.mdconstructs_machines.specs.Spans.{event}
use Rattle.mdblock_leaf_blocks.proofs.Marks.MarkAccounts.{AreSpans}
use Rattle.mdblock_leaf_blocks.specs.LeafBlocks.{bytes_of}
use Rattle.mdblock_leaf_blocks.specs.LeafEvents.{Mark, leaf_marks, span_marks, white}
use Rattle.mdblock_leaf_blocks.specs.LineKinds.{indent}
use Rattle.mdblock_lines.specs.Containers.{Container, footnote, item, Prefix, quote}
use Rattle.mdblock_containers.proofs.JoinLemmas.{plain_span}
use Rattle.mdblock_containers.proofs.PrefixSpans.{leaf_unlinked, next_part, span_unlinked, take_more}
use Rattle.mdblock_containers.proofs.SkeletonChains.{Unlinked, unlinked_both}
use Rattle.mdblock_containers.proofs.TightMarks.{Tight, events_tight, leaf_tight, span_tight, tight_more}
use Rattle.mdblock_containers.proofs.WrittenLemmas.{chained_none, plain_append}
use Rattle.mdblock_containers.specs.Prefixes.{columns_of}
use Rattle.mdblock_containers.specs.Rows.{Row}
use Rattle.mdblock_containers.specs.SeatPlaces.{events_of}
use Rattle.mdblock_containers.specs.Skeleton.{going_marks, prefixes_marks}
use Rattle.mdblock_containers.specs.Written.{NoChunk}
use Rattle.mdblock_containers.proofs.AnySpans.{IsKeptByAnySpans, accounts-kept-by}
use Rattle.mdblock_table_marks.specs.Laws.{TablesAccount, TablesAreBalanced, TablesAreVoidTight, TablesHaveNoChunks}
use Rattle.mdblock_table_marks.specs.TableMarks.{rows_marks, rows_seats}
use Rattle.mdblock_table_marks.proofs.TableSpans.{PrefixHolds, tables-kept}

module _ (bytes : List ℕ) (P : List Mark → List Seat → Type 0) (kept : IsKeptByAnySpans bytes P) where
  going-holds : (c : Container) (ss : List Seat) → P (going_marks bytes c ss) ss
  going-holds (quote q) ss =
      let n = indent (bytes_of ss) in
      let inside = drop n ss in
      let marker = leaf_marks bytes name.BlockQuoteMarker (take 1 inside) in
      let space = white bytes (drop (suc n) ss) in
      let one : suc n ≡ n + 1 = omega arith in
      let whole : take 1 inside ++ drop (suc n) ss ≡ inside = ap (λ k. take 1 inside ++ drop k ss) one ∙ next_part n 1 ss in
      subst (P (going_marks bytes (quote q) ss)) (take-append-drop n ss)
      (kept.both (white bytes (take n ss)) (span_marks bytes name.BlockQuotePrefix inside (marker ++ space)) (take n ss) inside (kept.alone name.SpaceOrTab (take n ss))
      (kept.around name.BlockQuotePrefix inside (marker ++ space) refl
      (subst (P (marker ++ space)) whole (kept.both marker space (take 1 inside) (drop (suc n) ss) (kept.alone name.BlockQuoteMarker (take 1 inside)) (kept.alone name.SpaceOrTab (drop (suc n) ss))))))
  going-holds (item i) ss = kept.alone name.SpaceOrTab ss
  going-holds (footnote f) ss = kept.alone name.SpaceOrTab ss

  prefixes-hold : (ps : List Prefix) (ss : List Seat) → P (prefixes_marks bytes ps ss) (take (columns_of ps) ss)
  prefixes-hold [] ss = kept.none
  prefixes-hold (p ∷ ps) ss =
      let all : columns_of (p ∷ ps) ≡ p.size + columns_of ps = sum_by-cons (λ (q : Prefix). q.size) p ps in
      subst (P (prefixes_marks bytes (p ∷ ps) ss)) (take_more p.size (columns_of ps) ss ∙ ap (λ k. take k ss) (sym all))
      (kept.both (going_marks bytes p.container (take p.size ss)) (prefixes_marks bytes ps (drop p.size ss)) (take p.size ss) (take (columns_of ps) (drop p.size ss)) (going-holds p.container (take p.size ss)) (prefixes-hold ps (drop p.size ss)))

  all-hold : (rows : List Row) → AllByRecursion (PrefixHolds bytes P kept) rows
  all-hold [] = tt
  all-hold (row ∷ rows) = (prefixes-hold row.went_on row.line, all-hold rows)

  -- what any spans keep holds of all tables
  pub tables-keep : (header : Row) (rows : List Row) → P (rows_marks bytes header rows) (rows_seats (header ∷ rows))
  tables-keep header rows = tables-kept bytes P kept header rows (all-hold rows)

module _ (bytes : List ℕ) where
  -- ---- accounts of virtual bytes
  pub tables-are-spans : (header : Row) (rows : List Row) → AreSpans bytes (rows_marks bytes header rows) (rows_seats (header ∷ rows))
  tables-are-spans header rows = tables-keep bytes (AreSpans bytes) (accounts-kept-by bytes) header rows

  -- ---- marks with no links, of which each enter of a void span is followed by its exit
  abbrev AreShaped : List Mark → List Seat → Type 0
  AreShaped marks seats = Tight marks × Unlinked marks

  shapes-in-tables : IsKeptByAnySpans bytes AreShaped
  shapes-in-tables = record {
    none = (tt, tt);
    both = λ xs ys a b h k. (tight_more xs ys h.0 k.0, unlinked_both xs ys h.1 k.1);
    alone = λ n ss. (leaf_tight bytes n ss, leaf_unlinked bytes n ss);
    around = λ n ss inside void h. (span_tight bytes n ss inside void h.0, span_unlinked bytes n ss inside h.1);
  }

  pub tables-are-shaped : (header : Row) (rows : List Row) → Tight (rows_marks bytes header rows) × Unlinked (rows_marks bytes header rows)
  tables-are-shaped header rows = tables-keep bytes AreShaped shapes-in-tables header rows

  -- ---- no chunks
  abbrev IsPlain : List Mark → List Seat → Type 0
  IsPlain marks seats = NoChunk marks

  plain-in-tables : IsKeptByAnySpans bytes IsPlain
  plain-in-tables = record {
    none = tt;
    both = λ xs ys a b h k. plain_append xs ys h k;
    alone = λ n ss. plain_span bytes n ss [] tt;
    around = λ n ss inside void h. plain_span bytes n ss inside h;
  }

  pub plain-tables : (header : Row) (rows : List Row) → NoChunk (rows_marks bytes header rows)
  plain-tables header rows = tables-keep bytes IsPlain plain-in-tables header rows

  -- ---- balance
  abbrev IsEven : List Mark → List Seat → Type 0
  IsEven marks seats = (st : List Name) → names_after_all (Some st) (events_of marks) ≡ Some st

  even-both : (xs ys : List Mark) (a b : List Seat) → IsEven xs a → IsEven ys b → IsEven (xs ++ ys) (a ++ b)
  even-both xs ys a b h k st =
      ap (names_after_all (Some st)) (map-append (λ (m : Mark). m.0) xs ys) ∙ names_after_all-append (Some st) (events_of xs) (events_of ys) ∙ ap (λ o. names_after_all o (events_of ys)) (h st) ∙ k st

  even-around : (n : Name) (ss : List Seat) (inside : List Mark) → IsEven inside ss → IsEven (span_marks bytes n ss inside) ss
  even-around n [] inside h st = h st
  even-around n (s ∷ ss) inside h st =
      let exit : Mark = (event bytes Exit n (end_after s.end ss), None) in
      ap (names_after_all (Some (n ∷ st))) (map-append (λ (m : Mark). m.0) inside (exit ∷ [])) ∙ names_after_all-append (Some (n ∷ st)) (events_of inside) (exit.0 ∷ [])
      ∙ ap (λ o. names_after_all o (exit.0 ∷ [])) (h (n ∷ st)) ∙ ap (λ b. names_after_all (cond b (Some st) None) []) (same_name-refl n)

  even-in-tables : IsKeptByAnySpans bytes IsEven
  even-in-tables = record {
    none = λ st. refl;
    both = even-both;
    alone = λ n ss. even-around n ss [] (λ st. refl);
    around = λ n ss inside void h. even-around n ss inside h;
  }

-- ---- the laws
pub tables_account : TablesAccount
tables_account bytes header rows =
    let marks = rows_marks bytes header rows in
    let seats = rows_seats (header ∷ rows) in
    let nothing : AccountFor [] bytes [] = record { stretches = []; are_all = refl; are_innermost = refl } in
    let h = (tables-are-spans bytes header rows).account [] [] nothing in
    subst (λ es. AccountFor es bytes seats) (append-nil (events_of marks)) (subst (AccountFor (events_of marks ++ []) bytes) (append-nil seats) h)

pub tables_are_balanced : TablesAreBalanced
tables_are_balanced bytes header rows = balanced_from_open (events_of (rows_marks bytes header rows)) (tables-keep bytes (IsEven bytes) (even-in-tables bytes) header rows [])

pub tables_are_void_tight : TablesAreVoidTight
tables_are_void_tight bytes header rows =
    let marks = rows_marks bytes header rows in
    subst IsVoidTight (chained_none 0 None marks (plain-tables bytes header rows)) (events_tight 0 None marks (tables-are-shaped bytes header rows).0)

pub tables_have_no_chunks : TablesHaveNoChunks
tables_have_no_chunks bytes header rows = plain-tables bytes header rows
