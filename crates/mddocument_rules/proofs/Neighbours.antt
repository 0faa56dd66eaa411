-- Two lists in a row have different markers, and between two quotes in a row is a blank line.
use Rattle.std.proofs.Common.{◌≡◌, ◌∙◌, ℕ, ◌+◌, ◌<◌, ◌≤◌, Bool, true, false, cond, List, [], ◌∷◌, None, Option, Some, ap, arith, drop, eq-eqb, inl, inr, length, refl, subst, sym, take}
use Rattle.std.proofs.lemmas.Bool.{eqb-true, false≢true}
use Rattle.std.proofs.lemmas.Bool.Decides.{nat_tests}
use Rattle.std.proofs.lemmas.List.{drop-drop}
use Rattle.std.proofs.lemmas.List.Sums.{sum_by-cons}
use Rattle.std.proofs.lemmas.Option.{none-some, same_Some, slice_get_within}
use Rattle.std.specs.Prelude.{◌==◌, ◌&&◌, ◌||◌, ◌↔◌, not, nat_le, nat_lt, slice_get}
use Rattle.markdown_base.proofs.Common.{every-get}
use Rattle.markdown_base.proofs.Facts.Lists.{get-take}
use Rattle.markdown_base.specs.declared.configuration.Constructs.{Constructs}
use Rattle.mdblock_leaf_blocks.specs.LeafBlocks.{Line, text_of}
use Rattle.mdblock_leaf_blocks.specs.LineKinds.{begins_with, indent, is_blank_line, is_thematic_break, unindented}
use Rattle.mdblock_lines.specs.Containers.{Container, Item, Prefix, begins, footnote, footnote_at, goes_on, is_footnote, item, item_at, may_begin_item, quote, quote_size, Quote}
use Rattle.mdblock_containers.proofs.RowFacts.{BeganBefore, BeginsIn, BeginsList}
use Rattle.mdblock_containers.specs.Prefixes.{columns_of, containers_of, going_on, in_place_of}
use Rattle.mdblock_containers.specs.Rows.{Row}
use Rattle.mdblock_definitions.specs.Rows.{Known, row_of}
use Rattle.mddocument_rules.proofs.BegunPlaces.{begins-at, begins-first, begun-first, in_paragraph, left}
use Rattle.mddocument_rules.proofs.NearQuotes.{IsNear}
use Rattle.mddocument_rules.proofs.OpenRows.{GoesOn, read-behind}
use Rattle.mddocument_rules.specs.ListLaws.{EndsBlank, NeighboursDiffer, QuotesAreApart}

-- ---- items in a row

one-list : (n : ℕ) (old new j : Item) → BeganBefore n (item old) → BeginsIn n (item new) × BeginsList (item new) → (x : Bool) → (old.marker == new.marker) ≡ x → item j ≡ item (cond x (record new { list = old.list }) new) → (old.list ≡ j.list) ↔ (old.marker ≡ j.marker)
one-list n old new j before begins true ex e =
    let same : record new { list = old.list } ≡ j = cc in
    ((λ h. eqb-true old.marker new.marker ex ∙ ap (λ (y : Item). y.marker) same), (λ h. ap (λ (y : Item). y.list) same))
one-list n old new j before begins false ex e =
    let same : new ≡ j = cc in
    let less = before.0 in
    let list = before.1.list in
    let here = begins.0.0 in
    let first = begins.1 in (
      (λ h. let other : old.list ≡ new.list = h ∙ ap (λ (y : Item). y.list) (sym same) in absurd (omega (arith, less, list, here, first, other))),
      (λ h. absurd (false≢true (sym ex ∙ eq-eqb old.marker new.marker (h ∙ ap (λ (y : Item). y.marker) (sym same))))),
    )

by-place : (n : ℕ) (old j : Item) (c : Container) → BeganBefore n (item old) → BeginsIn n c × BeginsList c → item j ≡ in_place_of (item old) c → (old.list ≡ j.list) ↔ (old.marker ≡ j.marker)
by-place n old j (item new) before begins e = one-list n old new j before begins (old.marker == new.marker) refl e
by-place n old j (quote m) before begins e = absurd (cc)
by-place n old j (footnote f) before begins e = absurd (cc)

pub neighbours-differ : NeighboursDiffer
neighbours-differ on ls i j b =
    let at = read-behind on ls b.before b.row b.behind b.lines in
    let k = at.known in
    let n = at.number in
    let r = row_of on k n at.line in
    let stood : slice_get k.before.stack (length r.went_on) ≡ Some (item i) = (λ x. slice_get (at.behind.stack x) (length (sym at.is x).went_on)) ∙ b.ended in
    let begun : slice_get (containers_of r.begun) 0 ≡ Some (item j) = (λ x. slice_get (containers_of (sym at.is x).begun) 0) ∙ b.begins in
    let first = begun-first on k n at.line (item i) (item j) stood begun in
    by-place n i j first.0.container (every-get (BeganBefore n) k.before.stack (length r.went_on) (item i) at.behind.old stood) (begins-at on k n at.line 0 first.0 first.1) first.2

-- ---- quotes in a row

-- the container at which others stop does not go on
stops-at : (cs : List Container) (n : ℕ) (t : List ℕ) (c : Container) → slice_get cs (length (going_on cs n t)) ≡ Some c → goes_on c n (drop (columns_of (going_on cs n t)) t) ≡ None
stops-at [] n t c h = absurd (none-some c h)
stops-at (d ∷ cs) n t c h = by (goes_on d n t) refl h (λ u. stops-at cs n u c)
  where
    by : (o : Option ℕ) → goes_on d n t ≡ o
        → slice_get (d ∷ cs) (length (elim o as (λ _. List Prefix) [ None ↦ [] | Some s ↦ record { container = d; size = s } ∷ going_on cs n (drop s t) ])) ≡ Some c
        → ((u : List ℕ) → slice_get cs (length (going_on cs n u)) ≡ Some c → goes_on c n (drop (columns_of (going_on cs n u)) u) ≡ None)
        → goes_on c n (drop (columns_of (elim o as (λ _. List Prefix) [ None ↦ [] | Some s ↦ record { container = d; size = s } ∷ going_on cs n (drop s t) ])) t) ≡ None
    by None e h rest = let same : d ≡ c = same_Some d c h in subst (λ (x : Container). goes_on x n t ≡ None) same e
    by (Some s) e h rest =
        let p : Prefix = record { container = d; size = s } in
        let ps = going_on cs n (drop s t) in
        let all : columns_of (p ∷ ps) ≡ s + columns_of ps = sum_by-cons (λ (q : Prefix). q.size) p ps in
        ap (λ (u : List ℕ). goes_on c n u) (ap (λ (m : ℕ). drop m t) all ∙ sym (drop-drop (columns_of ps) s t)) ∙ rest (drop s t) h

abbrev is_quote : Container → Bool
is_quote (quote q) = true
is_quote (item i) = false
is_quote (footnote f) = false

-- a quote that begins would go on: no more white space is before it
would-go : (on : Constructs) (n : ℕ) (in_text : Bool) (t : List ℕ) (p : Prefix) (first second : Quote) → first.is_near ≡ on.code_indented → begins on n in_text t ≡ Some p → quote second ≡ p.container → goes_on (quote first) n t ≡ None → ⊥
would-go on n in_text t p first second near e is stop =
    by (on.code_indented && nat_le 4 (indent t)) (is_blank_line t || (on.thematic_break && is_thematic_break (unindented t))) on.block_quote (begins_with 62 (unindented t)) (on.gfm_footnote_definition && is_footnote (unindented t)) (on.list_item && may_begin_item in_text (unindented t)) e
    (ap (λ b. cond (begins_with 62 (unindented t) && not (b && nat_le 4 (indent t))) (Some (quote_size t)) None) (sym near) ∙ stop)
  where
    no-quote : (q : Prefix) → is_quote q.container ≡ false → Some q ≡ Some p → ⊥
    no-quote q other e = false≢true (sym other ∙ ap (λ (x : Prefix). is_quote x.container) (same_Some q p e) ∙ ap is_quote (sym is))

    by : (far other quoted sign noted listed : Bool)
        → cond (far || other) None
        (cond (quoted && sign) (Some (record { container = quote (record { line = n; is_near = on.code_indented }); size = quote_size t })) (cond noted (Some (footnote_at n t)) (cond listed (Some (item_at n t)) None))) ≡ Some p
        → cond (sign && not far) (Some (quote_size t)) None ≡ None → ⊥
    by true other quoted sign noted listed e s = none-some p e
    by false true quoted sign noted listed e s = none-some p e
    by false false quoted true noted listed e s = none-some (quote_size t) (sym s)
    by false false true false true listed e s = no-quote (footnote_at n t) refl e
    by false false true false false true e s = no-quote (item_at n t) refl e
    by false false true false false false e s = none-some p e
    by false false false false true listed e s = no-quote (footnote_at n t) refl e
    by false false false false false true e s = no-quote (item_at n t) refl e
    by false false false false false false e s = none-some p e

quote-place : (q : Quote) (c : Container) → in_place_of (quote q) c ≡ c
quote-place q (quote r) = refl
quote-place q (item i) = refl
quote-place q (footnote f) = refl

-- where a quote begins in the place of one, all that went on so far goes on
module _ (on : Constructs) (k : Known) (n : ℕ) (l : Line) (first second : Quote) (near : first.is_near ≡ on.code_indented) where
  abbrev r : Row
  r = row_of on k n l

  stops : slice_get k.before.stack (length r.went_on) ≡ Some (quote first) → slice_get (containers_of r.begun) 0 ≡ Some (quote second) → length r.went_on < k.before.depth → ⊥
  stops stood begun less =
      let b = begun-first on k n l (quote first) (quote second) stood begun in
      let stays : slice_get (take k.before.depth k.before.stack) (length r.went_on) ≡ Some (quote first) = get-take k.before.depth k.before.stack (length r.went_on) less ∙ stood in
      would-go on n (in_paragraph on k n l) (left on k n l) b.0 first second near (begins-first on k n l b.0 b.1) (b.2 ∙ quote-place first b.0.container) (stops-at (take k.before.depth k.before.stack) n (text_of l) (quote first) stays)

  all-go : slice_get k.before.stack (length r.went_on) ≡ Some (quote first) → slice_get (containers_of r.begun) 0 ≡ Some (quote second) → k.before.depth ≤ length r.went_on
  all-go stood begun = by (nat_lt (length r.went_on) k.before.depth) refl
    where
      by : (x : Bool) → nat_lt (length r.went_on) k.before.depth ≡ x → k.before.depth ≤ length r.went_on
      by true e = let less : length r.went_on < k.before.depth = grind (arith, nat_tests) in absurd (stops stood begun less)
      by false e = grind (arith, nat_tests)

  -- so the line before is blank
  blank-before : (before : List Row) → GoesOn k.before before → slice_get k.before.stack (length r.went_on) ≡ Some (quote first) → slice_get (containers_of r.begun) 0 ≡ Some (quote second) → EndsBlank (length r.went_on) before
  blank-before before (inl all) stood begun =
      let inside = slice_get_within k.before.stack (length r.went_on) (quote first) stood in
      let goes = all-go stood begun in
      absurd (omega (arith, all, inside, goes))
  blank-before before (inr z) stood begun =
      let depth = z.depth in
      let goes = all-go stood begun in
      record { front = z.front; blank = z.blank; is_last = z.is_last; is_blank = z.is_blank; outside = omega (arith, depth, goes) }

pub quotes-are-apart : QuotesAreApart
quotes-are-apart on ls first second b =
    let at = read-behind on ls b.before b.row b.behind b.lines in
    let k = at.known in
    let r = row_of on k at.number at.line in
    let stood : slice_get k.before.stack (length r.went_on) ≡ Some (quote first) = (λ x. slice_get (at.behind.stack x) (length (sym at.is x).went_on)) ∙ b.ended in
    let begun : slice_get (containers_of r.begun) 0 ≡ Some (quote second) = (λ x. slice_get (containers_of (sym at.is x).begun) 0) ∙ b.begins in
    let near : first.is_near ≡ on.code_indented = every-get (IsNear on) k.before.stack (length r.went_on) (quote first) at.near stood in
    subst (λ (y : Row). EndsBlank (length y.went_on) b.before) (sym at.is) (blank-before on k at.number at.line first second near b.before at.behind.depth stood begun)
