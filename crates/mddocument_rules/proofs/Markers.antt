-- Each item has the marker of the first item of its list.
use Rattle.std.proofs.Common.{◌≡◌, ◌∙◌, ℕ, zero, suc, ◌+◌, ◌-◌, Bool, true, false, cond, List, [], ◌∷◌, ◌++◌, Some, ap, append_assoc, arith, inl, inr, length, refl, subst, sym}
use Rattle.std.proofs.lemmas.Bool.{cases_lt, eqb-true}
use Rattle.std.proofs.lemmas.List.{length-map}
use Rattle.std.proofs.lemmas.Option.{none-some, same_Some}
use Rattle.std.specs.Prelude.{◌==◌, ◌||◌, slice_get}
use Rattle.markdown_base.proofs.Common.{every-get, get-front}
use Rattle.markdown_base.proofs.Facts.Lists.{get-taken}
use Rattle.markdown_base.specs.declared.configuration.Constructs.{Constructs}
use Rattle.markdown_base.specs.declared.event.Name.TheVariants.{ListOrdered, ListUnordered}
use Rattle.markdown_edits.proofs.Edits.Survivors.{slice_get-behind}
use Rattle.markdown_tokenizer.proofs.Positions.Cursors.{get-after}
use Rattle.mdblock_leaf_blocks.specs.LeafBlocks.{Line}
use Rattle.mdblock_lines.specs.Containers.{Container, Item, Prefix, footnote, item, quote}
use Rattle.mdblock_containers.proofs.RowFacts.{BeganBefore, BeginsIn, BeginsList, is_ordered, went_are}
use Rattle.mdblock_containers.specs.Prefixes.{containers_of, in_place_of}
use Rattle.mdblock_containers.specs.Rows.{Row, nothing_known}
use Rattle.mdblock_containers.specs.Skeleton.{list_name}
use Rattle.mdblock_definitions.proofs.KnownRows.{changed-stack}
use Rattle.mdblock_definitions.specs.Rows.{Known, known_after, row_of, rows, rows_from}
use Rattle.mdblock_definitions.specs.BlankLines.{containers_in}
use Rattle.mddocument_rules.proofs.BegunPlaces.{begins-at, begun-at, ended-first}
use Rattle.mddocument_rules.proofs.OpenRows.{IsBehind, behind-next, first-behind}
use Rattle.mddocument_rules.specs.ListLaws.{IsOfItsList, ItemsHaveTheMarker, ListsHaveOneMarker}

-- each item of these containers is
abbrev pub AreOfTheirLists : List Row → List Container → Type 0
AreOfTheirLists rs cs = (d : ℕ) (i : Item) → slice_get cs d ≡ Some (item i) → IsOfItsList rs d i

module _ (rs : List Row) where
  -- an item of the same list with the same marker
  follows : (d : ℕ) (old i : Item) → IsOfItsList rs d old → i.list ≡ old.list → i.marker ≡ old.marker → list_name i ≡ list_name old → IsOfItsList rs d i
  follows d old i h list marker name = record {
    row = h.row;
    first = h.first;
    line = ap (λ (m : ℕ). slice_get rs (m - 1)) list ∙ h.line;
    stands = h.stands;
    begins = (h.begins.0 ∙ sym list, h.begins.1 ∙ sym list);
    marker = marker ∙ h.marker;
    name = name ∙ h.name;
  }

  -- ---- one line
  module _ (on : Constructs) (k : Known) (n : ℕ) (l : Line) (done rest : List Row) (behind : IsBehind done k n) (all : rs ≡ done ++ row_of on k n l ∷ rest) (are : AreOfTheirLists rs k.before.stack) where
    abbrev r : Row
    r = row_of on k n l

    -- the first item of a list
    begins-list : (d : ℕ) (i : Item) → slice_get (containers_in r) d ≡ Some (item i) → i.line ≡ n → i.list ≡ i.line → IsOfItsList rs d i
    begins-list d i h line list =
        let number = behind.number in
        let at : i.list - 1 ≡ length done = omega (arith, list, line, number) in
        record {
          row = r;
          first = i;
          line = (λ j. slice_get (all j) (at j)) ∙ get-after done (r ∷ rest);
          stands = h;
          begins = (sym list, refl);
          marker = refl;
          name = refl;
        }

    -- an item that takes the place of one
    in-place : (d : ℕ) (i old new : Item) → slice_get (containers_in r) d ≡ Some (item i) → slice_get k.before.stack d ≡ Some (item old) → BeginsIn n (item new) × BeginsList (item new) → (x : Bool) → (old.marker == new.marker) ≡ x
        → item i ≡ item (cond x (record new { list = old.list }) new) → IsOfItsList rs d i
    in-place d i old new h at begins true ex e =
        let same : record new { list = old.list } ≡ i = cc in
        let markers : new.marker ≡ old.marker = sym (eqb-true old.marker new.marker ex) in
        let before : BeganBefore n (item old) = every-get (BeganBefore n) k.before.stack d (item old) behind.old at in
        let names : list_name new ≡ list_name old = ap (λ b. cond b ListOrdered ListUnordered) (begins.0.1.ordered ∙ ap is_ordered markers ∙ sym before.1.ordered) in
        subst (IsOfItsList rs d) same (follows d old (record new { list = old.list }) (are d old at) refl markers names)
    in-place d i old new h at begins false ex e =
        let same : new ≡ i = cc in
        let is = subst (λ (y : Item). (y.line ≡ n) × (y.list ≡ y.line)) same (begins.0.0, begins.1) in
        begins-list d i h is.0 is.1

    new-item : (d : ℕ) (i : Item) (c : Container) → slice_get (containers_in r) d ≡ Some (item i) → BeginsIn n c × BeginsList c → item i ≡ c → IsOfItsList rs d i
    new-item d i (item new) h begins e =
        let same : new ≡ i = cc in
        let is = subst (λ (y : Item). (y.line ≡ n) × (y.list ≡ y.line)) same (begins.0.0, begins.1) in
        begins-list d i h is.0 is.1
    new-item d i (quote m) h begins e = absurd (cc)
    new-item d i (footnote f) h begins e = absurd (cc)

    placed : (d : ℕ) (i : Item) (old new : Container) → slice_get (containers_in r) d ≡ Some (item i) → slice_get k.before.stack d ≡ Some old → BeginsIn n new × BeginsList new → item i ≡ in_place_of old new → IsOfItsList rs d i
    placed d i (item old) (item new) h at begins e = in-place d i old new h at begins (old.marker == new.marker) refl e
    placed d i (item old) (quote m) h at begins e = absurd (cc)
    placed d i (item old) (footnote f) h at begins e = absurd (cc)
    placed d i (quote q) (quote m) h at begins e = absurd (cc)
    placed d i (quote q) (footnote f) h at begins e = absurd (cc)
    placed d i (quote q) (item new) h at begins e = new-item d i (item new) h begins e
    placed d i (footnote f) (quote m) h at begins e = absurd (cc)
    placed d i (footnote f) (footnote g) h at begins e = absurd (cc)
    placed d i (footnote f) (item new) h at begins e = new-item d i (item new) h begins e

    pub line-items : AreOfTheirLists rs (containers_in r)
    line-items d i h =
        let went = containers_of r.went_on in
        let begun = containers_of r.begun in
        elim (cases_lt d (length went)) [
          | inl less ↦
              let there : slice_get went d ≡ Some (item i) = sym (get-front went begun d less) ∙ h in
              let taken = get-taken (length r.went_on) k.before.stack d (item i) (subst (λ (cs : List Container). slice_get cs d ≡ Some (item i)) (went_are on k.before n l) there) in
              are d i taken.1
          | inr more ↦
              let e = d - length went in
              let at : length went + e ≡ d = omega (arith, more) in
              let there : slice_get begun e ≡ Some (item i) = sym (slice_get-behind went begun e) ∙ ap (slice_get (went ++ begun)) at ∙ h in
              elim (begun-at on k n l e (item i) there) [
                | inl t ↦
                    let many : length went ≡ length r.went_on = length-map r.went_on (λ (p : Prefix). p.container) in
                    let first = t.first in
                    let same : d ≡ length r.went_on = omega (arith, at, many, first) in
                    placed d i t.old t.prefix.container h (ap (slice_get k.before.stack) same ∙ ended-first on k n l t.old t.ended_first) (begins-at on k n l 0 t.prefix t.new_first) t.is
                | inr t ↦ new-item d i t.prefix.container h (begins-at on k n l e t.prefix t.new_at) t.is
              ]
        ]

    -- and of those that are open behind it
    pub open-items : AreOfTheirLists rs (known_after on k r).before.stack
    open-items = subst (AreOfTheirLists rs) (sym (changed-stack on k n l)) (by (r.is_left_blank || r.is_lazy))
      where
        by : (x : Bool) → AreOfTheirLists rs (cond x k.before.stack (containers_in r))
        by true = are
        by false = line-items

  -- ---- all lines
  module _ (on : Constructs) where
    lines-items : (done : List Row) (k : Known) (n : ℕ) (ls : List Line) → IsBehind done k n → rs ≡ done ++ rows_from on k n ls → AreOfTheirLists rs k.before.stack → (m : ℕ) (row : Row) → slice_get (rows_from on k n ls) m ≡ Some row → AreOfTheirLists rs (containers_in row)
    lines-items done k n [] behind all are m row h = absurd (none-some row h)
    lines-items done k n (l ∷ ls) behind all are zero row h =
        let rest = rows_from on (known_after on k (row_of on k n l)) (suc n) ls in
        subst (λ (y : Row). AreOfTheirLists rs (containers_in y)) (same_Some (row_of on k n l) row h) (line-items on k n l done rest behind all are)
    lines-items done k n (l ∷ ls) behind all are (suc m) row h =
        let r = row_of on k n l in
        let rest = rows_from on (known_after on k r) (suc n) ls in
        lines-items (done ++ r ∷ []) (known_after on k r) (suc n) ls (behind-next on k n l done behind) (all ∙ sym (append_assoc done (r ∷ []) rest)) (open-items on k n l done rest behind all are) m row h

pub items-have-the-marker : ItemsHaveTheMarker
items-have-the-marker on ls n depth row i line at = lines-items (rows on ls) on [] (record { before = nothing_known on; text = [] }) 1 ls (first-behind on) refl (λ d j h. absurd (none-some (item j) h)) n row line depth i at

-- ---- two items of one list
pub lists-have-one-marker : ListsHaveOneMarker
lists-have-one-marker on ls n m depth row other i j at there x y list =
    let a = items-have-the-marker on ls n depth row i at x in
    let b = items-have-the-marker on ls m depth other j there y in
    let rs = rows on ls in
    let rows-same : a.row ≡ b.row = same_Some a.row b.row (sym a.line ∙ ap (λ (c : ℕ). slice_get rs (c - 1)) list ∙ b.line) in
    let items-same : item a.first ≡ item b.first = same_Some (item a.first) (item b.first) (sym a.stands ∙ ap (λ (z : Row). slice_get (containers_in z) depth) rows-same ∙ b.stands) in
    let first : a.first ≡ b.first = cc in
    a.marker ∙ ap (λ (z : Item). z.marker) first ∙ sym b.marker
