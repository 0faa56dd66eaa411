-- With children and with the texts of cells as chains: a list is the same whichever comes first, if no child has cells.
use Rattle.std.proofs.Common.{◌≡◌, ◌∙◌, ℕ, zero, suc, ◌+◌, ◌<◌, ◌≤◌, Bool, true, false, cond, eqb, List, [], ◌∷◌, ◌++◌, ap, arith, length, map, ne_eqb, refl, subst, sym}
use Rattle.std.specs.Prelude.{◌&&◌, Option, Some, option_map, slice_get}
use Rattle.std.specs.List.{AllByRecursion, flat_map}
use Rattle.std.proofs.Math.Bool.{and-false}
use Rattle.std.proofs.lemmas.Bool.{false≢true}
use Rattle.std.proofs.lemmas.Option.{same_Some}
use Rattle.markdown_base.proofs.Common.{every-append, every-map}
use Rattle.markdown_base.specs.declared.event.Content.{Content}
use Rattle.markdown_base.specs.declared.event.Content.TheVariants as content
use Rattle.markdown_base.specs.declared.event.Event.{Event}
use Rattle.markdown_base.specs.declared.event.Kind.TheVariants.{Exit}
use Rattle.markdown_base.specs.declared.event.Name.TheVariants as name
use Rattle.markdown_base.specs.declared.event.Point.{Point}
use Rattle.markdown_base.specs.Events.{is_enter, is_void, relinked, same_name}
use Rattle.markdown_base.proofs.Balanced.{same_name-true}
use Rattle.markdown_edits.specs.Links.{content_at}
use Rattle.markdown_edits.specs.Woven.{Change, Identity, Tagged, as_listed, changed, events_at, is_removed, is_same, of_addition, of_child, of_list, place_in, placed, placed_end, placed_in, woven}
use Rattle.markdown_tokenizer.proofs.Positions.Order.{every-back, every-cond, every-front}
use Rattle.markdown_children.specs.Chains.{chain_of, fits, fitting_starts}
use Rattle.markdown_children.specs.Children.{chain_changes, child_changes, first_chunk, part_changes, tagged_child, with_children}
use Rattle.markdown_children.specs.Parts.{divided, divided_over, parts}
use Rattle.markdown_children.specs.Ready.{IsReady, place_at}
use Rattle.markdown_children.proofs.ChainOrder.Following.{chunk, inside, some_content}
use Rattle.markdown_children.proofs.Parts.Kept.{joined, joined-parts}
use Rattle.markdown_children.proofs.Parts.Staying.{AtChunk, all-at}
use Rattle.mdblock_table_marks.specs.Cells.{as_text, celled, enters_cell}
use Rattle.mdblock_table_marks.specs.CellPlaces.{CellsAreFree, is_cell_at}
use Rattle.mddocument.proofs.InContainers.CellLinks.{changes-same, chunk-not}
use Rattle.mddocument.proofs.InContainers.Removed.{clear-stays}

-- an event enters no text of a cell
abbrev pub IsPlain : Event → Type 0
IsPlain e = enters_cell e ≡ false

abbrev pub ArePlain : List Event → Type 0
ArePlain es = AllByRecursion IsPlain es

abbrev PlainTags : List Tagged → Type 0
PlainTags us = AllByRecursion (λ (u : Tagged). IsPlain u.event) us

-- ---- identities stay

abbrev celled_tags : (is_cell : Bool) → List Tagged → List Tagged
celled_tags b [] = []
celled_tags b (u ∷ us) = record u { event = cond b (as_text u.event) u.event } ∷ celled_tags (enters_cell u.event) us

place-kept : (i : Identity) (b : Bool) (us : List Tagged) → place_in i (celled_tags b us) ≡ place_in i us
place-kept i b [] = refl
place-kept i b (u ∷ us) = ap (λ (o : Option ℕ). cond (is_same i u.identity) (Some 0) (option_map suc o)) (place-kept i (enters_cell u.event) us)

end-kept : (b : Bool) (us : List Tagged) (i : Identity) (n : ℕ) → placed_end (celled_tags b us) i n ≡ placed_end us i n
end-kept b us (of_list k) n = place-kept (of_list n) b us
end-kept b us (of_child c k) n = place-kept (of_child c n) b us
end-kept b us of_addition n = refl

placed-celled : (ts : List Tagged) (c b : Bool) (us : List Tagged) → placed_in (celled_tags c ts) (celled_tags b us) ≡ celled b (placed_in ts us)
placed-celled ts c b [] = refl
placed-celled ts c true (u ∷ us) = ap (λ es. as_text u.event ∷ es) (placed-celled ts c (enters_cell u.event) us)
placed-celled ts c false (u ∷ us) = λ i. relinked (λ n. end-kept c ts u.identity n i) u.event ∷ placed-celled ts c (enters_cell u.event) us i

-- what comes has no cells
plain-front : (xs us : List Tagged) → PlainTags xs → celled_tags false (xs ++ us) ≡ xs ++ celled_tags false us
plain-front [] us h = refl
plain-front (x ∷ xs) us h = ap (λ b. x ∷ celled_tags b (xs ++ us)) h.0 ∙ ap (λ (l : List Tagged). x ∷ l) (plain-front xs us h.1)

module _ (ws : List Change) where
  -- From an index on: nothing comes before the data of a cell, which stays; what comes, and what goes, enters no text of a cell
  abbrev IsClear : (is_cell : Bool) → ℕ → List Event → Type 0
  IsClear b i [] = events_at ws i ≡ []
  IsClear b i (x ∷ xs) =
      (b ≡ true → (events_at ws i ≡ []) × (is_removed ws i ≡ false)) × (PlainTags (events_at ws i) × ((is_removed ws i ≡ true → IsPlain x) × IsClear (enters_cell x) (i + 1) xs))

  woven-celled : (b : Bool) (i : ℕ) (xs : List Event) → IsClear b i xs → woven ws i (celled b xs) ≡ celled_tags b (woven ws i xs)
  woven-celled b i [] h = h ∙ sym (ap (celled_tags b) h)
  woven-celled true i (x ∷ xs) h =
      let clear = h.0 refl in
      let more = woven-celled (enters_cell x) (i + 1) xs h.1.1.1 in
      (λ k. clear.0 k ++ (cond (clear.1 k) [] (as_listed i (as_text x) ∷ []) ++ more k))
      ∙ sym (λ k. celled_tags true (clear.0 k ++ (cond (clear.1 k) [] (as_listed i x ∷ []) ++ woven ws (i + 1) xs)))
  woven-celled false i (x ∷ xs) h =
      let more = woven-celled (enters_cell x) (i + 1) xs h.1.1.1 in
      ap (λ (l : List Tagged). events_at ws i ++ l) (by (is_removed ws i) h.1.1.0 more)
      ∙ sym (plain-front (events_at ws i) (cond (is_removed ws i) [] (as_listed i x ∷ []) ++ woven ws (i + 1) xs) h.1.0)
    where
      by : (r : Bool) → (r ≡ true → IsPlain x) → woven ws (i + 1) (celled (enters_cell x) xs) ≡ celled_tags (enters_cell x) (woven ws (i + 1) xs)
          → cond r [] (as_listed i x ∷ []) ++ woven ws (i + 1) (celled (enters_cell x) xs) ≡ celled_tags false (cond r [] (as_listed i x ∷ []) ++ woven ws (i + 1) xs)
      by true plain more = more ∙ ap (λ b. celled_tags b (woven ws (i + 1) xs)) (plain refl)
      by false plain more = ap (λ (l : List Tagged). as_listed i x ∷ l) more

  changed-celled : (es : List Event) → IsClear false 0 es → changed ws (celled false es) ≡ celled false (changed ws es)
  changed-celled es h = ap placed (woven-celled false 0 es h) ∙ placed-celled (woven ws 0 es) false false (woven ws 0 es)

-- ---- what children bring

tagged-plain : (c j : ℕ) (es : List Event) → ArePlain es → PlainTags (tagged_child c j es)
tagged-plain c j [] h = tt
tagged-plain c j (e ∷ es) h = (h.0, tagged-plain c (j + 1) es h.1)

joined-plain : (ps : List (List Event)) → ArePlain (joined ps) → AllByRecursion ArePlain ps
joined-plain [] h = tt
joined-plain (p ∷ ps) h = (every-front IsPlain p (joined ps) h, joined-plain ps (every-back IsPlain p (joined ps) h))

parts-plain : (ends : List Point) (es : List Event) → ArePlain es → AllByRecursion ArePlain (parts ends es)
parts-plain [] es h = tt
parts-plain (end ∷ ends) es h = joined-plain (parts (end ∷ ends) es) (subst ArePlain (sym (joined-parts end ends es)) h)

abbrev PlainChanges : List Change → Type 0
PlainChanges ws = AllByRecursion (λ (w : Change). PlainTags w.events) ws

changes-plain : (c j : ℕ) (ks : List ℕ) (ps : List (List Event)) (ws : List Change) → AllByRecursion ArePlain ps → PlainChanges ws → PlainChanges (part_changes c j ks ps ++ ws)
changes-plain c j [] ps ws h k = k
changes-plain c j (n ∷ ks) [] ws h k = k
changes-plain c j (n ∷ ks) (p ∷ ps) ws h k = (tagged-plain c j p h.0, changes-plain c (j + length p) ks ps ws h.1 k)

chains-plain : (es : List Event) (cs : List ℕ) (kids : List (List Event)) → AllByRecursion ArePlain kids → PlainChanges (flat_map chain_changes (divided_over es cs kids))
chains-plain es [] kids h = tt
chains-plain es (c ∷ cs) [] h = tt
chains-plain es (c ∷ cs) (kid ∷ kids) h =
    let d = divided es c kid in
    changes-plain (first_chunk d.chunks) 0 d.chunks d.parts (flat_map chain_changes (divided_over es cs kids)) (parts-plain (map (λ k. place_at es (k + 1)) (chain_of es c)) kid h.0) (chains-plain es cs kids h.1)

come-plain : (ws : List Change) (i : ℕ) → PlainChanges ws → PlainTags (events_at ws i)
come-plain [] i h = tt
come-plain (w ∷ ws) i h =
    let P = λ (u : Tagged). IsPlain u.event in
    every-append P (cond (eqb w.index i) w.events []) (events_at ws i) (every-cond P (eqb w.index i) w.events [] h.0 tt) (come-plain ws i h.1)

none-come : (ws : List Change) (i : ℕ) → AllByRecursion (λ (w : Change). w.index ≡ i → ⊥) ws → events_at ws i ≡ []
none-come [] i h = refl
none-come (w ∷ ws) i h = ap (λ b. cond b w.events [] ++ events_at ws i) (ne_eqb w.index i h.0) ∙ none-come ws i h.1

-- ---- chunks and cells

void-plain : (e : Event) → is_void e.name ≡ true → IsPlain e
void-plain e void = by (same_name e.name name.GfmTableCellText) refl ∙ and-false (is_enter e.kind)
  where
    by : (b : Bool) → same_name e.name name.GfmTableCellText ≡ b → (is_enter e.kind && same_name e.name name.GfmTableCellText) ≡ (is_enter e.kind && false)
    by false is = ap (λ x. is_enter e.kind && x) is
    by true is = absurd (false≢true (sym (ap is_void (same_name-true e.name name.GfmTableCellText is)) ∙ void))

exit-plain : (e : Event) → e.kind ≡ Exit → IsPlain e
exit-plain e exits = ap (λ k. is_enter k && same_name e.name name.GfmTableCellText) exits

-- the data of a cell comes directly behind what enters its text
cell-behind : (b : Bool) (es : List Event) (k : ℕ) (e : Event) → slice_get es k ≡ Some e → is_cell_at b es (suc k) ≡ true → enters_cell e ≡ true
cell-behind b [] k e at is = absurd (false≢true is)
cell-behind b (x ∷ []) zero e at is = absurd (false≢true is)
cell-behind b (x ∷ y ∷ es) zero e at is = sym (ap enters_cell (same_Some x e at)) ∙ is
cell-behind b (x ∷ es) (suc k) e at is = cell-behind (enters_cell x) es k e at is

module _ (t : ℕ) (bytes : List ℕ) (wanted : Option Content) (es : List Event) (ready : IsReady t bytes wanted es) (free : CellsAreFree false es) (kids : List (List Event)) (plain : AllByRecursion ArePlain kids) where
  abbrev ws : List Change
  ws = child_changes wanted es kids

  chunk-plain : (k : ℕ) → fits wanted es k ≡ true → (is_cell_at false es k ≡ false) × ((e : Event) → slice_get es k ≡ Some e → IsPlain e)
  chunk-plain k fit =
      let linked = some_content wanted (content_at es k) fit in
      let c = chunk t bytes wanted es ready k fit in
      (chunk-not false es k linked.0 free linked.1, λ e at. subst IsPlain (same_Some c.enter e (sym c.enter_at ∙ at)) (void-plain c.enter c.linked.void))

  exits-plain : (k : ℕ) → fits wanted es k ≡ true → (e : Event) → slice_get es (suc k) ≡ Some e → IsPlain e
  exits-plain k fit e at =
      let c = chunk t bytes wanted es ready k fit in
      let next : k + 1 ≡ suc k = omega arith in
      subst IsPlain (same_Some c.exit e (sym c.exit_at ∙ ap (slice_get es) next ∙ at)) (exit-plain c.exit c.ended.exits)

  -- no chunk is a cell, nor does its exit come directly behind what enters one
  cell-apart : (i : ℕ) → is_cell_at false es i ≡ true → (k : ℕ) → fits wanted es k ≡ true → (k ≡ i → ⊥) × (k < i → k + 2 ≤ i)
  cell-apart i is k fit =
      let one = chunk-plain k fit in
      let other : k ≡ i → ⊥ = λ e. false≢true (sym one.0 ∙ ap (is_cell_at false es) e ∙ is) in
      let behind : suc k ≡ i → ⊥ = λ e.
      let c = chunk t bytes wanted es ready k fit in
      false≢true (sym (one.1 c.enter c.enter_at) ∙ cell-behind false es k c.enter c.enter_at (ap (is_cell_at false es) e ∙ is)) in
      (other, λ less. omega (arith, less, behind))

  enter-apart : (i : ℕ) (e : Event) → slice_get es i ≡ Some e → enters_cell e ≡ true → (k : ℕ) → fits wanted es k ≡ true → (k ≡ i → ⊥) × (k < i → k + 2 ≤ i)
  enter-apart i e at is k fit =
      let one = chunk-plain k fit in
      let other : k ≡ i → ⊥ = λ same. false≢true (sym (one.1 e (ap (slice_get es) same ∙ at)) ∙ is) in
      let behind : suc k ≡ i → ⊥ = λ same. false≢true (sym (exits-plain k fit e (ap (slice_get es) same ∙ at)) ∙ is) in
      (other, λ less. omega (arith, less, behind))

  at-chunks : AllByRecursion (AtChunk t bytes wanted es ready kids) ws
  at-chunks = all-at t bytes wanted es ready kids

  none-at : (i : ℕ) → ((k : ℕ) → fits wanted es k ≡ true → k ≡ i → ⊥) → events_at ws i ≡ []
  none-at i other = none-come ws i (every-map (AtChunk t bytes wanted es ready kids) (λ (w : Change). w.index ≡ i → ⊥) (λ w at. other w.index at.0) ws at-chunks)

  cell-clear : (i : ℕ) → is_cell_at false es i ≡ true → (events_at ws i ≡ []) × (is_removed ws i ≡ false)
  cell-clear i is = (none-at i (λ k fit. (cell-apart i is k fit).0), clear-stays t bytes wanted es ready kids i (cell-apart i is))

  gone-plain : (i : ℕ) (e : Event) → slice_get es i ≡ Some e → is_removed ws i ≡ true → IsPlain e
  gone-plain i e at gone = by (enters_cell e) refl
    where
      by : (b : Bool) → enters_cell e ≡ b → b ≡ false
      by false is = refl
      by true is = absurd (false≢true (sym (clear-stays t bytes wanted es ready kids i (enter-apart i e at is)) ∙ gone))

  end-clear : events_at ws (length es) ≡ []
  end-clear = none-at (length es) (λ k fit e. let within = inside t bytes wanted es ready k fit in omega (arith, within, e))

  come : (i : ℕ) → PlainTags (events_at ws i)
  come i = come-plain ws i (chains-plain es (fitting_starts wanted es) kids plain)

  clear-from : (b : Bool) (i : ℕ) (xs : List Event) → i + length xs ≡ length es → ((k : ℕ) → is_cell_at b xs k ≡ true → is_cell_at false es (i + k) ≡ true) → ((k : ℕ) (e : Event) → slice_get xs k ≡ Some e → slice_get es (i + k) ≡ Some e)
      → IsClear ws b i xs
  clear-from b i [] many cells there = let all : i ≡ length es = omega (arith, many) in ap (events_at ws) all ∙ end-clear
  clear-from b i (x ∷ xs) many cells there =
      let here : i + 0 ≡ i = omega arith in
      let next : (k : ℕ) → i + suc k ≡ (i + 1) + k = λ k. omega arith in (
        (λ is. cell-clear i (sym (ap (is_cell_at false es) here) ∙ cells 0 is)),
        (come i, (gone-plain i x (sym (ap (slice_get es) here) ∙ there 0 x refl), clear-from (enters_cell x) (i + 1) xs (omega (arith, many)) (λ k is. sym (ap (is_cell_at false es) (next k)) ∙ cells (suc k) is) (λ k e at. sym (ap (slice_get es) (next k)) ∙ there (suc k) e at))),
      )

  clear : IsClear ws false 0 es
  clear = clear-from false 0 es (omega arith) (λ k is. ap (is_cell_at false es) (zero-plus k) ∙ is) (λ k e at. ap (slice_get es) (zero-plus k) ∙ at)
    where
      zero-plus : (k : ℕ) → 0 + k ≡ k
      zero-plus k = omega arith

  pub celled-changed : changed ws (celled false es) ≡ celled false (changed ws es)
  celled-changed = changed-celled ws es clear

-- The children of chains of content, and the texts of cells
pub celled-children : (t : ℕ) (bytes : List ℕ) (es : List Event) → IsReady t bytes (Some content.Content) es → CellsAreFree false es → (kids : List (List Event)) → AllByRecursion ArePlain kids
    → with_children (Some content.Content) (celled false es) kids ≡ celled false (with_children (Some content.Content) es kids)
celled-children t bytes es ready free kids plain =
    ap (λ ws. changed ws (celled false es)) (changes-same es free kids) ∙ celled-changed t bytes (Some content.Content) es ready free kids plain
