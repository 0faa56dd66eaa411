-- The texts of cells as chains change no chain that was there: where it begins, its chunks, its text, and how a child is divided over it.
use Rattle.std.proofs.Common.{◌≡◌, ◌∙◌, ◌⊎◌, ℕ, zero, suc, ◌+◌, Bool, true, false, cond, List, [], ◌∷◌, ap, inl, inr, length, map, refl, sym}
use Rattle.std.specs.Prelude.{◌&&◌, filter, Option, None, Some, is_none, is_some, option_map, slice_get, unwrap_or}
use Rattle.std.specs.List.{flat_map, range_with_len}
use Rattle.std.specs.Option.{option_and_then}
use Rattle.std.proofs.lemmas.Bool.{false≢true}
use Rattle.markdown_base.specs.declared.event.Content.{Content}
use Rattle.markdown_base.specs.declared.event.Content.TheVariants.{Text as TextContent}
use Rattle.markdown_base.specs.declared.event.Content.TheVariants as content
use Rattle.markdown_base.specs.declared.event.Event.{Event}
use Rattle.markdown_base.specs.declared.event.Link.{Link}
use Rattle.markdown_edits.specs.Links.{content_at, content_of, next_of, previous_of}
use Rattle.markdown_tokenizer.specs.Text.{Given, empty_text, followed_by_all, passed, pushed}
use Rattle.markdown_children.specs.Chains.{begins, chain_from, chain_of, fits, fitting_starts, some_fits}
use Rattle.markdown_children.specs.Children.{chain_changes, child_changes, first_chunk}
use Rattle.markdown_children.specs.Parts.{Divided, divided, divided_over, parts}
use Rattle.markdown_children.specs.Reads.{pieces_behind, pieces_of, text_from, text_of_chain}
use Rattle.markdown_children.specs.Ready.{place_at}
use Rattle.mdblock_table_marks.proofs.CellLemmas.{celled-length}
use Rattle.mdblock_table_marks.specs.Cells.{as_text, celled, enters_cell}
use Rattle.mdblock_table_marks.specs.CellPlaces.{CellsAreFree, is_cell_at}
use Rattle.mddocument.proofs.InContainers.Rising.{filter-same}

-- ---- links alone change

pub no-content : (e : Event) (c : Content) → e.link ≡ None → content_of e ≡ Some c → ⊥
no-content e c none is = false≢true (ap is_some (sym (ap (option_map (λ (l : Link). l.content)) none) ∙ is))

pub event-at : (b : Bool) (es : List Event) (k : ℕ) (e : Event) → slice_get es k ≡ Some e → slice_get (celled b es) k ≡ Some (cond (is_cell_at b es k) (as_text e) e)
event-at b [] zero e h = absurd (false≢true (ap is_some h))
event-at b [] (suc k) e h = absurd (false≢true (ap is_some h))
event-at b (x ∷ es) zero e h = ap (option_map (λ (y : Event). cond b (as_text y) y)) h
event-at b (x ∷ es) (suc k) e h = event-at (enters_cell x) es k e h

pub event-was : (b : Bool) (l : List Event) (k : ℕ) (e : Event) → slice_get (celled b l) k ≡ Some e → (f : Event) × (slice_get l k ≡ Some f)
event-was b [] zero e h = absurd (false≢true (ap is_some h))
event-was b [] (suc k) e h = absurd (false≢true (ap is_some h))
event-was b (x ∷ l) zero e h = (x, refl)
event-was b (x ∷ l) (suc k) e h = event-was (enters_cell x) l k e h

pub place-same : (b : Bool) (es : List Event) (k : ℕ) → place_at (celled b es) k ≡ place_at es k
place-same b [] k = refl
place-same true (e ∷ es) zero = refl
place-same false (e ∷ es) zero = refl
place-same b (e ∷ es) (suc k) = place-same (enters_cell e) es k

pub next-same : (b : Bool) (es : List Event) (k : ℕ) → CellsAreFree b es → next_of (celled b es) k ≡ next_of es k
next-same b [] k h = refl
next-same true (e ∷ es) zero h = sym (ap (option_and_then (λ (l : Link). l.next)) (h.0 refl))
next-same false (e ∷ es) zero h = refl
next-same b (e ∷ es) (suc k) h = next-same (enters_cell e) es k h.1

pub previous-same : (b : Bool) (es : List Event) (k : ℕ) → CellsAreFree b es → previous_of (celled b es) k ≡ previous_of es k
previous-same b [] k h = refl
previous-same true (e ∷ es) zero h = sym (ap (option_and_then (λ (l : Link). l.previous)) (h.0 refl))
previous-same false (e ∷ es) zero h = refl
previous-same b (e ∷ es) (suc k) h = previous-same (enters_cell e) es k h.1

pub content-same : (b : Bool) (es : List Event) (k : ℕ) → is_cell_at b es k ≡ false → content_at (celled b es) k ≡ content_at es k
content-same b [] k h = refl
content-same true (e ∷ es) zero h = absurd (false≢true (sym h))
content-same false (e ∷ es) zero h = refl
content-same b (e ∷ es) (suc k) h = content-same (enters_cell e) es k h

pub content-cell : (b : Bool) (es : List Event) (k : ℕ) → is_cell_at b es k ≡ true → content_at (celled b es) k ≡ Some TextContent
content-cell b [] k h = absurd (false≢true h)
content-cell true (e ∷ es) zero h = refl
content-cell false (e ∷ es) zero h = absurd (false≢true h)
content-cell b (e ∷ es) (suc k) h = content-cell (enters_cell e) es k h

-- what is in a chain is no cell
pub chunk-not : (b : Bool) (es : List Event) (k : ℕ) (c : Content) → CellsAreFree b es → content_at es k ≡ Some c → is_cell_at b es k ≡ false
chunk-not b [] k c h at = refl
chunk-not true (e ∷ es) zero c h at = absurd (no-content e c (h.0 refl) at)
chunk-not false (e ∷ es) zero c h at = refl
chunk-not b (e ∷ es) (suc k) c h at = chunk-not (enters_cell e) es k c h.1 at

pub next-not : (b : Bool) (es : List Event) (k d : ℕ) → CellsAreFree b es → next_of es k ≡ Some d → is_cell_at b es k ≡ false
next-not b [] k d h at = refl
next-not true (e ∷ es) zero d h at = absurd (false≢true (ap is_some (sym (ap (option_and_then (λ (l : Link). l.next)) (h.0 refl)) ∙ at)))
next-not false (e ∷ es) zero d h at = refl
next-not b (e ∷ es) (suc k) d h at = next-not (enters_cell e) es k d h.1 at

pub previous-not : (b : Bool) (es : List Event) (k d : ℕ) → CellsAreFree b es → previous_of es k ≡ Some d → is_cell_at b es k ≡ false
previous-not b [] k d h at = refl
previous-not true (e ∷ es) zero d h at = absurd (false≢true (ap is_some (sym (ap (option_and_then (λ (l : Link). l.previous)) (h.0 refl)) ∙ at)))
previous-not false (e ∷ es) zero d h at = refl
previous-not b (e ∷ es) (suc k) d h at = previous-not (enters_cell e) es k d h.1 at

pub cell-none : (b : Bool) (es : List Event) (k : ℕ) → CellsAreFree b es → is_cell_at b es k ≡ true → content_at es k ≡ None
cell-none b [] k h is = refl
cell-none true (e ∷ es) zero h is = ap (option_map (λ (l : Link). l.content)) (h.0 refl)
cell-none false (e ∷ es) zero h is = absurd (false≢true is)
cell-none b (e ∷ es) (suc k) h is = cell-none (enters_cell e) es k h.1 is

pub either : (b : Bool) → (b ≡ true) ⊎ (b ≡ false)
either true = inl refl
either false = inr refl

-- ---- chains of a content that cells do not have
module _ (es : List Event) (free : CellsAreFree false es) where
  abbrev new : List Event
  new = celled false es

  abbrev of_content : Option Content
  of_content = Some content.Content

  pub fits-same : (k : ℕ) → fits of_content new k ≡ fits of_content es k
  fits-same k = elim (either (is_cell_at false es k)) [
    | inl is ↦ ap (some_fits of_content) (content-cell false es k is) ∙ ap (some_fits of_content) (sym (cell-none false es k free is))
    | inr none ↦ ap (some_fits of_content) (content-same false es k none)
  ]

  begins-same : (k : ℕ) → begins of_content new k ≡ begins of_content es k
  begins-same k = λ i. fits-same k i && is_none (previous-same false es k free i)

  pub starts-same : fitting_starts of_content new ≡ fitting_starts of_content es
  starts-same =
      ap (λ n. filter_by n) (celled-length false es) ∙ filter-same (begins of_content new) (begins of_content es) begins-same (range_with_len 0 (length es))
    where
      filter_by : ℕ → List ℕ
      filter_by n = filter (begins of_content new) (range_with_len 0 n)

  from-same : (n i : ℕ) → chain_from n new i ≡ chain_from n es i
  from-same zero i = refl
  from-same (suc n) i = ap (λ o. i ∷ unwrap_or (option_map (λ d. chain_from n new d) o) []) (next-same false es i free) ∙ by (λ d. from-same n d) (next_of es i)
    where
      by : ((d : ℕ) → chain_from n new d ≡ chain_from n es d) → (o : Option ℕ) → i ∷ unwrap_or (option_map (λ d. chain_from n new d) o) [] ≡ i ∷ unwrap_or (option_map (λ d. chain_from n es d) o) []
      by more None = refl
      by more (Some d) = ap (λ (l : List ℕ). i ∷ l) (more d)

  pub chain-same : (c : ℕ) → chain_of new c ≡ chain_of es c
  chain-same c = ap (λ n. chain_from n new c) (celled-length false es) ∙ from-same (length es) c

  -- ---- their texts
  behind-same : (ks : List ℕ) → pieces_behind new ks ≡ pieces_behind es ks
  behind-same [] = refl
  behind-same (k ∷ ks) = λ i. passed (place-same false es k i) ∷ pushed (place-same false es k i) (place-same false es (k + 1) i) ∷ behind-same ks i

  pieces-same : (ks : List ℕ) → pieces_of new ks ≡ pieces_of es ks
  pieces-same [] = refl
  pieces-same (k ∷ ks) = λ i. pushed (place-same false es k i) (place-same false es (k + 1) i) ∷ behind-same ks i

  pub text-same : (g : Given) (c : ℕ) → text_from g new c ≡ text_from g es c
  text-same g c =
      ap (text_of_chain g new) (chain-same c)
      ∙ (λ i. followed_by_all g (empty_text (place-same false es (first_chunk (chain_of es c)) i)) (pieces-same (chain_of es c) i))

  -- ---- and their children
  ends-same : (ks : List ℕ) → map (λ k. place_at new (k + 1)) ks ≡ map (λ k. place_at es (k + 1)) ks
  ends-same [] = refl
  ends-same (k ∷ ks) = λ i. place-same false es (k + 1) i ∷ ends-same ks i

  divided-same : (c : ℕ) (kid : List Event) → divided new c kid ≡ divided es c kid
  divided-same c kid =
      (λ i. (let d : Divided = record { chunks = chain-same c i; parts = parts (map (λ k. place_at new (k + 1)) (chain-same c i)) kid } in d))
      ∙ (λ i. (let d : Divided = record { chunks = chain_of es c; parts = parts (ends-same (chain_of es c) i) kid } in d))

  over-same : (cs : List ℕ) (kids : List (List Event)) → divided_over new cs kids ≡ divided_over es cs kids
  over-same [] kids = refl
  over-same (c ∷ cs) [] = refl
  over-same (c ∷ cs) (kid ∷ kids) = λ i. divided-same c kid i ∷ over-same cs kids i

  pub changes-same : (kids : List (List Event)) → child_changes of_content new kids ≡ child_changes of_content es kids
  changes-same kids = ap (λ cs. flat_map chain_changes (divided_over new cs kids)) starts-same ∙ ap (λ ds. flat_map chain_changes ds) (over-same (fitting_starts of_content es) kids)
