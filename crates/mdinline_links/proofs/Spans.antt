-- The outermost spans of a list. Those of a balanced list are balanced, and those of a list without links have none.
use Rattle.std.proofs.Common.{◌≡◌, ◌==◌, ◌∙◌, ℕ, zero, suc, List, [], ◌∷◌, ◌++◌, Bool, true, false, cond, Some, length, ap, inl, inr, refl, subst, sym}
use Rattle.std.proofs.Math.Seq.{drop-append_seam, take-append_seam}
use Rattle.std.proofs.lemmas.Bool.{cases_Bool}
use Rattle.std.specs.List.{AllByRecursion}
use Rattle.markdown_base.specs.declared.event.Event.{Event}
use Rattle.markdown_base.specs.declared.event.Name.{Name}
use Rattle.markdown_base.specs.Events.{IsBalanced}
use Rattle.markdown_base.proofs.Balanced.{balanced_from_open, names-none, names_after_balanced}
use Rattle.markdown_base.specs.OpenNames.{names_after, names_after_all}
use Rattle.markdown_tokenizer.proofs.Readings.Plain.{no-links-drop, no-links-take}
use Rattle.markdown_tokenizer.specs.Plain.{HaveNoLinks}
use Rattle.mdinline_emphasis.specs.Runs.{depth_after}
use Rattle.mdinline_links.specs.Linked.{span_at, spans_in, outermost_spans}
use Rattle.mdinline_emphasis.proofs.RunTexts.{none-open, deeper, goes-on}

abbrev cut : Event → List Event → List Event × List Event → Bool → List Event × List Event
cut e es p t = cond t (e ∷ [], es) (e ∷ p.0, p.1)

-- ---- the first span and what is behind it are the list

pub span-joins : (depth : ℕ) (es : List Event) → (span_at depth es).0 ++ (span_at depth es).1 ≡ es
span-joins depth [] = refl
span-joins depth (e ∷ es) =
    let d = depth_after e.kind depth in
    elim (d == 0) as (λ t. (cut e es (span_at d es) t).0 ++ (cut e es (span_at d es) t).1 ≡ e ∷ es) [
      | true ↦ refl
      | false ↦ ap (λ xs. e ∷ xs) (span-joins d es)
    ]

-- what fronts and what is left of a list have, its outermost spans have
pub spans-have : (B : List Event → Type 0) → ((xs ys : List Event) → B (xs ++ ys) → B xs × B ys) → (bound : ℕ) (es : List Event) → B es → AllByRecursion B (spans_in bound es)
spans-have B parts zero es h = tt
spans-have B parts (suc bound) [] h = tt
spans-have B parts (suc bound) (e ∷ es) h =
    let p = span_at 0 (e ∷ es) in
    let both = parts p.0 p.1 (subst B (sym (span-joins 0 (e ∷ es))) h) in
    (both.0, spans-have B parts bound p.1 both.1)

no-links-parts : (xs ys : List Event) → HaveNoLinks (xs ++ ys) → HaveNoLinks xs × HaveNoLinks ys
no-links-parts xs ys h = (
  subst HaveNoLinks (take-append_seam xs ys) (no-links-take (length xs) (xs ++ ys) h),
  subst HaveNoLinks (drop-append_seam xs ys) (no-links-drop (length xs) (xs ++ ys) h),
)

pub spans-unlinked : (es : List Event) → HaveNoLinks es → AllByRecursion HaveNoLinks (outermost_spans es)
spans-unlinked es h = spans-have HaveNoLinks no-links-parts (length es) es h

-- ---- the spans of a balanced list are balanced

-- the first span ends where nothing is open
abbrev pub Closes : List Name → List Event × List Event → Type 0
Closes st p = (names_after_all (Some st) p.0 ≡ Some []) × (names_after_all (Some []) p.1 ≡ Some [])

pub span-closes : (depth : ℕ) (es : List Event) (st : List Name) → depth ≡ length st → names_after_all (Some st) es ≡ Some [] → Closes st (span_at depth es)
span-closes depth [] st deep end = (end, refl)
span-closes depth (e ∷ es) st deep end =
    let d = depth_after e.kind depth in
    let next = goes-on (names_after e.kind e.name st) es end in
    let deep' : d ≡ length next.0 = ap (depth_after e.kind) deep ∙ deeper e.kind e.name st next.0 next.1 in
    let end' : names_after_all (Some next.0) es ≡ Some [] = sym (ap (λ o. names_after_all o es) next.1) ∙ end in
    let more = span-closes d es next.0 deep' end' in
    elim (cases_Bool (d == 0)) [
      | inl h ↦
          let outside = none-open next.0 (subst (λ n. (n == 0) ≡ true) deep' h) in
          subst (λ t. Closes st (cut e es (span_at d es) t)) (sym h) (
            names-none (names_after e.kind e.name st) ∙ next.1 ∙ ap Some outside,
            ap (λ s. names_after_all (Some s) es) (sym outside) ∙ end',
          )
      | inr h ↦
          subst (λ t. Closes st (cut e es (span_at d es) t)) (sym h) (
            ap (λ o. names_after_all o (span_at d es).0) next.1 ∙ more.0,
            more.1,
          )
    ]

all-balanced : (bound : ℕ) (es : List Event) → names_after_all (Some []) es ≡ Some [] → AllByRecursion IsBalanced (spans_in bound es)
all-balanced zero es h = tt
all-balanced (suc bound) [] h = tt
all-balanced (suc bound) (e ∷ es) h =
    let p = span_at 0 (e ∷ es) in
    let closes = span-closes 0 (e ∷ es) [] refl h in
    (balanced_from_open p.0 closes.0, all-balanced bound p.1 closes.1)

pub spans-balanced : (es : List Event) → IsBalanced es → AllByRecursion IsBalanced (outermost_spans es)
spans-balanced es h = all-balanced (length es) es (names_after_balanced h [])

-- what goes from a place to a place, and is so of both parts of a list, is so of its outermost spans; so what it gives of each, all have
module _ (Q : Type 0) (A : Q → List Event → Q → Type 0) (T : List Event → Type 0)
    (apart : (p q : Q) (xs ys : List Event) → IsBalanced xs → IsBalanced ys → A p (xs ++ ys) q → (m : Q) × A p xs m × A m ys q)
    (gives : (p q : Q) (e : Event) (es : List Event) → IsBalanced (e ∷ es) → A p (e ∷ es) q → T (e ∷ es)) where
  given : (p q : Q) (depth : ℕ) (e : Event) (es : List Event) → IsBalanced (span_at depth (e ∷ es)).0 → A p (span_at depth (e ∷ es)).0 q → T (span_at depth (e ∷ es)).0
  given p q depth e es =
      let d = depth_after e.kind depth in
      elim (d == 0) as (λ t. IsBalanced (cut e es (span_at d es) t).0 → A p (cut e es (span_at d es) t).0 q → T (cut e es (span_at d es) t).0) [
        | true ↦ gives p q e []
        | false ↦ gives p q e (span_at d es).0
      ]

  all-given : (bound : ℕ) (es : List Event) (p q : Q) → names_after_all (Some []) es ≡ Some [] → A p es q → AllByRecursion T (spans_in bound es)
  all-given zero es p q n h = tt
  all-given (suc bound) [] p q n h = tt
  all-given (suc bound) (e ∷ es) p q n h =
      let w = span_at 0 (e ∷ es) in
      let closes = span-closes 0 (e ∷ es) [] refl n in
      let first = balanced_from_open w.0 closes.0 in
      let parts = apart p q w.0 w.1 first (balanced_from_open w.1 closes.1) (subst (λ l. A p l q) (sym (span-joins 0 (e ∷ es))) h) in
      (given p parts.0 0 e es first parts.1, all-given bound w.1 parts.0 q closes.1 parts.2)

  pub spans-between : (es : List Event) (p q : Q) → IsBalanced es → A p es q → AllByRecursion T (outermost_spans es)
  spans-between es p q b h = all-given (length es) es p q (names_after_balanced b []) h
