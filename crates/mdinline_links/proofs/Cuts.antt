-- The first span of what is left of a list, as a scan finds it; and the outermost spans of what is left.
use Rattle.std.proofs.Common.{◌≡◌, ◌==◌, ◌+◌, ◌-◌, ◌<◌, ◌≤◌, ◌∙◌, ℕ, zero, suc, List, [], ◌∷◌, ◌++◌, Bool, true, false, cond, None, ap, append_assoc, arith, drop, length, refl, sym, take}
use Rattle.std.proofs.Math.Seq.{take-append-add}
use Rattle.std.proofs.lemmas.List.{drop-drop, length-drop, length-take-le, take-append-drop, take_all}
use Rattle.std.specs.List.{between}
use Rattle.markdown_base.specs.declared.event.Event.{Event}
use Rattle.markdown_base.specs.declared.event.Kind.{Kind}
use Rattle.markdown_base.specs.declared.event.Kind.TheVariants.{Enter, Exit}
use Rattle.markdown_base.specs.declared.event.Name.TheVariants.{AttentionSequence}
use Rattle.mdinline_emphasis.specs.Runs.{depth_after}
use Rattle.mdinline_links.specs.Linked.{is_tail, span_at, spans_in}

abbrev pub no_event : Event
no_event = record { kind = Enter; name = AttentionSequence; point = record { line = 0; column = 0; index = 0; vs = 0 }; link = None }

pub depth-grows : (kind : Kind) (depth : ℕ) → depth_after kind depth ≤ depth + 1
depth-grows Enter depth = omega arith
depth-grows Exit depth = omega arith

module _ (es : List Event) (from i depth : ℕ) (e : Event) (order : from ≤ i) (inside : i < length es) (here : drop i es ≡ e ∷ drop (i + 1) es) where
  between-more : between from i es ++ e ∷ [] ≡ between from (i + 1) es
  between-more =
      let n = i - from in
      let front = between from i es in
      let left = length-drop from es in
      let long : length front ≡ n = length-take-le n (drop from es) (omega (arith, left, order, inside)) in
      let one : length front + 1 ≡ (i + 1) - from = omega (arith, long, order) in
      let place : n + from ≡ i = omega (arith, order) in
      let place' : from + n ≡ i = omega (arith, order) in
      let all : front ++ (e ∷ drop (i + 1) es) ≡ drop from es = ap (λ xs. front ++ xs) (sym here ∙ ap (λ k. drop k es) (sym place') ∙ sym (drop-drop n from es)) ∙ take-append-drop n (drop from es) in
      sym (take-append-add front (e ∷ drop (i + 1) es) 1) ∙ ap (λ k. take k (front ++ (e ∷ drop (i + 1) es))) one ∙ ap (take ((i + 1) - from)) all

  abbrev d : ℕ
  d = depth_after e.kind depth

  abbrev rest : List Event
  rest = drop (i + 1) es

  abbrev Parts : Bool → List Event × List Event
  Parts t = let p : List Event × List Event = cond t (e ∷ [], rest) (e ∷ (span_at d rest).0, (span_at d rest).1) in (between from i es ++ p.0, p.1)

  module _ (h : span_at 0 (drop from es) ≡ (between from i es ++ (span_at depth (drop i es)).0, (span_at depth (drop i es)).1)) where
    parts : span_at 0 (drop from es) ≡ Parts (d == 0)
    parts = h ∙ ap (λ xs. let p = span_at depth xs in (between from i es ++ p.0, p.1)) here

    -- the span goes on behind an event
    pub cut-more : (d == 0) ≡ false → span_at 0 (drop from es) ≡ (between from (i + 1) es ++ (span_at d rest).0, (span_at d rest).1)
    cut-more t =
        parts ∙ ap Parts t
        ∙ ap (λ xs. (xs, (span_at d rest).1)) (sym (append_assoc (between from i es) (e ∷ []) (span_at d rest).0) ∙ ap (λ ys. ys ++ (span_at d rest).0) between-more)

    -- it ends with an event
    pub cut-ends : (d == 0) ≡ true → span_at 0 (drop from es) ≡ (between from (i + 1) es, rest)
    cut-ends t = parts ∙ ap Parts t ∙ ap (λ xs. (xs, rest)) between-more

-- the first of the outermost spans
first-of : (xs : List Event) (bound : ℕ) (p : List Event × List Event) → 0 < length xs → span_at 0 xs ≡ p → spans_in (suc bound) xs ≡ p.0 ∷ spans_in bound p.1
first-of [] bound p some h = absurd (omega (arith, some))
first-of (e ∷ xs) bound p some h = ap (λ q. q.0 ∷ spans_in bound q.1) h

pub spans-first : (es : List Event) (start end bound : ℕ) → start < length es → span_at 0 (drop start es) ≡ (between start end es, drop end es)
    → spans_in (suc bound) (drop start es) ≡ between start end es ∷ spans_in bound (drop end es)
spans-first es start end bound inside h = let long = length-drop start es in first-of (drop start es) bound (between start end es, drop end es) (omega (arith, long, inside)) h

pub spans-none : (bound : ℕ) (xs : List Event) → length xs ≡ 0 → spans_in bound xs ≡ []
spans-none zero xs h = refl
spans-none (suc bound) [] h = refl
spans-none (suc bound) (x ∷ xs) h = absurd (omega (arith, h))

-- a span begins as what is left does
pub tail-front : (xs : List Event) → is_tail (span_at 0 xs).0 ≡ is_tail xs
tail-front [] = refl
tail-front (e ∷ xs) = by (depth_after e.kind 0)
  where
    by : (n : ℕ) → let p : List Event × List Event = cond (n == 0) (e ∷ [], xs) (e ∷ (span_at n xs).0, (span_at n xs).1) in is_tail p.0 ≡ is_tail (e ∷ xs)
    by n = elim (n == 0) as (λ t. let p : List Event × List Event = cond t (e ∷ [], xs) (e ∷ (span_at n xs).0, (span_at n xs).1) in is_tail p.0 ≡ is_tail (e ∷ xs)) [
      | true ↦ refl
      | false ↦ refl
    ]

pub tail-same : (es : List Event) (start end : ℕ) → span_at 0 (drop start es) ≡ (between start end es, drop end es) → is_tail (between start end es) ≡ is_tail (drop start es)
tail-same es start end h = ap (λ p. is_tail p.0) (sym h) ∙ tail-front (drop start es)

pub long-span : (es : List Event) (start end : ℕ) → start < end → end ≤ length es → 0 < length (between start end es)
long-span es start end order inside =
    let left = length-drop start es in
    let long : length (between start end es) ≡ end - start = length-take-le (end - start) (drop start es) (omega (arith, left, order, inside)) in
    omega (arith, long, order)

-- what is left of a slice from an index on
pub tail-slice : (es : List Event) (end : ℕ) → is_tail (drop end es) ≡ is_tail (take (length es - end) (drop end es))
tail-slice es end = let left = length-drop end es in ap is_tail (sym (take_all (length es - end) (drop end es) (omega (arith, left))))
