-- Stretches, literals and events with literals: what is passed is left out.
use Rattle.std.proofs.Common.{◌≡◌, ℕ, zero, suc, ◌+◌, ◌≤◌, ◌++◌, Bool, true, false, cond, List, [], ◌∷◌, length, drop, take, refl, ap, ◌∙◌, arith}
use Rattle.std.proofs.lemmas.Bool.Decides.{nat_tests}
use Rattle.std.proofs.lemmas.List.{take-append-drop}
use Rattle.std.specs.Prelude.{◌==◌, ◌&&◌, nat_le}
use Rattle.markdown_base.specs.declared.event.Event.{Event}
use Rattle.markdown_base.specs.declared.event.Name.TheVariants.{Data}
use Rattle.markdown_base.specs.declared.event.Point.{Point}
use Rattle.markdown_base.specs.Virtual.{point}
use Rattle.mdgfm_literals.specs.declared.stretches.Reach.{Reach}
use Rattle.mdgfm_literals.specs.declared.texts.Literal.{Literal}
use Rattle.mdgfm_literals.specs.LiteralEvents.{events_with}
use Rattle.mdgfm_events.specs.Places.{leaf}
use Rattle.mdgfm_events.specs.Spans.{span_end, span_size}
use Rattle.mdgfm_literals.specs.Stretches.{depth_behind, is_text, literals_of, one_more, reach}

-- ---- stretches

-- so many events more
abbrev pub more : ℕ → Reach → Reach
more n r = record r { size = n + r.size }

more-one : (n : ℕ) (r : Reach) → one_more (more n r) ≡ more (suc n) r
more-one n r = let z : n + r.size + 1 ≡ suc n + r.size = omega arith in ap (λ k. record r { size = k }) z

more-none : (r : Reach) → r ≡ more 0 r
more-none r = let z : r.size ≡ 0 + r.size = omega arith in ap (λ k. record r { size = k }) z

pub more-more : (n m : ℕ) (r : Reach) → more n (more m r) ≡ more (n + m) r
more-more n m r = let z : n + (m + r.size) ≡ n + m + r.size = omega arith in ap (λ k. record r { size = k }) z

pub reach-skip : (skip stop : ℕ) (es : List Event) → skip ≤ length es → reach skip stop es ≡ more skip (reach 0 stop (drop skip es))
reach-skip zero stop es h = more-none (reach 0 stop es)
reach-skip (suc skip) stop [] h = absurd (omega (arith, h))
reach-skip (suc skip) stop (e ∷ es) h = ap one_more (reach-skip skip stop es (omega (arith, h))) ∙ more-one skip (reach 0 stop (drop skip es))

-- it goes on with a span
pub reach-on : (stop : ℕ) (e : Event) (es : List Event) → (is_text 0 e && (e.point.index == stop)) ≡ true → span_size 0 es ≤ length es
    → reach 0 stop (e ∷ es) ≡ more (1 + span_size 0 es) (reach 0 (span_end e.point 0 es).index (drop (span_size 0 es) es))
reach-on stop e es h k =
    let n = span_size 0 es in
    let p = (span_end e.point 0 es).index in
    let one : suc n ≡ 1 + n = omega arith in
    ap (λ t. cond t (one_more (reach n p es)) (record { size = 0; stop = stop })) h
    ∙ ap one_more (reach-skip n p es k)
    ∙ more-one n (reach 0 p (drop n es))
    ∙ ap (λ i. more i (reach 0 p (drop n es))) one

-- or ends
pub reach-end : (stop : ℕ) (e : Event) (es : List Event) → (is_text 0 e && (e.point.index == stop)) ≡ false → reach 0 stop (e ∷ es) ≡ record { size = 0; stop = stop }
reach-end stop e es h =
    let n = span_size 0 es in
    let p = (span_end e.point 0 es).index in
    ap (λ t. cond t (one_more (reach n p es)) (record { size = 0; stop = stop })) h

-- ---- literals

pub literals-of-skip : (bytes : List ℕ) (fresh : Bool) (depth skip : ℕ) (es : List Event) → literals_of bytes fresh depth skip es ≡ literals_of bytes fresh depth 0 (drop skip es)
literals-of-skip bytes fresh depth zero es = refl
literals-of-skip bytes fresh depth (suc skip) [] = refl
literals-of-skip bytes fresh depth (suc skip) (e ∷ es) = literals-of-skip bytes fresh depth skip es

-- ---- events

module _ (tab : ℕ) (bytes : List ℕ) where
  pub with-skip : (skip depth : ℕ) (place : Point) (ls : List Literal) (es : List Event) → events_with tab bytes skip depth place ls es ≡ events_with tab bytes 0 depth place ls (drop skip es)
  with-skip zero depth place ls es = refl
  with-skip (suc skip) depth place ls [] = refl
  with-skip (suc skip) depth place ls (e ∷ es) = with-skip skip depth place ls es

  least : (k : ℕ) → nat_le 0 k ≡ true
  least k = grind (arith, nat_tests)

  -- without literals they are as they were
  pub with-none : (skip depth : ℕ) (es : List Event) → events_with tab bytes skip depth (point 1 1 0 0) [] es ≡ drop skip es
  with-none zero depth [] = refl
  with-none (suc skip) depth [] = refl
  with-none (suc skip) depth (e ∷ es) = with-none skip depth es
  with-none zero depth (e ∷ es) =
      let n = span_size 0 es in
      let last = span_end e.point 0 es in
      by (is_text depth e)
      (ap (λ t. cond t (e ∷ take n es) (leaf Data (point 1 1 0 0) last) ++ events_with tab bytes n depth (point 1 1 0 0) [] es) (least e.point.index)
      ∙ ap (λ ys. (e ∷ take n es) ++ ys) (with-none n depth es)
      ∙ ap (λ ys. e ∷ ys) (take-append-drop n es))
      (ap (λ ys. e ∷ ys) (with-none 0 (depth_behind depth e) es))
    where
      by : {xs ys : List Event} (t : Bool) → xs ≡ e ∷ es → ys ≡ e ∷ es → cond t xs ys ≡ e ∷ es
      by true p q = p
      by false p q = q
