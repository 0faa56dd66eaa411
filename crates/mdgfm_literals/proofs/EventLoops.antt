-- In loops over events: what was passed, and what comes.
use Rattle.std.proofs.Common.{◌≡◌, ℕ, suc, ◌+◌, ◌-◌, ◌≤◌, ◌++◌, Bool, true, false, cond, List, ◌∷◌, length, drop, take, sym, ap, subst, ◌∙◌, arith}
use Rattle.std.proofs.lemmas.List.{append_assoc, drop-drop}
use Rattle.std.specs.Prelude.{◌==◌, ◌&&◌}
use Rattle.markdown_base.specs.declared.event.Event.{Event}
use Rattle.markdown_base.specs.declared.event.Point.{Point}
use Rattle.mdgfm_literals.specs.declared.stretches.Reach.{Reach}
use Rattle.mdgfm_literals.specs.declared.texts.Literal.{Literal}
use Rattle.mdgfm_literals.specs.LiteralEvents.{Written, events_with, left_over, written}
use Rattle.mdgfm_events.specs.Spans.{span_end, span_size}
use Rattle.mdgfm_literals.specs.Stretches.{depth_behind, is_fresh, is_text, literals_between, literals_of, reach}
use Rattle.mdgfm_events.proofs.Slices.{tail}
use Rattle.mdgfm_literals.proofs.EventSteps.{literals-of-skip, more, more-more, reach-on, reach-skip, with-skip}

-- the event at an index, and those behind it
module _ (events : List Event) (at : ℕ) (e : Event) (here : drop at events ≡ e ∷ drop (at + 1) events) where
  abbrev es : List Event
  es = drop (at + 1) events

  abbrev n : ℕ
  n = span_size 0 es

  abbrev p : Point
  p = span_end e.point 0 es

  on : (k : ℕ) → drop k es ≡ drop (at + 1 + k) events
  on k = drop-drop k (at + 1) events

  -- ---- stretches

  pub reach-next : (stop : ℕ) (whole : Reach) → (is_text 0 e && (e.point.index == stop)) ≡ true → n ≤ length es
      → more at (reach 0 stop (drop at events)) ≡ whole → more (at + (1 + n)) (reach 0 p.index (drop (at + (1 + n)) events)) ≡ whole
  reach-next stop whole h k so_far =
      let same : at + 1 + n ≡ at + (1 + n) = omega arith in
      sym (more-more at (1 + n) (reach 0 p.index (drop (at + (1 + n)) events)))
      ∙ ap (λ ts. more at (more (1 + n) (reach 0 p.index ts))) (ap (λ i. drop i events) (sym same) ∙ sym (on n))
      ∙ ap (more at) (sym (reach-on stop e es h k))
      ∙ ap (λ ts. more at (reach 0 stop ts)) (sym here)
      ∙ so_far

  -- ---- literals

  module _ (bytes : List ℕ) (fresh : Bool) (depth : ℕ) (whole all : List Literal) (so_far : all ++ literals_of bytes fresh depth 0 (drop at events) ≡ whole) where
    pub literals-text-next : is_text depth e ≡ true → n ≤ length es
        → (all ++ literals_between bytes fresh e.point.index (reach 0 p.index (drop (at + 1 + n) events)).stop) ++ literals_of bytes false depth 0 (drop (at + 1 + n + (reach 0 p.index (drop (at + 1 + n) events)).size) events) ≡ whole
    literals-text-next h k =
        let r = reach 0 p.index (drop (at + 1 + n) events) in
        let there = literals_between bytes fresh e.point.index r.stop in
        let reaches : reach n p.index es ≡ more n r = reach-skip n p.index es k ∙ ap (λ ts. more n (reach 0 p.index ts)) (on n) in
        let behind : literals_of bytes false depth (n + r.size) es ≡ literals_of bytes false depth 0 (drop (at + 1 + n + r.size) events) =
        let sum : at + 1 + (n + r.size) ≡ at + 1 + n + r.size = omega arith in
        literals-of-skip bytes false depth (n + r.size) es ∙ ap (λ ts. literals_of bytes false depth 0 ts) (on (n + r.size) ∙ ap (λ i. drop i events) sum) in
        append_assoc all there (literals_of bytes false depth 0 (drop (at + 1 + n + r.size) events))
        ∙ ap (λ ls. all ++ (there ++ ls)) (sym behind)
        ∙ ap (λ (q : Reach). all ++ (literals_between bytes fresh e.point.index q.stop ++ literals_of bytes false depth q.size es)) (sym reaches)
        ∙ ap (λ ls. all ++ ls) (sym (of_text h))
        ∙ ap (λ ts. all ++ literals_of bytes fresh depth 0 ts) (sym here)
        ∙ so_far
      where
        of_text : is_text depth e ≡ true → literals_of bytes fresh depth 0 (e ∷ es) ≡ literals_between bytes fresh e.point.index (reach n p.index es).stop ++ literals_of bytes false depth (reach n p.index es).size es
        of_text h = ap (λ t. cond t (literals_between bytes fresh e.point.index (reach n p.index es).stop ++ literals_of bytes false depth (reach n p.index es).size es) (literals_of bytes (is_fresh e) (depth_behind depth e) 0 es)) h

  -- ---- events

  module _ (tab : ℕ) (bytes : List ℕ) (depth : ℕ) (place : Point) (ls : List Literal) (whole out : List Event)
      (so_far : out ++ events_with tab bytes 0 depth place ls (drop at events) ≡ whole) where
    abbrev w : Written
    w = written tab bytes e.point p.index place ls

    pub with-text-next : is_text depth e ≡ true
        → ((out ++ w.events) ++ left_over w.place e.point p (e ∷ take n es)) ++ events_with tab bytes 0 depth w.place w.left (drop (at + 1 + n) events) ≡ whole
    with-text-next h =
        let left = left_over w.place e.point p (e ∷ take n es) in
        let rest = events_with tab bytes 0 depth w.place w.left (drop (at + 1 + n) events) in
        let behind : events_with tab bytes n depth w.place w.left es ≡ rest = with-skip tab bytes n depth w.place w.left es ∙ ap (events_with tab bytes 0 depth w.place w.left) (on n) in
        append_assoc (out ++ w.events) left rest
        ∙ append_assoc out w.events (left ++ rest)
        ∙ ap (λ (ts : List Event). out ++ (w.events ++ (left ++ ts))) (sym behind)
        ∙ ap (λ (ts : List Event). out ++ ts) (sym (of_text h))
        ∙ ap (λ ts. out ++ events_with tab bytes 0 depth place ls ts) (sym here)
        ∙ so_far
      where
        of_text : is_text depth e ≡ true → events_with tab bytes 0 depth place ls (e ∷ es) ≡ w.events ++ (left_over w.place e.point p (e ∷ take n es) ++ events_with tab bytes n depth w.place w.left es)
        of_text h = ap (λ t. cond t (w.events ++ (left_over w.place e.point p (e ∷ take n es) ++ events_with tab bytes n depth w.place w.left es)) (e ∷ events_with tab bytes 0 (depth_behind depth e) place ls es)) h

-- ---- the same, by what spans are in the code: their size and end, by what is left of the slice

module _ (events : List Event) (at : ℕ) (e : Event) (here : drop at events ≡ e ∷ drop (at + 1) events) (size : ℕ) (last : Point)
    (size-is : size ≡ span_size 0 (take (length events - (at + 1)) (drop (at + 1) events)))
    (last-is : last ≡ span_end e.point 0 (take (length events - (at + 1)) (drop (at + 1) events))) where
  n-is : size ≡ span_size 0 (drop (at + 1) events)
  n-is = size-is ∙ ap (λ ts. span_size 0 ts) (tail (at + 1) events)

  p-is : last ≡ span_end e.point 0 (drop (at + 1) events)
  p-is = last-is ∙ ap (λ ts. span_end e.point 0 ts) (tail (at + 1) events)

  fits : size ≤ length (take (length events - (at + 1)) (drop (at + 1) events)) → span_size 0 (drop (at + 1) events) ≤ length (drop (at + 1) events)
  fits h = subst (λ k. k ≤ length (drop (at + 1) events)) n-is (subst (λ ts. size ≤ length ts) (tail (at + 1) events) h)

  pub reach-step : (stop : ℕ) (whole : Reach) → (is_text 0 e && (e.point.index == stop)) ≡ true → size ≤ length (take (length events - (at + 1)) (drop (at + 1) events))
      → more at (reach 0 stop (drop at events)) ≡ whole → more (at + (1 + size)) (reach 0 last.index (drop (at + (1 + size)) events)) ≡ whole
  reach-step stop whole goes h so_far =
      subst (λ k. more (at + (1 + k)) (reach 0 last.index (drop (at + (1 + k)) events)) ≡ whole) (sym n-is)
      (subst (λ (q : Point). more (at + (1 + span_size 0 (drop (at + 1) events))) (reach 0 q.index (drop (at + (1 + span_size 0 (drop (at + 1) events))) events)) ≡ whole) (sym p-is)
      (reach-next events at e here stop whole goes (fits h) so_far))

  pub literals-step : (bytes : List ℕ) (fresh : Bool) (depth : ℕ) (whole all new : List Literal) (r : Reach) → all ++ literals_of bytes fresh depth 0 (drop at events) ≡ whole
      → is_text depth e ≡ true → size ≤ length (take (length events - (at + 1)) (drop (at + 1) events))
      → r ≡ reach 0 last.index (take (length events - (at + 1 + size)) (drop (at + 1 + size) events)) → new ≡ all ++ literals_between bytes fresh e.point.index r.stop
      → new ++ literals_of bytes false depth 0 (drop (at + 1 + size + r.size) events) ≡ whole
  literals-step bytes fresh depth whole all new r so_far h k r-is new-is =
      ap (λ ls. ls ++ literals_of bytes false depth 0 (drop (at + 1 + size + r.size) events)) new-is
      ∙ ap (λ (q : Reach). (all ++ literals_between bytes fresh e.point.index q.stop) ++ literals_of bytes false depth 0 (drop (at + 1 + size + q.size) events)) (r-is ∙ ap (λ ts. reach 0 last.index ts) (tail (at + 1 + size) events))
      ∙ subst (λ m. (all ++ literals_between bytes fresh e.point.index (reach 0 last.index (drop (at + 1 + m) events)).stop) ++ literals_of bytes false depth 0 (drop (at + 1 + m + (reach 0 last.index (drop (at + 1 + m) events)).size) events) ≡ whole) (sym n-is)
      (subst (λ (q : Point). (all ++ literals_between bytes fresh e.point.index (reach 0 q.index (drop (at + 1 + span_size 0 (drop (at + 1) events)) events)).stop) ++ literals_of bytes false depth 0 (drop (at + 1 + span_size 0 (drop (at + 1) events) + (reach 0 q.index (drop (at + 1 + span_size 0 (drop (at + 1) events)) events)).size) events) ≡ whole) (sym p-is)
      (literals-text-next events at e here bytes fresh depth whole all so_far h (fits k)))

  module _ (tab : ℕ) (bytes : List ℕ) (depth : ℕ) (place : Point) (ls : List Literal) (whole out : List Event)
      (so_far : out ++ events_with tab bytes 0 depth place ls (drop at events) ≡ whole) (h : is_text depth e ≡ true) where
    -- what was written is so
    core : (q : Point) (m : ℕ) → q ≡ span_end e.point 0 (drop (at + 1) events) → m ≡ span_size 0 (drop (at + 1) events)
        → ((out ++ (written tab bytes e.point q.index place ls).events) ++ left_over (written tab bytes e.point q.index place ls).place e.point q (e ∷ take m (drop (at + 1) events)))
        ++ events_with tab bytes 0 depth (written tab bytes e.point q.index place ls).place (written tab bytes e.point q.index place ls).left (drop (at + 1 + m) events) ≡ whole
    core q m q-is m-is =
        subst (λ (q : Point). ((out ++ (written tab bytes e.point q.index place ls).events) ++ left_over (written tab bytes e.point q.index place ls).place e.point q (e ∷ take m (drop (at + 1) events)))
        ++ events_with tab bytes 0 depth (written tab bytes e.point q.index place ls).place (written tab bytes e.point q.index place ls).left (drop (at + 1 + m) events) ≡ whole) (sym q-is)
        (subst (λ m. ((out ++ (written tab bytes e.point (span_end e.point 0 (drop (at + 1) events)).index place ls).events) ++ left_over (written tab bytes e.point (span_end e.point 0 (drop (at + 1) events)).index place ls).place e.point (span_end e.point 0 (drop (at + 1) events)) (e ∷ take m (drop (at + 1) events)))
        ++ events_with tab bytes 0 depth (written tab bytes e.point (span_end e.point 0 (drop (at + 1) events)).index place ls).place (written tab bytes e.point (span_end e.point 0 (drop (at + 1) events)).index place ls).left (drop (at + 1 + m) events) ≡ whole) (sym m-is)
        (with-text-next events at e here tab bytes depth place ls whole out so_far h))

    pub with-step : (out1 out2 : List Event) (place1 : Point) (ls1 : List Literal) → out1 ≡ out ++ (written tab bytes e.point last.index place ls).events
        → place1 ≡ (written tab bytes e.point last.index place ls).place → ls1 ≡ (written tab bytes e.point last.index place ls).left
        → out2 ≡ out1 ++ left_over place1 e.point last (take (at + 1 + size - at) (drop at events))
        → out2 ++ events_with tab bytes 0 depth place1 ls1 (drop (at + 1 + size) events) ≡ whole
    with-step out1 out2 place1 ls1 a b c d =
        let one : at + 1 + size - at ≡ suc size = omega arith in
        let span : take (at + 1 + size - at) (drop at events) ≡ e ∷ take size (drop (at + 1) events) = ap (λ k. take k (drop at events)) one ∙ ap (λ ts. take (suc size) ts) here in
        let rest = drop (at + 1 + size) events in
        let v = written tab bytes e.point last.index place ls in
        ap (λ ts. ts ++ events_with tab bytes 0 depth place1 ls1 rest) (d ∙ ap (λ ts. out1 ++ left_over place1 e.point last ts) span ∙ ap (λ ts. ts ++ left_over place1 e.point last (e ∷ take size (drop (at + 1) events))) a)
        ∙ ap (λ q. ((out ++ v.events) ++ left_over q e.point last (e ∷ take size (drop (at + 1) events))) ++ events_with tab bytes 0 depth q ls1 rest) b
        ∙ ap (λ l. ((out ++ v.events) ++ left_over v.place e.point last (e ∷ take size (drop (at + 1) events))) ++ events_with tab bytes 0 depth v.place l rest) c
        ∙ core last size p-is n-is
