-- Checks of events that stand further on, over bytes that are the same there.
use Rattle.std.proofs.Common.{◌≡◌, ◌⊎◌, ℕ, zero, suc, ◌+◌, ◌-◌, ◌≤◌, ◌++◌, Bool, true, false, cond, List, [], ◌∷◌, Option, Some, None, refl, sym, ap, ◌∙◌, arith, inl, inr}
use Rattle.std.proofs.lemmas.List.{map-append}
use Rattle.std.specs.List.{AllByRecursion}
use Rattle.std.specs.Prelude.{◌==◌, map, nat_le, option_map, slice_range, IfSome}
use Rattle.markdown_base.proofs.Common.{every-map}
use Rattle.markdown_base.specs.declared.event.Event.{Event}
use Rattle.markdown_base.specs.declared.event.Kind.{Kind}
use Rattle.markdown_base.specs.declared.event.Kind.TheVariants.{Enter, Exit}
use Rattle.markdown_base.specs.declared.event.Link.{Link}
use Rattle.markdown_base.specs.declared.event.Name.{Name}
use Rattle.markdown_base.specs.declared.event.Name.TheVariants as name
use Rattle.markdown_base.specs.declared.event.Point.{Point}
use Rattle.mdblock_tables.specs.declared.tasks.Check.{Check}
use Rattle.mdblock_tables.specs.Tasks.{check_at, value_name}
use Rattle.mdgfm_events.specs.Places.{event, leaf, place_at}
use Rattle.mdgfm_events.specs.Spans.{span_end, span_size}
use Rattle.mdgfm_literals.proofs.Further.{end-on, leaf-on, place-on, size-on}
use Rattle.mdgfm_literals.specs.Laws.{further_event, further_point}
use Rattle.mdgfm_tasks.specs.declared.awaited.Awaited.{Awaited}
use Rattle.mdgfm_tasks.specs.declared.awaited.Awaited.TheVariants.{Nothing, Block, DefinitionEnd, Text}
use Rattle.mdgfm_tasks.specs.declared.checks.Covered.{Covered}
use Rattle.mdgfm_tasks.specs.declared.checks.Found.{Found}
use Rattle.mdgfm_tasks.specs.Awaits.{awaited_behind, enters}
use Rattle.mdgfm_tasks.specs.Checks.{check_of, data_over, found, is_data, line_from, linked, text_over, two_more}
use Rattle.mdgfm_tasks.specs.TaskEvents.{check_events, events_with, further}
use Rattle.mdgfm_tasks.proofs.Covers.{Covers, found-covers, found-room}
use Rattle.mdgfm_tasks.proofs.Steps.{check-places, with-found}
use Rattle.mdgfm_documents.proofs.CheckEnds.{Stands, found-stands}

-- at an event behind which no byte is, no check is found
pub none-at-end : (bytes : List ℕ) (a : Awaited) (e : Event) (es : List Event) → AllByRecursion (λ x. x.point.index ≤ e.point.index) (e ∷ es) → check_of bytes a (e ∷ es) ≡ None
none-at-end bytes a e es all = by (check_of bytes a (e ∷ es)) (found-covers bytes a e es) (found-stands (λ p. p.index ≤ e.point.index) bytes a e es)
  where
    by : (o : Option Found) → IfSome o (λ f. Covers e.point.index (f.check.columns + 3) (e ∷ es) f.text) → IfSome o (Stands (λ p. p.index ≤ e.point.index) bytes e es) → o ≡ None
    by None k l = refl
    by (Some f) k l = let far = k.far in let low = l.ends.placed all in absurd (omega (arith, far, low))

module _ (links : Option Link → Option Link) (no_link : links None ≡ None) (lines n : ℕ) where
  abbrev P : Point → Point
  P = further_point lines n

  abbrev F : Event → Event
  F = further_event links lines n

  abbrev far_covered : Covered → Covered
  far_covered c = record { size = c.size; end = P c.end }

  abbrev far_found : Found → Found
  far_found f = record { check = f.check; text = far_covered f.text }

  -- ---- what has the bytes of a check

  minus-on : (i j : ℕ) → (j + n) - (i + n) ≡ j - i
  minus-on i j = omega arith

  data-on : (at many : ℕ) (es : List Event) → data_over (at + n) many (map F es) ≡ option_map far_covered (data_over at many es)
  data-on at many [] = refl
  data-on at many (e ∷ []) = refl
  data-on at many (e ∷ f ∷ es) =
      ap (λ k. cond (is_data e f) (cond (nat_le many k) (Some first) (option_map two_more (data_over (at + n) many (map F es)))) None) (minus-on at f.point.index)
      ∙ ap (λ (o : Option Covered). cond (is_data e f) (cond (nat_le many (f.point.index - at)) (Some first) (option_map two_more o)) None) (data-on at many es)
      ∙ by (is_data e f) (nat_le many (f.point.index - at)) (data_over at many es)
    where
      first : Covered
      first = record { size = 2; end = P f.point }

      by : (t u : Bool) (o : Option Covered) → cond t (cond u (Some first) (option_map two_more (option_map far_covered o))) None
          ≡ option_map far_covered (cond t (cond u (Some (let v : Covered = record { size = 2; end = f.point } in v)) (option_map two_more o)) None)
      by false u o = refl
      by true true o = refl
      by true false None = refl
      by true false (Some c) = refl

  link-on : (at many : ℕ) (e : Event) (es : List Event) → linked (at + n) many (F e) (map F es) ≡ option_map far_covered (linked at many e es)
  link-on at many e es =
      ap (λ (q : Point). cond ((q.index - (at + n)) == many) (Some (covers (span_size 0 (map F es)) q)) None) (end-on links no_link lines n e.point 0 es)
      ∙ ap (λ k. cond (((P end).index - (at + n)) == many) (Some (covers k (P end))) None) (size-on links no_link lines n 0 es)
      ∙ ap (λ k. cond (k == many) (Some (covers (span_size 0 es) (P end))) None) (minus-on at end.index)
      ∙ by ((end.index - at) == many)
    where
      end : Point
      end = span_end e.point 0 es

      covers : ℕ → Point → Covered
      covers k q = record { size = k + 1; end = q }

      by : (t : Bool) → cond t (Some (covers (span_size 0 es) (P end))) None ≡ option_map far_covered (cond t (Some (covers (span_size 0 es) end)) None)
      by true = refl
      by false = refl

  text-on : (at many : ℕ) (es : List Event) → text_over (at + n) many (map F es) ≡ option_map far_covered (text_over at many es)
  text-on at many [] = refl
  text-on at many (e ∷ es) =
      ap (λ (o : Option Covered). cond (enters name.Link e) o (data_over (at + n) many (F e ∷ map F es))) (link-on at many e es)
      ∙ ap (λ (o : Option Covered). cond (enters name.Link e) (option_map far_covered (linked at many e es)) o) (data-on at many (e ∷ es))
      ∙ by (enters name.Link e)
    where
      by : (t : Bool) → cond t (option_map far_covered (linked at many e es)) (option_map far_covered (data_over at many (e ∷ es))) ≡ option_map far_covered (cond t (linked at many e es) (data_over at many (e ∷ es)))
      by true = refl
      by false = refl

  found-on : (check : Check) (o : Option Covered) → found check (option_map far_covered o) ≡ option_map far_found (found check o)
  found-on check None = refl
  found-on check (Some c) = refl

  -- the check of a line
  check-by : (e : Event) (es : List Event) (o : Option Check)
      → elim o as (λ (_ : Option Check). Option Found) [ None ↦ None | Some check ↦ found check (text_over (e.point.index + n) (check.columns + 3) (F e ∷ map F es)) ]
      ≡ option_map far_found (elim o as (λ (_ : Option Check). Option Found) [ None ↦ None | Some check ↦ found check (text_over e.point.index (check.columns + 3) (e ∷ es)) ])
  check-by e es None = refl
  check-by e es (Some check) = ap (found check) (text-on e.point.index (check.columns + 3) (e ∷ es)) ∙ found-on check (text_over e.point.index (check.columns + 3) (e ∷ es))

  -- ---- one event and a span with nothing in it, before others

  one-on : (k : Kind) (m : Name) (p : Point) (xs ys : List Event) → xs ≡ map F ys → event k m (P p) ∷ xs ≡ map F (event k m p ∷ ys)
  one-on k m p xs ys same = ap (λ l. made l ∷ xs) (sym no_link) ∙ ap (λ (ts : List Event). made (links None) ∷ ts) same
    where
      made : Option Link → Event
      made l = record { kind = k; name = m; point = P p; link = l }

  leaf-first : (m : Name) (p q : Point) (xs ys : List Event) → xs ≡ map F ys → leaf m (P p) (P q) ++ xs ≡ map F (leaf m p q ++ ys)
  leaf-first m p q xs ys same =
      ap (λ (ts : List Event). ts ++ xs) (leaf-on links no_link lines n m p q) ∙ ap (λ (ts : List Event). map F (leaf m p q) ++ ts) same ∙ sym (map-append F (leaf m p q) ys)

  -- what is awaited does not depend on places
  awaited-on : (a : Awaited) (e : Event) → awaited_behind a (F e) ≡ awaited_behind a e
  awaited-on Nothing e = refl
  awaited-on Block e = refl
  awaited-on DefinitionEnd e = refl
  awaited-on Text e = refl

  -- ---- over bytes that are the same there: up to indices that fit, and lines from those on, but for the last one

  module _ (tab : ℕ) (small big : List ℕ) (Fit : ℕ → Type 0) (lower : (i j : ℕ) → i ≤ j → Fit j → Fit i) (same_slice : (i j : ℕ) → Fit j → slice_range big (i + n) (j + n) ≡ slice_range small i j)
      (same_line : (i : ℕ) → Fit i → (line_from big (i + n) ≡ line_from small i) ⊎ ((j : ℕ) → Fit j → j ≤ i)) where
    abbrev pub AreFit : List Event → Type 0
    AreFit es = AllByRecursion (λ e. Fit e.point.index) es

    further-on : (p : Point) (k : ℕ) → Fit (p.index + k) → further tab big (P p) k ≡ P (further tab small p k)
    further-on p k h =
        let z : p.index + n + k ≡ p.index + k + n = omega arith in
        ap (place_at tab big (P p)) z ∙ place-on links no_link lines n tab small big p (p.index + k) (same_slice p.index (p.index + k) h)

    check-far : (p : Point) (f : Found) → p.index + f.check.columns + 3 ≤ f.text.end.index → Fit f.text.end.index → check_events tab big (P p) (far_found f) ≡ map F (check_events tab small p f)
    check-far p f room fit =
        ap (λ q. all q (further tab big q 1) (further tab big (further tab big q 1) 1) (further tab big (further tab big (further tab big q 1) 1) 1)) one
        ∙ ap (λ q. all (P start) q (further tab big q 1) (further tab big (further tab big q 1) 1)) two
        ∙ ap (λ q. all (P start) (P value) q (further tab big q 1)) three
        ∙ ap (λ q. all (P start) (P value) (P closing) q) four
        ∙ leaf-first name.SpaceOrTab p start _ _
        (one-on Enter name.GfmTaskListItemCheck start _ _
        (leaf-first name.GfmTaskListItemMarker start value _ _
        (leaf-first (value_name f.check.is_checked) value closing _ _
        (leaf-first name.GfmTaskListItemMarker closing end _ _ (one-on Exit name.GfmTaskListItemCheck end _ _ (leaf-on links no_link lines n name.Data end f.text.end))))))
      where
        start : Point
        start = further tab small p f.check.columns

        value : Point
        value = further tab small start 1

        closing : Point
        closing = further tab small value 1

        end : Point
        end = further tab small closing 1

        all : Point → Point → Point → Point → List Event
        all s v c d =
            leaf name.SpaceOrTab (P p) s
            ++ (event Enter name.GfmTaskListItemCheck s
            ∷ (leaf name.GfmTaskListItemMarker s v ++ (leaf (value_name f.check.is_checked) v c ++ (leaf name.GfmTaskListItemMarker c d ++ (event Exit name.GfmTaskListItemCheck d ∷ leaf name.Data d (P f.text.end))))))

        one : further tab big (P p) f.check.columns ≡ P start
        one = further-on p f.check.columns (lower (p.index + f.check.columns) f.text.end.index (omega (arith, room)) fit)

        two : further tab big (P start) 1 ≡ P value
        two = let at = (check-places tab small p f.check.columns).start in further-on start 1 (lower (start.index + 1) f.text.end.index (omega (arith, room, at)) fit)

        three : further tab big (P value) 1 ≡ P closing
        three = let at = (check-places tab small p f.check.columns).value in further-on value 1 (lower (value.index + 1) f.text.end.index (omega (arith, room, at)) fit)

        four : further tab big (P closing) 1 ≡ P end
        four = let at = (check-places tab small p f.check.columns).closing in further-on closing 1 (lower (closing.index + 1) f.text.end.index (omega (arith, room, at)) fit)

    -- no index is greater
    last-here : (e : Event) (es : List Event) → ((j : ℕ) → Fit j → j ≤ e.point.index) → AreFit es → AllByRecursion (λ x. x.point.index ≤ e.point.index) es
    last-here e es last fit = every-map (λ (x : Event). Fit x.point.index) (λ (x : Event). x.point.index ≤ e.point.index) (λ x h. last x.point.index h) es fit

    last-far : (e : Event) (es : List Event) → AllByRecursion (λ x. x.point.index ≤ e.point.index) es → AllByRecursion (λ x. x.point.index ≤ (F e).point.index) (map F es)
    last-far e [] h = tt
    last-far e (x ∷ xs) h = (let low = h.0 in omega (arith, low), last-far e xs h.1)

    check-on : (a : Awaited) (e : Event) (es : List Event) → AreFit (e ∷ es) → check_of big a (F e ∷ map F es) ≡ option_map far_found (check_of small a (e ∷ es))
    check-on Nothing e es fit = refl
    check-on Block e es fit = refl
    check-on DefinitionEnd e es fit = refl
    check-on Text e es fit = by (same_line e.point.index fit.0)
      where
        in_line : List ℕ → Option Found
        in_line line = elim (check_at line) as (λ (_ : Option Check). Option Found) [ None ↦ None | Some check ↦ found check (text_over (e.point.index + n) (check.columns + 3) (F e ∷ map F es)) ]

        by : (line_from big (e.point.index + n) ≡ line_from small e.point.index) ⊎ ((j : ℕ) → Fit j → j ≤ e.point.index) → check_of big Text (F e ∷ map F es) ≡ option_map far_found (check_of small Text (e ∷ es))
        by (inl same) = ap in_line same ∙ check-by e es (check_at (line_from small e.point.index))
        by (inr last) =
            let here = last-here e (e ∷ es) last fit in
            none-at-end big Text (F e) (map F es) (last-far e (e ∷ es) here) ∙ sym (ap (option_map far_found) (none-at-end small Text e es here))

    -- events with checks
    pub tasks-on : (skip : ℕ) (a : Awaited) (es : List Event) → AreFit es → events_with tab big skip a (map F es) ≡ map F (events_with tab small skip a es)
    tasks-on skip a [] fit = refl
    tasks-on (suc skip) a (e ∷ es) fit = tasks-on skip a es fit.1
    tasks-on zero a (e ∷ es) fit =
        by (λ skip b. tasks-on skip b es fit.1) (check_of small a (e ∷ es)) refl (found-stands (λ p. Fit p.index) small a e es) (check-on a e es fit)
      where
        by : ((skip : ℕ) (b : Awaited) → events_with tab big skip b (map F es) ≡ map F (events_with tab small skip b es)) → (o : Option Found) → check_of small a (e ∷ es) ≡ o
            → IfSome o (Stands (λ p. Fit p.index) small e es) → check_of big a (F e ∷ map F es) ≡ option_map far_found (check_of small a (e ∷ es)) → events_with tab big 0 a (F e ∷ map F es) ≡ map F (events_with tab small 0 a (e ∷ es))
        by inner None q k same =
            with-found tab big a (F e) (map F es) None (same ∙ ap (option_map far_found) q)
            ∙ ap (λ (b : Awaited). F e ∷ events_with tab big 0 b (map F es)) (awaited-on a e)
            ∙ ap (λ (ts : List Event). F e ∷ ts) (inner 0 (awaited_behind a e))
            ∙ sym (ap (map F) (with-found tab small a e es None q))
        by inner (Some f) q k same =
            let more = events_with tab small (f.text.size - 1) Nothing es in
            with-found tab big a (F e) (map F es) (Some (far_found f)) (same ∙ ap (option_map far_found) q)
            ∙ ap (λ (ts : List Event). ts ++ events_with tab big (f.text.size - 1) Nothing (map F es)) (check-far e.point f (found-room small a e es f q) (k.ends.placed fit))
            ∙ ap (λ (ts : List Event). map F (check_events tab small e.point f) ++ ts) (inner (f.text.size - 1) Nothing)
            ∙ sym (map-append F (check_events tab small e.point f) more)
            ∙ sym (ap (map F) (with-found tab small a e es (Some f) q))
