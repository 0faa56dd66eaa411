-- Checks, calls and literals put nothing into links.
use Rattle.std.proofs.Common.{◌≡◌, ℕ, zero, suc, ◌+◌, ◌-◌, ◌++◌, Bool, true, false, cond, List, [], ◌∷◌, drop, length, Option, Some, None, refl, sym, ap, subst, ◌∙◌, arith, ne_eqb}
use Rattle.std.proofs.lemmas.Bool.{and_parts, false≢true}
use Rattle.std.proofs.lemmas.List.{append-nil}
use Rattle.std.specs.List.{AllByRecursion}
use Rattle.std.specs.Prelude.{◌==◌, nat_le, not, option_map, IfSome}
use Rattle.markdown_base.proofs.Balanced.{balanced_from_open}
use Rattle.markdown_base.proofs.Common.{every-append, every-map}
use Rattle.markdown_base.specs.declared.event.Event.{Event}
use Rattle.markdown_base.specs.declared.event.Kind.TheVariants.{Enter, Exit}
use Rattle.markdown_base.specs.declared.event.Name.{Name}
use Rattle.markdown_base.specs.declared.event.Name.TheVariants.{Data, GfmFootnoteCallLabel, GfmFootnoteCallMarker, Label, LabelEnd, LabelMarker, Link}
use Rattle.markdown_base.specs.declared.event.Point.{Point}
use Rattle.markdown_base.specs.Events.{IsBalanced, is_enter}
use Rattle.markdown_base.specs.OpenNames.{names_after_all}
use Rattle.markdown_base.specs.Virtual.{point}
use Rattle.markdown_tokenizer.proofs.Positions.Order.{every-back, every-front}
use Rattle.mddocument.specs.DocumentEvents.{document_events}
use Rattle.mddocument.specs.Documents.{document}
use Rattle.mdblock_tables.specs.declared.tasks.Check.{Check}
use Rattle.mdblock_tables.specs.Tasks.{check_at}
use Rattle.mdgfm_events.proofs.Leaves.{leaf-passes}
use Rattle.mdgfm_events.specs.Places.{event, leaf, place_at}
use Rattle.mdgfm_events.specs.Spans.{span_end, span_size}
use Rattle.mdgfm_footnotes.proofs.Insides.{inside-names}
use Rattle.mdgfm_footnotes.proofs.Unchanged.{balance-by as calls-balanced}
use Rattle.mdgfm_footnotes.specs.CallEvents.{call_events_by, inside_call, is_bare, with_calls, with_insides}
use Rattle.mdgfm_footnotes.specs.Calls.{calls_of}
use Rattle.mdgfm_footnotes.specs.Laws.{call_names}
use Rattle.mdgfm_literals.proofs.Fits.{drop-one}
use Rattle.mdgfm_literals.specs.declared.texts.Literal.{Literal}
use Rattle.mdgfm_literals.specs.LiteralEvents.{events_with as literals_with}
use Rattle.mdgfm_literals.specs.Stretches.{literals_of}
use Rattle.mdgfm_tasks.proofs.Balance.{balance-kept as checks-balanced, check-balanced}
use Rattle.mdgfm_tasks.proofs.Covers.{Covers, found-covers}
use Rattle.mdgfm_tasks.proofs.Names.{check-passes}
use Rattle.mdgfm_tasks.proofs.Steps.{with-found}
use Rattle.mdgfm_tasks.specs.declared.awaited.Awaited.{Awaited}
use Rattle.mdgfm_tasks.specs.declared.awaited.Awaited.TheVariants.{Nothing, Block, DefinitionEnd, Text}
use Rattle.mdgfm_tasks.specs.declared.checks.Covered.{Covered}
use Rattle.mdgfm_tasks.specs.declared.checks.Found.{Found}
use Rattle.mdgfm_tasks.specs.Awaits.{awaited_behind, enters, exits}
use Rattle.mdgfm_tasks.specs.Checks.{check_of, data_over, found, is_data, line_from, linked, text_over, two_more}
use Rattle.mdgfm_tasks.specs.Laws.{check_names}
use Rattle.mdgfm_tasks.specs.TaskEvents.{check_events, events_with, task_events}
use Rattle.mdgfm_documents.proofs.InLinks.{of-others, over, with-literals}
use Rattle.mdgfm_documents.proofs.Whole.{own, well-formed}
use Rattle.mdgfm_documents.specs.LinkLaws.{AreInNoLink, LinksAreKept, LinksHoldNoLinks, LinksHoldNone, all_links, further_links, open_behind}

module _ (test : Name → Bool) where
  abbrev Out : List Name → List Event → Type 0
  Out ns es = AreInNoLink test ns es

  abbrev other : Name → Bool
  other n = not (test n)

  abbrev IsOther : Event → Type 0
  IsOther e = other e.name ≡ true

  -- ---- what is left behind a span

  span-out : (n : ℕ) (m : Name) (ns st : List Name) (es : List Event) → length ns ≡ n → Out (m ∷ (ns ++ st)) es → Out st (drop (span_size n es) es)
  span-out n m ns st [] h o = tt
  span-out n m ns st (e ∷ es) h o = by (λ i x xs. span-out i x xs st es) (is_enter e.kind) o.1
    where
      closed : ((i : ℕ) (x : Name) (xs : List Name) → length xs ≡ i → Out (x ∷ (xs ++ st)) es → Out st (drop (span_size i es) es))
          → (xs : List Name) → length xs ≡ n → Out (xs ++ st) es → Out st (drop (cond (n == 0) 1 (span_size (n - 1) es + 1)) (e ∷ es))
      closed inner [] k p = subst (λ b. Out st (drop (cond b 1 (span_size (n - 1) es + 1)) (e ∷ es))) (ap (λ i. i == 0) k) p
      closed inner (x ∷ xs) k p =
          let some : (n == 0) ≡ false = ne_eqb n 0 (λ q. omega (arith, q, k)) in
          subst (λ b. Out st (drop (cond b 1 (span_size (n - 1) es + 1)) (e ∷ es))) (sym some)
          (subst (Out st) (sym (drop-one (span_size (n - 1) es) e es)) (inner (n - 1) x xs (omega (arith, k)) p))

      by : ((i : ℕ) (x : Name) (xs : List Name) → length xs ≡ i → Out (x ∷ (xs ++ st)) es → Out st (drop (span_size i es) es))
          → (t : Bool) → Out (cond t (e.name ∷ m ∷ (ns ++ st)) (ns ++ st)) es
          → Out st (drop (cond t (span_size (n + 1) es + 1) (cond (n == 0) 1 (span_size (n - 1) es + 1))) (e ∷ es))
      by inner true p = subst (Out st) (sym (drop-one (span_size (n + 1) es) e es)) (inner (n + 1) e.name (m ∷ ns) (omega (arith, h)) p)
      by inner false p = closed inner ns h p

  -- ---- checks

  abbrev Leaves : List Event → Covered → Type 0
  Leaves es c = (ns : List Name) → Out ns es → Out ns (drop c.size es)

  data-leaves : (at many : ℕ) (es : List Event) → IfSome (data_over at many es) (Leaves es)
  data-leaves at many [] = tt
  data-leaves at many (e ∷ []) = tt
  data-leaves at many (e ∷ f ∷ es) = by (is_data e f) (nat_le many (f.point.index - at)) refl (data_over at many es) (data-leaves at many es)
    where
      two : is_data e f ≡ true → (ns : List Name) → Out ns (e ∷ f ∷ es) → Out ns es
      two h ns o =
          let both = and_parts (enters Data e) (exits Data f) h in
          let first = and_parts (is_enter e.kind) _ both.0 in
          let last = and_parts (not (is_enter f.kind)) _ both.1 in
          subst (λ m. Out m es) (names (is_enter e.kind) (is_enter f.kind) first.0 last.0) o.1.1
        where
          names : (a b : Bool) → a ≡ true → not b ≡ true → cond b (f.name ∷ cond a (e.name ∷ ns) (drop 1 ns)) (drop 1 (cond a (e.name ∷ ns) (drop 1 ns))) ≡ ns
          names true false h k = refl
          names true true h k = absurd (false≢true k)
          names false b h k = absurd (false≢true h)

      by : (t u : Bool) → is_data e f ≡ t → (o : Option Covered) → IfSome o (Leaves es)
          → IfSome (cond t (cond u (Some (let v : Covered = record { size = 2; end = f.point } in v)) (option_map two_more o)) None) (Leaves (e ∷ f ∷ es))
      by false u h o more = tt
      by true true h o more = two h
      by true false h None more = tt
      by true false h (Some c) more =
          let sum : c.size + 2 ≡ suc (suc c.size) = omega arith in
          λ ns p. subst (λ n. Out ns (drop n (e ∷ f ∷ es))) (sym sum) (more ns (two h ns p))

  link-leaves : (at many : ℕ) (e : Event) (es : List Event) → is_enter e.kind ≡ true → IfSome (linked at many e es) (Leaves (e ∷ es))
  link-leaves at many e es enters = by (((span_end e.point 0 es).index - at) == many)
    where
      by : (t : Bool) → IfSome (cond t (Some (let v : Covered = record { size = span_size 0 es + 1; end = span_end e.point 0 es } in v)) None) (Leaves (e ∷ es))
      by false = tt
      by true = λ ns o.
          let sum : span_size 0 es + 1 ≡ suc (span_size 0 es) = omega arith in
          subst (λ n. Out ns (drop n (e ∷ es))) (sym sum) (span-out 0 e.name [] ns es refl (subst (λ b. Out (cond b (e.name ∷ ns) (drop 1 ns)) es) enters o.1))

  text-leaves : (at many : ℕ) (es : List Event) → IfSome (text_over at many es) (Leaves es)
  text-leaves at many [] = tt
  text-leaves at many (e ∷ es) = by (enters Link e) refl
    where
      by : (t : Bool) → enters Link e ≡ t → IfSome (cond t (linked at many e es) (data_over at many (e ∷ es))) (Leaves (e ∷ es))
      by true h = link-leaves at many e es (and_parts (is_enter e.kind) _ h).0
      by false h = data-leaves at many (e ∷ es)

  found-leaves : (bytes : List ℕ) (a : Awaited) (e : Event) (es : List Event) → IfSome (check_of bytes a (e ∷ es)) (λ f. Leaves (e ∷ es) f.text)
  found-leaves bytes Nothing e es = tt
  found-leaves bytes Block e es = tt
  found-leaves bytes DefinitionEnd e es = tt
  found-leaves bytes Text e es = by (check_at (line_from bytes e.point.index))
    where
      in_text : (check : Check) (o : Option Covered) → IfSome o (Leaves (e ∷ es)) → IfSome (found check o) (λ f. Leaves (e ∷ es) f.text)
      in_text check None h = tt
      in_text check (Some c) h = h

      by : (o : Option Check) → IfSome (elim o [ None ↦ None | Some check ↦ found check (text_over e.point.index (check.columns + 3) (e ∷ es)) ]) (λ f. Leaves (e ∷ es) f.text)
      by None = tt
      by (Some check) = in_text check (text_over e.point.index (check.columns + 3) (e ∷ es)) (text-leaves e.point.index (check.columns + 3) (e ∷ es))

  module _ (six : AllByRecursion (λ n. other n ≡ true) check_names) (tab : ℕ) (bytes : List ℕ) where
    checks-out : (ns : List Name) (skip : ℕ) (a : Awaited) (es : List Event) → Out ns (drop skip es) → Out ns (events_with tab bytes skip a es)
    checks-out ns skip a [] o = tt
    checks-out ns (suc skip) a (e ∷ es) o = checks-out ns skip a es o
    checks-out ns zero a (e ∷ es) o = by (λ ms skip b. checks-out ms skip b es) (check_of bytes a (e ∷ es)) refl (found-covers bytes a e es) (found-leaves bytes a e es)
      where
        by : ((ms : List Name) (skip : ℕ) (b : Awaited) → Out ms (drop skip es) → Out ms (events_with tab bytes skip b es)) → (found : Option Found) → check_of bytes a (e ∷ es) ≡ found
            → IfSome found (λ f. Covers e.point.index (f.check.columns + 3) (e ∷ es) f.text) → IfSome found (λ f. Leaves (e ∷ es) f.text) → Out ns (events_with tab bytes 0 a (e ∷ es))
        by inner None q c s = subst (Out ns) (sym (with-found tab bytes a e es None q)) (o.0, inner (open_behind ns e) 0 (awaited_behind a e) o.1)
        by inner (Some f) q c s =
            let one : f.text.size ≡ suc (f.text.size - 1) = omega (arith, c.least) in
            let more = subst (λ n. Out ns (drop n (e ∷ es))) one (s ns o) in
            let check = check_events tab bytes e.point f in
            subst (Out ns) (sym (with-found tab bytes a e es (Some f) q))
            (over test ns check (events_with tab bytes (f.text.size - 1) Nothing es) (check-balanced tab bytes e.point f) (of-others test ns check (check-passes other six tab bytes e.point f))
            (inner ns (f.text.size - 1) Nothing more))

  -- ---- calls

  module _ (six : AllByRecursion (λ n. other n ≡ true) (drop 1 call_names)) (tab : ℕ) (bytes : List ℕ) where
    inside-others : (p q : Point) → AllByRecursion IsOther (inside_call tab bytes p q)
    inside-others p q =
        let caret = place_at tab bytes p (p.index + 1) in
        let label = place_at tab bytes caret (p.index + 2) in
        let end = place_at tab bytes label (q.index - 1) in
        let of_label = six.0 in
        let last = event Exit LabelEnd q ∷ event Exit Label q ∷ [] in
        let three = event Enter LabelEnd end ∷ (leaf LabelMarker end q ++ last) in
        let two = event Exit GfmFootnoteCallLabel label ∷ (leaf Data label end ++ three) in
        let one = leaf GfmFootnoteCallMarker caret label ++ two in
        let names_label = six.1.1.0 in
        let names_end = six.1.1.1.0 in
        let names_marker = six.1.1.1.1.0 in (
          names_label,
          (
            six.0,
            every-append IsOther (leaf LabelMarker p caret) one (leaf-passes other LabelMarker p caret names_marker)
                (every-append IsOther (leaf GfmFootnoteCallMarker caret label) two (leaf-passes other GfmFootnoteCallMarker caret label six.1.0) (
                  six.0,
                  every-append IsOther (leaf Data label end) three (leaf-passes other Data label end six.1.1.1.1.1.0)
                      (names_end, every-append IsOther (leaf LabelMarker end q) last (leaf-passes other LabelMarker end q names_marker) (names_end, (names_label, tt))),
                )),
          ),
        )

    inside-balanced : (p q : Point) → IsBalanced (inside_call tab bytes p q)
    inside-balanced p q =
        balanced_from_open (inside_call tab bytes p q) (ap (names_after_all (Some [])) (sym (append-nil (inside_call tab bytes p q))) ∙ inside-names tab bytes p q (Some []) [])

    insides-out : (ns : List Name) (calls : List Literal) (es : List Event) → Out ns es → Out ns (with_insides tab bytes calls es)
    insides-out ns calls [] o = tt
    insides-out ns calls (e ∷ es) o = by (is_bare calls e es) (insides-out (open_behind ns e) calls es o.1) (insides-out (open_behind ns e) (drop 1 calls) es o.1)
      where
        inside : List Event
        inside = inside_call tab bytes e.point (span_end e.point 0 es)

        by : (t : Bool) → Out (open_behind ns e) (with_insides tab bytes calls es) → Out (open_behind ns e) (with_insides tab bytes (drop 1 calls) es)
            → Out ns (cond t (e ∷ (inside ++ with_insides tab bytes (drop 1 calls) es)) (e ∷ with_insides tab bytes calls es))
        by true h k =
            (o.0, over test (open_behind ns e) inside (with_insides tab bytes (drop 1 calls) es) (inside-balanced e.point (span_end e.point 0 es)) (of-others test (open_behind ns e) inside (inside-others e.point (span_end e.point 0 es))) k)
        by false h k = (o.0, h)

-- ---- all of them

pub links-are-kept : LinksAreKept
links-are-kept test options bytes events balanced names o =
    let all = every-map (λ (n : Name). test n ≡ false) (λ n. not (test n) ≡ true) (λ n is. ap not is) (check_names ++ drop 1 call_names) names in
    let of_checks = every-front (λ (n : Name). not (test n) ≡ true) check_names (drop 1 call_names) all in
    let of_calls = every-back (λ (n : Name). not (test n) ≡ true) check_names (drop 1 call_names) all in
    let b1 = checks-balanced options bytes events balanced in
    let o1 = checks of_checks options.constructs.gfm_task_list_item in
    let b2 = calls-balanced noted options bytes tasks b1 in
    let o2 = calls of_calls b1 o1 options.constructs.gfm_label_start_footnote in
    literals b2 o2 options.constructs.gfm_autolink_literal
  where
    start : Point
    start = point 1 1 0 0

    noted : List ℕ → Bool
    noted = own bytes events

    tasks : List Event
    tasks = task_events options bytes events

    called : List Event
    called = call_events_by noted options bytes tasks

    checks : AllByRecursion (λ n. not (test n) ≡ true) check_names → (t : Bool) → AreInNoLink test [] (cond t (events_with options.tab_size bytes 0 Nothing events) events)
    checks six true = checks-out test six options.tab_size bytes [] 0 Nothing events o
    checks six false = o

    calls : AllByRecursion (λ n. not (test n) ≡ true) (drop 1 call_names) → IsBalanced tasks → AreInNoLink test [] tasks → (t : Bool)
        → AreInNoLink test [] (cond t (with_calls noted options.tab_size bytes tasks) tasks)
    calls six b k true =
        let found = calls_of noted bytes 0 0 tasks in
        insides-out test six options.tab_size bytes [] found (literals_with options.tab_size bytes 0 0 start found tasks) (with-literals test options.tab_size bytes start found tasks b k)
    calls six b k false = k

    literals : IsBalanced called → AreInNoLink test [] called → (t : Bool)
        → AreInNoLink test [] (cond t (literals_with options.tab_size bytes 0 0 start (literals_of bytes true 0 0 called) called) called)
    literals b k true = with-literals test options.tab_size bytes start (literals_of bytes true 0 0 called) called b k
    literals b k false = k

-- ---- of documents

pub links-hold-none : LinksHoldNone
links-hold-none options bytes is none =
    let events = document_events (document options bytes) in
    links-are-kept further_links options bytes events (well-formed options bytes is).balanced (refl, (refl, (refl, (refl, (refl, (refl, (refl, (refl, (refl, (refl, (refl, (refl, tt)))))))))))) (of-others further_links [] events (every-map (λ (e : Event). further_links e.name ≡ false) (λ e. not (further_links e.name) ≡ true) (λ e h. ap not h) events none))

pub links-hold-no-links : LinksHoldNoLinks
links-hold-no-links options bytes is none =
    links-are-kept all_links options bytes (document_events (document options bytes)) (well-formed options bytes is).balanced (refl, (refl, (refl, (refl, (refl, (refl, (refl, (refl, (refl, (refl, (refl, (refl, tt)))))))))))) none
