-- Inline text: along the fold over spans each link and each image leads to a destination, or to a label that is defined.
use Rattle.mddocument_rules.proofs.Prelude.{◌≡◌, ◌∙◌, ℕ, Bool, true, false, cond, List, [], ◌∷◌, ◌++◌, ap, arith, cond_both, every-append, every-back, every-front, false_from_ne_true, false≢true, length, refl, subst, sym, AllByRecursion, ◌&&◌, ◌||◌, Event, IsBalanced, Name, Run, is_enter, is_wanted, same_name, same_name-true}
use Rattle.std.proofs.Math.Bool.{and-false}
use Rattle.std.specs.Prelude.{◌<◌}
use Rattle.markdown_base.proofs.Common.{every-map}
use Rattle.markdown_base.specs.declared.event.Name.TheVariants as name
use Rattle.mdinline_links.proofs.Spans.{spans-have}
use Rattle.mdinline_links.specs.Linked.{Part, SoFar, Waiting, added, as_data, emphasised_parts, ended, events, failed, is_bracket, is_named, is_tail, linked_from, linked_parts, made, opened, outermost_spans, part_of, taken}
use Rattle.mddocument_laws.proofs.Chosen.{AreOther}
use Rattle.mddocument_laws.proofs.LinkEvents.{AnyRun}
use Rattle.mddocument_laws.proofs.LinkWalk.{IsPart, every-part}
use Rattle.mddocument_rules.proofs.HeldParts.{data-other, parts-hold}
use Rattle.mddocument_rules.proofs.ItemKinds.{IsCalm, IsKnown, ending_names}
use Rattle.mddocument_rules.proofs.Leading.{Lead, is_reference, lead-both, lead-free, references-apart}
use Rattle.mddocument_rules.proofs.LinkedFlat.{part-is}
use Rattle.mddocument_rules.proofs.MadeLeads.{Held}
use Rattle.mddocument_rules.proofs.QuietItems.{strange_names}
use Rattle.mddocument_rules.specs.BracketLaws.{folded}
use Rattle.mddocument_rules.specs.LinkLaws.{EntersNone}

-- ---- a fold over two lists of spans
abbrev pub BeginsNoTail : List (List Event) → Type 0
BeginsNoTail [] = Unit {0}
BeginsNoTail (span ∷ spans) = is_tail span ≡ false

last-fold : (z : SoFar) (span : List Event) (more : List (List Event)) → BeginsNoTail more → linked_from z (span ∷ more) ≡ linked_from (linked_from z (span ∷ [])) more
last-fold z span [] h = refl
last-fold z span (next ∷ more) h =
    let behind = linked_from (taken span z) (next ∷ more) in
    let alone = linked_from (ended span [] z.waiting z) (next ∷ more) in
    ap (λ t. cond (is_named name.LabelEnd span) (cond t (linked_from (ended span next z.waiting z) more) alone) behind) h
    ∙ elim (is_named name.LabelEnd span) as (λ b. cond b alone behind ≡ linked_from (cond b (ended span [] z.waiting z) (taken span z)) (next ∷ more)) [ true ↦ refl | false ↦ refl ]

pub fold-both : (z : SoFar) (xs ys : List (List Event)) → BeginsNoTail ys → linked_from z (xs ++ ys) ≡ linked_from (linked_from z xs) ys
fold-both z [] ys h = refl
fold-both z (span ∷ []) ys h = last-fold z span ys h
fold-both z (span ∷ next ∷ xs) ys h =
    let tailed = fold-both (ended span next z.waiting z) xs ys h in
    let alone = fold-both (ended span [] z.waiting z) (next ∷ xs) ys h in
    let behind = fold-both (taken span z) (next ∷ xs) ys h in
    elim (is_named name.LabelEnd span) as (λ b. cond b (cond (is_tail next) (linked_from (ended span next z.waiting z) (xs ++ ys)) (linked_from (ended span [] z.waiting z) (next ∷ (xs ++ ys)))) (linked_from (taken span z) (next ∷ (xs ++ ys)))
    ≡ linked_from (cond b (cond (is_tail next) (linked_from (ended span next z.waiting z) xs) (linked_from (ended span [] z.waiting z) (next ∷ xs))) (linked_from (taken span z) (next ∷ xs))) ys) [
      | true ↦ elim (is_tail next) as (λ t. cond t (linked_from (ended span next z.waiting z) (xs ++ ys)) (linked_from (ended span [] z.waiting z) (next ∷ (xs ++ ys)))
          ≡ linked_from (cond t (linked_from (ended span next z.waiting z) xs) (linked_from (ended span [] z.waiting z) (next ∷ xs))) ys) [
            | true ↦ tailed
            | false ↦ alone
          ]
      | false ↦ behind
    ]

-- ---- spans by the names in them
abbrev pub AreKnown : List Event → Type 0
AreKnown es = AllByRecursion (λ (e : Event). IsKnown e.name) es

abbrev pub AreCalm : List Event → Type 0
AreCalm es = AllByRecursion (λ (e : Event). IsCalm e.name) es

known-other : (n m : Name) → IsKnown n → is_wanted strange_names m ≡ true → same_name n m ≡ false
known-other n m h k = false_from_ne_true (same_name n m) (λ e. false≢true (sym h ∙ subst (λ x. is_wanted strange_names x ≡ true) (sym (same_name-true n m e)) k))

calm-other : (n m : Name) → IsCalm n → is_wanted ending_names m ≡ true → same_name n m ≡ false
calm-other n m h k = false_from_ne_true (same_name n m) (λ e. false≢true (sym h ∙ subst (λ x. is_wanted ending_names x ≡ true) (sym (same_name-true n m e)) k))

calm-named : (span : List Event) (m : Name) → AreCalm span → is_wanted ending_names m ≡ true → is_named m span ≡ false
calm-named [] m h k = refl
calm-named (e ∷ es) m h k = (λ i. is_enter e.kind && calm-other e.name m h.0 k i) ∙ and-false (is_enter e.kind)

pub calm-begins : (spans : List (List Event)) → AllByRecursion AreCalm spans → BeginsNoTail spans
calm-begins [] h = tt
calm-begins (span ∷ spans) h = (λ i. calm-named span name.Resource h.0 refl i || calm-named span name.Reference h.0 refl i)

pub known-unlinked : (es : List Event) → AreKnown es → AreOther is_reference es
known-unlinked es h = every-map (λ (e : Event). IsKnown e.name) (λ (e : Event). is_reference e.name ≡ false) (λ e k i. known-other e.name name.Link k refl i || known-other e.name name.Image k refl i) es h

pub known-texts : (es : List Event) → AreKnown es → EntersNone name.LabelText es
known-texts es h = every-map (λ (e : Event). IsKnown e.name) (λ (e : Event). (is_enter e.kind && same_name e.name name.LabelText) ≡ false) (λ e k. (λ i. is_enter e.kind && known-other e.name name.LabelText k refl i) ∙ and-false (is_enter e.kind)) es h

pub known-have : (es : List Event) → AreKnown es → AllByRecursion AreKnown (outermost_spans es)
known-have es h = spans-have AreKnown (λ xs ys k. (every-front (λ (e : Event). IsKnown e.name) xs ys k, every-back (λ (e : Event). IsKnown e.name) xs ys k)) (length es) es h

pub calm-have : (es : List Event) → AreCalm es → AllByRecursion AreCalm (outermost_spans es)
calm-have es h = spans-have AreCalm (λ xs ys k. (every-front (λ (e : Event). IsCalm e.name) xs ys k, every-back (λ (e : Event). IsCalm e.name) xs ys k)) (length es) es h

some-bracket : (span : List Event) → is_bracket span ≡ true → 0 < length span
some-bracket [] is = absurd (false≢true is)
some-bracket (e ∷ es) is = omega arith

-- ---- what the fold has so far
module _ (bytes : List ℕ) (defined : List ℕ → Bool) where
  pub record IsWaiting (w : Waiting) : Type 0 where
    pub known : AreKnown w.opener
    pub balanced : IsBalanced w.opener
    pub some : 0 < length w.opener
    pub before : Held bytes defined w.before

  pub record Holds (z : SoFar) : Type 0 where
    pub waits : AllByRecursion IsWaiting z.waiting
    pub behind : Held bytes defined z.behind

  held-more : (ps qs : List Part) → Held bytes defined ps → Held bytes defined qs → Held bytes defined (ps ++ qs)
  held-more ps qs h k = every-append (IsPart (Lead bytes defined) AnyRun) ps qs h k

  datum : (es : List Event) → Lead bytes defined (as_data es)
  datum es = lead-free bytes defined (as_data es) (data-other is_reference references-apart es)

  holds-failed : (span : List Event) (ws : List Waiting) (z : SoFar) → AllByRecursion IsWaiting ws → Holds z → Holds (failed span ws z)
  holds-failed span [] z a h = record { waits = h.waits; behind = held-more z.behind (events (as_data span) ∷ []) h.behind (datum span, tt) }
  holds-failed span (w ∷ ws) z a h = record {
    waits = a.1;
    behind = held-more w.before (events (as_data w.opener) ∷ (z.behind ++ events (as_data span) ∷ [])) a.0.before (datum w.opener, held-more z.behind (events (as_data span) ∷ []) h.behind (datum span, tt));
  }

  holds-taken : (span : List Event) (z : SoFar) → AreKnown span → IsBalanced span → Holds z → Holds (taken span z)
  holds-taken span z known balanced h =
      cond_both (is_bracket span) (opened span z) (cond (is_named name.LabelMarker span) (failed span z.waiting z) (added span z)) Holds
      (λ is. record { waits = (record { known = known; balanced = balanced; some = some-bracket span is; before = h.behind }, h.waits); behind = tt })
      (λ no. cond_both (is_named name.LabelMarker span) (failed span z.waiting z) (added span z) Holds (λ is. holds-failed span z.waiting z h.waits h)
      (λ other. record { waits = h.waits; behind = held-more z.behind ((part_of span z.runs).0 ∷ []) h.behind (part-is (Lead bytes defined) span z.runs (lead-free bytes defined span (known-unlinked span known)), tt) }))

  -- along spans that are no ends
  pub holds-calm : (spans : List (List Event)) (z : SoFar) → AllByRecursion AreCalm spans → AllByRecursion AreKnown spans → AllByRecursion IsBalanced spans → Holds z → Holds (linked_from z spans)
  holds-calm [] z calm known balanced h = h
  holds-calm (span ∷ []) z calm known balanced h =
      subst (λ b. Holds (cond b (ended span [] z.waiting z) (taken span z))) (sym (calm-named span name.LabelEnd calm.0 refl)) (holds-taken span z known.0 balanced.0 h)
  holds-calm (span ∷ next ∷ spans) z calm known balanced h =
      let tailed = cond (is_tail next) (linked_from (ended span next z.waiting z) spans) (linked_from (ended span [] z.waiting z) (next ∷ spans)) in
      subst (λ b. Holds (cond b tailed (linked_from (taken span z) (next ∷ spans)))) (sym (calm-named span name.LabelEnd calm.0 refl))
      (holds-calm (next ∷ spans) (taken span z) calm.1 known.1 balanced.1 (holds-taken span z known.0 balanced.0 h))

  -- an end of the last bracket, if what is made leads well
  pub holds-ended : (span tail : List Event) (w : Waiting) (ws : List Waiting) (z : SoFar) → z.waiting ≡ w ∷ ws → Lead bytes defined (made w.opener z.behind span tail) → Holds z → Holds (ended span tail z.waiting z)
  holds-ended span tail w ws z waits leads h =
      let a = subst (AllByRecursion IsWaiting) waits h.waits in
      subst (λ l. Holds (ended span tail l z)) (sym waits) (record { waits = a.1; behind = held-more w.before (events (made w.opener z.behind span tail) ∷ []) a.0.before (leads, tt) })

  -- In the end all parts lead well
  pub all-lead : (runs : List Run) (es : List Event) → Holds (folded runs (outermost_spans es)) → Lead bytes defined (emphasised_parts (linked_parts runs es))
  all-lead runs es h =
      let z = folded runs (outermost_spans es) in
      parts-hold is_reference references-apart (Lead bytes defined) (lead-both bytes defined) (lead-free bytes defined) (linked_parts runs es)
      (every-part (IsPart (Lead bytes defined) AnyRun) IsWaiting (λ w k. k.before) datum z.waiting z.behind h.waits h.behind)
