-- What links keep between places: along the fold over spans each part goes from a place to a place.
use Rattle.std.proofs.Common.{◌≡◌, ◌<◌, ◌∙◌, List, [], ◌∷◌, ◌++◌, Bool, true, false, cond, ap, arith, inl, inr, length, refl, subst, sym}
use Rattle.std.proofs.lemmas.Bool.{cases_Bool}
use Rattle.std.specs.Prelude.{◌&&◌, ◌||◌, not}
use Rattle.markdown_base.proofs.Common.{and-right}
use Rattle.markdown_base.specs.declared.event.Event.{Event}
use Rattle.markdown_base.specs.declared.event.Name.{Name}
use Rattle.markdown_base.specs.declared.event.Name.TheVariants.{AttentionSequence, Image, Label, LabelEnd, LabelImage, LabelLink, LabelMarker, Link, Reference, Resource}
use Rattle.markdown_base.specs.Events.{IsBalanced, is_enter, same_name}
use Rattle.markdown_base.proofs.Facts.Lists.{some-front}
use Rattle.markdown_base.proofs.Balanced.{IsBalanced-append, same_name-true}
use Rattle.mdinline_emphasis.specs.Emphasis.{Run}
use Rattle.mdinline_links.proofs.Kept.{AreParts as AreKeptParts, around-kept, label-text, parts-emphasised, whole-name}
use Rattle.mdinline_links.proofs.Leaves.{balanced-is-kept}
use Rattle.mdinline_links.proofs.Plain.{part-plain}
use Rattle.mdinline_links.specs.Between.{AreParts, IsPart, is_marked, HoldsAround, HoldsAroundText, HoldsTogether}
use Rattle.mdinline_links.specs.Kept.{IsFresh, is_made_of}
use Rattle.mdinline_links.specs.Linked.{Part, run, events, SoFar, Waiting, added, all_parts, around, as_data, emphasised_parts, ended, failed, is_bracket, is_named, is_run, is_tail, label_text, linked_from, made, opened, part_of, taken}
use Rattle.mdinline_links.specs.Places.{Anywhere}

-- ---- spans that are no runs

-- a span with another name is no run
pub no-run-named : (name : Name) → same_name name AttentionSequence ≡ false → (span : List Event) → is_named name span ≡ true → is_run span ≡ false
no-run-named name h [] is = refl
no-run-named name h (e ∷ []) is = refl
no-run-named name h (e ∷ f ∷ []) is =
    let same : e.name ≡ name = same_name-true e.name name (and-right (is_enter e.kind) (same_name e.name name) is) in
    let other : same_name e.name AttentionSequence ≡ false = ap (λ n. same_name n AttentionSequence) same ∙ h in
    by (is_enter e.kind) (same_name e.name AttentionSequence) (not (is_enter f.kind) && same_name f.name AttentionSequence) other
  where
    by : (a b c : Bool) → b ≡ false → ((a && b) && c) ≡ false
    by true true c k = cc
    by true false c k = refl
    by false b c k = refl
no-run-named name h (e ∷ f ∷ g ∷ es) is = refl

no-run-either : (n m : Name) → same_name n AttentionSequence ≡ false → same_name m AttentionSequence ≡ false → (span : List Event) → (is_named n span || is_named m span) ≡ true → is_run span ≡ false
no-run-either n m h k span is = elim (cases_Bool (is_named n span)) [
  | inl a ↦ no-run-named n h span a
  | inr a ↦ no-run-named m k span (sym (ap (λ t. t || is_named m span) a) ∙ is)
]

-- nor does one that fails take runs
pub fail-runs : (span : List Event) (ws : List Waiting) (z : SoFar) → (failed span ws z).runs ≡ z.runs
fail-runs span [] z = refl
fail-runs span (w ∷ ws) z = refl

-- so no run is taken for it
none-taken : (span : List Event) (rs : List Run) → is_run span ≡ false → (part_of span rs).1 ≡ rs
none-taken span rs h = ap (λ (p : Part × List Run). p.1) (part-plain span rs h)

-- ---- lists that are not empty

around-some : (name : Name) (es : List Event) → 0 < length es → 0 < length (around name es)
around-some name [] h = h
around-some name (e ∷ es) h = omega arith

module _ (Q : Type 0) (B : Q → List Event → Q → Type 0) (R : Q → Run → Q → Type 0) where
  -- ---- parts

  pub parts-append : (p m q : Q) (xs ys : List Part) → AreParts Q B R p xs m → AreParts Q B R m ys q → AreParts Q B R p (xs ++ ys) q
  parts-append p m q [] ys h k = subst (λ x. AreParts Q B R x ys q) (sym h) k
  parts-append p m q (x ∷ xs) ys h k = (h.0, h.1, parts-append h.0 m q xs ys h.2 k)

  parts-one : (p m q : Q) (xs : List Part) (y : Part) → AreParts Q B R p xs m → IsPart Q B R m y q → AreParts Q B R p (xs ++ y ∷ []) q
  parts-one p m q xs y h k = parts-append p m q xs (y ∷ []) h (q, k, refl)

  -- they are balanced, and their runs are fresh
  parts-kept : (p q : Q) (ps : List Part) → AreParts Q B R p ps q → AreKeptParts Anywhere IsBalanced IsFresh balanced-is-kept ps
  parts-kept p q [] h = tt
  parts-kept p q (run r ∷ ps) h = (h.1.1, parts-kept h.0 q ps h.2)
  parts-kept p q (events es ∷ ps) h = (h.1.1, parts-kept h.0 q ps h.2)

  -- ---- what the fold has so far

  -- a bracket, which may be data in the end
  abbrev IsOpener : Q → List Event → Q → Type 0
  IsOpener p o q = IsPart Q B R p (events o) q × IsPart Q B R p (events (as_data o)) q

  -- brackets that wait, with the parts before each
  abbrev AreWaiting : Q → List Waiting → Q → Type 0
  AreWaiting p [] q = p ≡ q
  AreWaiting p (w ∷ ws) q = (m n : Q) × AreWaiting p ws m × AreParts Q B R m w.before n × IsOpener n w.opener q

  pub record IsSoFar (p : Q) (z : SoFar) (q : Q) : Type 0 where
    pub middle : Q
    pub waits : AreWaiting p z.waiting middle
    pub behind : AreParts Q B R middle z.behind q

  pub parts-all : (p m q : Q) (ws : List Waiting) (behind : List Part) → AreWaiting p ws m → AreParts Q B R m behind q → AreParts Q B R p (all_parts ws behind) q
  parts-all p m q [] behind h k = subst (λ x. AreParts Q B R x behind q) (sym h) k
  parts-all p m q (w ∷ ws) behind h k =
      parts-all p h.0 q ws (w.before ++ events (as_data w.opener) ∷ behind) h.2 (parts-append h.0 h.1 q w.before (events (as_data w.opener) ∷ behind) h.3 (m, h.4.1, k))

  -- a span goes from a place to a place, and so does data in its stead, if it may be data
  abbrev pub IsSpan : Q → List Event → Q → Type 0
  IsSpan p span q = IsPart Q B R p (events span) q × (is_marked span ≡ true → IsPart Q B R p (events (as_data span)) q)

  -- spans do, and the runs that are taken for them
  abbrev pub AreSpans : Q → List (List Event) → List Run → Q → Type 0
  AreSpans p [] rs q = p ≡ q
  AreSpans p (span ∷ spans) rs q = (m : Q) × IsSpan p span m × IsPart Q B R p (part_of span rs).0 m × AreSpans m spans (part_of span rs).1 q

  -- what holds of the parts of a text
  pub record IsKeptByParts : Type 0 where
    pub nothing : (q : Q) → B q [] q
    pub together : HoldsTogether Q B
    pub around_it : HoldsAround Q B
    pub text_around : HoldsAroundText Q B
    pub emphasis : (p q : Q) (ps : List Part) → AreParts Q B R p ps q → B p (emphasised_parts ps) q
    pub some : (p q : Q) (ps : List Part) → AreParts Q B R p ps q → 0 < length ps → 0 < length (emphasised_parts ps)

  module _ (kept : IsKeptByParts) where
    parts-balanced : (p q : Q) (ps : List Part) → AreParts Q B R p ps q → IsBalanced (emphasised_parts ps)
    parts-balanced p q ps h = parts-emphasised Anywhere IsBalanced IsFresh balanced-is-kept ps (parts-kept p q ps h)

    -- ---- a link or an image

    around-between : (p q : Q) (name : Name) (es : List Event) → is_made_of name ≡ true → 0 < length es → IsBalanced es → B p es q → B p (around name es) q
    around-between p q name [] n some b h = absurd (omega (arith, some))
    around-between p q name (e ∷ es) n some b h = kept.around_it p q name e es n b h

    label-between : (p m n q : Q) (opener close : List Event) (ps : List Part) → IsPart Q B R p (events opener) m → AreParts Q B R m ps n → IsPart Q B R n (events close) q
        → B p (opener ++ (label_text opener close ps ++ close)) q
    label-between p m n q [] close ps h k l = absurd (let none = h.2 in omega (arith, none))
    label-between p m n q (e ∷ es) [] ps h k l = absurd (let none = l.2 in omega (arith, none))
    label-between p m n q (e ∷ es) (f ∷ fs) [] h k l = kept.together p m q (e ∷ es) (f ∷ fs) h.1 l.1 h.0 (subst (λ x. B x (f ∷ fs) q) (sym k) l.0)
    label-between p m n q (e ∷ es) (f ∷ fs) (x ∷ xs) h k l =
        kept.text_around p m n q e es (emphasised_parts (x ∷ xs)) f fs (kept.some m n (x ∷ xs) k (omega arith)) h.1 (parts-balanced m n (x ∷ xs) k) h.0 (kept.emphasis m n (x ∷ xs) k) l.0

    -- an end is behind it, with a tail or without
    abbrev IsTail : Q → List Event → Q → Type 0
    IsTail p tail q = B p tail q × IsBalanced tail

    made-between : (p m n k q : Q) (opener : List Event) (ps : List Part) (close tail : List Event) → IsPart Q B R p (events opener) m → AreParts Q B R m ps n → IsPart Q B R n (events close) k → IsTail k tail q
        → IsPart Q B R p (events (made opener ps close tail)) q
    made-between p m n k q opener ps close tail h between c t =
        let text = label_text opener close ps in
        let inside = opener ++ (text ++ close) in
        let name = cond (is_named LabelImage opener) Image Link in
        let named = whole-name Anywhere IsBalanced IsFresh balanced-is-kept (is_named LabelImage opener) in
        let some = some-front opener (text ++ close) h.2 in
        let text_balanced = label-text Anywhere IsBalanced IsFresh balanced-is-kept opener close ps h.1 c.1 (parts-kept m n ps between) in
        let balanced = IsBalanced-append opener (text ++ close) h.1 (IsBalanced-append text close text_balanced c.1) in
        let label = around-between p k Label inside refl some balanced (label-between p m n k opener close ps h between c) in
        let label_balanced = around-kept Anywhere IsBalanced IsFresh balanced-is-kept Label inside refl balanced in
        let some_both = some-front (around Label inside) tail (around-some Label inside some) in
        let both_balanced = IsBalanced-append (around Label inside) tail label_balanced t.1 in (
          around-between p q name (around Label inside ++ tail) named some_both both_balanced (kept.together p k q (around Label inside) tail label_balanced t.1 label t.0),
          around-kept Anywhere IsBalanced IsFresh balanced-is-kept name (around Label inside ++ tail) named both_balanced,
          around-some name (around Label inside ++ tail) some_both,
        )

    -- ---- one span more

    -- it is so with the span, and so many runs are left
    abbrev Goes : Q → SoFar → List Run → Q → Type 0
    Goes p z rs q = IsSoFar p z q × (z.runs ≡ rs)

    is-opened : (p m q : Q) (span : List Event) (z : SoFar) → IsOpener m span q → IsSoFar p z m → IsSoFar p (opened span z) q
    is-opened p m q span z o h = record { middle = q; waits = (h.middle, m, h.waits, h.behind, o); behind = refl }

    is-failed : (p m k q : Q) (span : List Event) (ws : List Waiting) (z : SoFar) → IsPart Q B R k (events (as_data span)) q → AreWaiting p ws m → AreWaiting p z.waiting m → AreParts Q B R m z.behind k → IsSoFar p (failed span ws z) q
    is-failed p m k q span [] z d a w b = record { middle = m; waits = w; behind = parts-one m k q z.behind (events (as_data span)) b d }
    is-failed p m k q span (w ∷ ws) z d a waits b = record {
      middle = a.0;
      waits = a.2;
      behind = parts-append a.0 a.1 q w.before (events (as_data w.opener) ∷ (z.behind ++ events (as_data span) ∷ [])) a.3 (m, a.4.1, parts-one m k q z.behind (events (as_data span)) b d);
    }

    is-ended : (p m k l q : Q) (span tail : List Event) (ws : List Waiting) (z : SoFar) → IsPart Q B R k (events span) l → IsTail l tail q → AreWaiting p ws m → AreWaiting p z.waiting m → AreParts Q B R m z.behind k
        → IsSoFar p (ended span tail ws z) q
    is-ended p m k l q span tail [] z s t a w b = record {
      middle = m;
      waits = w;
      behind = parts-one m k q z.behind (events (span ++ tail)) b (kept.together k l q span tail s.1 t.1 s.0 t.0, IsBalanced-append span tail s.1 t.1, some-front span tail s.2);
    }
    is-ended p m k l q span tail (w ∷ ws) z s t a waits b = record {
      middle = a.0;
      waits = a.2;
      behind = parts-one a.0 a.1 q w.before (events (made w.opener z.behind span tail)) a.3 (made-between a.1 m k l q w.opener z.behind span tail a.4.0 b s t);
    }

    is-taken : (p m q : Q) (span : List Event) (z : SoFar) → IsSpan m span q → IsPart Q B R m (part_of span z.runs).0 q → IsSoFar p z m → Goes p (taken span z) (part_of span z.runs).1 q
    is-taken p m q span z s part h =
        let rs = (part_of span z.runs).1 in
        elim (cases_Bool (is_bracket span)) [
          | inl a ↦
              let free = none-taken span z.runs (no-run-either LabelLink LabelImage refl refl span a) in
              subst (λ t. Goes p (cond t (opened span z) (cond (is_named LabelMarker span) (failed span z.waiting z) (added span z))) rs q) (sym a)
              (is-opened p m q span z (s.0, s.1 (ap (λ t. t || is_named LabelMarker span) a)) h, sym free)
          | inr a ↦ subst (λ t. Goes p (cond t (opened span z) (cond (is_named LabelMarker span) (failed span z.waiting z) (added span z))) rs q) (sym a) (elim (cases_Bool (is_named LabelMarker span)) [
            | inl b ↦
                let free = none-taken span z.runs (no-run-named LabelMarker refl span b) in
                subst (λ t. Goes p (cond t (failed span z.waiting z) (added span z)) rs q) (sym b)
                (is-failed-at p m q span z (s.1 (ap (λ t. t || is_named LabelMarker span) a ∙ b)) h, fail-runs span z.waiting z ∙ sym free)
            | inr b ↦ subst (λ t. Goes p (cond t (failed span z.waiting z) (added span z)) rs q) (sym b)
                (record { middle = h.middle; waits = h.waits; behind = parts-one h.middle m q z.behind (part_of span z.runs).0 h.behind part }, refl)
          ])
        ]
      where
        is-failed-at : (p m q : Q) (span : List Event) (z : SoFar) → IsPart Q B R m (events (as_data span)) q → IsSoFar p z m → IsSoFar p (failed span z.waiting z) q
        is-failed-at p m q span z d h = is-failed p h.middle m q span z.waiting z d h.waits h.waits h.behind

    end-runs : (span : List Event) (tail : List Event) (ws : List Waiting) (z : SoFar) → (ended span tail ws z).runs ≡ z.runs
    end-runs span tail [] z = refl
    end-runs span tail (w ∷ ws) z = refl

    ended-goes : (p m l q : Q) (span tail : List Event) (z : SoFar) → is_named LabelEnd span ≡ true → IsPart Q B R m (events span) l → IsTail l tail q → IsSoFar p z m
        → Goes p (ended span tail z.waiting z) (part_of span z.runs).1 q
    ended-goes p m l q span tail z name s t h =
        (is-ended p h.middle m l q span tail z.waiting z s t h.waits h.waits h.behind, end-runs span tail z.waiting z ∙ sym (none-taken span z.runs (no-run-named LabelEnd refl span name)))

    no-tail : (q : Q) → IsTail q [] q
    no-tail q = (kept.nothing q, balanced-is-kept.nothing)

    -- along all spans
    pub spans-go : (p m q : Q) (spans : List (List Event)) (z : SoFar) (rs : List Run) → Goes p z rs m → AreSpans m spans rs q → IsSoFar p (linked_from z spans) q
    spans-go p m q [] z rs h k = subst (IsSoFar p z) k h.0
    spans-go p m q (span ∷ []) z rs h k =
        let here = subst (λ xs. IsPart Q B R m (part_of span xs).0 k.0) (sym h.1) k.2 in
        subst (IsSoFar p (linked_from z (span ∷ []))) k.3
        (elim (cases_Bool (is_named LabelEnd span)) [
          | inl a ↦ subst (λ t. IsSoFar p (cond t (ended span [] z.waiting z) (taken span z)) k.0) (sym a) (ended-goes p m k.0 k.0 span [] z a k.1.0 (no-tail k.0) h.0).0
          | inr a ↦ subst (λ t. IsSoFar p (cond t (ended span [] z.waiting z) (taken span z)) k.0) (sym a) (is-taken p m k.0 span z k.1 here h.0).0
        ])
    spans-go p m q (span ∷ next ∷ spans) z rs h k =
        let here = subst (λ xs. IsPart Q B R m (part_of span xs).0 k.0) (sym h.1) k.2 in
        let left : (part_of span z.runs).1 ≡ (part_of span rs).1 = ap (λ xs. (part_of span xs).1) h.1 in
        let behind_end = cond (is_tail next) (linked_from (ended span next z.waiting z) spans) (linked_from (ended span [] z.waiting z) (next ∷ spans)) in
        let behind_other = linked_from (taken span z) (next ∷ spans) in
        elim (cases_Bool (is_named LabelEnd span)) [
          | inl a ↦ subst (λ t. IsSoFar p (cond t behind_end behind_other) q) (sym a) (elim (cases_Bool (is_tail next)) [
            | inl b ↦
                let n = k.3 in
                let end = ended-goes p m k.0 n.0 span next z a k.1.0 (n.1.0.0, n.1.0.1) h.0 in
                let same = none-taken next (part_of span rs).1 (no-run-either Resource Reference refl refl next b) in
                subst (λ t. IsSoFar p (cond t (linked_from (ended span next z.waiting z) spans) (linked_from (ended span [] z.waiting z) (next ∷ spans))) q) (sym b)
                (spans-go p n.0 q spans (ended span next z.waiting z) (part_of span rs).1 (end.0, end.1 ∙ left) (subst (λ xs. AreSpans n.0 spans xs q) same n.3))
            | inr b ↦
                let end = ended-goes p m k.0 k.0 span [] z a k.1.0 (no-tail k.0) h.0 in
                subst (λ t. IsSoFar p (cond t (linked_from (ended span next z.waiting z) spans) (linked_from (ended span [] z.waiting z) (next ∷ spans))) q) (sym b)
                (spans-go p k.0 q (next ∷ spans) (ended span [] z.waiting z) (part_of span rs).1 (end.0, end.1 ∙ left) k.3)
          ])
          | inr a ↦
              let more = is-taken p m k.0 span z k.1 here h.0 in
              subst (λ t. IsSoFar p (cond t behind_end behind_other) q) (sym a) (spans-go p k.0 q (next ∷ spans) (taken span z) (part_of span rs).1 (more.0, more.1 ∙ left) k.3)
        ]

    -- from the front
    pub all-go : (p q : Q) (spans : List (List Event)) (rs : List Run) → AreSpans p spans rs q
        → let z = linked_from (record { waiting = []; behind = []; runs = rs }) spans in B p (emphasised_parts (all_parts z.waiting z.behind)) q
    all-go p q spans rs h =
        let start : SoFar = record { waiting = []; behind = []; runs = rs } in
        let z = linked_from start spans in
        let so_far = spans-go p p q spans start rs (record { middle = p; waits = refl; behind = refl }, refl) h in
        kept.emphasis p q (all_parts z.waiting z.behind) (parts-all p so_far.middle q z.waiting z.behind so_far.waits so_far.behind)
