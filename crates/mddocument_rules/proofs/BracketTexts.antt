-- What the fold has behind the last bracket that waits: the outermost spans that were read behind it, if no bracket is among them.
use Rattle.mddocument_rules.proofs.Prelude.{◌≡◌, ◌∙◌, ◌⊎◌, ℕ, ◌+◌, true, false, cond, List, [], ◌∷◌, ◌++◌, append-nil, append_assoc, ap, arith, drop, flat_map, inl, inr, length, map, refl, subst, sym, cond_both, false≢true, or_right, AllByRecursion, ◌||◌, Event, Run}
use Rattle.std.proofs.lemmas.Grind.{flat_map-append}
use Rattle.std.proofs.lemmas.List.{length-append}
use Rattle.std.proofs.lemmas.List.Folds.{list_any-append}
use Rattle.std.specs.List.{list_any}
use Rattle.markdown_base.specs.declared.event.Name.TheVariants.{LabelEnd, LabelMarker}
use Rattle.mdinline_links.proofs.Between.{fail-runs, no-run-named}
use Rattle.mdinline_links.proofs.Plain.{part-plain}
use Rattle.mdinline_links.specs.Linked.{Part, SoFar, Waiting, added, ended, failed, is_bracket, is_named, is_run, is_tail, linked_from, opened, part_of, taken}
use Rattle.mdinline_machine.specs.Brackets.{Bracket, before_link}
use Rattle.mddocument_laws.proofs.Emphasis.RunsApart.{bracket-no-run, tail-no-run}
use Rattle.mddocument_rules.proofs.LinkedFlat.{AreRead, IsStep, tail-stays}
use Rattle.mddocument_rules.specs.BracketLaws.{SpansAround, folded, parts_of, runs_left}

-- ---- spans
abbrev flat : List (List Event) → List Event
flat spans = flat_map (λ (span : List Event). span) spans

parts-more : (spans : List (List Event)) (span : List Event) (rs : List Run) → parts_of (spans ++ span ∷ []) rs ≡ parts_of spans rs ++ (part_of span (runs_left spans rs)).0 ∷ []
parts-more [] span rs = refl
parts-more (s ∷ spans) span rs = ap (λ l. (part_of s rs).0 ∷ l) (parts-more spans span (part_of s rs).1)

pub runs-both : (xs ys : List (List Event)) (rs : List Run) → runs_left (xs ++ ys) rs ≡ runs_left ys (runs_left xs rs)
runs-both [] ys rs = refl
runs-both (x ∷ xs) ys rs = runs-both xs ys (part_of x rs).1

-- a span that is no run takes none
none-taken : (done : List (List Event)) (span : List Event) (rs : List Run) → is_run span ≡ false → runs_left (done ++ span ∷ []) rs ≡ runs_left done rs
none-taken done span rs plain = runs-both done (span ∷ []) rs ∙ ap (λ (p : Part × List Run). p.1) (part-plain span (runs_left done rs) plain)

ended-runs : (span tail : List Event) (ws : List Waiting) (z : SoFar) → (ended span tail ws z).runs ≡ z.runs
ended-runs span tail [] z = refl
ended-runs span tail (w ∷ ws) z = refl

some-more : (xs ys : List (List Event)) → list_any is_bracket xs ≡ true → list_any is_bracket (xs ++ ys) ≡ true
some-more xs ys h = list_any-append is_bracket xs ys ∙ ap (λ t. t || list_any is_bracket ys) h

some-last : (xs : List (List Event)) (span : List Event) → is_bracket span ≡ true → list_any is_bracket (xs ++ span ∷ []) ≡ true
some-last xs span h = list_any-append is_bracket xs (span ∷ []) ∙ or_right (list_any is_bracket xs) (list_any is_bracket (span ∷ [])) (ap (λ t. t || false) h)

count-more : (count : ℕ) (done : List (List Event)) (span : List Event) → length (flat done) ≡ count → length (flat (done ++ span ∷ [])) ≡ count + length span
count-more count done span h =
    let both : length (flat (done ++ span ∷ [])) ≡ length (flat done ++ span) = ap length (flat_map-append (λ (s : List Event). s) done (span ∷ []) ∙ ap (λ l. flat done ++ l) (append-nil span)) in
    let sum = length-append (flat done) span in
    omega (arith, both, sum, h)

-- ---- brackets that wait, behind these spans
abbrev around-more : (done more : List (List Event)) (b : Bracket) → SpansAround done b → SpansAround (done ++ more) b
around-more done more b h = record { before = h.before; behind = h.behind ++ more; are = ap (λ l. l ++ more) h.are ∙ append_assoc h.before h.behind more; counted = h.counted }

-- a bracket is behind this one
abbrev Below : (done : List (List Event)) → Bracket → Type 0
Below done b = (h : SpansAround done b) × (list_any is_bracket h.behind ≡ true)

module _ (runs : List Run) where
  -- this is the last one
  abbrev Last : (done : List (List Event)) → SoFar → Bracket → Type 0
  Last done z b = (h : SpansAround done b) × ((list_any is_bracket h.behind ≡ true) ⊎ (z.behind ≡ parts_of h.behind (runs_left h.before runs)))

  -- and so many runs are left
  abbrev Left : (done : List (List Event)) → SoFar → Type 0
  Left done z = z.runs ≡ runs_left done runs

  abbrev Tied : (done : List (List Event)) → SoFar → List Bracket → Type 0
  Tied done z [] = Unit {0}
  Tied done z (b ∷ bs) = Last done z b × AllByRecursion (Below done) bs

  below-more : (done more : List (List Event)) (b : Bracket) → Below done b → Below (done ++ more) b
  below-more done more b h = (around-more done more b h.0, some-more h.0.behind more h.1)

  all-more : (done more : List (List Event)) (bs : List Bracket) → AllByRecursion (Below done) bs → AllByRecursion (Below (done ++ more)) bs
  all-more done more [] h = tt
  all-more done more (b ∷ bs) h = (below-more done more b h.0, all-more done more bs h.1)

  -- where the last one is taken away another is behind the one before it, whatever the fold has
  rest-tied : (done : List (List Event)) (z : SoFar) (bs : List Bracket) → AllByRecursion (Below done) bs → Tied done z bs
  rest-tied done z [] h = tt
  rest-tied done z (b ∷ bs) h = ((h.0.0, inl h.0.1), h.1)

  -- a link behind a bracket leaves it where it is
  links-below : (done : List (List Event)) (bs : List Bracket) → AllByRecursion (Below done) bs → AllByRecursion (Below done) (map before_link bs)
  links-below done [] h = tt
  links-below done (b ∷ bs) h = ((record { before = h.0.0.before; behind = h.0.0.behind; are = h.0.0.are; counted = h.0.0.counted }, h.0.1), links-below done bs h.1)

  failed-tied : (done : List (List Event)) (span : List Event) (z y : SoFar) (bs : List Bracket) → Tied done z bs → Tied (done ++ span ∷ []) y (drop 1 bs)
  failed-tied done span z y [] h = tt
  failed-tied done span z y (b ∷ bs) h = rest-tied (done ++ span ∷ []) y bs (all-more done (span ∷ []) bs h.1)

  ended-tied : (done more : List (List Event)) (z y : SoFar) (b : Bracket) (bs : List Bracket) → Tied done z (b ∷ bs) → Tied (done ++ more) y (cond b.image bs (map before_link bs))
  ended-tied done more z y b bs h =
      let all = all-more done more bs h.1 in
      cond_both b.image bs (map before_link bs) (Tied (done ++ more) y) (λ e. rest-tied (done ++ more) y bs all) (λ e. rest-tied (done ++ more) y (map before_link bs) (links-below (done ++ more) bs all))

  last-below : (done : List (List Event)) (span : List Event) (z : SoFar) (b : Bracket) → is_bracket span ≡ true → Last done z b → Below (done ++ span ∷ []) b
  last-below done span z b is h = (around-more done (span ∷ []) b h.0, some-last h.0.behind span is)

  opened-below : (done : List (List Event)) (span : List Event) (z : SoFar) (bs : List Bracket) → is_bracket span ≡ true → Tied done z bs → AllByRecursion (Below (done ++ span ∷ [])) bs
  opened-below done span z [] is h = tt
  opened-below done span z (b ∷ bs) is h = (last-below done span z b is h.0, all-more done (span ∷ []) bs h.1)

  opened-tied : (count : ℕ) (done : List (List Event)) (span : List Event) (z : SoFar) (b : Bracket) (bs : List Bracket) → length (flat done) ≡ count → b.count ≡ count + length span → is_bracket span ≡ true → Tied done z bs
      → Tied (done ++ span ∷ []) (opened span z) (b ∷ bs)
  opened-tied count done span z b bs long counted is h =
      let here : SpansAround (done ++ span ∷ []) b = record { before = done ++ span ∷ []; behind = []; are = sym (append-nil (done ++ span ∷ [])); counted = count-more count done span long ∙ sym counted } in
      ((here, inr refl), opened-below done span z bs is h)

  added-tied : (done : List (List Event)) (span : List Event) (z : SoFar) (bs : List Bracket) → Left done z → Tied done z bs → Tied (done ++ span ∷ []) (added span z) bs
  added-tied done span z [] left h = tt
  added-tied done span z (b ∷ bs) left h = ((around-more done (span ∷ []) b h.0.0, last h.0.1), all-more done (span ∷ []) bs h.1)
    where
      now : z.runs ≡ runs_left h.0.0.behind (runs_left h.0.0.before runs)
      now = left ∙ ap (λ l. runs_left l runs) h.0.0.are ∙ runs-both h.0.0.before h.0.0.behind runs

      last : (list_any is_bracket h.0.0.behind ≡ true) ⊎ (z.behind ≡ parts_of h.0.0.behind (runs_left h.0.0.before runs))
          → (list_any is_bracket (h.0.0.behind ++ span ∷ []) ≡ true) ⊎ ((added span z).behind ≡ parts_of (h.0.0.behind ++ span ∷ []) (runs_left h.0.0.before runs))
      last (inl some) = inl (some-more h.0.0.behind (span ∷ []) some)
      last (inr is) = inr ((λ i. is i ++ (part_of span (now i)).0 ∷ []) ∙ sym (parts-more h.0.0.behind span (runs_left h.0.0.before runs)))

  -- a span that is no end
  taken-tied : (count : ℕ) (done : List (List Event)) (span : List Event) (z : SoFar) (bs next : List Bracket) → length (flat done) ≡ count → is_named LabelEnd span ≡ false → IsStep (count + length span) bs span next → Left done z → Tied done z bs
      → Tied (done ++ span ∷ []) (taken span z) next
  taken-tied count done span z bs next long other step left h =
      let after = done ++ span ∷ [] in
      cond_both (is_bracket span) (opened span z) (cond (is_named LabelMarker span) (failed span z.waiting z) (added span z)) (λ y. Tied after y next)
      (λ is. let o = step.opens other is in subst (Tied after (opened span z)) (sym o.1) (opened-tied count done span z o.0 bs long o.3 is h))
      (λ no. cond_both (is_named LabelMarker span) (failed span z.waiting z) (added span z) (λ y. Tied after y next)
      (λ is. subst (Tied after (failed span z.waiting z)) (sym (step.fails other no is)) (failed-tied done span z (failed span z.waiting z) bs h))
      (λ is. subst (Tied after (added span z)) (sym (step.stays other no is)) (added-tied done span z bs left h)))

  -- the runs that are left
  taken-left : (done : List (List Event)) (span : List Event) (z : SoFar) → Left done z → Left (done ++ span ∷ []) (taken span z)
  taken-left done span z left =
      cond_both (is_bracket span) (opened span z) (cond (is_named LabelMarker span) (failed span z.waiting z) (added span z)) (Left (done ++ span ∷ []))
      (λ is. left ∙ sym (none-taken done span runs (bracket-no-run span is)))
      (λ no. cond_both (is_named LabelMarker span) (failed span z.waiting z) (added span z) (Left (done ++ span ∷ []))
      (λ is. fail-runs span z.waiting z ∙ left ∙ sym (none-taken done span runs (no-run-named LabelMarker refl span is)))
      (λ is. ap (λ rs. (part_of span rs).1) left ∙ sym (runs-both done (span ∷ []) runs)))

  ended-left : (done : List (List Event)) (span tail : List Event) (z : SoFar) → is_named LabelEnd span ≡ true → Left done z → Left (done ++ span ∷ []) (ended span tail z.waiting z)
  ended-left done span tail z is left = ended-runs span tail z.waiting z ∙ left ∙ sym (none-taken done span runs (no-run-named LabelEnd refl span is))

  tailed-left : (done : List (List Event)) (span next : List Event) (z : SoFar) → is_named LabelEnd span ≡ true → is_tail next ≡ true → Left done z → Left (done ++ span ∷ next ∷ []) (ended span next z.waiting z)
  tailed-left done span next z is tail left =
      ended-left done span next z is left ∙ sym (none-taken (done ++ span ∷ []) next runs (tail-no-run next tail)) ∙ ap (λ l. runs_left l runs) (append_assoc done (span ∷ []) (next ∷ []))

  -- an end, and its tail if there is one
  end-tied : (done more : List (List Event)) (span : List Event) (z y : SoFar) (count : ℕ) (bs next : List Bracket) → is_named LabelEnd span ≡ true → IsStep count bs span next → Tied done z bs → Tied (done ++ more) y next
  end-tied done more span z y count [] next is step h = absurd (step.ends is)
  end-tied done more span z y count (b ∷ bs) next is step h = subst (Tied (done ++ more) y) (sym (step.ends is).1) (ended-tied done more z y b bs h)

  tied : (spans : List (List Event)) (count : ℕ) (done : List (List Event)) (bs last : List Bracket) (z : SoFar) → length (flat done) ≡ count → AreRead count bs spans last → Left done z → Tied done z bs → Tied (done ++ spans) (linked_from z spans) last
  tied [] count done bs last z long r left h = subst (λ l. Tied l z last) (sym (append-nil done)) (subst (Tied done z) r h)
  tied (span ∷ []) count done bs last z long r left h =
      subst (Tied (done ++ span ∷ []) (linked_from z (span ∷ []))) r.2
      (cond_both (is_named LabelEnd span) (ended span [] z.waiting z) (taken span z) (λ y. Tied (done ++ span ∷ []) y r.0)
      (λ e. end-tied done (span ∷ []) span z (ended span [] z.waiting z) (count + length span) bs r.0 e r.1 h) (λ e. taken-tied count done span z bs r.0 long e r.1 left h))
  tied (span ∷ next ∷ spans) count done bs last z long r left h =
      let with_tail = linked_from (ended span next z.waiting z) spans in
      let alone = linked_from (ended span [] z.waiting z) (next ∷ spans) in
      let behind = linked_from (taken span z) (next ∷ spans) in
      let all = done ++ span ∷ next ∷ spans in
      let one : (done ++ span ∷ []) ++ next ∷ spans ≡ all = append_assoc done (span ∷ []) (next ∷ spans) in
      let two : (done ++ span ∷ next ∷ []) ++ spans ≡ all = append_assoc done (span ∷ next ∷ []) spans in
      let long_one = count-more count done span long in
      let long_two : length (flat (done ++ span ∷ next ∷ [])) ≡ (count + length span) + length next =
      ap (λ l. length (flat l)) (sym (append_assoc done (span ∷ []) (next ∷ []))) ∙ count-more (count + length span) (done ++ span ∷ []) next long_one in
      cond_both (is_named LabelEnd span) (cond (is_tail next) with_tail alone) behind (λ y. Tied all y last)
      (λ e. cond_both (is_tail next) with_tail alone (λ y. Tied all y last)
      (λ t.
      let stays = tail-stays ((count + length span) + length next) r.0 r.2.0 next t r.2.1 in
      let here = end-tied done (span ∷ next ∷ []) span z (ended span next z.waiting z) (count + length span) bs r.0 e r.1 h in
      subst (λ l. Tied l with_tail last) two
      (tied spans ((count + length span) + length next) (done ++ span ∷ next ∷ []) r.2.0 last (ended span next z.waiting z) long_two r.2.2 (tailed-left done span next z e t left) (subst (Tied (done ++ span ∷ next ∷ []) (ended span next z.waiting z)) (sym stays) here)))
      (λ t.
      subst (λ l. Tied l alone last) one
      (tied (next ∷ spans) (count + length span) (done ++ span ∷ []) r.0 last (ended span [] z.waiting z) long_one r.2 (ended-left done span [] z e left) (end-tied done (span ∷ []) span z (ended span [] z.waiting z) (count + length span) bs r.0 e r.1 h))))
      (λ e.
      subst (λ l. Tied l behind last) one
      (tied (next ∷ spans) (count + length span) (done ++ span ∷ []) r.0 last (taken span z) long_one r.2 (taken-left done span z left) (taken-tied count done span z bs r.0 long e r.1 left h)))

-- So of the last one, if no bracket is behind it, the fold has the spans behind it
pub fold-tied : (runs : List Run) (spans : List (List Event)) (b : Bracket) (bs : List Bracket) → AreRead 0 [] spans (b ∷ bs)
    → (h : SpansAround spans b) × (list_any is_bracket h.behind ≡ false → (folded runs spans).behind ≡ parts_of h.behind (runs_left h.before runs))
fold-tied runs spans b bs r =
    let h = tied runs spans 0 [] [] (b ∷ bs) (record { waiting = []; behind = []; runs = runs }) refl r refl tt in
    (h.0.0, of h.0.0 h.0.1)
  where
    of : (a : SpansAround spans b) → (list_any is_bracket a.behind ≡ true) ⊎ ((folded runs spans).behind ≡ parts_of a.behind (runs_left a.before runs))
        → list_any is_bracket a.behind ≡ false → (folded runs spans).behind ≡ parts_of a.behind (runs_left a.before runs)
    of a (inl some) none = absurd (false≢true (sym none ∙ some))
    of a (inr is) none = is
