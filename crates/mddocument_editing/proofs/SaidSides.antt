-- Definitions of sections in a row, and of those in front, between and behind.
use Rattle.mddocument_editing.proofs.Prelude.{◌≡◌, ℕ, ◌+◌, List, [], ◌∷◌, ◌++◌, refl, inl, inr, sym, ap, ◌∙◌, AllByRecursion, Event, bytes_of_sections, AreReread, HasEvents, Reread, Section}
use Rattle.mddocument_editing.specs.Leading.{first_said}
use Rattle.mddocument_editing.specs.Said.{said_of, saids}
use Rattle.mddocument_editing.specs.Told.{all_saids}
use Rattle.mddocument_editing.proofs.SaidFirst.{all-append, first-said}

-- each of sections has its events, if none was read again
pub all-have : (read : List ℕ → List Event) (n : ℕ) (ss : List Section) (rs : List Reread) → rs ≡ [] → AreReread read n ss rs → AllByRecursion (HasEvents read) ss
all-have read n [] rs none are = tt
all-have read n (s ∷ ss) rs none (inl is) = (is.0.0, all-have read (n + 1) ss rs none is.1)
all-have read n (s ∷ ss) rs none (inr is) = absurd (cc (none, is.1.0))

-- what sections define by their own events is what they define as they are read
same-saids : (read other : List ℕ → List Event) (ss : List Section) → AllByRecursion (HasEvents read) ss → AllByRecursion (HasEvents other) ss → all_saids read (bytes_of_sections ss) ≡ all_saids other (bytes_of_sections ss)
same-saids read other [] one two = refl
same-saids read other (s ∷ ss) one two =
    ap (λ events. saids s.part.bytes.items events ++ all_saids read (bytes_of_sections ss)) (one.0 ∙ sym two.0)
    ∙ ap (λ all. saids s.part.bytes.items (other s.part.bytes.items) ++ all) (same-saids read other ss one.1 two.1)

-- so labels lead where they led, if what is replaced defines what comes in its place
pub same-leads : (old new : List ℕ → List Event) (front behind : List Section) (gone come : List (List ℕ)) → AllByRecursion (HasEvents old) front → AllByRecursion (HasEvents new) front
    → AllByRecursion (HasEvents old) behind → AllByRecursion (HasEvents new) behind → all_saids old gone ≡ all_saids new come
    → first_said new (bytes_of_sections front ++ (come ++ bytes_of_sections behind)) ≡ first_said old (bytes_of_sections front ++ (gone ++ bytes_of_sections behind))
same-leads old new front behind gone come one two three four same = λ i label. by label i
  where
    fronts : List (List ℕ)
    fronts = bytes_of_sections front

    behinds : List (List ℕ)
    behinds = bytes_of_sections behind

    parted : (read : List ℕ → List Event) (middle : List (List ℕ)) → all_saids read (fronts ++ (middle ++ behinds)) ≡ all_saids read fronts ++ (all_saids read middle ++ all_saids read behinds)
    parted read middle = all-append read fronts (middle ++ behinds) ∙ ap (λ all. all_saids read fronts ++ all) (all-append read middle behinds)

    lists : all_saids new (fronts ++ (come ++ behinds)) ≡ all_saids old (fronts ++ (gone ++ behinds))
    lists =
        parted new come
        ∙ ap (λ all. all ++ (all_saids new come ++ all_saids new behinds)) (same-saids new old front two one)
        ∙ ap (λ all. all_saids old fronts ++ (all ++ all_saids new behinds)) (sym same)
        ∙ ap (λ all. all_saids old fronts ++ (all_saids old gone ++ all)) (same-saids new old behind four three)
        ∙ sym (parted old gone)

    by : (label : List ℕ) → first_said new (fronts ++ (come ++ behinds)) label ≡ first_said old (fronts ++ (gone ++ behinds)) label
    by label = sym (first-said new label (fronts ++ (come ++ behinds))) ∙ ap (λ all. said_of all label) lists ∙ first-said old label (fronts ++ (gone ++ behinds))
