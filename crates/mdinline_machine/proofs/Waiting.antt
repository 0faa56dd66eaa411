-- The brackets that wait, as they are remembered and as they are kept: one that is kept says only of those behind it that were taken away whether a link
-- was made behind it.
use Rattle.mdinline_machine.proofs.Prelude.{◌≡◌, ℕ, ◌+◌, ◌-◌, ◌<◌, arith, drop, Event, ◌&&◌, ◌||◌, not, List, [], ◌∷◌, ◌++◌, Bool, true, false, cond, refl, sym, ap, ◌∙◌, subst, reverse, or-false, Bracket, before_link, waiting_behind}
use Rattle.std.specs.Prelude.{map}
use Rattle.std.proofs.lemmas.List.{reverse-append, reverse-reverse}
use Rattle.markdown_tokenizer.specs.declared.tokenizer.state.LabelKind.{LabelKind}
use Rattle.markdown_tokenizer.specs.declared.tokenizer.state.LabelStart.{LabelStart}
use Rattle.mdinline_text_machine.specs.Construct.{fails, makes}
use Rattle.mdinline_machine.specs.Brackets.{is_own_label}
use Rattle.mdinline_machine.specs.BracketRows.{has_own_label, holds_link, is_image, may_make, one_waits, passed_on, started, without_first, without_last}

-- a bracket is kept so, if a link is behind the brackets that are behind it, or none is
abbrev pub IsKeptAs : (holds : Bool) → Bracket → LabelStart → Type 0
IsKeptAs holds b s = (is_image s.kind ≡ b.image) × (b.inactive ≡ ((holds || s.inactive) && not b.image)) × (b.count ≡ s.start.1 + 1)

-- and all of them are, the last one first
abbrev pub AreKeptAs : (holds : Bool) → List Bracket → List LabelStart → Type 0
AreKeptAs holds [] [] = Unit {0}
AreKeptAs holds [] (s ∷ ss) = ⊥
AreKeptAs holds (b ∷ bs) [] = ⊥
AreKeptAs holds (b ∷ bs) (s ∷ ss) = IsKeptAs holds b s × AreKeptAs (holds || s.inactive) bs ss

-- what waits is kept, the last one last
abbrev pub Keeps : List Bracket → List LabelStart → Type 0
Keeps bs starts = AreKeptAs false bs (reverse starts)

swapped : (x y z : Bool) → ((x || y) || z) ≡ (x || (z || y))
swapped true y z = refl
swapped false true true = refl
swapped false true false = refl
swapped false false true = refl
swapped false false false = refl

covered : (x y : Bool) → ((x && not y) || not y) ≡ (true && not y)
covered true true = refl
covered true false = refl
covered false true = refl
covered false false = refl

pub or-true : (x : Bool) → (x || true) ≡ true
or-true true = refl
or-true false = refl

-- that a link is behind is passed on to the bracket before
passes-on : (holds more : Bool) (bs : List Bracket) (ss : List LabelStart) → AreKeptAs (holds || more) bs ss → AreKeptAs holds bs (passed_on more ss)
passes-on holds more [] [] h = tt
passes-on holds more [] (s ∷ ss) h = absurd h
passes-on holds more (b ∷ bs) [] h = absurd h
passes-on holds more (b ∷ bs) (s ∷ ss) h =
    let same = swapped holds more s.inactive in
    ((h.0.0, h.0.1 ∙ ap (λ t. t && not b.image) same, h.0.2), subst (λ t. AreKeptAs t bs ss) same h.1)

-- if one is made, those before it that are of links are inactive
all-inactive : (holds : Bool) (bs : List Bracket) (ss : List LabelStart) → AreKeptAs holds bs ss → AreKeptAs true (map before_link bs) ss
all-inactive holds [] [] h = tt
all-inactive holds [] (s ∷ ss) h = absurd h
all-inactive holds (b ∷ bs) [] h = absurd h
all-inactive holds (b ∷ bs) (s ∷ ss) h = ((h.0.0, ap (λ t. t || not b.image) h.0.1 ∙ covered (holds || s.inactive) b.image, h.0.2), all-inactive (holds || s.inactive) bs ss h.1)

-- ---- what is done with them
-- one more waits
pub keeps-more : (bs : List Bracket) (starts : List LabelStart) (kind : LabelKind) (count : ℕ) → 0 < count → Keeps bs starts
    → Keeps (record { image = is_image kind; inactive = false; count = count } ∷ bs) (starts ++ started kind count ∷ [])
keeps-more bs starts kind count some h =
    let one : count ≡ count - 1 + 1 = omega (arith, some) in
    subst (AreKeptAs false (record { image = is_image kind; inactive = false; count = count } ∷ bs)) (sym (reverse-append starts (started kind count ∷ []))) ((refl, refl, one), h)

one-less : (count : ℕ) (bs : List Bracket) (ss : List LabelStart) → AreKeptAs false bs ss → AreKeptAs false (waiting_behind fails count bs) (without_first false ss)
one-less count [] [] h = tt
one-less count [] (s ∷ ss) h = absurd h
one-less count (b ∷ bs) [] h = absurd h
one-less count (b ∷ bs) (s ∷ ss) h = passes-on false (holds_link false s) bs ss (subst (λ t. AreKeptAs t bs ss) (sym (or-false s.inactive)) h.1)

-- the last one is taken away
pub keeps-less : (count : ℕ) (bs : List Bracket) (starts : List LabelStart) → Keeps bs starts → Keeps (waiting_behind fails count bs) (without_last false starts)
keeps-less count bs starts h = subst (AreKeptAs false (waiting_behind fails count bs)) (sym (reverse-reverse (without_first false (reverse starts)))) (one-less count bs (reverse starts) h)

one-made : (count : ℕ) (bs : List Bracket) (ss : List LabelStart) → AreKeptAs false bs ss → AreKeptAs false (waiting_behind makes count bs) (without_first true ss)
one-made count [] [] h = tt
one-made count [] (s ∷ ss) h = absurd h
one-made count (b ∷ bs) [] h = absurd h
one-made count (b ∷ bs) (s ∷ ss) h =
    let more : Bool → Bool = λ image. s.inactive || (true && not image) in
    subst (λ t. AreKeptAs false (cond b.image bs (map before_link bs)) (passed_on (more t) ss)) (sym h.0.0)
    (elim b.image as (λ t. AreKeptAs false (cond t bs (map before_link bs)) (passed_on (more t) ss)) [
      | true ↦ passes-on false (more true) bs ss (subst (λ t. AreKeptAs t bs ss) (sym (or-false s.inactive)) h.1)
      | false ↦ passes-on false (more false) (map before_link bs) ss (subst (λ t. AreKeptAs t (map before_link bs) ss) (sym (or-true s.inactive)) (all-inactive (false || s.inactive) bs ss h.1))
    ])

-- something is made of it
pub keeps-made : (count : ℕ) (bs : List Bracket) (starts : List LabelStart) → Keeps bs starts → Keeps (waiting_behind makes count bs) (without_last true starts)
keeps-made count bs starts h = subst (AreKeptAs false (waiting_behind makes count bs)) (sym (reverse-reverse (without_first true (reverse starts)))) (one-made count bs (reverse starts) h)

-- ---- what is asked of them
active-is : (image inactive : Bool) → (image || not inactive) ≡ not (inactive && not image)
active-is true true = refl
active-is true false = refl
active-is false true = refl
active-is false false = refl

-- none waits
pub none-kept : (ss : List LabelStart) → AreKeptAs false [] ss → (may_make ss ≡ false) × (one_waits ss ≡ false)
none-kept [] h = (refl, refl)
none-kept (s ∷ ss) h = absurd h

-- one does, which may make something if it is active
pub one-kept : (b : Bracket) (bs : List Bracket) (ss : List LabelStart) → AreKeptAs false (b ∷ bs) ss → (may_make ss ≡ not b.inactive) × (one_waits ss ≡ true)
one-kept b bs [] h = absurd h
one-kept b bs (s ∷ ss) h = (ap (λ t. t || not s.inactive) h.0.0 ∙ active-is b.image s.inactive ∙ ap not (sym h.0.1), refl)

-- and whose own label is what was read behind it
pub own-kept : (defined : List ℕ → Bool) (doc : List ℕ) (events : List Event) (b : Bracket) (bs : List Bracket) (ss : List LabelStart) → AreKeptAs false (b ∷ bs) ss
    → has_own_label defined doc events ss ≡ is_own_label defined doc (drop b.count events)
own-kept defined doc events b bs [] h = absurd h
own-kept defined doc events b bs (s ∷ ss) h = ap (λ n. is_own_label defined doc (drop n events)) (sym h.0.2)
