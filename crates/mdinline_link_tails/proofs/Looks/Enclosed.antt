-- Tries for destinations with marks: never two are at a byte, as `<` ends one.
use Rattle.std.proofs.Common.{ℕ, suc, ◌+◌, ◌≤◌, ◌≡◌, ◌∙◌, ◌∷◌, ◌||◌, ◌&&◌, ◌==◌, not, Bool, true, false, cond, List, [], length, refl, ap, arith}
use Rattle.std.proofs.lemmas.Bool.{false≢true}
use Rattle.std.proofs.Math.Bool.{and-false}
use Rattle.mdinline_labels.specs.Labels.{hides}
use Rattle.mdinline_labels.specs.Tails.{is_plain}
use Rattle.mdinline_link_tails.proofs.Looks.Passed.{behind_look, enclosed_look, enclosed_start_look}
use Rattle.mdinline_link_tails.proofs.Looks.Behind.{behinds}
use Rattle.mdinline_link_tails.proofs.Looks.Gaps.{is_gap}

-- a destination may begin behind a byte: behind white space, or behind `](`
abbrev pub begins_behind : (bracket : Bool) → ℕ → Bool
begins_behind bracket b = is_gap b || (bracket && (b == 40))

-- tries that begin with `<`. `begins`: a destination may begin there; `bracket`: `]` comes before
abbrev pub enclosed_starts : (begins bracket : Bool) → List ℕ → ℕ
enclosed_starts begins bracket [] = 0
enclosed_starts begins bracket (b ∷ bs) = cond begins (enclosed_start_look (b ∷ bs)) 0 + enclosed_starts (begins_behind bracket b) (b == 93) bs

-- what is passed behind destinations from the second byte on
abbrev pub later_behinds : List ℕ → ℕ
later_behinds [] = 0
later_behinds (b ∷ bs) = behinds (not (is_gap b)) bs

pub split : (black : Bool) (bs : List ℕ) → behinds black bs ≡ cond black (behind_look bs) 0 + later_behinds bs
split true [] = refl
split false [] = refl
split black (b ∷ bs) = refl

-- a byte hidden by a backslash begins no destination
abbrev Agree : (hidden begins : Bool) → Type 0
Agree hidden begins = (hidden && begins) ≡ false

pub next-agrees : (hidden bracket : Bool) (b : ℕ) → (hides hidden b && begins_behind bracket b) ≡ false
next-agrees hidden bracket b = elim (b == 92) as (λ t. (b == 92) ≡ t → ((t && not hidden) && begins_behind bracket b) ≡ false) [
  | true ↦ λ e.
      let black : is_gap b ≡ false = grind (arith) in
      let other : (b == 40) ≡ false = grind (arith) in
      let none : begins_behind bracket b ≡ false = ap (λ t. t || (bracket && (b == 40))) black ∙ ap (λ t. bracket && t) other ∙ and-false bracket in
      ap (λ t. not hidden && t) none ∙ and-false (not hidden)
  | false ↦ λ e. refl
] refl

abbrev Within : (going hidden begins bracket : Bool) → List ℕ → Type 0
Within going hidden begins bracket bs = cond going (enclosed_look hidden bs) 0 + enclosed_starts begins bracket bs ≤ length bs + later_behinds bs

abbrev EnclosedOnward : List ℕ → Type 0
EnclosedOnward bs = (going hidden begins bracket : Bool) → Agree hidden begins → Within going hidden begins bracket bs

-- a byte more, by whether a try begins there
step : (b : ℕ) (bs : List ℕ) → EnclosedOnward bs → (going hidden begins bracket : Bool) → Agree hidden begins → Within going hidden begins bracket (b ∷ bs)
step b bs onward going hidden begins bracket h = of going begins refl (b == 60) refl
  where
    new : ℕ
    new = enclosed_look false bs

    rest : ℕ
    rest = enclosed_starts (begins_behind bracket b) (b == 93) bs

    further : ℕ
    further = behinds (not (is_gap b)) bs

    fresh : new + rest ≤ length bs + later_behinds bs
    fresh = onward true false (begins_behind bracket b) (b == 93) refl

    none : rest ≤ length bs + later_behinds bs
    none = omega (arith, onward false false (begins_behind bracket b) (b == 93) refl)

    goes : enclosed_look (hides hidden b) bs + rest ≤ length bs + later_behinds bs
    goes = onward true (hides hidden b) (begins_behind bracket b) (b == 93) (next-agrees hidden bracket b)

    more : later_behinds bs ≤ further
    more = omega (arith, split (not (is_gap b)) bs)

    old : Bool → Bool → ℕ
    old closes stops = cond closes (1 + behind_look bs) (cond stops 0 (1 + enclosed_look (hides hidden b) bs))

    going_on : (closes stops : Bool) → is_plain 62 hidden b ≡ closes → old closes stops + (0 + rest) ≤ suc (length bs) + further
    going_on true stops c =
        let black : is_gap b ≡ false = grind (arith) in
        let whole : further ≡ behind_look bs + later_behinds bs = ap (λ t. behinds (not t) bs) black ∙ split true bs in
        omega (arith, none, whole)
    going_on false true c = omega (arith, none, more)
    going_on false false c = omega (arith, goes, more)

    started : (closes stops : Bool) → is_plain 62 hidden b ≡ closes → (is_plain 60 hidden b || (b == 10)) ≡ stops → begins ≡ true → (b == 60) ≡ true → old closes stops + (1 + new + rest) ≤ suc (length bs) + further
    started true stops c s w e = absurd (false≢true (grind (arith)))
    started false true c s w e = omega (arith, fresh, more)
    started false false c s w e = absurd (false≢true (grind (arith)))

    of : (going starts : Bool) → begins ≡ starts → (angle : Bool) → (b == 60) ≡ angle
        → cond going (enclosed_look hidden (b ∷ bs)) 0 + (cond starts (cond angle (1 + new) 0) 0 + rest) ≤ suc (length bs) + further
    of true true w true e = started (is_plain 62 hidden b) (is_plain 60 hidden b || (b == 10)) refl refl w e
    of true true w false e = going_on (is_plain 62 hidden b) (is_plain 60 hidden b || (b == 10)) refl
    of true false w angle e = going_on (is_plain 62 hidden b) (is_plain 60 hidden b || (b == 10)) refl
    of false true w true e = omega (arith, fresh, more)
    of false true w false e = omega (arith, none, more)
    of false false w angle e = omega (arith, none, more)

enclosed-go : (bs : List ℕ) → EnclosedOnward bs
enclosed-go [] true hidden begins bracket h = omega arith
enclosed-go [] false hidden begins bracket h = omega arith
enclosed-go (b ∷ bs) going hidden begins bracket h = step b bs (enclosed-go bs) going hidden begins bracket h

pub enclosed-within : (begins bracket : Bool) (bs : List ℕ) → enclosed_starts begins bracket bs ≤ length bs + later_behinds bs
enclosed-within begins bracket bs = omega (arith, enclosed-go bs false false begins bracket refl)
