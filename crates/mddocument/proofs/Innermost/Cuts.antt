-- Innermost spans of events in order, cut at a place; and stretches of virtual bytes, cut behind a line ending.
use Rattle.mddocument.proofs.Prelude.{◌≡◌, ℕ, Bool, true, false, cond, List, [], ◌∷◌, ◌++◌, length, drop, append_assoc, append-nil, refl, sym, ap, ◌∙◌, subst, AllByRecursion, flat_map, Event, Point, is_enter, stands_before, Seat, AccountFor, ended_next, innermost_spans, span_over, stretch_bytes, OneLine, map-append, flat_map-append}
use Rattle.markdown_children.specs.Parts.{front_until}
use Rattle.mdinline_text_machine.proofs.DeepSpans.Atoms.{EndsLine}
use Rattle.mdinline_text_machine.proofs.DeepSpans.Chains.{front-at}
use Rattle.mdinline_text_machine.proofs.DeepSpans.Places.{Upto as IsUpto}
use Rattle.mdblock_containers.proofs.SeatFacts.{before_upto}
use Rattle.mddocument.proofs.Emphasis.Pairs.{Opens, Shut}
use Rattle.mddocument.proofs.InContainers.Order.{Steady}
use Rattle.mddocument.proofs.Innermost.Lined.{InLine}

-- ---- stretches, some virtual bytes before them, cut behind a line ending
pub record CutStretches (before : List Seat) (stretches : List (Seat × List Seat)) (l rest : List Seat) : Type 0 where
  pub front : List (Seat × List Seat)
  pub back : List (Seat × List Seat)
  pub are : stretches ≡ front ++ back
  pub front_is : before ++ flat_map stretch_bytes front ≡ l
  pub back_is : flat_map stretch_bytes back ≡ rest

-- `s` and those before the stretches are in one line
pub cut-stretches : (s : Seat) (ss : List Seat) (stretches : List (Seat × List Seat)) (l rest : List Seat) → OneLine (s ∷ ss) → AllByRecursion InLine stretches → EndsLine (s ∷ l) → ss ++ flat_map stretch_bytes stretches ≡ l ++ rest
    → CutStretches ss stretches l rest
cut-stretches s [] stretches [] rest one lines ends same = record { front = []; back = stretches; are = refl; front_is = refl; back_is = same }
cut-stretches s (x ∷ xs) stretches [] rest one lines ends same = let no : false ≡ true = sym one.0 ∙ ends in absurd (cc)
cut-stretches s [] [] (r ∷ rs) rest one lines ends same = absurd (cc)
cut-stretches s [] (a ∷ others) (r ∷ rs) rest one lines ends same =
    let is : a.0 ≡ r = cc in
    let more = cut-stretches a.0 a.1 others rs rest lines.0 lines.1 (subst (λ x. EndsLine (x ∷ rs)) (sym is) ends) (cc) in
    record { front = a ∷ more.front; back = more.back; are = ap (λ k. a ∷ k) more.are; front_is = λ i. is i ∷ more.front_is i; back_is = more.back_is }
cut-stretches s (x ∷ xs) stretches (r ∷ rs) rest one lines ends same =
    let is : x ≡ r = cc in
    let more = cut-stretches x xs stretches rs rest one.1 lines (subst (λ x. EndsLine (x ∷ rs)) (sym is) ends) (cc) in
    record { front = more.front; back = more.back; are = more.are; front_is = λ i. is i ∷ more.front_is i; back_is = more.back_is }

-- ---- events before others that begin with an enter
pub spans-opened : (xs ys : List Event) → Opens ys → innermost_spans (xs ++ ys) ≡ innermost_spans xs ++ innermost_spans ys
spans-opened [] ys opens = refl
spans-opened (x ∷ []) [] opens = sym (append-nil (innermost_spans (x ∷ [])))
spans-opened (x ∷ []) (y ∷ ys) opens = by (is_enter x.kind) (is_enter y.kind) (ap is_enter opens)
  where
    by : (b c : Bool) → c ≡ true → cond b (cond c [] ((x.point, y.point) ∷ [])) [] ++ innermost_spans (y ∷ ys) ≡ (cond b [] [] ++ []) ++ innermost_spans (y ∷ ys)
    by true true e = refl
    by true false e = absurd (cc)
    by false c e = refl
spans-opened (x ∷ w ∷ xs) ys opens =
    let here = cond (is_enter x.kind) (ended_next x (w ∷ xs)) [] in
    ap (λ l. here ++ l) (spans-opened (w ∷ xs) ys opens) ∙ sym (append_assoc here (innermost_spans (w ∷ xs)) (innermost_spans ys))

pub opened-account : (bytes : List ℕ) (xs ys : List Event) (seats more : List Seat) → Opens ys → AccountFor xs bytes seats → AccountFor ys bytes more → AccountFor (xs ++ ys) bytes (seats ++ more)
opened-account bytes xs ys seats more opens h k = record {
  stretches = h.stretches ++ k.stretches;
  are_all = flat_map-append stretch_bytes h.stretches k.stretches ∙ (λ i. h.are_all i ++ k.are_all i);
  are_innermost = spans-opened xs ys opens ∙ (λ i. h.are_innermost i ++ k.are_innermost i) ∙ sym (map-append (span_over bytes) h.stretches k.stretches);
}

pub shut-back : (xs ys : List Event) → Shut (xs ++ ys) → Shut ys
shut-back [] ys h = h
shut-back (x ∷ []) [] h = tt
shut-back (x ∷ []) (y ∷ ys) h = h
shut-back (x ∷ w ∷ xs) ys h = shut-back (w ∷ xs) ys h

-- ---- events up to a place, and events behind it
module _ (end : Point) where
  abbrev pub IsBehind : Event → Type 0
  IsBehind e = stands_before end e.point ≡ true

  abbrev pub EndsUpto : (Point × Point) → Type 0
  EndsUpto span = stands_before end span.1 ≡ false

  -- the first of spans begins behind the place
  abbrev pub StartBehind : List (Point × Point) → Type 0
  StartBehind [] = Unit {0}
  StartBehind (b ∷ bs) = stands_before end b.0 ≡ true

  abbrev EndsBehind : (Point × Point) → Type 0
  EndsBehind span = stands_before end span.1 ≡ true

  spans-late : (es : List Event) → AllByRecursion IsBehind es → AllByRecursion EndsBehind (innermost_spans es)
  spans-late [] h = tt
  spans-late (e ∷ []) h = by (is_enter e.kind)
    where
      by : (b : Bool) → AllByRecursion EndsBehind (cond b [] [] ++ [])
      by true = tt
      by false = tt
  spans-late (e ∷ f ∷ es) h = by (is_enter e.kind) (is_enter f.kind) (spans-late (f ∷ es) h.1)
    where
      by : (b c : Bool) → AllByRecursion EndsBehind (innermost_spans (f ∷ es)) → AllByRecursion EndsBehind (cond b (cond c [] ((e.point, f.point) ∷ [])) [] ++ innermost_spans (f ∷ es))
      by true true k = k
      by true false k = (h.1.0, k)
      by false c k = k

  -- Innermost spans that end up to the place, and others of which the first begins behind it, are those of the events up to it and behind it
  abbrev IsCutThere : (xs ys : List Event) → (ups bs : List (Point × Point)) → Type 0
  IsCutThere xs ys ups bs = (innermost_spans xs ≡ ups) × (innermost_spans ys ≡ bs)

  pub cut-there : (xs ys : List Event) (ups bs : List (Point × Point)) → AllByRecursion (IsUpto end) xs → AllByRecursion IsBehind ys → AllByRecursion EndsUpto ups → StartBehind bs → innermost_spans (xs ++ ys) ≡ ups ++ bs → IsCutThere xs ys ups bs
  cut-there [] ys [] bs up late ends starts is = (refl, is)
  cut-there [] ys (a ∷ ups) bs up late ends starts is =
      let all = subst (AllByRecursion EndsBehind) is (spans-late ys late) in
      absurd (let no : true ≡ false = sym all.0 ∙ ends.0 in cc)
  cut-there (x ∷ []) [] ups bs up late ends starts is = by (is_enter x.kind) (λ e. cut-there [] [] ups bs tt tt ends starts e) is
    where
      by : (b : Bool) → ([] ≡ ups ++ bs → ([] ≡ ups) × ([] ≡ bs)) → cond b [] [] ++ [] ≡ ups ++ bs → (cond b [] [] ++ [] ≡ ups) × ([] ≡ bs)
      by true none e = none e
      by false none e = none e
  cut-there (x ∷ []) (y ∷ ys) ups bs up late ends starts is = by (is_enter x.kind) (is_enter y.kind) ups bs ends starts (λ us vs ends starts e. cut-there [] (y ∷ ys) us vs tt late ends starts e) is
    where
      by : (b c : Bool) (us vs : List (Point × Point)) → AllByRecursion EndsUpto us → StartBehind vs
          → ((us vs : List (Point × Point)) → AllByRecursion EndsUpto us → StartBehind vs → innermost_spans (y ∷ ys) ≡ us ++ vs → ([] ≡ us) × (innermost_spans (y ∷ ys) ≡ vs))
          → cond b (cond c [] ((x.point, y.point) ∷ [])) [] ++ innermost_spans (y ∷ ys) ≡ us ++ vs → (cond b [] [] ++ [] ≡ us) × (innermost_spans (y ∷ ys) ≡ vs)
      by true true us vs ends starts rest e = rest us vs ends starts e
      by true false [] [] ends starts rest e = absurd (cc)
      by true false [] (v ∷ vs) ends starts rest e =
          let same : (x.point, y.point) ≡ v = cc in
          absurd (let no : true ≡ false = sym starts ∙ ap (λ (q : Point × Point). stands_before end q.0) (sym same) ∙ up.0 in cc)
      by true false (u ∷ us) vs ends starts rest e =
          let same : (x.point, y.point) ≡ u = cc in
          absurd (let no : true ≡ false = sym late.0 ∙ ap (λ (q : Point × Point). stands_before end q.1) same ∙ ends.0 in cc)
      by false c us vs ends starts rest e = rest us vs ends starts e
  cut-there (x ∷ w ∷ xs) ys ups bs up late ends starts is = by (is_enter x.kind) (is_enter w.kind) ups bs ends starts (λ us vs ends starts e. cut-there (w ∷ xs) ys us vs up.1 late ends starts e) is
    where
      by : (b c : Bool) (us vs : List (Point × Point)) → AllByRecursion EndsUpto us → StartBehind vs
          → ((us vs : List (Point × Point)) → AllByRecursion EndsUpto us → StartBehind vs → innermost_spans ((w ∷ xs) ++ ys) ≡ us ++ vs → (innermost_spans (w ∷ xs) ≡ us) × (innermost_spans ys ≡ vs))
          → cond b (cond c [] ((x.point, w.point) ∷ [])) [] ++ innermost_spans ((w ∷ xs) ++ ys) ≡ us ++ vs
          → (cond b (cond c [] ((x.point, w.point) ∷ [])) [] ++ innermost_spans (w ∷ xs) ≡ us) × (innermost_spans ys ≡ vs)
      by true true us vs ends starts rest e = rest us vs ends starts e
      by true false [] [] ends starts rest e = absurd (cc)
      by true false [] (v ∷ vs) ends starts rest e =
          let same : (x.point, w.point) ≡ v = cc in
          absurd (let no : true ≡ false = sym starts ∙ ap (λ (q : Point × Point). stands_before end q.0) (sym same) ∙ up.0 in cc)
      by true false (u ∷ us) vs ends starts rest e =
          let same : (x.point, w.point) ≡ u = cc in
          let more : innermost_spans ((w ∷ xs) ++ ys) ≡ us ++ vs = cc in
          let both = rest us vs ends.1 starts more in
          ((λ i. same i ∷ both.0 i), both.1)
      by false c us vs ends starts rest e = rest us vs ends starts e

  -- ---- in order, what does not come in front is behind the place
  abbrev Anywhere : Point → Type 0
  Anywhere p = Unit {0}

  all-behind : (q : Point) (es : List Event) → stands_before end q ≡ true → Steady Anywhere q es → AllByRecursion IsBehind es
  all-behind q [] h steady = tt
  all-behind q (e ∷ es) h steady = let here = before_upto end q e.point h steady.0 in (here, all-behind e.point es here steady.2)

  pub rest-behind : (p : Point) (es : List Event) → Steady Anywhere p es → AllByRecursion IsBehind (drop (length (front_until end es)) es)
  rest-behind p [] steady = tt
  rest-behind p (e ∷ es) steady = elim (stands_before end e.point) as (λ b. stands_before end e.point ≡ b → AllByRecursion IsBehind (drop (length (front_until end (e ∷ es))) (e ∷ es))) [
    | true ↦ λ h. subst (λ (l : List Event). AllByRecursion IsBehind (drop (length l) (e ∷ es))) (sym (front-at end true e es h)) (h, all-behind e.point es h steady.2)
    | false ↦ λ h. subst (λ (l : List Event). AllByRecursion IsBehind (drop (length l) (e ∷ es))) (sym (front-at end false e es h)) (rest-behind e.point es steady.2)
  ] refl

-- events in order, from some place on
abbrev pub Ascends : List Event → Type 0
Ascends es = (p : Point) × Steady (λ p. Unit {0}) p es

pub ascends-back : (xs ys : List Event) → Ascends (xs ++ ys) → Ascends ys
ascends-back [] ys h = h
ascends-back (x ∷ xs) ys h = ascends-back xs ys (x.point, h.1.2)
