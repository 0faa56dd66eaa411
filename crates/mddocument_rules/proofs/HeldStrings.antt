-- Where strings are read, what is in spans of a name is read as it would be alone: if in each span a string begins before the first data, it does not
-- matter what came before the span.
use Rattle.mddocument_rules.proofs.Prelude.{◌≡◌, ◌∙◌, ℕ, List, [], ◌∷◌, ◌++◌, Bool, true, false, not, cond, refl, sym, ap, subst, and_from, and_parts, false_from_ne_true, false≢true, or_cases, inl, inr, ◌&&◌, ◌||◌, AllByRecursion, Constructs, Event, Name, is_enter, same_name, same_name-true}
use Rattle.std.proofs.lemmas.Bool.{not-true, or_left, or_right}
use Rattle.markdown_base.specs.declared.event.Name.TheVariants.{Data}
use Rattle.mdinline_link_strings.specs.Strings.{in_string_after, is_data, is_string, line_as_string, with_strings_from}
use Rattle.mddocument_laws.proofs.Chosen.{AreOther}
use Rattle.mddocument_rules.proofs.Held.{held, held_one, passed, stayed}

-- a string is entered or left before the first data
abbrev pub is_quiet : List Event → Bool
is_quiet [] = false
is_quiet (e ∷ es) = is_string e.name || (not (same_name e.name Data) && is_quiet es)

pub quiet-more : (xs ys : List Event) → is_quiet xs ≡ true → is_quiet (xs ++ ys) ≡ true
quiet-more [] ys h = absurd (false≢true h)
quiet-more (x ∷ xs) ys h = elim (or_cases (is_string x.name) (not (same_name x.name Data) && is_quiet xs) h) [
  | inl a ↦ or_left (is_string x.name) (not (same_name x.name Data) && is_quiet (xs ++ ys)) a
  | inr b ↦
      let p = and_parts (not (same_name x.name Data)) (is_quiet xs) b in
      or_right (is_string x.name) (not (same_name x.name Data) && is_quiet (xs ++ ys)) (and_from (not (same_name x.name Data)) (is_quiet (xs ++ ys)) p.0 (quiet-more xs ys p.1))
]

-- neither data nor strings
abbrev pub IsOutside : Name → Type 0
IsOutside n = (same_name n Data ≡ false) × (is_string n ≡ false)

abbrev pub AreOutside : List Event → Type 0
AreOutside es = AllByRecursion (λ (e : Event). IsOutside e.name) es

pub quiet-behind : (xs ys : List Event) → AreOutside xs → is_quiet ys ≡ true → is_quiet (xs ++ ys) ≡ true
quiet-behind [] ys h k = k
quiet-behind (x ∷ xs) ys h k =
    or_right (is_string x.name) (not (same_name x.name Data) && is_quiet (xs ++ ys)) (and_from (not (same_name x.name Data)) (is_quiet (xs ++ ys)) (ap not h.0.0) (quiet-behind xs ys h.1 k))

string-no-data : (n : Name) → is_string n ≡ true → same_name n Data ≡ false
string-no-data n s = false_from_ne_true (same_name n Data) (λ e. false≢true (subst (λ m. is_string m ≡ true) (same_name-true n Data e) s))

module _ (on : Constructs) (t : ℕ) (bytes : List ℕ) where
  abbrev pub read : (inside : Bool) → List Event → List Event
  read inside es = with_strings_from on t bytes inside es

  abbrev line : Event → Event → List Event
  line e f = line_as_string on t bytes e.point f.point

  -- an event that begins no data stays
  pub first-stays : (inside : Bool) (e : Event) (es : List Event) → same_name e.name Data ≡ false → read inside (e ∷ es) ≡ e ∷ read (in_string_after inside e) es
  first-stays inside e [] h = refl
  first-stays inside e (f ∷ es) h = by (inside && is_data e f) (false_from_ne_true (inside && is_data e f) (λ d.
      let found = (and_parts inside (is_data e f) d).1 in
      let first = (and_parts (is_enter e.kind && same_name e.name Data) (not (is_enter f.kind) && same_name f.name Data) found).0 in
      false≢true (sym h ∙ (and_parts (is_enter e.kind) (same_name e.name Data) first).1)))
    where
      by : (b : Bool) → b ≡ false → cond b (line e f ++ read inside es) (e ∷ read (in_string_after inside e) (f ∷ es)) ≡ e ∷ read (in_string_after inside e) (f ∷ es)
      by b n = ap (λ c. cond c (line e f ++ read inside es) (e ∷ read (in_string_after inside e) (f ∷ es))) n

  -- what came before quiet events does not matter
  abbrev pub IsCalm : List Event → Type 0
  IsCalm es = (inside other : Bool) → read inside es ≡ read other es

  pub quiet-calm : (es : List Event) → is_quiet es ≡ true → IsCalm es
  quiet-calm [] h inside other = refl
  quiet-calm (e ∷ es) h inside other = elim (or_cases (is_string e.name) (not (same_name e.name Data) && is_quiet es) h) [
    | inl s ↦
        let no = string-no-data e.name s in
        let after : (b : Bool) → in_string_after b e ≡ is_enter e.kind = λ b. ap (λ c. cond c (is_enter e.kind) b) s in
        first-stays inside e es no ∙ ap (λ b. e ∷ read b es) (after inside ∙ sym (after other)) ∙ sym (first-stays other e es no)
    | inr b ↦
        let p = and_parts (not (same_name e.name Data)) (is_quiet es) b in
        let no = not-true (same_name e.name Data) p.0 in
        first-stays inside e es no ∙ ap (λ l. e ∷ l) (quiet-calm es p.1 (in_string_after inside e) (in_string_after other e)) ∙ sym (first-stays other e es no)
  ]

  module _ (is : Name → Bool) where
    -- in each span that begins among what is in spans, it does not matter what came before
    abbrev pub AreCalm : (inside : Bool) → List Event → Type 0
    AreCalm inside [] = Unit {0}
    AreCalm false (e ∷ es) = IsCalm es × AreCalm true es
    AreCalm true (e ∷ es) = AreCalm (not (is e.name)) es

    pub calm-inside : (us : List Event) (last : Event) (more : List Event) → AreOther is us → is last.name ≡ true → AreCalm false more → AreCalm true (us ++ last ∷ more)
    calm-inside [] last more o ends h = subst (λ b. AreCalm (not b) more) (sym ends) h
    calm-inside (u ∷ us) last more o ends h = subst (λ b. AreCalm (not b) (us ++ last ∷ more)) (sym o.0) (calm-inside us last more o.1 ends h)

  module _ (is : Name → Bool) (no_data : (n : Name) → is n ≡ true → same_name n Data ≡ false)
      (line_other : (e f : Event) → AreOther is (line_as_string on t bytes e.point f.point)) where
    -- a span of data
    two-data : (e f : Event) → is_data e f ≡ true → AreOther is (e ∷ f ∷ [])
    two-data e f h =
        let both = and_parts (is_enter e.kind && same_name e.name Data) (not (is_enter f.kind) && same_name f.name Data) h in
        let first = (and_parts (is_enter e.kind) (same_name e.name Data) both.0).1 in
        let second = (and_parts (not (is_enter f.kind)) (same_name f.name Data) both.1).1 in
        (other e.name first, (other f.name second, tt))
      where
        other : (n : Name) → same_name n Data ≡ true → is n ≡ false
        other n d = false_from_ne_true (is n) (λ e. false≢true (sym (no_data n e) ∙ d))

    -- in a span it is read as there
    abbrev there : (inside state other : Bool) → Bool
    there true state other = state
    there false state other = other

    abbrev Same : (inside : Bool) → List Event → Type 0
    Same inside es = (state other : Bool) → AreCalm is inside (held is inside es) → held is inside (read state es) ≡ read (there inside state other) (held is inside es)

    one-event : (e : Event) (ends inside : Bool) (state : Bool) → held_one ends inside e (λ b. []) ≡ read state (held_one ends inside e (λ b. []))
    one-event e true inside state = refl
    one-event e false true state = refl
    one-event e false false state = refl

    -- data in a string
    data-same : (e f : Event) (es : List Event) (state other : Bool) → (state && is_data e f) ≡ true → (inside : Bool) → Same inside es → AreCalm is inside (held is inside (e ∷ f ∷ es))
        → held is inside (line e f ++ read state es) ≡ read (there inside state other) (held is inside (e ∷ f ∷ es))
    data-same e f es state other d true more calm =
        let two = two-data e f (and_parts state (is_data e f) d).1 in
        let left : held is true (e ∷ f ∷ es) ≡ e ∷ f ∷ held is true es = stayed is (e ∷ f ∷ []) es two in
        let calms : AreCalm is true (e ∷ f ∷ held is true es) = subst (AreCalm is true) left calm in
        let first : AreCalm is true (f ∷ held is true es) = subst (λ b. AreCalm is (not b) (f ∷ held is true es)) two.0 calms in
        let rest : AreCalm is true (held is true es) = subst (λ b. AreCalm is (not b) (held is true es)) two.1.0 first in
        stayed is (line e f) (read state es) (line_other e f)
        ∙ ap (λ l. line e f ++ l) (more state other rest)
        ∙ ap (λ b. cond b (line e f ++ read state (held is true es)) (e ∷ read (in_string_after state e) (f ∷ held is true es))) (sym d)
        ∙ ap (read state) (sym left)
    data-same e f es state other d false more calm =
        let two = two-data e f (and_parts state (is_data e f) d).1 in
        let left : held is false (e ∷ f ∷ es) ≡ held is false es = passed is (e ∷ f ∷ []) es two in
        passed is (line e f) (read state es) (line_other e f) ∙ more state other (subst (AreCalm is false) left calm) ∙ ap (read other) (sym left)

    -- in a span the next event is there
    next-there : (f : Event) (es : List Event) (e : Event) (state : Bool) → (state && is_data e f) ≡ false → read state (e ∷ held is true (f ∷ es)) ≡ e ∷ read (in_string_after state e) (held is true (f ∷ es))
    next-there f es e state d = by (is f.name)
      where
        two : (zs : List Event) → read state (e ∷ f ∷ zs) ≡ e ∷ read (in_string_after state e) (f ∷ zs)
        two zs = ap (λ b. cond b (line e f ++ read state zs) (e ∷ read (in_string_after state e) (f ∷ zs))) d

        by : (ends : Bool) → read state (e ∷ held_one ends true f (λ b. held is b es)) ≡ e ∷ read (in_string_after state e) (held_one ends true f (λ b. held is b es))
        by true = two (held is false es)
        by false = two (held is true es)

    other-same : (e f : Event) (es : List Event) (state other : Bool) → (state && is_data e f) ≡ false → ((inside : Bool) → Same inside (f ∷ es)) → (ends inside : Bool) → is e.name ≡ ends
        → AreCalm is inside (held_one ends inside e (λ b. held is b (f ∷ es)))
        → held_one ends inside e (λ b. held is b (read (in_string_after state e) (f ∷ es))) ≡ read (there inside state other) (held_one ends inside e (λ b. held is b (f ∷ es)))
    other-same e f es state other d more true true i calm =
        let rest : AreCalm is false (held is false (f ∷ es)) = subst (λ b. AreCalm is (not b) (held is false (f ∷ es))) i calm in
        ap (λ l. e ∷ l) (more false (in_string_after state e) (in_string_after state e) rest) ∙ sym (first-stays state e (held is false (f ∷ es)) (no_data e.name i))
    other-same e f es state other d more true false i calm =
        let zs = held is true (f ∷ es) in
        ap (λ l. e ∷ l) (more true (in_string_after state e) (in_string_after state e) calm.1 ∙ calm.0 (in_string_after state e) (in_string_after other e)) ∙ sym (first-stays other e zs (no_data e.name i))
    other-same e f es state other d more false true i calm =
        let rest : AreCalm is true (held is true (f ∷ es)) = subst (λ b. AreCalm is (not b) (held is true (f ∷ es))) i calm in
        ap (λ l. e ∷ l) (more true (in_string_after state e) (in_string_after state e) rest) ∙ sym (next-there f es e state d)
    other-same e f es state other d more false false i calm = more false (in_string_after state e) other calm

    pub strings-held : (inside : Bool) (es : List Event) → Same inside es
    strings-held inside [] state other calm = refl
    strings-held inside (e ∷ []) state other calm = one-event e (is e.name) inside (there inside state other)
    strings-held inside (e ∷ f ∷ es) state other calm = by (state && is_data e f) refl (λ i. strings-held i es) (λ i. strings-held i (f ∷ es))
      where
        by : (b : Bool) → (state && is_data e f) ≡ b → ((i : Bool) → Same i es) → ((i : Bool) → Same i (f ∷ es))
            → held is inside (cond b (line e f ++ read state es) (e ∷ read (in_string_after state e) (f ∷ es))) ≡ read (there inside state other) (held is inside (e ∷ f ∷ es))
        by true d one more = data-same e f es state other d inside (one inside) calm
        by false d one more = other-same e f es state other d more (is e.name) inside refl calm
