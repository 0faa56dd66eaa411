-- What the test of a table says of each state if it names none.
use Rattle.mdconstructs_tables.proofs.Prelude.{◌≡◌, ◌==◌, List, [], ◌∷◌, ◌++◌, Bool, true, false, cond, Option, Some, refl, subst, arith, nat_tests, All, filter, None, flat_map, All-nil, All-cons, Name, StateRows, named, Reason, act, spans, choice, answer, unpaid, start, unless, with_reason, cond_both}

pub none-left : {A : Type 0} (xs ys : List A) → xs ++ ys ≡ [] → (xs ≡ []) × (ys ≡ [])
none-left [] ys h = (refl, h)
none-left (x ∷ xs) ys h = absurd (cc)

first-out : {A : Type 0} (test : A → Bool) (x : A) (b : Bool) (xs : List A) → cond b (x ∷ xs) xs ≡ [] → (b ≡ false) × (xs ≡ [])
first-out test x true xs h = absurd (cc)
first-out test x false xs h = (refl, h)

module _ {W R D : Type 0} where
  -- what a list of states says of its first, and of the rest, is so of the state of a name, and that state has the name
  pub named-in : (A : List (StateRows W R D) → Type 0) (P : StateRows W R D → Type 0) → ((x : StateRows W R D) (xs : List (StateRows W R D)) → A (x ∷ xs) → P x × A xs)
      → (states : List (StateRows W R D)) (name : Name) (state : StateRows W R D) → A states → named states name ≡ Some state → P state × (name.number ≡ state.name.number)
  named-in A P split [] name state h is = absurd (cc)
  named-in A P split (x ∷ xs) name state h is =
      let (one, rest) = split x xs h in
      cond_both (name.number == x.name.number) (Some x) (named xs name) (λ o. o ≡ Some state → P state × (name.number ≡ state.name.number))
      (λ e is. let same : x ≡ state = cc in subst (λ y. P y × (name.number ≡ y.name.number)) same (one, grind (arith, nat_tests)))
      (λ e is. named-in A P split xs name state rest is) is

  -- a test that no state passes is not passed by the state of a name
  pub named-out : (test : StateRows W R D → Bool) (states : List (StateRows W R D)) (name : Name) (state : StateRows W R D) → filter test states ≡ [] → named states name ≡ Some state → test state ≡ false
  named-out test states name state h is = (named-in (λ l. filter test l ≡ []) (λ x. test x ≡ false) (λ x xs. first-out test x (test x) (filter test xs)) states name state h is).0

  -- the state of a name has that name
  pub named-same : (states : List (StateRows W R D)) (name : Name) (state : StateRows W R D) → named states name ≡ Some state → name.number ≡ state.name.number
  named-same states name state is = (named-in (λ l. Unit {0}) (λ x. Unit {0}) (λ x xs h. (tt, tt)) states name state tt is).1

-- if a list of lists has no elements in all, none of the lists has any
module _ {A : Type 0} where
  pub none-made : {B : Type 0} (f : B → List A) (xs : List B) → flat_map f xs ≡ [] → All (λ x. f x ≡ []) xs
  none-made f [] h = All-nil (λ x. f x ≡ [])
  none-made f (x ∷ xs) h = let (one, rest) = none-left (f x) (flat_map f xs) h in All-cons (λ x. f x ≡ []) x xs one (none-made f xs rest)

-- no reason is given only where each test is passed
pub all-passed : (acts_pass spans_pass choices_pass rows_pass calls_pass : Bool)
    → unless acts_pass act (unless spans_pass spans (unless choices_pass choice (unless rows_pass answer (unless calls_pass unpaid None)))) ≡ None → (rows_pass ≡ true) × (calls_pass ≡ true)
all-passed true true true true true h = (refl, refl)
all-passed acts_pass spans_pass choices_pass rows_pass calls_pass h = absurd (cc)

pub called-none : (b : Bool) (name : Name) (o : Option Reason) → b ≡ true → with_reason name (cond b o None) ≡ [] → o ≡ None
called-none true name None called h = refl
called-none b name o called h = absurd (cc)

pub starts-none : (b : Bool) (name : Name) → cond {A = List (Name × Reason)} b [] ((name, start) ∷ []) ≡ [] → b ≡ true
starts-none true name h = refl
starts-none false name h = absurd (cc)
