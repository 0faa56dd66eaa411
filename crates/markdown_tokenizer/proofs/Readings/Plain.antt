-- The laws of machines without resolvers and links, from the laws of their states.
use Rattle.markdown_tokenizer.proofs.Prelude.{◌≡◌, ℕ, zero, suc, ◌+◌, List, [], ◌∷◌, ◌++◌, true, false, cond, Option, Some, None, length, refl, sym, ap, ◌∙◌, subst, arith, take, drop, nat_lt, All, Event, State, Ok, Nok, IsBalanced, EndsBelow, relinked, Byte, End, AttemptKind, Attempt, Check, Given, Configuration, Saved, sight, restored, settled_at, edited, Tagged, of_list, placed_end, placed_in, woven, next_of, previous_of, IsInShape, Rules, IsAsFar, ConsumesOnce, OnlyAdds, EndsWhenRead, KeepsInvariant, CostPays, IsLawful, HaveNoLinks, IsPlain, KeepsPlain, NothingResolves, ReadsAsPromised, plain}

-- more events without links
pub no-links-append : (xs ys : List Event) → HaveNoLinks xs → HaveNoLinks ys → HaveNoLinks (xs ++ ys)
no-links-append [] ys h k = k
no-links-append (x ∷ xs) ys h k = (h.0, no-links-append xs ys h.1 k)

pub no-links-more : (xs : List Event) (e : Event) → e.link ≡ None → HaveNoLinks xs → HaveNoLinks (xs ++ e ∷ [])
no-links-more xs e f h = no-links-append xs (e ∷ []) h (f, tt)

pub no-links-take : (n : ℕ) (xs : List Event) → HaveNoLinks xs → HaveNoLinks (take n xs)
no-links-take (suc n) (x ∷ xs) h = (h.0, no-links-take n xs h.1)
no-links-take n xs h = tt

pub no-links-drop : (n : ℕ) (xs : List Event) → HaveNoLinks xs → HaveNoLinks (drop n xs)
no-links-drop zero xs h = h
no-links-drop (suc n) [] h = tt
no-links-drop (suc n) (x ∷ xs) h = no-links-drop n xs h.1

below-first : (n : ℕ) (x : Event) (xs : List Event) → x.link ≡ None → All (EndsBelow n) xs → All (EndsBelow n) (x ∷ xs)
below-first n x xs e more zero d l = rw e tt
below-first n x xs e more (suc i) d l = more i d (omega arith)

pub no-links-below : (n : ℕ) (xs : List Event) → HaveNoLinks xs → All (EndsBelow n) xs
no-links-below n [] h = λ i d l. absurd (omega arith)
no-links-below n (x ∷ xs) h = below-first n x xs h.0 (no-links-below n xs h.1)

-- no edit changes them
pub unlinked-same : (f : ℕ → Option ℕ) (e : Event) → e.link ≡ None → relinked f e ≡ e
unlinked-same f e h = rw h refl

pub woven-same : (ts : List Tagged) (i : ℕ) (xs : List Event) → HaveNoLinks xs → placed_in ts (woven [] i xs) ≡ xs
woven-same ts i [] h = refl
woven-same ts i (x ∷ xs) h =
    ap (λ (e : Event). e ∷ placed_in ts (woven [] (i + 1) xs)) (unlinked-same (placed_end ts (of_list i)) x h.0) ∙ ap (λ (es : List Event). x ∷ es) (woven-same ts (i + 1) xs h.1)

pub edited-same : (xs : List Event) → HaveNoLinks xs → edited [] xs ≡ xs
edited-same xs h = woven-same (woven [] 0 xs) 0 xs h

no-ends : (xs : List Event) → HaveNoLinks xs → (i : ℕ) → (next_of xs i ≡ None) × (previous_of xs i ≡ None)
no-ends [] h i = (refl, refl)
no-ends (x ∷ xs) h zero = let e = h.0 in rw e (refl, refl)
no-ends (x ∷ xs) h (suc i) = no-ends xs h.1 i

pub no-links-shape : (xs : List Event) → HaveNoLinks xs → IsBalanced xs → IsInShape xs
no-links-shape xs h balanced = record {
  balanced = balanced;
  inside = no-links-below (length xs) xs h;
  chained = λ i j. ((λ e. let f : None ≡ Some j = sym (no-ends xs h i).0 ∙ e in absurd cc), (λ e. let f : None ≡ Some i = sym (no-ends xs h j).1 ∙ e in absurd cc));
}

module _ {R D : Type 0} where
  restored-plain : (saved : Option Saved) (k : Configuration R D) → IsPlain k → IsPlain (restored saved k)
  restored-plain None k h = h
  restored-plain (Some s) k h = (h.0, h.1, no-links-take s.events k.events h.2)

  settled-plain : (kind : AttemptKind) (saved : Option Saved) (answer : State) (k : Configuration R D) → IsPlain k → IsPlain (settled_at kind saved answer k)
  settled-plain Check saved answer k h = restored-plain saved k h
  settled-plain Attempt saved Nok k h = restored-plain saved k h
  settled-plain Attempt saved answer k h = h

-- such a machine is lawful if its states keep the laws of calls
pub plain-lawful : {R D : Type 0} (g : Given) (rules : Rules R D) → KeepsPlain rules.step → ConsumesOnce g rules → OnlyAdds g rules → EndsWhenRead g rules → KeepsInvariant g rules
    → CostPays g rules → ReadsAsPromised g rules → IsLawful g (plain rules)
plain-lawful {R = R} {D = D} g rules keeps consumes adds ends kept pays promised = record {
  consumes_once = λ text k choices name is h. consumes text k choices name is h.1;
  only_adds = record {
    events = λ text k choices name is h. adds.events text k choices name is h.1;
    stack = λ text k choices name is h. adds.stack text k choices name is h.1;
    choices = λ text k choices name is h. adds.choices text k choices name is h.1;
  };
  ends_when_read = record { nok = λ text k is h. ends.nok text k is h.1; ok = λ text k is h. ends.ok text k is h.1 };
  invariant_kept = record {
    at_starts = λ p flag name is among. ((refl, refl, tt), kept.at_starts p flag name is among);
    unfed = λ text k choices name is h. kept.unfed text k choices name is h.1;
    waits = λ text k choices name is h. kept.waits text k choices name is h.1;
    by_feeding = λ text k choices name is h. (
      elim (nat_lt k.position (length text.seats)) as (λ b. IsPlain (cond b (record k { waiting = Byte }) (record k { waiting = End; ended = true }))) [ true ↦ h.0 | false ↦ h.0 ],
      kept.by_feeding text k choices name is h.1,
    );
    by_calls = λ text k choices name is h. (keeps (sight g text k) k name h.0, kept.by_calls text k choices name is h.1);
    by_ok = λ text k choice choices is h. (settled-plain choice.kind choice.saved Ok k h.0, kept.by_ok text k choice choices is h.1);
    by_nok = λ text k choice choices is h. (settled-plain choice.kind choice.saved Nok k h.0, kept.by_nok text k choice choices is h.1);
    by_pieces = λ text piece k choices state is fits fresh h. (h.0, kept.by_pieces text piece k choices state is fits fresh h.1);
  };
  cost_pays = record {
    for_calls = λ text k choices name is h. pays.for_calls text k choices name is h.1;
    for_feeding = λ text k choices name is h. pays.for_feeding text k choices name is h.1;
    for_ok = λ text k choice choices is h. pays.for_ok text k choice choices is h.1;
    for_nok = λ text k choice choices is h. pays.for_nok text k choice choices is h.1;
  };
  resolvers_keep = record {
    at_end = λ text k is formed h. ((refl, h.0.1, h.0.2), formed.balanced, promised text k is formed h.1);
    by_resolvers = λ text r rs k new more is h e.
        let same : k ≡ new = cc in
        subst (λ (q : Configuration R D). NothingResolves rules.ends text rs q × IsAsFar q k × (q.stack ≡ k.stack)) same (h, (refl, refl, refl), refl);
    at_last = λ text k is h.
        rw (h.0.1, edited-same k.events h.0.2) (((omega arith), no-links-below (length k.events) k.events h.0.2), no-links-shape k.events h.0.2 h.1, h.2);
  };
}
