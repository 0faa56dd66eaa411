-- Events in front of a list at which no string begins or ends: they stay as they are.
use Rattle.std.proofs.Common.{◌≡◌, ◌∙◌, ◌+◌, ◌-◌, ◌<◌, ◌≤◌, ◌++◌, ℕ, zero, suc, List, [], ◌∷◌, Bool, false, cond, ap, arith, drop, get_or, length, length-drop, refl, subst, sym, take}
use Rattle.std.proofs.lemmas.List.{append_assoc, drop-drop, take_all}
use Rattle.std.proofs.Math.Seq.{take-add}
use Rattle.markdown_base.specs.declared.configuration.Constructs.{Constructs}
use Rattle.markdown_base.specs.declared.event.Event.{Event}
use Rattle.markdown_base.specs.Events.{is_enter}
use Rattle.mdinline_link_strings.specs.Costs.{string_size_from}
use Rattle.mdinline_link_strings.specs.Strings.{in_string_after, is_string, with_strings_from}

-- behind an event at which no string begins or ends the next one stands where it does
stays-outside : (e : Event) → is_string e.name ≡ false → in_string_after false e ≡ false
stays-outside e h = ap (λ b. cond b (is_enter e.kind) false) h

module _ (t : ℕ) (bytes : List ℕ) (d : Event) where
  pub outside-events : (on : Constructs) (n : ℕ) (es : List Event) → n ≤ length es → ((k : ℕ) → k < n → is_string (get_or es k d).name ≡ false)
      → with_strings_from on t bytes false es ≡ take n es ++ with_strings_from on t bytes false (drop n es)
  outside-events on zero es within none = refl
  outside-events on (suc n) [] within none = refl
  outside-events on (suc zero) (e ∷ []) within none = refl
  outside-events on (suc (suc n)) (e ∷ []) within none = absurd (omega (arith, within))
  outside-events on (suc n) (e ∷ f ∷ es) within none =
      ap (λ b. e ∷ with_strings_from on t bytes b (f ∷ es)) (stays-outside e (none 0 (omega arith)))
      ∙ ap (λ xs. e ∷ xs) (outside-events on n (f ∷ es) (omega (arith, within)) (λ k less. none (suc k) (omega (arith, less))))

  pub outside-size : (n : ℕ) (es : List Event) → n ≤ length es → ((k : ℕ) → k < n → is_string (get_or es k d).name ≡ false)
      → string_size_from t bytes false es ≡ string_size_from t bytes false (drop n es)
  outside-size zero es within none = refl
  outside-size (suc n) [] within none = refl
  outside-size (suc zero) (e ∷ []) within none = refl
  outside-size (suc (suc n)) (e ∷ []) within none = absurd (omega (arith, within))
  outside-size (suc n) (e ∷ f ∷ es) within none =
      ap (λ b. string_size_from t bytes b (f ∷ es)) (stays-outside e (none 0 (omega arith)))
      ∙ outside-size n (f ∷ es) (omega (arith, within)) (λ k less. none (suc k) (omega (arith, less)))

module _ (t : ℕ) (bytes : List ℕ) (first : Bool) (es : List Event) (before : ℕ) where
  -- the events up to an index stay as they are; what is left costs no more, and so many turns were taken
  abbrev pub Upto : (next : ℕ) (inside : Bool) (turns : ℕ) → Type 0
  Upto next inside turns =
      ((on : Constructs) → with_strings_from on t bytes first es ≡ take next es ++ with_strings_from on t bytes inside (drop next es))
      × (next ≤ length es)
      × (turns + string_size_from t bytes inside (drop next es) ≤ before + next + string_size_from t bytes first es)
      × (string_size_from t bytes inside (drop next es) ≤ string_size_from t bytes first es)

  -- so do more events behind them
  upto-more : (next k after : ℕ) (inside : Bool) (turns new : ℕ) → after ≡ next + k → k ≤ length (drop next es)
      → ((on : Constructs) → with_strings_from on t bytes inside (drop next es) ≡ take k (drop next es) ++ with_strings_from on t bytes inside (drop k (drop next es)))
      → string_size_from t bytes inside (drop next es) ≡ string_size_from t bytes inside (drop k (drop next es))
      → new ≤ turns + k → Upto next inside turns → Upto after inside new
  upto-more next k after inside turns new is within events size few h =
      let rest = drop next es in
      let left : drop k rest ≡ drop after es = drop-drop k next es ∙ ap (λ n. drop n es) (sym is) in
      let more = ap (string_size_from t bytes inside) left in
      let long = length-drop next es in
      let inside_list = h.1 in
      let paid = h.2 in
      let less = h.3 in (
        λ on.
            h.0 on ∙ ap (λ xs. take next es ++ xs) (events on)
            ∙ sym (append_assoc (take next es) (take k rest) (with_strings_from on t bytes inside (drop k rest)))
            ∙ ap (λ xs. xs ++ with_strings_from on t bytes inside (drop k rest)) (sym (take-add next k es) ∙ ap (λ n. take n es) (sym is))
            ∙ ap (λ xs. take after es ++ with_strings_from on t bytes inside xs) left,
        omega (arith, is, within, long, inside_list),
        omega (arith, is, more, size, few, paid),
        omega (arith, more, size, less),
      )

  -- so it is if they are looked for in all that is left
  pub upto-tail : (next k after : ℕ) (inside : Bool) (turns new : ℕ) → after ≡ next + k → k ≤ length (take (length es - next) (drop next es))
      → ((on : Constructs) → with_strings_from on t bytes inside (take (length es - next) (drop next es))
      ≡ take k (take (length es - next) (drop next es)) ++ with_strings_from on t bytes inside (drop k (take (length es - next) (drop next es))))
      → string_size_from t bytes inside (take (length es - next) (drop next es)) ≡ string_size_from t bytes inside (drop k (take (length es - next) (drop next es)))
      → new ≤ turns + k → Upto next inside turns → Upto after inside new
  upto-tail next k after inside turns new is within events size few h =
      let long = length-drop next es in
      let whole : take (length es - next) (drop next es) ≡ drop next es = take_all (length es - next) (drop next es) (omega (arith, long)) in
      upto-more next k after inside turns new is (subst (λ (xs : List Event). k ≤ length xs) whole within)
      (λ on. subst (λ (xs : List Event). with_strings_from on t bytes inside xs ≡ take k xs ++ with_strings_from on t bytes inside (drop k xs)) whole (events on))
      (subst (λ (xs : List Event). string_size_from t bytes inside xs ≡ string_size_from t bytes inside (drop k xs)) whole size) few h
