-- What a push and a flush leave.
use Rattle.markdown_tokenizer.proofs.Prelude.{◌≡◌, ◌≤◌, ℕ, zero, List, [], Bool, true, false, cond, Some, ◌⊎◌, inl, inr, refl, sym, ap, ◌∙◌, arith, subst, add-zero, Message, Name, State, Next, Retry, Ok, Nok, Error, Given, Text, IsText, Phase, Subresult, Configuration, Choice, Step, TokenizerValue, Sight, EndsIn, more_calls, read, Rules, IsLawful, IsFlushed, IsRefused, IsWellFormed, IsResolved, IsResolvingRefused, IsInShape, budget, LeadsAll, Stops, OnlyWorked}
use Rattle.markdown_tokenizer.specs.declared.waiting.Phase.TheVariants as phases
use Rattle.markdown_tokenizer.proofs.Inside.AtPlaces.{resolved-at-places}
use Rattle.markdown_tokenizer.proofs.Readings.Ends.{error-stays}

-- a message, and Ok with no choice waiting, are their own outcome
own-end : {R D : Type 0} (given : Given) (step : Sight → Configuration R D → Name → Step R D) (text : Text) (calls : ℕ) (k : Configuration R D) (cs : List Choice) (s : State)
    → ((m : Message) × (s ≡ Error m)) ⊎ ((s ≡ Ok) × (cs ≡ [])) → EndsIn given step text calls k cs s (record { configuration = k; answer = s; calls = calls })
own-end given step text calls k cs s (inl (m, e)) = rw e (record {
  bound = zero;
  is = ap (more_calls calls) (error-stays (read given step text zero) cs k m 0) ∙ ap (λ (n : ℕ). Some (record { configuration = k; answer = Error m; calls = n })) (add-zero calls);
})
own-end given step text calls k cs s (inr (e, none)) =
    rw (e, none) (record { bound = zero; is = ap (λ (n : ℕ). Some (record { configuration = k; answer = Ok; calls = n })) (add-zero calls) })

-- what flushing leaves: the work goes on from the tokenizer, closed
module _ {M R D : Type 0} (rules : Rules R D) (t u : TokenizerValue M R D) (a s : State) (only : OnlyWorked (record t { closed = true }) u)
    (leads : LeadsAll t.given rules true (record t { closed = true }) a u s) where
  flush-ends : ((m : Message) × (s ≡ Error m)) ⊎ ((s ≡ Ok) × (u.choices ≡ []))
      → EndsIn t.given rules.step t.text t.calls t.configuration t.choices a (record { configuration = u.configuration; answer = s; calls = u.calls })
  flush-ends own =
      let text = only.text in let same = (leads [] tt (λ _. refl)).same (record { configuration = u.configuration; answer = s; calls = u.calls }) in
      rw text at (same.0 (own-end t.given rules.step u.text u.calls u.configuration u.choices s own))

  flush-paid : u.calls ≤ budget rules t.text t a
  flush-paid = let text = only.text in let paid = rw text at ((leads [] tt (λ _. refl)).paid) in omega (arith, paid)

  -- if no choice waits, the invariant holds so
  pub flush-held : IsText t.given t.text → u.choices ≡ [] → IsText t.given u.text × rules.holds u.text u.configuration [] s
  flush-held is none = (subst (λ (q : Text). IsText t.given q) (sym only.text) is, rw none at ((leads [] tt (λ _. refl)).kept))

  -- after the work only the configuration and the phase change
  module _ (resolve : Bool) (v : TokenizerValue M R D) (k : Configuration R D) (p : Phase) (same : v ≡ record u { configuration = k; phase = p }) where
    pub flush-refused : p ≡ elim s [ Ok ↦ phases.Resolved | _ ↦ phases.Reading ] → (m : Message) → (s ≡ Error m) ⊎ ((s ≡ Ok) × (u.choices ≡ []) × IsResolvingRefused rules.resolver t.given t.text resolve u.configuration m) → IsRefused rules resolve t a v m
    flush-refused phase m why = rw same (record {
      given = only.given;
      machine = only.machine;
      text = only.text;
      result = record { configuration = u.configuration; answer = s; calls = u.calls };
      ends = flush-ends (elim why [ inl e ↦ inl (m, e) | inr e ↦ inr (e.0, e.1) ]);
      message = elim why [ inl e ↦ inl e | inr e ↦ inr (e.0, e.2) ];
      calls = refl;
      within = flush-paid;
      phase = phase;
    })

    pub flush-ok : (sub : Subresult) → s ≡ Ok → u.choices ≡ [] → IsResolved rules.resolver t.given t.text resolve u.configuration k sub → p ≡ cond resolve phases.Resolved phases.Reading
        → IsWellFormed t.given u.configuration.events → (resolve ≡ false → IsWellFormed t.given k.events) → (resolve ≡ true → IsInShape k.events) → (resolve ≡ true → rules.ends t.text k.events)
        → IsFlushed rules resolve t a v sub
    flush-ok sub ok none resolved phase before formed shape promised = rw same (record {
      given = only.given;
      machine = only.machine;
      text = only.text;
      result = record { configuration = u.configuration; answer = s; calls = u.calls };
      ends = flush-ends (inr (ok, none));
      well = ok;
      calls = refl;
      within = flush-paid;
      resolved = resolved;
      phase = phase;
      settled = none;
      before = before;
      well_formed = formed;
      at_places = resolved-at-places t.given.tab t.given.bytes rules.resolver t.given t.text resolve u.configuration k sub resolved before.at_places;
      in_shape = shape;
      promised = promised;
    })

module _ {M R D : Type 0} (given : Given) (rules : Rules R D) (laws : IsLawful given rules) where
  -- before the end is fed the work stops at a state that waits for a byte, or at a message
  pub stops-answers : (u : TokenizerValue M R D) (s : State) → IsText given u.text → rules.holds u.text u.configuration u.choices s → Stops false u s → (u.configuration.ended ≡ true → ⊥)
      → ((name : Name) × (s ≡ Next name)) ⊎ ((m : Message) × (s ≡ Error m))
  stops-answers u (Next n) is h stops fresh = inl (n, refl)
  stops-answers u (Retry n) is h stops fresh = absurd stops
  stops-answers u Ok is h stops fresh = let h' = rw stops at h in absurd (fresh ((laws.ends_when_read.ok u.text u.configuration is h').0))
  stops-answers u Nok is h stops fresh = let h' = rw stops at h in absurd (laws.ends_when_read.nok u.text u.configuration is h')
  stops-answers u (Error m) is h stops fresh = inr (m, refl)
