-- A choice begins.
use Rattle.markdown_tokenizer.proofs.Prelude.{◌≡◌, List, [], ◌∷◌, ◌++◌, Bool, true, false, cond, Option, Some, None, length, refl, ap, arith, map, reverse, reverse-append, take-length, lt-ltb, AttemptKind, GoesOn, KeptChoice, Progress, Inside, Choice, Waits, Nothing, Byte, End, seen, text_within, state_of, choice_at, choice_of, standing, reach, can_feed, AreNested, IsSound}
use Rattle.std.proofs.lemmas.Bool.{or_left, or_right}
use Rattle.markdown_tokenizer.proofs.Inside.Fields.{Saves, MadeUpto, next-more, made-more, position_within, WaitsWithin}

-- how far a tokenizer has read
abbrev pub progress_of : {M R D : Type 0} → Inside M R D → Progress
progress_of t = record { after_previous = t.after_previous; previous = t.previous; ended = t.ended; events_len = length t.events.items; stack_len = length t.stack.items }

abbrev pub saved_if : {M R D : Type 0} → Bool → Inside M R D → Option Progress
saved_if saves t = cond saves (Some (progress_of t)) None

module _ {M R D : Type 0} {same : R → R → Bool} (t : Inside M R D) (sound : IsSound same t) where
  abbrev can_feed_in : Bool
  can_feed_in = can_feed (position_within t t.after_previous) (length (text_within t).seats) t.closed

  reach-by : (a : Bool) → (a ≡ true → can_feed_in ≡ true) → MadeUpto t t.events.items t.stack.items t.after_previous (reach t.skips t.after_previous a) → MadeUpto t t.events.items t.stack.items t.after_previous (reach t.skips t.after_previous can_feed_in)
  reach-by a f m = made-more t sound sound.placed.read t.events.items t.stack.items a can_feed_in f m

  -- if something waits, more can be fed
  waits-more : (w : Waits) → WaitsWithin t w → MadeUpto t t.events.items t.stack.items t.after_previous (standing t.skips t.after_previous w) → MadeUpto t t.events.items t.stack.items t.after_previous (reach t.skips t.after_previous can_feed_in)
  waits-more Nothing h m = reach-by false (λ e. absurd (cc)) m
  waits-more Byte h m = reach-by true (λ e. or_left _ t.closed (lt-ltb _ _ (next-more t sound sound.placed.read h.seat h.at h.before))) m
  waits-more End h m = reach-by true (λ e. or_right _ t.closed h.closed_too) m

  pub saves-here : Saves t (progress_of t)
  saves-here = record { read = sound.placed.read; ended = sound.placed.ended; made = λ reads. rw (take-length t.events.items, take-length t.stack.items) (waits-more t.waits sound.placed.waiting (sound.made reads)) }

  module _ (kind : AttemptKind) (ok nok : GoesOn) (saves : Bool) (kept_choices : List KeptChoice)
      (put : kept_choices ≡ t.kept_choices.items ++ record { kind = kind; ok = ok; nok = nok; saved = saved_if saves t } ∷ []) where
    pub chosen-kept_choices : AreNested (Saves t) (length t.events.items) (length t.stack.items) (reverse kept_choices)
    chosen-kept_choices = rw (put, reverse-append) (elim saves as (λ (b : Bool).
        AreNested (Saves t) (length t.events.items) (length t.stack.items) (record { kind = kind; ok = ok; nok = nok; saved = saved_if b t } ∷ reverse t.kept_choices.items)) [
          | true ↦ ((omega arith, omega arith, saves-here), sound.kept_choices)
          | false ↦ (tt, sound.kept_choices)
        ])

    pub chosen-choices : map (choice_of (position_within t) t.stack.items) (reverse kept_choices) ≡ choice_at kind (state_of ok) (state_of nok) saves (seen t).configuration ∷ (seen t).choices
    chosen-choices = rw (put, reverse-append) (ap (λ (c : Choice). c ∷ (seen t).choices) (elim saves as (λ (b : Bool).
        choice_of (position_within t) t.stack.items (record { kind = kind; ok = ok; nok = nok; saved = saved_if b t })
        ≡ choice_at kind (state_of ok) (state_of nok) b (seen t).configuration) [ true ↦ rw (take-length t.stack.items) refl | false ↦ refl ]))
