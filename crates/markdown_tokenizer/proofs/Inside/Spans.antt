-- A span begins or ends: the fields of a tokenizer keep what holds of them.
use Rattle.markdown_tokenizer.proofs.Prelude.{◌≡◌, ℕ, suc, ◌-◌, ◌≤◌, ◌<◌, List, [], ◌∷◌, ◌++◌, Bool, Option, Some, None, length, refl, sym, ap, ◌∙◌, subst, arith, length-append, take, length-take, map, reverse, IfSome, All, All-push, IsPointOf, IsShown, take-append-le, take-take, Point, Event, Link, Enter, Exit, shown, Waits, Nothing, Byte, End, KeptChoice, Progress, Inside, Choice, CanExit, CanExitAt, IsNoted, true, false, last_or, open_events, stands_before, Reading, with_enter_at, with_exit_at, resumed, seen, text_within, standing, choice_of, saved_of, IsProgress, AreNested, IsSound, Vec, with_enter, with_exit, stands-self, saved_at_place, Saved, state_of}
use Rattle.markdown_base.specs.declared.event.Name.{Name}
use Rattle.markdown_tokenizer.proofs.Inside.Made.{made-enter, made-exit, made-enter-at, made-exit-at, upto_left, AreUpto}
use Rattle.markdown_tokenizer.proofs.Inside.Fields.{nested-as, Saves, bytes_within, tab_within, position_within}
use Rattle.markdown_tokenizer.proofs.Inside.Steps.{here-is, after_previous-is, enter-is-point, exit-is-point}

-- what choices saved, as a list of choices, with other positions and another stack, where each is seen as the same
pub same-choices : (f g : Point → ℕ) (a b : List Name) (P : Progress → Type 0) (events stack : ℕ) (kept_choices : List KeptChoice)
    → ((p : Progress) → p.stack_len ≤ stack → P p → saved_at_place f a p ≡ saved_at_place g b p) → AreNested P events stack kept_choices
    → map (choice_of f a) kept_choices ≡ map (choice_of g b) kept_choices
same-choices f g a b P events stack [] same h = refl
same-choices f g a b P events stack (choice ∷ kept_choices) same h =
    elim choice.saved as (λ (saved : Option Progress). AreNested P events stack (record choice { saved = saved } ∷ kept_choices)
    → map (choice_of f a) (record choice { saved = saved } ∷ kept_choices) ≡ map (choice_of g b) (record choice { saved = saved } ∷ kept_choices)) [
      | None ↦ λ k. ap (λ (cs : List Choice). choice_of g b (record choice { saved = None }) ∷ cs) (same-choices f g a b P events stack kept_choices same k.1)
      | Some p ↦ λ k. ap (λ (s : Saved). record { kind = choice.kind; ok = state_of choice.ok; nok = state_of choice.nok; saved = Some s } ∷ map (choice_of f a) kept_choices) (same p k.0.1 k.0.2)
          ∙ ap (λ (cs : List Choice). choice_of g b (record choice { saved = Some p }) ∷ cs) (same-choices f g a b P p.events_len p.stack_len kept_choices (λ q le l. same q (omega (arith, k.0.1)) l) k.1)
    ] h

-- choices saved the same of other events and another stack, where the front is the same
pub same-front : {M R D : Type 0} (t : Inside M R D) (m n : ℕ) (events : List Event) (stack : List Name) (kept_choices : List KeptChoice) → m ≤ length events → n ≤ length stack
    → ((k : ℕ) → k ≤ m → take k events ≡ take k t.events.items) → ((k : ℕ) → k ≤ n → take k stack ≡ take k t.stack.items) → AreNested (Saves t) m n kept_choices
    → AreNested (IsProgress t.phase (tab_within t) (bytes_within t) t.skips (text_within t) events stack t.closed) (length events) (length stack) kept_choices
same-front t m n events stack kept_choices more higher front top h =
    nested-as (Saves t) (IsProgress t.phase (tab_within t) (bytes_within t) t.skips (text_within t) events stack t.closed) m n (length events) (length stack) kept_choices
    (λ p a b k. let e = front p.events_len a in let s = top p.stack_len b in (omega arith, omega arith, record { read = k.read; ended = k.ended; made = rw (e, s) k.made })) h

-- other room for the same events and the same open spans
pub roomy-sound : {M R D : Type 0} {same : R → R → Bool} (t : Inside M R D) → IsSound same t → (events : Vec Event) (stack : Vec Name) → events.items ≡ t.events.items → stack.items ≡ t.stack.items
    → IsSound same (record t { events = events; stack = stack })
roomy-sound t sound events stack e s = record {
  placed = sound.placed;
  made = rw (e, s) sound.made;
  at_places = rw e sound.at_places;
  kept_choices = rw (e, s) sound.kept_choices;
  once = sound.once;
  known = sound.known;
}

-- the code's place, from its list of gaps
pub entered-here : {M R D : Type 0} (t : Inside M R D) (slice : List Point) (place here : Point) → slice ≡ t.skips → place ≡ standing slice t.after_previous t.waits
    → here ≡ shown (bytes_within t) place → here ≡ shown (bytes_within t) (standing t.skips t.after_previous t.waits)
entered-here t slice place here e f g = g ∙ ap (shown (bytes_within t)) (f ∙ ap (λ (skips : List Point). standing skips t.after_previous t.waits) e)

-- the same where the next byte is looked for at the place after the byte before
pub entered-there : {M R D : Type 0} (t : Inside M R D) (slice : List Point) (here : Point) → slice ≡ t.skips → resumed slice t.after_previous ≡ t.after_previous
    → here ≡ shown (bytes_within t) t.after_previous → here ≡ shown (bytes_within t) (standing t.skips t.after_previous t.waits)
entered-there t slice here e there is =
    let at = subst (λ (skips : List Point). resumed skips t.after_previous ≡ t.after_previous) e there in
    is ∙ ap (shown (bytes_within t)) (sym (elim t.waits as (λ (w : Waits). standing t.skips t.after_previous w ≡ t.after_previous) [ Nothing ↦ refl | Byte ↦ at | End ↦ at ]))

module _ {M R D : Type 0} {same : R → R → Bool} (t : Inside M R D) (sound : IsSound same t) where
  -- a span begins
  module _ (name : Name) (link : Option Link) (here : Point) (is : here ≡ shown (bytes_within t) (standing t.skips t.after_previous t.waits)) (events : Vec Event) (stack : Vec Name)
      (put : events.items ≡ t.events.items ++ record { kind = Enter; name = name; point = here; link = link } ∷ []) (top : stack.items ≡ t.stack.items ++ name ∷ []) where
    entered-front : (n : ℕ) → n ≤ length t.stack.items → take n stack.items ≡ take n t.stack.items
    entered-front n le = rw top (take-append-le n t.stack.items (name ∷ []) le)

    pub entered-sound : IsSound same (record t { events = events; stack = stack })
    entered-sound = record {
      placed = sound.placed;
      made = λ reads. rw (put, top, is) (let bound = shown (bytes_within t) (standing t.skips t.after_previous t.waits) in let m = sound.made reads in
          made-enter (bytes_within t) t.events.items t.stack.items (shown (bytes_within t) t.after_previous) bound m (record { kind = Enter; name = name; point = bound; link = link }) refl
          (stands-self bound) (stands-self bound) m.bound_shown);
      at_places = λ reads. rw (put, is) (All-push (λ e. IsPointOf (tab_within t) (bytes_within t) e.point) t.events.items
          (record { kind = Enter; name = name; point = shown (bytes_within t) (standing t.skips t.after_previous t.waits); link = link }) (sound.at_places reads) (enter-is-point t sound));
      kept_choices = same-front t (length t.events.items) (length t.stack.items) events.items stack.items (reverse t.kept_choices.items)
          (omega (arith, ap length put, length-append t.events.items (record { kind = Enter; name = name; point = here; link = link } ∷ [])))
          (omega (arith, ap length top, length-append t.stack.items (name ∷ [])))
          (λ n le. rw put (take-append-le n t.events.items (record { kind = Enter; name = name; point = here; link = link } ∷ []) le)) entered-front sound.kept_choices;
      once = sound.once;
      known = sound.known;
    }

    pub entered-seen : seen (record t { events = events; stack = stack }) ≡ with_enter name link (seen t)
    entered-seen =
        let position = position_within t in
        let choices = same-choices position position stack.items t.stack.items (Saves t) (length t.events.items) (length t.stack.items) (reverse t.kept_choices.items) (λ p le saved. rw (entered-front p.stack_len le) refl) sound.kept_choices in
        rw (choices, put, top, is ∙ here-is t sound) refl

-- waiting choices that saved a smaller stack are nested in a stack that is one smaller
nested-below : (position : Point → ℕ) (stack : List Name) (P : Progress → Type 0) (events : ℕ) (kept_choices : List KeptChoice)
    → All (λ c. IfSome c.saved (λ s. length s.stack < length stack)) (map (choice_of position stack) kept_choices)
    → AreNested P events (length stack) kept_choices → AreNested P events (length stack - 1) kept_choices
nested-below position stack P events [] above h = tt
nested-below position stack P events (choice ∷ kept_choices) above h =
    elim choice.saved as (λ (saved : Option Progress). IfSome (saved_of position stack saved) (λ s. length s.stack < length stack)
    → AreNested P events (length stack) (record choice { saved = saved } ∷ kept_choices) → AreNested P events (length stack - 1) (record choice { saved = saved } ∷ kept_choices)) [
      | None ↦ λ a k. (tt, nested-below position stack P events kept_choices (λ i d lt. above (suc i) d (omega arith)) k.1)
      | Some p ↦ λ a k. (let l = length-take p.stack_len stack in ((k.0.0, omega (arith, a, k.0.1), k.0.2), k.1))
    ] (above 0 (choice_of position stack choice) (omega arith)) h

module _ {M R D : Type 0} {same : R → R → Bool} (t : Inside M R D) (sound : IsSound same t) (name : Name) (can : CanExit name (seen t)) (here : Point)
    (is : here ≡ shown (bytes_within t) t.after_previous) (events : Vec Event) (stack : Vec Name)
    (put : events.items ≡ t.events.items ++ record { kind = Exit; name = name; point = here; link = None } ∷ []) (top : stack.items ≡ take (length t.stack.items - 1) t.stack.items) where
  exited-front : (n : ℕ) → n ≤ length t.stack.items - 1 → take n stack.items ≡ take n t.stack.items
  exited-front n le = rw top (take-take n (length t.stack.items - 1) t.stack.items le)

  exited-nested : AreNested (Saves t) (length t.events.items) (length t.stack.items - 1) (reverse t.kept_choices.items)
  exited-nested =
      nested-below (position_within t) t.stack.items (Saves t) (length t.events.items) (reverse t.kept_choices.items) can.above sound.kept_choices

  pub exited-sound : IsSound same (record t { events = events; stack = stack })
  exited-sound = record {
    placed = sound.placed;
    made = λ reads. let l = after_previous-is t sound in
        rw (put, top, is) (let left = shown (bytes_within t) t.after_previous in
        made-exit (bytes_within t) t.events.items t.stack.items left (shown (bytes_within t) (standing t.skips t.after_previous t.waits)) (sound.made reads)
        (record { kind = Exit; name = name; point = left; link = None }) refl refl can.top (λ o e. rw l (can.read o e)) can.void);
    at_places = λ reads. rw (put, is) (All-push (λ e. IsPointOf (tab_within t) (bytes_within t) e.point) t.events.items
        (record { kind = Exit; name = name; point = shown (bytes_within t) t.after_previous; link = None }) (sound.at_places reads) (exit-is-point t sound));
    kept_choices = same-front t (length t.events.items) (length t.stack.items - 1) events.items stack.items (reverse t.kept_choices.items)
        (omega (arith, ap length put, length-append t.events.items (record { kind = Exit; name = name; point = here; link = None } ∷ [])))
        (omega (arith, ap length top, length-take (length t.stack.items - 1) t.stack.items))
        (λ n le. rw put (take-append-le n t.events.items (record { kind = Exit; name = name; point = here; link = None } ∷ []) le)) exited-front exited-nested;
    once = sound.once;
    known = sound.known;
  }

  pub exited-seen : seen (record t { events = events; stack = stack }) ≡ with_exit name (seen t)
  exited-seen =
      let position = position_within t in
      let choices = same-choices position position stack.items t.stack.items (Saves t) (length t.events.items) (length t.stack.items - 1) (reverse t.kept_choices.items) (λ p le saved. rw (exited-front p.stack_len le) refl) exited-nested in
      rw (choices, put, top, is ∙ after_previous-is t sound) refl

module _ {M R D : Type 0} {same : R → R → Bool} (t : Inside M R D) (sound : IsSound same t) (p : Point) (noted : IsNoted p (seen t)) where
  -- a span begins at a place that was noted
  module _ (name : Name) (events : Vec Event) (stack : Vec Name)
      (put : events.items ≡ t.events.items ++ record { kind = Enter; name = name; point = p; link = None } ∷ []) (top : stack.items ≡ t.stack.items ++ name ∷ []) where
    entered-at-front : (n : ℕ) → n ≤ length t.stack.items → take n stack.items ≡ take n t.stack.items
    entered-at-front n le = rw top (take-append-le n t.stack.items (name ∷ []) le)

    pub entered-at-sound : IsSound same (record t { events = events; stack = stack })
    entered-at-sound = record {
      placed = sound.placed;
      made = λ reads. let l = after_previous-is t sound in
          rw (put, top) (made-enter-at (bytes_within t) t.events.items t.stack.items (shown (bytes_within t) t.after_previous) (shown (bytes_within t) (standing t.skips t.after_previous t.waits)) (sound.made reads)
          (record { kind = Enter; name = name; point = p; link = None }) refl noted.shown (rw l noted.upto) noted.behind);
      at_places = λ reads. rw put (All-push (λ e. IsPointOf (tab_within t) (bytes_within t) e.point) t.events.items
          (record { kind = Enter; name = name; point = p; link = None }) (sound.at_places reads) noted.place);
      kept_choices = same-front t (length t.events.items) (length t.stack.items) events.items stack.items (reverse t.kept_choices.items)
          (omega (arith, ap length put, length-append t.events.items (record { kind = Enter; name = name; point = p; link = None } ∷ [])))
          (omega (arith, ap length top, length-append t.stack.items (name ∷ [])))
          (λ n le. rw put (take-append-le n t.events.items (record { kind = Enter; name = name; point = p; link = None } ∷ []) le)) entered-at-front sound.kept_choices;
      once = sound.once;
      known = sound.known;
    }

    pub entered-at-seen : seen (record t { events = events; stack = stack }) ≡ with_enter_at name p (seen t)
    entered-at-seen =
        let position = position_within t in
        let choices = same-choices position position stack.items t.stack.items (Saves t) (length t.events.items) (length t.stack.items) (reverse t.kept_choices.items) (λ p le saved. rw (entered-at-front p.stack_len le) refl) sound.kept_choices in
        rw (choices, put, top) refl

  -- the innermost span ends at a place that was noted
  module _ (name : Name) (can : CanExitAt name p (seen t)) (events : Vec Event) (stack : Vec Name)
      (put : events.items ≡ t.events.items ++ record { kind = Exit; name = name; point = p; link = None } ∷ []) (top : stack.items ≡ take (length t.stack.items - 1) t.stack.items) where
    exited-at-front : (n : ℕ) → n ≤ length t.stack.items - 1 → take n stack.items ≡ take n t.stack.items
    exited-at-front n le = rw top (take-take n (length t.stack.items - 1) t.stack.items le)

    exited-at-nested : AreNested (Saves t) (length t.events.items) (length t.stack.items - 1) (reverse t.kept_choices.items)
    exited-at-nested =
        nested-below (position_within t) t.stack.items (Saves t) (length t.events.items) (reverse t.kept_choices.items) can.above sound.kept_choices

    pub exited-at-sound : IsSound same (record t { events = events; stack = stack })
    exited-at-sound = record {
      placed = sound.placed;
      made = λ reads. let l = after_previous-is t sound in
          rw (put, top) (made-exit-at (bytes_within t) t.events.items t.stack.items (shown (bytes_within t) t.after_previous) (shown (bytes_within t) (standing t.skips t.after_previous t.waits)) (sound.made reads)
          (record { kind = Exit; name = name; point = p; link = None }) refl noted.shown (rw l noted.upto) noted.behind can.top can.void);
      at_places = λ reads. rw put (All-push (λ e. IsPointOf (tab_within t) (bytes_within t) e.point) t.events.items
          (record { kind = Exit; name = name; point = p; link = None }) (sound.at_places reads) noted.place);
      kept_choices = same-front t (length t.events.items) (length t.stack.items - 1) events.items stack.items (reverse t.kept_choices.items)
          (omega (arith, ap length put, length-append t.events.items (record { kind = Exit; name = name; point = p; link = None } ∷ [])))
          (omega (arith, ap length top, length-take (length t.stack.items - 1) t.stack.items))
          (λ n le. rw put (take-append-le n t.events.items (record { kind = Exit; name = name; point = p; link = None } ∷ []) le)) exited-at-front exited-at-nested;
      once = sound.once;
      known = sound.known;
    }

    pub exited-at-seen : seen (record t { events = events; stack = stack }) ≡ with_exit_at name p (seen t)
    exited-at-seen =
        let position = position_within t in
        let choices = same-choices position position stack.items t.stack.items (Saves t) (length t.events.items) (length t.stack.items - 1) (reverse t.kept_choices.items) (λ p le saved. rw (exited-at-front p.stack_len le) refl) exited-at-nested in
        rw (choices, put, top) refl

-- the place of an exit may be noted, if the innermost span began before it
pub noted-here : {M R D : Type 0} {same : R → R → Bool} (t : Inside M R D) → IsSound same t → (p : Point) → p ≡ shown (bytes_within t) t.after_previous → t.phase ≡ Reading
    → ((o : Event) → last_or None (open_events t.events.items) ≡ Some o → stands_before o.point p ≡ true) → IsNoted p (seen t)
noted-here t sound p is reads before =
    let m = sound.made reads in
    let left = shown (bytes_within t) t.after_previous in
    let upto = upto_left (bytes_within t) t.events.items t.stack.items left (shown (bytes_within t) (standing t.skips t.after_previous t.waits)) m
    (λ o e. subst (λ (q : Point). stands_before o.point q ≡ true) is (before o e)) in
    record {
      place = subst (IsPointOf (tab_within t) (bytes_within t)) (sym is) (exit-is-point t sound);
      shown = subst (λ (q : Point). IsShown (bytes_within t) q) (sym is) m.left_shown;
      upto = subst (λ (q : Point). stands_before q p ≡ false) (is ∙ after_previous-is t sound) (stands-self p);
      behind = subst (λ (q : Point). AreUpto q t.events.items) (sym is) upto;
    }
