-- Choices end, and what they go on with is fed: what that does to the fields of a tokenizer, and what it means.
use Rattle.markdown_tokenizer.proofs.Prelude.{eqb-true, ◌≡◌, ◌==◌, ℕ, ◌≤◌, ◌<◌, List, [], ◌∷◌, ◌++◌, Bool, true, false, Option, Some, None, length, refl, sym, ap, ◌∙◌, subst, arith, take, length-take, ◌⊎◌, inl, inr, map, reverse, IfSome, IsSome, All-take, IsPointOf, unwrap_or, Result, Vec, take-take, take-length, length-map, length_push, lt-ltb, le-ltb, Event, Kind, Enter, Exit, Point, State, Next, Ok, Nok, open_events, shown, stands-self, AttemptKind, Attempt, Check, GoesOn, KeptChoice, Moves, Other, NextByteIsKnown, IsPlace, IsQuick, IsSeatAt, Progress, Waits, Nothing, Byte, End, Reading, Inside, Configuration, Choice, Saved, Step, Local, TokenizerValue, unfed, restored, settled_at, settled_all, settled_to, answer_of, answer_in, EndsClosed, TakesUp, continuation_of, saved_for, ended_by, Unwinding, unwinding, unwound, resumed, IsPlainUntil, IsMade, last_kind, IsNextByte, seen, text_within, state_of, choice_of, saved_of, standing, reach, can_feed, IsWhatWaits, AreNested, AreWithin, progress_at, IsSound}
use Rattle.std.proofs.lemmas.Bool.{or_from, or_left, or_right}
use Rattle.std.proofs.lemmas.List.{length-reverse}
use Rattle.std.specs.declared.result.Result.TheVariants as result
use Rattle.markdown_base.specs.declared.event.Name.{Name}
use Rattle.markdown_base.specs.declared.state.Name.{Name as StateName}
use Rattle.markdown_tokenizer.specs.declared.waiting.GoesOn.TheVariants as goes_on
use Rattle.markdown_tokenizer.proofs.Inside.Fields.{Saves, MadeUpto, wide_of, placed-there, looks, next-more, next-past, next-none-left, nested-map, bytes_within, tab_within, position_within, size_within}
use Rattle.markdown_tokenizer.proofs.Inside.Steps.{before-end}
use Rattle.markdown_tokenizer.proofs.Inside.Spans.{same-front, same-choices}
use Rattle.markdown_tokenizer.proofs.Inside.Known.{known-other, resumed-in-line}
use Rattle.markdown_tokenizer.proofs.Inside.Choices.{progress_of, saves-here}
use Rattle.markdown_tokenizer.proofs.Inside.Unwinding.{GoesFrom, from-one, from-all}
use Rattle.markdown_tokenizer.proofs.Inside.Made.{last_view, last_kind-append, open_events-enter}
use Rattle.markdown_tokenizer.proofs.Positions.Order.{is-not}

-- what one goes on from
module _ {R D : Type 0} (position : Point → ℕ) (events : List Event) (stack : List Name) (local : Local R D) where
  abbrev pub at_from : Progress → Configuration R D
  at_from from = record { position = position from.after_previous; waiting = Nothing; ended = from.ended; events = take from.events_len events; stack = take from.stack_len stack; local = local }

  settled-saved : (P : Progress → Type 0) (from : Progress) (saved : Option Progress) → IfSome saved (λ p. (p.events_len ≤ from.events_len) × (p.stack_len ≤ from.stack_len) × P p)
      → restored (saved_of position stack saved) (at_from from) ≡ at_from (unwrap_or saved from)
  settled-saved P from None h = refl
  settled-saved P from (Some p) h = let e = take-take p.events_len from.events_len events h.0 in rw e refl

  settled-one : (P : Progress → Type 0) (kind : AttemptKind) (ok nok : GoesOn) (saved : Option Progress) (from : Progress) (b : Bool)
      → IfSome saved (λ p. (p.events_len ≤ from.events_len) × (p.stack_len ≤ from.stack_len) × P p)
      → settled_at kind (saved_of position stack saved) (answer_of b) (at_from from) ≡ at_from (unwrap_or (saved_for (record { kind = kind; ok = ok; nok = nok; saved = saved }) b) from)
  settled-one P Attempt ok nok saved from true h = refl
  settled-one P Check ok nok saved from true h = settled-saved P from saved h
  settled-one P _ ok nok saved from _ h = settled-saved P from saved h

  abbrev pub choices_of : List KeptChoice → List Choice
  choices_of kept_choices = map (choice_of position stack) kept_choices

  abbrev pub step_of : Unwinding → Step R D
  step_of u = record { configuration = at_from u.from; choices = choices_of u.kept_choices; answer = state_of u.continuation }

  -- the code and the definition end the same choices
  pub settled-unwound : (P : Progress → Type 0) (kept_choices : List KeptChoice) (continuation : GoesOn) (from : Progress) → P from → AreNested P from.events_len from.stack_len kept_choices
      → settled_all (at_from from) (choices_of kept_choices) (state_of continuation) ≡ step_of (unwound kept_choices continuation from)
  settled-unwound P (choice ∷ kept_choices) goes_on.Ok from now h =
      let one = from-one P choice.kind choice.ok choice.nok choice.saved kept_choices from true now h in
      let e = settled-one P choice.kind choice.ok choice.nok choice.saved from true h.0 in
      ap (λ (k : Configuration R D). settled_all k (choices_of kept_choices) (state_of choice.ok)) e ∙ settled-unwound P kept_choices (continuation_of choice true) (unwrap_or (saved_for choice true) from) one.0 one.1
  settled-unwound P (choice ∷ kept_choices) goes_on.Nok from now h =
      let one = from-one P choice.kind choice.ok choice.nok choice.saved kept_choices from false now h in
      let e = settled-one P choice.kind choice.ok choice.nok choice.saved from false h.0 in
      ap (λ (k : Configuration R D). settled_all k (choices_of kept_choices) (state_of choice.nok)) e ∙ settled-unwound P kept_choices (continuation_of choice false) (unwrap_or (saved_for choice false) from) one.0 one.1
  settled-unwound P [] (goes_on.Next name) from now h = refl
  settled-unwound P _ _ from now h = refl

-- what waits makes no difference where a choice ends
settled-unfed : {R D : Type 0} (kind : AttemptKind) (saved : Option Saved) (b : Bool) (k : Configuration R D) → settled_at kind saved (answer_of b) k ≡ settled_at kind saved (answer_of b) (unfed k)
settled-unfed Attempt None true k = refl
settled-unfed Attempt (Some saved) true k = refl
settled-unfed Check None b k = refl
settled-unfed Check (Some saved) b k = refl
settled-unfed _ _ _ k = refl

some-unfed : {R D : Type 0} (choices : List Choice) (b : Bool) (k : Configuration R D) → (choices ≡ [] → ⊥) → settled_all k choices (answer_of b) ≡ settled_all (unfed k) choices (answer_of b)
some-unfed [] b k h = absurd (h refl)
some-unfed {R} {D} (c ∷ cs) true k h = ap (λ (q : Configuration R D). settled_all q cs c.ok) (settled-unfed c.kind c.saved true k)
some-unfed {R} {D} (c ∷ cs) false k h = ap (λ (q : Configuration R D). settled_all q cs c.nok) (settled-unfed c.kind c.saved false k)

-- if no span is open, each event is at or before the place that an exit would have
made-closed : (bytes : List ℕ) (events : List Event) (stack : List Name) (after_previous bound : Point) → IsMade bytes events stack after_previous bound → stack ≡ [] → IsMade bytes events stack after_previous after_previous
made-closed bytes events stack after_previous bound m e = assumption (m.read (cases (last_kind Exit events) refl (last_view events)), stands-self after_previous)
  where
    cases : (k : Kind) → last_kind Exit events ≡ k → (events ≡ []) ⊎ ((ys : List Event) × (y : Event) × (events ≡ ys ++ y ∷ [])) → last_kind Exit events ≡ Exit
    cases Exit f v = f
    cases Enter f (inl none) = ap (last_kind Exit) none
    cases Enter f (inr p) =
        let opened = ap open_events p.2 ∙ open_events-enter p.0 p.1 (sym (last_kind-append Exit p.0 (p.1 ∷ [])) ∙ ap (last_kind Exit) (sym p.2) ∙ f) in
        let none = sym (length-map (open_events events) (λ (e : Event). e.name)) ∙ ap length (m.names ∙ e) in
        absurd (omega (arith, none, ap length opened, length_push (open_events p.0) p.1))

pub none-by : (items : List KeptChoice) (n : ℕ) (b : Bool) → b ≡ (n == 0) → b ≡ true → n ≡ length items → items ≡ []
none-by [] n b e f g = refl
none-by (x ∷ xs) n b e f g = let z = eqb-true n 0 (sym e ∙ f) in absurd (omega (arith, z, g))

-- with no choice the reading has ended
pub takes-ended : {M R D : Type 0} (flush : Bool) (q : TokenizerValue M R D) (ok : Bool) (answer : State) → q.choices ≡ [] → answer ≡ answer_of ok
    → let s = settled_all q.configuration q.choices (answer_of ok) in TakesUp flush (settled_to q s) q s.answer (result.Err answer)
takes-ended flush q true answer e f = rw e (refl, f)
takes-ended flush q false answer e f = rw e (refl, f)

-- Choices of a tokenizer that ended, and what the code kept of its events and its stack.
pub record IsUnwound {M R D : Type 0} (t : Inside M R D) (ok : Bool) (kept_choices : Vec KeptChoice) (continuation : GoesOn) (from : Progress) (events : Vec Event) (stack : Vec Name) (plain_until : ℕ) : Type 0 where
  pub some : 0 < length t.kept_choices.items
  pub ends : unwinding (reverse kept_choices.items) continuation from ≡ unwound (reverse t.kept_choices.items) (ended_by ok) (progress_of t)
  pub cut : events.items ≡ take from.events_len t.events.items
  pub top : stack.items ≡ take from.stack_len t.stack.items
  pub near : IsPlainUntil t.skips from.after_previous t.end.0 plain_until

-- what choices saved is no more than there is
pub kept-within : {M R D : Type 0} {same : R → R → Bool} (t : Inside M R D) → IsSound same t → AreWithin t.events.items t.stack.items (reverse t.kept_choices.items)
kept-within t sound = nested-map (Saves t) (λ p. Unit {0}) (length t.events.items) (length t.stack.items) (reverse t.kept_choices.items) (λ p a b k. tt) sound.kept_choices

-- from what the calls of the code return
pub unwound-by : {M R D : Type 0} (t : Inside M R D) (ok : Bool) (kept_choices : Vec KeptChoice) (continuation : GoesOn) (after_previous : Point) (previous : Option ℕ) (ended : Bool) (events : Vec Event) (stack : Vec Name) (plain_until choices_len : ℕ) (none : Bool)
    → none ≡ (choices_len == 0) → none ≡ false → choices_len ≡ length t.kept_choices.items
    → let from = progress_at after_previous previous ended events.items stack.items in
    unwinding (reverse kept_choices.items) continuation from ≡ unwound (reverse t.kept_choices.items) (ended_by ok) (progress_of t)
    → events.items ≡ take from.events_len t.events.items → stack.items ≡ take from.stack_len t.stack.items → IsPlainUntil t.skips after_previous t.end.0 plain_until → IsUnwound t ok kept_choices continuation from events stack plain_until
unwound-by t ok kept_choices continuation after_previous previous ended events stack plain_until choices_len none is some count ends cut top near =
    let nonzero = is-not choices_len 0 (sym is ∙ some) in record { some = omega (arith, nonzero, count); ends = ends; cut = cut; top = top; near = near }

-- a tokenizer whose choices end
module _ {M R D : Type 0} {same : R → R → Bool} (t : Inside M R D) (sound : IsSound same t) {ok : Bool} {kept_choices : Vec KeptChoice} {continuation : GoesOn} {from : Progress} {events : Vec Event} {stack : Vec Name} {plain_until : ℕ}
    (h : IsUnwound t ok kept_choices continuation from events stack plain_until) where
  abbrev position_there : ℕ
  position_there = position_within t from.after_previous

  goes-from : GoesFrom (Saves t) (progress_of t) (reverse kept_choices.items) from
  goes-from = subst (λ (u : Unwinding). GoesFrom (Saves t) (progress_of t) u.kept_choices u.from) (sym h.ends) (from-all (Saves t) (reverse t.kept_choices.items) (ended_by ok) (progress_of t) (saves-here t sound) sound.kept_choices)

  abbrev step_there : Step R D
  step_there = step_of (position_within t) t.events.items t.stack.items (seen t).configuration.local (unwinding (reverse kept_choices.items) continuation from)

  -- what the definition comes to
  settled-is : settled_all (seen t).configuration (seen t).choices (answer_of ok) ≡ step_there
  settled-is =
      let local = (seen t).configuration.local in
      let here : unfed (seen t).configuration ≡ at_from (position_within t) t.events.items t.stack.items local (progress_of t) = rw (take-length t.events.items, take-length t.stack.items) refl in
      let ended : answer_of ok ≡ state_of (ended_by ok) = elim ok as (λ (b : Bool). answer_of b ≡ state_of (ended_by b)) [ true ↦ refl | false ↦ refl ] in
      some-unfed (seen t).choices ok (seen t).configuration
      (λ e. omega (arith, h.some, ap length e, length-map (reverse t.kept_choices.items) (choice_of (position_within t) t.stack.items), length-reverse t.kept_choices.items))
      ∙ ap (λ (k : Configuration R D). settled_all k (seen t).choices (answer_of ok)) here
      ∙ ap (settled_all (at_from (position_within t) t.events.items t.stack.items local (progress_of t)) (seen t).choices) ended
      ∙ settled-unwound (position_within t) t.events.items t.stack.items local (Saves t) (reverse t.kept_choices.items) (ended_by ok) (progress_of t) (saves-here t sound) sound.kept_choices
      ∙ ap (step_of (position_within t) t.events.items t.stack.items local) (sym h.ends)

  front-stack : (n : ℕ) → n ≤ from.stack_len → take n stack.items ≡ take n t.stack.items
  front-stack n le = rw h.top (take-take n from.stack_len t.stack.items le)

  reach-is : (b : Bool) → can_feed position_there (size_within t) t.closed ≡ b → t.phase ≡ Reading → MadeUpto t events.items stack.items from.after_previous (reach t.skips from.after_previous b)
  reach-is b e = let cut = h.cut in let top = h.top in subst (λ (c : Bool). t.phase ≡ Reading → MadeUpto t events.items stack.items from.after_previous (reach t.skips from.after_previous c)) e (rw (cut, top) goes-from.0.made)

  abbrev NextThere : Option ℕ → Type 0
  NextThere o = IsNextByte (tab_within t) (bytes_within t) (resumed t.skips from.after_previous) t.end o

  -- where the code looks for the next byte
  pub next-there : (slice : List Point) (place : Point) (o : Option ℕ) → slice ≡ t.skips → place ≡ resumed slice from.after_previous → ((tab : ℕ) → 0 < tab → IsNextByte tab (bytes_within t) place t.end o) → NextThere o
  next-there slice place o e f next = subst (λ (p : Point). IsNextByte (tab_within t) (bytes_within t) p t.end o) (f ∙ ap (λ (xs : List Point). resumed xs from.after_previous) e) (next (tab_within t) (wide_of t sound))

  pub within-there : (slice : List Point) (place : Point) → slice ≡ t.skips → place ≡ resumed slice from.after_previous → 0 < place.vs → place.index < length (bytes_within t)
  within-there slice place e f = subst (λ (p : Point). 0 < p.vs → p.index < length (bytes_within t)) (sym (f ∙ ap (λ (xs : List Point). resumed xs from.after_previous) e))
      (looks t sound goes-from.0.read).place.bounds.tab

  byte-left : (byte : ℕ) → NextThere (Some byte) → position_there < size_within t
  byte-left byte n = next-more t sound goes-from.0.read n.0 n.1 (before-end t sound n.0.point ∙ n.2)

  none-left : NextThere None → size_within t ≤ position_there
  none-left (inl e) = next-none-left t sound goes-from.0.read e
  none-left (inr m) = next-past t sound goes-from.0.read m.0 m.1 (before-end t sound m.0.point ∙ m.2)

  -- the fields once the choices have ended
  abbrev after : Waits → Bool → ℕ → Moves → Inside M R D
  after waits ended byte moves = record t { kept_choices = kept_choices; after_previous = from.after_previous; previous = from.previous; events = events; stack = stack; waits = waits; ended = ended; byte = byte; plain_until = plain_until; moves = moves }

  abbrev KnownThere : Waits → Moves → Type 0
  KnownThere = NextByteIsKnown t.bytes.now (tab_within t) (bytes_within t) t.skips from.after_previous t.end.0 plain_until

  unknown : (waits : Waits) → KnownThere waits Other
  unknown = known-other t.skips from.after_previous t.end.0 t.bytes.now (tab_within t) (bytes_within t) sound.known.own_bytes plain_until h.near

  sound-by : (waits : Waits) (ended : Bool) (byte : ℕ) (moves : Moves) → KnownThere waits moves → IsWhatWaits (tab_within t) (bytes_within t) t.skips (text_within t) from.after_previous byte t.closed waits → (ended ≡ true → t.closed ≡ true)
      → (t.phase ≡ Reading → MadeUpto t events.items stack.items from.after_previous (standing t.skips from.after_previous waits)) → IsSound same (after waits ended byte moves)
  sound-by waits ended byte moves known w e m = record {
    placed = placed-there sound.placed goes-from.0.read w e sound.placed.reads;
    made = m;
    at_places = λ reads. let cut = h.cut in rw cut (All-take (λ e. IsPointOf (tab_within t) (bytes_within t) e.point) from.events_len t.events.items (sound.at_places reads));
    kept_choices = same-front t from.events_len from.stack_len events.items stack.items (reverse kept_choices.items)
        (omega (arith, goes-from.2.0, ap length h.cut, length-take from.events_len t.events.items))
        (omega (arith, goes-from.2.1, ap length h.top, length-take from.stack_len t.stack.items))
        (λ n le. let cut = h.cut in rw cut (take-take n from.events_len t.events.items le)) front-stack goes-from.1;
    once = sound.once;
    known = known;
  }

  -- a byte
  sound-at : (byte : ℕ) (moves : Moves) → KnownThere Byte moves → NextThere (Some byte) → IsSound same (after Byte from.ended byte moves)
  sound-at byte moves known n = sound-by Byte from.ended byte moves known (record { seat = n.0; at = n.1; before = before-end t sound n.0.point ∙ n.2; is = sym n.3 }) goes-from.0.ended
      (reach-is true (or_left _ t.closed (lt-ltb position_there (size_within t) (byte-left byte n))))

  pub byte-sound : (byte : ℕ) → NextThere (Some byte) → IsSound same (after Byte from.ended byte Other)
  byte-sound byte n = sound-at byte Other (unknown Byte) n

  -- a byte that is told by the one at its index
  pub quick-place : IsPlace t.tab_size t.bytes.now from.after_previous
  quick-place = let tab = sound.placed.tab in let own = sound.known.own_bytes in rw (tab, own) goes-from.0.read.place

  module _ (byte : ℕ) (moves : Moves) (q : IsQuick t.tab_size t.bytes.now from.after_previous plain_until t.end.0 byte moves) where
    quick-in : IsQuick (tab_within t) (bytes_within t) from.after_previous plain_until t.end.0 byte moves
    quick-in = subst (λ (n : ℕ). IsQuick n (bytes_within t) from.after_previous plain_until t.end.0 byte moves) sound.placed.tab
        (subst (λ (b : List ℕ). IsQuick t.tab_size b from.after_previous plain_until t.end.0 byte moves) sound.known.own_bytes q)

    quick-is-there : resumed t.skips from.after_previous ≡ from.after_previous
    quick-is-there = elim quick-in.there [ inl k ↦ h.near.there k | inr k ↦ resumed-in-line t.skips from.after_previous k ]

    pub quick-next : NextThere (Some byte)
    quick-next =
        let e = quick-in.here in let f = lt-ltb from.after_previous.index t.end.0 quick-in.before in
        (quick-in.seat, subst (λ (p : Point). IsSeatAt (tab_within t) (bytes_within t) p quick-in.seat) (sym quick-is-there) quick-in.at, rw (e, f) refl, quick-in.is)

    pub quick-sound : IsSound same (after Byte from.ended byte moves)
    quick-sound = sound-at byte moves (record { own_bytes = sound.known.own_bytes; is_plain_until = h.near; there = λ w o. quick-is-there; over = λ w o. quick-in.over }) quick-next

  -- the end
  pub end-sound : NextThere None → t.closed ≡ true → IsSound same (after End true t.byte Other)
  end-sound n closed = sound-by End true t.byte Other (unknown End) (record { closed_too = closed; all = none-left n }) (λ _. closed) (reach-is true (or_right _ t.closed closed))

  -- nothing
  pub none-sound : NextThere None → t.closed ≡ false → IsSound same (after Nothing from.ended t.byte Other)
  none-sound n still = sound-by Nothing from.ended t.byte Other (unknown Nothing) tt goes-from.0.ended (reach-is false (or_from _ t.closed (le-ltb position_there (size_within t) (none-left n)) still))

  -- the reading has ended
  pub ended-sound : stack.items ≡ [] → IsSound same (after Nothing from.ended t.byte Other)
  ended-sound e = sound-by Nothing from.ended t.byte Other (unknown Nothing) tt goes-from.0.ended
      (λ reads. made-closed (bytes_within t) events.items stack.items (shown (bytes_within t) from.after_previous) (shown (bytes_within t) (reach t.skips from.after_previous (can_feed position_there (size_within t) t.closed))) (reach-is _ refl reads) e)

  abbrev waiting_there : Waits → Bool → TokenizerValue M R D
  waiting_there waits ended = record (seen t) { configuration = record step_there.configuration { waiting = waits; ended = ended }; choices = step_there.choices }

  seen-there : (waits : Waits) (ended : Bool) (byte : ℕ) (moves : Moves) → seen (after waits ended byte moves) ≡ waiting_there waits ended
  seen-there waits ended byte moves =
      let choices = same-choices (position_within t) (position_within t) stack.items t.stack.items (Saves t) from.events_len from.stack_len (reverse kept_choices.items)
      (λ p le saved. rw (front-stack p.stack_len le) refl) goes-from.1 in
      rw (choices, h.cut, h.top) refl

  -- no span is open where the reading has ended
  pub closes : EndsClosed (settled_all (seen t).configuration (seen t).choices (answer_of ok)) → (continuation ≡ goes_on.Ok) ⊎ (continuation ≡ goes_on.Nok) → stack.items ≡ []
  closes closed o =
      let answered : IsSome (answer_in (state_of continuation)) = elim o [ inl e ↦ rw e refl | inr e ↦ rw e refl ] in
      h.top ∙ subst EndsClosed settled-is closed answered

  module _ (flush : Bool) where
    abbrev TakesThere : TokenizerValue M R D → Result StateName State → Type 0
    TakesThere new answer = let s = settled_all (seen t).configuration (seen t).choices (answer_of ok) in TakesUp flush (settled_to (seen t) s) new s.answer answer

    by-step : (new : TokenizerValue M R D) (answer : Result StateName State) → TakesUp flush (settled_to (seen t) step_there) new (state_of continuation) answer → TakesThere new answer
    by-step new answer takes = subst (λ (s : Step R D). TakesUp flush (settled_to (seen t) s) new s.answer answer) (sym settled-is) takes

    -- what waits, and for which state
    pub takes-byte : (name : StateName) (byte : ℕ) (moves : Moves) → continuation ≡ goes_on.Next name → NextThere (Some byte) → TakesThere (seen (after Byte from.ended byte moves)) (result.Ok name)
    takes-byte name byte moves e n =
        let lt = byte-left byte n in
        by-step _ _ (rw e (refl, rw (lt-ltb position_there (size_within t) lt) (seen-there Byte from.ended byte moves), λ f. lt))

    pub takes-end : (name : StateName) → continuation ≡ goes_on.Next name → flush ≡ true → NextThere None → TakesThere (seen (after End true t.byte Other)) (result.Ok name)
    takes-end name e f n =
        by-step _ _ (rw e (refl, rw (le-ltb position_there (size_within t) (none-left n)) (seen-there End true t.byte Other), λ g. absurd (let c : true ≡ false = sym f ∙ g in cc)))

    pub takes-none : (name : StateName) → continuation ≡ goes_on.Next name → flush ≡ false → NextThere None → TakesThere (seen (after Nothing from.ended t.byte Other)) (result.Err (Next name))
    takes-none name e f n = by-step _ _ (rw e (seen-there Nothing from.ended t.byte Other, refl, f, none-left n))

    pub takes-ok : continuation ≡ goes_on.Ok → TakesThere (seen (after Nothing from.ended t.byte Other)) (result.Err Ok)
    takes-ok e = by-step _ _ (rw e (seen-there Nothing from.ended t.byte Other, refl))

    pub takes-nok : continuation ≡ goes_on.Nok → TakesThere (seen (after Nothing from.ended t.byte Other)) (result.Err Nok)
    takes-nok e = by-step _ _ (rw e (seen-there Nothing from.ended t.byte Other, refl))
