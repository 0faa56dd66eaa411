-- The invariant of a table: if it holds before a call, it holds at the state returned, once that is fed, when a choice ends, and when the
-- text goes on.
use Rattle.mdconstructs_tables.proofs.Prelude.{◌≡◌, ◌≢◌, ℕ, zero, suc, ◌≤◌, ◌&&◌, ◌||◌, not, List, [], ◌∷◌, ◌++◌, Bool, true, false, Option, Some, None, length, get_or, map, refl, sym, ap, ◌∙◌, subst, arith, ◌⊎◌, inl, inr, take, drop, All, IfSome, nat_lt, last_or, ltb-true, ltb-false, and_from, and_parts, not-true, append-nil, take-append-drop, take-map, slice_get_past, All-nil, All-tail, Point, Name, State, Next, Retry, Ok, Nok, Error, unlinked, stands_before, or-leads, Waits, Nothing, Byte, End, AttemptKind, Attempt, Check, Given, Text, IsText, empty_text, Configuration, Local, Choice, Saved, start_configuration, is_noted_before, noted_if, place_of, IsNotedBefore, ArePlaces, KnowsNoted, WhereNoted, Sight, sight, sight_in, current_of, seat_before, byte_of, consumed, with_local, fed, unfed, restored, settled_at, IsAsFar, begins-before_end, began-before_next, ends-before_next, upto-before, Row, Begun, before, at_byte, here, Called, anywhere, at_a_byte, at_bytes, at_bytes_or_end, Needs, nothing, a_choice_for_ok, StateRows, Table, class_of, does, chooses, row_at, named, is_void_last, same_names, saves, Stage, end_waits, byte_waits, byte_read, Shape, Frame, after_all, is_at, is_end, is_fresh, is_fresh_fed, fresh_at, fresh_fed, needs_choice, needs_failing, is_called_at, is_some, may_go_on, may_go_on_there, may_go_back, goes_on_fresh, is_fresh_byte, fits_choice, fits_answer, fits_calls, start_shape, first_stage, is_bare, may_start, outline, EndsWithEnter, Began, upto, since, before_next, began_there, began_in, began_unfed, IsOpen, SightIsInOrder, IsFed, exit_place_at, class_in, is_read, AnyWait, GoesBack, AnyGoesBack, MayEnd, IsSavedIn, IsSaved, position_of, events_saved, IsBelow, AreWaiting, began_at, IsStateAt, HoldsAt, EventName}
use Rattle.mdconstructs_tables.proofs.Rows.Laws.{same_names-true, Waited, reached, IsSeenAhead, sight_at, HasShape, HasNoted, noted-there, left-since, to-upto, began-on, left-at, of-noted, where-noted}
use Rattle.std.proofs.lemmas.Bool.{or_right}
use Rattle.std.proofs.Math.Bool.{or-false}
use Rattle.mdconstructs_tables.proofs.GrowingTexts.{seat-at, Extends, sight-kept, waits-longer}
use Rattle.markdown_tokenizer.proofs.Runs.Noted.{bytes-have-places}
use Rattle.mdconstructs_tables.proofs.Tables.Waiting.{more-waiting, all-below, place-kept, class-kept, next-kept, waiting-longer}

-- Where spans may have begun
upto-fits : (fresh on any : Bool) (place q : Point) → (not fresh || on) ≡ true → upto (fresh || any) place q ≡ true → upto (on || any) place q ≡ true
upto-fits true true any place q fit h = h
upto-fits true false any place q fit h = absurd (cc)
upto-fits false true any place q fit h = to-upto any place q h
upto-fits false false any place q fit h = h

since-fits : (fresh on : Bool) (stage : Stage) (s : Sight) (any : Bool) (q : Point) → (since false stage s any q ≡ true → since true stage s any q ≡ true) → (not fresh || on) ≡ true → since fresh stage s any q ≡ true
    → since on stage s any q ≡ true
since-fits true false stage s any q later fit h = absurd (cc)
since-fits false true stage s any q later fit h = later h
since-fits fresh on stage s any q later fit h = h

-- what was before the byte that waits, or where the previous one ended, was before its end
soon-or-later : (s : Sight) (any : Bool) (q : Point) → (stands_before q s.exit_place ≡ true → stands_before q s.next ≡ true) → (stands_before s.exit_place q ≡ false → stands_before q s.next ≡ true)
    → upto any s.exit_place q ≡ true → stands_before q s.next ≡ true
soon-or-later s true q later soon h = soon (not-true (stands_before s.exit_place q) h)
soon-or-later s false q later soon h = later h

-- more is needed once a byte was read
needs-more : (n : Needs) (read : Bool) → (needs_choice n read ≡ true → needs_choice n true ≡ true) × (needs_failing n read ≡ true → needs_failing n true ≡ true)
needs-more nothing read = ((λ h. absurd (cc)), (λ h. absurd (cc)))
needs-more a_choice_for_ok read = ((λ h. refl), (λ h. absurd (cc)))
needs-more n read = ((λ h. refl), (λ h. refl))

-- a choice that may end with Nok is one
needs-one : (n : Needs) (read : Bool) → needs_failing n read ≡ true → needs_choice n read ≡ true
needs-one a_choice_for_ok read h = refl
needs-one n read h = h

-- what may wait may wait if the end was fed
pub called-fed : {W : Type 0} (called : Called W) (ended : Bool) (w : Option W) → is_called_at called ended w ≡ true → is_called_at called true w ≡ true
called-fed (at_bytes_or_end test) ended None h = refl
called-fed called ended w h = h

module _ {W R D : Type 0} (table : Table W R D) (g : Given) where
  abbrev pub of_class : Text → Configuration R D → Option W
  of_class text k = class_of table.class (sight g text k).current

  abbrev pub before_class : Text → Configuration R D → Option W
  before_class text k = class_of table.class (sight g text k).previous

  pub met-at : (text : Text) (k : Configuration R D) (w : Waits) → k.waiting ≡ w → IsFed w k.position k.ended text → Waited (first_stage (class_of table.class (current_of text k.position w))) text k
  met-at text k Nothing e h = absurd h
  met-at text k Byte e h = let (s, is) = seat-at text k.position h in rw is (e, h)
  met-at text k End e h = h

  -- there is a byte before if one was read
  pub read-before : (text : Text) (p : ℕ) → p ≤ length text.seats → is_some (class_of table.class (byte_of (seat_before text p))) ≡ is_read p
  read-before text zero h = refl
  read-before text (suc q) h = let (s, is) = seat-at text q (omega arith) in rw is refl

  -- what a state knows of the place that was noted
  abbrev pub Notes : Text → (now : Point) → Configuration R D → Type 0
  Notes text now k = IsNotedBefore g text now k × ArePlaces g k.local.noted

  -- it stays known if other fields are written
  pub noted-kept : (text : Text) (k : Configuration R D) (local : Local R D) → local.noted ≡ k.local.noted → Notes text (exit_place_at g text k.position) k → Notes text (exit_place_at g text k.position) (with_local k local)
  noted-kept text k local same (h, places) = (
    record {
      position = h.position;
      read = h.read;
      at = record { is = same ∙ h.at.is; began = subst (λ n. Began (λ any. upto any n.exit) (outline k)) (sym same) h.at.began };
      exit_before = subst (λ n. stands_before n.exit (exit_place_at g text k.position) ≡ true) (sym same) h.exit_before;
      enter_before = subst (λ n. stands_before n.enter (exit_place_at g text k.position) ≡ true) (sym same) h.enter_before;
    },
    subst (ArePlaces g) (sym same) places,
  )

  noted-first : (noted : Bool) (text : Text) (k : Configuration R D) (local : Local R D) → local.noted ≡ k.local.noted
      → WhereNoted noted (Notes text (exit_place_at g text k.position) k) → HasNoted (noted_if noted) g text (sight g text k) (with_local k local)
  noted-first false text k local same knows = tt
  noted-first true text k local same knows = (noted-kept text k local same knows).0

  -- or if the text goes on, and something waits

  pub noted-fed : (text : Text) (now : Point) (k : Configuration R D) (waits : Waits) (ended : Bool) → Notes text now k
      → Notes text now (record { position = k.position; waiting = waits; ended = ended; events = k.events; stack = k.stack; local = k.local })
  noted-fed text now k waits ended (h, places) =
      (record { position = h.position; read = h.read; at = record { is = h.at.is; began = h.at.began }; exit_before = h.exit_before; enter_before = h.enter_before }, places)

  noted-longer : (text more : Text) (k : Configuration R D) → Extends text more → k.position ≤ length text.seats → Notes text (exit_place_at g text k.position) k → Notes more (exit_place_at g more k.position) k
  noted-longer text more k e inside (h, places) =
      let same = ap place_of (sym (sight-kept g text more h.position e (omega (arith, h.read, inside)))) in
      let now = sym (place-kept table.class table.states g text more e k.position inside) in (
        record {
          position = h.position;
          read = h.read;
          at = record { is = h.at.is ∙ same; began = h.at.began };
          exit_before = subst (λ q. stands_before k.local.noted.exit q ≡ true) now h.exit_before;
          enter_before = subst (λ q. stands_before k.local.noted.enter q ≡ true) now h.enter_before;
        },
        places,
      )

  -- a call begins with the shape of its state
  pub begins : (b w : Option W) (text : Text) (k : Configuration R D) (local : Local R D) (base : List EventName) (choices : List Choice) (state : StateRows W R D) → is_some b ≡ is_read k.position
      → Waited (first_stage w) text k → local.noted ≡ k.local.noted → KnowsNoted g text state k → IsOpen table.class state base (began_at w state (sight g text k)) text k choices → HasShape (start_shape b w state) base (sight g text k) g text k (with_local k local) choices
  begins b None text k local base choices state read met same knows o =
      record { stack = o.stack; began = o.began; bare = o.void; reads = ((refl, refl, refl), met); waits = (o.below, ((λ is. o.needs.0 (ap (needs_choice state.needs) (sym read) ∙ is)), (λ is. o.needs.1 (ap (needs_failing state.needs) (sym read) ∙ is)))); noted = noted-first state.noted text k local same knows }
  begins b (Some w) text k local base choices state read met same knows o =
      record { stack = o.stack; began = o.began; bare = o.void; reads = ((refl, refl, refl), met); waits = (o.below, ((λ is. o.needs.0 (ap (needs_choice state.needs) (sym read) ∙ is)), (λ is. o.needs.1 (ap (needs_failing state.needs) (sym read) ∙ is)))); noted = noted-first state.noted text k local same knows }

  pub ahead-at : (w : Option W) (text : Text) (k : Configuration R D) → Waited (first_stage w) text k → SightIsInOrder k.waiting (sight g text k) → IsSeenAhead (first_stage w) (sight g text k)
  ahead-at None text k met order = record { begins = λ e any. absurd (cc); later = λ any q h. to-upto any (sight g text k).exit_place q h }
  ahead-at (Some w) text k met order =
      record { begins = λ e any. order.begins met.0; later = λ any q h. soon-or-later (sight g text k) any q (order.later met.0 q) (order.soon met.0 q) h }

  pub start-sight : (w : Option W) (s : Sight) → s ≡ sight_at (first_stage w) s
  start-sight None s = refl
  start-sight (Some w) s = refl

  -- if as much was read and the same waits, the same is seen
  pub stays : (text : Text) (k k' : Configuration R D) → IsAsFar k' k → sight g text k' ≡ sight g text k
  stays text k k' far = rw (far.0, far.1) refl

  -- what is known of what waits is next in the text
  abbrev IsNext : Text → ℕ → Option W → Type 0
  IsNext text p waits = (w : W) → waits ≡ Some w → class_in table.class text p ≡ Some w

  -- if the end is known to wait, it was fed, and no byte is next in the text
  abbrev IsEnd : Text → Configuration R D → (ended : Bool) → Option W → Type 0
  IsEnd text k ended waits = waits ≡ None → ended ≡ true → (k.ended ≡ true) × (class_in table.class text k.position ≡ None)

  -- a state that may be called where that waits may be called there
  called-more : (called : Called W) (ended later : Bool) (waits there : Option W) → ((w : W) → waits ≡ Some w → there ≡ Some w) → (waits ≡ None → ended ≡ true → (later ≡ true) × (there ≡ None))
      → is_called_at called ended waits ≡ true → is_called_at called later there ≡ true
  called-more anywhere ended later waits there same end h = refl
  called-more at_a_byte ended later (Some w) there same end h = rw (same w refl) refl
  called-more (at_bytes test) ended later (Some w) there same end h = rw (same w refl) h
  called-more (at_bytes_or_end test) ended later (Some w) there same end h = rw (same w refl) h
  called-more (at_bytes_or_end test) ended later None there same end h = let (fed, none) = end refl h in rw (none, fed) refl
  called-more called ended later None there same end h = absurd (cc)

  -- if something waits, it is what is next in the text
  pub waits-at : (w : Waits) (text : Text) (p : ℕ) (ended : Bool) → IsFed w p ended text → class_in table.class text p ≡ class_of table.class (current_of text p w)
  waits-at Nothing text p ended h = absurd h
  waits-at Byte text p ended h = refl
  waits-at End text p ended h = let none = slice_get_past text.seats p h.1 in rw none refl

  -- if the test says that spans, choices and what waits fit a state, they do
  at-state : (spans : List EventName) (within failing noted ended : Bool) (waits : Option W) (read : Bool) (o : Option (StateRows W R D)) (where_to : StateRows W R D → Bool → Point → Bool) (text : Text) (k : Configuration R D) (base : List EventName)
      (choices : List Choice) → is_at table.states spans within failing noted ended waits read o ≡ true → k.stack ≡ base ++ spans → ((state : StateRows W R D) → o ≡ Some state → Began (where_to state) (outline k))
      → (is_void_last (last_or None spans) ≡ true → EndsWithEnter (outline k)) → AreWaiting table.class table.states g text k.position (outline k) base choices → MayEnd within failing choices
      → ((n : Needs) → (needs_choice n (is_read k.position) ≡ true → needs_choice n read ≡ true) × (needs_failing n (is_read k.position) ≡ true → needs_failing n read ≡ true)) → IsNext text k.position waits → IsEnd text k ended waits → (noted ≡ true → Notes text (exit_place_at g text k.position) k) → IsStateAt table g text o where_to k choices
  at-state spans within failing noted ended waits read None where_to text k base choices is stack began void waiting any reads byte end notes = absurd (cc)
  at-state spans within failing noted ended waits read (Some state) where_to text k base choices is stack began void waiting any reads byte end notes =
      let (names, rest) = and_parts _ _ is in
      let (needs, others) = and_parts _ _ rest in
      let (fails, more) = and_parts _ _ others in
      let (bytes, knows) = and_parts _ _ more in
      let same = same_names-true spans state.spans names in
      record {
        base = base;
        spans = record {
          stack = stack ∙ ap (λ xs. base ++ xs) same;
          began = began state refl;
          void = λ v. void (ap (λ xs. is_void_last (last_or None xs)) same ∙ v);
          below = all-below table.class table.states g text choices base k.position (outline k) waiting;
          needs = ((λ n. any.0 (or-leads _ within needs ((reads state.needs).0 n))), (λ n. any.1 (or-leads _ failing fails ((reads state.needs).1 n))));
          called = called-more state.called ended k.ended waits (class_in table.class text k.position) byte end bytes;
        };
        noted = where-noted state.noted (λ n. notes (or-leads state.noted noted knows n));
        waiting = waiting;
      }

  -- the row of a call, what a state leaves, and what is open then
  abbrev pub row_of : Text → Configuration R D → StateRows W R D → Row R D
  row_of text k state = row_at table.class state g (sight g text k) (with_local k (table.first k.local))

  abbrev pub left_by : Text → Configuration R D → StateRows W R D → Configuration R D
  left_by text k state = does (row_of text k state).acts (sight g text k) (with_local k (table.first k.local))

  abbrev pub chosen_by : Text → Configuration R D → List Choice → StateRows W R D → List Choice
  chosen_by text k choices state = chooses (row_of text k state).acts (sight g text k) (with_local k (table.first k.local)) choices

  abbrev pub shape_of : Text → Configuration R D → StateRows W R D → Shape
  shape_of text k state = after_all (row_of text k state).acts (start_shape (before_class text k) (of_class text k) state)

  -- A call runs a state of the table, its row fits, and its acts leave the shape after them
  pub record IsCall (text : Text) (k : Configuration R D) (choices : List Choice) (name : Name) : Type 0 where
    pub state : StateRows W R D
    pub is : named table.states name ≡ Some state
    pub base : List EventName
    pub above : List EventName
    pub stack : k.stack ≡ base ++ state.spans
    pub waiting : AreWaiting table.class table.states g text k.position (outline k) base choices
    pub fits_it : let p = shape_of text k state in fits_answer table.states p.stage (before_class text k) (of_class text k) p (row_of text k state).answer ≡ true
    pub fits_calls_too : fits_calls table.states (before_class text k) (of_class text k) state state.cost ≡ true
    pub called : is_called_at state.called true (of_class text k) ≡ true
    pub met : Waited (first_stage (of_class text k)) text k
    pub shape : let p = shape_of text k state in HasShape p above (sight_at p.stage (sight g text k)) g text k (left_by text k state) (chosen_by text k choices state)
    pub wait_on : AreWaiting table.class table.states g text (left_by text k state).position (outline (left_by text k state)) above (chosen_by text k choices state)

  pub once : (st : Stage) (b w : Option W) (p : Shape) (a : State) (text : Text) (k k' : Configuration R D) → fits_answer table.states st b w p a ≡ true → IsAsFar k' (reached st k) → Waited st text k
      → (IsAsFar k' k × ((n : Name) → a ≢ Next n)) ⊎ ((k.waiting ≡ Byte) × IsAsFar k' (consumed k) × ((n : Name) → a ≢ Retry n))
  once byte_read b w p (Retry name) text k k' fit far waited = absurd (cc)
  once byte_read b w p a text k k' fit far waited = inr (waited.0, far, λ n e. cc)
  once byte_waits b None p (Retry name) text k k' fit far waited = absurd (cc)
  once end_waits b (Some w) p (Retry name) text k k' fit far waited = absurd (cc)
  once st b w p (Next name) text k k' fit far waited = absurd (cc)
  once st b w p a text k k' fit far waited = inl (far, λ n e. cc)

  pub inside-at : (st : Stage) (text : Text) (k k' : Configuration R D) → IsAsFar k' (reached st k) → Waited st text k → k.position ≤ length text.seats → k'.position ≤ length text.seats
  inside-at byte_read text k k' far waited inside = omega (arith, far.0, waited.1)
  inside-at st text k k' far waited inside = omega (arith, far.0)

  ended-at : (st : Stage) (text : Text) (k k' : Configuration R D) → IsAsFar k' (reached st k) → Waited st text k → is_end st ≡ true → k'.ended ≡ true
  ended-at end_waits text k k' far waited e = far.2 ∙ waited.0
  ended-at st text k k' far waited e = absurd (cc)

  any-or-ended : (within end : Bool) (choices : List Choice) (ended : Bool) → (within || end) ≡ true → (within ≡ true → AnyWait choices) → (end ≡ true → ended ≡ true) → AnyWait choices ⊎ (ended ≡ true)
  any-or-ended true end choices ended h any at = inl (any refl)
  any-or-ended false end choices ended h any at = inr (at h)

  -- what is known of the place that was noted, at the end of a call
  noted-on : (p : Shape) (text : Text) (k k' : Configuration R D) → IsText g text → k'.position ≤ length text.seats → IsAsFar k' (reached p.stage k) → Waited p.stage text k
      → HasNoted p.noted g text (sight_at p.stage (sight g text k)) k' → is_noted_before p.noted ≡ true → Notes text (exit_place_at g text k'.position) k'
  noted-on p text k k' is inside far waited h noted =
      let s = sight_at p.stage (sight g text k) in
      let before = noted-there p.noted g text s k' noted h in
      let left : s.exit_place ≡ exit_place_at g text k'.position = sym (left-at g text k p.stage k' far waited) in (
        subst (λ q. IsNotedBefore g text q k') left before,
        subst (ArePlaces g) (sym before.at.is) (bytes-have-places g text before.position is (omega (arith, before.read, inside))).0,
      )

  -- a state goes on with what waits
  retried : (b w : Option W) (ended : Bool) (p : Shape) (above : List EventName) (name : Name) (text : Text) (k k' : Configuration R D) (choices : List Choice) → is_some b ≡ is_read k.position
      → IsFed k.waiting k.position k.ended text → SightIsInOrder k.waiting (sight g text k) → of_class text k ≡ w → IsSeenAhead (first_stage w) (sight g text k) → IsAsFar k' k
      → (is_bare p && (is_at table.states p.spans p.within p.failing (is_noted_before p.noted) ended w (is_some b) (named table.states name) && (not p.fresh || is_fresh table.states w (named table.states name)))) ≡ true
      → Began (since p.fresh (first_stage w) (sight g text k)) (outline k') → HasShape p above (sight_at p.stage (sight g text k)) g text k k' choices
      → AreWaiting table.class table.states g text k'.position (outline k') above choices → IsNext text k'.position w → IsEnd text k' ended w
      → (is_noted_before p.noted ≡ true → Notes text (exit_place_at g text k'.position) k') → HoldsAt table g text k' choices (Retry name)
  retried b w ended p above name text k k' choices read waits order class ahead far fit began h waiting next end notes =
      let s = sight g text k in
      let o = named table.states name in
      let (bare, rest) = and_parts (is_bare p) _ fit in
      let (shaped, fresh) = and_parts _ _ rest in
      let there : (state : StateRows W R D) → o ≡ Some state → Began (began_at w state s) (outline k') = λ state e.
      let f : (not p.fresh || fresh_at state.begun w) ≡ true = subst (λ o. (not p.fresh || is_fresh table.states w o) ≡ true) e fresh in
      began-on (since p.fresh (first_stage w) s) (began_at w state s) (outline k') (λ any q. since-fits p.fresh (fresh_at state.begun w) (first_stage w) s any q (ahead.later any q) f) began in (
        rw (far.0, far.1, far.2) waits,
        rw (far.0, far.1) order,
        subst (λ s. IsStateAt table g text o (λ state. began_at (class_of table.class s.current) state s) k' choices) (sym (stays text k k' far))
            (subst (λ v. IsStateAt table g text o (λ state. began_at v state s) k' choices) (sym class)
            (at-state p.spans p.within p.failing (is_noted_before p.noted) ended w (is_some b) o (λ state. began_at w state s) text k' above choices shaped h.stack there
            (λ v. h.bare (or-leads (is_void_last (last_or None p.spans)) p.bare bare v)) waiting h.waits.1 (λ n. ((λ e. ap (needs_choice n) (read ∙ ap is_read (sym far.0)) ∙ e), (λ e. ap (needs_failing n) (read ∙ ap is_read (sym far.0)) ∙ e))) next end notes)),
      )

  -- where a state was to begin, or a byte that it names begins
  unfed-left : (state : StateRows W R D) (text : Text) (p : ℕ) (any : Bool) (q : Point) → upto (fresh_fed state.begun || any) (exit_place_at g text p) q ≡ true → began_unfed table.class g text p state any q ≡ true
  unfed-left state text p any q h = ap (λ t. t || (is_fresh_byte state.begun (class_in table.class text p) && before_next g text p q)) h

  -- the invariant holds for the state returned
  pub answered : (st : Stage) (b w : Option W) (p : Shape) (above : List EventName) (a : State) (text : Text) (k k' : Configuration R D) (choices : List Choice) → IsText g text → k'.position ≤ length text.seats → is_some b ≡ is_read k.position
      → IsFed k.waiting k.position k.ended text → SightIsInOrder k.waiting (sight g text k) → of_class text k ≡ w → Waited (first_stage w) text k
      → fits_answer table.states st b w p a ≡ true → p.stage ≡ st → HasShape p above (sight_at p.stage (sight g text k)) g text k k' choices
      → AreWaiting table.class table.states g text k'.position (outline k') above choices → HoldsAt table g text k' choices a
  answered st b w p above Ok text k k' choices is inside read waits order class met fit at h waiting =
      let (names, rest) = and_parts _ _ fit in
      let (old, ends) = and_parts (not p.fresh) (p.within || is_end st) rest in
      let none = same_names-true p.spans [] names in
      let left = left-at g text k p.stage k' h.reads.0 h.reads.1 in
      let s = sight_at p.stage (sight g text k) in
      record {
        base = above;
        stack = h.stack ∙ ap (λ xs. above ++ xs) none ∙ append-nil above;
        began = began-on (since p.fresh p.stage s) (λ any. upto any (sight g text k').exit_place) (outline k') (λ any q b. subst (λ x. upto any x q ≡ true) (sym left) (left-since p.fresh p.stage s any q old b)) h.began;
        waiting = waiting;
        ended = any-or-ended p.within (is_end st) choices k'.ended ends h.waits.1.0 (ended-at st text k k' (rw at at h.reads.0) (rw at at h.reads.1));
      }
  answered st b w p above Nok text k k' choices is inside read waits order class met fit at h waiting = record { base = above; waiting = waiting; any = h.waits.1.1 fit }
  answered st b w p above (Error message) text k k' choices is inside read waits order class met fit at h waiting = tt
  answered byte_read b w p above (Next name) text k k' choices is inside read waits order class met fit at h waiting =
      let far = rw at at h.reads.0 in
      let can = rw at at h.reads.1 in
      let s = sight g text k in
      let o = named table.states name in
      let (bare, rest) = and_parts (is_bare p) _ fit in
      let (shaped, fresh) = and_parts _ _ rest in
      let left = left-at g text k byte_read k' far can in
      let began : (state : StateRows W R D) → o ≡ Some state → Began (began_unfed table.class g text k'.position state) (outline k') = λ state e.
      let f : (not p.fresh || fresh_fed state.begun) ≡ true = subst (λ o. (not p.fresh || is_fresh_fed table.states o) ≡ true) e fresh in
      began-on (λ any. upto (p.fresh || any) s.next) (began_unfed table.class g text k'.position state) (outline k')
      (λ any q b. unfed-left state text k'.position any q (subst (λ x. upto (fresh_fed state.begun || any) x q ≡ true) (sym left) (upto-fits p.fresh (fresh_fed state.begun) any s.next q f b))) (rw at at h.began) in
      (far.1, at-state p.spans p.within p.failing (is_noted_before p.noted) false None true o (began_unfed table.class g text k'.position) text k' above choices shaped h.stack began (λ v. h.bare (or-leads (is_void_last (last_or None p.spans)) p.bare bare v)) waiting h.waits.1 (λ n. needs-more n (is_read k'.position)) (λ v e. absurd (cc)) (λ n e. absurd (cc)) (noted-on p text k k' is inside h.reads.0 h.reads.1 h.noted))
  answered byte_waits b (Some w) p above (Retry name) text k k' choices is inside read waits order class met fit at h waiting =
      retried b (Some w) false p above name text k k' choices read waits order class (ahead-at (Some w) text k met order) (rw at at h.reads.0) fit (rw at at h.began) h waiting
      (λ v e. ap (class_in table.class text) (rw at at h.reads.0).0 ∙ subst (λ x. class_of table.class (current_of text k.position x) ≡ Some w) met.0 class ∙ e) (λ n e. absurd (cc)) (noted-on p text k k' is inside h.reads.0 h.reads.1 h.noted)
  answered end_waits b None p above (Retry name) text k k' choices is inside read waits order class met fit at h waiting =
      retried b None true p above name text k k' choices read waits order class (ahead-at None text k met order) (rw at at h.reads.0) fit (rw at at h.began) h waiting (λ v e. absurd (cc))
      (λ n e. let far = rw at at h.reads.0 in let past = slice_get_past text.seats k.position met.1 in (far.2 ∙ met.0, ap (class_in table.class text) far.0 ∙ ap (λ o. class_of table.class (byte_of o)) past))
      (noted-on p text k k' is inside h.reads.0 h.reads.1 h.noted)
  answered st b w p above a text k k' choices is inside read waits order class met fit at h waiting = absurd (cc)

  -- the same spans are open once the next byte, or the end, was fed, and if the text goes on
  moved : (o : Option (StateRows W R D)) (from to : StateRows W R D → Bool → Point → Bool) (text more : Text) (k : Configuration R D) (choices : List Choice) (waits : Waits) (ended : Bool)
      → ((state : StateRows W R D) (any : Bool) (q : Point) → from state any q ≡ true → to state any q ≡ true) → ((w : W) → class_in table.class text k.position ≡ Some w → class_in table.class more k.position ≡ Some w)
      → (class_in table.class text k.position ≡ None → k.ended ≡ true → (ended ≡ true) × (class_in table.class more k.position ≡ None))
      → ((base : List EventName) → AreWaiting table.class table.states g text k.position (outline k) base choices → AreWaiting table.class table.states g more k.position (outline k) base choices)
      → (Notes text (exit_place_at g text k.position) k → Notes more (exit_place_at g more k.position) k)
      → IsStateAt table g text o from k choices
      → IsStateAt table g more o to (record { position = k.position; waiting = waits; ended = ended; events = k.events; stack = k.stack; local = k.local }) choices
  moved None from to text more k choices waits ended f class end wait note h = h
  moved (Some state) from to text more k choices waits ended f class end wait note h =
      let o = h.spans in
      let called = called-more state.called k.ended ended (class_in table.class text k.position) (class_in table.class more k.position) class end o.called in
      record {
        base = h.base;
        spans = record { stack = o.stack; began = began-on (from state) (to state) (outline k) (f state) o.began; void = o.void; below = o.below; needs = o.needs; called = called };
        noted = where-noted state.noted (λ n. noted-fed more (exit_place_at g more k.position) k waits ended (note (of-noted state.noted n h.noted)));
        waiting = wait h.base h.waiting;
      }

  -- where spans may have begun stays, if the text goes on
  unfed-longer : (state : StateRows W R D) (text more : Text) → Extends text more → (p : ℕ) → p ≤ length text.seats → (o : Option W) → class_in table.class text p ≡ o
      → (any : Bool) (q : Point) → began_unfed table.class g text p state any q ≡ true → began_unfed table.class g more p state any q ≡ true
  unfed-longer state text more e p inside None is any q h =
      let none : (upto (fresh_fed state.begun || any) (exit_place_at g text p) q || false) ≡ true =
      subst (λ o. (upto (fresh_fed state.begun || any) (exit_place_at g text p) q || (is_fresh_byte state.begun o && before_next g text p q)) ≡ true) is h in
      unfed-left state more p any q
      (subst (λ x. upto (fresh_fed state.begun || any) x q ≡ true) (sym (place-kept table.class table.states g text more e p inside)) (sym (or-false (upto (fresh_fed state.begun || any) (exit_place_at g text p) q)) ∙ none))
  unfed-longer state text more e p inside (Some w) is any q h =
      let place = place-kept table.class table.states g text more e p inside in
      let next = next-kept table.class table.states g text more e p w is in
      let kept = class-kept table.class table.states g text more e p w is in
      subst (λ o. (upto (fresh_fed state.begun || any) (exit_place_at g more p) q || (is_fresh_byte state.begun o && before_next g more p q)) ≡ true) (sym kept)
      (subst (λ x. (upto (fresh_fed state.begun || any) x q || (is_fresh_byte state.begun (Some w) && before_next g more p q)) ≡ true) (sym place)
      (subst (λ x. (upto (fresh_fed state.begun || any) (exit_place_at g text p) q || (is_fresh_byte state.begun (Some w) && stands_before q x)) ≡ true) next
      (subst (λ o. (upto (fresh_fed state.begun || any) (exit_place_at g text p) q || (is_fresh_byte state.begun o && before_next g text p q)) ≡ true) is h)))

  -- if the text goes on, the invariant at a state returned still holds
  pub longer : (a : State) (text more : Text) (k : Configuration R D) (choices : List Choice) → Extends text more → k.ended ≡ false → k.position ≤ length text.seats → HoldsAt table g text k choices a → HoldsAt table g more k choices a
  longer (Next name) text more k choices e fresh inside h = (
    h.0,
    moved (named table.states name) (began_unfed table.class g text k.position) (began_unfed table.class g more k.position) text more k choices k.waiting k.ended
        (λ state. unfed-longer state text more e k.position inside (class_in table.class text k.position) refl)
        (class-kept table.class table.states g text more e k.position) (λ n fed. absurd (let e : true ≡ false = sym fed ∙ fresh in cc))
        (λ base. waiting-longer table.class table.states g text more e choices base k.position (outline k) inside) (noted-longer text more k e inside) h.1,
  )
  longer (Retry name) text more k choices e fresh inside h =
      let (fed, seen) = waits-longer g text more k.position k.ended k.waiting e fresh h.0 in
      let o = named table.states name in
      let began = λ (state : StateRows W R D). began_at (of_class text k) state (sight g text k) in (
        fed,
        subst (SightIsInOrder k.waiting) (sym seen) h.1,
        subst (λ s. IsStateAt table g more o (λ state. began_at (class_of table.class s.current) state s) k choices) (sym seen)
            (moved o began began text more k choices k.waiting k.ended (λ state any q h. h) (class-kept table.class table.states g text more e k.position) (λ n fed. absurd (let e : true ≡ false = sym fed ∙ fresh in cc))
            (λ base. waiting-longer table.class table.states g text more e choices base k.position (outline k) inside) (noted-longer text more k e inside) h.2),
      )
  longer Ok text more k choices e fresh inside h = record {
    base = h.base;
    stack = h.stack;
    began = subst (λ q. Began (λ any. upto any q) (outline k)) (sym (place-kept table.class table.states g text more e k.position inside)) h.began;
    waiting = waiting-longer table.class table.states g text more e choices h.base k.position (outline k) inside h.waiting;
    ended = h.ended;
  }
  longer Nok text more k choices e fresh inside h =
      record { base = h.base; waiting = waiting-longer table.class table.states g text more e choices h.base k.position (outline k) inside h.waiting; any = h.any }
  longer (Error message) text more k choices e fresh inside h = h

  -- what may have begun when nothing waits may have when a byte does, or the end
  fed-byte : (begun : Begun W) (w : W) (s : Sight) (any : Bool) (q : Point) → (stands_before q s.exit_place ≡ true → stands_before q s.next ≡ true) → (stands_before s.exit_place q ≡ false → stands_before q s.next ≡ true)
      → upto (fresh_fed begun || any) s.exit_place q ≡ true → since (fresh_at begun (Some w)) byte_waits s any q ≡ true
  fed-byte before w s any q later soon h = h
  fed-byte (at_byte test) w s any q later soon h = since-fits false (test w) byte_waits s any q (soon-or-later s any q later soon) refl h
  fed-byte here w s any q later soon h = soon (not-true (stands_before s.exit_place q) h)

  -- or where the byte that is next begins
  unfed-byte : (state : StateRows W R D) (w : W) (s : Sight) (any : Bool) (q : Point) → (stands_before q s.exit_place ≡ true → stands_before q s.next ≡ true) → (stands_before s.exit_place q ≡ false → stands_before q s.next ≡ true)
      → (upto (fresh_fed state.begun || any) s.exit_place q || (is_fresh_byte state.begun (Some w) && stands_before q s.next)) ≡ true → since (fresh_at state.begun (Some w)) byte_waits s any q ≡ true
  unfed-byte state w s any q later soon h =
      elim (upto (fresh_fed state.begun || any) s.exit_place q) as
      (λ t. upto (fresh_fed state.begun || any) s.exit_place q ≡ t → (t || (fresh_at state.begun (Some w) && stands_before q s.next)) ≡ true → since (fresh_at state.begun (Some w)) byte_waits s any q ≡ true) [
        | true ↦ λ e i. fed-byte state.begun w s any q later soon e
        | false ↦ λ e i. let (fresh, there) = and_parts (fresh_at state.begun (Some w)) (stands_before q s.next) i in rw fresh there
      ] refl h

  fed-end : (begun : Begun W) (s : Sight) (any : Bool) (q : Point) → upto (fresh_fed begun || any) s.exit_place q ≡ true → since (fresh_at begun None) end_waits s any q ≡ true
  fed-end before s any q h = h
  fed-end begun s any q h = h

  pub fed-at : (b : Bool) (text : Text) (k : Configuration R D) (choices : List Choice) (name : Name) → IsText g text → nat_lt k.position (length text.seats) ≡ b → HoldsAt table g text k choices (Next name)
      → HoldsAt table g text (fed text k) choices (Retry name)
  fed-at true text k choices name is e h =
      let inside = ltb-true k.position (length text.seats) e in
      let s = sight_in g text k.position Byte in
      let (seat, at) = seat-at text k.position inside in
      let w = class_of table.class s.current in
      let is_byte : w ≡ Some (table.class seat.byte) = rw at refl in
      let later : (q : Point) → stands_before q s.exit_place ≡ true → stands_before q s.next ≡ true = λ q. began-before_next g text k.position q is inside in
      let soon : (q : Point) → stands_before s.exit_place q ≡ false → stands_before q s.next ≡ true = λ q h. upto-before q.index q.vs s.exit_place.index s.exit_place.vs s.next.index s.next.vs h (ends-before_next g text k.position is inside) in
      let open_at = moved (named table.states name) (began_unfed table.class g text k.position) (λ state. began_at (Some (table.class seat.byte)) state s) text text k choices Byte k.ended
      (λ state any q b. unfed-byte state (table.class seat.byte) s any q (later q) (soon q)
      (subst (λ o. (upto (fresh_fed state.begun || any) s.exit_place q || (is_fresh_byte state.begun o && stands_before q s.next)) ≡ true) is_byte b)) (λ w is. is) (λ n fed. (fed, n)) (λ base h. h) (λ h. h) h.1 in
      rw e (
        inside,
        record { begins = λ waits. begins-before_end g text k.position is inside; later = λ waits. later; soon = λ waits. soon },
        subst (λ v. IsStateAt table g text (named table.states name) (λ state. began_at v state s) (record { position = k.position; waiting = Byte; ended = k.ended; events = k.events; stack = k.stack; local = k.local }) choices) (sym is_byte) open_at,
      )
  fed-at false text k choices name is e h =
      let s = sight_in g text k.position End in
      let past = ltb-false k.position (length text.seats) e in
      let none : class_in table.class text k.position ≡ None = ap (λ o. class_of table.class (byte_of o)) (slice_get_past text.seats k.position past) in
      rw e (
        (refl, past),
        record { begins = λ waits. absurd (cc); later = λ waits. absurd (cc); soon = λ waits. absurd (cc) },
        moved (named table.states name) (began_unfed table.class g text k.position) (λ state. began_at None state s) text text k choices End true
            (λ state any q b. fed-end state.begun s any q (sym (or-false (upto (fresh_fed state.begun || any) s.exit_place q))
            ∙ subst (λ o. (upto (fresh_fed state.begun || any) s.exit_place q || (is_fresh_byte state.begun o && before_next g text k.position q)) ≡ true) none b)) (λ w is. is) (λ n fed. (refl, n)) (λ base h. h) (λ h. h) h.1,
      )

  pub starts-at : (o : Option (StateRows W R D)) (p : Point) (where_to : StateRows W R D → Bool → Point → Bool) (flag : Bool) → may_start table.states o ≡ true
      → IsStateAt table g (empty_text p) o where_to (start_configuration {R = R} {D = D} flag) []
  starts-at None p where_to flag h = absurd (cc)
  starts-at (Some state) p where_to flag h =
      let (spans, rest) = and_parts _ _ h in
      let (needs, others) = and_parts (not (needs_choice state.needs false)) (is_called_at state.called false None && not state.noted) rest in
      let (byte, unnoted) = and_parts (is_called_at state.called false None) (not state.noted) others in
      let empty = same_names-true state.spans [] spans in
      let none : needs_choice state.needs false ≡ true → AnyWait [] = λ n. absurd (let none = not-true (needs_choice state.needs false) needs in let e : true ≡ false = sym n ∙ none in cc) in
      record {
        base = [];
        spans = record {
          stack = sym empty;
          began = (All-nil (λ e. where_to state false e.point ≡ true), All-nil (λ e. where_to state true e.point ≡ true));
          void = λ v. absurd (let e : false ≡ true = (rw empty at v) in cc);
          below = All-nil (IsBelow []);
          needs = (none, λ n. none (needs-one state.needs false n));
          called = byte;
        };
        noted = where-noted state.noted (λ n. absurd (let none = not-true state.noted unnoted in let e : true ≡ false = sym n ∙ none in cc));
        waiting = refl;
      }

  -- a state that goes on where spans may have begun says so
  goes-unfed : (fresh : Bool) (waits : Option W) (state : StateRows W R D) (text : Text) (p : ℕ) → IsNext text p waits → (not fresh || goes_on_fresh table.states waits (Some state)) ≡ true
      → (any : Bool) (q : Point) → began_there fresh (is_some waits) g text p any q ≡ true → began_unfed table.class g text p state any q ≡ true
  goes-unfed false waits state text p next fit any q h = unfed-left state text p any q (upto-fits false (fresh_fed state.begun) any (exit_place_at g text p) q refl h)
  goes-unfed true None state text p next fit any q h = unfed-left state text p any q (rw fit h)
  goes-unfed true (Some w) state text p next fit any q h =
      let is = next w refl in
      subst (λ o. (upto (fresh_fed state.begun || any) (exit_place_at g text p) q || (is_fresh_byte state.begun o && before_next g text p q)) ≡ true) (sym is)
      (or_right (upto (fresh_fed state.begun || any) (exit_place_at g text p) q) (fresh_at state.begun (Some w) && before_next g text p q) (and_from (fresh_at state.begun (Some w)) (before_next g text p q) fit h))

  -- what goes on at the place a choice was made at holds there
  goes-on-at : (f : Frame W) (below : List EventName) (fresh : Bool) (waits : Option W) (a : State) (text : Text) (k : Configuration R D) (choices : List Choice) → may_go_on table.states f fresh waits a ≡ true → k.waiting ≡ Nothing
      → k.stack ≡ below ++ f.spans → Began (began_there fresh (is_some waits) g text k.position) (outline k) → (is_void_last (last_or None f.spans) ≡ true → EndsWithEnter (outline k))
      → AreWaiting table.class table.states g text k.position (outline k) below choices → MayEnd f.within f.failing choices → IsNext text k.position waits → HoldsAt table g text k choices a
  goes-on-at f below fresh next (Next name) text k choices fit waits stack began void waiting any inside =
      let (fit_it, begun) = and_parts _ _ fit in (
        waits,
        at-state f.spans f.within f.failing false false next true (named table.states name) (began_unfed table.class g text k.position) text k below choices fit_it stack
            (λ state e. began-on (began_there fresh (is_some next) g text k.position) (began_unfed table.class g text k.position state) (outline k)
            (goes-unfed fresh next state text k.position inside (subst (λ o. (not fresh || goes_on_fresh table.states next o) ≡ true) e begun)) began)
            void waiting any (λ n. needs-more n (is_read k.position)) inside (λ n e. absurd (cc)) (λ e. absurd (cc)),
      )
  goes-on-at f below true next Ok text k choices fit waits stack began void waiting any inside = absurd (let e : false ≡ true = (and_parts (same_names f.spans []) false fit).1 in cc)
  goes-on-at f below false next Ok text k choices fit waits stack began void waiting any inside =
      let (names, within) = and_parts _ _ fit in
      record { base = below; stack = stack ∙ ap (λ xs. below ++ xs) (same_names-true f.spans [] names) ∙ append-nil below; began = began; waiting = waiting; ended = inl (any.0 within) }
  goes-on-at f below fresh next Nok text k choices fit waits stack began void waiting any inside = record { base = below; waiting = waiting; any = any.1 fit }
  goes-on-at f below fresh next (Retry name) text k choices fit waits stack began void waiting any inside = absurd (cc)
  goes-on-at f below fresh next (Error message) text k choices fit waits stack began void waiting any inside = absurd (cc)

  module _ (text : Text) (k : Configuration R D) (choices : List Choice) (f : Frame W) (base below : List EventName) (is_base : base ≡ below ++ f.spans) (any : MayEnd f.within f.failing choices) where
    -- what goes on from what was saved
    back : (saved : Saved) (a : State) → may_go_on_there table.states f a ≡ true → IsSavedIn table.class g text k.position (outline k) base f saved
        → AreWaiting table.class table.states g text saved.position (take saved.events (outline k)) below choices → HoldsAt table g text (restored (Some saved) k) choices a
    back saved a fit h waiting =
        let front : take saved.events (outline k) ≡ map unlinked (take saved.events k.events) = take-map unlinked saved.events k.events in
        goes-on-at f below f.fresh f.waits a text (restored (Some saved) k) choices fit refl (h.stack_is ∙ is_base)
        (subst (Began (began_in f g text saved.position)) front h.began) (λ v. subst EndsWithEnter front (h.void v))
        (subst (λ es. AreWaiting table.class table.states g text saved.position es below choices) front waiting) any h.waits

    -- what goes on from where it is
    on : (b : Bool) (saved : Option Saved) → IsSaved table.class g text k.position (outline k) base f b saved → AreWaiting table.class table.states g text (position_of saved k.position) (events_saved saved (outline k)) below choices
        → AreWaiting table.class table.states g text k.position (outline k) below choices
    on true (Some saved) h waiting =
        more-waiting table.class table.states g text choices below saved.position k.position (take saved.events (outline k)) (outline k) (drop saved.events (outline k)) h.behind (sym (take-append-drop saved.events (outline k))) waiting
    on false None h waiting = waiting
    on b saved h waiting = absurd h

    pub well : (kind : AttemptKind) (a nok : State) (b : Bool) (saved : Option Saved) → saves kind nok ≡ b → fits_choice table.states f kind a nok ≡ true → IsSaved table.class g text k.position (outline k) base f b saved
        → AreWaiting table.class table.states g text (position_of saved k.position) (events_saved saved (outline k)) below choices → k.stack ≡ base → Began (λ any. upto any (exit_place_at g text k.position)) (outline k)
        → HoldsAt table g text (settled_at kind saved Ok k) choices a
    well Attempt a nok b saved is fit h waiting stack began =
        let (goes, rest) = and_parts (may_go_on table.states f false None a) (not (is_void_last (last_or None f.spans)) && may_go_back table.states f nok) fit in
        let (no_void, other) = and_parts (not (is_void_last (last_or None f.spans))) (may_go_back table.states f nok) rest in
        goes-on-at f below false None a text (unfed k) choices goes refl (stack ∙ is_base) began (λ v. absurd (let none = not-true (is_void_last (last_or None f.spans)) no_void in let e : true ≡ false = sym v ∙ none in cc))
        (on b saved h waiting) any (λ w e. absurd (cc))
    well Check a nok true (Some saved) is fit h waiting stack began = back saved a (and_parts (may_go_on_there table.states f a) (may_go_back table.states f nok) fit).0 h waiting
    well Check a nok false saved is fit h waiting stack began = absurd (cc)
    well Check a nok true None is fit h waiting stack began = absurd h

    -- what goes on from what was saved after Nok
    back-failed : (saved : Saved) (a : State) → may_go_back table.states f a ≡ true → IsSavedIn table.class g text k.position (outline k) base f saved
        → AreWaiting table.class table.states g text saved.position (take saved.events (outline k)) below choices → GoesBack a (AnyGoesBack choices) → HoldsAt table g text (restored (Some saved) k) choices a
    back-failed saved Nok fit h waiting failed = record {
      base = below;
      waiting = subst (λ es. AreWaiting table.class table.states g text saved.position es below choices) (take-map unlinked saved.events k.events) waiting;
      any = failed;
    }
    back-failed saved a fit h waiting failed = back saved a fit h waiting

    -- an attempt that saves nothing goes on with Nok
    badly-unsaved : (a : State) → saves Attempt a ≡ false → AreWaiting table.class table.states g text k.position (outline k) below choices → GoesBack a (AnyGoesBack choices) → HoldsAt table g text (unfed k) choices a
    badly-unsaved Nok is waiting failed = record { base = below; waiting = waiting; any = failed }
    badly-unsaved a is waiting failed = absurd (cc)

    pub badly : (kind : AttemptKind) (ok a : State) (b : Bool) (saved : Option Saved) → saves kind a ≡ b → fits_choice table.states f kind ok a ≡ true → IsSaved table.class g text k.position (outline k) base f b saved
        → AreWaiting table.class table.states g text (position_of saved k.position) (events_saved saved (outline k)) below choices → GoesBack a (AnyGoesBack choices) → HoldsAt table g text (settled_at kind saved Nok k) choices a
    badly Check ok a true (Some saved) is fit h waiting failed = back-failed saved a (and_parts (may_go_on_there table.states f ok) (may_go_back table.states f a) fit).1 h waiting failed
    badly Check ok a false saved is fit h waiting failed = absurd (cc)
    badly Attempt ok a true (Some saved) is fit h waiting failed =
        let rest = (and_parts (may_go_on table.states f false None ok) (not (is_void_last (last_or None f.spans)) && may_go_back table.states f a) fit).1 in
        back-failed saved a (and_parts (not (is_void_last (last_or None f.spans))) (may_go_back table.states f a) rest).1 h waiting failed
    badly Attempt ok a false None is fit h waiting failed = badly-unsaved a is waiting failed
    badly kind ok a b saved is fit h waiting failed = absurd h

  -- no more was read than there is when a choice is settled
  restored-inside : (b : Bool) (saved : Option Saved) (text : Text) (k : Configuration R D) (base : List EventName) (f : Frame W) → k.position ≤ length text.seats → IsSaved table.class g text k.position (outline k) base f b saved
      → (restored saved k).position ≤ length text.seats
  restored-inside true (Some saved) text k base f inside h = omega (arith, h.behind)
  restored-inside false None text k base f inside h = inside
  restored-inside b saved text k base f inside h = absurd h

  pub inside-after : (kind : AttemptKind) (saved : Option Saved) (a : State) (b : Bool) (text : Text) (k : Configuration R D) (base : List EventName) (f : Frame W) → k.position ≤ length text.seats
      → IsSaved table.class g text k.position (outline k) base f b saved → (settled_at kind saved a k).position ≤ length text.seats
  inside-after Check saved a b text k base f inside h = restored-inside b saved text k base f inside h
  inside-after Attempt saved Nok b text k base f inside h = restored-inside b saved text k base f inside h
  inside-after Attempt saved a b text k base f inside h = inside

  -- as far as a choice saved it, the stack is kept
  keeps-one : (old new : List EventName) (saved : Option Saved) → IfSome saved (λ s. take (length s.stack) new ≡ s.stack) → IfSome saved (λ s. take (length s.stack) old ≡ s.stack)
      → IfSome saved (λ s. take (length s.stack) new ≡ take (length s.stack) old)
  keeps-one old new None a b = tt
  keeps-one old new (Some saved) a b = a ∙ sym b

  abbrev pub KeepsStack : (old new : List EventName) → Choice → Type 0
  KeepsStack old new c = IfSome c.saved (λ s. take (length s.stack) new ≡ take (length s.stack) old)

  pub keeps-all : (old new : List EventName) (made cs : List Choice) → All (λ c. IfSome c.saved (λ s. take (length s.stack) new ≡ s.stack)) (made ++ cs)
      → All (λ c. IfSome c.saved (λ s. take (length s.stack) old ≡ s.stack)) cs → All (KeepsStack old new) cs
  keeps-all old new (c ∷ made) cs a b = keeps-all old new made cs (All-tail (λ c. IfSome c.saved (λ s. take (length s.stack) new ≡ s.stack)) c (made ++ cs) a) b
  keeps-all old new [] cs a b = λ i d l. keeps-one old new (get_or cs i d).saved (a i d l) (b i d l)
