-- What the code of a state may do where it is called, from the test of its acts.
use Rattle.mdconstructs_tables.proofs.Prelude.{◌≡◌, ◌≢◌, ◌==◌, ℕ, suc, ◌+◌, ◌<◌, ◌&&◌, ◌||◌, not, List, [], ◌∷◌, ◌++◌, Bool, true, false, Option, Some, None, length, map, refl, sym, ap, ◌∙◌, subst, arith, append_assoc, length-append, All, IfSome, reverse, last_or, nat_tests, All-head, All-tail, All-weaker, and_parts, slice_get_past, Event, Enter, Name, Retry, open_events, open_events_from-unlinked, option_map, is_void, stands_before, or-leads, Waits, Nothing, Byte, End, Text, Configuration, Local, TokenizerValue, Sight, sight, sight_of, byte_of, current_of, seat_before, CanExit, IsAsFar, Point, upto, not-true, All-nil, All-cons, IsNoted, ArePlaces, CanHoldNoted, CanEndNoted, IsNotedBefore, noting, noted_if, is_noted_before, unlinked, Act, enters, exit, exit_noted, note, consume, writes, done, shown_sight, with_choice_of, StateRows, Called, Table, class_of, does, chooses, named, Stage, byte_read, Shape, is_last, allows_all, after, after_all, start_shape, is_called_at, is_some, since, IsFed, class_in, begun, IsBelow, table_holds, IsAtState, once_read, CanEnd, IsCallable, IsMarkable, cond-false, IfSome_then, EventName}
use Rattle.std.specs.Prelude.{IfOk}
use Rattle.std.specs.declared.result.Result.{Result}
use Rattle.std.specs.declared.result.Result.TheVariants as result
use Rattle.markdown_base.specs.Places.{shown}
use Rattle.markdown_base.specs.declared.state.State.{State}
use Rattle.markdown_tokenizer.specs.Configuration.{Step}
use Rattle.markdown_tokenizer.specs.Lawful.{DidStep}
use Rattle.mdconstructs_tables.specs.Fitting.{KeepsNoted}
use Rattle.mdconstructs_tables.specs.RowInvariant.{DoesAll, step_in}
use Rattle.mdconstructs_tables.specs.Rows.{step_at, table_step}
use Rattle.markdown_tokenizer.specs.Calls.{with_local}
use Rattle.markdown_tokenizer.specs.Sight.{next_place}
use Rattle.mdconstructs_tables.proofs.Rows.Laws.{Waited, reached, sight_at, HasShape, noted-there, of-noted, where-noted, below_all, is-last, last-above, last-long, to-before, left-at, here-at, has-after-all, does-then, chooses-then, allows-parts}
use Rattle.mdconstructs_tables.proofs.GrowingTexts.{last-more, next-is-left, open-more}
use Rattle.markdown_tokenizer.proofs.Positions.Order.{after-before, later-later}
use Rattle.mdconstructs_tables.proofs.Markers.{stack-below}
use Rattle.mdconstructs_tables.proofs.Tables.Holding.{called-fed, met-at, read-before, ahead-at, start-sight, begins, noted-kept}

-- what holds of the last of the events without their links holds of the last
last-unlinked : (P : Event → Type 0) (o : Option Event) (es : List Event) (e : Event) → ((x : Event) → o ≡ Some x → P (unlinked x)) → All P (map unlinked es) → last_or o es ≡ Some e → P (unlinked e)
last-unlinked P o [] e before h is = before e is
last-unlinked P o (x ∷ es) e before h is =
    last-unlinked P (Some x) es e (λ y same. let same : x ≡ y = cc in subst (λ y. P (unlinked y)) same (All-head P (unlinked x) (map unlinked es) h)) (All-tail P (unlinked x) (map unlinked es) h) is

-- the last event is an enter, also with its link
last-linked : (o : Option Event) (es : List Event) (e : Event) → last_or (option_map unlinked o) (map unlinked es) ≡ Some e → e.kind ≡ Enter → (d : Event) × (last_or o es ≡ Some d) × (d.kind ≡ Enter)
last-linked None [] e is kind = absurd (cc)
last-linked (Some x) [] e is kind = let same : unlinked x ≡ e = cc in (x, refl, ap (λ e. e.kind) same ∙ kind)
last-linked o (y ∷ es) e is kind = last-linked (Some y) es e is kind

-- what holds of the places of events without their links holds of the places of the events
linked-all : (P : Point → Type 0) (es : List Event) → All (λ e. P e.point) (map unlinked es) → All (λ e. P e.point) es
linked-all P [] h = All-nil (λ e. P e.point)
linked-all P (e ∷ es) h =
    let Q : Event → Type 0 = λ e. P e.point in
    All-cons Q e es (All-head Q (unlinked e) (map unlinked es) h) (linked-all P es (All-tail Q (unlinked e) (map unlinked es) h))

-- what is open after one more act
after-then : {R D : Type 0} (acts : List (Act R D)) (act : Act R D) (p : Shape) → after_all (acts ++ act ∷ []) p ≡ after act (after_all acts p)
after-then [] act p = refl
after-then (a ∷ acts) act p = after-then acts act (after a p)

-- if a byte still waits, nothing was read
still-waiting : {R D : Type 0} (stage : Stage) (k k' : Configuration R D) → IsAsFar k' (reached stage k) → k'.waiting ≡ Byte → (k'.position ≡ k.position) × (k'.waiting ≡ k.waiting)
still-waiting byte_read k k' far is = absurd (let e : Nothing ≡ Byte = sym far.1 ∙ is in cc)
still-waiting stage k k' far is = (far.0, far.1)

-- the tokenizer after one act
abbrev pub acted_once : {M R D : Type 0} → Act R D → TokenizerValue M R D → TokenizerValue M R D
acted_once act t = record t { configuration = done act (sight_of t) t.configuration; choices = with_choice_of act t.configuration t.choices }

module _ {M W R D : Type 0} (class : ℕ → W) (state : StateRows W R D) (b w : Option W) (t : TokenizerValue M R D) where
  -- and after acts
  abbrev pub acted : List (Act R D) → TokenizerValue M R D
  acted acts = record t { configuration = does acts (sight_of t) t.configuration; choices = chooses acts (sight_of t) t.configuration t.choices }

  -- the acts are allowed at the state
  abbrev pub are_allowed : List (Act R D) → Bool
  are_allowed acts = allows_all acts (start_shape b w state)

  -- a table; only its class of bytes matters
  abbrev classes : Table W R D
  classes = record { class = class; first = λ local. local; states = []; starts = [] }

  module _ (can : IsAtState class state t) (is_before : class_of class (sight_of t).previous ≡ b) (is_class : class_of class (sight_of t).current ≡ w) where
    shaped : (acts : List (Act R D)) → are_allowed acts ≡ true
        → let p = after_all acts (start_shape b w state) in HasShape p (below_all acts (start_shape b w state) can.base) (sight_at p.stage (sight_of t)) t.given t.text t.configuration (acted acts).configuration (acted acts).choices
    shaped acts allowed =
        let k = t.configuration in
        let met = rw is_class at (met-at classes t.given t.text k k.waiting refl can.fed) in
        let read = ap is_some (sym is_before) ∙ read-before classes t.given t.text k.position can.inside in
        has-after-all acts (start_shape b w state) can.base (sight_of t) t.given t.text k k t.choices allowed (ahead-at classes t.given w t.text k met can.in_order) (start-sight classes t.given w (sight_of t))
        (begins classes t.given b w t.text k k.local can.base t.choices state read met refl can.noted (rw is_class at can.spans))

    -- the span that an allowed act exits may end
    pub can-exit : (acts : List (Act R D)) (name : EventName) (t' : TokenizerValue M R D) → are_allowed (acts ++ exit name ∷ []) ≡ true → t' ≡ acted acts → CanExit name t'
    can-exit acts name t' allowed is =
        let k = t.configuration in
        let k' = (acted acts).configuration in
        let p = after_all acts (start_shape b w state) in
        let base = below_all acts (start_shape b w state) can.base in
        let s = sight_at p.stage (sight_of t) in
        let (before, behind) = allows-parts acts (exit name ∷ []) (start_shape b w state) allowed in
        let (top, rest) = and_parts (is_last name (last_or None p.spans)) (not p.fresh && (not (is_void name) || p.bare)) (and_parts _ _ behind).0 in
        let (old, void) = and_parts (not p.fresh) (not (is_void name) || p.bare) rest in
        let last = is-last name (last_or None p.spans) top in
        let h = shaped acts before in
        let left = left-at t.given t.text k p.stage k' h.reads.0 h.reads.1 in
        let P : Event → Type 0 = λ e. since p.fresh p.stage s false e.point ≡ true in
        let opened : All P (map unlinked (open_events k'.events)) = subst (All P) (open_events_from-unlinked [] k'.events) h.began.0 in
        let began : (e : Event) → last_or None (open_events k'.events) ≡ Some e → stands_before e.point s.exit_place ≡ true =
        λ e is. to-before p.fresh p.stage s e.point old (last-unlinked P None (open_events k'.events) e (λ x none. absurd (cc)) opened is) in
        subst (CanExit name) (sym is) (record {
          top = ap (last_or None) h.stack ∙ last-above None base p.spans name last;
          read = λ e last. subst (λ q. stands_before e.point q ≡ true) (sym left) (began e last);
          void = λ v. let bare = h.bare (or-leads (is_void name) p.bare void v) in last-linked None k'.events bare.0 bare.1 bare.2;
          above = All-weaker (IsBelow base) (λ c. IfSome c.saved (λ s. length s.stack < length k'.stack))
              (λ c b. IfSome_then c.saved b (λ s r. omega (arith, r, ap length h.stack, length-append base p.spans, last-long p.spans name last))) (acted acts).choices h.waits.0;
        })

    -- what a write sees, by how far a call is
    shown-at : (stage : Stage) (k' : Configuration R D) → IsAsFar k' (reached stage t.configuration) → Waited stage t.text t.configuration
        → shown_sight (sight t.given t.text k') ≡ shown_sight (sight_at stage (sight_of t))
    shown-at byte_read k' far waited =
        let k = t.configuration in
        let byte = waited.0 in
        let here = here-at t.given t.text k byte_read k' far waited in
        let left = left-at t.given t.text k byte_read k' far waited in
        let last = far.1 in
        let one : suc k.position ≡ k.position + 1 = omega arith in
        let before : byte_of (seat_before t.text k'.position) ≡ (sight_of t).current =
        ap (λ i. byte_of (seat_before t.text i)) (far.0 ∙ sym one) ∙ rw byte refl in
        let waits : current_of t.text k'.position k'.waiting ≡ None = rw last refl in
        let next : (sight t.given t.text k').next ≡ (sight_at byte_read (sight_of t)).exit_place = ap (λ w. shown t.given.bytes (next_place t.text k'.position w)) last ∙ left in
        ap (λ p. record { previous = p; current = current_of t.text k'.position k'.waiting; point = (sight t.given t.text k').enter_place; enter_place = (sight t.given t.text k').enter_place; exit_place = (sight t.given t.text k').exit_place; next = (sight t.given t.text k').next }) before
        ∙ ap (λ c. record { previous = (sight_of t).current; current = c; point = (sight t.given t.text k').enter_place; enter_place = (sight t.given t.text k').enter_place; exit_place = (sight t.given t.text k').exit_place; next = (sight t.given t.text k').next }) waits
        ∙ ap (λ e. record { previous = (sight_of t).current; current = None; point = e; enter_place = e; exit_place = (sight t.given t.text k').exit_place; next = (sight t.given t.text k').next }) here
        ∙ ap (λ e. record { previous = (sight_of t).current; current = None; point = (sight_of t).next; enter_place = (sight_of t).next; exit_place = e; next = (sight t.given t.text k').next }) left
        ∙ ap (λ e. record { previous = (sight_of t).current; current = None; point = (sight_of t).next; enter_place = (sight_of t).next; exit_place = (sight_of t).next; next = e }) next
    shown-at stage k' far waited = rw (far.0, far.1) refl

    done-at : (act : Act R D) (p : Shape) (k' : Configuration R D) → IsAsFar k' (reached p.stage t.configuration) → Waited p.stage t.text t.configuration
        → done act (sight t.given t.text k') k' ≡ done act (sight_at p.stage (sight_of t)) k'
    done-at (enters name link) p k' far waited = ap (λ q. done (enters name link) (record (sight_of t) { enter_place = q }) k') (here-at t.given t.text t.configuration p.stage k' far waited)
    done-at (exit name) p k' far waited = ap (λ q. done (exit name) (record (sight_of t) { exit_place = q }) k') (left-at t.given t.text t.configuration p.stage k' far waited)
    done-at (writes f) p k' far waited = ap (λ (s : Sight). with_local k' (f s k')) (shown-at p.stage k' far waited)
    done-at note p k' far waited =
        let here = here-at t.given t.text t.configuration p.stage k' far waited in
        let left = left-at t.given t.text t.configuration p.stage k' far waited in
        ap (λ q. noting (record { exit = q; enter = (sight t.given t.text k').enter_place }) k') left
        ∙ ap (λ q. noting (record { exit = (sight_at p.stage (sight_of t)).exit_place; enter = q }) k') here
    done-at act p k' far waited = refl

    -- one more act
    pub then : (acts : List (Act R D)) (act : Act R D) (t' t'' : TokenizerValue M R D) → are_allowed (acts ++ act ∷ []) ≡ true → t' ≡ acted acts → t'' ≡ acted_once act t' → t'' ≡ acted (acts ++ act ∷ [])
    then acts act t' t'' allowed one two =
        let before = (allows-parts acts (act ∷ []) (start_shape b w state) allowed).0 in
        let h = shaped acts before in
        let k'' : done act (sight_of (acted acts)) (acted acts).configuration ≡ (acted (acts ++ act ∷ [])).configuration =
        done-at act (after_all acts (start_shape b w state)) (acted acts).configuration h.reads.0 h.reads.1
        ∙ sym (does-then acts act (start_shape b w state) (sight_of t) (sight_of t) t.configuration before (start-sight classes t.given w (sight_of t))) in
        two ∙ ap (acted_once act) one
        ∙ ap (λ k. record t { configuration = k; choices = with_choice_of act (acted acts).configuration (acted acts).choices }) k''
        ∙ ap (λ cs. record t { configuration = (acted (acts ++ act ∷ [])).configuration; choices = cs })
        (sym (chooses-then acts act (sight_of t) t.configuration t.choices))

    -- and so may spans that allowed acts exit, one after another
    pub can-end : (acts : List (Act R D)) (names : List EventName) (t' : TokenizerValue M R D) → are_allowed (acts ++ map exit names) ≡ true → t' ≡ acted acts → CanEnd names t'
    can-end acts [] t' allowed is = tt
    can-end acts (name ∷ names) t' allowed is =
        let whole : are_allowed ((acts ++ exit name ∷ []) ++ map exit names) ≡ true = ap are_allowed (append_assoc acts (exit name ∷ []) (map exit names)) ∙ allowed in
        let one = (allows-parts (acts ++ exit name ∷ []) (map exit names) (start_shape b w state) whole).0 in
        (can-exit acts name t' one is, can-end (acts ++ exit name ∷ []) names (acted_once (exit name) t') whole (then acts (exit name) t' (acted_once (exit name) t') one is refl))

    -- Behind acts that know the place that was noted a span may begin there, and end here, and open ones may end there
    can-hold : (acts : List (Act R D)) → are_allowed acts ≡ true → is_noted_before (after_all acts (start_shape b w state)).noted ≡ true → ArePlaces t.given (acted acts).configuration.local.noted
        → IsNotedBefore t.given t.text (sight_of (acted acts)).exit_place (acted acts).configuration × IsNoted (acted acts).configuration.local.noted.exit (acted acts) × CanHoldNoted (acted acts)
    can-hold acts allowed noted places =
        let p = after_all acts (start_shape b w state) in
        let base = below_all acts (start_shape b w state) can.base in
        let s = sight_at p.stage (sight_of t) in
        let k' = (acted acts).configuration in
        let exit_point = k'.local.noted.exit in
        let enter_point = k'.local.noted.enter in
        let now = (sight_of (acted acts)).exit_place in
        let h = shaped acts allowed in
        let left : now ≡ s.exit_place = left-at t.given t.text t.configuration p.stage k' h.reads.0 h.reads.1 in
        let before : IsNotedBefore t.given t.text now k' = subst (λ q. IsNotedBefore t.given t.text q k') (sym left) (noted-there p.noted t.given t.text s k' noted h.noted) in
        let behind : All (λ e. stands_before exit_point e.point ≡ false) k'.events =
        linked-all (λ q. stands_before exit_point q ≡ false) k'.events
        (All-weaker (λ e. upto true exit_point e.point ≡ true) (λ e. stands_before exit_point e.point ≡ false) (λ e b. not-true (stands_before exit_point e.point) b) (map unlinked k'.events) before.at.began.1) in
        let below = stack-below base p.spans k'.stack (acted acts).choices h.stack h.waits.0 in (
          before,
          record { place = places.exit_place; shown = places.exit_shown; upto = after-before exit_point.index exit_point.vs now.index now.vs before.exit_before; behind = behind },
          record {
            begins = record {
              place = places.enter_place;
              shown = places.enter_shown;
              upto = after-before enter_point.index enter_point.vs now.index now.vs before.enter_before;
              behind = All-weaker (λ e. stands_before exit_point e.point ≡ false) (λ e. stands_before enter_point e.point ≡ false)
                  (λ e b. later-later enter_point.index enter_point.vs exit_point.index exit_point.vs e.point.index e.point.vs places.order b) k'.events behind;
            };
            ends = λ name.
                let x : Event = record { kind = Enter; name = name; point = enter_point; link = None } in
                let opened : open_events (k'.events ++ x ∷ []) ≡ open_events k'.events ++ x ∷ [] = open-more [] k'.events x in
                let is-it : (e : Event) → last_or None (open_events (k'.events ++ x ∷ [])) ≡ Some e → x ≡ e = λ e is.
                let last : Some x ≡ Some e = sym (last-more None (open_events k'.events) x) ∙ ap (last_or None) (sym opened) ∙ is in cc in
                record {
                  top = last-more None k'.stack name;
                  read = λ e is. subst (λ e. stands_before e.point now ≡ true) (is-it e is) before.enter_before;
                  void = λ v. (x, last-more None k'.events x, refl);
                  above = All-weaker (IsBelow k'.stack) (λ c. IfSome c.saved (λ s. length s.stack < length (k'.stack ++ name ∷ [])))
                      (λ c b. IfSome_then c.saved b (λ s r. omega (arith, r, length-append k'.stack (name ∷ [])))) (acted acts).choices below;
                };
          },
        )

    -- so they may end there one after another
    can-end-noted : (acts : List (Act R D)) (names : List EventName) → are_allowed (acts ++ map exit_noted names) ≡ true → is_noted_before (after_all acts (start_shape b w state)).noted ≡ true
        → ArePlaces t.given (acted acts).configuration.local.noted → CanEndNoted names (acted acts)
    can-end-noted acts [] allowed noted places = (can-hold acts ((allows-parts acts [] (start_shape b w state) allowed).0) noted places).2
    can-end-noted acts (name ∷ names) allowed noted places =
        let p = after_all acts (start_shape b w state) in
        let base = below_all acts (start_shape b w state) can.base in
        let k' = (acted acts).configuration in
        let exit_point = k'.local.noted.exit in
        let whole : are_allowed ((acts ++ exit_noted name ∷ []) ++ map exit_noted names) ≡ true = ap are_allowed (append_assoc acts (exit_noted name ∷ []) (map exit_noted names)) ∙ allowed in
        let one = (allows-parts (acts ++ exit_noted name ∷ []) (map exit_noted names) (start_shape b w state) whole).0 in
        let (first, behind) = allows-parts acts (exit_noted name ∷ []) (start_shape b w state) one in
        let (top, rest) = and_parts (is_last name (last_or None p.spans)) (is_noted_before p.noted && (not (is_void name) || p.bare)) (and_parts _ _ behind).0 in
        let void = (and_parts (is_noted_before p.noted) (not (is_void name) || p.bare) rest).1 in
        let last = is-last name (last_or None p.spans) top in
        let h = shaped acts first in
        let (before, at, hold) = can-hold acts first noted places in
        let P : Event → Type 0 = λ e. stands_before e.point exit_point ≡ true in
        let opened : All P (map unlinked (open_events k'.events)) = subst (All P) (open_events_from-unlinked [] k'.events) before.at.began.0 in
        let next : acted_once (exit_noted name) (acted acts) ≡ acted (acts ++ exit_noted name ∷ []) = then acts (exit_noted name) (acted acts) (acted_once (exit_noted name) (acted acts)) one refl refl in
        let still : is_noted_before (after_all (acts ++ exit_noted name ∷ []) (start_shape b w state)).noted ≡ true =
        ap (λ (q : Shape). is_noted_before q.noted) (after-then acts (exit_noted name) (start_shape b w state)) ∙ noted in
        let places_then : ArePlaces t.given (acted (acts ++ exit_noted name ∷ [])).configuration.local.noted = subst (λ (u : TokenizerValue M R D). ArePlaces t.given u.configuration.local.noted) next places in (
          hold,
          at,
          record {
            top = ap (last_or None) h.stack ∙ last-above None base p.spans name last;
            read = λ e is. last-unlinked P None (open_events k'.events) e (λ x none. absurd (cc)) opened is;
            void = λ v. let bare = h.bare (or-leads (is_void name) p.bare void v) in last-linked None k'.events bare.0 bare.1 bare.2;
            above = All-weaker (IsBelow base) (λ c. IfSome c.saved (λ s. length s.stack < length k'.stack))
                (λ c b. IfSome_then c.saved b (λ s r. omega (arith, r, ap length h.stack, length-append base p.spans, last-long p.spans name last))) (acted acts).choices h.waits.0;
          },
          subst (CanEndNoted names) (sym next) (can-end-noted (acts ++ exit_noted name ∷ []) names whole still places_then),
        )

    -- behind allowed acts a byte that still waits can be a span of its own
    pub can-mark : (acts : List (Act R D)) (t' : TokenizerValue M R D) → are_allowed acts ≡ true → t' ≡ acted acts → t'.configuration.waiting ≡ Byte → IsMarkable t'
    can-mark acts t' allowed is waits =
        let k = t.configuration in
        let p = after_all acts (start_shape b w state) in
        let base = below_all acts (start_shape b w state) can.base in
        let h = shaped acts allowed in
        let same = still-waiting p.stage k (acted acts).configuration h.reads.0 (ap (λ t. t.configuration.waiting) (sym is) ∙ waits) in
        let byte : k.waiting ≡ Byte = sym same.1 ∙ ap (λ t. t.configuration.waiting) (sym is) ∙ waits in
        subst IsMarkable (sym is) (record {
          waits = same.1 ∙ byte;
          inside = rw same.0 (rw byte at can.fed);
          in_order = rw (same.0, same.1) (can.in_order.begins byte);
          below = stack-below base p.spans (acted acts).configuration.stack (acted acts).choices h.stack h.waits.0;
        })

-- if a state is called that is never called at the end, a byte waits
never-at-end : {W : Type 0} (class : ℕ → W) (called : Called W) (w : Waits) (p : ℕ) (ended : Bool) (text : Text) → IsFed w p ended text → is_called_at called true None ≡ false
    → is_called_at called ended (class_in class text p) ≡ true → w ≡ Byte
never-at-end class called Nothing p ended text h never at = absurd h
never-at-end class called Byte p ended text h never at = refl
never-at-end class called End p ended text h never at =
    let past = subst (λ o. is_called_at called ended (class_of class (byte_of o)) ≡ true) (slice_get_past text.seats p h.1) at in
    let fed = called-fed called ended None past in
    absurd (let e : true ≡ false = sym fed ∙ never in cc)

-- a byte that is seen waits
pub byte-waits : (text : Text) (p : ℕ) (waits : Waits) (b : ℕ) → current_of text p waits ≡ Some b → waits ≡ Byte
byte-waits text p Nothing b h = absurd (cc)
byte-waits text p Byte b h = refl
byte-waits text p End b h = absurd (cc)

-- what the code of a state may do follows where it is called
allowed : {M W R D : Type 0} (class : ℕ → W) (state : StateRows W R D) (t : TokenizerValue M R D) → IsAtState class state t → IsCallable class state t
allowed class state t can =
    let k = t.configuration in
    let before = class_of class (sight_of t).previous in
    let waits = class_of class (sight_of t).current in
    let names = reverse state.spans in
    record {
      called = can;
      byte = λ never. never-at-end class state.called k.waiting k.position k.ended t.text can.fed never can.spans.called;
      stands = λ waits. let inside = rw waits at can.fed in rw waits (sym (next-is-left t.given t.text t.configuration.position Nothing inside));
      marks = λ waits. record {
        waits = waits;
        inside = rw waits at can.fed;
        in_order = can.in_order.begins waits;
        below = stack-below can.base state.spans t.configuration.stack t.choices can.spans.stack can.spans.below;
      };
      ends = λ fit. can-end class state before waits t can refl refl [] names t fit refl;
      ends_read = λ fit. can-end class state before waits t can refl refl (consume ∷ []) names (once_read t) fit refl;
      ends_noted = where-noted state.noted (λ noted fit.
          let start : is_noted_before (noted_if state.noted) ≡ true = rw noted refl in can-end-noted class state before waits t can refl refl [] names fit start (of-noted state.noted noted can.noted).1);
    }

-- what holds when a machine is called is what its state requires
pub callable : {M W R D : Type 0} (table : Table W R D) (first : Local R D → Local R D) (kept : KeepsNoted first) (name : Name) (state : StateRows W R D) (t t' : TokenizerValue M R D)
    → name.number ≡ state.name.number → named table.states state.name ≡ Some state → table_holds table t.given t.text t.configuration t.choices (Retry name) → t' ≡ begun first t → IsCallable table.class state t'
callable table first kept name state t t' same is h began =
    let k = t.configuration in
    let one : named table.states name ≡ Some state = ap (λ n. named table.states (record { number = n })) same ∙ is in
    let there = rw one at h.1.2 in
    let o = there.spans in
    subst (IsCallable table.class state) (sym began) (allowed table.class state (begun first t) (record {
      inside = h.0;
      fed = h.1.0;
      in_order = h.1.1;
      base = there.base;
      spans = record { stack = o.stack; began = o.began; void = o.void; below = o.below; needs = o.needs; called = o.called };
      noted = where-noted state.noted (λ n. noted-kept table t.given t.text k (first k.local) (kept k.local) (of-noted state.noted n there.noted));
    }))

-- a step that was done once the call was counted
as-step : {M R D E : Type 0} (s : Step R D) (first : Local R D → Local R D) (t new : TokenizerValue M R D) (r : Result State E) → IfOk r (DoesAll s (begun first t) new) → IfOk r (DidStep t new s)
as-step s first t new (result.Ok a) h = record { answered = h.answered; became = h.became }
as-step s first t new (result.Err e) h = h

-- the step that the state did is the step of the table
pub did-step : {M W R D E : Type 0} (table : Table W R D) (name : Name) (state : StateRows W R D) (t t' new : TokenizerValue M R D) (r : Result State E) → name.number ≡ state.name.number
    → named table.states state.name ≡ Some state → t' ≡ begun table.first t → IfOk r (DoesAll (step_in table.class state t') t' new)
    → IfOk r (DidStep t new (table_step table t.given (sight_of t) t.configuration name))
did-step {R = R} {D = D} table name state t t' new r same is began h =
    let one : named table.states name ≡ Some state = ap (λ n. named table.states (record { number = n })) same ∙ is in
    let start = begun table.first t in
    let there : IfOk r (DoesAll (step_in table.class state start) start new) = subst (λ u. IfOk r (DoesAll (step_in table.class state u) u new)) began h in
    subst (λ (o : Option (StateRows _ R D)). IfOk r (DidStep t new (step_at table t.given o (sight_of t) (with_local t.configuration (table.first t.configuration.local))))) (sym one)
    (as-step (step_in table.class state start) (table.first) t new r there)

-- a name is none of the states'
abbrev pub IsNoneOf : {W R D : Type 0} → List (StateRows W R D) → Name → Type 0
IsNoneOf [] name = Unit {0}
IsNoneOf (state ∷ states) name = (name.number ≢ state.name.number) × IsNoneOf states name

pub not-named : {W R D : Type 0} (states : List (StateRows W R D)) (name : Name) → IsNoneOf states name → named states name ≡ None
not-named [] name h = refl
not-named (state ∷ states) name h =
    let other = h.0 in
    let not : (name.number == state.name.number) ≡ false = grind (arith, nat_tests) in
    cond-false (name.number == state.name.number) (Some state) (named states name) not ∙ not-named states name h.1

-- such a name is never called
pub never-called : {M W R D : Type 0} (table : Table W R D) (name : Name) (t : TokenizerValue M R D) → IsNoneOf table.states name → table_holds table t.given t.text t.configuration t.choices (Retry name) → ⊥
never-called table name t none h = rw (not-named table.states name none) at h.1.2
