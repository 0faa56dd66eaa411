-- What a row keeps: lemmas for the laws of tables.
use Rattle.std.specs.List.{AllByRecursion}
use Rattle.mdconstructs_tables.proofs.Markers.{stack-below}
use Rattle.mdconstructs_tables.proofs.Prelude.{WhereNoted, is_void, ◌&&◌, ◌||◌, ◌≡◌, ℕ, suc, ◌+◌, ◌-◌, ◌<◌, ◌≤◌, not, List, [], ◌∷◌, ◌++◌, Bool, true, false, Option, Some, None, length, length-map, map, refl, sym, ap, ◌∙◌, subst, arith, take, append_assoc, length-append, All, last_or, and_from, and_parts, append-nil, map-append, All-push, All-take, All-weaker, All-cons, Event, Enter, Exit, Point, State, Nok, open_events, unlinked, stands_before, stands-self, Nothing, Byte, AttemptKind, Attempt, Check, Given, Text, Configuration, Choice, Sight, sight, consumed, linked-unlinked, IsAsFar, SavesEvents, same_name-true, before-upto, Act, enters, exit, consume, links, writes, choose, note, exit_noted, enter_noted, past, done, seen_after, choice_made_at, with_choice_of, does, chooses, Link, Noting, unnoted, noted_here, noted_before, is_noted_before, read_on, place_of, sight_in, IsNotedAt, IsNotedBefore, Stage, end_waits, byte_waits, byte_read, Shape, is_byte_waiting, is_end, is_last, allows, after, allows_all, after_all, same_names, may_fail, outline, EndsWithEnter, Began, upto, since, AnyGoesBack, MayEnd, IsBelow, EventName}
use Rattle.mdconstructs_tables.proofs.GrowingTexts.{open-more, last-more, next-is-left}

-- What the tests of equality say
pub same_names-true : (xs ys : List EventName) → same_names xs ys ≡ true → xs ≡ ys
same_names-true [] [] h = refl
same_names-true (x ∷ xs) (y ∷ ys) h =
    let (first, rest) = and_parts _ _ h in
    let one = same_name-true x y first in
    let more = same_names-true xs ys rest in
    cc
same_names-true xs ys h = absurd (cc)

pub is-last : (name : EventName) (o : Option EventName) → is_last name o ≡ true → o ≡ Some name
is-last name None h = absurd (cc)
is-last name (Some last) h = ap Some (same_name-true last name h)

-- Lists, one above another
last-or-last : (o : Option EventName) (xs : List EventName) (name : EventName) → last_or None xs ≡ Some name → last_or o xs ≡ Some name
last-or-last o [] name h = absurd (cc)
last-or-last o (x ∷ xs) name h = h

pub last-above : (o : Option EventName) (base spans : List EventName) (name : EventName) → last_or None spans ≡ Some name → last_or o (base ++ spans) ≡ Some name
last-above o [] spans name h = last-or-last o spans name h
last-above o (x ∷ base) spans name h = last-above (Some x) base spans name h

pub last-long : (spans : List EventName) (name : EventName) → last_or None spans ≡ Some name → 1 ≤ length spans
last-long [] name h = absurd (cc)
last-long (x ∷ xs) name h = omega arith

take-above : (base spans : List EventName) → 1 ≤ length spans → take (length (base ++ spans) - 1) (base ++ spans) ≡ base ++ take (length spans - 1) spans
take-above [] spans h = refl
take-above (x ∷ base) spans h =
    let n : length (x ∷ base ++ spans) - 1 ≡ suc (length (base ++ spans) - 1) = omega (arith, length-append base spans) in
    rw n (ap (λ xs. x ∷ xs) (take-above base spans h))

-- the byte that waits can be read
abbrev pub CanRead : {R D : Type 0} → Text → Configuration R D → Type 0
CanRead text k = (k.waiting ≡ Byte) × (k.position < length text.seats)

-- what waited where the call began
abbrev pub Waited : {R D : Type 0} → Stage → Text → Configuration R D → Type 0
Waited end_waits text k = (k.ended ≡ true) × (length text.seats ≤ k.position)
Waited byte_waits text k = CanRead text k
Waited byte_read text k = CanRead text k

-- how far a call that began at a configuration is
abbrev pub reached : {R D : Type 0} → Stage → Configuration R D → Configuration R D
reached byte_read k = consumed k
reached _ k = k

-- What is known of places in a call: spans may begin at the place of an enter, and earlier spans are among the ones that may have begun; so are
-- the places of events
pub record IsSeenAhead (stage : Stage) (s : Sight) : Type 0 where
  pub begins : is_end stage ≡ false → (any : Bool) → since true stage s any s.enter_place ≡ true
  pub later : (any : Bool) (q : Point) → since false stage s any q ≡ true → since true stage s any q ≡ true

-- what is seen at a stage
abbrev pub sight_at : Stage → Sight → Sight
sight_at byte_read s = past s
sight_at _ s = s

-- what is known of the place that was noted
abbrev pub HasNoted : {R D : Type 0} → Noting → Given → Text → Sight → Configuration R D → Type 0
HasNoted unnoted g text s k = Unit {0}
HasNoted noted_here g text s k = (k.local.noted ≡ place_of s) × IsNotedAt g text k.position k
HasNoted noted_before g text s k = IsNotedBefore g text s.exit_place k

-- A configuration has this shape, above these spans and the choices that wait
pub record HasShape {R D : Type 0} (p : Shape) (base : List EventName) (s : Sight) (g : Given) (text : Text) (old k : Configuration R D) (choices : List Choice) : Type 0 where
  pub stack : k.stack ≡ base ++ p.spans
  pub began : Began (since p.fresh p.stage s) (outline k)
  pub bare : p.bare ≡ true → EndsWithEnter (outline k)
  pub reads : IsAsFar k (reached p.stage old) × Waited p.stage text old
  pub waits : All (IsBelow base) choices × MayEnd p.within p.failing choices
  pub noted : HasNoted p.noted g text s k

pub waiting-stage : (stage : Stage) → is_byte_waiting stage ≡ true → stage ≡ byte_waits
waiting-stage byte_waits h = refl
waiting-stage stage h = absurd (cc)

pub not-end : (stage : Stage) → not (is_end stage) ≡ true → is_end stage ≡ false
not-end end_waits h = absurd (cc)
not-end stage h = refl

-- Where spans may have begun
pub before-is-upto : (place q : Point) → upto false place q ≡ true → upto true place q ≡ true
before-is-upto place q h = let no = before-upto q place h in rw no refl

pub at-place : (place : Point) → upto true place place ≡ true
at-place place = let no = stands-self place in rw no refl

-- if it is asked of any event, a place up to there passes
pub up-to : (any : Bool) (place q : Point) → stands_before q place ≡ true → upto any place q ≡ true
up-to true place q h = before-is-upto place q h
up-to false place q h = h

pub to-upto : (any : Bool) (place q : Point) → upto any place q ≡ true → upto true place q ≡ true
to-upto true place q h = h
to-upto false place q h = before-is-upto place q h

to-fresh : (fresh : Bool) (stage : Stage) (s : Sight) (any : Bool) (q : Point) → IsSeenAhead stage s → since fresh stage s any q ≡ true → since true stage s any q ≡ true
to-fresh true stage s any q sees h = h
to-fresh false stage s any q sees h = sees.later any q h

pub to-before : (fresh : Bool) (stage : Stage) (s : Sight) (q : Point) → not fresh ≡ true → since fresh stage s false q ≡ true → stands_before q s.exit_place ≡ true
to-before true stage s q fit h = absurd (cc)
to-before false end_waits s q fit h = h
to-before false stage s q fit h = h

-- where no span is fresh, each event is up to the place of an exit
pub left-since : (fresh : Bool) (stage : Stage) (s : Sight) (any : Bool) (q : Point) → not fresh ≡ true → since fresh stage s any q ≡ true → upto any s.exit_place q ≡ true
left-since true stage s any q fit h = absurd (cc)
left-since false end_waits s any q fit h = h
left-since false byte_waits s any q fit h = h
left-since false byte_read s any q fit h = h

-- so an exit is
at-exit : (fresh : Bool) (stage : Stage) (s : Sight) → not fresh ≡ true → since fresh stage s true s.exit_place ≡ true
at-exit true stage s fit = absurd (cc)
at-exit false end_waits s fit = at-place s.exit_place
at-exit false byte_waits s fit = at-place s.exit_place
at-exit false byte_read s fit = at-place s.exit_place

-- what is before the place of an exit passes
early-old : (stage : Stage) (s : Sight) (any : Bool) (q : Point) → stands_before q s.exit_place ≡ true → since false stage s any q ≡ true
early-old end_waits s any q h = up-to any s.exit_place q h
early-old byte_waits s any q h = up-to any s.exit_place q h
early-old byte_read s any q h = up-to any s.exit_place q h

early : (fresh : Bool) (stage : Stage) (s : Sight) (any : Bool) (q : Point) → IsSeenAhead stage s → stands_before q s.exit_place ≡ true → since fresh stage s any q ≡ true
early false stage s any q sees h = early-old stage s any q h
early true stage s any q sees h = sees.later any q (early-old stage s any q h)

-- what is before the end of a byte is before the current place once it is read
read-since : (s : Sight) (any : Bool) (q : Point) → stands_before q s.next ≡ true → since false byte_read (past s) any q ≡ true
read-since s any q h = up-to any s.next q h

-- if each open span began by one test, it began by another, and so with the events
pub began-on : (from to : Bool → Point → Bool) (events : List Event) → ((any : Bool) (q : Point) → from any q ≡ true → to any q ≡ true) → Began from events → Began to events
began-on from to events f h = (
  All-weaker (λ e. from false e.point ≡ true) (λ e. to false e.point ≡ true) (λ e. f false e.point) (open_events events) h.0,
  All-weaker (λ e. from true e.point ≡ true) (λ e. to true e.point ≡ true) (λ e. f true e.point) events h.1,
)

-- one more span begins, or ends
began-enter : (to : Bool → Point → Bool) (events : List Event) (name : EventName) (q : Point) (link : Option Link) → ((any : Bool) → to any q ≡ true) → Began to events
    → (let e : Event = record { kind = Enter; name = name; point = q; link = link } in Began to (events ++ e ∷ []))
began-enter to events name q link passes h =
    let e : Event = record { kind = Enter; name = name; point = q; link = link } in
    let P : Event → Type 0 = λ e. to false e.point ≡ true in
    (subst (All P) (sym (open-more [] events e)) (All-push P (open_events events) e h.0 (passes false)), All-push (λ e. to true e.point ≡ true) events e h.1 (passes true))

began-exit : (to : Bool → Point → Bool) (events : List Event) (name : EventName) (q : Point) (link : Option Link) → to true q ≡ true → Began to events
    → (let e : Event = record { kind = Exit; name = name; point = q; link = link } in Began to (events ++ e ∷ []))
began-exit to events name q link passes h =
    let e : Event = record { kind = Exit; name = name; point = q; link = link } in
    let P : Event → Type 0 = λ e. to false e.point ≡ true in
    (subst (All P) (sym (open-more [] events e)) (All-take P (length (open_events events) - 1) (open_events events) h.0), All-push (λ e. to true e.point ≡ true) events e h.1 passes)

-- what is asked only where a place was noted
pub where-noted : {A : Type 0} (noted : Bool) → (noted ≡ true → A) → WhereNoted noted A
where-noted false f = tt
where-noted true f = f refl

pub of-noted : {A : Type 0} (noted : Bool) → noted ≡ true → WhereNoted noted A → A
of-noted false is h = absurd (cc)
of-noted true is h = h

-- what the test of what is noted says
pub noted-there : {R D : Type 0} (n : Noting) (g : Given) (text : Text) (s : Sight) (k : Configuration R D) → is_noted_before n ≡ true → HasNoted n g text s k → IsNotedBefore g text s.exit_place k
noted-there noted_before g text s k is h = h
noted-there unnoted g text s k is h = absurd (cc)
noted-there noted_here g text s k is h = absurd (cc)

noted-left : {R D : Type 0} (n : Noting) (g : Given) (text : Text) (s : Sight) (k : Configuration R D) → is_noted_before n ≡ true → IsNotedBefore g text s.exit_place k → HasNoted n g text s k
noted-left noted_before g text s k is h = h
noted-left unnoted g text s k is h = absurd (cc)
noted-left noted_here g text s k is h = absurd (cc)

-- a place that was noted is before the current one once a byte is read
noted-read : {R D : Type 0} (n : Noting) (g : Given) (text : Text) (s : Sight) (k : Configuration R D) → IsSeenAhead byte_waits s → HasNoted n g text s k → HasNoted (read_on n) g text (past s) (consumed k)
noted-read unnoted g text s k sees h = tt
noted-read noted_here g text s k sees h =
    let exit = sees.later true s.exit_place (at-place s.exit_place) in
    let enter = sees.begins refl false in
    record {
      position = k.position;
      read = omega arith;
      at = record { is = h.1.is; began = h.1.began };
      exit_before = subst (λ n. stands_before n.exit s.next ≡ true) (sym h.0) exit;
      enter_before = subst (λ n. stands_before n.enter s.next ≡ true) (sym h.0) enter;
    }
noted-read noted_before g text s k sees h = record {
  position = h.position;
  read = omega (arith, h.read);
  at = record { is = h.at.is; began = h.at.began };
  exit_before = sees.later false k.local.noted.exit h.exit_before;
  enter_before = sees.later false k.local.noted.enter h.enter_before;
}

module _ {R D : Type 0} where
  -- the spans below after one act, and after all
  abbrev pub below_after : Act R D → Shape → List EventName → List EventName
  below_after (choose kind ok nok) p base = base ++ p.spans
  below_after _ p base = base

  abbrev pub below_all : List (Act R D) → Shape → List EventName → List EventName
  below_all [] p base = base
  below_all (act ∷ acts) p base = below_all acts (after act p) (below_after act p base)

module _ {R D : Type 0} (g : Given) (text : Text) (old : Configuration R D) where
  -- the place of an exit, by how far a call is
  pub left-at : (stage : Stage) (k : Configuration R D) → IsAsFar k (reached stage old) → Waited stage text old → (sight g text k).exit_place ≡ (sight_at stage (sight g text old)).exit_place
  left-at byte_read k far waited = let byte = waited.0 in rw (far.0, byte) (sym (next-is-left g text old.position k.waiting waited.1))
  left-at stage k far waited = rw far.0 refl

  -- the place of an enter before the end
  pub here-at : (stage : Stage) (k : Configuration R D) → IsAsFar k (reached stage old) → Waited stage text old → (sight g text k).enter_place ≡ (sight_at stage (sight g text old)).enter_place
  here-at byte_read k far waited = let byte = waited.0 in rw (far.0, far.1, byte) (sym (next-is-left g text old.position Nothing waited.1))
  here-at stage k far waited = rw (far.0, far.1) refl

  chosen-below : (kind : AttemptKind) (ok nok : State) (stack : List EventName) (k : Configuration R D) → k.stack ≡ stack → IsBelow stack (choice_made_at kind ok nok k)
  chosen-below Attempt ok Nok stack k h = tt
  chosen-below kind ok nok stack k h = omega (arith, ap length h)

  -- a choice that is made goes back after Nok, or one below it does
  goes-back : (kind : AttemptKind) (ok nok : State) (failing : Bool) (k : Configuration R D) (choices : List Choice) → (failing ≡ true → AnyGoesBack choices) → may_fail nok failing ≡ true → AnyGoesBack (choice_made_at kind ok nok k ∷ choices)
  goes-back Attempt ok Nok failing k choices below may = below may
  goes-back Check ok Nok failing k choices below may = below may
  goes-back Attempt ok nok failing k choices below may = tt
  goes-back Check ok nok failing k choices below may = tt

  -- an act that is allowed leaves the shape after it
  pub has-after : (act : Act R D) (p : Shape) (base : List EventName) (s : Sight) (k : Configuration R D) (choices : List Choice) → allows act p ≡ true → IsSeenAhead p.stage s → s ≡ sight_at p.stage (sight g text old)
      → HasShape p base s g text old k choices → HasShape (after act p) (below_after act p base) (seen_after act s) g text old (done act s k) (with_choice_of act k choices)
  has-after (enters name link) p base s k choices can sees seen h =
      let e : Event = record { kind = Enter; name = name; point = s.enter_place; link = link } in
      let grown : map unlinked (k.events ++ e ∷ []) ≡ outline k ++ unlinked e ∷ [] = map-append unlinked k.events (e ∷ []) in
      let earlier = began-on (since p.fresh p.stage s) (since true p.stage s) (outline k) (λ any q. to-fresh p.fresh p.stage s any q sees) h.began in
      record {
        stack = ap (λ names. names ++ name ∷ []) h.stack ∙ append_assoc base p.spans (name ∷ []);
        began = subst (Began (since true p.stage s)) (sym grown) (began-enter (since true p.stage s) (outline k) name s.enter_place (unlinked e).link (sees.begins (not-end p.stage can)) earlier);
        bare = λ _. subst EndsWithEnter (sym grown) (unlinked e, last-more None (outline k) (unlinked e), refl);
        reads = h.reads;
        waits = h.waits;
        noted = tt;
      }
  has-after (exit name) p base s k choices can sees seen h =
      let e : Event = record { kind = Exit; name = name; point = s.exit_place; link = None } in
      let grown : map unlinked (k.events ++ e ∷ []) ≡ outline k ++ unlinked e ∷ [] = map-append unlinked k.events (e ∷ []) in
      let (last, rest) = and_parts _ _ can in
      let top = is-last name (last_or None p.spans) last in
      let old_spans = (and_parts (not p.fresh) (not (is_void name) || p.bare) rest).0 in
      record {
        stack = ap (λ names. take (length names - 1) names) h.stack ∙ take-above base p.spans (last-long p.spans name top);
        began = subst (Began (since p.fresh p.stage s)) (sym grown) (began-exit (since p.fresh p.stage s) (outline k) name s.exit_place (unlinked e).link (at-exit p.fresh p.stage s old_spans) h.began);
        bare = λ is. absurd (cc);
        reads = h.reads;
        waits = h.waits;
        noted = tt;
      }
  has-after consume p base s k choices can sees seen h =
      let byte = waiting-stage p.stage can in
      let far = rw byte at h.reads.0 in
      record {
        stack = h.stack;
        began = began-on (since p.fresh p.stage s) (since false byte_read (past s)) (outline k) (λ any q b. read-since s any q (rw byte at (to-fresh p.fresh p.stage s any q sees b))) h.began;
        bare = h.bare;
        reads = ((ap (λ n. n + 1) far.0, refl, refl), rw byte at h.reads.1);
        waits = h.waits;
        noted = noted-read p.noted g text s k (subst (λ stage. IsSeenAhead stage s) byte sees) h.noted;
      }
  has-after (links previous next) p base s k choices can sees seen h =
      let same = sym (linked-unlinked (previous k) (next k) k.events) in
      record {
        stack = h.stack;
        began = subst (Began (since p.fresh p.stage s)) same h.began;
        bare = λ is. subst EndsWithEnter same (h.bare is);
        reads = h.reads;
        waits = h.waits;
        noted = tt;
      }
  has-after (writes f) p base s k choices can sees seen h =
      record { stack = h.stack; began = h.began; bare = h.bare; reads = h.reads; waits = h.waits; noted = tt }
  has-after note p base s k choices can sees seen h =
      let (wait, old_spans) = and_parts (is_byte_waiting p.stage) (not p.fresh) can in
      let byte = waiting-stage p.stage wait in
      let far = rw byte at h.reads.0 in
      let waited = rw byte at h.reads.1 in
      let now : s ≡ sight g text old = rw byte at seen in
      let place : place_of s ≡ place_of (sight_in g text k.position Byte) =
      ap place_of now ∙ ap (λ w. place_of (sight_in g text old.position w)) waited.0 ∙ ap (λ i. place_of (sight_in g text i Byte)) (sym far.0) in
      record {
        stack = h.stack;
        began = h.began;
        bare = h.bare;
        reads = h.reads;
        waits = h.waits;
        noted = (refl, record { is = place; began = began-on (since p.fresh p.stage s) (λ any. upto any s.exit_place) (outline k) (λ any q. left-since p.fresh p.stage s any q old_spans) h.began });
      }
  has-after (exit_noted name) p base s k choices can sees seen h =
      let place = k.local.noted.exit in
      let e : Event = record { kind = Exit; name = name; point = place; link = None } in
      let grown : map unlinked (k.events ++ e ∷ []) ≡ outline k ++ unlinked e ∷ [] = map-append unlinked k.events (e ∷ []) in
      let (last, rest) = and_parts (is_last name (last_or None p.spans)) (is_noted_before p.noted && (not (is_void name) || p.bare)) can in
      let top = is-last name (last_or None p.spans) last in
      let is = (and_parts (is_noted_before p.noted) (not (is_void name) || p.bare) rest).0 in
      let before = noted-there p.noted g text s k is h.noted in
      record {
        stack = ap (λ names. take (length names - 1) names) h.stack ∙ take-above base p.spans (last-long p.spans name top);
        began = subst (Began (since p.fresh p.stage s)) (sym grown)
            (began-exit (since p.fresh p.stage s) (outline k) name place (unlinked e).link (early p.fresh p.stage s true place sees before.exit_before) h.began);
        bare = λ is. absurd (cc);
        reads = h.reads;
        waits = h.waits;
        noted = noted-left p.noted g text s (done (exit_noted name) s k) is (record {
          position = before.position;
          read = before.read;
          at = record {
            is = before.at.is;
            began = subst (Began (λ any. upto any place)) (sym grown) (began-exit (λ any. upto any place) (outline k) name place (unlinked e).link (at-place place) before.at.began);
          };
          exit_before = before.exit_before;
          enter_before = before.enter_before;
        });
      }
  has-after (enter_noted name) p base s k choices can sees seen h =
      let place = k.local.noted.enter in
      let e : Event = record { kind = Enter; name = name; point = place; link = None } in
      let grown : map unlinked (k.events ++ e ∷ []) ≡ outline k ++ unlinked e ∷ [] = map-append unlinked k.events (e ∷ []) in
      let before = noted-there p.noted g text s k can h.noted in
      record {
        stack = ap (λ names. names ++ name ∷ []) h.stack ∙ append_assoc base p.spans (name ∷ []);
        began = subst (Began (since p.fresh p.stage s)) (sym grown)
            (began-enter (since p.fresh p.stage s) (outline k) name place (unlinked e).link (λ any. early p.fresh p.stage s any place sees before.enter_before) h.began);
        bare = λ _. subst EndsWithEnter (sym grown) (unlinked e, last-more None (outline k) (unlinked e), refl);
        reads = h.reads;
        waits = h.waits;
        noted = tt;
      }
  has-after (choose kind ok nok) p base s k choices can sees seen h = record {
    stack = h.stack ∙ sym (append-nil (base ++ p.spans));
    began = h.began;
    bare = λ is. absurd (cc);
    reads = h.reads;
    waits = (
      All-cons (IsBelow (base ++ p.spans)) (choice_made_at kind ok nok k) choices (chosen-below kind ok nok (base ++ p.spans) k h.stack)
          (stack-below base p.spans (base ++ p.spans) choices refl h.waits.0),
      ((λ _. tt), goes-back kind ok nok p.failing k choices h.waits.1.1),
    );
    noted = tt;
  }

module _ {R D : Type 0} where
  pub sees-after : (act : Act R D) (p : Shape) (s : Sight) → IsSeenAhead p.stage s → IsSeenAhead (after act p).stage (seen_after act s)
  sees-after consume p s sees = record { begins = λ e any. at-place s.next; later = λ any q h. to-upto any s.next q h }
  sees-after act p s sees = sees

  pub sight-after : (act : Act R D) (p : Shape) (first s : Sight) → allows act p ≡ true → s ≡ sight_at p.stage first → seen_after act s ≡ sight_at (after act p).stage first
  sight-after consume p first s can e = let waits = waiting-stage p.stage can in ap past (rw waits at e)
  sight-after act p first s can e = e

  -- acts that are allowed leave the shape after them
  pub has-after-all : (acts : List (Act R D)) (p : Shape) (base : List EventName) (s : Sight) (g : Given) (text : Text) (old k : Configuration R D) (choices : List Choice) → allows_all acts p ≡ true
      → IsSeenAhead p.stage s → s ≡ sight_at p.stage (sight g text old) → HasShape p base s g text old k choices
      → HasShape (after_all acts p) (below_all acts p base) (sight_at (after_all acts p).stage (sight g text old)) g text old (does acts s k) (chooses acts s k choices)
  has-after-all [] p base s g text old k choices can sees e h = subst (λ s. HasShape p base s g text old k choices) e h
  has-after-all (act ∷ acts) p base s g text old k choices can sees e h =
      let (one, rest) = and_parts _ _ can in
      has-after-all acts (after act p) (below_after act p base) (seen_after act s) g text old (done act s k) (with_choice_of act k choices) rest (sees-after act p s sees) (sight-after act p (sight g text old) s one e)
      (has-after g text old act p base s k choices one sees e h)

  -- one more act is done on what the acts before it leave
  pub does-then : (acts : List (Act R D)) (act : Act R D) (p : Shape) (first s : Sight) (k : Configuration R D) → allows_all acts p ≡ true → s ≡ sight_at p.stage first
      → does (acts ++ act ∷ []) s k ≡ done act (sight_at (after_all acts p).stage first) (does acts s k)
  does-then [] act p first s k can e = ap (λ s. done act s k) e
  does-then (a ∷ acts) act p first s k can e =
      let (one, rest) = and_parts _ _ can in
      does-then acts act (after a p) first (seen_after a s) (done a s k) rest (sight-after a p first s one e)

  pub chooses-then : (acts : List (Act R D)) (act : Act R D) (s : Sight) (k : Configuration R D) (choices : List Choice) → chooses (acts ++ act ∷ []) s k choices ≡ with_choice_of act (does acts s k) (chooses acts s k choices)
  chooses-then [] act s k choices = refl
  chooses-then (a ∷ acts) act s k choices = chooses-then acts act (seen_after a s) (done a s k) (with_choice_of a k choices)

  -- of acts that are allowed the first are, and the others are behind them
  pub allows-parts : (acts more : List (Act R D)) (p : Shape) → allows_all (acts ++ more) p ≡ true → (allows_all acts p ≡ true) × (allows_all more (after_all acts p) ≡ true)
  allows-parts [] more p can = (refl, can)
  allows-parts (a ∷ acts) more p can =
      let (one, rest) = and_parts (allows a p) (allows_all (acts ++ more) (after a p)) can in
      let (some, last) = allows-parts acts more (after a p) rest in
      (and_from (allows a p) (allows_all acts (after a p)) one some, last)

  -- the choices that a row makes wait above the old ones
  chosen-append : (act : Act R D) (k : Configuration R D) (xs ys : List Choice) → with_choice_of act k xs ++ ys ≡ with_choice_of act k (xs ++ ys)
  chosen-append (enters name link) k xs ys = refl
  chosen-append act k xs ys = refl

  pub chooses-append : (acts : List (Act R D)) (s : Sight) (k : Configuration R D) (xs ys : List Choice) → chooses acts s k xs ++ ys ≡ chooses acts s k (xs ++ ys)
  chooses-append [] s k xs ys = refl
  chooses-append (act ∷ acts) s k xs ys = chooses-append acts (seen_after act s) (done act s k) (with_choice_of act k xs) ys ∙ ap (chooses acts (seen_after act s) (done act s k)) (chosen-append act k xs ys)

  -- acts only add events, but for links
  abbrev pub AddsEvents : List Event → Configuration R D → Type 0
  AddsEvents events k = (more : List Event) × (outline k ≡ events ++ more)

  pub adds-one : (act : Act R D) (s : Sight) (k : Configuration R D) → AddsEvents (outline k) (done act s k)
  adds-one (enters name link) s k = (_, map-append unlinked k.events (record { kind = Enter; name = name; point = s.enter_place; link = link } ∷ []))
  adds-one (exit name) s k = (_, map-append unlinked k.events (record { kind = Exit; name = name; point = s.exit_place; link = None } ∷ []))
  adds-one (links previous next) s k = ([], linked-unlinked (previous k) (next k) k.events ∙ sym (append-nil (outline k)))
  adds-one (exit_noted name) s k = (_, map-append unlinked k.events (record { kind = Exit; name = name; point = k.local.noted.exit; link = None } ∷ []))
  adds-one (enter_noted name) s k = (_, map-append unlinked k.events (record { kind = Enter; name = name; point = k.local.noted.enter; link = None } ∷ []))
  adds-one act s k = ([], sym (append-nil (outline k)))

  pub adds-all : (acts : List (Act R D)) (s : Sight) (k : Configuration R D) → AddsEvents (outline k) (does acts s k)
  adds-all [] s k = ([], sym (append-nil (outline k)))
  adds-all (act ∷ acts) s k =
      let (first, one) = adds-one act s k in
      let (more, rest) = adds-all acts (seen_after act s) (done act s k) in
      (first ++ more, rest ∙ ap (λ es. es ++ more) one ∙ append_assoc (outline k) first more)

  -- an act leaves no fewer events than there were
  keeps-many : (act : Act R D) (s : Sight) (k : Configuration R D) → length k.events ≤ length (done act s k).events
  keeps-many act s k =
      let (more, is) = adds-one act s k in
      omega (arith, length-map (done act s k).events unlinked, ap length is, length-append (outline k) more, length-map k.events unlinked)

  -- a choice saves no fewer events than there are
  made-saves : (n : ℕ) (kind : AttemptKind) (ok nok : State) (k : Configuration R D) → n ≤ length k.events → SavesEvents n (choice_made_at kind ok nok k)
  made-saves n Check ok nok k h = h
  made-saves n Attempt ok Nok k h = tt
  made-saves n Attempt ok _ k h = h

  chosen-save : (n : ℕ) (act : Act R D) (k : Configuration R D) (choices : List Choice) → n ≤ length k.events → AllByRecursion (SavesEvents n) choices → AllByRecursion (SavesEvents n) (with_choice_of act k choices)
  chosen-save n (choose kind ok nok) k choices h saved = (made-saves n kind ok nok k h, saved)
  chosen-save n _ k choices h saved = saved

  -- so do the choices that acts make, than there were before the acts
  pub chooses-save : (n : ℕ) (acts : List (Act R D)) (s : Sight) (k : Configuration R D) (choices : List Choice) → n ≤ length k.events → AllByRecursion (SavesEvents n) choices
      → AllByRecursion (SavesEvents n) (chooses acts s k choices)
  chooses-save n [] s k choices h saved = saved
  chooses-save n (act ∷ acts) s k choices h saved =
      let many = keeps-many act s k in
      chooses-save n acts (seen_after act s) (done act s k) (with_choice_of act k choices) (omega (arith, h, many)) (chosen-save n act k choices h saved)
