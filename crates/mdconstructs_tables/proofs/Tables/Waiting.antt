-- Choices that wait, in the invariant of a table: what acts make of them, and that they stay if the text goes on.
use Rattle.mdconstructs_tables.proofs.Markers.{stack-below}
use Rattle.mdconstructs_tables.proofs.Prelude.{◌≡◌, ℕ, ◌+◌, ◌≤◌, ◌||◌, not, List, [], ◌∷◌, ◌++◌, Bool, true, false, Option, Some, None, length, refl, sym, ap, ◌∙◌, subst, arith, take, length-append, append_assoc, inl, inr, All, IfSome, slice_get, last_or, take-append_seam, and_parts, append-nil, take-append-le, length-map, take_all, All-nil, All-cons, none-some, slice_get_cases, slice_get_past, slice_get_within, Event, Point, State, Nok, unlinked, stands_before, shown, or-leads, Byte, AttemptKind, Attempt, Given, Text, Configuration, Choice, Saved, Sight, sight, current_of, next_place, end_or, byte_of, saved_at, IsAsFar, Act, consume, choose, StateRows, class_of, choice_made_at, with_choice_of, done, seen_after, does, chooses, is_void_last, saves, Stage, end_waits, byte_waits, byte_read, is_some, Shape, Frame, frame_of, allows, after, allows_all, fits_choice, fits_choices, waits_in, outline, EndsWithEnter, Began, upto, since, began_there, began_in, exit_place_at, class_in, IsSavedIn, IsSaved, position_of, events_saved, IsBelow, AreWaiting, get-front, EventName}
use Rattle.mdconstructs_tables.proofs.Rows.Laws.{Waited, reached, IsSeenAhead, sight_at, HasShape, below_after, below_all, adds-one, began-on, left-at, has-after, sees-after, sight-after}
use Rattle.mdconstructs_tables.proofs.GrowingTexts.{Extends, left-kept, seat-at}

-- What was saved
module _ {W R D : Type 0} (class : ℕ → W) (states : List (StateRows W R D)) (g : Given) (text : Text) where
  -- what was saved stays within if more events come, and more is read
  saved-on : (stack : List EventName) (f : Frame W) (b : Bool) (saved : Option Saved) (cs : List Choice) (below : List EventName) (p p' : ℕ) (events events' more : List Event) → p ≤ p' → events' ≡ events ++ more
      → (AreWaiting class states g text p events below cs → AreWaiting class states g text p' events' below cs) → IsSaved class g text p events stack f b saved
      → AreWaiting class states g text (position_of saved p) (events_saved saved events) below cs
      → IsSaved class g text p' events' stack f b saved × AreWaiting class states g text (position_of saved p') (events_saved saved events') below cs
  saved-on stack f true (Some saved) cs below p p' events events' more further longer on h rest =
      let same : take saved.events events' ≡ take saved.events events = ap (take saved.events) longer ∙ take-append-le saved.events events more h.within in (
        record {
          stack_is = h.stack_is;
          behind = omega (arith, h.behind);
          within = omega (arith, h.within, ap length longer, length-append events more);
          began = subst (Began (began_in f g text saved.position)) (sym same) h.began;
          void = λ v. subst EndsWithEnter (sym same) (h.void v);
          waits = h.waits;
        },
        subst (λ es. AreWaiting class states g text saved.position es below cs) (sym same) rest,
      )
  saved-on stack f false None cs below p p' events events' more further longer on h rest = (h, on rest)
  saved-on stack f b saved cs below p p' events events' more further longer on h rest = absurd h

  pub more-waiting : (cs : List Choice) (base : List EventName) (p p' : ℕ) (events events' more : List Event) → p ≤ p' → events' ≡ events ++ more → AreWaiting class states g text p events base cs → AreWaiting class states g text p' events' base cs
  more-waiting [] base p p' events events' more further longer h = h
  more-waiting (c ∷ cs) base p p' events events' more further longer h =
      let w = h.0 in
      let (saved, rest) = saved-on base w.frame (saves c.kind c.nok) c.saved cs w.below p p' events events' more further longer (more-waiting cs w.below p p' events events' more further longer) w.saved h.1 in
      (record { frame = w.frame; below = w.below; stack_is = w.stack_is; fits = w.fits; saved = saved; within = w.within }, rest)

  -- what holds of each that a choice saved
  pub if-saved : (P : Saved → Type 0) (stack : List EventName) (f : Frame W) (p : ℕ) (events : List Event) → ((s : Saved) → IsSavedIn class g text p events stack f s → P s)
      → (b : Bool) (saved : Option Saved) → IsSaved class g text p events stack f b saved → IfSome saved P
  if-saved P stack f p events each true (Some saved) h = each saved h
  if-saved P stack f p events each false None h = tt
  if-saved P stack f p events each b saved h = absurd h

  -- what choices saved of the stack is no longer than the spans below
  pub all-below : (cs : List Choice) (base : List EventName) (p : ℕ) (events : List Event) → AreWaiting class states g text p events base cs → All (IsBelow base) cs
  all-below [] base p events h = All-nil (IsBelow base)
  all-below (c ∷ cs) base p events h =
      let w = h.0 in
      let rest = all-below cs w.below (position_of c.saved p) (events_saved c.saved events) h.1 in
      All-cons (IsBelow base) c cs (if-saved (λ s. length s.stack ≤ length base) base w.frame p events (λ s h. omega (arith, ap length h.stack_is)) (saves c.kind c.nok) c.saved w.saved)
      (stack-below w.below w.frame.spans base cs w.stack_is rest)

  -- and it is a front of each stack above them
  abbrev pub IsFront : List EventName → Choice → Type 0
  IsFront stack c = IfSome c.saved (λ s. take (length s.stack) stack ≡ s.stack)

  pub all-front : (cs : List Choice) (base more : List EventName) (p : ℕ) (events : List Event) → AreWaiting class states g text p events base cs → All (IsFront (base ++ more)) cs
  all-front [] base more p events h = All-nil (IsFront (base ++ more))
  all-front (c ∷ cs) base more p events h =
      let w = h.0 in
      let rest = all-front cs w.below (w.frame.spans ++ more) (position_of c.saved p) (events_saved c.saved events) h.1 in
      let same : w.below ++ (w.frame.spans ++ more) ≡ base ++ more = sym (append_assoc w.below w.frame.spans more) ∙ ap (λ b. b ++ more) (sym w.stack_is) in
      let one = if-saved (λ s. take (length s.stack) (base ++ more) ≡ s.stack) base w.frame p events (λ s h. rw h.stack_is (take-append_seam base more)) (saves c.kind c.nok) c.saved w.saved in
      All-cons (IsFront (base ++ more)) c cs one (subst (λ b. All (IsFront b) cs) same rest)

  -- a choice that is made waits
  module _ (old : Configuration R D) (w : Option W) (here : class_of class (sight g text old).current ≡ w) (p : Shape) (base : List EventName) (s : Sight) (k : Configuration R D) (choices : List Choice)
      (h : HasShape p base s g text old k choices) (seen : s ≡ sight_at p.stage (sight g text old)) (waiting : AreWaiting class states g text k.position (outline k) base choices) where
    whole : take (length k.events) (outline k) ≡ outline k
    whole = take_all (length k.events) (outline k) (omega (arith, length-map k.events unlinked))

    byte-left : (stage : Stage) → IsAsFar k (reached stage old) → Waited stage text old → (v : W) → waits_in stage w ≡ Some v → class_in class text k.position ≡ Some v
    byte-left byte_waits far waited v e = ap (class_in class text) far.0 ∙ subst (λ x. class_of class (current_of text old.position x) ≡ w) waited.0 here ∙ e
    byte-left stage far waited v e = absurd (cc)

    -- where spans may have begun there
    in-frame : (stage : Stage) (fresh : Bool) (v : Option W) (s : Sight) → class_of class (sight g text old).current ≡ v → s ≡ sight_at stage (sight g text old) → IsAsFar k (reached stage old) → Waited stage text old
        → (any : Bool) (q : Point) → since fresh stage s any q ≡ true → began_there fresh (is_some (waits_in stage v)) g text k.position any q ≡ true
    in-frame byte_waits true (Some v) s is seen far waited any q b =
        let next : s.next ≡ shown g.bytes (next_place text k.position Byte) =
        ap (λ s. s.next) seen ∙ ap (λ x. shown g.bytes (next_place text old.position x)) waited.0 ∙ ap (λ i. shown g.bytes (next_place text i Byte)) (sym far.0) in
        subst (λ x. stands_before q x ≡ true) next b
    in-frame byte_waits true None s is seen far waited any q b =
        let (seat, at) = seat-at text old.position waited.1 in
        let none : class_of class (byte_of (slice_get text.seats old.position)) ≡ None = subst (λ x. class_of class (current_of text old.position x) ≡ None) waited.0 is in
        absurd (none-some (class seat.byte) (sym none ∙ ap (λ o. class_of class (byte_of o)) at))
    in-frame byte_waits false v s is seen far waited any q b =
        let left = ap (λ s. s.exit_place) seen ∙ sym (left-at g text old byte_waits k far waited) in subst (λ x. upto any x q ≡ true) left b
    in-frame byte_read true v s is seen far waited any q b =
        let left = ap (λ s. s.exit_place) seen ∙ sym (left-at g text old byte_read k far waited) in subst (λ x. upto true x q ≡ true) left b
    in-frame byte_read false v s is seen far waited any q b =
        let left = ap (λ s. s.exit_place) seen ∙ sym (left-at g text old byte_read k far waited) in subst (λ x. upto any x q ≡ true) left b
    in-frame end_waits true v s is seen far waited any q b =
        let left = ap (λ s. s.exit_place) seen ∙ sym (left-at g text old end_waits k far waited) in subst (λ x. upto true x q ≡ true) left b
    in-frame end_waits false v s is seen far waited any q b =
        let left = ap (λ s. s.exit_place) seen ∙ sym (left-at g text old end_waits k far waited) in subst (λ x. upto any x q ≡ true) left b

    is-saved : (not (is_void_last (last_or None p.spans)) || p.bare) ≡ true → IsSavedIn class g text k.position (outline k) (base ++ p.spans) (frame_of w p) (saved_at k)
    is-saved void =
        let began = began-on (since p.fresh p.stage s) (began_in (frame_of w p) g text k.position) (outline k) (in-frame p.stage p.fresh w s here seen h.reads.0 h.reads.1) h.began in
        record {
          stack_is = h.stack;
          behind = omega arith;
          within = omega (arith, length-map k.events unlinked);
          began = subst (Began (began_in (frame_of w p) g text k.position)) (sym whole) began;
          void = λ v. subst EndsWithEnter (sym whole) (h.bare (or-leads (is_void_last (last_or None p.spans)) p.bare void v));
          waits = byte-left p.stage h.reads.0 h.reads.1;
        }

    made : (kind : AttemptKind) (ok nok : State) → fits_choice states (frame_of w p) kind ok nok ≡ true → IsSavedIn class g text k.position (outline k) (base ++ p.spans) (frame_of w p) (saved_at k)
        → AreWaiting class states g text k.position (outline k) (base ++ p.spans) (choice_made_at kind ok nok k ∷ choices)
    made Attempt ok Nok fit saved = (record { frame = frame_of w p; below = base; stack_is = refl; fits = fit; saved = tt; within = h.waits.1 }, waiting)
    made kind ok nok fit saved = (record { frame = frame_of w p; below = base; stack_is = refl; fits = fit; saved = saved; within = h.waits.1 }, subst (λ es. AreWaiting class states g text k.position es base choices) (sym whole) waiting)

  -- choices wait after an act
  waits-after : (act : Act R D) (acts : List (Act R D)) (old : Configuration R D) (w : Option W) → class_of class (sight g text old).current ≡ w → (p : Shape) (base : List EventName) (s : Sight) (k : Configuration R D) (choices : List Choice) → allows act p ≡ true
      → fits_choices states w (act ∷ acts) p ≡ true → HasShape p base s g text old k choices → s ≡ sight_at p.stage (sight g text old) → AreWaiting class states g text k.position (outline k) base choices
      → AreWaiting class states g text (done act s k).position (outline (done act s k)) (below_after act p base) (with_choice_of act k choices) × (fits_choices states w acts (after act p) ≡ true)
  waits-after consume acts old w here p base s k choices can fit h seen waiting = (more-waiting choices base k.position (k.position + 1) (outline k) (outline k) [] (omega arith) (sym (append-nil (outline k))) waiting, fit)
  waits-after (choose kind ok nok) acts old w here p base s k choices can fit h seen waiting =
      let (one, rest) = and_parts _ _ fit in
      (made old w here p base s k choices h seen waiting kind ok nok one (is-saved old w here p base s k choices h seen waiting can), rest)
  waits-after act acts old w here p base s k choices can fit h seen waiting =
      let (more, grown) = adds-one act s k in (more-waiting choices base k.position k.position (outline k) _ more (omega arith) grown waiting, fit)

  pub waits-after-all : (acts : List (Act R D)) (old : Configuration R D) (w : Option W) → class_of class (sight g text old).current ≡ w → (p : Shape) (base : List EventName) (s : Sight) (k : Configuration R D) (choices : List Choice) → allows_all acts p ≡ true
      → fits_choices states w acts p ≡ true → IsSeenAhead p.stage s → HasShape p base s g text old k choices → s ≡ sight_at p.stage (sight g text old) → AreWaiting class states g text k.position (outline k) base choices
      → AreWaiting class states g text (does acts s k).position (outline (does acts s k)) (below_all acts p base) (chooses acts s k choices)
  waits-after-all [] old w here p base s k choices can fit sees h seen waiting = waiting
  waits-after-all (act ∷ acts) old w here p base s k choices can fit sees h seen waiting =
      let (one, rest) = and_parts _ _ can in
      let (now, fits) = waits-after act acts old w here p base s k choices one fit h seen waiting in
      waits-after-all acts old w here (after act p) (below_after act p base) (seen_after act s) (done act s k) (with_choice_of act k choices) rest fits (sees-after act p s sees)
      (has-after g text old act p base s k choices one sees seen h) (sight-after act p (sight g text old) s one seen) now

-- if the text goes on, what was saved is as it was
module _ {W R D : Type 0} (class : ℕ → W) (states : List (StateRows W R D)) (g : Given) (text more : Text) (e : Extends text more) where
  pub place-kept : (p : ℕ) → p ≤ length text.seats → exit_place_at g more p ≡ exit_place_at g text p
  place-kept p h = ap (shown g.bytes) (left-kept text more p e h)

  -- the byte at a position stays
  pub class-kept : (p : ℕ) (w : W) → class_in class text p ≡ Some w → class_in class more p ≡ Some w
  class-kept p w is = elim (slice_get_cases text.seats p).1 [
    | inl there ↦ ap (λ l. class_of class (byte_of (slice_get l p))) e.seats ∙ ap (λ o. class_of class (byte_of o)) (get-front text.seats e.more p (slice_get_within text.seats p there.0 there.2)) ∙ is
    | inr past ↦ let none : class_in class text p ≡ None = ap (λ o. class_of class (byte_of o)) (slice_get_past text.seats p past.0) in absurd (none-some w (sym none ∙ is))
  ]

  -- so does its end
  pub next-kept : (p : ℕ) (w : W) → class_in class text p ≡ Some w → shown g.bytes (next_place text p Byte) ≡ shown g.bytes (next_place more p Byte)
  next-kept p w is = elim (slice_get_cases text.seats p).1 [
    | inl there ↦
        let same : slice_get more.seats p ≡ slice_get text.seats p = ap (λ l. slice_get l p) e.seats ∙ get-front text.seats e.more p (slice_get_within text.seats p there.0 there.2) in
        ap (λ o. shown g.bytes (end_or text.end o)) there.2 ∙ ap (λ o. shown g.bytes (end_or more.end o)) (sym there.2 ∙ sym same)
    | inr past ↦ let none : class_in class text p ≡ None = ap (λ o. class_of class (byte_of o)) (slice_get_past text.seats p past.0) in absurd (none-some w (sym none ∙ is))
  ]

  -- and where the spans of a frame may have begun
  frame-kept : (fresh : Bool) (waits : Option W) (p : ℕ) → p ≤ length text.seats → ((w : W) → waits ≡ Some w → class_in class text p ≡ Some w)
      → (any : Bool) (q : Point) → began_there fresh (is_some waits) g text p any q ≡ true → began_there fresh (is_some waits) g more p any q ≡ true
  frame-kept true (Some w) p inside at any q b = subst (λ x. stands_before q x ≡ true) (next-kept p w (at w refl)) b
  frame-kept true None p inside at any q b = subst (λ x. upto true x q ≡ true) (sym (place-kept p inside)) b
  frame-kept false waits p inside at any q b = subst (λ x. upto any x q ≡ true) (sym (place-kept p inside)) b

  saved-longer : (stack : List EventName) (f : Frame W) (b : Bool) (saved : Option Saved) (p : ℕ) (events : List Event) → p ≤ length text.seats → IsSaved class g text p events stack f b saved
      → IsSaved class g more p events stack f b saved × (position_of saved p ≤ length text.seats)
  saved-longer stack f true (Some saved) p events inside h = (
    record {
      stack_is = h.stack_is;
      behind = h.behind;
      within = h.within;
      began = began-on (began_in f g text saved.position) (began_in f g more saved.position) (take saved.events events) (frame-kept f.fresh f.waits saved.position (omega (arith, h.behind)) h.waits) h.began;
      void = h.void;
      waits = λ w is. class-kept saved.position w (h.waits w is);
    },
    omega (arith, h.behind),
  )
  saved-longer stack f false None p events inside h = (h, inside)
  saved-longer stack f b saved p events inside h = absurd h

  pub waiting-longer : (cs : List Choice) (base : List EventName) (p : ℕ) (events : List Event) → p ≤ length text.seats → AreWaiting class states g text p events base cs → AreWaiting class states g more p events base cs
  waiting-longer [] base p events inside h = h
  waiting-longer (c ∷ cs) base p events inside h =
      let w = h.0 in
      let (saved, further) = saved-longer base w.frame (saves c.kind c.nok) c.saved p events inside w.saved in (
        record { frame = w.frame; below = w.below; stack_is = w.stack_is; fits = w.fits; saved = saved; within = w.within },
        waiting-longer cs w.below (position_of c.saved p) (events_saved c.saved events) further h.1,
      )
