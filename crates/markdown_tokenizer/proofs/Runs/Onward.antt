-- What was read of a document is what reading another one leaves, if that begins alike.
use Rattle.markdown_tokenizer.proofs.Prelude.{AreAtPlaces, ◌≡◌, ◌+◌, ◌≤◌, ◌<◌, ◌∙◌, ℕ, nat_lt, List, [], ◌∷◌, ◌++◌, ◌↔◌, ◌⊎◌, false, Some, None, inl, inr, length, refl, sym, ap, arith, subst, Contains, is_some, Message, Name, State, Next, Retry, Ok, Nok, Error, Byte, Point, Seat, point, point_at, stands_before, ParseOptions, Given, Text, Piece, pushed, empty_text, followed_by, followed_by_all, FitsAfter, CanFollow, IsDocument, IsText, Configuration, Choice, Step, TokenizerValue, start_configuration, sight, fed, settled_at, Rules, IsLawful, CanPush, HoldsOf, IsFlushed, IsPushed, IsRefused, LeadsOn, IsPlace, given_by, EndsFrom, Stand, stand, stand_of, Turns, no_turn, one_turn, turn}
use Rattle.std.proofs.lemmas.Option.{same_Some, cond_some}
use Rattle.markdown_tokenizer.specs.Reading.{Reading}
use Rattle.markdown_tokenizer.specs.Alike.{AreAlikeUpTo, GoesOnElsewhere, IsLeftIn, LooksNoFurther, RestIsRun, at_document_start, in_document}
use Rattle.markdown_tokenizer.proofs.Inside.Changes.{text-more}
use Rattle.markdown_tokenizer.proofs.Positions.Cursors.{same-self}
use Rattle.markdown_tokenizer.proofs.Positions.Moving.{BeginAlike, point-alike, point-at-alike, range-alike}
use Rattle.markdown_tokenizer.proofs.Positions.Order.{before-self}
use Rattle.markdown_tokenizer.proofs.Positions.Points.{point_at-is}
use Rattle.markdown_tokenizer.proofs.Positions.Standing.{place-of-point}
use Rattle.markdown_tokenizer.proofs.Readings.Turns.{turns-are-kept}
use Rattle.markdown_tokenizer.proofs.Runs.Alike.{calls-are-alike}
use Rattle.markdown_tokenizer.proofs.Runs.Moved.{alike-begin, with_bytes}
use Rattle.markdown_tokenizer.proofs.Runs.Whole.{RunsBy, run-flushed, run-holds, run-last, run-pushed, run-range, run-refused, run-start, start-at, start-is-point, start-upto}
use Rattle.markdown_tokenizer.proofs.Runs.Working.{continues-all, holds-on, text-on}

-- each turn keeps the invariant, and its calls are paid
module _ {R D : Type 0} (h : Given) (rules : Rules R D) (laws : IsLawful h rules) (w : Text) (is : IsText h w) where
  abbrev cost_at : Stand R D → ℕ
  cost_at b = b.calls + rules.cost w b.configuration b.choices b.state

  abbrev HoldsAt : Stand R D → Type 0
  HoldsAt b = rules.holds w b.configuration b.choices b.state

  turn-leads : (k : Configuration R D) (cs : List Choice) (s : State) (calls : ℕ) (b : Stand R D) → turn h rules.step w k cs s calls ≡ Some b → rules.holds w k cs s
      → HoldsAt b × (cost_at b ≤ cost_at (stand k cs s calls))
  turn-leads k cs (Next n) calls b e hold =
      let p = cond_some (nat_lt k.position (length w.seats)) (stand (record k { waiting = Byte }) cs (Retry n) calls) b e in
      let feeds : fed w k ≡ record k { waiting = Byte } = (let more = p.0 in rw more refl) in
      let kept = subst (λ (q : Configuration R D). rules.holds w q cs (Retry n)) feeds (laws.invariant_kept.by_feeding w k cs n is hold) in
      let paid = subst (λ (q : Configuration R D). rules.cost w q cs (Retry n) ≤ rules.cost w k cs (Next n)) feeds (laws.cost_pays.for_feeding w k cs n is hold) in
      subst (λ (y : Stand R D). HoldsAt y × (cost_at y ≤ cost_at (stand k cs (Next n) calls))) p.1 (kept, omega (arith, paid))
  turn-leads k cs (Retry n) calls b e hold =
      let s : Step R D = rules.step (sight h w k) k n in
      let p = cond_some (is_some (sight h w k).current) (stand s.configuration (s.choices ++ cs) s.answer (calls + 1)) b e in
      let paid = laws.cost_pays.for_calls w k cs n is hold in
      subst (λ (y : Stand R D). HoldsAt y × (cost_at y ≤ cost_at (stand k cs (Retry n) calls))) p.1 (laws.invariant_kept.by_calls w k cs n is hold, omega (arith, paid))
  turn-leads k (c ∷ cs) Ok calls b e hold =
      let next : stand (settled_at c.kind c.saved Ok k) cs c.ok calls ≡ b = cc in
      let paid = laws.cost_pays.for_ok w k c cs is hold in
      subst (λ (y : Stand R D). HoldsAt y × (cost_at y ≤ cost_at (stand k (c ∷ cs) Ok calls))) next (laws.invariant_kept.by_ok w k c cs is hold, omega (arith, paid))
  turn-leads k (c ∷ cs) Nok calls b e hold =
      let next : stand (settled_at c.kind c.saved Nok k) cs c.nok calls ≡ b = cc in
      let paid = laws.cost_pays.for_nok w k c cs is hold in
      subst (λ (y : Stand R D). HoldsAt y × (cost_at y ≤ cost_at (stand k (c ∷ cs) Nok calls))) next (laws.invariant_kept.by_nok w k c cs is hold, omega (arith, paid))
  turn-leads k [] Ok calls b e hold = absurd (cc)
  turn-leads k [] Nok calls b e hold = absurd (cc)
  turn-leads k cs (Error m) calls b e hold = absurd (cc)

  turns-lead : {a b : Stand R D} → Turns h rules.step w a b → HoldsAt a → HoldsAt b × (cost_at b ≤ cost_at a)
  turns-lead no_turn hold = (hold, omega arith)
  turns-lead (one_turn {a = a} {b = b} e more) hold =
      let one = turn-leads a.configuration a.choices a.state a.calls b e hold in
      let rest = turns-lead more one.0 in
      (rest.0, omega (arith, one.1, rest.1))

-- that no turn is left depends on the text alone, after a push
none-left : {R D : Type 0} (g h : Given) (rules other : Rules R D) (text : Text) (k : Configuration R D) (cs : List Choice) (calls : ℕ) (s : State)
    → ((name : Name) × (s ≡ Next name)) ⊎ ((m : Message) × (s ≡ Error m)) → turn g rules.step text k cs s calls ≡ None → turn h other.step text k cs s calls ≡ None
none-left g h rules other text k cs calls (Next name) is e = e
none-left g h rules other text k cs calls (Error m) is e = refl
none-left g h rules other text k cs calls (Retry n) is e = elim is [ inl next ↦ absurd (let no = next.1 in cc) | inr ended ↦ absurd (let no = ended.1 in cc) ]
none-left g h rules other text k cs calls Ok is e = elim is [ inl next ↦ absurd (let no = next.1 in cc) | inr ended ↦ absurd (let no = ended.1 in cc) ]
none-left g h rules other text k cs calls Nok is e = elim is [ inl next ↦ absurd (let no = next.1 in cc) | inr ended ↦ absurd (let no = ended.1 in cc) ]

abbrev origin : Point
origin = point 1 1 0 0

module _ {M R D : Type 0} (rules : M → Given → Rules R D) (lawful : (m : M) (g : Given) → IsLawful g (rules m g)) (m : M) (looks : LooksNoFurther (rules m)) (g : Given) (other : List ℕ)
    (cut : ℕ × ℕ) (start : Name) (new : TokenizerValue M R D) (answer : State) (document : IsDocument g) (starts : Contains (rules m (with_bytes g other)).starts start)
    (can : CanPush g (empty_text origin) (0, 0) cut) (pushes : IsPushed (rules m g) (at_document_start g m) (0, 0) cut (Next start) new answer) (alike : AreAlikeUpTo g (with_bytes g other) new.text.end)
    (places : AreAtPlaces g.tab other new.configuration.events) where
  abbrev h : Given
  h = with_bytes g other

  d : 0 < g.tab
  d = omega (arith, document.tab.0)

  abbrev p : Point
  p = can.1

  from-is : can.0 ≡ origin
  from-is = same_Some _ _ (sym can.2 ∙ start-at g.tab d g.bytes)

  place : IsPlace g.tab g.bytes p
  place = place-of-point g.tab g.bytes d p (point_at-is g.tab g.bytes cut p can.3).is_point

  first : FitsAfter g (empty_text origin) (pushed origin p)
  first = subst (λ (x : Point). FitsAfter g (empty_text origin) (pushed x p)) from-is can.4

  text-is : new.text ≡ followed_by g (empty_text origin) (pushed origin p)
  text-is = pushes.text origin p (start-at g.tab d g.bytes) can.3

  begins : BeginAlike g.tab g.bytes other p
  begins = alike-begin g other p d place (subst (λ (x : Text). AreAlikeUpTo g h x.end) text-is alike)

  at-end : stands_before p p ≡ false
  at-end = before-self p.index p.vs

  cut-found : point_at g.tab other cut ≡ Some p
  cut-found = point-at-alike g.tab d g.bytes other p begins cut p at-end can.3

  fits : FitsAfter h (empty_text origin) (pushed origin p)
  fits = (start-is-point h d, point-alike g.tab d g.bytes other p begins p at-end place, same-self g.tab other origin, start-upto g.tab d other p)

  text-there : new.text ≡ followed_by h (empty_text origin) (pushed origin p)
  text-there = text-is ∙ ap (λ (xs : List Seat). record { start = origin; seats = xs; end = p }) (sym (range-alike g.tab d g.bytes other p begins origin p at-end))

  is-here : IsText g new.text
  is-here = subst (IsText g) (sym text-is) (text-more g (empty_text origin) (pushed origin p) (record { document = document; starts = start-is-point g d; pieces = []; follow = tt; is = refl }) first)

  at-origin : IsText h (empty_text origin)
  at-origin = record { document = alike.possible; starts = start-is-point h d; pieces = []; follow = tt; is = refl }

  is-there : IsText h new.text
  is-there = subst (IsText h) (sym text-there) (text-more h (empty_text origin) (pushed origin p) at-origin fits)

  abbrev begun_at : Stand R D
  begun_at = stand (start_configuration false) [] (Next start) 0

  -- on each text that goes on from there
  module _ (rest : List Piece) (follow : CanFollow h new.text rest) where
    abbrev all : Text
    all = followed_by_all h new.text rest

    kept-turns : Turns h (rules m h).step all begun_at (stand_of new answer)
        × ((r : Reading R D) → EndsFrom h (rules m h).step all (stand_of new answer) r ↔ EndsFrom h (rules m h).step all begun_at r)
    kept-turns =
        let c = continues-all h new.text rest in
        turns-are-kept g h (rules m g).step (rules m h).step new.text all (calls-are-alike (rules m) looks g h new.text all c.more is-here alike c.starts c.seats) begun_at (stand_of new answer) pushes.stands

    holds-first : (rules m h).holds all (start_configuration false) [] (Next start)
    holds-first =
        let keeps = (lawful m h).invariant_kept in let piece = pushed origin p in
        subst (λ (x : Text). (rules m h).holds (followed_by_all h x rest) (start_configuration false) [] (Next start)) (sym text-there)
        (holds-on h (rules m h) keeps (empty_text origin) (piece ∷ rest) (start_configuration false) [] (Next start) at-origin (fits, subst (λ (x : Text). CanFollow h x rest) text-there follow) refl
        (keeps.at_starts origin false start at-origin starts))

    leads-there : LeadsOn h (rules m h) all (at_document_start h m) (Next start) (in_document h new) answer
    leads-there =
        let led = turns-lead h (rules m h) (lawful m h) all (text-on h new.text rest is-there follow) kept-turns.0 holds-first in
        record { kept = led.0; same = kept-turns.1; paid = led.1 }

  pushed-there : IsPushed (rules m h) (at_document_start h m) (0, 0) cut (Next start) (in_document h new) answer
  pushed-there = record {
    given = refl;
    machine = pushes.machine;
    open_still = pushes.open_still;
    phase = pushes.phase;
    text = λ x y x_is y_is.
        let from : x ≡ origin = same_Some _ _ (sym x_is ∙ start-at g.tab d other) in let to : y ≡ p = same_Some _ _ (sym y_is ∙ cut-found) in
        rw (from, to) text-there;
    outcome = leads-there;
    stands = (kept-turns [] tt).0;
    used_up = none-left g h (rules m g) (rules m h) new.text new.configuration new.choices new.calls answer pushes.answers pushes.used_up;
    read = pushes.read;
    answers = pushes.answers;
    counted = pushes.counted;
    at_places = places;
    message = λ x e. absurd (cc);
  }

  pub left-there : IsLeftIn rules m h cut start new answer
  left-there = ((origin, p, start-at g.tab d other, cut-found, fits), pushed-there)

module _ {M R D : Type 0} (rules : M → Given → Rules R D) (lawful : (m : M) (g : Given) → IsLawful g (rules m g)) (m : M) (bytes : List ℕ) (options : ParseOptions)
    (document : IsDocument (given_by bytes options)) (cut : ℕ × ℕ) (start : Name) (starts : Contains (rules m (given_by bytes options)).starts start)
    (new : TokenizerValue M R D) (answer : State) (left : IsLeftIn rules m (given_by bytes options) cut start new answer) where
  abbrev there : Given
  there = given_by bytes options

  abbrev here : TokenizerValue M R D
  here = in_document there new

  abbrev end_of : ℕ × ℕ
  end_of = (length bytes, 0)

  machine-is : new.machine ≡ m
  machine-is = left.1.machine

  -- the run has come to the cut
  at-cut : RunsBy rules bytes options m start cut [] here answer
  at-cut = run-pushed rules bytes options m start (0, 0) cut [] (at_document_start there m) (Next start)
      (run-start rules bytes options m document (lawful m there).invariant_kept start starts (cut ∷ []) (left.0.1, left.0.3, start-upto options.tab_size document.tab.0 bytes left.0.1, tt) (at_document_start there m) refl)
      here answer left.1

  at-last : RunsBy rules bytes options m start cut (end_of ∷ []) here answer
  at-last = run-last rules bytes options m start cut [] here answer at-cut

  module _ (read : TokenizerValue M R D) (last : State) (pushes : IsPushed (rules m there) here cut end_of answer read last) where
    -- and then to the end
    at-end-of : RunsBy rules bytes options m start end_of [] read last
    at-end-of = run-pushed rules bytes options m start cut end_of [] here answer at-last read last (subst (λ (x : M). IsPushed (rules x there) here cut end_of answer read last) (sym machine-is) pushes)

    -- what is said of the run's machine and document is said of the tokenizer's
    of-read : (P : M → Given → Type 0) → P m there → P read.machine read.given
    of-read P h = let machine = pushes.machine ∙ machine-is in let given = pushes.given in rw (machine, given) h

    read-of : (P : M → Given → Type 0) → P read.machine read.given → P m there
    read-of P h = let machine = pushes.machine ∙ machine-is in let given = pushes.given in rw (machine, given) at h

  rest-is-run : RestIsRun (rules m) there cut start here answer
  rest-is-run = record {
    holds = subst (λ (x : M). HoldsOf (rules x there) here answer) machine-is (run-holds rules bytes options m start cut [] here answer at-cut);
    range = run-range rules bytes options m start cut end_of [] here answer at-last;
    flushes = λ read last pushes. read-of read last pushes (λ x y. HoldsOf (rules x y) read last) (run-holds rules bytes options m start end_of [] read last (at-end-of read last pushes));
    run = λ resolve read final last sub pushes f. run-flushed rules bytes options m start read last (at-end-of read last pushes) resolve final final.configuration.events sub
        (of-read read last pushes (λ x y. IsFlushed (rules x y) resolve read last final sub) f) refl;
    refused = λ resolve read final last message pushes f. run-refused rules bytes options m start read last (at-end-of read last pushes) resolve final message
        (of-read read last pushes (λ x y. IsRefused (rules x y) resolve read last final message) f);
  }

abbrev document_of : List ℕ → ParseOptions → ℕ → Given
document_of bytes options tab = record { bytes = bytes; options = options; tab = tab }

pub goes-on-elsewhere : {M R D : Type 0} (rules : M → Given → Rules R D) → ((m : M) (g : Given) → IsLawful g (rules m g)) → GoesOnElsewhere rules
goes-on-elsewhere {M} {R} {D} rules lawful m looks g h cut start new answer document starts can pushes alike places =
    let tab : h.tab ≡ g.tab = alike.possible.one_size ∙ ap (λ (o : ParseOptions). o.tab_size) (sym alike.options) ∙ sym document.one_size in
    let same : h ≡ with_bytes g h.bytes = ap (λ (o : ParseOptions). document_of h.bytes o h.tab) (sym alike.options) ∙ ap (document_of h.bytes g.options) tab in
    let left : IsLeftIn rules m h cut start new answer = subst (λ (x : Given). IsLeftIn rules m x cut start new answer) (sym same)
    (left-there rules lawful m looks g h.bytes cut start new answer document (subst (λ (x : Given). Contains (rules m x).starts start) same starts) can pushes
    (subst (λ (x : Given). AreAlikeUpTo g x new.text.end) same alike) (subst (λ (t : ℕ). AreAtPlaces t h.bytes new.configuration.events) tab places)) in
    let by : h ≡ given_by h.bytes h.options = ap (document_of h.bytes h.options) alike.possible.one_size in (
      left,
      subst (λ (x : Given). RestIsRun (rules m) x cut start (in_document x new) answer) (sym by)
          (rest-is-run rules lawful m h.bytes h.options (subst IsDocument by alike.possible) cut start (subst (λ (x : Given). Contains (rules m x).starts start) by starts) new answer
          (subst (λ (x : Given). IsLeftIn rules m x cut start new answer) by left)),
    )
