-- Where strings are read, each virtual byte stays in one innermost span.
use Rattle.std.proofs.Common.{◌≡◌, ◌∙◌, ◌<◌, ◌&&◌, ◌++◌, ℕ, List, [], ◌∷◌, Bool, true, false, cond, ap, append_assoc, refl, subst, sym}
use Rattle.std.proofs.lemmas.Bool.{and_parts}
use Rattle.markdown_base.specs.declared.configuration.Constructs.{Constructs}
use Rattle.markdown_base.specs.declared.event.Event.{Event}
use Rattle.markdown_base.specs.declared.event.Kind.{Kind}
use Rattle.markdown_base.specs.declared.event.Kind.TheVariants.{Enter, Exit}
use Rattle.markdown_base.specs.Events.{is_enter}
use Rattle.markdown_base.specs.Places.{shown}
use Rattle.markdown_base.specs.Virtual.{Seat, end_after, virtual}
use Rattle.mdconstructs_machines.proofs.Innermost.{enter-more, exit-more, span-more}
use Rattle.mdconstructs_machines.specs.Innermost.{AccountFor, ended_next, innermost_spans}
use Rattle.mdinline_link_strings.proofs.Cuts.{string-cut}
use Rattle.mdinline_link_strings.proofs.Kept.{data-is, exit-first}
use Rattle.mdinline_link_strings.proofs.Plain.{line-there}
use Rattle.mdinline_link_strings.specs.Laws.{StringsKeepInnermostSpans}
use Rattle.mdinline_constructs.specs.StringItems.{string_seat_events}
use Rattle.mdinline_link_strings.specs.Strings.{in_string_after, is_data, line_as_string, with_strings_from}
use Rattle.mdinline_text_machine.proofs.DeepSpans.Atoms.{atoms-more, events_of, none-account, open-atoms, span-in}

-- ---- the first of some events

-- they begin with an enter, if there are any
abbrev Opens : List Event → Type 0
Opens [] = Unit {0}
Opens (e ∷ es) = e.kind ≡ Enter

module _ (bytes : List ℕ) where
  -- a span with nothing in it comes first: it is over some virtual bytes, and the others account for those behind it
  record IsFirstSpan (e f : Event) (es : List Event) (seats : List Seat) : Type 0 where
    first : Seat
    others : List Seat
    behind : List Seat
    are : seats ≡ (first ∷ others) ++ behind
    from : e.point ≡ shown bytes first.point
    to : f.point ≡ shown bytes (end_after first.end others)
    back : AccountFor es bytes behind

  first-span : (e f : Event) (es : List Event) (seats : List Seat) → e.kind ≡ Enter → f.kind ≡ Exit → AccountFor (e ∷ f ∷ es) bytes seats → IsFirstSpan e f es seats
  first-span e f es seats enters exits h =
      let s = span-in bytes [] e f es seats enters exits h in
      record {
        first = s.first;
        others = s.others;
        behind = s.behind;
        are = s.are ∙ ap (λ l. l ++ ((s.first ∷ s.others) ++ s.behind)) (none-account bytes s.before s.front);
        from = s.from;
        to = s.to;
        back = s.back;
      }

  -- an exit in front is in no innermost span of those behind it
  exit-less : (e : Event) (es : List Event) (seats : List Seat) → e.kind ≡ Exit → AccountFor (e ∷ es) bytes seats → AccountFor es bytes seats
  exit-less e es seats exits h = record {
    stretches = h.stretches;
    are_all = h.are_all;
    are_innermost = ap (λ k. cond (is_enter k) (ended_next e es) [] ++ innermost_spans es) (sym exits) ∙ h.are_innermost;
  }

  -- nor an enter before another
  enter-less : (e f : Event) (es : List Event) (seats : List Seat) → e.kind ≡ Enter → f.kind ≡ Enter → AccountFor (e ∷ f ∷ es) bytes seats → AccountFor (f ∷ es) bytes seats
  enter-less e f es seats enters inner h =
      let more = innermost_spans (f ∷ es) in
      record {
        stretches = h.stretches;
        are_all = h.are_all;
        are_innermost =
            ap (λ k. cond (is_enter k) [] ((e.point, f.point) ∷ []) ++ more) (sym inner)
            ∙ ap (λ k. cond (is_enter k) (ended_next e (f ∷ es)) [] ++ more) (sym enters) ∙ h.are_innermost;
      }

  enter-any : (e : Event) (es : List Event) (seats : List Seat) → e.kind ≡ Enter → Opens es → AccountFor es bytes seats → AccountFor (e ∷ es) bytes seats
  enter-any e [] seats enters opens h =
      record { stretches = h.stretches; are_all = h.are_all; are_innermost = ap (λ k. cond (is_enter k) (ended_next e []) [] ++ innermost_spans []) enters ∙ h.are_innermost }
  enter-any e (f ∷ es) seats enters opens h = enter-more bytes e f es seats enters opens h

-- ---- a list that accounts for what is behind some of the virtual bytes of a document

module _ (on : Constructs) (t : ℕ) (bytes : List ℕ) (d : 0 < t) where
  abbrev read : Bool → List Event → List Event
  read inside es = with_strings_from on t bytes inside es

  abbrev AreBehind : (before seats : List Seat) → Type 0
  AreBehind before seats = virtual t bytes ≡ before ++ seats

  -- what holds of events: with their strings read they account for the same virtual bytes
  abbrev KeepAccount : (inside : Bool) → List Event → Type 0
  KeepAccount inside es = (before seats : List Seat) → AreBehind before seats → AccountFor es bytes seats → AccountFor (read inside es) bytes seats

  further : (before seats : List Seat) (s : Seat) (ss behind : List Seat) → AreBehind before seats → seats ≡ (s ∷ ss) ++ behind → AreBehind (before ++ s ∷ ss) behind
  further before seats s ss behind w are = w ∙ ap (λ l. before ++ l) are ∙ sym (append_assoc before (s ∷ ss) behind)

  module _ (e f : Event) (es : List Event) (before seats : List Seat) (w : AreBehind before seats) (s : IsFirstSpan bytes e f es seats) where
    abbrev span_seats : List Seat
    span_seats = s.first ∷ s.others

    -- a span of data is read as its virtual bytes
    line-is : line_as_string on t bytes e.point f.point ≡ string_seat_events on bytes span_seats
    line-is = (λ i. line_as_string on t bytes (s.from i) (s.to i)) ∙ line-there on t bytes s.first s.others d (before, s.behind, w ∙ ap (λ l. before ++ l) s.are)

    line-opens : (more : List Event) → Opens (line_as_string on t bytes e.point f.point ++ more)
    line-opens more =
        let cut = string-cut on bytes span_seats in
        let opens = open-atoms bytes cut.atoms s.first s.others more (sym cut.all) in
        subst (λ l. Opens (l ++ more)) (sym (line-is ∙ cut.are)) (subst Opens (sym opens.are) refl)

    line-accounts : (more : List Event) → AccountFor more bytes s.behind → AccountFor (line_as_string on t bytes e.point f.point ++ more) bytes seats
    line-accounts more h =
        let cut = string-cut on bytes span_seats in
        subst (AccountFor (line_as_string on t bytes e.point f.point ++ more) bytes) (sym s.are)
        (subst (λ l. AccountFor (l ++ more) bytes (span_seats ++ s.behind)) (sym (line-is ∙ cut.are))
        (subst (λ l. AccountFor (events_of bytes cut.atoms ++ more) bytes (l ++ s.behind)) (sym cut.all) (atoms-more bytes cut.atoms more s.behind h)))

  -- what begins with an enter does so still
  read-opens : (inside : Bool) (e : Event) (es : List Event) (before seats : List Seat) → AreBehind before seats → e.kind ≡ Enter → AccountFor (e ∷ es) bytes seats → Opens (read inside (e ∷ es))
  read-opens inside e [] before seats w enters h = enters
  read-opens inside e (f ∷ es) before seats w enters h = cases (inside && is_data e f) refl
    where
      cases : (b : Bool) → (inside && is_data e f) ≡ b → Opens (cond b (line_as_string on t bytes e.point f.point ++ read inside es) (e ∷ read (in_string_after inside e) (f ∷ es)))
      cases true k =
          let is = data-is e f (and_parts inside (is_data e f) k).1 in
          line-opens e f es before seats w (first-span bytes e f es seats is.0 is.1 h) (read inside es)
      cases false k = enters

  -- a span of data in a string
  data-read : (inside : Bool) (e f : Event) (es : List Event) → is_data e f ≡ true → KeepAccount inside es → (before seats : List Seat) → AreBehind before seats → AccountFor (e ∷ f ∷ es) bytes seats
      → AccountFor (line_as_string on t bytes e.point f.point ++ read inside es) bytes seats
  data-read inside e f es pair keep before seats w h =
      let is = data-is e f pair in
      let s = first-span bytes e f es seats is.0 is.1 h in
      line-accounts e f es before seats w s (read inside es) (keep (before ++ s.first ∷ s.others) s.behind (further before seats s.first s.others s.behind w s.are) s.back)

  -- another event
  other-stays : (inside : Bool) (e f : Event) (es : List Event) → KeepAccount inside (f ∷ es) → KeepAccount (in_string_after inside f) es → (before seats : List Seat) → AreBehind before seats
      → AccountFor (e ∷ f ∷ es) bytes seats → AccountFor (e ∷ read inside (f ∷ es)) bytes seats
  other-stays inside e f es keep behind before seats w h = by e.kind f.kind refl refl
    where
      by : (k m : Kind) → e.kind ≡ k → f.kind ≡ m → AccountFor (e ∷ read inside (f ∷ es)) bytes seats
      by Exit m x y = exit-more bytes e (read inside (f ∷ es)) seats x (keep before seats w (exit-less bytes e (f ∷ es) seats x h))
      by Enter Enter x y =
          let inner = enter-less bytes e f es seats x y h in
          enter-any bytes e (read inside (f ∷ es)) seats x (read-opens inside f es before seats w y inner) (keep before seats w inner)
      by Enter Exit x y =
          let s = first-span bytes e f es seats x y h in
          let rest = read (in_string_after inside f) es in
          let more = behind (before ++ s.first ∷ s.others) s.behind (further before seats s.first s.others s.behind w s.are) s.back in
          subst (λ l. AccountFor (e ∷ l) bytes seats) (sym (exit-first on t bytes inside f es y))
          (subst (AccountFor (e ∷ f ∷ rest) bytes) (sym s.are) (span-more bytes e f rest s.first s.others s.behind x y s.from s.to more))

  keeps : (inside : Bool) (es : List Event) → KeepAccount inside es
  keeps inside [] before seats w h = h
  keeps inside (e ∷ []) before seats w h = h
  keeps inside (e ∷ f ∷ es) before seats w h =
      let after = in_string_after inside e in
      cases (inside && is_data e f) refl (keeps inside es) (keeps after (f ∷ es)) (keeps (in_string_after after f) es)
    where
      cases : (b : Bool) → (inside && is_data e f) ≡ b → KeepAccount inside es → KeepAccount (in_string_after inside e) (f ∷ es) → KeepAccount (in_string_after (in_string_after inside e) f) es
          → AccountFor (cond b (line_as_string on t bytes e.point f.point ++ read inside es) (e ∷ read (in_string_after inside e) (f ∷ es))) bytes seats
      cases true k keep other behind = data-read inside e f es (and_parts inside (is_data e f) k).1 keep before seats w h
      cases false k keep other behind = other-stays (in_string_after inside e) e f es other behind before seats w h

pub keep_innermost : StringsKeepInnermostSpans
keep_innermost on t bytes es d h = keeps on t bytes d false es [] (virtual t bytes) refl h
