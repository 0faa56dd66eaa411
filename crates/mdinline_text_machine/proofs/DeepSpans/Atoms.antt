-- Innermost spans of events, one list behind another; and events cut into atoms: an innermost span within one line, with the enters before it
-- and the exits behind it at its places.
use Rattle.mdinline_text_machine.proofs.Prelude.{◌≡◌, ℕ, ◌∷◌, ◌++◌, [], List, true, false, cond, refl, sym, ◌∙◌, ap, subst, map, flat_map, AllByRecursion, flat_map-append, append_assoc, append-nil, map-append, every-append, end-after-append, Event, Kind, Enter, Exit, Point, is_enter, shown, Seat, end_after, innermost_spans, ended_next, stretch_bytes, span_over, AccountFor, is_line_ending, enter-more, exit-more, span-more}
use Rattle.markdown_base.proofs.Common.{none-mapped}
use Rattle.markdown_base.specs.declared.event.Name.{Name}
use Rattle.mdconstructs_machines.specs.Spans.{event, span, leaf}

-- an enter cuts innermost spans
spans-apart : (xs : List Event) (e : Event) (ys : List Event) → e.kind ≡ Enter → innermost_spans (xs ++ e ∷ ys) ≡ innermost_spans xs ++ innermost_spans (e ∷ ys)
spans-apart [] e ys enters = refl
spans-apart (x ∷ []) e ys enters = rw enters (simp append-nil)
spans-apart (x ∷ y ∷ xs) e ys enters =
    let here = cond (is_enter x.kind) (ended_next x (y ∷ xs)) [] in
    ap (λ l. here ++ l) (spans-apart (y ∷ xs) e ys enters) ∙ sym (append_assoc here (innermost_spans (y ∷ xs)) (innermost_spans (e ∷ ys)))

-- What a function gives of a list, cut at an element
pub record MapCut {A B : Type 0} (f : A → B) (zs : List A) (xs : List B) (y : B) (ys : List B) : Type 0 where
  pub front : List A
  pub here : A
  pub back : List A
  pub are : zs ≡ front ++ here ∷ back
  pub front_is : xs ≡ map f front
  pub here_is : y ≡ f here
  pub back_is : ys ≡ map f back

pub map-cut : {A B : Type 0} (f : A → B) (zs : List A) (xs : List B) (y : B) (ys : List B) → xs ++ y ∷ ys ≡ map f zs → MapCut f zs xs y ys
map-cut f [] [] y ys h = absurd (cc)
map-cut f [] (x ∷ xs) y ys h = absurd (cc)
map-cut f (z ∷ zs) [] y ys h = record { front = []; here = z; back = zs; are = refl; front_is = refl; here_is = (cc); back_is = (cc) }
map-cut f (z ∷ zs) (x ∷ xs) y ys h =
    let first : x ≡ f z = cc in
    let others : xs ++ y ∷ ys ≡ map f zs = cc in
    let more = map-cut f zs xs y ys others in record {
      front = z ∷ more.front;
      here = more.here;
      back = more.back;
      are = ap (λ l. z ∷ l) more.are;
      front_is = λ i. first i ∷ more.front_is i;
      here_is = more.here_is;
      back_is = more.back_is;
    }

-- no line ending but at the end
abbrev pub OneLine : List Seat → Type 0
OneLine [] = Unit {0}
OneLine (s ∷ []) = Unit {0}
OneLine (s ∷ r ∷ rs) = (is_line_ending s ≡ false) × OneLine (r ∷ rs)

-- the last one is a line ending
abbrev pub EndsLine : List Seat → Type 0
EndsLine [] = ⊥
EndsLine (s ∷ []) = is_line_ending s ≡ true
EndsLine (s ∷ r ∷ rs) = EndsLine (r ∷ rs)

-- An atom: the names that are entered before it, its name and virtual bytes, and the names that are exited behind it
pub record Atom : Type 0 where
  pub enters : List Name
  pub name : Name
  pub first : Seat
  pub others : List Seat
  pub exits : List Name

abbrev pub atom_seats : Atom → List Seat
atom_seats a = a.first ∷ a.others

abbrev pub seats_of : List Atom → List Seat
seats_of atoms = flat_map atom_seats atoms

abbrev pub InOneLine : Atom → Type 0
InOneLine a = OneLine (atom_seats a)

module _ (bytes : List ℕ) where
  -- In events that account for virtual bytes, a span with nothing in it is over some of these
  pub record SpanIn (xs : List Event) (e f : Event) (ys : List Event) (seats : List Seat) : Type 0 where
    pub before : List Seat
    pub first : Seat
    pub others : List Seat
    pub behind : List Seat
    pub are : seats ≡ before ++ ((first ∷ others) ++ behind)
    pub from : e.point ≡ shown bytes first.point
    pub to : f.point ≡ shown bytes (end_after first.end others)
    pub front : AccountFor xs bytes before
    pub back : AccountFor ys bytes behind

  pub span-in : (xs : List Event) (e f : Event) (ys : List Event) (seats : List Seat) → e.kind ≡ Enter → f.kind ≡ Exit → AccountFor (xs ++ e ∷ f ∷ ys) bytes seats → SpanIn xs e f ys seats
  span-in xs e f ys seats enters exits h =
      let pair : innermost_spans (e ∷ f ∷ ys) ≡ (e.point, f.point) ∷ innermost_spans ys = rw (enters, exits) in
      let spans = sym (spans-apart xs e (f ∷ ys) enters ∙ ap (λ l. innermost_spans xs ++ l) pair) ∙ h.are_innermost in
      let c = map-cut (span_over bytes) h.stretches (innermost_spans xs) (e.point, f.point) (innermost_spans ys) spans in
      record {
        before = flat_map stretch_bytes c.front;
        first = c.here.0;
        others = c.here.1;
        behind = flat_map stretch_bytes c.back;
        are = sym h.are_all ∙ ap (flat_map stretch_bytes) c.are ∙ flat_map-append stretch_bytes c.front (c.here ∷ c.back);
        from = ap (λ (q : Point × Point). q.0) c.here_is;
        to = ap (λ (q : Point × Point). q.1) c.here_is;
        front = record { stretches = c.front; are_all = refl; are_innermost = c.front_is };
        back = record { stretches = c.back; are_all = refl; are_innermost = c.back_is };
      }

  -- These events begin with an enter at a place
  pub record EntersAt (p : Point) (events : List Event) : Type 0 where
    pub name : Name
    pub rest : List Event
    pub are : events ≡ event bytes Enter name p ∷ rest

  -- events that account for virtual bytes, before others that begin so
  pub both-account : {p : Point} (xs ys : List Event) (seats rest : List Seat) → AccountFor xs bytes seats → AccountFor ys bytes rest → EntersAt p ys → AccountFor (xs ++ ys) bytes (seats ++ rest)
  both-account {p} xs ys seats rest h k opens = record {
    stretches = h.stretches ++ k.stretches;
    are_all = flat_map-append stretch_bytes h.stretches k.stretches ∙ (λ i. h.are_all i ++ k.are_all i);
    are_innermost =
        ap (λ l. innermost_spans (xs ++ l)) opens.are
        ∙ spans-apart xs (event bytes Enter opens.name p) opens.rest refl
        ∙ ap (λ l. innermost_spans xs ++ innermost_spans l) (sym opens.are)
        ∙ (λ i. h.are_innermost i ++ k.are_innermost i)
        ∙ sym (map-append (span_over bytes) h.stretches k.stretches);
  }

  -- no events account for nothing else than no virtual bytes
  pub none-account : (seats : List Seat) → AccountFor [] bytes seats → seats ≡ []
  none-account seats h = sym h.are_all ∙ ap (flat_map stretch_bytes) (none-mapped (span_over bytes) h.stretches (sym h.are_innermost))

  -- ---- the events of atoms
  abbrev pub all_at : Kind → Point → List Name → List Event
  all_at kind p names = map (λ n. event bytes kind n p) names

  abbrev pub atom_events : Atom → List Event
  atom_events a =
      let end = end_after a.first.end a.others in
      all_at Enter a.first.point a.enters ++ (event bytes Enter a.name a.first.point ∷ event bytes Exit a.name end ∷ all_at Exit end a.exits)

  abbrev pub events_of : List Atom → List Event
  events_of atoms = flat_map atom_events atoms

  -- they account for their virtual bytes
  exits-more : (p : Point) (names : List Name) (events : List Event) (seats : List Seat) → AccountFor events bytes seats → AccountFor (all_at Exit p names ++ events) bytes seats
  exits-more p [] events seats h = h
  exits-more p (n ∷ ns) events seats h = exit-more bytes (event bytes Exit n p) (all_at Exit p ns ++ events) seats refl (exits-more p ns events seats h)

  enters-more : (p : Point) (ns : List Name) (e : Event) (es : List Event) (seats : List Seat) → e.kind ≡ Enter → AccountFor (e ∷ es) bytes seats → AccountFor (all_at Enter p ns ++ e ∷ es) bytes seats
  enters-more p [] e es seats enters h = h
  enters-more p (n ∷ []) e es seats enters h = enter-more bytes (event bytes Enter n p) e es seats refl enters h
  enters-more p (n ∷ m ∷ ns) e es seats enters h =
      enter-more bytes (event bytes Enter n p) (event bytes Enter m p) (all_at Enter p ns ++ e ∷ es) seats refl refl (enters-more p (m ∷ ns) e es seats enters h)

  pub atoms-more : (atoms : List Atom) (events : List Event) (seats : List Seat) → AccountFor events bytes seats → AccountFor (events_of atoms ++ events) bytes (seats_of atoms ++ seats)
  atoms-more [] events seats h = h
  atoms-more (a ∷ atoms) events seats h =
      let end = end_after a.first.end a.others in
      let enter = event bytes Enter a.name a.first.point in
      let more = exits-more end a.exits (events_of atoms ++ events) (seats_of atoms ++ seats) (atoms-more atoms events seats h) in
      simp append_assoc (enters-more a.first.point a.enters enter _ _ refl (span-more bytes enter (event bytes Exit a.name end) _ a.first a.others _ refl refl refl refl more))

  -- and begin with an enter
  some-enter : (p : Point) (names : List Name) (n : Name) (events : List Event) → EntersAt p (all_at Enter p names ++ event bytes Enter n p ∷ events)
  some-enter p [] n events = record { name = n; rest = events; are = refl }
  some-enter p (m ∷ ms) n events = record { name = m; rest = all_at Enter p ms ++ event bytes Enter n p ∷ events; are = refl }

  pub open-atoms : (atoms : List Atom) (s : Seat) (ss : List Seat) (more : List Event) → seats_of atoms ≡ s ∷ ss → EntersAt s.point (events_of atoms ++ more)
  open-atoms [] s ss more is = absurd (cc)
  open-atoms (a ∷ atoms) s ss more is =
      let same : a.first ≡ s = cc in
      subst (λ (r : Seat). EntersAt r.point (events_of (a ∷ atoms) ++ more)) same (simp append_assoc (some-enter a.first.point a.enters a.name _))

  -- ---- events that can be cut into atoms
  pub record IsCut (events : List Event) (seats : List Seat) : Type 0 where
    pub atoms : List Atom
    pub are : events ≡ events_of atoms
    pub all : seats ≡ seats_of atoms
    pub lines : AllByRecursion InOneLine atoms

  pub cut-none : IsCut [] []
  cut-none = record { atoms = []; are = refl; all = refl; lines = tt }

  pub cut-append : {xs ys : List Event} {l m : List Seat} → IsCut xs l → IsCut ys m → IsCut (xs ++ ys) (l ++ m)
  cut-append h k = record {
    atoms = h.atoms ++ k.atoms;
    are = (λ i. h.are i ++ k.are i) ∙ sym (flat_map-append atom_events h.atoms k.atoms);
    all = (λ i. h.all i ++ k.all i) ∙ sym (flat_map-append atom_seats h.atoms k.atoms);
    lines = every-append InOneLine h.atoms k.atoms h.lines k.lines;
  }

  pub cut-leaf : (name : Name) (l : List Seat) → OneLine l → IsCut (leaf bytes name l) l
  cut-leaf name [] one = cut-none
  cut-leaf name (s ∷ ss) one = record { atoms = record { enters = []; name = name; first = s; others = ss; exits = [] } ∷ []; are = refl; all = sym (append-nil (s ∷ ss)); lines = (one, tt) }

  -- an exit more behind the last of atoms, at its end
  with-exit : (name : Name) (end p : Point) (a : Atom) (atoms : List Atom) → AllByRecursion InOneLine (a ∷ atoms) → end_after p (seats_of (a ∷ atoms)) ≡ end
      → IsCut (events_of (a ∷ atoms) ++ event bytes Exit name end ∷ []) (seats_of (a ∷ atoms))
  with-exit name end p a [] lines is = record { atoms = record a { exits = a.exits ++ name ∷ [] } ∷ []; are = rw (← is) (simp (append_assoc, append-nil, map-append)); all = refl; lines = lines }
  with-exit name end p a (b ∷ atoms) lines is =
      let more = with-exit name end (end_after p (atom_seats a)) b atoms lines.1 (sym (end-after-append p (atom_seats a) (seats_of (b ∷ atoms))) ∙ is) in record {
        atoms = a ∷ more.atoms;
        are = append_assoc (atom_events a) (events_of (b ∷ atoms)) (event bytes Exit name end ∷ []) ∙ ap (λ l. atom_events a ++ l) more.are;
        all = ap (λ l. atom_seats a ++ l) more.all;
        lines = (lines.0, more.lines);
      }

  -- and a span around events
  pub cut-span : (name : Name) (l : List Seat) (es : List Event) → IsCut es l → IsCut (span bytes name l es) l
  cut-span name [] es h = h
  cut-span name (s ∷ ss) es h = by h.atoms h.are h.all h.lines
    where
      by : (atoms : List Atom) → es ≡ events_of atoms → s ∷ ss ≡ seats_of atoms → AllByRecursion InOneLine atoms → IsCut (span bytes name (s ∷ ss) es) (s ∷ ss)
      by [] are all lines = absurd (cc)
      by (a ∷ atoms) are all lines =
          let same : s ≡ a.first = cc in
          let end = end_after s.end ss in
          let more = with-exit name end s.point (record a { enters = name ∷ a.enters }) atoms lines (ap (end_after s.point) (sym all)) in
          record { atoms = more.atoms; are = (λ i. event bytes Enter name (same i).point ∷ (are i ++ event bytes Exit name end ∷ [])) ∙ more.are; all = all ∙ more.all; lines = more.lines }

-- Atoms whose virtual bytes, with some before them, are cut behind a line ending
pub record CutAtoms (before : List Seat) (atoms : List Atom) (l rest : List Seat) : Type 0 where
  pub front : List Atom
  pub back : List Atom
  pub are : atoms ≡ front ++ back
  pub front_is : before ++ seats_of front ≡ l
  pub back_is : seats_of back ≡ rest

-- `s` and those before the atoms are in one line
pub cut-atoms : (s : Seat) (ss : List Seat) (atoms : List Atom) (l rest : List Seat) → OneLine (s ∷ ss) → AllByRecursion InOneLine atoms → EndsLine (s ∷ l) → ss ++ seats_of atoms ≡ l ++ rest
    → CutAtoms ss atoms l rest
cut-atoms s [] atoms [] rest one lines ends same = record { front = []; back = atoms; are = refl; front_is = refl; back_is = same }
cut-atoms s (x ∷ xs) atoms [] rest one lines ends same = let no : false ≡ true = sym one.0 ∙ ends in absurd (cc)
cut-atoms s [] [] (r ∷ rs) rest one lines ends same = absurd (cc)
cut-atoms s [] (a ∷ atoms) (r ∷ rs) rest one lines ends same =
    let is : a.first ≡ r = cc in
    let more = cut-atoms a.first a.others atoms rs rest lines.0 lines.1 (subst (λ x. EndsLine (x ∷ rs)) (sym is) ends) (cc) in
    record { front = a ∷ more.front; back = more.back; are = ap (λ k. a ∷ k) more.are; front_is = λ i. is i ∷ more.front_is i; back_is = more.back_is }
cut-atoms s (x ∷ xs) atoms (r ∷ rs) rest one lines ends same =
    let is : x ≡ r = cc in
    let more = cut-atoms x xs atoms rs rest one.1 lines (subst (λ x. EndsLine (x ∷ rs)) (sym is) ends) (cc) in
    record { front = more.front; back = more.back; are = more.are; front_is = λ i. is i ∷ more.front_is i; back_is = more.back_is }
