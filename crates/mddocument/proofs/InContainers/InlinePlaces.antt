-- The events of inline text and of strings stand where virtual bytes are shown, or end; so do those that links, images and emphasis make.
use Rattle.mddocument.proofs.Prelude.{ℕ, Bool, List, [], ◌∷◌, ◌++◌, sym, subst, AllByRecursion, every-append, every-back, every-front, Constructs, ParseOptions, Event, Enter, Exit, Kind, Point, InOrder, shown, Seat, end_after, event, Atom, IsCut, all_at, atom_events, atom_seats, events_of, seats_of, string_seat_events, AcrossGap, Course, inline_seat_events}
use Rattle.markdown_base.specs.declared.event.Name.{Name}
use Rattle.mddocument.proofs.Emphasis.InlineReads.{balanced-of, read-bytewise, read_of}
use Rattle.mddocument.proofs.FlowTexts.Forms.{ordered-atoms}
use Rattle.mddocument.proofs.Emphasis.InlineRuns.{inline-cut}
use Rattle.mddocument.proofs.FlowTexts.InlineSteps.{Steps}
use Rattle.mdinline_link_strings.proofs.Cuts.{string-cut}
use Rattle.mddocument.proofs.InContainers.Places.{AllAt, EndsAt, last-end}
use Rattle.mdinline_links.proofs.LinkOrder.{links-ordered}

module _ (At : Point → Type 0) (bytes : List ℕ) where
  abbrev EventAt : Event → Type 0
  EventAt e = At e.point

  -- ---- atoms
  names-at : (k : Kind) (p : Point) (names : List Name) → At (shown bytes p) → AllAt At bytes (all_at bytes k p names)
  names-at k p [] h = tt
  names-at k p (n ∷ ns) h = (h, names-at k p ns h)

  atom-at : (a : Atom) → AllByRecursion (EndsAt At bytes) (atom_seats a) → AllAt At bytes (atom_events bytes a)
  atom-at a h =
      let end = end_after a.first.end a.others in
      let there = last-end At bytes a.first a.others h in
      every-append EventAt (all_at bytes Enter a.first.point a.enters) (event bytes Enter a.name a.first.point ∷ event bytes Exit a.name end ∷ all_at bytes Exit end a.exits)
      (names-at Enter a.first.point a.enters h.0.0) (h.0.0, (there, names-at Exit end a.exits there))

  atoms-at : (atoms : List Atom) → AllByRecursion (EndsAt At bytes) (seats_of atoms) → AllAt At bytes (events_of bytes atoms)
  atoms-at [] h = tt
  atoms-at (a ∷ atoms) h =
      every-append EventAt (atom_events bytes a) (events_of bytes atoms) (atom-at a (every-front (EndsAt At bytes) (atom_seats a) (seats_of atoms) h))
      (atoms-at atoms (every-back (EndsAt At bytes) (atom_seats a) (seats_of atoms) h))

  -- what is cut into atoms
  pub cut-at : (events : List Event) (seats : List Seat) → IsCut bytes events seats → AllByRecursion (EndsAt At bytes) seats → AllAt At bytes events
  cut-at events seats cut h = subst (AllAt At bytes) (sym cut.are) (atoms-at cut.atoms (subst (AllByRecursion (EndsAt At bytes)) cut.all h))

  pub string-at : (on : Constructs) (seats : List Seat) → AllByRecursion (EndsAt At bytes) seats → AllAt At bytes (string_seat_events on bytes seats)
  string-at on seats h = cut-at (string_seat_events on bytes seats) seats (string-cut on bytes seats) h

  -- inline text
  pub inline-at : (defined : List ℕ → Bool) (t : ℕ) (options : ParseOptions) (seats : List Seat) (p : Point) (rest : List Seat) → Course AcrossGap t bytes p (seats ++ rest) → AllByRecursion (Steps bytes) seats → AllByRecursion (EndsAt At bytes) seats
      → AllAt At bytes (inline_seat_events defined options bytes seats)
  inline-at defined t options seats p rest course steps ends =
      let on = options.constructs in
      let es = read_of t bytes defined on seats in
      let cut = inline-cut bytes on defined seats in
      let q = end_after p seats in
      let placed = ordered-atoms t bytes p cut.atoms rest (subst (λ l. Course AcrossGap t bytes p (l ++ rest)) cut.all course) in
      let order = subst (λ l. InOrder p l q) (sym cut.are) (subst (λ l. InOrder p (events_of bytes cut.atoms) (end_after p l)) (sym cut.all) placed.order) in
      (links-ordered At options.gfm_strikethrough_single_tilde bytes es p q (balanced-of t bytes defined on seats) (read-bytewise t bytes defined on seats p rest course steps At ends) (record { order = order; places = cut-at es seats cut ends })).places
