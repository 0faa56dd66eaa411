-- Places of stretches of a document, one behind another.
use Rattle.mdinline_text_machine.proofs.Prelude.{◌≡◌, ℕ, ◌<◌, ◌==◌, ◌∷◌, ◌++◌, [], List, true, false, refl, sym, ◌∙◌, ap, subst, arith, filter, map, AllByRecursion, append_cancel_left, append_cancel_right, every-append, end-after-append, Event, Enter, Exit, Point, stands_before, shown, in_range, Seat, point, virtual, end_after, before-upto, upto-before, IsChain, whole-chain, upto-order, left_of, chain-at, chain-split, chain-upto, place-after, rest-after}
use Rattle.std.proofs.Common.{append_assoc}
use Rattle.markdown_base.specs.declared.event.Name.{Name}
use Rattle.mdconstructs_machines.specs.Spans.{event}
use Rattle.mdinline_text_machine.proofs.Autolinks.Places.{EndsInLine, before-grows, range-is}
use Rattle.mdinline_text_machine.proofs.DeepSpans.Atoms.{EndsLine, Atom, atom_seats, seats_of, all_at, atom_events, events_of}

-- the event is not behind the place
abbrev pub Upto : Point → Event → Type 0
Upto end e = stands_before end e.point ≡ false

-- what a function gives of each name
each-of : (P : Event → Type 0) (f : Name → Event) (names : List Name) → ((n : Name) → P (f n)) → AllByRecursion P (map f names)
each-of P f [] h = tt
each-of P f (n ∷ ns) h = (h n, each-of P f ns h)

-- if virtual bytes end at the beginning of a line, the last is a line ending
pub ends-line : (s : Seat) (ss : List Seat) → AllByRecursion EndsInLine (s ∷ ss) → (end_after s.end ss).column ≡ 1 → EndsLine (s ∷ ss)
ends-line s [] h column = elim (s.byte == 10) as (λ b. (b ≡ false → 1 < s.end.column) → b ≡ true) [ true ↦ λ k. refl | false ↦ λ k. let more = k refl in absurd (omega (arith, more, column)) ] h.0
ends-line s (r ∷ rs) h column = ends-line r rs h.1 column

module _ (t : ℕ) (bytes : List ℕ) where
  -- the place behind virtual bytes is shown at itself
  pub place-shown : (p : Point) (xs ys : List Seat) → IsChain t bytes p (xs ++ ys) → shown bytes (end_after p xs) ≡ end_after p xs
  place-shown p xs ys c = (chain-at t bytes (end_after p xs) ys (chain-split t bytes p xs ys c)).shown

  -- the events of atoms are not behind their end
  pub atoms-upto : (end p : Point) (l : List Atom) (rest : List Seat) → IsChain t bytes p (seats_of l ++ rest) → end_after p (seats_of l) ≡ end → AllByRecursion (Upto end) (events_of bytes l)
  atoms-upto end p [] rest c is = tt
  atoms-upto end p (a ∷ atoms) rest c is =
      let q = end_after a.first.end a.others in
      let seats = seats_of atoms in
      let later : IsChain t bytes q (seats ++ rest) = chain-split t bytes p (atom_seats a) (seats ++ rest) (subst (IsChain t bytes p) (append_assoc (atom_seats a) seats rest) c) in
      let is_later : end_after q seats ≡ end = sym (end-after-append p (atom_seats a) seats) ∙ is in
      let enter : stands_before end (shown bytes a.first.point) ≡ false = (λ i. stands_before (sym is i) (c.1.shown_is i)) ∙ chain-upto t bytes p (seats_of (a ∷ atoms)) rest c in
      let exit : stands_before end (shown bytes q) ≡ false = (λ i. stands_before (sym is_later i) ((chain-at t bytes q (seats ++ rest) later).shown i)) ∙ chain-upto t bytes q seats rest later in
      every-append (Upto end) (atom_events bytes a) (events_of bytes atoms)
      (every-append (Upto end) (all_at bytes Enter a.first.point a.enters) (event bytes Enter a.name a.first.point ∷ event bytes Exit a.name q ∷ all_at bytes Exit q a.exits)
      (each-of (Upto end) (λ n. event bytes Enter n a.first.point) a.enters (λ n. enter))
      (enter, (exit, each-of (Upto end) (λ n. event bytes Exit n q) a.exits (λ n. exit))))
      (atoms-upto end q atoms rest later is_later)

  -- a place is before that behind some virtual bytes more
  pub place-before : (p : Point) (r : Seat) (rs ys : List Seat) → IsChain t bytes p ((r ∷ rs) ++ ys) → stands_before p (end_after r.end rs) ≡ true
  place-before p r rs ys c =
      let q = end_after r.end rs in
      before-upto p.index p.vs r.end.index r.end.vs q.index q.vs (upto-before p.index p.vs r.point.index r.point.vs r.end.index r.end.vs c.1.later c.1.ends) (chain-upto t bytes r.end rs ys c.2)

  module _ (d : 0 < t) where
    -- where the document begins
    abbrev pub origin : Point
    origin = point 1 1 0 0

    -- the virtual bytes of a document from a place on
    pub chain-from : (pre rest : List Seat) → virtual t bytes ≡ pre ++ rest → IsChain t bytes (end_after origin pre) rest
    chain-from pre rest is = chain-split t bytes origin pre rest (subst (IsChain t bytes origin) is (whole-chain t bytes d))

    -- what is before a place
    is-before : (xs ys : List Seat) (is : virtual t bytes ≡ xs ++ ys) → (place-after t bytes d xs ys is).before ≡ xs
    is-before xs ys is =
        let place = place-after t bytes d xs ys is in
        append_cancel_right place.before xs ys (ap (λ r. place.before ++ r) (sym (rest-after t bytes d xs ys is)) ∙ sym place.splits ∙ is)

    -- what is between the places of a stretch is the stretch
    pub range-of : (pre l rest : List Seat) → virtual t bytes ≡ pre ++ (l ++ rest) → filter (in_range (end_after origin pre) (end_after (end_after origin pre) l)) (virtual t bytes) ≡ l
    range-of pre l rest is =
        let a = end_after origin pre in
        let b = end_after origin (pre ++ l) in
        let all : virtual t bytes ≡ (pre ++ l) ++ rest = is ∙ sym (append_assoc pre l rest) in
        let first = place-after t bytes d pre (l ++ rest) is in
        let second = place-after t bytes d (pre ++ l) rest all in
        let same : b ≡ end_after a l = end-after-append origin pre l in
        let upto = upto-order t bytes a b (subst (λ q. stands_before q a ≡ false) (sym same) (chain-upto t bytes a l rest (chain-from pre (l ++ rest) is))) in
        let grows : pre ++ l ≡ pre ++ left_of t bytes a b =
        sym (is-before (pre ++ l) rest all) ∙ before-grows t bytes d a b first second upto ∙ ap (λ xs. xs ++ left_of t bytes a b) (is-before pre (l ++ rest) is) in
        ap (λ q. filter (in_range a q) (virtual t bytes)) (sym same) ∙ range-is t bytes d a b first second upto ∙ sym (append_cancel_left pre l (left_of t bytes a b) grows)
