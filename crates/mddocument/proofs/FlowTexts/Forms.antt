-- The events of leaf blocks with their texts are well formed: balanced, void spans empty, at places, and in order of these.
use Rattle.mddocument.proofs.Prelude.{◌≡◌, ℕ, List, [], ◌∷◌, ◌++◌, true, false, Some, append_assoc, refl, sym, ap, ◌∙◌, subst, AllByRecursion, every-append, end-after-append, stands-self, Constructs, Event, Kind, Enter, Exit, Point, is_void, shown, stands_before, Seat, end_after, names_after_all-append, names_after_all, event, leaf, span, Atom, IsCut, all_at, atom_events, atom_seats, events_of, seats_of, string-built, string_seat_events, AcrossGap, Course, across-none, course-here, course-on, course-place, course-upto, AreTight, Formed, FormsOver, InOrder, Place, name-closed, order-both, order-from, tight-both, read_marks}
use Rattle.markdown_base.specs.declared.event.Name.{Name}
use Rattle.mdinline_text_machine.proofs.Texts.Built.{IsKeptBySpans}
use Rattle.mddocument.proofs.FlowTexts.Accounts.{bare-marks}
use Rattle.mdinline_link_strings.proofs.Cuts.{string-cut}

-- ---- shape: the events leave each stack of open names, and void spans are empty
-- the events leave each stack of open names as it is
abbrev LeaveNames : List Event → Type 0
LeaveNames es = (st : List Name) → names_after_all (Some st) es ≡ Some st

names-both : (xs ys : List Event) → LeaveNames xs → LeaveNames ys → LeaveNames (xs ++ ys)
names-both xs ys h k st = names_after_all-append (Some st) xs ys ∙ ap (λ o. names_after_all o ys) (h st) ∙ k st

exit-tight : (e : Event) → e.kind ≡ Exit → AreTight (e ∷ [])
exit-tight e exits = ((λ enters void. let no : Exit ≡ Enter = sym exits ∙ enters in absurd (cc)), tt)

module _ (bytes : List ℕ) where
  names-span : (n : Name) (seats : List Seat) (es : List Event) → LeaveNames es → LeaveNames (span bytes n seats es)
  names-span n [] es h st = h st
  names-span n (s ∷ ss) es h st =
      let exit = event bytes Exit n (end_after s.end ss) in
      names_after_all-append (Some (n ∷ st)) es (exit ∷ []) ∙ ap (λ o. names_after_all o (exit ∷ [])) (h (n ∷ st)) ∙ name-closed exit n st refl refl

  names-leaf : (n : Name) (seats : List Seat) → LeaveNames (leaf bytes n seats)
  names-leaf n [] st = refl
  names-leaf n (s ∷ ss) st = name-closed (event bytes Exit n (end_after s.end ss)) n st refl refl

  names-kept : IsKeptBySpans bytes LeaveNames
  names-kept = record { none = λ st. refl; both = names-both; alone = names-leaf; around = λ n seats es other h. names-span n seats es h }

  tight-leaf : (n : Name) (seats : List Seat) → AreTight (leaf bytes n seats)
  tight-leaf n [] = tt
  tight-leaf n (s ∷ ss) = ((λ enters void. (refl, refl)), exit-tight (event bytes Exit n (end_after s.end ss)) refl)

  tight-span : (n : Name) (seats : List Seat) (es : List Event) → is_void n ≡ false → AreTight es → AreTight (span bytes n seats es)
  tight-span n [] es other h = h
  tight-span n (s ∷ ss) es other h =
      let exit = event bytes Exit n (end_after s.end ss) in
      ((λ enters void. absurd (let no : false ≡ true = sym other ∙ void in cc)), tight-both es (exit ∷ []) h (exit-tight exit refl))

  pub tight-kept : IsKeptBySpans bytes AreTight
  tight-kept = record { none = tt; both = tight-both; alone = tight-leaf; around = tight-span }

-- ---- places: those of atoms are in order
module _ (t : ℕ) (bytes : List ℕ) where
  order-at : (k : Kind) (p : Point) (names : List Name) → InOrder (shown bytes p) (all_at bytes k p names) (shown bytes p)
  order-at k p [] = stands-self (shown bytes p)
  order-at k p (n ∷ ns) = (stands-self (shown bytes p), order-at k p ns)

  places-at : (k : Kind) (p : Point) (names : List Name) → Place t bytes (shown bytes p) → AllByRecursion (λ (e : Event). Place t bytes e.point) (all_at bytes k p names)
  places-at k p [] h = tt
  places-at k p (n ∷ ns) h = (h, places-at k p ns h)

  -- Events between two places, in order and at places
  pub record Ordered (p : Point) (es : List Event) (q : Point) : Type 0 where
    pub order : InOrder p es q
    pub places : AllByRecursion (λ (e : Event). Place t bytes e.point) es

  pub ordered-both : (p : Point) (xs : List Event) (m : Point) (ys : List Event) (q : Point) → Ordered p xs m → Ordered m ys q → Ordered p (xs ++ ys) q
  ordered-both p xs m ys q h k = record { order = order-both p xs m ys q h.order k.order; places = every-append (λ (e : Event). Place t bytes e.point) xs ys h.places k.places }

  ordered-at : (k : Kind) (p q : Point) (names : List Name) → shown bytes p ≡ q → Place t bytes q → Ordered q (all_at bytes k p names) q
  ordered-at k p q names is place =
      record { order = subst (λ r. InOrder r (all_at bytes k p names) r) is (order-at k p names); places = places-at k p names (subst (Place t bytes) (sym is) place) }

  ordered-pair : (p q r s : Point) (n : Name) → shown bytes r ≡ p → shown bytes s ≡ q → stands_before q p ≡ false → Place t bytes p → Place t bytes q → Ordered p (event bytes Enter n r ∷ event bytes Exit n s ∷ []) q
  ordered-pair p q r s n from to upto here there =
      let first : stands_before (shown bytes r) p ≡ false = subst (λ x. stands_before x p ≡ false) (sym from) (stands-self p) in
      let second : stands_before (shown bytes s) (shown bytes r) ≡ false = (λ i. stands_before (to i) (from i)) ∙ upto in
      let last : stands_before q (shown bytes s) ≡ false = subst (λ x. stands_before q x ≡ false) (sym to) (stands-self q) in
      record { order = (first, (second, last)); places = (subst (Place t bytes) (sym from) here, (subst (Place t bytes) (sym to) there, tt)) }

  -- events between two places are between an earlier place and the second, too
  ordered-from : (o p : Point) (es : List Event) (q : Point) → stands_before p o ≡ false → Ordered p es q → Ordered o es q
  ordered-from o p es q later h = record { order = order-from o p es q later h.order; places = h.places }

  ordered-atom : (o : Point) (a : Atom) (rest : List Seat) → Course AcrossGap t bytes o (atom_seats a ++ rest) → Ordered o (atom_events bytes a) (end_after o (atom_seats a))
  ordered-atom o a rest course =
      let p = shown bytes a.first.point in
      let q = end_after a.first.end a.others in
      let here = course.1.seat.here in
      let there = course-place AcrossGap t bytes q rest (course-on AcrossGap t bytes o (atom_seats a) rest course) in
      let upto = course-upto AcrossGap t bytes p (atom_seats a) rest (course-here AcrossGap t bytes across-none o a.first (a.others ++ rest) course) in
      let exits = all_at bytes Exit q a.exits in
      let pair = event bytes Enter a.name a.first.point ∷ event bytes Exit a.name q ∷ [] in
      ordered-from o p (atom_events bytes a) q course.1.later
      (ordered-both p (all_at bytes Enter a.first.point a.enters) p (pair ++ exits) q (ordered-at Enter a.first.point p a.enters refl here)
      (ordered-both p pair q exits q (ordered-pair p q a.first.point q a.name refl there.is_shown upto here there) (ordered-at Exit q q a.exits there.is_shown there)))

  pub ordered-atoms : (p : Point) (atoms : List Atom) (rest : List Seat) → Course AcrossGap t bytes p (seats_of atoms ++ rest) → Ordered p (events_of bytes atoms) (end_after p (seats_of atoms))
  ordered-atoms p [] rest course = record { order = stands-self p; places = tt }
  ordered-atoms p (a ∷ atoms) rest course =
      let seats = seats_of atoms in
      let whole = subst (Course AcrossGap t bytes p) (append_assoc (atom_seats a) seats rest) course in
      let m = end_after p (atom_seats a) in
      let more = ordered-atoms m atoms rest (course-on AcrossGap t bytes p (atom_seats a) (seats ++ rest) whole) in
      subst (Ordered p (events_of bytes (a ∷ atoms))) (sym (end-after-append p (atom_seats a) seats))
      (ordered-both p (atom_events bytes a) m (events_of bytes atoms) (end_after m seats) (ordered-atom p a (seats ++ rest) whole) more)

  -- ---- what texts and strings are read as: it is cut into innermost spans, and what spans keep holds of it
  pub read-forms : (reads : List Seat → List Event) → ((seats : List Seat) → IsCut bytes (reads seats) seats)
      → ((P : List Event → Type 0) → IsKeptBySpans bytes P → (seats : List Seat) → P (reads seats)) → (seats : List Seat) → FormsOver AcrossGap t bytes (read_marks reads bytes seats) seats
  read-forms reads cuts built seats p rest course =
      let es = reads seats in
      let cut = cuts seats in
      let ordered = ordered-atoms p cut.atoms rest (subst (λ l. Course AcrossGap t bytes p (l ++ rest)) cut.all course) in
      let placed = subst (λ l. Ordered p l (end_after p seats)) (sym cut.are) (subst (λ l. Ordered p (events_of bytes cut.atoms) (end_after p l)) (sym cut.all) ordered) in
      subst (λ l. Formed t bytes p l (end_after p seats)) (sym (bare-marks es))
      (record { balanced = built LeaveNames (names-kept bytes) seats; tight = built AreTight (tight-kept bytes) seats; order = placed.order; places = placed.places })

  pub string-forms : (on : Constructs) (seats : List Seat) → FormsOver AcrossGap t bytes (read_marks (string_seat_events on bytes) bytes seats) seats
  string-forms on = read-forms (string_seat_events on bytes) (string-cut on bytes) (λ P kept. string-built bytes P kept on)
