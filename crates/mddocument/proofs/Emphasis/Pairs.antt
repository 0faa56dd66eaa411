-- The enter and the exit of each innermost span of events; and atoms that have these.
use Rattle.mddocument.proofs.Prelude.{◌≡◌, ℕ, Bool, true, false, cond, List, [], ◌∷◌, ◌++◌, append_assoc, map, refl, sym, ap, ◌∙◌, flat_map, flat_map-append, append-nil, map-append, Event, Enter, Exit, Point, is_enter, Seat, end_after, AccountFor, ended_next, innermost_spans, span_over, stretch_bytes, event, Atom, all_at, atom_seats, events_of, seats_of}
use Rattle.markdown_base.specs.declared.event.Name.{Name}

-- the event with the next one, if that is an exit
abbrev pub ended_pair : Event → List Event → List (Event × Event)
ended_pair e [] = []
ended_pair e (f ∷ events) = cond (is_enter f.kind) [] ((e, f) ∷ [])

-- The innermost spans of events, each by its enter and its exit
abbrev pub innermost_pairs : List Event → List (Event × Event)
innermost_pairs [] = []
innermost_pairs (e ∷ events) = cond (is_enter e.kind) (ended_pair e events) [] ++ innermost_pairs events

-- the places of a pair
abbrev pub places_of : (Event × Event) → Point × Point
places_of q = (q.0.point, q.1.point)

ended-places : (e f : Event) (es : List Event) → ended_next e (f ∷ es) ≡ map places_of (ended_pair e (f ∷ es))
ended-places e f es = elim (is_enter f.kind) as (λ b. cond b [] ((e.point, f.point) ∷ []) ≡ map places_of (cond b [] ((e, f) ∷ []))) [ true ↦ refl | false ↦ refl ]

first-places : (b : Bool) (e : Event) (es : List Event) → cond b (ended_next e es) [] ≡ map places_of (cond b (ended_pair e es) [])
first-places false e es = refl
first-places true e [] = refl
first-places true e (f ∷ es) = ended-places e f es

pub spans-of-pairs : (es : List Event) → innermost_spans es ≡ map places_of (innermost_pairs es)
spans-of-pairs [] = refl
spans-of-pairs (e ∷ es) =
    let first = first-places (is_enter e.kind) e es in
    let more = spans-of-pairs es in
    (λ i. first i ++ more i) ∙ sym (map-append places_of (cond (is_enter e.kind) (ended_pair e es) []) (innermost_pairs es))

-- an enter cuts them
pub pairs-apart : (xs : List Event) (e : Event) (ys : List Event) → e.kind ≡ Enter → innermost_pairs (xs ++ e ∷ ys) ≡ innermost_pairs xs ++ innermost_pairs (e ∷ ys)
pairs-apart [] e ys enters = refl
pairs-apart (x ∷ []) e ys enters = rw enters (simp append-nil)
pairs-apart (x ∷ y ∷ xs) e ys enters =
    let here = cond (is_enter x.kind) (ended_pair x (y ∷ xs)) [] in
    ap (λ l. here ++ l) (pairs-apart (y ∷ xs) e ys enters) ∙ sym (append_assoc here (innermost_pairs (y ∷ xs)) (innermost_pairs (e ∷ ys)))

-- an enter and an exit directly behind it are one
pub pair-first : (e f : Event) (es : List Event) → e.kind ≡ Enter → f.kind ≡ Exit → innermost_pairs (e ∷ f ∷ es) ≡ (e, f) ∷ innermost_pairs es
pair-first e f es enters exits = rw (enters, exits) refl

pair-enter : (e f : Event) (es : List Event) → e.kind ≡ Enter → f.kind ≡ Enter → innermost_pairs (e ∷ f ∷ es) ≡ innermost_pairs (f ∷ es)
pair-enter e f es enters inner = rw (enters, inner) refl

-- events begin with an enter, if there are any
abbrev pub Opens : List Event → Type 0
Opens [] = Unit {0}
Opens (e ∷ es) = e.kind ≡ Enter

-- the last event is no enter
abbrev pub Shut : List Event → Type 0
Shut [] = Unit {0}
Shut (e ∷ []) = e.kind ≡ Exit
Shut (e ∷ f ∷ es) = Shut (f ∷ es)

pub spans-behind : (xs ys : List Event) → Shut xs → innermost_spans (xs ++ ys) ≡ innermost_spans xs ++ innermost_spans ys
spans-behind [] ys shut = refl
spans-behind (x ∷ []) ys shut = rw shut refl
spans-behind (x ∷ y ∷ xs) ys shut =
    let here = cond (is_enter x.kind) (ended_next x (y ∷ xs)) [] in
    ap (λ l. here ++ l) (spans-behind (y ∷ xs) ys shut) ∙ sym (append_assoc here (innermost_spans (y ∷ xs)) (innermost_spans ys))

module _ (bytes : List ℕ) where
  -- the enter and the exit of an atom
  abbrev pub pair_of : Atom → Event × Event
  pair_of a = (event bytes Enter a.name a.first.point, event bytes Exit a.name (end_after a.first.end a.others))

  -- the innermost spans of events are those of atoms
  abbrev pub HaveAtoms : List Event → List Atom → Type 0
  HaveAtoms es atoms = innermost_pairs es ≡ map pair_of atoms

  abbrev pub stretch_of : Atom → Seat × List Seat
  stretch_of a = (a.first, a.others)

  pub all-stretches : (atoms : List Atom) → flat_map stretch_bytes (map stretch_of atoms) ≡ seats_of atoms
  all-stretches [] = refl
  all-stretches (a ∷ atoms) = ap (λ l. atom_seats a ++ l) (all-stretches atoms)

  pub atom-places : (atoms : List Atom) → map places_of (map pair_of atoms) ≡ map (span_over bytes) (map stretch_of atoms)
  atom-places [] = refl
  atom-places (a ∷ atoms) = ap (λ l. span_over bytes (stretch_of a) ∷ l) (atom-places atoms)

  -- events that account for virtual bytes, and end with an exit, before others
  pub shut-account : (xs ys : List Event) (seats more : List Seat) → Shut xs → AccountFor xs bytes seats → AccountFor ys bytes more → AccountFor (xs ++ ys) bytes (seats ++ more)
  shut-account xs ys seats more shut h k = record {
    stretches = h.stretches ++ k.stretches;
    are_all = flat_map-append stretch_bytes h.stretches k.stretches ∙ (λ i. h.are_all i ++ k.are_all i);
    are_innermost = spans-behind xs ys shut ∙ (λ i. h.are_innermost i ++ k.are_innermost i) ∙ sym (map-append (span_over bytes) h.stretches k.stretches);
  }

  -- ---- the events of atoms have these atoms
  exits-pairs : (p : Point) (names : List Name) (es : List Event) → innermost_pairs (all_at bytes Exit p names ++ es) ≡ innermost_pairs es
  exits-pairs p [] es = refl
  exits-pairs p (n ∷ ns) es = exits-pairs p ns es

  enters-pairs : (p : Point) (names : List Name) (e : Event) (es : List Event) → e.kind ≡ Enter → innermost_pairs (all_at bytes Enter p names ++ e ∷ es) ≡ innermost_pairs (e ∷ es)
  enters-pairs p [] e es enters = refl
  enters-pairs p (n ∷ []) e es enters = pair-enter (event bytes Enter n p) e es refl enters
  enters-pairs p (n ∷ m ∷ ns) e es enters = enters-pairs p (m ∷ ns) e es enters

  pub pairs-of-atoms : (atoms : List Atom) → HaveAtoms (events_of bytes atoms) atoms
  pairs-of-atoms [] = refl
  pairs-of-atoms (a ∷ atoms) =
      let end = end_after a.first.end a.others in
      let enter = event bytes Enter a.name a.first.point in
      let exit = event bytes Exit a.name end in
      let enters = all_at bytes Enter a.first.point a.enters in
      let exits = all_at bytes Exit end a.exits in
      let others = events_of bytes atoms in
      ap innermost_pairs (append_assoc enters (enter ∷ exit ∷ exits) others) ∙ enters-pairs a.first.point a.enters enter (exit ∷ (exits ++ others)) refl
      ∙ ap (λ l. (enter, exit) ∷ l) (exits-pairs end a.exits others ∙ pairs-of-atoms atoms)
