-- Links, images and emphasis account for the virtual bytes that brackets, runs and the texts between them do, line by line.
use Rattle.mddocument.proofs.Prelude.{Bool, ◌≡◌, ℕ, ◌+◌, ◌<◌, true, false, cond, inl, inr, ◌⊎◌, List, [], ◌∷◌, ◌++◌, append_assoc, length, map, refl, sym, ap, ◌∙◌, subst, arith, append-nil, flat_map-append, every-back, every-front, slice_get, AllByRecursion, Event, Enter, Exit, Data, AttentionSequence, Point, IsBalanced, is_enter, same_name, shown, Seat, end_after, end-after-append, AreBeside, IsBeside, Run, markers_of_all, paired, same, unlinked_event, Standing, markers, standing, marker_from, Marker, Atom, InOneLine, OneLine, NoEnding, atom_seats, seats_of, is_delimiter, pairs-keep}
use Rattle.markdown_base.specs.declared.event.Name.{Name}
use Rattle.markdown_base.specs.declared.event.Name.TheVariants.{LabelImageMarker, LabelText}
use Rattle.markdown_base.proofs.Facts.Lists.{some-front}
use Rattle.mdinline_emphasis.proofs.Beside.Neighbours.{pairs-beside}
use Rattle.mdinline_emphasis.specs.Beside.{AreUnpaired}
use Rattle.mddocument.proofs.Emphasis.Follow.{Follow, FollowFrom, follow-end, place-more, place-opens}
use Rattle.mddocument.proofs.Emphasis.Pairs.{HaveAtoms, Opens, Shut, ended_pair, innermost_pairs, pair-first, pair_of}
use Rattle.mddocument.proofs.Emphasis.RunAtoms.{is_run}
use Rattle.mddocument.proofs.Emphasis.Runs.{balanced-opens, balanced-shut, sequence-kinds}
use Rattle.mddocument.proofs.Innermost.Lined.{LinedFor, lined-atoms, lined-enter, lined-exit, lined-none, lined-shut, lined-span}
use Rattle.mdinline_links.proofs.Aligned.{links-keep-between}
use Rattle.mdinline_links.specs.Between.{AreParts, IsKeptBetween, IsRunOf, is_marked, with_runs}
use Rattle.mdinline_links.specs.Linked.{Part, run, events, around, as_data, last_place, outermost_spans, runs_of_parts, spanning, with_links}

-- ---- lists of atoms in two parts
pub record MapApart {X Y : Type 0} (f : X → Y) (l : List X) (xs ys : List Y) : Type 0 where
  pub front : List X
  pub back : List X
  pub are : l ≡ front ++ back
  pub front_is : map f front ≡ xs
  pub back_is : map f back ≡ ys

map-apart : {X Y : Type 0} (f : X → Y) (l : List X) (xs ys : List Y) → xs ++ ys ≡ map f l → MapApart f l xs ys
map-apart f l [] ys h = record { front = []; back = l; are = refl; front_is = refl; back_is = sym h }
map-apart f [] (x ∷ xs) ys h = absurd (cc)
map-apart f (a ∷ l) (x ∷ xs) ys h =
    let first : x ≡ f a = cc in
    let others : xs ++ ys ≡ map f l = cc in
    let more = map-apart f l xs ys others in
    record { front = a ∷ more.front; back = more.back; are = ap (λ k. a ∷ k) more.are; front_is = λ i. sym first i ∷ more.front_is i; back_is = more.back_is }

-- the innermost spans of events that end with an exit, and of others behind them
pairs-behind : (xs ys : List Event) → Shut xs → innermost_pairs (xs ++ ys) ≡ innermost_pairs xs ++ innermost_pairs ys
pairs-behind [] ys shut = refl
pairs-behind (x ∷ []) ys shut = rw shut refl
pairs-behind (x ∷ y ∷ xs) ys shut =
    let here = cond (is_enter x.kind) (ended_pair x (y ∷ xs)) [] in
    ap (λ l. here ++ l) (pairs-behind (y ∷ xs) ys shut) ∙ sym (append_assoc here (innermost_pairs (y ∷ xs)) (innermost_pairs ys))

-- virtual bytes in one line, before others in it
one-join : (xs ys : List Seat) → NoEnding xs → OneLine ys → OneLine (xs ++ ys)
one-join [] ys h k = k
one-join (x ∷ []) [] h k = tt
one-join (x ∷ []) (y ∷ ys) h k = (h.0, k)
one-join (x ∷ z ∷ xs) ys h k = (h.0, one-join (z ∷ xs) ys h.1 k)

-- what a bracket or a `]` alone holds: one innermost span as long as it, or that of the first marker of an image and another
abbrev pub HoldsOne : Event → List Event → Type 0
HoldsOne e es = (x y : Event) × (innermost_pairs (e ∷ es) ≡ (x, y) ∷ []) × (x.point ≡ e.point) × (y.point ≡ last_place e.point es)

abbrev pub HoldsTwo : Event → List Event → Type 0
HoldsTwo e es =
    (x y z w : Event) × (innermost_pairs (e ∷ es) ≡ (x, y) ∷ (z, w) ∷ []) × (same_name x.name LabelImageMarker ≡ true) × (x.point ≡ e.point) × (w.point ≡ last_place e.point es)

abbrev pub HoldsMarkers : List Event → Type 0
HoldsMarkers [] = Unit {0}
HoldsMarkers (e ∷ es) = is_marked (e ∷ es) ≡ true → HoldsOne e es ⊎ HoldsTwo e es

module _ (bytes : List ℕ) where
  -- the marker that a virtual byte is in the document
  abbrev pub marker_at : Seat → Marker
  marker_at s = marker_from (slice_get bytes (shown bytes s.point).index)

  -- virtual bytes begin with a marker, and they do not go on with this one
  abbrev pub BeginsWith : Marker → List Seat → Type 0
  BeginsWith marker [] = ⊥
  BeginsWith marker (s ∷ ss) = (is_delimiter s.byte ≡ true) × (marker ≡ marker_at s)

  abbrev pub StopsAt : Marker → List Seat → Type 0
  StopsAt marker [] = Unit {0}
  StopsAt marker (s ∷ ss) = is_delimiter s.byte ≡ true → same marker (marker_at s) ≡ false

  other-marker : (a b : Marker) (l : List Seat) → StopsAt a l → BeginsWith b l → same a b ≡ false
  other-marker a b [] h k = absurd k
  other-marker a b (s ∷ ss) h k = ap (same a) k.1 ∙ h k.0

  -- ---- what is read: its innermost spans are atoms

  -- an atom that is a run goes byte by byte, and is as long as can be; the first marker of an image is in the line of what is behind it
  abbrev pub IsGood : Atom → List Seat → Type 0
  IsGood a rest =
      (is_run a ≡ true → FollowFrom bytes (shown bytes a.first.point) (atom_seats a) × (is_delimiter a.first.byte ≡ true) × StopsAt (marker_at a.first) rest)
      × (same_name a.name LabelImageMarker ≡ true → NoEnding (atom_seats a))

  abbrev pub AreGood : List Atom → List Seat → Type 0
  AreGood [] rest = Unit {0}
  AreGood (a ∷ atoms) rest = IsGood a (seats_of atoms ++ rest) × AreGood atoms rest

  -- from virtual bytes on up to those that are left
  pub record IsRead (p : List Seat) (es : List Event) (q : List Seat) : Type 0 where
    pub atoms : List Atom
    pub have : HaveAtoms bytes es atoms
    pub lines : AllByRecursion InOneLine atoms
    pub are : p ≡ seats_of atoms ++ q
    pub good : AreGood atoms q

  good-apart : (xs ys : List Atom) (q : List Seat) → AreGood (xs ++ ys) q → AreGood xs (seats_of ys ++ q) × AreGood ys q
  good-apart [] ys q h = (tt, h)
  good-apart (a ∷ xs) ys q h =
      let more = good-apart xs ys q h.1 in
      let same : seats_of (xs ++ ys) ++ q ≡ seats_of xs ++ (seats_of ys ++ q) = ap (λ l. l ++ q) (flat_map-append atom_seats xs ys) ∙ append_assoc (seats_of xs) (seats_of ys) q in
      ((subst (IsGood a) same h.0, more.0), more.1)

  pub read-apart : (p q : List Seat) (xs ys : List Event) → IsBalanced xs → IsRead p (xs ++ ys) q → (m : List Seat) × IsRead p xs m × IsRead m ys q
  read-apart p q xs ys b h =
      let cut = map-apart (pair_of bytes) h.atoms (innermost_pairs xs) (innermost_pairs ys) (sym (pairs-behind xs ys (balanced-shut b)) ∙ h.have) in
      let lines = subst (AllByRecursion InOneLine) cut.are h.lines in
      let good = good-apart cut.front cut.back q (subst (λ l. AreGood l q) cut.are h.good) in
      let seats : seats_of h.atoms ++ q ≡ seats_of cut.front ++ (seats_of cut.back ++ q) =
      ap (λ l. seats_of l ++ q) cut.are ∙ ap (λ l. l ++ q) (flat_map-append atom_seats cut.front cut.back) ∙ append_assoc (seats_of cut.front) (seats_of cut.back) q in (
        seats_of cut.back ++ q,
        record { atoms = cut.front; have = sym cut.front_is; lines = every-front InOneLine cut.front cut.back lines; are = h.are ∙ seats; good = good.0 },
        record { atoms = cut.back; have = sym cut.back_is; lines = every-back InOneLine cut.front cut.back lines; are = refl; good = good.1 },
      )

  -- ---- what is made: it accounts for virtual bytes, line by line
  pub record Over (p : List Seat) (es : List Event) (q : List Seat) : Type 0 where
    pub seats : List Seat
    pub are : p ≡ seats ++ q
    pub lined : LinedFor es bytes seats

  pub record RunOver (p : List Seat) (r : Run) (q : List Seat) : Type 0 where
    pub seats : List Seat
    pub are : p ≡ seats ++ q
    pub line : OneLine seats
    pub follow : Follow bytes r.left r.start seats
    pub begins : BeginsWith r.marker p
    pub stops : StopsAt r.marker q

  over-both : (p m q : List Seat) (xs ys : List Event) → IsBalanced xs → Over p xs m → Over m ys q → Over p (xs ++ ys) q
  over-both p m q xs ys b h k = record {
    seats = h.seats ++ k.seats;
    are = h.are ∙ ap (λ l. h.seats ++ l) k.are ∙ sym (append_assoc h.seats k.seats q);
    lined = lined-shut bytes xs ys h.seats k.seats (balanced-shut b) h.lined k.lined;
  }

  over-exit : (p q : List Seat) (e : Event) (es : List Event) → e.kind ≡ Exit → Over p es q → Over p (e ∷ es) q
  over-exit p q e es exits h = record { seats = h.seats; are = h.are; lined = lined-exit bytes e es h.seats exits h.lined }

  over-enter : (p q : List Seat) (e : Event) (es : List Event) → e.kind ≡ Enter → 0 < length es → Opens es → Over p es q → Over p (e ∷ es) q
  over-enter p q e [] enters some opens h = absurd (omega (arith, some))
  over-enter p q e (f ∷ es) enters some opens h = record { seats = h.seats; are = h.are; lined = lined-enter bytes e f es h.seats enters opens h.lined }

  over-none : (q : List Seat) → Over q [] q
  over-none q = record { seats = []; are = refl; lined = lined-none bytes }

  -- ---- runs
  run-over : (p q : List Seat) (r : Run) (e f : Event) (atoms : List Atom) → IsRunOf bytes r e f → map (pair_of bytes) atoms ≡ (e, f) ∷ [] → AllByRecursion InOneLine atoms → p ≡ seats_of atoms ++ q → AreGood atoms q
      → RunOver p r q × (0 < r.left)
  run-over p q r e f [] run_is have lines are good = absurd (cc)
  run-over p q r e f (a ∷ b ∷ atoms) run_is have lines are good = absurd (cc)
  run-over p q r e f (a ∷ []) run_is have lines are good =
      let pair : (e, f) ≡ pair_of bytes a = cc in
      let l = atom_seats a in
      let o = shown bytes a.first.point in
      let is : is_run a ≡ true = subst (λ (n : Name). same_name n AttentionSequence ≡ true) (ap (λ (x : Event × Event). x.0.name) pair) (sequence-kinds e f run_is.is).2 in
      let known = good.0.0 is in
      let from : e.point ≡ o = ap (λ (x : Event × Event). x.0.point) pair in
      let to : f.point ≡ shown bytes (end_after a.first.end a.others) = ap (λ (x : Event × Event). x.1.point) pair in
      let start : e.point.index ≡ o.index = ap (λ (x : Point). x.index) from in
      let end : f.point.index ≡ o.index + length l = ap (λ (x : Point). x.index) (to ∙ follow-end bytes o a.first a.others known.0) in
      let many : length l ≡ r.left = omega (arith, start, end, run_is.many) in
      let marker : r.marker ≡ marker_at a.first = run_is.marker ∙ ap (λ (x : Point). marker_from (slice_get bytes x.index)) from in
      let all : p ≡ l ++ q = are ∙ ap (λ k. k ++ q) (append-nil l) in (
        record {
          seats = l;
          are = all;
          line = lines.0;
          follow = (many, subst (λ x. FollowFrom bytes x l) (sym (run_is.start ∙ from)) known.0);
          begins = subst (BeginsWith r.marker) (sym all) (known.1, marker);
          stops = subst (λ t. StopsAt t q) (sym marker) known.2;
        },
        omega (arith, many),
      )

  -- ---- data in the place of a bracket
  data-over : (p q : List Seat) (e : Event) (es : List Event) (s : Seat) (ss : List Seat) → p ≡ (s ∷ ss) ++ q → OneLine (s ∷ ss) → e.point ≡ shown bytes s.point → last_place e.point es ≡ shown bytes (end_after s.end ss)
      → Over p (as_data (e ∷ es)) q
  data-over p q e es s ss are line from to = record {
    seats = (s ∷ ss) ++ [];
    are = are ∙ ap (λ l. l ++ q) (sym (append-nil (s ∷ ss)));
    lined = lined-span bytes (unlinked_event Enter Data e.point) (unlinked_event Exit Data (last_place e.point es)) [] s ss [] line refl refl from to (lined-none bytes);
  }

  one-over : (p q : List Seat) (e : Event) (es : List Event) (atoms : List Atom) (x y : Event) → map (pair_of bytes) atoms ≡ (x, y) ∷ [] → x.point ≡ e.point → y.point ≡ last_place e.point es
      → AllByRecursion InOneLine atoms → p ≡ seats_of atoms ++ q → Over p (as_data (e ∷ es)) q
  one-over p q e es [] x y have from to lines are = absurd (cc)
  one-over p q e es (a ∷ b ∷ atoms) x y have from to lines are = absurd (cc)
  one-over p q e es (a ∷ []) x y have from to lines are =
      let pair : (x, y) ≡ pair_of bytes a = cc in
      data-over p q e es a.first a.others (are ∙ ap (λ k. k ++ q) (append-nil (atom_seats a))) lines.0 (sym from ∙ ap (λ (z : Event × Event). z.0.point) pair) (sym to ∙ ap (λ (z : Event × Event). z.1.point) pair)

  two-over : (p q : List Seat) (e : Event) (es : List Event) (atoms : List Atom) (x y z w : Event) → map (pair_of bytes) atoms ≡ (x, y) ∷ (z, w) ∷ [] → same_name x.name LabelImageMarker ≡ true → x.point ≡ e.point
      → w.point ≡ last_place e.point es → AllByRecursion InOneLine atoms → AreGood atoms q → p ≡ seats_of atoms ++ q → Over p (as_data (e ∷ es)) q
  two-over p q e es [] x y z w have name from to lines good are = absurd (cc)
  two-over p q e es (a ∷ []) x y z w have name from to lines good are = absurd (cc)
  two-over p q e es (a ∷ b ∷ c ∷ atoms) x y z w have name from to lines good are = absurd (cc)
  two-over p q e es (a ∷ b ∷ []) x y z w have name from to lines good are =
      let first : (x, y) ≡ pair_of bytes a = cc in
      let second : (z, w) ≡ pair_of bytes b = cc in
      let plain = good.0.1 (subst (λ (n : Name). same_name n LabelImageMarker ≡ true) (ap (λ (v : Event × Event). v.0.name) first) name) in
      let all : p ≡ (atom_seats a ++ atom_seats b) ++ q =
      are ∙ ap (λ k. k ++ q) (ap (λ k. atom_seats a ++ k) (append-nil (atom_seats b))) in
      let end : end_after a.first.end (a.others ++ atom_seats b) ≡ end_after b.first.end b.others = end-after-append a.first.end a.others (atom_seats b) in
      data-over p q e es a.first (a.others ++ atom_seats b) all (one-join (atom_seats a) (atom_seats b) plain lines.1.0) (sym from ∙ ap (λ (v : Event × Event). v.0.point) first)
      (sym to ∙ ap (λ (v : Event × Event). v.1.point) second ∙ ap (shown bytes) (sym end))

  data-holds : (p q : List Seat) (e : Event) (es : List Event) → HoldsOne e es ⊎ HoldsTwo e es → IsRead p (e ∷ es) q → Over p (as_data (e ∷ es)) q
  data-holds p q e es (inl one) h = one-over p q e es h.atoms one.0 one.1 (sym h.have ∙ one.2) one.3 one.4 h.lines h.are
  data-holds p q e es (inr two) h = two-over p q e es h.atoms two.0 two.1 two.2 two.3 (sym h.have ∙ two.4) two.5 two.6 two.7 h.lines h.good h.are

  -- ---- spans around lists
  around-over : (p q : List Seat) (name : Name) (e : Event) (es : List Event) → IsBalanced (e ∷ es) → Over p (e ∷ es) q → Over p (around name (e ∷ es)) q
  around-over p q name e es b h =
      let exit = unlinked_event Exit name (last_place e.point es) in
      over-enter p q (unlinked_event Enter name e.point) ((e ∷ es) ++ exit ∷ []) refl (omega arith) (balanced-opens b) (over-both p q q (e ∷ es) (exit ∷ []) b h (over-exit q q exit [] refl (over-none q)))

  opens-front : (xs ys : List Event) → 0 < length xs → Opens xs → Opens (xs ++ ys)
  opens-front [] ys some h = absurd (omega (arith, some))
  opens-front (x ∷ xs) ys some h = h

  text-over : (p m n q : List Seat) (e : Event) (es text : List Event) (f : Event) (fs : List Event) → 0 < length text → IsBalanced (e ∷ es) → IsBalanced text → Over p (e ∷ es) m → Over m text n → Over n (f ∷ fs) q
      → Over p ((e ∷ es) ++ (spanning LabelText (last_place e.point es) (last_place (last_place e.point es) text) text ++ f ∷ fs)) q
  text-over p m n q e es text f fs some b c h k l =
      let exit = unlinked_event Exit LabelText (last_place (last_place e.point es) text) in
      let behind = text ++ exit ∷ f ∷ fs in
      let inside = over-both m n q text (exit ∷ f ∷ fs) c k (over-exit n q exit (f ∷ fs) refl l) in
      let same : (text ++ exit ∷ []) ++ f ∷ fs ≡ behind = append_assoc text (exit ∷ []) (f ∷ fs) in
      let spanned = over-enter m q (unlinked_event Enter LabelText (last_place e.point es)) behind refl (some-front text (exit ∷ f ∷ fs) some) (opens-front text (exit ∷ f ∷ fs) some (balanced-opens c)) inside in
      over-both p m q (e ∷ es) (spanning LabelText (last_place e.point es) (last_place (last_place e.point es) text) text ++ f ∷ fs) b h
      (subst (λ xs. Over m (unlinked_event Enter LabelText (last_place e.point es) ∷ xs) q) (sym same) spanned)

  -- ---- emphasis
  abbrev pub AreOver : List Seat → List Part → List Seat → Type 0
  AreOver = AreParts (List Seat) Over RunOver

  pub unpaired : (p q : List Seat) (ps : List Part) → AreOver p ps q → AreUnpaired (runs_of_parts ps)
  unpaired p q [] h = tt
  unpaired p q (run r ∷ ps) h = (h.1.1, unpaired h.0 q ps h.2)
  unpaired p q (events es ∷ ps) h = unpaired h.0 q ps h.2

  -- the first part is no run that closes something
  abbrev pub IsFree : List Part → List Run → Type 0
  IsFree (run r ∷ ps) (s ∷ ss) = s.closed ≡ []
  IsFree ps ss = Unit {0}

  pub record Goes (p : List Seat) (ps : List Part) (ss : List Run) (q : List Seat) : Type 0 where
    pub over : Over p (with_runs ps ss) q
    pub opens : IsFree ps ss → Opens (with_runs ps ss)

  -- a run opens nothing, or an enter is behind it
  pub free-behind : (p m q : List Seat) (r s : Run) (ps : List Part) (ss : List Run) → RunOver p r m → AreOver m ps q → standing s ≡ standing r → map standing ss ≡ map standing (runs_of_parts ps) → AreBeside (s ∷ ss)
      → (IsFree ps ss → Opens (with_runs ps ss)) → (s.opened ≡ []) ⊎ Opens (with_runs ps ss)
  free-behind p m q r s [] ss h k first others beside opens = inr tt
  free-behind p m q r s (events es ∷ ps) ss h k first others beside opens = inr (opens tt)
  free-behind p m q r s (run r' ∷ ps) [] h k first others beside opens = cc
  free-behind p m q r s (run r' ∷ ps) (s' ∷ ss) h k first others beside opens = by beside.0
    where
      by : IsBeside s s' → (s.opened ≡ []) ⊎ Opens (with_runs (run r' ∷ ps) (s' ∷ ss))
      by (inl none) = inl none
      by (inr (inl none)) = inr (opens none)
      by (inr (inr alike)) =
          let second : standing s' ≡ standing r' = cc in
          let no = other-marker r.marker r'.marker m h.stops k.1.0.begins in
          let yes : same r.marker r'.marker ≡ true = (λ i. same (ap (λ (x : Standing). x.marker) (sym first) i) (ap (λ (x : Standing). x.marker) (sym second) i)) ∙ alike in
          let never : true ≡ false = sym yes ∙ no in
          absurd (cc)

  beside-others : (s : Run) (ss : List Run) → AreBeside (s ∷ ss) → AreBeside ss
  beside-others s [] h = tt
  beside-others s (t ∷ ss) h = h.1

  pub parts-go : (p q : List Seat) (ps : List Part) (ss : List Run) → AreOver p ps q → map standing ss ≡ map standing (runs_of_parts ps) → AreBeside ss → Goes p ps ss q
  parts-go p q [] ss h stand beside = record { over = subst (λ x. Over p [] x) h (over-none p); opens = λ free. tt }
  parts-go p q (run r ∷ ps) [] h stand beside = cc
  parts-go p q (run r ∷ ps) (s ∷ ss) h stand beside =
      let first : standing s ≡ standing r = cc in
      let others : map standing ss ≡ map standing (runs_of_parts ps) = cc in
      let more = parts-go h.0 q ps ss h.2 others (beside-others s ss beside) in
      let over = h.1.0 in
      let start : r.start ≡ s.start = ap (λ (x : Standing). x.start) (sym first) in
      let closed = ap markers_of_all h.1.1.0 in
      let opened = ap markers_of_all h.1.1.1 in
      let many : markers s ≡ markers r = ap (λ (x : Standing). x.markers) first in
      let left : r.left ≡ markers s = omega (arith, many, closed, opened) in
      let follow : Follow bytes (markers s) s.start over.seats = subst (λ x. Follow bytes (markers s) x over.seats) start (subst (λ n. Follow bytes n r.start over.seats) left over.follow) in
      let free = free-behind p h.0 q r s ps ss over h.2 first others beside more.opens in
      let es = with_runs ps ss in
      record {
        over = record {
          seats = over.seats ++ more.over.seats;
          are = over.are ∙ ap (λ l. over.seats ++ l) more.over.are ∙ sym (append_assoc over.seats more.over.seats q);
          lined = place-more bytes s over.seats more.over.seats es over.line follow free more.over.lined;
        };
        opens = λ none. place-opens s es none (let some = h.1.2 in omega (arith, left, some));
      }
  parts-go p q (events es ∷ ps) ss h stand beside =
      let more = parts-go h.0 q ps ss h.2 stand beside in
      record { over = over-both p h.0 q es (with_runs ps ss) h.1.1 h.1.0 more.over; opens = λ free. opens-front es (with_runs ps ss) h.1.2 (balanced-opens h.1.1) }

  pub over-is-kept : IsKeptBetween bytes HoldsMarkers (List Seat) IsRead Over RunOver
  over-is-kept = record {
    apart = λ p q xs ys b c h. read-apart p q xs ys b h;
    same = λ p q es b h. record { seats = seats_of h.atoms; are = h.are; lined = lined-atoms bytes es h.atoms h.have h.lines };
    run_of = λ p q r e f run_is known h.
        let kinds = sequence-kinds e f run_is.is in
        run-over p q r e f h.atoms run_is (sym h.have ∙ pair-first e f [] kinds.0 kinds.1) h.lines h.are h.good;
    data_of_it = λ p q e es is known h. data-holds p q e es (known is) h;
    nothing = over-none;
    together = λ p m q xs ys b c h k. over-both p m q xs ys b h k;
    around_it = λ p q name e es n b h. around-over p q name e es b h;
    text_around = text-over;
    emphasis = λ p q ps h. (parts-go p q ps (paired (runs_of_parts ps)) h (pairs-keep (runs_of_parts ps)) (pairs-beside (runs_of_parts ps) (unpaired p q ps h))).over;
  }

  -- Of balanced events with these atoms links, images and emphasis account for the virtual bytes of the atoms, line by line
  pub links-account : (one : Bool) (es : List Event) (atoms : List Atom) → IsBalanced es → AllByRecursion HoldsMarkers (outermost_spans es) → HaveAtoms bytes es atoms → AllByRecursion InOneLine atoms → AreGood atoms []
      → LinedFor (with_links one bytes es) bytes (seats_of atoms)
  links-account one es atoms balanced known have lines good =
      let over = links-keep-between one bytes HoldsMarkers (List Seat) IsRead Over RunOver over-is-kept es (seats_of atoms) [] balanced known
      (record { atoms = atoms; have = have; lines = lines; are = sym (append-nil (seats_of atoms)); good = good }) in
      subst (LinedFor (with_links one bytes es) bytes) (sym (over.are ∙ append-nil over.seats)) over.lined
