-- The course of a text: each of its virtual bytes is shown where the one before it ends, or behind a gap from there.
use Rattle.mdconstructs_machines.proofs.Columns.{end-column}
use Rattle.mdblock_leaf_blocks.proofs.Prelude.{◌≡◌, ◌⊎◌, ℕ, suc, ◌+◌, ◌-◌, ◌^◌, ◌<◌, ◌≤◌, List, [], ◌∷◌, ◌++◌, true, false, inl, inr, Contains, AllByRecursion, All-contains, All-from_recursion, every-append, every-back, every-map, append_assoc, refl, sym, ap, ◌∙◌, subst, arith, append-nil, length, length-append, filter, end-after-one, stands-self, Point, IsPointOf, IsShown, denotes_same, is_line_ending, shown, stands_before, Seat, end_after, point, virtual, upto-upto, IsChain, whole-chain, after-is-point, chain-at, chain-upto, Given, Text, IsText, Piece, pushed, passed, CanFollow, FitsAfter, empty_text, followed_by, followed_by_all, AcrossGap, AtOnce, after-before, place-after, place-of-point, rest-after, shown-shown, in_range, cond_both, append_cancel_left, append_cancel_right}
use Rattle.markdown_tokenizer.proofs.Positions.Cursors.{left_of, range-empty, same-behind, text-splits, upto-order, upto-self}
use Rattle.markdown_tokenizer.proofs.Positions.Lines.{upto-shown, way-chain, way-ends, way-rest}
use Rattle.markdown_tokenizer.proofs.Positions.Points.{same-shown, shown-column, shown-line}
use Rattle.markdown_tokenizer.proofs.Positions.Seats.{rest-later}
use Rattle.mdblock_leaf_blocks.proofs.Lines.{IsWhole, has-room}
use Rattle.markdown_tokenizer.specs.Cursor.{IsPlace, goes_on, rest_at}

module _ (t : ℕ) (bytes : List ℕ) where
  -- a place of the document, where it is shown
  pub record Place (p : Point) : Type 0 where
    pub is_point : IsPointOf t bytes p
    pub is_shown : IsShown bytes p

  -- virtual bytes of the document are before the place behind them
  place-front : (wide : 0 < t) (front rest : List Seat) → virtual t bytes ≡ front ++ rest → AllByRecursion (λ (v : Seat). stands_before v.point (end_after (point 1 1 0 0) front) ≡ true) front
  place-front wide front rest e =
      let place = place-after t bytes wide front rest e in
      let same : place.before ≡ front = append_cancel_right place.before front rest (ap (λ (ys : List Seat). place.before ++ ys) (sym (rest-after t bytes wide front rest e)) ∙ sym place.splits ∙ e) in
      subst (AllByRecursion (λ (v : Seat). stands_before v.point (end_after (point 1 1 0 0) front) ≡ true)) same place.behind

  -- where a place is shown is one
  pub shown-place : (wide : 0 < t) (p : Point) → IsPlace t bytes p → Place (shown bytes p)
  shown-place wide p h = record { is_point = subst (IsPointOf t bytes) (sym h.stands) (after-is-point t bytes wide h.before (rest_at t bytes p) h.splits); is_shown = shown-shown t bytes p }

  -- A virtual byte of the document, with those before and behind it: where it is shown is a place; it ends behind that; whatever is not before
  -- it is it, or not before its end; and if it is no line ending, it does not end at the beginning of a line
  pub record IsSeat (s : Seat) : Type 0 where
    pub front : List Seat
    pub rest : List Seat
    pub splits : virtual t bytes ≡ front ++ s ∷ rest
    pub stands : shown bytes s.point ≡ end_after (point 1 1 0 0) front
    pub here : Place (shown bytes s.point)
    pub onward : stands_before s.end (shown bytes s.point) ≡ false
    pub first : (v : Seat) → Contains (virtual t bytes) v → stands_before v.point (shown bytes s.point) ≡ false → (v ≡ s) ⊎ (stands_before v.point s.end ≡ false)
    pub in_line : is_line_ending s ≡ false → 1 < s.end.column

  chain-seat : (wide : 0 < t) (front : List Seat) (s : Seat) (rest : List Seat) → virtual t bytes ≡ front ++ s ∷ rest → let p = end_after (point 1 1 0 0) front in IsChain t bytes p (s ∷ rest) → Place p → IsSeat s
  chain-seat wide front s rest e c place =
      let p = end_after (point 1 1 0 0) front in
      let is : shown bytes s.point ≡ p = c.1.shown_is in
      let before : AllByRecursion (λ (v : Seat). stands_before v.point p ≡ true) front = place-front wide front (s ∷ rest) e in
      let behind : AllByRecursion (λ (v : Seat). stands_before v.point s.end ≡ false) rest =
      subst (AllByRecursion (λ (v : Seat). stands_before v.point s.end ≡ false)) (chain-at t bytes s.end rest c.2).is (rest-later t bytes s.end) in
      let P = λ (v : Seat). stands_before v.point (shown bytes s.point) ≡ false → (v ≡ s) ⊎ (stands_before v.point s.end ≡ false) in
      let all : AllByRecursion P (front ++ s ∷ rest) =
      every-append P front (s ∷ rest)
      (every-map (λ (v : Seat). stands_before v.point p ≡ true) P (λ (v : Seat) h k. absurd (let no : true ≡ false = sym h ∙ ap (λ q. stands_before v.point q) (sym is) ∙ k in cc)) front before)
      ((λ k. inl refl), every-map (λ (v : Seat). stands_before v.point s.end ≡ false) P (λ v h k. inr h) rest behind) in
      record {
        front = front;
        rest = rest;
        splits = e;
        stands = is;
        here = subst Place (sym is) place;
        onward = ap (λ q. stands_before s.end q) is ∙ chain-upto t bytes p (s ∷ []) rest c;
        first = λ v among. All-contains P (virtual t bytes) v (All-from_recursion P (virtual t bytes) (subst (AllByRecursion P) (sym e) all)) among;
        in_line = λ plain.
            let column : s.end.column ≡ suc s.point.column = ap (λ (q : Point). q.column) (sym c.1.end_is) ∙ end-column t s.byte s.point (goes_on t s.byte s.point) plain refl in
            omega (arith, column, c.1.seat_bounds.first);
      }

-- how the place behind a virtual byte meets the place at which the next one is shown
module _ (Meets : (from to : Point) → Type 0) (t : ℕ) (bytes : List ℕ) where
  -- A virtual byte behind a place: it is shown at a place that meets it, not before it
  pub record Stands (p : Point) (s : Seat) : Type 0 where
    pub seat : IsSeat t bytes s
    pub meets : Meets p (shown bytes s.point)
    pub later : stands_before (shown bytes s.point) p ≡ false

  -- virtual bytes behind a place, each of which stands behind the one before it
  abbrev pub Course : Point → List Seat → Type 0
  Course p [] = Place t bytes p
  Course p (s ∷ ss) = Place t bytes p × Stands p s × Course s.end ss

  -- and the last meets a place
  abbrev Way : Point → List Seat → Point → Type 0
  Way p [] q = Place t bytes p × Meets p q
  Way p (s ∷ ss) q = Place t bytes p × Stands p s × Way s.end ss q

  way-course : (p : Point) (ss : List Seat) (q : Point) → Way p ss q → Course p ss
  way-course p [] q h = h.0
  way-course p (s ∷ ss) q h = (h.0, h.1, way-course s.end ss q h.2)

  pub course-place : (p : Point) (ss : List Seat) → Course p ss → Place t bytes p
  course-place p [] h = h
  course-place p (s ∷ ss) h = h.0

  pub course-on : (p : Point) (xs ys : List Seat) → Course p (xs ++ ys) → Course (end_after p xs) ys
  course-on p [] ys h = h
  course-on p (s ∷ ss) ys h = course-on s.end ss ys h.2

  pub course-upto : (p : Point) (xs ys : List Seat) → Course p (xs ++ ys) → stands_before (end_after p xs) p ≡ false
  course-upto p [] ys h = stands-self p
  course-upto p (s ∷ ss) ys h = upto-upto p (shown bytes s.point) (end_after s.end ss) h.1.later (upto-upto (shown bytes s.point) s.end (end_after s.end ss) h.1.seat.onward (course-upto s.end ss ys h.2))

  -- a place meets itself
  module _ (stays : (q : Point) → Meets q q) where
    -- the course from where its first byte is shown
    pub course-here : (p : Point) (s : Seat) (ss : List Seat) → Course p (s ∷ ss) → Course (shown bytes s.point) (s ∷ ss)
    course-here p s ss h = (h.1.seat.here, record { seat = h.1.seat; meets = stays (shown bytes s.point); later = stands-self (shown bytes s.point) }, h.2)

    -- the way of virtual bytes that are next to each other in the document
    chain-way : (wide : 0 < t) (front xs ys : List Seat) → virtual t bytes ≡ front ++ (xs ++ ys) → let p = end_after (point 1 1 0 0) front in IsChain t bytes p (xs ++ ys) → Way p xs (end_after p xs)
    chain-way wide front [] ys e c =
        let p = end_after (point 1 1 0 0) front in
        (record { is_point = after-is-point t bytes wide front ys e; is_shown = (chain-at t bytes p ys c).shown }, stays p)
    chain-way wide front (s ∷ ss) ys e c =
        let p = end_after (point 1 1 0 0) front in
        let more : virtual t bytes ≡ (front ++ s ∷ []) ++ (ss ++ ys) = e ∙ sym (append_assoc front (s ∷ []) (ss ++ ys)) in
        let ends : end_after (point 1 1 0 0) (front ++ s ∷ []) ≡ s.end = end-after-one (point 1 1 0 0) front s in
        let rest = chain-way wide (front ++ s ∷ []) ss ys more (subst (λ q. IsChain t bytes q (ss ++ ys)) (sym ends) c.2) in
        let place : Place t bytes p = record { is_point = after-is-point t bytes wide front (s ∷ (ss ++ ys)) e; is_shown = (chain-at t bytes p (s ∷ (ss ++ ys)) c).shown } in
        let is : shown bytes s.point ≡ p = c.1.shown_is in (
          place,
          record { seat = chain-seat t bytes wide front s (ss ++ ys) e c place; meets = subst (Meets p) (sym is) (stays p); later = ap (λ q. stands_before q p) is ∙ stands-self p },
          subst (λ q. Way q ss (end_after q ss)) ends rest,
        )

-- ---- without gaps

module _ (t : ℕ) (bytes : List ℕ) where
  -- a course without gaps, as that of a document
  abbrev pub Track : Point → List Seat → Type 0
  Track = Course AtOnce t bytes

  pub track-place : (p : Point) (ss : List Seat) → Track p ss → Place t bytes p
  track-place = course-place AtOnce t bytes

  pub track-on : (p : Point) (xs ys : List Seat) → Track p (xs ++ ys) → Track (end_after p xs) ys
  track-on = course-on AtOnce t bytes

  pub track-upto : (p : Point) (xs ys : List Seat) → Track p (xs ++ ys) → stands_before (end_after p xs) p ≡ false
  track-upto = course-upto AtOnce t bytes

  pub whole-track : 0 < t → Track (point 1 1 0 0) (virtual t bytes)
  whole-track wide =
      let seats = virtual t bytes in
      let all : seats ≡ seats ++ [] = sym (append-nil seats) in
      way-course AtOnce t bytes (point 1 1 0 0) seats _ (chain-way AtOnce t bytes (λ q. refl) wide [] seats [] all (subst (IsChain t bytes (point 1 1 0 0)) all (whole-chain t bytes wide)))

-- ---- with gaps

pub across-none : (q : Point) → AcrossGap q q
across-none q = record { forward = stands-self q; in_line = inl refl }

across-both : (p m q : Point) → AcrossGap p m → AcrossGap m q → AcrossGap p q
across-both p m q h k = record {
  forward = upto-upto p m q h.forward k.forward;
  in_line = elim h.in_line [
    | inl same ↦ elim k.in_line [ inl more ↦ inl (same ∙ more) | inr gap ↦ inr (ap (λ (x : Point). x.column) same ∙ gap.0, gap.1 ∙ ap (λ (x : Point). x.line) (sym same)) ]
    | inr gap ↦ elim k.in_line [ inl same ↦ inr (gap.0, ap (λ (x : Point). x.line) (sym same) ∙ gap.1) | inr more ↦ inr (gap.0, more.1 ∙ gap.1) ]
  ];
}

module _ (t : ℕ) (bytes : List ℕ) where
  abbrev Goes : Point → List Seat → Point → Type 0
  Goes = Way AcrossGap t bytes

  goes-from : (p m : Point) (ys : List Seat) (q : Point) → Place t bytes p → AcrossGap p m → Goes m ys q → Goes p ys q
  goes-from p m [] q place gap h = (place, across-both p m q gap h.1)
  goes-from p m (s ∷ ss) q place gap h = (
    place,
    record { seat = h.1.seat; meets = across-both p m (shown bytes s.point) gap h.1.meets; later = upto-upto p m (shown bytes s.point) gap.forward h.1.later },
    h.2,
  )

  goes-on : (p : Point) (xs : List Seat) (m : Point) (ys : List Seat) (q : Point) → Goes p xs m → Goes m ys q → Goes p (xs ++ ys) q
  goes-on p [] m ys q h k = goes-from p m ys q h.0 h.1 k
  goes-on p (s ∷ ss) m ys q h k = (h.0, h.1, goes-on s.end ss m ys q h.2 k)

-- what holds of each virtual byte of the document holds of those with a course
pub course-every : (Meets : (from to : Point) → Type 0) (t : ℕ) (bytes : List ℕ) (P : Seat → Type 0) → AllByRecursion P (virtual t bytes) → (p : Point) (ss : List Seat) → Course Meets t bytes p ss → AllByRecursion P ss
course-every Meets t bytes P all p [] h = tt
course-every Meets t bytes P all p (s ∷ ss) h =
    let seat = h.1.seat in
    ((every-back P seat.front (s ∷ seat.rest) (subst (AllByRecursion P) seat.splits all)).0, course-every Meets t bytes P all s.end ss h.2)

-- virtual bytes of one line have no gap between them
pub line-track : (t : ℕ) (bytes : List ℕ) (p : Point) (s : Seat) (ss more : List Seat) → IsWhole (s ∷ ss) → Course AcrossGap t bytes p (s ∷ (ss ++ more)) → Track t bytes (shown bytes s.point) (s ∷ ss)
line-track t bytes p s [] more w course = (
  course.1.seat.here,
  record { seat = course.1.seat; meets = refl; later = stands-self (shown bytes s.point) },
  course-place AcrossGap t bytes s.end more course.2,
)
line-track t bytes p s (r ∷ ss) more (inr end) course = absurd (let none : r ∷ ss ≡ [] = end.1 in cc)
line-track t bytes p s (r ∷ ss) more (inl on) course =
    let there : s.end ≡ shown bytes r.point = elim course.2.1.meets.in_line [ inl same ↦ same | inr gap ↦ absurd (let far = course.1.seat.in_line on.0 in omega (arith, far, gap.0)) ] in (
      course.1.seat.here,
      record { seat = course.1.seat; meets = refl; later = stands-self (shown bytes s.point) },
      subst (λ q. Track t bytes q (r ∷ ss)) (sym there) (line-track t bytes s.end r ss more on.1 course.2),
    )

-- and are next to each other in the document
module _ (t : ℕ) (bytes : List ℕ) (wide : 0 < t) where
  next-rest : (s r : Seat) (one : IsSeat t bytes s) (two : IsSeat t bytes r) → s.end ≡ shown bytes r.point → one.rest ≡ r ∷ two.rest
  next-rest s r one two there =
      let front = one.front ++ s ∷ [] in
      let all : virtual t bytes ≡ front ++ one.rest = one.splits ∙ sym (append_assoc one.front (s ∷ []) one.rest) in
      let ends : end_after (point 1 1 0 0) front ≡ s.end = end-after-one (point 1 1 0 0) one.front s in
      sym (rest-after t bytes wide front one.rest all) ∙ ap (rest_at t bytes) (ends ∙ there ∙ two.stands) ∙ rest-after t bytes wide two.front (r ∷ two.rest) two.splits

  pub line-splits : (p : Point) (s : Seat) (ss more : List Seat) → IsWhole (s ∷ ss) → (course : Course AcrossGap t bytes p (s ∷ (ss ++ more)))
      → (after : List Seat) × (virtual t bytes ≡ course.1.seat.front ++ ((s ∷ ss) ++ after))
  line-splits p s [] more w course = (course.1.seat.rest, course.1.seat.splits)
  line-splits p s (r ∷ ss) more (inr end) course = absurd (let none : r ∷ ss ≡ [] = end.1 in cc)
  line-splits p s (r ∷ ss) more (inl on) course =
      let one = course.1.seat in
      let two = course.2.1.seat in
      let there : s.end ≡ shown bytes r.point = elim course.2.1.meets.in_line [ inl same ↦ same | inr gap ↦ absurd (let far = one.in_line on.0 in omega (arith, far, gap.0)) ] in
      let (after, whole) = line-splits s.end r ss more on.1 course.2 in
      let behind : r ∷ two.rest ≡ (r ∷ ss) ++ after = append_cancel_left two.front (r ∷ two.rest) ((r ∷ ss) ++ after) (sym two.splits ∙ whole) in
      (after, one.splits ∙ ap (λ (l : List Seat). one.front ++ s ∷ l) (next-rest s r one two there ∙ behind))

-- A text that ends at a place, and goes there. With what is left behind that it has at most as many virtual bytes as the document
record GoesToEnd (g : Given) (text : Text) : Type 0 where
  place : IsPlace g.tab g.bytes text.end
  few : length text.seats + length (rest_at g.tab g.bytes text.end) ≤ length (virtual g.tab g.bytes)
  way : Goes g.tab g.bytes (shown g.bytes text.start) text.seats (shown g.bytes text.end)

module _ (g : Given) (d : 0 < g.tab) where
  abbrev t : ℕ
  t = g.tab

  -- behind a range, or a gap
  piece-goes : (text : Text) (piece : Piece) → GoesToEnd g text → FitsAfter g text piece → GoesToEnd g (followed_by g text piece)
  piece-goes text (pushed from to) h fits =
      let a = place-of-point t g.bytes d from fits.0 in
      let b = place-of-point t g.bytes d to fits.1 in
      let p = shown g.bytes text.start in
      let left = left_of t g.bytes from to in
      let rest = rest_at t g.bytes to in
      let range : filter (in_range from to) (virtual t g.bytes) ≡ left =
      text-splits t g.bytes from from to a (upto-self t g.bytes from) fits.3 ∙ ap (λ (xs : List Seat). xs ++ left) (range-empty t g.bytes from) in
      let same : shown g.bytes text.end ≡ shown g.bytes from = sym (same-shown t g.bytes from text.end a h.place fits.2) in
      let whole : virtual t g.bytes ≡ a.before ++ (left ++ rest) = a.splits ∙ ap (λ (xs : List Seat). a.before ++ xs) (way-rest t g.bytes d from to a b fits.3) in
      let chain : IsChain t g.bytes (end_after (point 1 1 0 0) a.before) (left ++ rest) = subst (λ q. IsChain t g.bytes q (left ++ rest)) a.stands (way-chain t g.bytes d from to a b fits.3) in
      let more = chain-way AcrossGap t g.bytes across-none d a.before left rest whole chain in
      let from_there : Goes t g.bytes (shown g.bytes text.end) left (shown g.bytes to) =
      subst (λ q. Goes t g.bytes (shown g.bytes text.end) left q) (sym (way-ends t g.bytes d from to a b fits.3))
      (subst (λ q. Goes t g.bytes q left (end_after (shown g.bytes from) left)) (sym same) (subst (λ q. Goes t g.bytes q left (end_after q left)) (sym a.stands) more)) in
      let all = rest_at t g.bytes text.end in
      let left_there : all ≡ left ++ rest = append_cancel_left a.before all (left ++ rest)
      (ap (λ (xs : List Seat). xs ++ all) (same-behind t g.bytes from text.end a h.place fits.2) ∙ sym h.place.splits ∙ whole) in
      let before = h.few in
      record {
        place = b;
        few = subst (λ (xs : List Seat). length (text.seats ++ xs) + length rest ≤ length (virtual t g.bytes)) (sym range)
            (omega (arith, before, ap length left_there, length-append left rest, length-append text.seats left));
        way = subst (λ (xs : List Seat). Goes t g.bytes p (text.seats ++ xs) (shown g.bytes to)) (sym range) (goes-on t g.bytes p text.seats (shown g.bytes text.end) left (shown g.bytes to) h.way from_there);
      }
  piece-goes text (passed q) h fits = cond_both (denotes_same t g.bytes q text.end) text (record { start = text.start; seats = text.seats; end = q }) (GoesToEnd g) (λ e. h) (λ other.
      let at = place-of-point t g.bytes d q fits.0 in
      let p = shown g.bytes text.start in
      let from = shown g.bytes text.end in
      let to = shown g.bytes q in
      let later : (text.end.column ≡ 1) × (q.line ≡ text.end.line) × (stands_before text.end q ≡ true) = elim fits.1 [
        | inl same ↦ absurd (let e : true ≡ false = sym same ∙ other in cc)
        | inr later ↦ later
      ] in
      let on = upto-order t g.bytes text.end q (after-before text.end.index text.end.vs q.index q.vs later.2) in
      let gap : AcrossGap from to = record {
        forward = upto-shown t g.bytes d text.end q h.place at on;
        in_line = inr (shown-column g.bytes text.end ∙ later.0, shown-line g.bytes q ∙ later.1 ∙ sym (shown-line g.bytes text.end));
      } in
      let left = left_of t g.bytes text.end q in
      let rest = rest_at t g.bytes q in
      let before = h.few in
      let all : text.seats ++ [] ≡ text.seats = append-nil text.seats in
      record { place = at; few = omega (arith, before, ap length (way-rest t g.bytes d text.end q h.place at on), length-append left rest); way = subst (λ (xs : List Seat). Goes t g.bytes p xs to) all (goes-on t g.bytes p text.seats from [] to h.way (shown-place t g.bytes d text.end h.place, gap)) })

  pieces-go : (text : Text) (pieces : List Piece) → GoesToEnd g text → CanFollow g text pieces → GoesToEnd g (followed_by_all g text pieces)
  pieces-go text [] h fits = h
  pieces-go text (piece ∷ rest) h fits = pieces-go (followed_by g text piece) rest (piece-goes text piece h fits.0) fits.1

module _ (g : Given) (text : Text) (is : IsText g text) where
  goes-to-end : GoesToEnd g text
  goes-to-end =
      let d : 0 < g.tab = omega (arith, is.document.tab.0) in
      let place = place-of-point g.tab g.bytes d text.start is.starts in
      let rest = rest_at g.tab g.bytes text.start in
      let start : GoesToEnd g (empty_text text.start) = record {
        place = place;
        few = omega (arith, ap length place.splits, length-append place.before rest);
        way = (shown-place g.tab g.bytes d text.start place, across-none (shown g.bytes text.start));
      } in
      subst (GoesToEnd g) (sym is.is) (pieces-go g d (empty_text text.start) is.pieces start is.follow)

  -- The course of a text, from where its start is shown
  pub text-course : Course AcrossGap g.tab g.bytes (shown g.bytes text.start) text.seats
  text-course = way-course AcrossGap g.tab g.bytes (shown g.bytes text.start) text.seats (shown g.bytes text.end) goes-to-end.way

  -- counts have room for each of its virtual bytes
  pub text-room : length text.seats < 2 ^ 64 - 1
  text-room = let few = goes-to-end.few in omega (arith, few, has-room g is.document)
