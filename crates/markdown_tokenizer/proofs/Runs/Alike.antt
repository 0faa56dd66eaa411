-- Documents that begin alike: what a state sees at the bytes of a text is the same in both, so calls are alike.
use Rattle.markdown_tokenizer.proofs.Prelude.{AllByRecursion, ◌≡◌, ◌<◌, ◌≤◌, ◌==◌, ◌&&◌, ◌∙◌, ℕ, zero, suc, List, [], ◌∷◌, ◌++◌, true, false, cond, Some, inl, inr, length, refl, sym, ap, arith, subst, take, take-take, filter, not, slice_get, slice_get_cases, slice_index, length-append, get-front, and_parts, nat_tests, nat_lt, ◌||◌, append_assoc, cases_lt, slice_get-get_or, byte_of, Waits, every-append, every-map, every-get, end-after-append, Point, Seat, point, virtual, end_after, stands_before, shown, follows_cr, IsShown, denotes_same, Byte, Given, Text, Piece, pushed, passed, in_range, empty_text, followed_by, followed_by_all, FitsAfter, CanFollow, IsText, IsPlace, rest_at, Sight, sight, sight_in, seat_before, end_place, Rules, false≢true, Next, Stand, stand, stand_of, Turns, start_configuration, ParseOptions, whole_text}
use Rattle.std.proofs.lemmas.Bool.{cond_both}
use Rattle.markdown_tokenizer.specs.Alike.{AreAlikeUpTo, CallsAreAlike, ReadingGoesOn, bytes_up_to}
use Rattle.markdown_tokenizer.proofs.Positions.Order.{after-before, before-upto, upto-before, later-later, every-back, every-kept, filter-same, every-all, not-before}
use Rattle.markdown_tokenizer.proofs.Positions.Seats.{rest-later}
use Rattle.markdown_tokenizer.proofs.Positions.Chains.{IsChain, whole-chain}
use Rattle.markdown_tokenizer.proofs.Positions.Standing.{IsAmong, chain-split, chain-upto, shown-upto, place-of-point, after-shown}
use Rattle.markdown_tokenizer.proofs.Positions.Cursors.{Leads, upto-leads, upto-upto, same-upto}
use Rattle.markdown_tokenizer.proofs.Positions.TextOrder.{text-order}
use Rattle.markdown_tokenizer.proofs.Positions.Points.{point_at-is}
use Rattle.markdown_tokenizer.proofs.Positions.Prefixes.{cut-whole, have-same-front, same-byte, whole-test}
use Rattle.markdown_tokenizer.proofs.Inside.Changes.{text-more}
use Rattle.markdown_tokenizer.proofs.Inside.Known.{not-before-index}
use Rattle.markdown_tokenizer.proofs.Readings.Turns.{seen-waits, turns-are-kept}
use Rattle.markdown_tokenizer.proofs.Runs.Whole.{start-is-point}
use Rattle.markdown_tokenizer.proofs.Runs.Working.{Continues}

pub among-every : (P : Seat → Type 0) (xs : List Seat) (s : Seat) → AllByRecursion P xs → IsAmong s xs → P s
among-every P xs s h among = (every-back P among.front (s ∷ among.back) (subst (AllByRecursion P) among.splits h)).0

all-among : (front xs : List Seat) → AllByRecursion (λ s. IsAmong s (front ++ xs)) xs
all-among front [] = tt
all-among front (x ∷ xs) = (
  record { front = front; back = xs; splits = refl },
  subst (λ (ys : List Seat). AllByRecursion (λ s. IsAmong s ys) xs) (append_assoc front (x ∷ []) xs) (all-among (front ++ x ∷ []) xs),
)

-- a seat of the document before a place
abbrev pub IsIn : Given → Point → Seat → Type 0
IsIn g p s = (stands_before s.point p ≡ true) × IsAmong s (virtual g.tab g.bytes)

module _ (g : Given) (d : 0 < g.tab) where
  piece-in : (text : Text) (piece : Piece) → FitsAfter g text piece → AllByRecursion (IsIn g text.end) text.seats → AllByRecursion (IsIn g (followed_by g text piece).end) (followed_by g text piece).seats
  piece-in text (pushed from to) fits h =
      let all = virtual g.tab g.bytes in
      let upto = upto-upto g.tab g.bytes text.end from to (same-upto g.tab g.bytes from text.end fits.2).1 fits.3 in
      every-append (IsIn g to) text.seats (filter (in_range from to) all)
      (every-map (IsIn g text.end) (IsIn g to) (λ s i. (among-every (Leads text.end to) all s (upto-leads g.tab g.bytes text.end to upto) i.1 i.0, i.1)) text.seats h)
      (every-kept (λ s. IsAmong s all) (IsIn g to) (in_range from to) (λ s among e. ((and_parts (not (stands_before s.point from)) (stands_before s.point to) e).1, among)) all (all-among [] all))
  piece-in text (passed p) fits h =
      cond_both (denotes_same g.tab g.bytes p text.end) text (record { start = text.start; seats = text.seats; end = p }) (λ x. AllByRecursion (IsIn g x.end) x.seats) (λ e. h) (λ other.
      elim fits.1 [
        | inl same ↦ absurd (false≢true (sym other ∙ same))
        | inr later ↦ every-map (IsIn g text.end) (IsIn g p)
            (λ s i. (before-upto s.point.index s.point.vs text.end.index text.end.vs p.index p.vs i.0 (after-before text.end.index text.end.vs p.index p.vs later.2), i.1)) text.seats h
      ])

  pieces-in : (text : Text) (pieces : List Piece) → CanFollow g text pieces → AllByRecursion (IsIn g text.end) text.seats
      → (let all = followed_by_all g text pieces in AllByRecursion (IsIn g all.end) all.seats)
  pieces-in text [] fits h = h
  pieces-in text (piece ∷ rest) fits h = pieces-in (followed_by g text piece) rest fits.1 (piece-in text piece fits.0 h)

-- the virtual bytes of a text are the document's, and before its end
pub text-in : (g : Given) (text : Text) → IsText g text → AllByRecursion (IsIn g text.end) text.seats
text-in g text is = subst (λ (x : Text). AllByRecursion (IsIn g x.end) x.seats) (sym is.is) (pieces-in g (omega (arith, is.document.tab.0)) (empty_text text.start) is.pieces is.follow tt)

-- the place where a text ends is a place of the document
ends-at : (g : Given) (text : Text) (pieces : List Piece) → IsPlace g.tab g.bytes text.end → 0 < g.tab → CanFollow g text pieces → IsPlace g.tab g.bytes (followed_by_all g text pieces).end
ends-at g text [] at d fits = at
ends-at g text (pushed from to ∷ rest) at d fits = ends-at g (followed_by g text (pushed from to)) rest (place-of-point g.tab g.bytes d to fits.0.1) d fits.1
ends-at g text (passed p ∷ rest) at d fits =
    ends-at g (followed_by g text (passed p)) rest (cond_both (denotes_same g.tab g.bytes p text.end) text (record { start = text.start; seats = text.seats; end = p }) (λ x. IsPlace g.tab g.bytes x.end)
    (λ e. at) (λ e. place-of-point g.tab g.bytes d p fits.0.0)) d fits.1

text-ends-at : (g : Given) (text : Text) → IsText g text → IsPlace g.tab g.bytes text.end
text-ends-at g text is =
    let d : 0 < g.tab = omega (arith, is.document.tab.0) in
    subst (λ (x : Text). IsPlace g.tab g.bytes x.end) (sym is.is) (ends-at g (empty_text text.start) is.pieces (place-of-point g.tab g.bytes d text.start is.starts) d is.follow)

module _ (t : ℕ) (bytes : List ℕ) (d : 0 < t) where
  -- of the seats up to a place, one before it is followed by the others
  leads-there : (p : Point) (before rest front back : List Seat) (s : Seat) → before ++ rest ≡ front ++ s ∷ back → AllByRecursion (λ r. stands_before r.point p ≡ false) rest
      → stands_before s.point p ≡ true → (mid : List Seat) × (before ≡ front ++ s ∷ mid)
  leads-there p [] rest front back s e h k =
      absurd (false≢true (sym (every-back (λ r. stands_before r.point p ≡ false) front (s ∷ back) (subst (AllByRecursion (λ r. stands_before r.point p ≡ false)) e h)).0 ∙ k))
  leads-there p (x ∷ xs) rest [] back s e h k = let is : x ≡ s = cc in (xs, ap (λ (y : Seat). y ∷ xs) is)
  leads-there p (x ∷ xs) rest (y ∷ ys) back s e h k =
      let is : x ≡ y = cc in let more : xs ++ rest ≡ ys ++ s ∷ back = cc in
      let r = leads-there p xs rest ys back s more h k in
      (r.0, ap (λ (z : Seat). z ∷ xs) is ∙ ap (λ (zs : List Seat). y ∷ zs) r.1)

  -- a virtual byte before a place does not end after it
  ends-upto : (p : Point) → IsPlace t bytes p → (s : Seat) → IsAmong s (virtual t bytes) → stands_before s.point p ≡ true → stands_before p s.end ≡ false
  ends-upto p place s among k =
      let rest = rest_at t bytes p in
      let (mid, is) = leads-there p place.before rest among.front among.back s (sym place.splits ∙ among.splits) (rest-later t bytes p) k in
      let start = point 1 1 0 0 in
      let splits : virtual t bytes ≡ among.front ++ s ∷ (mid ++ rest) = place.splits ∙ ap (λ (xs : List Seat). xs ++ rest) is ∙ append_assoc among.front (s ∷ mid) rest in
      let chain = chain-split t bytes start among.front (s ∷ (mid ++ rest)) (subst (IsChain t bytes start) splits (whole-chain t bytes d)) in
      let far = chain-upto t bytes s.end mid rest chain.2 in
      let stands : shown bytes p ≡ end_after s.end mid = place.stands ∙ ap (end_after start) is ∙ end-after-append start among.front (s ∷ mid) in
      let q = shown bytes p in
      later-later p.index p.vs q.index q.vs s.end.index s.end.vs (shown-upto t bytes p) (subst (λ (x : Point). stands_before x s.end ≡ false) (sym stands) far)

-- what is shown depends on two bytes
shown-by : (a b : List ℕ) (p : Point) → ((slice_index a p.index == 10) && follows_cr a p.index) ≡ ((slice_index b p.index == 10) && follows_cr b p.index) → shown a p ≡ shown b p
shown-by a b p e = rw e refl

within-upto : (i j m n : ℕ) → (nat_lt i m || ((i == m) && nat_lt j n)) ≡ false → (n == 0) ≡ false → (j == 0) ≡ true → suc m ≤ i
within-upto i j m n h e f = grind (arith, nat_tests)

-- an earlier place needs no more bytes
needs-upto : (p q : Point) → stands_before p q ≡ false → bytes_up_to q ≤ bytes_up_to p
needs-upto p q h =
    elim (q.vs == 0) as (λ b. (q.vs == 0) ≡ b → cond b q.index (suc q.index) ≤ bytes_up_to p) [
      | true ↦ λ e. elim (p.vs == 0) as (λ c. q.index ≤ cond c p.index (suc p.index)) [
        | true ↦ not-before-index p.index p.vs q.index q.vs h
        | false ↦ omega (arith, not-before-index p.index p.vs q.index q.vs h)
      ]
      | false ↦ λ e. elim (p.vs == 0) as (λ c. (p.vs == 0) ≡ c → suc q.index ≤ cond c p.index (suc p.index)) [
        | true ↦ λ f. within-upto p.index p.vs q.index q.vs h e f
        | false ↦ λ f. omega (arith, not-before-index p.index p.vs q.index q.vs h)
      ] refl
    ] refl

index-needs : (p : Point) → p.index ≤ bytes_up_to p
index-needs p = elim (p.vs == 0) as (λ b. p.index ≤ cond b p.index (suc p.index)) [ true ↦ omega arith | false ↦ omega arith ]

module _ (g h : Given) (p : Point) (alike : AreAlikeUpTo g h p) where
  follows-alike : (i : ℕ) → i < bytes_up_to p → follows_cr g.bytes i ≡ follows_cr h.bytes i
  follows-alike zero l = refl
  follows-alike (suc j) l = ap (λ (b : ℕ). b == 13) (same-byte (bytes_up_to p) j g.bytes h.bytes alike.bytes (omega arith))

  -- a place that is not after it is shown alike
  pub shown-alike : (x : Point) → stands_before p x ≡ false → shown g.bytes x ≡ shown h.bytes x
  shown-alike x upto = elim (cases_lt x.index (bytes_up_to p)) [
    | inl less ↦
        let byte = same-byte (bytes_up_to p) x.index g.bytes h.bytes alike.bytes less in let follows = follows-alike x.index less in
        shown-by g.bytes h.bytes x (rw (byte, follows) refl)
    | inr far ↦
        let same : p.index ≡ x.index = omega (arith, not-before-index p.index p.vs x.index x.vs upto, index-needs p, far) in
        shown-by g.bytes h.bytes x (subst (λ (i : ℕ). ((slice_index g.bytes i == 10) && follows_cr g.bytes i) ≡ ((slice_index h.bytes i == 10) && follows_cr h.bytes i)) same
        (whole-test g.bytes p alike.whole.0 ∙ sym (whole-test h.bytes p alike.whole.1)))
  ]

  -- documents that are alike up to a place are so up to an earlier one
  alike-before : (x : Point) → stands_before p x ≡ false → IsShown g.bytes x → AreAlikeUpTo g h x
  alike-before x upto is =
      let less = needs-upto p x upto in record {
        options = alike.options;
        bytes = sym (take-take (bytes_up_to x) (bytes_up_to p) g.bytes less) ∙ ap (take (bytes_up_to x)) alike.bytes ∙ take-take (bytes_up_to x) (bytes_up_to p) h.bytes less;
        whole = (is, sym (shown-alike x upto) ∙ is);
        possible = alike.possible;
      }

module _ (text w : Text) (c : Continues text w) where
  before-continued : (p : ℕ) → p ≤ length text.seats → seat_before w p ≡ seat_before text p
  before-continued zero l = refl
  before-continued (suc q) l = ap (λ (s : List Seat). slice_get s q) c.seats ∙ get-front text.seats c.more q (omega arith)

  -- at the bytes of a text more of it changes nothing that is seen
  sees-continued : (given : Given) (p : ℕ) → p < length text.seats → sight_in given w p Byte ≡ sight_in given text p Byte
  sees-continued given p less =
      let before = before-continued p (omega arith) in let starts = c.starts in
      let there = ap (λ (s : List Seat). slice_get s p) c.seats ∙ get-front text.seats c.more p less in
      rw (before, starts, there, slice_get-get_or text.seats p (record { byte = 0; point = text.start; end = text.start }) less) refl

module _ (g h : Given) (text : Text) (is : IsText g text) (alike : AreAlikeUpTo g h text.end) where
  here : (p : ℕ) → p < length text.seats → (s : Seat) × (slice_get text.seats p ≡ Some s)
  here p less = elim (slice_get_cases text.seats p).1 [ inl found ↦ (found.0, found.2) | inr past ↦ absurd (omega (arith, past.0)) ]

  seat-in : (p : ℕ) (s : Seat) → slice_get text.seats p ≡ Some s → IsIn g text.end s
  seat-in p s at = every-get (IsIn g text.end) text.seats p s (text-in g text is) at

  end-in : (p : ℕ) (s : Seat) → slice_get text.seats p ≡ Some s → stands_before text.end s.end ≡ false
  end-in p s at =
      let i = seat-in p s at in
      ends-upto g.tab g.bytes (omega (arith, is.document.tab.0)) text.end (text-ends-at g text is) s i.1 i.0

  -- the place where the byte before ends is not after the end
  behind-in : (p : ℕ) → p < length text.seats → stands_before text.end (end_place text p) ≡ false
  behind-in zero less =
      let (s, at) = here 0 less in let start = text.start in
      let after = every-get (λ r. stands_before r.point text.start ≡ false) text.seats 0 s (text-order g text is).1 at in
      after-before start.index start.vs text.end.index text.end.vs
      (upto-before start.index start.vs s.point.index s.point.vs text.end.index text.end.vs after (seat-in 0 s at).0)
  behind-in (suc j) less = let (s, at) = here j (omega arith) in rw at (end-in j s at)

  -- a state sees the same in both documents
  sees-alike : (p : ℕ) → p < length text.seats → sight_in h text p Byte ≡ sight_in g text p Byte
  sees-alike p less =
      let (s, at) = here p less in let i = seat-in p s at in
      let enter = shown-alike g h text.end alike s.point (after-before s.point.index s.point.vs text.end.index text.end.vs i.0) in
      let exit = shown-alike g h text.end alike (end_place text p) (behind-in p less) in
      let next = shown-alike g h text.end alike s.end (end-in p s at) in
      rw at (ap (λ (e : Point). record { previous = byte_of (seat_before text p); current = Some s.byte; point = s.point; enter_place = e; exit_place = shown h.bytes (end_place text p); next = shown h.bytes s.end }) (sym enter)
      ∙ ap (λ (e : Point). record { previous = byte_of (seat_before text p); current = Some s.byte; point = s.point; enter_place = shown g.bytes s.point; exit_place = e; next = shown h.bytes s.end }) (sym exit)
      ∙ ap (λ (e : Point). record { previous = byte_of (seat_before text p); current = Some s.byte; point = s.point; enter_place = shown g.bytes s.point; exit_place = shown g.bytes (end_place text p); next = e }) (sym next))

  -- they are alike up to the place after the byte that waits
  next-alike : (p : ℕ) → p < length text.seats → AreAlikeUpTo g h (sight_in g text p Byte).next
  next-alike p less =
      let (s, at) = here p less in let among = (seat-in p s at).1 in
      let shows = after-shown g.tab g.bytes (omega (arith, is.document.tab.0)) among.front s among.back among.splits in
      subst (AreAlikeUpTo g h) (sym (next-is s at shows)) (alike-before g h text.end alike s.end (end-in p s at) shows)
    where
      next-is : (s : Seat) → slice_get text.seats p ≡ Some s → IsShown g.bytes s.end → (sight_in g text p Byte).next ≡ s.end
      next-is s at shows = rw at shows

pub calls-are-alike : {R D : Type 0} (rules : Given → Rules R D) → CallsAreAlike rules
calls-are-alike {R} {D} rules looks g h text long more is alike starts seats = record {
  longer = omega (arith, ap length seats, length-append text.seats more);
  alike = λ k name sees.
      let waits = seen-waits text k.position k.waiting sees in
      let c : Continues text long = record { starts = starts; more = more; seats = seats } in
      let same : sight_in h long k.position Byte ≡ sight_in g text k.position Byte = sees-continued text long c h k.position waits.1 ∙ sees-alike g h text is alike k.position waits.1 in
      let there : sight h long k ≡ sight g text k = subst (λ (w : Waits). sight_in h long k.position w ≡ sight_in g text k.position w) (sym waits.0) same in
      looks g h text k name is (subst (λ (w : Waits). AreAlikeUpTo g h (sight_in g text k.position w).next) (sym waits.0) (next-alike g h text is alike k.position waits.1))
      ∙ ap (λ (q : Sight). (rules h).step q k name) (sym there);
}

-- before the first place nothing is
from-start : (t : ℕ) (bytes : List ℕ) (f p : Point) → f.index ≡ 0 → f.vs ≡ 0 → filter (in_range f p) (virtual t bytes) ≡ filter (λ s. stands_before s.point p) (virtual t bytes)
from-start t bytes f p first flat = filter-same (in_range f p) (λ s. stands_before s.point p) (virtual t bytes) (every-all (λ s. in_range f p s ≡ stands_before s.point p)
    (λ s. let no : stands_before s.point f ≡ false = not-before s.point.index s.point.vs f.index f.vs (omega (arith, first)) flat in rw no refl) (virtual t bytes))

pub reading-goes-on : {M R D : Type 0} (rules : M → Given → Rules R D) → ReadingGoesOn rules
reading-goes-on {M} {R} {D} rules m looks g h cut start new answer document can flat pushes alike r =
    let origin : Text = empty_text (point 1 1 0 0) in
    let f = can.0 in let p = can.1 in
    let first = point_at-is g.tab g.bytes (0, 0) f can.2 in let last = point_at-is g.tab g.bytes cut p can.3 in
    let text : Text = followed_by g origin (pushed f p) in
    let text_is : new.text ≡ text = pushes.text f p can.2 can.3 in
    let upto : AreAlikeUpTo g h p = subst (λ (x : Text). AreAlikeUpTo g h x.end) text_is alike in
    let ends : p.vs ≡ 0 = last.vs ∙ flat in
    let bytes : take p.index g.bytes ≡ take p.index h.bytes = rw ends at upto.bytes in
    let tab : h.tab ≡ g.tab = alike.possible.one_size ∙ ap (λ (o : ParseOptions). o.tab_size) (sym alike.options) ∙ sym document.one_size in
    let fronts = have-same-front g.tab g.bytes h.bytes p ends bytes
    (cut-whole g.bytes p (whole-test g.bytes p upto.whole.0)) (cut-whole h.bytes p (whole-test h.bytes p upto.whole.1)) in
    let seats : text.seats ≡ fronts.front = from-start g.tab g.bytes f p first.index first.vs ∙ fronts.before in
    let long : (whole_text h).seats ≡ text.seats ++ fronts.more = ap (λ (t : ℕ). virtual t h.bytes) tab ∙ fronts.splits ∙ ap (λ (xs : List Seat). xs ++ fronts.more) (sym seats) in
    let is : IsText g text = text-more g origin (pushed f p) (record { document = document; starts = start-is-point g document.tab.0; pieces = []; follow = tt; is = refl }) can.4 in
    let called = calls-are-alike (rules m) looks g h text (whole_text h) fronts.more is upto refl long in
    let from : Stand R D = stand (start_configuration false) [] (Next start) 0 in
    let stands = subst (λ (x : Text). Turns g (rules m g).step x from (stand_of new answer)) text_is pushes.stands in
    let kept = (turns-are-kept g h (rules m g).step (rules m h).step text (whole_text h) called from (stand_of new answer) stands).1 r in
    (kept.1, kept.0)
