-- The virtual bytes of a chain's text are in its chunks: each is shown in one, and ends in it.
use Rattle.std.proofs.lemmas.Bool.{not-true}
use Rattle.mddocument.proofs.Prelude.{◌≡◌, ℕ, ◌+◌, ◌<◌, Bool, true, false, cond, not, inl, inr, List, [], ◌∷◌, ◌++◌, Option, filter, refl, sym, ◌∙◌, subst, arith, and_parts, AllByRecursion, every-append, every-map, every-kept, Content, Event, Point, IsShown, shown, stands_before, stands-self, Seat, end_after, point, virtual, chain_of, IsReady, IsShownPlace, place_at, IsChain, whole-chain, chain-at, chain-split, text_of_chain, Given, IsDocument, Text, denotes_same, followed_by_all, in_range, chain_text}
use Rattle.markdown_base.proofs.Orders.{upto-upto}
use Rattle.markdown_children.proofs.ChainOrder.Following.{Fits, fits_next}
use Rattle.markdown_children.specs.LawStatements.{IsWholeFrom, LeadOnFrom}
use Rattle.markdown_children.specs.Reads.{pieces_behind}
use Rattle.markdown_tokenizer.proofs.Positions.Seats.{rest-later}
use Rattle.markdown_tokenizer.proofs.Positions.Standing.{chain-upto, place-of-point}
use Rattle.markdown_tokenizer.specs.Cursor.{rest_at}
use Rattle.mddocument.proofs.InContainers.Order.{Upto}
use Rattle.mddocument.proofs.InContainers.Parts.{InChunks}

module _ (t : ℕ) (bytes : List ℕ) where
  -- a virtual byte is shown behind a place, and ends there
  abbrev IsFrom : Point → Seat → Type 0
  IsFrom p s = Upto p (shown bytes s.point) × Upto p s.end

  -- where it ends is not before where it is shown, and shown at itself
  abbrev IsForward : Seat → Type 0
  IsForward s = Upto (shown bytes s.point) s.end × IsShown bytes s.end

  chain-from : (p : Point) (xs : List Seat) → IsChain t bytes p xs → AllByRecursion (IsFrom p) xs
  chain-from p [] c = tt
  chain-from p (s ∷ ss) c =
      let on : Upto p s.end = chain-upto t bytes p (s ∷ []) ss c in (
        (subst (Upto p) (sym c.1.shown_is) (stands-self p), on),
        every-map (IsFrom s.end) (IsFrom p) (λ (v : Seat) h. (upto-upto p s.end (shown bytes v.point) on h.0, upto-upto p s.end v.end on h.1)) ss (chain-from s.end ss c.2),
      )

  chain-forward : (p : Point) (xs : List Seat) → IsChain t bytes p xs → AllByRecursion IsForward xs
  chain-forward p [] c = tt
  chain-forward p (s ∷ ss) c = ((subst (λ q. Upto q s.end) (sym c.1.shown_is) (chain-upto t bytes p (s ∷ []) ss c), (chain-at t bytes s.end ss c.2).shown), chain-forward s.end ss c.2)

  chain-ends : (p : Point) (xs ys : List Seat) → IsChain t bytes p (xs ++ ys) → AllByRecursion (λ (s : Seat). Upto s.end (end_after p xs)) xs
  chain-ends p [] ys c = tt
  chain-ends p (s ∷ ss) ys c = (chain-upto t bytes s.end ss ys c.2, chain-ends s.end ss ys c.2)

  module _ (wide : 0 < t) where
    abbrev seats : List Seat
    seats = virtual t bytes

    abbrev origin : Point
    origin = point 1 1 0 0

    -- those that are not before a place are behind it, and the others end before it
    not-before : (a : Point) → IsShownPlace t bytes a → AllByRecursion (λ (s : Seat). stands_before s.point a ≡ false → IsFrom a s) seats
    not-before a shows =
        let place = place-of-point t bytes wide a shows.0 in
        let rest = rest_at t bytes a in
        let P = λ (s : Seat). stands_before s.point a ≡ false → IsFrom a s in
        let is : a ≡ end_after origin place.before = sym shows.1 ∙ place.stands in
        let chain = chain-split t bytes origin place.before rest (subst (IsChain t bytes origin) place.splits (whole-chain t bytes wide)) in
        let back = subst (λ q. AllByRecursion (IsFrom q) rest) (sym is) (chain-from (end_after origin place.before) rest chain) in
        subst (AllByRecursion P) (sym place.splits)
        (every-append P place.before rest
        (every-map (λ (s : Seat). stands_before s.point a ≡ true) P (λ (s : Seat) h k. absurd (let no : true ≡ false = sym h ∙ k in cc)) place.before place.behind)
        (every-map (IsFrom a) P (λ s h k. h) rest back))

    before-end : (b : Point) → IsShownPlace t bytes b → AllByRecursion (λ (s : Seat). stands_before s.point b ≡ true → Upto s.end b) seats
    before-end b shows =
        let place = place-of-point t bytes wide b shows.0 in
        let rest = rest_at t bytes b in
        let P = λ (s : Seat). stands_before s.point b ≡ true → Upto s.end b in
        let is : b ≡ end_after origin place.before = sym shows.1 ∙ place.stands in
        let whole = subst (IsChain t bytes origin) place.splits (whole-chain t bytes wide) in
        let front = subst (λ q. AllByRecursion (λ (s : Seat). Upto s.end q) place.before) (sym is) (chain-ends origin place.before rest whole) in
        subst (AllByRecursion P) (sym place.splits)
        (every-append P place.before rest
        (every-map (λ (s : Seat). Upto s.end b) P (λ s h k. h) place.before front)
        (every-map (λ (s : Seat). stands_before s.point b ≡ false) P (λ (s : Seat) h k. absurd (let no : true ≡ false = sym k ∙ h in cc)) rest (rest-later t bytes b)))

    -- a virtual byte is shown between two places, and ends there
    abbrev pub IsWithin : (a b : Point) → Seat → Type 0
    IsWithin a b s = (Upto a (shown bytes s.point) × Upto (shown bytes s.point) b) × (Upto a (shown bytes s.end) × Upto (shown bytes s.end) b)

    every-three : (P Q R S : Seat → Type 0) → ((s : Seat) → P s → Q s → R s → S s) → (xs : List Seat) → AllByRecursion P xs → AllByRecursion Q xs → AllByRecursion R xs → AllByRecursion S xs
    every-three P Q R S f [] p q r = tt
    every-three P Q R S f (x ∷ xs) p q r = (f x p.0 q.0 r.0, every-three P Q R S f xs p.1 q.1 r.1)

    pub range-within : (a b : Point) → IsShownPlace t bytes a → IsShownPlace t bytes b → AllByRecursion (IsWithin a b) (filter (in_range a b) seats)
    range-within a b from to =
        let P = λ (s : Seat). in_range a b s ≡ true → IsWithin a b s in
        let all : AllByRecursion P seats =
        every-three (λ (s : Seat). stands_before s.point a ≡ false → IsFrom a s) (λ (s : Seat). stands_before s.point b ≡ true → Upto s.end b) IsForward P
        (λ s h k forward is.
        let both = and_parts (not (stands_before s.point a)) (stands_before s.point b) is in
        let behind = h (not-true (stands_before s.point a) both.0) in
        let end = k both.1 in
        ((behind.0, upto-upto (shown bytes s.point) s.end b forward.0 end), subst (λ q. Upto a q × Upto q b) (sym forward.1) (behind.1, end))) seats (not-before a from) (before-end b to) (chain-forward origin seats (whole-chain t bytes wide)) in
        every-kept P (IsWithin a b) (in_range a b) (λ s h is. h is) seats all

-- ---- the text of a chain
module _ (g : Given) (is : IsDocument g) (wanted : Option Content) (events : List Event) (ready : IsReady g.tab g.bytes wanted events) where
  -- a virtual byte is shown in one of these chunks, and ends in one
  abbrev pub SeatIn : List ℕ → Seat → Type 0
  SeatIn ks s = InChunks events ks (shown g.bytes s.point) × InChunks events ks (shown g.bytes s.end)

  wide : 0 < g.tab
  wide = let tab = is.tab.0 in omega (arith, tab)

  seats-more : (k : ℕ) (ks : List ℕ) (s : Seat) → SeatIn ks s → SeatIn (k ∷ ks) s
  seats-more k ks s h = (inr h.0, inr h.1)

  chunk-range : (k : ℕ) (ks : List ℕ) → Fits wanted events k → AllByRecursion (SeatIn (k ∷ ks)) (filter (in_range (place_at events k) (place_at events (k + 1))) (virtual g.tab g.bytes))
  chunk-range k ks fit =
      let a = place_at events k in
      let b = place_at events (k + 1) in
      let r = ready.readable k fit in
      every-map (IsWithin g.tab g.bytes wide a b) (SeatIn (k ∷ ks)) (λ s h. (inl h.0, inl h.1)) (filter (in_range a b) (virtual g.tab g.bytes)) (range-within g.tab g.bytes wide a b r.from r.to)

  -- what holds of what was pushed, and of the chunks behind it
  behind-all : (P : Seat → Type 0) (k : ℕ) (ks : List ℕ) → Fits wanted events k → LeadOnFrom events k ks → ((s : Seat) → SeatIn ks s → P s) → (text : Text) → AllByRecursion P text.seats
      → AllByRecursion P (followed_by_all g text (pieces_behind events ks)).seats
  behind-all P k [] fit lead holds text h = h
  behind-all P k (d ∷ ks) fit lead holds text h =
      let next = fits_next g.tab g.bytes wanted events ready k d fit lead.0 in
      let p = place_at events d in
      let passed_text : Text = cond (denotes_same g.tab g.bytes p text.end) text (record text { end = p }) in
      let same : passed_text.seats ≡ text.seats = seats-kept (denotes_same g.tab g.bytes p text.end) text p in
      let range = filter (in_range p (place_at events (d + 1))) (virtual g.tab g.bytes) in
      let pushed_text : Text = record passed_text { seats = passed_text.seats ++ range; end = place_at events (d + 1) } in
      let both : AllByRecursion P pushed_text.seats = every-append P passed_text.seats range (subst (AllByRecursion P) (sym same) h) (every-map (SeatIn (d ∷ ks)) P holds range (chunk-range d ks next)) in
      behind-all P d ks next lead.2 (λ s k. holds s (seats-more d ks s k)) pushed_text both
    where
      seats-kept : (x : Bool) (text : Text) (p : Point) → (cond x text (record text { end = p })).seats ≡ text.seats
      seats-kept true text p = refl
      seats-kept false text p = refl

  pub chain-seats-in : (c : ℕ) → Fits wanted events c → IsWholeFrom events c → AllByRecursion (SeatIn (chain_of events c)) (chain_text g events c).seats
  chain-seats-in c fit whole =
      let ks = whole.0 in
      let P = SeatIn (c ∷ ks) in
      let a = place_at events c in
      let b = place_at events (c + 1) in
      let first : Text = record { start = a; seats = filter (in_range a b) (virtual g.tab g.bytes); end = b } in
      let all = behind-all P c ks fit whole.2 (seats-more c ks) first (chunk-range c ks fit) in
      subst (λ (l : List ℕ). AllByRecursion (SeatIn l) (text_of_chain g events l).seats) (sym whole.1) all
