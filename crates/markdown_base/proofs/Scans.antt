-- Lemmas on the virtual text of a document from an index on, and on where its places lie.
use Rattle.markdown_base.proofs.Prelude.{◌≡◌, ℕ, zero, suc, ◌+◌, ◌-◌, ◌*◌, ◌<◌, ◌≤◌, ◌⊎◌, inl, inr, Bool, true, false, List, [], ◌∷◌, ◌++◌, length, drop, get_or, refl, sym, ap, ◌∙◌, arith, subst, drop-cons, eqb-true, mod-lt, ◌==◌, ◌&&◌, slice_index, false≢true, AllByRecursion, flat_map, Point, Seat, point, tab_width, in_tab, line_feed, other_byte, begins_with_lf, virtual_from, virtual, end_after, document_end, shown, follows_cr, points, IsPointOf, nat_tests}
use Rattle.std.proofs.lemmas.List.{append_assoc}
use Rattle.std.proofs.lemmas.List.Elements.{All-from_recursion}
use Rattle.markdown_base.proofs.Common.{and-right, every-append, every-map}
use Rattle.markdown_base.proofs.Seats.{end-after-append}

-- the virtual text goes on with this line and column at an index
pub record IsReached (t : ℕ) (bytes : List ℕ) (line column index : ℕ) : Type 0 where
  pub front : List Seat
  pub whole : virtual t bytes ≡ front ++ virtual_from t line column index (drop index bytes)
  pub ends : document_end t bytes ≡ end_after (point line column index 0) (virtual_from t line column index (drop index bytes))
  pub below : AllByRecursion (λ s. s.point.index < index) front
  pub inside : index ≤ length bytes
  pub first : 1 ≤ column
  pub bound : column ≤ t * index + 1

pub reached_start : (t : ℕ) (bytes : List ℕ) → IsReached t bytes 1 1 0
reached_start t bytes = record { front = []; whole = refl; ends = refl; below = tt; inside = omega arith; first = omega arith; bound = omega arith }

-- one byte on: what it is, and where it ends
advance : (t : ℕ) (bytes : List ℕ) (line column index line' column' : ℕ) (seats : List Seat) → IsReached t bytes line column index → index < length bytes
    → virtual_from t line column index (drop index bytes) ≡ seats ++ virtual_from t line' column' (suc index) (drop (suc index) bytes)
    → AllByRecursion (λ s. s.point.index < suc index) seats
    → end_after (point line column index 0) (seats ++ virtual_from t line' column' (suc index) (drop (suc index) bytes)) ≡ end_after (point line' column' (suc index) 0) (virtual_from t line' column' (suc index) (drop (suc index) bytes))
    → 1 ≤ column' → column' ≤ t * suc index + 1 → IsReached t bytes line' column' (suc index)
advance t bytes line column index line' column' seats r within splits here ends first bound = record {
  front = r.front ++ seats;
  whole = r.whole ∙ ap (λ xs. r.front ++ xs) splits ∙ sym (append_assoc r.front seats (virtual_from t line' column' (suc index) (drop (suc index) bytes)));
  ends = r.ends ∙ ap (λ xs. end_after (point line column index 0) xs) splits ∙ ends;
  below = every-append (λ s. s.point.index < suc index) r.front seats (every-map (λ s. s.point.index < index) (λ s. s.point.index < suc index) (λ s p. omega arith) r.front r.below) here;
  inside = omega arith;
  first = first;
  bound = bound;
}

-- the seats of a tab at this column: this many are passed
abbrev pub IsOfTab : (line column index width : ℕ) → Seat → Type 0
IsOfTab line column index width s = (k : ℕ) × (k < width) × (s.point ≡ point line (column + k) index k)

in_tab-seats : (byte n line column index vs width : ℕ) → vs + n ≡ width → AllByRecursion (IsOfTab line column index width) (in_tab byte n line (column + vs) index vs)
in_tab-seats byte zero line column index vs width sum = tt
in_tab-seats byte (suc n) line column index vs width sum =
    let next : suc (column + vs) ≡ column + suc vs = omega arith in
    ((vs, omega arith, refl), subst (λ c. AllByRecursion (IsOfTab line column index width) (in_tab 32 n line c index (suc vs))) (sym next) (in_tab-seats 32 n line column index (suc vs) width (omega arith)))

pub of_tab : (line column index width : ℕ) → AllByRecursion (IsOfTab line column index width) (in_tab 9 width line column index 0)
of_tab line column index width =
    let start : column + 0 ≡ column = omega arith in
    subst (λ c. AllByRecursion (IsOfTab line column index width) (in_tab 9 width line c index 0)) start (in_tab-seats 9 width line column index 0 width (omega arith))

in_tab-end : (p : Point) (byte n line column index vs : ℕ) → end_after p (in_tab byte (suc n) line column index vs) ≡ point line (column + suc n) (suc index) 0
in_tab-end p byte zero line column index vs = grind arith
in_tab-end p byte (suc n) line column index vs =
    let rest = in_tab-end (point line (suc column) index (suc vs)) 32 n line (suc column) index (suc vs) in
    grind arith

pub tab_width-least : (t column : ℕ) → 0 < t → 1 ≤ tab_width t column
tab_width-least t column some = omega (arith, mod-lt (column - 1) some)

tab_end : (p : Point) (width line column index : ℕ) → 1 ≤ width → end_after p (in_tab 9 width line column index 0) ≡ point line (column + width) (suc index) 0
tab_end p zero line column index some = absurd (omega arith)
tab_end p (suc n) line column index some = in_tab-end p 9 n line column index 0

-- if an LF comes next, the place before it does not matter
crlf_end : (t line column index : ℕ) (p q : Point) (rest : List ℕ) → begins_with_lf rest ≡ true → end_after p (virtual_from t line column index rest) ≡ end_after q (virtual_from t line column index rest)
crlf_end t line column index p q [] is = absurd (false≢true is)
crlf_end t line column index p q (b ∷ rest) is = rw is refl

-- the byte at an index
module _ (t : ℕ) (bytes : List ℕ) (line column index : ℕ) (r : IsReached t bytes line column index) (within : index < length bytes) where
  pub byte_here : drop index bytes ≡ get_or bytes index 0 ∷ drop (suc index) bytes
  byte_here = drop-cons bytes index 0 within

  pub reached-line_feed : (get_or bytes index 0 == 10) ≡ true → IsReached t bytes (suc line) 1 (suc index)
  reached-line_feed is = advance t bytes line column index (suc line) 1 (line_feed line column index ∷ []) r within
      (rw (byte_here, is) refl) ((omega arith), tt) refl (omega arith) (omega arith)

  pub reached-return : (get_or bytes index 0 == 10) ≡ false → (get_or bytes index 0 == 13) ≡ true → begins_with_lf (drop (suc index) bytes) ≡ false → IsReached t bytes (suc line) 1 (suc index)
  reached-return not_lf is alone = advance t bytes line column index (suc line) 1 (line_feed line column index ∷ []) r within
      (rw (byte_here, not_lf, is, alone) refl) ((omega arith), tt) refl (omega arith) (omega arith)

  pub reached-tab : 0 < t → (get_or bytes index 0 == 10) ≡ false → (get_or bytes index 0 == 13) ≡ false → (get_or bytes index 0 == 9) ≡ true → IsReached t bytes line (column + tab_width t column) (suc index)
  reached-tab some not_lf nor is =
      let rest = virtual_from t line (column + tab_width t column) (suc index) (drop (suc index) bytes) in
      advance t bytes line column index line (column + tab_width t column) (in_tab 9 (tab_width t column) line column index 0) r within
      (rw (byte_here, not_lf, nor, is) refl)
      (every-map (IsOfTab line column index (tab_width t column)) (λ s. s.point.index < suc index) (λ s h. omega (arith, ap (λ p. p.index) h.2)) (in_tab 9 (tab_width t column) line column index 0) (of_tab line column index (tab_width t column)))
      (end-after-append (point line column index 0) (in_tab 9 (tab_width t column) line column index 0) rest ∙ ap (λ p. end_after p rest) (tab_end (point line column index 0) (tab_width t column) line column index (tab_width-least t column some)))
      (omega (arith, r.first)) (omega (arith, r.bound))

  pub reached-crlf : (get_or bytes index 0 == 10) ≡ false → (get_or bytes index 0 == 13) ≡ true → begins_with_lf (drop (suc index) bytes) ≡ true → IsReached t bytes line column (suc index)
  reached-crlf not_lf is next = advance t bytes line column index line column [] r within
      (rw (byte_here, not_lf, is, next) refl) tt (crlf_end t line column (suc index) (point line column index 0) (point line column (suc index) 0) (drop (suc index) bytes) next) r.first (omega (arith, r.bound))

  pub reached-plain : 0 < t → (get_or bytes index 0 == 10) ≡ false → (get_or bytes index 0 == 13) ≡ false → (get_or bytes index 0 == 9) ≡ false → IsReached t bytes line (suc column) (suc index)
  reached-plain some not_lf nor not_tab = advance t bytes line column index line (suc column) (other_byte (get_or bytes index 0) line column index ∷ []) r within
      (rw (byte_here, not_lf, nor, not_tab) refl) ((omega arith), tt) refl (omega arith) (omega (arith, r.bound))

-- a place in a byte's virtual bytes; if it is not at the first of them, the byte is a tab
pub record IsSeatPlace (t : ℕ) (bytes : List ℕ) (p : Point) : Type 0 where
  pub column : ℕ
  pub reached : IsReached t bytes p.line column p.index
  pub across : p.column ≡ column + p.vs
  pub in_tab : 0 < p.vs → (p.index < length bytes) × (get_or bytes p.index 0 ≡ 9) × (p.vs < tab_width t column)

-- or the CR of a CR LF
abbrev pub IsReturnPlace : List ℕ → Point → Type 0
IsReturnPlace bytes p = (p.vs ≡ 0) × (p.index < length bytes) × (get_or bytes p.index 0 ≡ 13)

abbrev pub IsPlace : ℕ → List ℕ → Point → Type 0
IsPlace t bytes p = IsSeatPlace t bytes p ⊎ IsReturnPlace bytes p

-- a virtual byte is at a place, and is shown at a place
abbrev IsPlaced : ℕ → List ℕ → Seat → Type 0
IsPlaced t bytes s = IsPlace t bytes s.point × IsPlace t bytes (shown bytes s.point)

-- all virtual bytes from an index on are placed, and so is their end
abbrev ArePlaced : (t : ℕ) (bytes : List ℕ) (line column index : ℕ) → List ℕ → Type 0
ArePlaced t bytes line column index rest =
    AllByRecursion (IsPlaced t bytes) (virtual_from t line column index rest) × IsPlace t bytes (end_after (point line column index 0) (virtual_from t line column index rest))

placed-here : (t : ℕ) (bytes : List ℕ) (line column index : ℕ) → IsReached t bytes line column index → IsPlace t bytes (point line column index 0)
placed-here t bytes line column index r =
    inl (record { column = column; reached = r; across = omega arith; in_tab = λ some. absurd (omega arith) })

placed-other : (t : ℕ) (bytes : List ℕ) (s : Seat) → IsPlace t bytes s.point → (get_or bytes s.point.index 0 == 10) ≡ false → IsPlaced t bytes s
placed-other t bytes s here not_lf = (here, rw not_lf here)

cr_before : (bytes : List ℕ) (i : ℕ) → follows_cr bytes i ≡ true → i < length bytes → (i - 1 < length bytes) × (get_or bytes (i - 1) 0 ≡ 13)
cr_before bytes i is within = grind (arith, nat_tests)

placed-line_feed : (t : ℕ) (bytes : List ℕ) (line column index : ℕ) → IsReached t bytes line column index → index < length bytes → IsPlaced t bytes (line_feed line column index)
placed-line_feed t bytes line column index r within = (placed-here t bytes line column index r, go ((slice_index bytes index == 10) && follows_cr bytes index) refl)
  where
    go : (x : Bool) → ((slice_index bytes index == 10) && follows_cr bytes index) ≡ x → IsPlace t bytes (shown bytes (point line column index 0))
    go false f = rw f (placed-here t bytes line column index r)
    go true f = let before = cr_before bytes index (and-right (slice_index bytes index == 10) (follows_cr bytes index) f) within in rw f (inr (refl, before.0, before.1))

pub drop_is : (bytes : List ℕ) (i b : ℕ) (rest : List ℕ) → drop i bytes ≡ b ∷ rest → (i < length bytes) × (get_or bytes i 0 ≡ b) × (drop (suc i) bytes ≡ rest)
drop_is [] zero b rest e = absurd (cc)
drop_is [] (suc i) b rest e = absurd (cc)
drop_is (x ∷ bytes) zero b rest e = ((omega arith), (cc), (cc))
drop_is (x ∷ bytes) (suc i) b rest e = let h = drop_is bytes i b rest e in ((omega (arith, h.0)), h.1, h.2)

placed-tab : (t : ℕ) (bytes : List ℕ) (line column index : ℕ) → IsReached t bytes line column index → index < length bytes → get_or bytes index 0 ≡ 9
    → (s : Seat) → IsOfTab line column index (tab_width t column) s → IsPlaced t bytes s
placed-tab t bytes line column index r within is s h =
    let P : Point → Type 0 = λ p. IsPlace t bytes p × ((get_or bytes p.index 0 == 10) ≡ false) in
    let placed = subst P (sym h.2) ((inl (record { column = column; reached = r; across = refl; in_tab = λ some. (within, is, h.1) })), rw is refl) in
    placed-other t bytes s placed.0 placed.1

-- the next byte's virtual bytes are placed, if the ones after it are
placed-more : (t : ℕ) → 0 < t → (bytes : List ℕ) (line column index : ℕ) → index < length bytes → IsReached t bytes line column index
    → ((line' column' : ℕ) → IsReached t bytes line' column' (suc index) → ArePlaced t bytes line' column' (suc index) (drop (suc index) bytes))
    → (w x y z : Bool) → (get_or bytes index 0 == 10) ≡ w → (get_or bytes index 0 == 13) ≡ x → begins_with_lf (drop (suc index) bytes) ≡ y → (get_or bytes index 0 == 9) ≡ z
    → ArePlaced t bytes line column index (get_or bytes index 0 ∷ drop (suc index) bytes)
placed-more t some bytes line column index within r next true x y z lf ex ey ez =
    let more = next (suc line) 1 (reached-line_feed t bytes line column index r within lf) in
    rw lf ((placed-line_feed t bytes line column index r within, more.0), more.1)
placed-more t some bytes line column index within r next false true true z not_lf cr lf ez =
    let more = next line column (reached-crlf t bytes line column index r within not_lf cr lf) in
    rw (not_lf, cr, lf) (more.0, subst (IsPlace t bytes) (crlf_end t line column (suc index) (point line column (suc index) 0) (point line column index 0) (drop (suc index) bytes) lf) more.1)
placed-more t some bytes line column index within r next false true false z not_lf cr alone ez =
    let more = next (suc line) 1 (reached-return t bytes line column index r within not_lf cr alone) in
    rw (not_lf, cr, alone) ((placed-other t bytes (line_feed line column index) (placed-here t bytes line column index r) not_lf, more.0), more.1)
placed-more t some bytes line column index within r next false false y true not_lf nor ey tab =
    let rest = virtual_from t line (column + tab_width t column) (suc index) (drop (suc index) bytes) in
    let more = next line (column + tab_width t column) (reached-tab t bytes line column index r within some not_lf nor tab) in
    let seats = every-map (IsOfTab line column index (tab_width t column)) (IsPlaced t bytes) (placed-tab t bytes line column index r within (eqb-true (get_or bytes index 0) 9 tab)) (in_tab 9 (tab_width t column) line column index 0) (of_tab line column index (tab_width t column)) in
    let ends = end-after-append (point line column index 0) (in_tab 9 (tab_width t column) line column index 0) rest ∙ ap (λ p. end_after p rest) (tab_end (point line column index 0) (tab_width t column) line column index (tab_width-least t column some)) in
    rw (not_lf, nor, tab) (every-append (IsPlaced t bytes) (in_tab 9 (tab_width t column) line column index 0) rest seats more.0, subst (IsPlace t bytes) (sym ends) more.1)
placed-more t some bytes line column index within r next false false y false not_lf nor ey not_tab =
    let more = next line (suc column) (reached-plain t bytes line column index r within some not_lf nor not_tab) in
    rw (not_lf, nor, not_tab) ((placed-other t bytes (other_byte (get_or bytes index 0) line column index) (placed-here t bytes line column index r) not_lf, more.0), more.1)

placed-from : (t : ℕ) → 0 < t → (bytes : List ℕ) (line column index : ℕ) (rest : List ℕ) → drop index bytes ≡ rest → IsReached t bytes line column index → ArePlaced t bytes line column index rest
placed-from t some bytes line column index [] is r = (tt, placed-here t bytes line column index r)
placed-from t some bytes line column index (b ∷ rest) is r =
    let here = drop_is bytes index b rest is in
    let next : (line' column' : ℕ) → IsReached t bytes line' column' (suc index) → ArePlaced t bytes line' column' (suc index) (drop (suc index) bytes) = λ line' column' r'. rw here.2 (placed-from t some bytes line' column' (suc index) rest here.2 r') in
    subst (ArePlaced t bytes line column index) (sym (byte_here t bytes line column index r here.0) ∙ is)
    (placed-more t some bytes line column index here.0 r next (get_or bytes index 0 == 10) (get_or bytes index 0 == 13) (begins_with_lf (drop (suc index) bytes)) (get_or bytes index 0 == 9) refl refl refl refl)

places-of : (t : ℕ) (bytes : List ℕ) (seats : List Seat) (end : Point) → AllByRecursion (IsPlaced t bytes) seats → IsPlace t bytes end
    → AllByRecursion (IsPlace t bytes) (flat_map (λ s. shown bytes s.point ∷ s.point ∷ []) seats ++ end ∷ [])
places-of t bytes [] end placed last = (last, tt)
places-of t bytes (s ∷ seats) end placed last = (placed.0.1, (placed.0.0, places-of t bytes seats end placed.1 last))

-- each point of a document is the point of a place
pub place-of : (t : ℕ) → 0 < t → (bytes : List ℕ) (p : Point) → IsPointOf t bytes p → IsPlace t bytes p
place-of t some bytes p h =
    let all = placed-from t some bytes 1 1 0 bytes refl (reached_start t bytes) in
    subst (IsPlace t bytes) h.2 (All-from_recursion (IsPlace t bytes) (points t bytes) (places-of t bytes (virtual t bytes) (document_end t bytes) all.0 all.1) h.0 p h.1)
