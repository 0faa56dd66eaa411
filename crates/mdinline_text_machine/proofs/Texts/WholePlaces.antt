-- The whole text of a document is a text. Its places, one after another: the place after the previous byte is where the next byte is shown.
use Rattle.mdinline_text_machine.proofs.Prelude.{◌≡◌, ℕ, zero, suc, ◌+◌, ◌<◌, ◌≤◌, ◌==◌, List, [], ◌∷◌, ◌++◌, Bool, true, false, cond, Option, Some, None, length, take, drop, refl, sym, ap, ◌∙◌, subst, arith, slice_get, slice_get_within, append-nil, drop-at, take-append-drop, Point, Seat, point, virtual, document_end, end_after, shown, IsShown, IsPointOf, Waits, Nothing, Byte, End, goes_on, end_at, whole_text, byte_of, end_or, end_place, point_or, point_of, current_of, next_place, Given, Text, IsDocument, IsText, pushed, IsChain, whole-chain, get-among, start-is-point, start-upto, same-self, end-is-point, end-of-is-point, chain-at, chain-split, after-shown, shown-line, class_of, LineByte, line_byte}
use Rattle.markdown_tokenizer.proofs.Positions.Chains.{Begins}
use Rattle.markdown_tokenizer.proofs.Positions.Standing.{seat-begins}
use Rattle.mdconstructs_tables.specs.Tables.{line_ending, other}
use Rattle.mdinline_text_machine.proofs.DeepSpans.Places.{range-of}
use Rattle.mdinline_text_machine.proofs.Plain.Stretches.{end-behind}

-- one range, from the document's start to its end
pub whole-is-text : (g : Given) → IsDocument g → IsText g (whole_text g)
whole-is-text g document =
    let some : 0 < g.tab = (let tab = document.tab.0 in omega (arith, tab)) in
    let seats = virtual g.tab g.bytes in
    let p = point 1 1 0 0 in
    let e = document_end g.tab g.bytes in record {
      document = document;
      starts = start-is-point g some;
      pieces = pushed p e ∷ [];
      follow = ((start-is-point g some, end-is-point g.tab g.bytes, same-self g.tab g.bytes p, start-upto g.tab some g.bytes e), tt);
      is = ap (λ (seats : List Seat). record { start = p; seats = seats; end = e }) (sym (range-of g.tab g.bytes some [] seats [] (sym (append-nil seats))));
    }

-- the place before a byte is the end of those before it
place-is : (text : Text) (p : ℕ) (l : List Seat) → text.seats ≡ l → p ≤ length l → end_place text p ≡ end_after text.start (take p l)
place-is text zero l is h = refl
place-is text (suc m) [] is h = absurd (omega (arith, h))
place-is text (suc m) (x ∷ xs) is h = let one : suc m ≡ 0 + suc m = omega arith in ap (end_place text) one ∙ end-behind text m 0 x xs is (omega (arith, h))

module _ (t : ℕ) (bytes : List ℕ) where
  -- the next place begins a line after a line ending, and is in the same line after another byte
  new-line : (byte : ℕ) (p : Point) (b : Bool) → (byte == 10) ≡ b → cond b line_ending other ≡ line_ending → (end_at t byte p).column ≡ 1
  new-line byte p true e h = rw e refl
  new-line byte p false e h = absurd (cc)

  same-line : (byte : ℕ) (p : Point) (b c : Bool) → (byte == 10) ≡ b → goes_on t byte p ≡ c → cond b line_ending other ≡ other → (end_at t byte p).line ≡ p.line
  same-line byte p true c e f h = absurd (cc)
  same-line byte p false true e f h = rw (e, f) refl
  same-line byte p false false e f h = rw (e, f) refl

module _ (g : Given) (document : IsDocument g) where
  some : 0 < g.tab
  some = (let tab = document.tab.0 in omega (arith, tab))

  abbrev seats : List Seat
  seats = virtual g.tab g.bytes

  -- the place after the byte before a position
  abbrev pub place : ℕ → Point
  place p = end_place (whole_text g) p

  -- a place of the document, which is shown at itself
  abbrev Stands : Point → Type 0
  Stands q = IsPointOf g.tab g.bytes q × IsShown g.bytes q

  still : (q : Point) → Stands q → IsPointOf g.tab g.bytes (shown g.bytes q)
  still q h = subst (IsPointOf g.tab g.bytes) (sym h.1) h.0

  end-stands : Stands (document_end g.tab g.bytes)
  end-stands = (
    end-is-point g.tab g.bytes,
    (chain-split g.tab g.bytes (point 1 1 0 0) seats [] (subst (IsChain g.tab g.bytes (point 1 1 0 0)) (sym (append-nil seats)) (whole-chain g.tab g.bytes some))).shown,
  )

  -- so does the end of a byte, or the place if none is there
  seat-stands : (q : Point) → Stands q → (o : Option Seat) (p : ℕ) → slice_get seats p ≡ o → Stands (end_or q o)
  seat-stands q h None p e = h
  seat-stands q h (Some s) p e = let among = get-among seats p s e in (end-of-is-point g.tab g.bytes some s among, after-shown g.tab g.bytes some among.front s among.back among.splits)

  start-stands : Stands (point 1 1 0 0)
  start-stands = ((whole-is-text g document).starts, (chain-at g.tab g.bytes (point 1 1 0 0) seats (whole-chain g.tab g.bytes some)).shown)

  place-stands : (p : ℕ) → Stands (place p)
  place-stands zero = start-stands
  place-stands (suc q) = seat-stands (point 1 1 0 0) start-stands (slice_get seats q) q refl

  -- a byte that waits begins there
  begins-there : (p : ℕ) (s : Seat) → slice_get seats p ≡ Some s → Begins g.tab g.bytes (place p) s (drop (suc p) seats)
  begins-there p s at =
      let is : seats ≡ take p seats ++ s ∷ drop (suc p) seats = sym (take-append-drop p seats) ∙ ap (λ l. take p seats ++ l) (drop-at seats p s at) in
      let within = slice_get_within seats p s at in
      let there = place-is (whole_text g) p seats refl (omega (arith, within)) in
      subst (λ q. Begins g.tab g.bytes q s (drop (suc p) seats)) (sym there) (seat-begins g.tab g.bytes some (take p seats) s (drop (suc p) seats) is)

  -- the place of an enter, whatever waits, is a place of the document
  here-of : (p : ℕ) (o : Option Seat) → slice_get seats p ≡ o → IsPointOf g.tab g.bytes (shown g.bytes (point_or (document_end g.tab g.bytes) o))
  here-of p None e = still (document_end g.tab g.bytes) end-stands
  here-of p (Some s) e = subst (IsPointOf g.tab g.bytes) (sym (begins-there p s e).shown_is) (place-stands p).0

  pub here-is-point : (p : ℕ) (w : Waits) → IsPointOf g.tab g.bytes (shown g.bytes (point_of (whole_text g) p w))
  here-is-point p Nothing = still (place p) (place-stands p)
  here-is-point p Byte = here-of p (slice_get seats p) refl
  here-is-point p End = still (document_end g.tab g.bytes) end-stands

  pub behind-is-point : (p : ℕ) → IsPointOf g.tab g.bytes (shown g.bytes (place p))
  behind-is-point p = still (place p) (place-stands p)

  pub next-is-point : (p : ℕ) (w : Waits) → IsPointOf g.tab g.bytes (shown g.bytes (next_place (whole_text g) p w))
  next-is-point p Byte = still (end_or (document_end g.tab g.bytes) (slice_get seats p)) (seat-stands (document_end g.tab g.bytes) end-stands (slice_get seats p) p refl)
  next-is-point p w = behind-is-point p

  -- A byte of a class waits at a position: the places before and after it
  pub record HasByte (p : ℕ) (w : Waits) (class : LineByte) : Type 0 where
    pub here : shown g.bytes (point_of (whole_text g) p w) ≡ place p
    pub next : shown g.bytes (next_place (whole_text g) p w) ≡ place (p + 1)
    pub line_begins : class ≡ line_ending → (place (p + 1)).column ≡ 1
    pub line_goes_on : class ≡ other → (place (p + 1)).line ≡ (place p).line

  has-seat : (p : ℕ) (c : LineByte) (o : Option Seat) → slice_get seats p ≡ o → class_of line_byte (byte_of o) ≡ Some c → HasByte p Byte c
  has-seat p c None e is = absurd (cc)
  has-seat p c (Some s) e is =
      let begins = begins-there p s e in
      let same : line_byte s.byte ≡ c = cc in
      let one : suc p ≡ p + 1 = omega arith in
      let next : place (p + 1) ≡ s.end = ap place (sym one) ∙ ap (end_or (point 1 1 0 0)) e in
      record {
        here = ap (λ o. shown g.bytes (point_or (document_end g.tab g.bytes) o)) e ∙ begins.shown_is;
        next = ap (λ o. shown g.bytes (end_or (document_end g.tab g.bytes) o)) e ∙ (seat-stands (document_end g.tab g.bytes) end-stands (Some s) p e).1 ∙ sym next;
        line_begins = λ class. ap (λ (q : Point). q.column) (next ∙ sym begins.end_is) ∙ new-line g.tab g.bytes s.byte s.point (s.byte == 10) refl (same ∙ class);
        line_goes_on = λ class.
            ap (λ (q : Point). q.line) (next ∙ sym begins.end_is) ∙ same-line g.tab g.bytes s.byte s.point (s.byte == 10) (goes_on g.tab s.byte s.point) refl refl (same ∙ class)
            ∙ sym (shown-line g.bytes s.point) ∙ ap (λ (q : Point). q.line) begins.shown_is;
      }

  pub has-byte : (p : ℕ) (w : Waits) (c : LineByte) → class_of line_byte (current_of (whole_text g) p w) ≡ Some c → HasByte p w c
  has-byte p Nothing c is = absurd (cc)
  has-byte p Byte c is = has-seat p c (slice_get seats p) refl is
  has-byte p End c is = absurd (cc)
