-- Letters keep places.
use Rattle.std.proofs.Common.{◌≡◌, ℕ, zero, suc, ◌+◌, Bool, true, false, cond, List, [], ◌∷◌, ◌++◌, ◌-◌, get_or, refl, sym, ap, ◌∙◌, eqb-true}
use Rattle.std.proofs.lemmas.Bool.{false≢true}
use Rattle.std.specs.Prelude.{◌==◌, ◌&&◌, ◌||◌, not, filter, map}
use Rattle.std.specs.List.{flat_map, list_all, list_any}
use Rattle.std.proofs.lemmas.List.{map-append}
use Rattle.markdown_base.specs.declared.event.Point.{Point}
use Rattle.markdown_base.specs.Places.{denotes_same, follows_cr, in_range, shown, stands_before}
use Rattle.markdown_base.specs.Virtual.{Seat, begins_with_lf, end_after, end_in_tab, in_tab, line_feed, other_byte, point, tab_width, virtual, virtual_from}
use Rattle.markdown_tokenizer.specs.Text.{Given, Piece, Text, followed_by, followed_by_all, passed, pushed, empty_text}
use Rattle.markdown_children.specs.Chains.{chain_of}
use Rattle.markdown_children.specs.Children.{first_chunk}
use Rattle.markdown_children.specs.Ready.{place_at}
use Rattle.markdown_children.specs.Reads.{pieces_of}
use Rattle.mdblock_containers.specs.Letters.{ArePlainFrom, LettersKeepPlaces, LettersKeepTexts, is_plain, letter, lettered_from, lettered_seat, lettered_text, with_letters}

-- a plain byte is none of these
pub plain_is_no : (b q : ℕ) → is_plain q ≡ false → is_plain b ≡ true → (b == q) ≡ false
plain_is_no b q out is = by (b == q) refl
  where
    by : (x : Bool) → (b == q) ≡ x → x ≡ false
    by true e = absurd (false≢true (sym out ∙ ap is_plain (sym (eqb-true b q e)) ∙ is))
    by false e = refl

module _ (at : List ℕ) where
  -- tests for bytes that no letter replaces answer the same
  pub byte_kept : (q : ℕ) → (letter == q) ≡ false → is_plain q ≡ false → (n : ℕ) (bs : List ℕ) (j : ℕ) → ArePlainFrom n at bs → (get_or (lettered_from n at bs) j 0 == q) ≡ (get_or bs j 0 == q)
  byte_kept q other out n [] j plain = refl
  byte_kept q other out n (b ∷ bs) (suc j) plain = byte_kept q other out (suc n) bs j plain.1
  byte_kept q other out n (b ∷ bs) zero plain = by (list_any (λ i. i == n) at) refl
    where
      by : (x : Bool) → list_any (λ i. i == n) at ≡ x → (cond x letter b == q) ≡ (b == q)
      by true e = other ∙ sym (plain_is_no b q out (plain.0 e))
      by false e = refl

  pub lf_kept : (n : ℕ) (bs : List ℕ) → ArePlainFrom n at bs → begins_with_lf (lettered_from n at bs) ≡ begins_with_lf bs
  lf_kept n [] plain = refl
  lf_kept n (b ∷ bs) plain = byte_kept 10 refl refl n (b ∷ bs) 0 plain

  -- the seats of a tab stay
  pub tab_kept : (k byte line column index vs : ℕ) → list_any (λ i. i == index) at ≡ false → map (lettered_seat at) (in_tab byte k line column index vs) ≡ in_tab byte k line column index vs
  tab_kept zero byte line column index vs e = refl
  tab_kept (suc k) byte line column index vs e =
      (λ i. record { byte = cond (e i) letter byte; point = point line column index vs; end = end_in_tab k line column index vs } ∷ tab_kept k 32 line (suc column) index (suc vs) e i)

  module _ (t : ℕ) where
    -- one byte's virtual bytes, and those of what comes behind it
    abbrev pub step : (lf cr lf_comes tab : Bool) → (b line column index : ℕ) → (ℕ → ℕ → List Seat) → List Seat
    step lf cr lf_comes tab b line column index rest =
        cond lf (line_feed line column index ∷ rest (suc line) 1)
        (cond cr (cond lf_comes (rest line column) (line_feed line column index ∷ rest (suc line) 1))
        (cond tab (in_tab 9 (tab_width t column) line column index 0 ++ rest line (column + tab_width t column)) (other_byte b line column index ∷ rest line (suc column))))

    pub step_kept : (b line column index : ℕ) (new old : ℕ → ℕ → List Seat) → ((l c : ℕ) → new l c ≡ map (lettered_seat at) (old l c)) → list_any (λ i. i == index) at ≡ false
        → (lf cr lf_comes tab : Bool) → step lf cr lf_comes tab b line column index new ≡ map (lettered_seat at) (step lf cr lf_comes tab b line column index old)
    step_kept b line column index new old rest e true cr lf_comes tab = (λ i. record (line_feed line column index) { byte = cond (sym e i) letter 10 } ∷ rest (suc line) 1 i)
    step_kept b line column index new old rest e false true true tab = rest line column
    step_kept b line column index new old rest e false true false tab = (λ i. record (line_feed line column index) { byte = cond (sym e i) letter 10 } ∷ rest (suc line) 1 i)
    step_kept b line column index new old rest e false false lf_comes true =
        let seats = in_tab 9 (tab_width t column) line column index 0 in
        (λ i. sym (tab_kept (tab_width t column) 9 line column index 0 e) i ++ rest line (column + tab_width t column) i)
        ∙ sym (map-append (lettered_seat at) seats (old line (column + tab_width t column)))
    step_kept b line column index new old rest e false false lf_comes false = (λ i. record (other_byte b line column index) { byte = cond (sym e i) letter b } ∷ rest line (suc column) i)

    pub step_letter : (b line column index : ℕ) (new old : ℕ → ℕ → List Seat) → ((l c : ℕ) → new l c ≡ map (lettered_seat at) (old l c)) → list_any (λ i. i == index) at ≡ true
        → (lf cr lf_comes tab : Bool) → (not tab && (not lf && not cr)) ≡ true
        → (other_byte letter line column index ∷ new line (suc column)) ≡ map (lettered_seat at) (step lf cr lf_comes tab b line column index old)
    step_letter b line column index new old rest e lf cr lf_comes true plain = absurd (false≢true plain)
    step_letter b line column index new old rest e true cr lf_comes false plain = absurd (false≢true plain)
    step_letter b line column index new old rest e false true lf_comes false plain = absurd (false≢true plain)
    step_letter b line column index new old rest e false false lf_comes false plain = (λ i. record (other_byte b line column index) { byte = cond (sym e i) letter b } ∷ rest line (suc column) i)

    pub virtual_kept : (line column index : ℕ) (bs : List ℕ) → ArePlainFrom index at bs → virtual_from t line column index (lettered_from index at bs) ≡ map (lettered_seat at) (virtual_from t line column index bs)
    virtual_kept line column index [] plain = refl
    virtual_kept line column index (b ∷ bs) plain =
        by (list_any (λ i. i == index) at) refl (λ l c. virtual_kept l c (suc index) bs plain.1)
      where
        by : (x : Bool) → list_any (λ i. i == index) at ≡ x → ((l c : ℕ) → virtual_from t l c (suc index) (lettered_from (suc index) at bs) ≡ map (lettered_seat at) (virtual_from t l c (suc index) bs))
            → virtual_from t line column index (cond x letter b ∷ lettered_from (suc index) at bs) ≡ map (lettered_seat at) (virtual_from t line column index (b ∷ bs))
        by true e rest =
            step_letter b line column index (λ l c. virtual_from t l c (suc index) (lettered_from (suc index) at bs)) (λ l c. virtual_from t l c (suc index) bs) rest e
            (b == 10) (b == 13) (begins_with_lf bs) (b == 9) (plain.0 e)
        by false e rest =
            let new = λ (l c : ℕ). virtual_from t l c (suc index) (lettered_from (suc index) at bs) in
            ap (λ f. step (b == 10) (b == 13) f (b == 9) b line column index new) (lf_kept (suc index) bs plain.1)
            ∙ step_kept b line column index new (λ l c. virtual_from t l c (suc index) bs) rest e (b == 10) (b == 13) (begins_with_lf bs) (b == 9)

  pub follows_kept : (bytes : List ℕ) (i : ℕ) → ArePlainFrom 0 at bytes → follows_cr (with_letters at bytes) i ≡ follows_cr bytes i
  follows_kept bytes zero plain = refl
  follows_kept bytes (suc i) plain = byte_kept 13 refl refl 0 bytes i plain

  pub shown_kept : (bytes : List ℕ) (p : Point) → ArePlainFrom 0 at bytes → shown (with_letters at bytes) p ≡ shown bytes p
  shown_kept bytes p plain = (λ i. cond (byte_kept 10 refl refl 0 bytes p.index plain i && follows_kept bytes p.index plain i) (record { line = p.line; column = p.column; index = p.index - 1; vs = p.vs }) p)

  pub end_kept : (p : Point) (ss : List Seat) → end_after p (map (lettered_seat at) ss) ≡ end_after p ss
  end_kept p [] = refl
  end_kept p (s ∷ ss) = end_kept s.end ss

  pub points_kept : (bytes : List ℕ) (ss : List Seat) → ArePlainFrom 0 at bytes
      → flat_map (λ s. shown (with_letters at bytes) s.point ∷ s.point ∷ []) (map (lettered_seat at) ss) ≡ flat_map (λ s. shown bytes s.point ∷ s.point ∷ []) ss
  points_kept bytes [] plain = refl
  points_kept bytes (s ∷ ss) plain = (λ i. shown_kept bytes s.point plain i ∷ s.point ∷ points_kept bytes ss plain i)

  pub order_kept : (p q : Point) (ss : List Seat)
      → list_all (λ s. not (stands_before s.point p) || stands_before s.point q) (map (lettered_seat at) ss) ≡ list_all (λ s. not (stands_before s.point p) || stands_before s.point q) ss
  order_kept p q [] = refl
  order_kept p q (s ∷ ss) = ap (λ x. (not (stands_before s.point p) || stands_before s.point q) && x) (order_kept p q ss)

  pub range_kept : (from to : Point) (ss : List Seat) → filter (in_range from to) (map (lettered_seat at) ss) ≡ map (lettered_seat at) (filter (in_range from to) ss)
  range_kept from to [] = refl
  range_kept from to (s ∷ ss) = by (in_range from to s) (range_kept from to ss)
    where
      by : (x : Bool) → filter (in_range from to) (map (lettered_seat at) ss) ≡ map (lettered_seat at) (filter (in_range from to) ss)
          → cond x (lettered_seat at s ∷ filter (in_range from to) (map (lettered_seat at) ss)) (filter (in_range from to) (map (lettered_seat at) ss))
          ≡ map (lettered_seat at) (cond x (s ∷ filter (in_range from to) ss) (filter (in_range from to) ss))
      by true e = ap (λ l. lettered_seat at s ∷ l) e
      by false e = e

pub places_kept : (t : ℕ) (at bytes : List ℕ) → ArePlainFrom 0 at bytes → LettersKeepPlaces t at bytes
places_kept t at bytes plain =
    let seats = virtual_kept at t 1 1 0 bytes plain in
    record {
      seats = seats;
      shown_at = λ p. shown_kept at bytes p plain;
      all_points =
          (λ i. flat_map (λ s. shown (with_letters at bytes) s.point ∷ s.point ∷ []) (seats i) ++ end_after (point 1 1 0 0) (seats i) ∷ [])
          ∙ (λ i. points_kept at bytes (virtual t bytes) plain i ++ end_kept at (point 1 1 0 0) (virtual t bytes) i ∷ []);
      order = λ p q. ap (list_all (λ s. not (stands_before s.point p) || stands_before s.point q)) seats ∙ order_kept at p q (virtual t bytes);
    }

module _ (at : List ℕ) (g : Given) (plain : ArePlainFrom 0 at g.bytes) where
  pub follows_both : (text : Text) (piece : Piece) → followed_by (record g { bytes = with_letters at g.bytes }) (lettered_text at text) piece ≡ lettered_text at (followed_by g text piece)
  follows_both text (pushed from to) =
      let seats = ap (filter (in_range from to)) (virtual_kept at g.tab 1 1 0 g.bytes plain) ∙ range_kept at from to (virtual g.tab g.bytes) in
      (λ i. record { start = text.start; seats = map (lettered_seat at) text.seats ++ seats i; end = to })
      ∙ (λ i. record { start = text.start; seats = sym (map-append (lettered_seat at) text.seats (filter (in_range from to) (virtual g.tab g.bytes))) i; end = to })
  follows_both text (passed p) =
      let kept = places_kept g.tab at g.bytes plain in
      (λ i. cond (kept.order p text.end i && kept.order text.end p i) (lettered_text at text) (record (lettered_text at text) { end = p }))
      ∙ by (denotes_same g.tab g.bytes p text.end)
    where
      by : (x : Bool) → cond x (lettered_text at text) (record (lettered_text at text) { end = p }) ≡ lettered_text at (cond x text (record text { end = p }))
      by true = refl
      by false = refl

  pub follow_both : (text : Text) (pieces : List Piece) → followed_by_all (record g { bytes = with_letters at g.bytes }) (lettered_text at text) pieces ≡ lettered_text at (followed_by_all g text pieces)
  follow_both text [] = refl
  follow_both text (piece ∷ pieces) = ap (λ x. followed_by_all (record g { bytes = with_letters at g.bytes }) x pieces) (follows_both text piece) ∙ follow_both (followed_by g text piece) pieces

pub texts_kept : (at : List ℕ) (g : Given) → ArePlainFrom 0 at g.bytes → LettersKeepTexts at g
texts_kept at g plain events c = follow_both at g plain (empty_text (place_at events (first_chunk (chain_of events c)))) (pieces_of events (chain_of events c))
