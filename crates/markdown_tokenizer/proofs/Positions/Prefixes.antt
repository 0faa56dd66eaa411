-- Documents with the same first bytes have the same first virtual bytes.
use Rattle.markdown_tokenizer.proofs.Prelude.{AllByRecursion, ◌≡◌, ◌+◌, ◌-◌, ◌<◌, ◌≤◌, ◌==◌, ◌&&◌, ◌∙◌, ℕ, zero, suc, List, [], ◌∷◌, ◌++◌, Bool, true, false, cond, refl, sym, ap, arith, subst, take, drop, filter, slice_index, append_assoc, append-nil, filter-append, filter-none, eqb-true, and_parts, false≢true, every-append, every-map, Point, Seat, point, tab_width, in_tab, line_feed, begins_with_lf, virtual, virtual_from, stands_before, follows_cr, IsShown}
use Rattle.std.proofs.lemmas.List.{get_or-take}
use Rattle.markdown_base.specs.Virtual.{other_byte}
use Rattle.markdown_tokenizer.proofs.Positions.Order.{below-before, not-before, filter-every}
use Rattle.markdown_tokenizer.proofs.Positions.Seats.{tab-index, virtual-index, no-lf}

-- the virtual bytes of some bytes, and of others, begin with the same ones, up to an index at which more follow
pub record SameFront (t line column index far : ℕ) (xs ys more others : List ℕ) : Type 0 where
  pub front : List Seat
  pub row : ℕ
  pub from : ℕ
  pub one : virtual_from t line column index xs ≡ front ++ virtual_from t row from far more
  pub other : virtual_from t line column index ys ≡ front ++ virtual_from t row from far others
  pub below : AllByRecursion (λ s. s.point.index < far) front

module _ (t line column index far b : ℕ) (xs ys more others : List ℕ) (less : index < far) (next : (l c : ℕ) → SameFront t l c (suc index) far xs ys more others) where
  one-byte : (w x y z : Bool) → (b == 10) ≡ w → (b == 13) ≡ x → begins_with_lf xs ≡ y → (x ≡ true → begins_with_lf ys ≡ y) → (b == 9) ≡ z → SameFront t line column index far (b ∷ xs) (b ∷ ys) more others
  one-byte true x y z ew ex ey eu ez =
      let r = next (suc line) 1 in record {
        front = line_feed line column index ∷ r.front;
        row = r.row;
        from = r.from;
        one = rw ew (ap (λ (s : List Seat). line_feed line column index ∷ s) r.one);
        other = rw ew (ap (λ (s : List Seat). line_feed line column index ∷ s) r.other);
        below = (less, r.below);
      }
  one-byte false true true z ew ex ey eu ez =
      let r = next line column in let also = eu refl in
      record { front = r.front; row = r.row; from = r.from; one = rw (ew, ex, ey) r.one; other = rw (ew, ex, also) r.other; below = r.below }
  one-byte false true false z ew ex ey eu ez =
      let r = next (suc line) 1 in let also = eu refl in record {
        front = line_feed line column index ∷ r.front;
        row = r.row;
        from = r.from;
        one = rw (ew, ex, ey) (ap (λ (s : List Seat). line_feed line column index ∷ s) r.one);
        other = rw (ew, ex, also) (ap (λ (s : List Seat). line_feed line column index ∷ s) r.other);
        below = (less, r.below);
      }
  one-byte false false y true ew ex ey eu ez =
      let r = next line (column + tab_width t column) in let tab = in_tab 9 (tab_width t column) line column index 0 in record {
        front = tab ++ r.front;
        row = r.row;
        from = r.from;
        one = rw (ew, ex, ez) (ap (λ (s : List Seat). tab ++ s) r.one ∙ sym (append_assoc tab r.front (virtual_from t r.row r.from far more)));
        other = rw (ew, ex, ez) (ap (λ (s : List Seat). tab ++ s) r.other ∙ sym (append_assoc tab r.front (virtual_from t r.row r.from far others)));
        below = every-append (λ s. s.point.index < far) tab r.front
            (every-map (λ s. (s.point.index ≡ index) × (0 ≤ s.point.vs)) (λ s. s.point.index < far) (λ s h. omega (arith, h.0, less)) tab (tab-index 9 (tab_width t column) line column index 0)) r.below;
      }
  one-byte false false y false ew ex ey eu ez =
      let r = next line (suc column) in record {
        front = other_byte b line column index ∷ r.front;
        row = r.row;
        from = r.from;
        one = rw (ew, ex, ez) (ap (λ (s : List Seat). other_byte b line column index ∷ s) r.one);
        other = rw (ew, ex, ez) (ap (λ (s : List Seat). other_byte b line column index ∷ s) r.other);
        below = (less, r.below);
      }

-- no CR LF is cut behind this many bytes
abbrev pub IsCutWhole : ℕ → List ℕ → Type 0
IsCutWhole n xs = (k : ℕ) → suc k ≡ n → slice_index xs k ≡ 13 → begins_with_lf (drop n xs) ≡ false

begin-alike : (n : ℕ) (xs ys : List ℕ) → take (suc n) xs ≡ take (suc n) ys → begins_with_lf xs ≡ begins_with_lf ys
begin-alike n [] [] e = refl
begin-alike n [] (y ∷ ys) e = absurd (cc)
begin-alike n (x ∷ xs) [] e = absurd (cc)
begin-alike n (x ∷ xs) (y ∷ ys) e = let same : x ≡ y = cc in ap (λ (b : ℕ). b == 10) same

first-alike : (n b : ℕ) (xs ys : List ℕ) → take n xs ≡ take n ys → IsCutWhole (suc n) (b ∷ xs) → IsCutWhole (suc n) (b ∷ ys) → b ≡ 13 → begins_with_lf xs ≡ begins_with_lf ys
first-alike zero b xs ys e a c cr = a 0 refl cr ∙ sym (c 0 refl cr)
first-alike (suc n) b xs ys e a c cr = begin-alike n xs ys e

whole-on : (n b : ℕ) (xs : List ℕ) → IsCutWhole (suc n) (b ∷ xs) → IsCutWhole n xs
whole-on n b xs h k e cr = h (suc k) (ap suc e) cr

pub same-front : (t line column index n far : ℕ) (xs ys : List ℕ) → index + n ≡ far → take n xs ≡ take n ys → IsCutWhole n xs → IsCutWhole n ys
    → SameFront t line column index far xs ys (drop n xs) (drop n ys)
same-front t line column index zero far xs ys at e a c =
    let is : index ≡ far = omega (arith, at) in record {
      front = [];
      row = line;
      from = column;
      one = ap (λ (i : ℕ). virtual_from t line column i xs) is;
      other = ap (λ (i : ℕ). virtual_from t line column i ys) is;
      below = tt;
    }
same-front t line column index (suc n) far [] [] at e a c = record { front = []; row = line; from = column; one = refl; other = refl; below = tt }
same-front t line column index (suc n) far [] (y ∷ ys) at e a c = absurd (cc)
same-front t line column index (suc n) far (x ∷ xs) [] at e a c = absurd (cc)
same-front t line column index (suc n) far (x ∷ xs) (y ∷ ys) at e a c =
    let head : y ≡ x = cc in let rest : take n xs ≡ take n ys = cc in
    let also : IsCutWhole (suc n) (x ∷ ys) = subst (λ (b : ℕ). IsCutWhole (suc n) (b ∷ ys)) head c in
    let less : index < far = omega (arith, at) in let on : suc index + n ≡ far = omega (arith, at) in
    subst (λ (b : ℕ). SameFront t line column index far (x ∷ xs) (b ∷ ys) (drop n xs) (drop n ys)) (sym head)
    (one-byte t line column index far x xs ys (drop n xs) (drop n ys) less
    (λ l m. same-front t l m (suc index) n far xs ys on rest (whole-on n x xs a) (whole-on n x ys also))
    (x == 10) (x == 13) (begins_with_lf xs) (x == 9) refl refl refl (λ cr. sym (first-alike n x xs ys rest a also (eqb-true x 13 cr))) refl)

-- a byte at an index below the ones that are alike is the same
pub same-byte : (n i : ℕ) (xs ys : List ℕ) → take n xs ≡ take n ys → i < n → slice_index xs i ≡ slice_index ys i
same-byte n i xs ys e l = sym (get_or-take n xs i 0 l) ∙ ap (λ (zs : List ℕ). slice_index zs i) e ∙ get_or-take n ys i 0 l

-- a place that is shown at itself is behind no CR of a CR LF
pub whole-test : (bytes : List ℕ) (p : Point) → IsShown bytes p → ((slice_index bytes p.index == 10) && follows_cr bytes p.index) ≡ false
whole-test bytes p h = tested ((slice_index bytes p.index == 10) && follows_cr bytes p.index) refl h
  where
    tested : (b : Bool) → ((slice_index bytes p.index == 10) && follows_cr bytes p.index) ≡ b → cond b (point p.line p.column (p.index - 1) p.vs) p ≡ p → b ≡ false
    tested false e k = refl
    tested true e k =
        let back : p.index - 1 ≡ p.index = ap (λ (x : Point). x.index) k in let none : p.index ≡ 0 = omega arith in
        let cr = (and_parts (slice_index bytes p.index == 10) (follows_cr bytes p.index) e).1 in
        let no : follows_cr bytes 0 ≡ true = subst (λ (i : ℕ). follows_cr bytes i ≡ true) none cr in absurd (false≢true no)

-- a place that is shown at itself cuts no CR LF
pub cut-whole : (bytes : List ℕ) (p : Point) → ((slice_index bytes p.index == 10) && follows_cr bytes p.index) ≡ false → IsCutWhole p.index bytes
cut-whole bytes p test k e cr = no-lf bytes p.index (λ inside lf.
    let follows : follows_cr bytes p.index ≡ true = subst (λ (i : ℕ). follows_cr bytes i ≡ true) e (rw cr refl) in
    let f : true ≡ false = rw (lf, follows) at test in absurd cc)

-- of two documents with the same bytes up to a place between two bytes, at which no CR LF is cut: the virtual bytes before it are the same
pub record HaveSameFront (t : ℕ) (one other : List ℕ) (p : Point) : Type 0 where
  pub front : List Seat
  pub more : List Seat
  pub before : filter (λ s. stands_before s.point p) (virtual t one) ≡ front
  pub splits : virtual t other ≡ front ++ more

pub have-same-front : (t : ℕ) (one other : List ℕ) (p : Point) → p.vs ≡ 0 → take p.index one ≡ take p.index other → IsCutWhole p.index one → IsCutWhole p.index other → HaveSameFront t one other p
have-same-front t one other p flat same a c =
    let r = same-front t 1 1 0 p.index p.index one other (omega arith) same a c in
    let f = λ (s : Seat). stands_before s.point p in let rest = virtual_from t r.row r.from p.index (drop p.index one) in record {
      front = r.front;
      more = virtual_from t r.row r.from p.index (drop p.index other);
      before = ap (filter f) r.one ∙ filter-append f r.front rest
          ∙ ap (λ (s : List Seat). filter f r.front ++ s) (filter-none f rest (every-map (λ s. p.index ≤ s.point.index) (λ s. f s ≡ false) (λ s h. not-before s.point.index s.point.vs p.index p.vs h flat) rest
          (virtual-index t r.row r.from p.index (drop p.index one))))
          ∙ append-nil (filter f r.front)
          ∙ filter-every f r.front (every-map (λ s. s.point.index < p.index) (λ s. f s ≡ true) (λ s h. below-before s.point.index s.point.vs p.index p.vs h) r.front r.below);
      splits = r.other;
    }
