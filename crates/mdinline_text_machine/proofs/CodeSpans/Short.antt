-- The virtual bytes of a text can be counted, and so can the runs of backticks among them.
use Rattle.markdown_base.proofs.SeatCounts.{virtual-length}
use Rattle.mdinline_text_machine.proofs.Prelude.{◌≡◌, ℕ, ◌+◌, ◌*◌, ◌^◌, ◌<◌, ◌≤◌, ◌∷◌, ◌++◌, [], List, Bool, true, false, cond, not, ◌&&◌, ◌||◌, refl, sym, ◌∙◌, ap, subst, inl, inr, arith, length, drop, length-drop, is_backtick, length-append, and_parts, filter, list_all, AllByRecursion, or-leads, Point, Seat, virtual, stands_before, denotes_same, in_range, Given, Text, Piece, pushed, passed, IsText, empty_text, followed_by, followed_by_all, FitsAfter, CanFollow, after-before, before-upto, every-all, filter-same, same-before, count_by-le-length, length-filter}
use Rattle.mdinline_text_machine.proofs.CodeSpans.Walks.{RunsAreShort}
use Rattle.mdinline_text_machine.proofs.CodeSpans.Parts.{count-within}

-- if the first test implies the second, the elements that pass the first and those that pass only the second are all that pass the second
add-step : (a b : Bool) (x : Seat) (f r h : List Seat) → (a ≡ true → b ≡ true) → length f + length r ≡ length h → length (cond a (x ∷ f) f) + length (cond (not a && b) (x ∷ r) r) ≡ length (cond b (x ∷ h) h)
add-step true true x f r h i e = omega (arith, e)
add-step true false x f r h i e = absurd (let c : false ≡ true = i refl in cc)
add-step false true x f r h i e = omega (arith, e)
add-step false false x f r h i e = e

-- over a whole list
counts-add : (f h : Seat → Bool) (xs : List Seat) → AllByRecursion (λ s. f s ≡ true → h s ≡ true) xs → length (filter f xs) + length (filter (λ s. not (f s) && h s) xs) ≡ length (filter h xs)
counts-add f h [] k = omega arith
counts-add f h (x ∷ xs) k = add-step (f x) (h x) x (filter f xs) (filter (λ s. not (f s) && h s) xs) (filter h xs) k.0 (counts-add f h xs k.1)

-- if each seat passes an implication of two tests, the first test implies the second
all-implied : (f h : Seat → Bool) (xs : List Seat) → list_all (λ s. not (f s) || h s) xs ≡ true → AllByRecursion (λ s. f s ≡ true → h s ≡ true) xs
all-implied f h [] e = tt
all-implied f h (x ∷ xs) e =
    let parts = and_parts (not (f x) || h x) (list_all (λ s. not (f s) || h s) xs) e in
    (or-leads (f x) (h x) parts.0, all-implied f h xs parts.1)

module _ (g : Given) where
  -- how many virtual bytes of the document begin before a place
  abbrev before : Point → ℕ
  before p = length (filter (λ s. stands_before s.point p) (virtual g.tab g.bytes))

  -- a text has no more
  abbrev IsCounted : Text → Type 0
  IsCounted text = length text.seats ≤ before text.end

  -- a gap is passed, or is none
  passed-counted : (b : Bool) (text : Text) (p : Point) → IsCounted text → (b ≡ false → stands_before text.end p ≡ true) → IsCounted (cond b text (record text { end = p }))
  passed-counted true text p h later = h
  passed-counted false text p h later =
      let all = virtual g.tab g.bytes in
      let end = text.end in
      let sum : before end + length (filter (λ s. not (stands_before s.point end) && stands_before s.point p) all) ≡ before p =
      counts-add (λ s. stands_before s.point end) (λ s. stands_before s.point p) all
      (every-all (λ s. stands_before s.point end ≡ true → stands_before s.point p ≡ true)
      (λ s e. before-upto s.point.index s.point.vs end.index end.vs p.index p.vs e (after-before end.index end.vs p.index p.vs (later refl))) all) in
      omega (arith, h, sum)

  -- a range is pushed, or a gap is passed
  piece-counted : (text : Text) (piece : Piece) → IsCounted text → FitsAfter g text piece → IsCounted (followed_by g text piece)
  piece-counted text (pushed from to) h fits =
      let all = virtual g.tab g.bytes in
      let at_end : before from ≡ before text.end =
      ap length (filter-same (λ (s : Seat). stands_before s.point from) (λ (s : Seat). stands_before s.point text.end) all (same-before g.tab g.bytes from text.end fits.2)) in
      let sum : before from + length (filter (in_range from to) all) ≡ before to =
      counts-add (λ s. stands_before s.point from) (λ s. stands_before s.point to) all (all-implied (λ s. stands_before s.point from) (λ s. stands_before s.point to) all fits.3) in
      let whole : length (text.seats ++ filter (in_range from to) all) ≡ length text.seats + length (filter (in_range from to) all) = length-append text.seats (filter (in_range from to) all) in
      omega (arith, h, at_end, sum, whole)
  piece-counted text (passed p) h fits =
      passed-counted (denotes_same g.tab g.bytes p text.end) text p h
      (elim fits.1 [ inl same ↦ λ not_same. absurd (let e : true ≡ false = sym same ∙ not_same in cc) | inr later ↦ λ not_same. later.2 ])

  -- one after another
  pieces-counted : (text : Text) (pieces : List Piece) → IsCounted text → CanFollow g text pieces → IsCounted (followed_by_all g text pieces)
  pieces-counted text [] h fits = h
  pieces-counted text (piece ∷ rest) h fits = pieces-counted (followed_by g text piece) rest (piece-counted text piece h fits.0) fits.1

-- So the text of a tokenizer can be counted, and so can its runs of backticks
pub runs-of-text : (g : Given) (text : Text) → IsText g text → RunsAreShort text
runs-of-text g text is q =
    let counted : length text.seats ≤ before g text.end =
    subst (IsCounted g) (sym is.is) (pieces-counted g (empty_text text.start) is.pieces (omega arith) is.follow) in
    let is_before = λ (s : Seat). stands_before s.point text.end in
    let some : before g text.end ≤ length (virtual g.tab g.bytes) = omega (arith, count_by-le-length is_before (virtual g.tab g.bytes), length-filter is_before (virtual g.tab g.bytes)) in
    let all : length (virtual g.tab g.bytes) ≤ g.tab * length g.bytes = virtual-length g.tab is.document.tab.0 g.bytes 1 1 0 in
    let limit : g.tab * length g.bytes + 1 < 2 ^ 64 = is.document.limit in
    omega (arith, counted, some, all, limit, count-within is_backtick (drop q text.seats), length-drop q text.seats)
