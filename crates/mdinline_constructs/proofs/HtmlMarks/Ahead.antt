-- The calls of looks for marks are paid: by the bytes of a mark that is there; and where none is, by the bytes of which it was not yet known that
-- no mark of the kind ends that begins there.
use Rattle.mdinline_constructs.proofs.Prelude.{drop-at, every-get, every-map, shown, Seat, get-dropped, AreInOrder, Follows, text-order, drop-order, Configuration, Local, byte_of, point_or, Given, IsText, Text, at-front, is_white, none_upto, stopped_at, Remembered, remembered, spent, bytes_of, AllByRecursion, nat_lt, Bool, List, Some, [], ap, arith, cond, drop, false, inl, inr, length, refl, slice_get, subst, suc, sym, take, true, zero, ℕ, ◌&&◌, ◌*◌, ◌+◌, ◌-◌, ◌<◌, ◌==◌, ◌^◌, ◌∙◌, ◌∷◌, ◌≡◌, ◌≤◌, le-ltb, lt-ltb, ltb-false, drop-drop, length-drop, length-map, slice_get_cases, mul-le-mul_right}
use Rattle.mdinline_constructs.proofs.HtmlMarks.Fails.{IsLineAt}
use Rattle.mdinline_constructs.proofs.HtmlMarks.Places.{Mark, at_open, mark_byte, mark_move, of_cdata, of_comment, of_declaration, of_instruction}
use Rattle.mdinline_constructs.proofs.HtmlMarks.Readings.{IsWritten, known_at, look_calls, looked_over}
use Rattle.mdinline_constructs.proofs.HtmlMarks.Remembered.{before-index, stop_index}
use Rattle.mdinline_constructs.proofs.HtmlMarks.Rows.{known_upto, knows_of, opening_length}
use Rattle.mdinline_constructs.proofs.HtmlMarks.Strict.{IsPlain, line-behind, text-plain}
use Rattle.mdinline_constructs.proofs.HtmlTexts.Walks.{gone_over, looked, Move, done, goes, refused}

-- how many bytes begin at an index or behind it
abbrev pub count_from : ℕ → List Seat → ℕ
count_from n [] = 0
count_from n (s ∷ ss) = cond (nat_lt s.point.index n) 0 1 + count_from n ss

-- for each kind two calls for each byte at which a mark may begin that ends, as far as is known
abbrev pub marks_ahead : Remembered → List Seat → ℕ
marks_ahead r l = 2 * (count_from r.comment l + count_from r.instruction l + count_from r.declaration l + count_from r.cdata l)

count-later : (n : ℕ) (s : Seat) (ss : List Seat) → count_from n ss ≤ count_from n (s ∷ ss)
count-later n s ss = elim (nat_lt s.point.index n) as (λ t. count_from n ss ≤ cond t 0 1 + count_from n ss) [ true ↦ omega arith | false ↦ omega arith ]

count-within : (n : ℕ) (l : List Seat) → count_from n l ≤ length l
count-within n [] = omega arith
count-within n (s ∷ ss) =
    elim (nat_lt s.point.index n) as (λ t. cond t 0 1 + count_from n ss ≤ suc (length ss)) [ true ↦ omega (arith, count-within n ss) | false ↦ omega (arith, count-within n ss) ]

pub marks-ahead-later : (r : Remembered) (s : Seat) (ss : List Seat) → marks_ahead r ss ≤ marks_ahead r (s ∷ ss)
marks-ahead-later r s ss = omega (arith, count-later r.comment s ss, count-later r.instruction s ss, count-later r.declaration s ss, count-later r.cdata s ss)

pub marks-ahead-within : (r : Remembered) (l : List Seat) → marks_ahead r l ≤ 8 * length l
marks-ahead-within r l = omega (arith, count-within r.comment l, count-within r.instruction l, count-within r.declaration l, count-within r.cdata l)

-- it is by the fields of marks alone
pub marks-ahead-same : (r r' : Remembered) (l : List Seat) → ((kind : Mark) → known_upto kind r' ≡ known_upto kind r) → marks_ahead r' l ≡ marks_ahead r l
marks-ahead-same r r' l same =
    λ i. 2 * (count_from (same of_comment i) l + count_from (same of_instruction i) l + count_from (same of_declaration i) l + count_from (same of_cdata i) l)

-- all of these are counted, or none
count-all : (n : ℕ) (l : List Seat) → AllByRecursion (λ s. n ≤ s.point.index) l → count_from n l ≡ length l
count-all n [] h = refl
count-all n (s ∷ ss) h =
    ap (λ t. cond t 0 1 + count_from n ss) (le-ltb s.point.index n h.0) ∙ (let one : 1 + count_from n ss ≡ suc (length ss) = omega (arith, count-all n ss h.1) in one)

count-drop : (n i : ℕ) (l : List Seat) → count_from n (drop i l) ≤ count_from n l
count-drop n zero l = omega arith
count-drop n (suc i) [] = omega arith
count-drop n (suc i) (s ∷ ss) = omega (arith, count-drop n i ss, count-later n s ss)

-- so many at the front are not
count-front : (n over : ℕ) (l : List Seat) → over ≤ length l → AllByRecursion (λ s. s.point.index < n) (take over l) → count_from n l + over ≤ length l
count-front n zero l h all = omega (arith, count-within n l)
count-front n (suc over) [] h all = absurd (omega (arith, h))
count-front n (suc over) (s ∷ ss) h all =
    let rest : count_from n ss + over ≤ length ss = count-front n over ss (omega (arith, h)) all.1 in
    let same : 0 + count_from n ss ≡ count_from n ss = omega arith in
    let none : count_from n (s ∷ ss) ≡ count_from n ss = ap (λ t. cond t 0 1 + count_from n ss) (lt-ltb s.point.index n all.0) ∙ same in
    omega (arith, rest, none)

-- no more bytes are gone over than there are
move-few : {S : Type 0} (f : S → ℕ) (n : ℕ) → ((s : S) → f s ≤ n) → (m : Move S) → gone_over f m ≤ suc n
move-few f n h refused = omega arith
move-few f n h done = omega arith
move-few f n h (goes w s) = omega (arith, h s)

-- as many of those at most
pub looked-within : {S : Type 0} (next : S → ℕ → Move S) (bs : List ℕ) (line : Bool) (s : S) → looked next bs line s ≤ length bs
looked-within next [] line s = omega arith
looked-within next (b ∷ bs) line s =
    elim (b == 10) as (λ t. cond t (cond line 0 (gone_over (looked next bs true) (next s b))) (cond (line && is_white b) (suc (looked next bs true s)) (gone_over (looked next bs false) (next s b))) ≤ suc (length bs)) [
      | true ↦ elim line as (λ t. cond t 0 (gone_over (looked next bs true) (next s b)) ≤ suc (length bs)) [ true ↦ omega arith | false ↦ move-few (looked next bs true) (length bs) (looked-within next bs true) (next s b) ]
      | false ↦ elim (line && is_white b) as (λ t. cond t (suc (looked next bs true s)) (gone_over (looked next bs false) (next s b)) ≤ suc (length bs)) [
        | true ↦ omega (arith, looked-within next bs true s)
        | false ↦ move-few (looked next bs false) (length bs) (looked-within next bs false) (next s b)
      ]
    ]

opening-short : (kind : Mark) → opening_length kind ≤ 8
opening-short of_comment = omega arith
opening-short of_instruction = omega arith
opening-short of_declaration = omega arith
opening-short of_cdata = omega arith

-- bytes in front of a line feed
front-below : (bytes : List ℕ) (l : List Seat) (over : ℕ) (x : Seat) (xs : List Seat) → AreInOrder bytes l → AllByRecursion (IsPlain bytes) l → drop over l ≡ x ∷ xs → (x.byte == 10) ≡ true
    → AllByRecursion (λ s. s.point.index < (shown bytes x.point).index) (take over l)
front-below bytes l zero x xs order plain here feed = tt
front-below bytes [] (suc over) x xs order plain here feed = tt
front-below bytes (y ∷ ys) (suc over) x xs order plain here feed =
    let at = at-front ys over x xs here in
    (line-behind bytes y x order.0 (every-get (Follows y) ys over x order.1 at) plain.0 (every-get (IsPlain bytes) ys over x plain.1 at) feed, front-below bytes ys over x xs order.2 plain.1 here feed)

-- the byte behind so many is a line feed
line-there : (l : List Seat) (over : ℕ) (x : Seat) (xs : List Seat) → IsLineAt (bytes_of l) over → drop over l ≡ x ∷ xs → (x.byte == 10) ≡ true
line-there [] zero x xs h here = absurd (cc)
line-there [] (suc over) x xs h here = absurd (cc)
line-there (y ∷ ys) zero x xs h here = let same : y ≡ x = cc in subst (λ (y : Seat). (y.byte == 10) ≡ true) same h
line-there (y ∷ ys) (suc over) x xs h here = line-there ys over x xs h here

-- all of a list
every-taken : (P : Seat → Type 0) (n : ℕ) (l : List Seat) → AllByRecursion P l → AllByRecursion P (take n l)
every-taken P zero l h = tt
every-taken P (suc n) [] h = tt
every-taken P (suc n) (s ∷ ss) h = (h.0, every-taken P n ss h.1)

every-dropped : (P : Seat → Type 0) (n : ℕ) (l : List Seat) → AllByRecursion P l → AllByRecursion P (drop n l)
every-dropped P zero l h = h
every-dropped P (suc n) [] h = h
every-dropped P (suc n) (s ∷ ss) h = every-dropped P n ss h.1

-- what is written of a kind changes what is ahead of that kind
ahead-written : (kind : Mark) (i : ℕ) (k : Configuration Unit Unit) (l : List Seat)
    → marks_ahead (remembered (none_upto (mark_byte kind) i k)) l + 2 * count_from (known_upto kind (remembered k.local)) l ≡ marks_ahead (remembered k.local) l + 2 * count_from i l
ahead-written of_comment i k l = omega arith
ahead-written of_instruction i k l = omega arith
ahead-written of_declaration i k l = omega arith
ahead-written of_cdata i k l = omega arith

ahead-first : (kind : Mark) (r : Remembered) (s : Seat) (ss : List Seat)
    → marks_ahead r ss + 2 * count_from (known_upto kind r) (s ∷ ss) ≤ marks_ahead r (s ∷ ss) + 2 * count_from (known_upto kind r) ss
ahead-first of_comment r s ss = omega (arith, count-later r.comment s ss, count-later r.instruction s ss, count-later r.declaration s ss, count-later r.cdata s ss)
ahead-first of_instruction r s ss = omega (arith, count-later r.comment s ss, count-later r.instruction s ss, count-later r.declaration s ss, count-later r.cdata s ss)
ahead-first of_declaration r s ss = omega (arith, count-later r.comment s ss, count-later r.instruction s ss, count-later r.declaration s ss, count-later r.cdata s ss)
ahead-first of_cdata r s ss = omega (arith, count-later r.comment s ss, count-later r.instruction s ss, count-later r.declaration s ss, count-later r.cdata s ss)

module _ (g : Given) (text : Text) (is : IsText g text) (p : ℕ) (s : Seat) (ss : List Seat) (here : drop p text.seats ≡ s ∷ ss) where
  order-here : AreInOrder g.bytes (s ∷ ss)
  order-here = subst (AreInOrder g.bytes) here (drop-order g.bytes text.seats p (text-order g text is).0)

  plain-here : AllByRecursion (IsPlain g.bytes) (s ∷ ss)
  plain-here = subst (AllByRecursion (IsPlain g.bytes)) here (every-dropped (IsPlain g.bytes) p text.seats (text-plain g text is))

  -- nearly all bytes from a look on are counted, if its kind was not known
  unknown-counted : (r : Remembered) (kind : Mark) → known_at text p r kind ≡ false → length (s ∷ ss) ≤ count_from (known_upto kind r) (s ∷ ss) + opening_length kind
  unknown-counted r kind unknown =
      let n = opening_length kind in
      let c = known_upto kind r in
      elim (slice_get_cases (s ∷ ss) n).1 [
        | inl found ↦
            let x = found.0 in
            let at : slice_get text.seats (p + n) ≡ Some x = sym (get-dropped p text.seats n) ∙ ap (λ l. slice_get l n) here ∙ found.2 in
            let behind : c ≤ x.point.index = ltb-false x.point.index c (sym (ap (knows_of r kind) at) ∙ unknown) in
            let rest = drop (suc n) (s ∷ ss) in
            let split : drop n (s ∷ ss) ≡ x ∷ rest = drop-at (s ∷ ss) n x found.2 in
            let order : AreInOrder g.bytes (x ∷ rest) = subst (AreInOrder g.bytes) split (drop-order g.bytes (s ∷ ss) n order-here) in
            let all : count_from c (x ∷ rest) ≡ length (x ∷ rest) =
            count-all c (x ∷ rest) (behind, every-map (Follows x) (λ r. c ≤ r.point.index) (λ r f. (let grows = before-index x.point r.point f.0 in omega (arith, behind, grows))) rest order.1) in
            let counted : count_from c (drop n (s ∷ ss)) ≡ length (drop n (s ∷ ss)) = ap (count_from c) split ∙ all ∙ sym (ap length split) in
            omega (arith, counted, count-drop c n (s ∷ ss), length-drop n (s ∷ ss))
        | inr past ↦ omega (arith, past.0)
      ]

  -- and only those behind the place where it stops are, once it has failed
  stopped-counted : (over : ℕ) → over ≤ length ss → IsLineAt (bytes_of ss) over → count_from (stop_index g text (drop over ss) (p + 1 + over)) ss + over ≤ length ss
  stopped-counted over within lines = by (drop over ss) refl
    where
      at_stop : drop (p + 1 + over) text.seats ≡ drop over ss
      at_stop = (let sum : p + suc over ≡ p + 1 + over = omega arith in ap (λ n. drop n text.seats) (sym sum)) ∙ sym (drop-drop (suc over) p text.seats) ∙ ap (drop (suc over)) here

      by : (l : List Seat) → drop over ss ≡ l → count_from (stop_index g text l (p + 1 + over)) ss + over ≤ length ss
      by [] stop =
          let limit = is.document.limit in
          let wide : 1 * length g.bytes ≤ g.tab * length g.bytes = mul-le-mul_right (length g.bytes) is.document.tab.0 in
          count-front (2 ^ 64 - 1) over ss within
          (every-taken (λ s. s.point.index < 2 ^ 64 - 1) over ss
          (every-map (IsPlain g.bytes) (λ s. s.point.index < 2 ^ 64 - 1) (λ s plain. (let inside = plain.0 in omega (arith, inside, limit, wide))) ss plain-here.1))
      by (x ∷ xs) stop =
          let q = p + 1 + over in
          let front = at-front text.seats q x xs (at_stop ∙ stop) in
          let index : stop_index g text (x ∷ xs) q ≡ (shown g.bytes x.point).index = ap (λ o. stopped_at (byte_of o) (shown g.bytes (point_or text.end o)).index) front in
          subst (λ n. count_from n ss + over ≤ length ss) (sym index)
          (count-front (shown g.bytes x.point).index over ss within (front-below g.bytes ss over x xs order-here.2 plain-here.1 stop (line-there ss over x xs lines stop)))

  -- So a look for a mark that is not there is paid
  pub mark-missed : (local after : Local Unit Unit) → let over = looked_over text p (remembered local) ss in spent after ≤ spent local + look_calls text p (remembered local) ss
      → IsWritten g text p ss (known_at text p (remembered local)) over local after → spent after + marks_ahead (remembered after) ss ≤ spent local + marks_ahead (remembered local) (s ∷ ss) + 18
  mark-missed local after calls (inl (same, few)) =
      let ahead : marks_ahead (remembered after) ss ≡ marks_ahead (remembered local) ss = ap (λ r. marks_ahead r ss) same in
      omega (arith, calls, few, ahead, marks-ahead-later (remembered local) s ss)
  mark-missed local after calls (inr (kind, unknown, lines, k, was, now)) =
      let r = remembered local in
      let over = looked_over text p r ss in
      let i = stop_index g text (drop over ss) (p + 1 + over) in
      let c = known_upto kind r in
      let within : over ≤ length ss = omega (arith, looked-within (mark_move (known_at text p r)) (bytes_of ss) false at_open, length-map ss (λ (s : Seat). s.byte)) in
      let written : marks_ahead (remembered after) ss + 2 * count_from c ss ≡ marks_ahead r ss + 2 * count_from i ss =
      ap (λ a. marks_ahead a ss + 2 * count_from c ss) now
      ∙ ap (λ (a : Remembered). marks_ahead (remembered (none_upto (mark_byte kind) i k)) ss + 2 * count_from (known_upto kind a) ss) (sym was)
      ∙ ahead-written kind i k ss
      ∙ ap (λ a. marks_ahead a ss + 2 * count_from i ss) was in
      omega (arith, calls, written, ahead-first kind r s ss, unknown-counted r kind unknown, stopped-counted over within lines, opening-short kind)

-- what else is remembered is as it was
pub marks-leave-runs : (g : Given) (text : Text) (p : ℕ) (ss : List Seat) (known : Mark → Bool) (over : ℕ) (local after : Local Unit Unit) → IsWritten g text p ss known over local after
    → ((remembered after).all_seen ≡ (remembered local).all_seen) × ((remembered after).runs ≡ (remembered local).runs) × ((remembered after).starts ≡ (remembered local).starts)
marks-leave-runs g text p ss known over local after (inl (same, few)) = (ap (λ (r : Remembered). r.all_seen) same, ap (λ (r : Remembered). r.runs) same, ap (λ (r : Remembered). r.starts) same)
marks-leave-runs g text p ss known over local after (inr (kind, unknown, lines, k, was, now)) = (
  ap (λ (r : Remembered). r.all_seen) now ∙ ap (λ (r : Remembered). r.all_seen) was,
  ap (λ (r : Remembered). r.runs) now ∙ ap (λ (r : Remembered). r.runs) was,
  ap (λ (r : Remembered). r.starts) now ∙ ap (λ (r : Remembered). r.starts) was,
)
