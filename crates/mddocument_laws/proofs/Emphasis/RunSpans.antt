-- Emphasis of parts: what comes in the place of runs has a span for each of their pairs, and no other.
use Rattle.std.proofs.Common.{◌≡◌, ℕ, zero, suc, ◌+◌, ◌-◌, ◌<◌, ◌≤◌, ◌∙◌, ◌==◌, Bool, true, false, cond, List, [], ◌∷◌, ◌++◌, Some, inl, inr, refl, sym, ap, arith, append_assoc, append-nil, map, reverse}
use Rattle.std.proofs.lemmas.Bool.{cases_Bool}
use Rattle.std.proofs.lemmas.Bool.Decides.{nat_tests}
use Rattle.std.proofs.lemmas.List.{map-append, reverse-append}
use Rattle.std.proofs.lemmas.List.Elements.{filter-append}
use Rattle.std.proofs.lemmas.List.Sorted.{IsPermutation-reverse, sum_by-IsPermutation}
use Rattle.std.proofs.lemmas.List.Sums.{sum_by-cons}
use Rattle.std.specs.List.{AllByRecursion, filter, sum_by}
use Rattle.std.specs.Prelude.{nat_lt, option_map, slice_get, unwrap_or}
use Rattle.markdown_base.specs.declared.event.Event.{Event}
use Rattle.markdown_base.specs.declared.event.Point.{Point}
use Rattle.markdown_base.specs.Events.{is_enter}
use Rattle.markdown_base.specs.Virtual.{point}
use Rattle.mdinline_emphasis.specs.declared.pairs.Style.{Style}
use Rattle.mdinline_emphasis.specs.declared.pairs.Style.TheVariants.{Emphasis as OfEmphasis, Strong as OfStrong, Struck, StruckTwice}
use Rattle.mdinline_emphasis.specs.Emphasis.{Pair, Run, closings, data_of, later, markers_of, markers_of_all, openings, outer_name, styles}
use Rattle.mdinline_emphasis.specs.RunEdits.{in_place}
use Rattle.mdinline_links.proofs.RunOrder.{later-later, later-none}
use Rattle.mddocument_laws.specs.EmphasisSpans.{emphasis_spans, ended_span, is_emphasis, markers_given, place_in_run, span_of_pair, spans_behind, spans_of_pairs}
use Rattle.mddocument_laws.proofs.Emphasis.PairOrder.{AreNested, CloseAt, given-append, given-more}

-- ---- events that end each span that they begin, and no other
abbrev pub IsClosed : List Event → Type 0
IsClosed es = (starts : List Point) (rest : List Event) → spans_behind starts (es ++ rest) ≡ emphasis_spans es ++ spans_behind starts rest

pub closed-none : IsClosed []
closed-none starts rest = refl

pub closed-both : (xs ys : List Event) → IsClosed xs → IsClosed ys → IsClosed (xs ++ ys)
closed-both xs ys h k starts rest =
    ap (spans_behind starts) (append_assoc xs ys rest) ∙ h starts (ys ++ rest) ∙ ap (λ l. emphasis_spans xs ++ l) (k starts rest)
    ∙ sym (append_assoc (emphasis_spans xs) (emphasis_spans ys) (spans_behind starts rest)) ∙ ap (λ l. l ++ spans_behind starts rest) (sym (h [] ys))

-- an event is of no span of emphasis
abbrev pub IsPlain : Event → Type 0
IsPlain e = is_emphasis e.name ≡ false

pub plain-skips : (es : List Event) → AllByRecursion IsPlain es → (starts : List Point) (rest : List Event) → spans_behind starts (es ++ rest) ≡ spans_behind starts rest
plain-skips [] h starts rest = refl
plain-skips (e ∷ es) h starts rest =
    ap (λ b. cond b (cond (is_enter e.kind) (spans_behind (e.point ∷ starts) (es ++ rest)) (ended_span starts e ++ spans_behind (drop-one starts) (es ++ rest))) (spans_behind starts (es ++ rest))) h.0
    ∙ plain-skips es h.1 starts rest
  where
    drop-one : List Point → List Point
    drop-one [] = []
    drop-one (p ∷ ps) = ps

pub plain-none : (es : List Event) → AllByRecursion IsPlain es → emphasis_spans es ≡ []
plain-none es h = ap emphasis_spans (sym (append-nil es)) ∙ plain-skips es h [] []

pub plain-closed : (es : List Event) → AllByRecursion IsPlain es → IsClosed es
plain-closed es h starts rest = plain-skips es h starts rest ∙ ap (λ l. l ++ spans_behind starts rest) (sym (plain-none es h))

-- ---- what a run closes and opens
pub styles-append : (takes : Pair → Bool) (ps qs : List Pair) → styles takes (ps ++ qs) ≡ styles takes ps ++ styles takes qs
styles-append takes ps qs = ap (map (λ (p : Pair). p.style)) (filter-append takes ps qs) ∙ map-append (λ (p : Pair). p.style) (filter takes ps) (filter takes qs)

pub styles-none : (takes : Pair → Bool) (ps : List Pair) → AllByRecursion (λ (p : Pair). takes p ≡ false) ps → styles takes ps ≡ []
styles-none takes [] h = refl
styles-none takes (p ∷ ps) h = ap (λ b. map (λ (q : Pair). q.style) (cond b (p ∷ filter takes ps) (filter takes ps))) h.0 ∙ styles-none takes ps h.1

pub styles-all : (takes : Pair → Bool) (ps : List Pair) → AllByRecursion (λ (p : Pair). takes p ≡ true) ps → styles takes ps ≡ map (λ (p : Pair). p.style) ps
styles-all takes [] h = refl
styles-all takes (p ∷ ps) h = ap (λ b. map (λ (q : Pair). q.style) (cond b (p ∷ filter takes ps) (filter takes ps))) h.0 ∙ ap (λ l. p.style ∷ l) (styles-all takes ps h.1)

closing-step : (s : Style) (q x : Point) (starts : List Point) (ss : List Style) (rest : List Event)
    → spans_behind (x ∷ starts) (closings q (s ∷ ss) ++ rest) ≡ record { start = x; end = later (markers_of s) q; name = outer_name s } ∷ spans_behind starts (closings (later (markers_of s) q) ss ++ rest)
closing-step OfStrong q x starts ss rest = refl
closing-step OfEmphasis q x starts ss rest = refl
closing-step Struck q x starts ss rest = refl
closing-step StruckTwice q x starts ss rest = refl

opening-step : (s : Style) (q : Point) (starts : List Point) (ss : List Style) (rest : List Event)
    → spans_behind starts (openings q (s ∷ ss) ++ rest) ≡ spans_behind (q ∷ starts) (openings (later (markers_of s) q) ss ++ rest)
opening-step OfStrong q starts ss rest = refl
opening-step OfEmphasis q starts ss rest = refl
opening-step Struck q starts ss rest = refl
opening-step StruckTwice q starts ss rest = refl

-- where the pairs begin that a run opens from a place on
abbrev places_on : Point → List Style → List Point
places_on q [] = []
places_on q (s ∷ ss) = q ∷ places_on (later (markers_of s) q) ss

openings-open : (starts : List Point) (q : Point) (ss : List Style) (rest : List Event) → spans_behind starts (openings q ss ++ rest) ≡ spans_behind (reverse (places_on q ss) ++ starts) rest
openings-open starts q [] rest = refl
openings-open starts q (s ∷ ss) rest =
    let more = places_on (later (markers_of s) q) ss in
    opening-step s q starts ss rest ∙ openings-open (q ∷ starts) (later (markers_of s) q) ss rest
    ∙ ap (λ l. spans_behind l rest) (sym (append_assoc (reverse more) (q ∷ []) starts) ∙ ap (λ l. l ++ starts) (sym (reverse-append (q ∷ []) more)))

data-skips : (starts : List Point) (q : Point) (n : ℕ) (rest : List Event) → spans_behind starts (data_of q n ++ rest) ≡ spans_behind starts rest
data-skips starts q zero rest = refl
data-skips starts q (suc n) rest = refl

-- the same, the inner ones first, up to so many bytes behind a place
abbrev pub places_upto : Point → ℕ → List Style → List Point
places_upto q n [] = []
places_upto q n (s ∷ ss) = later (n - markers_of s) q ∷ places_upto q (n - markers_of s) ss

places-last : (q : Point) (ss : List Style) (s : Style) → places_on q (ss ++ s ∷ []) ≡ places_on q ss ++ later (markers_of_all ss) q ∷ []
places-last q [] s = ap (λ p. p ∷ []) (sym (later-none q))
places-last q (t ∷ ss) s =
    ap (λ l. q ∷ l) (places-last (later (markers_of t) q) ss s ∙ ap (λ p. places_on (later (markers_of t) q) ss ++ p ∷ []) (later-later (markers_of_all ss) (markers_of t) q))

markers-sum : (ss : List Style) → markers_of_all ss ≡ sum_by markers_of ss
markers-sum [] = refl
markers-sum (s ∷ ss) = ap (λ n. markers_of s + n) (markers-sum ss) ∙ sym (sum_by-cons markers_of s ss)

outer-first : (q : Point) (n : ℕ) (ss : List Style) → reverse (places_on (later n q) (reverse ss)) ≡ places_upto q (n + markers_of_all ss) ss
outer-first q n [] = refl
outer-first q n (s ∷ ss) =
    let at = later n q in
    let turned = markers-sum (reverse ss) ∙ sum_by-IsPermutation markers_of ss (reverse ss) (IsPermutation-reverse ss) ∙ sym (markers-sum ss) in
    let place : later (markers_of_all (reverse ss)) at ≡ later (n + markers_of_all ss) q = ap (λ k. later k at) turned ∙ later-later (markers_of_all ss) n q in
    let same : n + (markers_of s + markers_of_all ss) - markers_of s ≡ n + markers_of_all ss = omega arith in
    ap (λ l. reverse (places_on at l)) (reverse-append (s ∷ []) ss) ∙ ap reverse (places-last at (reverse ss) s) ∙ reverse-append (places_on at (reverse ss)) (later (markers_of_all (reverse ss)) at ∷ [])
    ∙ ap (λ p. p ∷ reverse (places_on at (reverse ss))) place ∙ ap (λ l. later (n + markers_of_all ss) q ∷ l) (outer-first q n ss)
    ∙ ap (λ k. later k q ∷ places_upto q k ss) (sym same)

-- ---- the pairs of some runs
module _ (all : List Run) where
  -- where the spans begin of pairs that a test takes
  abbrev pub starts_of : (Pair → Bool) → (before : List Pair) → List Pair → List Point
  starts_of takes before [] = []
  starts_of takes before (p ∷ ps) = cond (takes p) ((span_of_pair all before p).start ∷ []) [] ++ starts_of takes (before ++ p ∷ []) ps

  pub starts-append : (takes : Pair → Bool) (before ps qs : List Pair) → starts_of takes before (ps ++ qs) ≡ starts_of takes before ps ++ starts_of takes (before ++ ps) qs
  starts-append takes before [] qs = ap (λ l. starts_of takes l qs) (sym (append-nil before))
  starts-append takes before (p ∷ ps) qs =
      let here = cond (takes p) ((span_of_pair all before p).start ∷ []) [] in
      ap (λ l. here ++ l) (starts-append takes (before ++ p ∷ []) ps qs ∙ ap (λ l. starts_of takes (before ++ p ∷ []) ps ++ starts_of takes l qs) (append_assoc before (p ∷ []) ps))
      ∙ sym (append_assoc here (starts_of takes (before ++ p ∷ []) ps) (starts_of takes (before ++ p ∷ ps) qs))

  pub starts-none : (takes : Pair → Bool) (before ps : List Pair) → AllByRecursion (λ (p : Pair). takes p ≡ false) ps → starts_of takes before ps ≡ []
  starts-none takes before [] h = refl
  starts-none takes before (p ∷ ps) h =
      ap (λ b. cond b ((span_of_pair all before p).start ∷ []) [] ++ starts_of takes (before ++ p ∷ []) ps) h.0 ∙ starts-none takes (before ++ p ∷ []) ps h.1

  pub spans-append : (before ps qs : List Pair) → spans_of_pairs all before (ps ++ qs) ≡ spans_of_pairs all before ps ++ spans_of_pairs all (before ++ ps) qs
  spans-append before [] qs = ap (λ l. spans_of_pairs all l qs) (sym (append-nil before))
  spans-append before (p ∷ ps) qs =
      ap (λ l. span_of_pair all before p ∷ l) (spans-append (before ++ p ∷ []) ps qs ∙ ap (λ l. spans_of_pairs all (before ++ p ∷ []) ps ++ spans_of_pairs all l qs) (append_assoc before (p ∷ []) ps))

  -- pairs that a run opens, behind it, come before those that runs before it open
  split-one : (a b c : Bool) (x : Point) (ls ms ns : List Point) → a ≡ true → b ≡ false → c ≡ true → ms ≡ [] → ms ++ ls ≡ ns → (cond b (x ∷ []) [] ++ ms) ++ (cond a (x ∷ []) [] ++ ls) ≡ cond c (x ∷ []) [] ++ ns
  split-one a b c x ls ms ns ha hb hc none same = rw (ha, hb, hc, none) (ap (λ l. x ∷ l) (sym (ap (λ l. l ++ ls) none) ∙ same))

  this-one : (a b c : Bool) (x : Point) (ls ms ns : List Point) → a ≡ false → b ≡ c → ms ++ ls ≡ ns → (cond b (x ∷ []) [] ++ ms) ++ (cond a (x ∷ []) [] ++ ls) ≡ cond c (x ∷ []) [] ++ ns
  this-one a true c x ls ms ns ha e same = rw (ha, sym e) (ap (λ l. x ∷ l) same)
  this-one a false c x ls ms ns ha e same = rw (ha, sym e) same

  pub nested-starts : (n : ℕ) (before ps : List Pair) → AreNested n ps
      → starts_of (λ p. p.opener == n) before ps ++ starts_of (λ p. nat_lt p.opener n) before ps ≡ starts_of (λ p. nat_lt p.opener (n + 1)) before ps
  nested-starts n before [] h = refl
  nested-starts n before (p ∷ ps) h =
      let more = before ++ p ∷ [] in
      let x = (span_of_pair all before p).start in
      let next = nested-starts n more ps h.1 in
      elim (cases_Bool (nat_lt p.opener n)) [
        | inl lower ↦
            let less : p.opener < n = grind (arith, nat_tests, lower) in
            let other : (p.opener == n) ≡ false = grind (arith, nat_tests, less) in
            let also : nat_lt p.opener (n + 1) ≡ true = grind (arith, nat_tests, less) in
            split-one (nat_lt p.opener n) (p.opener == n) (nat_lt p.opener (n + 1)) x _ _ _ lower other also (starts-none (λ q. q.opener == n) more ps (h.0 less)) next
        | inr upper ↦ this-one (nat_lt p.opener n) (p.opener == n) (nat_lt p.opener (n + 1)) x _ _ _ upper (grind (arith, nat_tests, upper)) next
      ]

  module _ (n : ℕ) (r : Run) (at : slice_get all n ≡ Some r) where
    place-is : (f : Run → ℕ) → place_in_run all n f ≡ later (f r) r.start
    place-is f = ap (λ o. unwrap_or (option_map (λ (s : Run). later (f s) s.start) o) (point 1 1 0 0)) at

    end-is : (before : List Pair) (p : Pair) → p.closer ≡ n → (span_of_pair all before p).end ≡ later (markers_given (λ q. q.closer == n) before + markers_of p.style) r.start
    end-is before p e = ap (λ k. place_in_run all k (λ s. markers_given (λ q. q.closer == k) before + markers_of p.style)) e ∙ place-is (λ s. markers_given (λ q. q.closer == n) before + markers_of p.style)

    start-is : (before : List Pair) (p : Pair) → p.opener ≡ n → (span_of_pair all before p).start ≡ later (r.left - (markers_given (λ q. q.opener == n) before + markers_of p.style)) r.start
    start-is before p e =
        ap (λ k. place_in_run all k (λ s. s.left - (markers_given (λ q. q.opener == k) before + markers_of p.style))) e ∙ place-is (λ s. s.left - (markers_given (λ q. q.opener == n) before + markers_of p.style))

    given-one : (takes : Pair → Bool) (before : List Pair) (p : Pair) (b : Bool) → takes p ≡ b → markers_given takes (before ++ p ∷ []) ≡ markers_given takes before + cond b (markers_of p.style) 0
    given-one takes before p b e =
        let both = given-append takes before (p ∷ []) in
        let one = given-more takes p [] in
        let is = ap (λ c. cond {A = ℕ} c (markers_of p.style) 0) e in
        omega (arith, both, one, is)

    closings-close : (ps before : List Pair) (c : ℕ) → CloseAt n ps → markers_given (λ q. q.closer == n) before ≡ c → (more : List Point) (rest : List Event)
        → spans_behind (starts_of (λ p. nat_lt p.opener n) before ps ++ more) (closings (later c r.start) (map (λ (p : Pair). p.style) ps) ++ rest) ≡ spans_of_pairs all before ps ++ spans_behind more rest
    closings-close [] before c h given more rest = refl
    closings-close (p ∷ ps) before c h given more rest =
        let x = (span_of_pair all before p).start in
        let s = p.style in
        let ss = map (λ (q : Pair). q.style) ps in
        let next = before ++ p ∷ [] in
        let lower : nat_lt p.opener n ≡ true = (let less = h.0.0 in grind (arith, nat_tests, less)) in
        let this : (p.closer == n) ≡ true = (let same = h.0.1 in grind (arith, nat_tests, same)) in
        let place = later-later (markers_of s) c r.start in
        let end : later (c + markers_of s) r.start ≡ (span_of_pair all before p).end = ap (λ k. later (k + markers_of s) r.start) (sym given) ∙ sym (end-is before p h.0.1) in
        let given_next : markers_given (λ q. q.closer == n) next ≡ c + markers_of s = given-one (λ q. q.closer == n) before p true this ∙ ap (λ k. k + markers_of s) given in
        ap (λ b. spans_behind ((cond b (x ∷ []) [] ++ starts_of (λ q. nat_lt q.opener n) next ps) ++ more) (closings (later c r.start) (s ∷ ss) ++ rest)) lower
        ∙ closing-step s (later c r.start) x (starts_of (λ q. nat_lt q.opener n) next ps ++ more) ss rest
        ∙ ap (λ q. record { start = x; end = q; name = outer_name s } ∷ spans_behind (starts_of (λ q. nat_lt q.opener n) next ps ++ more) (closings q ss ++ rest)) place
        ∙ ap (λ l. record { start = x; end = later (c + markers_of s) r.start; name = outer_name s } ∷ l) (closings-close ps next (c + markers_of s) h.1 given_next more rest)
        ∙ ap (λ q. record { start = x; end = q; name = outer_name s } ∷ (spans_of_pairs all next ps ++ spans_behind more rest)) end

    pub starts-opened : (ps before : List Pair) (t : ℕ) → markers_given (λ q. q.opener == n) before ≡ t
        → starts_of (λ p. p.opener == n) before ps ≡ places_upto r.start (r.left - t) (styles (λ p. p.opener == n) ps)
    starts-opened [] before t given = refl
    starts-opened (p ∷ ps) before t given =
        let x = (span_of_pair all before p).start in
        let s = p.style in
        let takes = λ (q : Pair). q.opener == n in
        let next = before ++ p ∷ [] in
        let two = λ (b : Bool). cond b (x ∷ []) [] ++ starts_of takes next ps in
        let strong = λ (b : Bool). map (λ (q : Pair). q.style) (cond b (p ∷ filter takes ps) (filter takes ps)) in
        elim (cases_Bool (p.opener == n)) [
          | inl this ↦
              let same : p.opener ≡ n = grind (arith, nat_tests, this) in
              let given_next : markers_given takes next ≡ t + markers_of s = given-one takes before p true this ∙ ap (λ k. k + markers_of s) given in
              let less : r.left - (t + markers_of s) ≡ r.left - t - markers_of s = omega arith in
              ap two this ∙ ap (λ y. y ∷ starts_of takes next ps) (start-is before p same ∙ ap (λ k. later (r.left - (k + markers_of s)) r.start) given)
              ∙ ap (λ l. later (r.left - (t + markers_of s)) r.start ∷ l) (starts-opened ps next (t + markers_of s) given_next)
              ∙ ap (λ k. later k r.start ∷ places_upto r.start k (styles takes ps)) less
              ∙ ap (λ b. places_upto r.start (r.left - t) (strong b)) (sym this)
          | inr other ↦
              let given_next : markers_given takes next ≡ t = (let one = given-one takes before p false other in omega (arith, one, given)) in
              ap two other ∙ starts-opened ps next t given_next ∙ ap (λ b. places_upto r.start (r.left - t) (strong b)) (sym other)
        ]

    -- a run in no pair yet, with its pairs
    abbrev pub with_pairs : (closed opened : List Style) → Run
    with_pairs closed opened = record r { closed = closed; left = r.left - (markers_of_all closed + markers_of_all opened); opened = reverse opened }

    pub run-place : (before ps : List Pair) (opened : List Style) → CloseAt n ps → markers_given (λ q. q.closer == n) before ≡ 0
        → let closed = map (λ (p : Pair). p.style) ps in
        markers_of_all closed + markers_of_all opened ≤ r.left → (more : List Point) (rest : List Event)
        → spans_behind (starts_of (λ p. nat_lt p.opener n) before ps ++ more) (in_place (with_pairs closed opened) ++ rest) ≡ spans_of_pairs all before ps ++ spans_behind (places_upto r.start r.left opened ++ more) rest
    run-place before ps opened h given enough more rest =
        let closed = map (λ (p : Pair). p.style) ps in
        let mc = markers_of_all closed in
        let left = r.left - (mc + markers_of_all opened) in
        let p = later mc r.start in
        let tail = data_of p left ++ openings (later left p) (reverse opened) in
        let whole : (mc + left) + markers_of_all opened ≡ r.left = omega (arith, enough) in
        ap (λ l. spans_behind (starts_of (λ p. nat_lt p.opener n) before ps ++ more) l) (append_assoc (closings r.start closed) tail rest)
        ∙ ap (λ q. spans_behind (starts_of (λ p. nat_lt p.opener n) before ps ++ more) (closings q closed ++ (tail ++ rest))) (sym (later-none r.start))
        ∙ closings-close ps before 0 h given more (tail ++ rest)
        ∙ ap (λ l. spans_of_pairs all before ps ++ l)
        (ap (spans_behind more) (append_assoc (data_of p left) (openings (later left p) (reverse opened)) rest)
        ∙ data-skips more p left (openings (later left p) (reverse opened) ++ rest)
        ∙ openings-open more (later left p) (reverse opened) rest
        ∙ ap (λ q. spans_behind (reverse (places_on q (reverse opened)) ++ more) rest) (later-later left mc r.start)
        ∙ ap (λ l. spans_behind (l ++ more) rest) (outer-first r.start (mc + left) opened ∙ ap (λ k. places_upto r.start k opened) whole))
