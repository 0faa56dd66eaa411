-- Each span that is read leaves what there is so far as the fold has it.
use Rattle.std.proofs.Common.{◌≡◌, ◌==◌, ◌+◌, ◌-◌, ◌<◌, ◌≤◌, ◌∙◌, ℕ, suc, List, [], ◌∷◌, ◌++◌, Bool, true, false, cond, inl, inr, ap, append-nil, append_assoc, arith, drop, length, length-append, map, refl, subst, sym, take}
use Rattle.std.proofs.Math.Seq.{drop-append_seam, take-append_seam}
use Rattle.std.proofs.lemmas.Bool.Decides.{nat_tests}
use Rattle.std.proofs.lemmas.Bool.{cases_Bool}
use Rattle.std.proofs.lemmas.List.{length-drop, length-map, length-take-le}
use Rattle.std.specs.List.{AllByRecursion, between}
use Rattle.std.specs.Prelude.{nat_lt}
use Rattle.markdown_base.specs.declared.event.Event.{Event}
use Rattle.markdown_base.specs.declared.event.Name.TheVariants.{LabelImage}
use Rattle.markdown_base.proofs.Common.{every-append}
use Rattle.mdinline_emphasis.proofs.PairsKeep.{pairs-keep}
use Rattle.mdinline_emphasis.specs.declared.pairs.Delimiters.{Delimiters}
use Rattle.mdinline_emphasis.specs.Emphasis.{Run, paired}
use Rattle.mdinline_emphasis.specs.Places.{AllHaveRoom, standing}
use Rattle.mdinline_emphasis.specs.Searches.{as_run}
use Rattle.mdinline_links.proofs.Written.{written-append}
use Rattle.mdinline_links.specs.declared.brackets.Bracket.{Bracket}
use Rattle.mdinline_links.specs.declared.pieces.Fate.TheVariants.{AsData, Ends, Opens, Same, Tail}
use Rattle.mdinline_links.specs.declared.pieces.Piece.{Piece}
use Rattle.mdinline_links.proofs.Laid.{all-back, all-front, filled, filled-fit, filled-front, filled-is, laid-count, laid-joined, laid-more, none-at, placed-are, waits-append, with-fate-at}
use Rattle.mdinline_links.proofs.Made.{is_filled, is_last, made-is}
use Rattle.mdinline_links.specs.Laid.{AreAscending, IsFrame, Laid, NoneWait, Reads, Stands, Writes, bracket_at, is_waiting, piece_at, placed_at, waits_at, with_fate}
use Rattle.mdinline_links.specs.Linked.{Part, run, events, SoFar, Waiting, as_data, emphasised_parts, ended, failed, is_named, made, opened, runs_of_parts}
use Rattle.mdinline_links.specs.Pieces.{Fits, closing_events, in_fate, opening_events, put, span_of, tail_events, written_from}

-- ---- runs one behind another

-- those that are left when some in the middle are paired
ascending-behind : (xs ys : List Run) → AreAscending (xs ++ ys) → AreAscending ys
ascending-behind [] ys h = h
ascending-behind (x ∷ xs) ys h = ascending-behind xs ys h.1

pub ascending-front : (xs ys : List Run) → AreAscending (xs ++ ys) → AreAscending xs
ascending-front [] ys h = tt
ascending-front (x ∷ xs) ys h = (all-front (λ s. x.index < s.index) xs ys h.0, ascending-front xs ys h.1)

ascending-apart : (xs ys zs : List Run) → AreAscending ((xs ++ ys) ++ zs) → AreAscending (xs ++ zs)
ascending-apart [] ys zs h = ascending-behind ys zs h
ascending-apart (x ∷ xs) ys zs h =
    let P : Run → Type 0 = λ s. x.index < s.index in
    let all = h.0 in (
      every-append P xs zs (all-front P xs ys (all-front P (xs ++ ys) zs all)) (all-back P (xs ++ ys) zs all),
      ascending-apart xs ys zs h.1,
    )

room-behind : (xs ys : List Run) → AllHaveRoom (map standing (xs ++ ys)) → AllHaveRoom (map standing ys)
room-behind [] ys h = h
room-behind (x ∷ xs) ys h = room-behind xs ys h.1

pub room-front : (xs ys : List Run) → AllHaveRoom (map standing (xs ++ ys)) → AllHaveRoom (map standing xs)
room-front [] ys h = tt
room-front (x ∷ xs) ys h = (h.0, room-front xs ys h.1)

room-apart : (xs ys zs : List Run) → AllHaveRoom (map standing ((xs ++ ys) ++ zs)) → AllHaveRoom (map standing (xs ++ zs))
room-apart [] ys zs h = room-behind ys zs h
room-apart (x ∷ xs) ys zs h = (h.0, room-apart xs ys zs h.1)

module _ (es : List Event) where
  -- the same lists
  pub stands-by : (bs bs' : List Bracket) (rs rs' : List Run) (os os' : List ℕ) (ps ps' : List Piece) (left left' : List Run) (z : SoFar)
      → bs' ≡ bs → rs' ≡ rs → os' ≡ os → ps' ≡ ps → left' ≡ left → Stands es bs rs os ps left z → Stands es bs' rs' os' ps' left' z
  stands-by bs bs' rs rs' os os' ps ps' left left' z a b c d e h =
      subst (λ x. Stands es x rs' os' ps' left' z) (sym a)
      (subst (λ x. Stands es bs x os' ps' left' z) (sym b)
      (subst (λ x. Stands es bs rs x ps' left' z) (sym c)
      (subst (λ x. Stands es bs rs os x left' z) (sym d)
      (subst (λ x. Stands es bs rs os ps x z) (sym e) h))))

  -- where runs wait among more pieces, of which none does
  waits-more : (ps qs : List Piece) → NoneWait qs → waits_at 0 (ps ++ qs) ≡ waits_at 0 ps
  waits-more ps qs h = waits-append 0 ps qs ∙ ap (λ xs. waits_at 0 ps ++ xs) (none-at (0 + length ps) qs h) ∙ append-nil (waits_at 0 ps)

  -- ---- events behind all others

  -- some pieces whose events these are
  pub stands-events : (bs : List Bracket) (rs : List Run) (os : List ℕ) (ps : List Piece) (left : List Run) (z : SoFar) (q : Piece) (qs : List Piece) (xs : List Event)
      → Stands es bs rs os ps left z → NoneWait (q ∷ qs) → Writes es (q ∷ qs) xs → AllByRecursion (Fits (length es)) (q ∷ qs)
      → Stands es bs rs os (ps ++ q ∷ qs) left (record z { behind = z.behind ++ events xs ∷ [] })
  stands-events bs rs os ps left z q qs xs h none is fit =
      let reads : Reads es (events xs ∷ []) (q ∷ qs) = (q, qs, [], sym (append-nil (q ∷ qs)), none, is, refl) in
      let more = laid-more es z.waiting z.behind (events xs ∷ []) bs rs ps (q ∷ qs) h.laid reads in
      record {
        laid = subst (λ ys. Laid es z.waiting (z.behind ++ events xs ∷ []) bs ys (ps ++ q ∷ qs)) (append-nil rs) more;
        owners = h.owners ∙ sym (waits-more ps (q ∷ qs) none);
        left = h.left;
        apart = h.apart;
        room = h.room;
        fit = every-append (Fits (length es)) ps (q ∷ qs) h.fit fit;
      }

  -- one piece that is written so
  pub stands-piece : (bs : List Bracket) (rs : List Run) (os : List ℕ) (ps : List Piece) (left : List Run) (z : SoFar) (q : Piece) (xs : List Event)
      → Stands es bs rs os ps left z → is_waiting q.fate ≡ false → ((before : List Event) → put es before q ≡ xs) → Fits (length es) q
      → Stands es bs rs os (ps ++ q ∷ []) left (record z { behind = z.behind ++ events xs ∷ [] })
  stands-piece bs rs os ps left z q xs h none is fit = stands-events bs rs os ps left z q [] xs h (none, tt) (λ before. append-nil (put es before q) ∙ is before) (fit, tt)

  -- ---- a run

  pub stands-run : (bs : List Bracket) (rs : List Run) (os : List ℕ) (ps : List Piece) (r : Run) (left : List Run) (z : SoFar) (q : Piece)
      → Stands es bs rs os ps (r ∷ left) z → is_waiting q.fate ≡ true → Fits (length es) q
      → Stands es bs (rs ++ r ∷ []) (os ++ length ps ∷ []) (ps ++ q ∷ []) left (record z { behind = z.behind ++ run r ∷ []; runs = left })
  stands-run bs rs os ps r left z q h waits fit =
      let reads : Reads es (run r ∷ []) (q ∷ []) = (q, [], refl, waits, refl) in
      let at : waits_at (0 + length ps) (q ∷ []) ≡ length ps ∷ [] =
      ap (λ n. waits_at n (q ∷ [])) (let same : 0 + length ps ≡ length ps = omega arith in same) ∙ ap (λ t. cond t (length ps ∷ []) []) waits in
      record {
        laid = laid-more es z.waiting z.behind (run r ∷ []) bs rs ps (q ∷ []) h.laid reads;
        owners = ap (λ xs. xs ++ length ps ∷ []) h.owners ∙ ap (λ xs. waits_at 0 ps ++ xs) (sym at) ∙ sym (waits-append 0 ps (q ∷ []));
        left = refl;
        apart = subst AreAscending (sym (append_assoc rs (r ∷ []) left)) h.apart;
        room = subst (λ xs. AllHaveRoom (map standing xs)) (sym (append_assoc rs (r ∷ []) left)) h.room;
        fit = every-append (Fits (length es)) ps (q ∷ []) h.fit (fit, tt);
      }

  -- ---- brackets

  pub stands-opened : (bs : List Bracket) (rs : List Run) (os : List ℕ) (ps : List Piece) (left : List Run) (z : SoFar) (q : Piece) (span : List Event)
      → Stands es bs rs os ps left z → q.fate ≡ AsData → span_of es q ≡ span → 0 < length span → Fits (length es) q
      → Stands es (bs ++ bracket_at (length ps) (length rs) (is_named LabelImage span) ∷ []) rs os (ps ++ q ∷ []) left (opened span z)
  stands-opened bs rs os ps left z q span h fate is some fit = record {
    laid = (
      record {
        lower_brackets = bs;
        lower_runs = rs;
        lower = ps;
        piece = q;
        upper = [];
        brackets = refl;
        runs = sym (append-nil rs);
        pieces = refl;
        fate = fate;
        span = is;
        some = some;
        reads = refl;
      },
      h.laid,
    );
    owners = h.owners ∙ sym (waits-more ps (q ∷ []) (ap is_waiting fate, tt));
    left = h.left;
    apart = h.apart;
    room = h.room;
    fit = every-append (Fits (length es)) ps (q ∷ []) h.fit (fit, tt);
  }

  -- a `]` that makes nothing: the last bracket is taken away
  stands-taken : (bs : List Bracket) (rs : List Run) (os : List ℕ) (ps : List Piece) (left : List Run) (z : SoFar) (q : Piece) (span : List Event) (ws : List Waiting)
      → ws ≡ z.waiting → Stands es bs rs os ps left z → q.fate ≡ AsData → span_of es q ≡ span → Fits (length es) q
      → Stands es (take (length bs - 1) bs) rs os (ps ++ q ∷ []) left (failed span ws z)
  stands-taken bs rs os ps left z q span [] e h fate is fit =
      let none : bs ≡ [] = (subst (λ ws. Laid es ws z.behind bs rs ps) (sym e) h.laid).0 in
      let is_data = λ (before : List Event). (let one : put es before q ≡ as_data span = ap (λ t. in_fate before t (span_of es q)) fate ∙ ap as_data is in one) in
      let all = stands-piece bs rs os ps left z q (as_data span) h (ap is_waiting fate) is_data fit in
      subst (λ xs. Stands es xs rs os (ps ++ q ∷ []) left (record z { behind = z.behind ++ events (as_data span) ∷ [] })) (none ∙ ap (λ xs. take (length xs - 1) xs) (sym none)) all
  stands-taken bs rs os ps left z q span (w ∷ ws) e h fate is fit =
      let laid = subst (λ ws. Laid es ws z.behind bs rs ps) (sym e) h.laid in
      let f = laid.0 in
      let b = bracket_at (length f.lower) (length f.lower_runs) (is_named LabelImage w.opener) in
      let parts = w.before ++ events (as_data w.opener) ∷ z.behind in
      let joined : Stands es f.lower_brackets rs os ps left (record z { waiting = ws; behind = parts }) =
      record { laid = laid-joined es w ws z.behind bs rs ps laid; owners = h.owners; left = h.left; apart = h.apart; room = h.room; fit = h.fit } in
      let is_data = λ (before : List Event). (let one : put es before q ≡ as_data span = ap (λ t. in_fate before t (span_of es q)) fate ∙ ap as_data is in one) in
      let all = stands-piece f.lower_brackets rs os ps left (record z { waiting = ws; behind = parts }) q (as_data span) joined (ap is_waiting fate) is_data fit in
      let fewer : length bs - 1 ≡ length f.lower_brackets = (let l = ap length f.brackets ∙ length-append f.lower_brackets (b ∷ []) in omega (arith, l)) in
      let lower : f.lower_brackets ≡ take (length bs - 1) bs =
      sym (take-append_seam f.lower_brackets (b ∷ [])) ∙ ap (take (length f.lower_brackets)) (sym f.brackets) ∙ ap (λ n. take n bs) (sym fewer) in
      subst (λ xs. Stands es xs rs os (ps ++ q ∷ []) left (failed span (w ∷ ws) z)) lower
      (subst (λ ys. Stands es f.lower_brackets rs os (ps ++ q ∷ []) left (record z { waiting = ws; behind = ys })) (append_assoc w.before (events (as_data w.opener) ∷ z.behind) (events (as_data span) ∷ [])) all)

  pub stands-failed : (bs : List Bracket) (rs : List Run) (os : List ℕ) (ps : List Piece) (left : List Run) (z : SoFar) (q : Piece) (span : List Event)
      → Stands es bs rs os ps left z → q.fate ≡ AsData → span_of es q ≡ span → Fits (length es) q
      → Stands es (take (length bs - 1) bs) rs os (ps ++ q ∷ []) left (failed span z.waiting z)
  stands-failed bs rs os ps left z q span h fate is fit = stands-taken bs rs os ps left z q span z.waiting refl h fate is fit

snoc-same : {A : Type 0} (xs ys : List A) (x y : A) → xs ++ x ∷ [] ≡ ys ++ y ∷ [] → (xs ≡ ys) × (x ≡ y)
snoc-same [] [] x y e = (refl, cc)
snoc-same [] (b ∷ ys) x y e = absurd (let l = ap length e in let m = length-append ys (y ∷ []) in omega (arith, l, m))
snoc-same (a ∷ xs) [] x y e = absurd (let l = ap length e in let m = length-append xs (x ∷ []) in omega (arith, l, m))
snoc-same (a ∷ xs) (b ∷ ys) x y e =
    let first : a ≡ b = cc in
    let others : xs ++ x ∷ [] ≡ ys ++ y ∷ [] = cc in
    let more = snoc-same xs ys x y others in
    (ap (λ z. z ∷ xs) first ∙ ap (λ zs. b ∷ zs) more.0, more.1)

-- ---- a bracket that makes a link or an image

pub empty-between : (n : ℕ) (es : List Event) → between n n es ≡ []
empty-between n es = ap (λ k. take k (drop n es)) (let none : n - n ≡ 0 = omega arith in none)

long-between : (n m : ℕ) (es : List Event) → n ≤ m → m ≤ length es → length (between n m es) ≡ m - n
long-between n m es a b = let l = length-drop n es in length-take-le (m - n) (drop n es) (omega (arith, l, a, b))

filled-more : (xs : List Event) → 0 < length xs → is_last xs ≡ false
filled-more [] h = absurd (omega (arith, h))
filled-more (x ∷ xs) h = refl

module _ (es : List Event) (image : Bool) (end tail : ℕ) (order : end ≤ tail) (within : tail ≤ length es) where
  abbrev tails : List Piece
  tails = cond (nat_lt end tail) (piece_at end tail (Tail image) ∷ []) []

  record AreTails (ts : List Piece) : Type 0 where
    none : NoneWait ts
    is : Writes es ts (tail_events image (between end tail es))
    fit : AllByRecursion (Fits (length es)) ts

  are-tails : AreTails tails × ((end == tail) ≡ is_last (between end tail es))
  are-tails =
      elim (cases_Bool (nat_lt end tail)) [
        | inl h ↦
            let less : end < tail = grind (arith, h) in
            let other : (end == tail) ≡ false = grind (arith, nat_tests, less) in
            let long = long-between end tail es order within in (
              subst (λ t. AreTails (cond t (piece_at end tail (Tail image) ∷ []) [])) (sym h)
                  (record { none = (refl, tt); is = λ before. append-nil (tail_events image (between end tail es)); fit = ((order, within, tt), tt) }),
              other ∙ sym (filled-more (between end tail es) (omega (arith, long, less))),
            )
        | inr h ↦
            let same : end ≡ tail = grind (arith, h, order) in
            let this : (end == tail) ≡ true = grind (arith, nat_tests, same) in
            let nothing : between end tail es ≡ [] = ap (λ n. between end n es) (sym same) ∙ empty-between end es in (
              subst (λ t. AreTails (cond t (piece_at end tail (Tail image) ∷ []) [])) (sym h) (record { none = tt; is = λ before. ap (tail_events image) (sym nothing); fit = tt }),
              this ∙ ap is_last (sym nothing),
            )
      ]

-- the end of a label that no bracket waits for
alone-by : (es : List Event) (bs : List Bracket) (rs : List Run) (os : List ℕ) (ps : List Piece) (rest : List Run) (z : SoFar) (ws : List Waiting) (start end tail : ℕ)
    → ws ≡ z.waiting → Stands es bs rs os ps rest z → bs ≡ [] → start < end → end ≤ tail → tail ≤ length es
    → Stands es bs rs os ((ps ++ piece_at start end Same ∷ []) ++ cond (nat_lt end tail) (piece_at end tail Same ∷ []) []) rest (ended (between start end es) (between end tail es) ws z)
alone-by es bs rs os ps rest z [] start end tail waits h none some order within =
    let close = piece_at start end Same in
    elim (cases_Bool (nat_lt end tail)) [
      | inl t ↦
          let one = piece_at end tail Same in
          let all = stands-events es bs rs os ps rest z close (one ∷ []) (between start end es ++ between end tail es) h (refl, (refl, tt))
          (λ before. ap (λ xs. between start end es ++ xs) (append-nil (between end tail es))) ((omega (arith, some), omega (arith, order, within), tt), ((order, within, tt), tt)) in
          subst (λ c. Stands es bs rs os ((ps ++ close ∷ []) ++ cond c (one ∷ []) []) rest (ended (between start end es) (between end tail es) [] z)) (sym t)
          (subst (λ qs. Stands es bs rs os qs rest (ended (between start end es) (between end tail es) [] z)) (sym (append_assoc ps (close ∷ []) (one ∷ []))) all)
      | inr t ↦
          let same : end ≡ tail = grind (arith, t, order) in
          let nothing : between end tail es ≡ [] = ap (λ n. between end n es) (sym same) ∙ empty-between end es in
          let all = stands-events es bs rs os ps rest z close [] (between start end es ++ between end tail es) h (refl, tt)
          (λ before. ap (λ xs. between start end es ++ xs) (sym nothing)) ((omega (arith, some), omega (arith, order, within), tt), tt) in
          subst (λ c. Stands es bs rs os ((ps ++ close ∷ []) ++ cond c (piece_at end tail Same ∷ []) []) rest (ended (between start end es) (between end tail es) [] z)) (sym t)
          (subst (λ qs. Stands es bs rs os qs rest (ended (between start end es) (between end tail es) [] z)) (sym (append-nil (ps ++ close ∷ []))) all)
    ]
alone-by es bs rs os ps rest z (w ∷ ws) start end tail waits h none some order within =
    let f = (subst (λ vs. Laid es vs z.behind bs rs ps) (sym waits) h.laid).0 in
    let b = bracket_at (length f.lower) (length f.lower_runs) (is_named LabelImage w.opener) in
    absurd (let l = ap length (sym none ∙ f.brackets) in let m = length-append f.lower_brackets (b ∷ []) in omega (arith, l, m))

pub stands-alone : (es : List Event) (bs : List Bracket) (rs : List Run) (os : List ℕ) (ps : List Piece) (rest : List Run) (z : SoFar) (start end tail : ℕ)
    → Stands es bs rs os ps rest z → bs ≡ [] → start < end → end ≤ tail → tail ≤ length es
    → Stands es bs rs os ((ps ++ piece_at start end Same ∷ []) ++ cond (nat_lt end tail) (piece_at end tail Same ∷ []) []) rest (ended (between start end es) (between end tail es) z.waiting z)
stands-alone es bs rs os ps rest z start end tail h none some order within = alone-by es bs rs os ps rest z z.waiting start end tail refl h none some order within

-- a text is behind a bracket, if a piece is
filled-same : (es : List Event) (lower : List Piece) (p : Piece) (upper : List Piece) (behind : List Part) → Reads es behind upper
    → nat_lt 1 (length (lower ++ p ∷ upper) - length lower) ≡ is_filled behind
filled-same es lower p upper behind h =
    let long = length-append lower (p ∷ upper) in
    let few : length (lower ++ p ∷ upper) - length lower ≡ suc (length upper) = omega (arith, long) in
    ap (nat_lt 1) few ∙ by behind upper h
  where
    by : (parts : List Part) (ps : List Piece) → Reads es parts ps → nat_lt 1 (suc (length ps)) ≡ is_filled parts
    by [] ps k = ap (λ qs. nat_lt 1 (suc (length qs))) k
    by (run r ∷ parts) ps k = ap (λ qs. nat_lt 1 (suc (length qs))) k.2 ∙ grind arith
    by (events xs ∷ parts) ps k = ap (λ qs. nat_lt 1 (suc (length qs))) k.3 ∙ grind arith

regroup : (lower : List Piece) (p : Piece) (upper : List Piece) (e : Piece) (ts : List Piece) → ((lower ++ p ∷ upper) ++ e ∷ []) ++ ts ≡ lower ++ p ∷ (upper ++ e ∷ ts)
regroup lower p upper e ts = simp append_assoc

module _ (es : List Event) (bs : List Bracket) (rs : List Run) (os : List ℕ) (ps : List Piece) (rest : List Run) (z : SoFar) (h : Stands es bs rs os ps rest z)
    (w : Waiting) (ws : List Waiting) (waits : w ∷ ws ≡ z.waiting) (ds : List Delimiters) (start end tail : ℕ) (some : start < end) (order : end ≤ tail) (within : tail ≤ length es) where
  abbrev laid : Laid es (w ∷ ws) z.behind bs rs ps
  laid = subst (λ vs. Laid es vs z.behind bs rs ps) (sym waits) h.laid

  abbrev f : IsFrame es w z.behind bs rs ps
  f = laid.0

  abbrev image : Bool
  image = is_named LabelImage w.opener

  abbrev b : Bracket
  b = bracket_at (length f.lower) (length f.lower_runs) image

  abbrev runs_in_it : List Run
  runs_in_it = runs_of_parts z.behind

  drop-runs : drop b.runs rs ≡ runs_in_it
  drop-runs = ap (drop b.runs) f.runs ∙ drop-append_seam f.lower_runs runs_in_it

  take-runs : take b.runs rs ≡ f.lower_runs
  take-runs = ap (take b.runs) f.runs ∙ take-append_seam f.lower_runs runs_in_it

  many-lower : length (waits_at 0 f.lower) ≡ b.runs
  many-lower = laid-count es ws w.before f.lower_brackets f.lower_runs f.lower laid.1

  owners-are : os ≡ waits_at 0 f.lower ++ waits_at (length f.lower) (f.piece ∷ f.upper)
  owners-are =
      h.owners ∙ ap (waits_at 0) f.pieces ∙ waits-append 0 f.lower (f.piece ∷ f.upper)
      ∙ ap (λ n. waits_at 0 f.lower ++ waits_at n (f.piece ∷ f.upper)) (let same : 0 + length f.lower ≡ length f.lower = omega arith in same)

  drop-owners : drop b.runs os ≡ waits_at (length f.lower) (f.piece ∷ f.upper)
  drop-owners =
      ap (drop b.runs) owners-are ∙ ap (λ n. drop n (waits_at 0 f.lower ++ waits_at (length f.lower) (f.piece ∷ f.upper))) (sym many-lower)
      ∙ drop-append_seam (waits_at 0 f.lower) (waits_at (length f.lower) (f.piece ∷ f.upper))

  take-owners : take b.runs os ≡ waits_at 0 f.lower
  take-owners =
      ap (take b.runs) owners-are ∙ ap (λ n. take n (waits_at 0 f.lower ++ waits_at (length f.lower) (f.piece ∷ f.upper))) (sym many-lower)
      ∙ take-append_seam (waits_at 0 f.lower) (waits_at (length f.lower) (f.piece ∷ f.upper))

  abbrev whole_filled : Bool
  whole_filled = nat_lt 1 (length ps - b.piece)

  is-filled : whole_filled ≡ is_filled z.behind
  is-filled = ap (λ qs. nat_lt 1 (length qs - b.piece)) f.pieces ∙ filled-same es f.lower f.piece f.upper z.behind f.reads

  abbrev opener : Piece
  opener = record f.piece { fate = Opens image whole_filled }

  abbrev inside : List Piece
  inside = filled f.upper ds

  abbrev before : List Piece
  before = with_fate b.piece (Opens image whole_filled) (placed_at ps (drop b.runs os) ds)

  before-is : before ≡ f.lower ++ opener ∷ inside
  before-is =
      let none : NoneWait (f.piece ∷ []) = (ap is_waiting f.fate, tt) in
      ap (λ qs. with_fate b.piece (Opens image whole_filled) (placed_at qs (drop b.runs os) ds)) f.pieces
      ∙ ap (λ ns. with_fate b.piece (Opens image whole_filled) (placed_at (f.lower ++ f.piece ∷ f.upper) ns ds)) drop-owners
      ∙ ap (with_fate b.piece (Opens image whole_filled)) (placed-are (f.piece ∷ f.upper) f.lower ds ∙ ap (λ qs. f.lower ++ qs) (filled-front (f.piece ∷ []) f.upper ds none))
      ∙ with-fate-at f.lower f.piece inside (Opens image whole_filled)

  abbrev close : Piece
  close = piece_at start end (Ends image whole_filled (end == tail))

  abbrev new_pieces : List Piece
  new_pieces = (before ++ close ∷ []) ++ tails es image end tail order within

  new-are : new_pieces ≡ f.lower ++ opener ∷ (inside ++ close ∷ tails es image end tail order within)
  new-are = ap (λ qs. (qs ++ close ∷ []) ++ tails es image end tail order within) before-is ∙ regroup f.lower opener inside close (tails es image end tail order within)

  module _ (pairs : map as_run ds ≡ paired (drop b.runs rs)) where
    pairs-are : map as_run ds ≡ paired runs_in_it
    pairs-are = pairs ∙ ap paired drop-runs

    long-placed : length ds ≡ length runs_in_it
    long-placed =
        sym (length-map ds as_run) ∙ ap length pairs-are ∙ sym (length-map (paired runs_in_it) standing) ∙ ap length (pairs-keep runs_in_it) ∙ length-map runs_in_it standing

    apart-all : AreAscending ((f.lower_runs ++ runs_in_it) ++ rest)
    apart-all = subst (λ xs. AreAscending (xs ++ rest)) f.runs h.apart

    room-all : AllHaveRoom (map standing ((f.lower_runs ++ runs_in_it) ++ rest))
    room-all = subst (λ xs. AllHaveRoom (map standing (xs ++ rest))) f.runs h.room

    inside-is : NoneWait inside × Writes es inside (emphasised_parts z.behind)
    inside-is = filled-is es z.behind f.upper ds f.reads (ascending-behind f.lower_runs runs_in_it (ascending-front (f.lower_runs ++ runs_in_it) rest apart-all)) pairs-are long-placed

    fit-all : AllByRecursion (Fits (length es)) (f.lower ++ f.piece ∷ f.upper)
    fit-all = subst (AllByRecursion (Fits (length es))) f.pieces h.fit

    room-placed : AllHaveRoom (map standing (map as_run ds))
    room-placed =
        subst AllHaveRoom (sym (ap (map standing) pairs-are ∙ pairs-keep runs_in_it))
        (room-behind f.lower_runs runs_in_it (room-front (f.lower_runs ++ runs_in_it) rest room-all))

    abbrev span : List Event
    span = between start end es

    abbrev behind_it : List Event
    behind_it = between end tail es

    abbrev link : List Event
    link = made w.opener z.behind span behind_it

    written-is : Writes es (opener ∷ (inside ++ close ∷ tails es image end tail order within)) link
    written-is before =
        let ts = tails es image end tail order within in
        let tailed = are-tails es image end tail order within in
        let long = long-between start end es (omega (arith, some)) (omega (arith, order, within)) in
        let first = put es before opener in
        let text = emphasised_parts z.behind in
        let closes = λ (xs : List Event) (filled last : Bool). closing_events ((before ++ xs) ++ text) image filled last span in
        ap (λ xs. first ++ xs) (written-append es (before ++ first) inside (close ∷ ts))
        ∙ ap (λ xs. first ++ (xs ++ written_from es ((before ++ first) ++ xs) (close ∷ ts))) (inside-is.1 (before ++ first))
        ∙ ap (λ xs. first ++ (text ++ (closes first whole_filled (end == tail) ++ xs))) (tailed.0.is (((before ++ first) ++ text) ++ closes first whole_filled (end == tail)))
        ∙ ap (λ s. opening_events image whole_filled s ++ (text ++ (closes (opening_events image whole_filled s) whole_filled (end == tail) ++ tail_events image behind_it))) f.span
        ∙ ap (λ t. opening_events image whole_filled w.opener ++ (text ++ (closes (opening_events image whole_filled w.opener) whole_filled t ++ tail_events image behind_it))) tailed.1
        ∙ ap (λ t. opening_events image t w.opener ++ (text ++ (closes (opening_events image t w.opener) t (is_last behind_it) ++ tail_events image behind_it))) is-filled
        ∙ sym (made-is w.opener span behind_it before z.behind f.some (omega (arith, long, some)))

    made-stands : Stands es f.lower_brackets (take b.runs rs) (take b.runs os) new_pieces rest (record z { waiting = ws; behind = w.before ++ events link ∷ [] })
    made-stands =
        let ts = tails es image end tail order within in
        let tailed = are-tails es image end tail order within in
        let y : SoFar = record z { waiting = ws; behind = w.before } in
        let base : Stands es f.lower_brackets f.lower_runs (waits_at 0 f.lower) f.lower rest y =
        record {
          laid = laid.1;
          owners = refl;
          left = h.left;
          apart = ascending-apart f.lower_runs runs_in_it rest apart-all;
          room = room-apart f.lower_runs runs_in_it rest room-all;
          fit = all-front (Fits (length es)) f.lower (f.piece ∷ f.upper) fit-all;
        } in
        let upper = all-back (Fits (length es)) f.lower (f.piece ∷ f.upper) fit-all in
        let none : NoneWait (opener ∷ (inside ++ close ∷ ts)) = (refl, every-append (λ p. is_waiting p.fate ≡ false) inside (close ∷ ts) inside-is.0 (refl, tailed.0.none)) in
        let fit : AllByRecursion (Fits (length es)) (opener ∷ (inside ++ close ∷ ts)) = (
          (upper.0.0, upper.0.1, tt),
          every-append (Fits (length es)) inside (close ∷ ts) (filled-fit (length es) f.upper ds upper.1 room-placed) ((omega (arith, some), omega (arith, order, within), tt), tailed.0.fit),
        ) in
        let all = stands-events es f.lower_brackets f.lower_runs (waits_at 0 f.lower) f.lower rest y opener (inside ++ close ∷ ts) link base none written-is fit in
        stands-by es f.lower_brackets f.lower_brackets f.lower_runs (take b.runs rs) (waits_at 0 f.lower) (take b.runs os) (f.lower ++ opener ∷ (inside ++ close ∷ ts)) new_pieces rest rest
        (record z { waiting = ws; behind = w.before ++ events link ∷ [] }) refl take-runs take-owners new-are refl all

-- A bracket that was taken from those that wait makes a link or an image
pub stands-made : (es : List Event) (bs : List Bracket) (rs : List Run) (os : List ℕ) (ps : List Piece) (rest : List Run) (z : SoFar) (h : Stands es bs rs os ps rest z)
    (w : Waiting) (ws : List Waiting) (waits : w ∷ ws ≡ z.waiting) (ds : List Delimiters) (start end tail : ℕ) (some : start < end) (order : end ≤ tail) (within : tail ≤ length es)
    (lower : List Bracket) (b : Bracket) → bs ≡ lower ++ b ∷ [] → map as_run ds ≡ paired (drop b.runs rs)
    → let filled = nat_lt 1 (length ps - b.piece) in
    let before = with_fate b.piece (Opens b.image filled) (placed_at ps (drop b.runs os) ds) in
    Stands es lower (take b.runs rs) (take b.runs os)
    ((before ++ piece_at start end (Ends b.image filled (end == tail)) ∷ []) ++ cond (nat_lt end tail) (piece_at end tail (Tail b.image) ∷ []) [])
    rest (record z { waiting = ws; behind = w.before ++ events (made w.opener z.behind (between start end es) (between end tail es)) ∷ [] })
stands-made es bs rs os ps rest z h w ws waits ds start end tail some order within lower b last pairs =
    let fr = (subst (λ vs. Laid es vs z.behind bs rs ps) (sym waits) h.laid).0 in
    let b' = bracket_at (length fr.lower) (length fr.lower_runs) (is_named LabelImage w.opener) in
    let same = snoc-same fr.lower_brackets lower b' b (sym fr.brackets ∙ last) in
    let z' : SoFar = record z { waiting = ws; behind = w.before ++ events (made w.opener z.behind (between start end es) (between end tail es)) ∷ [] } in
    subst (λ (x : Bracket).
    let filled = nat_lt 1 (length ps - x.piece) in
    let before = with_fate x.piece (Opens x.image filled) (placed_at ps (drop x.runs os) ds) in
    Stands es lower (take x.runs rs) (take x.runs os)
    ((before ++ piece_at start end (Ends x.image filled (end == tail)) ∷ []) ++ cond (nat_lt end tail) (piece_at end tail (Tail x.image) ∷ []) []) rest z') same.1
    (subst (λ xs. Stands es xs (take b'.runs rs) (take b'.runs os) (new_pieces es bs rs os ps rest z h w ws waits ds start end tail some order within) rest z') same.0
    (made-stands es bs rs os ps rest z h w ws waits ds start end tail some order within (pairs ∙ ap (λ (x : Bracket). paired (drop x.runs rs)) (sym same.1))))
