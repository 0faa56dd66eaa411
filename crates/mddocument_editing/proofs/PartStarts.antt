-- Where lines start in a document of two parts, if a line starts with the second.
use Rattle.mddocument_editing.proofs.Prelude.{◌≡◌, ℕ, zero, suc, ◌+◌, ◌-◌, ◌<◌, Bool, true, false, cond, List, [], ◌∷◌, ◌++◌, length, drop, refl, sym, ap, ◌∙◌, subst, arith, Some, drop-append-add, drop-append-le, get_or-append-add, get_or-drop, get_or-map, get_or_append_left, get_or_past, length-append, length-drop, length-map, length_push, map-append, take_while-cons, slice_get, slice_index, take_while, ends_line, is_line_start, StartsLine, endings, is_in_line, line_of, starts_up_to, text_at, map}
use Rattle.std.proofs.lemmas.List.{append_assoc}
use Rattle.mddocument_editing.specs.Positions.{start_of}
use Rattle.mddocument_editing.proofs.LinesBack.{start-at}
use Rattle.mddocument_editing.proofs.StartsUpTo.{more, starts-more, starts-some}

-- a byte ends a line by itself and the next one
ends-by : (xs ys : List ℕ) (i j : ℕ) → slice_index xs i ≡ slice_index ys j → slice_index xs (suc i) ≡ slice_index ys (suc j) → ends_line xs i ≡ ends_line ys j
ends-by xs ys i j here next = grind arith

-- the last byte of a line ending ends a line also where nothing follows
ends-last : (xs ys : List ℕ) (i : ℕ) → slice_index xs i ≡ slice_index ys i → slice_index xs (suc i) ≡ 0 → ends_line ys i ≡ true → ends_line xs i ≡ true
ends-last xs ys i here none h = grind arith

-- and is no part of the line
ends-out : (xs : List ℕ) (i : ℕ) → ends_line xs i ≡ true → is_in_line (slice_index xs i) ≡ false
ends-out xs i h = grind arith

-- behind a byte that is no part of a line, the line's text does not change
take-front : (xs ys : List ℕ) (k : ℕ) → k < length xs → is_in_line (slice_index xs k) ≡ false → take_while is_in_line (xs ++ ys) ≡ take_while is_in_line xs
take-front [] ys k lt out = absurd (omega arith)
take-front (x ∷ xs) ys zero lt out =
    take_while-cons is_in_line x (xs ++ ys) ∙ ap (λ b. cond b (x ∷ take_while is_in_line (xs ++ ys)) []) out
    ∙ sym (take_while-cons is_in_line x xs ∙ ap (λ b. cond b (x ∷ take_while is_in_line xs) []) out)
take-front (x ∷ xs) ys (suc k) lt out =
    take_while-cons is_in_line x (xs ++ ys) ∙ ap (λ zs. cond (is_in_line x) (x ∷ zs) []) (take-front xs ys k (omega arith) out) ∙ sym (take_while-cons is_in_line x xs)

map-cond : (f : ℕ → ℕ) (b : Bool) (x : ℕ) → map f (cond b (x ∷ []) []) ≡ cond b (f x ∷ []) []
map-cond f true x = refl
map-cond f false x = refl

-- where lines start in front of the second part; with it one more does
pub record Before (front part : List ℕ) : Type 0 where
  pub before : List ℕ
  pub in_all : starts_up_to (front ++ part) (length front) ≡ before ++ length front ∷ []
  pub in_front : starts_up_to front (length front) ≡ before ++ length front ∷ []
  pub within : (line start : ℕ) → slice_get before line ≡ Some start → start < length front

module _ (front part : List ℕ) where
  -- ---- in the second part
  ends-behind : (k : ℕ) → ends_line (front ++ part) (length front + k) ≡ ends_line part k
  ends-behind k =
      let e : suc (length front + k) ≡ length front + suc k = omega arith in
      ends-by (front ++ part) part (length front + k) k (get_or-append-add front part k 0) (ap (slice_index (front ++ part)) e ∙ get_or-append-add front part (suc k) 0)

  pub text-behind : (start : ℕ) → text_at (front ++ part) (length front + start) ≡ text_at part start
  text-behind start = ap (take_while is_in_line) (drop-append-add front part start)

  -- ---- in the first part
  ends-in : (k : ℕ) → suc k < length front → ends_line front k ≡ ends_line (front ++ part) k
  ends-in k lt = ends-by front (front ++ part) k k (sym (get_or_append_left front part 0 k (omega arith))) (sym (get_or_append_left front part 0 (suc k) lt))

  pub starts-in : (k : ℕ) → k < length front → starts_up_to front k ≡ starts_up_to (front ++ part) k
  starts-in zero lt = refl
  starts-in (suc k) lt =
      let e : suc k ≡ k + 1 = omega arith in
      ap (starts_up_to front) e ∙ more front k ∙ ap (λ b. starts_up_to front k ++ cond b ((k + 1) ∷ []) []) (ends-in k lt)
      ∙ ap (λ xs. xs ++ cond (ends_line (front ++ part) k) ((k + 1) ∷ []) []) (starts-in k (omega arith)) ∙ sym (more (front ++ part) k) ∙ ap (starts_up_to (front ++ part)) (sym e)

  -- ---- at the seam
  module _ (seam : StartsLine front part) where
    -- the last byte of the first part ends a line
    ends-first : (k : ℕ) → length front ≡ suc k → ends_line (front ++ part) k ≡ true
    ends-first k long = subst (λ n. is_line_start (front ++ part) n ≡ true) long seam

    ends-front : (k : ℕ) → length front ≡ suc k → ends_line front k ≡ true
    ends-front k long =
        let here : slice_index front k ≡ slice_index (front ++ part) k = sym (get_or_append_left front part 0 k (omega arith)) in
        ends-last front (front ++ part) k here (get_or_past front (suc k) 0 (omega arith)) (ends-first k long)

    from-size : (n : ℕ) → length front ≡ n → Before front part
    from-size zero long = record {
      before = [];
      in_all = ap (starts_up_to (front ++ part)) long ∙ ap (λ n. n ∷ []) (sym long);
      in_front = ap (starts_up_to front) long ∙ ap (λ n. n ∷ []) (sym long);
      within = λ line start h. absurd (cc);
    }
    from-size (suc k) long =
        let ends = ends-first k long in
        let last : length front ≡ k + 1 = omega arith in
        record {
          before = starts_up_to (front ++ part) k;
          in_all = ap (starts_up_to (front ++ part)) last ∙ starts-more (front ++ part) k ends ∙ ap (λ n. starts_up_to (front ++ part) k ++ n ∷ []) (sym last);
          in_front = ap (starts_up_to front) last ∙ starts-more front k (ends-front k long) ∙ ap (λ xs. xs ++ (k + 1) ∷ []) (starts-in k (omega arith)) ∙ ap (λ n. starts_up_to (front ++ part) k ++ n ∷ []) (sym last);
          within = λ line start h. (let at = start-at (front ++ part) k line start h in omega (arith, at.0));
        }

    pub seam-is : Before front part
    seam-is = from-size (length front) refl

    -- a line that starts in the first part has its text there
    pub text-in : (start : ℕ) → start < length front → text_at (front ++ part) start ≡ text_at front start
    text-in start lt =
        let k = length front - 1 in
        let long : length front ≡ suc k = omega arith in
        let last : start + (k - start) ≡ k = omega arith in
        let out : is_in_line (slice_index (drop start front) (k - start)) ≡ false =
        ap is_in_line (get_or-drop start front (k - start) 0 ∙ ap (slice_index front) last) ∙ ends-out front k (ends-front k long)
        in
        ap (take_while is_in_line) (drop-append-le start front part (omega arith)) ∙ take-front (drop start front) part (k - start) (omega (arith, length-drop start front)) out

  module _ (b : Before front part) where
    pub endings-are : endings front ≡ length b.before
    endings-are = omega (arith, ap length b.in_front, length_push b.before (length front))

    pub starts-behind : (o : ℕ) → starts_up_to (front ++ part) (length front + o) ≡ b.before ++ map (λ n. length front + n) (starts_up_to part o)
    starts-behind zero =
        let e : length front + 0 ≡ length front = omega arith in
        ap (starts_up_to (front ++ part)) e ∙ b.in_all ∙ ap (λ n. b.before ++ n ∷ []) (sym e)
    starts-behind (suc o) =
        let m = length front in
        let f : ℕ → ℕ = λ n. m + n in
        let e : m + suc o ≡ m + o + 1 = omega arith in
        let g : o + 1 ≡ suc o = omega arith in
        let h : m + o + 1 ≡ m + (o + 1) = omega arith in
        let ends = ends_line part o in
        ap (starts_up_to (front ++ part)) e ∙ more (front ++ part) (m + o)
        ∙ ap (λ x. starts_up_to (front ++ part) (m + o) ++ cond x ((m + o + 1) ∷ []) []) (ends-behind o)
        ∙ ap (λ xs. xs ++ cond ends ((m + o + 1) ∷ []) []) (starts-behind o)
        ∙ append_assoc b.before (map f (starts_up_to part o)) (cond ends ((m + o + 1) ∷ []) [])
        ∙ ap (λ n. b.before ++ (map f (starts_up_to part o) ++ cond ends (n ∷ []) [])) h
        ∙ ap (λ xs. b.before ++ (map f (starts_up_to part o) ++ xs)) (sym (map-cond f ends (o + 1)))
        ∙ ap (λ xs. b.before ++ xs) (sym (map-append f (starts_up_to part o) (cond ends ((o + 1) ∷ []) [])) ∙ ap (map f) (sym (more part o) ∙ ap (starts_up_to part) g))

    pub line-behind : (o : ℕ) → line_of (front ++ part) (length front + o) ≡ endings front + line_of part o
    line-behind o =
        let ys = starts_up_to part o in
        omega (arith, endings-are, ap length (starts-behind o), length-append b.before (map (λ n. length front + n) ys), length-map ys (λ n. length front + n), (starts-some part o).0)

    pub start-behind : (o : ℕ) → start_of (front ++ part) (length front + o) ≡ length front + start_of part o
    start-behind o =
        let ys = starts_up_to part o in
        let f : ℕ → ℕ = λ n. length front + n in
        let n = line_of part o in
        let few : n < length ys = omega (arith, (starts-some part o).0) in
        ap (slice_index (starts_up_to (front ++ part) (length front + o))) (line-behind o)
        ∙ ap (λ k. slice_index (starts_up_to (front ++ part) (length front + o)) (k + n)) endings-are
        ∙ ap (λ xs. slice_index xs (length b.before + n)) (starts-behind o)
        ∙ get_or-append-add b.before (map f ys) n 0
        ∙ get_or-map f ys n 0 0 few
