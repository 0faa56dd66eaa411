-- Edits whose additions are parts of one list.
use Rattle.markdown_edits.proofs.Prelude.{All-append, ◌≡◌, ℕ, zero, suc, ◌+◌, ◌-◌, ◌<◌, List, [], ◌∷◌, ◌++◌, length, map, take, drop, Some, refl, ◌∙◌, ap, arith, length-append, length-drop, All, AllByRecursion, between, slice_get, drop-append-add, map-append, drop-append-le, take-append-le, take_all, All-head, All-tail, All-map, same_Some, Event, Edit, edit_at, part_edit, pooled, IsPart, moved_by, IsAscending, Entry}

module _ (xs ys : List Event) where
  between-behind : (s t : ℕ) → between (s + length xs) (t + length xs) (xs ++ ys) ≡ between s t ys
  between-behind s t =
      let a : t + length xs - (s + length xs) ≡ t - s = omega arith in
      let b : s + length xs ≡ length xs + s = omega arith in
      ap (λ n. take n (drop (s + length xs) (xs ++ ys))) a ∙ ap (λ n. take (t - s) (drop n (xs ++ ys))) b ∙ ap (take (t - s)) (drop-append-add xs ys s)

  -- the parts are the same in a longer list
  pub pooled-more : (es : List Entry) → All (IsPart (length xs)) es → pooled (xs ++ ys) es ≡ pooled xs es
  pooled-more [] h = refl
  pooled-more (e ∷ es) h =
      let p = All-head (IsPart (length xs)) e es h in
      let part = ap (take (e.end - e.start)) (drop-append-le e.start xs ys (omega (arith, p.0, p.1)))
      ∙ take-append-le (e.end - e.start) (drop e.start xs) ys (omega (arith, length-drop e.start xs, p.1)) in
      ap (λ zs. edit_at e.index e.remove zs ∷ pooled (xs ++ ys) es) part
      ∙ ap (λ ds. part_edit xs e ∷ ds) (pooled-more es (All-tail (IsPart (length xs)) e es h))

  -- a second list's parts are further on in both together
  pooled-behind : (es : List Entry) → pooled (xs ++ ys) (map (moved_by (length xs)) es) ≡ pooled ys es
  pooled-behind [] = refl
  pooled-behind (e ∷ es) =
      ap (λ zs. edit_at e.index e.remove zs ∷ pooled (xs ++ ys) (map (moved_by (length xs)) es)) (between-behind e.start e.end) ∙ ap (λ ds. part_edit ys e ∷ ds) (pooled-behind es)

  -- an edit more, whose additions are put behind the others
  pub pooled-push : (es : List Entry) (e : Entry) → All (IsPart (length xs)) es → e.start ≡ length xs → e.end ≡ length xs + length ys
      → pooled (xs ++ ys) (es ++ e ∷ []) ≡ pooled xs es ++ edit_at e.index e.remove ys ∷ []
  pooled-push es e h s t =
      let a : e.start ≡ length xs + 0 = omega (arith, s) in
      let b : e.end - e.start ≡ length ys = omega (arith, s, t) in
      let part : between e.start e.end (xs ++ ys) ≡ ys =
      ap (λ n. take n (drop e.start (xs ++ ys))) b ∙ ap (λ n. take (length ys) (drop n (xs ++ ys))) a ∙ ap (take (length ys)) (drop-append-add xs ys 0) ∙ take_all (length ys) ys (omega arith) in
      map-append (part_edit (xs ++ ys)) es (e ∷ [])
      ∙ ap (λ ds. ds ++ part_edit (xs ++ ys) e ∷ []) (pooled-more es h)
      ∙ ap (λ zs. pooled xs es ++ edit_at e.index e.remove zs ∷ []) part

-- the entries of two pools together, whose additions are in one list
module _ (xs ys zs : List Event) (es fs more all : List Entry) (n : ℕ) (additions : zs ≡ xs ++ ys) (entries : all ≡ es ++ map (moved_by n) more) (same : more ≡ fs) (shift : n ≡ length xs)
    (inside : All (IsPart (length xs)) es) where
  pub parts-both : All (IsPart (length ys)) fs → All (IsPart (length zs)) all
  parts-both behind =
      rw (additions, entries, same, shift)
      (All-append (IsPart (length (xs ++ ys))) es (map (moved_by (length xs)) fs)
      (λ k d l. let p = inside k d l in (p.0, (omega (arith, length-append xs ys, p.1))))
      (All-map (IsPart (length (xs ++ ys))) (moved_by (length xs)) fs (λ k d l. let p = behind k d l in ((omega (arith, p.0)), (omega (arith, length-append xs ys, p.1))))))

  pub pooled-both : pooled zs all ≡ pooled xs es ++ pooled ys fs
  pooled-both = rw (additions, entries, same, shift, map-append (part_edit (xs ++ ys)) es (map (moved_by (length xs)) fs), pooled-more xs ys es inside, pooled-behind xs ys fs) refl

-- if the last of ascending edits is before an index, all are
pub all-before : (xs : List Event) (es : List Entry) (k : ℕ) (e : Entry) (n : ℕ) → suc k ≡ length es → Some e ≡ slice_get es k → IsAscending (pooled xs es) → e.index < n → AllByRecursion (λ (d : Edit). d.index < n) (pooled xs es)
all-before xs [] k e n q g a l = tt
all-before xs (f ∷ []) zero e n q g a l = let same : e ≡ f = same_Some e f g in ((omega (arith, ap (λ (x : Entry). x.index) same)), tt)
all-before xs (f ∷ []) (suc k) e n q g a l = absurd (omega (arith, q))
all-before xs (f ∷ d ∷ es) zero e n q g a l = absurd (omega (arith, q))
all-before xs (f ∷ d ∷ es) (suc k) e n q g a l = grind (arith, a.0.0, all-before xs (d ∷ es) k e n (omega (arith, q)) g a.1 l)
