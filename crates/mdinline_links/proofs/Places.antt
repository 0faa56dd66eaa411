-- Fates of pieces, one by one.
use Rattle.std.proofs.Common.{◌≡◌, ◌-◌, ◌<◌, ◌≤◌, ◌∙◌, ℕ, zero, suc, List, [], ◌∷◌, ◌++◌, ap, append-nil, arith, drop, get_or, length, length-append, map, refl, set, subst, sym, take}
use Rattle.std.proofs.Math.Seq.{take-append_seam}
use Rattle.std.specs.Prelude.{reverse}
use Rattle.std.proofs.lemmas.List.{drop-append-le, drop-map, drop_all, length-drop, length-map, length-take-le, map-append, take-append-drop, take-map, take_all}
use Rattle.mdinline_emphasis.proofs.PairsKeep.{pairs-keep}
use Rattle.mdinline_emphasis.specs.Emphasis.{paired}
use Rattle.mdinline_emphasis.specs.Places.{standing}
use Rattle.mdinline_emphasis.specs.Searches.{as_run}
use Rattle.mdinline_emphasis.specs.declared.pairs.Delimiters.{Delimiters}
use Rattle.mdinline_links.specs.declared.pieces.Fate.{Fate}
use Rattle.mdinline_links.specs.declared.pieces.Fate.TheVariants.{Paired}
use Rattle.mdinline_links.specs.declared.pieces.Piece.{Piece}
use Rattle.mdinline_links.specs.Laid.{placed_at, with_fate}

pub fate-set : (ps : List Piece) (i : ℕ) (q : Piece) (f : Fate) → i < length ps → q ≡ get_or ps i q → set ps i (record { start = q.start; end = q.end; fate = f }) ≡ with_fate i f ps
fate-set [] i q f h is = absurd (omega (arith, h))
fate-set (p ∷ ps) zero q f h is = ap (λ (x : Piece). record { start = x.start; end = x.end; fate = f } ∷ ps) is
fate-set (p ∷ ps) (suc i) q f h is = ap (λ xs. p ∷ xs) (fate-set ps i q f (omega (arith, h)) is)

pub fate-past : (ps : List Piece) (i : ℕ) (f : Fate) → length ps ≤ i → ps ≡ with_fate i f ps
fate-past [] i f h = refl
fate-past (p ∷ ps) zero f h = absurd (omega (arith, h))
fate-past (p ∷ ps) (suc i) f h = ap (λ xs. p ∷ xs) (fate-past ps i f (omega (arith, h)))

placed-last : (ps : List Piece) (os : List ℕ) (o : ℕ) (ds : List Delimiters) (d : Delimiters) → length os ≡ length ds
    → placed_at ps (os ++ o ∷ []) (ds ++ d ∷ []) ≡ placed_at (with_fate o (Paired d) ps) os ds
placed-last ps [] o [] d h = refl
placed-last ps [] o (x ∷ ds) d h = absurd (omega (arith, h))
placed-last ps (n ∷ os) o [] d h = absurd (omega (arith, h))
placed-last ps (n ∷ os) o (x ∷ ds) d h = ap (with_fate n (Paired x)) (placed-last ps os o ds d (omega (arith, h)))

-- the last run is put into its piece
pub placed-less : (ps : List Piece) (from : ℕ) (os : List ℕ) (o : ℕ) (ds : List Delimiters) (d : Delimiters) → length os ≡ length ds → from ≤ length ds
    → placed_at ps (drop from (os ++ o ∷ [])) (drop from (ds ++ d ∷ [])) ≡ placed_at (with_fate o (Paired d) ps) (drop from os) (drop from ds)
placed-less ps from os o ds d same low =
    ap (λ ns. placed_at ps ns (drop from (ds ++ d ∷ []))) (drop-append-le from os (o ∷ []) (omega (arith, same, low)))
    ∙ ap (λ xs. placed_at ps (drop from os ++ o ∷ []) xs) (drop-append-le from ds (d ∷ []) low)
    ∙ placed-last ps (drop from os) o (drop from ds) d (drops from os ds same)
  where
    drops : (n : ℕ) (xs : List ℕ) (ys : List Delimiters) → length xs ≡ length ys → length (drop n xs) ≡ length (drop n ys)
    drops n xs ys h = let a = length-drop n xs in let b = length-drop n ys in omega (arith, a, b, h)

-- ---- the runs from an index on, with their pairs

behind-front : {A : Type 0} (n : ℕ) (xs ys : List A) → length ys ≡ length (drop n xs) → drop n (take n xs ++ ys) ≡ ys
behind-front zero xs ys h = refl
behind-front (suc n) [] [] h = refl
behind-front (suc n) [] (y ∷ ys) h = absurd (omega (arith, h))
behind-front (suc n) (x ∷ xs) ys h = behind-front n xs ys h

front-again : {A : Type 0} (n : ℕ) (xs ys : List A) → length ys ≡ length (drop n xs) → take n (take n xs ++ ys) ≡ take n xs
front-again zero xs ys h = refl
front-again (suc n) [] [] h = refl
front-again (suc n) [] (y ∷ ys) h = absurd (omega (arith, h))
front-again (suc n) (x ∷ xs) ys h = ap (λ zs. x ∷ zs) (front-again n xs ys h)

module _ (old new : List Delimiters) (n : ℕ) (h : map as_run new ≡ take n (map as_run old) ++ paired (drop n (map as_run old))) where
  many : length (paired (drop n (map as_run old))) ≡ length (drop n (map as_run old))
  many = sym (length-map (paired (drop n (map as_run old))) standing) ∙ ap length (pairs-keep (drop n (map as_run old))) ∙ length-map (drop n (map as_run old)) standing

  pub placed-pairs : map as_run (drop n new) ≡ paired (drop n (map as_run old))
  placed-pairs = sym (drop-map as_run n new) ∙ ap (drop n) h ∙ behind-front n (map as_run old) (paired (drop n (map as_run old))) many

  pub placed-front : map as_run (take n new) ≡ take n (map as_run old)
  placed-front = sym (take-map as_run n new) ∙ ap (take n) h ∙ front-again n (map as_run old) (paired (drop n (map as_run old))) many

  -- as many as before
  pub paired-many : length new ≡ length old
  paired-many =
      let a = length-append (take n (map as_run old)) (paired (drop n (map as_run old))) in
      let b = ap length (take-append-drop n (map as_run old)) in
      let c = length-append (take n (map as_run old)) (drop n (map as_run old)) in
      let e = ap length h in
      let f = length-map new as_run in
      let g = length-map old as_run in
      let m = many in
      omega (arith, a, b, c, e, f, g, m)

-- runs that were turned round where they lie
pub turned-back : (xs ys new : List Delimiters) (len : ℕ) → ys ≡ xs → len ≡ length xs → new ≡ reverse ys → length new ≡ length ys → take len (new ++ drop (length new) xs) ≡ reverse xs
turned-back xs ys new len was long is many =
    ap (λ n. take n (new ++ drop (length new) xs)) (long ∙ ap length (sym was) ∙ sym many) ∙ take-append_seam new (drop (length new) xs) ∙ is ∙ ap reverse was

-- the pairs of the runs from an index on, made where they lie
pub put-back : (xs ys new : List Delimiters) (n len : ℕ) → ys ≡ xs → len ≡ length xs → n ≤ length xs → map as_run new ≡ paired (map as_run (take (length ys - n) (drop n ys)))
    → let all = take n ys ++ (new ++ drop (length ys - n) (drop n ys)) in
    map as_run (take len (all ++ drop (length all) xs)) ≡ take n (map as_run xs) ++ paired (drop n (map as_run xs))
put-back xs ys new n len was long inside pairs =
    subst (λ zs. let all = take n zs ++ (new ++ drop (length zs - n) (drop n zs)) in map as_run (take len (all ++ drop (length all) xs)) ≡ take n (map as_run xs) ++ paired (drop n (map as_run xs))) (sym was)
    (same (subst (λ zs. map as_run new ≡ paired (map as_run (take (length zs - n) (drop n zs)))) was pairs))
  where
    same : map as_run new ≡ paired (map as_run (take (length xs - n) (drop n xs)))
        → let all = take n xs ++ (new ++ drop (length xs - n) (drop n xs)) in
        map as_run (take len (all ++ drop (length all) xs)) ≡ take n (map as_run xs) ++ paired (drop n (map as_run xs))
    same h =
        let k = length xs - n in
        let all = take n xs ++ (new ++ drop k (drop n xs)) in
        let left = length-drop n xs in
        let mid : take k (drop n xs) ≡ drop n xs = take_all k (drop n xs) (omega (arith, left)) in
        let none : drop k (drop n xs) ≡ [] = drop_all k (drop n xs) (omega (arith, left)) in
        let made : map as_run new ≡ paired (map as_run (drop n xs)) = h ∙ ap (λ zs. paired (map as_run zs)) mid in
        let short : all ≡ take n xs ++ new = ap (λ zs. take n xs ++ (new ++ zs)) none ∙ ap (λ zs. take n xs ++ zs) (append-nil new) in
        let a = length-append (take n xs) new in
        let b = length-take-le n xs inside in
        let c = sym (length-map new as_run) ∙ ap length made ∙ sym (length-map (paired (map as_run (drop n xs))) standing) ∙ ap length (pairs-keep (map as_run (drop n xs))) ∙ length-map (map as_run (drop n xs)) standing ∙ length-map (drop n xs) as_run in
        let e = ap length short in
        let many : len ≡ length all = omega (arith, a, b, c, e, long, left, inside) in
        ap (map as_run) (ap (λ m. take m (all ++ drop (length all) xs)) many ∙ take-append_seam all (drop (length all) xs) ∙ short)
        ∙ map-append as_run (take n xs) new
        ∙ ap (λ zs. zs ++ map as_run new) (sym (take-map as_run n xs))
        ∙ ap (λ zs. take n (map as_run xs) ++ zs) (made ∙ ap paired (sym (drop-map as_run n xs)))
