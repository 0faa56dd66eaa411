-- What lines are, byte by byte.
use Rattle.mdblock_leaf_blocks.proofs.Prelude.{◌≡◌, ℕ, suc, ◌+◌, ◌==◌, ◌&&◌, ◌||◌, not, nat_le, List, [], ◌∷◌, Bool, true, false, take, drop, length, filter, refl, ap, ◌∙◌, arith, cond, list_all, is_white, is_blank_line, run}
use Rattle.mdblock_leaf_blocks.proofs.Looks.HeadingTexts.{goes, stops}

-- behind so many marks the rest of a line makes a thematic break
abbrev pub breaks_on : (mark marks : ℕ) → List ℕ → Bool
breaks_on mark marks bs = list_all (λ b. (b == mark) || is_white b) bs && nat_le 3 (marks + length (filter (λ b. b == mark) bs))

-- behind marks it makes an underline
abbrev pub underlines_on : (mark : ℕ) → List ℕ → Bool
underlines_on mark bs = is_blank_line (drop (run mark bs) bs)

-- behind so many marks it makes a fence
abbrev pub fences_on : (mark marks : ℕ) → List ℕ → Bool
fences_on mark marks bs = nat_le 3 (marks + run mark bs) && ((mark == 126) || list_all (λ b. not (b == 96)) (drop (run mark bs) bs))

-- behind so many number signs it makes a heading
abbrev pub heads_on : (signs : ℕ) → List ℕ → Bool
heads_on signs bs = nat_le (signs + run 35 bs) 6 && is_blank_line (take 1 (drop (run 35 bs) bs))

-- counting goes on
later : (m n : ℕ) → m + suc n ≡ suc m + n
later m n = omega arith

none-more : (n : ℕ) → n + 0 ≡ n
none-more n = omega arith

pub break-ends : (mark marks : ℕ) → breaks_on mark marks [] ≡ nat_le 3 marks
break-ends mark marks = ap (nat_le 3) (none-more marks)

pub break-mark : (mark marks b : ℕ) (bs : List ℕ) → (b == mark) ≡ true → breaks_on mark marks (b ∷ bs) ≡ breaks_on mark (suc marks) bs
break-mark mark marks b bs e = rw (e, later marks (length (filter (λ b. b == mark) bs))) refl

pub break-white : (mark marks b : ℕ) (bs : List ℕ) → (b == mark) ≡ false → is_white b ≡ true → breaks_on mark marks (b ∷ bs) ≡ breaks_on mark marks bs
break-white mark marks b bs e w = rw (e, w) refl

pub break-fails : (mark marks b : ℕ) (bs : List ℕ) → (b == mark) ≡ false → is_white b ≡ false → breaks_on mark marks (b ∷ bs) ≡ false
break-fails mark marks b bs e w = rw (e, w) refl

-- marks come first
pub run-grows : (mark b : ℕ) (bs : List ℕ) → run mark (b ∷ bs) ≡ cond (b == mark) (suc (run mark bs)) 0
run-grows mark b bs = let e : 1 + run mark bs ≡ suc (run mark bs) = omega arith in ap (λ n. cond (b == mark) n 0) e

pub run-on : (mark b : ℕ) (bs : List ℕ) → (b == mark) ≡ true → run mark (b ∷ bs) ≡ suc (run mark bs)
run-on mark b bs e = run-grows mark b bs ∙ ap (λ t. cond t (suc (run mark bs)) 0) e

pub run-ends : (mark b : ℕ) (bs : List ℕ) → (b == mark) ≡ false → run mark (b ∷ bs) ≡ 0
run-ends mark b bs e = run-grows mark b bs ∙ ap (λ t. cond t (suc (run mark bs)) 0) e

pub underline-mark : (mark b : ℕ) (bs : List ℕ) → (b == mark) ≡ true → underlines_on mark (b ∷ bs) ≡ underlines_on mark bs
underline-mark mark b bs e = ap is_blank_line (goes (λ c. c == mark) b bs e)

pub underline-other : (mark b : ℕ) (bs : List ℕ) → (b == mark) ≡ false → underlines_on mark (b ∷ bs) ≡ is_blank_line (b ∷ bs)
underline-other mark b bs e = ap is_blank_line (stops (λ c. c == mark) b bs e)

pub fence-mark : (mark marks b : ℕ) (bs : List ℕ) → (b == mark) ≡ true → fences_on mark marks (b ∷ bs) ≡ fences_on mark (suc marks) bs
fence-mark mark marks b bs e =
    ap (λ n. nat_le 3 (marks + n) && ((mark == 126) || list_all (λ b. not (b == 96)) (drop n (b ∷ bs)))) (run-on mark b bs e)
    ∙ ap (λ n. nat_le 3 n && ((mark == 126) || list_all (λ b. not (b == 96)) (drop (run mark bs) bs))) (later marks (run mark bs))

pub fence-other : (mark marks b : ℕ) (bs : List ℕ) → (b == mark) ≡ false → fences_on mark marks (b ∷ bs) ≡ (nat_le 3 marks && ((mark == 126) || list_all (λ b. not (b == 96)) (b ∷ bs)))
fence-other mark marks b bs e =
    ap (λ n. nat_le 3 (marks + n) && ((mark == 126) || list_all (λ b. not (b == 96)) (drop n (b ∷ bs)))) (run-ends mark b bs e)
    ∙ ap (λ n. nat_le 3 n && ((mark == 126) || list_all (λ b. not (b == 96)) (b ∷ bs))) (none-more marks)

pub heading-sign : (signs b : ℕ) (bs : List ℕ) → (b == 35) ≡ true → heads_on signs (b ∷ bs) ≡ heads_on (suc signs) bs
heading-sign signs b bs e =
    ap (λ n. nat_le (signs + n) 6 && is_blank_line (take 1 (drop n (b ∷ bs)))) (run-on 35 b bs e)
    ∙ ap (λ n. nat_le n 6 && is_blank_line (take 1 (drop (run 35 bs) bs))) (later signs (run 35 bs))

pub heading-other : (signs b : ℕ) (bs : List ℕ) → (b == 35) ≡ false → heads_on signs (b ∷ bs) ≡ (nat_le signs 6 && is_blank_line (take 1 (b ∷ bs)))
heading-other signs b bs e =
    ap (λ n. nat_le (signs + n) 6 && is_blank_line (take 1 (drop n (b ∷ bs)))) (run-ends 35 b bs e)
    ∙ ap (λ n. nat_le n 6 && is_blank_line (take 1 (b ∷ bs))) (none-more signs)
