-- Where the lines of bytes begin: behind the first line, and nowhere in it.
use Rattle.mddocument_editing.proofs.Prelude.{◌≡◌, ℕ, zero, suc, ◌+◌, ◌<◌, Bool, true, false, cond, List, [], ◌∷◌, length, take, drop, refl, sym, subst, ◌∙◌, arith, eqb-true, ◌==◌, ◌||◌, not, prefix_len, begins_with_lf, ending_size, line_length, begins_line, line_endings, ◌&&◌}
use Rattle.mdblock_lines.specs.Lines.{is_in_line}

-- how long the first line is, by its first byte: it is in the line, or begins the line ending
module _ (x : ℕ) (bs : List ℕ) where
  abbrev size_by : (is_in lf_comes : Bool) → ℕ
  size_by is_in lf_comes = cond is_in (suc (line_length bs)) (cond lf_comes 2 1)

  size-is : line_length (x ∷ bs) ≡ size_by (is_in_line x) ((x == 13) && begins_with_lf bs)
  size-is = by (is_in_line x)
    where
      by : (s : Bool) → cond s (1 + prefix_len is_in_line bs) 0 + ending_size (drop (cond s (1 + prefix_len is_in_line bs) 0) (x ∷ bs)) ≡ cond s (suc (line_length bs)) (cond ((x == 13) && begins_with_lf bs) 2 1)
      by true =
          let n = prefix_len is_in_line bs in
          let on : 1 + n ≡ suc n = omega arith in
          let sum : suc n + ending_size (drop n bs) ≡ suc (n + ending_size (drop n bs)) = omega arith in
          (λ i. on i + ending_size (drop (on i) (x ∷ bs))) ∙ sum
      by false = let none : 0 + cond ((x == 13) && begins_with_lf bs) 2 1 ≡ cond ((x == 13) && begins_with_lf bs) 2 1 = omega arith in none

-- The first line has one line ending, if something comes behind it, and what comes behind it begins a line
pub record Ends (line rest : List ℕ) : Type 0 where
  pub one : line_endings line ≡ 1
  pub begins : begins_line rest line ≡ true

ends-more : (x : ℕ) (rest line : List ℕ) → (x == 10) ≡ false → (x == 13) ≡ false → Ends line rest → Ends (x ∷ line) rest
ends-more x rest [] lf cr e = absurd (let none = e.one in omega (arith, none))
ends-more x rest (y ∷ line) lf cr e = record {
  one = (λ i. cond (lf i) (suc (line_endings (y ∷ line))) (cond (cr i) (cond (y == 10) (line_endings (y ∷ line)) (suc (line_endings (y ∷ line)))) (line_endings (y ∷ line)))) ∙ e.one;
  begins = e.begins;
}

-- CR LF
crlf-ends : (x : ℕ) (bs : List ℕ) → (x == 10) ≡ false → (x == 13) ≡ true → begins_with_lf bs ≡ true → Ends (take 2 (x ∷ bs)) (drop 2 (x ∷ bs))
crlf-ends x [] lf cr e = absurd (cc)
crlf-ends x (y ∷ bs) lf cr e =
    let last : line_endings (y ∷ []) ≡ 1 = (λ i. cond (e i) 1 (cond (y == 13) 1 0)) in
    record {
      one = (λ i. cond (lf i) (suc (line_endings (y ∷ []))) (cond (cr i) (cond (e i) (line_endings (y ∷ [])) (suc (line_endings (y ∷ [])))) (line_endings (y ∷ [])))) ∙ last;
      begins = (λ i. e i || ((y == 13) && not (begins_with_lf bs)));
    }

pub line-ends : (b : List ℕ) → line_length b < length b → Ends (take (line_length b) b) (drop (line_length b) b)
line-ends [] h = absurd (omega arith)
line-ends (x ∷ bs) h = by (x == 10) (x == 13) (begins_with_lf bs) refl refl refl (size-is x bs) (line-ends bs)
  where
    by : (lf cr comes : Bool) → (x == 10) ≡ lf → (x == 13) ≡ cr → begins_with_lf bs ≡ comes → line_length (x ∷ bs) ≡ size_by x bs (not lf && not cr) (cr && comes)
        → (line_length bs < length bs → Ends (take (line_length bs) bs) (drop (line_length bs) bs)) → Ends (take (line_length (x ∷ bs)) (x ∷ bs)) (drop (line_length (x ∷ bs)) (x ∷ bs))
    by true true comes elf ecr el size more = absurd (omega (arith, eqb-true x 10 elf, eqb-true x 13 ecr))
    by true false comes elf ecr el size more = subst (λ n. Ends (take n (x ∷ bs)) (drop n (x ∷ bs))) (sym size) (record { one = (λ i. cond (elf i) 1 (cond (x == 13) 1 0)); begins = (λ i. elf i || ((x == 13) && not (begins_with_lf bs))) })
    by false true true elf ecr el size more = subst (λ n. Ends (take n (x ∷ bs)) (drop n (x ∷ bs))) (sym size) (crlf-ends x bs elf ecr el)
    by false true false elf ecr el size more = subst (λ n. Ends (take n (x ∷ bs)) (drop n (x ∷ bs))) (sym size) (record { one = (λ i. cond (elf i) 1 (cond (ecr i) 1 0)); begins = (λ i. elf i || (ecr i && not (el i))) })
    by false false comes elf ecr el size more = subst (λ n. Ends (take n (x ∷ bs)) (drop n (x ∷ bs))) (sym size) (ends-more x (drop (line_length bs) bs) (take (line_length bs) bs) elf ecr (more (omega (arith, h, size))))

-- in it no line begins
in-line : (x : ℕ) (bs : List ℕ) (k : ℕ) → (x == 10) ≡ false → (x == 13) ≡ false → (0 < k → k < line_length bs → begins_line (drop k bs) (take k bs) ≡ false) → k < line_length bs
    → begins_line (drop k bs) (x ∷ take k bs) ≡ false
in-line x bs zero lf cr more less = (λ i. lf i || (cr i && not (begins_with_lf bs)))
in-line x [] (suc k) lf cr more less = absurd (omega (arith, less))
in-line x (y ∷ bs) (suc k) lf cr more less = more (omega arith) less

in-crlf : (x : ℕ) (bs : List ℕ) (k : ℕ) → (x == 10) ≡ false → (x == 13) ≡ true → begins_with_lf bs ≡ true → k < 1 → begins_line (drop k bs) (x ∷ take k bs) ≡ false
in-crlf x bs zero lf cr e less = (λ i. lf i || (cr i && not (e i)))
in-crlf x bs (suc k) lf cr e less = absurd (omega (arith, less))

pub none-inside : (b : List ℕ) (k : ℕ) → 0 < k → k < line_length b → begins_line (drop k b) (take k b) ≡ false
none-inside b zero some less = absurd (omega (arith, some))
none-inside [] (suc k) some less = absurd (omega (arith, less))
none-inside (x ∷ bs) (suc k) some less = by (x == 10) (x == 13) (begins_with_lf bs) refl refl refl (size-is x bs) (none-inside bs k)
  where
    by : (lf cr comes : Bool) → (x == 10) ≡ lf → (x == 13) ≡ cr → begins_with_lf bs ≡ comes → line_length (x ∷ bs) ≡ size_by x bs (not lf && not cr) (cr && comes)
        → (0 < k → k < line_length bs → begins_line (drop k bs) (take k bs) ≡ false) → begins_line (drop k bs) (x ∷ take k bs) ≡ false
    by true true comes elf ecr el size more = absurd (omega (arith, eqb-true x 10 elf, eqb-true x 13 ecr))
    by true false comes elf ecr el size more = absurd (omega (arith, less, size))
    by false true true elf ecr el size more = in-crlf x bs k elf ecr el (omega (arith, less, size))
    by false true false elf ecr el size more = absurd (omega (arith, less, size))
    by false false comes elf ecr el size more = in-line x bs k elf ecr more (omega (arith, less, size))
