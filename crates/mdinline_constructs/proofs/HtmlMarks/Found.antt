-- Raw HTML between marks is what there is from place to place.
use Rattle.markdown_base.proofs.Facts.Bools.{cond-same}
use Rattle.mdinline_constructs.proofs.HtmlMarks.Marks.{comment-left, mark-left, one-before}
use Rattle.mdinline_constructs.proofs.HtmlMarks.Places.{at_cdata, at_comment, at_declaration, at_open, inside-left, mark_next, of_cdata, of_comment, of_declaration, of_instruction, opens}
use Rattle.mdinline_constructs.proofs.HtmlTexts.Walks.{goes, moved, one_further, refused, run}
use Rattle.mdinline_constructs.proofs.Prelude.{and_before, starts_with, either_there, marked, through, has_byte_at, more_than, size_b_grows, size_b_is, Bool, List, None, Option, Some, [], ap, arith, cond, drop, false, refl, suc, sym, true, ℕ, ◌&&◌, ◌+◌, ◌==◌, ◌∙◌, ◌∷◌, ◌≡◌, eqb-true, nat_tests, is_ascii_alphabetic, codes}

no-other : (o : Option ℕ) → either_there o None ≡ o
no-other None = refl
no-other (Some n) = refl

one-more : (n : ℕ) (o : Option ℕ) → and_before (suc n) o ≡ one_further (and_before n o)
one-more n None = refl
one-more n (Some k) = let same : suc n + k ≡ suc (n + k) = omega arith in ap Some same

no-more : (o : Option ℕ) → and_before 0 o ≡ o
no-more None = refl
no-more (Some k) = let same : 0 + k ≡ k = omega arith in ap Some same

-- so many bytes behind each other
two-more : (o : Option ℕ) → and_before 2 o ≡ one_further (one_further o)
two-more o = one-more 1 o ∙ ap one_further (one-more 0 o ∙ ap one_further (no-more o))

-- a byte of an opening mark
step-mark : (c : ℕ) (ms : List ℕ) (n : ℕ) (rest : List ℕ → Option ℕ) (b : ℕ) (bs : List ℕ) (f : Option ℕ) → f ≡ cond (starts_with ms bs) (and_before n (rest (drop n bs))) None
    → cond (b == c) (one_further f) None ≡ cond ((b == c) && starts_with ms bs) (and_before (suc n) (rest (drop n bs))) None
step-mark c ms n rest b bs f is =
    elim (b == c) as (λ t. cond t (one_further f) None ≡ cond (t && starts_with ms bs) (and_before (suc n) (rest (drop n bs))) None) [
      | true ↦
          ap one_further is
          ∙ elim (starts_with ms bs) as (λ t. one_further (cond t (and_before n (rest (drop n bs))) None) ≡ cond t (and_before (suc n) (rest (drop n bs))) None) [
            | true ↦ sym (one-more n (rest (drop n bs)))
            | false ↦ refl
          ]
      | false ↦ refl
    ]

abbrev cdata_rest : List ℕ → Option ℕ
cdata_rest text = through (codes "]]>") text

-- from a place in `CDATA[` on
cdata-move : (n c : ℕ) (b : ℕ) (bs : List ℕ) → (n == 5) ≡ false → has_byte_at (codes "CDATA") n (λ x. b == x) ≡ (b == c)
    → run mark_next (b ∷ bs) (at_cdata n) ≡ cond (b == c) (one_further (run mark_next bs (at_cdata (more_than n)))) None
cdata-move n c b bs early is =
    (λ i. moved (run mark_next bs) (cond (is i) (goes (Some size_b_grows) (at_cdata (more_than n))) (cond (early i && (b == 91)) (opens of_cdata 0) refused)))
    ∙ elim (b == c) as (λ t. moved (run mark_next bs) (cond t (goes (Some size_b_grows) (at_cdata (more_than n))) refused) ≡ cond t (one_further (run mark_next bs (at_cdata (more_than n)))) None) [ true ↦ refl | false ↦ refl ]

cdata-5 : (text : List ℕ) → run mark_next text (at_cdata 5) ≡ cond (starts_with (codes "[") text) (and_before 1 (cdata_rest (drop 1 text))) None
cdata-5 [] = refl
cdata-5 (b ∷ bs) =
    elim (b == 91) as (λ t. moved (run mark_next bs) (cond t (opens of_cdata 0) refused) ≡ cond (t && true) (and_before 1 (cdata_rest bs)) None) [
      | true ↦ ap one_further (inside-left of_cdata bs 0 ∙ sym (mark-left 93 refl refl 2 bs 0)) ∙ sym (one-before (cdata_rest bs))
      | false ↦ refl
    ]

cdata-4 : (text : List ℕ) → run mark_next text (at_cdata 4) ≡ cond (starts_with (codes "A[") text) (and_before 2 (cdata_rest (drop 2 text))) None
cdata-4 [] = refl
cdata-4 (b ∷ bs) = cdata-move 4 65 b bs refl refl ∙ step-mark 65 (codes "[") 1 cdata_rest b bs (run mark_next bs (at_cdata 5)) (cdata-5 bs)

cdata-3 : (text : List ℕ) → run mark_next text (at_cdata 3) ≡ cond (starts_with (codes "TA[") text) (and_before 3 (cdata_rest (drop 3 text))) None
cdata-3 [] = refl
cdata-3 (b ∷ bs) = cdata-move 3 84 b bs refl refl ∙ step-mark 84 (codes "A[") 2 cdata_rest b bs (run mark_next bs (at_cdata 4)) (cdata-4 bs)

cdata-2 : (text : List ℕ) → run mark_next text (at_cdata 2) ≡ cond (starts_with (codes "ATA[") text) (and_before 4 (cdata_rest (drop 4 text))) None
cdata-2 [] = refl
cdata-2 (b ∷ bs) = cdata-move 2 65 b bs refl refl ∙ step-mark 65 (codes "TA[") 3 cdata_rest b bs (run mark_next bs (at_cdata 3)) (cdata-3 bs)

cdata-1 : (text : List ℕ) → run mark_next text (at_cdata 1) ≡ cond (starts_with (codes "DATA[") text) (and_before 5 (cdata_rest (drop 5 text))) None
cdata-1 [] = refl
cdata-1 (b ∷ bs) = cdata-move 1 68 b bs refl refl ∙ step-mark 68 (codes "ATA[") 4 cdata_rest b bs (run mark_next bs (at_cdata 2)) (cdata-2 bs)

cdata-0 : (text : List ℕ) → run mark_next text (at_cdata 0) ≡ cond (starts_with (codes "CDATA[") text) (and_before 6 (cdata_rest (drop 6 text))) None
cdata-0 [] = refl
cdata-0 (b ∷ bs) = cdata-move 0 67 b bs refl refl ∙ step-mark 67 (codes "DATA[") 5 cdata_rest b bs (run mark_next bs (at_cdata 1)) (cdata-1 bs)

-- three bytes more of CDATA
three-more : (t : Bool) (o : Option ℕ) → one_further (one_further (one_further (cond t (and_before 6 o) None))) ≡ cond t (and_before 9 o) None
three-more true o = ap (λ x. one_further (one_further x)) (sym (one-more 6 o)) ∙ ap one_further (sym (one-more 7 o)) ∙ sym (one-more 8 o)
three-more false o = refl

-- four of a comment
four-more : (p q : Bool) (o : Option ℕ) → one_further (one_further (one_further (one_further (cond p (Some 1) (cond q (Some 2) o))))) ≡ cond p (Some 5) (cond q (Some 6) (and_before 4 o))
four-more true q o = refl
four-more false true o = refl
four-more false false o = sym (one-more 3 o ∙ ap one_further (one-more 2 o ∙ ap one_further (two-more o)))

-- behind `<!-`
comment-there : (text : List ℕ) → one_further (one_further (one_further (run mark_next text at_comment)))
    ≡ cond (starts_with (codes "->") text) (Some 5) (cond (starts_with (codes "-->") text) (Some 6) (cond (starts_with (codes "-") text) (and_before 4 (through (codes "-->") (drop 1 text))) None))
comment-there [] = refl
comment-there (b ∷ bs) =
    elim (b == 45) as (λ t. one_further (one_further (one_further (moved (run mark_next bs) (cond t (opens of_comment 2) refused))))
    ≡ cond (t && starts_with (codes ">") bs) (Some 5) (cond (t && starts_with (codes "->") bs) (Some 6) (cond (t && true) (and_before 4 (through (codes "-->") bs)) None))) [
      | true ↦
          ap (λ o. one_further (one_further (one_further (one_further o)))) (inside-left of_comment bs 2 ∙ comment-left bs)
          ∙ four-more (starts_with (codes ">") bs) (starts_with (codes "->") bs) (through (codes "-->") bs)
      | false ↦ refl
    ]

-- what is there behind `<!`, by the tests of its first byte: it is a letter, `-`, or `[`
abbrev behind_declaration : (letter dash bracket : Bool) → ℕ → List ℕ → Option ℕ
behind_declaration letter dash bracket b bs =
    either_there (cond (dash && starts_with (codes "->") bs) (Some 5) (cond (dash && starts_with (codes "-->") bs) (Some 6) (cond (dash && starts_with (codes "-") bs) (and_before 4 (through (codes "-->") (drop 1 bs))) None)))
    (either_there None (either_there (cond letter (and_before 2 (through (codes ">") (b ∷ bs))) None) (cond (bracket && starts_with (codes "CDATA[") bs) (and_before 9 (cdata_rest (drop 6 bs))) None)))

declaration-there : (b : ℕ) (bs : List ℕ) → one_further (one_further (run mark_next (b ∷ bs) at_declaration)) ≡ behind_declaration (is_ascii_alphabetic b) (b == 45) (b == 91) b bs
declaration-there b bs =
    let read = λ (letter dash bracket : Bool).
    one_further (one_further (moved (run mark_next bs) (cond letter (opens of_declaration 0) (cond dash (goes None at_comment) (cond bracket (goes (Some (size_b_is 0)) (at_cdata 0)) refused))))) in
    elim (is_ascii_alphabetic b) as (λ t. is_ascii_alphabetic b ≡ t → read t (b == 45) (b == 91) ≡ behind_declaration t (b == 45) (b == 91) b bs) [
      | true ↦ λ letter.
          let dash : (b == 45) ≡ false = grind (arith, nat_tests) in
          let bracket : (b == 91) ≡ false = grind (arith, nat_tests) in
          let last : (b == 62) ≡ false = grind (arith, nat_tests) in
          ap (λ o. one_further (one_further (one_further o))) (inside-left of_declaration bs 0 ∙ sym (mark-left 0 refl refl 0 bs 0))
          ∙ ap (λ o. one_further (one_further o)) (sym (ap (λ t. cond (t && true) (Some 1) (and_before 1 (through (codes ">") bs))) last ∙ one-before (through (codes ">") bs)))
          ∙ sym (two-more (through (codes ">") (b ∷ bs)))
          ∙ sym (no-other (and_before 2 (through (codes ">") (b ∷ bs))))
          ∙ (λ i. behind_declaration true (sym dash i) (sym bracket i) b bs)
      | false ↦ λ letter. elim (b == 45) as (λ t. (b == 45) ≡ t → read false t (b == 91) ≡ behind_declaration false t (b == 91) b bs) [
        | true ↦ λ dash.
            let bracket : (b == 91) ≡ false = grind (arith, nat_tests) in
            comment-there bs ∙ sym (no-other (cond (starts_with (codes "->") bs) (Some 5) (cond (starts_with (codes "-->") bs) (Some 6) (cond (starts_with (codes "-") bs) (and_before 4 (through (codes "-->") (drop 1 bs))) None))))
            ∙ (λ i. behind_declaration false true (sym bracket i) b bs)
        | false ↦ λ dash. elim (b == 91) as (λ t. read false false t ≡ behind_declaration false false t b bs) [
          | true ↦ ap (λ o. one_further (one_further (one_further o))) (cdata-0 bs) ∙ three-more (starts_with (codes "CDATA[") bs) (cdata_rest (drop 6 bs))
          | false ↦ refl
        ]
      ] refl
    ] refl

bang-there : (bs : List ℕ) → marked (60 ∷ 33 ∷ bs) ≡ one_further (one_further (run mark_next bs at_declaration))
bang-there [] = refl
bang-there (b ∷ bs) = sym (declaration-there b bs)

-- no opening mark is there
nothing-marked : (b : ℕ) (bs : List ℕ) → (b == 63) ≡ false → (b == 33) ≡ false → marked (60 ∷ b ∷ bs) ≡ None
nothing-marked b bs is mark =
    let T = λ (n : ℕ) (c : List ℕ). and_before n (through c (drop n (60 ∷ b ∷ bs))) in
    (λ i. either_there (cond (mark i && starts_with (codes "-->") bs) (Some 5) (cond (mark i && starts_with (codes "--->") bs) (Some 6) (cond (mark i && starts_with (codes "--") bs) (T 4 (codes "-->")) None)))
    (either_there (cond (is i && true) (T 2 (codes "?>")) None)
    (either_there (cond (has_byte_at (60 ∷ b ∷ bs) 2 is_ascii_alphabetic) (cond (mark i && true) (T 2 (codes ">")) None) None) (cond (mark i && starts_with (codes "[CDATA[") bs) (T 9 (codes "]]>")) None))))
    ∙ ap (λ o. either_there o None) (cond-same (has_byte_at (60 ∷ b ∷ bs) 2 is_ascii_alphabetic) None)

-- behind `<`
open-there : (bs : List ℕ) → marked (60 ∷ bs) ≡ one_further (run mark_next bs at_open)
open-there [] = refl
open-there (b ∷ bs) =
    elim (b == 63) as (λ t. (b == 63) ≡ t → marked (60 ∷ b ∷ bs) ≡ one_further (moved (run mark_next bs) (cond t (opens of_instruction 0) (cond (b == 33) (goes None at_declaration) refused)))) [
      | true ↦ λ is.
          ap (λ x. marked (60 ∷ x ∷ bs)) (eqb-true b 63 is)
          ∙ ap (λ o. either_there (and_before 2 (through (codes "?>") bs)) (either_there o None)) (cond-same (has_byte_at (60 ∷ 63 ∷ bs) 2 is_ascii_alphabetic) None)
          ∙ no-other (and_before 2 (through (codes "?>") bs))
          ∙ two-more (through (codes "?>") bs)
          ∙ ap (λ o. one_further (one_further o)) (mark-left 63 refl refl 1 bs 0 ∙ sym (inside-left of_instruction bs 0))
      | false ↦ λ is. elim (b == 33) as (λ t. (b == 33) ≡ t → marked (60 ∷ b ∷ bs) ≡ one_further (moved (run mark_next bs) (cond t (goes None at_declaration) refused))) [
        | true ↦ λ mark. ap (λ x. marked (60 ∷ x ∷ bs)) (eqb-true b 33 mark) ∙ bang-there bs
        | false ↦ λ mark. nothing-marked b bs is mark
      ] refl
    ] refl

pub marked-is : (b : ℕ) (bs : List ℕ) → (b == 60) ≡ true → marked (b ∷ bs) ≡ one_further (run mark_next bs at_open)
marked-is b bs less = ap (λ x. marked (x ∷ bs)) (eqb-true b 60 less) ∙ open-there bs
