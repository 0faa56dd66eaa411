-- What a line is, by its first byte that is not white space.
use Rattle.mdblock_leaf_blocks.proofs.Prelude.{◌≡◌, ℕ, suc, ◌+◌, ◌==◌, ◌&&◌, ◌||◌, not, nat_le, List, ◌∷◌, true, false, cond, take, drop, length, filter, refl, sym, ap, ◌∙◌, arith, list_all, and-false, or-false, le-leb, Constructs, is_blank_line, is_atx_heading, is_break_of_marks, is_thematic_break, is_underline_of_marks, is_fence_of, run, underline, heading, fence, html, thematic_break, text, html_number}
use Rattle.mdblock_leaf_blocks.proofs.Lines.TestedKinds.{tested_rest}
use Rattle.mdblock_leaf_blocks.proofs.Tags.HtmlNumbers.{number-is}
use Rattle.mdblock_leaf_blocks.proofs.Looks.LineTests.{breaks_on, underlines_on, fences_on, heads_on, underline-mark, run-on}

one-more : (n : ℕ) → 1 + n ≡ suc n
one-more n = omega arith

-- a byte that is no mark begins a line of text
kinds-none : (on : Constructs) (columns : ℕ) (r : List ℕ) → is_atx_heading r ≡ false → is_fence_of 96 r ≡ false → is_fence_of 126 r ≡ false → html_number r ≡ 0
    → is_underline_of_marks 61 r ≡ false → is_underline_of_marks 45 r ≡ false → is_thematic_break r ≡ false → tested_rest on columns r ≡ text
kinds-none on columns r h a t m u v b = rw (h, a, t, m, u, v, b, and-false on.heading_atx, and-false on.code_fenced, and-false on.html_flow, and-false on.heading_setext, and-false on.thematic_break) refl

some-sign : (n : ℕ) → nat_le 1 (suc n) ≡ true
some-sign n = le-leb 1 (suc n) (omega arith)

-- tests at a mark
heading-at : (bs : List ℕ) → is_atx_heading (35 ∷ bs) ≡ heads_on 1 bs
heading-at bs = ap (λ n. nat_le 1 n && (nat_le n 6 && is_blank_line (take 1 (drop n (35 ∷ bs))))) (run-on 35 35 bs refl) ∙ ap (λ t. t && (nat_le (suc (run 35 bs)) 6 && is_blank_line (take 1 (drop (run 35 bs) bs)))) (some-sign (run 35 bs)) ∙ ap (λ n. nat_le n 6 && is_blank_line (take 1 (drop (run 35 bs) bs))) (sym (one-more (run 35 bs)))

fence-at : (mark : ℕ) (bs : List ℕ) → (mark == mark) ≡ true → is_fence_of mark (mark ∷ bs) ≡ fences_on mark 1 bs
fence-at mark bs e =
    ap (λ n. nat_le 3 n && ((mark == 126) || list_all (λ b. not (b == 96)) (drop n (mark ∷ bs)))) (run-on mark mark bs e)
    ∙ ap (λ n. nat_le 3 n && ((mark == 126) || list_all (λ b. not (b == 96)) (drop (run mark bs) bs))) (sym (one-more (run mark bs)))

break-at : (mark : ℕ) (bs : List ℕ) → (mark == mark) ≡ true → is_break_of_marks mark (mark ∷ bs) ≡ breaks_on mark 1 bs
break-at mark bs e = rw (e, one-more (length (filter (λ b. b == mark) bs))) refl

underline-at : (mark : ℕ) (bs : List ℕ) → (mark == mark) ≡ true → is_underline_of_marks mark (mark ∷ bs) ≡ underlines_on mark bs
underline-at mark bs e = ap (λ t. t && is_blank_line (drop (run mark (mark ∷ bs)) (mark ∷ bs))) e ∙ underline-mark mark mark bs e

pub star-breaks : (bs : List ℕ) → is_thematic_break (42 ∷ bs) ≡ breaks_on 42 1 bs
star-breaks bs = or-false (is_break_of_marks 42 (42 ∷ bs)) ∙ break-at 42 bs refl

pub underscore-breaks : (bs : List ℕ) → is_thematic_break (95 ∷ bs) ≡ breaks_on 95 1 bs
underscore-breaks bs = break-at 95 bs refl

pub dash-breaks : (bs : List ℕ) → is_thematic_break (45 ∷ bs) ≡ breaks_on 45 1 bs
dash-breaks bs = or-false (is_break_of_marks 45 (45 ∷ bs)) ∙ break-at 45 bs refl

-- a line by its first byte
module _ (on : Constructs) (columns : ℕ) (bs : List ℕ) where
  pub kind-sign : tested_rest on columns (35 ∷ bs) ≡ cond (on.heading_atx && heads_on 1 bs) heading text
  kind-sign = rw (and-false on.code_fenced, and-false on.html_flow, and-false on.heading_setext, and-false on.thematic_break) (ap (λ t. cond (on.heading_atx && t) heading text) (heading-at bs))

  pub kind-star : tested_rest on columns (42 ∷ bs) ≡ cond (on.thematic_break && breaks_on 42 1 bs) thematic_break text
  kind-star = rw (and-false on.heading_atx, and-false on.code_fenced, and-false on.html_flow, and-false on.heading_setext) (ap (λ t. cond (on.thematic_break && t) thematic_break text) (star-breaks bs))

  pub kind-underscore : tested_rest on columns (95 ∷ bs) ≡ cond (on.thematic_break && breaks_on 95 1 bs) thematic_break text
  kind-underscore = rw (and-false on.heading_atx, and-false on.code_fenced, and-false on.html_flow, and-false on.heading_setext) (ap (λ t. cond (on.thematic_break && t) thematic_break text) (underscore-breaks bs))

  pub kind-dash : tested_rest on columns (45 ∷ bs) ≡ cond (on.heading_setext && underlines_on 45 bs) underline (cond (on.thematic_break && breaks_on 45 1 bs) thematic_break text)
  kind-dash = rw (and-false on.heading_atx, and-false on.code_fenced, and-false on.html_flow, and-false on.heading_setext)
      (ap (λ t. cond (on.heading_setext && is_underline_of_marks 45 (45 ∷ bs)) underline (cond (on.thematic_break && t) thematic_break text)) (dash-breaks bs)
      ∙ ap (λ t. cond (on.heading_setext && t) underline (cond (on.thematic_break && breaks_on 45 1 bs) thematic_break text)) (underline-at 45 bs refl))

  pub kind-equals : tested_rest on columns (61 ∷ bs) ≡ cond (on.heading_setext && underlines_on 61 bs) underline text
  kind-equals = rw (and-false on.heading_atx, and-false on.code_fenced, and-false on.html_flow, and-false on.heading_setext, and-false on.thematic_break) (ap (λ t. cond (on.heading_setext && t) underline text) (underline-at 61 bs refl))

  pub kind-tick : tested_rest on columns (96 ∷ bs) ≡ cond (on.code_fenced && fences_on 96 1 bs) (fence (record { byte = 96; size = suc (run 96 bs); indent = columns })) text
  kind-tick = rw (and-false on.heading_atx, and-false on.code_fenced, and-false on.html_flow, and-false on.heading_setext, and-false on.thematic_break)
      (ap (λ t. cond (on.code_fenced && t) (fence (record { byte = 96; size = run 96 (96 ∷ bs); indent = columns })) text) (fence-at 96 bs refl)
      ∙ ap (λ n. cond (on.code_fenced && fences_on 96 1 bs) (fence (record { byte = 96; size = n; indent = columns })) text) (run-on 96 96 bs refl))

  pub kind-tilde : tested_rest on columns (126 ∷ bs) ≡ cond (on.code_fenced && fences_on 126 1 bs) (fence (record { byte = 126; size = suc (run 126 bs); indent = columns })) text
  kind-tilde = rw (and-false on.heading_atx, and-false on.code_fenced, and-false on.html_flow, and-false on.heading_setext, and-false on.thematic_break)
      (ap (λ t. cond (on.code_fenced && t) (fence (record { byte = 126; size = run 126 (126 ∷ bs); indent = columns })) text) (fence-at 126 bs refl)
      ∙ ap (λ n. cond (on.code_fenced && fences_on 126 1 bs) (fence (record { byte = 126; size = n; indent = columns })) text) (run-on 126 126 bs refl))

  pub kind-less : tested_rest on columns (60 ∷ bs) ≡ cond (on.html_flow && nat_le 1 (html_number (60 ∷ bs))) (html (html_number (60 ∷ bs))) text
  kind-less = rw (and-false on.heading_atx, and-false on.code_fenced, and-false on.heading_setext, and-false on.thematic_break) refl

  pub kind-other : (b : ℕ) → (b == 35) ≡ false → (b == 42) ≡ false → (b == 95) ≡ false → (b == 45) ≡ false → (b == 61) ≡ false → (b == 96) ≡ false → (b == 126) ≡ false → (b == 60) ≡ false
      → tested_rest on columns (b ∷ bs) ≡ text
  kind-other b sign star underscore dash equals tick tilde less =
      kinds-none on columns (b ∷ bs) (rw sign refl) (rw tick refl) (rw tilde refl) (number-is (b ∷ bs) ∙ rw less refl) (rw equals refl) (rw dash refl) (rw (star, dash, underscore) refl)
