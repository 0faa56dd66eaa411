-- What tries pass behind destinations: at each place behind other bytes than white space, white space, and then a title.
use Rattle.std.proofs.Common.{ℕ, suc, ◌+◌, ◌*◌, ◌≤◌, ◌≡◌, ◌∙◌, ◌∷◌, ◌&&◌, ◌==◌, not, Bool, true, false, cond, List, [], drop, length, refl, sym, ap, subst, arith}
use Rattle.std.proofs.lemmas.Bool.{eqb-true, false≢true}
use Rattle.mdinline_labels.specs.Tails.{gap}
use Rattle.mdinline_link_tails.proofs.Looks.Passed.{behind_look, title_look, title_start_look}
use Rattle.mdinline_link_tails.proofs.Looks.Gaps.{gap-is, gap_from, gaps-within, goes-gap, goes_on, is_gap, line_behind}
use Rattle.mdinline_link_tails.proofs.Looks.Titles.{IsMark, titles, titles-go}

-- all tries for titles behind white space
abbrev pub starts : (white : Bool) → List ℕ → ℕ
starts white [] = 0
starts white (b ∷ bs) = cond white (title_start_look (b ∷ bs)) 0 + starts (is_gap b) bs

-- those of the three marks
-- at one byte, by whether it is one of them
three-at : (q a p rest u v w : ℕ) → rest ≤ u + v + w → (white x y z : Bool)
    → cond white (cond x (1 + q) (cond y (1 + a) (cond z (1 + p) 0))) 0 + rest ≤ (cond (white && x) (1 + q) 0 + u) + (cond (white && y) (1 + a) 0 + v) + (cond (white && z) (1 + p) 0 + w)
three-at q a p rest u v w more false x y z = omega (arith, more)
three-at q a p rest u v w more true true y z = omega (arith, more)
three-at q a p rest u v w more true false true z = omega (arith, more)
three-at q a p rest u v w more true false false true = omega (arith, more)
three-at q a p rest u v w more true false false false = omega (arith, more)

three : (white : Bool) (bs : List ℕ) → starts white bs ≤ titles 34 34 white bs + titles 39 39 white bs + titles 40 41 white bs
three white [] = omega arith
three white (b ∷ bs) =
    let w = is_gap b in
    three-at (title_look 34 34 false false bs) (title_look 39 39 false false bs) (title_look 40 41 false false bs) (starts w bs) (titles 34 34 w bs) (titles 39 39 w bs) (titles 40 41 w bs) (three w bs) white (b == 34) (b == 39) (b == 40)

black-mark : (n : ℕ) → is_gap n ≡ false → (b : ℕ) → (b == n) ≡ true → is_gap b ≡ false
black-mark n h b e = subst (λ k. is_gap k ≡ false) (sym (eqb-true b n e)) h

quote : IsMark 34 34
quote = record { first_black = black-mark 34 refl; last_black = black-mark 34 refl }

apostrophe : IsMark 39 39
apostrophe = record { first_black = black-mark 39 refl; last_black = black-mark 39 refl }

parenthesis : IsMark 40 41
parenthesis = record { first_black = black-mark 40 refl; last_black = black-mark 41 refl }

one-mark : (first last : ℕ) → IsMark first last → (white : Bool) (bs : List ℕ) → titles first last white bs ≤ 3 * length bs
one-mark first last mark white bs = omega (arith, titles-go first last mark bs false false false white refl, gaps-within (λ b. b == last) mark.last_black bs)

pub starts-within : (white : Bool) (bs : List ℕ) → starts white bs ≤ 9 * length bs
starts-within white bs = omega (arith, three white bs, one-mark 34 34 quote white bs, one-mark 39 39 apostrophe white bs, one-mark 40 41 parenthesis white bs)

-- ---- behind destinations
-- what is passed behind each byte but white space; `black`: such a byte comes before the text
abbrev pub behinds : (black : Bool) → List ℕ → ℕ
behinds black [] = 0
behinds black (b ∷ bs) = cond black (behind_look (b ∷ bs)) 0 + behinds (not (is_gap b)) bs

-- in white space behind it, and then a title
abbrev passing : (line : Bool) → List ℕ → ℕ
passing line [] = 0
passing line (b ∷ bs) = cond (goes_on line b) (1 + passing (line_behind line b) bs) (title_start_look (b ∷ bs))

passing-is : (line : Bool) (bs : List ℕ) → gap_from line bs + title_start_look (drop (gap_from line bs) bs) ≡ passing line bs
passing-is line [] = refl
passing-is line (b ∷ bs) = elim (goes_on line b) as (λ t. (let n = cond t (1 + gap_from (line_behind line b) bs) 0 in n + title_start_look (drop n (b ∷ bs))) ≡ cond t (1 + passing (line_behind line b) bs) (title_start_look (b ∷ bs))) [
  | true ↦
      let n = gap_from (line_behind line b) bs in
      let one : 1 + n ≡ suc n = omega arith in
      let rest = passing-is (line_behind line b) bs in
      let place : title_start_look (drop (1 + n) (b ∷ bs)) ≡ title_start_look (drop n bs) = ap (λ k. title_start_look (drop k (b ∷ bs))) one in
      omega (arith, rest, place)
  | false ↦ omega arith
]

pub behind-passing : (bs : List ℕ) → behind_look bs ≤ passing true bs
behind-passing bs =
    let is = gap-is bs in
    let whole : gap bs + title_start_look (drop (gap bs) bs) ≡ passing true bs = ap (λ n. n + title_start_look (drop n bs)) is ∙ passing-is true bs in
    elim (gap bs == 0) as (λ t. cond t 0 (gap bs + title_start_look (drop (gap bs) bs)) ≤ passing true bs) [ true ↦ omega arith | false ↦ omega (arith, whole) ]

-- behind a byte that is no white space nothing is passed at another
pub behind-black : (b : ℕ) (bs : List ℕ) → is_gap b ≡ false → behind_look (b ∷ bs) ≡ 0
behind-black b bs h =
    let none : goes_on true b ≡ false = h in
    let zero : gap (b ∷ bs) ≡ 0 = gap-is (b ∷ bs) ∙ ap (λ t. cond t (1 + gap_from (line_behind true b) bs) 0) none in
    ap (λ n. cond (n == 0) 0 (n + title_start_look (drop n (b ∷ bs)))) zero

-- a title begins with no white space
no-start : (b : ℕ) (bs : List ℕ) → is_gap b ≡ true → title_start_look (b ∷ bs) ≡ 0
no-start b bs h =
    let q : (b == 34) ≡ false = grind (arith) in
    let a : (b == 39) ≡ false = grind (arith) in
    let p : (b == 40) ≡ false = grind (arith) in
    rw (q, a, p) refl

no-going : (line : Bool) (b : ℕ) → is_gap b ≡ false → goes_on line b ≡ false
no-going line b h = elim (goes_on line b) as (λ t. goes_on line b ≡ t → t ≡ false) [ true ↦ λ e. absurd (false≢true (sym h ∙ goes-gap line b e)) | false ↦ λ e. refl ] refl

-- where white space is being passed, or not
behinds-go : (going line : Bool) (bs : List ℕ) → cond going (passing line bs) 0 + behinds (not going) bs ≤ length bs + starts going bs
behinds-go true line [] = omega arith
behinds-go false line [] = omega arith
behinds-go false line (b ∷ bs) = elim (is_gap b) as (λ t. is_gap b ≡ t → 0 + (behind_look (b ∷ bs) + behinds (not t) bs) ≤ suc (length bs) + (0 + starts t bs)) [
  | true ↦ λ e.
      let first = behind-passing (b ∷ bs) in
      let goes : passing true (b ∷ bs) ≡ 1 + passing (line_behind true b) bs = ap (λ t. cond t (1 + passing (line_behind true b) bs) (title_start_look (b ∷ bs))) e in
      omega (arith, first, goes, behinds-go true (line_behind true b) bs)
  | false ↦ λ e. omega (arith, behind-black b bs e, behinds-go false false bs)
] refl
behinds-go true line (b ∷ bs) = elim (is_gap b) as (λ t. is_gap b ≡ t → passing line (b ∷ bs) + (0 + behinds (not t) bs) ≤ suc (length bs) + (title_start_look (b ∷ bs) + starts t bs)) [
  | true ↦ λ e. elim (goes_on line b) as (λ t. cond t (1 + passing (line_behind line b) bs) (title_start_look (b ∷ bs)) + (0 + behinds false bs) ≤ suc (length bs) + (title_start_look (b ∷ bs) + starts true bs)) [
    | true ↦ omega (arith, behinds-go true (line_behind line b) bs)
    | false ↦ omega (arith, no-start b bs e, behinds-go true true bs)
  ]
  | false ↦ λ e.
      let stops : goes_on line b ≡ false = no-going line b e in
      let same : passing line (b ∷ bs) ≡ title_start_look (b ∷ bs) = ap (λ t. cond t (1 + passing (line_behind line b) bs) (title_start_look (b ∷ bs))) stops in
      omega (arith, same, behinds-go false false bs)
] refl

-- So together they are within so many bytes
pub behinds-within : (black : Bool) (bs : List ℕ) → behinds black bs ≤ 10 * length bs
behinds-within true bs = omega (arith, behinds-go false false bs, starts-within false bs)
behinds-within false bs = omega (arith, behinds-go true true bs, starts-within true bs)
