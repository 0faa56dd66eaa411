-- What the look behind a less-than sign tells apart, byte by byte: the definition of the kinds of HTML says the same.
use Rattle.mdblock_leaf_blocks.proofs.Prelude.{◌≡◌, ℕ, ◌+◌, ◌==◌, ◌||◌, ◌&&◌, nat_le, List, [], ◌∷◌, Bool, true, false, cond, take, drop, refl, sym, ap, ◌∙◌, is_ascii_alphabetic, is_ascii_alphanumeric, prefix_len, codes, eqb-true, one_more, cdata_byte, ends_tag, first_passes, is_open_tag, starts_with, tag_name, cond-same, unlike, eq-flip}
use Rattle.mdblock_leaf_blocks.specs.HtmlLines.{unindented}
use Rattle.mdblock_leaf_blocks.proofs.Tags.HtmlNumbers.{html_at, named_kind}
use Rattle.mdblock_leaf_blocks.proofs.Tags.HtmlKinds.{closed, closed-is, first-is, opened, opened-is, tagged}

-- behind `<![` and so many bytes of `CDATA[`
abbrev pub in_cdata : (seen : ℕ) → List ℕ → ℕ
in_cdata n [] = 0
in_cdata n (b ∷ bs) = cond (is_ascii_alphabetic b) (cond (b == cdata_byte n) (in_cdata (one_more n) bs) 0) (cond (b == 91) (cond (b == cdata_byte n) 5 0) 0)

-- behind `<!`
abbrev pub declared : List ℕ → ℕ
declared [] = 0
declared (b ∷ bs) = cond (is_ascii_alphabetic b) 4 (cond (b == 45) (cond (first_passes (λ c. c == 45) bs) 2 0) (cond (b == 91) (in_cdata 0 bs) 0))

-- behind `</`
abbrev pub tag_closed : List ℕ → ℕ
tag_closed [] = 0
tag_closed (b ∷ bs) = cond (is_ascii_alphabetic b) (tagged true 0 (b ∷ bs)) 0

-- behind `<`
abbrev pub begun : List ℕ → ℕ
begun [] = 0
begun (b ∷ bs) = cond (is_ascii_alphabetic b) (tagged false 0 (b ∷ bs)) (cond (b == 47) (tag_closed bs) (cond (b == 33) (declared bs) (cond (b == 63) 3 0)))

-- character data
cond-and : (t u : Bool) (x y : ℕ) → cond (t && u) x y ≡ cond t (cond u x y) y
cond-and true u x y = refl
cond-and false u x y = refl

at-letter : (b k x : ℕ) → is_ascii_alphabetic k ≡ true → cond (is_ascii_alphabetic b) (cond (b == k) x 0) (cond (b == 91) (cond (b == k) 5 0) 0) ≡ cond (k == b) x 0
at-letter b k x letter =
    elim (b == k) as (λ t. (b == k) ≡ t → cond (is_ascii_alphabetic b) (cond t x 0) (cond (b == 91) (cond t 5 0) 0) ≡ cond t x 0) [
      | true ↦ λ e. ap (λ t. cond t x (cond (b == 91) 5 0)) (ap is_ascii_alphabetic (eqb-true b k e) ∙ letter)
      | false ↦ λ e. ap (λ y. cond (is_ascii_alphabetic b) 0 y) (cond-same (b == 91) 0) ∙ cond-same (is_ascii_alphabetic b) 0
    ] refl
    ∙ ap (λ t. cond t x 0) (eq-flip b k)

cdata-step : (n k : ℕ) (ks : List ℕ) → cdata_byte n ≡ k → is_ascii_alphabetic k ≡ true → ((t : List ℕ) → in_cdata (one_more n) t ≡ cond (starts_with ks t) 5 0)
    → (t : List ℕ) → in_cdata n t ≡ cond (starts_with (k ∷ ks) t) 5 0
cdata-step n k ks is letter on [] = refl
cdata-step n k ks is letter on (b ∷ bs) =
    ap (λ k. cond (is_ascii_alphabetic b) (cond (b == k) (in_cdata (one_more n) bs) 0) (cond (b == 91) (cond (b == k) 5 0) 0)) is
    ∙ at-letter b k (in_cdata (one_more n) bs) letter
    ∙ ap (λ r. cond (k == b) r 0) (on bs)
    ∙ sym (cond-and (k == b) (starts_with ks bs) 5 0)

cdata-ends : (t : List ℕ) → in_cdata 5 t ≡ cond (starts_with (91 ∷ []) t) 5 0
cdata-ends [] = refl
cdata-ends (b ∷ bs) =
    elim (b == 91) as (λ t. (b == 91) ≡ t → cond (is_ascii_alphabetic b) (cond t (in_cdata (one_more 5) bs) 0) (cond t (cond t 5 0) 0) ≡ cond t 5 0) [
      | true ↦ λ e. ap (λ t. cond t (in_cdata (one_more 5) bs) 5) (ap is_ascii_alphabetic (eqb-true b 91 e))
      | false ↦ λ e. cond-same (is_ascii_alphabetic b) 0
    ] refl
    ∙ ap (λ t. cond t 5 0) (sym (first-is 91 (b ∷ bs)))

cdata-is : (t : List ℕ) → in_cdata 0 t ≡ cond (starts_with (codes "CDATA[") t) 5 0
cdata-is =
    cdata-step 0 67 (codes "DATA[") refl refl
    (cdata-step 1 68 (codes "ATA[") refl refl (cdata-step 2 65 (codes "TA[") refl refl (cdata-step 3 84 (codes "A[") refl refl (cdata-step 4 65 (codes "[") refl refl cdata-ends))))

-- declarations and comments
at-declared : (b : ℕ) (bs : List ℕ) (dashes bracket : Bool) → (45 == b) ≡ dashes → (91 == b) ≡ bracket
    → cond (dashes && starts_with (45 ∷ []) bs) 2 (cond (is_ascii_alphabetic b) 4 (cond (bracket && starts_with (codes "CDATA[") bs) 5 0)) ≡ declared (b ∷ bs)
at-declared b bs true bracket e f =
    let is = eqb-true 45 b e in
    ap (λ t. cond t 2 (cond (is_ascii_alphabetic b) 4 (cond (bracket && starts_with (codes "CDATA[") bs) 5 0))) (first-is 45 bs)
    ∙ ap (λ t. cond (first_passes (λ c. c == 45) bs) 2 (cond (is_ascii_alphabetic b) 4 (cond (t && starts_with (codes "CDATA[") bs) 5 0))) (sym f ∙ sym (ap (λ c. 91 == c) is))
    ∙ ap (λ t. cond (first_passes (λ c. c == 45) bs) 2 (cond t 4 0)) (sym (ap is_ascii_alphabetic is))
    ∙ ap (λ c. cond (is_ascii_alphabetic c) 4 (cond (c == 45) (cond (first_passes (λ c. c == 45) bs) 2 0) (cond (c == 91) (in_cdata 0 bs) 0))) is
at-declared b bs false bracket e f =
    ap (λ t. cond (is_ascii_alphabetic b) 4 (cond (t && starts_with (codes "CDATA[") bs) 5 0)) (sym f ∙ eq-flip 91 b)
    ∙ ap (λ r. cond (is_ascii_alphabetic b) 4 r) (cond-and (b == 91) (starts_with (codes "CDATA[") bs) 5 0 ∙ ap (λ r. cond (b == 91) r 0) (sym (cdata-is bs)))
    ∙ ap (λ t. cond (is_ascii_alphabetic b) 4 (cond t (cond (first_passes (λ c. c == 45) bs) 2 0) (cond (b == 91) (in_cdata 0 bs) 0))) (sym e ∙ eq-flip 45 b)

declared-is : (bs : List ℕ) → html_at (60 ∷ 33 ∷ bs) ≡ declared bs
declared-is [] = refl
declared-is (b ∷ bs) = at-declared b bs (45 == b) (91 == b) refl refl

-- no tag without a name
nameless : (b : ℕ) (bs : List ℕ) → is_ascii_alphabetic b ≡ false → tag_name (b ∷ bs) ≡ 0
nameless b bs e = ap (λ t. cond t (prefix_len (λ b. is_ascii_alphanumeric b || (b == 45)) (b ∷ bs)) 0) e

not-opened : (b : ℕ) (bs : List ℕ) → is_ascii_alphabetic b ≡ false → let tag = b ∷ bs in opened tag (tag_name tag) (nat_le 1 (tag_name tag)) (drop (1 + tag_name tag) (60 ∷ tag)) ≡ 0
not-opened b bs e = let tag = b ∷ bs in ap (λ n. opened tag n (nat_le 1 n) (drop (1 + n) (60 ∷ tag))) (nameless b bs e)

not-closed : (b : ℕ) (bs : List ℕ) → is_ascii_alphabetic b ≡ false → let tag = b ∷ bs in closed tag (tag_name tag) (nat_le 1 (tag_name tag)) (drop (2 + tag_name tag) (60 ∷ 47 ∷ tag)) ≡ 0
not-closed b bs e = let tag = b ∷ bs in ap (λ n. closed tag n (nat_le 1 n) (drop (2 + n) (60 ∷ 47 ∷ tag))) (nameless b bs e)

closed-tag : (bs : List ℕ) → html_at (60 ∷ 47 ∷ bs) ≡ tag_closed bs
closed-tag [] = refl
closed-tag (b ∷ bs) =
    let tag = b ∷ bs in
    let start : html_at (60 ∷ 47 ∷ tag) ≡ closed tag (tag_name tag) (nat_le 1 (tag_name tag)) (drop (2 + tag_name tag) (60 ∷ 47 ∷ tag)) = refl in
    start ∙ elim (is_ascii_alphabetic b) as (λ t. is_ascii_alphabetic b ≡ t → closed tag (tag_name tag) (nat_le 1 (tag_name tag)) (drop (2 + tag_name tag) (60 ∷ 47 ∷ tag)) ≡ cond t (tagged true 0 tag) 0) [
      | true ↦ λ e. closed-is b bs e
      | false ↦ λ e. not-closed b bs e
    ] refl

-- by the tests of the first byte: a slash, an exclamation mark and a question mark
abbrev by_first : (b : ℕ) (bs : List ℕ) → (slash bang question : Bool) → ℕ
by_first b bs slash bang question =
    let all = 60 ∷ b ∷ bs in
    let is_closing = slash && true in
    let tag = drop (cond is_closing 2 1) all in
    let named = cond (nat_le 1 (tag_name tag)) (named_kind is_closing (take (tag_name tag) tag) (drop (tag_name tag) tag)) 0 in
    cond (nat_le 1 named) named
    (cond (bang && starts_with (codes "--") bs) 2
    (cond (question && true) 3
    (cond ((bang && true) && first_passes is_ascii_alphabetic bs) 4
    (cond (bang && starts_with (codes "[CDATA[") bs) 5
    (cond (is_open_tag all || (is_closing && (nat_le 1 (tag_name bs) && ends_tag (unindented (drop (2 + tag_name bs) all))))) 7 0)))))

by-first : (b : ℕ) (bs : List ℕ) → html_at (60 ∷ b ∷ bs) ≡ by_first b bs (47 == b) (33 == b) (63 == b)
by-first b bs = refl

plain : (b : ℕ) (bs : List ℕ) → (b == 47) ≡ false → (b == 33) ≡ false → (b == 63) ≡ false
    → let tag = b ∷ bs in html_at (60 ∷ tag) ≡ opened tag (tag_name tag) (nat_le 1 (tag_name tag)) (drop (1 + tag_name tag) (60 ∷ tag))
plain b bs slash bang question =
    by-first b bs ∙ ap (λ t. by_first b bs t (33 == b) (63 == b)) (eq-flip 47 b ∙ slash) ∙ ap (λ t. by_first b bs false t (63 == b)) (eq-flip 33 b ∙ bang) ∙ ap (by_first b bs false false) (eq-flip 63 b ∙ question)

no-letter : (b : ℕ) (bs : List ℕ) → is_ascii_alphabetic b ≡ false → html_at (60 ∷ b ∷ bs) ≡ cond (b == 47) (tag_closed bs) (cond (b == 33) (declared bs) (cond (b == 63) 3 0))
no-letter b bs letter = elim (b == 47) as (λ t. (b == 47) ≡ t → html_at (60 ∷ b ∷ bs) ≡ cond t (tag_closed bs) (cond (b == 33) (declared bs) (cond (b == 63) 3 0))) [
  | true ↦ λ slash. ap (λ c. html_at (60 ∷ c ∷ bs)) (eqb-true b 47 slash) ∙ closed-tag bs
  | false ↦ λ slash. elim (b == 33) as (λ t. (b == 33) ≡ t → html_at (60 ∷ b ∷ bs) ≡ cond t (declared bs) (cond (b == 63) 3 0)) [
    | true ↦ λ bang. ap (λ c. html_at (60 ∷ c ∷ bs)) (eqb-true b 33 bang) ∙ declared-is bs
    | false ↦ λ bang. elim (b == 63) as (λ t. (b == 63) ≡ t → html_at (60 ∷ b ∷ bs) ≡ cond t 3 0) [
      | true ↦ λ question. ap (λ c. html_at (60 ∷ c ∷ bs)) (eqb-true b 63 question)
      | false ↦ λ question. plain b bs slash bang question ∙ not-opened b bs letter
    ] refl
  ] refl
] refl

pub begun-is : (bs : List ℕ) → html_at (60 ∷ bs) ≡ begun bs
begun-is [] = refl
begun-is (b ∷ bs) = elim (is_ascii_alphabetic b) as (λ t. is_ascii_alphabetic b ≡ t → html_at (60 ∷ b ∷ bs) ≡ cond t (tagged false 0 (b ∷ bs)) (cond (b == 47) (tag_closed bs) (cond (b == 33) (declared bs) (cond (b == 63) 3 0)))) [
  | true ↦ λ e. plain b bs (unlike is_ascii_alphabetic 47 refl b e) (unlike is_ascii_alphabetic 33 refl b e) (unlike is_ascii_alphabetic 63 refl b e) ∙ opened-is b bs e
  | false ↦ λ e. no-letter b bs e
] refl
