-- The kind of HTML that a line begins, byte by byte from behind the less-than sign: the definition says the same.
use Rattle.mdblock_leaf_blocks.proofs.Prelude.{◌≡◌, ℕ, suc, ◌+◌, ◌==◌, ◌||◌, ◌&&◌, not, nat_le, List, [], ◌∷◌, Bool, true, false, cond, length, take, drop, refl, sym, ap, ◌∙◌, subst, arith, one-add, is_ascii_alphabetic, is_ascii_alphanumeric, prefix_len, codes, eqb-true, and-true, or-false, nat_tests, html_block_names, html_raw_names, is_white, no_name, one_byte_more, is_number_in, ends_open_tag, ends_tag, first_passes, is_named, starts_with, tag_name, eq-flip, letter-is}
use Rattle.mdblock_leaf_blocks.specs.HtmlLines.{unindented, is_blank_line}
use Rattle.mdblock_leaf_blocks.proofs.Tags.HtmlNumbers.{named_kind}
use Rattle.mdblock_leaf_blocks.proofs.Tags.Attributes.{after, before, behind, closing, slashed, goes, closing-is, open-is, drop-run}
use Rattle.mdblock_leaf_blocks.proofs.Tags.TagNumbers.{number_with, block-names, raw-names}

-- kind 7, or none
abbrev pub whole : Bool → ℕ
whole t = cond t 7 0

-- the kind of a tag by its name: whether it is raw, whether it is one of a block; or else another
abbrev pub listed : (closes raw block : Bool) → (other : ℕ) → ℕ
listed closes raw block other = cond (not closes && raw) 1 (cond block 6 other)

-- behind the name of a tag
abbrev pub behind_tag : (closes raw block : Bool) → List ℕ → ℕ
behind_tag closes raw block [] = listed closes raw block 0
behind_tag closes raw block (b ∷ bs) =
    cond (is_white b) (listed closes raw block (cond closes (whole (goes bs closing)) (whole (goes bs before))))
    (cond (b == 62) (listed closes raw block (whole (goes bs after)))
    (cond (b == 47) (cond block (cond (first_passes (λ c. c == 62) bs) 6 0) (cond closes 0 (whole (goes bs slashed)))) 0))

abbrev pub is_raw : ℕ → Bool
is_raw n = is_number_in html_raw_names n

abbrev pub is_block : ℕ → Bool
is_block n = is_number_in html_block_names n

-- in the name of a tag, which has this number so far
abbrev pub tagged : (closes : Bool) → (number : ℕ) → List ℕ → ℕ
tagged closes n [] = listed closes (is_raw n) (is_block n) 0
tagged closes n (b ∷ bs) =
    cond (is_ascii_alphanumeric b) (tagged closes (one_byte_more n b) bs)
    (cond (is_white b) (listed closes (is_raw n) (is_block n) (cond closes (whole (goes bs closing)) (whole (goes bs before))))
    (cond (b == 62) (listed closes (is_raw n) (is_block n) (whole (goes bs after)))
    (cond (b == 47) (cond (is_block n) (cond (first_passes (λ c. c == 62) bs) 6 0) (cond closes 0 (whole (goes bs slashed))))
    (cond (b == 45) (tagged closes no_name bs) 0))))

-- a byte of a tag's name
abbrev in_tag : ℕ → Bool
in_tag b = is_ascii_alphanumeric b || (b == 45)

take-run : (p : ℕ → Bool) (b : ℕ) (bs : List ℕ) → take (prefix_len p (b ∷ bs)) (b ∷ bs) ≡ cond (p b) (b ∷ take (prefix_len p bs) bs) []
take-run p b bs = elim (p b) as (λ t. take (cond t (1 + prefix_len p bs) 0) (b ∷ bs) ≡ cond t (b ∷ take (prefix_len p bs) bs) []) [
  | true ↦ ap (λ n. take n (b ∷ bs)) (one-add (prefix_len p bs))
  | false ↦ refl
]

-- the kind by the whole name
abbrev of_name : (closes : Bool) → (number : ℕ) → (bs tag left : List ℕ) → Type 0
of_name closes n bs tag left = tagged closes n bs ≡ behind_tag closes (is_raw (number_with n tag)) (is_block (number_with n tag)) left

at-dash : (closes : Bool) (n b : ℕ) (bs : List ℕ) → is_ascii_alphanumeric b ≡ false → (b == 45) ≡ true → tagged closes n (b ∷ bs) ≡ tagged closes no_name bs
at-dash closes n b bs plain dash =
    let is = eqb-true b 45 dash in
    rw (plain, dash, ap is_white is, ap (λ c. c == 62) is, ap (λ c. c == 47) is) refl

at-letter : (closes : Bool) (n b : ℕ) (bs : List ℕ) → is_ascii_alphanumeric b ≡ true → tagged closes n (b ∷ bs) ≡ tagged closes (one_byte_more n b) bs
at-letter closes n b bs letter = rw (letter) refl

name-run : (closes : Bool) (bs : List ℕ) (n : ℕ) → of_name closes n bs (take (prefix_len in_tag bs) bs) (drop (prefix_len in_tag bs) bs)
name-run closes [] n = refl
name-run closes (b ∷ bs) n =
    let k = prefix_len in_tag bs in
    let by = λ (t : Bool). let m = number_with (cond t (one_byte_more n b) no_name) (take k bs) in behind_tag closes (is_raw m) (is_block m) (drop k bs) in
    subst (λ l. of_name closes n (b ∷ bs) l (drop (prefix_len in_tag (b ∷ bs)) (b ∷ bs))) (sym (take-run in_tag b bs))
    (subst (λ l. of_name closes n (b ∷ bs) (cond (in_tag b) (b ∷ take k bs) []) l) (sym (drop-run in_tag b bs))
    (elim (is_ascii_alphanumeric b) as (λ t. is_ascii_alphanumeric b ≡ t → of_name closes n (b ∷ bs) (cond (t || (b == 45)) (b ∷ take k bs) []) (cond (t || (b == 45)) (drop k bs) (b ∷ bs))) [
      | true ↦ λ e. at-letter closes n b bs e ∙ name-run closes bs (one_byte_more n b) ∙ ap by (sym e)
      | false ↦ λ e. elim (b == 45) as (λ t. (b == 45) ≡ t → of_name closes n (b ∷ bs) (cond t (b ∷ take k bs) []) (cond t (drop k bs) (b ∷ bs))) [
        | true ↦ λ d. at-dash closes n b bs e d ∙ name-run closes bs no_name ∙ ap by (sym e)
        | false ↦ λ d. rw (e, d) refl
      ] refl
    ] refl))

-- The kind by the definition, once it is known whether the name is listed
abbrev by_name : ℕ → Bool → ℕ
by_name kind is_whole = cond (nat_le 1 kind) kind (whole is_whole)

abbrev ends : List ℕ → Bool
ends t = is_blank_line (take 1 t) || first_passes (λ b. b == 62) t

abbrev kind_by : (closes raw block : Bool) → List ℕ → ℕ
kind_by closes raw block t = cond (not closes && (raw && ends t)) 1 (cond (block && (ends t || starts_with (codes "/>") t)) 6 0)

pub first-is : (k : ℕ) (bs : List ℕ) → starts_with (k ∷ []) bs ≡ first_passes (λ c. c == k) bs
first-is k [] = refl
first-is k (b ∷ bs) = and-true (k == b) ∙ eq-flip k b

-- by the tests of the first byte behind the name: white space, the end, a slash, and the end behind that; and by what the rest is
opening-by : (raw block white greater slash ended further done over : Bool) → (greater ≡ true → slash ≡ false) → (ended ≡ false → over ≡ false)
    → by_name (cond (raw && ((white && true) || greater)) 1 (cond (block && (((white && true) || greater) || (slash && ended))) 6 0)) (cond white further (cond slash over (cond greater done false)))
    ≡ cond white (listed false raw block (whole further)) (cond greater (listed false raw block (whole done)) (cond slash (cond block (cond ended 6 0) (whole over)) 0))
opening-by false false false true true ended further done over h k = let wrong = h refl in absurd (cc)
opening-by true true false false true false further done true h k = let wrong = k refl in absurd (cc)
opening-by false true false false true false further done true h k = let wrong = k refl in absurd (cc)
opening-by true false false false true ended further done over h k = refl
opening-by false false false false true ended further done over h k = refl
opening-by raw block white greater slash ended further done over h k = refl

closing-by : (raw block white greater slash ended further done : Bool)
    → by_name (cond false 1 (cond (block && (((white && true) || greater) || (slash && ended))) 6 0)) (cond white further (cond greater done false))
    ≡ cond white (listed true raw block (whole further)) (cond greater (listed true raw block (whole done)) (cond slash (cond block (cond ended 6 0) 0) 0))
closing-by raw true false false true false further done = refl
closing-by raw false false false true ended further done = refl
closing-by raw block white greater slash ended further done = refl

not-both : (b : ℕ) → (b == 62) ≡ true → (b == 47) ≡ false
not-both b e = ap (λ c. c == 47) (eqb-true b 62 e)

slash-ends : (bs : List ℕ) → first_passes (λ c. c == 62) bs ≡ false → goes bs slashed ≡ false
slash-ends [] h = refl
slash-ends (b ∷ bs) h = ap (λ t. cond t (goes bs after) false) h

opening-kind : (raw block : Bool) (t : List ℕ) → by_name (kind_by false raw block t) (goes t behind) ≡ behind_tag false raw block t
opening-kind true block [] = refl
opening-kind false true [] = refl
opening-kind false false [] = refl
opening-kind raw block (b ∷ bs) =
    let w = is_white b in
    let g = b == 62 in
    let s = b == 47 in
    let made = λ (t : Bool) (u : Bool). by_name (cond (raw && ((w && true) || g)) 1 (cond (block && (((w && true) || g) || (t && u))) 6 0)) (cond w (goes bs before) (cond s (goes bs slashed) (cond g (goes bs after) false))) in
    ap (λ t. made t (starts_with (62 ∷ []) bs)) (eq-flip 47 b) ∙ ap (made s) (first-is 62 bs)
    ∙ opening-by raw block w g s (first_passes (λ c. c == 62) bs) (goes bs before) (goes bs after) (goes bs slashed) (not-both b) (slash-ends bs)

closing-kind : (raw block : Bool) (t : List ℕ) → by_name (kind_by true raw block t) (goes t closing) ≡ behind_tag true raw block t
closing-kind raw true [] = refl
closing-kind raw false [] = refl
closing-kind raw block (b ∷ bs) =
    let w = is_white b in
    let g = b == 62 in
    let s = b == 47 in
    let made = λ (t : Bool) (u : Bool). by_name (cond false 1 (cond (block && (((w && true) || g) || (t && u))) 6 0)) (cond w (goes bs closing) (cond g (goes bs after) false)) in
    ap (λ t. made t (starts_with (62 ∷ []) bs)) (eq-flip 47 b) ∙ ap (made s) (first-is 62 bs)
    ∙ closing-by raw block w g s (first_passes (λ c. c == 62) bs) (goes bs closing) (goes bs after)

at-least-one : (n : ℕ) → nat_le 1 (1 + n) ≡ true
at-least-one n = grind (arith, nat_tests)

two-more : (n : ℕ) → 2 + n ≡ suc (suc n)
two-more n = omega arith

-- an opening tag, and a closing one, by how long its name is, whether it has one, and what is behind it
abbrev pub opened : (tag : List ℕ) → (n : ℕ) → (some : Bool) → (rest : List ℕ) → ℕ
opened tag n some rest =
    let named = cond some (named_kind false (take n tag) (drop n tag)) 0 in
    cond (nat_le 1 named) named (cond ((some && ends_open_tag (suc (length rest)) rest) || false) 7 0)

abbrev pub closed : (tag : List ℕ) → (n : ℕ) → (some : Bool) → (rest : List ℕ) → ℕ
closed tag n some rest =
    let named = cond some (named_kind true (take n tag) (drop n tag)) 0 in
    cond (nat_le 1 named) named (cond (some && ends_tag (unindented rest)) 7 0)

-- a tag, from its name on
module _ (b : ℕ) (bs : List ℕ) (is : is_ascii_alphabetic b ≡ true) where
  abbrev tag : List ℕ
  tag = b ∷ bs

  abbrev size : ℕ
  size = prefix_len in_tag tag

  abbrev name_of : List ℕ
  name_of = take size tag

  abbrev left : List ℕ
  left = drop size tag

  size-is : tag_name tag ≡ size
  size-is = ap (λ t. cond t size 0) is

  in-tag : in_tag b ≡ true
  in-tag = ap (λ t. t || (b == 45)) (letter-is b is)

  is-some : nat_le 1 size ≡ true
  is-some = ap (λ t. nat_le 1 (cond t (1 + prefix_len in_tag bs) 0)) in-tag ∙ at-least-one (prefix_len in_tag bs)

  begins : first_passes is_ascii_alphabetic name_of ≡ true
  begins = ap (first_passes is_ascii_alphabetic) (take-run in_tag b bs) ∙ ap (λ t. first_passes is_ascii_alphabetic (cond t (b ∷ take (prefix_len in_tag bs) bs) [])) in-tag ∙ is

  -- by the number, and by the name
  by-number : (closes : Bool) → behind_tag closes (is_named html_raw_names name_of) (is_named html_block_names name_of) left ≡ tagged closes 0 tag
  by-number closes =
      ap (λ t. behind_tag closes t (is_named html_block_names name_of) left) (sym (raw-names name_of begins))
      ∙ ap (λ t. behind_tag closes (is_raw (number_with 0 name_of)) t left) (sym (block-names name_of begins))
      ∙ sym (name-run closes tag 0)

  pub opened-is : opened tag (tag_name tag) (nat_le 1 (tag_name tag)) (drop (1 + tag_name tag) (60 ∷ tag)) ≡ tagged false 0 tag
  opened-is =
      ap (λ n. opened tag n (nat_le 1 n) (drop (1 + n) (60 ∷ tag))) size-is
      ∙ ap (λ t. opened tag size t (drop (1 + size) (60 ∷ tag))) is-some
      ∙ ap (λ n. opened tag size true (drop n (60 ∷ tag))) (one-add size)
      ∙ ap (by_name (kind_by false (is_named html_raw_names name_of) (is_named html_block_names name_of) left)) (or-false (ends_open_tag (suc (length left)) left) ∙ open-is (suc (length left)) left (omega arith))
      ∙ opening-kind (is_named html_raw_names name_of) (is_named html_block_names name_of) left
      ∙ by-number false

  pub closed-is : closed tag (tag_name tag) (nat_le 1 (tag_name tag)) (drop (2 + tag_name tag) (60 ∷ 47 ∷ tag)) ≡ tagged true 0 tag
  closed-is =
      ap (λ n. closed tag n (nat_le 1 n) (drop (2 + n) (60 ∷ 47 ∷ tag))) size-is
      ∙ ap (λ t. closed tag size t (drop (2 + size) (60 ∷ 47 ∷ tag))) is-some
      ∙ ap (λ n. closed tag size true (drop n (60 ∷ 47 ∷ tag))) (two-more size)
      ∙ ap (by_name (kind_by true (is_named html_raw_names name_of) (is_named html_block_names name_of) left)) (sym (closing-is left))
      ∙ closing-kind (is_named html_raw_names name_of) (is_named html_block_names name_of) left
      ∙ by-number true
