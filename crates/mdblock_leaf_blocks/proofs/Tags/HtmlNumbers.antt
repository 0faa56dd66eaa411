-- The kinds of HTML by numbers, as they are written down and looked for.
use Rattle.mdblock_leaf_blocks.proofs.Prelude.{◌≡◌, ℕ, ◌≤◌, ◌==◌, ◌||◌, ◌&&◌, not, nat_le, List, [], ◌∷◌, Bool, true, false, cond, map, take, drop, refl, sym, ap, ◌∙◌, subst, arith, is_ascii_alphabetic, None, Option, Some, codes, eqb-true, leb-false, html_block_names, html_raw_names, HtmlKind, raw, comment, instruction, declaration, cdata, block_tag, any_tag, begins, behind_name, ends_name, first_passes, holds, html_kind, is_block_name, is_closing_tag, is_named, is_open_tag, lower, name_at, starts_with, tag_name, html_number, number, eq-flip, or-false}
use Rattle.mdblock_leaf_blocks.specs.HtmlLines.{is_blank_line}

-- the kind of a tag with a listed name: a raw one opens kind 1, one of a block opens or closes kind 6
abbrev pub named_kind : (is_closing : Bool) → (name after : List ℕ) → ℕ
named_kind is_closing name after =
    let ends = is_blank_line (take 1 after) || first_passes (λ b. b == 62) after in
    cond (not is_closing && (is_named html_raw_names name && ends)) 1
    (cond (is_named html_block_names name && (ends || starts_with (codes "/>") after)) 6 0)

-- the kind of HTML that a line begins, from its first byte that is not white space on: 1 to 7, or 0 if it begins none
abbrev pub html_at : List ℕ → ℕ
html_at r =
    let is_closing = starts_with (60 ∷ 47 ∷ []) r in
    let tag = drop (cond is_closing 2 1) r in
    let named = cond (nat_le 1 (tag_name tag)) (named_kind is_closing (take (tag_name tag) tag) (drop (tag_name tag) tag)) 0 in
    cond (not (first_passes (λ b. b == 60) r)) 0
    (cond (nat_le 1 named) named
    (cond (starts_with (codes "<!--") r) 2
    (cond (starts_with (codes "<?") r) 3
    (cond (starts_with (codes "<!") r && first_passes is_ascii_alphabetic (drop 2 r)) 4
    (cond (starts_with (codes "<![CDATA[") r) 5
    (cond (is_open_tag r || is_closing_tag r) 7 0))))))

-- a line has the end of HTML of one of the kinds 1 to 5
abbrev pub ends_html : (kind : ℕ) → List ℕ → Bool
ends_html kind t =
    let l = map lower t in
    cond (kind == 1) (holds (codes "</pre>") l || (holds (codes "</script>") l || (holds (codes "</style>") l || holds (codes "</textarea>") l)))
    (cond (kind == 2) (holds (codes "-->") t) (cond (kind == 3) (holds (codes "?>") t) (cond (kind == 4) (holds (codes ">") t) (holds (codes "]]>") t))))

-- ---- they are the kinds

abbrev pub number_of : Option HtmlKind → ℕ
number_of None = 0
number_of (Some kind) = number kind

-- the tests one after another
in-order : (one six two three four five seven : Bool)
    → number_of (cond one (Some raw) (cond six (Some block_tag) (cond two (Some comment) (cond three (Some instruction) (cond four (Some declaration) (cond five (Some cdata) (cond seven (Some any_tag) None)))))))
    ≡ cond one 1 (cond six 6 (cond two 2 (cond three 3 (cond four 4 (cond five 5 (cond seven 7 0))))))
in-order false false false false false false false = refl
in-order one six two three four five seven = refl

named-first : (one six : Bool) (rest : ℕ) → (let named = cond one 1 (cond six 6 0) in cond (nat_le 1 named) named rest) ≡ cond one 1 (cond six 6 rest)
named-first false false rest = refl
named-first one six rest = refl

no-name : (n : ℕ) → nat_le 1 n ≡ false → n ≡ 0
no-name n h = let few = leb-false 1 n h in omega (arith, few)

-- a name that is none is not listed
unlisted : (closes : Bool) (t : List ℕ) (n : ℕ) → cond (nat_le 1 n) (named_kind closes (take n t) (drop n t)) 0 ≡ named_kind closes (take n t) (drop n t)
unlisted closes t n = elim (nat_le 1 n) as (λ b. nat_le 1 n ≡ b → cond b (named_kind closes (take n t) (drop n t)) 0 ≡ named_kind closes (take n t) (drop n t)) [
  | true ↦ λ some. refl
  | false ↦ λ none. subst (λ n. 0 ≡ named_kind closes (take n t) (drop n t)) (sym (no-name n none)) (nothing closes)
] refl
  where
    nothing : (closes : Bool) → 0 ≡ named_kind closes [] t
    nothing true = refl
    nothing false = refl

-- all tests of a line behind those of names
abbrev others : List ℕ → ℕ
others r =
    cond (begins comment r) 2
    (cond (begins instruction r) 3
    (cond (begins declaration r) 4
    (cond (begins cdata r) 5
    (cond (begins any_tag r) 7 0))))

-- behind a less-than sign, where no slash comes
module _ (b : ℕ) (bs : List ℕ) where
  abbrev r : List ℕ
  r = 60 ∷ b ∷ bs

  abbrev t : List ℕ
  t = b ∷ bs

  by-slash : (slash : Bool) → slash ≡ false
      → (let tag = drop (cond (slash && true) 2 1) r in
      let named = cond (nat_le 1 (tag_name tag)) (named_kind (slash && true) (take (tag_name tag) tag) (drop (tag_name tag) tag)) 0 in
      cond (nat_le 1 named) named (others r)) ≡ cond (begins raw r) 1 (cond (is_block_name t || ((slash && true) && is_block_name bs)) 6 (others r))
  by-slash true h = absurd (cc)
  by-slash false h =
      ap (λ named. cond (nat_le 1 named) named (others r)) (unlisted false t (tag_name t))
      ∙ named-first (is_named html_raw_names (name_at t) && ends_name (behind_name t)) (is_block_name t) (others r)
      ∙ ap (λ six. cond (begins raw r) 1 (cond six 6 (others r))) (sym (or-false (is_block_name t)))

  opening : (47 == b) ≡ false → html_at r ≡ cond (begins raw r) 1 (cond (begins block_tag r) 6 (others r))
  opening h = by-slash (47 == b) h

-- behind a less-than sign
behind-less : (bs : List ℕ) → let r = 60 ∷ bs in html_at r ≡ cond (begins raw r) 1 (cond (begins block_tag r) 6 (others r))
behind-less [] = refl
behind-less (b ∷ bs) = elim (47 == b) as (λ slash. (47 == b) ≡ slash → let r = 60 ∷ b ∷ bs in html_at r ≡ cond (begins raw r) 1 (cond (begins block_tag r) 6 (others r))) [
  | true ↦ λ slash. subst (λ c. let r = 60 ∷ c ∷ bs in html_at r ≡ cond (begins raw r) 1 (cond (begins block_tag r) 6 (others r))) (eqb-true 47 b slash)
      (ap (λ named. cond (nat_le 1 named) named (others (60 ∷ 47 ∷ bs))) (unlisted true bs (tag_name bs)) ∙ named-first false (is_block_name bs) (others (60 ∷ 47 ∷ bs)))
  | false ↦ λ slash. opening b bs slash
] refl

-- The number of HTML is that of its kind
pub number-is : (r : List ℕ) → html_number r ≡ html_at r
number-is r = in-order (begins raw r) (begins block_tag r) (begins comment r) (begins instruction r) (begins declaration r) (begins cdata r) (begins any_tag r) ∙ sym (by-tests r)
  where
    by-tests : (r : List ℕ) → html_at r ≡ cond (begins raw r) 1 (cond (begins block_tag r) 6 (others r))
    by-tests [] = refl
    by-tests (b ∷ bs) = elim (60 == b) as (λ less. (60 == b) ≡ less → let r = b ∷ bs in html_at r ≡ cond (begins raw r) 1 (cond (begins block_tag r) 6 (others r))) [
      | true ↦ λ less. subst (λ c. let r = c ∷ bs in html_at r ≡ cond (begins raw r) 1 (cond (begins block_tag r) 6 (others r))) (eqb-true 60 b less) (behind-less bs)
      | false ↦ λ less. let other = eq-flip b 60 ∙ less in rw (less, other) refl
    ] refl

-- a kind's number is 7 at most
pub number-bound : (r : List ℕ) → html_number r ≤ 7
number-bound r = elim (html_kind r) as (λ kind. number_of kind ≤ 7) [ None ↦ omega arith | Some kind ↦ up-to-seven kind ]
  where
    up-to-seven : (kind : HtmlKind) → number kind ≤ 7
    up-to-seven raw = omega arith
    up-to-seven kind = omega arith
