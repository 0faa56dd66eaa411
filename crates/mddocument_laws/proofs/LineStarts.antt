-- What lines begin with is told apart by their first bytes.
use Rattle.mddocument_laws.proofs.Prelude.{◌≡◌, ℕ, suc, ◌≤◌, ◌==◌, ◌∙◌, ◌⊎◌, List, [], ◌∷◌, Bool, true, false, cond, inl, inr, None, arith, refl, sym, ap, subst, drop, and_parts, cases_Bool, eqb-true, false≢true, leb-true, ne_eqb, or_cases, nat_tests, list_all, is_ascii_alphabetic, ◌&&◌, ◌||◌, codes, html_raw_names, is_white, HtmlKind, any_tag, begins, behind_name, block_tag, cdata, comment, declaration, ends_name, first_passes, html_kind, is_block_name, is_named, name_at, instruction, is_closing_tag, is_open_tag, raw, starts_with, begins_with, is_break_of_marks, run, digits, first_byte, is_marker, BlankStartsNothing, LineStart, StartsExclude, atx, block_quote, dashes, equals_signs, footnote_definition, has_precedence, line_break, list_item, markup, starts, ticks, tildes, nat_le}
use Rattle.std.specs.Prelude.{is_some}

-- the group of a first byte
abbrev group_at : ℕ → ℕ
group_at b = cond (is_white b) 8 (cond (b == 35) 1 (cond (b == 96) 2 (cond (b == 126) 3 (cond (b == 60) 4 (cond (b == 61) 5 (cond (b == 62) 6 (cond (b == 91) 9 7)))))))

abbrev group : List ℕ → ℕ
group [] = 0
group (b ∷ bs) = group_at b

abbrev pub group_of : LineStart → ℕ
group_of atx = 1
group_of ticks = 2
group_of tildes = 3
group_of markup = 4
group_of equals_signs = 5
group_of block_quote = 6
group_of line_break = 7
group_of dashes = 7
group_of list_item = 7
group_of footnote_definition = 9

-- ---- first bytes
by-byte : (mark n : ℕ) (b : ℕ) → (b == mark) ≡ true → group_at mark ≡ n → group_at b ≡ n
by-byte mark n b e h = ap group_at (eqb-true b mark e) ∙ h

by-mark : (mark n : ℕ) (r : List ℕ) → begins_with mark r ≡ true → group_at mark ≡ n → group r ≡ n
by-mark mark n [] e h = absurd (false≢true e)
by-mark mark n (b ∷ bs) e h = by-byte mark n b e h

by-run : (mark k n : ℕ) (r : List ℕ) → nat_le (suc k) (run mark r) ≡ true → group_at mark ≡ n → group r ≡ n
by-run mark k n [] e h = absurd (false≢true (sym few ∙ e))
  where
    few : nat_le (suc k) 0 ≡ false
    few = grind (arith, nat_tests)
by-run mark k n (b ∷ bs) e h = elim (cases_Bool (b == mark)) [
  | inl is ↦ by-byte mark n b is h
  | inr other ↦ (let none : run mark (b ∷ bs) ≡ 0 = rw other refl in absurd (false≢true (sym (few none) ∙ e)))
]
  where
    few : run mark (b ∷ bs) ≡ 0 → nat_le (suc k) (run mark (b ∷ bs)) ≡ false
    few none = rw none (grind (arith, nat_tests))

by-test : (n : ℕ) (r : List ℕ) (test : ℕ → Bool) → first_passes test r ≡ true → ((b : ℕ) → test b ≡ true → group_at b ≡ n) → group r ≡ n
by-test n [] test e h = absurd (false≢true e)
by-test n (b ∷ bs) test e h = h b e

by-front : (mark n : ℕ) (more r : List ℕ) → starts_with (mark ∷ more) r ≡ true → group_at mark ≡ n → group r ≡ n
by-front mark n more [] e h = absurd (false≢true e)
by-front mark n more (b ∷ bs) e h = ap group_at (sym (eqb-true mark b (and_parts (mark == b) (starts_with more bs) e).0)) ∙ h

-- ---- HTML begins with `<`
html-first : (kind : HtmlKind) (r : List ℕ) → begins kind r ≡ true → group r ≡ 4
html-first raw r e = by-front 60 4 [] r (and_parts (starts_with (codes "<") r) (is_named html_raw_names (name_at (drop 1 r)) && ends_name (behind_name (drop 1 r))) e).0 refl
html-first comment r e = by-front 60 4 (drop 1 (codes "<!--")) r e refl
html-first instruction r e = by-front 60 4 (drop 1 (codes "<?")) r e refl
html-first declaration r e = by-front 60 4 (drop 1 (codes "<!")) r (and_parts (starts_with (codes "<!") r) (first_passes is_ascii_alphabetic (drop 2 r)) e).0 refl
html-first cdata r e = by-front 60 4 (drop 1 (codes "<![CDATA[")) r e refl
html-first block_tag r e = elim (or_cases (starts_with (codes "<") r && is_block_name (drop 1 r)) (starts_with (codes "</") r && is_block_name (drop 2 r)) e) [
  | inl one ↦ by-front 60 4 [] r (and_parts (starts_with (codes "<") r) (is_block_name (drop 1 r)) one).0 refl
  | inr two ↦ by-front 60 4 (drop 1 (codes "</")) r (and_parts (starts_with (codes "</") r) (is_block_name (drop 2 r)) two).0 refl
]
html-first any_tag r e = elim (or_cases (is_open_tag r) (is_closing_tag r) e) [
  | inl one ↦ by-test 4 r (λ b. b == 60) (and_parts (first_passes (λ b. b == 60) r) _ one).0 (λ b is. by-byte 60 4 b is refl)
  | inr two ↦ by-front 60 4 (drop 1 (codes "</")) r (and_parts (starts_with (codes "</") r) _ two).0 refl
]

or-other : (kind : HtmlKind) (r : List ℕ) → (begins kind r ≡ false → group r ≡ 4) → group r ≡ 4
or-other kind r other = elim (cases_Bool (begins kind r)) [ inl e ↦ html-first kind r e | inr e ↦ other e ]

html-some : (r : List ℕ) → is_some (html_kind r) ≡ true → group r ≡ 4
html-some r h =
    or-other raw r (λ e0. or-other block_tag r (λ e1. or-other comment r (λ e2. or-other instruction r (λ e3. or-other declaration r (λ e4. or-other cdata r (λ e5. or-other any_tag r (λ e6.
    let none : html_kind r ≡ None = rw (e0, e1, e2, e3, e4, e5, e6) refl in
    absurd (false≢true (sym (ap is_some none) ∙ h)))))))))

-- ---- list markers
digit-group : (b : ℕ) → (nat_le 48 b && nat_le b 57) ≡ true → group_at b ≡ 7
digit-group b h =
    let low : 48 ≤ b = leb-true 48 b (and_parts _ _ h).0 in
    let high : b ≤ 57 = leb-true b 57 (and_parts (nat_le 48 b) (nat_le b 57) h).1 in
    let a : (b == 32) ≡ false = ne_eqb b 32 (λ e. omega arith) in
    let c : (b == 9) ≡ false = ne_eqb b 9 (λ e. omega arith) in
    let d : (b == 35) ≡ false = ne_eqb b 35 (λ e. omega arith) in
    let f : (b == 96) ≡ false = ne_eqb b 96 (λ e. omega arith) in
    let g : (b == 126) ≡ false = ne_eqb b 126 (λ e. omega arith) in
    let i : (b == 60) ≡ false = ne_eqb b 60 (λ e. omega arith) in
    let j : (b == 61) ≡ false = ne_eqb b 61 (λ e. omega arith) in
    let k : (b == 62) ≡ false = ne_eqb b 62 (λ e. omega arith) in
    let l : (b == 91) ≡ false = ne_eqb b 91 (λ e. omega arith) in
    rw (a, c, d, f, g, i, j, k, l) refl

marker-group : (r : List ℕ) → is_marker r ≡ true → group r ≡ 7
marker-group [] h = absurd (false≢true h)
marker-group (b ∷ bs) h = elim (cases_Bool (nat_le 48 b && nat_le b 57)) [
  | inl digit ↦ digit-group b digit
  | inr other ↦ (let none : digits (b ∷ bs) ≡ 0 = rw other refl in by-bullet (bullet none))
]
  where
    bullet : digits (b ∷ bs) ≡ 0 → ((b == 42) || ((b == 43) || (b == 45))) ≡ true
    bullet none = subst (λ n. (let c = first_byte (drop n (b ∷ bs)) in cond (n == 0) ((c == 42) || ((c == 43) || (c == 45))) (nat_le n 9 && ((c == 46) || (c == 41)))) ≡ true) none h

    by-bullet : ((b == 42) || ((b == 43) || (b == 45))) ≡ true → group_at b ≡ 7
    by-bullet e = elim (or_cases (b == 42) ((b == 43) || (b == 45)) e) [
      | inl star ↦ by-byte 42 7 b star refl
      | inr more ↦ elim (or_cases (b == 43) (b == 45) more) [ inl plus ↦ by-byte 43 7 b plus refl | inr dash ↦ by-byte 45 7 b dash refl ]
    ]

-- ---- each line's first byte is of its group
pub starts-group : (a : LineStart) (r : List ℕ) → starts a r ≡ true → group r ≡ group_of a
starts-group atx r h = by-run 35 0 1 r (and_parts (nat_le 1 (run 35 r)) _ h).0 refl
starts-group ticks r h = by-run 96 2 2 r (and_parts (nat_le 3 (run 96 r)) _ h).0 refl
starts-group tildes r h = by-run 126 2 3 r (and_parts (nat_le 3 (run 126 r)) _ h).0 refl
starts-group markup r h = html-some r h
starts-group equals_signs r h = by-mark 61 5 r (and_parts (begins_with 61 r) _ h).0 refl
starts-group dashes r h = by-mark 45 7 r (and_parts (begins_with 45 r) _ h).0 refl
starts-group block_quote r h = by-mark 62 6 r h refl
starts-group line_break r h = elim (or_cases (is_break_of_marks 42 r) (is_break_of_marks 45 r || is_break_of_marks 95 r) h) [
  | inl stars ↦ by-mark 42 7 r (and_parts (begins_with 42 r) _ stars).0 refl
  | inr more ↦ elim (or_cases (is_break_of_marks 45 r) (is_break_of_marks 95 r) more) [
    | inl lines ↦ by-mark 45 7 r (and_parts (begins_with 45 r) _ lines).0 refl
    | inr under ↦ by-mark 95 7 r (and_parts (begins_with 95 r) _ under).0 refl
  ]
]
starts-group list_item r h = marker-group r (and_parts (is_marker r) _ h).0
starts-group footnote_definition r h = by-front 91 9 (94 ∷ []) r (and_parts (starts_with (91 ∷ 94 ∷ []) r) _ h).0 refl

same-group : (a b : LineStart) → group_of a ≡ group_of b → (a ≡ b) ⊎ ((has_precedence a ≡ true) × (has_precedence b ≡ true))
same-group atx atx e = inl refl
same-group ticks ticks e = inl refl
same-group tildes tildes e = inl refl
same-group markup markup e = inl refl
same-group equals_signs equals_signs e = inl refl
same-group block_quote block_quote e = inl refl
same-group line_break line_break e = inl refl
same-group line_break dashes e = inr (refl, refl)
same-group line_break list_item e = inr (refl, refl)
same-group dashes line_break e = inr (refl, refl)
same-group dashes dashes e = inl refl
same-group dashes list_item e = inr (refl, refl)
same-group list_item line_break e = inr (refl, refl)
same-group list_item dashes e = inr (refl, refl)
same-group list_item list_item e = inl refl
same-group footnote_definition footnote_definition e = inl refl
same-group _ _ e = absurd (omega arith)

-- A line begins with one thing at most, but for the three of which one takes precedence
pub starts-exclude : StartsExclude
starts-exclude a b r h k = same-group a b (sym (starts-group a r h) ∙ starts-group b r k)

few-groups : (a : LineStart) → (group_of a ≡ 0 → ⊥) × (group_of a ≡ 8 → ⊥)
few-groups atx = (λ e. omega arith, λ e. omega arith)
few-groups a = (λ e. omega arith, λ e. omega arith)

blank-group : (b : ℕ) → is_white b ≡ true → group_at b ≡ 8
blank-group b h = ap (λ t. cond t 8 (cond (b == 35) 1 (cond (b == 96) 2 (cond (b == 126) 3 (cond (b == 60) 4 (cond (b == 61) 5 (cond (b == 62) 6 (cond (b == 91) 9 7)))))))) h

pub none-from : (a : LineStart) (r : List ℕ) → (starts a r ≡ true → ⊥) → starts a r ≡ false
none-from a r never = elim (cases_Bool (starts a r)) [ inl s ↦ absurd (never s) | inr s ↦ s ]

-- A blank line begins with none of them
pub blank-starts-nothing : BlankStartsNothing
blank-starts-nothing a [] h = none-from a [] (λ s. (few-groups a).0 (sym (starts-group a [] s)))
blank-starts-nothing a (b ∷ bs) h = elim (cases_Bool (starts a (b ∷ bs))) [
  | inl s ↦ absurd ((few-groups a).1 (sym (starts-group a (b ∷ bs) s) ∙ blank-group b (and_parts (is_white b) (list_all is_white bs) h).0))
  | inr s ↦ s
]
