-- Kinds of HTML are told apart by the bytes behind `<`, and by the names of tags; and so no order of kinds of lines matters.
use Rattle.mddocument_laws.proofs.Prelude.{◌≡◌, ℕ, ◌==◌, ◌∙◌, ◌⊎◌, List, [], ◌∷◌, Bool, true, false, cond, inl, inr, Some, None, Option, arith, refl, sym, ap, subst, take, drop, length, map, and_parts, and_right, cases_Bool, eqb-true, false≢true, ne_eqb, or_cases, length-map, is_ascii_alphabetic, is_ascii_alphanumeric, AllByRecursion, prefix_len, ◌&&◌, ◌||◌, codes, html_block_names, html_raw_names, HtmlKind, any_tag, begins, behind_name, block_tag, cdata, comment, declaration, ends_name, first_passes, html_kind, instruction, is_block_name, is_closing_tag, is_named, is_open_tag, lower, name_at, raw, starts_with, tag_name, is_fence_of, is_thematic_break, HtmlExcludes, KindsHaveNoOrder, LineStart, atx, has_own_name, line_break, markup, starts, ticks, tildes, nat_le}
use Rattle.std.specs.Prelude.{is_some}
use Rattle.mddocument_laws.proofs.LineStarts.{group_of, none-from, starts-group}

-- ---- groups, by the second and the third byte
abbrev third : List ℕ → ℕ
third [] = 6
third (c ∷ cs) = cond (c == 45) 1 (cond (c == 91) 2 3)

abbrev second : List ℕ → ℕ
second [] = 7
second (b ∷ bs) = cond (b == 33) (third bs) (cond (b == 63) 4 5)

abbrev group_of_html : HtmlKind → ℕ
group_of_html comment = 1
group_of_html cdata = 2
group_of_html declaration = 3
group_of_html instruction = 4
group_of_html raw = 5
group_of_html block_tag = 5
group_of_html any_tag = 5

-- a letter is no mark
letter-not : (n b : ℕ) → is_ascii_alphabetic n ≡ false → is_ascii_alphabetic b ≡ true → (b == n) ≡ false
letter-not n b f h = ne_eqb b n (λ e. false≢true (sym f ∙ subst (λ x. is_ascii_alphabetic x ≡ true) e h))

letter-second : (t : List ℕ) → first_passes is_ascii_alphabetic t ≡ true → second t ≡ 5
letter-second [] h = absurd (false≢true h)
letter-second (b ∷ bs) h = rw (letter-not 33 b refl h, letter-not 63 b refl h) refl

letter-third : (t : List ℕ) → first_passes is_ascii_alphabetic t ≡ true → third t ≡ 3
letter-third [] h = absurd (false≢true h)
letter-third (c ∷ cs) h = rw (letter-not 45 c refl h, letter-not 91 c refl h) refl

-- a tag has a name only behind a letter
no-name : (t : List ℕ) → first_passes is_ascii_alphabetic t ≡ false → tag_name t ≡ 0
no-name t h = ap (λ b. cond b (prefix_len (λ c. is_ascii_alphanumeric c || (c == 45)) t) 0) h

named-letter : (names : List (List ℕ)) (t : List ℕ) → is_named names [] ≡ false → is_named names (name_at t) ≡ true → first_passes is_ascii_alphabetic t ≡ true
named-letter names t none h = elim (cases_Bool (first_passes is_ascii_alphabetic t)) [
  | inl is ↦ is
  | inr other ↦ absurd (false≢true (sym none ∙ subst (λ n. is_named names (take n t) ≡ true) (no-name t other) h))
]

long-letter : (t : List ℕ) → nat_le 1 (tag_name t) ≡ true → first_passes is_ascii_alphabetic t ≡ true
long-letter t h = elim (cases_Bool (first_passes is_ascii_alphabetic t)) [
  | inl is ↦ is
  | inr other ↦ absurd (false≢true (subst (λ n. nat_le 1 n ≡ true) (no-name t other) h))
]

-- what is behind the first byte of a front
behind-first : (a : ℕ) (more r : List ℕ) → starts_with (a ∷ more) r ≡ true → starts_with more (drop 1 r) ≡ true
behind-first a more [] h = absurd (false≢true h)
behind-first a more (b ∷ bs) h = (and_parts (a == b) (starts_with more bs) h).1

by-second : (b n : ℕ) (more t : List ℕ) → starts_with (b ∷ more) t ≡ true → ((bs : List ℕ) → second (b ∷ bs) ≡ n) → second t ≡ n
by-second b n more [] h k = absurd (false≢true h)
by-second b n more (c ∷ cs) h k = subst (λ x. second (x ∷ cs) ≡ n) (eqb-true b c (and_parts (b == c) (starts_with more cs) h).0) (k cs)

by-third : (c n : ℕ) (more t : List ℕ) → starts_with (33 ∷ c ∷ more) t ≡ true → ((cs : List ℕ) → third (c ∷ cs) ≡ n) → second t ≡ n
by-third c n more [] h k = absurd (false≢true h)
by-third c n more (b ∷ []) h k = absurd (false≢true (and_parts (33 == b) false h).1)
by-third c n more (b ∷ d ∷ ds) h k =
    let parts = and_parts (33 == b) ((c == d) && starts_with more ds) h in
    subst (λ x. second (x ∷ d ∷ ds) ≡ n) (eqb-true 33 b parts.0) (subst (λ x. third (x ∷ ds) ≡ n) (eqb-true c d (and_parts (c == d) (starts_with more ds) parts.1).0) (k ds))

declared : (t : List ℕ) → starts_with (33 ∷ []) t ≡ true → first_passes is_ascii_alphabetic (drop 1 t) ≡ true → second t ≡ 3
declared [] h k = absurd (false≢true h)
declared (b ∷ bs) h k = subst (λ x. second (x ∷ bs) ≡ 3) (eqb-true 33 b (and_parts (33 == b) true h).0) (letter-third bs k)

two-drops : (r : List ℕ) → drop 1 (drop 1 r) ≡ drop 2 r
two-drops [] = refl
two-drops (b ∷ bs) = refl

html-group : (kind : HtmlKind) (r : List ℕ) → begins kind r ≡ true → second (drop 1 r) ≡ group_of_html kind
html-group comment r h = by-third 45 1 (drop 3 (codes "<!--")) (drop 1 r) (behind-first 60 (drop 1 (codes "<!--")) r h) (λ cs. refl)
html-group cdata r h = by-third 91 2 (drop 3 (codes "<![CDATA[")) (drop 1 r) (behind-first 60 (drop 1 (codes "<![CDATA[")) r h) (λ cs. refl)
html-group declaration r h =
    let parts = and_parts (starts_with (codes "<!") r) (first_passes is_ascii_alphabetic (drop 2 r)) h in
    declared (drop 1 r) (behind-first 60 (drop 1 (codes "<!")) r parts.0) (subst (λ t. first_passes is_ascii_alphabetic t ≡ true) (sym (two-drops r)) parts.1)
html-group instruction r h = by-second 63 4 [] (drop 1 r) (behind-first 60 (drop 1 (codes "<?")) r h) (λ bs. refl)
html-group raw r h =
    let named = (and_parts (is_named html_raw_names (name_at (drop 1 r))) (ends_name (behind_name (drop 1 r))) (and_parts (starts_with (codes "<") r) (is_named html_raw_names (name_at (drop 1 r)) && ends_name (behind_name (drop 1 r))) h).1).0 in
    letter-second (drop 1 r) (named-letter html_raw_names (drop 1 r) refl named)
html-group block_tag r h = elim (or_cases (starts_with (codes "<") r && is_block_name (drop 1 r)) (starts_with (codes "</") r && is_block_name (drop 2 r)) h) [
  | inl one ↦ letter-second (drop 1 r) (named-letter html_block_names (drop 1 r) refl (and_parts (is_named html_block_names (name_at (drop 1 r))) _ (and_parts (starts_with (codes "<") r) (is_block_name (drop 1 r)) one).1).0)
  | inr two ↦ by-second 47 5 [] (drop 1 r) (behind-first 60 (drop 1 (codes "</")) r (and_parts (starts_with (codes "</") r) (is_block_name (drop 2 r)) two).0) (λ bs. refl)
]
html-group any_tag r h = elim (or_cases (is_open_tag r) (is_closing_tag r) h) [
  | inl one ↦ letter-second (drop 1 r) (long-letter (drop 1 r) (and_parts (nat_le 1 (tag_name (drop 1 r))) _ (and_parts (first_passes (λ b. b == 60) r) _ one).1).0)
  | inr two ↦ by-second 47 5 [] (drop 1 r) (behind-first 60 (drop 1 (codes "</")) r (and_parts (starts_with (codes "</") r) _ two).0) (λ bs. refl)
]

-- ---- the names that kind 1 asks for are none that kind 6 asks for
abbrev is_low : List (List ℕ) → List ℕ → Bool
is_low [] low = false
is_low (n ∷ ns) low = (starts_with n low && (length n == length low)) || is_low ns low

as-low : (ns : List (List ℕ)) (name : List ℕ) → is_named ns name ≡ is_low ns (map lower name)
as-low [] name = refl
as-low (n ∷ ns) name = rw (as-low ns name, length-map name lower) refl

front-is : (n low : List ℕ) → starts_with n low ≡ true → length n ≡ length low → low ≡ n
front-is [] [] h l = refl
front-is [] (c ∷ cs) h l = absurd (omega (arith, l))
front-is (b ∷ bs) [] h l = absurd (false≢true h)
front-is (b ∷ bs) (c ∷ cs) h l =
    let parts = and_parts (b == c) (starts_with bs cs) h in
    let first : c ≡ b = sym (eqb-true b c parts.0) in
    let more : cs ≡ bs = front-is bs cs parts.1 (omega (arith, l)) in
    rw (first, more) refl

none-of-both : (ns ms : List (List ℕ)) (low : List ℕ) → AllByRecursion (λ n. is_low ms n ≡ false) ns → is_low ns low ≡ true → is_low ms low ≡ false
none-of-both [] ms low all h = absurd (false≢true h)
none-of-both (n ∷ ns) ms low all h = elim (or_cases (starts_with n low && (length n == length low)) (is_low ns low) h) [
  | inl is ↦
      let parts = and_parts (starts_with n low) (length n == length low) is in
      subst (λ x. is_low ms x ≡ false) (sym (front-is n low parts.0 (eqb-true (length n) (length low) parts.1))) all.0
  | inr more ↦ none-of-both ns ms low all.1 more
]

names-apart : (name : List ℕ) → is_named html_raw_names name ≡ true → is_named html_block_names name ≡ true → ⊥
names-apart name h k =
    let low = map lower name in
    let apart = none-of-both html_raw_names html_block_names low (refl, (refl, (refl, (refl, tt)))) (sym (as-low html_raw_names name) ∙ h) in
    false≢true (sym apart ∙ sym (as-low html_block_names name) ∙ k)

raw-or-block : (r : List ℕ) → begins raw r ≡ true → begins block_tag r ≡ true → ⊥
raw-or-block r h k =
    let named = (and_parts (is_named html_raw_names (name_at (drop 1 r))) (ends_name (behind_name (drop 1 r))) (and_parts (starts_with (codes "<") r) (is_named html_raw_names (name_at (drop 1 r)) && ends_name (behind_name (drop 1 r))) h).1).0 in
    elim (or_cases (starts_with (codes "<") r && is_block_name (drop 1 r)) (starts_with (codes "</") r && is_block_name (drop 2 r)) k) [
      | inl one ↦ names-apart (name_at (drop 1 r)) named (and_parts (is_named html_block_names (name_at (drop 1 r))) _ (and_parts (starts_with (codes "<") r) (is_block_name (drop 1 r)) one).1).0
      | inr two ↦
          slash (drop 1 r) (behind-first 60 (drop 1 (codes "</")) r (and_parts (starts_with (codes "</") r) (is_block_name (drop 2 r)) two).0) (named-letter html_raw_names (drop 1 r) refl named)
    ]
  where
    slash : (t : List ℕ) → starts_with (47 ∷ []) t ≡ true → first_passes is_ascii_alphabetic t ≡ true → ⊥
    slash [] a b = false≢true a
    slash (c ∷ cs) a b = false≢true (subst (λ x. is_ascii_alphabetic x ≡ true) (sym (eqb-true 47 c (and_parts (47 == c) true a).0)) b)

abbrev Exclude : HtmlKind → HtmlKind → Type 0
Exclude a b = (a ≡ b) ⊎ (((has_own_name a ≡ true) × (b ≡ any_tag)) ⊎ ((a ≡ any_tag) × (has_own_name b ≡ true)))

same-html : (a b : HtmlKind) (r : List ℕ) → begins a r ≡ true → begins b r ≡ true → group_of_html a ≡ group_of_html b → Exclude a b
same-html raw raw r h k e = inl refl
same-html raw block_tag r h k e = absurd (raw-or-block r h k)
same-html raw any_tag r h k e = inr (inl (refl, refl))
same-html block_tag raw r h k e = absurd (raw-or-block r k h)
same-html block_tag block_tag r h k e = inl refl
same-html block_tag any_tag r h k e = inr (inl (refl, refl))
same-html any_tag raw r h k e = inr (inr (refl, refl))
same-html any_tag block_tag r h k e = inr (inr (refl, refl))
same-html any_tag any_tag r h k e = inl refl
same-html comment comment r h k e = inl refl
same-html cdata cdata r h k e = inl refl
same-html declaration declaration r h k e = inl refl
same-html instruction instruction r h k e = inl refl
same-html _ _ r h k e = absurd (omega (arith, e))

-- A line begins with one kind of HTML at most, but that some tags are also any tag
pub html-excludes : HtmlExcludes
html-excludes a b r h k = same-html a b r h k (sym (html-group a r h) ∙ html-group b r k)

-- ---- no order matters
apart : (a b : LineStart) (r : List ℕ) (x : Bool) → (group_of a ≡ group_of b → ⊥) → starts a r ≡ true → (x && starts b r) ≡ false
apart a b r x other h = and_right x (starts b r) (none-from b r (λ s. other (sym (starts-group a r h) ∙ starts-group b r s)))

not-some : (o : Option HtmlKind) → is_some o ≡ false → o ≡ None
not-some None h = refl
not-some (Some k) h = absurd (false≢true (sym h))

either-none : (b : Bool) (o : Option HtmlKind) → o ≡ None → cond b o None ≡ None
either-none true o h = h
either-none false o h = refl

pub kinds-have-no-order : KindsHaveNoOrder
kinds-have-no-order on columns r = record {
  headings = λ h. rw h refl;
  ticks = λ h.
      let is = (and_parts on.code_fenced (is_fence_of 96 r) h).1 in
      rw (apart ticks atx r on.heading_atx (λ e. omega (arith, e)) is, h) refl;
  tildes = λ h.
      let is = (and_parts on.code_fenced (is_fence_of 126 r) h).1 in
      rw (apart tildes atx r on.heading_atx (λ e. omega (arith, e)) is, apart tildes ticks r on.code_fenced (λ e. omega (arith, e)) is, h) refl;
  markup = λ kind flow h.
      let is : starts markup r ≡ true = ap is_some h in
      rw (apart markup atx r on.heading_atx (λ e. omega (arith, e)) is, apart markup ticks r on.code_fenced (λ e. omega (arith, e)) is, apart markup tildes r on.code_fenced (λ e. omega (arith, e)) is, flow, h) refl;
  breaks = λ h.
      let is = (and_parts on.thematic_break (is_thematic_break r) h).1 in
      let none = not-some (html_kind r) (none-from markup r (λ s. omega (arith, sym (starts-group line_break r is) ∙ starts-group markup r s))) in
      rw (
        apart line_break atx r on.heading_atx (λ e. omega (arith, e)) is,
        apart line_break ticks r on.code_fenced (λ e. omega (arith, e)) is,
        apart line_break tildes r on.code_fenced (λ e. omega (arith, e)) is,
        either-none on.html_flow (html_kind r) none,
        h,
      ) refl;
}
