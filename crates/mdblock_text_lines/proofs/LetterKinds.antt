-- What a line is that has a letter for its first byte that is not white space, and what an underline is not.
use Rattle.std.proofs.Common.{◌≡◌, ◌⊎◌, inl, inr, ℕ, suc, ◌+◌, Bool, true, false, cond, List, [], ◌∷◌, ◌++◌, ap, arith, drop, length, map, refl, subst, sym, ◌∙◌}
use Rattle.std.specs.Prelude.{◌==◌, ◌&&◌, ◌||◌, codes, is_some, nat_le, not, None, Option, Some}
use Rattle.std.specs.List.{AllByRecursion, list_any}
use Rattle.std.proofs.Math.Bool.{and-false}
use Rattle.std.proofs.lemmas.Bool.{false≢true, and_parts, eqb-true}
use Rattle.markdown_base.specs.declared.configuration.Constructs.{Constructs}
use Rattle.mdconstructs_tables.specs.Breaks.{is_white}
use Rattle.mdblock_leaf_blocks.specs.HtmlLines.{HtmlKind, any_tag, block_tag, cdata, comment, declaration, ends, holds, html_kind, instruction, lower, raw, starts_with}
use Rattle.mdblock_leaf_blocks.specs.LineKinds.{Fence, LineKind, blank, closes, fence, heading, html, indent, indented, is_atx_heading, is_blank_line, is_far, is_fence_of, is_thematic_break, is_underline_of_marks, kind_of_rest, line_kind, run, text, thematic_break, underline_rank, unindented}
use Rattle.mdblock_containers.proofs.WrittenLemmas.{cond_none}

-- ---- white space, a byte that is none, and more
module _ (w : List ℕ) (all : AllByRecursion (λ (b : ℕ). is_white b ≡ true) w) (x : ℕ) (r : List ℕ) (plain : is_white x ≡ false) where
  abbrev whole : List ℕ
  whole = w ++ x ∷ r

  pub indent-is : indent whole ≡ length w
  indent-is = on w all
    where
      on : (w : List ℕ) → AllByRecursion (λ (b : ℕ). is_white b ≡ true) w → indent (w ++ x ∷ r) ≡ length w
      on [] h = ap (λ c. cond c (1 + indent r) 0) plain
      on (b ∷ bs) h = let more = on bs h.1 in ap (λ c. cond c (1 + indent (bs ++ x ∷ r)) 0) h.0 ∙ omega (arith, more)

  pub rest-is : unindented whole ≡ x ∷ r
  rest-is = ap (λ n. drop n whole) indent-is ∙ on w
    where
      on : (w : List ℕ) → drop (length w) (w ++ x ∷ r) ≡ x ∷ r
      on [] = refl
      on (b ∷ bs) = on bs

  pub blank-is : is_blank_line whole ≡ false
  blank-is = on w
    where
      on : (w : List ℕ) → is_blank_line (w ++ x ∷ r) ≡ false
      on [] = ap (λ c. c && is_blank_line r) plain
      on (b ∷ bs) = ap (λ c. is_white b && c) (on bs) ∙ and-false (is_white b)

  pub far-is : (on : Constructs) → is_far on whole ≡ (on.code_indented && nat_le 4 (length w))
  far-is on = ap (λ n. on.code_indented && nat_le 4 n) indent-is

  -- it closes no fence of another byte, and is no run of one
  pub run-is : (q : ℕ) → (x == q) ≡ false → run q (unindented whole) ≡ 0
  run-is q other = ap (run q) rest-is ∙ ap (λ c. cond c (1 + run q r) 0) other

  pub closes-is : (on : Constructs) (f : Fence) → (x == f.byte) ≡ false → closes on f whole ≡ false
  closes-is on f other =
      (λ i. not (is_far on whole) && (nat_le f.size (run-is f.byte other i) && is_blank_line (drop (run-is f.byte other i) (rest-is i))))
      ∙ (λ i. not (is_far on whole) && (nat_le f.size 0 && (plain i && is_blank_line r)))
      ∙ (λ i. not (is_far on whole) && and-false (nat_le f.size 0) i) ∙ and-false (not (is_far on whole))

-- ---- a letter
pick : {A : Type 0} (a : Bool) (x y : A) → cond (a && false) x y ≡ y
pick true x y = refl
pick false x y = refl

module _ (on : Constructs) where
  kind-of-letter : (n : ℕ) (r : List ℕ) → kind_of_rest on n (97 ∷ r) ≡ text
  kind-of-letter n r = by on.heading_atx on.code_fenced on.html_flow on.thematic_break
    where
      t : List ℕ
      t = 97 ∷ r

      broken : (d : Bool) → cond (d && is_thematic_break t) thematic_break text ≡ text
      broken d = pick d thematic_break text

      marked : (c d : Bool) → (elim (cond c (html_kind t) None) as (λ _. LineKind) [ Some kind ↦ html kind | None ↦ cond (d && is_thematic_break t) thematic_break text ]) ≡ text
      marked true d = broken d
      marked false d = broken d

      fenced : (b c d : Bool) →
          cond (b && is_fence_of 96 t) (fence (record { byte = 96; size = run 96 t; indent = n }))
          (cond (b && is_fence_of 126 t) (fence (record { byte = 126; size = run 126 t; indent = n }))
          (elim (cond c (html_kind t) None) as (λ _. LineKind) [ Some kind ↦ html kind | None ↦ cond (d && is_thematic_break t) thematic_break text ])) ≡ text
      fenced true c d = marked c d
      fenced false c d = marked c d

      by : (a b c d : Bool) →
          cond (a && is_atx_heading t) heading
          (cond (b && is_fence_of 96 t) (fence (record { byte = 96; size = run 96 t; indent = n }))
          (cond (b && is_fence_of 126 t) (fence (record { byte = 126; size = run 126 t; indent = n }))
          (elim (cond c (html_kind t) None) as (λ _. LineKind) [ Some kind ↦ html kind | None ↦ cond (d && is_thematic_break t) thematic_break text ]))) ≡ text
      by true b c d = fenced b c d
      by false b c d = fenced b c d

  module _ (w : List ℕ) (all : AllByRecursion (λ (b : ℕ). is_white b ≡ true) w) (r : List ℕ) where
    abbrev lettered : List ℕ
    lettered = w ++ 97 ∷ r

    pub letter-kind : (on.code_indented && nat_le 4 (length w)) ≡ false → line_kind on lettered ≡ text
    letter-kind near =
        (λ i. cond (blank-is w all 97 r refl i) blank (cond (far-is w all 97 r refl on i) indented (kind_of_rest on (indent lettered) (rest-is w all 97 r refl i))))
        ∙ ap (λ c. cond c indented (kind_of_rest on (indent lettered) (97 ∷ r))) near ∙ kind-of-letter (indent lettered) r

    pub letter-rank : underline_rank on lettered ≡ None
    letter-rank =
        (λ i. let u = rest-is w all 97 r refl i in cond (is_far on lettered || not on.heading_setext) None (cond (is_underline_of_marks 61 u) (Some 1) (cond (is_underline_of_marks 45 u) (Some 2) None)))
        ∙ cond_none (is_far on lettered || not on.heading_setext)

  -- ---- underlines
  -- An underline is not far to the right, and of one mark
  pub underline-is : (t : List ℕ) → is_some (underline_rank on t) ≡ true → (m : ℕ) × ((m ≡ 61) ⊎ (m ≡ 45)) × (is_underline_of_marks m (unindented t) ≡ true) × (is_far on t ≡ false)
  underline-is t e = by (is_far on t) (not on.heading_setext) (is_underline_of_marks 61 (unindented t)) (is_underline_of_marks 45 (unindented t)) refl refl refl e
    where
      by : (f n a c : Bool) → is_far on t ≡ f → is_underline_of_marks 61 (unindented t) ≡ a → is_underline_of_marks 45 (unindented t) ≡ c → is_some {T = ℕ} (cond (f || n) None (cond a (Some 1) (cond c (Some 2) None))) ≡ true
          → (m : ℕ) × ((m ≡ 61) ⊎ (m ≡ 45)) × (is_underline_of_marks m (unindented t) ≡ true) × (is_far on t ≡ false)
      by true n a c ef ea ec h = absurd (false≢true h)
      by false true a c ef ea ec h = absurd (false≢true h)
      by false false true c ef ea ec h = (61, inl refl, ea, ef)
      by false false false true ef ea ec h = (45, inr refl, ec, ef)
      by false false false false ef ea ec h = absurd (false≢true h)

-- ---- bytes that end no HTML
-- neither it nor its small letter is `>`
abbrev pub IsCalm : ℕ → Type 0
IsCalm b = ((62 == b) ≡ false) × ((62 == lower b) ≡ false)

white-calm : (b : ℕ) → is_white b ≡ true → IsCalm b
white-calm b h = by (b == 32) refl h
  where
    by : (x : Bool) → (b == 32) ≡ x → (x || (b == 9)) ≡ true → IsCalm b
    by true e k = subst IsCalm (sym (eqb-true b 32 e)) (refl, refl)
    by false e k = subst IsCalm (sym (eqb-true b 9 k)) (refl, refl)

pub mark-calm : (m : ℕ) → (m ≡ 61) ⊎ (m ≡ 45) → IsCalm m
mark-calm m (inl e) = subst IsCalm (sym e) (refl, refl)
mark-calm m (inr e) = subst IsCalm (sym e) (refl, refl)

pub whites-calm : (t : List ℕ) → is_blank_line t ≡ true → AllByRecursion IsCalm t
whites-calm [] h = tt
whites-calm (b ∷ bs) h = let both = and_parts (is_white b) (is_blank_line bs) h in (white-calm b both.0, whites-calm bs both.1)

pub all-white-calm : (t : List ℕ) → AllByRecursion (λ (b : ℕ). is_white b ≡ true) t → AllByRecursion IsCalm t
all-white-calm [] h = tt
all-white-calm (b ∷ bs) h = (white-calm b h.0, all-white-calm bs h.1)

pub marks-calm : (m : ℕ) → IsCalm m → (r : List ℕ) → is_blank_line (drop (run m r) r) ≡ true → AllByRecursion IsCalm r
marks-calm m calm [] h = tt
marks-calm m calm (b ∷ bs) h = by (marks-calm m calm bs) (b == m) refl h
  where
    by : (is_blank_line (drop (run m bs) bs) ≡ true → AllByRecursion IsCalm bs) → (x : Bool) → (b == m) ≡ x → is_blank_line (drop (cond x (1 + run m bs) 0) (b ∷ bs)) ≡ true → AllByRecursion IsCalm (b ∷ bs)
    by more true e k =
        let on : 1 + run m bs ≡ suc (run m bs) = omega arith in
        (subst IsCalm (sym (eqb-true b m e)) calm, more (sym (ap (λ n. is_blank_line (drop n (b ∷ bs))) on) ∙ k))
    by more false e k = whites-calm (b ∷ bs) k

abbrev HasIt : List ℕ → Type 0
HasIt bs = list_any (λ b. b == 62) bs ≡ true

abbrev NoneIs : List ℕ → Type 0
NoneIs t = AllByRecursion (λ (c : ℕ). (62 == c) ≡ false) t

starts-not : (bs t : List ℕ) → HasIt bs → NoneIs t → starts_with bs t ≡ false
starts-not [] t h k = absurd (false≢true h)
starts-not (b ∷ bs) [] h k = refl
starts-not (b ∷ bs) (c ∷ cs) h k = by (λ g. starts-not bs cs g k.1) (b == 62) refl h
  where
    by : (HasIt bs → starts_with bs cs ≡ false) → (x : Bool) → (b == 62) ≡ x → (x || list_any (λ b. b == 62) bs) ≡ true → ((b == c) && starts_with bs cs) ≡ false
    by more true e g = ap (λ y. (y == c) && starts_with bs cs) (eqb-true b 62 e) ∙ ap (λ y. y && starts_with bs cs) k.0
    by more false e g = ap (λ y. (b == c) && y) (more g) ∙ and-false (b == c)

holds-not : (bs t : List ℕ) → HasIt bs → NoneIs t → holds bs t ≡ false
holds-not bs [] h k = starts-not bs [] h k
holds-not bs (c ∷ cs) h k = (λ i. starts-not bs (c ∷ cs) h k i || holds-not bs cs h k.1 i)

none-of : (t : List ℕ) → AllByRecursion IsCalm t → NoneIs t
none-of [] h = tt
none-of (b ∷ bs) h = (h.0.0, none-of bs h.1)

none-small : (t : List ℕ) → AllByRecursion IsCalm t → NoneIs (map lower t)
none-small [] h = tt
none-small (b ∷ bs) h = (h.0.1, none-small bs h.1)

-- So a line of such bytes ends no HTML
pub ends-not : (kind : HtmlKind) (t : List ℕ) → AllByRecursion IsCalm t → ends kind t ≡ false
ends-not raw t h =
    let l = map lower t in
    let k = none-small t h in
    (λ i. holds-not (codes "</pre>") l refl k i || (holds-not (codes "</script>") l refl k i || (holds-not (codes "</style>") l refl k i || holds-not (codes "</textarea>") l refl k i)))
ends-not comment t h = holds-not (codes "-->") t refl (none-of t h)
ends-not instruction t h = holds-not (codes "?>") t refl (none-of t h)
ends-not declaration t h = holds-not (codes ">") t refl (none-of t h)
ends-not cdata t h = holds-not (codes "]]>") t refl (none-of t h)
ends-not block_tag t h = refl
ends-not any_tag t h = refl

-- ---- fences
abbrev pub IsFenceByte : ℕ → Type 0
IsFenceByte b = (b ≡ 96) ⊎ (b ≡ 126)

abbrev fence_byte : LineKind → ℕ
fence_byte (fence f) = f.byte
fence_byte _ = 96

pub mark-no-fence : (m q : ℕ) → (m ≡ 61) ⊎ (m ≡ 45) → IsFenceByte q → (m == q) ≡ false
mark-no-fence m q (inl e) (inl f) = (λ i. e i == f i)
mark-no-fence m q (inl e) (inr f) = (λ i. e i == f i)
mark-no-fence m q (inr e) (inl f) = (λ i. e i == f i)
mark-no-fence m q (inr e) (inr f) = (λ i. e i == f i)

pub letter-no-fence : (q : ℕ) → IsFenceByte q → (97 == q) ≡ false
letter-no-fence q (inl f) = (λ i. 97 == f i)
letter-no-fence q (inr f) = (λ i. 97 == f i)

module _ (on : Constructs) where
  rest-fences : (n : ℕ) (r : List ℕ) → IsFenceByte (fence_byte (kind_of_rest on n r))
  rest-fences n r = by (on.heading_atx && is_atx_heading r) (on.code_fenced && is_fence_of 96 r) (on.code_fenced && is_fence_of 126 r) (cond on.html_flow (html_kind r) None) (on.thematic_break && is_thematic_break r)
    where
      by : (a b c : Bool) (o : Option HtmlKind) (d : Bool) →
          IsFenceByte (fence_byte (cond a heading
          (cond b (fence (record { byte = 96; size = run 96 r; indent = n }))
          (cond c (fence (record { byte = 126; size = run 126 r; indent = n }))
          (elim o as (λ _. LineKind) [ Some kind ↦ html kind | None ↦ cond d thematic_break text ])))))
      by true b c o d = inl refl
      by false true c o d = inl refl
      by false false true o d = inr refl
      by false false false (Some kind) d = inl refl
      by false false false None true = inl refl
      by false false false None false = inl refl

  kind-fences : (t : List ℕ) → IsFenceByte (fence_byte (line_kind on t))
  kind-fences t = by (is_blank_line t) (is_far on t)
    where
      by : (a b : Bool) → IsFenceByte (fence_byte (cond a blank (cond b indented (kind_of_rest on (indent t) (unindented t)))))
      by true b = inl refl
      by false true = inl refl
      by false false = rest-fences (indent t) (unindented t)

  -- the byte of a fence
  pub fence-byte : (t : List ℕ) (f : Fence) → line_kind on t ≡ fence f → IsFenceByte f.byte
  fence-byte t f e = subst IsFenceByte (ap fence_byte e) (kind-fences t)
