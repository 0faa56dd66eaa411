-- What is said of the sections of rows, row by row: of rows behind others it is what is said of both, if no paragraph goes on from the first to the second.
use Rattle.std.proofs.Math.Bool.{and-false}
use Rattle.std.proofs.Math.Seq.{drop-append-add, drop-length, take-append-add, take-length, drop-nil, take-nil}
use Rattle.std.proofs.lemmas.Bool.{le-leb}
use Rattle.std.proofs.Common.{Bool, List, [], ap, append_assoc, arith, cond, drop, false, inl, inr, length, length-append, length-drop, length-take, refl, subst, sym, take, true, zero, ℕ, suc, ◌+◌, ◌++◌, ◌<◌, ◌≤◌, ◌⊎◌, nat_le, not, ◌&&◌, ◌||◌, ◌∙◌, ◌∷◌, ◌≡◌}
use Rattle.std.proofs.lemmas.Grind.{flat_map-append}
use Rattle.std.proofs.lemmas.List.{append-nil, drop-append-le, take-append-drop, take-append-le}
use Rattle.std.proofs.lemmas.List.Sums.{prefix_len-le-length}
use Rattle.std.specs.List.{AllByRecursion, flat_map, prefix_len}
use Rattle.markdown_base.proofs.Common.{every-drop}
use Rattle.markdown_base.proofs.Facts.Bools.{cond-same}
use Rattle.markdown_base.specs.declared.configuration.Constructs.{Constructs}
use Rattle.mdinline_labels.specs.declared.definitions.Definition.{Definition}
use Rattle.mdinline_labels.specs.Definitions.{definitions}
pub use Rattle.mdblock_containers.proofs.RestLemmas.{further_few as further-within}
use Rattle.mdblock_containers.specs.Rows.{Row, is_paragraph}
use Rattle.mdblock_containers.specs.Skeleton.{further}
use Rattle.mdblock_definitions.specs.Sections.{before_defined, begins_text, defined_in, is_in_table, lines_defined, paragraph_of, text_in}
use Rattle.mdblock_table_marks.proofs.TableCuts.{cuts_need_tables}
use Rattle.mdblock_table_marks.specs.TableCuts.{Cut, before_table, table_lines, tabled, untabled}
use Rattle.mdblock_definitions.proofs.Covered.{fewer-left}
use Rattle.mdblock_definitions.proofs.SectionLemmas.{few-lines}
use Rattle.mddocument_parts.proofs.CutsJoined.{CutsJoin, behind_table, cut_seam, cuts, cuts-fuel, cuts-join, cuts-none, cuts_apart}
use Rattle.mddocument_parts.specs.JoinedStretches.{AllStay}

-- ---- a paragraph that goes on from rows to others

-- it is open behind the last of the first rows, or before them if there are none; and the others begin with text
abbrev pub joined : (in_paragraph : Bool) → List Row → List Row → Bool
joined p [] y = p && begins_text y
joined p (r ∷ x) y = joined (is_paragraph r.leaf) x y

joined-some : (p q : Bool) (x y : List Row) → 1 ≤ length x → joined p x y ≡ joined q x y
joined-some p q [] y h = absurd (omega (arith, h))
joined-some p q (r ∷ x) y h = refl

pub joined-drop : (p q : Bool) (n : ℕ) (x y : List Row) → n < length x → joined p x y ≡ joined q (drop n x) y
joined-drop p q zero x y h = joined-some p q x y (omega (arith, h))
joined-drop p q (suc n) [] y h = absurd (omega (arith, h))
joined-drop p q (suc n) (r ∷ x) y h = joined-drop (is_paragraph r.leaf) q n x y (omega (arith, h))

-- whatever the first of the others has behind it; and behind some of the first rows
pub joined-begin : (p : Bool) (x : List Row) (r : Row) (a b : List Row) → joined p x (r ∷ a) ≡ joined p x (r ∷ b)
joined-begin p [] r a b = refl
joined-begin p (q ∷ x) r a b = joined-begin (is_paragraph q.leaf) x r a b

pub joined-nothing : (p : Bool) (x : List Row) → joined p x [] ≡ false
joined-nothing p [] = and-false p
joined-nothing p (q ∷ x) = joined-nothing (is_paragraph q.leaf) x

pub joined-taken : (n : ℕ) (x : List Row) (r : Row) (rs : List Row) → joined false x (r ∷ rs) ≡ false → joined false x (take n (r ∷ rs)) ≡ false
joined-taken zero x r rs h = joined-nothing false x
joined-taken (suc n) x r rs h = joined-begin false x r (take n rs) rs ∙ h

joined-left : (p : Bool) (n : ℕ) (x y : List Row) → joined p x y ≡ false → joined false (drop n x) y ≡ false
joined-left p zero [] y h = refl
joined-left p zero (q ∷ x) y h = h
joined-left p (suc n) [] y h = refl
joined-left p (suc n) (q ∷ x) y h = joined-left (is_paragraph q.leaf) n x y h

pub joined-behind-table : (x y : List Row) → joined false x y ≡ false → joined false (behind_table x) y ≡ false
joined-behind-table x y h =
    let n = before_table is_in_table x in
    let z = drop n x in
    joined-left false (table_lines is_in_table z) z y (joined-left false n x y h)

abbrev is_text_row : Row → Bool
is_text_row row = is_paragraph row.leaf

-- behind rows of a paragraph it is open
pub joined-behind : (d : ℕ) (x y : List Row) → d ≤ prefix_len is_text_row x → joined true x y ≡ joined true (drop d x) y
joined-behind zero x y h = refl
joined-behind (suc d) [] y h = refl
joined-behind (suc d) (r ∷ x) y h = by (is_paragraph r.leaf) refl h (joined-behind d x y)
  where
    by : (b : Bool) → is_paragraph r.leaf ≡ b → suc d ≤ cond b (1 + prefix_len is_text_row x) 0 → (d ≤ prefix_len is_text_row x → joined true x y ≡ joined true (drop d x) y) → joined (is_paragraph r.leaf) x y ≡ joined true (drop d x) y
    by true e k more = ap (λ b. joined b x y) e ∙ more (omega (arith, k))
    by false e k more = absurd (omega (arith, k))

one-more : {A : Type 0} (n : ℕ) (x : A) (xs : List A) → take (1 + n) (x ∷ xs) ≡ x ∷ take n xs
one-more n x xs = let same : 1 + n ≡ suc n = omega arith in ap (λ m. take m (x ∷ xs)) same

pub paragraph-apart : (x y : List Row) → joined true x y ≡ false → paragraph_of (x ++ y) ≡ paragraph_of x
paragraph-apart [] [] h = refl
paragraph-apart [] (r ∷ y) h = ap (λ b. take (cond b (1 + prefix_len is_text_row y) 0) (r ∷ y)) h
paragraph-apart (r ∷ x) y h = by (is_paragraph r.leaf) refl (paragraph-apart x y)
  where
    by : (b : Bool) → is_paragraph r.leaf ≡ b → (joined true x y ≡ false → paragraph_of (x ++ y) ≡ paragraph_of x)
        → take (cond b (1 + prefix_len is_text_row (x ++ y)) 0) (r ∷ (x ++ y)) ≡ take (cond b (1 + prefix_len is_text_row x) 0) (r ∷ x)
    by true e more =
        one-more (prefix_len is_text_row (x ++ y)) r (x ++ y) ∙ ap (λ l. r ∷ l) (more (sym (ap (λ b. joined b x y) e) ∙ h)) ∙ sym (one-more (prefix_len is_text_row x) r x)
    by false e more = refl

-- rows that begin with no text, and the first of them
pub text-taken : (b : Bool) (n : ℕ) (y : List Row) → (b && begins_text y) ≡ false → (b && begins_text (take n y)) ≡ false
text-taken false n y e = refl
text-taken true zero y e = refl
text-taken true (suc n) [] e = refl
text-taken true (suc n) (r ∷ y) e = e

module _ (on : Constructs) where
  pub defined-apart : (x y : List Row) → joined true x y ≡ false → defined_in on (x ++ y) ≡ defined_in on x
  defined-apart x y h = ap (λ ps. cond on.definition (lines_defined (text_in ps)) 0) (paragraph-apart x y h)

  pub defined-within : (rs : List Row) → defined_in on rs ≤ prefix_len is_text_row rs
  defined-within rs = by on.definition
    where
      few : lines_defined (text_in (paragraph_of rs)) ≤ prefix_len is_text_row rs
      few = let size = few-lines (paragraph_of rs) in let front = length-take (prefix_len is_text_row rs) rs in omega (arith, size, front)

      by : (b : Bool) → cond b (lines_defined (text_in (paragraph_of rs))) 0 ≤ prefix_len is_text_row rs
      by true = few
      by false = omega arith

  -- whether a paragraph is open before rows that do not begin with text does not matter
  before-any : (p : Bool) (y : List Row) → (p && begins_text y) ≡ false → before_defined on p y ≡ before_defined on false y
  before-any false y h = refl
  before-any true [] h = refl
  before-any true (r ∷ y) h =
      let none : defined_in on (r ∷ y) ≡ 0 = ap (λ b. cond on.definition (lines_defined (text_in (take (cond b (1 + prefix_len is_text_row y) 0) (r ∷ y)))) 0) h ∙ cond-same on.definition 0 in
      let later = before_defined on (is_paragraph r.leaf) y in
      sym (ap (λ n. cond (nat_le 1 n) 0 (suc later)) none)

  -- where definitions begin in the first rows, or in the second
  abbrev pub Apart : (p : Bool) → (x y : List Row) → Type 0
  Apart p x y = ((before_defined on p x < length x) × (before_defined on p (x ++ y) ≡ before_defined on p x))
      ⊎ ((before_defined on p x ≡ length x) × (before_defined on p (x ++ y) ≡ length x + before_defined on false y))

  pub before-apart : (p : Bool) (x y : List Row) → joined p x y ≡ false → Apart p x y
  before-apart p [] y h = let sum : before_defined on false y ≡ 0 + before_defined on false y = omega arith in inr (refl, before-any p y h ∙ sum)
  before-apart p (r ∷ x) y h =
      let same = defined-apart (r ∷ x) y h in
      let later = before-apart (is_paragraph r.leaf) x y h in
      subst (λ n. ((before_defined on p (r ∷ x) < suc (length x)) × (cond (not p && nat_le 1 n) 0 (suc (before_defined on (is_paragraph r.leaf) (x ++ y))) ≡ before_defined on p (r ∷ x)))
      ⊎ ((before_defined on p (r ∷ x) ≡ suc (length x)) × (cond (not p && nat_le 1 n) 0 (suc (before_defined on (is_paragraph r.leaf) (x ++ y))) ≡ suc (length x) + before_defined on false y))) (sym same)
      (by (not p && nat_le 1 (defined_in on (r ∷ x))) later)
    where
      by : (b : Bool) → Apart (is_paragraph r.leaf) x y
          → ((cond b 0 (suc (before_defined on (is_paragraph r.leaf) x)) < suc (length x)) × (cond b 0 (suc (before_defined on (is_paragraph r.leaf) (x ++ y))) ≡ cond b 0 (suc (before_defined on (is_paragraph r.leaf) x))))
          ⊎ ((cond b 0 (suc (before_defined on (is_paragraph r.leaf) x)) ≡ suc (length x)) × (cond b 0 (suc (before_defined on (is_paragraph r.leaf) (x ++ y))) ≡ suc (length x) + before_defined on false y))
      by true k = inl (omega arith, refl)
      by false (inl k) = let few = k.0 in inl (omega (arith, few), ap suc k.1)
      by false (inr k) = let whole = k.0 in let both = k.1 in inr (omega (arith, whole), omega (arith, both))

-- ---- what is said of sections, row by row: of rows that leaf blocks are read from, and of definitions
module _ {A : Type 0} (on : Constructs) (h : Bool → Row → List A) (d : List Definition → List Row → List A) where
  abbrev pub of_rows : Bool → List Row → List A
  of_rows b [] = []
  of_rows b (r ∷ rs) = h b r ++ flat_map (h false) rs

  abbrev pub of_definitions : List Definition → List Row → List A
  of_definitions ds [] = []
  of_definitions ds (r ∷ rs) = d ds (r ∷ rs)

  abbrev pub of_lines : (bound : ℕ) → Bool → List Row → List A
  of_lines zero b rows = []
  of_lines (suc bound) b [] = []
  of_lines (suc bound) b (row ∷ rows) =
      let all = row ∷ rows in
      let n = before_defined on false all in
      let behind = drop n all in
      let k = defined_in on behind in
      of_rows (b && begins_text (take n all)) (take n all) ++ (of_definitions (definitions (text_in (paragraph_of behind))) (take k behind) ++ of_lines bound true (drop k behind))

  -- more bound changes nothing
  of-lines-fuel : (b c : ℕ) (p : Bool) (rows : List Row) → length rows ≤ b → length rows ≤ c → of_lines b p rows ≡ of_lines c p rows
  of-lines-fuel zero zero p rows l m = refl
  of-lines-fuel zero (suc c) p [] l m = refl
  of-lines-fuel zero (suc c) p (r ∷ rs) l m = absurd (omega (arith, l))
  of-lines-fuel (suc b) zero p [] l m = refl
  of-lines-fuel (suc b) zero p (r ∷ rs) l m = absurd (omega (arith, m))
  of-lines-fuel (suc b) (suc c) p [] l m = refl
  of-lines-fuel (suc b) (suc c) p (r ∷ rs) l m =
      let all = r ∷ rs in
      let n = before_defined on false all in
      let behind = drop n all in
      let k = defined_in on behind in
      ap (λ r. of_rows (p && begins_text (take n all)) (take n all) ++ (of_definitions (definitions (text_in (paragraph_of behind))) (take k behind) ++ r))
      (of-lines-fuel b c true (drop k behind) (fewer-left on r rs b l) (fewer-left on r rs c m))

  rows-append : (b : Bool) (x u : List Row) → 1 ≤ length x → of_rows b (x ++ u) ≡ of_rows b x ++ of_rows false u
  rows-append b [] u l = absurd (omega (arith, l))
  rows-append b (r ∷ x) [] l = ap (of_rows b) (append-nil (r ∷ x)) ∙ sym (append-nil (of_rows b (r ∷ x)))
  rows-append b (r ∷ x) (q ∷ u) l =
      ap (λ l. h b r ++ l) (flat_map-append (h false) x (q ∷ u)) ∙ sym (append_assoc (h b r) (flat_map (h false) x) (flat_map (h false) (q ∷ u)))

  -- rows that do not begin with text: whether definitions come before them does not matter
  lines-any : (bound : ℕ) (b : Bool) (y : List Row) → (b && begins_text y) ≡ false → of_lines bound b y ≡ of_lines bound false y
  lines-any zero b y e = refl
  lines-any (suc bound) b [] e = refl
  lines-any (suc bound) b (r ∷ y) e =
      let all = r ∷ y in
      let n = before_defined on false all in
      let behind = drop n all in
      let k = defined_in on behind in
      ap (λ b. of_rows b (take n all) ++ (of_definitions (definitions (text_in (paragraph_of behind))) (take k behind) ++ of_lines bound true (drop k behind))) (text-taken b n all e)

  lines-none : (b : ℕ) (p : Bool) → of_lines b p [] ≡ []
  lines-none zero p = refl
  lines-none (suc b) p = refl

  -- what comes behind the definitions that begin behind so many lines
  abbrev from_defined : (bound : ℕ) → (behind : List Row) → List A
  from_defined bound behind = of_definitions (definitions (text_in (paragraph_of behind))) (take (defined_in on behind) behind) ++ of_lines bound true (drop (defined_in on behind) behind)

  from-none : (b : ℕ) → from_defined b [] ≡ []
  from-none b = let n = defined_in on [] in (λ i. of_definitions (definitions (text_in (paragraph_of []))) (take-nil n i) ++ of_lines b true (drop-nil n i)) ∙ lines-none b true

  abbrev cut_at : (bound : ℕ) → Bool → (n : ℕ) → List Row → List A
  cut_at bound p n all = of_rows (p && begins_text (take n all)) (take n all) ++ from_defined bound (drop n all)

  -- lines in which no definitions begin
  lines-plain : (b : ℕ) (p : Bool) (q : Row) (x : List Row) → before_defined on false (q ∷ x) ≡ length (q ∷ x) → of_lines (suc b) p (q ∷ x) ≡ of_rows (p && begins_text (q ∷ x)) (q ∷ x)
  lines-plain b p q x whole =
      let all = q ∷ x in
      ap (λ n. cut_at b p n all) whole
      ∙ (λ i. of_rows (p && begins_text (take-length all i)) (take-length all i) ++ from_defined b (drop-length all i))
      ∙ ap (λ l. of_rows (p && begins_text all) all ++ l) (from-none b)
      ∙ append-nil (of_rows (p && begins_text all) all)

  -- lines behind lines in which no definitions begin
  lines-last : (c b b2 : ℕ) (p : Bool) (q : Row) (x : List Row) (r : Row) (rs : List Row) → length (q ∷ (x ++ (r ∷ rs))) ≤ suc c → length (r ∷ rs) ≤ suc b2
      → before_defined on false (q ∷ x) ≡ length (q ∷ x) → before_defined on false (q ∷ (x ++ (r ∷ rs))) ≡ length (q ∷ x) + before_defined on false (r ∷ rs)
      → of_lines (suc c) p (q ∷ (x ++ (r ∷ rs))) ≡ of_lines (suc b) p (q ∷ x) ++ of_lines (suc b2) false (r ∷ rs)
  lines-last c b b2 p q x r rs l m2 whole both =
      let all = q ∷ x in
      let y = r ∷ rs in
      let n = before_defined on false y in
      let behind = drop n y in
      let k = defined_in on behind in
      let left = drop k behind in
      let front = lines-plain b p q x whole in
      let size = length-append x y in
      let back = fewer-left on r rs (length rs) (omega arith) in
      let few : length left ≤ c = omega (arith, l, size, back) in
      let fuel : from_defined b2 behind ≡ from_defined c behind = ap (λ l. of_definitions (definitions (text_in (paragraph_of behind))) (take k behind) ++ l) (of-lines-fuel b2 c true left (fewer-left on r rs b2 m2) few) in
      ap (λ n. cut_at c p n (all ++ y)) both
      ∙ (λ i. of_rows (p && begins_text (take-append-add all y n i)) (take-append-add all y n i) ++ from_defined c (drop-append-add all y n i))
      ∙ ap (λ l. l ++ from_defined c behind) (rows-append (p && begins_text all) all (take n y) (omega arith))
      ∙ append_assoc (of_rows (p && begins_text all) all) (of_rows false (take n y)) (from_defined c behind)
      ∙ (λ i. sym front i ++ (of_rows false (take n y) ++ sym fuel i))

  -- lines behind others, if no paragraph goes on from the first to the second
  pub lines-append : (c b b2 : ℕ) (p : Bool) (x y : List Row) → length (x ++ y) ≤ c → length x ≤ b → length y ≤ b2 → joined p x y ≡ false → of_lines c p (x ++ y) ≡ of_lines b p x ++ of_lines b2 false y
  lines-append c b b2 p [] y l m m2 e = lines-any c p y e ∙ of-lines-fuel c b2 false y l m2 ∙ ap (λ l. l ++ of_lines b2 false y) (sym (lines-none b p))
  lines-append zero b b2 p (q ∷ x) y l m m2 e = absurd (omega (arith, l))
  lines-append (suc c) zero b2 p (q ∷ x) y l m m2 e = absurd (omega (arith, m))
  lines-append (suc c) (suc b) b2 p (q ∷ x) [] l m m2 e =
      ap (of_lines (suc c) p) (append-nil (q ∷ x))
      ∙ of-lines-fuel (suc c) (suc b) p (q ∷ x) (let size = length-append x [] in omega (arith, l, size)) m
      ∙ sym (ap (λ l. of_lines (suc b) p (q ∷ x) ++ l) (lines-none b2 false) ∙ append-nil (of_lines (suc b) p (q ∷ x)))
  lines-append (suc c) (suc b) zero p (q ∷ x) (r ∷ rs) l m m2 e = absurd (omega (arith, m2))
  lines-append (suc c) (suc b) (suc b2) p (q ∷ x) (r ∷ rs) l m m2 e =
      let y = r ∷ rs in
      let all = q ∷ x in
      let n = before_defined on false all in
      let z = drop n all in
      let k = defined_in on z in
      let left = drop k z in
      let back = fewer-left on q x b m in
      let size = length-append x y in
      let size2 = length-append left y in
      let back2 = fewer-left on q x (length x) (omega arith) in
      by (before-apart on false all y e) (λ h. lines-append c b (suc b2) true left y (omega (arith, l, size, size2, back2)) back m2 h)
    where
      by : Apart on false (q ∷ x) (r ∷ rs)
          → (let left = drop (defined_in on (drop (before_defined on false (q ∷ x)) (q ∷ x))) (drop (before_defined on false (q ∷ x)) (q ∷ x)) in
          joined true left (r ∷ rs) ≡ false → of_lines c true (left ++ (r ∷ rs)) ≡ of_lines b true left ++ of_lines (suc b2) false (r ∷ rs))
          → of_lines (suc c) p (q ∷ (x ++ (r ∷ rs))) ≡ of_lines (suc b) p (q ∷ x) ++ of_lines (suc b2) false (r ∷ rs)
      by (inr h) more = lines-last c b b2 p q x r rs l m2 h.0 h.1
      by (inl h) more =
          let y = r ∷ rs in
          let all = q ∷ x in
          let n = before_defined on false all in
          let z = drop n all in
          let k = defined_in on z in
          let apart : joined true z y ≡ false = sym (joined-drop false true n all y h.0) ∙ e in
          let within = defined-within on z in
          let size = prefix_len-le-length is_text_row z in
          let inside : k ≤ length z = omega (arith, within, size) in
          let few : n ≤ length all = let less = h.0 in omega (arith, less) in
          let front = of_rows (p && begins_text (take n all)) (take n all) in
          let text = paragraph-apart z y apart in
          let many = defined-apart on z y apart in
          let rest : from_defined c (z ++ y) ≡ from_defined b z ++ of_lines (suc b2) false y =
          (λ i. of_definitions (definitions (text_in (text i))) (take (many i) (z ++ y)) ++ of_lines c true (drop (many i) (z ++ y)))
          ∙ (λ i. of_definitions (definitions (text_in (paragraph_of z))) (take-append-le k z y inside i) ++ of_lines c true (drop-append-le k z y inside i))
          ∙ ap (λ l. of_definitions (definitions (text_in (paragraph_of z))) (take k z) ++ l) (more (sym (joined-behind k z y within) ∙ apart))
          ∙ sym (append_assoc (of_definitions (definitions (text_in (paragraph_of z))) (take k z)) (of_lines b true (drop k z)) (of_lines (suc b2) false y)) in
          ap (λ n. cut_at c p n (all ++ y)) h.1
          ∙ (λ i. of_rows (p && begins_text (take-append-le n all y few i)) (take-append-le n all y few i) ++ from_defined c (drop-append-le n all y few i))
          ∙ ap (λ l. front ++ l) rest
          ∙ sym (append_assoc front (from_defined b z) (of_lines (suc b2) false y))

  -- ---- what is said of lines, cut at tables: of tables nothing
  abbrev pub of_cut : Cut → List A
  of_cut c = cond c.is_table [] (of_lines (length c.rows) false c.rows)

  abbrev pub of_cuts : (bound : ℕ) → List Row → List A
  of_cuts bound rows = flat_map of_cut (cuts bound rows)

  pub of-cuts-fuel : (b c : ℕ) (rows : List Row) → length rows ≤ b → length rows ≤ c → of_cuts b rows ≡ of_cuts c rows
  of-cuts-fuel b c rows l m = ap (flat_map of_cut) (cuts-fuel b c rows l m)

  -- lines behind others, if neither a paragraph nor a table goes on from the first to the second
  module _ (r : Row) (rs : List Row) (none : is_in_table r ≡ false) where
    abbrev Ends : List Row → Type 0
    Ends rows = joined false rows (r ∷ rs) ≡ false

    pub cuts-append : (c b b2 : ℕ) (x : List Row) → length (x ++ (r ∷ rs)) ≤ c → length x ≤ b → length (r ∷ rs) ≤ b2 → joined false x (r ∷ rs) ≡ false → of_cuts c (x ++ (r ∷ rs)) ≡ of_cuts b x ++ of_cuts b2 (r ∷ rs)
    cuts-append c b b2 x l m m2 e = by (cuts-join r rs none Ends (λ q x h less. joined-behind-table (q ∷ x) (r ∷ rs) h) c b b2 x l m m2 e)
      where
        by : CutsJoin r rs none Ends x (cuts c (x ++ (r ∷ rs))) (cuts b x) (cuts b2 (r ∷ rs)) → of_cuts c (x ++ (r ∷ rs)) ≡ of_cuts b x ++ of_cuts b2 (r ∷ rs)
        by (cuts_apart k) = ap (flat_map of_cut) k ∙ flat_map-append of_cut (cuts b x) (cuts b2 (r ∷ rs))
        by (cut_seam h) =
            let all = h.q ∷ h.last in
            let now = take h.many (r ∷ rs) in
            let front = flat_map of_cut h.front in
            let back = flat_map of_cut h.back in
            let one = of_lines (length all) false all in
            let two = of_lines (length now) false now in
            let first : of_cuts b x ≡ front ++ one = ap (flat_map of_cut) h.first_is ∙ flat_map-append of_cut h.front (untabled all ∷ tabled [] ∷ []) ∙ ap (λ l. front ++ l) (append-nil one) in
            ap (flat_map of_cut) h.whole_is
            ∙ flat_map-append of_cut h.front (untabled (all ++ now) ∷ h.back)
            ∙ ap (λ l. front ++ (l ++ back)) (lines-append (length (all ++ now)) (length all) (length now) false all now (omega arith) (omega arith) (omega arith) (joined-taken h.many all r rs h.known))
            ∙ ap (λ l. front ++ l) (append_assoc one two back)
            ∙ sym (append_assoc front one (two ++ back))
            ∙ sym (λ i. first i ++ ap (flat_map of_cut) h.second_is i)

  -- ---- what is said of the lines of parts
  abbrev pub of_part : Row → List Row → List A
  of_part first more = cond first.is_blank (of_rows false (first ∷ more)) (of_cuts (suc (length more)) (first ∷ more))

  abbrev pub of_parts : (bound : ℕ) → List Row → List A
  of_parts zero rows = []
  of_parts (suc bound) [] = []
  of_parts (suc bound) (row ∷ behind) = let n = cond row.is_blank 0 (further behind) in of_part row (take n behind) ++ of_parts bound (drop n behind)

  pub of-parts-fuel : (b c : ℕ) (rows : List Row) → length rows ≤ b → length rows ≤ c → of_parts b rows ≡ of_parts c rows
  of-parts-fuel zero zero rows l m = refl
  of-parts-fuel zero (suc c) [] l m = refl
  of-parts-fuel zero (suc c) (r ∷ rs) l m = absurd (omega (arith, l))
  of-parts-fuel (suc b) zero [] l m = refl
  of-parts-fuel (suc b) zero (r ∷ rs) l m = absurd (omega (arith, m))
  of-parts-fuel (suc b) (suc c) [] l m = refl
  of-parts-fuel (suc b) (suc c) (r ∷ rs) l m =
      let n = cond r.is_blank 0 (further rs) in
      let few = length-drop n rs in
      ap (λ l. of_part r (take n rs) ++ l) (of-parts-fuel b c (drop n rs) (omega (arith, l, few)) (omega (arith, m, few)))

-- ---- how far a stretch goes on over rows behind others

abbrev pub AllLeft : List Row → Type 0
AllLeft rs = AllByRecursion (λ (row : Row). row.is_left_blank ≡ true) rs

-- a row that is left blank is blank, no paragraph goes on behind it, and it is in no table
abbrev pub LeftIsBlank : Row → Type 0
LeftIsBlank row = row.is_left_blank ≡ true → (row.is_blank ≡ true) × (is_paragraph row.leaf ≡ false) × (is_in_table row ≡ false)

abbrev pub FurtherApart : List Row → List Row → Type 0
FurtherApart x y = ((further (x ++ y) ≡ further x) × (further x ≤ length x)) ⊎ ((further (x ++ y) ≡ length x + further y) × (AllStay x × (1 ≤ further y)))

abbrev further-step : (left stays : Bool) → (n : ℕ) → ℕ
further-step left stays n = cond left (cond (nat_le 1 n) (suc n) 0) (cond stays (suc n) 0)

pub further-apart : (x y : List Row) → 1 ≤ further y → FurtherApart x y
further-apart [] y h = let same : further y ≡ 0 + further y = omega arith in inr (same, (tt, h))
further-apart (r ∷ x) y h = by (further-apart x y h) r.is_left_blank refl r.stays refl
  where
    by : FurtherApart x y → (left : Bool) → r.is_left_blank ≡ left → (stays : Bool) → r.stays ≡ stays → FurtherApart (r ∷ x) y
    by (inl k) left e stays f = inl (ap (further-step r.is_left_blank r.stays) k.0, further-within (r ∷ x))
    by (inr k) true e stays f =
        let more : further (x ++ y) ≡ length x + further y = k.0 in
        let some : 1 ≤ further (x ++ y) = omega (arith, more, h) in
        let sum : suc (length x + further y) ≡ suc (length x) + further y = omega arith in
        inr (
          ap (λ b. cond b (cond (nat_le 1 (further (x ++ y))) (suc (further (x ++ y))) 0) (cond r.stays (suc (further (x ++ y))) 0)) e
              ∙ ap (λ b. cond b (suc (further (x ++ y))) 0) (le-leb 1 (further (x ++ y)) some) ∙ ap suc more ∙ sum,
          ((ap (λ b. b || r.stays) e, k.1.0), h),
        )
    by (inr k) false e true f =
        let sum : suc (length x + further y) ≡ suc (length x) + further y = omega arith in
        inr ((λ i. cond (e i) (cond (nat_le 1 (further (x ++ y))) (suc (further (x ++ y))) 0) (cond (f i) (suc (further (x ++ y))) 0)) ∙ ap suc k.0 ∙ sum, (((λ i. e i || f i), k.1.0), h))
    by (inr k) false e false f =
        let none : (n : ℕ) → cond r.is_left_blank (cond (nat_le 1 n) (suc n) 0) (cond r.stays (suc n) 0) ≡ 0 = λ n. (λ i. cond (e i) (cond (nat_le 1 n) (suc n) 0) (cond (f i) (suc n) 0)) in
        inl (none (further (x ++ y)) ∙ sym (none (further x)), further-within (r ∷ x))

-- where the second do not go on with a stretch
pub further-cut : (x y : List Row) → further y ≡ 0 → further (x ++ y) ≡ further x
further-cut [] y h = h
further-cut (r ∷ x) y h = ap (further-step r.is_left_blank r.stays) (further-cut x y h)

-- of rows that stay those behind a stretch are left blank
pub left-behind : (x : List Row) → AllStay x → AllLeft (drop (further x) x)
left-behind [] h = tt
left-behind (r ∷ x) h = by r.is_left_blank refl r.stays refl (further x) (nat_le 1 (further x)) refl (left-behind x h.1)
  where
    by : (left : Bool) → r.is_left_blank ≡ left → (stays : Bool) → r.stays ≡ stays → (n : ℕ) → (some : Bool) → nat_le 1 n ≡ some → AllLeft (drop n x) → AllLeft (drop (further-step left stays n) (r ∷ x))
    by true e stays f n true s k = subst (λ (b : Bool). AllLeft (drop (cond b (suc n) 0) (r ∷ x))) (sym s) k
    by true e stays f zero false s k = (e, k)
    by true e stays f (suc n) false s k = let both : true ≡ false = sym (le-leb 1 (suc n) (omega arith)) ∙ s in absurd (cc)
    by false e true f n some s k = k
    by false e false f n some s k = let both : true ≡ false = sym h.0 ∙ (λ i. e i || f i) in absurd (cc)

-- ---- parts of rows behind others

-- the second go on with no stretch, or with one with which the first end
pub data Follows (r : Row) (rs : List Row) : Type 0 where
  cut_off : further (r ∷ rs) ≡ 0 → Follows r rs
  going : r.is_blank ≡ false → further (r ∷ rs) ≡ suc (further rs) → Follows r rs

module _ {A : Type 0} (on : Constructs) (h : Bool → Row → List A) (d : List Definition → List Row → List A) where
  pub joined-first : (p : Bool) (x : List Row) (r : Row) (a b : List Row) → joined p x (r ∷ a) ≡ joined p x (r ∷ b)
  joined-first p [] r a b = refl
  joined-first p (q ∷ x) r a b = joined-first (is_paragraph q.leaf) x r a b

  pub joined-none : (p : Bool) (x y : List Row) → begins_text y ≡ false → joined p x y ≡ false
  joined-none p [] y e = ap (λ b. p && b) e ∙ and-false p
  joined-none p (q ∷ x) y e = joined-none (is_paragraph q.leaf) x y e

  pub left-no-text : (y : List Row) → AllLeft y → AllByRecursion LeftIsBlank y → begins_text y ≡ false
  left-no-text [] l k = refl
  left-no-text (r ∷ y) l k = (k.0 l.0).1

  pub left-untabled : (y : List Row) → AllLeft y → AllByRecursion LeftIsBlank y → AllByRecursion (λ (row : Row). is_in_table row ≡ false) y
  left-untabled [] l k = tt
  left-untabled (r ∷ y) l k = ((k.0 l.0).2, left-untabled y l.1 k.1)

  -- rows that are left blank, as lines and as parts
  left-lines : (b : ℕ) (y : List Row) → length y ≤ b → AllLeft y → AllByRecursion LeftIsBlank y → of_lines on h d b false y ≡ flat_map (h false) y
  left-lines b [] m l k = lines-none on h d b false
  left-lines zero (r ∷ y) m l k = absurd (omega (arith, m))
  left-lines (suc b) (r ∷ y) m l k =
      let none : defined_in on (r ∷ []) ≡ 0 = ap (λ b. cond on.definition (lines_defined (text_in (take (cond b (1 + 0) 0) (r ∷ [])))) 0) (k.0 l.0).1 ∙ cond-same on.definition 0 in
      let whole : before_defined on false (r ∷ []) ≡ length (r ∷ []) = ap (λ n. cond (nat_le 1 n) 0 1) none in
      lines-append on h d (suc b) 1 b false (r ∷ []) y m (omega arith) (omega (arith, m)) (joined-none (is_paragraph r.leaf) [] y (left-no-text y l.1 k.1))
      ∙ (λ i. lines-plain on h d 0 false r [] whole i ++ left-lines b y (omega (arith, m)) l.1 k.1 i)
      ∙ ap (λ a. a ++ flat_map (h false) y) (append-nil (h false r))

  left-parts : (b : ℕ) (y : List Row) → length y ≤ b → AllLeft y → AllByRecursion LeftIsBlank y → of_parts on h d b y ≡ flat_map (h false) y
  left-parts zero [] m l k = refl
  left-parts zero (r ∷ y) m l k = absurd (omega (arith, m))
  left-parts (suc b) [] m l k = refl
  left-parts (suc b) (r ∷ y) m l k =
      let full = (k.0 l.0).0 in
      (λ i. let n = cond (full i) 0 (further y) in cond (full i) (of_rows on h d false (r ∷ take n y)) (of_cuts on h d (suc (length (take n y))) (r ∷ take n y)) ++ of_parts on h d b (drop n y))
      ∙ (λ i. append-nil (h false r) i ++ left-parts b y (omega (arith, m)) l.1 k.1 i)

  left-cuts : (b : ℕ) (y : List Row) → length y ≤ b → AllLeft y → AllByRecursion LeftIsBlank y → of_cuts on h d b y ≡ flat_map (h false) y
  left-cuts b [] m l k = ap (flat_map (of_cut on h d)) (cuts-none b)
  left-cuts zero (r ∷ y) m l k = absurd (omega (arith, m))
  left-cuts (suc b) (r ∷ y) m l k =
      ap (flat_map (of_cut on h d)) (cuts_need_tables is_in_table b r y (left-untabled (r ∷ y) l k))
      ∙ append-nil (of_lines on h d (length (r ∷ y)) false (r ∷ y))
      ∙ left-lines (length (r ∷ y)) (r ∷ y) (omega arith) l k

  -- lines, and rows that are left blank behind them
  lines-and-left : (c : ℕ) (q : Row) (front z : List Row) → length (q ∷ (front ++ z)) ≤ c → AllLeft z → AllByRecursion LeftIsBlank z → of_cuts on h d c (q ∷ (front ++ z)) ≡ of_cuts on h d (suc (length front)) (q ∷ front) ++ flat_map (h false) z
  lines-and-left c q front [] few l k =
      ap (λ x. of_cuts on h d c (q ∷ x)) (append-nil front)
      ∙ of-cuts-fuel on h d c (suc (length front)) (q ∷ front) (let size = ap (λ (l : List Row). length l) (append-nil front) in omega (arith, few, size)) (omega arith)
      ∙ sym (append-nil (of_cuts on h d (suc (length front)) (q ∷ front)))
  lines-and-left c q front (s ∷ z) few l k =
      cuts-append on h d s z (k.0 l.0).2 c (suc (length front)) (length (s ∷ z)) (q ∷ front) few (omega arith) (omega arith) (joined-none (is_paragraph q.leaf) front (s ∷ z) (left-no-text (s ∷ z) l k))
      ∙ ap (λ x. of_cuts on h d (suc (length front)) (q ∷ front) ++ x) (left-cuts (length (s ∷ z)) (s ∷ z) (omega arith) l k)

  -- a stretch, and rows that are left blank behind it
  stretch-and-left : (b : ℕ) (q : Row) (x : List Row) → length x ≤ b → q.is_blank ≡ false → AllStay x → AllByRecursion LeftIsBlank x
      → of_cuts on h d (suc (length x)) (q ∷ x) ≡ of_parts on h d (suc b) (q ∷ x)
  stretch-and-left b q x m full stay blank =
      let n = further x in
      let front = take n x in
      let back = drop n x in
      let left = left-behind x stay in
      let blanks = every-drop LeftIsBlank n x blank in
      let few : length back ≤ length x = let size = length-drop n x in omega (arith, size) in
      let size : length (front ++ back) ≡ length x = ap (λ (l : List Row). length l) (take-append-drop n x) in
      sym (ap (λ l. of_cuts on h d (suc (length x)) (q ∷ l)) (take-append-drop n x))
      ∙ lines-and-left (suc (length x)) q front back (omega (arith, size)) left blanks
      ∙ (λ i. of_cuts on h d (suc (length front)) (q ∷ front) ++ sym (left-parts b back (omega (arith, few, m)) left blanks) i)
      ∙ sym (λ i. let n = cond (full i) 0 (further x) in cond (full i) (of_rows on h d false (q ∷ take n x)) (of_cuts on h d (suc (length (take n x))) (q ∷ take n x)) ++ of_parts on h d b (drop n x))

  abbrev Later : (c b b2 : ℕ) → (x y : List Row) → Type 0
  Later c b b2 x y = (n : ℕ) → n ≤ length x → joined false (drop n x) y ≡ false → of_parts on h d c (drop n x ++ y) ≡ of_parts on h d b (drop n x) ++ of_parts on h d b2 y

  -- parts of rows behind others, if no paragraph goes on from the first to the second
  pub parts-append : (c b b2 : ℕ) (x : List Row) (r : Row) (rs : List Row) → length (x ++ (r ∷ rs)) ≤ c → length x ≤ b → length (r ∷ rs) ≤ b2 → AllByRecursion LeftIsBlank x → Follows r rs → is_in_table r ≡ false → joined false x (r ∷ rs) ≡ false
      → of_parts on h d c (x ++ (r ∷ rs)) ≡ of_parts on h d b x ++ of_parts on h d b2 (r ∷ rs)
  parts-append c b b2 [] r rs l m m2 blank follows plain e = of-parts-fuel on h d c b2 (r ∷ rs) l m2 ∙ ap (λ a. a ++ of_parts on h d b2 (r ∷ rs)) (sym (none b))
    where
      none : (b : ℕ) → of_parts on h d b [] ≡ []
      none zero = refl
      none (suc b) = refl
  parts-append zero b b2 (q ∷ x) r rs l m m2 blank follows plain e = absurd (omega (arith, l))
  parts-append (suc c) zero b2 (q ∷ x) r rs l m m2 blank follows plain e = absurd (omega (arith, m))
  parts-append (suc c) (suc b) b2 (q ∷ x) r rs l m m2 blank follows plain e =
      let y = r ∷ rs in
      let size = length-append x y in
      by (apart follows) q.is_blank refl
      (λ n within. let z = drop n x in
      let size2 = length-append z y in
      let few = length-drop n x in
      parts-append c b b2 z r rs (omega (arith, l, size, size2, few)) (omega (arith, m, few)) m2 (every-drop LeftIsBlank n x blank.1) follows plain)
    where
      apart : Follows r rs → FurtherApart x (r ∷ rs)
      apart (cut_off k) = inl (further-cut x (r ∷ rs) k, further-within x)
      apart (going full k) = further-apart x (r ∷ rs) (omega (arith, k))

      -- behind so many further lines
      behind : (n : ℕ) → n ≤ length x → joined (is_paragraph q.leaf) x (r ∷ rs) ≡ false → joined false (drop n x) (r ∷ rs) ≡ false
      behind n within k = two (drop n x) refl
        where
          two : (z : List Row) → drop n x ≡ z → joined false z (r ∷ rs) ≡ false
          two [] f = refl
          two (s ∷ z) f =
              let size = length-drop n x in
              let some = ap (λ (l : List Row). length l) f in
              let less : n < length x = omega (arith, size, some) in
              sym (ap (λ l. joined false l (r ∷ rs)) f) ∙ sym (joined-drop (is_paragraph q.leaf) false n x (r ∷ rs) less) ∙ k

      -- the part of the first line does not go on to the second lines
      near : (n : ℕ) → cond q.is_blank 0 (further (x ++ (r ∷ rs))) ≡ n → cond q.is_blank 0 (further x) ≡ n → n ≤ length x → Later c b b2 x (r ∷ rs)
          → of_parts on h d (suc c) (q ∷ (x ++ (r ∷ rs))) ≡ of_parts on h d (suc b) (q ∷ x) ++ of_parts on h d b2 (r ∷ rs)
      near n f g within later =
          let y = r ∷ rs in
          ap (λ n. of_part on h d q (take n (x ++ y)) ++ of_parts on h d c (drop n (x ++ y))) f
          ∙ (λ i. of_part on h d q (take-append-le n x y within i) ++ of_parts on h d c (drop-append-le n x y within i))
          ∙ ap (λ l. of_part on h d q (take n x) ++ l) (later n within (behind n within e))
          ∙ sym (append_assoc (of_part on h d q (take n x)) (of_parts on h d b (drop n x)) (of_parts on h d b2 y))
          ∙ sym (ap (λ n. (of_part on h d q (take n x) ++ of_parts on h d b (drop n x)) ++ of_parts on h d b2 y) g)

      -- it does
      far : q.is_blank ≡ false → r.is_blank ≡ false → further (r ∷ rs) ≡ suc (further rs) → further (x ++ (r ∷ rs)) ≡ length x + further (r ∷ rs) → AllStay x
          → of_parts on h d (suc c) (q ∷ (x ++ (r ∷ rs))) ≡ of_parts on h d (suc b) (q ∷ x) ++ of_parts on h d b2 (r ∷ rs)
      far full some more all stay =
          let y = r ∷ rs in
          let n = further rs in
          let front = r ∷ take n rs in
          let left = drop n rs in
          let long = length x + suc n in
          let reach : cond q.is_blank 0 (further (x ++ y)) ≡ long = ap (λ b. cond b 0 (further (x ++ y))) full ∙ all ∙ ap (λ m. length x + m) more in
          let few : length left ≤ c = let size = length-append x y in let back = length-drop n rs in omega (arith, l, size, back) in
          let few2 : length y ≤ suc (length rs) = omega arith in
          let few3 : length left ≤ length rs = let back = length-drop n rs in omega (arith, back) in
          ap (λ n. of_part on h d q (take n (x ++ y)) ++ of_parts on h d c (drop n (x ++ y))) reach
          ∙ (λ i. cond (full i) (of_rows on h d false (q ∷ take-append-add x y (suc n) i)) (of_cuts on h d (suc (length (take-append-add x y (suc n) i))) (q ∷ take-append-add x y (suc n) i)) ++ of_parts on h d c (drop-append-add x y (suc n) i))
          ∙ ap (λ a. a ++ of_parts on h d c left) (cuts-append on h d r (take n rs) plain (suc (length (x ++ front))) (suc (length x)) (suc (length (take n rs))) (q ∷ x) (omega arith) (omega arith) (omega arith) (joined-first (is_paragraph q.leaf) x r (take n rs) rs ∙ e))
          ∙ append_assoc (of_cuts on h d (suc (length x)) (q ∷ x)) (of_cuts on h d (suc (length (take n rs))) front) (of_parts on h d c left)
          ∙ (λ i. stretch-and-left b q x (omega (arith, m)) full stay blank.1 i ++ (of_cuts on h d (suc (length (take n rs))) front ++ of-parts-fuel on h d c (length rs) left few few3 i))
          ∙ sym (λ i. of_parts on h d (suc b) (q ∷ x) ++ (of-parts-fuel on h d b2 (suc (length rs)) y m2 few2
          ∙ (λ i. let n = cond (some i) 0 (further rs) in cond (some i) (of_rows on h d false (r ∷ take n rs)) (of_cuts on h d (suc (length (take n rs))) (r ∷ take n rs)) ++ of_parts on h d (length rs) (drop n rs))) i)

      by : FurtherApart x (r ∷ rs) → (b3 : Bool) → q.is_blank ≡ b3 → Later c b b2 x (r ∷ rs) → of_parts on h d (suc c) (q ∷ (x ++ (r ∷ rs))) ≡ of_parts on h d (suc b) (q ∷ x) ++ of_parts on h d b2 (r ∷ rs)
      by k true f later = near 0 (ap (λ b. cond b 0 (further (x ++ (r ∷ rs)))) f) (ap (λ b. cond b 0 (further x)) f) (omega arith) later
      by (inl k) false f later = near (further x) (ap (λ b. cond b 0 (further (x ++ (r ∷ rs)))) f ∙ k.0) (ap (λ b. cond b 0 (further x)) f) k.1 later
      by (inr k) false f later = last follows
        where
          last : Follows r rs → of_parts on h d (suc c) (q ∷ (x ++ (r ∷ rs))) ≡ of_parts on h d (suc b) (q ∷ x) ++ of_parts on h d b2 (r ∷ rs)
          last (cut_off g) = let some = k.1.1 in absurd (omega (arith, some, g))
          last (going some more) = far f some more k.0 k.1.0
