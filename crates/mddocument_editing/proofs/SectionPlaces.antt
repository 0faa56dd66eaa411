-- Where sections start, and the lines that they start.
use Rattle.mddocument_editing.proofs.Prelude.{◌≡◌, ℕ, ◌+◌, ◌-◌, ◌<◌, ◌≤◌, true, List, ◌∷◌, [], ◌++◌, length, sym, ap, ◌∙◌, subst, arith, take, drop, get_or, Bool, cond, suc, ◌==◌, vec_len, begins_with_lf, length-append, length-map, take-map, ParseOptions, is_rest, line_endings, are_sections_by, document_of, Section, IsKept, IsRead, bytes_of_sections, Kept, line_at, start_of, endings, knows}
use Rattle.mddocument_editing.proofs.SectionBytes.{every-at}
use Rattle.mddocument_editing.proofs.CutLines.{endings-are-counted}
use Rattle.mddocument_editing.proofs.Joined.{document-cut, sections-take}
use Rattle.mddocument_editing.proofs.SectionEvents.{bytes-one}
use Rattle.mddocument_editing.proofs.SectionFronts.{length-one, lines_in, sum-one, take-next}
use Rattle.mddocument_editing.proofs.SectionLines.{lines-all}
use Rattle.mddocument_editing.proofs.SectionSizes.{size-less}

abbrev bytes : Section → List ℕ
bytes section = section.part.bytes.items

-- the bytes of the first sections
pub first-bytes : (n : ℕ) (xs : List Section) → take n (bytes_of_sections xs) ≡ bytes_of_sections (take n xs)
first-bytes n xs = take-map bytes n xs

-- a section starts in the document or at its end
pub start-within : (n : ℕ) (xs : List (List ℕ)) → start_of xs n ≤ length (document_of xs)
start-within n xs = omega (arith, ap length (document-cut n xs), length-append (document_of (take n xs)) (document_of (drop n xs)))

module _ (xs : List Section) (i : ℕ) (x : Section) (lt : i < length xs) (is : x ≡ get_or xs i x) where
  next-bytes : take (i + 1) (bytes_of_sections xs) ≡ bytes_of_sections (take i xs ++ x ∷ [])
  next-bytes = first-bytes (i + 1) xs ∙ ap bytes_of_sections (take-next xs i x lt is)

  -- where the next section starts
  pub start-next : start_of (bytes_of_sections xs) (i + 1) ≡ start_of (bytes_of_sections xs) i + length x.part.bytes.items
  start-next =
      let here = ap (λ l. length (document_of l)) (first-bytes i xs) in
      omega (arith, ap (λ l. length (document_of l)) next-bytes, length-one (take i xs) x, here)

  -- the line that it starts
  pub line-next : (options : ParseOptions) → are_sections_by (is_rest options) (bytes_of_sections xs) ≡ true → line_at (bytes_of_sections xs) (i + 1) ≡ line_at (bytes_of_sections xs) i + endings x.part.bytes.items
  line-next options cut =
      let all = bytes_of_sections xs in
      let now = endings-are-counted (document_of (take i all)) ∙ sym (lines-all options (take i all) (sections-take (is_rest options) i all cut)) ∙ ap lines_in (first-bytes i xs) in
      let then = endings-are-counted (document_of (take (i + 1) all)) ∙ sym (lines-all options (take (i + 1) all) (sections-take (is_rest options) (i + 1) all cut))
      ∙ ap lines_in (next-bytes ∙ bytes-one (take i xs) x) ∙ sum-one line_endings (bytes_of_sections (take i xs)) x.part.bytes.items
      in
      omega (arith, now, then, endings-are-counted x.part.bytes.items)

-- so too for a section that is read at an index
pub start-behind : (ss : List Section) {i : ℕ} {x : Section} → i < length ss → x ≡ get_or ss i x → start_of (bytes_of_sections ss) (i + 1) ≡ start_of (bytes_of_sections ss) i + vec_len (get_or ss i x).part.bytes
start-behind ss {i} {x} lt is = let s = get_or ss i x in omega (arith, start-next ss i s lt (ap (get_or ss i) is), s.part.bytes.ok.0)

-- and for the one in front of an index
pub start-front : (ss : List Section) {i : ℕ} {x : Section} {bytes : List ℕ} → 0 < i → i ≤ length ss → x ≡ get_or ss (i - 1) x → bytes ≡ (get_or ss (i - 1) x).part.bytes.items
    → start_of (bytes_of_sections ss) i ≡ start_of (bytes_of_sections ss) (i - 1) + length bytes
start-front ss {i} {x} some within is value = omega (arith, size-less (λ (section : Section). section.part.bytes.items) ss i (get_or ss (i - 1) x) some within (ap (get_or ss (i - 1)) is), ap length value)

-- how many sections there are
pub count-bytes : (xs : List Section) → length (bytes_of_sections xs) ≡ length xs
count-bytes xs = length-map xs bytes

-- the next section of what is kept starts as many lines further on as it has line endings
kept-line-next : (k : Kept) → IsKept k → (i : ℕ) (x : Section) → i < length k.sections.items → x ≡ get_or k.sections.items i x
    → line_at (bytes_of_sections k.sections.items) (i + 1) ≡ line_at (bytes_of_sections k.sections.items) i + x.lines
kept-line-next k kept i x lt is =
    let P = IsRead k.options (knows k.known) in
    let read : P x = subst P (sym is) (every-at P k.sections.items i x kept.read lt) in
    omega (arith, line-next k.sections.items i x lt is k.options kept.divided.sections.cut, read.lines)

few-step : (p q r : Bool) (m n : ℕ) → m ≤ n → cond p (suc m) (cond q (cond r m (suc m)) m) ≤ suc n
few-step p q r m n few = grind arith

-- bytes have at most as many line endings as there are
pub lines-few : (bs : List ℕ) → line_endings bs ≤ length bs
lines-few [] = omega arith
lines-few (b ∷ bs) = few-step (b == 10) (b == 13) (begins_with_lf bs) (line_endings bs) (length bs) (lines-few bs)

pub endings-few : (bs : List ℕ) → endings bs ≤ length bs
endings-few bs = omega (arith, endings-are-counted bs, lines-few bs)

-- so has a section of what is kept
kept-few : (k : Kept) → IsKept k → (i : ℕ) (x : Section) → i < length k.sections.items → x ≡ get_or k.sections.items i x → x.lines ≤ length x.part.bytes.items
kept-few k kept i x lt is =
    let P = IsRead k.options (knows k.known) in
    let read : P x = subst P (sym is) (every-at P k.sections.items i x kept.read lt) in
    omega (arith, read.lines, endings-few x.part.bytes.items)

-- The section behind one of what is kept starts that one's bytes and lines further on
pub record IsNext (k : Kept) (i : ℕ) (x : Section) : Type 0 where
  pub lt : i < length k.sections.items
  pub start : start_of (bytes_of_sections k.sections.items) (i + 1) ≡ start_of (bytes_of_sections k.sections.items) i + length x.part.bytes.items
  pub line : line_at (bytes_of_sections k.sections.items) (i + 1) ≡ line_at (bytes_of_sections k.sections.items) i + x.lines
  pub few : x.lines ≤ length x.part.bytes.items
  pub count : length (bytes_of_sections k.sections.items) ≡ length k.sections.items
  pub within : start_of (bytes_of_sections k.sections.items) (i + 1) ≤ length (document_of (bytes_of_sections k.sections.items))

pub kept-next : (k : Kept) {ss : List Section} {i last : ℕ} {x : Section} → IsKept k → ss ≡ k.sections.items → i < last → last ≡ length ss - 1 → x ≡ get_or ss i x → IsNext k i x
kept-next k {ss} {i} {last} {x} kept same before last-is is-x =
    let lt : i < length k.sections.items = omega (arith, before, last-is, ap length same) in
    let is = is-x ∙ ap (λ (l : List Section). get_or l i x) same in
    record {
      lt = lt;
      start = start-next k.sections.items i x lt is;
      line = kept-line-next k kept i x lt is;
      few = kept-few k kept i x lt is;
      count = count-bytes k.sections.items;
      within = start-within (i + 1) (bytes_of_sections k.sections.items);
    }
