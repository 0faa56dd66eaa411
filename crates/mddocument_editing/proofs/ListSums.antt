-- Sums of sections: of none, of one more, of a block more; and blocks of sections of which some were replaced.
use Rattle.std.proofs.Common.{◌≡◌, ℕ, ◌+◌, ◌-◌, ◌*◌, ◌^◌, ◌<◌, ◌≤◌, ◌⊎◌, Bool, true, false, List, [], ◌∷◌, ◌++◌, length, take, drop, get_or, min, subst, sym, ap, ◌∙◌, arith, inl, inr}
use Rattle.std.proofs.Math.Seq.{drop-append-add, take-add}
use Rattle.std.proofs.lemmas.List.{drop-drop, drop-take, length-drop, length-append, length-take-le, take-append-le, take-take, take_all, append_assoc}
use Rattle.std.proofs.lemmas.Bool.{cases_lt}
use Rattle.std.proofs.lemmas.List.Sums.{sum_by-append}
use Rattle.std.specs.List.{sum_by}
use Rattle.mddocument_editing.specs.declared.list.Sums.{Sums}
use Rattle.mddocument_editing.specs.declared.section.Section.{Section}
use Rattle.mddocument_editing.specs.Listed.{AreBlocks, AreSums, block, capped, part, size_of}

capped-plus : (m n : ℕ) → min (capped m + capped n) (2 ^ 64 - 1) ≡ capped (m + n)
capped-plus m n = omega arith

-- the sums of sections and of others behind them
pub sums-both : (xs ys : List Section) (a b s : Sums) → AreSums xs a → AreSums ys b → s.lines ≡ min (a.lines + b.lines) (2 ^ 64 - 1) → s.bytes ≡ min (a.bytes + b.bytes) (2 ^ 64 - 1)
    → s.events ≡ min (a.events + b.events) (2 ^ 64 - 1) → AreSums (xs ++ ys) s
sums-both xs ys a b s first last lines bytes events = record {
  lines = omega (arith, lines, first.lines, last.lines, sum_by-append (λ (x : Section). x.lines) xs ys);
  bytes = omega (arith, bytes, first.bytes, last.bytes, sum_by-append (λ (x : Section). length x.part.bytes.items) xs ys);
  events = omega (arith, events, first.events, last.events, sum_by-append (λ (x : Section). length x.events) xs ys);
}

-- of one section more
pub sums-one : (xs : List Section) (x : Section) (a s : Sums) → AreSums xs a → s.lines ≡ min (a.lines + x.lines) (2 ^ 64 - 1) → s.bytes ≡ min (a.bytes + length x.part.bytes.items) (2 ^ 64 - 1)
    → s.events ≡ min (a.events + length x.events) (2 ^ 64 - 1) → AreSums (xs ++ x ∷ []) s
sums-one xs x a s first lines bytes events = record {
  lines = omega (arith, lines, first.lines, sum_by-append (λ (y : Section). y.lines) xs (x ∷ []));
  bytes = omega (arith, bytes, first.bytes, sum_by-append (λ (y : Section). length y.part.bytes.items) xs (x ∷ []));
  events = omega (arith, events, first.events, sum_by-append (λ (y : Section). length y.events) xs (x ∷ []));
}

-- one block more is in front
pub block-next : (xs : List Section) (number : ℕ) → take (256 * (number + 1)) xs ≡ take (256 * number) xs ++ block number xs
block-next xs number =
    let e : 256 * (number + 1) ≡ 256 * number + 256 = omega arith in
    ap (λ n. take n xs) e ∙ take-add (256 * number) 256 xs

-- what is in front of a section: blocks, and some of one
pub front-split : (xs : List Section) (first section : ℕ) → first ≤ section → take section xs ≡ take first xs ++ take (section - first) (drop first xs)
front-split xs first section le =
    let e : section ≡ first + (section - first) = omega arith in
    ap (λ n. take n xs) e ∙ take-add first (section - first) xs

-- the part of sums is that of their sections
pub part-is : (is_line : Bool) (xs : List Section) (s : Sums) → AreSums xs s → part is_line s ≡ capped (sum_by (size_of is_line) xs)
part-is true xs s is = is.lines
part-is false xs s is = is.bytes

-- of sections, what is in front of a place, and what is behind it
module _ (is_line : Bool) (xs ys : List Section) (a : Sums) (size place : ℕ) (front : AreSums xs a) (start : part is_line a ≤ place) where
  pub still-front : (s : Sums) → AreSums (xs ++ ys) s → capped size ≡ capped (sum_by (size_of is_line) ys) → place < 2 ^ 64 → size ≤ place - part is_line a → part is_line s ≤ place
  still-front s both is fits passed =
      omega (arith, part-is is_line xs a front, part-is is_line (xs ++ ys) s both, sum_by-append (size_of is_line) xs ys, start, is, fits, passed)

  pub then-behind : size ≤ sum_by (size_of is_line) ys → place - part is_line a < size → place < sum_by (size_of is_line) (xs ++ ys)
  then-behind few here = omega (arith, part-is is_line xs a front, sum_by-append (size_of is_line) xs ys, few, here)

-- what one section has
pub size-one : (is_line : Bool) (x : Section) → sum_by (size_of is_line) (x ∷ []) ≡ size_of is_line x
size-one is_line x = omega arith

-- a block may be cut short by the end
pub block-cut : (xs : List Section) (number : ℕ) → take (min 256 (length xs - 256 * number)) (drop (256 * number) xs) ≡ block number xs
block-cut xs number =
    let left = drop (256 * number) xs in
    let size = length-drop (256 * number) xs in
    let n = length xs - 256 * number in
    elim (cases_lt 256 (n + 1)) [
      | inl lt ↦ (let e : min 256 n ≡ 256 = omega (arith, lt) in ap (λ k. take k left) e)
      | inr ge ↦ (let e : min 256 n ≡ n = omega (arith, ge) in ap (λ k. take k left) e ∙ take_all n left (omega (arith, size)) ∙ sym (take_all 256 left (omega (arith, size, ge))))
    ]

-- ---- sections of which some were replaced
module _ (xs read ys : List Section) (from end : ℕ) (order : from ≤ end) (within : end ≤ length xs) (is : ys ≡ take from xs ++ (read ++ drop end xs)) where
  pub length-spliced : length ys ≡ length xs - (end - from) + length read
  length-spliced =
      let size : length (take from xs) ≡ from = length-take-le from xs (omega (arith, order, within)) in
      omega (arith, ap length is, length-append (take from xs) (read ++ drop end xs), length-append read (drop end xs), length-drop end xs, size, order, within)

  -- blocks in front stay
  block-before : (number : ℕ) → 256 * (number + 1) ≤ from → block number ys ≡ block number xs
  block-before number le =
      let m = 256 * number in
      let e : m + 256 ≤ from = omega (arith, le) in
      let size : length (take from xs) ≡ from = length-take-le from xs (omega (arith, order, within)) in
      ap (block number) is
      ∙ sym (drop-take m 256 (take from xs ++ (read ++ drop end xs)))
      ∙ ap (drop m) (take-append-le (m + 256) (take from xs) (read ++ drop end xs) (omega (arith, e, size)) ∙ take-take (m + 256) from xs e)
      ∙ drop-take m 256 xs

  -- and so do those behind, if as many sections come as go
  block-behind : (number : ℕ) → from + length read ≡ end → end ≤ 256 * number → block number ys ≡ block number xs
  block-behind number many ge =
      let m = 256 * number in
      let front = take from xs ++ read in
      let size : length front ≡ end = length-append (take from xs) read ∙ ap (λ n. n + length read) (length-take-le from xs (omega (arith, order, within))) ∙ many in
      let e : m ≡ length front + (m - end) = omega (arith, size, ge) in
      let f : end + (m - end) ≡ m = omega (arith, ge) in
      ap (λ l. take 256 l)
      (ap (drop m) (is ∙ sym (append_assoc (take from xs) read (drop end xs)))
      ∙ ap (λ n. drop n (front ++ drop end xs)) e ∙ drop-append-add front (drop end xs) (m - end) ∙ drop-drop (m - end) end xs ∙ ap (λ n. drop n xs) f)

  -- The sums of some blocks are made again: from the first one of which a section is replaced, up to another or to the end
  pub blocks-spliced : (old cut new : List Sums) (first to count : ℕ) → AreBlocks xs old → ((k : ℕ) (d : Sums) → k < count → k < length old → get_or cut k d ≡ get_or old k d)
      → 256 * first ≤ from → length new ≡ count → length ys ≤ 256 * count → 256 * count ≤ length ys + 255
      → ((k : ℕ) (d : Sums) → first ≤ k → k < to → AreSums (block k ys) (get_or new k d)) → ((k : ℕ) (d : Sums) → (k < first) ⊎ (to ≤ k) → get_or new k d ≡ get_or cut k d)
      → (to ≡ count) ⊎ ((from + length read ≡ end) × (end ≤ 256 * to)) → AreBlocks ys new
  blocks-spliced old cut new first to count blocks stay before size all few each same last = record {
    all = omega (arith, all, size);
    few = omega (arith, few, size);
    each = λ k d lt.
        let less : k < count = omega (arith, lt, size) in
        elim (cases_lt k first) [
          | inl front ↦ (let there : k < length old = omega (arith, front, before, order, within, blocks.all) in
              subst (AreSums (block k ys)) (sym (same k d (inl front) ∙ stay k d less there))
              (subst (λ l. AreSums l (get_or old k d)) (sym (block-before k (omega (arith, front, before)))) (blocks.each k d there)))
          | inr more ↦ elim (cases_lt k to) [
            | inl inside ↦ each k d more inside
            | inr behind ↦ elim last [
              | inl end_is ↦ absurd (omega (arith, end_is, behind, less))
              | inr stays ↦ (let there : k < length old = omega (arith, length-spliced, stays.0, order, within, less, few, blocks.all) in
                  let ge : end ≤ 256 * k = omega (arith, stays.1, behind) in
                  subst (AreSums (block k ys)) (sym (same k d (inr behind) ∙ stay k d less there))
                  (subst (λ l. AreSums l (get_or old k d)) (sym (block-behind k stays.0 ge)) (blocks.each k d there)))
            ]
          ]
        ];
  }
