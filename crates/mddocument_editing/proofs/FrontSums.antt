-- What is in front of a section of what is kept, by sums: where it starts, and which line.
use Rattle.mddocument_editing.proofs.Prelude.{◌≡◌, ℕ, ◌+◌, ◌-◌, ◌<◌, ◌≤◌, ◌^◌, true, false, List, [], ◌∷◌, length, take, refl, sym, ap, ◌∙◌, arith, get_or, length-append, sum_by, sum_by-cons, every-take, is_rest, document_of, Section, Kept, IsKept, IsRead, bytes_of_sections, line_at, start_of, knows}
use Rattle.mddocument_editing.specs.declared.list.Sums.{Sums}
use Rattle.mddocument_editing.specs.declared.lookup.Found.{Found}
use Rattle.mddocument_editing.specs.Finds.{IsByteIn, IsLineIn}
use Rattle.mddocument_editing.specs.Listed.{AreSums, part, size_of}
use Rattle.mddocument_editing.specs.Lookups.{IsSectionAt}
use Rattle.mddocument_editing.proofs.CutLines.{endings-are-counted}
use Rattle.mddocument_editing.proofs.Joined.{sections-take}
use Rattle.mddocument_editing.proofs.SectionEvents.{lines-read}
use Rattle.mddocument_editing.proofs.SectionFronts.{lines_in}
use Rattle.mddocument_editing.proofs.SectionLines.{lines-all}
use Rattle.mddocument_editing.proofs.SectionPlaces.{count-bytes, endings-few, first-bytes, start-next, start-within}

-- the bytes of sections
pub bytes-sum : (xs : List Section) → length (document_of (bytes_of_sections xs)) ≡ sum_by (λ s. length s.part.bytes.items) xs
bytes-sum [] = refl
bytes-sum (x ∷ xs) =
    omega (arith, length-append x.part.bytes.items (document_of (bytes_of_sections xs)), bytes-sum xs, sum_by-cons (λ (s : Section). length s.part.bytes.items) x xs)

-- where a section starts
pub start-sum : (xs : List Section) (i : ℕ) → sum_by (λ s. length s.part.bytes.items) (take i xs) ≡ start_of (bytes_of_sections xs) i
start-sum xs i = sym (bytes-sum (take i xs)) ∙ ap (λ l. length (document_of l)) (sym (first-bytes i xs))

module _ (k : Kept) (kept : IsKept k) (short : length (document_of (bytes_of_sections k.sections.items)) < 2 ^ 64) where
  -- and the line that it starts
  pub line-sum : (i : ℕ) → sum_by (λ s. s.lines) (take i k.sections.items) ≡ line_at (bytes_of_sections k.sections.items) i
  line-sum i =
      let xs = k.sections.items in
      let defined = knows k.known in
      let all = bytes_of_sections xs in
      lines-read k.options defined (take i xs) (every-take (IsRead k.options defined) i xs kept.read)
      ∙ ap lines_in (sym (first-bytes i xs))
      ∙ lines-all k.options (take i all) (sections-take (is_rest k.options) i all kept.divided.sections.cut)
      ∙ sym (endings-are-counted (document_of (take i all)))

  module _ (i : ℕ) (s : Sums) (is : AreSums (take i k.sections.items) s) where
    pub front-start : s.bytes ≡ start_of (bytes_of_sections k.sections.items) i
    front-start = omega (arith, is.bytes, start-sum k.sections.items i, start-within i (bytes_of_sections k.sections.items), short)

    front-few : line_at (bytes_of_sections k.sections.items) i ≤ start_of (bytes_of_sections k.sections.items) i
    front-few = endings-few (document_of (take i (bytes_of_sections k.sections.items)))

    front-line : s.lines ≡ line_at (bytes_of_sections k.sections.items) i
    front-line = omega (arith, is.lines, line-sum i, front-few, start-within i (bytes_of_sections k.sections.items), short)

    -- a byte is found
    pub found-byte : (byte : ℕ) → i < length k.sections.items → part false s ≤ byte → (i + 1 < length k.sections.items → byte < sum_by (size_of false) (take (i + 1) k.sections.items))
        → IsByteIn (bytes_of_sections k.sections.items) byte (record { section = i; bytes = s.bytes; lines = s.lines })
    found-byte byte lt start end = record {
      within = omega (arith, lt, count-bytes k.sections.items);
      bytes = front-start;
      lines = front-line;
      start = start;
      few = omega (arith, front-start, front-line, front-few);
      end = λ more.
          let before : byte < sum_by (λ (x : Section). length x.part.bytes.items) (take (i + 1) k.sections.items) = end (omega (arith, more, count-bytes k.sections.items)) in
          omega (arith, before, start-sum k.sections.items (i + 1));
    }

    -- and a line
    pub found-line : (line : ℕ) → i < length k.sections.items → part true s ≤ line → (i + 1 < length k.sections.items → line < sum_by (size_of true) (take (i + 1) k.sections.items))
        → IsLineIn (bytes_of_sections k.sections.items) line (record { section = i; bytes = s.bytes; lines = s.lines })
    found-line line lt start end = record {
      within = omega (arith, lt, count-bytes k.sections.items);
      bytes = front-start;
      lines = front-line;
      start = start;
      short = omega (arith, start-within (i + 1) (bytes_of_sections k.sections.items), short);
      end = λ more.
          let before : line < sum_by (λ (x : Section). x.lines) (take (i + 1) k.sections.items) = end (omega (arith, more, count-bytes k.sections.items)) in
          omega (arith, before, line-sum (i + 1));
    }

-- The section of a byte that was found, if the byte is in it; or else the one behind it
module _ (xs : List Section) (byte : ℕ) (found : Found) (x : Section) (is : IsByteIn (bytes_of_sections xs) byte found) (same : x ≡ get_or xs found.section x) where
  next : start_of (bytes_of_sections xs) (found.section + 1) ≡ start_of (bytes_of_sections xs) found.section + length x.part.bytes.items
  next = start-next xs found.section x (omega (arith, is.within, count-bytes xs)) same

  pub section-here : byte - found.bytes < length x.part.bytes.items → IsSectionAt (bytes_of_sections xs) byte found.section
  section-here lt = record { within = omega (arith, is.within); start = omega (arith, is.start, is.bytes); end = λ _. omega (arith, lt, next, is.bytes, is.start) }

  pub section-behind : length x.part.bytes.items ≤ byte - found.bytes → IsSectionAt (bytes_of_sections xs) byte (found.section + 1)
  section-behind le = record { within = omega (arith, is.within); start = omega (arith, le, next, is.bytes, is.start); end = λ more. absurd (omega (arith, is.end more, le, next, is.bytes, is.start)) }

  pub left-behind : length x.part.bytes.items ≤ byte - found.bytes → start_of (bytes_of_sections xs) (found.section + 1) + (byte - found.bytes - length x.part.bytes.items) ≡ byte
  left-behind le = omega (arith, le, next, is.bytes, is.start)
