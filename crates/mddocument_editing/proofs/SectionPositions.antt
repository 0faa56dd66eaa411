-- Places of a document, looked up in one of its sections.
use Rattle.mddocument_editing.proofs.Prelude.{◌≡◌, ℕ, ◌+◌, ◌-◌, ◌<◌, ◌≤◌, true, List, ◌∷◌, [], ◌++◌, length, refl, sym, ap, ◌∙◌, subst, arith, take, drop, Some, add-one, get_or, ◌^◌, append-nil, length-append, length-take, take-append-drop, get_or_from_slice_get, slice_get-map, slice_get_read, slice_get_within, ◌==◌, find, option_and_then, option_map, slice_get, drop-at, ParseOptions, is_rest, begins_line, line_endings, are_sections_by, document_of, Kept, Encoding, Position, Section, IsKept, bytes_of_sections, line_at, start_of, StartsLine, down, endings, Place, index_in, length_in, offset_of, places_from, position_of, sizes, starts, text_at, Bool, Option, None, min}
use Rattle.mddocument_editing.specs.declared.lookup.Found.{Found}
use Rattle.mddocument_editing.specs.Finds.{IsByteIn, IsLineIn}
use Rattle.mddocument_editing.proofs.CutLines.{endings-are-counted, parts-start-lines}
use Rattle.mddocument_editing.proofs.Joined.{document-cut, document-last, sections-back, sections-take}
use Rattle.mddocument_editing.proofs.PartsMove.{offsets-move, offsets-stay, positions-move, positions-stay}
use Rattle.mddocument_editing.proofs.SectionFronts.{take-next}
use Rattle.mddocument_editing.proofs.SectionPlaces.{count-bytes}
use Rattle.mddocument_editing.proofs.SectionLines.{AreCut, lines-add, seam-begins}

module _ (options : ParseOptions) where
  starts-behind-one : (s t : List ℕ) (more : List (List ℕ)) → AreCut options (s ∷ t ∷ more) → StartsLine s (document_of (t ∷ more))
  starts-behind-one s t more cut =
      parts-start-lines s (document_of (t ∷ more)) (ap (begins_line (document_of (t ∷ more))) (sym (append-nil s)) ∙ seam-begins options (s ∷ []) t more cut)

  -- places in the first section stay
  position-stays : (encoding : Encoding) (s : List ℕ) (rest : List (List ℕ)) → AreCut options (s ∷ rest) → (offset : ℕ) → (0 < length rest → offset < length s)
      → position_of encoding (s ++ document_of rest) offset ≡ position_of encoding s offset
  position-stays encoding s [] cut offset lt = ap (λ b. position_of encoding b offset) (append-nil s)
  position-stays encoding s (t ∷ more) cut offset lt = positions-stay encoding s (document_of (t ∷ more)) offset (starts-behind-one s t more cut) (lt (omega arith))

  offset-stays : (encoding : Encoding) (s : List ℕ) (rest : List (List ℕ)) → AreCut options (s ∷ rest) → (position : Position) → (0 < length rest → position.line < endings s)
      → offset_of encoding (s ++ document_of rest) position ≡ offset_of encoding s position
  offset-stays encoding s [] cut position lt = ap (λ b. offset_of encoding b position) (append-nil s)
  offset-stays encoding s (t ∷ more) cut position lt = offsets-stay encoding s (document_of (t ∷ more)) position (starts-behind-one s t more cut) (lt (omega arith))

  module _ (encoding : Encoding) (sections : List (List ℕ)) (n : ℕ) (s : List ℕ) (cut : AreCut options sections) (at : slice_get sections n ≡ Some s) where
    abbrev front : List ℕ
    front = document_of (take n sections)

    abbrev rest : List (List ℕ)
    rest = drop (n + 1) sections

    left : drop n sections ≡ s ∷ rest
    left = drop-at sections n s at ∙ ap (λ k. s ∷ drop k sections) (sym (add-one n))

    all : take n sections ++ (s ∷ rest) ≡ sections
    all = ap (λ l. take n sections ++ l) (sym left) ∙ take-append-drop n sections

    bytes : document_of sections ≡ front ++ (s ++ document_of rest)
    bytes = sym (document-cut n sections) ∙ ap (λ l. front ++ document_of l) left

    cut-all : AreCut options (take n sections ++ (s ∷ rest))
    cut-all = subst (λ l. are_sections_by (is_rest options) l ≡ true) (sym all) cut

    cut-left : AreCut options (s ∷ rest)
    cut-left = sections-back (is_rest options) (take n sections) (s ∷ rest) cut-all

    seam : StartsLine front (s ++ document_of rest)
    seam = parts-start-lines front (s ++ document_of rest) (seam-begins options (take n sections) s rest cut-all)

    next : take (n + 1) sections ≡ take n sections ++ s ∷ []
    next = take-next sections n s (slice_get_within sections n s at) (sym (get_or_from_slice_get sections n s s at))

    count : length rest + (n + 1) ≡ length sections
    count = omega (arith, ap length all, length-append (take n sections) (s ∷ rest), slice_get_within sections n s at, length-take n sections)

    pub next-start : start_of sections (n + 1) ≡ start_of sections n + length s
    next-start = ap length (ap document_of next ∙ document-last (take n sections) s) ∙ length-append front s

    pub next-line : line_at sections (n + 1) ≡ line_at sections n + endings s
    next-line =
        let add = lines-add options (take n sections) (s ∷ []) (subst (λ l. are_sections_by (is_rest options) l ≡ true) next (sections-take (is_rest options) (n + 1) sections cut)) in
        let one = ap line_endings (append-nil s) in
        omega (arith, endings-are-counted (document_of (take (n + 1) sections)), ap (λ l. line_endings (document_of l)) next, add, one, endings-are-counted s, endings-are-counted front)

    -- the position of a byte index is that in its section, further down
    pub position-in : (byte : ℕ) → start_of sections n ≤ byte → (n + 1 < length sections → byte < start_of sections (n + 1))
        → position_of encoding (document_of sections) byte ≡ option_map (down (line_at sections n)) (position_of encoding s (byte - start_of sections n))
    position-in byte least most =
        let offset = byte - start_of sections n in
        let where_is : byte ≡ length front + offset = omega arith in
        let inside : 0 < length rest → offset < length s = λ some. omega (arith, most (omega (arith, count, some)), next-start) in
        ap (λ b. position_of encoding b byte) bytes ∙ ap (λ k. position_of encoding (front ++ (s ++ document_of rest)) k) where_is
        ∙ positions-move encoding front (s ++ document_of rest) offset seam
        ∙ ap (option_map (down (endings front))) (position-stays encoding s rest cut-left offset inside)

    -- the byte index of a position is that in its section, further on
    pub offset-in : (position : Position) → line_at sections n ≤ position.line → (n + 1 < length sections → position.line < line_at sections (n + 1))
        → offset_of encoding (document_of sections) position
        ≡ option_map (λ offset. start_of sections n + offset) (offset_of encoding s (record { line = position.line - line_at sections n; character = position.character }))
    offset-in position least most =
        let p : Position = record { line = position.line - line_at sections n; character = position.character } in
        let line : position.line ≡ endings front + p.line = omega arith in
        let inside : 0 < length rest → p.line < endings s = λ some. omega (arith, most (omega (arith, count, some)), next-line) in
        ap (λ b. offset_of encoding b position) bytes
        ∙ ap (λ k. offset_of encoding (front ++ (s ++ document_of rest)) (record { line = k; character = position.character })) line
        ∙ offsets-move encoding front (s ++ document_of rest) p seam
        ∙ ap (option_map (λ offset. length front + offset)) (offset-stays encoding s rest cut-left p inside)

-- ---- what is kept

section-got : (xs : List Section) (i : ℕ) (x : Section) → i < length xs → x ≡ get_or xs i x → slice_get (bytes_of_sections xs) i ≡ Some x.part.bytes.items
section-got xs i x lt is =
    slice_get-map (λ (section : Section). section.part.bytes.items) xs i ∙ ap (option_map (λ (section : Section). section.part.bytes.items)) (slice_get_read xs (length xs) i x refl lt is)

module _ (k : Kept) (kept : IsKept k) (encoding : Encoding) (found : Found) (x : Section) (bs : List ℕ) (is : x ≡ get_or k.sections.items found.section x) (its : bs ≡ x.part.bytes.items) where
  got : found.section < length (bytes_of_sections k.sections.items) → slice_get (bytes_of_sections k.sections.items) found.section ≡ Some bs
  got lt = section-got k.sections.items found.section x (omega (arith, lt, count-bytes k.sections.items)) is ∙ ap Some (sym its)

  pub kept-position : (byte : ℕ) → IsByteIn (bytes_of_sections k.sections.items) byte found
      → option_map (down found.lines) (position_of encoding bs (byte - found.bytes)) ≡ position_of encoding (document_of (bytes_of_sections k.sections.items)) byte
  kept-position byte h =
      let all = bytes_of_sections k.sections.items in
      ap (λ l. option_map (down l) (position_of encoding bs (byte - found.bytes))) h.lines
      ∙ ap (λ b. option_map (down (line_at all found.section)) (position_of encoding bs (byte - b))) h.bytes
      ∙ sym (position-in k.options encoding all found.section bs kept.divided.sections.cut (got h.within) byte (omega (arith, h.bytes, h.start)) h.end)

  pub kept-offset : (position : Position) → IsLineIn (bytes_of_sections k.sections.items) position.line found
      → option_map (λ offset. found.bytes + offset) (offset_of encoding bs (record { line = position.line - found.lines; character = position.character })) ≡ offset_of encoding (document_of (bytes_of_sections k.sections.items)) position
  kept-offset position h =
      let all = bytes_of_sections k.sections.items in
      ap (λ b. option_map (λ offset. b + offset) (offset_of encoding bs (record { line = position.line - found.lines; character = position.character }))) h.bytes
      ∙ ap (λ l. option_map (λ offset. start_of all found.section + offset) (offset_of encoding bs (record { line = position.line - l; character = position.character }))) h.lines
      ∙ sym (offset-in k.options encoding all found.section bs kept.divided.sections.cut (got h.within) position (omega (arith, h.lines, h.start)) h.end)

  -- a byte index in the section fits
  pub offset-fits : (line : ℕ) → IsLineIn (bytes_of_sections k.sections.items) line found → found.bytes + length bs < 2 ^ 64
  offset-fits line h =
      omega (arith, h.bytes, h.short, next-start k.options encoding (bytes_of_sections k.sections.items) found.section bs kept.divided.sections.cut (got h.within))

-- ---- where lines start

first-place : (encoding : Encoding) (found : Place → Bool) (place : Place) (sizes : List ℕ) → found place ≡ true → find found (places_from encoding place sizes) ≡ Some place
first-place encoding found place [] h = rw h
first-place encoding found place (size ∷ sizes) h = rw h

index-none : (encoding : Encoding) (text : List ℕ) → index_in encoding text 0 ≡ Some 0
index-none encoding text =
    let least : min 0 (length_in encoding text) ≡ 0 = omega arith in
    ap (option_map (λ (place : Place). place.index)) (first-place encoding (λ (place : Place). place.character == min 0 (length_in encoding text)) (record { index = 0; character = 0 }) (sizes text) (ap (λ n. 0 == n) least))

each-same : (g : ℕ → Option ℕ) → ((start : ℕ) → g start ≡ Some start) → (o : Option ℕ) → option_and_then g o ≡ o
each-same g same None = refl
each-same g same (Some start) = same start

-- the byte index of a line's first position is where the line starts
pub line-start : (encoding : Encoding) (bytes : List ℕ) (line : ℕ) → offset_of encoding bytes (record { line = line; character = 0 }) ≡ slice_get (starts bytes) line
line-start encoding bytes line =
    each-same (λ start. option_map (λ index. start + index) (index_in encoding (text_at bytes start) 0))
    (λ start. ap (option_map (λ index. start + index)) (index-none encoding (text_at bytes start)) ∙ ap Some (omega arith))
    (slice_get (starts bytes) line)
