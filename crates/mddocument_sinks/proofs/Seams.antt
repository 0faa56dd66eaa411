-- A document that is cut at seams: where the next one is, and the labels and line endings up to one.
use Rattle.std.proofs.Common.{◌∙◌, ◌≡◌, ◌++◌, ◌+◌, ◌-◌, ◌<◌, ◌≤◌, List, ap, append-nil, arith, drop, inl, inr, length, suc, sym, subst, take, true, zero, ℕ}
use Rattle.std.proofs.Math.Seq.{take-add}
use Rattle.std.proofs.lemmas.Bool.{cases_lt}
use Rattle.std.proofs.lemmas.List.{drop-drop, drop_all, length-drop, length-take, take-append-drop}
use Rattle.markdown_base.specs.Virtual.{virtual}
use Rattle.markdown_base.specs.declared.configuration.Constructs.{Constructs}
use Rattle.markdown_base.specs.declared.configuration.ParseOptions.{ParseOptions}
use Rattle.mdblock_definitions.specs.Skeleton.{written_labels}
use Rattle.mddocument_parts.proofs.DocumentBytes.{document-rests-of-both}
use Rattle.mddocument_parts.proofs.LineFronts.{line-ahead, line-behind}
use Rattle.mddocument_parts.specs.BothDocuments.{is_rest}
use Rattle.mddocument_parts.specs.Moved.{begins_line, line_endings}
use Rattle.mddocument_editing.proofs.Below.{first-tells, labels-both, labels-none, rest-begins}
use Rattle.mddocument_editing.proofs.SectionLines.{line-endings-add}
use Rattle.mddocument_editing.specs.FirstRest.{IsFirstRest}
use Rattle.mddocument_editing.specs.PositionParts.{endings}
use Rattle.mddocument_sinks.specs.Seams.{IsSeam}

-- bytes at whose front a rest is told begin at a rest, whatever comes behind them
rest-front : (options : ParseOptions) (a c d : List ℕ) → is_rest options a (c ++ d) ≡ true → 1 ≤ length c → begins_line d c ≡ true → is_rest options a c ≡ true
rest-front options a c d rest some line =
    let begins : begins_line c a ≡ true = sym (line-ahead a c d some) ∙ rest-begins options a (c ++ d) rest in
    sym (first-tells options.constructs options.tab_size a c d some line begins) ∙ rest

module _ (options : ParseOptions) (bytes : List ℕ) where
  abbrev on : Constructs
  on = options.constructs

  abbrev t : ℕ
  t = options.tab_size

  -- ---- seams
  pub seam-first : IsSeam options bytes 0
  seam-first = record { within = omega arith; rest = λ some less. absurd (omega (arith, some)) }

  pub seam-last : IsSeam options bytes (length bytes)
  seam-last = record { within = omega arith; rest = λ some less. absurd (omega (arith, less)) }

  at-next : (from k : ℕ) → IsSeam options bytes from → from < length bytes → IsFirstRest options (drop from bytes) k → k < length (drop from bytes)
      → is_rest options (take from bytes ++ take k (drop from bytes)) (drop k (drop from bytes)) ≡ true
  at-next zero k seam less first more = first.rest more
  at-next (suc n) k seam less first more =
      let left = drop (suc n) bytes in
      let a = take (suc n) bytes in
      let c = take k left in
      let d = drop k left in
      let rest : is_rest options c d ≡ true = first.rest more in
      let some : 1 ≤ length c = omega (arith, length-take k left, first.some, first.within) in
      let all : is_rest options a (c ++ d) ≡ true = subst (λ b. is_rest options a b ≡ true) (sym (take-append-drop k left)) (seam.rest (omega arith) less) in
      let line = rest-begins options c d rest in
      document-rests-of-both on t a c d (rest-front options a c d all some line) some line ∙ rest

  -- the first rest behind a seam is one, and so is the end
  pub seam-next : (from k : ℕ) → IsSeam options bytes from → from < length bytes → IsFirstRest options (drop from bytes) k → IsSeam options bytes (from + k)
  seam-next from k seam less first =
      let size = length-drop from bytes in
      let front = take-add from k bytes in
      let back = sym (drop-drop k from bytes) in
      record {
        within = omega (arith, first.within, size, less);
        rest = λ some more. (λ i. is_rest options (front i) (back i)) ∙ at-next from k seam less first (omega (arith, size, more));
      }

  -- ---- pieces
  -- the bytes from an index up to another
  abbrev pub piece : (from to : ℕ) → List ℕ
  piece from to = take (to - from) (drop from bytes)

  pub joined : (from to : ℕ) → from ≤ to → take from bytes ++ piece from to ≡ take to bytes
  joined from to order =
      let all : from + (to - from) ≡ to = omega (arith, order) in
      sym (take-add from (to - from) bytes) ∙ ap (λ n. take n bytes) all

  pub left : (from to : ℕ) → from ≤ to → piece from to ++ drop to bytes ≡ drop from bytes
  left from to order =
      let all : from + (to - from) ≡ to = omega (arith, order) in
      ap (λ n. piece from to ++ drop n bytes) (sym all) ∙ ap (λ d. piece from to ++ d) (sym (drop-drop (to - from) from bytes)) ∙ take-append-drop (to - from) (drop from bytes)

  pub long : (from to : ℕ) → from ≤ to → to ≤ length bytes → length (piece from to) ≡ to - from
  long from to order within = omega (arith, length-take (to - from) (drop from bytes), length-drop from bytes, order, within)

  module _ (from to : ℕ) (start : IsSeam options bytes from) (end : IsSeam options bytes to) (order : from < to) where
    some : 1 ≤ length (piece from to)
    some = let size = long from to (omega (arith, order)) end.within in omega (arith, size, order)

    both : take from bytes ++ piece from to ≡ take to bytes
    both = joined from to (omega (arith, order))

    -- a piece behind a rest begins at it
    pub piece-rest : 0 < from → is_rest options (take from bytes) (piece from to) ≡ true
    piece-rest behind =
        let a = take from bytes in
        let c = piece from to in
        let d = drop to bytes in
        let less : from < length bytes = omega (arith, end.within, order) in
        let all : is_rest options a (c ++ d) ≡ true = subst (λ b. is_rest options a b ≡ true) (sym (left from to (omega (arith, order)))) (start.rest behind less) in
        elim (cases_lt to (length bytes)) [
          | inl lt ↦
              let line : begins_line d c ≡ true = sym (line-behind a c d some) ∙ ap (begins_line d) both ∙ rest-begins options (take to bytes) d (end.rest (omega (arith, order)) lt) in
              rest-front options a c d all some line
          | inr ge ↦ sym (ap (is_rest options a) (append-nil c)) ∙ ap (λ e. is_rest options a (c ++ e)) (sym (drop_all to bytes ge)) ∙ all
        ]

-- ---- up to a seam, and the piece behind it
module _ (options : ParseOptions) (bytes : List ℕ) where
  abbrev labels_of : List ℕ → List (List ℕ)
  labels_of part = written_labels options.constructs (virtual options.tab_size part)

  -- labels
  pub labels-on : (from to : ℕ) → IsSeam options bytes from → IsSeam options bytes to → from < to → labels_of (take to bytes) ≡ labels_of (take from bytes) ++ labels_of (piece options bytes from to)
  labels-on zero to start end order =
      ap labels_of (sym (joined options bytes zero to (omega arith)))
      ∙ ap (λ ls. ls ++ labels_of (piece options bytes zero to)) (sym (labels-none options.constructs options.tab_size))
  labels-on (suc n) to start end order =
      let a = take (suc n) bytes in
      let c = piece options bytes (suc n) to in
      ap labels_of (sym (joined options bytes (suc n) to (omega (arith, order))))
      ∙ labels-both options.constructs options.tab_size a c (piece-rest options bytes (suc n) to start end order (omega arith))

  -- line endings
  pub lines-on : (from to : ℕ) → IsSeam options bytes from → IsSeam options bytes to → from < to → line_endings (take to bytes) ≡ line_endings (take from bytes) + line_endings (piece options bytes from to)
  lines-on zero to start end order = let e = ap line_endings (joined options bytes zero to (omega arith)) in omega (arith, e)
  lines-on (suc n) to start end order =
      let a = take (suc n) bytes in
      let c = piece options bytes (suc n) to in
      sym (ap line_endings (joined options bytes (suc n) to (omega (arith, order))))
      ∙ line-endings-add a c (rest-begins options a c (piece-rest options bytes (suc n) to start end order (omega arith)))
