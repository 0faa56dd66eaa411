-- Positions and byte indices come back.
use Rattle.mddocument_editing.proofs.Prelude.{◌≡◌, ℕ, ◌+◌, ◌-◌, ◌≤◌, Bool, true, false, cond, List, length, min, sym, ap, ◌∙◌, arith, refl, eqb-true, Option, Some, None, nat_le, get_or_from_slice_get, same_Some, ◌==◌, find, option_and_then, option_map, slice_get, slice_index, Encoding, Position, OffsetsComeBack, Place, PositionsComeBack, character_in, clamped, index_in, is_between, length_in, line_of, offset_of, places, position_of, starts, text_at}
use Rattle.std.proofs.Common.{leb-true, le-leb}
use Rattle.mddocument_editing.specs.Positions.{start_of}
use Rattle.mddocument_editing.proofs.CharsBack.{by-character, by-index, in-text, find-passes}
use Rattle.mddocument_editing.proofs.LinesBack.{in-line, offset-in, start-before, start-found}

module _ (encoding : Encoding) (bytes : List ℕ) where
  abbrev at_line : ℕ → ℕ → Position
  at_line line character = record { line = line; character = character }

  -- the position of an index, by its line and the place that is found there
  position-at : (offset line start : ℕ) (q : Place) → offset ≤ length bytes → line_of bytes offset ≡ line → start_of bytes offset ≡ start
      → find (λ (r : Place). r.index == min (offset - start) (length (text_at bytes start))) (places encoding (text_at bytes start)) ≡ Some q
      → position_of encoding bytes offset ≡ Some (at_line line q.character)
  position-at offset line start q within number first found =
      ap (λ b. cond b (option_map (at_line (line_of bytes offset)) (character_in encoding (text_at bytes (start_of bytes offset)) (offset - start_of bytes offset))) None) (le-leb offset (length bytes) within)
      ∙ ap (λ s. option_map (at_line (line_of bytes offset)) (character_in encoding (text_at bytes s) (offset - s))) first
      ∙ ap (λ l. option_map (at_line l) (character_in encoding (text_at bytes start) (offset - start))) number
      ∙ ap (λ o. option_map (at_line line) (option_map (λ (r : Place). r.character) o)) found

  -- the index of a position, by its line and the place that is found there
  offset-at : (line character start : ℕ) (q : Place) → slice_get (starts bytes) line ≡ Some start
      → find (λ (r : Place). r.character == min character (length_in encoding (text_at bytes start))) (places encoding (text_at bytes start)) ≡ Some q
      → offset_of encoding bytes (at_line line character) ≡ Some (start + q.index)
  offset-at line character start q first found =
      ap (λ o. option_and_then (λ s. option_map (λ index. s + index) (index_in encoding (text_at bytes s) character)) o) first
      ∙ ap (λ o. option_map (λ index. start + index) (option_map (λ (r : Place). r.index) o)) found

  module _ (position : Position) (offset : ℕ) where
    one-place : (start : ℕ) (o : Option Place) → slice_get (starts bytes) position.line ≡ Some start
        → find (λ (r : Place). r.character == min position.character (length_in encoding (text_at bytes start))) (places encoding (text_at bytes start)) ≡ o
        → option_map (λ index. start + index) (option_map (λ (r : Place). r.index) o) ≡ Some offset → position_of encoding bytes offset ≡ Some (clamped encoding bytes position)
    one-place start None first found h = absurd (cc)
    one-place start (Some q) first found h =
        let text = text_at bytes start in
        let is : start + q.index ≡ offset = same_Some (start + q.index) offset h in
        let inside = in-text encoding (λ (r : Place). r.character == min position.character (length_in encoding text)) text q found in
        let here = in-line bytes position.line start q.index first inside.0 in
        let index : q.index ≡ min (start + q.index - start) (length text) = omega (arith, inside.0) in
        let by = ap (λ k. find (λ (r : Place). r.index == k) (places encoding text)) (sym index) ∙ by-index encoding (λ (r : Place). r.character == min position.character (length_in encoding text)) text q found in
        let character : q.character ≡ min position.character (length_in encoding text) = eqb-true q.character (min position.character (length_in encoding text)) (find-passes (λ (r : Place). r.character == min position.character (length_in encoding text)) (places encoding text) q found) in
        let same : start ≡ slice_index (starts bytes) position.line = sym (get_or_from_slice_get (starts bytes) position.line start 0 first) in
        ap (position_of encoding bytes) (sym is)
        ∙ position-at (start + q.index) position.line start q here.0 here.1 here.2 by
        ∙ ap (λ k. Some (at_line position.line k)) character
        ∙ ap (λ s. Some (at_line position.line (min position.character (length_in encoding (text_at bytes s))))) same

    one-line : (o : Option ℕ) → slice_get (starts bytes) position.line ≡ o
        → option_and_then (λ start. option_map (λ index. start + index) (index_in encoding (text_at bytes start) position.character)) o ≡ Some offset
        → position_of encoding bytes offset ≡ Some (clamped encoding bytes position)
    one-line None first h = absurd (cc)
    one-line (Some start) first h = one-place start (find (λ (r : Place). r.character == min position.character (length_in encoding (text_at bytes start))) (places encoding (text_at bytes start))) first refl h

    one-back : (o : Option Place) → offset ≤ length bytes → is_between bytes offset ≡ false
        → find (λ (r : Place). r.index == min (offset - start_of bytes offset) (length (text_at bytes (start_of bytes offset)))) (places encoding (text_at bytes (start_of bytes offset))) ≡ o
        → option_map (at_line (line_of bytes offset)) (option_map (λ (r : Place). r.character) o) ≡ Some position → offset_of encoding bytes position ≡ Some offset
    one-back None within apart found h = absurd (cc)
    one-back (Some q) within apart found h =
        let start = start_of bytes offset in
        let text = text_at bytes start in
        let Q : Place → Bool = λ r. r.index == min (offset - start) (length text) in
        let is : at_line (line_of bytes offset) q.character ≡ position = same_Some (at_line (line_of bytes offset) q.character) position h in
        let index : q.index ≡ min (offset - start) (length text) = eqb-true q.index (min (offset - start) (length text)) (find-passes Q (places encoding text) q found) in
        let total : start + q.index ≡ offset = omega (arith, index, offset-in bytes offset within apart, start-before bytes offset within) in
        let inside = in-text encoding Q text q found in
        let character : q.character ≡ min q.character (length_in encoding text) = omega (arith, inside.1) in
        let by = ap (λ k. find (λ (r : Place). r.character == k) (places encoding text)) (sym character) ∙ by-character encoding Q text q found in
        ap (offset_of encoding bytes) (sym is) ∙ offset-at (line_of bytes offset) q.character start q (start-found bytes offset within) by ∙ ap Some total

    in-document : (b : Bool) → nat_le offset (length bytes) ≡ b → is_between bytes offset ≡ false
        → cond b (option_map (at_line (line_of bytes offset)) (character_in encoding (text_at bytes (start_of bytes offset)) (offset - start_of bytes offset))) None ≡ Some position
        → offset_of encoding bytes position ≡ Some offset
    in-document false e apart h = absurd (cc)
    in-document true e apart h =
        one-back (find (λ (r : Place). r.index == min (offset - start_of bytes offset) (length (text_at bytes (start_of bytes offset)))) (places encoding (text_at bytes (start_of bytes offset))))
        (leb-true offset (length bytes) e) apart refl h

pub positions-come-back : PositionsComeBack
positions-come-back encoding bytes position offset h = one-line encoding bytes position offset (slice_get (starts bytes) position.line) refl h

pub offsets-come-back : OffsetsComeBack
offsets-come-back encoding bytes offset position h apart = in-document encoding bytes position offset (nat_le offset (length bytes)) refl apart h
