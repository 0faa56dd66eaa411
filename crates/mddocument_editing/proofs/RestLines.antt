-- Lines of a document one after another: what is known before one, and whether it is at a rest.
use Rattle.mddocument_editing.proofs.Prelude.{Option, ◌≡◌, ◌⊎◌, inl, inr, ◌-◌, ℕ, suc, ◌+◌, ◌<◌, ◌≤◌, Bool, true, false, cond, List, [], ◌∷◌, ◌++◌, length, take, drop, map, sym, ap, subst, ◌∙◌, arith, AllByRecursion, is_some, not, ◌||◌, take-add, cases_order, drop-drop, length-take-le, take-append-drop, virtual, virtual_from, Constructs, ParseOptions, lines_in, Line, text_of, underline_rank, line_bytes, line_length, Before, has_none, is_paragraph, open_paragraph, IsRow, before_of, leaf_of, open_of, Row as CodeRow, BeganBefore, Known, is_behind_text, is_used_up, known_after, row_of, is_rest, begins_anew, begins_at_document_rest, first_at_document_rest, is_closed, known_at_start, known_behind, begins_line, line_endings, moved_line, moved_lines, line-ahead, line-behind, HasNoRestBefore, ◌&&◌}
use Rattle.std.proofs.Common.{length-append, length-drop}
use Rattle.mdblock_lines.specs.Lines.{line_at}
use Rattle.mdblock_lines.proofs.LinesCut.{lines_follow}
use Rattle.mdblock_lines.proofs.PlaceLemmas.{expanded_is_virtual}
use Rattle.mdblock_containers.specs.Prefixes.{columns_of, going_on}
use Rattle.mdblock_containers.specs.Rows as without
use Rattle.mdblock_containers.specs.Rows.{Row, is_table, open_table}
use Rattle.mdblock_leaf_blocks.specs.LineKinds.{is_far}
use Rattle.mdblock_tables.specs.Tables.{is_row, matched}
use Rattle.mdblock_definitions.specs.Rows.{last_line}
use Rattle.mdblock_containers.proofs.DocumentRows.{line_length_some, text_of_line_at}
use Rattle.mdblock_containers.proofs.RowReads.{old_behind}
use Rattle.mdblock_definitions.specs.Known.{IsKnown}
use Rattle.mdblock_definitions.specs.declared.rows.Known.{Known as CodeKnown}
use Rattle.mdblock_definitions.proofs.KnownReads.{known-reads}
use Rattle.mddocument_parts.proofs.DocumentRests.{anew-same, behind-append}
use Rattle.mddocument_parts.proofs.MovedBlocks.{text-moved}
use Rattle.mddocument_parts.proofs.MovedRows.{begun_by, row_by}
use Rattle.mddocument_parts.proofs.Virtual.{lines-are-counted, lines-of-both}
use Rattle.mddocument_editing.specs.Seen.{first_marker}
use Rattle.mddocument_editing.proofs.RestBytes.{Ends, line-ends, none-inside}

-- a list with one item, which is the first of another
first-alone : {A : Type 0} (xs ys zs : List A) (y : A) → length xs ≡ 1 → y ∷ zs ≡ xs ++ ys → xs ≡ y ∷ []
first-alone (x ∷ []) ys zs y one e = cc
first-alone _ ys zs y one e = absurd (omega arith)

module _ (on : Constructs) where
  -- a line, and what is known behind it, by the line's text
  abbrev plain_by : Known → (number : ℕ) → (t : List ℕ) → Row
  plain_by k number t =
      let went = going_on (take k.before.depth k.before.stack) number t in
      let begun = begun_by 0 on 0 k.before.stack k.before number t (length went) (columns_of went) in
      row_by 0 on 0 k.before number [] went begun (length went) (columns_of went + columns_of begun) t (has_none begun) (length k.before.stack)

  abbrev known_by : Known → (number : ℕ) → (t : List ℕ) → Known
  known_by k number t =
      let plain = plain_by k number t in
      let rest = drop plain.columns t in
      let own : Row = record plain { leaf = cond (on.definition && (is_behind_text k.before plain && (is_some (underline_rank on rest) && is_used_up k.text))) open_paragraph plain.leaf } in
      let begins = (not own.is_lazy && (not (is_far on rest) && is_some (matched (last_line k.text) rest))) && not (on.definition && is_used_up k.text) in
      let row : Row = record own { leaf = cond (on.gfm_table && (own.stays && (is_paragraph own.leaf && ((is_paragraph k.before.leaf && begins) || (is_table k.before.leaf && is_row rest))))) open_table own.leaf } in
      record { before = without.known_after on k.before row; text = cond (is_paragraph row.leaf) (cond (is_behind_text k.before row) (k.text ++ 10 ∷ rest) rest) [] }

  known-same : (k : Known) (number : ℕ) (line other : Line) → text_of line ≡ text_of other → known_after on k (row_of on k number line) ≡ known_after on k (row_of on k number other)
  known-same k number line other e = ap (known_by k number) e

  -- what is known behind bytes
  abbrev pub known_of : (t : ℕ) → List ℕ → Known
  known_of t a = known_behind on (known_at_start on) 1 (lines_in (virtual t a))

  module _ (t : ℕ) (some : 0 < t) (most : t ≤ 16) where
    -- a line's text, whatever its number and its beginning
    text-same : (number start m n : ℕ) (b : List ℕ) → text_of (line_at t number start b) ≡ text_of (line_at t m n b)
    text-same number start m n b =
        text_of_line_at t number start b ∙ sym (expanded_is_virtual t some most number 1 start b) ∙ expanded_is_virtual t some most m 1 n b ∙ sym (text_of_line_at t m n b)

    module _ (a b : List ℕ) (left : 0 < length b) (begins : begins_line b a ≡ true) where
      abbrev number : ℕ
      number = suc (length (lines_in (virtual t a)))

      abbrev line : Line
      line = line_at t number (length a) b

      abbrev first : Line
      first = line_at t 1 0 b

      first-line : lines_in (virtual t b) ≡ first ∷ lines_in (virtual_from t 2 1 (0 + line_length b) (drop (line_length b) b))
      first-line = lines_follow t 1 0 b some left

      -- it is told of its line whether it is at a rest
      pub rest-told : begins_at_document_rest on t a b ≡ begins_anew on (known_of t a) number line
      rest-told =
          (λ i. begins i && first_at_document_rest on (lines_in (virtual t a)) (first-line i))
          ∙ anew-same on (known_of t a) number first line (text-same 1 0 number (length a) b)

      -- the next line
      module _ (more : line_length b < length b) where
        abbrev this : List ℕ
        this = take (line_length b) b

        abbrev rest : List ℕ
        rest = drop (line_length b) b

        ends : Ends this rest
        ends = line-ends b more

        whole : this ++ rest ≡ b
        whole = take-append-drop (line_length b) b

        some-this : 1 ≤ length this
        some-this = let size = length-take-le (line_length b) b (omega (arith, more)) in let least = line_length_some b left in omega (arith, size, least)

        only : lines_in (virtual t this) ≡ first ∷ []
        only =
            first-alone (lines_in (virtual t this)) (moved_lines (line_endings this) (length this) (lines_in (virtual t rest))) (lines_in (virtual_from t 2 1 (0 + line_length b) rest)) first
            (lines-are-counted t this rest ends.begins ∙ ends.one)
            (sym first-line ∙ ap (λ bs. lines_in (virtual t bs)) (sym whole) ∙ lines-of-both t this rest ends.begins)

        begins-this : begins_line this a ≡ true
        begins-this = sym (line-ahead a this rest some-this) ∙ ap (λ bs. begins_line bs a) whole ∙ begins

        next-line : lines_in (virtual t (a ++ this)) ≡ lines_in (virtual t a) ++ moved_line (line_endings a) (length a) first ∷ []
        next-line = lines-of-both t a this begins-this ∙ ap (λ ls. lines_in (virtual t a) ++ moved_lines (line_endings a) (length a) ls) only

        pub next-begins : begins_line rest (a ++ this) ≡ true
        next-begins = line-behind a this rest some-this ∙ ends.begins

        pub next-number : suc (length (lines_in (virtual t (a ++ this)))) ≡ suc number
        next-number = let e = ap (λ (ls : List Line). length ls) next-line in let sum = length-append (lines_in (virtual t a)) (moved_line (line_endings a) (length a) first ∷ []) in omega (arith, e, sum)

        pub next-known : known_of t (a ++ this) ≡ known_after on (known_of t a) (row_of on (known_of t a) number line)
        next-known =
            let moved = moved_line (line_endings a) (length a) first in
            ap (known_behind on (known_at_start on) 1) next-line
            ∙ behind-append on (known_at_start on) 1 number (lines_in (virtual t a)) (moved ∷ []) (omega arith)
            ∙ known-same (known_of t a) number moved line (text-moved (line_endings a) (length a) first ∙ text-same 1 0 number (length a) b)

      -- no line begins in it
      pub none-in : (k : ℕ) → 0 < k → k < line_length b → k ≤ length b → begins_at_document_rest on t (a ++ take k b) (drop k b) ≡ false
      none-in k some less within =
          let size = length-take-le k b within in
          let none = line-behind a (take k b) (drop k b) (omega (arith, some, size)) ∙ none-inside b k some less in
          (λ i. none i && first_at_document_rest on (lines_in (virtual t (a ++ take k b))) (lines_in (virtual t (drop k b))))

-- ---- in a document
module _ (options : ParseOptions) (bytes : List ℕ) where
  abbrev on : Constructs
  on = options.constructs

  abbrev t : ℕ
  t = options.tab_size

  -- a line begins at an index: its number, and what the code knows before it
  pub record IsAtLine (code : CodeKnown) (number start : ℕ) : Type 0 where
    pub begins : begins_line (drop start bytes) (take start bytes) ≡ true
    pub number_is : number ≡ suc (length (lines_in (virtual t (take start bytes))))
    pub known : IsKnown on code (known_of on t (take start bytes))

  module _ (some : 0 < options.tab_size) (most : options.tab_size ≤ 16) (start next number : ℕ) (inside : start < length bytes) (next_is : next ≡ start + line_length (drop start bytes)) where
    abbrev before : List ℕ
    before = take start bytes

    abbrev left : List ℕ
    left = drop start bytes

    abbrev size : ℕ
    size = line_length left

    abbrev there : Known
    there = known_of on t before

    long-before : length before ≡ start
    long-before = length-take-le start bytes (omega (arith, inside))

    long-left : length left + start ≡ length bytes
    long-left = let e = length-drop start bytes in omega (arith, e, inside)

    some-left : 0 < length left
    some-left = omega (arith, long-left, inside)

    -- whether it is at a rest
    pub told : (code : CodeKnown) → IsAtLine code number start → is_rest options before left ≡ begins_anew on there number (line_at t number start left)
    told code at = rest-told on t some most before left some-left at.begins ∙ (λ i. begins_anew on there (sym at.number_is i) (line_at t (sym at.number_is i) (long-before i) left))

    -- what the code tells of it, by what it knows before it, its virtual bytes and its row
    pub asked : (code : CodeKnown) (is_shut : Bool) (list : Option ℕ) (text : List ℕ) (row : CodeRow) (result : Bool) → IsAtLine code number start → is_shut ≡ is_closed (leaf_of code.before.leaf) → list ≡ first_marker (map open_of code.before.stack.items)
        → text ≡ line_bytes t number 1 start left → IsRow number row (row_of on there number (line_at t number start left))
        → ((k : Known) (number : ℕ) (line : Line) → is_closed k.before.leaf ≡ is_shut → first_marker k.before.stack ≡ list → text_of line ≡ text → IsRow number row (row_of on k number line) → result ≡ begins_anew on k number line)
        → is_rest options before left ≡ result
    asked code is_shut list text row result at shut marker bytes_of is says =
        told code at
        ∙ sym (says there number (line_at t number start left) (sym (shut ∙ ap (λ (b : Before). is_closed b.leaf) at.known.before)) (sym (marker ∙ ap (λ (b : Before). first_marker b.stack) at.known.before))
        (text_of_line_at t number start left ∙ sym bytes_of) is)

    -- no rest is before the next line, if none is at this one
    pub none-before-next : (code : CodeKnown) → IsAtLine code number start → HasNoRestBefore options bytes start → (0 < start → is_rest options before left ≡ false) → next ≤ length bytes → HasNoRestBefore options bytes next
    none-before-next code at none here within k some-k less = by (cases_order k start)
      where
        further : (j : ℕ) → start + j ≡ k → 0 < j → is_rest options (take k bytes) (drop k bytes) ≡ false
        further j e some-j =
            (λ i. is_rest options (take (sym e i) bytes) (drop (sym e i) bytes))
            ∙ (λ i. is_rest options (take-add start j bytes i) (sym (drop-drop j start bytes) i))
            ∙ none-in on t some most before left some-left at.begins j some-j (omega (arith, e, less, next_is)) (omega (arith, e, less, within, long-left))

        by : (k ≡ start) ⊎ ((k < start) ⊎ (start < k)) → is_rest options (take k bytes) (drop k bytes) ≡ false
        by (inl e) = (λ i. is_rest options (take (e i) bytes) (drop (e i) bytes)) ∙ here (omega (arith, some-k, e))
        by (inr (inl l)) = none k some-k l
        by (inr (inr l)) = further (k - start) (omega (arith, l)) (omega (arith, l))

    -- the next line, and what is known before it
    module _ (code new : CodeKnown) (at : IsAtLine code number start) (is : IsKnown on new (known_after on there (row_of on there number (line_at t number start left)))) where
      one-more : suc number ≡ number + 1
      one-more = omega arith

      pub began-next : AllByRecursion (BeganBefore number) (before_of code.before).stack → AllByRecursion (BeganBefore (number + 1)) (before_of new.before).stack
      began-next began =
          subst (λ (n : ℕ). AllByRecursion (BeganBefore n) (before_of new.before).stack) one-more
          (subst (λ (b : Before). AllByRecursion (BeganBefore (suc number)) b.stack) (sym is.before)
          (old_behind on (known-reads on) there number (line_at t number start left) (subst (λ (b : Before). AllByRecursion (BeganBefore number) b.stack) at.known.before began)))

      pub at-next : next < length bytes → IsAtLine new (number + 1) next
      at-next less = record {
        begins = (λ i. begins_line (rest-is i) (both i)) ∙ next-begins on t some most before left some-left at.begins more;
        number_is = sym one-more ∙ ap suc at.number_is ∙ sym (next-number on t some most before left some-left at.begins more) ∙ ap (λ bs. suc (length (lines_in (virtual t bs)))) (sym both);
        known =
            subst (IsKnown on new)
            ((λ i. known_after on there (row_of on there (at.number_is i) (line_at t (at.number_is i) (sym long-before i) left)))
            ∙ sym (next-known on t some most before left some-left at.begins more) ∙ ap (known_of on t) (sym both))
            is;
      }
        where
          more : size < length left
          more = omega (arith, long-left, less, next_is)

          both : take next bytes ≡ before ++ take size left
          both = ap (λ n. take n bytes) next_is ∙ take-add start size bytes

          rest-is : drop next bytes ≡ drop size left
          rest-is = ap (λ n. drop n bytes) next_is ∙ sym (drop-drop size start bytes)
