-- A line in parts: its bytes before the line ending, and the line ending.
use Rattle.mdblock_leaf_blocks.proofs.Prelude.{List, [], ap, append_assoc, inl, inr, refl, subst, sym, true, ◌++◌, ◌∙◌, ◌∷◌, ◌≡◌, and_parts, AllByRecursion, Seat, Configuration, end_place, Text, AreLines, IsAtLines, Line, bytes_of, is_blank_line, IsInLine, LineEnds, is_white, all_of, ending_of, line_text, waits_at}
use Rattle.mdblock_leaf_blocks.proofs.Lines.LineReads.{IsAt}
use Rattle.mdblock_leaf_blocks.proofs.Lines.Lines.{cut-line, text-in-line}

-- a byte is white space
abbrev pub IsWhite : Seat → Type 0
IsWhite s = is_white s.byte ≡ true

pub all-white : (l : List Seat) → is_blank_line (bytes_of l) ≡ true → AllByRecursion IsWhite l
all-white [] h = tt
all-white (s ∷ ss) h = let (one, more) = and_parts (is_white s.byte) (is_blank_line (bytes_of ss)) h in (one, all-white ss more)

-- ---- the line ending
-- a line before other lines, apart from its line ending
pub record Parts (line : Line) (more : List Line) : Type 0 where
  pub in_line : IsInLine (line_text line)
  pub is : line ≡ line_text line ++ ending_of line
  pub ends : LineEnds (ending_of line ++ all_of more)

pub first-parts : (line : Line) (more : List Line) → AreLines (line ∷ more) → Parts line more
first-parts line more h =
    let cut = cut-line line more h in
    record {
      in_line = text-in-line line;
      is = sym cut.whole;
      ends = elim cut.ends [
        | inl with ↦ subst (λ e. LineEnds (e ++ all_of more)) (sym with.is) with.feed
        | inr without ↦ subst (λ e. LineEnds (e ++ all_of more)) (sym without.is) (subst (λ ls. LineEnds (all_of ls)) (sym without.last) tt)
      ];
    }

-- where the first of lines is read
pub at-first : (t : Text) (k : Configuration Unit Unit) (line : Line) (more : List Line) → IsAtLines t k (line ∷ more) → IsAt t k (end_place t k.position) (line_text line ++ (ending_of line ++ all_of more))
at-first t k line more at =
    let parts = first-parts line more at.are_lines in
    let split : line ++ all_of more ≡ line_text line ++ (ending_of line ++ all_of more) = ap (λ l. l ++ all_of more) parts.is ∙ append_assoc (line_text line) (ending_of line) (all_of more) in
    record { behind = refl; left = at.at ∙ split; waits = at.waits ∙ ap waits_at split }
