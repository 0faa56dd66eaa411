-- The last line of a text: of lines joined by line feeds, none of which has one, it is the last.
use Rattle.std.proofs.Common.{◌≡◌, ℕ, suc, ◌+◌, Bool, true, false, cond, List, [], ◌∷◌, ◌++◌, append_assoc, arith, drop, length, refl, reverse, ap, take, ◌∙◌}
use Rattle.std.specs.Prelude.{◌==◌, filter, map, not}
use Rattle.std.specs.List.{AllByRecursion, prefix_len}
use Rattle.std.proofs.lemmas.List.{reverse-append, reverse-reverse, take-append-le}
use Rattle.std.proofs.lemmas.Grind.{reverse_onto}
use Rattle.std.proofs.Math.Seq.{take-length}
use Rattle.markdown_base.proofs.Common.{every-drop, every-reverse}
use Rattle.markdown_base.specs.Virtual.{Seat}
use Rattle.mdconstructs_machines.specs.LineEvents.{is_line_ending}
use Rattle.mdblock_leaf_blocks.specs.LeafBlocks.{Line, text_of}
use Rattle.mdblock_definitions.specs.Rows.{last_line}

-- a byte is no line feed
abbrev pub IsInside : ℕ → Type 0
IsInside b = not (b == 10) ≡ true

abbrev pub AreInside : List ℕ → Type 0
AreInside t = AllByRecursion IsInside t

passed : (xs ys : List ℕ) → AreInside xs → prefix_len (λ b. not (b == 10)) (xs ++ 10 ∷ ys) ≡ length xs
passed [] ys h = refl
passed (b ∷ bs) ys h =
    let more = passed bs ys h.1 in
    let one : 1 + prefix_len (λ b. not (b == 10)) (bs ++ 10 ∷ ys) ≡ suc (length bs) = omega (arith, more) in
    ap (λ x. cond x (1 + prefix_len (λ b. not (b == 10)) (bs ++ 10 ∷ ys)) 0) h.0 ∙ one

passed-all : (xs : List ℕ) → AreInside xs → prefix_len (λ b. not (b == 10)) xs ≡ length xs
passed-all [] h = refl
passed-all (b ∷ bs) h =
    let more = passed-all bs h.1 in
    let one : 1 + prefix_len (λ b. not (b == 10)) bs ≡ suc (length bs) = omega (arith, more) in
    ap (λ x. cond x (1 + prefix_len (λ b. not (b == 10)) bs) 0) h.0 ∙ one

pub last-alone : (t : List ℕ) → AreInside t → last_line t ≡ t
last-alone t h =
    let r = reverse t in
    ap (λ n. reverse (take n r)) (passed-all r (every-reverse IsInside t h)) ∙ ap reverse (take-length r) ∙ reverse-reverse t

pub last-behind : (text rest : List ℕ) → AreInside rest → last_line (text ++ 10 ∷ rest) ≡ rest
last-behind text rest h =
    let r = reverse rest in
    let u = reverse text in
    let back : reverse (text ++ 10 ∷ rest) ≡ r ++ 10 ∷ u = reverse-append text (10 ∷ rest) ∙ ap (λ l. l ++ u) (reverse_onto rest 10 []) ∙ append_assoc r (10 ∷ []) u in
    ap (λ l. reverse (take (prefix_len (λ b. not (b == 10)) l) l)) back
    ∙ ap (λ n. reverse (take n (r ++ 10 ∷ u))) (passed r u (every-reverse IsInside rest h))
    ∙ ap reverse (take-append-le (length r) r (10 ∷ u) (omega arith) ∙ take-length r)
    ∙ reverse-reverse rest

-- the text of a line has no line feed
pub text-inside : (line : Line) → AreInside (text_of line)
text-inside [] = tt
text-inside (s ∷ ss) = by (is_line_ending s) refl (text-inside ss)
  where
    by : (x : Bool) → is_line_ending s ≡ x → AreInside (text_of ss) → AreInside (map (λ (q : Seat). q.byte) (cond (not x) (s ∷ filter (λ (q : Seat). not (is_line_ending q)) ss) (filter (λ (q : Seat). not (is_line_ending q)) ss)))
    by true e h = h
    by false e h = (ap not e, h)

pub rest-inside : (n : ℕ) (line : Line) → AreInside (drop n (text_of line))
rest-inside n line = every-drop IsInside n (text_of line) (text-inside line)
