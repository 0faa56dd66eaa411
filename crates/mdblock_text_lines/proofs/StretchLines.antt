-- The lines of a stretch's text are what the prefixes of its containers leave of them: so they are alike with letters.
use Rattle.std.proofs.Common.{◌≡◌, inl, inr, ℕ, zero, suc, ◌≤◌, Bool, true, false, cond, List, [], ◌∷◌, ◌++◌, ap, append-nil, append_assoc, arith, drop, length, refl, subst, sym, ◌∙◌}
use Rattle.std.specs.Prelude.{not}
use Rattle.std.specs.List.{AllByRecursion, flat_map}
use Rattle.std.proofs.lemmas.Bool.{false≢true}
use Rattle.markdown_base.specs.Virtual.{Seat}
use Rattle.mdconstructs_machines.specs.LineEvents.{ending_of, joined, line_text, lines_in}
use Rattle.mdblock_leaf_blocks.proofs.Lines.WholeLines.{IsWhole, whole-behind, whole-text}
use Rattle.mdblock_leaf_blocks.specs.LeafBlocks.{Line}
use Rattle.mdblock_containers.proofs.SeatFacts.{drop_text}
use Rattle.mdblock_containers.specs.Rows.{Row, has_none}
use Rattle.mdblock_containers.specs.Skeleton.{Piece, joined_pieces, pieces_of}

-- ---- lines, one behind another
-- a line with its line ending is the first one
pub first-line : (l rest : List Seat) → IsWhole l → has_none (ending_of l) ≡ false → lines_in (l ++ rest) ≡ l ∷ lines_in rest
first-line [] rest w e = absurd (false≢true (sym e))
first-line (s ∷ ss) rest (inr w) e = ap (λ b. cond b ((s ∷ []) ∷ lines_in (ss ++ rest)) (joined s (lines_in (ss ++ rest)))) w.0 ∙ (λ i. (s ∷ sym w.1 i) ∷ lines_in (w.1 i ++ rest))
first-line (s ∷ ss) rest (inl w) e =
    ap (λ b. cond b ((s ∷ []) ∷ lines_in (ss ++ rest)) (joined s (lines_in (ss ++ rest)))) w.0
    ∙ ap (joined s) (first-line ss rest w.1 (sym (ap (λ b. has_none (cond b (s ∷ ending_of ss) (ending_of ss))) w.0) ∙ e))

-- and one alone is the only one
pub only-line : (l : List Seat) → IsWhole l → has_none l ≡ false → lines_in l ≡ l ∷ []
only-line [] w e = absurd (false≢true (sym e))
only-line (s ∷ ss) (inr w) e = ap (λ b. cond b ((s ∷ []) ∷ lines_in ss) (joined s (lines_in ss))) w.0 ∙ (λ i. (s ∷ sym w.1 i) ∷ lines_in (w.1 i))
only-line (s ∷ []) (inl w) e = ap (λ b. cond b ((s ∷ []) ∷ []) (joined s [])) w.0
only-line (s ∷ r ∷ ss) (inl w) e = ap (λ b. cond b ((s ∷ []) ∷ lines_in (r ∷ ss)) (joined s (lines_in (r ∷ ss)))) w.0 ∙ ap (joined s) (only-line (r ∷ ss) w.1 refl)

-- the line ending stays
pub ending-dropped : (line : Line) (c : ℕ) → IsWhole line → c ≤ length (line_text line) → ending_of (drop c line) ≡ ending_of line
ending-dropped [] zero w few = refl
ending-dropped [] (suc c) w few = refl
ending-dropped (s ∷ ss) zero w few = refl
ending-dropped (s ∷ ss) (suc c) (inl w) few =
    let here : line_text (s ∷ ss) ≡ s ∷ line_text ss = ap (λ b. cond (not b) (s ∷ line_text ss) (line_text ss)) w.0 in
    let long = ap length here in
    ending-dropped ss c w.1 (omega (arith, few, long)) ∙ sym (ap (λ b. cond b (s ∷ ending_of ss) (ending_of ss)) w.0)
ending-dropped (s ∷ ss) (suc c) (inr w) few =
    let here : line_text (s ∷ ss) ≡ [] = ap (λ b. cond (not b) (s ∷ line_text ss) (line_text ss)) w.0 ∙ ap line_text w.1 in
    let long = ap length here in
    absurd (omega (arith, few, long))

-- ---- the text of lines
-- what prefixes leave of lines, the last one with its line ending only if it is held
abbrev pub texts : (held : Bool) → Row → List Row → List Seat
texts held r [] = drop r.columns (cond held r.line (line_text r.line))
texts held r (next ∷ more) = drop r.columns r.line ++ texts held next more

module _ (P : Line → Type 0) where
  -- A line with prefixes in its text; what they leave of it is so, and its text alone
  pub record IsLeft (r : Row) : Type 0 where
    pub whole : IsWhole r.line
    pub few : r.columns ≤ length (line_text r.line)
    pub line : P (drop r.columns r.line)
    pub text : P (line_text (drop r.columns r.line))

  abbrev pub AreLeft : Row → List Row → Type 0
  AreLeft r [] = IsLeft r
  AreLeft r (next ∷ more) = IsLeft r × (has_none (ending_of r.line) ≡ false) × AreLeft next more

  one-left : (l : Line) → IsWhole l → P l → AllByRecursion P (lines_in l)
  one-left [] w h = tt
  one-left (s ∷ ss) w h = subst (AllByRecursion P) (sym (only-line (s ∷ ss) w refl)) (h, tt)

  pub lines-left : (held : Bool) (r : Row) (more : List Row) → AreLeft r more → AllByRecursion P (lines_in (texts held r more))
  lines-left true r [] h = one-left (drop r.columns r.line) (whole-behind r.columns r.line h.whole) h.line
  lines-left false r [] h =
      subst (λ l. AllByRecursion P (lines_in l)) (drop_text r.line r.columns h.whole h.few) (one-left (line_text (drop r.columns r.line)) (whole-text (drop r.columns r.line)) h.text)
  lines-left held r (next ∷ more) h =
      let l = drop r.columns r.line in
      let ending = ap has_none (ending-dropped r.line r.columns h.0.whole h.0.few) ∙ h.1 in
      subst (AllByRecursion P) (sym (first-line l (texts held next more) (whole-behind r.columns r.line h.0.whole) ending)) (h.0.line, lines-left held next more h.2)

-- ---- pieces
module _ (bytes : List ℕ) where
  abbrev pub all_seats : List (Piece bytes) → List Seat
  all_seats ps = flat_map (λ (q : Piece bytes). q.seats) ps

  pub pieces-texts : (held : Bool) (r : Row) (more : List Row) → all_seats (pieces_of bytes held r more) ≡ texts held r more
  pieces-texts held r [] = append-nil (drop r.columns (cond held r.line (line_text r.line)))
  pieces-texts held r (next ∷ more) = ap (λ l. drop r.columns r.line ++ l) (pieces-texts held next more)

  pub joined-seats : (ps : List (Piece bytes)) → all_seats (joined_pieces bytes ps) ≡ all_seats ps
  joined-seats [] = refl
  joined-seats (p ∷ []) = refl
  joined-seats (p ∷ q ∷ ps) = by (joined_pieces bytes (q ∷ ps)) (joined-seats (q ∷ ps))
    where
      by : (js : List (Piece bytes)) → all_seats js ≡ all_seats (q ∷ ps)
          → all_seats (elim js [ [] ↦ p ∷ [] | r ∷ rs ↦ cond (has_none r.before) (record p { seats = p.seats ++ r.seats } ∷ rs) (p ∷ r ∷ rs) ]) ≡ all_seats (p ∷ q ∷ ps)
      by [] e = ap (λ l. p.seats ++ l) e
      by (r ∷ rs) e = choose (has_none r.before)
        where
          choose : (x : Bool) → all_seats (cond x (record p { seats = p.seats ++ r.seats } ∷ rs) (p ∷ r ∷ rs)) ≡ all_seats (p ∷ q ∷ ps)
          choose true = append_assoc p.seats r.seats (all_seats rs) ∙ ap (λ l. p.seats ++ l) e
          choose false = ap (λ l. p.seats ++ l) e

  module _ (Q : List Seat → Type 0) where
    -- from each piece on it is so
    abbrev pub Tails : List (Piece bytes) → Type 0
    Tails [] = Unit {0}
    Tails (p ∷ ps) = Q (p.seats ++ all_seats ps) × Tails ps

    pub joined-tails : (ps : List (Piece bytes)) → Tails ps → Tails (joined_pieces bytes ps)
    joined-tails [] h = tt
    joined-tails (p ∷ []) h = h
    joined-tails (p ∷ q ∷ ps) h = by (joined_pieces bytes (q ∷ ps)) (joined-seats (q ∷ ps)) (joined-tails (q ∷ ps) h.1)
      where
        by : (js : List (Piece bytes)) → all_seats js ≡ all_seats (q ∷ ps) → Tails js
            → Tails (elim js [ [] ↦ p ∷ [] | r ∷ rs ↦ cond (has_none r.before) (record p { seats = p.seats ++ r.seats } ∷ rs) (p ∷ r ∷ rs) ])
        by [] e k = (subst (λ l. Q (p.seats ++ l)) (sym e) h.0, tt)
        by (r ∷ rs) e k = choose (has_none r.before)
          where
            all : Q (p.seats ++ (r.seats ++ all_seats rs))
            all = subst (λ l. Q (p.seats ++ l)) (sym e) h.0

            choose : (x : Bool) → Tails (cond x (record p { seats = p.seats ++ r.seats } ∷ rs) (p ∷ r ∷ rs))
            choose true = (subst Q (sym (append_assoc p.seats r.seats (all_seats rs))) all, k.1)
            choose false = (all, k)

    -- from each line on it is so
    abbrev pub TextTails : (held : Bool) → Row → List Row → Type 0
    TextTails held r [] = Q (texts held r [])
    TextTails held r (next ∷ more) = Q (texts held r (next ∷ more)) × TextTails held next more

    pub pieces-tails : (held : Bool) (r : Row) (more : List Row) → TextTails held r more → Tails (pieces_of bytes held r more)
    pieces-tails held r [] h = (subst Q (sym (append-nil (drop r.columns (cond held r.line (line_text r.line))))) h, tt)
    pieces-tails held r (next ∷ more) h = (subst (λ l. Q (drop r.columns r.line ++ l)) (sym (pieces-texts held next more)) h.0, pieces-tails held next more h.1)

    -- behind the first piece, too
    abbrev pub RestTails : List (Piece bytes) → Type 0
    RestTails [] = Unit {0}
    RestTails (x ∷ xs) = Tails xs

    pub joined-rest : (p : Piece bytes) (ps : List (Piece bytes)) → Tails ps → RestTails (joined_pieces bytes (p ∷ ps))
    joined-rest p [] h = tt
    joined-rest p (q ∷ ps) h = by (joined_pieces bytes (q ∷ ps)) (joined-tails (q ∷ ps) h)
      where
        by : (js : List (Piece bytes)) → Tails js → RestTails (elim js [ [] ↦ p ∷ [] | r ∷ rs ↦ cond (has_none r.before) (record p { seats = p.seats ++ r.seats } ∷ rs) (p ∷ r ∷ rs) ])
        by [] k = tt
        by (r ∷ rs) k = choose (has_none r.before)
          where
            choose : (x : Bool) → RestTails (cond x (record p { seats = p.seats ++ r.seats } ∷ rs) (p ∷ r ∷ rs))
            choose true = k.1
            choose false = k
