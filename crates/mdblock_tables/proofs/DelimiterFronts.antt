-- What a delimiter row begins with, behind white space: a pipe, a colon or a hyphen.
use Rattle.std.proofs.Common.{◌≡◌, ◌⊎◌, inl, inr, ℕ, suc, ◌+◌, Bool, true, false, cond, List, [], ◌∷◌, ◌++◌, Option, Some, None, arith, drop, get_or, length, refl, reverse, sym, ap, subst, take, ◌∙◌}
use Rattle.std.specs.Prelude.{◌==◌, ◌&&◌, nat_le, is_some}
use Rattle.std.specs.List.{prefix_len}
use Rattle.std.proofs.lemmas.Bool.{false≢true}
use Rattle.mdconstructs_tables.specs.Breaks.{is_white}
use Rattle.mdblock_leaf_blocks.specs.LineKinds.{begins_with, run, trimmed, unindented}
use Rattle.mdblock_tables.specs.declared.tables.Alignment.{Alignment}
use Rattle.mdblock_tables.specs.Tables.{Cells, no_cell, last_cell, next_cell, aligned, alignment_of, alignments_of, before_others, contents, cut, delimiters, if_as_many, matched, one_if, onto, some_alignments}
use Rattle.mdblock_tables.proofs.CellLemmas.{trim_front}

-- a mark of a delimiter row comes first
abbrev pub BeginsDelimiting : List ℕ → Type 0
BeginsDelimiting t = (begins_with 124 t ≡ true) ⊎ ((begins_with 58 t ≡ true) ⊎ (begins_with 45 t ≡ true))

begins-none : {X : Type 0} → BeginsDelimiting [] → X
begins-none (inl h) = absurd (false≢true h)
begins-none (inr (inl h)) = absurd (false≢true h)
begins-none (inr (inr h)) = absurd (false≢true h)

-- what a front begins with, all begins with
front-begins : (a x : List ℕ) → BeginsDelimiting a → BeginsDelimiting (a ++ x)
front-begins [] x h = begins-none h
front-begins (b ∷ bs) x h = h

trimmed-begins : (t : List ℕ) → BeginsDelimiting (trimmed is_white t) → BeginsDelimiting t
trimmed-begins t h = subst BeginsDelimiting (sym (trim_front is_white t)) (front-begins (trimmed is_white t) (reverse (take (prefix_len is_white (reverse t)) (reverse t))) h)

-- ---- a cell that says an alignment
aligned-begins : (cell : List ℕ) → is_some (alignment_of cell) ≡ true → BeginsDelimiting cell
aligned-begins [] e = absurd (false≢true e)
aligned-begins (b ∷ bs) e = by (b == 58) (b == 45) refl refl
  where
    -- by whether a colon comes first, and how many hyphens behind that
    colon : Bool → Option Alignment
    colon x =
        let before : ℕ = cond x 1 0 in
        let filler : ℕ = run 45 (drop before (b ∷ bs)) in
        let behind : ℕ = one_if 58 (drop (before + filler) (b ∷ bs)) in
        cond (nat_le 1 filler && (before + filler + behind == length (b ∷ bs))) (Some (aligned (before == 1) (behind == 1))) None

    hyphens : ℕ → Option Alignment
    hyphens filler =
        let behind : ℕ = one_if 58 (drop (0 + filler) (b ∷ bs)) in
        cond (nat_le 1 filler && (0 + filler + behind == length (b ∷ bs))) (Some (aligned false (behind == 1))) None

    by : (x y : Bool) → (b == 58) ≡ x → (b == 45) ≡ y → BeginsDelimiting (b ∷ bs)
    by true y ex ey = inr (inl ex)
    by false true ex ey = inr (inr ey)
    by false false ex ey =
        let none : is_some (alignment_of (b ∷ bs)) ≡ false = ap (λ x. is_some (colon x)) ex ∙ ap (λ y. is_some (hyphens (cond y (1 + run 45 bs) 0))) ey in
        absurd (false≢true (sym none ∙ e))

-- ---- white space in front
first-plain : (t : List ℕ) (b : ℕ) (bs : List ℕ) → unindented t ≡ b ∷ bs → is_white b ≡ false
first-plain [] b bs e = absurd (cc)
first-plain (x ∷ xs) b bs e = by (first-plain xs b bs) (is_white x) refl e
  where
    by : (unindented xs ≡ b ∷ bs → is_white b ≡ false) → (w : Bool) → is_white x ≡ w → drop (cond w (1 + prefix_len is_white xs) 0) (x ∷ xs) ≡ b ∷ bs → is_white b ≡ false
    by behind true ew e = let one : suc (prefix_len is_white xs) ≡ 1 + prefix_len is_white xs = omega arith in behind (ap (λ n. drop n (x ∷ xs)) one ∙ e)
    by behind false ew e = ap (λ l. is_white (get_or l 0 0)) (sym e) ∙ ew

-- ---- the first cell
cells-begin : (b : ℕ) (cell : List ℕ) (more : List (List ℕ)) → is_white b ≡ false → is_some (some_alignments (trimmed is_white (unindented (b ∷ cell)) ∷ more)) ≡ true → BeginsDelimiting (b ∷ cell)
cells-begin b cell more plain e =
    let one : is_some (alignment_of (trimmed is_white (unindented (b ∷ cell)))) ≡ true = first (alignment_of (trimmed is_white (unindented (b ∷ cell)))) (alignments_of more) e in
    let here : unindented (b ∷ cell) ≡ b ∷ cell = ap (λ (w : Bool). drop (cond w (1 + prefix_len is_white cell) 0) (b ∷ cell)) plain in
    subst BeginsDelimiting here (trimmed-begins (unindented (b ∷ cell)) (aligned-begins (trimmed is_white (unindented (b ∷ cell))) one))
  where
    first : (o : Option Alignment) (r : Option (List Alignment)) → is_some (before_others o r) ≡ true → is_some o ≡ true
    first None r h = h
    first (Some a) r h = refl

row-begins : (b : ℕ) (bs : List ℕ) → (b == 124) ≡ false → is_white b ≡ false → is_some (some_alignments (contents (cut false (b ∷ bs)))) ≡ true → BeginsDelimiting (b ∷ bs)
row-begins b bs other plain e =
    by (cut (b == 92) bs) (sym (ap (λ (x : Bool). is_some (some_alignments (contents (cond (x && true) (next_cell [] (cut false bs)) (onto b (cut (b == 92) bs)))))) other) ∙ e)
  where
    by : (cs : Cells) → is_some (some_alignments (contents (onto b cs))) ≡ true → BeginsDelimiting (b ∷ bs)
    by no_cell h = cells-begin b [] [] plain h
    by (last_cell cell) h = cells-begin b cell [] plain h
    by (next_cell cell more) h = cells-begin b cell (contents more) plain h

-- A delimiter row begins with one of its marks
pub delimiters-begin : (header line : List ℕ) → is_some (matched header line) ≡ true → BeginsDelimiting (unindented line)
delimiters-begin header line e = by (unindented line) refl
  where
    many : (n : ℕ) (o : Option (List Alignment)) → is_some (if_as_many n o) ≡ true → is_some o ≡ true
    many n None h = h
    many n (Some all) h = refl

    are : is_some (delimiters line) ≡ true
    are = many _ (delimiters line) e

    -- what is inside a line whose first byte is no pipe
    Inside : List ℕ → Bool → Bool
    Inside u x = is_some (some_alignments (contents (cut false (trimmed is_white (drop (cond x 1 0) u)))))

    plain : (b : ℕ) (bs v x : List ℕ) → trimmed is_white (b ∷ bs) ≡ v → b ∷ bs ≡ v ++ x → (b == 124) ≡ false → is_white b ≡ false → is_some (some_alignments (contents (cut false v))) ≡ true → BeginsDelimiting (b ∷ bs)
    plain b bs [] x ev split other white h = absurd (false≢true h)
    plain b bs (c ∷ cs) x ev split other white h =
        let same : c ≡ b = ap (λ l. get_or l 0 0) (sym split) in
        subst BeginsDelimiting (sym split) (front-begins (c ∷ cs) x (row-begins c cs (ap (λ n. n == 124) same ∙ other) (ap is_white same ∙ white) h))

    by : (u : List ℕ) → unindented line ≡ u → BeginsDelimiting u
    by [] eu = absurd (false≢true (sym (ap (λ l. Inside l (begins_with 124 l)) eu) ∙ are))
    by (b ∷ bs) eu = first (b == 124) refl
      where
        first : (x : Bool) → (b == 124) ≡ x → BeginsDelimiting (b ∷ bs)
        first true ex = inl ex
        first false ex =
            let here : Inside (b ∷ bs) false ≡ true = sym (ap (λ l. Inside l (begins_with 124 l)) eu ∙ ap (Inside (b ∷ bs)) ex) ∙ are in
            plain b bs (trimmed is_white (b ∷ bs)) (reverse (take (prefix_len is_white (reverse (b ∷ bs))) (reverse (b ∷ bs)))) refl (trim_front is_white (b ∷ bs)) ex (first-plain line b bs eu) here
