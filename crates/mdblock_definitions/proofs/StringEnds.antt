-- Where a string ends whose last line is empty: its places, and the prefixes behind it.
use Rattle.std.proofs.Common.{◌≡◌, ℕ, zero, suc, ◌≤◌, Bool, true, false, cond, List, [], ◌∷◌, ◌++◌, drop, length, refl, sym, ap, ◌∙◌, arith, append_assoc}
use Rattle.std.specs.List.{AllByRecursion, flat_map, prefix_len}
use Rattle.std.proofs.lemmas.List.{append-nil}
use Rattle.markdown_base.specs.declared.event.Name.{Name}
use Rattle.markdown_base.specs.declared.event.Name.TheVariants as name
use Rattle.markdown_base.specs.Virtual.{Seat}
use Rattle.mdblock_leaf_blocks.specs.LeafEvents.{Mark, leaf_marks}
use Rattle.mdblock_definitions.specs.Definitions.{Place, StringLine, before_prefixes, byte_at, ending_at, ending_marks, further_line, is_byte, last_prefixes, line_marks, seats_of, span, string, string_lines, text_of}

-- both are the virtual bytes of the string's places
pub seats-both : (ps : List Place) → seats_of (before_prefixes ps) ++ seats_of (last_prefixes ps) ≡ seats_of ps
seats-both [] = refl
seats-both (byte_at s ∷ ps) = ap (λ l. s ∷ l) (seats-both ps)
seats-both (ending_at e p m ∷ []) = (λ i. append-nil (append-nil e i) i ++ append-nil p i) ∙ sym (append-nil (e ++ p))
seats-both (ending_at e p m ∷ next ∷ ps) = append_assoc (e ++ p) (seats_of (before_prefixes (next ∷ ps))) (seats_of (last_prefixes (next ∷ ps))) ∙ ap (λ l. (e ++ p) ++ l) (seats-both (next ∷ ps))

-- its text is that of its places
pub text-before : (ps : List Place) → text_of (before_prefixes ps) ≡ text_of ps
text-before [] = refl
text-before (byte_at s ∷ ps) = ap (λ l. s.byte ∷ l) (text-before ps)
text-before (ending_at e p m ∷ []) = refl
text-before (ending_at e p m ∷ next ∷ ps) = ap (λ l. 10 ∷ l) (text-before (next ∷ ps))

-- each place but the last one stays
module _ (P : Place → Type 0) (feeds : (ending prefixes : List Seat) (marks : List Mark) → P (ending_at ending prefixes marks) → P (ending_at ending [] [])) where
  pub every-before : (ps : List Place) → AllByRecursion P ps → AllByRecursion P (before_prefixes ps)
  every-before [] h = tt
  every-before (byte_at s ∷ ps) h = (h.0, every-before ps h.1)
  every-before (ending_at e p m ∷ []) h = (feeds e p m h.0, tt)
  every-before (ending_at e p m ∷ next ∷ ps) h = (h.0, every-before (next ∷ ps) h.1)

module _ (P : Place → Type 0) (ends : (ending prefixes : List Seat) (marks : List Mark) → P (ending_at ending prefixes marks) → P (ending_at [] prefixes marks)) where
  pub every-last : (ps : List Place) → AllByRecursion P ps → AllByRecursion P (last_prefixes ps)
  every-last [] h = tt
  every-last (byte_at s ∷ ps) h = every-last ps h.1
  every-last (ending_at e p m ∷ []) h = (ends e p m h.0, tt)
  every-last (ending_at e p m ∷ next ∷ ps) h = every-last (next ∷ ps) h.1

-- no byte is behind it
pub last-endings : (ps : List Place) → AllByRecursion (λ (x : Place). is_byte x ≡ false) (last_prefixes ps)
last-endings [] = tt
last-endings (byte_at s ∷ ps) = last-endings ps
last-endings (ending_at e p m ∷ []) = (refl, tt)
last-endings (ending_at e p m ∷ next ∷ ps) = last-endings (next ∷ ps)

-- a string that ends with a byte is all its places
pub whole-before : (n : ℕ) (ps : List Place) → length ps ≡ suc n → 1 ≤ prefix_len is_byte (drop n ps) → before_prefixes ps ≡ ps
whole-before n [] e w = absurd (omega arith)
whole-before zero (byte_at s ∷ []) e w = refl
whole-before zero (ending_at f p m ∷ []) e w = absurd (omega arith)
whole-before zero (p ∷ q ∷ ps) e w = absurd (omega (arith, e))
whole-before (suc n) (byte_at s ∷ ps) e w = ap (λ l. byte_at s ∷ l) (whole-before n ps (omega (arith, e)) w)
whole-before (suc n) (ending_at f p m ∷ []) e w = absurd (omega (arith, e))
whole-before (suc n) (ending_at f p m ∷ next ∷ ps) e w = ap (λ l. ending_at f p m ∷ l) (whole-before n (next ∷ ps) (omega (arith, e)) w)

pub nothing-last : (n : ℕ) (ps : List Place) → length ps ≡ suc n → 1 ≤ prefix_len is_byte (drop n ps) → last_prefixes ps ≡ []
nothing-last n [] e w = absurd (omega arith)
nothing-last zero (byte_at s ∷ []) e w = refl
nothing-last zero (ending_at f p m ∷ []) e w = absurd (omega arith)
nothing-last zero (p ∷ q ∷ ps) e w = absurd (omega (arith, e))
nothing-last (suc n) (byte_at s ∷ ps) e w = nothing-last n ps (omega (arith, e)) w
nothing-last (suc n) (ending_at f p m ∷ []) e w = absurd (omega (arith, e))
nothing-last (suc n) (ending_at f p m ∷ next ∷ ps) e w = nothing-last n (next ∷ ps) (omega (arith, e)) w

-- one that ends with a line ending
pub feed-before : (qs : List Place) (e p : List Seat) (m : List Mark) → before_prefixes (qs ++ ending_at e p m ∷ []) ≡ qs ++ ending_at e [] [] ∷ []
feed-before [] e p m = refl
feed-before (byte_at s ∷ qs) e p m = ap (λ l. byte_at s ∷ l) (feed-before qs e p m)
feed-before (ending_at f r k ∷ []) e p m = refl
feed-before (ending_at f r k ∷ next ∷ qs) e p m = ap (λ l. ending_at f r k ∷ l) (feed-before (next ∷ qs) e p m)

pub feed-last : (qs : List Place) (e p : List Seat) (m : List Mark) → last_prefixes (qs ++ ending_at e p m ∷ []) ≡ ending_at [] p m ∷ []
feed-last [] e p m = refl
feed-last (byte_at s ∷ qs) e p m = feed-last qs e p m
feed-last (ending_at f r k ∷ []) e p m = refl
feed-last (ending_at f r k ∷ next ∷ qs) e p m = feed-last (next ∷ qs) e p m

-- ---- lines of a string, with a line ending behind them

-- the last line, with its line ending
abbrev closed : Place → StringLine → List StringLine
closed x l = elim l.behind as (λ _. List StringLine) [ [] ↦ record { seats = l.seats; behind = x ∷ [] } ∷ [] | y ∷ ys ↦ record { seats = l.seats; behind = y ∷ ys } ∷ record { seats = []; behind = x ∷ [] } ∷ [] ]

abbrev closed_all : Place → List StringLine → List StringLine
closed_all x [] = record { seats = []; behind = x ∷ [] } ∷ []
closed_all x (l ∷ []) = closed x l
closed_all x (l ∷ next ∷ ls) = l ∷ closed_all x (next ∷ ls)

abbrev with_seat : Seat → List StringLine → List StringLine
with_seat s l = elim l as (λ _. List StringLine) [ [] ↦ record { seats = s ∷ []; behind = [] } ∷ [] | line ∷ lines ↦ record line { seats = s ∷ line.seats } ∷ lines ]

seat-closed : (s : Seat) (x : Place) (ls : List StringLine) → with_seat s (closed_all x ls) ≡ closed_all x (with_seat s ls)
seat-closed s x [] = refl
seat-closed s x (l ∷ []) = by l.behind
  where
    by : (b : List Place)
        → with_seat s (elim b as (λ _. List StringLine) [ [] ↦ record { seats = l.seats; behind = x ∷ [] } ∷ [] | y ∷ ys ↦ record { seats = l.seats; behind = y ∷ ys } ∷ record { seats = []; behind = x ∷ [] } ∷ [] ])
        ≡ elim b as (λ _. List StringLine) [ [] ↦ record { seats = s ∷ l.seats; behind = x ∷ [] } ∷ [] | y ∷ ys ↦ record { seats = s ∷ l.seats; behind = y ∷ ys } ∷ record { seats = []; behind = x ∷ [] } ∷ [] ]
    by [] = refl
    by (y ∷ ys) = refl
seat-closed s x (l ∷ next ∷ ls) = refl

pub lines-closed : (qs : List Place) (e p : List Seat) (m : List Mark) → string_lines (qs ++ ending_at e p m ∷ []) ≡ closed_all (ending_at e p m) (string_lines qs)
lines-closed [] e p m = refl
lines-closed (byte_at s ∷ qs) e p m = ap (with_seat s) (lines-closed qs e p m) ∙ seat-closed s (ending_at e p m) (string_lines qs)
lines-closed (ending_at f r k ∷ qs) e p m = ap (λ (l : List StringLine). first ∷ l) (lines-closed qs e p m) ∙ by (string_lines qs)
  where
    first : StringLine
    first = record { seats = []; behind = ending_at f r k ∷ [] }

    by : (ls : List StringLine) → first ∷ closed_all (ending_at e p m) ls ≡ closed_all (ending_at e p m) (first ∷ ls)
    by [] = refl
    by (l ∷ ls) = refl

module _ (bytes : List ℕ) where
  abbrev here : Bool → List Seat → List Mark
  here is_first seats = cond is_first (leaf_marks bytes name.Data seats) (further_line bytes seats)

  abbrev endings : List Place → List Mark
  endings ps = flat_map (ending_marks bytes) ps

  -- an empty line has no marks but its line ending
  empty-closed : (b : Bool) (x : Place) → line_marks bytes b (record { seats = []; behind = x ∷ [] } ∷ []) ≡ ending_marks bytes x
  empty-closed true x = append-nil (endings (x ∷ [])) ∙ append-nil (ending_marks bytes x)
  empty-closed false x = append-nil (endings (x ∷ [])) ∙ append-nil (ending_marks bytes x)

  pub marks-closed : (b : Bool) (x : Place) (ls : List StringLine) → line_marks bytes b (closed_all x ls) ≡ line_marks bytes b ls ++ ending_marks bytes x
  marks-closed b x [] = empty-closed b x
  marks-closed b x (l ∷ []) = by l.behind
    where
      by : (behind : List Place)
          → line_marks bytes b (elim behind as (λ _. List StringLine) [ [] ↦ record { seats = l.seats; behind = x ∷ [] } ∷ [] | y ∷ ys ↦ record { seats = l.seats; behind = y ∷ ys } ∷ record { seats = []; behind = x ∷ [] } ∷ [] ])
          ≡ (here b l.seats ++ (endings behind ++ [])) ++ ending_marks bytes x
      by [] = ap (λ k. here b l.seats ++ k) (append-nil (endings (x ∷ [])) ∙ append-nil (ending_marks bytes x)) ∙ ap (λ k. k ++ ending_marks bytes x) (sym (append-nil (here b l.seats)))
      by (y ∷ ys) =
          ap (λ k. here b l.seats ++ (endings (y ∷ ys) ++ k)) (empty-closed false x)
          ∙ sym (append_assoc (here b l.seats) (endings (y ∷ ys)) (ending_marks bytes x))
          ∙ ap (λ k. (here b l.seats ++ k) ++ ending_marks bytes x) (sym (append-nil (endings (y ∷ ys))))
  marks-closed b x (l ∷ next ∷ ls) =
      let rest = line_marks bytes false (next ∷ ls) in
      ap (λ k. here b l.seats ++ (endings l.behind ++ k)) (marks-closed false x (next ∷ ls))
      ∙ ap (λ k. here b l.seats ++ k) (sym (append_assoc (endings l.behind) rest (ending_marks bytes x)))
      ∙ sym (append_assoc (here b l.seats) (endings l.behind ++ rest) (ending_marks bytes x))

  pub lines-feed : (b : Bool) (qs : List Place) (e p : List Seat) (m : List Mark) → line_marks bytes b (string_lines (qs ++ ending_at e p m ∷ [])) ≡ line_marks bytes b (string_lines qs) ++ ending_marks bytes (ending_at e p m)
  lines-feed b qs e p m = ap (line_marks bytes b) (lines-closed qs e p m) ∙ marks-closed b (ending_at e p m) (string_lines qs)

  -- the marks of line endings, with those of the last prefixes
  pub endings-both : (ps : List Place) → endings (before_prefixes ps) ++ endings (last_prefixes ps) ≡ endings ps
  endings-both [] = refl
  endings-both (byte_at s ∷ ps) = endings-both ps
  endings-both (ending_at e p m ∷ []) = (λ i. append-nil (append-nil (leaf_marks bytes name.LineEnding e) i) i ++ append-nil m i) ∙ sym (append-nil (leaf_marks bytes name.LineEnding e ++ m))
  endings-both (ending_at e p m ∷ next ∷ ps) =
      append_assoc (ending_marks bytes (ending_at e p m)) (endings (before_prefixes (next ∷ ps))) (endings (last_prefixes (next ∷ ps))) ∙ ap (λ l. ending_marks bytes (ending_at e p m) ++ l) (endings-both (next ∷ ps))

  -- ---- strings

  pub string-whole : (n : Name) (k : ℕ) (ps : List Place) → length ps ≡ suc k → 1 ≤ prefix_len is_byte (drop k ps) → span bytes n ps (line_marks bytes true (string_lines ps)) ≡ string bytes n ps
  string-whole n k ps e w =
      sym (append-nil (span bytes n ps (line_marks bytes true (string_lines ps))))
      ∙ (λ i. span bytes n (sym (whole-before k ps e w) i) (line_marks bytes true (string_lines (sym (whole-before k ps e w) i))) ++ endings (sym (nothing-last k ps e w) i))

  pub string-feed : (n : Name) (qs : List Place) (e p : List Seat) (m : List Mark)
      → span bytes n (qs ++ ending_at e [] [] ∷ []) (line_marks bytes true (string_lines qs) ++ endings (ending_at e [] [] ∷ [])) ++ endings (ending_at [] p m ∷ []) ≡ string bytes n (qs ++ ending_at e p m ∷ [])
  string-feed n qs e p m =
      let inside = ap (λ l. line_marks bytes true (string_lines qs) ++ l) (append-nil (ending_marks bytes (ending_at e [] []))) ∙ sym (lines-feed true qs e [] []) in
      ap (λ l. span bytes n (qs ++ ending_at e [] [] ∷ []) l ++ endings (ending_at [] p m ∷ [])) inside
      ∙ (λ i. span bytes n (sym (feed-before qs e p m) i) (line_marks bytes true (string_lines (sym (feed-before qs e p m) i))) ++ endings (sym (feed-last qs e p m) i))
