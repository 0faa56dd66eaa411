-- Lemmas on the places of a text, and on the marks of what stands in them.
use Rattle.std.proofs.Common.{◌≡◌, ℕ, zero, suc, ◌+◌, ◌-◌, ◌<◌, ◌≤◌, Bool, true, false, cond, List, [], ◌∷◌, ◌++◌, Option, Some, None, drop, length, take, refl, sym, ap, ◌∙◌, arith, length-take, add-one, append_assoc, min}
use Rattle.std.specs.List.{flat_map, prefix_len}
use Rattle.std.proofs.lemmas.List.{append-nil, drop-drop, drop_all, take_all, take-take}
use Rattle.std.proofs.lemmas.List.Concat.{flat_map-append}
use Rattle.std.proofs.lemmas.List.Sums.{prefix_len-le-length}
use Rattle.std.proofs.Math.Seq.{take-nil, take-add}
use Rattle.markdown_base.specs.declared.event.Name.{Name}
use Rattle.markdown_base.specs.declared.event.Name.TheVariants as name
use Rattle.markdown_base.specs.Virtual.{Seat}
use Rattle.mdinline_labels.specs.declared.definitions.Definition.{Definition}
use Rattle.mdinline_labels.specs.declared.definitions.Stretch.{Stretch}
use Rattle.mdinline_labels.specs.Definitions.{end, end_of}
use Rattle.mdblock_leaf_blocks.specs.LeafBlocks.{bytes_of}
use Rattle.mdblock_leaf_blocks.specs.LeafEvents.{Mark, leaf_marks, white}
use Rattle.mdblock_leaf_blocks.specs.LineKinds.{indent}
use Rattle.mdblock_definitions.specs.Cursor.{FitsDefinition, FitsTitle, label_marks, title_marks}
use Rattle.mdblock_definitions.specs.Definitions.{Place, StringLine, all_seats, between, byte_at, destination_marks, ending_at, ending_marks, further_line, gap_marks, is_byte, leaf, line_marks, marked, parts_marks, places_of, seats_of, span, string, string_lines}

-- ---- fronts of lists

nothing-behind : {A : Type 0} (n : ℕ) → drop {A = A} n [] ≡ []
nothing-behind n = drop_all n [] (omega arith)

pub drop-front : {A : Type 0} (a b : ℕ) (xs : List A) → drop a (take b xs) ≡ take (b - a) (drop a xs)
drop-front zero b xs = let same : b ≡ b - 0 = omega arith in ap (λ n. take n xs) same
drop-front (suc a) b [] = ap (drop (suc a)) (take-nil b) ∙ sym (take-nil (b - suc a))
drop-front (suc a) zero (x ∷ xs) = let none : 0 ≡ 0 - suc a = omega arith in ap (λ n. take n (drop a xs)) none
drop-front (suc a) (suc b) (x ∷ xs) = let same : b - a ≡ suc b - suc a = omega arith in drop-front a b xs ∙ ap (λ n. take n (drop a xs)) same

-- ---- lines of places

pub front-bytes : (n : ℕ) (ps : List Place) → n ≤ prefix_len is_byte ps → prefix_len is_byte (take n ps) ≡ n
front-bytes zero ps w = refl
front-bytes (suc n) [] w = absurd (omega arith)
front-bytes (suc n) (byte_at s ∷ ps) w = ap (λ k. 1 + k) (front-bytes n ps (omega arith)) ∙ omega arith
front-bytes (suc n) (ending_at e p m ∷ ps) w = absurd (omega arith)

pub front-line : (n : ℕ) (ps : List Place) → prefix_len is_byte ps < n → prefix_len is_byte (take n ps) ≡ prefix_len is_byte ps
front-line zero ps w = absurd (omega arith)
front-line (suc n) [] w = refl
front-line (suc n) (byte_at s ∷ ps) w = ap (λ k. 1 + k) (front-line n ps (omega arith))
front-line (suc n) (ending_at e p m ∷ ps) w = refl

pub front-size : (n : ℕ) (ps : List Place) → n ≤ length ps → length (take n ps) ≡ n
front-size n ps w = let e : length (take n ps) ≡ min n (length ps) = length-take n ps in omega arith

pub line-within : (ps : List Place) → prefix_len is_byte ps ≤ length ps
line-within ps = prefix_len-le-length is_byte ps

pub seats-split : (m n : ℕ) (ps : List Place) → seats_of (take (m + n) ps) ≡ seats_of (take m ps) ++ seats_of (take n (drop m ps))
seats-split m n ps = ap seats_of (take-add m n ps) ∙ flat_map-append all_seats (take m ps) (take n (drop m ps))

-- the virtual bytes of places in a line, one by one
pub front-seats : (n k : ℕ) (ps : List Place) → n ≤ k → k ≤ prefix_len is_byte ps → take n (seats_of (take k ps)) ≡ seats_of (take n ps)
front-seats zero k ps w v = refl
front-seats (suc n) zero ps w v = absurd (omega arith)
front-seats (suc n) (suc k) [] w v = absurd (omega arith)
front-seats (suc n) (suc k) (byte_at s ∷ ps) w v = ap (λ l. s ∷ l) (front-seats n k ps (omega arith) (omega arith))
front-seats (suc n) (suc k) (ending_at e p m ∷ ps) w v = absurd (omega arith)

pub behind-seats : (n k : ℕ) (ps : List Place) → n ≤ k → k ≤ prefix_len is_byte ps → drop n (seats_of (take k ps)) ≡ seats_of (take (k - n) (drop n ps))
behind-seats zero k ps w v = ap (λ m. seats_of (take m ps)) (omega arith)
behind-seats (suc n) zero ps w v = absurd (omega arith)
behind-seats (suc n) (suc k) [] w v = absurd (omega arith)
behind-seats (suc n) (suc k) (byte_at s ∷ ps) w v = behind-seats n k ps (omega arith) (omega arith) ∙ ap (λ m. seats_of (take m (drop n ps))) (omega arith)
behind-seats (suc n) (suc k) (ending_at e p m ∷ ps) w v = absurd (omega arith)

-- places of one line are one line of a string
lines-are : (ps : List Place) → prefix_len is_byte ps ≡ length ps → 0 < length ps → string_lines ps ≡ record { seats = seats_of ps; behind = [] } ∷ []
lines-are [] e w = absurd (omega arith)
lines-are (ending_at f p m ∷ ps) e w = absurd (omega arith)
lines-are (byte_at s ∷ []) e w = refl
lines-are (byte_at s ∷ p ∷ ps) e w = ap (λ l. with-seat s l) (lines-are (p ∷ ps) (omega (arith, e)) (omega arith))
  where
    with-seat : Seat → List StringLine → List StringLine
    with-seat s l = elim l as (λ _. List StringLine) [ [] ↦ record { seats = s ∷ []; behind = [] } ∷ [] | line ∷ lines ↦ record line { seats = s ∷ line.seats } ∷ lines ]

-- a line of a string, and the lines behind it
pub lines-more : (k : ℕ) (ps : List Place) → prefix_len is_byte ps ≡ k → k < length ps → string_lines ps ≡ record { seats = seats_of (take k ps); behind = take 1 (drop k ps) } ∷ string_lines (drop (suc k) ps)
lines-more k [] e w = absurd (omega arith)
lines-more zero (ending_at f p m ∷ ps) e w = refl
lines-more (suc k) (ending_at f p m ∷ ps) e w = absurd (omega (arith, e))
lines-more zero (byte_at s ∷ ps) e w = absurd (omega (arith, e))
lines-more (suc k) (byte_at s ∷ ps) e w = ap (λ l. with-seat s l) (lines-more k ps (omega (arith, e)) (omega arith))
  where
    with-seat : Seat → List StringLine → List StringLine
    with-seat s l = elim l as (λ _. List StringLine) [ [] ↦ record { seats = s ∷ []; behind = [] } ∷ [] | line ∷ lines ↦ record line { seats = s ∷ line.seats } ∷ lines ]

module _ (bytes : List ℕ) where
  -- ---- white space

  -- in one line
  pub gap-line : (size : ℕ) (ps : List Place) → size ≤ prefix_len is_byte ps → gap_marks bytes (take size ps) ≡ leaf bytes name.SpaceOrTab (take size ps)
  gap-line size ps w =
      let xs = take size ps in
      let n : prefix_len is_byte xs ≡ size = front-bytes size ps w in
      let few : length xs ≡ size = front-size size ps (omega (arith, w, line-within ps)) in
      let all : take (prefix_len is_byte xs) xs ≡ xs = take_all (prefix_len is_byte xs) xs (omega (arith, n, few)) in
      let none : drop (prefix_len is_byte xs) xs ≡ [] = drop_all (prefix_len is_byte xs) xs (omega (arith, n, few)) in
      let nothing : drop (prefix_len is_byte xs + 1) xs ≡ [] = drop_all (prefix_len is_byte xs + 1) xs (omega (arith, n, few)) in
      (λ k. white bytes (seats_of (all k)) ++ (flat_map (ending_marks bytes) (take 1 (none k)) ++ white bytes (seats_of (nothing k)))) ∙ append-nil (leaf bytes name.SpaceOrTab xs)

  -- over a line ending
  pub gap-lines : (size k : ℕ) (ps : List Place) → k ≡ prefix_len is_byte ps → k < size
      → gap_marks bytes (take size ps) ≡ leaf bytes name.SpaceOrTab (take k ps) ++ (flat_map (ending_marks bytes) (take 1 (drop k ps)) ++ leaf bytes name.SpaceOrTab (take (size - (k + 1)) (drop (k + 1) ps)))
  gap-lines size k ps e w =
      let xs = take size ps in
      let n : prefix_len is_byte xs ≡ k = front-line size ps (omega (arith, e, w)) ∙ sym e in
      let first : take k xs ≡ take k ps = take-take k size ps (omega arith) in
      let second : take 1 (drop k xs) ≡ take 1 (drop k ps) = ap (take 1) (drop-front k size ps) ∙ take-take 1 (size - k) (drop k ps) (omega arith) in
      let third : drop (k + 1) xs ≡ take (size - (k + 1)) (drop (k + 1) ps) = drop-front (k + 1) size ps in
      (λ i. white bytes (seats_of (take (n i) xs)) ++ (flat_map (ending_marks bytes) (take 1 (drop (n i) xs)) ++ white bytes (seats_of (drop (n i + 1) xs))))
      ∙ (λ i. white bytes (seats_of (first i)) ++ (flat_map (ending_marks bytes) (second i) ++ white bytes (seats_of (third i))))

  -- ---- strings

  pub lines-one : (ps : List Place) → prefix_len is_byte ps ≡ length ps → (is_first : Bool) → line_marks bytes is_first (string_lines ps) ≡ cond is_first (leaf bytes name.Data ps) (further_line bytes (seats_of ps))
  lines-one [] e true = refl
  lines-one [] e false = refl
  lines-one (p ∷ ps) e b = by b ∙ append-nil _
    where
      one : string_lines (p ∷ ps) ≡ record { seats = seats_of (p ∷ ps); behind = [] } ∷ []
      one = lines-are (p ∷ ps) e (omega arith)

      by : (b : Bool) → line_marks bytes b (string_lines (p ∷ ps)) ≡ cond b (leaf bytes name.Data (p ∷ ps)) (further_line bytes (seats_of (p ∷ ps))) ++ []
      by true = ap (line_marks bytes true) one
      by false = ap (line_marks bytes false) one

  -- the first line of a part of a text, and the rest
  pub lines-split : (size k : ℕ) (ps : List Place) → k ≡ prefix_len is_byte ps → k < size → size ≤ length ps → (is_first : Bool)
      → line_marks bytes is_first (string_lines (take size ps))
      ≡ cond is_first (leaf bytes name.Data (take k ps)) (further_line bytes (seats_of (take k ps))) ++ (flat_map (ending_marks bytes) (take 1 (drop k ps)) ++ line_marks bytes false (string_lines (take (size - (k + 1)) (drop (k + 1) ps))))
  lines-split size k ps e w v b =
      let xs = take size ps in
      let n : prefix_len is_byte xs ≡ k = front-line size ps (omega (arith, e, w)) ∙ sym e in
      let few : length xs ≡ size = front-size size ps v in
      let first : take k xs ≡ take k ps = take-take k size ps (omega arith) in
      let second : take 1 (drop k xs) ≡ take 1 (drop k ps) = ap (take 1) (drop-front k size ps) ∙ take-take 1 (size - k) (drop k ps) (omega arith) in
      let third : drop (suc k) xs ≡ take (size - (k + 1)) (drop (k + 1) ps) = ap (λ m. drop m xs) (sym (add-one k)) ∙ drop-front (k + 1) size ps in
      ap (line_marks bytes b) (lines-more k xs n (omega (arith, few, w)))
      ∙ (λ i. cond b (leaf bytes name.Data (first i)) (further_line bytes (seats_of (first i))) ++ (flat_map (ending_marks bytes) (second i) ++ line_marks bytes false (string_lines (third i))))

  pub lines-whole : (size : ℕ) (ps : List Place) → size ≤ prefix_len is_byte ps → (is_first : Bool)
      → line_marks bytes is_first (string_lines (take size ps)) ≡ cond is_first (leaf bytes name.Data (take size ps)) (further_line bytes (seats_of (take size ps)))
  lines-whole size ps w b = lines-one (take size ps) (front-bytes size ps w ∙ sym (front-size size ps (omega (arith, w, line-within ps)))) b

  -- ---- marks

  pub marked-parts : (mark inside : Name) (size : ℕ) (ps : List Place) → 2 ≤ size → size ≤ length ps
      → marked bytes mark inside (take size ps) ≡ leaf bytes mark (take 1 ps) ++ (string bytes inside (take (size - 2) (drop 1 ps)) ++ leaf bytes mark (take 1 (drop (1 + (size - 2)) ps)))
  marked-parts mark inside size ps w v =
      let xs = take size ps in
      let few : length xs ≡ size = front-size size ps v in
      let first : between 0 1 xs ≡ take 1 ps = take-take 1 size ps (omega arith) in
      let second : between 1 (length xs - 1) xs ≡ take (size - 2) (drop 1 ps) =
      (λ i. take (few i - 1 - 1) (drop-front 1 size ps i)) ∙ ap (λ n. take n (take (size - 1) (drop 1 ps))) (omega arith) ∙ take-take (size - 2) (size - 1) (drop 1 ps) (omega arith) in
      let third : drop (length xs - 1) xs ≡ take 1 (drop (1 + (size - 2)) ps) =
      ap (λ n. drop (n - 1) xs) few ∙ drop-front (size - 1) size ps ∙ (λ i. take (one i) (drop (same i) ps)) in
      (λ i. leaf bytes mark (first i) ++ (string bytes inside (second i) ++ leaf bytes mark (third i)))
    where
      one : size - (size - 1) ≡ 1
      one = omega arith

      same : size - 1 ≡ 1 + (size - 2)
      same = omega arith

  -- ---- a further line of a string

  pub further-parts : (size n : ℕ) (ps : List Place) → size ≤ prefix_len is_byte ps → n ≤ size → n ≡ indent (bytes_of (seats_of (take size ps)))
      → further_line bytes (seats_of (take size ps)) ≡ leaf bytes name.SpaceOrTab (take n ps) ++ leaf bytes name.Data (take (size - n) (drop n ps))
  further-parts size n ps w v e =
      (λ i. white bytes (take (sym e i) (seats_of (take size ps))) ++ leaf_marks bytes name.Data (drop (sym e i) (seats_of (take size ps))))
      ∙ (λ i. white bytes (front-seats n size ps v w i) ++ leaf_marks bytes name.Data (behind-seats n size ps v w i))

  -- ---- parts of definitions

  between-front : (a b n : ℕ) (ps : List Place) → b ≤ n → between a b (take n ps) ≡ take (b - a) (drop a ps)
  between-front a b n ps w = ap (take (b - a)) (drop-front a n ps) ∙ take-take (b - a) (n - a) (drop a ps) (omega arith)

  stretch-front : (s : Stretch) (n : ℕ) (ps : List Place) → end s ≤ n → places_of s (take n ps) ≡ take s.size (drop s.from ps)
  stretch-front s n ps w = let size : end s - s.from ≡ s.size = omega arith in between-front s.from (end s) n ps w ∙ ap (λ k. take k (drop s.from ps)) size

  abbrev title_end : Option Stretch → ℕ → ℕ
  title_end None from = from
  title_end (Some t) from = end t

  title-parts : (title : Option Stretch) (from n : ℕ) (ps : List Place) → FitsTitle title from (drop from ps) → title_end title from ≤ n
      → (elim title as (λ _. List Mark) [ None ↦ [] | Some t ↦ gap_marks bytes (between from t.from (take n ps)) ++ span bytes name.DefinitionTitle (places_of t (take n ps)) (marked bytes name.DefinitionTitleMarker name.DefinitionTitleString (places_of t (take n ps))) ])
      ≡ title_marks bytes title from (drop from ps)
  title-parts None from n ps h w = refl
  title-parts (Some t) from n ps h w =
      let gap : between from t.from (take n ps) ≡ take (t.from - from) (drop from ps) = between-front from t.from n ps (omega (arith, w)) in
      let at : from + (t.from - from) ≡ t.from = omega (arith, h.0) in
      let title : places_of t (take n ps) ≡ take t.size (drop (t.from - from) (drop from ps)) = stretch-front t n ps w ∙ ap (take t.size) (sym (drop-drop (t.from - from) from ps ∙ ap (λ k. drop k ps) at)) in
      (λ i. gap_marks bytes (gap i) ++ span bytes name.DefinitionTitle (title i) (marked bytes name.DefinitionTitleMarker name.DefinitionTitleString (title i)))

  pub definition-parts : (d : Definition) (ps : List Place) → FitsDefinition d ps
      → parts_marks bytes d (take d.size ps)
      ≡ label_marks bytes d.label ps
      ++ (gap_marks bytes (take (d.destination.from - (end d.label + 1)) (drop (end d.label + 1) ps))
      ++ (destination_marks bytes (take d.destination.size (drop d.destination.from ps))
      ++ (title_marks bytes d.title (end d.destination) (drop (end d.destination) ps) ++ gap_marks bytes (take (d.size - end_of d.title d.destination) (drop (end_of d.title d.destination) ps)))))
  definition-parts d ps h =
      let n = d.size in
      let ends : end d.destination ≤ n = destination-ends d.title h.title h.ends in
      let colon : end d.label + 1 ≤ n = omega (arith, ends, h.behind) in
      let zero-less : d.label.from - 0 ≡ d.label.from = omega arith in
      let gap : between 0 d.label.from (take n ps) ≡ take d.label.from ps = between-front 0 d.label.from n ps (omega (arith, colon)) ∙ ap (λ k. take k ps) zero-less in
      let one-more : end d.label + 1 - end d.label ≡ 1 = omega arith in
      let label = stretch-front d.label n ps (omega (arith, colon)) in
      let mark : between (end d.label) (end d.label + 1) (take n ps) ≡ take 1 (drop (end d.label) ps) = between-front (end d.label) (end d.label + 1) n ps colon ∙ ap (λ k. take k (drop (end d.label) ps)) one-more in
      let white = between-front (end d.label + 1) d.destination.from n ps (omega (arith, ends)) in
      let destination = stretch-front d.destination n ps ends in
      let title = title-parts d.title (end d.destination) n ps h.title (title-ends d.title h.ends) in
      let last = between-front (end_of d.title d.destination) n n ps (omega arith) in
      (λ i. gap_marks bytes (gap i)
      ++ (span bytes name.DefinitionLabel (label i) (marked bytes name.DefinitionLabelMarker name.DefinitionLabelString (label i))
      ++ (leaf bytes name.DefinitionMarker (mark i) ++ (gap_marks bytes (white i) ++ (destination_marks bytes (destination i) ++ (title i ++ gap_marks bytes (last i)))))))
      ∙ regroup (gap_marks bytes (take d.label.from ps))
      (span bytes name.DefinitionLabel (take d.label.size (drop d.label.from ps)) (marked bytes name.DefinitionLabelMarker name.DefinitionLabelString (take d.label.size (drop d.label.from ps))))
      (leaf bytes name.DefinitionMarker (take 1 (drop (end d.label) ps)))
      (gap_marks bytes (take (d.destination.from - (end d.label + 1)) (drop (end d.label + 1) ps))
      ++ (destination_marks bytes (take d.destination.size (drop d.destination.from ps))
      ++ (title_marks bytes d.title (end d.destination) (drop (end d.destination) ps) ++ gap_marks bytes (take (d.size - end_of d.title d.destination) (drop (end_of d.title d.destination) ps)))))
    where
      destination-ends : (title : Option Stretch) → FitsTitle title (end d.destination) (drop (end d.destination) ps) → end_of title d.destination ≤ d.size → end d.destination ≤ d.size
      destination-ends None f w = w
      destination-ends (Some t) f w = omega (arith, f.0, w)

      title-ends : (title : Option Stretch) → end_of title d.destination ≤ d.size → title_end title (end d.destination) ≤ d.size
      title-ends None w = w
      title-ends (Some t) w = w

      regroup : (a b c e : List Mark) → a ++ (b ++ (c ++ e)) ≡ (a ++ (b ++ c)) ++ e
      regroup a b c e = sym (append_assoc a (b ++ c) e ∙ ap (λ l. a ++ l) (append_assoc b c e))
