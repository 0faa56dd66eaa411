-- What the numbers of lines tell, and the indices of letters, of each line of a document.
use Rattle.std.proofs.Common.{◌≡◌, ℕ, suc, ◌<◌, ◌≤◌, Bool, true, false, cond, List, [], ◌∷◌, ◌++◌, ap, append_assoc, arith, drop, eq-eqb, map, ne_eqb, refl, subst, sym, take, ◌∙◌}
use Rattle.std.specs.Prelude.{◌==◌, ◌&&◌, ◌||◌, ◌+◌, is_some}
use Rattle.std.specs.List.{AllByRecursion, flat_map, list_any}
use Rattle.std.proofs.Math.Bool.{or-false}
use Rattle.std.proofs.lemmas.Grind.{flat_map-append}
use Rattle.std.proofs.lemmas.List.{map-append}
use Rattle.std.proofs.lemmas.List.Folds.{list_any-append}
use Rattle.markdown_base.proofs.Common.{every-append, every-drop, every-map, every-take}
use Rattle.markdown_base.specs.declared.configuration.Constructs.{Constructs}
use Rattle.markdown_base.specs.Virtual.{Seat, virtual}
use Rattle.mdconstructs_machines.specs.LineEvents.{lines_in}
use Rattle.mdblock_leaf_blocks.specs.LineKinds.{indent, underline_rank}
use Rattle.mdblock_containers.specs.Rows.{Row, nothing_known, rest_of}
use Rattle.mdblock_definitions.proofs.Covered.{rows_of, sections-hold-lines}
use Rattle.mdblock_definitions.specs.Rows.{rows}
use Rattle.mdblock_definitions.specs.Sections.{Inside, Section, defined, lines, sections, table}
use Rattle.mdblock_definitions.specs.Skeleton.{all_rows, letters, sections_in_seats, text_begin}
use Rattle.mdblock_text_lines.specs.DocumentBlocks.{texts_of_section}
use Rattle.mdblock_text_lines.proofs.LaidLines.{AreApart, AreRowsLaid, IsLaid, rows-laid, virtual-laid}

-- ---- lines, and whether they are text whatever they look like
abbrev pub Flagged : Type 0
Flagged = Row × Bool

module _ (on : Constructs) where
  abbrev pub is_lazy_underline : Row → Bool
  is_lazy_underline row = row.is_lazy && is_some (underline_rank on (rest_of row))

  abbrev pub flagged : Section → List Flagged
  flagged s = elim s.inside [
    | lines is_behind ↦ (s.part.first, is_behind || is_lazy_underline s.part.first) ∷ map (λ (r : Row). (r, is_lazy_underline r)) s.part.more
    | defined ds ↦ map (λ (r : Row). (r, false)) (all_rows s.part)
    | table ↦ map (λ (r : Row). (r, false)) (all_rows s.part)
  ]

  rows-flagged : (s : Section) → map (λ (z : Flagged). z.0) (flagged s) ≡ all_rows s.part
  rows-flagged s = by s.inside
    where
      same : (f : Row → Bool) (rs : List Row) → map (λ (z : Flagged). z.0) (map (λ (r : Row). (r, f r)) rs) ≡ rs
      same f [] = refl
      same f (r ∷ rs) = ap (λ xs. r ∷ xs) (same f rs)

      by : (i : Inside) → map (λ (z : Flagged). z.0) (elim i as (λ _. List Flagged) [
        | lines is_behind ↦ (s.part.first, is_behind || is_lazy_underline s.part.first) ∷ map (λ (r : Row). (r, is_lazy_underline r)) s.part.more
        | defined ds ↦ map (λ (r : Row). (r, false)) (all_rows s.part)
        | table ↦ map (λ (r : Row). (r, false)) (all_rows s.part)
      ]) ≡ all_rows s.part
      by (lines b) = ap (λ xs. s.part.first ∷ xs) (same is_lazy_underline s.part.more)
      by (defined ds) = same (λ r. false) (all_rows s.part)
      by table = same (λ r. false) (all_rows s.part)

  pub all-rows-flagged : (ss : List Section) → map (λ (z : Flagged). z.0) (flat_map flagged ss) ≡ rows_of ss
  all-rows-flagged [] = refl
  all-rows-flagged (s ∷ ss) = map-append (λ (z : Flagged). z.0) (flagged s) (flat_map flagged ss) ∙ (λ i. rows-flagged s i ++ all-rows-flagged ss i)

  -- what is written of each line that is text
  module _ (write : Row → List ℕ) where
    abbrev pub picked : List Flagged → List ℕ
    picked zs = flat_map (λ (z : Flagged). cond z.1 (write z.0) []) zs

    abbrev write_lazy : Row → List ℕ
    write_lazy r = cond (is_lazy_underline r) (write r) []

    abbrev written : Section → List ℕ
    written s = elim s.inside [ lines is_behind ↦ cond is_behind (write s.part.first) (write_lazy s.part.first) ++ flat_map write_lazy s.part.more | defined ds ↦ [] | table ↦ [] ]

    section-picked : (s : Section) → written s ≡ picked (flagged s)
    section-picked s = by s.inside
      where
        lazy : (rs : List Row) → flat_map write_lazy rs ≡ picked (map (λ (r : Row). (r, is_lazy_underline r)) rs)
        lazy [] = refl
        lazy (r ∷ rs) = ap (λ xs. write_lazy r ++ xs) (lazy rs)

        none : (rs : List Row) → [] ≡ picked (map (λ (r : Row). (r, false)) rs)
        none [] = refl
        none (r ∷ rs) = none rs

        first : (b : Bool) → cond b (write s.part.first) (write_lazy s.part.first) ≡ cond (b || is_lazy_underline s.part.first) (write s.part.first) []
        first true = refl
        first false = refl

        by : (i : Inside) → (elim i as (λ _. List ℕ) [ lines is_behind ↦ cond is_behind (write s.part.first) (write_lazy s.part.first) ++ flat_map write_lazy s.part.more | defined ds ↦ [] | table ↦ [] ])
            ≡ picked (elim i as (λ _. List Flagged) [
              | lines is_behind ↦ (s.part.first, is_behind || is_lazy_underline s.part.first) ∷ map (λ (r : Row). (r, is_lazy_underline r)) s.part.more
              | defined ds ↦ map (λ (r : Row). (r, false)) (all_rows s.part)
              | table ↦ map (λ (r : Row). (r, false)) (all_rows s.part)
            ])
        by (lines b) = λ i. first b i ++ lazy s.part.more i
        by (defined ds) = none (all_rows s.part)
        by table = none (all_rows s.part)

    pub all-picked : (ss : List Section) → flat_map written ss ≡ picked (flat_map flagged ss)
    all-picked [] = refl
    all-picked (s ∷ ss) = (λ i. section-picked s i ++ all-picked ss i) ∙ sym (flat_map-append (λ (z : Flagged). cond z.1 (write z.0) []) (flagged s) (flat_map flagged ss))

-- ---- what is written of one line is not of another
none-other : (v : ℕ) (xs : List ℕ) → AllByRecursion (λ m. m ≡ v → ⊥) xs → list_any (λ m. m == v) xs ≡ false
none-other v [] h = refl
none-other v (m ∷ xs) h = λ i. ne_eqb m v h.0 i || none-other v xs h.1 i

abbrev In : (low high v : ℕ) → Type 0
In low high v = (low ≤ v) × (v < high)

module _ (write asks : Row → List ℕ) where
  abbrev here : Flagged → List ℕ
  here z = cond z.1 (write z.0) []

  abbrev all : List Flagged → List ℕ
  all zs = flat_map here zs

  -- of each line numbers of a stretch of its own
  abbrev AreSpread : (low : ℕ) → List Flagged → Type 0
  AreSpread low [] = Unit {0}
  AreSpread low (z ∷ zs) = (high : ℕ) × (low ≤ high) × AllByRecursion (In low high) (write z.0) × AllByRecursion (In low high) (asks z.0) × AreSpread high zs

  here-in : (low high : ℕ) (z : Flagged) → AllByRecursion (In low high) (write z.0) → AllByRecursion (In low high) (here z)
  here-in low high z h = by z.1
    where
      by : (b : Bool) → AllByRecursion (In low high) (cond b (write z.0) [])
      by true = h
      by false = tt

  all-from : (low : ℕ) (zs : List Flagged) → AreSpread low zs → AllByRecursion (λ v. low ≤ v) (all zs)
  all-from low [] h = tt
  all-from low (z ∷ zs) (high, less, w, a, rest) =
      every-append (λ v. low ≤ v) (here z) (all zs) (every-map (In low high) (λ v. low ≤ v) (λ v k. k.0) (here z) (here-in low high z w))
      (every-map (λ v. high ≤ v) (λ v. low ≤ v) (λ v k. omega (arith, less, k)) (all zs) (all-from high zs rest))

  abbrev Tells : List ℕ → Flagged → Type 0
  Tells written z = AllByRecursion (λ v. list_any (λ m. m == v) written ≡ (z.1 && list_any (λ m. m == v) (write z.0))) (asks z.0)

  pub tells : (done : List ℕ) (low : ℕ) (zs : List Flagged) → AllByRecursion (λ v. v < low) done → AreSpread low zs → AllByRecursion (Tells (done ++ all zs)) zs
  tells done low [] before h = tt
  tells done low (z ∷ zs) before (high, less, w, a, rest) = (
    every-map (In low high) (λ v. list_any (λ m. m == v) (done ++ (here z ++ all zs)) ≡ (z.1 && list_any (λ m. m == v) (write z.0))) (λ v k. one v k) (asks z.0) a,
    subst (λ l. AllByRecursion (Tells l) zs) (append_assoc done (here z) (all zs))
        (tells (done ++ here z) high zs
        (every-append (λ v. v < high) done (here z) (every-map (λ v. v < low) (λ v. v < high) (λ v k. omega (arith, k, less)) done before) (every-map (In low high) (λ v. v < high) (λ v k. k.1) (here z) (here-in low high z w))) rest),
  )
    where
      one : (v : ℕ) → In low high v → list_any (λ m. m == v) (done ++ (here z ++ all zs)) ≡ (z.1 && list_any (λ m. m == v) (write z.0))
      one v k =
          let f : ℕ → Bool = λ m. m == v in
          let front = none-other v done (every-map (λ m. m < low) (λ m. m ≡ v → ⊥) (λ m b e. let from = k.0 in omega (arith, b, e, from)) done before) in
          let back = none-other v (all zs) (every-map (λ m. high ≤ m) (λ m. m ≡ v → ⊥) (λ m b e. let to = k.1 in omega (arith, b, e, to)) (all zs) (all-from high zs rest)) in
          list_any-append f done (here z ++ all zs) ∙ (λ i. front i || list_any-append f (here z) (all zs) i) ∙ (λ i. list_any f (here z) || back i) ∙ by z.1
        where
          by : (b : Bool) → (list_any (λ m. m == v) (cond b (write z.0) []) || false) ≡ (b && list_any (λ m. m == v) (write z.0))
          by true = or-false (list_any (λ m. m == v) (write z.0))
          by false = refl

-- ---- the lines of a document
module _ (numbers letters : List ℕ) where
  -- What they tell of a line
  pub record IsTold (z : Flagged) : Type 0 where
    pub number : list_any (λ n. n == z.0.number) numbers ≡ z.1
    pub seats : AllByRecursion (λ (x : Seat). list_any (λ i. i == x.point.index) letters ≡ (z.1 && list_any (λ i. i == x.point.index) (text_begin z.0))) z.0.line
    pub in_line : AllByRecursion (λ (x : Seat). x.point.line ≡ z.0.number) z.0.line
    pub apart : AreApart z.0.line

abbrev own_number : Row → List ℕ
own_number r = r.number ∷ []

abbrev own_indices : Row → List ℕ
own_indices r = map (λ (s : Seat). s.point.index) r.line

index-in : (number low high : ℕ) (ss : List Seat) → AllByRecursion (IsLaid number low high) ss → AllByRecursion (In low high) (map (λ (s : Seat). s.point.index) ss)
index-in number low high [] h = tt
index-in number low high (s ∷ ss) h = ((h.0.1, h.0.2), index-in number low high ss h.1)

numbers-spread : (number low : ℕ) (zs : List Flagged) → AreRowsLaid number low (map (λ (z : Flagged). z.0) zs) → AreSpread own_number own_number number zs
numbers-spread number low [] h = tt
numbers-spread number low (z ∷ zs) (is, high, some, all, apart, rest) =
    let own : In number (suc number) z.0.number = (omega (arith, is), omega (arith, is)) in
    (suc number, omega arith, (own, tt), (own, tt), numbers-spread (suc number) high zs rest)

indices-spread : (number low : ℕ) (zs : List Flagged) → AreRowsLaid number low (map (λ (z : Flagged). z.0) zs) → AreSpread text_begin own_indices low zs
indices-spread number low [] h = tt
indices-spread number low (z ∷ zs) (is, high, some, all, apart, rest) =
    let r = z.0 in
    let n = r.columns + indent (rest_of r) in (
      high,
      omega (arith, some),
      index-in number low high (take 1 (drop n r.line)) (every-take (IsLaid number low high) 1 (drop n r.line) (every-drop (IsLaid number low high) n r.line all)),
      index-in number low high r.line all,
      indices-spread (suc number) high zs rest,
    )

unmapped : (P : ℕ → Type 0) (ss : List Seat) → AllByRecursion P (map (λ (s : Seat). s.point.index) ss) → AllByRecursion (λ (s : Seat). P s.point.index) ss
unmapped P [] h = tt
unmapped P (s ∷ ss) h = (h.0, unmapped P ss h.1)

all-told : (numbers letters : List ℕ) (number low : ℕ) (zs : List Flagged) → AreRowsLaid number low (map (λ (z : Flagged). z.0) zs)
    → AllByRecursion (Tells own_number own_number numbers) zs → AllByRecursion (Tells text_begin own_indices letters) zs → AllByRecursion (IsTold numbers letters) zs
all-told numbers letters number low [] laid ns ls = tt
all-told numbers letters number low (z ∷ zs) (is, high, some, all, apart, rest) ns ls = (
  record {
    number = ns.0.0 ∙ own z.1;
    seats = unmapped (λ v. list_any (λ i. i == v) letters ≡ (z.1 && list_any (λ i. i == v) (text_begin z.0))) z.0.line ls.0;
    in_line = every-map (IsLaid number low high) (λ (x : Seat). x.point.line ≡ z.0.number) (λ x h. h.0 ∙ sym is) z.0.line all;
    apart = apart;
  },
  all-told numbers letters (suc number) high zs rest ns.1 ls.1,
)
  where
    own : (b : Bool) → (b && ((z.0.number == z.0.number) || false)) ≡ b
    own true = ap (λ x. x || false) (eq-eqb z.0.number z.0.number refl)
    own false = refl

-- The numbers of a document's lines that are text, by the sections that its code reads
abbrev pub numbers_of : Constructs → List Seat → List ℕ
numbers_of on seats = flat_map (texts_of_section on) (sections_in_seats on seats)

-- These numbers, and the letters, of a document
pub document-told : (on : Constructs) (t : ℕ) (bytes : List ℕ) → let seats = virtual t bytes in AllByRecursion (IsTold (numbers_of on seats) (letters on seats)) (flat_map (flagged on) (sections_in_seats on seats))
document-told on t bytes =
    let seats = virtual t bytes in
    let rs = rows on (lines_in seats) in
    let ss = sections on rs in
    let zs = flat_map (flagged on) ss in
    let laid : AreRowsLaid 1 0 rs = rows-laid on (record { before = nothing_known on; text = [] }) 1 0 (lines_in seats) (virtual-laid t 1 1 0 bytes) in
    let laid-zs : AreRowsLaid 1 0 (map (λ (z : Flagged). z.0) zs) = subst (AreRowsLaid 1 0) (sym (all-rows-flagged on ss ∙ sections-hold-lines on rs)) laid in
    let ns : AllByRecursion (Tells own_number own_number (numbers_of on seats)) zs =
    subst (λ l. AllByRecursion (Tells own_number own_number l) zs) (sym (all-picked on own_number ss)) (tells own_number own_number [] 1 zs tt (numbers-spread 1 0 zs laid-zs)) in
    let ls : AllByRecursion (Tells text_begin own_indices (letters on seats)) zs =
    subst (λ l. AllByRecursion (Tells text_begin own_indices l) zs) (sym (all-picked on text_begin ss)) (tells text_begin own_indices [] 0 zs tt (indices-spread 1 0 zs laid-zs)) in
    all-told (numbers_of on seats) (letters on seats) 1 0 zs laid-zs ns ls
