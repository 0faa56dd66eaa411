-- In each line of a document stand its own letters, and no other.
use Rattle.std.proofs.Common.{◌≡◌, ◌<◌, ◌+◌, ◌∙◌, ℕ, Bool, true, false, cond, List, [], ◌∷◌, ◌++◌, ap, arith, drop, eqb-true, map, refl, subst, sym, take}
use Rattle.std.specs.Prelude.{◌==◌, ◌&&◌, ◌||◌, is_some}
use Rattle.std.specs.List.{AllByRecursion, flat_map, list_any}
use Rattle.std.proofs.Math.Bool.{or-false}
use Rattle.std.proofs.lemmas.List.{map-append}
use Rattle.std.proofs.lemmas.List.Folds.{flat_map-map, list_any-append}
use Rattle.std.proofs.lemmas.Grind.{flat_map-append}
use Rattle.markdown_base.proofs.Common.{every-append, every-drop, every-map, every-take}
use Rattle.markdown_base.specs.declared.configuration.Constructs.{Constructs}
use Rattle.markdown_base.specs.Virtual.{Seat}
use Rattle.markdown_tokenizer.proofs.Positions.Order.{every-back, every-front}
use Rattle.mdblock_leaf_blocks.specs.LeafBlocks.{Line}
use Rattle.mdblock_leaf_blocks.specs.LineKinds.{indent, underline_rank}
use Rattle.mdblock_containers.specs.Letters.{lazy_underline}
use Rattle.mdblock_containers.specs.Rows.{Row, rest_of}
use Rattle.mdblock_definitions.specs.Sections.{Section, Inside, defined, lines, table}
use Rattle.mdblock_definitions.specs.Skeleton.{all_rows, letters_of_section, text_begin}
use Rattle.mdblock_definitions.proofs.Covered.{rows_of}
use Rattle.mdblock_paragraphs.proofs.LineOrder.{AreInOrder, IsBehind}

-- a letter stands at a virtual byte
abbrev pub has_letter : (at : List ℕ) → Seat → Bool
has_letter at q = list_any (λ i. i == q.point.index) at

-- in a line stand these letters of all
abbrev pub HasOwn : (at own : List ℕ) → Line → Type 0
HasOwn at own line = AllByRecursion (λ (q : Seat). has_letter at q ≡ has_letter own q) line

-- a line, and its own letters
abbrev pub Lettered : Type 0
Lettered = Row × List ℕ

-- its letters are of bytes of its own
record IsOwn (l : Lettered) : Type 0 where
  pub before : (q : Seat) → IsBehind l.0.line q → AllByRecursion (λ (i : ℕ). i < q.point.index) l.1
  pub behind : (q : Seat) → AllByRecursion (λ (p : Seat). q.point.index < p.point.index) l.0.line → AllByRecursion (λ (i : ℕ). q.point.index < i) l.1

not-equal : (i k : ℕ) → (i ≡ k → ⊥) → (i == k) ≡ false
not-equal i k h = by (i == k) refl
  where
    by : (x : Bool) → (i == k) ≡ x → x ≡ false
    by true e = absurd (h (eqb-true i k e))
    by false e = refl

none-less : (k : ℕ) (own : List ℕ) → AllByRecursion (λ (i : ℕ). i < k) own → list_any (λ i. i == k) own ≡ false
none-less k [] h = refl
none-less k (i ∷ own) h = let less = h.0 in (λ j. not-equal i k (λ e. omega (arith, less, e)) j || none-less k own h.1 j)

none-more : (k : ℕ) (own : List ℕ) → AllByRecursion (λ (i : ℕ). k < i) own → list_any (λ i. i == k) own ≡ false
none-more k [] h = refl
none-more k (i ∷ own) h = let less = h.0 in (λ j. not-equal i k (λ e. omega (arith, less, e)) j || none-more k own h.1 j)

-- what comes behind each byte of a line, from the line's side
turned : (l m : Line) → AllByRecursion (IsBehind l) m → AllByRecursion (λ (q : Seat). AllByRecursion (λ (p : Seat). q.point.index < p.point.index) m) l
turned [] m h = tt
turned (q ∷ l) m h = (
  every-map (IsBehind (q ∷ l)) (λ (p : Seat). q.point.index < p.point.index) (λ p k. k.0) m h,
  turned l m (every-map (IsBehind (q ∷ l)) (IsBehind l) (λ p k. k.1) m h),
)

abbrev lines_of : List Lettered → List Line
lines_of ls = map (λ (l : Lettered). l.0.line) ls

abbrev letters_in : List Lettered → List ℕ
letters_in ls = flat_map (λ (l : Lettered). l.1) ls

-- no letter of the lines behind a line stands in it
none-behind : (line : Line) (ls : List Lettered) → AllByRecursion (AllByRecursion (IsBehind line)) (lines_of ls) → AllByRecursion IsOwn ls → AllByRecursion (λ (q : Seat). has_letter (letters_in ls) q ≡ false) line
none-behind line [] o h = by line
  where
    by : (line : Line) → AllByRecursion (λ (q : Seat). has_letter [] q ≡ false) line
    by [] = tt
    by (q ∷ qs) = (refl, by qs)
none-behind line (l ∷ ls) o h = by line (turned line l.0.line o.0) (none-behind line ls o.1 h.1)
  where
    by : (line : Line) → AllByRecursion (λ (q : Seat). AllByRecursion (λ (p : Seat). q.point.index < p.point.index) l.0.line) line → AllByRecursion (λ (q : Seat). has_letter (letters_in ls) q ≡ false) line
        → AllByRecursion (λ (q : Seat). has_letter (l.1 ++ letters_in ls) q ≡ false) line
    by [] k r = tt
    by (q ∷ qs) k r =
        (list_any-append (λ i. i == q.point.index) l.1 (letters_in ls) ∙ (λ j. none-more q.point.index l.1 (h.0.behind q k.0) j || r.0 j), by qs k.1 r.1)

-- and no letter of a line stands in those behind it
own-behind : (l : Lettered) → IsOwn l → (at : List ℕ) (ls : List Lettered) → AllByRecursion (AllByRecursion (IsBehind l.0.line)) (lines_of ls) → AllByRecursion (λ (m : Lettered). HasOwn at m.1 m.0.line) ls
    → AllByRecursion (λ (m : Lettered). HasOwn (l.1 ++ at) m.1 m.0.line) ls
own-behind l h at [] o k = tt
own-behind l h at (m ∷ ls) o k = (by m.0.line o.0 k.0, own-behind l h at ls o.1 k.1)
  where
    by : (line : Line) → AllByRecursion (IsBehind l.0.line) line → HasOwn at m.1 line → HasOwn (l.1 ++ at) m.1 line
    by [] b r = tt
    by (q ∷ qs) b r = (list_any-append (λ i. i == q.point.index) l.1 at ∙ (λ j. none-less q.point.index l.1 (h.before q b.0) j || r.0 j), by qs b.1 r.1)

-- the letters at its front are its own
own-front : (own at : List ℕ) (line : Line) → AllByRecursion (λ (q : Seat). has_letter at q ≡ false) line → HasOwn (own ++ at) own line
own-front own at [] h = tt
own-front own at (q ∷ qs) h = (list_any-append (λ i. i == q.point.index) own at ∙ ap (λ b. has_letter own q || b) h.0 ∙ or-false (has_letter own q), own-front own at qs h.1)

all-own : (ls : List Lettered) → AreInOrder (lines_of ls) → AllByRecursion IsOwn ls → AllByRecursion (λ (m : Lettered). HasOwn (letters_in ls) m.1 m.0.line) ls
all-own [] o h = tt
all-own (l ∷ ls) o h = (own-front l.1 (letters_in ls) l.0.line (none-behind l.0.line ls o.0 h.1), own-behind l h.0 (letters_in ls) ls o.0 (all-own ls o.1 h.1))

-- ---- sections

module _ (on : Constructs) where
  -- the lines of a section with their letters
  abbrev pub lettered : Section → List Lettered
  lettered s = elim s.inside as (λ _. List Lettered) [
    | lines x ↦ (s.part.first, cond x (text_begin s.part.first) (lazy_underline on s.part.first)) ∷ map (λ (r : Row). (r, lazy_underline on r)) s.part.more
    | defined ds ↦ map (λ (r : Row). (r, [])) (all_rows s.part)
    | table ↦ map (λ (r : Row). (r, [])) (all_rows s.part)
  ]

  rows-back : (f : Row → List ℕ) (rs : List Row) → map (λ (l : Lettered). l.0) (map (λ (r : Row). (r, f r)) rs) ≡ rs
  rows-back f [] = refl
  rows-back f (r ∷ rs) = ap (λ l. r ∷ l) (rows-back f rs)

  no-letters : (rs : List Row) → letters_in (map (λ (r : Row). (r, [])) rs) ≡ []
  no-letters [] = refl
  no-letters (r ∷ rs) = no-letters rs

  lettered-rows : (s : Section) → map (λ (l : Lettered). l.0) (lettered s) ≡ all_rows s.part
  lettered-rows s = by s.inside
    where
      by : (i : Inside) → map (λ (l : Lettered). l.0) (elim i as (λ _. List Lettered) [
        | lines x ↦ (s.part.first, cond x (text_begin s.part.first) (lazy_underline on s.part.first)) ∷ map (λ (r : Row). (r, lazy_underline on r)) s.part.more
        | defined ds ↦ map (λ (r : Row). (r, [])) (all_rows s.part)
        | table ↦ map (λ (r : Row). (r, [])) (all_rows s.part)
      ]) ≡ all_rows s.part
      by (lines x) = ap (λ l. s.part.first ∷ l) (rows-back (lazy_underline on) s.part.more)
      by (defined ds) = rows-back (λ _. []) (all_rows s.part)
      by table = rows-back (λ _. []) (all_rows s.part)

  lettered-letters : (s : Section) → letters_in (lettered s) ≡ letters_of_section on s
  lettered-letters s = by s.inside
    where
      by : (i : Inside) → letters_in (elim i as (λ _. List Lettered) [
        | lines x ↦ (s.part.first, cond x (text_begin s.part.first) (lazy_underline on s.part.first)) ∷ map (λ (r : Row). (r, lazy_underline on r)) s.part.more
        | defined ds ↦ map (λ (r : Row). (r, [])) (all_rows s.part)
        | table ↦ map (λ (r : Row). (r, [])) (all_rows s.part)
      ]) ≡ elim i as (λ _. List ℕ) [ lines x ↦ cond x (text_begin s.part.first) (lazy_underline on s.part.first) ++ flat_map (lazy_underline on) s.part.more | defined ds ↦ [] | table ↦ [] ]
      by (lines x) = ap (λ l. cond x (text_begin s.part.first) (lazy_underline on s.part.first) ++ l) (flat_map-map (λ (l : Lettered). l.1) (λ (r : Row). (r, lazy_underline on r)) s.part.more)
      by (defined ds) = no-letters (all_rows s.part)
      by table = no-letters (all_rows s.part)

  -- letters are of bytes of their lines
  less-mapped : (k : ℕ) (ss : List Seat) → AllByRecursion (λ (p : Seat). p.point.index < k) ss → AllByRecursion (λ (i : ℕ). i < k) (map (λ (p : Seat). p.point.index) ss)
  less-mapped k [] h = tt
  less-mapped k (s ∷ ss) h = (h.0, less-mapped k ss h.1)

  more-mapped : (k : ℕ) (ss : List Seat) → AllByRecursion (λ (p : Seat). k < p.point.index) ss → AllByRecursion (λ (i : ℕ). k < i) (map (λ (p : Seat). p.point.index) ss)
  more-mapped k [] h = tt
  more-mapped k (s ∷ ss) h = (h.0, more-mapped k ss h.1)

  own-begin : (r : Row) → IsOwn (r, text_begin r)
  own-begin r =
      let n = r.columns + indent (rest_of r) in
      record {
        before = λ q h. less-mapped q.point.index (take 1 (drop n r.line)) (every-take (λ (p : Seat). p.point.index < q.point.index) 1 (drop n r.line) (every-drop (λ (p : Seat). p.point.index < q.point.index) n r.line h));
        behind = λ q h. more-mapped q.point.index (take 1 (drop n r.line)) (every-take (λ (p : Seat). q.point.index < p.point.index) 1 (drop n r.line) (every-drop (λ (p : Seat). q.point.index < p.point.index) n r.line h));
      }

  own-none : (r : Row) → IsOwn (r, [])
  own-none r = record { before = λ q h. tt; behind = λ q h. tt }

  own-lazy : (r : Row) → IsOwn (r, lazy_underline on r)
  own-lazy r = by (r.is_lazy && is_some (underline_rank on (rest_of r)))
    where
      by : (x : Bool) → IsOwn (r, cond x (text_begin r) [])
      by true = own-begin r
      by false = own-none r

  own-each : (f : Row → List ℕ) → ((r : Row) → IsOwn (r, f r)) → (rs : List Row) → AllByRecursion IsOwn (map (λ (r : Row). (r, f r)) rs)
  own-each f h [] = tt
  own-each f h (r ∷ rs) = (h r, own-each f h rs)

  section-own : (s : Section) → AllByRecursion IsOwn (lettered s)
  section-own s = by s.inside
    where
      first : (x : Bool) → IsOwn (s.part.first, cond x (text_begin s.part.first) (lazy_underline on s.part.first))
      first true = own-begin s.part.first
      first false = own-lazy s.part.first

      by : (i : Inside) → AllByRecursion IsOwn (elim i as (λ _. List Lettered) [
        | lines x ↦ (s.part.first, cond x (text_begin s.part.first) (lazy_underline on s.part.first)) ∷ map (λ (r : Row). (r, lazy_underline on r)) s.part.more
        | defined ds ↦ map (λ (r : Row). (r, [])) (all_rows s.part)
        | table ↦ map (λ (r : Row). (r, [])) (all_rows s.part)
      ])
      by (lines x) = (first x, own-each (lazy_underline on) own-lazy s.part.more)
      by (defined ds) = own-each (λ _. []) own-none (all_rows s.part)
      by table = own-each (λ _. []) own-none (all_rows s.part)

  -- ---- all sections

  all-rows-of : (ss : List Section) → lines_of (flat_map lettered ss) ≡ map (λ (r : Row). r.line) (rows_of ss)
  all-rows-of [] = refl
  all-rows-of (s ∷ ss) =
      map-append (λ (l : Lettered). l.0.line) (lettered s) (flat_map lettered ss)
      ∙ (λ j. first j ++ all-rows-of ss j)
      ∙ sym (map-append (λ (r : Row). r.line) (all_rows s.part) (rows_of ss))
    where
      twice : (ls : List Lettered) → lines_of ls ≡ map (λ (r : Row). r.line) (map (λ (l : Lettered). l.0) ls)
      twice [] = refl
      twice (l ∷ ls) = ap (λ k. l.0.line ∷ k) (twice ls)

      first : lines_of (lettered s) ≡ map (λ (r : Row). r.line) (all_rows s.part)
      first = twice (lettered s) ∙ ap (map (λ (r : Row). r.line)) (lettered-rows s)

  all-letters-of : (ss : List Section) → letters_in (flat_map lettered ss) ≡ flat_map (letters_of_section on) ss
  all-letters-of [] = refl
  all-letters-of (s ∷ ss) = flat_map-append (λ (l : Lettered). l.1) (lettered s) (flat_map lettered ss) ∙ (λ j. lettered-letters s j ++ all-letters-of ss j)

  all-sections-own : (ss : List Section) → AllByRecursion IsOwn (flat_map lettered ss)
  all-sections-own [] = tt
  all-sections-own (s ∷ ss) = every-append IsOwn (lettered s) (flat_map lettered ss) (section-own s) (all-sections-own ss)

  -- the lines of a section have their own letters
  abbrev pub SectionOwn : (at : List ℕ) → Section → Type 0
  SectionOwn at s = AllByRecursion (λ (l : Lettered). HasOwn at l.1 l.0.line) (lettered s)

  each-section : (at : List ℕ) (ss : List Section) → AllByRecursion (λ (l : Lettered). HasOwn at l.1 l.0.line) (flat_map lettered ss) → AllByRecursion (SectionOwn at) ss
  each-section at [] h = tt
  each-section at (s ∷ ss) h =
      let own = λ (l : Lettered). HasOwn at l.1 l.0.line in
      (every-front own (lettered s) (flat_map lettered ss) h, each-section at ss (every-back own (lettered s) (flat_map lettered ss) h))

  pub sections-own : (ss : List Section) → AreInOrder (map (λ (r : Row). r.line) (rows_of ss)) → AllByRecursion (SectionOwn (flat_map (letters_of_section on) ss)) ss
  sections-own ss o =
      each-section (flat_map (letters_of_section on) ss) ss
      (subst (λ (at : List ℕ). AllByRecursion (λ (l : Lettered). HasOwn at l.1 l.0.line) (flat_map lettered ss)) (all-letters-of ss)
      (all-own (flat_map lettered ss) (subst AreInOrder (sym (all-rows-of ss)) o) (all-sections-own ss)))
