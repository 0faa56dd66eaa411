-- Lines of a section, as the code has them.
use Rattle.std.specs.Prelude.{◌≡◌, ◌≤◌, ◌==◌, ◌&&◌, not, ℕ, suc, ◌+◌, Bool, true, false, cond, List, [], ◌∷◌, ◌++◌, drop, length, take, Some, None, ◌||◌}
use Rattle.std.specs.List.{AllByRecursion, flat_map}
use Rattle.markdown_base.specs.Places.{shown}
use Rattle.markdown_base.specs.declared.configuration.Constructs.{Constructs}
use Rattle.markdown_base.specs.Virtual.{point}
use Rattle.mdblock_leaf_blocks.specs.LeafEvents.{Mark}
use Rattle.mdblock_leaf_blocks.specs.LineKinds.{unindented}
use Rattle.mdblock_lines.specs.Containers.{Container}
use Rattle.mdblock_lines.specs.Lines.{place_after}
use Rattle.mdblock_containers.specs.declared.parts.PartEnd.{PartEnd}
use Rattle.mdblock_containers.specs.declared.prefixes.At.{At}
use Rattle.mdblock_containers.specs.declared.spans.RowAt.{RowAt}
use Rattle.mdblock_containers.specs.Letters.{lazy_underline}
use Rattle.mdblock_containers.specs.Prefixes.{columns_of}
use Rattle.mdblock_containers.specs.Rest.{AreLeft, ending_to}
use Rattle.mdblock_containers.specs.Rows.{Row, has_none, holds_ending, is_paragraph, rest_of, is_table}
use Rattle.mdblock_containers.specs.Skeleton.{Part, end_of, ending_marks}
use Rattle.mdblock_containers.specs.Spans.{IsRowIn}
use Rattle.mdblock_containers.specs.Stretches.{AreFurther, end_at, last_at}
use Rattle.mdblock_containers.specs.Views.{leaf_of}
use Rattle.mdinline_labels.specs.Definitions.{definitions}
use Rattle.mdblock_definitions.specs.Sections.{Inside, Section, defined, lines, text_in, table}
use Rattle.mdblock_definitions.specs.Skeleton.{all_rows, inside_marks, text_begin}
use Rattle.mdblock_definitions.specs.Within.{AreWithin, within_marks}

-- a line has text behind its prefixes and white space
abbrev pub IsFilled : Row → Type 0
IsFilled r = 1 ≤ length (unindented (rest_of r))

-- behind a line a paragraph goes on, or a table
abbrev pub holds_text : Row → Bool
holds_text r = is_paragraph r.leaf || is_table r.leaf

-- such a line has text
abbrev pub TextIsFilled : Row → Type 0
TextIsFilled r = holds_text r ≡ true → (r.is_blank ≡ false) × IsFilled r

-- and a line in a table comes behind such a line
abbrev pub FollowsText : Row → List Row → Type 0
FollowsText r [] = Unit {0}
FollowsText r (s ∷ rs) = is_table s.leaf ≡ true → holds_text r ≡ true

abbrev pub TextsAreFilled : List Row → Type 0
TextsAreFilled [] = Unit {0}
TextsAreFilled (r ∷ rs) = TextIsFilled r × (FollowsText r rs × TextsAreFilled rs)

-- lines behind the header row of a table: its delimiter row, and rows, which have text
abbrev pub AreTableRows : List Row → Type 0
AreTableRows [] = ⊥
AreTableRows (r ∷ rs) = AllByRecursion IsFilled rs

-- the first of these lines has
abbrev pub BeginsFilled : List Row → Type 0
BeginsFilled [] = Unit {0}
BeginsFilled (r ∷ rs) = IsFilled r

-- what is read as a letter of lines of leaf blocks, of which the first may be text directly behind definitions
abbrev pub letters_in : Constructs → (is_behind : Bool) → List Row → List ℕ
letters_in on is_behind [] = []
letters_in on is_behind (r ∷ rs) = cond is_behind (text_begin r) (lazy_underline on r) ++ flat_map (lazy_underline on) rs

module _ (t : ℕ) (bytes : List ℕ) where
  -- lines are the first of those that are left
  pub record AreFirst (xs : List RowAt) (rs : List Row) : Type 0 where
    pub stack : List Container
    pub behind : List RowAt
    pub rest : List Row
    pub left : AreLeft bytes t stack (xs ++ behind) (rs ++ rest)
    pub size : length xs ≡ length rs

  -- The lines of a section: the first, and further ones, with which these containers go on
  pub record IsSectionOf (stack : List Container) (x : RowAt) (xs : List RowAt) (p : Part) : Type 0 where
    pub before : List Container
    pub behind : List RowAt
    pub rest : List Row
    pub left : AreLeft bytes t before (x ∷ (xs ++ behind)) (p.first ∷ (p.more ++ rest))
    pub further : AreFurther t bytes stack (suc left.number) x.span.next xs p.more

  -- lines of a section that begins with a further line of a part
  pub record IsLater (stack : List Container) (x : RowAt) (xs : List RowAt) (p : Part) : Type 0 where
    pub is : IsSectionOf stack x xs p
    pub row : IsRowIn t bytes stack is.left.number is.left.start x p.first
    pub begun : p.first.begun ≡ []

  -- lines of the further sections of a part: they go on with all its containers
  abbrev pub AreLater : (stack : List Container) → List RowAt → List Section → Type 0
  AreLater stack [] [] = Unit {0}
  AreLater stack [] (s ∷ ss) = ⊥
  AreLater stack (x ∷ xs) [] = ⊥
  AreLater stack (x ∷ xs) (s ∷ ss) = IsLater stack x (take (length s.part.more) xs) s.part × (length stack ≤ length s.part.stands)

  -- a place directly behind the prefixes of the first line of a section
  pub record IsBegun (p : Part) (x : RowAt) (at : At) : Type 0 where
    pub columns : at.columns ≡ cond p.first.is_blank (cond (has_none p.first.begun) (columns_of (take (length p.stands) p.first.went_on)) p.first.columns) p.first.columns
    pub place : at.place ≡ place_after t bytes (point x.span.number 1 x.span.start 0) at.columns

  -- a place is directly behind the prefixes of the first line of the first of these sections
  abbrev pub AreBegun : List RowAt → List Section → At → Type 0
  AreBegun [] ss at = Unit {0}
  AreBegun (x ∷ xs) [] at = Unit {0}
  AreBegun (x ∷ xs) (s ∷ ss) at = IsBegun s.part x at

-- What is in a section fits its lines: text directly behind definitions has text, definitions are all of theirs, and lines of a table are such
abbrev pub IsSound : Part → Inside → Type 0
IsSound p (lines false) = Unit {0}
IsSound p (lines true) = (p.first.is_blank ≡ false) × IsFilled p.first
IsSound p (defined ds) = (p.first.is_blank ≡ false) × (ds ≡ definitions (text_in (all_rows p)))
IsSound p table = (p.first.is_blank ≡ false) × AreTableRows p.more

-- Where lines of a section end, and the line ending behind them
pub record IsEnd (x : RowAt) (xs : List RowAt) (e : PartEnd) : Type 0 where
  pub blank : e.is_blank ≡ x.row.is_blank
  pub place : e.place ≡ end_at (not x.row.is_blank && holds_ending (leaf_of (last_at x xs).row.leaf)) (last_at x xs)
  pub behind : let last = last_at x xs in e.behind ≡ cond (not x.row.is_blank && holds_ending (leaf_of last.row.leaf)) None (cond (last.span.end == last.span.next) None (Some (point (last.span.number + 1) 1 last.span.next 0)))

-- Sections of a part are written up to the inside of the first of these
abbrev pub inside_from : (bytes : List ℕ) → List Section → (rest : List Mark) → List Mark
inside_from bytes [] rest = rest
inside_from bytes (s ∷ ss) rest = inside_marks bytes s.part s.inside ++ (within_marks bytes s.part ss ++ rest)

abbrev pub AreSound : List Section → Type 0
AreSound ss = AllByRecursion (λ s. IsSound s.part s.inside) ss

-- a part ends so
pub record HasEnd (bytes : List ℕ) (p : Part) (e : PartEnd) : Type 0 where
  pub place : shown bytes (end_of bytes p) ≡ e.place
  pub ending : ending_marks bytes p ≡ ending_to e

-- the sections of a part, by its lines
pub record AreSectionsOf (around : Part) (ss : List Section) : Type 0 where
  pub within : AreWithin around ss
  pub lines : flat_map (λ s. all_rows s.part) ss ≡ all_rows around
  pub sound : AreSound ss

-- lines of these sections, one behind another: none is left behind them
abbrev pub AreInLines : (t : ℕ) (bytes : List ℕ) (stack : List Container) → List RowAt → List Section → Type 0
AreInLines t bytes stack [] [] = Unit {0}
AreInLines t bytes stack (x ∷ xs) [] = ⊥
AreInLines t bytes stack [] (s ∷ ss) = ⊥
AreInLines t bytes stack (x ∷ xs) (s ∷ ss) =
    let n = length s.part.more in
    IsSectionOf t bytes stack x (take n xs) s.part × (IsSound s.part s.inside × ((n ≤ length xs) × (AreLater t bytes stack (drop n xs) ss × AreInLines t bytes stack (drop n xs) ss)))
