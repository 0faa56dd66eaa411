-- Inner: how pieces are laid out for the parts of a text. No public contract cites this file.
use Rattle.std.specs.Prelude.{◌≡◌, ℕ, zero, suc, ◌+◌, ◌-◌, ◌<◌, ◌≤◌, nat_lt, ◌==◌, Bool, true, false, cond, List, [], ◌∷◌, ◌++◌, drop, length, map, reverse, take}
use Rattle.std.specs.List.{AllByRecursion, between}
use Rattle.markdown_base.specs.declared.event.Event.{Event}
use Rattle.markdown_base.specs.declared.event.Name.TheVariants.{LabelImage, LabelMarker}
use Rattle.mdinline_emphasis.specs.declared.pairs.Delimiters.{Delimiters}
use Rattle.mdinline_emphasis.specs.Emphasis.{Run, paired}
use Rattle.mdinline_emphasis.specs.Places.{AllHaveRoom, standing}
use Rattle.mdinline_emphasis.specs.Searches.{as_run}
use Rattle.mdinline_links.specs.declared.brackets.Bracket.{Bracket}
use Rattle.mdinline_links.specs.declared.brackets.Pieces.{Pieces}
use Rattle.mdinline_links.specs.declared.pieces.Fate.{Fate}
use Rattle.mdinline_links.specs.declared.pieces.Fate.TheVariants.{AsData, Opens, Ends, Tail, Waits, Paired}
use Rattle.mdinline_links.specs.declared.pieces.Piece.{Piece}
use Rattle.mdinline_links.specs.Linked.{Part, run, events, SoFar, Waiting, ended, is_bracket, is_named, is_run, linked_from, runs_of_parts, spans_in, taken}
use Rattle.mdinline_links.specs.Pieces.{Fits, span_of, written_from}

-- a piece is a run that is in no pair yet
abbrev pub is_waiting : Fate → Bool
is_waiting Waits = true
is_waiting _ = false

abbrev pub NoneWait : List Piece → Type 0
NoneWait ps = AllByRecursion (λ p. is_waiting p.fate ≡ false) ps

-- where the runs stand that are in no pair yet
abbrev pub waits_at : ℕ → List Piece → List ℕ
waits_at i [] = []
waits_at i (p ∷ ps) = cond (is_waiting p.fate) (i ∷ waits_at (suc i) ps) (waits_at (suc i) ps)

-- the pieces with another fate of the one at an index
abbrev pub with_fate : ℕ → Fate → List Piece → List Piece
with_fate i f [] = []
with_fate zero f (p ∷ ps) = record p { fate = f } ∷ ps
with_fate (suc i) f (p ∷ ps) = p ∷ with_fate i f ps

-- the pieces with runs at these indices
abbrev pub placed_at : List Piece → List ℕ → List Delimiters → List Piece
placed_at ps [] ds = ps
placed_at ps (o ∷ os) [] = ps
placed_at ps (o ∷ os) (d ∷ ds) = with_fate o (Paired d) (placed_at ps os ds)

abbrev pub piece_at : (start end : ℕ) → Fate → Piece
piece_at start end fate = record { start = start; end = end; fate = fate }

-- these events are written of pieces, whatever is before them
abbrev pub Writes : List Event → List Piece → List Event → Type 0
Writes es ps xs = (before : List Event) → written_from es before ps ≡ xs

-- these pieces are those of parts: one for each run, which is in no pair yet, and some for the events between two
abbrev pub Reads : List Event → List Part → List Piece → Type 0
Reads es [] ps = ps ≡ []
Reads es (run r ∷ parts) ps = (p : Piece) × (more : List Piece) × (ps ≡ p ∷ more) × (is_waiting p.fate ≡ true) × Reads es parts more
Reads es (events xs ∷ parts) ps =
    (p : Piece) × (front more : List Piece) × (ps ≡ (p ∷ front) ++ more) × NoneWait (p ∷ front) × Writes es (p ∷ front) xs × Reads es parts more

abbrev pub bracket_at : (piece runs : ℕ) → (image : Bool) → Bracket
bracket_at piece runs image = record { piece = piece; runs = runs; image = image }

-- A bracket that waits, with the runs and the pieces before it and those behind it
pub record IsFrame (es : List Event) (w : Waiting) (behind : List Part) (bs : List Bracket) (rs : List Run) (ps : List Piece) : Type 0 where
  pub lower_brackets : List Bracket
  pub lower_runs : List Run
  pub lower : List Piece
  pub piece : Piece
  pub upper : List Piece
  pub brackets : bs ≡ lower_brackets ++ bracket_at (length lower) (length lower_runs) (is_named LabelImage w.opener) ∷ []
  pub runs : rs ≡ lower_runs ++ runs_of_parts behind
  pub pieces : ps ≡ lower ++ piece ∷ upper
  pub fate : piece.fate ≡ AsData
  pub span : span_of es piece ≡ w.opener
  pub some : 0 < length w.opener
  pub reads : Reads es behind upper

-- The brackets that wait, the runs that are in no pair, and the pieces, of what a fold over spans has so far
abbrev pub Laid : List Event → List Waiting → List Part → List Bracket → List Run → List Piece → Type 0
Laid es [] behind bs rs ps = (bs ≡ []) × (rs ≡ runs_of_parts behind) × Reads es behind ps
Laid es (w ∷ ws) behind bs rs ps = (f : IsFrame es w behind bs rs ps) × Laid es ws w.before f.lower_brackets f.lower_runs f.lower

-- runs stand one behind another
abbrev pub AreAscending : List Run → Type 0
AreAscending [] = Unit {0}
AreAscending (r ∷ rs) = AllByRecursion (λ s. r.index < s.index) rs × AreAscending rs

-- What there is so far is what the fold has: brackets that wait, runs that are in no pair, where their pieces are, the pieces, and the runs that
-- are left
pub record Stands (es : List Event) (bs : List Bracket) (rs : List Run) (os : List ℕ) (ps : List Piece) (rest : List Run) (z : SoFar) : Type 0 where
  pub laid : Laid es z.waiting z.behind bs rs ps
  pub owners : os ≡ waits_at 0 ps
  pub left : z.runs ≡ rest
  pub apart : AreAscending (rs ++ rest)
  pub room : AllHaveRoom (map standing (rs ++ rest))
  pub fit : AllByRecursion (Fits (length es)) ps

-- the runs that are left stand in the code the last one first
abbrev pub StandsFor : List Event → Pieces → List Delimiters → SoFar → Type 0
StandsFor es all left z = Stands es all.brackets.items (map as_run all.runs.items) all.owners.items all.pieces.items (reverse (map as_run left)) z

-- A bracket made a link or an image: the runs behind it are in their pieces, with the pairs that they make among themselves, and the end and the
-- tail are pieces
pub record IsMade (old new : Pieces) (bracket : Bracket) (start end tail : ℕ) : Type 0 where
  pub placed : List Delimiters
  pub pairs : map as_run placed ≡ paired (drop bracket.runs (map as_run old.runs.items))
  pub runs : map as_run new.runs.items ≡ take bracket.runs (map as_run old.runs.items)
  pub owners : new.owners.items ≡ take bracket.runs old.owners.items
  pub brackets : new.brackets.items ≡ old.brackets.items
  pub pieces :
      let filled = nat_lt 1 (length old.pieces.items - bracket.piece) in
      let before = with_fate bracket.piece (Opens bracket.image filled) (placed_at old.pieces.items (drop bracket.runs old.owners.items) placed) in
      new.pieces.items
      ≡ (before ++ piece_at start end (Ends bracket.image filled (end == tail)) ∷ []) ++ cond (nat_lt end tail) (piece_at end tail (Tail bracket.image) ∷ []) []

-- From an index on as many spans are left as a fold over these reaches with what the code has so far
pub record IsReached (es : List Event) (z : SoFar) (spans : List (List Event)) (next : ℕ) (all : Pieces) (left : List Delimiters) : Type 0 where
  pub so_far : SoFar
  pub bound : ℕ
  pub stands : StandsFor es all left so_far
  pub enough : length es ≤ next + bound
  pub same : linked_from z spans ≡ linked_from so_far (spans_in bound (drop next es))

-- a span that is no end was read
abbrev pub IsRead : List Event → (old new : Pieces) → (left_old left_new : List Delimiters) → (start end : ℕ) → Type 0
IsRead es old new left_old left_new start end = (z : SoFar) → StandsFor es old left_old z → StandsFor es new left_new (taken (between start end es) z)

-- an attention sequence was read
abbrev pub IsRunRead : (old new : Pieces) → (left_old left_new : List Delimiters) → (start end : ℕ) → Type 0
IsRunRead old new left_old left_new start end =
    (es : List Event) → start < end → end ≤ length es → let span = between start end es in is_bracket span ≡ false → is_named LabelMarker span ≡ false → is_run span ≡ true
    → IsRead es old new left_old left_new start end

-- the end of a label was read, with its tail
abbrev pub IsEnded : (old new : Pieces) → (start end tail : ℕ) → Type 0
IsEnded old new start end tail =
    (es : List Event) (left : List Delimiters) (z : SoFar) → tail ≤ length es → StandsFor es old left z
    → StandsFor es new left (ended (between start end es) (between end tail es) z.waiting z)

-- one span was read, or two
abbrev pub GoesOn : List Event → (old new : Pieces) → (left_old left_new : List Delimiters) → (start next : ℕ) → Type 0
GoesOn es old new left_old left_new start next =
    (z : SoFar) (bound : ℕ) → StandsFor es old left_old z → length es ≤ start + bound → IsReached es z (spans_in bound (drop start es)) next new left_new
