-- How many elements are open in the pieces of spans, by how many spans that nest are in one another.
use Rattle.std.proofs.Common.{◌≡◌, ℕ, zero, suc, ◌+◌, ◌-◌, ◌*◌, ◌<◌, ◌≤◌, ◌++◌, Bool, true, false, cond, List, [], ◌∷◌, Option, None, Some, refl, sym, ap, subst, ◌∙◌, arith}
use Rattle.std.proofs.lemmas.Bool.{false≢true}
use Rattle.std.specs.List.{AllByRecursion, list_any}
use Rattle.std.specs.Prelude.{◌||◌, max, not}
use Rattle.markdown_base.proofs.Common.{or-leads}
use Rattle.markdown_base.specs.declared.configuration.CompileOptions.{CompileOptions}
use Rattle.markdown_base.specs.declared.event.Event.{Event}
use Rattle.markdown_base.specs.declared.event.Name.{Name}
use Rattle.markdown_base.specs.declared.event.Name.TheVariants as name
use Rattle.markdown_base.specs.Events.{same_name}
use Rattle.markdown_base.proofs.Balanced.{same_name-true}
use Rattle.mddocument_link_targets.specs.declared.targets.Parts.{Parts}
use Rattle.mddocument_link_targets.specs.Spans.{enters, first_in}
use Rattle.mdhtml_laws.specs.Depth.{deepest}
use Rattle.mdhtml_depth.specs.Depth.{nests}
use Rattle.mdhtml_document.specs.declared.names.Block.{Block}
use Rattle.mdhtml_document.specs.declared.names.Block.TheVariants as block
use Rattle.mdhtml_document.specs.declared.names.Inline.{Inline}
use Rattle.mdhtml_document.specs.declared.names.Inline.TheVariants as inline
use Rattle.mdhtml_document.specs.declared.notes.Called.{Called}
use Rattle.mdhtml_document.specs.declared.shapes.Mode.{Mode}
use Rattle.mdhtml_document.specs.declared.shapes.Mode.TheVariants as mode
use Rattle.mdhtml_document.specs.Html.{Known, Shape, alignment_of, alone, behind_column, block_shape, blocks, call_shape, cell, cell_shape, check, columns_behind, columns_in, container, empty_cell, empty_cells, heading_shape, image_of, inline_shape, is_check, is_checked, is_in_cell, item_shape, items, lacking, line, link_to, parts_in_link, pieces, row_shape, shape, shape_by, table_shape, through, within_line}
use Rattle.mdhtml_document.specs.Names.{block_of, blocks_by_name, inline_of, inlines_by_name, named}
use Rattle.mdhtml_document.specs.Notes.{place_of_first}
use Rattle.mdhtml_document.specs.Spans.{Nothing, Span, Spans, events_of}
use Rattle.mdhtml_markup.specs.declared.elements.Alignment.{Alignment}
use Rattle.mdhtml_markup.specs.declared.elements.Element.{Element}
use Rattle.mdhtml_markup.specs.declared.elements.Element.TheVariants.{BlockQuote, ListItem, OrderedList, Paragraph, Table, TableBody, TableHead, TableRow, UnorderedList}
use Rattle.mdhtml_markup.specs.Pieces.{Attribute, Close, Feed, Fresh, Kept, Open, Piece, Text, Void}

-- ---- pieces

-- how many elements are open behind pieces
abbrev behind : (opened : ℕ) → List Piece → ℕ
behind o [] = o
behind o (Open e attributes ∷ ps) = behind (suc o) ps
behind o (Close e ∷ ps) = behind (o - 1) ps
behind o (Void e attributes ∷ ps) = behind o ps
behind o (Text t ∷ ps) = behind o ps
behind o (Kept h ∷ ps) = behind o ps
behind o (Feed ∷ ps) = behind o ps
behind o (Fresh ∷ ps) = behind o ps

-- so many are open in front of pieces and behind them, and never more than these
pub record Goes (from to most : ℕ) (ps : List Piece) : Type 0 where
  pub ends : behind from ps ≡ to
  pub deep : deepest from ps ≤ most

pub both : (o i j most : ℕ) (xs ys : List Piece) → Goes o i most xs → Goes i j most ys → Goes o j most (xs ++ ys)
both o i j most [] ys h k = subst (λ n. Goes n j most ys) (sym h.ends) k
both o i j most (Open e attributes ∷ xs) ys h k =
    let d = h.deep in
    let x = both (suc o) i j most xs ys (record { ends = h.ends; deep = omega (arith, d) }) k in
    let y = x.deep in
    record { ends = x.ends; deep = omega (arith, d, y) }
both o i j most (Close e ∷ xs) ys h k =
    let d = h.deep in
    let x = both (o - 1) i j most xs ys (record { ends = h.ends; deep = omega (arith, d) }) k in
    let y = x.deep in
    record { ends = x.ends; deep = omega (arith, d, y) }
both o i j most (Void e attributes ∷ xs) ys h k =
    let d = h.deep in
    let x = both o i j most xs ys (record { ends = h.ends; deep = omega (arith, d) }) k in
    let y = x.deep in
    record { ends = x.ends; deep = omega (arith, d, y) }
both o i j most (Text t ∷ xs) ys h k = let x = both o i j most xs ys (record { ends = h.ends; deep = h.deep }) k in record { ends = x.ends; deep = x.deep }
both o i j most (Kept t ∷ xs) ys h k = let x = both o i j most xs ys (record { ends = h.ends; deep = h.deep }) k in record { ends = x.ends; deep = x.deep }
both o i j most (Feed ∷ xs) ys h k = let x = both o i j most xs ys (record { ends = h.ends; deep = h.deep }) k in record { ends = x.ends; deep = x.deep }
both o i j most (Fresh ∷ xs) ys h k = let x = both o i j most xs ys (record { ends = h.ends; deep = h.deep }) k in record { ends = x.ends; deep = x.deep }

-- no fewer than in front of them
above : (o : ℕ) (ps : List Piece) (most : ℕ) → deepest o ps ≤ most → o ≤ most
above o [] most h = h
above o (Open e attributes ∷ ps) most h = omega (arith, h)
above o (Close e ∷ ps) most h = omega (arith, h)
above o (Void e attributes ∷ ps) most h = omega (arith, h)
above o (Text t ∷ ps) most h = above o ps most h
above o (Kept t ∷ ps) most h = above o ps most h
above o (Feed ∷ ps) most h = above o ps most h
above o (Fresh ∷ ps) most h = above o ps most h

-- ---- names

-- what is written as an element that such others may be in
abbrev grows_block : Block → Bool
grows_block block.Quote = true
grows_block block.Bullets = true
grows_block block.Numbers = true
grows_block _ = false

abbrev grows_inline : Inline → Bool
grows_inline inline.Emphasis = true
grows_inline inline.Strong = true
grows_inline inline.Struck = true
grows_inline inline.Link = true
grows_inline _ = false

table : {A : Type 0} (grows : A → Bool) (ps : List (Name × A)) (other : A) → AllByRecursion (λ (p : Name × A). (not (grows p.1) || nests p.0) ≡ true) ps → grows other ≡ false → (n : Name)
    → grows (named ps other n) ≡ true → nests n ≡ true
table grows [] other h last n g = absurd (false≢true (sym last ∙ g))
table {A} grows (p ∷ ps) other h last n g = by (table grows ps other h.1 last n) (same_name n p.0) refl g
  where
    by : (grows (named ps other n) ≡ true → nests n ≡ true) → (c : Bool) → same_name n p.0 ≡ c → grows (cond c p.1 (named ps other n)) ≡ true → nests n ≡ true
    by more true is x = ap nests (same_name-true n p.0 is) ∙ or-leads (grows p.1) (nests p.0) h.0 x
    by more false is x = more x

block-nests : (n : Name) → grows_block (block_of n) ≡ true → nests n ≡ true
block-nests = table grows_block blocks_by_name block.Other (refl, (refl, (refl, (refl, (refl, (refl, (refl, (refl, (refl, (refl, (refl, (refl, (refl, (refl, (refl, (refl, (refl, (refl, (refl, tt))))))))))))))))))) refl

inline-nests : (n : Name) → grows_inline (inline_of n) ≡ true → nests n ≡ true
inline-nests = table grows_inline inlines_by_name inline.Other (refl, (refl, (refl, (refl, (refl, (refl, (refl, (refl, (refl, (refl, (refl, (refl, (refl, (refl, (refl, (refl, (refl, (refl, (refl, (refl, tt)))))))))))))))))))) refl

-- how many spans that nest are in one another
abbrev pub nest : Spans → ℕ
nest Nothing = 0
nest (Span e f s t) = max (cond (nests e.name) (suc (nest s)) (nest s)) (nest t)

pub record IsUpTo (nested : Bool) (here others most : ℕ) : Type 0 where
  pub all : here ≤ most
  pub less : nested ≡ true → here < most
  pub rest : others ≤ most

pub up-to : (nested : Bool) (here others most : ℕ) → max (cond nested (suc here) here) others ≤ most → IsUpTo nested here others most
up-to true here others most h = record { all = omega (arith, h); less = λ e. omega (arith, h); rest = omega (arith, h) }
up-to false here others most h = record { all = omega (arith, h); less = λ e. absurd (false≢true e); rest = omega (arith, h) }

-- ---- shapes

-- how many elements more may be open in spans, by how many more a call may be, how they are written and how many of them nest
abbrev room : (more : ℕ) → Mode → ℕ → ℕ
room more mode.Flow k = 2 * k + (5 + more)
room more mode.Tight k = 2 * k + (5 + more)
room more mode.LooseItems k = 2 * k + (6 + more)
room more mode.TightItems k = 2 * k + (6 + more)
room more mode.Heading k = 2 * k + (1 + more)
room more mode.Table k = 2 * k + (4 + more)
room more (mode.Rows head) k = 2 * k + (3 + more)
room more (mode.Cells head) k = 2 * k + (2 + more)
room more mode.Paragraph k = 2 * k + (1 + more)
room more mode.Text k = 2 * k + (1 + more)
room more mode.Nothing k = 0

record Fits (o i most : ℕ) (here : Shape) : Type 0 where
  first : Goes o i most here.opened
  last : Goes i o most here.closed

through-fits : (o most : ℕ) (m : Mode) → o ≤ most → Fits o o most (through m)
through-fits o most m h = record { first = record { ends = refl; deep = h }; last = record { ends = refl; deep = h } }

within-fits : (o most : ℕ) (e : Element) (attributes : List Attribute) → suc o ≤ most → Fits o (suc o) most (within_line e attributes)
within-fits o most e attributes h = record { first = record { ends = refl; deep = omega (arith, h) }; last = record { ends = omega arith; deep = omega (arith, h) } }

container-fits : (o most : ℕ) (e : Element) (attributes : List Attribute) (m : Mode) → suc o ≤ most → Fits o (suc o) most (container e attributes m)
container-fits o most e attributes m h = record { first = record { ends = refl; deep = omega (arith, h) }; last = record { ends = omega arith; deep = omega (arith, h) } }

line-fits : (o most : ℕ) (e : Element) (m : Mode) → suc o ≤ most → Fits o (suc o) most (line e m)
line-fits o most e m h = record { first = record { ends = refl; deep = omega (arith, h) }; last = record { ends = omega arith; deep = omega (arith, h) } }

cell-fits : (o most : ℕ) (head : Bool) (a : Option Alignment) → suc o ≤ most → Fits o (suc o) most (cell head a)
cell-fits o most head a h = record { first = record { ends = refl; deep = omega (arith, h) }; last = record { ends = omega arith; deep = omega (arith, h) } }

-- the cells that a row lacks
empty-by : (head : Bool) (o : Option (List Event)) (more : List Piece) (i most : ℕ) → suc i ≤ most → Goes i i most more
    → Goes i i most (elim o as (λ (_ : Option (List Event)). List Piece) [ None ↦ [] | Some column ↦ empty_cell head (alignment_of column) ++ more ])
empty-by head None more i most h g = record { ends = refl; deep = omega (arith, h) }
empty-by head (Some column) more i most h g = both i i i most (empty_cell head (alignment_of column)) more (record { ends = omega arith; deep = omega (arith, h) }) g

empty-goes : (n : ℕ) (head : Bool) (columns : List Event) (i most : ℕ) → suc i ≤ most → Goes i i most (empty_cells n head columns)
empty-goes zero head columns i most h = record { ends = refl; deep = omega (arith, h) }
empty-goes (suc n) head columns i most h =
    empty-by head (first_in name.GfmTableDelimiterCell columns) (empty_cells n head (behind_column columns)) i most h (empty-goes n head (behind_column columns) i most h)

left-goes : (more : ℕ) (m : Mode) (columns : List Event) (k i most : ℕ) → i + room more m k ≤ most → Goes i i most (lacking m columns)
left-goes more (mode.Cells head) columns k i most h = empty-goes 100 head columns i most (omega (arith, h))
left-goes more mode.Flow columns k i most h = record { ends = refl; deep = omega (arith, h) }
left-goes more mode.Tight columns k i most h = record { ends = refl; deep = omega (arith, h) }
left-goes more mode.LooseItems columns k i most h = record { ends = refl; deep = omega (arith, h) }
left-goes more mode.TightItems columns k i most h = record { ends = refl; deep = omega (arith, h) }
left-goes more mode.Heading columns k i most h = record { ends = refl; deep = omega (arith, h) }
left-goes more mode.Table columns k i most h = record { ends = refl; deep = omega (arith, h) }
left-goes more (mode.Rows head) columns k i most h = record { ends = refl; deep = omega (arith, h) }
left-goes more mode.Paragraph columns k i most h = record { ends = refl; deep = omega (arith, h) }
left-goes more mode.Text columns k i most h = record { ends = refl; deep = omega (arith, h) }
left-goes more mode.Nothing columns k i most h = record { ends = refl; deep = omega (arith, h) }

-- HTML of the document opens no element
raw-goes : (allowed : Bool) (k h : List ℕ) (o most : ℕ) (ps : List Piece) → Goes o o most ps → Goes o o most (cond allowed (Kept k) (Text h) ∷ ps)
raw-goes true k h o most ps g = record { ends = g.ends; deep = g.deep }
raw-goes false k h o most ps g = record { ends = g.ends; deep = g.deep }

fresh-goes : (o most : ℕ) (ps : List Piece) → Goes o o most ps → Goes o o most (Fresh ∷ ps)
fresh-goes o most ps g = record { ends = g.ends; deep = g.deep }

module _ (options : CompileOptions) (bytes : List ℕ) (known : Known) (tab more : ℕ) (twice : (place : ℕ) (c : Called) → known.called place ≡ Some c → 1 ≤ more) where
  abbrev the : Mode → (columns : List Event) → Spans → List Piece
  the m columns s = pieces options bytes known tab m columns s

  -- a shape of spans, with what is in it, in these columns
  record Shaped (columns : List Event) (o most : ℕ) (here : Shape) (s : Spans) : Type 0 where
    inner : ℕ
    fits : Fits o inner most here
    inside : Goes inner inner most (the here.inside columns s)

  -- spans whose pieces go so
  module _ (columns : List Event) (s : Spans) (go : (m : Mode) (k i most : ℕ) → nest s ≤ k → i + room more m k ≤ most → Goes i i most (the m columns s)) (o most : ℕ) where
    just : (ps : List Piece) → Goes o o most ps → Shaped columns o most (alone ps) s
    just ps g =
        let below : o ≤ most = let d = g.deep in above o ps most d in
        record { inner = o; fits = record { first = g; last = record { ends = refl; deep = below } }; inside = go mode.Nothing (nest s) o most (omega arith) (omega (arith, below)) }

    none : o ≤ most → Shaped columns o most (alone []) s
    none h = just [] (record { ends = refl; deep = h })

    over : (m : Mode) (k : ℕ) → nest s ≤ k → o + room more m k ≤ most → Shaped columns o most (through m) s
    over m k n h = record { inner = o; fits = through-fits o most m (omega (arith, h)); inside = go m k o most n h }

    in-line : (e : Element) (attributes : List Attribute) (k : ℕ) → nest s ≤ k → suc o + (2 * k + (1 + more)) ≤ most → Shaped columns o most (within_line e attributes) s
    in-line e attributes k n h = record { inner = suc o; fits = within-fits o most e attributes (omega (arith, h)); inside = go mode.Text k (suc o) most n h }

    in-container : (e : Element) (attributes : List Attribute) (m : Mode) (k : ℕ) → nest s ≤ k → suc o + room more m k ≤ most → Shaped columns o most (container e attributes m) s
    in-container e attributes m k n h = record { inner = suc o; fits = container-fits o most e attributes m (omega (arith, h)); inside = go m k (suc o) most n h }

    a-line : (e : Element) (m : Mode) (k : ℕ) → nest s ≤ k → suc o + room more m k ≤ most → Shaped columns o most (line e m) s
    a-line e m k n h = record { inner = suc o; fits = line-fits o most e m (omega (arith, h)); inside = go m k (suc o) most n h }

    a-list : (loose : Bool) (e : Element) (attributes : List Attribute) (k : ℕ) → nest s < k → o + (2 * k + (5 + more)) ≤ most → Shaped columns o most (container e attributes (items loose)) s
    a-list true e attributes k n h = in-container e attributes mode.LooseItems (k - 1) (omega (arith, n)) (omega (arith, n, h))
    a-list false e attributes k n h = in-container e attributes mode.TightItems (k - 1) (omega (arith, n)) (omega (arith, n, h))

    an-item : (tight : Bool) (k : ℕ) → nest s ≤ k → o + (2 * k + (6 + more)) ≤ most → Shaped columns o most (line ListItem (blocks tight)) s
    an-item true k n h = a-line ListItem mode.Tight k n (omega (arith, h))
    an-item false k n h = a-line ListItem mode.Flow k n (omega (arith, h))

    stray-item : (tight : Bool) (k : ℕ) → nest s ≤ k → o + (2 * k + (5 + more)) ≤ most → Shaped columns o most (through (blocks tight)) s
    stray-item true k n h = over mode.Tight k n h
    stray-item false k n h = over mode.Flow k n h

    a-paragraph : (tight : Bool) (k : ℕ) → nest s ≤ k → o + (2 * k + (5 + more)) ≤ most → Shaped columns o most (cond tight (through mode.Paragraph) (line Paragraph mode.Paragraph)) s
    a-paragraph true k n h = over mode.Paragraph k n (omega (arith, h))
    a-paragraph false k n h = a-line Paragraph mode.Paragraph k n (omega (arith, h))

    a-link : (parts : Option Parts) (k : ℕ) → nest s < k → o + (2 * k + (1 + more)) ≤ most → Shaped columns o most (link_to options parts) s
    a-link None k n h = over mode.Text k (omega (arith, n)) h
    a-link (Some parts) k n h = in-line _ _ (k - 1) (omega (arith, n)) (omega (arith, n, h))

    an-image : (alt : List ℕ) (parts : Option Parts) → suc o ≤ most → Shaped columns o most (image_of options alt parts) s
    an-image alt None h = just (Text alt ∷ []) (record { ends = refl; deep = omega (arith, h) })
    an-image alt (Some parts) h = just _ (record { ends = refl; deep = omega (arith, h) })

    a-call : (c : Option Called) → ((d : Called) → c ≡ Some d → 1 ≤ more) → (k : ℕ) → nest s ≤ k → o + (2 * k + (1 + more)) ≤ most → Shaped columns o most (call_shape c) s
    a-call None some k n h = over mode.Text k n h
    a-call (Some c) some k n h = let one = some c refl in just _ (record { ends = omega arith; deep = omega (arith, h, one) })

    -- a box of a task, or what else is written
    boxed : (b checked : Bool) (other : Shape) → suc o ≤ most → Shaped columns o most other s → Shaped columns o most (cond b (check checked) other) s
    boxed true checked other h x = just _ (record { ends = refl; deep = omega (arith, h) })
    boxed false checked other h x = x

    module _ (k : ℕ) (all : nest s ≤ k) where
      a-block : (tight : Bool) (b : Block) (es : List Event) (loose : Bool) (start : Option ℕ) → (grows_block b ≡ true → nest s < k) → o + (2 * k + (5 + more)) ≤ most
          → Shaped columns o most (block_shape options bytes known tab tight b es loose start) s
      a-block tight block.Paragraph es loose start n h = a-paragraph tight k all h
      a-block tight block.HeadingAtx es loose start n h = a-line _ mode.Heading k all (omega (arith, h))
      a-block tight block.HeadingSetext es loose start n h = a-line _ mode.Heading k all (omega (arith, h))
      a-block tight block.HeadingText es loose start n h = none (omega (arith, h))
      a-block tight block.Quote es loose start n h = let less = n refl in in-container BlockQuote [] mode.Flow (k - 1) (omega (arith, less)) (omega (arith, less, h))
      a-block tight block.Bullets es loose start n h = a-list loose UnorderedList [] k (n refl) h
      a-block tight block.Numbers es loose start n h = a-list loose OrderedList _ k (n refl) h
      a-block tight block.Item es loose start n h = stray-item tight k all h
      a-block tight block.Fenced es loose start n h = just _ (record { ends = omega arith; deep = omega (arith, h) })
      a-block tight block.Indented es loose start n h = just _ (record { ends = omega arith; deep = omega (arith, h) })
      a-block tight block.Html es loose start n h = just _ (fresh-goes o most _ (raw-goes options.allow_dangerous_html _ _ o most (Fresh ∷ []) (record { ends = refl; deep = omega (arith, h) })))
      a-block tight block.Rule es loose start n h = just _ (record { ends = refl; deep = omega (arith, h) })
      a-block tight block.Table es loose start n h = in-container Table [] mode.Table k all (omega (arith, h))
      a-block tight block.TableHead es loose start n h = none (omega (arith, h))
      a-block tight block.TableBody es loose start n h = none (omega (arith, h))
      a-block tight block.TableRow es loose start n h = none (omega (arith, h))
      a-block tight block.TableCell es loose start n h = none (omega (arith, h))
      a-block tight block.Other es loose start n h = none (omega (arith, h))

      in-list : (tight : Bool) (b : Block) → o + (2 * k + (6 + more)) ≤ most → Shaped columns o most (item_shape tight b) s
      in-list tight block.Paragraph h = none (omega (arith, h))
      in-list tight block.HeadingAtx h = none (omega (arith, h))
      in-list tight block.HeadingSetext h = none (omega (arith, h))
      in-list tight block.HeadingText h = none (omega (arith, h))
      in-list tight block.Quote h = none (omega (arith, h))
      in-list tight block.Bullets h = none (omega (arith, h))
      in-list tight block.Numbers h = none (omega (arith, h))
      in-list tight block.Item h = an-item tight k all h
      in-list tight block.Fenced h = none (omega (arith, h))
      in-list tight block.Indented h = none (omega (arith, h))
      in-list tight block.Html h = none (omega (arith, h))
      in-list tight block.Rule h = none (omega (arith, h))
      in-list tight block.Table h = none (omega (arith, h))
      in-list tight block.TableHead h = none (omega (arith, h))
      in-list tight block.TableBody h = none (omega (arith, h))
      in-list tight block.TableRow h = none (omega (arith, h))
      in-list tight block.TableCell h = none (omega (arith, h))
      in-list tight block.Other h = none (omega (arith, h))

      in-heading : (b : Block) → o + (2 * k + (1 + more)) ≤ most → Shaped columns o most (heading_shape b) s
      in-heading block.Paragraph h = none (omega (arith, h))
      in-heading block.HeadingAtx h = none (omega (arith, h))
      in-heading block.HeadingSetext h = none (omega (arith, h))
      in-heading block.HeadingText h = over mode.Text k all h
      in-heading block.Quote h = none (omega (arith, h))
      in-heading block.Bullets h = none (omega (arith, h))
      in-heading block.Numbers h = none (omega (arith, h))
      in-heading block.Item h = none (omega (arith, h))
      in-heading block.Fenced h = none (omega (arith, h))
      in-heading block.Indented h = none (omega (arith, h))
      in-heading block.Html h = none (omega (arith, h))
      in-heading block.Rule h = none (omega (arith, h))
      in-heading block.Table h = none (omega (arith, h))
      in-heading block.TableHead h = none (omega (arith, h))
      in-heading block.TableBody h = none (omega (arith, h))
      in-heading block.TableRow h = none (omega (arith, h))
      in-heading block.TableCell h = none (omega (arith, h))
      in-heading block.Other h = none (omega (arith, h))

      -- ---- tables

      a-body : (some : Bool) → o + (2 * k + (4 + more)) ≤ most → Shaped columns o most (cond some (container TableBody [] (mode.Rows false)) (alone [])) s
      a-body true h = in-container TableBody [] (mode.Rows false) k all (omega (arith, h))
      a-body false h = none (omega (arith, h))

      in-table : (b : Block) (es : List Event) → o + (2 * k + (4 + more)) ≤ most → Shaped columns o most (table_shape b es) s
      in-table block.TableHead es h = in-container TableHead [] (mode.Rows true) k all (omega (arith, h))
      in-table block.TableBody es h = a-body (list_any (enters name.GfmTableRow) es) h
      in-table block.Paragraph es h = none (omega (arith, h))
      in-table block.HeadingAtx es h = none (omega (arith, h))
      in-table block.HeadingSetext es h = none (omega (arith, h))
      in-table block.HeadingText es h = none (omega (arith, h))
      in-table block.Quote es h = none (omega (arith, h))
      in-table block.Bullets es h = none (omega (arith, h))
      in-table block.Numbers es h = none (omega (arith, h))
      in-table block.Item es h = none (omega (arith, h))
      in-table block.Fenced es h = none (omega (arith, h))
      in-table block.Indented es h = none (omega (arith, h))
      in-table block.Html es h = none (omega (arith, h))
      in-table block.Rule es h = none (omega (arith, h))
      in-table block.Table es h = none (omega (arith, h))
      in-table block.TableRow es h = none (omega (arith, h))
      in-table block.TableCell es h = none (omega (arith, h))
      in-table block.Other es h = none (omega (arith, h))

      in-rows : (head : Bool) (b : Block) → o + (2 * k + (3 + more)) ≤ most → Shaped columns o most (row_shape head b) s
      in-rows head block.TableRow h = in-container TableRow [] (mode.Cells head) k all (omega (arith, h))
      in-rows head block.Paragraph h = none (omega (arith, h))
      in-rows head block.HeadingAtx h = none (omega (arith, h))
      in-rows head block.HeadingSetext h = none (omega (arith, h))
      in-rows head block.HeadingText h = none (omega (arith, h))
      in-rows head block.Quote h = none (omega (arith, h))
      in-rows head block.Bullets h = none (omega (arith, h))
      in-rows head block.Numbers h = none (omega (arith, h))
      in-rows head block.Item h = none (omega (arith, h))
      in-rows head block.Fenced h = none (omega (arith, h))
      in-rows head block.Indented h = none (omega (arith, h))
      in-rows head block.Html h = none (omega (arith, h))
      in-rows head block.Rule h = none (omega (arith, h))
      in-rows head block.Table h = none (omega (arith, h))
      in-rows head block.TableHead h = none (omega (arith, h))
      in-rows head block.TableBody h = none (omega (arith, h))
      in-rows head block.TableCell h = none (omega (arith, h))
      in-rows head block.Other h = none (omega (arith, h))

      a-cell : (head : Bool) (c : Option (List Event)) → o + (2 * k + (2 + more)) ≤ most
          → Shaped columns o most (elim c as (λ (_ : Option (List Event)). Shape) [ None ↦ alone [] | Some column ↦ cell head (alignment_of column) ]) s
      a-cell head None h = none (omega (arith, h))
      a-cell head (Some column) h =
          record { inner = suc o; fits = cell-fits o most head (alignment_of column) (omega (arith, h)); inside = go mode.Heading k (suc o) most all (omega (arith, h)) }

      in-cells : (head : Bool) (around : List Event) (b : Block) → o + (2 * k + (2 + more)) ≤ most → Shaped columns o most (cell_shape head around b) s
      in-cells head around block.TableCell h = a-cell head (first_in name.GfmTableDelimiterCell around) h
      in-cells head around block.Paragraph h = none (omega (arith, h))
      in-cells head around block.HeadingAtx h = none (omega (arith, h))
      in-cells head around block.HeadingSetext h = none (omega (arith, h))
      in-cells head around block.HeadingText h = none (omega (arith, h))
      in-cells head around block.Quote h = none (omega (arith, h))
      in-cells head around block.Bullets h = none (omega (arith, h))
      in-cells head around block.Numbers h = none (omega (arith, h))
      in-cells head around block.Item h = none (omega (arith, h))
      in-cells head around block.Fenced h = none (omega (arith, h))
      in-cells head around block.Indented h = none (omega (arith, h))
      in-cells head around block.Html h = none (omega (arith, h))
      in-cells head around block.Rule h = none (omega (arith, h))
      in-cells head around block.Table h = none (omega (arith, h))
      in-cells head around block.TableHead h = none (omega (arith, h))
      in-cells head around block.TableBody h = none (omega (arith, h))
      in-cells head around block.TableRow h = none (omega (arith, h))
      in-cells head around block.Other h = none (omega (arith, h))

      -- ---- text

      an-inline : (in_cell : Bool) (i : Inline) (es : List Event) (said alt : List ℕ) → (grows_inline i ≡ true → nest s < k) → o + (2 * k + (1 + more)) ≤ most
          → Shaped columns o most (inline_shape options bytes known tab in_cell i es said alt) s
      an-inline in_cell inline.Ending es said alt n h = just _ (record { ends = refl; deep = omega (arith, h) })
      an-inline in_cell inline.Break es said alt n h = just _ (record { ends = refl; deep = omega (arith, h) })
      an-inline in_cell inline.Emphasis es said alt n h = let less = n refl in in-line _ _ (k - 1) (omega (arith, less)) (omega (arith, less, h))
      an-inline in_cell inline.Strong es said alt n h = let less = n refl in in-line _ _ (k - 1) (omega (arith, less)) (omega (arith, less, h))
      an-inline in_cell inline.Struck es said alt n h = let less = n refl in in-line _ _ (k - 1) (omega (arith, less)) (omega (arith, less, h))
      an-inline in_cell inline.Code es said alt n h = just _ (record { ends = omega arith; deep = omega (arith, h) })
      an-inline in_cell inline.Html es said alt n h = just _ (raw-goes options.allow_dangerous_html _ _ o most [] (record { ends = refl; deep = omega (arith, h) }))
      an-inline in_cell inline.Autolink es said alt n h = just _ (record { ends = omega arith; deep = omega (arith, h) })
      an-inline in_cell inline.Www es said alt n h = just _ (record { ends = omega arith; deep = omega (arith, h) })
      an-inline in_cell inline.Email es said alt n h = just _ (record { ends = omega arith; deep = omega (arith, h) })
      an-inline in_cell inline.Address es said alt n h = just _ (record { ends = omega arith; deep = omega (arith, h) })
      an-inline in_cell inline.Link es said alt n h = a-link (parts_in_link bytes known.lookup es) k (n refl) h
      an-inline in_cell inline.Image es said alt n h = an-image alt (parts_in_link bytes known.lookup es) (omega (arith, h))
      an-inline in_cell inline.Check es said alt n h = none (omega (arith, h))
      an-inline in_cell inline.Call es said alt n h = a-call (known.called (place_of_first es)) (twice (place_of_first es)) k all h
      an-inline in_cell inline.Tail es said alt n h = none (omega (arith, h))
      an-inline in_cell inline.Other es said alt n h =
          let below : o ≤ most = omega (arith, h) in
          record { inner = o; fits = record { first = record { ends = refl; deep = below }; last = record { ends = refl; deep = below } }; inside = go mode.Text k o most all h }

      shaped : (m : Mode) (around : List Event) (n : Name) (es : List Event) (loose : Bool) (start : Option ℕ) (said alt : List ℕ) → (nests n ≡ true → nest s < k) → o + room more m k ≤ most
          → Shaped columns o most (shape_by options bytes known tab m around n es loose start said alt) s
      shaped mode.Flow around n es loose start said alt less h = a-block false (block_of n) es loose start (λ g. less (block-nests n g)) h
      shaped mode.Tight around n es loose start said alt less h = a-block true (block_of n) es loose start (λ g. less (block-nests n g)) h
      shaped mode.LooseItems around n es loose start said alt less h = in-list false (block_of n) h
      shaped mode.TightItems around n es loose start said alt less h = in-list true (block_of n) h
      shaped mode.Heading around n es loose start said alt less h = in-heading (block_of n) h
      shaped mode.Table around n es loose start said alt less h = in-table (block_of n) es h
      shaped (mode.Rows head) around n es loose start said alt less h = in-rows head (block_of n) h
      shaped (mode.Cells head) around n es loose start said alt less h = in-cells head around (block_of n) h
      shaped mode.Paragraph around n es loose start said alt less h =
          boxed (is_check (inline_of n)) (is_checked es) _ (omega (arith, h)) (an-inline (is_in_cell around) (inline_of n) es said alt (λ g. less (inline-nests n g)) h)
      shaped mode.Text around n es loose start said alt less h = an-inline (is_in_cell around) (inline_of n) es said alt (λ g. less (inline-nests n g)) h
      shaped mode.Nothing around n es loose start said alt less h = none (omega (arith, h))

  -- ---- spans

  shaped-span : (m : Mode) (around columns : List Event) (e f : Event) (s : Spans) → ((n : Mode) (k i most : ℕ) → nest s ≤ k → i + room more n k ≤ most → Goes i i most (the n columns s)) → (k o most : ℕ)
      → nest s ≤ k → (nests e.name ≡ true → nest s < k) → o + room more m k ≤ most → Shaped columns o most (shape options bytes known tab m around e f s) s
  shaped-span m around columns e f s go k o most all less h = shaped columns s go o most k all m around e.name _ _ _ _ _ less h

  -- in front of the pieces of spans and behind them as many elements are open, and in them no more than there is room for
  pub stays : (m : Mode) (columns : List Event) (s : Spans) (k o most : ℕ) → nest s ≤ k → o + room more m k ≤ most → Goes o o most (the m columns s)
  stays m columns Nothing k o most h r = left-goes more m columns k o most r
  stays m columns (Span e f s t) k o most h r =
      let up = up-to (nests e.name) (nest s) (nest t) k h in
      let b = block_of e.name in
      let deeper = columns_in b columns (events_of s) in
      let others = columns_behind b columns in
      let here = shape options bytes known tab m columns e f s in
      let x = shaped-span m columns deeper e f s (λ n j i limit. stays n deeper s j i limit) k o most up.all up.less r in
      let inner = x.inner in
      both o inner o most here.opened _ x.fits.first
      (both inner inner o most (the here.inside deeper s) _ x.inside (both inner o o most here.closed (the m others t) x.fits.last (stays m others t k o most up.rest r)))
