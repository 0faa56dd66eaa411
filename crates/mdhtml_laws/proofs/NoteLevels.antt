-- How many elements are open in the section of footnotes, by how many spans that nest are in one another.
use Rattle.std.proofs.Common.{ℕ, zero, suc, ◌+◌, ◌*◌, ◌≤◌, ◌++◌, Bool, true, false, cond, List, [], ◌∷◌, refl, arith}
use Rattle.std.specs.List.{AllByRecursion}
use Rattle.std.specs.Option.{option_map_or}
use Rattle.std.specs.Prelude.{◌==◌, ◌&&◌, max, not, bytes_eq, codes}
use Rattle.markdown_base.proofs.Common.{every-append}
use Rattle.markdown_base.specs.declared.configuration.CompileOptions.{CompileOptions}
use Rattle.markdown_base.specs.declared.event.Event.{Event}
use Rattle.mdhtml_depth.specs.Depth.{nests}
use Rattle.mdhtml_document.specs.declared.shapes.Mode.TheVariants as mode
use Rattle.mdhtml_document.specs.Html.{Known, has_block, is_paragraph, note_blocks, note_pieces, notes_from, pieces, section_by}
use Rattle.mdhtml_document.specs.Names.{block_of}
use Rattle.mdhtml_document.specs.Notes.{back_link, back_links, back_links_from, is_container, is_note, label_in, last_call, note_of, notes_in, notes_of, own, repeated}
use Rattle.mdhtml_document.specs.Spans.{Nothing, Span, Spans, events_of}
use Rattle.mdhtml_markup.specs.declared.elements.Element.TheVariants.{Anchor, ListItem, OrderedList, Paragraph, Section}
use Rattle.mdhtml_markup.specs.Pieces.{Close, Feed, Fresh, Open, Piece, Text}
use Rattle.mdhtml_laws.proofs.Levels.{Goes, both, nest, stays, up-to}

-- ---- definitions

nest-less : (c : Bool) (i j m n : ℕ) → i ≤ j → m ≤ n → max (cond c (suc i) i) m ≤ max (cond c (suc j) j) n
nest-less true i j m n h k = omega (arith, h, k)
nest-less false i j m n h k = omega (arith, h, k)

own-by : (note : Bool) (e f : Event) (t b s behind : Spans) → nest t ≤ nest s → nest b ≤ nest behind → nest (cond note b (Span e f t b)) ≤ nest (Span e f s behind)
own-by true e f t b s behind h k = omega (arith, k)
own-by false e f t b s behind h k = nest-less (nests e.name) (nest t) (nest s) (nest b) (nest behind) h k

kept-by : (c : Bool) (s : Spans) → nest (own s) ≤ nest s → nest (cond c (own s) s) ≤ nest s
kept-by true s h = h
kept-by false s h = omega arith

-- without the definitions among them spans nest no deeper
nest-own : (s : Spans) → nest (own s) ≤ nest s
nest-own Nothing = omega arith
nest-own (Span e f s behind) =
    own-by (is_note e.name) e f (cond (is_container e.name) (own s) s) (own behind) s behind (kept-by (is_container e.name) s (nest-own s)) (nest-own behind)

-- the spans in definitions nest no deeper than this
abbrev pub AreUpTo : (k : ℕ) → List (List ℕ × Spans) → Type 0
AreUpTo k ns = AllByRecursion (λ (n : List ℕ × Spans). nest n.1 ≤ k) ns

either-up-to : (k : ℕ) (c : Bool) (ms ns : List (List ℕ × Spans)) → AreUpTo k ms → AreUpTo k ns → AreUpTo k (cond c ms ns)
either-up-to k true ms ns h g = h
either-up-to k false ms ns h g = g

own-up-to : (k : ℕ) (s : Spans) → nest s ≤ k → nest (own s) ≤ k
own-up-to k s h = let less = nest-own s in omega (arith, less, h)

pub notes-up-to : (bytes : List ℕ) (k : ℕ) (s : Spans) → nest s ≤ k → AreUpTo k (notes_in bytes s)
notes-up-to bytes k Nothing h = tt
notes-up-to bytes k (Span e f s behind) h =
    let up = up-to (nests e.name) (nest s) (nest behind) k h in
    let inner = notes-up-to bytes k s up.all in
    let rest = notes-up-to bytes k behind up.rest in
    either-up-to k (is_note e.name) (notes_in bytes s ++ (label_in bytes (events_of s), own s) ∷ notes_in bytes behind) (cond (is_container e.name) (notes_in bytes s) [] ++ notes_in bytes behind)
    (every-append (λ (n : List ℕ × Spans). nest n.1 ≤ k) (notes_in bytes s) ((label_in bytes (events_of s), own s) ∷ notes_in bytes behind) inner (own-up-to k s up.all, rest))
    (every-append (λ (n : List ℕ × Spans). nest n.1 ≤ k) (cond (is_container e.name) (notes_in bytes s) []) (notes_in bytes behind) (either-up-to k (is_container e.name) (notes_in bytes s) [] inner tt) rest)

note-by : (k : ℕ) (c : Bool) (s t : Spans) → nest s ≤ k → nest t ≤ k → nest (cond c s t) ≤ k
note-by k true s t h g = h
note-by k false s t h g = g

note-up-to : (k : ℕ) (label : List ℕ) (ns : List (List ℕ × Spans)) → AreUpTo k ns → nest (note_of label ns) ≤ k
note-up-to k label [] h = omega arith
note-up-to k label (n ∷ ns) h = note-by k (bytes_eq label n.0) n.1 (note_of label ns) h.0 (note-up-to k label ns h.1)

-- ---- links back

repeated-goes : (one : Bool) (ps : List Piece) (o most : ℕ) → Goes o o most ps → o ≤ most → Goes o o most (cond one [] ps)
repeated-goes true ps o most g h = record { ends = refl; deep = h }
repeated-goes false ps o most g h = g

link-goes : (number repeat o most : ℕ) → o + 2 ≤ most → Goes o o most (back_link number repeat)
link-goes number repeat o most h =
    let inner = repeated-goes (repeat == 1) _ (suc o) most (record { ends = omega arith; deep = omega (arith, h) }) (omega (arith, h)) in
    let all = both (suc o) (suc o) o most (repeated repeat) (Close Anchor ∷ []) inner (record { ends = omega arith; deep = omega (arith, h) }) in
    let d = all.deep in
    record { ends = all.ends; deep = omega (arith, d, h) }

space-goes : (first : Bool) (o most : ℕ) → o ≤ most → Goes o o most (cond first [] (Text (codes " ") ∷ []))
space-goes true o most h = record { ends = refl; deep = h }
space-goes false o most h = record { ends = refl; deep = h }

links-go : (number first many o most : ℕ) → o + 2 ≤ most → Goes o o most (back_links_from number first many)
links-go number first zero o most h = record { ends = refl; deep = omega (arith, h) }
links-go number first (suc many) o most h =
    both o o o most (cond (first == 1) [] (Text (codes " ") ∷ [])) (back_link number first ++ back_links_from number (suc first) many) (space-goes (first == 1) o most (omega (arith, h)))
    (both o o o most (back_link number first) (back_links_from number (suc first) many) (link-goes number first o most h) (links-go number (suc first) many o most h))

module _ (options : CompileOptions) (bytes : List ℕ) (known : Known) (tab k : ℕ) where
  -- ---- notes

  either : (c : Bool) (o most : ℕ) (xs ys : List Piece) → Goes o o most xs → Goes o o most ys → Goes o o most (cond c xs ys)
  either true o most xs ys h g = h
  either false o most xs ys h g = g

  last-goes : (backs : List Piece) (s : Spans) (o most : ℕ) → nest s ≤ k → o + (2 * k + 6) ≤ most → ((i : ℕ) → i + 2 ≤ most → Goes i i most backs)
      → Goes o o most (Fresh ∷ Open Paragraph [] ∷ (pieces options bytes known tab mode.Paragraph [] s ++ Text (codes " ") ∷ (backs ++ Close Paragraph ∷ Feed ∷ [])))
  last-goes backs s o most h r back =
      let inner = pieces options bytes known tab mode.Paragraph [] s in
      let end = both (suc o) (suc o) o most backs (Close Paragraph ∷ Feed ∷ []) (back (suc o) (omega (arith, r))) (record { ends = omega arith; deep = omega (arith, r) }) in
      let all =
      both (suc o) (suc o) o most inner (Text (codes " ") ∷ (backs ++ Close Paragraph ∷ Feed ∷ [])) (stays options bytes known tab 1 (λ place c is. omega arith) mode.Paragraph [] s k (suc o) most h (omega (arith, r)))
      (record { ends = end.ends; deep = end.deep })
      in
      let d = all.deep in
      record { ends = all.ends; deep = omega (arith, d, r) }

  blocks-go : (backs : List Piece) (s : Spans) (o most : ℕ) → nest s ≤ k → o + (2 * k + 6) ≤ most → ((i : ℕ) → i + 2 ≤ most → Goes i i most backs)
      → Goes o o most (note_blocks options bytes known tab backs s)
  blocks-go backs Nothing o most h r back =
      let all = both o o o most backs (Feed ∷ []) (back o (omega (arith, r))) (record { ends = refl; deep = omega (arith, r) }) in
      record { ends = all.ends; deep = all.deep }
  blocks-go backs (Span e f s behind) o most h r back =
      let up = up-to (nests e.name) (nest s) (nest behind) k h in
      let first : nest (Span e f s Nothing) ≤ k = omega (arith, h) in
      either (is_paragraph (block_of e.name) && not (has_block behind)) o most _ _ (last-goes backs s o most up.all r back)
      (both o o o most (pieces options bytes known tab mode.Flow [] (Span e f s Nothing)) (note_blocks options bytes known tab backs behind)
      (stays options bytes known tab 1 (λ place c is. omega arith) mode.Flow [] (Span e f s Nothing) k o most first (omega (arith, r))) (blocks-go backs behind o most up.rest r back))

  note-goes : (definitions : List (List ℕ × Spans)) (called : List (List ℕ)) (number : ℕ) (label : List ℕ) (o most : ℕ) → AreUpTo k definitions → suc o + (2 * k + 6) ≤ most
      → Goes o o most (note_pieces options bytes known tab definitions called number label)
  note-goes definitions called number l o most h r =
      let many = option_map_or (λ c. c.repeat) (last_call l called) 0 in
      let blocks = blocks-go (back_links number many) (note_of l definitions) (suc o) most (note-up-to k l definitions h) r (λ i few. links-go number 1 many i most few) in
      let all =
      both (suc o) (suc o) o most (note_blocks options bytes known tab (back_links number many) (note_of l definitions)) (Close ListItem ∷ Feed ∷ []) blocks
      (record { ends = omega arith; deep = omega (arith, r) })
      in
      let e = all.deep in
      record { ends = all.ends; deep = omega (arith, e, r) }

  notes-go : (definitions : List (List ℕ × Spans)) (called : List (List ℕ)) (number : ℕ) (labels : List (List ℕ)) (o most : ℕ) → AreUpTo k definitions → suc o + (2 * k + 6) ≤ most
      → Goes o o most (notes_from options bytes known tab definitions called number labels)
  notes-go definitions called number [] o most h r = record { ends = refl; deep = omega (arith, r) }
  notes-go definitions called number (l ∷ ls) o most h r =
      both o o o most (note_pieces options bytes known tab definitions called number l) (notes_from options bytes known tab definitions called (suc number) ls)
      (note-goes definitions called number l o most h r) (notes-go definitions called (suc number) ls o most h r)

  pub section-goes : (o most : ℕ) → o + (2 * k + 9) ≤ most → (definitions : List (List ℕ × Spans)) → AreUpTo k definitions → (called : List (List ℕ))
      → Goes o o most (section_by options bytes known tab definitions called)
  section-goes o most r definitions h [] = record { ends = refl; deep = omega (arith, r) }
  section-goes o most r definitions h (l ∷ ls) =
      let notes = notes_from options bytes known tab definitions (l ∷ ls) 1 (notes_of (l ∷ ls)) in
      let all =
      both (suc (suc o)) (suc (suc o)) o most notes (Close OrderedList ∷ Feed ∷ Close Section ∷ Feed ∷ [])
      (notes-go definitions (l ∷ ls) 1 (notes_of (l ∷ ls)) (suc (suc o)) most h (omega (arith, r))) (record { ends = omega arith; deep = omega (arith, r) })
      in
      let d = all.deep in
      record { ends = all.ends; deep = omega (arith, d, r) }
