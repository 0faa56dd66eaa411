-- What is written of spans without the footnote definitions among them, and of these definitions, is together no longer than the spans have room for.
use Rattle.std.proofs.Common.{◌≡◌, ℕ, ◌+◌, ◌*◌, ◌≤◌, List, [], ◌∷◌, ◌++◌, length, ap, sym, refl, subst, append_assoc, arith, Option}
use Rattle.std.proofs.lemmas.Bool.{and_from, and_parts, false≢true}
use Rattle.std.proofs.lemmas.List.{length-append}
use Rattle.std.specs.List.{flat_map}
use Rattle.std.specs.Prelude.{◌&&◌, ◌||◌, not, Bool, true, false, cond}
use Rattle.markdown_base.specs.declared.configuration.CompileOptions.{CompileOptions}
use Rattle.markdown_base.specs.declared.event.Event.{Event}
use Rattle.markdown_base.specs.declared.event.Name.{Name}
use Rattle.markdown_base.specs.declared.event.Name.TheVariants as name
use Rattle.markdown_base.specs.Events.{same_name}
use Rattle.markdown_base.proofs.Balanced.{same_name-true}
use Rattle.mdblock_containers.specs.Lists.{is_loose, list_start}
use Rattle.mdhtml_document.specs.declared.names.Inline.TheVariants as inline
use Rattle.mdhtml_document.specs.declared.shapes.Mode.{Mode}
use Rattle.mdhtml_document.specs.declared.shapes.Mode.TheVariants as mode
use Rattle.mdhtml_document.specs.Html.{Known, Shape, block_shape, blocks, columns_in, item_shape, items, ordered, pieces, referred, references, shape, shape_by}
use Rattle.mdhtml_document.specs.HtmlLaws.{AreBrief, are_apart, has_links, is_linked, length_of_parts, room, rows}
use Rattle.mdhtml_document.specs.Names.{block_of, inline_of}
use Rattle.mdhtml_document.specs.Notes.{is_container, is_note, label_in, notes_in, own}
use Rattle.mdhtml_document.specs.Spans.{Nothing, Span, Spans, events_of}
use Rattle.mdhtml_document.proofs.Rooms.{room-append}
use Rattle.mdhtml_document.proofs.Short.{apart, calls_room}
use Rattle.mdhtml_document.proofs.ShortShapes.{container-short, left-short, line-short, longs, longs-append, longs-span, spare, start-short, tag-long}
use Rattle.mdhtml_markup.specs.declared.elements.Element.TheVariants.{BlockQuote, ListItem, OrderedList, UnorderedList}
use Rattle.mdhtml_markup.specs.Pieces.{Piece, attribute}

-- what blocks are written in, as far as containers go
abbrev pub is_of_blocks : Mode → Bool
is_of_blocks mode.Flow = true
is_of_blocks mode.Tight = true
is_of_blocks mode.LooseItems = true
is_of_blocks mode.TightItems = true
is_of_blocks mode.Nothing = true
is_of_blocks _ = false

none-spare : (m : Mode) → is_of_blocks m ≡ true → spare m ≡ 0
none-spare mode.Flow h = refl
none-spare mode.Tight h = refl
none-spare mode.LooseItems h = refl
none-spare mode.TightItems h = refl
none-spare mode.Heading h = refl
none-spare mode.Table h = refl
none-spare (mode.Rows head) h = refl
none-spare (mode.Cells head) h = absurd (false≢true h)
none-spare mode.Paragraph h = refl
none-spare mode.Text h = refl
none-spare mode.Nothing h = refl

record IsSmall (here : Shape) : Type 0 where
  tags : longs here.opened + longs here.closed ≤ 48
  inside : is_of_blocks here.inside ≡ true

items-are : (loose : Bool) → is_of_blocks (items loose) ≡ true
items-are true = refl
items-are false = refl

blocks-are : (tight : Bool) → is_of_blocks (blocks tight) ≡ true
blocks-are true = refl
blocks-are false = refl

-- ---- names

-- a name of containers
data IsContainer (n : Name) : Type 0 where
  quote : n ≡ name.BlockQuote → IsContainer n
  item : n ≡ name.ListItem → IsContainer n
  numbers : n ≡ name.ListOrdered → IsContainer n
  bullets : n ≡ name.ListUnordered → IsContainer n

container-is : (n : Name) → is_container n ≡ true → IsContainer n
container-is n h = first (same_name name.BlockQuote n) (same_name name.ListItem n) (same_name name.ListOrdered n) (same_name name.ListUnordered n) refl refl refl refl h
  where
    first : (a b c d : Bool) → same_name name.BlockQuote n ≡ a → same_name name.ListItem n ≡ b → same_name name.ListOrdered n ≡ c → same_name name.ListUnordered n ≡ d
        → (a || (b || (c || (d || false)))) ≡ true → IsContainer n
    first true b c d ae be ce de h = quote (sym (same_name-true name.BlockQuote n ae))
    first false true c d ae be ce de h = item (sym (same_name-true name.ListItem n be))
    first false false true d ae be ce de h = numbers (sym (same_name-true name.ListOrdered n ce))
    first false false false true ae be ce de h = bullets (sym (same_name-true name.ListUnordered n de))
    first false false false false ae be ce de h = absurd (false≢true h)

container-other : (n : Name) → IsContainer n → inline_of n ≡ inline.Other
container-other n (quote h) = ap inline_of h
container-other n (item h) = ap inline_of h
container-other n (numbers h) = ap inline_of h
container-other n (bullets h) = ap inline_of h

note-other : (n : Name) → is_note n ≡ true → inline_of n ≡ inline.Other
note-other n h = ap inline_of (same_name-true n name.GfmFootnoteDefinition h)

container-columns : (n : Name) → IsContainer n → (inner : List Event) → columns_in (block_of n) [] inner ≡ []
container-columns n (quote h) inner = ap (λ x. columns_in (block_of x) [] inner) h
container-columns n (item h) inner = ap (λ x. columns_in (block_of x) [] inner) h
container-columns n (numbers h) inner = ap (λ x. columns_in (block_of x) [] inner) h
container-columns n (bullets h) inner = ap (λ x. columns_in (block_of x) [] inner) h

module _ (options : CompileOptions) (bytes : List ℕ) (known : Known) (tab : ℕ) where
  abbrev the : Mode → Spans → List Piece
  the m s = pieces options bytes known tab m [] s

  -- ---- containers

  module _ (es : List Event) (loose : Bool) (start : Option ℕ) (few : length (flat_map attribute (ordered start)) ≤ 18) where
    in-blocks : (tight : Bool) (n : Name) → IsContainer n → IsSmall (block_shape options bytes known tab tight (block_of n) es loose start)
    in-blocks tight n (quote h) =
        subst (λ x. IsSmall (block_shape options bytes known tab tight (block_of x) es loose start)) (sym h)
        (record { tags = container-short BlockQuote [] mode.Flow (omega arith) (omega arith); inside = refl })
    in-blocks tight n (item h) =
        subst (λ x. IsSmall (block_shape options bytes known tab tight (block_of x) es loose start)) (sym h) (record { tags = omega arith; inside = blocks-are tight })
    in-blocks tight n (numbers h) =
        subst (λ x. IsSmall (block_shape options bytes known tab tight (block_of x) es loose start)) (sym h)
        (let tag = tag-long OrderedList (flat_map attribute (ordered start)) in
        record { tags = container-short OrderedList (ordered start) (items loose) (omega (arith, tag, few)) (omega arith); inside = items-are loose })
    in-blocks tight n (bullets h) =
        subst (λ x. IsSmall (block_shape options bytes known tab tight (block_of x) es loose start)) (sym h)
        (record { tags = container-short UnorderedList [] (items loose) (omega arith) (omega arith); inside = items-are loose })

    in-list : (tight : Bool) (n : Name) → IsContainer n → IsSmall (item_shape tight (block_of n))
    in-list tight n (quote h) = subst (λ x. IsSmall (item_shape tight (block_of x))) (sym h) (record { tags = omega arith; inside = refl })
    in-list tight n (item h) =
        subst (λ x. IsSmall (item_shape tight (block_of x))) (sym h) (record { tags = line-short ListItem (blocks tight) (omega arith) (omega arith); inside = blocks-are tight })
    in-list tight n (numbers h) = subst (λ x. IsSmall (item_shape tight (block_of x))) (sym h) (record { tags = omega arith; inside = refl })
    in-list tight n (bullets h) = subst (λ x. IsSmall (item_shape tight (block_of x))) (sym h) (record { tags = omega arith; inside = refl })

    container-small : (m : Mode) → is_of_blocks m ≡ true → (n : Name) → IsContainer n → (said alt : List ℕ) → IsSmall (shape_by options bytes known tab m [] n es loose start said alt)
    container-small mode.Flow b n c said alt = in-blocks false n c
    container-small mode.Tight b n c said alt = in-blocks true n c
    container-small mode.LooseItems b n c said alt = in-list false n c
    container-small mode.TightItems b n c said alt = in-list true n c
    container-small mode.Nothing b n c said alt = record { tags = omega arith; inside = refl }
    container-small mode.Heading b n c said alt = absurd (false≢true b)
    container-small mode.Table b n c said alt = absurd (false≢true b)
    container-small (mode.Rows head) b n c said alt = absurd (false≢true b)
    container-small (mode.Cells head) b n c said alt = absurd (false≢true b)
    container-small mode.Paragraph b n c said alt = absurd (false≢true b)
    container-small mode.Text b n c said alt = absurd (false≢true b)

  -- what is written of definitions: their blocks, and so much around these
  abbrev pub total : List (List ℕ × Spans) → ℕ
  total [] = 0
  total (n ∷ ns) = (longs (the mode.Flow n.1) + 48) + total ns

  total-append : (ms ns : List (List ℕ × Spans)) → total (ms ++ ns) ≡ total ms + total ns
  total-append [] ns = omega arith
  total-append (m ∷ ms) ns = let h = total-append ms ns in omega (arith, h)

  module _ (digits : ℕ) (brief : AreBrief digits known) where
    abbrev size : (label : List ℕ) → ℕ
    size label = length_of_parts (known.lookup label)

    abbrev the_calls : Spans → ℕ
    the_calls s = calls_room options bytes known tab digits brief s

    -- how long what is written of spans may be
    abbrev pub weight : Spans → ℕ
    weight s = ((36 * room tab (events_of s) + 24 * length (events_of s)) + 9 * (references bytes size s + the_calls s)) + 2500 * rows s

    weight-split : (e f : Event) (s behind : Spans) → weight (Span e f s Nothing) + weight behind ≤ weight (Span e f s behind)
    weight-split e f s behind =
        let es = events_of s in
        let ys = events_of behind in
        let xs = e ∷ (es ++ f ∷ []) in
        let same : xs ++ ys ≡ e ∷ (es ++ f ∷ ys) = ap (λ (l : List Event). e ∷ l) (append_assoc es (f ∷ []) ys) in
        let rooms : room tab xs + room tab ys ≤ room tab (e ∷ (es ++ f ∷ ys)) = subst (λ l. room tab xs + room tab ys ≤ room tab l) same (room-append tab xs ys) in
        let one = length-append es (f ∷ []) in
        let all = length-append es (f ∷ ys) in
        omega (arith, rooms, one, all)

    weight-parts : (e f : Event) (s behind : Spans) → inline_of e.name ≡ inline.Other → (weight s + weight behind) + 48 ≤ weight (Span e f s behind)
    weight-parts e f s behind other =
        let es = events_of s in
        let ys = events_of behind in
        let rooms = room-append tab es (f ∷ ys) in
        let all = length-append es (f ∷ ys) in
        let more : references bytes size s ≤ referred bytes size (inline_of e.name) es (references bytes size s) =
        subst (λ j. references bytes size s ≤ referred bytes size j es (references bytes size s)) (sym other) (omega arith)
        in
        omega (arith, rooms, all, more)

    -- the bound of spans, in modes of blocks
    abbrev IsBelow : Spans → Type 0
    IsBelow s = (m : Mode) → is_of_blocks m ≡ true → longs (the m (own s)) + total (notes_in bytes s) ≤ weight s

    own-by : (e f : Event) (s behind : Spans) (m : Mode) → is_of_blocks m ≡ true → are_apart (Span e f s Nothing) ≡ true → IsBelow s → IsBelow behind → (c d : Bool) → is_note e.name ≡ c
        → is_container e.name ≡ d
        → longs (the m (cond c (own behind) (Span e f (cond d (own s) s) (own behind))))
        + total (cond c (notes_in bytes s ++ (label_in bytes (events_of s), own s) ∷ notes_in bytes behind) (cond d (notes_in bytes s) [] ++ notes_in bytes behind))
        ≤ weight (Span e f s behind)
    own-by e f s behind m b one inside others true d ce de =
        let inner = inside mode.Flow refl in
        let rest = others m b in
        let all = total-append (notes_in bytes s) ((label_in bytes (events_of s), own s) ∷ notes_in bytes behind) in
        let parts = weight-parts e f s behind (note-other e.name ce) in
        omega (arith, inner, rest, all, parts)
    own-by e f s behind m b one inside others false true ce de =
        let c = container-is e.name de in
        let es = events_of (own s) in
        let here = shape options bytes known tab m [] e f (own s) in
        let small : IsSmall here = container-small es (is_loose es) (list_start bytes es) (start-short bytes es) m b e.name c _ _ in
        let tags = small.tags in
        let inner = inside here.inside small.inside in
        let rest = others m b in
        let ps = pieces options bytes known tab here.inside (columns_in (block_of e.name) [] es) (own s) in
        let columns : longs ps ≡ longs (the here.inside (own s)) = ap (λ (l : List Event). longs (pieces options bytes known tab here.inside l (own s))) (container-columns e.name c es) in
        let all = longs-span here ps (the m (own behind)) in
        let notes = total-append (notes_in bytes s) (notes_in bytes behind) in
        let parts = weight-parts e f s behind (container-other e.name c) in
        omega (arith, tags, inner, rest, columns, all, notes, parts)
    own-by e f s behind m b one inside others false false ce de =
        let here = shape options bytes known tab m [] e f s in
        let ps = pieces options bytes known tab here.inside (columns_in (block_of e.name) [] (events_of s)) s in
        let first = apart options bytes known tab digits brief m [] (Span e f s Nothing) one in
        let rest = others m b in
        let zero = none-spare m b in
        let alone = longs-span here ps (the m Nothing) in
        let all = longs-span here ps (the m (own behind)) in
        let split = weight-split e f s behind in
        omega (arith, first, rest, zero, alone, all, split)

    pub own-short : (s : Spans) → are_apart s ≡ true → IsBelow s
    own-short Nothing h m b =
        let none = left-short m [] in
        let zero = none-spare m b in
        omega (arith, none, zero)
    own-short (Span e f s behind) h m b =
        let linked = not (is_linked (inline_of e.name) (has_links s)) in
        let parts = and_parts linked (are_apart s && are_apart behind) h in
        let both = and_parts (are_apart s) (are_apart behind) parts.1 in
        let one = and_from linked (are_apart s && true) parts.0 (and_from (are_apart s) true both.0 refl) in
        own-by e f s behind m b one (own-short s both.0) (own-short behind both.1) (is_note e.name) (is_container e.name) refl refl
