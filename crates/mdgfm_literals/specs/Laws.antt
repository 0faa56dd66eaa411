-- Laws of autolink literals: what they are, and what they leave as it was.
use Rattle.std.specs.Prelude.{◌≡◌, ◌≤◌, ◌<◌, ⊤, ℕ, ◌+◌, ◌-◌, ◌*◌, ◌==◌, ◌&&◌, ◌||◌, not, Bool, true, false, cond, List, [], ◌∷◌, ◌++◌, drop, length, map, Option, Some, None}
use Rattle.std.specs.List.{AllByRecursion}
use Rattle.markdown_base.specs.declared.configuration.ParseOptions.{ParseOptions}
use Rattle.markdown_base.specs.declared.event.Event.{Event}
use Rattle.markdown_base.specs.declared.event.Kind.TheVariants.{Enter, Exit}
use Rattle.markdown_base.specs.declared.event.Link.{Link}
use Rattle.markdown_base.specs.declared.event.Name.{Name}
use Rattle.markdown_base.specs.declared.event.Name.TheVariants.{Data, GfmAutolinkLiteralEmail, GfmAutolinkLiteralMailto, GfmAutolinkLiteralProtocol, GfmAutolinkLiteralWww, GfmAutolinkLiteralXmpp}
use Rattle.markdown_base.specs.declared.event.Point.{Point}
use Rattle.markdown_base.specs.Events.{IsBalanced, IsInOrder, is_enter}
use Rattle.mdgfm_literals.specs.declared.texts.Literal.{Literal}
use Rattle.mdgfm_literals.specs.Grammar.{literal_at}
use Rattle.mdgfm_literals.specs.LiteralEvents.{events_with, literal_events}
use Rattle.mdgfm_literals.specs.Literals.{literals_from}
use Rattle.mdgfm_literals.specs.Stretches.{holds_none, is_plain, literals_of}

-- Without the option nothing changes
abbrev pub OffChangesNothing : Type 0
OffChangesNothing = (options : ParseOptions) (bytes : List ℕ) (events : List Event) → options.constructs.gfm_autolink_literal ≡ false
    → literal_events options bytes events ≡ events

-- Without a literal nothing changes
abbrev pub NoLiteralChangesNothing : Type 0
NoLiteralChangesNothing = (options : ParseOptions) (bytes : List ℕ) (events : List Event) → literals_of bytes true 0 0 events ≡ []
    → literal_events options bytes events ≡ events

-- Balanced events stay balanced
abbrev pub BalanceIsKept : Type 0
BalanceIsKept = (options : ParseOptions) (bytes : List ℕ) (events : List Event) → IsBalanced events → IsBalanced (literal_events options bytes events)

-- Events stay in order of place
abbrev pub OrderIsKept : Type 0
OrderIsKept = (options : ParseOptions) (bytes : List ℕ) (events : List Event) → IsInOrder bytes events → IsInOrder bytes (literal_events options bytes events)

-- the bytes of the span that an event enters, if the next event exits it
abbrev pub ended_behind : Event → List Event → List (ℕ × ℕ)
ended_behind e [] = []
ended_behind e (f ∷ events) = cond (is_enter f.kind) [] ((e.point.index, f.point.index) ∷ [])

-- The bytes of the innermost spans of events, each from an index up to another: of those from an enter to an exit directly behind it
abbrev pub innermost_ranges : List Event → List (ℕ × ℕ)
innermost_ranges [] = []
innermost_ranges (e ∷ events) = cond (is_enter e.kind) (ended_behind e events) [] ++ innermost_ranges events

-- Ranges of bytes stand end to end from an index up to another
abbrev pub TileBytes : (from : ℕ) → List (ℕ × ℕ) → (to : ℕ) → Type 0
TileBytes from [] to = from ≡ to
TileBytes from (range ∷ ranges) to = (range.0 ≡ from) × TileBytes range.1 ranges to

-- The innermost spans of balanced events in order, all of them from an index up to another, tile these bytes with literals too, if they did
abbrev pub TilesAreKept : Type 0
TilesAreKept =
    (options : ParseOptions) (bytes : List ℕ) (events : List Event) (from to : ℕ) → IsBalanced events → IsInOrder bytes events
    → AllByRecursion (λ e. (from ≤ e.point.index) × (e.point.index ≤ to)) events → TileBytes from (innermost_ranges events) to
    → TileBytes from (innermost_ranges (literal_events options bytes events)) to

-- Events within the bytes, in order, come to be three times as many at most, and four for each byte
abbrev pub EventsStayFew : Type 0
EventsStayFew =
    (options : ParseOptions) (bytes : List ℕ) (events : List Event) → IsInOrder bytes events → AllByRecursion (λ e. e.point.index ≤ length bytes) events
    → length (literal_events options bytes events) ≤ 3 * length events + 4 * length bytes

-- events begin with no text: there is none, or the first one enters another span
abbrev pub begins_block : List Event → Bool
begins_block [] = true
begins_block (e ∷ events) = is_enter e.kind && not (is_plain e.name)

-- Balanced events, and others behind them that begin with no text, are each for itself what they are together
abbrev pub LiteralsOfBoth : Type 0
LiteralsOfBoth =
    (options : ParseOptions) (bytes : List ℕ) (xs ys : List Event) → IsBalanced xs → IsInOrder bytes (xs ++ ys) → begins_block ys ≡ true
    → literal_events options bytes (xs ++ ys) ≡ literal_events options bytes xs ++ literal_events options bytes ys

-- a place, an event and a literal so many lines and bytes further on. What a link names may change
abbrev pub further_point : (lines bytes : ℕ) → Point → Point
further_point lines bytes p = record { line = p.line + lines; column = p.column; index = p.index + bytes; vs = p.vs }

abbrev pub further_event : (links : Option Link → Option Link) → (lines bytes : ℕ) → Event → Event
further_event links lines bytes e = record { kind = e.kind; name = e.name; point = further_point lines bytes e.point; link = links e.link }

abbrev pub further_literal : (bytes : ℕ) → Literal → Literal
further_literal bytes l = record { from = l.from + bytes; to = l.to + bytes; name = l.name }

-- bytes end with a line ending, or there are none
abbrev pub end_line : List ℕ → Bool
end_line [] = true
end_line (b ∷ []) = (b == 10) || (b == 13)
end_line (b ∷ bs) = end_line bs

-- Behind other lines literals are the same, further on
abbrev pub LiteralsMove : Type 0
LiteralsMove =
    (options : ParseOptions) (lines : ℕ) (before bytes : List ℕ) (links : Option Link → Option Link) (events : List Event) → end_line before ≡ true → links None ≡ None
    → let further = map (further_event links lines (length before)) in
    literal_events options (before ++ bytes) (further events) ≡ further (literal_events options bytes events)

-- Bytes behind those of the events do nothing
abbrev pub BytesBehindDoNothing : Type 0
BytesBehindDoNothing =
    (options : ParseOptions) (bytes behind : List ℕ) (events : List Event) → AllByRecursion (λ e. e.point.index ≤ length bytes) events
    → literal_events options (bytes ++ behind) events ≡ literal_events options bytes events

-- So literals of a document are those of its parts: of balanced events in lines, and of events behind them that begin with no text
abbrev pub LiteralsOfParts : Type 0
LiteralsOfParts =
    (options : ParseOptions) (lines : ℕ) (before bytes : List ℕ) (links : Option Link → Option Link) (xs ys : List Event)
    → let further = map (further_event links lines (length before)) in
    end_line before ≡ true → links None ≡ None → IsBalanced xs → AllByRecursion (λ e. e.point.index ≤ length before) xs → begins_block ys ≡ true
    → IsInOrder (before ++ bytes) (xs ++ further ys)
    → literal_events options (before ++ bytes) (xs ++ further ys) ≡ literal_events options before xs ++ further (literal_events options bytes ys)

-- In a link, and in each other span that holds no literal, nothing changes, and no literal is found
abbrev pub LinksStay : Type 0
LinksStay = (tab : ℕ) (bytes : List ℕ) (e f : Event) (xs zs : List Event) → e.kind ≡ Enter → f.kind ≡ Exit → f.name ≡ e.name → holds_none e.name ≡ true → IsBalanced xs
    → ((place : Point) (ls : List Literal) → events_with tab bytes 0 0 place ls (e ∷ (xs ++ f ∷ zs)) ≡ e ∷ (xs ++ f ∷ events_with tab bytes 0 0 place ls zs))
    × ((fresh : Bool) → (after : Bool) × (literals_of bytes fresh 0 0 (e ∷ (xs ++ f ∷ zs)) ≡ literals_of bytes after 0 0 zs))

-- Each literal of a text that begins at an index is one at its place, behind some byte or none; and it begins where the one before it ended, or behind that
abbrev pub AreLiterals : (start : ℕ) → (text : List ℕ) → (end : ℕ) → List Literal → Type 0
AreLiterals start text end [] = ⊤
AreLiterals start text end (l ∷ ls) =
    (end ≤ l.from) × (l.from < l.to)
    × ((before : Option ℕ) × (literal_at before (drop (l.from - start) text) ≡ Some (record { size = l.to - l.from; name = l.name })))
    × AreLiterals start text l.to ls

abbrev pub LiteralsAreLiterals : Type 0
LiteralsAreLiterals = (before : Option ℕ) (start : ℕ) (text : List ℕ) → AreLiterals start text start (literals_from 0 before start text)

-- the names of literals
abbrev pub literal_names : List Name
literal_names =
    GfmAutolinkLiteralEmail ∷ GfmAutolinkLiteralMailto ∷ GfmAutolinkLiteralProtocol ∷ GfmAutolinkLiteralWww ∷ GfmAutolinkLiteralXmpp ∷ []

-- A test of names that all events pass, and data and literals, is passed by all events with literals: there are no other new names
abbrev pub NamesAreKept : Type 0
NamesAreKept = (test : Name → Bool) (options : ParseOptions) (bytes : List ℕ) (events : List Event)
    → AllByRecursion (λ n. test n ≡ true) (Data ∷ literal_names) → AllByRecursion (λ e. test e.name ≡ true) events
    → AllByRecursion (λ e. test e.name ≡ true) (literal_events options bytes events)
