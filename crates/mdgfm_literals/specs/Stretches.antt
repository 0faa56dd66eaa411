-- Which bytes are searched for literals: stretches of text. A stretch is spans of data, character references and character escapes, of
-- which each begins where the one before it ends, in no span that holds no literal. Its bytes are those of the document between its ends.
use Rattle.std.specs.Prelude.{ℕ, zero, suc, ◌+◌, ◌-◌, ◌==◌, ◌&&◌, ◌||◌, Bool, false, cond, List, [], ◌∷◌, ◌++◌, slice_get, slice_range, Option, None}
use Rattle.std.specs.List.{list_any}
use Rattle.markdown_base.specs.declared.event.Event.{Event}
use Rattle.markdown_base.specs.declared.event.Name.{Name}
use Rattle.markdown_base.specs.declared.event.Name.TheVariants.{BlockQuotePrefix, CharacterEscape, CharacterReference, CodeFencedFence, Data, Definition, GfmFootnoteCall, GfmFootnoteDefinitionPrefix, Image, LineEnding, Link, Reference, Resource, SpaceOrTab}
use Rattle.markdown_base.specs.Events.{is_enter, same_name}
use Rattle.mdgfm_events.specs.Spans.{span_end, span_size}
use Rattle.mdgfm_literals.specs.declared.stretches.Reach.{Reach}
use Rattle.mdgfm_literals.specs.declared.texts.Literal.{Literal}
use Rattle.mdgfm_literals.specs.Literals.{literals_from}

abbrev pub is_among : List Name → Name → Bool
is_among names n = list_any (λ m. same_name n m) names

-- a span of text
abbrev pub is_plain : Name → Bool
is_plain = is_among (Data ∷ CharacterReference ∷ CharacterEscape ∷ [])

-- no literal is in such a span: a link, or what is not shown as text
abbrev pub holds_none : Name → Bool
holds_none = is_among (Link ∷ Image ∷ Definition ∷ CodeFencedFence ∷ Resource ∷ Reference ∷ GfmFootnoteCall ∷ GfmFootnoteDefinitionPrefix ∷ [])

-- a line of a text begins behind such a span
abbrev pub begins_line : Name → Bool
begins_line = is_among (LineEnding ∷ SpaceOrTab ∷ BlockQuotePrefix ∷ [])

-- an event enters a span of text, in so many spans that hold no literal
abbrev pub is_text : (depth : ℕ) → Event → Bool
is_text depth e = (depth == 0) && (is_enter e.kind && is_plain e.name)

-- in how many spans that hold no literal is what is behind an event
abbrev pub depth_behind : (depth : ℕ) → Event → ℕ
depth_behind depth e = cond (holds_none e.name) (cond (is_enter e.kind) (depth + 1) (depth - 1)) depth

-- a line or a text begins behind an event
abbrev pub is_fresh : Event → Bool
is_fresh e = is_enter e.kind || begins_line e.name

abbrev pub one_more : Reach → Reach
one_more r = record r { size = r.size + 1 }

-- How far a stretch reaches that has come to an index: how many events go on with it, behind the first `skip`, and the index of its end
abbrev pub reach : (skip stop : ℕ) → List Event → Reach
reach skip stop [] = record { size = 0; stop = stop }
reach (suc skip) stop (e ∷ es) = one_more (reach skip stop es)
reach zero stop (e ∷ es) =
    let more = one_more (reach (span_size 0 es) (span_end e.point 0 es).index es) in
    cond (is_text 0 e && (e.point.index == stop)) more (record { size = 0; stop = stop })

-- the byte before an index, if there is one
abbrev pub byte_before : List ℕ → (at : ℕ) → Option ℕ
byte_before bytes zero = None
byte_before bytes (suc at) = slice_get bytes at

-- what comes before a stretch: nothing, where a line or a text begins
abbrev pub before_stretch : List ℕ → (fresh : Bool) → (at : ℕ) → Option ℕ
before_stretch bytes fresh at = cond fresh None (byte_before bytes at)

-- the literals of the bytes from an index up to another
abbrev pub literals_between : List ℕ → (fresh : Bool) → (from to : ℕ) → List Literal
literals_between bytes fresh from to = literals_from 0 (before_stretch bytes fresh from) from (slice_range bytes from to)

-- The literals of all stretches of these events, behind the first `skip`. `fresh`: a line or a text begins behind the events before
abbrev pub literals_of : List ℕ → (fresh : Bool) → (depth skip : ℕ) → List Event → List Literal
literals_of bytes fresh depth skip [] = []
literals_of bytes fresh depth (suc skip) (e ∷ es) = literals_of bytes fresh depth skip es
literals_of bytes fresh depth zero (e ∷ es) =
    let r = reach (span_size 0 es) (span_end e.point 0 es).index es in
    let stretch = literals_between bytes fresh e.point.index r.stop ++ literals_of bytes false depth r.size es in
    let other = literals_of bytes (is_fresh e) (depth_behind depth e) 0 es in
    cond (is_text depth e) stretch other
