-- The table of the machine passes the test, and its rows keep what it knows of its chunks, so that the machine is lawful.
use Rattle.std.proofs.Common.{◌≡◌, ℕ, zero, suc, ◌+◌, ◌-◌, ◌<◌, List, [], ◌∷◌, ◌++◌, ◌==◌, false, Option, Some, None, length, refl, sym, ap, ◌∙◌, subst, arith, append_assoc, length-append}
use Rattle.std.specs.Prelude.{All, Bool, IsSome, option_and_then, slice_get}
use Rattle.std.proofs.lemmas.List.Elements.{All-nil, All-cons}
use Rattle.markdown_base.specs.declared.event.Event.{Event}
use Rattle.markdown_base.specs.declared.event.Kind.TheVariants.{Enter, Exit}
use Rattle.markdown_base.specs.declared.event.Name.TheVariants.{Data}
use Rattle.markdown_base.specs.declared.event.Link.{Link}
use Rattle.markdown_base.specs.declared.event.Point.{Point}
use Rattle.markdown_base.specs.Events.{EndsBelow, IsBalanced}
use Rattle.markdown_base.specs.declared.state.Name.{Name}
use Rattle.markdown_base.specs.declared.state.State.TheVariants.{Next, Retry, Ok}
use Rattle.markdown_base.specs.declared.state.TheConstants.Name.{FlowStart, TextStart, ParagraphStart, ParagraphInside}
use Rattle.markdown_tokenizer.specs.Text.{Given, Text}
use Rattle.markdown_tokenizer.specs.Configuration.{Configuration, Local, Choice, TokenizerValue, start_configuration}
use Rattle.markdown_tokenizer.specs.Sight.{sight_of}
use Rattle.markdown_edits.specs.Links.{CanLink, updated_at, with_next, with_previous, linked_to, next_of, previous_of}
use Rattle.markdown_edits.specs.Edited.{edited}
use Rattle.markdown_tokenizer.specs.Resolving.{CanBeEdited, IsInShape}
use Rattle.markdown_tokenizer.specs.Engine.{IsWellFormed, EndsWellFormed}
use Rattle.markdown_edits.proofs.Edits.Splices.{edited-none}
use Rattle.markdown_edits.proofs.LinkEnds.{updated-length}
use Rattle.mdconstructs_tables.specs.LinkShapes.{next_end, previous_end, AreInShape}
use Rattle.mdconstructs_tables.specs.Misfits.{misfits}
use Rattle.mdconstructs_tables.proofs.LinkShapes.{more-shape, linked-shape}
use Rattle.mdconstructs_tables.specs.Fitting.{IsFit}
use Rattle.mdconstructs_tables.specs.Knowledge.{KeepsKnowing, IsKnownThroughout}
use Rattle.mdconstructs_tables.specs.Tables.{LineByte, line_ending, other}
use Rattle.mdconstructs_tables.specs.DataRows.{data_start, data_inside}
use Rattle.mdconstructs_tables.specs.Paragraphs.{text_link, flow_start, paragraph_line_start, paragraph_start, paragraph_inside, text_start, paragraphs, BeginsChunk, EndsWithChunk, HasChunk, KnowsChunk, Knows, knows_chunk, CanLinkChunk}

fits : (previous current : Option LineByte) → misfits paragraphs previous current ≡ []
fits previous None = refl
fits previous (Some line_ending) = refl
fits previous (Some other) = refl

pub paragraphs-fit : IsFit paragraphs
paragraphs-fit = record { fits = fits; paid = tt; falls = tt; kept = λ local. refl }

-- the event that begins a chunk
abbrev pub chunk_enter : Point → Event
chunk_enter place = record { kind = Enter; name = Data; point = place; link = Some text_link }

pub begins-chunk : (place : Point) → BeginsChunk (chunk_enter place)
begins-chunk place = record { linked = record { enter = refl; void = refl; linked = refl }; named = refl; text = refl; last = refl }

begins-linked : (place : Point) (previous : ℕ) → BeginsChunk (with_previous previous (chunk_enter place))
begins-linked place previous = record { linked = record { enter = refl; void = refl; linked = refl }; named = refl; text = refl; last = refl }

-- a chunk stays if events are added
pub more-chunk : (events : List Event) (e : Event) (index : ℕ) → HasChunk events index → HasChunk (events ++ e ∷ []) index
more-chunk events e index h = record {
  before = h.before;
  first = h.first;
  last = h.last;
  after = h.after ++ e ∷ [];
  events_are = ap (λ es. es ++ e ∷ []) h.events_are ∙ append_assoc h.before (h.first ∷ h.last ∷ h.after) (e ∷ []);
  index_is = h.index_is;
  begins = h.begins;
  ended = h.ended;
}

-- a chunk that was begun is a chunk once it is ended
pub ended-chunk : (events : List Event) (e : Event) (index : ℕ) → e.kind ≡ Exit → e.name ≡ Data → EndsWithChunk events index → HasChunk (events ++ e ∷ []) index
ended-chunk events e index exits named h = record {
  before = h.before;
  first = h.first;
  last = e;
  after = [];
  events_are = ap (λ es. es ++ e ∷ []) h.events_are ∙ append_assoc h.before (h.first ∷ []) (e ∷ []);
  index_is = h.index_is;
  begins = h.begins;
  ended = record { exits = exits; same = named ∙ sym h.begins.named };
}

pub ends-with : (events before : List Event) (e : Event) → events ≡ before ++ e ∷ [] → BeginsChunk e → EndsWithChunk events (length events - 1)
ends-with events before e is begins =
    record { before = before; first = e; events_are = is; index_is = omega (arith, ap length is, length-append before (e ∷ [])); begins = begins }

-- Lists with one event changed
updated-front : (i : ℕ) (f : Event → Event) (xs ys : List Event) → i < length xs → updated_at i f (xs ++ ys) ≡ updated_at i f xs ++ ys
updated-front i f [] ys h = absurd (omega (arith, h))
updated-front zero f (x ∷ xs) ys h = refl
updated-front (suc i) f (x ∷ xs) ys h = ap (λ es. x ∷ es) (updated-front i f xs ys (omega (arith, h)))

updated-last : (i : ℕ) (f : Event → Event) (xs : List Event) (e : Event) → i ≡ length xs → updated_at i f (xs ++ e ∷ []) ≡ xs ++ f e ∷ []
updated-last zero f [] e h = refl
updated-last (suc i) f [] e h = absurd (omega (arith, h))
updated-last zero f (x ∷ xs) e h = absurd (omega (arith, h))
updated-last (suc i) f (x ∷ xs) e h = ap (λ es. x ∷ es) (updated-last i f xs e (omega (arith, h)))

at-index : (xs ys : List Event) (y : Event) (i : ℕ) → i ≡ length xs → slice_get (xs ++ y ∷ ys) i ≡ Some y
at-index [] ys y zero h = refl
at-index [] ys y (suc i) h = absurd (omega (arith, h))
at-index (x ∷ xs) ys y zero h = absurd (omega (arith, h))
at-index (x ∷ xs) ys y (suc i) h = at-index xs ys y i (omega (arith, h))

chunk-inside : (events : List Event) (index : ℕ) → HasChunk events index → index + 1 < length events
chunk-inside events index h = omega (arith, ap length h.events_are, length-append h.before (h.first ∷ h.last ∷ h.after), h.index_is)

-- the chunk that begins can follow the one before
pub can-link : (events : List Event) (place : Point) (index next : ℕ) → HasChunk events index → next ≡ length events → CanLink (events ++ chunk_enter place ∷ []) index next
unfolding more-chunk
can-link events place index next h last =
    let e = chunk_enter place in
    let there = more-chunk events e index h in
    let inside = chunk-inside events index h in
    let first : slice_get (events ++ e ∷ []) index ≡ Some h.first =
    ap (λ es. slice_get es index) there.events_are ∙ at-index h.before (h.last ∷ h.after ++ e ∷ []) h.first index h.index_is in
    let behind : slice_get (events ++ e ∷ []) (index + 1) ≡ Some h.last =
    ap (λ es. slice_get es (index + 1)) (there.events_are ∙ sym (append_assoc h.before (h.first ∷ []) (h.last ∷ h.after ++ e ∷ [])))
    ∙ at-index (h.before ++ h.first ∷ []) (h.after ++ e ∷ []) h.last (index + 1) (omega (arith, h.index_is, length-append h.before (h.first ∷ []))) in
    let second : slice_get (events ++ e ∷ []) next ≡ Some e = at-index events [] e next last in
    record {
      order = omega (arith, inside, last);
      first = record { enter = h.first; exit = h.last; enter_at = first; exit_at = behind; linked = h.begins.linked; ended = h.ended };
      second = rw second (begins-chunk place).linked;
      one_content = rw (first, second) h.begins.text;
    }

-- and if it does, it is the last event
linked-last : (events : List Event) (place : Point) (index next : ℕ) → HasChunk events index → next ≡ length events
    → linked_to index next (events ++ chunk_enter place ∷ []) ≡ updated_at index (with_next next) events ++ with_previous index (chunk_enter place) ∷ []
linked-last events place index next h last =
    let inside = chunk-inside events index h in
    ap (updated_at next (with_previous index)) (updated-front index (with_next next) events (chunk_enter place ∷ []) (omega (arith, inside)))
    ∙ updated-last next (with_previous index) (updated_at index (with_next next) events) (chunk_enter place) (last ∙ sym (updated-length index (with_next next) events))

pub ends-linked : (events : List Event) (place : Point) (index next : ℕ) → HasChunk events index → next ≡ length events
    → let linked = linked_to index next (events ++ chunk_enter place ∷ []) in EndsWithChunk linked (length linked - 1)
ends-linked events place index next h last =
    ends-with (linked_to index next (events ++ chunk_enter place ∷ [])) (updated_at index (with_next next) events) (with_previous index (chunk_enter place)) (linked-last events place index next h last)
    (begins-linked place index)

pub last-index : (events : List Event) (e : Event) → length (events ++ e ∷ []) - 1 ≡ length events
last-index events e = omega (arith, length-append events (e ∷ []))

-- the event at an index, and its link
get-index : (xs ys : List Event) (y : Event) (i : ℕ) → i ≡ length xs → slice_get (xs ++ y ∷ ys) i ≡ Some y
get-index [] ys y zero h = refl
get-index [] ys y (suc i) h = absurd (omega (arith, h))
get-index (x ∷ xs) ys y zero h = absurd (omega (arith, h))
get-index (x ∷ xs) ys y (suc i) h = get-index xs ys y i (omega (arith, h))

has-link : (o : Option Link) → IsSome o → (l : Link) × (o ≡ Some l)
has-link None h = absurd (cc)
has-link (Some l) h = (l, refl)

-- the links of chunks stay in shape if the last event is linked to the chunk before
pub linked-in-shape : (events : List Event) (place : Point) (index next : ℕ) → HasChunk events index → next ≡ length events → AreInShape events
    → AreInShape (linked_to index next (events ++ chunk_enter place ∷ []))
unfolding more-chunk
linked-in-shape events place index next h last shape =
    let e = chunk_enter place in
    let xs = events ++ e ∷ [] in
    let there = more-chunk events e index h in
    let inside = chunk-inside events index h in
    let at_p : slice_get xs index ≡ Some h.first = ap (λ es. slice_get es index) there.events_are ∙ get-index h.before (h.last ∷ h.after ++ e ∷ []) h.first index h.index_is in
    let at_n : slice_get xs next ≡ Some e = get-index events [] e next last in
    let (link, is) = has-link h.first.link h.begins.linked.linked in
    let no_next : next_of xs index ≡ None = ap (λ (o : Option Event). option_and_then (λ (e : Event). next_end e) o) at_p ∙ h.begins.last in
    let no_previous : previous_of xs next ≡ None = ap (λ (o : Option Event). option_and_then (λ (e : Event). previous_end e) o) at_n in
    linked-shape xs index next h.first e link text_link at_p is at_n refl (omega (arith, inside, last)) (omega (arith, last, length-append events (e ∷ []))) no_next no_previous (more-shape events e refl refl shape)

-- what is known stays if resolvers and edits stay
pub known-on : (inside before : Bool) (events events' : List Event) (local local' : Local Unit Unit) → Knows before events local → local'.resolvers ≡ local.resolvers → local'.map ≡ local.map
    → KnowsChunk inside events' local' → AreInShape events' → Knows inside events' local'
known-on inside before events events' local local' h resolvers map chunk shape = record { chunk = chunk; shape = shape; resolvers = resolvers ∙ h.resolvers; edits = map ∙ h.edits }

-- Each state keeps what is known of chunks
flow-start : KeepsKnowing paragraphs knows_chunk flow_start
flow-start g s k [] b None h = known-on _ _ _ _ _ _ h refl refl h.chunk h.shape
flow-start g s k [] b (Some line_ending) h = known-on _ _ _ _ _ _ h refl refl (λ c. more-chunk _ _ _ (more-chunk _ _ _ (h.chunk c))) (more-shape _ _ refl refl (more-shape _ _ refl refl h.shape))
flow-start g s k [] b (Some other) h = known-on _ _ _ _ _ _ h refl refl (λ c. absurd (cc)) (more-shape _ _ refl refl h.shape)
flow-start g s k (c ∷ cs) b w h = absurd h

line-start : KeepsKnowing paragraphs knows_chunk paragraph_line_start
line-start g s k [] b None h = known-on _ _ _ _ _ _ h refl refl (λ c. more-chunk _ _ _ (h.chunk c)) (more-shape _ _ refl refl h.shape)
line-start g s k [] b (Some line_ending) h = known-on _ _ _ _ _ _ h refl refl (λ c. more-chunk _ _ _ (h.chunk c)) (more-shape _ _ refl refl h.shape)
line-start g s k [] b (Some other) h = (
  λ mark. known-on _ _ _ _ _ _ h refl refl (λ c. more-chunk _ _ _ (more-chunk _ _ _ (h.chunk c))) (more-shape _ _ refl refl (more-shape _ _ refl refl h.shape)),
  λ mark. known-on _ _ _ _ _ _ h refl refl h.chunk h.shape,
)
line-start g s k (c ∷ cs) b w h = absurd h

start : KeepsKnowing paragraphs knows_chunk paragraph_start
start g s k [] b None h = known-on _ _ _ _ _ _ h refl refl h.chunk h.shape
start g s k [] b (Some w) h =
    let e = chunk_enter s.enter_place in
    let last = last-index k.events e in (
      λ c. known-on _ _ _ _ _ _ h refl refl (ends-linked k.events s.enter_place k.local.tokenize_state.start (length (k.events ++ e ∷ []) - 1) (h.chunk c) last)
          (linked-in-shape k.events s.enter_place k.local.tokenize_state.start (length (k.events ++ e ∷ []) - 1) (h.chunk c) last h.shape),
      λ c. known-on _ _ _ _ _ _ h refl refl (ends-with (k.events ++ e ∷ []) k.events e refl (begins-chunk s.enter_place)) (more-shape k.events e refl refl h.shape),
    )
start g s k (c ∷ cs) b w h = absurd h

inside : KeepsKnowing paragraphs knows_chunk paragraph_inside
inside g s k [] b None h = known-on _ _ _ _ _ _ h refl refl (λ c. ended-chunk k.events _ _ refl refl h.chunk) (more-shape _ _ refl refl h.shape)
inside g s k [] b (Some line_ending) h = known-on _ _ _ _ _ _ h refl refl (λ c. ended-chunk k.events _ _ refl refl h.chunk) (more-shape _ _ refl refl h.shape)
inside g s k [] b (Some other) h = known-on _ _ _ _ _ _ h refl refl h.chunk h.shape
inside g s k (c ∷ cs) b w h = absurd h

text : KeepsKnowing paragraphs knows_chunk text_start
text g s k [] b w h = known-on _ _ _ _ _ _ h refl refl h.chunk h.shape
text g s k (c ∷ cs) b w h = absurd h

data-first : KeepsKnowing paragraphs knows_chunk data_start
data-first g s k [] b None h = known-on _ _ _ _ _ _ h refl refl h.chunk h.shape
data-first g s k [] b (Some line_ending) h = known-on _ _ _ _ _ _ h refl refl (λ c. more-chunk _ _ _ (more-chunk _ _ _ (h.chunk c))) (more-shape _ _ refl refl (more-shape _ _ refl refl h.shape))
data-first g s k [] b (Some other) h = known-on _ _ _ _ _ _ h refl refl (λ c. more-chunk _ _ _ (h.chunk c)) (more-shape _ _ refl refl h.shape)
data-first g s k (c ∷ cs) b w h = absurd h

data-more : KeepsKnowing paragraphs knows_chunk data_inside
data-more g s k [] b None h = known-on _ _ _ _ _ _ h refl refl (λ c. more-chunk _ _ _ (h.chunk c)) (more-shape _ _ refl refl h.shape)
data-more g s k [] b (Some line_ending) h = known-on _ _ _ _ _ _ h refl refl (λ c. more-chunk _ _ _ (h.chunk c)) (more-shape _ _ refl refl h.shape)
data-more g s k [] b (Some other) h = known-on _ _ _ _ _ _ h refl refl h.chunk h.shape
data-more g s k (c ∷ cs) b w h = absurd h

-- there is no chunk at the start
at-starts : (flag : Bool) → let k : Configuration Unit Unit = start_configuration flag in All (λ name. knows_chunk k.events k.local [] (Next name)) paragraphs.starts
at-starts flag =
    let k : Configuration Unit Unit = start_configuration flag in
    let P = λ (name : Name). knows_chunk k.events k.local [] (Next name) in
    let shape : AreInShape [] = record { inside = All-nil (EndsBelow 0); on = λ i j is. absurd (let same : None ≡ Some j = is in cc); back = λ i j is. absurd (let same : None ≡ Some i = is in cc) } in
    let none : Knows false [] k.local = record { chunk = λ c. absurd (cc); shape = shape; resolvers = refl; edits = refl } in
    All-cons P FlowStart (TextStart ∷ []) none (All-cons P TextStart [] none (All-nil P))

-- what is known when a state is fed is known when it is called
still-known : (events : List Event) (local : Local Unit Unit) (choices : List Choice) (name : Name) → knows_chunk events local choices (Next name) → knows_chunk events local choices (Retry name)
still-known events local [] name h = h
still-known events local (c ∷ cs) name h = absurd h

-- what is known before a chunk
pub known-before : (events : List Event) (local : Local Unit Unit) (choices : List Choice) (n : ℕ) → n ≡ ParagraphStart.number → knows_chunk events local choices (Retry (record { number = n }))
    → KnowsChunk false events local
known-before events local [] n e h = let elsewhere : (n == ParagraphInside.number) ≡ false = rw e refl in subst (λ (b : Bool). KnowsChunk b events local) elsewhere h.chunk
known-before events local (c ∷ cs) n e h = absurd h

-- and so a chunk that begins can be linked to the one that came before
pub can-follow : {M : Type 0} (t : TokenizerValue M Unit Unit) → KnowsChunk false t.configuration.events t.configuration.local → CanLinkChunk t
can-follow t known =
    let k = t.configuration in
    let place = (sight_of t).enter_place in
    λ there. can-link k.events place k.local.tokenize_state.start _ (known there) (last-index k.events (chunk_enter place))

-- once all was read no edit waits, and the events stay in shape
at-end : (k : Configuration Unit Unit) → IsBalanced k.events → knows_chunk k.events k.local [] Ok
    → (k.local.resolvers ≡ []) × CanBeEdited k × IsInShape (edited k.local.map k.events)
at-end k balanced h =
    let shape : IsInShape k.events = record { balanced = balanced; inside = h.shape.inside; chained = λ i j. (h.shape.on i j, h.shape.back i j) } in
    let none = h.edits in
    let same = edited-none k.events h.shape.inside in
    (h.resolvers, rw none (omega arith, h.shape.inside), rw (none, same) shape)

-- and so they are well formed
ends-well-formed : (g : Given) (text : Text) (k : Configuration Unit Unit) → IsWellFormed g k.events → knows_chunk k.events k.local [] Ok → IsWellFormed g (edited k.local.map k.events)
ends-well-formed g text k formed h =
    let none = h.edits in
    let same = edited-none k.events h.shape.inside in
    rw (none, same) formed

pub paragraphs-known : IsKnownThroughout paragraphs knows_chunk EndsWellFormed
paragraphs-known = record {
  at_starts = at-starts;
  by_feeding = still-known;
  by_rows = (flow-start, (line-start, (start, (inside, (text, (data-first, (data-more, tt)))))));
  by_ok = λ k choice choices h. absurd h;
  by_nok = λ k choice choices h. absurd h;
  at_end = at-end;
  promised = ends-well-formed;
}
