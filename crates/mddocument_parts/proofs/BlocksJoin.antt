-- Marks whose chunks are whole, and the leaf blocks in their place: of two lists they are both, and of a chunk alone they are what its virtual bytes are read as.
use Rattle.std.proofs.Common.{Bool, List, None, Option, Some, [], ap, append_assoc, arith, cond, false, length, length-append, map, refl, subst, suc, sym, true, zero, ℕ, ◌++◌, ◌+◌, ◌-◌, ◌<◌, ◌∙◌, ◌∷◌, ◌≡◌, ◌≤◌}
use Rattle.std.proofs.lemmas.Bool.{and_parts, false≢true}
use Rattle.std.proofs.lemmas.List.{append-nil, length-map, map-append}
use Rattle.std.proofs.lemmas.List.Elements.{All-from_recursion, recursion_from_All}
use Rattle.std.proofs.lemmas.Option.{none-some}
use Rattle.std.specs.List.{AllByRecursion, flat_map}
use Rattle.std.specs.Option.{option_and_then, option_map}
use Rattle.std.specs.Prelude.{All, IfSome, filter, is_none, is_some, unwrap_or, ◌&&◌}
use Rattle.markdown_base.specs.Events.{EachEnd, EndsBelow}
use Rattle.markdown_base.specs.Places.{in_range, shown}
use Rattle.markdown_base.specs.Virtual.{Seat, end_after, virtual}
use Rattle.markdown_base.specs.declared.event.Content.{Content}
use Rattle.markdown_base.specs.declared.event.Content.TheVariants as content
use Rattle.markdown_base.specs.declared.event.Event.{Event}
use Rattle.markdown_base.specs.declared.event.Kind.TheVariants.{Enter, Exit}
use Rattle.markdown_base.specs.declared.event.Link.{Link}
use Rattle.markdown_base.specs.declared.event.Name.{Name}
use Rattle.markdown_base.specs.declared.event.Name.TheVariants as name
use Rattle.markdown_base.specs.declared.event.Point.{Point}
use Rattle.markdown_edits.proofs.Edits.Splices.{relinked-agree, relinked-same}
use Rattle.markdown_edits.specs.Links.{content_of, next_of, previous_of}
use Rattle.markdown_edits.specs.Woven.{Change, Tagged, changed, of_child, place_in, placed, placed_in}
use Rattle.markdown_tokenizer.specs.Text.{Given}
use Rattle.markdown_children.proofs.ChainOrder.Following.{by_option}
use Rattle.markdown_children.proofs.Parts.Placed.{place_in-child_in}
use Rattle.markdown_children.specs.Chains.{begins, chain_from, chain_of, content_at, fits, fitting_starts, lets_through, some_fits}
use Rattle.markdown_children.specs.Children.{chain_changes, child_changes, tagged_child, with_children}
use Rattle.markdown_children.specs.Parts.{IsForward, divided_over, parts}
use Rattle.markdown_children.specs.Reads.{text_from, text_of_chain}
use Rattle.markdown_children.specs.Ready.{place_at}
use Rattle.mdconstructs_machines.specs.Spans.{event}
use Rattle.mdinline_text_machine.proofs.DeepSpans.Chunks.{chunk_seats}
use Rattle.mdinline_text_machine.proofs.DeepSpans.Places.{chain-from, origin, place-shown, range-of}
use Rattle.mdblock_leaf_blocks.specs.LeafEvents.{Chunk, Mark, alone, chunk_span}
use Rattle.mdblock_containers.proofs.LetterPlaces.{places_kept}
use Rattle.mdblock_containers.proofs.SkeletonChains.{Due, Runs, a_chunk, an_exit, bare_content, idle, next_due, next_in, runs_both}
use Rattle.mdblock_containers.proofs.TightMarks.{Exits, Tight, data_tight, no_enter, tight_more}
use Rattle.mdblock_containers.proofs.WrittenLemmas.{chained_length}
use Rattle.mdblock_containers.specs.Letters.{ArePlainFrom, lettered_seat, with_letters}
use Rattle.mdblock_containers.specs.Skeleton.{chained_from, next_chunk}
use Rattle.mddocument_parts.proofs.Chained.{AreBare, AreLinkedOn, BeginsApart, chained-append, chained-bare, further_on}
use Rattle.mddocument_parts.proofs.ChildrenOfBoth.{GoForward, all-begin, children-behind, first-chain, first-place, further-all, second-chain, second-place, starts-both, starts-inside}
use Rattle.mddocument_parts.proofs.TextsOfBoth.{with_chains_read, seats-of}
use Rattle.mddocument_parts.specs.Moved.{moved_event, moved_index, moved_link, moved_point}
use Rattle.mddocument_parts.proofs.Choices.{filter-mapped}

-- ==== Marks of which each chunk has its exit, and each linked chunk the next: so are both of two lists that no chunk links, and the chains of their events go forward.
-- ---- two lists

-- an event that enters comes first, if one does
abbrev pub EntersFirst : List Mark → Type 0
EntersFirst [] = Unit {0}
EntersFirst ((e, chunk) ∷ ms) = e.kind ≡ Enter

exits-front : (n : Name) (xs ys : List Mark) → EntersFirst ys → Exits n (xs ++ ys) → Exits n xs
exits-front n [] [] h k = k
exits-front n [] ((e, chunk) ∷ ys) h k = no_enter e.kind k.0 h
exits-front n ((e, chunk) ∷ xs) ys h k = k

pub tight-front : (xs ys : List Mark) → EntersFirst ys → Tight (xs ++ ys) → Tight xs
tight-front [] ys h k = tt
tight-front ((e, None) ∷ xs) ys h k = ((λ enter void. exits-front e.name xs ys h (k.0 enter void)), k.1, tight-front xs ys h k.2)
tight-front ((e, Some chunk) ∷ xs) ys h k = ((λ enter void. exits-front e.name xs ys h (k.0 enter void)), (k.1.0, k.1.1, exits-front e.name xs ys h k.1.2), tight-front xs ys h k.2)

pub tight-back : (xs ys : List Mark) → Tight (xs ++ ys) → Tight ys
tight-back [] ys k = k
tight-back ((e, chunk) ∷ xs) ys k = tight-back xs ys k.2

-- a chunk that is not linked back comes behind whole ones
pub runs-apart : (xs : List Mark) (e : Event) (chunk : Chunk) (ys : List Mark) (d : Due) → chunk.has_previous ≡ false → Runs (xs ++ ((e, Some chunk) ∷ ys)) d → Runs xs d × Runs ((e, Some chunk) ∷ ys) idle
runs-apart [] e chunk ys idle h r = (tt, r)
runs-apart [] e chunk ys an_exit h r = absurd r
runs-apart [] e chunk ys (a_chunk p o) h r = absurd (false≢true (sym h ∙ r.1))
runs-apart ((v, None) ∷ xs) e chunk ys idle h r = let both = runs-apart xs e chunk ys idle h r.1 in ((r.0, both.0), both.1)
runs-apart ((v, None) ∷ xs) e chunk ys an_exit h r = let both = runs-apart xs e chunk ys _ h r.1 in ((r.0, both.0), both.1)
runs-apart ((v, None) ∷ xs) e chunk ys (a_chunk p o) h r = let both = runs-apart xs e chunk ys _ h r.1 in ((r.0, both.0), both.1)
runs-apart ((v, Some k) ∷ xs) e chunk ys idle h r = let both = runs-apart xs e chunk ys (next_due k.has_next) h r.2 in ((r.0, r.1, both.0), both.1)
runs-apart ((v, Some k) ∷ xs) e chunk ys an_exit h r = absurd r
runs-apart ((v, Some k) ∷ xs) e chunk ys (a_chunk p o) h r = let both = runs-apart xs e chunk ys (next_due k.has_next) h r.4 in ((r.0, r.1, r.2, r.3, both.0), both.1)

-- ---- their chains

exits-some : (n : Name) (ms : List Mark) → Exits n ms → 1 ≤ length ms
exits-some n [] h = absurd h
exits-some n (m ∷ ms) h = omega arith

-- a chunk's exit is in the list
chunk-within : (i : ℕ) (p : Option ℕ) (ms : List Mark) → Tight ms → (k : ℕ) (c : Content) → content_at (chained_from i p ms) k ≡ Some c → k + 1 < length (chained_from i p ms)
chunk-within i p [] h k c is = absurd (none-some c is)
chunk-within i p ((e, None) ∷ ms) h zero c is = absurd (none-some c (sym (bare_content e (chained_from (suc i) p ms) h.1) ∙ is))
chunk-within i p ((e, None) ∷ ms) h (suc k) c is = let rest = chunk-within (suc i) p ms h.2 k c is in omega (arith, rest)
chunk-within i p ((e, Some x) ∷ ms) h zero c is = let some = exits-some e.name ms h.1.2 in let size = chained_length (suc i) (Some i) ms in omega (arith, some, size)
chunk-within i p ((e, Some x) ∷ ms) h (suc k) c is = let rest = chunk-within (suc i) (Some i) ms h.2 k c is in omega (arith, rest)

-- links lead inside
next-below : (total j : ℕ) (ms : List Mark) → j + length ms ≤ total → IfSome (next_chunk j ms) (λ d. d < total)
next-below total j [] l = tt
next-below total j ((e, None) ∷ ms) l = next-below total (suc j) ms (omega (arith, l))
next-below total j ((e, Some chunk) ∷ ms) l = omega (arith, l)

ends-below : (total i : ℕ) (p : Option ℕ) (ms : List Mark) → i + length ms ≤ total → IfSome p (λ d. d < total) → Tight ms → AllByRecursion (EndsBelow total) (chained_from i p ms)
ends-below total i p [] l h t = tt
ends-below total i p ((e, None) ∷ ms) l h t = (subst (λ o. IfSome o (EachEnd (λ k. k < total))) (sym t.1) tt, ends-below total (suc i) p ms (omega (arith, l)) h t.2)
ends-below total i p ((e, Some chunk) ∷ ms) l h t =
    let here : i < total = omega (arith, l) in
    ((by chunk.has_previous p h, by chunk.has_next (next_chunk (suc i) ms) (next-below total (suc i) ms (omega (arith, l)))), ends-below total (suc i) (Some i) ms (omega (arith, l)) here t.2)
  where
    by : (b : Bool) (o : Option ℕ) → IfSome o (λ d. d < total) → IfSome (cond b o None) (λ d. d < total)
    by true o k = k
    by false o k = tt

module _ (ms : List Mark) (runs : Runs ms idle) (tight : Tight ms) where
  abbrev es : List Event
  es = chained_from 0 None ms

  abbrev IsFit : ℕ → Type 0
  IsFit k = fits (Some content.Content) es k ≡ true

  fit-within : (k : ℕ) → IsFit k → k + 1 < length es
  fit-within k h = by_option (content_at es k) (λ n. absurd (false≢true (ap (some_fits (Some content.Content)) (sym n) ∙ h))) (λ c is. chunk-within 0 None ms tight k c is)

  forward-one : (k : ℕ) → IsFit k → IsForward es k
  forward-one k h = record {
    within = fit-within k h;
    next = λ d e. let n = next_in ms runs k d e in (n.least, chunk-within 0 None ms tight d content.Content n.read_as);
  }

  forward-from : (f k : ℕ) → IsFit k → AllByRecursion (IsForward es) (chain_from f es k)
  forward-from zero k h = tt
  forward-from (suc f) k h = (forward-one k h, by (next_of es k) refl (forward-from f))
    where
      by : (o : Option ℕ) → next_of es k ≡ o → ((d : ℕ) → IsFit d → AllByRecursion (IsForward es) (chain_from f es d)) → AllByRecursion (IsForward es) (unwrap_or (option_map (λ d. chain_from f es d) o) [])
      by None e rest = tt
      by (Some d) e rest = rest d (ap (some_fits (Some content.Content)) (next_in ms runs k d e).read_as)

  pub marks-forward : GoForward (Some content.Content) es
  marks-forward c b = forward-from (length es) c (and_parts (fits (Some content.Content) es c) (is_none (previous_of es c)) b).0

  pub marks-inside : All (EndsBelow (length es)) es
  marks-inside = let size = chained_length 0 None ms in All-from_recursion (EndsBelow (length es)) es (ends-below (length es) 0 None ms (omega (arith, size)) tt tight)

-- ==== Leaf blocks in the place of the chains of two lists of one document, one behind the other: those of both, links alone lead further on.
same-point : (p : Point) → moved_point 0 0 p ≡ p
same-point p =
    let line : p.line + 0 ≡ p.line = omega arith in
    let index : p.index + 0 ≡ p.index = omega arith in
    (λ d. record { line = line d; column = p.column; index = index d; vs = p.vs })

-- A document, and what virtual bytes of it are read as
module _ (g : Given) (reads : List Seat → List Event) where
  abbrev pub child_at : List Event → ℕ → List Event
  child_at events c = reads (text_from g events c).seats

  abbrev with_leaves : Option Content → List Event → List Event
  with_leaves wanted events = with_chains_read wanted g reads events

  module _ (x y : List Event) where
    abbrev both : List Event
    both = x ++ map (moved_event 0 0 (length x)) y

    first-seats : (ks : List ℕ) → AllByRecursion (IsForward x) ks → flat_map (chunk_seats g both) ks ≡ flat_map (chunk_seats g x) ks
    first-seats [] h = refl
    first-seats (k ∷ ks) h =
        let w = h.0.within in
        let from = first-place x y 0 0 k (omega (arith, w)) in
        let to = first-place x y 0 0 (k + 1) w in
        let rest = first-seats ks h.1 in
        (λ d. filter (in_range (from d) (to d)) (virtual g.tab g.bytes) ++ rest d)

    second-seats : (ks : List ℕ) → AllByRecursion (IsForward y) ks → flat_map (chunk_seats g both) (map (λ k. length x + k) ks) ≡ flat_map (chunk_seats g y) ks
    second-seats [] h = refl
    second-seats (k ∷ ks) h =
        let w = h.0.within in
        let z : length x + k + 1 ≡ length x + (k + 1) = omega arith in
        let from = second-place x y 0 0 k (omega (arith, w)) ∙ same-point (place_at y k) in
        let to = ap (place_at both) z ∙ second-place x y 0 0 (k + 1) w ∙ same-point (place_at y (k + 1)) in
        let rest = second-seats ks h.1 in
        (λ d. filter (in_range (from d) (to d)) (virtual g.tab g.bytes) ++ rest d)

    first-child : (c : ℕ) → c < length x → AllByRecursion (IsForward x) (chain_of x c) → child_at both c ≡ child_at x c
    first-child c l f =
        ap (λ ks. reads (text_of_chain g both ks).seats) (first-chain x y 0 0 c l f)
        ∙ ap reads (seats-of g both (chain_of x c) ∙ first-seats (chain_of x c) f ∙ sym (seats-of g x (chain_of x c)))

    second-child : (c : ℕ) → c < length y → AllByRecursion (IsForward y) (chain_of y c) → child_at both (length x + c) ≡ child_at y c
    second-child c l f =
        ap (λ ks. reads (text_of_chain g both ks).seats) (second-chain x y 0 0 c l f)
        ∙ ap reads (seats-of g both (map (λ k. length x + k) (chain_of y c)) ∙ second-seats (chain_of y c) f ∙ sym (seats-of g y (chain_of y c)))

    module _ (wanted : Option Content) (gx : GoForward wanted x) (gy : GoForward wanted y) where
      first-children : (cs : List ℕ) → AllByRecursion (λ c. begins wanted x c ≡ true) cs → map (child_at both) cs ≡ map (child_at x) cs
      first-children [] h = refl
      first-children (c ∷ cs) h = let here = first-child c (starts-inside wanted x c h.0) (gx c h.0) in let rest = first-children cs h.1 in (λ d. here d ∷ rest d)

      second-children : (cs : List ℕ) → AllByRecursion (λ c. begins wanted y c ≡ true) cs → map (child_at both) (map (λ c. length x + c) cs) ≡ map (child_at y) cs
      second-children [] h = refl
      second-children (c ∷ cs) h = let here = second-child c (starts-inside wanted y c h.0) (gy c h.0) in let rest = second-children cs h.1 in (λ d. here d ∷ rest d)

      pub leaves-behind : All (EndsBelow (length x)) x → let first = with_leaves wanted x in
          with_leaves wanted (x ++ map (further_on (length x)) y) ≡ first ++ map (further_on (length first)) (with_leaves wanted y)
      leaves-behind ends =
          let sx = fitting_starts wanted x in
          let sy = fitting_starts wanted y in
          let list : x ++ map (further_on (length x)) y ≡ both = ap (λ ys. x ++ ys) (sym (further-all (length x) y)) in
          let one = first-children sx (all-begin wanted x) in
          let two = second-children sy (all-begin wanted y) in
          let children : map (child_at both) (fitting_starts wanted both) ≡ map (child_at x) sx ++ map (child_at y) sy =
          ap (map (child_at both)) (starts-both x y 0 0 wanted) ∙ map-append (child_at both) sx (map (λ c. length x + c) sy) ∙ (λ d. one d ++ two d) in
          ap (with_leaves wanted) list
          ∙ (λ d. with_children wanted (sym list d) (children d))
          ∙ children-behind wanted x y (map (child_at x) sx) (map (child_at y) sy) gx gy ends (length-map sx (child_at x))

-- ==== Marks of which each chunk has its exit, and each linked chunk the next, in two lists: with their leaf blocks they are both, links alone lead further on.
next-any : (i j : ℕ) (ms : List Mark) → is_some (next_chunk i ms) ≡ true → is_some (next_chunk j ms) ≡ true
next-any i j [] h = h
next-any i j ((e, None) ∷ ms) h = next-any (suc i) (suc j) ms h
next-any i j ((e, Some chunk) ∷ ms) h = refl

-- a chunk comes, if one is due
abbrev Comes : List Mark → Due → Type 0
Comes ms idle = Unit {0}
Comes ms an_exit = is_some (next_chunk 0 ms) ≡ true
Comes ms (a_chunk p o) = is_some (next_chunk 0 ms) ≡ true

-- no chunk is linked out of such marks
linked-due : (ms : List Mark) (d : Due) → Runs ms d → Comes ms d × AreLinkedOn ms
linked-due [] idle r = (tt, tt)
linked-due [] an_exit r = absurd r
linked-due [] (a_chunk p o) r = absurd r
linked-due ((e, None) ∷ ms) idle r = let rest = linked-due ms idle r.1 in (tt, rest.1)
linked-due ((e, None) ∷ ms) an_exit r = let rest = linked-due ms _ r.1 in (next-any 0 1 ms rest.0, rest.1)
linked-due ((e, None) ∷ ms) (a_chunk p o) r = let rest = linked-due ms _ r.1 in (next-any 0 1 ms rest.0, rest.1)
linked-due ((e, Some k) ∷ ms) idle r = let rest = linked-due ms (next_due k.has_next) r.2 in (tt, (comes k.has_next rest.0, rest.1))
  where
    comes : (b : Bool) → Comes ms (next_due b) → b ≡ true → is_some (next_chunk 0 ms) ≡ true
    comes true c f = c
    comes false c f = absurd (cc)
linked-due ((e, Some k) ∷ ms) an_exit r = absurd r
linked-due ((e, Some k) ∷ ms) (a_chunk p o) r = let rest = linked-due ms (next_due k.has_next) r.4 in (refl, (comes k.has_next rest.0, rest.1))
  where
    comes : (b : Bool) → Comes ms (next_due b) → b ≡ true → is_some (next_chunk 0 ms) ≡ true
    comes true c f = c
    comes false c f = absurd (cc)

begins-apart : (ms : List Mark) → Runs ms idle → BeginsApart ms
begins-apart [] r = tt
begins-apart ((e, None) ∷ ms) r = begins-apart ms r.1
begins-apart ((e, Some k) ∷ ms) r = r.1

tight-bare : (ms : List Mark) → Tight ms → AreBare ms
tight-bare [] t = tt
tight-bare ((e, None) ∷ ms) t = (t.1, tight-bare ms t.2)
tight-bare ((e, Some k) ∷ ms) t = tight-bare ms t.2

-- marks whose chunks are whole
pub record AreWhole (ms : List Mark) : Type 0 where
  pub runs : Runs ms idle
  pub tight : Tight ms

pub chained-both : (xs ys : List Mark) → AreWhole xs → AreWhole ys → let first = chained_from 0 None xs in chained_from 0 None (xs ++ ys) ≡ first ++ map (further_on (length first)) (chained_from 0 None ys)
chained-both xs ys h k =
    let size = chained_length 0 None xs in
    let n = length (chained_from 0 None xs) in
    chained-append 0 n None xs ys (omega (arith, size)) (linked-due xs idle h.runs).1 (begins-apart ys k.runs)
    ∙ ap (λ es. chained_from 0 None xs ++ es) (chained-bare n 0 n None None ys (omega arith) refl (tight-bare ys k.tight))

module _ (g : Given) (reads : List Seat → List Event) where
  -- the events of marks, with what their chunks are read as
  abbrev pub blocks_in : List Mark → List Event
  blocks_in ms = with_chains_read (Some content.Content) g reads (chained_from 0 None ms)

  pub blocks-join : (xs ys : List Mark) → AreWhole xs → AreWhole ys → let first = blocks_in xs in blocks_in (xs ++ ys) ≡ first ++ map (further_on (length first)) (blocks_in ys)
  blocks-join xs ys h k =
      ap (with_chains_read (Some content.Content) g reads) (chained-both xs ys h k)
      ∙ leaves-behind g reads (chained_from 0 None xs) (chained_from 0 None ys) (Some content.Content) (marks-forward xs h.runs h.tight) (marks-forward ys k.runs k.tight) (marks-inside xs h.runs h.tight)

-- ---- lists of events, one behind the other
abbrev pub behind : (first second : List Event) → List Event
behind first second = first ++ map (further_on (length first)) second

further-twice : (m n : ℕ) (e : Event) → further_on m (further_on n e) ≡ further_on (m + n) e
further-twice m n e = ap (λ l. record e { link = l }) (link e.link)
  where
    end : (o : Option ℕ) → moved_index m (moved_index n o) ≡ moved_index (m + n) o
    end None = refl
    end (Some i) = let sum : i + n + m ≡ i + (m + n) = omega arith in ap (λ j. Some j) sum

    link : (o : Option Link) → moved_link m (moved_link n o) ≡ moved_link (m + n) o
    link None = refl
    link (Some l) = let p = end l.previous in let q = end l.next in (λ d. Some (record { previous = p d; next = q d; content = l.content }))

all-twice : (m n : ℕ) (es : List Event) → map (further_on m) (map (further_on n) es) ≡ map (further_on (m + n)) es
all-twice m n [] = refl
all-twice m n (e ∷ es) = let here = further-twice m n e in let rest = all-twice m n es in (λ d. here d ∷ rest d)

pub behind-both : (x y z : List Event) → behind x (behind y z) ≡ behind (behind x y) z
behind-both x y z =
    let m = length x in
    let n = length y in
    let size : length (behind x y) ≡ m + n = length-append x (map (further_on m) y) ∙ ap (λ k. m + k) (length-map y (further_on m)) in
    ap (λ l. x ++ l) (map-append (further_on m) y (map (further_on n) z) ∙ ap (λ l. map (further_on m) y ++ l) (all-twice m n z ∙ ap (λ k. map (further_on k) z) (sym size)))
    ∙ sym (append_assoc x (map (further_on m) y) (map (further_on (length (behind x y))) z))

-- ==== A chunk in a document's marks, in the place of two chunks with other marks between them: the leaf blocks are the same, if those of the chunk alone are.
pub whole-both : (xs ys : List Mark) → AreWhole xs → AreWhole ys → AreWhole (xs ++ ys)
whole-both xs ys h k = record { runs = runs_both xs ys idle h.runs k.runs; tight = tight_more xs ys h.tight k.tight }

module _ (bytes : List ℕ) where
  -- a chunk that is linked to no other
  abbrev pub lone_chunk : List Seat → List Mark
  lone_chunk seats = chunk_span bytes (alone content.Content) name.Data seats []

  pub chunk-whole : (seats : List Seat) → AreWhole (lone_chunk seats)
  chunk-whole [] = record { runs = tt; tight = tt }
  chunk-whole (s ∷ ss) = record { runs = (refl, refl, (refl, tt)); tight = data_tight bytes (record { content = content.Content; has_previous = false; has_next = false }) (s ∷ ss) }

  -- what stands before and behind it is whole, if all is
  pub apart : (before : List Mark) (s : Seat) (ss : List Seat) (rest : List Mark) → AreWhole (before ++ (lone_chunk (s ∷ ss) ++ rest)) → AreWhole before × AreWhole rest
  apart before s ss rest h =
      let enter : Event = event bytes Enter name.Data s.point in
      let exit : Event = event bytes Exit name.Data (end_after s.end ss) in
      let both = runs-apart before enter (record { content = content.Content; has_previous = false; has_next = false }) ((exit, None) ∷ rest) idle refl h.runs in
      let front = tight-front before (lone_chunk (s ∷ ss) ++ rest) refl h.tight in
      let back = tight-back before (lone_chunk (s ∷ ss) ++ rest) h.tight in
      (record { runs = both.0; tight = front }, record { runs = both.1.2.1; tight = tight-back (lone_chunk (s ∷ ss)) rest back })

  module _ (g : Given) (reads : List Seat → List Event) (before between after : List Mark) (s t : Seat) (ss ts all : List Seat)
      (first : AreWhole (before ++ (lone_chunk (s ∷ ss) ++ between))) (second : AreWhole (lone_chunk (t ∷ ts) ++ after)) where
    abbrev leaves : List Mark → List Event
    leaves ms = blocks_in g reads ms

    pub joined-blocks : leaves (lone_chunk all) ≡ behind (leaves (lone_chunk (s ∷ ss))) (behind (leaves between) (leaves (lone_chunk (t ∷ ts))))
        → leaves (before ++ (lone_chunk all ++ after)) ≡ leaves ((before ++ (lone_chunk (s ∷ ss) ++ between)) ++ (lone_chunk (t ∷ ts) ++ after))
    joined-blocks same =
        let k = lone_chunk all in
        let one = lone_chunk (s ∷ ss) in
        let two = lone_chunk (t ∷ ts) in
        let parts = apart before s ss between first in
        let more = apart [] t ts after second in
        let b = leaves before in
        let m = leaves between in
        let x = leaves one in
        let y = leaves two in
        let z = leaves after in
        let left : leaves (before ++ (k ++ after)) ≡ behind b (behind (leaves k) z) =
        blocks-join g reads before (k ++ after) parts.0 (whole-both k after (chunk-whole all) more.1) ∙ ap (behind b) (blocks-join g reads k after (chunk-whole all) more.1) in
        let right : leaves ((before ++ (one ++ between)) ++ (two ++ after)) ≡ behind (behind b (behind x m)) (behind y z) =
        blocks-join g reads (before ++ (one ++ between)) (two ++ after) first second
        ∙ (λ i. behind
        ((blocks-join g reads before (one ++ between) parts.0 (whole-both one between (chunk-whole (s ∷ ss)) parts.1) ∙ ap (behind b) (blocks-join g reads one between (chunk-whole (s ∷ ss)) parts.1)) i)
        (blocks-join g reads two after (chunk-whole (t ∷ ts)) more.1 i)) in
        left ∙ ap (λ l. behind b (behind l z)) (same ∙ behind-both x m y) ∙ ap (behind b) (sym (behind-both (behind x m) y z)) ∙ behind-both b (behind x m) (behind y z) ∙ sym right

-- ==== Lists with few chains: with none a list stays as it is, and a list that is one chunk becomes its child.
-- ---- no child

-- ---- one child

-- the events of a child that is there from its first event on keep their links
placed-alone : (ts : List Tagged) (c n j : ℕ) (es : List Event) → ((d : ℕ) → d < n → place_in (of_child c d) ts ≡ Some d) → AllByRecursion (EndsBelow n) es → placed_in ts (tagged_child c j es) ≡ es
placed-alone ts c n j [] h k = refl
placed-alone ts c n j (e ∷ es) h k =
    let one = relinked-agree (λ d. place_in (of_child c d) ts) Some n e h k.0 ∙ relinked-same e in
    let rest = placed-alone ts c n (j + 1) es h k.1 in
    (λ d. one d ∷ rest d)

child-alone : (c : ℕ) (child : List Event) → All (EndsBelow (length child)) child → placed (tagged_child c 0 child) ≡ child
child-alone c child h =
    placed-alone (tagged_child c 0 child) c (length child) 0 child
    (λ d l. place_in-child_in c d 0 child (omega arith) (omega arith) ∙ (let z : d - 0 ≡ d = omega arith in ap Some z)) (recursion_from_All (EndsBelow (length child)) child h)

-- the link of a chunk that is a chain by itself
abbrev pub alone_link : Content → Link
alone_link c = record { previous = None; next = None; content = c }

-- A list that is one chunk, which is a chain by itself, becomes its child
pub one-child : (wanted : Option Content) (enter exit : Event) (c : Content) (child : List Event) → enter.link ≡ Some (alone_link c) → exit.link ≡ None → lets_through wanted c ≡ true
    → All (EndsBelow (length child)) child → with_children wanted (enter ∷ exit ∷ []) (child ∷ []) ≡ child
one-child wanted enter exit c child e f fit h =
    let events : List Event = enter ∷ exit ∷ [] in
    let first : (some_fits wanted (content_of enter) && is_none (option_and_then (λ (l : Link). l.previous) enter.link)) ≡ true =
    ap (λ o. some_fits wanted (option_map (λ (l : Link). l.content) o) && is_none (option_and_then (λ (l : Link). l.previous) o)) e ∙ ap (λ b. b && true) fit in
    let starts : fitting_starts wanted events ≡ 0 ∷ [] =
    (λ d. cond (first d) (0 ∷ second d) (second d))
    in
    let chain : chain_of events 0 ≡ 0 ∷ [] = ap (λ o. 0 ∷ unwrap_or (option_map (λ d. chain_from 1 events d) (option_and_then (λ (l : Link). l.next) o)) []) e in
    let w : Change = record { index = 0; remove = 2; events = tagged_child 0 0 child } in
    let changes : child_changes wanted events (child ∷ []) ≡ w ∷ [] =
    ap (λ cs. flat_map chain_changes (divided_over events cs (child ∷ []))) starts
    ∙ ap (λ (ks : List ℕ). chain_changes (record { chunks = ks; parts = parts (map (λ k. place_at events (k + 1)) ks) child }) ++ []) chain in
    ap (λ ws. changed ws events) changes
    ∙ ap placed (append-nil (tagged_child 0 0 child ++ []) ∙ append-nil (tagged_child 0 0 child))
    ∙ child-alone 0 child h
  where
    second : cond {A = List ℕ} (some_fits wanted (content_of exit) && is_none (option_and_then (λ (l : Link). l.previous) exit.link)) (1 ∷ []) [] ≡ []
    second = ap (λ o. cond {A = List ℕ} (some_fits wanted (option_map (λ (l : Link). l.content) o) && is_none (option_and_then (λ (l : Link). l.previous) o)) (1 ∷ []) []) f

-- ==== The leaf blocks in the place of a chunk that is a chain by itself: those of its virtual bytes, with the document's letters.
module _ (bytes : List ℕ) (g : Given) (reads : List Seat → List Event) (s : Seat) (ss : List Seat) where
  -- the virtual bytes between its places
  abbrev pub between_places : List Seat
  between_places = filter (in_range (shown bytes s.point) (shown bytes (end_after s.end ss))) (virtual g.tab g.bytes)

  pub lone-leaves : All (EndsBelow (length (reads between_places))) (reads between_places) → blocks_in g reads (lone_chunk bytes (s ∷ ss)) ≡ reads between_places
  lone-leaves h =
      let events : List Event = chained_from 0 None (lone_chunk bytes (s ∷ ss)) in
      let seats : (text_from g events 0).seats ≡ between_places = seats-of g events (chain_of events 0) ∙ append-nil between_places in
      let enter : Event = record { kind = Enter; name = name.Data; point = shown bytes s.point; link = Some (alone_link content.Content) } in
      let exit : Event = event bytes Exit name.Data (end_after s.end ss) in
      one-child (Some content.Content) enter exit content.Content (reads (text_from g events 0).seats) refl refl refl
      (subst (λ l. let child = reads l in All (EndsBelow (length child)) child) (sym seats) h)
      ∙ ap reads seats

-- in a document with letters
module _ (t : ℕ) (some : 0 < t) (at bytes : List ℕ) (plain : ArePlainFrom 0 at bytes) (before : List Seat) (s : Seat) (ss behind : List Seat) (whole : virtual t bytes ≡ before ++ ((s ∷ ss) ++ behind)) where
  pub text-lettered : filter (in_range (shown bytes s.point) (shown bytes (end_after s.end ss))) (virtual t (with_letters at bytes)) ≡ map (lettered_seat at) (s ∷ ss)
  text-lettered =
      let q = end_after (origin t bytes some) before in
      let run = chain-from t bytes some before ((s ∷ ss) ++ behind) whole in
      let from : shown bytes s.point ≡ q = run.1.shown_is in
      let to : shown bytes (end_after s.end ss) ≡ end_after q (s ∷ ss) = place-shown t bytes q (s ∷ ss) behind run in
      ap (filter (in_range (shown bytes s.point) (shown bytes (end_after s.end ss)))) (places_kept t at bytes plain).seats
      ∙ filter-mapped (in_range (shown bytes s.point) (shown bytes (end_after s.end ss))) (in_range (shown bytes s.point) (shown bytes (end_after s.end ss))) (lettered_seat at) (λ x. refl) (virtual t bytes)
      ∙ ap (map (lettered_seat at)) ((λ j. filter (in_range (from j) (to j)) (virtual t bytes)) ∙ range-of t bytes some before (s ∷ ss) behind whole)
