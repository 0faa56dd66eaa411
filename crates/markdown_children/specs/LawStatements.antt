-- Laws about the chains of a list that is ready.
use Rattle.std.specs.Prelude.{◌≡◌, ℕ, ◌+◌, ◌<◌, ◌≤◌, List, [], ◌∷◌, ◌++◌, length, flat_map, drop, replicate, slice_get, suc, if◌then◌else◌, All, Contains, true, Option, Some, None, option_map}
use Rattle.std.specs.List.{AllByRecursion}
use Rattle.markdown_base.specs.declared.event.Content.{Content}
use Rattle.markdown_base.specs.declared.event.Event.{Event}
use Rattle.markdown_base.specs.declared.event.Point.{Point}
use Rattle.markdown_base.specs.Places.{stands_before}
use Rattle.markdown_base.specs.declared.event.Kind.TheVariants.{Enter}
use Rattle.markdown_base.specs.Events.{is_void, relinked, IsBalanced, IsVoidTight, EndsBelow}
use Rattle.markdown_edits.specs.Links.{next_of, AreMutual}
use Rattle.markdown_tokenizer.specs.Plain.{HaveNoLinks}
use Rattle.markdown_edits.specs.Survivors.{AreNew, StaysUnlessRemoved, KeepsLinks}
use Rattle.markdown_edits.specs.Woven.{AreApart}
use Rattle.markdown_edits.specs.Edits.{Edit, AreDisjoint, removed_by, added_by}
use Rattle.markdown_edits.specs.Edited.{edited}
use Rattle.markdown_children.specs.Children.{child_changes, with_children}
use Rattle.markdown_children.specs.Parts.{Divided, parts, divided, child_place, edits_of_chain, divided_over, all_edits}
use Rattle.markdown_children.specs.Chains.{chain_of, begins, fits, fitting_chunks, fitting_starts}
use Rattle.markdown_children.specs.Ready.{IsReady}

-- the property holds for each list that is ready, for a tab size, a document and a filter
abbrev pub ForReadyLists : (ℕ → List ℕ → Option Content → List Event → Type 0) → Type 0
ForReadyLists P = (tab : ℕ) (bytes : List ℕ) (wanted : Option Content) (events : List Event) → IsReady tab bytes wanted events
    → P tab bytes wanted events

-- the chunks after the one at k follow by links, and the last one has no next
abbrev pub LeadOnFrom : List Event → ℕ → List ℕ → Type 0
LeadOnFrom events k [] = next_of events k ≡ None
LeadOnFrom events k (d ∷ ks) = (next_of events k ≡ Some d) × (k < d) × LeadOnFrom events d ks

-- a chain is whole: from its first chunk to its last
abbrev pub IsWholeFrom : List Event → ℕ → Type 0
IsWholeFrom events k = (ks : List ℕ) × (chain_of events k ≡ k ∷ ks) × LeadOnFrom events k ks

-- chunks follow one another: each begins at or behind `from` and ends before the next, and the last ends within n events
abbrev pub AreSpaced : ℕ → List ℕ → ℕ → Type 0
AreSpaced from [] n = from ≤ n
AreSpaced from (k ∷ ks) n = (from ≤ k) × AreSpaced (k + 2) ks n

-- The chunks of the chains that fit, chain by chain, are all chunks that fit, in order; none overlap; and each chain is whole
pub record FollowOneAnother (wanted : Option Content) (events : List Event) : Type 0 where
  pub in_order : flat_map (chain_of events) (fitting_starts wanted events) ≡ fitting_chunks wanted events
  pub spaced : AreSpaced 0 (fitting_chunks wanted events) (length events)
  pub whole : AllByRecursion (IsWholeFrom events) (fitting_starts wanted events)

-- The changes that children make are disjoint and inside the list; the events that they add are new to it
pub record ChangesAreApart (wanted : Option Content) (events : List Event) (children : List (List Event)) : Type 0 where
  pub apart : AreApart 0 (child_changes wanted events children) (length events)
  pub fresh : AreNew (child_changes wanted events children)

-- link ends of a child's events are indices into the child
abbrev pub HasEndsWithin : List Event → Type 0
HasEndsWithin child = All (EndsBelow (length child)) child

-- a void span is entered, and not exited, by the last of these events
abbrev pub EndsInVoidEnter : List Event → Type 0
EndsInVoidEnter [] = ⊥
EndsInVoidEnter (e ∷ []) = (e.kind ≡ Enter) × (is_void e.name ≡ true)
EndsInVoidEnter (e ∷ f ∷ es) = EndsInVoidEnter (f ∷ es)

-- no event is between the chunk at k and the chunks behind it, up to the first of these whose part has events
abbrev pub StandSideBySide : ℕ → List ℕ → List (List Event) → Type 0
StandSideBySide k [] ps = Unit {0}
StandSideBySide k (d ∷ ks) [] = Unit {0}
StandSideBySide k (d ∷ ks) ([] ∷ ps) = (d ≡ k + 2) × StandSideBySide d ks ps
StandSideBySide k (d ∷ ks) ((e ∷ p) ∷ ps) = d ≡ k + 2

-- if a part ends inside a void span, which a later part continues, no event is between their chunks
abbrev pub IsTornNowhere : List ℕ → List (List Event) → Type 0
IsTornNowhere [] ps = Unit {0}
IsTornNowhere (k ∷ ks) [] = Unit {0}
IsTornNowhere (k ∷ ks) (p ∷ ps) = (EndsInVoidEnter p → StandSideBySide k ks ps) × IsTornNowhere ks ps

-- no chunks of the chains that fit tear a void span of their child
abbrev pub NoneTorn : Option Content → List Event → List (List Event) → Type 0
NoneTorn wanted events children =
    AllByRecursion (λ (d : Divided). IsTornNowhere d.chunks d.parts) (divided_over events (fitting_starts wanted events) children)

-- If children are balanced with mutual links, the list stays so. Two events that are not in replaced chunks are linked exactly as before,
-- by both ends. No link leads out of the list. Void spans stay empty if no chunks tear one of a child
pub record ChildrenFit (wanted : Option Content) (events : List Event) (children : List (List Event)) : Type 0 where
  pub balanced : AllByRecursion IsBalanced children → IsBalanced (with_children wanted events children)
  pub inside : HasEndsWithin (with_children wanted events children)
  pub chained : AllByRecursion AreMutual children → AreMutual (with_children wanted events children)
  pub tight : IsVoidTight events → AllByRecursion IsVoidTight children → NoneTorn wanted events children
      → IsVoidTight (with_children wanted events children)
  pub stays : StaysUnlessRemoved (child_changes wanted events children) events
  pub links : KeepsLinks (child_changes wanted events children) events

-- if a list is ready for another content too, it stays so with children that are balanced and have no links
abbrev pub StaysReady : ℕ → List ℕ → Option Content → List Event → Type 0
StaysReady tab bytes wanted events = (next : Option Content) (children : List (List Event)) → IsReady tab bytes next events
    → AllByRecursion IsBalanced children → AllByRecursion HaveNoLinks children → IsReady tab bytes next (with_children wanted events children)

-- a list is ready for each content alone
abbrev pub IsReadyForEach : ℕ → List ℕ → List Event → Type 0
IsReadyForEach tab bytes events = (next : Content) → IsReady tab bytes (Some next) events

-- The edits of the chains that fit, one after another, with link ends as indices into the final list
abbrev pub child_edits : Option Content → List Event → List (List Event) → List Edit
child_edits wanted events children = all_edits 0 0 (divided_over events (fitting_starts wanted events) children)

-- they are disjoint and inside the list, and give the list with children
pub record EditsGiveChildren (wanted : Option Content) (events : List Event) (children : List (List Event)) : Type 0 where
  pub disjoint : AreDisjoint 0 (child_edits wanted events children) (length events)
  pub give : AllByRecursion HasEndsWithin children
      → edited (child_edits wanted events children) events ≡ with_children wanted events children

-- The edits of a chain give event n of its child a place in the final list. After all edits the event is there, and its link ends lead to
-- final places too; any edits may come before the chain and behind it
abbrev pub IsPlacedWell : (before behind : List Edit) → List Event → ℕ → (child : List Event) → Type 0
IsPlacedWell before behind events c child =
    let d = divided events c child in
    let place = child_place d.chunks d.parts (removed_by before) (added_by before) in
    let all = before ++ (edits_of_chain (removed_by before, added_by before) events c child ++ behind) in
    AreDisjoint 0 all (length events) → (n p : ℕ) → place n ≡ Some p
    → slice_get (edited all events) p ≡ option_map (relinked place) (slice_get child n)

-- the chunk is in the chain that begins at an index
abbrev pub IsInChain : List Event → ℕ → ℕ → Type 0
IsInChain events k c = Contains (chain_of events c) k

-- The chunk belongs to one chain that fits, and to no other
pub record IsInOneChain (wanted : Option Content) (events : List Event) (k : ℕ) : Type 0 where
  pub chain : ℕ
  pub begin : begins wanted events chain ≡ true
  pub member : IsInChain events k chain
  pub only : (c : ℕ) → begins wanted events c ≡ true → IsInChain events k c → c ≡ chain

-- The chains of a ready list that fit follow one another, each chunk is in exactly one of them, and the changes of children are disjoint
pub record HasOrderedChains (wanted : Option Content) (events : List Event) : Type 0 where
  pub follow : FollowOneAnother wanted events
  pub once : (k : ℕ) → fits wanted events k ≡ true → IsInOneChain wanted events k
  pub apart : (children : List (List Event)) → ChangesAreApart wanted events children

-- how many chunks are passed over until the first whose end is not before a place; the last one is never passed over
abbrev pub passed_over : List Point → Point → ℕ
passed_over [] p = 0
passed_over (end ∷ []) p = 0
passed_over (end ∷ next ∷ ends) p = if stands_before end p then suc (passed_over (next ∷ ends) p) else 0

-- the number of each event's chunk; chunk c has the first of these ends. The search begins at the chunk of the event before, and takes the
-- first chunk whose end is not before the event; the last one if there is none
abbrev pub chunk_numbers : List Point → ℕ → List Event → List ℕ
chunk_numbers ends c [] = []
chunk_numbers ends c (e ∷ es) =
    let m : ℕ = passed_over ends e.point in
    (c + m) ∷ chunk_numbers (drop m ends) (c + m) es

-- the number of each event's part, the first being c
abbrev pub part_numbers : ℕ → List (List Event) → List ℕ
part_numbers c [] = []
part_numbers c (p ∷ ps) = replicate (length p) c ++ part_numbers (c + 1) ps

-- The parts joined are the child, and each event is in the part of its chunk
pub record AreByChunk (ends : List Point) (child : List Event) : Type 0 where
  pub all : flat_map (λ p. p) (parts ends child) ≡ child
  pub numbers : part_numbers 0 (parts ends child) ≡ chunk_numbers ends 0 child
