-- Lists of events: balanced, void spans empty, in order of place; what is said of the ends of their links.
--
-- An event enters or exits a span of the document (the crate's comment on events); spans nest.
use Rattle.std.specs.Prelude.{◌≡◌, ℕ, ◌+◌, ◌-◌, ◌<◌, Bool, true, false, List, [], ◌∷◌, ◌++◌, length, take, map, Option, Some, None, IfSome, option_map, option_and_then, All, AllPairs, slice_get}
use Rattle.std.specs.List.{list_any}
use denote.Enum.Bare.{sameb}
use Rattle.markdown_base.specs.contracts.event.Name.{the_type}
use Rattle.markdown_base.specs.declared.event.Event.{Event}
use Rattle.markdown_base.specs.declared.event.Kind.{Kind}
use Rattle.markdown_base.specs.declared.event.Kind.TheVariants.{Enter, Exit}
use Rattle.markdown_base.specs.declared.event.Link.{Link}
use Rattle.markdown_base.specs.declared.event.Name.{Name}
use Rattle.markdown_base.specs.Places.{stands_before, IsShown}
use Rattle.markdown_base.specs.VoidNames.{void_names}

-- whether two names are equal
abbrev pub same_name : Name → Name → Bool
same_name a b = sameb the_type a b

-- whether a name is a void name: its spans hold no other event (the crate's comment on void events)
abbrev pub is_void : Name → Bool
is_void n = list_any (λ v. same_name v n) void_names

-- whether this begins a span
abbrev pub is_enter : Kind → Bool
is_enter Enter = true
is_enter Exit = false

-- the link with each of its ends changed by f
abbrev pub with_ends : (ℕ → Option ℕ) → Link → Link
with_ends f l = record l { previous = option_and_then f l.previous; next = option_and_then f l.next }

-- the event with each end of its link changed by f
abbrev pub relinked : (ℕ → Option ℕ) → Event → Event
relinked f e = record e { link = option_map (with_ends f) e.link }

-- each end of a link has the property
abbrev pub EachEnd : (ℕ → Type 0) → Link → Type 0
EachEnd P l = IfSome l.previous P × IfSome l.next P

-- if the event has a link, each of its ends is an index below n
abbrev pub EndsBelow : ℕ → Event → Type 0
EndsBelow n e = IfSome e.link (EachEnd (λ k. k < n))

-- the event with each end of its link taken away: whether there is a link, and what its chain is read as, stay
abbrev pub unlinked : Event → Event
unlinked e = relinked (λ k. None) e

-- the longer list begins with the shorter one, up to link ends
abbrev pub HasFrontUpToLinkEnds : (longer shorter : List Event) → Type 0
HasFrontUpToLinkEnds longer shorter = map unlinked (take (length shorter) longer) ≡ map unlinked shorter

-- a list is balanced: it is empty, or an enter of a name, a balanced list, an exit of that name, and a balanced list
pub data IsBalanced : List Event → Type 0 where
  empty : IsBalanced []
  span : (e f : Event) (xs ys : List Event) {l : List Event} → l ≡ e ∷ (xs ++ f ∷ ys) → e.kind ≡ Enter → f.kind ≡ Exit → f.name ≡ e.name
      → IsBalanced xs → IsBalanced ys → IsBalanced l

-- the open enters after one more event: an enter is open, and an exit ends the last open one
abbrev pub open_after : Kind → Event → List Event → List Event
open_after Enter e before = before ++ e ∷ []
open_after Exit e before = take (length before - 1) before

-- the open enters after these events, if some were open before
abbrev pub open_events_from : List Event → List Event → List Event
open_events_from before [] = before
open_events_from before (e ∷ es) = open_events_from (open_after e.kind e before) es

-- the enters that no exit has ended, outermost first
abbrev pub open_events : List Event → List Event
open_events events = open_events_from [] events

-- each enter of a void name is directly followed by the exit of its name
abbrev pub IsVoidTight : List Event → Type 0
IsVoidTight events = (k : ℕ) (e : Event) → slice_get events k ≡ Some e → e.kind ≡ Enter → is_void e.name ≡ true
    → (f : Event) × (slice_get events (k + 1) ≡ Some f) × (f.kind ≡ Exit) × (f.name ≡ e.name)

-- the places of events never decrease, and none is between a CR and its LF
abbrev pub IsInOrder : List ℕ → List Event → Type 0
IsInOrder bytes events = AllPairs (λ e f. stands_before f.point e.point ≡ false) events × All (λ e. IsShown bytes e.point) events
