-- Inner: whether a list is ready, event by event. No public contract cites this file.
use Rattle.std.specs.Prelude.{ℕ, ◌+◌, ◌<◌, ◌≡◌, ◌==◌, nat_le, nat_lt, ◌&&◌, ◌||◌, not, is_none, Bool, true, false, cond, List, [], ◌∷◌, Option, None, Some, option_and_then, slice_get}
use Rattle.std.specs.List.{list_all, between}
use denote.Enum.Bare.{sameb}
use Rattle.markdown_base.specs.contracts.event.Kind.{the_type as kinds}
use Rattle.markdown_base.specs.contracts.event.Content.{the_type as contents}
use Rattle.markdown_base.specs.declared.event.Content.{Content}
use Rattle.markdown_base.specs.declared.event.Content.TheVariants.{Flow}
use Rattle.markdown_base.specs.declared.event.Event.{Event}
use Rattle.markdown_base.specs.declared.event.Kind.TheVariants.{Enter, Exit}
use Rattle.markdown_base.specs.declared.event.Link.{Link}
use Rattle.markdown_base.specs.declared.event.Name.{Name}
use Rattle.markdown_base.specs.declared.event.Point.{Point}
use Rattle.markdown_base.specs.Events.{is_void, same_name}
use Rattle.markdown_base.specs.Places.{stands_before}
use Rattle.markdown_base.specs.OpenNames.{names_after_all}
use Rattle.markdown_children.specs.Chains.{lets_through}
use Rattle.markdown_children.specs.Ready.{place_at}

-- no name is open
abbrev pub is_closed : Option (List Name) → Bool
is_closed None = false
is_closed (Some []) = true
is_closed (Some (n ∷ names)) = false

-- the list is balanced
abbrev pub closes : List Event → Bool
closes events = is_closed (names_after_all (Some []) events)

-- the link of the event at an index
abbrev pub link_at : List Event → ℕ → Option Link
link_at events i = option_and_then (λ (e : Event). e.link) (slice_get events i)

-- there is a number, and it is this one
abbrev pub is_number : Option ℕ → ℕ → Bool
is_number None k = false
is_number (Some n) k = n == k

-- an event enters a void name, and the next one exits it
abbrev pub is_void_span : Option Event → Option Event → Bool
is_void_span None o = false
is_void_span (Some e) None = false
is_void_span (Some e) (Some f) = (sameb kinds e.kind Enter && is_void e.name) && (sameb kinds f.kind Exit && same_name f.name e.name)

abbrev pub is_chunk : List Event → ℕ → Bool
is_chunk events k = is_void_span (slice_get events k) (slice_get events (k + 1))

-- the link's previous event is at this index, and its content is this one
abbrev pub leads_back_to : ℕ → Content → Option Link → Bool
leads_back_to k c None = false
leads_back_to k c (Some l) = is_number l.previous k && sameb contents l.content c

-- the next event, if there is one, links back
abbrev pub is_joined_on : List Event → ℕ → Content → Option ℕ → Bool
is_joined_on events k c None = true
is_joined_on events k c (Some d) = nat_lt k d && leads_back_to k c (link_at events d)

-- the link's next event is at this index
abbrev pub leads_on_to : ℕ → Option Link → Bool
leads_on_to k None = false
leads_on_to k (Some l) = is_number l.next k

-- the previous event, if there is one, links on
abbrev pub is_joined_back : List Event → ℕ → Option ℕ → Bool
is_joined_back events k None = true
is_joined_back events k (Some p) = leads_on_to k (link_at events p)

-- what is required of an event with this link
abbrev pub is_sound : List Event → ℕ → Option Link → Bool
is_sound events k None = true
is_sound events k (Some l) = is_chunk events k && (is_joined_on events k l.content l.next && is_joined_back events k l.previous)

abbrev pub is_sound_at : List Event → ℕ → Bool
is_sound_at events k = is_sound events k (link_at events k)

-- two points are equal
abbrev pub is_same_point : Point → Point → Bool
is_same_point p q = ((p.line == q.line) && (p.column == q.column)) && ((p.index == q.index) && (p.vs == q.vs))

-- there is no text between two places, or it begins a line and ends in that line
abbrev pub is_in_line : Point → Point → Bool
is_in_line p q = not (stands_before q p) && (is_same_point p q || ((p.column == 1) && (q.line == p.line)))

-- no event has a link
abbrev pub has_no_link : List Event → Bool
has_no_link events = list_all (λ (e : Event). is_none e.link) events

-- there is a gap between the chunk at k and the next one at d
abbrev pub is_gap : List Event → ℕ → ℕ → Bool
is_gap events k d =
    (nat_le (k + 2) d && is_in_line (place_at events (k + 1)) (place_at events d))
    && (has_no_link (between (k + 2) d events) && closes (between (k + 2) d events))

abbrev pub is_gap_on : List Event → ℕ → Option ℕ → Bool
is_gap_on events k None = true
is_gap_on events k (Some d) = is_gap events k d

-- the chunk's text begins and ends at places that pass the test, and does not run backwards
abbrev pub is_readable : (Point → Bool) → List Event → ℕ → Content → Bool
is_readable place events k c =
    (not (sameb contents c Flow) && not (stands_before (place_at events (k + 1)) (place_at events k)))
    && (place (place_at events k) && place (place_at events (k + 1)))

-- what is required of a chunk with this link
abbrev pub can_be_read : (Point → Bool) → Option Content → List Event → ℕ → Option Link → Bool
can_be_read place wanted events k None = true
can_be_read place wanted events k (Some l) =
    cond (lets_through wanted l.content) (is_readable place events k l.content && is_gap_on events k l.next) true

abbrev pub can_be_read_at : (Point → Bool) → Option Content → List Event → ℕ → Bool
can_be_read_at place wanted events k = can_be_read place wanted events k (link_at events k)

-- each number below n passes
abbrev pub AllBelow : ℕ → (ℕ → Bool) → Type 0
AllBelow n test = (k : ℕ) → k < n → test k ≡ true

-- some number below n fails
abbrev pub FailsSomewhere : ℕ → (ℕ → Bool) → Type 0
FailsSomewhere n test = (k : ℕ) × (k < n) × (test k ≡ false)
