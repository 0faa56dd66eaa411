-- The events of a resource are of neither runs nor brackets.
use Rattle.mddocument.proofs.Prelude.{◌≡◌, ℕ, ◌-◌, true, false, cond, List, [], ◌∷◌, ◌++◌, Option, Some, None, length, take, drop, refl, subst, option_map, AllByRecursion, between, flat_map, prefix_len, every-append, Data, Event, LineEnding, SpaceOrTab, Seat, leaf, span, Found, bytes_of, cut, piece_at, piece_length}
use Rattle.markdown_base.specs.declared.event.Name.{Name}
use Rattle.markdown_base.specs.declared.event.Name.TheVariants.{Resource, ResourceDestination, ResourceDestinationLiteral, ResourceDestinationLiteralMarker, ResourceDestinationRaw, ResourceDestinationString, ResourceMarker, ResourceTitle, ResourceTitleMarker, ResourceTitleString}
use Rattle.mdinline_labels.specs.declared.definitions.Stretch.{Stretch}
use Rattle.mdinline_labels.specs.declared.resources.Resource.{Resource as Parts}
use Rattle.mdinline_labels.specs.Definitions.{end}
use Rattle.mdinline_labels.specs.Resources.{resource_at}
use Rattle.mdinline_labels.specs.Tails.{begins_with, is_white}
use Rattle.mdinline_link_tails.specs.Resource.{behind_destination, destination_events, destination_string, gap_events, in_marks, in_resource, line_events, resource, resource_grammar, string_events, title_events, title_string, unmarked}
use Rattle.mdinline_constructs.specs.HtmlText.{Piece, data_run, line_break}
use Rattle.mddocument.proofs.Emphasis.RunAtoms.{IsOther, is_special}
use Rattle.mddocument.proofs.FlowTexts.InlineSteps.{free-leaf, free-span, free-three}

module _ (bytes : List ℕ) where
  abbrev pub Others : List Event → Type 0
  Others es = AllByRecursion IsOther es

  pub free-marked : (name mark : Name) (inside : List Event) (seats : List Seat) → is_special name ≡ false → is_special mark ≡ false → Others inside → Others (in_marks bytes name mark inside seats)
  free-marked name mark inside seats h k i =
      free-span 4 bytes name seats (leaf bytes mark (take 1 seats) ++ (inside ++ leaf bytes mark (drop (length seats - 1) seats))) h
      (free-three 4 bytes mark mark (take 1 seats) (drop (length seats - 1) seats) inside k k i)

  free-line : (p : Piece × List Seat) → Others (line_events bytes p)
  free-line (line_break n, seats) =
      every-append IsOther (leaf bytes LineEnding (take 1 seats)) (leaf bytes SpaceOrTab (drop 1 seats)) (free-leaf 4 bytes LineEnding (take 1 seats) refl) (free-leaf 4 bytes SpaceOrTab (drop 1 seats) refl)
  free-line (data_run n, seats) = free-leaf 4 bytes Data seats refl

  pub free-lines : (ps : List (Piece × List Seat)) → Others (flat_map (line_events bytes) ps)
  free-lines [] = tt
  free-lines (p ∷ ps) = every-append IsOther (line_events bytes p) (flat_map (line_events bytes) ps) (free-line p) (free-lines ps)

  free-gap : (seats : List Seat) → Others (gap_events bytes seats)
  free-gap seats =
      let n = prefix_len is_white (bytes_of seats) in
      let rest = drop n seats in
      every-append IsOther (leaf bytes SpaceOrTab (take n seats)) (leaf bytes LineEnding (take 1 rest) ++ leaf bytes SpaceOrTab (drop 1 rest)) (free-leaf 4 bytes SpaceOrTab (take n seats) refl)
      (every-append IsOther (leaf bytes LineEnding (take 1 rest)) (leaf bytes SpaceOrTab (drop 1 rest)) (free-leaf 4 bytes LineEnding (take 1 rest) refl) (free-leaf 4 bytes SpaceOrTab (drop 1 rest) refl))

  free-string : (seats : List Seat) → Others (destination_string bytes seats)
  free-string seats = free-span 4 bytes ResourceDestinationString seats (leaf bytes Data seats) refl (free-leaf 4 bytes Data seats refl)

  free-title : (seats : List Seat) → Others (title_events bytes seats)
  free-title seats =
      let inside = unmarked bytes seats in
      free-marked ResourceTitle ResourceTitleMarker (title_string bytes inside) seats refl refl
      (free-span 4 bytes ResourceTitleString inside (string_events bytes inside) refl (free-lines (cut piece_at piece_length (length inside) inside)))

  free-destination : (seats : List Seat) → Others (destination_events bytes seats)
  free-destination seats =
      let enclosed = in_marks bytes ResourceDestinationLiteral ResourceDestinationLiteralMarker (destination_string bytes (unmarked bytes seats)) seats in
      let raw = span bytes ResourceDestinationRaw seats (destination_string bytes seats) in
      free-span 4 bytes ResourceDestination seats (cond (begins_with 60 (bytes_of seats)) enclosed raw) refl
      (elim (begins_with 60 (bytes_of seats)) as (λ t. Others (cond t enclosed raw)) [
        | true ↦ free-marked ResourceDestinationLiteral ResourceDestinationLiteralMarker (destination_string bytes (unmarked bytes seats)) seats refl refl (free-string (unmarked bytes seats))
        | false ↦ free-span 4 bytes ResourceDestinationRaw seats (destination_string bytes seats) refl (free-string seats)
      ])

  free-behind : (title : Option Stretch) (from last : ℕ) (seats : List Seat) → Others (behind_destination bytes title from last seats)
  free-behind None from last seats = free-gap (between from last seats)
  free-behind (Some t) from last seats =
      let first = gap_events bytes (between from t.from seats) in
      let title = title_events bytes (between t.from (end t) seats) in
      let rest = gap_events bytes (between (end t) last seats) in
      every-append IsOther first (title ++ rest) (free-gap (between from t.from seats)) (every-append IsOther title rest (free-title (between t.from (end t) seats)) (free-gap (between (end t) last seats)))

  free-inside : (destination title : Option Stretch) (last : ℕ) (seats : List Seat) → Others (in_resource bytes destination title last seats)
  free-inside None title last seats = free-gap (between 1 last seats)
  free-inside (Some d) title last seats =
      let first = gap_events bytes (between 1 d.from seats) in
      let destination = destination_events bytes (between d.from (end d) seats) in
      let rest = behind_destination bytes title (end d) last seats in
      every-append IsOther first (destination ++ rest) (free-gap (between 1 d.from seats)) (every-append IsOther destination rest (free-destination (between d.from (end d) seats)) (free-behind title (end d) last seats))

  pub free-resource : (text : List ℕ) (tail : Found) → resource_grammar.front text ≡ Some tail → (seats : List Seat) → Others (tail.events bytes seats)
  free-resource text tail is seats = by (resource_at text) is
    where
      by : (o : Option Parts) → option_map resource o ≡ Some tail → Others (tail.events bytes seats)
      by None e = absurd (cc)
      by (Some r) e =
          let same : resource r ≡ tail = cc in
          subst (λ (t : Found). Others (t.events bytes seats)) same (free-marked Resource ResourceMarker (in_resource bytes r.destination r.title (r.size - 1) seats) seats refl refl (free-inside r.destination r.title (r.size - 1) seats))
