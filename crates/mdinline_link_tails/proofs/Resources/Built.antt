-- What spans keep holds of the events of a resource.
use Rattle.std.proofs.Common.{◌≡◌, ℕ, ◌-◌, List, [], ◌++◌, Bool, true, false, cond, Option, Some, None, refl, subst, take, drop, length}
use Rattle.std.specs.List.{between, prefix_len}
use Rattle.std.specs.Prelude.{option_map}
use Rattle.markdown_base.specs.declared.event.Event.{Event}
use Rattle.markdown_base.specs.declared.event.Name.{Name}
use Rattle.markdown_base.specs.declared.event.Name.TheVariants.{Data, LineEnding, SpaceOrTab, Resource, ResourceDestination, ResourceDestinationLiteral, ResourceDestinationLiteralMarker, ResourceDestinationRaw, ResourceDestinationString, ResourceMarker, ResourceTitle, ResourceTitleMarker, ResourceTitleString}
use Rattle.markdown_base.specs.Virtual.{Seat}
use Rattle.markdown_base.specs.Events.{is_void}
use Rattle.mdinline_labels.specs.declared.definitions.Stretch.{Stretch}
use Rattle.mdinline_labels.specs.declared.resources.Resource.{Resource as Parts}
use Rattle.mdinline_labels.specs.Definitions.{end}
use Rattle.mdinline_labels.specs.Resources.{resource_at}
use Rattle.mdinline_labels.specs.Tails.{begins_with, is_white}
use Rattle.mdinline_constructs.specs.HtmlText.{Piece, data_run, line_break, piece_at, piece_length}
use Rattle.mdinline_text_machine.proofs.Texts.Built.{IsBuilt, IsKeptBySpans, flat-built, three}
use Rattle.mdinline_text_machine.specs.Construct.{Found}
use Rattle.mdinline_text_machine.specs.Parts.{bytes_of, cut, leaf, span}
use Rattle.mdinline_link_tails.specs.Resource.{behind_destination, destination_events, destination_string, gap_events, in_marks, in_resource, line_events, resource, resource_grammar, string_events, title_events, title_string, unmarked}

module _ (bytes : List ℕ) (P : List Event → Type 0) (kept : IsKeptBySpans bytes P) where
  marked-built : (name mark : Name) (inside : List Event) (seats : List Seat) → is_void name ≡ false → P inside → P (in_marks bytes name mark inside seats)
  marked-built name mark inside seats full h =
      kept.around name seats (leaf bytes mark (take 1 seats) ++ (inside ++ leaf bytes mark (drop (length seats - 1) seats))) full (three bytes P kept mark mark (take 1 seats) (drop (length seats - 1) seats) inside h)

  line-built : (p : Piece × List Seat) → P (line_events bytes p)
  line-built (line_break n, seats) = kept.both (leaf bytes LineEnding (take 1 seats)) (leaf bytes SpaceOrTab (drop 1 seats)) (kept.alone LineEnding (take 1 seats)) (kept.alone SpaceOrTab (drop 1 seats))
  line-built (data_run n, seats) = kept.alone Data seats

  -- a string
  pub lines-built : (seats : List Seat) → P (string_events bytes seats)
  lines-built seats = flat-built bytes P kept (line_events bytes) (cut piece_at piece_length (length seats) seats) line-built

  gap-built : (seats : List Seat) → P (gap_events bytes seats)
  gap-built seats =
      let n = prefix_len is_white (bytes_of seats) in
      let rest = drop n seats in
      kept.both (leaf bytes SpaceOrTab (take n seats)) (leaf bytes LineEnding (take 1 rest) ++ leaf bytes SpaceOrTab (drop 1 rest)) (kept.alone SpaceOrTab (take n seats))
      (kept.both (leaf bytes LineEnding (take 1 rest)) (leaf bytes SpaceOrTab (drop 1 rest)) (kept.alone LineEnding (take 1 rest)) (kept.alone SpaceOrTab (drop 1 rest)))

  string-built : (seats : List Seat) → P (destination_string bytes seats)
  string-built seats = kept.around ResourceDestinationString seats (leaf bytes Data seats) refl (kept.alone Data seats)

  title-built : (seats : List Seat) → P (title_events bytes seats)
  title-built seats =
      let inside = unmarked bytes seats in
      marked-built ResourceTitle ResourceTitleMarker (title_string bytes inside) seats refl (kept.around ResourceTitleString inside (string_events bytes inside) refl (lines-built inside))

  destination-built : (seats : List Seat) → P (destination_events bytes seats)
  destination-built seats =
      let enclosed = in_marks bytes ResourceDestinationLiteral ResourceDestinationLiteralMarker (destination_string bytes (unmarked bytes seats)) seats in
      let raw = span bytes ResourceDestinationRaw seats (destination_string bytes seats) in
      kept.around ResourceDestination seats (cond (begins_with 60 (bytes_of seats)) enclosed raw) refl
      (elim (begins_with 60 (bytes_of seats)) as (λ t. P (cond t enclosed raw)) [
        | true ↦ marked-built ResourceDestinationLiteral ResourceDestinationLiteralMarker (destination_string bytes (unmarked bytes seats)) seats refl (string-built (unmarked bytes seats))
        | false ↦ kept.around ResourceDestinationRaw seats (destination_string bytes seats) refl (string-built seats)
      ])

  behind-built : (title : Option Stretch) (from last : ℕ) (seats : List Seat) → P (behind_destination bytes title from last seats)
  behind-built None from last seats = gap-built (between from last seats)
  behind-built (Some t) from last seats =
      let first = gap_events bytes (between from t.from seats) in
      let title = title_events bytes (between t.from (end t) seats) in
      let rest = gap_events bytes (between (end t) last seats) in
      kept.both first (title ++ rest) (gap-built (between from t.from seats)) (kept.both title rest (title-built (between t.from (end t) seats)) (gap-built (between (end t) last seats)))

  inside-built : (destination title : Option Stretch) (last : ℕ) (seats : List Seat) → P (in_resource bytes destination title last seats)
  inside-built None title last seats = gap-built (between 1 last seats)
  inside-built (Some d) title last seats =
      let first = gap_events bytes (between 1 d.from seats) in
      let destination = destination_events bytes (between d.from (end d) seats) in
      let rest = behind_destination bytes title (end d) last seats in
      kept.both first (destination ++ rest) (gap-built (between 1 d.from seats)) (kept.both destination rest (destination-built (between d.from (end d) seats)) (behind-built title (end d) last seats))

  -- so of a resource that is found
  pub resource-built : (text : List ℕ) (tail : Found) → resource_grammar.front text ≡ Some tail → IsBuilt bytes P kept tail
  resource-built text tail is =
      elim (resource_at text) as (λ o. option_map resource o ≡ Some tail → IsBuilt bytes P kept tail) [
        | None ↦ λ e. absurd (cc)
        | Some r ↦ λ e.
            let same : resource r ≡ tail = cc in
            subst (IsBuilt bytes P kept) same (λ seats. marked-built Resource ResourceMarker (in_resource bytes r.destination r.title (r.size - 1) seats) seats refl (inside-built r.destination r.title (r.size - 1) seats))
      ] is
