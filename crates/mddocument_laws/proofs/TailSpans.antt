-- Tails of links: what spans of their names keep holds of the events of what is in them.
use Rattle.mddocument_laws.proofs.Prelude.{Seat, leaf, span, Stretch, cut}
use Rattle.std.proofs.Common.{ℕ, ◌-◌, List, [], ◌∷◌, ◌++◌, Some, None, Option, take, drop, length}
use Rattle.std.proofs.lemmas.Bool.{cond_both}
use Rattle.std.specs.List.{AllByRecursion, between, flat_map}
use Rattle.markdown_base.specs.declared.event.Event.{Event}
use Rattle.markdown_base.specs.declared.event.Name.{Name}
use Rattle.markdown_base.specs.declared.event.Name.TheVariants as name
use Rattle.mdinline_labels.specs.Tails.{begins_with}
use Rattle.mdinline_constructs.specs.HtmlText.{Piece, data_run, line_break, piece_at, piece_length}
use Rattle.mdinline_text_machine.specs.Parts.{bytes_of}
use Rattle.mdinline_link_tails.specs.Resource.{behind_destination, destination_events, destination_string, gap_events, in_marks, in_resource, line_events, string_events, title_events, unmarked}

-- the names of what is in a resource
pub record AreInResource (May : Name → Type 0) : Type 0 where
  pub text : May name.Data
  pub line_ending : May name.LineEnding
  pub white : May name.SpaceOrTab
  pub destination : May name.ResourceDestination
  pub destination_literal : May name.ResourceDestinationLiteral
  pub destination_literal_marker : May name.ResourceDestinationLiteralMarker
  pub destination_raw : May name.ResourceDestinationRaw
  pub destination_string : May name.ResourceDestinationString
  pub title : May name.ResourceTitle
  pub title_marker : May name.ResourceTitleMarker
  pub title_string : May name.ResourceTitleString

-- what resources are made of
abbrev pub resource_names : List Name
resource_names =
    name.Data ∷ name.LineEnding ∷ name.SpaceOrTab ∷ name.ResourceDestination ∷ name.ResourceDestinationLiteral ∷ name.ResourceDestinationLiteralMarker ∷ name.ResourceDestinationRaw ∷ name.ResourceDestinationString
    ∷ name.ResourceTitle ∷ name.ResourceTitleMarker ∷ name.ResourceTitleString ∷ []

pub are-in-resource : (May : Name → Type 0) → AllByRecursion May resource_names → AreInResource May
are-in-resource May (a, (b, (c, (d, (e, (f, (g, (h, (i, (j, (k, _))))))))))) = record {
  text = a;
  line_ending = b;
  white = c;
  destination = d;
  destination_literal = e;
  destination_literal_marker = f;
  destination_raw = g;
  destination_string = h;
  title = i;
  title_marker = j;
  title_string = k;
}

-- What holds of no events, of two lists if of both, and of a span of such a name if of what is in it
pub record IsKeptInside (bytes : List ℕ) (May : Name → Type 0) (Are : List Event → Type 0) : Type 0 where
  pub none : Are []
  pub both : (xs ys : List Event) → Are xs → Are ys → Are (xs ++ ys)
  pub span_around : (n : Name) (seats : List Seat) (inside : List Event) → May n → Are inside → Are (span bytes n seats inside)

module _ (bytes : List ℕ) (May : Name → Type 0) (Are : List Event → Type 0) (kept : IsKeptInside bytes May Are) where
  leafs : (n : Name) (seats : List Seat) → May n → Are (leaf bytes n seats)
  leafs n seats p = kept.span_around n seats [] p kept.none

  pub in-marks : (n mark : Name) (inside : List Event) (seats : List Seat) → May n → May mark → Are inside → Are (in_marks bytes n mark inside seats)
  in-marks n mark inside seats p m h =
      let first = leaf bytes mark (take 1 seats) in
      let last = leaf bytes mark (drop (length seats - 1) seats) in
      kept.span_around n seats (first ++ (inside ++ last)) p (kept.both first (inside ++ last) (leafs mark (take 1 seats) m) (kept.both inside last h (leafs mark (drop (length seats - 1) seats) m)))

  module _ (names : AreInResource May) where
    line-pieces : (ps : List (Piece × List Seat)) → Are (flat_map (line_events bytes) ps)
    line-pieces [] = kept.none
    line-pieces ((line_break k, seats) ∷ ps) =
        let first = leaf bytes name.LineEnding (take 1 seats) in
        let second = leaf bytes name.SpaceOrTab (drop 1 seats) in
        kept.both (first ++ second) (flat_map (line_events bytes) ps) (kept.both first second (leafs name.LineEnding (take 1 seats) names.line_ending) (leafs name.SpaceOrTab (drop 1 seats) names.white)) (line-pieces ps)
    line-pieces ((data_run k, seats) ∷ ps) = kept.both (leaf bytes name.Data seats) (flat_map (line_events bytes) ps) (leafs name.Data seats names.text) (line-pieces ps)

    pub strings-of : (seats : List Seat) → Are (string_events bytes seats)
    strings-of seats = line-pieces (cut piece_at piece_length (length seats) seats)

    gaps : (seats : List Seat) → Are (gap_events bytes seats)
    gaps seats = search (kept.both, leafs, names)

    destination-string : (seats : List Seat) → Are (destination_string bytes seats)
    destination-string seats = search (kept.span_around, leafs, names)

    destinations : (seats : List Seat) → Are (destination_events bytes seats)
    destinations seats = kept.span_around name.ResourceDestination seats _ names.destination (cond_both (begins_with 60 (bytes_of seats)) _ _ Are
        (λ e. in-marks name.ResourceDestinationLiteral name.ResourceDestinationLiteralMarker _ seats names.destination_literal names.destination_literal_marker (destination-string _))
        (λ e. kept.span_around name.ResourceDestinationRaw seats _ names.destination_raw (destination-string seats)))

    titles : (seats : List Seat) → Are (title_events bytes seats)
    titles seats = in-marks name.ResourceTitle name.ResourceTitleMarker _ seats names.title names.title_marker (kept.span_around name.ResourceTitleString (unmarked bytes seats) _ names.title_string (strings-of (unmarked bytes seats)))

    behind-destinations : (title : Option Stretch) (from last : ℕ) (seats : List Seat) → Are (behind_destination bytes title from last seats)
    behind-destinations None from last seats = gaps (between from last seats)
    behind-destinations (Some t) from last seats = search (kept.both, gaps, titles)

    pub in-resources : (destination title : Option Stretch) (last : ℕ) (seats : List Seat) → Are (in_resource bytes destination title last seats)
    in-resources None title last seats = gaps (between 1 last seats)
    in-resources (Some d) title last seats = search (kept.both, gaps, destinations, behind-destinations)
