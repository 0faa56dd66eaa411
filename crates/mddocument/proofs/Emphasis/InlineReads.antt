-- Inline text as it is read: its innermost spans are atoms, whose delimiter runs go byte by byte, and its brackets hold their markers alone.
use Rattle.mddocument.proofs.Prelude.{ℕ, Bool, List, [], ◌∷◌, ◌++◌, sym, ◌∙◌, subst, append-nil, AllByRecursion, flat_map, Constructs, Event, Point, IsBalanced, Seat, point, empty_text, item_events, inline_items, read-balanced, AcrossGap, Course, Place, course-place, document, options_with}
use Rattle.mddocument.proofs.Emphasis.InlineRuns.{inline-runs}
use Rattle.mddocument.proofs.Emphasis.InlineShapes.{inline-shaped}
use Rattle.mddocument.proofs.Emphasis.LinkAccounts.{IsRead, links-account}
use Rattle.mddocument.proofs.Emphasis.Bytewise.{reads-bytewise}
use Rattle.mddocument.proofs.Emphasis.Pairs.{HaveAtoms, pairs-of-atoms}
use Rattle.mddocument.proofs.Emphasis.Shapes.{shaped-hold}
use Rattle.mddocument.proofs.Emphasis.Tracked.{runs-tracked}
use Rattle.mddocument.proofs.FlowTexts.InlineSteps.{Steps}
use Rattle.mddocument.proofs.InContainers.Places.{EndsAt}
use Rattle.mddocument.proofs.Innermost.Lined.{LinedFor}
use Rattle.mdinline_links.specs.Linked.{with_links}
use Rattle.mdinline_links.specs.Places.{AreBytewise}

module _ (t : ℕ) (bytes : List ℕ) where
  -- virtual bytes of a text are shown and end at places of the document
  pub course-ends : (p : Point) (seats rest : List Seat) → Course AcrossGap t bytes p (seats ++ rest) → AllByRecursion (EndsAt (Place t bytes) bytes) seats
  course-ends p [] rest course = tt
  course-ends p (s ∷ ss) rest course =
      let there = course-place AcrossGap t bytes s.end (ss ++ rest) course.2 in
      ((course.1.seat.here, subst (Place t bytes) (sym there.is_shown) there), course-ends s.end ss rest course.2)

  module _ (defined : List ℕ → Bool) (on : Constructs) (seats : List Seat) where
    -- what is read of them
    abbrev pub read_of : List Event
    read_of = flat_map (item_events bytes) (inline_items on defined bytes seats)

    pub balanced-of : IsBalanced read_of
    balanced-of = read-balanced defined (document (options_with on 4) bytes) (record (empty_text (point 1 1 0 0)) { seats = seats })

    module _ (p : Point) (rest : List Seat) (course : Course AcrossGap t bytes p (seats ++ rest)) (steps : AllByRecursion (Steps bytes) seats) where
      pub is-read : IsRead bytes seats read_of []
      is-read =
          let cut = inline-runs bytes on defined seats in
          let atoms = cut.0.atoms in
          let have : HaveAtoms bytes read_of atoms = subst (λ l. HaveAtoms bytes l atoms) (sym cut.0.are) (pairs-of-atoms bytes atoms) in
          let good = runs-tracked bytes t atoms p rest (subst (λ l. Course AcrossGap t bytes p (l ++ rest)) cut.0.all course) (subst (AllByRecursion (Steps bytes)) cut.0.all steps) cut.1 in
          record { atoms = atoms; have = have; lines = cut.0.lines; are = cut.0.all ∙ sym (append-nil _); good = good }

      pub read-bytewise : (At : Point → Type 0) → AllByRecursion (EndsAt At bytes) seats → AreBytewise At read_of
      read-bytewise At ends = reads-bytewise At bytes read_of seats [] balanced-of is-read ends

      -- links, images and emphasis account for them, line by line
      pub read-lined : (one : Bool) → LinedFor (with_links one bytes read_of) bytes seats
      read-lined one =
          let r = is-read in
          subst (LinedFor (with_links one bytes read_of) bytes) (sym (r.are ∙ append-nil _))
          (links-account bytes one read_of r.atoms balanced-of (shaped-hold read_of (inline-shaped bytes on defined seats)) r.have r.lines r.good)
