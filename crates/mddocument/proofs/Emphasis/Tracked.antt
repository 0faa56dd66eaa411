use Rattle.mddocument.proofs.Prelude.{◌≡◌, ℕ, true, false, Some, inl, inr, List, [], ◌∷◌, ◌++◌, append_assoc, sym, ap, ◌∙◌, subst, slice_get, AllByRecursion, Point, shown, Seat, end_after, every-back, every-front, later, same, marker_from, Atom, atom_seats, seats_of, is_delimiter, Track, track-place, append-nil, AcrossGap, Course, course-on, line-track}
use Rattle.std.proofs.lemmas.Bool.{cases_Bool}
use Rattle.mdinline_emphasis.proofs.Markers.{byte-from, same-is}
use Rattle.mdinline_emphasis.specs.Emphasis.{marker_byte}
-- Delimiter runs among atoms, by their virtual bytes: in a text they go byte by byte, and two that adjoin have different markers.
use Rattle.mddocument.proofs.Emphasis.Follow.{FollowFrom}
use Rattle.mddocument.proofs.Emphasis.RunAtoms.{AreDelimiters, AreWholeRuns, Stops}
use Rattle.mddocument.proofs.Emphasis.LinkAccounts.{AreGood, StopsAt, marker_at}
use Rattle.mddocument.proofs.FlowTexts.InlineSteps.{Steps, delimiters-whole}

-- two delimiters that are not equal are different markers
markers-differ : (x y : ℕ) → is_delimiter x ≡ true → is_delimiter y ≡ true → (x ≡ y → ⊥) → same (marker_from (Some x)) (marker_from (Some y)) ≡ false
markers-differ x y h k differ =
    let a = marker_from (Some x) in
    let b = marker_from (Some y) in
    elim (cases_Bool (same a b)) [
      | inl one ↦ absurd (differ (sym (byte-from x h) ∙ ap marker_byte (same-is a b one) ∙ byte-from y k))
      | inr other ↦ other
    ]

module _ (bytes : List ℕ) where
  marker-is : (s : Seat) → Steps bytes s → is_delimiter s.byte ≡ true → marker_at bytes s ≡ marker_from (Some s.byte)
  marker-is s steps is = let step = steps is in ap (λ (q : Point). marker_from (slice_get bytes q.index)) step.1 ∙ ap marker_from step.2

  -- where a run stops, its marker does
  marker-stops : (s : Seat) (l : List Seat) → Steps bytes s → AllByRecursion (Steps bytes) l → is_delimiter s.byte ≡ true → Stops s.byte l → StopsAt bytes (marker_at bytes s) l
  marker-stops s [] step steps here stops = tt
  marker-stops s (r ∷ rs) step steps here stops = λ there.
      let one = marker-is s step here in
      let other = marker-is r steps.0 there in
      (λ i. same (one i) (other i)) ∙ markers-differ s.byte r.byte here there stops

  module _ (t : ℕ) where
    -- delimiters of a document that adjoin go byte by byte
    follow-track : (p : Point) (l rest : List Seat) → Track t bytes p (l ++ rest) → AllByRecursion (Steps bytes) l → AreDelimiters l → FollowFrom bytes p l
    follow-track p [] rest track steps are = tt
    follow-track p (s ∷ ss) rest track steps are =
        let step = steps.0 are.0 in
        let end : s.end ≡ later 1 p = step.0 ∙ ap (later 1) (sym step.1 ∙ track.1.meets) in
        let there = track-place t bytes s.end (ss ++ rest) track.2 in
        (track.1.meets, there.is_shown ∙ end, subst (λ q. FollowFrom bytes q ss) end (follow-track s.end ss rest track.2 steps.1 are.1))

    pub runs-tracked : (atoms : List Atom) (p : Point) (rest : List Seat) → Course AcrossGap t bytes p (seats_of atoms ++ rest) → AllByRecursion (Steps bytes) (seats_of atoms) → AreWholeRuns atoms → AreGood bytes atoms []
    runs-tracked [] p rest course steps whole = tt
    runs-tracked (a ∷ atoms) p rest course steps whole =
        let l = atom_seats a in
        let more = seats_of atoms in
        let o = shown bytes a.first.point in
        let here = subst (Course AcrossGap t bytes p) (append_assoc l more rest) course in
        let front = every-front (Steps bytes) l more steps in
        let back = every-back (Steps bytes) l more steps in (
          (
            (λ is.
                let (are, stops) = whole.0 is in
                let there = line-track t bytes p a.first a.others (more ++ rest) (delimiters-whole l are) here in (
                  follow-track o l [] (subst (Track t bytes o) (sym (append-nil l)) there) front are,
                  are.0,
                  subst (StopsAt bytes (marker_at bytes a.first)) (sym (append-nil more)) (marker-stops a.first more front.0 back are.0 stops),
                )),
            whole.1,
          ),
          runs-tracked atoms (end_after p l) rest (course-on AcrossGap t bytes p l (more ++ rest) here) back whole.2,
        )
