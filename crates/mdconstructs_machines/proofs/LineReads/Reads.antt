-- The events of lines, from one virtual byte to the next, and a machine that reads each line with two states: the events that it makes from there on.
use Rattle.mdconstructs_machines.proofs.Prelude.{◌≡◌, ℕ, ◌+◌, ◌∷◌, ◌++◌, [], List, Bool, true, false, refl, sym, ◌∙◌, ap, subst, Some, drop, slice_get, append_assoc, append-nil, drop-next, Event, LineEnding, Point, Name, Next, Retry, Ok, Seat, Nothing, Byte, End, Given, Text, Configuration, Local, Step, Sight, end_place, is_line_ending, lines_in, leaf, counts, EventName, flat_map, end_after, joined, line_text, ending_of}
use Rattle.mdconstructs_machines.proofs.LineReads.Steps.{place-behind, EndsWith, Leads, ended, held, shows, goes-next, at-front, has_events}

-- one more byte changes only the first line
pub joined-first : (s : Seat) (lines : List (List Seat)) → drop 1 (joined s lines) ≡ drop 1 lines
joined-first s [] = refl
joined-first s (line ∷ lines) = refl

-- How a line is read: the events over its text, which begin and end with these, and the events over a line ending
module _ (over ending : List Seat → List Event) (opening closing : Point → List Event) where
  abbrev pub of_line : List Seat → List Event
  of_line line = over (line_text line) ++ ending (ending_of line)

  abbrev pub of_lines : List (List Seat) → List Event
  of_lines lines = flat_map of_line lines

  -- in a line, if the previous byte ended here: the events still to come
  abbrev pub rest_of : Point → List (List Seat) → List Event
  rest_of place [] = closing place
  rest_of place (line ∷ lines) = closing (end_after place (line_text line)) ++ (ending (ending_of line) ++ of_lines lines)

  -- Nothing is over nothing
  pub record IsWritten : Type 0 where
    pub none : over [] ≡ []
    pub none_ends : ending [] ≡ []
    pub some : (s : Seat) (ss : List Seat) → over (s ∷ ss) ≡ opening s.point ++ closing (end_after s.end ss)

module _ (over ending : List Seat → List Event) (opening closing : Point → List Event) (is : IsWritten over ending opening closing) where
  abbrev whole : List (List Seat) → List Event
  whole lines = of_lines over ending opening closing lines

  abbrev left : Point → List (List Seat) → List Event
  left place lines = rest_of over ending opening closing place lines

  -- at a line ending
  pub at-ending : (s : Seat) (ss : List Seat) → is_line_ending s ≡ true → whole (lines_in (s ∷ ss)) ≡ ending (s ∷ []) ++ whole (lines_in ss)
  at-ending s ss e = rw (e, e, is.none)

  -- after the last byte of a line
  pub rest-ending : (place : Point) (s : Seat) (ss : List Seat) → is_line_ending s ≡ true → left place (lines_in (s ∷ ss)) ≡ closing place ++ whole (lines_in (s ∷ ss))
  rest-ending place s ss e = rw (e, e, is.none)

  -- at the first other byte of a line
  begun : (s : Seat) (lines : List (List Seat)) → is_line_ending s ≡ false → whole (joined s lines) ≡ opening s.point ++ left s.end lines
  begun s [] e = rw (e, is.none_ends, is.some s []) (append-nil _ ∙ append-nil _)
  begun s (line ∷ lines) e =
      rw (e, is.some s (line_text line))
      (append_assoc (opening s.point ++ closing (end_after s.end (line_text line))) (ending (ending_of line)) (whole lines)
      ∙ append_assoc (opening s.point) (closing (end_after s.end (line_text line))) (ending (ending_of line) ++ whole lines))

  pub at-other : (s : Seat) (ss : List Seat) → is_line_ending s ≡ false → whole (lines_in (s ∷ ss)) ≡ opening s.point ++ left s.end (lines_in ss)
  at-other s ss e = rw e (begun s (lines_in ss) e)

  -- at one more
  goes-on : (place : Point) (s : Seat) (lines : List (List Seat)) → is_line_ending s ≡ false → left place (joined s lines) ≡ left s.end lines
  goes-on place s [] e = rw (e, is.none_ends) (append-nil (closing s.end))
  goes-on place s (line ∷ lines) e = rw e refl

  pub rest-other : (place : Point) (s : Seat) (ss : List Seat) → is_line_ending s ≡ false → left place (lines_in (s ∷ ss)) ≡ left s.end (lines_in ss)
  rest-other place s ss e = rw e (goes-on place s (lines_in ss) e)

module _ (g : Given) (text : Text) (step : Sight → Configuration Unit Unit → Name → Step Unit Unit) (start inside : Name) (stack : List EventName) (opening closing : Point → List Event) where
  -- What the two states do: before a line, and in it, at the end, at a line ending and at another byte
  pub record ReadsLines : Type 0 where
    pub at_end : (p : ℕ) (events : List Event) (local : Local Unit Unit)
        → Leads g text step (held [] p End true events local) [] (Retry start) (held [] p End true events (counts local)) [] Ok
    pub at_ending : (p : ℕ) (b : Bool) (events : List Event) (local : Local Unit Unit) (s : Seat) → slice_get text.seats p ≡ Some s → is_line_ending s ≡ true
        → Leads g text step (held [] p Byte b events local) [] (Retry start) (held [] (p + 1) Nothing false (events ++ leaf g.bytes LineEnding (s ∷ [])) (counts local)) [] (Next start)
    pub begins : (p : ℕ) (b : Bool) (events : List Event) (local : Local Unit Unit) (s : Seat) → slice_get text.seats p ≡ Some s → is_line_ending s ≡ false
        → Leads g text step (held [] p Byte b events local) [] (Retry start) (held stack p Byte b (events ++ opening s.point) (counts local)) [] (Retry inside)
    pub ends_at_end : (p : ℕ) (events : List Event) (local : Local Unit Unit)
        → Leads g text step (held stack p End true events local) [] (Retry inside) (held [] p End true (events ++ closing (end_place text p)) (counts local)) [] Ok
    pub ends_at_ending : (p : ℕ) (b : Bool) (events : List Event) (local : Local Unit Unit) (s : Seat) → slice_get text.seats p ≡ Some s → is_line_ending s ≡ true
        → Leads g text step (held stack p Byte b events local) [] (Retry inside) (held [] p Byte b (events ++ closing (end_place text p)) (counts local)) [] (Retry start)
    pub goes_on : (p : ℕ) (b : Bool) (events : List Event) (local : Local Unit Unit) (s : Seat) → slice_get text.seats p ≡ Some s → is_line_ending s ≡ false
        → Leads g text step (held stack p Byte b events local) [] (Retry inside) (held stack (p + 1) Nothing false events (counts local)) [] (Next inside)

  module _ (reads : ReadsLines) (over : List Seat → List Event) (is : IsWritten over (leaf g.bytes LineEnding) opening closing) where
    abbrev all : List Seat → List Event
    all l = of_lines over (leaf g.bytes LineEnding) opening closing (lines_in l)

    abbrev rest : Point → List Seat → List Event
    rest place l = rest_of over (leaf g.bytes LineEnding) opening closing place (lines_in l)

    -- what is read of the virtual bytes that are left, before a line and in it
    abbrev pub FromStart : List Seat → Type 0
    FromStart l = (p : ℕ) (b : Bool) (events : List Event) (local : Local Unit Unit) → drop p text.seats ≡ l
        → EndsWith g text step (shows l [] p b events local) [] (Retry start) (events ++ all l)

    abbrev pub FromInside : List Seat → Type 0
    FromInside l = (p : ℕ) (b : Bool) (events : List Event) (local : Local Unit Unit) → drop p text.seats ≡ l
        → EndsWith g text step (shows l stack p b events local) [] (Retry inside) (events ++ rest (end_place text p) l)

    -- from both states, whatever is left
    pub from-both : (l : List Seat) → FromStart l × FromInside l
    from-both [] = (
      λ p b events local here.
          let same : events ≡ events ++ [] = sym (append-nil events) in
          subst (EndsWith g text step (held [] p End true events local) [] (Retry start)) same
          (reads.at_end p events local events (ended g text step (held [] p End true events (counts local)))),
      λ p b events local here.
          let es = events ++ closing (end_place text p) in
          reads.ends_at_end p events local es (ended g text step (held [] p End true es (counts local))),
    )
    from-both (s ∷ ss) =
        let (from_start, from_inside) = from-both ss in
        elim (is_line_ending s) as (λ t. is_line_ending s ≡ t → FromStart (s ∷ ss) × FromInside (s ∷ ss)) [
          | true ↦ λ e.
              let start_ending : FromStart (s ∷ ss) = λ p b events local here.
              let next = drop-next text.seats p s ss here in
              let es = events ++ leaf g.bytes LineEnding (s ∷ []) in
              let same : es ++ all ss ≡ events ++ all (s ∷ ss) = append_assoc events _ _ ∙ ap (λ l. events ++ l) (sym (at-ending over (leaf g.bytes LineEnding) opening closing is s ss e)) in
              subst (EndsWith g text step (held [] p Byte b events local) [] (Retry start)) same
              (reads.at_ending p b events local s (at-front text.seats p s ss here) e (es ++ all ss)
              (goes-next has_events g text step ss [] (p + 1) false es (counts local) [] start next (es ++ all ss) (from_start (p + 1) false es (counts local) next))) in (
                start_ending,
                λ p b events local here.
                    let place = end_place text p in
                    let es = events ++ closing place in
                    let same : es ++ all (s ∷ ss) ≡ events ++ rest place (s ∷ ss) =
                    append_assoc events _ _ ∙ ap (λ l. events ++ l) (sym (rest-ending over (leaf g.bytes LineEnding) opening closing is place s ss e)) in
                    subst (EndsWith g text step (held stack p Byte b events local) [] (Retry inside)) same
                    (reads.ends_at_ending p b events local s (at-front text.seats p s ss here) e (es ++ all (s ∷ ss)) (start_ending p b es (counts local) here)),
              )
          | false ↦ λ e.
              let inside_other : FromInside (s ∷ ss) = λ p b events local here.
              let at = at-front text.seats p s ss here in
              let next = drop-next text.seats p s ss here in
              let place = end_place text p in
              let same : rest (end_place text (p + 1)) ss ≡ rest place (s ∷ ss) =
              ap (λ q. rest q ss) (place-behind text p s at) ∙ sym (rest-other over (leaf g.bytes LineEnding) opening closing is place s ss e) in
              subst (λ l. EndsWith g text step (held stack p Byte b events local) [] (Retry inside) (events ++ l)) same
              (reads.goes_on p b events local s at e (events ++ rest (end_place text (p + 1)) ss)
              (goes-next has_events g text step ss stack (p + 1) false events (counts local) [] inside next (events ++ rest (end_place text (p + 1)) ss)
              (from_inside (p + 1) false events (counts local) next))) in (
                λ p b events local here.
                    let place = end_place text p in
                    let es = events ++ opening s.point in
                    let same : es ++ rest place (s ∷ ss) ≡ events ++ all (s ∷ ss) =
                    append_assoc events _ _
                    ∙ ap (λ l. events ++ (opening s.point ++ l)) (rest-other over (leaf g.bytes LineEnding) opening closing is place s ss e)
                    ∙ ap (λ l. events ++ l) (sym (at-other over (leaf g.bytes LineEnding) opening closing is s ss e)) in
                    subst (EndsWith g text step (held [] p Byte b events local) [] (Retry start)) same
                    (reads.begins p b events local s (at-front text.seats p s ss here) e (es ++ rest place (s ∷ ss)) (inside_other p b es (counts local) here)),
                inside_other,
              )
        ] refl
