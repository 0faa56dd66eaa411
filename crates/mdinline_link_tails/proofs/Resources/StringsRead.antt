-- What was read of a string, line by line, and its events where it ends.
use Rattle.mdinline_link_tails.proofs.Prelude.{◌≡◌, ℕ, ◌+◌, ◌==◌, List, [], ◌∷◌, ◌++◌, true, false, refl, sym, ap, ◌∙◌, take, drop, append-nil, append_assoc, at-front, point_or, Event, Enter, Exit, EventName, Data, LineEnding, SpaceOrTab, Seat, end_after, end_place, Given, Text, leaf}
use Rattle.mdconstructs_machines.specs.Spans.{event}
use Rattle.mdconstructs_tables.specs.Breaks.{is_white}
use Rattle.mdinline_constructs.proofs.HtmlTexts.Pieces.{is_no_line_feed}
use Rattle.mdinline_text_machine.proofs.Texts.Passing.{AllPass}
use Rattle.mdinline_link_tails.specs.Resource.{string_events}
use Rattle.mdinline_link_tails.proofs.Resources.Lines.{feed-first, further_line, line-first, take-more, white-first}
use Rattle.mdinline_link_tails.proofs.Resources.Steps.{enters_at, exits_at}

module _ (bytes : List ℕ) (l0 : List Seat) where
  -- what was read of it: its events, but for those of the last bytes, which are data
  pub record IsRead (z : List Event) (last : List Seat) (j : ℕ) : Type 0 where
    pub made : (y : List Seat) → string_events bytes (take j l0 ++ y) ≡ z ++ string_events bytes (last ++ y)

  -- or white space behind a line ending
  pub record IsBegun (z : List Event) (white : List Seat) (j : ℕ) : Type 0 where
    pub made : (y : List Seat) → string_events bytes (take j l0 ++ y) ≡ z ++ further_line bytes (white ++ y)

  -- the events of what was read, if it ends there
  pub line-closed : (z : List Event) (s0 : Seat) (ss0 : List Seat) (j : ℕ) → AllPass is_no_line_feed (s0 ∷ ss0) → IsRead z (s0 ∷ ss0) j → string_events bytes (take j l0) ≡ z ++ leaf bytes Data (s0 ∷ ss0)
  line-closed z s0 ss0 j pass read =
      sym (ap (string_events bytes) (append-nil (take j l0))) ∙ read.made [] ∙ ap (λ e. z ++ e) (line-first bytes s0 ss0 [] pass refl ∙ append-nil (leaf bytes Data (s0 ∷ ss0)))

  pub white-closed : (z : List Event) (white : List Seat) (j : ℕ) → AllPass is_white white → IsBegun z white j → string_events bytes (take j l0) ≡ z ++ leaf bytes SpaceOrTab white
  white-closed z white j pass read =
      sym (ap (string_events bytes) (append-nil (take j l0))) ∙ read.made [] ∙ ap (λ e. z ++ e) (white-first bytes white [] pass refl ∙ append-nil (leaf bytes SpaceOrTab white))

  -- one byte more was read
  one-more : (j : ℕ) (s : Seat) (ss y : List Seat) → drop j l0 ≡ s ∷ ss → string_events bytes (take (j + 1) l0 ++ y) ≡ string_events bytes (take j l0 ++ s ∷ y)
  one-more j s ss y there = ap (λ l. string_events bytes (l ++ y)) (take-more j l0 s ss there) ∙ ap (string_events bytes) (append_assoc (take j l0) (s ∷ []) y)

  -- of data
  pub read-more : (z : List Event) (last : List Seat) (j : ℕ) (s : Seat) (ss : List Seat) → drop j l0 ≡ s ∷ ss → IsRead z last j → IsRead z (last ++ s ∷ []) (j + 1)
  read-more z last j s ss there read = record {
    made = λ y. one-more j s ss y there ∙ read.made (s ∷ y) ∙ ap (λ l. z ++ string_events bytes l) (sym (append_assoc last (s ∷ []) y));
  }

  -- of white space behind a line ending
  pub white-more : (z : List Event) (white : List Seat) (j : ℕ) (s : Seat) (ss : List Seat) → drop j l0 ≡ s ∷ ss → IsBegun z white j → IsBegun z (white ++ s ∷ []) (j + 1)
  white-more z white j s ss there read = record {
    made = λ y. one-more j s ss y there ∙ read.made (s ∷ y) ∙ ap (λ l. z ++ further_line bytes l) (sym (append_assoc white (s ∷ []) y));
  }

  -- of data behind that
  pub read-first : (z v : List Event) (white : List Seat) (j : ℕ) (s : Seat) (ss : List Seat) → drop j l0 ≡ s ∷ ss → AllPass is_white white → is_white s.byte ≡ false → z ++ leaf bytes SpaceOrTab white ≡ v
      → IsBegun z white j → IsRead v (s ∷ []) (j + 1)
  read-first z v white j s ss there pass other same read = record {
    made = λ y.
        let rest = string_events bytes (s ∷ y) in
        one-more j s ss y there ∙ read.made (s ∷ y) ∙ ap (λ e. z ++ e) (white-first bytes white (s ∷ y) pass other) ∙ sym (append_assoc z (leaf bytes SpaceOrTab white) rest) ∙ ap (λ e. e ++ rest) same;
  }

  -- or a line ending
  pub read-feed : (z d : List Event) (last : List Seat) (j : ℕ) (s : Seat) (ss : List Seat) → drop j l0 ≡ s ∷ ss → (s.byte == 10) ≡ true → IsRead z last j
      → ((y : List Seat) → string_events bytes (last ++ s ∷ y) ≡ d ++ string_events bytes (s ∷ y)) → IsBegun (z ++ (d ++ leaf bytes LineEnding (s ∷ []))) [] (j + 1)
  read-feed z d last j s ss there feed read first = record {
    made = λ y.
        let line = leaf bytes LineEnding (s ∷ []) in
        let rest = further_line bytes y in
        one-more j s ss y there ∙ read.made (s ∷ y) ∙ ap (λ e. z ++ e) (first y ∙ ap (λ e. d ++ e) (feed-first bytes s y feed) ∙ sym (append_assoc d line rest)) ∙ sym (append_assoc z (d ++ line) rest);
  }

module _ (g : Given) (text : Text) (events xs : List Event) where
  -- a span begins: data of a line, or white space
  pub part-begun : (name : EventName) (z : List Event) (q : ℕ) (s : Seat) (ss : List Seat) → drop q text.seats ≡ s ∷ ss
      → (events ++ (xs ++ z)) ++ enters_at g text name q ∷ [] ≡ events ++ (xs ++ (z ++ event g.bytes Enter name s.point ∷ []))
  part-begun name z q s ss at =
      let e = enters_at g text name q in
      append_assoc events (xs ++ z) (e ∷ []) ∙ ap (λ y. events ++ y) (append_assoc xs z (e ∷ []))
      ∙ ap (λ o. events ++ (xs ++ (z ++ event g.bytes Enter name (point_or text.end o) ∷ []))) (at-front text.seats q s ss at)

  -- and ends
  pub part-closed : (name : EventName) (z : List Event) (s0 : Seat) (ss0 : List Seat) (q : ℕ) → end_place text q ≡ end_after s0.end ss0
      → (events ++ (xs ++ (z ++ event g.bytes Enter name s0.point ∷ []))) ++ exits_at g text name q ∷ [] ≡ events ++ (xs ++ (z ++ leaf g.bytes name (s0 ∷ ss0)))
  part-closed name z s0 ss0 q end =
      let b = event g.bytes Enter name s0.point in
      let e = exits_at g text name q in
      append_assoc events (xs ++ (z ++ b ∷ [])) (e ∷ [])
      ∙ ap (λ y. events ++ y)
      (append_assoc xs (z ++ b ∷ []) (e ∷ []) ∙ ap (λ y. xs ++ y) (append_assoc z (b ∷ []) (e ∷ []) ∙ ap (λ point. z ++ b ∷ event g.bytes Exit name point ∷ []) end))

  -- and with it the whole string, under its name
  pub string-closed : (part name : EventName) (string z : List Event) (s0 : Seat) (ss0 : List Seat) (q : ℕ) → end_place text q ≡ end_after s0.end ss0 → string ≡ z ++ leaf g.bytes part (s0 ∷ ss0)
      → ((events ++ (xs ++ (z ++ event g.bytes Enter part s0.point ∷ []))) ++ exits_at g text part q ∷ []) ++ exits_at g text name q ∷ []
      ≡ events ++ (xs ++ (string ++ exits_at g text name q ∷ []))
  string-closed part name string z s0 ss0 q end whole =
      let e = exits_at g text name q in
      let w = z ++ leaf g.bytes part (s0 ∷ ss0) in
      ap (λ y. y ++ e ∷ []) (part-closed part z s0 ss0 q end)
      ∙ append_assoc events (xs ++ w) (e ∷ [])
      ∙ ap (λ y. events ++ y) (append_assoc xs w (e ∷ []) ∙ ap (λ y. xs ++ (y ++ e ∷ [])) (sym whole))
