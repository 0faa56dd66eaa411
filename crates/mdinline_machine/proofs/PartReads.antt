-- What is there of inline text where no construct with a mark is, data, a run, a line ending or white space, is read in so many calls; data with the white
-- space behind it with which its line ends.
use Rattle.mdinline_machine.proofs.Prelude.{◌≡◌, ℕ, ◌+◌, ◌*◌, ◌≤◌, ◌&&◌, ◌||◌, List, ◌∷◌, Bool, true, false, cond, refl, sym, ◌∙◌, subst, arith, drop, prefix_len, eqb-true, nat_tests, Constructs, Event, Name, Retry, TextBefore, TextBeforeData, Seat, Byte, Local, Given, Text, is_white, is_line_feed, Found, between_texts, item_length, bytes_of, AddsItemIn, adds-more, Plays, between_items, begins_run, delimiter_run, is_white_left, line_break, run_length}
use Rattle.mdinline_machine.proofs.RunBytes.{no-run}
use Rattle.mdinline_machine.proofs.DataBytes.{data_joined, joined_part}
use Rattle.mdinline_machine.proofs.DataReads.{reads-data-run-in, reads-white-data-in}
use Rattle.mdinline_machine.proofs.InlineApart.{begins_mark}
use Rattle.mdinline_machine.proofs.LineReads.{reads-line-break-in}
use Rattle.mdinline_machine.proofs.Playing.{inlines_begin_data, inlines_play}
use Rattle.mdinline_machine.proofs.RunReads.{reads-run-in}
use Rattle.mdinline_machine.proofs.WhiteBytes.{found-size, found_white, white-ends, white-goes-on, white-none, white_or}
use Rattle.mdinline_machine.proofs.WhitePlays.{inlines_play_white}
use Rattle.mdinline_machine.proofs.WhiteReads.{breaks_here, reads-white-end}

-- the state between constructs itself reads line endings and white space, and goes on with runs, brackets and ends
abbrev pub is_own : Constructs → ℕ → Bool
is_own on b = is_line_feed b || (begins_mark on b || is_white b)

-- what is there where no construct, no bracket and no end is
abbrev pub unbracketed : Constructs → List ℕ → Found
unbracketed on bytes = white_or on bytes (joined_part on bytes)

-- in so many calls each of them is read, by how many bytes it has
abbrev pub part_calls : ℕ → ℕ
part_calls n = 2 * n + 4

-- a line ending begins no run
line-is-none : (on : Constructs) (b : ℕ) → is_line_feed b ≡ true → begins_run on b ≡ false
line-is-none on b h = no-run on b (grind (arith, nat_tests))

-- white space is no line ending, and begins none
white-is-none : (on : Constructs) (b : ℕ) → is_white b ≡ true → begins_run on b ≡ false
white-is-none on b h = no-run on b (grind (arith, nat_tests))

run-is-plain : (on : Constructs) (b : ℕ) → begins_run on b ≡ true → is_white b ≡ false
run-is-plain on b h = elim (is_white b) as (λ t. is_white b ≡ t → t ≡ false) [
  | true ↦ λ is. absurd (let no : false ≡ true = sym (white-is-none on b is) ∙ h in cc)
  | false ↦ λ other. refl
] refl

module _ (defined : List ℕ → Bool) (g : Given) (text : Text) where
  abbrev on : Constructs
  on = g.options.constructs

  abbrev m : Plays g text
  m = inlines_play defined g text

  -- what is there at a byte, by whether a run or a line ending is
  abbrev there : Bool → Bool → List ℕ → Found
  there run line text = cond run (delimiter_run (run_length text)) (cond line (line_break (prefix_len is_white (drop 1 text))) (data_joined on text))

  -- from a state an item is read, in so many calls
  abbrev PartRead : Name → (p : ℕ) (ended : Bool) (events : List Event) (local : Local Unit Unit) → List Seat → Found → Type 0
  PartRead name p ended events local l item = AddsItemIn g text m between_texts (part_calls (item_length item)) (between_items p Byte ended events local) (Retry name) p events l item

  -- more calls may be counted
  part-more : (n : ℕ) (name : Name) (p : ℕ) (ended : Bool) (events : List Event) (local : Local Unit Unit) (l : List Seat) (item : Found) → n ≤ part_calls (item_length item)
      → AddsItemIn g text m between_texts n (between_items p Byte ended events local) (Retry name) p events l item → PartRead name p ended events local l item
  part-more n name p ended events local l item few read = adds-more g text m between_texts n (part_calls (item_length item)) (between_items p Byte ended events local) (Retry name) p events l item few read

  -- Data is read, where no run, no line ending and no white space begins
  pub data-there : (b : ℕ) (bs : List ℕ) → is_line_feed b ≡ false → begins_run on b ≡ false → is_white b ≡ false → data_joined on (b ∷ bs) ≡ unbracketed on (b ∷ bs)
  data-there b bs line run white = (λ i. there (sym run i) (sym line i) (b ∷ bs)) ∙ sym (white-none on b bs (joined_part on (b ∷ bs)) white)

  pub data-read-in : (p : ℕ) (ended : Bool) (events : List Event) (local : Local Unit Unit) (s : Seat) (ss : List Seat) → drop p text.seats ≡ s ∷ ss → is_line_feed s.byte ≡ false → begins_run on s.byte ≡ false → is_white s.byte ≡ false
      → PartRead TextBeforeData p ended events local (s ∷ ss) (unbracketed on (bytes_of (s ∷ ss)))
  data-read-in p ended events local s ss here line run white =
      let bytes = bytes_of (s ∷ ss) in
      let is = data-there s.byte (bytes_of ss) line run white in
      subst (PartRead TextBeforeData p ended events local (s ∷ ss)) is
      (reads-data-run-in g text m (inlines_play_white defined g text) (inlines_begin_data defined g text) p ended events local s ss here)

  -- white space is
  white-read-in : (p : ℕ) (ended : Bool) (events : List Event) (local : Local Unit Unit) (s : Seat) (ss : List Seat) → drop p text.seats ≡ s ∷ ss → is_line_feed s.byte ≡ false → is_white s.byte ≡ true
      → PartRead TextBefore p ended events local (s ∷ ss) (unbracketed on (bytes_of (s ∷ ss)))
  white-read-in p ended events local s ss here line is =
      let l = s ∷ ss in
      let bytes = bytes_of l in
      let n = prefix_len is_white bytes in
      let plays = inlines_play_white defined g text in
      let part = joined_part on bytes in
      elim (is_white_left bytes) as (λ t. is_white_left bytes ≡ t → PartRead TextBefore p ended events local l (unbracketed on bytes)) [
        | true ↦ λ left.
            let breaks = breaks_here g text m plays s ss p here is in
            let few : n + 1 ≤ 2 * item_length (found_white breaks n) + 4 = omega (arith, found-size breaks n) in
            subst (PartRead TextBefore p ended events local l) (sym (white-ends on s.byte (bytes_of ss) part is left))
            (part-more (n + 1) TextBefore p ended events local l (found_white breaks n) few (reads-white-end g text m plays s ss p here is left ended events local))
        | false ↦ λ left.
            let part_is : data_joined on bytes ≡ part = (λ i. there (sym (white-is-none on s.byte is) i) (sym line i) bytes) in
            subst (PartRead TextBefore p ended events local l) (part_is ∙ sym (white-goes-on on s.byte (bytes_of ss) part is left))
            (reads-white-data-in g text m plays p ended events local s ss here is left)
      ] refl

  -- and so are a line ending and a run
  pub own-read-in : (p : ℕ) (ended : Bool) (events : List Event) (local : Local Unit Unit) (s : Seat) (ss : List Seat) → drop p text.seats ≡ s ∷ ss → (is_line_feed s.byte || (begins_run on s.byte || is_white s.byte)) ≡ true
      → PartRead TextBefore p ended events local (s ∷ ss) (unbracketed on (bytes_of (s ∷ ss)))
  own-read-in p ended events local s ss here own =
      let l = s ∷ ss in
      let bytes = bytes_of l in
      let k = prefix_len is_white (bytes_of ss) in
      let part = joined_part on bytes in
      elim (is_line_feed s.byte) as (λ t. is_line_feed s.byte ≡ t → (t || (begins_run on s.byte || is_white s.byte)) ≡ true → PartRead TextBefore p ended events local l (unbracketed on bytes)) [
        | true ↦ λ line h.
            let white : is_white s.byte ≡ false = grind (arith, nat_tests) in
            let is : line_break k ≡ unbracketed on bytes = (λ i. there (sym (line-is-none on s.byte line) i) (sym line i) bytes) ∙ sym (white-none on s.byte (bytes_of ss) part white) in
            subst (PartRead TextBefore p ended events local l) is
            (part-more (k + 2) TextBefore p ended events local l (line_break k) (omega arith) (reads-line-break-in defined g text p ended events local s ss here (eqb-true s.byte 10 line)))
        | false ↦ λ line h. elim (begins_run on s.byte) as (λ t. begins_run on s.byte ≡ t → (t || is_white s.byte) ≡ true → PartRead TextBefore p ended events local l (unbracketed on bytes)) [
          | true ↦ λ run i.
              let is : delimiter_run (run_length bytes) ≡ unbracketed on bytes = (λ i. there (sym run i) (is_line_feed s.byte) bytes) ∙ sym (white-none on s.byte (bytes_of ss) part (run-is-plain on s.byte run)) in
              subst (PartRead TextBefore p ended events local l) is
              (part-more (run_length bytes + 2) TextBefore p ended events local l (delimiter_run (run_length bytes)) (omega arith) (reads-run-in defined g text p ended events local s ss here run))
          | false ↦ λ none i. white-read-in p ended events local s ss here line i
        ] refl h
      ] refl own
