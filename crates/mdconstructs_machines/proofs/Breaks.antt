-- The look of a thematic break, by its tests.
use Rattle.mdconstructs_machines.proofs.Prelude.{◌≡◌, ℕ, ◌+◌, ◌==◌, ◌∷◌, List, [], Bool, true, false, cond, Option, Some, None, refl, sym, ap, ◌∙◌, map, nat_le, eqb-true, cond-itself, Event, Name, Ok, Nok, ThematicBreakAtBreak, Seat, Given, Local, at-byte, told, by-test, by-when, AreTestsOf, Look, scan, shows, unfed_look, loud, row, counts, is_white, BreakByte, star, white, line_feed, break_byte, is_star_class, is_white_class, is_line_feed_class, one_star_more, has_three, line_ends, break_cases, breaks, is_ok, is_break, BreaksAreScanned}
use Rattle.markdown_base.specs.declared.event.Name.{Name as EventName}
use Rattle.markdown_tokenizer.specs.Text.{Text}
use Rattle.mdconstructs_tables.specs.Breaks.{other}

-- each test of classes is a test of bytes
star-test : (b : ℕ) → is_star_class (break_byte b) ≡ (b == 42)
star-test b = elim (b == 42) as (λ t. is_star_class (cond t star (cond (is_white b) white (cond (b == 10) line_feed other))) ≡ t) [
  | true ↦ refl
  | false ↦ elim (is_white b) as (λ u. is_star_class (cond u white (cond (b == 10) line_feed other)) ≡ false) [
    | true ↦ refl
    | false ↦ elim (b == 10) as (λ v. is_star_class (cond v line_feed other) ≡ false) [ true ↦ refl | false ↦ refl ]
  ]
]

white-test : (b : ℕ) → is_white_class (break_byte b) ≡ is_white b
white-test b = elim (b == 42) as (λ t. (b == 42) ≡ t → is_white_class (cond t star (cond (is_white b) white (cond (b == 10) line_feed other))) ≡ is_white b) [
  | true ↦ λ is. sym (ap is_white (eqb-true b 42 is))
  | false ↦ λ no. elim (is_white b) as (λ u. is_white_class (cond u white (cond (b == 10) line_feed other)) ≡ u) [
    | true ↦ refl
    | false ↦ elim (b == 10) as (λ v. is_white_class (cond v line_feed other) ≡ false) [ true ↦ refl | false ↦ refl ]
  ]
] refl

-- white space is no line ending
white-apart : (b : ℕ) → is_white b ≡ true → false ≡ (b == 10)
white-apart b is = elim (b == 10) as (λ v. (b == 10) ≡ v → false ≡ v) [
  | true ↦ λ feed. let no : is_white b ≡ false = ap is_white (eqb-true b 10 feed) in sym no ∙ is
  | false ↦ λ none. refl
] refl

line-feed-test : (b : ℕ) → is_line_feed_class (break_byte b) ≡ (b == 10)
line-feed-test b = elim (b == 42) as (λ t. (b == 42) ≡ t → is_line_feed_class (cond t star (cond (is_white b) white (cond (b == 10) line_feed other))) ≡ (b == 10)) [
  | true ↦ λ is. sym (ap (λ i. i == 10) (eqb-true b 42 is))
  | false ↦ λ no. elim (is_white b) as (λ u. is_white b ≡ u → is_line_feed_class (cond u white (cond (b == 10) line_feed other)) ≡ (b == 10)) [
    | true ↦ λ is. white-apart b is
    | false ↦ λ none. elim (b == 10) as (λ v. is_line_feed_class (cond v line_feed other) ≡ v) [ true ↦ refl | false ↦ refl ]
  ] refl
] refl

-- the tests of bytes
abbrev tests : List (ℕ → Bool)
tests = (λ b. b == 42) ∷ is_white ∷ (λ b. b == 10) ∷ []

are-tests : AreTestsOf break_byte break_cases tests
are-tests = (star-test, (white-test, (line-feed-test, tt)))

abbrev ok : Look Unit Unit → Bool
ok r = is_ok r.answer

module _ (g : Given) (text : Text) (stack : List EventName) (events : List Event) where
  -- the end of the line
  ends : (rest : Local Unit Unit → Name → Look Unit Unit) (l : List Seat) (previous : Option ℕ) (q : ℕ) (mark : Bool) (local : Local Unit Unit)
      → told breaks ok g text stack events 0 rest l previous q mark local ThematicBreakAtBreak line_ends ≡ nat_le 3 local.tokenize_state.size_b
  ends rest l previous q mark local =
      by-when breaks ok g text stack events 0 rest l previous q mark local ThematicBreakAtBreak has_three (row [] Ok) (row [] Nok) true false refl refl
      ∙ cond-itself (nat_le 3 local.tokenize_state.size_b)

  scanned : (l : List Seat) (previous : Option ℕ) (q : ℕ) (mark : Bool) (local : Local Unit Unit)
      → is_ok (scan breaks g text stack events 1 l previous q mark local ThematicBreakAtBreak).answer ≡ is_break local.tokenize_state.size_b (map (λ s. s.byte) l)
  scanned [] previous q mark local = ends (unfed_look breaks g text stack events) [] previous q mark local
  scanned (s ∷ ss) previous q mark local =
      let l = s ∷ ss in
      let rest = scan breaks g text stack events 1 ss (Some s.byte) (q + 1) false in
      let grown = one_star_more (shows stack events l q mark (counts local)) in
      let test = by-test breaks ok g text stack events 0 rest l previous q mark local ThematicBreakAtBreak in
      ap (told breaks ok g text stack events 0 rest l previous q mark local ThematicBreakAtBreak) (at-byte break_byte break_cases tests (row [] Nok) are-tests s.byte)
      ∙ test (s.byte == 42) _ _ _ _ (scanned ss (Some s.byte) (q + 1) false grown)
      (test (is_white s.byte) _ _ _ _ (scanned ss (Some s.byte) (q + 1) false (counts local))
      (test (s.byte == 10) _ _ _ _ (ends rest l previous q mark local) refl))

pub breaks-are-scanned : BreaksAreScanned
breaks-are-scanned g text stack events l previous q mark local = scanned g text stack events l previous q mark local

-- the look is quiet
pub breaks-quiet : (previous current : Option BreakByte) → loud breaks (ThematicBreakAtBreak ∷ []) (λ name. 0) previous current ≡ []
breaks-quiet previous None = refl
breaks-quiet previous (Some star) = refl
breaks-quiet previous (Some white) = refl
breaks-quiet previous (Some line_feed) = refl
breaks-quiet previous (Some other) = refl
