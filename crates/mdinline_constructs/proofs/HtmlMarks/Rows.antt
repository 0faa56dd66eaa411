-- The states of raw HTML between marks do at each byte what it does at their places.
use Rattle.mdinline_constructs.proofs.Prelude.{HtmlTextData, SpaceOrTab, Name, Next, Nok, Retry, HtmlTextCommentOpenInside, HtmlTextDeclarationOpen, HtmlTextMarkInside, HtmlTextMarkLine, HtmlTextMarkStart, HtmlTextMarkWhite, Seat, with_local, Configuration, Local, Step, Sight, sight, byte_of, current_of, point_of, point_or, Given, Text, row_step, is_white, counts, cdata_open_rows, comment_open_rows, declaration_open_rows, ends_cdata_mark, in_cdata_mark, in_mark, inside_rows, is_mark_byte, look_rows, mark_ends, mark_fails, mark_line_ends, mark_line_rows, mark_open_rows, mark_start_rows, mark_white_rows, closed_by, no_cdata, no_comment, no_declaration, no_instruction, none_upto, stopped_at, html_ends, html_goes_on, no_html, sees, Act, Rows, class_of, consume, enter, exit, row, when, write, writes, IsAfter, Remembered, after-call, remembered, HasRow, HasRows, tested, has_byte_at, is_greater_than, passes, TextByte, line_feed, text_byte, more_than, size_b_grows, size_b_is, Bool, List, None, Option, Some, [], ap, arith, cond, false, nat_le, not, refl, slice_get, subst, suc, sym, true, zero, ℕ, ◌&&◌, ◌+◌, ◌<◌, ◌==◌, ◌∙◌, ◌∷◌, ◌≡◌, and_parts, eqb-true, nat_tests, is_ascii_alphabetic, codes, nat_lt}
use Rattle.mdinline_constructs.proofs.HtmlMarks.Places.{Mark, MarkPlace, at_cdata, at_comment, at_declaration, at_inside, at_open, cdata-few, cdata-line, inside-line, kind_fails, mark_byte, mark_gives_up, mark_move, mark_name, mark_times, name-more, marks-go-through-lines, nothing_before, of_cdata, of_comment, of_declaration, of_instruction, opens, opens_unless}
use Rattle.mdinline_constructs.proofs.HtmlMarks.Picked.{look-others}
use Rattle.mdconstructs_tables.proofs.Rows.Calls.{byte-waits}
use Rattle.mdinline_constructs.proofs.HtmlTexts.Pieces.{is_no_line_feed}
use Rattle.mdinline_constructs.proofs.HtmlTexts.Reads.{PlaysHtml, Writes, called, written-counts, line_row_of, row_of, stop_acts, wrote}
use Rattle.mdinline_constructs.proofs.HtmlTexts.Rows.{at-seen, by-byte, other-rows, ReadsWhite, white-first}
use Rattle.mdinline_constructs.proofs.HtmlTexts.Walks.{Move, done, goes, refused}

-- the rows of places
abbrev pub mark_rows : MarkPlace → (previous current : Option TextByte) → Rows Unit Unit
mark_rows at_open = mark_open_rows
mark_rows at_declaration = declaration_open_rows
mark_rows at_comment = comment_open_rows
mark_rows (at_cdata n) = cdata_open_rows
mark_rows (at_inside kind n) = inside_rows (row_of mark_name (nothing_before kind n))

-- A machine that reads raw HTML between marks: its states have these rows
pub record PlaysMarks (g : Given) (text : Text) (step : Sight → Configuration Unit Unit → Name → Step Unit Unit) : Type 0 where
  pub start : HasRows g text step HtmlTextMarkStart mark_start_rows
  pub places : (s : MarkPlace) → HasRows g text step (mark_name s) (mark_rows s)
  pub after_line : HasRows g text step HtmlTextMarkLine mark_line_rows
  pub in_white : HasRows g text step HtmlTextMarkWhite mark_white_rows

-- up to which index of the document no mark of a kind ends, as is remembered
abbrev pub known_upto : Mark → Remembered → ℕ
known_upto of_comment r = r.comment
known_upto of_instruction r = r.instruction
known_upto of_declaration r = r.declaration
known_upto of_cdata r = r.cdata

-- so it is known of one whose last byte is this
abbrev pub knows_of : Remembered → Mark → Option Seat → Bool
knows_of r kind None = false
knows_of r kind (Some s) = nat_lt s.point.index (known_upto kind r)

-- how many bytes of an opening mark are before its last one
abbrev pub opening_length : Mark → ℕ
opening_length of_comment = 3
opening_length of_instruction = 1
opening_length of_declaration = 2
opening_length of_cdata = 8

-- the closing mark, and how much of it was read
abbrev pub IsMarkOpen : Mark → ℕ → Local Unit Unit → Type 0
IsMarkOpen kind n local = (local.tokenize_state.marker ≡ mark_byte kind) × (local.tokenize_state.size_c ≡ mark_times kind) × (local.tokenize_state.size_b ≡ n)

-- behind a line ending the opening mark was read
abbrev pub FollowsMark : MarkPlace → Local Unit Unit → Type 0
FollowsMark at_open local = ⊥
FollowsMark at_declaration local = ⊥
FollowsMark at_comment local = ⊥
FollowsMark (at_cdata n) local = ⊥
FollowsMark (at_inside kind zero) local = IsMarkOpen kind 0 local
FollowsMark (at_inside kind (suc n)) local = ⊥

-- nothing of the closing mark is before
abbrev pub mark_returns : MarkPlace → Writes
mark_returns s = Some (size_b_is 0)

mark-counted : (s : MarkPlace) (local : Local Unit Unit) → FollowsMark s local → FollowsMark s (counts local)
mark-counted at_open local h = absurd h
mark-counted at_declaration local h = absurd h
mark-counted at_comment local h = absurd h
mark-counted (at_cdata n) local h = absurd h
mark-counted (at_inside kind zero) local h = h
mark-counted (at_inside kind (suc n)) local h = absurd h

-- The look that begins at a position of the text, by what is remembered of the kinds
module _ (text : Text) (from : ℕ) (known : Mark → Bool) where
  abbrev pub Agrees : Local Unit Unit → Type 0
  Agrees local = (kind : Mark) → knows_of (remembered local) kind (slice_get text.seats (from + opening_length kind)) ≡ known kind

  -- what is known at a place
  abbrev pub KnowsMark : MarkPlace → (q : ℕ) → Local Unit Unit → Type 0
  KnowsMark at_open q local = (q ≡ from + 1) × Agrees local
  KnowsMark at_declaration q local = (q ≡ from + 2) × Agrees local
  KnowsMark at_comment q local = (q ≡ from + 3) × Agrees local
  KnowsMark (at_cdata n) q local = (q ≡ from + 3 + n) × Agrees local × (local.tokenize_state.size_b ≡ n)
  KnowsMark (at_inside kind n) q local = IsMarkOpen kind n local

  mark-known : (s : MarkPlace) (q : ℕ) (local : Local Unit Unit) → FollowsMark s local → KnowsMark s q local
  mark-known at_open q local h = absurd h
  mark-known at_declaration q local h = absurd h
  mark-known at_comment q local h = absurd h
  mark-known (at_cdata n) q local h = absurd h
  mark-known (at_inside kind zero) q local h = h
  mark-known (at_inside kind (suc n)) q local h = absurd h

  -- what a move writes, and what is known behind it
  abbrev Keeps : MarkPlace → Move MarkPlace → Type 0
  Keeps s (goes w s') = (k : Configuration Unit Unit) → IsAfter 1 k.local (wrote w (called k)) × (KnowsMark s k.position k.local → KnowsMark s' (k.position + 1) (wrote w (called k)))
  Keeps s _ = Unit {0}

  either-keeps : (s : MarkPlace) (t : Bool) (x y : Move MarkPlace) → (t ≡ true → Keeps s x) → Keeps s y → Keeps s (cond t x y)
  either-keeps s true x y h i = h refl
  either-keeps s false x y h i = i

  opens-keeps : (s : MarkPlace) (t : Bool) (kind : Mark) (n : ℕ) → Keeps s (opens_unless t kind n)
  opens-keeps s true kind n = tt
  opens-keeps s false kind n = λ k. (written-counts k.local (wrote (Some (closed_by (mark_byte kind) (mark_times kind) n)) (called k)) refl refl, λ h. (refl, refl, refl))

  nothing-keeps : (kind : Mark) (n i : ℕ) → i ≡ n → Keeps (at_inside kind i) (nothing_before kind n)
  nothing-keeps kind zero i is = λ k. (after-call k.local, λ h. (h.0, h.1, h.2 ∙ is))
  nothing-keeps kind (suc n) i is = λ k. (written-counts k.local (wrote (Some (size_b_is 0)) (called k)) refl refl, λ h. (h.0, h.1, refl))

  keeps : (s : MarkPlace) (b : ℕ) → Keeps s (mark_move known s b)
  keeps at_open b =
      either-keeps at_open (b == 63) (opens_unless (known of_instruction) of_instruction 0) (cond (b == 33) (goes None at_declaration) refused) (λ is. opens-keeps at_open (known of_instruction) of_instruction 0)
      (either-keeps at_open (b == 33) (goes None at_declaration) refused (λ is k. (after-call k.local, λ h. (let place : k.position + 1 ≡ from + 2 = omega (arith, h.0) in place, h.1))) tt)
  keeps at_declaration b =
      either-keeps at_declaration (is_ascii_alphabetic b) (opens_unless (known of_declaration) of_declaration 0) (cond (b == 45) (goes None at_comment) (cond (b == 91) (goes (Some (size_b_is 0)) (at_cdata 0)) refused))
      (λ is. opens-keeps at_declaration (known of_declaration) of_declaration 0)
      (either-keeps at_declaration (b == 45) (goes None at_comment) (cond (b == 91) (goes (Some (size_b_is 0)) (at_cdata 0)) refused)
      (λ is k. (after-call k.local, λ h. (let place : k.position + 1 ≡ from + 3 = omega (arith, h.0) in place, h.1)))
      (either-keeps at_declaration (b == 91) (goes (Some (size_b_is 0)) (at_cdata 0)) refused
      (λ is k. (written-counts k.local (wrote (Some (size_b_is 0)) (called k)) refl refl, λ h. (let place : k.position + 1 ≡ from + 3 + 0 = omega (arith, h.0) in place, h.1, refl))) tt))
  keeps at_comment b = either-keeps at_comment (b == 45) (opens_unless (known of_comment) of_comment 2) refused (λ is. opens-keeps at_comment (known of_comment) of_comment 2) tt
  keeps (at_cdata n) b =
      either-keeps (at_cdata n) (has_byte_at (codes "CDATA") n (λ c. b == c)) (goes (Some size_b_grows) (at_cdata (more_than n))) (cond ((n == 5) && (b == 91)) (opens_unless (known of_cdata) of_cdata 0) refused)
      (λ is k. (
        written-counts k.local (wrote (Some size_b_grows) (called k)) refl refl,
        λ h. (let few : n < 5 = cdata-few n b is in let place : k.position + 1 ≡ from + 3 + more_than n = omega (arith, h.0, few) in place, h.1, ap more_than h.2),
      ))
      (either-keeps (at_cdata n) ((n == 5) && (b == 91)) (opens_unless (known of_cdata) of_cdata 0) refused (λ is. opens-keeps (at_cdata n) (known of_cdata) of_cdata 0) tt)
  keeps (at_inside kind n) b =
      let s = at_inside kind n in
      let more = cond (b == mark_byte kind) (goes (Some size_b_grows) (at_inside kind (more_than n))) (nothing_before kind n) in
      either-keeps s ((b == 62) && nat_le (mark_times kind) n) done more (λ is. tt)
      (either-keeps s (b == mark_byte kind) (goes (Some size_b_grows) (at_inside kind (more_than n))) (nothing_before kind n)
      (λ is k. (written-counts k.local (wrote (Some size_b_grows) (called k)) refl refl, λ h. (h.0, h.1, ap more_than h.2))) (nothing-keeps kind n n refl))

  -- what follows a line feed
  abbrev FollowsAfter : MarkPlace → Move MarkPlace → Type 0
  FollowsAfter s (goes w s') = (q : ℕ) (k : Configuration Unit Unit) → KnowsMark s q k.local → FollowsMark s' (wrote (mark_returns s') (called k))
  FollowsAfter s _ = Unit {0}

  nothing-follows : (kind : Mark) (n i : ℕ) → FollowsAfter (at_inside kind i) (nothing_before kind n)
  nothing-follows kind zero i = λ q k h. (h.0, h.1, refl)
  nothing-follows kind (suc n) i = λ q k h. (h.0, h.1, refl)

  follows-line : (s : MarkPlace) → FollowsAfter s (mark_move known s 10)
  follows-line at_open = tt
  follows-line at_declaration = tt
  follows-line at_comment = tt
  follows-line (at_cdata n) = subst (FollowsAfter (at_cdata n)) (sym (cdata-line known n)) tt
  follows-line (at_inside kind n) = subst (FollowsAfter (at_inside kind n)) (sym (inside-line known kind n)) (nothing-follows kind n n)

-- the rows at the end, and at a line feed
abbrev end_row : MarkPlace → Rows Unit Unit
end_row (at_inside kind n) = mark_fails
end_row s = row [] Nok

end-rows : (s : MarkPlace) (previous : Option TextByte) → mark_rows s previous None ≡ end_row s
end-rows at_open previous = refl
end-rows at_declaration previous = refl
end-rows at_comment previous = refl
end-rows (at_cdata n) previous = refl
end-rows (at_inside kind n) previous = refl

-- behind an opening mark a look stops at a line feed and at the end
look-stopped : (others : Rows Unit Unit) (before : Option TextByte) (o : Option ℕ) → passes is_no_line_feed o ≡ false → look_rows mark_fails others before (class_of text_byte o) ≡ mark_fails
look-stopped others before None h = refl
look-stopped others before (Some b) h = elim (b == 10) as (λ t. (b == 10) ≡ t → not t ≡ false → look_rows mark_fails others before (Some (text_byte b)) ≡ mark_fails) [
  | true ↦ λ e i. ap (λ c. look_rows mark_fails others before (Some (text_byte c))) (eqb-true b 10 e)
  | false ↦ λ e i. absurd (cc)
] refl h

abbrev line_row : Move MarkPlace → Rows Unit Unit
line_row move = line_row_of mark_name mark_returns HtmlTextMarkLine move

nothing-line : (kind : Mark) (n : ℕ) (previous : Option TextByte) → mark_rows (at_inside kind n) previous (Some line_feed) ≡ line_row (nothing_before kind n)
nothing-line kind zero previous = refl
nothing-line kind (suc n) previous = refl

line-rows : (known : Mark → Bool) (s : MarkPlace) (previous : Option TextByte) → mark_rows s previous (Some line_feed) ≡ line_row (mark_move known s 10)
line-rows known at_open previous = refl
line-rows known at_declaration previous = refl
line-rows known at_comment previous = refl
line-rows known (at_cdata n) previous = ap line_row (sym (cdata-line known n))
line-rows known (at_inside kind n) previous = nothing-line kind n previous ∙ ap line_row (sym (inside-line known kind n))

-- each kind's byte is one of closing marks
mark-byte : (kind : Mark) (b : ℕ) → (is_mark_byte b && (b == mark_byte kind)) ≡ (b == mark_byte kind)
mark-byte of_comment b = grind (arith, nat_tests)
mark-byte of_instruction b = grind (arith, nat_tests)
mark-byte of_declaration b = grind (arith, nat_tests)
mark-byte of_cdata b = grind (arith, nat_tests)

-- the rows behind an opening mark, with the state behind a byte of the closing mark
abbrev inside_rows_at : Name → (others : Rows Unit Unit) → (previous current : Option TextByte) → Rows Unit Unit
inside_rows_at name others = look_rows mark_line_ends (when mark_ends html_ends (when in_mark (row (write size_b_grows ∷ consume ∷ []) (Next name)) others))

module _ (g : Given) (text : Text) (step : Sight → Configuration Unit Unit → Name → Step Unit Unit) (m : PlaysMarks g text step) where
  abbrev Has : Configuration Unit Unit → Name → Rows Unit Unit → Type 0
  Has k name rows = HasRow g text step k name rows

  module _ (k : Configuration Unit Unit) (b : ℕ) (waits : (sight g text k).current ≡ Some b) where
    -- a test of what is known picks one of two moves
    by-known : (test : Given → Sight → Configuration Unit Unit → Bool) (one other : Move MarkPlace) (others : Rows Unit Unit) (t : Bool) → test g (sight g text k) (with_local k (counts k.local)) ≡ t
        → row_step g text k others ≡ row_step g text k (row_of mark_name other) → row_step g text k (when test (row_of mark_name one) others) ≡ row_step g text k (row_of mark_name (cond t one other))
    by-known test one other others t is rest =
        tested g text test (row_of mark_name one) others k t is
        ∙ elim t as (λ t. row_step g text k (cond t (row_of mark_name one) others) ≡ row_step g text k (row_of mark_name (cond t one other))) [ true ↦ refl | false ↦ rest ]

    -- one of two rows by the byte that waits, each that of a move
    by-byte-move : (test : ℕ → Bool) (x y : Rows Unit Unit) (one other : Move MarkPlace) → row_step g text k x ≡ row_step g text k (row_of mark_name one) → row_step g text k y ≡ row_step g text k (row_of mark_name other)
        → row_step g text k (when (sees test) x y) ≡ row_step g text k (row_of mark_name (cond (test b) one other))
    by-byte-move test x y one other first second =
        by-byte g text k test x y b (test b) waits refl
        ∙ elim (test b) as (λ t. row_step g text k (cond t x y) ≡ row_step g text k (row_of mark_name (cond t one other))) [ true ↦ first | false ↦ second ]

    -- a mark is opened unless its kind is known not to end
    unless-rows : (test : Given → Sight → Configuration Unit Unit → Bool) (kind : Mark) (n : ℕ) (t : Bool) → test g (sight g text k) (with_local k (counts k.local)) ≡ t
        → row_step g text k (when test no_html (row_of mark_name (opens kind n))) ≡ row_step g text k (row_of mark_name (opens_unless t kind n))
    unless-rows test kind n t is =
        tested g text test no_html (row_of mark_name (opens kind n)) k t is
        ∙ elim t as (λ t. row_step g text k (cond t no_html (row_of mark_name (opens kind n))) ≡ row_step g text k (row_of mark_name (opens_unless t kind n))) [ true ↦ refl | false ↦ refl ]

    seat-known : (r : Remembered) (kind : Mark) (o : Option Seat) → byte_of o ≡ Some b → nat_lt (point_or text.end o).index (known_upto kind r) ≡ knows_of r kind o
    seat-known r kind None h = absurd (cc)
    seat-known r kind (Some s) h = refl

    -- which is tested by what is remembered
    known-here : (from : ℕ) (known : Mark → Bool) (kind : Mark) → k.position ≡ from + opening_length kind → Agrees text from known k.local
        → nat_lt (sight g text k).point.index (known_upto kind (remembered k.local)) ≡ known kind
    known-here from known kind place agrees =
        let r = remembered k.local in
        let byte = byte-waits text k.position k.waiting b waits in
        let there : byte_of (slice_get text.seats k.position) ≡ Some b = ap (current_of text k.position) (sym byte) ∙ waits in
        ap (λ w. nat_lt (point_of text k.position w).index (known_upto kind r)) byte
        ∙ seat-known r kind (slice_get text.seats k.position) there
        ∙ ap (λ q. knows_of r kind (slice_get text.seats q)) place
        ∙ agrees kind

    byte-rows : (from : ℕ) (known : Mark → Bool) (s : MarkPlace) (previous : Option TextByte) → (b == 10) ≡ false → KnowsMark text from known s k.position k.local
        → row_step g text k (mark_rows s previous (Some (text_byte b))) ≡ row_step g text k (row_of mark_name (mark_move known s b))
    byte-rows from known at_open previous plain knows =
        let opened = when no_instruction no_html (row_of mark_name (opens of_instruction 0)) in
        let others = when (sees (λ b. b == 33)) (html_goes_on HtmlTextDeclarationOpen) no_html in
        ap (row_step g text k) (other-rows no_html (when (sees (λ b. b == 63)) opened others) previous b plain)
        ∙ by-byte-move (λ b. b == 63) opened others (opens_unless (known of_instruction) of_instruction 0) (cond (b == 33) (goes None at_declaration) refused)
        (unless-rows no_instruction of_instruction 0 (known of_instruction) (known-here from known of_instruction knows.0 knows.1))
        (by-byte-move (λ b. b == 33) (html_goes_on HtmlTextDeclarationOpen) no_html (goes None at_declaration) refused refl refl)
    byte-rows from known at_declaration previous plain knows =
        let opened = when no_declaration no_html (row_of mark_name (opens of_declaration 0)) in
        let marked = row_of mark_name (goes (Some (size_b_is 0)) (at_cdata 0)) in
        let last = when (sees (λ b. b == 91)) marked no_html in
        let others = when (sees (λ b. b == 45)) (html_goes_on HtmlTextCommentOpenInside) last in
        let third = cond (b == 91) (goes (Some (size_b_is 0)) (at_cdata 0)) refused in
        ap (row_step g text k) (other-rows no_html (when (sees is_ascii_alphabetic) opened others) previous b plain)
        ∙ by-byte-move is_ascii_alphabetic opened others (opens_unless (known of_declaration) of_declaration 0) (cond (b == 45) (goes None at_comment) third)
        (unless-rows no_declaration of_declaration 0 (known of_declaration) (known-here from known of_declaration knows.0 knows.1))
        (by-byte-move (λ b. b == 45) (html_goes_on HtmlTextCommentOpenInside) last (goes None at_comment) third refl
        (by-byte-move (λ b. b == 91) marked no_html (goes (Some (size_b_is 0)) (at_cdata 0)) refused refl refl))
    byte-rows from known at_comment previous plain knows =
        let opened = when no_comment no_html (row_of mark_name (opens of_comment 2)) in
        ap (row_step g text k) (other-rows no_html (when (sees (λ b. b == 45)) opened no_html) previous b plain)
        ∙ by-byte-move (λ b. b == 45) opened no_html (opens_unless (known of_comment) of_comment 2) refused
        (unless-rows no_comment of_comment 2 (known of_comment) (known-here from known of_comment knows.0 knows.1)) refl
    byte-rows from known (at_cdata n) previous plain knows =
        let s = sight g text k in
        let one : has_byte_at (codes "CDATA") k.local.tokenize_state.size_b (λ c. passes (λ b. b == c) s.current) ≡ has_byte_at (codes "CDATA") n (λ c. b == c) =
        λ i. has_byte_at (codes "CDATA") (knows.2 i) (λ c. passes (λ b. b == c) (waits i)) in
        let two : ((k.local.tokenize_state.size_b == 5) && passes (λ b. b == 91) s.current) ≡ ((n == 5) && (b == 91)) = λ i. (knows.2 i == 5) && passes (λ b. b == 91) (waits i) in
        let opened = when no_cdata no_html (row_of mark_name (opens of_cdata 0)) in
        let ends = when ends_cdata_mark opened no_html in
        ap (row_step g text k) (other-rows no_html (when in_cdata_mark (row_of mark_name (goes (Some size_b_grows) (at_cdata (more_than n)))) ends) previous b plain)
        ∙ by-known in_cdata_mark (goes (Some size_b_grows) (at_cdata (more_than n))) (cond ((n == 5) && (b == 91)) (opens_unless (known of_cdata) of_cdata 0) refused) ends (has_byte_at (codes "CDATA") n (λ c. b == c)) one
        (tested g text ends_cdata_mark opened no_html k ((n == 5) && (b == 91)) two
        ∙ elim ((n == 5) && (b == 91)) as (λ t. ((n == 5) && (b == 91)) ≡ t → row_step g text k (cond t opened no_html) ≡ row_step g text k (row_of mark_name (cond t (opens_unless (known of_cdata) of_cdata 0) refused))) [
          | true ↦ λ is.
              let five : n ≡ 5 = eqb-true n 5 (and_parts (n == 5) (b == 91) is).0 in
              let place : k.position ≡ from + 8 = omega (arith, knows.0, five) in
              unless-rows no_cdata of_cdata 0 (known of_cdata) (known-here from known of_cdata place knows.1)
          | false ↦ λ is. refl
        ] refl)
    byte-rows from known (at_inside kind n) previous plain knows =
        let s = sight g text k in
        let one : (passes is_greater_than s.current && nat_le k.local.tokenize_state.size_c k.local.tokenize_state.size_b) ≡ ((b == 62) && nat_le (mark_times kind) n) =
        λ i. passes is_greater_than (waits i) && nat_le (knows.1 i) (knows.2 i) in
        let two : passes (λ c. is_mark_byte c && (c == k.local.tokenize_state.marker)) s.current ≡ (b == mark_byte kind) =
        (λ i. passes (λ c. is_mark_byte c && (c == knows.0 i)) (waits i)) ∙ mark-byte kind b in
        let grows = goes (Some size_b_grows) (at_inside kind (more_than n)) in
        let nothing = row_of mark_name (nothing_before kind n) in
        let marks = when in_mark (row_of mark_name grows) nothing in
        ap (row_step g text k) (ap (λ name. inside_rows_at name nothing previous (Some (text_byte b))) (sym (name-more kind n)))
        ∙ ap (row_step g text k) (look-others mark_line_ends (when mark_ends html_ends marks) previous b plain)
        ∙ by-known mark_ends done (cond (b == mark_byte kind) grows (nothing_before kind n)) marks ((b == 62) && nat_le (mark_times kind) n) one
        (by-known in_mark grows (nothing_before kind n) nothing (b == mark_byte kind) two refl)

  -- where a look stops, that its kind does not end up to there is written
  stop-step : (kind : Mark) (k : Configuration Unit Unit) → k.local.tokenize_state.marker ≡ mark_byte kind → row_step g text k mark_fails ≡ row_step g text k (row (stop_acts (Some (kind_fails kind))) Nok)
  stop-step kind k is = ap (λ (byte : ℕ). row_step g text k (row (writes (λ s k. none_upto byte (stopped_at s.current s.point.index) k) ∷ []) Nok)) is

  end-step : (from : ℕ) (known : Mark → Bool) (s : MarkPlace) (k : Configuration Unit Unit) → KnowsMark text from known s k.position k.local → row_step g text k (end_row s) ≡ row_step g text k (row (stop_acts (mark_gives_up s)) Nok)
  end-step from known at_open k knows = refl
  end-step from known at_declaration k knows = refl
  end-step from known at_comment k knows = refl
  end-step from known (at_cdata n) k knows = refl
  end-step from known (at_inside kind n) k knows = stop-step kind k knows.0

  module _ (n : Name) (white : Rows Unit Unit) (acts : List (Act Unit Unit)) (has : HasRows g text step n (look_rows mark_fails (when (sees is_white) white (row acts (Retry HtmlTextMarkInside))))) where
    -- behind a line ending: nothing more, white space, or data
    abbrev others : Rows Unit Unit
    others = when (sees is_white) white (row acts (Retry HtmlTextMarkInside))

    stops : (s : MarkPlace) (k : Configuration Unit Unit) → passes is_no_line_feed (sight g text k).current ≡ false → FollowsMark s k.local → Has k n (row (stop_acts (mark_gives_up s)) Nok)
    stops at_open k h follows = absurd follows
    stops at_declaration k h follows = absurd follows
    stops at_comment k h follows = absurd follows
    stops (at_cdata i) k h follows = absurd follows
    stops (at_inside kind (suc i)) k h follows = absurd follows
    stops (at_inside kind zero) k h follows =
        has k ∙ ap (row_step g text k) (look-stopped others (class_of text_byte (sight g text k).previous) (sight g text k).current h) ∙ stop-step kind k follows.0

    whites : ReadsWhite g text step n white
    whites = white-first g text step n (look_rows mark_fails others) white (row acts (Retry HtmlTextMarkInside)) has (look-others mark_fails others)

    begins : (s : MarkPlace) (k : Configuration Unit Unit) (b : ℕ) → (sight g text k).current ≡ Some b → (b == 10) ≡ false → is_white b ≡ false → FollowsMark s k.local → Has k n (row acts (Retry (mark_name s)))
    begins at_open k b waits plain w follows = absurd follows
    begins at_declaration k b waits plain w follows = absurd follows
    begins at_comment k b waits plain w follows = absurd follows
    begins (at_cdata i) k b waits plain w follows = absurd follows
    begins (at_inside kind (suc i)) k b waits plain w follows = absurd follows
    begins (at_inside kind zero) k b waits plain w follows =
        at-seen g text step n (look_rows mark_fails others) others k (Some b) has waits (look-others mark_fails others (class_of text_byte (sight g text k).previous) b plain)
        ∙ by-byte g text k is_white white (row acts (Retry HtmlTextMarkInside)) b false waits w

  -- So it reads raw HTML
  pub plays-marks : (from : ℕ) (known : Mark → Bool)
      → PlaysHtml g text step (mark_move known) mark_name mark_returns mark_gives_up HtmlTextMarkLine HtmlTextMarkWhite (KnowsMark text from known) FollowsMark
  plays-marks from known = record {
    through = marks-go-through-lines known;
    kept = λ s s' b w is k. let it = subst (Keeps text from known s) is (keeps text from known s b) k in it.1;
    after_move = λ s s' b w is k. let it = subst (Keeps text from known s) is (keeps text from known s b) k in it.0;
    after_return = λ s k. written-counts k.local (wrote (mark_returns s) (called k)) refl refl;
    follows = λ s s' w is q k h. let it = subst (FollowsAfter text from known s) is (follows-line text from known s) q k h in it;
    counted = mark-counted;
    known = mark-known text from known;
    at_end = λ s k waits knows. at-seen g text step (mark_name s) (mark_rows s) (end_row s) k None (m.places s) waits (end-rows s (class_of text_byte (sight g text k).previous)) ∙ end-step from known s k knows;
    at_line = λ s k waits. at-seen g text step (mark_name s) (mark_rows s) (line_row (mark_move known s 10)) k (Some 10) (m.places s) waits (line-rows known s (class_of text_byte (sight g text k).previous));
    at_byte = λ s b k waits plain knows. at-seen g text step (mark_name s) (mark_rows s) (mark_rows s (class_of text_byte (sight g text k).previous) (Some (text_byte b))) k (Some b) (m.places s) waits refl
        ∙ byte-rows k b waits from known s (class_of text_byte (sight g text k).previous) plain knows;
    after_stops = stops HtmlTextMarkLine (row (enter SpaceOrTab ∷ consume ∷ []) (Next HtmlTextMarkWhite)) (enter HtmlTextData ∷ []) m.after_line;
    after_white = whites HtmlTextMarkLine (row (enter SpaceOrTab ∷ consume ∷ []) (Next HtmlTextMarkWhite)) (enter HtmlTextData ∷ []) m.after_line;
    after_begins = begins HtmlTextMarkLine (row (enter SpaceOrTab ∷ consume ∷ []) (Next HtmlTextMarkWhite)) (enter HtmlTextData ∷ []) m.after_line;
    prefix_stops = stops HtmlTextMarkWhite (row (consume ∷ []) (Next HtmlTextMarkWhite)) (exit SpaceOrTab ∷ enter HtmlTextData ∷ []) m.in_white;
    prefix_white = whites HtmlTextMarkWhite (row (consume ∷ []) (Next HtmlTextMarkWhite)) (exit SpaceOrTab ∷ enter HtmlTextData ∷ []) m.in_white;
    prefix_begins = begins HtmlTextMarkWhite (row (consume ∷ []) (Next HtmlTextMarkWhite)) (exit SpaceOrTab ∷ enter HtmlTextData ∷ []) m.in_white;
  }
