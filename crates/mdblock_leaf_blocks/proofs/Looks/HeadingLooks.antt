-- The look at an ATX heading: its number signs, and how long its text is.
use Rattle.mdblock_leaf_blocks.proofs.Prelude.{Bool, List, Option, Some, [], ap, cond, false, length, refl, subst, suc, sym, true, ℕ, ◌++◌, ◌+◌, ◌-◌, ◌<◌, ◌==◌, ◌^◌, ◌∙◌, ◌∷◌, ◌≡◌, eqb-true, Seat, Event, EventName, HeadingAtx, Name, Next, Ok, Local, Given, Text, Cased, line_feed, unchanged, count_grows, signs_end, signs_were_text, text_grows, heading_atx_look_after_rows, heading_atx_look_blank_rows, heading_atx_look_signs_rows, heading_atx_look_text_rows, HeadingAtxLookAfter, HeadingAtxLookBlank, HeadingAtxLookSigns, HeadingAtxLookText, bytes_of, IsInLine, LeavesAll, LineEnds, is_white, one_more, rows_in, Look, shows, Rows, consume, row, write}
use Rattle.mdblock_leaf_blocks.proofs.Looks.ByteClasses.{feed-is, sign-is, blank-is}
use Rattle.mdblock_leaf_blocks.proofs.Looks.CountRoom.{grows, room-on}
use Rattle.mdblock_leaf_blocks.proofs.Looks.HeadingTexts.{Counted, text_back, turned, white-read, other-read, sign-in-text, sign-in-closing, sign-behind-white, text-before-white}
use Rattle.mdblock_leaf_blocks.proofs.Looks.LookSteps.{HasRows, at-line-byte, over-line, by-false, come, kept, look}

abbrev pub three_tests : List (ℕ → Bool)
three_tests = (λ b. b == 10) ∷ is_white ∷ (λ b. b == 35) ∷ []

abbrev two_tests : List (ℕ → Bool)
two_tests = (λ b. b == 10) ∷ is_white ∷ []

-- the look found a heading whose text has so many bytes
abbrev pub Heads : Local Unit Unit → (size : ℕ) → Look Unit Unit → Type 0
Heads before size r = LeavesAll before r.local × ((r.answer ≡ Ok) × (r.local.tokenize_state.token_1 ≡ HeadingAtx) × (r.local.tokenize_state.size_b ≡ size))

-- what is noted behind these bytes of the text, which come last first
pub record IsAt (closing word : Bool) (q : List ℕ) (l : Local Unit Unit) : Type 0 where
  pub named : l.tokenize_state.token_1 ≡ HeadingAtx
  pub count_is : l.tokenize_state.space_or_tab_size ≡ length q
  pub counted : Counted closing word q l.tokenize_state.size_b l.tokenize_state.size_c

-- the state there
abbrev pub state_of : (closing word : Bool) → Name
state_of false true = HeadingAtxLookText
state_of false false = HeadingAtxLookBlank
state_of true true = HeadingAtxLookSigns
state_of true false = HeadingAtxLookAfter

-- one byte more is counted
pub count-on : (q : List ℕ) (b n more : ℕ) → n ≡ length q → length q + suc more < 2 ^ 64 - 1 → one_more n ≡ length (b ∷ q)
count-on q b n more e room = ap one_more e ∙ grows (length q) more room

module _ (g : Given) (t : Text) (stack : List EventName) (events : List Event) where
  abbrev ends : Rows Unit Unit
  ends = row [] Ok

  abbrev text_on : Rows Unit Unit
  text_on = row (write text_grows ∷ consume ∷ []) (Next HeadingAtxLookText)

  abbrev counts_on : Name → Rows Unit Unit
  counts_on name = row (write count_grows ∷ consume ∷ []) (Next name)

  module _ (before : Local Unit Unit) (more : List Seat) (over : LineEnds more) where
    -- what the look finds from here on
    abbrev Goes : (line : List Seat) → (closing word : Bool) → (back : List ℕ) → Type 0
    Goes line closing word back = (previous : Option ℕ) (q : ℕ) (mark : Bool) (local : Local Unit Unit) → LeavesAll before local → IsAt closing word back local → length back + length line < 2 ^ 64 - 1
        → Heads before (length (text_back (turned (bytes_of line) back))) (look g t stack events (line ++ more) previous q mark local (state_of closing word))

    text-end : (name : Name) (c : Cased Unit Unit) → HasRows g t stack events name c → c.at_end ≡ ends → rows_in c.cases c.rest line_feed ≡ ends → (closing word : Bool) (back : List ℕ) (previous : Option ℕ) (q : ℕ) (mark : Bool) (local : Local Unit Unit)
        → LeavesAll before local → IsAt closing word back local → Heads before (length (text_back back)) (look g t stack events more previous q mark local name)
    text-end name c has last feed closing word back previous q mark local h at =
        over-line g t stack events (Heads before (length (text_back back))) name c ends has last feed more over previous q mark local (kept before local (unchanged local) h refl refl refl refl refl, (refl, at.named, at.counted.size_is))

    text-ends : (closing word : Bool) (back : List ℕ) → Goes [] closing word back
    text-ends false true back previous q mark local h at room = text-end HeadingAtxLookText heading_atx_look_text_rows (λ b l p q m k. refl) refl refl false true back previous q mark local h at
    text-ends false false back previous q mark local h at room = text-end HeadingAtxLookBlank heading_atx_look_blank_rows (λ b l p q m k. refl) refl refl false false back previous q mark local h at
    text-ends true true back previous q mark local h at room = text-end HeadingAtxLookSigns heading_atx_look_signs_rows (λ b l p q m k. refl) refl refl true true back previous q mark local h at
    text-ends true false back previous q mark local h at room = text-end HeadingAtxLookAfter heading_atx_look_after_rows (λ b l p q m k. refl) refl refl true false back previous q mark local h at

    -- a byte of the line, if the look goes on behind it in each case
    module _ (s : Seat) (line : List Seat) (back : List ℕ) (in_line : (s.byte == 10) ≡ false) (on : (closing word : Bool) → Goes line closing word (s.byte ∷ back)) where
      -- behind it
      abbrev Behind : Look Unit Unit → Type 0
      Behind r = Heads before (length (text_back (turned (bytes_of line) (s.byte ∷ back)))) r

      abbrev Comes : Option ℕ → ℕ → Bool → Local Unit Unit → Name → Rows Unit Unit → Type 0
      Comes previous q mark local name rows = Behind (come g t stack events 1 (s ∷ (line ++ more)) previous q mark local name rows)

      -- a byte of a word, which is no number sign or in a word of the text
      word-comes : (closing word : Bool) (previous : Option ℕ) (q : ℕ) (mark : Bool) (local : Local Unit Unit) (name : Name) → LeavesAll before local → IsAt closing word back local → length back + suc (length line) < 2 ^ 64 - 1
          → Counted false true (s.byte ∷ back) (suc (length back)) local.tokenize_state.size_c → Comes previous q mark local name text_on
      word-comes closing word previous q mark local name h at room counted =
          let k = shows stack events (s ∷ (line ++ more)) q mark (unchanged local) in
          let count = count-on back s.byte local.tokenize_state.space_or_tab_size (length line) at.count_is room in
          on false true (Some s.byte) (q + 1) false (text_grows k) (kept before local (text_grows k) h refl refl refl refl refl)
          (record { named = at.named; count_is = count; counted = subst (λ n. Counted false true (s.byte ∷ back) n local.tokenize_state.size_c) (sym count) counted }) (room-on (length back) (length line) room)

      -- a byte that is counted
      count-comes : (closing word : Bool) (previous : Option ℕ) (q : ℕ) (mark : Bool) (local : Local Unit Unit) (name : Name) → LeavesAll before local → IsAt closing word back local → length back + suc (length line) < 2 ^ 64 - 1
          → (next_closing next_word : Bool) → Counted next_closing next_word (s.byte ∷ back) local.tokenize_state.size_b local.tokenize_state.size_c
          → Comes previous q mark local name (counts_on (state_of next_closing next_word))
      count-comes closing word previous q mark local name h at room next_closing next_word counted =
          let k = shows stack events (s ∷ (line ++ more)) q mark (unchanged local) in
          on next_closing next_word (Some s.byte) (q + 1) false (count_grows k) (kept before local (count_grows k) h refl refl refl refl refl)
          (record { named = at.named; count_is = count-on back s.byte local.tokenize_state.space_or_tab_size (length line) at.count_is room; counted = counted }) (room-on (length back) (length line) room)

      -- in a word of the text
      text-at : Goes (s ∷ line) false true back
      text-at previous q mark local h at room =
          let b = s.byte in
          let name = HeadingAtxLookText in
          let l = local.tokenize_state in
          let comes = Comes previous q mark local name in
          at-line-byte g t stack events Behind name heading_atx_look_text_rows two_tests (λ b l p q m k. refl) (feed-is, (blank-is, tt)) 1 s (line ++ more) previous q mark local
          (by-false comes (b == 10) ends _ in_line
          (elim (is_white b) as (λ v. is_white b ≡ v → comes (cond v (counts_on HeadingAtxLookBlank) text_on)) [
            | true ↦ λ w. count-comes false true previous q mark local name h at room false false (white-read false true b back l.size_b l.size_c l.size_c w at.counted (λ none. absurd (cc)))
            | false ↦ λ w. word-comes false true previous q mark local name h at room
                (elim (b == 35) as (λ v. (b == 35) ≡ v → Counted false true (b ∷ back) (suc (length back)) l.size_c) [
                  | true ↦ λ e. subst (λ c. Counted false true (c ∷ back) (suc (length back)) l.size_c) (sym (eqb-true b 35 e)) (sign-in-text back l.size_b l.size_c l.size_c at.counted)
                  | false ↦ λ e. other-read b back l.size_c w e
                ] refl)
          ] refl))

      -- in white space behind it
      white-at : Goes (s ∷ line) false false back
      white-at previous q mark local h at room =
          let b = s.byte in
          let name = HeadingAtxLookBlank in
          let l = local.tokenize_state in
          let comes = Comes previous q mark local name in
          at-line-byte g t stack events Behind name heading_atx_look_blank_rows three_tests (λ b l p q m k. refl) (feed-is, (blank-is, (sign-is, tt))) 1 s (line ++ more) previous q mark local
          (by-false comes (b == 10) ends _ in_line
          (elim (is_white b) as (λ v. is_white b ≡ v → comes (cond v (counts_on HeadingAtxLookBlank) (cond (b == 35) (counts_on HeadingAtxLookSigns) text_on))) [
            | true ↦ λ w. count-comes false false previous q mark local name h at room false false (white-read false false b back l.size_b l.size_c l.size_c w at.counted (λ none. absurd (cc)))
            | false ↦ λ w. elim (b == 35) as (λ v. (b == 35) ≡ v → comes (cond v (counts_on HeadingAtxLookSigns) text_on)) [
              | true ↦ λ e. count-comes false false previous q mark local name h at room true true
                  (subst (λ c. Counted true true (c ∷ back) l.size_b l.size_c) (sym (eqb-true b 35 e)) (sign-behind-white false back l.size_b l.size_c l.size_c l.size_b at.counted (text-before-white false back l.size_b l.size_c at.counted)))
              | false ↦ λ e. word-comes false false previous q mark local name h at room (other-read b back l.size_c w e)
            ] refl
          ] refl))

      -- in number signs behind white space
      signs-at : Goes (s ∷ line) true true back
      signs-at previous q mark local h at room =
          let b = s.byte in
          let name = HeadingAtxLookSigns in
          let l = local.tokenize_state in
          let comes = Comes previous q mark local name in
          let k = shows stack events (s ∷ (line ++ more)) q mark (unchanged local) in
          let signs_over : Rows Unit Unit = row (write signs_end ∷ consume ∷ []) (Next HeadingAtxLookAfter) in
          at-line-byte g t stack events Behind name heading_atx_look_signs_rows three_tests (λ b l p q m k. refl) (feed-is, (blank-is, (sign-is, tt))) 1 s (line ++ more) previous q mark local
          (by-false comes (b == 10) ends _ in_line
          (elim (is_white b) as (λ v. is_white b ≡ v → comes (cond v signs_over (cond (b == 35) (counts_on HeadingAtxLookSigns) text_on))) [
            | true ↦ λ w. on true false (Some b) (q + 1) false (signs_end k) (kept before local (signs_end k) h refl refl refl refl refl)
                (record {
                  named = at.named;
                  count_is = count-on back b l.space_or_tab_size (length line) at.count_is room;
                  counted = white-read true true b back l.size_b l.size_c l.space_or_tab_size w at.counted (λ yes. at.count_is ∙ sym (ap length (at.counted.is_word refl)));
                }) (room-on (length back) (length line) room)
            | false ↦ λ w. elim (b == 35) as (λ v. (b == 35) ≡ v → comes (cond v (counts_on HeadingAtxLookSigns) text_on)) [
              | true ↦ λ e. count-comes true true previous q mark local name h at room true true
                  (subst (λ c. Counted true true (c ∷ back) l.size_b l.size_c) (sym (eqb-true b 35 e)) (sign-in-closing back l.size_b l.size_c l.size_c at.counted))
              | false ↦ λ e. word-comes true true previous q mark local name h at room (other-read b back l.size_c w e)
            ] refl
          ] refl))

      -- in white space behind such signs
      behind-at : Goes (s ∷ line) true false back
      behind-at previous q mark local h at room =
          let b = s.byte in
          let name = HeadingAtxLookAfter in
          let l = local.tokenize_state in
          let comes = Comes previous q mark local name in
          let k = shows stack events (s ∷ (line ++ more)) q mark (unchanged local) in
          let signs_again : Rows Unit Unit = row (write signs_were_text ∷ consume ∷ []) (Next HeadingAtxLookSigns) in
          let saved = at.counted.saved_is refl refl in
          at-line-byte g t stack events Behind name heading_atx_look_after_rows three_tests (λ b l p q m k. refl) (feed-is, (blank-is, (sign-is, tt))) 1 s (line ++ more) previous q mark local
          (by-false comes (b == 10) ends _ in_line
          (elim (is_white b) as (λ v. is_white b ≡ v → comes (cond v (counts_on HeadingAtxLookAfter) (cond (b == 35) signs_again text_on))) [
            | true ↦ λ w. count-comes true false previous q mark local name h at room true false (white-read true false b back l.size_b l.size_c l.size_c w at.counted (λ yes. saved))
            | false ↦ λ w. elim (b == 35) as (λ v. (b == 35) ≡ v → comes (cond v signs_again text_on)) [
              | true ↦ λ e. on true true (Some b) (q + 1) false (signs_were_text k) (kept before local (signs_were_text k) h refl refl refl refl refl)
                  (record {
                    named = at.named;
                    count_is = count-on back b l.space_or_tab_size (length line) at.count_is room;
                    counted = subst (λ c. Counted true true (c ∷ back) l.size_c l.size_c) (sym (eqb-true b 35 e)) (sign-behind-white true back l.size_b l.size_c l.size_c l.size_c at.counted saved);
                  }) (room-on (length back) (length line) room)
              | false ↦ λ e. word-comes true false previous q mark local name h at room (other-read b back l.size_c w e)
            ] refl
          ] refl))

    -- the look in the text finds how long it is
    pub text-found : (line : List Seat) → IsInLine line → (closing word : Bool) (back : List ℕ) → Goes line closing word back
    text-found [] in_line closing word back = text-ends closing word back
    text-found (s ∷ line) in_line false true back = text-at s line back in_line.0 (λ closing word. text-found line in_line.1 closing word (s.byte ∷ back))
    text-found (s ∷ line) in_line false false back = white-at s line back in_line.0 (λ closing word. text-found line in_line.1 closing word (s.byte ∷ back))
    text-found (s ∷ line) in_line true true back = signs-at s line back in_line.0 (λ closing word. text-found line in_line.1 closing word (s.byte ∷ back))
    text-found (s ∷ line) in_line true false back = behind-at s line back in_line.0 (λ closing word. text-found line in_line.1 closing word (s.byte ∷ back))
