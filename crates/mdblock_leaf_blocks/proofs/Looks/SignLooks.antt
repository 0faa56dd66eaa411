-- The look at the number signs of an ATX heading, and behind them.
use Rattle.mdblock_leaf_blocks.proofs.Prelude.{Bool, List, Option, Some, [], ap, arith, cond, drop, false, length, nat_le, nat_lt, refl, subst, suc, sym, take, true, ℕ, ◌&&◌, ◌++◌, ◌+◌, ◌-◌, ◌<◌, ◌==◌, ◌^◌, ◌∙◌, ◌∷◌, ◌≡◌, ◌≤◌, and-false, eqb-true, le-leb, lt-leb, ltb-false, ltb-true, Seat, Event, EventName, HeadingAtx, Next, Nok, Ok, FlowBeforeHeadingAtx, Local, Given, Text, unchanged, count_becomes, count_grows, has_room, kind_becomes, size_becomes, size_grows, text_grows, flow_before_heading_atx_rows, heading_atx_look_start_rows, HeadingAtxLookSigns, HeadingAtxLookStart, HeadingAtxLookText, bytes_of, heading_text, is_blank_line, run, unindented, IsInLine, LeavesAll, LineEnds, text_behind_signs, SeenKind, heading, text, is_white, one_more, shows, Rows, consume, row, when, write, unlike}
use Rattle.mdblock_leaf_blocks.proofs.Looks.ByteClasses.{feed-is, sign-is, blank-is}
use Rattle.mdblock_leaf_blocks.proofs.Looks.HeadingLooks.{Heads, count-on, text-found, three_tests}
use Rattle.mdblock_leaf_blocks.proofs.Looks.HeadingTexts.{Counted, goes, nothing-counted, other-read, sign-behind-white, stops, text_back, text-turned, turned}
use Rattle.mdblock_leaf_blocks.proofs.Looks.LineTests.{heads_on, heading-other, heading-sign, run-ends}
use Rattle.mdblock_leaf_blocks.proofs.Looks.LookSteps.{Found, at-line-byte, over-line, by-false, by-share, come, kept, look}

-- the text from a byte on that is no white space
first-word : (b : ℕ) (bs : List ℕ) → is_white b ≡ false → length (text_back (turned bs (b ∷ []))) ≡ length (heading_text (unindented (b ∷ bs)))
first-word b bs w = sym (ap (λ r. length (heading_text r)) (stops is_white b bs w) ∙ text-turned (b ∷ bs))

heads-end : (n : ℕ) → n ≤ 6 → heads_on n [] ≡ true
heads-end n h = let none : n + 0 ≡ n = omega arith in ap (λ k. nat_le k 6 && true) none ∙ ap (λ v. v && true) (le-leb n 6 h)

heads-white : (n b : ℕ) (bs : List ℕ) → n ≤ 6 → is_white b ≡ true → (b == 35) ≡ false → heads_on n (b ∷ bs) ≡ true
heads-white n b bs h w e = heading-other n b bs e ∙ ap (λ v. v && is_blank_line (take 1 (b ∷ bs))) (le-leb n 6 h) ∙ ap (λ v. v && true) w

heads-fail : (n b : ℕ) (bs : List ℕ) → is_white b ≡ false → (b == 35) ≡ false → heads_on n (b ∷ bs) ≡ false
heads-fail n b bs w e = heading-other n b bs e ∙ ap (λ v. nat_le n 6 && (v && true)) w ∙ and-false (nat_le n 6)

heads-many : (n b : ℕ) (bs : List ℕ) → 6 ≤ n → (b == 35) ≡ true → heads_on n (b ∷ bs) ≡ false
heads-many n b bs h e = let many : 6 < suc n + run 35 bs = omega arith in heading-sign n b bs e ∙ ap (λ v. v && is_blank_line (take 1 (drop (run 35 bs) bs))) (lt-leb (suc n + run 35 bs) 6 many)

module _ (g : Given) (t : Text) (stack : List EventName) (events : List Event) where
  module _ (before : Local Unit Unit) (more : List Seat) (over : LineEnds more) where
    -- behind the signs, before the text
    start-found : (line : List Seat) → IsInLine line → (previous : Option ℕ) (q : ℕ) (mark : Bool) (local : Local Unit Unit) → LeavesAll before local → local.tokenize_state.token_1 ≡ HeadingAtx
        → local.tokenize_state.space_or_tab_size ≡ 0 → local.tokenize_state.size_b ≡ 0 → length line < 2 ^ 64 - 1
        → Heads before (length (heading_text (unindented (bytes_of line)))) (look g t stack events (line ++ more) previous q mark local HeadingAtxLookStart)
    start-found [] in_line previous q mark local h named count size room =
        over-line g t stack events (Heads before 0) HeadingAtxLookStart heading_atx_look_start_rows (row [] Ok) (λ b l p q m k. refl) refl refl more over previous q mark local (kept before local (unchanged local) h refl refl refl refl refl, (refl, named, size))
    start-found (s ∷ line) in_line previous q mark local h named count size room =
        let b = s.byte in
        let bs = bytes_of line in
        let ss = line ++ more in
        let name = HeadingAtxLookStart in
        let l = local.tokenize_state in
        let P = Heads before (length (heading_text (unindented (b ∷ bs)))) in
        let comes = λ (rows : Rows Unit Unit). P (come g t stack events 1 (s ∷ ss) previous q mark local name rows) in
        let k = shows stack events (s ∷ ss) q mark (unchanged local) in
        let go : Rows Unit Unit = row (consume ∷ []) (Next HeadingAtxLookStart) in
        let counts_on : Rows Unit Unit = row (write count_grows ∷ consume ∷ []) (Next HeadingAtxLookSigns) in
        let text_on : Rows Unit Unit = row (write text_grows ∷ consume ∷ []) (Next HeadingAtxLookText) in
        let room_on : 1 + length line < 2 ^ 64 - 1 = omega arith in
        let less : length line < 2 ^ 64 - 1 = omega arith in
        let room_all : 0 + suc (length line) < 2 ^ 64 - 1 = omega arith in
        let counted = count-on [] b l.space_or_tab_size (length line) count room_all in
        let on = look g t stack events ss (Some b) (q + 1) false in
        at-line-byte g t stack events P name heading_atx_look_start_rows three_tests (λ b l p q m k. refl) (feed-is, (blank-is, (sign-is, tt))) 1 s ss previous q mark local
        (by-false comes (b == 10) (row [] Ok) _ in_line.0
        (elim (is_white b) as (λ v. is_white b ≡ v → comes (cond v go (cond (b == 35) counts_on text_on))) [
          | true ↦ λ w. subst (λ r. Heads before (length (heading_text r)) (on (unchanged local) name)) (sym (goes is_white b bs w))
              (start-found line in_line.1 (Some b) (q + 1) false (unchanged local) (kept before local (unchanged local) h refl refl refl refl refl) named count size less)
          | false ↦ λ w. elim (b == 35) as (λ v. (b == 35) ≡ v → comes (cond v counts_on text_on)) [
            | true ↦ λ e. subst (λ n. Heads before n (on (count_grows k) HeadingAtxLookSigns)) (first-word b bs w)
                (text-found g t stack events before more over line in_line.1 true true (b ∷ []) (Some b) (q + 1) false (count_grows k) (kept before local (count_grows k) h refl refl refl refl refl)
                (record {
                  named = named;
                  count_is = counted;
                  counted = subst (λ c. Counted true true (c ∷ []) l.size_b l.size_c) (sym (eqb-true b 35 e)) (sign-behind-white true [] 0 0 l.size_c l.size_b (nothing-counted 0 refl) size);
                }) room_on)
            | false ↦ λ e. subst (λ n. Heads before n (on (text_grows k) HeadingAtxLookText)) (first-word b bs w)
                (text-found g t stack events before more over line in_line.1 false true (b ∷ []) (Some b) (q + 1) false (text_grows k) (kept before local (text_grows k) h refl refl refl refl refl)
                (record { named = named; count_is = counted; counted = subst (λ n. Counted false true (b ∷ []) n l.size_c) (sym counted) (other-read b [] l.size_c w e) }) room_on)
          ] refl
        ] refl))

    module _ (word : List ℕ) where
      -- a heading is found, or text
      abbrev kind_by : Bool → SeenKind
      kind_by is = cond is heading text

      -- the text of the whole line is that of the rest of it
      abbrev IsText : List ℕ → Type 0
      IsText bs = length (text_behind_signs word) ≡ length (heading_text (unindented (drop (run 35 bs) bs)))

      -- the look at the rest of a line, behind number signs
      pub heading-found : (line : List Seat) → IsInLine line → (previous : Option ℕ) (q : ℕ) (mark : Bool) (local : Local Unit Unit) → LeavesAll before local → local.tokenize_state.size_b ≤ 6
          → IsText (bytes_of line) → length line < 2 ^ 64 - 1
          → Found before (kind_by (heads_on local.tokenize_state.size_b (bytes_of line))) word (look g t stack events (line ++ more) previous q mark local FlowBeforeHeadingAtx)
      heading-found [] in_line previous q mark local h few is room =
          let P = Found before (kind_by (heads_on local.tokenize_state.size_b [])) word in
          let ends : Rows Unit Unit = row (write (kind_becomes HeadingAtx) ∷ write (size_becomes 0) ∷ []) Ok in
          over-line g t stack events P FlowBeforeHeadingAtx flow_before_heading_atx_rows ends (λ b l p q m k. refl) refl refl more over previous q mark local
          (subst (λ v. Found before (kind_by v) word (come g t stack events 1 more previous q mark local FlowBeforeHeadingAtx ends)) (sym (heads-end local.tokenize_state.size_b few))
          (kept before local _ h refl refl refl refl refl, (refl, refl, sym is)))
      heading-found (s ∷ line) in_line previous q mark local h few is room =
          let b = s.byte in
          let bs = bytes_of line in
          let ss = line ++ more in
          let n = local.tokenize_state.size_b in
          let name = FlowBeforeHeadingAtx in
          let P = Found before (kind_by (heads_on n (b ∷ bs))) word in
          let comes = come g t stack events 1 (s ∷ ss) previous q mark local name in
          let k = shows stack events (s ∷ ss) q mark (unchanged local) in
          let less : length line < 2 ^ 64 - 1 = omega arith in
          let on = look g t stack events ss (Some b) (q + 1) false in
          let ends : Rows Unit Unit = row (write (kind_becomes HeadingAtx) ∷ write (size_becomes 0) ∷ []) Ok in
          let starts : Rows Unit Unit = row (write (kind_becomes HeadingAtx) ∷ write (size_becomes 0) ∷ write (count_becomes 0) ∷ consume ∷ []) (Next HeadingAtxLookStart) in
          let grow : Rows Unit Unit = row (write size_grows ∷ consume ∷ []) (Next name) in
          let none : Rows Unit Unit = row [] Nok in
          let named = shows stack events (s ∷ ss) q mark (kind_becomes HeadingAtx k) in
          let begun = count_becomes 0 (shows stack events (s ∷ ss) q mark (size_becomes 0 named)) in
          let grown = size_grows k in
          let fails : heads_on n (b ∷ bs) ≡ false → P (comes none) = λ e. subst (λ v. Found before (kind_by v) word (comes none)) (sym e) (kept before local _ h refl refl refl refl refl, refl) in
          at-line-byte g t stack events P name flow_before_heading_atx_rows three_tests (λ b l p q m k. refl) (feed-is, (blank-is, (sign-is, tt))) 1 s ss previous q mark local
          (by-false (λ (rows : Rows Unit Unit). P (comes rows)) (b == 10) ends _ in_line.0
          (elim (is_white b) as (λ v. is_white b ≡ v → P (comes (cond v starts (cond (b == 35) (when has_room grow none) none)))) [
            | true ↦ λ w.
                let no_sign : (b == 35) ≡ false = unlike is_white 35 refl b w in
                let same : length (text_behind_signs word) ≡ length (heading_text (unindented bs)) =
                is ∙ ap (λ m. length (heading_text (unindented (drop m (b ∷ bs))))) (run-ends 35 b bs no_sign) ∙ ap (λ r. length (heading_text r)) (goes is_white b bs w) in
                subst (λ v. Found before (kind_by v) word (on begun HeadingAtxLookStart)) (sym (heads-white n b bs few w no_sign))
                (subst (λ m. Heads before m (on begun HeadingAtxLookStart)) (sym same)
                (start-found line in_line.1 (Some b) (q + 1) false begun (kept before local begun h refl refl refl refl refl) refl refl refl less))
            | false ↦ λ w. elim (b == 35) as (λ v. (b == 35) ≡ v → P (comes (cond v (when has_room grow none) none))) [
              | true ↦ λ e. by-share g t stack events 1 (s ∷ ss) previous q mark local name P has_room grow none
                  (elim (nat_lt n 6) as (λ v. nat_lt n 6 ≡ v → P (comes (cond v grow none))) [
                    | true ↦ λ room_left.
                        let fewer : n < 6 = ltb-true n 6 room_left in
                        let bigger : one_more n ≡ suc n = omega arith in
                        let few_on : one_more n ≤ 6 = omega arith in
                        let later = heading-found line in_line.1 (Some b) (q + 1) false grown (kept before local grown h refl refl refl refl refl) few_on
                        (is ∙ ap (λ r. length (heading_text (unindented r))) (goes (λ c. c == 35) b bs e)) less in
                        subst (λ v. Found before (kind_by v) word (on grown name)) (ap (λ m. heads_on m bs) bigger ∙ sym (heading-sign n b bs e)) later
                    | false ↦ λ full. fails (heads-many n b bs (ltb-false n 6 full) e)
                  ] refl)
              | false ↦ λ e. fails (heads-fail n b bs w e)
            ] refl
          ] refl))
