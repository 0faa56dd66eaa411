-- The look at the marks of an underline, which with dashes may come to a thematic break.
use Rattle.mdblock_leaf_blocks.proofs.Prelude.{Bool, List, Option, Some, [], ap, cond, drop, false, length, nat_le, refl, subst, suc, sym, true, ℕ, ◌&&◌, ◌++◌, ◌+◌, ◌-◌, ◌<◌, ◌==◌, ◌^◌, ◌||◌, ◌∙◌, ◌∷◌, ◌≡◌, and-false, eqb-true, drop-next, Seat, Event, EventName, HeadingSetextUnderline, Next, Nok, Ok, FlowBeforeHeadingSetext, FlowBeforeThematicBreak, Local, Given, Text, flow_byte, unchanged, at_mark, breaks_are_on, kind_becomes, size_grows, flow_before_heading_setext_rows, further_dash, heading_setext_look_after_rows, HeadingSetextLookAfter, bytes_of, is_blank_line, is_thematic_break, IsInLine, LeavesAll, LineEnds, SeenKind, text, thematic_break, underline, is_white, one_more, AreTestsOf, Look, shows, Rows, consume, row, when, write, unlike}
use Rattle.mdblock_leaf_blocks.proofs.Looks.BreakLooks.{break-found}
use Rattle.mdblock_leaf_blocks.proofs.Looks.ByteClasses.{feed-is, dash-is, underline-is, blank-is}
use Rattle.mdblock_leaf_blocks.proofs.Looks.CountRoom.{grows, room-on, room-less}
use Rattle.mdblock_leaf_blocks.proofs.Looks.LineTests.{breaks_on, underlines_on, break-ends, break-mark, break-white, break-fails, underline-mark, underline-other}
use Rattle.mdblock_leaf_blocks.proofs.Looks.LookSteps.{Found, at-line-byte, over-line, by-false, by-known, by-true, by-share, come, kept, no, look, mark-is}

abbrev setext_tests : List (ℕ → Bool)
setext_tests = (λ b. b == 10) ∷ (λ b. (b == 45) || (b == 61)) ∷ is_white ∷ []

are-setext : AreTestsOf flow_byte (flow_before_heading_setext_rows {R = Unit {0}} {D = Unit {0}}).cases setext_tests
are-setext = (feed-is, (underline-is, (blank-is, tt)))

abbrev behind_tests : List (ℕ → Bool)
behind_tests = (λ b. b == 10) ∷ (λ b. b == 45) ∷ is_white ∷ []

are-behind : AreTestsOf flow_byte (heading_setext_look_after_rows {R = Unit {0}} {D = Unit {0}}).cases behind_tests
are-behind = (feed-is, (dash-is, (blank-is, tt)))

-- a mark of underlines
abbrev pub is_line_mark : ℕ → Bool
is_line_mark b = (b == 45) || (b == 61)

mark-no-white : (b : ℕ) → is_line_mark b ≡ true → is_white b ≡ false
mark-no-white b is = elim (b == 45) as (λ t. (b == 45) ≡ t → (t || (b == 61)) ≡ true → is_white b ≡ false) [
  | true ↦ λ e h. ap is_white (eqb-true b 45 e)
  | false ↦ λ e h. ap is_white (eqb-true b 61 h)
] refl is

white-no-mark : (b : ℕ) → is_white b ≡ true → is_line_mark b ≡ false
white-no-mark b w = elim (is_line_mark b) as (λ t. is_line_mark b ≡ t → t ≡ false) [
  | true ↦ λ e. sym w ∙ mark-no-white b e
  | false ↦ λ e. refl
] refl

white-one : (b : ℕ) (bs : List ℕ) → is_white b ≡ true → is_blank_line (b ∷ bs) ≡ is_blank_line bs
white-one b bs w = ap (λ t. t && is_blank_line bs) w

word-one : (b : ℕ) (bs : List ℕ) → is_white b ≡ false → is_blank_line (b ∷ bs) ≡ false
word-one b bs w = ap (λ t. t && is_blank_line bs) w

-- The whole line is a thematic break exactly if the rest of it makes one
abbrev IsWhole : (word : List ℕ) → (m size : ℕ) → List ℕ → Type 0
IsWhole word m size bs = is_thematic_break word ≡ ((m == 45) && breaks_on m size bs)

-- at another byte than a mark and white space there is none
none-at : (word : List ℕ) (m size b : ℕ) (bs : List ℕ) → IsWhole word m size (b ∷ bs) → (b == m) ≡ false → is_white b ≡ false → is_thematic_break word ≡ false
none-at word m size b bs whole e w = whole ∙ ap (λ t. (m == 45) && t) (break-fails m size b bs e w) ∙ and-false (m == 45)

-- nor with other marks than dashes
none-of : (word : List ℕ) (m size : ℕ) (bs : List ℕ) → IsWhole word m size bs → (m == 45) ≡ false → is_thematic_break word ≡ false
none-of word m size bs whole e = whole ∙ ap (λ t. t && breaks_on m size bs) e

other-mark : (m b : ℕ) → b ≡ 45 → (b == m) ≡ false → (m == 45) ≡ false
other-mark m b dash other = elim (m == 45) as (λ v. (m == 45) ≡ v → v ≡ false) [
  | true ↦ λ e. sym (ap (λ n. n == m) dash ∙ ap (λ n. 45 == n) (eqb-true m 45 e)) ∙ other
  | false ↦ λ e. refl
] refl

module _ (g : Given) (t : Text) (stack : List EventName) (events : List Event) where
  abbrev ends : Rows Unit Unit
  ends = row (write (kind_becomes HeadingSetextUnderline) ∷ []) Ok

  -- what is found, by whether it is an underline
  abbrev kind_by : (m : ℕ) → (word : List ℕ) → (is_underline : Bool) → SeenKind
  kind_by m word is = cond is underline (cond (g.options.constructs.thematic_break && is_thematic_break word) thematic_break text)

  module _ (m : ℕ) (is : is_line_mark m ≡ true) (word : List ℕ) (before : Local Unit Unit) (more : List Seat) (over : LineEnds more) where
    -- the line ends
    ends-found : (local : Local Unit Unit) → LeavesAll before local → local.tokenize_state.marker ≡ m → IsWhole word m local.tokenize_state.size_b []
        → ((local.tokenize_state.marker == 45) && nat_le 3 local.tokenize_state.size_b) ≡ is_thematic_break word
    ends-found local h marks whole =
        ap (λ n. (n == 45) && nat_le 3 local.tokenize_state.size_b) marks ∙ sym (ap (λ b. (m == 45) && b) (break-ends m local.tokenize_state.size_b)) ∙ sym whole

    -- nothing is found
    nothing : (local : Local Unit Unit) → LeavesAll before local → (is_underline : Bool) → is_underline ≡ false → is_thematic_break word ≡ false
        → (r : Look Unit Unit) → LeavesAll before r.local → r.answer ≡ Nok → Found before (kind_by m word is_underline) word r
    nothing local h is_underline e none r left answer =
        subst (λ c. Found before c word r) (sym (ap (kind_by m word) e ∙ ap (λ b. cond (g.options.constructs.thematic_break && b) thematic_break text) none ∙ ap (λ b. cond b thematic_break text) (and-false g.options.constructs.thematic_break))) (left, answer)

    -- behind the marks and white space
    behind-found : (line : List Seat) → IsInLine line → (previous : Option ℕ) (q : ℕ) (mark : Bool) (local : Local Unit Unit) → drop q t.seats ≡ line ++ more → LeavesAll before local → local.tokenize_state.marker ≡ m
        → local.tokenize_state.size_b + length line < 2 ^ 64 - 1 → IsWhole word m local.tokenize_state.size_b (bytes_of line)
        → Found before (kind_by m word (is_blank_line (bytes_of line))) word (look g t stack events (line ++ more) previous q mark local HeadingSetextLookAfter)
    behind-found [] in_line previous q mark local here h marks room whole =
        let P = Found before underline word in
        over-line g t stack events P HeadingSetextLookAfter heading_setext_look_after_rows ends (λ b l p q m k. refl) refl refl more over previous q mark local
        (kept before local _ h refl refl refl refl refl, (refl, refl, ends-found local h marks whole))
    behind-found (s ∷ line) in_line previous q mark local here h marks room whole =
        let b = s.byte in
        let bs = bytes_of line in
        let size = local.tokenize_state.size_b in
        let ss = line ++ more in
        let name = HeadingSetextLookAfter in
        let P = Found before (kind_by m word (is_blank_line (b ∷ bs))) word in
        let on = look g t stack events ss (Some b) (q + 1) false in
        let at = λ (rows : Rows Unit Unit). P (come g t stack events 1 (s ∷ ss) previous q mark local name rows) in
        let there : drop (q + 1) t.seats ≡ ss = drop-next t.seats q s ss here in
        let grow : Rows Unit Unit = row (write size_grows ∷ consume ∷ []) (Next FlowBeforeThematicBreak) in
        let go : Rows Unit Unit = row (consume ∷ []) (Next name) in
        let grown = size_grows (shows stack events (s ∷ ss) q mark (unchanged local)) in
        let marked = mark-is g t stack events s ss q mark local m here marks in
        let breaks = g.options.constructs.thematic_break in
        let fails : is_white b ≡ false → is_thematic_break word ≡ false → at no = λ w none. nothing local h (is_blank_line (b ∷ bs)) (word-one b bs w) none (come g t stack events 1 (s ∷ ss) previous q mark local name no) (kept before local _ h refl refl refl refl refl) refl in
        at-line-byte g t stack events P name heading_setext_look_after_rows behind_tests (λ b l p q m k. refl) are-behind 1 s ss previous q mark local
        (by-false at (b == 10) ends _ in_line.0
        (elim (b == 45) as (λ v. (b == 45) ≡ v → at (cond v further_dash (cond (is_white b) go no))) [
          | true ↦ λ e.
              let dash : b ≡ 45 = eqb-true b 45 e in
              let w : is_white b ≡ false = ap is_white dash in
              by-share g t stack events 1 (s ∷ ss) previous q mark local name P breaks_are_on (when at_mark grow no) no
              (elim breaks as (λ v. breaks ≡ v → at (cond v (when at_mark grow no) no)) [
                | true ↦ λ turned.
                    by-known g t stack events 1 (s ∷ ss) previous q mark local name P at_mark grow no (b == m) marked
                    (elim (b == m) as (λ v. (b == m) ≡ v → at (cond v grow no)) [
                      | true ↦ λ same.
                          let is_45 : m ≡ 45 = sym (eqb-true b m same) ∙ dash in
                          let bigger : one_more size ≡ suc size = grows size (length line) room in
                          let found = break-found g t stack events m (ap (λ n. (n == 42) || ((n == 95) || (n == 45))) is_45) word before more over line in_line.1 (Some b) (q + 1) false grown there
                          (kept before local grown h refl refl refl refl refl) marks (subst (λ n. n + length line < 2 ^ 64 - 1) (sym bigger) (room-on size (length line) room)) in
                          let is_whole : is_thematic_break word ≡ breaks_on m (one_more size) bs = whole ∙ ap (λ n. (n == 45) && breaks_on m size (b ∷ bs)) is_45 ∙ break-mark m size b bs same ∙ sym (ap (λ n. breaks_on m n bs) bigger) in
                          subst (λ c. Found before c word (on grown FlowBeforeThematicBreak))
                          (sym (ap (kind_by m word) (word-one b bs w) ∙ ap (λ v. cond (v && is_thematic_break word) thematic_break text) turned ∙ ap (λ v. cond v thematic_break text) is_whole)) found
                      | false ↦ λ other.
                          let no_dash : (m == 45) ≡ false = other-mark m b dash other in
                          fails w (none-of word m size (b ∷ bs) whole no_dash)
                    ] refl)
                | false ↦ λ turned. subst (λ c. Found before c word (come g t stack events 1 (s ∷ ss) previous q mark local name no))
                    (sym (ap (kind_by m word) (word-one b bs w) ∙ ap (λ v. cond (v && is_thematic_break word) thematic_break text) turned)) (kept before local _ h refl refl refl refl refl, refl)
              ] refl)
          | false ↦ λ e. elim (is_white b) as (λ v. is_white b ≡ v → at (cond v go no)) [
            | true ↦ λ w.
                let apart_from : (b == m) ≡ false = unlike is_white m (mark-no-white m is) b w in
                let later = behind-found line in_line.1 (Some b) (q + 1) false (unchanged local) there (kept before local (unchanged local) h refl refl refl refl refl) marks (room-less size (length line) room)
                (whole ∙ ap (λ v. (m == 45) && v) (break-white m size b bs apart_from w)) in
                subst (λ c. Found before (kind_by m word c) word (on (unchanged local) name)) (sym (white-one b bs w)) later
            | false ↦ λ w. fails w (elim (b == m) as (λ v. (b == m) ≡ v → is_thematic_break word ≡ false) [
              | true ↦ λ same. none-of word m size (b ∷ bs) whole (ap (λ n. n == 45) (sym (eqb-true b m same)) ∙ e)
              | false ↦ λ other. none-at word m size b bs whole other w
            ] refl)
          ] refl
        ] refl))

    -- the look at the rest of a line, behind marks
    pub underline-found : (line : List Seat) → IsInLine line → (previous : Option ℕ) (q : ℕ) (mark : Bool) (local : Local Unit Unit) → drop q t.seats ≡ line ++ more → LeavesAll before local → local.tokenize_state.marker ≡ m
        → local.tokenize_state.size_b + length line < 2 ^ 64 - 1 → IsWhole word m local.tokenize_state.size_b (bytes_of line)
        → Found before (kind_by m word (underlines_on m (bytes_of line))) word (look g t stack events (line ++ more) previous q mark local FlowBeforeHeadingSetext)
    underline-found [] in_line previous q mark local here h marks room whole =
        let P = Found before underline word in
        over-line g t stack events P FlowBeforeHeadingSetext flow_before_heading_setext_rows ends (λ b l p q m k. refl) refl refl more over previous q mark local
        (kept before local _ h refl refl refl refl refl, (refl, refl, ends-found local h marks whole))
    underline-found (s ∷ line) in_line previous q mark local here h marks room whole =
        let b = s.byte in
        let bs = bytes_of line in
        let size = local.tokenize_state.size_b in
        let ss = line ++ more in
        let name = FlowBeforeHeadingSetext in
        let P = Found before (kind_by m word (underlines_on m (b ∷ bs))) word in
        let on = look g t stack events ss (Some b) (q + 1) false in
        let at = λ (rows : Rows Unit Unit). P (come g t stack events 1 (s ∷ ss) previous q mark local name rows) in
        let there : drop (q + 1) t.seats ≡ ss = drop-next t.seats q s ss here in
        let grow : Rows Unit Unit = row (write size_grows ∷ consume ∷ []) (Next name) in
        let go : Rows Unit Unit = row (consume ∷ []) (Next HeadingSetextLookAfter) in
        let grown = size_grows (shows stack events (s ∷ ss) q mark (unchanged local)) in
        let marked = mark-is g t stack events s ss q mark local m here marks in
        let by = by-known g t stack events 1 (s ∷ ss) previous q mark local name P at_mark grow no in
        at-line-byte g t stack events P name flow_before_heading_setext_rows setext_tests (λ b l p q m k. refl) are-setext 1 s ss previous q mark local
        (by-false at (b == 10) ends _ in_line.0
        (elim (b == m) as (λ v. (b == m) ≡ v → at (cond (is_line_mark b) (when at_mark grow no) (cond (is_white b) go no))) [
          | true ↦ λ e.
              let lined : is_line_mark b ≡ true = ap is_line_mark (eqb-true b m e) ∙ is in
              let bigger : one_more size ≡ suc size = grows size (length line) room in
              let later = underline-found line in_line.1 (Some b) (q + 1) false grown there (kept before local grown h refl refl refl refl refl) marks (subst (λ n. n + length line < 2 ^ 64 - 1) (sym bigger) (room-on size (length line) room))
              (whole ∙ ap (λ v. (m == 45) && v) (break-mark m size b bs e ∙ sym (ap (λ n. breaks_on m n bs) bigger))) in
              by-true at (is_line_mark b) (when at_mark grow no) _ lined (by true (marked ∙ e)
              (subst (λ c. Found before (kind_by m word c) word (on grown name)) (sym (underline-mark m b bs e)) later))
          | false ↦ λ e. elim (is_white b) as (λ v. is_white b ≡ v → at (cond (is_line_mark b) (when at_mark grow no) (cond v go no))) [
            | true ↦ λ w.
                let later = behind-found line in_line.1 (Some b) (q + 1) false (unchanged local) there (kept before local (unchanged local) h refl refl refl refl refl) marks (room-less size (length line) room)
                (whole ∙ ap (λ v. (m == 45) && v) (break-white m size b bs e w)) in
                by-false at (is_line_mark b) (when at_mark grow no) go (white-no-mark b w)
                (subst (λ c. Found before (kind_by m word c) word (on (unchanged local) HeadingSetextLookAfter)) (sym (underline-other m b bs e ∙ white-one b bs w)) later)
            | false ↦ λ w.
                let fails : at no = nothing local h (underlines_on m (b ∷ bs)) (underline-other m b bs e ∙ word-one b bs w) (none-at word m size b bs whole e w)
                (come g t stack events 1 (s ∷ ss) previous q mark local name no) (kept before local _ h refl refl refl refl refl) refl in
                elim (is_line_mark b) as (λ v. at (cond v (when at_mark grow no) no)) [
                  | true ↦ by false (marked ∙ e) fails
                  | false ↦ fails
                ]
          ] refl
        ] refl))
