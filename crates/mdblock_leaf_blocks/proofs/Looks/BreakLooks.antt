-- The look at the marks of a thematic break.
use Rattle.mdblock_leaf_blocks.proofs.Prelude.{Bool, List, Option, Some, [], ap, cond, drop, false, length, nat_le, refl, subst, suc, sym, true, ℕ, ◌++◌, ◌+◌, ◌-◌, ◌<◌, ◌==◌, ◌^◌, ◌||◌, ◌∙◌, ◌∷◌, ◌≡◌, eqb-true, drop-next, Seat, Event, EventName, ThematicBreak, Next, Ok, FlowBeforeThematicBreak, Local, Given, Text, flow_byte, unchanged, at_mark, has_three, kind_becomes, size_grows, flow_before_thematic_break_rows, bytes_of, IsInLine, LeavesAll, LineEnds, text, thematic_break, is_white, one_more, AreTestsOf, shows, Rows, consume, row, when, write}
use Rattle.mdblock_leaf_blocks.proofs.Looks.ByteClasses.{feed-is, rule-is, blank-is}
use Rattle.mdblock_leaf_blocks.proofs.Looks.CountRoom.{grows, room-on, room-less}
use Rattle.mdblock_leaf_blocks.proofs.Looks.LineTests.{breaks_on, break-ends, break-mark, break-white, break-fails}
use Rattle.mdblock_leaf_blocks.proofs.Looks.LookSteps.{Found, at-line-byte, over-line, by-false, by-known, by-true, by-share, come, kept, no, look, mark-is}

-- A mark of thematic breaks: a star, an underscore or a dash
abbrev pub is_break_mark : ℕ → Bool
is_break_mark byte = (byte == 42) || ((byte == 95) || (byte == 45))

abbrev tests : List (ℕ → Bool)
tests = (λ b. b == 10) ∷ (λ b. (b == 42) || ((b == 95) || (b == 45))) ∷ is_white ∷ []

are-tests : AreTestsOf flow_byte (flow_before_thematic_break_rows {R = Unit {0}} {D = Unit {0}}).cases tests
are-tests = (feed-is, (rule-is, (blank-is, tt)))

-- a mark is no white space
pub mark-no-white : (b : ℕ) → is_break_mark b ≡ true → is_white b ≡ false
mark-no-white b is = elim (b == 42) as (λ t. (b == 42) ≡ t → (t || ((b == 95) || (b == 45))) ≡ true → is_white b ≡ false) [
  | true ↦ λ e h. ap is_white (eqb-true b 42 e)
  | false ↦ λ e h. elim (b == 95) as (λ t. (b == 95) ≡ t → (t || (b == 45)) ≡ true → is_white b ≡ false) [
    | true ↦ λ e h. ap is_white (eqb-true b 95 e)
    | false ↦ λ e h. ap is_white (eqb-true b 45 h)
  ] refl h
] refl is

pub white-no-mark : (b : ℕ) → is_white b ≡ true → is_break_mark b ≡ false
white-no-mark b w = elim (is_break_mark b) as (λ t. is_break_mark b ≡ t → t ≡ false) [
  | true ↦ λ e. sym w ∙ mark-no-white b e
  | false ↦ λ e. refl
] refl

module _ (g : Given) (t : Text) (stack : List EventName) (events : List Event) where
  abbrev ends : Rows Unit Unit
  ends = row (write (kind_becomes ThematicBreak) ∷ []) Ok

  module _ (m : ℕ) (is : is_break_mark m ≡ true) (word : List ℕ) (before : Local Unit Unit) (more : List Seat) (over : LineEnds more) where
    -- the line ends
    break-over : (previous : Option ℕ) (q : ℕ) (mark : Bool) (local : Local Unit Unit) → LeavesAll before local
        → Found before (cond (breaks_on m local.tokenize_state.size_b []) thematic_break text) word (look g t stack events more previous q mark local FlowBeforeThematicBreak)
    break-over previous q mark local h =
        let size = local.tokenize_state.size_b in
        let P = Found before (cond (breaks_on m size []) thematic_break text) word in
        over-line g t stack events P FlowBeforeThematicBreak flow_before_thematic_break_rows (when has_three ends no) (λ b l p q m k. refl) refl refl more over previous q mark local
        (by-share g t stack events 1 more previous q mark local FlowBeforeThematicBreak P has_three ends no
        (elim (nat_le 3 size) as (λ b. nat_le 3 size ≡ b → P (come g t stack events 1 more previous q mark local FlowBeforeThematicBreak (cond b ends no))) [
          | true ↦ λ e. subst (λ b. Found before (cond b thematic_break text) word (come g t stack events 1 more previous q mark local FlowBeforeThematicBreak ends)) (sym (break-ends m size ∙ e)) (kept before local _ h refl refl refl refl refl, (refl, refl))
          | false ↦ λ e. subst (λ b. Found before (cond b thematic_break text) word (come g t stack events 1 more previous q mark local FlowBeforeThematicBreak no)) (sym (break-ends m size ∙ e)) (kept before local _ h refl refl refl refl refl, refl)
        ] refl))

    -- the look at the rest of a line finds a thematic break, or text
    pub break-found : (line : List Seat) → IsInLine line → (previous : Option ℕ) (q : ℕ) (mark : Bool) (local : Local Unit Unit) → drop q t.seats ≡ line ++ more → LeavesAll before local → local.tokenize_state.marker ≡ m
        → local.tokenize_state.size_b + length line < 2 ^ 64 - 1
        → Found before (cond (breaks_on m local.tokenize_state.size_b (bytes_of line)) thematic_break text) word (look g t stack events (line ++ more) previous q mark local FlowBeforeThematicBreak)
    break-found [] in_line previous q mark local here h marks room = break-over previous q mark local h
    break-found (s ∷ line) in_line previous q mark local here h marks room =
        let b = s.byte in
        let bs = bytes_of line in
        let size = local.tokenize_state.size_b in
        let ss = line ++ more in
        let name = FlowBeforeThematicBreak in
        let kind = cond (breaks_on m size (b ∷ bs)) thematic_break text in
        let P = Found before kind word in
        let on = look g t stack events ss (Some b) (q + 1) false in
        let at = λ (rows : Rows Unit Unit). P (come g t stack events 1 (s ∷ ss) previous q mark local name rows) in
        let there : drop (q + 1) t.seats ≡ ss = drop-next t.seats q s ss here in
        let grow : Rows Unit Unit = row (write size_grows ∷ consume ∷ []) (Next name) in
        let go : Rows Unit Unit = row (consume ∷ []) (Next name) in
        let grown = size_grows (shows stack events (s ∷ ss) q mark (unchanged local)) in
        let marked = mark-is g t stack events s ss q mark local m here marks in
        let by = by-known g t stack events 1 (s ∷ ss) previous q mark local name P at_mark grow no in
        let nothing : breaks_on m size (b ∷ bs) ≡ false → at no = λ e. subst (λ c. Found before (cond c thematic_break text) word (come g t stack events 1 (s ∷ ss) previous q mark local name no)) (sym e) (kept before local _ h refl refl refl refl refl, refl) in
        at-line-byte g t stack events P name flow_before_thematic_break_rows tests (λ b l p q m k. refl) are-tests 1 s ss previous q mark local
        (by-false at (b == 10) (when has_three ends no) _ in_line.0
        (elim (b == m) as (λ v. (b == m) ≡ v → at (cond (is_break_mark b) (when at_mark grow no) (cond (is_white b) go no))) [
          | true ↦ λ e.
              let rule : is_break_mark b ≡ true = ap is_break_mark (eqb-true b m e) ∙ is in
              let bigger : one_more size ≡ suc size = grows size (length line) room in
              let later = break-found line in_line.1 (Some b) (q + 1) false grown there (kept before local grown h refl refl refl refl refl) marks (subst (λ n. n + length line < 2 ^ 64 - 1) (sym bigger) (room-on size (length line) room)) in
              by-true at (is_break_mark b) (when at_mark grow no) _ rule (by true (marked ∙ e)
              (subst (λ c. Found before (cond c thematic_break text) word (on grown name)) (ap (λ n. breaks_on m n bs) bigger ∙ sym (break-mark m size b bs e)) later))
          | false ↦ λ e. elim (is_white b) as (λ v. is_white b ≡ v → at (cond (is_break_mark b) (when at_mark grow no) (cond v go no))) [
            | true ↦ λ w.
                let later = break-found line in_line.1 (Some b) (q + 1) false (unchanged local) there (kept before local (unchanged local) h refl refl refl refl refl) marks (room-less size (length line) room) in
                by-false at (is_break_mark b) (when at_mark grow no) go (white-no-mark b w)
                (subst (λ c. Found before (cond c thematic_break text) word (on (unchanged local) name)) (sym (break-white m size b bs e w)) later)
            | false ↦ λ w. elim (is_break_mark b) as (λ v. at (cond v (when at_mark grow no) no)) [
              | true ↦ by false (marked ∙ e) (nothing (break-fails m size b bs e w))
              | false ↦ nothing (break-fails m size b bs e w)
            ]
          ] refl
        ] refl))
