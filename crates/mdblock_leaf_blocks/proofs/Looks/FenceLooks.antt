-- The look at an opening fence: its marks, and the info string of one of grave accents.
use Rattle.mdblock_leaf_blocks.proofs.Prelude.{Bool, List, Option, Some, [], ap, arith, cond, drop, false, length, nat_le, not, refl, subst, suc, sym, true, ℕ, ◌&&◌, ◌++◌, ◌+◌, ◌-◌, ◌<◌, ◌==◌, ◌^◌, ◌||◌, ◌∙◌, ◌∷◌, ◌≡◌, eqb-true, list_all, drop-next, Seat, Event, EventName, CodeFenced, Name, Next, Ok, Retry, FlowBeforeRaw, Local, Given, Text, fence_ends, flow_before_raw_rows, raw_flow_look_info_rows, flow_byte, flow, unchanged, at_mark, has_three, is_tilde_fence, kind_becomes, size_grows, RawFlowLookInfo, bytes_of, Fence, run, IsInLine, LeavesAll, LineEnds, SeenKind, fence, text, one_more, AreTestsOf, Glance, Look, glance, goes_on, is_over, looked_on, one_call, shows, Rows, consume, row, when, write}
use Rattle.mdblock_leaf_blocks.proofs.Looks.ByteClasses.{feed-is, fence-is, tick-is}
use Rattle.mdblock_leaf_blocks.proofs.Looks.CountRoom.{grows, room-on}
use Rattle.mdblock_leaf_blocks.proofs.Looks.LineTests.{fences_on, fence-mark, fence-other, run-on, run-ends}
use Rattle.mdblock_leaf_blocks.proofs.Looks.LookSteps.{Found, at-line-byte, over-line, at-line-end, by-false, by-known, by-true, come, kept, no, look, look_by, look-is, mark-is, rest_of}

abbrev marks_tests : List (ℕ → Bool)
marks_tests = (λ b. (b == 96) || (b == 126)) ∷ []

are-marks : AreTestsOf flow_byte (flow_before_raw_rows {R = Unit {0}} {D = Unit {0}}).cases marks_tests
are-marks = (fence-is, tt)

abbrev info_tests : List (ℕ → Bool)
info_tests = (λ b. b == 10) ∷ (λ b. b == 96) ∷ []

are-info : AreTestsOf flow_byte (raw_flow_look_info_rows {R = Unit {0}} {D = Unit {0}}).cases info_tests
are-info = (feed-is, (tick-is, tt))

-- a mark of fences
abbrev pub is_fence_mark : ℕ → Bool
is_fence_mark b = (b == 96) || (b == 126)

-- no grave accent comes
abbrev no_ticks : List ℕ → Bool
no_ticks bs = list_all (λ b. not (b == 96)) bs

module _ (g : Given) (t : Text) (stack : List EventName) (events : List Event) where
  abbrev ends : Rows Unit Unit
  ends = row (write (kind_becomes CodeFenced) ∷ []) Ok

  module _ (f : Fence) (word : List ℕ) (before : Local Unit Unit) where
    -- a fence is found, or text
    abbrev kind_by : Bool → SeenKind
    kind_by is = cond is (fence f) text

    -- one call more at a place finds the same
    once-more : (kind : SeenKind) (rest : Local Unit Unit → Name → Look Unit Unit) (l : List Seat) (mark : Bool) (o : Glance Unit Unit)
        → Found before kind word (looked_on flow g t stack events rest l mark o) → Found before kind word (looked_on flow g t stack events rest l mark (one_call o))
    once-more kind rest l mark (goes_on local name calls) h = h
    once-more kind rest l mark (is_over true local answer calls) h = h
    once-more kind rest l mark (is_over false local answer calls) h = h

    -- What is noted of it: its mark, how many, and the columns before it
    abbrev IsNoted : Local Unit Unit → Type 0
    IsNoted local = (local.tokenize_state.marker ≡ f.byte) × (local.tokenize_state.size_b ≡ f.size) × (local.tokenize_state.size_c ≡ f.indent)

    module _ (more : List Seat) (over : LineEnds more) where
      -- the info string
      info-found : (bound : ℕ) (line : List Seat) → IsInLine line → (previous : Option ℕ) (q : ℕ) (mark : Bool) (local : Local Unit Unit) → LeavesAll before local → IsNoted local
          → Found before (kind_by (no_ticks (bytes_of line))) word (look_by g t stack events bound (line ++ more) previous q mark local RawFlowLookInfo)
      info-found bound [] in_line previous q mark local h noted =
          at-line-end g t stack events (Found before (fence f) word) RawFlowLookInfo raw_flow_look_info_rows ends (λ b l p q m k. refl) refl refl bound more over previous q mark local
          (kept before local _ h refl refl refl refl refl, (refl, refl, noted.0, noted.1, noted.2))
      info-found bound (s ∷ line) in_line previous q mark local h noted =
          let b = s.byte in
          let bs = bytes_of line in
          let ss = line ++ more in
          let name = RawFlowLookInfo in
          let P = Found before (kind_by (no_ticks (b ∷ bs))) word in
          let at = λ (rows : Rows Unit Unit). P (come g t stack events bound (s ∷ ss) previous q mark local name rows) in
          let go : Rows Unit Unit = row (consume ∷ []) (Next name) in
          at-line-byte g t stack events P name raw_flow_look_info_rows info_tests (λ b l p q m k. refl) are-info bound s ss previous q mark local
          (by-false at (b == 10) ends _ in_line.0
          (elim (b == 96) as (λ v. (Found before (kind_by (not v && no_ticks bs)) word (come g t stack events bound (s ∷ ss) previous q mark local name (cond v no go)))) [
            | true ↦ (kept before local _ h refl refl refl refl refl, refl)
            | false ↦
                let later = info-found 1 line in_line.1 (Some b) (q + 1) false (unchanged local) (kept before local (unchanged local) h refl refl refl refl refl) noted in
                subst (Found before (kind_by (no_ticks bs)) word) (sym (look-is g t stack events ss (Some b) (q + 1) false (unchanged local) name)) later
          ]))

      -- the marks end
      marks-over : (line : List Seat) → IsInLine line → (previous : Option ℕ) (q : ℕ) (mark : Bool) (local : Local Unit Unit) → LeavesAll before local → IsNoted local
          → Found before (kind_by (nat_le 3 f.size && ((f.byte == 126) || no_ticks (bytes_of line)))) word (come g t stack events 1 (line ++ more) previous q mark local FlowBeforeRaw fence_ends)
      marks-over line in_line previous q mark local h noted =
          let l = line ++ more in
          let name = FlowBeforeRaw in
          let ticks = no_ticks (bytes_of line) in
          let info : Rows Unit Unit = row [] (Retry RawFlowLookInfo) in
          let by = λ (P : Look Unit Unit → Type 0). by-known g t stack events 1 l previous q mark local name P in
          let comes = come g t stack events 1 l previous q mark local name in
          let P = Found before (kind_by (nat_le 3 f.size && ((f.byte == 126) || ticks))) word in
          by P has_three (when is_tilde_fence ends info) no (nat_le 3 f.size) (ap (nat_le 3) noted.1)
          (elim (nat_le 3 f.size) as (λ v. Found before (kind_by (v && ((f.byte == 126) || ticks))) word (comes (cond v (when is_tilde_fence ends info) no))) [
            | true ↦ by (Found before (kind_by ((f.byte == 126) || ticks)) word) is_tilde_fence ends info (f.byte == 126) (ap (λ n. n == 126) noted.0)
                (elim (f.byte == 126) as (λ v. Found before (kind_by (v || ticks)) word (comes (cond v ends info))) [
                  | true ↦ (kept before local _ h refl refl refl refl refl, (refl, refl, noted.0, noted.1, noted.2))
                  | false ↦ once-more (kind_by ticks) (rest_of g t stack events l q) l mark (glance flow g t stack events 1 previous l q mark (unchanged local) RawFlowLookInfo)
                      (info-found 0 line in_line previous q mark (unchanged local) (kept before local (unchanged local) h refl refl refl refl refl) noted)
                ])
            | false ↦ (kept before local _ h refl refl refl refl refl, refl)
          ])

      -- the look at the rest of a line, behind marks
      pub fence-found : is_fence_mark f.byte ≡ true → (line : List Seat) → IsInLine line → (previous : Option ℕ) (q : ℕ) (mark : Bool) (local : Local Unit Unit) → drop q t.seats ≡ line ++ more → LeavesAll before local
          → local.tokenize_state.marker ≡ f.byte → local.tokenize_state.size_c ≡ f.indent → f.size ≡ local.tokenize_state.size_b + run f.byte (bytes_of line) → local.tokenize_state.size_b + length line < 2 ^ 64 - 1
          → Found before (kind_by (fences_on f.byte local.tokenize_state.size_b (bytes_of line))) word (look g t stack events (line ++ more) previous q mark local FlowBeforeRaw)
      fence-found is [] in_line previous q mark local here h marks columns size room =
          let n = local.tokenize_state.size_b in
          let P = Found before (kind_by (fences_on f.byte n [])) word in
          let none : n + 0 ≡ n = omega arith in
          over-line g t stack events P FlowBeforeRaw flow_before_raw_rows fence_ends (λ b l p q m k. refl) refl refl more over previous q mark local
          (subst (λ k. Found before (kind_by (nat_le 3 k && ((f.byte == 126) || true))) word (come g t stack events 1 more previous q mark local FlowBeforeRaw fence_ends)) size
          (marks-over [] in_line previous q mark local h (marks, sym none ∙ sym size, columns)))
      fence-found is (s ∷ line) in_line previous q mark local here h marks columns size room =
          let b = s.byte in
          let m = f.byte in
          let bs = bytes_of line in
          let n = local.tokenize_state.size_b in
          let ss = line ++ more in
          let name = FlowBeforeRaw in
          let P = Found before (kind_by (fences_on m n (b ∷ bs))) word in
          let on = look g t stack events ss (Some b) (q + 1) false in
          let at = λ (rows : Rows Unit Unit). P (come g t stack events 1 (s ∷ ss) previous q mark local name rows) in
          let there : drop (q + 1) t.seats ≡ ss = drop-next t.seats q s ss here in
          let grow : Rows Unit Unit = row (write size_grows ∷ consume ∷ []) (Next name) in
          let grown = size_grows (shows stack events (s ∷ ss) q mark (unchanged local)) in
          let marked = mark-is g t stack events s ss q mark local m here marks in
          let by = by-known g t stack events 1 (s ∷ ss) previous q mark local name P at_mark grow fence_ends in
          let none : n + 0 ≡ n = omega arith in
          at-line-byte g t stack events P name flow_before_raw_rows marks_tests (λ b l p q m k. refl) are-marks 1 s ss previous q mark local
          (elim (b == m) as (λ v. (b == m) ≡ v → at (cond (is_fence_mark b) (when at_mark grow fence_ends) fence_ends)) [
            | true ↦ λ e.
                let fenced : is_fence_mark b ≡ true = ap is_fence_mark (eqb-true b m e) ∙ is in
                let bigger : one_more n ≡ suc n = grows n (length line) room in
                let more_marks : n + suc (run m bs) ≡ suc n + run m bs = omega arith in
                let later = fence-found is line in_line.1 (Some b) (q + 1) false grown there (kept before local grown h refl refl refl refl refl) marks columns
                (size ∙ ap (λ k. n + k) (run-on m b bs e) ∙ more_marks ∙ sym (ap (λ k. k + run m bs) bigger)) (subst (λ k. k + length line < 2 ^ 64 - 1) (sym bigger) (room-on n (length line) room)) in
                by-true at (is_fence_mark b) (when at_mark grow fence_ends) fence_ends fenced (by true (marked ∙ e)
                (subst (λ c. Found before (kind_by c) word (on grown name)) (ap (λ k. fences_on m k bs) bigger ∙ sym (fence-mark m n b bs e)) later))
            | false ↦ λ e.
                let sized : f.size ≡ n = size ∙ ap (λ k. n + k) (run-ends m b bs e) ∙ none in
                let over_here : at fence_ends = subst (λ c. Found before (kind_by c) word (come g t stack events 1 (s ∷ ss) previous q mark local name fence_ends))
                (ap (λ k. nat_le 3 k && ((m == 126) || no_ticks (b ∷ bs))) sized ∙ sym (fence-other m n b bs e)) (marks-over (s ∷ line) in_line previous q mark local h (marks, sym sized, columns)) in
                elim (is_fence_mark b) as (λ v. at (cond v (when at_mark grow fence_ends) fence_ends)) [
                  | true ↦ by false (marked ∙ e) over_here
                  | false ↦ over_here
                ]
          ] refl)
