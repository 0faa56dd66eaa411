-- The look at the line behind a line of HTML of kinds 6 and 7: is it blank?
use Rattle.mdblock_leaf_blocks.proofs.Prelude.{Bool, List, Option, Some, [], ap, cond, drop, false, nat_le, refl, subst, suc, sym, true, ℕ, ◌+◌, ◌∙◌, ◌∷◌, ◌≡◌, Seat, Event, EventName, Name, State, Next, Nok, Ok, Retry, HtmlFlowBlankLineBefore, HtmlFlowContinuation, HtmlFlowContinuationAfter, HtmlFlowContinuationStart, check_at, with_local, Local, byte_of, seat_before, sight, Given, Text, Byte, FlowByte, flow_byte, is_blank, is_line_feed, line_feed, flow, unchanged, html_flow_blank_line_before_rows, html_flow_continuation, html_flow_continuation_rows, HtmlFlowBlankLineInside, IsReadAs, Mark, told, rows_in, Look, scan, Rows, consume, row, table_step}
use Rattle.mdblock_leaf_blocks.proofs.Lines.Checks.{called-row, class-here, look_here, read-behind, step-checks}
use Rattle.mdblock_leaf_blocks.proofs.Html.Steps.{Config, Kept, kept-on, kind_in}

-- white space comes, and then a line ending or the end
abbrev pub blank_ahead : List Seat → Bool
blank_ahead [] = true
blank_ahead (s ∷ ss) = cond (is_line_feed (flow_byte s.byte)) true (cond (is_blank (flow_byte s.byte)) (blank_ahead ss) false)

-- what a look says, and leaves
pub record Says (local : Local Unit Unit) (r : Look Unit Unit) (yes : Bool) : Type 0 where
  pub answer : r.answer ≡ cond yes Ok Nok
  pub kept : Kept local r.local

unchanged-kept : (local : Local Unit Unit) → Kept local (unchanged local)
unchanged-kept local = record { edits = refl; resolvers = refl; kind = refl }

module _ (g : Given) (t : Text) (stack : List EventName) (events : List Event) where
  abbrev scans : List Seat → Option ℕ → ℕ → Bool → Local Unit Unit → Name → Look Unit Unit
  scans l previous q mark local name = scan flow g t stack events 2 l previous q mark local name

  looks-over : (l : List Seat) (previous : Option ℕ) (q : ℕ) (mark : Bool) (local : Local Unit Unit) → Says local (scans l previous q mark local HtmlFlowBlankLineInside) (blank_ahead l)
  looks-over [] previous q mark local = record { answer = refl; kept = unchanged-kept local }
  looks-over (s ∷ ss) previous q mark local =
      let c = flow_byte s.byte in
      let tells : Rows Unit Unit → Look Unit Unit = told flow (λ r. r) g t stack events 1 (scans ss (Some s.byte) (q + 1) false) (s ∷ ss) previous q mark local HtmlFlowBlankLineInside in
      let over : Rows Unit Unit = row [] Ok in
      let on : Rows Unit Unit = row (consume ∷ []) (Next HtmlFlowBlankLineInside) in
      let no_more : Rows Unit Unit = row [] Nok in
      elim (is_line_feed c) as (λ f. Says local (tells (cond f over (cond (is_blank c) on no_more))) (cond f true (cond (is_blank c) (blank_ahead ss) false))) [
        | true ↦ record { answer = refl; kept = unchanged-kept local }
        | false ↦ elim (is_blank c) as (λ w. Says local (tells (cond w on no_more)) (cond w (blank_ahead ss) false)) [
          | true ↦
              let h = looks-over ss (Some s.byte) (q + 1) false (unchanged local) in record { answer = h.answer; kept = kept-on local (unchanged local) _ (unchanged-kept local) h.kept }
          | false ↦ record { answer = refl; kept = unchanged-kept local }
        ]
      ]

  -- from the line ending on
  looks-behind : (s : Seat) (ss : List Seat) (previous : Option ℕ) (q : ℕ) (mark : Bool) (local : Local Unit Unit) → s.byte ≡ 10
      → Says local (scans (s ∷ ss) previous q mark local HtmlFlowBlankLineBefore) (blank_ahead ss)
  looks-behind s ss previous q mark local feed =
      let tells : FlowByte → Look Unit Unit = λ c. told flow (λ r. r) g t stack events 1 (scans ss (Some s.byte) (q + 1) false) (s ∷ ss) previous q mark local HtmlFlowBlankLineBefore
      (rows_in (html_flow_blank_line_before_rows {R = Unit {0}} {D = Unit {0}}).cases (html_flow_blank_line_before_rows {R = Unit {0}} {D = Unit {0}}).rest c) in
      let h = looks-over ss (Some s.byte) (q + 1) false (unchanged local) in
      subst (λ c. Says local (tells c) (blank_ahead ss)) (sym (ap flow_byte feed))
      (record { answer = h.answer; kept = kept-on local (unchanged local) _ (unchanged-kept local) h.kept })

-- so the line ends the block, or goes on
module _ (g : Given) (t : Text) (k : Config) (s : Seat) (ss : List Seat) (at : drop k.position t.seats ≡ s ∷ ss) (waits : k.waiting ≡ Byte) (feed : s.byte ≡ 10) (long : nat_le 6 (kind_in k) ≡ true) where
  abbrev looked : Look Unit Unit
  looked = look_here g t k s ss at waits (unchanged k.local) HtmlFlowBlankLineBefore

  says : Says (unchanged k.local) looked (blank_ahead ss)
  says = looks-behind g t k.stack k.events s ss (byte_of (seat_before t k.position)) k.position k.ended (unchanged k.local) feed

  checks : table_step flow g (sight g t k) k HtmlFlowContinuation
      ≡ record { configuration = with_local k (unchanged k.local); choices = check_at (Next HtmlFlowContinuationAfter) (Next HtmlFlowContinuationStart) k ∷ []; answer = Retry HtmlFlowBlankLineBefore }
  checks =
      let rows : Rows Unit Unit = rows_in (html_flow_continuation_rows {R = Unit {0}} {D = Unit {0}}).cases (html_flow_continuation_rows {R = Unit {0}} {D = Unit {0}}).rest line_feed in
      called-row g t k HtmlFlowContinuation html_flow_continuation refl (Some line_feed) (class-here g t k (s ∷ ss) at waits ∙ ap (λ n. Some (flow_byte n)) feed) rows (λ previous. refl) ∙ rw long refl

  -- the state that comes next
  abbrev pub next_state : Name
  next_state = cond (blank_ahead ss) HtmlFlowContinuationAfter HtmlFlowContinuationStart

  pub read-looked : (line rest : List Seat) (marks : List Mark) (to : State) → ((local : Local Unit Unit) → Kept k.local local → IsReadAs g t Kept (with_local k local) next_state line rest marks to)
      → IsReadAs g t Kept k HtmlFlowContinuation line rest marks to
  read-looked line rest marks to h =
      let r = looked in
      let kept = kept-on k.local (unchanged k.local) r.local (unchanged-kept k.local) says.kept in
      read-behind g t Kept k HtmlFlowContinuation next_state r.local (suc r.calls)
      (step-checks g t k s ss at waits HtmlFlowContinuation HtmlFlowBlankLineBefore HtmlFlowContinuationAfter HtmlFlowContinuationStart (unchanged k.local) checks (blank_ahead ss) says.answer)
      (λ after more. kept-on k.local r.local after kept more) line rest marks to (h r.local kept)
