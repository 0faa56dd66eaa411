-- Between blocks: a line ending is read, or the text ends.
use Rattle.mdblock_leaf_blocks.proofs.Prelude.{◌≡◌, List, [], ◌∷◌, ◌++◌, Option, Some, None, ◌⊎◌, inl, inr, map, drop, refl, sym, ap, ◌∙◌, subst, append_assoc, append-nil, drop-next, Enter, Exit, EventName, BlankLineEnding, LineEnding, Name, Next, Retry, Ok, FlowAfter, FlowStart, shown, Seat, Byte, End, with_local, consumed, entered, exited, Configuration, sight, end_or, next_place, point_of, point_or, Given, Text, at-front, goes-called, waits_at, enter, exit, consume, row, StateRows, named, table_step, all_of, event, flow_after, flow_start, FlowByte, line_feed, flow_byte, flow, unchanged, Line, leaf_marks, as_it_is}
use Rattle.mdblock_leaf_blocks.proofs.Lines.Checks.{called-row, class-here}
use Rattle.mdblock_leaf_blocks.proofs.Whole.Told.{IsTold, ToldTo, told-none}

-- how a line ends before these lines: with a line ending; or they are none
pub record ByEnding (ending : List Seat) : Type 0 where
  pub seat : Seat
  pub is : ending ≡ seat ∷ []
  pub feed : seat.byte ≡ 10

abbrev pub Ended : (ending : List Seat) → (more : List Line) → Type 0
Ended ending more = ByEnding ending ⊎ ((ending ≡ []) × (more ≡ []))

module _ (g : Given) (t : Text) (k : Configuration Unit Unit) where
  -- a state that reads a line ending as a span, and is before a line then
  pub ending-told : (n : EventName) (name : Name) (state : StateRows FlowByte Unit Unit) → named flow.states name ≡ Some state
      → ((previous : Option FlowByte) → state.rows previous (Some line_feed) ≡ row (enter n ∷ consume ∷ exit n ∷ []) (Next FlowStart))
      → (s : Seat) (more : List Line) → s.byte ≡ 10 → drop k.position t.seats ≡ s ∷ all_of more → k.waiting ≡ Byte
      → IsTold g t k (Retry name) (map as_it_is (leaf_marks g.bytes n (s ∷ []))) more
  ending-told n name state is row_is s more feed at waits =
      let seen = sight g t k in
      let k1 = with_local k (unchanged k.local) in
      let after = exited n seen.next (consumed (entered n None seen.enter_place k1)) in
      let step = called-row g t k name state is (Some line_feed) (class-here g t k (s ∷ all_of more) at waits ∙ ap (λ b. Some (flow_byte b)) feed) (row (enter n ∷ consume ∷ exit n ∷ []) (Next FlowStart)) row_is in
      let here = at-front t.seats k.position s (all_of more) at in
      let from : seen.enter_place ≡ shown g.bytes s.point = ap (λ w. shown g.bytes (point_of t k.position w)) waits ∙ ap (λ o. shown g.bytes (point_or t.end o)) here in
      let past : seen.next ≡ shown g.bytes s.end = ap (λ w. shown g.bytes (next_place t k.position w)) waits ∙ ap (λ o. shown g.bytes (end_or t.end o)) here in
      record {
        after = after;
        to = Next FlowStart;
        told_to = record {
          calls = 1;
          events_are =
              append_assoc k.events _ _
              ∙ ap (λ p. k.events ++ record { kind = Enter; name = n; point = p; link = None } ∷ record { kind = Exit; name = n; point = seen.next; link = None } ∷ []) from
              ∙ ap (λ p. k.events ++ event g.bytes Enter n s.point ∷ record { kind = Exit; name = n; point = p; link = None } ∷ []) past;
          edits = sym (append-nil k.local.map);
          resolvers = refl;
          leads = λ cs calls z h. (goes-called g (table_step flow g) t k name after (Next FlowStart) step).leads cs calls z h;
        };
        ends = inl (refl, drop-next t.seats k.position s (all_of more) at);
      }

  -- a state with which the text ends
  pub end-told : (name : Name) (state : StateRows FlowByte Unit Unit) → named flow.states name ≡ Some state → ((previous : Option FlowByte) → state.rows previous None ≡ row [] Ok)
      → drop k.position t.seats ≡ [] → k.waiting ≡ End → ToldTo g t k (Retry name) [] (with_local k (unchanged k.local)) Ok
  end-told name state is row_is at waits =
      let after = with_local k (unchanged k.local) in
      let step = called-row g t k name state is None (class-here g t k [] at waits) (row [] Ok) row_is in
      told-none g t k after (Retry name) Ok 1 refl (record { edits = refl; resolvers = refl }) (λ cs calls z h. (goes-called g (table_step flow g) t k name after Ok step).leads cs calls z h)

  -- Behind a block comes a line ending, or nothing
  pub behind-told : (ending : List Seat) (more : List Line) → Ended ending more → drop k.position t.seats ≡ ending ++ all_of more → k.waiting ≡ waits_at (ending ++ all_of more)
      → IsTold g t k (Retry FlowAfter) (map as_it_is (leaf_marks g.bytes LineEnding ending)) more
  behind-told ending more (inl by) at waits =
      subst (λ e. IsTold g t k (Retry FlowAfter) (map as_it_is (leaf_marks g.bytes LineEnding e)) more) (sym by.is)
      (ending-told LineEnding FlowAfter flow_after refl (λ previous. refl) by.seat more by.feed (at ∙ ap (λ e. e ++ all_of more) by.is) (waits ∙ ap (λ e. waits_at (e ++ all_of more)) by.is))
  behind-told ending more (inr none) at waits =
      let nothing : ending ++ all_of more ≡ [] = ap (λ e. e ++ all_of more) none.0 ∙ ap all_of none.1 in
      subst (λ e. IsTold g t k (Retry FlowAfter) (map as_it_is (leaf_marks g.bytes LineEnding e)) more) (sym none.0)
      (record {
        after = with_local k (unchanged k.local);
        to = Ok;
        told_to = end-told FlowAfter flow_after refl (λ previous. refl) (at ∙ nothing) (waits ∙ ap waits_at nothing);
        ends = inr (refl, none.1);
      })

  -- before a blank line without white space, and at the end of the text
  pub blank-told : (s : Seat) (more : List Line) → s.byte ≡ 10 → drop k.position t.seats ≡ s ∷ all_of more → k.waiting ≡ Byte
      → IsTold g t k (Retry FlowStart) (map as_it_is (leaf_marks g.bytes BlankLineEnding (s ∷ []))) more
  blank-told s more feed at waits = ending-told BlankLineEnding FlowStart flow_start refl (λ previous. refl) s more feed at waits

  pub start-ends : drop k.position t.seats ≡ [] → k.waiting ≡ End → ToldTo g t k (Retry FlowStart) [] (with_local k (unchanged k.local)) Ok
  start-ends at waits = end-told FlowStart flow_start refl (λ previous. refl) at waits
