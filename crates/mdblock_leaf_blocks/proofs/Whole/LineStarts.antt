-- At the beginning of a line: the text ends there, or a blank line is read, or a look says what the line is.
use Rattle.mdblock_leaf_blocks.proofs.Prelude.{Bool, List, None, Option, Some, [], ap, append_assoc, arith, cond, drop, false, length, length-append, refl, subst, sym, true, ◌++◌, ◌+◌, ◌-◌, ◌<◌, ◌^◌, ◌∙◌, ◌∷◌, ◌≡◌, length-drop, Seat, BlankLineEnding, Name, State, Next, Nok, Ok, Retry, ContentDefinitionBefore, FlowBeforeContent, FlowBlankLineAfter, FlowBlankLineBefore, FlowStart, fed-ends, with_local, Configuration, Local, EndsIn, Reading, fed, byte_of, seat_before, sight, Given, Text, Check, Byte, End, content_definition_before, flow_start, flow_start_rows, FlowByte, flow_byte, flow, unchanged, indent_becomes, AreLines, IsAtLines, KeepsEdits, Line, bytes_of, text_of, unindented, Finds, IsInLine, LineEnds, LinesAreSeen, seen_kind, all_of, ending_of, line_text, Leads, feeds, goes-called, waits_at, choose, class_of, consume, enter, exit, row, table_step, write}
use Rattle.mdblock_leaf_blocks.proofs.Lines.{called-row, cut-line, first-parts, looks, step-checked, text-in-line}
use Rattle.mdblock_leaf_blocks.proofs.Lines.Checks.{leads-on}
use Rattle.mdblock_leaf_blocks.proofs.Whole.LineBreaks.{start-ends}
use Rattle.mdblock_leaf_blocks.proofs.Whole.Told.{ToldTo, told-none, told-on}
use Rattle.mdblock_leaf_blocks.proofs.Looks.ByteClasses.{no-line-feed}

-- the byte waits, or the end
abbrev pub at_byte : Configuration Unit Unit → Configuration Unit Unit
at_byte k = record k { waiting = Byte }

abbrev pub at_end : Configuration Unit Unit → Configuration Unit Unit
at_end k = record k { waiting = End; ended = true }

module _ (g : Given) (t : Text) (k : Configuration Unit Unit) where
  leads-fed : (name : Name) (k1 : Configuration Unit Unit) → fed t k ≡ k1 → Leads g (table_step flow g) t 0 k (Next name) k1 (Retry name)
  leads-fed name k1 is cs calls z h =
      let none : calls + 0 ≡ calls = omega arith in
      (fed-ends g (table_step flow g) t calls k cs name z).0
      (subst (λ q. EndsIn g (table_step flow g) t calls q cs (Retry name) z) (sym is) (subst (λ n. EndsIn g (table_step flow g) t n k1 cs (Retry name) z) none h))

  -- a state to come, once its byte is fed
  pub told-fed : (s : Seat) (ss : List Seat) (name : Name) → drop k.position t.seats ≡ s ∷ ss → ToldTo g t k (Next name) [] (at_byte k) (Retry name)
  told-fed s ss name at =
      told-none g t k (at_byte k) (Next name) (Retry name) 0 refl (record { edits = refl; resolvers = refl }) (leads-fed name (at_byte k) (feeds k.stack k.events t (s ∷ ss) k.position k.ended k.local at))

  pub told-fed-end : (name : Name) → drop k.position t.seats ≡ [] → ToldTo g t k (Next name) [] (at_end k) (Retry name)
  told-fed-end name at =
      told-none g t k (at_end k) (Next name) (Retry name) 0 refl (record { edits = refl; resolvers = refl }) (leads-fed name (at_end k) (feeds k.stack k.events t [] k.position k.ended k.local at))

  -- a chain of content begins as a document does, one call later
  same-row : (current previous : Option FlowByte) → (content_definition_before {R = Unit {0}} {D = Unit {0}}).rows previous current ≡ row [] (Retry FlowStart)
  same-row None previous = refl
  same-row (Some w) previous = refl

  pub content-leads : (r : Reading Unit Unit) → EndsIn g (table_step flow g) t 1 k [] (Next FlowStart) r → EndsIn g (table_step flow g) t 0 k [] (Next ContentDefinitionBefore) r
  content-leads r h =
      let k1 = fed t k in
      let seen = class_of flow_byte (sight g t k1).current in
      let step = called-row g t k1 ContentDefinitionBefore content_definition_before refl seen refl (row [] (Retry FlowStart)) (same-row seen) in
      let called = (goes-called g (table_step flow g) t k1 ContentDefinitionBefore k1 (Retry FlowStart) step).leads [] 0 r in
      (fed-ends g (table_step flow g) t 0 k [] ContentDefinitionBefore r).0 (called ((fed-ends g (table_step flow g) t 1 k [] FlowStart r).1 h))

  -- the text ends before a line
  pub ends-told : drop k.position t.seats ≡ [] → ToldTo g t k (Next FlowStart) [] (with_local (at_end k) (unchanged k.local)) Ok
  ends-told at = told-on g t k (at_end k) _ (Next FlowStart) (Retry FlowStart) Ok [] [] (told-fed-end FlowStart at) (start-ends g t (at_end k) at refl)

-- the bytes of a line that has text
module _ (line : Line) (more : List Line) (are : AreLines (line ∷ more)) (s : Seat) (ss : List Seat) (text_is : line_text line ≡ s ∷ ss) where
  pub first-byte : all_of (line ∷ more) ≡ s ∷ (ss ++ (ending_of line ++ all_of more))
  first-byte =
      ap (λ l. l ++ all_of more) (sym (cut-line line more are).whole) ∙ append_assoc (line_text line) (ending_of line) (all_of more) ∙ ap (λ l. l ++ (ending_of line ++ all_of more)) text_is

  line-ends-there : LineEnds (ending_of line ++ all_of more)
  line-ends-there = (first-parts line more are).ends

  pub in-line-there : IsInLine (s ∷ ss)
  in-line-there = subst IsInLine text_is (text-in-line line)

  -- A look says what the line is, and the reading goes on by its answer
  pub record IsSeen (g : Given) (t : Text) (k : Configuration Unit Unit) : Type 0 where
    pub local : Local Unit Unit
    pub answer : State
    pub keeps : KeepsEdits k.local local
    pub finds : Finds (seen_kind g.options.constructs (text_of line)) (unindented (text_of line)) local answer
    pub well : answer ≡ Ok → ToldTo g t k (Next FlowStart) [] (with_local (at_byte k) local) (Retry FlowBlankLineAfter)
    pub badly : answer ≡ Nok → ToldTo g t k (Next FlowStart) [] (with_local (at_byte k) local) (Retry FlowBeforeContent)

  module _ (seen : LinesAreSeen) (g : Given) (t : Text) (k : Configuration Unit Unit) (room : length t.seats < 2 ^ 64 - 1) (at : drop k.position t.seats ≡ all_of (line ∷ more)) where
    abbrev rest : List Seat
    rest = ending_of line ++ all_of more

    start-row : (previous : Option FlowByte) → (flow_start {R = Unit {0}} {D = Unit {0}}).rows previous (Some (flow_byte s.byte)) ≡ row (choose Check (Next FlowBlankLineAfter) (Next FlowBeforeContent) ∷ write (indent_becomes 0) ∷ []) (Retry FlowBlankLineBefore)
    start-row previous =
        let rows = flow_start_rows {R = Unit {0}} {D = Unit {0}} in
        ap (λ b. cond b (row (enter BlankLineEnding ∷ consume ∷ exit BlankLineEnding ∷ []) (Next FlowStart)) rows.rest) (no-line-feed s.byte in-line-there.0)

    pub line-seen : IsSeen g t k
    line-seen =
        let k0 = at_byte k in
        let here : drop k.position t.seats ≡ s ∷ (ss ++ rest) = at ∙ first-byte in
        let r = looks g t k0 s (ss ++ rest) here refl FlowStart FlowBlankLineBefore FlowBlankLineAfter FlowBeforeContent flow_start refl (flow_byte s.byte) refl (indent_becomes 0 ∷ []) start-row in
        let begun = indent_becomes 0 (with_local k0 (unchanged k.local)) in
        let few : length (s ∷ ss) < 2 ^ 64 - 1 = omega (arith, room, length-drop k.position t.seats, ap length here, length-append (s ∷ ss) rest) in
        let (leaves, finds) = seen g t k.stack k.events (s ∷ ss) rest (byte_of (seat_before t k.position)) k.position k.ended begun here in-line-there line-ends-there few refl in
        let keeps : KeepsEdits k.local r.local = record { edits = leaves.edits; resolvers = leaves.resolvers } in
        let fed_there = told-fed g t k s (ss ++ rest) FlowStart here in
        let told = λ (v : Bool) (e : r.answer ≡ cond v Ok Nok).
        told-none g t k (with_local k0 r.local) (Next FlowStart) (Retry (cond v FlowBlankLineAfter FlowBeforeContent)) _ refl keeps
        (leads-on g t fed_there.calls _ k k0 (with_local k0 r.local) (Next FlowStart) (Retry FlowStart) (Retry (cond v FlowBlankLineAfter FlowBeforeContent)) fed_there.leads
        (step-checked g t k0 s (ss ++ rest) here refl FlowStart FlowBlankLineBefore FlowBlankLineAfter FlowBeforeContent flow_start refl (flow_byte s.byte) refl (indent_becomes 0 ∷ []) start-row v e)) in
        record {
          local = r.local;
          answer = r.answer;
          keeps = keeps;
          finds = subst (λ l. Finds (seen_kind g.options.constructs (bytes_of l)) (unindented (bytes_of l)) r.local r.answer) (sym text_is) finds;
          well = told true;
          badly = told false;
        }

    -- where it goes on
    pub still-at-lines : (local : Local Unit Unit) → IsAtLines t (with_local (at_byte k) local) (line ∷ more)
    still-at-lines local = record { are_lines = are; at = at; waits = ap waits_at (sym first-byte); room = room }
