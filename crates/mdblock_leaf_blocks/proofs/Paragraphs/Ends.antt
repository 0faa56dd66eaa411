-- At a line ending in a paragraph: whether it goes on, ends, or becomes a heading, by what the next line is.
use Rattle.mdblock_leaf_blocks.proofs.Prelude.{Bool, List, Some, [], ap, cond, drop, false, inl, inr, length, not, refl, suc, sym, true, ℕ, ◌++◌, ◌-◌, ◌<◌, ◌^◌, ◌∙◌, ◌∷◌, ◌≡◌, shown, Seat, Data, Paragraph, State, Ok, Retry, FlowAfter, ParagraphInside, ParagraphLineStart, exited, with_local, Configuration, Local, Sight, byte_of, end_place, seat_before, Given, Text, Byte, flow_byte, line_feed, unchanged, paragraph_ends, paragraph_inside, HeadingSetextTextAfter, ParagraphLineAfter, ParagraphLookStart, bytes_of, unindented, Finds, IsInLine, LeavesAll, LineEnds, LinesAreSeen, SeenKind, is_underline, seen_ends, seen_kind, Look, Act, Row, chooses, does, exit, write, sight_before}
use Rattle.mdblock_leaf_blocks.proofs.Lines.{IsPossible, Leads, counted, from-leads, looks, possible, row-leads, step-checked}
use Rattle.mdblock_leaf_blocks.proofs.Lines.Leading.{leads-on}
use Rattle.mdblock_leaf_blocks.proofs.Paragraphs.Looks.{finds_underline, next-line-seen, passed, passes_over, text-fails, underlined}
use Rattle.mdblock_leaf_blocks.proofs.Looks.LookSteps.{leaves-on}

module _ (g : Given) (t : Text) where
  -- the paragraph is ended, with these things that states share
  abbrev pub ended : Configuration Unit Unit → Local Unit Unit → Configuration Unit Unit
  ended k local = let place = shown g.bytes (end_place t k.position) in exited Paragraph place (exited Data place (with_local k local))

  -- From a line ending in a paragraph, by the kind of the next line: the chunk goes on; the paragraph is over; or it is a heading's
  pub record EndsSo (k : Configuration Unit Unit) (kind : SeenKind) : Type 0 where
    pub on : seen_ends kind ≡ false → (l : Local Unit Unit) × LeavesAll k.local l × Leads g t k (Retry ParagraphInside) (with_local k l) (Retry ParagraphLineAfter)
    pub over : seen_ends kind ≡ true → is_underline kind ≡ false → (l : Local Unit Unit) × LeavesAll k.local l × Leads g t k (Retry ParagraphInside) (ended k l) (Retry FlowAfter)
    pub under : seen_ends kind ≡ true → is_underline kind ≡ true
        → (l : Local Unit Unit) × LeavesAll k.local l × Leads g t k (Retry ParagraphInside) (with_local (ended k l) (paragraph_ends (ended k l))) (Retry HeadingSetextTextAfter)

  module _ (k : Configuration Unit Unit) (s : Seat) (ss : List Seat) (at : drop k.position t.seats ≡ s ∷ ss) (waits : k.waiting ≡ Byte) (feed : s.byte ≡ 10) (kind : SeenKind) (r : List ℕ) (can : IsPossible kind) where
    abbrev class_is : flow_byte s.byte ≡ line_feed
    class_is = ap flow_byte feed

    abbrev look : Look Unit Unit
    look = looks g t k s ss at waits ParagraphInside ParagraphLookStart ParagraphLineStart ParagraphLineAfter paragraph_inside refl line_feed class_is [] (λ previous. refl)

    module _ (leaves : LeavesAll k.local look.local) (finds : Finds kind r look.local look.answer) where
      abbrev behind : Configuration Unit Unit
      behind = with_local k look.local

      abbrev left : LeavesAll k.local (unchanged look.local)
      left = leaves-on k.local look.local (unchanged look.local) leaves (record { edits = refl; resolvers = refl; start = refl; end = refl; connect = refl })

      abbrev seen : Sight
      seen = sight_before g t.end (end_place t k.position) (byte_of (seat_before t k.position)) (s ∷ ss)

      -- the row at the line ending, by what the tests say
      abbrev row_by : (passes under : Bool) → Row Unit Unit
      row_by passes under =
          cond passes (record { acts = []; answer = Retry ParagraphLineAfter })
          (cond under (record { acts = exit Data ∷ exit Paragraph ∷ write paragraph_ends ∷ []; answer = Retry HeadingSetextTextAfter }) (record { acts = exit Data ∷ exit Paragraph ∷ []; answer = Retry FlowAfter }))

      -- the look answers Ok, and its call at the line ending is this
      by-kind : (ok : look.answer ≡ Ok) (acts : List (Act Unit Unit)) (to : State) → row_by (passes_over look.local) (finds_underline look.local) ≡ record { acts = acts; answer = to } → chooses acts seen (counted behind) [] ≡ []
          → Leads g t k (Retry ParagraphInside) (does acts seen (counted behind)) to
      by-kind ok acts to is none =
          leads-on g t k (Retry ParagraphInside) behind (Retry ParagraphLineStart) (does acts seen (counted behind)) to
          (from-leads g t (suc look.calls) k (Retry ParagraphInside) behind (Retry ParagraphLineStart)
          (step-checked g t k s ss at waits ParagraphInside ParagraphLookStart ParagraphLineStart ParagraphLineAfter paragraph_inside refl line_feed class_is [] (λ previous. refl) true ok))
          (row-leads g t behind ParagraphLineStart (end_place t k.position) (s ∷ ss) (Some line_feed) acts to (record { behind = refl; left = at; waits = waits }) (ap Some class_is) is none)

      pub ends-so : EndsSo k kind
      ends-so = elim (text-fails kind r look.local look.answer finds) [
        | inl ok ↦
            let passes = passed kind r look.local look.answer can finds ok in
            let under = underlined kind r look.local look.answer finds ok in
            let by = λ (passing under : Bool) (e : passes_over look.local ≡ passing) (u : finds_underline look.local ≡ under). ap (λ b. row_by b (finds_underline look.local)) e ∙ ap (row_by passing) u in record {
              on = λ differs. (unchanged look.local, left, by-kind ok [] (Retry ParagraphLineAfter) (by true (finds_underline look.local) (passes ∙ ap not differs) refl) refl);
              over = λ stops none. (unchanged look.local, left, by-kind ok (exit Data ∷ exit Paragraph ∷ []) (Retry FlowAfter) (by false false (passes ∙ ap not stops) (under ∙ none)) refl);
              under = λ stops one. (unchanged look.local, left, by-kind ok (exit Data ∷ exit Paragraph ∷ write paragraph_ends ∷ []) (Retry HeadingSetextTextAfter) (by false true (passes ∙ ap not stops) (under ∙ one)) refl);
            }
        | inr badly ↦
            let is_text = badly.1 in
            let differs : seen_ends kind ≡ false = ap seen_ends is_text in record {
              on = λ e. (
                look.local,
                leaves,
                from-leads g t (suc look.calls) k (Retry ParagraphInside) behind (Retry ParagraphLineAfter)
                    (step-checked g t k s ss at waits ParagraphInside ParagraphLookStart ParagraphLineStart ParagraphLineAfter paragraph_inside refl line_feed class_is [] (λ previous. refl) false badly.0),
              );
              over = λ stops none. absurd (let wrong : true ≡ false = sym stops ∙ differs in cc);
              under = λ stops one. absurd (let wrong : true ≡ false = sym stops ∙ differs in cc);
            }
      ]

-- by the look at the next line
pub line-ends-so : LinesAreSeen → (g : Given) (t : Text) (k : Configuration Unit Unit) (s : Seat) (line rest : List Seat) → drop k.position t.seats ≡ s ∷ (line ++ rest) → k.waiting ≡ Byte → s.byte ≡ 10
    → IsInLine line → LineEnds rest → length t.seats < 2 ^ 64 - 1 → EndsSo g t k (seen_kind g.options.constructs (bytes_of line))
line-ends-so lines g t k s line rest at waits feed in_line rest_ends room =
    let found = next-line-seen g t k.stack k.events lines s line rest (byte_of (seat_before t k.position)) k.position k.ended (unchanged k.local) at feed in_line rest_ends room in
    let kind = seen_kind g.options.constructs (bytes_of line) in
    ends-so g t k s (line ++ rest) at waits feed kind (unindented (bytes_of line)) (possible g.options.constructs (bytes_of line))
    (leaves-on k.local (unchanged k.local) _ (record { edits = refl; resolvers = refl; start = refl; end = refl; connect = refl }) found.0) found.1
