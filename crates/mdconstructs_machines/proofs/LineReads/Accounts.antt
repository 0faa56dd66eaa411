-- The events of lines account for each virtual byte.
use Rattle.mdconstructs_machines.proofs.Prelude.{◌≡◌, ℕ, ◌∷◌, ◌++◌, [], List, true, false, cond, not, refl, sym, ◌∙◌, ap, subst, flat_map, append_assoc, Event, Exit, Paragraph, Data, LineEnding, FlowStart, Seat, virtual, end_after, Subresult, IsRun, Given, IsDocument, AccountFor, is_line_ending, joined, lines_in, line_text, ending_of, paragraph_line, line_events, lines_rules, event, span, leaf}
use Rattle.mdconstructs_machines.proofs.Innermost.{enter-more, exit-more, leaf-more}
use Rattle.mdconstructs_machines.proofs.LineReads.Lines.{lines-read}

-- the virtual bytes of a line before its ending, and its ending
abbrev pub both : List Seat → List Seat
both line = line_text line ++ ending_of line

joined-both : (s : Seat) (lines : List (List Seat)) → is_line_ending s ≡ false → flat_map both (joined s lines) ≡ s ∷ flat_map both lines
joined-both s [] e = ap (λ b. (cond (not b) (s ∷ []) [] ++ cond b (s ∷ []) []) ++ []) e
joined-both s (line ∷ lines) e = ap (λ b. (cond (not b) (s ∷ line_text line) (line_text line) ++ cond b (s ∷ ending_of line) (ending_of line)) ++ flat_map both lines) e

-- the lines are all there is
pub lines-are-all : (l : List Seat) → flat_map both (lines_in l) ≡ l
lines-are-all [] = refl
lines-are-all (s ∷ ss) = elim (is_line_ending s) as (λ t. is_line_ending s ≡ t → flat_map both (cond t ((s ∷ []) ∷ lines_in ss) (joined s (lines_in ss))) ≡ s ∷ ss) [
  | true ↦ λ e. ap (λ b. (cond (not b) (s ∷ []) [] ++ cond b (s ∷ []) []) ++ flat_map both (lines_in ss)) e ∙ ap (λ l. s ∷ l) (lines-are-all ss)
  | false ↦ λ e. joined-both s (lines_in ss) e ∙ ap (λ l. s ∷ l) (lines-are-all ss)
] refl

module _ (bytes : List ℕ) where
  -- a paragraph of data
  paragraph-more : (l : List Seat) (events : List Event) (seats : List Seat) → AccountFor events bytes seats → AccountFor (span bytes Paragraph l (leaf bytes Data l) ++ events) bytes (l ++ seats)
  paragraph-more [] events seats h = h
  paragraph-more (s ∷ ss) events seats h =
      enter-more bytes _ _ _ ((s ∷ ss) ++ seats) refl refl (leaf-more bytes Data (s ∷ ss) _ seats (exit-more bytes (event bytes Exit Paragraph (end_after s.end ss)) events seats refl h))

  lines-account : (lines : List (List Seat)) → AccountFor (flat_map (paragraph_line bytes) lines) bytes (flat_map both lines)
  lines-account [] = record { stretches = []; are_all = refl; are_innermost = refl }
  lines-account (line ∷ lines) =
      let t = line_text line in
      let e = ending_of line in
      let events = flat_map (paragraph_line bytes) lines in
      let seats = flat_map both lines in
      let more = paragraph-more t (leaf bytes LineEnding e ++ events) (e ++ seats) (leaf-more bytes LineEnding e events seats (lines-account lines)) in
      subst (λ es. AccountFor es bytes ((t ++ e) ++ seats)) (sym (append_assoc (span bytes Paragraph t (leaf bytes Data t)) (leaf bytes LineEnding e) events))
      (subst (AccountFor (span bytes Paragraph t (leaf bytes Data t) ++ (leaf bytes LineEnding e ++ events)) bytes) (sym (append_assoc t e seats)) more)

-- the events of lines account for each virtual byte
pub lines-account-for : (bytes : List ℕ) (seats : List Seat) → AccountFor (line_events bytes seats) bytes seats
lines-account-for bytes seats = subst (AccountFor (line_events bytes seats) bytes) (lines-are-all seats) (lines-account bytes (lines_in seats))

pub documents-account : (g : Given) (events : List Event) (sub : Subresult) → IsDocument g → IsRun g lines_rules false FlowStart events sub → AccountFor events g.bytes (virtual g.tab g.bytes)
documents-account g events sub document run =
    let seats = virtual g.tab g.bytes in
    subst (λ es. AccountFor es g.bytes seats) (sym (lines-read g events sub document run)) (lines-account-for g.bytes seats)
