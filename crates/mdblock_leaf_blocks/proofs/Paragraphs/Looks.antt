-- The look at the next line, from the line ending in a paragraph, and what it says of the paragraph's end.
use Rattle.mdblock_leaf_blocks.proofs.Prelude.{◌≡◌, ℕ, ◌+◌, ◌-◌, ◌<◌, ◌≤◌, ◌^◌, ◌==◌, ◌&&◌, ◌||◌, ◌⊎◌, inl, inr, not, nat_le, List, ◌∷◌, ◌++◌, Bool, false, Option, Some, drop, length, refl, sym, ap, ◌∙◌, subst, arith, length-append, length-drop, nat_tests, drop-next, same_name, Event, EventName, CodeIndented, HeadingSetextUnderline, HtmlFlow, State, Ok, Nok, FlowBlankLineBefore, ParagraphLookStart, Seat, Local, sight, Given, Text, Look, behind_byte, by_row, glance, looked_on, scan, shows, uncalled, class_of, picked, cased, flow_byte, line_feed, flow, unchanged, paragraph_look_start_rows, bytes_of, unindented, seen_ends, SeenKind, html, text, seen_kind, is_underline, Finds, IsInLine, LeavesAll, LineEnds, LinesAreSeen}
use Rattle.mdblock_leaf_blocks.proofs.Lines.KindsOfLines.{IsPossible}
use Rattle.mdblock_leaf_blocks.proofs.Looks.LookSteps.{leaves-on}

-- over the line ending, the columns are counted from zero
abbrev uncounted : Local Unit Unit → Local Unit Unit
uncounted l = let m = unchanged l in record m { tokenize_state = record m.tokenize_state { size_c = 0 } }

module _ (g : Given) (t : Text) (stack : List EventName) (events : List Event) where
  abbrev looks_on : List Seat → Option ℕ → ℕ → Local Unit Unit → Look Unit Unit
  looks_on l previous q local = scan flow g t stack events 2 l previous q false local FlowBlankLineBefore

  over-feed : (s : Seat) (ss : List Seat) (previous : Option ℕ) (q : ℕ) (mark : Bool) (local : Local Unit Unit) → flow_byte s.byte ≡ line_feed
      → scan flow g t stack events 2 (s ∷ ss) previous q mark local ParagraphLookStart ≡ behind_byte 1 (looks_on ss (Some s.byte) (q + 1) (uncounted local))
  over-feed s ss previous q mark local feeds =
      let l = s ∷ ss in
      ap (λ c. looked_on flow g t stack events (λ local name. scan flow g t stack events 2 ss (Some s.byte) (q + 1) false local name) l mark
      (by_row stack events (glance flow g t stack events 1 previous l q mark) (uncalled local ParagraphLookStart) (sight g t (shows stack events l q mark local)) l q mark (unchanged local)
      (picked (cased paragraph_look_start_rows (class_of flow_byte previous) (Some c)) g (sight g t (shows stack events l q mark local)) (shows stack events l q mark (unchanged local))))) feeds

  -- so the look finds the kind of the next line
  pub next-line-seen : LinesAreSeen → (s : Seat) (line rest : List Seat) (previous : Option ℕ) (q : ℕ) (mark : Bool) (local : Local Unit Unit) → drop q t.seats ≡ s ∷ (line ++ rest) → s.byte ≡ 10
      → IsInLine line → LineEnds rest → length t.seats < 2 ^ 64 - 1
      → let r = scan flow g t stack events 2 (s ∷ (line ++ rest)) previous q mark local ParagraphLookStart in
      LeavesAll local r.local × Finds (seen_kind g.options.constructs (bytes_of line)) (unindented (bytes_of line)) r.local r.answer
  next-line-seen seen s line rest previous q mark local at feed in_line ends room =
      let next = drop-next t.seats q s (line ++ rest) at in
      let count : length t.seats - (q + 1) ≡ length line + length rest = sym (length-drop (q + 1) t.seats) ∙ ap length next ∙ length-append line rest in
      let fits : length line < 2 ^ 64 - 1 = omega (arith, count, room) in
      let found = seen g t stack events line rest (Some s.byte) (q + 1) false (uncounted local) next in_line ends fits refl in
      let same = over-feed s (line ++ rest) previous q mark local (ap flow_byte feed) in
      subst (λ (r : Look Unit Unit). LeavesAll local r.local × Finds (seen_kind g.options.constructs (bytes_of line)) (unindented (bytes_of line)) r.local r.answer) (sym same)
      (leaves-on local (uncounted local) _ (record { edits = refl; resolvers = refl; start = refl; end = refl; connect = refl }) found.0, found.1)

-- what the tests of a line's end say
abbrev pub passes_over : Local Unit Unit → Bool
passes_over l = same_name l.tokenize_state.token_1 CodeIndented || (same_name l.tokenize_state.token_1 HtmlFlow && (l.tokenize_state.marker_b == 7))

abbrev pub finds_underline : Local Unit Unit → Bool
finds_underline l = same_name l.tokenize_state.token_1 HeadingSetextUnderline

abbrev by_name : EventName → Local Unit Unit → Bool
by_name n l = same_name n CodeIndented || (same_name n HtmlFlow && (l.tokenize_state.marker_b == 7))

seven : (kind : ℕ) → kind ≤ 7 → (kind == 7) ≡ not (nat_le kind 6)
seven kind h = grind (arith, nat_tests, h)

pub text-fails : (kind : SeenKind) (r : List ℕ) (l : Local Unit Unit) (a : State) → Finds kind r l a → (a ≡ Ok) ⊎ ((a ≡ Nok) × (kind ≡ text))
text-fails text r l a h = inr (h, refl)
text-fails kind r l a h = inl h.0

pub passed : (kind : SeenKind) (r : List ℕ) (l : Local Unit Unit) (a : State) → IsPossible kind → Finds kind r l a → a ≡ Ok → passes_over l ≡ not (seen_ends kind)
passed (html kind) r l a can h ok = ap (λ n. by_name n l) h.1 ∙ ap (λ n. n == 7) h.2 ∙ seven kind can
passed text r l a can h ok = absurd (let wrong : Ok ≡ Nok = sym ok ∙ h in cc)
passed kind r l a can h ok = ap (λ n. by_name n l) h.1

abbrev is_it : EventName → Bool
is_it n = same_name n HeadingSetextUnderline

pub underlined : (kind : SeenKind) (r : List ℕ) (l : Local Unit Unit) (a : State) → Finds kind r l a → a ≡ Ok → finds_underline l ≡ is_underline kind
underlined text r l a h ok = absurd (let wrong : Ok ≡ Nok = sym ok ∙ h in cc)
underlined kind r l a h ok = ap is_it h.1
