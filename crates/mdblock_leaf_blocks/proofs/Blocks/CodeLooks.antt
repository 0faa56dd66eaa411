-- The look for one more line of indented code: over blank lines, it finds whether the code goes on.
use Rattle.mdblock_leaf_blocks.proofs.Prelude.{◌≡◌, ℕ, suc, ◌+◌, ◌-◌, ◌^◌, ◌<◌, ◌==◌, ◌&&◌, nat_le, min, List, [], ◌∷◌, ◌++◌, Bool, true, false, cond, Option, Some, None, length, refl, sym, ap, ◌∙◌, subst, arith, append_assoc, lt-ltb, le-ltb, ◌⊎◌, inl, inr, le-leb, leb-true, leb-false, Constructs, Event, EventName, Next, Ok, Nok, CodeIndentedFurtherStart, Seat, Local, Given, Text, told, Look, scan, consume, write, Rows, row, when, is_white, all_of, ending_of, line_text, flow_byte, is_blank_class, is_line_feed, flow, count_becomes, count_grows, counts_to_four, AreLines, KeepsEdits, HtmlKind, html_kind, Line, bytes_of, further_code, is_indented, text_of, LineKind, indented, indent, is_blank_line, kind_of_rest, unindented, Fence, is_atx_heading, is_fence_of, is_thematic_break, run, IsInLine}
use Rattle.mdblock_leaf_blocks.specs.LeafBlocks.{is_blank}
use Rattle.mdblock_leaf_blocks.specs.LineKinds.{blank, heading, fence, html, thematic_break, text}
use Rattle.mdblock_leaf_blocks.proofs.Looks.ByteClasses.{blank-is, feed-is}
use Rattle.mdblock_leaf_blocks.proofs.Lines.{EndsWithIt, EndsWithout, cut-line, first-parts, lines-behind, prefix-grows}

-- Behind so many columns of a line: white space and line endings come, and then another byte behind four columns
abbrev pub code_ahead : ℕ → List Seat → Bool
code_ahead j [] = false
code_ahead j (s ∷ ss) = cond (s.byte == 10) (code_ahead 0 ss) (cond (is_white s.byte) (code_ahead (suc j) ss) (nat_le 4 j))

-- the look found it, or not; edits and resolvers are as they were
pub record FindsCode (found : Bool) (before : Local Unit Unit) (r : Look Unit Unit) : Type 0 where
  pub answer : r.answer ≡ cond found Ok Nok
  pub keeps : KeepsEdits before r.local

module _ (g : Given) (t : Text) (stack : List EventName) (events : List Event) where
  abbrev look : List Seat → Option ℕ → ℕ → Bool → Local Unit Unit → Look Unit Unit
  look l previous q mark local = scan flow g t stack events 2 l previous q mark local CodeIndentedFurtherStart

  module _ (s : Seat) (ss : List Seat) (previous : Option ℕ) (q : ℕ) (mark : Bool) (local : Local Unit Unit) where
    abbrev comes : Rows Unit Unit → Look Unit Unit
    comes rows = told flow (λ r. r) g t stack events 1 (scan flow g t stack events 2 ss (Some s.byte) (q + 1) false) (s ∷ ss) previous q mark local CodeIndentedFurtherStart rows

  abbrev feeds : Rows Unit Unit
  feeds = row (write (count_becomes 0) ∷ consume ∷ []) (Next CodeIndentedFurtherStart)

  abbrev grows : Rows Unit Unit
  grows = row (write count_grows ∷ consume ∷ []) (Next CodeIndentedFurtherStart)

  abbrev decides : Rows Unit Unit
  decides = when counts_to_four (row [] Nok) (row [] Ok)

  -- at another byte
  four-or-more : (j : ℕ) (s : Seat) (ss : List Seat) (previous : Option ℕ) (q : ℕ) (mark : Bool) (local : Local Unit Unit) → local.tokenize_state.space_or_tab_size ≡ j
      → FindsCode (nat_le 4 j) local (comes s ss previous q mark local decides)
  four-or-more j s ss previous q mark local count =
      elim (nat_le 4 j) as (λ b. nat_le 4 j ≡ b → FindsCode b local (comes s ss previous q mark local decides)) [
        | true ↦ λ e. record { answer = rw (count, le-ltb j 4 (leb-true 4 j e)) refl; keeps = rw (count, le-ltb j 4 (leb-true 4 j e)) (record { edits = refl; resolvers = refl }) }
        | false ↦ λ e. let less : j < 4 = let no_more = leb-false 4 j e in omega (arith, no_more) in
            record { answer = rw (count, lt-ltb j 4 less) refl; keeps = rw (count, lt-ltb j 4 less) (record { edits = refl; resolvers = refl }) }
      ] refl

  look-finds : (l : List Seat) (previous : Option ℕ) (q : ℕ) (mark : Bool) (local : Local Unit Unit) (j : ℕ) → local.tokenize_state.space_or_tab_size ≡ j → j + length l < 2 ^ 64 - 1
      → FindsCode (code_ahead j l) local (look l previous q mark local)
  look-finds [] previous q mark local j count room = record { answer = refl; keeps = record { edits = refl; resolvers = refl } }
  look-finds (s ∷ ss) previous q mark local j count room =
      let grown : min (j + 1) (2 ^ 64 - 1) ≡ suc j = omega (arith, room) in
      let P : Bool → Bool → Type 0 = λ a b.
      FindsCode (cond a (code_ahead 0 ss) (cond b (code_ahead (suc j) ss) (nat_le 4 j))) local (comes s ss previous q mark local (cond a feeds (cond b grows decides))) in
      let on = λ (local' : Local Unit Unit) (i : ℕ) (e : local'.tokenize_state.space_or_tab_size ≡ i) (less : i + length ss < 2 ^ 64 - 1). look-finds ss (Some s.byte) (q + 1) false local' i e less in
      let all : P (s.byte == 10) (is_white s.byte) =
      elim (s.byte == 10) as (λ a. P a (is_white s.byte)) [
        | true ↦ let h = on _ 0 refl (omega (arith, room)) in record { answer = h.answer; keeps = record { edits = h.keeps.edits; resolvers = h.keeps.resolvers } }
        | false ↦ elim (is_white s.byte) as (λ b. P false b) [
          | true ↦ let h = on _ (suc j) (ap (λ c. min (c + 1) (2 ^ 64 - 1)) count ∙ grown) (omega (arith, room)) in record { answer = h.answer; keeps = record { edits = h.keeps.edits; resolvers = h.keeps.resolvers } }
          | false ↦ four-or-more j s ss previous q mark local count
        ]
      ] in
      subst (λ b. FindsCode (code_ahead j (s ∷ ss)) local (comes s ss previous q mark local (cond (is_line_feed (flow_byte s.byte)) feeds (cond b grows decides)))) (sym (blank-is s.byte))
      (subst (λ a. FindsCode (code_ahead j (s ∷ ss)) local (comes s ss previous q mark local (cond a feeds (cond (is_white s.byte) grows decides)))) (sym (feed-is s.byte)) all)

  -- from a line ending
  pub look-from-feed : (s : Seat) (ss : List Seat) → s.byte ≡ 10 → (previous : Option ℕ) (q : ℕ) (mark : Bool) (local : Local Unit Unit) → length ss < 2 ^ 64 - 1
      → FindsCode (code_ahead 0 ss) local (look (s ∷ ss) previous q mark local)
  look-from-feed s ss feed previous q mark local room =
      subst (λ n. FindsCode (code_ahead 0 ss) local (comes s ss previous q mark local (cond (is_line_feed (flow_byte n)) feeds (cond (is_blank_class (flow_byte n)) grows decides)))) (sym feed)
      (let h = look-finds ss (Some s.byte) (q + 1) false _ 0 refl (omega (arith, room)) in record { answer = h.answer; keeps = record { edits = h.keeps.edits; resolvers = h.keeps.resolvers } })

-- ---- what comes ahead, by lines
ahead-text : (text rest : List Seat) (j : ℕ) → IsInLine text → code_ahead j (text ++ rest) ≡ cond (is_blank_line (bytes_of text)) (code_ahead (j + length text) rest) (nat_le 4 (j + indent (bytes_of text)))
ahead-text [] rest j in_line = let none : j + 0 ≡ j = omega arith in ap (λ i. code_ahead i rest) (sym none)
ahead-text (s ∷ ss) rest j in_line =
    let more = indent (bytes_of ss) in
    ap (λ b. cond b (code_ahead 0 (ss ++ rest)) (cond (is_white s.byte) (code_ahead (suc j) (ss ++ rest)) (nat_le 4 j))) in_line.0
    ∙ subst (λ n. cond (is_white s.byte) (code_ahead (suc j) (ss ++ rest)) (nat_le 4 j) ≡ cond (is_white s.byte && is_blank_line (bytes_of ss)) (code_ahead (j + suc (length ss)) rest) (nat_le 4 (j + n))) (sym (prefix-grows is_white s.byte (bytes_of ss)))
    (elim (is_white s.byte) as (λ w. cond w (code_ahead (suc j) (ss ++ rest)) (nat_le 4 j) ≡ cond (w && is_blank_line (bytes_of ss)) (code_ahead (j + suc (length ss)) rest) (nat_le 4 (j + cond w (suc more) 0))) [
      | true ↦ let one : suc j + length ss ≡ j + suc (length ss) = omega arith in let two : suc j + more ≡ j + suc more = omega arith in
          ahead-text ss rest (suc j) in_line.1 ∙ ap (λ i. cond (is_blank_line (bytes_of ss)) (code_ahead i rest) (nat_le 4 (suc j + more))) one
          ∙ ap (λ i. cond (is_blank_line (bytes_of ss)) (code_ahead (j + suc (length ss)) rest) (nat_le 4 i)) two
      | false ↦ let none : j + 0 ≡ j = omega arith in ap (nat_le 4) (sym none)
    ])

module _ (on : Constructs) (is_on : on.code_indented ≡ true) where
  -- the further lines, by what the first one is
  abbrev pub further_by : (is_blank_one is_far_one : Bool) → (further : ℕ) → ℕ
  further_by true far further = cond (nat_le 1 further) (suc further) 0
  further_by false true further = suc further
  further_by false false further = 0

  abbrev further_of : LineKind → ℕ → ℕ
  further_of kind further = cond (is_indented on kind) (suc further) (cond (is_blank on kind && nat_le 1 further) (suc further) 0)

  -- other lines are none
  none-further : (a b c : Bool) (found : Option HtmlKind) (i : Bool) (tick tilde : Fence) (further : ℕ)
      → (let kind : LineKind = cond a heading (cond b (fence tick) (cond c (fence tilde) (elim found [ None ↦ cond i thematic_break text | Some kind ↦ html kind ]))) in further_of kind further) ≡ 0
  none-further false false false None false tick tilde further = refl
  none-further a b c found i tick tilde further = refl

  pub further-is : (line : Line) (lines : List Line) → further_code on (line ∷ lines) ≡ further_by (is_blank_line (text_of line)) (nat_le 4 (indent (text_of line))) (further_code on lines)
  further-is line lines =
      let further = further_code on lines in
      let t = text_of line in
      let far = nat_le 4 (indent t) in
      let rest = kind_of_rest on (indent t) (unindented t) in
      ap (λ c. further_of (cond (is_blank_line t) blank (cond (c && far) indented rest)) further) is_on
      ∙ (elim (is_blank_line t) as (λ b. further_of (cond b blank (cond far indented rest)) further ≡ further_by b far further) [
        | true ↦ refl
        | false ↦ elim far as (λ f. further_of (cond f indented rest) further ≡ further_by false f further) [
          | true ↦ refl
          | false ↦ let r = unindented t in none-further (on.heading_atx && is_atx_heading r) (on.code_fenced && is_fence_of 96 r) (on.code_fenced && is_fence_of 126 r) (cond on.html_flow (html_kind r) None)
              (on.thematic_break && is_thematic_break r) (record { byte = 96; size = run 96 r; indent = indent t }) (record { byte = 126; size = run 126 r; indent = indent t }) further
        ]
      ])

  ahead-by : (b far : Bool) (further : ℕ) → cond b (nat_le 1 further) far ≡ nat_le 1 (further_by b far further)
  ahead-by true far further = elim (nat_le 1 further) as (λ x. x ≡ nat_le 1 (cond x (suc further) 0)) [ true ↦ sym (le-leb 1 (suc further) (omega arith)) | false ↦ refl ]
  ahead-by false true further = sym (le-leb 1 (suc further) (omega arith))
  ahead-by false false further = refl

  -- behind white space of a line
  ahead-behind : (line : Line) (lines : List Line) (j : ℕ) → AreLines (line ∷ lines) → EndsWithIt line ⊎ EndsWithout line lines → code_ahead 0 (all_of lines) ≡ nat_le 1 (further_code on lines)
      → code_ahead j (ending_of line ++ all_of lines) ≡ nat_le 1 (further_code on lines)
  ahead-behind line lines j are (inl with) h =
      ap (λ e. code_ahead j (e ++ all_of lines)) with.is
      ∙ ap (λ b. cond (b == 10) (code_ahead 0 (all_of lines)) (cond (is_white with.ending.byte) (code_ahead (suc j) (all_of lines)) (nat_le 4 j))) with.feed ∙ h
  ahead-behind line lines j are (inr without) h =
      ap (λ e. code_ahead j (e ++ all_of lines)) without.is
      ∙ subst (λ ls. code_ahead j (all_of ls) ≡ nat_le 1 (further_code on ls)) (sym without.last) refl

  -- the look finds one more line exactly if there are further lines of code
  pub ahead-is : (lines : List Line) → AreLines lines → code_ahead 0 (all_of lines) ≡ nat_le 1 (further_code on lines)
  ahead-is [] are = refl
  ahead-is (line ∷ lines) are =
      let parts = first-parts line lines are in
      let text = line_text line in
      let rest = ending_of line ++ all_of lines in
      let split : line ++ all_of lines ≡ text ++ rest = ap (λ l. l ++ all_of lines) parts.is ∙ append_assoc text (ending_of line) (all_of lines) in
      let zero_on : (n : ℕ) → 0 + n ≡ n = λ n. omega arith in
      ap (code_ahead 0) split ∙ ahead-text text rest 0 parts.in_line
      ∙ ap (λ i. cond (is_blank_line (bytes_of text)) (code_ahead (0 + length text) rest) (nat_le 4 i)) (zero_on (indent (bytes_of text)))
      ∙ ap (λ x. cond (is_blank_line (bytes_of text)) x (nat_le 4 (indent (bytes_of text)))) (ahead-behind line lines (0 + length text) are (cut-line line lines are).ends (ahead-is lines (lines-behind line lines are)))
      ∙ ahead-by (is_blank_line (bytes_of text)) (nat_le 4 (indent (bytes_of text))) (further_code on lines) ∙ ap (nat_le 1) (sym (further-is line lines))
