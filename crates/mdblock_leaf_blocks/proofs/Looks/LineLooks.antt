-- The look at a line: over its indentation, and on by its first other byte.
use Rattle.mdblock_leaf_blocks.proofs.Prelude.{Bool, List, Option, Some, [], ap, arith, cond, drop, false, length, nat_le, refl, subst, suc, sym, true, zero, ℕ, ◌&&◌, ◌++◌, ◌+◌, ◌-◌, ◌<◌, ◌==◌, ◌^◌, ◌∙◌, ◌∷◌, ◌≡◌, ◌≤◌, and-false, eqb-true, le-leb, drop-next, Seat, Constructs, Event, EventName, BlankLineEnding, CodeIndented, Next, Nok, Ok, FlowBeforeHeadingAtx, FlowBeforeHeadingSetext, FlowBeforeRaw, FlowBeforeThematicBreak, FlowBlankLineBefore, HtmlFlowOpen, Configuration, Local, Sight, sight, Given, Text, flow_byte, unchanged, breaks_are_on, fences_are_on, headings_are_on, indent_grows, kind_becomes, mark_becomes, size_becomes, underlines_are_on, html_is_on, break_may_begin, dash_may_begin, equals_may_begin, fence_may_begin, flow_blank_line_before_rows, heading_may_begin, html_may_begin, text_may_begin, underline_may_begin, bytes_of, Fence, heading_text, indent, is_blank_line, is_thematic_break, run, unindented, FindsHtml, HtmlIsSeen, IsInLine, LeavesAll, LineEnds, LinesAreSeen, SeenKind, fence, heading, html, html_number, seen_kind, text, thematic_break, underline, is_white, one_more, AreTestsOf, Look, shows, Rows, consume, row, when, write, cond_both}
use Rattle.mdblock_leaf_rows.specs.FlowWrites.{is_indented}
use Rattle.mdblock_leaf_blocks.proofs.Lines.TestedKinds.{seen-is-tested, tested_rest}
use Rattle.mdblock_leaf_blocks.specs.SeenKinds.{blank, indented}
use Rattle.mdblock_leaf_blocks.proofs.Looks.BreakLooks.{break-found, is_break_mark}
use Rattle.mdblock_leaf_blocks.proofs.Looks.ByteClasses.{blank-is, dash-is, equals-is, feed-is, less-is, sign-is, star-is, tick-is, tilde-is, underscore-is}
use Rattle.mdblock_leaf_blocks.proofs.Looks.CountRoom.{grows, room-on}
use Rattle.mdblock_leaf_blocks.proofs.Looks.FenceLooks.{fence-found, is_fence_mark}
use Rattle.mdblock_leaf_blocks.proofs.Looks.FirstBytes.{dash-breaks, kind-dash, kind-equals, kind-less, kind-other, kind-sign, kind-star, kind-tick, kind-tilde, kind-underscore}
use Rattle.mdblock_leaf_blocks.proofs.Looks.HeadingTexts.{goes, stops}
use Rattle.mdblock_leaf_blocks.proofs.Looks.LineTests.{breaks_on, fences_on, heads_on, underlines_on}
use Rattle.mdblock_leaf_blocks.proofs.Looks.LookSteps.{Found, at-line-byte, over-line, by-false, by-known, by-share, come, kept, leaves-itself, leaves-on, look}
use Rattle.mdblock_leaf_blocks.proofs.Looks.SignLooks.{heading-found}
use Rattle.mdblock_leaf_blocks.proofs.Looks.UnderlineLooks.{is_line_mark, underline-found}

-- what the rest of a line is, behind so many columns
abbrev kind_from : Constructs → (columns : ℕ) → List ℕ → SeenKind
kind_from on columns t = cond (is_blank_line t) blank (cond (on.code_indented && nat_le 4 (columns + indent t)) indented (tested_rest on (columns + indent t) (unindented t)))

-- a column of white space more
kind-white : (on : Constructs) (columns b : ℕ) (bs : List ℕ) → is_white b ≡ true → kind_from on columns (b ∷ bs) ≡ kind_from on (suc columns) bs
kind-white on columns b bs w =
    let one : columns + (1 + indent bs) ≡ suc columns + indent bs = omega arith in
    let moved : columns + indent (b ∷ bs) ≡ suc columns + indent bs = ap (λ v. columns + cond v (1 + indent bs) 0) w ∙ one in
    ap (λ v. cond (v && is_blank_line bs) blank (cond (on.code_indented && nat_le 4 (columns + indent (b ∷ bs))) indented (tested_rest on (columns + indent (b ∷ bs)) (unindented (b ∷ bs))))) w
    ∙ ap (λ n. cond (is_blank_line bs) blank (cond (on.code_indented && nat_le 4 n) indented (tested_rest on n (unindented (b ∷ bs))))) moved
    ∙ ap (λ r. cond (is_blank_line bs) blank (cond (on.code_indented && nat_le 4 (suc columns + indent bs)) indented (tested_rest on (suc columns + indent bs) r))) (goes is_white b bs w)

-- the first other byte
kind-word : (on : Constructs) (columns b : ℕ) (bs : List ℕ) → is_white b ≡ false → kind_from on columns (b ∷ bs) ≡ cond (on.code_indented && nat_le 4 columns) indented (tested_rest on columns (b ∷ bs))
kind-word on columns b bs w =
    let none : columns + 0 ≡ columns = omega arith in
    let here : columns + indent (b ∷ bs) ≡ columns = ap (λ v. columns + cond v (1 + indent bs) 0) w ∙ none in
    ap (λ v. cond (v && is_blank_line bs) blank (cond (on.code_indented && nat_le 4 (columns + indent (b ∷ bs))) indented (tested_rest on (columns + indent (b ∷ bs)) (unindented (b ∷ bs))))) w
    ∙ ap (λ n. cond (on.code_indented && nat_le 4 n) indented (tested_rest on n (unindented (b ∷ bs)))) here
    ∙ ap (λ r. cond (on.code_indented && nat_le 4 columns) indented (tested_rest on columns r)) (stops is_white b bs w)

abbrev tests : List (ℕ → Bool)
tests =
    (λ b. b == 10) ∷ is_white ∷ (λ b. b == 35) ∷ (λ b. b == 42) ∷ (λ b. b == 95) ∷ (λ b. b == 45) ∷ (λ b. b == 61) ∷ (λ b. b == 96) ∷ (λ b. b == 126) ∷ (λ b. b == 60) ∷ []

are-tests : AreTestsOf flow_byte (flow_blank_line_before_rows {R = Unit {0}} {D = Unit {0}}).cases tests
are-tests = (feed-is, (blank-is, (sign-is, (star-is, (underscore-is, (dash-is, (equals-is, (tick-is, (tilde-is, (less-is, tt))))))))))

-- HTML of a kind that was looked at
html-found : (before now : Local Unit Unit) (word : List ℕ) (kind : ℕ) (r : Look Unit Unit) → LeavesAll before now → LeavesAll now r.local × FindsHtml kind r.local r.answer → Found before (cond (nat_le 1 kind) (html kind) text) word r
html-found before now word zero r h seen = (leaves-on before now r.local h seen.0, seen.1)
html-found before now word (suc kind) r h seen =
    let some : nat_le 1 (suc kind) ≡ true = le-leb 1 (suc kind) (omega arith) in
    subst (λ v. Found before (cond v (html (suc kind)) text) word r) (sym some) (leaves-on before now r.local h seen.0, seen.1)

module _ (html_seen : HtmlIsSeen) (g : Given) (t : Text) (stack : List EventName) (events : List Event) where
  abbrev none : Rows Unit Unit
  none = row [] Nok

  abbrev code : Rows Unit Unit
  code = row (write (kind_becomes CodeIndented) ∷ []) Ok

  -- at the first byte of a line that is no white space
  module _ (before : Local Unit Unit) (more : List Seat) (over : LineEnds more) (s : Seat) (line : List Seat) (in_line : IsInLine line) (previous : Option ℕ) (q : ℕ) (mark : Bool) (local : Local Unit Unit)
      (there : drop (q + 1) t.seats ≡ line ++ more) (h : LeavesAll before local) (room : local.tokenize_state.size_c + suc (length line) < 2 ^ 64 - 1) where
    abbrev bs : List ℕ
    bs = bytes_of line

    abbrev word : List ℕ
    word = s.byte ∷ bs

    abbrev comes : Rows Unit Unit → Look Unit Unit
    comes rows = come g t stack events 1 (s ∷ (line ++ more)) previous q mark local FlowBlankLineBefore rows

    abbrev k : Configuration Unit Unit
    k = shows stack events (s ∷ (line ++ more)) q mark (unchanged local)

    -- the mark is noted, and counted
    abbrev begun : ℕ → Local Unit Unit
    begun mark_byte = size_becomes 1 (shows stack events (s ∷ (line ++ more)) q mark (mark_becomes mark_byte k))

    room-first : 1 + length line < 2 ^ 64 - 1
    room-first = omega arith

    -- it is too far to the right, or goes on
    far-or : (kind : SeenKind) (rows : Rows Unit Unit) → Found before kind word (comes rows)
        → Found before (cond (g.options.constructs.code_indented && nat_le 4 local.tokenize_state.size_c) indented kind) word (comes (when is_indented code rows))
    far-or kind rows found =
        let far = g.options.constructs.code_indented && nat_le 4 local.tokenize_state.size_c in
        by-share g t stack events 1 (s ∷ (line ++ more)) previous q mark local FlowBlankLineBefore (Found before (cond far indented kind) word) is_indented code rows
        (elim far as (λ v. Found before (cond v indented kind) word (comes (cond v code rows))) [
          | true ↦ (kept before local _ h refl refl refl refl refl, (refl, refl))
          | false ↦ found
        ])

    -- a construct that is off fails
    if-on : (test : Given → Sight → Configuration Unit Unit → Bool) (is_on found : Bool) (kind : SeenKind) (rows : Rows Unit Unit) → test g (sight g t (shows {R = Unit {0}} {D = Unit {0}} stack events (s ∷ (line ++ more)) q mark local)) k ≡ is_on
        → Found before (cond found kind text) word (comes rows) → Found before (cond (is_on && found) kind text) word (comes (when test rows none))
    if-on test is_on found kind rows e seen =
        by-known g t stack events 1 (s ∷ (line ++ more)) previous q mark local FlowBlankLineBefore (Found before (cond (is_on && found) kind text) word) test rows none is_on e
        (elim is_on as (λ v. Found before (cond (v && found) kind text) word (comes (cond v rows none))) [
          | true ↦ seen
          | false ↦ (kept before local _ h refl refl refl refl refl, refl)
        ])

    abbrev on : Constructs
    on = g.options.constructs

    abbrev far_or : SeenKind → SeenKind
    far_or kind = cond (on.code_indented && nat_le 4 local.tokenize_state.size_c) indented kind

    -- the rows find what the rest of the line is
    abbrev Here : Rows Unit Unit → Type 0
    Here rows = Found before (far_or (tested_rest on local.tokenize_state.size_c word)) word (comes rows)

    -- by another name of its kind
    as-kind : (byte : ℕ) (kind : SeenKind) (rows : Rows Unit Unit) → s.byte ≡ byte → tested_rest on local.tokenize_state.size_c (byte ∷ bs) ≡ kind → Found before (far_or kind) word (comes rows) → Here rows
    as-kind byte kind rows e is found = subst (λ c. Found before (far_or c) word (comes rows)) (sym (ap (λ c. tested_rest on local.tokenize_state.size_c (c ∷ bs)) e ∙ is)) found

    sign-here : s.byte ≡ 35 → Here heading_may_begin
    sign-here e =
        let found = heads_on 1 bs in
        let rows : Rows Unit Unit = row (write (size_becomes 1) ∷ consume ∷ []) (Next FlowBeforeHeadingAtx) in
        let few : 1 ≤ 6 = omega arith in
        let less : length line < 2 ^ 64 - 1 = omega arith in
        let same = ap (λ r. length (heading_text (unindented r))) (goes (λ c. c == 35) s.byte bs (ap (λ c. c == 35) e)) in
        as-kind 35 (cond (on.heading_atx && found) heading text) heading_may_begin e (kind-sign on local.tokenize_state.size_c bs)
        (far-or (cond (on.heading_atx && found) heading text) (when headings_are_on rows none) (if-on headings_are_on on.heading_atx found heading rows refl
        (heading-found g t stack events before more over word line in_line (Some s.byte) (q + 1) false (size_becomes 1 k) (kept before local (size_becomes 1 k) h refl refl refl refl refl) few same less)))

    -- a mark of thematic breaks, if a thematic break is what it may begin
    break-begins : (m : ℕ) → is_break_mark m ≡ true → Found before (far_or (cond (on.thematic_break && breaks_on m 1 bs) thematic_break text)) word (comes (break_may_begin m))
    break-begins m is =
        let found = breaks_on m 1 bs in
        let rows : Rows Unit Unit = row (write (mark_becomes m) ∷ write (size_becomes 1) ∷ consume ∷ []) (Next FlowBeforeThematicBreak) in
        far-or (cond (on.thematic_break && found) thematic_break text) (when breaks_are_on rows none) (if-on breaks_are_on on.thematic_break found thematic_break rows refl
        (break-found g t stack events m is word before more over line in_line (Some s.byte) (q + 1) false (begun m) there (kept before local (begun m) h refl refl refl refl refl) refl room-first))

    star-here : s.byte ≡ 42 → Here (break_may_begin 42)
    star-here e = as-kind 42 _ (break_may_begin 42) e (kind-star on local.tokenize_state.size_c bs) (break-begins 42 refl)

    underscore-here : s.byte ≡ 95 → Here (break_may_begin 95)
    underscore-here e = as-kind 95 _ (break_may_begin 95) e (kind-underscore on local.tokenize_state.size_c bs) (break-begins 95 refl)

    -- a mark of underlines
    underline-begins : (m : ℕ) → is_line_mark m ≡ true → is_thematic_break word ≡ ((m == 45) && breaks_on m 1 bs)
        → Found before (far_or (cond (underlines_on m bs) underline (cond (on.thematic_break && is_thematic_break word) thematic_break text))) word (comes (underline_may_begin m))
    underline-begins m is whole =
        far-or (cond (underlines_on m bs) underline (cond (on.thematic_break && is_thematic_break word) thematic_break text)) (row (write (mark_becomes m) ∷ write (size_becomes 1) ∷ consume ∷ []) (Next FlowBeforeHeadingSetext))
        (underline-found g t stack events m is word before more over line in_line (Some s.byte) (q + 1) false (begun m) there (kept before local (begun m) h refl refl refl refl refl) refl room-first whole)

    dash-here : s.byte ≡ 45 → Here dash_may_begin
    dash-here e =
        let found = underlines_on 45 bs in
        let whole : is_thematic_break word ≡ breaks_on 45 1 bs = ap (λ c. is_thematic_break (c ∷ bs)) e ∙ dash-breaks bs in
        let behind = cond (on.thematic_break && breaks_on 45 1 bs) thematic_break text in
        as-kind 45 (cond (on.heading_setext && found) underline behind) dash_may_begin e (kind-dash on local.tokenize_state.size_c bs)
        (by-known g t stack events 1 (s ∷ (line ++ more)) previous q mark local FlowBlankLineBefore (Found before (far_or (cond (on.heading_setext && found) underline behind)) word) underlines_are_on (underline_may_begin 45) (break_may_begin 45) on.heading_setext refl
        (elim on.heading_setext as (λ v. Found before (far_or (cond (v && found) underline behind)) word (comes (cond v (underline_may_begin 45) (break_may_begin 45)))) [
          | true ↦ subst (λ v. Found before (far_or (cond found underline (cond (on.thematic_break && v) thematic_break text))) word (comes (underline_may_begin 45))) whole (underline-begins 45 refl whole)
          | false ↦ break-begins 45 refl
        ]))

    text-begins : Found before (far_or text) word (comes text_may_begin)
    text-begins = far-or text none (kept before local _ h refl refl refl refl refl, refl)

    equals-here : s.byte ≡ 61 → Here equals_may_begin
    equals-here e =
        let found = underlines_on 61 bs in
        let whole : is_thematic_break word ≡ false = ap (λ c. is_thematic_break (c ∷ bs)) e in
        as-kind 61 (cond (on.heading_setext && found) underline text) equals_may_begin e (kind-equals on local.tokenize_state.size_c bs)
        (by-known g t stack events 1 (s ∷ (line ++ more)) previous q mark local FlowBlankLineBefore (Found before (far_or (cond (on.heading_setext && found) underline text)) word) underlines_are_on (underline_may_begin 61) text_may_begin on.heading_setext refl
        (elim on.heading_setext as (λ v. Found before (far_or (cond (v && found) underline text)) word (comes (cond v (underline_may_begin 61) text_may_begin))) [
          | true ↦ subst (λ v. Found before (far_or (cond found underline (cond v thematic_break text))) word (comes (underline_may_begin 61))) (ap (λ v. on.thematic_break && v) whole ∙ and-false on.thematic_break) (underline-begins 61 refl whole)
          | false ↦ text-begins
        ]))

    -- a mark of fences
    fence-begins : (m : ℕ) → is_fence_mark m ≡ true
        → Found before (far_or (cond (on.code_fenced && fences_on m 1 bs) (fence (record { byte = m; size = suc (run m bs); indent = local.tokenize_state.size_c })) text)) word (comes (fence_may_begin m))
    fence-begins m is =
        let found = fences_on m 1 bs in
        let f : Fence = record { byte = m; size = suc (run m bs); indent = local.tokenize_state.size_c } in
        let rows : Rows Unit Unit = row (write (mark_becomes m) ∷ write (size_becomes 1) ∷ consume ∷ []) (Next FlowBeforeRaw) in
        let size : suc (run m bs) ≡ 1 + run m bs = omega arith in
        far-or (cond (on.code_fenced && found) (fence f) text) (when fences_are_on rows none) (if-on fences_are_on on.code_fenced found (fence f) rows refl
        (fence-found g t stack events f word before more over is line in_line (Some s.byte) (q + 1) false (begun m) there (kept before local (begun m) h refl refl refl refl refl) refl refl size room-first))

    tick-here : s.byte ≡ 96 → Here (fence_may_begin 96)
    tick-here e = as-kind 96 _ (fence_may_begin 96) e (kind-tick on local.tokenize_state.size_c bs) (fence-begins 96 refl)

    tilde-here : s.byte ≡ 126 → Here (fence_may_begin 126)
    tilde-here e = as-kind 126 _ (fence_may_begin 126) e (kind-tilde on local.tokenize_state.size_c bs) (fence-begins 126 refl)

    less-here : s.byte ≡ 60 → Here html_may_begin
    less-here e =
        let kind = html_number (60 ∷ bs) in
        let rows : Rows Unit Unit = row (consume ∷ []) (Next HtmlFlowOpen) in
        as-kind 60 (cond (on.html_flow && nat_le 1 kind) (html kind) text) html_may_begin e (kind-less on local.tokenize_state.size_c bs)
        (far-or (cond (on.html_flow && nat_le 1 kind) (html kind) text) (when html_is_on rows none) (if-on html_is_on on.html_flow (nat_le 1 kind) (html kind) rows refl
        (html-found before (unchanged local) word kind (look g t stack events (line ++ more) (Some s.byte) (q + 1) false (unchanged local) HtmlFlowOpen) (kept before local (unchanged local) h refl refl refl refl refl)
        (html_seen g t stack events line more (Some s.byte) (q + 1) false (unchanged local) there in_line over))))

    other-here : (s.byte == 35) ≡ false → (s.byte == 42) ≡ false → (s.byte == 95) ≡ false → (s.byte == 45) ≡ false → (s.byte == 61) ≡ false → (s.byte == 96) ≡ false → (s.byte == 126) ≡ false → (s.byte == 60) ≡ false
        → Here text_may_begin
    other-here sign star underscore dash equals tick tilde less =
        as-kind s.byte text text_may_begin refl (kind-other on local.tokenize_state.size_c bs s.byte sign star underscore dash equals tick tilde less) text-begins

    -- each of them, or another
    first-here : Here (cond (s.byte == 35) heading_may_begin (cond (s.byte == 42) (break_may_begin 42) (cond (s.byte == 95) (break_may_begin 95) (cond (s.byte == 45) dash_may_begin (cond (s.byte == 61) equals_may_begin
        (cond (s.byte == 96) (fence_may_begin 96) (cond (s.byte == 126) (fence_may_begin 126) (cond (s.byte == 60) html_may_begin text_may_begin))))))))
    first-here =
        cond_both (s.byte == 35) _ _ Here (λ e. sign-here (eqb-true s.byte 35 e)) (λ sign. cond_both (s.byte == 42) _ _ Here (λ e. star-here (eqb-true s.byte 42 e)) (λ star. cond_both (s.byte == 95) _ _ Here (λ e. underscore-here (eqb-true s.byte 95 e)) (λ underscore.
        cond_both (s.byte == 45) _ _ Here (λ e. dash-here (eqb-true s.byte 45 e)) (λ dash. cond_both (s.byte == 61) _ _ Here (λ e. equals-here (eqb-true s.byte 61 e)) (λ equals. cond_both (s.byte == 96) _ _ Here (λ e. tick-here (eqb-true s.byte 96 e)) (λ tick.
        cond_both (s.byte == 126) _ _ Here (λ e. tilde-here (eqb-true s.byte 126 e)) (λ tilde. cond_both (s.byte == 60) _ _ Here (λ e. less-here (eqb-true s.byte 60 e)) (λ less. other-here sign star underscore dash equals tick tilde less))))))))

  -- the look at the rest of a line, behind white space
  line-found : (before : Local Unit Unit) (more : List Seat) → LineEnds more → (line : List Seat) → IsInLine line → (previous : Option ℕ) (q : ℕ) (mark : Bool) (local : Local Unit Unit) → drop q t.seats ≡ line ++ more → LeavesAll before local
      → local.tokenize_state.size_c + length line < 2 ^ 64 - 1
      → Found before (kind_from g.options.constructs local.tokenize_state.size_c (bytes_of line)) (unindented (bytes_of line)) (look g t stack events (line ++ more) previous q mark local FlowBlankLineBefore)
  line-found before more over [] in_line previous q mark local here h room =
      over-line g t stack events (Found before blank []) FlowBlankLineBefore flow_blank_line_before_rows (row (write (kind_becomes BlankLineEnding) ∷ []) Ok) (λ b l p q m k. refl) refl refl more over previous q mark local
      (kept before local _ h refl refl refl refl refl, (refl, refl))
  line-found before more over (s ∷ line) in_line previous q mark local here h room =
      let b = s.byte in
      let bs = bytes_of line in
      let on = g.options.constructs in
      let columns = local.tokenize_state.size_c in
      let ss = line ++ more in
      let name = FlowBlankLineBefore in
      let there : drop (q + 1) t.seats ≡ ss = drop-next t.seats q s ss here in
      let P = Found before (kind_from on columns (b ∷ bs)) (unindented (b ∷ bs)) in
      let comes = come g t stack events 1 (s ∷ ss) previous q mark local name in
      let grown = indent_grows (shows stack events (s ∷ ss) q mark (unchanged local)) in
      let go : Rows Unit Unit = row (write indent_grows ∷ consume ∷ []) (Next name) in
      at-line-byte g t stack events P name flow_blank_line_before_rows tests (λ b l p q m k. refl) are-tests 1 s ss previous q mark local
      (by-false (λ (rows : Rows Unit Unit). P (comes rows)) (b == 10) (row (write (kind_becomes BlankLineEnding) ∷ []) Ok) _ in_line.0
      (elim (is_white b) as (λ v. is_white b ≡ v → P (comes (cond v go (cond (b == 35) heading_may_begin (cond (b == 42) (break_may_begin 42) (cond (b == 95) (break_may_begin 95) (cond (b == 45) dash_may_begin (cond (b == 61) equals_may_begin
      (cond (b == 96) (fence_may_begin 96) (cond (b == 126) (fence_may_begin 126) (cond (b == 60) html_may_begin text_may_begin))))))))))) [
        | true ↦ λ w.
            let bigger : one_more columns ≡ suc columns = grows columns (length line) room in
            let later = line-found before more over line in_line.1 (Some b) (q + 1) false grown there (kept before local grown h refl refl refl refl refl) (subst (λ n. n + length line < 2 ^ 64 - 1) (sym bigger) (room-on columns (length line) room)) in
            let r = look g t stack events ss (Some b) (q + 1) false grown name in
            subst (λ kind. Found before kind (unindented (b ∷ bs)) r) (ap (λ n. kind_from on n bs) bigger ∙ sym (kind-white on columns b bs w)) (subst (λ word. Found before (kind_from on (one_more columns) bs) word r) (sym (goes is_white b bs w)) later)
        | false ↦ λ w.
            let rows : Rows Unit Unit =
            cond (b == 35) heading_may_begin (cond (b == 42) (break_may_begin 42) (cond (b == 95) (break_may_begin 95) (cond (b == 45) dash_may_begin (cond (b == 61) equals_may_begin
            (cond (b == 96) (fence_may_begin 96) (cond (b == 126) (fence_may_begin 126) (cond (b == 60) html_may_begin text_may_begin))))))) in
            subst (λ kind. Found before kind (unindented (b ∷ bs)) (comes rows)) (sym (kind-word on columns b bs w))
            (subst (λ word. Found before (cond (on.code_indented && nat_le 4 columns) indented (tested_rest on columns (b ∷ bs))) word (comes rows)) (sym (stops is_white b bs w))
            (first-here before more over s line in_line.1 previous q mark local there h room))
      ] refl))

-- no columns were counted yet
kind-of-line : (on : Constructs) (t : List ℕ) → kind_from on 0 t ≡ seen_kind on t
kind-of-line on t = let zero_more : 0 + indent t ≡ indent t = omega arith in ap (λ n. cond (is_blank_line t) blank (cond (on.code_indented && nat_le 4 n) indented (tested_rest on n (unindented t)))) zero_more ∙ sym (seen-is-tested on t)

pub lines-are-seen : HtmlIsSeen → LinesAreSeen
lines-are-seen html_seen g t stack events line rest previous position mark local here in_line over room columns =
    let total : local.tokenize_state.size_c + length line < 2 ^ 64 - 1 = omega (arith, columns) in
    let r = look g t stack events (line ++ rest) previous position mark local FlowBlankLineBefore in
    subst (λ kind. Found local kind (unindented (bytes_of line)) r) (ap (λ n. kind_from g.options.constructs n (bytes_of line)) columns ∙ kind-of-line g.options.constructs (bytes_of line))
    (line-found html_seen g t stack events local rest over line in_line previous position mark local here (leaves-itself local) total)
