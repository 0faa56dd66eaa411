-- The look at the next line of fenced code finds whether it is the closing fence.
use Rattle.mdblock_leaf_blocks.proofs.Prelude.{Bool, List, Option, Some, [], ap, arith, cond, drop, false, inl, inr, length, nat_le, nat_lt, not, refl, subst, suc, sym, true, ℕ, ◌&&◌, ◌++◌, ◌+◌, ◌-◌, ◌<◌, ◌==◌, ◌^◌, ◌||◌, ◌∙◌, ◌∷◌, ◌≡◌, ◌≤◌, ◌⊎◌, eqb-true, le-leb, leb-true, ltb-false, ltb-true, drop-next, Seat, Event, EventName, Name, Next, Nok, Ok, RawFlowAfterSequenceClose, RawFlowBeforeSequenceClose, RawFlowCloseStart, RawFlowSequenceClose, Configuration, Local, Sight, byte_of, sight, Given, Text, raw_flow_after_sequence_close_rows, raw_flow_before_sequence_close_rows, raw_flow_close_start_rows, raw_flow_sequence_close_rows, flow_byte, is_blank, is_fence, is_line_feed, flow, unchanged, at_mark, count_becomes, count_grows, is_as_long, is_byte, may_be_indented, bytes_of, Fence, closes, indent, is_blank_line, run, unindented, IsInLine, LineEnds, is_white, one_more, at-front, told, told_by, rows_in, Look, scan, shows, unfed_look, Rows, consume, picked, row, when, write, cond-itself, cond-same, and-true, and-false}
use Rattle.mdblock_leaf_blocks.proofs.Fenced.Steps.{IsMark, IsOfFence, KeepsFence, feed-class, mark-class, word-class}
use Rattle.mdblock_leaf_blocks.proofs.Lines.RowReads.{white-is-blank}
use Rattle.mdblock_leaf_blocks.proofs.Looks.ByteClasses.{no-line-feed}
use Rattle.mdblock_leaf_blocks.proofs.Looks.LineTests.{run-grows}

pub indent-grows : (b : ℕ) (bs : List ℕ) → indent (b ∷ bs) ≡ cond (is_white b) (suc (indent bs)) 0
indent-grows b bs = let e : 1 + indent bs ≡ suc (indent bs) = omega arith in ap (λ n. cond (is_white b) n 0) e

-- what the look says of the bytes behind some marks, and of those behind some columns
abbrev pub closes_behind : Fence → (marks : ℕ) → List ℕ → Bool
closes_behind f m [] = nat_le f.size m
closes_behind f m (b ∷ bs) = cond (b == f.byte) (closes_behind f (m + 1) bs) (nat_le f.size m && is_blank_line (b ∷ bs))

abbrev pub closes_from : (code : Bool) → Fence → (columns : ℕ) → List ℕ → Bool
closes_from code f c [] = false
closes_from code f c (b ∷ bs) = cond (is_white b) (cond (not code || nat_lt c 3) (closes_from code f (c + 1) bs) false) (cond (b == f.byte) (closes_behind f 1 bs) false)

-- the look says so, and leaves what states share of the fence
abbrev pub Saw : Bool → Local Unit Unit → Look Unit Unit → Type 0
Saw v before r = (r.answer ≡ cond v Ok Nok) × KeepsFence before r.local

saw-as : (v w : Bool) (before : Local Unit Unit) (r : Look Unit Unit) → v ≡ w → Saw v before r → Saw w before r
saw-as v w before r h = subst (λ v. Saw v before r) h

-- a byte of a line, by class and by itself
sorts-before : (b m : ℕ) (x y : Bool) → IsMark m → (b == 10) ≡ false
    → cond (is_blank (flow_byte b)) x (cond (is_fence (flow_byte b)) (cond (b == m) y false) false) ≡ cond (is_white b) x (cond (b == m) y false)
sorts-before b m x y mark feed = elim (b == m) as (λ t. (b == m) ≡ t → cond (is_blank (flow_byte b)) x (cond (is_fence (flow_byte b)) (cond t y false) false) ≡ cond (is_white b) x (cond t y false)) [
  | true ↦ λ e.
      let of : IsMark b = subst IsMark (sym (eqb-true b m e)) mark in
      let (no_feed, no_white, no_line_feed, no_blank, fence) = mark-class b of in
      ap (λ t. cond t x (cond (is_fence (flow_byte b)) y false)) no_blank ∙ ap (λ t. cond t y false) fence ∙ ap (λ t. cond t x y) (sym no_white)
  | false ↦ λ e. elim (is_white b) as (λ t. is_white b ≡ t → cond (is_blank (flow_byte b)) x (cond (is_fence (flow_byte b)) false false) ≡ cond t x false) [
    | true ↦ λ w. ap (λ c. cond (is_blank c) x (cond (is_fence c) false false)) (white-is-blank b w)
    | false ↦ λ w. ap (λ t. cond t x (cond (is_fence (flow_byte b)) false false)) (word-class b feed w).1 ∙ cond-same (is_fence (flow_byte b)) false
  ] refl
] refl

sorts-marks : (b m : ℕ) (long on more : Bool) → IsMark m → (b == 10) ≡ false
    → cond (is_line_feed (flow_byte b)) (cond long true false) (cond (is_blank (flow_byte b)) (cond long on false) (cond (is_fence (flow_byte b)) (cond (b == m) more false) false))
    ≡ cond (b == m) more (long && (is_white b && on))
sorts-marks b m long on more mark feed =
    ap (λ t. cond t (cond long true false) (cond (is_blank (flow_byte b)) (cond long on false) (cond (is_fence (flow_byte b)) (cond (b == m) more false) false))) (no-line-feed b feed)
    ∙ sorts-before b m (cond long on false) more mark feed
    ∙ (elim (b == m) as (λ t. (b == m) ≡ t → cond (is_white b) (cond long on false) (cond t more false) ≡ cond t more (long && (is_white b && on))) [
      | true ↦ λ e. ap (λ t. cond t (cond long on false) more) (mark-class b (subst IsMark (sym (eqb-true b m e)) mark)).1
      | false ↦ λ e. ends (is_white b)
    ] refl)
  where
    ends : (w : Bool) → cond w (cond long on false) false ≡ (long && (w && on))
    ends true = elim long as (λ l. cond l on false ≡ (l && on)) [ true ↦ refl | false ↦ refl ]
    ends false = elim long as (λ l. false ≡ (l && false)) [ true ↦ refl | false ↦ refl ]

module _ (g : Given) (t : Text) (stack : List EventName) (events : List Event) where
  abbrev looks : List Seat → Option ℕ → ℕ → Bool → Local Unit Unit → Name → Look Unit Unit
  looks l previous q mark local name = scan flow g t stack events 2 l previous q mark local name

  -- the look behind a byte
  abbrev onward : Seat → List Seat → ℕ → Local Unit Unit → Name → Look Unit Unit
  onward s ss q = scan flow g t stack events 2 ss (Some s.byte) (q + 1) false

  module _ (behind : Local Unit Unit → Name → Look Unit Unit) (l : List Seat) (previous : Option ℕ) (q : ℕ) (mark : Bool) (local : Local Unit Unit) (name : Name) where
    abbrev by : Rows Unit Unit → Look Unit Unit
    by rows = told flow (λ r. r) g t stack events 1 behind l previous q mark local name rows

    abbrev here : Configuration Unit Unit
    here = shows stack events l q mark (unchanged local)

    abbrev seen : Sight
    seen = sight g t (shows stack events l q mark local)

    by-test : (test : Bool) (x y : Rows Unit Unit) (v w : Bool) → Saw v local (by x) → Saw w local (by y) → Saw (cond test v w) local (by (cond test x y))
    by-test true x y v w h k = h
    by-test false x y v w h k = k

    -- rows by a test, of which one is for what passes it
    by-if : (test : Given → Sight → Configuration Unit Unit → Bool) (x y : Rows Unit Unit) (v w : Bool) → (test g seen here ≡ true → Saw v local (by x)) → Saw w local (by y) → Saw (cond (test g seen here) v w) local (by (when test x y))
    by-if test x y v w h k = elim (test g seen here) as (λ b. test g seen here ≡ b
        → Saw (cond b v w) local (told_by flow (λ r. r) g t stack events 1 behind l previous q mark local name (cond b (picked x g seen here) (picked y g seen here)))) [
          | true ↦ λ e. h e
          | false ↦ λ e. k
        ] refl

    by-when : (test : Given → Sight → Configuration Unit Unit → Bool) (x y : Rows Unit Unit) (v w : Bool) → Saw v local (by x) → Saw w local (by y) → Saw (cond (test g seen here) v w) local (by (when test x y))
    by-when test x y v w h k = by-if test x y v w (λ e. h) k

  -- only white space is left
  white-left : (l rest : List Seat) → IsInLine l → LineEnds rest → (previous : Option ℕ) (q : ℕ) (mark : Bool) (local : Local Unit Unit)
      → Saw (is_blank_line (bytes_of l)) local (looks (l ++ rest) previous q mark local RawFlowAfterSequenceClose)
  white-left [] [] all ends previous q mark local = (refl, (refl, refl, refl, refl, refl))
  white-left [] (s ∷ ss) all ends previous q mark local =
      let rows = raw_flow_after_sequence_close_rows {R = Unit {0}} {D = Unit {0}} in
      subst (λ c. Saw true local (by (onward s ss q) (s ∷ ss) previous q mark local RawFlowAfterSequenceClose (rows_in rows.cases rows.rest c))) (sym (feed-class s.byte (ap (λ b. b == 10) ends))) (refl, (refl, refl, refl, refl, refl))
  white-left (s ∷ ss) rest all ends previous q mark local =
      let name = RawFlowAfterSequenceClose in
      let w = flow_byte s.byte in
      let on = is_blank_line (bytes_of ss) in
      let test = by-test (onward s (ss ++ rest) q) (s ∷ (ss ++ rest)) previous q mark local name in
      let go : Rows Unit Unit = row (consume ∷ []) (Next name) in
      saw-as (cond (is_line_feed w) true (cond (is_blank w) on false)) (is_white s.byte && on) local (looks ((s ∷ ss) ++ rest) previous q mark local name) (sorts s.byte on all.0)
      (test (is_line_feed w) (row [] Ok) (cond (is_blank w) go (row [] Nok)) true (cond (is_blank w) on false) (refl, (refl, refl, refl, refl, refl))
      (test (is_blank w) go (row [] Nok) on false (white-left ss rest all.1 ends (Some s.byte) (q + 1) false (unchanged local)) (refl, (refl, refl, refl, refl, refl))))
    where
      sorts : (b : ℕ) (on : Bool) → (b == 10) ≡ false → cond (is_line_feed (flow_byte b)) true (cond (is_blank (flow_byte b)) on false) ≡ (is_white b && on)
      sorts b on feed = elim (is_white b) as (λ t. is_white b ≡ t → cond (is_line_feed (flow_byte b)) true (cond (is_blank (flow_byte b)) on false) ≡ (t && on)) [
        | true ↦ λ e. ap (λ c. cond (is_line_feed c) true (cond (is_blank c) on false)) (white-is-blank b e)
        | false ↦ λ e. let (no_feed, no_blank) = word-class b feed e in ap (λ t. cond t true (cond (is_blank (flow_byte b)) on false)) no_feed ∙ ap (λ t. cond t on false) no_blank
      ] refl

  -- the mark of the fence is seen where the byte comes in the text
  marked : (f : Fence) (q : ℕ) (s : Seat) (rest : List Seat) (local : Local Unit Unit) (previous : Option ℕ) (mark : Bool) (name : Name) → drop q t.seats ≡ s ∷ rest → local.tokenize_state.marker ≡ f.byte
      → at_mark g (seen (onward s rest q) (s ∷ rest) previous q mark local name) (here (onward s rest q) (s ∷ rest) previous q mark local name) ≡ (s.byte == f.byte)
  marked f q s rest local previous mark name at is = ap (λ o. is_byte local.tokenize_state.marker (byte_of o)) (at-front t.seats q s rest at) ∙ ap (λ m. s.byte == m) is

  -- marks of the fence are left, behind some of them
  marks-left : (f : Fence) (l rest : List Seat) → IsMark f.byte → IsInLine l → LineEnds rest → (previous : Option ℕ) (q : ℕ) (mark : Bool) (local : Local Unit Unit) (m : ℕ)
      → drop q t.seats ≡ l ++ rest → IsOfFence f local → local.tokenize_state.space_or_tab_size ≡ m → m + length l < 2 ^ 64
      → Saw (closes_behind f m (bytes_of l)) local (looks (l ++ rest) previous q mark local RawFlowSequenceClose)
  marks-left f [] [] of all ends previous q mark local m at fence counted room =
      let name = RawFlowSequenceClose in
      saw-as (cond (nat_le local.tokenize_state.size_b local.tokenize_state.space_or_tab_size) true false) (nat_le f.size m) local (looks [] previous q mark local name) (cond-itself _ ∙ rw (fence.1, counted) refl)
      (by-when (unfed_look flow g t stack events) [] previous q mark local name is_as_long (row [] Ok) (row [] Nok) true false (refl, (refl, refl, refl, refl, refl)) (refl, (refl, refl, refl, refl, refl)))
  marks-left f [] (s ∷ ss) of all ends previous q mark local m at fence counted room =
      let name = RawFlowSequenceClose in
      let rows = raw_flow_sequence_close_rows {R = Unit {0}} {D = Unit {0}} in
      saw-as (cond (nat_le local.tokenize_state.size_b local.tokenize_state.space_or_tab_size) true false) (nat_le f.size m) local (looks (s ∷ ss) previous q mark local name) (cond-itself _ ∙ rw (fence.1, counted) refl)
      (subst (λ c. Saw (cond (nat_le local.tokenize_state.size_b local.tokenize_state.space_or_tab_size) true false) local (by (onward s ss q) (s ∷ ss) previous q mark local name (rows_in rows.cases rows.rest c))) (sym (feed-class s.byte (ap (λ b. b == 10) ends)))
      (by-when (onward s ss q) (s ∷ ss) previous q mark local name is_as_long (row [] Ok) (row [] Nok) true false (refl, (refl, refl, refl, refl, refl)) (refl, (refl, refl, refl, refl, refl))))
  marks-left f (s ∷ ss) rest of all ends previous q mark local m at fence counted room =
      let name = RawFlowSequenceClose in
      let w = flow_byte s.byte in
      let long = nat_le local.tokenize_state.size_b local.tokenize_state.space_or_tab_size in
      let on = is_blank_line (bytes_of ss) in
      let more = closes_behind f (m + 1) (bytes_of ss) in
      let over : Rows Unit Unit = when is_as_long (row [] Ok) (row [] Nok) in
      let white : Rows Unit Unit = when is_as_long (row (consume ∷ []) (Next RawFlowAfterSequenceClose)) (row [] Nok) in
      let grow : Rows Unit Unit = when at_mark (row (write count_grows ∷ consume ∷ []) (Next name)) (row [] Nok) in
      let no : Rows Unit Unit = row [] Nok in
      let k = here (onward s (ss ++ rest) q) (s ∷ (ss ++ rest)) previous q mark local name in
      let next = drop-next t.seats q s (ss ++ rest) at in
      let grown : one_more local.tokenize_state.space_or_tab_size ≡ m + 1 = ap one_more counted ∙ (let r = room in omega (arith, r)) in
      let fails : Saw false local (by (onward s (ss ++ rest) q) (s ∷ (ss ++ rest)) previous q mark local name no) = (refl, (refl, refl, refl, refl, refl)) in
      let test = by-test (onward s (ss ++ rest) q) (s ∷ (ss ++ rest)) previous q mark local name in
      let tested = by-when (onward s (ss ++ rest) q) (s ∷ (ss ++ rest)) previous q mark local name in
      let is_mark = at_mark g (seen (onward s (ss ++ rest) q) (s ∷ (ss ++ rest)) previous q mark local name) k in
      saw-as (cond (is_line_feed w) (cond long true false) (cond (is_blank w) (cond long on false) (cond (is_fence w) (cond is_mark more false) false)))
      (cond (s.byte == f.byte) more (nat_le f.size m && (is_white s.byte && on))) local (looks ((s ∷ ss) ++ rest) previous q mark local name)
      (ap (λ b. cond (is_line_feed w) (cond long true false) (cond (is_blank w) (cond long on false) (cond (is_fence w) (cond b more false) false))) (marked f q s (ss ++ rest) local previous mark name at fence.0)
      ∙ sorts-marks s.byte f.byte long on more of all.0 ∙ ap (λ l. cond (s.byte == f.byte) more (l && (is_white s.byte && on))) (ap (λ n. nat_le n local.tokenize_state.space_or_tab_size) fence.1 ∙ ap (λ n. nat_le f.size n) counted))
      (test (is_line_feed w) over (cond (is_blank w) white (cond (is_fence w) grow no)) (cond long true false) (cond (is_blank w) (cond long on false) (cond (is_fence w) (cond is_mark more false) false))
      (tested is_as_long (row [] Ok) no true false (refl, (refl, refl, refl, refl, refl)) fails)
      (test (is_blank w) white (cond (is_fence w) grow no) (cond long on false) (cond (is_fence w) (cond is_mark more false) false)
      (tested is_as_long (row (consume ∷ []) (Next RawFlowAfterSequenceClose)) no on false (white-left ss rest all.1 ends (Some s.byte) (q + 1) false (unchanged local)) fails)
      (test (is_fence w) grow no (cond is_mark more false) false
      (tested at_mark (row (write count_grows ∷ consume ∷ []) (Next name)) no more false
      (marks-left f ss rest of all.1 ends (Some s.byte) (q + 1) false (count_grows k) (m + 1) next fence grown (let r = room in omega (arith, r))) fails)
      fails)))

  -- columns before the fence are left
  abbrev Counts : ℕ → Local Unit Unit → Type 0
  Counts c local = (g.options.constructs.code_indented ≡ false) ⊎ ((local.tokenize_state.space_or_tab_size ≡ c) × (c ≤ 3))

  may : (c : ℕ) (local : Local Unit Unit) → Counts c local → (not g.options.constructs.code_indented || nat_lt local.tokenize_state.space_or_tab_size 3) ≡ (not g.options.constructs.code_indented || nat_lt c 3)
  may c local (inl off) = ap (λ b. not b || nat_lt local.tokenize_state.space_or_tab_size 3) off ∙ sym (ap (λ b. not b || nat_lt c 3) off)
  may c local (inr h) = ap (λ n. not g.options.constructs.code_indented || nat_lt n 3) h.0

  counts-on : (c : ℕ) (local : Local Unit Unit) → Counts c local → (not g.options.constructs.code_indented || nat_lt local.tokenize_state.space_or_tab_size 3) ≡ true
      → (g.options.constructs.code_indented ≡ false) ⊎ ((one_more local.tokenize_state.space_or_tab_size ≡ c + 1) × (c + 1 ≤ 3))
  counts-on c local (inl off) near = inl off
  counts-on c local (inr h) near = elim g.options.constructs.code_indented as (λ b. (not b || nat_lt local.tokenize_state.space_or_tab_size 3) ≡ true
      → (b ≡ false) ⊎ ((one_more local.tokenize_state.space_or_tab_size ≡ c + 1) × (c + 1 ≤ 3))) [
        | true ↦ λ k. let less : c < 3 = ltb-true c 3 (ap (λ n. nat_lt n 3) (sym h.0) ∙ k) in inr (ap one_more h.0 ∙ (omega (arith, less)), omega (arith, less))
        | false ↦ λ k. inl refl
      ] near

  columns-left : (f : Fence) (l rest : List Seat) → IsMark f.byte → IsInLine l → LineEnds rest → (previous : Option ℕ) (q : ℕ) (mark : Bool) (local : Local Unit Unit) (c : ℕ)
      → drop q t.seats ≡ l ++ rest → IsOfFence f local → Counts c local → length l < 2 ^ 64 - 1
      → Saw (closes_from g.options.constructs.code_indented f c (bytes_of l)) local (looks (l ++ rest) previous q mark local RawFlowBeforeSequenceClose)
  columns-left f [] [] of all ends previous q mark local c at fence counted room = (refl, (refl, refl, refl, refl, refl))
  columns-left f [] (s ∷ ss) of all ends previous q mark local c at fence counted room =
      let name = RawFlowBeforeSequenceClose in
      let rows = raw_flow_before_sequence_close_rows {R = Unit {0}} {D = Unit {0}} in
      subst (λ c. Saw false local (by (onward s ss q) (s ∷ ss) previous q mark local name (rows_in rows.cases rows.rest c))) (sym (feed-class s.byte (ap (λ b. b == 10) ends))) (refl, (refl, refl, refl, refl, refl))
  columns-left f (s ∷ ss) rest of all ends previous q mark local c at fence counted room =
      let name = RawFlowBeforeSequenceClose in
      let w = flow_byte s.byte in
      let code = g.options.constructs.code_indented in
      let further = closes_from code f (c + 1) (bytes_of ss) in
      let marks = closes_behind f 1 (bytes_of ss) in
      let white : Rows Unit Unit = when may_be_indented (row (write count_grows ∷ consume ∷ []) (Next name)) (row [] Nok) in
      let first : Rows Unit Unit = when at_mark (row (write (count_becomes 1) ∷ consume ∷ []) (Next RawFlowSequenceClose)) (row [] Nok) in
      let no : Rows Unit Unit = row [] Nok in
      let behind = onward s (ss ++ rest) q in
      let k = here behind (s ∷ (ss ++ rest)) previous q mark local name in
      let next = drop-next t.seats q s (ss ++ rest) at in
      let fails : Saw false local (by behind (s ∷ (ss ++ rest)) previous q mark local name no) = (refl, (refl, refl, refl, refl, refl)) in
      let test = by-test behind (s ∷ (ss ++ rest)) previous q mark local name in
      let tested = by-when behind (s ∷ (ss ++ rest)) previous q mark local name in
      let is_mark = at_mark g (seen behind (s ∷ (ss ++ rest)) previous q mark local name) k in
      let is_near = not code || nat_lt local.tokenize_state.space_or_tab_size 3 in
      saw-as (cond (is_blank w) (cond is_near further false) (cond (is_fence w) (cond is_mark marks false) false))
      (closes_from code f c (s.byte ∷ bytes_of ss)) local (looks ((s ∷ ss) ++ rest) previous q mark local name)
      (ap (λ b. cond (is_blank w) (cond is_near further false) (cond (is_fence w) (cond b marks false) false)) (marked f q s (ss ++ rest) local previous mark name at fence.0)
      ∙ sorts-before s.byte f.byte (cond is_near further false) marks of all.0
      ∙ ap (λ x. cond (is_white s.byte) x (cond (s.byte == f.byte) marks false)) (ap (λ b. cond b further false) (may c local counted)))
      (test (is_blank w) white (cond (is_fence w) first no) (cond is_near further false) (cond (is_fence w) (cond is_mark marks false) false)
      (by-if behind (s ∷ (ss ++ rest)) previous q mark local name may_be_indented (row (write count_grows ∷ consume ∷ []) (Next name)) no further false
      (λ near. columns-left f ss rest of all.1 ends (Some s.byte) (q + 1) false (count_grows k) (c + 1) next fence (counts-on c local counted near) (let r = room in omega (arith, r))) fails)
      (test (is_fence w) first no (cond is_mark marks false) false
      (tested at_mark (row (write (count_becomes 1) ∷ consume ∷ []) (Next RawFlowSequenceClose)) no marks false
      (marks-left f ss rest of all.1 ends (Some s.byte) (q + 1) false (count_becomes 1 k) 1 next fence refl (let r = room in omega (arith, r))) fails)
      fails))

  -- at the line ending before it
  pub close-seen : (f : Fence) (s : Seat) (l rest : List Seat) → IsMark f.byte → (s.byte == 10) ≡ true → IsInLine l → LineEnds rest → (previous : Option ℕ) (q : ℕ) (mark : Bool) (local : Local Unit Unit)
      → drop q t.seats ≡ s ∷ (l ++ rest) → IsOfFence f local → length l < 2 ^ 64 - 1
      → Saw (closes_from g.options.constructs.code_indented f 0 (bytes_of l)) local (looks (s ∷ (l ++ rest)) previous q mark local RawFlowCloseStart)
  close-seen f s l rest of feed all ends previous q mark local at fence room =
      let name = RawFlowCloseStart in
      let v = closes_from g.options.constructs.code_indented f 0 (bytes_of l) in
      let rows = raw_flow_close_start_rows {R = Unit {0}} {D = Unit {0}} in
      let behind = onward s (l ++ rest) q in
      let k = here behind (s ∷ (l ++ rest)) previous q mark local name in
      subst (λ c. Saw v local (by behind (s ∷ (l ++ rest)) previous q mark local name (rows_in rows.cases rows.rest c))) (sym (feed-class s.byte feed))
      (columns-left f l rest of all ends (Some s.byte) (q + 1) false (count_becomes 0 k) 0 (drop-next t.seats q s (l ++ rest) at) fence (inr (refl, omega arith)) room)

-- ---- what the look says is the definition
marks-close : (f : Fence) (m : ℕ) (bs : List ℕ) → closes_behind f m bs ≡ (nat_le f.size (m + run f.byte bs) && is_blank_line (drop (run f.byte bs) bs))
marks-close f m [] = let e : m ≡ m + 0 = omega arith in ap (λ n. nat_le f.size n) e ∙ sym (and-true (nat_le f.size (m + 0)))
marks-close f m (b ∷ bs) = subst (λ n. closes_behind f m (b ∷ bs) ≡ (nat_le f.size (m + n) && is_blank_line (drop n (b ∷ bs)))) (sym (run-grows f.byte b bs)) (elim (b == f.byte) as (λ t. cond t (closes_behind f (m + 1) bs) (nat_le f.size m && is_blank_line (b ∷ bs))
    ≡ (nat_le f.size (m + cond t (suc (run f.byte bs)) 0) && is_blank_line (drop (cond t (suc (run f.byte bs)) 0) (b ∷ bs)))) [
      | true ↦ let e : m + 1 + run f.byte bs ≡ m + suc (run f.byte bs) = omega arith in marks-close f (m + 1) bs ∙ ap (λ n. nat_le f.size n && is_blank_line (drop (run f.byte bs) bs)) e
      | false ↦ let e : m ≡ m + 0 = omega arith in ap (λ n. nat_le f.size n && is_blank_line (b ∷ bs)) e
    ])

-- a test of what is above
pub above : (a b : ℕ) → b < a → nat_le a b ≡ false
above a b less = elim (nat_le a b) as (λ t. nat_le a b ≡ t → nat_le a b ≡ false) [
  | true ↦ λ e. absurd (let no = leb-true a b e in omega (arith, no, less))
  | false ↦ λ e. e
] refl

-- of bytes without white space before them
abbrev closes_rest : Fence → List ℕ → Bool
closes_rest f r = nat_le f.size (run f.byte r) && is_blank_line (drop (run f.byte r) r)

none-closes : (f : Fence) (r : List ℕ) → 1 ≤ f.size → run f.byte r ≡ 0 → closes_rest f r ≡ false
none-closes f r size none = ap (λ n. nat_le f.size n && is_blank_line (drop n r)) none ∙ ap (λ b. b && is_blank_line r) (above f.size 0 (omega (arith, size)))

rest-closes : (f : Fence) (b : ℕ) (bs : List ℕ) → 1 ≤ f.size → cond (b == f.byte) (closes_behind f 1 bs) false ≡ closes_rest f (b ∷ bs)
rest-closes f b bs size = elim (b == f.byte) as (λ t. (b == f.byte) ≡ t → cond t (closes_behind f 1 bs) false ≡ closes_rest f (b ∷ bs)) [
  | true ↦ λ e.
      let one : 1 + run f.byte bs ≡ suc (run f.byte bs) = omega arith in
      let grows : run f.byte (b ∷ bs) ≡ suc (run f.byte bs) = run-grows f.byte b bs ∙ ap (λ t. cond t (suc (run f.byte bs)) 0) e in
      marks-close f 1 bs ∙ ap (λ n. nat_le f.size n && is_blank_line (drop (run f.byte bs) bs)) one ∙ sym (ap (λ n. nat_le f.size n && is_blank_line (drop n (b ∷ bs))) grows)
  | false ↦ λ e. sym (none-closes f (b ∷ bs) size (run-grows f.byte b bs ∙ ap (λ t. cond t (suc (run f.byte bs)) 0) e))
] refl

columns-close : (code : Bool) (f : Fence) (c : ℕ) (bs : List ℕ) → 1 ≤ f.size → (code ≡ false) ⊎ (c ≤ 3)
    → closes_from code f c bs ≡ (not (code && nat_le 4 (c + indent bs)) && closes_rest f (unindented bs))
columns-close code f c [] size near = sym (ap (λ b. not (code && nat_le 4 (c + 0)) && b) (none-closes f [] size refl) ∙ and-false (not (code && nat_le 4 (c + 0))))
columns-close code f c (b ∷ bs) size near =
    subst (λ n. closes_from code f c (b ∷ bs) ≡ (not (code && nat_le 4 (c + n)) && closes_rest f (drop n (b ∷ bs)))) (sym (indent-grows b bs))
    (elim (is_white b) as (λ w. cond w (cond (not code || nat_lt c 3) (closes_from code f (c + 1) bs) false) (cond (b == f.byte) (closes_behind f 1 bs) false)
    ≡ (not (code && nat_le 4 (c + cond w (suc (indent bs)) 0)) && closes_rest f (drop (cond w (suc (indent bs)) 0) (b ∷ bs)))) [
      | true ↦ further (λ code near. columns-close code f (c + 1) bs size near) code near
      | false ↦ rest-closes f b bs size ∙ sym (ap (λ t. not t && closes_rest f (b ∷ bs)) (is_near code near))
    ])
  where
    is_near : (code : Bool) → (code ≡ false) ⊎ (c ≤ 3) → (code && nat_le 4 (c + 0)) ≡ false
    is_near false near = refl
    is_near true (inl e) = absurd (cc)
    is_near true (inr h) = above 4 (c + 0) (omega (arith, h))

    further : ((code : Bool) → (code ≡ false) ⊎ (c + 1 ≤ 3) → closes_from code f (c + 1) bs ≡ (not (code && nat_le 4 (c + 1 + indent bs)) && closes_rest f (unindented bs))) → (code : Bool) → (code ≡ false) ⊎ (c ≤ 3) → cond (not code || nat_lt c 3) (closes_from code f (c + 1) bs) false ≡ (not (code && nat_le 4 (c + suc (indent bs))) && closes_rest f (unindented bs))
    further ih false near = ih false (inl refl)
    further ih true near = elim (nat_lt c 3) as (λ l. nat_lt c 3 ≡ l → cond l (closes_from true f (c + 1) bs) false ≡ (not (nat_le 4 (c + suc (indent bs))) && closes_rest f (unindented bs))) [
      | true ↦ λ e.
          let less = ltb-true c 3 e in
          let one : c + 1 + indent bs ≡ c + suc (indent bs) = omega arith in
          ih true (inr (omega (arith, less))) ∙ ap (λ n. not (nat_le 4 n) && closes_rest f (unindented bs)) one
      | false ↦ λ e. let far : 4 ≤ c + suc (indent bs) = (let more = ltb-false c 3 e in omega (arith, more)) in sym (ap (λ b. not b && closes_rest f (unindented bs)) (le-leb 4 (c + suc (indent bs)) far))
    ] refl

pub closes-is : (g : Given) (f : Fence) (bs : List ℕ) → 1 ≤ f.size → IsMark f.byte → closes_from g.options.constructs.code_indented f 0 bs ≡ closes g.options.constructs f bs
closes-is g f bs size of = columns-close g.options.constructs.code_indented f 0 bs size (inr (omega arith)) ∙ (let e : 0 + indent bs ≡ indent bs = omega arith in ap (λ n. not (g.options.constructs.code_indented && nat_le 4 n) && closes_rest f (unindented bs)) e)
