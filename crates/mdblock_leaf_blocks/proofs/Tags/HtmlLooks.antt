-- The look behind a less-than sign, row by row, finds the kind of HTML that the line begins.
use Rattle.mdblock_leaf_blocks.proofs.Prelude.{◌≡◌, ℕ, ◌+◌, ◌==◌, ◌||◌, List, [], ◌∷◌, ◌++◌, Bool, true, false, cond, Option, Some, drop, refl, sym, ap, ◌∙◌, subst, Event, EventName, Name, Next, Nok, HtmlFlowCompleteAfter, HtmlFlowCompleteAttributeName, HtmlFlowCompleteAttributeNameAfter, HtmlFlowCompleteAttributeNameBefore, HtmlFlowCompleteAttributeValueBefore, HtmlFlowCompleteAttributeValueQuoted, HtmlFlowCompleteAttributeValueQuotedAfter, HtmlFlowCompleteAttributeValueUnquoted, HtmlFlowCompleteClosingTagAfter, HtmlFlowCompleteEnd, Seat, drop-next, Configuration, Local, Sight, sight, Given, Text, told, told_by, rows_in, Look, scan, shows, consume, write, Rows, picked, row, when, is_white, FlowByte, Cased, line_feed, flow_byte, is_line_feed, is_blank, is_greater, is_slash, is_equals, is_double, is_single, is_quote, begins_name, is_in_name, begins_no_value, is_in_no_value, flow, unchanged, at_mark, mark_becomes, html_flow_complete_after_rows, html_flow_complete_attribute_name_after_rows, html_flow_complete_attribute_name_before_rows, html_flow_complete_attribute_name_rows, html_flow_complete_attribute_value_before_rows, html_flow_complete_attribute_value_quoted_after_rows, html_flow_complete_attribute_value_quoted_rows, html_flow_complete_attribute_value_unquoted_rows, html_flow_complete_closing_tag_after_rows, html_flow_complete_end_rows, bytes_of, FindsHtml, IsInLine, LineEnds, begins_attribute, goes_on_attribute}
use Rattle.mdblock_leaf_blocks.proofs.Tags.Attributes.{Place, after, slashed, closing, before, name, named, value, quoted, behind, bare, goes}
use Rattle.mdblock_leaf_blocks.proofs.Looks.ByteClasses.{no_bare, no_value, feed-is, blank-is, greater-is, slash-is, equals-is, double-is, single-is, quote-is, begins-is, goes-on-is, no-bare-is, no-value-is}
use Rattle.mdblock_leaf_blocks.proofs.Tags.HtmlKinds.{whole}
use Rattle.mdblock_leaf_blocks.proofs.Looks.LookSteps.{mark-is}

-- the states of places, and their rows
abbrev pub state_of : Place → Name
state_of after = HtmlFlowCompleteAfter
state_of slashed = HtmlFlowCompleteEnd
state_of closing = HtmlFlowCompleteClosingTagAfter
state_of before = HtmlFlowCompleteAttributeNameBefore
state_of name = HtmlFlowCompleteAttributeName
state_of named = HtmlFlowCompleteAttributeNameAfter
state_of value = HtmlFlowCompleteAttributeValueBefore
state_of (quoted m) = HtmlFlowCompleteAttributeValueQuoted
state_of behind = HtmlFlowCompleteAttributeValueQuotedAfter
state_of bare = HtmlFlowCompleteAttributeValueUnquoted

abbrev rows_of : Place → Cased Unit Unit
rows_of after = html_flow_complete_after_rows
rows_of slashed = html_flow_complete_end_rows
rows_of closing = html_flow_complete_closing_tag_after_rows
rows_of before = html_flow_complete_attribute_name_before_rows
rows_of name = html_flow_complete_attribute_name_rows
rows_of named = html_flow_complete_attribute_name_after_rows
rows_of value = html_flow_complete_attribute_value_before_rows
rows_of (quoted m) = html_flow_complete_attribute_value_quoted_rows
rows_of behind = html_flow_complete_attribute_value_quoted_after_rows
rows_of bare = html_flow_complete_attribute_value_unquoted_rows

-- in a quoted value the quotation mark is known
abbrev pub Marks : Place → Local Unit Unit → Type 0
Marks (quoted m) local = local.tokenize_state.marker ≡ m
Marks _ local = Unit {0}

-- what a look found, and what it left as it was
abbrev pub Is : (kind : ℕ) → Local Unit Unit → Look Unit Unit → Type 0
Is kind local r =
    (r.local.map ≡ local.map) × (r.local.resolvers ≡ local.resolvers) × (r.local.tokenize_state.start ≡ local.tokenize_state.start) × (r.local.tokenize_state.end ≡ local.tokenize_state.end)
    × (r.local.tokenize_state.connect ≡ local.tokenize_state.connect) × FindsHtml kind r.local r.answer

whole-cond : (t x y : Bool) → whole (cond t x y) ≡ cond t (whole x) (whole y)
whole-cond true x y = refl
whole-cond false x y = refl

module _ (g : Given) (t : Text) (stack : List EventName) (events : List Event) where
  -- what rows come to, before these bytes
  module _ (bound : ℕ) (rest : Local Unit Unit → Name → Look Unit Unit) (l : List Seat) (previous : Option ℕ) (q : ℕ) (mark : Bool) (local : Local Unit Unit) where
    abbrev pub At : Name → ℕ → Rows Unit Unit → Type 0
    At n kind rows = Is kind local (told flow (λ r. r) g t stack events bound rest l previous q mark local n rows)

    -- by a test of classes that is one of bytes
    pub either : (n : Name) (x y : Bool) → x ≡ y → (k m : ℕ) (a b : Rows Unit Unit) → At n k a → At n m b → At n (cond y k m) (cond x a b)
    either n true true e k m a b h j = h
    either n true false e k m a b h j = absurd (cc)
    either n false true e k m a b h j = absurd (cc)
    either n false false e k m a b h j = j

    pub whether : (n : Name) (x y : Bool) → x ≡ y → (k m : Bool) (a b : Rows Unit Unit) → At n (whole k) a → At n (whole m) b → At n (whole (cond y k m)) (cond x a b)
    whether n true true e k m a b h j = h
    whether n true false e k m a b h j = absurd (cc)
    whether n false true e k m a b h j = absurd (cc)
    whether n false false e k m a b h j = j

    -- past a test that fails
    pub past_by : (n : Name) (x : Bool) → x ≡ false → (k : ℕ) (a b : Rows Unit Unit) → At n k b → At n k (cond x a b)
    past_by n true e k a b h = absurd (cc)
    past_by n false e k a b h = h

    -- by a test of what states share
    pub depends : (n : Name) (f : Given → Sight → Configuration Unit Unit → Bool) (y : Bool) → f g (sight g t (shows stack events l q mark local)) (shows stack events l q mark (unchanged local)) ≡ y
        → (k m : ℕ) (a b : Rows Unit Unit) → At n k a → At n m b → At n (cond y k m) (when f a b)
    depends n f y e k m a b h j =
        let seen = sight g t (shows stack events l q mark local) in
        let c = shows stack events l q mark (unchanged local) in
        subst (λ x. Is (cond y k m) local (told_by flow (λ r. r) g t stack events bound rest l previous q mark local n (cond x (picked a g seen c) (picked b g seen c)))) (sym e)
        (elim y as (λ x. Is (cond x k m) local (told_by flow (λ r. r) g t stack events bound rest l previous q mark local n (cond x (picked a g seen c) (picked b g seen c)))) [
          | true ↦ h
          | false ↦ j
        ])

    pub depends-whole : (n : Name) (f : Given → Sight → Configuration Unit Unit → Bool) (y : Bool) → f g (sight g t (shows stack events l q mark local)) (shows stack events l q mark (unchanged local)) ≡ y
        → (k m : Bool) (a b : Rows Unit Unit) → At n (whole k) a → At n (whole m) b → At n (whole (cond y k m)) (when f a b)
    depends-whole n f y e k m a b h j =
        subst (λ i. At n i (when f a b)) (sym (whole-cond y k m)) (depends n f y e (whole k) (whole m) a b h j)

  -- a place before the end of a line
  abbrev here_rows : List Seat → Seat → Option ℕ → ℕ → Bool → Local Unit Unit → Place → FlowByte → Look Unit Unit
  here_rows ss s previous q mark local place c =
      told flow (λ r. r) g t stack events 1 (scan flow g t stack events 2 ss (Some s.byte) (q + 1) false) (s ∷ ss) previous q mark local (state_of place) (rows_in (rows_of place).cases (rows_of place).rest c)

  opens : (place : Place) (ss : List Seat) (s : Seat) (previous : Option ℕ) (q : ℕ) (mark : Bool) (local : Local Unit Unit)
      → scan flow g t stack events 2 (s ∷ ss) previous q mark local (state_of place) ≡ here_rows ss s previous q mark local place (flow_byte s.byte)
  opens after ss s previous q mark local = refl
  opens place ss s previous q mark local = refl

  -- at the end of a line
  at-feed : (place : Place) (ss : List Seat) (s : Seat) (previous : Option ℕ) (q : ℕ) (mark : Bool) (local : Local Unit Unit)
      → Is (whole (goes [] place)) local (here_rows ss s previous q mark local place line_feed)
  at-feed after ss s previous q mark local = (refl, refl, refl, refl, refl, (refl, refl, refl))
  at-feed place ss s previous q mark local = (refl, refl, refl, refl, refl, refl)

  at-nothing : (place : Place) (previous : Option ℕ) (q : ℕ) (mark : Bool) (local : Local Unit Unit) → Is (whole (goes [] place)) local (scan flow g t stack events 2 [] previous q mark local (state_of place))
  at-nothing after previous q mark local = (refl, refl, refl, refl, refl, (refl, refl, refl))
  at-nothing place previous q mark local = (refl, refl, refl, refl, refl, refl)

  line-over : (place : Place) (rest : List Seat) → LineEnds rest → (previous : Option ℕ) (q : ℕ) (mark : Bool) (local : Local Unit Unit)
      → Is (whole (goes [] place)) local (scan flow g t stack events 2 rest previous q mark local (state_of place))
  line-over place [] ends previous q mark local = at-nothing place previous q mark local
  line-over place (s ∷ ss) ends previous q mark local =
      subst (Is (whole (goes [] place)) local) (sym (opens place ss s previous q mark local))
      (subst (λ c. Is (whole (goes [] place)) local (here_rows ss s previous q mark local place c)) (sym (ap flow_byte ends)) (at-feed place ss s previous q mark local))

  -- at a byte of a line, if it is known how the look goes on behind it
  module _ (s : Seat) (ss rest : List Seat) (previous : Option ℕ) (q : ℕ) (mark : Bool) (local : Local Unit Unit)
      (here : drop q t.seats ≡ s ∷ (ss ++ rest)) (in_line : (s.byte == 10) ≡ false)
      (on : (local' : Local Unit Unit) (place : Place) → Marks place local' → Is (whole (goes (bytes_of ss) place)) local' (scan flow g t stack events 2 (ss ++ rest) (Some s.byte) (q + 1) false local' (state_of place))) where
    abbrev b : ℕ
    b = s.byte

    abbrev bs : List ℕ
    bs = bytes_of ss

    abbrev more : Local Unit Unit → Name → Look Unit Unit
    more = scan flow g t stack events 2 (ss ++ rest) (Some s.byte) (q + 1) false

    abbrev Here : Place → Bool → Rows Unit Unit → Type 0
    Here place t rows = At 1 more (s ∷ (ss ++ rest)) previous q mark local (state_of place) (whole t) rows

    abbrev to : Place → Rows Unit Unit
    to place = row (consume ∷ []) (Next (state_of place))

    abbrev no : Rows Unit Unit
    no = row [] Nok

    test : (place : Place) (x y : Bool) → x ≡ y → (k m : Bool) (a b : Rows Unit Unit) → Here place k a → Here place m b → Here place (cond y k m) (cond x a b)
    test place = whether 1 more (s ∷ (ss ++ rest)) previous q mark local (state_of place)

    no-feed : (place : Place) (k : Bool) (a b : Rows Unit Unit) → Here place k b → Here place k (cond (is_line_feed (flow_byte s.byte)) a b)
    no-feed place k a b h = past_by 1 more (s ∷ (ss ++ rest)) previous q mark local (state_of place) (is_line_feed (flow_byte s.byte)) (feed-is s.byte ∙ in_line) (whole k) a b h

    goes-to : (from place : Place) → Marks place (unchanged local) → Here from (goes bs place) (to place)
    goes-to from place marks = on (unchanged local) place marks

    fails : (place : Place) → Here place false no
    fails place = (refl, refl, refl, refl, refl, refl)

    at-end : (place : Place) → Here place (cond (b == 62) (goes bs after) false) (cond (is_greater (flow_byte b)) (to after) no)
    at-end place = test place (is_greater (flow_byte b)) (b == 62) (greater-is b) (goes bs after) false (to after) no (goes-to place after tt) (fails place)

    at-slash : (place : Place) → Here place (cond (b == 47) (goes bs slashed) (cond (b == 62) (goes bs after) false)) (cond (is_slash (flow_byte b)) (to slashed) (cond (is_greater (flow_byte b)) (to after) no))
    at-slash place =
        test place (is_slash (flow_byte b)) (b == 47) (slash-is b) (goes bs slashed) (cond (b == 62) (goes bs after) false) (to slashed) (cond (is_greater (flow_byte b)) (to after) no)
        (goes-to place slashed tt) (at-end place)

    abbrev rows_here : Place → Rows Unit Unit
    rows_here place = rows_in (rows_of place).cases (rows_of place).rest (flow_byte b)

    abbrev Steps : Place → Type 0
    Steps place = Here place (goes (b ∷ bs) place) (rows_here place)

    after-steps : Steps after
    after-steps = no-feed after _ _ _ (test after (is_blank (flow_byte b)) (is_white b) (blank-is b) (goes bs after) false (to after) no (goes-to after after tt) (fails after))

    closing-steps : Steps closing
    closing-steps = test closing (is_blank (flow_byte b)) (is_white b) (blank-is b) (goes bs closing) (cond (b == 62) (goes bs after) false) (to closing) (cond (is_greater (flow_byte b)) (to after) no) (goes-to closing closing tt) (at-end closing)

    before-steps : Steps before
    before-steps =
        test before (is_blank (flow_byte b)) (is_white b) (blank-is b) _ _ _ _ (goes-to before before tt)
        (test before (begins_name (flow_byte b)) (begins_attribute b) (begins-is b) _ _ _ _ (goes-to before name tt) (at-slash before))

    name-steps : Steps name
    name-steps =
        test name (is_in_name (flow_byte b)) (goes_on_attribute b) (goes-on-is b) _ _ _ _ (goes-to name name tt)
        (test name (is_blank (flow_byte b)) (is_white b) (blank-is b) _ _ _ _ (goes-to name named tt)
        (test name (is_equals (flow_byte b)) (b == 61) (equals-is b) _ _ _ _ (goes-to name value tt) (at-slash name)))

    named-steps : Steps named
    named-steps =
        test named (is_blank (flow_byte b)) (is_white b) (blank-is b) _ _ _ _ (goes-to named named tt)
        (test named (is_equals (flow_byte b)) (b == 61) (equals-is b) _ _ _ _ (goes-to named value tt)
        (test named (begins_name (flow_byte b)) (begins_attribute b) (begins-is b) _ _ _ _ (goes-to named name tt) (at-slash named)))

    -- a quotation mark is noted
    quote-goes : (m : ℕ) → Here value (goes bs (quoted m)) (row (write (mark_becomes m) ∷ consume ∷ []) (Next HtmlFlowCompleteAttributeValueQuoted))
    quote-goes m = on (mark_becomes m (shows stack events (s ∷ (ss ++ rest)) q mark (unchanged local))) (quoted m) refl

    value-steps : Steps value
    value-steps =
        no-feed value _ _ _
        (test value (is_blank (flow_byte b)) (is_white b) (blank-is b) _ _ _ _ (goes-to value value tt)
        (test value (is_double (flow_byte b)) (b == 34) (double-is b) _ _ _ _ (quote-goes 34)
        (test value (is_single (flow_byte b)) (b == 39) (single-is b) _ _ _ _ (quote-goes 39)
        (test value (begins_no_value (flow_byte b)) (no_value b) (no-value-is b) _ _ _ _ (fails value) (goes-to value bare tt)))))

    behind-steps : Steps behind
    behind-steps = test behind (is_blank (flow_byte b)) (is_white b) (blank-is b) _ _ _ _ (goes-to behind before tt) (at-slash behind)

    bare-steps : Steps bare
    bare-steps =
        no-feed bare _ _ _
        (test bare (is_blank (flow_byte b)) (is_white b) (blank-is b) _ _ _ _ (goes-to bare before tt)
        (test bare (is_greater (flow_byte b)) (b == 62) (greater-is b) _ _ _ _ (goes-to bare after tt)
        (test bare (is_in_no_value (flow_byte b)) (no_bare b) (no-bare-is b) _ _ _ _ (fails bare) (goes-to bare bare tt))))

    quoted-steps : (m : ℕ) → local.tokenize_state.marker ≡ m → Steps (quoted m)
    quoted-steps m marks =
        let place = quoted m in
        let mark_is = mark-is g t stack events s (ss ++ rest) q mark local m here marks in
        no-feed place _ _ _
        (test place (is_quote (flow_byte b)) ((b == 34) || (b == 39)) (quote-is b) _ _ _ _
        (depends-whole 1 more (s ∷ (ss ++ rest)) previous q mark local (state_of place) at_mark (b == m) mark_is (goes bs behind) (goes bs place) (to behind) (to place) (goes-to place behind tt) (goes-to place place marks))
        (goes-to place place marks))

    steps : (place : Place) → Marks place local → Steps place
    steps after marks = after-steps
    steps slashed marks = at-end slashed
    steps closing marks = closing-steps
    steps before marks = before-steps
    steps name marks = name-steps
    steps named marks = named-steps
    steps value marks = value-steps
    steps (quoted m) marks = quoted-steps m marks
    steps behind marks = behind-steps
    steps bare marks = bare-steps

  -- from each place on
  pub tag-looks : (line rest : List Seat) (q : ℕ) → drop q t.seats ≡ line ++ rest → IsInLine line → LineEnds rest → (previous : Option ℕ) (mark : Bool) (local : Local Unit Unit) (place : Place) → Marks place local
      → Is (whole (goes (bytes_of line) place)) local (scan flow g t stack events 2 (line ++ rest) previous q mark local (state_of place))
  tag-looks [] rest q here in_line ends previous mark local place marks = line-over place rest ends previous q mark local
  tag-looks (s ∷ ss) rest q here in_line ends previous mark local place marks =
      subst (Is (whole (goes (bytes_of (s ∷ ss)) place)) local) (sym (opens place (ss ++ rest) s previous q mark local))
      (steps s ss rest previous q mark local here in_line.0
      (λ local' place' marks'. tag-looks ss rest (q + 1) (drop-next t.seats q s (ss ++ rest) here) in_line.1 ends (Some s.byte) false local' place' marks') place marks)
