-- Data of inline text, of strings and of code spans reads over the bytes that cannot end it, and so do URIs, raw HTML between marks, and values in quotes.
use Rattle.std.proofs.Common.{◌<◌, get_or}
use Rattle.std.proofs.lemmas.Bool.{and_parts, ltb-true, not-true, or_parts}
use Rattle.std.specs.List.{range_with_len}
use Rattle.std.specs.Prelude.{◌==◌, ◌+◌, zero, suc, map, nat_le, nat_lt}
use Rattle.markdown_base.specs.declared.state.TheConstants.Name.{AutolinkUrlInside, HtmlTextTagOpenAttributeValueQuoted, HtmlTextTagOpenAttributeValueQuotedAfter, RawTextData}
use Rattle.markdown_tokenizer.specs.Over.{GoesBack, NotesByte, ReadsOver, step_noted, step_over}
use Rattle.mdinline_machine.proofs.Prelude.{◌≡◌, ◌⊎◌, inl, inr, ℕ, ◌&&◌, ◌||◌, List, [], ◌∷◌, Bool, true, false, cond, Option, Some, refl, ap, ◌∙◌, subst, sym, arith, passes, exit, Retry, TextBefore, Data, Name, Next, DataInside, DataStart, Given, Configuration, Sight, sight, Step, consume, row, picked, StateRows, is_white, is_line_feed, some_begins, some_first, raw_text_data, TextByte, is_line_feed_class, text_byte, line_feed, backtick, less, backslash, ampersand, white, punctuation, line-classed, white-classed, is_white_class, begins_run, ends_data, marked_grammars, inline_constructs, inline_data, inline_data_rows, is_delimiter, inlines_rules, inlines, is_string_special, is_space, note, Constructs, data_space, data_space_rows, DataSpace, DataWhite, eqb-true}
use Rattle.mdinline_machine.proofs.RunBytes.{no-run}
use Rattle.mdconstructs_tables.proofs.Tables.Over.{picked-pairs-over, picked-read-over}
use Rattle.mdconstructs_tables.specs.Over.{PicksNoted, PicksOver}
use Rattle.mdconstructs_tables.specs.Rows.{Row, Rows, named, when, write}
use Rattle.mdinline_text_machine.proofs.Autolinks.Readings.{link-class}
use Rattle.mdinline_text_machine.specs.Autolink.{is_allowed}
use Rattle.mdinline_text_machine.specs.AutolinkRows.{autolink_url}
use Rattle.mdinline_text_machine.specs.Bytes.{is_backtick, is_greater_than}
use Rattle.mdinline_text_machine.specs.CodeSpanRows.{raw_text_data_rows}
use Rattle.mdinline_text_machine.specs.Laws.Classes.{tick-classed}
use Rattle.mdinline_text_machine.specs.TextBytes.{is_backtick_class}
use Rattle.mdinline_constructs.proofs.HtmlMarks.Picked.{look-others}
use Rattle.mdinline_constructs.proofs.HtmlTexts.Rows.{other-rows}
use Rattle.mdinline_constructs.specs.HtmlMarkedRows.{in_mark, is_mark_byte, mark_ends, mark_inside, mark_line_ends}
use Rattle.mdinline_constructs.specs.HtmlTagRows.{html_text_value_quoted, is_quote, quote_waits}
use Rattle.mdinline_constructs.specs.HtmlTextRows.{html_ends, html_goes_on, html_line_ends}
use Rattle.mdinline_constructs.specs.declared.names.TheConstants.{HtmlTextMarkClose, HtmlTextMarkInside}
use Rattle.mdinline_text_machine.specs.TextSizes.{size_b_grows}
use Rattle.mdinline_machine.proofs.BracketBytes.{begins-no-bracket}
use Rattle.mdinline_machine.proofs.InlineApart.{begins_mark, marked-classed}
use Rattle.mdinline_machine.proofs.StringReads.{string-special-classed, string_data_row}
use Rattle.mdinline_machine.proofs.ListedBytes.{first-parts}
use Rattle.mdinline_machine.specs.Beginnings.{beginnings, is_first}
use Rattle.mdinline_machine.specs.Brackets.{begins_bracket, is_of_bracket}
use Rattle.mdinline_machine.specs.Over.{is_in_code, is_in_data, is_in_marks, is_in_quotes, is_in_string, set_of}
use Rattle.mdinline_machine.specs.StringTable.{string_data}

-- a number that a test puts among those from n on passes it
among-passes : (test : ℕ → Bool) (n count k : ℕ) → get_or (map test (range_with_len n count)) k false ≡ true → test (n + k) ≡ true
among-passes test n zero k e = absurd cc
among-passes test n (suc count) zero e =
    let is : n + 0 ≡ n = omega arith in
    rw is e
among-passes test n (suc count) (suc k) e =
    let is : n + suc k ≡ (n + 1) + k = omega arith in
    rw is (among-passes test (n + 1) count k e)

-- each byte of a set is above CR and passes its test
pub set-passes : {set : List Bool} (test : ℕ → Bool) → set ≡ set_of test → (byte : ℕ) → get_or set byte false ≡ true → (13 < byte) × (test byte ≡ true)
set-passes test is byte e =
    let among = ap (λ (s : List Bool). get_or s byte false) (sym is) ∙ e in
    let at : 0 + byte ≡ byte = omega arith in
    let both = and_parts (nat_lt 13 byte) (test byte) (subst (λ (n : ℕ). (nat_lt 13 n && test n) ≡ true) at (among-passes (λ n. nat_lt 13 n && test n) 0 256 byte among)) in
    (ltb-true 13 byte both.0, both.1)

-- the state of a name reads over a byte
abbrev IsOver : Name → ℕ → Type 0
IsOver name byte = (defined : List ℕ → Bool) (g : Given) → ReadsOver g (inlines_rules defined g) name byte

-- it does if its rows in the table pick the row that consumes the byte
reads-over : (state : StateRows TextByte Unit Unit) (name : Name) (byte : ℕ) → ((defined : List ℕ → Bool) → named (inlines defined).states name ≡ Some state) → PicksOver state name text_byte byte
    → (other : Name) → other.number ≡ name.number → IsOver other byte
reads-over state name byte there over other is =
    subst (λ n. IsOver (record { number = n }) byte) (sym is)
    (λ defined g text k choices n ready holds same current.
    subst (λ n. (inlines_rules defined g).step (sight g text k) k n ≡ step_over k n) (sym same) (picked-read-over (inlines defined) state name byte (λ local. refl) (there defined) over g (sight g text k) k current))

-- ---- data of inline text

-- the classes at which it goes on, whatever the byte before: all that begin no line ending and no construct, but punctuation, with which a run may begin
data-goes-on : (w : TextByte) → (is_line_feed_class w || some_begins inline_constructs w) ≡ false → is_white_class w ≡ false
    → (w ≡ punctuation) ⊎ ((before : Option TextByte) → inline_data_rows before (Some w) ≡ row (consume ∷ []) (Next DataInside))
data-goes-on line_feed h i = absurd (cc)
data-goes-on backtick h i = absurd (cc)
data-goes-on less h i = absurd (cc)
data-goes-on backslash h i = absurd (cc)
data-goes-on ampersand h i = absurd (cc)
data-goes-on white h i = absurd (cc)
data-goes-on punctuation h i = inl refl
data-goes-on _ h i = inr (λ before. refl)

-- what no byte of data is
record IsNoMark (on : Constructs) (byte : ℕ) : Type 0 where
  pub white : is_white byte ≡ false
  pub mark : begins_mark on byte ≡ false
  pub ends : ends_data on byte ≡ false

no-mark : (on : Constructs) (byte : ℕ) → is_in_data byte ≡ true → IsNoMark on byte
no-mark on byte is =
    let (white_byte, others) = or_parts (is_white byte) (is_line_feed byte || is_first beginnings byte) (not-true _ is) in
    let (line, none_begins) = or_parts (is_line_feed byte) (is_first beginnings byte) others in
    let (marked, mark_bytes) = or_parts (some_first marked_grammars byte) (is_delimiter byte || is_of_bracket byte) (sym (first-parts byte) ∙ none_begins) in
    let (delimiter, of_bracket) = or_parts (is_delimiter byte) (is_of_bracket byte) mark_bytes in
    let run : begins_run on byte ≡ false = no-run on byte delimiter in
    let bracket = begins-no-bracket on byte of_bracket in
    let none : begins_mark on byte ≡ false = λ i. run i || bracket i in
    record { white = white_byte; mark = none; ends = λ i. line i || (marked i || none i) }

data-picks : (byte : ℕ) → is_in_data byte ≡ true → PicksOver inline_data DataInside text_byte byte
data-picks byte is before g s k current =
    let on = g.options.constructs in
    let none = no-mark on byte is in
    let ending : Row Unit Unit = record { acts = exit Data ∷ []; answer = Retry TextBefore } in
    let going : Row Unit Unit = record { acts = consume ∷ []; answer = Next DataInside } in
    elim (data-goes-on (text_byte byte) (marked-classed on byte none.mark ∙ none.ends) (white-classed byte ∙ none.white)) [
      | inl class ↦
          ap (λ w. picked (inline_data_rows before (Some w)) g s k) class ∙ ap (λ (o : Option ℕ). cond (passes (begins_run on) o || passes (begins_bracket on) o) ending going) current ∙ ap (λ t. cond t ending going) none.mark
      | inr rows ↦ ap (λ r. picked r g s k) (rows before)
    ]

pub data-over : (byte : ℕ) → is_in_data byte ≡ true → (name : Name) → name.number ≡ DataInside.number → IsOver name byte
data-over byte is = reads-over inline_data DataInside byte (λ defined. refl) (data-picks byte is)

-- ---- a space in data, and data behind it
-- at a space its place is noted
space-notes : (byte : ℕ) → is_space byte ≡ true → PicksNoted inline_data DataSpace text_byte byte
space-notes byte is before g s k current =
    let here : byte ≡ 32 = eqb-true byte 32 is in
    let one : Row Unit Unit = record { acts = note ∷ consume ∷ []; answer = Next DataSpace } in
    let other : Row Unit Unit = record { acts = note ∷ consume ∷ []; answer = Next DataWhite } in
    ap (λ b. picked (inline_data_rows before (Some (text_byte b))) g s k) here
    ∙ ap (λ (o : Option ℕ). cond (passes is_space o) one other) current ∙ ap (λ t. cond t one other) is

-- behind it data goes on at the same classes
space-goes-on : (w : TextByte) → (is_line_feed_class w || some_begins inline_constructs w) ≡ false → is_white_class w ≡ false
    → (w ≡ punctuation) ⊎ ((before : Option TextByte) → data_space_rows before (Some w) ≡ row (consume ∷ []) (Next DataInside))
space-goes-on line_feed h i = absurd (cc)
space-goes-on backtick h i = absurd (cc)
space-goes-on less h i = absurd (cc)
space-goes-on backslash h i = absurd (cc)
space-goes-on ampersand h i = absurd (cc)
space-goes-on white h i = absurd (cc)
space-goes-on punctuation h i = inl refl
space-goes-on _ h i = inr (λ before. refl)

space-picks : (byte : ℕ) → is_in_data byte ≡ true → PicksOver data_space DataInside text_byte byte
space-picks byte is before g s k current =
    let on = g.options.constructs in
    let none = no-mark on byte is in
    let staying : Row Unit Unit = record { acts = []; answer = Retry DataInside } in
    let going : Row Unit Unit = record { acts = consume ∷ []; answer = Next DataInside } in
    elim (space-goes-on (text_byte byte) (marked-classed on byte none.mark ∙ none.ends) (white-classed byte ∙ none.white)) [
      | inl class ↦
          ap (λ w. picked (data_space_rows before (Some w)) g s k) class ∙ ap (λ (o : Option ℕ). cond (passes (begins_run on) o || passes (begins_bracket on) o) staying going) current ∙ ap (λ t. cond t staying going) none.mark
      | inr rows ↦ ap (λ r. picked r g s k) (rows before)
    ]

pub space-over : (byte next : ℕ) → is_space byte ≡ true → is_in_data next ≡ true → (name : Name) → name.number ≡ DataInside.number → (defined : List ℕ → Bool) (g : Given)
    → (other : Name) × NotesByte g (inlines_rules defined g) name other byte × GoesBack g (inlines_rules defined g) other name next
space-over byte next space is name same defined g =
    let pairs = picked-pairs-over (inlines defined) inline_data data_space DataInside DataSpace byte next (λ local. refl) refl refl (space-notes byte space) (space-picks next is) g in
    subst (λ n. (other : Name) × NotesByte g (inlines_rules defined g) (record { number = n }) other byte × GoesBack g (inlines_rules defined g) other (record { number = n }) next) (sym same) (
      DataSpace,
      λ text k choices n ready holds at current. subst (λ m. (inlines_rules defined g).step (sight g text k) k m ≡ step_noted (sight g text k) k DataSpace) (sym at) ((pairs (sight g text k) k).0 current),
      λ text k choices n ready holds at current. subst (λ m. (inlines_rules defined g).step (sight g text k) k m ≡ step_over k DataInside) (sym at) ((pairs (sight g text k) k).1 current),
    )

-- ---- data of strings

string-picks : (byte : ℕ) → is_in_string byte ≡ true → PicksOver (string_data {R = Unit {0}} {D = Unit {0}}) DataStart text_byte byte
string-picks byte is before g s k current = ap (λ t. picked (string_data_row t) g s k) (string-special-classed byte ∙ not-true (is_string_special byte) is)

pub string-over : (byte : ℕ) → is_in_string byte ≡ true → (name : Name) → name.number ≡ DataStart.number → IsOver name byte
string-over byte is = reads-over string_data DataStart byte (λ defined. refl) (string-picks byte is)

-- ---- data of code spans

code-goes-on : (w : TextByte) → is_line_feed_class w ≡ false → is_backtick_class w ≡ false → (before : Option TextByte) → raw_text_data_rows {R = Unit {0}} {D = Unit {0}} before (Some w) ≡ row (consume ∷ []) (Next RawTextData)
code-goes-on line_feed h i = absurd (cc)
code-goes-on backtick h i = absurd (cc)
code-goes-on _ h i = λ before. refl

code-picks : (byte : ℕ) → is_in_code byte ≡ true → PicksOver (raw_text_data {R = Unit {0}} {D = Unit {0}}) RawTextData text_byte byte
code-picks byte is before g s k current =
    let (line, tick) = or_parts (is_line_feed byte) (is_backtick byte) (not-true _ is) in
    ap (λ r. picked r g s k) (code-goes-on (text_byte byte) (line-classed byte ∙ line) (tick-classed byte ∙ tick) before)

pub code-over : (byte : ℕ) → is_in_code byte ≡ true → (name : Name) → name.number ≡ RawTextData.number → IsOver name byte
code-over byte is = reads-over raw_text_data RawTextData byte (λ defined. refl) (code-picks byte is)

-- ---- raw HTML between marks

abbrev marks : Rows Unit Unit
marks = when in_mark (row (write size_b_grows ∷ consume ∷ []) (Next HtmlTextMarkClose)) (html_goes_on HtmlTextMarkInside)

mark-picks : (byte : ℕ) → is_in_marks byte ≡ true → PicksOver (mark_inside {R = Unit {0}} {D = Unit {0}}) HtmlTextMarkInside text_byte byte
mark-picks byte is before g s k current =
    let sizes = k.local.tokenize_state in
    let (line, others) = or_parts (is_line_feed byte) (is_greater_than byte || is_mark_byte byte) (not-true _ is) in
    let (last, other) = or_parts (is_greater_than byte) (is_mark_byte byte) others in
    let ends : mark_ends g s k ≡ false = (λ i. passes is_greater_than (current i) && nat_le sizes.size_c sizes.size_b) ∙ (λ i. last i && nat_le sizes.size_c sizes.size_b) in
    let among : in_mark g s k ≡ false = (λ i. passes (λ b. is_mark_byte b && (b == sizes.marker)) (current i)) ∙ (λ i. other i && (byte == sizes.marker)) in
    ap (λ r. picked r g s k) (look-others mark_line_ends (when mark_ends html_ends marks) before byte line)
    ∙ ap (λ t. cond t (picked html_ends g s k) (picked marks g s k)) ends
    ∙ ap (λ t. cond t (picked (row (write size_b_grows ∷ consume ∷ []) (Next HtmlTextMarkClose)) g s k) (picked (html_goes_on HtmlTextMarkInside) g s k)) among

pub mark-over : (byte : ℕ) → is_in_marks byte ≡ true → (name : Name) → name.number ≡ HtmlTextMarkInside.number → IsOver name byte
mark-over byte is = reads-over mark_inside HtmlTextMarkInside byte (λ defined. refl) (mark-picks byte is)

-- ---- values in quotes

quote-picks : (byte : ℕ) → is_in_quotes byte ≡ true → PicksOver (html_text_value_quoted {R = Unit {0}} {D = Unit {0}}) HtmlTextTagOpenAttributeValueQuoted text_byte byte
quote-picks byte is before g s k current =
    let (line, other) = or_parts (is_line_feed byte) (is_quote byte) (not-true _ is) in
    let after : Rows Unit Unit = html_goes_on HtmlTextTagOpenAttributeValueQuotedAfter in
    let inside : Rows Unit Unit = html_goes_on HtmlTextTagOpenAttributeValueQuoted in
    let waits : quote_waits g s k ≡ false = (λ i. passes (λ b. is_quote b && (b == k.local.tokenize_state.marker)) (current i)) ∙ (λ i. other i && (byte == k.local.tokenize_state.marker)) in
    ap (λ r. picked r g s k) (other-rows (html_line_ends HtmlTextTagOpenAttributeValueQuoted.number) (when quote_waits after inside) before byte line)
    ∙ ap (λ t. cond t (picked after g s k) (picked inside g s k)) waits

pub quote-over : (byte : ℕ) → is_in_quotes byte ≡ true → (name : Name) → name.number ≡ HtmlTextTagOpenAttributeValueQuoted.number → IsOver name byte
quote-over byte is = reads-over html_text_value_quoted HtmlTextTagOpenAttributeValueQuoted byte (λ defined. refl) (quote-picks byte is)

-- ---- URIs of autolinks

pub uri-over : (byte : ℕ) → is_allowed byte ≡ true → (name : Name) → name.number ≡ AutolinkUrlInside.number → IsOver name byte
uri-over byte is = reads-over autolink_url AutolinkUrlInside byte (λ defined. refl) (λ before g s k current. ap (λ r. picked r g s k) (link-class before byte is))
