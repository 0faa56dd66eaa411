-- The states of tags do at each byte what it does at their places.
use Rattle.mdinline_constructs.proofs.Prelude.{◌≡◌, ℕ, ◌==◌, ◌&&◌, arith, nat_tests, is_quote, List, [], ◌∷◌, ◌++◌, Bool, true, false, cond, Option, Some, None, refl, ap, ◌∙◌, subst, is_ascii_alphabetic, HtmlTextData, SpaceOrTab, Name, Next, Retry, Nok, HtmlTextStart, HtmlTextOpen, HtmlTextTagCloseStart, HtmlTextTagClose, HtmlTextTagCloseBetween, HtmlTextTagOpen, HtmlTextTagOpenBetween, HtmlTextTagOpenAttributeName, HtmlTextTagOpenAttributeNameAfter, HtmlTextTagOpenAttributeValueBefore, HtmlTextTagOpenAttributeValueQuoted, HtmlTextTagOpenAttributeValueQuotedAfter, HtmlTextTagOpenAttributeValueUnquoted, HtmlTextEnd, HtmlTextLineEndingAfter, HtmlTextLineEndingAfterPrefix, Configuration, Local, Step, Sight, sight, Given, Text, row_step, is_white, counts, Act, Rows, row, when, enter, exit, consume, class_of, is_greater_than, passes, TextByte, text_byte, IsAfter, after-call, HasRow, HasRows, tested, is_slash, is_equals_sign, is_double_quote, is_single_quote, is_tag_white, is_tag_name_byte, begins_attribute_name, is_attribute_name_byte, is_unquoted, quote_is, quote_waits, html_text_start_rows, html_text_open_rows, html_text_tag_close_start_rows, html_text_tag_close_rows, html_text_tag_close_between_rows, html_text_tag_open_rows, html_text_tag_open_between_rows, html_text_attribute_name_rows, html_text_attribute_name_after_rows, html_text_value_before_rows, html_text_value_quoted_rows, html_text_value_quoted_after_rows, html_text_value_unquoted_rows, html_text_end_rows, html_following, html_line_begins, html_line_ends, html_rows, sees, html_line_ending_after_rows, html_line_ending_after_prefix_rows, follows_line_ending}
use Rattle.mdinline_constructs.proofs.HtmlTexts.Pieces.{is_no_line_feed}
use Rattle.mdinline_constructs.proofs.HtmlTexts.Reads.{PlaysHtml, called, written-counts, row_of, line_row_of, wrote, Writes}
use Rattle.mdinline_constructs.proofs.HtmlTexts.Rows.{other-rows, stopped-rows, at-seen, at-cases, by-byte, followed, line-begun, ReadsWhite, white-first}
use Rattle.mdinline_constructs.proofs.HtmlTexts.Walks.{Move, refused, done, goes, never_writes}
use Rattle.mdinline_constructs.proofs.HtmlTags.Places.{Place, opened, closed, closing_name, closing, tag_name, before, name, named, value, double_quoted, single_quoted, after, bare, slashed, next, tags-go-through-lines}

-- the states of places
abbrev pub state_of : Place → Name
state_of opened = HtmlTextOpen
state_of closed = HtmlTextTagCloseStart
state_of closing_name = HtmlTextTagClose
state_of closing = HtmlTextTagCloseBetween
state_of tag_name = HtmlTextTagOpen
state_of before = HtmlTextTagOpenBetween
state_of name = HtmlTextTagOpenAttributeName
state_of named = HtmlTextTagOpenAttributeNameAfter
state_of value = HtmlTextTagOpenAttributeValueBefore
state_of double_quoted = HtmlTextTagOpenAttributeValueQuoted
state_of single_quoted = HtmlTextTagOpenAttributeValueQuoted
state_of after = HtmlTextTagOpenAttributeValueQuotedAfter
state_of bare = HtmlTextTagOpenAttributeValueUnquoted
state_of slashed = HtmlTextEnd

-- and their rows
abbrev pub rows_of : Place → (previous current : Option TextByte) → Rows Unit Unit
rows_of opened = html_text_open_rows
rows_of closed = html_text_tag_close_start_rows
rows_of closing_name = html_text_tag_close_rows
rows_of closing = html_text_tag_close_between_rows
rows_of tag_name = html_text_tag_open_rows
rows_of before = html_text_tag_open_between_rows
rows_of name = html_text_attribute_name_rows
rows_of named = html_text_attribute_name_after_rows
rows_of value = html_text_value_before_rows
rows_of double_quoted = html_text_value_quoted_rows
rows_of single_quoted = html_text_value_quoted_rows
rows_of after = html_text_value_quoted_after_rows
rows_of bare = html_text_value_unquoted_rows
rows_of slashed = html_text_end_rows

-- A machine that reads tags: its states have these rows
pub record PlaysTags (g : Given) (text : Text) (step : Sight → Configuration Unit Unit → Name → Step Unit Unit) : Type 0 where
  pub start : HasRows g text step HtmlTextStart html_text_start_rows
  pub places : (s : Place) → HasRows g text step (state_of s) (rows_of s)
  pub after_line : HasRows g text step HtmlTextLineEndingAfter html_line_ending_after_rows
  pub in_white : HasRows g text step HtmlTextLineEndingAfterPrefix html_line_ending_after_prefix_rows

-- what is known: the quotation mark of a value
abbrev pub KnowsQuote : Place → Local Unit Unit → Type 0
KnowsQuote double_quoted local = local.tokenize_state.marker ≡ 34
KnowsQuote single_quoted local = local.tokenize_state.marker ≡ 39
KnowsQuote _ local = Unit {0}

-- the places that may follow a line ending
abbrev may_follow : Place → Bool
may_follow closing = true
may_follow before = true
may_follow named = true
may_follow value = true
may_follow double_quoted = true
may_follow single_quoted = true
may_follow _ = false

-- a place follows a line ending
pub record FollowsLine (s : Place) (local : Local Unit Unit) : Type 0 where
  pub may : may_follow s ≡ true
  pub quote : KnowsQuote s local
  pub number : local.tokenize_state.marker_b ≡ (state_of s).number

-- its number is kept
abbrev pub returns_to : Place → Writes
returns_to s = Some (follows_line_ending (state_of s).number)

-- what is known of a place is not of the number of calls, nor of what follows a line ending
quote-counted : (s : Place) (local : Local Unit Unit) → KnowsQuote s local → KnowsQuote s (counts local)
quote-counted opened local h = tt
quote-counted closed local h = tt
quote-counted closing_name local h = tt
quote-counted closing local h = tt
quote-counted tag_name local h = tt
quote-counted before local h = tt
quote-counted name local h = tt
quote-counted named local h = tt
quote-counted value local h = tt
quote-counted double_quoted local h = h
quote-counted single_quoted local h = h
quote-counted after local h = tt
quote-counted bare local h = tt
quote-counted slashed local h = tt

-- what a move writes, and what is known behind it
abbrev Keeps : Place → Move Place → Type 0
Keeps s (goes w s') = (k : Configuration Unit Unit) → IsAfter 1 k.local (wrote w (called k)) × (KnowsQuote s k.local → KnowsQuote s' (wrote w (called k)))
Keeps s _ = Unit {0}

either-keeps : (s : Place) (t : Bool) (x y : Move Place) → Keeps s x → Keeps s y → Keeps s (cond t x y)
either-keeps s true x y h i = h
either-keeps s false x y h i = i

ending-keeps : (s : Place) (b : ℕ) → Keeps s (cond (is_greater_than b) done refused)
ending-keeps s b = either-keeps s (is_greater_than b) done refused tt tt

slash-keeps : (s : Place) (b : ℕ) → Keeps s (cond (is_slash b) (goes None slashed) (cond (is_greater_than b) done refused))
slash-keeps s b = either-keeps s (is_slash b) (goes None slashed) (cond (is_greater_than b) done refused) (λ k. (after-call k.local, λ h. tt)) (ending-keeps s b)

keeps : (s : Place) (b : ℕ) → Keeps s (next s b)
keeps opened b = either-keeps opened (is_slash b) _ _ (λ k. (after-call k.local, λ h. tt)) (either-keeps opened (is_ascii_alphabetic b) (goes None tag_name) refused (λ k. (after-call k.local, λ h. tt)) tt)
keeps closed b = either-keeps closed (is_ascii_alphabetic b) (goes None closing_name) refused (λ k. (after-call k.local, λ h. tt)) tt
keeps closing_name b = either-keeps closing_name (is_tag_name_byte b) _ _ (λ k. (after-call k.local, λ h. tt)) (either-keeps closing_name (is_tag_white b) _ _ (λ k. (after-call k.local, λ h. tt)) (ending-keeps closing_name b))
keeps closing b = either-keeps closing (is_tag_white b) _ _ (λ k. (after-call k.local, λ h. tt)) (ending-keeps closing b)
keeps tag_name b = either-keeps tag_name (is_tag_name_byte b) _ _ (λ k. (after-call k.local, λ h. tt)) (either-keeps tag_name (is_tag_white b) _ _ (λ k. (after-call k.local, λ h. tt)) (slash-keeps tag_name b))
keeps before b = either-keeps before (is_tag_white b) _ _ (λ k. (after-call k.local, λ h. tt)) (either-keeps before (begins_attribute_name b) _ _ (λ k. (after-call k.local, λ h. tt)) (slash-keeps before b))
keeps name b =
    either-keeps name (is_attribute_name_byte b) _ _ (λ k. (after-call k.local, λ h. tt))
    (either-keeps name (is_tag_white b) _ _ (λ k. (after-call k.local, λ h. tt)) (either-keeps name (is_equals_sign b) _ _ (λ k. (after-call k.local, λ h. tt)) (slash-keeps name b)))
keeps named b =
    either-keeps named (is_tag_white b) _ _ (λ k. (after-call k.local, λ h. tt))
    (either-keeps named (is_equals_sign b) _ _ (λ k. (after-call k.local, λ h. tt)) (either-keeps named (begins_attribute_name b) _ _ (λ k. (after-call k.local, λ h. tt)) (slash-keeps named b)))
keeps value b =
    either-keeps value (is_tag_white b) _ _ (λ k. (after-call k.local, λ h. tt))
    (either-keeps value (is_double_quote b) (goes (Some (quote_is 34)) double_quoted) _ (λ k. (written-counts k.local (wrote (Some (quote_is 34)) (called k)) refl refl, λ h. refl))
    (either-keeps value (is_single_quote b) (goes (Some (quote_is 39)) single_quoted) _ (λ k. (written-counts k.local (wrote (Some (quote_is 39)) (called k)) refl refl, λ h. refl)) (either-keeps value (is_unquoted b) (goes None bare) refused (λ k. (after-call k.local, λ h. tt)) tt)))
keeps double_quoted b = either-keeps double_quoted (b == 34) (goes None after) (goes None double_quoted) (λ k. (after-call k.local, λ h. tt)) (λ k. (after-call k.local, λ h. h))
keeps single_quoted b = either-keeps single_quoted (b == 39) (goes None after) (goes None single_quoted) (λ k. (after-call k.local, λ h. tt)) (λ k. (after-call k.local, λ h. h))
keeps after b = either-keeps after (is_tag_white b) _ _ (λ k. (after-call k.local, λ h. tt)) (slash-keeps after b)
keeps bare b = either-keeps bare (is_unquoted b) _ _ (λ k. (after-call k.local, λ h. tt)) (either-keeps bare (is_tag_white b) _ _ (λ k. (after-call k.local, λ h. tt)) (ending-keeps bare b))
keeps slashed b = ending-keeps slashed b

-- what follows a line feed
abbrev FollowsAfter : Place → Move Place → Type 0
FollowsAfter s (goes w s') = (k : Configuration Unit Unit) → KnowsQuote s k.local → FollowsLine s' (wrote (returns_to s') (called k))
FollowsAfter s _ = Unit {0}

follows-line : (s : Place) → FollowsAfter s (next s 10)
follows-line opened = tt
follows-line closed = tt
follows-line closing_name = λ k h. record { may = refl; quote = tt; number = refl }
follows-line closing = λ k h. record { may = refl; quote = tt; number = refl }
follows-line tag_name = λ k h. record { may = refl; quote = tt; number = refl }
follows-line before = λ k h. record { may = refl; quote = tt; number = refl }
follows-line name = λ k h. record { may = refl; quote = tt; number = refl }
follows-line named = λ k h. record { may = refl; quote = tt; number = refl }
follows-line value = λ k h. record { may = refl; quote = tt; number = refl }
follows-line double_quoted = λ k h. record { may = refl; quote = h; number = refl }
follows-line single_quoted = λ k h. record { may = refl; quote = h; number = refl }
follows-line after = λ k h. record { may = refl; quote = tt; number = refl }
follows-line bare = λ k h. record { may = refl; quote = tt; number = refl }
follows-line slashed = tt

module _ (g : Given) (text : Text) (step : Sight → Configuration Unit Unit → Name → Step Unit Unit) (m : PlaysTags g text step) where
  -- a step of a state
  abbrev Has : Configuration Unit Unit → Name → Rows Unit Unit → Type 0
  Has k n rows = HasRow g text step k n rows

  end-rows : (s : Place) (previous : Option TextByte) → rows_of s previous None ≡ row [] Nok
  end-rows opened previous = refl
  end-rows closed previous = refl
  end-rows closing_name previous = refl
  end-rows closing previous = refl
  end-rows tag_name previous = refl
  end-rows before previous = refl
  end-rows name previous = refl
  end-rows named previous = refl
  end-rows value previous = refl
  end-rows double_quoted previous = refl
  end-rows single_quoted previous = refl
  end-rows after previous = refl
  end-rows bare previous = refl
  end-rows slashed previous = refl

  line-rows : (s : Place) (previous : Option TextByte) → rows_of s previous (class_of text_byte (Some 10)) ≡ line_row_of state_of returns_to HtmlTextLineEndingAfter (next s 10)
  line-rows opened previous = refl
  line-rows closed previous = refl
  line-rows closing_name previous = refl
  line-rows closing previous = refl
  line-rows tag_name previous = refl
  line-rows before previous = refl
  line-rows name previous = refl
  line-rows named previous = refl
  line-rows value previous = refl
  line-rows double_quoted previous = refl
  line-rows single_quoted previous = refl
  line-rows after previous = refl
  line-rows bare previous = refl
  line-rows slashed previous = refl

  module _ (k : Configuration Unit Unit) (b : ℕ) (waits : (sight g text k).current ≡ Some b) where
    -- a value in quotes goes on, or ends
    quotes : (q : ℕ) (one other : Move Place) (previous : Option TextByte) → (b == 10) ≡ false → (is_quote b && (b == q)) ≡ (b == q) → k.local.tokenize_state.marker ≡ q
        → row_step g text k (html_rows (html_line_ends 201) (when quote_waits (row_of state_of one) (row_of state_of other)) previous (Some (text_byte b))) ≡ row_step g text k (row_of state_of (cond (b == q) one other))
    quotes q one other previous plain mark knows =
        ap (row_step g text k) (other-rows (html_line_ends 201) (when quote_waits (row_of state_of one) (row_of state_of other)) previous b plain)
        ∙ tested g text quote_waits (row_of state_of one) (row_of state_of other) k (b == q) (ap (passes (λ c. is_quote c && (c == k.local.tokenize_state.marker))) waits ∙ ap (λ m. is_quote b && (b == m)) knows ∙ mark)
        ∙ elim (b == q) as (λ t. row_step g text k (cond t (row_of state_of one) (row_of state_of other)) ≡ row_step g text k (row_of state_of (cond t one other))) [ true ↦ refl | false ↦ refl ]

    -- the bytes of each place
    byte-rows : (s : Place) (previous : Option TextByte) → (b == 10) ≡ false → KnowsQuote s k.local → row_step g text k (rows_of s previous (Some (text_byte b))) ≡ row_step g text k (row_of state_of (next s b))
    byte-rows opened previous plain knows = at-cases g text state_of k b waits (row [] Nok) ((is_slash, goes None closed) ∷ (is_ascii_alphabetic, goes None tag_name) ∷ []) previous plain
    byte-rows closed previous plain knows = at-cases g text state_of k b waits (row [] Nok) ((is_ascii_alphabetic, goes None closing_name) ∷ []) previous plain
    byte-rows closing_name previous plain knows = at-cases g text state_of k b waits (html_line_ends 195) ((is_tag_name_byte, goes None closing_name) ∷ (is_tag_white, goes None closing) ∷ (is_greater_than, done) ∷ []) previous plain
    byte-rows closing previous plain knows = at-cases g text state_of k b waits (html_line_ends 195) ((is_tag_white, goes None closing) ∷ (is_greater_than, done) ∷ []) previous plain
    byte-rows tag_name previous plain knows = at-cases g text state_of k b waits (html_line_ends 197) ((is_tag_name_byte, goes None tag_name) ∷ (is_tag_white, goes None before) ∷ (is_slash, goes None slashed) ∷ (is_greater_than, done) ∷ []) previous plain
    byte-rows before previous plain knows = at-cases g text state_of k b waits (html_line_ends 197) ((is_tag_white, goes None before) ∷ (begins_attribute_name, goes None name) ∷ (is_slash, goes None slashed) ∷ (is_greater_than, done) ∷ []) previous plain
    byte-rows name previous plain knows = at-cases g text state_of k b waits (html_line_ends 199) ((is_attribute_name_byte, goes None name) ∷ (is_tag_white, goes None named) ∷ (is_equals_sign, goes None value) ∷ (is_slash, goes None slashed) ∷ (is_greater_than, done) ∷ []) previous plain
    byte-rows named previous plain knows = at-cases g text state_of k b waits (html_line_ends 199) ((is_tag_white, goes None named) ∷ (is_equals_sign, goes None value) ∷ (begins_attribute_name, goes None name) ∷ (is_slash, goes None slashed) ∷ (is_greater_than, done) ∷ []) previous plain
    byte-rows value previous plain knows = at-cases g text state_of k b waits (html_line_ends 200) ((is_tag_white, goes None value) ∷ (is_double_quote, goes (Some (quote_is 34)) double_quoted) ∷ (is_single_quote, goes (Some (quote_is 39)) single_quoted) ∷ (is_unquoted, goes None bare) ∷ []) previous plain
    byte-rows double_quoted previous plain knows = quotes 34 (goes None after) (goes None double_quoted) previous plain (grind (arith, nat_tests)) knows
    byte-rows single_quoted previous plain knows = quotes 39 (goes None after) (goes None single_quoted) previous plain (grind (arith, nat_tests)) knows
    byte-rows after previous plain knows = at-cases g text state_of k b waits (html_line_ends 197) ((is_tag_white, goes None before) ∷ (is_slash, goes None slashed) ∷ (is_greater_than, done) ∷ []) previous plain
    byte-rows bare previous plain knows = at-cases g text state_of k b waits (html_line_ends 197) ((is_unquoted, goes None bare) ∷ (is_tag_white, goes None before) ∷ (is_greater_than, done) ∷ []) previous plain
    byte-rows slashed previous plain knows = at-cases g text state_of k b waits (row [] Nok) ((is_greater_than, done) ∷ []) previous plain

  -- data begins behind a line ending, at the place that follows
  followed-is : (k : Configuration Unit Unit) (acts : List (Act Unit Unit)) (s : Place) → may_follow s ≡ true
      → followed g text k acts html_following (state_of s).number ≡ row (acts ++ enter HtmlTextData ∷ []) (Retry (state_of s))
  followed-is k acts closing h = refl
  followed-is k acts before h = refl
  followed-is k acts named h = refl
  followed-is k acts value h = refl
  followed-is k acts double_quoted h = refl
  followed-is k acts single_quoted h = refl
  followed-is k acts opened h = absurd (cc)
  followed-is k acts closed h = absurd (cc)
  followed-is k acts closing_name h = absurd (cc)
  followed-is k acts tag_name h = absurd (cc)
  followed-is k acts name h = absurd (cc)
  followed-is k acts after h = absurd (cc)
  followed-is k acts bare h = absurd (cc)
  followed-is k acts slashed h = absurd (cc)

  module _ (n : Name) (white : Rows Unit Unit) (acts : List (Act Unit Unit)) (has : HasRows g text step n (html_rows (row [] Nok) (when (sees is_white) white (html_line_begins acts html_following)))) where
    -- behind a line ending: nothing more, white space, or data
    stops : (k : Configuration Unit Unit) → passes is_no_line_feed (sight g text k).current ≡ false → Has k n (row [] Nok)
    stops k h = has k ∙ ap (row_step g text k) (stopped-rows (when (sees is_white) white (html_line_begins acts html_following)) (class_of text_byte (sight g text k).previous) (sight g text k).current h)

    whites : ReadsWhite g text step n white
    whites =
        let others = when (sees is_white) white (html_line_begins acts html_following) in
        white-first g text step n (html_rows (row [] Nok) others) white (html_line_begins acts html_following) has (other-rows (row [] Nok) others)

    begins : (s : Place) (k : Configuration Unit Unit) (b : ℕ) → (sight g text k).current ≡ Some b → (b == 10) ≡ false → is_white b ≡ false → FollowsLine s k.local
        → Has k n (row (acts ++ enter HtmlTextData ∷ []) (Retry (state_of s)))
    begins s k b waits plain w follows =
        at-seen g text step n (html_rows (row [] Nok) (when (sees is_white) white (html_line_begins acts html_following))) (when (sees is_white) white (html_line_begins acts html_following)) k (Some b) has waits
        (other-rows (row [] Nok) (when (sees is_white) white (html_line_begins acts html_following)) (class_of text_byte (sight g text k).previous) b plain)
        ∙ by-byte g text k is_white white (html_line_begins acts html_following) b false waits w
        ∙ line-begun g text k acts html_following (state_of s).number follows.number ∙ ap (row_step g text k) (followed-is k acts s follows.may)

  -- So it reads raw HTML
  pub plays-html : PlaysHtml g text step next state_of returns_to never_writes HtmlTextLineEndingAfter HtmlTextLineEndingAfterPrefix (λ s q local. KnowsQuote s local) FollowsLine
  plays-html = record {
    through = tags-go-through-lines;
    kept = λ s s' b w is k. let it = subst (Keeps s) is (keeps s b) k in it.1;
    follows = λ s s' w is q k h. let it = subst (FollowsAfter s) is (follows-line s) k h in it;
    after_move = λ s s' b w is k. let it = subst (Keeps s) is (keeps s b) k in it.0;
    after_return = λ s k. written-counts k.local (wrote (returns_to s) (called k)) refl refl;
    counted = λ s local f. record { may = f.may; quote = quote-counted s local f.quote; number = f.number };
    known = λ s q local f. f.quote;
    at_end = λ s k waits knows. at-seen g text step (state_of s) (rows_of s) (row [] Nok) k None (m.places s) waits (end-rows s (class_of text_byte (sight g text k).previous));
    at_line = λ s k waits. at-seen g text step (state_of s) (rows_of s) (line_row_of state_of returns_to HtmlTextLineEndingAfter (next s 10)) k (Some 10) (m.places s) waits
        (line-rows s (class_of text_byte (sight g text k).previous));
    at_byte = λ s b k waits plain knows. at-seen g text step (state_of s) (rows_of s) (rows_of s (class_of text_byte (sight g text k).previous) (Some (text_byte b))) k (Some b) (m.places s) waits refl
        ∙ byte-rows k b waits s (class_of text_byte (sight g text k).previous) plain knows;
    after_stops = λ s k h f. stops HtmlTextLineEndingAfter (row (enter SpaceOrTab ∷ consume ∷ []) (Next HtmlTextLineEndingAfterPrefix)) [] m.after_line k h;
    after_white = whites HtmlTextLineEndingAfter (row (enter SpaceOrTab ∷ consume ∷ []) (Next HtmlTextLineEndingAfterPrefix)) [] m.after_line;
    after_begins = begins HtmlTextLineEndingAfter (row (enter SpaceOrTab ∷ consume ∷ []) (Next HtmlTextLineEndingAfterPrefix)) [] m.after_line;
    prefix_stops = λ s k h f. stops HtmlTextLineEndingAfterPrefix (row (consume ∷ []) (Next HtmlTextLineEndingAfterPrefix)) (exit SpaceOrTab ∷ []) m.in_white k h;
    prefix_white = whites HtmlTextLineEndingAfterPrefix (row (consume ∷ []) (Next HtmlTextLineEndingAfterPrefix)) (exit SpaceOrTab ∷ []) m.in_white;
    prefix_begins = begins HtmlTextLineEndingAfterPrefix (row (consume ∷ []) (Next HtmlTextLineEndingAfterPrefix)) (exit SpaceOrTab ∷ []) m.in_white;
  }
