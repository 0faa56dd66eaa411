-- The machine of inline text reads white space by the rows of its states.
use Rattle.markdown_tokenizer.specs.Sight.{sight_of}
use Rattle.mdinline_machine.proofs.Prelude.{List, TokenizerValue, step_by, ◌≡◌, ◌⊎◌, inl, inr, ℕ, ◌&&◌, ◌||◌, [], ◌∷◌, Bool, true, false, cond, Option, Some, None, refl, sym, ap, ◌∙◌, Constructs, Next, Retry, DataInside, TextBefore, DataWhite, Configuration, sight, Given, Text, Rows, class_of, consume, row, is_white, row_step, is_line_feed, passes, some_begins, TextByte, is_line_feed_class, line_feed, punctuation, text_byte, white, line-classed, HasRow, Plays, tested, white-class, ends_data, inline_before_rows, inline_constructs, inline_data_rows, not, subst, eqb-true, EventName, HardBreakTrailing, SpaceOrTab, Name, note, is_space, by-class, break_or_white, data_goes_on, data_over, data_space_rows, data_spaces_rows, data_white_rows, text_space_rows, text_spaces_rows, text_white_rows, white_is_data, white_over, space_waits, trailing_breaks_are_on, some_first, marked_grammars, DataSpace, DataSpaces, TextSpace, TextSpaces, TextWhite, when}
use Rattle.std.specs.Prelude.{is_some}
use Rattle.std.proofs.lemmas.Bool.{or_parts}
use Rattle.mdinline_machine.specs.BracketRows.{mark_begins}
use Rattle.mdinline_text_machine.specs.TextBytes as class
use Rattle.mdinline_machine.proofs.InlineApart.{begins_mark, marked-classed, punctuation-ends}
use Rattle.mdinline_machine.proofs.Playing.{data-ends, data-ends-last, data-on, inlines_play, marks-here, no-mark}
use Rattle.mdinline_machine.proofs.WhiteBytes.{White, one_space, spaces, tabbed, breaks_line, first_white, further, white_name}
use Rattle.mdinline_machine.proofs.WhiteReads.{BeginsNoted, EndsData, MakesWhite, NotesTo, PlaysWhite, ReadsTo, ends_line}

-- the names of the states in white space: with no data before it, and in data
abbrev pub text_name : White → Name
text_name one_space = TextSpace
text_name spaces = TextSpaces
text_name tabbed = TextWhite

abbrev pub data_name : White → Name
data_name one_space = DataSpace
data_name spaces = DataSpaces
data_name tabbed = DataWhite

-- and their rows
abbrev text_rows : White → (previous current : Option TextByte) → Rows Unit Unit
text_rows one_space = text_space_rows
text_rows spaces = text_spaces_rows
text_rows tabbed = text_white_rows

abbrev rows_in_data : White → (previous current : Option TextByte) → Rows Unit Unit
rows_in_data one_space = data_space_rows
rows_in_data spaces = data_spaces_rows
rows_in_data tabbed = data_white_rows

-- what holds of the classes of bytes but white space and line endings
other-class : (P : TextByte → Type 0) (b : ℕ) → is_white b ≡ false → is_line_feed b ≡ false → P class.backtick → P class.less → P class.greater → P class.backslash → P class.colon → P class.letter → P class.digit → P class.mark → P class.ampersand → P punctuation → P class.blank
    → P class.other
    → P (text_byte b)
other-class P b none line a_tick a_less a_greater a_backslash a_colon a_letter a_digit a_mark an_ampersand a_punctuation a_blank another =
    by-class P b (λ e. (let no : true ≡ false = sym e ∙ line in absurd (cc))) (λ e. a_tick) (λ e. a_less) (λ e. a_greater) (λ e. a_backslash) (λ e. a_colon) (λ e. a_letter) (λ e f. a_digit) (λ e. a_mark) (λ e. an_ampersand)
    (λ e. (let no : true ≡ false = sym e ∙ none in absurd (cc))) (λ o e. a_punctuation) (λ o e. a_blank) (λ o n e. another)

-- at a byte that goes on in the line it was data
text-other : (w : White) (before : Option TextByte) (b : ℕ) → is_white b ≡ false → is_line_feed b ≡ false → text_rows w before (Some (text_byte b)) ≡ white_is_data
text-other one_space before b none line = other-class (λ c. text_space_rows before (Some c) ≡ white_is_data) b none line refl refl refl refl refl refl refl refl refl refl refl refl
text-other spaces before b none line = other-class (λ c. text_spaces_rows before (Some c) ≡ white_is_data) b none line refl refl refl refl refl refl refl refl refl refl refl refl
text-other tabbed before b none line = other-class (λ c. text_white_rows before (Some c) ≡ white_is_data) b none line refl refl refl refl refl refl refl refl refl refl refl refl

in-data-other : (w : White) (before : Option TextByte) (b : ℕ) → is_white b ≡ false → is_line_feed b ≡ false → rows_in_data w before (Some (text_byte b)) ≡ data_goes_on (text_byte b)
in-data-other one_space before b none line = other-class (λ c. data_space_rows before (Some c) ≡ data_goes_on c) b none line refl refl refl refl refl refl refl refl refl refl refl refl
in-data-other spaces before b none line = other-class (λ c. data_spaces_rows before (Some c) ≡ data_goes_on c) b none line refl refl refl refl refl refl refl refl refl refl refl refl
in-data-other tabbed before b none line = other-class (λ c. data_white_rows before (Some c) ≡ data_goes_on c) b none line refl refl refl refl refl refl refl refl refl refl refl refl

-- so it is the step of a state with no data before it
at-other : (w : White) (before : Option TextByte) (o : Option ℕ) → is_some o ≡ true → passes is_white o ≡ false → passes is_line_feed o ≡ false → text_rows w before (class_of text_byte o) ≡ white_is_data
at-other w before None some none line = absurd (cc)
at-other w before (Some b) some none line = text-other w before b none line

pub noted-step : {M : Type 0} (w : White) (t : TokenizerValue M Unit Unit) → is_some (sight_of t).current ≡ true → passes is_white (sight_of t).current ≡ false → passes is_line_feed (sight_of t).current ≡ false
    → step_by (text_rows w (class_of text_byte (sight_of t).previous) (class_of text_byte (sight_of t).current)) t ≡ step_by white_is_data t
noted-step w t some none line = ap (λ rows. step_by rows t) (at-other w (class_of text_byte (sight_of t).previous) (sight_of t).current some none line)

-- and of a state in data
pub seen-step : {M : Type 0} (w : White) (t : TokenizerValue M Unit Unit) (b : ℕ) → (sight_of t).current ≡ Some b → is_white b ≡ false → is_line_feed b ≡ false
    → step_by (rows_in_data w (class_of text_byte (sight_of t).previous) (class_of text_byte (sight_of t).current)) t ≡ step_by (data_goes_on (text_byte b)) t
seen-step w t b at none line =
    let before = class_of text_byte (sight_of t).previous in
    ap (λ rows. step_by rows t) (ap (λ o. rows_in_data w before (class_of text_byte o)) at ∙ in-data-other w before b none line)

-- and data goes on, unless something else may begin there
abbrev pub goes_unless : Bool → Rows Unit Unit
goes_unless special = cond special (row [] (Retry DataInside)) (row (consume ∷ []) (Next DataInside))

pub goes-class : (w : TextByte) → (w ≡ punctuation) ⊎ ((w ≡ punctuation → ⊥) × (data_goes_on w ≡ goes_unless (some_begins inline_constructs w)))
goes-class punctuation = inl refl
goes-class _ = inr ((λ e. absurd (cc)), refl)

line-so : (b : ℕ) → ends_line (Some b) ≡ true → is_line_feed b ≡ true
line-so b h = elim (is_line_feed b) as (λ t. not (not t) ≡ true → t ≡ true) [ true ↦ λ i. refl | false ↦ λ i. i ] h

module _ (defined : List ℕ → Bool) (g : Given) (text : Text) where
  abbrev m : Plays g text
  m = inlines_play defined g text

  abbrev on : Constructs
  on = g.options.constructs

  abbrev class_behind : Configuration Unit Unit → Option TextByte
  class_behind k = class_of text_byte (sight g text k).previous

  -- rows that a state has at what waits
  seen-rows : (k : Configuration Unit Unit) (rows : (previous current : Option TextByte) → Rows Unit Unit) (o : Option ℕ) → (sight g text k).current ≡ o
      → row_step g text k (rows (class_behind k) (class_of text_byte (sight g text k).current)) ≡ row_step g text k (rows (class_behind k) (class_of text_byte o))
  seen-rows k rows o at = ap (λ o. row_step g text k (rows (class_behind k) (class_of text_byte o))) at

  white-rows : (k : Configuration Unit Unit) (rows : (previous current : Option TextByte) → Rows Unit Unit) (b : ℕ) → (sight g text k).current ≡ Some b → is_white b ≡ true
      → row_step g text k (rows (class_behind k) (class_of text_byte (sight g text k).current)) ≡ row_step g text k (rows (class_behind k) (Some white))
  white-rows k rows b at is = seen-rows k rows (Some b) at ∙ ap (λ w. row_step g text k (rows (class_behind k) (Some w))) (white-class b is)

  -- of two rows one is for a space, and the other for a tab
  space-picks : (k : Configuration Unit Unit) (one other : Rows Unit Unit) (b : ℕ) (t : Bool) → (sight g text k).current ≡ Some b → is_space b ≡ t → row_step g text k (when space_waits one other) ≡ row_step g text k (cond t one other)
  space-picks k one other b t at is = tested g text space_waits one other k t (ap (passes is_space) at ∙ is)

  -- the place is noted at a space, or at a tab
  notes : (k : Configuration Unit Unit) (name : Name) (rows : (previous current : Option TextByte) → Rows Unit Unit) (names : White → Name) → HasRow g text m.step k name (rows (class_behind k) (class_of text_byte (sight g text k).current))
      → rows (class_behind k) (Some white) ≡ when space_waits (row (note ∷ consume ∷ []) (Next (names one_space))) (row (note ∷ consume ∷ []) (Next (names tabbed))) → (b : ℕ) → (sight g text k).current ≡ Some b → is_white b ≡ true
      → NotesTo g text m k name (names (first_white b))
  notes k name rows names has so b at is =
      let one = row (note ∷ consume ∷ []) (Next (names one_space)) in
      let other = row (note ∷ consume ∷ []) (Next (names tabbed)) in
      let all = has ∙ white-rows k rows b at is ∙ ap (row_step g text k) so in
      elim (is_space b) as (λ t. is_space b ≡ t → NotesTo g text m k name (names (cond t one_space tabbed))) [
        | true ↦ λ e. all ∙ space-picks k one other b true at e
        | false ↦ λ e. all ∙ space-picks k one other b false at e
      ] refl

  -- behind spaces a space or a tab is read
  reads-space : (k : Configuration Unit Unit) (name : Name) (rows : (previous current : Option TextByte) → Rows Unit Unit) (names : White → Name) → HasRow g text m.step k name (rows (class_behind k) (class_of text_byte (sight g text k).current))
      → rows (class_behind k) (Some white) ≡ when space_waits (row (consume ∷ []) (Next (names spaces))) (row (consume ∷ []) (Next (names tabbed))) → (b : ℕ) → (sight g text k).current ≡ Some b → is_white b ≡ true
      → ReadsTo g text m k name (names (cond (is_space b) spaces tabbed))
  reads-space k name rows names has so b at is =
      let one = row (consume ∷ []) (Next (names spaces)) in
      let other = row (consume ∷ []) (Next (names tabbed)) in
      let all = has ∙ white-rows k rows b at is ∙ ap (row_step g text k) so in
      elim (is_space b) as (λ t. is_space b ≡ t → ReadsTo g text m k name (names (cond t spaces tabbed))) [
        | true ↦ λ e. all ∙ space-picks k one other b true at e
        | false ↦ λ e. all ∙ space-picks k one other b false at e
      ] refl

  text-on : (w : White) (k : Configuration Unit Unit) (b : ℕ) → (sight g text k).current ≡ Some b → is_white b ≡ true → ReadsTo g text m k (text_name w) (text_name (further w (is_space b)))
  text-on one_space k b at is = reads-space k TextSpace text_space_rows text_name refl refl b at is
  text-on spaces k b at is = reads-space k TextSpaces text_spaces_rows text_name refl refl b at is
  text-on tabbed k b at is = white-rows k text_white_rows b at is

  in-data-on : (w : White) (k : Configuration Unit Unit) (b : ℕ) → (sight g text k).current ≡ Some b → is_white b ≡ true → ReadsTo g text m k (data_name w) (data_name (further w (is_space b)))
  in-data-on one_space k b at is = reads-space k DataSpace data_space_rows data_name refl refl b at is
  in-data-on spaces k b at is = reads-space k DataSpaces data_spaces_rows data_name refl refl b at is
  in-data-on tabbed k b at is = white-rows k data_white_rows b at is

  -- before a line ending
  at-line : (k : Configuration Unit Unit) (rows : (previous current : Option TextByte) → Rows Unit Unit) (b : ℕ) → (sight g text k).current ≡ Some b → is_line_feed b ≡ true
      → row_step g text k (rows (class_behind k) (class_of text_byte (sight g text k).current)) ≡ row_step g text k (rows (class_behind k) (Some line_feed))
  at-line k rows b at line = seen-rows k rows (Some b) at ∙ ap (λ c. row_step g text k (rows (class_behind k) (Some (text_byte c)))) (eqb-true b 10 line)

  -- spaces are a hard break there, if those are on
  break-picks : (k : Configuration Unit Unit) (over : EventName → Rows Unit Unit) (t : Bool) → on.hard_break_trailing ≡ t → row_step g text k (break_or_white over) ≡ row_step g text k (cond t (over HardBreakTrailing) (over SpaceOrTab))
  break-picks k over t is = tested g text trailing_breaks_are_on (over HardBreakTrailing) (over SpaceOrTab) k t is

  text-ends : (w : White) (k : Configuration Unit Unit) (o : Option ℕ) → (sight g text k).current ≡ o → ends_line o ≡ true → MakesWhite g text m k (text_name w) (white_name (breaks_line on w (passes is_line_feed o)))
  text-ends one_space k None at ends = seen-rows k text_space_rows None at
  text-ends one_space k (Some b) at ends = at-line k text_space_rows b at (line-so b ends)
  text-ends spaces k None at ends = seen-rows k text_spaces_rows None at
  text-ends spaces k (Some b) at ends =
      let line = line-so b ends in
      subst (λ t. MakesWhite g text m k TextSpaces (white_name (t && on.hard_break_trailing))) (sym line)
      (elim on.hard_break_trailing as (λ t. on.hard_break_trailing ≡ t → MakesWhite g text m k TextSpaces (white_name t)) [
        | true ↦ λ e. at-line k text_spaces_rows b at line ∙ break-picks k white_over true e
        | false ↦ λ e. at-line k text_spaces_rows b at line ∙ break-picks k white_over false e
      ] refl)
  text-ends tabbed k None at ends = seen-rows k text_white_rows None at
  text-ends tabbed k (Some b) at ends = at-line k text_white_rows b at (line-so b ends)

  in-data-ends : (w : White) (k : Configuration Unit Unit) (o : Option ℕ) → (sight g text k).current ≡ o → ends_line o ≡ true → EndsData g text m k (data_name w) (white_name (breaks_line on w (passes is_line_feed o)))
  in-data-ends one_space k None at ends = seen-rows k data_space_rows None at
  in-data-ends one_space k (Some b) at ends = at-line k data_space_rows b at (line-so b ends)
  in-data-ends spaces k None at ends = seen-rows k data_spaces_rows None at
  in-data-ends spaces k (Some b) at ends =
      let line = line-so b ends in
      subst (λ t. EndsData g text m k DataSpaces (white_name (t && on.hard_break_trailing))) (sym line)
      (elim on.hard_break_trailing as (λ t. on.hard_break_trailing ≡ t → EndsData g text m k DataSpaces (white_name t)) [
        | true ↦ λ e. at-line k data_spaces_rows b at line ∙ break-picks k data_over true e
        | false ↦ λ e. at-line k data_spaces_rows b at line ∙ break-picks k data_over false e
      ] refl)
  in-data-ends tabbed k None at ends = seen-rows k data_white_rows None at
  in-data-ends tabbed k (Some b) at ends = at-line k data_white_rows b at (line-so b ends)

  text-goes-on : (w : White) (k : Configuration Unit Unit) (b : ℕ) → (sight g text k).current ≡ Some b → is_white b ≡ false → is_line_feed b ≡ false → BeginsNoted g text m k (text_name w)
  text-goes-on one_space k b at none line = seen-rows k text_space_rows (Some b) at ∙ ap (row_step g text k) (text-other one_space (class_behind k) b none line)
  text-goes-on spaces k b at none line = seen-rows k text_spaces_rows (Some b) at ∙ ap (row_step g text k) (text-other spaces (class_behind k) b none line)
  text-goes-on tabbed k b at none line = seen-rows k text_white_rows (Some b) at ∙ ap (row_step g text k) (text-other tabbed (class_behind k) b none line)

  in-data-seen : (w : White) (k : Configuration Unit Unit) (b : ℕ) → (sight g text k).current ≡ Some b → is_white b ≡ false → is_line_feed b ≡ false → m.step (sight g text k) k (data_name w) ≡ row_step g text k (data_goes_on (text_byte b))
  in-data-seen one_space k b at none line = seen-rows k data_space_rows (Some b) at ∙ ap (row_step g text k) (in-data-other one_space (class_behind k) b none line)
  in-data-seen spaces k b at none line = seen-rows k data_spaces_rows (Some b) at ∙ ap (row_step g text k) (in-data-other spaces (class_behind k) b none line)
  in-data-seen tabbed k b at none line = seen-rows k data_white_rows (Some b) at ∙ ap (row_step g text k) (in-data-other tabbed (class_behind k) b none line)

  -- a byte that goes on in data, or may begin something else
  data-goes : (k : Configuration Unit Unit) (b : ℕ) (t : Bool) → (sight g text k).current ≡ Some b → is_line_feed b ≡ false → ends_data on b ≡ t → row_step g text k (data_goes_on (text_byte b)) ≡ row_step g text k (goes_unless t)
  data-goes k b t at line ends =
      elim (goes-class (text_byte b)) [
        | inl is ↦
            ap (λ w. row_step g text k (data_goes_on w)) is
            ∙ tested g text mark_begins (row [] (Retry DataInside)) (row (consume ∷ []) (Next DataInside)) k t (marks-here defined g text k b t at (sym (punctuation-ends on b is) ∙ ends))
        | inr (other, rows) ↦
            let marked : some_begins inline_constructs (text_byte b) ≡ (is_line_feed_class (text_byte b) || some_begins inline_constructs (text_byte b)) = sym (ap (λ t. t || some_begins inline_constructs (text_byte b)) (line-classed b ∙ line)) in
            ap (row_step g text k) (rows ∙ ap goes_unless (marked ∙ marked-classed on b (no-mark defined g text b other) ∙ ends))
      ]

  -- the machine reads white space so
  pub inlines_play_white : PlaysWhite g text m text_name data_name
  inlines_play_white = record {
    plain_begins = λ k b at is. notes k TextBefore inline_before_rows text_name refl refl b at is;
    data_begins = λ k b at is. notes k DataInside inline_data_rows data_name refl refl b at is;
    plain_on = text-on;
    data_on = in-data-on;
    plain_ends = text-ends;
    data_ends = in-data-ends;
    plain_other = text-goes-on;
    data_special = λ w k b at none line ends. in-data-seen w k b at none line ∙ data-goes k b true at line ends;
    inside_on = λ k b at none ends. data-on defined g text k b at none ends;
    inside_ends = λ k b at none ends. data-ends defined g text k b at none ends;
    inside_ends_last = λ k at. data-ends-last defined g text k at;
    data_other = λ w k b at none ends.
        let line : is_line_feed b ≡ false = (or_parts (is_line_feed b) (some_first marked_grammars b || begins_mark on b) ends).0 in
        in-data-seen w k b at none line ∙ data-goes k b false at line ends;
  }
