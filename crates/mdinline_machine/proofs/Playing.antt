-- The machine of inline text does what the rows of constructs say; and between them what bytes say.
use Rattle.std.proofs.lemmas.Bool.{or_parts}
use Rattle.markdown_base.proofs.Common.{and-right}
use Rattle.mdinline_machine.proofs.Prelude.{List, ◌≡◌, ◌⊎◌, inl, inr, ℕ, zero, suc, ◌==◌, ◌&&◌, ◌||◌, [], ◌∷◌, Bool, true, false, cond, Option, Some, None, refl, sym, ap, ◌∙◌, arith, nat_tests, Constructs, Data, LineEnding, Next, Retry, AttentionStart, DataInside, TextBefore, TextBeforeData, TextLineStart, with_local, Configuration, sight, Given, Text, Rows, class_of, consume, enter, exit, row, is_white, counts, row_step, is_line_feed, passes, between_texts, some_begins, tried_at, TextByte, is_line_feed_class, line_feed, punctuation, text_byte, white, PlaysCodeSpans, remembering, line-classed, BeginsData, HasRow, HasRows, Plays, tested, PlaysEmails, MarkPlace, at_cdata, at_comment, at_declaration, at_inside, at_open, mark_name, PlaysMarks, mark_rows, Place, PlaysTags, rows_of, state_of, PlaysBreakEscapes, PlaysReferences, between-remembered, code_memory, opening-remembered, white-classed, is_white_class, begins_run, ends_data, inline_before_rows, inline_constructs, inline_data_rows, is_delimiter, run_begins, and-false, eqb-true, reverse, Attempt, choose, when, begins_bracket, begins_end, begins_image, begins_link, is_of_bracket}
use Rattle.mdinline_machine.proofs.RunBytes.{no-run, run-delimits}
use Rattle.markdown_base.specs.declared.state.TheConstants.Name.{LabelEndNok, LabelEndOk, LabelEndStart, LabelStartImageStart, LabelStartLinkStart}
use Rattle.mdinline_full_references.proofs.FullReferences.Steps.{PlaysReferences as PlaysFullReferences}
use Rattle.mdinline_link_tails.proofs.Resources.Steps.{PlaysResources}
use Rattle.mdinline_machine.specs.declared.names.TheConstants.{LabelEndNotResource}
use Rattle.mdinline_machine.specs.BracketRows.{bracket_rows, end_is_awaited, end_may_make, image_begins, kept_starts, label_is_wanted, link_begins, mark_begins, may_make, one_waits}
use Rattle.mdinline_constructs.proofs.HtmlTags.Places as place
use Rattle.mdinline_constructs.proofs.RememberedCode.Lines.{PlaysCodeLines}
use Rattle.mdinline_machine.proofs.Counted.{counted_step}
use Rattle.mdinline_machine.proofs.InlineApart.{begins_mark, marked-classed, punctuation-ends}

-- between constructs a run may begin at punctuation, a line ends at a line feed, and white space is read; at the other classes constructs are tried
pub before-class : (w : TextByte) → (w ≡ punctuation) ⊎ ((w ≡ line_feed) ⊎ ((w ≡ white) ⊎ ((before : Option TextByte) → inline_before_rows before (Some w) ≡ tried_at between_texts inline_constructs w)))
before-class punctuation = inl refl
before-class line_feed = inr (inl refl)
before-class white = inr (inr (inl refl))
before-class _ = inr (inr (inr (λ before. refl)))

-- in data the place is noted at white space, and a run may begin at punctuation; at the other classes data ends or goes on
abbrev pub ends_or_goes : Bool → Rows Unit Unit
ends_or_goes ends = cond ends (row (exit Data ∷ []) (Retry TextBefore)) (row (consume ∷ []) (Next DataInside))

pub data-class : (w : TextByte)
    → (w ≡ punctuation) ⊎ ((w ≡ white) ⊎ ((w ≡ punctuation → ⊥) × ((before : Option TextByte) → inline_data_rows before (Some w) ≡ ends_or_goes (is_line_feed_class w || some_begins inline_constructs w))))
data-class punctuation = inl refl
data-class white = inr (inl refl)
data-class _ = inr (inr ((λ e. absurd (cc)), (λ before. refl)))

-- delimiters are punctuation, and punctuation begins nothing else
delimiter-class : (b : ℕ) → is_delimiter b ≡ true → text_byte b ≡ punctuation
delimiter-class b h = elim (b == 42) as (λ t. (b == 42) ≡ t → (t || ((b == 95) || ((b == 126) || false))) ≡ true → text_byte b ≡ punctuation) [
  | true ↦ λ e i. ap text_byte (eqb-true b 42 e)
  | false ↦ λ e i. elim (b == 95) as (λ t. (b == 95) ≡ t → (t || ((b == 126) || false)) ≡ true → text_byte b ≡ punctuation) [
    | true ↦ λ e i. ap text_byte (eqb-true b 95 e)
    | false ↦ λ e i. let same : b ≡ 126 = grind (arith, nat_tests) in ap text_byte same
  ] refl i
] refl h

-- brackets and ends begin at bytes of their own, which are punctuation and no delimiters
bracket-class : (b : ℕ) → is_of_bracket b ≡ true → text_byte b ≡ punctuation
bracket-class b h = elim (b == 91) as (λ t. (b == 91) ≡ t → (t || ((b == 33) || (b == 93))) ≡ true → text_byte b ≡ punctuation) [
  | true ↦ λ e i. ap text_byte (eqb-true b 91 e)
  | false ↦ λ e i. elim (b == 33) as (λ t. (b == 33) ≡ t → (t || (b == 93)) ≡ true → text_byte b ≡ punctuation) [
    | true ↦ λ e i. ap text_byte (eqb-true b 33 e)
    | false ↦ λ e i. ap text_byte (eqb-true b 93 i)
  ] refl i
] refl h

module _ (on : Constructs) (b : ℕ) where
  pub link-so : begins_link on b ≡ true → is_of_bracket b ≡ true
  link-so is = ap (λ c. is_of_bracket c) (eqb-true b 91 (and-right on.label_start_link (b == 91) is))

  pub image-so : begins_image on b ≡ true → is_of_bracket b ≡ true
  image-so is = ap (λ c. is_of_bracket c) (eqb-true b 33 (and-right on.label_start_image (b == 33) is))

  pub end-so : begins_end on b ≡ true → is_of_bracket b ≡ true
  end-so is = ap (λ c. is_of_bracket c) (eqb-true b 93 (and-right on.label_end (b == 93) is))

  pub bracket-so : begins_bracket on b ≡ true → is_of_bracket b ≡ true
  bracket-so is = elim (begins_link on b) as (λ t. begins_link on b ≡ t → (t || (begins_image on b || begins_end on b)) ≡ true → is_of_bracket b ≡ true) [
    | true ↦ λ e i. link-so e
    | false ↦ λ e i. elim (begins_image on b) as (λ t. begins_image on b ≡ t → (t || begins_end on b) ≡ true → is_of_bracket b ≡ true) [
      | true ↦ λ e i. image-so e
      | false ↦ λ e i. end-so i
    ] refl i
  ] refl is

  image-no-link : begins_image on b ≡ true → begins_link on b ≡ false
  image-no-link is = ap (begins_link on) (eqb-true b 33 (and-right on.label_start_image (b == 33) is)) ∙ and-false on.label_start_link

  pub image-no-end : begins_image on b ≡ true → begins_end on b ≡ false
  image-no-end is = ap (begins_end on) (eqb-true b 33 (and-right on.label_start_image (b == 33) is)) ∙ and-false on.label_end

  end-no-link : begins_end on b ≡ true → begins_link on b ≡ false
  end-no-link is = ap (begins_link on) (eqb-true b 93 (and-right on.label_end (b == 93) is)) ∙ and-false on.label_start_link

  end-no-image : begins_end on b ≡ true → begins_image on b ≡ false
  end-no-image is = ap (begins_image on) (eqb-true b 93 (and-right on.label_end (b == 93) is)) ∙ and-false on.label_start_image

  pub no-run-there : is_of_bracket b ≡ true → begins_run on b ≡ false
  no-run-there is = no-run on b (grind (arith, nat_tests))

  mark-class : begins_mark on b ≡ true → text_byte b ≡ punctuation
  mark-class is = elim (begins_run on b) as (λ t. begins_run on b ≡ t → (t || begins_bracket on b) ≡ true → text_byte b ≡ punctuation) [
    | true ↦ λ e i. delimiter-class b (run-delimits on b e)
    | false ↦ λ e i. bracket-class b (bracket-so i)
  ] refl is

module _ (defined : List ℕ → Bool) (g : Given) (text : Text) where
  abbrev on : Constructs
  on = g.options.constructs

  -- the class of the byte before
  abbrev behind : Configuration Unit Unit → Option TextByte
  behind k = class_of text_byte (sight g text k).previous

  -- whether a run begins is said by the byte that waits
  pub begins-here : (k : Configuration Unit Unit) (b : ℕ) (t : Bool) → (sight g text k).current ≡ Some b → begins_run on b ≡ t → run_begins g (sight g text k) (with_local k (counts k.local)) ≡ t
  begins-here k b t at is = ap (passes (begins_run on)) at ∙ is

  pub marks-here : (k : Configuration Unit Unit) (b : ℕ) (t : Bool) → (sight g text k).current ≡ Some b → begins_mark on b ≡ t → mark_begins g (sight g text k) (with_local k (counts k.local)) ≡ t
  marks-here k b t at is = ap (λ o. passes (begins_run on) o || passes (begins_bracket on) o) at ∙ is

  -- so are brackets and ends
  pub link-is : (k : Configuration Unit Unit) (b : ℕ) (t : Bool) → (sight g text k).current ≡ Some b → begins_link on b ≡ t → link_begins g (sight g text k) (with_local k (counts k.local)) ≡ t
  link-is k b t at is = ap (passes (begins_link on)) at ∙ is

  pub image-is : (k : Configuration Unit Unit) (b : ℕ) (t : Bool) → (sight g text k).current ≡ Some b → begins_image on b ≡ t → image_begins g (sight g text k) (with_local k (counts k.local)) ≡ t
  image-is k b t at is = ap (passes (begins_image on)) at ∙ is

  -- an end may make something, or is waited for, by the brackets that are kept
  pub makes-is : (k : Configuration Unit Unit) (b : ℕ) (t : Bool) → (sight g text k).current ≡ Some b → begins_end on b ≡ t
      → end_may_make g (sight g text k) (with_local k (counts k.local)) ≡ (t && may_make (reverse (kept_starts k)))
  makes-is k b t at is = ap (λ o. passes (begins_end on) o && may_make (reverse (kept_starts k))) at ∙ ap (λ t. t && may_make (reverse (kept_starts k))) is

  pub awaited-is : (k : Configuration Unit Unit) (b : ℕ) (t : Bool) → (sight g text k).current ≡ Some b → begins_end on b ≡ t
      → end_is_awaited g (sight g text k) (with_local k (counts k.local)) ≡ (t && one_waits (reverse (kept_starts k)))
  awaited-is k b t at is = ap (λ o. passes (begins_end on) o && one_waits (reverse (kept_starts k))) at ∙ ap (λ t. t && one_waits (reverse (kept_starts k))) is

  -- a byte that is not punctuation begins none
  pub no-mark : (b : ℕ) → (text_byte b ≡ punctuation → ⊥) → begins_mark on b ≡ false
  no-mark b other = elim (begins_mark on b) as (λ t. begins_mark on b ≡ t → t ≡ false) [
    | true ↦ λ e. absurd (other (mark-class on b e))
    | false ↦ λ e. refl
  ] refl

  -- between constructs a line ending is read, a run begins, a bracket or an end is read, or constructs are tried
  pub line-row : (k : Configuration Unit Unit) → (sight g text k).current ≡ Some 10 → HasRow g text (counted_step defined g) k TextBefore (row (enter LineEnding ∷ consume ∷ exit LineEnding ∷ []) (Next TextLineStart))
  line-row k at = ap (λ o. row_step g text k (inline_before_rows (behind k) (class_of text_byte o))) at

  at-punctuation : (k : Configuration Unit Unit) (b : ℕ) (t : Bool) → (sight g text k).current ≡ Some b → text_byte b ≡ punctuation → begins_run on b ≡ t
      → HasRow g text (counted_step defined g) k TextBefore (cond t (row [] (Retry AttentionStart)) bracket_rows)
  at-punctuation k b t at class is =
      ap (λ o. row_step g text k (inline_before_rows (behind k) (class_of text_byte o))) at
      ∙ ap (λ w. row_step g text k (inline_before_rows (behind k) (Some w))) class
      ∙ tested g text run_begins (row [] (Retry AttentionStart)) bracket_rows k t (begins-here k b t at is)

  pub runs-begin : (k : Configuration Unit Unit) (b : ℕ) → (sight g text k).current ≡ Some b → begins_run on b ≡ true → HasRow g text (counted_step defined g) k TextBefore (row [] (Retry AttentionStart))
  runs-begin k b at is = at-punctuation k b true at (delimiter-class b (run-delimits on b is)) is

  -- the rows of ends
  abbrev tried_end : Rows Unit Unit
  tried_end = row (choose Attempt (Next LabelEndOk) (Next LabelEndNotResource) ∷ []) (Retry LabelEndStart)

  abbrev lone_or_data : Rows Unit Unit
  lone_or_data = when end_is_awaited (row [] (Retry LabelEndNok)) (row [] (Retry TextBeforeData))

  abbrev end_rows : Rows Unit Unit
  end_rows = when end_may_make tried_end lone_or_data

  abbrev tried_image : Rows Unit Unit
  tried_image = row (choose Attempt (Next TextBefore) (Next TextBeforeData) ∷ []) (Retry LabelStartImageStart)

  pub links-begin : (k : Configuration Unit Unit) (b : ℕ) → (sight g text k).current ≡ Some b → begins_link on b ≡ true → HasRow g text (counted_step defined g) k TextBefore (row [] (Retry LabelStartLinkStart))
  links-begin k b at is =
      at-punctuation k b false at (bracket-class b (link-so on b is)) (no-run-there on b (link-so on b is))
      ∙ tested g text link_begins (row [] (Retry LabelStartLinkStart)) (when image_begins tried_image end_rows) k true (link-is k b true at is)

  pub images-begin : (k : Configuration Unit Unit) (b : ℕ) → (sight g text k).current ≡ Some b → begins_image on b ≡ true → HasRow g text (counted_step defined g) k TextBefore tried_image
  images-begin k b at is =
      at-punctuation k b false at (bracket-class b (image-so on b is)) (no-run-there on b (image-so on b is))
      ∙ tested g text link_begins (row [] (Retry LabelStartLinkStart)) (when image_begins tried_image end_rows) k false (link-is k b false at (image-no-link on b is))
      ∙ tested g text image_begins tried_image end_rows k true (image-is k b true at is)

  ends-there : (k : Configuration Unit Unit) (b : ℕ) → (sight g text k).current ≡ Some b → begins_end on b ≡ true → HasRow g text (counted_step defined g) k TextBefore end_rows
  ends-there k b at is =
      at-punctuation k b false at (bracket-class b (end-so on b is)) (no-run-there on b (end-so on b is))
      ∙ tested g text link_begins (row [] (Retry LabelStartLinkStart)) (when image_begins tried_image end_rows) k false (link-is k b false at (end-no-link on b is))
      ∙ tested g text image_begins tried_image end_rows k false (image-is k b false at (end-no-image on b is))

  pub ends-make : (k : Configuration Unit Unit) (b : ℕ) → (sight g text k).current ≡ Some b → begins_end on b ≡ true → may_make (reverse (kept_starts k)) ≡ true → HasRow g text (counted_step defined g) k TextBefore tried_end
  ends-make k b at is may = ends-there k b at is ∙ tested g text end_may_make tried_end lone_or_data k true (makes-is k b true at is ∙ may)

  ends-fail : (k : Configuration Unit Unit) (b : ℕ) (t : Bool) → (sight g text k).current ≡ Some b → begins_end on b ≡ true → may_make (reverse (kept_starts k)) ≡ false → one_waits (reverse (kept_starts k)) ≡ t
      → HasRow g text (counted_step defined g) k TextBefore (cond t (row [] (Retry LabelEndNok)) (row [] (Retry TextBeforeData)))
  ends-fail k b t at is may waits =
      ends-there k b at is ∙ tested g text end_may_make tried_end lone_or_data k false (makes-is k b true at is ∙ may)
      ∙ tested g text end_is_awaited (row [] (Retry LabelEndNok)) (row [] (Retry TextBeforeData)) k t (awaited-is k b true at is ∙ waits)

  pub ends-alone : (k : Configuration Unit Unit) (b : ℕ) → (sight g text k).current ≡ Some b → begins_end on b ≡ true → may_make (reverse (kept_starts k)) ≡ false → one_waits (reverse (kept_starts k)) ≡ true
      → HasRow g text (counted_step defined g) k TextBefore (row [] (Retry LabelEndNok))
  ends-alone k b at is may waits = ends-fail k b true at is may waits

  pub ends-as-data : (k : Configuration Unit Unit) (b : ℕ) → (sight g text k).current ≡ Some b → begins_end on b ≡ true → may_make (reverse (kept_starts k)) ≡ false → one_waits (reverse (kept_starts k)) ≡ false
      → HasRow g text (counted_step defined g) k TextBefore (row [] (Retry TextBeforeData))
  ends-as-data k b at is may waits = ends-fail k b false at is may waits

  pub tried-between : (k : Configuration Unit Unit) (b : ℕ) → (sight g text k).current ≡ Some b → is_line_feed b ≡ false → begins_mark on b ≡ false → is_white b ≡ false
      → HasRow g text (counted_step defined g) k TextBefore (tried_at between_texts inline_constructs (text_byte b))
  tried-between k b at plain none other =
      let (run, bracket) = or_parts (begins_run on b) (begins_bracket on b) none in
      let (link, others) = or_parts (begins_link on b) (begins_image on b || begins_end on b) bracket in
      let (image, ends) = or_parts (begins_image on b) (begins_end on b) others in
      elim (before-class (text_byte b)) [
        | inl is ↦
            at-punctuation k b false at is run
            ∙ tested g text link_begins (row [] (Retry LabelStartLinkStart)) (when image_begins tried_image end_rows) k false (link-is k b false at link)
            ∙ tested g text image_begins tried_image end_rows k false (image-is k b false at image)
            ∙ tested g text end_may_make tried_end lone_or_data k false (makes-is k b false at ends)
            ∙ tested g text end_is_awaited (row [] (Retry LabelEndNok)) (row [] (Retry TextBeforeData)) k false (awaited-is k b false at ends)
            ∙ ap (λ w. row_step g text k (tried_at between_texts inline_constructs w)) (sym is)
        | inr (inl is) ↦ absurd (let no : true ≡ false = ap is_line_feed_class (sym is) ∙ line-classed b ∙ plain in cc)
        | inr (inr (inl is)) ↦ absurd (let no : true ≡ false = ap is_white_class (sym is) ∙ white-classed b ∙ other in cc)
        | inr (inr (inr tried)) ↦ ap (λ o. row_step g text k (inline_before_rows (behind k) (class_of text_byte o))) at ∙ ap (row_step g text k) (tried (behind k))
      ]

  -- in data it goes on at a byte that ends none, and ends at one that does and at the end
  data-at : (k : Configuration Unit Unit) (b : ℕ) (t : Bool) → (sight g text k).current ≡ Some b → is_white b ≡ false → ends_data on b ≡ t → HasRow g text (counted_step defined g) k DataInside (ends_or_goes t)
  data-at k b t at other ends =
      ap (λ o. row_step g text k (inline_data_rows (behind k) (class_of text_byte o))) at ∙ elim (data-class (text_byte b)) [
        | inl is ↦
            ap (λ w. row_step g text k (inline_data_rows (behind k) (Some w))) is
            ∙ tested g text mark_begins (row (exit Data ∷ []) (Retry TextBefore)) (row (consume ∷ []) (Next DataInside)) k t
            (marks-here k b t at (sym (punctuation-ends on b is) ∙ ends))
        | inr (inl is) ↦ absurd (let no : true ≡ false = ap is_white_class (sym is) ∙ white-classed b ∙ other in cc)
        | inr (inr rows) ↦ ap (row_step g text k) (rows.1 (behind k) ∙ ap ends_or_goes (marked-classed on b (no-mark b rows.0) ∙ ends))
      ]

  pub data-on : (k : Configuration Unit Unit) (b : ℕ) → (sight g text k).current ≡ Some b → is_white b ≡ false → ends_data on b ≡ false → HasRow g text (counted_step defined g) k DataInside (row (consume ∷ []) (Next DataInside))
  data-on k b at other ends = data-at k b false at other ends

  pub data-ends : (k : Configuration Unit Unit) (b : ℕ) → (sight g text k).current ≡ Some b → is_white b ≡ false → ends_data on b ≡ true → HasRow g text (counted_step defined g) k DataInside (row (exit Data ∷ []) (Retry TextBefore))
  data-ends k b at other ends = data-at k b true at other ends

  pub data-ends-last : (k : Configuration Unit Unit) → (sight g text k).current ≡ None → HasRow g text (counted_step defined g) k DataInside (row (exit Data ∷ []) (Retry TextBefore))
  data-ends-last k at = ap (λ o. row_step g text k (inline_data_rows (behind k) (class_of text_byte o))) at

  -- the twin that counts its calls reads constructs as others do
  abbrev pub inlines_play : Plays g text
  inlines_play = record {
    step = counted_step defined g;
    autolink_start = λ k. refl;
    autolink_open = λ k. refl;
    autolink_scheme = λ k. refl;
    autolink_url = λ k. refl;
    escape_start = λ k. refl;
    escape_inside = λ k. refl;
  }

  abbrev pub inlines_play_code_spans : PlaysCodeSpans g text inlines_play (remembering code_memory)
  inlines_play_code_spans = record {
    raw_text_start = λ k. refl;
    raw_text_sequence_open = λ k. ap (row_step g text k) (opening-remembered (behind k) (class_of text_byte (sight g text k).current));
    raw_text_between = λ k. ap (row_step g text k) (between-remembered (behind k) (class_of text_byte (sight g text k).current));
    raw_text_data = λ k. refl;
    raw_text_sequence_close = λ k. refl;
    raw_text_after = λ k. refl;
    raw_text_backticks_start = λ k. refl;
    raw_text_backticks_inside = λ k. refl;
    keeps = λ events local. refl;
  }

  -- and further lines of code spans as they are
  abbrev pub inlines_play_code_lines : PlaysCodeLines g text inlines_play
  inlines_play_code_lines = record { line = λ k. refl; white = λ k. refl }

  -- and so it begins data
  abbrev pub inlines_begin_data : BeginsData g text inlines_play
  inlines_begin_data = record { text_before_data = λ k. refl; data_at_break = λ k. refl }

  abbrev pub inlines_play_break_escapes : PlaysBreakEscapes g text (counted_step defined g)
  inlines_play_break_escapes = record { start = λ k. refl; after = λ k. refl }

  abbrev pub inlines_play_references : PlaysReferences g text inlines_play
  inlines_play_references = record { reference_start = λ k. refl; reference_open = λ k. refl; reference_numeric = λ k. refl; reference_value = λ k. refl }

  abbrev pub inlines_play_emails : PlaysEmails g text inlines_play
  inlines_play_emails = record { email_start = λ k. refl; email_atext = λ k. refl; email_label = λ k. refl; email_value = λ k. refl }

  -- and resources
  pub inlines_play_resources : PlaysResources g text inlines_play
  inlines_play_resources = record {
    start = λ k. refl;
    gap = λ k. refl;
    white = λ k. refl;
    line = λ k. refl;
    line_white = λ k. refl;
    opens = λ k. refl;
    enclosed_before = λ k. refl;
    enclosed = λ k. refl;
    enclosed_escape = λ k. refl;
    destination_end = λ k. refl;
    raw = λ k. refl;
    raw_escape = λ k. refl;
    destination_after = λ k. refl;
    title_start = λ k. refl;
    title_begin = λ k. refl;
    title_inside = λ k. refl;
    title_escape = λ k. refl;
    title_line = λ k. refl;
    title_white = λ k. refl;
    title_end = λ k. refl;
    ending = λ k. refl;
  }

  -- and full references
  pub inlines_play_full_references : PlaysFullReferences g text inlines_play (label_is_wanted defined)
  inlines_play_full_references = record {
    start = λ k. refl;
    begins = λ k. refl;
    inside = λ k. refl;
    escape = λ k. refl;
    line = λ k. refl;
    white = λ k. refl;
    ending = λ k. refl;
  }

  pub tag-places : (s : Place) → HasRows g text (counted_step defined g) (state_of s) (rows_of s)
  tag-places place.opened = λ k. refl
  tag-places place.closed = λ k. refl
  tag-places place.closing_name = λ k. refl
  tag-places place.closing = λ k. refl
  tag-places place.tag_name = λ k. refl
  tag-places place.before = λ k. refl
  tag-places place.name = λ k. refl
  tag-places place.named = λ k. refl
  tag-places place.value = λ k. refl
  tag-places place.double_quoted = λ k. refl
  tag-places place.single_quoted = λ k. refl
  tag-places place.after = λ k. refl
  tag-places place.bare = λ k. refl
  tag-places place.slashed = λ k. refl

  abbrev pub inlines_play_tags : PlaysTags g text (counted_step defined g)
  inlines_play_tags = record { start = λ k. refl; places = tag-places; after_line = λ k. refl; in_white = λ k. refl }

  pub mark-places : (s : MarkPlace) → HasRows g text (counted_step defined g) (mark_name s) (mark_rows s)
  mark-places at_open = λ k. refl
  mark-places at_declaration = λ k. refl
  mark-places at_comment = λ k. refl
  mark-places (at_cdata n) = λ k. refl
  mark-places (at_inside kind zero) = λ k. refl
  mark-places (at_inside kind (suc n)) = λ k. refl

  abbrev pub inlines_play_marks : PlaysMarks g text (counted_step defined g)
  inlines_play_marks = record { start = λ k. refl; places = mark-places; after_line = λ k. refl; in_white = λ k. refl }
