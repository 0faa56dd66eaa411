-- The step of the state between constructs, and that of data, at bytes at which no construct is tried.
use Rattle.std.proofs.lemmas.Bool.{or_parts}
use Rattle.markdown_tokenizer.specs.Sight.{sight_of}
use Rattle.mdconstructs_tables.specs.RowInvariant.{step_in}
use Rattle.mdinline_machine.proofs.Prelude.{begins-classed, data_goes_on, item_length, TokenizerValue, step_by, ◌≡◌, inl, inr, ℕ, ◌&&◌, ◌||◌, List, [], ◌∷◌, Bool, true, false, cond, Option, Some, refl, sym, ap, ◌∙◌, Constructs, Data, Next, Retry, AttentionStart, DataInside, TextBefore, TextBeforeData, Configuration, Sight, Given, Rows, class_of, consume, exit, row, when, picked, step_of, is_white, is_line_feed, passes, reverse, Construct, Found, between_texts, some_begins, some_first, tried_at, TextByte, is_line_feed_class, punctuation, text_byte, line-classed, white-classed, is_white_class, marked_grammars, inline_before, inline_before_rows, inline_constructs, inline_data, inline_data_rows, begins_run, run_begins, Attempt, choose, begins_bracket, begins_end, begins_image, begins_link, is_of_bracket}
use Rattle.markdown_base.specs.declared.state.TheConstants.Name.{LabelEndNok, LabelEndOk, LabelEndStart, LabelStartImageStart, LabelStartLinkStart}
use Rattle.mdinline_machine.specs.declared.names.TheConstants.{LabelEndNotResource}
use Rattle.mdinline_machine.proofs.BracketBytes.{begins-none}
use Rattle.mdinline_machine.proofs.InlineApart.{inline-apart, special-classed}
use Rattle.mdinline_machine.proofs.Playing.{before-class, data-class, ends_or_goes}
use Rattle.mdinline_machine.proofs.WhitePlays.{goes-class, goes_unless}
use Rattle.mdinline_machine.specs.BracketRows.{bracket_rows, end_is_awaited, end_may_make, image_begins, kept_starts, link_begins, mark_begins, may_make, one_waits}

-- where no construct of a list begins at a class, data is read
none-tried : (cs : List (Construct Found TextByte Unit Unit)) (w : TextByte) → some_begins cs w ≡ false → tried_at between_texts cs w ≡ row [] (Retry TextBeforeData)
none-tried [] w h = refl
none-tried (c ∷ cs) w h =
    let (one, more) = or_parts (c.begins w) (some_begins cs w) h in
    ap (λ t. cond t (when c.allowed (row (choose Attempt (Next TextBefore) (Next c.otherwise) ∷ []) (Retry c.start)) (tried_at between_texts cs w)) (tried_at between_texts cs w)) one ∙ none-tried cs w more

module _ {M : Type 0} (t : TokenizerValue M Unit Unit) (b : ℕ) (at : (sight_of t).current ≡ Some b) where
  abbrev on : Constructs
  on = t.given.options.constructs

  abbrev before : Option TextByte
  before = class_of text_byte (sight_of t).previous

  -- of two rows one is picked by a test
  picks : (test : Given → Sight → Configuration Unit Unit → Bool) (one other : Rows Unit Unit) (c : Bool) → test t.given (sight_of t) t.configuration ≡ c → step_by (when test one other) t ≡ step_by (cond c one other) t
  picks test one other true e = ap (λ c. step_of (cond c (picked one t.given (sight_of t) t.configuration) (picked other t.given (sight_of t) t.configuration)) (sight_of t) t.configuration) e
  picks test one other false e = ap (λ c. step_of (cond c (picked one t.given (sight_of t) t.configuration) (picked other t.given (sight_of t) t.configuration)) (sight_of t) t.configuration) e

  -- where no bracket begins data is read
  brackets-none : is_of_bracket b ≡ false → step_by bracket_rows t ≡ step_by (row [] (Retry TextBeforeData)) t
  brackets-none none =
      let (link, image, ends) = begins-none on b none in
      let starts = reverse (kept_starts t.configuration) in
      let lone : Rows Unit Unit = when end_is_awaited (row [] (Retry LabelEndNok)) (row [] (Retry TextBeforeData)) in
      let tried : Rows Unit Unit = row (choose Attempt (Next LabelEndOk) (Next LabelEndNotResource) ∷ []) (Retry LabelEndStart) in
      let image_rows : Rows Unit Unit = row (choose Attempt (Next TextBefore) (Next TextBeforeData) ∷ []) (Retry LabelStartImageStart) in
      picks link_begins (row [] (Retry LabelStartLinkStart)) (when image_begins image_rows (when end_may_make tried lone)) false (ap (passes (begins_link on)) at ∙ link)
      ∙ picks image_begins image_rows (when end_may_make tried lone) false (ap (passes (begins_image on)) at ∙ image)
      ∙ picks end_may_make tried lone false (ap (λ o. passes (begins_end on) o && may_make starts) at ∙ ap (λ t. t && may_make starts) ends)
      ∙ picks end_is_awaited (row [] (Retry LabelEndNok)) (row [] (Retry TextBeforeData)) false (ap (λ o. passes (begins_end on) o && one_waits starts) at ∙ ap (λ t. t && one_waits starts) ends)

  -- at punctuation that begins no run brackets are tried
  pub at-mark : text_byte b ≡ punctuation → begins_run on b ≡ false → step_in text_byte inline_before t ≡ step_by bracket_rows t
  at-mark class none =
      ap (λ o. step_by (inline_before_rows before (class_of text_byte o)) t) at ∙ ap (λ w. step_by (inline_before_rows before (Some w)) t) class
      ∙ picks run_begins (row [] (Retry AttentionStart)) bracket_rows false (ap (passes (begins_run on)) at ∙ none)

  pub no-run-no-bracket : text_byte b ≡ punctuation → begins_run on b ≡ false → is_of_bracket b ≡ false → step_in text_byte inline_before t ≡ step_by (row [] (Retry TextBeforeData)) t
  no-run-no-bracket class none bracket = at-mark class none ∙ brackets-none bracket

  -- at another byte at which nothing begins data is read
  pub at-other : is_line_feed b ≡ false → is_white b ≡ false → begins_run on b ≡ false → is_of_bracket b ≡ false → some_first marked_grammars b ≡ false → step_in text_byte inline_before t ≡ step_by (row [] (Retry TextBeforeData)) t
  at-other line white run bracket marked =
      elim (before-class (text_byte b)) [
        | inl is ↦ no-run-no-bracket is run bracket
        | inr (inl is) ↦ absurd (let no : true ≡ false = ap is_line_feed_class (sym is) ∙ line-classed b ∙ line in cc)
        | inr (inr (inl is)) ↦ absurd (let no : true ≡ false = ap is_white_class (sym is) ∙ white-classed b ∙ white in cc)
        | inr (inr (inr tried)) ↦
            let none : some_begins inline_constructs (text_byte b) ≡ false =
            (or_parts (is_line_feed_class (text_byte b)) (some_begins inline_constructs (text_byte b)) (special-classed b ∙ (λ i. line i || marked i))).1 in
            ap (λ o. step_by (inline_before_rows before (class_of text_byte o)) t) at ∙ ap (λ rows. step_by rows t) (tried before ∙ none-tried inline_constructs (text_byte b) none)
      ]

  -- where no run and no bracket begins
  mark-none : begins_run on b ≡ false → is_of_bracket b ≡ false → mark_begins t.given (sight_of t) t.configuration ≡ false
  mark-none run none =
      let (link, image, ends) = begins-none on b none in
      ap (λ o. passes (begins_run on) o || passes (begins_bracket on) o) at ∙ (λ i. run i || (link i || (image i || ends i)))

  -- data goes on at a byte at which nothing begins
  pub data-other : is_line_feed b ≡ false → is_white b ≡ false → begins_run on b ≡ false → is_of_bracket b ≡ false → some_first marked_grammars b ≡ false → step_in text_byte inline_data t ≡ step_by (row (consume ∷ []) (Next DataInside)) t
  data-other line white run bracket marked =
      let seen = ap (λ o. step_by (inline_data_rows before (class_of text_byte o)) t) at in
      elim (data-class (text_byte b)) [
        | inl is ↦ seen ∙ ap (λ w. step_by (inline_data_rows before (Some w)) t) is ∙ picks mark_begins (row (exit Data ∷ []) (Retry TextBefore)) (row (consume ∷ []) (Next DataInside)) false (mark-none run bracket)
        | inr (inl is) ↦ absurd (let no : true ≡ false = ap is_white_class (sym is) ∙ white-classed b ∙ white in cc)
        | inr (inr (other, rows)) ↦ seen ∙ ap (λ rows. step_by rows t) (rows before) ∙ ap (λ ends. step_by (ends_or_goes ends) t) (special-classed b ∙ (λ i. line i || marked i))
      ]

  -- and so it does behind white space
  pub goes-other : begins_run on b ≡ false → is_of_bracket b ≡ false → some_first marked_grammars b ≡ false → step_by (data_goes_on (text_byte b)) t ≡ step_by (row (consume ∷ []) (Next DataInside)) t
  goes-other run bracket marked =
      let none : some_begins inline_constructs (text_byte b) ≡ false = begins-classed text_byte item_length inline_constructs inline-apart b ∙ marked in
      elim (goes-class (text_byte b)) [
        | inl is ↦ ap (λ w. step_by (data_goes_on w) t) is ∙ picks mark_begins (row [] (Retry DataInside)) (row (consume ∷ []) (Next DataInside)) false (mark-none run bracket)
        | inr (other, rows) ↦ ap (λ rows. step_by rows t) rows ∙ ap (λ special. step_by (goes_unless special) t) none
      ]
