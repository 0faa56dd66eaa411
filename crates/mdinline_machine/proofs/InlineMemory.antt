-- What the machine of inline text remembers of a text: the backtick strings that were seen, and up to where no mark of raw HTML ends. So each look to the
-- end is made once, and inline text is read in so many calls.
use Rattle.mdinline_machine.proofs.Prelude.{◌≡◌, ℕ, ◌+◌, ◌*◌, ◌<◌, ◌≤◌, ◌==◌, List, [], ◌∷◌, Bool, true, false, cond, Option, Some, None, refl, sym, ap, ◌∙◌, subst, arith, length, drop, nat_tests, Event, Name, State, Next, Retry, TextBefore, TextStart, Seat, Byte, Local, start_configuration, Given, IsText, Text, is_backtick, Found, between_texts, item_length, bytes_of, runs-later, others, OfOption, outer, Remembered, remembered, EndsWith, Plays, between_items, mark-missed, marks-ahead-later, marks-ahead-same, marks-ahead-within, marks-leave-runs, marks_ahead, html-marks-apart, MarksDecided, html-marks-read, known_at, look_calls, looked_over, mark-paid, mark-within, KnowsMarks, marks-later, marks-nothing, marks-same, Mark, of_cdata, of_comment, of_declaration, of_instruction, known_upto, code_memory, CodeDecided, code-ahead-later, code-ahead-within, code_ahead, knows-code-later, knows-no-code, knows_code, remembered-code-read, read_events}
use Rattle.mdinline_constructs.specs.HtmlMarked.{marked}
use Rattle.mdinline_machine.proofs.BracketReads.{unstarted}
use Rattle.mdinline_machine.proofs.Budgets.{Potential, total-drop}
use Rattle.mdinline_machine.proofs.FrontRuns.{no-backticks}
use Rattle.mdinline_machine.proofs.InlineCalls.{DecidedSo, RemembersSo, code-so, inlines-within, marks-so}
use Rattle.mdinline_machine.proofs.InlinePrices.{IsTextMemory, TextMemory, code_toll, inline_budget, mark_toll}
use Rattle.mdinline_machine.proofs.PlainItems.{IsPlain, code-plain, html-plain}
use Rattle.mdinline_machine.proofs.InlineListed.{then_data, then_tags}
use Rattle.mdinline_machine.proofs.Playing.{inlines_play, inlines_play_code_lines, inlines_play_code_spans, inlines_play_marks}
use Rattle.mdinline_machine.proofs.Starts.{start_local}

-- what is remembered of marks is as it was, if all beside backtick strings is
same-marks : (local after : Local Unit Unit) → others after ≡ others local → (kind : Mark) → known_upto kind (remembered after) ≡ known_upto kind (remembered local)
same-marks local after same of_comment = ap (λ (r : Remembered). r.comment) same
same-marks local after same of_instruction = ap (λ (r : Remembered). r.instruction) same
same-marks local after same of_declaration = ap (λ (r : Remembered). r.declaration) same
same-marks local after same of_cdata = ap (λ (r : Remembered). r.cdata) same

none-known : (flag : Bool) (kind : Mark) → known_upto kind (remembered (start_local flag)) ≡ 0
none-known flag of_comment = refl
none-known flag of_instruction = refl
none-known flag of_declaration = refl
none-known flag of_cdata = refl

module _ (defined : List ℕ → Bool) (g : Given) (text : Text) (is-text : IsText g text) where
  abbrev m : Plays g text
  m = inlines_play defined g text

  -- what is known of backtick strings holds of another memory that is alike in them
  code-alike : (p : ℕ) (local : Local Unit Unit) (r : Remembered) → r.runs ≡ (remembered local).runs → r.all_seen ≡ (remembered local).all_seen → knows_code g text is-text m p (remembered local) → knows_code g text is-text m p r
  code-alike p local r runs all knows after same =
      runs-later g text is-text m code_memory p p local after (omega arith) (ap (λ (r : Remembered). r.runs) same ∙ runs) (ap (λ (r : Remembered). r.all_seen) same ∙ all) (knows local refl)

  -- What is remembered, and what is known of it
  abbrev pub inline_memory : TextMemory
  inline_memory = record { sound = λ p r. knows_code g text is-text m p r × KnowsMarks text p r; code = code_ahead; marks = marks_ahead }

  -- what is remembered beside the brackets that wait
  same-all : (r q : Remembered) → unstarted q ≡ unstarted r → (kind : Mark) → known_upto kind q ≡ known_upto kind r
  same-all r q same of_comment = ap (λ (r : Remembered). r.comment) same
  same-all r q same of_instruction = ap (λ (r : Remembered). r.instruction) same
  same-all r q same of_declaration = ap (λ (r : Remembered). r.declaration) same
  same-all r q same of_cdata = ap (λ (r : Remembered). r.cdata) same

  code-so-alike : (p : ℕ) (r q : Remembered) → unstarted q ≡ unstarted r → knows_code g text is-text m p r → knows_code g text is-text m p q
  code-so-alike p r q same knows local e =
      let put = record local { tokenize_state = record local.tokenize_state { label_starts = r.starts } } in
      let alike : remembered put ≡ r = ap (λ (a : Remembered). record a { starts = r.starts }) (ap unstarted e ∙ same) in
      runs-later g text is-text m code_memory p p put local (omega arith) refl refl (knows put alike)

  pub memory-is : IsTextMemory inline_memory
  memory-is = record {
    unstarted_code = λ r q same l. ap (λ (a : Remembered). code_ahead a l) same;
    unstarted_marks = λ r q same l. ap (λ (a : Remembered). marks_ahead a l) same;
    unstarted_sound = λ r q same p h. (code-so-alike p r q same h.0, marks-same text p r q (same-all r q same) h.1);
    later = λ p q r further h. (knows-code-later g text is-text m p q r further h.0, marks-later text p q r further h.1);
    begins = λ flag. (knows-no-code g text is-text m 0 (remembered (start_local flag)) refl refl, marks-nothing text (remembered (start_local flag)) (none-known flag));
    code_down = code-ahead-later;
    marks_down = marks-ahead-later;
    code_within = λ r l. omega (arith, code-ahead-within r l);
    marks_within = λ r l. omega (arith, marks-ahead-within r l);
  }

  module _ (budget : ℕ) where
    abbrev Decided : (own other : Potential) (toll : List ℕ → ℕ) (nok : Name) (p : ℕ) (ended : Bool) (events : List Event) → Local Unit Unit → Seat → List Seat → State → Option Found → Type 0
    Decided own other toll nok p ended events local s ss st o =
        DecidedSo defined g text inline_memory memory-is budget own other toll nok p ended events local s ss (between_items p Byte ended events local) (outer TextBefore nok p ended events ∷ []) st o

    -- ---- code spans
    code-decided : (nok : Name) (p : ℕ) (ended : Bool) (events : List Event) (local : Local Unit Unit) (s : Seat) (ss : List Seat) → is_backtick s.byte ≡ true → KnowsMarks text p (remembered local) → (st : State) (o : Option Found) → OfOption IsPlain o
        → CodeDecided g text is-text m (inlines_play_code_spans defined g text) (inlines_play_code_lines defined g text) between_texts nok p ended events local s ss (between_items p Byte ended events local) (outer TextBefore nok p ended events ∷ []) st o
        → Decided code_ahead marks_ahead code_toll nok p ended events local s ss st o
    code-decided nok p ended events local s ss tick marks st None mark d =
        let after = d.0 in
        let kept = same-marks local after d.2 in
        (after, (d.1, marks-same text p (remembered local) (remembered after) kept marks), ap (λ (r : Remembered). r.starts) d.2, (λ l. marks-ahead-same (remembered local) (remembered after) l kept), omega (arith, d.3), d.4)
    code-decided nok p ended events local s ss tick marks st (Some item) mark d =
        let after = d.1 in
        let size = item_length item in
        let kept = same-marks local after d.3 in
        let further : p ≤ p + size = omega arith in (
          d.0,
          after,
          (d.2, marks-later text p (p + size) (remembered after) further (marks-same text p (remembered local) (remembered after) kept marks)),
          ap (λ (r : Remembered). r.starts) d.3,
          (λ l. marks-ahead-same (remembered local) (remembered after) l kept),
          omega (arith, d.4),
          d.5,
          mark,
          d.6,
          d.7,
          d.8,
        )

    pub code-remembers : RemembersSo defined g text inline_memory memory-is budget code_ahead marks_ahead code_toll then_data
    code-remembers nok p ended events local s ss here first sound =
        code-decided nok p ended events local s ss first sound.1 (Retry then_data.start) (then_data.grammar.front (bytes_of (s ∷ ss))) (code-plain (bytes_of (s ∷ ss)))
        (remembered-code-read g text is-text m (inlines_play_code_spans defined g text) (inlines_play_code_lines defined g text) between_texts nok p ended events local s ss here first sound.0)

    -- ---- raw HTML between marks
    marks-decided : (nok : Name) (p : ℕ) (ended : Bool) (events : List Event) (local : Local Unit Unit) (s : Seat) (ss : List Seat) → (here : drop p text.seats ≡ s ∷ ss) → (s.byte == 60) ≡ true → inline_memory.sound p (remembered local)
        → (st : State) (o : Option Found) → OfOption (λ (item : Found). 0 < item_length item) o → OfOption (λ (item : Found). look_calls text p (remembered local) ss ≤ 2 * item_length item) o
        → OfOption (λ (item : Found). item_length item ≤ length (s ∷ ss)) o → OfOption IsPlain o
        → MarksDecided g text m between_texts nok p ended events local s ss (between_items p Byte ended events local) (outer TextBefore nok p ended events ∷ []) st o
        → Decided marks_ahead code_ahead mark_toll nok p ended events local s ss st o
    marks-decided nok p ended events local s ss here less sound st None some paid within mark d =
        let after = d.0 in
        let alike = marks-leave-runs g text p ss (known_at text p (remembered local)) (looked_over text p (remembered local) ss) local after d.3 in (
          after,
          (code-alike p local (remembered after) alike.1 alike.0 sound.0, d.1),
          alike.2,
          (λ l. ap (λ t. cond t 0 (7 * length l)) alike.0),
          omega (arith, mark-missed g text is-text p s ss here local after d.2 d.3),
          d.4,
        )
    marks-decided nok p ended events local s ss here less sound st (Some item) some paid within mark d =
        let after = d.1 in
        let size = item_length item in
        let r = remembered local in
        let further : p ≤ p + size = omega arith in
        let tick : is_backtick s.byte ≡ false = grind (arith, nat_tests) in
        let same : marks_ahead (remembered after) (drop size (s ∷ ss)) ≡ marks_ahead r (drop size (s ∷ ss)) = ap (λ r. marks_ahead r (drop size (s ∷ ss))) d.2.same in (
          d.0,
          after,
          subst (inline_memory.sound (p + size)) (sym d.2.same) (memory-is.later p (p + size) r further sound),
          ap (λ (r : Remembered). r.starts) d.2.same,
          (λ l. ap (λ (r : Remembered). code_ahead r l) d.2.same),
          omega (arith, d.2.calls, paid, same, total-drop (marks_ahead ∷ []) (marks-ahead-later, tt) size r (s ∷ ss)),
          some,
          mark,
          within,
          omega (arith, no-backticks s.byte (bytes_of ss) tick),
          d.3,
        )

    pub marks-remember : RemembersSo defined g text inline_memory memory-is budget marks_ahead code_ahead mark_toll then_tags
    marks-remember nok p ended events local s ss here first sound =
        marks-decided nok p ended events local s ss here first sound (Retry then_tags.start) (then_tags.grammar.front (bytes_of (s ∷ ss))) (html-marks-apart.some s.byte (bytes_of ss))
        (mark-paid g text m between_texts (inlines_play_marks defined g text) is-text nok p ended events local s ss here first sound.1) (mark-within g text m between_texts (inlines_play_marks defined g text) is-text nok p ended events local s ss here first sound.1) (html-plain (bytes_of (s ∷ ss)) (marked (bytes_of (s ∷ ss))))
        (html-marks-read g text m between_texts (inlines_play_marks defined g text) is-text nok p ended events local s ss here first sound.1)

  -- So inline text is read item by item from its start, in so many calls
  pub inlines-read : (flag : Bool) → EndsWith g text m (start_configuration flag) [] (Next TextStart) (record { events = read_events defined g text; spent = inline_budget g.options.constructs text.seats + 1 })
  inlines-read flag =
      let budget = inline_budget g.options.constructs text.seats in
      inlines-within defined g text inline_memory memory-is budget (code-so defined g text inline_memory memory-is budget (code-remembers budget)) (marks-so defined g text inline_memory memory-is budget (marks-remember budget)) is-text (omega arith) flag
