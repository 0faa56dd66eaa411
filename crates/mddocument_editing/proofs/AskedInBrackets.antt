-- What is looked up in the texts of a document may stand between its brackets.
use Rattle.mddocument_editing.proofs.Prelude.{◌≡◌, ℕ, zero, suc, ◌+◌, ◌<◌, ◌≤◌, ◌&&◌, Bool, true, false, cond, List, [], ◌∷◌, ◌++◌, Option, Some, None, length, take, drop, map, refl, sym, ap, ◌∙◌, subst, arith, append_assoc, eqb-true, drop-append-le, drop_all, length-append, length-map, length-take-le, take-append-drop, AllByRecursion, flat_map, prefix_len, slice_index, and-right, every-append, every-drop, Constructs, ParseOptions, Event, Point, shown, Seat, end_after, begins, fitting_starts, every-back, every-front, Given, IsDocument, IsText, Text, IsWritten, written-virtual, lined-cut, document, Course, course-every, course-on, text-course, AcrossGap, white_space, Bracket, Memory, after_item, before_link, begins_end, begins_link, bytes_before, end_at, image_bracket, is_image_bracket, is_open_bracket, label_end, link_bracket, lone_end, nothing_read, spanned_bytes, tail_of, waiting_behind, bracket_or_part, data_length, data_run, delimiter_run, inline_grammars, inline_item_at, line_break, run_length, run_or_part, hides, is_label, is_white, asked_from, asked_labels, if_label, label_ahead, label_behind, labels_at, looked_up, own_label, blocks_of, IsCut, cut-append, cut-none, chain_text, AskedLabelsAreInBrackets, is_in_brackets, ◌==◌, ◌||◌, not, option_map}
use Rattle.std.specs.Option.{option_and_then}
use Rattle.markdown_base.proofs.Facts.Bools.{and-left}
use Rattle.markdown_base.specs.declared.event.Content.TheVariants as content
use Rattle.mddocument.proofs.Emphasis.InlineRuns.{item-runs}
use Rattle.mddocument.proofs.InContainers.Skeletons.{skeleton-laws}
use Rattle.mddocument.proofs.InContainers.TextsFormed.{content-ready}
use Rattle.mdinline_full_references.specs.FullReference.{label_length, label_text}
use Rattle.mdinline_constructs.proofs.References.Bytes.{reference-holds}
use Rattle.mdinline_constructs.specs.Email.{email_with, is_atext}
use Rattle.mdinline_constructs.specs.HardBreak.{hard_break_escape, hard_break_trailing}
use Rattle.mdinline_constructs.specs.HtmlMarked.{marked}
use Rattle.mdinline_constructs.specs.HtmlTag.{tag_length}
use Rattle.mdinline_constructs.specs.HtmlText.{has_blank_line, html, html_of}
use Rattle.mdinline_constructs.specs.LinedCode.{lined_events}
use Rattle.mdinline_machine.specs.RunRows.{begins_run}
use Rattle.mdinline_labels.specs.Tails.{bare_behind, begins_with, is_plain, label_size, marked_size}
use Rattle.mdinline_link_tails.proofs.Resources.Cuts.{string-cut}
use Rattle.mdinline_link_tails.specs.Resource.{string_events}
use Rattle.mdinline_text_machine.proofs.Constructs.Apart.{EachThere, OfOption, there-holds, when-there}
use Rattle.mdinline_text_machine.proofs.DeepSpans.Stretches.{ItemCut}
use Rattle.mdinline_text_machine.proofs.Paragraphs.ChainEvents.{all-begin, is-text}
use Rattle.mdinline_text_machine.specs.Autolink.{autolink, autolink_to, uri}
use Rattle.mdinline_text_machine.specs.Bytes.{backticks, has_byte_at, is_backtick, is_greater_than, is_less_than, is_line_feed}
use Rattle.mdinline_text_machine.specs.CodeSpan.{before_backtick_string, code_span_with}
use Rattle.mdinline_text_machine.specs.Construct.{BracketMark, Found, Grammar, fails, makes, opens, or_else, plain}
use Rattle.mdinline_text_machine.specs.Escape.{escape}
use Rattle.mdinline_text_machine.specs.Parts.{bytes_of}
use Rattle.mddocument_editing.proofs.LabelBytes.{IsFed, fed-virtual, label-stands}

-- ---- items that are brackets

-- An item leaves the brackets that wait as they are
abbrev IsPlain : Found → Type 0
IsPlain item = item.mark ≡ plain

mapped-plain : {A : Type 0} (f : A → Found) → ((a : A) → IsPlain (f a)) → (o : Option A) → OfOption IsPlain (option_map f o)
mapped-plain f h None = tt
mapped-plain f h (Some a) = h a

to-plain : (text : List ℕ) (o : Option ℕ) → OfOption IsPlain (autolink_to text o)
to-plain text None = tt
to-plain text (Some n) = when-there IsPlain (has_byte_at text (n + 1) is_greater_than) (Some (autolink n)) refl

html-plain : (text : List ℕ) (o : Option ℕ) → OfOption IsPlain (html_of text o)
html-plain text None = tt
html-plain text (Some n) = elim (has_blank_line (take n text)) as (λ t. OfOption IsPlain (cond t None (Some (html n)))) [ true ↦ tt | false ↦ refl ]

constructs-plain : (text : List ℕ) → EachThere IsPlain inline_grammars text
constructs-plain text =
    let n = backticks text in
    let code = option_map (code_span_with lined_events n) (before_backtick_string n (drop n text)) in
    let line = has_byte_at text 0 is_less_than in (
      when-there IsPlain (has_byte_at text 0 is_backtick) code (mapped-plain (code_span_with lined_events n) (λ k. refl) (before_backtick_string n (drop n text))),
      (
        when-there IsPlain line (autolink_to text (uri (drop 1 text))) (to-plain text (uri (drop 1 text))),
        (
          when-there IsPlain line (email_with text (prefix_len is_atext (drop 1 text))) (when-there IsPlain _ (Some _) refl),
          (
            html-plain text (marked text),
            (
              html-plain text (tag_length text),
              (
                when-there IsPlain _ (Some escape) refl,
                (
                  when-there IsPlain _ (Some hard_break_escape) refl,
                  (
                    reference-holds IsPlain (λ kind n. refl) text,
                    (
                      when-there IsPlain _ (Some (hard_break_trailing _)) refl,
                      (when-there IsPlain _ (Some (white_space (prefix_len is_white text))) refl, tt),
                    ),
                  ),
                ),
              ),
            ),
          ),
        ),
      ),
    )

-- An item that opens a bracket ends in a `[`
record EndsOpen (item : Found) (l : List Seat) : Type 0 where
  front : List Seat
  opening : Seat
  are : take item.size l ≡ front ++ opening ∷ []
  is_open : opening.byte ≡ 91

abbrev Opens : List Seat → Found → Type 0
Opens l item = (image : Bool) → item.mark ≡ opens image → EndsOpen item l

opens-not : (mark : BracketMark) (image : Bool) → mark ≡ opens image → (mark ≡ plain) → ⊥
opens-not mark image h k = let no : plain ≡ opens image = sym k ∙ h in cc

plain-opens : (l : List Seat) (item : Found) → IsPlain item → Opens l item
plain-opens l item h image k = absurd (opens-not item.mark image k h)

each-opens : (l : List Seat) (grammars : List (Grammar Found)) (text : List ℕ) → EachThere IsPlain grammars text → EachThere (Opens l) grammars text
each-opens l [] text h = tt
each-opens l (grammar ∷ grammars) text h = (by (grammar.front text) h.0, each-opens l grammars text h.1)
  where
    by : (o : Option Found) → OfOption IsPlain o → OfOption (Opens l) o
    by None k = tt
    by (Some item) k = plain-opens l item k

module _ (on : Constructs) (s : Seat) (ss : List Seat) where
  abbrev l : List Seat
  l = s ∷ ss

  abbrev text : List ℕ
  text = bytes_of l

  link-opens : begins_link on s.byte ≡ true → Opens l link_bracket
  link-opens e image k = record { front = []; opening = s; are = refl; is_open = eqb-true s.byte 91 (and-right on.label_start_link (is_open_bracket s.byte) e) }

  part-opens : Opens l (run_or_part on text)
  part-opens =
      let line = line_break (prefix_len is_white (bytes_of ss)) in
      let datum = data_run (data_length on text) in
      plain-opens l (run_or_part on text) (elim (begins_run on s.byte) as (λ x. IsPlain (cond x (delimiter_run (run_length text)) (cond (is_line_feed s.byte) line datum))) [
        | true ↦ refl
        | false ↦ elim (is_line_feed s.byte) as (λ x. IsPlain (cond x line datum)) [ true ↦ refl | false ↦ refl ]
      ])

  end-opens : (item : Found) → (item.mark ≡ makes) → Opens l item
  end-opens item h image k = absurd (let no : makes ≡ opens image = sym h ∙ k in cc)

  lone-opens : Opens l lone_end
  lone-opens image k = absurd (cc)

image-opens : (on : Constructs) (s : Seat) (ss : List Seat) → is_image_bracket on (bytes_of (s ∷ ss)) ≡ true → Opens (s ∷ ss) image_bracket
image-opens on s [] e image k = absurd (let none = and-right _ false e in cc)
image-opens on s (r ∷ rs) e image k = record { front = s ∷ []; opening = r; are = refl; is_open = eqb-true r.byte 91 (and-right _ (is_open_bracket r.byte) e) }

module _ (on : Constructs) (defined : List ℕ → Bool) (bytes : List ℕ) (q : Memory) (s : Seat) (ss : List Seat) where
  last-opens : (bs : List Bracket) → Opens (s ∷ ss) (or_else (end_at defined bytes bs q (bytes_of ss)) (run_or_part on (bytes_of (s ∷ ss))))
  last-opens [] = part-opens on s ss
  last-opens (b ∷ bs) = elim b.inactive as (λ x. Opens (s ∷ ss) (cond x lone_end (or_else (option_map label_end (tail_of defined bytes b q (bytes_of ss))) lone_end))) [
    | true ↦ lone-opens on s ss
    | false ↦ elim (tail_of defined bytes b q (bytes_of ss)) as (λ o. Opens (s ∷ ss) (or_else (option_map label_end o) lone_end)) [
      | None ↦ lone-opens on s ss
      | Some tail ↦ end-opens on s ss (label_end tail) refl
    ]
  ]

  bracket-opens : Opens (s ∷ ss) (bracket_or_part on defined bytes q (bytes_of (s ∷ ss)))
  bracket-opens =
      let text = bytes_of (s ∷ ss) in
      let part = run_or_part on text in
      let ends = cond (begins_end on s.byte) (end_at defined bytes q.waiting q (bytes_of ss)) None in
      elim (begins_link on s.byte) as (λ x. begins_link on s.byte ≡ x → Opens (s ∷ ss) (or_else (cond x (Some link_bracket) (cond (is_image_bracket on text) (Some image_bracket) ends)) part)) [
        | true ↦ λ e. link-opens on s ss e
        | false ↦ λ other. elim (is_image_bracket on text) as (λ x. is_image_bracket on text ≡ x → Opens (s ∷ ss) (or_else (cond x (Some image_bracket) ends) part)) [
          | true ↦ λ e. image-opens on s ss e
          | false ↦ λ none. elim (begins_end on s.byte) as (λ x. Opens (s ∷ ss) (or_else (cond x (end_at defined bytes q.waiting q (bytes_of ss)) None) part)) [ true ↦ last-opens q.waiting | false ↦ part-opens on s ss ]
        ] refl
      ] refl

  item-opens : Opens (s ∷ ss) (inline_item_at on defined bytes q (bytes_of (s ∷ ss)))
  item-opens = there-holds (Opens (s ∷ ss)) inline_grammars on (bytes_of (s ∷ ss)) (bracket_or_part on defined bytes q (bytes_of (s ∷ ss))) (each-opens (s ∷ ss) inline_grammars (bytes_of (s ∷ ss)) (constructs-plain (bytes_of (s ∷ ss)))) bracket-opens

-- ---- labels behind a `[`

label-closed : (bare hidden : Bool) (bs : List ℕ) (n : ℕ) → marked_size 91 93 bare hidden bs ≡ Some n → (rest : List ℕ) × (drop n bs ≡ 93 ∷ rest)
label-closed bare hidden [] n h = absurd (cc)
label-closed bare hidden (b ∷ bs) n h =
    by (label-closed (bare_behind bare b) (hides hidden b) bs) (is_plain 93 hidden b) refl (is_plain 91 hidden b || (bare && (b == 10))) (marked_size 91 93 (bare_behind bare b) (hides hidden b) bs) refl h
  where
    by : ((m : ℕ) → marked_size 91 93 (bare_behind bare b) (hides hidden b) bs ≡ Some m → (rest : List ℕ) × (drop m bs ≡ 93 ∷ rest)) → (x : Bool) → is_plain 93 hidden b ≡ x → (y : Bool) (o : Option ℕ) → marked_size 91 93 (bare_behind bare b) (hides hidden b) bs ≡ o → cond x (Some 0) (cond y None (option_map (λ k. k + 1) o)) ≡ Some n → (rest : List ℕ) × (drop n (b ∷ bs) ≡ 93 ∷ rest)
    by more true e y o k h =
        let zero_is : zero ≡ n = cc in
        let is = eqb-true b 93 (and-left (b == 93) (not hidden) e) in
        subst (λ m. (rest : List ℕ) × (drop m (b ∷ bs) ≡ 93 ∷ rest)) zero_is (bs, ap (λ x. x ∷ bs) is)
    by more false e true o k h = absurd (cc)
    by more false e false None k h = absurd (cc)
    by more false e false (Some m) k h =
        let is : m + 1 ≡ n = cc in
        let one : suc m ≡ m + 1 = omega arith in
        subst (λ j. (rest : List ℕ) × (drop j (b ∷ bs) ≡ 93 ∷ rest)) (one ∙ is) (more m k)

label-found : (text : List ℕ) (n : ℕ) → label_length text ≡ Some n → (begins_with 91 text ≡ true) × (label_size (drop 1 text) ≡ Some n)
label-found text n h = by (begins_with 91 text) refl (label_size (drop 1 text)) refl h
  where
    sized : (m : ℕ) (y : Bool) → cond y (Some m) None ≡ Some n → m ≡ n
    sized m true k = cc
    sized m false k = absurd (cc)

    by : (x : Bool) → begins_with 91 text ≡ x → (o : Option ℕ) → label_size (drop 1 text) ≡ o → cond x (option_and_then (λ m. cond (is_label (take m (drop 1 text))) (Some m) None) o) None ≡ Some n → (begins_with 91 text ≡ true) × (label_size (drop 1 text) ≡ Some n)
    by false e o k h = absurd (cc)
    by true e None k h = absurd (cc)
    by true e (Some m) k h = (e, k ∙ ap Some (sized m (is_label (take m (drop 1 text))) h))

-- the virtual byte at which bytes go on
record GoesOn (n : ℕ) (l : List Seat) (b : ℕ) : Type 0 where
  seat : Seat
  rest : List Seat
  are : drop n l ≡ seat ∷ rest
  is : seat.byte ≡ b
  some : n < length l

seat-at : (n b : ℕ) (l : List Seat) (r : List ℕ) → drop n (bytes_of l) ≡ b ∷ r → GoesOn n l b
seat-at zero b [] r h = absurd (cc)
seat-at (suc n) b [] r h = absurd (cc)
seat-at zero b (s ∷ ss) r h = record { seat = s; rest = ss; are = refl; is = (cc); some = omega arith }
seat-at (suc n) b (s ∷ ss) r h = let more = seat-at n b ss r h in let lt = more.some in record { seat = more.seat; rest = more.rest; are = more.are; is = more.is; some = omega (arith, lt) }

-- ---- what is looked up while a text is read

module _ (t : ℕ) (bytes : List ℕ) (on : Constructs) (defined : List ℕ → Bool) where
  abbrev Stands : List ℕ → Type 0
  Stands label = (is_label label ≡ true) × (is_in_brackets label bytes ≡ true)

  if-stands : (label : List ℕ) → is_in_brackets label bytes ≡ true → AllByRecursion Stands (if_label label)
  if-stands label h = by (is_label label) refl
    where
      by : (x : Bool) → is_label label ≡ x → AllByRecursion Stands (cond x (label ∷ []) [])
      by true e = ((e, h), tt)
      by false e = tt

  -- virtual bytes with their course
  module _ (p : Point) (all : List Seat) (course : Course AcrossGap t bytes p all) (written : AllByRecursion (IsWritten bytes) all) (fed : AllByRecursion (IsFed bytes) all) where
    between-stands : (before : List Seat) (opening c : Seat) (inside rest : List Seat) (es : List Event) → all ≡ before ++ opening ∷ (inside ++ c ∷ rest) → opening.byte ≡ 91 → c.byte ≡ 93 → IsCut bytes es inside
        → is_in_brackets (spanned_bytes (bytes_before bytes (c ∷ rest)) es) bytes ≡ true
    between-stands before opening c inside rest es are is_open closes cut =
        let tail = opening ∷ (inside ++ c ∷ rest) in
        let there = course-on AcrossGap t bytes p before tail (subst (Course AcrossGap t bytes p) are course) in
        let w = every-back (IsWritten bytes) before tail (subst (AllByRecursion (IsWritten bytes)) are written) in
        let f = every-back (IsFed bytes) before tail (subst (AllByRecursion (IsFed bytes)) are fed) in
        label-stands t bytes (end_after p before) opening c inside rest es is_open closes there w.0 (every-back (IsWritten bytes) inside (c ∷ rest) w.1).0 (every-front (IsFed bytes) inside (c ∷ rest) f.1) (lined-cut bytes es inside cut)

    -- a bracket waits, up to which so many events were read: its `[`, and what was read behind that
    record Waits (count : ℕ) (q : Memory) : Type 0 where
      before : List Seat
      opening : Seat
      inside : List Seat
      are : all ≡ before ++ opening ∷ (inside ++ q.ahead)
      is_open : opening.byte ≡ 91
      within : count ≤ length q.events
      cut : IsCut bytes (drop count q.events) inside

    -- so do all that wait; and what is left is the end of the text
    record IsReading (q : Memory) : Type 0 where
      before : List Seat
      are : all ≡ before ++ q.ahead
      waiting : AllByRecursion (λ b. Waits b.count q) q.waiting

    own-stands : (b : Bracket) (q : Memory) (s : Seat) (ss : List Seat) → q.ahead ≡ s ∷ ss → s.byte ≡ 93 → Waits b.count q → is_in_brackets (own_label bytes b q) bytes ≡ true
    own-stands b q s ss ahead closes h =
        ap (λ l. is_in_brackets (spanned_bytes (bytes_before bytes l) (drop b.count q.events)) bytes) ahead
        ∙ between-stands h.before h.opening s h.inside ss (drop b.count q.events) (h.are ∙ ap (λ l. h.before ++ h.opening ∷ (h.inside ++ l)) ahead) h.is_open closes h.cut

    ahead-stands : (before : List Seat) (s : Seat) (ss : List Seat) (n : ℕ) → all ≡ before ++ s ∷ ss → label_length (bytes_of ss) ≡ Some n → is_in_brackets (label_ahead bytes (s ∷ ss) (label_text n (bytes_of ss))) bytes ≡ true
    ahead-stands before s [] n are h = absurd (let none = (label-found [] n h).0 in cc)
    ahead-stands before s (opening ∷ text) n are h =
        let found = label-found (bytes_of (opening ∷ text)) n h in
        let closed = label-closed false false (bytes_of text) n found.1 in
        let c = seat-at n 93 text closed.0 closed.1 in
        let lt = c.some in
        let long = length-map text (λ (s : Seat). s.byte) in
        let size : length (take n (bytes_of text)) ≡ n = length-take-le n (bytes_of text) (omega (arith, lt, long)) in
        let inside = take n text in
        let parts : text ≡ inside ++ c.seat ∷ c.rest = sym (take-append-drop n text) ∙ ap (λ l. inside ++ l) c.are in
        ap (λ m. is_in_brackets (spanned_bytes (bytes_before bytes (drop m text)) (string_events bytes (take m text))) bytes) size
        ∙ ap (λ l. is_in_brackets (spanned_bytes (bytes_before bytes l) (string_events bytes inside)) bytes) c.are
        ∙ between-stands (before ++ s ∷ []) opening c.seat inside c.rest (string_events bytes inside)
        (are ∙ ap (λ l. before ++ s ∷ opening ∷ l) parts ∙ sym (append_assoc before (s ∷ []) (opening ∷ (inside ++ c.seat ∷ c.rest)))) (eqb-true opening.byte 91 found.0) c.is (string-cut bytes inside)

    behind-stands : (before : List Seat) (s : Seat) (ss : List Seat) → all ≡ before ++ s ∷ ss → AllByRecursion Stands (label_behind bytes (s ∷ ss) (bytes_of ss) (label_length (bytes_of ss)))
    behind-stands before s ss are = elim (label_length (bytes_of ss)) as (λ o. label_length (bytes_of ss) ≡ o → AllByRecursion Stands (label_behind bytes (s ∷ ss) (bytes_of ss) o)) [
      | None ↦ λ e. tt
      | Some n ↦ λ e. if-stands (label_ahead bytes (s ∷ ss) (label_text n (bytes_of ss))) (ahead-stands before s ss n are e)
    ] refl

    looked-stand : (q : Memory) (s : Seat) (ss : List Seat) → q.ahead ≡ s ∷ ss → IsReading q → AllByRecursion Stands (looked_up bytes on q (bytes_of (s ∷ ss)))
    looked-stand q s ss ahead reading = by (begins_end on s.byte) refl
      where
        each : (bs : List Bracket) → AllByRecursion (λ b. Waits b.count q) bs → s.byte ≡ 93 → AllByRecursion Stands (labels_at bytes bs q (bytes_of ss))
        each [] h closes = tt
        each (b ∷ bs) h closes =
            let behind = bytes_of ss in
            every-append Stands (if_label (own_label bytes b q)) (label_behind bytes q.ahead behind (label_length behind)) (if-stands (own_label bytes b q) (own-stands b q s ss ahead closes h.0))
            (subst (λ l. AllByRecursion Stands (label_behind bytes l behind (label_length behind))) (sym ahead) (behind-stands reading.before s ss (reading.are ∙ ap (λ l. reading.before ++ l) ahead)))

        by : (x : Bool) → begins_end on s.byte ≡ x → AllByRecursion Stands (cond x (labels_at bytes q.waiting q (bytes_of ss)) [])
        by true e = each q.waiting reading.waiting (eqb-true s.byte 93 (and-right on.label_end (s.byte == 93) e))
        by false e = tt

    -- ---- behind an item

    module _ (q : Memory) (item : Found) (cut : ItemCut bytes q.ahead item) (opened : Opens q.ahead item) (reading : IsReading q) where
      abbrev es : List Event
      es = item.events bytes (take item.size q.ahead)

      abbrev next : Memory
      next = after_item bytes q item

      halves : q.ahead ≡ take item.size q.ahead ++ drop item.size q.ahead
      halves = sym (take-append-drop item.size q.ahead)

      waits-on : (count : ℕ) → Waits count q → Waits count next
      waits-on count h =
          let front = take item.size q.ahead in
          let rest = drop item.size q.ahead in
          let within = h.within in record {
            before = h.before;
            opening = h.opening;
            inside = h.inside ++ front;
            are = h.are ∙ ap (λ l. h.before ++ h.opening ∷ l) (ap (λ l. h.inside ++ l) halves ∙ sym (append_assoc h.inside front rest));
            is_open = h.is_open;
            within = omega (arith, within, length-append q.events es);
            cut = subst (λ l. IsCut bytes l (h.inside ++ front)) (sym (drop-append-le count q.events es within)) (cut-append bytes h.cut cut);
          }

      waits-new : (image : Bool) → item.mark ≡ opens image → Waits (length (q.events ++ es)) next
      waits-new image is =
          let o = opened image is in
          let rest = drop item.size q.ahead in
          let whole : q.ahead ≡ o.front ++ o.opening ∷ rest = halves ∙ ap (λ l. l ++ rest) o.are ∙ append_assoc o.front (o.opening ∷ []) rest in record {
            before = reading.before ++ o.front;
            opening = o.opening;
            inside = [];
            are = reading.are ∙ ap (λ l. reading.before ++ l) whole ∙ sym (append_assoc reading.before o.front (o.opening ∷ rest));
            is_open = o.is_open;
            within = omega arith;
            cut = subst (λ l. IsCut bytes l []) (sym (drop_all (length (q.events ++ es)) (q.events ++ es) (omega arith))) (cut-none bytes);
          }

      abbrev On : Bracket → Type 0
      On b = Waits b.count next

      all-on : (bs : List Bracket) → AllByRecursion (λ b. Waits b.count q) bs → AllByRecursion On bs
      all-on [] h = tt
      all-on (b ∷ bs) h = (waits-on b.count h.0, all-on bs h.1)

      before-on : (bs : List Bracket) → AllByRecursion On bs → AllByRecursion On (map before_link bs)
      before-on [] h = tt
      before-on (b ∷ bs) h = (h.0, before-on bs h.1)

      waiting-on : (mark : BracketMark) → item.mark ≡ mark → (bs : List Bracket) → AllByRecursion On bs → AllByRecursion On (waiting_behind mark (length (q.events ++ es)) bs)
      waiting-on plain is bs h = h
      waiting-on (opens image) is bs h = (waits-new image is, h)
      waiting-on makes is [] h = tt
      waiting-on makes is (b ∷ bs) h = elim b.image as (λ x. AllByRecursion On (cond x bs (map before_link bs))) [ true ↦ h.1 | false ↦ before-on bs h.1 ]
      waiting-on fails is bs h = every-drop On 1 bs h

      reads-on : IsReading next
      reads-on =
          let front = take item.size q.ahead in
          let rest = drop item.size q.ahead in record {
            before = reading.before ++ front;
            are = reading.are ∙ ap (λ l. reading.before ++ l) halves ∙ sym (append_assoc reading.before front rest);
            waiting = waiting-on item.mark refl q.waiting (all-on q.waiting reading.waiting);
          }

    asked-stand : (n : ℕ) (q : Memory) (seats : List Seat) → q.ahead ≡ seats → IsReading q → AllByRecursion Stands (asked_from bytes on defined n q seats)
    asked-stand zero q seats ahead reading = tt
    asked-stand (suc n) q [] ahead reading = tt
    asked-stand (suc n) q (s ∷ ss) ahead reading =
        let text = bytes_of (s ∷ ss) in
        let item = inline_item_at on defined bytes q text in
        let rest = drop item.size (s ∷ ss) in
        let cut : ItemCut bytes q.ahead item = subst (λ l. ItemCut bytes l item) (sym ahead) (item-runs bytes on defined q s ss).0 in
        let opened : Opens q.ahead item = subst (λ l. Opens l item) (sym ahead) (item-opens on defined bytes q s ss) in
        every-append Stands (looked_up bytes on q text) (asked_from bytes on defined n (after_item bytes q item) rest) (looked-stand q s ss ahead reading)
        (asked-stand n (after_item bytes q item) rest (ap (drop item.size) ahead) (reads-on q item cut opened reading))

    pub labels-stand : AllByRecursion Stands (asked_labels bytes on defined all)
    labels-stand =
        let n = prefix_len is_white (bytes_of all) in
        let first = after_item bytes (nothing_read all) (white_space n) in
        asked-stand (length all) first (drop n all) refl (record { before = take n all; are = sym (take-append-drop n all); waiting = tt })

-- ---- documents

module _ (options : ParseOptions) (defined : List ℕ → Bool) (bytes : List ℕ) (is : IsDocument (document options bytes)) where
  abbrev g : Given
  g = document options bytes

  abbrev blocks : List Event
  blocks = blocks_of options bytes

  text-stands : (text : Text) → IsText g text → AllByRecursion (Stands g.tab bytes options.constructs defined) (asked_labels bytes options.constructs defined text.seats)
  text-stands text one =
      let p = shown bytes text.start in
      let course = text-course g text one in
      let from : (k : ℕ) → slice_index bytes (0 + k) ≡ slice_index bytes k = λ k. let z : 0 + k ≡ k = omega arith in ap (slice_index bytes) z in
      labels-stand g.tab bytes options.constructs defined p text.seats course
      (course-every AcrossGap g.tab bytes (IsWritten bytes) (written-virtual bytes g.tab 1 1 0 bytes from) p text.seats course)
      (course-every AcrossGap g.tab bytes (IsFed bytes) (fed-virtual bytes g.tab 1 1 0 bytes from) p text.seats course)

  texts-stand : (cs : List ℕ) → AllByRecursion (λ c. begins (Some content.Text) blocks c ≡ true) cs
      → AllByRecursion (Stands g.tab bytes options.constructs defined) (flat_map (λ c. asked_labels bytes options.constructs defined (chain_text g blocks c).seats) cs)
  texts-stand [] h = tt
  texts-stand (c ∷ cs) h =
      every-append (Stands g.tab bytes options.constructs defined) (asked_labels bytes options.constructs defined (chain_text g blocks c).seats) _
      (text-stands (chain_text g blocks c) (is-text g blocks is content.Text (content-ready skeleton-laws g is content.Text) c h.0)) (texts-stand cs h.1)

-- What is looked up in the texts of a document may stand between its brackets
pub asked-in-brackets : AskedLabelsAreInBrackets
asked-in-brackets options defined bytes is =
    let g = document options bytes in
    let blocks = blocks_of options bytes in
    texts-stand options defined bytes is (fitting_starts (Some content.Text) blocks) (all-begin g blocks is content.Text (content-ready skeleton-laws g is content.Text))
