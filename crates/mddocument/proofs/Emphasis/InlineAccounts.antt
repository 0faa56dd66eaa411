-- Each virtual byte of a text is in one innermost span of the events of leaf blocks with inline text.
use Rattle.mddocument.proofs.Prelude.{ℕ, Bool, List, [], ◌∷◌, ◌++◌, None, append_assoc, map, sym, subst, append-nil, AllByRecursion, flat_map, Constructs, ParseOptions, Event, Point, Seat, end_after, every-back, every-front, AccountFor, lines_in, string_seat_events, shown, AcrossGap, Course, course-every, course-on, text-course, AreSpans, Begins, accounts-kept, IsKeptBySpans, leaf_blocks, Mark, InlinesAccount, block_texts, inline_seat_events, read_marks}
use Rattle.mddocument.proofs.Emphasis.InlineReads.{balanced-of, read-lined, read_of}
use Rattle.mddocument.proofs.Emphasis.Pairs.{Opens, shut-account}
use Rattle.mddocument.proofs.Emphasis.Runs.{balanced-opens, balanced-shut}
use Rattle.mddocument.proofs.FlowTexts.Accounts.{bare-marks, cut-spans, linked-account}
use Rattle.mddocument.proofs.FlowTexts.InlineSteps.{Steps, steps-virtual}
use Rattle.mddocument.proofs.FlowTexts.Spans.{texts-keep}
use Rattle.mdinline_link_strings.proofs.Cuts.{string-cut}
use Rattle.mddocument.proofs.Innermost.Lined.{LinedFor}
use Rattle.mdinline_machine.specs.InlineRules.{no_labels}
use Rattle.mdinline_links.proofs.Leaves.{links-balanced}

begins-marks : (es : List Event) → Opens es → Begins (map (λ (e : Event). (e, None)) es)
begins-marks [] h = tt
begins-marks (e ∷ es) h = h

module _ (t : ℕ) (bytes : List ℕ) (options : ParseOptions) where
  abbrev on : Constructs
  on = options.constructs

  -- marks over virtual bytes of a text, wherever these are
  abbrev SpansThere : List Mark → List Seat → Type 0
  SpansThere marks seats = AllByRecursion (Steps bytes) seats → (p : Point) (rest : List Seat) → Course AcrossGap t bytes p (seats ++ rest) → AreSpans bytes marks seats

  both-there : (xs ys : List Mark) (a b : List Seat) → SpansThere xs a → SpansThere ys b → SpansThere (xs ++ ys) (a ++ b)
  both-there xs ys a b f g steps p rest course =
      let k = accounts-kept bytes in
      let whole = subst (Course AcrossGap t bytes p) (append_assoc a b rest) course in
      k.both (f (every-front (Steps bytes) a b steps) p (b ++ rest) whole) (g (every-back (Steps bytes) a b steps) (end_after p a) rest (course-on AcrossGap t bytes p a (b ++ rest) whole))

  kept : IsKeptBySpans bytes SpansThere
  kept =
      let k = accounts-kept bytes in
      record {
        none = λ steps p rest course. k.none;
        both = λ {xs} {ys} {a} {b} f g. both-there xs ys a b f g;
        leaf = λ n s ss w steps p rest course. k.leaf n s ss w;
        datum = λ c s ss w steps p rest course. k.datum c s ss w;
        text = λ lines starts w steps p rest course. k.text lines starts w;
        around = λ n s ss inside other f steps p rest course. k.around n s ss inside other (f steps p rest course);
      }

  -- inline text accounts for such virtual bytes, line by line
  pub inline-lined : (defined : List ℕ → Bool) (seats : List Seat) → AllByRecursion (Steps bytes) seats → (p : Point) (rest : List Seat) → Course AcrossGap t bytes p (seats ++ rest) → LinedFor (inline_seat_events defined options bytes seats) bytes seats
  inline-lined defined seats steps p rest course = read-lined t bytes defined on seats p rest course steps options.gfm_strikethrough_single_tilde

  inline-spans : (defined : List ℕ → Bool) (seats : List Seat) → SpansThere (read_marks (inline_seat_events defined options bytes) bytes seats) seats
  inline-spans defined seats steps p rest course =
      let read = inline_seat_events defined options bytes seats in
      let balanced = links-balanced options.gfm_strikethrough_single_tilde bytes (read_of t bytes defined on seats) (balanced-of t bytes defined on seats) in
      let account = (inline-lined defined seats steps p rest course).account in
      record {
        begins = begins-marks read (balanced-opens balanced);
        account = λ events more h. subst (λ l. AccountFor (l ++ events) bytes (seats ++ more)) (sym (bare-marks read)) (shut-account bytes read events seats more (balanced-shut balanced) account h);
      }

pub inlines-account : InlinesAccount
inlines-account g text is =
    let on = g.options.constructs in
    let reads = inline_seat_events no_labels g.options g.bytes in
    let strings = string_seat_events on g.bytes in
    let seats = text.seats in
    let p = shown g.bytes text.start in
    let course = text-course g text is in
    let steps = course-every AcrossGap g.tab g.bytes (Steps g.bytes) (steps-virtual g.bytes g.tab) p seats course in
    linked-account g.bytes (flat_map (block_texts reads strings g.bytes) (leaf_blocks on (lines_in seats))) seats
    (texts-keep on reads strings g.bytes (SpansThere g.tab g.bytes g.options) (kept g.tab g.bytes g.options) (inline-spans g.tab g.bytes g.options no_labels)
    (λ string steps p rest course. cut-spans g.bytes strings (string-cut on g.bytes) string) seats steps p [] (subst (Course AcrossGap g.tab g.bytes p) (sym (append-nil seats)) course))
