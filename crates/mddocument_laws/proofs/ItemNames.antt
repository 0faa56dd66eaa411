-- The events of the items of inline text, and of strings, have names of the constructs that are on.
use Rattle.mddocument_laws.proofs.Prelude.{Seat, is_white, leaf, span, backticks, has_byte_at, is_backtick, is_greater_than, is_less_than, is_line_feed, passes, BracketMark, Found, Grammar, fails, first_there, if_on, makes, opens, or_else, plain, escape, escape_at, item_length, cut, cut_remembering, line_ending, part, part_events, plain_run, item_events, Kind, body_at, decimal, hexadecimal, mark_events, named, number_at, reference, reference_at, value_at, white_space, white_space_at}
use Rattle.std.proofs.Common.{◌≡◌, ℕ, zero, suc, ◌+◌, ◌-◌, List, [], ◌∷◌, ◌++◌, Bool, true, cond, inl, not, Some, None, Option, refl, take, drop, length, map, inr, subst, sym}
use Rattle.std.proofs.lemmas.Bool.{and_from, and_parts, cond_both, false≢true, or_left, or_right}
use Rattle.std.specs.List.{AllByRecursion, between, flat_map, position_or_len, prefix_len}
use Rattle.std.specs.Option.{is_some, option_and_then, option_or}
use Rattle.std.specs.Prelude.{◌&&◌, ◌||◌, option_map, slice_get}
use Rattle.markdown_base.proofs.Common.{every-append, every-drop}
use Rattle.markdown_base.specs.declared.configuration.Constructs.{Constructs}
use Rattle.markdown_base.specs.declared.event.Event.{Event}
use Rattle.markdown_base.specs.declared.event.Name.{Name}
use Rattle.markdown_base.specs.declared.event.Name.TheVariants as name
use Rattle.mdinline_labels.specs.Labels.{is_label}
use Rattle.mdinline_labels.specs.declared.resources.Resource.{Resource as Parts}
use Rattle.mdinline_labels.specs.Resources.{resource_at}
use Rattle.mdinline_text_machine.specs.Autolink.{autolink, autolink_at, autolink_to, uri}
use Rattle.mdinline_text_machine.specs.CodeSpan.{before_backtick_string, code_span_with}
use Rattle.mdinline_text_machine.specs.Parts.{Part, bytes_of}
use Rattle.mdinline_constructs.specs.Email.{email, email_at, email_with}
use Rattle.mdinline_constructs.specs.HardBreak.{break_escape_at, hard_break_escape, hard_break_trailing, trailing_break_at}
use Rattle.mdinline_constructs.specs.HtmlMarked.{marked}
use Rattle.mdinline_constructs.specs.HtmlTag.{tag_length}
use Rattle.mdinline_constructs.specs.HtmlText.{Piece, data_run as html_run, has_blank_line, html, html_of, line_break as html_break, piece_at, piece_events, piece_length}
use Rattle.mdinline_constructs.specs.LinedCode.{code_piece_at, code_piece_events, lined_code_at, lined_events}
use Rattle.mdinline_link_tails.specs.Resource.{resource, string_events, unmarked}
use Rattle.mdinline_full_references.specs.FullReference.{full_reference, label_length, label_text}
use Rattle.mdinline_machine.specs.Brackets.{Bracket, Memory, after_item, are_brackets, before_link, bytes_before, has_bracket, spanned_bytes, begins_end, begins_link, bracket_at, collapsed_reference, end_at, end_of_last, image_bracket, is_image_bracket, is_wanted_at, label_end, link_bracket, lone_end, no_tail, nothing_read, own_is_defined, own_tail, tail_of, waiting_behind}
use Rattle.mdinline_machine.specs.InlineEvents.{bracket_or_part, data_length, data_run, delimiter_run, inline_grammars, inline_item_at, inline_items, line_break, run_length, run_or_part}
use Rattle.mdinline_machine.specs.RunRows.{begins_run}
use Rattle.mdinline_link_strings.specs.StringItems.{is_string_special, string_data, string_grammars, string_item_at, string_items, string_part, string_seat_events}
use Rattle.mddocument.proofs.FlowTexts.InlineSteps.{Steps}
use Rattle.mddocument_laws.specs.Names.{has_labels}
use Rattle.mddocument_laws.proofs.Named.{and as named-and, leafed, spanned}
use Rattle.mddocument_laws.proofs.RunNames.{MayRun, named-may, others-may, run-may}
use Rattle.mddocument_laws.proofs.SpanNames.{Inner, May, Outer, outer-both, outer-none, outer-span, together}
use Rattle.mddocument_laws.proofs.WholeSpans.{around-whole, both-whole, none-whole}
use Rattle.mddocument_laws.proofs.SpanNames as spans
use Rattle.mddocument_laws.proofs.TailSpans.{AreInResource, IsKeptInside, are-in-resource, in-marks, in-resources, strings-of}

module _ (on : Constructs) where
  abbrev Are : List Event → Type 0
  Are es = Inner on es

  -- brackets of links or of images are on
  abbrev HasBrackets : Type 0
  HasBrackets = (on.label_start_link || on.label_start_image) ≡ true

  -- what waits as a bracket is on
  abbrev MayOpen : BracketMark → Type 0
  MayOpen (opens image) = HasBrackets
  MayOpen _ = Unit {0}

  -- what is found leaves the brackets that wait as they are, and has such names
  pub record IsItem (f : Found) : Type 0 where
    pub mark : f.mark ≡ plain
    pub names : (bytes : List ℕ) (seats : List Seat) → Are (f.events bytes seats)

  -- an end of a label opens no bracket either
  pub record IsEnd (f : Found) : Type 0 where
    pub opens : MayOpen f.mark
    pub names : (bytes : List ℕ) (seats : List Seat) → Are (f.events bytes seats)

  abbrev pub IfItem : Option Found → Type 0
  IfItem None = Unit {0}
  IfItem (Some f) = IsItem f

  -- ---- spans
  nothing : Are []
  nothing = spans.nothing on

  and : {xs ys : List Event} → Are xs → Are ys → Are (xs ++ ys)
  and {xs} {ys} h k = together on xs ys h k

  over : (bytes : List ℕ) (n : Name) (seats : List Seat) (inside : List Event) → May on n → Are inside → Are (span bytes n seats inside)
  over bytes n seats inside p h = spans.over on bytes n seats inside p h

  leafs : (bytes : List ℕ) (n : Name) (seats : List Seat) → May on n → Are (leaf bytes n seats)
  leafs bytes n seats p = spans.leafs on bytes n seats p

  named-flat : {A : Type 0} (f : A → List Event) (xs : List A) → ((x : A) → Are (f x)) → Are (flat_map f xs)
  named-flat f xs h = spans.flat on f xs h

  parts-named : (bytes : List ℕ) (n : Name) (p : Part × List Seat) → May on n → Are (part_events bytes n p)
  parts-named bytes n (line_ending, seats) h = leafs bytes name.LineEnding seats refl
  parts-named bytes n (plain_run k, seats) h = leafs bytes n seats h

  -- ---- code spans, autolinks, escapes, hard breaks, white space
  code-named : (bytes : List ℕ) (p : Piece × List Seat) → on.code_text ≡ true → Are (code_piece_events bytes p)
  code-named bytes (html_break n, seats) h = search (together, leafs)
  code-named bytes (html_run n, seats) h = leafs bytes name.CodeTextData seats h

  code-item : (b i : ℕ) → on.code_text ≡ true → IsItem (code_span_with lined_events b i)
  code-item b i h = record {
    mark = refl;
    names = λ bytes seats.
        let middle = between b (b + i) seats in
        let inside = named-flat (code_piece_events bytes) (cut code_piece_at piece_length (length middle) middle) (λ p. code-named bytes p h) in
        over bytes name.CodeText seats _ h (and (leafs bytes name.CodeTextSequence (take b seats) h) (and inside (leafs bytes name.CodeTextSequence (drop (b + i) seats) h)));
  }

  mapped : {A : Type 0} (f : A → Found) (o : Option A) → ((a : A) → IsItem (f a)) → IfItem (option_map f o)
  mapped f None h = tt
  mapped f (Some a) h = h a

  codes-fit : (text : List ℕ) → on.code_text ≡ true → IfItem (lined_code_at text)
  codes-fit text h = cond_both (has_byte_at text 0 is_backtick) _ None IfItem (λ e. mapped (code_span_with lined_events (backticks text)) (before_backtick_string (backticks text) (drop (backticks text) text)) (λ i. code-item (backticks text) i h)) (λ e. tt)

  autolink-item : (n : ℕ) → on.autolink ≡ true → IsItem (autolink n)
  autolink-item n h = record { mark = refl; names = λ bytes seats. search (together, over, leafs, h) }

  autolinks-to : (text : List ℕ) (o : Option ℕ) → on.autolink ≡ true → IfItem (autolink_to text o)
  autolinks-to text None h = tt
  autolinks-to text (Some n) h = cond_both (has_byte_at text (n + 1) is_greater_than) (Some (autolink n)) None IfItem (λ e. autolink-item n h) (λ e. tt)

  autolinks-fit : (text : List ℕ) → on.autolink ≡ true → IfItem (autolink_at text)
  autolinks-fit text h = cond_both (has_byte_at text 0 is_less_than) _ None IfItem (λ e. autolinks-to text (uri (drop 1 text)) h) (λ e. tt)

  email-item : (n : ℕ) → on.autolink ≡ true → IsItem (email n)
  email-item n h = record { mark = refl; names = λ bytes seats. search (together, over, leafs, h) }

  email-with : (text : List ℕ) (n : ℕ) → on.autolink ≡ true → IfItem (email_with text n)
  email-with text n h = cond_both _ (Some (email _)) None IfItem (λ e. email-item _ h) (λ e. tt)

  emails-fit : (text : List ℕ) → on.autolink ≡ true → IfItem (email_at text)
  emails-fit text h = cond_both (has_byte_at text 0 is_less_than) _ None IfItem (λ e. email-with text _ h) (λ e. tt)

  escape-item : on.character_escape ≡ true → IsItem escape
  escape-item h = record { mark = refl; names = λ bytes seats. search (together, over, leafs, h) }

  escapes-fit : (text : List ℕ) → on.character_escape ≡ true → IfItem (escape_at text)
  escapes-fit text h = cond_both _ (Some escape) None IfItem (λ e. escape-item h) (λ e. tt)

  break-escapes-fit : (text : List ℕ) → on.hard_break_escape ≡ true → IfItem (break_escape_at text)
  break-escapes-fit text h = cond_both _ (Some hard_break_escape) None IfItem (λ e. record { mark = refl; names = λ bytes seats. leafs bytes name.HardBreakEscape seats h }) (λ e. tt)

  trailing-fit : (text : List ℕ) → on.hard_break_trailing ≡ true → IfItem (trailing_break_at text)
  trailing-fit text h = cond_both _ (Some (hard_break_trailing _)) None IfItem (λ e. record { mark = refl; names = λ bytes seats. leafs bytes name.HardBreakTrailing seats h }) (λ e. tt)

  white-item : (n : ℕ) → IsItem (white_space n)
  white-item n = record { mark = refl; names = λ bytes seats. leafs bytes name.SpaceOrTab seats refl }

  whites-fit : (text : List ℕ) → IfItem (white_space_at text)
  whites-fit text = cond_both _ (Some (white_space _)) None IfItem (λ e. white-item _) (λ e. tt)

  -- ---- raw HTML
  piece-named : (bytes : List ℕ) (p : Piece × List Seat) → on.html_text ≡ true → Are (piece_events bytes p)
  piece-named bytes (html_break n, seats) h = search (together, leafs)
  piece-named bytes (html_run n, seats) h = leafs bytes name.HtmlTextData seats h

  html-item : (n : ℕ) → on.html_text ≡ true → IsItem (html n)
  html-item n h = record {
    mark = refl;
    names = λ bytes seats. over bytes name.HtmlText seats _ h (named-flat (piece_events bytes) (cut piece_at piece_length (length seats) seats) (λ p. piece-named bytes p h));
  }

  htmls-of : (text : List ℕ) (o : Option ℕ) → on.html_text ≡ true → IfItem (html_of text o)
  htmls-of text None h = tt
  htmls-of text (Some n) h = cond_both (has_blank_line (take n text)) None (Some (html n)) IfItem (λ e. tt) (λ e. html-item n h)

  -- ---- character references
  marks-named : (bytes : List ℕ) (kind : Kind) (seats : List Seat) → on.character_reference ≡ true → Are (mark_events bytes kind seats)
  marks-named bytes named seats h = leafs bytes name.CharacterReferenceMarker _ h
  marks-named bytes kind seats h = search (together, leafs, h)

  reference-item : (kind : Kind) (n : ℕ) → on.character_reference ≡ true → IsItem (reference kind n)
  reference-item kind n h = record { mark = refl; names = λ bytes seats. search (together, over, leafs, marks-named, h) }

  values-fit : (kind : Kind) (text : List ℕ) → on.character_reference ≡ true → IfItem (value_at kind text)
  values-fit kind text h = cond_both _ (Some (reference kind _)) None IfItem (λ e. reference-item kind _ h) (λ e. tt)

  numbers-fit : (text : List ℕ) → on.character_reference ≡ true → IfItem (number_at text)
  numbers-fit text h = cond_both _ (value_at hexadecimal (drop 1 text)) (value_at decimal text) IfItem (λ e. values-fit hexadecimal (drop 1 text) h) (λ e. values-fit decimal text h)

  bodies-fit : (text : List ℕ) → on.character_reference ≡ true → IfItem (body_at text)
  bodies-fit text h = cond_both _ (number_at (drop 1 text)) (value_at named text) IfItem (λ e. numbers-fit (drop 1 text) h) (λ e. values-fit named text h)

  references-fit : (text : List ℕ) → on.character_reference ≡ true → IfItem (reference_at text)
  references-fit text h = cond_both _ (body_at (drop 1 text)) None IfItem (λ e. bodies-fit (drop 1 text) h) (λ e. tt)

  -- ---- the first construct that is there
  abbrev pub Fits : Grammar Found → Type 0
  Fits grammar = grammar.on on ≡ true → (text : List ℕ) → IfItem (grammar.front text)

  or-item : (o : Option Found) (other : Found) → IfItem o → IsItem other → IsItem (or_else o other)
  or-item None other h k = k
  or-item (Some f) other h k = h

  first-item : (grammars : List (Grammar Found)) (text : List ℕ) (other : Found) → AllByRecursion Fits grammars → IsItem other → IsItem (first_there grammars on text other)
  first-item [] text other h k = k
  first-item (grammar ∷ grammars) text other h k =
      or-item (if_on (grammar.on on) (grammar.front text)) (first_there grammars on text other) (cond_both (grammar.on on) (grammar.front text) None IfItem (λ e. h.0 e text) (λ e. tt)) (first-item grammars text other h.1 k)

  pub strings-fit : AllByRecursion Fits string_grammars
  strings-fit = (λ h text. escapes-fit text h, (λ h text. references-fit text h, tt))

  pub inlines-fit : AllByRecursion Fits inline_grammars
  inlines-fit = (
    λ h text. codes-fit text h,
    (
      λ h text. autolinks-fit text h,
      (
        λ h text. emails-fit text h,
        (
          λ h text. htmls-of text (marked text) h,
          (
            λ h text. htmls-of text (tag_length text) h,
            (
              λ h text. escapes-fit text h,
              (
                λ h text. break-escapes-fit text h,
                (
                  λ h text. references-fit text h,
                  (λ h text. trailing-fit text h, (λ h text. whites-fit text, tt)),
                ),
              ),
            ),
          ),
        ),
      ),
    ),
  )

  -- ---- strings
  part-item : (p : Part) → IsItem (part p)
  part-item p = record { mark = refl; names = λ bytes seats. parts-named bytes name.Data (p, seats) refl }

  string-item : (text : List ℕ) → IsItem (string_item_at on text)
  string-item text =
      first-item string_grammars text (string_part text) strings-fit
      (cond_both (has_byte_at text 0 is_line_feed) (part line_ending) (string_data text) IsItem (λ e. part-item line_ending) (λ e. part-item (plain_run (1 + position_or_len is_string_special (drop 1 text)))))

  cut-items : (bound : ℕ) (seats : List Seat) → AllByRecursion (λ (p : Found × List Seat). IsItem p.0) (cut (string_item_at on) item_length bound seats)
  cut-items zero seats = tt
  cut-items (suc bound) [] = tt
  cut-items (suc bound) (s ∷ ss) = (string-item (bytes_of (s ∷ ss)), cut-items bound _)

  pub items-named : (bytes : List ℕ) (items : List (Found × List Seat)) → AllByRecursion (λ (p : Found × List Seat). IsItem p.0) items → Are (flat_map (item_events bytes) items)
  items-named bytes [] h = nothing
  items-named bytes ((f, seats) ∷ items) h = and (h.0.names bytes seats) (items-named bytes items h.1)

  pub strings-named : (bytes : List ℕ) (seats : List Seat) → Are (string_seat_events on bytes seats)
  strings-named bytes seats = items-named bytes (string_items on seats) (cut-items (length seats) seats)

  -- ---- tails of links
  inner-kept : (bytes : List ℕ) → IsKeptInside bytes (May on) Are
  inner-kept bytes = record { none = nothing; both = together on; span_around = over bytes }

  in-resource-names : has_labels on ≡ true → AreInResource (May on)
  in-resource-names labels = are-in-resource (May on) (refl, (refl, (refl, (labels, (labels, (labels, (labels, (labels, (labels, (labels, (labels, tt)))))))))))

  -- ---- ends of labels, by which labels are defined: some are only where definitions are on
  module _ (labels : has_labels on ≡ true) (defined : List ℕ → Bool) (bytes : List ℕ) (defs : (label : List ℕ) → defined label ≡ true → on.definition ≡ true) where
    resource-item : (r : Parts) → IsItem (resource r)
    resource-item r = record {
      mark = refl;
      names = λ bytes seats.
          in-marks bytes (May on) Are (inner-kept bytes) name.Resource name.ResourceMarker _ seats labels labels (in-resources bytes (May on) Are (inner-kept bytes) (in-resource-names labels) r.destination r.title (r.size - 1) seats);
    }

    full-item : (n : ℕ) → on.definition ≡ true → IsItem (full_reference n)
    full-item n d =
        let r : (has_labels on && on.definition) ≡ true = and_from (has_labels on) on.definition labels d in
        record {
          mark = refl;
          names = λ bytes seats.
              in-marks bytes (May on) Are (inner-kept bytes) name.Reference name.ReferenceMarker _ seats r r
              (over bytes name.ReferenceString (unmarked bytes seats) _ r (strings-of bytes (May on) Are (inner-kept bytes) (in-resource-names labels) (unmarked bytes seats)));
        }

    own-item : (behind : List ℕ) → on.definition ≡ true → IsItem (own_tail behind)
    own-item behind d =
        let r : (has_labels on && on.definition) ≡ true = and_from (has_labels on) on.definition labels d in
        cond_both (are_brackets behind) collapsed_reference no_tail IsItem (λ e. record { mark = refl; names = λ bytes seats. in-marks bytes (May on) Are (inner-kept bytes) name.Reference name.ReferenceMarker [] seats r r nothing })
        (λ e. record { mark = refl; names = λ bytes seats. nothing })

    full-fits : (wanted : List ℕ → Bool) → ((label : List ℕ) → wanted label ≡ true → on.definition ≡ true) → (text : List ℕ) (o : Option ℕ)
        → IfItem (option_and_then (λ n. cond (wanted (label_text n text)) (Some (full_reference n)) None) o)
    full-fits wanted w text None = tt
    full-fits wanted w text (Some n) = cond_both (wanted (label_text n text)) (Some (full_reference n)) None IfItem (λ e. full-item n (w (label_text n text) e)) (λ e. tt)

    either : (o p : Option Found) → IfItem o → IfItem p → IfItem (option_or o p)
    either None p h k = k
    either (Some f) p h k = h

    wanted-defined : (ahead : List Seat) (label : List ℕ) → is_wanted_at defined bytes ahead label ≡ true → on.definition ≡ true
    wanted-defined ahead label e =
        let text = drop 2 ahead in
        let found = spanned_bytes (bytes_before bytes (drop (length label) text)) (string_events bytes (take (length label) text)) in
        defs found (and_parts (is_label found) (defined found) e).1

    own-defined : (b : Bracket) (m : Memory) → own_is_defined defined bytes b m ≡ true → on.definition ≡ true
    own-defined b m e =
        let es = drop b.count m.events in
        let label = spanned_bytes (bytes_before bytes m.ahead) es in
        defs label (and_parts (is_label label) (defined label) (and_parts (not (has_bracket es)) (is_label label && defined label) e).1).1

    tails-fit : (b : Bracket) (m : Memory) (behind : List ℕ) → IfItem (tail_of defined bytes b m behind)
    tails-fit b m behind =
        either _ _ (mapped resource (resource_at behind) resource-item)
        (either _ _ (full-fits (is_wanted_at defined bytes m.ahead) (wanted-defined m.ahead) behind (label_length behind))
        (cond_both (not (is_some (label_length behind)) && own_is_defined defined bytes b m) (Some (own_tail behind)) None IfItem (λ e. own-item behind (own-defined b m (and_parts _ _ e).1)) (λ e. tt)))

    lone-item : IsEnd lone_end
    lone-item = record { opens = tt; names = λ bytes seats. leafs bytes name.LabelMarker seats labels }

    end-item : (tail : Found) → IsItem tail → IsEnd (label_end tail)
    end-item tail h = record {
      opens = tt;
      names = λ bytes seats. and (over bytes name.LabelEnd (take 1 seats) _ labels (leafs bytes name.LabelMarker (take 1 seats) labels)) (h.names bytes (drop 1 seats));
    }

    tailed : (o : Option Found) → IfItem o → IsEnd (or_else (option_map label_end o) lone_end)
    tailed None h = lone-item
    tailed (Some f) h = end-item f h

    pub ends-fit : (b : Bracket) (m : Memory) (behind : List ℕ) → IsEnd (end_of_last defined bytes b m behind)
    ends-fit b m behind = cond_both b.inactive lone_end _ IsEnd (λ e. lone-item) (λ e. tailed (tail_of defined bytes b m behind) (tails-fit b m behind))

  -- ---- brackets, by what is remembered: brackets wait only where they are on
  abbrev MayWait : List Bracket → Type 0
  MayWait [] = Unit {0}
  MayWait (b ∷ bs) = HasBrackets

  any-waits : (bs : List Bracket) → HasBrackets → MayWait bs
  any-waits [] h = tt
  any-waits (b ∷ bs) h = h

  waits-behind : (mark : BracketMark) (count : ℕ) (bs : List Bracket) → MayOpen mark → MayWait bs → MayWait (waiting_behind mark count bs)
  waits-behind plain count bs o h = h
  waits-behind (opens image) count bs o h = o
  waits-behind makes count [] o h = tt
  waits-behind makes count (b ∷ bs) o h = cond_both b.image bs (map before_link bs) MayWait (λ e. any-waits bs h) (λ e. any-waits (map before_link bs) h)
  waits-behind fails count [] o h = tt
  waits-behind fails count (b ∷ bs) o h = any-waits bs h

  passes-first : (b : Bool) (test : ℕ → Bool) (o : Option ℕ) → passes (λ byte. b && test byte) o ≡ true → b ≡ true
  passes-first b test None h = absurd (cc)
  passes-first b test (Some byte) h = (and_parts b (test byte) h).0

  -- ---- items of inline text: those, and brackets, which have such names only if ends of labels are on; and runs of the markers that are on
  record IsOuter (text : List ℕ) (f : Found) : Type 0 where
    opens : MayOpen f.mark
    outer : (bytes : List ℕ) (seats : List Seat) → Outer on (f.events bytes seats)
    runs : (bytes : List ℕ) (seats : List Seat) → bytes_of seats ≡ text → AllByRecursion (Steps bytes) seats → AllByRecursion (MayRun on bytes) (f.events bytes (take f.size seats))

  abbrev IfOuter : List ℕ → Option Found → Type 0
  IfOuter text None = Unit {0}
  IfOuter text (Some f) = IsOuter text f

  ended : (text : List ℕ) (f : Found) → IsEnd f → IsOuter text f
  ended text f h = record {
    opens = h.opens;
    outer = λ bytes seats. (h.names bytes seats).outer;
    runs = λ bytes seats same steps. let l = take f.size seats in named-may on bytes (f.events bytes l) (h.names bytes l).named;
  }

  loosened : (text : List ℕ) (f : Found) → IsItem f → IsOuter text f
  loosened text f h = ended text f (record { opens = subst MayOpen (sym h.mark) tt; names = h.names })

  if-loosened : (text : List ℕ) (o : Option Found) → IfItem o → IfOuter text o
  if-loosened text None h = tt
  if-loosened text (Some f) h = loosened text f h

  or-outer : (text : List ℕ) (o : Option Found) (other : Found) → IfOuter text o → IsOuter text other → IsOuter text (or_else o other)
  or-outer text None other h k = k
  or-outer text (Some f) other h k = h

  first-outer : (grammars : List (Grammar Found)) (text : List ℕ) (other : Found) → AllByRecursion Fits grammars → IsOuter text other → IsOuter text (first_there grammars on text other)
  first-outer [] text other h k = k
  first-outer (grammar ∷ grammars) text other h k =
      or-outer text (if_on (grammar.on on) (grammar.front text)) (first_there grammars on text other)
      (cond_both (grammar.on on) (grammar.front text) None (IfOuter text) (λ e. if-loosened text (grammar.front text) (h.0 e text)) (λ e. tt)) (first-outer grammars text other h.1 k)

  link-item : (text : List ℕ) → on.label_start_link ≡ true → IsOuter text link_bracket
  link-item text h = record { opens = or_left on.label_start_link on.label_start_image h; outer = events; runs = λ bytes seats same steps. no-runs bytes (take 1 seats) }
    where
      link : on.label_end ≡ true → May on name.LabelLink
      link e = and_from on.label_end on.label_start_link e h

      label : on.label_end ≡ true → May on name.LabelMarker
      label e = and_from on.label_end (on.label_start_link || on.label_start_image) e (or_left on.label_start_link on.label_start_image h)

      no-runs : (bytes : List ℕ) (seats : List Seat) → AllByRecursion (MayRun on bytes) (link_bracket.events bytes seats)
      no-runs bytes [] = tt
      no-runs bytes (s ∷ ss) = others-may on bytes (link_bracket.events bytes (s ∷ ss)) (refl, (refl, (refl, (refl, tt))))

      events : (bytes : List ℕ) (seats : List Seat) → Outer on (link_bracket.events bytes seats)
      events bytes [] = outer-none on
      events bytes (s ∷ ss) =
          let seats = s ∷ ss in
          outer-span on bytes name.LabelLink s ss (leaf bytes name.LabelMarker seats) (around-whole bytes name.LabelMarker s ss [] none-whole) (refl, (refl, tt))
          (record { named = λ b e. spanned bytes name.LabelLink seats (link e) (leafed bytes name.LabelMarker seats (label e)); either = inl refl }) refl

  image-item : (text : List ℕ) → on.label_start_image ≡ true → IsOuter text image_bracket
  image-item text h = record { opens = or_right on.label_start_link on.label_start_image h; outer = events; runs = λ bytes seats same steps. no-runs bytes (take 2 seats) }
    where
      image : on.label_end ≡ true → May on name.LabelImage
      image e = and_from on.label_end on.label_start_image e h

      label : on.label_end ≡ true → May on name.LabelMarker
      label e = and_from on.label_end (on.label_start_link || on.label_start_image) e (or_right on.label_start_link on.label_start_image h)

      no-runs : (bytes : List ℕ) (seats : List Seat) → AllByRecursion (MayRun on bytes) (image_bracket.events bytes seats)
      no-runs bytes [] = tt
      no-runs bytes (s ∷ []) = others-may on bytes (image_bracket.events bytes (s ∷ [])) (refl, (refl, (refl, (refl, tt))))
      no-runs bytes (s ∷ r ∷ rs) = others-may on bytes (image_bracket.events bytes (s ∷ r ∷ rs)) (refl, (refl, (refl, (refl, (refl, (refl, tt))))))

      events : (bytes : List ℕ) (seats : List Seat) → Outer on (image_bracket.events bytes seats)
      events bytes [] = outer-none on
      events bytes (s ∷ []) =
          outer-span on bytes name.LabelImage s [] (leaf bytes name.LabelImageMarker (s ∷ [])) (around-whole bytes name.LabelImageMarker s [] [] none-whole) (refl, (refl, tt))
          (record { named = λ b e. spanned bytes name.LabelImage (s ∷ []) (image e) (leafed bytes name.LabelImageMarker (s ∷ []) (image e)); either = inl refl }) refl
      events bytes (s ∷ r ∷ rs) =
          let first = leaf bytes name.LabelImageMarker (s ∷ []) in
          let second = leaf bytes name.LabelMarker (r ∷ rs) in
          outer-span on bytes name.LabelImage s (r ∷ rs) (first ++ second) (both-whole first second (around-whole bytes name.LabelImageMarker s [] [] none-whole) (around-whole bytes name.LabelMarker r rs [] none-whole))
          (refl, (refl, (refl, (refl, tt))))
          (record {
            named = λ b e. spanned bytes name.LabelImage (s ∷ r ∷ rs) (image e) (named-and (leafed bytes name.LabelImageMarker (s ∷ []) (image e)) (leafed bytes name.LabelMarker (r ∷ rs) (label e)));
            either = inl refl;
          }) refl

  module _ (defined : List ℕ → Bool) (bytes : List ℕ) (defs : (label : List ℕ) → defined label ≡ true → on.definition ≡ true) where
    end-fits : (text : List ℕ) (bs : List Bracket) (m : Memory) (behind : List ℕ) → MayWait bs → on.label_end ≡ true → IfOuter text (end_at defined bytes bs m behind)
    end-fits text [] m behind h e = tt
    end-fits text (b ∷ bs) m behind h e =
        ended text (end_of_last defined bytes b m behind) (ends-fit (and_from on.label_end (on.label_start_link || on.label_start_image) e h) defined bytes defs b m behind)

    brackets-fit : (m : Memory) (text : List ℕ) → MayWait m.waiting → IfOuter text (bracket_at on defined bytes m text)
    brackets-fit m text h =
        cond_both (has_byte_at text 0 (begins_link on)) (Some link_bracket) _ (IfOuter text) (λ e. link-item text (passes-first on.label_start_link _ (slice_get text 0) e)) (λ e0.
        cond_both (is_image_bracket on text) (Some image_bracket) _ (IfOuter text) (λ e. image-item text (passes-first on.label_start_image _ (slice_get text 0) (and_parts _ _ e).0)) (λ e1.
        cond_both (has_byte_at text 0 (begins_end on)) (end_at defined bytes m.waiting m (drop 1 text)) None (IfOuter text) (λ e. end-fits text m.waiting m (drop 1 text) h (passes-first on.label_end _ (slice_get text 0) e)) (λ e2. tt)))

    -- a delimiter run is a run
    run-outer : (text : List ℕ) (n : ℕ) → has_byte_at text 0 (begins_run on) ≡ true → IsOuter text (delimiter_run n)
    run-outer text n begins = record { opens = tt; outer = λ given seats. sequence given seats; runs = λ given seats same steps. taken n given seats (subst (λ t. has_byte_at t 0 (begins_run on) ≡ true) (sym same) begins) steps }
      where
        sequence : (given : List ℕ) (seats : List Seat) → Outer on (leaf given name.AttentionSequence seats)
        sequence given [] = outer-none on
        sequence given (s ∷ ss) = outer-span on given name.AttentionSequence s ss [] none-whole tt (record { named = λ b e. absurd (false≢true b); either = inr (inl refl) }) refl

        taken : (k : ℕ) (given : List ℕ) (seats : List Seat) → has_byte_at (bytes_of seats) 0 (begins_run on) ≡ true → AllByRecursion (Steps given) seats
            → AllByRecursion (MayRun on given) (leaf given name.AttentionSequence (take k seats))
        taken k given [] first steps = absurd (false≢true first)
        taken zero given (s ∷ ss) first steps = tt
        taken (suc k) given (s ∷ ss) first steps = run-may on given s (take k ss) first steps.0

    run-item : (text : List ℕ) → IsOuter text (run_or_part on text)
    run-item text =
        cond_both (has_byte_at text 0 (begins_run on)) (delimiter_run (run_length text)) _ (IsOuter text) (λ e. run-outer text (run_length text) e) (λ e0.
        cond_both (has_byte_at text 0 is_line_feed) (line_break (prefix_len is_white (drop 1 text))) (data_run (data_length on text)) (IsOuter text)
        (λ e. loosened text (line_break (prefix_len is_white (drop 1 text))) (record { mark = refl; names = λ given seats. search (together, leafs) }))
        (λ e. loosened text (data_run (data_length on text)) (record { mark = refl; names = λ given seats. leafs given name.Data seats refl })))

    inline-item : (m : Memory) (text : List ℕ) → MayWait m.waiting → IsOuter text (inline_item_at on defined bytes m text)
    inline-item m text h =
        first-outer inline_grammars text (bracket_or_part on defined bytes m text) inlines-fit
        (or-outer text (bracket_at on defined bytes m text) (run_or_part on text) (brackets-fit m text h) (run-item text))

    waits-next : (m : Memory) (s : Seat) (ss : List Seat) → MayWait m.waiting → MayWait (after_item bytes m (inline_item_at on defined bytes m (bytes_of (s ∷ ss)))).waiting
    waits-next m s ss h =
        let f = inline_item_at on defined bytes m (bytes_of (s ∷ ss)) in
        waits-behind f.mark (length (m.events ++ f.events bytes (take f.size m.ahead))) m.waiting (inline-item m (bytes_of (s ∷ ss)) h).opens h

    -- what is cut from the front
    abbrev cut_from : ℕ → Memory → List Seat → List Event
    cut_from bound m seats = flat_map (item_events bytes) (cut_remembering (after_item bytes) (inline_item_at on defined bytes) item_length bound m seats)

    cut-outer : (bound : ℕ) (m : Memory) (seats : List Seat) → MayWait m.waiting → Outer on (cut_from bound m seats)
    cut-outer zero m seats h = outer-none on
    cut-outer (suc bound) m [] h = outer-none on
    cut-outer (suc bound) m (s ∷ ss) h =
        let f = inline_item_at on defined bytes m (bytes_of (s ∷ ss)) in
        outer-both on (f.events bytes (take f.size (s ∷ ss))) (cut_from bound (after_item bytes m f) (drop f.size (s ∷ ss))) ((inline-item m (bytes_of (s ∷ ss)) h).outer bytes (take f.size (s ∷ ss)))
        (cut-outer bound (after_item bytes m f) (drop f.size (s ∷ ss)) (waits-next m s ss h))

    cut-runs : (bound : ℕ) (m : Memory) (seats : List Seat) → MayWait m.waiting → AllByRecursion (Steps bytes) seats → AllByRecursion (MayRun on bytes) (cut_from bound m seats)
    cut-runs zero m seats h steps = tt
    cut-runs (suc bound) m [] h steps = tt
    cut-runs (suc bound) m (s ∷ ss) h steps =
        let f = inline_item_at on defined bytes m (bytes_of (s ∷ ss)) in
        every-append (MayRun on bytes) (f.events bytes (take f.size (s ∷ ss))) (cut_from bound (after_item bytes m f) (drop f.size (s ∷ ss))) ((inline-item m (bytes_of (s ∷ ss)) h).runs bytes (s ∷ ss) refl steps)
        (cut-runs bound (after_item bytes m f) (drop f.size (s ∷ ss)) (waits-next m s ss h) (every-drop (Steps bytes) f.size (s ∷ ss) steps))

    module _ (seats : List Seat) where
      abbrev first_white : ℕ
      first_white = prefix_len is_white (bytes_of seats)

      abbrev behind_white : List Event
      behind_white = cut_from (length seats) (after_item bytes (nothing_read seats) (white_space first_white)) (drop first_white seats)

      whites-named : Inner on (leaf bytes name.SpaceOrTab (take first_white seats))
      whites-named = leafs bytes name.SpaceOrTab (take first_white seats) refl

      -- The events that are read of inline text are whole spans, with such names
      pub read-outer : Outer on (flat_map (item_events bytes) (inline_items on defined bytes seats))
      read-outer =
          outer-both on (leaf bytes name.SpaceOrTab (take first_white seats)) behind_white whites-named.outer
          (cut-outer (length seats) (after_item bytes (nothing_read seats) (white_space first_white)) (drop first_white seats) tt)

      -- and those that enter delimiter runs stand at markers whose runs are on, if its markers are those of the document
      pub read-runs : AllByRecursion (Steps bytes) seats → AllByRecursion (MayRun on bytes) (flat_map (item_events bytes) (inline_items on defined bytes seats))
      read-runs steps =
          every-append (MayRun on bytes) (leaf bytes name.SpaceOrTab (take first_white seats)) behind_white (named-may on bytes _ whites-named.named)
          (cut-runs (length seats) (after_item bytes (nothing_read seats) (white_space first_white)) (drop first_white seats) tt (every-drop (Steps bytes) first_white seats steps))
