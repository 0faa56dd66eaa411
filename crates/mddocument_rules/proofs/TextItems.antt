-- Inline text as it is read: each of its outermost spans stands in texts, so inline text does; and strings stand in any span but a list.
use Rattle.mddocument_laws.proofs.TailSpans.{IsKeptInside}
use Rattle.mddocument_rules.proofs.Prelude.{◌≡◌, ◌∙◌, ℕ, zero, suc, ◌+◌, Bool, true, false, cond, List, [], ◌∷◌, ◌++◌, Option, Some, None, drop, length, refl, subst, sym, take, append-nil, append_assoc, and_parts, false≢true, not, option_map, flat_map, between, AllByRecursion, every-append, Constructs, Event, Enter, Exit, Name, Seat, end_after, IsBalanced, empty, IsBalanced-append, is_wanted, is_in, list_names, may_stand, text_names, IsPiece, StandApart}
use Rattle.std.specs.List.{prefix_len}
use Rattle.markdown_base.specs.Events.{span as balanced_span}
use Rattle.markdown_base.specs.declared.event.Name.TheVariants as name
use Rattle.mdconstructs_machines.specs.Spans.{event, leaf, span}
use Rattle.mdconstructs_tables.specs.Breaks.{is_white}
use Rattle.mdinline_text_machine.proofs.Constructs.Apart.{EachThere, OfOption, there-holds, when-there}
use Rattle.mdinline_text_machine.specs.Autolink.{autolink, autolink_to, uri}
use Rattle.mdinline_text_machine.specs.Bytes.{backticks, has_byte_at, is_backtick, is_greater_than, is_less_than, is_line_feed}
use Rattle.mdinline_text_machine.specs.CodeSpan.{before_backtick_string, code_span_with}
use Rattle.mdinline_text_machine.specs.Construct.{Found}
use Rattle.mdinline_text_machine.specs.Escape.{escape, escape_at}
use Rattle.mdinline_text_machine.specs.Items.{item_length}
use Rattle.mdinline_text_machine.specs.Parts.{Part, bytes_of, cut, cut_remembering, line_ending, part, plain_run}
use Rattle.mdinline_text_machine.specs.TextEvents.{item_events}
use Rattle.mdinline_constructs.proofs.HtmlTexts.Cuts.{html-there}
use Rattle.mdinline_constructs.proofs.References.Bytes.{reference-holds}
use Rattle.mdinline_constructs.specs.Email.{email, email_at, email_with, is_atext, is_domain_byte}
use Rattle.mdinline_constructs.specs.HardBreak.{hard_break_escape, hard_break_trailing}
use Rattle.mdinline_constructs.specs.HtmlMarked.{marked}
use Rattle.mdinline_constructs.specs.HtmlTag.{tag_length}
use Rattle.mdinline_constructs.specs.HtmlText.{Piece, html_of, piece_at, piece_events, piece_length}
use Rattle.mdinline_constructs.specs.HtmlText as html
use Rattle.mdinline_constructs.specs.LinedCode.{code_piece_at, code_piece_events, lined_code_at, lined_events}
use Rattle.mdinline_constructs.specs.Reference.{Kind, decimal, hexadecimal, mark_events, marks, named, reference_at}
use Rattle.mdinline_constructs.specs.StringItems.{string_data, string_grammars, string_item_at, string_part, string_seat_events}
use Rattle.mdinline_constructs.specs.WhiteSpace.{white_space}
use Rattle.mdinline_links.specs.Linked.{outermost_spans, spans_in}
use Rattle.mdinline_machine.proofs.BracketBytes.{bracket-holds}
use Rattle.mdinline_machine.specs.Brackets.{Bracket, Memory, after_item, label_end, nothing_read, tail_of}
use Rattle.mdinline_machine.specs.InlineEvents.{bracket_or_part, data_length, data_run, delimiter_run, inline_grammars, inline_item_at, inline_items, line_break, run_length, run_or_part}
use Rattle.mdinline_machine.specs.RunRows.{begins_run}
use Rattle.mddocument_laws.proofs.WholeSpans.{IsWhole, around-whole, both-whole, first-span, none-whole}
use Rattle.mddocument_rules.proofs.Links.{apart-in-texts, links-stand}
use Rattle.mddocument_rules.proofs.Places.{NotInList, free-inside, free-may, is_free}
use Rattle.mddocument_rules.proofs.QuietItems.{IsInnerName, linking_names, tail-is}
use Rattle.mddocument_rules.proofs.Walk.{MayBe, Walks, free-walks, walks-all, walks-span}
use Rattle.mddocument_rules.specs.TextLaws.{InlineTextStands, is_of_link}

-- ---- pieces
abbrev pub ArePieces : List Event → Type 0
ArePieces es = (bound : ℕ) → AllByRecursion IsPiece (spans_in bound es)

-- lists whose outermost spans are pieces, and end where they do
pub record IsPieces (es : List Event) : Type 0 where
  pub more : (rest : List Event) → ArePieces rest → ArePieces (es ++ rest)

pieces-none : IsPieces []
pieces-none = record { more = λ rest h. h }

pieces-both : (xs ys : List Event) → IsPieces xs → IsPieces ys → IsPieces (xs ++ ys)
pieces-both xs ys h k = record { more = λ rest p. subst ArePieces (sym (append_assoc xs ys rest)) (h.more (ys ++ rest) (k.more rest p)) }

-- ---- whole spans with free names
abbrev pub IsFree : Event → Type 0
IsFree e = is_free e.name ≡ true

free-apart : (es : List Event) → IsBalanced es → AllByRecursion IsFree es → (around : List Name) → NotInList around → Walks (MayBe may_stand) around es
free-apart es b h around ok = free-walks (MayBe may_stand) NotInList IsFree (λ around e ok f. free-may around e.name f ok) (λ around e ok f. free-inside e.name f) b h around ok

pub record IsInner (es : List Event) : Type 0 where
  pub whole : IsWhole es
  pub balanced : IsBalanced es
  pub free : AllByRecursion IsFree es
  pub pieces : IsPieces es

inner-none : IsInner []
inner-none = record { whole = none-whole; balanced = empty; free = tt; pieces = pieces-none }

inner-both : (xs ys : List Event) → IsInner xs → IsInner ys → IsInner (xs ++ ys)
inner-both xs ys h k = record {
  whole = both-whole xs ys h.whole k.whole;
  balanced = IsBalanced-append xs ys h.balanced k.balanced;
  free = every-append IsFree xs ys h.free k.free;
  pieces = pieces-both xs ys h.pieces k.pieces;
}

module _ (bytes : List ℕ) where
  module _ (n : Name) (s : Seat) (ss : List Seat) (inside : List Event) (h : IsInner inside) where
    abbrev enters : Event
    enters = event bytes Enter n s.point

    abbrev exits : Event
    exits = event bytes Exit n (end_after s.end ss)

    abbrev whole_span : List Event
    whole_span = span bytes n (s ∷ ss) inside

    one-balanced : IsBalanced whole_span
    one-balanced = balanced_span enters exits inside [] refl refl refl refl h.balanced empty

    one-piece : IsPiece whole_span → IsPieces whole_span
    one-piece is = record { more = go }
      where
        go : (rest : List Event) → ArePieces rest → ArePieces (whole_span ++ rest)
        go rest k zero = tt
        go rest k (suc bound) = subst (λ (p : List Event × List Event). AllByRecursion IsPiece (p.0 ∷ spans_in bound p.1)) (sym (first-span bytes n s ss inside h.whole rest)) (is, k bound)

    inner-one : is_free n ≡ true → IsInner whole_span
    inner-one f =
        let free : AllByRecursion IsFree whole_span = (f, every-append IsFree inside (exits ∷ []) h.free (f, tt)) in
        let apart : StandApart whole_span = (one-balanced, λ around ok. walks-all may_stand around whole_span (free-apart whole_span one-balanced free around ok)) in
        record {
          whole = around-whole bytes n s ss inside h.whole;
          balanced = one-balanced;
          free = free;
          pieces = one-piece (record { in_texts = apart-in-texts whole_span apart; apart = λ e. apart });
        }

    -- inline text, which stands in texts
    inline-one : ((around : List Name) → is_in text_names around ≡ true → may_stand around n ≡ true) → is_wanted list_names n ≡ false → is_of_link whole_span ≡ false → IsPieces whole_span
    inline-one m other link = one-piece (record { in_texts = (one-balanced, λ around is. walks-all may_stand around whole_span (there around is)); apart = λ e. absurd (false≢true (sym link ∙ e)) })
      where
        there : (around : List Name) → is_in text_names around ≡ true → Walks (MayBe may_stand) around whole_span
        there around is = walks-span (MayBe may_stand) enters exits inside [] refl refl refl h.balanced around (m around is) (free-apart inside h.balanced h.free (n ∷ around) other) tt

  over : (n : Name) (seats : List Seat) (inside : List Event) → is_free n ≡ true → IsInner inside → IsInner (span bytes n seats inside)
  over n [] inside f h = h
  over n (s ∷ ss) inside f h = inner-one n s ss inside h f

  leafs : (n : Name) (seats : List Seat) → is_free n ≡ true → IsInner (leaf bytes n seats)
  leafs n seats f = over n seats [] f inner-none

  -- a name of inline text
  abbrev IsInline : Name → Type 0
  IsInline n =
      ((around : List Name) → is_in text_names around ≡ true → may_stand around n ≡ true) × (is_wanted list_names n ≡ false) × ((s : Seat) (ss : List Seat) (inside : List Event) → is_of_link (span bytes n (s ∷ ss) inside) ≡ false)

  inline : (n : Name) (seats : List Seat) (inside : List Event) → IsInline n → IsInner inside → IsPieces (span bytes n seats inside)
  inline n [] inside is h = h.pieces
  inline n (s ∷ ss) inside is h = inline-one n s ss inside h is.0 is.1 (is.2 s ss inside)

  inner-kept : IsKeptInside bytes IsInnerName IsInner
  inner-kept = record { none = inner-none; both = inner-both; span_around = λ n seats inside p h. over n seats inside (and_parts (is_free n) (not (is_wanted linking_names n)) p).0 h }

  -- ---- items
  abbrev Out : Found → Type 0
  Out f = (seats : List Seat) → IsPieces (f.events bytes seats)

  abbrev Inner : Found → Type 0
  Inner f = (seats : List Seat) → IsInner (f.events bytes seats)

  three : (a c : Name) (xs zs : List Seat) (inside : List Event) → is_free a ≡ true → is_free c ≡ true → IsInner inside → IsInner (leaf bytes a xs ++ (inside ++ leaf bytes c zs))
  three a c xs zs inside f g h = inner-both (leaf bytes a xs) (inside ++ leaf bytes c zs) (leafs a xs f) (inner-both inside (leaf bytes c zs) h (leafs c zs g))

  code-pieces : (ps : List (Piece × List Seat)) → IsInner (flat_map (code_piece_events bytes) ps)
  code-pieces [] = inner-none
  code-pieces ((html.line_break n, seats) ∷ ps) =
      let first = leaf bytes name.LineEnding (take 1 seats) in
      let second = leaf bytes name.SpaceOrTab (drop 1 seats) in
      inner-both (first ++ second) (flat_map (code_piece_events bytes) ps) (inner-both first second (leafs name.LineEnding (take 1 seats) refl) (leafs name.SpaceOrTab (drop 1 seats) refl)) (code-pieces ps)
  code-pieces ((html.data_run n, seats) ∷ ps) = inner-both (leaf bytes name.CodeTextData seats) (flat_map (code_piece_events bytes) ps) (leafs name.CodeTextData seats refl) (code-pieces ps)

  code-out : (k : ℕ) (o : Option ℕ) → OfOption Out (option_map (code_span_with lined_events k) o)
  code-out k None = tt
  code-out k (Some n) = λ seats.
      let middle = between k (k + n) seats in
      let inner = lined_events bytes middle in
      inline name.CodeText seats (leaf bytes name.CodeTextSequence (take k seats) ++ (inner ++ leaf bytes name.CodeTextSequence (drop (k + n) seats))) ((λ around is. is), refl, (λ s ss inside. refl))
      (three name.CodeTextSequence name.CodeTextSequence (take k seats) (drop (k + n) seats) inner refl refl (code-pieces (cut code_piece_at piece_length (length middle) middle)))

  codes-out : (text : List ℕ) → OfOption Out (lined_code_at text)
  codes-out text =
      let k = backticks text in
      when-there Out (has_byte_at text 0 is_backtick) (option_map (code_span_with lined_events k) (before_backtick_string k (drop k text))) (code-out k (before_backtick_string k (drop k text)))

  -- an address between two markers
  address : (inner : Name) (n : ℕ) (seats : List Seat) → is_free inner ≡ true
      → IsPieces (span bytes name.Autolink seats (leaf bytes name.AutolinkMarker (take 1 seats) ++ (leaf bytes inner (between 1 (1 + n) seats) ++ leaf bytes name.AutolinkMarker (drop (1 + n) seats))))
  address inner n seats f =
      inline name.Autolink seats (leaf bytes name.AutolinkMarker (take 1 seats) ++ (leaf bytes inner (between 1 (1 + n) seats) ++ leaf bytes name.AutolinkMarker (drop (1 + n) seats))) ((λ around is. is), refl, (λ s ss inside. refl))
      (three name.AutolinkMarker name.AutolinkMarker (take 1 seats) (drop (1 + n) seats) (leaf bytes inner (between 1 (1 + n) seats)) refl refl (leafs inner (between 1 (1 + n) seats) f))

  autolink-out : (text : List ℕ) (o : Option ℕ) → OfOption Out (autolink_to text o)
  autolink-out text None = tt
  autolink-out text (Some n) = when-there Out (has_byte_at text (n + 1) is_greater_than) (Some (autolink n)) (λ seats. address name.AutolinkProtocol n seats refl)

  email-out : (text : List ℕ) → OfOption Out (email_at text)
  email-out text =
      let n = prefix_len is_atext (drop 1 text) in
      let inside = n + 1 + prefix_len is_domain_byte (drop (n + 2) text) in
      when-there Out (has_byte_at text 0 is_less_than) (email_with text n) (when-there Out _ (Some (email inside)) (λ seats. address name.AutolinkEmail inside seats refl))

  html-pieces : (ps : List (Piece × List Seat)) → IsInner (flat_map (piece_events bytes) ps)
  html-pieces [] = inner-none
  html-pieces ((html.line_break n, seats) ∷ ps) =
      let first = leaf bytes name.LineEnding (take 1 seats) in
      let second = leaf bytes name.SpaceOrTab (drop 1 seats) in
      inner-both (first ++ second) (flat_map (piece_events bytes) ps) (inner-both first second (leafs name.LineEnding (take 1 seats) refl) (leafs name.SpaceOrTab (drop 1 seats) refl)) (html-pieces ps)
  html-pieces ((html.data_run n, seats) ∷ ps) = inner-both (leaf bytes name.HtmlTextData seats) (flat_map (piece_events bytes) ps) (leafs name.HtmlTextData seats refl) (html-pieces ps)

  html-out : (text : List ℕ) (o : Option ℕ) → OfOption Out (html_of text o)
  html-out text o =
      html-there Out text o (λ n seats.
      let ps = cut piece_at piece_length (length seats) seats in inline name.HtmlText seats (flat_map (piece_events bytes) ps) ((λ around is. is), refl, (λ s ss inside. refl)) (html-pieces ps))

  escape-inner : (text : List ℕ) → OfOption Inner (escape_at text)
  escape-inner text =
      when-there Inner _ (Some escape) (λ seats.
      over name.CharacterEscape seats (leaf bytes name.CharacterEscapeMarker (take 1 seats) ++ leaf bytes name.CharacterEscapeValue (drop 1 seats)) refl
      (inner-both (leaf bytes name.CharacterEscapeMarker (take 1 seats)) (leaf bytes name.CharacterEscapeValue (drop 1 seats)) (leafs name.CharacterEscapeMarker (take 1 seats) refl) (leafs name.CharacterEscapeValue (drop 1 seats) refl)))

  marks-inner : (kind : Kind) (seats : List Seat) → IsInner (mark_events bytes kind seats)
  marks-inner named seats = leafs name.CharacterReferenceMarker (take 1 seats) refl
  marks-inner decimal seats =
      let first = leaf bytes name.CharacterReferenceMarker (take 1 seats) in
      let second = leaf bytes name.CharacterReferenceMarkerNumeric (between 1 2 seats) in
      inner-both first second (leafs name.CharacterReferenceMarker (take 1 seats) refl) (leafs name.CharacterReferenceMarkerNumeric (between 1 2 seats) refl)
  marks-inner hexadecimal seats =
      let first = leaf bytes name.CharacterReferenceMarker (take 1 seats) in
      let second = leaf bytes name.CharacterReferenceMarkerNumeric (between 1 2 seats) in
      let third = leaf bytes name.CharacterReferenceMarkerHexadecimal (between 2 3 seats) in
      inner-both first (second ++ third) (leafs name.CharacterReferenceMarker (take 1 seats) refl)
      (inner-both second third (leafs name.CharacterReferenceMarkerNumeric (between 1 2 seats) refl) (leafs name.CharacterReferenceMarkerHexadecimal (between 2 3 seats) refl))

  reference-inner : (text : List ℕ) → OfOption Inner (reference_at text)
  reference-inner text =
      reference-holds Inner
      (λ kind n seats.
      let value = leaf bytes name.CharacterReferenceValue (between (marks kind) (marks kind + n) seats) in
      let last = leaf bytes name.CharacterReferenceMarkerSemi (drop (marks kind + n) seats) in
      over name.CharacterReference seats (mark_events bytes kind seats ++ (value ++ last)) refl
      (inner-both (mark_events bytes kind seats) (value ++ last) (marks-inner kind seats)
      (inner-both value last (leafs name.CharacterReferenceValue (between (marks kind) (marks kind + n) seats) refl) (leafs name.CharacterReferenceMarkerSemi (drop (marks kind + n) seats) refl))))
      text

  loosened : (o : Option Found) → OfOption Inner o → OfOption Out o
  loosened None h = tt
  loosened (Some f) h = λ seats. (h seats).pieces

  each-out : (text : List ℕ) → EachThere Out inline_grammars text
  each-out text = (
    codes-out text,
    (
      when-there Out (has_byte_at text 0 is_less_than) (autolink_to text (uri (drop 1 text))) (autolink-out text (uri (drop 1 text))),
      (
        email-out text,
        (
          html-out text (marked text),
          (
            html-out text (tag_length text),
            (
              loosened (escape_at text) (escape-inner text),
              (
                when-there Out _ (Some hard_break_escape) (λ seats. inline name.HardBreakEscape seats [] ((λ around is. is), refl, (λ s ss inside. refl)) inner-none),
                (
                  loosened (reference_at text) (reference-inner text),
                  (
                    when-there Out _ (Some (hard_break_trailing _)) (λ seats. inline name.HardBreakTrailing seats [] ((λ around is. is), refl, (λ s ss inside. refl)) inner-none),
                    (when-there Out _ (Some (white_space (prefix_len is_white text))) (λ seats. (leafs name.SpaceOrTab seats refl).pieces), tt),
                  ),
                ),
              ),
            ),
          ),
        ),
      ),
    ),
  )

  part-out : (on : Constructs) (text : List ℕ) → Out (run_or_part on text)
  part-out on text =
      let line = line_break (prefix_len is_white (drop 1 text)) in
      elim (has_byte_at text 0 (begins_run on)) as (λ x. Out (cond x (delimiter_run (run_length text)) (cond (has_byte_at text 0 is_line_feed) line (data_run (data_length on text))))) [
        | true ↦ λ seats. (leafs name.AttentionSequence seats refl).pieces
        | false ↦ elim (has_byte_at text 0 is_line_feed) as (λ x. Out (cond x line (data_run (data_length on text)))) [
          | true ↦ λ seats. pieces-both (leaf bytes name.LineEnding (take 1 seats)) (leaf bytes name.SpaceOrTab (drop 1 seats)) (leafs name.LineEnding (take 1 seats) refl).pieces (leafs name.SpaceOrTab (drop 1 seats) refl).pieces
          | false ↦ λ seats. (leafs name.Data seats refl).pieces
        ]
      ]

  module _ (on : Constructs) (defined : List ℕ → Bool) where
    end-out : (m : Memory) (text : List ℕ) (b : Bracket) (tail : Found) → tail_of defined bytes b m text ≡ Some tail → Out (label_end tail)
    end-out m text b tail is seats =
        let close = span bytes name.LabelEnd (take 1 seats) (leaf bytes name.LabelMarker (take 1 seats)) in
        pieces-both close (tail.events bytes (drop 1 seats)) (over name.LabelEnd (take 1 seats) (leaf bytes name.LabelMarker (take 1 seats)) refl (leafs name.LabelMarker (take 1 seats) refl)).pieces
        (tail-is bytes IsInner inner-kept defined b m text tail is (drop 1 seats)).pieces

    item-out : (m : Memory) (text : List ℕ) → Out (inline_item_at on defined bytes m text)
    item-out m text =
        there-holds Out inline_grammars on text (bracket_or_part on defined bytes m text) (each-out text)
        (bracket-holds Out on defined bytes m text (run_or_part on text) (λ seats. (over name.LabelLink seats (leaf bytes name.LabelMarker seats) refl (leafs name.LabelMarker seats refl)).pieces)
        (λ e seats.
        let first = leaf bytes name.LabelImageMarker (take 1 seats) in
        let second = leaf bytes name.LabelMarker (drop 1 seats) in
        (over name.LabelImage seats (first ++ second) refl (inner-both first second (leafs name.LabelImageMarker (take 1 seats) refl) (leafs name.LabelMarker (drop 1 seats) refl))).pieces)
        (λ seats. (leafs name.LabelMarker seats refl).pieces) (end-out m (drop 1 text)) (part-out on text))

    abbrev cut_from : ℕ → Memory → List Seat → List Event
    cut_from bound m seats = flat_map (item_events bytes) (cut_remembering (after_item bytes) (inline_item_at on defined bytes) item_length bound m seats)

    items-out : (bound : ℕ) (m : Memory) (seats : List Seat) → IsPieces (cut_from bound m seats)
    items-out zero m seats = pieces-none
    items-out (suc bound) m [] = pieces-none
    items-out (suc bound) m (s ∷ ss) =
        let f = inline_item_at on defined bytes m (bytes_of (s ∷ ss)) in
        pieces-both (f.events bytes (take f.size (s ∷ ss))) (cut_from bound (after_item bytes m f) (drop f.size (s ∷ ss))) (item-out m (bytes_of (s ∷ ss)) (take f.size (s ∷ ss))) (items-out bound (after_item bytes m f) (drop f.size (s ∷ ss)))

    all-pieces : (seats : List Seat) → let es = flat_map (item_events bytes) (inline_items on defined bytes seats) in AllByRecursion IsPiece (outermost_spans es)
    all-pieces seats =
        let n = prefix_len is_white (bytes_of seats) in
        let white = leaf bytes name.SpaceOrTab (take n seats) in
        let first = after_item bytes (nothing_read seats) (white_space n) in
        let rest = cut_from (length seats) first (drop n seats) in
        let all = (pieces-both white rest (leafs name.SpaceOrTab (take n seats) refl).pieces (items-out (length seats) first (drop n seats))).more [] nothing (length (white ++ rest)) in
        subst (λ (l : List Event). AllByRecursion IsPiece (spans_in (length (white ++ rest)) l)) (append-nil (white ++ rest)) all
      where
        nothing : ArePieces []
        nothing zero = tt
        nothing (suc bound) = tt

  -- ---- strings
  line-inner : (p : Part) → Inner (part p)
  line-inner line_ending seats = leafs name.LineEnding seats refl
  line-inner (plain_run k) seats = leafs name.Data seats refl

  string-item : (on : Constructs) (text : List ℕ) → Inner (string_item_at on text)
  string-item on text =
      there-holds Inner string_grammars on text (string_part text) (escape-inner text, (reference-inner text, tt))
      (elim (has_byte_at text 0 is_line_feed) as (λ t. Inner (cond t (part line_ending) (string_data text))) [ true ↦ line-inner line_ending | false ↦ λ seats. leafs name.Data seats refl ])

  cut-inner : (on : Constructs) (bound : ℕ) (seats : List Seat) → IsInner (flat_map (item_events bytes) (cut (string_item_at on) item_length bound seats))
  cut-inner on zero seats = inner-none
  cut-inner on (suc bound) [] = inner-none
  cut-inner on (suc bound) (s ∷ ss) =
      let f = string_item_at on (bytes_of (s ∷ ss)) in
      inner-both (f.events bytes (take f.size (s ∷ ss))) (flat_map (item_events bytes) (cut (string_item_at on) item_length bound (drop f.size (s ∷ ss)))) (string-item on (bytes_of (s ∷ ss)) (take f.size (s ∷ ss))) (cut-inner on bound (drop f.size (s ∷ ss)))

  pub string-balanced : (on : Constructs) (seats : List Seat) → IsBalanced (string_seat_events on bytes seats)
  string-balanced on seats = (cut-inner on (length seats) seats).balanced

  pub string-stands : (on : Constructs) (seats : List Seat) (around : List Name) → NotInList around → Walks (MayBe may_stand) around (string_seat_events on bytes seats)
  string-stands on seats around ok = let h = cut-inner on (length seats) seats in free-apart (string_seat_events on bytes seats) h.balanced h.free around ok

-- Inline text stands in texts
pub inline-stands : InlineTextStands
inline-stands defined options bytes seats =
    let on = options.constructs in
    links-stand options.gfm_strikethrough_single_tilde bytes (flat_map (item_events bytes) (inline_items on defined bytes seats)) (all-pieces bytes on defined seats)
