-- Delimiters of a document stand byte by byte; and the events of other items are of neither runs nor brackets.
use Rattle.mddocument.proofs.Prelude.{◌≡◌, inl, ℕ, zero, suc, ◌+◌, ◌==◌, true, false, cond, List, [], ◌∷◌, ◌++◌, Option, Some, None, length, take, drop, refl, sym, ◌∙◌, subst, arith, nat_tests, is_ascii_punctuation, ◌&&◌, nat_le, nat_lt, option_map, slice_get, AllByRecursion, between, flat_map, prefix_len, eqb-true, every-append, Event, Exit, Autolink, AutolinkEmail, AutolinkMarker, AutolinkProtocol, CharacterEscape, CharacterEscapeMarker, CharacterEscapeValue, CharacterReference, CharacterReferenceMarker, CharacterReferenceMarkerHexadecimal, CharacterReferenceMarkerNumeric, CharacterReferenceMarkerSemi, CharacterReferenceValue, CodeText, CodeTextData, CodeTextSequence, HardBreakEscape, HardBreakTrailing, HtmlText, HtmlTextData, LineEnding, SpaceOrTab, shown, Seat, begins_with_lf, end_after, in_tab, point, tab_width, virtual, virtual_from, shown-other, drop-first, later, is_white, event, leaf, span, EachThere, OfOption, when-there, autolink, autolink_at, autolink_to, uri, backticks, has_byte_at, is_backslash, is_backtick, is_greater_than, is_less_than, is_line_feed, is_space, before_backtick_string, code_piece_at, code_piece_events, code_span_with, lined_code_at, lined_events, Found, escape, escape_at, bytes_of, cut, reference-holds, decimal, hexadecimal, mark_events, marks, named, reference_at, email, email_at, email_with, is_at_sign, is_atext, is_domain, is_domain_byte, html-there, marked, tag_length, html_of, piece_at, piece_events, piece_length, break_escape_at, hard_break_escape, hard_break_trailing, trailing_break_at, is_white_left, white_space, white_space_at, inline_grammars, line_break, run_length, is_delimiter, IsWhole}
use Rattle.markdown_base.specs.declared.event.Name.{Name}
use Rattle.mdconstructs_tables.proofs.Looks.Left.{at-front}
use Rattle.mdinline_constructs.specs.Reference.{Kind}
use Rattle.mdinline_constructs.specs.HtmlText as html
use Rattle.mdinline_constructs.specs.HtmlText.{Piece}
use Rattle.mddocument.proofs.Emphasis.RunAtoms.{AreDelimiters, IsOther, is_special}

-- ---- delimiters among virtual bytes
-- behind a delimiter is the place one byte later; it is shown at itself; and it is the byte there
abbrev pub Steps : List ℕ → Seat → Type 0
Steps bytes s = is_delimiter s.byte ≡ true → (s.end ≡ later 1 s.point) × (shown bytes s.point ≡ s.point) × (slice_get bytes s.point.index ≡ Some s.byte)

module _ (bytes : List ℕ) where
  steps-tab : (b n l c i v : ℕ) → is_delimiter b ≡ false → AllByRecursion (Steps bytes) (in_tab b n l c i v)
  steps-tab b zero l c i v other = tt
  steps-tab b (suc n) l c i v other = ((λ is. let no : true ≡ false = sym is ∙ other in absurd (cc)), steps-tab 32 n l (suc c) i (suc v) refl)

  steps-other : (b l c i : ℕ) (bs : List ℕ) → drop i bytes ≡ b ∷ bs → is_delimiter b ≡ true → (point l (suc c) (suc i) 0 ≡ later 1 (point l c i 0)) × (shown bytes (point l c i 0) ≡ point l c i 0) × (slice_get bytes i ≡ Some b)
  steps-other b l c i bs at is =
      let column : suc c ≡ c + 1 = omega arith in
      let index : suc i ≡ i + 1 = omega arith in (
        λ j. point l (column j) (index j) 0,
        shown-other bytes (point l c i 0) (λ ten. let b-ten : b ≡ 10 = sym (drop-first i bytes b bs at).1 ∙ ten in let no : is_delimiter 10 ≡ true = subst (λ x. is_delimiter x ≡ true) b-ten is in absurd (cc)),
        at-front bytes i b bs at,
      )

  steps-from : (t l c i : ℕ) (bs : List ℕ) → drop i bytes ≡ bs → AllByRecursion (Steps bytes) (virtual_from t l c i bs)
  steps-from t l c i [] at = tt
  steps-from t l c i (b ∷ bs) at =
      let next = (drop-first i bytes b bs at).2 in
      let feed : AllByRecursion (Steps bytes) (record { byte = 10; point = point l c i 0; end = point (suc l) 1 (suc i) 0 } ∷ virtual_from t (suc l) 1 (suc i) bs) = ((λ is. absurd (cc)), steps-from t (suc l) 1 (suc i) bs next) in
      elim (b == 10) as (λ x. AllByRecursion (Steps bytes) (cond x
      (record { byte = 10; point = point l c i 0; end = point (suc l) 1 (suc i) 0 } ∷ virtual_from t (suc l) 1 (suc i) bs)
      (cond (b == 13)
      (cond (begins_with_lf bs) (virtual_from t l c (suc i) bs) (record { byte = 10; point = point l c i 0; end = point (suc l) 1 (suc i) 0 } ∷ virtual_from t (suc l) 1 (suc i) bs))
      (cond (b == 9) (in_tab 9 (tab_width t c) l c i 0 ++ virtual_from t l (c + tab_width t c) (suc i) bs)
      (record { byte = b; point = point l c i 0; end = point l (suc c) (suc i) 0 } ∷ virtual_from t l (suc c) (suc i) bs))))) [
        | true ↦ feed
        | false ↦ elim (b == 13) as (λ x. AllByRecursion (Steps bytes) (cond x
            (cond (begins_with_lf bs) (virtual_from t l c (suc i) bs) (record { byte = 10; point = point l c i 0; end = point (suc l) 1 (suc i) 0 } ∷ virtual_from t (suc l) 1 (suc i) bs))
            (cond (b == 9) (in_tab 9 (tab_width t c) l c i 0 ++ virtual_from t l (c + tab_width t c) (suc i) bs)
            (record { byte = b; point = point l c i 0; end = point l (suc c) (suc i) 0 } ∷ virtual_from t l (suc c) (suc i) bs)))) [
              | true ↦ elim (begins_with_lf bs) as (λ x. AllByRecursion (Steps bytes) (cond x (virtual_from t l c (suc i) bs) (record { byte = 10; point = point l c i 0; end = point (suc l) 1 (suc i) 0 } ∷ virtual_from t (suc l) 1 (suc i) bs))) [
                | true ↦ steps-from t l c (suc i) bs next
                | false ↦ feed
              ]
              | false ↦ elim (b == 9) as (λ x. AllByRecursion (Steps bytes) (cond x (in_tab 9 (tab_width t c) l c i 0 ++ virtual_from t l (c + tab_width t c) (suc i) bs)
                  (record { byte = b; point = point l c i 0; end = point l (suc c) (suc i) 0 } ∷ virtual_from t l (suc c) (suc i) bs))) [
                    | true ↦ every-append (Steps bytes) (in_tab 9 (tab_width t c) l c i 0) (virtual_from t l (c + tab_width t c) (suc i) bs) (steps-tab 9 (tab_width t c) l c i 0 refl) (steps-from t l (c + tab_width t c) (suc i) bs next)
                    | false ↦ (steps-other b l c i bs at, steps-from t l (suc c) (suc i) bs next)
                  ]
            ]
      ]

  pub steps-virtual : (t : ℕ) → AllByRecursion (Steps bytes) (virtual t bytes)
  steps-virtual t = steps-from t 1 1 0 bytes refl

-- ---- runs
taken-like : (b : ℕ) (l : List Seat) → is_delimiter b ≡ true → AreDelimiters (take (prefix_len (λ c. c == b) (bytes_of l)) l)
taken-like b [] h = tt
taken-like b (s ∷ ss) h =
    let n = prefix_len (λ c. c == b) (bytes_of ss) in
    elim (s.byte == b) as (λ x. (s.byte == b) ≡ x → AreDelimiters (take (cond x (1 + n) 0) (s ∷ ss))) [
      | true ↦ λ e.
          let one : suc n ≡ 1 + n = omega arith in
          subst (λ k. AreDelimiters (take k (s ∷ ss))) one (subst (λ x. is_delimiter x ≡ true) (sym (eqb-true s.byte b e)) h, taken-like b ss h)
      | false ↦ λ e. tt
    ] refl

pub run-delimiters : (s : Seat) (ss : List Seat) → is_delimiter s.byte ≡ true → AreDelimiters (take (run_length (bytes_of (s ∷ ss))) (s ∷ ss))
run-delimiters s ss h =
    let n = prefix_len (λ c. c == s.byte) (bytes_of ss) in
    let one : suc n ≡ 1 + n = omega arith in
    subst (λ k. AreDelimiters (take k (s ∷ ss))) one (h, taken-like s.byte ss h)

-- no delimiter is a line ending
no-line-feed : (b : ℕ) → is_delimiter b ≡ true → (b == 10) ≡ false
no-line-feed b h = grind (arith, nat_tests)

pub delimiters-whole : (l : List Seat) → AreDelimiters l → IsWhole l
delimiters-whole [] h = tt
delimiters-whole (s ∷ ss) h = inl (no-line-feed s.byte h.0, delimiters-whole ss h.1)

module _ (t : ℕ) (bytes : List ℕ) where
  -- ---- events of neither runs nor brackets
  pub free-leaf : (n : Name) (seats : List Seat) → is_special n ≡ false → AllByRecursion IsOther (leaf bytes n seats)
  free-leaf n [] h = tt
  free-leaf n (s ∷ ss) h = (h, (h, tt))

  pub free-span : (n : Name) (seats : List Seat) (es : List Event) → is_special n ≡ false → AllByRecursion IsOther es → AllByRecursion IsOther (span bytes n seats es)
  free-span n [] es h k = k
  free-span n (s ∷ ss) es h k = (h, every-append IsOther es (event bytes Exit n (end_after s.end ss) ∷ []) k (h, tt))

  pub free-three : (a c : Name) (xs zs : List Seat) (inner : List Event) → is_special a ≡ false → is_special c ≡ false → AllByRecursion IsOther inner
      → AllByRecursion IsOther (leaf bytes a xs ++ (inner ++ leaf bytes c zs))
  free-three a c xs zs inner h k i =
      every-append IsOther (leaf bytes a xs) (inner ++ leaf bytes c zs) (free-leaf a xs h) (every-append IsOther inner (leaf bytes c zs) i (free-leaf c zs k))

  abbrev pub IsFree : Found → Type 0
  IsFree found = (seats : List Seat) → AllByRecursion IsOther (found.events bytes seats)

  free-code-piece : (p : Piece × List Seat) → AllByRecursion IsOther (code_piece_events bytes p)
  free-code-piece (html.line_break n, seats) =
      every-append IsOther (leaf bytes LineEnding (take 1 seats)) (leaf bytes SpaceOrTab (drop 1 seats)) (free-leaf LineEnding (take 1 seats) refl) (free-leaf SpaceOrTab (drop 1 seats) refl)
  free-code-piece (html.data_run n, seats) = free-leaf CodeTextData seats refl

  free-code-pieces : (ps : List (Piece × List Seat)) → AllByRecursion IsOther (flat_map (code_piece_events bytes) ps)
  free-code-pieces [] = tt
  free-code-pieces (p ∷ ps) = every-append IsOther (code_piece_events bytes p) (flat_map (code_piece_events bytes) ps) (free-code-piece p) (free-code-pieces ps)

  free-code : (k : ℕ) (o : Option ℕ) → OfOption IsFree (option_map (code_span_with lined_events k) o)
  free-code k None = tt
  free-code k (Some n) = λ seats.
      let middle = between k (k + n) seats in
      free-span CodeText seats _ refl
      (free-three CodeTextSequence CodeTextSequence (take k seats) (drop (k + n) seats) (lined_events bytes middle) refl refl (free-code-pieces (cut code_piece_at piece_length (length middle) middle)))

  pub free-code-span : (text : List ℕ) → OfOption IsFree (lined_code_at text)
  free-code-span text =
      let k = backticks text in
      when-there IsFree (has_byte_at text 0 is_backtick) (option_map (code_span_with lined_events k) (before_backtick_string k (drop k text))) (free-code k (before_backtick_string k (drop k text)))

  free-link : (text : List ℕ) (o : Option ℕ) → OfOption IsFree (autolink_to text o)
  free-link text None = tt
  free-link text (Some n) =
      when-there IsFree (has_byte_at text (n + 1) is_greater_than) (Some (autolink n)) (λ seats.
      let inner = between 1 (1 + n) seats in
      free-span Autolink seats _ refl (free-three AutolinkMarker AutolinkMarker (take 1 seats) (drop (1 + n) seats) (leaf bytes AutolinkProtocol inner) refl refl (free-leaf AutolinkProtocol inner refl)))

  pub free-autolink : (text : List ℕ) → OfOption IsFree (autolink_at text)
  free-autolink text = when-there IsFree (has_byte_at text 0 is_less_than) (autolink_to text (uri (drop 1 text))) (free-link text (uri (drop 1 text)))

  pub free-email : (text : List ℕ) → OfOption IsFree (email_at text)
  free-email text =
      let n = prefix_len is_atext (drop 1 text) in
      let domain = drop (n + 2) text in
      let d = prefix_len is_domain_byte domain in
      let inside = n + 1 + d in
      when-there IsFree (has_byte_at text 0 is_less_than) (email_with text n)
      (when-there IsFree (nat_lt 0 n && (has_byte_at text (n + 1) is_at_sign && (is_domain (take d domain) && has_byte_at domain d is_greater_than)))
      (Some (email inside))
      (λ seats.
      let inner = between 1 (1 + inside) seats in
      free-span Autolink seats _ refl (free-three AutolinkMarker AutolinkMarker (take 1 seats) (drop (1 + inside) seats) (leaf bytes AutolinkEmail inner) refl refl (free-leaf AutolinkEmail inner refl))))

  free-piece : (p : Piece × List Seat) → AllByRecursion IsOther (piece_events bytes p)
  free-piece (html.line_break n, seats) =
      every-append IsOther (leaf bytes LineEnding (take 1 seats)) (leaf bytes SpaceOrTab (drop 1 seats)) (free-leaf LineEnding (take 1 seats) refl) (free-leaf SpaceOrTab (drop 1 seats) refl)
  free-piece (html.data_run n, seats) = free-leaf HtmlTextData seats refl

  free-pieces : (ps : List (Piece × List Seat)) → AllByRecursion IsOther (flat_map (piece_events bytes) ps)
  free-pieces [] = tt
  free-pieces (p ∷ ps) = every-append IsOther (piece_events bytes p) (flat_map (piece_events bytes) ps) (free-piece p) (free-pieces ps)

  -- raw HTML
  pub free-html : (text : List ℕ) (o : Option ℕ) → OfOption IsFree (html_of text o)
  free-html text o =
      html-there IsFree text o (λ n seats.
      let ps = cut piece_at piece_length (length seats) seats in free-span HtmlText seats (flat_map (piece_events bytes) ps) refl (free-pieces ps))

  pub free-escape : (text : List ℕ) → OfOption IsFree (escape_at text)
  free-escape text =
      when-there IsFree (has_byte_at text 0 is_backslash && has_byte_at text 1 is_ascii_punctuation) (Some escape) (λ seats.
      let a = leaf bytes CharacterEscapeMarker (take 1 seats) in
      let b = leaf bytes CharacterEscapeValue (drop 1 seats) in
      free-span CharacterEscape seats (a ++ b) refl (every-append IsOther a b (free-leaf CharacterEscapeMarker (take 1 seats) refl) (free-leaf CharacterEscapeValue (drop 1 seats) refl)))

  free-break-escape : (text : List ℕ) → OfOption IsFree (break_escape_at text)
  free-break-escape text =
      when-there IsFree (has_byte_at text 0 is_backslash && has_byte_at text 1 is_line_feed) (Some hard_break_escape) (λ seats. free-leaf HardBreakEscape seats refl)

  free-marks : (kind : Kind) (seats : List Seat) → AllByRecursion IsOther (mark_events bytes kind seats)
  free-marks named seats = free-leaf CharacterReferenceMarker (take 1 seats) refl
  free-marks decimal seats =
      every-append IsOther (leaf bytes CharacterReferenceMarker (take 1 seats)) (leaf bytes CharacterReferenceMarkerNumeric (between 1 2 seats)) (free-leaf CharacterReferenceMarker (take 1 seats) refl)
      (free-leaf CharacterReferenceMarkerNumeric (between 1 2 seats) refl)
  free-marks hexadecimal seats =
      let a = leaf bytes CharacterReferenceMarkerNumeric (between 1 2 seats) in
      let b = leaf bytes CharacterReferenceMarkerHexadecimal (between 2 3 seats) in
      every-append IsOther (leaf bytes CharacterReferenceMarker (take 1 seats)) (a ++ b) (free-leaf CharacterReferenceMarker (take 1 seats) refl)
      (every-append IsOther a b (free-leaf CharacterReferenceMarkerNumeric (between 1 2 seats) refl) (free-leaf CharacterReferenceMarkerHexadecimal (between 2 3 seats) refl))

  free-reference : (text : List ℕ) → OfOption IsFree (reference_at text)
  free-reference text =
      reference-holds IsFree
      (λ kind n seats.
      let a = leaf bytes CharacterReferenceValue (between (marks kind) (marks kind + n) seats) in
      let b = leaf bytes CharacterReferenceMarkerSemi (drop (marks kind + n) seats) in
      free-span CharacterReference seats (mark_events bytes kind seats ++ (a ++ b)) refl
      (every-append IsOther (mark_events bytes kind seats) (a ++ b) (free-marks kind seats)
      (every-append IsOther a b (free-leaf CharacterReferenceValue (between (marks kind) (marks kind + n) seats) refl) (free-leaf CharacterReferenceMarkerSemi (drop (marks kind + n) seats) refl))))
      text

  free-trailing-break : (text : List ℕ) → OfOption IsFree (trailing_break_at text)
  free-trailing-break text =
      let n = prefix_len is_space text in
      when-there IsFree (nat_le 2 n && has_byte_at text n is_line_feed) (Some (hard_break_trailing n)) (λ seats. free-leaf HardBreakTrailing seats refl)

  free-white-space : (text : List ℕ) → OfOption IsFree (white_space_at text)
  free-white-space text =
      when-there IsFree (has_byte_at text 0 is_white && is_white_left text) (Some (white_space (prefix_len is_white text))) (λ seats. free-leaf SpaceOrTab seats refl)

  pub free-line-break : (n : ℕ) → IsFree (line_break n)
  free-line-break n = λ seats.
      let a = leaf bytes LineEnding (take 1 seats) in
      let b = leaf bytes SpaceOrTab (drop 1 seats) in
      every-append IsOther a b (free-leaf LineEnding (take 1 seats) refl) (free-leaf SpaceOrTab (drop 1 seats) refl)

  -- of each construct
  pub free-each : (text : List ℕ) → EachThere IsFree inline_grammars text
  free-each text = (free-code-span text, (free-autolink text, (free-email text, (free-html text (marked text), (free-html text (tag_length text), (free-escape text, (free-break-escape text, (free-reference text, (free-trailing-break text, (free-white-space text, tt))))))))))
