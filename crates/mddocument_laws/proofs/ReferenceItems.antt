-- The items of texts and strings that enter a character reference are one, where they stand.
use Rattle.mddocument_laws.proofs.Prelude.{◌≡◌, ◌⊎◌, ℕ, zero, suc, ◌+◌, List, [], ◌∷◌, ◌++◌, Bool, true, false, inl, inr, Option, Some, None, append_assoc, drop, length, refl, sym, ap, ◌∙◌, subst, take, take-append-drop, and_parts, cond_both, false_from_ne_true, false≢true, AllByRecursion, between, flat_map, prefix_len, is_some, every-append, every-map, Constructs, Event, Exit, Name, is_enter, same_name, Seat, end_after, same_name-true, is_white, event, leaf, span, has_byte_at, is_ampersand, is_line_feed, Found, if_on, or_else, escape_at, item_length, cut, cut_remembering, line_ending, part, plain_run, item_events, Kind, body_at, decimal, hexadecimal, is_number_sign, is_value_byte, is_x, mark_events, marks, named, number_at, reference, reference_at, value_at, white_space, white_space_at, Bracket, Memory, after_item, begins_end, begins_link, bracket_at, end_at, end_of_last, image_bracket, is_image_bracket, link_bracket, nothing_read, data_length, data_run, delimiter_run, inline_item_at, inline_items, run_length, run_or_part, begins_run, string_data, string_item_at, string_part, string_seat_events, enters, StandsAtReference, may_be_named}
use Rattle.markdown_base.specs.declared.event.Name.TheVariants as name
use Rattle.mdinline_text_machine.specs.Parts.{Part, bytes_of}
use Rattle.mdinline_machine.specs.InlineEvents.{line_break}
use Rattle.mddocument_laws.proofs.Inside.{inside-may, stands_inside}
use Rattle.mddocument_laws.proofs.PlainNames.{plain-inside}
use Rattle.mddocument_laws.proofs.ItemNames.{IfItem, ends-fit, inlines-fit, strings-fit}
use Rattle.mddocument_laws.proofs.Named.{Named, and, leafed, spanned, weaker}
use Rattle.mddocument_laws.proofs.SpanNames.{Inner}

-- a name of no character reference
abbrev pub NoReference : Name → Type 0
NoReference n = same_name n name.CharacterReference ≡ false

-- all constructs that inline text has, but for character references
abbrev without : Constructs → Constructs
without on = record on {
  attention = true;
  autolink = true;
  character_escape = true;
  character_reference = false;
  code_text = true;
  definition = true;
  gfm_strikethrough = true;
  hard_break_escape = true;
  hard_break_trailing = true;
  html_text = true;
  label_end = true;
  label_start_image = true;
  label_start_link = true;
}

none-named : (on : Constructs) (n : Name) → stands_inside (without on) n ≡ true → NoReference n
none-named on n h = false_from_ne_true (same_name n name.CharacterReference) (λ e. false≢true (subst (λ m. may_be_named (without on) m ≡ true) (same_name-true n name.CharacterReference e) (inside-may (without on) n h)))

-- ---- items

-- what is found at the front of a text enters no reference, or it is one
abbrev pub Fits : List ℕ → Found → Type 0
Fits text f = ((bytes : List ℕ) (seats : List Seat) → Named NoReference (f.events bytes seats)) ⊎ ((kind : Kind) × (n : ℕ) × (f ≡ reference kind n) × (reference_at text ≡ Some f))

abbrev IfFits : List ℕ → Option Found → Type 0
IfFits text None = Unit {0}
IfFits text (Some f) = Fits text f

or-fits : (text : List ℕ) (o : Option Found) (other : Found) → IfFits text o → Fits text other → Fits text (or_else o other)
or-fits text None other h k = k
or-fits text (Some f) other h k = h

on-fits : (text : List ℕ) (b : Bool) (o : Option Found) → IfFits text o → IfFits text (if_on b o)
on-fits text true o h = h
on-fits text false o h = tt

-- other constructs have other names
item-fits : (on : Constructs) (text : List ℕ) (f : Found) → ((bytes : List ℕ) (seats : List Seat) → Inner (without on) (f.events bytes seats)) → Fits text f
item-fits on text f names = inl (λ bytes seats. weaker (λ n p. none-named on n (plain-inside (without on) n p)) (f.events bytes seats) (names bytes seats).named)

if-item : (on : Constructs) (text : List ℕ) (o : Option Found) → IfItem (without on) o → IfFits text o
if-item on text None h = tt
if-item on text (Some f) h = item-fits on text f h.names

-- ---- references

abbrev IfReference : Option Found → Type 0
IfReference None = Unit {0}
IfReference (Some f) = (kind : Kind) × (n : ℕ) × (f ≡ reference kind n)

values-are : (kind : Kind) (text : List ℕ) → IfReference (value_at kind text)
values-are kind text = cond_both _ (Some (reference kind (prefix_len (is_value_byte kind) text))) None IfReference (λ e. (kind, prefix_len (is_value_byte kind) text, refl)) (λ e. tt)

numbers-are : (text : List ℕ) → IfReference (number_at text)
numbers-are text = cond_both (has_byte_at text 0 is_x) (value_at hexadecimal (drop 1 text)) (value_at decimal text) IfReference (λ e. values-are hexadecimal (drop 1 text)) (λ e. values-are decimal text)

bodies-are : (text : List ℕ) → IfReference (body_at text)
bodies-are text = cond_both (has_byte_at text 0 is_number_sign) (number_at (drop 1 text)) (value_at named text) IfReference (λ e. numbers-are (drop 1 text)) (λ e. values-are named text)

references-are : (text : List ℕ) → IfReference (reference_at text)
references-are text = cond_both (has_byte_at text 0 is_ampersand) (body_at (drop 1 text)) None IfReference (λ e. bodies-are (drop 1 text)) (λ e. tt)

reference-fits : (text : List ℕ) → IfFits text (reference_at text)
reference-fits text = by (reference_at text) refl (references-are text)
  where
    by : (o : Option Found) → reference_at text ≡ o → IfReference o → IfFits text o
    by None e h = tt
    by (Some f) e h = inr (h.0, h.1, h.2, e)

-- ---- strings

part-fits : (text : List ℕ) (p : Part) → Fits text (part p)
part-fits text line_ending = inl (λ bytes seats. leafed bytes name.LineEnding seats refl)
part-fits text (plain_run n) = inl (λ bytes seats. leafed bytes name.Data seats refl)

string-fits : (on : Constructs) (text : List ℕ) → Fits text (string_item_at on text)
string-fits on text =
    or-fits text (if_on on.character_escape (escape_at text)) _ (on-fits text on.character_escape (escape_at text) (if-item on text (escape_at text) ((strings-fit (without on)).0 refl text)))
    (or-fits text (if_on on.character_reference (reference_at text)) (string_part text) (on-fits text on.character_reference (reference_at text) (reference-fits text))
    (cond_both (has_byte_at text 0 is_line_feed) (part line_ending) (string_data text) (Fits text) (λ e. part-fits text line_ending) (λ e. part-fits text (plain_run _))))

-- ---- inline text

module _ (on : Constructs) (defined : List ℕ → Bool) (bytes : List ℕ) where
  image-fits : (given : List ℕ) (seats : List Seat) → Named NoReference (image_bracket.events given seats)
  image-fits given seats = spanned given name.LabelImage seats refl (and (leafed given name.LabelImageMarker (take 1 seats) refl) (leafed given name.LabelMarker (drop 1 seats) refl))

  end-fits : (text : List ℕ) (bs : List Bracket) (m : Memory) (behind : List ℕ) → IfFits text (end_at defined bytes bs m behind)
  end-fits text [] m behind = tt
  end-fits text (b ∷ bs) m behind = item-fits on text (end_of_last defined bytes b m behind) (ends-fit (without on) refl defined bytes (λ label e. refl) b m behind).names

  brackets-fit : (m : Memory) (text : List ℕ) → IfFits text (bracket_at on defined bytes m text)
  brackets-fit m text =
      cond_both (has_byte_at text 0 (begins_link on)) (Some link_bracket) _ (IfFits text) (λ e. inl (λ given seats. spanned given name.LabelLink seats refl (leafed given name.LabelMarker seats refl)))
      (λ e0. cond_both (is_image_bracket on text) (Some image_bracket) _ (IfFits text) (λ e. inl image-fits)
      (λ e1. cond_both (has_byte_at text 0 (begins_end on)) (end_at defined bytes m.waiting m (drop 1 text)) None (IfFits text) (λ e. end-fits text m.waiting m (drop 1 text)) (λ e2. tt)))

  run-fits : (text : List ℕ) → Fits text (run_or_part on text)
  run-fits text =
      cond_both (has_byte_at text 0 (begins_run on)) (delimiter_run (run_length text)) _ (Fits text) (λ e. inl (λ given seats. leafed given name.AttentionSequence seats refl))
      (λ e0. cond_both (has_byte_at text 0 is_line_feed) (line_break (prefix_len is_white (drop 1 text))) (data_run (data_length on text)) (Fits text)
      (λ e. inl (λ given seats. and (leafed given name.LineEnding (take 1 seats) refl) (leafed given name.SpaceOrTab (drop 1 seats) refl)))
      (λ e. inl (λ given seats. leafed given name.Data seats refl)))

  inline-fits : (m : Memory) (text : List ℕ) → Fits text (inline_item_at on defined bytes m text)
  inline-fits m text =
      let a = inlines-fit (without on) in
      or-fits text _ _ (on-fits text on.code_text _ (if-item on text _ (a.0 refl text)))
      (or-fits text _ _ (on-fits text on.autolink _ (if-item on text _ (a.1.0 refl text)))
      (or-fits text _ _ (on-fits text on.autolink _ (if-item on text _ (a.1.1.0 refl text)))
      (or-fits text _ _ (on-fits text on.html_text _ (if-item on text _ (a.1.1.1.0 refl text)))
      (or-fits text _ _ (on-fits text on.html_text _ (if-item on text _ (a.1.1.1.1.0 refl text)))
      (or-fits text _ _ (on-fits text on.character_escape _ (if-item on text _ (a.1.1.1.1.1.0 refl text)))
      (or-fits text _ _ (on-fits text on.hard_break_escape _ (if-item on text _ (a.1.1.1.1.1.1.0 refl text)))
      (or-fits text _ _ (on-fits text on.character_reference _ (reference-fits text))
      (or-fits text _ _ (on-fits text on.hard_break_trailing _ (if-item on text _ (a.1.1.1.1.1.1.1.1.0 refl text)))
      (or-fits text (if_on true (white_space_at text)) _ (on-fits text true (white_space_at text) (if-item on text (white_space_at text) (a.1.1.1.1.1.1.1.1.1.0 refl text)))
      (or-fits text (bracket_at on defined bytes m text) (run_or_part on text) (brackets-fit m text) (run-fits text)))))))))))

-- ---- events

module _ (bytes : List ℕ) (whole : List Seat) where
  abbrev pub IsGood : Event → Type 0
  IsGood e = enters name.CharacterReference e ≡ true → StandsAtReference bytes whole e

  abbrev pub AreGood : List Event → Type 0
  AreGood es = AllByRecursion IsGood es

  pub other-good : (e : Event) → NoReference e.name → IsGood e
  other-good e o h = absurd (false≢true (sym o ∙ (and_parts (is_enter e.kind) (same_name e.name name.CharacterReference) h).1))

  pub named-good : (es : List Event) → Named NoReference es → AreGood es
  named-good es h = every-map (λ (e : Event). NoReference e.name) IsGood other-good es h.all

  -- a reference over virtual bytes from the front of what is left
  span-good : (before : List Seat) (s : Seat) (ss : List Seat) → whole ≡ before ++ s ∷ ss → is_some (reference_at (bytes_of (s ∷ ss))) ≡ true → (inside : List Seat → List Event) → ((l : List Seat) → Named NoReference (inside l))
      → (m : ℕ) → AreGood (span bytes name.CharacterReference (take m (s ∷ ss)) (inside (take m (s ∷ ss))))
  span-good before s ss is there inside h zero = named-good (inside []) (h [])
  span-good before s ss is there inside h (suc m) = (
    λ e. record { before = before; first = s; behind = ss; are = is; stands = refl; there = there },
    every-append IsGood (inside (s ∷ take m ss)) (event bytes Exit name.CharacterReference (end_after s.end (take m ss)) ∷ []) (named-good (inside (s ∷ take m ss)) (h (s ∷ take m ss))) ((λ e. absurd (false≢true e)), tt),
  )

  marks-named : (kind : Kind) (seats : List Seat) → Named NoReference (mark_events bytes kind seats)
  marks-named named seats = leafed bytes name.CharacterReferenceMarker (take 1 seats) refl
  marks-named decimal seats = and (leafed bytes name.CharacterReferenceMarker (take 1 seats) refl) (leafed bytes name.CharacterReferenceMarkerNumeric (between 1 2 seats) refl)
  marks-named hexadecimal seats =
      and (leafed bytes name.CharacterReferenceMarker (take 1 seats) refl)
      (and (leafed bytes name.CharacterReferenceMarkerNumeric (between 1 2 seats) refl) (leafed bytes name.CharacterReferenceMarkerHexadecimal (between 2 3 seats) refl))

  abbrev inside_of : (kind : Kind) (n : ℕ) → List Seat → List Event
  inside_of kind n seats =
      mark_events bytes kind seats
      ++ (leaf bytes name.CharacterReferenceValue (between (marks kind) (marks kind + n) seats) ++ leaf bytes name.CharacterReferenceMarkerSemi (drop (marks kind + n) seats))

  in-reference : (kind : Kind) (n : ℕ) (seats : List Seat) → Named NoReference (inside_of kind n seats)
  in-reference kind n seats =
      and (marks-named kind seats)
      (and (leafed bytes name.CharacterReferenceValue (between (marks kind) (marks kind + n) seats) refl) (leafed bytes name.CharacterReferenceMarkerSemi (drop (marks kind + n) seats) refl))

  item-good : (before : List Seat) (s : Seat) (ss : List Seat) → whole ≡ before ++ s ∷ ss → (f : Found) → Fits (bytes_of (s ∷ ss)) f → AreGood (f.events bytes (take f.size (s ∷ ss)))
  item-good before s ss is f (inl h) = named-good (f.events bytes (take f.size (s ∷ ss))) (h bytes (take f.size (s ∷ ss)))
  item-good before s ss is f (inr r) =
      subst (λ (x : Found). AreGood (x.events bytes (take x.size (s ∷ ss)))) (sym r.2) (span-good before s ss is (ap is_some r.3) (inside_of r.0 r.1) (in-reference r.0 r.1) (marks r.0 + r.1 + 1))

-- ---- whole texts

-- what holds of each item that comes, and of what is read together, holds of texts
module _ (bytes : List ℕ) (whole : List Seat) (Q : List Event → Type 0) (none : Q []) (both : (xs ys : List Event) → Q xs → Q ys → Q (xs ++ ys)) (named : (es : List Event) → Named NoReference es → Q es)
    (item : (before : List Seat) (s : Seat) (ss : List Seat) → whole ≡ before ++ s ∷ ss → (f : Found) → Fits (bytes_of (s ∷ ss)) f → Q (f.events bytes (take f.size (s ∷ ss)))) where
  -- the rest of the text
  left : (before : List Seat) (seats : List Seat) (n : ℕ) → whole ≡ before ++ seats → whole ≡ (before ++ take n seats) ++ drop n seats
  left before seats n is = is ∙ ap (λ l. before ++ l) (sym (take-append-drop n seats)) ∙ sym (append_assoc before (take n seats) (drop n seats))

  cut-strings : (on : Constructs) (bound : ℕ) (before seats : List Seat) → whole ≡ before ++ seats → Q (flat_map (item_events bytes) (cut (string_item_at on) item_length bound seats))
  cut-strings on zero before seats is = none
  cut-strings on (suc bound) before [] is = none
  cut-strings on (suc bound) before (s ∷ ss) is =
      let f = string_item_at on (bytes_of (s ∷ ss)) in
      both (f.events bytes (take f.size (s ∷ ss))) (flat_map (item_events bytes) (cut (string_item_at on) item_length bound (drop f.size (s ∷ ss)))) (item before s ss is f (string-fits on (bytes_of (s ∷ ss))))
      (cut-strings on bound (before ++ take f.size (s ∷ ss)) (drop f.size (s ∷ ss)) (left before (s ∷ ss) f.size is))

  cut-inlines : (on : Constructs) (defined : List ℕ → Bool) (bound : ℕ) (m : Memory) (before seats : List Seat) → whole ≡ before ++ seats
      → Q (flat_map (item_events bytes) (cut_remembering (after_item bytes) (inline_item_at on defined bytes) item_length bound m seats))
  cut-inlines on defined zero m before seats is = none
  cut-inlines on defined (suc bound) m before [] is = none
  cut-inlines on defined (suc bound) m before (s ∷ ss) is =
      let f = inline_item_at on defined bytes m (bytes_of (s ∷ ss)) in
      both (f.events bytes (take f.size (s ∷ ss))) (flat_map (item_events bytes) (cut_remembering (after_item bytes) (inline_item_at on defined bytes) item_length bound (after_item bytes m f) (drop f.size (s ∷ ss))))
      (item before s ss is f (inline-fits on defined bytes m (bytes_of (s ∷ ss)))) (cut-inlines on defined bound (after_item bytes m f) (before ++ take f.size (s ∷ ss)) (drop f.size (s ∷ ss)) (left before (s ∷ ss) f.size is))

  -- The events of a string
  pub string-has : (on : Constructs) → Q (string_seat_events on bytes whole)
  string-has on = cut-strings on (length whole) [] whole refl

  -- and those that are read of inline text
  pub read-has : (on : Constructs) (defined : List ℕ → Bool) → Q (flat_map (item_events bytes) (inline_items on defined bytes whole))
  read-has on defined =
      let n = prefix_len is_white (bytes_of whole) in
      let m = after_item bytes (nothing_read whole) (white_space n) in
      both (leaf bytes name.SpaceOrTab (take n whole)) (flat_map (item_events bytes) (cut_remembering (after_item bytes) (inline_item_at on defined bytes) item_length (length whole) m (drop n whole)))
      (named (leaf bytes name.SpaceOrTab (take n whole)) (leafed bytes name.SpaceOrTab (take n whole) refl))
      (cut-inlines on defined (length whole) m (take n whole) (drop n whole) (sym (take-append-drop n whole)))

-- So each event that enters a reference stands at one
module _ (bytes : List ℕ) (seats : List Seat) where
  and-good : (xs ys : List Event) → AreGood bytes seats xs → AreGood bytes seats ys → AreGood bytes seats (xs ++ ys)
  and-good xs ys h k = every-append (IsGood bytes seats) xs ys h k

  pub string-good : (on : Constructs) → AreGood bytes seats (string_seat_events on bytes seats)
  string-good = string-has bytes seats (AreGood bytes seats) tt and-good (named-good bytes seats) (item-good bytes seats)

  pub read-good : (on : Constructs) (defined : List ℕ → Bool) → AreGood bytes seats (flat_map (item_events bytes) (inline_items on defined bytes seats))
  read-good = read-has bytes seats (AreGood bytes seats) tt and-good (named-good bytes seats) (item-good bytes seats)
