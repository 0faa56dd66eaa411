-- What the data of a label gives, where it is read as a string: what is written for its virtual bytes. Escapes and references stay as they stand.
use Rattle.mddocument_rules.proofs.Prelude.{◌≡◌, ◌∙◌, ℕ, ◌+◌, ◌==◌, Bool, true, false, cond, List, [], ◌∷◌, ◌++◌, append_assoc, Some, ap, between, drop, flat_map, refl, subst, sym, take, every-append, every-back, every-front, every-drop, AllByRecursion, Constructs, Event, Enter, Exit, Name, Seat, end_after, is_enter, same_name, event, virtual, Mark, leaf_marks}
use Rattle.std.proofs.lemmas.List.{map-append, take-append-drop}
use Rattle.std.specs.Prelude.{◌<◌}
use Rattle.markdown_base.specs.declared.event.Name.TheVariants as name
use Rattle.mdconstructs_machines.specs.Spans.{leaf, span}
use Rattle.mdinline_text_machine.proofs.Constructs.Apart.{OfOption, there-holds, when-there}
use Rattle.mdinline_text_machine.proofs.DeepSpans.Atoms.{Atom, all_at, atom_events, events_of, seats_of}
use Rattle.mdinline_text_machine.specs.Bytes.{has_byte_at, is_line_feed}
use Rattle.mdinline_text_machine.specs.Construct.{Found}
use Rattle.mdinline_text_machine.specs.Escape.{escape, escape_at}
use Rattle.mdinline_text_machine.specs.Parts.{line_ending, part}
use Rattle.mdinline_constructs.proofs.References.Bytes.{reference-holds}
use Rattle.mdinline_constructs.proofs.StringItems.{each-item}
use Rattle.mdinline_constructs.specs.Reference.{Kind, decimal, hexadecimal, mark_events, marks, named, reference_at}
use Rattle.mdinline_constructs.specs.StringItems.{string_data, string_grammars, string_item_at, string_part, string_seat_events}
use Rattle.mdinline_link_strings.proofs.Cuts.{string-cut}
use Rattle.mdinline_link_strings.proofs.Plain.{line-there}
use Rattle.mddocument_link_targets.specs.Strings.{as_written}
use Rattle.mddocument_rules.proofs.HeldSections.{bare}
use Rattle.mddocument_rules.proofs.HeldStrings.{AreOutside, first-stays, read}
use Rattle.mddocument_rules.proofs.VirtualBytes.{AreSpelt, NoFeeds, end-shown, in-row, next-own, spelt-behind, spelt-virtual}
use Rattle.mddocument_rules.proofs.WrittenPrefixes.{AreInLine}
use Rattle.mddocument_rules.proofs.WrittenSpans.{Gives, IsPlainAtom, atoms-give, written}

-- ---- no string has a marker of a block quote
abbrev IsNoMarker : Event → Type 0
IsNoMarker e = same_name e.name name.BlockQuoteMarker ≡ false

abbrev AreNoMarkers : List Event → Type 0
AreNoMarkers es = AllByRecursion IsNoMarker es

both : (xs ys : List Event) → AreNoMarkers xs → AreNoMarkers ys → AreNoMarkers (xs ++ ys)
both xs ys h k = every-append IsNoMarker xs ys h k

module _ (bytes : List ℕ) where
  over : (n : Name) (seats : List Seat) (inside : List Event) → same_name n name.BlockQuoteMarker ≡ false → AreNoMarkers inside → AreNoMarkers (span bytes n seats inside)
  over n [] inside f h = h
  over n (s ∷ ss) inside f h = (f, both inside (event bytes Exit n (end_after s.end ss) ∷ []) h (f, tt))

  leafs : (n : Name) (seats : List Seat) → same_name n name.BlockQuoteMarker ≡ false → AreNoMarkers (leaf bytes n seats)
  leafs n seats f = over n seats [] f tt

  abbrev IsUnmarked : Found → Type 0
  IsUnmarked f = (seats : List Seat) → AreNoMarkers (f.events bytes seats)

  escape-free : (text : List ℕ) → OfOption IsUnmarked (escape_at text)
  escape-free text =
      when-there IsUnmarked _ (Some escape) (λ seats.
      over name.CharacterEscape seats (leaf bytes name.CharacterEscapeMarker (take 1 seats) ++ leaf bytes name.CharacterEscapeValue (drop 1 seats)) refl
      (both (leaf bytes name.CharacterEscapeMarker (take 1 seats)) (leaf bytes name.CharacterEscapeValue (drop 1 seats)) (leafs name.CharacterEscapeMarker (take 1 seats) refl) (leafs name.CharacterEscapeValue (drop 1 seats) refl)))

  marks-free : (kind : Kind) (seats : List Seat) → AreNoMarkers (mark_events bytes kind seats)
  marks-free named seats = leafs name.CharacterReferenceMarker (take 1 seats) refl
  marks-free decimal seats =
      let first = leaf bytes name.CharacterReferenceMarker (take 1 seats) in
      let second = leaf bytes name.CharacterReferenceMarkerNumeric (between 1 2 seats) in
      both first second (leafs name.CharacterReferenceMarker (take 1 seats) refl) (leafs name.CharacterReferenceMarkerNumeric (between 1 2 seats) refl)
  marks-free hexadecimal seats =
      let first = leaf bytes name.CharacterReferenceMarker (take 1 seats) in
      let second = leaf bytes name.CharacterReferenceMarkerNumeric (between 1 2 seats) in
      let third = leaf bytes name.CharacterReferenceMarkerHexadecimal (between 2 3 seats) in
      both first (second ++ third) (leafs name.CharacterReferenceMarker (take 1 seats) refl)
      (both second third (leafs name.CharacterReferenceMarkerNumeric (between 1 2 seats) refl) (leafs name.CharacterReferenceMarkerHexadecimal (between 2 3 seats) refl))

  reference-free : (text : List ℕ) → OfOption IsUnmarked (reference_at text)
  reference-free text =
      reference-holds IsUnmarked
      (λ kind n seats.
      let value = leaf bytes name.CharacterReferenceValue (between (marks kind) (marks kind + n) seats) in
      let last = leaf bytes name.CharacterReferenceMarkerSemi (drop (marks kind + n) seats) in
      over name.CharacterReference seats (mark_events bytes kind seats ++ (value ++ last)) refl
      (both (mark_events bytes kind seats) (value ++ last) (marks-free kind seats)
      (both value last (leafs name.CharacterReferenceValue (between (marks kind) (marks kind + n) seats) refl) (leafs name.CharacterReferenceMarkerSemi (drop (marks kind + n) seats) refl))))
      text

  item-free : (on : Constructs) (text : List ℕ) → IsUnmarked (string_item_at on text)
  item-free on text =
      there-holds IsUnmarked string_grammars on text (string_part text) (escape-free text, (reference-free text, tt))
      (elim (has_byte_at text 0 is_line_feed) as (λ t. IsUnmarked (cond t (part line_ending) (string_data text))) [ true ↦ λ seats. leafs name.LineEnding seats refl | false ↦ λ seats. leafs name.Data seats refl ])

  pub string-free : (on : Constructs) (seats : List Seat) → AreNoMarkers (string_seat_events on bytes seats)
  string-free on seats = each-item bytes AreNoMarkers tt both on (item-free on) _ seats

  -- so its innermost spans are plain
  plain-atoms : (atoms : List Atom) (b : Bool) (i : ℕ) (rest : List Seat) → NoFeeds bytes (seats_of atoms) → AreSpelt bytes b i (seats_of atoms ++ rest) → AreNoMarkers (events_of bytes atoms) → AllByRecursion (IsPlainAtom bytes) atoms
  plain-atoms [] b i rest plain h names = tt
  plain-atoms (a ∷ atoms) b i rest plain h names =
      let F : Seat → Type 0 = λ s. (s.byte == 10) ≡ false in
      let ss = a.first ∷ a.others in
      let behind = seats_of atoms ++ rest in
      let here : AreSpelt bytes b i (ss ++ behind) = subst (AreSpelt bytes b i) (append_assoc ss (seats_of atoms) rest) h in
      let front = every-front F ss (seats_of atoms) plain in
      let left = spelt-behind bytes ss b i behind here in
      let end = end_after a.first.end a.others in
      let own = every-back IsNoMarker (all_at bytes Enter a.first.point a.enters) (event bytes Enter a.name a.first.point ∷ event bytes Exit a.name end ∷ all_at bytes Exit end a.exits) (every-front IsNoMarker (atom_events bytes a) (events_of bytes atoms) names) in (
        record {
          named = own.0;
          in_row = in-row bytes b i a.first a.others behind front here;
          from = (next-own bytes b i a.first (a.others ++ behind) front.0 here).own.from;
          to = end-shown bytes b i a.first a.others behind front here;
        },
        plain-atoms atoms left.0 left.1 rest (every-back F ss (seats_of atoms) plain) left.2 (every-back IsNoMarker (atom_events bytes a) (events_of bytes atoms) names),
      )

-- ---- virtual bytes of a document
module _ (t : ℕ) (bytes : List ℕ) where
  -- some of them, one behind another, and none is a line ending
  pub record AreThere (ss : List Seat) : Type 0 where
    pub plain : NoFeeds bytes ss
    pub before : List Seat
    pub behind : List Seat
    pub are : virtual t bytes ≡ before ++ (ss ++ behind)

  pub there-back : (n : ℕ) (ss : List Seat) → AreThere ss → AreThere (drop n ss)
  there-back n ss h = record {
    plain = every-drop (λ (s : Seat). (s.byte == 10) ≡ false) n ss h.plain;
    before = h.before ++ take n ss;
    behind = h.behind;
    are = h.are
        ∙ ap (λ l. h.before ++ (l ++ h.behind)) (sym (take-append-drop n ss))
        ∙ ap (λ l. h.before ++ l) (append_assoc (take n ss) (drop n ss) h.behind)
        ∙ sym (append_assoc h.before (take n ss) (drop n ss ++ h.behind));
  }

  pub there-line : 0 < t → (ss : List Seat) (h : AreThere ss) → AreInLine bytes ss h.behind
  there-line d ss h =
      let left = spelt-behind bytes h.before false 0 (ss ++ h.behind) (subst (AreSpelt bytes false 0) h.are (spelt-virtual bytes t d)) in
      record { plain = h.plain; in_tab = left.0; index = left.1; spelt = left.2 }

-- ---- marks in a label
module _ (on : Constructs) (t : ℕ) (bytes : List ℕ) (d : 0 < t) where
  -- what they give where strings are read, whatever comes behind them
  abbrev pub Writes : List Mark → List ℕ → Type 0
  Writes ms ts = (es : List Event) → as_written bytes (read on t bytes true (bare ms ++ es)) ≡ ts ++ as_written bytes (read on t bytes true es)

  pub writes-both : (xs ys : List Mark) (ts us : List ℕ) → Writes xs ts → Writes ys us → Writes (xs ++ ys) (ts ++ us)
  writes-both xs ys ts us h k es =
      ap (λ l. as_written bytes (read on t bytes true (l ++ es))) (map-append (λ (m : Mark). m.0) xs ys)
      ∙ ap (λ l. as_written bytes (read on t bytes true l)) (append_assoc (bare xs) (bare ys) es)
      ∙ h (bare ys ++ es)
      ∙ ap (λ l. ts ++ l) (k es)
      ∙ sym (append_assoc ts us (as_written bytes (read on t bytes true es)))

  read-outside : (xs ys : List Event) → AreOutside xs → read on t bytes true (xs ++ ys) ≡ xs ++ read on t bytes true ys
  read-outside [] ys h = refl
  read-outside (x ∷ xs) ys h =
      first-stays on t bytes true x (xs ++ ys) h.0.0
      ∙ ap (λ b. x ∷ read on t bytes (cond b (is_enter x.kind) true) (xs ++ ys)) h.0.1
      ∙ ap (λ l. x ∷ l) (read-outside xs ys h.1)

  pub outside-writes : (ms : List Mark) (ts : List ℕ) → AreOutside (bare ms) → Gives bytes (bare ms) ts → Writes ms ts
  outside-writes ms ts outside gives es = ap (as_written bytes) (read-outside (bare ms) es outside) ∙ gives (read on t bytes true es)

  -- Data gives what is written for its virtual bytes
  pub data-writes : (ss : List Seat) → AreThere t bytes ss → Writes (leaf_marks bytes name.Data ss) (flat_map (written bytes) ss)
  data-writes [] h es = refl
  data-writes (s ∷ ss) h es =
      let cut = string-cut on bytes (s ∷ ss) in
      let line = there-line t bytes d (s ∷ ss) h in
      let rest = read on t bytes true es in
      let plain = plain-atoms bytes cut.atoms line.in_tab line.index h.behind (subst (NoFeeds bytes) cut.all h.plain) (subst (λ l. AreSpelt bytes line.in_tab line.index (l ++ h.behind)) cut.all line.spelt) (subst AreNoMarkers cut.are (string-free bytes on (s ∷ ss))) in
      ap (λ l. as_written bytes (l ++ rest)) (line-there on t bytes s ss d (h.before, h.behind, h.are) ∙ cut.are)
      ∙ atoms-give bytes cut.atoms plain rest
      ∙ ap (λ l. flat_map (written bytes) l ++ as_written bytes rest) (sym cut.all)
