-- Places and inline items of a text that is moved: the same, moved.
use Rattle.std.proofs.Common.{Bool, List, None, Option, Some, [], ap, cond, drop, false, length, refl, subst, suc, sym, take, true, zero, ℕ, ◌++◌, ◌+◌, ◌-◌, ◌∙◌, ◌∷◌, ◌≡◌}
use Rattle.std.proofs.lemmas.List.{length-map, map-append}
use Rattle.std.specs.List.{AllByRecursion, between, flat_map, position_or_len, prefix_len}
use Rattle.std.specs.Option.{option_and_then}
use Rattle.std.specs.Prelude.{map, option_map, slice_get}
use Rattle.markdown_base.proofs.Common.{every-append}
use Rattle.markdown_base.specs.Places.{shown}
use Rattle.markdown_base.specs.Virtual.{Seat, end_after}
use Rattle.markdown_base.specs.declared.configuration.Constructs.{Constructs}
use Rattle.markdown_base.specs.declared.event.Event.{Event}
use Rattle.markdown_base.specs.declared.event.Kind.TheVariants.{Enter, Exit}
use Rattle.markdown_base.specs.declared.event.Link.{Link}
use Rattle.markdown_base.specs.declared.event.Name.{Name}
use Rattle.markdown_base.specs.declared.event.Name.TheVariants as name
use Rattle.markdown_base.specs.declared.event.Point.{Point}
use Rattle.mdconstructs_tables.specs.Breaks.{is_white}
use Rattle.mdconstructs_machines.specs.Spans.{event, leaf, span}
use Rattle.mdinline_text_machine.proofs.Constructs.Apart.{EachThere, OfOption, there-holds, when-there}
use Rattle.mdinline_text_machine.specs.Autolink.{autolink, autolink_at, autolink_to, uri}
use Rattle.mdinline_text_machine.specs.Bytes.{backticks, has_byte_at, is_line_feed}
use Rattle.mdinline_text_machine.specs.CodeSpan.{before_backtick_string, code_span_with}
use Rattle.mdinline_text_machine.specs.Construct.{Found}
use Rattle.mdinline_text_machine.specs.Escape.{escape, escape_at}
use Rattle.mdinline_text_machine.specs.Items.{item_length}
use Rattle.mdinline_text_machine.specs.Parts.{Part as TextPart, bytes_of, cut, line_ending, part, part_events, plain_run}
use Rattle.mdinline_text_machine.specs.TextEvents.{item_events}
use Rattle.mdinline_labels.specs.Definitions.{end}
use Rattle.mdinline_labels.specs.Resources.{resource_at}
use Rattle.mdinline_labels.specs.Tails.{begins_with, is_white as is_space_or_tab}
use Rattle.mdinline_labels.specs.declared.definitions.Stretch.{Stretch}
use Rattle.mdinline_labels.specs.declared.resources.Resource.{Resource as Parts}
use Rattle.mdinline_emphasis.specs.Classes.{class_after, class_before}
use Rattle.mdinline_emphasis.specs.Emphasis.{later}
use Rattle.mdinline_constructs.proofs.HtmlTexts.Cuts.{html-there}
use Rattle.mdinline_constructs.proofs.References.Bytes.{reference-holds}
use Rattle.mdinline_constructs.specs.Email.{email, email_at, email_with, is_atext, is_domain_byte}
use Rattle.mdinline_constructs.specs.HardBreak.{break_escape_at, hard_break_escape, hard_break_trailing, trailing_break_at}
use Rattle.mdinline_constructs.specs.HtmlMarked.{marked}
use Rattle.mdinline_constructs.specs.HtmlTag.{tag_length}
use Rattle.mdinline_constructs.specs.LinedCode.{code_piece_at, code_piece_events, lined_code_at, lined_events}
use Rattle.mdinline_constructs.specs.HtmlText.{Piece, data_run as html_data, html, html_of, line_break as html_break, piece_at, piece_events, piece_length}
use Rattle.mdinline_constructs.specs.Reference.{Kind, decimal, hexadecimal, mark_events, marks as signs_of, named, reference, reference_at}
use Rattle.mdinline_constructs.specs.StringItems.{is_string_special, string_data, string_grammars, string_item_at, string_part, string_seat_events}
use Rattle.mdinline_constructs.specs.WhiteSpace.{white_space, white_space_at}
use Rattle.mdinline_link_tails.specs.Resource.{behind_destination, destination_events, destination_string, gap_events, in_marks, in_resource, line_events, resource, resource_grammar, string_events, title_events, unmarked}
use Rattle.mdinline_full_references.specs.FullReference.{full_reference, full_reference_grammar, label_length, label_text}
use Rattle.mdinline_machine.specs.Brackets.{collapsed_reference, image_bracket, label_end, link_bracket, lone_end, no_tail}
use Rattle.mdinline_machine.specs.InlineEvents.{data_length, data_run, delimiter_run, inline_grammars, line_break, run_length, run_or_part}
use Rattle.mdinline_machine.specs.RunRows.{begins_run}
use Rattle.mdblock_tables.proofs.PieceLemmas.{end-moved}
use Rattle.mddocument_parts.proofs.MovedMarks as marks
use Rattle.mddocument_parts.proofs.MovedMarks.{Places}

-- ==== Virtual bytes and events of one document, and of another in which they are moved.
-- Two documents, of which places of the first are in the second. A known place has the same bytes beside it, and between it and another one, in both
pub record Moving : Type 0 where
  pub places : Places
  pub bytes : ℕ
  pub index : (p : Point) → (places.to p).index ≡ p.index + bytes
  pub further : (n : ℕ) (p : Point) → places.to (later n p) ≡ later n (places.to p)
  pub stays : (p : Point) → places.known p ≡ true → places.known (shown places.old p) ≡ true
  pub byte : (p : Point) → places.known p ≡ true → slice_get places.new (places.to p).index ≡ slice_get places.old p.index
  pub before : (p : Point) → places.known p ≡ true → class_before places.new (places.to p).index ≡ class_before places.old p.index
  pub after : (p : Point) → places.known p ≡ true → class_after places.new (places.to p).index ≡ class_after places.old p.index
  pub range : (p q : Point) → places.known p ≡ true → places.known q ≡ true → between (places.to p).index (places.to q).index places.new ≡ between p.index q.index places.old
  pub range_before : (r p q : Point) → places.known r ≡ true → places.known p ≡ true → places.known q ≡ true
      → between (places.to p).index (places.to q).index (take (places.to r).index places.new) ≡ between p.index q.index (take r.index places.old)

-- the same virtual bytes, so many at their front, and those behind
module _ {B C : List ℕ} {f : Point → Point} {g : Option Link → Option Link} {none : g None ≡ None} {Ok : Point → Type 0} {sh : (p : Point) → Ok p → shown C (f p) ≡ f (shown B p)} where
  pub same-bytes : (s r : List Seat) → marks.Part B C f g none Ok sh s r → bytes_of s ≡ bytes_of r
  same-bytes = marks.bs B C f g none Ok sh

  pub same-length : (s r : List Seat) → marks.Part B C f g none Ok sh s r → length s ≡ length r
  same-length s r p = ap length p.is ∙ length-map r (marks.fs B C f g none Ok sh)

  pub front : (s r : List Seat) (n k : ℕ) → n ≡ k → marks.Part B C f g none Ok sh s r → marks.Part B C f g none Ok sh (take n s) (take k r)
  front = marks.tk B C f g none Ok sh

  pub back : (s r : List Seat) (n k : ℕ) → n ≡ k → marks.Part B C f g none Ok sh s r → marks.Part B C f g none Ok sh (drop n s) (drop k r)
  back = marks.dr B C f g none Ok sh

module _ (m : Moving) where
  abbrev pub moved : Seat → Seat
  moved s = record { byte = s.byte; point = m.places.to s.point; end = m.places.to s.end }

  abbrev pub all_moved : List Seat → List Seat
  all_moved seats = map moved seats

  abbrev pub moved_event : Event → Event
  moved_event e = record { kind = e.kind; name = e.name; point = m.places.to e.point; link = m.places.link e.link }

  abbrev pub moved_events : List Event → List Event
  moved_events es = map moved_event es

  abbrev pub IsKnownSeat : Seat → Type 0
  IsKnownSeat s = (m.places.known s.point ≡ true) × (m.places.known s.end ≡ true)

  abbrev pub AreKnownSeats : List Seat → Type 0
  AreKnownSeats seats = AllByRecursion IsKnownSeat seats

  abbrev pub IsKnown : Event → Type 0
  IsKnown e = m.places.known e.point ≡ true

  abbrev pub AreKnown : List Event → Type 0
  AreKnown es = AllByRecursion IsKnown es

  abbrev IsOk : Point → Type 0
  IsOk p = m.places.known p ≡ true

  -- ---- virtual bytes that are others, moved
  abbrev pub Part : (s r : List Seat) → Type 0
  Part s r = marks.Part m.places.old m.places.new m.places.to m.places.link m.places.unlinked IsOk m.places.shows s r

  -- ---- events that are others, moved
  pub record Moves (x y : List Event) : Type 0 where
    pub is : x ≡ moved_events y
    pub known : AreKnown y

  pub whole : (r : List Seat) → AreKnownSeats r → Part (all_moved r) r
  whole r h = record { is = refl; ok = h }

  -- ---- lists of events
  pub nothing : Moves [] []
  nothing = record { is = refl; known = tt }

  pub both : (x y x2 y2 : List Event) → Moves x y → Moves x2 y2 → Moves (x ++ x2) (y ++ y2)
  both x y x2 y2 h k = record { is = (λ i. h.is i ++ k.is i) ∙ sym (map-append moved_event y y2); known = every-append IsKnown y y2 h.known k.known }

  span-whole : (name : Name) (r : List Seat) (x y : List Event) → AreKnownSeats r → Moves x y → Moves (span m.places.new name (all_moved r) x) (span m.places.old name r y)
  span-whole name [] x y h e = e
  span-whole name (s ∷ ss) x y h e =
      let at = marks.event-moved m.places.old m.places.new m.places.to m.places.link m.places.unlinked IsOk m.places.shows in
      let enter = at Enter name s.point h.0.0 in
      let last = marks.end-ok m.places.old m.places.new m.places.to m.places.link m.places.unlinked IsOk m.places.shows s.end ss h.0.1 h.1 in
      let exit : event m.places.new Exit name (end_after (m.places.to s.end) (all_moved ss)) ≡ moved_event (event m.places.old Exit name (end_after s.end ss)) =
      ap (event m.places.new Exit name) (end-moved m.places.to s.end ss) ∙ at Exit name (end_after s.end ss) last in
      record {
        is = (λ i. enter i ∷ (e.is i ++ exit i ∷ [])) ∙ ap (λ l. moved_event (event m.places.old Enter name s.point) ∷ l) (sym (map-append moved_event y (event m.places.old Exit name (end_after s.end ss) ∷ [])));
        known = (m.stays s.point h.0.0, every-append IsKnown y (event m.places.old Exit name (end_after s.end ss) ∷ []) e.known (m.stays (end_after s.end ss) last, tt));
      }

  pub around : (name : Name) (s r : List Seat) (x y : List Event) → Part s r → Moves x y → Moves (span m.places.new name s x) (span m.places.old name r y)
  around name s r x y p e = subst (λ s. Moves (span m.places.new name s x) (span m.places.old name r y)) (sym p.is) (span-whole name r x y p.ok e)

  pub alone : (name : Name) (s r : List Seat) → Part s r → Moves (leaf m.places.new name s) (leaf m.places.old name r)
  alone name s r p = around name s r [] [] p nothing

  -- ---- virtual bytes that are cut
  module _ {A : Type 0} (first : List ℕ → A) (size : A → ℕ) (events : List ℕ → (A × List Seat) → List Event)
      (each : (text : List ℕ) (s r : List Seat) → Part s r → Moves (events m.places.new (first text, s)) (events m.places.old (first text, r))) where
    cuts-whole : (bound : ℕ) (r : List Seat) → AreKnownSeats r → Moves (flat_map (events m.places.new) (cut first size bound (all_moved r))) (flat_map (events m.places.old) (cut first size bound r))
    cuts-whole zero r h = nothing
    cuts-whole (suc bound) [] h = nothing
    cuts-whole (suc bound) (s ∷ ss) h =
        let p = whole (s ∷ ss) h in
        let a = first (bytes_of (s ∷ ss)) in
        let same : first (bytes_of (all_moved (s ∷ ss))) ≡ a = ap first (same-bytes _ _ p) in
        let k = size a in
        let rest = back _ _ k k refl p in
        subst (λ b. Moves (events m.places.new (b, take (size b) (all_moved (s ∷ ss))) ++ flat_map (events m.places.new) (cut first size bound (drop (size b) (all_moved (s ∷ ss))))) (flat_map (events m.places.old) (cut first size (suc bound) (s ∷ ss)))) (sym same)
        (both _ _ _ _ (each (bytes_of (s ∷ ss)) _ _ (front _ _ k k refl p))
        (subst (λ t. Moves (flat_map (events m.places.new) (cut first size bound t)) (flat_map (events m.places.old) (cut first size bound (drop k (s ∷ ss))))) (sym rest.is) (cuts-whole bound (drop k (s ∷ ss)) rest.ok)))

    pub cuts : (n k : ℕ) (s r : List Seat) → n ≡ k → Part s r → Moves (flat_map (events m.places.new) (cut first size n s)) (flat_map (events m.places.old) (cut first size k r))
    cuts n k s r e p = subst (λ n. Moves (flat_map (events m.places.new) (cut first size n s)) (flat_map (events m.places.old) (cut first size k r))) (sym e) (subst (λ s. Moves (flat_map (events m.places.new) (cut first size k s)) (flat_map (events m.places.old) (cut first size k r))) (sym p.is) (cuts-whole k r p.ok))

-- ==== The events of items over virtual bytes that are others, moved.
module _ (m : Moving) where
  -- over moved virtual bytes what is found has its events, moved
  abbrev pub MovesAs : Found → Type 0
  MovesAs found = (s r : List Seat) → Part m s r → Moves m (found.events m.places.new s) (found.events m.places.old r)

  abbrev MovesIf : Option Found → Type 0
  MovesIf o = OfOption MovesAs o

  mapped : {A : Type 0} (f : A → Found) → ((a : A) → MovesAs (f a)) → (o : Option A) → MovesIf (option_map f o)
  mapped f h None = tt
  mapped f h (Some a) = h a

  middle : (i j i2 j2 : ℕ) (s r : List Seat) → i ≡ i2 → j ≡ j2 → Part m s r → Part m (between i j s) (between i2 j2 r)
  middle i j i2 j2 s r e f p = front _ _ (j - i) (j2 - i2) (λ d. f d - e d) (back s r i i2 e p)

  -- ---- what has one part, or three
  one : (n : Name) (s r : List Seat) → Part m s r → Moves m (leaf m.places.new n s) (leaf m.places.old n r)
  one n s r p = alone m n s r p

  two : (a c : Name) (s r s2 r2 : List Seat) → Part m s r → Part m s2 r2 → Moves m (leaf m.places.new a s ++ leaf m.places.new c s2) (leaf m.places.old a r ++ leaf m.places.old c r2)
  two a c s r s2 r2 p q = both m _ _ _ _ (one a s r p) (one c s2 r2 q)

  three : (a c : Name) (x y : List Event) (s r s2 r2 : List Seat) → Part m s r → Moves m x y → Part m s2 r2 → Moves m (leaf m.places.new a s ++ (x ++ leaf m.places.new c s2)) (leaf m.places.old a r ++ (y ++ leaf m.places.old c r2))
  three a c x y s r s2 r2 p h q = both m _ _ _ _ (one a s r p) (both m _ _ _ _ h (one c s2 r2 q))

  -- ---- constructs
  part-moves : (n : Name) (a : TextPart) (s r : List Seat) → Part m s r → Moves m (part_events m.places.new n (a, s)) (part_events m.places.old n (a, r))
  part-moves n line_ending s r p = one name.LineEnding s r p
  part-moves n (plain_run k) s r p = one n s r p

  code-piece-moves : (a : Piece) (s r : List Seat) → Part m s r → Moves m (code_piece_events m.places.new (a, s)) (code_piece_events m.places.old (a, r))
  code-piece-moves (html_break n) s r p = two name.LineEnding name.SpaceOrTab _ _ _ _ (front s r 1 1 refl p) (back s r 1 1 refl p)
  code-piece-moves (html_data n) s r p = one name.CodeTextData s r p

  code-moves : (k n : ℕ) → MovesAs (code_span_with lined_events k n)
  code-moves k n s r p =
      let inside = middle k (k + n) k (k + n) s r refl refl p in
      around m name.CodeText s r _ _ p
      (three name.CodeTextSequence name.CodeTextSequence _ _ _ _ _ _ (front s r k k refl p)
      (cuts m code_piece_at piece_length code_piece_events (λ t s r p. code-piece-moves _ s r p) _ _ _ _ (same-length _ _ inside) inside)
      (back s r (k + n) (k + n) refl p))

  code : (text : List ℕ) → MovesIf (lined_code_at text)
  code text = let k = backticks text in when-there MovesAs _ (option_map (code_span_with lined_events k) (before_backtick_string k (drop k text))) (mapped (code_span_with lined_events k) (code-moves k) (before_backtick_string k (drop k text)))

  link-moves : (outer marker inner : Name) (n : ℕ) (s r : List Seat) → Part m s r
      → Moves m (span m.places.new outer s (leaf m.places.new marker (take 1 s) ++ (leaf m.places.new inner (between 1 (1 + n) s) ++ leaf m.places.new marker (drop (1 + n) s))))
      (span m.places.old outer r (leaf m.places.old marker (take 1 r) ++ (leaf m.places.old inner (between 1 (1 + n) r) ++ leaf m.places.old marker (drop (1 + n) r))))
  link-moves outer marker inner n s r p =
      around m outer s r _ _ p
      (three marker marker _ _ _ _ _ _ (front s r 1 1 refl p) (one inner _ _ (middle 1 (1 + n) 1 (1 + n) s r refl refl p)) (back s r (1 + n) (1 + n) refl p))

  to : (text : List ℕ) (o : Option ℕ) → MovesIf (autolink_to text o)
  to text None = tt
  to text (Some n) = when-there MovesAs _ (Some (autolink n)) (link-moves name.Autolink name.AutolinkMarker name.AutolinkProtocol n)

  autolinks : (text : List ℕ) → MovesIf (autolink_at text)
  autolinks text = when-there MovesAs _ (autolink_to text (uri (drop 1 text))) (to text (uri (drop 1 text)))

  emails : (text : List ℕ) → MovesIf (email_at text)
  emails text =
      let n = prefix_len is_atext (drop 1 text) in
      let inside = n + 1 + prefix_len is_domain_byte (drop (n + 2) text) in
      when-there MovesAs _ (email_with text n) (when-there MovesAs _ (Some (email inside)) (link-moves name.Autolink name.AutolinkMarker name.AutolinkEmail inside))

  piece-moves : (a : Piece) (s r : List Seat) → Part m s r → Moves m (piece_events m.places.new (a, s)) (piece_events m.places.old (a, r))
  piece-moves (html_break n) s r p = two name.LineEnding name.SpaceOrTab _ _ _ _ (front s r 1 1 refl p) (back s r 1 1 refl p)
  piece-moves (html_data n) s r p = one name.HtmlTextData s r p

  html-moves : (n : ℕ) → MovesAs (html n)
  html-moves n s r p = around m name.HtmlText s r _ _ p (cuts m piece_at piece_length piece_events (λ t s r p. piece-moves _ s r p) _ _ s r (same-length s r p) p)

  htmls : (text : List ℕ) (o : Option ℕ) → MovesIf (html_of text o)
  htmls text o = html-there MovesAs text o html-moves

  escapes : (text : List ℕ) → MovesIf (escape_at text)
  escapes text =
      when-there MovesAs _ (Some escape) (λ s r p. around m name.CharacterEscape s r _ _ p (two name.CharacterEscapeMarker name.CharacterEscapeValue _ _ _ _ (front s r 1 1 refl p) (back s r 1 1 refl p)))

  breaks : (text : List ℕ) → MovesIf (break_escape_at text)
  breaks text = when-there MovesAs _ (Some hard_break_escape) (one name.HardBreakEscape)

  marks-move : (kind : Kind) (s r : List Seat) → Part m s r → Moves m (mark_events m.places.new kind s) (mark_events m.places.old kind r)
  marks-move named s r p = one name.CharacterReferenceMarker _ _ (front s r 1 1 refl p)
  marks-move decimal s r p = two name.CharacterReferenceMarker name.CharacterReferenceMarkerNumeric _ _ _ _ (front s r 1 1 refl p) (middle 1 2 1 2 s r refl refl p)
  marks-move hexadecimal s r p =
      both m _ _ _ _ (one name.CharacterReferenceMarker _ _ (front s r 1 1 refl p))
      (two name.CharacterReferenceMarkerNumeric name.CharacterReferenceMarkerHexadecimal _ _ _ _ (middle 1 2 1 2 s r refl refl p) (middle 2 3 2 3 s r refl refl p))

  reference-moves : (kind : Kind) (n : ℕ) → MovesAs (reference kind n)
  reference-moves kind n s r p =
      around m name.CharacterReference s r _ _ p
      (both m _ _ _ _ (marks-move kind s r p)
      (two name.CharacterReferenceValue name.CharacterReferenceMarkerSemi _ _ _ _ (middle (signs_of kind) (signs_of kind + n) (signs_of kind) (signs_of kind + n) s r refl refl p) (back s r (signs_of kind + n) (signs_of kind + n) refl p)))

  references : (text : List ℕ) → MovesIf (reference_at text)
  references = reference-holds MovesAs reference-moves

  trailing : (text : List ℕ) → MovesIf (trailing_break_at text)
  trailing text = when-there MovesAs _ (Some (hard_break_trailing _)) (one name.HardBreakTrailing)

  whites : (text : List ℕ) → MovesIf (white_space_at text)
  whites text = when-there MovesAs _ (Some (white_space (prefix_len is_white text))) (one name.SpaceOrTab)

  pub each-moves : (text : List ℕ) → EachThere MovesAs inline_grammars text
  each-moves text = (code text, (autolinks text, (emails text, (htmls text (marked text), (htmls text (tag_length text), (escapes text, (breaks text, (references text, (trailing text, (whites text, tt))))))))))

  -- ---- data, runs and line endings
  pub rest-moves : (on : Constructs) (text : List ℕ) → MovesAs (run_or_part on text)
  rest-moves on text = by (has_byte_at text 0 (begins_run on)) (has_byte_at text 0 is_line_feed)
    where
      by : (c d : Bool) → MovesAs (cond c (delimiter_run (run_length text)) (cond d (line_break (prefix_len is_white (drop 1 text))) (data_run (data_length on text))))
      by true d = one name.AttentionSequence
      by false true = λ s r p. two name.LineEnding name.SpaceOrTab _ _ _ _ (front s r 1 1 refl p) (back s r 1 1 refl p)
      by false false = one name.Data

  -- ---- resources and references
  marked-moves : (outer mark : Name) (x y : List Event) (s r : List Seat) → Moves m x y → Part m s r → Moves m (in_marks m.places.new outer mark x s) (in_marks m.places.old outer mark y r)
  marked-moves outer mark x y s r h p = around m outer s r _ _ p (three mark mark x y _ _ _ _ (front s r 1 1 refl p) h (back s r _ _ (ap (λ n. n - 1) (same-length s r p)) p))

  inside : (s r : List Seat) → Part m s r → Part m (unmarked m.places.new s) (unmarked m.places.old r)
  inside s r p = middle 1 _ 1 _ s r refl (ap (λ n. n - 1) (same-length s r p)) p

  line-moves : (a : Piece) (s r : List Seat) → Part m s r → Moves m (line_events m.places.new (a, s)) (line_events m.places.old (a, r))
  line-moves (html_break n) s r p = two name.LineEnding name.SpaceOrTab _ _ _ _ (front s r 1 1 refl p) (back s r 1 1 refl p)
  line-moves (html_data n) s r p = one name.Data s r p

  pub lines-move : (s r : List Seat) → Part m s r → Moves m (string_events m.places.new s) (string_events m.places.old r)
  lines-move s r p = cuts m piece_at piece_length line_events (λ t s r p. line-moves _ s r p) _ _ s r (same-length s r p) p

  gap-moves : (s r : List Seat) → Part m s r → Moves m (gap_events m.places.new s) (gap_events m.places.old r)
  gap-moves s r p =
      let n = ap (prefix_len is_space_or_tab) (same-bytes s r p) in
      let rest = back s r _ _ n p in
      both m _ _ _ _ (one name.SpaceOrTab _ _ (front s r _ _ n p)) (two name.LineEnding name.SpaceOrTab _ _ _ _ (front _ _ 1 1 refl rest) (back _ _ 1 1 refl rest))

  string-moves : (s r : List Seat) → Part m s r → Moves m (destination_string m.places.new s) (destination_string m.places.old r)
  string-moves s r p = around m name.ResourceDestinationString s r _ _ p (one name.Data s r p)

  title-moves : (s r : List Seat) → Part m s r → Moves m (title_events m.places.new s) (title_events m.places.old r)
  title-moves s r p = let q = inside s r p in marked-moves name.ResourceTitle name.ResourceTitleMarker _ _ s r (around m name.ResourceTitleString _ _ _ _ q (lines-move _ _ q)) p

  destination-moves : (s r : List Seat) → Part m s r → Moves m (destination_events m.places.new s) (destination_events m.places.old r)
  destination-moves s r p =
      let enclosed = marked-moves name.ResourceDestinationLiteral name.ResourceDestinationLiteralMarker _ _ s r (string-moves _ _ (inside s r p)) p in
      let raw = around m name.ResourceDestinationRaw s r _ _ p (string-moves s r p) in
      around m name.ResourceDestination s r _ _ p (by _ _ (ap (begins_with 60) (same-bytes s r p)) _ _ _ _ enclosed raw)
    where
      by : (c d : Bool) → c ≡ d → (x y x2 y2 : List Event) → Moves m x y → Moves m x2 y2 → Moves m (cond c x x2) (cond d y y2)
      by true true e x y x2 y2 h k = h
      by false false e x y x2 y2 h k = k
      by true false e x y x2 y2 h k = absurd (cc)
      by false true e x y x2 y2 h k = absurd (cc)

  tail-moves : (title : Option Stretch) (from last : ℕ) (s r : List Seat) → Part m s r → Moves m (behind_destination m.places.new title from last s) (behind_destination m.places.old title from last r)
  tail-moves None from last s r p = gap-moves _ _ (middle from last from last s r refl refl p)
  tail-moves (Some t) from last s r p =
      both m _ _ _ _ (gap-moves _ _ (middle from t.from from t.from s r refl refl p))
      (both m _ _ _ _ (title-moves _ _ (middle t.from (end t) t.from (end t) s r refl refl p)) (gap-moves _ _ (middle (end t) last (end t) last s r refl refl p)))

  parts-move : (destination title : Option Stretch) (last : ℕ) (s r : List Seat) → Part m s r → Moves m (in_resource m.places.new destination title last s) (in_resource m.places.old destination title last r)
  parts-move None title last s r p = gap-moves _ _ (middle 1 last 1 last s r refl refl p)
  parts-move (Some d) title last s r p =
      both m _ _ _ _ (gap-moves _ _ (middle 1 d.from 1 d.from s r refl refl p))
      (both m _ _ _ _ (destination-moves _ _ (middle d.from (end d) d.from (end d) s r refl refl p)) (tail-moves title (end d) last s r p))

  resource-moves : (q : Parts) → MovesAs (resource q)
  resource-moves q s r p = marked-moves name.Resource name.ResourceMarker _ _ s r (parts-move q.destination q.title (q.size - 1) s r p) p

  pub resources-move : (text : List ℕ) (tail : Found) → resource_grammar.front text ≡ Some tail → MovesAs tail
  resources-move text tail is = elim (resource_at text) as (λ o. option_map resource o ≡ Some tail → MovesAs tail) [
    | None ↦ λ e. absurd (cc)
    | Some q ↦ λ e. (let same : resource q ≡ tail = cc in subst MovesAs same (resource-moves q))
  ] is

  full-moves : (n : ℕ) → MovesAs (full_reference n)
  full-moves n s r p = let q = inside s r p in marked-moves name.Reference name.ReferenceMarker _ _ s r (around m name.ReferenceString _ _ _ _ q (lines-move _ _ q)) p

  pub full-references-move : (wanted : List ℕ → Bool) (text : List ℕ) (tail : Found) → (full_reference_grammar wanted).front text ≡ Some tail → MovesAs tail
  full-references-move wanted text tail is =
      elim (label_length text) as (λ o. option_and_then (λ n. cond (wanted (label_text n text)) (Some (full_reference n)) None) o ≡ Some tail → MovesAs tail) [
        | None ↦ λ e. absurd (cc)
        | Some n ↦ elim (wanted (label_text n text)) as (λ t. cond t (Some (full_reference n)) None ≡ Some tail → MovesAs tail) [
          | true ↦ λ e. (let same : full_reference n ≡ tail = cc in subst MovesAs same (full-moves n))
          | false ↦ λ e. absurd (cc)
        ]
      ] is

  pub collapsed-moves : MovesAs collapsed_reference
  collapsed-moves s r p = marked-moves name.Reference name.ReferenceMarker [] [] s r (nothing m) p

  pub none-moves : MovesAs no_tail
  none-moves s r p = nothing m

  -- ---- brackets
  pub link-bracket-moves : MovesAs link_bracket
  link-bracket-moves s r p = around m name.LabelLink s r _ _ p (one name.LabelMarker s r p)

  pub image-bracket-moves : MovesAs image_bracket
  image-bracket-moves s r p = around m name.LabelImage s r _ _ p (two name.LabelImageMarker name.LabelMarker _ _ _ _ (front s r 1 1 refl p) (back s r 1 1 refl p))

  pub lone-moves : MovesAs lone_end
  lone-moves s r p = one name.LabelMarker s r p

  pub end-moves : (tail : Found) → MovesAs tail → MovesAs (label_end tail)
  end-moves tail h s r p =
      let first = front s r 1 1 refl p in
      both m _ _ _ _ (around m name.LabelEnd _ _ _ _ first (one name.LabelMarker _ _ first)) (h _ _ (back s r 1 1 refl p))

  -- ---- strings
  part-found : (a : TextPart) → MovesAs (part a)
  part-found a s r p = part-moves name.Data a s r p

  string-part : (text : List ℕ) → MovesAs (string_part text)
  string-part text = by (has_byte_at text 0 is_line_feed)
    where
      by : (c : Bool) → MovesAs (cond c (part line_ending) (string_data text))
      by true = part-found line_ending
      by false = part-found (plain_run (1 + position_or_len is_string_special (drop 1 text)))

  string-item : (on : Constructs) (text : List ℕ) → MovesAs (string_item_at on text)
  string-item on text = there-holds MovesAs string_grammars on text (string_part text) (escapes text, (references text, tt)) (string-part text)

  -- what virtual bytes are read as, as a string
  pub strings-move : (on : Constructs) (s r : List Seat) → Part m s r → Moves m (string_seat_events on m.places.new s) (string_seat_events on m.places.old r)
  strings-move on s r p = cuts m (string_item_at on) item_length item_events (λ t. string-item on t) _ _ s r (same-length s r p) p
