-- Texts that are moved: what they are read as, and what is asked of labels, is the same, moved.
use Rattle.std.proofs.Common.{Bool, List, None, Option, Some, [], ap, arith, cond, drop, false, length, length-drop, lt-ltb, ltb-true, nat_lt, not, refl, subst, suc, sym, take, true, zero, ℕ, ◌&&◌, ◌++◌, ◌+◌, ◌-◌, ◌<◌, ◌==◌, ◌||◌, ◌∙◌, ◌∷◌, ◌≡◌, ◌≤◌}
use Rattle.std.proofs.Math.Seq.{drop-append-add, take-append-add}
use Rattle.std.proofs.lemmas.Grind.{flat_map-append}
use Rattle.std.proofs.lemmas.List.{drop-append-le, drop-map, length-map, map-append, take-append-le}
use Rattle.std.specs.List.{AllByRecursion, between, flat_map, prefix_len}
use Rattle.std.specs.Option.{is_some, option_or}
use Rattle.std.specs.Prelude.{map, option_map, slice_get, slice_index}
use Rattle.markdown_base.proofs.Common.{every-append, every-drop, get-front}
use Rattle.markdown_base.specs.Events.{is_enter, same_name}
use Rattle.markdown_base.specs.Places.{follows_cr, shown}
use Rattle.markdown_base.specs.Virtual.{Seat}
use Rattle.markdown_base.specs.declared.configuration.Constructs.{Constructs}
use Rattle.markdown_base.specs.declared.event.Event.{Event}
use Rattle.markdown_base.specs.declared.event.Name.TheVariants.{LabelImage, LabelLink, SpaceOrTab}
use Rattle.markdown_base.specs.declared.event.Point.{Point}
use Rattle.markdown_base.proofs.Facts.Bools.{cond-same}
use Rattle.markdown_edits.proofs.Edits.Survivors.{slice_get-behind}
use Rattle.mdconstructs_tables.specs.Breaks.{is_white}
use Rattle.mdconstructs_machines.specs.Innermost.{ended_next, innermost_spans}
use Rattle.mdinline_text_machine.proofs.Constructs.Apart.{there-holds}
use Rattle.mdinline_text_machine.specs.Bytes.{has_byte_at}
use Rattle.mdinline_text_machine.specs.Construct.{Found, first_there, or_else}
use Rattle.mdinline_text_machine.specs.Items.{item_length}
use Rattle.mdinline_text_machine.specs.Parts.{bytes_of, cut_remembering}
use Rattle.mdinline_text_machine.specs.TextEvents.{item_events}
use Rattle.mdinline_labels.specs.Labels.{is_label}
use Rattle.mdinline_emphasis.specs.Classes.{class_at_end, first_char, last_char}
use Rattle.mdinline_links.specs.Linked.{with_links}
use Rattle.mdinline_constructs.specs.WhiteSpace.{white_space}
use Rattle.mdinline_link_tails.specs.Resource.{resource_grammar}
use Rattle.mdinline_full_references.specs.FullReference.{full_reference_grammar, label_length, label_text}
use Rattle.mdinline_machine.proofs.BracketBytes.{bracket-holds, tail-holds}
use Rattle.mdinline_machine.specs.Brackets.{Bracket, Memory, after_item, begins_end, begins_link, bytes_before, end_at, has_bracket, image_bracket, is_defined_label, is_image_bracket, is_own_label, is_wanted_at, label_end, link_bracket, lone_end, nothing_read, own_is_defined, own_tail, spanned_bytes, tail_of, waiting_behind}
use Rattle.mdinline_machine.specs.InlineEvents.{bracket_or_part, inline_grammars, inline_item_at, inline_items, run_or_part}
use Rattle.mddocument_parts.proofs.Events.{map-same}
use Rattle.mddocument_parts.proofs.MovedItems.{MovesAs, collapsed-moves, each-moves, end-moves, full-references-move, image-bracket-moves, lines-move, link-bracket-moves, lone-moves, none-moves, resources-move, rest-moves, strings-move, AreKnown, AreKnownSeats, IsKnown, Moves, Moving, Part, all_moved, alone, back, both, front, moved, moved_event, moved_events, nothing, same-bytes, same-length, whole}
use Rattle.mddocument_parts.proofs.MovedLinks.{links-moved}
use Rattle.mddocument_parts.proofs.Seams.{class-after-front, class-before-behind}
use Rattle.mddocument_parts.proofs.Shown.{line-untorn, shown-behind, shown-front}
use Rattle.mddocument_parts.specs.Asked.{AskedLabelsMove, asked_from, asked_labels, if_label, label_ahead, label_behind, labels_at, looked_up, own_label}
use Rattle.mddocument_parts.specs.Moved.{begins_line, moved_link, moved_point, moved_seat}
use Rattle.mddocument_parts.specs.ReadTexts.{InlinesMove, StandsBefore, StringsMove}

-- ==== Inline text over virtual bytes that are others, moved: it is read with what is remembered, moved.
module _ (m : Moving) where
  -- ---- labels
  -- the same bytes are between two known places
  abbrev SameBetween : List ℕ → List ℕ → Type 0
  SameBetween new old = (p q : Point) → m.places.known p ≡ true → m.places.known q ≡ true → between (m.places.to p).index (m.places.to q).index new ≡ between p.index q.index old

  abbrev bytes_in : List ℕ → Point × Point → List ℕ
  bytes_in bytes places = between places.0.index places.1.index bytes

  first-same : (new old : List ℕ) → SameBetween new old → (e : Event) (es : List Event) → m.places.known e.point ≡ true → AreKnown m es
      → flat_map (bytes_in new) (cond (is_enter e.kind) (ended_next (moved_event m e) (moved_events m es)) []) ≡ flat_map (bytes_in old) (cond (is_enter e.kind) (ended_next e es) [])
  first-same new old same e [] h k = ap (flat_map (bytes_in new)) (cond-same (is_enter e.kind) []) ∙ sym (ap (flat_map (bytes_in old)) (cond-same (is_enter e.kind) []))
  first-same new old same e (f ∷ es) h k = by (is_enter e.kind) (is_enter f.kind)
    where
      by : (c d : Bool) → flat_map (bytes_in new) (cond c (cond d [] ((m.places.to e.point, m.places.to f.point) ∷ [])) []) ≡ flat_map (bytes_in old) (cond c (cond d [] ((e.point, f.point) ∷ [])) [])
      by true true = refl
      by true false = ap (λ bytes. bytes ++ []) (same e.point f.point h k.0)
      by false d = refl

  spanned-same : (new old : List ℕ) → SameBetween new old → (es : List Event) → AreKnown m es → spanned_bytes new (moved_events m es) ≡ spanned_bytes old es
  spanned-same new old same [] h = refl
  spanned-same new old same (e ∷ es) h =
      let first2 = cond (is_enter e.kind) (ended_next (moved_event m e) (moved_events m es)) [] in
      let first = cond (is_enter e.kind) (ended_next e es) [] in
      let here = first-same new old same e es h.0 h.1 in
      let rest = spanned-same new old same es h.1 in
      flat_map-append (bytes_in new) first2 (innermost_spans (moved_events m es)) ∙ (λ i. here i ++ rest i) ∙ sym (flat_map-append (bytes_in old) first (innermost_spans es))

  pub label-same : (ahead : List Seat) → AreKnownSeats m ahead → (es : List Event) → AreKnown m es → spanned_bytes (bytes_before m.places.new (all_moved m ahead)) (moved_events m es) ≡ spanned_bytes (bytes_before m.places.old ahead) es
  label-same [] h es k = spanned-same m.places.new m.places.old m.range es k
  label-same (s ∷ ss) h es k =
      let r = shown m.places.old s.point in
      ap (λ (p : Point). spanned_bytes (take p.index m.places.new) (moved_events m es)) (m.places.shows s.point h.0.0)
      ∙ spanned-same (take (m.places.to r).index m.places.new) (take r.index m.places.old) (λ p q known also. m.range_before r p q (m.stays s.point h.0.0) known also) es k

  no-bracket : (es : List Event) → has_bracket (moved_events m es) ≡ has_bracket es
  no-bracket [] = refl
  no-bracket (e ∷ es) = ap (λ b. (same_name e.name LabelLink || same_name e.name LabelImage) || b) (no-bracket es)

  -- ---- what is remembered
  abbrev pub moved_memory : Memory → Memory
  moved_memory q = record { waiting = q.waiting; events = moved_events m q.events; ahead = all_moved m q.ahead }

  -- of it all places are known
  pub record IsKnownMemory (q : Memory) : Type 0 where
    pub events : AreKnown m q.events
    pub ahead : AreKnownSeats m q.ahead

  module _ (on : Constructs) (defined : List ℕ → Bool) where
    wanted-same : (ahead : List Seat) → AreKnownSeats m ahead → (label : List ℕ) → is_wanted_at defined m.places.new (all_moved m ahead) label ≡ is_wanted_at defined m.places.old ahead label
    wanted-same ahead h label =
        let text = back _ _ 2 2 refl (whole m ahead h) in
        let rest = back _ _ (length label) (length label) refl text in
        let inner = lines-move m _ _ (front _ _ (length label) (length label) refl text) in
        (λ i. is_defined_label defined (bytes_before m.places.new (rest.is i)) (inner.is i))
        ∙ ap (λ bytes. is_label bytes && defined bytes) (label-same (drop (length label) (drop 2 ahead)) rest.ok _ inner.known)

    own-same : (b : Bracket) (q : Memory) → IsKnownMemory q → own_is_defined defined m.places.new b (moved_memory q) ≡ own_is_defined defined m.places.old b q
    own-same b q h =
        let es = drop b.count q.events in
        let label = label-same q.ahead h.ahead es (every-drop (IsKnown m) b.count q.events h.events) in
        ap (is_own_label defined (bytes_before m.places.new (all_moved m q.ahead))) (drop-map (moved_event m) b.count q.events)
        ∙ (λ i. not (no-bracket es i) && (is_label (label i) && defined (label i)))

    tail-same : (b : Bracket) (q : Memory) (behind : List ℕ) → IsKnownMemory q → tail_of defined m.places.new b (moved_memory q) behind ≡ tail_of defined m.places.old b q behind
    tail-same b q behind h =
        let wanted = wanted-same q.ahead h.ahead in
        let own = own-same b q h in
        (λ i. option_or (resource_grammar.front behind)
        (option_or ((full_reference_grammar (λ label. wanted label i)).front behind)
        (cond (not (is_some (label_length behind)) && own i) (Some (own_tail behind)) None)))

    end-same : (bs : List Bracket) (q : Memory) (behind : List ℕ) → IsKnownMemory q → end_at defined m.places.new bs (moved_memory q) behind ≡ end_at defined m.places.old bs q behind
    end-same [] q behind h = refl
    end-same (b ∷ bs) q behind h = ap (λ tail. Some (cond b.inactive lone_end (or_else (option_map label_end tail) lone_end))) (tail-same b q behind h)

    -- the item is the same
    pub item-same : (q : Memory) (text : List ℕ) → IsKnownMemory q → inline_item_at on defined m.places.new (moved_memory q) text ≡ inline_item_at on defined m.places.old q text
    item-same q text h =
        ap (λ end.
        let bracket = cond (has_byte_at text 0 (begins_link on)) (Some link_bracket) (cond (is_image_bracket on text) (Some image_bracket) (cond (has_byte_at text 0 (begins_end on)) end None)) in
        first_there inline_grammars on text (or_else bracket (run_or_part on text)))
        (end-same q.waiting q (drop 1 text) h)

    -- ---- its events
    pub item-moves : (q : Memory) (text : List ℕ) → MovesAs m (inline_item_at on defined m.places.old q text)
    item-moves q text =
        there-holds (MovesAs m) inline_grammars on text (bracket_or_part on defined m.places.old q text) (each-moves m text)
        (bracket-holds (MovesAs m) on defined m.places.old q text (run_or_part on text) (link-bracket-moves m) (λ e. image-bracket-moves m) (lone-moves m)
        (λ b tail is. end-moves m tail
        (tail-holds defined m.places.old (MovesAs m) b q (drop 1 text) (resources-move m (drop 1 text)) (full-references-move m (is_wanted_at defined m.places.old q.ahead) (drop 1 text)) (λ e. collapsed-moves m) (none-moves m) tail is))
        (rest-moves m on text))

    -- what is remembered behind an item that moves
    pub after-moved : (q : Memory) (item : Found) → IsKnownMemory q → MovesAs m item → after_item m.places.new (moved_memory q) item ≡ moved_memory (after_item m.places.old q item)
    after-moved q item h moves =
        let inner = moves _ _ (front _ _ item.size item.size refl (whole m q.ahead h.ahead)) in
        let ahead = drop-map (moved m) item.size q.ahead in
        let new_events = item.events m.places.old (take item.size q.ahead) in
        let all = (λ i. moved_events m q.events ++ inner.is i) ∙ sym (map-append (moved_event m) q.events new_events) in
        (λ i. let q2 : Memory = record { waiting = waiting_behind item.mark (length (all i)) q.waiting; events = all i; ahead = ahead i } in q2)
        ∙ (let same = length-map (q.events ++ new_events) (moved_event m) in
        (λ i. let q2 : Memory = record { waiting = waiting_behind item.mark (same i) q.waiting; events = moved_events m (q.events ++ new_events); ahead = all_moved m (drop item.size q.ahead) } in q2))

    pub after-known : (q : Memory) (item : Found) → IsKnownMemory q → MovesAs m item → IsKnownMemory (after_item m.places.old q item)
    after-known q item h moves =
        let p = whole m q.ahead h.ahead in
        let inner = moves _ _ (front _ _ item.size item.size refl p) in
        let rest = back _ _ item.size item.size refl p in
        record { events = every-append (IsKnown m) q.events _ h.events inner.known; ahead = rest.ok }

    abbrev read_from : (doc : List ℕ) → ℕ → Memory → List Seat → List Event
    read_from doc n q seats = flat_map (item_events doc) (cut_remembering (after_item doc) (inline_item_at on defined doc) item_length n q seats)

    items-move : (n : ℕ) (q : Memory) (seats : List Seat) → IsKnownMemory q → AreKnownSeats m seats → Moves m (read_from m.places.new n (moved_memory q) (all_moved m seats)) (read_from m.places.old n q seats)
    items-move zero q seats h k = nothing m
    items-move (suc n) q [] h k = nothing m
    items-move (suc n) q (s ∷ ss) h k =
        let p = whole m (s ∷ ss) k in
        let text = bytes_of (s ∷ ss) in
        let item = inline_item_at on defined m.places.old q text in
        let moves = item-moves q text in
        let size = item_length item in
        let same : inline_item_at on defined m.places.new (moved_memory q) (bytes_of (all_moved m (s ∷ ss))) ≡ item = ap (inline_item_at on defined m.places.new (moved_memory q)) (same-bytes _ _ p) ∙ item-same q text h in
        let rest = back _ _ size size refl p in
        let after = after-moved q item h moves in
        subst (λ i. Moves m (item_events m.places.new (i, take (item_length i) (all_moved m (s ∷ ss))) ++ read_from m.places.new n (after_item m.places.new (moved_memory q) i) (drop (item_length i) (all_moved m (s ∷ ss)))) (read_from m.places.old (suc n) q (s ∷ ss))) (sym same)
        (both m _ _ _ _ (moves _ _ (front _ _ size size refl p))
        (subst (λ q2. Moves m (read_from m.places.new n q2 (drop size (all_moved m (s ∷ ss)))) (read_from m.places.old n (after_item m.places.old q item) (drop size (s ∷ ss)))) (sym after)
        (subst (λ t. Moves m (read_from m.places.new n (moved_memory (after_item m.places.old q item)) t) (read_from m.places.old n (after_item m.places.old q item) (drop size (s ∷ ss)))) (sym rest.is)
        (items-move n (after_item m.places.old q item) (drop size (s ∷ ss)) (after-known q item h moves) rest.ok))))

    abbrev read_after : (doc : List ℕ) → (white count : ℕ) → List Seat → List Event
    read_after doc n count seats = item_events doc (white_space n, take n seats) ++ read_from doc count (after_item doc (nothing_read seats) (white_space n)) (drop n seats)

    all-move : (seats : List Seat) → AreKnownSeats m seats → Moves m (flat_map (item_events m.places.new) (inline_items on defined m.places.new (all_moved m seats))) (flat_map (item_events m.places.old) (inline_items on defined m.places.old seats))
    all-move seats h =
        let p = whole m seats h in
        let n = prefix_len is_white (bytes_of seats) in
        let white = ap (prefix_len is_white) (same-bytes _ _ p) in
        let count = same-length _ _ p in
        let start = nothing_read seats in
        let known : IsKnownMemory start = record { events = tt; ahead = h } in
        let moves : MovesAs m (white_space n) = alone m SpaceOrTab in
        let rest = back _ _ n n refl p in
        let after = after-moved start (white_space n) known moves in
        let behind = after_item m.places.old start (white_space n) in
        subst (λ es. Moves m es (read_after m.places.old n (length seats) seats)) (sym (λ i. read_after m.places.new (white i) (count i) (all_moved m seats)))
        (both m _ _ _ _ (moves _ _ (front _ _ n n refl p))
        (subst (λ q. Moves m (read_from m.places.new (length seats) q (drop n (all_moved m seats))) (read_from m.places.old (length seats) behind (drop n seats))) (sym after)
        (subst (λ t. Moves m (read_from m.places.new (length seats) (moved_memory behind) t) (read_from m.places.old (length seats) behind (drop n seats))) (sym rest.is)
        (items-move (length seats) behind (drop n seats) (after-known start (white_space n) known moves) rest.ok))))

    -- what virtual bytes are read as, as inline text
    pub inlines-moved : (one : Bool) (s r : List Seat) → Part m s r
        → with_links one m.places.new (flat_map (item_events m.places.new) (inline_items on defined m.places.new s)) ≡ moved_events m (with_links one m.places.old (flat_map (item_events m.places.old) (inline_items on defined m.places.old r)))
    inlines-moved one s r p =
        let all = all-move r p.ok in
        ap (λ s. with_links one m.places.new (flat_map (item_events m.places.new) (inline_items on defined m.places.new s))) p.is ∙ ap (with_links one m.places.new) all.is ∙ links-moved m one _ all.known

-- ==== Texts and strings of a document whose first part ends a line: they are read as in its parts.
abbrev back_one : Point → Point
back_one p = record { line = p.line; column = p.column; index = p.index - 1; vs = p.vs }

pub shown-before : (bytes : List ℕ) (p : Point) (n : ℕ) → p.index < n → (shown bytes p).index < n
shown-before bytes p n lt = by ((slice_index bytes p.index == 10) && follows_cr bytes p.index)
  where
    by : (c : Bool) → (let r : Point = cond c (back_one p) p in r.index) < n
    by true = omega (arith, lt)
    by false = lt

pub range-front : (a b : List ℕ) (i j : ℕ) → i ≤ length a → j ≤ length a → between i j (a ++ b) ≡ between i j a
range-front a b i j le more = rw (drop-append-le i a b le) (take-append-le (j - i) (drop i a) b (omega (arith, length-drop i a)))

pub range-behind : (a b : List ℕ) (i j : ℕ) → between (i + length a) (j + length a) (a ++ b) ≡ between i j b
range-behind a b i j =
    let e : i + length a ≡ length a + i = omega arith in
    let size : (j + length a) - (i + length a) ≡ j - i = omega arith in
    rw (size, e, drop-append-add a b i)

same-seats : (seats : List Seat) → map (λ (s : Seat). let r : Seat = record { byte = s.byte; point = s.point; end = s.end } in r) seats ≡ seats
same-seats seats = map-same _ (λ s. refl) seats

same-events : (es : List Event) → map (λ (e : Event). let f : Event = record { kind = e.kind; name = e.name; point = e.point; link = e.link } in f) es ≡ es
same-events es = map-same _ (λ e. refl) es

module _ (a b : List ℕ) (h : begins_line b a ≡ true) where
  pub is-before : (p : Point) → nat_lt p.index (length a) ≡ true → p.index < length a
  is-before p k = ltb-true p.index (length a) k

  -- places of the first part stay
  abbrev pub staying : Moving
  staying = record {
    places = record {
      old = a;
      new = a ++ b;
      to = λ p. p;
      link = λ l. l;
      unlinked = refl;
      known = λ p. nat_lt p.index (length a);
      shows = λ p k. let lt = is-before p k in shown-front a b (line-untorn a b h) p (omega (arith, lt));
    };
    bytes = 0;
    index = λ p. omega arith;
    further = λ n p. refl;
    stays = λ p k. lt-ltb (shown a p).index (length a) (shown-before a p (length a) (is-before p k));
    byte = λ p k. get-front a b p.index (is-before p k);
    before = λ p k. let lt = is-before p k in ap (λ front. class_at_end front (last_char front)) (take-append-le p.index a b (omega (arith, lt)));
    after = λ p k. class-after-front a b h p.index (is-before p k);
    range = λ p q k also. let lt = is-before p k in let more = is-before q also in range-front a b p.index q.index (omega (arith, lt)) (omega (arith, more));
    range_before = λ r p q known k also. let lt = is-before r known in ap (between p.index q.index) (take-append-le r.index a b (omega (arith, lt)));
  }

  -- places of the second go behind the first
  abbrev pub going : (lines events : ℕ) → Moving
  going lines events = record {
    places = record {
      old = b;
      new = a ++ b;
      to = moved_point lines (length a);
      link = moved_link events;
      unlinked = refl;
      known = λ p. true;
      shows = λ p k. shown-behind a b (line-untorn a b h) lines p;
    };
    bytes = length a;
    index = λ p. refl;
    further = λ n p. let e : (p.index + n) + length a ≡ (p.index + length a) + n = omega arith in (λ i. let q : Point = record { line = p.line + lines; column = p.column + n; index = e i; vs = p.vs } in q);
    stays = λ p k. refl;
    byte = λ p k. let e : p.index + length a ≡ length a + p.index = omega arith in ap (slice_get (a ++ b)) e ∙ slice_get-behind a b p.index;
    before = λ p k. class-before-behind a b h p.index;
    after = λ p k. let e : p.index + length a ≡ length a + p.index = omega arith in ap (λ rest. class_at_end rest (first_char rest)) (ap (λ n. drop n (a ++ b)) e ∙ drop-append-add a b p.index);
    range = λ p q k also. range-behind a b p.index q.index;
    range_before = λ r p q known k also.
        let e : r.index + length a ≡ length a + r.index = omega arith in
        ap (between (p.index + length a) (q.index + length a)) (ap (λ n. take n (a ++ b)) e ∙ take-append-add a b r.index) ∙ range-behind a (take r.index b) p.index q.index;
  }

  known-front : (seats : List Seat) → AllByRecursion (StandsBefore (length a)) seats → AreKnownSeats staying seats
  known-front [] h = tt
  known-front (s ∷ ss) h = ((lt-ltb s.point.index (length a) h.0.0, lt-ltb s.end.index (length a) h.0.1), known-front ss h.1)

  pub front-part : (seats : List Seat) → AllByRecursion (StandsBefore (length a)) seats → Part staying seats seats
  front-part seats k = record { is = sym (same-seats seats); ok = known-front seats k }

  all-known : (lines events : ℕ) (seats : List Seat) → AreKnownSeats (going lines events) seats
  all-known lines events [] = tt
  all-known lines events (s ∷ ss) = ((refl, refl), all-known lines events ss)

  pub behind-part : (lines events : ℕ) (seats : List Seat) → Part (going lines events) (map (moved_seat lines (length a)) seats) seats
  behind-part lines events seats = record { is = refl; ok = all-known lines events seats }

pub inlines-move : InlinesMove
inlines-move defined options a b h = (
  λ seats k. inlines-moved (staying a b h) options.constructs defined options.gfm_strikethrough_single_tilde seats seats (front-part a b h seats k) ∙ same-events _,
  λ lines events seats. inlines-moved (going a b h lines events) options.constructs defined options.gfm_strikethrough_single_tilde _ seats (behind-part a b h lines events seats),
)

pub strings-moved : StringsMove
strings-moved on a b h = (
  λ seats k. (strings-move (staying a b h) on seats seats (front-part a b h seats k)).is ∙ same-events _,
  λ lines events seats. (strings-move (going a b h lines events) on _ seats (behind-part a b h lines events seats)).is,
)

-- ==== The labels that are looked up in virtual bytes that are others, moved.
module _ (m : Moving) where
  own-label-same : (b : Bracket) (q : Memory) → IsKnownMemory m q → own_label m.places.new b (moved_memory m q) ≡ own_label m.places.old b q
  own-label-same b q h =
      ap (spanned_bytes (bytes_before m.places.new (all_moved m q.ahead))) (drop-map (moved_event m) b.count q.events)
      ∙ label-same m q.ahead h.ahead (drop b.count q.events) (every-drop (IsKnown m) b.count q.events h.events)

  ahead-same : (ahead : List Seat) → AreKnownSeats m ahead → (label : List ℕ) → label_ahead m.places.new (all_moved m ahead) label ≡ label_ahead m.places.old ahead label
  ahead-same ahead h label =
      let text = back _ _ 2 2 refl (whole m ahead h) in
      let rest = back _ _ (length label) (length label) refl text in
      let inner = lines-move m _ _ (front _ _ (length label) (length label) refl text) in
      (λ i. spanned_bytes (bytes_before m.places.new (rest.is i)) (inner.is i)) ∙ label-same m (drop (length label) (drop 2 ahead)) rest.ok _ inner.known

  labels-same : (bs : List Bracket) (q : Memory) (behind : List ℕ) → IsKnownMemory m q → labels_at m.places.new bs (moved_memory m q) behind ≡ labels_at m.places.old bs q behind
  labels-same [] q behind h = refl
  labels-same (b ∷ bs) q behind h = let own = own-label-same b q h in let ahead = by (label_length behind) in (λ i. if_label (own i) ++ ahead i)
    where
      by : (o : Option ℕ) → label_behind m.places.new (all_moved m q.ahead) behind o ≡ label_behind m.places.old q.ahead behind o
      by None = refl
      by (Some n) = ap if_label (ahead-same q.ahead h.ahead (label_text n behind))

  module _ (on : Constructs) (defined : List ℕ → Bool) where
    looked-same : (q : Memory) (text : List ℕ) → IsKnownMemory m q → looked_up m.places.new on (moved_memory m q) text ≡ looked_up m.places.old on q text
    looked-same q text h = ap (λ labels. cond (has_byte_at text 0 (begins_end on)) labels []) (labels-same q.waiting q (drop 1 text) h)

    from-same : (n : ℕ) (q : Memory) (seats : List Seat) → IsKnownMemory m q → AreKnownSeats m seats → asked_from m.places.new on defined n (moved_memory m q) (all_moved m seats) ≡ asked_from m.places.old on defined n q seats
    from-same zero q seats h k = refl
    from-same (suc n) q [] h k = refl
    from-same (suc n) q (s ∷ ss) h k =
        let p = whole m (s ∷ ss) k in
        let text = bytes_of (s ∷ ss) in
        let bytes = same-bytes _ _ p in
        let item = inline_item_at on defined m.places.old q text in
        let moves = item-moves m on defined q text in
        let same : inline_item_at on defined m.places.new (moved_memory m q) (bytes_of (all_moved m (s ∷ ss))) ≡ item = ap (inline_item_at on defined m.places.new (moved_memory m q)) bytes ∙ item-same m on defined q text h in
        let here = ap (looked_up m.places.new on (moved_memory m q)) bytes ∙ looked-same q text h in
        let rest = back _ _ item.size item.size refl p in
        let after = after-moved m on defined q item h moves in
        (λ i. here i ++ asked_from m.places.new on defined n (after_item m.places.new (moved_memory m q) (same i)) (drop (same i).size (all_moved m (s ∷ ss))))
        ∙ (λ i. looked_up m.places.old on q text ++ asked_from m.places.new on defined n (after i) (rest.is i))
        ∙ ap (λ labels. looked_up m.places.old on q text ++ labels) (from-same n (after_item m.places.old q item) (drop item.size (s ∷ ss)) (after-known m on defined q item h moves) rest.ok)

    asked-same : (s r : List Seat) → Part m s r → asked_labels m.places.new on defined s ≡ asked_labels m.places.old on defined r
    asked-same s r p =
        let q = whole m r p.ok in
        let n = prefix_len is_white (bytes_of r) in
        let white = ap (prefix_len is_white) (same-bytes _ _ q) in
        let count = same-length _ _ q in
        let start = nothing_read r in
        let known : IsKnownMemory m start = record { events = tt; ahead = p.ok } in
        let moves : MovesAs m (white_space n) = alone m SpaceOrTab in
        let rest = back _ _ n n refl q in
        let after = after-moved m on defined start (white_space n) known moves in
        ap (asked_labels m.places.new on defined) p.is
        ∙ (λ i. asked_from m.places.new on defined (count i) (after_item m.places.new (nothing_read (all_moved m r)) (white_space (white i))) (drop (white i) (all_moved m r)))
        ∙ (λ i. asked_from m.places.new on defined (length r) (after i) (rest.is i))
        ∙ from-same (length r) (after_item m.places.old start (white_space n)) (drop n r) (after-known m on defined start (white_space n) known moves) rest.ok

pub asked-move : AskedLabelsMove
asked-move defined on a b h = (
  λ seats k. asked-same (staying a b h) on defined seats seats (front-part a b h seats k),
  λ lines seats. asked-same (going a b h lines 0) on defined _ seats (behind-part a b h lines 0 seats),
)
