-- Lemmas on strings that are written from cursor to cursor.
use Rattle.std.proofs.Common.{◌≡◌, ℕ, zero, suc, ◌+◌, ◌-◌, ◌<◌, ◌≤◌, Bool, true, cond, List, [], ◌∷◌, ◌++◌, None, drop, length, take, refl, sym, ap, ◌∙◌, subst, arith, append_assoc, length-drop}
use Rattle.std.specs.List.{flat_map, prefix_len}
use Rattle.std.proofs.lemmas.List.{append-nil, drop-drop, map-append}
use Rattle.std.proofs.lemmas.List.Concat.{flat_map-append}
use Rattle.std.proofs.Math.Seq.{take-add}
use Rattle.markdown_base.proofs.Seats.{end-after-append}
use Rattle.markdown_base.specs.declared.event.Event.{Event}
use Rattle.markdown_base.specs.declared.event.Kind.TheVariants.{Enter, Exit}
use Rattle.markdown_base.specs.declared.event.Name.{Name}
use Rattle.markdown_base.specs.declared.event.Name.TheVariants as name
use Rattle.markdown_base.specs.declared.event.Point.{Point}
use Rattle.markdown_base.specs.Places.{shown}
use Rattle.markdown_base.specs.Virtual.{Seat, end_after, point}
use Rattle.mdconstructs_machines.specs.Spans.{event}
use Rattle.mdblock_leaf_blocks.specs.LeafEvents.{Mark, leaf_marks, span_marks}
use Rattle.mdblock_lines.specs.Containers.{Container}
use Rattle.mdblock_containers.specs.declared.spans.RowAt.{RowAt}
use Rattle.mdblock_containers.specs.PlaceEvents.{event_at}
use Rattle.mdblock_containers.specs.SeatPlaces.{events_of}
use Rattle.mdblock_containers.proofs.SeatLemmas.{here}
use Rattle.mdblock_definitions.specs.declared.marks.Cursor.{Cursor}
use Rattle.mdblock_definitions.specs.declared.marks.Written.{Written}
use Rattle.mdblock_definitions.specs.Cursor.{EndsLines, Goes, IsBeforeFeed, IsCursor, columns_left, left_at}
use Rattle.mdblock_definitions.specs.Definitions.{Place, all_seats, before_prefixes, byte_at, ending_at, ending_marks, further_line, is_byte, last_prefixes, leaf, line_marks, seats_of, span, string, string_lines}
use Rattle.mdblock_definitions.proofs.MarksCursor.{Next, behind-line, first-seat, goes-over, line-left, lines-last, next-of, write-as, write-span}
use Rattle.mdblock_containers.proofs.WritingLemmas.{write-both}
use Rattle.mdblock_definitions.proofs.MarksPlaces.{drop-front, front-bytes, front-size}
use Rattle.mdblock_definitions.proofs.StringEnds.{endings-both, string-feed, string-whole}

-- a byte is there, if the bytes in front go on so far
pub byte-there : (k n : ℕ) (ps : List Place) → n ≤ prefix_len is_byte ps → k < n → 1 ≤ prefix_len is_byte (drop k ps)
byte-there zero n ps w v = omega (arith, w, v)
byte-there (suc k) n [] w v = absurd (omega (arith, w, v))
byte-there (suc k) n (byte_at s ∷ ps) w v = byte-there k (n - 1) ps (omega (arith, w, v)) (omega (arith, v))
byte-there (suc k) n (ending_at e p m ∷ ps) w v = absurd (omega (arith, w, v))

module _ (t : ℕ) (bytes : List ℕ) (stack : List Container) (xs : List RowAt) where
  abbrev endings : List Place → List Mark
  endings ps = flat_map (ending_marks bytes) ps

  pub feed-next : (c : Cursor) → IsBeforeFeed t bytes stack xs c → Next t bytes stack (drop c.row xs) c.at
  feed-next c h = next-of t bytes stack xs c h.cursor h.end h.more

  -- a line ending is written
  pub feed-written : (c : Cursor) → (n : Next t bytes stack (drop c.row xs) c.at) → (old new : List Event) (q : Point) → q ≡ point n.y.span.number 1 n.y.span.start 0
      → new ≡ old ++ (event_at Enter name.LineEnding c.at.place ∷ event_at Exit name.LineEnding q ∷ []) → new ≡ old ++ events_of (endings (before_prefixes (take 1 (left_at t bytes stack xs c))))
  feed-written c n old new q at e =
      let next = point n.y.span.number 1 n.y.span.start 0 in
      let last : q ≡ shown bytes n.ending.end = at ∙ sym (here t bytes next n.seats n.seats_at) ∙ ap (shown bytes) (sym n.ends) in
      let feed = leaf_marks bytes name.LineEnding (n.ending ∷ []) in
      let first : new ≡ old ++ events_of feed = e ∙ (λ k. old ++ (event_at Enter name.LineEnding (n.first k) ∷ event_at Exit name.LineEnding (last k) ∷ [])) in
      first ∙ ap (λ l. old ++ events_of l) (sym (append-nil (feed ++ []) ∙ append-nil feed)) ∙ ap (λ l. old ++ events_of (endings (before_prefixes (take 1 l)))) (sym n.left)

  pub feed-place : (c : Cursor) → (n : Next t bytes stack (drop c.row xs) c.at) → (q : Point) → q ≡ point n.y.span.number 1 n.y.span.start 0
      → q ≡ shown bytes (end_after c.at.place (seats_of (before_prefixes (take 1 (left_at t bytes stack xs c)))))
  feed-place c n q at =
      let next = point n.y.span.number 1 n.y.span.start 0 in
      at ∙ sym (here t bytes next n.seats n.seats_at) ∙ ap (shown bytes) (sym n.ends) ∙ ap (λ l. shown bytes (end_after c.at.place (seats_of (before_prefixes (take 1 l))))) (sym n.left)

  -- the prefixes behind it are written
  pub prefixes-written : (c : Cursor) → (n : Next t bytes stack (drop c.row xs) c.at) → (old new : List Event) → new ≡ old ++ events_of n.marks
      → new ≡ old ++ events_of (endings (last_prefixes (take 1 (left_at t bytes stack xs c))))
  prefixes-written c n old new e = e ∙ ap (λ l. old ++ events_of l) (sym (append-nil n.marks)) ∙ ap (λ l. old ++ events_of (endings (last_prefixes (take 1 l)))) (sym n.left)

  pub ending-both : (c : Cursor) → (old mid new : List Event) → mid ≡ old ++ events_of (endings (before_prefixes (take 1 (left_at t bytes stack xs c))))
      → new ≡ mid ++ events_of (endings (last_prefixes (take 1 (left_at t bytes stack xs c)))) → new ≡ old ++ events_of (endings (take 1 (left_at t bytes stack xs c)))
  ending-both c old mid new e f =
      let one = take 1 (left_at t bytes stack xs c) in
      write-as old new (endings (before_prefixes one) ++ endings (last_prefixes one)) (endings one) (write-both old mid new (endings (before_prefixes one)) (endings (last_prefixes one)) e f) (endings-both bytes one)

  -- ---- where lines of a string end

  -- the last line
  pub lines-end : (c : Cursor) → IsCursor t bytes stack xs c → (is_first : Bool) (size k : ℕ) → k ≤ size → k ≤ columns_left c.at.columns (drop c.row xs) → (old new : List Event)
      → new ≡ old ++ events_of (cond is_first (leaf bytes name.Data (take k (left_at t bytes stack xs c))) (further_line bytes (seats_of (take k (left_at t bytes stack xs c)))))
      → new ≡ old ++ events_of (line_marks bytes is_first (string_lines (take (size - (size - k)) (left_at t bytes stack xs c))))
  lines-end c h b size k few fits old new e =
      let same : k ≡ size - (size - k) = omega (arith, few) in
      lines-last t bytes stack xs c h b k fits old new e ∙ ap (λ n. old ++ events_of (line_marks bytes b (string_lines (take n (left_at t bytes stack xs c))))) same

  -- the string ends in the line
  pub ends-here : (c from : Cursor) (size rest columns : ℕ) → IsCursor t bytes stack xs c → Goes t bytes stack xs from (size - rest) c → 1 ≤ rest → rest ≤ size → columns ≡ rest → columns ≤ columns_left c.at.columns (drop c.row xs)
      → 1 ≤ prefix_len is_byte (drop (size - 1) (left_at t bytes stack xs from))
  ends-here c from size rest columns h g some few all fits =
      let places = left_at t bytes stack xs from in
      let sum : size - rest + (rest - 1) ≡ size - 1 = omega (arith, some, few) in
      subst (λ (l : List Place). 1 ≤ prefix_len is_byte l) (ap (drop (rest - 1)) g.left ∙ drop-drop (rest - 1) (size - rest) places ∙ ap (λ k. drop k places) sum)
      (byte-there (rest - 1) rest (left_at t bytes stack xs c) (omega (arith, line-left t bytes stack xs c h, fits, all)) (omega (arith, some)))

  -- it ends in a line behind
  pub ends-over : (c e n : Cursor) (k m size : ℕ) (w : Written) → Goes t bytes stack xs c k e → Goes t bytes stack xs e 1 n → EndsLines t bytes stack xs n m w → k + 1 + m ≡ size → 1 ≤ m → EndsLines t bytes stack xs c size w
  ends-over c e n k m size w f g h sum some = record {
    few = h.few;
    goes = goes-over t bytes stack xs c e n w.cursor k (m - w.left) (size - w.left) f g h.goes (omega (arith, sum, h.few, some));
    whole = λ none.
        let places = left_at t bytes stack xs c in
        let at : k + 1 + (m - 1) ≡ size - 1 = omega (arith, sum, some) in
        subst (λ (l : List Place). 1 ≤ prefix_len is_byte l) (ap (drop (m - 1)) (behind-line t bytes stack xs c e n k f g) ∙ drop-drop (m - 1) (k + 1) places ∙ ap (λ j. drop j places) at) (h.whole none);
    feed = h.feed;
  }

  -- then a line is behind it
  pub before-feed : (c : Cursor) (size : ℕ) (w : Written) → EndsLines t bytes stack xs c size w → w.left ≡ 1 → 1 ≤ size → size ≤ length (left_at t bytes stack xs c) → IsBeforeFeed t bytes stack xs w.cursor
  before-feed c size w h one some few = record {
    cursor = h.goes.at;
    end = h.feed one;
    more = omega (arith, some, few, one, ap (λ (l : List Place). length l) h.goes.left, length-drop (size - w.left) (left_at t bytes stack xs c));
  }

  -- ---- strings

  -- one that ends with a byte
  pub whole-written : (c to : Cursor) (size : ℕ) (m : Name) → IsCursor t bytes stack xs c → Goes t bytes stack xs c size to → 1 ≤ size → size ≤ length (left_at t bytes stack xs c)
      → 1 ≤ prefix_len is_byte (drop (size - 1) (left_at t bytes stack xs c)) → (old e0 e1 new : List Event) → e0 ≡ old ++ event_at Enter m c.at.place ∷ []
      → e1 ≡ e0 ++ events_of (line_marks bytes true (string_lines (take size (left_at t bytes stack xs c)))) → new ≡ e1 ++ event_at Exit m to.at.place ∷ []
      → new ≡ old ++ events_of (string bytes m (take size (left_at t bytes stack xs c)))
  whole-written c to size m h g some few last old e0 e1 new a b d =
      let places = left_at t bytes stack xs c in
      let ps = take size places in
      let k : length ps ≡ suc (size - 1) = front-size size places few ∙ omega (arith, some) in
      let one : size - (size - 1) ≡ 1 = omega (arith, some) in
      let there : take 1 (drop (size - 1) places) ≡ drop (size - 1) ps = ap (λ n. take n (drop (size - 1) places)) (sym one) ∙ sym (drop-front (size - 1) size places) in
      let byte : 1 ≤ prefix_len is_byte (drop (size - 1) ps) = subst (λ (l : List Place). 1 ≤ prefix_len is_byte l) there (omega (arith, front-bytes 1 (drop (size - 1) places) last)) in
      write-as old new (span bytes m ps (line_marks bytes true (string_lines ps))) (string bytes m ps)
      (write-span t bytes stack xs c to size m (line_marks bytes true (string_lines ps)) h g some few old e0 e1 new a b d) (string-whole bytes m (size - 1) ps k byte)

  -- a span over places that begin at a cursor
  over-events : (c : Cursor) (zs : List Place) (s : Seat) (ss : List Seat) (m : Name) (inside : List Mark) (q : Point) → seats_of zs ≡ s ∷ ss → c.at.place ≡ shown bytes s.point → q ≡ shown bytes (end_after c.at.place (seats_of zs))
      → event_at Enter m c.at.place ∷ (events_of inside ++ event_at Exit m q ∷ []) ≡ events_of (span bytes m zs inside)
  over-events c zs s ss m inside q e first at =
      let last : q ≡ shown bytes (end_after s.end ss) = at ∙ ap (λ l. shown bytes (end_after c.at.place l)) e in
      (λ k. event_at Enter m (first k) ∷ (events_of inside ++ event_at Exit m (last k) ∷ []))
      ∙ ap (λ l. event bytes Enter m s.point ∷ l) (sym (map-append (λ (x : Mark). x.0) inside ((event bytes Exit m (end_after s.end ss), None) ∷ [])))
      ∙ ap (λ l. events_of (span_marks bytes m l inside)) (sym e)

  -- the first virtual byte of a string that ends with a line ending
  feed-first : (c e : Cursor) (k : ℕ) → IsCursor t bytes stack xs c → Goes t bytes stack xs c k e → (n : Next t bytes stack (drop e.row xs) e.at) → k < length (left_at t bytes stack xs c)
      → (s : Seat) × (ss : List Seat) × (seats_of (take k (left_at t bytes stack xs c) ++ ending_at (n.ending ∷ []) [] [] ∷ []) ≡ s ∷ ss) × (c.at.place ≡ shown bytes s.point)
  feed-first c e zero h g n few = (n.ending, [], refl, sym g.place ∙ n.first)
  feed-first c e (suc k) h g n few =
      let f = first-seat t bytes stack xs c h (omega (arith, few)) (suc k) (omega arith) in
      let feed = ending_at (n.ending ∷ []) [] [] ∷ [] in
      (f.0, f.1 ++ seats_of feed, flat_map-append all_seats (take (suc k) (left_at t bytes stack xs c)) feed ∙ ap (λ l. l ++ seats_of feed) f.2, f.3)

  -- one that ends with a line ending
  pub string-written : (c e : Cursor) (size : ℕ) (m : Name) → IsCursor t bytes stack xs c → Goes t bytes stack xs c (size - 1) e → 1 ≤ size → size ≤ length (left_at t bytes stack xs c) → IsBeforeFeed t bytes stack xs e
      → (q : Point) → q ≡ shown bytes (end_after e.at.place (seats_of (before_prefixes (take 1 (left_at t bytes stack xs e)))))
      → (old e0 e1 e2 e3 new : List Event) → e0 ≡ old ++ event_at Enter m c.at.place ∷ [] → e1 ≡ e0 ++ events_of (line_marks bytes true (string_lines (take (size - 1) (left_at t bytes stack xs c))))
      → e2 ≡ e1 ++ events_of (endings (before_prefixes (take 1 (left_at t bytes stack xs e)))) → e3 ≡ e2 ++ event_at Exit m q ∷ [] → new ≡ e3 ++ events_of (endings (last_prefixes (take 1 (left_at t bytes stack xs e))))
      → new ≡ old ++ events_of (string bytes m (take size (left_at t bytes stack xs c)))
  string-written c e size m h g some few is q at old e0 e1 e2 e3 new a b d k l =
      let places = left_at t bytes stack xs c in
      let n = feed-next e is in
      let qs = take (size - 1) places in
      let one = take 1 (left_at t bytes stack xs e) in
      let x = ending_at (n.ending ∷ []) n.prefixes n.marks in
      let one_is : one ≡ x ∷ [] = ap (take 1) n.left in
      let sum : size ≡ size - 1 + 1 = omega (arith, some) in
      let all : take size places ≡ qs ++ x ∷ [] = ap (λ j. take j places) sum ∙ take-add (size - 1) 1 places ∙ ap (λ r. qs ++ take 1 r) (sym g.left) ∙ ap (λ r. qs ++ r) one_is in
      let feed = ending_at (n.ending ∷ []) [] [] ∷ [] in
      let first = feed-first c e (size - 1) h g n (omega (arith, some, few)) in
      let lines = line_marks bytes true (string_lines qs) in
      let inside = lines ++ endings feed in
      let seats : end_after e.at.place (seats_of (before_prefixes one)) ≡ end_after c.at.place (seats_of (qs ++ feed)) =
      (λ i. end_after (g.place i) (seats_of (before_prefixes (one_is i)))) ∙ sym (end-after-append c.at.place (seats_of qs) (seats_of feed)) ∙ ap (end_after c.at.place) (sym (flat_map-append all_seats qs feed)) in
      let enter = event_at Enter m c.at.place in
      let exit = event_at Exit m q in
      let within : e2 ≡ e0 ++ events_of inside = write-both e0 e1 e2 lines (endings feed) b (d ∙ ap (λ r. e1 ++ events_of (endings (before_prefixes r))) one_is) in
      let spanned : e3 ≡ old ++ events_of (span bytes m (qs ++ feed) inside) =
      k ∙ ap (λ r. r ++ exit ∷ []) (within ∙ ap (λ r. r ++ events_of inside) a)
      ∙ append_assoc (old ++ enter ∷ []) (events_of inside) (exit ∷ []) ∙ append_assoc old (enter ∷ []) (events_of inside ++ exit ∷ [])
      ∙ ap (λ r. old ++ r) (over-events c (qs ++ feed) first.0 first.1 m inside q first.2 first.3 (at ∙ ap (shown bytes) seats)) in
      let behind = endings (ending_at [] n.prefixes n.marks ∷ []) in
      write-both old e3 new (span bytes m (qs ++ feed) inside) behind spanned (l ∙ ap (λ r. e3 ++ events_of (endings (last_prefixes r))) one_is)
      ∙ ap (λ r. old ++ events_of r) (string-feed bytes m qs (n.ending ∷ []) n.prefixes n.marks ∙ ap (string bytes m) (sym all))
