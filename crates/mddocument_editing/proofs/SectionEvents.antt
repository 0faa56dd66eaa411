-- The events of sections that were read, moved one after the other.
use Rattle.mddocument_editing.proofs.Prelude.{◌≡◌, ℕ, ◌+◌, ◌≤◌, Bool, List, ◌∷◌, [], ◌++◌, length, map, refl, subst, sym, ap, ◌∙◌, arith, take, drop, drop-map, length-append, length-map, map-append, take-map, take_all, AllByRecursion, sum_by, every-take, ParseOptions, Event, no-further, part_events, is_rest, line_endings, moved_event, document_of, events_of_sections, Kept, Front, Section, Divided, EventsOfAllSectionsAreTheDocuments, bytes_of, events_between, events_of, is_key_of, IsFrontOf, IsSmall, moved_by, IsKept, IsRead, bytes_of_sections, divided_of, knows, Key}
use Rattle.mddocument_editing.proofs.Below.{sections-give}
use Rattle.mddocument_editing.proofs.CutLines.{endings-are-counted}
use Rattle.mddocument_editing.proofs.Joined.{sections-take}
use Rattle.mddocument_editing.proofs.SectionFronts.{events-append, events-one, length-one, lines_in, sum-cons, sum-one}
use Rattle.mddocument_editing.proofs.SectionLines.{lines-all}
use Rattle.mddocument_parts.proofs.MovedTwice.{events-twice}

-- what sections are behind, if this is in front of others, and these sections are read
pub record IsBehind (read : List ℕ → List Event) (before : Front) (xs : List Section) (front : Front) : Type 0 where
  pub lines : front.lines ≡ before.lines + lines_in (bytes_of_sections xs)
  pub bytes : front.bytes ≡ before.bytes + length (document_of (bytes_of_sections xs))
  pub events : front.events ≡ before.events + length (events_of_sections read (bytes_of_sections xs))
  pub small : IsSmall front

-- nothing is between
pub behind-none : (read : List ℕ → List Event) (before : Front) → IsSmall before → IsBehind read before [] before
behind-none read before small = record { lines = omega arith; bytes = omega arith; events = omega arith; small = small }

-- the bytes of sections, and of one more
pub bytes-one : (xs : List Section) (x : Section) → bytes_of_sections (xs ++ x ∷ []) ≡ bytes_of_sections xs ++ x.part.bytes.items ∷ []
bytes-one xs x = map-append (λ section. section.part.bytes.items) xs (x ∷ [])

module _ (options : ParseOptions) (defined : Key → Bool) where
  abbrev read : List ℕ → List Event
  read bytes = part_events options defined bytes

  lines-one : (x : Section) → IsRead options defined x → x.lines ≡ line_endings x.part.bytes.items
  lines-one x is = is.lines ∙ endings-are-counted x.part.bytes.items

  -- the counts of sections that were read
  pub lines-read : (xs : List Section) → AllByRecursion (IsRead options defined) xs → sum_by (λ section. section.lines) xs ≡ lines_in (bytes_of_sections xs)
  lines-read [] all = refl
  lines-read (x ∷ xs) all =
      omega (arith, sum-cons (λ section. section.lines) x xs, lines-one x all.0, lines-read xs all.1, sum-cons line_endings x.part.bytes.items (bytes_of_sections xs))

  pub events-read : (xs : List Section) → AllByRecursion (IsRead options defined) xs → sum_by (λ section. length section.events) xs ≡ length (events_of_sections read (bytes_of_sections xs))
  events-read [] all = refl
  events-read (x ∷ xs) all =
      let s = x.part.bytes.items in
      let rest = events_of_sections read (bytes_of_sections xs) in
      let move = moved_event (line_endings s) (length s) (length (read s)) in
      omega (arith, sum-cons (λ section. length section.events) x xs, ap length all.0.events, events-read xs all.1, length-append (read s) (map move rest), length-map rest move)

  module _ (before front : Front) (xs : List Section) (x : Section) (is : IsBehind read before xs front) (one : IsRead options defined x) where
    -- the events of one section more
    pub moved-more : (some all : List Event) → some ≡ map (moved_by before) (events_of_sections read (bytes_of_sections xs)) → all ≡ some ++ map (moved_by front) x.events
        → all ≡ map (moved_by before) (events_of_sections read (bytes_of_sections (xs ++ x ∷ [])))
    moved-more some all so_far pushed =
        let bs = bytes_of_sections xs in
        let s = x.part.bytes.items in
        let E = events_of_sections read in
        let move = moved_event (lines_in bs) (length (document_of bs)) (length (E bs)) in
        let events : E (bytes_of_sections (xs ++ x ∷ [])) ≡ E bs ++ map move (read s) =
        ap E (bytes-one xs x) ∙ events-append read bs (s ∷ []) ∙ ap (λ l. E bs ++ map move l) (events-one read s)
        in
        let twice = events-twice before.lines before.bytes before.events (lines_in bs) (length (document_of bs)) (length (E bs)) (read s) in
        let lines : front.lines ≡ lines_in bs + before.lines = omega (arith, is.lines) in
        let bytes : front.bytes ≡ length (document_of bs) + before.bytes = omega (arith, is.bytes) in
        let count : front.events ≡ length (E bs) + before.events = omega (arith, is.events) in
        let there : map (moved_by front) x.events ≡ map (moved_by before) (map move (read s)) =
        ap (map (moved_by front)) one.events
        ∙ ap (λ n. map (moved_event n front.bytes front.events) (read s)) lines
        ∙ ap (λ n. map (moved_event (lines_in bs + before.lines) n front.events) (read s)) bytes
        ∙ ap (λ n. map (moved_event (lines_in bs + before.lines) (length (document_of bs) + before.bytes) n) (read s)) count
        ∙ sym twice
        in
        pushed ∙ ap (λ l. l ++ map (moved_by front) x.events) so_far ∙ ap (λ l. map (moved_by before) (E bs) ++ l) there
        ∙ sym (map-append (moved_by before) (E bs) (map move (read s))) ∙ ap (map (moved_by before)) (sym events)

    pub behind-more : (next : Front) → next.lines ≡ front.lines + x.lines → next.bytes ≡ front.bytes + length x.part.bytes.items → next.events ≡ front.events + length x.events
        → IsSmall next → IsBehind read before (xs ++ x ∷ []) next
    behind-more next lines bytes events small =
        let bs = bytes_of_sections xs in
        let s = x.part.bytes.items in
        let E = events_of_sections read in
        let move = moved_event (lines_in bs) (length (document_of bs)) (length (E bs)) in
        let all : length (E (bytes_of_sections (xs ++ x ∷ []))) ≡ length (E bs ++ map move (read s)) =
        ap length (ap E (bytes-one xs x) ∙ events-append read bs (s ∷ []) ∙ ap (λ l. E bs ++ map move l) (events-one read s))
        in
        let endings = ap lines_in (bytes-one xs x) ∙ sum-one line_endings bs s in
        record {
          lines = omega (arith, lines, is.lines, lines-one x one, endings);
          bytes = omega (arith, bytes, is.bytes, length-one xs x);
          events = omega (arith, events, is.events, all, length-append (E bs) (map move (read s)), length-map (read s) move, ap length one.events);
          small = small;
        }

-- these are the events between
pub between-events : (k : Kept) (from to : ℕ) → IsKept k → from ≤ to → to ≤ length k.sections.items → (before : Front) → IsFrontOf (take from k.sections.items) before
    → map (moved_by before) (events_of_sections (part_events k.options (knows k.known)) (bytes_of_sections (drop from (take to k.sections.items)))) ≡ events_between (divided_of k) from to
between-events k from to kept order within before is =
    let d = divided_of k in
    let o = k.options in
    let defined = knows k.known in
    let all = k.sections.items in
    let bytes = λ (section : Section). section.part.bytes.items in
    let front = take from d.sections in
    let E = λ (g : Key → Bool) (l : List (List ℕ)). events_of_sections (part_events o g) l in
    let same : defined ≡ is_key_of d = λ i key. kept.labels key i in
    let first : bytes_of_sections (take from all) ≡ front = sym (take-map bytes from all) in
    let wanted : bytes_of_sections (drop from (take to all)) ≡ drop from (take to d.sections) = sym (drop-map bytes from (take to all)) ∙ ap (drop from) (sym (take-map bytes to all)) in
    let read = every-take (IsRead o defined) from all kept.read in
    let lines : before.lines ≡ line_endings (document_of front) =
    is.lines ∙ lines-read o defined (take from all) read ∙ ap lines_in first ∙ lines-all o front (sections-take (is_rest o) from d.sections kept.divided.sections.cut)
    in
    let size : before.bytes ≡ length (document_of front) = is.bytes ∙ ap (λ l. length (document_of l)) first in
    let count : before.events ≡ length (E (is_key_of d) front) =
    is.events ∙ events-read o defined (take from all) read ∙ ap (λ l. length (E defined l)) first ∙ ap (λ g. length (E g front)) same
    in
    ap (λ l. map (moved_by before) (E defined l)) wanted
    ∙ ap (λ g. map (moved_by before) (E g (drop from (take to d.sections)))) same
    ∙ ap (λ n. map (moved_event n before.bytes before.events) (E (is_key_of d) (drop from (take to d.sections)))) lines
    ∙ ap (λ n. map (moved_event (line_endings (document_of front)) n before.events) (E (is_key_of d) (drop from (take to d.sections)))) size
    ∙ ap (λ n. map (moved_event (line_endings (document_of front)) (length (document_of front)) n) (E (is_key_of d) (drop from (take to d.sections)))) count

-- those between the first section and the end are all
all-between : (d : Divided) (n : ℕ) → length d.sections ≤ n → events_between d 0 n ≡ events_of d d.sections
all-between d n most = no-further (events_of d (take n d.sections)) ∙ ap (events_of d) (take_all n d.sections most)

-- so they are those of the document
pub all-are-the-documents : EventsOfAllSectionsAreTheDocuments
all-are-the-documents d possible is =
    all-between d (length d.sections) (omega arith) ∙ sections-give d.options d.sections possible is.sections.cut
