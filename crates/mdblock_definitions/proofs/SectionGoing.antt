-- Between two sections of a part: the line ending, and the prefixes of the next line.
use Rattle.std.proofs.Common.{◌≡◌, ℕ, zero, suc, ◌+◌, ◌*◌, ◌^◌, ◌<◌, ◌≤◌, Bool, true, false, cond, List, [], ◌∷◌, ◌++◌, length, take, drop, refl, sym, ap, ◌∙◌, subst, arith, append_assoc}
use Rattle.std.specs.Prelude.{◌==◌, None}
use Rattle.std.proofs.lemmas.Bool.{false≢true}
use Rattle.std.proofs.lemmas.List.{map-append, take_all}
use Rattle.markdown_base.specs.declared.event.Event.{Event}
use Rattle.markdown_base.specs.Virtual.{Seat, point}
use Rattle.mdconstructs_machines.specs.LineEvents.{line_text}
use Rattle.mdblock_leaf_blocks.specs.LeafBlocks.{bytes_of}
use Rattle.mdblock_leaf_blocks.specs.LeafEvents.{Mark}
use Rattle.mdblock_lines.specs.Containers.{Container, Prefix}
use Rattle.mdblock_lines.specs.Lines.{line_bytes, place_after}
use Rattle.mdblock_containers.specs.declared.parts.PartEnd.{PartEnd}
use Rattle.mdblock_containers.specs.declared.prefixes.At.{At}
use Rattle.mdblock_containers.specs.declared.spans.RowAt.{RowAt}
use Rattle.mdblock_containers.specs.Parts.{ending_at}
use Rattle.mdblock_containers.specs.PlaceEvents.{HasColumns}
use Rattle.mdblock_containers.specs.Prefixes.{columns_of, going_on}
use Rattle.mdblock_containers.specs.Rest.{ending_to}
use Rattle.mdblock_containers.specs.Rows.{has_none}
use Rattle.mdblock_containers.specs.SeatPlaces.{AreSeatsAt, events_of}
use Rattle.mdblock_containers.specs.Skeleton.{Part, begun_all, ending_marks, prefixes_marks}
use Rattle.mdblock_containers.specs.Written.{NoChunk, Written}
use Rattle.mdblock_containers.proofs.JoinLemmas.{plain_prefixes}
use Rattle.mdblock_containers.proofs.RestLemmas.{plain_map}
use Rattle.mdblock_containers.proofs.StretchLemmas.{row_bytes, row_seats, went_again, went_marks}
use Rattle.mdblock_containers.proofs.WrittenLemmas.{plain_append, write_plain}
use Rattle.mdblock_definitions.specs.Sectioned.{AreBegun, AreLater, HasEnd, IsBegun, IsLater, inside_from}
use Rattle.mdblock_definitions.specs.Sections.{Section}
use Rattle.mdblock_definitions.specs.Skeleton.{inside_marks, section_marks}
use Rattle.mdblock_definitions.specs.Within.{within_marks}
use Rattle.mdblock_definitions.proofs.Sectioned.{columns-are}

module _ (t : ℕ) (bytes : List ℕ) (some : 0 < t) (limit : t * length bytes + 1 < 2 ^ 64) (stack : List Container) (s : Section) (y : RowAt) (ys : List RowAt) (later : IsLater t bytes stack y ys s.part) (stands : length stack ≤ length s.part.stands) where
  abbrev goes : List Prefix
  goes = going_on (take y.row.many stack) y.span.number (line_bytes t y.span.number 1 y.span.start (drop y.span.start bytes))

  -- it goes on with all its containers
  went-whole : take (length s.part.stands) s.part.first.went_on ≡ s.part.first.went_on
  went-whole = take_all (length s.part.stands) s.part.first.went_on (omega (arith, later.row.many, later.row.is.many, stands))

  goes-is : goes ≡ s.part.first.went_on
  goes-is = went_again t bytes some limit stack later.is.left.number later.is.left.start y s.part.first later.row later.is.left.outside

  pub section-begun : (at : At) → at.columns ≡ columns_of goes → at.place ≡ place_after t bytes (point y.span.number 1 y.span.start 0) at.columns → IsBegun t bytes s.part y at
  section-begun at ec ep = record { columns = by s.part.first.is_blank; place = ep }
    where
      columns : s.part.first.columns ≡ columns_of s.part.first.went_on
      columns = omega (arith, later.row.sum, ap columns_of later.begun)

      here : at.columns ≡ columns_of s.part.first.went_on
      here = ec ∙ ap columns_of goes-is

      none : has_none s.part.first.begun ≡ true
      none = ap has_none later.begun

      by : (b : Bool) → at.columns ≡ cond b (cond (has_none s.part.first.begun) (columns_of (take (length s.part.stands) s.part.first.went_on)) s.part.first.columns) s.part.first.columns
      by true = here ∙ ap columns_of (sym went-whole) ∙ ap (λ v. cond v (columns_of (take (length s.part.stands) s.part.first.went_on)) s.part.first.columns) (sym none)
      by false = here ∙ sym columns

  -- the line ending, and its prefixes
  pub section-goes : (e0 e1 : List Event) (p : Part) (e : PartEnd) (rest all : List Mark) → ending_marks bytes p ≡ ending_to e
      → ((seats : List Seat) → AreSeatsAt t bytes (point y.span.number 1 y.span.start 0) seats → line_bytes t y.span.number 1 y.span.start (drop y.span.start bytes) ≡ bytes_of seats
      → e1 ≡ e0 ++ (events_of (ending_to e) ++ events_of (prefixes_marks bytes goes seats)))
      → Written e0 None false (ending_marks bytes p ++ (section_marks bytes s ++ rest)) all → Written e1 None false (inside_marks bytes s.part s.inside ++ rest) all
  section-goes e0 e1 p e rest all ee wrote w =
      let line = s.part.first.line in
      let text = line_text line in
      let number = later.is.left.number in
      let start = later.is.left.start in
      let seats = row_seats t bytes some limit stack number start y s.part.first later.row later.is.left.outside in
      let same = row_bytes t bytes some limit stack number start y s.part.first later.row later.is.left.outside in
      let u = prefixes_marks bytes s.part.first.went_on line in
      let inside = inside_marks bytes s.part s.inside in
      let marks : prefixes_marks bytes goes text ≡ u = ap (λ ps. prefixes_marks bytes ps text) goes-is ∙ went_marks t bytes some limit stack number start y s.part.first later.row later.is.left.outside in
      let is : e1 ≡ e0 ++ events_of (ending_to e ++ u) =
      wrote text seats same ∙ (λ k. e0 ++ (events_of (ending_to e) ++ events_of (marks k))) ∙ ap (λ l. e0 ++ l) (sym (map-append (λ (m : Mark). m.0) (ending_to e) u)) in
      let section : section_marks bytes s ≡ u ++ inside =
      (λ k. prefixes_marks bytes (went-whole k) line ++ (begun_all bytes (later.begun k) (drop (columns_of s.part.first.went_on) line) ++ inside)) in
      let order : ending_marks bytes p ++ (section_marks bytes s ++ rest) ≡ (ending_to e ++ u) ++ (inside ++ rest) =
      (λ k. ee k ++ (section k ++ rest)) ∙ ap (λ l. ending_to e ++ l) (append_assoc u inside rest) ∙ sym (append_assoc (ending_to e) u (inside ++ rest)) in
      let plain : NoChunk (ending_to e ++ u) = plain_append (ending_to e) u (plain_map (λ (k : Event). k) (ending_at e)) (plain_prefixes bytes s.part.first.went_on line) in
      write_plain e0 e1 None false (ending_to e ++ u) (inside ++ rest) all plain is (subst (λ (m : List Mark). Written e0 None false m all) order w)

module _ (t : ℕ) (bytes : List ℕ) (some : 0 < t) (limit : t * length bytes + 1 < 2 ^ 64) (stack : List Container) where
  -- the next section, which begins with this line
  pub record GoesTo (x : RowAt) (xs : List RowAt) (ss : List Section) : Type 0 where
    pub section : Section
    pub more : List Section
    pub is : ss ≡ section ∷ more
    pub later : IsLater t bytes stack x (take (length section.part.more) xs) section.part
    pub stands : length stack ≤ length section.part.stands

  pub goes-to : (rows : List RowAt) (x : RowAt) (xs : List RowAt) (ss : List Section) → rows ≡ x ∷ xs → AreLater t bytes stack rows ss → GoesTo x xs ss
  goes-to rows x xs ss e h = by ss (subst (λ (l : List RowAt). AreLater t bytes stack l ss) e h)
    where
      by : (ss : List Section) → AreLater t bytes stack (x ∷ xs) ss → GoesTo x xs ss
      by [] k = absurd k
      by (s ∷ ss) k = record { section = s; more = ss; is = refl; later = k.0; stands = k.1 }

  module _ (rows : List RowAt) (x : RowAt) (xs : List RowAt) (ss : List Section) (er : rows ≡ x ∷ xs) (h : AreLater t bytes stack rows ss) where
    to : GoesTo x xs ss
    to = goes-to rows x xs ss er h

    pub next-columns : HasColumns t bytes (point x.span.number 1 x.span.start 0) (length (line_bytes t x.span.number 1 x.span.start (drop x.span.start bytes)))
    next-columns = columns-are t bytes some limit stack x (take (length to.section.part.more) xs) to.section.part to.later.is

    pub next-begun : (at : At) → let s = x.span in at.columns ≡ columns_of (going_on (take x.row.many stack) s.number (line_bytes t s.number 1 s.start (drop s.start bytes))) → at.place ≡ place_after t bytes (point s.number 1 s.start 0) at.columns → AreBegun t bytes rows ss at
    next-begun at ec ep =
        subst (λ (l : List RowAt). AreBegun t bytes l ss at) (sym er)
        (subst (λ (l : List Section). AreBegun t bytes (x ∷ xs) l at) (sym to.is) (section-begun t bytes some limit stack to.section x (take (length to.section.part.more) xs) to.later to.stands at ec ep))

    pub next-written : (e0 e1 : List Event) (p : Part) (e : PartEnd) → HasEnd bytes p e
        → ((seats : List Seat) → AreSeatsAt t bytes (point x.span.number 1 x.span.start 0) seats → line_bytes t x.span.number 1 x.span.start (drop x.span.start bytes) ≡ bytes_of seats
        → e1 ≡ e0 ++ (events_of (ending_to e) ++ events_of (prefixes_marks bytes (going_on (take x.row.many stack) x.span.number (line_bytes t x.span.number 1 x.span.start (drop x.span.start bytes))) seats)))
        → (rest all : List Mark) → Written e0 None false (within_marks bytes p ss ++ rest) all → Written e1 None false (inside_from bytes ss rest) all
    next-written e0 e1 p e end wrote rest all w =
        let s = to.section in
        let here = ending_marks bytes p in
        let one = section_marks bytes s in
        let two = within_marks bytes s.part to.more in
        let order : within_marks bytes p ss ++ rest ≡ here ++ (one ++ (two ++ rest)) =
        ap (λ l. within_marks bytes p l ++ rest) to.is ∙ append_assoc here (one ++ two) rest ∙ ap (λ l. here ++ l) (append_assoc one two rest) in
        subst (λ (l : List Section). Written e1 None false (inside_from bytes l rest) all) (sym to.is)
        (section-goes t bytes some limit stack s x (take (length s.part.more) xs) to.later to.stands e0 e1 p e (two ++ rest) all end.ending wrote (subst (λ (m : List Mark). Written e0 None false m all) order w))

pub some-rows : (n : ℕ) (b : Bool) → b ≡ (n == 0) → b ≡ false → 0 < n
some-rows zero b e f = absurd (false≢true (sym f ∙ e))
some-rows (suc n) b e f = omega arith
