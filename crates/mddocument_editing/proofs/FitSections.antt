-- If the events of a document can be packed, so can those of each of its sections; and an edited document within the limit is a possible one.
use Rattle.mddocument_editing.proofs.Prelude.{◌≡◌, ℕ, ◌+◌, ◌-◌, ◌^◌, ◌&&◌, Bool, true, nat_lt, ◌<◌, List, [], ◌∷◌, ◌++◌, length, take, drop, map, refl, subst, sym, ap, ◌∙◌, arith, Option, Some, None, and_from, and_parts, lt-ltb, ltb-true, list_all-append, All-append, All-drop, All-take, AllByRecursion, All, IsWithinLimit, ParseOptions, Event, Link, Point, IsDocument, document, line_endings, moved_event, moved_index, moved_link, moved_point, events_of_sections, Divided, IsDivided, bytes_of, is_key_of, section_events, edited, IsPackable, end_fits, event_fits, events_fit, link_fits, point_fits, Edit, Key, gfm_events}
use Rattle.mddocument_editing.proofs.Below.{sections-give}

-- a number fits if a greater one does
less-fits : (n more limit : ℕ) → nat_lt (n + more) limit ≡ true → nat_lt n limit ≡ true
less-fits n more limit fits = lt-ltb n limit (omega (arith, ltb-true (n + more) limit fits))

both : (a b c d : Bool) → (a ≡ true → c ≡ true) → (b ≡ true → d ≡ true) → (a && b) ≡ true → (c && d) ≡ true
both a b c d first second h = let parts = and_parts a b h in and_from c d (first parts.0) (second parts.1)

-- what fits where it is moved to fits where it was
module _ (lines bytes events : ℕ) where
  point-fits : (p : Point) → point_fits (moved_point lines bytes p) ≡ true → point_fits p ≡ true
  point-fits p =
      let column = nat_lt p.column (2 ^ 32) in
      let vs = nat_lt p.vs (2 ^ 8) in
      let line = nat_lt p.line (2 ^ 32) in
      let index = nat_lt p.index (2 ^ 32) in
      let line_there = nat_lt (p.line + lines) (2 ^ 32) in
      let index_there = nat_lt (p.index + bytes) (2 ^ 32) in
      both (line_there && column) (index_there && vs) (line && column) (index && vs)
      (both line_there column line column (less-fits p.line lines (2 ^ 32)) (λ h. h))
      (both index_there vs index vs (less-fits p.index bytes (2 ^ 32)) (λ h. h))

  end-fits : (o : Option ℕ) → end_fits (moved_index events o) ≡ true → end_fits o ≡ true
  end-fits None fits = refl
  end-fits (Some k) fits = less-fits k events (2 ^ 32 - 1) fits

  link-fits : (o : Option Link) → link_fits (moved_link events o) ≡ true → link_fits o ≡ true
  link-fits None fits = refl
  link-fits (Some l) fits =
      both (end_fits (moved_index events l.previous)) (end_fits (moved_index events l.next)) (end_fits l.previous) (end_fits l.next) (end-fits l.previous) (end-fits l.next) fits

  event-fits : (e : Event) → event_fits (moved_event lines bytes events e) ≡ true → event_fits e ≡ true
  event-fits e = both (point_fits (moved_point lines bytes e.point)) (link_fits (moved_link events e.link)) (point_fits e.point) (link_fits e.link) (point-fits e.point) (link-fits e.link)

  events-fit : (es : List Event) → events_fit (map (moved_event lines bytes events) es) ≡ true → events_fit es ≡ true
  events-fit [] fits = refl
  events-fit (e ∷ es) fits =
      let move = moved_event lines bytes events in both (event_fits (move e)) (events_fit (map move es)) (event_fits e) (events_fit es) (event-fits e) (events-fit es) fits

-- the events of each section fit
each-fits : (read : List ℕ → List Event) (sections : List (List ℕ)) → events_fit (events_of_sections read sections) ≡ true → AllByRecursion (λ s. events_fit (read s) ≡ true) sections
each-fits read [] fits = tt
each-fits read (s ∷ more) fits =
    let first = read s in
    let rest = events_of_sections read more in
    let move = moved_event (line_endings s) (length s) (length first) in
    let parts = and_parts (events_fit first) (events_fit (map move rest)) (sym (list_all-append event_fits first (map move rest)) ∙ fits) in
    (parts.0, each-fits read more (events-fit (line_endings s) (length s) (length first) rest parts.1))

-- if the events of a document fit, so do those of each of its sections, by the labels of the document
pub sections-fit : (d : Divided) (defined : Key → Bool) → IsDocument (document d.options (bytes_of d)) → IsDivided d → ((key : Key) → defined key ≡ is_key_of d key)
    → events_fit (gfm_events d.options (bytes_of d)) ≡ true → AllByRecursion (IsPackable d.options defined) d.sections
sections-fit d defined possible is knows fits =
    let all = sections-give d.options d.sections possible is.sections.cut in
    let same : defined ≡ is_key_of d = λ i key. knows key i in
    subst (λ g. AllByRecursion (IsPackable d.options g) d.sections) (sym same) (each-fits (section_events d) d.sections (ap events_fit all ∙ fits))

-- a document within the limit stays a possible one when it is edited
pub edited-document : (options : ParseOptions) (edit : Edit) (bytes : List ℕ) → IsDocument (document options bytes) → All (λ b. b < 256) edit.with.now
    → IsWithinLimit options.tab_size (edited edit bytes) → IsDocument (document options (edited edit bytes))
edited-document options edit bytes is new limit =
    let P = λ (b : ℕ). b < 256 in
    let behind = drop edit.to bytes in record {
      bytes = All-append P (take edit.from bytes) (edit.with.now ++ behind) (All-take P edit.from bytes is.bytes) (All-append P edit.with.now behind new (All-drop P edit.to bytes is.bytes));
      tab = is.tab;
      limit = limit;
      one_size = refl;
    }
