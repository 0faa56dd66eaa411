-- Lemmas on the parts of definitions, written from cursor to cursor.
use Rattle.std.proofs.Common.{◌≡◌, ℕ, zero, suc, ◌+◌, ◌-◌, ◌<◌, ◌≤◌, Bool, List, [], ◌∷◌, ◌++◌, Option, Some, None, drop, length, take, refl, sym, ap, ◌∙◌, subst, arith, length-drop}
use Rattle.std.specs.List.{prefix_len}
use Rattle.std.proofs.lemmas.List.Sums.{prefix_len-le-length}
use Rattle.markdown_base.specs.declared.event.Event.{Event}
use Rattle.markdown_base.specs.declared.event.Kind.TheVariants.{Enter, Exit}
use Rattle.markdown_base.specs.declared.event.Name.{Name}
use Rattle.markdown_base.specs.declared.event.Name.TheVariants as name
use Rattle.mdblock_lines.specs.Containers.{Container}
use Rattle.mdinline_labels.specs.declared.definitions.Definition.{Definition}
use Rattle.mdinline_labels.specs.declared.definitions.Stretch.{Stretch}
use Rattle.mdinline_labels.specs.Definitions.{end, end_of}
use Rattle.mdinline_labels.specs.Tails.{begins_with}
use Rattle.mdblock_containers.specs.declared.spans.RowAt.{RowAt}
use Rattle.mdblock_containers.specs.PlaceEvents.{event_at}
use Rattle.mdblock_containers.specs.SeatPlaces.{events_of}
use Rattle.mdblock_containers.proofs.WritingLemmas.{write-both}
use Rattle.mdblock_definitions.specs.declared.marks.Cursor.{Cursor}
use Rattle.mdblock_definitions.specs.Cursor.{FitsDefinition, FitsDestination, FitsGap, FitsMarks, FitsTitle, Goes, IsCursor, columns_left, label_marks, left_at, title_length, title_marks}
use Rattle.mdblock_definitions.specs.Definitions.{Place, destination_marks, gap_marks, is_byte, leaf, marked, parts_marks, span, string, text_of}
use Rattle.mdblock_definitions.proofs.MarksCursor.{goes-on, line-left, write-span, write-three}
use Rattle.mdblock_definitions.proofs.MarksPlaces.{definition-parts, marked-parts}

pub marks-few : (size : ℕ) (ps : List Place) → FitsMarks size ps → size ≤ length ps
marks-few size ps h = omega (arith, h.two, h.last, prefix_len-le-length is_byte (drop (size - 1) ps), length-drop (size - 1) ps)

pub begins-front : (b size : ℕ) (ps : List Place) → 1 ≤ size → begins_with b (text_of (take size ps)) ≡ begins_with b (text_of ps)
begins-front b zero ps w = absurd (omega arith)
begins-front b (suc n) [] w = refl
begins-front b (suc n) (p ∷ ps) w = refl

module _ (t : ℕ) (bytes : List ℕ) (stack : List Container) (xs : List RowAt) where
  -- the places behind two steps
  pub left-two : (a b c : Cursor) (m n : ℕ) → Goes t bytes stack xs a m b → Goes t bytes stack xs b n c → left_at t bytes stack xs c ≡ drop (m + n) (left_at t bytes stack xs a)
  left-two a b c m n f g = (goes-on t bytes stack xs a b c m n f g).left

  -- a mark comes at a cursor
  pub mark-left : (c : Cursor) → IsCursor t bytes stack xs c → (ps : List Place) → left_at t bytes stack xs c ≡ ps → 1 ≤ prefix_len is_byte ps → 1 ≤ columns_left c.at.columns (drop c.row xs)
  mark-left c h ps e w = omega (arith, w, line-left t bytes stack xs c h, ap (prefix_len is_byte) e)

  module _ (c first last : Cursor) (size : ℕ) (fits : FitsMarks size (left_at t bytes stack xs c)) (f : Goes t bytes stack xs c 1 first) where
    pub inside-few : size - 2 ≤ length (left_at t bytes stack xs first)
    inside-few = omega (arith, marks-few size (left_at t bytes stack xs c) fits, fits.two, ap (λ (l : List Place). length l) f.left, length-drop 1 (left_at t bytes stack xs c))

    module _ (g : Goes t bytes stack xs first (size - 2) last) where
      pub last-is : left_at t bytes stack xs last ≡ drop (size - 1) (left_at t bytes stack xs c)
      last-is = let at : 1 + (size - 2) ≡ size - 1 = omega (arith, fits.two) in left-two c first last 1 (size - 2) f g ∙ ap (λ n. drop n (left_at t bytes stack xs c)) at

      pub last-mark : 1 ≤ columns_left last.at.columns (drop last.row xs)
      last-mark = mark-left last g.at (drop (size - 1) (left_at t bytes stack xs c)) last-is fits.last

      pub marked-goes : (to : Cursor) → Goes t bytes stack xs last 1 to → Goes t bytes stack xs c size to
      marked-goes to h =
          let sum : 1 + (size - 2) + 1 ≡ size = omega (arith, fits.two) in
          subst (λ (n : ℕ). Goes t bytes stack xs c n to) sum (goes-on t bytes stack xs c last to (1 + (size - 2)) 1 (goes-on t bytes stack xs c first last 1 (size - 2) f g) h)

      pub marked-written : IsCursor t bytes stack xs c → (to : Cursor) → Goes t bytes stack xs last 1 to → (all mark inside : Name) (old e0 e1 e2 e3 e4 : List Event)
          → e0 ≡ old ++ event_at Enter all c.at.place ∷ [] → e1 ≡ e0 ++ events_of (leaf bytes mark (take 1 (left_at t bytes stack xs c)))
          → e2 ≡ e1 ++ events_of (string bytes inside (take (size - 2) (left_at t bytes stack xs first))) → e3 ≡ e2 ++ events_of (leaf bytes mark (take 1 (left_at t bytes stack xs last)))
          → e4 ≡ e3 ++ event_at Exit all to.at.place ∷ []
          → e4 ≡ old ++ events_of (span bytes all (take size (left_at t bytes stack xs c)) (marked bytes mark inside (take size (left_at t bytes stack xs c))))
      marked-written is to h all mark inside old e0 e1 e2 e3 e4 a b d e k =
          let places = left_at t bytes stack xs c in
          let few = marks-few size places fits in
          let second = d ∙ ap (λ l. e1 ++ events_of (string bytes inside (take (size - 2) l))) f.left in
          let third = e ∙ ap (λ l. e2 ++ events_of (leaf bytes mark (take 1 l))) (left-two c first last 1 (size - 2) f g) in
          let all_of = write-three e0 e1 e2 e3 (leaf bytes mark (take 1 places)) (string bytes inside (take (size - 2) (drop 1 places))) (leaf bytes mark (take 1 (drop (1 + (size - 2)) places))) b second third in
          let within = all_of ∙ ap (λ l. e0 ++ events_of l) (sym (marked-parts bytes mark inside size places fits.two few)) in
          write-span t bytes stack xs c to size all (marked bytes mark inside (take size places)) is (marked-goes to h) (omega (arith, fits.two)) few old e0 e3 e4 a within k

  -- ---- label and title

  module _ (c begin last : Cursor) (s : Stretch) (f : Goes t bytes stack xs c s.from begin) where
    pub label-fits : FitsMarks s.size (drop s.from (left_at t bytes stack xs c)) → FitsMarks s.size (left_at t bytes stack xs begin)
    label-fits fits = subst (FitsMarks s.size) (sym f.left) fits

    module _ (g : Goes t bytes stack xs begin s.size last) where
      pub colon-left : 1 ≤ prefix_len is_byte (drop (end s) (left_at t bytes stack xs c)) → 1 ≤ columns_left last.at.columns (drop last.row xs)
      colon-left w = mark-left last g.at (drop (end s) (left_at t bytes stack xs c)) (left-two c begin last s.from s.size f g) w

      pub label-goes : (to : Cursor) → Goes t bytes stack xs last 1 to → Goes t bytes stack xs c (end s + 1) to
      label-goes to h = goes-on t bytes stack xs c last to (end s) 1 (goes-on t bytes stack xs c begin last s.from s.size f g) h

      pub label-written : (old e1 e2 e3 : List Event) → e1 ≡ old ++ events_of (gap_marks bytes (take s.from (left_at t bytes stack xs c)))
          → e2 ≡ e1 ++ events_of (span bytes name.DefinitionLabel (take s.size (left_at t bytes stack xs begin)) (marked bytes name.DefinitionLabelMarker name.DefinitionLabelString (take s.size (left_at t bytes stack xs begin))))
          → e3 ≡ e2 ++ events_of (leaf bytes name.DefinitionMarker (take 1 (left_at t bytes stack xs last))) → e3 ≡ old ++ events_of (label_marks bytes s (left_at t bytes stack xs c))
      label-written old e1 e2 e3 a b d =
          let places = left_at t bytes stack xs c in
          let label = take s.size (drop s.from places) in
          let second = b ∙ ap (λ l. e1 ++ events_of (span bytes name.DefinitionLabel (take s.size l) (marked bytes name.DefinitionLabelMarker name.DefinitionLabelString (take s.size l)))) f.left in
          let third = d ∙ ap (λ l. e2 ++ events_of (leaf bytes name.DefinitionMarker (take 1 l))) (left-two c begin last s.from s.size f g) in
          write-three old e1 e2 e3 (gap_marks bytes (take s.from places)) (span bytes name.DefinitionLabel label (marked bytes name.DefinitionLabelMarker name.DefinitionLabelString label)) (leaf bytes name.DefinitionMarker (take 1 (drop (end s) places))) a second third

  pub title-written : (c begin : Cursor) (s : Stretch) (from : ℕ) → Goes t bytes stack xs c (s.from - from) begin → (old e1 e2 : List Event) → e1 ≡ old ++ events_of (gap_marks bytes (take (s.from - from) (left_at t bytes stack xs c)))
      → e2 ≡ e1 ++ events_of (span bytes name.DefinitionTitle (take s.size (left_at t bytes stack xs begin)) (marked bytes name.DefinitionTitleMarker name.DefinitionTitleString (take s.size (left_at t bytes stack xs begin))))
      → e2 ≡ old ++ events_of (title_marks bytes (Some s) from (left_at t bytes stack xs c))
  title-written c begin s from f old e1 e2 a b =
      let places = left_at t bytes stack xs c in
      let title = take s.size (drop (s.from - from) places) in
      let second = b ∙ ap (λ l. e1 ++ events_of (span bytes name.DefinitionTitle (take s.size l) (marked bytes name.DefinitionTitleMarker name.DefinitionTitleString (take s.size l)))) f.left in
      write-both old e1 e2 (gap_marks bytes (take (s.from - from) places)) (span bytes name.DefinitionTitle title (marked bytes name.DefinitionTitleMarker name.DefinitionTitleString title)) a second

  -- ---- the parts of a definition

  module _ (c colon begin behind last to : Cursor) (d : Definition) (gap : ℕ) (gap_is : gap ≡ d.destination.from - end d.label - 1) (fits : FitsDefinition d (left_at t bytes stack xs c)) (g1 : Goes t bytes stack xs c (end d.label + 1) colon) where
    pub gap-fits : FitsGap gap (left_at t bytes stack xs colon)
    gap-fits = let same : d.destination.from - (end d.label + 1) ≡ gap = omega (arith, gap_is) in subst (λ (n : ℕ). FitsGap n (left_at t bytes stack xs colon)) same (subst (FitsGap (d.destination.from - (end d.label + 1))) (sym g1.left) fits.white)

    module _ (g2 : Goes t bytes stack xs colon gap begin) where
      pub to-begin : Goes t bytes stack xs c d.destination.from begin
      to-begin = let sum : end d.label + 1 + gap ≡ d.destination.from = omega (arith, gap_is, fits.behind) in subst (λ (n : ℕ). Goes t bytes stack xs c n begin) sum (goes-on t bytes stack xs c colon begin (end d.label + 1) gap g1 g2)

      pub destination-fits : FitsDestination d.destination.size (left_at t bytes stack xs begin)
      destination-fits = subst (FitsDestination d.destination.size) (sym to-begin.left) fits.destination

      pub is-marked : (b : Bool) → b ≡ begins_with 60 (text_of (drop d.destination.from (left_at t bytes stack xs c))) → b ≡ begins_with 60 (text_of (left_at t bytes stack xs begin))
      is-marked b e = e ∙ ap (λ l. begins_with 60 (text_of l)) (sym to-begin.left)

      module _ (g3 : Goes t bytes stack xs begin d.destination.size behind) where
        pub to-behind : Goes t bytes stack xs c (end d.destination) behind
        to-behind = goes-on t bytes stack xs c begin behind d.destination.from d.destination.size to-begin g3

        pub title-fits : FitsTitle d.title (end d.destination) (left_at t bytes stack xs behind)
        title-fits = subst (FitsTitle d.title (end d.destination)) (sym to-behind.left) fits.title

        title-sum : (title : Option Stretch) → FitsTitle title (end d.destination) (drop (end d.destination) (left_at t bytes stack xs c)) → end d.destination + title_length title (end d.destination) ≡ end_of title d.destination
        title-sum None h = omega arith
        title-sum (Some s) h = omega (arith, h.0)

        module _ (g4 : Goes t bytes stack xs behind (title_length d.title (end d.destination)) last) where
          pub to-last : Goes t bytes stack xs c (end_of d.title d.destination) last
          to-last = subst (λ (n : ℕ). Goes t bytes stack xs c n last) (title-sum d.title fits.title) (goes-on t bytes stack xs c behind last (end d.destination) (title_length d.title (end d.destination)) to-behind g4)

          pub left-fits : FitsGap (d.size - end_of d.title d.destination) (left_at t bytes stack xs last)
          left-fits = subst (FitsGap (d.size - end_of d.title d.destination)) (sym to-last.left) fits.left

          pub to-whole : Goes t bytes stack xs last (d.size - end_of d.title d.destination) to → Goes t bytes stack xs c d.size to
          to-whole g5 =
              let sum : end_of d.title d.destination + (d.size - end_of d.title d.destination) ≡ d.size = omega (arith, fits.ends) in
              subst (λ (n : ℕ). Goes t bytes stack xs c n to) sum (goes-on t bytes stack xs c last to (end_of d.title d.destination) (d.size - end_of d.title d.destination) to-last g5)

          pub parts-written : (old e1 e2 e3 e4 e5 : List Event) → e1 ≡ old ++ events_of (label_marks bytes d.label (left_at t bytes stack xs c)) → e2 ≡ e1 ++ events_of (gap_marks bytes (take gap (left_at t bytes stack xs colon)))
              → e3 ≡ e2 ++ events_of (destination_marks bytes (take d.destination.size (left_at t bytes stack xs begin))) → e4 ≡ e3 ++ events_of (title_marks bytes d.title (end d.destination) (left_at t bytes stack xs behind))
              → e5 ≡ e4 ++ events_of (gap_marks bytes (take (d.size - end_of d.title d.destination) (left_at t bytes stack xs last)))
              → e5 ≡ old ++ events_of (parts_marks bytes d (take d.size (left_at t bytes stack xs c)))
          parts-written old e1 e2 e3 e4 e5 a1 a2 a3 a4 a5 =
              let places = left_at t bytes stack xs c in
              let same : gap ≡ d.destination.from - (end d.label + 1) = omega (arith, gap_is) in
              let b2 = a2 ∙ (λ k. e1 ++ events_of (gap_marks bytes (take (same k) (g1.left k)))) in
              let b3 = a3 ∙ ap (λ l. e2 ++ events_of (destination_marks bytes (take d.destination.size l))) to-begin.left in
              let b4 = a4 ∙ ap (λ l. e3 ++ events_of (title_marks bytes d.title (end d.destination) l)) to-behind.left in
              let b5 = a5 ∙ ap (λ l. e4 ++ events_of (gap_marks bytes (take (d.size - end_of d.title d.destination) l))) to-last.left in
              let m1 = label_marks bytes d.label places in
              let m2 = gap_marks bytes (take (d.destination.from - (end d.label + 1)) (drop (end d.label + 1) places)) in
              let m3 = destination_marks bytes (take d.destination.size (drop d.destination.from places)) in
              let m4 = title_marks bytes d.title (end d.destination) (drop (end d.destination) places) in
              let m5 = gap_marks bytes (take (d.size - end_of d.title d.destination) (drop (end_of d.title d.destination) places)) in
              write-both old e1 e5 m1 (m2 ++ (m3 ++ (m4 ++ m5))) a1 (write-both e1 e2 e5 m2 (m3 ++ (m4 ++ m5)) b2 (write-three e2 e3 e4 e5 m3 m4 m5 b3 b4 b5))
              ∙ ap (λ l. old ++ events_of l) (sym (definition-parts bytes d places fits))

  pub definition-some : (c : Cursor) (d : Definition) → FitsDefinition d (left_at t bytes stack xs c) → 0 < d.size
  definition-some c d fits = by d.title fits.title fits.ends
    where
      by : (title : Option Stretch) → FitsTitle title (end d.destination) (drop (end d.destination) (left_at t bytes stack xs c)) → end_of title d.destination ≤ d.size → 0 < d.size
      by None h w = omega (arith, w, fits.behind)
      by (Some s) h w = omega (arith, w, h.0, fits.behind)
