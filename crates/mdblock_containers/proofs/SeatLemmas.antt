-- The events of prefixes by places are the marks of their seats.
use Rattle.std.proofs.Common.{◌≡◌, ℕ, zero, suc, ◌+◌, ◌-◌, ◌<◌, ◌≤◌, false, cond, List, [], ◌∷◌, ◌++◌, length, take, drop, refl, sym, ap, ◌∙◌, subst, arith, ne_eqb, length-drop}
use Rattle.std.specs.Prelude.{◌==◌, None}
use Rattle.std.proofs.lemmas.List.{map-append, take_all, length-map, length-take-le}
use Rattle.markdown_base.specs.declared.event.Kind.TheVariants.{Enter, Exit}
use Rattle.markdown_base.specs.declared.event.Name.{Name}
use Rattle.markdown_base.specs.declared.event.Name.TheVariants as name
use Rattle.markdown_base.specs.declared.event.Point.{Point}
use Rattle.markdown_base.specs.Places.{shown}
use Rattle.markdown_base.specs.Virtual.{Seat, end_after}
use Rattle.mdconstructs_machines.specs.Spans.{event}
use Rattle.mdblock_leaf_blocks.specs.LeafBlocks.{bytes_of}
use Rattle.mdblock_leaf_blocks.specs.LeafEvents.{Mark, leaf_marks, span_marks, white}
use Rattle.mdblock_leaf_blocks.specs.LineKinds.{indent}
use Rattle.mdblock_lines.specs.declared.containers.Container.{Container as CodeContainer}
use Rattle.mdblock_lines.specs.declared.containers.ContainerKind.{ContainerKind}
use Rattle.mdblock_lines.specs.declared.containers.ContainerKind.TheVariants as kinds
use Rattle.mdblock_lines.specs.Containers.{Footnote, Item, footnote, quote, item, Quote}
use Rattle.mdblock_lines.specs.Views.{container_by, container_of, footnote_of, item_of, quote_of}
use Rattle.mdblock_lines.specs.Lines.{place_after}
use Rattle.mdblock_containers.specs.Skeleton.{begun_marks, going_marks, label_marks}
use Rattle.mdblock_containers.specs.PlaceEvents.{begun_prefix_by, begun_prefix_places, event_at, footnote_label_at, footnote_prefix_at, going_prefix_places, span_at, quote_prefix_at, item_prefix_at}
use Rattle.mdblock_containers.specs.SeatPlaces.{AreSeatsAt, events_of}
use Rattle.mdblock_containers.proofs.WritingLemmas.{place_add}
use Rattle.mdblock_containers.proofs.SpanLemmas.{place_front}

module _ (t : ℕ) (bytes : List ℕ) where
  -- the place is shown at itself
  pub here : (p : Point) (ss : List Seat) → AreSeatsAt t bytes p ss → shown bytes p ≡ p
  here p [] h = h
  here p (s ∷ ss) h = h.0

  -- where so many seats end
  pub seats_end : (p : Point) (ss : List Seat) (n : ℕ) → AreSeatsAt t bytes p ss → n ≤ length ss → end_after p (take n ss) ≡ place_after t bytes p n
  seats_end p ss zero h w = refl
  seats_end p [] (suc n) h w = absurd (omega arith)
  seats_end p (s ∷ ss) (suc n) h w = seats_end s.end ss n h.3 (omega arith) ∙ ap (λ q. place_after t bytes q n) h.2 ∙ place_front t bytes p n

  pub seats_drop : (p : Point) (ss : List Seat) (n : ℕ) → AreSeatsAt t bytes p ss → n ≤ length ss → AreSeatsAt t bytes (place_after t bytes p n) (drop n ss)
  seats_drop p ss zero h w = h
  seats_drop p [] (suc n) h w = absurd (omega arith)
  seats_drop p (s ∷ ss) (suc n) h w = subst (λ (q : Point). AreSeatsAt t bytes q (drop n ss)) (ap (λ q. place_after t bytes q n) h.2 ∙ place_front t bytes p n) (seats_drop s.end ss n h.3 (omega arith))

  pub seats_take : (p : Point) (ss : List Seat) (n : ℕ) → AreSeatsAt t bytes p ss → AreSeatsAt t bytes p (take n ss)
  seats_take p ss zero h = here p ss h
  seats_take p [] (suc n) h = h
  seats_take p (s ∷ ss) (suc n) h = (h.0, h.1, h.2, seats_take s.end ss n h.3)

  pub seats_shown : (p : Point) (ss : List Seat) (n : ℕ) → AreSeatsAt t bytes p ss → n ≤ length ss → shown bytes (place_after t bytes p n) ≡ place_after t bytes p n
  seats_shown p ss n h w = here (place_after t bytes p n) (drop n ss) (seats_drop p ss n h w)

  -- a span
  pub span_is_leaf : (m : Name) (p : Point) (ss : List Seat) (n : ℕ) → AreSeatsAt t bytes p ss → n ≤ length ss → span_at t bytes m p n ≡ events_of (leaf_marks bytes m (take n ss))
  span_is_leaf m p ss zero h w = refl
  span_is_leaf m p [] (suc n) h w = absurd (omega arith)
  span_is_leaf m p (s ∷ ss) (suc n) h w =
      let some : (suc n == 0) ≡ false = ne_eqb (suc n) 0 (λ q. omega arith) in
      let first : p ≡ shown bytes s.point = sym (ap (shown bytes) h.1 ∙ h.0) in
      let last : place_after t bytes p (suc n) ≡ shown bytes (end_after s.end (take n ss)) = sym (ap (shown bytes) (seats_end p (s ∷ ss) (suc n) h w) ∙ seats_shown p (s ∷ ss) (suc n) h w) in
      ap (λ b. cond b [] (event_at Enter m p ∷ event_at Exit m (place_after t bytes p (suc n)) ∷ [])) some ∙ (λ k. event_at Enter m (first k) ∷ event_at Exit m (last k) ∷ [])

  pub span_is_all : (m : Name) (p : Point) (ss : List Seat) → AreSeatsAt t bytes p ss → span_at t bytes m p (length ss) ≡ events_of (leaf_marks bytes m ss)
  span_is_all m p ss h = span_is_leaf m p ss (length ss) h (omega arith) ∙ ap (λ l. events_of (leaf_marks bytes m l)) (take_all (length ss) ss (omega arith))

  -- a span with others in it
  pub span_is_full : (m : Name) (p : Point) (ss : List Seat) (inside : List Mark) → AreSeatsAt t bytes p ss → 0 < length ss
      → event_at Enter m p ∷ (events_of inside ++ event_at Exit m (place_after t bytes p (length ss)) ∷ []) ≡ events_of (span_marks bytes m ss inside)
  span_is_full m p [] inside h w = absurd (omega arith)
  span_is_full m p (s ∷ ss) inside h w =
      let n = length (s ∷ ss) in
      let all : take n (s ∷ ss) ≡ s ∷ ss = take_all n (s ∷ ss) (omega arith) in
      let first : p ≡ shown bytes s.point = sym (ap (shown bytes) h.1 ∙ h.0) in
      let last : place_after t bytes p n ≡ shown bytes (end_after s.end ss) = sym (ap (shown bytes) (sym (ap (end_after p) all) ∙ seats_end p (s ∷ ss) n h (omega arith)) ∙ seats_shown p (s ∷ ss) n h (omega arith)) in
      (λ k. event_at Enter m (first k) ∷ (events_of inside ++ event_at Exit m (last k) ∷ [])) ∙ ap (λ l. event bytes Enter m s.point ∷ l) (sym (map-append (λ (x : Mark). x.0) inside ((event bytes Exit m (end_after s.end ss), None) ∷ [])))

  -- The prefix of a quote
  pub quote_is_marks : (quoted : Quote) (p : Point) (ss : List Seat) → AreSeatsAt t bytes p ss → indent (bytes_of ss) + 1 ≤ length ss → quote_prefix_at t bytes p (bytes_of ss) ≡ events_of (going_marks bytes (quote quoted) ss)
  quote_is_marks quoted p ss h w =
      let n = indent (bytes_of ss) in
      let size : length (bytes_of ss) ≡ length ss = length-map ss (λ (s : Seat). s.byte) in
      let q = place_after t bytes p n in
      let behind = drop n ss in
      let at : AreSeatsAt t bytes q behind = seats_drop p ss n h (omega (arith, w)) in
      let left : length behind ≡ length ss - n = length-drop n ss in
      let tail = drop (n + 1) ss in
      let at_tail : AreSeatsAt t bytes (place_after t bytes p (n + 1)) tail = seats_drop p ss (n + 1) h w in
      let rest : length (bytes_of ss) - n - 1 ≡ length tail = omega (arith, length-drop (n + 1) ss, size) in
      let next : n + 1 ≡ suc n = omega arith in
      let end : place_after t bytes p (length (bytes_of ss)) ≡ place_after t bytes q (length behind) =
      let e : length (bytes_of ss) ≡ n + length behind = omega (arith, left, size, w) in ap (place_after t bytes p) e ∙ sym (place_add t bytes p n (length behind)) in
      let before : span_at t bytes name.SpaceOrTab p n ≡ events_of (white bytes (take n ss)) = span_is_leaf name.SpaceOrTab p ss n h (omega (arith, w)) in
      let marker : span_at t bytes name.BlockQuoteMarker q 1 ≡ events_of (leaf_marks bytes name.BlockQuoteMarker (take 1 behind)) = span_is_leaf name.BlockQuoteMarker q behind 1 at (omega (arith, left, w)) in
      let after : span_at t bytes name.SpaceOrTab (place_after t bytes p (n + 1)) (length (bytes_of ss) - n - 1) ≡ events_of (white bytes (drop (suc n) ss)) =
      ap (span_at t bytes name.SpaceOrTab (place_after t bytes p (n + 1))) rest ∙ span_is_all name.SpaceOrTab (place_after t bytes p (n + 1)) tail at_tail ∙ ap (λ k. events_of (white bytes (drop k ss))) next in
      let inside = leaf_marks bytes name.BlockQuoteMarker (take 1 behind) ++ white bytes (drop (suc n) ss) in
      let both : span_at t bytes name.BlockQuoteMarker q 1 ++ span_at t bytes name.SpaceOrTab (place_after t bytes p (n + 1)) (length (bytes_of ss) - n - 1) ≡ events_of inside =
      (λ k. marker k ++ after k) ∙ sym (map-append (λ (x : Mark). x.0) (leaf_marks bytes name.BlockQuoteMarker (take 1 behind)) (white bytes (drop (suc n) ss))) in
      (λ k. before k ++ (event_at Enter name.BlockQuotePrefix q ∷ (both k ++ event_at Exit name.BlockQuotePrefix (end k) ∷ [])))
      ∙ ap (λ l. events_of (white bytes (take n ss)) ++ l) (span_is_full name.BlockQuotePrefix q behind inside at (omega (arith, left, w)))
      ∙ sym (map-append (λ (x : Mark). x.0) (white bytes (take n ss)) (span_marks bytes name.BlockQuotePrefix behind inside))

  -- The prefix with which a container goes on
  pub going_is_marks : (list : ℕ) (c : CodeContainer) (p : Point) (ss : List Seat) (text : List ℕ) → AreSeatsAt t bytes p ss → text ≡ bytes_of ss → (c.kind ≡ kinds.Quote → indent text + 1 ≤ length text)
      → going_prefix_places t bytes c.kind p text ≡ events_of (going_marks bytes (container_of list c) ss)
  going_is_marks list c p ss text h e w = by c.kind refl
    where
      only : span_at t bytes name.SpaceOrTab p (length text) ≡ events_of (white bytes ss)
      only =
          let size : length text ≡ length ss = ap (λ (l : List ℕ). length l) e ∙ length-map ss (λ (s : Seat). s.byte) in
          ap (span_at t bytes name.SpaceOrTab p) size ∙ span_is_all name.SpaceOrTab p ss h

      by : (k : ContainerKind) → c.kind ≡ k → going_prefix_places t bytes k p text ≡ events_of (going_marks bytes (container_by k list c) ss)
      by kinds.Item q = only
      by kinds.Footnote q = only
      by kinds.Quote q =
          let m : indent (bytes_of ss) + 1 ≤ length (bytes_of ss) = subst (λ (l : List ℕ). indent l + 1 ≤ length l) e (w q) in
          ap (quote_prefix_at t bytes p) e ∙ quote_is_marks (quote_of c) p ss h (omega (arith, m, length-map ss (λ (s : Seat). s.byte)))

  -- The prefix with which an item begins
  pub item_is_marks : (i : Item) (p : Point) (ss : List Seat) → AreSeatsAt t bytes p ss → indent (bytes_of ss) + i.digits + 1 ≤ length ss → item_prefix_at t bytes i.digits p (bytes_of ss) ≡ events_of (begun_marks bytes (item i) ss)
  item_is_marks i p ss h w =
      let n = indent (bytes_of ss) in
      let d = i.digits in
      let size : length (bytes_of ss) ≡ length ss = length-map ss (λ (s : Seat). s.byte) in
      let q = place_after t bytes p n in
      let behind = drop n ss in
      let at : AreSeatsAt t bytes q behind = seats_drop p ss n h (omega (arith, w)) in
      let left : length behind ≡ length ss - n = length-drop n ss in
      let marked = drop (n + d) ss in
      let at_mark : AreSeatsAt t bytes (place_after t bytes p (n + d)) marked = seats_drop p ss (n + d) h (omega (arith, w)) in
      let mark_left : length marked ≡ length ss - (n + d) = length-drop (n + d) ss in
      let tail = drop (n + d + 1) ss in
      let at_tail : AreSeatsAt t bytes (place_after t bytes p (n + d + 1)) tail = seats_drop p ss (n + d + 1) h w in
      let rest : length (bytes_of ss) - n - d - 1 ≡ length tail = omega (arith, length-drop (n + d + 1) ss, size) in
      let next : n + d + 1 ≡ suc (n + d) = omega arith in
      let end : place_after t bytes p (length (bytes_of ss)) ≡ place_after t bytes q (length behind) =
      let e : length (bytes_of ss) ≡ n + length behind = omega (arith, left, size, w) in ap (place_after t bytes p) e ∙ sym (place_add t bytes p n (length behind)) in
      let before : span_at t bytes name.SpaceOrTab p n ≡ events_of (white bytes (take n ss)) = span_is_leaf name.SpaceOrTab p ss n h (omega (arith, w)) in
      let value : span_at t bytes name.ListItemValue q d ≡ events_of (leaf_marks bytes name.ListItemValue (take d behind)) = span_is_leaf name.ListItemValue q behind d at (omega (arith, left, w)) in
      let marker : span_at t bytes name.ListItemMarker (place_after t bytes p (n + d)) 1 ≡ events_of (leaf_marks bytes name.ListItemMarker (take 1 marked)) =
      span_is_leaf name.ListItemMarker (place_after t bytes p (n + d)) marked 1 at_mark (omega (arith, mark_left, w)) in
      let after : span_at t bytes name.SpaceOrTab (place_after t bytes p (n + d + 1)) (length (bytes_of ss) - n - d - 1) ≡ events_of (white bytes (drop (suc (n + d)) ss)) =
      ap (span_at t bytes name.SpaceOrTab (place_after t bytes p (n + d + 1))) rest ∙ span_is_all name.SpaceOrTab (place_after t bytes p (n + d + 1)) tail at_tail ∙ ap (λ k. events_of (white bytes (drop k ss))) next in
      let last = leaf_marks bytes name.ListItemMarker (take 1 marked) ++ white bytes (drop (suc (n + d)) ss) in
      let inside = leaf_marks bytes name.ListItemValue (take d behind) ++ last in
      let two : span_at t bytes name.ListItemMarker (place_after t bytes p (n + d)) 1 ++ span_at t bytes name.SpaceOrTab (place_after t bytes p (n + d + 1)) (length (bytes_of ss) - n - d - 1) ≡ events_of last =
      (λ k. marker k ++ after k) ∙ sym (map-append (λ (x : Mark). x.0) (leaf_marks bytes name.ListItemMarker (take 1 marked)) (white bytes (drop (suc (n + d)) ss))) in
      let three : span_at t bytes name.ListItemValue q d ++ (span_at t bytes name.ListItemMarker (place_after t bytes p (n + d)) 1 ++ span_at t bytes name.SpaceOrTab (place_after t bytes p (n + d + 1)) (length (bytes_of ss) - n - d - 1)) ≡ events_of inside =
      (λ k. value k ++ two k) ∙ sym (map-append (λ (x : Mark). x.0) (leaf_marks bytes name.ListItemValue (take d behind)) last) in
      (λ k. before k ++ (event_at Enter name.ListItemPrefix q ∷ (three k ++ event_at Exit name.ListItemPrefix (end k) ∷ [])))
      ∙ ap (λ l. events_of (white bytes (take n ss)) ++ l) (span_is_full name.ListItemPrefix q behind inside at (omega (arith, left, w)))
      ∙ sym (map-append (λ (x : Mark). x.0) (white bytes (take n ss)) (span_marks bytes name.ListItemPrefix behind inside))

  -- The label of a footnote definition, and its prefix
  label_is_marks : (l : ℕ) (p : Point) (ss : List Seat) → AreSeatsAt t bytes p ss → 1 ≤ l → l + 3 ≤ length ss → footnote_label_at t bytes l p ≡ events_of (label_marks bytes l ss)
  label_is_marks l p ss h some w =
      let caret = drop 1 ss in
      let string = take l (drop 2 ss) in
      let last = drop (l + 2) ss in
      let at_caret : AreSeatsAt t bytes (place_after t bytes p 1) caret = seats_drop p ss 1 h (omega (arith, w)) in
      let at_string : AreSeatsAt t bytes (place_after t bytes p 2) (drop 2 ss) = seats_drop p ss 2 h (omega (arith, w)) in
      let at_last : AreSeatsAt t bytes (place_after t bytes p (l + 2)) last = seats_drop p ss (l + 2) h (omega (arith, w)) in
      let caret_left : length caret ≡ length ss - 1 = length-drop 1 ss in
      let string_left : length (drop 2 ss) ≡ length ss - 2 = length-drop 2 ss in
      let last_left : length last ≡ length ss - (l + 2) = length-drop (l + 2) ss in
      let string_long : length string ≡ l = length-take-le l (drop 2 ss) (omega (arith, string_left, w)) in
      let end : place_after t bytes p (l + 2) ≡ place_after t bytes (place_after t bytes p 2) (length string) =
      let e : l + 2 ≡ 2 + length string = omega (arith, string_long) in ap (place_after t bytes p) e ∙ sym (place_add t bytes p 2 (length string)) in
      let first : span_at t bytes name.GfmFootnoteDefinitionLabelMarker p 1 ≡ events_of (leaf_marks bytes name.GfmFootnoteDefinitionLabelMarker (take 1 ss)) = span_is_leaf name.GfmFootnoteDefinitionLabelMarker p ss 1 h (omega (arith, w)) in
      let second : span_at t bytes name.GfmFootnoteDefinitionMarker (place_after t bytes p 1) 1 ≡ events_of (leaf_marks bytes name.GfmFootnoteDefinitionMarker (take 1 caret)) =
      span_is_leaf name.GfmFootnoteDefinitionMarker (place_after t bytes p 1) caret 1 at_caret (omega (arith, caret_left, w)) in
      let named : span_at t bytes name.Data (place_after t bytes p 2) l ≡ events_of (leaf_marks bytes name.Data string) = span_is_leaf name.Data (place_after t bytes p 2) (drop 2 ss) l at_string (omega (arith, string_left, w)) in
      let third : event_at Enter name.GfmFootnoteDefinitionLabelString (place_after t bytes p 2) ∷ (span_at t bytes name.Data (place_after t bytes p 2) l ++ event_at Exit name.GfmFootnoteDefinitionLabelString (place_after t bytes p (l + 2)) ∷ [])
      ≡ events_of (span_marks bytes name.GfmFootnoteDefinitionLabelString string (leaf_marks bytes name.Data string)) =
      (λ k. event_at Enter name.GfmFootnoteDefinitionLabelString (place_after t bytes p 2) ∷ (named k ++ event_at Exit name.GfmFootnoteDefinitionLabelString (end k) ∷ []))
      ∙ span_is_full name.GfmFootnoteDefinitionLabelString (place_after t bytes p 2) string (leaf_marks bytes name.Data string) (seats_take (place_after t bytes p 2) (drop 2 ss) l at_string) (omega (arith, string_long, some)) in
      let fourth : span_at t bytes name.GfmFootnoteDefinitionLabelMarker (place_after t bytes p (l + 2)) 1 ≡ events_of (leaf_marks bytes name.GfmFootnoteDefinitionLabelMarker (take 1 last)) =
      span_is_leaf name.GfmFootnoteDefinitionLabelMarker (place_after t bytes p (l + 2)) last 1 at_last (omega (arith, last_left, w)) in
      let a = leaf_marks bytes name.GfmFootnoteDefinitionLabelMarker (take 1 ss) in
      let b = leaf_marks bytes name.GfmFootnoteDefinitionMarker (take 1 caret) in
      let c = span_marks bytes name.GfmFootnoteDefinitionLabelString string (leaf_marks bytes name.Data string) in
      let d = leaf_marks bytes name.GfmFootnoteDefinitionLabelMarker (take 1 last) in
      (λ k. first k ++ (second k ++ (third k ++ fourth k)))
      ∙ ap (λ x. events_of a ++ (events_of b ++ x)) (sym (map-append (λ (x : Mark). x.0) c d))
      ∙ ap (λ x. events_of a ++ x) (sym (map-append (λ (x : Mark). x.0) b (c ++ d)))
      ∙ sym (map-append (λ (x : Mark). x.0) a (b ++ (c ++ d)))

  pub footnote_is_marks : (f : Footnote) (p : Point) (ss : List Seat) → AreSeatsAt t bytes p ss → 1 ≤ f.label → indent (bytes_of ss) + f.label + 4 ≤ length ss → footnote_prefix_at t bytes f.label p (bytes_of ss) ≡ events_of (begun_marks bytes (footnote f) ss)
  footnote_is_marks f p ss h some w =
      let n = indent (bytes_of ss) in
      let l = f.label in
      let size : length (bytes_of ss) ≡ length ss = length-map ss (λ (s : Seat). s.byte) in
      let q = place_after t bytes p n in
      let behind = drop n ss in
      let label = take (l + 3) behind in
      let at : AreSeatsAt t bytes q behind = seats_drop p ss n h (omega (arith, w)) in
      let left : length behind ≡ length ss - n = length-drop n ss in
      let label_long : length label ≡ l + 3 = length-take-le (l + 3) behind (omega (arith, left, w)) in
      let colon = drop (l + 3) behind in
      let colon_at : place_after t bytes p (n + l + 3) ≡ place_after t bytes q (l + 3) = let e : n + l + 3 ≡ n + (l + 3) = omega arith in ap (place_after t bytes p) e ∙ sym (place_add t bytes p n (l + 3)) in
      let at_colon : AreSeatsAt t bytes (place_after t bytes q (l + 3)) colon = seats_drop q behind (l + 3) at (omega (arith, left, w)) in
      let colon_left : length colon ≡ length behind - (l + 3) = length-drop (l + 3) behind in
      let tail = drop (l + 4) behind in
      let tail_at : place_after t bytes p (n + l + 4) ≡ place_after t bytes q (l + 4) = let e : n + l + 4 ≡ n + (l + 4) = omega arith in ap (place_after t bytes p) e ∙ sym (place_add t bytes p n (l + 4)) in
      let at_tail : AreSeatsAt t bytes (place_after t bytes q (l + 4)) tail = seats_drop q behind (l + 4) at (omega (arith, left, w)) in
      let rest : length (bytes_of ss) - n - l - 4 ≡ length tail = omega (arith, length-drop (l + 4) behind, left, size) in
      let end : place_after t bytes p (length (bytes_of ss)) ≡ place_after t bytes q (length behind) =
      let e : length (bytes_of ss) ≡ n + length behind = omega (arith, left, size, w) in ap (place_after t bytes p) e ∙ sym (place_add t bytes p n (length behind)) in
      let before : span_at t bytes name.SpaceOrTab p n ≡ events_of (white bytes (take n ss)) = span_is_leaf name.SpaceOrTab p ss n h (omega (arith, w)) in
      let inner : footnote_label_at t bytes l q ≡ events_of (label_marks bytes l behind) = label_is_marks l q behind at some (omega (arith, left, w)) in
      let label_end : place_after t bytes p (n + l + 3) ≡ place_after t bytes q (length label) = colon_at ∙ ap (place_after t bytes q) (sym label_long) in
      let named : event_at Enter name.GfmFootnoteDefinitionLabel q ∷ (footnote_label_at t bytes l q ++ event_at Exit name.GfmFootnoteDefinitionLabel (place_after t bytes p (n + l + 3)) ∷ [])
      ≡ events_of (span_marks bytes name.GfmFootnoteDefinitionLabel label (label_marks bytes l behind)) =
      (λ k. event_at Enter name.GfmFootnoteDefinitionLabel q ∷ (inner k ++ event_at Exit name.GfmFootnoteDefinitionLabel (label_end k) ∷ []))
      ∙ span_is_full name.GfmFootnoteDefinitionLabel q label (label_marks bytes l behind) (seats_take q behind (l + 3) at) (omega (arith, label_long)) in
      let marker : span_at t bytes name.DefinitionMarker (place_after t bytes p (n + l + 3)) 1 ≡ events_of (leaf_marks bytes name.DefinitionMarker (take 1 colon)) =
      ap (λ x. span_at t bytes name.DefinitionMarker x 1) colon_at ∙ span_is_leaf name.DefinitionMarker (place_after t bytes q (l + 3)) colon 1 at_colon (omega (arith, colon_left, left, w)) in
      let after : span_at t bytes name.SpaceOrTab (place_after t bytes p (n + l + 4)) (length (bytes_of ss) - n - l - 4) ≡ events_of (white bytes tail) =
      (λ k. span_at t bytes name.SpaceOrTab (tail_at k) (rest k)) ∙ span_is_all name.SpaceOrTab (place_after t bytes q (l + 4)) tail at_tail in
      let a = span_marks bytes name.GfmFootnoteDefinitionLabel label (label_marks bytes l behind) in
      let b = leaf_marks bytes name.DefinitionMarker (take 1 colon) in
      let c = white bytes tail in
      let two : span_at t bytes name.DefinitionMarker (place_after t bytes p (n + l + 3)) 1 ++ span_at t bytes name.SpaceOrTab (place_after t bytes p (n + l + 4)) (length (bytes_of ss) - n - l - 4) ≡ events_of (b ++ c) =
      (λ k. marker k ++ after k) ∙ sym (map-append (λ (x : Mark). x.0) b c) in
      let three : (event_at Enter name.GfmFootnoteDefinitionLabel q ∷ (footnote_label_at t bytes l q ++ event_at Exit name.GfmFootnoteDefinitionLabel (place_after t bytes p (n + l + 3)) ∷ []))
      ++ (span_at t bytes name.DefinitionMarker (place_after t bytes p (n + l + 3)) 1 ++ span_at t bytes name.SpaceOrTab (place_after t bytes p (n + l + 4)) (length (bytes_of ss) - n - l - 4)) ≡ events_of (a ++ (b ++ c)) =
      (λ k. named k ++ two k) ∙ sym (map-append (λ (x : Mark). x.0) a (b ++ c)) in
      (λ k. before k ++ (event_at Enter name.GfmFootnoteDefinitionPrefix q ∷ (three k ++ event_at Exit name.GfmFootnoteDefinitionPrefix (end k) ∷ [])))
      ∙ ap (λ x. events_of (white bytes (take n ss)) ++ x) (span_is_full name.GfmFootnoteDefinitionPrefix q behind (a ++ (b ++ c)) at (omega (arith, left, w)))
      ∙ sym (map-append (λ (x : Mark). x.0) (white bytes (take n ss)) (span_marks bytes name.GfmFootnoteDefinitionPrefix behind (a ++ (b ++ c))))

  -- The prefix with which a container begins
  pub begun_is_marks : (list : ℕ) (c : CodeContainer) (p : Point) (ss : List Seat) (text : List ℕ) → AreSeatsAt t bytes p ss → text ≡ bytes_of ss → (c.kind ≡ kinds.Quote → indent text + 1 ≤ length text)
      → (c.kind ≡ kinds.Item → indent text + c.digits + 1 ≤ length text)
      → (c.kind ≡ kinds.Footnote → (1 ≤ c.label) × (indent text + c.label + 4 ≤ length text))
      → begun_prefix_places t bytes c p text ≡ events_of (begun_marks bytes (container_of list c) ss)
  begun_is_marks list c p ss text h e w v u = by c.kind refl
    where
      by : (k : ContainerKind) → c.kind ≡ k → begun_prefix_by t bytes k c p text ≡ events_of (begun_marks bytes (container_by k list c) ss)
      by kinds.Footnote q =
          let k = u q in
          let m : indent (bytes_of ss) + c.label + 4 ≤ length (bytes_of ss) = subst (λ (l : List ℕ). indent l + c.label + 4 ≤ length l) e k.1 in
          ap (footnote_prefix_at t bytes c.label p) e ∙ footnote_is_marks (footnote_of c) p ss h k.0 (omega (arith, m, length-map ss (λ (s : Seat). s.byte)))
      by kinds.Quote q =
          let m : indent (bytes_of ss) + 1 ≤ length (bytes_of ss) = subst (λ (l : List ℕ). indent l + 1 ≤ length l) e (w q) in
          ap (quote_prefix_at t bytes p) e ∙ quote_is_marks (quote_of c) p ss h (omega (arith, m, length-map ss (λ (s : Seat). s.byte)))
      by kinds.Item q =
          let m : indent (bytes_of ss) + c.digits + 1 ≤ length (bytes_of ss) = subst (λ (l : List ℕ). indent l + c.digits + 1 ≤ length l) e (v q) in
          ap (item_prefix_at t bytes c.digits p) e ∙ item_is_marks (item_of list c) p ss h (omega (arith, m, length-map ss (λ (s : Seat). s.byte)))
