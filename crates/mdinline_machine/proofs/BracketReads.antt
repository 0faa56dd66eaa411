-- How the machine of inline text reads brackets, and ends of labels that make nothing, between items; and in how many calls.
use Rattle.markdown_base.specs.declared.event.Name.TheVariants.{LabelImage, LabelImageMarker, LabelLink, LabelMarker}
use Rattle.markdown_base.specs.declared.state.TheConstants.Name.{LabelEndNok, LabelStartImageOpen, LabelStartImageStart, LabelStartLinkStart}
use Rattle.markdown_tokenizer.specs.declared.tokenizer.state.LabelKind.TheVariants.{Image, Link}
use Rattle.markdown_tokenizer.specs.declared.tokenizer.state.LabelStart.{LabelStart}
use Rattle.mdinline_text_machine.proofs.Texts.Leads.{goes-next as goes-fed}
use Rattle.mdinline_text_machine.proofs.Texts.Steps.{leads-nok, leads-ok}
use Rattle.mdinline_machine.proofs.Prelude.{◌≡◌, ℕ, ◌+◌, ◌≤◌, List, [], ◌∷◌, ◌++◌, Bool, true, false, refl, sym, ap, ◌∙◌, subst, arith, length, take, drop, append_assoc, slice_get, Event, Enter, Exit, EventName, Next, Nok, Retry, TextBefore, TextBeforeData, Seat, drop-next, Byte, Nothing, Choice, Local, byte_of, Given, Text, row, write, enter, exit, consume, choose, Attempt, counts, row_step, class_of, text_byte, at-front, passes, event, Found, item_length, item_events, outer, shows, first_byte, goes-next, sees, Remembered, remembered, spent, Plays, EndsWith, Leads, between_items, leads-row, leads-tested, reverse, begins_end, begins_image, begins_link, image_bracket, is_open_bracket, link_bracket, lone_end}
use Rattle.mdinline_text_machine.proofs.Texts.Steps.{before_class}
use Rattle.std.proofs.Math.Seq.{take-append_seam}
use Rattle.markdown_tokenizer.specs.Sight.{end_or, point_or}
use Rattle.mdinline_machine.specs.BracketRows.{bracket_is_next, image_open_rows, may_make, one_waits, started, waits_less, waits_more, without_last}
use Rattle.mdinline_machine.proofs.Playing.{ends-alone, images-begin, inlines_play, links-begin}

-- what is remembered but the brackets that wait
abbrev pub unstarted : Remembered → Remembered
unstarted r = record r { starts = [] }

-- After at most so many calls these brackets wait, and all else that is remembered is as it was
pub record Waits (n : ℕ) (starts : List LabelStart) (local after : Local Unit Unit) : Type 0 where
  pub calls : spent after ≤ spent local + n
  pub same : unstarted (remembered after) ≡ unstarted (remembered local)
  pub starts_are : (remembered after).starts ≡ starts

-- what states share, with these brackets
abbrev pub with_starts : List LabelStart → Local Unit Unit → Local Unit Unit
with_starts starts local = record local { tokenize_state = record local.tokenize_state { label_starts = starts } }

abbrev pub kept : Local Unit Unit → List LabelStart
kept local = local.tokenize_state.label_starts

module _ (defined : List ℕ → Bool) (g : Given) (text : Text) where
  abbrev m : Plays g text
  m = inlines_play defined g text

  -- From between items an item is read, with its events; then these brackets wait
  abbrev pub AddsBracket : (n : ℕ) (starts : List LabelStart) (p : ℕ) (ended : Bool) (events : List Event) (local : Local Unit Unit) → List Seat → Found → Type 0
  AddsBracket n starts p ended events local seats item =
      (ended_after : Bool) × (after : Local Unit Unit) × Waits n starts local after
      × Leads g text m (between_items p Byte ended events local) [] (Retry TextBefore) (between_items (p + item_length item) Nothing ended_after (events ++ item_events g.bytes (item, take (item_length item) seats)) after) [] (Next TextBefore)

  -- the place of a byte that waits, and where it ends
  abbrev pub enters : EventName → ℕ → Event
  enters name p = event g.bytes Enter name (point_or text.end (slice_get text.seats p))

  abbrev pub exits : EventName → ℕ → Event
  exits name p = event g.bytes Exit name (end_or text.end (slice_get text.seats p))

  module _ (p : ℕ) (ended : Bool) (events : List Event) (local : Local Unit Unit) (s : Seat) (ss : List Seat) (here : drop p text.seats ≡ s ∷ ss) where
    -- `[`
    pub reads-link : begins_link g.options.constructs s.byte ≡ true → AddsBracket 2 (kept local ++ started Link (length (events ++ item_events g.bytes (link_bracket, s ∷ []))) ∷ []) p ended events local (s ∷ ss) link_bracket
    reads-link is =
        let at = at-front text.seats p s ss here in
        let k = between_items p Byte ended events local in
        let put : List Event → Local Unit Unit = λ l. with_starts (kept local ++ started Link (length l) ∷ []) (counts (counts local)) in
        let after = put (events ++ item_events g.bytes (link_bracket, s ∷ [])) in
        let made = (((events ++ enters LabelLink p ∷ []) ++ enters LabelMarker p ∷ []) ++ exits LabelMarker p ∷ []) ++ exits LabelLink p ∷ [] in
        let same : made ≡ events ++ item_events g.bytes (link_bracket, s ∷ []) = simp (at, append_assoc) in (
          false,
          after,
          record { calls = omega arith; same = refl; starts_are = refl },
          λ es h.
              leads-row g text m (row [] (Retry LabelStartLinkStart)) k [] TextBefore es (links-begin defined g text k s.byte (ap byte_of at) is)
              (leads-row g text m (row (enter LabelLink ∷ enter LabelMarker ∷ consume ∷ exit LabelMarker ∷ exit LabelLink ∷ write (waits_more Link) ∷ []) (Next TextBefore)) (between_items p Byte ended events (counts local)) [] LabelStartLinkStart es refl
              (subst (λ l. EndsWith g text m (between_items (p + 1) Nothing false l (put l)) [] (Next TextBefore) es) (sym same) h)),
        )

    -- ---- `!`
    abbrev begun_image : List Event
    begun_image = ((events ++ enters LabelImage p ∷ []) ++ enters LabelImageMarker p ∷ []) ++ exits LabelImageMarker p ∷ []

    abbrev image_tried : List Choice
    image_tried = outer TextBefore TextBeforeData p ended events ∷ []

    image-begins : begins_image g.options.constructs s.byte ≡ true
        → Leads g text m (between_items p Byte ended events local) [] (Retry TextBefore) (shows ss (LabelImage ∷ []) (p + 1) begun_image (counts (counts local))) image_tried (Retry LabelStartImageOpen)
    image-begins is es h =
        let at = at-front text.seats p s ss here in
        let k = between_items p Byte ended events local in
        leads-row g text m (row (choose Attempt (Next TextBefore) (Next TextBeforeData) ∷ []) (Retry LabelStartImageStart)) k [] TextBefore es (images-begin defined g text k s.byte (ap byte_of at) is)
        (leads-row g text m (row (enter LabelImage ∷ enter LabelImageMarker ∷ consume ∷ exit LabelImageMarker ∷ []) (Next LabelStartImageOpen)) (between_items p Byte ended events (counts local)) image_tried LabelStartImageStart es refl
        (goes-next g text m ss (LabelImage ∷ []) (p + 1) begun_image (counts (counts local)) image_tried LabelStartImageOpen (drop-next text.seats p s ss here) es h))

    -- without it data is read from the byte on
    pub fails-image : begins_image g.options.constructs s.byte ≡ true → passes is_open_bracket (first_byte ss) ≡ false
        → Leads g text m (between_items p Byte ended events local) [] (Retry TextBefore) (between_items p Byte ended events (counts (counts (counts local)))) [] (Retry TextBeforeData)
    fails-image is none es h =
        let behind = sees g text m ss (p + 1) (drop-next text.seats p s ss here) in
        let k = shows ss (LabelImage ∷ []) (p + 1) begun_image (counts (counts local)) in
        let after = counts (counts (counts local)) in
        let put_back = leads-nok g text m (shows ss (LabelImage ∷ []) (p + 1) begun_image after) (outer TextBefore TextBeforeData p ended events) [] es
        (subst (λ l. EndsWith g text m (between_items p Nothing ended l after) [] (Next TextBeforeData) es) (let same : events ≡ take (length events) begun_image = simp (append_assoc, take-append_seam) in same)
        (goes-fed g text m.step (s ∷ ss) [] p ended events after [] TextBeforeData here es h)) in
        image-begins is es
        (elim ss as (λ l. drop (p + 1) text.seats ≡ l → passes is_open_bracket (first_byte l) ≡ false → EndsWith g text m (shows l (LabelImage ∷ []) (p + 1) begun_image after) image_tried Nok es → EndsWith g text m (shows l (LabelImage ∷ []) (p + 1) begun_image (counts (counts local))) image_tried (Retry LabelStartImageOpen) es) [
          | [] ↦ λ at none h.
              leads-row g text m (row [] Nok) (shows [] (LabelImage ∷ []) (p + 1) begun_image (counts (counts local))) image_tried LabelStartImageOpen es
              (ap (λ o. row_step g text (shows [] (LabelImage ∷ []) (p + 1) begun_image (counts (counts local))) (image_open_rows (before_class g text (p + 1)) (class_of text_byte o))) (sees g text m [] (p + 1) at)) h
          | v ∷ vs ↦ λ at none h.
              leads-tested g text m bracket_is_next image_open_rows (shows (v ∷ vs) (LabelImage ∷ []) (p + 1) begun_image (counts (counts local))) image_tried LabelStartImageOpen es (sees g text m (v ∷ vs) (p + 1) at) refl
              (ap (passes is_open_bracket) (sees g text m (v ∷ vs) (p + 1) at) ∙ none) refl h
        ] (drop-next text.seats p s ss here) none put_back)

    -- ---- `]`
    -- alone
    pub lone-from : (after : Local Unit Unit)
        → Leads g text m (between_items p Byte ended events after) [] (Retry LabelEndNok) (between_items (p + 1) Nothing false (events ++ item_events g.bytes (lone_end, s ∷ [])) (with_starts (without_last false (kept after)) (counts after))) [] (Next TextBefore)
    lone-from after es h =
        let at = at-front text.seats p s ss here in
        let made = (events ++ enters LabelMarker p ∷ []) ++ exits LabelMarker p ∷ [] in
        let same : made ≡ events ++ item_events g.bytes (lone_end, s ∷ []) = simp (at, append_assoc) in
        leads-row g text m (row (enter LabelMarker ∷ consume ∷ exit LabelMarker ∷ write (waits_less false) ∷ []) (Next TextBefore)) (between_items p Byte ended events after) [] LabelEndNok es refl
        (subst (λ l. EndsWith g text m (between_items (p + 1) Nothing false l (with_starts (without_last false (kept after)) (counts after))) [] (Next TextBefore) es) (sym same) h)

    pub reads-lone : begins_end g.options.constructs s.byte ≡ true → may_make (reverse (kept local)) ≡ false → one_waits (reverse (kept local)) ≡ true → AddsBracket 2 (without_last false (kept local)) p ended events local (s ∷ ss) lone_end
    reads-lone is may waits =
        let at = at-front text.seats p s ss here in
        let k = between_items p Byte ended events local in (
          false,
          with_starts (without_last false (kept local)) (counts (counts local)),
          record { calls = omega arith; same = refl; starts_are = refl },
          λ es h. leads-row g text m (row [] (Retry LabelEndNok)) k [] TextBefore es (ends-alone defined g text k s.byte (ap byte_of at) is may waits) (lone-from (counts local) es h),
        )

  -- `![`
  pub reads-image : (p : ℕ) (ended : Bool) (events : List Event) (local : Local Unit Unit) (s v : Seat) (vs : List Seat) → (here : drop p text.seats ≡ s ∷ v ∷ vs) → begins_image g.options.constructs s.byte ≡ true → is_open_bracket v.byte ≡ true
      → AddsBracket 3 (kept local ++ started Image (length (events ++ item_events g.bytes (image_bracket, s ∷ v ∷ []))) ∷ []) p ended events local (s ∷ v ∷ vs) image_bracket
  reads-image p ended events local s v vs here is opens =
      let at = at-front text.seats p s (v ∷ vs) here in
      let behind = at-front text.seats (p + 1) v vs (drop-next text.seats p s (v ∷ vs) here) in
      let begun = begun_image p ended events local s (v ∷ vs) here in
      let k = shows (v ∷ vs) (LabelImage ∷ []) (p + 1) begun (counts (counts local)) in
      let put : List Event → Local Unit Unit = λ l. with_starts (kept local ++ started Image (length l) ∷ []) (counts (counts (counts local))) in
      let after = put (events ++ item_events g.bytes (image_bracket, s ∷ v ∷ [])) in
      let made = ((begun ++ enters LabelMarker (p + 1) ∷ []) ++ exits LabelMarker (p + 1) ∷ []) ++ exits LabelImage (p + 1) ∷ [] in
      let same : made ≡ events ++ item_events g.bytes (image_bracket, s ∷ v ∷ []) = simp (at, behind, append_assoc) in
      let further : p + 1 + 1 ≡ p + 2 = omega arith in (
        false,
        after,
        record { calls = omega arith; same = refl; starts_are = refl },
        λ es h.
            image-begins p ended events local s (v ∷ vs) here is es
            (leads-tested g text m bracket_is_next image_open_rows k (outer TextBefore TextBeforeData p ended events ∷ []) LabelStartImageOpen es (ap byte_of behind) refl (ap (passes is_open_bracket) (ap byte_of behind) ∙ opens) refl
            (leads-ok g text m (between_items (p + 1 + 1) Nothing false made (put made)) (outer TextBefore TextBeforeData p ended events) [] es
            (subst (λ q. EndsWith g text m (between_items q Nothing false made (put made)) [] (Next TextBefore) es) (sym further)
            (subst (λ l. EndsWith g text m (between_items (p + 2) Nothing false l (put l)) [] (Next TextBefore) es) (sym same) h)))),
      )
