-- How the machine of texts reads a backslash escape: if one is there, it is read whole, with its events; if not, the attempt leaves
-- nothing.
use Rattle.mdinline_text_machine.proofs.Prelude.{Name, Between, eqb-true, escapes, at-front, ◌≡◌, ℕ, ◌+◌, ◌∷◌, ◌++◌, [], List, Bool, true, false, cond, refl, sym, ap, subst, Some, None, drop, slice_get, ◌&&◌, ◌==◌, is_ascii_punctuation, drop-next, Event, CharacterEscape, CharacterEscapeMarker, CharacterEscapeValue, Enter, Exit, Retry, CharacterEscapeStart, CharacterEscapeInside, Seat, Nothing, Byte, Given, Text, Local, byte_of, point_or, end_or, counts, escape, escape_at, bytes_of, item_events, event, escape_start_rows, escape_inside_rows, append_assoc, take-append_seam, passes, arith, held}
use Rattle.mdinline_text_machine.proofs.Texts.Steps.{Plays, Leads, between_items, leads-seen, leads-ok, before_class}
use Rattle.mdinline_text_machine.proofs.Plain.Items.{ReadsIn, TriedIn, reads-of, refused}
use Rattle.mdinline_text_machine.proofs.Constructs.Listed.{outer}
use Rattle.mdinline_text_machine.proofs.Plain.Stretches.{shows, first_byte, goes-next}
use Rattle.mdinline_text_machine.proofs.Escapes.Calls.{after-two, escape_calls}
use Rattle.mdinline_text_machine.proofs.Escapes.Classes.{escaped-class, refused-class}
use Rattle.mdinline_text_machine.proofs.Texts.Reads.{ReadsPart}

module _ (g : Given) (text : Text) (m : Plays g text) (names : Between) (nok : Name) (p : ℕ) (ended : Bool) (events : List Event) (local : Local Unit Unit) (s : Seat) (is : s.byte ≡ 92) where
  -- the events of its marker, as they are made
  abbrev begun_escape : List Event
  begun_escape =
      ((events ++ event g.bytes Enter CharacterEscape (point_or text.end (slice_get text.seats p)) ∷ [])
      ++ event g.bytes Enter CharacterEscapeMarker (point_or text.end (slice_get text.seats p)) ∷ [])
      ++ event g.bytes Exit CharacterEscapeMarker (end_or text.end (slice_get text.seats p)) ∷ []

  -- its marker is read
  begins : (ss : List Seat) → drop p text.seats ≡ s ∷ ss
      → Leads g text m (between_items p Byte ended events local) (outer names.home nok p ended events ∷ []) (Retry CharacterEscapeStart) (shows ss (CharacterEscape ∷ []) (p + 1) begun_escape (counts local)) (outer names.home nok p ended events ∷ [])
      (Retry CharacterEscapeInside)
  begins ss here es h =
      let at = at-front text.seats p s ss here in
      leads-seen g text m escape_start_rows (between_items p Byte ended events local) (outer names.home nok p ended events ∷ []) CharacterEscapeStart es (ap byte_of at) refl (m.escape_start _)
      (goes-next g text m ss (CharacterEscape ∷ []) (p + 1) begun_escape (counts local) (outer names.home nok p ended events ∷ []) CharacterEscapeInside (drop-next text.seats p s ss here) es h)

  -- no byte behind it may be escaped: what was tried is put back
  refuses : (ss : List Seat) → drop p text.seats ≡ s ∷ ss → passes is_ascii_punctuation (first_byte ss) ≡ false → TriedIn g text m names 2 CharacterEscapeStart nok p ended events local (s ∷ ss) None
  refuses ss here none = (
    counts (counts local),
    after-two local,
    λ es h.
        begins ss here es
        (refused g text m names escape_inside_rows CharacterEscapeInside m.escape_inside nok p ended events ss (CharacterEscape ∷ []) (p + 1) begun_escape (counts local) (drop-next text.seats p s ss here)
        (refused-class (before_class g text (p + 1)) (first_byte ss) none) (simp (append_assoc, take-append_seam)) es h),
  )

  -- At a backslash, with the construct on, an escape is read, or what was tried leaves nothing
  pub tries-escape : (ss : List Seat) → drop p text.seats ≡ s ∷ ss → TriedIn g text m names 2 CharacterEscapeStart nok p ended events local (s ∷ ss) (escape_at (bytes_of (s ∷ ss)))
  tries-escape [] here = subst (λ b. TriedIn g text m names 2 CharacterEscapeStart nok p ended events local (s ∷ []) (cond (b && false) (Some escape) None)) (sym (ap (λ b. b == 92) is)) (refuses [] here refl)
  tries-escape (v ∷ vs) here =
      let next = at-front text.seats (p + 1) v vs (drop-next text.seats p s (v ∷ vs) here) in
      let value = slice_get text.seats (p + 1) in
      let made = ((begun_escape ++ event g.bytes Enter CharacterEscapeValue (point_or text.end value) ∷ [])
      ++ event g.bytes Exit CharacterEscapeValue (end_or text.end value) ∷ []) ++ event g.bytes Exit CharacterEscape (end_or text.end value) ∷ [] in
      let same : made ≡ events ++ item_events g.bytes (escape, s ∷ v ∷ []) = simp (at-front text.seats p s (v ∷ vs) here, next, append_assoc) in
      let further : p + 1 + 1 ≡ p + 2 = omega arith in
      let after = counts (counts local) in
      subst (λ b. TriedIn g text m names 2 CharacterEscapeStart nok p ended events local (s ∷ v ∷ vs) (cond (b && is_ascii_punctuation v.byte) (Some escape) None)) (sym (ap (λ b. b == 92) is))
      (elim (is_ascii_punctuation v.byte) as (λ b. is_ascii_punctuation v.byte ≡ b → TriedIn g text m names 2 CharacterEscapeStart nok p ended events local (s ∷ v ∷ vs) (cond b (Some escape) None)) [
        | true ↦ λ punctuation. (
          false,
          after,
          after-two local,
          λ es h.
              begins (v ∷ vs) here es
              (leads-seen g text m escape_inside_rows (held (CharacterEscape ∷ []) (p + 1) Byte false begun_escape (counts local)) (outer names.home nok p ended events ∷ []) CharacterEscapeInside es
              (ap byte_of next)
              (escaped-class (before_class g text (p + 1)) v.byte punctuation) (m.escape_inside _)
              (leads-ok g text m (between_items (p + 1 + 1) Nothing false made after) (outer names.home nok p ended events) [] es
              (rw (same, further) h))),
        )
        | false ↦ λ other. refuses (v ∷ vs) here other
      ] refl)

-- The theorem of backslash escapes, within so many calls
pub escapes-reads-in : (g : Given) (text : Text) (m : Plays g text) (names : Between) → ReadsIn g text m names escape_calls escapes
escapes-reads-in g text m names nok p ended events local s ss here first = tries-escape g text m names nok p ended events local s (eqb-true s.byte 92 first) ss here

pub escapes-read : (g : Given) (text : Text) (m : Plays g text) (names : Between) → ReadsPart g text m names escapes
escapes-read g text m names = reads-of g text m names escape_calls escapes (escapes-reads-in g text m names)
