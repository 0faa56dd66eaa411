-- How a machine reads a hard break by a backslash: if a line ending follows it is read, with its event; if not, the attempt leaves nothing.
use Rattle.mdinline_constructs.proofs.Prelude.{◌≡◌, ℕ, ◌+◌, ◌==◌, ◌&&◌, List, [], ◌∷◌, ◌++◌, Bool, true, false, cond, Option, Some, None, refl, sym, ap, ◌∙◌, subst, arith, append_assoc, length, drop, eqb-true, take_at, slice_get, drop-next, Event, Enter, Exit, HardBreakEscape, Name, Nok, Retry, HardBreakEscapeAfter, HardBreakEscapeStart, Seat, Byte, Configuration, Local, Step, Sight, byte_of, end_place, point_or, Given, Text, at-front, counts, class_of, row, outer, after-two, ReadsIn, TriedIn, refused, first_byte, goes-next, leaf-read, shows, HasRows, Leads, Plays, before_class, between_items, leads-ok, leads-seen, is_line_feed, passes, Between, by-class, bytes_of, event, TextByte, text_byte, item_events, break_escape_at, hard_break_escape, break_escape_after_rows, break_escape_start_rows, break_escapes}
use Rattle.mdinline_text_machine.proofs.Plain.Stretches.{sees}
use Rattle.mdinline_constructs.proofs.HardBreaks.Calls.{break_escape_calls}

-- A machine that reads hard breaks by a backslash: at the names of their states it does what their rows say
pub record PlaysBreakEscapes (g : Given) (text : Text) (step : Sight → Configuration Unit Unit → Name → Step Unit Unit) : Type 0 where
  pub start : HasRows g text step HardBreakEscapeStart break_escape_start_rows
  pub after : HasRows g text step HardBreakEscapeAfter break_escape_after_rows

-- no byte but a line feed may follow, nor the end
no-break : (before : Option TextByte) (o : Option ℕ) → passes is_line_feed o ≡ false → break_escape_after_rows {R = Unit} {D = Unit} before (class_of text_byte o) ≡ row [] Nok
no-break before None h = refl
no-break before (Some b) h =
    by-class (λ w. break_escape_after_rows {R = Unit} {D = Unit} before (Some w) ≡ row [] Nok) b
    (λ e. absurd (cc)) (λ e. refl) (λ e. refl) (λ e. refl) (λ e. refl) (λ e. refl)
    (λ e. refl) (λ e f. refl) (λ e. refl) (λ e. refl) (λ e. refl) (λ o e. refl) (λ o e. refl) (λ o n e. refl)

module _ (g : Given) (text : Text) (m : Plays g text) (w : PlaysBreakEscapes g text m.step) (names : Between) (nok : Name) (p : ℕ) (ended : Bool) (events : List Event) (local : Local Unit Unit) (s : Seat) (is : s.byte ≡ 92) where
  -- the backslash is read
  abbrev begun : List Event
  begun = events ++ event g.bytes Enter HardBreakEscape (point_or text.end (slice_get text.seats p)) ∷ []

  begins : (ss : List Seat) → drop p text.seats ≡ s ∷ ss
      → Leads g text m (between_items p Byte ended events local) (outer names.home nok p ended events ∷ []) (Retry HardBreakEscapeStart) (shows ss (HardBreakEscape ∷ []) (p + 1) begun (counts local)) (outer names.home nok p ended events ∷ [])
      (Retry HardBreakEscapeAfter)
  begins ss here es h =
      leads-seen g text m break_escape_start_rows (between_items p Byte ended events local) (outer names.home nok p ended events ∷ []) HardBreakEscapeStart es (ap byte_of (at-front text.seats p s ss here)) refl (w.start _)
      (goes-next g text m ss (HardBreakEscape ∷ []) (p + 1) begun (counts local) (outer names.home nok p ended events ∷ []) HardBreakEscapeAfter (drop-next text.seats p s ss here) es h)

  -- nothing is left of it if no line ending follows
  refuses : (ss : List Seat) → drop p text.seats ≡ s ∷ ss → passes is_line_feed (first_byte ss) ≡ false → TriedIn g text m names 2 HardBreakEscapeStart nok p ended events local (s ∷ ss) None
  refuses ss here none = (
    counts (counts local),
    after-two local,
    λ es h.
        begins ss here es
        (refused g text m names break_escape_after_rows HardBreakEscapeAfter w.after nok p ended events ss (HardBreakEscape ∷ []) (p + 1) begun (counts local) (drop-next text.seats p s ss here)
        (no-break (before_class g text (p + 1)) (first_byte ss) none) (take_at events _ (length events) refl) es h),
  )

  -- At a backslash a hard break is read, or what was tried leaves nothing
  tries-break : (ss : List Seat) → drop p text.seats ≡ s ∷ ss → TriedIn g text m names 2 HardBreakEscapeStart nok p ended events local (s ∷ ss) (break_escape_at (bytes_of (s ∷ ss)))
  tries-break [] here = subst (λ b. TriedIn g text m names 2 HardBreakEscapeStart nok p ended events local (s ∷ []) (cond (b && false) (Some hard_break_escape) None)) (sym (ap (λ b. b == 92) is)) (refuses [] here refl)
  tries-break (v ∷ vs) here =
      let next = drop-next text.seats p s (v ∷ vs) here in
      let made : begun ++ event g.bytes Exit HardBreakEscape (end_place text (p + 1)) ∷ [] ≡ events ++ item_events g.bytes (hard_break_escape, s ∷ []) =
      append_assoc events _ _ ∙ ap (λ es. events ++ es) (leaf-read text g.bytes HardBreakEscape 1 p s (v ∷ vs) here (omega arith) (omega arith)) in
      let after = counts (counts local) in
      subst (λ b. TriedIn g text m names 2 HardBreakEscapeStart nok p ended events local (s ∷ v ∷ vs) (cond (b && is_line_feed v.byte) (Some hard_break_escape) None)) (sym (ap (λ b. b == 92) is))
      (elim (is_line_feed v.byte) as (λ b. is_line_feed v.byte ≡ b → TriedIn g text m names 2 HardBreakEscapeStart nok p ended events local (s ∷ v ∷ vs) (cond b (Some hard_break_escape) None)) [
        | true ↦ λ line. (
          false,
          after,
          after-two local,
          λ es h.
              let ten : v.byte ≡ 10 = eqb-true v.byte 10 line in
              begins (v ∷ vs) here es
              (leads-seen g text m break_escape_after_rows (shows (v ∷ vs) (HardBreakEscape ∷ []) (p + 1) begun (counts local)) (outer names.home nok p ended events ∷ []) HardBreakEscapeAfter es
              (sees g text m (v ∷ vs) (p + 1) next ∙ ap Some ten) refl (w.after _)
              (leads-ok g text m (shows (v ∷ vs) [] (p + 1) (begun ++ event g.bytes Exit HardBreakEscape (end_place text (p + 1)) ∷ []) after) (outer names.home nok p ended events) [] es (rw made h))),
        )
        | false ↦ λ other. refuses (v ∷ vs) here other
      ] refl)

-- The theorem of hard breaks by a backslash, within so many calls
pub break-escapes-read-in : (g : Given) (text : Text) (m : Plays g text) → PlaysBreakEscapes g text m.step → (names : Between) → ReadsIn g text m names break_escape_calls break_escapes
break-escapes-read-in g text m w names nok p ended events local s ss here first = tries-break g text m w names nok p ended events local s (eqb-true s.byte 92 first) ss here
