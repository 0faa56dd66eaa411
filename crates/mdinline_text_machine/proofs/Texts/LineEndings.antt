-- Line endings, as the machine of texts reads them between items.
use Rattle.mdinline_text_machine.proofs.Prelude.{at-front, ◌≡◌, ℕ, ◌+◌, ◌∷◌, [], List, Bool, false, sym, ap, subst, Some, drop, Event, Next, Retry, Between, Seat, Nothing, Byte, Given, Text, Local, byte_of, counts, line_ending, part, line-ending-read, row, enter, exit, consume, LineEnding, ◌∙◌}
use Rattle.mdinline_text_machine.proofs.Texts.Steps.{Plays, PlaysData, EndsWith, between_items, leads-row}
use Rattle.mdinline_text_machine.proofs.Plain.Items.{AddsItemIn, adds-of}
use Rattle.mdinline_text_machine.proofs.Texts.Counted.{after-call}
use Rattle.mdinline_text_machine.proofs.Texts.Reads.{AddsItem}

module _ (g : Given) (text : Text) (m : Plays g text) (names : Between) (d : PlaysData g text m names) where
  -- a line ending is read, with its events, in one call
  pub reads-line-in : (p : ℕ) (ended : Bool) (events : List Event) (local : Local Unit Unit) (s : Seat) (ss : List Seat) → drop p text.seats ≡ s ∷ ss → s.byte ≡ 10
      → AddsItemIn g text m names 1 (between_items p Byte ended events local) (Retry names.home) p events (s ∷ ss) (part line_ending)
  reads-line-in p ended events local s ss here is =
      let at = at-front text.seats p s ss here in (
        false,
        counts local,
        after-call local,
        λ es h.
            leads-row g text m (row (enter LineEnding ∷ consume ∷ exit LineEnding ∷ []) (Next names.home)) (between_items p Byte ended events local) [] names.home es (d.line_ends (between_items p Byte ended events local) (ap byte_of at ∙ ap Some is))
            (subst (λ l. EndsWith g text m (between_items (p + 1) Nothing false l (counts local)) [] (Next names.home) es) (sym (line-ending-read g text events p s at)) h),
      )

  pub reads-line : (p : ℕ) (ended : Bool) (events : List Event) (local : Local Unit Unit) (s : Seat) (ss : List Seat) → drop p text.seats ≡ s ∷ ss → s.byte ≡ 10
      → AddsItem g text m names (between_items p Byte ended events local) (Retry names.home) p events (s ∷ ss) (part line_ending)
  reads-line p ended events local s ss here is =
      adds-of g text m names 1 (between_items p Byte ended events local) (Retry names.home) p events (s ∷ ss) (part line_ending) (reads-line-in p ended events local s ss here is)
