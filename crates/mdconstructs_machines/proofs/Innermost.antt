-- Events that account for virtual bytes, with more events in front.
use Rattle.mdconstructs_machines.proofs.Prelude.{◌≡◌, ℕ, ◌∷◌, ◌++◌, [], List, refl, ap, Event, Enter, Exit, shown, Seat, end_after, span_over, AccountFor, leaf, EventName}

module _ (bytes : List ℕ) where
  -- an exit that ends a span around others
  pub exit-more : (e : Event) (events : List Event) (seats : List Seat) → e.kind ≡ Exit → AccountFor events bytes seats → AccountFor (e ∷ events) bytes seats
  exit-more e events seats exits h = record {
    stretches = h.stretches;
    are_all = h.are_all;
    are_innermost = rw exits h.are_innermost;
  }

  -- an enter that begins a span around others
  pub enter-more : (e f : Event) (events : List Event) (seats : List Seat) → e.kind ≡ Enter → f.kind ≡ Enter → AccountFor (f ∷ events) bytes seats → AccountFor (e ∷ f ∷ events) bytes seats
  enter-more e f events seats enters inner h = record {
    stretches = h.stretches;
    are_all = h.are_all;
    are_innermost = rw (enters, inner) (rw inner at h.are_innermost);
  }

  -- a span over virtual bytes that holds no other
  pub span-more : (e f : Event) (events : List Event) (s : Seat) (ss seats : List Seat) → e.kind ≡ Enter → f.kind ≡ Exit → e.point ≡ shown bytes s.point → f.point ≡ shown bytes (end_after s.end ss)
      → AccountFor events bytes seats → AccountFor (e ∷ f ∷ events) bytes ((s ∷ ss) ++ seats)
  span-more e f events s ss seats enters exits from to h = record {
    stretches = (s, ss) ∷ h.stretches;
    are_all = ap (λ l. s ∷ (ss ++ l)) h.are_all;
    are_innermost = rw (enters, exits, from, to) (ap (λ l. span_over bytes (s, ss) ∷ l) h.are_innermost);
  }

  -- one of a name, if there are virtual bytes
  pub leaf-more : (name : EventName) (l : List Seat) (events : List Event) (seats : List Seat) → AccountFor events bytes seats → AccountFor (leaf bytes name l ++ events) bytes (l ++ seats)
  leaf-more name [] events seats h = h
  leaf-more name (s ∷ ss) events seats h = span-more _ _ events s ss seats refl refl refl refl h
