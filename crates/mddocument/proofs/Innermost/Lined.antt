-- Events that account for virtual bytes, each innermost span of them within one line of these.
use Rattle.mddocument.proofs.Prelude.{◌≡◌, ℕ, zero, suc, List, [], ◌∷◌, ◌++◌, inl, inr, take, drop, map, refl, sym, ap, ◌∙◌, subst, AllByRecursion, every-append, Event, Enter, Exit, flat_map-append, map-append, shown, Seat, end_after, AccountFor, span_over, stretch_bytes, IsWhole, Atom, InOneLine, IsCut, OneLine, seats_of}
use Rattle.mddocument.proofs.Emphasis.Pairs.{HaveAtoms, Shut, all-stretches, atom-places, pairs-of-atoms, places_of, spans-behind, spans-of-pairs, stretch_of}

-- a stretch has no line ending but at its end
abbrev pub InLine : (Seat × List Seat) → Type 0
InLine stretch = OneLine (stretch_bytes stretch)

pub record LinedFor (es : List Event) (bytes : List ℕ) (seats : List Seat) : Type 0 where
  pub account : AccountFor es bytes seats
  pub lines : AllByRecursion InLine account.stretches

-- ---- virtual bytes in one line
pub whole-one : (l : List Seat) → IsWhole l → OneLine l
whole-one [] w = tt
whole-one (s ∷ []) w = tt
whole-one (s ∷ r ∷ rs) (inl on) = (on.0, whole-one (r ∷ rs) on.1)
whole-one (s ∷ r ∷ rs) (inr end) = absurd (let none : r ∷ rs ≡ [] = end.1 in cc)

one-back : (s : Seat) (ss : List Seat) → OneLine (s ∷ ss) → OneLine ss
one-back s [] h = tt
one-back s (r ∷ rs) h = h.1

pub one-drop : (n : ℕ) (l : List Seat) → OneLine l → OneLine (drop n l)
one-drop zero l h = h
one-drop (suc n) [] h = tt
one-drop (suc n) (s ∷ ss) h = one-drop n ss (one-back s ss h)

pub one-take : (n : ℕ) (l : List Seat) → OneLine l → OneLine (take n l)
one-take zero l h = tt
one-take (suc n) [] h = tt
one-take (suc zero) (s ∷ ss) h = tt
one-take (suc (suc n)) (s ∷ []) h = tt
one-take (suc (suc n)) (s ∷ r ∷ rs) h = (h.0, one-take (suc n) (r ∷ rs) h.1)

-- ---- events in front
module _ (bytes : List ℕ) where
  pub lined-none : LinedFor [] bytes []
  lined-none = record { account = record { stretches = []; are_all = refl; are_innermost = refl }; lines = tt }

  pub lined-exit : (e : Event) (events : List Event) (seats : List Seat) → e.kind ≡ Exit → LinedFor events bytes seats → LinedFor (e ∷ events) bytes seats
  lined-exit e events seats exits h = record { account = record { stretches = h.account.stretches; are_all = h.account.are_all; are_innermost = rw exits h.account.are_innermost }; lines = h.lines }

  pub lined-enter : (e f : Event) (events : List Event) (seats : List Seat) → e.kind ≡ Enter → f.kind ≡ Enter → LinedFor (f ∷ events) bytes seats → LinedFor (e ∷ f ∷ events) bytes seats
  lined-enter e f events seats enters inner h = let is = h.account.are_innermost in record {
    account = record { stretches = h.account.stretches; are_all = h.account.are_all; are_innermost = rw (enters, inner) (rw inner at is) };
    lines = h.lines;
  }

  pub lined-span : (e f : Event) (events : List Event) (s : Seat) (ss seats : List Seat) → OneLine (s ∷ ss) → e.kind ≡ Enter → f.kind ≡ Exit → e.point ≡ shown bytes s.point → f.point ≡ shown bytes (end_after s.end ss)
      → LinedFor events bytes seats → LinedFor (e ∷ f ∷ events) bytes ((s ∷ ss) ++ seats)
  lined-span e f events s ss seats one enters exits from to h = record {
    account = record {
      stretches = (s, ss) ∷ h.account.stretches;
      are_all = ap (λ l. s ∷ (ss ++ l)) h.account.are_all;
      are_innermost = rw (enters, exits, from, to) (ap (λ l. span_over bytes (s, ss) ∷ l) h.account.are_innermost);
    };
    lines = (one, h.lines);
  }

  pub lined-shut : (xs ys : List Event) (seats more : List Seat) → Shut xs → LinedFor xs bytes seats → LinedFor ys bytes more → LinedFor (xs ++ ys) bytes (seats ++ more)
  lined-shut xs ys seats more shut h k = record {
    account = record {
      stretches = h.account.stretches ++ k.account.stretches;
      are_all = flat_map-append stretch_bytes h.account.stretches k.account.stretches ∙ (λ i. h.account.are_all i ++ k.account.are_all i);
      are_innermost = spans-behind xs ys shut ∙ (λ i. h.account.are_innermost i ++ k.account.are_innermost i) ∙ sym (map-append (span_over bytes) h.account.stretches k.account.stretches);
    };
    lines = every-append InLine h.account.stretches k.account.stretches h.lines k.lines;
  }

  lined-stretches : (atoms : List Atom) → AllByRecursion InOneLine atoms → AllByRecursion InLine (map (stretch_of bytes) atoms)
  lined-stretches [] h = tt
  lined-stretches (a ∷ atoms) h = (h.0, lined-stretches atoms h.1)

  pub lined-atoms : (es : List Event) (atoms : List Atom) → HaveAtoms bytes es atoms → AllByRecursion InOneLine atoms → LinedFor es bytes (seats_of atoms)
  lined-atoms es atoms have lines = record {
    account = record { stretches = map (stretch_of bytes) atoms; are_all = all-stretches bytes atoms; are_innermost = spans-of-pairs es ∙ ap (map places_of) have ∙ atom-places bytes atoms };
    lines = lined-stretches atoms lines;
  }

  pub lined-cut : (es : List Event) (seats : List Seat) → IsCut bytes es seats → LinedFor es bytes seats
  lined-cut es seats cut =
      subst (LinedFor es bytes) (sym cut.all)
      (lined-atoms es cut.atoms (subst (λ l. HaveAtoms bytes l cut.atoms) (sym cut.are) (pairs-of-atoms bytes cut.atoms)) cut.lines)
