-- A byte that waits can be a span of its own.
use Rattle.mdconstructs_tables.proofs.Prelude.{◌≡◌, ◌<◌, ◌≤◌, List, [], ◌∷◌, ◌++◌, true, Some, None, length, refl, sym, ap, ◌∙◌, subst, arith, length-append, All, IfSome, last_or, All-weaker, Event, Enter, open_events, stands_before, Nothing, Choice, TokenizerValue, at_configuration, sight_of, CanExit, consumed, entered, IsBelow, IsMarkable, IfSome_then, EventName}
use Rattle.mdconstructs_tables.proofs.GrowingTexts.{open-more, last-more, next-is-left}

-- choices that are below some spans saved no more of the stack than there is
pub stack-below : (base more stack : List EventName) (cs : List Choice) → stack ≡ base ++ more → All (IsBelow base) cs → All (IsBelow stack) cs
stack-below base more stack cs same h = All-weaker (IsBelow base) (IsBelow stack) (λ c k. IfSome_then c.saved k (λ s r. omega (arith, r, ap length same, length-append base more))) cs h

module _ {M R D : Type 0} (name : EventName) (t : TokenizerValue M R D) (can : IsMarkable t) where
  abbrev read : TokenizerValue M R D
  read = at_configuration t (consumed (entered name None (sight_of t).enter_place t.configuration))

  left : (sight_of read).exit_place ≡ (sight_of t).next
  left = let waits = can.waits in rw waits (sym (next-is-left t.given t.text t.configuration.position Nothing can.inside))

  pub can-mark : CanExit name read
  can-mark =
      let k = t.configuration in
      let x : Event = record { kind = Enter; name = name; point = (sight_of t).enter_place; link = None } in
      let opened : open_events (k.events ++ x ∷ []) ≡ open_events k.events ++ x ∷ [] = open-more [] k.events x in
      let is-last : (e : Event) → last_or None (open_events (k.events ++ x ∷ [])) ≡ Some e → x ≡ e = λ e is.
      let last : Some x ≡ Some e = sym (last-more None (open_events k.events) x) ∙ ap (last_or None) (sym opened) ∙ is in cc in
      record {
        top = last-more None k.stack name;
        read = λ e is. subst (λ e. stands_before e.point (sight_of read).exit_place ≡ true) (is-last e is) (subst (λ q. stands_before (sight_of t).enter_place q ≡ true) (sym left) can.in_order);
        void = λ v. (x, last-more None k.events x, refl);
        above = All-weaker (λ c. IfSome c.saved (λ s. length s.stack ≤ length k.stack)) (λ c. IfSome c.saved (λ s. length s.stack < length (k.stack ++ name ∷ []))) (λ c h. IfSome_then c.saved h (λ s r. omega (arith, r, length-append k.stack (name ∷ [])))) t.choices can.below;
      }
