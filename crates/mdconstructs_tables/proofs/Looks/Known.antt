-- What is known in looks is kept.
use Rattle.std.proofs.Common.{◌≡◌, List, [], ◌∷◌, Bool, Option, Some, None, length, refl, sym, subst}
use Rattle.std.specs.Prelude.{IfSome}
use Rattle.std.proofs.Math.Seq.{take-length}
use Rattle.markdown_base.specs.declared.event.Event.{Event}
use Rattle.markdown_base.specs.declared.state.State.{State}
use Rattle.markdown_tokenizer.specs.Configuration.{Configuration, Local, Choice, Saved}
use Rattle.markdown_tokenizer.specs.Reading.{restored}
use Rattle.mdconstructs_tables.specs.LookKnowledge.{IsCheckOver, AreLooks, knows_looks, ChecksAreLooks}

module _ {R D : Type 0} (looking : State → Bool) (known : State → List Event → Local R D → Type 0) where
  -- what a check that goes back leaves of the events: all
  kept : (saved : Option Saved) (k : Configuration R D) → IfSome saved (λ s. s.events ≡ length k.events) → (restored saved k).events ≡ k.events
  kept None k h = refl
  kept (Some saved) k h = rw h (take-length k.events)

  kept-local : (saved : Option Saved) (k : Configuration R D) → (restored saved k).local ≡ k.local
  kept-local None k = refl
  kept-local (Some saved) k = refl

  -- the choices that wait may know of other fields
  looks-on : (events : List Event) (old new : Local R D) → ((a : State) → known a events old → known a events new) → (cs : List Choice)
      → AreLooks looking known events old cs → AreLooks looking known events new cs
  looks-on events old new on [] h = tt
  looks-on events old new on (c ∷ []) h = (h.0, on c.ok h.1, on c.nok h.2)
  looks-on events old new on (c ∷ d ∷ cs) h = (h.0, h.1, h.2, looks-on events old new on (d ∷ cs) h.3)

  -- behind the innermost check is what it goes on with
  behind-ok : (events : List Event) (local : Local R D) (c : Choice) (cs : List Choice) → AreLooks looking known events local (c ∷ cs)
      → IsCheckOver events c × knows_looks looking known events local cs c.ok × knows_looks looking known events local cs c.nok
  behind-ok events local c [] h = h
  behind-ok events local c (d ∷ cs) h = (h.0, (h.1, h.3), (h.2, h.3))

  settled : (k : Configuration R D) (c : Choice) (cs : List Choice) (a : State) → IsCheckOver k.events c → knows_looks looking known k.events k.local cs a
      → let k' = restored c.saved k in knows_looks looking known k'.events k'.local cs a
  settled k c cs a is h =
      subst (λ es. knows_looks looking known es (restored c.saved k).local cs a) (sym (kept c.saved k is.saved))
      (subst (λ local. knows_looks looking known k.events local cs a) (sym (kept-local c.saved k)) h)

  pub checks-are-looks : ChecksAreLooks looking known
  checks-are-looks = record {
    begins = λ k ok nok state on first second. (on, (record { checks = refl; saved = refl }, first, second));
    begins_within = λ k ok nok state old c cs on first second h. (on, (record { checks = refl; saved = refl }, first, second, h.1));
    goes_on = λ events old new c cs state next on there h. (there, looks-on events old new on (c ∷ cs) h.1);
    by_ok = λ k c cs h.
        let (is, well, badly) = behind-ok k.events k.local c cs h.1 in
        let e = is.checks in
        rw e (settled k c cs c.ok is well);
    by_nok = λ k c cs h.
        let (is, well, badly) = behind-ok k.events k.local c cs h.1 in
        let e = is.checks in
        rw e (settled k c cs c.nok is badly);
  }
