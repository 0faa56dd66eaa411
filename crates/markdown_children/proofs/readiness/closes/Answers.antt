use Rattle.markdown_children.proofs.Prelude.{◌≡◌, ◌≤◌, List, [], ◌∷◌, Some, length, reverse, eqb, ne_eqb, refl, sym, ap, ◌∙◌, arith, length-reverse, drop_of_length-le, names_after_all, is_closed}
use Rattle.markdown_base.specs.declared.event.Name.{Name}
use Rattle.markdown_children.proofs.readiness.closes.Goals as goal

closed-length : (st : List Name) → is_closed (Some st) ≡ eqb (length st) 0
closed-length [] = refl
closed-length (n ∷ st) = sym (ne_eqb (length (n ∷ st)) 0 (λ e. omega arith))

-- after all events the list closes where no name is open
pub returns : goal.returns
returns c =
    let names = reverse c.loop-event.names.items in
    let past : length c.args.events.now ≤ c.loop-event.event-index = omega arith in
    c.is_empty.ensures ∙ ap (λ n. eqb n 0) (c.loop-event.names.ok.0 ∙ sym (length-reverse c.loop-event.names.items)) ∙ sym (closed-length names)
    ∙ ap is_closed (sym (ap (names_after_all (Some names)) (drop_of_length-le c.args.events.now past)) ∙ c.loop-event.invariant)
