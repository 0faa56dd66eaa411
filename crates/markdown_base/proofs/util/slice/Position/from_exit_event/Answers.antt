use Rattle.markdown_base.proofs.Prelude.{◌≡◌, ◌∙◌, ap, sym, take, get_or, rules, tests, Bor, option_map, false≢true, find_from_yields_List, YieldsList-from_rev_slice, Event, is_enter_of, nearest_enter}
use Rattle.markdown_base.proofs.SliceLemmas.{filler, exit_at}
use Rattle.markdown_base.proofs.util.slice.Position.from_exit_event.Goals as goal
use Rattle.markdown_base.proofs.util.slice.Position.from_exit_event.Goals.{After-find}

-- what the search returns
found : (c : After-find) → option_map (λ y. y.now) c.find.result ≡ nearest_enter c.args.events.now c.args.index
found c =
    let exit = get_or c.args.events.now c.args.index filler in
    let rest = ap (λ i. i.rest.now) c.rev-before.ensures.source ∙ c.iter.ensures.rest in
    rw (exit_at c.args.events.now c.args.index c.requires.opened)
    (find_from_yields_List (λ e. is_enter_of e exit) _ _ c.find.result c.find.ensures.ran (YieldsList-from_rev_slice (take c.args.index c.args.events.now) rest) (λ x b q k. search (rules, tests)))

pub unreachable-requires : goal.unreachable-requires
unreachable-requires c =
    false≢true (rw (← (ap (λ o. option_map (λ (y : Bor Event). y.now) o) (sym c.in-None.is) ∙ found (goal.at.unreachable-requires c).After-find)) at c.requires.opened)

pub returns : goal.returns
returns c = record {
  start = ap (λ o. option_map (λ (e : Event). e.point) o) (sym (ap (λ o. option_map (λ (y : Bor Event). y.now) o) (sym c.in-Some.is) ∙ found (goal.at.returns c).After-find));
  end = ap (λ o. option_map (λ (e : Event). e.point) o) (exit_at c.args.events.now c.args.index c.requires.opened);
}
