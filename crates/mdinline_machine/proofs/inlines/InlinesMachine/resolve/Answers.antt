use Rattle.mdinline_machine.proofs.Prelude.{None, ap, sym, subst, ◌∙◌, done, edited, HaveNoLinks, IsBalanced, ArePlacesInside, EndsLinked, linking_edits, begins_inline, follows_inline, inline_starts, inlines, no_labels, before-resolver}
use Rattle.mdinline_links.specs.LinkEdits.{link_edits}
use Rattle.mdinline_machine.proofs.Room.{places-inside}
use Rattle.mdinline_machine.proofs.inlines.InlinesMachine.resolve.Goals as goal

pub link_events-requires : goal.link_events-requires
link_events-requires c =
    let t = c.args.t.now in
    let h = before-resolver (inlines no_labels) begins_inline follows_inline inline_starts tt linking_edits EndsLinked t.given t.text c.args.name c.requires.invariant.0 t.configuration c.requires.invariant.1 in
    let is = sym c.events_mut.ensures.value in
    record {
      balanced = subst IsBalanced is h.formed.balanced;
      unlinked = subst HaveNoLinks is h.unlinked;
      room = subst (λ g. ArePlacesInside g.bytes c.events_mut.result.now.items) (sym c.parse_state-state.ensures.given) (subst (ArePlacesInside t.given.bytes) is (places-inside t.given h.document t.configuration.events h.formed.at_places));
    }

pub returns-clause-resolves : goal.returns-clause-resolves
returns-clause-resolves c =
    let t = c.args.t.now in
    let k = t.configuration in
    let made = c.in_ok-link_events.ensures.edits
    ∙ ap (λ es. edited (link_edits c.parse_state-state.result.now.options.now.gfm_strikethrough_single_tilde c.parse_state-state.result.now.bytes.now es) es) c.events_mut.ensures.value
    ∙ ap (λ g. edited (linking_edits g k.events) k.events) c.parse_state-state.ensures.given in
    ap (λ es. done (record k { events = es }) None) (sym made)
