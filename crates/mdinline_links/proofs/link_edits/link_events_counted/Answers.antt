use Rattle.std.proofs.Common.{◌+◌, ◌*◌, ◌≤◌, ◌∙◌, ap, length, subst, sym}
use Rattle.std.specs.Global.{Vec}
use Rattle.std.specs.Option.{unwrap_or}
use Rattle.std.specs.Prelude.{option_map}
use Rattle.markdown_base.specs.declared.event.Event.{Event}
use Rattle.markdown_base.specs.Events.{IsBalanced}
use Rattle.markdown_edits.specs.Edited.{edited}
use Rattle.markdown_tokenizer.specs.Plain.{HaveNoLinks}
use Rattle.mdinline_emphasis.specs.Costs.{emphasis_a_run, markers_left}
use Rattle.mdinline_emphasis.specs.Places.{ArePlacesInside}
use Rattle.mdinline_emphasis.specs.Runs.{runs_in}
use Rattle.mdinline_links.specs.LinkEdits.{link_edits}
use Rattle.mdinline_links.proofs.link_edits.link_events_counted.Goals as goal

pub linked_counted-requires : goal.linked_counted-requires
linked_counted-requires g c =
    let is = sym c.as_slice.ensures.value in
    record {
      balanced = subst IsBalanced is c.requires.balanced;
      unlinked = subst HaveNoLinks is c.requires.unlinked;
      room = subst (ArePlacesInside c.args.bytes.now) is c.requires.room;
    }

pub returns-in-None-clause-edits : goal.returns-in-None-clause-edits
returns-in-None-clause-edits g c =
    let slice = c.as_slice.result.now in
    let is = c.as_slice.ensures.value in
    sym is
    ∙ sym (ap (λ f. unwrap_or (option_map (λ (v : Vec Event). v.items) f) slice) c.in-None.is)
    ∙ c.in_ok-found.ensures.edits
    ∙ ap (λ es. edited (link_edits c.args.one_tilde c.args.bytes.now es) es) is

pub returns-in-Some-clause-edits : goal.returns-in-Some-clause-edits
returns-in-Some-clause-edits g c =
    let slice = c.as_slice.result.now in
    c.put_in.ensures
    ∙ sym (ap (λ f. unwrap_or (option_map (λ (v : Vec Event). v.items) f) slice) c.in-Some.is)
    ∙ c.in_ok-found.ensures.edits
    ∙ ap (λ es. edited (link_edits c.args.one_tilde c.args.bytes.now es) es) c.as_slice.ensures.value

pub returns-in-None-clause-linear : goal.returns-in-None-clause-linear
returns-in-None-clause-linear g c =
    let one = c.args.one_tilde in
    let bytes = c.args.bytes.now in
    subst (λ es. c.linked_counted.new.turns ≤ c.args.turns.now + (emphasis_a_run * length (runs_in one bytes es) + 3 * markers_left (runs_in one bytes es)) + 5 * length es) c.as_slice.ensures.value c.in_ok-found.ensures.linear

pub returns-in-Some-clause-linear : goal.returns-in-Some-clause-linear
returns-in-Some-clause-linear g c =
    let one = c.args.one_tilde in
    let bytes = c.args.bytes.now in
    subst (λ es. c.linked_counted.new.turns ≤ c.args.turns.now + (emphasis_a_run * length (runs_in one bytes es) + 3 * markers_left (runs_in one bytes es)) + 5 * length es) c.as_slice.ensures.value c.in_ok-found.ensures.linear
