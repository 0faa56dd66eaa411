use Rattle.markdown_tokenizer.proofs.Prelude.{refl, All-nil, Event, IsPointOf, Nothing}
use Rattle.markdown_tokenizer.proofs.Inside.Fields.{read-start}
use Rattle.markdown_tokenizer.proofs.Inside.Known.{known-other, plain-none}
use Rattle.markdown_tokenizer.proofs.Runs.Resolvers.{none-twice}
use Rattle.markdown_tokenizer.proofs.Inside.Changes.{start-end, start-empty, start-found, start-text, start-made}
use Rattle.markdown_tokenizer.proofs.tokenizer.Tokenizer.restart.Goals as goal

pub invariant_of-self : goal.invariant_of-self
invariant_of-self g c =
    let bytes = c.args.parse_state.now.bytes.now in
    let tab = c.args.parse_state.now.options.now.tab_size in
    let apart = c.args.parse_state.now.tab_size in
    let p = c.args.point in
    let here = start-end tab apart.0 bytes p c.requires.place in
    let none = start-empty tab apart.0 bytes p c.requires.place in
    let skips = c.clear-2.ensures in
    record {
      placed = record {
        tab = c.get-self-inside.ensures.columns;
        reads = λ _. refl;
        end_at = rw here (start-found tab apart.0 bytes p c.requires.place);
        text = rw (skips, here, none) (start-text tab apart.0 bytes p c.requires.place c.args.parse_state.now.options.now (record { bytes = c.bytes_are_below_256.ensures; tab = apart; limit = c.args.parse_state.now.limit; one_size = refl }));
        skips = rw skips tt;
        read = rw (skips, here) (read-start tab apart.0 bytes p c.requires.place);
        waiting = tt;
        ended = λ h. absurd cc;
      };
      made = λ _. rw (c.clear-3.ensures.items, c.clear-4.ensures.items) (start-made tab apart.0 bytes p c.requires.place);
      at_places = λ _. rw c.clear-3.ensures.items (All-nil (λ (e : Event). IsPointOf tab bytes e.point));
      kept_choices = rw c.clear-6.ensures.items tt;
      once = rw c.clear-5.ensures.items (none-twice g.M.Resolver.PartialEq.eq);
      known = known-other c.clear-2.new.self p p.index bytes tab bytes refl 0 (plain-none c.clear-2.new.self p p.index) Nothing;
    }

pub returns : goal.returns
returns g c =
    let s = c.args.parse_state.now in let skips = c.clear-2.ensures in
    let here = start-end s.options.now.tab_size s.tab_size.0 s.bytes.now c.args.point c.requires.place in
    let none = start-empty s.options.now.tab_size s.tab_size.0 s.bytes.now c.args.point c.requires.place in
    record { start = rw (skips, here, none, c.clear-3.ensures.items, c.clear-4.ensures.items, c.clear-5.ensures.items, c.clear-6.ensures.items, c.reset.ensures, c.clear.ensures, c.new-self-inside.ensures) refl }
