use Rattle.markdown_tokenizer.proofs.Prelude.{◌≡◌, refl, IsDocument, given_of}
use Rattle.markdown_tokenizer.proofs.Runs.Movable.{end-fits, moves-if, moves-then, needs-inside}
use Rattle.markdown_tokenizer.proofs.tokenizer.Tokenizer.can_move_to.Goals as goal

pub bytes_needed-requires : goal.bytes_needed-requires
bytes_needed-requires g c = end-fits c.self.inside c.self.invariant

pub begin_alike-alike-requires : goal.begin_alike-alike-requires
begin_alike-alike-requires g c = rw (c.bytes_needed.ensures, c.self.invariant.known.own_bytes) (needs-inside c.self.inside c.self.invariant)

pub cuts_pair-cut_here-requires : goal.cuts_pair-cut_here-requires
cuts_pair-cut_here-requires g c = end-fits c.self.inside c.self.invariant

pub cuts_pair-cut_there-requires : goal.cuts_pair-cut_there-requires
cuts_pair-cut_there-requires g c = end-fits c.self.inside c.self.invariant

pub is_pair-at_pair-requires : goal.is_pair-at_pair-requires
is_pair-at_pair-requires g c = record { index = end-fits c.self.inside c.self.invariant }

pub returns : goal.returns
returns g c =
    let t = c.self.inside in let sound = c.self.invariant in let own = sound.known.own_bytes in let there = c.args.document.now in
    let options : there.options.now ≡ t.parse_state.now.options.now = rw (← c.self.view_is) at c.requires.options in
    let possible : IsDocument (given_of there) = record { bytes = c.bytes_are_below_256.ensures; tab = there.tab_size; limit = there.limit; one_size = refl } in
    let alike = rw (c.bytes_needed.ensures, own) at c.begin_alike-alike.ensures in
    let cut_here = rw own at c.cuts_pair-cut_here.ensures in
    let at_pair = rw own at c.is_pair-at_pair.ensures in
    rw (← c.self.view_is) (
      moves-if t sound there.bytes.now there.options.now options possible _ _ _ _ _ refl alike cut_here c.cuts_pair-cut_there.ensures at_pair,
      moves-then t sound there.bytes.now there.options.now options possible _ _ _ _ _ refl alike cut_here c.cuts_pair-cut_there.ensures at_pair,
    )
