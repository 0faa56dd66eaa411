use Rattle.markdown_children.proofs.Prelude.{given_by}
use Rattle.markdown_tokenizer.proofs.Runs.Whole.{start-is-point}
use Rattle.markdown_children.proofs.children.weave.Goals as goal

pub new-tokenizer-requires : goal.new-tokenizer-requires
new-tokenizer-requires g c =
    let p = c.args.parse_state.now in
    record { place = start-is-point (given_by p.bytes.now p.options.now) p.tab_size.0 }
