use Rattle.std.proofs.Common.{true, sym, ◌∙◌, rules}
use Rattle.mdconstructs_tables.proofs.ChunkEnters.{linkable, as_text}
use Rattle.mdblock_leaf_machine.proofs.paragraph.begin_chunk.Goals as goal

pub link_chunk-requires : goal.link_chunk-requires
link_chunk-requires g c = linkable _ _ c.in_ok-enter_link.ensures.ok c.requires (sym c.is_connected.ensures ∙ c.if-is_connected.true)

pub returns : goal.returns
returns g c = as_text c.args.t.now c.enter_link.new.self c.in_ok-enter_link.ensures.ok (search rules)
