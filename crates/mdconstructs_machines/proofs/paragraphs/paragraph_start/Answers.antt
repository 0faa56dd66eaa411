use Rattle.mdconstructs_tables.proofs.ChunkEnters.{linkable, as_text}
use Rattle.mdconstructs_machines.proofs.Prelude.{true, sym, ◌∙◌, rules}
use Rattle.mdconstructs_machines.proofs.paragraphs.paragraph_start.Goals as goal

pub link_chunk-requires : goal.link_chunk-requires
link_chunk-requires g c = linkable _ _ c.in_ok-enter_link-in-Some.ensures.ok c.requires.chunk (sym c.is_connected.ensures ∙ c.if-is_connected.true)

pub returns-after-is_connected : goal.returns-after-is_connected
returns-after-is_connected g c = as_text c.args.t.now c.enter_link.new.self c.in_ok-enter_link-in-Some.ensures.ok (search rules)
