use Rattle.mdevents_program.proofs.Blocks.{put-block}
use Rattle.mdevents_program.proofs.block.put_block.Goals as goal

pub returns-clause-bytes : goal.returns-clause-bytes
returns-clause-bytes g c = put-block c.args.bytes.now c.args.block.now c.args.at g.row.N c.args.len c.requires.room c.requires.whole c.requires.part
