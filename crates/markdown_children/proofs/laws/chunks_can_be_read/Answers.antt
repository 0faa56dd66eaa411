use Rattle.markdown_children.proofs.ChildReads.Pieces.{chunks_can_be_read}
use Rattle.markdown_children.proofs.laws.chunks_can_be_read.Goals as goal

pub returns : goal.returns
returns c = λ tab bytes wanted events ready options c. chunks_can_be_read tab bytes options wanted events ready c
