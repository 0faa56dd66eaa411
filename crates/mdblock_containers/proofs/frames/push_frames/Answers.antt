use Rattle.std.proofs.Common.{◌<◌, ◌∙◌, length, map, arith}
use Rattle.mdblock_containers.specs.Frames.{frame_of}
use Rattle.mdblock_containers.proofs.FrameLemmas.{frames_more}
use Rattle.mdblock_containers.proofs.frames.push_frames.Goals as goal

pub loop-entry-preserved : goal.loop-entry-preserved
loop-entry-preserved g c =
    let h : c.loop-entry.entry-index < length c.args.stack.now = omega arith in
    record {
      value = frames_more (map frame_of c.loop-entry.frames.items) (map frame_of c.push_frames_of.new.frames.items) c.args.stack.now c.loop-entry.entry-index _ h c.in_ok-push_frames_of.ensures ∙ c.loop-entry.invariant.value;
      turns = omega (arith, c.loop-entry.invariant.turns, c.add_one.ensures);
    }
