use Rattle.std.proofs.Common.{◌<◌, map, arith}
use Rattle.mdblock_containers.specs.Views.{open_of}
use Rattle.mdblock_definitions.proofs.Sectioned.{last-number, last-size}
use Rattle.mdblock_definitions.proofs.skeleton.write_section.Goals as goal

pub end_of_part-end-requires : goal.end_of_part-end-requires
end_of_part-end-requires g c =
    let some : 0 < c.args.tab = omega (arith, c.get-tab_size.ensures.least, c.get-tab_size.ensures.columns) in
    record {
      size = last-size c.args.tab c.args.bytes.now some c.requires.1.0 (map open_of c.args.stack.now) c.args.first.now c.args.more.now g.part c.requires.1.1.1.0;
      number = last-number c.args.tab c.args.bytes.now some c.requires.1.0 (map open_of c.args.stack.now) c.args.first.now c.args.more.now g.part c.requires.1.1.1.0;
    }
