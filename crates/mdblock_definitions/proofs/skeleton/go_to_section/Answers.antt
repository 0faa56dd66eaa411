use Rattle.std.proofs.Common.{◌≡◌, ◌++◌, arith, drop, map, take, sym, ap, ◌∙◌, subst, append_assoc}
use Rattle.std.proofs.lemmas.List.{take-map}
use Rattle.markdown_base.proofs.Common.{every-take}
use Rattle.mdblock_lines.specs.Lines.{line_bytes}
use Rattle.mdblock_containers.specs.Costs.{HasSize, HaveSizes}
use Rattle.mdblock_containers.specs.Parts.{ending_at}
use Rattle.mdblock_containers.specs.Prefixes.{columns_of, going_on}
use Rattle.mdblock_containers.specs.SeatPlaces.{events_of}
use Rattle.mdblock_containers.specs.Skeleton.{prefixes_marks}
use Rattle.mdblock_containers.specs.Views.{open_of}
use Rattle.mdblock_containers.proofs.FrameLemmas.{ending_same}
use Rattle.mdblock_definitions.proofs.skeleton.go_to_section.Goals as goal

pub prefixes_of-requires : goal.prefixes_of-requires
prefixes_of-requires g c =
    let stack = c.args.stack.now in
    let many = c.args.next.now.row.many in
    let front : map open_of c.first_of-front.result.now ≡ take many (map open_of stack) = ap (map open_of) c.first_of-front.ensures ∙ sym (take-map open_of many stack) in
    record { inside = c.requires.inside; columns = c.requires.columns; sizes = subst HaveSizes (sym front) (every-take HasSize many (map open_of stack) c.requires.sizes) }

pub returns : goal.returns
returns g c =
    let stack = c.args.stack.now in
    let many = c.args.next.now.row.many in
    let s = c.args.next.now.span in
    let bytes = c.args.bytes.now in
    let t = line_bytes c.args.tab s.number 1 s.start (drop s.start bytes) in
    let old = c.args.events.now.items in
    let end = c.args.end in
    let front : map open_of c.first_of-front.result.now ≡ take many (map open_of stack) = ap (map open_of) c.first_of-front.ensures ∙ sym (take-map open_of many stack) in
    record {
      marks = λ seats are is.
          let prefixes = events_of (prefixes_marks bytes (going_on (take many (map open_of stack)) s.number t) seats) in
          c.in_ok-at.ensures.marks seats are is
          ∙ (λ k. c.in_ok-write_ending.ensures k ++ events_of (prefixes_marks bytes (going_on (front k) s.number t) seats))
          ∙ append_assoc old (ending_at end) prefixes ∙ (λ k. old ++ (ending_same end k ++ prefixes));
      columns = c.in_ok-at.ensures.columns ∙ (λ k. columns_of (going_on (front k) s.number t));
      place = c.in_ok-at.ensures.place;
      turns = omega (arith, c.prefixes_of.ensures.turns);
    }
