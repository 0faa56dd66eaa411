use Rattle.std.proofs.Common.{◌≡◌, List, drop, length, sym, refl, ◌∙◌, arith, ℕ, ap}
use Rattle.mdblock_leaf_blocks.specs.LeafBlocks.{text_of}
use Rattle.mdblock_lines.specs.Lines.{line_at, line_bytes}
use Rattle.mdblock_containers.proofs.DocumentRows.{end_within, next_is, next_more, text_of_line_at}
use Rattle.mdblock_definitions.proofs.rows.row_of_text.Goals as goal

pub behind_ending-next-requires : goal.behind_ending-next-requires
behind_ending-next-requires g c = record { inside = end_within c.args.bytes.now c.args.start c.args.text.end (omega arith) c.requires.end }

pub returns : goal.returns
returns g c =
    let rest = drop c.args.start c.args.bytes.now in
    let line = line_at c.args.tab c.args.number c.args.start rest in
    let text : text_of line ≡ c.args.text.bytes.now = text_of_line_at c.args.tab c.args.number c.args.start rest ∙ sym c.requires.seats in
    let next = next_is c.args.bytes.now c.args.start c.args.text.end c.behind_ending-next.result c.requires.end c.behind_ending-next.ensures.value in
    let long : length c.args.text.bytes.now ≡ length (line_bytes c.args.tab c.args.number 1 c.args.start rest) = ap (λ (l : List ℕ). length l) c.requires.seats in
    record {
      number = refl;
      placed = record {
        number_is = refl;
        start_is = refl;
        inside = c.requires.inside;
        end_is = c.requires.end;
        next_is = c.behind_ending-next.ensures.value;
        size_is = long;
        columns = c.in_ok-row.ensures.within;
      };
      row = λ seen is. c.in_ok-row.ensures.row seen is line text;
      known = λ seen is. c.in_ok-row.ensures.known seen is line text;
      next = next;
      more = next_more c.args.bytes.now c.args.start c.behind_ending-next.result c.requires.inside next;
      within = c.behind_ending-next.ensures.within;
      depth = c.in_ok-row.ensures.depth line text;
      over = c.in_ok-row.ensures.over line text;
      kept = λ budget kept. c.in_ok-row.ensures.kept line text budget kept;
      turns = c.next.ensures.turns line text;
    }

pub returns-in_err-row-clause-turns : goal.returns-in_err-row-clause-turns
returns-in_err-row-clause-turns g c =
    let rest = drop c.args.start c.args.bytes.now in
    let line = line_at c.args.tab c.args.number c.args.start rest in
    let text : text_of line ≡ c.args.text.bytes.now = text_of_line_at c.args.tab c.args.number c.args.start rest ∙ sym c.requires.seats in
    c.next.ensures.turns line text
