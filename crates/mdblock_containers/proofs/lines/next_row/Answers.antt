use Rattle.std.proofs.Common.{◌≡◌, ℕ, List, ap, drop, length, sym, refl, ◌∙◌, arith, ◌≤◌}
use Rattle.std.proofs.lemmas.List.{length-map}
use Rattle.mdblock_leaf_blocks.specs.LeafBlocks.{text_of}
use Rattle.mdblock_lines.specs.Lines.{line_at, line_bytes}
use Rattle.mdblock_containers.specs.Rows.{row_of}
use Rattle.mdblock_containers.specs.Views.{before_of, open_of, IsRow}
use Rattle.mdblock_containers.proofs.CostLemmas.{next_begun, next_paid}
use Rattle.mdblock_containers.proofs.DocumentRows.{text_of_line_at, next_is, next_more, end_within, went_front, went_few}
use Rattle.mdblock_containers.proofs.lines.next_row.Goals as goal

pub behind_ending-next-requires : goal.behind_ending-next-requires
behind_ending-next-requires g c = record { inside = end_within c.args.bytes.now c.args.start c.in_ok-end.end (omega arith) c.in_ok-end.ensures.end }

pub returns : goal.returns
returns g c =
    let line = line_at c.args.tab c.args.number c.args.start (drop c.args.start c.args.bytes.now) in
    let b = before_of c.args.before.now in
    let r = row_of c.args.on.now b c.args.number line in
    let text : text_of line ≡ c.as_slice.result.now = text_of_line_at c.args.tab c.args.number c.args.start (drop c.args.start c.args.bytes.now) ∙ sym (c.as_slice.ensures.value ∙ c.in_ok-end.ensures.seats c.args.number) in
    let is : IsRow c.args.number c.in_ok-row.row r = c.in_ok-row.ensures.row line text in
    let next = next_is c.args.bytes.now c.args.start c.in_ok-end.end c.behind_ending-next.result c.in_ok-end.ensures.end c.behind_ending-next.ensures.value in
    let few : c.in_ok-row.row.many ≤ length c.args.before.now.stack.items = omega (arith, went_few c.args.on.now b c.args.number line c.in_ok-row.row.many is.many, length-map c.args.before.now.stack.items open_of) in
    let size : c.len.result ≡ length c.read_text.new.line.items = omega (arith, c.len.ensures, c.read_text.new.line.ok) in
    let here : length c.as_slice.result.now ≡ length (text_of line) = ap (λ (l : List ℕ). length l) (sym text) in
    let long : length (line_bytes c.args.tab c.args.number 1 c.args.start (drop c.args.start c.args.bytes.now)) ≡ length (text_of line) = ap (λ (l : List ℕ). length l) (sym (text_of_line_at c.args.tab c.args.number c.args.start (drop c.args.start c.args.bytes.now))) in
    let long_line : length c.read_text.new.line.items ≡ length (text_of line) = ap (λ (l : List ℕ). length l) (c.in_ok-end.ensures.seats c.args.number) ∙ long in
    let paid = next_paid c.args.on.now b c.args.number line c.requires.sizes c.in_ok-row.row is c.args.turns.now c.read_text.new.turns c.row.new.turns c.go_behind.new.turns c.args.before.now.over c.go_behind.new.self.over
    (omega (arith, c.read_text.ensures.turns c.args.number, long)) (omega (arith, c.in_ok-row.ensures.paid, here)) (λ less. omega (arith, c.in_ok-row.ensures.full (omega (arith, less, here)), here)) c.go_behind.ensures.turns c.in_ok-go_behind.ensures.least in
    record {
      number = refl;
      placed = record {
        number_is = refl;
        start_is = refl;
        inside = c.requires.inside;
        end_is = c.in_ok-end.ensures.end;
        next_is = c.behind_ending-next.ensures.value;
        size_is = size ∙ ap (λ (l : List ℕ). length l) (c.in_ok-end.ensures.seats c.args.number);
        columns = omega (arith, c.in_ok-row.ensures.within, size, ap (λ (l : List ℕ). length l) c.as_slice.ensures.value);
      };
      row = is;
      before = c.in_ok-go_behind.ensures.known c.args.on.now r is (went_front c.args.on.now b c.args.number line c.in_ok-row.row.many is.many);
      next = next;
      more = next_more c.args.bytes.now c.args.start c.behind_ending-next.result c.requires.inside next;
      within = c.behind_ending-next.ensures.within;
      depth = c.in_ok-go_behind.ensures.depth c.requires.depth few;
      over = c.in_ok-go_behind.ensures.over c.requires.over (c.in_ok-row.ensures.over c.requires.began) few;
      turns = omega (arith, paid, long);
      paid = omega (arith, paid, long, size, long_line);
    }

pub returns-in_err-end-clause-turns : goal.returns-in_err-end-clause-turns
returns-in_err-end-clause-turns g c = omega (arith, c.read_text.ensures.turns c.args.number)

pub returns-in_err-row-clause-turns : goal.returns-in_err-row-clause-turns
returns-in_err-row-clause-turns g c =
    let text = ap (λ (l : List ℕ). length l) (c.as_slice.ensures.value ∙ c.in_ok-end.ensures.seats c.args.number) in
    omega (arith, c.read_text.ensures.turns c.args.number, c.row.ensures.turns, text)

pub returns-in_err-go_behind-clause-turns : goal.returns-in_err-go_behind-clause-turns
returns-in_err-go_behind-clause-turns g c =
    let line = line_at c.args.tab c.args.number c.args.start (drop c.args.start c.args.bytes.now) in
    let b = before_of c.args.before.now in
    let text : text_of line ≡ c.as_slice.result.now = text_of_line_at c.args.tab c.args.number c.args.start (drop c.args.start c.args.bytes.now) ∙ sym (c.as_slice.ensures.value ∙ c.in_ok-end.ensures.seats c.args.number) in
    let is : IsRow c.args.number c.in_ok-row.row (row_of c.args.on.now b c.args.number line) = c.in_ok-row.ensures.row line text in
    let here : length c.as_slice.result.now ≡ length (text_of line) = ap (λ (l : List ℕ). length l) (sym text) in
    let long : length (line_bytes c.args.tab c.args.number 1 c.args.start (drop c.args.start c.args.bytes.now)) ≡ length (text_of line) = ap (λ (l : List ℕ). length l) (sym (text_of_line_at c.args.tab c.args.number c.args.start (drop c.args.start c.args.bytes.now))) in
    let begun = next_begun c.args.on.now b c.args.number line c.requires.sizes c.in_ok-row.row is in
    omega (arith, c.read_text.ensures.turns c.args.number, c.row.ensures.turns, c.go_behind.ensures.turns, here, long, begun)
