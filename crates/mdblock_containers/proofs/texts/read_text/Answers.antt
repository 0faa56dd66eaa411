use Rattle.std.proofs.Common.{◌≡◌, ◌+◌, ◌<◌, false, ◌++◌, length, take, drop, sym, ap, ◌∙◌, arith}
use Rattle.std.specs.List.{prefix_len}
use Rattle.mdblock_leaf_blocks.specs.LineWords.{begins_with}
use Rattle.mdblock_lines.specs.Lines.{expanded, is_in_line, line_bytes}
use Rattle.mdblock_lines.proofs.PlaceLemmas.{expanded_is_virtual}
use Rattle.mdblock_containers.specs.Letters.{is_plain}
use Rattle.mdblock_containers.proofs.TextLemmas.{plain_fits, plain_line, size_of_text, text_costs}
use Rattle.mdblock_containers.proofs.texts.read_text.Goals as goal

pub returns-then-begins_with_tab-clause-turns : goal.returns-then-begins_with_tab-clause-turns
returns-then-begins_with_tab-clause-turns g c = λ number.
    let t = c.get-tab_size.result in
    let rest = drop c.args.start c.args.bytes.now in
    let some : 0 < t = omega (arith, c.get-tab_size.ensures.least) in
    let n : c.plain_size-n.result ≡ prefix_len is_plain rest = c.plain_size-n.ensures.value ∙ ap (prefix_len is_plain) c.behind-rest.ensures.value in
    let fits = plain_fits t rest some c.get-tab_size.ensures.most in
    let size = size_of_text c.args.tab number c.args.start rest t some c.get-tab_size.ensures.most c.get-tab_size.ensures.columns in
    let same : length (expanded t 1 (take (prefix_len is_in_line rest) rest)) ≡ length (expanded c.args.tab 1 (take (prefix_len is_in_line rest) rest)) = (λ k. length (expanded (c.get-tab_size.ensures.columns k) 1 (take (prefix_len is_in_line rest) rest))) in
    omega (arith, n, fits, size, same, c.plain_size-n.ensures.turns, c.read_line.ensures.turns)

pub returns-in_err-extend_from_slice-clause-turns : goal.returns-in_err-extend_from_slice-clause-turns
returns-in_err-extend_from_slice-clause-turns g c = λ number.
    let some : 0 < c.get-tab_size.result = omega (arith, c.get-tab_size.ensures.least) in
    text_costs c.args.tab c.args.bytes.now c.args.start c.get-tab_size.result _ _ c.plain_size-n.result some c.get-tab_size.ensures.most c.get-tab_size.ensures.columns (c.plain_size-n.ensures.value ∙ ap (prefix_len is_plain) c.behind-rest.ensures.value) c.plain_size-n.ensures.turns number

pub returns : goal.returns
returns g c =
    let t = c.get-tab_size.result in
    let start = c.args.start in
    let rest = drop start c.args.bytes.now in
    let r : c.behind-rest.result.now ≡ rest = c.behind-rest.ensures.value in
    let n : c.plain_size-n.result ≡ prefix_len is_plain rest = c.plain_size-n.ensures.value ∙ ap (prefix_len is_plain) r in
    let none : begins_with 9 (drop (prefix_len is_plain rest) rest) ≡ false =
    (λ k. begins_with 9 (drop (sym n k) (sym r k))) ∙ ap (begins_with 9) (sym c.behind.ensures.value) ∙ sym c.begins_with_tab.ensures ∙ c.if-begins_with_tab.false in
    let plain = plain_line t rest none in
    let new : c.extend_from_slice.new.self.items ≡ take (prefix_len is_plain rest) rest = c.in_ok-extend_from_slice.ensures.items ∙ (λ k. c.clear.ensures.items k ++ (c.front.ensures.value ∙ (λ j. take (n j) (r j))) k) in
    let text : c.extend_from_slice.new.self.items ≡ expanded t 1 (take (prefix_len is_in_line rest) rest) = new ∙ sym (plain.1 1) ∙ ap (λ k. expanded t 1 (take k rest)) plain.0 in
    let some : 0 < t = omega (arith, c.get-tab_size.ensures.least) in
    record {
      text = text ∙ (λ k. expanded (c.get-tab_size.ensures.columns k) 1 (take (prefix_len is_in_line rest) rest));
      seats = λ number. text ∙ expanded_is_virtual t some c.get-tab_size.ensures.most number 1 start rest ∙ (λ k. line_bytes (c.get-tab_size.ensures.columns k) number 1 start rest);
      end = ap (λ k. start + k) (n ∙ plain.0);
      turns = λ number. text_costs c.args.tab c.args.bytes.now start t _ _ c.plain_size-n.result some c.get-tab_size.ensures.most c.get-tab_size.ensures.columns n c.plain_size-n.ensures.turns number;
    }
