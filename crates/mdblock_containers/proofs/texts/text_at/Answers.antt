use Rattle.std.proofs.Common.{◌≡◌, ℕ, ◌+◌, ◌*◌, ◌<◌, ◌≤◌, false, List, length, take, drop, rules, sym, ap, ◌∙◌, arith}
use Rattle.std.specs.List.{prefix_len}
use Rattle.mdblock_leaf_blocks.specs.LineWords.{begins_with}
use Rattle.mdblock_lines.specs.Lines.{expanded, is_in_line, line_bytes}
use Rattle.mdblock_lines.proofs.PlaceLemmas.{expanded_is_virtual}
use Rattle.mdblock_containers.specs.Letters.{is_plain}
use Rattle.mdblock_containers.proofs.TextLemmas.{plain_fits, plain_line, size_of_text, text_costs}
use Rattle.mdblock_containers.proofs.texts.text_at.Goals as goal

-- what a line with a tab costs
tab_costs : (t : ℕ) (bytes : List ℕ) (start u before mid after n : ℕ) → 0 < u → u ≤ 16 → u ≡ t → n ≡ prefix_len is_plain (drop start bytes) → mid ≤ before + n + 1
    → after ≤ mid + 2 * length (expanded t 1 (take (prefix_len is_in_line (drop start bytes)) (drop start bytes))) + 1 → (number : ℕ) → after ≤ before + 4 * length (line_bytes t number 1 start (drop start bytes)) + 2
tab_costs t bytes start u before mid after n some most same is first more number =
    let rest = drop start bytes in
    let fits = plain_fits u rest some most in
    let size = size_of_text t number start rest u some most same in
    let whole : length (expanded u 1 (take (prefix_len is_in_line rest) rest)) ≡ length (expanded t 1 (take (prefix_len is_in_line rest) rest)) = (λ k. length (expanded (same k) 1 (take (prefix_len is_in_line rest) rest))) in
    omega (arith, fits, size, whole, is, first, more)

pub returns-then-begins_with_tab : goal.returns-then-begins_with_tab
returns-then-begins_with_tab g c =
    let some : 0 < c.get-tab_size.result = omega (arith, c.get-tab_size.ensures.least) in
    let n : c.plain_size-n.result ≡ prefix_len is_plain (drop c.args.start c.args.bytes.now) = c.plain_size-n.ensures.value ∙ ap (prefix_len is_plain) c.behind-rest.ensures.value in
    record {
      seats = λ number. c.as_slice.ensures.value ∙ c.in_ok-end.ensures.seats number;
      end = c.in_ok-end.ensures.end;
      turns = λ number. tab_costs c.args.tab c.args.bytes.now c.args.start c.get-tab_size.result _ _ _ c.plain_size-n.result some c.get-tab_size.ensures.most c.get-tab_size.ensures.columns n c.plain_size-n.ensures.turns c.read_line.ensures.turns number;
    }

pub returns-in_err-end : goal.returns-in_err-end
returns-in_err-end g c =
    let some : 0 < c.get-tab_size.result = omega (arith, c.get-tab_size.ensures.least) in
    let n : c.plain_size-n.result ≡ prefix_len is_plain (drop c.args.start c.args.bytes.now) = c.plain_size-n.ensures.value ∙ ap (prefix_len is_plain) c.behind-rest.ensures.value in
    record {
      seats = λ number. search rules;
      end = search rules;
      turns = λ number. tab_costs c.args.tab c.args.bytes.now c.args.start c.get-tab_size.result _ _ _ c.plain_size-n.result some c.get-tab_size.ensures.most c.get-tab_size.ensures.columns n c.plain_size-n.ensures.turns c.read_line.ensures.turns number;
    }

pub returns : goal.returns
returns g c =
    let t = c.get-tab_size.result in
    let start = c.args.start in
    let rest = drop start c.args.bytes.now in
    let r : c.behind-rest.result.now ≡ rest = c.behind-rest.ensures.value in
    let n : c.plain_size-n.result ≡ prefix_len is_plain rest = c.plain_size-n.ensures.value ∙ ap (prefix_len is_plain) r in
    let none : begins_with 9 (drop (prefix_len is_plain rest) rest) ≡ false =
    (λ k. begins_with 9 (drop (sym n k) (sym r k))) ∙ ap (begins_with 9) (sym c.behind.ensures.value) ∙ sym c.begins_with_tab.ensures ∙ c.if-begins_with_tab.false in
    let plain = plain_line t rest none in
    let text = c.front.ensures.value ∙ (λ k. take (n k) (r k)) ∙ sym (plain.1 1) ∙ ap (λ k. expanded t 1 (take k rest)) plain.0 in
    let some : 0 < t = omega (arith, c.get-tab_size.ensures.least) in
    record {
      seats = λ number. text ∙ expanded_is_virtual t some c.get-tab_size.ensures.most number 1 start rest ∙ (λ k. line_bytes (c.get-tab_size.ensures.columns k) number 1 start rest);
      end = ap (λ k. start + k) (n ∙ plain.0);
      turns = λ number. text_costs c.args.tab c.args.bytes.now start t _ _ c.plain_size-n.result some c.get-tab_size.ensures.most c.get-tab_size.ensures.columns n c.plain_size-n.ensures.turns number;
    }
