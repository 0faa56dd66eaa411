use Rattle.mddocument_editing.proofs.Prelude.{◌≡◌, ◌-◌, ◌++◌, length, take, drop, ap, ◌∙◌, append_assoc, take_rest, document_of, bytes_of_sections}
use Rattle.mddocument_editing.proofs.recut.edited_bytes.Goals as goal

pub returns : goal.returns
returns c =
    let a = c.in_ok-append_sections.ensures in
    let b = c.as_slice-old.ensures.value in
    let d = c.in_ok-text.ensures.items_if_clones_equal in
    let e = c.in_ok-extend_from_slice.ensures.items in
    let f = c.in_ok-extend_from_slice-2.ensures.items in
    let all = document_of (bytes_of_sections c.args.sections.now) in
    let i = c.args.edit.now.from - c.args.start in
    let j = c.args.edit.now.to - c.args.start in
    let w = c.args.edit.now.with.now in
    let old : c.as_slice-old.result.now ≡ all = b ∙ a ∙ ap (λ bs. bs ++ all) c.new-old.ensures.items in
    let text : c.in_ok-text.text.items ≡ take i all = d (λ x y e. e) ∙ ap (take i) old in
    let last : take (length c.as_slice-old.result.now - j) (drop j c.as_slice-old.result.now) ≡ drop j all = take_rest c.as_slice-old.result.now j ∙ ap (drop j) old in
    f ∙ ap (λ bs. c.extend_from_slice.new.self.items ++ bs) last ∙ ap (λ bs. bs ++ drop j all) (e ∙ ap (λ bs. bs ++ w) text) ∙ append_assoc (take i all) w (drop j all)
