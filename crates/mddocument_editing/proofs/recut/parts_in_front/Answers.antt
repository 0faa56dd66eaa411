use Rattle.mddocument_editing.proofs.Prelude.{◌≡◌, ◌++◌, length, take, drop, sym, ap, ◌∙◌, subst, take-append-drop, take-map, Global, Vec, ℕ, document_of, AreSectionsOf, items_of}
use Rattle.mddocument_editing.proofs.recut.parts_in_front.Goals as goal

pub returns-in-Some : goal.returns-in-Some
returns-in-Some c =
    let options = c.args.options.now in
    let some = c.in-Some.some in
    let all = items_of c.in_ok-parts.parts.items in
    let front : items_of c.truncate.new.self.items ≡ take some all = ap items_of c.truncate.ensures.items ∙ sym (take-map (λ (part : Vec ℕ Global). part.items) some c.in_ok-parts.parts.items) in
    let whole : all ≡ items_of c.truncate.new.self.items ++ drop some all = sym (ap (λ ps. ps ++ drop some all) front ∙ take-append-drop some all) in (
      drop some all,
      (
        subst (AreSectionsOf options c.args.bytes.now) whole c.in_ok-parts.ensures,
        ap (λ ps. length (document_of ps)) front ∙ ap (λ ps. length (document_of (take some (items_of ps)))) (sym c.as_slice.ensures.value) ∙ c.in-Some.ensures,
      ),
    )
