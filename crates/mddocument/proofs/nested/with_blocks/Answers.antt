use Rattle.mddocument.proofs.Prelude.{◌≡◌, ◌∙◌, [], length, None, ap, arith, sym, subst, IfOk-weaker, virtual, IsReady, document}
use Rattle.std.proofs.lemmas.List.{nil_from_length}
use Rattle.mddocument.specs.Runs.{HasOnlyContent}
use Rattle.mdblock_definitions.specs.Blocks.{document_skeleton}
use Rattle.mdblock_definitions.proofs.PlainLetters.{letters-are-plain}
use Rattle.mdblock_definitions.proofs.SectionsReady.{skeletons-are-ready, skeletons-have-one-content}
use Rattle.mdblock_containers.specs.Letters.{with_letters}
use Rattle.mdblock_definitions.specs.Skeleton.{letters}
use Rattle.mdblock_containers.proofs.LetterLemmas.{no_letters}
use Rattle.mddocument.proofs.InContainers.Blocks.{leaf-blocks-are}
use Rattle.mddocument.proofs.InContainers.Letters.{lettered-limit, ready-there}
use Rattle.mddocument.proofs.nested.with_blocks.Goals as goal

pub with_leaf_blocks-requires-clause-content : goal.with_leaf_blocks-requires-clause-content
with_leaf_blocks-requires-clause-content c = subst HasOnlyContent (sym c.requires.skeleton) (skeletons-have-one-content (document c.args.options.now c.args.bytes.now) c.is_document.ensures)

pub with_leaf_blocks-requires-clause-ready : goal.with_leaf_blocks-requires-clause-ready
with_leaf_blocks-requires-clause-ready c =
    subst (IsReady c.args.options.now.tab_size c.args.bytes.now None) (sym c.requires.skeleton)
    (skeletons-are-ready (document c.args.options.now c.args.bytes.now) c.is_document.ensures None)

pub returns-then-is_empty-clause-events : goal.returns-then-is_empty-clause-events
returns-then-is_empty-clause-events c =
    let bytes = c.args.bytes.now in
    let zero : length c.args.letters.now ≡ 0 = grind arith in
    let none : c.args.letters.now ≡ [] = nil_from_length c.args.letters.now zero in
    let at = letters c.args.options.now.constructs (virtual c.args.options.now.tab_size bytes) in
    let no : [] ≡ at = sym none ∙ c.requires.letters in
    let same : bytes ≡ with_letters at bytes = sym (no_letters bytes) ∙ ap (λ l. with_letters l bytes) no in
    IfOk-weaker c.with_leaf_blocks.result _ _ (λ new h.
    leaf-blocks-are c.args.options.now bytes c.is_document.ensures bytes same c.args.skeleton.items new.items c.requires.skeleton h) c.with_leaf_blocks.ensures.events

pub with_leaf_blocks-requires-2-clause-limit : goal.with_leaf_blocks-requires-2-clause-limit
with_leaf_blocks-requires-2-clause-limit c =
    let bytes = c.args.bytes.now in
    let at = letters c.args.options.now.constructs (virtual c.args.options.now.tab_size bytes) in
    let same : c.as_slice.result.now ≡ with_letters at bytes = c.as_slice.ensures.value ∙ c.in_ok-shown.ensures ∙ ap (λ l. with_letters l bytes) c.requires.letters in
    rw same (lettered-limit at c.args.options.now.tab_size bytes c.requires.limit)

pub with_leaf_blocks-requires-2-clause-content : goal.with_leaf_blocks-requires-2-clause-content
with_leaf_blocks-requires-2-clause-content c = subst HasOnlyContent (sym c.requires.skeleton) (skeletons-have-one-content (document c.args.options.now c.args.bytes.now) c.is_document.ensures)

pub with_leaf_blocks-requires-2-clause-ready : goal.with_leaf_blocks-requires-2-clause-ready
with_leaf_blocks-requires-2-clause-ready c =
    let bytes = c.args.bytes.now in
    let g = document c.args.options.now bytes in
    let at = letters c.args.options.now.constructs (virtual c.args.options.now.tab_size bytes) in
    let same : c.as_slice.result.now ≡ with_letters at bytes = c.as_slice.ensures.value ∙ c.in_ok-shown.ensures ∙ ap (λ l. with_letters l bytes) c.requires.letters in
    let ready = ready-there at g (letters-are-plain g.options.constructs g.tab g.bytes) None (document_skeleton g) (skeletons-are-ready g c.is_document.ensures None) in
    let there = subst (λ bs. IsReady g.tab bs None (document_skeleton g)) (sym same) ready in
    subst (IsReady g.tab c.as_slice.result.now None) (sym c.requires.skeleton) there

pub returns-clause-events : goal.returns-clause-events
returns-clause-events c =
    let bytes = c.args.bytes.now in
    let at = letters c.args.options.now.constructs (virtual c.args.options.now.tab_size bytes) in
    let same : c.as_slice.result.now ≡ with_letters at bytes = c.as_slice.ensures.value ∙ c.in_ok-shown.ensures ∙ ap (λ l. with_letters l bytes) c.requires.letters in
    IfOk-weaker c.with_leaf_blocks-2.result _ _ (λ new h.
    leaf-blocks-are c.args.options.now bytes c.is_document.ensures c.as_slice.result.now same c.args.skeleton.items new.items c.requires.skeleton h) c.with_leaf_blocks-2.ensures.events
