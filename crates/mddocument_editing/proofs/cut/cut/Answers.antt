use Rattle.mddocument_editing.proofs.Prelude.{◌≡◌, ◌++◌, [], ◌∷◌, take, drop, sym, ap, ◌∙◌, subst, map-append, take_rest, items_of}
use Rattle.std.proofs.lemmas.Bool.{eqb-true}
use Rattle.mddocument_editing.proofs.CutSteps.{IsCut, all-cut, next-cut, none-cut}
use Rattle.mddocument_editing.proofs.cut.cut.Goals as goal

pub loop-rest-init : goal.loop-rest-init
loop-rest-init c =
    let e = c.new-parts.ensures.items in subst (λ v. IsCut c.args.options.now (items_of v) c.args.bytes.now c.args.bytes.now) (sym e) (none-cut c.args.options.now c.args.bytes.now)

pub loop-rest-preserved : goal.loop-rest-preserved
loop-rest-preserved c =
    let options = c.args.options.now in
    let left = c.loop-rest.rest.now in
    let bytes = c.args.bytes.now in
    let size = c.in_ok-size.size in
    let parts = c.loop-rest.parts.items in
    let copy = c.in_ok-to_vec.field-0 in
    let next = next-cut options left size c.in_ok-size.ensures (items_of parts) bytes c.loop-rest.invariant in
    let pushed : items_of c.push.new.self.items ≡ items_of parts ++ copy.items ∷ [] = ap items_of c.in_ok-push.ensures.items ∙ map-append _ parts (copy ∷ []) in
    let copied : copy.items ≡ take size left = c.in_ok-to_vec.ensures.items_if_clones_equal (λ x y e. e) in
    let all : items_of c.push.new.self.items ≡ items_of parts ++ take size left ∷ [] = pushed ∙ ap (λ bs. items_of parts ++ bs ∷ []) copied in
    subst (λ bs. IsCut options (items_of c.push.new.self.items) bs bytes) (sym (take_rest left size)) (subst (λ ps. IsCut options ps (drop size left) bytes) (sym all) next)

pub returns : goal.returns
returns c = all-cut c.args.options.now (items_of c.loop-rest.parts.items) c.loop-rest.rest.now c.args.bytes.now c.loop-rest.invariant (eqb-true _ 0 (sym c.loop-rest-test.ensures))
