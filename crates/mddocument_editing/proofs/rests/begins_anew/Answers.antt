use Rattle.mddocument_editing.proofs.Prelude.{◌≡◌, ◌∙◌, ◌&&◌, ap, refl, sym, text_of, line_kind, begins_near}
use Rattle.mddocument_editing.proofs.Anew.{anew-is}
use Rattle.mddocument_editing.proofs.rests.begins_anew.Goals as goal

pub returns-then-stands_alone : goal.returns-then-stands_alone
returns-then-stands_alone g c k number line closed list text is =
    let near : c.begins_near.result ≡ begins_near (line_kind c.args.on.now (text_of line)) = c.begins_near.ensures ∙ ap begins_near c.line_kind.ensures.value ∙ ap (λ t. begins_near (line_kind c.args.on.now t)) (sym text) in
    sym (ap (λ b. b && c.begins_near.result) c.if-stands_alone.true)
    ∙ anew-is c.args.on.now k number line c.args.row.now c.args.seen.is_closed c.stands_alone.result c.begins_near.result closed is (c.stands_alone.ensures number k.before.stack list) near

pub returns-else-stands_alone : goal.returns-else-stands_alone
returns-else-stands_alone g c k number line closed list text is =
    let near = begins_near (line_kind c.args.on.now (text_of line)) in
    c.if-stands_alone.false
    ∙ sym (ap (λ b. b && near) c.if-stands_alone.false)
    ∙ anew-is c.args.on.now k number line c.args.row.now c.args.seen.is_closed c.stands_alone.result near closed is (c.stands_alone.ensures number k.before.stack list) refl
