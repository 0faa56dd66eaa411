use Rattle.std.proofs.Common.{◌∙◌, ap, length}
use Rattle.limecove.specs.declared.Answer.{Answer}
use Rattle.limecove.specs.Editing.{written}
use Rattle.limecove.proofs.SafeBytes.{safe-whole}
use Rattle.limecove.proofs.html.limecove_html.Goals as goal

pub returns-in-Ok-clause-safe : goal.returns-in-Ok-clause-safe
returns-in-Ok-clause-safe c = λ read none fits.
    safe-whole c.args.out.now c.write_bytes.new.out c.in-Ok.html.items c.ended.result.count
    (ap (λ (a : Answer). a.count) c.ended.ensures ∙ c.write_bytes.ensures.count ∙ ap length c.as_slice.ensures.value)
    (c.write_bytes.ensures.written ∙ ap (written c.args.out.now) c.as_slice.ensures.value)
    fits
    (c.in-Ok.ensures.safe none)
