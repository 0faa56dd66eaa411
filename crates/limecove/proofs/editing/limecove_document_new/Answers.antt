use Rattle.std.proofs.Common.{subst, sym}
use Rattle.limecove.specs.Editing.{IsOf}
use Rattle.limecove.proofs.Opened.{also}
use Rattle.limecove.proofs.editing.limecove_document_new.Goals as goal

pub returns-in-Ok-clause-read : goal.returns-in-Ok-clause-read
returns-in-Ok-clause-read c read =
    also c.keep.new.document.kept.held _ _ (λ held kept. record {
      is = subst (IsOf c.args.options.now c.args.bytes.now) (sym kept.0) c.in-Ok.ensures.read;
      count = rw kept.0 kept.1.1;
      others = kept.1.0;
    }) (c.keep.ensures.kept read)
