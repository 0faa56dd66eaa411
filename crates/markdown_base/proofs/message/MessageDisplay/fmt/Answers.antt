use Rattle.markdown_base.proofs.Prelude.{append_assoc, refl, put_two}
use Rattle.markdown_base.proofs.message.MessageDisplay.fmt.Goals as goal

pub returns-clause-writes : goal.returns-clause-writes
returns-clause-writes g c = λ plain ok.
    let first = c.in_ok-write_prefix.ensures plain refl in
    put_two _ _ _ _ _ _ _ first (c.write.ensures.writes first.plain ok)
    (simp (c.as_str-reason.ensures, c.as_str-source.ensures, c.as_ref.ensures, c.as_str-rule_id.ensures, c.as_ref-2.ensures, append_assoc))
