use Rattle.mdconstructs_machines.proofs.Prelude.{refl}
use Rattle.mdconstructs_machines.proofs.message.refusal.Goals as goal

pub returns : goal.returns
returns c =
    rw (c.from_box.ensures, c.in_ok-place.ensures.ok, c.new.ensures, c.from_string-reason.ensures, c.in_ok-from_str.ensures.ok, c.in_ok-rule_id.ensures, c.in_ok-source.ensures) refl
