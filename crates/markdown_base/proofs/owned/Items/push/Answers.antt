use Rattle.markdown_base.proofs.owned.Items.push.Goals as goal

pub returns : goal.returns
returns g c = record { ok = rw c.self.view_is at c.in_ok-push.ensures.items; err = tt }
