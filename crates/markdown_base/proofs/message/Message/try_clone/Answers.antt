use Rattle.markdown_base.proofs.Prelude.{◌≡◌, rules}
use Rattle.markdown_base.proofs.message.Message.try_clone.Goals as goal
use Rattle.markdown_base.proofs.message.Message.try_clone.Goals.{in-Some+in_ok-new-in-Some, in-None}

pub returns : goal.returns
returns c =
    let place : c.match-self.place ≡ c.args.self.now.place = elim c.match-self.branch [
      | in-Some+in_ok-new-in-Some w ↦ search rules
      | in-None w ↦ cc
    ] in
    simp (place, c.in_ok-try_clone.ensures, c.in_ok-boxed_clone.ensures, c.in_ok-boxed_clone-2.ensures)
