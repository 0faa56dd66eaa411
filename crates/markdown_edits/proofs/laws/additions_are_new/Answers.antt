use Rattle.markdown_edits.proofs.Prelude.{◌≡◌, None, map, All-from_recursion, Change, as_change, of_list, place_in}
use Rattle.markdown_edits.proofs.Edits.Splices.{HasNo-edits}
use Rattle.markdown_edits.proofs.laws.additions_are_new.Goals as goal

pub returns : goal.returns
returns c = λ es n. All-from_recursion (λ (w : Change). place_in (of_list n) w.events ≡ None) (map as_change es) (HasNo-edits n es)
