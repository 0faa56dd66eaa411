use Rattle.markdown_edits.proofs.Prelude.{◌≡◌, ◌++◌, ◌∷◌, [], ◌-◌, List, length, take, append_assoc, ap, subst, ◌∙◌, Edit, edit_at, IsAscending}
use Rattle.markdown_edits.proofs.Edits.Puts.{IsAscending-last}
use Rattle.markdown_edits.proofs.edit_map.sink_last.Goals as goal

pub push_front-requires : goal.push_front-requires
push_front-requires c =
    let front = c.args.front.now in
    let behind = c.args.behind.now in
    let d : Edit = edit_at c.in-Some.index c.in-Some.remove c.in-Some.additions.now in
    let parted : front ++ behind ≡ take (length front - 1) front ++ d ∷ behind =
    ap (λ (es : List Edit). es ++ behind) c.in-Some.ensures.some ∙ append_assoc (take (length front - 1) front) (d ∷ []) behind in
    let last : IsAscending (d ∷ behind) = IsAscending-last (take (length front - 1) front) (d ∷ behind) (subst IsAscending parted c.requires.ascending) in
    last.0
