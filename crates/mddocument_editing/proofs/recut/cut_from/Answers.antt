use Rattle.mddocument_editing.proofs.Prelude.{◌<◌, [], length, get_or, Global, Vec, ℕ, bytes_of_sections, items_of, AreSectionsOf, IsSeam}
use Rattle.mddocument_editing.proofs.NearCuts.{some-is}
use Rattle.mddocument_editing.proofs.PutKept.{put-near}
use Rattle.mddocument_editing.proofs.recut.cut_from.Goals as goal

pub returns-in-Some : goal.returns-in-Some
returns-in-Some c =
    let k = c.args.kept.now in
    let told = c.in_ok-parts.ensures in
    let is = c.in-Some.is in
    let are = some-is (λ (parts : Vec (Vec ℕ Global) Global). AreSectionsOf k.options c.args.text.items (items_of parts.items)) is told.parts in
    let near = some-is (λ (parts : Vec (Vec ℕ Global) Global). IsSeam k.options (items_of parts.items) (get_or (bytes_of_sections k.sections.items) c.args.behind [])) is told.seam in
    let lt = some-is (λ (parts : Vec (Vec ℕ Global) Global). c.args.behind < length k.sections.items) is told.within in
    let put = put-near k c.args.from c.args.behind c.args.text.items c.requires.kept.divided c.requires.order c.requires.limit c.requires.seam are near lt in
    record { recut = put.recut; bytes = put.bytes }
