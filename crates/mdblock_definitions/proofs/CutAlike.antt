-- Lines of a part are cut alike, whatever spans are open before them.
use Rattle.std.proofs.Common.{◌≡◌, ℕ, zero, suc, ◌&&◌, Bool, cond, List, [], ◌∷◌, ap, drop, length, map, refl, take}
use Rattle.mdblock_containers.specs.Rows.{Row}
use Rattle.mdblock_containers.specs.Skeleton.{Frame, Part, further, parts, parts_in}
use Rattle.mdblock_definitions.specs.BlankLines as blank_lines
use Rattle.mdblock_definitions.specs.Sections.{begins_text, in_same, sections_of, undefined}

cut-alike : (around : Part) (bound : ℕ) (before : List Frame) (rs : List Row) → map (in_same around) (blank_lines.parts_in bound before rs) ≡ map (in_same around) (parts_in bound rs)
cut-alike around zero before rs = refl
cut-alike around (suc bound) before [] = refl
cut-alike around (suc bound) before (r ∷ rs) =
    let k = cond r.is_blank 0 (further rs) in
    let p : Part = record around { first = r; more = take k rs } in
    ap (λ (ps : List Part). p ∷ ps) (cut-alike around bound (blank_lines.frames_at before r rs) (drop k rs))

pub undefined-is : (is_behind : Bool) (around : Part) (rs : List Row) → undefined is_behind around rs ≡ sections_of (is_behind && begins_text rs) (map (in_same around) (parts rs))
undefined-is is_behind around rs = ap (sections_of (is_behind && begins_text rs)) (cut-alike around (length rs) [] rs)
