-- What tries for resources pass, byte by byte, whether a resource is there or not: each definition goes on where a part of a resource ends.
use Rattle.std.specs.Prelude.{ℕ, ◌+◌, ◌==◌, ◌&&◌, ◌||◌, nat_le, Bool, false, cond, List, [], ◌∷◌, drop}
use Rattle.mdinline_labels.specs.Labels.{hides}
use Rattle.mdinline_labels.specs.Tails.{bare_behind, begins_with, depth_behind, ends_raw, gap, is_plain, is_raw_end}

-- behind the first mark of a title: the title, and the white space behind it
abbrev pub title_look : (first last : ℕ) → (bare hidden : Bool) → List ℕ → ℕ
title_look first last bare hidden [] = 0
title_look first last bare hidden (b ∷ bs) =
    cond (is_plain last hidden b) (1 + gap bs)
    (cond (is_plain first hidden b || (bare && (b == 10))) 0 (1 + title_look first last (bare_behind bare b) (hides hidden b) bs))

-- where a title may begin, with a mark
abbrev pub title_start_look : List ℕ → ℕ
title_start_look [] = 0
title_start_look (b ∷ bs) =
    cond (b == 34) (1 + title_look 34 34 false false bs)
    (cond (b == 39) (1 + title_look 39 39 false false bs)
    (cond (b == 40) (1 + title_look 40 41 false false bs) 0))

-- behind a destination: white space, and then maybe a title
abbrev pub behind_look : List ℕ → ℕ
behind_look bs = cond (gap bs == 0) 0 (gap bs + title_start_look (drop (gap bs) bs))

-- in a destination without marks, with so many parentheses open
abbrev pub raw_look : (depth : ℕ) → (hidden : Bool) → List ℕ → ℕ
raw_look depth hidden [] = 0
raw_look depth hidden (b ∷ bs) =
    cond (is_raw_end depth hidden b) (cond (depth == 0) (behind_look (b ∷ bs)) 0)
    (cond (is_plain 40 hidden b && nat_le 32 depth) 0
    (1 + raw_look (depth_behind depth hidden b) (hides hidden b) bs))

-- in one with marks, behind `<`
abbrev pub enclosed_look : (hidden : Bool) → List ℕ → ℕ
enclosed_look hidden [] = 0
enclosed_look hidden (b ∷ bs) =
    cond (is_plain 62 hidden b) (1 + behind_look bs)
    (cond (is_plain 60 hidden b || (b == 10)) 0 (1 + enclosed_look (hides hidden b) bs))

-- where a destination may begin
abbrev pub raw_start_look : List ℕ → ℕ
raw_start_look [] = 0
raw_start_look (b ∷ bs) = cond (ends_raw b || (b == 60)) 0 (raw_look 0 false (b ∷ bs))

abbrev pub enclosed_start_look : List ℕ → ℕ
enclosed_start_look [] = 0
enclosed_start_look (b ∷ bs) = cond (b == 60) (1 + enclosed_look false bs) 0

-- behind the `(` of a resource: white space, and then a destination
abbrev pub resource_look : List ℕ → ℕ
resource_look bs = let rest = drop (gap bs) bs in gap bs + (raw_start_look rest + enclosed_start_look rest)

-- All tries of a text: behind each `](`, with the parenthesis
abbrev pub looks : List ℕ → ℕ
looks [] = 0
looks (b ∷ bs) = cond ((b == 93) && begins_with 40 bs) (1 + resource_look (drop 1 bs)) 0 + looks bs
