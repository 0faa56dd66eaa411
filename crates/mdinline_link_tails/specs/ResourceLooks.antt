-- How far a look at a resource reads if none is there: how many bytes it passes, from the first parenthesis on, up to the one at which it is seen. And
-- the sum of that over the places of a text at which such a look may be made.
use Rattle.std.specs.Prelude.{ℕ, ◌+◌, ◌==◌, ◌&&◌, ◌||◌, nat_le, Bool, false, cond, List, [], ◌∷◌, drop, Option, Some, None}
use Rattle.mdinline_labels.specs.Labels.{hides}
use Rattle.mdinline_labels.specs.Tails.{bare_behind, begins_with, depth_behind, destination_size, gap, is_plain, is_raw_end, marked_size, title_end}

-- Behind a `<`: up to the byte that ends the destination, or may not be in it
abbrev pub enclosed_look : (hidden : Bool) → List ℕ → ℕ
enclosed_look hidden [] = 0
enclosed_look hidden (b ∷ bs) =
    cond (is_plain 62 hidden b) 0
    (cond (is_plain 60 hidden b || (b == 10)) 0
    (1 + enclosed_look (hides hidden b) bs))

-- A destination without marks, with so many parentheses open
abbrev pub raw_look : (depth : ℕ) → (hidden : Bool) → List ℕ → ℕ
raw_look depth hidden [] = 0
raw_look depth hidden (b ∷ bs) =
    cond (is_raw_end depth hidden b) 0
    (cond (is_plain 40 hidden b && nat_le 32 depth) 0
    (1 + raw_look (depth_behind depth hidden b) (hides hidden b) bs))

-- Behind the first of two marks, as the two of a title
abbrev pub marked_look : (first last : ℕ) → (bare hidden : Bool) → List ℕ → ℕ
marked_look first last bare hidden [] = 0
marked_look first last bare hidden (b ∷ bs) =
    cond (is_plain last hidden b) 0
    (cond (is_plain first hidden b || (bare && (b == 10))) 0
    (1 + marked_look first last (bare_behind bare b) (hides hidden b) bs))

-- behind the first mark of a title, which another one ends: the title and white space, if it is there
abbrev pub title_passed : List ℕ → (close : ℕ) → (size : Option ℕ) → ℕ
title_passed [] close size = 0
title_passed (b ∷ bs) close None = 1 + marked_look b close false false bs
title_passed (b ∷ bs) close (Some n) = n + 2 + gap (drop (n + 2) (b ∷ bs))

-- Where a title may begin
abbrev pub title_look : List ℕ → ℕ
title_look [] = 0
title_look (b ∷ bs) = elim (title_end b) [ None ↦ 0 | Some close ↦ title_passed (b ∷ bs) close (marked_size b close false false bs) ]

-- Behind a destination: white space, and maybe a title
abbrev pub tail_look : List ℕ → ℕ
tail_look text = let white = gap text in white + cond (white == 0) 0 (title_look (drop white text))

-- a destination of so many bytes, and what is behind it; or what may be one
abbrev pub destination_passed : List ℕ → (size : Option ℕ) → ℕ
destination_passed text None = cond (begins_with 60 text) (1 + enclosed_look false (drop 1 text)) (raw_look 0 false text)
destination_passed text (Some n) = n + tail_look (drop n text)

-- Where a destination may begin
abbrev pub destination_look : List ℕ → ℕ
destination_look text = destination_passed text (destination_size text)

-- From where a resource may begin
abbrev pub resource_look : List ℕ → ℕ
resource_look text = cond (begins_with 40 text) (let from = 1 + gap (drop 1 text) in from + destination_look (drop from text)) 0

-- The sum of a number over the places behind each `]`
abbrev pub behind_brackets : (part : List ℕ → ℕ) → List ℕ → ℕ
behind_brackets part [] = 0
behind_brackets part (b ∷ bs) = cond (b == 93) (part bs) 0 + behind_brackets part bs

-- A look may be made at each: how many bytes all of them pass
abbrev pub looks : List ℕ → ℕ
looks text = behind_brackets resource_look text
