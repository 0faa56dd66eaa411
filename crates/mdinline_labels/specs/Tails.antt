-- Labels, destinations and titles, and what lies between them (CommonMark, "Links", "Link reference definitions"): how many bytes each has at the
-- front of a text, if it is there. Line endings are line feeds. The definitions have no states but flags of what came before: a
-- backslash hides the next byte; the line so far is white space.
use Rattle.std.specs.Prelude.{ℕ, ◌+◌, ◌-◌, ◌==◌, ◌&&◌, ◌||◌, not, nat_le, Bool, true, false, cond, List, [], ◌∷◌, drop, Option, Some, None}
use Rattle.std.specs.List.{prefix_len}
use Rattle.std.specs.Option.{option_map, option_and_then, is_some}
use Rattle.mdinline_labels.specs.Labels.{hides}

-- white space: a space or a tab
abbrev pub is_white : ℕ → Bool
is_white b = (b == 32) || (b == 9)

-- white space and control characters end a destination without marks. NUL does not: it is U+FFFD (CommonMark 0.31, 2.3)
abbrev pub ends_raw : ℕ → Bool
ends_raw b = (nat_le 1 b && nat_le b 32) || (b == 127)

-- a text begins with this byte
abbrev pub begins_with : ℕ → List ℕ → Bool
begins_with b [] = false
begins_with b (c ∷ cs) = c == b

-- a line ends there: a line ending comes, or nothing
abbrev pub line_ends : List ℕ → Bool
line_ends [] = true
line_ends (b ∷ bs) = b == 10

-- whether only white space stands in the line so far, behind a byte
abbrev pub bare_behind : (bare : Bool) → ℕ → Bool
bare_behind bare b = (b == 10) || (bare && is_white b)

-- a byte is this one, and is not hidden
abbrev pub is_plain : (wanted : ℕ) → (hidden : Bool) → ℕ → Bool
is_plain wanted hidden b = (b == wanted) && not hidden

-- one byte more
abbrev pub one_more : Option ℕ → Option ℕ
one_more size = option_map (λ n. n + 1) size

-- Behind the first of two marks: up to the second, over no other first one that is not hidden and no blank line. `bare`: only white space
-- stands in the line so far. The two may be the same mark
abbrev pub marked_size : (first last : ℕ) → (bare hidden : Bool) → List ℕ → Option ℕ
marked_size first last bare hidden [] = None
marked_size first last bare hidden (b ∷ bs) =
    cond (is_plain last hidden b) (Some 0)
    (cond (is_plain first hidden b || (bare && (b == 10))) None
    (one_more (marked_size first last (bare_behind bare b) (hides hidden b) bs)))

-- Behind a `[`: the label up to its `]`
abbrev pub label_size : List ℕ → Option ℕ
label_size bs = marked_size 91 93 false false bs

-- Behind a `<`: a destination up to its `>`, in one line
abbrev pub enclosed_size : (hidden : Bool) → List ℕ → Option ℕ
enclosed_size hidden [] = None
enclosed_size hidden (b ∷ bs) =
    cond (is_plain 62 hidden b) (Some 0)
    (cond (is_plain 60 hidden b || (b == 10)) None
    (one_more (enclosed_size (hides hidden b) bs)))

-- a destination without marks ends here: all its parentheses are closed
abbrev pub raw_end : (depth : ℕ) → Option ℕ
raw_end depth = cond (depth == 0) (Some 0) None

-- a size, with so many bytes before it
abbrev pub behind : ℕ → Option ℕ → Option ℕ
behind n size = option_map (λ m. n + m) size

-- how many parentheses are open behind a byte
abbrev pub depth_behind : (depth : ℕ) → (hidden : Bool) → ℕ → ℕ
depth_behind depth hidden b = cond (is_plain 40 hidden b) (depth + 1) (cond (is_plain 41 hidden b) (depth - 1) depth)

-- a destination without marks ends at this byte
abbrev pub is_raw_end : (depth : ℕ) → (hidden : Bool) → ℕ → Bool
is_raw_end depth hidden b = ends_raw b || (is_plain 41 hidden b && (depth == 0))

-- A destination without marks, with so many parentheses open: it ends at white space, at a control character, or at a parenthesis that closes none.
-- Never are more than 32 open
abbrev pub raw_size : (depth : ℕ) → (hidden : Bool) → List ℕ → Option ℕ
raw_size depth hidden [] = raw_end depth
raw_size depth hidden (b ∷ bs) =
    cond (is_raw_end depth hidden b) (raw_end depth)
    (cond (is_plain 40 hidden b && nat_le 32 depth) None
    (one_more (raw_size (depth_behind depth hidden b) (hides hidden b) bs)))

-- A destination, with its marks; one without marks has a byte at least
abbrev pub destination_size : List ℕ → Option ℕ
destination_size bs =
    cond (begins_with 60 bs) (option_map (λ n. n + 2) (enclosed_size false (drop 1 bs)))
    (option_and_then (λ n. cond (n == 0) None (Some n)) (raw_size 0 false bs))

-- the mark that ends a title which this one begins, if it begins one
abbrev pub title_end : ℕ → Option ℕ
title_end b = cond ((b == 34) || (b == 39)) (Some b) (cond (b == 40) (Some 41) None)

-- a text begins with a mark that begins a title
abbrev pub begins_title : List ℕ → Bool
begins_title [] = false
begins_title (b ∷ bs) = is_some (title_end b)

-- A title, with its marks: over no blank line, and in parentheses over no other one
abbrev pub title_size : List ℕ → Option ℕ
title_size [] = None
title_size (b ∷ bs) = option_and_then (λ close. option_map (λ n. n + 2) (marked_size b close false false bs)) (title_end b)

-- White space with at most one line ending
abbrev pub gap : List ℕ → ℕ
gap bs =
    let n = prefix_len is_white bs in
    cond (begins_with 10 (drop n bs)) (n + 1 + prefix_len is_white (drop (n + 1) bs)) n
