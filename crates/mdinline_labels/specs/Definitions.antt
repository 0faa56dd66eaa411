-- Link reference definitions (CommonMark, "Link reference definitions"), at the front of a text whose line endings are line feeds. No states.
use Rattle.std.specs.Prelude.{ℕ, zero, suc, ◌+◌, ◌==◌, ◌&&◌, false, cond, List, [], ◌∷◌, drop, take, Option, Some, None}
use Rattle.std.specs.List.{prefix_len}
use Rattle.std.specs.Option.{option_map, option_and_then, option_or}
use Rattle.mdinline_labels.specs.declared.definitions.Stretch.{Stretch}
use Rattle.mdinline_labels.specs.declared.definitions.Definition.{Definition}
use Rattle.mdinline_labels.specs.Labels.{is_label}
use Rattle.mdinline_labels.specs.Tails.{is_white, begins_with, line_ends, label_size, destination_size, title_size, gap}

abbrev pub stretch_at : (from size : ℕ) → Stretch
stretch_at from size = record { from = from; size = size }

-- where a stretch ends
abbrev pub end : Stretch → ℕ
end s = s.from + s.size

-- The label that a text begins with, behind white space, with its brackets, if a colon comes behind it
abbrev pub label_at : List ℕ → Option Stretch
label_at text =
    let from = prefix_len is_white text in
    cond (begins_with 91 (drop from text))
    (option_and_then
    (λ n. cond (is_label (take n (drop (from + 1) text)) && begins_with 58 (drop (from + n + 2) text)) (Some (stretch_at from (n + 2))) None)
    (label_size (drop (from + 1) text)))
    None

-- The destination behind so many bytes and white space, with its marks
abbrev pub destination_at : List ℕ → (at : ℕ) → Option Stretch
destination_at text at = let from = at + gap (drop at text) in option_map (stretch_at from) (destination_size (drop from text))

-- The title behind so many bytes and some white space, with its marks
abbrev pub title_at : List ℕ → (at : ℕ) → Option Stretch
title_at text at =
    let white = gap (drop at text) in
    cond (white == 0) None (option_map (stretch_at (at + white)) (title_size (drop (at + white) text)))

-- how many bytes of white space are left of the line, if nothing else is
abbrev pub line_left : List ℕ → Option ℕ
line_left text = let n = prefix_len is_white text in cond (line_ends (drop n text)) (Some n) None

-- where a part ends, or what comes before it, if it is not there
abbrev pub end_of : Option Stretch → (before : Stretch) → ℕ
end_of None before = end before
end_of (Some s) before = end s

-- a definition with this title or none, if nothing else is in its last line
abbrev pub ended : List ℕ → (label destination : Stretch) → (title : Option Stretch) → Option Definition
ended text label destination title =
    let at = end_of title destination in
    option_map (λ n. record { label = label; destination = destination; title = title; size = at + n }) (line_left (drop at text))

-- A definition with its title, if nothing else is in the title's last line; or else without
abbrev pub titled_or_not : List ℕ → (label destination : Stretch) → (title : Option Stretch) → Option Definition
titled_or_not text label destination title = option_or (ended text label destination title) (ended text label destination None)

-- The definition that a text begins with, if it begins with one: up to the end of its last line
abbrev pub definition_at : List ℕ → Option Definition
definition_at text =
    option_and_then
    (λ label. option_and_then (λ destination. titled_or_not text label destination (title_at text (end destination))) (destination_at text (end label + 1)))
    (label_at text)

-- The definitions at the front of a text, one after another: each begins in the line behind the one before. So many bytes are passed over first
abbrev pub definitions_from : (skip : ℕ) → List ℕ → List Definition
definitions_from skip [] = []
definitions_from (suc skip) (b ∷ bs) = definitions_from skip bs
definitions_from zero (b ∷ bs) = elim (definition_at (b ∷ bs)) [ None ↦ [] | Some d ↦ d ∷ definitions_from d.size bs ]

abbrev pub definitions : List ℕ → List Definition
definitions text = definitions_from 0 text

-- What is left of a text behind its definitions
abbrev pub rest_from : (skip : ℕ) → List ℕ → List ℕ
rest_from skip [] = []
rest_from (suc skip) (b ∷ bs) = rest_from skip bs
rest_from zero (b ∷ bs) = elim (definition_at (b ∷ bs)) [ None ↦ b ∷ bs | Some d ↦ rest_from d.size bs ]

abbrev pub rest : List ℕ → List ℕ
rest text = rest_from 0 text
