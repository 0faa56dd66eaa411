-- The parts into which a link takes the runs of a text, by computation: its own come first, and each is in one part.
use Rattle.mddocument_laws.proofs.Prelude.{◌≡◌, ℕ, List, [], ◌∷◌, false, true, map, refl, codes, default_constructs, default_parse_options, point, virtual, Given, Text, empty_text, Run, read_events, runs_apart}
use Rattle.std.specs.Str.{chars, is_utf8}
use Rattle.mdinline_emphasis.specs.Unicode.{punctuation}
use lib.Utf8.{encode}
use Rattle.mdinline_emphasis.specs.Unicode.{white_space}

abbrev places : List ℕ → List (List ℕ)
places bytes =
    let g : Given = record { bytes = bytes; options = record default_parse_options { constructs = default_constructs }; tab = 4 } in
    let text : Text = record (empty_text (point 1 1 0 0)) { seats = virtual 4 bytes } in
    map (λ rs. map (λ (r : Run). r.start.index) rs) (runs_apart true bytes (read_events (λ label. false) g text))

around-link : places (codes "*[*a*](b)*") ≡ (2 ∷ 4 ∷ []) ∷ (0 ∷ 9 ∷ []) ∷ []
unfolding is_utf8 chars encode white_space punctuation
around-link = refl
