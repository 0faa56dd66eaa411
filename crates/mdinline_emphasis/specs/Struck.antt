-- Which runs of tildes are in a strikethrough (GFM 0.29, 6.5 "Strikethrough").
use Rattle.std.specs.Prelude.{◌≡◌, ◌⊎◌, ℕ, Bool, true, List, [], ◌∷◌}
use Rattle.std.specs.List.{AllByRecursion}
use Rattle.markdown_base.specs.declared.event.Event.{Event}
use Rattle.mdinline_emphasis.specs.declared.pairs.Style.{Style}
use Rattle.mdinline_emphasis.specs.declared.pairs.Style.TheVariants.{Struck, StruckTwice}
use Rattle.mdinline_emphasis.specs.Emphasis.{Run, is_tilde, paired}
use Rattle.mdinline_emphasis.specs.Runs.{runs_in}

-- a run is in no pair
abbrev pub IsAlone : Run → Type 0
IsAlone r = (r.closed ≡ []) × (r.opened ≡ [])

-- a run closes one pair of a style, or opens one, and has no markers left
abbrev pub IsEndOf : Style → Run → Type 0
IsEndOf s r = (r.left ≡ 0) × (((r.closed ≡ s ∷ []) × (r.opened ≡ [])) ⊎ ((r.closed ≡ []) × (r.opened ≡ s ∷ [])))

-- "a matching pair of one or two tildes": a run is in no pair, or the whole of it is an end of a strikethrough, by two tildes or, if one counts, by one
abbrev pub IsStruck : (one_tilde : Bool) → Run → Type 0
IsStruck one_tilde r = IsAlone r ⊎ (((one_tilde ≡ true) × IsEndOf Struck r) ⊎ IsEndOf StruckTwice r)

-- of the runs of a text, with their pairs, each run of tildes is so
abbrev pub TildesAreWhole : Type 0
TildesAreWhole = (one_tilde : Bool) (bytes : List ℕ) (events : List Event) → AllByRecursion (λ r. is_tilde r.marker ≡ true → IsStruck one_tilde r) (paired (runs_in one_tilde bytes events))
