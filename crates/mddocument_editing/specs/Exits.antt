-- Inner: exits among events whose enters are before these, for private functions.
use Rattle.std.specs.Prelude.{ℕ, suc, List, [], ◌∷◌, drop}
use Rattle.markdown_base.specs.declared.event.Event.{Event}
use Rattle.markdown_base.specs.declared.event.Kind.{Kind}
use Rattle.markdown_base.specs.declared.event.Kind.TheVariants.{Enter, Exit}

-- An event comes before, at an index: an exit is one more, and the innermost one is that of an enter
abbrev pub exits_before : Kind → (at : ℕ) → List ℕ → List ℕ
exits_before Enter at exits = drop 1 exits
exits_before Exit at exits = at ∷ exits

-- The indices of the exits whose enters are before these events, the innermost first, by the index of the first event
abbrev pub exits_from : (at : ℕ) → List Event → List ℕ
exits_from at [] = []
exits_from at (e ∷ es) = exits_before e.kind at (exits_from (suc at) es)
