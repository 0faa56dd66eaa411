-- Inner: what arguments choose, one after another, for private functions. No public clause cites this file.
use Rattle.std.specs.Prelude.{ℕ, true, List, [], ◌∷◌, Option, Some, None, unwrap_or, codes, cond}
use Rattle.std.specs.Option.{option_and_then, option_map}
use Rattle.std.specs.Str.{bytes_eq}
use Rattle.mdevents_program.specs.declared.choice.Choice.{Choice}
use Rattle.mdevents_program.specs.declared.arguments.SoFar.{SoFar}
use Rattle.mdevents_program.specs.declared.choice.Which.TheVariants.{Lines}
use Rattle.mdevents_program.specs.Choices.{choice_together}
use Rattle.mdevents_program.specs.Arguments.{which_of}
use Rattle.mdprograms.specs.Numbers.{decimal_of, tab_size_of}

-- a value, if there was none before
abbrev pub once : {A : Type 0} → Option A → Option A → Option A
once None value = value
once (Some x) value = None

-- what came so far and an option with its value: `--cut` and a number, `--machine` and a name, or `--tab` and a tab size
abbrev pub with_value : SoFar → List ℕ → List ℕ → Option SoFar
with_value so_far option value =
    cond (bytes_eq option (codes "--cut")) (option_map (λ n. record { cut = Some n; deep = so_far.deep; machine = so_far.machine; tab = so_far.tab }) (once so_far.cut (decimal_of value)))
    (cond (bytes_eq option (codes "--machine")) (option_map (λ which. record { cut = so_far.cut; deep = so_far.deep; machine = Some which; tab = so_far.tab }) (once so_far.machine (which_of value)))
    (cond (bytes_eq option (codes "--tab")) (option_map (λ t. record { cut = so_far.cut; deep = so_far.deep; machine = so_far.machine; tab = Some t }) (once so_far.tab (tab_size_of value))) None))

-- the choice of what came so far
abbrev pub taken_of : SoFar → Option Choice
taken_of so_far = choice_together so_far.cut so_far.deep (unwrap_or so_far.machine Lines) (unwrap_or so_far.tab 4)

-- what arguments choose after what came so far: `--deep`, if it did not come before, or an option with its value
abbrev pub chosen_after : SoFar → List (List ℕ) → Option Choice
chosen_after so_far [] = taken_of so_far
chosen_after so_far (option ∷ []) =
    cond (bytes_eq option (codes "--deep")) (cond so_far.deep None (taken_of (record { cut = so_far.cut; deep = true; machine = so_far.machine; tab = so_far.tab }))) None
chosen_after so_far (option ∷ value ∷ words) =
    cond (bytes_eq option (codes "--deep")) (cond so_far.deep None (chosen_after (record { cut = so_far.cut; deep = true; machine = so_far.machine; tab = so_far.tab }) (value ∷ words)))
    (option_and_then (λ new. chosen_after new words) (with_value so_far option value))
