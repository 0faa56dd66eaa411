use Rattle.mddocument_editing.proofs.Prelude.{◌||◌, ◌-◌, length, drop, refl, sym, ap, ◌∙◌, or-false, every-drop, every-take, IsLabelled, bytes_of_parts, knows, is_written}
use Rattle.mddocument_editing.proofs.put.new_labels.Goals as goal
use Rattle.mddocument_editing.proofs.AnyOf.{neither}
use Rattle.mddocument_editing.proofs.NewLabels.{alike, defined-recut, kept-labelled, kept-recut}

pub define_sections-requires : goal.define_sections-requires
define_sections-requires c =
    let options = c.args.kept.now.options in
    let from = c.args.from in
    let end = c.args.end in
    let xs = c.as_slice-sections.result.now in
    every-take (λ section. IsLabelled options section.part) (end - from) (drop from xs)
    (every-drop (λ section. IsLabelled options section.part) from xs (kept-labelled c.args.kept.now c.as_slice-sections.ensures.value c.requires.kept))

pub define_sections-requires-2 : goal.define_sections-requires-2
define_sections-requires-2 c =
    every-take (λ section. IsLabelled c.args.kept.now.options section.part) c.args.from c.as_slice-sections.result.now (kept-labelled c.args.kept.now c.as_slice-sections.ensures.value c.requires.kept)

pub define_sections-requires-3 : goal.define_sections-requires-3
define_sections-requires-3 c =
    let options = c.args.kept.now.options in
    let xs = c.as_slice-sections.result.now in
    let end = c.args.end in
    every-take (λ section. IsLabelled options section.part) (length xs - end) (drop end xs)
    (every-drop (λ section. IsLabelled options section.part) end xs (kept-labelled c.args.kept.now c.as_slice-sections.ensures.value c.requires.kept))

pub returns-then-is_same-clause-none : goal.returns-then-is_same-clause-none
returns-then-is_same-clause-none c key =
    kept-recut c.args.kept.now c.as_slice-sections.ensures.value c.args.parts.now c.requires.recut c.requires.possible_now key c.requires.possible c.requires.kept
    (alike _ _ _ _ _ _ (c.in_ok-define_sections.ensures key) (c.new-gone.ensures key) (c.in_ok-define_parts.ensures key) (c.new-come.ensures key) (c.if-is_same.ensures refl key))

pub returns-then-is_same-2-clause-none : goal.returns-then-is_same-2-clause-none
returns-then-is_same-2-clause-none c key =
    let first = knows c.define_sections-2.new.labels key in
    let in_parts = is_written c.args.kept.now.options (bytes_of_parts c.args.parts.now) key in
    sym (c.if-is_same-2.ensures refl key)
    ∙ defined-recut c.args.kept.now c.as_slice-sections.ensures.value c.args.parts.now c.requires.recut c.requires.possible_now key (c.in_ok-define_sections-3.ensures key)
    (c.in_ok-define_all.ensures key ∙ ap (λ b. b || first) (c.in_ok-define_parts.ensures key ∙ ap (λ b. in_parts || b) (c.new-come.ensures key) ∙ or-false in_parts)) (c.in_ok-define_sections-2.ensures key)
    (c.new-labels.ensures key)

pub returns-clause-some : goal.returns-clause-some
returns-clause-some c key =
    let first = knows c.define_sections-2.new.labels key in
    let in_parts = is_written c.args.kept.now.options (bytes_of_parts c.args.parts.now) key in
    defined-recut c.args.kept.now c.as_slice-sections.ensures.value c.args.parts.now c.requires.recut c.requires.possible_now key (c.in_ok-define_sections-3.ensures key)
    (c.in_ok-define_all.ensures key ∙ ap (λ b. b || first) (c.in_ok-define_parts.ensures key ∙ ap (λ b. in_parts || b) (c.new-come.ensures key) ∙ or-false in_parts)) (c.in_ok-define_sections-2.ensures key)
    (c.new-labels.ensures key)

pub returns-clause-near : goal.returns-clause-near
returns-clause-near c key none =
    let first = knows c.define_sections-2.new.labels key in
    let in_parts = is_written c.args.kept.now.options (bytes_of_parts c.args.parts.now) key in
    let both = neither _ _ (sym (c.in_ok-define_all-2.ensures key) ∙ none) in
    kept-recut c.args.kept.now c.as_slice-sections.ensures.value c.args.parts.now c.requires.recut c.requires.possible_now key c.requires.possible c.requires.kept
    (alike _ _ _ _ _ _ (c.in_ok-define_sections.ensures key) (c.new-gone.ensures key) (c.in_ok-define_parts.ensures key) (c.new-come.ensures key) (both.0 ∙ sym both.1))
    ∙ sym (defined-recut c.args.kept.now c.as_slice-sections.ensures.value c.args.parts.now c.requires.recut c.requires.possible_now key (c.in_ok-define_sections-3.ensures key)
    (c.in_ok-define_all.ensures key ∙ ap (λ b. b || first) (c.in_ok-define_parts.ensures key ∙ ap (λ b. in_parts || b) (c.new-come.ensures key) ∙ or-false in_parts)) (c.in_ok-define_sections-2.ensures key)
    (c.new-labels.ensures key))
