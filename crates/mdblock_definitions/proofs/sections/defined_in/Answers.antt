use Rattle.std.proofs.Common.{◌≡◌, arith, refl, sym, take, ◌∙◌, ℕ, List, ap, length}
use Rattle.mdblock_definitions.proofs.BracketLemmas.{bare-defined, some-begins}
use Rattle.mdblock_definitions.proofs.SectionLemmas.{paragraph-definitions, paragraph-lines, texts-by, these-front}
use Rattle.mdblock_definitions.proofs.SectionCosts.{bytes-some, text-size}
use Rattle.mdblock_definitions.specs.Costs.{bytes_in}
use Rattle.std.proofs.lemmas.List.{length-take-le}
use Rattle.mdblock_definitions.proofs.sections.defined_in.Goals as goal

pub hold_lines-requires : goal.hold_lines-requires
hold_lines-requires g c κs within =
    let size = c.paragraph_size-size.result in
    let front = these-front c.args.tab c.args.bytes.now size c.args.rows.now c.requires.all c.requires.are in
    (within, texts-by c.args.tab c.args.bytes.now (take size c.args.rows.now) (take size c.requires.all) front.texts)

pub returns-then-not-begins-clause-lines : goal.returns-then-not-begins-clause-lines
returns-then-not-begins-clause-lines g c = λ all these. c.none-then-not-begins.ensures ∙ bare-defined c.args.on.now all (sym (c.in_ok-begins.ensures.value all these) ∙ c.if-not-begins.true)

pub returns-then-not-begins-clause-definitions : goal.returns-then-not-begins-clause-definitions
returns-then-not-begins-clause-definitions g c = λ all these some. absurd (omega (arith, some, c.none-then-not-begins.ensures))

pub returns-clause-lines : goal.returns-clause-lines
returns-clause-lines g c = λ all these.
    let size = c.paragraph_size-size.result in
    let first = take size c.args.rows.now in
    let text = c.as_slice-text.result.now in
    let is : text ≡ _ = c.as_slice-text.ensures.value ∙ c.in_ok-hold_lines.ensures.text in
    paragraph-lines c.args.tab c.args.bytes.now c.args.rows.now all size these c.paragraph_size-size.ensures.value first refl text is c.args.on.now c.lines_before-lines.result c.in_ok-front.front.end c.if-not-on.false
    c.lines_before-lines.ensures c.in_ok-front.ensures.rest

pub returns-clause-definitions : goal.returns-clause-definitions
returns-clause-definitions g c = λ all these some.
    let size = c.paragraph_size-size.result in
    let first = take size c.args.rows.now in
    let text = c.as_slice-text.result.now in
    let is : text ≡ _ = c.as_slice-text.ensures.value ∙ c.in_ok-hold_lines.ensures.text in
    paragraph-definitions c.args.tab c.args.bytes.now c.args.rows.now all size these c.paragraph_size-size.ensures.value first refl text is c.in_ok-front.front.definitions.items c.in_ok-front.ensures.definitions

pub returns-in_err-hold_lines-clause-turns : goal.returns-in_err-hold_lines-clause-turns
returns-in_err-hold_lines-clause-turns g c =
    let t = c.args.tab in
    let bytes = c.args.bytes.now in
    let rows = c.args.rows.now in
    let size = c.paragraph_size-size.result in
    let first = some-begins t bytes rows c.requires.all c.requires.are (sym (c.in_ok-begins.ensures.value c.requires.all c.requires.are) ∙ c.if-not-begins.false) in
    let few = length-take-le size rows c.paragraph_size-size.ensures.within in
    let some = bytes-some t bytes (take size rows) in
    let paragraph = ap (λ n. bytes_in t bytes (take n rows)) c.paragraph_size-size.ensures.value in
    omega (arith, first, few, some, paragraph, c.begins_defining.ensures.turns, c.paragraph_size-size.ensures.turns, c.hold_lines.ensures.turns)

pub returns-in_err-front-clause-turns : goal.returns-in_err-front-clause-turns
returns-in_err-front-clause-turns g c =
    let t = c.args.tab in
    let bytes = c.args.bytes.now in
    let rows = c.args.rows.now in
    let size = c.paragraph_size-size.result in
    let first = some-begins t bytes rows c.requires.all c.requires.are (sym (c.in_ok-begins.ensures.value c.requires.all c.requires.are) ∙ c.if-not-begins.false) in
    let few = length-take-le size rows c.paragraph_size-size.ensures.within in
    let some = bytes-some t bytes (take size rows) in
    let paragraph = ap (λ n. bytes_in t bytes (take n rows)) c.paragraph_size-size.ensures.value in
    let text = ap (λ (l : List ℕ). length l) (c.as_slice-text.ensures.value ∙ c.in_ok-hold_lines.ensures.text) in
    omega (arith, first, few, some, paragraph, text, text-size t bytes (take size rows), c.begins_defining.ensures.turns, c.paragraph_size-size.ensures.turns, c.hold_lines.ensures.turns, c.front_of.ensures.turns)

pub returns-clause-turns : goal.returns-clause-turns
returns-clause-turns g c =
    let t = c.args.tab in
    let bytes = c.args.bytes.now in
    let rows = c.args.rows.now in
    let size = c.paragraph_size-size.result in
    let first = some-begins t bytes rows c.requires.all c.requires.are (sym (c.in_ok-begins.ensures.value c.requires.all c.requires.are) ∙ c.if-not-begins.false) in
    let few = length-take-le size rows c.paragraph_size-size.ensures.within in
    let some = bytes-some t bytes (take size rows) in
    let paragraph = ap (λ n. bytes_in t bytes (take n rows)) c.paragraph_size-size.ensures.value in
    let text = ap (λ (l : List ℕ). length l) (c.as_slice-text.ensures.value ∙ c.in_ok-hold_lines.ensures.text) in
    omega (arith, first, few, some, paragraph, text, text-size t bytes (take size rows), c.begins_defining.ensures.turns, c.paragraph_size-size.ensures.turns, c.hold_lines.ensures.turns, c.front_of.ensures.turns)
