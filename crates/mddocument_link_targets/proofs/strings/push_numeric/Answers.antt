use Rattle.std.proofs.Common.{◌≤◌, inl, inr, subst, sym, ◌∙◌, arith}
use Rattle.std.specs.Str.Parse.{IsNumeral}
use Rattle.mddocument_link_targets.proofs.Numerals.{numerals, numerals-utf8}
use Rattle.mddocument_link_targets.proofs.strings.push_numeric.Goals as goal

-- src/strings.rt:62:44
pub numeric-requires-clause-digits : goal.numeric-requires-clause-digits
numeric-requires-clause-digits c =
    subst (IsNumeral c.args.base) (sym c.in-Ok.ensures.cases.0) (numerals c.args.base c.args.digits.now (sym c.is_numeral.ensures ∙ c.if-not-is_numeral.false))

-- src/strings.rt:54:1
pub returns-in-Err : goal.returns-in-Err
returns-in-Err c =
    let small : c.args.base ≤ 36 = elim c.requires [ inl h ↦ omega (arith, h) | inr h ↦ omega (arith, h) ] in
    absurd (c.in-Err.ensures.cases.0 (numerals-utf8 c.args.base small c.args.digits.now (sym c.is_numeral.ensures ∙ c.if-not-is_numeral.false)))
