use Rattle.markdown_base.proofs.Prelude.{◌≡◌, ℕ, List, [], ◌∷◌, refl, ending_text, LineEnding, CarriageReturnLineFeed, CarriageReturn, LineFeed}
use Rattle.markdown_base.proofs.util.line_ending.LineEnding.parse.Goals as goal

-- a text that is none of the three is the text of no line ending
no_ending : (text : List ℕ) → (text ≡ 13 ∷ 10 ∷ [] → ⊥) → (text ≡ 13 ∷ [] → ⊥) → (text ≡ 10 ∷ [] → ⊥) → (e : LineEnding) → text ≡ ending_text e → ⊥
no_ending text both return feed CarriageReturnLineFeed same = both same
no_ending text both return feed CarriageReturn same = return same
no_ending text both return feed LineFeed same = feed same

pub returns-in_default : goal.returns-in_default
returns-in_default c = record {
  accepts = λ e. (λ same. cc, λ same. absurd (no_ending c.args.text.now c.in_default.not-text c.in_default.not-text-2 c.in_default.not-text-3 e same));
  refuses = refl;
}
