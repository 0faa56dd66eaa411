-- The last line of events is behind their last line ending.
use Rattle.std.proofs.Common.{◌≡◌, ℕ, suc, ◌+◌, ◌<◌, List, [], ◌∷◌, length, get_or, drop, ap, sym, refl, ◌∙◌, arith}
use Rattle.std.proofs.Math.Bool.{or-true}
use Rattle.std.proofs.lemmas.List.{drop_more}
use Rattle.std.specs.List.{list_any}
use Rattle.std.specs.Prelude.{zero, ◌||◌, true, false, cond}
use Rattle.markdown_base.proofs.SliceLemmas.{filler}
use Rattle.markdown_base.specs.declared.event.Event.{Event}
use Rattle.markdown_base.specs.declared.event.Name.TheVariants as name
use Rattle.mdhtml_document.specs.Values.{last_line}
use Rattle.mddocument_link_targets.specs.Spans.{enters}

any-at : (es : List Event) (j : ℕ) → j < length es → enters name.LineEnding (get_or es j filler) ≡ true → list_any (enters name.LineEnding) es ≡ true
any-at [] j h found = absurd (omega arith)
any-at (e ∷ es) zero h found = ap (λ b. b || list_any (enters name.LineEnding) es) found
any-at (e ∷ es) (suc j) h found = ap (λ b. enters name.LineEnding e || b) (any-at es j (omega arith) found) ∙ or-true (enters name.LineEnding e)

pub last-of-none : (es : List Event) → list_any (enters name.LineEnding) es ≡ false → last_line es ≡ es
last-of-none [] h = refl
last-of-none (e ∷ es) h = ap (λ b. cond b (last_line es) (e ∷ es)) h

pub last-behind : (es : List Event) (j : ℕ) → j < length es → enters name.LineEnding (get_or es j filler) ≡ true → list_any (enters name.LineEnding) (drop (j + 1) es) ≡ false
    → last_line es ≡ drop (j + 1) es
last-behind [] j h found none = absurd (omega arith)
last-behind (e ∷ es) zero h found none = ap (λ b. cond b (last_line es) (e ∷ es)) (any-at (e ∷ es) zero h found) ∙ last-of-none es none
last-behind (e ∷ es) (suc j) h found none =
    let next : suc j + 1 ≡ suc (j + 1) = omega arith in
    ap (λ b. cond b (last_line es) (e ∷ es)) (any-at (e ∷ es) (suc j) h found)
    ∙ last-behind es j (omega arith) found (sym (ap (λ n. list_any (enters name.LineEnding) (drop n (e ∷ es))) next) ∙ none)
    ∙ sym (ap (λ n. drop n (e ∷ es)) next)

-- an event more, from the end
pub none-more : (es : List Event) (j : ℕ) → j < length es → enters name.LineEnding (get_or es j filler) ≡ false → list_any (enters name.LineEnding) (drop (j + 1) es) ≡ false
    → list_any (enters name.LineEnding) (drop j es) ≡ false
none-more es j h found none =
    ap (list_any (enters name.LineEnding)) (drop_more es j filler h) ∙ ap (λ b. b || list_any (enters name.LineEnding) (drop (j + 1) es)) found ∙ none
