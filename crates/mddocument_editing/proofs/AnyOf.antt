-- What is among events none of which passes a test.
use Rattle.mddocument_editing.proofs.Prelude.{◌≡◌, ℕ, ◌||◌, Bool, true, false, List, [], ◌∷◌, ◌∙◌, refl, append-nil, Event, list_any}
use Rattle.markdown_base.specs.declared.event.Name.TheVariants as name
use Rattle.mddocument_link_targets.specs.Spans.{enters}
use Rattle.mddocument_link_targets.specs.Targets.{enters_link}
use Rattle.mddocument_editing.specs.Said.{link_labels, saids}

-- neither of two tests passes
pub neither : (a b : Bool) → (a || b) ≡ false → (a ≡ false) × (b ≡ false)
neither false b h = (refl, h)
neither true b h = absurd (cc h)

pub none-said : (bytes : List ℕ) (es : List Event) → list_any (enters name.Definition) es ≡ false → saids bytes es ≡ []
none-said bytes [] none = refl
none-said bytes (e ∷ es) none =
    let p = neither (enters name.Definition e) (list_any (enters name.Definition) es) none in
    rw p.0 (none-said bytes es p.1)

pub none-labelled : (bytes : List ℕ) (es : List Event) → list_any enters_link es ≡ false → link_labels bytes es ≡ []
none-labelled bytes [] none = refl
none-labelled bytes (e ∷ es) none =
    let p = neither (enters_link e) (list_any enters_link es) none in
    rw p.0 (append-nil (link_labels bytes es) ∙ none-labelled bytes es p.1)
