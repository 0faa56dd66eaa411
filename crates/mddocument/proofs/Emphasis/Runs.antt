-- Balanced events begin with an enter and end with an exit; and so does an attention sequence.
use Rattle.mddocument.proofs.Prelude.{◌≡◌, true, inl, inr, ◌⊎◌, List, [], ◌∷◌, ◌++◌, refl, sym, subst, ◌&&◌, not, and-right, Event, Enter, Exit, AttentionSequence, IsBalanced, empty, is_enter, same_name, and-left, is_sequence}
use Rattle.markdown_base.specs.Events.{span}
use Rattle.markdown_base.proofs.Facts.Kinds.{enter-is, exit-is}
use Rattle.mddocument.proofs.Emphasis.Pairs.{Opens, Shut}

-- ---- balanced events begin with an enter and end with an exit
pub balanced-opens : {es : List Event} → IsBalanced es → Opens es
balanced-opens empty = tt
balanced-opens (span e f us vs {l} is en ex same b c) = subst Opens (sym is) en

shut-back : (us : List Event) (f : Event) (vs : List Event) → f.kind ≡ Exit → Shut vs → Shut (us ++ f ∷ vs)
shut-back [] f [] exits h = exits
shut-back [] f (v ∷ vs) exits h = h
shut-back (u ∷ []) f vs exits h = shut-back [] f vs exits h
shut-back (u ∷ w ∷ us) f vs exits h = shut-back (w ∷ us) f vs exits h

pub balanced-shut : {es : List Event} → IsBalanced es → Shut es
balanced-shut empty = tt
balanced-shut (span e f us vs {l} is en ex same b c) = subst Shut (sym is) (shut-back (e ∷ us) f vs ex (balanced-shut c))

pub opens-behind : (text es : List Event) → IsBalanced text → (text ≡ [] → ⊥) ⊎ Opens es → Opens (text ++ es)
opens-behind [] es b (inl some) = absurd (some refl)
opens-behind [] es b (inr h) = h
opens-behind (t ∷ ts) es b h = balanced-opens b

-- ---- attention sequences
pub sequence-kinds : (e f : Event) → is_sequence e f ≡ true → (e.kind ≡ Enter) × (f.kind ≡ Exit) × (same_name e.name AttentionSequence ≡ true)
sequence-kinds e f h =
    let first = and-left (is_enter e.kind && same_name e.name AttentionSequence) (not (is_enter f.kind) && same_name f.name AttentionSequence) h in
    let second = and-right (is_enter e.kind && same_name e.name AttentionSequence) (not (is_enter f.kind) && same_name f.name AttentionSequence) h in (
      enter-is e.kind (and-left (is_enter e.kind) (same_name e.name AttentionSequence) first),
      exit-is f.kind (and-left (not (is_enter f.kind)) (same_name f.name AttentionSequence) second),
      and-right (is_enter e.kind) (same_name e.name AttentionSequence) first,
    )
