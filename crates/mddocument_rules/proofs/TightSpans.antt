-- Spans in which neither items nor blocks stand: so it is of all spans in them. What stands in such a span and is no inline text stands anywhere but in a list.
use Rattle.mddocument_rules.proofs.Prelude.{◌≡◌, ◌∙◌, ℕ, zero, suc, ◌+◌, Bool, true, false, cond, not, List, [], ◌∷◌, ◌++◌, None, arith, drop, take, refl, sym, ap, subst, false_from_ne_true, false≢true, AllByRecursion, every-back, every-front, slice_get, option_and_then, ◌&&◌, ◌||◌, Event, Name, IsBalanced, empty, span, content_of, is_wanted, block_names, item_names, list_names, holds_blocks, inline_names, is_in, may_stand, text_names, between_names}
use Rattle.std.proofs.Common.{◌<◌, ◌≤◌}
use Rattle.mddocument_rules.proofs.Places.{ChunkFits, NotInList, Stands, by-wanted, free-inside, free-may, holders, is_free}
use Rattle.mddocument_rules.proofs.Walk.{MayBe, Stays, Walks, span-walks, stays-span, walks-span}

abbrev pub Tight : List Name → Type 0
Tight around = NotInList around × (holds_blocks around ≡ false)

-- a text is such a span
pub texts-tight : (around : List Name) → is_in text_names around ≡ true → Tight around
texts-tight [] h = absurd (false≢true h)
texts-tight (n ∷ around) h =
    by-wanted (λ m. (is_wanted list_names m ≡ false) × (is_wanted holders m ≡ false)) text_names n
    ((refl, refl), ((refl, refl), ((refl, refl), ((refl, refl), ((refl, refl), ((refl, refl), ((refl, refl), ((refl, refl), tt)))))))) h

-- ---- what stands there
-- it is no item, and no block
tight-name : (around : List Name) (n : Name) → Tight around → may_stand around n ≡ true → (is_wanted item_names n ≡ false) × (is_wanted block_names n ≡ false)
tight-name around n t m = (no-item, no-block)
  where
    rest : Bool
    rest = cond (is_wanted inline_names n) (is_in text_names around) (not (is_in list_names around) || is_wanted between_names n)

    no-item : is_wanted item_names n ≡ false
    no-item = false_from_ne_true (is_wanted item_names n) (λ i. false≢true (sym t.0 ∙ sym (ap (λ x. cond x (is_in list_names around) (cond (is_wanted block_names n) (holds_blocks around) rest)) i) ∙ m))

    no-block : is_wanted block_names n ≡ false
    no-block =
        false_from_ne_true (is_wanted block_names n)
        (λ b. false≢true (sym t.1 ∙ sym (ap (λ x. cond x (holds_blocks around) rest) b) ∙ sym (ap (λ x. cond x (is_in list_names around) (cond (is_wanted block_names n) (holds_blocks around) rest)) no-item) ∙ m))

-- and in it stand none
inside-tight : (around : List Name) (n : Name) → (is_wanted item_names n ≡ false) × (is_wanted block_names n ≡ false) → Tight (n ∷ around)
inside-tight around n h = (
  false_from_ne_true (is_wanted list_names n) (λ e. by-wanted (λ m. is_wanted block_names m ≡ false → ⊥) list_names n ((λ f. false≢true (sym f)), ((λ f. false≢true (sym f)), tt)) e h.1),
  false_from_ne_true (is_wanted holders n)
      (λ e. by-wanted (λ m. (is_wanted item_names m ≡ false) × (is_wanted block_names m ≡ false) → ⊥) holders n ((λ f. false≢true (sym f.1)), ((λ f. false≢true (sym f.0)), ((λ f. false≢true (sym f.1)), tt))) e h),
)

-- All that is around what stands there is such
pub tight-stays : {es : List Event} → IsBalanced es → (around : List Name) → Tight around → Walks (MayBe may_stand) around es → Stays Tight around es
tight-stays empty around t w = t
tight-stays (span e f xs ys is en ex same b c) around t w =
    let parts = span-walks (MayBe may_stand) e f xs ys is en ex b around w in
    let inner = inside-tight around e.name (tight-name around e.name t parts.0) in
    stays-span Tight e f xs ys is en ex b around t (tight-stays b (e.name ∷ around) inner parts.1) (tight-stays c around t parts.2)

-- ---- a gap between two chunks of a text
-- an event that is neither of inline text nor of a chunk
abbrev pub IsBare : Event → Type 0
IsBare e = (is_wanted inline_names e.name ≡ false) × (content_of e ≡ None)

pub gap-stands : {es : List Event} → IsBalanced es → AllByRecursion IsBare es → (around within : List Name) → Tight around → NotInList within → Walks Stands around es → Walks Stands within es
gap-stands empty h around within t ok w = tt
gap-stands (span e f xs ys is en ex same b c) h around within t ok w =
    let all : AllByRecursion IsBare (e ∷ (xs ++ f ∷ ys)) = subst (AllByRecursion IsBare) is h in
    let parts = span-walks Stands e f xs ys is en ex b around w in
    let names = tight-name around e.name t parts.0.0 in
    let free : is_free e.name ≡ true = (λ i. not (names.0 i) && (not (names.1 i) && not (all.0.0 i))) in
    let here : Stands within e = (free-may within e.name free ok, subst (ChunkFits within) (sym all.0.1) tt) in
    walks-span Stands e f xs ys is en ex b within here
    (gap-stands b (every-front IsBare xs (f ∷ ys) all.1) (e.name ∷ around) (e.name ∷ within) (inside-tight around e.name names) (free-inside e.name free) parts.1)
    (gap-stands c (every-back IsBare xs (f ∷ ys) all.1).1 around within t ok parts.2)

-- no chunk is among some events of a list, by their indices
pub no-chunks : (es : List Event) (k n : ℕ) → ((m : ℕ) → k ≤ m → m < k + n → option_and_then content_of (slice_get es m) ≡ None) → AllByRecursion (λ (e : Event). content_of e ≡ None) (take n (drop k es))
no-chunks [] zero zero h = tt
no-chunks [] zero (suc n) h = tt
no-chunks [] (suc k) zero h = tt
no-chunks [] (suc k) (suc n) h = tt
no-chunks (e ∷ es) zero zero h = tt
no-chunks (e ∷ es) zero (suc n) h = (h 0 (omega arith) (omega arith), no-chunks es zero n (λ m low high. h (suc m) (omega arith) (omega (arith, high))))
no-chunks (e ∷ es) (suc k) n h = no-chunks es k n (λ m low high. h (suc m) (omega (arith, low)) (omega (arith, high)))
