-- Brackets among events: each holds its markers alone, one or two, so that data can take its place.
use Rattle.mddocument.proofs.Prelude.{◌≡◌, ℕ, zero, suc, ◌&&◌, ◌||◌, Bool, true, false, inl, inr, ◌⊎◌, List, [], ◌∷◌, ◌++◌, length, refl, sym, ap, ◌∙◌, subst, AllByRecursion, Event, Enter, Exit, is_enter, same_name}
use Rattle.markdown_base.specs.declared.event.Name.TheVariants.{LabelImage, LabelImageMarker, LabelLink, LabelMarker}
use Rattle.markdown_base.proofs.Facts.Kinds.{enter-is}
use Rattle.mddocument.proofs.Emphasis.LinkAccounts.{HoldsMarkers}
use Rattle.mddocument.proofs.Emphasis.RunAtoms.{IsOther, is_label, special-label}
use Rattle.mdinline_links.proofs.Plain.{front-first}
use Rattle.mdinline_links.proofs.Spans.{span-joins}
use Rattle.mdinline_links.specs.Linked.{outermost_spans, span_at, spans_in}

-- The enter of a bracket, or of a `]` alone, is followed by its exit; or by one marker and its exit; or by the markers of an image and its exit
abbrev pub Alone : Event → List Event → Type 0
Alone e es = (f : Event) × (more : List Event) × (es ≡ f ∷ more) × (f.kind ≡ Exit)

abbrev pub WithOne : Event → List Event → Type 0
WithOne e es =
    (a b f : Event) × (more : List Event) × (es ≡ a ∷ b ∷ f ∷ more) × (a.kind ≡ Enter) × (b.kind ≡ Exit) × (f.kind ≡ Exit) × (a.point ≡ e.point) × (f.point ≡ b.point)

abbrev pub WithTwo : Event → List Event → Type 0
WithTwo e es =
    (a b c d f : Event) × (more : List Event) × (es ≡ a ∷ b ∷ c ∷ d ∷ f ∷ more) × (a.kind ≡ Enter) × (b.kind ≡ Exit) × (c.kind ≡ Enter) × (d.kind ≡ Exit) × (f.kind ≡ Exit)
    × (same_name a.name LabelImageMarker ≡ true) × (a.point ≡ e.point) × (f.point ≡ d.point)

abbrev pub IsShaped : Event → List Event → Type 0
IsShaped e es = e.kind ≡ Enter → is_label e.name ≡ true → Alone e es ⊎ WithOne e es ⊎ WithTwo e es

abbrev pub AreShaped : List Event → Type 0
AreShaped [] = Unit {0}
AreShaped (e ∷ es) = IsShaped e es × AreShaped es

alone-more : (e : Event) (xs ys : List Event) → Alone e xs → Alone e (xs ++ ys)
alone-more e xs ys h = (h.0, h.1 ++ ys, ap (λ l. l ++ ys) h.2, h.3)

one-more : (e : Event) (xs ys : List Event) → WithOne e xs → WithOne e (xs ++ ys)
one-more e xs ys h = (h.0, h.1, h.2, h.3 ++ ys, ap (λ l. l ++ ys) h.4, h.5, h.6, h.7, h.8, h.9)

two-more : (e : Event) (xs ys : List Event) → WithTwo e xs → WithTwo e (xs ++ ys)
two-more e xs ys h = (h.0, h.1, h.2, h.3, h.4, h.5 ++ ys, ap (λ l. l ++ ys) h.6, h.7, h.8, h.9, h.10, h.11, h.12, h.13, h.14)

pub shaped-both : (xs ys : List Event) → AreShaped xs → AreShaped ys → AreShaped (xs ++ ys)
shaped-both [] ys h k = k
shaped-both (x ∷ xs) ys h k = (here, shaped-both xs ys h.1 k)
  where
    more : Alone x xs ⊎ WithOne x xs ⊎ WithTwo x xs → Alone x (xs ++ ys) ⊎ WithOne x (xs ++ ys) ⊎ WithTwo x (xs ++ ys)
    more (inl a) = inl (alone-more x xs ys a)
    more (inr (inl b)) = inr (inl (one-more x xs ys b))
    more (inr (inr c)) = inr (inr (two-more x xs ys c))

    here : IsShaped x (xs ++ ys)
    here enters is = more (h.0 enters is)

shaped-back : (xs ys : List Event) → AreShaped (xs ++ ys) → AreShaped ys
shaped-back [] ys h = h
shaped-back (x ∷ xs) ys h = shaped-back xs ys h.1

-- ---- so each outermost span that data may take the place of holds its markers

marked-is : (k a b c : Bool) → (((k && a) || (k && b)) || (k && c)) ≡ true → (k ≡ true) × (((a || b) || c) ≡ true)
marked-is true a b c h = (refl, h)
marked-is false a b c h = cc

alone-holds : (e f : Event) (more : List Event) → e.kind ≡ Enter → f.kind ≡ Exit → HoldsMarkers (span_at 0 (e ∷ f ∷ more)).0
alone-holds e f more enters exits = subst HoldsMarkers (sym pair) (λ is. inl (e, f, rw (enters, exits) refl, refl, refl))
  where
    pair : (span_at 0 (e ∷ f ∷ more)).0 ≡ e ∷ f ∷ []
    pair = rw (enters, exits) refl

one-holds : (e a b f : Event) (more : List Event) → e.kind ≡ Enter → a.kind ≡ Enter → b.kind ≡ Exit → f.kind ≡ Exit → a.point ≡ e.point → f.point ≡ b.point → HoldsMarkers (span_at 0 (e ∷ a ∷ b ∷ f ∷ more)).0
one-holds e a b f more ke ka kb kf from to = subst HoldsMarkers (sym four) (λ is. inl (a, b, rw (ke, ka, kb, kf) refl, from, sym to))
  where
    four : (span_at 0 (e ∷ a ∷ b ∷ f ∷ more)).0 ≡ e ∷ a ∷ b ∷ f ∷ []
    four = rw (ke, ka, kb, kf) refl

two-holds : (e a b c d f : Event) (more : List Event) → e.kind ≡ Enter → a.kind ≡ Enter → b.kind ≡ Exit → c.kind ≡ Enter → d.kind ≡ Exit → f.kind ≡ Exit → same_name a.name LabelImageMarker ≡ true → a.point ≡ e.point
    → f.point ≡ d.point → HoldsMarkers (span_at 0 (e ∷ a ∷ b ∷ c ∷ d ∷ f ∷ more)).0
two-holds e a b c d f more ke ka kb kc kd kf name from to = subst HoldsMarkers (sym six) (λ is. inr (a, b, c, d, rw (ke, ka, kb, kc, kd, kf) refl, name, from, sym to))
  where
    six : (span_at 0 (e ∷ a ∷ b ∷ c ∷ d ∷ f ∷ more)).0 ≡ e ∷ a ∷ b ∷ c ∷ d ∷ f ∷ []
    six = rw (ke, ka, kb, kc, kd, kf) refl

span-holds : (e : Event) (es : List Event) → IsShaped e es → HoldsMarkers (span_at 0 (e ∷ es)).0
span-holds e es h =
    let first = front-first 0 e es in
    subst HoldsMarkers (sym first.1) (λ is.
    let known = marked-is (is_enter e.kind) (same_name e.name LabelLink) (same_name e.name LabelImage) (same_name e.name LabelMarker) is in
    let first_enters = enter-is e.kind known.0 in
    subst HoldsMarkers first.1 (shaped first_enters (h first_enters known.1)) is)
  where
    shaped : e.kind ≡ Enter → Alone e es ⊎ WithOne e es ⊎ WithTwo e es → HoldsMarkers (span_at 0 (e ∷ es)).0
    shaped k (inl a) = subst (λ l. HoldsMarkers (span_at 0 (e ∷ l)).0) (sym a.2) (alone-holds e a.0 a.1 k a.3)
    shaped k (inr (inl b)) = subst (λ l. HoldsMarkers (span_at 0 (e ∷ l)).0) (sym b.4) (one-holds e b.0 b.1 b.2 b.3 k b.5 b.6 b.7 b.8 b.9)
    shaped k (inr (inr c)) = subst (λ l. HoldsMarkers (span_at 0 (e ∷ l)).0) (sym c.6) (two-holds e c.0 c.1 c.2 c.3 c.4 c.5 k c.7 c.8 c.9 c.10 c.11 c.12 c.13 c.14)

spans-hold : (bound : ℕ) (es : List Event) → AreShaped es → AllByRecursion HoldsMarkers (spans_in bound es)
spans-hold zero es h = tt
spans-hold (suc bound) [] h = tt
spans-hold (suc bound) (e ∷ es) h =
    let p = span_at 0 (e ∷ es) in
    (span-holds e es h.0, spans-hold bound p.1 (shaped-back p.0 p.1 (subst AreShaped (sym (span-joins 0 (e ∷ es))) h)))

pub shaped-hold : (es : List Event) → AreShaped es → AllByRecursion HoldsMarkers (outermost_spans es)
shaped-hold es h = spans-hold (length es) es h

-- other events are so
pub others-shaped : (es : List Event) → AllByRecursion IsOther es → AreShaped es
others-shaped [] h = tt
others-shaped (e ∷ es) h = ((λ enters is. absurd (let no : true ≡ false = sym is ∙ special-label e.name h.0 in cc)), others-shaped es h.1)
