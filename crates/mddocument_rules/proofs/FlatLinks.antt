-- Lists in which events of links come in turn, an enter and its exit: in such a list, if it is balanced, no link is in a link.
use Rattle.mddocument_rules.proofs.Prelude.{◌≡◌, ◌∙◌, ℕ, Bool, true, false, cond, not, List, [], ◌∷◌, ◌++◌, refl, sym, ap, subst, inl, inr, cases_Bool, every-append, flat_map, ◌&&◌, ◌||◌, Event, Kind, Enter, Exit, Name, IsBalanced, empty, span, same_name, is_wanted, all_stand, is_outside_links}
use Rattle.markdown_base.specs.declared.event.Name.TheVariants.{Link}
use Rattle.mddocument_laws.proofs.Chosen.{AreOther, bare, chosen, chosen-append, chosen-none}
use Rattle.mddocument_rules.proofs.Walk.{IfEnter, Walks, behind_one, walks-all, walks-span}

abbrev pub is_link : Name → Bool
is_link n = same_name n Link

-- an enter and an exit, in turn
abbrev pub InTurn : List Event → Type 0
InTurn [] = Unit {0}
InTurn (e ∷ []) = ⊥
InTurn (e ∷ f ∷ es) = (e.kind ≡ Enter) × (f.kind ≡ Exit) × InTurn es

-- the events of links do
pub record IsFlat (es : List Event) : Type 0 where
  pub in_turn : InTurn (chosen is_link es)

-- no event is of a link
pub record IsLinkless (es : List Event) : Type 0 where
  pub none : AreOther is_link es

turn-both : (xs ys : List Event) → InTurn xs → InTurn ys → InTurn (xs ++ ys)
turn-both [] ys h k = k
turn-both (e ∷ []) ys h k = absurd h
turn-both (e ∷ f ∷ xs) ys h k = (h.0, h.1, turn-both xs ys h.2 k)

pub flat-both : (xs ys : List Event) → IsFlat xs → IsFlat ys → IsFlat (xs ++ ys)
flat-both xs ys h k = record { in_turn = subst InTurn (sym (chosen-append is_link xs ys)) (turn-both (chosen is_link xs) (chosen is_link ys) h.in_turn k.in_turn) }

pub flat-linkless : (es : List Event) → IsLinkless es → IsFlat es
flat-linkless es h = record { in_turn = subst InTurn (sym (chosen-none is_link es h.none)) tt }

pub linkless-none : IsLinkless []
linkless-none = record { none = tt }

pub linkless-both : (xs ys : List Event) → IsLinkless xs → IsLinkless ys → IsLinkless (xs ++ ys)
linkless-both xs ys h k = record { none = every-append (λ (e : Event). is_link e.name ≡ false) xs ys h.none k.none }

-- what has the links of such lists, one behind another
pub flat-of : (es : List Event) (list_of : ℕ → List Event) (cs : List ℕ) → ((c : ℕ) → IsFlat (list_of c)) → chosen is_link es ≡ flat_map (λ c. chosen is_link (list_of c)) cs → IsFlat es
flat-of es list_of cs h e = record { in_turn = subst InTurn (sym e) (all cs) }
  where
    all : (cs : List ℕ) → InTurn (flat_map (λ c. chosen is_link (list_of c)) cs)
    all [] = tt
    all (c ∷ cs) = turn-both (chosen is_link (list_of c)) (flat_map (λ d. chosen is_link (list_of d)) cs) (h c).in_turn (all cs)

-- ---- in a balanced list
-- the first event of a link, if there is one, is an enter
abbrev Opens : List Event → Type 0
Opens [] = Unit {0}
Opens (e ∷ es) = e.kind ≡ Enter

opens-both : (xs ys : List Event) → Opens xs → Opens ys → Opens (xs ++ ys)
opens-both [] ys h k = k
opens-both (x ∷ xs) ys h k = h

abbrev with_first : Bool → Event → List Event → List Event
with_first b e es = cond b (bare e ∷ es) es

-- the links of a span and of what is behind it
of-span : (e f : Event) (xs ys : List Event) → f.name ≡ e.name → chosen is_link (e ∷ (xs ++ f ∷ ys)) ≡ with_first (is_link e.name) e (chosen is_link xs ++ with_first (is_link e.name) f (chosen is_link ys))
of-span e f xs ys same =
    ap (with_first (is_link e.name) e) (chosen-append is_link xs (f ∷ ys) ∙ ap (λ n. chosen is_link xs ++ with_first (is_link n) f (chosen is_link ys)) same)

opens-links : {xs : List Event} → IsBalanced xs → Opens (chosen is_link xs)
opens-links empty = tt
opens-links (span e f xs ys is en ex same b c) =
    let inner = opens-links b in
    let behind = opens-links c in
    subst (λ l. Opens (chosen is_link l)) (sym is) (subst Opens (sym (of-span e f xs ys same))
    (elim (is_link e.name) as (λ t. Opens (with_first t e (chosen is_link xs ++ with_first t f (chosen is_link ys)))) [
      | true ↦ en
      | false ↦ opens-both (chosen is_link xs) (chosen is_link ys) inner behind
    ]))

-- a list without links
none-chosen : (es : List Event) → chosen is_link es ≡ [] → AreOther is_link es
none-chosen [] e = tt
none-chosen (x ∷ xs) e = elim (cases_Bool (is_link x.name)) [
  | inl is ↦ absurd (let no : bare x ∷ chosen is_link xs ≡ [] = ap (λ t. with_first t x (chosen is_link xs)) (sym is) ∙ e in cc)
  | inr other ↦ (other, none-chosen xs (ap (λ t. with_first t x (chosen is_link xs)) (sym other) ∙ e))
]

-- a link that begins such a list ends directly
closes : (e f : Event) (zs rest : List Event) → Opens zs → InTurn (e ∷ (zs ++ f ∷ rest)) → (zs ≡ []) × InTurn rest
closes e f [] rest o h = (refl, h.2)
closes e f (z ∷ zs) rest o h = absurd (let no : Enter ≡ Exit = sym o ∙ h.1 in cc)

splits : (xs ys : List Event) → Opens ys → InTurn (xs ++ ys) → InTurn xs × InTurn ys
splits [] ys o h = (tt, h)
splits (x ∷ []) [] o h = absurd h
splits (x ∷ []) (y ∷ ys) o h = absurd (let no : Enter ≡ Exit = sym o ∙ h.1 in cc)
splits (x ∷ z ∷ xs) ys o h = let more = splits xs ys o h.2 in ((h.0, h.1, more.0), more.1)

abbrev pub Outside : List Name → Event → Type 0
Outside around e = is_outside_links around e.name ≡ true

-- where no link is entered any place will do
others-walk : (around : List Name) (es : List Event) → AreOther is_link es → Walks Outside around es
others-walk around [] h = tt
others-walk around (e ∷ es) h = (enters e.kind, others-walk (behind_one e.kind e.name around) es h.1)
  where
    enters : (k : Kind) → IfEnter k (Outside around e)
    enters Enter = ap (λ t. not (t && is_wanted around Link)) h.0
    enters Exit = tt

never : (b : Bool) → not (b && false) ≡ true
never true = refl
never false = refl

-- So no link is in a link, if none is around
pub flat-walks : {xs : List Event} → IsBalanced xs → InTurn (chosen is_link xs) → (around : List Name) → is_wanted around Link ≡ false → Walks Outside around xs
flat-walks empty t around o = tt
flat-walks (span e f xs ys is en ex same b c) t around o =
    let links = subst InTurn (of-span e f xs ys same) (subst (λ l. InTurn (chosen is_link l)) is t) in
    let here : Outside around e = ap (λ w. not (is_link e.name && w)) o ∙ never (is_link e.name) in
    elim (cases_Bool (is_link e.name)) [
      | inl link ↦
          let both = closes (bare e) (bare f) (chosen is_link xs) (chosen is_link ys) (opens-links b) (subst (λ t. InTurn (with_first t e (chosen is_link xs ++ with_first t f (chosen is_link ys)))) link links) in
          walks-span Outside e f xs ys is en ex b around here (others-walk (e.name ∷ around) xs (none-chosen xs both.0)) (flat-walks c both.1 around o)
      | inr other ↦
          let both = splits (chosen is_link xs) (chosen is_link ys) (opens-links c) (subst (λ t. InTurn (with_first t e (chosen is_link xs ++ with_first t f (chosen is_link ys)))) other links) in
          let none : is_wanted (e.name ∷ around) Link ≡ false = (λ i. other i || o i) in
          walks-span Outside e f xs ys is en ex b around here (flat-walks b both.0 (e.name ∷ around) none) (flat-walks c both.1 around o)
    ]

pub flat-stands : (es : List Event) → IsBalanced es → IsFlat es → all_stand is_outside_links [] es ≡ true
flat-stands es b h = walks-all is_outside_links [] es (flat-walks b h.in_turn [] refl)
