-- Lemmas on the equality of events.
use Rattle.markdown_base.proofs.Prelude.{◌≡◌, ◌↔◌, Bool, true, ◌&&◌, refl, ap, ◌∙◌, subst, eqb-true, eq-eqb, Option, Some, None, nat_eq, option_eq, sameb, same_true, true_same, Event, Link, rules, tests}
use Rattle.markdown_base.specs.contracts.event.Kind.{the_type as kinds}
use Rattle.markdown_base.specs.contracts.event.Name.{the_type as names}

-- a conjunction of seven, as the derive nests them
abbrev all_seven : (k n l c i v o : Bool) → Bool
all_seven k n l c i v o = k && (n && ((l && (c && (i && v))) && o))

pieces : (k n l c i v o : Bool) → all_seven k n l c i v o ≡ true → (k ≡ true) × (n ≡ true) × (l ≡ true) × (c ≡ true) × (i ≡ true) × (v ≡ true) × (o ≡ true)
pieces k n l c i v o h = search (rules, tests)

module _ (E : Link → Link → Bool) (link : (x y : Link) → (E x y ≡ true) ↔ (x ≡ y)) where
  same-link : (x y : Option Link) → option_eq E x y ≡ true → x ≡ y
  same-link None None h = refl
  same-link None (Some y) h = cc
  same-link (Some x) None h = cc
  same-link (Some x) (Some y) h = ap (λ l. Some l) ((link x y).0 h)

  self-link : (x : Option Link) → option_eq E x x ≡ true
  self-link None = refl
  self-link (Some x) = (link x x).1 refl

  pub event-same : (a b : Event)
      → (all_seven (sameb kinds a.kind b.kind) (sameb names a.name b.name) (nat_eq a.point.line b.point.line) (nat_eq a.point.column b.point.column) (nat_eq a.point.index b.point.index) (nat_eq a.point.vs b.point.vs) (option_eq E a.link b.link) ≡ true) ↔ (a ≡ b)
  event-same a b = (
    λ h.
        let f = pieces (sameb kinds a.kind b.kind) (sameb names a.name b.name) (nat_eq a.point.line b.point.line) (nat_eq a.point.column b.point.column) (nat_eq a.point.index b.point.index) (nat_eq a.point.vs b.point.vs) (option_eq E a.link b.link) h in
        ap (λ k. record a { kind = k }) (same_true kinds tt a.kind b.kind f.0)
        ∙ ap (λ n. record a { kind = b.kind; name = n }) (same_true names tt a.name b.name f.1)
        ∙ ap (λ l. record b { point = record a.point { line = l }; link = a.link }) (eqb-true a.point.line b.point.line f.2)
        ∙ ap (λ c. record b { point = record b.point { column = c; index = a.point.index; vs = a.point.vs }; link = a.link }) (eqb-true a.point.column b.point.column f.3)
        ∙ ap (λ i. record b { point = record b.point { index = i; vs = a.point.vs }; link = a.link }) (eqb-true a.point.index b.point.index f.4)
        ∙ ap (λ v. record b { point = record b.point { vs = v }; link = a.link }) (eqb-true a.point.vs b.point.vs f.5)
        ∙ ap (λ l. record b { link = l }) (same-link a.link b.link f.6),
    λ e.
        rw (
          true_same kinds a.kind b.kind (ap (λ (x : Event). x.kind) e),
          true_same names a.name b.name (ap (λ (x : Event). x.name) e),
          eq-eqb a.point.line b.point.line (ap (λ (x : Event). x.point.line) e),
          eq-eqb a.point.column b.point.column (ap (λ (x : Event). x.point.column) e),
          eq-eqb a.point.index b.point.index (ap (λ (x : Event). x.point.index) e),
          eq-eqb a.point.vs b.point.vs (ap (λ (x : Event). x.point.vs) e),
        )
        (subst (λ o. option_eq E a.link o ≡ true) (ap (λ (x : Event). x.link) e) (self-link a.link)),
  )
