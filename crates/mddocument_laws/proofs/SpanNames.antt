-- Lists of whole spans, one behind another: their names, and which of their outermost spans are brackets or runs.
use Rattle.std.proofs.Common.{◌≡◌, ℕ, zero, suc, ◌⊎◌, List, [], ◌∷◌, ◌++◌, false, true, inr, append_assoc, sym, subst}
use Rattle.std.proofs.lemmas.Bool.{false_from_ne_true, false≢true}
use Rattle.std.specs.List.{AllByRecursion, flat_map}
use Rattle.markdown_base.proofs.Common.{every-append}
use Rattle.markdown_base.specs.declared.configuration.Constructs.{Constructs}
use Rattle.markdown_base.specs.declared.event.Event.{Event}
use Rattle.markdown_base.specs.declared.event.Name.{Name}
use Rattle.markdown_base.specs.declared.event.Name.TheVariants.{AttentionSequence}
use Rattle.markdown_base.specs.Events.{same_name}
use Rattle.markdown_base.specs.Virtual.{Seat}
use Rattle.markdown_base.proofs.Balanced.{same_name-true}
use Rattle.mdinline_links.specs.Linked.{is_bracket, is_run, spans_in}
use Rattle.mdconstructs_machines.specs.Spans.{leaf, span}
use Rattle.mddocument_laws.specs.EmphasisSpans.{is_emphasis}
use Rattle.mddocument_laws.proofs.PlainNames.{plain-other, stands_plain}
use Rattle.mddocument_laws.proofs.Named.{Named, and, no-events, spanned}
use Rattle.mddocument_laws.proofs.WholeSpans.{AreFound, IsWhole, around-whole, both-whole, first-span, found-more, none-whole}

module _ (on : Constructs) where
  abbrev pub May : Name → Type 0
  May n = stands_plain on n ≡ true

  -- an outermost span has such names; or it is a run; or it is a bracket, and then it has them if ends of labels are on
  pub record IsFine (es : List Event) : Type 0 where
    pub named : is_bracket es ≡ true → on.label_end ≡ true → Named May es
    pub either : (is_bracket es ≡ true) ⊎ ((is_run es ≡ true) ⊎ Named May es)

  abbrev pub AreFine : List Event → Type 0
  AreFine es = (bound : ℕ) → AllByRecursion IsFine (spans_in bound es)

  -- no event is of emphasis yet
  abbrev pub IsPlain : Event → Type 0
  IsPlain e = is_emphasis e.name ≡ false

  -- Whole spans, which are fine
  pub record Outer (es : List Event) : Type 0 where
    pub whole : IsWhole es
    pub fine : (rest : List Event) → AreFine rest → AreFine (es ++ rest)
    pub found : (rest : List Event) → AreFound rest → AreFound (es ++ rest)
    pub plain : AllByRecursion IsPlain es

  -- whole spans that have such names
  pub record Inner (es : List Event) : Type 0 where
    pub named : Named May es
    pub outer : Outer es

  -- no span of such a name is a run
  pub no-run : (n : Name) → May n → same_name n AttentionSequence ≡ false
  no-run n h = false_from_ne_true (same_name n AttentionSequence) (λ e. false≢true (subst May (same_name-true n AttentionSequence e) h))

  pub outer-none : Outer []
  outer-none = record { whole = none-whole; fine = λ rest h. h; found = λ rest h. h; plain = tt }

  pub outer-both : (xs ys : List Event) → Outer xs → Outer ys → Outer (xs ++ ys)
  outer-both xs ys h k = record {
    whole = both-whole xs ys h.whole k.whole;
    fine = λ rest f. subst AreFine (sym (append_assoc xs ys rest)) (h.fine (ys ++ rest) (k.fine rest f));
    found = λ rest f. subst AreFound (sym (append_assoc xs ys rest)) (h.found (ys ++ rest) (k.found rest f));
    plain = every-append IsPlain xs ys h.plain k.plain;
  }

  -- a span around whole spans, which is fine
  fine-span : (bytes : List ℕ) (n : Name) (s : Seat) (ss : List Seat) (inside rest : List Event) → IsWhole inside → IsFine (span bytes n (s ∷ ss) inside) → AreFine rest → AreFine (span bytes n (s ∷ ss) inside ++ rest)
  fine-span bytes n s ss inside rest w is h zero = tt
  fine-span bytes n s ss inside rest w is h (suc bound) =
      subst (λ (p : List Event × List Event). AllByRecursion IsFine (p.0 ∷ spans_in bound p.1)) (sym (first-span bytes n s ss inside w rest)) (is, h bound)

  pub outer-span : (bytes : List ℕ) (n : Name) (s : Seat) (ss : List Seat) (inside : List Event) → IsWhole inside → AllByRecursion IsPlain inside → IsFine (span bytes n (s ∷ ss) inside) → is_emphasis n ≡ false
      → Outer (span bytes n (s ∷ ss) inside)
  outer-span bytes n s ss inside w plain is p = record {
    whole = around-whole bytes n s ss inside w;
    fine = λ rest f. fine-span bytes n s ss inside rest w is f;
    found = λ rest f. found-more bytes n s ss inside rest w f;
    plain = (p, every-append IsPlain inside _ plain (p, tt));
  }

  -- ---- such lists
  pub nothing : Inner []
  nothing = record { named = no-events; outer = outer-none }

  pub together : (xs ys : List Event) → Inner xs → Inner ys → Inner (xs ++ ys)
  together xs ys h k = record { named = and h.named k.named; outer = outer-both xs ys h.outer k.outer }

  pub over : (bytes : List ℕ) (n : Name) (seats : List Seat) (inside : List Event) → May n → Inner inside → Inner (span bytes n seats inside)
  over bytes n [] inside p h = h
  over bytes n (s ∷ ss) inside p h =
      let named = spanned bytes n (s ∷ ss) p h.named in
      record { named = named; outer = outer-span bytes n s ss inside h.outer.whole h.outer.plain (record { named = λ b e. named; either = inr (inr named) }) (plain-other on n p) }

  pub leafs : (bytes : List ℕ) (n : Name) (seats : List Seat) → May n → Inner (leaf bytes n seats)
  leafs bytes n seats p = over bytes n seats [] p nothing

  pub flat : {A : Type 0} (f : A → List Event) (xs : List A) → ((x : A) → Inner (f x)) → Inner (flat_map f xs)
  flat f [] h = nothing
  flat f (x ∷ xs) h = together (f x) (flat_map f xs) (h x) (flat f xs h)
