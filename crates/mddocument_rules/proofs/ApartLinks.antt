-- Events in which links lead well, and no chunk is in a link. So it is where ends of links of chunks change, and in front of a chunk.
use Rattle.mddocument_rules.proofs.Prelude.{◌≡◌, ◌∙◌, ℕ, Bool, true, List, [], ◌∷◌, ◌++◌, Option, None, Some, ap, every-front, false≢true, is_some, refl, subst, sym, AllByRecursion, Content, Enter, Event, Exit, Point, content_of, option_map, relinked}
use Rattle.markdown_base.specs.declared.event.Link.{Link}
use Rattle.markdown_tokenizer.proofs.Readings.Plain.{unlinked-same}
use Rattle.markdown_edits.specs.Woven.{Tagged, placed_end, placed_in}
use Rattle.markdown_children.proofs.Parts.Kept.{untagged}
use Rattle.mddocument_link_targets.specs.Targets.{enters_link}
use Rattle.mddocument_laws.proofs.Chosen.{AreOther}
use Rattle.mddocument_rules.proofs.Leading.{IsLink, Lead, enters-none, is_reference, link-more}

abbrev pub IsBare : Event → Type 0
IsBare e = content_of e ≡ None

abbrev pub AllBare : List Event → Type 0
AllBare es = AllByRecursion IsBare es

bare-unlinked : (e : Event) → IsBare e → e.link ≡ None
bare-unlinked e h = by e.link h
  where
    by : (o : Option Link) → option_map (λ (l : Link). l.content) o ≡ None → o ≡ None
    by None h = refl
    by (Some l) h = absurd (false≢true (sym (ap is_some h)))

module _ (bytes : List ℕ) (defined : List ℕ → Bool) where
  pub record IsApart (p : Point) (es : List Event) : Type 0 where
    pub link : IsLink bytes defined p es
    pub bare : AllBare link.inner

  abbrev pub LeadApart : List Event → Type 0
  LeadApart [] = Unit {0}
  LeadApart (e ∷ es) = (enters_link e ≡ true → IsApart e.point es) × LeadApart es

  pub apart-lead : (es : List Event) → LeadApart es → Lead bytes defined es
  apart-lead [] h = tt
  apart-lead (e ∷ es) h = ((λ is. (h.0 is).link), apart-lead es h.1)

  -- all events are bare
  pub lead-apart : (es : List Event) → AllBare es → Lead bytes defined es → LeadApart es
  lead-apart [] b h = tt
  lead-apart (e ∷ es) b h = (
    (λ is.
        let l = h.0 is in
        record { link = l; bare = every-front IsBare l.inner (l.exit ∷ l.more) (subst AllBare l.are b.1) }),
    lead-apart es b.1 h.1,
  )

  pub apart-both : (xs ys : List Event) → LeadApart xs → LeadApart ys → LeadApart (xs ++ ys)
  apart-both [] ys h k = k
  apart-both (x ∷ xs) ys h k = ((λ is. let one = h.0 is in record { link = link-more bytes defined x.point xs ys one.link; bare = one.bare }), apart-both xs ys h.1 k)

  pub apart-free : (es : List Event) → AreOther is_reference es → LeadApart es
  apart-free [] h = tt
  apart-free (e ∷ es) h = ((λ is. absurd (false≢true (sym (enters-none e h.0) ∙ is))), apart-free es h.1)

  -- ---- in front of a chunk
  module _ (e : Event) (ys : List Event) (c : Content) (content : content_of e ≡ Some c) (enters : e.kind ≡ Enter) where
    cut-link : (xs inner : List Event) (exit : Event) (more : List Event) → xs ++ e ∷ ys ≡ inner ++ exit ∷ more → AllBare inner → exit.kind ≡ Exit → (rest : List Event) × (xs ≡ inner ++ exit ∷ rest)
    cut-link [] [] exit more is bare exits = let same : e ≡ exit = cc in absurd (let no : Enter ≡ Exit = sym enters ∙ ap (λ (x : Event). x.kind) same ∙ exits in cc)
    cut-link [] (x ∷ inner) exit more is bare exits = let same : e ≡ x = cc in absurd (let no : Some c ≡ None = sym content ∙ ap content_of same ∙ bare.0 in false≢true (sym (ap is_some no)))
    cut-link (x ∷ xs) [] exit more is bare exits = let same : x ≡ exit = cc in (xs, ap (λ z. z ∷ xs) same)
    cut-link (x ∷ xs) (y ∷ inner) exit more is bare exits =
        let same : x ≡ y = cc in
        let rest : xs ++ e ∷ ys ≡ inner ++ exit ∷ more = cc in
        let others = cut-link xs inner exit more rest bare.1 exits in
        (others.0, (λ i. same i ∷ others.1 i))

    front-link : (p : Point) (xs : List Event) → IsApart p (xs ++ e ∷ ys) → IsApart p xs
    front-link p xs h =
        let l = h.link in
        let there = cut-link xs l.inner l.exit l.more l.are h.bare l.exits in
        record {
          link = record {
            inner = l.inner;
            first = l.first;
            others = l.others;
            begins = l.begins;
            labelled = l.labelled;
            here = l.here;
            exit = l.exit;
            more = there.0;
            are = there.1;
            balanced = l.balanced;
            exits = l.exits;
            leads = l.leads;
          };
          bare = h.bare;
        }

    pub apart-front : (xs : List Event) → LeadApart (xs ++ e ∷ ys) → LeadApart xs × LeadApart (e ∷ ys)
    apart-front [] h = (tt, h)
    apart-front (x ∷ xs) h = let more = apart-front xs h.1 in (((λ is. front-link x.point xs (h.0 is)), more.0), more.1)

  -- ---- where ends of links change
  placed-link : (ts us : List Tagged) (inner : List Event) (exit : Event) (more : List Event) → untagged us ≡ inner ++ exit ∷ more → AllBare inner → (x : Event) × (ys : List Event) × (placed_in ts us ≡ inner ++ x ∷ ys) × (x.kind ≡ exit.kind)
  placed-link ts [] [] exit more is bare = absurd (cc)
  placed-link ts [] (y ∷ inner) exit more is bare = absurd (cc)
  placed-link ts (u ∷ us) [] exit more is bare = let same : u.event ≡ exit = cc in (relinked (placed_end ts u.identity) u.event, placed_in ts us, refl, ap (λ (x : Event). x.kind) same)
  placed-link ts (u ∷ us) (y ∷ inner) exit more is bare =
      let same : u.event ≡ y = cc in
      let rest : untagged us ≡ inner ++ exit ∷ more = cc in
      let others = placed-link ts us inner exit more rest bare.1 in
      let first : relinked (placed_end ts u.identity) u.event ≡ y = ap (relinked (placed_end ts u.identity)) same ∙ unlinked-same (placed_end ts u.identity) y (bare-unlinked y bare.0) in
      (others.0, others.1, (λ i. first i ∷ others.2 i), others.3)

  pub apart-placed : (ts us : List Tagged) → LeadApart (untagged us) → LeadApart (placed_in ts us)
  apart-placed ts [] h = tt
  apart-placed ts (u ∷ us) h = (
    (λ is.
        let one = h.0 is in
        let l = one.link in
        let there = placed-link ts us l.inner l.exit l.more l.are one.bare in
        record {
          link = record {
            inner = l.inner;
            first = l.first;
            others = l.others;
            begins = l.begins;
            labelled = l.labelled;
            here = l.here;
            exit = there.0;
            more = there.1;
            are = there.2;
            balanced = l.balanced;
            exits = there.3 ∙ l.exits;
            leads = l.leads;
          };
          bare = one.bare;
        }),
    apart-placed ts us h.1,
  )
