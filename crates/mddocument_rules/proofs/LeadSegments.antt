-- Where events stand in place of others, or are added, links lead on as they did.
use Rattle.mddocument_rules.proofs.Prelude.{◌≡◌, ◌∙◌, ℕ, ◌+◌, Bool, List, [], ◌∷◌, ◌++◌, Option, Some, ap, arith, false≢true, inl, inr, length, refl, subst, sym, take, Event, IsBalanced, Name, Point, names_after_all, names_after_all-append, names_after_balanced}
use Rattle.std.proofs.Math.Seq.{take-append_seam}
use Rattle.std.proofs.lemmas.List.{length-append}
use Rattle.markdown_children.proofs.Parts.Kept.{names-leave}
use Rattle.markdown_base.proofs.Balanced.{balanced_from_open}
use Rattle.mddocument_link_targets.proofs.SpanEnds.{at_end}
use Rattle.mddocument_link_targets.specs.Spans.{size_from}
use Rattle.mddocument_link_targets.specs.Targets.{target_in}
use Rattle.mddocument_rules.proofs.Leading.{IsLink, Lead, lead-back, lead-both}
use Rattle.mddocument_rules.proofs.Reworked.{AreMinor, BeginsWithOne, Cut, IsKind, begins-front, behind-first, cut, front-label, minor-enters-none, new-both, none-begins, none-behind, old-both, passed}
use Rattle.mddocument_rules.specs.SegmentLaws.{NoneBeginLinks, Segment, instead, new_events, old_events, one}

module _ (bytes : List ℕ) (defined : List ℕ → Bool) where
  -- events of minor names have no links
  pub lead-minor : (es : List Event) → AreMinor es → Lead bytes defined es
  lead-minor [] h = tt
  lead-minor (e ∷ es) h = ((λ is. absurd (false≢true (sym (minor-enters-none e h.0) ∙ is))), lead-minor es h.1)

  module _ (Are : List Segment → Type 0) (kind : IsKind bytes Are) where
    -- names that are open, with other events and without them
    new-names : (s : List Segment) → Are s → (o : Option (List Name)) → names_after_all o (new_events s) ≡ names_after_all o (old_events s)
    new-names [] h o = refl
    new-names (one e ∷ s) h o =
        names_after_all-append o (e ∷ []) (new_events s) ∙ new-names s (behind-first bytes Are kind (one e) s h) (names_after_all o (e ∷ [])) ∙ sym (names_after_all-append o (e ∷ []) (old_events s))
    new-names (instead xs ys ∷ s) h o =
        let old = names-leave (kind.old_spans xs ys s h).0 o in
        let new = names-leave (kind.new_spans xs ys s h).0 o in
        names_after_all-append o ys (new_events s)
        ∙ ap (λ p. names_after_all p (new_events s)) new
        ∙ new-names s (behind-first bytes Are kind (instead xs ys) s h) o
        ∙ ap (λ p. names_after_all p (old_events s)) (sym old)
        ∙ sym (names_after_all-append o xs (old_events s))

    new-balanced : (s : List Segment) → Are s → IsBalanced (old_events s) → IsBalanced (new_events s)
    new-balanced s h b = balanced_from_open (new_events s) (new-names s h (Some []) ∙ names_after_balanced b [])

    first-new : (a : List Segment) → BeginsWithOne a → (f : Event) (fs : List Event) → old_events a ≡ f ∷ fs → (gs : List Event) × (new_events a ≡ f ∷ gs)
    first-new [] begins f fs is = absurd (cc)
    first-new (one e ∷ a) begins f fs is = let same : e ≡ f = cc in (new_events a, ap (λ x. x ∷ new_events a) same)
    first-new (instead xs ys ∷ a) begins f fs is = absurd begins

    link-new : (p : Point) (s : List Segment) → Are s → BeginsWithOne s → IsLink bytes defined p (old_events s) → IsLink bytes defined p (new_events s)
    link-new p s h begins l = by (cut bytes Are kind 0 s h)
      where
        by : Cut bytes Are kind 0 s → IsLink bytes defined p (new_events s)
        by c =
            let old : old_events s ≡ old_events c.front ++ old_events c.rest = ap old_events c.are ∙ old-both c.front c.rest in
            let new : new_events s ≡ new_events c.front ++ new_events c.rest = ap new_events c.are ∙ new-both c.front c.rest in
            let both : l.inner ++ l.exit ∷ l.more ≡ old_events c.front ++ old_events c.rest = sym l.are ∙ old in
            let inside : size_from 0 (l.inner ++ l.exit ∷ l.more) ≡ length l.inner + size_from 0 (l.exit ∷ l.more) = passed 0 (l.exit ∷ l.more) l.balanced in
            let none : size_from 0 (l.exit ∷ l.more) ≡ 0 = at_end l.exit l.more l.exits in
            let there : size_from 0 (old_events s) ≡ size_from 0 (l.inner ++ l.exit ∷ l.more) = ap (size_from 0) l.are in
            let size = c.old_size in
            let same : length l.inner ≡ length (old_events c.front) = omega (arith, inside, none, there, size) in
            let front : l.inner ≡ old_events c.front = sym (take-append_seam l.inner (l.exit ∷ l.more)) ∙ (λ i. take (same i) (both i)) ∙ take-append_seam (old_events c.front) (old_events c.rest) in
            let are = kind.front c.front c.rest (subst Are c.are h) in
            let starts = begins-front c.front c.rest (subst BeginsWithOne c.are begins) in
            let first = first-new c.front starts l.first l.others (sym front ∙ l.begins) in
            elim c.ends [
              | inl nothing ↦
                  let long = ap length both in
                  let one = length-append l.inner (l.exit ∷ l.more) in
                  let two = length-append (old_events c.front) (old_events c.rest) in
                  let last : length (old_events c.rest) ≡ 0 = ap (λ r. length (old_events r)) nothing in
                  absurd (omega (arith, long, one, two, last, same))
              | inr e ↦ record {
                inner = new_events c.front;
                first = l.first;
                others = first.0;
                begins = first.1;
                labelled = l.labelled;
                here = l.here;
                exit = e.0;
                more = new_events e.1;
                are = new ∙ ap (λ r. new_events c.front ++ new_events r) e.2;
                balanced = new-balanced c.front are (subst IsBalanced front l.balanced);
                exits = e.3;
                leads = λ label is. l.leads label (ap (target_in bytes) front ∙ front-label bytes Are kind c.front are starts label is);
              }
            ]

    -- So links lead with them as without them
    pub lead-new : (s : List Segment) → Are s → NoneBeginLinks s → Lead bytes defined (old_events s) → Lead bytes defined (new_events s)
    lead-new [] h none l = tt
    lead-new (one e ∷ s) h none l =
        let more = behind-first bytes Are kind (one e) s h in
        ((λ is. link-new e.point s more (none-begins bytes Are kind e s none is) (l.0 is)), lead-new s more (none-behind bytes Are kind e s none) l.1)
    lead-new (instead xs ys ∷ s) h none l =
        lead-both bytes defined ys (new_events s) (lead-minor ys (kind.new_spans xs ys s h).1) (lead-new s (behind-first bytes Are kind (instead xs ys) s h) none (lead-back bytes defined xs (old_events s) l))
