-- What stands in no link still does with checks, calls and literals.
use Rattle.std.proofs.Common.{◌≡◌, ℕ, ◌+◌, ◌-◌, ◌++◌, Bool, true, false, cond, List, [], ◌∷◌, drop, refl, sym, ap, subst, ◌∙◌, arith}
use Rattle.std.proofs.lemmas.Bool.{false≢true}
use Rattle.std.proofs.lemmas.List.{append-nil}
use Rattle.std.specs.List.{AllByRecursion}
use Rattle.std.specs.Prelude.{◌&&◌, ◌||◌, nat_le, nat_lt, not}
use Rattle.markdown_base.specs.declared.event.Event.{Event}
use Rattle.markdown_base.specs.declared.event.Kind.TheVariants.{Enter, Exit}
use Rattle.markdown_base.specs.declared.event.Name.{Name}
use Rattle.markdown_base.specs.declared.event.Name.TheVariants.{Data, Link}
use Rattle.markdown_base.specs.declared.event.Point.{Point}
use Rattle.markdown_base.specs.Events.{IsBalanced, empty, span, is_enter, same_name}
use Rattle.markdown_base.proofs.Balanced.{IsBalanced-append}
use Rattle.mdgfm_events.proofs.Leaves.{leaf-balanced}
use Rattle.mdgfm_events.specs.Places.{event, later, leaf}
use Rattle.mdgfm_literals.proofs.Balance.{PassesOver, left-balanced, over-other, over-text, with-deep, written-balanced}
use Rattle.mdgfm_literals.specs.declared.texts.Literal.{Literal}
use Rattle.mdgfm_literals.specs.LiteralEvents.{Written, end_of, events_with, left_over, start_of, with_one, written}
use Rattle.mdgfm_literals.specs.Stretches.{depth_behind, holds_none, is_text}
use Rattle.mdgfm_documents.specs.LinkLaws.{AreInNoLink, has_link, open_behind}

or-first : (a b : Bool) → (a || b) ≡ false → a ≡ false
or-first true b h = h
or-first false b h = refl

-- ---- names that are open

-- behind events
abbrev pub open_after_all : List Name → List Event → List Name
open_after_all ns [] = ns
open_after_all ns (e ∷ es) = open_after_all (open_behind ns e) es

after-append : (ns : List Name) (xs ys : List Event) → open_after_all ns (xs ++ ys) ≡ open_after_all (open_after_all ns xs) ys
after-append ns [] ys = refl
after-append ns (x ∷ xs) ys = after-append (open_behind ns x) xs ys

push : (ns : List Name) (e : Event) → e.kind ≡ Enter → open_behind ns e ≡ e.name ∷ ns
push ns e h = ap (λ k. cond (is_enter k) (e.name ∷ ns) (drop 1 ns)) h

pop : (n : Name) (ns : List Name) (f : Event) → f.kind ≡ Exit → open_behind (n ∷ ns) f ≡ ns
pop n ns f h = ap (λ k. cond (is_enter k) (f.name ∷ n ∷ ns) ns) h

after-balanced : (ns : List Name) (xs : List Event) → IsBalanced xs → open_after_all ns xs ≡ ns
after-balanced ns xs empty = refl
after-balanced ns xs (span e f us vs is enters exits same bu bv) =
    ap (open_after_all ns) is
    ∙ ap (λ m. open_after_all m (us ++ f ∷ vs)) (push ns e enters)
    ∙ after-append (e.name ∷ ns) us (f ∷ vs)
    ∙ ap (λ m. open_after_all m (f ∷ vs)) (after-balanced (e.name ∷ ns) us bu)
    ∙ ap (λ m. open_after_all m vs) (pop e.name ns f exits)
    ∙ after-balanced ns vs bv

module _ (test : Name → Bool) where
  abbrev Out : List Name → List Event → Type 0
  Out ns es = AreInNoLink test ns es

  -- ---- parts

  pub join : (ns : List Name) (xs ys : List Event) → Out ns xs → Out (open_after_all ns xs) ys → Out ns (xs ++ ys)
  join ns [] ys h k = k
  join ns (x ∷ xs) ys h k = (h.0, join (open_behind ns x) xs ys h.1 k)

  pub parts : (ns : List Name) (xs ys : List Event) → Out ns (xs ++ ys) → Out ns xs × Out (open_after_all ns xs) ys
  parts ns [] ys h = (tt, h)
  parts ns (x ∷ xs) ys h = let p = parts (open_behind ns x) xs ys h.1 in ((h.0, p.0), p.1)

  -- balanced events in front
  pub over : (ns : List Name) (xs ys : List Event) → IsBalanced xs → Out ns xs → Out ns ys → Out ns (xs ++ ys)
  over ns xs ys b h k = join ns xs ys h (subst (λ m. Out m ys) (sym (after-balanced ns xs b)) k)

  -- other names
  pub of-others : (ns : List Name) (xs : List Event) → AllByRecursion (λ (e : Event). not (test e.name) ≡ true) xs → Out ns xs
  of-others ns [] h = tt
  of-others ns (x ∷ xs) h = (λ k. by (is_enter x.kind) (test x.name) h.0, of-others (open_behind ns x) xs h.1)
    where
      by : (a b : Bool) → not b ≡ true → (a && b) ≡ false
      by a true h = absurd (false≢true h)
      by true false h = refl
      by false false h = refl

  -- a span
  pub in-span : (ns : List Name) (e f : Event) (us vs : List Event) → e.kind ≡ Enter → f.kind ≡ Exit → IsBalanced us → Out ns (e ∷ (us ++ f ∷ vs)) → Out (e.name ∷ ns) us × Out ns vs
  in-span ns e f us vs enters exits bu h =
      let inner = subst (λ m. Out m (us ++ f ∷ vs)) (push ns e enters) h.1 in
      let p = parts (e.name ∷ ns) us (f ∷ vs) inner in
      let behind = subst (λ m. Out m (f ∷ vs)) (after-balanced (e.name ∷ ns) us bu) p.1 in
      (p.0, subst (λ m. Out m vs) (pop e.name ns f exits) behind.1)

  pub of-span : (ns : List Name) (e f : Event) (us vs : List Event) → e.kind ≡ Enter → f.kind ≡ Exit → IsBalanced us
      → (has_link ns ≡ true → (is_enter e.kind && test e.name) ≡ false) → Out (e.name ∷ ns) us → Out ns vs → Out ns (e ∷ (us ++ f ∷ vs))
  of-span ns e f us vs enters exits bu first inner outer =
      let last : Out (e.name ∷ ns) (f ∷ vs) = (λ k. ap (λ x. is_enter x && test f.name) exits, subst (λ m. Out m vs) (sym (pop e.name ns f exits)) outer) in
      (first, subst (λ m. Out m (us ++ f ∷ vs)) (sym (push ns e enters)) (over (e.name ∷ ns) us (f ∷ vs) bu inner last))

  -- ---- with any literals

  module _ (tab : ℕ) (bytes : List ℕ) where
    -- where no link is open, anything may begin
    free : (ns : List Name) → has_link ns ≡ false → (e : Event) → has_link ns ≡ true → (is_enter e.kind && test e.name) ≡ false
    free ns h e k = absurd (false≢true (sym h ∙ k))

    leaf-out : (ns : List Name) → has_link ns ≡ false → (n : Name) (p q : Point) → Out ns (leaf n p q)
    leaf-out ns h n p q = by (nat_lt p.index q.index)
      where
        by : (b : Bool) → Out ns (cond b (event Enter n p ∷ event Exit n q ∷ []) [])
        by true = (free ns h (event Enter n p), ((λ k. refl), tt))
        by false = tt

    one-out : (ns : List Name) → has_link ns ≡ false → (from : Point) (l : Literal) (es : List Event) → Out ns es → Out ns (with_one tab bytes from l ++ es)
    one-out ns h from l es k =
        let first = leaf Data from (start_of tab bytes from l) in
        let other = leaf l.name (start_of tab bytes from l) (end_of tab bytes from l) in
        over ns (first ++ other) es (IsBalanced-append first other (leaf-balanced Data from (start_of tab bytes from l)) (leaf-balanced l.name (start_of tab bytes from l) (end_of tab bytes from l)))
        (over ns first other (leaf-balanced Data from (start_of tab bytes from l)) (leaf-out ns h Data from (start_of tab bytes from l)) (leaf-out ns h l.name (start_of tab bytes from l) (end_of tab bytes from l))) k

    written-out : (ns : List Name) → has_link ns ≡ false → (first : Point) (stop : ℕ) (place : Point) (ls : List Literal) → Out ns (written tab bytes first stop place ls).events
    written-out ns h first stop place [] = tt
    written-out ns h first stop place (l ∷ ls) =
        by (nat_lt l.from stop) (written tab bytes first stop (end_of tab bytes (later place first) l) ls) (written-out ns h first stop (end_of tab bytes (later place first) l) ls)
      where
        by : (b : Bool) (more : Written) → Out ns more.events
            → Out ns (cond b (record more { events = with_one tab bytes (later place first) l ++ more.events }) (record { events = []; place = place; left = l ∷ ls })).events
        by true more p = one-out ns h (later place first) l more.events p
        by false more p = tt

    left-out : (ns : List Name) → has_link ns ≡ false → (place first last : Point) (xs : List Event) → Out ns xs → Out ns (left_over place first last xs)
    left-out ns h place first last xs k = by (nat_le place.index first.index)
      where
        by : (t : Bool) → Out ns (cond t xs (leaf Data place last))
        by true = k
        by false = leaf-out ns h Data place last

    -- what comes in place of balanced events, where no link is open
    record Outside (ns : List Name) (place : Point) (ls : List Literal) (xs : List Event) : Type 0 where
      pass : PassesOver tab bytes 0 place ls xs
      stands : Out ns pass.out

    module _ (ns : List Name) (place : Point) (ls : List Literal) (e f : Event) (us vs : List Event) {xs : List Event} (is : xs ≡ e ∷ (us ++ f ∷ vs)) (enters : e.kind ≡ Enter)
        (exits : f.kind ≡ Exit) (same : f.name ≡ e.name) (bu : IsBalanced us) (h : has_link ns ≡ false) where
      abbrev w : Written
      w = written tab bytes e.point f.point.index place ls

      of-text : is_text 0 e ≡ true → Out (e.name ∷ ns) us → Outside ns w.place w.left vs → Outside ns place ls xs
      unfolding over-text
      of-text t inner outer =
          let whole = e ∷ (us ++ f ∷ []) in
          let here = left_over w.place e.point f.point whole in
          let is_whole : IsBalanced whole = span e f us [] refl enters exits same bu empty in
          record {
            pass = over-text tab bytes 0 place ls e f us vs is enters exits same t bu outer.pass;
            stands =
                over ns w.events (here ++ outer.pass.out) (written-balanced tab bytes e.point f.point.index place ls) (written-out ns h e.point f.point.index place ls)
                (over ns here outer.pass.out (left-balanced tab bytes w.place e.point f.point whole is_whole)
                (left-out ns h w.place e.point f.point whole (of-span ns e f us [] enters exits bu (free ns h e) inner tt)) outer.stands);
          }

      of-deep : is_text 0 e ≡ false → holds_none e.name ≡ true → Out (e.name ∷ ns) us → Outside ns place ls vs → Outside ns place ls xs
      unfolding over-other
      of-deep t none inner outer =
          let deep : depth_behind 0 e ≡ 1 = ap (λ b. cond b (cond (is_enter e.kind) (0 + 1) (0 - 1)) 0) none ∙ ap (λ k. cond (is_enter k) (0 + 1) (0 - 1)) enters in
          let within : PassesOver tab bytes (depth_behind 0 e) place ls us =
          record { out = us; last = place; left = ls; balanced = bu; over = λ zs. with-deep tab bytes (depth_behind 0 e) place ls us zs bu (omega (arith, deep)) } in
          record {
            pass = over-other tab bytes 0 place ls e f us vs is enters exits same t within outer.pass;
            stands = of-span ns e f us outer.pass.out enters exits bu (free ns h e) inner outer.stands;
          }

      of-other : is_text 0 e ≡ false → holds_none e.name ≡ false → (inner : Outside (e.name ∷ ns) place ls us) → Outside ns inner.pass.last inner.pass.left vs → Outside ns place ls xs
      unfolding over-other
      of-other t some inner outer =
          let flat : depth_behind 0 e ≡ 0 = ap (λ b. cond b (cond (is_enter e.kind) (0 + 1) (0 - 1)) 0) some in
          let pass = inner.pass in
          let within : PassesOver tab bytes (depth_behind 0 e) place ls us =
          record {
            out = pass.out;
            last = pass.last;
            left = pass.left;
            balanced = pass.balanced;
            over = λ zs.
                ap (λ d. events_with tab bytes 0 d place ls (us ++ zs)) flat
                ∙ pass.over zs
                ∙ ap (λ d. pass.out ++ events_with tab bytes 0 d pass.last pass.left zs) (sym flat);
          } in
          record {
            pass = over-other tab bytes 0 place ls e f us vs is enters exits same t within outer.pass;
            stands = of-span ns e f pass.out outer.pass.out enters exits pass.balanced (free ns h e) inner.stands outer.stands;
          }

    outside : (ns : List Name) (place : Point) (ls : List Literal) (xs : List Event) → IsBalanced xs → has_link ns ≡ false → Out ns xs → Outside ns place ls xs
    outside ns place ls xs empty h o = record { pass = record { out = []; last = place; left = ls; balanced = empty; over = λ zs. refl }; stands = tt }
    outside ns place ls xs (span e f us vs is enters exits same bu bv) h o =
        let two = in-span ns e f us vs enters exits bu (subst (Out ns) is o) in
        let w = written tab bytes e.point f.point.index place ls in
        by (λ p l. outside ns p l vs bv h two.1) (λ k. outside (e.name ∷ ns) place ls us bu k two.0) two.0 (is_text 0 e) (holds_none e.name) refl refl
      where
        by : ((p : Point) (l : List Literal) → Outside ns p l vs) → (has_link (e.name ∷ ns) ≡ false → Outside (e.name ∷ ns) place ls us) → Out (e.name ∷ ns) us
            → (t u : Bool) → is_text 0 e ≡ t → holds_none e.name ≡ u → Outside ns place ls xs
        by behind within inner true u t k =
            let w = written tab bytes e.point f.point.index place ls in of-text ns place ls e f us vs is enters exits same bu h t inner (behind w.place w.left)
        by behind within inner false true t k = of-deep ns place ls e f us vs is enters exits same bu h t k inner (behind place ls)
        by behind within inner false false t k =
            let other : same_name e.name Link ≡ false = or-first (same_name e.name Link) _ k in
            let none_open : has_link (e.name ∷ ns) ≡ false = ap (λ b. b || has_link ns) other ∙ h in
            let one = within none_open in
            of-other ns place ls e f us vs is enters exits same bu h t k one (behind one.pass.last one.pass.left)

    pub with-literals : (place : Point) (ls : List Literal) (xs : List Event) → IsBalanced xs → Out [] xs → Out [] (events_with tab bytes 0 0 place ls xs)
    with-literals place ls xs b o =
        let p = outside [] place ls xs b refl o in
        subst (Out []) (sym (ap (events_with tab bytes 0 0 place ls) (sym (append-nil xs)) ∙ p.pass.over [] ∙ append-nil p.pass.out)) p.stands
