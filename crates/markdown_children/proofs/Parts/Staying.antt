-- A list stays ready for the chains of another content, if each child is ready for it by itself and no chunks cut a chunk of their child.
--
-- A linked event of the new list is one of the list that stays, or one of a child. If it is one of the list, so are the exit behind it and
-- all events up to the next one of its chain: no chunk that is replaced is among them, as it is linked. So they stand side by side as
-- before. If it is one of a child, gaps of the list may come between (`Weaves`).
use Rattle.markdown_children.proofs.Prelude.{chain_of, front_until, zero-add, AreSpaced, ◌≡◌, ℕ, zero, suc, ◌+◌, ◌-◌, ◌<◌, ◌≤◌, inl, inr, ◌&&◌, Bool, true, false, eqb, List, [], ◌∷◌, ◌++◌, length, map, take, drop, Option, Some, None, refl, sym, ◌∙◌, ap, subst, arith, zero-add, eq-eqb, le-leb, lt-ltb, le-ltb, leb-true, leb-false, ltb-true, ltb-false, nat_le, nat_lt, leb, slice_get, slice_get_within, slice_get-map, none-some, same_Some, option_map, option_and_then, option_and_then_some, map-append, flat_map, range_with_len, AllByRecursion, every-get, every-map, both_true, between, Content, Event, Enter, Exit, Link, Point, drop-at, IsBalanced, AreMutual, relinked, next_of, stands_before, next_moved, stays_unless_removed, of_list, of_child, of_addition, Identity, Tagged, Change, is_same, is_removed, place_in, placed_end, pass, woven, woven-pass, AreApart, same_shift, content_at, some_fits, fits, fitting_starts, IsChunk, IsGap, IsReady, IsReadable, IsShownPlace, place_at, LeadOnFrom, IsWholeFrom, parts, divided_over, first_chunk, part_changes, chain_changes, child_changes, with_children, some-get, ltb, not, is_some, unwrap_or, empty, span, point, cases_order, or_parts, old_place, old_place-pass, keeps_order, stays_as_it_was, has_no, IsLinkedEnter, content_of, no-links-shape, no-links-take, no-links-drop, HaveNoLinks, StaysReady, StaysReadyWithChains}
use Rattle.markdown_edits.specs.Survivors.{place_after}
use Rattle.markdown_children.proofs.ChainOrder.Following.{chunks-apart, Fits, by_test, by_option, chunk, fits_next, some_content, starts_fit, follow_one_another}
use Rattle.markdown_children.proofs.ChainOrder.Spaced.{changes_are_apart}
use Rattle.markdown_children.proofs.Parts.InShape.{source, IsSourced, place_in-there, child-all, child_of, all-sourced, all-once, children_fit}
use Rattle.markdown_children.proofs.Parts.Once.{once-place}
use Rattle.markdown_children.proofs.Parts.Untorn.{none-cut}
use Rattle.markdown_children.proofs.Parts.Weaves.{content-kept, EndsInChunkEnter, IsCutNowhere, AreCutNowhere, IsPut, put-chains, Between, exit-place, between-chunks, gap-balanced, gap-free}

-- ---- lists
pub no-content : (xs : List Event) → HaveNoLinks xs → (k : ℕ) → content_at xs k ≡ None
no-content [] h k = refl
no-content (x ∷ xs) h zero = ap (option_map (λ (l : Link). l.content)) h.0
no-content (x ∷ xs) h (suc k) = no-content xs h.1 k

-- events with other link ends
content-moved : (f : ℕ → Option ℕ) (o : Option Event) → option_and_then content_of (option_map (relinked f) o) ≡ option_and_then content_of o
content-moved f None = refl
content-moved f (Some e) = content-kept f e.link

point-moved : (f : ℕ → Option ℕ) (o : Option Event) → option_map (λ (e : Event). e.point) (option_map (relinked f) o) ≡ option_map (λ (e : Event). e.point) o
point-moved f None = refl
point-moved f (Some e) = refl

linked-moved : (f : ℕ → Option ℕ) (e : Event) → IsLinkedEnter e → IsLinkedEnter (relinked f e)
linked-moved f e h = by_option e.link (λ none. let no : is_some {T = Link} None ≡ true = ap is_some (sym none) ∙ h.linked in absurd (cc)) (λ l is. record { enter = h.enter; void = h.void; linked = rw is refl })

balanced-moved : (f : ℕ → Option ℕ) {xs : List Event} → IsBalanced xs → IsBalanced (map (relinked f) xs)
balanced-moved f empty = empty
balanced-moved f (span e g xs ys is enters exits same inner rest) =
    span (relinked f e) (relinked f g) (map (relinked f) xs) (map (relinked f) ys)
    (ap (map (relinked f)) is ∙ ap (λ es. relinked f e ∷ es) (map-append (relinked f) xs (g ∷ ys))) enters exits same (balanced-moved f inner) (balanced-moved f rest)

moved-list : (r a b : ℕ) (xs ys : List Event) (f : ℕ → Option ℕ) → b + r ≤ length ys → ((j : ℕ) → j < r → slice_get xs (a + j) ≡ option_map (relinked f) (slice_get ys (b + j)))
    → take r (drop a xs) ≡ map (relinked f) (take r (drop b ys))
moved-list zero a b xs ys f l h = refl
moved-list (suc r) a b xs ys f l h =
    let y = some-get ys b (omega arith) in
    let za : a ≡ a + 0 = omega arith in
    let zb : b + 0 ≡ b = omega arith in
    let x : slice_get xs a ≡ Some (relinked f y.0) = ap (slice_get xs) za ∙ h 0 (omega arith) ∙ ap (λ i. option_map (relinked f) (slice_get ys i)) zb ∙ ap (option_map (relinked f)) y.1 in
    let rest = moved-list r (suc a) (suc b) xs ys f (omega arith) (λ j m.
    let ja : suc a + j ≡ a + suc j = omega arith in
    let jb : b + suc j ≡ suc b + j = omega arith in
    ap (slice_get xs) ja ∙ h (suc j) (omega arith) ∙ ap (λ i. option_map (relinked f) (slice_get ys i)) jb) in
    rw (drop-at xs a (relinked f y.0) x, drop-at ys b y.0 y.1) (ap (λ es. relinked f y.0 ∷ es) rest)

-- an event with an end of its link has a content
pub linked-content : (o : Option Event) (d : ℕ) → option_and_then (λ (e : Event). option_and_then (λ (l : Link). l.next) e.link) o ≡ Some d → (c : Content) × (option_and_then content_of o ≡ Some c)
linked-content None d e = absurd (none-some d e)
linked-content (Some x) d e = by_option x.link (λ none. absurd (none-some d (rw none at e))) (λ l is. (l.content, rw is refl))

-- ---- lists without links
-- a balanced list without links is ready
pub alone-ready : (tab : ℕ) (bytes : List ℕ) (next : Option Content) (xs : List Event) → IsBalanced xs → HaveNoLinks xs → IsReady tab bytes next xs
alone-ready tab bytes next xs balanced alone =
    let none : (k : ℕ) → content_at xs k ≡ None = no-content xs alone in
    let never : (k : ℕ) → fits next xs k ≡ true → ⊥ = λ k h. let c = some_content next (content_at xs k) h in none-some c.0 (sym (none k) ∙ c.1) in
    let last : (k d : ℕ) → next_of xs k ≡ Some d → ⊥ = λ k d e. let c = linked-content (slice_get xs k) d e in none-some c.0 (sym (none k) ∙ c.1) in
    record {
      balanced = balanced;
      chunks = λ k c e. absurd (none-some c (sym (none k) ∙ e));
      joined = (no-links-shape xs alone balanced).chained;
      forward = λ k d e. absurd (last k d e);
      one_content = λ k d e. absurd (last k d e);
      readable = λ k h. absurd (never k h);
      gaps = λ k d h e. absurd (never k h);
    }

-- none of their events begins a chunk
alone-uncut : (ks : List ℕ) (ps : List (List Event)) → AllByRecursion HaveNoLinks ps → IsCutNowhere ks ps
alone-uncut [] ps h = tt
alone-uncut (k ∷ ks) [] h = tt
alone-uncut (k ∷ ks) (p ∷ ps) h = ((λ v. absurd (no-chunk p h.0 v)), alone-uncut ks ps h.1)
  where
    no-chunk : (es : List Event) → HaveNoLinks es → EndsInChunkEnter es → ⊥
    no-chunk [] h v = v
    no-chunk (e ∷ []) h v = let no : is_some {T = Link} None ≡ true = ap is_some (sym h.0) ∙ v.linked in absurd (cc)
    no-chunk (e ∷ f ∷ es) h v = no-chunk (f ∷ es) h.1 v

alone-parts : (ends : List Point) (es : List Event) → HaveNoLinks es → AllByRecursion HaveNoLinks (parts ends es)
alone-parts [] es h = tt
alone-parts (end ∷ []) es h = (h, tt)
alone-parts (end ∷ next ∷ ends) es h = (no-links-take _ es h, alone-parts (next ∷ ends) (drop (length (front_until end es)) es) (no-links-drop (length (front_until end es)) es h))

none-ready : (tab : ℕ) (bytes : List ℕ) (next : Option Content) → IsReady tab bytes next []
none-ready tab bytes next = alone-ready tab bytes next [] empty tt

-- ---- places of events that stay
-- no change begins at an index
abbrev Quiet : ℕ → List Change → Type 0
Quiet m ws = AllByRecursion (λ (w : Change). w.index ≡ m → ⊥) ws

next-place : (ws : List Change) (from total removed added n p : ℕ) → AreApart from ws total → removed ≤ from → from ≤ n → Quiet (suc n) ws → old_place ws removed added n ≡ Some p
    → old_place ws removed added (suc n) ≡ Some (suc p)
next-place [] from total removed added n p d r l q e =
    let is : n - removed + added ≡ p = same_Some (n - removed + added) p e in
    let z : suc n - removed + added ≡ suc p = omega arith in
    ap Some z
next-place (w ∷ ws) from total removed added n p d r l q e =
    let first : from ≤ w.index = d.0 in
    by_test (ltb n w.index)
    (λ b.
    let below : n < w.index = ltb-true n w.index b in
    let other : w.index ≡ suc n → ⊥ = q.0 in
    let still : suc n < w.index = omega arith in
    let is : n - removed + added ≡ p = same_Some (n - removed + added) p (rw b at e) in
    let z : suc n - removed + added ≡ suc p = omega arith in
    rw (lt-ltb (suc n) w.index still) (ap Some z))
    (λ b.
    let behind : w.index ≤ n = ltb-false n w.index b in
    by_test (ltb n (w.index + w.remove))
    (λ c. absurd (none-some p (rw (b, c) at e)))
    (λ c.
    let past : w.index + w.remove ≤ n = ltb-false n (w.index + w.remove) c in
    rw (le-ltb (suc n) w.index (omega arith), le-ltb (suc n) (w.index + w.remove) (omega arith))
    (next-place ws (w.index + w.remove) total (removed + w.remove) (added + length w.events) n p d.1 (omega arith) past q.1 (rw (b, c) at e))))

-- nor does one at an event that stays
stays-quiet : (ws : List Change) (n : ℕ) → AllByRecursion (λ (w : Change). w.remove ≡ 2) ws → is_removed ws n ≡ false → Quiet n ws
stays-quiet [] n h e = tt
stays-quiet (w ∷ ws) n h e =
    let test : Bool = nat_le w.index n && nat_lt n (w.index + w.remove) in
    let two = or_parts test (is_removed ws n) e in
    let no : w.index ≡ n → ⊥ = λ s.
    let all : w.remove ≡ 2 = h.0 in
    let yes : test ≡ true = both_true (le-leb w.index n (omega arith)) (lt-ltb n (w.index + w.remove) (omega arith)) in
    let wrong : true ≡ false = sym yes ∙ two.0 in absurd (cc) in
    (no, stays-quiet ws n h.1 two.1)

kept-not-removed : {A : Type 0} (o : Option A) (a : A) (b : Bool) → o ≡ Some a → is_some o ≡ not b → b ≡ false
kept-not-removed o a true e s = let no : true ≡ false = sym (ap is_some e) ∙ s in absurd (cc)
kept-not-removed o a false e s = refl

module _ (tab : ℕ) (bytes : List ℕ) (wanted : Option Content) (events : List Event) (ready : IsReady tab bytes wanted events) (children : List (List Event)) where
  abbrev ws : List Change
  ws = child_changes wanted events children

  abbrev pub new : List Event
  new = with_children wanted events children

  -- the new place of an event of the list
  abbrev after : ℕ → Option ℕ
  after n = place_after ws events n

  place-is : (n : ℕ) → n < length events → after n ≡ old_place ws 0 0 n
  place-is n l =
      let apart : AreApart 0 ws (0 + length events) = rw zero-add (changes_are_apart tab bytes wanted events children ready).apart in
      ap (place_in (of_list n)) (woven-pass ws 0 events apart) ∙ sym (same_shift (place_in (of_list n) (pass ws 0 events))) ∙ old_place-pass ws n 0 0 0 events (has_no ws (changes_are_apart tab bytes wanted events children ready).fresh n) apart (omega arith) (omega arith) (omega arith)

  next-after : (n p : ℕ) → suc n < length events → Quiet (suc n) ws → after n ≡ Some p → after (suc n) ≡ Some (suc p)
  next-after n p l q e =
      place-is (suc n) l
      ∙ next-place ws 0 (length events) 0 0 n p (changes_are_apart tab bytes wanted events children ready).apart (omega arith) (omega arith) q (sym (place-is n (omega arith)) ∙ e)

  -- each change is at a chunk that fits, which goes
  abbrev pub AtChunk : Change → Type 0
  AtChunk w = Fits wanted events w.index × (w.remove ≡ 2)

  parts-at : (c j k : ℕ) (ks : List ℕ) (ps : List (List Event)) (us : List Change) → Fits wanted events k → LeadOnFrom events k ks → AllByRecursion AtChunk us → AllByRecursion AtChunk (part_changes c j (k ∷ ks) ps ++ us)
  parts-at c j k ks [] us h lead r = r
  parts-at c j k [] (p ∷ ps) us h lead r = ((h, refl), r)
  parts-at c j k (d ∷ ks) (p ∷ ps) us h lead r = ((h, refl), parts-at c (j + length p) d ks ps us (fits_next tab bytes wanted events ready k d h lead.0) lead.2 r)

  chains-at : (cs : List ℕ) (xs : List (List Event)) → AllByRecursion (Fits wanted events) cs → AllByRecursion (IsWholeFrom events) cs → AllByRecursion AtChunk (flat_map chain_changes (divided_over events cs xs))
  chains-at [] xs f w = tt
  chains-at (c ∷ cs) [] f w = tt
  chains-at (c ∷ cs) (x ∷ xs) f w =
      let rest : List Change = flat_map chain_changes (divided_over events cs xs) in
      subst (λ (ys : List ℕ). AllByRecursion AtChunk (part_changes (first_chunk ys) 0 ys (parts (map (λ k. place_at events (k + 1)) ys) x) ++ rest)) (sym w.0.1)
      (parts-at c 0 c w.0.0 (parts (map (λ k. place_at events (k + 1)) (c ∷ w.0.0)) x) rest f.0 w.0.2 (chains-at cs xs f.1 w.1))

  pub all-at : AllByRecursion AtChunk ws
  all-at = chains-at (fitting_starts wanted events) children (starts_fit tab bytes wanted events ready (range_with_len 0 (length events))) (follow_one_another tab bytes wanted events ready).whole

  quiet-at : (m : ℕ) → (Fits wanted events m → ⊥) → Quiet m ws
  quiet-at m never = every-map AtChunk (λ (w : Change). w.index ≡ m → ⊥) (λ w f e. never (subst (Fits wanted events) e f.0)) ws all-at

  quiet-stays : (n p : ℕ) → n < length events → after n ≡ Some p → Quiet n ws
  quiet-stays n p l e =
      let stays = stays_unless_removed ws events (changes_are_apart tab bytes wanted events children ready).fresh n l in
      stays-quiet ws n (every-map AtChunk (λ (w : Change). w.remove ≡ 2) (λ w f. f.1) ws all-at) (kept-not-removed (after n) p (is_removed ws n) e stays)

  -- no chunk begins at the exit of a chunk
  quiet-exit : (n : ℕ) → IsChunk events n → Quiet (n + 1) ws
  quiet-exit n c = quiet-at (n + 1) (λ f.
      let d = chunk tab bytes wanted events ready (n + 1) f in
      let same : c.exit ≡ d.enter = same_Some c.exit d.enter (sym c.exit_at ∙ d.enter_at) in
      let kinds : Exit ≡ Enter = sym c.ended.exits ∙ ap (λ (x : Event). x.kind) same ∙ d.linked.enter in absurd (cc))

  -- the event at the new place of an event
  at-place : (n p : ℕ) → after n ≡ Some p → slice_get new p ≡ option_map (relinked after) (slice_get events n)
  at-place n p e = stays_as_it_was ws events (changes_are_apart tab bytes wanted events children ready).fresh n p e

  same-content : (n p : ℕ) → after n ≡ Some p → content_at new p ≡ content_at events n
  same-content n p e = ap (option_and_then content_of) (at-place n p e) ∙ content-moved after (slice_get events n)

  exit-after : (n p : ℕ) → IsChunk events n → after n ≡ Some p → after (n + 1) ≡ Some (p + 1)
  exit-after n p c e =
      let inside = slice_get_within events (n + 1) c.exit c.exit_at in
      let zn : suc n ≡ n + 1 = omega arith in
      let zp : suc p ≡ p + 1 = omega arith in
      let q : Quiet (suc n) ws = subst (λ m. Quiet m ws) (sym zn) (quiet-exit n c) in
      ap after (sym zn) ∙ next-after n p (omega (arith, inside)) q e ∙ ap Some zp

  -- ---- the gap between two chunks
  module _ (n m p q : ℕ) (first : IsChunk events n) (last : IsChunk events m) (gap : IsGap events n m) (order : n < m) (at_n : after n ≡ Some p) (at_m : after m ≡ Some q) where
    within : m + 1 < length events
    within = slice_get_within events (m + 1) last.exit last.exit_at

    quiet-between : (i : ℕ) → n < i → i ≤ m + 1 → Quiet i ws
    quiet-between i l u = elim (cases_order i m) [
      | inl same ↦ subst (λ j. Quiet j ws) (sym same) (quiet-stays m q (omega (arith, within)) at_m)
      | inr apart ↦ elim apart [
        | inl below ↦ by_test (leb (n + 2) i)
            (λ b.
            let far : n + 2 ≤ i = leb-true (n + 2) i b in
            quiet-at i (λ f. let c = some_content wanted (content_at events i) f in none-some c.0 (sym (gap.no_link i far below) ∙ c.1)))
            (λ b. let near = leb-false (n + 2) i b in let is : i ≡ n + 1 = omega (arith, near) in subst (λ j. Quiet j ws) (sym is) (quiet-exit n first))
        | inr above ↦ let is : i ≡ m + 1 = omega arith in subst (λ j. Quiet j ws) (sym is) (quiet-exit m last)
      ]
    ]

    -- all events from the first to the last exit stand side by side
    along : (r : ℕ) → n + r ≤ m + 1 → after (n + r) ≡ Some (p + r)
    along zero l = let zn : n + 0 ≡ n = omega arith in let zp : p ≡ p + 0 = omega arith in ap after zn ∙ at_n ∙ ap Some zp
    along (suc r) l =
        let zn : n + suc r ≡ suc (n + r) = omega arith in
        let zp : suc (p + r) ≡ p + suc r = omega arith in
        ap after zn ∙ next-after (n + r) (p + r) (omega (arith, within)) (quiet-between (suc (n + r)) (omega arith) (omega arith)) (along r (omega arith)) ∙ ap Some zp

    along-to : (i j : ℕ) → n ≤ i → i ≤ m + 1 → i + p ≡ j + n → after i ≡ Some j
    along-to i j l u e =
        let zi : i ≡ n + (i - n) = omega arith in
        let zj : p + (i - n) ≡ j = omega arith in
        ap after zi ∙ along (i - n) (omega arith) ∙ ap Some zj

    pub far : q ≡ p + (m - n)
    far = same_Some q (p + (m - n)) (sym at_m ∙ along-to m (p + (m - n)) (omega arith) (omega arith) (omega arith))

    apart-by : n + 2 ≤ m
    apart-by = chunks-apart events n m first last order

    between-moved : between (p + 2) q new ≡ map (relinked after) (between (n + 2) m events)
    between-moved =
        let r : ℕ = m - (n + 2) in
        let two = apart-by in
        let z : q - (p + 2) ≡ r = omega (arith, far, two) in
        ap (λ k. take k (drop (p + 2) new)) z
        ∙ moved-list r (p + 2) (n + 2) new events after (omega (arith, within, two)) (λ j l. at-place (n + 2 + j) (p + 2 + j) (along-to (n + 2 + j) (p + 2 + j) (omega arith) (omega (arith, two)) (omega arith)))

    free-moved : (i : ℕ) → p + 2 ≤ i → i < q → content_at new i ≡ None
    free-moved i l u =
        let two = apart-by in
        let at : after (n + (i - p)) ≡ Some i = along-to (n + (i - p)) i (omega arith) (omega (arith, far, two)) (omega arith) in
        same-content (n + (i - p)) i at ∙ gap.no_link (n + (i - p)) (omega arith) (omega (arith, far, two))

  -- ---- where linked events come from
  abbrev pub ts : List Tagged
  ts = woven ws 0 events

  abbrev pub child : ℕ → List Event
  child = child_of tab bytes wanted events ready children

  -- An event of a list has a name, and so a place in the new list. The list is ready, and so are its chunks and gaps in the new list
  pub record IsOrigin (next : Option Content) (name : ℕ → Identity) (list : List Event) : Type 0 where
    pub is_ready : IsReady tab bytes next list
    pub at : (n p : ℕ) → place_in (name n) ts ≡ Some p → slice_get new p ≡ option_map (relinked (λ k. place_in (name k) ts)) (slice_get list n)
    pub exit : (n p : ℕ) → IsChunk list n → place_in (name n) ts ≡ Some p → place_in (name (n + 1)) ts ≡ Some (p + 1)
    pub order : (n m p q : ℕ) → IsChunk list n → IsChunk list m → n < m → place_in (name n) ts ≡ Some p → place_in (name m) ts ≡ Some q → p < q
    pub balanced : (n m p q : ℕ) → IsChunk list n → IsChunk list m → IsGap list n m → n < m → place_in (name n) ts ≡ Some p → place_in (name m) ts ≡ Some q → IsBalanced (between (p + 2) q new)
    pub free : (n m p q : ℕ) → IsChunk list n → IsChunk list m → IsGap list n m → n < m → place_in (name n) ts ≡ Some p → place_in (name m) ts ≡ Some q → (i : ℕ) → p + 2 ≤ i → i < q → content_at new i ≡ None

  -- an event of a child is at its place
  child-at : (c n p : ℕ) → place_in (of_child c n) ts ≡ Some p → slice_get new p ≡ option_map (relinked (λ k. place_in (of_child c k) ts)) (slice_get (child c) n)
  child-at c n p e =
      let placed_event : Tagged → Event = λ u. relinked (placed_end ts u.identity) u.event in
      let v = place_in-there (of_child c n) ts p e in
      let from : source child events v.0.identity ≡ Some v.0.event = every-get (IsSourced child events) ts p v.0 (all-sourced tab bytes wanted events ready children) v.1 in
      let is : slice_get (child c) n ≡ Some v.0.event = ap (source child events) (sym v.2) ∙ from in
      slice_get-map placed_event ts p ∙ ap (option_map placed_event) v.1 ∙ ap (λ b. Some (relinked (placed_end ts b) v.0.event)) v.2 ∙ sym (ap (option_map (relinked (λ k. place_in (of_child c k) ts))) is)

  module _ (next : Option Content) (other : IsReady tab bytes next events) (kids : AllByRecursion (IsReady tab bytes next) children)
      (cut : AreCutNowhere tab bytes wanted events ready (fitting_starts wanted events) children) where
    pub list-origin : IsOrigin next of_list events
    list-origin = record {
      is_ready = other;
      at = at-place;
      exit = exit-after;
      order = λ n m p q first last l e f. keeps_order ws events (changes_are_apart tab bytes wanted events children ready).fresh n m p q e f l;
      balanced = λ n m p q first last gap l e f. subst IsBalanced (sym (between-moved n m p q first last gap l e f)) (balanced-moved after gap.balanced);
      free = free-moved;
    }

    child-ready : (c : ℕ) → IsReady tab bytes next (child c)
    child-ready c = child-all (IsReady tab bytes next) (none-ready tab bytes next) (fitting_starts wanted events) children kids c

    put : (c n : ℕ) (e : Event) → slice_get (child c) n ≡ Some e → IsPut c (child c) ts
    put c n e at =
        let f = follow_one_another tab bytes wanted events ready in
        let starts = fitting_starts wanted events in
        let apart : AreApart 0 ws (0 + length events) = rw zero-add (changes_are_apart tab bytes wanted events children ready).apart in
        let spaced = subst (λ (ks : List ℕ). AreSpaced 0 ks (length events)) (sym f.in_order) f.spaced in
        subst (IsPut c (child c)) (sym (woven-pass ws 0 events apart))
        (put-chains tab bytes wanted events ready starts children 0 (starts_fit tab bytes wanted events ready (range_with_len 0 (length events))) f.whole cut spaced c n e at)

    -- what comes between two chunks of a child
    between-both : (c n m p q : ℕ) → IsChunk (child c) n → IsChunk (child c) m → n < m → place_in (of_child c n) ts ≡ Some p → place_in (of_child c m) ts ≡ Some q → Between c n m p q (child c) ts
    between-both c n m p q first last l e f =
        let inside = slice_get_within (child c) m last.enter last.enter_at in
        between-chunks c (child c) ts (all-once tab bytes wanted events ready children) n m p q (put c n first.enter first.enter_at) first (chunks-apart (child c) n m first last l) inside e f

    pub child-origin : (c : ℕ) → IsOrigin next (of_child c) (child c)
    child-origin c =
        let once = all-once tab bytes wanted events ready children in
        record {
          is_ready = child-ready c;
          at = child-at c;
          exit = λ n p chunk e. exit-place c (child c) ts once n p (put c n chunk.enter chunk.enter_at) chunk e;
          order = λ n m p q first last l e f. let far = (between-both c n m p q first last l e f).far in omega (arith, far);
          balanced = λ n m p q first last gap l e f. gap-balanced c (child c) ts once n m p q (between-both c n m p q first last l e f) gap;
          free = λ n m p q first last gap l e f. gap-free c (child c) ts once n m p q (between-both c n m p q first last l e f) gap;
        }

    -- Where the linked event at a place comes from
    record Comes (p : ℕ) (c : Content) : Type 0 where
      name : ℕ → Identity
      list : List Event
      origin : IsOrigin next name list
      n : ℕ
      place : place_in (name n) ts ≡ Some p
      content : content_at list n ≡ Some c

    comes : (p : ℕ) (c : Content) → content_at new p ≡ Some c → Comes p c
    comes p c e =
        let sourced = all-sourced tab bytes wanted events ready children in
        let placed_event : Tagged → Event = λ u. relinked (placed_end ts u.identity) u.event in
        by_option (slice_get ts p)
        (λ f. absurd (none-some c (sym (ap (option_and_then content_of) (slice_get-map placed_event ts p ∙ ap (option_map placed_event) f)) ∙ e)))
        (λ u f.
        let from : source child events u.identity ≡ Some u.event = every-get (IsSourced child events) ts p u sourced f in
        let is : content_of u.event ≡ Some c =
        sym (content-kept (placed_end ts u.identity) u.event.link) ∙ sym (ap (option_and_then content_of) (slice_get-map placed_event ts p ∙ ap (option_map placed_event) f)) ∙ e in
        by u f from is u.identity refl)
      where
        placed-at : (u : Tagged) → slice_get (woven (child_changes wanted events children) 0 events) p ≡ Some u → (b : Identity) → u.identity ≡ b → is_same b b ≡ true → place_in b (woven (child_changes wanted events children) 0 events) ≡ Some p
        placed-at u f b same self =
            let there = once-place (woven (child_changes wanted events children) 0 events) p u (all-once tab bytes wanted events ready children) (ap (λ a. is_same a a) same ∙ self) f in
            ap (λ a. place_in a (woven (child_changes wanted events children) 0 events)) (sym same) ∙ there

        by : (u : Tagged) → slice_get (woven (child_changes wanted events children) 0 events) p ≡ Some u → source (child_of tab bytes wanted events ready children) events u.identity ≡ Some u.event → content_of u.event ≡ Some c
            → (b : Identity) → u.identity ≡ b → Comes p c
        by u f from is (of_list n) same =
            record { name = of_list; list = events; origin = list-origin; n = n; place = placed-at u f (of_list n) same (eq-eqb n n refl); content = ap (option_and_then content_of) (ap (source (child_of tab bytes wanted events ready children) events) (sym same) ∙ from) ∙ is }
        by u f from is (of_child d j) same =
            let self : is_same (of_child d j) (of_child d j) ≡ true = let a : eqb d d ≡ true = eq-eqb d d refl in let b : eqb j j ≡ true = eq-eqb j j refl in rw (a, b) refl in
            record { name = of_child d; list = child d; origin = child-origin d; n = j; place = placed-at u f (of_child d j) same self; content = ap (option_and_then content_of) (ap (source (child_of tab bytes wanted events ready children) events) (sym same) ∙ from) ∙ is }
        by u f from is of_addition same = absurd (none-some u.event (ap (source (child_of tab bytes wanted events ready children) events) (sym same) ∙ from))

    -- what an event keeps
    module _ (name : ℕ → Identity) (list : List Event) (origin : IsOrigin next name list) where
      pub kept-content : (n p : ℕ) → place_in (name n) ts ≡ Some p → content_at new p ≡ content_at list n
      kept-content n p e = ap (option_and_then content_of) (origin.at n p e) ∙ content-moved (λ k. place_in (name k) ts) (slice_get list n)

      pub kept-place : (n p : ℕ) → place_in (name n) ts ≡ Some p → place_at new p ≡ place_at list n
      kept-place n p e = ap (λ o. unwrap_or o (point 1 1 0 0)) (ap (option_map (λ (x : Event). x.point)) (origin.at n p e) ∙ point-moved (λ k. place_in (name k) ts) (slice_get list n))

      kept-chunk : (n p : ℕ) → IsChunk list n → place_in (name n) ts ≡ Some p → IsChunk new p
      kept-chunk n p k e =
          let f : ℕ → Option ℕ = λ i. place_in (name i) ts in
          record {
            enter = relinked f k.enter;
            exit = relinked f k.exit;
            enter_at = origin.at n p e ∙ ap (option_map (relinked f)) k.enter_at;
            exit_at = origin.at (n + 1) (p + 1) (origin.exit n p k e) ∙ ap (option_map (relinked f)) k.exit_at;
            linked = linked-moved f k.enter k.linked;
            ended = record { exits = k.ended.exits; same = k.ended.same };
          }

      kept-readable : (n p : ℕ) → IsChunk list n → IsReadable tab bytes list n → place_in (name n) ts ≡ Some p → IsReadable tab bytes new p
      kept-readable n p k r e =
          let here = kept-place n p e in
          let there = kept-place (n + 1) (p + 1) (origin.exit n p k e) in
          record {
            content = λ f. r.content (sym (kept-content n p e) ∙ f);
            from = subst (IsShownPlace tab bytes) (sym here) r.from;
            to = subst (IsShownPlace tab bytes) (sym there) r.to;
            forward = (λ i. stands_before (there i) (here i)) ∙ r.forward;
          }

      kept-gap : (n m p q : ℕ) → IsChunk list n → IsChunk list m → IsGap list n m → n < m → place_in (name n) ts ≡ Some p → place_in (name m) ts ≡ Some q → IsGap new p q
      kept-gap n m p q first last gap l e f =
          let here = kept-place (n + 1) (p + 1) (origin.exit n p first e) in
          let there = kept-place m q f in
          record {
            forward = (λ i. stands_before (there i) (here i)) ∙ gap.forward;
            in_line = elim gap.in_line [
              | inl s ↦ inl (here ∙ s ∙ sym there)
              | inr s ↦ inr (ap (λ (x : Point). x.column) here ∙ s.0, ap (λ (x : Point). x.line) there ∙ s.1 ∙ ap (λ (x : Point). x.line) (sym here))
            ];
            balanced = origin.balanced n m p q first last gap l e f;
            no_link = origin.free n m p q first last gap l e f;
          }

      -- the next chunk comes from the same list
      pub kept-next : (n p q : ℕ) → place_in (name n) ts ≡ Some p → next_of new p ≡ Some q → (m : ℕ) × (next_of list n ≡ Some m) × (place_in (name m) ts ≡ Some q)
      kept-next n p q at e =
          let f : ℕ → Option ℕ = λ i. place_in (name i) ts in
          let moved : option_and_then f (next_of list n) ≡ Some q =
          sym (next_moved f (slice_get list n)) ∙ ap (option_and_then (λ (x : Event). option_and_then (λ (l : Link). l.next) x.link)) (sym (origin.at n p at)) ∙ e in
          option_and_then_some f (next_of list n) q moved (λ m a b. (m, a, b))

    -- ---- the list
    -- A chunk and the next one, in the list that they come from
    record Pair (p q : ℕ) : Type 0 where
      c : Content
      from : Comes p c
      m : ℕ
      next_is : next_of from.list from.n ≡ Some m
      place : place_in (from.name m) ts ≡ Some q

    pair : (p q : ℕ) → next_of new p ≡ Some q → Pair p q
    pair p q e =
        let c = linked-content (slice_get new p) q e in
        let from = comes p c.0 c.1 in
        let m = kept-next from.name from.list from.origin from.n p q from.place e in
        record { c = c.0; from = from; m = m.0; next_is = m.1; place = m.2 }

    pair-content : (p q : ℕ) (w : Pair p q) → content_at w.from.list w.m ≡ Some w.c
    pair-content p q w = sym (w.from.origin.is_ready.one_content w.from.n w.m w.next_is) ∙ w.from.content

    fits-there : (p : ℕ) (c : Content) (s : Comes p c) → fits next new p ≡ true → fits next s.list s.n ≡ true
    fits-there p c s h = ap (some_fits next) (sym (kept-content s.name s.list s.origin s.n p s.place)) ∙ h

    pub ready-new : IsReady tab bytes next new
    ready-new =
        let fit = children_fit tab bytes wanted events ready children in
        record {
          balanced = fit.balanced (every-map (IsReady tab bytes next) IsBalanced (λ x r. r.balanced) children kids);
          chunks = λ p c e. let s = comes p c e in kept-chunk s.name s.list s.origin s.n p (s.origin.is_ready.chunks s.n c s.content) s.place;
          joined = fit.chained (every-map (IsReady tab bytes next) AreMutual (λ x r. r.joined) children kids);
          forward = λ p q e.
              let w = pair p q e in
              let s = w.from in
              let ready_list = s.origin.is_ready in
              s.origin.order s.n w.m p q (ready_list.chunks s.n w.c s.content) (ready_list.chunks w.m w.c (pair-content p q w)) (ready_list.forward s.n w.m w.next_is) s.place w.place;
          one_content = λ p q e.
              let w = pair p q e in
              let s = w.from in
              kept-content s.name s.list s.origin s.n p s.place ∙ s.origin.is_ready.one_content s.n w.m w.next_is ∙ sym (kept-content s.name s.list s.origin w.m q w.place);
          readable = λ p h.
              let c = some_content next (content_at new p) h in
              let s = comes p c.0 c.1 in
              let ready_list = s.origin.is_ready in
              kept-readable s.name s.list s.origin s.n p (ready_list.chunks s.n c.0 s.content) (ready_list.readable s.n (fits-there p c.0 s h)) s.place;
          gaps = λ p q h e.
              let w = pair p q e in
              let s = w.from in
              let ready_list = s.origin.is_ready in
              kept-gap s.name s.list s.origin s.n w.m p q (ready_list.chunks s.n w.c s.content) (ready_list.chunks w.m w.c (pair-content p q w)) (ready_list.gaps s.n w.m (fits-there p w.c s h) w.next_is) (ready_list.forward s.n w.m w.next_is) s.place w.place;
        }

-- ---- the laws
pub stays-ready : (tab : ℕ) (bytes : List ℕ) (wanted : Option Content) (events : List Event) → IsReady tab bytes wanted events → StaysReady tab bytes wanted events
stays-ready tab bytes wanted events ready = λ next children other balanced alone.
    ready-new tab bytes wanted events ready children next other (all-alone next children balanced alone) (uncut (fitting_starts wanted events) children alone)
  where
    all-alone : (next : Option Content) (xs : List (List Event)) → AllByRecursion IsBalanced xs → AllByRecursion HaveNoLinks xs → AllByRecursion (IsReady tab bytes next) xs
    all-alone next [] b h = tt
    all-alone next (x ∷ xs) b h = (alone-ready tab bytes next x b.0 h.0, all-alone next xs b.1 h.1)

    uncut : (cs : List ℕ) (xs : List (List Event)) → AllByRecursion HaveNoLinks xs → AreCutNowhere tab bytes wanted events ready cs xs
    uncut [] xs h = tt
    uncut (c ∷ cs) [] h = tt
    uncut (c ∷ cs) (x ∷ xs) h = (alone-uncut (chain_of events c) (parts (map (λ k. place_at events (k + 1)) (chain_of events c)) x) (alone-parts (map (λ k. place_at events (k + 1)) (chain_of events c)) x h.0), uncut cs xs h.1)

pub chains-stay-ready : (tab : ℕ) (bytes : List ℕ) (wanted : Option Content) (events : List Event) → IsReady tab bytes wanted events → StaysReadyWithChains tab bytes wanted events
chains-stay-ready tab bytes wanted events ready = λ next children other kids torn. ready-new tab bytes wanted events ready children next other kids (none-cut wanted events children torn)

-- ---- a filter fewer
-- what fits a content fits if each does
fits-all : (w : Content) (o : Option Content) → some_fits (Some w) o ≡ true → some_fits None o ≡ true
fits-all w None h = absurd (cc)
fits-all w (Some c) h = refl

pub each-ready : (tab : ℕ) (bytes : List ℕ) (events : List Event) → IsReady tab bytes None events → (next : Content) → IsReady tab bytes (Some next) events
each-ready tab bytes events h next = record {
  balanced = h.balanced;
  chunks = h.chunks;
  joined = h.joined;
  forward = h.forward;
  one_content = h.one_content;
  readable = λ k f. h.readable k (fits-all next (content_at events k) f);
  gaps = λ k d f. h.gaps k d (fits-all next (content_at events k) f);
}
