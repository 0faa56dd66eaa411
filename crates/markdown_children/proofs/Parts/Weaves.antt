-- What comes in place of a chain: the events of its child in order, and between its parts the gaps of the list.
--
-- A gap is balanced, and none of its events has a link. So the events between two of a child are balanced if they are so in the child.
use Rattle.markdown_children.proofs.Prelude.{slice_get_within, slice_get-behind, slice_get-map, get-front, every-get, length-drop, eq-eqb, is_same, place_in, placed, placed_in, placed_end, relinked, option_map, balanced_from_open, names_after_balanced, Link, with_ends, IsChunk, IsGap, ◌≡◌, ℕ, zero, suc, ◌+◌, ◌-◌, ◌<◌, ◌≤◌, Bool, true, false, cond, eqb, List, [], ◌∷◌, ◌++◌, length, map, take, drop, Option, Some, None, refl, sym, ◌∙◌, ap, subst, arith, append_assoc, length-append, map-append, drop-drop, flat_map, slice_get, none-some, same_Some, option_and_then, AllByRecursion, every-append, between, Content, Event, Point, IsBalanced, names_after, names_after_all, names_after_all-append, olds, pass, Identity, of_list, of_child, of_addition, Tagged, Change, tagged_child, part_changes, first_chunk, chain_changes, chain_of, content_at, IsReady, place_at, LeadOnFrom, IsWholeFrom, AreSpaced, StandSideBySide, parts, Divided, divided_over, eqb-true, all-there, get-dropped, get-taken, some-get, IsLinkedEnter, content_of}
use Rattle.markdown_base.specs.declared.event.Name.{Name}
use Rattle.markdown_children.proofs.ChainOrder.Following.{Fits, by_test, fits_next}
use Rattle.markdown_children.proofs.ChainOrder.Spaced.{length-parts, length-map_ends}
use Rattle.markdown_children.proofs.Parts.InShape.{child_at}
use Rattle.markdown_children.proofs.Parts.Kept.{joined, joined-parts, untagged, untagged-olds, names-leave, names-placed, between-none}
use Rattle.markdown_children.proofs.Parts.Once.{AreOnce, once-place}

-- ---- lists

-- what holds of each event between two indices
pub all-between : {A : Type 0} (P : A → Type 0) (a b : ℕ) (xs : List A) → ((i : ℕ) (x : A) → a ≤ i → i < b → slice_get xs i ≡ Some x → P x) → AllByRecursion P (between a b xs)
all-between P a b xs h = all-there P (between a b xs) (λ i x e.
    let r = get-taken (b - a) (drop a xs) i x e in
    let l : i < b - a = r.0 in
    h (a + i) x (omega arith) (omega arith) (sym (get-dropped a xs i) ∙ r.1))

-- events with other link ends
pub content-kept : (f : ℕ → Option ℕ) (o : Option Link) → option_map (λ (l : Link). l.content) (option_map (with_ends f) o) ≡ option_map (λ (l : Link). l.content) o
content-kept f None = refl
content-kept f (Some l) = refl

-- ---- the events of a child in order
-- the event has no link
abbrev pub IsFree : Event → Type 0
IsFree e = content_of e ≡ None

abbrev pub as_child : ℕ → ℕ → Event → Tagged
as_child c j e = record { identity = of_child c j; event = e }

-- a chunk is begun, and not ended, by the last of these events
abbrev pub EndsInChunkEnter : List Event → Type 0
EndsInChunkEnter [] = ⊥
EndsInChunkEnter (e ∷ []) = IsLinkedEnter e
EndsInChunkEnter (e ∷ f ∷ es) = EndsInChunkEnter (f ∷ es)

-- if a part ends inside a chunk, which a later part continues, no event is between their chunks
abbrev pub IsCutNowhere : List ℕ → List (List Event) → Type 0
IsCutNowhere [] ps = Unit {0}
IsCutNowhere (k ∷ ks) [] = Unit {0}
IsCutNowhere (k ∷ ks) (p ∷ ps) = (EndsInChunkEnter p → StandSideBySide k ks ps) × IsCutNowhere ks ps

-- whether the first event is one of the list
abbrev begins_listed : List Tagged → Bool
begins_listed [] = false
begins_listed (t ∷ ts) = by t.identity
  where
    by : Identity → Bool
    by (of_list n) = true
    by (of_child c n) = false
    by of_addition = false

abbrev is_some_list : List Tagged → Bool
is_some_list [] = true
is_some_list (t ∷ ts) = false

abbrev rest_of : List Tagged → List Tagged
rest_of [] = []
rest_of (t ∷ ts) = ts

module _ (c : ℕ) where
  -- the next event of the child, if there is one, comes first
  abbrev pub Follows : ℕ → List Event → List Tagged → Type 0
  Follows j [] ts = Unit {0}
  Follows j (e ∷ es) ts = (rest : List Tagged) × (ts ≡ as_child c j e ∷ rest)

  -- the events of a child from the j-th on, in order, with gaps between them; a chunk's exit is next to its enter
  pub data Wove : ℕ → List Event → List Tagged → Type 0 where
    ended : {j : ℕ} {l : List Tagged} → l ≡ [] → Wove j [] l
    event_next : {j : ℕ} {e : Event} {es : List Event} (ts : List Tagged) {l : List Tagged} → l ≡ as_child c j e ∷ ts → (IsLinkedEnter e → Follows (j + 1) es ts) → Wove (j + 1) es ts → Wove j (e ∷ es) l
    gap_next : {j : ℕ} {es : List Event} (i : ℕ) (xs : List Event) (ts : List Tagged) {l : List Tagged} → l ≡ olds i xs ++ ts → IsBalanced xs → AllByRecursion IsFree xs → Wove j es ts → Wove j es l

  -- they act on the open names as the child's do
  pub names-wove : {j : ℕ} {es : List Event} {l : List Tagged} → Wove j es l → (o : Option (List Name)) → names_after_all o (untagged l) ≡ names_after_all o es
  names-wove (ended is) o = ap (λ ts. names_after_all o (untagged ts)) is
  names-wove (event_next ts is b w) None = refl
  names-wove (event_next {e = e} ts is b w) (Some st) = ap (λ us. names_after_all (Some st) (untagged us)) is ∙ names-wove w (names_after e.kind e.name st)
  names-wove {es = es} (gap_next i xs ts is balanced free w) o =
      ap (λ us. names_after_all o (untagged us)) is
      ∙ ap (names_after_all o) (map-append (λ (t : Tagged). t.event) (olds i xs) ts ∙ ap (λ ys. ys ++ untagged ts) (untagged-olds i xs))
      ∙ names_after_all-append o xs (untagged ts) ∙ ap (λ p. names_after_all p (untagged ts)) (names-leave balanced o) ∙ names-wove w o

  -- none of them has a link if no event of the child has one
  pub free-wove : {j : ℕ} {es : List Event} {l : List Tagged} → Wove j es l → AllByRecursion IsFree es → AllByRecursion IsFree (untagged l)
  free-wove (ended is) h = subst (λ (ts : List Tagged). AllByRecursion IsFree (untagged ts)) (sym is) tt
  free-wove (event_next ts is b w) h = subst (λ (us : List Tagged). AllByRecursion IsFree (untagged us)) (sym is) (h.0, free-wove w h.1)
  free-wove (gap_next i xs ts is balanced free w) h =
      subst (λ (us : List Tagged). AllByRecursion IsFree (untagged us)) (sym is)
      (subst (AllByRecursion IsFree) (sym (map-append (λ (t : Tagged). t.event) (olds i xs) ts))
      (every-append IsFree (untagged (olds i xs)) (untagged ts) (subst (AllByRecursion IsFree) (sym (untagged-olds i xs)) free) (free-wove w h)))

  -- behind the first event come the others
  pub rest-wove : {j : ℕ} {x : Event} {xs : List Event} {l : List Tagged} → Wove j (x ∷ xs) l → (rest : List Tagged) → l ≡ as_child c j x ∷ rest → Wove (j + 1) xs rest
  rest-wove {j} {x} {xs} (event_next ts is b w) rest e = subst (Wove (j + 1) xs) (ap rest_of (sym is ∙ e)) w
  rest-wove (gap_next i [] ts is balanced free w) rest e = rest-wove w rest (sym is ∙ e)
  rest-wove (gap_next i (y ∷ ys) ts is balanced free w) rest e = let no : true ≡ false = ap begins_listed (sym is ∙ e) in absurd (cc)

  -- The events up to the n-th of the child, that one, and the others
  pub record Split (j r n : ℕ) (es : List Event) (ts : List Tagged) : Type 0 where
    pub front : List Tagged
    pub e : Event
    pub behind : List Event
    pub back : List Tagged
    pub is : ts ≡ front ++ (as_child c n e ∷ back)
    pub at : drop r es ≡ e ∷ behind
    pub before : Wove j (take r es) front
    pub beside : IsLinkedEnter e → Follows (n + 1) behind back
    pub after : Wove (n + 1) behind back

  never-empty : {j : ℕ} {x : Event} {xs : List Event} {l : List Tagged} → Wove j (x ∷ xs) l → l ≡ [] → ⊥
  never-empty (event_next {e = e} ts is b w) none = let no : false ≡ true = ap is_some_list (sym is ∙ none) in absurd (cc)
  never-empty (gap_next i [] ts is balanced free w) none = never-empty w (sym is ∙ none)
  never-empty (gap_next i (y ∷ ys) ts is balanced free w) none = let no : false ≡ true = ap is_some_list (sym is ∙ none) in absurd (cc)

  front-first : (front back rest : List Tagged) (t u : Tagged) → front ++ (t ∷ back) ≡ u ∷ rest → (front ≡ [] → ⊥) → (more : List Tagged) × (front ≡ u ∷ more)
  front-first [] back rest t u is some = absurd (some refl)
  front-first (v ∷ front) back rest t u is some = (front, ap (λ w. w ∷ front) (same_Some v u (ap (λ (l : List Tagged). slice_get l 0) is)))

  -- the events before the n-th begin as all do
  front-follows : {j n : ℕ} (r : ℕ) (es : List Event) {ts : List Tagged} (s : Split j r n es ts) → Follows j es ts → Follows j (take r es) s.front
  front-follows zero es s f = tt
  front-follows (suc r) [] s f = tt
  front-follows {j} {n} (suc r) (x ∷ es) s f = front-first s.front s.back f.0 (as_child c n s.e) (as_child c j x) (sym s.is ∙ f.1) (never-empty s.before)

  pub split : (r n j : ℕ) (es : List Event) (ts : List Tagged) → Wove j es ts → n ≡ j + r → r < length es → Split j r n es ts
  split r n j [] ts w z l = absurd (omega arith)
  split zero n j (e ∷ es) ts (event_next us is b w) z l =
      let same : j ≡ n = omega arith in
      record {
        front = [];
        e = e;
        behind = es;
        back = us;
        is = is ∙ ap (λ m. as_child c m e ∷ us) same;
        at = refl;
        before = ended refl;
        beside = λ h. subst (λ m. Follows (m + 1) es us) same (b h);
        after = subst (λ m. Wove (m + 1) es us) same w;
      }
  split (suc r) n j (e ∷ es) ts (event_next us is b w) z l =
      let s = split r n (j + 1) es us w (omega arith) (omega arith) in
      record {
        front = as_child c j e ∷ s.front;
        e = s.e;
        behind = s.behind;
        back = s.back;
        is = is ∙ ap (λ vs. as_child c j e ∷ vs) s.is;
        at = s.at;
        before = event_next s.front refl (λ h. front-follows r es s (b h)) s.before;
        beside = s.beside;
        after = s.after;
      }
  split r n j (e ∷ es) ts (gap_next i xs us is balanced free w) z l =
      let s = split r n j (e ∷ es) us w z l in
      record {
        front = olds i xs ++ s.front;
        e = s.e;
        behind = s.behind;
        back = s.back;
        is = is ∙ ap (λ vs. olds i xs ++ vs) s.is ∙ sym (append_assoc (olds i xs) s.front (as_child c n s.e ∷ s.back));
        at = s.at;
        before = gap_next i xs s.front refl balanced free s.before;
        beside = s.beside;
        after = s.after;
      }

  -- ---- parts
  -- a part in front
  wove-tagged : (j n : ℕ) (es rest : List Event) (ts : List Tagged) → n ≡ j + length es → Wove n rest ts → (EndsInChunkEnter es → Follows n rest ts) → Wove j (es ++ rest) (tagged_child c j es ++ ts)
  wove-tagged j n [] rest ts is w b = let z : n ≡ j = omega arith in subst (λ m. Wove m rest ts) z w
  wove-tagged j n (e ∷ []) rest ts is w b =
      let z : n ≡ j + 1 = omega arith in
      event_next ts refl (λ h. subst (λ m. Follows m rest ts) z (b h)) (subst (λ m. Wove m rest ts) z w)
  wove-tagged j n (e ∷ f ∷ es) rest ts is w b =
      event_next (tagged_child c (j + 1) (f ∷ es) ++ ts) refl (λ h. (tagged_child c (j + 1 + 1) es ++ ts, refl)) (wove-tagged (j + 1) n (f ∷ es) rest ts (omega arith) w b)

  module _ (events : List Event) where
    -- what comes behind the chunk at k, up to the end of its chain's last part
    abbrev pub rest_weave : ℕ → ℕ → List ℕ → List (List Event) → List Tagged
    rest_weave j k [] ps = []
    rest_weave j k (d ∷ ks) [] = []
    rest_weave j k (d ∷ ks) (p ∷ ps) = olds (k + 2) (between (k + 2) d events) ++ (tagged_child c j p ++ rest_weave (j + length p) d ks ps)

    -- if no event is between the chunks, the child goes on
    side-follows : (j k : ℕ) (ks : List ℕ) (ps : List (List Event)) → length ks ≡ length ps → StandSideBySide k ks ps → Follows j (joined ps) (rest_weave j k ks ps)
    side-follows j k [] [] e s = tt
    side-follows j k (d ∷ ks) ([] ∷ ps) e s =
        let z : j + 0 ≡ j = omega arith in
        let more = side-follows (j + 0) d ks ps (omega arith) s.1 in
        subst (Follows j (joined ps)) (sym (ap (λ xs. olds (k + 2) xs ++ rest_weave (j + 0) d ks ps) (between-none events (k + 2) d s.0))) (subst (λ m. Follows m (joined ps) (rest_weave (j + 0) d ks ps)) z more)
    side-follows j k (d ∷ ks) ((x ∷ p) ∷ ps) e s =
        let rest = rest_weave (j + length (x ∷ p)) d ks ps in
        (tagged_child c (j + 1) p ++ rest, ap (λ xs. olds (k + 2) xs ++ (tagged_child c j (x ∷ p) ++ rest)) (between-none events (k + 2) d s))
    side-follows j k ks ps e s = absurd (omega arith)

-- ---- the chains of a list
-- The child of a chain is there, in order
pub record IsPut (c : ℕ) (es : List Event) (ts : List Tagged) : Type 0 where
  pub front : List Tagged
  pub middle : List Tagged
  pub back : List Tagged
  pub is : ts ≡ front ++ (middle ++ back)
  pub wove : Wove c 0 es middle

put-more : (c : ℕ) (es : List Event) (us ts : List Tagged) → IsPut c es ts → IsPut c es (us ++ ts)
put-more c es us ts p = record {
  front = us ++ p.front;
  middle = p.middle;
  back = p.back;
  is = ap (λ vs. us ++ vs) p.is ∙ sym (append_assoc us p.front (p.middle ++ p.back));
  wove = p.wove;
}

module _ (tab : ℕ) (bytes : List ℕ) (wanted : Option Content) (events : List Event) (ready : IsReady tab bytes wanted events) where
  abbrev n : ℕ
  n = length events

  weave-wove : (c j k : ℕ) (ks : List ℕ) (ps : List (List Event)) → Fits wanted events k → LeadOnFrom events k ks → length ks ≡ length ps → IsCutNowhere ks ps → Wove c j (joined ps) (rest_weave c events j k ks ps)
  weave-wove c j k [] [] h lead e cut = ended refl
  weave-wove c j k (d ∷ ks) (p ∷ ps) h lead e cut =
      let fit = fits_next tab bytes wanted events ready k d h lead.0 in
      let gap = ready.gaps k d h lead.0 in
      let free = all-between IsFree (k + 2) d events (λ i x l u at. sym (ap (option_and_then content_of) at) ∙ gap.no_link i l u) in
      let rest = rest_weave c events (j + length p) d ks ps in
      let more = weave-wove c (j + length p) d ks ps fit lead.2 (omega arith) cut.1 in
      gap_next (k + 2) (between (k + 2) d events) (tagged_child c j p ++ rest) refl gap.balanced free
      (wove-tagged c j (j + length p) p (joined ps) rest refl more (λ v. side-follows c events (j + length p) d ks ps (omega arith) (cut.0 v)))
  weave-wove c j k ks ps h lead e cut = absurd (omega arith)

  pass-step : (c j i d : ℕ) (p : List Event) (ws : List Change) → i ≤ d
      → pass (record { index = d; remove = 2; events = tagged_child c j p } ∷ ws) i (drop i events) ≡ olds i (between i d events) ++ (tagged_child c j p ++ pass ws (d + 2) (drop (d + 2) events))
  pass-step c j i d p ws l =
      let z : i + (d + 2 - i) ≡ d + 2 = omega arith in
      ap (λ ys. olds i (between i d events) ++ (tagged_child c j p ++ pass ws (d + 2) ys)) (drop-drop (d + 2 - i) i events ∙ ap (λ m. drop m events) z)

  pass-weave : (c j k : ℕ) (ks more : List ℕ) (ps : List (List Event)) (ws : List Change) → length ks ≡ length ps → AreSpaced (k + 2) (ks ++ more) n
      → (m : ℕ) × AreSpaced m more n × (pass (part_changes c j ks ps ++ ws) (k + 2) (drop (k + 2) events) ≡ rest_weave c events j k ks ps ++ pass ws m (drop m events))
  pass-weave c j k [] more [] ws e sp = (k + 2, sp, refl)
  pass-weave c j k (d ∷ ks) more (p ∷ ps) ws e sp =
      let r = pass-weave c (j + length p) d ks more ps ws (omega arith) sp.1 in
      let rest = part_changes c (j + length p) ks ps ++ ws in
      let gap : List Tagged = olds (k + 2) (between (k + 2) d events) in
      let weave = rest_weave c events (j + length p) d ks ps in
      let left = pass ws r.0 (drop r.0 events) in (
        r.0,
        r.1,
        pass-step c j (k + 2) d p rest sp.0 ∙ ap (λ us. gap ++ (tagged_child c j p ++ us)) r.2
            ∙ ap (λ us. gap ++ us) (sym (append_assoc (tagged_child c j p) weave left)) ∙ sym (append_assoc gap (tagged_child c j p ++ weave) left),
      )
  pass-weave c j k ks more ps ws e sp = absurd (omega arith)

  -- one chain
  put-chain : (c i : ℕ) (ks more : List ℕ) (p : List Event) (ps : List (List Event)) (ws : List Change) → Fits wanted events c → LeadOnFrom events c ks → length ks ≡ length ps → IsCutNowhere (c ∷ ks) (p ∷ ps)
      → AreSpaced i (c ∷ (ks ++ more)) n
      → (m : ℕ) × AreSpaced m more n × (mid : List Tagged) × Wove c 0 (p ++ joined ps) mid × (pass (part_changes c 0 (c ∷ ks) (p ∷ ps) ++ ws) i (drop i events) ≡ olds i (between i c events) ++ (mid ++ pass ws m (drop m events)))
  put-chain c i ks more p ps ws h lead e cut sp =
      let j : ℕ = 0 + length p in
      let r = pass-weave c j c ks more ps ws e sp.1 in
      let weave = rest_weave c events j c ks ps in
      let w = wove-tagged c 0 j p (joined ps) weave refl (weave-wove c j c ks ps h lead e cut.1) (λ v. side-follows c events j c ks ps e (cut.0 v)) in
      let left = pass ws r.0 (drop r.0 events) in (
        r.0,
        r.1,
        tagged_child c 0 p ++ weave,
        w,
        pass-step c 0 i c p (part_changes c j ks ps ++ ws) sp.0
            ∙ ap (λ us. olds i (between i c events) ++ us) (ap (λ us. tagged_child c 0 p ++ us) r.2 ∙ sym (append_assoc (tagged_child c 0 p) weave left)),
      )

  abbrev pub AreCutNowhere : List ℕ → List (List Event) → Type 0
  AreCutNowhere cs children = AllByRecursion (λ (d : Divided). IsCutNowhere d.chunks d.parts) (divided_over events cs children)

  -- the child of this chain, or of one behind it
  put-either : (d i : ℕ) (ks more : List ℕ) (ps : List (List Event)) (ws : List Change) (x : List Event) (others : ℕ → List Event) (c : ℕ) → Fits wanted events d → LeadOnFrom events d ks → length (d ∷ ks) ≡ length ps
      → IsCutNowhere (d ∷ ks) ps → AreSpaced i (d ∷ (ks ++ more)) n → joined ps ≡ x
      → ((m : ℕ) → AreSpaced m more n → cond (eqb c d) x (others c) ≡ others c → IsPut c (others c) (pass ws m (drop m events)))
      → IsPut c (cond (eqb c d) x (others c)) (pass (part_changes d 0 (d ∷ ks) ps ++ ws) i (drop i events))
  put-either d i ks more [] ws x others c h lead many cut sp all later = absurd (omega arith)
  put-either d i ks more (p ∷ ps) ws x others c h lead many cut sp all later =
      let r = put-chain d i ks more p ps ws h lead (omega arith) cut sp in
      let front = olds i (between i d events) in
      let left = pass ws r.0 (drop r.0 events) in
      let whole = pass (part_changes d 0 (d ∷ ks) (p ∷ ps) ++ ws) i (drop i events) in
      by_test (eqb c d)
      (λ same.
      let child : cond (eqb c d) x (others c) ≡ x = rw same refl in
      let at_d : d ≡ c = sym (eqb-true c d same) in
      record {
        front = front;
        middle = r.2;
        back = left;
        is = r.4;
        wove = subst (λ es. Wove c 0 es r.2) (sym child) (subst (λ b. Wove b 0 x r.2) at_d (subst (λ es. Wove d 0 es r.2) all r.3));
      })
      (λ other.
      let child : cond (eqb c d) x (others c) ≡ others c = rw other refl in
      subst (λ es. IsPut c es whole) (sym child) (subst (IsPut c (others c)) (sym r.4) (put-more c (others c) front (r.2 ++ left) (put-more c (others c) r.2 left (later r.0 r.1 child)))))

  pub put-chains : (cs : List ℕ) (children : List (List Event)) (i : ℕ) → AllByRecursion (Fits wanted events) cs → AllByRecursion (IsWholeFrom events) cs → AreCutNowhere cs children
      → AreSpaced i (flat_map (chain_of events) cs) n → (c k : ℕ) (e : Event) → slice_get (child_at cs children c) k ≡ Some e
      → IsPut c (child_at cs children c) (pass (flat_map chain_changes (divided_over events cs children)) i (drop i events))
  put-chains [] children i fs wh cut sp c k e at = absurd (none-some e at)
  put-chains (d ∷ cs) [] i fs wh cut sp c k e at = absurd (none-some e at)
  put-chains (d ∷ cs) (x ∷ children) i fs wh cut sp c k e at =
      let ks = wh.0.0 in
      let is : chain_of events d ≡ d ∷ ks = wh.0.1 in
      let ends : List Point = map (λ k. place_at events (k + 1)) ks in
      let ps : List (List Event) = parts (place_at events (d + 1) ∷ ends) x in
      let ws : List Change = flat_map chain_changes (divided_over events cs children) in
      let more = flat_map (chain_of events) cs in
      let many : length (d ∷ ks) ≡ length ps = sym (length-parts (place_at events (d + 1) ∷ ends) x ∙ ap suc (length-map_ends events ks)) in
      let here : IsCutNowhere (d ∷ ks) ps = subst (λ (ys : List ℕ). IsCutNowhere ys (parts (map (λ k. place_at events (k + 1)) ys) x)) is cut.0 in
      let spaced : AreSpaced i (d ∷ (ks ++ more)) n = subst (λ (ys : List ℕ). AreSpaced i (ys ++ more) n) is sp in
      subst (λ (ys : List ℕ). IsPut c (child_at (d ∷ cs) (x ∷ children) c) (pass (part_changes (first_chunk ys) 0 ys (parts (map (λ k. place_at events (k + 1)) ys) x) ++ ws) i (drop i events))) (sym is)
      (put-either d i ks more ps ws x (child_at cs children) c fs.0 wh.0.2 many here spaced (joined-parts (place_at events (d + 1)) ends x)
      (λ m r child. put-chains cs children m fs.1 wh.1 cut.1 r c k e (ap (λ es. slice_get es k) (sym child) ∙ at)))

-- ---- the places of a child's events
between-middle : {A B : Type 0} (f : A → B) (xs ys zs : List A) (a b : ℕ) → length xs ≡ a → a + length ys ≡ b → between a b (map f (xs ++ (ys ++ zs))) ≡ map f ys
between-middle {A = A} f [] ys zs a b long is =
    let za : a ≡ 0 = omega (arith, long) in
    let zb : b - a ≡ length ys = omega (arith, long, is) in
    ap (λ k. take k (drop a (map f (ys ++ zs)))) zb ∙ ap (λ k. take (length ys) (drop k (map f (ys ++ zs)))) za ∙ taken ys
  where
    taken : (us : List A) → take (length us) (map f (us ++ zs)) ≡ map f us
    taken [] = refl
    taken (u ∷ us) = ap (λ vs. f u ∷ vs) (taken us)
between-middle f (x ∷ xs) ys zs zero b long is = absurd (omega (arith, long))
between-middle f (x ∷ xs) ys zs (suc a) zero long is = absurd (omega (arith, is))
between-middle f (x ∷ xs) ys zs (suc a) (suc b) long is =
    let z : suc b - suc a ≡ b - a = omega arith in
    ap (λ k. take k (drop a (map f (xs ++ (ys ++ zs))))) z ∙ between-middle f xs ys zs a b (omega (arith, long)) (omega (arith, is))

-- A child's event is at a place of the list
record Stands (c n p : ℕ) (es : List Event) (ts : List Tagged) : Type 0 where
  front : List Tagged
  e : Event
  behind : List Event
  back : List Tagged
  rest : List Tagged
  is : ts ≡ front ++ (as_child c n e ∷ (back ++ rest))
  long : length front ≡ p
  at : drop n es ≡ e ∷ behind
  beside : IsLinkedEnter e → Follows c (n + 1) behind back
  after : Wove c (n + 1) behind back

-- What comes behind a chunk of a child
record Behind (c n p : ℕ) (es : List Event) (ts : List Tagged) : Type 0 where
  front : List Tagged
  back : List Tagged
  rest : List Tagged
  is : ts ≡ front ++ (back ++ rest)
  long : length front ≡ p + 2
  exit_at : place_in (of_child c (n + 1)) ts ≡ Some (p + 1)
  after : Wove c (n + 2) (drop (n + 2) es) back

-- What comes between two chunks of a child
pub record Between (c n m p q : ℕ) (es : List Event) (ts : List Tagged) : Type 0 where
  pub front : List Tagged
  pub middle : List Tagged
  pub rest : List Tagged
  pub is : ts ≡ front ++ (middle ++ rest)
  pub long : length front ≡ p + 2
  pub far : p + 2 + length middle ≡ q
  pub wove : Wove c (n + 2) (between (n + 2) m es) middle

module _ (c : ℕ) (es : List Event) (ts : List Tagged) (once : AreOnce ts) where
  self : (n : ℕ) → is_same (of_child c n) (of_child c n) ≡ true
  self n = let a : eqb c c ≡ true = eq-eqb c c refl in let b : eqb n n ≡ true = eq-eqb n n refl in rw (a, b) refl

  -- the place of an event, by what comes before it
  place-by : (n : ℕ) (e : Event) (front back : List Tagged) → ts ≡ front ++ (as_child c n e ∷ back) → place_in (of_child c n) ts ≡ Some (length front)
  place-by n e front back is =
      let z : length front + 0 ≡ length front = omega arith in
      once-place ts (length front) (as_child c n e) once (self n) (ap (λ l. slice_get l (length front)) is ∙ ap (slice_get (front ++ (as_child c n e ∷ back))) (sym z) ∙ slice_get-behind front (as_child c n e ∷ back) 0)

  stands : (n p : ℕ) → IsPut c es ts → n < length es → place_in (of_child c n) ts ≡ Some p → Stands c n p es ts
  stands n p put l at =
      let s = split c n n 0 es put.middle put.wove (omega arith) l in
      let is : ts ≡ (put.front ++ s.front) ++ (as_child c n s.e ∷ (s.back ++ put.back)) =
      put.is ∙ ap (λ us. put.front ++ us) (ap (λ us. us ++ put.back) s.is ∙ append_assoc s.front (as_child c n s.e ∷ s.back) put.back) ∙ sym (append_assoc put.front s.front (as_child c n s.e ∷ (s.back ++ put.back))) in
      record {
        front = put.front ++ s.front;
        e = s.e;
        behind = s.behind;
        back = s.back;
        rest = put.back;
        is = is;
        long = same_Some (length (put.front ++ s.front)) p (sym (place-by n s.e (put.front ++ s.front) (s.back ++ put.back) is) ∙ at);
        at = s.at;
        beside = s.beside;
        after = s.after;
      }

  behind-chunk : (n p : ℕ) → IsPut c es ts → IsChunk es n → place_in (of_child c n) ts ≡ Some p → Behind c n p es ts
  behind-chunk n p put chunk at =
      let s = stands n p put (slice_get_within es n chunk.enter chunk.enter_at) at in
      let zn : n + 0 ≡ n = omega arith in
      let is_enter : s.e ≡ chunk.enter = same_Some s.e chunk.enter (sym (ap (λ l. slice_get l 0) s.at) ∙ get-dropped n es 0 ∙ ap (slice_get es) zn ∙ chunk.enter_at) in
      let is_exit : slice_get s.behind 0 ≡ Some chunk.exit = sym (ap (λ l. slice_get l 1) s.at) ∙ get-dropped n es 1 ∙ chunk.exit_at in
      by s s.behind refl is_exit (s.beside (subst IsLinkedEnter (sym is_enter) chunk.linked)) s.after
    where
      by : (s : Stands c n p es ts) (behind : List Event) → s.behind ≡ behind → slice_get behind 0 ≡ Some chunk.exit → Follows c (n + 1) behind s.back → Wove c (n + 1) behind s.back → Behind c n p es ts
      by s [] same exit f w = absurd (none-some chunk.exit exit)
      by s (x ∷ xs) same exit f w =
          let two : List Tagged = as_child c n s.e ∷ as_child c (n + 1) x ∷ [] in
          let front = s.front ++ two in
          let whole : ts ≡ s.front ++ (as_child c n s.e ∷ as_child c (n + 1) x ∷ (f.0 ++ s.rest)) = s.is ∙ ap (λ us. s.front ++ (as_child c n s.e ∷ (us ++ s.rest))) f.1 in
          let second : ts ≡ (s.front ++ (as_child c n s.e ∷ [])) ++ (as_child c (n + 1) x ∷ (f.0 ++ s.rest)) = whole ∙ sym (append_assoc s.front (as_child c n s.e ∷ []) (as_child c (n + 1) x ∷ (f.0 ++ s.rest))) in
          let one_more : length (s.front ++ (as_child c n s.e ∷ [])) ≡ p + 1 = omega (arith, length-append s.front (as_child c n s.e ∷ []), s.long) in
          let z : n + 1 + 1 ≡ n + 2 = omega arith in
          let left : xs ≡ drop (n + 2) es = ap (drop 2) (sym (s.at ∙ ap (λ l. s.e ∷ l) same)) ∙ drop-drop 2 n es in
          record {
            front = front;
            back = f.0;
            rest = s.rest;
            is = whole ∙ sym (append_assoc s.front two (f.0 ++ s.rest));
            long = omega (arith, length-append s.front two, s.long);
            exit_at = place-by (n + 1) x (s.front ++ (as_child c n s.e ∷ [])) (f.0 ++ s.rest) second ∙ ap Some one_more;
            after = subst (λ m. Wove c m (drop (n + 2) es) f.0) z (subst (λ l. Wove c (n + 1 + 1) l f.0) left (rest-wove c w f.0 f.1));
          }

  -- a chunk's exit is next to its enter
  pub exit-place : (n p : ℕ) → IsPut c es ts → IsChunk es n → place_in (of_child c n) ts ≡ Some p → place_in (of_child c (n + 1)) ts ≡ Some (p + 1)
  exit-place n p put chunk at = (behind-chunk n p put chunk at).exit_at

  pub between-chunks : (n m p q : ℕ) → IsPut c es ts → IsChunk es n → n + 2 ≤ m → m < length es → place_in (of_child c n) ts ≡ Some p → place_in (of_child c m) ts ≡ Some q → Between c n m p q es ts
  between-chunks n m p q put chunk l u at_n at_m =
      let b = behind-chunk n p put chunk at_n in
      let s = split c (m - (n + 2)) m (n + 2) (drop (n + 2) es) b.back b.after (omega arith) (omega (arith, length-drop (n + 2) es)) in
      let tail = as_child c m s.e ∷ s.back in
      let is : ts ≡ b.front ++ (s.front ++ (tail ++ b.rest)) = b.is ∙ ap (λ us. b.front ++ us) (ap (λ us. us ++ b.rest) s.is ∙ append_assoc s.front tail b.rest) in
      let long : length (b.front ++ s.front) ≡ q = same_Some (length (b.front ++ s.front)) q (sym (place-by m s.e (b.front ++ s.front) (s.back ++ b.rest) (is ∙ sym (append_assoc b.front s.front (tail ++ b.rest)))) ∙ at_m) in
      record {
        front = b.front;
        middle = s.front;
        rest = tail ++ b.rest;
        is = is;
        long = b.long;
        far = omega (arith, long, length-append b.front s.front, b.long);
        wove = s.before;
      }

  -- between two chunks of the new list is what comes between those of the child
  module _ (n m p q : ℕ) (b : Between c n m p q es ts) (gap : IsGap es n m) where
    abbrev placed_event : Tagged → Event
    placed_event u = relinked (placed_end ts u.identity) u.event

    pub gap-balanced : IsBalanced (between (p + 2) q (placed ts))
    gap-balanced =
        let is : between (p + 2) q (placed ts) ≡ placed_in ts b.middle = ap (λ us. between (p + 2) q (map placed_event us)) b.is ∙ between-middle placed_event b.front b.middle b.rest (p + 2) q b.long b.far in
        subst IsBalanced (sym is) (balanced_from_open (placed_in ts b.middle) (names-placed (Some []) ts b.middle ∙ names-wove c b.wove (Some []) ∙ names_after_balanced gap.balanced []))

    pub gap-free : (i : ℕ) → p + 2 ≤ i → i < q → content_at (placed ts) i ≡ None
    gap-free i l u =
        let far = b.far in
        let long = b.long in
        let t : ℕ = i - (p + 2) in
        let inside : t < length b.middle = omega (arith, far) in
        let zi : i ≡ length b.front + t = omega (arith, long) in
        let v = some-get b.middle t inside in
        let there : slice_get ts i ≡ Some v.0 = ap (slice_get ts) zi ∙ ap (λ us. slice_get us (length b.front + t)) b.is ∙ slice_get-behind b.front (b.middle ++ b.rest) t ∙ get-front b.middle b.rest t inside ∙ v.1 in
        let free = free-wove c b.wove (all-between IsFree (n + 2) m es (λ k x a z at. sym (ap (option_and_then content_of) at) ∙ gap.no_link k a z)) in
        let none : content_of v.0.event ≡ None = every-get IsFree (untagged b.middle) t v.0.event free (slice_get-map (λ (w : Tagged). w.event) b.middle t ∙ ap (option_map (λ (w : Tagged). w.event)) v.1) in
        ap (option_and_then content_of) (slice_get-map placed_event ts i ∙ ap (option_map placed_event) there) ∙ content-kept (placed_end ts v.0.identity) v.0.event.link ∙ none
