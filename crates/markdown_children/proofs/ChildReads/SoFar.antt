-- The loop of `subtokenize`: what is known before the event at an index is looked at.
use Rattle.markdown_children.proofs.Prelude.{◌≡◌, ℕ, zero, suc, ◌+◌, ◌-◌, ◌*◌, ◌<◌, ◌↔◌, true, false, List, [], ◌∷◌, ◌++◌, length, Option, Some, refl, sym, ◌∙◌, ap, subst, arith, add-zero, append_assoc, append-nil, flat_map, filter, AllByRecursion, map-append, length-map, flat_map-append, Content, Event, relinked, Edit, removed_by, added_by, Subresult, Fault, Memory, Failed, Given, Rules, with_more, chain_of, begins, fitting_starts, IsReady, AreSpaced, Divided, divided, divided_over, child_place, part_edits, chain_edits, all_edits, total, StandBefore, Child, lists, IsChild, AreChildren, IsChildFault, IsSubtokenizeFault, SoFar, starts_below, AllZip-long, all_zipped_more, passing_more, passing_next, length-append}
use Rattle.markdown_tokenizer.specs.declared.tokenizer.fault.Fault.TheVariants as fault
use Rattle.markdown_children.proofs.ChainOrder.Following.{filter-yes, whole-from, follow_one_another}
use Rattle.markdown_children.proofs.ChainOrder.Forward.{begins-fits, within}
use Rattle.markdown_children.proofs.ChainOrder.Spaced.{HasParts, divided-parts, divided_over-parts}
use Rattle.markdown_children.proofs.Parts.Edits.{all_edits-spaced, total-divided}

-- ---- one chain more

sums-append : (es fs : List Edit) → (removed_by (es ++ fs) ≡ removed_by es + removed_by fs) × (added_by (es ++ fs) ≡ added_by es + added_by fs)
sums-append [] fs = (omega arith, omega arith)
sums-append (e ∷ es) fs = let r = sums-append es fs in (omega (arith, r.0), omega (arith, r.1))

sums-parts : (f : ℕ → Option ℕ) (ks : List ℕ) (ps : List (List Event)) → length ks ≡ length ps → (removed_by (part_edits f ks ps) ≡ 2 * length ks) × (added_by (part_edits f ks ps) ≡ total ps)
sums-parts f [] [] e = (omega arith, refl)
sums-parts f (k ∷ ks) (p ∷ ps) e = let r = sums-parts f ks ps (omega arith) in (omega (arith, r.0), omega (arith, length-map p (relinked f), r.1))
sums-parts f ks ps e = absurd (omega arith)

-- the edits of chains, and of one more behind them
pub all_edits-push : (removed added : ℕ) (ds : List Divided) (d : Divided) → AllByRecursion HasParts ds
    → all_edits removed added (ds ++ d ∷ []) ≡ all_edits removed added ds ++ chain_edits (removed + removed_by (all_edits removed added ds)) (added + added_by (all_edits removed added ds)) d
all_edits-push removed added [] d h =
    append-nil (chain_edits removed added d) ∙ (λ j. chain_edits (sym (add-zero removed) j) (sym (add-zero added) j) d)
all_edits-push removed added (c ∷ ds) d h =
    let f : ℕ → Option ℕ = child_place c.chunks c.parts removed added in
    let front : List Edit = chain_edits removed added c in
    let rest : List Edit = all_edits (removed + 2 * length c.chunks) (added + total c.parts) ds in
    let z : removed + 2 * length c.chunks + removed_by rest ≡ removed + removed_by (front ++ rest) = omega (arith, (sums-append front rest).0, (sums-parts f c.chunks c.parts h.0).0) in
    let y : added + total c.parts + added_by rest ≡ added + added_by (front ++ rest) = omega (arith, (sums-append front rest).1, (sums-parts f c.chunks c.parts h.0).1) in
    ap (λ es. front ++ es) (all_edits-push (removed + 2 * length c.chunks) (added + total c.parts) ds d h.1)
    ∙ sym (append_assoc front rest (chain_edits (removed + 2 * length c.chunks + removed_by rest) (added + total c.parts + added_by rest) d))
    ∙ (λ j. (front ++ rest) ++ chain_edits (z j) (y j) d)

divided_over-push : (events : List Event) (cs : List ℕ) (children : List (List Event)) (c : ℕ) (child : List Event) → length cs ≡ length children
    → divided_over events (cs ++ c ∷ []) (children ++ child ∷ []) ≡ divided_over events cs children ++ divided events c child ∷ []
divided_over-push events [] [] c child e = refl
divided_over-push events (b ∷ cs) (x ∷ children) c child e = ap (λ ds. divided events b x ∷ ds) (divided_over-push events cs children c child (omega arith))
divided_over-push events cs children c child e = absurd (omega arith)

-- ---- the chains that begin below an index

starts-split : (wanted : Option Content) (events : List Event) (i m : ℕ) → begins wanted events i ≡ true
    → (behind : List ℕ) × (starts_below wanted events (i + 1 + m) ≡ starts_below wanted events i ++ i ∷ behind)
starts-split wanted events i zero b =
    ([], ap (starts_below wanted events) (add-zero (i + 1)) ∙ passing_more (begins wanted events) i ∙ ap (λ ks. starts_below wanted events i ++ ks) (filter-yes (begins wanted events) i [] b))
starts-split wanted events i (suc m) b =
    let r = starts-split wanted events i m b in
    let z : i + 1 + suc m ≡ i + 1 + m + 1 = omega arith in
    let last : List ℕ = filter (begins wanted events) ((i + 1 + m) ∷ []) in
    (r.0 ++ last, ap (starts_below wanted events) z ∙ passing_more (begins wanted events) (i + 1 + m) ∙ ap (λ ks. ks ++ last) r.1 ∙ append_assoc (starts_below wanted events i) (i ∷ r.0) last)

-- ---- what the calls require

spaced-front : (from n k : ℕ) (xs ys : List ℕ) → AreSpaced from (xs ++ k ∷ ys) n → AreSpaced from xs k
spaced-front from n k [] ys h = h.0
spaced-front from n k (x ∷ xs) ys h = (h.0, spaced-front (x + 2) n k xs ys h.1)

module _ (tab : ℕ) (bytes : List ℕ) (wanted : Option Content) (events : List Event) (ready : IsReady tab bytes wanted events) where
  -- the edits of the chains that begin below a chain's first chunk are before it
  pub stand-before : (i : ℕ) (children : List (List Event)) → begins wanted events i ≡ true → StandBefore (all_edits 0 0 (divided_over events (starts_below wanted events i) children)) i
  stand-before i children b =
      let f = follow_one_another tab bytes wanted events ready in
      let w = whole-from tab bytes wanted events ready i (begins-fits tab bytes wanted events ready i b) in
      let inside : i + 1 < length events = within tab bytes wanted events ready i b in
      let s = starts-split wanted events i (length events - (i + 1)) b in
      let z : length events ≡ i + 1 + (length events - (i + 1)) = omega arith in
      let below : List ℕ = starts_below wanted events i in
      let is : flat_map (chain_of events) (fitting_starts wanted events) ≡ flat_map (chain_of events) below ++ i ∷ (w.0 ++ flat_map (chain_of events) s.0) =
      ap (flat_map (chain_of events)) (ap (starts_below wanted events) z ∙ s.1) ∙ flat_map-append (chain_of events) below (i ∷ s.0)
      ∙ ap (λ ks. flat_map (chain_of events) below ++ (ks ++ flat_map (chain_of events) s.0)) w.1 in
      let spaced : AreSpaced 0 (flat_map (chain_of events) below ++ i ∷ (w.0 ++ flat_map (chain_of events) s.0)) (length events) =
      subst (λ (ks : List ℕ). AreSpaced 0 ks (length events)) (sym f.in_order ∙ is) f.spaced in
      let d = all_edits-spaced events below children 0 0 0 i (spaced-front 0 (length events) i (flat_map (chain_of events) below) (w.0 ++ flat_map (chain_of events) s.0) spaced) in
      record { disjoint = d.0; below = d.1 }

-- ---- the invariant

-- what holds of the events of each child holds of their lists
pub lists-all : {R D : Type 0} (g : Given) (rules : Given → Rules R D) (events : List Event) (P : List Event → Type 0) → ((c : ℕ) (child : Child) → IsChild g rules events c child → P child.events)
    → (cs : List ℕ) (children : List Child) → AreChildren g rules events cs children → AllByRecursion P (lists children)
lists-all g rules events P f [] [] h = tt
lists-all g rules events P f (c ∷ cs) (child ∷ children) h = (f c child h.0, lists-all g rules events P f cs children h.1)
lists-all g rules events P f cs children h = absurd h

module _ {R D : Type 0} {g : Given} {rules : Given → Rules R D} {wanted : Option Content} {events : List Event} where
  -- nothing begins there
  pub so_far-other : {i : ℕ} {es fs : List Edit} {sums more : ℕ × ℕ} {sub found : Subresult} → begins wanted events i ≡ false → fs ≡ es → more ≡ sums → found ≡ sub → SoFar g rules wanted events i es sums sub
      → SoFar g rules wanted events (i + 1) fs more found
  so_far-other {i} {sub = sub} b e d f s =
      let same : starts_below wanted events i ≡ starts_below wanted events (i + 1) =
      passing_next (begins wanted events) i (starts_below wanted events i) (starts_below wanted events i) false refl b (sym (append-nil _)) in
      rw (e, d, f) (record {
        children = s.children;
        read = subst (λ (ks : List ℕ). AreChildren g rules events ks s.children) same s.read;
        edits = s.edits ∙ ap (λ ks. all_edits 0 0 (divided_over events ks (lists s.children))) same;
        removed = s.removed;
        added = s.added;
        done = subst (λ (ks : List ℕ). (sub.done ≡ true) ↔ (ks ≡ [])) same s.done;
        definitions = s.definitions;
        footnotes = s.footnotes;
      })

  -- one more chain was read
  pub so_far-next : {i : ℕ} {es fs : List Edit} {sums more : ℕ × ℕ} {sub found : Subresult} {child : Child} {tab : ℕ} {bytes : List ℕ} → IsReady tab bytes wanted events → begins wanted events i ≡ true → SoFar g rules wanted events i es sums sub
      → IsChild g rules events i child
      → fs ≡ es ++ chain_edits sums.0 sums.1 (divided events i child.events)
      → more.0 ≡ sums.0 + 2 * length (chain_of events i) → more.1 ≡ sums.1 + length child.events
      → found ≡ record (with_more sub (Some child.found)) { done = false }
      → SoFar g rules wanted events (i + 1) fs more found
  so_far-next {i} {es} {fs} {sums} {more} {sub} {found} {child} {tab} {bytes} ready b s is e r a f_is =
      let cs : List ℕ = starts_below wanted events i in
      let next : cs ++ i ∷ [] ≡ starts_below wanted events (i + 1) = passing_next (begins wanted events) i cs (cs ++ i ∷ []) true refl b refl in
      let long : length cs ≡ length (lists s.children) = sym (AllZip-long (IsChild g rules events) cs s.children s.read) ∙ sym (length-map s.children (λ (c : Child). c.events)) in
      let ds : List Divided = divided_over events cs (lists s.children) in
      let dv : Divided = divided events i child.events in
      let old : List Edit = all_edits 0 0 ds in
      let f : ℕ → Option ℕ = child_place dv.chunks dv.parts sums.0 sums.1 in
      let w = whole-from tab bytes wanted events ready i (begins-fits tab bytes wanted events ready i b) in
      let zero_r : sums.0 ≡ 0 + removed_by old = s.removed ∙ ap removed_by s.edits ∙ (omega arith) in
      let zero_a : sums.1 ≡ 0 + added_by old = s.added ∙ ap added_by s.edits ∙ (omega arith) in
      record {
        children = s.children ++ child ∷ [];
        read = subst (λ (ks : List ℕ). AreChildren g rules events ks (s.children ++ child ∷ [])) next (all_zipped_more (IsChild g rules events) cs s.children i child s.read is);
        edits = e ∙ (λ j. s.edits j ++ chain_edits (zero_r j) (zero_a j) dv)
            ∙ sym (all_edits-push 0 0 ds dv (divided_over-parts events cs (lists s.children)))
            ∙ ap (all_edits 0 0) (sym (divided_over-push events cs (lists s.children) i child.events long))
            ∙ (λ j. all_edits 0 0 (divided_over events (next j) (sym (map-append (λ (c : Child). c.events) s.children (child ∷ [])) j)));
        removed = r ∙ omega (arith, s.removed, ap removed_by e, (sums-append es (chain_edits sums.0 sums.1 dv)).0, (sums-parts f dv.chunks dv.parts (divided-parts events i child.events)).0);
        added = a ∙ omega (arith, s.added, ap added_by e, (sums-append es (chain_edits sums.0 sums.1 dv)).1, (sums-parts f dv.chunks dv.parts (divided-parts events i child.events)).1, total-divided events i child.events w);
        done = ((λ t. absurd (let no : true ≡ false = sym t ∙ (ap (λ (x : Subresult). x.done) f_is) in cc)), (λ t. absurd (omega (arith, ap length (next ∙ t), length-append cs (i ∷ [])))));
        definitions = (ap (λ (x : Subresult). x.definitions) f_is) ∙ ap (λ xs. xs ++ child.found.definitions) s.definitions ∙ sym (flat_map-append (λ (c : Child). c.found.definitions) s.children (child ∷ []) ∙ ap (λ ys. flat_map (λ (c : Child). c.found.definitions) s.children ++ ys) (append-nil child.found.definitions));
        footnotes = (ap (λ (x : Subresult). x.gfm_footnote_definitions) f_is) ∙ ap (λ xs. xs ++ child.found.gfm_footnote_definitions) s.footnotes ∙ sym (flat_map-append (λ (c : Child). c.found.gfm_footnote_definitions) s.children (child ∷ []) ∙ ap (λ ys. flat_map (λ (c : Child). c.found.gfm_footnote_definitions) s.children ++ ys) (append-nil child.found.gfm_footnote_definitions));
      }

  -- where a chain ended in a message or ran out of memory, `subtokenize` fails as the chain does
  pub so_far-fault : {i : ℕ} {es : List Edit} {sums : ℕ × ℕ} {sub : Subresult} (f : Fault) → i < length events → begins wanted events i ≡ true → SoFar g rules wanted events i es sums sub → IsChildFault g rules events i f
      → IsSubtokenizeFault g rules wanted events f
  so_far-fault Memory l b s r = tt
  so_far-fault Failed l b s r = absurd r
  so_far-fault {i} (fault.Message m) l b s r =
      let split = starts-split wanted events i (length events - (i + 1)) b in
      let z : length events ≡ i + 1 + (length events - (i + 1)) = omega arith in
      record { front = starts_below wanted events i; chain = i; behind = split.0; starts = ap (starts_below wanted events) z ∙ split.1; children = s.children; read = s.read; refused = r }
