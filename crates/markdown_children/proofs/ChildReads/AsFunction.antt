-- What `subtokenize` gives is what the function of the list gives: a reading needs no larger bound than it makes calls.
use Rattle.markdown_children.proofs.Prelude.{◌≡◌, ◌+◌, ◌-◌, ◌<◌, ◌≤◌, ℕ, zero, suc, Bool, true, false, List, [], ◌∷◌, ◌++◌, length, take, Option, Some, None, inl, inr, refl, sym, ap, ◌∙◌, subst, arith, flat_map, slice_get, nat_lt, Message, Name, Next, Ok, Error, Event, Enter, Exit, Paragraph, IsBalanced, Given, Text, Configuration, start_configuration, Rules, Reading, resolving, same_from_decides, append-nil, lt-ltb, ltb-true, fitting_starts, with_children, Child, lists, IsRead, IsChild, IsChildRefused, AreChildren, AllByRecursion, AreAtPlaces, AreMutual, IsInShape, IsVoidTight, IsReady, begins, range_with_len, every-all, ◌⊎◌, IsSomeAnd, ◌↔◌, ◌&&◌, if◌then◌else◌, and_parts, and_from, length-take-le, sameb, Constructs, Content, Kind, BlankLineEnding, Definition, LineEnding, SpaceOrTab, ListItemPrefix, State, Retry, Nok, same_name, Subresult, Choice, Step, Sight, sight, fed, settled_at, more_calls, settle, after_choices, read_step, read, every-kept, more-zero, IsLongestRunTo, depth_after, is_stop, mirror, run_len, same_name-refl, same_name-true, IsLongestRunTo-walk, length-mirror, run_begin, is_of, is_at_first_paragraph, Answer, gives, refuses, endless, with_first, are_none, child_of, read_from, children_at, put_in, AreChildrenOf, EachIsRead, IsJustChildrenOf, IsAtFirstParagraph, IsSubtokenized, IsSubtokenizeRefused, start_at, text_from}
use Rattle.markdown_base.specs.contracts.event.Kind.{the_type as kinds}
use Rattle.markdown_base.specs.declared.event.Name.{Name as EventName}
use Rattle.markdown_edits.proofs.LinkEnds.{some-within}
use Rattle.markdown_children.proofs.ChildReads.SoFar.{lists-all}
use Rattle.markdown_children.proofs.Parts.AtPlaces.{with_children_at_places}
use Rattle.markdown_children.proofs.Parts.InShape.{children_fit}
use Rattle.markdown_children.specs.ChildrenOf.{left_of}

-- ---- a bound of as many calls as are made is enough

more-split : {R D : Type 0} (m : ℕ) (o : Option (Reading R D)) (r : Reading R D) → more_calls m o ≡ Some r → (q : Reading R D) × (o ≡ Some q) × (m + q.calls ≡ r.calls)
more-split m None r e = absurd (cc)
more-split {R} {D} m (Some q) r e =
    let same : record q { calls = m + q.calls } ≡ r = cc in
    (q, refl, ap (λ (x : Reading R D). x.calls) same)

after-none : {R D : Type 0} (f : Configuration R D → State → Option (Reading R D)) (cs : List Choice) → after_choices f cs None ≡ None
after-none f [] = refl
after-none f (c ∷ cs) = refl

module _ {R D : Type 0} (g : Given) (step : Sight → Configuration R D → Name → Step R D) (text : Text) where
  abbrev Enough : ℕ → ℕ → Type 0
  Enough b n = (k : Configuration R D) (s : State) (r : Reading R D) → read g step text b k s ≡ Some r → r.calls ≤ n → read g step text n k s ≡ Some r

  module _ (b n : ℕ) (enough : Enough b n) where
    abbrev low : Configuration R D → State → Option (Reading R D)
    low = read g step text b

    abbrev high : Configuration R D → State → Option (Reading R D)
    high = read g step text n

    more-enough : (m : ℕ) (k : Configuration R D) (s : State) (r : Reading R D) → more_calls m (low k s) ≡ Some r → r.calls ≤ n → (more_calls m (high k s) ≡ Some r) × (m ≤ r.calls)
    more-enough m k s r e le =
        let p = more-split m (low k s) r e in
        let q = p.0 in
        let there : high k s ≡ Some q = enough k s q p.1 (omega (arith, p.2, le)) in
        (ap (more_calls m) (there ∙ sym p.1) ∙ e, omega (arith, p.2))

    settle-enough : (c : Choice) (k : Configuration R D) (s : State) (m : ℕ) (r : Reading R D) → settle low c (record { configuration = k; answer = s; calls = m }) ≡ Some r → r.calls ≤ n
        → (settle high c (record { configuration = k; answer = s; calls = m }) ≡ Some r) × (m ≤ r.calls)
    settle-enough c k Ok m r e le = more-enough m (settled_at c.kind c.saved Ok k) c.ok r e le
    settle-enough c k Nok m r e le = more-enough m (settled_at c.kind c.saved Nok k) c.nok r e le
    settle-enough c k s m r e le =
        let same : record { configuration = k; answer = s; calls = m } ≡ r = cc in
        let calls : m ≡ r.calls = ap (λ (x : Reading R D). x.calls) same in
        (e, omega (arith, calls))

    after-enough : (cs : List Choice) (q r : Reading R D) → after_choices low cs (Some q) ≡ Some r → r.calls ≤ n → (after_choices high cs (Some q) ≡ Some r) × (q.calls ≤ r.calls)
    after-enough [] q r e le = let same : q ≡ r = cc in let calls : q.calls ≡ r.calls = ap (λ (x : Reading R D). x.calls) same in (e, omega (arith, calls))
    after-enough (c ∷ cs) q r e le =
        elim (settle low c q) as (λ o. settle low c q ≡ o → (after_choices high (c ∷ cs) (Some q) ≡ Some r) × (q.calls ≤ r.calls)) [
          | None ↦ λ is. let no : None ≡ Some r = sym (after-none low cs) ∙ ap (after_choices low cs) (sym is) ∙ e in absurd (cc)
          | Some x ↦ λ is.
              let rest = after-enough cs x r (ap (after_choices low cs) (sym is) ∙ e) le in
              let first = settle-enough c q.configuration q.answer q.calls x is (omega (arith, rest.1, le)) in
              (ap (after_choices high cs) first.0 ∙ rest.0, omega (arith, first.1, rest.1))
        ] refl

    step-enough : (s : Step R D) (r : Reading R D) → read_step low s ≡ Some r → r.calls ≤ suc n → read_step high s ≡ Some r
    step-enough s r e le = by (low s.configuration s.answer) refl
      where
        p : (q : Reading R D) × (after_choices low s.choices (low s.configuration s.answer) ≡ Some q) × (1 + q.calls ≡ r.calls)
        p = more-split 1 (after_choices low s.choices (low s.configuration s.answer)) r e

        by : (o : Option (Reading R D)) → low s.configuration s.answer ≡ o → read_step high s ≡ Some r
        by None is = let no : None ≡ Some p.0 = sym (after-none low s.choices) ∙ ap (after_choices low s.choices) (sym is) ∙ p.1 in absurd (cc)
        by (Some x) is =
            let rest = after-enough s.choices x p.0 (ap (after_choices low s.choices) (sym is) ∙ p.1) (omega (arith, p.2, le)) in
            let first : high s.configuration s.answer ≡ Some x = enough s.configuration s.answer x is (omega (arith, rest.1, p.2, le)) in
            ap (λ o. more_calls 1 (after_choices high s.choices o)) first ∙ ap (more_calls 1) (rest.0 ∙ sym p.1) ∙ e

  called-once : (f : Configuration R D → State → Option (Reading R D)) (s : Step R D) (r : Reading R D) → read_step f s ≡ Some r → r.calls ≤ 0 → ⊥
  called-once f s r e le = let p = more-split 1 (after_choices f s.choices (f s.configuration s.answer)) r e in absurd (omega (arith, p.2, le))

  pub read-enough : (b n : ℕ) → Enough b n
  read-enough b n k Ok r e le = e
  read-enough b n k Nok r e le = e
  read-enough b n k (Error m) r e le = e
  read-enough zero n k (Next name) r e le = absurd (cc)
  read-enough zero n k (Retry name) r e le = absurd (cc)
  read-enough (suc b) zero k (Next name) r e le = absurd (called-once (read g step text b) (step (sight g text (fed text k)) (fed text k) name) r e le)
  read-enough (suc b) zero k (Retry name) r e le = absurd (called-once (read g step text b) (step (sight g text k) k name) r e le)
  read-enough (suc b) (suc n) k (Next name) r e le = step-enough b n (read-enough b n) (step (sight g text (fed text k)) (fed text k) name) r e le
  read-enough (suc b) (suc n) k (Retry name) r e le = step-enough b n (read-enough b n) (step (sight g text k) k name) r e le

-- ---- the first paragraph of a list item

run_len-within : (names : List EventName) (depth : ℕ) (es : List Event) → run_len names depth es ≤ length es
run_len-within names depth [] = omega arith
run_len-within names depth (e ∷ es) =
    let more = run_len-within names (depth_after e.kind depth) es in
    elim (is_stop names e depth) as (λ b. (if b then 0 else 1 + run_len names (depth_after e.kind depth) es) ≤ suc (length es)) [ true ↦ omega arith | false ↦ omega (arith, more) ]

kind-true : (k j : Kind) → sameb kinds k j ≡ true → k ≡ j
kind-true Enter Enter e = refl
kind-true Exit Exit e = refl
kind-true Enter Exit e = absurd (cc)
kind-true Exit Enter e = absurd (cc)

kind-refl : (k : Kind) → sameb kinds k k ≡ true
kind-refl Enter = refl
kind-refl Exit = refl

is-event : (kind : Kind) (name : EventName) (o : Option Event) → is_of kind name o ≡ true → IsSomeAnd o (λ e. (e.kind ≡ kind) × (e.name ≡ name))
is-event kind name None h = absurd (cc)
is-event kind name (Some e) h =
    let p = and_parts (sameb kinds e.kind kind) (same_name e.name name) h in (kind-true e.kind kind p.0, same_name-true e.name name p.1)

of-event : (kind : Kind) (name : EventName) (o : Option Event) → IsSomeAnd o (λ e. (e.kind ≡ kind) × (e.name ≡ name)) → is_of kind name o ≡ true
of-event kind name None h = absurd h
of-event kind name (Some e) h =
    and_from (sameb kinds e.kind kind) (same_name e.name name) (ap (λ k. sameb kinds k kind) h.0 ∙ kind-refl kind) (ap (λ n. same_name n name) h.1 ∙ same_name-refl name)

abbrev passed : List EventName
passed = BlankLineEnding ∷ Definition ∷ LineEnding ∷ SpaceOrTab ∷ []

run-begins : (events : List Event) (i : ℕ) → IsBalanced events → i < length events → IsLongestRunTo passed events i (run_begin events i)
run-begins events i balanced l =
    let front = take (i + 1) events in
    let most = run_len-within passed 0 (mirror front) in
    let all = length-mirror front in
    let some = length-take-le (i + 1) events (omega (arith, l)) in
    IsLongestRunTo-walk passed events i (run_begin events i) ([], subst IsBalanced (sym (append-nil events)) balanced) l (omega (arith, most, all, some))

one-begin : (names : List EventName) (events : List Event) (i a b : ℕ) → IsLongestRunTo names events i a → IsLongestRunTo names events i b → a ≡ b
one-begin names events i a b h k = let one = h.longest b k.order k.run in let two = k.longest a h.order h.run in omega (arith, one, two)

first-decides : (on : Constructs) (events : List Event) (c : ℕ) → IsBalanced events → (is_at_first_paragraph on events c ≡ true) ↔ IsAtFirstParagraph events c on
first-decides on events c balanced = (yes, no)
  where
    begin : Bool
    begin = is_of Enter Paragraph (slice_get events (c - 1))

    item : Bool
    item = is_of Exit ListItemPrefix (slice_get events (run_begin events (c - 2) - 1))

    run : 2 < c → IsSomeAnd (slice_get events (c - 1)) (λ e. (e.kind ≡ Enter) × (e.name ≡ Paragraph)) → IsLongestRunTo passed events (c - 2) (run_begin events (c - 2))
    run above there =
        let l = some-within (λ e. (e.kind ≡ Enter) × (e.name ≡ Paragraph)) (c - 1) events there in
        run-begins events (c - 2) balanced (omega (arith, l, above))

    yes : is_at_first_paragraph on events c ≡ true → IsAtFirstParagraph events c on
    yes e =
        let a = and_parts on.gfm_task_list_item (nat_lt 2 c && (is_of Enter Paragraph (slice_get events (c - 1)) && is_of Exit ListItemPrefix (slice_get events (run_begin events (c - 2) - 1)))) e in
        let b = and_parts (nat_lt 2 c) (is_of Enter Paragraph (slice_get events (c - 1)) && is_of Exit ListItemPrefix (slice_get events (run_begin events (c - 2) - 1))) a.1 in
        let d = and_parts (is_of Enter Paragraph (slice_get events (c - 1))) (is_of Exit ListItemPrefix (slice_get events (run_begin events (c - 2) - 1))) b.1 in
        let above = ltb-true 2 c b.0 in
        let there = is-event Enter Paragraph (slice_get events (c - 1)) d.0 in
        record {
          on = a.0;
          above = above;
          paragraph = there;
          start = run_begin events (c - 2);
          run = run above there;
          item = is-event Exit ListItemPrefix (slice_get events (run_begin events (c - 2) - 1)) d.1;
        }

    no : IsAtFirstParagraph events c on → is_at_first_paragraph on events c ≡ true
    no h =
        let same = one-begin passed events (c - 2) h.start (run_begin events (c - 2)) h.run (run h.above h.paragraph) in
        let there = of-event Exit ListItemPrefix (slice_get events (run_begin events (c - 2) - 1)) (subst (λ i. IsSomeAnd (slice_get events (i - 1)) (λ e. (e.kind ≡ Exit) × (e.name ≡ ListItemPrefix))) same h.item) in
        let first = of-event Enter Paragraph (slice_get events (c - 1)) h.paragraph in
        and_from on.gfm_task_list_item (nat_lt 2 c && (is_of Enter Paragraph (slice_get events (c - 1)) && is_of Exit ListItemPrefix (slice_get events (run_begin events (c - 2) - 1)))) h.on
        (and_from (nat_lt 2 c) (is_of Enter Paragraph (slice_get events (c - 1)) && is_of Exit ListItemPrefix (slice_get events (run_begin events (c - 2) - 1))) (lt-ltb 2 c h.above)
        (and_from (is_of Enter Paragraph (slice_get events (c - 1))) (is_of Exit ListItemPrefix (slice_get events (run_begin events (c - 2) - 1))) first there))

-- ---- children, one after another

module _ {R D : Type 0} (g : Given) (rules : Given → Rules R D) (events : List Event) (balanced : IsBalanced events) where
  abbrev text : ℕ → Text
  text c = text_from g events c

  abbrev read_at : ℕ → Bool → Name → Option (Reading R D)
  read_at c flag start =
      let k : Configuration R D = start_configuration flag in
      read g (rules g).step (text c) ((rules g).cost (text c) k [] (Next start)) k (Next start)

  read-so : (c : ℕ) (r : Reading R D) → IsRead g rules events c r → (start : Name) × (start_at events c ≡ Some start) × (read_at c (is_at_first_paragraph g.options.constructs events c) start ≡ Some r)
  read-so c r h =
      let k : Configuration R D = start_configuration h.flag in
      let d = first-decides g.options.constructs events c balanced in
      let flag : h.flag ≡ is_at_first_paragraph g.options.constructs events c = same_from_decides h.flag (is_at_first_paragraph g.options.constructs events c) h.flagged d in
      let is : read g (rules g).step (text c) h.ends.bound k (Next h.start) ≡ Some r = sym (more-zero (read g (rules g).step (text c) h.ends.bound k (Next h.start))) ∙ h.ends.is in
      let there = read-enough g (rules g).step (text c) h.ends.bound ((rules g).cost (text c) k [] (Next h.start)) k (Next h.start) r is h.within in
      (h.start, h.starts, subst (λ b. read_at c b h.start ≡ Some r) flag there)

  -- what is left of it
  from-start : (c : ℕ) (r : Reading R D) → IsRead g rules events c r → read_from g rules events c (start_at events c) ≡ left_of g rules (text c) (Some r)
  from-start c r h = let s = read-so c r h in ap (read_from g rules events c) s.1 ∙ ap (left_of g rules (text c)) s.2

  left-ok : (t : Text) (k : Configuration R D) (s : State) (n : ℕ) → s ≡ Ok
      → left_of g rules t (Some (record { configuration = k; answer = s; calls = n })) ≡ child_of g rules (resolving (rules g).resolver g t k)
  left-ok t k s n h = rw h refl

  left-error : (t : Text) (k : Configuration R D) (s : State) (n : ℕ) (m : Message) → s ≡ Error m → left_of g rules t (Some (record { configuration = k; answer = s; calls = n })) ≡ refuses m
  left-error t k s n m h = rw h refl

  child-so : (c : ℕ) (child : Child) → IsChild g rules events c child → read_from g rules events c (start_at events c) ≡ gives child
  child-so c child h =
      let r = h.result in
      from-start c r h.read ∙ left-ok (text c) r.configuration r.answer r.calls h.well ∙ ap (child_of g rules) h.resolved
      ∙ ap (λ (es : List Event). gives (record { events = es; found = child.found })) (sym h.child_events)

  refused-so : (c : ℕ) (m : Message) → IsChildRefused g rules events c m → read_from g rules events c (start_at events c) ≡ refuses m
  refused-so c m h =
      let r = h.result in
      from-start c r h.read ∙ elim h.message [
        | inl is ↦ left-error (text c) r.configuration r.answer r.calls m is
        | inr is ↦ left-ok (text c) r.configuration r.answer r.calls is.0 ∙ ap (child_of g rules) is.1
      ]

  children-so : (cs : List ℕ) (children : List Child) → AreChildren g rules events cs children → children_at g rules events cs ≡ gives children
  children-so [] [] h = refl
  children-so [] (x ∷ xs) h = absurd h
  children-so (c ∷ cs) [] h = absurd h
  children-so (c ∷ cs) (x ∷ xs) h =
      ap (λ a. with_first a (children_at g rules events cs)) (child-so c x h.0) ∙ ap (with_first (gives x)) (children-so cs xs h.1)

  front-so : (front : List ℕ) (c : ℕ) (behind : List ℕ) (children : List Child) (m : Message) → AreChildren g rules events front children → IsChildRefused g rules events c m
      → children_at g rules events (front ++ c ∷ behind) ≡ refuses m
  front-so [] c behind children m h is = ap (λ a. with_first a (children_at g rules events behind)) (refused-so c m is)
  front-so (f ∷ front) c behind [] m h is = absurd h
  front-so (f ∷ front) c behind (x ∷ xs) m h is =
      ap (λ a. with_first a (children_at g rules events (front ++ c ∷ behind))) (child-so f x h.0) ∙ ap (with_first (gives x)) (front-so front c behind xs m h.1 is)

none-decides : (cs : List ℕ) → (are_none cs ≡ true) ↔ (cs ≡ [])
none-decides [] = ((λ h. refl), (λ h. refl))
none-decides (c ∷ cs) = ((λ h. absurd (cc)), (λ h. absurd (cc)))

pub are-children-of : {R D : Type 0} (g : Given) (rules : Given → Rules R D) (wanted : Option Content) (events : List Event) → IsBalanced events → AreChildrenOf g rules wanted events
are-children-of g rules wanted events balanced = record {
  list = λ new sub h.
      let starts = fitting_starts wanted events in
      let done : sub.done ≡ are_none starts = same_from_decides sub.done (are_none starts) h.done (none-decides starts) in
      ap (put_in g rules wanted events) (children-so g rules events balanced starts h.children h.read)
      ∙ (λ j. gives (sym h.events j, record { done = sym done j; gfm_footnote_definitions = sym h.footnotes j; definitions = sym h.definitions j }));
  message = λ m h.
      ap (λ cs. put_in g rules wanted events (children_at g rules events cs)) h.starts
      ∙ ap (put_in g rules wanted events) (front-so g rules events balanced h.front h.chain h.behind h.children m h.read h.refused);
}

-- ---- the other way round

-- the two parts of what is given
abbrev first_of : {A B : Type 0} → A → Answer (A × B) → A
first_of x (gives p) = p.0
first_of x (refuses m) = x
first_of x endless = x

abbrev second_of : {A B : Type 0} → B → Answer (A × B) → B
second_of x (gives p) = p.1
second_of x (refuses m) = x
second_of x endless = x

-- Children of all chains that fit, put in place, are what `subtokenize` gives
pub subtokenized : {R D : Type 0} (g : Given) (rules : Given → Rules R D) (wanted : Option Content) (events : List Event) → IsReady g.tab g.bytes wanted events
    → (children : List Child) → AreChildren g rules events (fitting_starts wanted events) children
    → (new : List Event) (sub : Subresult) → new ≡ with_children wanted events (lists children) → (sub.done ≡ true) ↔ (fitting_starts wanted events ≡ [])
    → sub.definitions ≡ flat_map (λ (c : Child). c.found.definitions) children → sub.gfm_footnote_definitions ≡ flat_map (λ (c : Child). c.found.gfm_footnote_definitions) children
    → IsSubtokenized g rules wanted events new sub
subtokenized g rules wanted events ready children made new sub is none definitions footnotes =
    let fit = children_fit g.tab g.bytes wanted events ready (lists children) in
    let each = λ (P : List Event → Type 0) (f : (c : ℕ) (child : Child) → IsChild g rules events c child → P child.events). lists-all g rules events P f (fitting_starts wanted events) children made in
    record {
      children = children;
      read = made;
      events = is;
      in_shape = subst IsInShape (sym is) (record { balanced = fit.balanced (each IsBalanced (λ c child is. is.in_shape.balanced)); inside = fit.inside; chained = fit.chained (each AreMutual (λ c child is. is.in_shape.chained)) });
      tight = λ old bs torn. subst IsVoidTight (sym is) (fit.tight old bs torn);
      at_places = λ old new. subst (AreAtPlaces g.tab g.bytes) (sym is) (with_children_at_places g.tab g.bytes wanted events (lists children) old new);
      stays = fit.stays;
      links = fit.links;
      done = none;
      definitions = definitions;
      footnotes = footnotes;
    }

module _ {R D : Type 0} (g : Given) (rules : Given → Rules R D) (wanted : Option Content) (events : List Event) (ready : IsReady g.tab g.bytes wanted events) where
  abbrev starts : List ℕ
  starts = fitting_starts wanted events

  -- either each of these chains has a child, or a first one is refused
  pub record FirstRefused (cs : List ℕ) : Type 0 where
    pub message : Message
    pub front : List ℕ
    pub chain : ℕ
    pub behind : List ℕ
    pub are : cs ≡ front ++ chain ∷ behind
    pub children : List Child
    pub read : AreChildren g rules events front children
    pub refused : IsChildRefused g rules events chain message

  abbrev Reached : List ℕ → Type 0
  Reached cs = ((children : List Child) × AreChildren g rules events cs children) ⊎ FirstRefused cs

  one-more : (c : ℕ) (cs : List ℕ) (child : Child) → IsChild g rules events c child → Reached cs → Reached (c ∷ cs)
  one-more c cs child is (inl all) = inl (child ∷ all.0, (is, all.1))
  one-more c cs child is (inr first) =
      inr (record { message = first.message; front = c ∷ first.front; chain = first.chain; behind = first.behind; are = ap (λ ds. c ∷ ds) first.are; children = child ∷ first.children; read = (is, first.read); refused = first.refused })

  reached : EachIsRead g rules wanted events → (cs : List ℕ) → AllByRecursion (λ c. begins wanted events c ≡ true) cs → Reached cs
  reached each [] all = inl ([], tt)
  reached each (c ∷ cs) all =
      elim (each c all.0) [
        | inl child ↦ one-more c cs child.0 child.1 (reached each cs all.1)
        | inr told ↦ inr (record { message = told.0; front = []; chain = c; behind = cs; are = refl; children = []; read = tt; refused = told.1 })
      ]

  all-begin : AllByRecursion (λ c. begins wanted events c ≡ true) starts
  all-begin =
      let indices = range_with_len 0 (length events) in
      every-kept (λ k. Unit {0}) (λ c. begins wanted events c ≡ true) (begins wanted events) (λ k u e. e) indices (every-all (λ k. Unit {0}) (λ k. tt) indices)

  -- the list with these children is what `subtokenize` gives
  put : (children : List Child) → AreChildren g rules events starts children → (new : List Event) × (sub : Subresult) × IsSubtokenized g rules wanted events new sub
  put children made = (
    with_children wanted events (lists children),
    record { done = are_none starts; gfm_footnote_definitions = flat_map (λ (c : Child). c.found.gfm_footnote_definitions) children; definitions = flat_map (λ (c : Child). c.found.definitions) children },
    subtokenized g rules wanted events ready children made (with_children wanted events (lists children)) _ refl (none-decides starts) refl refl,
  )

  given-list : (new other : List Event) (sub more : Subresult) → IsSubtokenized g rules wanted events new sub → ◌≡◌ {A = Answer (List Event × Subresult)} (gives (new, sub)) (gives (other, more)) → IsSubtokenized g rules wanted events other more
  given-list new other sub more h e =
      let first : new ≡ other = ap (first_of new) e in
      let second : sub ≡ more = ap (second_of sub) e in
      subst (λ s. IsSubtokenized g rules wanted events other s) second (subst (λ es. IsSubtokenized g rules wanted events es sub) first h)

  pub just-children-of : EachIsRead g rules wanted events → IsJustChildrenOf g rules wanted events
  just-children-of each =
      let are = are-children-of g rules wanted events ready.balanced in
      let there = reached each starts all-begin in record {
        list = λ new sub. (
          (λ e. elim there [
            | inl all ↦ let p = put all.0 all.1 in given-list p.0 new p.1 sub p.2 (sym (are.list p.0 p.1 p.2) ∙ e)
            | inr first ↦
                let h : IsSubtokenizeRefused g rules wanted events first.message =
                record { front = first.front; chain = first.chain; behind = first.behind; starts = first.are; children = first.children; read = first.read; refused = first.refused } in
                let no : refuses first.message ≡ gives (new, sub) = sym (are.message first.message h) ∙ e in absurd (cc)
          ]),
          are.list new sub,
        );
        message = λ m. (
          (λ e. elim there [
            | inl all ↦ let p = put all.0 all.1 in let no : gives (p.0, p.1) ≡ refuses m = sym (are.list p.0 p.1 p.2) ∙ e in absurd (cc)
            | inr first ↦
                let h : IsSubtokenizeRefused g rules wanted events first.message =
                record { front = first.front; chain = first.chain; behind = first.behind; starts = first.are; children = first.children; read = first.read; refused = first.refused } in
                let same : first.message ≡ m = (let e' : ◌≡◌ {A = Answer (List Event × Subresult)} (refuses first.message) (refuses m) = sym (are.message first.message h) ∙ e in cc) in
                subst (IsSubtokenizeRefused g rules wanted events) same h
          ]),
          are.message m,
        );
      }
