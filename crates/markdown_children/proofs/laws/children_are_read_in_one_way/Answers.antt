use Rattle.markdown_children.proofs.Prelude.{◌≡◌, ◌⊎◌, inl, inr, ⊎_elim, ℕ, List, [], ◌∷◌, ◌++◌, Some, Bool, true, refl, sym, ap, ◌∙◌, subst, flat_map, AllByRecursion, Event, Message, Name, Next, Ok, Error, Given, Text, Configuration, start_configuration, Rules, Reading, EndsIn, Resolved, done, refused, resolving, IsResolvingRefused, one-end, every-back, same_from_decides, chain_of, fitting_starts, with_children, text_of_chain, Child, lists, IsRead, IsChild, IsChildRefused, AreChildren}
use Rattle.markdown_children.proofs.laws.children_are_read_in_one_way.Goals as goal

module _ {R D : Type 0} (g : Given) (rules : Given → Rules R D) (events : List Event) where
  abbrev text : ℕ → Text
  text c = text_of_chain g events (chain_of events c)

  -- what resolvers make of a reading
  abbrev made : ℕ → Reading R D → Resolved R D
  made c r = resolving (rules g).resolver g (text c) r.configuration

  one-reading : (c : ℕ) (q r : Reading R D) → IsRead g rules events c q → IsRead g rules events c r → q ≡ r
  one-reading c q r a b =
      let f : a.flag ≡ b.flag = same_from_decides a.flag b.flag a.flagged b.flagged in
      let some : Some a.start ≡ Some b.start = sym a.starts ∙ b.starts in
      let s : a.start ≡ b.start = cc in
      one-end g (rules g).step (text c) 0 (start_configuration b.flag) [] (Next b.start) q r
      (subst (λ (x : Bool). EndsIn g (rules g).step (text c) 0 (start_configuration x) [] (Next b.start) q) f
      (subst (λ (n : Name). EndsIn g (rules g).step (text c) 0 (start_configuration a.flag) [] (Next n) q) s a.ends))
      b.ends

  not-both : (c : ℕ) (x : Child) (m : Message) → IsChild g rules events c x → IsChildRefused g rules events c m → ⊥
  not-both c x m a b =
      let q = one-reading c b.result a.result b.read a.read in
      ⊎_elim
      (λ (e : b.result.answer ≡ Error m). let f : Error m ≡ Ok = sym e ∙ ap (λ (r : Reading R D). r.answer) q ∙ a.well in absurd (cc))
      (λ (e : (b.result.answer ≡ Ok) × IsResolvingRefused (rules g).resolver g (text c) true b.result.configuration m).
      let f : refused m ≡ done a.final (Some x.found) = sym e.1 ∙ ap (made c) q ∙ a.resolved in absurd (cc))
      b.message

  one-message : (c : ℕ) (m n : Message) → IsChildRefused g rules events c m → IsChildRefused g rules events c n → m ≡ n
  one-message c m n a b = go (one-reading c a.result b.result a.read b.read) a.message b.message
    where
      go : a.result ≡ b.result
          → (a.result.answer ≡ Error m) ⊎ ((a.result.answer ≡ Ok) × (made c a.result ≡ refused m))
          → (b.result.answer ≡ Error n) ⊎ ((b.result.answer ≡ Ok) × (made c b.result ≡ refused n))
          → m ≡ n
      go q (inl e) (inl f) = let same : Error m ≡ Error n = sym e ∙ ap (λ (r : Reading R D). r.answer) q ∙ f in cc
      go q (inl e) (inr f) = let same : Error m ≡ Ok = sym e ∙ ap (λ (r : Reading R D). r.answer) q ∙ f.0 in absurd (cc)
      go q (inr e) (inl f) = let same : Ok ≡ Error n = sym e.0 ∙ ap (λ (r : Reading R D). r.answer) q ∙ f in absurd (cc)
      go q (inr e) (inr f) = let same = sym e.1 ∙ ap (made c) q ∙ f.1 in cc

  one-children : (cs : List ℕ) (xs ys : List Child) → AreChildren g rules events cs xs → AreChildren g rules events cs ys → xs ≡ ys
  one-children [] [] [] h k = refl
  one-children (c ∷ cs) (x ∷ xs) (y ∷ ys) h k =
      let a = h.0 in
      let b = k.0 in
      let e : done a.final (Some x.found) ≡ done b.final (Some y.found) = sym a.resolved ∙ ap (made c) (one-reading c a.result b.result a.read b.read) ∙ b.resolved in
      let final : a.final ≡ b.final = cc in
      let found : x.found ≡ y.found = cc in
      (λ j. record { events = (a.child_events ∙ ap (λ (k : Configuration R D). k.events) final ∙ sym b.child_events) j; found = found j } ∷ one-children cs xs ys h.1 k.1 j)
  one-children cs xs ys h k = absurd (search)

  abbrev HasChild : ℕ → Type 0
  HasChild c = (x : Child) × IsChild g rules events c x

  each-child : (cs : List ℕ) (xs : List Child) → AreChildren g rules events cs xs → AllByRecursion HasChild cs
  each-child [] xs h = tt
  each-child (c ∷ cs) [] h = absurd h
  each-child (c ∷ cs) (x ∷ xs) h = ((x, h.0), each-child cs xs h.1)

  one-refusal : (m n : Message) (front : List ℕ) (c : ℕ) (behind before : List ℕ) (d : ℕ) (after : List ℕ) → front ++ c ∷ behind ≡ before ++ d ∷ after
      → AllByRecursion HasChild front → AllByRecursion HasChild before → IsChildRefused g rules events c m → IsChildRefused g rules events d n → m ≡ n
  one-refusal m n [] c behind [] d after e h k a b =
      let same : c ≡ d = cc in
      one-message d m n (subst (λ i. IsChildRefused g rules events i m) same a) b
  one-refusal m n [] c behind (f ∷ before) d after e h k a b =
      let same : c ≡ f = cc in
      absurd (not-both f k.0.0 m k.0.1 (subst (λ i. IsChildRefused g rules events i m) same a))
  one-refusal m n (f ∷ front) c behind [] d after e h k a b =
      let same : d ≡ f = cc in
      absurd (not-both f h.0.0 n h.0.1 (subst (λ i. IsChildRefused g rules events i n) same b))
  one-refusal m n (f ∷ front) c behind (i ∷ before) d after e h k a b =
      let tails : front ++ c ∷ behind ≡ before ++ d ∷ after = cc in
      one-refusal m n front c behind before d after tails h.1 k.1 a b

pub returns : goal.returns
returns g c m given wanted events =
    let rules = g.M.Machine.rules m in
    let starts : List ℕ = fitting_starts wanted events in
    record {
      list = λ new other sub more a b.
          let same : a.children ≡ b.children = one-children given rules events starts a.children b.children a.read b.read in
          let defs : sub.definitions ≡ more.definitions = a.definitions ∙ ap (flat_map (λ (c : Child). c.found.definitions)) same ∙ sym b.definitions in
          let notes : sub.gfm_footnote_definitions ≡ more.gfm_footnote_definitions =
          a.footnotes ∙ ap (flat_map (λ (c : Child). c.found.gfm_footnote_definitions)) same ∙ sym b.footnotes in (
            a.events ∙ ap (λ (cs : List Child). with_children wanted events (lists cs)) same ∙ sym b.events,
            (λ j. record { done = (same_from_decides sub.done more.done a.done b.done) j; gfm_footnote_definitions = notes j; definitions = defs j }),
          );
      well = λ new sub m a b.
          let there = (every-back (HasChild given rules events) b.front (b.chain ∷ b.behind)
          (subst (AllByRecursion (HasChild given rules events)) b.starts (each-child given rules events starts a.children a.read))).0 in
          not-both given rules events b.chain there.0 m there.1 b.refused;
      message = λ m n a b.
          one-refusal given rules events m n a.front a.chain a.behind b.front b.chain b.behind (sym a.starts ∙ b.starts)
          (each-child given rules events a.front a.children a.read) (each-child given rules events b.front b.children b.read) a.refused b.refused;
    }
