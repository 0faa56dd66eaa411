-- Of what is read, delimiter runs go byte by byte, at places where virtual bytes are shown or end.
use Rattle.mddocument.proofs.Prelude.{◌≡◌, ℕ, zero, suc, ◌+◌, ◌-◌, ◌<◌, true, List, [], ◌∷◌, ◌++◌, length, map, sym, ap, ◌∙◌, subst, arith, append-nil, AllByRecursion, every-back, every-front, Event, AttentionSequence, Point, IsBalanced, same_name, shown, Seat, later, is_sequence, Atom, atom_seats, seats_of}
use Rattle.markdown_base.specs.declared.event.Name.{Name}
use Rattle.mddocument.proofs.Emphasis.Follow.{FollowFrom, follow-end}
use Rattle.mddocument.proofs.Emphasis.LinkAccounts.{AreGood, IsRead, read-apart}
use Rattle.mddocument.proofs.Emphasis.Pairs.{pair-first, pair_of}
use Rattle.mddocument.proofs.Emphasis.RunAtoms.{is_run}
use Rattle.mddocument.proofs.Emphasis.Runs.{sequence-kinds}
use Rattle.mddocument.proofs.InContainers.Places.{EndsAt}
use Rattle.mdinline_links.proofs.RunOrder.{later-later, later-none}
use Rattle.mdinline_links.proofs.Spans.{spans-between}
use Rattle.mdinline_links.specs.Places.{AreBytewise, AreSteps, GoesByBytes, IsBytewise}

module _ (At : Point → Type 0) (bytes : List ℕ) where
  follow-steps : (p : Point) (l : List Seat) → At p → FollowFrom bytes p l → AllByRecursion (EndsAt At bytes) l → AreSteps At p (length l)
  follow-steps p l here h ends zero less = subst At (sym (later-none p)) here
  follow-steps p [] here h ends (suc k) less = absurd (omega (arith, less))
  follow-steps p (s ∷ ss) here h ends (suc k) less =
      let one : 1 + k ≡ suc k = omega arith in
      let next = follow-steps (later 1 p) ss (subst At h.1 ends.0.1) h.2 ends.1 k (omega (arith, less)) in
      subst (λ n. At (later n p)) one (subst At (later-later k 1 p) next)

  run-goes : (e f : Event) (q : List Seat) (atoms : List Atom) → is_sequence e f ≡ true → map (pair_of bytes) atoms ≡ (e, f) ∷ [] → AreGood bytes atoms q → AllByRecursion (EndsAt At bytes) (seats_of atoms) → GoesByBytes At e f
  run-goes e f q [] is have good ends = absurd (cc)
  run-goes e f q (a ∷ b ∷ atoms) is have good ends = absurd (cc)
  run-goes e f q (a ∷ []) is have good ends =
      let pair : (e, f) ≡ pair_of bytes a = cc in
      let l = atom_seats a in
      let o = shown bytes a.first.point in
      let run : is_run a ≡ true = subst (λ (n : Name). same_name n AttentionSequence ≡ true) (ap (λ (x : Event × Event). x.0.name) pair) (sequence-kinds e f is).2 in
      let follow = (good.0.0 run).0 in
      let here = subst (AllByRecursion (EndsAt At bytes)) (append-nil l) ends in
      let from : e.point ≡ o = ap (λ (x : Event × Event). x.0.point) pair in
      let to : f.point ≡ later (length l) o = ap (λ (x : Event × Event). x.1.point) pair ∙ follow-end bytes o a.first a.others follow in
      let start : e.point.index ≡ o.index = ap (λ (x : Point). x.index) from in
      let end : f.point.index ≡ o.index + length l = ap (λ (x : Point). x.index) to in
      let many : length l ≡ f.point.index - e.point.index = omega (arith, start, end) in
      let steps = follow-steps o l here.0.0 follow here in (
        subst (λ n. 0 < n) many (omega arith),
        (λ i. later (sym many i) (from i)) ∙ sym to,
        subst (λ x. AreSteps At x (f.point.index - e.point.index)) (sym from) (subst (AreSteps At o) many steps),
      )

  -- virtual bytes from here on stand at such places
  abbrev ReadAt : List Seat → List Event → List Seat → Type 0
  ReadAt p es q = IsRead bytes p es q × AllByRecursion (EndsAt At bytes) p

  apart-at : (p q : List Seat) (xs ys : List Event) → IsBalanced xs → IsBalanced ys → ReadAt p (xs ++ ys) q → (m : List Seat) × ReadAt p xs m × ReadAt m ys q
  apart-at p q xs ys b c h =
      let cut = read-apart bytes p q xs ys b h.0 in
      let front = cut.1 in
      (cut.0, (cut.1, h.1), (cut.2, every-back (EndsAt At bytes) (seats_of front.atoms) cut.0 (subst (AllByRecursion (EndsAt At bytes)) front.are h.1)))

  span-goes : (p q : List Seat) (e : Event) (es : List Event) → ReadAt p (e ∷ es) q → IsBytewise At (e ∷ es)
  span-goes p q e [] h = tt
  span-goes p q e (f ∷ []) h = λ is.
      let kinds = sequence-kinds e f is in
      let ends = every-front (EndsAt At bytes) (seats_of h.0.atoms) q (subst (AllByRecursion (EndsAt At bytes)) h.0.are h.1) in
      run-goes e f q h.0.atoms is (sym h.0.have ∙ pair-first e f [] kinds.0 kinds.1) h.0.good ends
  span-goes p q e (f ∷ g ∷ es) h = tt

  pub reads-bytewise : (es : List Event) (p q : List Seat) → IsBalanced es → IsRead bytes p es q → AllByRecursion (EndsAt At bytes) p → AreBytewise At es
  reads-bytewise es p q balanced h ends = spans-between (List Seat) ReadAt (IsBytewise At) apart-at (λ p q e es b k. span-goes p q e es k) es p q balanced (h, ends)
