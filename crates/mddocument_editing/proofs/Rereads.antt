-- Sections that are read again, and their events put in.
use Rattle.mddocument_editing.proofs.Prelude.{◌≡◌, ℕ, zero, suc, ◌+◌, ◌<◌, Bool, List, [], ◌∷◌, ◌++◌, length, Option, Some, None, get_or, take, set, refl, sym, ap, ◌∙◌, subst, arith, append_assoc, inl, inr, length-append, length-take-le, take_more, AllByRecursion, every-map, IfNone, IfSome, ParseOptions, Event, part_events, IsRead, bytes_of_sections, AreReread, HasEvents, HasLinking, put_all, put_at, read_again, read_as, Reread, Section, Key}
use Rattle.mddocument_editing.specs.Said.{linking}
use Rattle.mddocument_editing.specs.declared.linking.Linking.{Linking}
use Rattle.mddocument_editing.specs.declared.section.Read.{Read}
use Rattle.std.proofs.Common.{append-nil}

-- what is put at the number of a section that was read there
pub put-at-set : (xs : List Section) (i : ℕ) (x : Section) (r : Reread) → x ≡ get_or xs i x → set xs i (read_as r x) ≡ put_at i r xs
put-at-set [] i x r is = refl
put-at-set (y ∷ ys) zero x r is = ap (λ z. read_as r z ∷ ys) is
put-at-set (y ∷ ys) (suc i) x r is = ap (λ zs. y ∷ zs) (put-at-set ys i x r is)

pub length-put-at : (i : ℕ) (r : Reread) (xs : List Section) → length (put_at i r xs) ≡ length xs
length-put-at i r [] = refl
length-put-at zero r (x ∷ xs) = refl
length-put-at (suc i) r (x ∷ xs) = ap suc (length-put-at i r xs)

pub length-put-all : (others : List Reread) (xs : List Section) → length (put_all xs others) ≡ length xs
length-put-all [] xs = refl
length-put-all (o ∷ os) xs = length-put-all os (put_at o.section o xs) ∙ length-put-at o.section o xs

-- the first section behind others is read again
put-behind : (xs : List Section) (s : Section) (ys : List Section) (r : Reread) → put_at (length xs) r (xs ++ s ∷ ys) ≡ xs ++ read_as r s ∷ ys
put-behind [] s ys r = refl
put-behind (x ∷ xs) s ys r = ap (λ zs. x ∷ zs) (put-behind xs s ys r)

-- what was read, by its number
abbrev reread : ℕ → List Event → Linking → Reread
reread number events all = record { section = number; events = events; linking = all }

module _ (read : List ℕ → List Event) where
  -- one list of sections behind another
  pub rereads-append : (n : ℕ) (xs ys : List Section) (os ps : List Reread) → AreReread read n xs os → AreReread read (n + length xs) ys ps → AreReread read n (xs ++ ys) (os ++ ps)
  rereads-append n [] ys os ps none more =
      let e : n + 0 ≡ n = omega arith in
      subst (λ zs. AreReread read n ys (zs ++ ps)) (sym none) (subst (λ k. AreReread read k ys ps) e more)
  rereads-append n (x ∷ xs) ys os ps (inl is) more =
      let e : n + suc (length xs) ≡ n + 1 + length xs = omega arith in
      inl (is.0, rereads-append (n + 1) xs ys os ps is.1 (subst (λ k. AreReread read k ys ps) e more))
  rereads-append n (x ∷ xs) ys os ps (inr is) more =
      let e : n + suc (length xs) ≡ n + 1 + length xs = omega arith in
      inr (is.0 ++ ps, (ap (λ zs. zs ++ ps) is.1.0, (is.1.1.0, rereads-append (n + 1) xs ys is.0 ps is.1.1.1 (subst (λ k. AreReread read k ys ps) e more))))

  -- of sections with their events none is read again
  pub rereads-none : (n : ℕ) (xs : List Section) → AllByRecursion (λ (s : Section). HasEvents read s × HasLinking s) xs → AreReread read n xs []
  rereads-none n [] all = refl
  rereads-none n (x ∷ xs) all = inl (all.0, rereads-none (n + 1) xs all.1)

  -- one section more: it has its events, or is read again
  module _ (n i : ℕ) (xs : List Section) (s : Section) (os : List Reread) (lt : i < length xs) (is : s ≡ get_or xs i s) (before : AreReread read n (take i xs) os) where
    one-more : (ps : List Reread) → AreReread read (n + i) (s ∷ []) ps → AreReread read n (take (i + 1) xs) (os ++ ps)
    one-more ps one =
        let long = length-take-le i xs (omega (arith, lt)) in
        subst (λ ys. AreReread read n ys (os ++ ps)) (sym (take_more xs i s lt ∙ ap (λ z. take i xs ++ z ∷ []) (sym is)))
        (rereads-append n (take i xs) (s ∷ []) os ps before (subst (λ k. AreReread read (n + k) (s ∷ []) ps) (sym long) one))

    pub rereads-stay : HasEvents read s → HasLinking s → AreReread read n (take (i + 1) xs) os
    rereads-stay has knows = subst (AreReread read n (take (i + 1) xs)) (append-nil os) (one-more [] (inl ((has, knows), refl)))

    pub rereads-differ : (r : Reread) → r ≡ read_again read (n + i) s → ¬ HasEvents read s → AreReread read n (take (i + 1) xs) (os ++ r ∷ [])
    rereads-differ r new differs = one-more (r ∷ []) (inr ([], (ap (λ (q : Reread). q ∷ []) new, (differs, refl))))

  -- what was found of one more section
  pub rereads-found : (n i : ℕ) (xs : List Section) (s : Section) (found : Option Read) (before after : List Reread) → i < length xs → s ≡ get_or xs i s → HasLinking s → AreReread read n (take i xs) before
      → IfNone found (HasEvents read s) → IfSome found (λ r. ((r.events ≡ read s.part.bytes.items) × (r.linking ≡ linking s.part.bytes.items r.events)) × ¬ HasEvents read s)
      → IfNone found (after ≡ before) → IfSome found (λ r. after ≡ before ++ record { section = n + i; events = r.events; linking = r.linking } ∷ []) → AreReread read n (take (i + 1) xs) after
  rereads-found n i xs s None before after lt is knows so_far has new stays more =
      subst (AreReread read n (take (i + 1) xs)) (sym stays) (rereads-stay n i xs s before lt is so_far has knows)
  rereads-found n i xs s (Some r) before after lt is knows so_far has new stays more =
      let p : r.events ≡ read s.part.bytes.items = new.0.0 in
      let q : r.linking ≡ linking s.part.bytes.items (read s.part.bytes.items) = new.0.1 ∙ ap (linking s.part.bytes.items) p in
      let same : reread (n + i) r.events r.linking ≡ read_again read (n + i) s = λ j. reread (n + i) (p j) (q j) in
      subst (AreReread read n (take (i + 1) xs)) (sym more) (rereads-differ n i xs s before lt is so_far (reread (n + i) r.events r.linking) same new.1)

  -- what holds of each section with other events holds of all that are read again
  pub rereads-each : (Q : ℕ → Type 0) (n : ℕ) (ss : List Section) (os : List Reread) → AreReread read n ss os
      → ((i : ℕ) (s : Section) → i < length ss → s ≡ get_or ss i s → ¬ HasEvents read s → Q (n + i)) → AllByRecursion (λ (other : Reread). Q other.section) os
  rereads-each Q n [] os none q = subst (AllByRecursion (λ (other : Reread). Q other.section)) (sym none) tt
  rereads-each Q n (x ∷ xs) os (inl is) q =
      rereads-each Q (n + 1) xs os is.1
      (λ i s lt there differs. let e : n + suc i ≡ n + 1 + i = omega arith in subst Q e (q (suc i) s (omega (arith, lt)) there differs))
  rereads-each Q n (x ∷ xs) os (inr is) q =
      let z : n + 0 ≡ n = omega arith in
      subst (AllByRecursion (λ (other : Reread). Q other.section)) (sym is.1.0) (
        subst Q z (q 0 x (omega arith) refl is.1.1.0),
        rereads-each Q (n + 1) xs is.0 is.1.1.1 (λ i s lt there differs. let e : n + suc i ≡ n + 1 + i = omega arith in subst Q e (q (suc i) s (omega (arith, lt)) there differs)),
      )

  -- sections with their events between two lists of others
  pub rereads-three : (front between behind : List Section) (from new_to : ℕ) (os ps : List Reread) → length front ≡ from → new_to ≡ from + length between → AllByRecursion (λ (s : Section). HasEvents read s × HasLinking s) between
      → AreReread read 0 front os → AreReread read new_to behind ps → AreReread read 0 (front ++ (between ++ behind)) (os ++ ps)
  rereads-three front between behind from new_to os ps long ends has first last =
      let e : new_to ≡ 0 + length front + length between = omega (arith, long, ends) in
      rereads-append 0 front (between ++ behind) os ps first
      (rereads-append (0 + length front) between behind [] ps (rereads-none (0 + length front) between has) (subst (λ k. AreReread read k behind ps) e last))

-- a section that was read, by whatever labels
abbrev pub IsReadBySome : ParseOptions → Section → Type 0
IsReadBySome options s = (defined : Key → Bool) × IsRead options defined s

-- by other labels it has been read, if it has the events that they give
pub read-as : (options : ParseOptions) (defined : Key → Bool) (s : Section) → IsReadBySome options s → HasEvents (part_events options defined) s → IsRead options defined s
read-as options defined s is has = record { limit = is.1.limit; labels = is.1.labels; lines = is.1.lines; asks = is.1.asks; events = sym has; linking = is.1.linking }

-- sections, read again where they have other events: the events are put in
pub put-again : (options : ParseOptions) (defined : Key → Bool) (xs ss : List Section) (n : ℕ) (os : List Reread) → length xs ≡ n → AreReread (part_events options defined) n ss os
    → AllByRecursion (IsReadBySome options) ss
    → (after : List Section) × ((put_all (xs ++ ss) os ≡ xs ++ after) × ((bytes_of_sections after ≡ bytes_of_sections ss) × AllByRecursion (IsRead options defined) after))
put-again options defined xs [] n os len none all = ([], (ap (put_all (xs ++ [])) none, (refl, tt)))
put-again options defined xs (s ∷ ss) n os len (inl is) all =
    let next = put-again options defined (xs ++ s ∷ []) ss (n + 1) os (length-append xs (s ∷ []) ∙ ap (λ k. k + 1) len) is.1 all.1 in (
      s ∷ next.0,
      (
        ap (λ zs. put_all zs os) (sym (append_assoc xs (s ∷ []) ss)) ∙ next.1.0 ∙ append_assoc xs (s ∷ []) next.0,
        (ap (λ bs. s.part.bytes.items ∷ bs) next.1.1.0, (read-as options defined s all.0 is.0.0, next.1.1.1)),
      ),
    )
put-again options defined xs (s ∷ ss) n os len (inr is) all =
    let r = read_again (part_events options defined) n s in
    let t = read_as r s in
    let rest = is.0 in
    let next = put-again options defined (xs ++ t ∷ []) ss (n + 1) rest (length-append xs (t ∷ []) ∙ ap (λ k. k + 1) len) is.1.1.1 all.1 in
    let here : put_at n r (xs ++ s ∷ ss) ≡ (xs ++ t ∷ []) ++ ss = ap (λ k. put_at k r (xs ++ s ∷ ss)) (sym len) ∙ put-behind xs s ss r ∙ sym (append_assoc xs (t ∷ []) ss) in
    let is_read = all.0.1 in (
      t ∷ next.0,
      (
        ap (put_all (xs ++ s ∷ ss)) is.1.0 ∙ ap (λ zs. put_all zs rest) here ∙ next.1.0 ∙ append_assoc xs (t ∷ []) next.0,
        (
          ap (λ bs. s.part.bytes.items ∷ bs) next.1.1.0,
          (record { limit = is_read.limit; labels = is_read.labels; lines = is_read.lines; asks = is_read.asks; events = refl; linking = refl }, next.1.1.1),
        ),
      ),
    )

-- sections that were read so are not read again
pub none-again : (options : ParseOptions) (defined : Key → Bool) (n : ℕ) (ss : List Section) → AllByRecursion (IsRead options defined) ss → AreReread (part_events options defined) n ss []
none-again options defined n ss are = rereads-none (part_events options defined) n ss (every-map (IsRead options defined) (λ (s : Section). HasEvents (part_events options defined) s × HasLinking s) (λ s is. (sym is.events, is.linking)) ss are)
