-- Events with other names: they stay balanced, and all else that is said of kinds, places and links stays.
use Rattle.markdown_tokenizer.proofs.Prelude.{◌≡◌, ℕ, suc, ◌+◌, ◌-◌, ◌<◌, List, [], ◌∷◌, ◌++◌, true, false, Option, Some, None, length, refl, sym, ap, ◌∙◌, subst, arith, take, drop, get_or, map, slice_get, option_map, All, AllPairs, length-map, map-append, append_assoc, append-nil, none-mapped, Event, Kind, Enter, Exit, Link, Point, IsBalanced, empty, span, EndsBelow, IsPointOf, IsShown, stands_before, next_of, previous_of, IsWellFormed, IsInShape, Given, HaveNoLinks}
use Rattle.std.proofs.Math.Seq.{take-append_seam, drop-append_seam}
use Rattle.std.proofs.lemmas.List.{drop-drop, get_or-map, length-drop, length-take-le, take-append-drop}
use Rattle.std.proofs.lemmas.Option.{slice_get-map, same_Some}
use Rattle.std.specs.List.{between}
use Rattle.std.specs.Prelude.{option_and_then}
use Rattle.markdown_base.proofs.Common.{drop-next}
use Rattle.markdown_edits.proofs.Edits.Survivors.{slice_get-behind}
use Rattle.markdown_base.specs.declared.event.Name.{Name as EventName}
use Rattle.markdown_base.specs.Events.{IsVoidTight, is_void}
use Rattle.markdown_tokenizer.specs.Renames.{besides_name, name_at, IsSpanAt, AreRenamed, renamed_by, MakesNoneVoid}

-- ---- lists with the same image

module _ {A B : Type 0} (h : A → B) where
  -- what an image that begins so is the image of
  mapped-first : (zs : List A) (y : B) (ys : List B) → map h zs ≡ y ∷ ys → (z : A) × (rest : List A) × (zs ≡ z ∷ rest) × (h z ≡ y) × (map h rest ≡ ys)
  mapped-first [] y ys e = absurd (cc)
  mapped-first (z ∷ zs) y ys e = let first : h z ≡ y = cc in let rest : map h zs ≡ ys = cc in (z, zs, refl, first, rest)

  -- and of an image of two parts
  mapped-parts : (zs : List A) (xs ys : List B) → map h zs ≡ xs ++ ys → (us vs : List A) × (zs ≡ us ++ vs) × (map h us ≡ xs) × (map h vs ≡ ys)
  mapped-parts zs [] ys e = ([], zs, refl, refl, e)
  mapped-parts zs (x ∷ xs) ys e =
      let first = mapped-first zs x (xs ++ ys) e in
      let rest = mapped-parts first.1 xs ys first.4 in
      (first.0 ∷ rest.0, rest.1, first.2 ∙ ap (λ l. first.0 ∷ l) rest.2, ap (λ y. y ∷ map h rest.0) first.3 ∙ ap (λ l. x ∷ l) rest.3, rest.4)

-- what is behind the first part of what is left
drop-behind : {A : Type 0} (xs : List A) (i : ℕ) (us vs : List A) → drop i xs ≡ us ++ vs → drop (i + length us) xs ≡ vs
drop-behind xs i us vs e = sym (drop-drop (length us) i xs) ∙ ap (drop (length us)) e ∙ drop-append_seam us vs

-- a list that has a span at an index, taken apart
module _ (xs : List Event) (i : ℕ) (e f : Event) (ys zs : List Event) (from_there : drop i xs ≡ e ∷ (ys ++ f ∷ zs)) where
  list-is : xs ≡ take i xs ++ e ∷ (ys ++ f ∷ zs)
  list-is = sym (take-append-drop i xs) ∙ ap (λ l. take i xs ++ l) from_there

  long : length (take i xs) ≡ i
  long = length-take-le i xs (omega (arith, length-drop i xs, ap length from_there))

  enter-there : slice_get xs i ≡ Some e
  enter-there =
      let here : i ≡ length (take i xs) + 0 = omega (arith, long) in
      ap (λ l. slice_get l i) list-is ∙ ap (slice_get (take i xs ++ e ∷ (ys ++ f ∷ zs))) here ∙ slice_get-behind (take i xs) (e ∷ (ys ++ f ∷ zs)) 0

  exit-there : slice_get xs (i + 1 + length ys) ≡ Some f
  exit-there =
      let here : i + 1 + length ys ≡ length (take i xs) + suc (length ys + 0) = omega (arith, long) in
      ap (λ l. slice_get l (i + 1 + length ys)) list-is ∙ ap (slice_get (take i xs ++ e ∷ (ys ++ f ∷ zs))) here
      ∙ slice_get-behind (take i xs) (e ∷ (ys ++ f ∷ zs)) (suc (length ys + 0)) ∙ slice_get-behind ys (f ∷ zs) 0

  inside-from : drop (i + 1) xs ≡ ys ++ f ∷ zs
  inside-from = drop-next xs i e (ys ++ f ∷ zs) from_there

  exit-from : drop (i + 1 + length ys) xs ≡ f ∷ zs
  exit-from = drop-behind xs (i + 1) ys (f ∷ zs) inside-from

  behind-from : drop (i + 1 + length ys + 1) xs ≡ zs
  behind-from = drop-next xs (i + 1 + length ys) f zs exit-from

  span-there : e.kind ≡ Enter → f.kind ≡ Exit → f.name ≡ e.name → IsBalanced ys → IsSpanAt xs i (i + 1 + length ys)
  span-there enters exits named inner =
      let count : i + 1 + length ys - (i + 1) ≡ length ys = omega arith in
      let part : between (i + 1) (i + 1 + length ys) xs ≡ ys =
      ap (λ n. take n (drop (i + 1) xs)) count ∙ ap (take (length ys)) inside-from ∙ take-append_seam ys (f ∷ zs) in
      record {
        enter = e;
        exit = f;
        enter_at = enter-there;
        exit_at = exit-there;
        order = omega arith;
        enters = enters;
        ended = record { exits = exits; same = named };
        inside = subst IsBalanced (sym part) inner;
      }

module _ (old new : List Event) (same : map besides_name new ≡ map besides_name old) where
  -- ---- event by event

  pub same-length : length new ≡ length old
  same-length = sym (length-map new besides_name) ∙ ap length same ∙ length-map old besides_name

  same-read : (i : ℕ) (d : Event) → i < length new → besides_name (get_or new i d) ≡ besides_name (get_or old i d)
  same-read i d within =
      sym (get_or-map besides_name new i d (besides_name d) within) ∙ ap (λ l. get_or l i (besides_name d)) same
      ∙ get_or-map besides_name old i d (besides_name d) (omega (arith, within, same-length))

  same-got : (i : ℕ) → option_map besides_name (slice_get new i) ≡ option_map besides_name (slice_get old i)
  same-got i = sym (slice_get-map besides_name new i) ∙ ap (λ l. slice_get l i) same ∙ slice_get-map besides_name old i

  -- the event that has a new name
  renamed-of : (i : ℕ) (e : Event) → slice_get old i ≡ Some e → (f : Event) × (slice_get new i ≡ Some f) × (besides_name f ≡ besides_name e)
  renamed-of i e at = some-of (slice_get new i) refl
    where
      some-of : (o : Option Event) → slice_get new i ≡ o → (f : Event) × (slice_get new i ≡ Some f) × (besides_name f ≡ besides_name e)
      some-of None is = let none = sym (ap (option_map besides_name) is) ∙ same-got i ∙ ap (option_map besides_name) at in absurd (cc)
      some-of (Some f) is = let both = sym (ap (option_map besides_name) is) ∙ same-got i ∙ ap (option_map besides_name) at in (f, is, same_Some (besides_name f) (besides_name e) both)

  -- ---- places and links

  still-each : (P : Point → Type 0) → All (λ e. P e.point) old → All (λ e. P e.point) new
  still-each P h i d within =
      let place = ap (λ (t : Kind × Point × Option Link). t.1) (same-read i d within) in subst P (sym place) (h i d (omega (arith, within, same-length)))

  still-pairs : (R : Point → Point → Type 0) → AllPairs (λ e f. R e.point f.point) old → AllPairs (λ e f. R e.point f.point) new
  still-pairs R h i j d less within =
      let first = ap (λ (t : Kind × Point × Option Link). t.1) (same-read i d (omega (arith, less, within))) in
      let second = ap (λ (t : Kind × Point × Option Link). t.1) (same-read j d within) in
      rw (first, second) (h i j d less (omega (arith, within, same-length)))

  still-inside : All (EndsBelow (length old)) old → All (EndsBelow (length new)) new
  still-inside h i d within =
      let link = ap (λ (t : Kind × Point × Option Link). t.2) (same-read i d within) in
      rw (link, same-length) (h i d (omega (arith, within, same-length)))

  next-by : (events : List Event) (i : ℕ)
      → next_of events i ≡ option_and_then (λ (t : Kind × Point × Option Link). option_and_then (λ (l : Link). l.next) t.2) (option_map besides_name (slice_get events i))
  next-by events i =
      elim (slice_get events i) as (λ o. option_and_then (λ (e : Event). option_and_then (λ (l : Link). l.next) e.link) o ≡ option_and_then (λ (t : Kind × Point × Option Link). option_and_then (λ (l : Link). l.next) t.2) (option_map besides_name o)) [
        | None ↦ refl
        | Some e ↦ refl
      ]

  previous-by : (events : List Event) (i : ℕ)
      → previous_of events i ≡ option_and_then (λ (t : Kind × Point × Option Link). option_and_then (λ (l : Link). l.previous) t.2) (option_map besides_name (slice_get events i))
  previous-by events i =
      elim (slice_get events i) as (λ o. option_and_then (λ (e : Event). option_and_then (λ (l : Link). l.previous) e.link) o ≡ option_and_then (λ (t : Kind × Point × Option Link). option_and_then (λ (l : Link). l.previous) t.2) (option_map besides_name o)) [
        | None ↦ refl
        | Some e ↦ refl
      ]

  same-next : (i : ℕ) → next_of new i ≡ next_of old i
  same-next i =
      next-by new i ∙ ap (option_and_then (λ (t : Kind × Point × Option Link). option_and_then (λ (l : Link). l.next) t.2)) (same-got i) ∙ sym (next-by old i)

  same-previous : (i : ℕ) → previous_of new i ≡ previous_of old i
  same-previous i =
      previous-by new i ∙ ap (option_and_then (λ (t : Kind × Point × Option Link). option_and_then (λ (l : Link). l.previous) t.2)) (same-got i) ∙ sym (previous-by old i)

  -- ---- balance

  module _ (alike : (i j : ℕ) → IsSpanAt old i j → name_at new i ≡ name_at new j) where
    -- the two ends of a span, in both lists
    same-ends : (i : ℕ) (e f a b : Event) (ys zs cs ds : List Event) → drop i old ≡ e ∷ (ys ++ f ∷ zs) → drop i new ≡ a ∷ (cs ++ b ∷ ds) → length cs ≡ length ys
        → e.kind ≡ Enter → f.kind ≡ Exit → f.name ≡ e.name → IsBalanced ys → b.name ≡ a.name
    same-ends i e f a b ys zs cs ds before after long enters exits named inner =
        let first = enter-there new i a b cs ds after in
        let last = exit-there new i a b cs ds after in
        let here : slice_get new (i + 1 + length ys) ≡ Some b = ap (λ n. slice_get new (i + 1 + n)) (sym long) ∙ last in
        let names = alike i (i + 1 + length ys) (span-there old i e f ys zs before enters exits named inner) in
        same_Some b.name a.name (sym (ap (option_map (λ (e : Event). e.name)) here) ∙ sym names ∙ ap (option_map (λ (e : Event). e.name)) first)

    -- a balanced part of the list is still balanced
    still-part : {xs : List Event} → IsBalanced xs → (i : ℕ) (us ws vs : List Event) → drop i old ≡ xs ++ ws → drop i new ≡ us ++ vs → map besides_name us ≡ map besides_name xs → IsBalanced us
    still-part empty i us ws vs before after image = subst IsBalanced (sym (none-mapped besides_name us image)) empty
    still-part (span e f ys zs is enters exits named inner rest) i us ws vs before after image =
        let image_is = image ∙ ap (map besides_name) is ∙ ap (λ l. besides_name e ∷ l) (map-append besides_name ys (f ∷ zs)) in
        let first = mapped-first besides_name us (besides_name e) (map besides_name ys ++ besides_name f ∷ map besides_name zs) image_is in
        let parts = mapped-parts besides_name first.1 (map besides_name ys) (besides_name f ∷ map besides_name zs) first.4 in
        let last = mapped-first besides_name parts.1 (besides_name f) (map besides_name zs) parts.4 in
        let a = first.0 in let cs = parts.0 in let b = last.0 in let ds = last.1 in
        let us_is : us ≡ a ∷ (cs ++ b ∷ ds) = first.2 ∙ ap (λ l. a ∷ l) (parts.2 ∙ ap (λ l. cs ++ l) last.2) in
        let old_is : drop i old ≡ e ∷ (ys ++ f ∷ (zs ++ ws)) = before ∙ ap (λ l. l ++ ws) is ∙ ap (λ l. e ∷ l) (append_assoc ys (f ∷ zs) ws) in
        let new_is : drop i new ≡ a ∷ (cs ++ b ∷ (ds ++ vs)) = after ∙ ap (λ l. l ++ vs) us_is ∙ ap (λ l. a ∷ l) (append_assoc cs (b ∷ ds) vs) in
        let long : length cs ≡ length ys = sym (length-map cs besides_name) ∙ ap length parts.3 ∙ length-map ys besides_name in
        let behind : drop (i + 1 + length ys + 1) new ≡ ds ++ vs = ap (λ n. drop (i + 1 + n + 1) new) (sym long) ∙ behind-from new i a b cs (ds ++ vs) new_is in
        span a b cs ds us_is (ap (λ (t : Kind × Point × Option Link). t.0) first.3 ∙ enters) (ap (λ (t : Kind × Point × Option Link). t.0) last.3 ∙ exits)
        (same-ends i e f a b ys (zs ++ ws) cs (ds ++ vs) old_is new_is long enters exits named inner)
        (still-part inner (i + 1) cs (f ∷ (zs ++ ws)) (b ∷ (ds ++ vs)) (inside-from old i e f ys (zs ++ ws) old_is) (inside-from new i a b cs (ds ++ vs) new_is) parts.3)
        (still-part rest (i + 1 + length ys + 1) ds ws vs (behind-from old i e f ys (zs ++ ws) old_is) behind last.4)

    pub still-balanced : IsBalanced old → IsBalanced new
    still-balanced balanced = still-part balanced 0 new [] [] (sym (append-nil old)) (sym (append-nil new)) same

module _ (old new : List Event) (renamed : AreRenamed old new) where
  -- each void span is still empty
  still-tight : IsVoidTight new
  still-tight k e is enters void =
      let there = renamed.void k e is enters void in
      let exit = renamed-of old new renamed.same (k + 1) there.exit there.exit_at in
      let names = renamed.alike k (k + 1) there in (
        exit.0,
        exit.1,
        ap (λ (t : Kind × Point × Option Link). t.0) exit.2 ∙ there.ended.exits,
        same_Some exit.0.name e.name (sym (ap (option_map (λ (e : Event). e.name)) exit.1) ∙ sym names ∙ ap (option_map (λ (e : Event). e.name)) is),
      )

  pub still-well-formed : (g : Given) → IsWellFormed g old → IsWellFormed g new
  still-well-formed g formed = record {
    balanced = still-balanced old new renamed.same renamed.alike formed.balanced;
    void_tight = still-tight;
    at_places = still-each old new renamed.same (IsPointOf g.tab g.bytes) formed.at_places;
    in_order = (still-pairs old new renamed.same (λ p q. stands_before q p ≡ false) formed.in_order.0, still-each old new renamed.same (IsShown g.bytes) formed.in_order.1);
  }

  pub still-in-shape : IsInShape old → IsInShape new
  still-in-shape shape = record {
    balanced = still-balanced old new renamed.same renamed.alike shape.balanced;
    inside = still-inside old new renamed.same shape.inside;
    chained = λ i j. rw (same-next old new renamed.same i, same-previous old new renamed.same j) (shape.chained i j);
  }

-- ---- one function of names

-- events without links have none
pub renamed-unlinked : (f : EventName → EventName) (xs : List Event) → HaveNoLinks xs → HaveNoLinks (map (renamed_by f) xs)
renamed-unlinked f [] h = tt
renamed-unlinked f (x ∷ xs) h = (h.0, renamed-unlinked f xs h.1)

module _ (f : EventName → EventName) (events : List Event) where
  renamed-image : (xs : List Event) → map besides_name (map (renamed_by f) xs) ≡ map besides_name xs
  renamed-image [] = refl
  renamed-image (x ∷ xs) = ap (λ l. besides_name x ∷ l) (renamed-image xs)

  name-of : (i : ℕ) (e : Event) → slice_get events i ≡ Some e → name_at (map (renamed_by f) events) i ≡ Some (f e.name)
  name-of i e is = ap (option_map (λ (e : Event). e.name)) (slice_get-map (renamed_by f) events i) ∙ ap (λ o. option_map (λ (e : Event). e.name) (option_map (renamed_by f) o)) is

  alike-by : (i j : ℕ) → IsSpanAt events i j → name_at (map (renamed_by f) events) i ≡ name_at (map (renamed_by f) events) j
  alike-by i j there = name-of i there.enter there.enter_at ∙ ap (λ n. Some (f n)) (sym there.ended.same) ∙ sym (name-of j there.exit there.exit_at)

  -- balanced events stay balanced
  pub renamed-balanced : IsBalanced events → IsBalanced (map (renamed_by f) events)
  renamed-balanced = still-balanced events (map (renamed_by f) events) (renamed-image events) alike-by

  module _ (none_void : MakesNoneVoid f) (tight : IsVoidTight events) where
    empty-there : (i : ℕ) (e : Event) → slice_get events i ≡ Some e → e.kind ≡ Enter → is_void e.name ≡ true → IsSpanAt events i (i + 1)
    empty-there i e is enters void =
        let next = tight i e is enters void in
        let none : i + 1 - (i + 1) ≡ 0 = omega arith in
        record {
          enter = e;
          exit = next.0;
          enter_at = is;
          exit_at = next.1;
          order = omega arith;
          enters = enters;
          ended = record { exits = next.2; same = next.3 };
          inside = subst IsBalanced (sym (ap (λ n. take n (drop (i + 1) events)) none)) empty;
        }

    void-by : (i : ℕ) (e : Event) (o : Option Event) → slice_get events i ≡ o → option_map (renamed_by f) o ≡ Some e → e.kind ≡ Enter → is_void e.name ≡ true → IsSpanAt events i (i + 1)
    void-by i e None at is enters void = absurd (cc)
    void-by i e (Some d) at is enters void =
        let same : renamed_by f d ≡ e = same_Some (renamed_by f d) e is in
        empty-there i d at (ap (λ (e : Event). e.kind) same ∙ enters) (none_void d.name (ap (λ (e : Event). is_void e.name) same ∙ void))

    pub renamed-by : AreRenamed events (map (renamed_by f) events)
    renamed-by = record {
      same = renamed-image events;
      alike = alike-by;
      void = λ i e is enters void. void-by i e (slice_get events i) refl (sym (slice_get-map (renamed_by f) events i) ∙ is) enters void;
    }
