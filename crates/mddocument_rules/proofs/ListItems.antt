-- Walks over events, with the marker of the list that each open span is: the items directly in a list have its marker.
use Rattle.std.proofs.Common.{◌≡◌, ◌∙◌, ℕ, zero, suc, Bool, true, false, cond, List, [], ◌∷◌, ◌++◌, None, Option, Some, ap, drop, inl, inr, length, refl, subst, sym}
use Rattle.std.proofs.lemmas.Bool.{and_parts, cond_both, false≢true, or_cases}
use Rattle.std.proofs.lemmas.List.Elements.{All-from_recursion}
use Rattle.std.proofs.lemmas.Option.{none-some, same_Some}
use Rattle.std.specs.List.{AllByRecursion}
use Rattle.std.specs.Prelude.{All, ◌&&◌, filter, find, option_and_then, slice_get}
use Rattle.markdown_base.proofs.Facts.Kinds.{enter-is}
use Rattle.markdown_base.specs.Events.{is_enter, same_name}
use Rattle.markdown_base.specs.declared.event.Event.{Event}
use Rattle.markdown_base.specs.declared.event.Kind.{Kind}
use Rattle.markdown_base.specs.declared.event.Kind.TheVariants.{Enter, Exit}
use Rattle.markdown_base.specs.declared.event.Name.{Name}
use Rattle.markdown_base.specs.declared.event.Name.TheVariants.{ListItem, ListItemMarker, ListItemPrefix, ListOrdered}
use Rattle.markdown_base.proofs.Balanced.{same_name-true}
use Rattle.markdown_edits.specs.SpanWalks.{is_wanted}
use Rattle.mdblock_containers.specs.declared.lists.Marker.{Marker}
use Rattle.mdblock_containers.specs.Lists.{Met, behind_enter, behind_first, directly_by, directly_from, first_in, items_in, list_marker, list_names, marker_of}
use Rattle.mddocument_rules.specs.MarkerLaws.{is_bullet, is_delimiter, item_marker}

-- an item is entered
abbrev pub is_item : Event → Bool
is_item e = is_enter e.kind && same_name e.name ListItem

-- an item is entered first
abbrev pub begins_with_item : List Event → Bool
begins_with_item [] = false
begins_with_item (e ∷ es) = is_item e

-- a list of this name may have this marker
abbrev pub marks : Name → Option Marker → Bool
marks n m = cond (same_name ListOrdered n) (is_delimiter m) (is_bullet m)

module _ (bytes : List ℕ) where
  -- the marker of a list that is entered, by what is behind
  abbrev pub marker_behind : Event → List Event → Option Marker
  marker_behind e es = cond (is_wanted list_names e.name) (item_marker bytes (drop 1 es)) None

  -- what is around: for each open span the marker that its items have
  abbrev pub around_behind : Kind → Event → List Event → List (Option Marker) → List (Option Marker)
  around_behind Enter e es around = marker_behind e es ∷ around
  around_behind Exit e es around = drop 1 around

  -- the innermost span has this marker
  abbrev pub IsIn : (around : List (Option Marker)) → Option Marker → Type 0
  IsIn [] m = ⊥
  IsIn (n ∷ around) m = m ≡ n

  -- a list begins with an item, and is named by its marker; and an item has the marker of the list around it
  pub record IsMarked (around : List (Option Marker)) (e : Event) (es : List Event) : Type 0 where
    pub list : is_wanted list_names e.name ≡ true → begins_with_item es ≡ true
    pub named : is_wanted list_names e.name ≡ true → marks e.name (item_marker bytes (drop 1 es)) ≡ true
    pub item : same_name e.name ListItem ≡ true → IsIn around (item_marker bytes es)

  abbrev pub AsksOf : Kind → (around : List (Option Marker)) → Event → List Event → Type 0
  AsksOf Enter around e es = IsMarked around e es
  AsksOf Exit around e es = Unit {0}

  abbrev pub AreMarked : (around : List (Option Marker)) → List Event → Type 0
  AreMarked around [] = Unit {0}
  AreMarked around (e ∷ es) = AsksOf e.kind around e es × AreMarked (around_behind e.kind e es around) es

  -- so from any index on
  marked-on : (at : ℕ) (around : List (Option Marker)) (es : List Event) → AreMarked around es → (more : List (Option Marker)) × AreMarked more (drop at es)
  marked-on zero around es h = (around, h)
  marked-on (suc at) around [] h = (around, h)
  marked-on (suc at) around (e ∷ es) h = marked-on at (around_behind e.kind e es around) es h.1

  -- ---- directly in a list
  abbrev IsOf : Option Marker → Met → Type 0
  IsOf m item = item_marker bytes item.behind ≡ m

  abbrev items : List Met → List Met
  items ms = filter (λ m. is_enter m.event.kind && same_name m.event.name ListItem) ms

  directly : (inner : List (Option Marker)) (m : Option Marker) (outer : List (Option Marker)) (es : List Event) → AreMarked (inner ++ m ∷ outer) es → AllByRecursion (IsOf m) (items (directly_from (length inner) es))
  directly inner m outer [] h = tt
  directly inner m outer (e ∷ es) h = by e.kind inner refl h (λ more k. directly more m outer es k)
    where
      by : (k : Kind) (inner : List (Option Marker)) → e.kind ≡ k → AsksOf k (inner ++ m ∷ outer) e es × AreMarked (around_behind k e es (inner ++ m ∷ outer)) es
          → ((more : List (Option Marker)) → AreMarked (more ++ m ∷ outer) es → AllByRecursion (IsOf m) (items (directly_from (length more) es)))
          → AllByRecursion (IsOf m) (items (directly_by k (length inner) (record { event = e; behind = es }) (λ d. directly_from d es)))
      by Enter [] ek h rest =
          let more = rest (marker_behind e es ∷ []) h.1 in
          cond_both (is_enter e.kind && same_name e.name ListItem) (record { event = e; behind = es } ∷ items (directly_from 1 es)) (items (directly_from 1 es)) (AllByRecursion (IsOf m))
          (λ i. (h.0.item (and_parts (is_enter e.kind) (same_name e.name ListItem) i).1, more)) (λ i. more)
      by Enter (x ∷ inner) ek h rest = rest (marker_behind e es ∷ x ∷ inner) h.1
      by Exit [] ek h rest = tt
      by Exit (x ∷ []) ek h rest =
          let more = rest [] h.1 in
          cond_both (is_enter e.kind && same_name e.name ListItem) (record { event = e; behind = es } ∷ items (directly_from 0 es)) (items (directly_from 0 es)) (AllByRecursion (IsOf m))
          (λ i. absurd (false≢true (sym (ap is_enter ek) ∙ (and_parts (is_enter e.kind) (same_name e.name ListItem) i).0))) (λ i. more)
      by Exit (x ∷ y ∷ inner) ek h rest = rest (y ∷ inner) h.1

  -- the first item of a list has its marker
  both-then : (o : Option Met) → option_and_then (λ (m : Met). option_and_then marker_of (slice_get bytes m.event.point.index)) (option_and_then (λ (prefix : Met). first_in ListItemMarker prefix.behind) o)
      ≡ option_and_then (λ (prefix : Met). option_and_then (λ (m : Met). option_and_then marker_of (slice_get bytes m.event.point.index)) (first_in ListItemMarker prefix.behind)) o
  both-then None = refl
  both-then (Some m) = refl

  abbrev is_named : Met → Bool
  is_named m = same_name m.event.name ListItem

  abbrev of_first : Option Met → Option Marker
  of_first o = option_and_then (λ m. option_and_then marker_of (slice_get bytes m.event.point.index)) (option_and_then (λ item. option_and_then (λ prefix. first_in ListItemMarker prefix.behind) (first_in ListItemPrefix item.behind)) o)

  first-marker : (list : List Event) → begins_with_item list ≡ true → list_marker bytes list ≡ item_marker bytes (drop 1 list)
  first-marker [] h = absurd (false≢true h)
  first-marker (e ∷ es) h =
      let both = and_parts (is_enter e.kind) (same_name e.name ListItem) h in
      let here : Met = record { event = e; behind = es } in
      ap (λ (k : Kind). of_first (find is_named (directly_by k 0 here (λ d. directly_from d es)))) (enter-is e.kind both.0)
      ∙ ap (λ (b : Bool). of_first (cond b (Some here) (find is_named (directly_from 1 es)))) both.1
      ∙ both-then (first_in ListItemPrefix es)

  -- a list among events
  pub lists-are : (es : List Event) (at : ℕ) (list : List Event) → AreMarked [] es → behind_enter list_names at es ≡ Some list → All (λ item. item_marker bytes item.behind ≡ list_marker bytes list) (items_in list)
  lists-are es at list h is = let there = marked-on at [] es h in behind there.0 (drop at es) there.1 is
    where
      one : (more : List (Option Marker)) (e : Event) (fs : List Event) → is_wanted list_names e.name ≡ true → IsMarked more e fs → AreMarked (marker_behind e fs ∷ more) fs → All (λ item. item_marker bytes item.behind ≡ list_marker bytes fs) (items_in fs)
      one more e fs ew asks rest =
          let is_list : marker_behind e fs ≡ list_marker bytes fs = ap (λ b. cond b (item_marker bytes (drop 1 fs)) None) ew ∙ sym (first-marker fs (asks.list ew)) in
          All-from_recursion (IsOf (list_marker bytes fs)) (items_in fs) (subst (λ (m : Option Marker). AllByRecursion (IsOf m) (items_in fs)) is_list (directly [] (marker_behind e fs) more fs rest))

      by : (more : List (Option Marker)) (e : Event) (fs : List Event) (k : Kind) (w : Bool) → is_wanted list_names e.name ≡ w → AsksOf k more e fs × AreMarked (around_behind k e fs more) fs → cond (is_enter k && w) (Some fs) None ≡ Some list
          → All (λ item. item_marker bytes item.behind ≡ list_marker bytes list) (items_in list)
      by more e fs Enter true ew h is = subst (λ (l : List Event). All (λ item. item_marker bytes item.behind ≡ list_marker bytes l) (items_in l)) (same_Some fs list is) (one more e fs ew h.0 h.1)
      by more e fs Enter false ew h is = absurd (none-some list is)
      by more e fs Exit w ew h is = absurd (none-some list is)

      behind : (more : List (Option Marker)) (es : List Event) → AreMarked more es → behind_first list_names es ≡ Some list → All (λ item. item_marker bytes item.behind ≡ list_marker bytes list) (items_in list)
      behind more [] h is = absurd (none-some list is)
      behind more (e ∷ fs) h is = by more e fs e.kind (is_wanted list_names e.name) refl h is

  -- a list of one name
  pub lists-named : (n : Name) (es : List Event) (at : ℕ) (list : List Event) → is_wanted list_names n ≡ true → AreMarked [] es → behind_enter (n ∷ []) at es ≡ Some list → marks n (list_marker bytes list) ≡ true
  lists-named n es at list wanted h is = let there = marked-on at [] es h in behind there.0 (drop at es) there.1 is
    where
      one : (more : List (Option Marker)) (e : Event) (fs : List Event) → n ≡ e.name → IsMarked more e fs → marks n (list_marker bytes fs) ≡ true
      one more e fs same asks =
          let of_list : is_wanted list_names e.name ≡ true = ap (is_wanted list_names) (sym same) ∙ wanted in
          ap (marks n) (first-marker fs (asks.list of_list)) ∙ ap (λ (m : Name). marks m (item_marker bytes (drop 1 fs))) same ∙ asks.named of_list

      found : (m : Name) → is_wanted (n ∷ []) m ≡ true → n ≡ m
      found m e = elim (or_cases (same_name n m) false e) [ inl a ↦ same_name-true n m a | inr b ↦ absurd (false≢true b) ]

      by : (more : List (Option Marker)) (e : Event) (fs : List Event) (k : Kind) (w : Bool) → is_wanted (n ∷ []) e.name ≡ w → AsksOf k more e fs × AreMarked (around_behind k e fs more) fs → cond (is_enter k && w) (Some fs) None ≡ Some list
          → marks n (list_marker bytes list) ≡ true
      by more e fs Enter true ew h is = subst (λ (l : List Event). marks n (list_marker bytes l) ≡ true) (same_Some fs list is) (one more e fs (found e.name ew) h.0)
      by more e fs Enter false ew h is = absurd (none-some list is)
      by more e fs Exit w ew h is = absurd (none-some list is)

      behind : (more : List (Option Marker)) (es : List Event) → AreMarked more es → behind_first (n ∷ []) es ≡ Some list → marks n (list_marker bytes list) ≡ true
      behind more [] h is = absurd (none-some list is)
      behind more (e ∷ fs) h is = by more e fs e.kind (is_wanted (n ∷ []) e.name) refl h is
