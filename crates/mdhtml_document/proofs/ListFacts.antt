-- What is said of a list by the events behind its enter is what is said of it by the events in it.
use Rattle.std.proofs.Common.{◌≡◌, ℕ, suc, List, [], ◌∷◌, ◌++◌, ap, sym, refl, ◌∙◌, append-nil, Option, None, Some}
use Rattle.std.specs.List.{list_any}
use Rattle.std.specs.Prelude.{◌&&◌, ◌||◌, Bool, true, false, cond, filter, find, map, option_and_then}
use Rattle.markdown_base.specs.declared.event.Event.{Event}
use Rattle.markdown_base.specs.declared.event.Kind.TheVariants.{Enter, Exit}
use Rattle.markdown_base.specs.declared.event.Name.{Name}
use Rattle.markdown_base.specs.declared.event.Name.TheVariants.{ListItem, ListItemPrefix, ListItemValue}
use Rattle.markdown_base.specs.Events.{is_enter, same_name}
use Rattle.mdblock_containers.specs.Lists.{Met, block_names, digits_at, directly_by, directly_from, directly_in, first_in, is_apart, is_loose, is_spread, item_names, list_start, number_of}
use Rattle.mdhtml_document.specs.Spans.{Nothing, Span, Spans, events_of}
use Rattle.mdhtml_document.proofs.SpanFacts.{AreKinded, span-append}

-- ---- the parts of a span

-- behind these events comes no part of the span: it ends
abbrev Ends : List Event → Type 0
Ends zs = directly_from 0 zs ≡ []

at-exit : (f : Event) (ys : List Event) → f.kind ≡ Exit → Ends (f ∷ ys)
at-exit f ys h = ap (λ k. directly_by k 0 (record { event = f; behind = ys }) (λ d. directly_from d ys)) h

-- spans in others are passed over
deeper : (depth : ℕ) (s : Spans) (zs : List Event) → AreKinded s → directly_from (suc depth) (events_of s ++ zs) ≡ directly_from (suc depth) zs
deeper depth Nothing zs h = refl
deeper depth (Span e f s behind) zs h =
    let rest = events_of behind ++ zs in
    let es = events_of s ++ f ∷ rest in
    ap (directly_from (suc depth)) (span-append e f s behind zs)
    ∙ ap (λ k. directly_by k (suc depth) (record { event = e; behind = es }) (λ d. directly_from d es)) h.0
    ∙ deeper (suc depth) s (f ∷ rest) h.2
    ∙ ap (λ k. directly_by k (suc (suc depth)) (record { event = f; behind = rest }) (λ d. directly_from d rest)) h.1
    ∙ deeper depth behind zs h.3

-- the enters and exits of spans, with the events behind each
abbrev mets : Spans → List Event → List Met
mets Nothing zs = []
mets (Span e f s behind) zs =
    record { event = e; behind = events_of s ++ f ∷ (events_of behind ++ zs) } ∷ record { event = f; behind = events_of behind ++ zs } ∷ mets behind zs

parts : (s : Spans) (zs : List Event) → AreKinded s → Ends zs → directly_from 0 (events_of s ++ zs) ≡ mets s zs
parts Nothing zs h end = end
parts (Span e f s behind) zs h end =
    let rest = events_of behind ++ zs in
    let es = events_of s ++ f ∷ rest in
    ap (directly_from 0) (span-append e f s behind zs)
    ∙ ap (λ k. directly_by k 0 (record { event = e; behind = es }) (λ d. directly_from d es)) h.0
    ∙ ap (λ (x : List Met). record { event = e; behind = es } ∷ x)
    (deeper 0 s (f ∷ rest) h.2
    ∙ ap (λ k. directly_by k 1 (record { event = f; behind = rest }) (λ d. directly_from d rest)) h.1
    ∙ ap (λ (x : List Met). record { event = f; behind = rest } ∷ x) (parts behind zs h.3 end))

-- ---- loose lists

abbrev ends_of : Spans → List Event
ends_of Nothing = []
ends_of (Span e f s behind) = e ∷ f ∷ ends_of behind

mets-ends : (s : Spans) (zs : List Event) → map (λ m. m.event) (mets s zs) ≡ ends_of s
mets-ends Nothing zs = refl
mets-ends (Span e f s behind) zs = ap (λ (x : List Event). e ∷ f ∷ x) (mets-ends behind zs)

spread-of : (names : List Name) (s : Spans) (zs : List Event) → AreKinded s → Ends zs → is_spread names (events_of s ++ zs) ≡ is_apart names (ends_of s)
spread-of names s zs h end = ap (λ (ms : List Met). is_apart names (map (λ m. m.event) ms)) (parts s zs h end) ∙ ap (is_apart names) (mets-ends s zs)

-- an item has blocks apart
abbrev spread_items : Spans → Bool
spread_items Nothing = false
spread_items (Span e f s behind) = cond (same_name e.name ListItem) (is_apart block_names (ends_of s) || spread_items behind) (spread_items behind)

abbrev any_spread : List Met → Bool
any_spread ms = list_any (λ item. is_spread block_names item.behind) (filter (λ m. is_enter m.event.kind && same_name m.event.name ListItem) ms)

enter-item : (e : Event) (es : List Event) (ms : List Met) → e.kind ≡ Enter
    → any_spread (record { event = e; behind = es } ∷ ms) ≡ cond (same_name e.name ListItem) (is_spread block_names es || any_spread ms) (any_spread ms)
enter-item e es ms h =
    ap (λ k. list_any (λ item. is_spread block_names item.behind)
    (cond (is_enter k && same_name e.name ListItem) (record { event = e; behind = es } ∷ filter (λ m. is_enter m.event.kind && same_name m.event.name ListItem) ms) (filter (λ m. is_enter m.event.kind && same_name m.event.name ListItem) ms))) h
    ∙ by (same_name e.name ListItem)
  where
    by : (c : Bool)
        → list_any (λ item. is_spread block_names item.behind) (cond c (record { event = e; behind = es } ∷ filter (λ m. is_enter m.event.kind && same_name m.event.name ListItem) ms) (filter (λ m. is_enter m.event.kind && same_name m.event.name ListItem) ms))
        ≡ cond c (is_spread block_names es || any_spread ms) (any_spread ms)
    by true = refl
    by false = refl

exit-item : (f : Event) (ys : List Event) (ms : List Met) → f.kind ≡ Exit → any_spread (record { event = f; behind = ys } ∷ ms) ≡ any_spread ms
exit-item f ys ms h =
    ap (λ k. list_any (λ item. is_spread block_names item.behind)
    (cond (is_enter k && same_name f.name ListItem) (record { event = f; behind = ys } ∷ filter (λ m. is_enter m.event.kind && same_name m.event.name ListItem) ms) (filter (λ m. is_enter m.event.kind && same_name m.event.name ListItem) ms))) h

items-of : (s : Spans) (zs : List Event) → AreKinded s → any_spread (mets s zs) ≡ spread_items s
items-of Nothing zs h = refl
items-of (Span e f s behind) zs h =
    let rest = events_of behind ++ zs in
    let es = events_of s ++ f ∷ rest in
    enter-item e es (record { event = f; behind = rest } ∷ mets behind zs) h.0
    ∙ ap (λ b. cond (same_name e.name ListItem) (is_spread block_names es || b) b) (exit-item f rest (mets behind zs) h.1 ∙ items-of behind zs h.3)
    ∙ ap (λ b. cond (same_name e.name ListItem) (b || spread_items behind) (spread_items behind)) (spread-of block_names s (f ∷ rest) h.2 (at-exit f rest h.1))

loose-by : (s : Spans) (zs : List Event) → AreKinded s → Ends zs → is_loose (events_of s ++ zs) ≡ (is_apart item_names (ends_of s) || spread_items s)
loose-by s zs h end =
    ap (λ b. b || any_spread (directly_in (events_of s ++ zs))) (spread-of item_names s zs h end)
    ∙ ap (λ (ms : List Met). is_apart item_names (ends_of s) || any_spread ms) (parts s zs h end) ∙ ap (λ b. is_apart item_names (ends_of s) || b) (items-of s zs h)

pub loose-of : (s : Spans) (f : Event) (ys : List Event) → AreKinded s → f.kind ≡ Exit → is_loose (events_of s ++ f ∷ ys) ≡ is_loose (events_of s)
loose-of s f ys h exits = loose-by s (f ∷ ys) h (at-exit f ys exits) ∙ sym (loose-by s [] h refl) ∙ ap is_loose (append-nil (events_of s))

-- ---- the numbers that lists start with

-- what is said of the first enter or exit of a name
abbrev found : {A : Type 0} → Name → (Event → Spans → Option A) → Spans → Option A
found n say Nothing = None
found n say (Span e f s behind) = cond (same_name e.name n) (say e s) (cond (same_name f.name n) (say f behind) (found n say behind))

record Says {A : Type 0} (by : Met → Option A) (say : Event → Spans → Option A) : Type 0 where
  same : (e : Event) (s : Spans) (zs : List Event) → AreKinded s → Ends zs → by (record { event = e; behind = events_of s ++ zs }) ≡ say e s

chosen : {A B : Type 0} (c : Bool) (f : A → Option B) (a : A) (o : Option A) → option_and_then f (cond c (Some a) o) ≡ cond c (f a) (option_and_then f o)
chosen true f a o = refl
chosen false f a o = refl

find-of : {A : Type 0} (n : Name) (by : Met → Option A) (say : Event → Spans → Option A) (s : Spans) (zs : List Event) → Says by say → AreKinded s → Ends zs
    → option_and_then by (find (λ m. same_name m.event.name n) (mets s zs)) ≡ found n say s
find-of n by say Nothing zs same h end = refl
find-of n by say (Span e f s behind) zs same h end =
    let rest = events_of behind ++ zs in
    let es = events_of s ++ f ∷ rest in
    let last = find (λ m. same_name m.event.name n) (mets behind zs) in
    chosen (same_name e.name n) by (record { event = e; behind = es }) (cond (same_name f.name n) (Some (record { event = f; behind = rest })) last)
    ∙ ap (λ o. cond (same_name e.name n) (by (record { event = e; behind = es })) o) (chosen (same_name f.name n) by (record { event = f; behind = rest }) last)
    ∙ ap (λ o. cond (same_name e.name n) o (cond (same_name f.name n) (by (record { event = f; behind = rest })) (option_and_then by last))) (same.same e s (f ∷ rest) h.2 (at-exit f rest h.1))
    ∙ ap (λ o. cond (same_name e.name n) (say e s) (cond (same_name f.name n) o (option_and_then by last))) (same.same f behind zs h.3 end)
    ∙ ap (λ o. cond (same_name e.name n) (say e s) (cond (same_name f.name n) (say f behind) o)) (find-of n by say behind zs same h.3 end)

first-of : {A : Type 0} (n : Name) (by : Met → Option A) (say : Event → Spans → Option A) (s : Spans) (zs : List Event) → Says by say → AreKinded s → Ends zs
    → option_and_then by (first_in n (events_of s ++ zs)) ≡ found n say s
first-of n by say s zs same h end =
    ap (λ (ms : List Met). option_and_then by (find (λ m. same_name m.event.name n) ms)) (parts s zs h end) ∙ find-of n by say s zs same h end

and-then : {A B C : Type 0} (f : B → Option C) (g : A → Option B) (o : Option A) → option_and_then f (option_and_then g o) ≡ option_and_then (λ a. option_and_then f (g a)) o
and-then f g None = refl
and-then f g (Some a) = refl

module _ (bytes : List ℕ) where
  abbrev number : Met → Option ℕ
  number m = number_of (digits_at bytes m.event.point.index)

  abbrev of_value : Event → Spans → Option ℕ
  of_value e s = number_of (digits_at bytes e.point.index)

  value-says : Says number of_value
  value-says = record { same = λ e s zs h end. refl }

  abbrev in_prefix : Met → Option ℕ
  in_prefix prefix = option_and_then number (first_in ListItemValue prefix.behind)

  prefix-says : Says in_prefix (λ e s. found ListItemValue of_value s)
  prefix-says = record { same = λ e s zs h end. first-of ListItemValue number of_value s zs value-says h end }

  abbrev in_item : Met → Option ℕ
  in_item item = option_and_then in_prefix (first_in ListItemPrefix item.behind)

  item-says : Says in_item (λ e s. found ListItemPrefix (λ d t. found ListItemValue of_value t) s)
  item-says = record { same = λ e s zs h end. first-of ListItemPrefix in_prefix (λ d t. found ListItemValue of_value t) s zs prefix-says h end }

  start-by : (s : Spans) (zs : List Event) → AreKinded s → Ends zs
      → list_start bytes (events_of s ++ zs) ≡ found ListItem (λ e t. found ListItemPrefix (λ d u. found ListItemValue of_value u) t) s
  start-by s zs h end =
      and-then number (λ item. option_and_then (λ prefix. first_in ListItemValue prefix.behind) (first_in ListItemPrefix item.behind)) (first_in ListItem (events_of s ++ zs))
      ∙ again (first_in ListItem (events_of s ++ zs))
      ∙ first-of ListItem in_item (λ e t. found ListItemPrefix (λ d u. found ListItemValue of_value u) t) s zs item-says h end
    where
      again : (o : Option Met)
          → option_and_then (λ item. option_and_then number (option_and_then (λ prefix. first_in ListItemValue prefix.behind) (first_in ListItemPrefix item.behind))) o ≡ option_and_then in_item o
      again None = refl
      again (Some item) = and-then number (λ prefix. first_in ListItemValue prefix.behind) (first_in ListItemPrefix item.behind)

  pub start-of : (s : Spans) (f : Event) (ys : List Event) → AreKinded s → f.kind ≡ Exit → list_start bytes (events_of s ++ f ∷ ys) ≡ list_start bytes (events_of s)
  start-of s f ys h exits = start-by s (f ∷ ys) h (at-exit f ys exits) ∙ sym (start-by s [] h refl) ∙ ap (list_start bytes) (append-nil (events_of s))
