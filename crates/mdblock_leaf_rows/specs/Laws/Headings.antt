-- What is known of paragraphs and of the edits of setext headings, as events come.
use Rattle.std.proofs.Common.{◌≡◌, ℕ, ◌+◌, ◌-◌, ◌<◌, List, [], ◌∷◌, ◌++◌, Option, Some, None, length, map, refl, sym, ap, ◌∙◌, subst, arith, append_assoc, append-nil, length-append}
use Rattle.std.specs.Prelude.{slice_get, option_map}
use Rattle.std.specs.List.{AllByRecursion}
use Rattle.std.proofs.lemmas.List.{length-map, map-append}
use Rattle.std.proofs.lemmas.Option.{slice_get-map}
use Rattle.markdown_base.specs.declared.event.Event.{Event}
use Rattle.markdown_base.specs.declared.event.Kind.TheVariants.{Enter, Exit}
use Rattle.markdown_base.specs.declared.event.Name.{Name as EventName}
use Rattle.markdown_base.specs.declared.event.Name.TheVariants.{HeadingSetext, HeadingSetextText, HeadingSetextUnderline, Paragraph}
use Rattle.markdown_base.specs.Events.{unlinked}
use Rattle.markdown_edits.specs.Edits.{Edit, edit_at, added_after}
use Rattle.markdown_base.specs.OpenNames.{names_after, names_after_all}
use Rattle.markdown_base.proofs.Balanced.{names_after_all-append, names-none}
use Rattle.markdown_edits.proofs.Edits.Puts.{put-last}
use Rattle.markdown_edits.proofs.Edits.Survivors.{slice_get-behind}
use Rattle.mdblock_leaf_rows.specs.HeadingEdits.{under, with_names, renaming}
use Rattle.mdblock_leaf_rows.specs.Renamings.{Told, kept, renamed, event_of, events_of, old, new, edits_from, IsNotVoid, AreTold, SameOpen}
use Rattle.mdblock_leaf_rows.specs.FlowKnows.{LeaveOpen, IsInParagraph, IsBehindParagraph, RenameSpans}
use Rattle.mdblock_leaf_rows.specs.Laws.Renamings.{same-length}

-- ---- two parts

new-two : (xs ys : List Told) → new (xs ++ ys) ≡ new xs ++ new ys
new-two [] ys = refl
new-two (x ∷ xs) ys = ap (λ l. events_of x ++ l) (new-two xs ys) ∙ sym (append_assoc (events_of x) (new xs) (new ys))

new-kept : (es : List Event) → new (map kept es) ≡ es
new-kept [] = refl
new-kept (e ∷ es) = ap (λ l. e ∷ l) (new-kept es)

old-kept : (es : List Event) → old (map kept es) ≡ es
old-kept [] = refl
old-kept (e ∷ es) = ap (λ l. e ∷ l) (old-kept es)

edits-two : (i : ℕ) (xs ys : List Told) → edits_from i (xs ++ ys) ≡ edits_from i xs ++ edits_from (i + length xs) ys
edits-two i [] ys = ap (λ n. edits_from n ys) (omega arith)
edits-two i (kept e ∷ xs) ys = edits-two (i + 1) xs ys ∙ ap (λ n. edits_from (i + 1) xs ++ edits_from n ys) (omega arith)
edits-two i (renamed e names ∷ xs) ys =
    ap (λ l. edit_at i 1 (map (under e) names) ∷ l) (edits-two (i + 1) xs ys ∙ ap (λ n. edits_from (i + 1) xs ++ edits_from n ys) (omega arith))

edits-kept : (i : ℕ) (es : List Event) → edits_from i (map kept es) ≡ []
edits-kept i [] = refl
edits-kept i (e ∷ es) = edits-kept (i + 1) es

edits-front : (i : ℕ) (ts : List Told) (es : List Event) → edits_from i (ts ++ map kept es) ≡ edits_from i ts
edits-front i ts es = edits-two i ts (map kept es) ∙ ap (λ l. edits_from i ts ++ l) (edits-kept (i + length ts) es) ∙ append-nil (edits_from i ts)

not-void-two : (xs ys : List Told) → AllByRecursion IsNotVoid xs → AllByRecursion IsNotVoid ys → AllByRecursion IsNotVoid (xs ++ ys)
not-void-two [] ys h k = k
not-void-two (x ∷ xs) ys h k = (h.0, not-void-two xs ys h.1 k)

not-void-front : (xs ys : List Told) → AllByRecursion IsNotVoid (xs ++ ys) → AllByRecursion IsNotVoid xs
not-void-front [] ys h = tt
not-void-front (x ∷ xs) ys h = (h.0, not-void-front xs ys h.1)

not-void-kept : (es : List Event) → AllByRecursion IsNotVoid (map kept es)
not-void-kept [] = tt
not-void-kept (e ∷ es) = (tt, not-void-kept es)

-- the edits are before the end of what was told
edits-below : (i n : ℕ) (ts : List Told) → i + length ts ≡ n → AllByRecursion (λ (e : Edit). e.index < n) (edits_from i ts)
edits-below i n [] h = tt
edits-below i n (kept e ∷ ts) h = edits-below (i + 1) n ts (omega (arith, h))
edits-below i n (renamed e names ∷ ts) h = (omega (arith, h), edits-below (i + 1) n ts (omega (arith, h)))

-- ---- one more event

told-more : (ts : List Told) (events : List Event) (edits : List Edit) (e : Event) → AreTold ts events edits → AreTold (ts ++ kept (unlinked e) ∷ []) (events ++ e ∷ []) edits
told-more ts events edits e told = record {
  events_are = map-append unlinked events (e ∷ []) ∙ ap (λ l. l ++ unlinked e ∷ []) told.events_are ∙ sym (map-append event_of ts (kept (unlinked e) ∷ []));
  edits_are = told.edits_are ∙ sym (edits-front 0 ts (unlinked e ∷ []));
  no_void = not-void-two ts (kept (unlinked e) ∷ []) told.no_void (tt, tt);
}

same-kept : (ts : List Told) (es : List Event) → SameOpen ts → SameOpen (ts ++ map kept es)
same-kept ts es same =
    ap (names_after_all (Some [])) (new-two ts (map kept es) ∙ ap (λ l. new ts ++ l) (new-kept es))
    ∙ names_after_all-append (Some []) (new ts) es ∙ ap (λ o. names_after_all o es) same
    ∙ sym (names_after_all-append (Some []) (old ts) es) ∙ ap (names_after_all (Some [])) (ap (λ l. old ts ++ l) (sym (old-kept es)) ∙ sym (map-append event_of ts (map kept es)))

pub spans-more : (events : List Event) (edits : List Edit) (e : Event) → RenameSpans events edits → RenameSpans (events ++ e ∷ []) edits
spans-more events edits e (ts, told, same) = (ts ++ kept (unlinked e) ∷ [], told-more ts events edits e told, same-kept ts (unlinked e ∷ []) same)

-- names that are open once one more event came
open-more : (names names' : List EventName) (es : List Event) (e : Event) → LeaveOpen names es → ((before : List EventName) → names_after e.kind e.name (names ++ before) ≡ Some (names' ++ before)) → LeaveOpen names' (es ++ e ∷ [])
open-more names names' es e h step before =
    names_after_all-append (Some before) es (e ∷ []) ∙ ap (λ o. names_after_all o (e ∷ [])) (h before) ∙ names-none (names_after e.kind e.name (names ++ before)) ∙ step before

-- what is told, with one more event at the end of what is kept
more-kept : (ts : List Told) (e : Event) (es : List Event) (f : Event) → (ts ++ map kept (e ∷ es)) ++ kept f ∷ [] ≡ ts ++ map kept (e ∷ (es ++ f ∷ []))
more-kept ts e es f = append_assoc ts (map kept (e ∷ es)) (kept f ∷ []) ∙ ap (λ l. ts ++ kept e ∷ l) (sym (map-append kept es (f ∷ [])))

-- ---- paragraphs

module _ (events : List Event) (edits : List Edit) where
  -- a paragraph begins
  pub paragraph-first : (e : Event) (index : ℕ) → e.kind ≡ Enter → e.name ≡ Paragraph → index ≡ length events → RenameSpans events edits → IsInParagraph [] (events ++ e ∷ []) edits index
  paragraph-first e index enters named is (ts, told, same) = record {
    front = ts;
    enter = unlinked e;
    chunks = [];
    told = told-more ts events edits e told;
    same = same;
    index_is = is ∙ same-length events ts told.events_are;
    enters = enters;
    named = named;
    opened = λ before. refl;
  }

  -- an event comes in it
  pub paragraph-more : (names names' : List EventName) (index : ℕ) (e : Event) → ((before : List EventName) → names_after e.kind e.name (names ++ before) ≡ Some (names' ++ before))
      → IsInParagraph names events edits index → IsInParagraph names' (events ++ e ∷ []) edits index
  paragraph-more names names' index e step h = record {
    front = h.front;
    enter = h.enter;
    chunks = h.chunks ++ unlinked e ∷ [];
    told = subst (λ ts. AreTold ts (events ++ e ∷ []) edits) (more-kept h.front h.enter h.chunks (unlinked e)) (told-more (h.front ++ map kept (h.enter ∷ h.chunks)) events edits e h.told);
    same = h.same;
    index_is = h.index_is;
    enters = h.enters;
    named = h.named;
    opened = open-more names names' h.chunks (unlinked e) h.opened step;
  }

  -- links are no part of it
  pub paragraph-linked : (names : List EventName) (index : ℕ) (events' : List Event) → map unlinked events' ≡ map unlinked events → IsInParagraph names events edits index → IsInParagraph names events' edits index
  paragraph-linked names index events' same h = record {
    front = h.front;
    enter = h.enter;
    chunks = h.chunks;
    told = record { events_are = same ∙ h.told.events_are; edits_are = h.told.edits_are; no_void = h.told.no_void };
    same = h.same;
    index_is = h.index_is;
    enters = h.enters;
    named = h.named;
    opened = h.opened;
  }

  -- it ends
  pub paragraph-left : (names : List EventName) (index : ℕ) → IsInParagraph names events edits index → RenameSpans events edits
  paragraph-left names index h = (h.front ++ map kept (h.enter ∷ h.chunks), h.told, same-kept h.front (h.enter ∷ h.chunks) h.same)

  -- it ends before an underline
  pub paragraph-last : (e : Event) (index last : ℕ) → e.kind ≡ Exit → e.name ≡ Paragraph → last ≡ length events → IsInParagraph [] events edits index → IsBehindParagraph [] (events ++ e ∷ []) edits index last
  paragraph-last e index last exits closes is h = record {
    front = h.front;
    enter = h.enter;
    chunks = h.chunks;
    exit = unlinked e;
    underline = [];
    told = subst (λ ts. AreTold ts (events ++ e ∷ []) edits) (more-kept h.front h.enter h.chunks (unlinked e)) (told-more (h.front ++ map kept (h.enter ∷ h.chunks)) events edits e h.told);
    same = h.same;
    first_is = h.index_is;
    last_is =
        let long = length-append h.front (map kept (h.enter ∷ h.chunks)) in
        let kept_long = length-map h.chunks kept in
        omega (arith, is, same-length events (h.front ++ map kept (h.enter ∷ h.chunks)) h.told.events_are, long, kept_long);
    enters = h.enters;
    named = h.named;
    exits = exits;
    closes = closes;
    text = h.opened;
    opened = λ before. refl;
  }

  -- ---- underlines

  pub underline-more : (names names' : List EventName) (first last : ℕ) (e : Event) → ((before : List EventName) → names_after e.kind e.name (names ++ before) ≡ Some (names' ++ before))
      → IsBehindParagraph names events edits first last → IsBehindParagraph names' (events ++ e ∷ []) edits first last
  underline-more names names' first last e step h =
      let behind = h.chunks ++ h.exit ∷ h.underline in
      let joined : behind ++ unlinked e ∷ [] ≡ h.chunks ++ h.exit ∷ (h.underline ++ unlinked e ∷ []) = append_assoc h.chunks (h.exit ∷ h.underline) (unlinked e ∷ []) in
      record {
        front = h.front;
        enter = h.enter;
        chunks = h.chunks;
        exit = h.exit;
        underline = h.underline ++ unlinked e ∷ [];
        told = subst (λ ts. AreTold ts (events ++ e ∷ []) edits) (more-kept h.front h.enter behind (unlinked e) ∙ ap (λ l. h.front ++ map kept (h.enter ∷ l)) joined)
            (told-more (h.front ++ map kept (h.enter ∷ behind)) events edits e h.told);
        same = h.same;
        first_is = h.first_is;
        last_is = h.last_is;
        enters = h.enters;
        named = h.named;
        exits = h.exits;
        closes = h.closes;
        text = h.text;
        opened = open-more names names' h.underline (unlinked e) h.opened step;
      }

  pub underline-left : (names : List EventName) (first last : ℕ) → IsBehindParagraph names events edits first last → RenameSpans events edits
  underline-left names first last h =
      let es = h.enter ∷ (h.chunks ++ h.exit ∷ h.underline) in
      (h.front ++ map kept es, h.told, same-kept h.front es h.same)

-- ---- headings

-- the event at an index, under names: links are no part of it
names-of : (names : List EventName) (o : Option Event) → with_names names (option_map unlinked o) ≡ with_names names o
names-of names None = refl
names-of names (Some e) = refl

renaming-at : (events front rest : List Event) (e : Event) (index : ℕ) (names : List EventName) → map unlinked events ≡ front ++ e ∷ rest → index ≡ length front
    → renaming events index names ≡ edit_at index 1 (map (under e) names)
renaming-at events front rest e index names same is =
    let here : index ≡ length front + 0 = omega (arith, is) in
    let there : slice_get (front ++ e ∷ rest) index ≡ Some e = ap (slice_get (front ++ e ∷ rest)) here ∙ slice_get-behind front (e ∷ rest) 0 in
    ap (edit_at index 1) (sym (names-of names (slice_get events index)) ∙ ap (with_names names) (sym (slice_get-map unlinked events index) ∙ ap (λ l. slice_get l index) same ∙ there))

-- an edit behind all others is added at the end
pub added-last : (es : List Edit) (index : ℕ) (additions : List Event) → AllByRecursion (λ (e : Edit). e.index < index) es → added_after es (edit_at index 1 additions) ≡ es ++ edit_at index 1 additions ∷ []
added-last es index additions h = put-last (λ there more. there ++ more) es (edit_at index 1 additions) h

pub below-more : (es : List Edit) (i n : ℕ) (additions : List Event) → i < n → AllByRecursion (λ (e : Edit). e.index < i) es → AllByRecursion (λ (e : Edit). e.index < n) (es ++ edit_at i 1 additions ∷ [])
below-more [] i n additions l h = (l, tt)
below-more (e ∷ es) i n additions l h = (omega (arith, l, h.0), below-more es i n additions l h.1)

-- the names of a heading
abbrev firsts : List EventName
firsts = HeadingSetext ∷ HeadingSetextText ∷ []

abbrev texts : List EventName
texts = HeadingSetextText ∷ []

abbrev ends : List EventName
ends = HeadingSetextUnderline ∷ HeadingSetext ∷ []

-- a paragraph with an underline leaves nothing open, and no more does a heading
module _ (enter exit last : Event) (chunks underline : List Event) (enters : enter.kind ≡ Enter) (named : enter.name ≡ Paragraph) (exits : exit.kind ≡ Exit) (closes : exit.name ≡ Paragraph)
    (last_exits : last.kind ≡ Exit) (last_closes : last.name ≡ HeadingSetextUnderline) (text : LeaveOpen [] chunks) (opened : LeaveOpen (HeadingSetextUnderline ∷ []) underline) where
  as-paragraph : (o : Option (List EventName)) → names_after_all o (enter ∷ (chunks ++ exit ∷ (underline ++ last ∷ []))) ≡ o
  as-paragraph None = refl
  as-paragraph (Some st) =
      rw (enters, named, names_after_all-append (Some (Paragraph ∷ st)) chunks (exit ∷ (underline ++ last ∷ [])), text (Paragraph ∷ st), exits, closes, names_after_all-append (Some st) underline (last ∷ []), opened st, last_exits, last_closes)
      refl

  as-heading : (o : Option (List EventName)) → names_after_all o (map (under enter) firsts ++ (chunks ++ (map (under exit) texts ++ (underline ++ map (under last) ends)))) ≡ o
  as-heading None = refl
  as-heading (Some st) =
      rw (
        enters,
        names_after_all-append (Some (HeadingSetextText ∷ HeadingSetext ∷ st)) chunks (map (under exit) texts ++ (underline ++ map (under last) ends)),
        text (HeadingSetextText ∷ HeadingSetext ∷ st),
        exits,
        names_after_all-append (Some (HeadingSetext ∷ st)) underline (map (under last) ends),
        opened (HeadingSetext ∷ st),
        last_exits,
      )
      refl

-- the edits that wait are before the paragraph
pub edits-before : (names : List EventName) (events : List Event) (edits : List Edit) (first second : ℕ) → IsBehindParagraph names events edits first second → AllByRecursion (λ (d : Edit). d.index < first) edits
edits-before names events edits first second h =
    let es = h.enter ∷ (h.chunks ++ h.exit ∷ h.underline) in
    subst (λ ds. AllByRecursion (λ (d : Edit). d.index < first) ds) (sym (h.told.edits_are ∙ edits-front 0 h.front es)) (edits-below 0 first h.front (omega (arith, h.first_is)))

-- and the paragraph's exit is an event
pub exit-within : (names : List EventName) (events : List Event) (edits : List Edit) (first second : ℕ) → IsBehindParagraph names events edits first second → second < length events
exit-within names events edits first second h =
    let es = h.enter ∷ (h.chunks ++ h.exit ∷ h.underline) in
    let whole = same-length events (h.front ++ map kept es) h.told.events_are in
    let parts = length-append h.front (map kept es) in
    let inner = length-append h.chunks (h.exit ∷ h.underline) in
    let long = length-map es kept in
    omega (arith, h.last_is, whole, parts, inner, long)

-- at the end of an underline the three edits make it one
module _ (events : List Event) (edits : List Edit) (first second : ℕ) (e : Event) (exits : e.kind ≡ Exit) (named : e.name ≡ HeadingSetextUnderline) (h : IsBehindParagraph (HeadingSetextUnderline ∷ []) events edits first second) where
  abbrev front : List Told
  front = h.front

  abbrev last : Event
  last = unlinked e

  abbrev rest : List Told
  rest = renamed h.enter firsts ∷ (map kept h.chunks ++ renamed h.exit texts ∷ (map kept h.underline ++ renamed last ends ∷ []))

  abbrev before : List Event
  before = h.enter ∷ (h.chunks ++ h.exit ∷ (h.underline ++ last ∷ []))

  old-rest : old rest ≡ before
  old-rest =
      ap (λ l. h.enter ∷ l) (map-append event_of (map kept h.chunks) (renamed h.exit texts ∷ (map kept h.underline ++ renamed last ends ∷ []))
      ∙ ap (λ l. l ++ h.exit ∷ old (map kept h.underline ++ renamed last ends ∷ [])) (old-kept h.chunks)
      ∙ ap (λ l. h.chunks ++ h.exit ∷ l) (map-append event_of (map kept h.underline) (renamed last ends ∷ []) ∙ ap (λ l. l ++ last ∷ []) (old-kept h.underline)))

  new-rest : new rest ≡ map (under h.enter) firsts ++ (h.chunks ++ (map (under h.exit) texts ++ (h.underline ++ map (under last) ends)))
  new-rest =
      ap (λ l. map (under h.enter) firsts ++ l) (new-two (map kept h.chunks) (renamed h.exit texts ∷ (map kept h.underline ++ renamed last ends ∷ []))
      ∙ ap (λ l. l ++ new (renamed h.exit texts ∷ (map kept h.underline ++ renamed last ends ∷ []))) (new-kept h.chunks)
      ∙ ap (λ l. h.chunks ++ (map (under h.exit) texts ++ l)) (new-two (map kept h.underline) (renamed last ends ∷ []) ∙ ap (λ l. l ++ new (renamed last ends ∷ [])) (new-kept h.underline)))

  told-parts : map unlinked events ≡ old front ++ h.enter ∷ (h.chunks ++ h.exit ∷ h.underline)
  told-parts = let es = h.enter ∷ (h.chunks ++ h.exit ∷ h.underline) in h.told.events_are ∙ map-append event_of front (map kept es) ∙ ap (λ l. old front ++ l) (old-kept es)

  all-parts : map unlinked (events ++ e ∷ []) ≡ old front ++ before
  all-parts =
      map-append unlinked events (e ∷ []) ∙ ap (λ l. l ++ last ∷ []) told-parts ∙ append_assoc (old front) (h.enter ∷ (h.chunks ++ h.exit ∷ h.underline)) (last ∷ [])
      ∙ ap (λ l. old front ++ h.enter ∷ l) (append_assoc h.chunks (h.exit ∷ h.underline) (last ∷ []))

  old-long : length (old front) ≡ length front
  old-long = length-map front event_of

  -- the index of the last event
  abbrev third : ℕ
  third = length (events ++ e ∷ []) - 1

  third-is : third ≡ length front + 1 + length h.chunks + 1 + length h.underline
  third-is =
      let whole = sym (length-map events unlinked) ∙ ap length told-parts ∙ length-append (old front) (h.enter ∷ (h.chunks ++ h.exit ∷ h.underline)) in
      let inner = length-append h.chunks (h.exit ∷ h.underline) in
      omega (arith, length-append events (e ∷ []), whole, inner, old-long)

  edit-first : renaming (events ++ e ∷ []) first firsts ≡ edit_at first 1 (map (under h.enter) firsts)
  edit-first = renaming-at (events ++ e ∷ []) (old front) (h.chunks ++ h.exit ∷ (h.underline ++ last ∷ [])) h.enter first firsts all-parts (h.first_is ∙ sym old-long)

  edit-second : renaming (events ++ e ∷ []) second texts ≡ edit_at second 1 (map (under h.exit) texts)
  edit-second =
      let parts = sym (append_assoc (old front) (h.enter ∷ h.chunks) (h.exit ∷ (h.underline ++ last ∷ []))) in
      renaming-at (events ++ e ∷ []) (old front ++ h.enter ∷ h.chunks) (h.underline ++ last ∷ []) h.exit second texts (all-parts ∙ parts)
      (let long = length-append (old front) (h.enter ∷ h.chunks) in omega (arith, h.last_is, long, old-long))

  edit-third : renaming (events ++ e ∷ []) third ends ≡ edit_at third 1 (map (under last) ends)
  edit-third =
      let inner = append_assoc h.chunks (h.exit ∷ h.underline) (last ∷ []) in
      let parts = sym (append_assoc (old front) (h.enter ∷ (h.chunks ++ h.exit ∷ h.underline)) (last ∷ []) ∙ ap (λ l. old front ++ h.enter ∷ l) inner) in
      let long = length-append (old front) (h.enter ∷ (h.chunks ++ h.exit ∷ h.underline)) in
      let more = length-append h.chunks (h.exit ∷ h.underline) in
      renaming-at (events ++ e ∷ []) (old front ++ h.enter ∷ (h.chunks ++ h.exit ∷ h.underline)) [] last third ends (all-parts ∙ parts) (omega (arith, third-is, long, more, old-long))

  abbrev with_heading : List Edit
  with_heading = added_after (added_after (added_after edits (renaming (events ++ e ∷ []) first firsts)) (renaming (events ++ e ∷ []) second texts)) (renaming (events ++ e ∷ []) third ends)

  added-three : with_heading ≡ ((edits ++ edit_at first 1 (map (under h.enter) firsts) ∷ []) ++ edit_at second 1 (map (under h.exit) texts) ∷ []) ++ edit_at third 1 (map (under last) ends) ∷ []
  added-three =
      let one = edit_at first 1 (map (under h.enter) firsts) in
      let two = edit_at second 1 (map (under h.exit) texts) in
      let still_before = edits-before (HeadingSetextUnderline ∷ []) events edits first second h in
      let before_second = below-more edits first second (map (under h.enter) firsts) (omega (arith, h.first_is, h.last_is)) still_before in
      let before_third = below-more (edits ++ one ∷ []) second third (map (under h.exit) texts) (omega (arith, h.last_is, third-is)) before_second in
      ap (λ d. added_after (added_after (added_after edits d) (renaming (events ++ e ∷ []) second texts)) (renaming (events ++ e ∷ []) third ends)) edit-first
      ∙ ap (λ ds. added_after (added_after ds (renaming (events ++ e ∷ []) second texts)) (renaming (events ++ e ∷ []) third ends)) (added-last edits first (map (under h.enter) firsts) still_before)
      ∙ ap (λ d. added_after (added_after (edits ++ one ∷ []) d) (renaming (events ++ e ∷ []) third ends)) edit-second
      ∙ ap (λ ds. added_after ds (renaming (events ++ e ∷ []) third ends)) (added-last (edits ++ one ∷ []) second (map (under h.exit) texts) before_second)
      ∙ ap (added_after ((edits ++ one ∷ []) ++ two ∷ [])) edit-third
      ∙ added-last ((edits ++ one ∷ []) ++ two ∷ []) third (map (under last) ends) before_third

  told-edits : edits_from 0 (front ++ rest) ≡ edits ++ edit_at first 1 (map (under h.enter) firsts) ∷ edit_at second 1 (map (under h.exit) texts) ∷ edit_at third 1 (map (under last) ends) ∷ []
  told-edits =
      let es = h.enter ∷ (h.chunks ++ h.exit ∷ h.underline) in
      let n = 0 + length front in
      let p = n + 1 + length (map kept h.chunks) in
      let q = p + 1 + length (map kept h.underline) in
      let n_is : n ≡ first = omega (arith, h.first_is) in
      let p_is : p ≡ second = let long = length-map h.chunks kept in omega (arith, h.last_is, long) in
      let q_is : q ≡ third = let long = length-map h.chunks kept in let more = length-map h.underline kept in omega (arith, third-is, long, more) in
      let one = edit_at n 1 (map (under h.enter) firsts) in
      let two = edit_at p 1 (map (under h.exit) texts) in
      let three = edit_at q 1 (map (under last) ends) in
      let inner : edits_from (p + 1) (map kept h.underline ++ renamed last ends ∷ []) ≡ three ∷ [] =
      edits-two (p + 1) (map kept h.underline) (renamed last ends ∷ []) ∙ ap (λ l. l ++ three ∷ []) (edits-kept (p + 1) h.underline) in
      let outer : edits_from (n + 1) (map kept h.chunks ++ renamed h.exit texts ∷ (map kept h.underline ++ renamed last ends ∷ [])) ≡ two ∷ three ∷ [] =
      edits-two (n + 1) (map kept h.chunks) (renamed h.exit texts ∷ (map kept h.underline ++ renamed last ends ∷ []))
      ∙ ap (λ l. l ++ two ∷ edits_from (p + 1) (map kept h.underline ++ renamed last ends ∷ [])) (edits-kept (n + 1) h.chunks) ∙ ap (λ l. two ∷ l) inner in
      edits-two 0 front rest ∙ ap (λ l. edits_from 0 front ++ one ∷ l) outer
      ∙ ap (λ l. l ++ one ∷ two ∷ three ∷ []) (sym (edits-front 0 front es) ∙ sym h.told.edits_are)
      ∙ ap (λ i. edits ++ edit_at i 1 (map (under h.enter) firsts) ∷ two ∷ three ∷ []) n_is
      ∙ ap (λ i. edits ++ edit_at first 1 (map (under h.enter) firsts) ∷ edit_at i 1 (map (under h.exit) texts) ∷ three ∷ []) p_is
      ∙ ap (λ i. edits ++ edit_at first 1 (map (under h.enter) firsts) ∷ edit_at second 1 (map (under h.exit) texts) ∷ edit_at i 1 (map (under last) ends) ∷ []) q_is

  heading-told : AreTold (front ++ rest) (events ++ e ∷ []) with_heading
  heading-told =
      let one = edit_at first 1 (map (under h.enter) firsts) in
      let two = edit_at second 1 (map (under h.exit) texts) in
      let three = edit_at third 1 (map (under last) ends) in
      let es = h.enter ∷ (h.chunks ++ h.exit ∷ h.underline) in
      let no_void_rest : AllByRecursion IsNotVoid rest = (
        (rw h.named refl, (refl, (refl, tt))),
        not-void-two (map kept h.chunks) (renamed h.exit texts ∷ (map kept h.underline ++ renamed last ends ∷ [])) (not-void-kept h.chunks)
            ((rw h.closes refl, (refl, tt)), not-void-two (map kept h.underline) (renamed last ends ∷ []) (not-void-kept h.underline) ((rw named refl, (refl, (refl, tt))), tt)),
      ) in
      record {
        events_are = all-parts ∙ ap (λ l. old front ++ l) (sym old-rest) ∙ sym (map-append event_of front rest);
        edits_are = added-three ∙ append_assoc (edits ++ one ∷ []) (two ∷ []) (three ∷ []) ∙ append_assoc edits (one ∷ []) (two ∷ three ∷ []) ∙ sym told-edits;
        no_void = not-void-two front rest (not-void-front front (map kept es) h.told.no_void) no_void_rest;
      }

  heading-same : SameOpen (front ++ rest)
  heading-same =
      ap (names_after_all (Some [])) (new-two front rest ∙ ap (λ l. new front ++ l) new-rest)
      ∙ names_after_all-append (Some []) (new front) (map (under h.enter) firsts ++ (h.chunks ++ (map (under h.exit) texts ++ (h.underline ++ map (under last) ends))))
      ∙ as-heading h.enter h.exit last h.chunks h.underline h.enters h.named h.exits h.closes exits named h.text h.opened (names_after_all (Some []) (new front))
      ∙ h.same
      ∙ sym (as-paragraph h.enter h.exit last h.chunks h.underline h.enters h.named h.exits h.closes exits named h.text h.opened (names_after_all (Some []) (old front)))
      ∙ sym (names_after_all-append (Some []) (old front) before)
      ∙ ap (names_after_all (Some [])) (ap (λ l. old front ++ l) (sym old-rest) ∙ sym (map-append event_of front rest))

  pub heading-made : RenameSpans (events ++ e ∷ []) with_heading
  heading-made = (front ++ rest, heading-told, heading-same)
