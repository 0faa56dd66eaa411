-- Strings and events of a document: those of its parts, if its blocks are.
use Rattle.std.proofs.Common.{Bool, List, Some, [], ap, append_assoc, arith, cond, false, inl, inr, length, not, refl, subst, sym, true, ℕ, ◌&&◌, ◌++◌, ◌<◌, ◌∙◌, ◌∷◌, ◌≡◌, ◌⊎◌}
use Rattle.std.proofs.lemmas.Bool.{and_parts}
use Rattle.std.proofs.lemmas.List.{map-append}
use Rattle.std.specs.List.{AllByRecursion}
use Rattle.std.specs.Prelude.{map}
use Rattle.markdown_base.specs.Events.{IsBalanced, empty, is_enter, same_name, span}
use Rattle.markdown_base.specs.declared.configuration.Constructs.{Constructs}
use Rattle.markdown_base.specs.declared.configuration.ParseOptions.{ParseOptions}
use Rattle.markdown_base.specs.declared.event.Content.TheVariants as content
use Rattle.markdown_base.specs.declared.event.Event.{Event}
use Rattle.markdown_base.specs.declared.event.Name.TheVariants.{Data}
use Rattle.markdown_base.specs.declared.event.Point.{Point}
use Rattle.markdown_base.proofs.Balanced.{same_name-true}
use Rattle.markdown_tokenizer.proofs.Positions.Order.{every-all}
use Rattle.markdown_tokenizer.specs.Plain.{HaveNoLinks}
use Rattle.markdown_tokenizer.specs.Text.{Given, IsDocument}
use Rattle.mdinline_constructs.specs.StringItems.{string_seat_events}
use Rattle.mdinline_link_strings.proofs.Kept.{strings_keep}
use Rattle.mdinline_link_strings.specs.Strings.{in_string_after, is_data, is_string, line_as_string, seats_between, with_strings, with_strings_from}
use Rattle.mdinline_machine.specs.InlineChains.{with_inlines, with_strings as with_string_chunks}
use Rattle.mddocument.proofs.InContainers.Skeletons.{skeleton-laws}
use Rattle.mddocument.proofs.InContainers.TextsFormed.{content-ready, strings-ready, texts-orderly}
use Rattle.mddocument.specs.Documents.{document}
use Rattle.mddocument.specs.FlowTexts.{inline_seat_events}
use Rattle.mddocument_parts.proofs.DataBeforeEnd.{IsKnownData, data-between, string-chunks-before-end, text-chunks-before-end, texts-known}
use Rattle.mddocument_parts.proofs.DocumentParts.{behind-document, front-document}
use Rattle.mddocument_parts.proofs.Events.{map-same}
use Rattle.mddocument_parts.proofs.MovedReads.{inlines-move, strings-moved}
use Rattle.mddocument_parts.proofs.EventsLeft.{no-links-left}
use Rattle.mddocument_parts.proofs.TextsOfBoth.{document-of-both, place-upto, ready-reads-both, IsDocumentOfBoth, range-first, range-second}
use Rattle.mddocument_parts.specs.BothDocuments.{IsOfBoth, blocks_of, events_by}
use Rattle.mddocument_parts.specs.Moved.{begins_line, line_endings, moved_event, moved_link, moved_point}

-- ==== Strings of lists one behind the other, where the first ends outside each string: those of both.
-- whether an event behind these stands in a string, by whether the first of them does
abbrev pub in_string_behind : Bool → List Event → Bool
in_string_behind inside [] = inside
in_string_behind inside (e ∷ es) = in_string_behind (in_string_after inside e) es

behind-append : (inside : Bool) (xs ys : List Event) → in_string_behind inside (xs ++ ys) ≡ in_string_behind (in_string_behind inside xs) ys
behind-append inside [] ys = refl
behind-append inside (x ∷ xs) ys = behind-append (in_string_after inside x) xs ys

-- ---- balanced lists end outside each string in which they do not begin
-- outside, or where it began
abbrev IsOut : (inside behind : Bool) → Type 0
IsOut inside behind = (behind ≡ inside) ⊎ (behind ≡ false)

out-on : (a b c : Bool) → IsOut a b → IsOut b c → IsOut a c
out-on a b c h k = elim k [ inl e ↦ elim h [ inl f ↦ inl (e ∙ f) | inr f ↦ inr (e ∙ f) ] | inr e ↦ inr e ]

-- an exit ends a string; what its enter began is over
ended : (string inside behind : Bool) → IsOut (cond string true inside) behind → IsOut inside (cond string false behind)
ended true inside behind h = inr refl
ended false inside behind h = h

pub balanced-out : (es : List Event) → IsBalanced es → (inside : Bool) → IsOut inside (in_string_behind inside es)
balanced-out es empty inside = inl refl
balanced-out es (span e f xs ys {l} is enters exits same x y) inside =
    let first = in_string_after inside e in
    let inner = in_string_behind first xs in
    let second = in_string_after inner f in
    let kind : first ≡ cond (is_string e.name) true inside = ap (λ k. cond (is_string e.name) (is_enter k) inside) enters in
    let kinds : second ≡ cond (is_string e.name) false inner = (λ i. cond (is_string (same i)) (is_enter (exits i)) inner) in
    let here = ended (is_string e.name) inside inner (subst (λ b. IsOut b inner) kind (balanced-out xs x first)) in
    let next = subst (IsOut inside) (sym kinds) here in
    let all = out-on inside second (in_string_behind second ys) next (balanced-out ys y second) in
    subst (IsOut inside) (sym (ap (in_string_behind inside) is ∙ behind-append first xs (f ∷ ys))) all

-- ---- lists one behind the other
-- data is no string
not-string : (e f : Event) → is_data e f ≡ true → is_string e.name ≡ false
not-string e f h =
    let enters = (and_parts (is_enter e.kind && same_name e.name Data) (not (is_enter f.kind) && same_name f.name Data) h).0 in
    let named = (and_parts (is_enter e.kind) (same_name e.name Data) enters).1 in
    let is : e.name ≡ Data = same_name-true e.name Data named in
    ap is_string is

data-stays : (inside : Bool) (e f : Event) → is_data e f ≡ true → in_string_after (in_string_after inside e) f ≡ inside
data-stays inside e f h =
    let first = not-string e f h in
    let exits = (and_parts (is_enter e.kind && same_name e.name Data) (not (is_enter f.kind) && same_name f.name Data) h).1 in
    let is : f.name ≡ Data = same_name-true f.name Data (and_parts (not (is_enter f.kind)) (same_name f.name Data) exits).1 in
    let second : is_string f.name ≡ false = ap is_string is in
    (λ i. cond (second i) (is_enter f.kind) (cond (first i) (is_enter e.kind) inside))

module _ (on : Constructs) (t : ℕ) (bytes : List ℕ) where
  abbrev read : Bool → List Event → List Event
  read inside es = with_strings_from on t bytes inside es

  -- an event that stands in a string only if the next one does not is not the first of data there
  last-alone : (inside : Bool) (e f : Event) → in_string_after inside e ≡ false → (inside && is_data e f) ≡ false
  last-alone false e f h = refl
  last-alone true e f h = by (is_data e f) refl
    where
      by : (b : Bool) → is_data e f ≡ b → b ≡ false
      by true d = absurd (let both : true ≡ false = sym (ap (λ s. cond s (is_enter e.kind) true) (not-string e f d)) ∙ h in cc)
      by false d = refl

  pub strings-join : (inside : Bool) (xs ys : List Event) → in_string_behind inside xs ≡ false → read inside (xs ++ ys) ≡ read inside xs ++ read false ys
  strings-join inside [] ys h = ap (λ b. read b ys) h
  strings-join inside (e ∷ []) [] h = refl
  strings-join inside (e ∷ []) (f ∷ ys) h =
      (λ i. cond (last-alone inside e f h i) (line_as_string on t bytes e.point f.point ++ read inside ys) (e ∷ read (h i) (f ∷ ys)))
  strings-join inside (e ∷ f ∷ xs) ys h = by (inside && is_data e f) refl (strings-join inside xs ys) (strings-join (in_string_after inside e) (f ∷ xs) ys h)
    where
      -- data leaves it as it is
      stays : (inside && is_data e f) ≡ true → in_string_behind inside xs ≡ in_string_behind (in_string_after (in_string_after inside e) f) xs
      stays d = ap (λ b. in_string_behind b xs) (sym (data-stays inside e f (and_parts inside (is_data e f) d).1))

      by : (b : Bool) → (inside && is_data e f) ≡ b → (in_string_behind inside xs ≡ false → read inside (xs ++ ys) ≡ read inside xs ++ read false ys)
          → read (in_string_after inside e) (f ∷ xs ++ ys) ≡ read (in_string_after inside e) (f ∷ xs) ++ read false ys
          → cond b (line_as_string on t bytes e.point f.point ++ read inside (xs ++ ys)) (e ∷ read (in_string_after inside e) (f ∷ xs ++ ys))
          ≡ cond b (line_as_string on t bytes e.point f.point ++ read inside xs) (e ∷ read (in_string_after inside e) (f ∷ xs)) ++ read false ys
      by true d join other =
          ap (λ es. line_as_string on t bytes e.point f.point ++ es) (join (stays d ∙ h))
          ∙ sym (append_assoc (line_as_string on t bytes e.point f.point) (read inside xs) (read false ys))
      by false d join other = ap (λ es. e ∷ es) other

-- ---- lists whose places are moved
module _ (on : Constructs) (t : ℕ) (B C : List ℕ) (fp : Point → Point) (fe : Event → Event)
    (kinds : (e : Event) → (fe e).kind ≡ e.kind) (names : (e : Event) → (fe e).name ≡ e.name) (points : (e : Event) → (fe e).point ≡ fp e.point) where
  -- data is read alike, where events are of such a kind
  module _ (Ok : Event → Type 0) (alike : (e f : Event) → Ok e → Ok f → is_data e f ≡ true → line_as_string on t C (fp e.point) (fp f.point) ≡ map fe (line_as_string on t B e.point f.point)) where
    after-moved : (inside : Bool) (e : Event) → in_string_after inside (fe e) ≡ in_string_after inside e
    after-moved inside e = (λ i. cond (is_string (names e i)) (is_enter (kinds e i)) inside)

    data-moved : (e f : Event) → is_data (fe e) (fe f) ≡ is_data e f
    data-moved e f = (λ i. (is_enter (kinds e i) && same_name (names e i) Data) && (not (is_enter (kinds f i)) && same_name (names f i) Data))

    pub strings-moved-by : (inside : Bool) (es : List Event) → AllByRecursion Ok es → with_strings_from on t C inside (map fe es) ≡ map fe (with_strings_from on t B inside es)
    strings-moved-by inside [] h = refl
    strings-moved-by inside (e ∷ []) h = refl
    strings-moved-by inside (e ∷ f ∷ es) h =
        (λ i. cond (inside && data-moved e f i) (line_as_string on t C (points e i) (points f i) ++ with_strings_from on t C inside (map fe es)) (fe e ∷ with_strings_from on t C (after-moved inside e i) (fe f ∷ map fe es)))
        ∙ by (inside && is_data e f) refl (strings-moved-by inside es h.1.1) (strings-moved-by (in_string_after inside e) (f ∷ es) h.1)
      where
        by : (b : Bool) → (inside && is_data e f) ≡ b → with_strings_from on t C inside (map fe es) ≡ map fe (with_strings_from on t B inside es)
            → with_strings_from on t C (in_string_after inside e) (fe f ∷ map fe es) ≡ map fe (with_strings_from on t B (in_string_after inside e) (f ∷ es))
            → cond b (line_as_string on t C (fp e.point) (fp f.point) ++ with_strings_from on t C inside (map fe es)) (fe e ∷ with_strings_from on t C (in_string_after inside e) (fe f ∷ map fe es))
            ≡ map fe (cond b (line_as_string on t B e.point f.point ++ with_strings_from on t B inside es) (e ∷ with_strings_from on t B (in_string_after inside e) (f ∷ es)))
        by true d rest other =
            (let one = alike e f h.0 h.1.0 (and_parts inside (is_data e f) d).1 in (λ i. one i ++ rest i))
            ∙ sym (map-append fe (line_as_string on t B e.point f.point) (with_strings_from on t B inside es))
        by false d rest other = ap (λ xs. fe e ∷ xs) other

-- ==== The events of a document are those of its parts, if its blocks are.
-- events without links are moved alike, whatever number of events is added to links
unlinked-same : (l n j k : ℕ) (es : List Event) → HaveNoLinks es → map (moved_event l n j) es ≡ map (moved_event l n k) es
unlinked-same l n j k [] h = refl
unlinked-same l n j k (e ∷ es) h =
    let link : moved_link j e.link ≡ moved_link k e.link = ap (moved_link j) h.0 ∙ sym (ap (moved_link k) h.0) in
    let rest = unlinked-same l n j k es h.1 in
    (λ i. (let v : Event = record { kind = e.kind; name = e.name; point = moved_point l n e.point; link = link i } in v) ∷ rest i)

out-false : (b : Bool) → (b ≡ false) ⊎ (b ≡ false) → b ≡ false
out-false b h = elim h [ inl e ↦ e | inr e ↦ e ]

module _ (defined : List ℕ → Bool) (options : ParseOptions) (a b : List ℕ) (is : IsDocument (document options (a ++ b))) (torn : begins_line b a ≡ true) where
  abbrev on : Constructs
  on = options.constructs

  abbrev t : ℕ
  t = options.tab_size

  abbrev whole : Given
  whole = document options (a ++ b)

  abbrev first : Given
  first = document options a

  abbrev second : Given
  second = document options b

  some : 0 < t
  some = let tab = is.tab.0 in omega (arith, tab)

  one : IsDocument first
  one = front-document options a b is

  two : IsDocument second
  two = behind-document options a b is

  of-both : IsDocumentOfBoth (line_endings a) (length a) whole first second
  of-both = document-of-both t a b options options options torn

  -- the texts of blocks, and their strings
  abbrev texts_of : (bytes : List ℕ) → List Event
  texts_of bytes = with_inlines defined (document options bytes) (blocks_of options bytes)

  abbrev strings_of : (bytes : List ℕ) → List Event
  strings_of bytes = with_string_chunks (document options bytes) (texts_of bytes)

  -- ---- lines of strings
  abbrev line_in : (bytes : List ℕ) → (from to : Point) → List Event
  line_in bytes from to = line_as_string on t bytes from to

  same-line : (e f : Event) → IsKnownData first e → IsKnownData first f → is_data e f ≡ true → line_in (a ++ b) e.point f.point ≡ map (λ (e : Event). e) (line_in a e.point f.point)
  same-line e f x y d =
      ap (string_seat_events on (a ++ b)) (range-first (line_endings a) (length a) whole first second of-both e.point f.point (place-upto t some a f.point y.is_point))
      ∙ (strings-moved on a b torn).0 (seats_between t a e.point f.point) (data-between first one e f x y d)
      ∙ sym (map-same (λ e. e) (λ e. refl) (line_in a e.point f.point))

  moved-line : (k : ℕ) (e f : Event) → Unit {0} → Unit {0} → is_data e f ≡ true
      → line_in (a ++ b) (moved_point (line_endings a) (length a) e.point) (moved_point (line_endings a) (length a) f.point) ≡ map (moved_event (line_endings a) (length a) k) (line_in b e.point f.point)
  moved-line k e f x y d =
      ap (string_seat_events on (a ++ b)) (range-second (line_endings a) (length a) whole first second of-both e.point f.point)
      ∙ (strings-moved on a b torn).1 (line_endings a) k (seats_between t b e.point f.point)

  -- ---- from blocks on
  module _ (blocks : IsOfBoth (blocks_of options) a b) where
    texts-both : IsOfBoth texts_of a b
    texts-both =
        ap (with_inlines defined whole) blocks
        ∙ ready-reads-both (inline_seat_events defined options) (inlines-move defined options) (Some content.Text) t a b torn options options options (blocks_of options a) (blocks_of options b) some
        (content-ready skeleton-laws first one content.Text) (content-ready skeleton-laws second two content.Text) (text-chunks-before-end first one b torn)

    strings-both : IsOfBoth strings_of a b
    strings-both =
        ap (with_string_chunks whole) texts-both
        ∙ ready-reads-both (string_seat_events on) (strings-moved on) (Some content.String) t a b torn options options options (texts_of a) (texts_of b) some
        (strings-ready skeleton-laws first one defined) (strings-ready skeleton-laws second two defined) (string-chunks-before-end first one b torn defined)

    pub events-both : IsOfBoth (events_by options defined) a b
    events-both =
        let l = line_endings a in
        let n = length a in
        let s = strings_of a in
        let k = length s in
        let out = out-false (in_string_behind false s) (balanced-out s (texts-orderly skeleton-laws first one defined).balanced false) in
        let front : with_strings_from on t (a ++ b) false s ≡ with_strings on t a s =
        ap (with_strings_from on t (a ++ b) false) (sym (map-same (λ (e : Event). e) (λ e. refl) s))
        ∙ strings-moved-by on t a (a ++ b) (λ p. p) (λ e. e) (λ e. refl) (λ e. refl) (λ e. refl) (IsKnownData first) same-line false s (texts-known first one b torn defined)
        ∙ map-same (λ (e : Event). e) (λ e. refl) (with_strings on t a s) in
        let behind : with_strings_from on t (a ++ b) false (map (moved_event l n k) (strings_of b)) ≡ map (moved_event l n (length (with_strings on t a s))) (with_strings on t b (strings_of b)) =
        strings-moved-by on t b (a ++ b) (moved_point l n) (moved_event l n k) (λ e. refl) (λ e. refl) (λ e. refl) (λ e. Unit {0}) (moved-line k) false (strings_of b) (every-all (λ e. Unit {0}) (λ e. tt) (strings_of b))
        ∙ unlinked-same l n k (length (with_strings on t a s)) (with_strings on t b (strings_of b)) ((strings_keep on t b (strings_of b)).1 (no-links-left second two defined)) in
        ap (with_strings on t (a ++ b)) strings-both
        ∙ strings-join on t (a ++ b) false s (map (moved_event l n k) (strings_of b)) out
        ∙ (λ i. front i ++ behind i)
