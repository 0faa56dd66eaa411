-- Where some events stand in place of others that are written alike, as prefixes between lines do and strings that are read, a link leads to the same label.
use Rattle.mddocument_rules.proofs.Prelude.{◌≡◌, ◌∙◌, ◌⊎◌, ℕ, zero, suc, ◌+◌, true, false, not, cond, List, [], ◌∷◌, ◌++◌, None, Option, Some, append_assoc, ap, arith, drop, false_from_ne_true, false≢true, inl, inr, length, option_map, refl, subst, sym, take, AllByRecursion, ◌&&◌, ◌||◌, Enter, Event, Exit, IsBalanced, Kind, Name, empty, is_enter, is_wanted, same_name, same_name-true}
use Rattle.std.proofs.Math.Bool.{and-false}
use Rattle.std.proofs.Math.Seq.{drop-append-add, take-append_seam}
use Rattle.std.proofs.lemmas.List.{length-append}
use Rattle.std.proofs.lemmas.Option.{none-some, same_Some}
use Rattle.std.specs.Option.{option_or}
use Rattle.markdown_base.proofs.Common.{every-map}
use Rattle.markdown_base.specs.declared.event.Name.TheVariants as name
use Rattle.markdown_base.specs.Events.{span as balanced_span}
use Rattle.mdinline_labels.specs.Labels.{normalised}
use Rattle.mddocument_link_targets.proofs.SpanEnds.{at_end, at_enter, at_exit}
use Rattle.mddocument_link_targets.specs.declared.strings.Reading.TheVariants.{AsWritten}
use Rattle.mddocument_link_targets.specs.declared.targets.Target.{Target}
use Rattle.mddocument_link_targets.specs.declared.targets.Target.TheVariants as target
use Rattle.mddocument_link_targets.specs.Spans.{behind, enters, first_in, inside, size_from}
use Rattle.mddocument_link_targets.specs.Strings.{as_written, given, given_at}
use Rattle.mddocument_link_targets.specs.Targets.{enters_link, label_of, resource_parts, target_behind, target_in, target_of, written}
use Rattle.mddocument_rules.proofs.AlikeTexts.{alike-both, alike-labels, alike-none, alike-same}
use Rattle.mddocument_rules.proofs.MadeTexts.{first-behind}
use Rattle.mddocument_rules.specs.LinkLaws.{EntersNone}
use Rattle.mddocument_rules.specs.SegmentLaws.{Alike, AllLinksLeadAlike, AreAlike, BeginsWithAnEnter, LinksLeadAlike, NoneBeginLinks, Segment, instead, leading_names, new_events, old_events, one}

-- ---- segments
pub old-both : (a b : List Segment) → old_events (a ++ b) ≡ old_events a ++ old_events b
old-both [] b = refl
old-both (one e ∷ a) b = ap (λ l. e ∷ l) (old-both a b)
old-both (instead xs ys ∷ a) b = ap (λ l. xs ++ l) (old-both a b) ∙ sym (append_assoc xs (old_events a) (old_events b))

pub new-both : (a b : List Segment) → new_events (a ++ b) ≡ new_events a ++ new_events b
new-both [] b = refl
new-both (one e ∷ a) b = ap (λ l. e ∷ l) (new-both a b)
new-both (instead xs ys ∷ a) b = ap (λ l. ys ++ l) (new-both a b) ∙ sym (append_assoc ys (new_events a) (new_events b))

abbrev pub AreMinor : List Event → Type 0
AreMinor es = AllByRecursion (λ (e : Event). is_wanted leading_names e.name ≡ false) es

minor-other : (n m : Name) → is_wanted leading_names n ≡ false → is_wanted leading_names m ≡ true → same_name n m ≡ false
minor-other n m h k = false_from_ne_true (same_name n m) (λ e. false≢true (sym h ∙ subst (λ x. is_wanted leading_names x ≡ true) (sym (same_name-true n m e)) k))

minor-enters : (n : Name) → is_wanted leading_names n ≡ true → (es : List Event) → AreMinor es → EntersNone n es
minor-enters n k es h = every-map (λ (e : Event). is_wanted leading_names e.name ≡ false) (λ (e : Event). enters n e ≡ false) (λ e m. ap (λ b. is_enter e.kind && b) (minor-other e.name n m k) ∙ and-false (is_enter e.kind)) es h

-- balanced events are passed over
pub passed : (depth : ℕ) {xs : List Event} (zs : List Event) → IsBalanced xs → size_from depth (xs ++ zs) ≡ length xs + size_from depth zs
passed depth zs empty = omega arith
passed depth {xs} zs (balanced_span e f us vs is enters exits same bu bv) =
    let whole : xs ++ zs ≡ e ∷ (us ++ f ∷ (vs ++ zs)) = ap (λ l. l ++ zs) is ∙ ap (λ l. e ∷ l) (append_assoc us (f ∷ vs) zs) in
    let long : length xs ≡ suc (length us + suc (length vs)) = ap length is ∙ ap suc (length-append us (f ∷ vs)) in
    let first = ap (size_from depth) whole ∙ at_enter depth e (us ++ f ∷ (vs ++ zs)) enters in
    let inner = passed (suc depth) (f ∷ (vs ++ zs)) bu in
    let last = at_exit depth f (vs ++ zs) exits in
    let outer = passed depth zs bv in
    omega (arith, long, first, inner, last, outer)

pub minor-enters-none : (e : Event) → is_wanted leading_names e.name ≡ false → enters_link e ≡ false
minor-enters-none e m =
    (λ i. (is_enter e.kind && minor-other e.name name.Link m refl i) || (is_enter e.kind && minor-other e.name name.Image m refl i)) ∙ (λ i. and-false (is_enter e.kind) i || and-false (is_enter e.kind) i)

-- the first segment is no other events
abbrev pub BeginsWithOne : List Segment → Type 0
BeginsWithOne [] = Unit {0}
BeginsWithOne (one e ∷ s) = Unit {0}
BeginsWithOne (instead xs ys ∷ s) = ⊥

pub begins-front : (a b : List Segment) → BeginsWithOne (a ++ b) → BeginsWithOne a
begins-front [] b h = tt
begins-front (one e ∷ a) b h = tt
begins-front (instead xs ys ∷ a) b h = h

-- Kinds of segments, by which a link leads to the same label without them: in each is what is in parts of it; other events are whole spans of minor names, and so
-- are those that they stand in place of; and with them and without them what is written is one label
abbrev pub AreMinorSpans : List Event → Type 0
AreMinorSpans es = IsBalanced es × AreMinor es

pub record IsKind (bytes : List ℕ) (Are : List Segment → Type 0) : Type 0 where
  pub front : (a b : List Segment) → Are (a ++ b) → Are a
  pub back : (a b : List Segment) → Are (a ++ b) → Are b
  pub old_spans : (xs ys : List Event) (s : List Segment) → Are (instead xs ys ∷ s) → AreMinorSpans xs
  pub new_spans : (xs ys : List Event) (s : List Segment) → Are (instead xs ys ∷ s) → AreMinorSpans ys
  pub labels : (s : List Segment) → Are s → normalised (as_written bytes (new_events s)) ≡ normalised (as_written bytes (old_events s))

module _ (bytes : List ℕ) (Are : List Segment → Type 0) (kind : IsKind bytes Are) where
  pub behind-first : (x : Segment) (s : List Segment) → Are (x ∷ s) → Are s
  behind-first x s h = kind.back (x ∷ []) s h

  -- ---- what is in a span
  -- segments up to the exit of the span that is open, by how many are
  pub record Cut (depth : ℕ) (s : List Segment) : Type 0 where
    pub front : List Segment
    pub rest : List Segment
    pub are : s ≡ front ++ rest
    pub old_size : size_from depth (old_events s) ≡ length (old_events front)
    pub new_size : size_from depth (new_events s) ≡ length (new_events front)
    pub ends : (rest ≡ []) ⊎ ((x : Event) × (back : List Segment) × (rest ≡ one x ∷ back) × (x.kind ≡ Exit))

  cut-more : (d k : ℕ) (e : Event) (s : List Segment) → ((es : List Event) → size_from d (e ∷ es) ≡ suc (size_from k es)) → Cut k s → Cut d (one e ∷ s)
  cut-more d k e s step c = record {
    front = one e ∷ c.front;
    rest = c.rest;
    are = ap (λ l. one e ∷ l) c.are;
    old_size = step (old_events s) ∙ ap suc c.old_size;
    new_size = step (new_events s) ∙ ap suc c.new_size;
    ends = c.ends;
  }

  pub cut : (d : ℕ) (s : List Segment) → Are s → Cut d s
  cut d [] h = record { front = []; rest = []; are = refl; old_size = refl; new_size = refl; ends = inl refl }
  cut d (instead xs ys ∷ s) h =
      let c = cut d s (behind-first (instead xs ys) s h) in
      let o = passed d (old_events s) (kind.old_spans xs ys s h).0 in
      let n = passed d (new_events s) (kind.new_spans xs ys s h).0 in
      let old_long = length-append xs (old_events c.front) in
      let new_long = length-append ys (new_events c.front) in
      let os = c.old_size in
      let ns = c.new_size in
      record { front = instead xs ys ∷ c.front; rest = c.rest; are = ap (λ l. instead xs ys ∷ l) c.are; old_size = omega (arith, o, os, old_long); new_size = omega (arith, n, ns, new_long); ends = c.ends }
  cut d (one e ∷ s) h = by e.kind refl d (λ k. cut k s (behind-first (one e) s h))
    where
      by : (k : Kind) → e.kind ≡ k → (d : ℕ) → ((k : ℕ) → Cut k s) → Cut d (one e ∷ s)
      by Enter en d more = cut-more d (suc d) e s (λ es. at_enter d e es en) (more (suc d))
      by Exit ex zero more = record { front = []; rest = one e ∷ s; are = refl; old_size = at_end e (old_events s) ex; new_size = at_end e (new_events s) ex; ends = inr (e, s, refl, ex) }
      by Exit ex (suc d) more = cut-more (suc d) d e s (λ es. at_exit d e es ex) (more d)

  -- what is in it, and behind it
  record Halves (s : List Segment) : Type 0 where
    pub front : List Segment
    pub rest : List Segment
    pub are : s ≡ front ++ rest
    pub back : List Segment
    pub first : Are front
    pub last : Are back
    pub old_front : inside (old_events s) ≡ old_events front
    pub new_front : inside (new_events s) ≡ new_events front
    pub old_back : behind (old_events s) ≡ old_events back
    pub new_back : behind (new_events s) ≡ new_events back

  halves : (s : List Segment) → Are s → Halves s
  halves s h = by (cut 0 s h)
    where
      front-is : (zs front rest : List Event) → zs ≡ front ++ rest → size_from 0 zs ≡ length front → inside zs ≡ front
      front-is zs front rest are size = (λ i. take (size i) (are i)) ∙ take-append_seam front rest

      back-is : (zs front rest : List Event) → zs ≡ front ++ rest → size_from 0 zs ≡ length front → behind zs ≡ drop 1 rest
      back-is zs front rest are size = (λ i. drop (size i + 1) (are i)) ∙ drop-append-add front rest 1

      by : Cut 0 s → Halves s
      by c =
          let o : old_events s ≡ old_events c.front ++ old_events c.rest = ap old_events c.are ∙ old-both c.front c.rest in
          let n : new_events s ≡ new_events c.front ++ new_events c.rest = ap new_events c.are ∙ new-both c.front c.rest in
          let whole = subst Are c.are h in
          let all = kind.back c.front c.rest whole in
          elim c.ends [
            | inl none ↦ record {
              front = c.front;
              rest = c.rest;
              are = c.are;
              back = [];
              first = kind.front c.front c.rest whole;
              last = subst Are none all;
              old_front = front-is (old_events s) (old_events c.front) (old_events c.rest) o c.old_size;
              new_front = front-is (new_events s) (new_events c.front) (new_events c.rest) n c.new_size;
              old_back = back-is (old_events s) (old_events c.front) (old_events c.rest) o c.old_size ∙ ap (λ l. drop 1 (old_events l)) none;
              new_back = back-is (new_events s) (new_events c.front) (new_events c.rest) n c.new_size ∙ ap (λ l. drop 1 (new_events l)) none;
            }
            | inr e ↦ record {
              front = c.front;
              rest = c.rest;
              are = c.are;
              back = e.1;
              first = kind.front c.front c.rest whole;
              last = behind-first (one e.0) e.1 (subst Are e.2 all);
              old_front = front-is (old_events s) (old_events c.front) (old_events c.rest) o c.old_size;
              new_front = front-is (new_events s) (new_events c.front) (new_events c.rest) n c.new_size;
              old_back = back-is (old_events s) (old_events c.front) (old_events c.rest) o c.old_size ∙ ap (λ l. drop 1 (old_events l)) e.2;
              new_back = back-is (new_events s) (new_events c.front) (new_events c.rest) n c.new_size ∙ ap (λ l. drop 1 (new_events l)) e.2;
            }
          ]

  -- ---- the first span of a name
  abbrev Firsts : Option (List Event) → Option (List Event) → Type 0
  Firsts a b = ((a ≡ None) × (b ≡ None)) ⊎ ((s : List Segment) × Are s × (a ≡ Some (old_events s)) × (b ≡ Some (new_events s)))

  firsts : (n : Name) → is_wanted leading_names n ≡ true → (s : List Segment) → Are s → Firsts (first_in n (old_events s)) (first_in n (new_events s))
  firsts n k [] h = inl (refl, refl)
  firsts n k (instead xs ys ∷ s) h =
      subst (λ a. Firsts a (first_in n (ys ++ new_events s))) (sym (first-behind n xs (old_events s) (minor-enters n k xs (kind.old_spans xs ys s h).1)))
      (subst (Firsts (first_in n (old_events s))) (sym (first-behind n ys (new_events s) (minor-enters n k ys (kind.new_spans xs ys s h).1))) (firsts n k s (behind-first (instead xs ys) s h)))
  firsts n k (one e ∷ s) h =
      let more = behind-first (one e) s h in
      let t = halves s more in
      elim (enters n e) as (λ b. Firsts (cond b (Some (inside (old_events s))) (first_in n (old_events s))) (cond b (Some (inside (new_events s))) (first_in n (new_events s)))) [
        | true ↦ inr (t.front, t.first, ap Some t.old_front, ap Some t.new_front)
        | false ↦ firsts n k s more
      ]

  -- ---- where a link leads
  or-written : (a b c d : Option (List Event)) → Firsts a b → Firsts c d → normalised (written bytes (option_or b d)) ≡ normalised (written bytes (option_or a c))
  or-written a b c d (inr (s, are, first, second)) h =
      (λ i. normalised (written bytes (option_or (second i) d))) ∙ kind.labels s are ∙ sym (λ i. normalised (written bytes (option_or (first i) c)))
  or-written a b c d (inl none) (inl nothing) = (λ i. normalised (written bytes (option_or (none.1 i) (nothing.1 i)))) ∙ sym (λ i. normalised (written bytes (option_or (none.0 i) (nothing.0 i))))
  or-written a b c d (inl none) (inr (s, are, first, second)) =
      (λ i. normalised (written bytes (option_or (none.1 i) (second i)))) ∙ kind.labels s are ∙ sym (λ i. normalised (written bytes (option_or (none.0 i) (first i))))

  -- to the same label, if to one
  same-label : (e : Event) (s : List Segment) → Are s → (label : List ℕ) → target_in bytes (e ∷ new_events s) ≡ target.Label label → target_in bytes (e ∷ old_events s) ≡ target.Label label
  same-label e s h label leads =
      let t = halves s h in
      let there : target_behind bytes (new_events t.front) (new_events t.back) ≡ target.Label label = (λ i. target_behind bytes (sym t.new_front i) (sym t.new_back i)) ∙ leads in
      let labels : label_of bytes (new_events t.front) (new_events t.back) ≡ label_of bytes (old_events t.front) (old_events t.back) =
      or-written (first_in name.ReferenceString (old_events t.back)) (first_in name.ReferenceString (new_events t.back)) (first_in name.LabelText (old_events t.front)) (first_in name.LabelText (new_events t.front))
      (firsts name.ReferenceString refl t.back t.last) (firsts name.LabelText refl t.front t.first) in
      (λ i. target_behind bytes (t.old_front i) (t.old_back i)) ∙ by (firsts name.Resource refl t.back t.last) labels there
    where
      by : (t0 : Firsts (first_in name.Resource (old_events (halves s h).back)) (first_in name.Resource (new_events (halves s h).back)))
          → label_of bytes (new_events (halves s h).front) (new_events (halves s h).back) ≡ label_of bytes (old_events (halves s h).front) (old_events (halves s h).back)
          → target_behind bytes (new_events (halves s h).front) (new_events (halves s h).back) ≡ target.Label label → target_behind bytes (old_events (halves s h).front) (old_events (halves s h).back) ≡ target.Label label
      by (inl none) labels there =
          let own = old_events (halves s h).front in
          let tail = old_events (halves s h).back in
          let first = new_events (halves s h).front in
          let last = new_events (halves s h).back in
          let to_old : target_behind bytes own tail ≡ target.Label (label_of bytes own tail) = ap (λ o. elim o as (λ _. Target) [ None ↦ target.Label (label_of bytes own tail) | Some r ↦ target.Parts (resource_parts bytes r) ]) none.0 in
          let to_new : target_behind bytes first last ≡ target.Label (label_of bytes first last) = ap (λ o. elim o as (λ _. Target) [ None ↦ target.Label (label_of bytes first last) | Some r ↦ target.Parts (resource_parts bytes r) ]) none.1 in
          to_old ∙ ap (λ l. target.Label l) (sym labels) ∙ sym to_new ∙ there
      by (inr (z, are, first, second)) labels there =
          let own = new_events (halves s h).front in
          let tail = new_events (halves s h).back in
          let to_parts : target_behind bytes own tail ≡ target.Parts (resource_parts bytes (new_events z)) = ap (λ o. elim o as (λ _. Target) [ None ↦ target.Label (label_of bytes own tail) | Some r ↦ target.Parts (resource_parts bytes r) ]) second in
          absurd (let no : target.Parts (resource_parts bytes (new_events z)) ≡ target.Label label = sym to_parts ∙ there in cc)

  -- ---- all links
  abbrev inside_of : Option (List Event) → Option (List Event)
  inside_of o = elim o as (λ _. Option (List Event)) [ None ↦ None | Some es ↦ Some (inside es) ]

  -- behind events that enter none
  skipped : (ys zs : List Event) (at : ℕ) (t : Target) → AreMinor ys → target_of bytes (ys ++ zs) at ≡ Some t → (i : ℕ) × (target_of bytes zs i ≡ Some t)
  skipped [] zs at t h is = (at, is)
  skipped (y ∷ ys) zs zero t h is =
      absurd (let no : None ≡ Some t = sym (ap (λ b. option_map (target_in bytes) (inside_of (cond b (Some (ys ++ zs)) None))) (minor-enters-none y h.0)) ∙ is in none-some t no)
  skipped (y ∷ ys) zs (suc at) t h is = skipped ys zs at t h.1 is

  put-behind : (xs zs : List Event) (i : ℕ) (t : Target) → target_of bytes zs i ≡ Some t → (k : ℕ) × (target_of bytes (xs ++ zs) k ≡ Some t)
  put-behind [] zs i t is = (i, is)
  put-behind (x ∷ xs) zs i t is = let more = put-behind xs zs i t is in (suc more.0, more.1)

  pub front-label : (a : List Segment) → Are a → BeginsWithOne a → (label : List ℕ) → target_in bytes (new_events a) ≡ target.Label label → target_in bytes (old_events a) ≡ target.Label label
  front-label [] are first label leads = leads
  front-label (one e ∷ a) are first label leads = same-label e a (behind-first (one e) a are) label leads
  front-label (instead xs ys ∷ a) are first label leads = absurd first

  -- one that is entered there
  first-link : (e : Event) (s : List Segment) (label : List ℕ) → Are s → (enters_link e ≡ true → BeginsWithOne s) → target_of bytes (e ∷ new_events s) 0 ≡ Some (target.Label label) → target_of bytes (e ∷ old_events s) 0 ≡ Some (target.Label label)
  first-link e s label h begins = elim (enters_link e) as (λ b. (b ≡ true → BeginsWithOne s) → option_map (target_in bytes) (inside_of (cond b (Some (new_events s)) None)) ≡ Some (target.Label label)
      → option_map (target_in bytes) (inside_of (cond b (Some (old_events s)) None)) ≡ Some (target.Label label)) [
        | false ↦ λ first is. absurd (none-some (target.Label label) is)
        | true ↦ λ first is.
            let t = halves s h in
            let leads : target_in bytes (inside (new_events s)) ≡ target.Label label = same_Some (target_in bytes (inside (new_events s))) (target.Label label) is in
            let there = front-label t.front t.first (begins-front t.front t.rest (subst BeginsWithOne t.are (first refl))) label (ap (target_in bytes) (sym t.new_front) ∙ leads) in
            ap Some (ap (target_in bytes) t.old_front ∙ there)
      ] begins

  pub none-begins : (e : Event) (s : List Segment) → NoneBeginLinks (one e ∷ s) → enters_link e ≡ true → BeginsWithOne s
  none-begins e [] h is = tt
  none-begins e (one f ∷ s) h is = tt
  none-begins e (instead xs ys ∷ s) h is = absurd (false≢true (sym h.0 ∙ is))

  pub none-behind : (e : Event) (s : List Segment) → NoneBeginLinks (one e ∷ s) → NoneBeginLinks s
  none-behind e [] h = tt
  none-behind e (one f ∷ s) h = h
  none-behind e (instead xs ys ∷ s) h = h.1

  all-links : (s : List Segment) (at : ℕ) (label : List ℕ) → Are s → NoneBeginLinks s → target_of bytes (new_events s) at ≡ Some (target.Label label) → (i : ℕ) × (target_of bytes (old_events s) i ≡ Some (target.Label label))
  all-links [] zero label h none is = absurd (none-some (target.Label label) is)
  all-links [] (suc at) label h none is = absurd (none-some (target.Label label) is)
  all-links (one e ∷ s) zero label h none is = (0, first-link e s label (behind-first (one e) s h) (none-begins e s none) is)
  all-links (one e ∷ s) (suc at) label h none is = let more = all-links s at label (behind-first (one e) s h) (none-behind e s none) is in (suc more.0, more.1)
  all-links (instead xs ys ∷ s) at label h none is =
      let there = skipped ys (new_events s) at (target.Label label) (kind.new_spans xs ys s h).1 is in
      let more = all-links s there.0 label (behind-first (instead xs ys) s h) none there.1 in
      put-behind xs (old_events s) more.0 (target.Label label) more.1

-- ---- events that stand in place of others that are written alike
module _ (bytes : List ℕ) where
  abbrev Alikes : List Segment → Type 0
  Alikes s = AreAlike bytes s

  are-front : (a b : List Segment) → Alikes (a ++ b) → Alikes a
  are-front [] b h = tt
  are-front (one e ∷ a) b h = are-front a b h
  are-front (instead xs ys ∷ a) b h = (h.0, are-front a b h.1)

  are-back : (a b : List Segment) → Alikes (a ++ b) → Alikes b
  are-back [] b h = h
  are-back (one e ∷ a) b h = are-back a b h
  are-back (instead xs ys ∷ a) b h = are-back a b h.1

  -- ---- what is written
  pub enter-gives : (e : Event) (xs ys : List Event) → BeginsWithAnEnter xs → given_at bytes AsWritten e (xs ++ ys) ≡ []
  enter-gives e [] ys o = absurd o
  enter-gives e (x ∷ xs) ys o =
      ap (λ (k : Kind). cond (is_enter e.kind && not (is_enter k)) (given bytes AsWritten e.name e.point.index x.point.index) []) o ∙ ap (λ b. cond b (given bytes AsWritten e.name e.point.index x.point.index) []) (and-false (is_enter e.kind))

  given-same : (e : Event) (s : List Segment) → Alikes s → given_at bytes AsWritten e (new_events s) ≡ given_at bytes AsWritten e (old_events s)
  given-same e [] h = refl
  given-same e (one f ∷ s) h = refl
  given-same e (instead xs ys ∷ s) h = enter-gives e ys (new_events s) h.0.new_are.begins ∙ sym (enter-gives e xs (old_events s) h.0.old_are.begins)

  pub written-alike : (s : List Segment) → Alikes s → Alike (as_written bytes (new_events s)) (as_written bytes (old_events s))
  written-alike [] h = alike-none
  written-alike (one e ∷ s) h =
      subst (λ l. Alike (l ++ as_written bytes (new_events s)) (given_at bytes AsWritten e (old_events s) ++ as_written bytes (old_events s))) (sym (given-same e s h))
      (alike-both (given_at bytes AsWritten e (old_events s)) (given_at bytes AsWritten e (old_events s)) (as_written bytes (new_events s)) (as_written bytes (old_events s)) (alike-same (given_at bytes AsWritten e (old_events s))) (written-alike s h))
  written-alike (instead xs ys ∷ s) h =
      let p = h.0 in
      subst (λ l. Alike l (as_written bytes (xs ++ old_events s))) (sym (p.new_are.gives (new_events s)))
      (subst (Alike (p.new_text ++ as_written bytes (new_events s))) (sym (p.old_are.gives (old_events s))) (alike-both p.new_text p.old_text (as_written bytes (new_events s)) (as_written bytes (old_events s)) p.alike (written-alike s h.1)))

  pub alike-kind : IsKind bytes Alikes
  alike-kind = record {
    front = are-front;
    back = are-back;
    old_spans = λ xs ys s h. (h.0.old_are.balanced, h.0.old_are.named);
    new_spans = λ xs ys s h. (h.0.new_are.balanced, h.0.new_are.named);
    labels = λ s h. alike-labels (as_written bytes (new_events s)) (as_written bytes (old_events s)) (written-alike s h);
  }

pub all-links-lead-alike : AllLinksLeadAlike
all-links-lead-alike bytes s at label are none is = all-links bytes (Alikes bytes) (alike-kind bytes) s at label are none is

pub links-lead-alike : LinksLeadAlike
links-lead-alike bytes e s label are leads = same-label bytes (Alikes bytes) (alike-kind bytes) e s are label leads
