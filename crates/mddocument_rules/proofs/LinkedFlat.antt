-- Links, images and emphasis in place of brackets and runs: events of links come in turn, as a link is made only of a bracket behind which none was made.
use Rattle.mddocument_rules.proofs.Prelude.{◌≡◌, Bool, ◌∙◌, ℕ, true, false, cond, not, List, [], ◌∷◌, ◌++◌, ◌+◌, drop, length, map, refl, sym, ap, subst, inl, inr, cases_Bool, cond_both, false≢true, and_parts, or_cases, AllByRecursion, every-append, ◌&&◌, ◌||◌, Event, Exit, Name, same_name-true, Run, unlinked_event}
use Rattle.std.proofs.lemmas.Bool.{or_parts}
use Rattle.std.proofs.Math.Bool.{and-false}
use Rattle.markdown_base.specs.declared.event.Kind.TheVariants.{Enter}
use Rattle.markdown_base.specs.declared.event.Name.TheVariants.{Image, LabelEnd, LabelImage, LabelLink, LabelMarker, Link, Reference, Resource}
use Rattle.markdown_base.specs.Events.{is_enter, same_name}
use Rattle.mdinline_emphasis.specs.declared.pairs.Style.TheVariants.{Emphasis as OfEmphasis, Strong as OfStrong, Struck, StruckTwice}
use Rattle.mdinline_emphasis.specs.Runs.{runs_in}
use Rattle.mdinline_links.specs.Linked.{Part, SoFar, Waiting, added, around as spanned, as_data, emphasised_parts, ended, events, failed, is_bracket, is_named, is_run, is_tail, last_place, linked_from, linked_parts, made, opened, outermost_spans, part_of, run, taken, with_links}
use Rattle.mdinline_machine.specs.Brackets.{Bracket, before_link}
use Rattle.mddocument_laws.proofs.Chosen.{AreOther, chosen-behind}
use Rattle.mddocument_laws.proofs.EmphasisEvents.{IsOfStyle}
use Rattle.mddocument_laws.proofs.LinkEvents.{AnyRun}
use Rattle.mddocument_laws.proofs.LinkWalk.{AreParts, IsPart, every-part}
use Rattle.mddocument_rules.specs.BracketLaws.{folded, kinds_folded}
use Rattle.mddocument_rules.proofs.FlatLinks.{InTurn, IsFlat, IsLinkless, flat-both, flat-linkless, is_link, linkless-both, linkless-none}
use Rattle.mddocument_rules.proofs.HeldParts.{AreApart, Hold, data-other, inside-holds, inside_made, parts-hold, spanned-holds}

-- ---- what has no link
links-apart : AreApart is_link
links-apart = record {
  styles = λ s. elim s as (λ s. IsOfStyle (λ n. is_link n ≡ false) s) [ OfEmphasis ↦ (refl, refl, refl) | OfStrong ↦ (refl, refl, refl) | Struck ↦ (refl, refl, refl) | StruckTwice ↦ (refl, refl, refl) ];
  data_is = refl;
  label_is = refl;
  text_is = refl;
}

data-linkless : (es : List Event) → IsLinkless (as_data es)
data-linkless es = record { none = data-other is_link links-apart es }

-- ---- images and links, by what holds of lists without links, and of two lists if of both
module _ (B : List Event → Type 0) (both : (xs ys : List Event) → B xs → B ys → B (xs ++ ys)) (free : (es : List Event) → IsLinkless es → B es) where
  free-of : (es : List Event) → AreOther is_link es → B es
  free-of es h = free es (record { none = h })

  abbrev Held : List Part → Type 0
  Held ps = Hold is_link links-apart B both free-of ps

  all-parts-hold : (ps : List Part) → Held ps → B (emphasised_parts ps)
  all-parts-hold ps h = parts-hold is_link links-apart B both free-of ps h

  in-link-holds : (opener : List Event) (ps : List Part) (close tail : List Event) → IsLinkless opener → Held ps → IsLinkless close → IsLinkless tail → B (inside_made is_link links-apart B both free-of opener ps close tail)
  in-link-holds opener ps close tail o h c l = inside-holds is_link links-apart B both free-of opener ps close tail o.none h c.none l.none

  image-holds : (opener : List Event) (ps : List Part) (close tail : List Event) → is_named LabelImage opener ≡ true → IsLinkless opener → Held ps → IsLinkless close → IsLinkless tail → B (made opener ps close tail)
  image-holds opener ps close tail image o h c l =
      let inside = inside_made is_link links-apart B both free-of opener ps close tail in
      subst (λ t. B (spanned (cond t Image Link) inside)) (sym image) (spanned-holds is_link links-apart B both free-of Image inside refl (in-link-holds opener ps close tail o h c l))

abbrev pub AreFlat : List Part → Type 0
AreFlat ps = AreParts IsFlat AnyRun ps

abbrev pub AreLinkless : List Part → Type 0
AreLinkless ps = AreParts IsLinkless AnyRun ps

linkless-free : (es : List Event) → IsLinkless es → IsLinkless es
linkless-free es h = h

-- a link around what has none
link-flat : (es : List Event) → IsLinkless es → IsFlat (spanned Link es)
link-flat [] h = flat-linkless [] h
link-flat (e ∷ es) h =
    let first = unlinked_event Enter Link e.point in
    let last = unlinked_event Exit Link (last_place e.point es) in
    record { in_turn = subst (λ l. InTurn (first ∷ l)) (sym (chosen-behind is_link (e ∷ es) (last ∷ []) h.none)) (refl, refl, tt) }

link-made : (opener : List Event) (ps : List Part) (close tail : List Event) → is_named LabelImage opener ≡ false → IsLinkless opener → AreLinkless ps → IsLinkless close → IsLinkless tail → IsFlat (made opener ps close tail)
link-made opener ps close tail image o h c l =
    let inside = inside_made is_link links-apart IsLinkless linkless-both (free-of IsLinkless linkless-both linkless-free) opener ps close tail in
    subst (λ t. IsFlat (spanned (cond t Image Link) inside)) (sym image) (link-flat inside (in-link-holds IsLinkless linkless-both linkless-free opener ps close tail o h c l))

-- ---- brackets that wait, as they are remembered, and as the fold over spans has them
-- Of a bracket of a link that is active: what is behind it has no link. That is told by a type, from the last bracket to the first
record IsWaiting (b : Bracket) (w : Waiting) (Behind : Type 0) : Type 0 where
  image : is_named LabelImage w.opener ≡ b.image
  behind : b.image ≡ false → b.inactive ≡ false → Behind
  opener : IsLinkless w.opener
  before : AreFlat w.before

abbrev Agree : List Bracket → List Waiting → Type 0 → Type 0
Agree [] [] Behind = Unit {0}
Agree [] (w ∷ ws) Behind = ⊥
Agree (b ∷ bs) [] Behind = ⊥
Agree (b ∷ bs) (w ∷ ws) Behind = IsWaiting b w Behind × Agree bs ws (Behind × AreLinkless w.before)

weaken : (bs : List Bracket) (ws : List Waiting) {P Q : Type 0} → (P → Q) → Agree bs ws P → Agree bs ws Q
weaken [] [] f h = tt
weaken [] (w ∷ ws) f h = absurd h
weaken (b ∷ bs) [] f h = absurd h
weaken (b ∷ bs) (w ∷ ws) f h = (record { image = h.0.image; behind = λ i a. f (h.0.behind i a); opener = h.0.opener; before = h.0.before }, weaken bs ws (λ p. (f p.0, p.1)) h.1)

-- once a link is made, no bracket of a link is active
inactive : (bs : List Bracket) (ws : List Waiting) (P Q : Type 0) → Agree bs ws P → Agree (map before_link bs) ws Q
inactive [] [] P Q h = tt
inactive [] (w ∷ ws) P Q h = absurd h
inactive (b ∷ bs) [] P Q h = absurd h
inactive (b ∷ bs) (w ∷ ws) P Q h = (
  record { image = h.0.image; behind = λ i a. absurd (false≢true (sym (or_parts b.inactive (not b.image) a).1 ∙ ap not i)); opener = h.0.opener; before = h.0.before },
  inactive bs ws (P × AreLinkless w.before) (Q × AreLinkless w.before) h.1,
)

all-before : (bs : List Bracket) (ws : List Waiting) (P : Type 0) → Agree bs ws P → AllByRecursion (λ (w : Waiting). AreFlat w.before) ws
all-before [] [] P h = tt
all-before [] (w ∷ ws) P h = absurd h
all-before (b ∷ bs) [] P h = absurd h
all-before (b ∷ bs) (w ∷ ws) P h = (h.0.before, all-before bs ws (P × AreLinkless w.before) h.1)

-- ---- spans, by the brackets that wait before them
abbrev pub Ends : List Bracket → List Bracket → Type 0
Ends [] next = ⊥
Ends (b ∷ bs) next = (b.inactive ≡ false) × (next ≡ cond b.image bs (map before_link bs))

abbrev pub Opens : (count : ℕ) → List Bracket → List Event → List Bracket → Type 0
Opens count bs span next = (b : Bracket) × (next ≡ b ∷ bs) × (is_named LabelImage span ≡ b.image) × (b.count ≡ count)

-- An end is of the last bracket, which is active; a bracket waits; a `]` alone takes one away; and other spans leave them. Up to behind the span so many
-- events were read
pub record IsStep (count : ℕ) (bs : List Bracket) (span : List Event) (next : List Bracket) : Type 0 where
  pub ends : is_named LabelEnd span ≡ true → Ends bs next
  pub opens : is_named LabelEnd span ≡ false → is_bracket span ≡ true → Opens count bs span next
  pub fails : is_named LabelEnd span ≡ false → is_bracket span ≡ false → is_named LabelMarker span ≡ true → next ≡ drop 1 bs
  pub stays : is_named LabelEnd span ≡ false → is_bracket span ≡ false → is_named LabelMarker span ≡ false → next ≡ bs

-- these brackets wait before spans, up to which so many events were read, and those behind them
abbrev pub AreRead : (count : ℕ) → List Bracket → List (List Event) → List Bracket → Type 0
AreRead count bs [] last = bs ≡ last
AreRead count bs (span ∷ spans) last = (next : List Bracket) × IsStep (count + length span) bs span next × AreRead (count + length span) next spans last

-- ---- the fold
record Holds (bs : List Bracket) (z : SoFar) : Type 0 where
  waits : Agree bs z.waiting (AreLinkless z.behind)
  behind : AreFlat z.behind

flat-more : (ps qs : List Part) → AreFlat ps → AreFlat qs → AreFlat (ps ++ qs)
flat-more ps qs h k = every-append (IsPart IsFlat AnyRun) ps qs h k

linkless-more : (ps qs : List Part) → AreLinkless ps → AreLinkless qs → AreLinkless (ps ++ qs)
linkless-more ps qs h k = every-append (IsPart IsLinkless AnyRun) ps qs h k

data-flat : (es : List Event) → IsFlat (as_data es)
data-flat es = flat-linkless (as_data es) (data-linkless es)

holds-opened : (count : ℕ) (bs next : List Bracket) (span : List Event) (z : SoFar) → Opens count bs span next → IsLinkless span → Holds bs z → Holds next (opened span z)
holds-opened count bs next span z o l h =
    subst (λ n. Holds n (opened span z)) (sym o.1)
    (record { waits = (record { image = o.2; behind = λ i a. tt; opener = l; before = h.behind }, weaken bs z.waiting (λ p. (tt, p)) h.waits); behind = tt })

holds-failed : (bs : List Bracket) (span : List Event) (ws : List Waiting) (z : SoFar) → Agree bs ws (AreLinkless z.behind) → Holds bs z → Holds (drop 1 bs) (failed span ws z)
holds-failed [] span [] z a h =
    let one = events (as_data span) ∷ [] in
    record { waits = weaken [] z.waiting (λ p. linkless-more z.behind one p (data-linkless span, tt)) h.waits; behind = flat-more z.behind one h.behind (data-flat span, tt) }
holds-failed [] span (w ∷ ws) z a h = absurd a
holds-failed (b ∷ bs) span [] z a h = absurd a
holds-failed (b ∷ bs) span (w ∷ ws) z a h =
    let one = events (as_data span) ∷ [] in
    let more = events (as_data w.opener) ∷ (z.behind ++ one) in
    record {
      waits = weaken bs ws (λ p. linkless-more w.before more p.1 (data-linkless w.opener, linkless-more z.behind one p.0 (data-linkless span, tt))) a.1;
      behind = flat-more w.before more a.0.before (data-flat w.opener, flat-more z.behind one h.behind (data-flat span, tt));
    }

holds-ended : (bs next : List Bracket) (span tail : List Event) (ws : List Waiting) (z : SoFar) → Ends bs next → IsLinkless span → IsLinkless tail → Agree bs ws (AreLinkless z.behind) → Holds bs z → Holds next (ended span tail ws z)
holds-ended [] next span tail ws z e c l a h = absurd e
holds-ended (b ∷ bs) next span tail [] z e c l a h = absurd a
holds-ended (b ∷ bs) next span tail (w ∷ ws) z e c l a h =
    let whole = made w.opener z.behind span tail in
    elim (cases_Bool b.image) [
      | inl image ↦
          let opener = a.0.image ∙ image in
          let flat = image-holds IsFlat flat-both flat-linkless w.opener z.behind span tail opener a.0.opener h.behind c l in
          let same : next ≡ bs = e.1 ∙ ap (λ t. cond t bs (map before_link bs)) image in
          subst (λ n. Holds n (ended span tail (w ∷ ws) z)) (sym same)
          (record {
            waits = weaken bs ws (λ p. linkless-more w.before (events whole ∷ []) p.1 (image-holds IsLinkless linkless-both linkless-free w.opener z.behind span tail opener a.0.opener p.0 c l, tt)) a.1;
            behind = flat-more w.before (events whole ∷ []) a.0.before (flat, tt);
          })
      | inr link ↦
          let flat = link-made w.opener z.behind span tail (a.0.image ∙ link) a.0.opener (a.0.behind link e.0) c l in
          let same : next ≡ map before_link bs = e.1 ∙ ap (λ t. cond t bs (map before_link bs)) link in
          subst (λ n. Holds n (ended span tail (w ∷ ws) z)) (sym same) (record { waits = inactive bs ws (AreLinkless z.behind × AreLinkless w.before) (AreLinkless (w.before ++ events whole ∷ [])) a.1; behind = flat-more w.before (events whole ∷ []) a.0.before (flat, tt) })
    ]

-- a span that is a part of its own, or a run
pub part-is : (B : List Event → Type 0) (span : List Event) (rs : List Run) → B span → IsPart B AnyRun (part_of span rs).0
part-is B span [] h = h
part-is B span (r ∷ rs) h = cond_both (is_run span) (run r, rs) (events span, r ∷ rs) (λ (p : Part × List Run). IsPart B AnyRun p.0) (λ e. tt) (λ e. h)

holds-added : (bs : List Bracket) (span : List Event) (z : SoFar) → IsLinkless span → Holds bs z → Holds bs (added span z)
holds-added bs span z l h =
    let one = (part_of span z.runs).0 ∷ [] in
    record {
      waits = weaken bs z.waiting (λ p. linkless-more z.behind one p (part-is IsLinkless span z.runs l, tt)) h.waits;
      behind = flat-more z.behind one h.behind (part-is IsFlat span z.runs (flat-linkless span l), tt);
    }

holds-taken : (count : ℕ) (bs next : List Bracket) (span : List Event) (z : SoFar) → IsStep count bs span next → is_named LabelEnd span ≡ false → IsLinkless span → Holds bs z → Holds next (taken span z)
holds-taken count bs next span z s e l h =
    cond_both (is_bracket span) (opened span z) (cond (is_named LabelMarker span) (failed span z.waiting z) (added span z)) (Holds next)
    (λ b. holds-opened count bs next span z (s.opens e b) l h)
    (λ b. cond_both (is_named LabelMarker span) (failed span z.waiting z) (added span z) (Holds next)
    (λ m. subst (λ n. Holds n (failed span z.waiting z)) (sym (s.fails e b m)) (holds-failed bs span z.waiting z h.waits h))
    (λ m. subst (λ n. Holds n (added span z)) (sym (s.stays e b m)) (holds-added bs span z l h)))

-- a tail leaves the brackets
pub named-is : (n : Name) (span : List Event) → is_named n span ≡ true → (m : Name) → same_name n m ≡ false → is_named m span ≡ false
named-is n [] e m other = refl
named-is n (x ∷ xs) e m other =
    let named = (and_parts (is_enter x.kind) (same_name x.name n) e).1 in
    ap (λ k. is_enter x.kind && same_name k m) (same_name-true x.name n named) ∙ ap (λ t. is_enter x.kind && t) other ∙ and-false (is_enter x.kind)

pub tail-stays : (count : ℕ) (bs next : List Bracket) (span : List Event) → is_tail span ≡ true → IsStep count bs span next → next ≡ bs
tail-stays count bs next span t s = elim (or_cases (is_named Resource span) (is_named Reference span) t) [
  | inl r ↦ s.stays (named-is Resource span r LabelEnd refl) (λ i. named-is Resource span r LabelLink refl i || named-is Resource span r LabelImage refl i) (named-is Resource span r LabelMarker refl)
  | inr r ↦ s.stays (named-is Reference span r LabelEnd refl) (λ i. named-is Reference span r LabelLink refl i || named-is Reference span r LabelImage refl i) (named-is Reference span r LabelMarker refl)
]

linked : (spans : List (List Event)) (count : ℕ) (bs last : List Bracket) (z : SoFar) → AllByRecursion IsLinkless spans → AreRead count bs spans last → Holds bs z → Holds last (linked_from z spans)
linked [] count bs last z l r h = subst (λ b. Holds b z) r h
linked (span ∷ []) count bs last z l r h =
    subst (λ b. Holds b (linked_from z (span ∷ []))) r.2
    (cond_both (is_named LabelEnd span) (ended span [] z.waiting z) (taken span z) (Holds r.0) (λ e. holds-ended bs r.0 span [] z.waiting z (r.1.ends e) l.0 linkless-none h.waits h) (λ e. holds-taken (count + length span) bs r.0 span z r.1 e l.0 h))
linked (span ∷ next ∷ spans) count bs last z l r h =
    let more = count + length span in
    cond_both (is_named LabelEnd span) (cond (is_tail next) (linked_from (ended span next z.waiting z) spans) (linked_from (ended span [] z.waiting z) (next ∷ spans))) (linked_from (taken span z) (next ∷ spans)) (Holds last)
    (λ e. cond_both (is_tail next) (linked_from (ended span next z.waiting z) spans) (linked_from (ended span [] z.waiting z) (next ∷ spans)) (Holds last)
    (λ t. linked spans (more + length next) r.0 last (ended span next z.waiting z) l.1.1 (subst (λ n. AreRead (more + length next) n spans last) (tail-stays (more + length next) r.0 r.2.0 next t r.2.1) r.2.2) (holds-ended bs r.0 span next z.waiting z (r.1.ends e) l.0 l.1.0 h.waits h))
    (λ t. linked (next ∷ spans) more r.0 last (ended span [] z.waiting z) l.1 r.2 (holds-ended bs r.0 span [] z.waiting z (r.1.ends e) l.0 linkless-none h.waits h)))
    (λ e. linked (next ∷ spans) more r.0 last (taken span z) l.1 r.2 (holds-taken more bs r.0 span z r.1 e l.0 h))

-- So behind spans the brackets that wait are those that the fold has
agreed : (bs : List Bracket) (ws : List Waiting) (P : Type 0) → Agree bs ws P → map (λ (b : Bracket). b.image) bs ≡ map (λ (w : Waiting). is_named LabelImage w.opener) ws
agreed [] [] P h = refl
agreed [] (w ∷ ws) P h = absurd h
agreed (b ∷ bs) [] P h = absurd h
agreed (b ∷ bs) (w ∷ ws) P h = (λ i. sym h.0.image i ∷ agreed bs ws (P × AreLinkless w.before) h.1 i)

pub fold-agrees : (runs : List Run) (spans : List (List Event)) (last : List Bracket) → AllByRecursion IsLinkless spans → AreRead 0 [] spans last → map (λ (b : Bracket). b.image) last ≡ kinds_folded (folded runs spans)
fold-agrees runs spans last l r =
    let start : SoFar = record { waiting = []; behind = []; runs = runs } in
    let h = linked spans 0 [] last start l r (record { waits = tt; behind = tt }) in
    agreed last (folded runs spans).waiting (AreLinkless (folded runs spans).behind) h.waits

-- Links come in turn, if spans are read so
pub links-flat : (one : Bool) (bytes : List ℕ) (es : List Event) (last : List Bracket) → AllByRecursion IsLinkless (outermost_spans es) → AreRead 0 [] (outermost_spans es) last → IsFlat (with_links one bytes es)
links-flat one bytes es last l r =
    let start : SoFar = record { waiting = []; behind = []; runs = runs_in one bytes es } in
    let z = linked_from start (outermost_spans es) in
    let h = linked (outermost_spans es) 0 [] last start l r (record { waits = tt; behind = tt }) in
    all-parts-hold IsFlat flat-both flat-linkless (linked_parts (runs_in one bytes es) es) (every-part (IsPart IsFlat AnyRun) (λ (w : Waiting). AreFlat w.before) (λ w b. b) data-flat z.waiting z.behind (all-before last z.waiting (AreLinkless z.behind) h.waits) h.behind)
