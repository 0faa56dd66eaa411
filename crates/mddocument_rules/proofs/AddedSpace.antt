-- Texts with white space added behind white space, as prefixes are between the lines of a text: they are one label with the same without it.
use Rattle.mddocument_rules.proofs.Prelude.{◌≡◌, ◌∙◌, ℕ, Bool, true, false, cond, List, [], ◌∷◌, ◌++◌, ap, map, refl, subst, sym, ◌&&◌, Event, IsBalanced, empty}
use Rattle.std.specs.Char.{to_ascii_uppercase}
use Rattle.std.specs.Str.{is_utf8}
use Rattle.mdinline_labels.specs.Labels.{collapsed_behind, folded_text, is_label_white, normalised, shown_byte}
use Rattle.mddocument_link_targets.specs.declared.strings.Reading.TheVariants.{AsWritten}
use Rattle.mddocument_link_targets.specs.Strings.{as_written, given_at}
use Rattle.mddocument_rules.proofs.AlikeTexts.{AreWhite, white-passed}
use Rattle.mddocument_rules.proofs.Reworked.{AreMinor, IsKind, enter-gives}
use Rattle.mddocument_rules.specs.SegmentLaws.{AreWrittenAs, BeginsWithAnEnter, Segment, instead, new_events, old_events, one}

-- ---- texts
-- whether text ends in white space, by whether what is before it does
abbrev pub white_behind : Bool → List ℕ → Bool
white_behind apart [] = apart
white_behind apart (c ∷ cs) = white_behind (is_label_white c) cs

-- two texts are alike, behind any text, and also behind white space alone
abbrev pub AreAlikeBehind : Bool → (xs ys : List ℕ) → Type 0
AreAlikeBehind a xs ys = (begun apart : Bool) → (a ≡ true → apart ≡ true) → collapsed_behind begun apart xs ≡ collapsed_behind begun apart ys

-- so they are with one text before both
alike-before : (t : List ℕ) (a : Bool) (xs ys : List ℕ) → AreAlikeBehind (white_behind a t) xs ys → AreAlikeBehind a (t ++ xs) (t ++ ys)
alike-before [] a xs ys h begun apart k = h begun apart k
alike-before (c ∷ cs) a xs ys h begun apart k = by (is_label_white c) begun apart h (λ x k. alike-before cs x xs ys k)
  where
    by : (b begun apart : Bool) → AreAlikeBehind (white_behind b cs) xs ys → ((x : Bool) → AreAlikeBehind (white_behind x cs) xs ys → AreAlikeBehind x (cs ++ xs) (cs ++ ys)) → cond b (collapsed_behind begun true (cs ++ xs)) (cond (begun && apart) (32 ∷ (shown_byte c ++ collapsed_behind true false (cs ++ xs))) (shown_byte c ++ collapsed_behind true false (cs ++ xs)))
        ≡ cond b (collapsed_behind begun true (cs ++ ys)) (cond (begun && apart) (32 ∷ (shown_byte c ++ collapsed_behind true false (cs ++ ys))) (shown_byte c ++ collapsed_behind true false (cs ++ ys)))
    by true begun apart h more = more true h begun true (λ e. refl)
    by false begun apart h more =
        let same = more false h true false (λ e. e) in
        (λ i. cond (begun && apart) (32 ∷ (shown_byte c ++ same i)) (shown_byte c ++ same i))

-- white space at the front is nothing
front-apart : (apart : Bool) (xs : List ℕ) → collapsed_behind false apart xs ≡ collapsed_behind false false xs
front-apart apart [] = refl
front-apart apart (c ∷ cs) = refl

-- ---- events
-- whole spans of minor names that are written as white space, whatever comes behind them
pub record AreSpace (bytes : List ℕ) (es : List Event) : Type 0 where
  pub balanced : IsBalanced es
  pub begins : BeginsWithAnEnter es
  pub minor : AreMinor es
  pub text : List ℕ
  pub white : AreWhite text
  pub gives : AreWrittenAs bytes text es

module _ (bytes : List ℕ) where
  abbrev pub told : Event → List Event → List ℕ
  told e es = given_at bytes AsWritten e es

  -- Segments in which nothing but such spans is added, each where what is written ends in white space, and none in an innermost span
  abbrev pub IsSpaced : Bool → List Segment → Type 0
  IsSpaced a [] = Unit {0}
  IsSpaced a (one e ∷ s) = (told e (new_events s) ≡ told e (old_events s)) × IsSpaced (white_behind a (told e (new_events s))) s
  IsSpaced a (instead xs ys ∷ s) = (xs ≡ []) × (a ≡ true) × AreSpace bytes ys × IsSpaced true s

  abbrev pub HaveSpace : List Segment → Type 0
  HaveSpace s = (a : Bool) × IsSpaced a s

  spaced-alike : (s : List Segment) (a : Bool) → IsSpaced a s → AreAlikeBehind a (as_written bytes (new_events s)) (as_written bytes (old_events s))
  spaced-alike [] a h begun apart k = refl
  spaced-alike (one e ∷ s) a h begun apart k =
      let t = told e (new_events s) in
      alike-before t a (as_written bytes (new_events s)) (as_written bytes (old_events s)) (spaced-alike s (white_behind a t) h.1) begun apart k
      ∙ ap (λ l. collapsed_behind begun apart (l ++ as_written bytes (old_events s))) h.0
  spaced-alike (instead xs ys ∷ s) a h begun apart k =
      let p = h.2 in
      let behind : apart ≡ true = k h.1 in
      let new = as_written bytes (new_events s) in
      let old = as_written bytes (old_events s) in
      ap (collapsed_behind begun apart) (p.gives (new_events s))
      ∙ ap (λ b. collapsed_behind begun b (p.text ++ new)) behind
      ∙ white-passed p.text new p.white begun
      ∙ spaced-alike s true h.3 begun true (λ e. refl)
      ∙ ap (λ b. collapsed_behind begun b old) (sym behind)
      ∙ ap (λ l. collapsed_behind begun apart (as_written bytes (l ++ old_events s))) (sym h.0)

  spaced-labels : (s : List Segment) → HaveSpace s → normalised (as_written bytes (new_events s)) ≡ normalised (as_written bytes (old_events s))
  spaced-labels s (a, h) =
      let new = as_written bytes (new_events s) in
      let old = as_written bytes (old_events s) in
      let same : collapsed_behind false false new ≡ collapsed_behind false false old = sym (front-apart a new) ∙ spaced-alike s a h false a (λ e. e) ∙ front-apart a old in
      ap (λ together. cond (is_utf8 together) (folded_text together) (map to_ascii_uppercase together)) same

  -- ---- parts of them
  given-front : (e : Event) (s b : List Segment) → (x : Bool) → told e (new_events (s ++ b)) ≡ told e (old_events (s ++ b)) → IsSpaced x s → told e (new_events s) ≡ told e (old_events s)
  given-front e [] b x h k = refl
  given-front e (one f ∷ s) b x h k = refl
  given-front e (instead xs ys ∷ s) b x h k =
      let none = enter-gives bytes e ys (new_events s) k.2.begins in
      let whole : told e (xs ++ old_events (s ++ b)) ≡ [] = sym h ∙ enter-gives bytes e ys (new_events (s ++ b)) k.2.begins in
      none ∙ sym (by s (ap (λ l. told e (l ++ old_events (s ++ b))) (sym k.0) ∙ whole) k.3) ∙ ap (λ l. told e (l ++ old_events s)) (sym k.0)
    where
      by : (s : List Segment) → told e (old_events (s ++ b)) ≡ [] → IsSpaced true s → told e (old_events s) ≡ []
      by [] h k = refl
      by (one f ∷ s) h k = h
      by (instead us vs ∷ s) h k = ap (λ l. told e (l ++ old_events s)) k.0 ∙ by s (ap (λ l. told e (l ++ old_events (s ++ b))) (sym k.0) ∙ h) k.3

  spaced-front : (a b : List Segment) (x : Bool) → IsSpaced x (a ++ b) → IsSpaced x a
  spaced-front [] b x h = tt
  spaced-front (one e ∷ []) b x h = (refl, tt)
  spaced-front (one e ∷ one f ∷ a) b x h = (h.0, spaced-front (one f ∷ a) b (white_behind x (told e (new_events (one f ∷ a)))) h.1)
  spaced-front (one e ∷ instead xs ys ∷ a) b x h =
      let space = h.1.2 in
      let same : told e (ys ++ new_events (a ++ b)) ≡ told e (ys ++ new_events a) = enter-gives bytes e ys (new_events (a ++ b)) space.begins ∙ sym (enter-gives bytes e ys (new_events a) space.begins) in
      let y = white_behind x (told e (ys ++ new_events (a ++ b))) in
      let more = spaced-front (instead xs ys ∷ a) b y h.1 in
      (given-front e (instead xs ys ∷ a) b y h.0 more, subst (λ t. IsSpaced (white_behind x t) (instead xs ys ∷ a)) same more)
  spaced-front (instead xs ys ∷ a) b x h = (h.0, h.1, h.2, spaced-front a b true h.3)

  spaced-back : (a b : List Segment) (x : Bool) → IsSpaced x (a ++ b) → HaveSpace b
  spaced-back [] b x h = (x, h)
  spaced-back (one e ∷ a) b x h = spaced-back a b (white_behind x (told e (new_events (a ++ b)))) h.1
  spaced-back (instead xs ys ∷ a) b x h = spaced-back a b true h.3

  pub spaced-kind : IsKind bytes HaveSpace
  spaced-kind = record {
    front = λ a b h. (h.0, spaced-front a b h.0 h.1);
    back = λ a b h. spaced-back a b h.0 h.1;
    old_spans = λ xs ys s h. (subst IsBalanced (sym h.1.0) empty, subst AreMinor (sym h.1.0) tt);
    new_spans = λ xs ys s h. (h.1.2.balanced, h.1.2.minor);
    labels = spaced-labels;
  }
