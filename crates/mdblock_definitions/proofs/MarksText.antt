-- What the parts of a definition are in its text.
use Rattle.std.proofs.Common.{◌≡◌, ◌⊎◌, inl, inr, ℕ, suc, ◌+◌, ◌-◌, ◌≤◌, Bool, true, false, cond, List, [], ◌∷◌, Option, Some, None, drop, length, take, refl, sym, ap, ◌∙◌, subst, arith, length-drop, add-one}
use Rattle.std.specs.Prelude.{◌==◌, ◌&&◌, ◌||◌, not}
use Rattle.std.specs.List.{prefix_len}
use Rattle.std.specs.Option.{option_map, option_and_then, option_or}
use Rattle.std.proofs.lemmas.Bool.{eqb-true, false≢true, and_parts, eq-eqb}
use Rattle.std.proofs.lemmas.Bool.Decides.{nat_tests}
use Rattle.std.proofs.lemmas.List.{drop-drop}
use Rattle.std.proofs.lemmas.Option.{cond_some}
use Rattle.std.proofs.lemmas.List.Sums.{prefix_len-le-length}
use Rattle.mdinline_labels.proofs.Fronts.{passed}
use Rattle.mdinline_labels.specs.declared.definitions.Definition.{Definition}
use Rattle.mdinline_labels.specs.declared.definitions.Stretch.{Stretch}
use Rattle.mdinline_labels.specs.Definitions.{definition_at, definitions, definitions_from, destination_at, end, end_of, ended, label_at, line_left, stretch_at, title_at, titled_or_not}
use Rattle.mdinline_labels.specs.Labels.{hides, is_label}
use Rattle.mdinline_labels.specs.Tails.{bare_behind, begins_with, destination_size, enclosed_size, gap, is_plain, is_white, label_size, line_ends, marked_size, one_more, raw_size, title_end, title_size}
use Rattle.mdinline_labels.proofs.Sizes.{raw-within, begins-some}

-- a byte is in a line
abbrev pub in_line : ℕ → Bool
in_line b = not (b == 10)

-- how many bytes are left of the line
abbrev pub run : List ℕ → ℕ
run bs = prefix_len in_line bs

-- the parts of a definition, by its text: marks are in lines, and white space has one line ending at most
pub record TextGap (size : ℕ) (text : List ℕ) : Type 0 where
  pub within : size ≤ length text
  pub lines : size ≤ run text + (1 + run (drop (run text + 1) text))

pub record TextMarks (size : ℕ) (text : List ℕ) : Type 0 where
  pub two : 2 ≤ size
  pub first : 1 ≤ run text
  pub last : 1 ≤ run (drop (size - 1) text)

pub record TextDestination (size : ℕ) (text : List ℕ) : Type 0 where
  pub within : size ≤ length text
  pub some : 1 ≤ size
  pub marks : begins_with 60 text ≡ true → TextMarks size text

abbrev pub TextTitle : Option Stretch → (from : ℕ) → List ℕ → Type 0
TextTitle None from text = Unit {0}
TextTitle (Some s) from text = (from ≤ s.from) × TextGap (s.from - from) (drop from text) × TextMarks s.size (drop s.from text)

pub record TextDefinition (d : Definition) (text : List ℕ) : Type 0 where
  pub gap : TextGap d.label.from text
  pub label : TextMarks d.label.size (drop d.label.from text)
  pub colon : 1 ≤ run (drop (end d.label) text)
  pub behind : end d.label + 1 ≤ d.destination.from
  pub white : TextGap (d.destination.from - (end d.label + 1)) (drop (end d.label + 1) text)
  pub destination : TextDestination d.destination.size (drop d.destination.from text)
  pub title : TextTitle d.title (end d.destination) text
  pub ends : end_of d.title d.destination ≤ d.size
  pub left : TextGap (d.size - end_of d.title d.destination) (drop (end_of d.title d.destination) text)
  pub within : d.size ≤ length text
  pub last : run (drop d.size text) ≡ 0

-- ---- options

mapped : {A B : Type 0} (f : A → B) (o : Option A) (b : B) → option_map f o ≡ Some b → (a : A) × (o ≡ Some a) × (f a ≡ b)
mapped f None b e = absurd (cc)
mapped f (Some a) b e = (a, refl, cc)

then : {A B : Type 0} (f : A → Option B) (o : Option A) (b : B) → option_and_then f o ≡ Some b → (a : A) × (o ≡ Some a) × (f a ≡ Some b)
then f None b e = absurd (cc)
then f (Some a) b e = (a, refl, e)

-- ---- lines of a text

white-runs : (bs : List ℕ) → prefix_len is_white bs ≤ run bs
white-runs [] = omega arith
white-runs (b ∷ bs) = by (is_white b) refl (white-runs bs)
  where
    by : (w : Bool) → is_white b ≡ w → prefix_len is_white bs ≤ run bs → cond w (1 + prefix_len is_white bs) 0 ≤ cond (not (b == 10)) (1 + run bs) 0
    by false e h = omega arith
    by true e h = let other : (b == 10) ≡ false = grind (arith, nat_tests) in rw other (omega arith)

-- a byte that is no line feed
mark-runs : (c : ℕ) (bs : List ℕ) → begins_with c bs ≡ true → (c == 10) ≡ false → 1 ≤ run bs
mark-runs c [] e o = absurd (false≢true e)
mark-runs c (b ∷ bs) e o =
    let other : (b == 10) ≡ false = ap (λ n. n == 10) (eqb-true b c e) ∙ o in
    rw other (omega arith)

-- a line of white space
white-line : (bs : List ℕ) → begins_with 10 (drop (prefix_len is_white bs) bs) ≡ true → run bs ≡ prefix_len is_white bs
white-line [] e = refl
white-line (b ∷ bs) e = by (is_white b) refl (white-line bs) e
  where
    by : (w : Bool) → is_white b ≡ w → (begins_with 10 (drop (prefix_len is_white bs) bs) ≡ true → run bs ≡ prefix_len is_white bs)
        → begins_with 10 (drop (cond w (1 + prefix_len is_white bs) 0) (b ∷ bs)) ≡ true → cond (not (b == 10)) (1 + run bs) 0 ≡ cond w (1 + prefix_len is_white bs) 0
    by false w h k = ap (λ v. cond (not v) (1 + run bs) 0) k
    by true w h k =
        let other : (b == 10) ≡ false = grind (arith, nat_tests) in
        let on : 1 + prefix_len is_white bs ≡ suc (prefix_len is_white bs) = omega arith in
        ap (λ v. cond (not v) (1 + run bs) 0) other ∙ ap (λ n. 1 + n) (h (sym (ap (λ n. begins_with 10 (drop n (b ∷ bs))) on) ∙ k))

gap-fits : (bs : List ℕ) → TextGap (gap bs) bs
gap-fits bs = by (begins_with 10 (drop n bs)) refl
  where
    n : ℕ
    n = prefix_len is_white bs

    by : (b : Bool) → begins_with 10 (drop n bs) ≡ b → TextGap (cond b (n + 1 + prefix_len is_white (drop (n + 1) bs)) n) bs
    by false e = record { within = prefix_len-le-length is_white bs; lines = omega (arith, white-runs bs) }
    by true e =
        let same : run bs ≡ n = white-line bs e in
        let m = prefix_len is_white (drop (n + 1) bs) in
        let few : m ≤ length (drop (n + 1) bs) = prefix_len-le-length is_white (drop (n + 1) bs) in
        let there : 1 ≤ length (drop n bs) = begins-some 10 (drop n bs) e in
        let more : m ≤ run (drop (n + 1) bs) = white-runs (drop (n + 1) bs) in
        let runs : run (drop (run bs + 1) bs) ≡ run (drop (n + 1) bs) = ap (λ k. run (drop (k + 1) bs)) same in
        record { within = omega (arith, few, there, length-drop n bs, length-drop (n + 1) bs); lines = omega (arith, same, more, runs) }

white-fits : (n : ℕ) (bs : List ℕ) → n ≡ prefix_len is_white bs → TextGap n bs
white-fits n bs e = record { within = omega (arith, e, prefix_len-le-length is_white bs); lines = omega (arith, e, white-runs bs) }

-- ---- marks

plain-is : (wanted : ℕ) (hidden : Bool) (b : ℕ) → is_plain wanted hidden b ≡ true → (b == wanted) ≡ true
plain-is wanted hidden b e = (and_parts (b == wanted) (not hidden) e).0

pub marked-end : (first last : ℕ) (bare hidden : Bool) (bs : List ℕ) (n : ℕ) → marked_size first last bare hidden bs ≡ Some n → begins_with last (drop n bs) ≡ true
marked-end first last bare hidden [] n e = absurd (cc)
marked-end first last bare hidden (b ∷ bs) n e =
    by (λ m. marked-end first last (bare_behind bare b) (hides hidden b) bs m) (is_plain last hidden b) refl (is_plain first hidden b || (bare && (b == 10))) e
  where
    by : ((m : ℕ) → marked_size first last (bare_behind bare b) (hides hidden b) bs ≡ Some m → begins_with last (drop m bs) ≡ true) → (x : Bool) → is_plain last hidden b ≡ x → (y : Bool) → cond x (Some 0) (cond y None (one_more (marked_size first last (bare_behind bare b) (hides hidden b) bs))) ≡ Some n → begins_with last (drop n (b ∷ bs)) ≡ true
    by more true p y h = let zero-is : 0 ≡ n = cc in ap (λ k. begins_with last (drop k (b ∷ bs))) (sym zero-is) ∙ plain-is last hidden b p
    by more false p true h = absurd (cc)
    by more false p false h =
        let m = mapped (λ k. k + 1) (marked_size first last (bare_behind bare b) (hides hidden b) bs) n h in
        ap (λ k. begins_with last (drop k (b ∷ bs))) (sym m.2 ∙ add-one m.0) ∙ more m.0 m.1

enclosed-end : (hidden : Bool) (bs : List ℕ) (n : ℕ) → enclosed_size hidden bs ≡ Some n → begins_with 62 (drop n bs) ≡ true
enclosed-end hidden [] n e = absurd (cc)
enclosed-end hidden (b ∷ bs) n e = by (λ m. enclosed-end (hides hidden b) bs m) (is_plain 62 hidden b) refl (is_plain 60 hidden b || (b == 10)) e
  where
    by : ((m : ℕ) → enclosed_size (hides hidden b) bs ≡ Some m → begins_with 62 (drop m bs) ≡ true) → (x : Bool) → is_plain 62 hidden b ≡ x → (y : Bool) → cond x (Some 0) (cond y None (one_more (enclosed_size (hides hidden b) bs))) ≡ Some n → begins_with 62 (drop n (b ∷ bs)) ≡ true
    by more true p y h = let zero-is : 0 ≡ n = cc in ap (λ k. begins_with 62 (drop k (b ∷ bs))) (sym zero-is) ∙ plain-is 62 hidden b p
    by more false p true h = absurd (cc)
    by more false p false h =
        let m = mapped (λ k. k + 1) (enclosed_size (hides hidden b) bs) n h in
        ap (λ k. begins_with 62 (drop k (b ∷ bs))) (sym m.2 ∙ add-one m.0) ∙ more m.0 m.1

-- a stretch between two marks, by what comes behind the first
marks-fit : (a c m : ℕ) (bs : List ℕ) → begins_with a bs ≡ true → (a == 10) ≡ false → begins_with c (drop (m + 1) bs) ≡ true → (c == 10) ≡ false → TextMarks (m + 2) bs
marks-fit a c m bs first f last l =
    let at : m + 2 - 1 ≡ m + 1 = omega arith in
    record { two = omega arith; first = mark-runs a bs first f; last = subst (λ k. 1 ≤ run (drop k bs)) (sym at) (mark-runs c (drop (m + 1) bs) last l) }

-- ---- parts

pub record LabelIs (s : Stretch) (text : List ℕ) : Type 0 where
  pub gap : TextGap s.from text
  pub label : TextMarks s.size (drop s.from text)
  pub colon : begins_with 58 (drop (end s) text) ≡ true

label-is : (text : List ℕ) (s : Stretch) → label_at text ≡ Some s → LabelIs s text
label-is text s e = by (begins_with 91 (drop from text)) refl e
  where
    from : ℕ
    from = prefix_len is_white text

    found : ℕ → Option Stretch
    found n = cond (is_label (take n (drop (from + 1) text)) && begins_with 58 (drop (from + n + 2) text)) (Some (stretch_at from (n + 2))) None

    by : (b : Bool) → begins_with 91 (drop from text) ≡ b → cond b (option_and_then found (label_size (drop (from + 1) text))) None ≡ Some s → LabelIs s text
    by false p h = absurd (cc)
    by true p h =
        let n = then found (label_size (drop (from + 1) text)) s h in
        let is = cond_some (is_label (take n.0 (drop (from + 1) text)) && begins_with 58 (drop (from + n.0 + 2) text)) (stretch_at from (n.0 + 2)) s n.2 in
        let colon = (and_parts (is_label (take n.0 (drop (from + 1) text))) (begins_with 58 (drop (from + n.0 + 2) text)) is.0).1 in
        let last = marked-end 91 93 false false (drop (from + 1) text) n.0 n.1 in
        let place : drop n.0 (drop (from + 1) text) ≡ drop (n.0 + 1) (drop from text) = drop-drop n.0 (from + 1) text ∙ ap (λ k. drop k text) (omega arith) ∙ sym (drop-drop (n.0 + 1) from text) in
        subst (λ (x : Stretch). LabelIs x text) is.1
        (record {
          gap = white-fits from text refl;
          label = marks-fit 91 93 n.0 (drop from text) p refl (sym (ap (begins_with 93) place) ∙ last) refl;
          colon = ap (λ k. begins_with 58 (drop k text)) (omega arith) ∙ colon;
        })

destination-fits : (bs : List ℕ) (n : ℕ) → destination_size bs ≡ Some n → TextDestination n bs
destination-fits bs n e = by (begins_with 60 bs) refl e
  where
    by : (b : Bool) → begins_with 60 bs ≡ b → cond b (option_map (λ n. n + 2) (enclosed_size false (drop 1 bs))) (option_and_then (λ n. cond (n == 0) None (Some n)) (raw_size 0 false bs)) ≡ Some n → TextDestination n bs
    by true p h =
        let m = mapped (λ k. k + 2) (enclosed_size false (drop 1 bs)) n h in
        let last = enclosed-end false (drop 1 bs) m.0 m.1 in
        let place : drop m.0 (drop 1 bs) ≡ drop (m.0 + 1) bs = drop-drop m.0 1 bs ∙ ap (λ k. drop k bs) (omega arith) in
        let fits : TextMarks n bs = subst (λ k. TextMarks k bs) m.2 (marks-fit 60 62 m.0 bs p refl (sym (ap (begins_with 62) place) ∙ last) refl) in
        let there : 1 ≤ length (drop m.0 (drop 1 bs)) = begins-some 62 (drop m.0 (drop 1 bs)) last in
        record { within = omega (arith, there, ap (λ (l : List ℕ). length l) place, length-drop (m.0 + 1) bs, m.2); some = omega (arith, m.2); marks = λ q. fits }
    by false p h =
        let m = then (λ k. cond (k == 0) None (Some k)) (raw_size 0 false bs) n h in
        let is : (n ≡ m.0) × (1 ≤ n) = some-is (m.0 == 0) refl m.2 in
        record { within = omega (arith, is.0, raw-within 0 false bs m.0 m.1); some = is.1; marks = λ q. absurd (false≢true (sym p ∙ q)) }
      where
        some-is : {k : ℕ} (b : Bool) → (k == 0) ≡ b → cond b None (Some k) ≡ Some n → (n ≡ k) × (1 ≤ n)
        some-is true z h = absurd (cc)
        some-is {k} false z h = let same : k ≡ n = cc in (sym same, grind (arith, nat_tests))

title-marks : (b c : ℕ) → title_end b ≡ Some c → ((b == 10) ≡ false) × ((c == 10) ≡ false)
title-marks b c e = by ((b == 34) || (b == 39)) refl (b == 40) refl e
  where
    by : (x : Bool) → ((b == 34) || (b == 39)) ≡ x → (y : Bool) → (b == 40) ≡ y → cond x (Some b) (cond y (Some 41) None) ≡ Some c → ((b == 10) ≡ false) × ((c == 10) ≡ false)
    by true p y q h = let same : b ≡ c = cc in let other : (b == 10) ≡ false = grind (arith, nat_tests) in (other, ap (λ k. k == 10) (sym same) ∙ other)
    by false p true q h = let same : 41 ≡ c = cc in (ap (λ k. k == 10) (eqb-true b 40 q), ap (λ k. k == 10) (sym same))
    by false p false q h = absurd (cc)

title-fits : (bs : List ℕ) (n : ℕ) → title_size bs ≡ Some n → TextMarks n bs
title-fits [] n e = absurd (cc)
title-fits (b ∷ bs) n e =
    let close = then (λ c. option_map (λ n. n + 2) (marked_size b c false false bs)) (title_end b) n e in
    let m = mapped (λ n. n + 2) (marked_size b close.0 false false bs) n close.2 in
    let other = title-marks b close.0 close.1 in
    let last = marked-end b close.0 false false bs m.0 m.1 in
    subst (λ k. TextMarks k (b ∷ bs)) m.2 (marks-fit b close.0 m.0 (b ∷ bs) (eq-eqb b b refl) other.0 (ap (λ k. begins_with close.0 (drop k (b ∷ bs))) (add-one m.0) ∙ last) other.1)

-- a title, if there is one
title-is : (text : List ℕ) (at : ℕ) → TextTitle (title_at text at) at text
title-is text at = by (gap (drop at text) == 0) (title_size (drop (at + gap (drop at text)) text)) refl
  where
    by : (b : Bool) (o : Option ℕ) → title_size (drop (at + gap (drop at text)) text) ≡ o → TextTitle (cond b None (option_map (stretch_at (at + gap (drop at text))) o)) at text
    by true o e = tt
    by false None e = tt
    by false (Some n) e =
        let white : at + gap (drop at text) - at ≡ gap (drop at text) = omega arith in
        (omega arith, subst (λ k. TextGap k (drop at text)) (sym white) (gap-fits (drop at text)), title-fits (drop (at + gap (drop at text)) text) n e)

-- the end of a definition
pub record EndIs (title : Option Stretch) (destination label : Stretch) (text : List ℕ) (d : Definition) : Type 0 where
  pub label_is : d.label ≡ label
  pub destination_is : d.destination ≡ destination
  pub title_is : d.title ≡ title
  pub ends : end_of title destination ≤ d.size
  pub left : TextGap (d.size - end_of title destination) (drop (end_of title destination) text)
  pub last : run (drop d.size text) ≡ 0

line-ends-runs : (bs : List ℕ) → line_ends bs ≡ true → run bs ≡ 0
line-ends-runs [] e = refl
line-ends-runs (b ∷ bs) e = ap (λ v. cond (not v) (1 + run bs) 0) e

ended-is : (text : List ℕ) (label destination : Stretch) (title : Option Stretch) (d : Definition) → ended text label destination title ≡ Some d → EndIs title destination label text d
ended-is text label destination title d e =
    let at = end_of title destination in
    let ys = drop at text in
    let m = mapped (λ n. record { label = label; destination = destination; title = title; size = at + n }) (line_left ys) d e in
    let parts = cond_some (line_ends (drop (prefix_len is_white ys) ys)) (prefix_len is_white ys) m.0 m.1 in
    let n = m.0 in
    let size : at + n - at ≡ prefix_len is_white ys = omega (arith, parts.1) in
    let place : drop (prefix_len is_white ys) ys ≡ drop (at + n) text = drop-drop (prefix_len is_white ys) at text ∙ ap (λ k. drop (at + k) text) parts.1 in
    subst (λ (x : Definition). EndIs title destination label text x) m.2
    (record {
      label_is = refl;
      destination_is = refl;
      title_is = refl;
      ends = omega arith;
      left = white-fits (at + n - at) ys size;
      last = ap run (sym place) ∙ line-ends-runs (drop (prefix_len is_white ys) ys) parts.0;
    })

or-some : {A : Type 0} (a b : Option A) (d : A) → option_or a b ≡ Some d → (a ≡ Some d) ⊎ (b ≡ Some d)
or-some None b d e = inr e
or-some (Some x) b d e = inl e

-- a stretch with marks ends in the text
marks-within : (n : ℕ) (at : ℕ) (text : List ℕ) → TextMarks n (drop at text) → at + n ≤ length text
marks-within n at text h =
    let some : 1 ≤ run (drop (n - 1) (drop at text)) = h.last in
    let few : run (drop (n - 1) (drop at text)) ≤ length (drop (n - 1) (drop at text)) = prefix_len-le-length in_line (drop (n - 1) (drop at text)) in
    omega (arith, h.two, some, few, length-drop (n - 1) (drop at text), length-drop at text)

pub record DestinationIs (s : Stretch) (at : ℕ) (text : List ℕ) : Type 0 where
  pub behind : at ≤ s.from
  pub gap : TextGap (s.from - at) (drop at text)
  pub destination : TextDestination s.size (drop s.from text)
  pub within : end s ≤ length text

destination-is : (text : List ℕ) (at : ℕ) (s : Stretch) → destination_at text at ≡ Some s → DestinationIs s at text
destination-is text at s e =
    let from = at + gap (drop at text) in
    let n = mapped (stretch_at from) (destination_size (drop from text)) s e in
    let white : from - at ≡ gap (drop at text) = omega arith in
    let fits = destination-fits (drop from text) n.0 n.1 in
    subst (λ (x : Stretch). DestinationIs x at text) n.2
    (record {
      behind = omega arith;
      gap = subst (λ k. TextGap k (drop at text)) (sym white) (gap-fits (drop at text));
      destination = fits;
      within = omega (arith, fits.within, fits.some, length-drop from text);
    })

title-within : (title : Option Stretch) (destination : Stretch) (text : List ℕ) → end destination ≤ length text → TextTitle title (end destination) text → end_of title destination ≤ length text
title-within None destination text w h = w
title-within (Some s) destination text w h = marks-within s.size s.from text h.2

whole : (text : List ℕ) (d : Definition) (label destination : Stretch) (title : Option Stretch) → LabelIs label text → DestinationIs destination (end label + 1) text → TextTitle title (end destination) text → EndIs title destination label text d
    → TextDefinition d text
whole text d label destination title l de ti e =
    let title-ends : end_of title destination ≤ length text = title-within title destination text de.within ti in
    let ends : end_of d.title d.destination ≡ end_of title destination = λ k. end_of (e.title_is k) (e.destination_is k) in
    record {
      gap = subst (λ (s : Stretch). TextGap s.from text) (sym e.label_is) l.gap;
      label = subst (λ (s : Stretch). TextMarks s.size (drop s.from text)) (sym e.label_is) l.label;
      colon = subst (λ (s : Stretch). 1 ≤ run (drop (end s) text)) (sym e.label_is) (mark-runs 58 (drop (end label) text) l.colon refl);
      behind = omega (arith, de.behind, ap (λ (s : Stretch). end s) e.label_is, ap (λ (s : Stretch). s.from) e.destination_is);
      white = subst (λ (s : Stretch). TextGap (d.destination.from - (end s + 1)) (drop (end s + 1) text)) (sym e.label_is) (subst (λ (s : Stretch). TextGap (s.from - (end label + 1)) (drop (end label + 1) text)) (sym e.destination_is) de.gap);
      destination = subst (λ (s : Stretch). TextDestination s.size (drop s.from text)) (sym e.destination_is) de.destination;
      title = subst (λ (o : Option Stretch). TextTitle o (end d.destination) text) (sym e.title_is) (subst (λ (s : Stretch). TextTitle title (end s) text) (sym e.destination_is) ti);
      ends = omega (arith, e.ends, ends);
      left = subst (λ k. TextGap (d.size - k) (drop k text)) (sym ends) e.left;
      within = omega (arith, e.left.within, e.ends, title-ends, length-drop (end_of title destination) text);
      last = e.last;
    }

pub fits : (text : List ℕ) (d : Definition) → definition_at text ≡ Some d → TextDefinition d text
fits text d e =
    let behind = λ (label : Stretch). option_and_then (λ destination. titled_or_not text label destination (title_at text (end destination))) (destination_at text (end label + 1)) in
    let l = then behind (label_at text) d e in
    let de = then (λ destination. titled_or_not text l.0 destination (title_at text (end destination))) (destination_at text (end l.0 + 1)) d l.2 in
    let label = label-is text l.0 l.1 in
    let destination = destination-is text (end l.0 + 1) de.0 de.1 in
    let title = title_at text (end de.0) in
    elim (or-some (ended text l.0 de.0 title) (ended text l.0 de.0 None) d de.2) [
      | inl h ↦ whole text d l.0 de.0 title label destination (title-is text (end de.0)) (ended-is text l.0 de.0 title d h)
      | inr h ↦ whole text d l.0 de.0 None label destination tt (ended-is text l.0 de.0 None d h)
    ]

-- the first of the definitions of a text, and those in the lines behind it
pub next-definition : (text : List ℕ) (d : Definition) (ds : List Definition) → d ∷ ds ≡ definitions text → (definition_at text ≡ Some d) × (ds ≡ definitions (drop (d.size + 1) text))
next-definition [] d ds e = absurd (cc)
next-definition (b ∷ bs) d ds e = by (definition_at (b ∷ bs)) refl e
  where
    by : (o : Option Definition) → definition_at (b ∷ bs) ≡ o → d ∷ ds ≡ elim o as (λ _. List Definition) [ None ↦ [] | Some x ↦ x ∷ definitions_from x.size bs ]
        → (definition_at (b ∷ bs) ≡ Some d) × (ds ≡ definitions (drop (d.size + 1) (b ∷ bs)))
    by None q h = absurd (cc)
    by (Some x) q h =
        let same : x ≡ d = cc in
        let rest : ds ≡ definitions_from x.size bs = cc in
        (q ∙ ap (λ y. Some y) same, rest ∙ passed x.size bs ∙ ap (λ (y : Definition). definitions (drop y.size bs)) same ∙ ap (λ n. definitions (drop n (b ∷ bs))) (sym (add-one d.size)))

pub none-left : (text : List ℕ) → [] ≡ text → definitions text ≡ []
none-left text e = ap (λ l. definitions l) (sym e)
