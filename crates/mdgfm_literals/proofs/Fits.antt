-- Literals of events that go forward: they rise, and each begins in a span of text and ends before what is no text.
use Rattle.std.proofs.Common.{◌≡◌, ℕ, zero, suc, ◌+◌, ◌-◌, ◌<◌, ◌≤◌, ◌++◌, Bool, true, false, cond, List, [], ◌∷◌, length, drop, get_or, min, refl, sym, ap, subst, ◌∙◌, arith, eqb-true}
use Rattle.std.proofs.lemmas.Bool.{false≢true}
use Rattle.std.proofs.lemmas.List.{get_or-drop, get_or-take, length-drop, length-take}
use Rattle.std.specs.List.{AllByRecursion}
use Rattle.std.specs.Prelude.{◌==◌, ◌&&◌, slice_index, slice_range}
use Rattle.markdown_base.specs.declared.event.Event.{Event}
use Rattle.markdown_base.specs.declared.event.Point.{Point}
use Rattle.markdown_base.specs.Events.{is_enter}
use Rattle.markdown_base.specs.Places.{follows_cr}
use Rattle.markdown_base.proofs.Common.{and-right, every-append, every-map}
use Rattle.markdown_base.proofs.Facts.Bools.{and-left}
use Rattle.mdgfm_literals.specs.declared.stretches.Reach.{Reach}
use Rattle.mdgfm_literals.specs.declared.texts.Literal.{Literal}
use Rattle.mdgfm_literals.specs.Laws.{AreLiterals}
use Rattle.mdgfm_events.specs.Spans.{span_end, span_size}
use Rattle.mdgfm_literals.specs.Stretches.{before_stretch, depth_behind, is_fresh, is_plain, is_text, literals_between, literals_of, one_more, reach}
use Rattle.mdgfm_literals.proofs.LiteralEnds.{found-ends}
use Rattle.mdgfm_literals.proofs.LiteralLaws.{literals-are}

-- ---- indices of events

pub from-zero : (n : ℕ) → 0 ≤ n
from-zero n = omega arith

-- they never fall, from one on
abbrev pub Rise : (from : ℕ) → List Event → Type 0
Rise i [] = Unit {0}
Rise i (e ∷ es) = (i ≤ e.point.index) × Rise e.point.index es

pub rise-less : (j i : ℕ) (es : List Event) → j ≤ i → Rise i es → Rise j es
rise-less j i [] h r = tt
rise-less j i (e ∷ es) h r = (omega (arith, h, r.0), r.1)

pub drop-one : {A : Type 0} (k : ℕ) (x : A) (xs : List A) → drop (k + 1) (x ∷ xs) ≡ drop k xs
drop-one k x xs = let z : k + 1 ≡ suc k = omega arith in ap (λ n. drop n (x ∷ xs)) z

-- behind a span
pub rise-end : (p : Point) (n : ℕ) (es : List Event) → Rise p.index es → (p.index ≤ (span_end p n es).index) × Rise (span_end p n es).index (drop (span_size n es) es)
rise-end p n [] r = (omega arith, tt)
rise-end p n (e ∷ es) r =
    by (is_enter e.kind) (n == 0) (rise-end p (n + 1) es (rise-less p.index e.point.index es r.0 r.1)) (rise-end p (n - 1) es (rise-less p.index e.point.index es r.0 r.1))
  where
    on : (q : Point) (k : ℕ) → (p.index ≤ q.index) × Rise q.index (drop k es) → (p.index ≤ q.index) × Rise q.index (drop (k + 1) (e ∷ es))
    on q k h = (h.0, subst (λ ts. Rise q.index ts) (sym (drop-one k e es)) h.1)

    by : (b z : Bool) → (p.index ≤ (span_end p (n + 1) es).index) × Rise (span_end p (n + 1) es).index (drop (span_size (n + 1) es) es)
        → (p.index ≤ (span_end p (n - 1) es).index) × Rise (span_end p (n - 1) es).index (drop (span_size (n - 1) es) es)
        → (p.index ≤ (cond b (span_end p (n + 1) es) (cond z e.point (span_end p (n - 1) es))).index)
        × Rise (cond b (span_end p (n + 1) es) (cond z e.point (span_end p (n - 1) es))).index (drop (cond b (span_size (n + 1) es + 1) (cond z 1 (span_size (n - 1) es + 1))) (e ∷ es))
    by true z h k = on (span_end p (n + 1) es) (span_size (n + 1) es) h
    by false true h k = r
    by false false h k = on (span_end p (n - 1) es) (span_size (n - 1) es) k

one-on : (stop : ℕ) (e : Event) (es : List Event) (s : Reach) → (stop ≤ s.stop) × Rise s.stop (drop s.size es)
    → (stop ≤ (one_more s).stop) × Rise (one_more s).stop (drop (one_more s).size (e ∷ es))
one-on stop e es s h = (h.0, subst (λ ts. Rise s.stop ts) (sym (drop-one s.size e es)) h.1)

-- behind a stretch
pub rise-reach : (skip stop : ℕ) (es : List Event) → Rise stop (drop skip es) → (stop ≤ (reach skip stop es).stop) × Rise (reach skip stop es).stop (drop (reach skip stop es).size es)
rise-reach skip stop [] r = (omega arith, tt)
rise-reach (suc skip) stop (e ∷ es) r = one-on stop e es (reach skip stop es) (rise-reach skip stop es r)
rise-reach zero stop (e ∷ es) r = by (is_text 0 e && (e.point.index == stop)) (rise-reach (span_size 0 es) (span_end e.point 0 es).index es (rise-end e.point 0 es r.1).1)
  where
    s : Reach
    s = reach (span_size 0 es) (span_end e.point 0 es).index es

    by : (t : Bool) → ((span_end e.point 0 es).index ≤ s.stop) × Rise s.stop (drop s.size es)
        → (stop ≤ (cond t (one_more s) (record { size = 0; stop = stop })).stop)
        × Rise (cond t (one_more s) (record { size = 0; stop = stop })).stop (drop (cond t (one_more s) (record { size = 0; stop = stop })).size (e ∷ es))
    by true far = let low = (rise-end e.point 0 es r.1).0 in one-on stop e es s (omega (arith, r.0, low, far.0), far.1)
    by false far = (omega arith, r)

-- ---- literals that rise

-- each has bytes, and begins where the one before it ended, or behind that
abbrev pub Ascend : (from : ℕ) → List Literal → Type 0
Ascend i [] = Unit {0}
Ascend i (l ∷ ls) = (i ≤ l.from) × (l.from < l.to) × Ascend l.to ls

pub ascend-less : (j i : ℕ) (ls : List Literal) → j ≤ i → Ascend i ls → Ascend j ls
ascend-less j i [] h a = tt
ascend-less j i (l ∷ ls) h a = (omega (arith, h, a.0), a.1, a.2)

pub ascend-from : (i : ℕ) (ls : List Literal) → Ascend i ls → AllByRecursion (λ l. i ≤ l.from) ls
ascend-from i [] a = tt
ascend-from i (l ∷ ls) a = (a.0, every-map (λ m. l.to ≤ m.from) (λ m. i ≤ m.from) (λ m h. omega (arith, h, a.0, a.1)) ls (ascend-from l.to ls a.2))

ascend-append : (i m : ℕ) (xs ys : List Literal) → Ascend i xs → AllByRecursion (λ l. l.to ≤ m) xs → i ≤ m → Ascend m ys → Ascend i (xs ++ ys)
ascend-append i m [] ys a low h b = ascend-less i m ys h b
ascend-append i m (x ∷ xs) ys a low h b = (a.0, a.1, ascend-append x.to m xs ys a.2 low.1 low.0 b)

either-ascend : (i : ℕ) (t : Bool) (xs ys : List Literal) → Ascend i xs → Ascend i ys → Ascend i (cond t xs ys)
either-ascend i true xs ys a b = a
either-ascend i false xs ys a b = b

-- a literal lies among bytes of a document, with no line ending at either end
pub record LiesIn (bytes : List ℕ) (i j : ℕ) (l : Literal) : Type 0 where
  pub behind : i ≤ l.from
  pub some : l.from < l.to
  pub before : l.to ≤ j
  pub first : (slice_index bytes l.from == 10) ≡ false
  pub last : follows_cr bytes l.to ≡ false

pub no-cr : (bytes : List ℕ) (to : ℕ) → 1 ≤ to → (slice_index bytes (to - 1) == 13) ≡ false → follows_cr bytes to ≡ false
no-cr bytes zero h e = absurd (omega (arith, h))
no-cr bytes (suc to) h e = let one : to ≡ suc to - 1 = omega arith in ap (λ n. slice_index bytes n == 13) one ∙ e

-- a byte of what is left of a slice is one of all bytes
pub byte-in : (bytes : List ℕ) (i j k m n : ℕ) → k + m < j - i → i + (k + m) ≡ n → slice_index (drop k (slice_range bytes i j)) m ≡ slice_index bytes n
byte-in bytes i j k m n less is =
    get_or-drop k (slice_range bytes i j) m 0 ∙ get_or-take (j - i) (drop i bytes) (k + m) 0 less ∙ get_or-drop i bytes (k + m) 0 ∙ ap (λ x. get_or bytes x 0) is

-- so many bytes are left of a slice at most
pub left-in : (bytes : List ℕ) (i j k m : ℕ) → m ≤ length (drop k (slice_range bytes i j)) → 1 ≤ m → k + m ≤ j - i
left-in bytes i j k m within some =
    let long : length (drop k (slice_range bytes i j)) ≡ length (slice_range bytes i j) - k = length-drop k (slice_range bytes i j) in
    let longer : length (slice_range bytes i j) ≡ min (j - i) (length (drop i bytes)) = length-take (j - i) (drop i bytes) in
    omega (arith, within, some, long, longer)

module _ (bytes : List ℕ) (i j : ℕ) where
  abbrev text : List ℕ
  text = slice_range bytes i j

  lies : (end : ℕ) (ls : List Literal) → i ≤ end → AreLiterals i text end ls → Ascend end ls × AllByRecursion (LiesIn bytes i j) ls
  lies end [] h a = (tt, tt)
  lies end (l ∷ ls) h (low, some, (before, there), more) =
      let rest = lies l.to ls (omega (arith, h, low, some)) more in
      let ends = found-ends before (drop (l.from - i) text) (record { size = l.to - l.from; name = l.name }) there in
      let fits : l.from - i + (l.to - l.from) ≤ j - i = left-in bytes i j (l.from - i) (l.to - l.from) ends.within (omega (arith, some)) in
      let inside : l.to ≤ j = omega (arith, fits, h, low, some) in
      let byte : (m k : ℕ) → m < l.to - l.from → l.from + m ≡ k → slice_index (drop (l.from - i) text) m ≡ slice_index bytes k =
      λ m k less is. byte-in bytes i j (l.from - i) m k (omega (arith, less, fits)) (omega (arith, is, h, low)) in (
        (low, some, rest.0),
        (
          record {
            behind = omega (arith, h, low);
            some = some;
            before = inside;
            first = ap (λ b. b == 10) (sym (byte 0 l.from (omega (arith, some)) (omega arith))) ∙ ends.first;
            last = no-cr bytes l.to (omega (arith, some)) (ap (λ b. b == 13) (sym (byte (l.to - l.from - 1) (l.to - 1) (omega (arith, some)) (omega (arith, some)))) ∙ ends.last);
          },
          rest.1,
        ),
      )

pub between-lies : (bytes : List ℕ) (fresh : Bool) (i j : ℕ) → Ascend i (literals_between bytes fresh i j) × AllByRecursion (LiesIn bytes i j) (literals_between bytes fresh i j)
between-lies bytes fresh i j = lies bytes i j i (literals_between bytes fresh i j) (omega arith) (literals-are (before_stretch bytes fresh i) i (slice_range bytes i j))

-- ---- what is found in stretches

-- what is found in all stretches of events behind the first `skip`, by what is found between two indices
abbrev pub found_of : (between : (fresh : Bool) → (from to : ℕ) → List Literal) → (fresh : Bool) → (depth skip : ℕ) → List Event → List Literal
found_of between fresh depth skip [] = []
found_of between fresh depth (suc skip) (e ∷ es) = found_of between fresh depth skip es
found_of between fresh depth zero (e ∷ es) =
    let r = reach (span_size 0 es) (span_end e.point 0 es).index es in
    let stretch = between fresh e.point.index r.stop ++ found_of between false depth r.size es in
    cond (is_text depth e) stretch (found_of between (is_fresh e) (depth_behind depth e) 0 es)

pub literals-found-of : (bytes : List ℕ) (fresh : Bool) (depth skip : ℕ) (es : List Event) → found_of (literals_between bytes) fresh depth skip es ≡ literals_of bytes fresh depth skip es
literals-found-of bytes fresh depth skip [] = refl
literals-found-of bytes fresh depth (suc skip) (e ∷ es) = literals-found-of bytes fresh depth skip es
literals-found-of bytes fresh depth zero (e ∷ es) =
    let r = reach (span_size 0 es) (span_end e.point 0 es).index es in
    let here = literals_between bytes fresh e.point.index r.stop in
    let other = found_of (literals_between bytes) (is_fresh e) (depth_behind depth e) 0 es in
    ap (λ ls. cond (is_text depth e) (here ++ ls) other) (literals-found-of bytes false depth r.size es)
    ∙ ap (λ ls. cond (is_text depth e) (here ++ literals_of bytes false depth r.size es) ls) (literals-found-of bytes (is_fresh e) (depth_behind depth e) 0 es)

-- between two indices it rises, and lies among bytes
abbrev pub AllLie : (bytes : List ℕ) → (between : (fresh : Bool) → (from to : ℕ) → List Literal) → Type 0
AllLie bytes between = (fresh : Bool) (i j : ℕ) → Ascend i (between fresh i j) × AllByRecursion (LiesIn bytes i j) (between fresh i j)

pub found-rise : (bytes : List ℕ) (between : Bool → ℕ → ℕ → List Literal) → AllLie bytes between → (fresh : Bool) (depth skip i : ℕ) (es : List Event) → Rise i (drop skip es)
    → Ascend i (found_of between fresh depth skip es)
found-rise bytes between lie fresh depth skip i [] r = tt
found-rise bytes between lie fresh depth (suc skip) i (e ∷ es) r = found-rise bytes between lie fresh depth skip i es r
found-rise bytes between lie fresh depth zero i (e ∷ es) r =
    let q = span_end e.point 0 es in
    let end = rise-end e.point 0 es r.1 in
    let s = reach (span_size 0 es) q.index es in
    let far = rise-reach (span_size 0 es) q.index es end.1 in
    let here = between fresh e.point.index s.stop in
    let both = lie fresh e.point.index s.stop in
    let other = found_of between (is_fresh e) (depth_behind depth e) 0 es in
    either-ascend i (is_text depth e) (here ++ found_of between false depth s.size es) other
    (ascend-append i s.stop here (found_of between false depth s.size es) (ascend-less i e.point.index here r.0 both.0)
    (every-map (LiesIn bytes e.point.index s.stop) (λ l. l.to ≤ s.stop) (λ l h. h.before) here both.1) (omega (arith, r.0, end.0, far.0))
    (found-rise bytes between lie false depth s.size s.stop es far.1))
    (ascend-less i e.point.index other r.0 (found-rise bytes between lie (is_fresh e) (depth_behind depth e) 0 e.point.index es r.1))

pub literals-rise : (bytes : List ℕ) (fresh : Bool) (depth skip i : ℕ) (es : List Event) → Rise i (drop skip es) → Ascend i (literals_of bytes fresh depth skip es)
literals-rise bytes fresh depth skip i es r =
    subst (Ascend i) (literals-found-of bytes fresh depth skip es) (found-rise bytes (literals_between bytes) (between-lies bytes) fresh depth skip i es r)

-- ---- what is no text is not in a literal

-- of events behind the first `skip`, none that is in no span of text is before an index
abbrev pub Past : (i depth skip : ℕ) → List Event → Type 0
Past i depth skip [] = Unit {0}
Past i depth (suc skip) (e ∷ es) = Past i depth skip es
Past i depth zero (e ∷ es) =
    (is_text depth e ≡ true → Past i depth (span_size 0 es) es) × (is_text depth e ≡ false → (i ≤ e.point.index) × Past i (depth_behind depth e) 0 es)

-- a literal begins in a span of text, not before it; and no event behind this one that is in no span of text is before its end
abbrev pub Fits : Literal → (depth skip : ℕ) → List Event → Type 0
Fits l depth skip [] = ⊥
Fits l depth (suc skip) (e ∷ es) = Fits l depth skip es
Fits l depth zero (e ∷ es) =
    (e.point.index ≤ l.from)
    × (is_text depth e ≡ true → (l.from < (span_end e.point 0 es).index → Past l.to depth (span_size 0 es) es) × ((span_end e.point 0 es).index ≤ l.from → Fits l depth (span_size 0 es) es))
    × (is_text depth e ≡ false → Fits l (depth_behind depth e) 0 es)

past-rise : (i j depth skip : ℕ) (es : List Event) → i ≤ j → Rise j (drop skip es) → Past i depth skip es
past-rise i j depth skip [] h r = tt
past-rise i j depth (suc skip) (e ∷ es) h r = past-rise i j depth skip es h r
past-rise i j depth zero (e ∷ es) h r =
    let end = rise-end e.point 0 es r.1 in (
      λ text. past-rise i (span_end e.point 0 es).index depth (span_size 0 es) es (omega (arith, h, r.0, end.0)) end.1,
      λ other. (omega (arith, h, r.0), past-rise i e.point.index (depth_behind depth e) 0 es (omega (arith, h, r.0)) r.1),
    )

-- none is before 0
pub past-start : (depth skip : ℕ) (es : List Event) → Past 0 depth skip es
past-start depth skip [] = tt
past-start depth (suc skip) (e ∷ es) = past-start depth skip es
past-start depth zero (e ∷ es) = ((λ text. past-start depth (span_size 0 es) es), (λ other. (omega arith, past-start (depth_behind depth e) 0 es)))

pub never : {A : Type 0} (b : Bool) → b ≡ true → b ≡ false → A
never b is isnt = absurd (false≢true (sym isnt ∙ is))

past-reach : (i skip stop : ℕ) (es : List Event) → Rise stop (drop skip es) → i ≤ (reach skip stop es).stop → Past i 0 skip es
past-reach i skip stop [] r h = tt
past-reach i (suc skip) stop (e ∷ es) r h = past-reach i skip stop es r h
past-reach i zero stop (e ∷ es) r h =
    by (is_text 0 e && (e.point.index == stop)) refl h (λ k. past-reach i (span_size 0 es) (span_end e.point 0 es).index es (rise-end e.point 0 es r.1).1 k)
  where
    s : Reach
    s = reach (span_size 0 es) (span_end e.point 0 es).index es

    by : (t : Bool) → (is_text 0 e && (e.point.index == stop)) ≡ t → i ≤ (cond t (one_more s) (record { size = 0; stop = stop })).stop → (i ≤ s.stop → Past i 0 (span_size 0 es) es)
        → Past i 0 0 (e ∷ es)
    by true goes h more = ((λ text. more h), (λ isnt. never (is_text 0 e) (and-left (is_text 0 e) (e.point.index == stop) goes) isnt))
    by false ends h more = past-rise i stop 0 0 (e ∷ es) h r

fits-reach : (l : Literal) (skip stop : ℕ) (es : List Event) → Rise stop (drop skip es) → l.from < l.to → stop ≤ l.from → l.to ≤ (reach skip stop es).stop → Fits l 0 skip es
fits-reach l skip stop [] r some low high = absurd (omega (arith, some, low, high))
fits-reach l (suc skip) stop (e ∷ es) r some low high = fits-reach l skip stop es r some low high
fits-reach l zero stop (e ∷ es) r some low high =
    by (is_text 0 e && (e.point.index == stop)) refl high (λ b k. fits-reach l (span_size 0 es) (span_end e.point 0 es).index es (rise-end e.point 0 es r.1).1 some b k)
  where
    s : Reach
    s = reach (span_size 0 es) (span_end e.point 0 es).index es

    by : (t : Bool) → (is_text 0 e && (e.point.index == stop)) ≡ t → l.to ≤ (cond t (one_more s) (record { size = 0; stop = stop })).stop
        → ((span_end e.point 0 es).index ≤ l.from → l.to ≤ s.stop → Fits l 0 (span_size 0 es) es) → Fits l 0 0 (e ∷ es)
    by true goes high more =
        let here = eqb-true e.point.index stop (and-right (is_text 0 e) (e.point.index == stop) goes) in (
          omega (arith, here, low),
          (λ text. ((λ before. past-reach l.to (span_size 0 es) (span_end e.point 0 es).index es (rise-end e.point 0 es r.1).1 high), (λ behind. more behind high))),
          (λ isnt. never (is_text 0 e) (and-left (is_text 0 e) (e.point.index == stop) goes) isnt),
        )
    by false ends high more = absurd (omega (arith, some, low, high))

fits-one : (l : Literal) (depth k : ℕ) (e : Event) (es : List Event) → Fits l depth (k + 1) (e ∷ es) → Fits l depth k es
fits-one l depth k e es f = let z : k + 1 ≡ suc k = omega arith in subst (λ n. Fits l depth n (e ∷ es)) z f

fits-skip : (l : Literal) (skip stop : ℕ) (es : List Event) → Rise stop (drop skip es) → (reach skip stop es).stop ≤ l.from → Fits l 0 (reach skip stop es).size es → Fits l 0 skip es
fits-skip l skip stop [] r low f = f
fits-skip l (suc skip) stop (e ∷ es) r low f = fits-skip l skip stop es r low (fits-one l 0 (reach skip stop es).size e es f)
fits-skip l zero stop (e ∷ es) r low f =
    by (is_text 0 e && (e.point.index == stop)) refl low f (λ b k. fits-skip l (span_size 0 es) (span_end e.point 0 es).index es (rise-end e.point 0 es r.1).1 b k)
  where
    s : Reach
    s = reach (span_size 0 es) (span_end e.point 0 es).index es

    by : (t : Bool) → (is_text 0 e && (e.point.index == stop)) ≡ t → (cond t (one_more s) (record { size = 0; stop = stop })).stop ≤ l.from
        → Fits l 0 (cond t (one_more s) (record { size = 0; stop = stop })).size (e ∷ es) → (s.stop ≤ l.from → Fits l 0 s.size es → Fits l 0 (span_size 0 es) es) → Fits l 0 0 (e ∷ es)
    by true goes low f more =
        let end = rise-end e.point 0 es r.1 in
        let far : (span_end e.point 0 es).index ≤ s.stop = (rise-reach (span_size 0 es) (span_end e.point 0 es).index es end.1).0 in
        let behind : s.stop ≤ l.from = low in (
          omega (arith, behind, end.0, far),
          (λ text. ((λ before. absurd (omega (arith, before, behind, far))), (λ later. more low (fits-one l 0 s.size e es f)))),
          (λ isnt. never (is_text 0 e) (and-left (is_text 0 e) (e.point.index == stop) goes) isnt),
        )
    by false ends low f more = f

-- text is in no span that holds no literal
pub text-flat : (depth : ℕ) (e : Event) → is_text depth e ≡ true → depth ≡ 0
text-flat depth e h = eqb-true depth 0 (and-left (depth == 0) (is_enter e.kind && is_plain e.name) h)

-- what holds of literals, where they begin at an index or behind it
pub from-each : (i : ℕ) (P R : Literal → Type 0) → ((l : Literal) → i ≤ l.from → P l → R l) → (ls : List Literal) → AllByRecursion (λ l. i ≤ l.from) ls → AllByRecursion P ls → AllByRecursion R ls
from-each i P R f [] h k = tt
from-each i P R f (l ∷ ls) h k = (f l h.0 k.0, from-each i P R f ls h.1 k.1)

-- all that is found in events fits
pub found-fit : (bytes : List ℕ) (between : Bool → ℕ → ℕ → List Literal) → AllLie bytes between → (fresh : Bool) (depth skip i : ℕ) (es : List Event) → Rise i (drop skip es)
    → AllByRecursion (λ l. Fits l depth skip es) (found_of between fresh depth skip es)
found-fit bytes between lie fresh depth skip i [] r = tt
found-fit bytes between lie fresh depth (suc skip) i (e ∷ es) r = found-fit bytes between lie fresh depth skip i es r
found-fit bytes between lie fresh depth zero i (e ∷ es) r =
    by (is_text depth e) refl
    (found-fit bytes between lie false depth (reach (span_size 0 es) (span_end e.point 0 es).index es).size (reach (span_size 0 es) (span_end e.point 0 es).index es).stop es
    (rise-reach (span_size 0 es) (span_end e.point 0 es).index es (rise-end e.point 0 es r.1).1).1)
    (found-fit bytes between lie (is_fresh e) (depth_behind depth e) 0 e.point.index es r.1)
  where
    q : Point
    q = span_end e.point 0 es

    n : ℕ
    n = span_size 0 es

    s : Reach
    s = reach n q.index es

    end : (e.point.index ≤ q.index) × Rise q.index (drop n es)
    end = rise-end e.point 0 es r.1

    far : (q.index ≤ s.stop) × Rise s.stop (drop s.size es)
    far = rise-reach n q.index es end.1

    here : List Literal
    here = between fresh e.point.index s.stop

    rest : List Literal
    rest = found_of between false depth s.size es

    other : List Literal
    other = found_of between (is_fresh e) (depth_behind depth e) 0 es

    P : Literal → Type 0
    P l = Fits l depth 0 (e ∷ es)

    by : (t : Bool) → is_text depth e ≡ t → AllByRecursion (λ l. Fits l depth s.size es) rest → AllByRecursion (λ l. Fits l (depth_behind depth e) 0 es) other → AllByRecursion P (cond t (here ++ rest) other)
    by true text behind unused =
        let flat = text-flat depth e text in
        let in_here : (l : Literal) → LiesIn bytes e.point.index s.stop l → P l =
        λ l lies. (
          lies.behind,
          (λ is.
              subst (λ d. (l.from < q.index → Past l.to d n es) × (q.index ≤ l.from → Fits l d n es)) (sym flat)
              ((λ before. past-reach l.to n q.index es end.1 lies.before), (λ later. fits-reach l n q.index es end.1 lies.some later lies.before))),
          (λ isnt. never (is_text depth e) text isnt),
        ) in
        let in_rest : (l : Literal) → s.stop ≤ l.from → Fits l depth s.size es → P l =
        λ l from fit. (
          omega (arith, end.0, far.0, from),
          (λ is.
              ((λ before. absurd (omega (arith, before, far.0, from))), (λ later. subst (λ d. Fits l d n es) (sym flat) (fits-skip l n q.index es end.1 from (subst (λ d. Fits l d s.size es) flat fit))))),
          (λ isnt. never (is_text depth e) text isnt),
        ) in
        every-append P here rest (every-map (LiesIn bytes e.point.index s.stop) P in_here here (lie fresh e.point.index s.stop).1)
        (from-each s.stop (λ l. Fits l depth s.size es) P in_rest rest (ascend-from s.stop rest (found-rise bytes between lie false depth s.size s.stop es far.1)) behind)
    by false no_text rest_fits fit =
        from-each e.point.index (λ l. Fits l (depth_behind depth e) 0 es) P (λ l from fit. (from, (λ text. never (is_text depth e) text no_text), (λ is. fit))) other
        (ascend-from e.point.index other (found-rise bytes between lie (is_fresh e) (depth_behind depth e) 0 e.point.index es r.1)) fit

pub all-fit : (bytes : List ℕ) (fresh : Bool) (depth skip i : ℕ) (es : List Event) → Rise i (drop skip es) → AllByRecursion (λ l. Fits l depth skip es) (literals_of bytes fresh depth skip es)
all-fit bytes fresh depth skip i es r =
    subst (AllByRecursion (λ l. Fits l depth skip es)) (literals-found-of bytes fresh depth skip es) (found-fit bytes (literals_between bytes) (between-lies bytes) fresh depth skip i es r)
