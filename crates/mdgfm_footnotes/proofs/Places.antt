-- Calls stand at their places among the bytes of a document: they rise, each begins in a span of text, and brackets are its ends.
use Rattle.std.proofs.Common.{◌≡◌, ℕ, zero, suc, ◌+◌, ◌-◌, ◌<◌, ◌≤◌, ◌++◌, Bool, true, false, cond, List, [], ◌∷◌, length, drop, take, Option, Some, None, refl, sym, ap, subst, ◌∙◌, arith, eqb-true, leb-true}
use Rattle.std.proofs.lemmas.Bool.{and_parts, false≢true}
use Rattle.std.proofs.lemmas.Option.{none-some, same_Some}
use Rattle.std.specs.List.{AllByRecursion}
use Rattle.std.specs.Prelude.{◌==◌, ◌&&◌, nat_le, slice_index, slice_range}
use Rattle.markdown_base.proofs.Common.{every-append, every-map}
use Rattle.markdown_base.specs.declared.event.Event.{Event}
use Rattle.markdown_base.specs.declared.event.Name.TheVariants.{GfmFootnoteCall}
use Rattle.mdblock_leaf_blocks.specs.LineWords.{begins_with, starts_with}
use Rattle.mdgfm_events.specs.Spans.{span_end, span_size}
use Rattle.mdgfm_literals.specs.declared.texts.Literal.{Literal}
use Rattle.mdgfm_literals.specs.Literals.{more_passed}
use Rattle.mdgfm_literals.specs.Stretches.{depth_behind, is_fresh, is_text, reach}
use Rattle.mdgfm_literals.proofs.Below.{AreUpTo, IsUpTo, found-up-to}
use Rattle.mdgfm_literals.proofs.Fits.{AllLie, Ascend, Fits, LiesIn, Rise, byte-in, found-fit, found-rise, found_of, left-in, no-cr}
use Rattle.mdgfm_literals.proofs.Names.{either-all}
use Rattle.mdgfm_footnotes.specs.Calls.{call_at, calls_from, calls_of, label_at, label_size}
use Rattle.mdgfm_footnotes.specs.Laws.{AreCalls}
use Rattle.mdgfm_footnotes.proofs.CallLaws.{calls-are-calls}

-- ---- the call at the front of a text

-- brackets are at its ends
pub record IsCall (text : List ℕ) (size : ℕ) : Type 0 where
  pub long : 4 ≤ size
  pub within : size ≤ length text
  pub opens : slice_index text 0 ≡ 91
  pub caret : slice_index text 1 ≡ 94
  pub closes : slice_index text (size - 1) ≡ 93

front-bytes : (text : List ℕ) → starts_with (91 ∷ 94 ∷ []) text ≡ true → (slice_index text 0 ≡ 91) × (slice_index text 1 ≡ 94)
front-bytes [] h = absurd (false≢true h)
front-bytes (b ∷ []) h = absurd (false≢true (and_parts (91 == b) false h).1)
front-bytes (b ∷ c ∷ ts) h =
    let first = and_parts (91 == b) ((94 == c) && true) h in
    let second = and_parts (94 == c) true first.1 in
    (sym (eqb-true 91 b first.0), sym (eqb-true 94 c second.0))

byte-there : (byte k : ℕ) (text : List ℕ) → begins_with byte (drop k text) ≡ true → (k < length text) × (slice_index text k ≡ byte)
byte-there byte zero [] h = absurd (false≢true h)
byte-there byte zero (b ∷ bs) h = (omega arith, eqb-true b byte h)
byte-there byte (suc k) [] h = absurd (false≢true h)
byte-there byte (suc k) (b ∷ bs) h = let there = byte-there byte k bs h in (omega (arith, there.0), there.1)

label-call : (text : List ℕ) (n : ℕ) → label_at text ≡ Some n → IsCall text (n + 3)
label-call text n = by (starts_with (91 ∷ 94 ∷ []) text) (nat_le 1 m) (begins_with 93 (drop (m + 2) text)) refl refl refl
  where
    m : ℕ
    m = label_size 0 (drop 2 text)

    by : (a b c : Bool) → starts_with (91 ∷ 94 ∷ []) text ≡ a → nat_le 1 m ≡ b → begins_with 93 (drop (m + 2) text) ≡ c → cond (a && (b && c)) (Some m) None ≡ Some n → IsCall text (n + 3)
    by false b c p q r e = absurd (none-some n e)
    by true false c p q r e = absurd (none-some n e)
    by true true false p q r e = absurd (none-some n e)
    by true true true p q r e =
        let same : m ≡ n = same_Some m n e in
        let some : 1 ≤ m = leb-true 1 m q in
        let there = byte-there 93 (m + 2) text r in
        let front = front-bytes text p in
        let last : m + 2 ≡ n + 3 - 1 = omega (arith, same) in
        record {
          long = omega (arith, same, some);
          within = let inside = there.0 in omega (arith, same, inside);
          opens = front.0;
          caret = front.1;
          closes = ap (slice_index text) (sym last) ∙ there.1;
        }

module _ (defined : (label : List ℕ) → Bool) where
  pub call-is : (text : List ℕ) (size : ℕ) → call_at defined text ≡ Some size → IsCall text size
  call-is text size e = by (label_at text) refl e
    where
      two : (n : ℕ) (b : Bool) → label_at text ≡ Some n → cond b (Some (n + 3)) None ≡ Some size → IsCall text size
      two n true q h = subst (IsCall text) (same_Some (n + 3) size h) (label-call text n q)
      two n false q h = absurd (none-some size h)

      by : (o : Option ℕ) → label_at text ≡ o → (elim o as (λ _. Option ℕ) [ None ↦ None | Some n ↦ cond (defined (take n (drop 2 text))) (Some (n + 3)) None ]) ≡ Some size → IsCall text size
      by None q h = absurd (none-some size h)
      by (Some n) q h = two n (defined (take n (drop 2 text))) q h

-- ---- calls between two indices

-- a call among the bytes of a document
pub record IsAt (bytes : List ℕ) (l : Literal) : Type 0 where
  pub long : l.from + 4 ≤ l.to
  pub opens : slice_index bytes l.from ≡ 91
  pub caret : slice_index bytes (l.from + 1) ≡ 94
  pub closes : slice_index bytes (l.to - 1) ≡ 93

other-byte : (b c byte : ℕ) → b ≡ byte → (byte == c) ≡ false → (b == c) ≡ false
other-byte b c byte is other = ap (λ x. x == c) is ∙ other

module _ (defined : (label : List ℕ) → Bool) (bytes : List ℕ) where
  abbrev pub Lies : (i j : ℕ) → Literal → Type 0
  Lies i j l = LiesIn bytes i j l × IsAt bytes l

  lies : (i j end : ℕ) (ls : List Literal) → i ≤ end → AreCalls defined i (slice_range bytes i j) end ls → Ascend end ls × AllByRecursion (Lies i j) ls
  lies i j end [] h a = (tt, tt)
  lies i j end (l ∷ ls) h (low, some, there, more) =
      let rest = lies i j l.to ls (omega (arith, h, low, some)) more in
      let k : ℕ = l.from - i in
      let is = call-is defined (drop k (slice_range bytes i j)) (l.to - l.from) there in
      let long : 4 ≤ l.to - l.from = is.long in
      let fits : k + (l.to - l.from) ≤ j - i = left-in bytes i j k (l.to - l.from) is.within (omega (arith, long)) in
      let opens : slice_index bytes l.from ≡ 91 = sym (byte-in bytes i j k 0 l.from (omega (arith, fits, long)) (omega (arith, h, low))) ∙ is.opens in
      let caret : slice_index bytes (l.from + 1) ≡ 94 = sym (byte-in bytes i j k 1 (l.from + 1) (omega (arith, fits, long)) (omega (arith, h, low))) ∙ is.caret in
      let closes : slice_index bytes (l.to - 1) ≡ 93 = sym (byte-in bytes i j k (l.to - l.from - 1) (l.to - 1) (omega (arith, fits, long)) (omega (arith, h, low, some, long))) ∙ is.closes in
      let lie : LiesIn bytes i j l =
      record {
        behind = omega (arith, h, low);
        some = some;
        before = omega (arith, fits, h, low, some);
        first = other-byte (slice_index bytes l.from) 10 91 opens refl;
        last = no-cr bytes l.to (omega (arith, some)) (other-byte (slice_index bytes (l.to - 1)) 13 93 closes refl);
      } in
      let at : IsAt bytes l = record { long = omega (arith, long); opens = opens; caret = caret; closes = closes } in
      ((low, some, rest.0), ((lie, at), rest.1))

  abbrev pub between : (fresh : Bool) → (from to : ℕ) → List Literal
  between fresh i j = calls_from defined 0 i (slice_range bytes i j)

  between-all : (i j : ℕ) → Ascend i (between true i j) × AllByRecursion (Lies i j) (between true i j)
  between-all i j = lies i j i (between true i j) (omega arith) (calls-are-calls defined i (slice_range bytes i j))

  pub between-lie : AllLie bytes between
  between-lie fresh i j = let both = between-all i j in (both.0, every-map (Lies i j) (LiesIn bytes i j) (λ l h. h.0) (between true i j) both.1)

  -- ---- calls of events

  pub calls-found-of : (fresh : Bool) (depth skip : ℕ) (es : List Event) → found_of between fresh depth skip es ≡ calls_of defined bytes depth skip es
  calls-found-of fresh depth skip [] = refl
  calls-found-of fresh depth (suc skip) (e ∷ es) = calls-found-of fresh depth skip es
  calls-found-of fresh depth zero (e ∷ es) =
      let r = reach (span_size 0 es) (span_end e.point 0 es).index es in
      let here = between true e.point.index r.stop in
      let other = found_of between (is_fresh e) (depth_behind depth e) 0 es in
      ap (λ ls. cond (is_text depth e) (here ++ ls) other) (calls-found-of false depth r.size es)
      ∙ ap (λ ls. cond (is_text depth e) (here ++ calls_of defined bytes depth r.size es) ls) (calls-found-of (is_fresh e) (depth_behind depth e) 0 es)

  pub calls-rise : (depth skip i : ℕ) (es : List Event) → Rise i (drop skip es) → Ascend i (calls_of defined bytes depth skip es)
  calls-rise depth skip i es r = subst (Ascend i) (calls-found-of true depth skip es) (found-rise bytes between between-lie true depth skip i es r)

  pub calls-fit : (depth skip i : ℕ) (es : List Event) → Rise i (drop skip es) → AllByRecursion (λ l. Fits l depth skip es) (calls_of defined bytes depth skip es)
  calls-fit depth skip i es r =
      subst (AllByRecursion (λ l. Fits l depth skip es)) (calls-found-of true depth skip es) (found-fit bytes between between-lie true depth skip i es r)

  pub calls-up-to : (most depth skip : ℕ) (es : List Event) → AreUpTo most es → AllByRecursion (IsUpTo most) (calls_of defined bytes depth skip es)
  calls-up-to most depth skip es all =
      subst (AllByRecursion (IsUpTo most)) (calls-found-of true depth skip es) (found-up-to most bytes between between-lie true depth skip es all)

  -- what holds of each call of each text
  pub calls-each : (P : Literal → Type 0) → ((i j : ℕ) → AllByRecursion P (calls_from defined 0 i (slice_range bytes i j))) → (depth skip : ℕ) (es : List Event)
      → AllByRecursion P (calls_of defined bytes depth skip es)
  calls-each P each depth skip [] = tt
  calls-each P each depth (suc skip) (e ∷ es) = calls-each P each depth skip es
  calls-each P each depth zero (e ∷ es) =
      let r = reach (span_size 0 es) (span_end e.point 0 es).index es in
      let here = calls_from defined 0 e.point.index (slice_range bytes e.point.index r.stop) in
      either-all P (is_text depth e) (here ++ calls_of defined bytes depth r.size es) (calls_of defined bytes (depth_behind depth e) 0 es)
      (every-append P here (calls_of defined bytes depth r.size es) (each e.point.index r.stop) (calls-each P each depth r.size es)) (calls-each P each (depth_behind depth e) 0 es)

  pub calls-at : (es : List Event) → AllByRecursion (IsAt bytes) (calls_of defined bytes 0 0 es)
  calls-at es = calls-each (IsAt bytes) (λ i j. every-map (Lies i j) (IsAt bytes) (λ l h. h.1) (between true i j) (between-all i j).1) 0 0 es

-- ---- names

abbrev pub IsNamed : Literal → Type 0
IsNamed l = l.name ≡ GfmFootnoteCall

text-named : (defined : (label : List ℕ) → Bool) (skip at : ℕ) (text : List ℕ) → AllByRecursion IsNamed (calls_from defined skip at text)
text-named defined skip at [] = tt
text-named defined (suc skip) at (b ∷ bs) = text-named defined skip (at + 1) bs
text-named defined zero at (b ∷ bs) = by (call_at defined (b ∷ bs)) (text-named defined (more_passed (b ∷ bs)) (at + 1) bs) (λ n. text-named defined (n - 1) (at + 1) bs)
  where
    by : (o : Option ℕ) → AllByRecursion IsNamed (calls_from defined (more_passed (b ∷ bs)) (at + 1) bs) → ((n : ℕ) → AllByRecursion IsNamed (calls_from defined (n - 1) (at + 1) bs))
        → AllByRecursion IsNamed (elim o [ Some n ↦ record { from = at; to = at + n; name = GfmFootnoteCall } ∷ calls_from defined (n - 1) (at + 1) bs | None ↦ calls_from defined (more_passed (b ∷ bs)) (at + 1) bs ])
    by None none more = none
    by (Some n) none more = (refl, more n)

pub calls-named : (defined : (label : List ℕ) → Bool) (bytes : List ℕ) (es : List Event) → AllByRecursion IsNamed (calls_of defined bytes 0 0 es)
calls-named defined bytes es = calls-each defined bytes IsNamed (λ i j. text-named defined 0 i (slice_range bytes i j)) 0 0 es
