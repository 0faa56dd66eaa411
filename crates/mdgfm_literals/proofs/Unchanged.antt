-- What literals leave as it was.
use Rattle.std.proofs.Common.{◌≡◌, Bool, true, false, cond, List, [], ◌∷◌, ◌++◌, refl, ap, ◌∙◌, arith, sym}
use Rattle.std.proofs.Math.Bool.{and-false}
use Rattle.std.proofs.lemmas.Bool.{false≢true}
use Rattle.std.specs.List.{list_any}
use Rattle.std.specs.Prelude.{◌&&◌, ◌||◌}
use Rattle.markdown_base.proofs.Facts.Bools.{cond-same}
use Rattle.markdown_base.specs.declared.event.Event.{Event}
use Rattle.markdown_base.specs.declared.event.Name.{Name}
use Rattle.markdown_base.specs.declared.event.Name.TheVariants.{CodeFencedFence, Definition, GfmFootnoteCall, GfmFootnoteDefinitionPrefix, Image, Link, Reference, Resource}
use Rattle.markdown_base.specs.Events.{IsBalanced, is_enter, same_name}
use Rattle.markdown_base.specs.Virtual.{point}
use Rattle.markdown_base.proofs.Balanced.{same_name-true}
use Rattle.mdgfm_literals.specs.Laws.{BalanceIsKept, LinksStay, NoLiteralChangesNothing, OffChangesNothing}
use Rattle.mdgfm_literals.specs.LiteralEvents.{events_with}
use Rattle.mdgfm_literals.specs.Stretches.{depth_behind, holds_none, is_among, is_fresh, is_plain, is_text, literals_of}
use Rattle.mdgfm_literals.proofs.Balance.{depth-back, exit-no-text, literals-deep, literals-other, with-balanced, with-deep, with-other}
use Rattle.mdgfm_literals.proofs.EventSteps.{with-none}

pub off-changes-nothing : OffChangesNothing
off-changes-nothing options bytes events off =
    ap (λ b. cond b (events_with options.tab_size bytes 0 0 (point 1 1 0 0) (literals_of bytes true 0 0 events) events) events) off

pub none-changes-nothing : NoLiteralChangesNothing
none-changes-nothing options bytes events none =
    let on = options.constructs.gfm_autolink_literal in
    ap (λ es. cond on es events) (ap (λ ls. events_with options.tab_size bytes 0 0 (point 1 1 0 0) ls events) none ∙ with-none options.tab_size bytes 0 0 events) ∙ cond-same on events

pub balance-kept : BalanceIsKept
balance-kept options bytes events b = by options.constructs.gfm_autolink_literal
  where
    by : (t : Bool) → IsBalanced (cond t (events_with options.tab_size bytes 0 0 (point 1 1 0 0) (literals_of bytes true 0 0 events) events) events)
    by true = with-balanced options.tab_size bytes (point 1 1 0 0) (literals_of bytes true 0 0 events) events b
    by false = b

-- a name that is among some fails a test that each of these fails
fails : (test : Name → Bool) (names : List Name) (n : Name) → is_among names n ≡ true → list_any test names ≡ false → test n ≡ false
fails test [] n h k = absurd (false≢true h)
fails test (m ∷ ms) n h k = by (same_name n m) refl h (test m) refl k (fails test ms n)
  where
    by : (t : Bool) → same_name n m ≡ t → (t || is_among ms n) ≡ true → (u : Bool) → test m ≡ u → (u || list_any test ms) ≡ false
        → (is_among ms n ≡ true → list_any test ms ≡ false → test n ≡ false) → test n ≡ false
    by t q h true r k more = absurd (false≢true (sym k))
    by true q h false r k more = ap test (same_name-true n m q) ∙ r
    by false q h false r k more = more h k

-- a span that holds no literal is no text
no-text : (e : Event) → holds_none e.name ≡ true → is_text 0 e ≡ false
no-text e h = ap (λ b. is_enter e.kind && b) (fails is_plain (Link ∷ Image ∷ Definition ∷ CodeFencedFence ∷ Resource ∷ Reference ∷ GfmFootnoteCall ∷ GfmFootnoteDefinitionPrefix ∷ []) e.name h refl) ∙ and-false (is_enter e.kind)

pub links-stay : LinksStay
links-stay tab bytes e f xs zs enters exits same holds balanced = (
  λ place ls.
      with-other tab bytes 0 place ls e (xs ++ f ∷ zs) (no-text e holds)
      ∙ ap (λ (ts : List Event). e ∷ ts) (
      ap (λ d. events_with tab bytes 0 d place ls (xs ++ f ∷ zs)) deeper
      ∙ with-deep tab bytes 1 place ls xs (f ∷ zs) balanced (omega arith)
      ∙ ap (λ (ts : List Event). xs ++ ts) (
      with-other tab bytes 1 place ls f zs (exit-no-text 1 f exits)
      ∙ ap (λ d. f ∷ events_with tab bytes 0 d place ls zs) back)),
  λ fresh.
      let inner = literals-deep tab bytes (is_fresh e) 1 xs (f ∷ zs) balanced (omega arith) in (
        is_fresh f,
        literals-other tab bytes fresh 0 e (xs ++ f ∷ zs) (no-text e holds)
            ∙ ap (λ d. literals_of bytes (is_fresh e) d 0 (xs ++ f ∷ zs)) deeper
            ∙ inner.1
            ∙ literals-other tab bytes inner.0 1 f zs (exit-no-text 1 f exits)
            ∙ ap (λ d. literals_of bytes (is_fresh f) d 0 zs) back,
      ),
)
  where
    deeper : depth_behind 0 e ≡ 1
    deeper = ap (λ b. cond b (cond (is_enter e.kind) 1 0) 0) holds ∙ ap (λ k. cond (is_enter k) 1 0) enters

    back : depth_behind 1 f ≡ 0
    back = ap (λ d. depth_behind d f) (sym deeper) ∙ depth-back 0 e f enters exits same
