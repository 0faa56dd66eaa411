use Rattle.std.proofs.Common.{◌≡◌, Bool, true, false, cond, take, ap, sym, refl, ◌∙◌}
use Rattle.std.specs.Int.Bits.{bit_or}
use Rattle.std.specs.List.{list_all}
use Rattle.std.specs.Prelude.{◌&&◌, ◌==◌, not}
use Rattle.std.proofs.lemmas.List.{take_all}
use Rattle.std.proofs.lemmas.List.Folds.{list_all_more}
use Rattle.mdhtml_markup.specs.SafeHtml.{is_mark}
use Rattle.mdhtml_markup.proofs.escape.are_plain.Goals as goal

-- the bits of two that pass a test or not
both : (a b : Bool) → bit_or (cond a 0 1) (cond b 0 1) ≡ cond (a && b) 0 1
both true true = refl
both true false = refl
both false true = refl
both false false = refl

none : (a : Bool) → (cond a 0 1 == 0) ≡ a
none true = refl
none false = refl

pub loop-byte-preserved : goal.loop-byte-preserved
loop-byte-preserved c =
    let text = c.args.text.now in
    let i = c.loop-byte.byte-index in
    let before = list_all (λ b. not (is_mark b)) (take i text) in
    ap (λ m. bit_or m c.mark_bit-marks.result) c.loop-byte.invariant
    ∙ ap (bit_or (cond before 0 1)) c.mark_bit-marks.ensures
    ∙ both before _
    ∙ ap (λ b. cond b 0 1) (sym (list_all_more (λ b. not (is_mark b)) text i 0 c.loop-byte-test.true))

pub returns : goal.returns
returns c =
    ap (λ m. m == 0) (c.loop-byte.invariant ∙ ap (λ b. cond b 0 1) (ap (list_all (λ b. not (is_mark b))) (take_all c.loop-byte.byte-index c.args.text.now c.loop-byte-test.false)))
    ∙ none (list_all (λ b. not (is_mark b)) c.args.text.now)
