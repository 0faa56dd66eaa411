use Rattle.mddocument_editing.proofs.Prelude.{◌≡◌, take, cond, true, false, sym, ap, ◌∙◌, arith, inl, inr, cases_Bool, is_utf8, first_size}
use Rattle.mddocument_editing.proofs.CharSizes.{first-size, led_by, led-within}
use Rattle.mddocument_editing.proofs.positions.first_size.Goals as goal
use Rattle.mddocument_editing.proofs.positions.first_size.Goals.{else-size-gt1-via-then-size-gt1+then-size-bytes+else-is_utf8, else-size-gt1-via-then-size-gt1+else-size-bytes, else-size-gt1-via-else-size-gt1}

pub returns-then-is_utf8-clause-size : goal.returns-then-is_utf8-clause-size
returns-then-is_utf8-clause-size c =
    let bs = c.args.bytes.now in
    let text : is_utf8 (take (led_by bs) bs) ≡ true = ap (λ n. is_utf8 (take n bs)) (sym c.led_size-size.ensures) ∙ sym c.is_utf8.ensures ∙ c.if-is_utf8.true in
    c.led_size-size.ensures ∙ sym (first-size bs c.requires ∙ ap (λ b. cond b (led_by bs) 1) text)

pub returns-else-size-gt1-clause-size : goal.returns-else-size-gt1-clause-size
returns-else-size-gt1-clause-size c =
    let bs = c.args.bytes.now in
    let is = first-size bs c.requires in
    let fails : is_utf8 (take (led_by bs) bs) ≡ false → 1 ≡ first_size bs = λ e. sym (is ∙ ap (λ b. cond b (led_by bs) 1) e) in
    elim c.else-size-gt1.branch [
      | else-size-gt1-via-then-size-gt1+then-size-bytes+else-is_utf8 w ↦ fails (ap (λ n. is_utf8 (take n bs)) (sym c.led_size-size.ensures) ∙ sym w.is_utf8.ensures ∙ w.if-is_utf8.false)
      | else-size-gt1-via-then-size-gt1+else-size-bytes w ↦ elim (cases_Bool (is_utf8 (take (led_by bs) bs))) [
        | inl text ↦ absurd (omega (arith, led-within bs c.requires text))
        | inr e ↦ fails e
      ]
      | else-size-gt1-via-else-size-gt1 w ↦
          let one : led_by bs ≡ 1 = omega arith in
          elim (cases_Bool (is_utf8 (take (led_by bs) bs))) [
            | inl text ↦ sym (is ∙ ap (λ b. cond b (led_by bs) 1) text ∙ one)
            | inr e ↦ fails e
          ]
    ]
