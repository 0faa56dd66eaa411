use Rattle.markdown_base.proofs.Prelude.{◌≡◌, ◌≤◌, ℕ, ◌∷◌, ◌++◌, arith, rules, tests, codes, encode_ascii, code_point, shown_char}
use Rattle.markdown_base.proofs.util.char.format.Goals as goal

visible : (c : ℕ) → (c ≡ 96 → ⊥) → 33 ≤ c → c ≤ 126 → shown_char c ≡ codes "`" ++ (c ∷ codes "` (" ++ (code_point c ++ codes ")"))
visible c other low high = search (rules, tests)

pub returns-in-33-to-126 : goal.returns-in-33-to-126
returns-in-33-to-126 c =
    let low : 33 ≤ c.args.char = omega arith in
    let high : c.args.char ≤ 126 = omega arith in
    let other : c.args.char ≡ 96 → ⊥ = λ same. omega arith in
    record { shown = rw (visible c.args.char other low high) (rw (c.in_ok-code.ensures.shown, encode_ascii c.args.char (omega arith)) at c.format-in-33-to-126.ensures.ok) }
