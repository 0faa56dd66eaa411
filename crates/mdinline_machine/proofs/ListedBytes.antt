-- What begins with which byte goes by one list.
use Rattle.std.proofs.lemmas.List.Folds.{list_any-append}
use Rattle.std.proofs.lemmas.Bool.{cases_Bool}
use Rattle.mdinline_machine.proofs.BracketBytes.{begins-no-bracket}
use Rattle.mdinline_machine.proofs.InlineApart.{inline-apart}
use Rattle.mdinline_machine.proofs.Prelude.{◌≡◌, ℕ, ◌==◌, ◌&&◌, ◌||◌, Bool, true, false, inl, inr, eqb-true, refl, sym, ap, ◌∙◌, subst, or-false, Constructs, begins-classed, begins_run, inline_constructs, is_delimiter, is_line_feed, item_length, marked_grammars, some_first, text_byte}
use Rattle.mdinline_machine.proofs.RunBytes.{no-run}
use Rattle.mdinline_machine.specs.Beginnings.{Beginning, beginnings, bracket_beginnings, is_first, is_first_on, marked_beginnings, punctuation_beginnings, run_beginnings}
use Rattle.mdinline_machine.specs.Brackets.{begins_bracket, begins_end, begins_image, begins_link, is_close_bracket, is_exclamation, is_of_bracket, is_open_bracket}
use Rattle.mdinline_machine.specs.LawStatements.{AreTriedAtListed, BracketsAreListed, DataEndsAtListed, RunsAreListed, TildesAreData}

-- `||` without a last `false`
last : (x y z : Bool) → (x || (y || z)) ≡ (x || (y || (z || false)))
last x y z = ap (λ t. x || (y || t)) (sym (or-false z))

bracket-first : (byte : ℕ) → is_of_bracket byte ≡ is_first bracket_beginnings byte
bracket-first byte = last (is_open_bracket byte) (is_exclamation byte) (is_close_bracket byte)

-- a byte is that of an entry
abbrev is_its : ℕ → Beginning → Bool
is_its byte b = byte == b.byte

-- a byte begins something exactly if a construct, a run or a bracket may begin with it
pub first-parts : (byte : ℕ) → is_first beginnings byte ≡ (some_first marked_grammars byte || (is_delimiter byte || is_of_bracket byte))
first-parts byte =
    list_any-append (is_its byte) marked_beginnings punctuation_beginnings
    ∙ ap (λ t. some_first marked_grammars byte || t) (list_any-append (is_its byte) run_beginnings bracket_beginnings ∙ ap (λ t. is_delimiter byte || t) (sym (bracket-first byte)))

pub tried-listed : AreTriedAtListed
tried-listed byte = begins-classed text_byte item_length inline_constructs inline-apart byte

-- a byte is that of one marker at most, and that marker's option counts
abbrev of_runs : (attention struck star line tilde : Bool) → Bool
of_runs attention struck star line tilde = (attention && star) || ((attention && line) || ((struck && tilde) || false))

at-star : (a s : Bool) → a ≡ of_runs a s true false false
at-star true s = refl
at-star false true = refl
at-star false false = refl

at-line : (a s : Bool) → a ≡ of_runs a s false true false
at-line true s = refl
at-line false true = refl
at-line false false = refl

at-tilde : (a s : Bool) → s ≡ of_runs a s false false true
at-tilde true true = refl
at-tilde true false = refl
at-tilde false true = refl
at-tilde false false = refl

at-none : (a s : Bool) → false ≡ of_runs a s false false false
at-none true true = refl
at-none true false = refl
at-none false true = refl
at-none false false = refl

abbrev IsOn : Constructs → ℕ → Type 0
IsOn on b = begins_run on b ≡ of_runs on.attention on.gfm_strikethrough (b == 42) (b == 95) (b == 126)

run-on : (on : Constructs) (byte : ℕ) → begins_run on byte ≡ is_first_on run_beginnings on byte
run-on on byte =
    elim (cases_Bool (byte == 42)) [
      | inl star ↦ subst (IsOn on) (sym (eqb-true byte 42 star)) (at-star on.attention on.gfm_strikethrough)
      | inr no_star ↦ elim (cases_Bool (byte == 95)) [
        | inl line ↦ subst (IsOn on) (sym (eqb-true byte 95 line)) (at-line on.attention on.gfm_strikethrough)
        | inr no_line ↦ elim (cases_Bool (byte == 126)) [
          | inl tilde ↦ subst (IsOn on) (sym (eqb-true byte 126 tilde)) (at-tilde on.attention on.gfm_strikethrough)
          | inr no_tilde ↦
              no-run on byte (λ i. no_star i || (no_line i || (no_tilde i || false)))
              ∙ at-none on.attention on.gfm_strikethrough ∙ sym (λ i. of_runs on.attention on.gfm_strikethrough (no_star i) (no_line i) (no_tilde i))
        ]
      ]
    ]

-- without strikethrough the options of `*` and `_` are left, which are one
without : (a star line tilde : Bool) → of_runs a false star line tilde ≡ (a && (star || line))
without true star line tilde = ap (λ t. star || t) (or-false line)
without false star line tilde = refl

pub tildes-are-data : TildesAreData
tildes-are-data on off = (
  λ byte. run-on on byte ∙ ap (λ s. of_runs on.attention s (byte == 42) (byte == 95) (byte == 126)) off ∙ without on.attention (byte == 42) (byte == 95) (byte == 126),
  let bracket = begins-no-bracket on 126 refl in
      λ i. is_line_feed 126 || (some_first marked_grammars 126 || (off i || bracket i)),
)

bracket-on : (on : Constructs) (byte : ℕ) → begins_bracket on byte ≡ is_first_on bracket_beginnings on byte
bracket-on on byte = last (begins_link on byte) (begins_image on byte) (begins_end on byte)

pub runs-listed : RunsAreListed
runs-listed on byte = (refl, run-on on byte)

pub brackets-listed : BracketsAreListed
brackets-listed on byte = (bracket-first byte, bracket-on on byte)

pub data-listed : DataEndsAtListed
data-listed on byte =
    let marks = ap (λ t. t || begins_bracket on byte) (run-on on byte) ∙ ap (λ t. is_first_on run_beginnings on byte || t) (bracket-on on byte) in
    ap (λ t. is_line_feed byte || (some_first marked_grammars byte || t)) (marks ∙ sym (list_any-append (λ (b : Beginning). b.on on && (byte == b.byte)) run_beginnings bracket_beginnings))
