-- What a state did, by the row that its table has for what waits; and what holds where a machine is called.
use Rattle.mdconstructs_machines.proofs.Prelude.{◌≡◌, ℕ, Option, refl, subst, sym, State, TokenizerValue, sight_of, StateRows, class_of, picked, step_of, DoesAll, step_in, counts, lines, paragraphs, peek, deep, back, save, words, wrap, IsCalled, is-called, Resolver}

-- the row of what waits says what the state does
pub by-row : {M W R D : Type 0} (class : ℕ → W) (state : StateRows W R D) (w : Option W) (t t' : TokenizerValue M R D) (answer : State) → class_of class (sight_of t).current ≡ w
    → DoesAll (step_of (picked (state.rows (class_of class (sight_of t).previous) w) t.given (sight_of t) t.configuration) (sight_of t) t.configuration) t t' answer
    → DoesAll (step_in class state t) t t' answer
by-row class state w t t' answer is h =
    subst (λ w. DoesAll (step_of (picked (state.rows (class_of class (sight_of t).previous) w) t.given (sight_of t) t.configuration) (sight_of t) t.configuration) t t' answer) (sym is) h

-- what holds when a machine is called is what its state requires
module _ {M : Type 0} where
  pub lines_called : (t : TokenizerValue M Unit Unit) → IsCalled lines counts t
  lines_called = is-called lines counts (λ local. refl)

  pub paragraphs_called : (t : TokenizerValue M Unit Unit) → IsCalled paragraphs counts t
  paragraphs_called = is-called paragraphs counts (λ local. refl)

  pub peek_called : (t : TokenizerValue M Unit Unit) → IsCalled peek counts t
  peek_called = is-called peek counts (λ local. refl)

  pub deep_called : (t : TokenizerValue M Unit Unit) → IsCalled deep counts t
  deep_called = is-called deep counts (λ local. refl)

  pub back_called : (t : TokenizerValue M Unit Unit) → IsCalled back counts t
  back_called = is-called back counts (λ local. refl)

  pub save_called : (t : TokenizerValue M Unit Unit) → IsCalled save counts t
  save_called = is-called save counts (λ local. refl)

  pub words_called : (t : TokenizerValue M Unit Unit) → IsCalled words counts t
  words_called = is-called words counts (λ local. refl)

  pub wrap_called : (t : TokenizerValue M Resolver Unit) → IsCalled wrap counts t
  wrap_called = is-called wrap counts (λ local. refl)
