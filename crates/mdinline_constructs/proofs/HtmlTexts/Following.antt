-- Which state follows a line ending, for the code of the states behind it.
use Rattle.mdinline_constructs.proofs.Prelude.{◌≡◌, ◌==◌, List, [], ◌∷◌, ◌++◌, Bool, cond, ap, HtmlTextData, Name, Retry, TokenizerValue, sight_of, Act, row, enter, picked, step_of, html_line_begins}
use Rattle.mdinline_constructs.proofs.HtmlTexts.Picked.{stepped}

module _ {M R D : Type 0} (t : TokenizerValue M R D) where
  -- data begins with the state of this name, or one of the others follows
  pub begun-by : (acts : List (Act R D)) (name : Name) (names : List Name) (v : Bool) → (t.configuration.local.tokenize_state.marker_b == name.number) ≡ v
      → stepped t (html_line_begins acts (name ∷ names))
      ≡ step_of (cond v (picked (row (acts ++ enter HtmlTextData ∷ []) (Retry name)) t.given (sight_of t) t.configuration) (picked (html_line_begins acts names) t.given (sight_of t) t.configuration)) (sight_of t) t.configuration
  begun-by acts name names v h =
      ap (λ v. step_of (cond v (picked (row (acts ++ enter HtmlTextData ∷ []) (Retry name)) t.given (sight_of t) t.configuration) (picked (html_line_begins acts names) t.given (sight_of t) t.configuration)) (sight_of t) t.configuration) h
