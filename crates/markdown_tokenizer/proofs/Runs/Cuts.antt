-- A run that takes its cuts by index: what each push and the flush require, and what a push leaves.
use Rattle.markdown_tokenizer.proofs.Prelude.{◌≡◌, ◌+◌, ◌<◌, ℕ, List, [], length, get_or, drop, Contains, Name, State, Next, point, ParseState, Given, IsDocument, empty_text, TokenizerValue, start_seen, Rules, IsLawful, CanPush, HoldsOf, IsPushed, AreCuts, given_of}
use Rattle.markdown_tokenizer.proofs.Runs.Whole.{RunsBy, run-start, run-at, run-last, run-range, run-holds, run-pushed}

-- The run has come to the cut of this index. The range up to that cut can be pushed, and so can the range up to the document's end.
pub record IsAtCut {M R D : Type 0} (rules : M → Given → Rules R D) (p : ParseState M) (start : Name) (cuts : List (ℕ × ℕ)) (n : ℕ) (from : ℕ × ℕ) (t : TokenizerValue M R D) (state : State) : Type 0 where
  pub run : RunsBy rules p.bytes.now p.options.now p.machine.now start from (drop n cuts) t state
  pub holds : HoldsOf (rules t.machine t.given) t state
  pub range : n < length cuts → CanPush t.given t.text from (get_or cuts n (0, 0))
  pub last : CanPush t.given t.text from (length p.bytes.now, 0)

module _ {M R D : Type 0} {rules : M → Given → Rules R D} {p : ParseState M} {start : Name} {cuts : List (ℕ × ℕ)} where
  at-cut : (n : ℕ) (from : ℕ × ℕ) (t : TokenizerValue M R D) (state : State) → RunsBy rules p.bytes.now p.options.now p.machine.now start from (drop n cuts) t state
      → IsAtCut rules p start cuts n from t state
  at-cut n from t state run = record {
    run = run;
    holds = run-holds rules _ _ _ _ _ _ _ _ run;
    range = λ more. run-range rules _ _ _ _ _ _ _ _ _ (run-at rules _ _ _ _ _ cuts n (0, 0) _ _ more run);
    last = run-range rules _ _ _ _ _ _ _ _ _ (run-last rules _ _ _ _ _ _ _ _ run);
  }

  -- a new tokenizer is at the first cut
  pub at-start : ((m : M) (g : Given) → IsLawful g (rules m g)) → IsDocument (given_of p) → Contains (rules p.machine.now (given_of p)).starts start
      → AreCuts p.options.now.tab_size p.bytes.now cuts → (t : TokenizerValue M R D) → t ≡ start_seen (given_of p) p.machine.now (empty_text (point 1 1 0 0)) → IsAtCut rules p start cuts 0 (0, 0) t (Next start)
  at-start lawful document starts order t is =
      at-cut 0 (0, 0) t (Next start) (run-start rules _ _ _ document (lawful _ _).invariant_kept _ starts _ order _ is)

  module _ {n : ℕ} {from : ℕ × ℕ} {t : TokenizerValue M R D} {state : State} (at : IsAtCut rules p start cuts n from t state) (u : TokenizerValue M R D) (answer : State) where
    -- a push up to the cut leads to the next one
    pub at-next : n < length cuts → IsPushed (rules t.machine t.given) t from (get_or cuts n (0, 0)) state u answer
        → IsAtCut rules p start cuts (n + 1) (get_or cuts n (0, 0)) u answer
    at-next more pushes =
        at-cut (n + 1) (get_or cuts n (0, 0)) u answer (run-pushed rules _ _ _ _ _ _ _ _ _ (run-at rules _ _ _ _ _ cuts n (0, 0) _ _ more at.run) u answer pushes)

    -- after the push up to the document's end no cut is to come
    pub at-last : IsPushed (rules t.machine t.given) t from (length p.bytes.now, 0) state u answer → RunsBy rules p.bytes.now p.options.now p.machine.now start (length p.bytes.now, 0) [] u answer
    at-last pushes = run-pushed rules _ _ _ _ _ _ _ _ _ (run-last rules _ _ _ _ _ _ _ _ at.run) u answer pushes

    -- a flush can follow it
    pub at-end : IsPushed (rules t.machine t.given) t from (length p.bytes.now, 0) state u answer → HoldsOf (rules u.machine u.given) u answer
    at-end pushes = run-holds rules _ _ _ _ _ _ _ _ (at-last pushes)
