-- Virtual bytes that are cut from the front, item by item, into delimiter runs and items that hold none: their runs are as long as can be.
use Rattle.mddocument.proofs.FlowTexts.InlineCuts.{no-endings}
use Rattle.mddocument.proofs.Prelude.{◌≡◌, ℕ, zero, suc, ◌+◌, ◌<◌, ◌≤◌, ◌==◌, true, false, cond, inl, inr, List, [], ◌∷◌, ◌++◌, length, take, drop, Option, Some, None, refl, sym, ◌∙◌, subst, arith, ◌⊎◌, AllByRecursion, flat_map, prefix_len, nat_tests, flat_map-append, append-nil, take-append-drop, every-append, Event, Enter, Exit, AttentionSequence, Seat, end_after, every-back, every-front, event, EachThere, OfOption, Atom, InOneLine, IsCut, NoEnding, all_at, atom_events, atom_seats, events_of, seats_of, ItemCut, plain-line, drop-less, Found, Grammar, item_length, bytes_of, item_events, delimiter_run, run_length, is_delimiter}
use Rattle.mddocument.proofs.Emphasis.RunAtoms.{AreDelimiters, AreWholeRuns, IsQuiet, Stops, is_image_marker, is_run, others-quiet}
use Rattle.mddocument.proofs.FlowTexts.InlineSteps.{IsFree, run-delimiters}
use Rattle.mdinline_text_machine.specs.Parts.{cut_remembering}

-- an atom is no run, and no first marker of an image
abbrev IsNoRun : Atom → Type 0
IsNoRun a = (is_run a ≡ false) × (is_image_marker a ≡ true → NoEnding (atom_seats a))

-- ---- runs before atoms
no-runs-before : (xs ys : List Atom) → AllByRecursion IsNoRun xs → AreWholeRuns ys → AreWholeRuns (xs ++ ys)
no-runs-before [] ys others h = h
no-runs-before (a ∷ xs) ys others h =
    let other = others.0.0 in
    ((λ is. let no : true ≡ false = sym is ∙ other in absurd (cc)), others.0.1, no-runs-before xs ys others.1 h)

run-before : (a : Atom) (atoms : List Atom) → is_image_marker a ≡ false → AreDelimiters (atom_seats a) → Stops a.first.byte (seats_of atoms) → AreWholeRuns atoms → AreWholeRuns (a ∷ atoms)
run-before a atoms other are stops h = ((λ is. (are, stops)), (λ is. absurd (let no : true ≡ false = sym is ∙ other in cc)), h)

-- a run stops at another byte
run-stops : (b : ℕ) (l : List Seat) → Stops b (drop (prefix_len (λ c. c == b) (bytes_of l)) l)
run-stops b [] = tt
run-stops b (s ∷ ss) =
    let n = prefix_len (λ c. c == b) (bytes_of ss) in
    elim (s.byte == b) as (λ x. (s.byte == b) ≡ x → Stops b (drop (cond x (1 + n) 0) (s ∷ ss))) [
      | true ↦ λ e. let one : suc n ≡ 1 + n = omega arith in subst (λ k. Stops b (drop k (s ∷ ss))) one (run-stops b ss)
      | false ↦ λ e same. grind (arith, nat_tests)
    ] refl

module _ (bytes : List ℕ) where
  -- events of no delimiter run, and of no first marker of an image, are those of such atoms
  others-no-runs : (atoms : List Atom) → AllByRecursion IsQuiet (events_of bytes atoms) → AllByRecursion IsNoRun atoms
  others-no-runs [] h = tt
  others-no-runs (a ∷ atoms) h =
      let end = end_after a.first.end a.others in
      let here = every-front IsQuiet (atom_events bytes a) (events_of bytes atoms) h in
      let pair = every-back IsQuiet (all_at bytes Enter a.first.point a.enters) (event bytes Enter a.name a.first.point ∷ event bytes Exit a.name end ∷ all_at bytes Exit end a.exits) here in
      ((pair.0.0, (λ is. absurd (let no : true ≡ false = sym is ∙ pair.0.1 in cc))), others-no-runs atoms (every-back IsQuiet (atom_events bytes a) (events_of bytes atoms) h))

  -- ---- an item at the front of virtual bytes
  -- its atoms are no runs; or it is one run, and another byte is behind it
  abbrev pub ItemRuns : List Seat → Found → Type 0
  ItemRuns l item =
      (c : ItemCut bytes l item)
      × (AllByRecursion IsNoRun c.atoms ⊎ ((a : Atom) × (c.atoms ≡ a ∷ []) × (is_image_marker a ≡ false) × AreDelimiters (atom_seats a) × Stops a.first.byte (drop (item_length item) l)))

  pub quiet-item : (l : List Seat) (item : Found) → ItemCut bytes l item → AllByRecursion IsQuiet (item_events bytes (item, take (item_length item) l)) → ItemRuns l item
  quiet-item l item c quiet = (c, inl (others-no-runs c.atoms (subst (AllByRecursion IsQuiet) c.are quiet)))

  pub free-item : (l : List Seat) (item : Found) → ItemCut bytes l item → IsFree 4 bytes item → ItemRuns l item
  free-item l item c free = quiet-item l item c (others-quiet (item_events bytes (item, take (item_length item) l)) (free (take (item_length item) l)))

  free-option : (l : List Seat) (o : Option Found) → OfOption (ItemCut bytes l) o → OfOption (IsFree 4 bytes) o → OfOption (ItemRuns l) o
  free-option l None c free = tt
  free-option l (Some item) c free = free-item l item c free

  -- so it is with constructs that can be cut and have no attention sequence
  pub free-constructs : (l : List Seat) (grammars : List (Grammar Found)) (text : List ℕ) → EachThere (ItemCut bytes l) grammars text → EachThere (IsFree 4 bytes) grammars text → EachThere (ItemRuns l) grammars text
  free-constructs l [] text cuts frees = tt
  free-constructs l (grammar ∷ grammars) text cuts frees = (free-option l (grammar.front text) cuts.0 frees.0, free-constructs l grammars text cuts.1 frees.1)

  pub run-item : (s : Seat) (ss : List Seat) → is_delimiter s.byte ≡ true → ItemRuns (s ∷ ss) (delimiter_run (run_length (bytes_of (s ∷ ss))))
  run-item s ss is =
      let n = prefix_len (λ c. c == s.byte) (bytes_of ss) in
      let one : suc n ≡ 1 + n = omega arith in
      let a : Atom = record { enters = []; name = AttentionSequence; first = s; others = take n ss; exits = [] } in
      let are : AreDelimiters (atom_seats a) = subst (λ k. AreDelimiters (take k (s ∷ ss))) (sym one) (run-delimiters s ss is) in
      let c : IsCut bytes ((delimiter_run (suc n)).events bytes (s ∷ take n ss)) (s ∷ take n ss) = record { atoms = a ∷ []; are = refl; all = sym (append-nil (s ∷ take n ss)); lines = (plain-line (atom_seats a) (no-endings (atom_seats a) are), tt) } in
      subst (λ k. ItemRuns (s ∷ ss) (delimiter_run k)) one (c, inr (a, refl, refl, are, run-stops s.byte ss))

  -- ---- all of them
  -- what is cut into atoms with such runs
  abbrev pub CutRuns : List Event → List Seat → Type 0
  CutRuns events seats = (c : IsCut bytes events seats) × AreWholeRuns c.atoms

  -- an item, and what is behind it
  pub item-more : (l : List Seat) (item : Found) (es : List Event) → ItemRuns l item → CutRuns es (drop (item_length item) l) → CutRuns (item_events bytes (item, take (item_length item) l) ++ es) l
  item-more l item es here more =
      let m = item_length item in
      let h = here.0 in
      let k = more.0 in (
        record {
          atoms = h.atoms ++ k.atoms;
          are = (λ i. h.are i ++ k.are i) ∙ sym (flat_map-append (atom_events bytes) h.atoms k.atoms);
          all = sym (take-append-drop m l) ∙ (λ i. h.all i ++ k.all i) ∙ sym (flat_map-append atom_seats h.atoms k.atoms);
          lines = every-append InOneLine h.atoms k.atoms h.lines k.lines;
        },
        elim here.1 [
          | inl none ↦ no-runs-before h.atoms k.atoms none more.1
          | inr run ↦ subst (λ atoms. AreWholeRuns (atoms ++ k.atoms)) (sym run.1) (run-before run.0 k.atoms run.2 run.3 (subst (Stops run.0.first.byte) k.all run.4) more.1)
        ],
      )

  none-runs : CutRuns [] []
  none-runs = (record { atoms = []; are = refl; all = refl; lines = tt }, tt)

  pub cut-runs : {M : Type 0} (after : M → Found → M) (front : M → List ℕ → Found) → ((q : M) (b : ℕ) (bs : List ℕ) → 0 < item_length (front q (b ∷ bs)))
      → ((q : M) (s : Seat) (ss : List Seat) → ItemRuns (s ∷ ss) (front q (bytes_of (s ∷ ss))))
      → (n : ℕ) (q : M) (l : List Seat) → length l ≤ n → CutRuns (flat_map (item_events bytes) (cut_remembering after front item_length n q l)) l
  cut-runs after front positive each zero q [] few = none-runs
  cut-runs after front positive each zero q (s ∷ ss) few = absurd (omega (arith, few))
  cut-runs after front positive each (suc n) q [] few = none-runs
  cut-runs after front positive each (suc n) q (s ∷ ss) few =
      let item = front q (bytes_of (s ∷ ss)) in
      let m = item_length item in
      let less : length (drop m (s ∷ ss)) ≤ length ss = drop-less m s ss (positive q s.byte (bytes_of ss)) in
      let rest = drop m (s ∷ ss) in
      let behind = after q item in
      item-more (s ∷ ss) item (flat_map (item_events bytes) (cut_remembering after front item_length n behind rest)) (each q s ss) (cut-runs after front positive each n behind rest (omega (arith, less, few)))
