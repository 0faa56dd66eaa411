-- How a destination between `<` and `>` is read, up to its last mark.
use Rattle.mdinline_link_tails.proofs.Prelude.{◌≡◌, ℕ, ◌+◌, ◌*◌, ◌≤◌, ◌==◌, ◌&&◌, ◌||◌, List, [], ◌∷◌, ◌++◌, Bool, true, false, cond, Option, Some, None, refl, sym, ap, ◌∙◌, subst, arith, drop, length, option_and_then, drop-next, and-false, and-true, Event, EventName, Data, Resource, ResourceDestination, ResourceDestinationLiteral, ResourceDestinationString, Name, DestinationEnclosed, DestinationEnclosedEscape, Seat, Given, Text, Choice, Local, counts, Plays, Found, bytes_of, behind-more}
use Rattle.mdinline_labels.specs.Labels.{hides}
use Rattle.mdinline_labels.specs.Tails.{behind, enclosed_size, one_more}
use Rattle.mdinline_link_tails.specs.ResourceLooks.{enclosed_look}
use Rattle.mdinline_link_tails.specs.ResourceRows.{enclosed_escape_rows, enclosed_rows, is_not_enclosed, reads_on}
use Rattle.mdinline_link_tails.proofs.Resources.Steps.{PlaysResources, Does, yes, no, here, seen, Finds, stands, left, fails, fails-here, reads}
use Rattle.mdinline_link_tails.proofs.Resources.Touched.{touched-call}

-- or none
pub none-behind : (j : ℕ) → behind j (Some 0) ≡ Some j
none-behind j = let same : j + 0 ≡ j = omega arith in ap Some same

-- the spans that are open in it
abbrev pub in_enclosed : List EventName
in_enclosed = Resource ∷ ResourceDestination ∷ ResourceDestinationLiteral ∷ ResourceDestinationString ∷ Data ∷ []

-- the state, behind a backslash or not
abbrev pub enclosed_name : Bool → Name
enclosed_name true = DestinationEnclosedEscape
enclosed_name false = DestinationEnclosed

-- what is hidden is no mark
pub hidden-no : (w b : ℕ) → ((b == w) && false) ≡ false
hidden-no w b = and-false (b == w)

pub plain-so : (w b : ℕ) (t : Bool) → (b == w) ≡ t → ((b == w) && true) ≡ t
plain-so w b t h = and-true (b == w) ∙ h

not-enclosed : (b : ℕ) (t : Bool) → is_not_enclosed b ≡ t → (((b == 60) && true) || (b == 10)) ≡ t
not-enclosed b t h = ap (λ c. c || (b == 10)) (and-true (b == 60)) ∙ h

-- a byte is passed, behind which the next one is hidden or not
abbrev pub IsPassed : (hidden : Bool) → ℕ → List ℕ → (t : Bool) → Type 0
IsPassed hidden b bs t = (enclosed_size hidden (b ∷ bs) ≡ one_more (enclosed_size t bs)) × (enclosed_look hidden (b ∷ bs) ≡ 1 + enclosed_look t bs)

-- what is read at a byte behind a backslash, and at another
escaped-ends : (b : ℕ) (bs : List ℕ) → (b == 10) ≡ true → enclosed_size true (b ∷ bs) ≡ None
escaped-ends b bs h = λ i. cond (hidden-no 62 b i) (Some 0) (cond (hidden-no 60 b i || h i) None (one_more (enclosed_size (hides true b) bs)))

escaped-more : (b : ℕ) (bs : List ℕ) → (b == 10) ≡ false → IsPassed true b bs false
escaped-more b bs h = (
  λ i. cond (hidden-no 62 b i) (Some 0) (cond (hidden-no 60 b i || h i) None (one_more (enclosed_size (hidden-no 92 b i) bs))),
  λ i. cond (hidden-no 62 b i) 0 (cond (hidden-no 60 b i || h i) 0 (1 + enclosed_look (hidden-no 92 b i) bs)),
)

pub marked-ends : (b : ℕ) (bs : List ℕ) → (b == 62) ≡ true → enclosed_size false (b ∷ bs) ≡ Some 0
marked-ends b bs h = ap (λ t. cond t (Some 0) (cond (((b == 60) && true) || (b == 10)) None (one_more (enclosed_size (hides false b) bs)))) (plain-so 62 b true h)

pub broken : (b : ℕ) (bs : List ℕ) → (b == 62) ≡ false → is_not_enclosed b ≡ true → enclosed_size false (b ∷ bs) ≡ None
broken b bs h e = λ i. cond (plain-so 62 b false h i) (Some 0) (cond (not-enclosed b true e i) None (one_more (enclosed_size (hides false b) bs)))

pub goes-on : (b : ℕ) (bs : List ℕ) (t : Bool) → (b == 62) ≡ false → is_not_enclosed b ≡ false → (b == 92) ≡ t → IsPassed false b bs t
goes-on b bs t h e w = (
  λ i. cond (plain-so 62 b false h i) (Some 0) (cond (not-enclosed b false e i) None (one_more (enclosed_size (plain-so 92 b t w i) bs))),
  λ i. cond (plain-so 62 b false h i) 0 (cond (not-enclosed b false e i) 0 (1 + enclosed_look (plain-so 92 b t w i) bs)),
)

module _ (g : Given) (text : Text) (m : Plays g text) (r : PlaysResources g text m) (cs : List Choice) (p far : ℕ) (events : List Event) (seats : List Seat) where
  abbrev Found_in : (f : ℕ → Option Found) (j : ℕ) → Option ℕ → Option Found
  Found_in f j size = option_and_then f (behind j size)

  -- from a byte of it on, so many bytes behind its first, if it ends there: it has so many in all
  module _ (q0 : ℕ) (x : List Event) (f : ℕ → Option Found) (size : Option ℕ)
      (ends : (i : ℕ) (q : ℕ) (y : Seat) (ys : List Seat) (after : Local Unit Unit) → 1 ≤ i → q ≡ q0 + i → drop q text.seats ≡ y ∷ ys → (y.byte == 62) ≡ true → size ≡ Some i
      → Finds g text m cs p far events seats (4 * length (y ∷ ys) + 2) (stands g text m cs p far events seats in_enclosed q x after) DestinationEnclosed (f i)) where
    pub reads-enclosed : (l : List Seat) (hidden : Bool) (j q : ℕ) (local : Local Unit Unit) → 1 ≤ j → q ≡ q0 + j → drop q text.seats ≡ l
        → (enclosed_size hidden (bytes_of l) ≡ None → q + enclosed_look hidden (bytes_of l) ≤ far) → size ≡ behind j (enclosed_size hidden (bytes_of l))
        → Finds g text m cs p far events seats (4 * length l + 2) (left g text m cs p far events seats l in_enclosed q x local) (enclosed_name hidden) (Found_in f j (enclosed_size hidden (bytes_of l)))
    reads-enclosed [] true j q local some is at short rest = fails g text m cs p far events seats (4 * 0 + 2) [] in_enclosed q x local DestinationEnclosedEscape at (omega arith) (omega (arith, short refl)) (r.enclosed_escape _)
    reads-enclosed [] false j q local some is at short rest = fails g text m cs p far events seats (4 * 0 + 2) [] in_enclosed q x local DestinationEnclosed at (omega arith) (omega (arith, short refl)) (r.enclosed _)
    reads-enclosed (s ∷ ss) hidden j q local some is at short rest =
        let k = stands g text m cs p far events seats in_enclosed q x local in
        let b = s.byte in
        let bs = bytes_of ss in
        let calls = 4 * length (s ∷ ss) + 2 in
        let place : q + 1 ≡ q0 + (j + 1) = omega (arith, is) in
        let next = drop-next text.seats q s ss at in
        let found = λ (h : Bool) (o : Option ℕ). Finds g text m cs p far events seats calls k (enclosed_name h) (Found_in f j o) in
        let more = λ (h : Bool) (t : Bool) (reach : enclosed_size h (b ∷ bs) ≡ None → q + enclosed_look h (b ∷ bs) ≤ far) (rest : size ≡ behind j (enclosed_size h (b ∷ bs))) (goes : IsPassed h b bs t) (has : Does g text m k (enclosed_name h) (reads_on [] (enclosed_name t))).
        subst (λ o. Finds g text m cs p far events seats calls k (enclosed_name h) (option_and_then f o)) (sym (ap (behind j) goes.0 ∙ behind-more j (enclosed_size t bs)))
        (reads g text m cs p far events seats (4 * length ss + 2) calls in_enclosed in_enclosed q x x local (counts local) (enclosed_name h) (enclosed_name t) s ss (reads_on [] (enclosed_name t))
        (Found_in f (j + 1) (enclosed_size t bs)) (events ++ x) at (omega arith) (touched-call local) has refl (λ e i. i)
        (reads-enclosed ss t (j + 1) (q + 1) (counts local) (omega arith) place next (λ none. omega (arith, reach (goes.0 ∙ ap one_more none), goes.1)) (rest ∙ ap (behind j) goes.0 ∙ behind-more j (enclosed_size t bs)))) in
        elim hidden as (λ h. (enclosed_size h (b ∷ bs) ≡ None → q + enclosed_look h (b ∷ bs) ≤ far) → size ≡ behind j (enclosed_size h (b ∷ bs)) → found h (enclosed_size h (b ∷ bs))) [
          | true ↦ λ reach rest.
              let has = here g text m enclosed_escape_rows DestinationEnclosedEscape in_enclosed q (events ++ x) local s ss at r.enclosed_escape in
              elim (b == 10) as (λ t. (b == 10) ≡ t → found true (enclosed_size true (b ∷ bs))) [
                | true ↦ λ e.
                    subst (found true) (sym (escaped-ends b bs e))
                    (fails-here g text m cs p far events seats calls in_enclosed q x local DestinationEnclosedEscape s ss at (omega arith) (omega (arith, reach (escaped-ends b bs e))) (yes g text m k DestinationEnclosedEscape has (seen g text m (λ c. c == 10) true q s ss at e)))
                | false ↦ λ e. more true false reach rest (escaped-more b bs e) (no g text m k DestinationEnclosedEscape has (seen g text m (λ c. c == 10) false q s ss at e))
              ] refl
          | false ↦ λ reach rest.
              let has = here g text m enclosed_rows DestinationEnclosed in_enclosed q (events ++ x) local s ss at r.enclosed in
              elim (b == 62) as (λ t. (b == 62) ≡ t → found false (enclosed_size false (b ∷ bs))) [
                | true ↦ λ e. subst (λ o. Finds g text m cs p far events seats calls k DestinationEnclosed (option_and_then f o)) (sym (ap (behind j) (marked-ends b bs e) ∙ none-behind j)) (ends j q s ss local some is at e (rest ∙ ap (behind j) (marked-ends b bs e) ∙ none-behind j))
                | false ↦ λ e.
                    let has1 = no g text m k DestinationEnclosed has (seen g text m (λ c. c == 62) false q s ss at e) in
                    elim (is_not_enclosed b) as (λ t. is_not_enclosed b ≡ t → found false (enclosed_size false (b ∷ bs))) [
                      | true ↦ λ e1.
                          subst (found false) (sym (broken b bs e e1))
                          (fails-here g text m cs p far events seats calls in_enclosed q x local DestinationEnclosed s ss at (omega arith) (omega (arith, reach (broken b bs e e1))) (yes g text m k DestinationEnclosed has1 (seen g text m is_not_enclosed true q s ss at e1)))
                      | false ↦ λ e1.
                          let has2 = no g text m k DestinationEnclosed has1 (seen g text m is_not_enclosed false q s ss at e1) in
                          elim (b == 92) as (λ t. (b == 92) ≡ t → found false (enclosed_size false (b ∷ bs))) [
                            | true ↦ λ w. more false true reach rest (goes-on b bs true e e1 w) (yes g text m k DestinationEnclosed has2 (seen g text m (λ c. c == 92) true q s ss at w))
                            | false ↦ λ w. more false false reach rest (goes-on b bs false e e1 w) (no g text m k DestinationEnclosed has2 (seen g text m (λ c. c == 92) false q s ss at w))
                          ] refl
                    ] refl
              ] refl
        ] short rest
