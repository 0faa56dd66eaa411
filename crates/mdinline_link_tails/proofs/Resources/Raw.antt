-- How a destination with no `<` and `>` is read, up to its end.
use Rattle.mdinline_link_tails.proofs.Prelude.{◌≡◌, ℕ, ◌+◌, ◌-◌, ◌*◌, ◌≤◌, ◌==◌, ◌&&◌, ◌||◌, nat_le, List, [], ◌∷◌, ◌++◌, Bool, true, false, cond, Option, Some, None, refl, sym, ap, ◌∙◌, subst, arith, drop, length, option_and_then, drop-next, and-true, eqb-true, nat_tests, Event, EventName, Data, Resource, ResourceDestination, ResourceDestinationRaw, ResourceDestinationString, Name, DestinationRaw, DestinationRawEscape, Seat, Given, Text, Nothing, Next, Choice, Local, held, Ending, EndsWith, counts, more-is, more_than, size_b, with_b, Plays, Found, bytes_of, Rows, write, size_b_grows, behind-more, or-false}
use Rattle.markdown_base.proofs.Facts.Numbers.{unlike}
use Rattle.mdinline_text_machine.proofs.Texts.Steps.{WithRows}
use Rattle.mdinline_labels.specs.Labels.{hides}
use Rattle.mdinline_labels.specs.Tails.{behind, depth_behind, ends_raw, is_plain, is_raw_end, one_more, raw_end, raw_size}
use Rattle.mdinline_link_tails.specs.ResourceLooks.{raw_look}
use Rattle.mdinline_link_tails.specs.ResourceRows.{ends_raw_destination, raw_escape_rows, raw_rows, reads_on, size_b_falls}
use Rattle.mdinline_link_tails.proofs.Resources.Enclosed.{hidden-no, none-behind, plain-so}
use Rattle.mdinline_link_tails.proofs.Resources.Steps.{PlaysResources, Does, yes, no, here, seen, Finds, stands, left, fails, fails-here, reads}
use Rattle.mdinline_link_tails.proofs.Resources.Touched.{Touches, touched-call, touched-sized}

-- the spans that are open in it
abbrev pub in_raw : List EventName
in_raw = Resource ∷ ResourceDestination ∷ ResourceDestinationRaw ∷ ResourceDestinationString ∷ Data ∷ []

-- the state, behind a backslash or not
abbrev pub raw_name : Bool → Name
raw_name true = DestinationRawEscape
raw_name false = DestinationRaw

-- there is room for one more
room-left : (d : ℕ) → nat_le 32 d ≡ false → d + 1 ≤ 32
room-left d h = grind (arith, nat_tests)

-- a byte is passed, behind which so many parentheses are open, and the next byte is hidden or not
abbrev pub IsPassed : (d : ℕ) (h : Bool) → ℕ → List ℕ → (d' : ℕ) (h' : Bool) → Type 0
IsPassed d h b bs d' h' = (raw_size d h (b ∷ bs) ≡ one_more (raw_size d' h' bs)) × (raw_look d h (b ∷ bs) ≡ 1 + raw_look d' h' bs)

-- it ends at a byte, is none, or goes on behind it
pub raw-stops : (d : ℕ) (h : Bool) (b : ℕ) (bs : List ℕ) → is_raw_end d h b ≡ true → raw_size d h (b ∷ bs) ≡ raw_end d
raw-stops d h b bs e = ap (λ t. cond t (raw_end d) (cond (is_plain 40 h b && nat_le 32 d) None (one_more (raw_size (depth_behind d h b) (hides h b) bs)))) e

raw-breaks : (d : ℕ) (h : Bool) (b : ℕ) (bs : List ℕ) → is_raw_end d h b ≡ false → (is_plain 40 h b && nat_le 32 d) ≡ true → raw_size d h (b ∷ bs) ≡ None
raw-breaks d h b bs e deep = λ i. cond (e i) (raw_end d) (cond (deep i) None (one_more (raw_size (depth_behind d h b) (hides h b) bs)))

pub raw-goes : (d : ℕ) (h : Bool) (b : ℕ) (bs : List ℕ) (d' : ℕ) (h' : Bool) → is_raw_end d h b ≡ false → (is_plain 40 h b && nat_le 32 d) ≡ false → depth_behind d h b ≡ d' → hides h b ≡ h' → IsPassed d h b bs d' h'
raw-goes d h b bs d' h' e shallow depth hidden = (
  λ i. cond (e i) (raw_end d) (cond (shallow i) None (one_more (raw_size (depth i) (hidden i) bs))),
  λ i. cond (e i) 0 (cond (shallow i) 0 (1 + raw_look (depth i) (hidden i) bs)),
)

-- how many parentheses are open behind a byte
pub opens-one : (d b : ℕ) → (b == 40) ≡ true → depth_behind d false b ≡ d + 1
opens-one d b h = ap (λ t. cond t (d + 1) (cond ((b == 41) && true) (d - 1) d)) (plain-so 40 b true h)

pub closes-one : (d b : ℕ) (t : Bool) → (b == 40) ≡ false → (b == 41) ≡ t → depth_behind d false b ≡ cond t (d - 1) d
closes-one d b t h e = λ i. cond (plain-so 40 b false h i) (d + 1) (cond (plain-so 41 b t e i) (d - 1) d)

-- a byte that is hidden is no parenthesis
hidden-end : (d b : ℕ) (t : Bool) → ends_raw b ≡ t → is_raw_end d true b ≡ t
hidden-end d b t h = (λ i. ends_raw b || (hidden-no 41 b i && (d == 0))) ∙ or-false (ends_raw b) ∙ h

hidden-depth : (d b : ℕ) → depth_behind d true b ≡ d
hidden-depth d b = λ i. cond (hidden-no 40 b i) (d + 1) (cond (hidden-no 41 b i) (d - 1) d)

module _ (g : Given) (text : Text) (m : Plays g text) (r : PlaysResources g text m) (cs : List Choice) (p far : ℕ) (events : List Event) (seats : List Seat) where
  -- from a byte of it on, so many bytes behind its first, if it ends there: it has so many in all
  module _ (q0 : ℕ) (x : List Event) (f : ℕ → Option Found) (size : Option ℕ)
      (ends : (i q : ℕ) (y : Seat) (ys : List Seat) (after : Local Unit Unit) (hidden : Bool) → 1 ≤ i → q ≡ q0 + i → drop q text.seats ≡ y ∷ ys → size_b after ≡ 0 → size ≡ Some i
      → Does g text m (stands g text m cs p far events seats in_raw q x after) (raw_name hidden) ends_raw_destination
      → Finds g text m cs p far events seats (4 * length (y ∷ ys) + 5) (stands g text m cs p far events seats in_raw q x after) (raw_name hidden) (f i))
      (none : (i q : ℕ) → 1 ≤ i → q ≡ q0 + i → drop q text.seats ≡ [] → size ≡ Some i → (f i ≡ None) × (q ≤ far)) where
    -- what is found, if so many bytes more are read
    abbrev found : ℕ → Option ℕ → Option Found
    found j o = option_and_then f (behind j o)

    -- at the end of the text nothing is, and no look passes it
    found-none : (d j q : ℕ) → 1 ≤ j → q ≡ q0 + j → drop q text.seats ≡ [] → size ≡ behind j (raw_end d) → found j (raw_end d) ≡ None
    found-none d j q some is at rest = elim (d == 0) as (λ t. size ≡ behind j (cond t (Some 0) None) → found j (cond t (Some 0) None) ≡ None) [
      | true ↦ λ e. ap (option_and_then f) (none-behind j) ∙ (none j q some is at (e ∙ none-behind j)).0
      | false ↦ λ e. refl
    ] rest

    reach-none : (d j q : ℕ) → 1 ≤ j → q ≡ q0 + j → drop q text.seats ≡ [] → (raw_end d ≡ None → q + 0 ≤ far) → size ≡ behind j (raw_end d) → q ≤ far
    reach-none d j q some is at short rest = elim (d == 0) as (λ t. (cond {A = Option ℕ} t (Some 0) None ≡ None → q + 0 ≤ far) → size ≡ behind j (cond t (Some 0) None) → q ≤ far) [
      | true ↦ λ i e. (none j q some is at (e ∙ none-behind j)).1
      | false ↦ λ i e. let end = i refl in omega (arith, end)
    ] short rest

    -- all its parentheses are closed where it ends, or not
    ends-here : (hidden : Bool) (j q : ℕ) (local : Local Unit Unit) (s : Seat) (ss : List Seat) → 1 ≤ j → q ≡ q0 + j → drop q text.seats ≡ s ∷ ss → (raw_end (size_b local) ≡ None → q ≤ far) → size ≡ behind j (raw_end (size_b local))
        → Does g text m (stands g text m cs p far events seats in_raw q x local) (raw_name hidden) ends_raw_destination
        → Finds g text m cs p far events seats (4 * length (s ∷ ss) + 5) (stands g text m cs p far events seats in_raw q x local) (raw_name hidden) (found j (raw_end (size_b local)))
    ends-here hidden j q local s ss some is at reach rest has =
        let k = stands g text m cs p far events seats in_raw q x local in
        let calls = 4 * length (s ∷ ss) + 5 in
        elim (size_b local == 0) as (λ t. (size_b local == 0) ≡ t → Finds g text m cs p far events seats calls k (raw_name hidden) (found j (cond t (Some 0) None))) [
          | true ↦ λ e.
              subst (λ o. Finds g text m cs p far events seats calls k (raw_name hidden) (option_and_then f o)) (sym (none-behind j)) (ends j q s ss local hidden some is at (eqb-true (size_b local) 0 e) (rest ∙ ap (λ t. behind j (cond t (Some 0) None)) e ∙ none-behind j) has)
          | false ↦ λ e. fails-here g text m cs p far events seats calls in_raw q x local (raw_name hidden) s ss at (omega arith) (reach (ap (λ t. cond t (Some 0) None) e)) (no g text m k (raw_name hidden) has e)
        ] refl

    pub reads-raw : (l : List Seat) (hidden : Bool) (j q : ℕ) (local : Local Unit Unit) → 1 ≤ j → q ≡ q0 + j → drop q text.seats ≡ l → size_b local ≤ 32 → (raw_size (size_b local) hidden (bytes_of l) ≡ None → q + raw_look (size_b local) hidden (bytes_of l) ≤ far)
        → size ≡ behind j (raw_size (size_b local) hidden (bytes_of l))
        → Finds g text m cs p far events seats (4 * length l + 5) (left g text m cs p far events seats l in_raw q x local) (raw_name hidden) (found j (raw_size (size_b local) hidden (bytes_of l)))
    reads-raw [] true j q local some is at depth short rest =
        subst (Finds g text m cs p far events seats (4 * 0 + 5) (left g text m cs p far events seats [] in_raw q x local) DestinationRawEscape) (sym (found-none (size_b local) j q some is at rest))
        (fails g text m cs p far events seats (4 * 0 + 5) [] in_raw q x local DestinationRawEscape at (omega arith) (reach-none (size_b local) j q some is at short rest) (r.raw_escape _))
    reads-raw [] false j q local some is at depth short rest =
        subst (Finds g text m cs p far events seats (4 * 0 + 5) (left g text m cs p far events seats [] in_raw q x local) DestinationRaw) (sym (found-none (size_b local) j q some is at rest))
        (fails g text m cs p far events seats (4 * 0 + 5) [] in_raw q x local DestinationRaw at (omega arith) (reach-none (size_b local) j q some is at short rest) (r.raw _))
    reads-raw (s ∷ ss) hidden j q local some is at depth short rest =
        let k = stands g text m cs p far events seats in_raw q x local in
        let b = s.byte in
        let bs = bytes_of ss in
        let d = size_b local in
        let calls = 4 * length (s ∷ ss) + 5 in
        let place : q + 1 ≡ q0 + (j + 1) = omega (arith, is) in
        let next = drop-next text.seats q s ss at in
        let Here = λ (h : Bool) (o : Option ℕ). Finds g text m cs p far events seats calls k (raw_name h) (found j o) in
        let more = λ (h t : Bool) (after : Local Unit Unit) (rows : Rows Unit Unit) (one : Touches 1 local after) (fits : size_b after ≤ 32) (reach : raw_size d h (b ∷ bs) ≡ None → q + raw_look d h (b ∷ bs) ≤ far) (rest : size ≡ behind j (raw_size d h (b ∷ bs))) (goes : IsPassed d h b bs (size_b after) t)
        (has : Does g text m k (raw_name h) rows)
        (does : (e : Ending) → EndsWith g text m (held in_raw (q + 1) Nothing false (events ++ x) after) cs (Next (raw_name t)) e → WithRows g text m k cs e rows).
        subst (λ o. Finds g text m cs p far events seats calls k (raw_name h) (option_and_then f o)) (sym (ap (behind j) goes.0 ∙ behind-more j (raw_size (size_b after) t bs)))
        (reads g text m cs p far events seats (4 * length ss + 5) calls in_raw in_raw q x x local after (raw_name h) (raw_name t) s ss rows
        (found (j + 1) (raw_size (size_b after) t bs)) (events ++ x) at (omega arith) one has refl does
        (reads-raw ss t (j + 1) (q + 1) after (omega arith) place next fits (λ none. omega (arith, reach (goes.0 ∙ ap one_more none), goes.1)) (rest ∙ ap (behind j) goes.0 ∙ behind-more j (raw_size (size_b after) t bs)))) in
        elim hidden as (λ h. (raw_size d h (b ∷ bs) ≡ None → q + raw_look d h (b ∷ bs) ≤ far) → size ≡ behind j (raw_size d h (b ∷ bs)) → Here h (raw_size d h (b ∷ bs))) [
          | true ↦ λ reach rest.
              let has = here g text m raw_escape_rows DestinationRawEscape in_raw q (events ++ x) local s ss at r.raw_escape in
              elim (ends_raw b) as (λ t. ends_raw b ≡ t → Here true (raw_size d true (b ∷ bs))) [
                | true ↦ λ e.
                    subst (Here true) (sym (raw-stops d true b bs (hidden-end d b true e))) (ends-here true j q local s ss some is at (λ none. omega (arith, reach (raw-stops d true b bs (hidden-end d b true e) ∙ none))) (rest ∙ ap (behind j) (raw-stops d true b bs (hidden-end d b true e))) (yes g text m k DestinationRawEscape has (seen g text m ends_raw true q s ss at e)))
                | false ↦ λ e.
                    more true false (counts local) (reads_on [] DestinationRaw) (touched-call local) depth
                    reach rest (raw-goes d true b bs d false (hidden-end d b false e) (ap (λ t. t && nat_le 32 d) (hidden-no 40 b)) (hidden-depth d b) (hidden-no 92 b))
                    (no g text m k DestinationRawEscape has (seen g text m ends_raw false q s ss at e)) (λ e i. i)
              ] refl
          | false ↦ λ reach rest.
              let has = here g text m raw_rows DestinationRaw in_raw q (events ++ x) local s ss at r.raw in
              elim (is_raw_end d false b) as (λ t. is_raw_end d false b ≡ t → Here false (raw_size d false (b ∷ bs))) [
                | true ↦ λ e.
                    subst (Here false) (sym (raw-stops d false b bs e)) (ends-here false j q local s ss some is at (λ none. omega (arith, reach (raw-stops d false b bs e ∙ none))) (rest ∙ ap (behind j) (raw-stops d false b bs e)) (yes g text m k DestinationRaw has (seen g text m (is_raw_end d false) true q s ss at e)))
                | false ↦ λ e.
                    let has1 = no g text m k DestinationRaw has (seen g text m (is_raw_end d false) false q s ss at e) in
                    let same : (((b == 40) && true) && nat_le 32 d) ≡ ((b == 40) && nat_le 32 d) = ap (λ t. t && nat_le 32 d) (and-true (b == 40)) in
                    elim ((b == 40) && nat_le 32 d) as (λ t. ((b == 40) && nat_le 32 d) ≡ t → Here false (raw_size d false (b ∷ bs))) [
                      | true ↦ λ deep.
                          subst (Here false) (sym (raw-breaks d false b bs e (same ∙ deep)))
                          (fails-here g text m cs p far events seats calls in_raw q x local DestinationRaw s ss at (omega arith) (omega (arith, reach (raw-breaks d false b bs e (same ∙ deep))))
                          (yes g text m k DestinationRaw has1 (seen g text m (λ c. (c == 40) && nat_le 32 d) true q s ss at deep)))
                      | false ↦ λ deep.
                          let has2 = no g text m k DestinationRaw has1 (seen g text m (λ c. (c == 40) && nat_le 32 d) false q s ss at deep) in
                          elim (b == 40) as (λ t. (b == 40) ≡ t → Here false (raw_size d false (b ∷ bs))) [
                            | true ↦ λ opens.
                                let room : d + 1 ≤ 32 = room-left d (sym (ap (λ t. t && nat_le 32 d) opens) ∙ deep) in
                                let grown : more_than d ≡ d + 1 = more-is d (omega (arith, room)) in
                                more false false (with_b (more_than d) (counts local)) (reads_on (write size_b_grows ∷ []) DestinationRaw) (touched-sized (more_than d) local) (omega (arith, grown, room))
                                reach rest (raw-goes d false b bs (more_than d) false e (same ∙ deep) (opens-one d b opens ∙ sym grown) (ap (λ t. t && true) (unlike (λ c. c == 40) 92 refl b opens)))
                                (yes g text m k DestinationRaw has2 (seen g text m (λ c. c == 40) true q s ss at opens)) (λ e i. i)
                            | false ↦ λ opens.
                                let has3 = no g text m k DestinationRaw has2 (seen g text m (λ c. c == 40) false q s ss at opens) in
                                elim (b == 41) as (λ t. (b == 41) ≡ t → Here false (raw_size d false (b ∷ bs))) [
                                  | true ↦ λ closes.
                                      more false false (with_b (d - 1) (counts local)) (reads_on (write size_b_falls ∷ []) DestinationRaw) (touched-sized (d - 1) local) (omega (arith, depth))
                                      reach rest (raw-goes d false b bs (d - 1) false e (same ∙ deep) (closes-one d b true opens closes) (ap (λ t. t && true) (unlike (λ c. c == 41) 92 refl b closes)))
                                      (yes g text m k DestinationRaw has3 (seen g text m (λ c. c == 41) true q s ss at closes)) (λ e i. i)
                                  | false ↦ λ closes.
                                      let has4 = no g text m k DestinationRaw has3 (seen g text m (λ c. c == 41) false q s ss at closes) in
                                      elim (b == 92) as (λ t. (b == 92) ≡ t → Here false (raw_size d false (b ∷ bs))) [
                                        | true ↦ λ w.
                                            more false true (counts local) (reads_on [] DestinationRawEscape) (touched-call local) depth
                                            reach rest (raw-goes d false b bs d true e (same ∙ deep) (closes-one d b false opens closes) (plain-so 92 b true w))
                                            (yes g text m k DestinationRaw has4 (seen g text m (λ c. c == 92) true q s ss at w)) (λ e i. i)
                                        | false ↦ λ w.
                                            more false false (counts local) (reads_on [] DestinationRaw) (touched-call local) depth
                                            reach rest (raw-goes d false b bs d false e (same ∙ deep) (closes-one d b false opens closes) (plain-so 92 b false w))
                                            (no g text m k DestinationRaw has4 (seen g text m (λ c. c == 92) false q s ss at w)) (λ e i. i)
                                      ] refl
                                ] refl
                          ] refl
                    ] refl
              ] refl
        ] short rest
