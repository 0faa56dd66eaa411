-- The texts of chains of two lists, one behind the other, and what they are read as: those of the first are as they were, and those of the second are moved.
use Rattle.std.proofs.Common.{Bool, List, Option, [], ap, append-nil, arith, false, get_or, length, map, refl, subst, suc, sym, true, zero, ℕ, ⊎_elim, ◌++◌, ◌+◌, ◌<◌, ◌∙◌, ◌∷◌, ◌≡◌, ◌≤◌}
use Rattle.std.proofs.Math.Bool.{and-false}
use Rattle.std.proofs.lemmas.Bool.{and_parts}
use Rattle.std.proofs.lemmas.Bool.Decides.{nat_tests}
use Rattle.std.proofs.lemmas.List.{length-map, map-append}
use Rattle.std.proofs.lemmas.List.Elements.{filter-append}
use Rattle.std.specs.List.{AllByRecursion, flat_map}
use Rattle.std.specs.Prelude.{All, filter, is_none, nat_lt, not, ◌&&◌, ◌==◌, ◌||◌}
use Rattle.std.proofs.lemmas.Simd.{map-map}
use Rattle.markdown_base.proofs.Common.{every-append, every-map, filter-none}
use Rattle.markdown_base.proofs.Scans.{IsReturnPlace, IsSeatPlace, place-of}
use Rattle.markdown_base.specs.Events.{EndsBelow}
use Rattle.markdown_base.specs.Places.{IsPointOf, in_range, stands_before}
use Rattle.markdown_base.specs.Virtual.{Seat, begins_with_lf, point, virtual}
use Rattle.markdown_base.specs.declared.configuration.ParseOptions.{ParseOptions}
use Rattle.markdown_base.specs.declared.event.Content.{Content}
use Rattle.markdown_base.specs.declared.event.Event.{Event}
use Rattle.markdown_base.specs.declared.event.Point.{Point}
use Rattle.markdown_edits.specs.Links.{previous_of}
use Rattle.markdown_tokenizer.proofs.Positions.Order.{every-kept}
use Rattle.markdown_tokenizer.specs.Text.{Given}
use Rattle.markdown_children.proofs.ChainOrder.Following.{Fits, fits_next, whole-from}
use Rattle.markdown_children.proofs.ChainOrder.Forward.{ends-inside}
use Rattle.markdown_children.specs.Chains.{begins, chain_of, fits, fitting_starts}
use Rattle.markdown_children.specs.Children.{with_children}
use Rattle.markdown_children.specs.LawStatements.{LeadOnFrom}
use Rattle.markdown_children.specs.Parts.{IsForward}
use Rattle.markdown_children.specs.Reads.{text_from, text_of_chain}
use Rattle.markdown_children.specs.Ready.{IsReady, place_at}
use Rattle.mdinline_text_machine.proofs.DeepSpans.Chunks.{chain-seats, chunk_seats}
use Rattle.mddocument_parts.proofs.ChildrenOfBoth.{GoForward, all-begin, before-moved, children-of-both, first-chain, first-place, ready-forward, second-chain, second-place, starts-both, starts-inside}
use Rattle.mddocument_parts.proofs.Virtual.{virtual-of-both, IsNear, near}
use Rattle.mddocument_parts.specs.Moved.{begins_line, line_endings, moved_event, moved_point, moved_seat}
use Rattle.mddocument_parts.specs.ReadTexts.{ReadsMove, StandsBefore}
use Rattle.mddocument_parts.proofs.Choices.{filter-mapped}

-- ==== The texts of chains of two lists, one behind the other: those of the first are as they were, and those of the second are moved.
-- ---- virtual bytes between places

-- a place is no later than the first of the bytes behind these
abbrev pub IsUpTo : (bytes : ℕ) → Point → Type 0
IsUpTo bytes p = stands_before (point 1 1 bytes 0) p ≡ false

-- The virtual bytes of a document are those of one, and behind them those of another, moved
pub record IsDocumentOfBoth (lines bytes : ℕ) (all one two : Given) : Type 0 where
  pub is : virtual all.tab all.bytes ≡ virtual one.tab one.bytes ++ map (moved_seat lines bytes) (virtual two.tab two.bytes)
  pub before : AllByRecursion (λ (s : Seat). s.point.index < bytes) (virtual one.tab one.bytes)

later-number : (i j k m n : ℕ) → (nat_lt k m || ((k == m) && nat_lt 0 n)) ≡ false → (nat_lt (i + k) m || ((i + k == m) && nat_lt j n)) ≡ false
later-number i j k m n h = grind (arith, nat_tests)

below-number : (i j k m n : ℕ) → i < k → (nat_lt i (m + k) || ((i == m + k) && nat_lt j n)) ≡ true
below-number i j k m n h = grind (arith, nat_tests)

-- the text of a chain has the virtual bytes of its chunks
pub seats-of : (g : Given) (events : List Event) (ks : List ℕ) → (text_of_chain g events ks).seats ≡ flat_map (chunk_seats g events) ks
seats-of g events [] = refl
seats-of g events (k ∷ ks) = chain-seats g events k ks

module _ (lines bytes : ℕ) (all one two : Given) (h : IsDocumentOfBoth lines bytes all one two) where
  pub range-first : (from to : Point) → IsUpTo bytes to → filter (in_range from to) (virtual all.tab all.bytes) ≡ filter (in_range from to) (virtual one.tab one.bytes)
  range-first from to l =
      ap (filter (in_range from to)) h.is
      ∙ filter-append (in_range from to) (virtual one.tab one.bytes) (map (moved_seat lines bytes) (virtual two.tab two.bytes))
      ∙ ap (λ ss. filter (in_range from to) (virtual one.tab one.bytes) ++ ss) (filter-none (in_range from to) (map (moved_seat lines bytes) (virtual two.tab two.bytes)) (none (virtual two.tab two.bytes)))
      ∙ append-nil (filter (in_range from to) (virtual one.tab one.bytes))
    where
      none : (ss : List Seat) → AllByRecursion (λ s. in_range from to s ≡ false) (map (moved_seat lines bytes) ss)
      none [] = tt
      none (s ∷ ss) = (
        (λ d. not (stands_before (moved_point lines bytes s.point) from) && later-number s.point.index s.point.vs bytes to.index to.vs l d) ∙ and-false (not (stands_before (moved_point lines bytes s.point) from)),
        none ss,
      )

  pub range-second : (from to : Point) → filter (in_range (moved_point lines bytes from) (moved_point lines bytes to)) (virtual all.tab all.bytes) ≡ map (moved_seat lines bytes) (filter (in_range from to) (virtual two.tab two.bytes))
  range-second from to =
      let test : Seat → Bool = in_range (moved_point lines bytes from) (moved_point lines bytes to) in
      ap (filter test) h.is
      ∙ filter-append test (virtual one.tab one.bytes) (map (moved_seat lines bytes) (virtual two.tab two.bytes))
      ∙ ap (λ ss. ss ++ filter test (map (moved_seat lines bytes) (virtual two.tab two.bytes)))
      (filter-none test (virtual one.tab one.bytes)
      (every-map (λ (s : Seat). s.point.index < bytes) (λ s. test s ≡ false)
      (λ s l. ap (λ b. not b && stands_before s.point (moved_point lines bytes to)) (below-number s.point.index s.point.vs bytes from.index from.vs l)) (virtual one.tab one.bytes) h.before))
      ∙ filter-mapped test (in_range from to) (moved_seat lines bytes)
      (λ s. let p = before-moved lines bytes s.point from in let q = before-moved lines bytes s.point to in (λ d. not (p d) && q d)) (virtual two.tab two.bytes)

  -- ---- chunks and chains

  module _ (x y : List Event) where
    abbrev both : List Event
    both = x ++ map (moved_event lines bytes (length x)) y

    first-seats : (ks : List ℕ) → AllByRecursion (IsForward x) ks → AllByRecursion (λ k. IsUpTo bytes (place_at x (k + 1))) ks → flat_map (chunk_seats all both) ks ≡ flat_map (chunk_seats one x) ks
    first-seats [] f u = refl
    first-seats (k ∷ ks) f u =
        let w = f.0.within in
        let from = first-place x y lines bytes k (omega arith) in
        let to = first-place x y lines bytes (k + 1) w in
        let here : chunk_seats all both k ≡ chunk_seats one x k = (λ d. filter (in_range (from d) (to d)) (virtual all.tab all.bytes)) ∙ range-first (place_at x k) (place_at x (k + 1)) u.0 in
        let rest = first-seats ks f.1 u.1 in
        (λ d. here d ++ rest d)

    second-seats : (ks : List ℕ) → AllByRecursion (IsForward y) ks → flat_map (chunk_seats all both) (map (λ k. length x + k) ks) ≡ map (moved_seat lines bytes) (flat_map (chunk_seats two y) ks)
    second-seats [] f = refl
    second-seats (k ∷ ks) f =
        let w = f.0.within in
        let z : length x + k + 1 ≡ length x + (k + 1) = omega arith in
        let from = second-place x y lines bytes k (omega arith) in
        let to = ap (place_at both) z ∙ second-place x y lines bytes (k + 1) w in
        let here : chunk_seats all both (length x + k) ≡ map (moved_seat lines bytes) (chunk_seats two y k) =
        (λ d. filter (in_range (from d) (to d)) (virtual all.tab all.bytes)) ∙ range-second (place_at y k) (place_at y (k + 1)) in
        let rest = second-seats ks f.1 in
        (λ d. here d ++ rest d) ∙ sym (map-append (moved_seat lines bytes) (chunk_seats two y k) (flat_map (chunk_seats two y) ks))

    -- the text of a chain of the first
    pub text-first : (c : ℕ) → c < length x → AllByRecursion (IsForward x) (chain_of x c) → AllByRecursion (λ k. IsUpTo bytes (place_at x (k + 1))) (chain_of x c) → (text_from all both c).seats ≡ (text_from one x c).seats
    text-first c l f u =
        ap (λ (ks : List ℕ). (text_of_chain all both ks).seats) (first-chain x y lines bytes c l f)
        ∙ seats-of all both (chain_of x c) ∙ first-seats (chain_of x c) f u ∙ sym (seats-of one x (chain_of x c))

    -- the text of a chain of the second
    pub text-second : (c : ℕ) → c < length y → AllByRecursion (IsForward y) (chain_of y c) → (text_from all both (length x + c)).seats ≡ map (moved_seat lines bytes) (text_from two y c).seats
    text-second c l f =
        ap (λ (ks : List ℕ). (text_of_chain all both ks).seats) (second-chain x y lines bytes c l f)
        ∙ seats-of all both (map (λ k. length x + k) (chain_of y c)) ∙ second-seats (chain_of y c) f ∙ sym (ap (map (moved_seat lines bytes)) (seats-of two y (chain_of y c)))

-- ==== The chains of two lists, one behind the other, read: those of the first as they were, and those of the second moved.
-- the list with its chains that fit read: in place of each, what its text is read as
abbrev pub with_chains_read : Option Content → Given → (List Seat → List Event) → List Event → List Event
with_chains_read wanted g reads events = with_children wanted events (map (λ c. reads (text_from g events c).seats) (fitting_starts wanted events))

-- the chunks of the chains that fit end within so many bytes
pub record EndUpTo (wanted : Option Content) (bytes : ℕ) (events : List Event) : Type 0 where
  pub chunks : (c : ℕ) → begins wanted events c ≡ true → AllByRecursion (λ k. IsUpTo bytes (place_at events (k + 1))) (chain_of events c)

-- ---- what chains are read as

map-agree : {A B : Type 0} (P : A → Type 0) (f g : A → B) → ((x : A) → P x → f x ≡ g x) → (xs : List A) → AllByRecursion P xs → map f xs ≡ map g xs
map-agree P f g e [] h = refl
map-agree P f g e (x ∷ xs) h = let a = e x h.0 in let r = map-agree P f g e xs h.1 in (λ d. a d ∷ r d)

-- What chains of both are read as, by what those of the first and of the second are read as
pub chains-read-both : (wanted : Option Content) (lines bytes : ℕ) (all one two : Given) (x y : List Event) (reads reads_one reads_two : List Seat → List Event)
    → IsDocumentOfBoth lines bytes all one two → GoForward wanted x → GoForward wanted y → All (EndsBelow (length x)) x → EndUpTo wanted bytes x
    → ((c : ℕ) → begins wanted x c ≡ true → reads (text_from one x c).seats ≡ reads_one (text_from one x c).seats)
    → ((c : ℕ) → begins wanted y c ≡ true → reads (map (moved_seat lines bytes) (text_from two y c).seats) ≡ map (moved_event lines bytes 0) (reads_two (text_from two y c).seats))
    → let first = with_chains_read wanted one reads_one x in
    with_chains_read wanted all reads (x ++ map (moved_event lines bytes (length x)) y) ≡ first ++ map (moved_event lines bytes (length first)) (with_chains_read wanted two reads_two y)
chains-read-both wanted lines bytes all one two x y reads reads_one reads_two h k l ends up same moves =
    let both = x ++ map (moved_event lines bytes (length x)) y in
    let of_both : ℕ → List Event = λ c. reads (text_from all both c).seats in
    let of_one : ℕ → List Event = λ c. reads_one (text_from one x c).seats in
    let of_two : ℕ → List Event = λ c. reads_two (text_from two y c).seats in
    let first_starts = fitting_starts wanted x in
    let second_starts = fitting_starts wanted y in
    let firsts : map of_both first_starts ≡ map of_one first_starts =
    map-agree (λ c. begins wanted x c ≡ true) of_both of_one
    (λ c b. ap reads (text-first lines bytes all one two h x y c (starts-inside wanted x c b) (k c b) (up.chunks c b)) ∙ same c b) first_starts (all-begin wanted x) in
    let seconds : map of_both (map (λ c. length x + c) second_starts) ≡ map (map (moved_event lines bytes 0)) (map of_two second_starts) =
    map-map of_both (λ c. length x + c) second_starts
    ∙ map-agree (λ c. begins wanted y c ≡ true) (λ c. of_both (length x + c)) (λ c. map (moved_event lines bytes 0) (of_two c))
    (λ c b. ap reads (text-second lines bytes all one two h x y c (starts-inside wanted y c b) (l c b)) ∙ moves c b) second_starts (all-begin wanted y)
    ∙ sym (map-map (map (moved_event lines bytes 0)) of_two second_starts) in
    ap (with_children wanted both)
    (ap (map of_both) (starts-both x y lines bytes wanted) ∙ map-append of_both first_starts (map (λ c. length x + c) second_starts) ∙ (λ d. firsts d ++ seconds d))
    ∙ children-of-both wanted x y (map of_one first_starts) (map of_two second_starts) lines bytes k l ends (length-map first_starts of_one)

-- ---- where virtual bytes and places are

-- The virtual bytes of bytes and of those that begin a line behind them are those of both
pub document-of-both : (t : ℕ) (a b : List ℕ) (o p q : ParseOptions) → begins_line b a ≡ true
    → IsDocumentOfBoth (line_endings a) (length a) (record { bytes = a ++ b; options = o; tab = t }) (record { bytes = a; options = p; tab = t }) (record { bytes = b; options = q; tab = t })
document-of-both t a b o p q h = record {
  is = virtual-of-both t a b h;
  before = every-map (IsNear (length a)) (λ (s : Seat). s.point.index < length a) (λ s n. n.0) (virtual t a) (near t (length a) a 1 1 0 (omega arith));
}

upto-number : (k m n : ℕ) → m ≤ k → (0 < n → m < k) → (nat_lt k m || ((k == m) && nat_lt 0 n)) ≡ false
upto-number k m n l h = grind (arith, nat_tests)

-- a place of bytes is no later than the first behind them; if it is in a tab, behind its first virtual byte, the tab is there
place-inside : (t : ℕ) → 0 < t → (a : List ℕ) (p : Point) → IsPointOf t a p → (p.index ≤ length a) × (0 < p.vs → (p.index < length a) × (get_or a p.index 0 ≡ 9))
place-inside t some a p h = ⊎_elim
    (λ (s : IsSeatPlace t a p). (s.reached.inside, λ l. ((s.in_tab l).0, (s.in_tab l).1)))
    (λ (r : IsReturnPlace a p). (let w = r.1 in omega arith, λ l. absurd (let z : p.vs ≡ 0 = r.0 in omega arith)))
    (place-of t some a p h)

pub place-upto : (t : ℕ) → 0 < t → (a : List ℕ) (p : Point) → IsPointOf t a p → IsUpTo (length a) p
place-upto t some a p h = let w = place-inside t some a p h in upto-number (length a) p.index p.vs w.0 (λ l. (w.1 l).0)

module _ (t : ℕ) (a : List ℕ) (wanted : Option Content) (events : List Event) (ready : IsReady t a wanted events) where
  -- what holds of each chunk that fits holds of those of a chain
  fits-all : (P : ℕ → Type 0) → ((k : ℕ) → Fits wanted events k → P k) → (k : ℕ) (ks : List ℕ) → Fits wanted events k → LeadOnFrom events k ks → AllByRecursion P (k ∷ ks)
  fits-all P f k [] h lead = (f k h, tt)
  fits-all P f k (d ∷ ks) h lead = (f k h, fits-all P f d ks (fits_next t a wanted events ready k d h lead.0) lead.2)

  pub all-chunks : (P : ℕ → Type 0) → ((k : ℕ) → Fits wanted events k → P k) → (c : ℕ) → begins wanted events c ≡ true → AllByRecursion P (chain_of events c)
  all-chunks P f c b =
      let fit = (and_parts (fits wanted events c) (is_none (previous_of events c)) b).0 in
      let w = whole-from t a wanted events ready c fit in
      subst (AllByRecursion P) (sym w.1) (fits-all P f c w.0 fit w.2)

  -- chunks that can be read end within the document
  pub ready-up-to : 0 < t → EndUpTo wanted (length a) events
  ready-up-to some = record { chunks = all-chunks (λ k. IsUpTo (length a) (place_at events (k + 1))) (λ k f. place-upto t some a (place_at events (k + 1)) (ready.readable k f).to.0) }

-- ---- texts that stand before the end

-- the last of bytes that end a line is no tab
last-tab : (b a : List ℕ) → begins_line b a ≡ true → (i : ℕ) → i < length a → get_or a i 0 ≡ 9 → i + 1 < length a
last-tab b [] h i l e = absurd (omega arith)
last-tab b (x ∷ []) h zero l e = absurd (let no : true ≡ false = sym h ∙ ap (λ x. (x == 10) || ((x == 13) && not (begins_with_lf b))) e in cc)
last-tab b (x ∷ []) h (suc i) l e = absurd (omega arith)
last-tab b (x ∷ y ∷ a) h zero l e = omega arith
last-tab b (x ∷ y ∷ a) h (suc i) l e = let more = last-tab b (y ∷ a) h i (omega arith) e in omega arith

end-number : (n i j e m v : ℕ) → i < n → e ≤ i + 1 → (nat_lt i m || ((i == m) && nat_lt j v)) ≡ true → m < n → (0 < v → m + 1 < n) → e < n
end-number n i j e m v l near before inside tab = grind (arith, nat_tests)

module _ (t : ℕ) (some : 0 < t) (a b : List ℕ) (ends : begins_line b a ≡ true) where
  -- virtual bytes before a place inside the bytes end inside
  range-stands : (from to : Point) → IsPointOf t a to → to.index < length a → AllByRecursion (StandsBefore (length a)) (filter (in_range from to) (virtual t a))
  range-stands from to place inside =
      let in_tab = (place-inside t some a to place).1 in
      every-kept (IsNear (length a)) (StandsBefore (length a)) (in_range from to)
      (λ s n test. (
        n.0,
        end-number (length a) s.point.index s.point.vs s.end.index to.index to.vs n.0 n.1 (and_parts (not (stands_before s.point from)) (stands_before s.point to) test).1 inside
            (λ l. let w = in_tab l in last-tab b a ends to.index w.0 w.1),
      ))
      (virtual t a) (near t (length a) a 1 1 0 (omega arith))

  module _ (o : ParseOptions) (events : List Event) where
    abbrev given : Given
    given = record { bytes = a; options = o; tab = t }

    chunks-stand : (ks : List ℕ) → AllByRecursion (λ k. IsPointOf t a (place_at events (k + 1)) × ((place_at events (k + 1)).index < length a)) ks → AllByRecursion (StandsBefore (length a)) (flat_map (chunk_seats given events) ks)
    chunks-stand [] h = tt
    chunks-stand (k ∷ ks) h =
        every-append (StandsBefore (length a)) (chunk_seats given events k) (flat_map (chunk_seats given events) ks) (range-stands (place_at events k) (place_at events (k + 1)) h.0.0 h.0.1) (chunks-stand ks h.1)

    -- The text of a chain stands before the end of the document if its chunks end before it
    pub texts-stand : (wanted : Option Content) → IsReady t a wanted events → ((k : ℕ) → fits wanted events k ≡ true → (place_at events (k + 1)).index < length a)
        → (c : ℕ) → begins wanted events c ≡ true → AllByRecursion (StandsBefore (length a)) (text_from given events c).seats
    texts-stand wanted ready before c h =
        subst (AllByRecursion (StandsBefore (length a))) (sym (seats-of given events (chain_of events c)))
        (chunks-stand (chain_of events c)
        (all-chunks t a wanted events ready (λ k. IsPointOf t a (place_at events (k + 1)) × ((place_at events (k + 1)).index < length a)) (λ k f. ((ready.readable k f).to.0, before k f)) c h))

-- ---- readings that move

module _ (reads : List ℕ → List Seat → List Event) (move : ReadsMove reads) (wanted : Option Content) (t : ℕ) (a b : List ℕ) (line : begins_line b a ≡ true) (o p q : ParseOptions) (x y : List Event) where
  abbrev all : Given
  all = record { bytes = a ++ b; options = o; tab = t }

  abbrev one : Given
  one = record { bytes = a; options = p; tab = t }

  abbrev two : Given
  two = record { bytes = b; options = q; tab = t }

  -- The chains of two lists of events of a document in two parts, read in a way that moves with its text
  pub reads-both : GoForward wanted x → GoForward wanted y → All (EndsBelow (length x)) x → EndUpTo wanted (length a) x
      → ((c : ℕ) → begins wanted x c ≡ true → AllByRecursion (StandsBefore (length a)) (text_from one x c).seats)
      → let first = with_chains_read wanted one (reads a) x in
      with_chains_read wanted all (reads (a ++ b)) (x ++ map (moved_event (line_endings a) (length a) (length x)) y) ≡ first ++ map (moved_event (line_endings a) (length a) (length first)) (with_chains_read wanted two (reads b) y)
  reads-both k l ends up before =
      chains-read-both wanted (line_endings a) (length a) all one two x y (reads (a ++ b)) (reads a) (reads b) (document-of-both t a b o p q line) k l ends up
      (λ c h. (move a b line).0 (text_from one x c).seats (before c h))
      (λ c h. (move a b line).1 (line_endings a) 0 (text_from two y c).seats)

  -- so it is for lists whose chains can be read, if those of the first end before its end
  pub ready-reads-both : 0 < t → IsReady t a wanted x → IsReady t b wanted y → ((k : ℕ) → fits wanted x k ≡ true → (place_at x (k + 1)).index < length a)
      → let first = with_chains_read wanted one (reads a) x in
      with_chains_read wanted all (reads (a ++ b)) (x ++ map (moved_event (line_endings a) (length a) (length x)) y) ≡ first ++ map (moved_event (line_endings a) (length a) (length first)) (with_chains_read wanted two (reads b) y)
  ready-reads-both some h k before =
      reads-both (ready-forward t a wanted x h) (ready-forward t b wanted y k) (ends-inside t a wanted x h) (ready-up-to t a wanted x h some) (texts-stand t some a b line p x wanted h before)
