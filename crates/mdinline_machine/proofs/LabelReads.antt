-- Labels as the machine of inline text sees them, through the events that were read: that of a full reference, and the own label of a bracket.
use Rattle.std.specs.Prelude.{nat_lt}
use Rattle.markdown_base.specs.declared.event.Name.{Name}
use Rattle.markdown_base.specs.declared.event.Name.TheVariants.{LineEnding, SpaceOrTab}
use Rattle.markdown_base.specs.declared.event.Point.{Point}
use Rattle.markdown_base.specs.Events.{is_enter}
use Rattle.markdown_base.specs.Places.{shown, stands_before}
use Rattle.markdown_tokenizer.proofs.Positions.TextOrder.{begins-before_end}
use Rattle.markdown_tokenizer.specs.Alike.{bytes_up_to}
use Rattle.markdown_tokenizer.specs.Sight.{point_or, sight_in}
use Rattle.mdinline_full_references.proofs.FullReferences.LabelEvents.{label-behind}
use Rattle.mdinline_full_references.proofs.FullReferences.WholeLabels.{Tells}
use Rattle.mdinline_full_references.specs.FullReference.{label_string}
use Rattle.mdinline_full_references.specs.FullReferenceRows.{label_behind}
use Rattle.mdconstructs_machines.specs.Innermost.{ended_next, innermost_spans}
use Rattle.mdinline_constructs.specs.HtmlText.{Piece, data_run, line_break, piece_at, piece_length}
use Rattle.mdinline_link_tails.specs.Resource.{line_events, string_events}
use Rattle.mdinline_text_machine.specs.Parts.{cut, leaf}
use Rattle.mdinline_labels.specs.Labels.{is_label}
use Rattle.mdinline_machine.specs.Brackets.{bytes_before, is_defined_label, is_wanted_at, spanned_bytes}
use Rattle.mdinline_machine.specs.BracketRows.{label_is_wanted, read_before}
use Rattle.mdinline_machine.proofs.Prelude.{◌≡◌, ℕ, zero, suc, ◌+◌, ◌<◌, ◌≤◌, ◌==◌, ◌&&◌, ◌||◌, List, [], ◌∷◌, ◌++◌, Bool, true, false, cond, refl, sym, ap, ◌∙◌, arith, nat_tests, length, take, drop, drop-drop, length-drop, take-take, flat_map, Event, Data, Seat, Byte, Given, IsText, Text, at-front, bytes_of}
use Rattle.mdinline_machine.proofs.Looks.{take-swap}
use Rattle.std.specs.List.{between}

-- ---- the bytes before the one that waits

-- what stands before another has no larger index
before-upto : (p q : Point) → stands_before p q ≡ true → p.index ≤ bytes_up_to q
before-upto p q h =
    let low : p.index ≤ q.index = index-first p.index q.index p.vs q.vs h in
    elim (q.vs == 0) as (λ t. p.index ≤ cond t q.index (suc q.index)) [ true ↦ low | false ↦ omega (arith, low) ]
  where
    index-first : (i j m n : ℕ) → (nat_lt i j || ((i == j) && nat_lt m n)) ≡ true → i ≤ j
    index-first i j m n h = grind (arith, nat_tests)

-- the bytes before the one that waits are those before the byte at the front
pub read-before : (g : Given) (text : Text) → IsText g text → (p : ℕ) (s : Seat) (ss : List Seat) → drop p text.seats ≡ s ∷ ss → read_before g (sight_in g text p Byte) ≡ bytes_before g.bytes (s ∷ ss)
read-before g text is p s ss here =
    let v = sight_in g text p Byte in
    let m = v.enter_place.index in
    let n = bytes_up_to v.next in
    let left = length-drop p text.seats in
    let inside : p < length text.seats = omega (arith, left, ap length here) in
    let less = before-upto v.enter_place v.next (begins-before_end g text p is inside) in
    take-swap n m g.bytes ∙ take-take m n g.bytes less ∙ ap (λ o. let place = shown g.bytes (point_or text.end o) in take place.index g.bytes) (at-front text.seats p s ss here)

-- ---- what events stand for

-- an exit behind events that end with one adds nothing
abbrev EndsShut : List Event → Type 0
EndsShut [] = Unit {0}
EndsShut (e ∷ []) = is_enter e.kind ≡ false
EndsShut (e ∷ f ∷ es) = EndsShut (f ∷ es)

shut-more : (es : List Event) (x : Event) → is_enter x.kind ≡ false → EndsShut es → innermost_spans (es ++ x ∷ []) ≡ innermost_spans es
shut-more [] x exits h = ap (λ t. cond t (ended_next x []) [] ++ []) exits
shut-more (e ∷ []) x exits h =
    ap (λ t. cond t (ended_next e (x ∷ [])) [] ++ innermost_spans (x ∷ [])) h ∙ shut-more [] x exits tt ∙ sym (ap (λ t. cond t (ended_next e []) [] ++ []) h)
shut-more (e ∷ f ∷ es) x exits h = ap (λ l. cond (is_enter e.kind) (ended_next e (f ∷ es)) [] ++ l) (shut-more (f ∷ es) x exits h)

-- two lists that end so together do
both-shut : (xs ys : List Event) → EndsShut xs → EndsShut ys → EndsShut (xs ++ ys)
both-shut [] ys h k = k
both-shut (x ∷ []) [] h k = h
both-shut (x ∷ []) (y ∷ ys) h k = k
both-shut (x ∷ z ∷ xs) ys h k = both-shut (z ∷ xs) ys h k

leaf-shut : (bytes : List ℕ) (n : Name) (l : List Seat) → EndsShut (leaf bytes n l)
leaf-shut bytes n [] = tt
leaf-shut bytes n (s ∷ ss) = refl

line-shut : (bytes : List ℕ) (p : Piece) (l : List Seat) → EndsShut (line_events bytes (p, l))
line-shut bytes (line_break n) l = both-shut (leaf bytes LineEnding (take 1 l)) (leaf bytes SpaceOrTab (drop 1 l)) (leaf-shut bytes LineEnding (take 1 l)) (leaf-shut bytes SpaceOrTab (drop 1 l))
line-shut bytes (data_run n) l = leaf-shut bytes Data l

lines-shut : (bytes : List ℕ) (n : ℕ) (l : List Seat) → EndsShut (flat_map (line_events bytes) (cut piece_at piece_length n l))
lines-shut bytes zero l = tt
lines-shut bytes (suc n) [] = tt
lines-shut bytes (suc n) (s ∷ ss) =
    let p = piece_at (bytes_of (s ∷ ss)) in
    both-shut (line_events bytes (p, take (piece_length p) (s ∷ ss))) (flat_map (line_events bytes) (cut piece_at piece_length n (drop (piece_length p) (s ∷ ss)))) (line-shut bytes p (take (piece_length p) (s ∷ ss)))
    (lines-shut bytes n (drop (piece_length p) (s ∷ ss)))

-- ---- the label of a full reference

-- a list is not empty if it has a first part
first-of : {A : Type 0} (i : ℕ) (l : List A) → 1 ≤ i → i < length l → (s : A) × (ss : List A) × (take i l ≡ s ∷ ss)
first-of zero l some fits = absurd (omega (arith, some))
first-of (suc i) [] some fits = absurd (omega (arith, fits))
first-of (suc i) (s ∷ ss) some fits = (s, take i ss, refl)

-- and has one behind it
next-of : {A : Type 0} (i : ℕ) (l : List A) → i < length l → (s : A) × (ss : List A) × (drop i l ≡ s ∷ ss)
next-of i [] fits = absurd (omega (arith, fits))
next-of zero (s ∷ ss) fits = (s, ss, refl)
next-of (suc i) (s ∷ ss) fits = next-of i ss (omega (arith, fits))

taken-length : (i : ℕ) (l : List Seat) → i ≤ length l → length (bytes_of (take i l)) ≡ i
taken-length zero l h = refl
taken-length (suc i) [] h = absurd (omega (arith, h))
taken-length (suc i) (s ∷ ss) h = ap suc (taken-length i ss (omega (arith, h)))

-- which labels are defined, a document and a text of it
module _ (defined : List ℕ → Bool) (g : Given) (text : Text) where
  -- a label is wanted, by the place where its text begins
  abbrev pub is_wanted_from : ℕ → List ℕ → Bool
  is_wanted_from q label =
      let behind = drop q text.seats in
      is_defined_label defined (bytes_before g.bytes (drop (length label) behind)) (string_events g.bytes (take (length label) behind))

  -- so it is behind the `]` at a place
  pub wanted-is : (p : ℕ) → is_wanted_from (p + 1 + 1) ≡ is_wanted_at defined g.bytes (drop p text.seats)
  wanted-is p =
      let two : p + 1 + 1 ≡ 2 + p = omega arith in
      let same : drop (p + 1 + 1) text.seats ≡ drop 2 (drop p text.seats) = ap (λ n. drop n text.seats) (let three : p + 1 + 1 ≡ p + 2 = omega arith in three) ∙ sym (drop-drop 2 p text.seats) in
      λ i label. is_defined_label defined (bytes_before g.bytes (drop (length label) (same i))) (string_events g.bytes (take (length label) (same i)))

  -- The machine's test says so behind the events of the label's string
  pub label-told : IsText g text → Tells g text (label_is_wanted defined) is_wanted_from
  label-told is = record {
    says = λ before q i local l at some fits.
        let (v, vs, front) = first-of i l some fits in
        let (z, zs, rest) = next-of i l fits in
        let few : i ≤ length l = omega (arith, fits) in
        let here : drop (q + i) text.seats ≡ z ∷ zs = sym (drop-drop i q text.seats) ∙ ap (drop i) at ∙ rest in
        let doc = bytes_before g.bytes (z ∷ zs) in
        let string = string_events g.bytes (take i l) in
        let whole = before ++ label_string g.bytes (take i l) in
        let behind : spanned_bytes doc (label_behind whole) ≡ spanned_bytes doc string =
        ap (λ x. spanned_bytes doc (label_behind (before ++ label_string g.bytes x))) front ∙ ap (spanned_bytes doc) (label-behind g.bytes before v vs)
        ∙ ap (flat_map (λ places. between places.0.index places.1.index doc)) (shut-more (string_events g.bytes (v ∷ vs)) _ refl (lines-shut g.bytes (length (v ∷ vs)) (v ∷ vs))) ∙ ap (λ x. spanned_bytes doc (string_events g.bytes x)) (sym front) in
        let size = taken-length i l few in
        ap (λ doc. is_defined_label defined doc (label_behind whole)) (read-before g text is (q + i) z zs here) ∙ ap (λ label. is_label label && defined label) behind
        ∙ (λ j. is_defined_label defined (bytes_before g.bytes (sym rest j)) (string_events g.bytes (take i l)))
        ∙ sym (λ j. is_defined_label defined (bytes_before g.bytes (drop (size j) (at j))) (string_events g.bytes (take (size j) (at j))));
  }
