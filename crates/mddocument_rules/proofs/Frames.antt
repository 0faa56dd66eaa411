-- Spans of containers: each begins where it may stand, and all that begin in a part end behind it.
use Rattle.mddocument_rules.proofs.Prelude.{◌≡◌, ◌∙◌, ◌==◌, ℕ, zero, suc, Bool, true, false, cond, List, [], ◌∷◌, ◌++◌, drop, length, map, reverse, take, None, refl, sym, ap, subst, append-nil, append_assoc, cond_both, or_right, flat_map, nat_le, nat_lt, Enter, Exit, Name, Point, Seat, is_wanted, event, bytes_of, Mark, leaf_marks, span_marks, white, indent, Container, Item, Prefix, footnote, item, quote, all_entered, entered, list_names, Row, Frame, begin_of, begun_all, begun_marks, enters_of, exits, frames_at, frames_of, going_marks, going_on_at, list_at, list_begun, list_name, prefixes_marks, standing, holds_blocks, is_in, may_stand, ◌&&◌, not}
use Rattle.std.proofs.lemmas.List.{reverse-append}
use Rattle.markdown_base.specs.declared.event.Name.TheVariants as name
use Rattle.mddocument_rules.proofs.Definitions.{begins-are}
use Rattle.mddocument_rules.proofs.Passes.{free-kept, Free, MarksStand, Passes, free-leaf, passes-both, passes-none, span-passes}
use Rattle.mddocument_rules.proofs.Places.{NotInList}

-- what is around where these spans are open
abbrev pub within : List Name → List Frame → List Name
within around [] = around
within around (f ∷ fs) = within (f.name ∷ around) fs

-- each stands on the ones before it
abbrev pub Stacked : List Name → List Frame → Type 0
Stacked around [] = Unit {0}
Stacked around (f ∷ fs) = (may_stand around f.name ≡ true) × Stacked (f.name ∷ around) fs

pub within-both : (around : List Name) (xs ys : List Frame) → within around (xs ++ ys) ≡ within (within around xs) ys
within-both around [] ys = refl
within-both around (f ∷ xs) ys = within-both (f.name ∷ around) xs ys

pub stacked-both : (around : List Name) (xs ys : List Frame) → Stacked around xs → Stacked (within around xs) ys → Stacked around (xs ++ ys)
stacked-both around [] ys h k = k
stacked-both around (f ∷ xs) ys h k = (h.0, stacked-both (f.name ∷ around) xs ys h.1 k)

pub stacked-behind : (around : List Name) (xs ys : List Frame) → Stacked around (xs ++ ys) → Stacked (within around xs) ys
stacked-behind around [] ys h = h
stacked-behind around (f ∷ xs) ys h = stacked-behind (f.name ∷ around) xs ys h.1

-- ---- the spans of containers
abbrev Roomy : List Name → Type 0
Roomy around = holds_blocks around ≡ true

list-stands : (i : Item) (around : List Name) → Roomy around → may_stand around (list_name i) ≡ true
list-stands i around h = cond_both (nat_le 1 i.digits) name.ListOrdered name.ListUnordered (λ n. may_stand around n ≡ true) (λ e. h) (λ e. h)

list-is : (i : Item) → is_wanted list_names (list_name i) ≡ true
list-is i = cond_both (nat_le 1 i.digits) name.ListOrdered name.ListUnordered (λ n. is_wanted list_names n ≡ true) (λ e. refl) (λ e. refl)

one-stacked : (c : Container) (around : List Name) → Roomy around → Stacked around (frames_of c) × Roomy (within around (frames_of c))
one-stacked (quote q) around h = ((h, tt), refl)
one-stacked (footnote f) around h = ((h, tt), refl)
one-stacked (item i) around h = ((list-stands i around h, (list-is i, tt)), refl)

pub containers-stacked : (cs : List Container) (around : List Name) → Roomy around → Stacked around (flat_map frames_of cs) × Roomy (within around (flat_map frames_of cs))
containers-stacked [] around h = (tt, h)
containers-stacked (c ∷ cs) around h =
    let first = one-stacked c around h in
    let rest = containers-stacked cs (within around (frames_of c)) first.1 in
    (stacked-both around (frames_of c) (flat_map frames_of cs) first.0 rest.0, subst Roomy (sym (within-both around (frames_of c) (flat_map frames_of cs))) rest.1)

begun-stacked : (ps : List Prefix) (around : List Name) → Roomy around → Stacked around (list_begun ps)
begun-stacked [] around h = tt
begun-stacked (p ∷ ps) around h = by p.container
  where
    by : (c : Container) → Stacked around (elim c [ quote q ↦ [] | item i ↦ cond (nat_lt i.list i.line) (record { name = list_name i; line = i.list } ∷ []) [] | footnote f ↦ [] ])
    by (quote q) = tt
    by (footnote f) = tt
    by (item i) = cond_both (nat_lt i.list i.line) (record { name = list_name i; line = i.list } ∷ []) [] (Stacked around) (λ e. (list-stands i around h, tt)) (λ e. tt)

list-stacked : (rs : List Row) (around : List Name) → Roomy around → Stacked around (list_at rs)
list-stacked [] around h = tt
list-stacked (r ∷ rs) around h = cond_both r.is_left_blank (list_at rs) (list_begun r.begun) (Stacked around) (λ e. list-stacked rs around h) (λ e. begun-stacked r.begun around h)

-- those in which a part stands; and a line that is not left blank stands in a container, or in the document itself
pub frames-stacked : (r : Row) (rs : List Row) → Stacked [] (frames_at r rs)
frames-stacked r rs =
    let cs = standing r rs in
    let all = containers-stacked cs [] refl in
    let c = r.is_left_blank && (length cs == going_on_at rs) in
    stacked-both [] (flat_map frames_of cs) (cond c (list_at rs) []) all.0
    (cond_both c (list_at rs) [] (Stacked (within [] (flat_map frames_of cs))) (λ e. list-stacked rs (within [] (flat_map frames_of cs)) all.1) (λ e. tt))

pub frames-roomy : (r : Row) (rs : List Row) → r.is_left_blank ≡ false → Roomy (within [] (frames_at r rs))
frames-roomy r rs e =
    let cs = standing r rs in
    let none : frames_at r rs ≡ flat_map frames_of cs =
    ap (λ b. flat_map frames_of cs ++ cond (b && (length cs == going_on_at rs)) (list_at rs) []) e ∙ append-nil (flat_map frames_of cs) in
    subst (λ fs. Roomy (within [] fs)) (sym none) (containers-stacked cs [] refl).1

-- ---- ends
abbrev popped : List Frame → List Name → List Name
popped [] around = around
popped (f ∷ fs) around = popped fs (drop 1 around)

popped-both : (xs ys : List Frame) (around : List Name) → popped (xs ++ ys) around ≡ popped ys (popped xs around)
popped-both [] ys around = refl
popped-both (x ∷ xs) ys around = popped-both xs ys (drop 1 around)

popped-all : (fs : List Frame) (around : List Name) → popped (reverse fs) (within around fs) ≡ around
popped-all [] around = refl
popped-all (f ∷ fs) around =
    ap (λ l. popped l (within (f.name ∷ around) fs)) (reverse-append (f ∷ []) fs) ∙ popped-both (reverse fs) (f ∷ []) (within (f.name ∷ around) fs) ∙ ap (drop 1) (popped-all fs (f.name ∷ around))

-- marks that stand anywhere, also directly in a list
pub record Anywhere (ms : List Mark) : Type 0 where
  pub passes : (around : List Name) → Passes around ms

pub anywhere-none : Anywhere []
anywhere-none = record { passes = λ around. passes-none around }

pub anywhere-both : (xs ys : List Mark) → Anywhere xs → Anywhere ys → Anywhere (xs ++ ys)
anywhere-both xs ys h k = record { passes = λ around. passes-both around xs ys (h.passes around) (k.passes around) }

pub anywhere-free : (ms : List Mark) → Anywhere ms → Free ms
anywhere-free ms h = record { passes = λ around ok. h.passes around }

-- what an item enters, with its list or without
abbrev item_frames : Item → (with_list : Bool) → List Frame
item_frames i b = cond b (record { name = list_name i; line = i.list } ∷ []) [] ++ record { name = name.ListItem; line = i.line } ∷ []

module _ (bytes : List ℕ) where
  exit-each : (place : Point) (fs : List Frame) (around : List Name) (ys : List Mark) → MarksStand (popped fs around) ys → MarksStand around (map (λ (f : Frame). (event bytes Exit f.name place, None)) fs ++ ys)
  exit-each place [] around ys h = h
  exit-each place (f ∷ fs) around ys h = (tt, exit-each place fs (drop 1 around) ys h)

  pub exits-stand : (place : Point) (fs : List Frame) (around : List Name) (ys : List Mark) → MarksStand around ys → MarksStand (within around fs) (exits bytes fs place ++ ys)
  exits-stand place fs around ys h = exit-each place (reverse fs) (within around fs) ys (subst (λ a. MarksStand a ys) (sym (popped-all fs around)) h)

  -- ---- what stands between lines, also directly in a list
  pub between-leaf : (n : Name) (seats : List Seat) → ((around : List Name) → may_stand around n ≡ true) → Anywhere (leaf_marks bytes n seats)
  between-leaf n seats m = record { passes = λ around. span-passes bytes around n seats [] (m around, tt) (passes-none (n ∷ around)) (λ e. passes-none around) }

  pub spaces : (seats : List Seat) → Anywhere (white bytes seats)
  spaces seats = between-leaf name.SpaceOrTab seats (λ around. or_right (not (is_in list_names around)) true refl)

  quote-goes : (seats : List Seat) → Anywhere (span_marks bytes name.BlockQuotePrefix seats (leaf_marks bytes name.BlockQuoteMarker (take 1 seats) ++ white bytes (drop 1 seats)))
  quote-goes seats = record {
    passes = λ around.
        let marker = leaf_marks bytes name.BlockQuoteMarker (take 1 seats) in
        let behind = white bytes (drop 1 seats) in
        span-passes bytes around name.BlockQuotePrefix seats (marker ++ behind) (or_right (not (is_in list_names around)) true refl, tt)
        (passes-both (name.BlockQuotePrefix ∷ around) marker behind ((free-leaf bytes name.BlockQuoteMarker (take 1 seats) refl).passes (name.BlockQuotePrefix ∷ around) refl) ((spaces (drop 1 seats)).passes (name.BlockQuotePrefix ∷ around)))
        (λ e. passes-both around marker behind (subst (λ (s : List Seat). Passes around (leaf_marks bytes name.BlockQuoteMarker (take 1 s))) (sym e) (passes-none around)) ((spaces (drop 1 seats)).passes around));
  }

  pub goings : (c : Container) (seats : List Seat) → Anywhere (going_marks bytes c seats)
  goings (quote q) seats =
      let n = indent (bytes_of seats) in
      let one : drop (suc n) seats ≡ drop 1 (drop n seats) = drop-one n seats in
      anywhere-both (white bytes (take n seats)) (span_marks bytes name.BlockQuotePrefix (drop n seats) (leaf_marks bytes name.BlockQuoteMarker (take 1 (drop n seats)) ++ white bytes (drop (suc n) seats))) (spaces (take n seats))
      (subst (λ (s : List Seat). Anywhere (span_marks bytes name.BlockQuotePrefix (drop n seats) (leaf_marks bytes name.BlockQuoteMarker (take 1 (drop n seats)) ++ white bytes s))) (sym one) (quote-goes (drop n seats)))
    where
      drop-one : (n : ℕ) (xs : List Seat) → drop (suc n) xs ≡ drop 1 (drop n xs)
      drop-one zero xs = refl
      drop-one (suc n) [] = refl
      drop-one (suc n) (x ∷ xs) = drop-one n xs
  goings (item i) seats = spaces seats
  goings (footnote f) seats = spaces seats

  pub prefixes-pass : (ps : List Prefix) (seats : List Seat) → Anywhere (prefixes_marks bytes ps seats)
  prefixes-pass [] seats = anywhere-none
  prefixes-pass (p ∷ ps) seats = anywhere-both (going_marks bytes p.container (take p.size seats)) (prefixes_marks bytes ps (drop p.size seats)) (goings p.container (take p.size seats)) (prefixes-pass ps (drop p.size seats))

  -- ---- containers that begin
  one-begins : (c : Container) (place : Point) (around : List Name) (ys : List Mark) → Stacked around (entered c) → (NotInList (within around (entered c)) → MarksStand (within around (entered c)) ys) → MarksStand around (enters_of bytes c place ++ ys)
  one-begins (quote q) place around ys h k = ((h.0, tt), k refl)
  one-begins (footnote f) place around ys h k = ((h.0, tt), k refl)
  one-begins (item i) place around ys h k = by (i.list == i.line) h k
    where
      by : (b : Bool) → Stacked around (item_frames i b) → (NotInList (within around (item_frames i b)) → MarksStand (within around (item_frames i b)) ys)
          → MarksStand around ((cond b ((event bytes Enter (list_name i) place, None) ∷ []) [] ++ (event bytes Enter name.ListItem place, None) ∷ []) ++ ys)
      by true h k = ((h.0, tt), ((h.1.0, tt), k refl))
      by false h k = ((h.0, tt), k refl)

  pub begun-stand : (ps : List Prefix) (seats : List Seat) (around : List Name) (ys : List Mark) → Stacked around (all_entered ps) → MarksStand (within around (all_entered ps)) ys → MarksStand around (begun_all bytes ps seats ++ ys)
  begun-stand [] seats around ys h w = w
  begun-stand (p ∷ ps) seats around ys h w =
      let c = p.container in
      let enters = enters_of bytes c (begin_of seats) in
      let here = begun_marks bytes c (take p.size seats) in
      let more = begun_all bytes ps (drop p.size seats) in
      let there = within around (entered c) in
      let rest : MarksStand there (more ++ ys) =
      begun-stand ps (drop p.size seats) there ys (stacked-behind around (entered c) (all_entered ps) h) (subst (λ a. MarksStand a ys) (within-both around (entered c) (all_entered ps)) w) in
      let both : MarksStand around (enters ++ (here ++ (more ++ ys))) = one-begins c (begin_of seats) around (here ++ (more ++ ys)) (stacked-front around (entered c) (all_entered ps) h) (λ ok. (begins-are (free-kept bytes) c (take p.size seats)).passes there ok (more ++ ys) rest) in
      subst (MarksStand around) (sym (append_assoc enters (here ++ more) ys ∙ ap (λ l. enters ++ l) (append_assoc here more ys))) both
    where
      stacked-front : (around : List Name) (xs ys : List Frame) → Stacked around (xs ++ ys) → Stacked around xs
      stacked-front around [] ys h = tt
      stacked-front around (f ∷ xs) ys h = (h.0, stacked-front (f.name ∷ around) xs ys h.1)
