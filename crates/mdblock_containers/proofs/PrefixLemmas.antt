-- Lemmas on prefixes of a line, one written behind the other.
use Rattle.std.proofs.Common.{◌≡◌, ℕ, zero, suc, ◌+◌, ◌-◌, ◌<◌, ◌≤◌, Bool, true, false, cond, List, [], ◌∷◌, ◌++◌, length, take, drop, map, min, get_or, length-drop, length-take, refl, sym, ap, ◌∙◌, subst, arith, append_assoc, zero-add}
use Rattle.std.specs.Prelude.{◌==◌, ◌&&◌, not, nat_le, Some, None}
use Rattle.std.specs.List.{prefix_len}
use Rattle.std.proofs.lemmas.List.{append-nil, drop-drop, drop_more, drop-map, take-map, map-append, length-map}
use Rattle.std.proofs.lemmas.List.Sums.{sum_by-cons}
use Rattle.std.proofs.Math.Nat.{min-zero}
use Rattle.markdown_base.specs.declared.event.Event.{Event}
use Rattle.markdown_base.specs.declared.event.Kind.TheVariants.{Enter}
use Rattle.markdown_base.specs.declared.event.Name.TheVariants as name
use Rattle.markdown_base.specs.declared.event.Point.{Point}
use Rattle.markdown_base.specs.Places.{shown}
use Rattle.markdown_base.specs.Virtual.{Seat}
use Rattle.mdconstructs_tables.specs.Breaks.{is_white}
use Rattle.mdblock_leaf_blocks.specs.LeafBlocks.{bytes_of}
use Rattle.mdblock_leaf_blocks.specs.LeafEvents.{Mark}
use Rattle.mdblock_leaf_blocks.specs.LineKinds.{indent, unindented, begins_with}
use Rattle.mdblock_lines.specs.declared.containers.Container.{Container as CodeContainer}
use Rattle.mdblock_lines.specs.declared.containers.Prefix.{Prefix as CodePrefix}
use Rattle.mdblock_lines.specs.Containers.{Container, footnote, quote, item, Prefix, goes_on, quote_size, Quote}
use Rattle.mdblock_lines.specs.Lines.{place_after}
use Rattle.mdblock_lines.specs.declared.containers.ContainerKind.{ContainerKind}
use Rattle.mdblock_lines.specs.declared.containers.ContainerKind.TheVariants as kinds
use Rattle.mdblock_lines.specs.Views.{container_by, container_of, prefix_of, quote_of}
use Rattle.mdblock_containers.specs.declared.going.Open.{Open}
use Rattle.mdblock_containers.specs.Prefixes.{going_on, columns_of}
use Rattle.mdblock_containers.specs.PlaceEvents.{event_at}
use Rattle.mdblock_containers.specs.SeatPlaces.{AreSeatsAt, AreInside, IsInside, enters_at, events_of}
use Rattle.mdblock_containers.specs.Skeleton.{list_name, going_marks, begun_marks, prefixes_marks, begin_of, enters_of, begun_all}
use Rattle.mdblock_containers.specs.Views.{begun_of, open_of}
use Rattle.mdblock_containers.proofs.GoingLemmas.{goes_on_within, going_step}
use Rattle.mdblock_containers.proofs.RowLemmas.{begun_same}
use Rattle.mdblock_containers.proofs.SeatLemmas.{seats_drop, seats_take}

-- a front has no longer a front of its own
pub prefix_take : (p : ℕ → Bool) (n : ℕ) (xs : List ℕ) → prefix_len p (take n xs) ≤ prefix_len p xs
prefix_take p zero xs = omega arith
prefix_take p (suc n) [] = omega arith
prefix_take p (suc n) (x ∷ xs) = by (p x) (prefix_take p n xs)
  where
    by : (b : Bool) → prefix_len p (take n xs) ≤ prefix_len p xs → cond b (1 + prefix_len p (take n xs)) 0 ≤ cond b (1 + prefix_len p xs) 0
    by true e = omega arith
    by false e = omega arith

pub quote_goes : (quoted : Quote) (number : ℕ) (t : List ℕ) (size : ℕ) → goes_on (quote quoted) number t ≡ Some size → indent (take size t) + 1 ≤ length (take size t)
quote_goes quoted number t size e =
    let w : size ≤ length t = goes_on_within (quote quoted) number t size e in
    let n : length (take size t) ≡ min size (length t) = length-take size t in
    let f : indent (take size t) ≤ indent t = prefix_take is_white size t in
    let s : suc (indent t) ≤ size = by (begins_with 62 (unindented t)) (not (quoted.is_near && nat_le 4 (indent t))) e in
    omega arith
  where
    by : (a b : Bool) → cond (a && b) (Some (quote_size t)) None ≡ Some size → suc (indent t) ≤ size
    by true true q = let same : quote_size t ≡ size = cc in omega arith
    by true false q = absurd (cc)
    by false b q = absurd (cc)

-- the prefix with which a quote goes on has its marker
pub quote_fits : (list number : ℕ) (c : CodeContainer) (t part : List ℕ) (size : ℕ) → Some size ≡ goes_on (container_of list c) number t → part ≡ take size t → c.kind ≡ kinds.Quote → indent part + 1 ≤ length part
quote_fits list number c t part size e p q =
    let same : goes_on (container_of list c) number t ≡ goes_on (quote (quote_of c)) number t =
    ap (λ k. goes_on (container_by k list c) number t) q in
    subst (λ (l : List ℕ). indent l + 1 ≤ length l) (sym p) (quote_goes (quote_of c) number t size (sym (e ∙ same)))

module _ (t : ℕ) (bytes : List ℕ) where
  module _ (start : Point) (text : List ℕ) (seats : List Seat) (are : AreSeatsAt t bytes start seats) (is : text ≡ bytes_of seats) where
    pub part_seats : (place : Point) (at size : ℕ) → place ≡ place_after t bytes start at → at ≤ length text → AreSeatsAt t bytes place (take size (drop at seats))
    part_seats place at size e w =
        let n : length text ≡ length seats = ap (λ (l : List ℕ). length l) is ∙ length-map seats (λ (s : Seat). s.byte) in
        seats_take t bytes place (drop at seats) size (subst (λ (p : Point). AreSeatsAt t bytes p (drop at seats)) (sym e) (seats_drop t bytes start seats at are (omega (arith, n, w))))

    pub part_bytes : (rest part : List ℕ) (at size : ℕ) → rest ≡ drop at text → part ≡ take size rest → part ≡ bytes_of (take size (drop at seats))
    part_bytes rest part at size er ep =
        ep ∙ ap (take size) er ∙ (λ k. take size (drop at (is k))) ∙ ap (take size) (drop-map (λ (s : Seat). s.byte) at seats) ∙ take-map (λ (s : Seat). s.byte) size (drop at seats)

    -- one more prefix with which a container goes on
    pub going_written : (stack : List Open) (number i at size : ℕ) (d : Open) (rest part : List ℕ) (place : Point) (before after all : List Event) → i < length stack → rest ≡ drop at text
        → Some size ≡ goes_on (open_of (get_or stack i d)) number rest → part ≡ take size rest → place ≡ place_after t bytes start at → at ≤ length text
        → ((ss : List Seat) → AreSeatsAt t bytes place ss → part ≡ bytes_of ss → after ≡ before ++ events_of (going_marks bytes (open_of (get_or stack i d)) ss))
        → before ++ events_of (prefixes_marks bytes (going_on (map open_of (drop i stack)) number (drop at text)) (drop at seats)) ≡ all
        → after ++ events_of (prefixes_marks bytes (going_on (map open_of (drop (i + 1) stack)) number (drop (at + size) text)) (drop (at + size) seats)) ≡ all
    going_written stack number i at size d rest part place before after all h er eg ep el w write so_far =
        let c = open_of (get_or stack i d) in
        let ss = take size (drop at seats) in
        let ps = going_on (map open_of (drop (i + 1) stack)) number (drop (at + size) text) in
        let new : after ≡ before ++ events_of (going_marks bytes c ss) = write ss (part_seats place at size el w) (part_bytes rest part at size er ep) in
        let left : events_of (prefixes_marks bytes (going_on (map open_of (drop i stack)) number (drop at text)) (drop at seats)) ≡ events_of (going_marks bytes c ss) ++ events_of (prefixes_marks bytes ps (drop (at + size) seats)) =
        ap (λ l. events_of (prefixes_marks bytes l (drop at seats))) (going_step stack number text rest i at d h er size eg)
        ∙ map-append (λ (m : Mark). m.0) (going_marks bytes c ss) (prefixes_marks bytes ps (drop size (drop at seats)))
        ∙ ap (λ l. events_of (going_marks bytes c ss) ++ events_of (prefixes_marks bytes ps l)) (drop-drop size at seats) in
        ap (λ l. l ++ events_of (prefixes_marks bytes ps (drop (at + size) seats))) new ∙ append_assoc before (events_of (going_marks bytes c ss)) (events_of (prefixes_marks bytes ps (drop (at + size) seats))) ∙ ap (λ l. before ++ l) (sym left) ∙ so_far

-- no container goes on
pub going_none : (bytes : List ℕ) (before all : List Event) (ps : List Prefix) (seats : List Seat) → ps ≡ [] → before ++ events_of (prefixes_marks bytes ps seats) ≡ all → before ≡ all
going_none bytes before all ps seats e h = sym (ap (λ l. before ++ events_of (prefixes_marks bytes l seats)) e ∙ append-nil before) ∙ h

-- nothing is left of the line: items go on with no columns
pub nothing_marks : (bytes : List ℕ) (cs : List Container) (number : ℕ) → (prefixes_marks bytes (going_on cs number []) [] ≡ []) × (columns_of (going_on cs number []) ≡ 0)
nothing_marks bytes [] number = (refl, refl)
nothing_marks bytes (quote q ∷ cs) number = (refl, refl)
nothing_marks bytes (footnote f ∷ cs) number =
    let p : Prefix = record { container = footnote f; size = 0 } in
    let h = nothing_marks bytes cs number in
    (h.0, sum_by-cons (λ (q : Prefix). q.size) p (going_on cs number []) ∙ zero-add (columns_of (going_on cs number [])) ∙ h.1)
nothing_marks bytes (item i ∷ cs) number = by (i.is_empty && (number == suc i.line)) (min i.size 0) (min-zero i.size) (nothing_marks bytes cs number)
  where
    by : (b : Bool) (n : ℕ) → n ≡ 0 → (prefixes_marks bytes (going_on cs number []) [] ≡ []) × (columns_of (going_on cs number []) ≡ 0)
        → (prefixes_marks bytes (elim (cond b None (Some n)) as (λ _. List Prefix) [ None ↦ [] | Some m ↦ record { container = item i; size = m } ∷ going_on cs number (drop m []) ]) [] ≡ [])
        × (columns_of (elim (cond b None (Some n)) as (λ _. List Prefix) [ None ↦ [] | Some m ↦ record { container = item i; size = m } ∷ going_on cs number (drop m []) ]) ≡ 0)
    by true n e h = (refl, refl)
    by false n e h =
        let p : Prefix = record { container = item i; size = 0 } in (
          (λ k. prefixes_marks bytes (record { container = item i; size = e k } ∷ going_on cs number (drop (e k) [])) []) ∙ h.0,
          (λ k. columns_of (record { container = item i; size = e k } ∷ going_on cs number (drop (e k) []))) ∙ sum_by-cons (λ (q : Prefix). q.size) p (going_on cs number []) ∙ zero-add (columns_of (going_on cs number [])) ∙ h.1,
        )

pub nothing_columns : (cs : List Container) (number : ℕ) (t : List ℕ) → t ≡ [] → columns_of (going_on cs number t) ≡ 0
nothing_columns cs number t e = ap (λ l. columns_of (going_on cs number l)) e ∙ (nothing_marks [] cs number).1

pub going_nothing : (bytes : List ℕ) (cs : List Container) (number : ℕ) (before all : List Event) (t : List ℕ) (seats : List Seat) → t ≡ [] → seats ≡ [] → before ++ events_of (prefixes_marks bytes (going_on cs number t) seats) ≡ all → before ≡ all
going_nothing bytes cs number before all t seats e f h =
    sym ((λ k. before ++ events_of (prefixes_marks bytes (going_on cs number (e k)) (f k))) ∙ ap (λ (l : List Mark). before ++ events_of l) (nothing_marks bytes cs number).0 ∙ append-nil before) ∙ h

-- a container begins at a place that is shown at itself
pub enters_shown : (bytes : List ℕ) (c : Container) (p : Point) → shown bytes p ≡ p → events_of (enters_of bytes c p) ≡ enters_at c p
enters_shown bytes (quote q) p e = λ k. event_at Enter name.BlockQuote (e k) ∷ []
enters_shown bytes (footnote f) p e = λ k. event_at Enter name.GfmFootnoteDefinition (e k) ∷ []
enters_shown bytes (item i) p e = by (i.list == i.line)
  where
    by : (b : Bool) → events_of (cond b ((event_at Enter (list_name i) (shown bytes p), None) ∷ []) [] ++ (event_at Enter name.ListItem (shown bytes p), None) ∷ []) ≡ cond b (event_at Enter (list_name i) p ∷ []) [] ++ event_at Enter name.ListItem p ∷ []
    by true = λ k. event_at Enter (list_name i) (e k) ∷ (event_at Enter name.ListItem (e k) ∷ [])
    by false = λ k. event_at Enter name.ListItem (e k) ∷ []

pub begin_shown : (t : ℕ) (bytes : List ℕ) (c : Container) (p : Point) (ss : List Seat) → AreSeatsAt t bytes p ss → 0 < length ss → events_of (enters_of bytes c (begin_of ss)) ≡ enters_at c p
begin_shown t bytes c p [] h w = absurd (omega arith)
begin_shown t bytes c p (s ∷ ss) h w = ap (λ q. events_of (enters_of bytes c q)) h.1 ∙ enters_shown bytes c p h.0

pub inside_drop : (begun : List CodePrefix) (text : List ℕ) (i at : ℕ) (d : CodePrefix) → i < length begun → AreInside (drop i begun) (drop at text)
    → IsInside (get_or begun i d) (drop at text) × AreInside (drop (i + 1) begun) (drop (at + (get_or begun i d).size) text)
inside_drop begun text i at d h are =
    let split : AreInside (get_or begun i d ∷ drop (i + 1) begun) (drop at text) = subst (λ (l : List CodePrefix). AreInside l (drop at text)) (drop_more begun i d h) are in
    (split.0, subst (λ (l : List ℕ). AreInside (drop (i + 1) begun) l) (drop-drop (get_or begun i d).size at text) split.1)

pub begun_columns : (list number : ℕ) (begun : List CodePrefix) (i : ℕ) (d : CodePrefix) → i < length begun
    → columns_of (begun_of list number (drop i begun)) ≡ (get_or begun i d).size + columns_of (begun_of number number (drop (i + 1) begun))
begun_columns list number begun i d h =
    ap (λ (l : List CodePrefix). columns_of (begun_of list number l)) (drop_more begun i d h)
    ∙ sum_by-cons (λ (p : Prefix). p.size) (prefix_of list (get_or begun i d)) (map (prefix_of number) (drop (i + 1) begun))
    ∙ ap (λ l. (get_or begun i d).size + columns_of l) (sym (begun_same number (drop (i + 1) begun)))

-- one more container begins, with its prefix
pub begun_written : (t : ℕ) (bytes : List ℕ) (start : Point) (text : List ℕ) (seats : List Seat) → AreSeatsAt t bytes start seats → text ≡ bytes_of seats
    → (begun : List CodePrefix) (list number i at : ℕ) (d : CodePrefix) (rest part : List ℕ) (place : Point) (before entered after all : List Event) → i < length begun → rest ≡ drop at text → part ≡ take (get_or begun i d).size rest
    → place ≡ place_after t bytes start at → at ≤ length text → 0 < (get_or begun i d).size → (get_or begun i d).size ≤ length text - at
    → entered ≡ before ++ enters_at (container_of list (get_or begun i d).container) place
    → ((ss : List Seat) → AreSeatsAt t bytes place ss → part ≡ bytes_of ss → after ≡ entered ++ events_of (begun_marks bytes (container_of list (get_or begun i d).container) ss))
    → before ++ events_of (begun_all bytes (begun_of list number (drop i begun)) (drop at seats)) ≡ all
    → after ++ events_of (begun_all bytes (begun_of number number (drop (i + 1) begun)) (drop (at + (get_or begun i d).size) seats)) ≡ all
begun_written t bytes start text seats are is begun list number i at d rest part place before entered after all h er ep el w some fits enter write so_far =
    let p = get_or begun i d in
    let c = container_of list p.container in
    let ss = take p.size (drop at seats) in
    let more = begun_of number number (drop (i + 1) begun) in
    let tail = events_of (begun_all bytes more (drop (at + p.size) seats)) in
    let new : after ≡ entered ++ events_of (begun_marks bytes c ss) = write ss (part_seats t bytes start text seats are is place at p.size el w) (part_bytes t bytes start text seats are is rest part at p.size er ep) in
    let n : length text ≡ length seats = ap (λ (l : List ℕ). length l) is ∙ length-map seats (λ (s : Seat). s.byte) in
    let m : length (drop at seats) ≡ length seats - at = length-drop at seats in
    let here_are : AreSeatsAt t bytes place (drop at seats) = subst (λ (q : Point). AreSeatsAt t bytes q (drop at seats)) (sym el) (seats_drop t bytes start seats at are (omega arith)) in
    let split : begun_of list number (drop i begun) ≡ prefix_of list p ∷ more = ap (begun_of list number) (drop_more begun i d h) ∙ ap (λ l. prefix_of list p ∷ l) (sym (begun_same number (drop (i + 1) begun))) in
    let left : events_of (begun_all bytes (begun_of list number (drop i begun)) (drop at seats)) ≡ enters_at c place ++ (events_of (begun_marks bytes c ss) ++ tail) =
    ap (λ l. events_of (begun_all bytes l (drop at seats))) split
    ∙ map-append (λ (k : Mark). k.0) (enters_of bytes c (begin_of (drop at seats))) (begun_marks bytes c ss ++ begun_all bytes more (drop p.size (drop at seats)))
    ∙ (λ k. begin_shown t bytes c place (drop at seats) here_are (omega arith) k ++ map-append (λ (k : Mark). k.0) (begun_marks bytes c ss) (begun_all bytes more (drop p.size (drop at seats))) k)
    ∙ ap (λ l. enters_at c place ++ (events_of (begun_marks bytes c ss) ++ events_of (begun_all bytes more l))) (drop-drop p.size at seats) in
    ap (λ l. l ++ tail) (new ∙ ap (λ l. l ++ events_of (begun_marks bytes c ss)) enter)
    ∙ append_assoc (before ++ enters_at c place) (events_of (begun_marks bytes c ss)) tail
    ∙ append_assoc before (enters_at c place) (events_of (begun_marks bytes c ss) ++ tail)
    ∙ ap (λ l. before ++ l) (sym left) ∙ so_far

-- all have begun
pub begun_end : (bytes : List ℕ) (before all : List Event) (ps : List Prefix) (seats : List Seat) → ps ≡ [] → before ++ events_of (begun_all bytes ps seats) ≡ all → before ≡ all
begun_end bytes before all ps seats e h = sym (ap (λ l. before ++ events_of (begun_all bytes l seats)) e ∙ append-nil before) ∙ h

-- a prefix with which a container begins has bytes
pub inside_some : (p : CodePrefix) (text : List ℕ) → IsInside p text → 0 < p.size
inside_some p text h = by p.container.kind refl
  where
    by : (k : ContainerKind) → p.container.kind ≡ k → 0 < p.size
    by kinds.Quote e = let w = h.of_quote e in omega arith
    by kinds.Item e = let w = h.of_item e in omega arith
    by kinds.Footnote e = let w = (h.of_footnote e).1 in omega arith
