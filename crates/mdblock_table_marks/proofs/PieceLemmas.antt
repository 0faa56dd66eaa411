-- The events of pieces by places are the marks of the pieces over their seats.
use Rattle.std.proofs.Common.{◌≡◌, ℕ, zero, suc, ◌+◌, ◌<◌, ◌≤◌, false, cond, List, [], ◌∷◌, ◌++◌, append_assoc, length, take, drop, refl, sym, ap, ◌∙◌, arith, get_or, ne_eqb, length-drop}
use Rattle.std.specs.Prelude.{◌==◌}
use Rattle.std.proofs.lemmas.List.{append-nil, drop_more, length-map, length-take-le, map-append}
use Rattle.markdown_base.specs.declared.event.Event.{Event}
use Rattle.markdown_base.specs.declared.event.Kind.TheVariants as kind
use Rattle.markdown_base.specs.declared.event.Name.{Name}
use Rattle.markdown_base.specs.declared.event.Point.{Point}
use Rattle.markdown_base.specs.Virtual.{Seat}
use Rattle.mdblock_leaf_blocks.specs.LeafBlocks.{bytes_of}
use Rattle.mdblock_leaf_blocks.specs.LeafEvents.{Mark, leaf_marks, span_marks}
use Rattle.mdblock_lines.specs.Lines.{place_after}
use Rattle.mdblock_tables.specs.declared.pieces.Piece.{Piece}
use Rattle.mdblock_tables.specs.declared.pieces.Step.TheVariants as step
use Rattle.mdblock_tables.specs.declared.rows.RowKind.{RowKind}
use Rattle.mdblock_tables.specs.TablePieces.{row_pieces}
use Rattle.mdblock_tables.proofs.RowLemmas.{rows_are_whole}
use Rattle.mdblock_tables.specs.Pieces.{Pieces, nothing, leaf, span, piece, placed, size_of, told}
use Rattle.mdblock_containers.specs.PlaceEvents.{HasColumns, event_at}
use Rattle.mdblock_containers.specs.SeatPlaces.{AreSeatsAt, events_of}
use Rattle.mdblock_containers.proofs.SeatLemmas.{seats_drop, span_is_full, span_is_leaf, seats_take}
use Rattle.mdblock_containers.proofs.WritingLemmas.{columns_behind, columns_front, place_add}
use Rattle.mdblock_table_marks.specs.PiecePlaces.{pieces_at, piece_at, width, width_of}

-- ---- how many columns pieces go on
pub width-told : (ps : Pieces) (rest : List Piece) → width_of (told ps ++ rest) ≡ size_of ps + width_of rest
width-told nothing rest = omega arith
width-told (leaf n k more) rest = omega (arith, width-told more rest)
width-told (span n within more) rest =
    let k = size_of within in
    let exit = piece step.Exit n k in
    let split : told (span n within more) ++ rest ≡ piece step.Enter n k ∷ (told within ++ exit ∷ (told more ++ rest)) = ap (λ l. piece step.Enter n k ∷ l) (append_assoc (told within) (exit ∷ told more) rest) in
    ap width_of split ∙ omega (arith, width-told within (exit ∷ (told more ++ rest)), width-told more rest)

pub width-all : (ps : Pieces) → width_of (told ps) ≡ size_of ps
width-all ps = ap width_of (sym (append-nil (told ps))) ∙ width-told ps [] ∙ omega arith

module _ (t : ℕ) (bytes : List ℕ) where
  -- a span that is entered and exited, if it is over some columns
  abbrev around : Name → Point → (size : ℕ) → List Event → List Event → List Event
  around n p k inside rest = cond (k == 0) [] (event_at kind.Enter n p ∷ []) ++ (inside ++ (cond (k == 0) [] (event_at kind.Exit n (place_after t bytes p k) ∷ []) ++ rest))

  span-around : (n : Name) (p : Point) (k : ℕ) (ss : List Seat) (inside : List Mark) (rest : List Event) → AreSeatsAt t bytes p ss → length ss ≡ k → around n p k (events_of inside) rest ≡ events_of (span_marks bytes n ss inside) ++ rest
  span-around n p zero [] inside rest h e = refl
  span-around n p zero (s ∷ ss) inside rest h e = absurd (omega (arith, e))
  span-around n p (suc k) [] inside rest h e = absurd (omega (arith, e))
  span-around n p (suc k) (s ∷ ss) inside rest h e =
      let some : (suc k == 0) ≡ false = ne_eqb (suc k) 0 (λ q. omega arith) in
      let enter = event_at kind.Enter n p in
      let exit = event_at kind.Exit n (place_after t bytes p (suc k)) ∷ [] in
      (λ i. cond (some i) [] (enter ∷ []) ++ (events_of inside ++ (cond (some i) [] exit ++ rest)))
      ∙ ap (λ l. enter ∷ l) (sym (append_assoc (events_of inside) exit rest))
      ∙ (λ i. (enter ∷ (events_of inside ++ event_at kind.Exit n (place_after t bytes p (sym e i)) ∷ [])) ++ rest)
      ∙ ap (λ l. l ++ rest) (span_is_full t bytes n p (s ∷ ss) inside h (omega arith))

  -- pieces before others
  pub told-at : (ps : Pieces) (rest : List Piece) (p : Point) (ss : List Seat) → AreSeatsAt t bytes p ss → size_of ps ≤ length ss
      → pieces_at t bytes p (told ps ++ rest) ≡ events_of (placed bytes ps ss) ++ pieces_at t bytes (place_after t bytes p (size_of ps)) rest
  told-at nothing rest p ss h w = refl
  told-at (leaf n k more) rest p ss h w =
      let q = place_after t bytes p k in
      let here_is = leaf_marks bytes n (take k ss) in
      let behind = placed bytes more (drop k ss) in
      let last = pieces_at t bytes (place_after t bytes p (k + size_of more)) rest in
      let next = told-at more rest q (drop k ss) (seats_drop t bytes p ss k h (omega (arith, w))) (omega (arith, w, length-drop k ss)) in
      (λ i. span_is_leaf t bytes n p ss k h (omega (arith, w)) i ++ next i)
      ∙ ap (λ r. events_of here_is ++ (events_of behind ++ pieces_at t bytes r rest)) (place_add t bytes p k (size_of more))
      ∙ sym (append_assoc (events_of here_is) (events_of behind) last) ∙ ap (λ l. l ++ last) (sym (map-append (λ (m : Mark). m.0) here_is behind))
  told-at (span n within more) rest p ss h w =
      let k = size_of within in
      let q = place_after t bytes p k in
      let front = take k ss in
      let inner = placed bytes within front in
      let here_is = span_marks bytes n front inner in
      let behind = placed bytes more (drop k ss) in
      let last = pieces_at t bytes (place_after t bytes p (k + size_of more)) rest in
      let exit = piece step.Exit n k in
      let enter = cond (k == 0) [] (event_at kind.Enter n p ∷ []) in
      let size : length front ≡ k = length-take-le k ss (omega (arith, w)) in
      let at = seats_take t bytes p ss k h in
      let inside = told-at within (exit ∷ (told more ++ rest)) p front at (omega (arith, size)) in
      let next = told-at more rest q (drop k ss) (seats_drop t bytes p ss k h (omega (arith, w))) (omega (arith, w, length-drop k ss)) in
      ap (λ l. enter ++ pieces_at t bytes p l) (append_assoc (told within) (exit ∷ told more) rest)
      ∙ ap (λ l. enter ++ l) inside
      ∙ ap (λ l. around n p k (events_of inner) l) (next ∙ ap (λ r. events_of behind ++ pieces_at t bytes r rest) (place_add t bytes p k (size_of more)))
      ∙ span-around n p k front inner (events_of behind ++ last) at size
      ∙ sym (append_assoc (events_of here_is) (events_of behind) last) ∙ ap (λ l. l ++ last) (sym (map-append (λ (m : Mark). m.0) here_is behind))

  pub told-all : (ps : Pieces) (p : Point) (ss : List Seat) → AreSeatsAt t bytes p ss → size_of ps ≤ length ss → pieces_at t bytes p (told ps) ≡ events_of (placed bytes ps ss)
  told-all ps p ss h w = ap (pieces_at t bytes p) (sym (append-nil (told ps))) ∙ told-at ps [] p ss h w ∙ append-nil (events_of (placed bytes ps ss))

-- ---- pieces that are left of a list
module _ (ps : List Piece) (i : ℕ) (d : Piece) (lt : i < length ps) where
  abbrev here-is : Piece
  here-is = get_or ps i d

  left-split : drop i ps ≡ here-is ∷ drop (i + 1) ps
  left-split = drop_more ps i d lt

  left-width : width_of (drop i ps) ≡ width here-is + width_of (drop (i + 1) ps)
  left-width = ap width_of left-split

  pub left-turns : (old new : ℕ) → new ≤ old + width here-is → new + width_of (drop (i + 1) ps) ≤ old + width_of (drop i ps)
  left-turns old new h = omega (arith, h, left-width)

  module _ (t : ℕ) (bytes : List ℕ) (place : Point) where
    pub piece-columns : HasColumns t bytes place (width_of (drop i ps)) → HasColumns t bytes place (width here-is)
    piece-columns h = columns_front t bytes place (width_of (drop i ps)) (width here-is) h (omega (arith, left-width))

    pub left-columns : (q : Point) → q ≡ place_after t bytes place (width here-is) → HasColumns t bytes place (width_of (drop i ps)) → HasColumns t bytes q (width_of (drop (i + 1) ps))
    left-columns q e h = columns_behind t bytes place q (width_of (drop i ps)) (width here-is) (width_of (drop (i + 1) ps)) e h (omega (arith, left-width))

    pub left-end : (q : Point) → q ≡ place_after t bytes place (width here-is) → place_after t bytes q (width_of (drop (i + 1) ps)) ≡ place_after t bytes place (width_of (drop i ps))
    left-end q e = ap (λ r. place_after t bytes r (width_of (drop (i + 1) ps))) e ∙ place_add t bytes place (width here-is) (width_of (drop (i + 1) ps)) ∙ ap (place_after t bytes place) (sym left-width)

    pub left-events : (old new all : List Event) (q : Point) → new ≡ old ++ piece_at t bytes place here-is → q ≡ place_after t bytes place (width here-is) → old ++ pieces_at t bytes place (drop i ps) ≡ all
        → new ++ pieces_at t bytes q (drop (i + 1) ps) ≡ all
    left-events old new all q e f is =
        let rest = drop (i + 1) ps in
        (λ k. e k ++ pieces_at t bytes (f k) rest) ∙ append_assoc old (piece_at t bytes place here-is) (pieces_at t bytes (place_after t bytes place (width here-is)) rest)
        ∙ ap (λ l. old ++ pieces_at t bytes place l) (sym left-split) ∙ is

-- ---- a row

pub row-width : (kind : RowKind) (line : List ℕ) (pieces : List Piece) → pieces ≡ told (row_pieces kind line) → width_of pieces ≡ length line
row-width kind line pieces e = ap width_of e ∙ width-all (row_pieces kind line) ∙ rows_are_whole kind line

pub row-events : (t : ℕ) (bytes : List ℕ) (kind : RowKind) (line : List ℕ) (pieces : List Piece) (p : Point) (ss : List Seat) → pieces ≡ told (row_pieces kind line) → line ≡ bytes_of ss → AreSeatsAt t bytes p ss
    → pieces_at t bytes p pieces ≡ events_of (placed bytes (row_pieces kind (bytes_of ss)) ss)
row-events t bytes kind line pieces p ss e f h =
    let size : size_of (row_pieces kind (bytes_of ss)) ≡ length ss = rows_are_whole kind (bytes_of ss) ∙ length-map ss (λ (s : Seat). s.byte) in
    ap (pieces_at t bytes p) (e ∙ ap (λ l. told (row_pieces kind l)) f) ∙ told-all t bytes (row_pieces kind (bytes_of ss)) p ss h (omega (arith, size))
