-- Lemmas on pieces that need no look at what is cut.
use Rattle.std.proofs.Common.{◌≡◌, ℕ, ◌+◌, ◌-◌, ◌≤◌, List, [], ◌∷◌, ◌++◌, cond, None, append-nil, append_assoc, ap, sym, refl, ◌∙◌, arith, take, drop, map}
use Rattle.std.specs.List.{AllByRecursion}
use Rattle.std.proofs.lemmas.List.{drop-drop, drop-map, drop-take, take-map, take-take, map-append}
use Rattle.markdown_base.specs.declared.event.Event.{Event}
use Rattle.markdown_base.specs.declared.event.Kind.TheVariants.{Enter, Exit}
use Rattle.markdown_base.specs.declared.event.Name.{Name}
use Rattle.markdown_base.specs.declared.event.Point.{Point}
use Rattle.markdown_base.specs.Events.{same_name}
use Rattle.markdown_base.specs.Places.{shown}
use Rattle.markdown_base.specs.Virtual.{Seat, end_after}
use Rattle.markdown_base.proofs.Common.{every-append}
use Rattle.mdconstructs_machines.specs.Spans.{event}
use Rattle.mdblock_leaf_blocks.specs.LeafEvents.{Mark, leaf_marks, span_marks}
use Rattle.mdblock_tables.specs.declared.pieces.Piece.{Piece}
use Rattle.mdblock_tables.specs.declared.pieces.Step.TheVariants as step
use Rattle.mdblock_tables.specs.Laws.{IsNoChunk, PiecesAreLaid, PiecesHaveNoChunks, PiecesMove, moved, moved_mark}
use Rattle.mdblock_tables.specs.Pieces.{Pieces, nothing, leaf, span, enter_marks, exit_marks, joined, laid, piece, placed, size_of, told, under}

-- ---- pieces before others
pub size_joined : (ps qs : Pieces) → size_of (joined ps qs) ≡ size_of ps + size_of qs
size_joined nothing qs = omega arith
size_joined (leaf n k ps) qs = let rest = size_joined ps qs in omega (arith, rest)
size_joined (span n within ps) qs = let rest = size_joined ps qs in omega (arith, rest)

pub told_joined : (ps qs : Pieces) → told (joined ps qs) ≡ told ps ++ told qs
told_joined nothing qs = refl
told_joined (leaf n k ps) qs = ap (λ l. piece step.Whole n k ∷ l) (told_joined ps qs)
told_joined (span n within ps) qs =
    let k = size_of within in
    ap (λ l. piece step.Enter n k ∷ l) (ap (λ l. told within ++ piece step.Exit n k ∷ l) (told_joined ps qs) ∙ sym (append_assoc (told within) (piece step.Exit n k ∷ told ps) (told qs)))

pub under_joined : (name : Name) (ps qs : Pieces) (t : List ℕ) → under name (joined ps qs) t ≡ under name ps t ++ under name qs (drop (size_of ps) t)
under_joined name nothing qs t = refl
under_joined name (leaf n k ps) qs t = under_joined name ps qs (drop k t) ∙ ap (λ l. under name ps (drop k t) ++ under name qs l) (drop-drop (size_of ps) k t)
under_joined name (span n within ps) qs t =
    let k = size_of within in
    let here = cond (same_name n name) (take k t ∷ []) (under name within (take k t)) in
    ap (λ l. here ++ l) (under_joined name ps qs (drop k t) ∙ ap (λ l. under name ps (drop k t) ++ under name qs l) (drop-drop (size_of ps) k t))
    ∙ sym (append_assoc here (under name ps (drop k t)) (under name qs (drop (k + size_of ps) t)))

-- ---- pieces that are added to a list
pub adds : {before behind : List Piece} (all xs ys : List Piece) → before ≡ all ++ xs → behind ≡ before ++ ys → behind ≡ all ++ (xs ++ ys)
adds {before} {behind} all xs ys e f = f ∙ ap (λ l. l ++ ys) e ∙ append_assoc all xs ys

-- ---- where places move, marks move
-- two lists, one behind the other
pub two : {A X : Type 0} (h : A → X) (x : List X) (y : List A) (x2 : List X) (y2 : List A) → x ≡ map h y → x2 ≡ map h y2 → x ++ x2 ≡ map h (y ++ y2)
two h x y x2 y2 e e2 = (λ i. e i ++ e2 i) ∙ sym (map-append h y y2)

pub end-moved : (f : Point → Point) (p : Point) (seats : List Seat) → end_after (f p) (map (moved f) seats) ≡ f (end_after p seats)
end-moved f p [] = refl
end-moved f p (s ∷ ss) = end-moved f s.end ss

module _ (old new : List ℕ) (f : Point → Point) (shows : (p : Point) → shown new (f p) ≡ f (shown old p)) where
  abbrev ms : List Seat → List Seat
  ms seats = map (moved f) seats

  abbrev mk : List Mark → List Mark
  mk marks = map (moved_mark f) marks

  span-moved : (n : Name) (seats : List Seat) (x y : List Mark) → x ≡ mk y → span_marks new n (ms seats) x ≡ mk (span_marks old n seats y)
  span-moved n [] x y e = e
  span-moved n (s ∷ ss) x y e =
      let first = shows s.point in
      let last = ap (shown new) (end-moved f s.end ss) ∙ shows (end_after s.end ss) in
      (λ i. ((let v : Event = record { kind = Enter; name = n; point = first i; link = None } in v), None) ∷ (e i ++ ((let v : Event = record { kind = Exit; name = n; point = last i; link = None } in v), None) ∷ []))
      ∙ ap (λ l. moved_mark f (event old Enter n s.point, None) ∷ l) (sym (map-append (moved_mark f) y ((event old Exit n (end_after s.end ss), None) ∷ [])))

  placed-moved : (ps : Pieces) (seats : List Seat) → placed new ps (ms seats) ≡ mk (placed old ps seats)
  placed-moved nothing seats = refl
  placed-moved (leaf n k ps) seats =
      (λ i. span_marks new n (take-map (moved f) k seats i) [] ++ placed new ps (drop-map (moved f) k seats i))
      ∙ two (moved_mark f) _ _ _ _ (span-moved n (take k seats) [] [] refl) (placed-moved ps (drop k seats))
  placed-moved (span n within ps) seats =
      let k = size_of within in
      (λ i. span_marks new n (take-map (moved f) k seats i) (placed new within (take-map (moved f) k seats i)) ++ placed new ps (drop-map (moved f) k seats i))
      ∙ two (moved_mark f) _ _ _ _ (span-moved n (take k seats) _ (placed old within (take k seats)) (placed-moved within (take k seats))) (placed-moved ps (drop k seats))

pub pieces_move : PiecesMove
pieces_move old new f shows ps seats = placed-moved old new f shows ps seats

-- ---- what spans keep holds of all pieces
module _ (bytes : List ℕ) (P : List Mark → Type 0) (none : P []) (both : (xs ys : List Mark) → P xs → P ys → P (xs ++ ys))
    (around : (n : Name) (seats : List Seat) (within : List Mark) → P within → P (span_marks bytes n seats within)) where
  pub kept : (ps : Pieces) (seats : List Seat) → P (placed bytes ps seats)
  kept nothing seats = none
  kept (leaf n k ps) seats = both _ _ (around n (take k seats) [] none) (kept ps (drop k seats))
  kept (span n within ps) seats =
      let k = size_of within in
      both _ _ (around n (take k seats) (placed bytes within (take k seats)) (kept within (take k seats))) (kept ps (drop k seats))

pub pieces_have_no_chunks : PiecesHaveNoChunks
pieces_have_no_chunks bytes ps seats = kept bytes (AllByRecursion IsNoChunk) tt (every-append IsNoChunk) around ps seats
  where
    around : (n : Name) (seats : List Seat) (within : List Mark) → AllByRecursion IsNoChunk within → AllByRecursion IsNoChunk (span_marks bytes n seats within)
    around n [] within h = h
    around n (s ∷ ss) within h = (refl, every-append IsNoChunk within ((event bytes Exit n (end_after s.end ss), None) ∷ []) h (refl, tt))

-- ---- pieces as a writer puts them
module _ (bytes : List ℕ) where
  -- pieces look at no byte behind their own
  placed-front : (ps : Pieces) (k : ℕ) (seats : List Seat) → size_of ps ≤ k → placed bytes ps (take k seats) ≡ placed bytes ps seats
  placed-front nothing k seats h = refl
  placed-front (leaf n j more) k seats h =
      let parts : j + (k - j) ≡ k = omega (arith, h) in
      let rest : drop j (take k seats) ≡ take (k - j) (drop j seats) = ap (λ m. drop j (take m seats)) (sym parts) ∙ drop-take j (k - j) seats in
      (λ i. leaf_marks bytes n (take-take j k seats (omega (arith, h)) i) ++ placed bytes more (rest i))
      ∙ ap (λ l. leaf_marks bytes n (take j seats) ++ l) (placed-front more (k - j) (drop j seats) (omega (arith, h)))
  placed-front (span n within more) k seats h =
      let j = size_of within in
      let parts : j + (k - j) ≡ k = omega (arith, h) in
      let rest : drop j (take k seats) ≡ take (k - j) (drop j seats) = ap (λ m. drop j (take m seats)) (sym parts) ∙ drop-take j (k - j) seats in
      let first = take-take j k seats (omega (arith, h)) in
      (λ i. span_marks bytes n (first i) (placed bytes within (first i)) ++ placed bytes more (rest i))
      ∙ ap (λ l. span_marks bytes n (take j seats) (placed bytes within (take j seats)) ++ l) (placed-front more (k - j) (drop j seats) (omega (arith, h)))

  span-laid : (n : Name) (seats : List Seat) (inside : List Mark) → enter_marks bytes n seats ++ (inside ++ exit_marks bytes n seats) ≡ span_marks bytes n seats inside
  span-laid n [] inside = append-nil inside
  span-laid n (s ∷ ss) inside = refl

  laid-told : (ps : Pieces) (rest : List Piece) (passed : ℕ) (seats : List Seat) → laid bytes (told ps ++ rest) passed seats ≡ placed bytes ps (drop passed seats) ++ laid bytes rest (passed + size_of ps) seats
  laid-told nothing rest passed seats = let same : passed ≡ passed + 0 = omega arith in ap (λ k. laid bytes rest k seats) same
  laid-told (leaf n k more) rest passed seats =
      let here = leaf_marks bytes n (take k (drop passed seats)) in
      let on : passed + k + size_of more ≡ passed + (k + size_of more) = omega arith in
      ap (λ l. here ++ l) (laid-told more rest (passed + k) seats ∙ (λ i. placed bytes more (sym (drop-drop k passed seats) i) ++ laid bytes rest (on i) seats))
      ∙ sym (append_assoc here (placed bytes more (drop k (drop passed seats))) (laid bytes rest (passed + (k + size_of more)) seats))
  laid-told (span n within more) rest passed seats =
      let k = size_of within in
      let ss = take k (drop passed seats) in
      let enter = enter_marks bytes n ss in
      let exit = exit_marks bytes n ss in
      let inner = placed bytes within ss in
      let behind = placed bytes more (drop k (drop passed seats)) in
      let last = laid bytes rest (passed + (k + size_of more)) seats in
      let back : passed + k - k ≡ passed = omega arith in
      let on : passed + k + size_of more ≡ passed + (k + size_of more) = omega arith in
      let more_laid : laid bytes (told more ++ rest) (passed + k) seats ≡ behind ++ last =
      laid-told more rest (passed + k) seats ∙ (λ i. placed bytes more (sym (drop-drop k passed seats) i) ++ laid bytes rest (on i) seats) in
      ap (λ l. enter ++ laid bytes l passed seats) (append_assoc (told within) (piece step.Exit n k ∷ told more) rest)
      ∙ ap (λ l. enter ++ l) (laid-told within (piece step.Exit n k ∷ (told more ++ rest)) passed seats
      ∙ (λ i. sym (placed-front within k (drop passed seats) (omega arith)) i ++ (exit_marks bytes n (take k (drop (back i) seats)) ++ more_laid i)))
      ∙ sym (ap (λ l. l ++ (behind ++ last)) (sym (span-laid n ss inner)) ∙ append_assoc enter (inner ++ exit) (behind ++ last) ∙ ap (λ l. enter ++ l) (append_assoc inner exit (behind ++ last)))
      ∙ sym (append_assoc (span_marks bytes n ss inner) behind last)

pub pieces_are_laid : PiecesAreLaid
pieces_are_laid bytes pieces seats = ap (λ l. laid bytes l 0 seats) (sym (append-nil (told pieces))) ∙ laid-told bytes pieces [] 0 seats ∙ append-nil (placed bytes pieces seats)
