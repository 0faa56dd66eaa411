-- Lemmas on pieces of a stretch that are joined, and on the marks of prefixes.
use Rattle.std.proofs.Common.{◌≡◌, ℕ, zero, suc, ◌+◌, ◌-◌, ◌<◌, ◌≤◌, Bool, true, false, cond, List, [], ◌∷◌, ◌++◌, length, take, drop, refl, sym, ap, ◌∙◌, arith, append_assoc, length-drop}
use Rattle.std.specs.Prelude.{not, Some}
use Rattle.std.specs.List.{flat_map}
use Rattle.std.proofs.lemmas.List.{drop-append-le, take-append-le}
use Rattle.std.proofs.lemmas.List.Sums.{sum_by-cons}
use Rattle.markdown_base.specs.declared.event.Content.TheVariants as content
use Rattle.markdown_base.specs.declared.event.Name.{Name}
use Rattle.markdown_base.specs.declared.event.Name.TheVariants as name
use Rattle.markdown_base.specs.Virtual.{Seat}
use Rattle.mdblock_leaf_blocks.specs.LeafBlocks.{bytes_of}
use Rattle.mdblock_leaf_blocks.specs.LeafEvents.{Mark, chunk_span, leaf_marks, span_marks, white}
use Rattle.mdblock_leaf_blocks.specs.LineKinds.{indent}
use Rattle.mdblock_lines.specs.Containers.{Container, Prefix, footnote, quote, item}
use Rattle.mdconstructs_machines.specs.LineEvents.{line_text}
use Rattle.mdblock_containers.specs.Prefixes.{columns_of}
use Rattle.mdblock_containers.specs.Rows.{Row, has_none}
use Rattle.mdblock_containers.specs.Skeleton.{Piece, chunks_of, going_marks, joined_pieces, pieces_of, prefixes_marks}
use Rattle.mdblock_containers.specs.Stretches.{pieces_from}
use Rattle.mdblock_containers.specs.Written.{NoChunk}
use Rattle.mdblock_containers.proofs.FrameFacts.{some_more}
use Rattle.mdblock_containers.proofs.WrittenLemmas.{plain_append}

module _ (bytes : List ℕ) where
  -- a piece before joined ones
  abbrev pub join : Piece bytes → List (Piece bytes) → List (Piece bytes)
  join p l = elim l [
    | [] ↦ p ∷ []
    | r ∷ rs ↦ cond (has_none r.before) (record p { seats = p.seats ++ r.seats } ∷ rs) (p ∷ r ∷ rs)
  ]

  pub join_is : (p : Piece bytes) (ps : List (Piece bytes)) → joined_pieces bytes (p ∷ ps) ≡ join p (joined_pieces bytes ps)
  join_is p [] = refl
  join_is p (q ∷ ps) = refl

  pub join_join : (p q : Piece bytes) (l : List (Piece bytes)) → has_none q.before ≡ true → join p (join q l) ≡ join (record p { seats = p.seats ++ q.seats }) l
  join_join p q [] e = ap (λ b. cond b (record p { seats = p.seats ++ q.seats } ∷ []) (p ∷ q ∷ [])) e
  join_join p q (r ∷ rs) e = by (has_none r.before)
    where
      by : (b : Bool) → join p (cond b (record q { seats = q.seats ++ r.seats } ∷ rs) (q ∷ r ∷ rs)) ≡ cond b (record p { seats = (p.seats ++ q.seats) ++ r.seats } ∷ rs) (record p { seats = p.seats ++ q.seats } ∷ r ∷ rs)
      by true = ap (λ b. cond b (record p { seats = p.seats ++ (q.seats ++ r.seats) } ∷ rs) (p ∷ record q { seats = q.seats ++ r.seats } ∷ rs)) e ∙ ap (λ (l : List Seat). record p { seats = l } ∷ rs) (sym (append_assoc p.seats q.seats r.seats))
      by false = ap (λ b. cond b (record p { seats = p.seats ++ q.seats } ∷ r ∷ rs) (p ∷ q ∷ r ∷ rs)) e

  pub join_apart : (p q : Piece bytes) (l : List (Piece bytes)) → has_none q.before ≡ false → join p (join q l) ≡ p ∷ join q l
  join_apart p q [] e = ap (λ b. cond b (record p { seats = p.seats ++ q.seats } ∷ []) (p ∷ q ∷ [])) e
  join_apart p q (r ∷ rs) e = by (has_none r.before)
    where
      by : (b : Bool) → join p (cond b (record q { seats = q.seats ++ r.seats } ∷ rs) (q ∷ r ∷ rs)) ≡ p ∷ cond b (record q { seats = q.seats ++ r.seats } ∷ rs) (q ∷ r ∷ rs)
      by true = ap (λ b. cond b (record p { seats = p.seats ++ (q.seats ++ r.seats) } ∷ rs) (p ∷ record q { seats = q.seats ++ r.seats } ∷ rs)) e
      by false = ap (λ b. cond b (record p { seats = p.seats ++ q.seats } ∷ r ∷ rs) (p ∷ q ∷ r ∷ rs)) e

  abbrev pub seats_of : List (Piece bytes) → List Seat
  seats_of l = flat_map (λ (p : Piece bytes). p.seats) l

  pub some_front : (xs ys : List Seat) → 0 < length xs → not (has_none (xs ++ ys)) ≡ true
  some_front [] ys h = absurd (omega arith)
  some_front (x ∷ xs) ys h = refl

  pub join_seats : (p : Piece bytes) (l : List (Piece bytes)) → 0 < length p.seats → not (has_none (seats_of (join p l))) ≡ true
  join_seats p [] h = some_front p.seats [] h
  join_seats p (r ∷ rs) h = by (has_none r.before)
    where
      by : (b : Bool) → not (has_none (seats_of (cond b (record p { seats = p.seats ++ r.seats } ∷ rs) (p ∷ r ∷ rs)))) ≡ true
      by true = ap (λ (l : List Seat). not (has_none l)) (append_assoc p.seats r.seats (seats_of rs)) ∙ some_front p.seats (r.seats ++ seats_of rs) h
      by false = some_front p.seats (seats_of (r ∷ rs)) h

  -- what is before the first piece comes first
  pub join_before : (h : Bool) (b : List Mark) (s : List Seat) (l : List (Piece bytes)) → chunks_of bytes h (join (record { before = b; seats = s }) l) ≡ b ++ chunks_of bytes h (join (record { before = []; seats = s }) l)
  join_before h b s [] = refl
  join_before h b s (r ∷ rs) = by (has_none r.before)
    where
      by : (c : Bool) → chunks_of bytes h (cond c (record { before = b; seats = s ++ r.seats } ∷ rs) (record { before = b; seats = s } ∷ r ∷ rs)) ≡ b ++ chunks_of bytes h (cond c (record { before = []; seats = s ++ r.seats } ∷ rs) (record { before = []; seats = s } ∷ r ∷ rs))
      by true = refl
      by false = refl

  pub join_before_seats : (b : List Mark) (s : List Seat) (l : List (Piece bytes)) → seats_of (join (record { before = b; seats = s }) l) ≡ seats_of (join (record { before = []; seats = s }) l)
  join_before_seats b s [] = refl
  join_before_seats b s (r ∷ rs) = by (has_none r.before)
    where
      by : (c : Bool) → seats_of (cond c (record { before = b; seats = s ++ r.seats } ∷ rs) (record { before = b; seats = s } ∷ r ∷ rs)) ≡ seats_of (cond c (record { before = []; seats = s ++ r.seats } ∷ rs) (record { before = []; seats = s } ∷ r ∷ rs))
      by true = refl
      by false = refl

  -- ---- one line more of a stretch

  module _ (is_held : Bool) (kept : List Seat) (r : Row) where
    abbrev pub front_of : List Mark
    front_of = prefixes_marks bytes r.went_on r.line

    abbrev pub last_of : List Seat
    last_of = drop r.columns (cond is_held r.line (line_text r.line))

    abbrev pub kept_of : List Seat
    kept_of = drop r.columns r.line

    -- it has no prefix: the piece goes on
    pub pieces_go_on : (last : List Seat) (rs : List Row) → has_none front_of ≡ true → joined_pieces bytes (pieces_from bytes is_held last kept (r ∷ rs)) ≡ joined_pieces bytes (pieces_from bytes is_held (kept ++ last_of) (kept ++ kept_of) rs)
    pieces_go_on last [] e = join_join (record { before = []; seats = kept }) (record { before = front_of; seats = last_of }) [] e
    pieces_go_on last (q ∷ qs) e =
        ap (join (record { before = []; seats = kept })) (join_is (record { before = front_of; seats = kept_of }) (pieces_of bytes is_held q qs))
        ∙ join_join (record { before = []; seats = kept }) (record { before = front_of; seats = kept_of }) (joined_pieces bytes (pieces_of bytes is_held q qs)) e
        ∙ sym (join_is (record { before = []; seats = kept ++ kept_of }) (pieces_of bytes is_held q qs))

    -- it has one: the piece ends
    pub ends : (has_previous : Bool) (s : List Seat) (l : List (Piece bytes)) → has_none front_of ≡ false
        → chunks_of bytes has_previous (join (record { before = []; seats = kept }) (join (record { before = front_of; seats = s }) l))
        ≡ chunk_span bytes (Some (record { content = content.Content; has_previous = has_previous; has_next = not (has_none (seats_of (join (record { before = []; seats = s }) l))) })) name.Data kept []
        ++ (front_of ++ chunks_of bytes true (join (record { before = []; seats = s }) l))
    ends has_previous s l e =
        ap (chunks_of bytes has_previous) (join_apart (record { before = []; seats = kept }) (record { before = front_of; seats = s }) l e)
        ∙ (λ k. chunk_span bytes (Some (record { content = content.Content; has_previous = has_previous; has_next = not (has_none (join_before_seats front_of s l k)) })) name.Data kept [] ++ join_before true front_of s l k)

    pub pieces_end : (has_previous : Bool) (last : List Seat) (rs : List Row) → has_none front_of ≡ false
        → chunks_of bytes has_previous (joined_pieces bytes (pieces_from bytes is_held last kept (r ∷ rs)))
        ≡ chunk_span bytes (Some (record { content = content.Content; has_previous = has_previous; has_next = not (has_none (seats_of (joined_pieces bytes (pieces_from bytes is_held last_of kept_of rs)))) })) name.Data kept []
        ++ (front_of ++ chunks_of bytes true (joined_pieces bytes (pieces_from bytes is_held last_of kept_of rs)))
    pieces_end has_previous last [] e = ends has_previous last_of [] e
    pieces_end has_previous last (q ∷ qs) e = (λ k. chunks_of bytes has_previous (join (record { before = []; seats = kept }) (join_is (record { before = front_of; seats = kept_of }) (pieces_of bytes is_held q qs) k))) ∙ ends has_previous kept_of (joined_pieces bytes (pieces_of bytes is_held q qs)) e
        ∙ (λ k. chunk_span bytes (Some (record { content = content.Content; has_previous = has_previous; has_next = not (has_none (seats_of (sym (join_is (record { before = []; seats = kept_of }) (pieces_of bytes is_held q qs)) k))) })) name.Data kept []
        ++ (front_of ++ chunks_of bytes true (sym (join_is (record { before = []; seats = kept_of }) (pieces_of bytes is_held q qs)) k)))

    pub pieces_some : (last : List Seat) (rs : List Row) → 0 < length kept → not (has_none (seats_of (joined_pieces bytes (pieces_from bytes is_held last kept (r ∷ rs))))) ≡ true
    pieces_some last rs h = ap (λ (l : List (Piece bytes)). not (has_none (seats_of l))) (join_is (record { before = []; seats = kept }) (pieces_of bytes is_held r rs)) ∙ join_seats (record { before = []; seats = kept }) (joined_pieces bytes (pieces_of bytes is_held r rs)) h

  -- ---- marks of prefixes

  pub plain_span : (n : Name) (ss : List Seat) (inside : List Mark) → NoChunk inside → NoChunk (span_marks bytes n ss inside)
  plain_span n [] inside h = h
  plain_span n (s ∷ ss) inside h = plain_append inside _ h tt

  pub plain_going : (c : Container) (ss : List Seat) → NoChunk (going_marks bytes c ss)
  plain_going (quote q) ss =
      let n = indent (bytes_of ss) in
      plain_append (white bytes (take n ss)) _ (plain_span name.SpaceOrTab (take n ss) [] tt)
      (plain_span name.BlockQuotePrefix (drop n ss) _ (plain_append (leaf_marks bytes name.BlockQuoteMarker (take 1 (drop n ss))) _ (plain_span name.BlockQuoteMarker (take 1 (drop n ss)) [] tt) (plain_span name.SpaceOrTab (drop (suc n) ss) [] tt)))
  plain_going (item i) ss = plain_span name.SpaceOrTab ss [] tt
  plain_going (footnote f) ss = plain_span name.SpaceOrTab ss [] tt

  pub plain_prefixes : (ps : List Prefix) (ss : List Seat) → NoChunk (prefixes_marks bytes ps ss)
  plain_prefixes [] ss = tt
  plain_prefixes (p ∷ ps) ss = plain_append (going_marks bytes p.container (take p.size ss)) _ (plain_going p.container (take p.size ss)) (plain_prefixes ps (drop p.size ss))

  pub going_empty : (c : Container) → going_marks bytes c [] ≡ []
  going_empty (quote q) = refl
  going_empty (item i) = refl
  going_empty (footnote f) = refl

  pub columns_more : (p : Prefix) (ps : List Prefix) → columns_of (p ∷ ps) ≡ p.size + columns_of ps
  columns_more p ps = sum_by-cons (λ (q : Prefix). q.size) p ps

  -- prefixes without columns have no marks
  pub prefixes_none : (ps : List Prefix) (ss : List Seat) → columns_of ps ≡ 0 → prefixes_marks bytes ps ss ≡ []
  prefixes_none [] ss e = refl
  prefixes_none (p ∷ ps) ss e =
      let n : p.size ≡ 0 = omega (arith, e, columns_more p ps) in
      let m : columns_of ps ≡ 0 = omega (arith, e, columns_more p ps) in
      (λ k. going_marks bytes p.container (take (n k) ss) ++ prefixes_marks bytes ps (drop (n k) ss)) ∙ (λ k. going_empty p.container k ++ prefixes_marks bytes ps ss) ∙ prefixes_none ps ss m

  pub some_span : (n : Name) (ss : List Seat) (inside : List Mark) → 0 < length ss → has_none (span_marks bytes n ss inside) ≡ false
  some_span n [] inside h = absurd (omega arith)
  some_span n (s ∷ ss) inside h = refl

  pub none_right : (xs ys : List Mark) → has_none ys ≡ false → has_none (xs ++ ys) ≡ false
  none_right [] ys e = e
  none_right (x ∷ xs) ys e = refl

  pub going_some : (c : Container) (ss : List Seat) → 0 < length ss → has_none (going_marks bytes c ss) ≡ false
  going_some (quote q) ss h = by (indent (bytes_of ss))
    where
      inside : ℕ → List Mark
      inside n = leaf_marks bytes name.BlockQuoteMarker (take 1 (drop n ss)) ++ white bytes (drop (suc n) ss)

      first : (n : ℕ) (xs : List Seat) → 0 < length xs → 0 < length (take (suc n) xs)
      first n [] w = absurd (omega arith)
      first n (y ∷ ys) w = omega arith

      by : (n : ℕ) → has_none (white bytes (take n ss) ++ span_marks bytes name.BlockQuotePrefix (drop n ss) (leaf_marks bytes name.BlockQuoteMarker (take 1 (drop n ss)) ++ white bytes (drop (suc n) ss))) ≡ false
      by zero = some_span name.BlockQuotePrefix ss _ h
      by (suc n) = some_more (white bytes (take (suc n) ss)) _ (some_span name.SpaceOrTab (take (suc n) ss) [] (first n ss h))
  going_some (item i) ss h = some_span name.SpaceOrTab ss [] h
  going_some (footnote f) ss h = some_span name.SpaceOrTab ss [] h

  pub prefixes_some : (ps : List Prefix) (ss : List Seat) → 0 < columns_of ps → columns_of ps ≤ length ss → has_none (prefixes_marks bytes ps ss) ≡ false
  prefixes_some [] ss h w = absurd (omega (arith, h))
  prefixes_some (p ∷ ps) ss h w = by p.size refl (λ d. prefixes_some ps ss d)
    where
      front : (n : ℕ) (xs : List Seat) → suc n ≤ length xs → 0 < length (take (suc n) xs)
      front n [] v = absurd (omega arith)
      front n (y ∷ ys) v = omega arith

      by : (n : ℕ) → p.size ≡ n → (0 < columns_of ps → columns_of ps ≤ length ss → has_none (prefixes_marks bytes ps ss) ≡ false) → has_none (going_marks bytes p.container (take n ss) ++ prefixes_marks bytes ps (drop n ss)) ≡ false
      by zero e f = none_right (going_marks bytes p.container []) (prefixes_marks bytes ps ss) (f (omega (arith, h, e, columns_more p ps)) (omega (arith, w, e, columns_more p ps)))
      by (suc n) e f = some_more (going_marks bytes p.container (take (suc n) ss)) _ (going_some p.container (take (suc n) ss) (front n ss (omega (arith, w, e, columns_more p ps))))

  -- prefixes see only their columns
  pub prefixes_front : (ps : List Prefix) (xs ys : List Seat) → columns_of ps ≤ length xs → prefixes_marks bytes ps (xs ++ ys) ≡ prefixes_marks bytes ps xs
  prefixes_front [] xs ys w = refl
  prefixes_front (p ∷ ps) xs ys w =
      let n : p.size ≤ length xs = omega (arith, w, columns_more p ps) in
      let left : length (drop p.size xs) ≡ length xs - p.size = length-drop p.size xs in
      (λ k. going_marks bytes p.container (take-append-le p.size xs ys n k) ++ prefixes_marks bytes ps (drop-append-le p.size xs ys n k))
      ∙ ap (λ l. going_marks bytes p.container (take p.size xs) ++ l) (prefixes_front ps (drop p.size xs) ys (omega (arith, w, columns_more p ps, left)))
