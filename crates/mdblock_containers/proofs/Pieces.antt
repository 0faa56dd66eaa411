-- The chunks of a stretch are over its virtual bytes, and each is linked to the one before it over the prefix of a line.
use Rattle.markdown_base.proofs.Orders.{InOrder, order-both}
use Rattle.std.proofs.Common.{◌≡◌, ℕ, Bool, true, false, cond, List, [], ◌∷◌, ◌++◌, refl, sym, ap, ◌∙◌, subst, arith, append_assoc, inl, inr, ◌⊎◌}
use Rattle.std.specs.Prelude.{not, Option, None, Some}
use Rattle.std.specs.List.{AllByRecursion, flat_map}
use Rattle.std.proofs.lemmas.Bool.{false≢true}
use Rattle.std.proofs.lemmas.List.{append-nil, map-append}
use Rattle.markdown_base.proofs.Common.{every-append}
use Rattle.markdown_base.proofs.Seats.{end-after-append, stands-self}
use Rattle.markdown_base.specs.declared.event.Content.TheVariants as content
use Rattle.markdown_base.specs.declared.event.Event.{Event}
use Rattle.markdown_base.specs.declared.event.Kind.TheVariants.{Exit}
use Rattle.markdown_base.specs.declared.event.Name.{Name}
use Rattle.markdown_base.specs.declared.event.Name.TheVariants as name
use Rattle.markdown_base.specs.declared.event.Point.{Point}
use Rattle.markdown_base.specs.Places.{shown, stands_before}
use Rattle.markdown_base.specs.Virtual.{Seat, end_after, point}
use Rattle.markdown_base.proofs.Balanced.{names_after_all-append, same_name-refl}
use Rattle.markdown_base.specs.OpenNames.{names_after_all}
use Rattle.mdblock_leaf_blocks.proofs.Marks.Courses.{Place, Track, track-on, track-place, track-upto}
use Rattle.mdblock_leaf_blocks.proofs.Marks.MarkAccounts.{AreSpans, bare}
use Rattle.mdblock_leaf_blocks.proofs.Marks.MarkForms.{Formed, Forms}
use Rattle.mdblock_leaf_blocks.specs.LeafEvents.{Chunk, Mark, chunk_span}
use Rattle.mdconstructs_machines.specs.LineEvents.{is_line_ending}
use Rattle.mdconstructs_machines.specs.Spans.{event}
use Rattle.mdblock_containers.proofs.FrameFacts.{none_is}
use Rattle.mdblock_containers.proofs.SeatFacts.{SeatEnds, ends_in_line, ends_later}
use Rattle.mdblock_containers.proofs.SkeletonChains.{Due, IsFurther, Runs, Unlinked, a_chunk, idle, next_due, unlinked_both, unlinked_gap, unlinked_runs}
use Rattle.mdblock_containers.specs.Rows.{has_none}
use Rattle.mdblock_containers.specs.Skeleton.{Piece, chunks_of, joined_pieces}

module _ (t : ℕ) (bytes : List ℕ) where
  -- Marks between two places, in order and at places; no name is open behind them that was not before
  pub record Spanned (p : Point) (ms : List Mark) (q : Point) : Type 0 where
    pub balanced : (st : List Name) → names_after_all (Some st) (bare ms) ≡ Some st
    pub order : InOrder p (bare ms) q
    pub places : AllByRecursion (λ (e : Event). Place t bytes e.point) (bare ms)

  pub spanned_formed : (p : Point) (ms : List Mark) (q : Point) → Formed t bytes p (bare ms) q → Spanned p ms q
  spanned_formed p ms q h = record { balanced = h.balanced; order = h.order; places = h.places }

  pub spanned_both : (p : Point) (xs : List Mark) (m : Point) (ys : List Mark) (q : Point) → Spanned p xs m → Spanned m ys q → Spanned p (xs ++ ys) q
  spanned_both p xs m ys q h k =
      let all : bare (xs ++ ys) ≡ bare xs ++ bare ys = map-append (λ (x : Mark). x.0) xs ys in
      record {
        balanced = λ st. ap (names_after_all (Some st)) all ∙ names_after_all-append (Some st) (bare xs) (bare ys) ∙ ap (λ o. names_after_all o (bare ys)) (h.balanced st) ∙ k.balanced st;
        order = subst (λ es. InOrder p es q) (sym all) (order-both p (bare xs) m (bare ys) q h.order k.order);
        places = subst (AllByRecursion (λ (e : Event). Place t bytes e.point)) (sym all) (every-append (λ (e : Event). Place t bytes e.point) (bare xs) (bare ys) h.places k.places);
      }

  -- no marks, at a place
  pub spanned_none : (p : Point) → Spanned p [] p
  spanned_none p = record { balanced = λ st. refl; order = stands-self p; places = tt }

  -- a chunk
  pub spanned_chunk : (chunk : Option Chunk) (p : Point) (ss rest : List Seat) → Track t bytes p (ss ++ rest) → Spanned p (chunk_span bytes chunk name.Data ss []) (end_after p ss)
  spanned_chunk chunk p [] rest track = spanned_none p
  spanned_chunk chunk p (s ∷ ss) rest track =
      let q = end_after s.end ss in
      let there : Place t bytes q = track-place t bytes q rest (track-on t bytes p (s ∷ ss) rest track) in
      let same : shown bytes s.point ≡ p = track.1.meets in
      let upto : stands_before q p ≡ false = track-upto t bytes p (s ∷ ss) rest track in
      let shows : shown bytes q ≡ q = there.is_shown in
      record {
        balanced = λ st. ap (λ b. names_after_all (cond b (Some st) None) []) (same_name-refl name.Data);
        order = (
          ap (λ r. stands_before r p) same ∙ stands-self p,
          ((λ k. stands_before (shows k) (same k)) ∙ upto, ap (stands_before q) shows ∙ stands-self q),
        );
        places = (track.1.seat.here, (subst (Place t bytes) (sym shows) there, tt));
      }

  -- ---- pieces

  -- a prefix's marks over its virtual bytes, which are in one line
  pub record IsPrefixOver (before : List Mark) (skip : List Seat) : Type 0 where
    pub forms : Forms t bytes before skip
    pub spans : AreSpans bytes before skip
    pub unlinked : Unlinked before
    pub none : has_none before ≡ has_none skip
    pub in_line : AllByRecursion (λ (s : Seat). is_line_ending s ≡ false) skip
    pub ends : AllByRecursion SeatEnds skip

  -- a piece that another comes behind ends at the beginning of a line
  abbrev pub EndsLine : List Seat → List (Piece bytes) → Type 0
  EndsLine seats [] = Unit {0}
  EndsLine seats (q ∷ qs) = (p : Point) → (end_after p seats).column ≡ 1

  -- pieces with their prefixes over virtual bytes
  abbrev pub Over : List (Piece bytes) → List Seat → Type 0
  Over [] seats = seats ≡ []
  Over (p ∷ ps) seats = (skip : List Seat) × (rest : List Seat) × (seats ≡ skip ++ (p.seats ++ rest)) × IsPrefixOver p.before skip × EndsLine p.seats ps × Over ps rest

  -- and with no prefix before the first
  abbrev pub OverFrom : Piece bytes → List (Piece bytes) → List Seat → Type 0
  OverFrom p ps seats = (rest : List Seat) × (seats ≡ p.seats ++ rest) × EndsLine p.seats ps × Over ps rest

  -- each but the first has a prefix
  abbrev pub HavePrefixes : List (Piece bytes) → Type 0
  HavePrefixes [] = Unit {0}
  HavePrefixes (p ∷ ps) = (has_none p.before ≡ false) × HavePrefixes ps

  abbrev pub AreJoined : List (Piece bytes) → List Mark → List Seat → (first : List Seat) → Type 0
  AreJoined [] before seats first = ⊥
  AreJoined (p ∷ ps) before seats first = (p.before ≡ before) × OverFrom p ps seats × HavePrefixes ps × ((more : List Seat) × (p.seats ≡ first ++ more))

  pub ends_both : (xs ys : List Seat) (ps : List (Piece bytes)) → EndsLine ys ps → EndsLine (xs ++ ys) ps
  ends_both xs ys [] h = tt
  ends_both xs ys (q ∷ qs) h = λ p. ap (λ (x : Point). x.column) (end-after-append p xs ys) ∙ h (end_after p xs)

  pub pieces_joined : (p : Piece bytes) (ps : List (Piece bytes)) (seats : List Seat) → OverFrom p ps seats → AreJoined (joined_pieces bytes (p ∷ ps)) p.before seats p.seats
  pieces_joined p [] seats h = (refl, h, tt, ([], sym (append-nil p.seats)))
  pieces_joined p (q ∷ qs) seats h =
      let (skip, more, is, prefix, ends, others) = h.3 in
      by skip more is prefix (joined_pieces bytes (q ∷ qs)) (pieces_joined q qs (q.seats ++ more) (more, refl, ends, others))
    where
      by : (skip more : List Seat) → h.0 ≡ skip ++ (q.seats ++ more) → IsPrefixOver q.before skip → (js : List (Piece bytes)) → AreJoined js q.before (q.seats ++ more) q.seats
          → AreJoined (elim js [ [] ↦ p ∷ [] | r ∷ rs ↦ cond (has_none r.before) (record p { seats = p.seats ++ r.seats } ∷ rs) (p ∷ r ∷ rs) ]) p.before seats p.seats
      by skip more is prefix [] k = absurd k
      by skip more is prefix (r ∷ rs) k = choose (has_none r.before) refl
        where
          whole : q.seats ++ more ≡ r.seats ++ k.1.0
          whole = k.1.1

          choose : (x : Bool) → has_none r.before ≡ x → AreJoined (cond x (record p { seats = p.seats ++ r.seats } ∷ rs) (p ∷ r ∷ rs)) p.before seats p.seats
          choose true e =
              let none : skip ≡ [] = none_is skip (sym prefix.none ∙ ap has_none (sym k.0) ∙ e) in
              let all : seats ≡ (p.seats ++ r.seats) ++ k.1.0 =
              h.1 ∙ ap (λ l. p.seats ++ l) (is ∙ ap (λ l. l ++ (q.seats ++ more)) none ∙ whole) ∙ sym (append_assoc p.seats r.seats k.1.0) in
              (refl, (k.1.0, all, ends_both p.seats r.seats rs k.1.2, k.1.3), k.2, (r.seats, refl))
          choose false e =
              let all : h.0 ≡ skip ++ (r.seats ++ k.1.0) = is ∙ ap (λ l. skip ++ l) whole in
              let before : IsPrefixOver r.before skip = subst (λ (ms : List Mark). IsPrefixOver ms skip) (sym k.0) prefix in
              (refl, (h.0, h.1, h.2, (skip, k.1.0, all, before, k.1.2, k.1.3)), (e, k.2), ([], sym (append-nil p.seats)))

  -- ---- chunks

  abbrev pub some_in : List (Piece bytes) → Bool
  some_in ps = not (has_none (flat_map (λ (q : Piece bytes). q.seats) ps))

  -- their places
  pub chunks_spanned : (w : Bool) (ps : List (Piece bytes)) (seats rest : List Seat) (p : Point) → Over ps seats → Track t bytes p (seats ++ rest) → Spanned p (chunks_of bytes w ps) (end_after p seats)
  chunks_spanned w [] seats rest p h track = subst (λ l. Spanned p [] (end_after p l)) (sym h) (spanned_none p)
  chunks_spanned w (x ∷ ps) seats rest p h track =
      let (skip, more, is, prefix, ends, others) = h in
      let whole : seats ++ rest ≡ skip ++ (x.seats ++ (more ++ rest)) = ap (λ l. l ++ rest) is ∙ append_assoc skip (x.seats ++ more) rest ∙ ap (λ l. skip ++ l) (append_assoc x.seats more rest) in
      let track0 = subst (Track t bytes p) whole track in
      let a = end_after p skip in
      let track1 : Track t bytes a (x.seats ++ (more ++ rest)) = track-on t bytes p skip (x.seats ++ (more ++ rest)) track0 in
      let b = end_after a x.seats in
      let track2 : Track t bytes b (more ++ rest) = track-on t bytes a x.seats (more ++ rest) track1 in
      let chunk : Chunk = record { content = content.Content; has_previous = w; has_next = some_in ps } in
      let end : end_after p seats ≡ end_after b more = ap (end_after p) is ∙ end-after-append p skip (x.seats ++ more) ∙ end-after-append a x.seats more in
      subst (Spanned p (chunks_of bytes w (x ∷ ps))) (sym end)
      (spanned_both p x.before a (chunk_span bytes (Some chunk) name.Data x.seats [] ++ chunks_of bytes true ps) (end_after b more) (spanned_formed p x.before a (prefix.forms p (x.seats ++ (more ++ rest)) track0))
      (spanned_both a (chunk_span bytes (Some chunk) name.Data x.seats []) b (chunks_of bytes true ps) (end_after b more) (spanned_chunk (Some chunk) a x.seats (more ++ rest) track1) (chunks_spanned true ps more rest b others track2)))

  -- and their links
  abbrev pub due_at : Bool → Point → Due
  due_at has p = cond has (a_chunk p (Some [])) idle

  -- the exit of a chunk, and the chunks behind it
  pub exit_runs : (has : Bool) (e : Event) (ms : List Mark) → e.link ≡ None → Runs ms (due_at has e.point) → Runs ((e, None) ∷ ms) (next_due has)
  exit_runs true e ms none h = (none, h)
  exit_runs false e ms none h = (none, h)

  pub begins_line : (seats : List Seat) (ps : List (Piece bytes)) (p : Point) → EndsLine seats ps → (ps ≡ []) ⊎ ((end_after p seats).column ≡ 1)
  begins_line seats [] p h = inl refl
  begins_line seats (q ∷ qs) p h = inr (h p)

  pub chunks_behind : (ps : List (Piece bytes)) (seats rest : List Seat) (p : Point) → Over ps seats → HavePrefixes ps → (ps ≡ []) ⊎ (p.column ≡ 1) → Track t bytes p (seats ++ rest) → Runs (chunks_of bytes true ps) (due_at (some_in ps) p)
  chunks_behind [] seats rest p h prefixes at track = tt
  chunks_behind (x ∷ ps) seats rest p h prefixes at track =
      let (skip, more, is, prefix, ends, others) = h in
      let whole : seats ++ rest ≡ skip ++ (x.seats ++ (more ++ rest)) = ap (λ l. l ++ rest) is ∙ append_assoc skip (x.seats ++ more) rest ∙ ap (λ l. skip ++ l) (append_assoc x.seats more rest) in
      let track0 = subst (Track t bytes p) whole track in
      let a = end_after p skip in
      let track1 : Track t bytes a (x.seats ++ (more ++ rest)) = track-on t bytes p skip (x.seats ++ (more ++ rest)) track0 in
      let b = end_after a x.seats in
      let track2 : Track t bytes b (more ++ rest) = track-on t bytes a x.seats (more ++ rest) track1 in
      let formed = prefix.forms p (x.seats ++ (more ++ rest)) track0 in
      let column : p.column ≡ 1 = elim at [ inl none ↦ absurd (false≢true (ap has_none none)) | inr column ↦ column ] in
      let further : IsFurther p a = record {
        later = ends_later t bytes p skip (x.seats ++ (more ++ rest)) (sym prefix.none ∙ prefixes.0) prefix.ends track0;
        begins = column;
        line = ends_in_line t bytes p skip (x.seats ++ (more ++ rest)) prefix.ends prefix.in_line track0;
      } in
      by x.seats ps (more ++ rest) a ends track1 further prefix.unlinked (formed.balanced []) (chunks_behind ps more rest b others prefixes.1 (begins_line x.seats ps a ends) track2)
    where
      by : (ss : List Seat) (qs : List (Piece bytes)) (tail : List Seat) (a : Point) → EndsLine ss qs → Track t bytes a (ss ++ tail) → IsFurther p a → Unlinked x.before → names_after_all (Some []) (bare x.before) ≡ Some []
          → Runs (chunks_of bytes true qs) (due_at (some_in qs) (end_after a ss))
          → Runs (x.before ++ (chunk_span bytes (Some (record { content = content.Content; has_previous = true; has_next = some_in qs })) name.Data ss [] ++ chunks_of bytes true qs)) (due_at (not (has_none (ss ++ flat_map (λ (q : Piece bytes). q.seats) qs))) p)
      by [] [] tail a ends track further unlinked names rest = unlinked_runs (x.before ++ []) (unlinked_both x.before [] unlinked tt)
      by [] (q ∷ qs) tail a ends track further unlinked names rest = absurd (let two : 2 ≡ 1 = ends (point 1 2 0 0) in omega (arith, two))
      by (s ∷ ss) qs tail a ends track further unlinked names rest =
          let q = end_after s.end ss in
          let there : Place t bytes q = track-place t bytes q tail (track-on t bytes a (s ∷ ss) tail track) in
          let here : shown bytes s.point ≡ a = track.1.meets in
          let behind = exit_runs (some_in qs) (event bytes Exit name.Data q) (chunks_of bytes true qs) refl (subst (λ r. Runs (chunks_of bytes true qs) (due_at (some_in qs) r)) (sym there.is_shown) rest) in
          let chunk : Chunk = record { content = content.Content; has_previous = true; has_next = some_in qs } in
          let ms = chunk_span bytes (Some chunk) name.Data (s ∷ ss) [] ++ chunks_of bytes true qs in
          unlinked_gap x.before ms p (Some []) unlinked (subst (λ (o : Option (List Name)). Runs ms (a_chunk p o)) (sym names) (refl, refl, refl, subst (IsFurther p) (sym here) further, behind))

  -- The first chunk, and those behind it
  pub chunks_run : (x : Piece bytes) (ps : List (Piece bytes)) (seats rest : List Seat) (p : Point) → OverFrom x ps seats → HavePrefixes ps → has_none x.seats ≡ false → Track t bytes p (seats ++ rest)
      → Runs (chunks_of bytes false (record x { before = [] } ∷ ps)) idle
  chunks_run x ps seats rest p h prefixes some track =
      let (more, is, ends, others) = h in
      let whole : seats ++ rest ≡ x.seats ++ (more ++ rest) = ap (λ l. l ++ rest) is ∙ append_assoc x.seats more rest in
      let track1 : Track t bytes p (x.seats ++ (more ++ rest)) = subst (Track t bytes p) whole track in
      let b = end_after p x.seats in
      let track2 : Track t bytes b (more ++ rest) = track-on t bytes p x.seats (more ++ rest) track1 in
      by x.seats (more ++ rest) some track1 (chunks_behind ps more rest b others prefixes (begins_line x.seats ps p ends) track2)
    where
      by : (ss tail : List Seat) → has_none ss ≡ false → Track t bytes p (ss ++ tail) → Runs (chunks_of bytes true ps) (due_at (some_in ps) (end_after p ss))
          → Runs (chunk_span bytes (Some (record { content = content.Content; has_previous = false; has_next = some_in ps })) name.Data ss [] ++ chunks_of bytes true ps) idle
      by [] tail none track rest = absurd (false≢true (sym none))
      by (s ∷ ss) tail some track rest =
          let q = end_after s.end ss in
          let there : Place t bytes q = track-place t bytes q tail (track-on t bytes p (s ∷ ss) tail track) in
          (refl, refl, exit_runs (some_in ps) (event bytes Exit name.Data q) (chunks_of bytes true ps) refl (subst (λ r. Runs (chunks_of bytes true ps) (due_at (some_in ps) r)) (sym there.is_shown) rest))
