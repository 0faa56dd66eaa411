-- A part of a document, where places of it are in another: its lines, definitions and sections have the same marks there, moved.
use Rattle.std.proofs.Common.{Bool, List, None, Option, Some, [], ap, cond, drop, false, length, not, refl, subst, suc, sym, take, true, ℕ, ◌&&◌, ◌++◌, ◌+◌, ◌-◌, ◌==◌, ◌∙◌, ◌∷◌, ◌≡◌}
use Rattle.std.proofs.lemmas.List.{drop-map, length-map, map-append, reverse-append, take-map}
use Rattle.std.proofs.lemmas.List.Sums.{sum_by-cons}
use Rattle.std.specs.List.{AllByRecursion, flat_map, prefix_len}
use Rattle.std.specs.Prelude.{map, reverse}
use Rattle.markdown_base.proofs.Common.{every-append, every-drop, every-take}
use Rattle.markdown_base.specs.Events.{same_name}
use Rattle.markdown_base.specs.Virtual.{Seat, end_after}
use Rattle.markdown_base.specs.declared.event.Content.TheVariants as content
use Rattle.markdown_base.specs.declared.event.Event.{Event}
use Rattle.markdown_base.specs.declared.event.Kind.{Kind}
use Rattle.markdown_base.specs.declared.event.Kind.TheVariants.{Enter, Exit}
use Rattle.markdown_base.specs.declared.event.Name.{Name}
use Rattle.markdown_base.specs.declared.event.Name.TheVariants as name
use Rattle.markdown_base.specs.declared.event.Point.{Point}
use Rattle.mdconstructs_machines.specs.LineEvents.{ending_of, line_text}
use Rattle.mdconstructs_machines.specs.Spans.{event}
use Rattle.mdinline_labels.specs.Definitions.{end, end_of as end_of_definition}
use Rattle.mdinline_labels.specs.Tails.{begins_with}
use Rattle.mdinline_labels.specs.declared.definitions.Definition.{Definition}
use Rattle.mdinline_labels.specs.declared.definitions.Stretch.{Stretch}
use Rattle.mdblock_leaf_blocks.specs.LeafBlocks.{bytes_of}
use Rattle.mdblock_leaf_blocks.specs.LeafEvents.{Chunk, Mark, chunk_span, leaf_marks, span_marks, white}
use Rattle.mdblock_leaf_blocks.specs.LineKinds.{indent}
use Rattle.mdblock_lines.specs.Containers.{Container, footnote, item, Prefix, quote}
use Rattle.mdblock_tables.proofs.PieceLemmas.{end-moved, two}
use Rattle.mdblock_containers.proofs.JoinLemmas.{join, join_is}
use Rattle.mdblock_containers.specs.Prefixes.{columns_of}
use Rattle.mdblock_containers.specs.Rows.{Row, has_none, holds_ending, rest_of}
use Rattle.mdblock_containers.specs.Skeleton.{Frame, Part, Piece, begin_of, begun_all, begun_marks, chunks_of, end_of, ending_marks, enters_of, exits, footnote_marks, going_marks, inside_of, is_held, joined_pieces, label_marks, last_of, list_name, piece_of, pieces_of, prefixes_marks, shared}
use Rattle.mdblock_definitions.specs.Definitions as those
use Rattle.mdblock_definitions.proofs.StringEnds.{every-before, every-last}
use Rattle.mdblock_definitions.specs.Definitions.{Place, StringLine, all_seats, before_prefixes, between, byte_at, definitions_marks, destination_marks, ending_at, ending_marks as place_ending_marks, further_line, gap_marks, is_byte, last_prefixes, line_marks, marked, parts_marks, places_in, places_of, seats_of, string_lines, text_of}
use Rattle.mdblock_definitions.specs.Sections.{Inside, Section, defined, lines as lines_inside, table as table_inside}
use Rattle.mdblock_table_marks.proofs.TableMoves.{AreMovedBy, IsMovedBy, table-moved}
use Rattle.mdblock_table_marks.specs.TableMarks.{table_marks}
use Rattle.mdblock_definitions.specs.Skeleton.{all_rows, behind_definitions, behind_marks, inside_marks, section_marks, sections_marks}
use Rattle.mddocument.proofs.FlowTexts.Segments.{HasByte}
use Rattle.mddocument_parts.proofs.MovedMarks as marks
use Rattle.mddocument_parts.proofs.MovedMarks.{Places}
use Rattle.mddocument_parts.proofs.Choices.{cond-of}

-- ==== Two documents, where places of the first are in the second, and which numbers its lines have there: so are virtual bytes, marks, lines, parts and sections of it.
-- Two documents, of which places of the first are in the second, and the numbers of lines there
pub record Shift : Type 0 where
  pub places : Places
  pub number : ℕ → ℕ
  pub same : (i j : ℕ) → (number i == number j) ≡ (i == j)

-- containers that begin, each where a byte is left
abbrev pub HaveRoom : List Prefix → List Seat → Type 0
HaveRoom [] seats = Unit {0}
HaveRoom (p ∷ ps) seats = HasByte seats × HaveRoom ps (drop p.size seats)

module _ (m : Shift) where
  abbrev pub ms : List Seat → List Seat
  ms seats = map (λ s. record { byte = s.byte; point = m.places.to s.point; end = m.places.to s.end }) seats

  abbrev pub fe : Event → Event
  fe e = record { kind = e.kind; name = e.name; point = m.places.to e.point; link = m.places.link e.link }

  abbrev pub fm : Mark → Mark
  fm mark = (fe mark.0, mark.1)

  abbrev pub mk : List Mark → List Mark
  mk marks = map fm marks

  -- ---- lines, parts and sections
  abbrev pub mc : Container → Container
  mc (quote q) = quote (record q { line = m.number q.line })
  mc (item i) = item (record i { line = m.number i.line; list = m.number i.list })
  mc (footnote f) = footnote (record f { line = m.number f.line })

  abbrev pub mp : Prefix → Prefix
  mp p = record p { container = mc p.container }

  abbrev pub mps : List Prefix → List Prefix
  mps ps = map mp ps

  abbrev pub mr : Row → Row
  mr row = record row { number = m.number row.number; line = ms row.line; went_on = mps row.went_on; begun = mps row.begun }

  abbrev pub mrs : List Row → List Row
  mrs rows = map mr rows

  abbrev pub mf : Frame → Frame
  mf f = record f { line = m.number f.line }

  abbrev pub mpart : Part → Part
  mpart part = record { first = mr part.first; more = mrs part.more; frames = map mf part.frames; stands = map mc part.stands }

  abbrev pub msection : Section → Section
  msection s = record s { part = mpart s.part }

  -- ---- what is known of them
  abbrev pub IsOk : Point → Type 0
  IsOk p = m.places.known p ≡ true

  abbrev pub AreOk : List Seat → Type 0
  AreOk seats = AllByRecursion (λ s. IsOk s.point × IsOk s.end) seats

  -- a line's places are known, it has a byte, and so it has where containers begin
  pub record IsRowOk (r : Row) : Type 0 where
    pub seats : AreOk r.line
    pub some : HasByte r.line
    pub room : HaveRoom r.begun (drop (columns_of r.went_on) r.line)

  abbrev pub AreRowsOk : List Row → Type 0
  AreRowsOk rows = AllByRecursion IsRowOk rows

  abbrev pub IsPartOk : Part → Type 0
  IsPartOk part = IsRowOk part.first × AreRowsOk part.more

  -- ---- virtual bytes that are others, moved, and their marks
  abbrev pub Moved : (s r : List Seat) → Type 0
  Moved s r = marks.Part m.places.old m.places.new m.places.to m.places.link m.places.unlinked IsOk m.places.shows s r

  pub whole : (r : List Seat) → AreOk r → Moved (ms r) r
  whole = marks.whole m.places.old m.places.new m.places.to m.places.link m.places.unlinked IsOk m.places.shows

  pub bs : (s r : List Seat) → Moved s r → bytes_of s ≡ bytes_of r
  bs = marks.bs m.places.old m.places.new m.places.to m.places.link m.places.unlinked IsOk m.places.shows

  pub tk : (s r : List Seat) (n k : ℕ) → n ≡ k → Moved s r → Moved (take n s) (take k r)
  tk = marks.tk m.places.old m.places.new m.places.to m.places.link m.places.unlinked IsOk m.places.shows

  pub dr : (s r : List Seat) (n k : ℕ) → n ≡ k → Moved s r → Moved (drop n s) (drop k r)
  dr = marks.dr m.places.old m.places.new m.places.to m.places.link m.places.unlinked IsOk m.places.shows

  pub txt : (s r : List Seat) → Moved s r → Moved (line_text s) (line_text r)
  txt = marks.txt m.places.old m.places.new m.places.to m.places.link m.places.unlinked IsOk m.places.shows

  pub ending : (s r : List Seat) → Moved s r → Moved (ending_of s) (ending_of r)
  ending = marks.ending m.places.old m.places.new m.places.to m.places.link m.places.unlinked IsOk m.places.shows

  pub joined-parts : (s r s2 r2 : List Seat) → Moved s r → Moved s2 r2 → Moved (s ++ s2) (r ++ r2)
  joined-parts = marks.joined-parts m.places.old m.places.new m.places.to m.places.link m.places.unlinked IsOk m.places.shows

  pub event-moved : (kind : Kind) (n : Name) (p : Point) → IsOk p → event m.places.new kind n (m.places.to p) ≡ fe (event m.places.old kind n p)
  event-moved = marks.event-moved m.places.old m.places.new m.places.to m.places.link m.places.unlinked IsOk m.places.shows

  pub end-ok : (p : Point) (ss : List Seat) → IsOk p → AreOk ss → IsOk (end_after p ss)
  end-ok = marks.end-ok m.places.old m.places.new m.places.to m.places.link m.places.unlinked IsOk m.places.shows

  pub span : (chunk : Option Chunk) (n : Name) (s r : List Seat) (x y : List Mark) → Moved s r → x ≡ mk y → chunk_span m.places.new chunk n s x ≡ mk (chunk_span m.places.old chunk n r y)
  span = marks.span m.places.old m.places.new m.places.to m.places.link m.places.unlinked IsOk m.places.shows

  pub leaf : (n : Name) (s r : List Seat) → Moved s r → leaf_marks m.places.new n s ≡ mk (leaf_marks m.places.old n r)
  leaf = marks.leaf m.places.old m.places.new m.places.to m.places.link m.places.unlinked IsOk m.places.shows

  pub whites : (s r : List Seat) → Moved s r → white m.places.new s ≡ mk (white m.places.old r)
  whites = marks.whites m.places.old m.places.new m.places.to m.places.link m.places.unlinked IsOk m.places.shows

  pub columns-same : (ps : List Prefix) → columns_of (mps ps) ≡ columns_of ps
  columns-same [] = refl
  columns-same (p ∷ ps) =
      let size : Prefix → ℕ = λ q. q.size in
      sum_by-cons size (mp p) (mps ps) ∙ ap (λ n. p.size + n) (columns-same ps) ∙ sym (sum_by-cons size p ps)

-- ==== The marks of prefixes and of stretches of lines, in a document in which these are moved: the same, moved.
module _ (m : Shift) where
  -- ---- prefixes
  pub begins : (s r : List Seat) → Moved m s r → HasByte r → (begin_of s ≡ m.places.to (begin_of r)) × IsOk m (begin_of r)
  begins s [] p h = absurd h
  begins s (x ∷ r) p h = (ap begin_of p.is, p.ok.0.0)

  going : (c : Container) (s r : List Seat) → Moved m s r → going_marks m.places.new (mc m c) s ≡ mk m (going_marks m.places.old c r)
  going (quote q) s r p =
      let e = ap indent (bs m s r p) in
      two _ _ _ _ _ (whites m _ _ (tk m s r _ _ e p))
      (span m None name.BlockQuotePrefix _ _ _ _ (dr m s r _ _ e p) (two _ _ _ _ _ (leaf m name.BlockQuoteMarker _ _ (tk m _ _ 1 1 refl (dr m s r _ _ e p))) (whites m _ _ (dr m s r _ _ (ap suc e) p))))
  going (item i) s r p = whites m s r p
  going (footnote f) s r p = whites m s r p

  label : (n : ℕ) (s r : List Seat) → Moved m s r → label_marks m.places.new n s ≡ mk m (label_marks m.places.old n r)
  label n s r p =
      let string = tk m _ _ n n refl (dr m s r 2 2 refl p) in
      two _ _ _ _ _ (leaf m name.GfmFootnoteDefinitionLabelMarker _ _ (tk m s r 1 1 refl p))
      (two _ _ _ _ _ (leaf m name.GfmFootnoteDefinitionMarker _ _ (tk m _ _ 1 1 refl (dr m s r 1 1 refl p)))
      (two _ _ _ _ _ (span m None name.GfmFootnoteDefinitionLabelString _ _ _ _ string (leaf m name.Data _ _ string)) (leaf m name.GfmFootnoteDefinitionLabelMarker _ _ (tk m _ _ 1 1 refl (dr m s r (n + 2) (n + 2) refl p)))))

  note : (n : ℕ) (s r : List Seat) → Moved m s r → footnote_marks m.places.new n s ≡ mk m (footnote_marks m.places.old n r)
  note n s r p =
      span m None name.GfmFootnoteDefinitionPrefix s r _ _ p
      (two _ _ _ _ _ (span m None name.GfmFootnoteDefinitionLabel _ _ _ _ (tk m s r (n + 3) (n + 3) refl p) (label n s r p))
      (two _ _ _ _ _ (leaf m name.DefinitionMarker _ _ (tk m _ _ 1 1 refl (dr m s r (n + 3) (n + 3) refl p))) (whites m _ _ (dr m s r (n + 4) (n + 4) refl p))))

  begun : (c : Container) (s r : List Seat) → Moved m s r → begun_marks m.places.new (mc m c) s ≡ mk m (begun_marks m.places.old c r)
  begun (quote q) s r p = going (quote q) s r p
  begun (item i) s r p =
      let e = ap indent (bs m s r p) in
      two _ _ _ _ _ (whites m _ _ (tk m s r _ _ e p))
      (span m None name.ListItemPrefix _ _ _ _ (dr m s r _ _ e p)
      (two _ _ _ _ _ (leaf m name.ListItemValue _ _ (tk m _ _ i.digits i.digits refl (dr m s r _ _ e p)))
      (two _ _ _ _ _ (leaf m name.ListItemMarker _ _ (tk m _ _ 1 1 refl (dr m s r _ _ (ap (λ n. n + i.digits) e) p))) (whites m _ _ (dr m s r _ _ (ap (λ n. suc (n + i.digits)) e) p)))))
  begun (footnote f) s r p = let e = ap indent (bs m s r p) in two _ _ _ _ _ (whites m _ _ (tk m s r _ _ e p)) (note f.label _ _ (dr m s r _ _ e p))

  pub prefixes : (ps : List Prefix) (s r : List Seat) → Moved m s r → prefixes_marks m.places.new (mps m ps) s ≡ mk m (prefixes_marks m.places.old ps r)
  prefixes [] s r q = refl
  prefixes (p ∷ ps) s r q = two _ _ _ _ _ (going p.container _ _ (tk m s r p.size p.size refl q)) (prefixes ps _ _ (dr m s r p.size p.size refl q))

  enters : (c : Container) (p : Point) → IsOk m p → enters_of m.places.new (mc m c) (m.places.to p) ≡ mk m (enters_of m.places.old c p)
  enters (quote q) p k = let e = event-moved m Enter name.BlockQuote p k in (λ i. (e i, None) ∷ [])
  enters (footnote f) p k = let e = event-moved m Enter name.GfmFootnoteDefinition p k in (λ i. (e i, None) ∷ [])
  enters (item i) p k =
      let list = event-moved m Enter (list_name i) p k in
      let this = event-moved m Enter name.ListItem p k in
      (λ j. cond (m.same i.list i.line j) ((list j, None) ∷ []) [] ++ (this j, None) ∷ []) ∙ by (i.list == i.line)
    where
      by : (b : Bool) → cond b ((fe m (event m.places.old Enter (list_name i) p), None) ∷ []) [] ++ (fe m (event m.places.old Enter name.ListItem p), None) ∷ [] ≡ mk m (cond b ((event m.places.old Enter (list_name i) p, None) ∷ []) [] ++ (event m.places.old Enter name.ListItem p, None) ∷ [])
      by true = refl
      by false = refl

  pub begun-all : (ps : List Prefix) (s r : List Seat) → Moved m s r → HaveRoom ps r → begun_all m.places.new (mps m ps) s ≡ mk m (begun_all m.places.old ps r)
  begun-all [] s r q k = refl
  begun-all (p ∷ ps) s r q k =
      let b = begins s r q k.0 in
      two _ _ _ _ _ (ap (enters_of m.places.new (mc m p.container)) b.0 ∙ enters p.container (begin_of r) b.1)
      (two _ _ _ _ _ (begun p.container _ _ (tk m s r p.size p.size refl q)) (begun-all ps _ _ (dr m s r p.size p.size refl q) k.1))

  -- ---- pieces of a stretch
  abbrev pub mpiece : Piece m.places.old → Piece m.places.new
  mpiece p = record { before = mk m p.before; seats = ms m p.seats }

  abbrev pub ArePiecesOk : List (Piece m.places.old) → Type 0
  ArePiecesOk ps = AllByRecursion (λ (p : Piece m.places.old). AreOk m p.seats) ps

  -- pieces that are others, moved
  pub record ArePieces (xs : List (Piece m.places.new)) (ys : List (Piece m.places.old)) : Type 0 where
    pub are : xs ≡ map mpiece ys
    pub ok : ArePiecesOk ys

  pub kept : (b : Bool) (line : List Seat) → AreOk m line → Moved m (cond b (ms m line) (line_text (ms m line))) (cond b line (line_text line))
  kept true line h = whole m line h
  kept false line h = txt m _ _ (whole m line h)

  piece : (b : Bool) (row : Row) → IsRowOk m row → (piece_of m.places.new b (mr m row) ≡ mpiece (piece_of m.places.old b row)) × AreOk m (piece_of m.places.old b row).seats
  piece b row h =
      let before = prefixes row.went_on _ _ (whole m row.line h.seats) in
      let seats = dr m _ _ row.columns row.columns refl (kept b row.line h.seats) in
      ((λ i. let p : Piece m.places.new = record { before = before i; seats = seats.is i } in p), seats.ok)

  pub pieces : (held : Bool) (row : Row) (more : List Row) → IsRowOk m row → AreRowsOk m more → ArePieces (pieces_of m.places.new held (mr m row) (mrs m more)) (pieces_of m.places.old held row more)
  pieces held row [] h hs = let p = piece held row h in record { are = ap (λ x. x ∷ []) p.0; ok = (p.1, tt) }
  pieces held row (next ∷ more) h hs =
      let p = piece true row h in
      let ps = pieces held next more hs.0 hs.1 in
      record { are = (λ i. p.0 i ∷ ps.are i); ok = (p.1, ps.ok) }

  join-same : (p : Piece m.places.old) (js : List (Piece m.places.old)) → join m.places.new (mpiece p) (map mpiece js) ≡ map mpiece (join m.places.old p js)
  join-same p [] = refl
  join-same p (r ∷ rs) =
      let none : has_none (mk m r.before) ≡ has_none r.before = elim r.before as (λ ms. has_none (mk m ms) ≡ has_none ms) [ [] ↦ refl | x ∷ ms ↦ refl ] in
      let seats = sym (map-append (λ s. record { byte = s.byte; point = m.places.to s.point; end = m.places.to s.end }) p.seats r.seats) in
      (λ i. cond (none i) ((let q : Piece m.places.new = record { before = mk m p.before; seats = seats i } in q) ∷ map mpiece rs) (mpiece p ∷ mpiece r ∷ map mpiece rs)) ∙ cond-of (map mpiece) (has_none r.before) (record p { seats = p.seats ++ r.seats } ∷ rs) (p ∷ r ∷ rs)

  join-ok : (p : Piece m.places.old) (js : List (Piece m.places.old)) → AreOk m p.seats → ArePiecesOk js → ArePiecesOk (join m.places.old p js)
  join-ok p [] h k = (h, tt)
  join-ok p (r ∷ rs) h k = by (has_none r.before)
    where
      by : (b : Bool) → ArePiecesOk (cond b (record p { seats = p.seats ++ r.seats } ∷ rs) (p ∷ r ∷ rs))
      by true = (every-append (λ s. IsOk m s.point × IsOk m s.end) p.seats r.seats h k.0, k.1)
      by false = (h, k)

  joined : (ps : List (Piece m.places.old)) → ArePiecesOk ps → ArePieces (joined_pieces m.places.new (map mpiece ps)) (joined_pieces m.places.old ps)
  joined [] h = record { are = refl; ok = tt }
  joined (p ∷ ps) h =
      let rest = joined ps h.1 in
      let js = joined_pieces m.places.old ps in
      let is = join_is m.places.old p ps in
      record {
        are = join_is m.places.new (mpiece p) (map mpiece ps) ∙ ap (join m.places.new (mpiece p)) rest.are ∙ join-same p js ∙ ap (λ l. map mpiece l) (sym is);
        ok = subst ArePiecesOk (sym is) (join-ok p js h.0 rest.ok);
      }

  -- the pieces of lines of a part
  pub joined-lines : (held : Bool) (row : Row) (more : List Row) → IsRowOk m row → AreRowsOk m more → ArePieces (joined_pieces m.places.new (pieces_of m.places.new held (mr m row) (mrs m more))) (joined_pieces m.places.old (pieces_of m.places.old held row more))
  joined-lines held row more h hs =
      let ps = pieces held row more h hs in
      let js = joined (pieces_of m.places.old held row more) ps.ok in
      record { are = ap (joined_pieces m.places.new) ps.are ∙ js.are; ok = js.ok }

  -- ---- chunks
  none-left : (ps : List (Piece m.places.old)) → has_none (flat_map (λ (q : Piece m.places.new). q.seats) (map mpiece ps)) ≡ has_none (flat_map (λ (q : Piece m.places.old). q.seats) ps)
  none-left [] = refl
  none-left (p ∷ ps) = by p.seats (none-left ps)
    where
      by : (ss : List Seat) → has_none (flat_map (λ (q : Piece m.places.new). q.seats) (map mpiece ps)) ≡ has_none (flat_map (λ (q : Piece m.places.old). q.seats) ps)
          → has_none (ms m ss ++ flat_map (λ (q : Piece m.places.new). q.seats) (map mpiece ps)) ≡ has_none (ss ++ flat_map (λ (q : Piece m.places.old). q.seats) ps)
      by [] e = e
      by (s ∷ ss) e = refl

  pub chunks : (w : Bool) (ps : List (Piece m.places.old)) → ArePiecesOk ps → chunks_of m.places.new w (map mpiece ps) ≡ mk m (chunks_of m.places.old w ps)
  chunks w [] h = refl
  chunks w (p ∷ ps) h =
      let chunk : Bool → Option Chunk = λ none. Some (record { content = content.Content; has_previous = w; has_next = not none }) in
      let none = has_none (flat_map (λ (q : Piece m.places.old). q.seats) ps) in
      two _ _ _ _ _ refl
      (two _ _ _ _ _ (ap (λ n. chunk_span m.places.new (chunk n) name.Data (ms m p.seats) []) (none-left ps) ∙ span m (chunk none) name.Data _ _ [] [] (whole m p.seats h.0) refl) (chunks true ps h.1))

  -- the first of them stands behind nothing
  pub first-chunks : (js : List (Piece m.places.new)) (ps : List (Piece m.places.old)) → ArePieces js ps
      → elim js [ [] ↦ [] | p ∷ qs ↦ chunks_of m.places.new false (record p { before = [] } ∷ qs) ] ≡ mk m (elim ps [ [] ↦ [] | p ∷ qs ↦ chunks_of m.places.old false (record p { before = [] } ∷ qs) ])
  first-chunks js ps h = ap (λ (l : List (Piece m.places.new)). elim l [ [] ↦ [] | p ∷ qs ↦ chunks_of m.places.new false (record p { before = [] } ∷ qs) ]) h.are ∙ by ps h.ok
    where
      by : (ps : List (Piece m.places.old)) → ArePiecesOk ps
          → elim (map mpiece ps) [ [] ↦ [] | p ∷ qs ↦ chunks_of m.places.new false (record p { before = [] } ∷ qs) ] ≡ mk m (elim ps [ [] ↦ [] | p ∷ qs ↦ chunks_of m.places.old false (record p { before = [] } ∷ qs) ])
      by [] k = refl
      by (p ∷ qs) k = chunks false (record p { before = [] } ∷ qs) k

  -- ---- parts
  pub last-same : (row : Row) (more : List Row) → last_of (mr m row) (mrs m more) ≡ mr m (last_of row more)
  last-same row [] = refl
  last-same row (next ∷ more) = last-same next more

  pub last-ok : (row : Row) (more : List Row) → IsRowOk m row → AreRowsOk m more → IsRowOk m (last_of row more)
  last-ok row [] h hs = h
  last-ok row (next ∷ more) h hs = last-ok next more hs.0 hs.1

  pub held-same : (part : Part) → is_held (mpart m part) ≡ is_held part
  held-same part = ap (λ (r : Row). not part.first.is_blank && holds_ending r.leaf) (last-same part.first part.more)

  pub stretch : (part : Part) → IsPartOk m part → ArePieces (joined_pieces m.places.new (pieces_of m.places.new (is_held (mpart m part)) (mr m part.first) (mrs m part.more))) (joined_pieces m.places.old (pieces_of m.places.old (is_held part) part.first part.more))
  stretch part h =
      let js = joined-lines (is_held part) part.first part.more h.0 h.1 in
      record { are = ap (λ b. joined_pieces m.places.new (pieces_of m.places.new b (mr m part.first) (mrs m part.more))) (held-same part) ∙ js.are; ok = js.ok }

  pub inside : (part : Part) → IsPartOk m part → inside_of m.places.new (mpart m part) ≡ mk m (inside_of m.places.old part)
  inside part h =
      let r = part.first in
      let n = length part.stands in
      let none : has_none (mps m r.begun) ≡ has_none r.begun = elim r.begun as (λ ps. has_none (mps m ps) ≡ has_none ps) [ [] ↦ refl | p ∷ ps ↦ refl ] in
      let cut : cond (has_none (mps m r.begun)) (columns_of (take (length (map (mc m) part.stands)) (mps m r.went_on))) r.columns ≡ cond (has_none r.begun) (columns_of (take n r.went_on)) r.columns =
      (λ i. cond (none i) (columns_of (take (length-map part.stands (mc m) i) (mps m r.went_on))) r.columns)
      ∙ ap (λ n. cond (has_none r.begun) n r.columns) (ap columns_of (take-map (mp m) n r.went_on) ∙ columns-same m (take n r.went_on)) in
      let first = whites m _ _ (txt m _ _ (dr m _ _ _ _ cut (whole m r.line h.0.seats))) in
      let all = first-chunks _ _ (stretch part h) in
      (λ i. cond r.is_blank (first i) (all i)) ∙ cond-of (mk m) r.is_blank _ _

-- ==== The marks of link reference definitions, in a document in which their lines are moved: the same, moved.
module _ (m : Shift) where
  -- ---- places of a text
  abbrev pub mplace : Place → Place
  mplace (byte_at s) = byte_at (record { byte = s.byte; point = m.places.to s.point; end = m.places.to s.end })
  mplace (ending_at end prefixes marks) = ending_at (ms m end) (ms m prefixes) (mk m marks)

  abbrev pub IsPlaceOk : Place → Type 0
  IsPlaceOk (byte_at s) = IsOk m s.point × IsOk m s.end
  IsPlaceOk (ending_at end prefixes marks) = AreOk m end × AreOk m prefixes

  -- places that are others, moved
  pub record ArePlaces (xs ys : List Place) : Type 0 where
    pub are : xs ≡ map mplace ys
    pub ok : AllByRecursion IsPlaceOk ys

  front : (xs ys : List Place) (n k : ℕ) → n ≡ k → ArePlaces xs ys → ArePlaces (take n xs) (take k ys)
  front xs ys n k e p = record { are = (λ i. take (e i) (p.are i)) ∙ take-map mplace k ys; ok = every-take IsPlaceOk k ys p.ok }

  back : (xs ys : List Place) (n k : ℕ) → n ≡ k → ArePlaces xs ys → ArePlaces (drop n xs) (drop k ys)
  back xs ys n k e p = record { are = (λ i. drop (e i) (p.are i)) ∙ drop-map mplace k ys; ok = every-drop IsPlaceOk k ys p.ok }

  inner : (xs ys : List Place) (a b c d : ℕ) → a ≡ c → b ≡ d → ArePlaces xs ys → ArePlaces (between a b xs) (between c d ys)
  inner xs ys a b c d e f p = front _ _ _ _ (λ i. f i - e i) (back xs ys a c e p)

  both : (xs ys us vs : List Place) → ArePlaces xs ys → ArePlaces us vs → ArePlaces (xs ++ us) (ys ++ vs)
  both xs ys us vs p q = record { are = (λ i. p.are i ++ q.are i) ∙ sym (map-append mplace ys vs); ok = every-append IsPlaceOk ys vs p.ok q.ok }

  -- ---- their bytes
  text-there : (ys : List Place) → text_of (map mplace ys) ≡ text_of ys
  text-there [] = refl
  text-there (byte_at s ∷ ys) = ap (λ t. s.byte ∷ t) (text-there ys)
  text-there (ending_at end prefixes marks ∷ ys) = ap (λ t. 10 ∷ t) (text-there ys)

  texts : (xs ys : List Place) → ArePlaces xs ys → text_of xs ≡ text_of ys
  texts xs ys p = ap text_of p.are ∙ text-there ys

  line-there : (ys : List Place) → prefix_len is_byte (map mplace ys) ≡ prefix_len is_byte ys
  line-there [] = refl
  line-there (byte_at s ∷ ys) = ap (λ n. 1 + n) (line-there ys)
  line-there (ending_at end prefixes marks ∷ ys) = refl

  counts : (xs ys : List Place) → ArePlaces xs ys → length xs ≡ length ys
  counts xs ys p = ap length p.are ∙ length-map ys mplace

  seats-one : (p : Place) → IsPlaceOk p → Moved m (all_seats (mplace p)) (all_seats p)
  seats-one (byte_at s) h = whole m (s ∷ []) (h, tt)
  seats-one (ending_at end prefixes marks) h = joined-parts m _ _ _ _ (whole m end h.0) (whole m prefixes h.1)

  seats-all : (ys : List Place) → AllByRecursion IsPlaceOk ys → Moved m (seats_of (map mplace ys)) (seats_of ys)
  seats-all [] h = whole m [] tt
  seats-all (p ∷ ys) h = joined-parts m _ _ _ _ (seats-one p h.0) (seats-all ys h.1)

  seats : (xs ys : List Place) → ArePlaces xs ys → Moved m (seats_of xs) (seats_of ys)
  seats xs ys p = let q = seats-all ys p.ok in record { is = ap seats_of p.are ∙ q.is; ok = q.ok }

  -- ---- their marks
  leaf-of : (n : Name) (xs ys : List Place) → ArePlaces xs ys → leaf_marks m.places.new n (seats_of xs) ≡ mk m (leaf_marks m.places.old n (seats_of ys))
  leaf-of n xs ys p = leaf m n _ _ (seats xs ys p)

  span-of : (n : Name) (xs ys : List Place) (u v : List Mark) → ArePlaces xs ys → u ≡ mk m v → span_marks m.places.new n (seats_of xs) u ≡ mk m (span_marks m.places.old n (seats_of ys) v)
  span-of n xs ys u v p e = span m None n _ _ u v (seats xs ys p) e

  endings-there : (ys : List Place) → AllByRecursion IsPlaceOk ys → flat_map (place_ending_marks m.places.new) (map mplace ys) ≡ mk m (flat_map (place_ending_marks m.places.old) ys)
  endings-there [] h = refl
  endings-there (byte_at s ∷ ys) h = endings-there ys h.1
  endings-there (ending_at end prefixes marks ∷ ys) h = two _ _ _ _ _ (two _ _ _ _ _ (leaf m name.LineEnding _ _ (whole m end h.0.0)) refl) (endings-there ys h.1)

  place-endings : (xs ys : List Place) → ArePlaces xs ys → flat_map (place_ending_marks m.places.new) xs ≡ mk m (flat_map (place_ending_marks m.places.old) ys)
  place-endings xs ys p = ap (λ l. flat_map (place_ending_marks m.places.new) l) p.are ∙ endings-there ys p.ok

  gap : (xs ys : List Place) → ArePlaces xs ys → gap_marks m.places.new xs ≡ mk m (gap_marks m.places.old ys)
  gap xs ys p =
      let n = ap (prefix_len is_byte) p.are ∙ line-there ys in
      two _ _ _ _ _ (whites m _ _ (seats _ _ (front xs ys _ _ n p)))
      (two _ _ _ _ _ (place-endings _ _ (front _ _ 1 1 refl (back xs ys _ _ n p))) (whites m _ _ (seats _ _ (back xs ys _ _ (ap (λ n. n + 1) n) p))))

  further : (s r : List Seat) → Moved m s r → further_line m.places.new s ≡ mk m (further_line m.places.old r)
  further s r p = let e = ap indent (bs m s r p) in two _ _ _ _ _ (whites m _ _ (tk m s r _ _ e p)) (leaf m name.Data _ _ (dr m s r _ _ e p))

  -- ---- lines of a string
  abbrev mline : StringLine → StringLine
  mline line = record { seats = ms m line.seats; behind = map mplace line.behind }

  abbrev IsLineOk : StringLine → Type 0
  IsLineOk line = AreOk m line.seats × AllByRecursion IsPlaceOk line.behind

  record Lines (xs ys : List StringLine) : Type 0 where
    pub are : xs ≡ map mline ys
    pub ok : AllByRecursion IsLineOk ys

  lines-there : (ys : List Place) → AllByRecursion IsPlaceOk ys → Lines (string_lines (map mplace ys)) (string_lines ys)
  lines-there [] h = record { are = refl; ok = tt }
  lines-there (ending_at end prefixes marks ∷ ys) h =
      let rest = lines-there ys h.1 in
      record { are = ap (λ l. (let line : StringLine = record { seats = []; behind = ending_at (ms m end) (ms m prefixes) (mk m marks) ∷ [] } in line) ∷ l) rest.are; ok = ((tt, (h.0, tt)), rest.ok) }
  lines-there (byte_at s ∷ ys) h =
      let rest = lines-there ys h.1 in
      let l = same (string_lines ys) rest.ok in
      record { are = ap (λ ls. elim ls [ [] ↦ record { seats = there ∷ []; behind = [] } ∷ [] | line ∷ lines ↦ record line { seats = there ∷ line.seats } ∷ lines ]) rest.are ∙ l.are; ok = l.ok }
    where
      there : Seat
      there = record { byte = s.byte; point = m.places.to s.point; end = m.places.to s.end }

      same : (ls : List StringLine) → AllByRecursion IsLineOk ls
          → Lines (elim (map mline ls) [ [] ↦ record { seats = there ∷ []; behind = [] } ∷ [] | line ∷ lines ↦ record line { seats = there ∷ line.seats } ∷ lines ])
          (elim ls [ [] ↦ record { seats = s ∷ []; behind = [] } ∷ [] | line ∷ lines ↦ record line { seats = s ∷ line.seats } ∷ lines ])
      same [] k = record { are = refl; ok = (((h.0, tt), tt), tt) }
      same (line ∷ lines) k = record { are = refl; ok = (((h.0, k.0.0), k.0.1), k.1) }

  line-marks : (is_first : Bool) (ls : List StringLine) → AllByRecursion IsLineOk ls → line_marks m.places.new is_first (map mline ls) ≡ mk m (line_marks m.places.old is_first ls)
  line-marks is_first [] h = refl
  line-marks is_first (line ∷ lines) h = two _ _ _ _ _ (by is_first) (two _ _ _ _ _ (endings-there line.behind h.0.1) (line-marks false lines h.1))
    where
      by : (b : Bool) → cond b (leaf_marks m.places.new name.Data (ms m line.seats)) (further_line m.places.new (ms m line.seats)) ≡ mk m (cond b (leaf_marks m.places.old name.Data line.seats) (further_line m.places.old line.seats))
      by true = leaf m name.Data _ _ (whole m line.seats h.0.0)
      by false = further _ _ (whole m line.seats h.0.0)

  -- where a string ends
  before-there : (ys : List Place) → before_prefixes (map mplace ys) ≡ map mplace (before_prefixes ys)
  before-there [] = refl
  before-there (byte_at s ∷ ys) = ap (λ l. mplace (byte_at s) ∷ l) (before-there ys)
  before-there (ending_at end prefixes marks ∷ []) = refl
  before-there (ending_at end prefixes marks ∷ next ∷ ys) = ap (λ l. mplace (ending_at end prefixes marks) ∷ l) (before-there (next ∷ ys))

  last-there : (ys : List Place) → last_prefixes (map mplace ys) ≡ map mplace (last_prefixes ys)
  last-there [] = refl
  last-there (byte_at s ∷ ys) = last-there ys
  last-there (ending_at end prefixes marks ∷ []) = refl
  last-there (ending_at end prefixes marks ∷ next ∷ ys) = last-there (next ∷ ys)

  string-inside : (xs ys : List Place) → ArePlaces xs ys → ArePlaces (before_prefixes xs) (before_prefixes ys)
  string-inside xs ys p = record { are = ap before_prefixes p.are ∙ before-there ys; ok = every-before IsPlaceOk (λ end prefixes marks h. (h.0, tt)) ys p.ok }

  string-behind : (xs ys : List Place) → ArePlaces xs ys → ArePlaces (last_prefixes xs) (last_prefixes ys)
  string-behind xs ys p = record { are = ap last_prefixes p.are ∙ last-there ys; ok = every-last IsPlaceOk (λ end prefixes marks h. (tt, h.1)) ys p.ok }

  string : (n : Name) (xs ys : List Place) → ArePlaces xs ys → those.string m.places.new n xs ≡ mk m (those.string m.places.old n ys)
  string n xs ys p =
      let q = string-inside xs ys p in
      let ls = lines-there (before_prefixes ys) q.ok in
      two _ _ _ _ _ (span-of n _ _ _ _ q (ap (λ l. line_marks m.places.new true (string_lines l)) q.are ∙ ap (line_marks m.places.new true) ls.are ∙ line-marks true (string_lines (before_prefixes ys)) ls.ok))
      (place-endings _ _ (string-behind xs ys p))

  between-marks : (n k : Name) (xs ys : List Place) → ArePlaces xs ys → marked m.places.new n k xs ≡ mk m (marked m.places.old n k ys)
  between-marks n k xs ys p =
      let last = ap (λ n. n - 1) (counts xs ys p) in
      two _ _ _ _ _ (leaf-of n _ _ (inner xs ys 0 1 0 1 refl refl p)) (two _ _ _ _ _ (string k _ _ (inner xs ys 1 _ 1 _ refl last p)) (leaf-of n _ _ (back xs ys _ _ last p)))

  destination : (xs ys : List Place) → ArePlaces xs ys → destination_marks m.places.new xs ≡ mk m (destination_marks m.places.old ys)
  destination xs ys p =
      let literal = span-of name.DefinitionDestinationLiteral xs ys _ _ p (between-marks name.DefinitionDestinationLiteralMarker name.DefinitionDestinationString xs ys p) in
      let raw = span-of name.DefinitionDestinationRaw xs ys _ _ p (string name.DefinitionDestinationString xs ys p) in
      span-of name.DefinitionDestination xs ys _ _ p ((λ i. cond (begins_with 60 (texts xs ys p i)) (literal i) (raw i)) ∙ cond-of (mk m) (begins_with 60 (text_of ys)) _ _)

  -- ---- definitions
  parts : (d : Definition) (xs ys : List Place) → ArePlaces xs ys → parts_marks m.places.new d xs ≡ mk m (parts_marks m.places.old d ys)
  parts d xs ys p =
      let at = λ (a b : ℕ). inner xs ys a b a b refl refl p in
      two _ _ _ _ _ (gap _ _ (at 0 d.label.from))
      (two _ _ _ _ _ (span-of name.DefinitionLabel _ _ _ _ (at d.label.from (end d.label)) (between-marks name.DefinitionLabelMarker name.DefinitionLabelString _ _ (at d.label.from (end d.label))))
      (two _ _ _ _ _ (leaf-of name.DefinitionMarker _ _ (at (end d.label) (end d.label + 1)))
      (two _ _ _ _ _ (gap _ _ (at (end d.label + 1) d.destination.from))
      (two _ _ _ _ _ (destination _ _ (at d.destination.from (end d.destination)))
      (two _ _ _ _ _ (title d.title) (gap _ _ (at (end_of_definition d.title d.destination) d.size)))))))
    where
      title : (o : Option Stretch)
          → elim o [ None ↦ [] | Some t ↦ gap_marks m.places.new (between (end d.destination) t.from xs) ++ span_marks m.places.new name.DefinitionTitle (seats_of (places_of t xs)) (marked m.places.new name.DefinitionTitleMarker name.DefinitionTitleString (places_of t xs)) ]
          ≡ mk m (elim o [ None ↦ [] | Some t ↦ gap_marks m.places.old (between (end d.destination) t.from ys) ++ span_marks m.places.old name.DefinitionTitle (seats_of (places_of t ys)) (marked m.places.old name.DefinitionTitleMarker name.DefinitionTitleString (places_of t ys)) ])
      title None = refl
      title (Some t) =
          let at = λ (a b : ℕ). inner xs ys a b a b refl refl p in
          two _ _ _ _ _ (gap _ _ (at (end d.destination) t.from)) (span-of name.DefinitionTitle _ _ _ _ (at t.from (end t)) (between-marks name.DefinitionTitleMarker name.DefinitionTitleString _ _ (at t.from (end t))))

  pub definitions : (ds : List Definition) (xs ys : List Place) → ArePlaces xs ys → definitions_marks m.places.new ds xs ≡ mk m (definitions_marks m.places.old ds ys)
  definitions [] xs ys p = refl
  definitions (d ∷ ds) xs ys p =
      let first = front xs ys d.size d.size refl p in
      two _ _ _ _ _ (span-of name.Definition _ _ _ _ first (parts d _ _ first))
      (two _ _ _ _ _ (place-endings _ _ (inner xs ys d.size (d.size + 1) d.size (d.size + 1) refl refl p)) (definitions ds _ _ (back xs ys (d.size + 1) (d.size + 1) refl p)))

  -- ---- the text of lines
  bytes-there : (r : List Seat) → AreOk m r → ArePlaces (map byte_at (ms m r)) (map byte_at r)
  bytes-there [] h = record { are = refl; ok = tt }
  bytes-there (s ∷ r) h = let rest = bytes-there r h.1 in record { are = ap (λ l. byte_at (record { byte = s.byte; point = m.places.to s.point; end = m.places.to s.end }) ∷ l) rest.are; ok = (h.0, rest.ok) }

  pub lines-places : (rows : List Row) → AreRowsOk m rows → ArePlaces (places_in m.places.new (mrs m rows)) (places_in m.places.old rows)
  lines-places [] h = record { are = refl; ok = tt }
  lines-places (row ∷ rows) h =
      let here = dr m _ _ row.columns row.columns refl (txt m _ _ (whole m row.line h.0.seats)) in
      let bytes = bytes-there _ here.ok in
      both _ _ _ _ (record { are = ap (λ l. map byte_at l) here.is ∙ bytes.are; ok = bytes.ok }) (by rows _ _ h.1 (lines-places rows h.1))
    where
      by : (rows : List Row) (xs ys : List Place) → AreRowsOk m rows → ArePlaces xs ys
          → ArePlaces (elim (mrs m rows) [ [] ↦ [] | next ∷ more ↦ ending_at (ending_of (ms m row.line)) (take (columns_of next.went_on) next.line) (prefixes_marks m.places.new next.went_on next.line) ∷ xs ])
          (elim rows [ [] ↦ [] | next ∷ more ↦ ending_at (ending_of row.line) (take (columns_of next.went_on) next.line) (prefixes_marks m.places.old next.went_on next.line) ∷ ys ])
      by [] xs ys k p = record { are = refl; ok = tt }
      by (next ∷ more) xs ys k p =
          let last = ending m _ _ (whole m row.line h.0.seats) in
          let line = whole m next.line k.0.seats in
          let skip = tk m _ _ _ _ (columns-same m next.went_on) line in
          let before = prefixes m next.went_on _ _ line in
          record { are = (λ i. ending_at (last.is i) (skip.is i) (before i) ∷ p.are i); ok = ((last.ok, skip.ok), p.ok) }

-- ==== The marks of sections, in a document in which their lines are moved: the same, moved.
module _ (m : Shift) where
  abbrev pub IsSectionOk : Section → Type 0
  IsSectionOk s = IsPartOk m s.part

  -- ---- what is in a section
  rest-same : (r : Row) → IsRowOk m r → rest_of (mr m r) ≡ rest_of r
  rest-same r h = ap (drop r.columns) (bs m _ _ (txt m _ _ (whole m r.line h.seats)))

  behind : (part : Part) → IsPartOk m part → behind_definitions m.places.new (mpart m part) ≡ mk m (behind_definitions m.places.old part)
  behind part h =
      let n = ap indent (rest-same part.first h.0) in
      let ps = stretch m part h in
      ap (λ (l : List (Piece m.places.new)). cut-at (indent (rest_of (mr m part.first))) l) ps.are ∙ ap (λ n. cut-at n (map (mpiece m) (joined_pieces m.places.old (pieces_of m.places.old (is_held part) part.first part.more)))) n ∙ by (joined_pieces m.places.old (pieces_of m.places.old (is_held part) part.first part.more)) ps.ok
    where
      cut-at : ℕ → List (Piece m.places.new) → List Mark
      cut-at n js = elim js [ [] ↦ [] | p ∷ ps ↦ white m.places.new (take n p.seats) ++ chunks_of m.places.new false (record p { before = []; seats = drop n p.seats } ∷ ps) ]

      by : (js : List (Piece m.places.old)) → ArePiecesOk m js
          → cut-at (indent (rest_of part.first)) (map (mpiece m) js)
          ≡ mk m (elim js [ [] ↦ [] | p ∷ ps ↦ white m.places.old (take (indent (rest_of part.first)) p.seats) ++ chunks_of m.places.old false (record p { before = []; seats = drop (indent (rest_of part.first)) p.seats } ∷ ps) ])
      by [] k = refl
      by (p ∷ ps) k =
          let n = indent (rest_of part.first) in
          let left = dr m _ _ n n refl (whole m p.seats k.0) in
          two _ _ _ _ _ (whites m _ _ (tk m _ _ n n refl (whole m p.seats k.0)))
          (ap (λ (l : List Seat). chunks_of m.places.new false ((let q : Piece m.places.new = record { before = []; seats = l } in q) ∷ map (mpiece m) ps)) left.is ∙ chunks m false ((let q : Piece m.places.old = record { before = []; seats = drop n p.seats } in q) ∷ ps) (left.ok, k.1))

  -- a table
  is-mark : (k : Kind) (n : Name) (p : Point) → IsOk m p → (event m.places.new k n (m.places.to p), None) ≡ fm m (event m.places.old k n p, None)
  is-mark k n p h = let e = event-moved m k n p h in (λ i. (e i, None))

  abbrev IsMovedRow : Row → Row → Type 0
  IsMovedRow r s = IsMovedBy m.places.old m.places.new m.places.to m.places.known (fm m) is-mark r s

  row-moves : (r : Row) → IsRowOk m r → IsMovedRow r (mr m r)
  row-moves r h = record { line = refl; columns = refl; prefixes = columns-same m r.went_on; marks = prefixes m r.went_on _ _ (whole m r.line h.seats); known_line = h.seats }

  rows-move : (rs : List Row) → AreRowsOk m rs → AreMovedBy m.places.old m.places.new m.places.to m.places.known (fm m) is-mark rs (mrs m rs)
  rows-move [] h = tt
  rows-move (r ∷ rs) h = (row-moves r h.0, rows-move rs h.1)

  tabled : (part : Part) → IsPartOk m part → table_marks m.places.new (mpart m part) ≡ mk m (table_marks m.places.old part)
  tabled part h = table-moved m.places.old m.places.new m.places.to m.places.known (fm m) is-mark part.first (mr m part.first) part.more (mrs m part.more) (row-moves part.first h.0) (rows-move part.more h.1)

  inside-of : (part : Part) (i : Inside) → IsPartOk m part → inside_marks m.places.new (mpart m part) i ≡ mk m (inside_marks m.places.old part i)
  inside-of part (lines_inside true) h = behind part h
  inside-of part (lines_inside false) h = inside m part h
  inside-of part (defined ds) h = definitions m ds _ _ (lines-places m (all_rows part) h)
  inside-of part table_inside h = tabled part h

  -- ---- where a part ends
  turned : (fs : List Frame) → reverse (map (mf m) fs) ≡ map (mf m) (reverse fs)
  turned [] = refl
  turned (f ∷ fs) =
      reverse-append (mf m f ∷ []) (map (mf m) fs)
      ∙ ap (λ l. l ++ mf m f ∷ []) (turned fs)
      ∙ sym (map-append (mf m) (reverse fs) (f ∷ []))
      ∙ ap (λ l. map (mf m) l) (sym (reverse-append (f ∷ []) fs))

  exits-of : (fs : List Frame) (p q : Point) → q ≡ m.places.to p → IsOk m p → exits m.places.new (map (mf m) fs) q ≡ mk m (exits m.places.old fs p)
  exits-of fs p q e h = ap (λ l. map (λ (f : Frame). let x : Mark = (event m.places.new Exit f.name q, None) in x) l) (turned fs) ∙ ap (λ q. map (λ (f : Frame). let x : Mark = (event m.places.new Exit f.name q, None) in x) (map (mf m) (reverse fs))) e ∙ by (reverse fs)
    where
      by : (fs : List Frame) → map (λ (f : Frame). let x : Mark = (event m.places.new Exit f.name (m.places.to p), None) in x) (map (mf m) fs) ≡ mk m (map (λ (f : Frame). let x : Mark = (event m.places.old Exit f.name p, None) in x) fs)
      by [] = refl
      by (f ∷ fs) = let v = event-moved m Exit f.name p h in (λ i. (v i, None) ∷ by fs i)

  shared-same : (fs gs : List Frame) → shared (map (mf m) fs) (map (mf m) gs) ≡ shared fs gs
  shared-same [] gs = refl
  shared-same (f ∷ fs) [] = refl
  shared-same (f ∷ fs) (g ∷ gs) = (λ i. cond (same_name f.name g.name && m.same f.line g.line i) (suc (shared-same fs gs i)) 0)

  ends : (part : Part) → IsPartOk m part → (end_of m.places.new (mpart m part) ≡ m.places.to (end_of m.places.old part)) × IsOk m (end_of m.places.old part)
  ends part h =
      let row = last_of part.first part.more in
      let ok = last-ok m part.first part.more h.0 h.1 in
      let first = begins m _ _ (whole m row.line ok.seats) ok.some in
      let held = is_held part in
      let all = kept m held row.line ok.seats in (
        (λ i. end_after (begin_of (last-same m part.first part.more i).line) (cond (held-same m part i) (last-same m part.first part.more i).line (line_text (last-same m part.first part.more i).line)))
            ∙ (λ i. end_after (first.0 i) (all.is i))
            ∙ end-moved m.places.to (begin_of row.line) (cond held row.line (line_text row.line)),
        end-ok m (begin_of row.line) (cond held row.line (line_text row.line)) first.1 all.ok,
      )

  endings : (part : Part) → IsPartOk m part → ending_marks m.places.new (mpart m part) ≡ mk m (ending_marks m.places.old part)
  endings part h =
      let row = last_of part.first part.more in
      let ok = last-ok m part.first part.more h.0 h.1 in
      let n : Name = cond part.first.is_blank name.BlankLineEnding name.LineEnding in
      (λ i. cond (held-same m part i) [] (leaf_marks m.places.new n (ending_of (last-same m part.first part.more i).line)))
      ∙ ap (λ l. cond (is_held part) [] l) (leaf m n _ _ (ending m _ _ (whole m row.line ok.seats)))
      ∙ cond-of (mk m) (is_held part) [] _

  -- ---- sections
  one : (s : Section) → IsSectionOk s → section_marks m.places.new (msection m s) ≡ mk m (section_marks m.places.old s)
  one s h =
      let part = s.part in
      let r = part.first in
      let n = length part.stands in
      let line = whole m r.line h.0.seats in
      let went : take (length (msection m s).part.stands) (mps m r.went_on) ≡ mps m (take n r.went_on) = ap (λ n. take n (mps m r.went_on)) (length-map part.stands _) ∙ take-map (mp m) n r.went_on in
      let left = dr m _ _ _ _ (columns-same m r.went_on) line in
      two _ _ _ _ _ (ap (λ ps. prefixes_marks m.places.new ps (ms m r.line)) went ∙ prefixes m (take n r.went_on) _ _ line) (two _ _ _ _ _ (begun-all m r.begun _ _ left h.0.room) (inside-of part s.inside h))

  behinds : (part : Part) → IsPartOk m part → (ss : List Section) → AllByRecursion IsSectionOk ss → behind_marks m.places.new (mpart m part) (map (msection m) ss) ≡ mk m (behind_marks m.places.old part ss)
  behinds part h [] k =
      let e = ends part h in
      two _ _ _ _ _ (exits-of part.frames _ _ e.0 e.1) (endings part h)
  behinds part h (next ∷ more) k =
      let e = ends part h in
      let n = shared part.frames next.part.frames in
      let left : drop (shared (map (mf m) part.frames) (map (mf m) next.part.frames)) (map (mf m) part.frames) ≡ map (mf m) (drop n part.frames) = ap (λ n. drop n (map (mf m) part.frames)) (shared-same part.frames next.part.frames) ∙ drop-map (mf m) n part.frames in
      two _ _ _ _ _ (ap (λ fs. exits m.places.new fs (end_of m.places.new (mpart m part))) left ∙ exits-of (drop n part.frames) _ _ e.0 e.1)
      (two _ _ _ _ _ (endings part h) (two _ _ _ _ _ (one next k.0) (behinds next.part k.0 more k.1)))

  -- The marks of moved sections are those of the sections, moved
  pub sections-marks-moved : (ss : List Section) → AllByRecursion IsSectionOk ss → sections_marks m.places.new (map (msection m) ss) ≡ mk m (sections_marks m.places.old ss)
  sections-marks-moved [] h = refl
  sections-marks-moved (s ∷ ss) h = two _ _ _ _ _ (one s h.0) (behinds s.part h.0 ss h.1)
