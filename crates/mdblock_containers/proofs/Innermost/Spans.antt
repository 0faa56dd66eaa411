-- Marks of containers that begin and end, of prefixes and of chunks: which virtual bytes their innermost spans are over.
use Rattle.std.proofs.Common.{◌≡◌, ℕ, zero, suc, ◌+◌, ◌-◌, ◌≤◌, Bool, true, false, cond, List, [], ◌∷◌, ◌++◌, length, take, drop, map, refl, sym, ap, ◌∙◌, subst, arith, append_assoc}
use Rattle.std.specs.Prelude.{◌==◌, reverse, Option, None, Some}
use Rattle.std.specs.List.{AllByRecursion, flat_map}
use Rattle.std.proofs.lemmas.List.{length-drop, map-append}
use Rattle.std.proofs.lemmas.List.Sums.{sum_by-cons}
use Rattle.markdown_base.proofs.Common.{none-mapped}
use Rattle.markdown_base.specs.declared.event.Event.{Event}
use Rattle.markdown_base.specs.declared.event.Kind.TheVariants.{Enter, Exit}
use Rattle.markdown_base.specs.declared.event.Name.TheVariants as name
use Rattle.markdown_base.specs.declared.event.Point.{Point}
use Rattle.markdown_base.specs.Events.{is_enter}
use Rattle.markdown_base.specs.Virtual.{Seat}
use Rattle.mdblock_leaf_blocks.proofs.Lines.WholeLines.{IsWhole, whole-behind, whole-front}
use Rattle.mdblock_leaf_blocks.proofs.Marks.MarkAccounts.{AreSpans, accounts-kept, bare, ended-alike}
use Rattle.mdblock_leaf_blocks.proofs.Marks.MarkSpans.{no-spans, over, spans-both}
use Rattle.mdblock_leaf_blocks.specs.LeafEvents.{Chunk, Mark, chunk_span}
use Rattle.mdconstructs_machines.proofs.Innermost.{enter-more, exit-more, span-more}
use Rattle.mdconstructs_machines.specs.Innermost.{AccountFor, ended_next, innermost_spans, span_over, stretch_bytes}
use Rattle.mdconstructs_machines.specs.Spans.{event}
use Rattle.mdblock_lines.specs.Containers.{Container, Prefix, footnote, item, quote}
use Rattle.mdblock_containers.proofs.Pieces.{Over}
use Rattle.mdblock_containers.proofs.PrefixSpans.{begun_kept, take_more}
use Rattle.mdblock_containers.specs.Prefixes.{columns_of}
use Rattle.mdblock_containers.specs.Skeleton.{Frame, Piece, begun_all, begun_marks, chained_from, chunks_of, enters_of, exits, list_name, next_chunk}

-- ---- links change no innermost span

pub ended_chained : (x : Event) (i : ℕ) (previous : Option ℕ) (ms : List Mark) → ended_next x (chained_from i previous ms) ≡ ended_next x (bare ms)
ended_chained x i previous [] = refl
ended_chained x i previous ((f, None) ∷ ms) = refl
ended_chained x i previous ((f, Some chunk) ∷ ms) = refl

pub chained_spans : (i : ℕ) (previous : Option ℕ) (ms : List Mark) → innermost_spans (chained_from i previous ms) ≡ innermost_spans (bare ms)
chained_spans i previous [] = refl
chained_spans i previous ((e, None) ∷ ms) = (λ k. cond (is_enter e.kind) (ended_chained e (suc i) previous ms k) [] ++ chained_spans (suc i) previous ms k)
chained_spans i previous ((e, Some chunk) ∷ ms) =
    let x : Event = record e { link = Some (record { previous = cond chunk.has_previous previous None; next = cond chunk.has_next (next_chunk (suc i) ms) None; content = chunk.content }) } in
    let ended : ended_next x (chained_from (suc i) (Some i) ms) ≡ ended_next e (bare ms) = ended_chained x (suc i) (Some i) ms ∙ ended-alike x e (bare ms) refl in
    (λ k. cond (is_enter e.kind) (ended k) [] ++ chained_spans (suc i) (Some i) ms k)

module _ (bytes : List ℕ) where
  -- Marks account for virtual bytes, with more behind; they may begin with an exit
  abbrev pub Accounts : List Mark → List Seat → Type 0
  Accounts marks seats = (events : List Event) (more : List Seat) → AccountFor events bytes more → AccountFor (bare marks ++ events) bytes (seats ++ more)

  pub both_account : (xs ys : List Mark) (a b : List Seat) → Accounts xs a → Accounts ys b → Accounts (xs ++ ys) (a ++ b)
  both_account xs ys a b h k events more rest =
      subst (λ es. AccountFor es bytes ((a ++ b) ++ more)) (sym (ap (λ l. l ++ events) (map-append (λ (m : Mark). m.0) xs ys) ∙ append_assoc (bare xs) (bare ys) events))
      (subst (AccountFor (bare xs ++ (bare ys ++ events)) bytes) (sym (append_assoc a b more)) (h (bare ys ++ events) (b ++ more) (k events more rest)))

  pub exit_each : (fs : List Frame) (p : Point) → Accounts (map (λ (f : Frame). (event bytes Exit f.name p, None)) fs) []
  exit_each [] p events more h = h
  exit_each (f ∷ fs) p events more h = exit-more bytes (event bytes Exit f.name p) _ more refl (exit_each fs p events more h)

  -- spans that end have no virtual bytes
  pub exits_account : (fs : List Frame) (p : Point) → Accounts (exits bytes fs p) []
  exits_account fs p = exit_each (reverse fs) p

  -- ---- containers that begin

  -- no marks account for no virtual bytes only
  pub none_for_some : (s : Seat) (ss : List Seat) → AreSpans bytes [] (s ∷ ss) → ⊥
  none_for_some s ss h =
      let there = h.account [] [] (record { stretches = []; are_all = refl; are_innermost = refl }) in
      let none = none-mapped (span_over bytes) there.stretches (sym there.are_innermost) in
      let is : (s ∷ ss) ++ [] ≡ [] = sym there.are_all ∙ ap (flat_map stretch_bytes) none in
      absurd (cc)

  -- an enter before whole spans
  pub enter_spans : (e : Event) (ms : List Mark) (s : Seat) (ss : List Seat) → e.kind ≡ Enter → AreSpans bytes ms (s ∷ ss) → AreSpans bytes ((e, None) ∷ ms) (s ∷ ss)
  enter_spans e [] s ss enters h = absurd (none_for_some s ss h)
  enter_spans e (m ∷ ms) s ss enters h = record { begins = enters; account = λ events more rest. enter-more bytes e m.0 (bare ms ++ events) ((s ∷ ss) ++ more) enters h.begins (h.account events more rest) }

  pub container_spans : (c : Container) (p : Point) (ms : List Mark) (s : Seat) (ss : List Seat) → AreSpans bytes ms (s ∷ ss) → AreSpans bytes (enters_of bytes c p ++ ms) (s ∷ ss)
  container_spans (quote q) p ms s ss h = enter_spans (event bytes Enter name.BlockQuote p) ms s ss refl h
  container_spans (footnote f) p ms s ss h = enter_spans (event bytes Enter name.GfmFootnoteDefinition p) ms s ss refl h
  container_spans (item i) p ms s ss h = by (i.list == i.line)
    where
      by : (b : Bool) → AreSpans bytes ((cond b ((event bytes Enter (list_name i) p, None) ∷ []) [] ++ (event bytes Enter name.ListItem p, None) ∷ []) ++ ms) (s ∷ ss)
      by true = enter_spans (event bytes Enter (list_name i) p) ((event bytes Enter name.ListItem p, None) ∷ ms) s ss refl (enter_spans (event bytes Enter name.ListItem p) ms s ss refl h)
      by false = enter_spans (event bytes Enter name.ListItem p) ms s ss refl h

  pub some_taken : (n : ℕ) (s : Seat) (ss : List Seat) → 1 ≤ n → (m : ℕ) × (take n (s ∷ ss) ≡ s ∷ take m ss)
  some_taken zero s ss h = absurd (omega (arith, h))
  some_taken (suc n) s ss h = (n, refl)

  -- a container with its prefix, and containers that begin, each with its prefix
  pub prefixed_spans : (c : Prefix) (s : Seat) (ss : List Seat) → 1 ≤ c.size → IsWhole (s ∷ ss) → AreSpans bytes (enters_of bytes c.container s.point ++ begun_marks bytes c.container (take c.size (s ∷ ss))) (take c.size (s ∷ ss))
  prefixed_spans c s ss some w =
      let (m, is) = some_taken c.size s ss some in
      let inside = begun_kept bytes (AreSpans bytes) (accounts-kept bytes) c.container (take c.size (s ∷ ss)) (whole-front c.size (s ∷ ss) w) in
      subst (λ l. AreSpans bytes (enters_of bytes c.container s.point ++ begun_marks bytes c.container l) l) (sym is)
      (container_spans c.container s.point (begun_marks bytes c.container (s ∷ take m ss)) s (take m ss) (subst (λ l. AreSpans bytes (begun_marks bytes c.container l) l) is inside))

  pub begun_spans : (ps : List Prefix) (ss : List Seat) → AllByRecursion (λ (q : Prefix). 1 ≤ q.size) ps → columns_of ps ≤ length ss → IsWhole ss → AreSpans bytes (begun_all bytes ps ss) (take (columns_of ps) ss)
  begun_spans [] ss sizes few w = no-spans bytes (AreSpans bytes) (accounts-kept bytes)
  begun_spans (c ∷ ps) [] sizes few w =
      let all : columns_of (c ∷ ps) ≡ c.size + columns_of ps = sum_by-cons (λ (q : Prefix). q.size) c ps in
      let some = sizes.0 in
      absurd (omega (arith, few, all, some))
  begun_spans (c ∷ ps) (s ∷ ss) sizes few w =
      let seats = s ∷ ss in
      let all : columns_of (c ∷ ps) ≡ c.size + columns_of ps = sum_by-cons (λ (q : Prefix). q.size) c ps in
      let left : length (drop c.size seats) ≡ length seats - c.size = length-drop c.size seats in
      let others = begun_spans ps (drop c.size seats) sizes.1 (omega (arith, few, all, left)) (whole-behind c.size seats w) in
      let enters = enters_of bytes c.container s.point in
      let prefix = begun_marks bytes c.container (take c.size seats) in
      subst (λ ms. AreSpans bytes ms (take (columns_of (c ∷ ps)) seats)) (append_assoc enters prefix (begun_all bytes ps (drop c.size seats)))
      (over bytes (AreSpans bytes) (accounts-kept bytes) (take (columns_of (c ∷ ps)) seats) (take_more c.size (columns_of ps) seats ∙ ap (λ k. take k seats) (sym all))
      (spans-both bytes (AreSpans bytes) (accounts-kept bytes) (prefixed_spans c s ss sizes.0 w) others))

  -- ---- chunks

  pub chunk_spans : (chunk : Option Chunk) (ss : List Seat) → AreSpans bytes (chunk_span bytes chunk name.Data ss []) ss
  chunk_spans chunk [] = no-spans bytes (AreSpans bytes) (accounts-kept bytes)
  chunk_spans chunk (s ∷ ss) = record { begins = refl; account = λ events more h. span-more bytes _ _ events s ss more refl refl refl refl h }

  -- each piece is a chunk behind its prefix
  pub pieces_spans : (t : ℕ) (w : Bool) (ps : List (Piece bytes)) (seats : List Seat) → Over t bytes ps seats → AreSpans bytes (chunks_of bytes w ps) seats
  pieces_spans t w [] seats h = over bytes (AreSpans bytes) (accounts-kept bytes) seats (sym h) (no-spans bytes (AreSpans bytes) (accounts-kept bytes))
  pieces_spans t w (x ∷ ps) seats h =
      let (skip, more, is, prefix, ends, others) = h in
      over bytes (AreSpans bytes) (accounts-kept bytes) seats (sym is)
      (spans-both bytes (AreSpans bytes) (accounts-kept bytes) prefix.spans (spans-both bytes (AreSpans bytes) (accounts-kept bytes) (chunk_spans _ x.seats) (pieces_spans t true ps more others)))
