-- Lemmas on marks that are written as events.
use Rattle.std.proofs.Common.{◌≡◌, ℕ, zero, suc, ◌+◌, ◌<◌, Bool, true, false, cond, List, [], ◌∷◌, ◌++◌, length, refl, sym, ap, ◌∙◌, subst, arith, append_assoc}
use Rattle.std.specs.Prelude.{Option, Some, None, is_some}
use Rattle.std.proofs.lemmas.List.{append-nil}
use Rattle.markdown_base.specs.declared.event.Content.{Content}
use Rattle.markdown_base.specs.declared.event.Event.{Event}
use Rattle.markdown_base.specs.declared.event.Kind.TheVariants.{Enter, Exit}
use Rattle.markdown_base.specs.declared.event.Name.TheVariants as name
use Rattle.markdown_base.specs.declared.event.Point.{Point}
use Rattle.markdown_base.specs.Places.{shown}
use Rattle.markdown_base.specs.Virtual.{Seat, end_after}
use Rattle.mdconstructs_machines.specs.Spans.{event}
use Rattle.mdblock_leaf_blocks.specs.LeafEvents.{Chunk, Mark, chunk_span}
use Rattle.mdblock_containers.specs.Skeleton.{next_chunk, chained_from}
use Rattle.mdblock_containers.specs.Chunks.{chunk_enter, linked, set_next}
use Rattle.mdblock_containers.specs.Parts.{with_chunk}
use Rattle.mdblock_containers.specs.PlaceEvents.{event_at}
use Rattle.mdblock_containers.specs.SeatPlaces.{events_of}
use Rattle.mdblock_containers.specs.Written.{NoChunk, IsWaiting, waits, IsLast, Written}
use Rattle.mdblock_containers.proofs.ChainLemmas.{last_event, chain_linked}

pub chained_length : (i : ℕ) (p : Option ℕ) (ms : List Mark) → length (chained_from i p ms) ≡ length ms
chained_length i p [] = refl
chained_length i p ((x, None) ∷ ms) = ap suc (chained_length (suc i) p ms)
chained_length i p ((x, Some d) ∷ ms) = ap suc (chained_length (suc i) (Some i) ms)

-- ---- marks that begin no chunk

pub next_plain : (i : ℕ) (ms ns : List Mark) → NoChunk ns → next_chunk i (ms ++ ns) ≡ next_chunk i ms
next_plain i [] [] h = refl
next_plain i [] ((x, None) ∷ ns) h = next_plain (suc i) [] ns h
next_plain i [] ((x, Some d) ∷ ns) h = absurd h
next_plain i ((x, None) ∷ ms) ns h = next_plain (suc i) ms ns h
next_plain i ((x, Some d) ∷ ms) ns h = refl

pub chained_none : (i : ℕ) (p : Option ℕ) (ns : List Mark) → NoChunk ns → chained_from i p ns ≡ events_of ns
chained_none i p [] h = refl
chained_none i p ((x, None) ∷ ns) h = ap (λ (l : List Event). x ∷ l) (chained_none (suc i) p ns h)
chained_none i p ((x, Some d) ∷ ns) h = absurd h

pub chain_plain : (i : ℕ) (p : Option ℕ) (ms ns : List Mark) → NoChunk ns → chained_from i p (ms ++ ns) ≡ chained_from i p ms ++ events_of ns
chain_plain i p [] ns h = chained_none i p ns h
chain_plain i p ((x, None) ∷ ms) ns h = ap (λ (l : List Event). x ∷ l) (chain_plain (suc i) p ms ns h)
chain_plain i p ((x, Some d) ∷ ms) ns h =
    (λ k. record x { link = Some (record { previous = cond d.has_previous p None; next = cond d.has_next (next_plain (suc i) ms ns h k) None; content = d.content }) } ∷ chain_plain (suc i) (Some i) ms ns h k)

pub waits_plain : (b : Bool) (ms ns : List Mark) → NoChunk ns → waits b (ms ++ ns) ≡ waits b ms
waits_plain b [] [] h = refl
waits_plain b [] ((x, None) ∷ ns) h = waits_plain b [] ns h
waits_plain b [] ((x, Some d) ∷ ns) h = absurd h
waits_plain b ((x, None) ∷ ms) ns h = waits_plain b ms ns h
waits_plain b ((x, Some d) ∷ ms) ns h = waits_plain d.has_next ms ns h

pub plain_append : (ms ns : List Mark) → NoChunk ms → NoChunk ns → NoChunk (ms ++ ns)
plain_append [] ns g h = h
plain_append ((x, None) ∷ ms) ns g h = plain_append ms ns g h
plain_append ((x, Some d) ∷ ms) ns g h = absurd g

pub waiting_plain : (ms ns : List Mark) (j : ℕ) → NoChunk ns → IsWaiting ms j → IsWaiting (ms ++ ns) j
waiting_plain [] ns j h w = absurd w
waiting_plain ((x, None) ∷ ms) ns zero h w = absurd w
waiting_plain ((x, None) ∷ ms) ns (suc j) h w = waiting_plain ms ns j h w
waiting_plain ((x, Some d) ∷ ms) ns zero h w = (w.0, plain_append ms ns w.1 h)
waiting_plain ((x, Some d) ∷ ms) ns (suc j) h w = waiting_plain ms ns j h w

pub last_plain : (ms ns : List Mark) (last : Option ℕ) (comes : Bool) → NoChunk ns → IsLast ms last comes → IsLast (ms ++ ns) last comes
last_plain ms ns None comes h w = waits_plain false ms ns h ∙ w
last_plain ms ns (Some j) comes h w = (λ e. waiting_plain ms ns j h (w.0 e), λ e. waits_plain false ms ns h ∙ w.1 e)

-- Marks that begin no chunk are written
pub write_plain : (es new : List Event) (last : Option ℕ) (comes : Bool) (ns rest all : List Mark) → NoChunk ns → new ≡ es ++ events_of ns → Written es last comes (ns ++ rest) all → Written new last comes rest all
write_plain es new last comes ns rest all h e w = record {
  marks = w.marks ++ ns;
  are = e ∙ ap (λ (l : List Event). l ++ events_of ns) w.are ∙ sym (chain_plain 0 None w.marks ns h);
  is_last = last_plain w.marks ns last comes h w.is_last;
  same = append_assoc w.marks ns rest ∙ w.same;
}

-- ---- a chunk

pub waiting_within : (ms : List Mark) (j : ℕ) → IsWaiting ms j → j < length ms
waiting_within [] j w = absurd w
waiting_within ((x, None) ∷ ms) zero w = absurd w
waiting_within ((x, None) ∷ ms) (suc j) w = let h = waiting_within ms j w in omega arith
waiting_within ((x, Some d) ∷ ms) zero w = omega arith
waiting_within ((x, Some d) ∷ ms) (suc j) w = let h = waiting_within ms j w in omega arith

-- the chunk before is among the events
pub last_within : (es : List Event) (last : Option ℕ) (rest all : List Mark) → Written es last true rest all → (before : ℕ) → last ≡ Some before → before < length es
last_within es None rest all w before e = absurd (cc)
last_within es (Some j) rest all w before e =
    let same : j ≡ before = cc in
    let h : j < length w.marks = waiting_within w.marks j (w.is_last.0 refl) in
    let n : length es ≡ length w.marks = ap (λ (l : List Event). length l) w.are ∙ chained_length 0 None w.marks in
    omega arith

pub waiting_pushed : (ms : List Mark) (e x : Event) (c : Chunk) → c.has_next ≡ true → IsWaiting (ms ++ (e, Some c) ∷ (x, None) ∷ []) (length ms)
waiting_pushed [] e x c h = (h, tt)
waiting_pushed ((y, None) ∷ ms) e x c h = waiting_pushed ms e x c h
waiting_pushed ((y, Some d) ∷ ms) e x c h = waiting_pushed ms e x c h

pub waits_pushed : (b : Bool) (ms : List Mark) (e x : Event) (c : Chunk) → waits b (ms ++ (e, Some c) ∷ (x, None) ∷ []) ≡ c.has_next
waits_pushed b [] e x c = refl
waits_pushed b ((y, None) ∷ ms) e x c = waits_pushed b ms e x c
waits_pushed b ((y, Some d) ∷ ms) e x c = waits_pushed d.has_next ms e x c

-- where no chunk waits, what comes behind changes nothing
pub next_settled : (b : Bool) (i : ℕ) (ms : List Mark) (e : Event) (c : Chunk) → waits b ms ≡ false → cond b (next_chunk i (ms ++ (e, Some c) ∷ [])) None ≡ cond b (next_chunk i ms) None
next_settled b i [] e c h = (λ k. cond (h k) (Some i) None) ∙ (λ k. cond (sym h k) None None)
next_settled b i ((x, None) ∷ ms) e c h = next_settled b (suc i) ms e c h
next_settled b i ((x, Some d) ∷ ms) e c h = refl

-- the chunk before this one
abbrev pub last_by : (i : ℕ) → Option ℕ → List Mark → Option ℕ
last_by i p [] = p
last_by i p ((x, None) ∷ ms) = last_by (suc i) p ms
last_by i p ((x, Some d) ∷ ms) = last_by (suc i) (Some i) ms

pub chain_settled : (b : Bool) (i : ℕ) (p : Option ℕ) (ms : List Mark) (e : Event) (c : Chunk) → waits b ms ≡ false
    → chained_from i p (ms ++ (e, Some c) ∷ []) ≡ chained_from i p ms ++ last_event e c (last_by i p ms) ∷ []
chain_settled b i p [] e c h = refl
chain_settled b i p ((x, None) ∷ ms) e c h = ap (λ (l : List Event). x ∷ l) (chain_settled b (suc i) p ms e c h)
chain_settled b i p ((x, Some d) ∷ ms) e c h =
    (λ k. record x { link = Some (record { previous = cond d.has_previous p None; next = next_settled d.has_next (suc i) ms e c h k; content = d.content }) } ∷ chain_settled d.has_next (suc i) (Some i) ms e c h k)

pub cond_none : (b : Bool) → cond {A = Option ℕ} b None None ≡ None
cond_none true = refl
cond_none false = refl

-- the enter of a chunk
pub enter_is : (k : Content) (e : Event) (from : Point) (c : Chunk) (p q : Option ℕ) → e ≡ event_at Enter name.Data from → c.content ≡ k → cond c.has_previous p None ≡ q → last_event e c p ≡ chunk_enter k q from
enter_is o e from c p q a b d = λ k. record (a k) { link = Some (record { previous = d k; next = cond_none c.has_next k; content = b k }) }

-- a chunk behind marks, with its exit
pub behind_marks : (o : Content) (ms : List Mark) (last : Option ℕ) (e x : Event) (from to : Point) (c : Chunk) → IsLast ms last true → c.has_previous ≡ is_some last → c.content ≡ o → e ≡ event_at Enter name.Data from → x ≡ event_at Exit name.Data to
    → chained_from 0 None (ms ++ (e, Some c) ∷ []) ≡ linked last (length ms) (chained_from 0 None ms) ++ chunk_enter o last from ∷ []
behind_marks o ms None e x from to c w h s a b =
    chain_settled false 0 None ms e c w ∙ ap (λ (y : Event). chained_from 0 None ms ++ y ∷ []) (enter_is o e from c (last_by 0 None ms) None a s (ap (λ v. cond v (last_by 0 None ms) None) h))
behind_marks o ms (Some j) e x from to c w h s a b =
    let n : 0 + length ms ≡ length ms = omega arith in
    let m : 0 + j ≡ j = omega arith in
    chain_linked 0 None ms e c j (w.0 refl) ∙ (λ k. set_next j (n k) (chained_from 0 None ms) ++ last_event e c (Some (m k)) ∷ []) ∙ ap (λ (y : Event). set_next j (length ms) (chained_from 0 None ms) ++ y ∷ []) (enter_is o e from c (Some j) (Some j) a s (ap (λ v. cond v (Some j) None) h))

-- A chunk is written
pub write_chunk : (o : Content) (bytes : List ℕ) (es new : List Event) (last : Option ℕ) (index : ℕ) (has_previous has_next : Bool) (s : Seat) (ss : List Seat) (from to : Point) (rest all : List Mark)
    → has_previous ≡ is_some last → from ≡ shown bytes s.point → to ≡ shown bytes (end_after s.end ss) → index ≡ length es → new ≡ with_chunk o last from to es
    → Written es last true (chunk_span bytes (Some (record { content = o; has_previous = has_previous; has_next = has_next })) name.Data (s ∷ ss) [] ++ rest) all
    → Written new (Some index) has_next rest all
write_chunk o bytes es new last index has_previous has_next s ss from to rest all h ef et ei e w =
    let c : Chunk = record { content = o; has_previous = has_previous; has_next = has_next } in
    let enter = event bytes Enter name.Data s.point in
    let exit = event bytes Exit name.Data (end_after s.end ss) in
    let n : length es ≡ length w.marks = ap (λ (l : List Event). length l) w.are ∙ chained_length 0 None w.marks in
    let first : chained_from 0 None (w.marks ++ (enter, Some c) ∷ []) ≡ linked last (length w.marks) (chained_from 0 None w.marks) ++ chunk_enter o last from ∷ [] =
    behind_marks o w.marks last enter exit from to c w.is_last h refl (λ k. event_at Enter name.Data (sym ef k)) (λ k. event_at Exit name.Data (sym et k)) in
    let pair : w.marks ++ (enter, Some c) ∷ (exit, None) ∷ [] ≡ (w.marks ++ (enter, Some c) ∷ []) ++ (exit, None) ∷ [] = sym (append_assoc w.marks ((enter, Some c) ∷ []) ((exit, None) ∷ [])) in
    let both : chained_from 0 None (w.marks ++ (enter, Some c) ∷ (exit, None) ∷ []) ≡ with_chunk o last from to es =
    ap (chained_from 0 None) pair ∙ chain_plain 0 None (w.marks ++ (enter, Some c) ∷ []) ((exit, None) ∷ []) tt
    ∙ (λ k. first k ++ event_at Exit name.Data (sym et k) ∷ [])
    ∙ append_assoc (linked last (length w.marks) (chained_from 0 None w.marks)) (chunk_enter o last from ∷ []) (event_at Exit name.Data to ∷ [])
    ∙ (λ k. linked last (sym n k) (sym w.are k) ++ (chunk_enter o last from ∷ event_at Exit name.Data to ∷ [])) in
    record {
      marks = w.marks ++ (enter, Some c) ∷ (exit, None) ∷ [];
      are = e ∙ sym both;
      is_last = (λ q. subst (IsWaiting (w.marks ++ (enter, Some c) ∷ (exit, None) ∷ [])) (sym (ei ∙ n)) (waiting_pushed w.marks enter exit c q), λ q. waits_pushed false w.marks enter exit c ∙ q);
      same = append_assoc w.marks ((enter, Some c) ∷ (exit, None) ∷ []) rest ∙ w.same;
    }

-- a stretch ends
pub end_chunks : (es : List Event) (last : Option ℕ) (comes : Bool) (rest all : List Mark) → Written es last false rest all → Written es None comes rest all
end_chunks es None comes rest all w = record { marks = w.marks; are = w.are; is_last = w.is_last; same = w.same }
end_chunks es (Some j) comes rest all w = record { marks = w.marks; are = w.are; is_last = w.is_last.1 refl; same = w.same }

-- the beginning and the end
pub write_init : (all : List Mark) → Written [] None false all all
write_init all = record { marks = []; are = refl; is_last = refl; same = refl }

pub write_end : (es : List Event) (last : Option ℕ) (comes : Bool) (all : List Mark) → Written es last comes [] all → es ≡ chained_from 0 None all
write_end es last comes all w = w.are ∙ ap (chained_from 0 None) (sym (append-nil w.marks) ∙ w.same)
