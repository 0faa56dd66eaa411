-- The events of a text's leaf blocks account for it line by line.
use Rattle.mddocument.proofs.Prelude.{◌≡◌, ℕ, List, [], ◌∷◌, ◌++◌, false, Option, None, append_assoc, append-nil, map-append, none-mapped, flat_map, refl, sym, ap, ◌∙◌, subst, Constructs, Event, Enter, Exit, Seat, end_after, event, span_over, stretch_bytes, lines_in, IsWhole, Begins, bare, linked-spans, IsKeptBySpans, text-by-chunks, Chunk, Mark, alone, chunk_span, flow_events, leaf_blocks, leaf_blocks_marks, span_marks}
use Rattle.markdown_base.specs.declared.event.Name.{Name}
use Rattle.markdown_base.specs.declared.event.Name.TheVariants as name
use Rattle.mdblock_leaf_blocks.proofs.Marks.LeafSpans.{leaf-blocks-keep}
use Rattle.mdblock_leaf_blocks.proofs.Marks.MarkAccounts.{begins-both}
use Rattle.mddocument.proofs.Innermost.Lined.{LinedFor, lined-enter, lined-exit, lined-none, lined-span, whole-one}

module _ (bytes : List ℕ) where
  -- marks account for virtual bytes line by line, with more behind; and begin with an enter
  record AreLined (marks : List Mark) (seats : List Seat) : Type 0 where
    pub begins : Begins marks
    pub lined : (events : List Event) (more : List Seat) → LinedFor events bytes more → LinedFor (bare marks ++ events) bytes (seats ++ more)

  none : AreLined [] []
  none = record { begins = tt; lined = λ events more h. h }

  both : (xs ys : List Mark) (a b : List Seat) → AreLined xs a → AreLined ys b → AreLined (xs ++ ys) (a ++ b)
  both xs ys a b h k = record {
    begins = begins-both xs ys h.begins k.begins;
    lined = λ events more rest.
        subst (λ es. LinedFor es bytes ((a ++ b) ++ more)) (sym (ap (λ l. l ++ events) (map-append (λ (m : Mark). m.0) xs ys) ∙ append_assoc (bare xs) (bare ys) events))
        (subst (LinedFor (bare xs ++ (bare ys ++ events)) bytes) (sym (append_assoc a b more)) (h.lined (bare ys ++ events) (b ++ more) (k.lined events more rest)));
  }

  one-chunk : (c : Option Chunk) (n : Name) (s : Seat) (ss : List Seat) → IsWhole (s ∷ ss) → AreLined (chunk_span bytes c n (s ∷ ss) []) (s ∷ ss)
  one-chunk c n s ss w = record { begins = refl; lined = λ events more h. lined-span bytes _ _ events s ss more (whole-one (s ∷ ss) w) refl refl refl refl h }

  -- a span around others
  around : (n : Name) (s : Seat) (ss : List Seat) (inside : List Mark) → AreLined inside (s ∷ ss) → AreLined (span_marks bytes n (s ∷ ss) inside) (s ∷ ss)
  around n s ss [] h =
      let there = (h.lined [] [] (lined-none bytes)).account in
      let is : (s ∷ ss) ++ [] ≡ [] = sym there.are_all ∙ ap (flat_map stretch_bytes) (none-mapped (span_over bytes) there.stretches (sym there.are_innermost)) in
      absurd (cc)
  around n s ss (m ∷ ms) h = record {
    begins = refl;
    lined = λ events more rest.
        let enter = event bytes Enter n s.point in
        let exit = event bytes Exit n (end_after s.end ss) in
        let closed = h.lined (exit ∷ events) more (lined-exit bytes exit events more refl rest) in
        let spanned = lined-enter bytes enter m.0 (bare ms ++ exit ∷ events) ((s ∷ ss) ++ more) refl h.begins closed in
        let same : bare (ms ++ (exit, None) ∷ []) ++ events ≡ bare ms ++ exit ∷ events = ap (λ l. l ++ events) (map-append (λ (m : Mark). m.0) ms ((exit, None) ∷ [])) ∙ append_assoc (bare ms) (exit ∷ []) events in
        subst (λ es. LinedFor (enter ∷ m.0 ∷ es) bytes ((s ∷ ss) ++ more)) (sym same) spanned;
  }

  lined-kept : IsKeptBySpans bytes AreLined
  lined-kept = record {
    none = none;
    both = λ {xs} {ys} {a} {b} h k. both xs ys a b h k;
    leaf = λ n s ss w. one-chunk None n s ss w;
    datum = λ c s ss w. one-chunk (alone c) name.Data s ss w;
    text = λ lines h w. text-by-chunks bytes AreLined none both one-chunk false lines w;
    around = λ n s ss inside void h. around n s ss inside h;
  }

pub flow-lined : (on : Constructs) (bytes : List ℕ) (seats : List Seat) → LinedFor (flow_events on bytes seats) bytes seats
flow-lined on bytes seats =
    let marks = leaf_blocks_marks bytes (leaf_blocks on (lines_in seats)) in
    let whole = (leaf-blocks-keep on bytes (AreLined bytes) (lined-kept bytes) seats).lined [] [] (lined-none bytes) in
    let h : LinedFor (bare marks) bytes seats = subst (λ es. LinedFor es bytes seats) (append-nil (bare marks)) (subst (LinedFor (bare marks ++ []) bytes) (append-nil seats) whole) in
    record { account = record { stretches = h.account.stretches; are_all = h.account.are_all; are_innermost = linked-spans 0 marks ∙ h.account.are_innermost }; lines = h.lines }
