-- Which labels are noted matters for those alone that stand where a call may be.
use Rattle.std.proofs.Common.{◌≡◌, ◌∙◌, ℕ, zero, suc, ◌+◌, ◌-◌, ◌++◌, Bool, true, false, cond, List, [], ◌∷◌, drop, take, Option, Some, None, ap, refl, sym, subst, arith, eqb-true}
use Rattle.std.proofs.lemmas.Bool.{and_parts, false≢true}
use Rattle.std.proofs.lemmas.List.{take-append-drop}
use Rattle.std.specs.Prelude.{◌==◌, ◌&&◌, ⊤, nat_le, slice_range}
use Rattle.markdown_base.specs.declared.configuration.ParseOptions.{ParseOptions}
use Rattle.markdown_base.specs.declared.event.Event.{Event}
use Rattle.markdown_base.specs.declared.event.Name.TheVariants.{GfmFootnoteCall}
use Rattle.markdown_base.specs.Virtual.{point}
use Rattle.mdblock_leaf_blocks.specs.LineWords.{begins_with, starts_with}
use Rattle.mdgfm_events.specs.Spans.{span_end, span_size}
use Rattle.mdgfm_literals.specs.Bytes.{is_escape}
use Rattle.mdgfm_literals.specs.declared.texts.Literal.{Literal}
use Rattle.mdgfm_literals.specs.LiteralEvents.{events_with, literal_events}
use Rattle.mdgfm_literals.specs.Literals.{more_passed}
use Rattle.mdgfm_literals.specs.Stretches.{depth_behind, is_text, reach}
use Rattle.mdgfm_footnotes.specs.CallEvents.{with_calls, with_insides}
use Rattle.mdgfm_footnotes.specs.Calls.{call_at, calls_from, calls_of, is_in_call, label_at, label_size}
use Rattle.mdgfm_tasks.specs.TaskEvents.{task_events}
use Rattle.mddocument_parts.specs.BothDocuments.{events_by}
use Rattle.mdgfm_sections.specs.Notes.{NotesDecide}

-- ---- what may be a call at the front of a text is one, whatever comes behind it

-- the bytes in front of a byte
begins-stays : (n x : ℕ) (us zs : List ℕ) → begins_with x (drop n us) ≡ true → begins_with x (drop n (us ++ zs)) ≡ true
begins-stays zero x [] zs h = absurd (false≢true h)
begins-stays (suc n) x [] zs h = absurd (false≢true h)
begins-stays zero x (b ∷ us) zs h = h
begins-stays (suc n) x (b ∷ us) zs h = begins-stays n x us zs h

take-stays : (n x : ℕ) (us zs : List ℕ) → begins_with x (drop n us) ≡ true → take n (us ++ zs) ≡ take n us
take-stays zero x us zs h = refl
take-stays (suc n) x [] zs h = absurd (false≢true h)
take-stays (suc n) x (b ∷ us) zs h = ap (λ l. b ∷ l) (take-stays n x us zs h)

-- a bracket that closes is no escape
no-escape : (b : ℕ) (zs : List ℕ) → (b == 93) ≡ true → is_escape (b ∷ zs) ≡ false
no-escape b zs h = let same : b ≡ 93 = eqb-true b 93 h in subst (λ k. is_escape (k ∷ zs) ≡ false) (sym same) refl

-- a label ends at a bracket
abbrev IsEnded : ℕ → List ℕ → Type 0
IsEnded skip us = begins_with 93 (drop (label_size skip us) us) ≡ true

one-less : (n b : ℕ) (bs : List ℕ) → begins_with 93 (drop (n + 1) (b ∷ bs)) ≡ true → begins_with 93 (drop n bs) ≡ true
one-less n b bs h = let more : n + 1 ≡ suc n = omega arith in subst (λ k. begins_with 93 (drop k (b ∷ bs)) ≡ true) more h

size-stays : (skip : ℕ) (us zs : List ℕ) → IsEnded skip us → label_size skip (us ++ zs) ≡ label_size skip us
size-stays skip [] zs h = absurd (false≢true h)
size-stays (suc skip) (b ∷ bs) zs h = ap (λ n. n + 1) (size-stays skip bs zs (one-less (label_size skip bs) b bs h))
size-stays zero (b ∷ []) zs h = by (b == 92) (is_in_call b) h
  where
    bare : begins_with 93 (b ∷ []) ≡ true → cond (is_escape (b ∷ zs)) (label_size 1 zs + 1) 0 ≡ 0
    bare k = ap (λ c. cond c (label_size 1 zs + 1) 0) (no-escape b zs k)

    by : (e t : Bool) → begins_with 93 (drop (cond (e && false) 1 (cond t 1 0)) (b ∷ [])) ≡ true
        → cond (is_escape (b ∷ zs)) (label_size 1 zs + 1) (cond t (label_size 0 zs + 1) 0) ≡ cond (e && false) 1 (cond t 1 0)
    by true true k = absurd (false≢true k)
    by false true k = absurd (false≢true k)
    by true false k = bare k
    by false false k = bare k
size-stays zero (b ∷ c ∷ cs) zs h = by (is_escape (b ∷ c ∷ cs)) (is_in_call b) h (size-stays 1 (c ∷ cs) zs) (size-stays 0 (c ∷ cs) zs)
  where
    us : List ℕ
    us = c ∷ cs

    by : (e t : Bool) → begins_with 93 (drop (cond e (label_size 1 us + 1) (cond t (label_size 0 us + 1) 0)) (b ∷ us)) ≡ true
        → (IsEnded 1 us → label_size 1 (us ++ zs) ≡ label_size 1 us) → (IsEnded 0 us → label_size 0 (us ++ zs) ≡ label_size 0 us)
        → cond e (label_size 1 (us ++ zs) + 1) (cond t (label_size 0 (us ++ zs) + 1) 0) ≡ cond e (label_size 1 us + 1) (cond t (label_size 0 us + 1) 0)
    by true t k escaped more = ap (λ n. n + 1) (escaped (one-less (label_size 1 us) b us k))
    by false true k escaped more = ap (λ n. n + 1) (more (one-less (label_size 0 us) b us k))
    by false false k escaped more = refl

-- So it is with the label behind the two bytes
some-size : (c : Bool) (s n : ℕ) → cond c (Some s) None ≡ Some n → (c ≡ true) × (s ≡ n)
some-size true s n h = (refl, cc)
some-size false s n h = absurd (cc)

label-stays : (xs zs : List ℕ) (n : ℕ) → label_at xs ≡ Some n → (label_at (xs ++ zs) ≡ Some n) × (take n (drop 2 (xs ++ zs)) ≡ take n (drop 2 xs))
label-stays [] zs n h = absurd (cc)
label-stays (a ∷ []) zs n h =
    let opens = starts_with (91 ∷ 94 ∷ []) (a ∷ []) in
    let ends = nat_le 1 0 && begins_with 93 [] in
    absurd (false≢true (and_parts opens ends (some-size (opens && ends) 0 n h).0).1)
label-stays (a ∷ b ∷ us) zs n h =
    let size = label_size 0 us in
    let opens = starts_with (91 ∷ 94 ∷ []) (a ∷ b ∷ us) in
    let ends = begins_with 93 (drop (size + 2) (a ∷ b ∷ us)) in
    let some = some-size (opens && (nat_le 1 size && ends)) size n h in
    let first = and_parts opens (nat_le 1 size && ends) some.0 in
    let second = and_parts (nat_le 1 size) ends first.1 in
    let two : size + 2 ≡ suc (suc size) = omega arith in
    let ended : begins_with 93 (drop size us) ≡ true = subst (λ k. begins_with 93 (drop k (a ∷ b ∷ us)) ≡ true) two second.1 in
    let same : label_size 0 (us ++ zs) ≡ size = size-stays 0 us zs ended in
    let closed : begins_with 93 (drop (size + 2) (a ∷ b ∷ (us ++ zs))) ≡ true = subst (λ k. begins_with 93 (drop k (a ∷ b ∷ (us ++ zs))) ≡ true) (sym two) (begins-stays size 93 us zs ended) in (
      ap (λ k. cond (opens && (nat_le 1 k && begins_with 93 (drop (k + 2) (a ∷ b ∷ (us ++ zs))))) (Some k) None) same
          ∙ ap (λ t. cond (opens && (nat_le 1 size && t)) (Some size) None) (closed ∙ sym second.1)
          ∙ h,
      ap (λ k. take k (us ++ zs)) (sym some.1) ∙ take-stays size 93 us zs ended ∙ ap (λ k. take k us) some.1,
    )

-- ---- two sets of labels
module _ (noted others : (label : List ℕ) → Bool) where
  -- they agree on the label of what may be a call at the front of a text
  abbrev AgreeAt : List ℕ → Type 0
  AgreeAt text = (n : ℕ) → label_at text ≡ Some n → others (take n (drop 2 text)) ≡ noted (take n (drop 2 text))

  -- and behind each byte of it
  abbrev AgreeIn : List ℕ → Type 0
  AgreeIn [] = ⊤
  AgreeIn (b ∷ bs) = AgreeAt (b ∷ bs) × AgreeIn bs

  call-same : (text : List ℕ) → AgreeAt text → call_at others text ≡ call_at noted text
  call-same text h = by (label_at text) refl
    where
      by : (o : Option ℕ) → label_at text ≡ o
          → elim o as (λ _. Option ℕ) [ None ↦ None | Some n ↦ cond (others (take n (drop 2 text))) (Some (n + 3)) None ] ≡ elim o as (λ _. Option ℕ) [ None ↦ None | Some n ↦ cond (noted (take n (drop 2 text))) (Some (n + 3)) None ]
      by None q = refl
      by (Some n) q = ap (λ t. cond t (Some (n + 3)) None) (h n q)

  from-same : (skip at : ℕ) (text : List ℕ) → AgreeIn text → calls_from others skip at text ≡ calls_from noted skip at text
  from-same skip at [] h = refl
  from-same (suc skip) at (b ∷ bs) h = from-same skip (at + 1) bs h.1
  from-same zero at (b ∷ bs) h =
      ap (λ (o : Option ℕ). elim o as (λ _. List Literal) [
        | Some n ↦ record { from = at; to = at + n; name = GfmFootnoteCall } ∷ calls_from others (n - 1) (at + 1) bs
        | None ↦ calls_from others (more_passed (b ∷ bs)) (at + 1) bs
      ]) (call-same (b ∷ bs) h.0)
      ∙ by (call_at noted (b ∷ bs)) (λ skip. from-same skip (at + 1) bs h.1)
    where
      by : (o : Option ℕ) → ((skip : ℕ) → calls_from others skip (at + 1) bs ≡ calls_from noted skip (at + 1) bs)
          → elim o as (λ _. List Literal) [
            | Some n ↦ record { from = at; to = at + n; name = GfmFootnoteCall } ∷ calls_from others (n - 1) (at + 1) bs
            | None ↦ calls_from others (more_passed (b ∷ bs)) (at + 1) bs
          ]
          ≡ elim o as (λ _. List Literal) [
            | Some n ↦ record { from = at; to = at + n; name = GfmFootnoteCall } ∷ calls_from noted (n - 1) (at + 1) bs
            | None ↦ calls_from noted (more_passed (b ∷ bs)) (at + 1) bs
          ]
      by None more = more (more_passed (b ∷ bs))
      by (Some n) more = ap (λ (ls : List Literal). record { from = at; to = at + n; name = GfmFootnoteCall } ∷ ls) (more (n - 1))

  -- ---- the bytes of a document
  module _ (bytes : List ℕ) (agree : (k n : ℕ) → label_at (drop k bytes) ≡ Some n → others (take n (drop (k + 2) bytes)) ≡ noted (take n (drop (k + 2) bytes))) where
    -- they agree in each part of them
    two-behind : (k : ℕ) (ts : List ℕ) → drop 2 (drop k ts) ≡ drop (k + 2) ts
    two-behind zero ts = refl
    two-behind (suc k) [] = let more : suc (k + 2) ≡ suc k + 2 = omega arith in ap (λ n. drop n []) more
    two-behind (suc k) (t ∷ ts) = let more : suc (k + 2) ≡ suc k + 2 = omega arith in two-behind k ts ∙ ap (λ n. drop n (t ∷ ts)) more

    one-behind : (k : ℕ) (ts us : List ℕ) (u : ℕ) → drop k ts ≡ u ∷ us → drop (suc k) ts ≡ us
    one-behind k [] us u q = absurd (by k q)
      where
        by : (k : ℕ) → drop k [] ≡ u ∷ us → ⊥
        by zero p = cc
        by (suc k) p = cc
    one-behind zero (t ∷ ts) us u q = cc
    one-behind (suc k) (t ∷ ts) us u q = one-behind k ts us u q

    agree-part : (m k : ℕ) → AgreeIn (take m (drop k bytes))
    agree-part zero k = tt
    agree-part (suc m) k = by (drop k bytes) refl (agree-part m (suc k))
      where
        by : (us : List ℕ) → drop k bytes ≡ us → AgreeIn (take m (drop (suc k) bytes)) → AgreeIn (take (suc m) us)
        by [] q more = tt
        by (u ∷ us) q more =
            let next : drop (suc k) bytes ≡ us = one-behind k bytes us u q in
            let whole : take (suc m) (u ∷ us) ++ drop (suc m) (u ∷ us) ≡ drop k bytes = take-append-drop (suc m) (u ∷ us) ∙ sym q in (
              (λ n h.
                  let stays = label-stays (take (suc m) (u ∷ us)) (drop (suc m) (u ∷ us)) n h in
                  let there : label_at (drop k bytes) ≡ Some n = sym (ap label_at whole) ∙ stays.0 in
                  let same : take n (drop (k + 2) bytes) ≡ take n (drop 2 (take (suc m) (u ∷ us))) = sym (ap (take n) (two-behind k bytes)) ∙ sym (ap (λ l. take n (drop 2 l)) whole) ∙ stays.1 in
                  ap others (sym same) ∙ agree k n there ∙ ap noted same),
              subst (λ l. AgreeIn (take m l)) next more,
            )

    calls-same : (depth skip : ℕ) (es : List Event) → calls_of others bytes depth skip es ≡ calls_of noted bytes depth skip es
    calls-same depth skip [] = refl
    calls-same depth (suc skip) (e ∷ es) = calls-same depth skip es
    calls-same depth zero (e ∷ es) =
        let i = e.point.index in
        let r = reach (span_size 0 es) (span_end e.point 0 es).index es in
        let here = from-same 0 i (slice_range bytes i r.stop) (agree-part (r.stop - i) i) in
        let more = calls-same depth r.size es in
        let other = calls-same (depth_behind depth e) 0 es in
        (λ k. cond (is_text depth e) (here k ++ more k) (other k))

    with-same : (options : ParseOptions) (events : List Event) → with_calls others options.tab_size bytes events ≡ with_calls noted options.tab_size bytes events
    with-same options events = ap (λ calls. with_insides options.tab_size bytes calls (events_with options.tab_size bytes 0 0 (point 1 1 0 0) calls events)) (calls-same 0 0 events)

pub notes-decide : NotesDecide
notes-decide options defined noted others bytes agree =
    let tasks = task_events options bytes (events_by options defined bytes) in
    let on = options.constructs.gfm_label_start_footnote in
    ap (λ es. literal_events options bytes (cond on es tasks)) (with-same noted others bytes agree options tasks)
