-- A text with no sign has no literals.
use Rattle.std.proofs.Common.{◌≡◌, ℕ, zero, suc, ◌+◌, ◌-◌, ◌<◌, ◌≤◌, ◌++◌, Bool, true, false, cond, List, [], ◌∷◌, length, drop, get_or, Option, Some, None, refl, sym, ap, ◌∙◌, arith}
use Rattle.std.proofs.Math.Bool.{and-false}
use Rattle.std.proofs.lemmas.Bool.{false≢true, or_parts}
use Rattle.std.proofs.lemmas.Bool.Decides.{nat_tests}
use Rattle.std.proofs.lemmas.List.{drop_more}
use Rattle.std.specs.Char.{is_ascii_alphabetic, is_ascii_alphanumeric}
use Rattle.std.specs.List.{prefix_len}
use Rattle.std.specs.Prelude.{◌==◌, ◌&&◌, ◌||◌, codes, nat_le, not, slice_get, slice_index}
use Rattle.markdown_base.specs.declared.event.Name.TheVariants as name
use Rattle.mdgfm_literals.specs.declared.found.Found.{Found}
use Rattle.mdgfm_literals.specs.declared.texts.Literal.{Literal}
use Rattle.mdgfm_literals.specs.Bytes.{begins_with, first_passes, in_host, in_local, is_wide, lower, passes}
use Rattle.mdgfm_literals.specs.Found.{found, or_else}
use Rattle.mdgfm_literals.specs.Grammar.{address_size, begins_domain, email_at, host_size, is_address, is_host, is_www, literal_at, literal_size, mail_at, may_be_before, protocol_size, size_with, url_at, www_at}
use Rattle.mdgfm_literals.specs.Literals.{literals_from, more_passed}
use Rattle.mdgfm_literals.specs.Signs.{begins_both, begins_sign, has_sign}

-- ---- in the loop over a text

-- none does
pub sign-next : (text : List ℕ) (n : ℕ) → n < length text → begins_sign (drop n text) ≡ false → has_sign (drop (n + 1) text) ≡ has_sign (drop n text)
sign-next text n inside first =
    let here : drop n text ≡ get_or text n 0 ∷ drop (n + 1) text = drop_more text n 0 inside in
    sym (ap (λ ts. has_sign ts) here ∙ ap (λ b. b || has_sign (drop (n + 1) text)) (ap (λ ts. begins_sign ts) (sym here) ∙ first))

-- ---- what has no sign

none-behind : (n : ℕ) (text : List ℕ) → has_sign text ≡ false → has_sign (drop n text) ≡ false
none-behind zero text h = h
none-behind (suc n) [] h = refl
none-behind (suc n) (b ∷ bs) h = none-behind n bs (or_parts (begins_sign (b ∷ bs)) (has_sign bs) h).1

none-first : (text : List ℕ) → has_sign text ≡ false → begins_sign text ≡ false
none-first [] h = refl
none-first (b ∷ bs) h = (or_parts (begins_sign (b ∷ bs)) (has_sign bs) h).0

no-at : (text : List ℕ) → has_sign text ≡ false → first_passes (λ b. b == 64) text ≡ false
no-at text h = (or_parts (first_passes (λ b. b == 64) text) (begins_both 58 47 text || begins_both 119 119 text) (none-first text h)).0

no-marks : (text : List ℕ) → has_sign text ≡ false → begins_both 58 47 text ≡ false
no-marks text h =
    (or_parts (begins_both 58 47 text) (begins_both 119 119 text)
    (or_parts (first_passes (λ b. b == 64) text) (begins_both 58 47 text || begins_both 119 119 text) (none-first text h)).1).0

no-letters : (text : List ℕ) → has_sign text ≡ false → begins_both 119 119 text ≡ false
no-letters text h =
    (or_parts (begins_both 58 47 text) (begins_both 119 119 text)
    (or_parts (first_passes (λ b. b == 64) text) (begins_both 58 47 text || begins_both 119 119 text) (none-first text h)).1).1

-- ---- `www.`

no-www : (before : Option ℕ) (text : List ℕ) → has_sign text ≡ false → is_www before text ≡ false
no-www before text h = ap (λ t. not (passes (λ b. not (may_be_before b)) before) && t) (by text (no-letters text h)) ∙ and-false (not (passes (λ b. not (may_be_before b)) before))
  where
    rest : List ℕ → Bool
    rest ts = (slice_index ts 2 == 119) && ((slice_index ts 3 == 46) && first_passes (λ b. in_host b || is_wide b) (drop 4 ts))

    both : (s t u : Bool) → (s && t) ≡ false → (s && (t && u)) ≡ false
    both false t u e = refl
    both true false u e = refl
    both true true u e = absurd (false≢true (sym e))

    by : (ts : List ℕ) → begins_both 119 119 ts ≡ false → ((slice_index ts 0 == 119) && ((slice_index ts 1 == 119) && rest ts)) ≡ false
    by [] e = refl
    by (b ∷ []) e = and-false (b == 119)
    by (b ∷ c ∷ bs) e = both (b == 119) (c == 119) (rest (b ∷ c ∷ bs)) e

-- ---- protocols

-- a byte that is a mark as a small letter is this mark
same-low : (w b : ℕ) → w ≤ 64 → (lower b == w) ≡ (b == w)
same-low w b h = by (nat_le 65 b && nat_le b 90) refl
  where
    by : (t : Bool) → (nat_le 65 b && nat_le b 90) ≡ t → (cond t (b + 32) b == w) ≡ (b == w)
    by false e = refl
    by true e = grind (arith, nat_tests)

-- marks do not come first
no-word : (us ws text : List ℕ) → has_sign text ≡ false → begins_with (us ++ 58 ∷ 47 ∷ ws) text ≡ false
no-word [] ws [] h = refl
no-word [] ws (b ∷ []) h = and-false (lower b == 58)
no-word [] ws (b ∷ c ∷ bs) h =
    ap (λ t. t && ((lower c == 47) && begins_with ws bs)) (same-low 58 b (omega arith))
    ∙ ap (λ t. (b == 58) && (t && begins_with ws bs)) (same-low 47 c (omega arith))
    ∙ both (b == 58) (c == 47) (begins_with ws bs) (no-marks (b ∷ c ∷ bs) h)
  where
    both : (s t u : Bool) → (s && t) ≡ false → (s && (t && u)) ≡ false
    both false t u e = refl
    both true false u e = refl
    both true true u e = absurd (false≢true (sym e))
no-word (u ∷ us) ws [] h = refl
no-word (u ∷ us) ws (b ∷ bs) h = ap (λ t. (lower b == u) && t) (no-word us ws bs (or_parts (begins_sign (b ∷ bs)) (has_sign bs) h).1) ∙ and-false (lower b == u)

no-protocol : (text : List ℕ) → has_sign text ≡ false → protocol_size text ≡ 0
no-protocol text h =
    ap (λ t. cond t 7 (cond (begins_with (codes "https://") text) 8 (cond (begins_with (codes "ftp://") text) 6 0))) (no-word (codes "http") (47 ∷ []) text h)
    ∙ ap (λ t. cond t 8 (cond (begins_with (codes "ftp://") text) 6 0)) (no-word (codes "https") (47 ∷ []) text h)
    ∙ ap (λ t. cond t 6 0) (no-word (codes "ftp") (47 ∷ []) text h)

-- ---- addresses

no-address : (text : List ℕ) → has_sign text ≡ false → address_size text ≡ 0
no-address text h =
    let n = prefix_len in_local text in
    let host = drop (n + 1) text in
    let m = host_size host in
    ap (λ t. cond (nat_le 1 n && (t && is_host m host)) (n + 1 + m) 0) (no-at (drop n text) (none-behind n text h)) ∙ ap (λ t. cond t (n + 1 + m) 0) (and-false (nat_le 1 n))

no-scheme : (scheme text : List ℕ) → has_sign text ≡ false → size_with scheme text ≡ 0
no-scheme scheme text h =
    ap (λ n. cond (begins_with scheme text && nat_le 1 n) (length scheme + n) 0) (no-address (drop (length scheme) text) (none-behind (length scheme) text h))
    ∙ ap (λ t. cond t (length scheme + 0) 0) (and-false (begins_with scheme text))

-- ---- all

same-both : (t : Bool) (o : Option Found) → o ≡ None → cond t None o ≡ None
same-both true o e = refl
same-both false o e = e

-- no literal is at the front
nothing : (before : Option ℕ) (text : List ℕ) → has_sign text ≡ false → literal_at before text ≡ None
nothing before text h =
    ap (λ o. or_else o (or_else (url_at before text) (or_else (mail_at before text) (email_at before text)))) www
    ∙ ap (λ o. or_else o (or_else (mail_at before text) (email_at before text))) url
    ∙ ap (λ o. or_else o (email_at before text)) mail
    ∙ email
  where
    www : www_at before text ≡ None
    www = ap (λ t. cond (t && begins_domain text) (found name.GfmAutolinkLiteralWww (literal_size text)) None) (no-www before text h)

    url : url_at before text ≡ None
    url =
        ap (λ n. cond (nat_le 1 n && (not (passes is_ascii_alphabetic before) && is_address (drop n text))) (found name.GfmAutolinkLiteralProtocol (literal_size text)) None) (no-protocol text h)

    mail : mail_at before text ≡ None
    mail =
        same-both (passes is_ascii_alphanumeric before) _
        (ap (λ n. or_else (found name.GfmAutolinkLiteralMailto n) (found name.GfmAutolinkLiteralXmpp (size_with (codes "xmpp:") text))) (no-scheme (codes "mailto:") text h)
        ∙ ap (λ n. found name.GfmAutolinkLiteralXmpp n) (no-scheme (codes "xmpp:") text h))

    email : email_at before text ≡ None
    email = same-both (passes in_local before) _ (ap (λ n. found name.GfmAutolinkLiteralEmail n) (no-address text h))

-- none is in the text
pub no-literals : (skip : ℕ) (before : Option ℕ) (at : ℕ) (text : List ℕ) → has_sign text ≡ false → literals_from skip before at text ≡ []
no-literals skip before at [] h = refl
no-literals (suc skip) before at (b ∷ bs) h = no-literals skip before (at + 1) bs (or_parts (begins_sign (b ∷ bs)) (has_sign bs) h).1
no-literals zero before at (b ∷ bs) h =
    ap (λ (o : Option Found). elim o as (λ o. List Literal) [
      | Some f ↦ record { from = at; to = at + f.size; name = f.name } ∷ literals_from (f.size - 1) None (at + 1) bs
      | None ↦ literals_from (more_passed (b ∷ bs)) (slice_get (b ∷ bs) (more_passed (b ∷ bs))) (at + 1) bs
    ]) (nothing before (b ∷ bs) h)
    ∙ no-literals (more_passed (b ∷ bs)) (slice_get (b ∷ bs) (more_passed (b ∷ bs))) (at + 1) bs (or_parts (begins_sign (b ∷ bs)) (has_sign bs) h).1
