-- How long texts are that spans say: no longer than their events have room for.
use Rattle.std.proofs.Common.{◌≡◌, ℕ, suc, ◌+◌, ◌-◌, ◌*◌, ◌%◌, ◌<◌, ◌≤◌, List, [], ◌∷◌, ◌++◌, length, take, drop, ap, refl, arith, Option, None, Some}
use Rattle.std.proofs.lemmas.Bool.{and_parts}
use Rattle.std.proofs.lemmas.Bool.Decides.{nat_tests}
use Rattle.std.proofs.lemmas.List.{length-append, length-drop}
use Rattle.std.proofs.lemmas.Option.{none-some}
use Rattle.std.proofs.lemmas.Slice.Eq.{bytes_eq-Decides}
use Rattle.std.proofs.lemmas.Str.{len_utf8_bounds, length-encode}
use Rattle.std.specs.Char.{encode_utf8}
use Rattle.std.specs.List.{flat_map, list_all, repeat, slice_range}
use Rattle.std.specs.Option.{option_map_or}
use Rattle.std.specs.Prelude.{zero, ◌==◌, ◌&&◌, ◌||◌, not, Bool, true, false, cond, bytes_eq, nat_le, nat_lt, option_map, slice_get, slice_index}
use Rattle.std.specs.Str.Parse.{digits_value}
use Rattle.markdown_base.specs.declared.event.Event.{Event}
use Rattle.markdown_base.specs.declared.event.Name.{Name}
use Rattle.markdown_base.specs.declared.event.Name.TheVariants as name
use Rattle.markdown_base.specs.declared.event.Point.{Point}
use Rattle.markdown_base.specs.Events.{is_enter, same_name}
use Rattle.mddocument_link_targets.specs.declared.strings.Reading.{Reading}
use Rattle.mddocument_link_targets.specs.declared.strings.Reading.TheVariants.{AsWritten, Decoded}
use Rattle.mddocument_link_targets.specs.Spans.{enters, first_in, inside, size_from}
use Rattle.mddocument_link_targets.specs.Strings.{character_at, decoded, given, given_at, is_numeral, named, numeric, reference, text}
use Rattle.mddocument_link_targets.specs.Targets.{string_in}
use Rattle.mdhtml_document.specs.declared.names.Inline.{Inline}
use Rattle.mdhtml_document.specs.declared.names.Inline.TheVariants as inline
use Rattle.mdhtml_document.specs.HtmlLaws.{ahead, room}
use Rattle.mdhtml_document.specs.Names.{inline_of}
use Rattle.mdhtml_document.specs.Spans.{Nothing, Span, Spans, events_of}
use Rattle.mdhtml_document.specs.Values.{alt_by, alt_of, autolink_address, behind_first_line, block_lines, bytes_at, code_lines, code_text, cut, cut_at, has_last_line, is_address, lines_from, reading_of, said, stripped}
use Rattle.mdinline_characters.specs.CharacterReferences.{Reference, character_references}
use Rattle.mdinline_characters.specs.References.{characters_in, characters_of}

-- ---- lists

pub through : (a b c : ℕ) → a ≤ b → b ≤ c → a ≤ c
through a b c h k = omega (arith, h, k)

pub cond-le : (c : Bool) (x y : List ℕ) (n : ℕ) → length x ≤ n → length y ≤ n → length (cond c x y) ≤ n
cond-le true x y n h k = h
cond-le false x y n h k = k

take-most : (n : ℕ) (l : List ℕ) → length (take n l) ≤ n
take-most zero l = omega arith
take-most (suc n) [] = omega arith
take-most (suc n) (b ∷ l) = let h = take-most n l in omega (arith, h)

pub take-le : (n : ℕ) (l : List ℕ) → length (take n l) ≤ length l
take-le zero l = omega arith
take-le (suc n) [] = omega arith
take-le (suc n) (b ∷ l) = let h = take-le n l in omega (arith, h)

drop-le : (n : ℕ) (l : List ℕ) → length (drop n l) ≤ length l
drop-le n l = let h = length-drop n l in omega (arith, h)

slice-le : (l : List ℕ) (from to : ℕ) → length (slice_range l from to) ≤ to - from
slice-le l from to = take-most (to - from) (drop from l)

-- ---- room

ahead-take : (n : ℕ) (e : Event) (es : List Event) → ahead e (take n es) ≤ ahead e es
ahead-take zero e es = omega arith
ahead-take (suc n) e [] = omega arith
ahead-take (suc n) e (f ∷ fs) = omega arith

ahead-append : (e : Event) (xs ys : List Event) → ahead e xs ≤ ahead e (xs ++ ys)
ahead-append e [] ys = omega arith
ahead-append e (x ∷ xs) ys = omega arith

module _ (tab : ℕ) where
  room-take : (n : ℕ) (es : List Event) → room tab (take n es) ≤ room tab es
  room-take zero es = omega arith
  room-take (suc n) [] = omega arith
  room-take (suc n) (e ∷ es) = let here = ahead-take n e es in let rest = room-take n es in omega (arith, here, rest)

  room-drop : (n : ℕ) (es : List Event) → room tab (drop n es) ≤ room tab es
  room-drop zero es = omega arith
  room-drop (suc n) [] = omega arith
  room-drop (suc n) (e ∷ es) = let rest = room-drop n es in omega (arith, rest)

  pub room-append : (xs ys : List Event) → room tab xs + room tab ys ≤ room tab (xs ++ ys)
  room-append [] ys = omega arith
  room-append (x ∷ xs) ys = let here = ahead-append x xs ys in let rest = room-append xs ys in omega (arith, here, rest)

  room-cond : (c : Bool) (xs ys : List Event) (n : ℕ) → room tab xs ≤ n → room tab ys ≤ n → room tab (cond c xs ys) ≤ n
  room-cond true xs ys n h k = h
  room-cond false xs ys n h k = k

  -- of events, if there are some
  abbrev pub room_in : Option (List Event) → ℕ
  room_in None = 0
  room_in (Some es) = room tab es

  in-cond : (c : Bool) (xs : List Event) (o : Option (List Event)) (n : ℕ) → room tab xs ≤ n → room_in o ≤ n → room_in (cond c (Some xs) o) ≤ n
  in-cond true xs o n h k = h
  in-cond false xs o n h k = k

  pub room-inside : (es : List Event) → room tab (inside es) ≤ room tab es
  room-inside es = room-take (size_from 0 es) es

  pub room-behind : (n : ℕ) (es : List Event) → room tab (drop n es) ≤ room tab es
  room-behind n es = room-drop n es

  pub room-first : (n : Name) (es : List Event) → room_in (first_in n es) ≤ room tab es
  room-first n [] = omega arith
  room-first n (e ∷ es) =
      let here = room-inside es in
      let rest = room-first n es in
      in-cond (enters n e) (inside es) (first_in n es) (room tab (e ∷ es)) (omega (arith, here)) (omega (arith, rest))

  pub room-line : (es : List Event) → room tab (behind_first_line es) ≤ room tab es
  room-line [] = omega arith
  room-line (e ∷ es) =
      let here = room-drop 1 es in
      let rest = room-line es in
      room-cond (enters name.LineEnding e) (drop 1 es) (behind_first_line es) (room tab (e ∷ es)) (omega (arith, here)) (omega (arith, rest))

-- ---- what references stand for

some-few : (cs ds : List ℕ) → Some cs ≡ Some ds → length cs ≡ length ds
some-few cs ds h = ap (λ o. elim o as (λ (_ : Option (List ℕ)). ℕ) [ None ↦ 0 | Some x ↦ length x ]) h

few-by : (c : Bool) (r : Reference) (rs : List Reference) (n cs : List ℕ) → bytes_eq n r.0 ≡ c → nat_le (length r.1) (length r.0) ≡ true → cond c (Some r.1) (characters_in rs n) ≡ Some cs
    → (characters_in rs n ≡ Some cs → length cs ≤ length n) → length cs ≤ length n
few-by true r rs n cs same few h more =
    let long : length n ≡ length r.0 = ap length ((bytes_eq-Decides n r.0).0 same) in
    let are = some-few r.1 cs h in
    let least : length r.1 ≤ length r.0 = grind (arith, nat_tests, few) in
    omega (arith, long, are, least)
few-by false r rs n cs same few h more = more h

few-in : (rs : List Reference) (n cs : List ℕ) → list_all (λ r. nat_le (length r.1) (length r.0)) rs ≡ true → characters_in rs n ≡ Some cs → length cs ≤ length n
few-in [] n cs few h = absurd (none-some cs h)
few-in (r ∷ rs) n cs few h =
    let both = and_parts (nat_le (length r.1) (length r.0)) (list_all (λ r. nat_le (length r.1) (length r.0)) rs) few in
    few-by (bytes_eq n r.0) r rs n cs refl both.0 h (few-in rs n cs both.1)

-- a name has a letter at least for each of its characters
all-few : list_all (λ r. nat_le (length r.1) (length r.0)) character_references ≡ true
unfolding character_references
all-few = refl

few-characters : (n cs : List ℕ) → characters_of n ≡ Some cs → length cs ≤ length n
unfolding characters_of
few-characters n cs h = few-in character_references n cs all-few h

encode-le : (c : ℕ) → length (encode_utf8 c) ≤ 4
encode-le c = let h = length-encode c in let k = (len_utf8_bounds c).1 in omega (arith, h, k)

encodes-le : (cs : List ℕ) → length (flat_map encode_utf8 cs) ≤ 4 * length cs
encodes-le [] = omega arith
encodes-le (c ∷ cs) =
    let here = encode-le c in
    let rest = encodes-le cs in
    let long = length-append (encode_utf8 c) (flat_map encode_utf8 cs) in
    omega (arith, here, rest, long)

numeric-le : (base : ℕ) (digits : List ℕ) → length (numeric base digits) ≤ 4 * length digits
numeric-le base [] = omega arith
numeric-le base (d ∷ ds) =
    let h = encode-le (character_at (digits_value base (d ∷ ds))) in
    cond-le (is_numeral base (d ∷ ds)) (encode_utf8 (character_at (digits_value base (d ∷ ds)))) [] (4 * length (d ∷ ds)) (omega (arith, h)) (omega arith)

named-by : (n : List ℕ) (o : Option (List ℕ)) → characters_of n ≡ o → length (elim o as (λ (_ : Option (List ℕ)). List ℕ) [ None ↦ [] | Some cs ↦ flat_map encode_utf8 cs ]) ≤ 4 * length n
named-by n None h = omega arith
named-by n (Some cs) h = let few = few-characters n cs h in let long = encodes-le cs in omega (arith, few, long)

named-le : (n : List ℕ) → length (named n) ≤ 4 * length n
named-le n = named-by n (characters_of n) refl

reference-le : (mark : Option ℕ) (value : List ℕ) → length (reference mark value) ≤ 4 * length value
reference-le None value = omega arith
reference-le (Some mark) value =
    cond-le (mark == 35) (numeric 10 value) (cond ((mark == 120) || (mark == 88)) (numeric 16 value) (named value)) (4 * length value) (numeric-le 10 value)
    (cond-le ((mark == 120) || (mark == 88)) (numeric 16 value) (named value) (4 * length value) (numeric-le 16 value) (named-le value))

-- ---- what spans say

given-le : (bytes : List ℕ) (r : Reading) (n : Name) (from to : ℕ) → length (given bytes r n from to) ≤ 4 * (to - from) + 1
given-le bytes AsWritten n from to =
    let s = slice-le bytes from to in
    cond-le (same_name n name.BlockQuoteMarker) [] (slice_range bytes from to) (4 * (to - from) + 1) (omega arith) (omega (arith, s))
given-le bytes Decoded n from to =
    let most = 4 * (to - from) + 1 in
    let slice = slice_range bytes from to in
    let meant = reference (slice_get bytes (from - 1)) slice in
    let plain = same_name n name.Data || same_name n name.CharacterEscapeValue in
    let s = slice-le bytes from to in
    let r = reference-le (slice_get bytes (from - 1)) slice in
    cond-le (same_name n name.LineEnding) (10 ∷ []) (cond (same_name n name.CharacterReferenceValue) meant (cond plain slice [])) most (omega arith)
    (cond-le (same_name n name.CharacterReferenceValue) meant (cond plain slice []) most (omega (arith, s, r)) (cond-le plain slice [] most (omega (arith, s)) (omega arith)))

given-at-le : (bytes : List ℕ) (r : Reading) (e : Event) (es : List Event) → length (given_at bytes r e es) ≤ 4 * ahead e es + 1
given-at-le bytes r e [] = omega arith
given-at-le bytes r e (f ∷ fs) =
    let h = given-le bytes r e.name e.point.index f.point.index in
    cond-le (is_enter e.kind && not (is_enter f.kind)) (given bytes r e.name e.point.index f.point.index) [] (4 * ahead e (f ∷ fs) + 1) (omega (arith, h)) (omega arith)

-- where a line ending has a byte
full-by : (enter exit ending reference plain : Bool) (slice meant : List ℕ) (w : ℕ) → ((enter && ending) ≡ true → 0 < w) → length meant ≤ 4 * w → length slice ≤ w
    → length (cond (enter && exit) (cond ending (10 ∷ []) (cond reference meant (cond plain slice []))) []) ≤ 4 * w
full-by false exit ending reference plain slice meant w h m s = omega arith
full-by true false ending reference plain slice meant w h m s = omega arith
full-by true true true reference plain slice meant w h m s = let some = h refl in omega (arith, some)
full-by true true false true plain slice meant w h m s = m
full-by true true false false true slice meant w h m s = omega (arith, s)
full-by true true false false false slice meant w h m s = omega arith

pub given-full : (bytes : List ℕ) (e f : Event) (more : List Event) → (enters name.LineEnding e ≡ true → e.point.index < f.point.index)
    → length (given_at bytes Decoded e (f ∷ more)) ≤ 4 * (f.point.index - e.point.index)
given-full bytes e f more has =
    let from = e.point.index in
    let to = f.point.index in
    let slice = slice_range bytes from to in
    let s = slice-le bytes from to in
    let r = reference-le (slice_get bytes (from - 1)) slice in
    full-by (is_enter e.kind) (not (is_enter f.kind)) (same_name e.name name.LineEnding) (same_name e.name name.CharacterReferenceValue)
    (same_name e.name name.Data || same_name e.name name.CharacterEscapeValue) slice (reference (slice_get bytes (from - 1)) slice) (to - from) (λ ending. let h = has ending in omega (arith, h)) (omega (arith, s, r)) s

pub said-le : (bytes : List ℕ) (e f : Event) (s : Spans) (more : List Event) → length (said bytes e f s) ≤ 4 * ahead e (events_of s ++ f ∷ more) + 1
said-le bytes e f Nothing more = let h = given-le bytes (reading_of (inline_of e.name)) e.name e.point.index f.point.index in omega (arith, h)
said-le bytes e f (Span d g s behind) more = omega arith

module _ (bytes : List ℕ) (tab : ℕ) where
  pub text-le : (r : Reading) (es : List Event) → length (text bytes r es) ≤ room tab es
  text-le r [] = omega arith
  text-le r (e ∷ es) =
      let here = given-at-le bytes r e es in
      let rest = text-le r es in
      let long = length-append (given_at bytes r e es) (text bytes r es) in
      omega (arith, here, rest, long)

  string-by : (o : Option (List Event)) → length (elim o as (λ (_ : Option (List Event)). List ℕ) [ None ↦ [] | Some string ↦ decoded bytes string ]) ≤ room_in tab o
  string-by None = omega arith
  string-by (Some es) = text-le Decoded es

  pub string-le : (n : Name) (es : List Event) → length (string_in bytes n es) ≤ room tab es
  string-le n es = through _ _ _ (string-by (first_in n es)) (room-first tab n es)

  title-by : (n : Name) (o : Option (List Event)) → option_map_or length (option_map (string_in bytes n) o) 0 ≤ room_in tab o
  title-by n None = omega arith
  title-by n (Some es) = string-le n es

  pub titles-le : (t n : Name) (es : List Event) → option_map_or length (option_map (string_in bytes n) (first_in t es)) 0 ≤ room tab es
  titles-le t n es = through _ _ _ (title-by n (first_in t es)) (room-first tab t es)

  at-le : (e : Event) (es : List Event) → length (bytes_at bytes e es) ≤ ahead e es
  at-le e [] = omega arith
  at-le e (f ∷ fs) = let h = slice-le bytes e.point.index f.point.index in omega (arith, h)

  pub address-le : (es : List Event) → length (autolink_address bytes es) ≤ room tab es
  address-le [] = omega arith
  address-le (e ∷ es) =
      let here = at-le e es in
      let rest = address-le es in
      cond-le (is_address e) (bytes_at bytes e es) (autolink_address bytes es) (room tab (e ∷ es)) (omega (arith, here)) (omega (arith, rest))

  pub lines-le : (n : Name) (ending : ℕ) (es : List Event) → length (lines_from bytes n ending es) ≤ room tab es
  lines-le n ending [] = omega arith
  lines-le n ending (e ∷ es) =
      let here = at-le e es in
      let rest = lines-le n ending es in
      let long = length-append (bytes_at bytes e es) (lines_from bytes n ending es) in
      cond-le (enters name.LineEnding e) (ending ∷ lines_from bytes n ending es) (cond (enters n e) (bytes_at bytes e es ++ lines_from bytes n ending es) (lines_from bytes n ending es)) (room tab (e ∷ es))
      (omega (arith, rest))
      (cond-le (enters n e) (bytes_at bytes e es ++ lines_from bytes n ending es) (lines_from bytes n ending es) (room tab (e ∷ es)) (omega (arith, here, rest, long)) (omega (arith, rest)))

  stripped-le : (t : List ℕ) → length (stripped t) ≤ length t
  stripped-le t =
      let s = slice-le t 1 (length t - 1) in
      cond-le (nat_lt 1 (length t) && ((slice_index t 0 == 32) && ((slice_index t (length t - 1) == 32) && not (list_all (λ b. b == 32) t)))) (slice_range t 1 (length t - 1)) t (length t)
      (omega (arith, s)) (omega arith)

  pub code-le : (es : List Event) → length (code_text bytes es) ≤ room tab es
  code-le es = through _ _ _ (stripped-le (lines_from bytes name.CodeTextData 32 es)) (lines-le name.CodeTextData 32 es)

  repeat-long : (n : ℕ) → length {A = ℕ} (repeat n (32 ∷ [])) ≡ n
  repeat-long zero = refl
  repeat-long (suc n) = ap suc (repeat-long n)

  cut-le : (from to : Point) → length (cut bytes tab from to) ≤ ((to.index - from.index) + to.vs) + tab
  cut-le from to =
      let most = ((to.index - from.index) + to.vs) + tab in
      let slice = slice_range bytes from.index to.index in
      let columns = repeat (tab - (from.column - 1) % tab) (32 ∷ []) in
      let first = columns ++ drop 1 slice in
      let s = slice-le bytes from.index to.index in
      let d = drop-le 1 slice in
      let c = repeat-long (tab - (from.column - 1) % tab) in
      let v = repeat-long to.vs in
      let w = repeat-long (to.vs - from.vs) in
      let l = length-append columns (drop 1 slice) in
      let begun = cond-le (from.vs == 0) slice first ((to.index - from.index) + tab) (omega (arith, s)) (omega (arith, s, d, c, l)) in
      let long = length-append (cond (from.vs == 0) slice first) (repeat to.vs (32 ∷ [])) in
      cond-le (from.index == to.index) (repeat (to.vs - from.vs) (32 ∷ [])) (cond (from.vs == 0) slice first ++ repeat to.vs (32 ∷ [])) most (omega (arith, w)) (omega (arith, begun, long, v))

  cut-at-le : (e : Event) (es : List Event) → length (cut_at bytes tab e es) ≤ ahead e es + tab
  cut-at-le e [] = omega arith
  cut-at-le e (f ∷ fs) = cut-le e.point f.point

  pub block-le : (n : Name) (es : List Event) → length (block_lines bytes tab n es) ≤ room tab es
  block-le n [] = omega arith
  block-le n (e ∷ es) =
      let here = cut-at-le e es in
      let rest = block-le n es in
      let long = length-append (cut_at bytes tab e es) (block_lines bytes tab n es) in
      cond-le (enters name.LineEnding e || enters name.BlankLineEnding e) (10 ∷ block_lines bytes tab n es) (cond (enters n e) (cut_at bytes tab e es ++ block_lines bytes tab n es) (block_lines bytes tab n es))
      (room tab (e ∷ es)) (omega (arith, rest))
      (cond-le (enters n e) (cut_at bytes tab e es ++ block_lines bytes tab n es) (block_lines bytes tab n es) (room tab (e ∷ es)) (omega (arith, here, rest, long)) (omega (arith, rest)))

  pub code-lines-le : (es : List Event) → length (code_lines bytes tab es) ≤ room tab es + 1
  code-lines-le es =
      let lines = block-le name.CodeFlowChunk es in
      let last = cond-le (has_last_line es) (10 ∷ []) [] 1 (omega arith) (omega arith) in
      let long = length-append (block_lines bytes tab name.CodeFlowChunk es) (cond (has_last_line es) (10 ∷ []) []) in
      omega (arith, lines, last, long)

  -- ---- descriptions

  alt-by-le : (i : Inline) (es : List Event) (own alt : List ℕ) (u : ℕ) → length own ≤ u → 1 ≤ u → length alt ≤ room tab es → length (alt_by bytes i es own alt) ≤ u + room tab es
  alt-by-le inline.Ending es own alt u o p a = omega (arith, p)
  alt-by-le inline.Code es own alt u o p a = let h = code-le es in omega (arith, h)
  alt-by-le inline.Html es own alt u o p a = let h = lines-le name.HtmlTextData 10 es in omega (arith, h)
  alt-by-le inline.Autolink es own alt u o p a = let h = address-le es in omega (arith, h)
  alt-by-le inline.Tail es own alt u o p a = omega arith
  alt-by-le inline.Break es own alt u o p a = let l = length-append own alt in omega (arith, o, a, l)
  alt-by-le inline.Emphasis es own alt u o p a = let l = length-append own alt in omega (arith, o, a, l)
  alt-by-le inline.Strong es own alt u o p a = let l = length-append own alt in omega (arith, o, a, l)
  alt-by-le inline.Struck es own alt u o p a = let l = length-append own alt in omega (arith, o, a, l)
  alt-by-le inline.Www es own alt u o p a = let l = length-append own alt in omega (arith, o, a, l)
  alt-by-le inline.Email es own alt u o p a = let l = length-append own alt in omega (arith, o, a, l)
  alt-by-le inline.Address es own alt u o p a = let l = length-append own alt in omega (arith, o, a, l)
  alt-by-le inline.Check es own alt u o p a = let l = length-append own alt in omega (arith, o, a, l)
  alt-by-le inline.Call es own alt u o p a = let l = length-append own alt in omega (arith, o, a, l)
  alt-by-le inline.Link es own alt u o p a = let l = length-append own alt in omega (arith, o, a, l)
  alt-by-le inline.Image es own alt u o p a = let l = length-append own alt in omega (arith, o, a, l)
  alt-by-le inline.Other es own alt u o p a = let l = length-append own alt in omega (arith, o, a, l)

  pub alt-le : (s : Spans) → length (alt_of bytes s) ≤ room tab (events_of s)
  alt-le Nothing = omega arith
  alt-le (Span e f s behind) =
      let u = 4 * ahead e (events_of s ++ f ∷ events_of behind) + (tab + 1) in
      let own = said-le bytes e f s (events_of behind) in
      let here = alt-by-le (inline_of e.name) (events_of s) (said bytes e f s) (alt_of bytes s) u (omega (arith, own)) (omega arith) (alt-le s) in
      let rest = alt-le behind in
      let rooms = room-append tab (events_of s) (f ∷ events_of behind) in
      let long = length-append (alt_by bytes (inline_of e.name) (events_of s) (said bytes e f s) (alt_of bytes s)) (alt_of bytes behind) in
      omega (arith, here, rest, rooms, long)
