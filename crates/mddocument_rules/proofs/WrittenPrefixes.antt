-- What is written between two lines: white space alone, as a line ending is, and the prefixes of a line but for the markers of block quotes.
use Rattle.mddocument_rules.proofs.Prelude.{◌≡◌, ◌∙◌, ℕ, zero, suc, ◌+◌, ◌==◌, Bool, true, false, cond, List, [], ◌∷◌, ◌++◌, append_assoc, None, Option, Some, ap, arith, drop, flat_map, length, refl, subst, sym, take, or_left, every-append, every-drop, AllByRecursion, ◌&&◌, ◌||◌, nat_le, Event, Exit, Name, Seat, end_after, same_name, event, Mark, leaf_marks, span_marks, white, indent, Container, Item, Prefix, footnote, item, quote, going_marks, prefixes_marks}
use Rattle.std.proofs.lemmas.List.{drop-append-le, drop-drop, drop-map, drop-take, length-map, map-append, take-append-drop, take-append-le, take-map}
use Rattle.std.specs.Prelude.{◌≤◌, min, not}
use Rattle.markdown_base.proofs.Common.{every-map, every-take}
use Rattle.markdown_base.specs.declared.event.Name.TheVariants as name
use Rattle.mdconstructs_tables.specs.Breaks.{is_white}
use Rattle.mdblock_leaf_blocks.specs.LeafBlocks.{bytes_of}
use Rattle.mdblock_leaf_blocks.specs.LineKinds.{begins_with, is_blank_line, unindented}
use Rattle.mdblock_lines.specs.Containers.{Footnote, Quote, goes_on, quote_size}
use Rattle.mdblock_containers.proofs.GoingLemmas.{goes_on_within}
use Rattle.mdblock_containers.specs.Prefixes.{going_on}
use Rattle.mdinline_labels.specs.Labels.{is_label_white}
use Rattle.mddocument_link_targets.specs.Strings.{as_written}
use Rattle.mddocument_rules.proofs.AlikeTexts.{AreWhite}
use Rattle.mddocument_rules.proofs.HeldSections.{bare}
use Rattle.mddocument_rules.proofs.HeldStrings.{AreOutside, IsOutside}
use Rattle.mddocument_rules.proofs.VirtualBytes.{AreSpelt, IsFeed, NoFeeds, end-shown, in-row, next-own, spelt-behind, white-written}
use Rattle.mddocument_rules.proofs.WrittenMarkers.{indent-take}
use Rattle.mddocument_rules.proofs.WrittenSpans.{Gives, exit-gives, gives-both, leaf-gives, written}

-- virtual bytes that are white space
abbrev pub AreBlank : List Seat → Type 0
AreBlank ss = AllByRecursion (λ (s : Seat). is_white s.byte ≡ true) ss

-- of the white space of a line
pub front-blank : (n : ℕ) (ss : List Seat) → n ≤ indent (bytes_of ss) → AreBlank (take n ss)
front-blank zero ss h = tt
front-blank (suc n) [] h = tt
front-blank (suc n) (s ∷ ss) h = by (is_white s.byte) refl h (front-blank n ss)
  where
    by : (b : Bool) → is_white s.byte ≡ b → suc n ≤ cond b (1 + indent (bytes_of ss)) 0 → (n ≤ indent (bytes_of ss) → AreBlank (take n ss)) → AreBlank (s ∷ take n ss)
    by true e h more = (e, more (omega (arith, h)))
    by false e h more = absurd (omega (arith, h))

-- the prefix of a quote: white space, its marker, and white space
abbrev IsQuoted : List Seat → Type 0
IsQuoted ss = let n = indent (bytes_of ss) in AreBlank (take n ss) × AreBlank (drop (suc n) ss)

quoted : (ss : List Seat) → IsQuoted (take (quote_size (bytes_of ss)) ss)
quoted ss =
    let t = bytes_of ss in
    let k = indent t in
    let m = min 1 (indent (drop 1 (unindented t))) in
    let n = suc k + m in
    let few : indent (bytes_of (take n ss)) ≡ k = ap indent (sym (take-map (λ (s : Seat). s.byte) n ss)) ∙ indent-take n t (omega arith) in
    let next : k + 1 ≡ suc k = omega arith in
    let behind : bytes_of (drop (suc k) ss) ≡ drop 1 (unindented t) = sym (drop-map (λ (s : Seat). s.byte) (suc k) ss) ∙ ap (λ j. drop j t) (sym next) ∙ sym (drop-drop 1 k t) in
    let size = ap indent behind in
    let last : AreBlank (take m (drop (suc k) ss)) = front-blank m (drop (suc k) ss) (omega (arith, size)) in (
      front-blank (indent (bytes_of (take n ss))) (take n ss) (omega arith),
      subst AreBlank (sym (ap (λ j. drop (suc j) (take n ss)) few ∙ drop-take (suc k) m ss)) last,
    )

-- a container goes on by white space, or with a quote's prefix
item-blank : (i : Item) (number n : ℕ) (ss : List Seat) → goes_on (item i) number (bytes_of ss) ≡ Some n → AreBlank (take n ss)
item-blank i number n ss e = front-blank n ss (by (is_blank_line t) (i.is_empty && (number == suc i.line)) (nat_le i.size (indent t)) refl e)
  where
    t : List ℕ
    t = bytes_of ss

    by : (a b c : Bool) → nat_le i.size (indent t) ≡ c → cond a (cond b None (Some (min i.size (indent t)))) (cond c (Some i.size) None) ≡ Some n → n ≤ indent t
    by true true c s q = absurd (cc)
    by true false c s q = let same : min i.size (indent t) ≡ n = cc in omega (arith, same)
    by false b true s q = let same : i.size ≡ n = cc in let le : i.size ≤ indent t = grind (arith) in omega (arith, same, le)
    by false b false s q = absurd (cc)

footnote-blank : (f : Footnote) (number n : ℕ) (ss : List Seat) → goes_on (footnote f) number (bytes_of ss) ≡ Some n → AreBlank (take n ss)
footnote-blank f number n ss e = front-blank n ss (by (is_blank_line t) (nat_le 4 (indent t)) refl e)
  where
    t : List ℕ
    t = bytes_of ss

    by : (a c : Bool) → nat_le 4 (indent t) ≡ c → cond a (Some (min 4 (indent t))) (cond c (Some 4) None) ≡ Some n → n ≤ indent t
    by true c s q = let same : min 4 (indent t) ≡ n = cc in omega (arith, same)
    by false true s q = let same : 4 ≡ n = cc in let le : 4 ≤ indent t = grind (arith) in omega (arith, same, le)
    by false false s q = absurd (cc)

quote-sized : (q : Quote) (number n : ℕ) (t : List ℕ) → goes_on (quote q) number t ≡ Some n → quote_size t ≡ n
quote-sized q number n t e = by (begins_with 62 (unindented t) && not (q.is_near && nat_le 4 (indent t))) e
  where
    by : (a : Bool) → cond a (Some (quote_size t)) None ≡ Some n → quote_size t ≡ n
    by true h = cc
    by false h = absurd (cc)

module _ (bytes : List ℕ) where
  -- virtual bytes in a row, without line endings, and what is behind them
  pub record AreInLine (ss rest : List Seat) : Type 0 where
    pub plain : NoFeeds bytes ss
    pub in_tab : Bool
    pub index : ℕ
    pub spelt : AreSpelt bytes in_tab index (ss ++ rest)

  cut-line : (n : ℕ) (ss rest : List Seat) → ss ++ rest ≡ take n ss ++ (drop n ss ++ rest)
  cut-line n ss rest = ap (λ l. l ++ rest) (sym (take-append-drop n ss)) ∙ append_assoc (take n ss) (drop n ss) rest

  pub line-front : (n : ℕ) (ss rest : List Seat) → AreInLine ss rest → AreInLine (take n ss) (drop n ss ++ rest)
  line-front n ss rest h =
      record { plain = every-take (λ (s : Seat). (s.byte == 10) ≡ false) n ss h.plain; in_tab = h.in_tab; index = h.index; spelt = subst (AreSpelt bytes h.in_tab h.index) (cut-line n ss rest) h.spelt }

  pub line-back : (n : ℕ) (ss rest : List Seat) → AreInLine ss rest → AreInLine (drop n ss) rest
  line-back n ss rest h =
      let left = spelt-behind bytes (take n ss) h.in_tab h.index (drop n ss ++ rest) (subst (AreSpelt bytes h.in_tab h.index) (cut-line n ss rest) h.spelt) in
      record { plain = every-drop (λ (s : Seat). (s.byte == 10) ≡ false) n ss h.plain; in_tab = left.0; index = left.1; spelt = left.2 }

  -- a span with nothing in it gives what is written there
  pub leaf-written : (n : Name) (ss rest : List Seat) → same_name n name.BlockQuoteMarker ≡ false → AreInLine ss rest → Gives bytes (bare (leaf_marks bytes n ss)) (flat_map (written bytes) ss)
  leaf-written n [] rest named h zs = refl
  leaf-written n (s ∷ ss) rest named h zs =
      leaf-gives bytes n s ss named (in-row bytes h.in_tab h.index s ss rest h.plain h.spelt) (next-own bytes h.in_tab h.index s (ss ++ rest) h.plain.0 h.spelt).own.from
      (end-shown bytes h.in_tab h.index s ss rest h.plain h.spelt) zs

  pub leaf-outside : (n : Name) (ss : List Seat) → IsOutside n → AreOutside (bare (leaf_marks bytes n ss))
  leaf-outside n [] h = tt
  leaf-outside n (s ∷ ss) h = (h, (h, tt))

  -- ---- marks that give white space, and have neither data nor strings
  pub record IsGap (ms : List Mark) : Type 0 where
    pub text : List ℕ
    pub gives : Gives bytes (bare ms) text
    pub white : AreWhite text
    pub outside : AreOutside (bare ms)

  pub gap-none : IsGap []
  gap-none = record { text = []; gives = λ zs. refl; white = tt; outside = tt }

  pub gap-both : (xs ys : List Mark) → IsGap xs → IsGap ys → IsGap (xs ++ ys)
  gap-both xs ys h k =
      let are = map-append (λ (m : Mark). m.0) xs ys in
      record {
        text = h.text ++ k.text;
        gives = subst (λ l. Gives bytes l (h.text ++ k.text)) (sym are) (gives-both bytes (bare xs) (bare ys) h.text k.text h.gives k.gives);
        white = every-append (λ (c : ℕ). is_label_white c ≡ true) h.text k.text h.white k.white;
        outside = subst AreOutside (sym are) (every-append (λ (e : Event). IsOutside e.name) (bare xs) (bare ys) h.outside k.outside);
      }

  pub gap-white : (ss rest : List Seat) → AreInLine ss rest → AreBlank ss → IsGap (white bytes ss)
  gap-white ss rest h blank = record {
    text = flat_map (written bytes) ss;
    gives = leaf-written name.SpaceOrTab ss rest refl h;
    white = white-written bytes h.in_tab h.index ss rest h.plain (every-map (λ (s : Seat). is_white s.byte ≡ true) (λ (s : Seat). is_label_white s.byte ≡ true) (λ s w. or_left (is_white s.byte) ((s.byte == 10) || (s.byte == 13)) w) ss blank) h.spelt;
    outside = leaf-outside name.SpaceOrTab ss (refl, refl);
  }

  -- the marker of a quote gives nothing
  marked-gap : (ss ws : List Seat) → IsGap (white bytes ws) → IsGap (span_marks bytes name.BlockQuotePrefix ss (leaf_marks bytes name.BlockQuoteMarker (take 1 ss) ++ white bytes ws))
  marked-gap [] ws h = h
  marked-gap (s ∷ ss) ws h =
      let last = event bytes Exit name.BlockQuotePrefix (end_after s.end ss) in
      let marker = event bytes Exit name.BlockQuoteMarker s.end in
      let are : bare (white bytes ws ++ (last, None) ∷ []) ≡ bare (white bytes ws) ++ last ∷ [] = map-append (λ (m : Mark). m.0) (white bytes ws) ((last, None) ∷ []) in
      record {
        text = h.text;
        gives = λ zs.
            ap (λ l. l ++ as_written bytes (bare (white bytes ws ++ (last, None) ∷ []) ++ zs)) (exit-gives bytes marker (bare (white bytes ws ++ (last, None) ∷ []) ++ zs) refl)
            ∙ ap (λ l. as_written bytes (l ++ zs)) are
            ∙ ap (as_written bytes) (append_assoc (bare (white bytes ws)) (last ∷ []) zs)
            ∙ h.gives (last ∷ zs)
            ∙ ap (λ l. h.text ++ (l ++ as_written bytes zs)) (exit-gives bytes last zs refl);
        white = h.white;
        outside = ((refl, refl), ((refl, refl), ((refl, refl), subst AreOutside (sym are) (every-append (λ (e : Event). IsOutside e.name) (bare (white bytes ws)) (last ∷ []) h.outside ((refl, refl), tt)))));
      }

  -- the prefix of a container that goes on
  going-gap : (c : Container) (number n : ℕ) (ss rest : List Seat) → goes_on c number (bytes_of ss) ≡ Some n → AreInLine ss rest → IsGap (going_marks bytes c (take n ss))
  going-gap (item i) number n ss rest e h = gap-white (take n ss) (drop n ss ++ rest) (line-front n ss rest h) (item-blank i number n ss e)
  going-gap (footnote f) number n ss rest e h = gap-white (take n ss) (drop n ss ++ rest) (line-front n ss rest h) (footnote-blank f number n ss e)
  going-gap (quote q) number n ss rest e h =
      let part = take n ss in
      let behind = drop n ss ++ rest in
      let k = indent (bytes_of part) in
      let is : IsQuoted part = subst (λ j. IsQuoted (take j ss)) (quote-sized q number n (bytes_of ss) e) (quoted ss) in
      let here = line-front n ss rest h in
      gap-both (white bytes (take k part)) (span_marks bytes name.BlockQuotePrefix (drop k part) (leaf_marks bytes name.BlockQuoteMarker (take 1 (drop k part)) ++ white bytes (drop (suc k) part)))
      (gap-white (take k part) (drop k part ++ behind) (line-front k part behind here) is.0) (marked-gap (drop k part) (drop (suc k) part) (gap-white (drop (suc k) part) behind (line-back (suc k) part behind here) is.1))

  -- The prefixes of a line are such, whatever comes behind its text
  pub prefixes-gap : (cs : List Container) (number : ℕ) (ss tail rest : List Seat) → AreInLine ss rest → IsGap (prefixes_marks bytes (going_on cs number (bytes_of ss)) (ss ++ tail))
  prefixes-gap [] number ss tail rest h = gap-none
  prefixes-gap (c ∷ cs) number ss tail rest h = by (goes_on c number (bytes_of ss)) refl (λ n. prefixes-gap cs number (drop n ss) tail rest (line-back n ss rest h))
    where
      by : (o : Option ℕ) → goes_on c number (bytes_of ss) ≡ o → ((n : ℕ) → IsGap (prefixes_marks bytes (going_on cs number (bytes_of (drop n ss))) (drop n ss ++ tail)))
          → IsGap (prefixes_marks bytes (elim o as (λ _. List Prefix) [ None ↦ [] | Some n ↦ record { container = c; size = n } ∷ going_on cs number (drop n (bytes_of ss)) ]) (ss ++ tail))
      by None e more = gap-none
      by (Some n) e more =
          let few = goes_on_within c number (bytes_of ss) n e in
          let size = length-map ss (λ (s : Seat). s.byte) in
          let inside : n ≤ length ss = omega (arith, few, size) in
          let front : take n (ss ++ tail) ≡ take n ss = take-append-le n ss tail inside in
          let back : drop n (ss ++ tail) ≡ drop n ss ++ tail = drop-append-le n ss tail inside in
          let text : drop n (bytes_of ss) ≡ bytes_of (drop n ss) = drop-map (λ (s : Seat). s.byte) n ss in
          gap-both (going_marks bytes c (take n (ss ++ tail))) (prefixes_marks bytes (going_on cs number (drop n (bytes_of ss))) (drop n (ss ++ tail)))
          (subst (λ l. IsGap (going_marks bytes c l)) (sym front) (going-gap c number n ss rest e h))
          (subst (λ (p : List ℕ × List Seat). IsGap (prefixes_marks bytes (going_on cs number p.0) p.1)) (λ j. (sym text j, sym back j)) (more n))

  -- Marks that give some white space
  pub record IsSomeGap (ms : List Mark) : Type 0 where
    pub gap : IsGap ms
    pub first : ℕ
    pub others : List ℕ
    pub some : gap.text ≡ first ∷ others

  -- so does a line ending, with such marks behind it
  pub feed-gap : (s : Seat) (ms : List Mark) → IsFeed bytes s → IsGap ms → IsSomeGap (leaf_marks bytes name.LineEnding (s ∷ []) ++ ms)
  unfolding gap-both
  feed-gap s ms f h =
      let ending : IsGap (leaf_marks bytes name.LineEnding (s ∷ [])) = record {
        text = f.first ∷ f.others;
        gives = λ zs. (λ i. f.are i ++ (exit-gives bytes (event bytes Exit name.LineEnding s.end) zs refl i ++ as_written bytes zs));
        white = f.white;
        outside = ((refl, refl), ((refl, refl), tt));
      } in
      record { gap = gap-both (leaf_marks bytes name.LineEnding (s ∷ [])) ms ending h; first = f.first; others = f.others ++ h.text; some = refl }
