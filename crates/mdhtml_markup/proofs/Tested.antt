-- The test of safe HTML passes what is safe HTML, and nothing else.
use Rattle.std.proofs.Common.{◌≡◌, ℕ, ◌<◌, ◌≤◌, List, [], ◌∷◌, ◌++◌, length, drop, ap, sym, refl, subst, ◌∙◌, arith, append_assoc, Option, None, Some}
use Rattle.std.specs.Char.{is_ascii_alphanumeric}
use Rattle.std.specs.List.{prefix_len, take_while}
use Rattle.std.specs.Prelude.{zero, suc, ◌==◌, ◌&&◌, Bool, true, false, cond, codes, option_and_then, option_map}
use Rattle.std.proofs.lemmas.Bool.{and_from, and_parts, false≢true}
use Rattle.std.proofs.lemmas.Bool.Decides.{Decides-eqb, same_from_decides}
use Rattle.std.proofs.lemmas.List.{length-append, take-append-drop}
use Rattle.mdhtml_markup.specs.declared.elements.Element.{Element}
use Rattle.mdhtml_markup.specs.declared.elements.Element.TheVariants.{Anchor, BlockQuote, Break, Checkbox, Code, DataCell, Deleted, Emphasis, HeaderCell, Heading1, Heading2, Heading3, Heading4, Heading5, Heading6, Image, ListItem, OrderedList, Paragraph, Preformatted, Strong, Table, TableBody, TableHead, TableRow, ThematicBreak, UnorderedList, Section, Superscript}
use Rattle.mdhtml_markup.specs.Laws.{SafeHtmlIsTested}
use Rattle.mdhtml_markup.specs.SafeChecks.{is_safe_behind, Rest, behind_close, behind_element, behind_mark, behind_name, elements, is_safe_below, named, tag_end}
use Rattle.mdhtml_markup.specs.SafeHtml as safe
use Rattle.mdhtml_markup.specs.SafeHtml.{AreAttributes, IsSafeHtml, attributes_of, behind, close_tag, is_said, is_text_byte, is_void, name_of, open_tag, stands_in, void_tag}
use Rattle.mdhtml_markup.proofs.Behind.{behind-front, behind-is, drop-front, ended-then, name-letters, name-read, name-stops, named-is, named-read, take-front}
use Rattle.mdhtml_markup.proofs.Bools.{Then, other-by}

-- ---- what the test passes is safe

-- a rest of which something holds, and in front of which a tag is safe
pub record Marked (tags : List Element) (l : List ℕ) (P : Rest → Type 0) : Type 0 where
  pub rest : Rest
  pub holds : P rest
  pub shorter : length rest.1 ≤ length l
  pub safely : IsSafeHtml rest.0 rest.1 → IsSafeHtml tags (60 ∷ l)

-- the bytes of a tag
close-bytes : (e : Element) (r : List ℕ) → 60 ∷ 47 ∷ (name_of e ++ (codes ">" ++ r)) ≡ close_tag e ++ r
close-bytes e r = sym (append_assoc (codes "</" ++ name_of e) (codes ">") r)

tag-bytes : (e : Element) (attributes end r : List ℕ) → ((codes "<" ++ name_of e) ++ (attributes ++ end)) ++ r ≡ 60 ∷ (name_of e ++ (attributes ++ (end ++ r)))
tag-bytes e attributes end r =
    append_assoc (codes "<" ++ name_of e) (attributes ++ end) r ∙ ap (λ x. (codes "<" ++ name_of e) ++ x) (append_assoc attributes end r)

longer : (a b : List ℕ) → length b ≤ length (a ++ b)
longer a b = omega (arith, length-append a b)

closed-end : (o : Option (List ℕ)) (e : Element) (tags : List Element) (l m : List ℕ) (P : Rest → Type 0) → l ≡ name_of e ++ m → behind (codes ">") m ≡ o
    → Then (option_map (λ (rest : List ℕ). (tags, rest)) o) P → Marked (e ∷ tags) (47 ∷ l) P
closed-end None e tags l m P k j h = absurd h
closed-end (Some r) e tags l m P k j h =
    let is : l ≡ name_of e ++ (codes ">" ++ r) = k ∙ ap (λ x. name_of e ++ x) (behind-is (codes ">") m r j) in
    record {
      rest = (tags, r);
      holds = h;
      shorter = omega (arith, ap (λ (x : List ℕ). length x) is, longer (name_of e) (codes ">" ++ r));
      safely = λ s. safe.IsSafeHtml.closed tags e r (ap (λ (x : List ℕ). 60 ∷ 47 ∷ x) is ∙ close-bytes e r) s;
    }

closed-by : (o : Option (List ℕ)) (e : Element) (tags : List Element) (l : List ℕ) (P : Rest → Type 0) → behind (name_of e) l ≡ o
    → Then (option_map (λ rest. (tags, rest)) (option_and_then (behind (codes ">")) o)) P → Marked (e ∷ tags) (47 ∷ l) P
closed-by None e tags l P k h = absurd h
closed-by (Some m) e tags l P k h = closed-end (behind (codes ">") m) e tags l m P (behind-is (name_of e) l m k) refl h

closed-then : (tags : List Element) (l : List ℕ) (P : Rest → Type 0) → Then (behind_close tags l) P → Marked tags (47 ∷ l) P
closed-then [] l P h = absurd h
closed-then (e ∷ tags) l P h = closed-by (behind (name_of e) l) e tags l P refl h

-- the rest behind a tag, by whether it is of a void
tag-safe : (v : Bool) (e : Element) (tags : List Element) (attributes r : List ℕ) → is_void e ≡ v → stands_in e tags ≡ true → AreAttributes (attributes_of e) attributes
    → IsSafeHtml (cond v tags (e ∷ tags)) r → IsSafeHtml tags (60 ∷ (name_of e ++ (attributes ++ (cond v (codes " />") (codes ">") ++ r))))
tag-safe true e tags attributes r v st a s = safe.IsSafeHtml.void tags e attributes r (sym (tag-bytes e attributes (codes " />") r)) v st a s
tag-safe false e tags attributes r v st a s = safe.IsSafeHtml.opened tags e attributes r (sym (tag-bytes e attributes (codes ">") r)) v st a s

named-safe : (o : Option (List ℕ)) (e : Element) (tags : List Element) (l m : List ℕ) (P : Rest → Type 0) → l ≡ name_of e ++ m → stands_in e tags ≡ true → behind_name e m ≡ o
    → Then (option_map (λ (rest : List ℕ). (cond (is_void e) tags (e ∷ tags), rest)) o) P → Marked tags l P
named-safe None e tags l m P k st j h = absurd h
named-safe (Some r) e tags l m P k st j h =
    let it = ended-then e m (λ x. x ≡ r) (subst (λ o. Then o (λ x. x ≡ r)) (sym j) refl) in
    let is : l ≡ name_of e ++ (it.attributes ++ (tag_end e ++ r)) = k ∙ ap (λ x. name_of e ++ x) (it.same ∙ ap (λ x. it.attributes ++ (tag_end e ++ x)) it.holds) in
    record {
      rest = (cond (is_void e) tags (e ∷ tags), r);
      holds = h;
      shorter = omega (arith, ap (λ (x : List ℕ). length x) is, longer (name_of e) (it.attributes ++ (tag_end e ++ r)), longer it.attributes (tag_end e ++ r), longer (tag_end e) r);
      safely = λ s. subst (λ (x : List ℕ). IsSafeHtml tags (60 ∷ x)) (sym is) (tag-safe (is_void e) e tags it.attributes r refl st it.are s);
    }

element-by : (c : Bool) (e : Element) (tags : List Element) (l m : List ℕ) (P : Rest → Type 0) → l ≡ name_of e ++ m → stands_in e tags ≡ c
    → Then (cond c (option_map (λ (rest : List ℕ). (cond (is_void e) tags (e ∷ tags), rest)) (behind_name e m)) None) P → Marked tags l P
element-by false e tags l m P k st h = absurd h
element-by true e tags l m P k st h = named-safe (behind_name e m) e tags l m P k st refl h

element-then : (o : Option Element) (tags : List Element) (l : List ℕ) (P : Rest → Type 0) → named elements (take_while is_ascii_alphanumeric l) ≡ o
    → Then (behind_element tags o (drop (prefix_len is_ascii_alphanumeric l) l)) P → Marked tags l P
element-then None tags l P k h = absurd h
element-then (Some e) tags l P k h =
    let m = drop (prefix_len is_ascii_alphanumeric l) l in
    let is : l ≡ name_of e ++ m = sym (take-append-drop (prefix_len is_ascii_alphanumeric l) l) ∙ ap (λ x. x ++ m) (named-is elements (take_while is_ascii_alphanumeric l) e k) in
    element-by (stands_in e tags) e tags l m P is refl h

mark-by : (o : Option (List ℕ)) (tags : List Element) (l : List ℕ) (P : Rest → Type 0) → behind (codes "/") l ≡ o
    → Then (elim o as (λ _. Option Rest) [
      | Some rest ↦ behind_close tags rest
      | None ↦ behind_element tags (named elements (take_while is_ascii_alphanumeric l)) (drop (prefix_len is_ascii_alphanumeric l) l)
    ]) P
    → Marked tags l P
mark-by None tags l P k h = element-then (named elements (take_while is_ascii_alphanumeric l)) tags l P refl h
mark-by (Some r) tags l P k h = subst (λ x. Marked tags x P) (sym (behind-is (codes "/") l r k)) (closed-then tags r P h)

pub mark-then : (tags : List Element) (l : List ℕ) (P : Rest → Type 0) → Then (behind_mark tags l) P → Marked tags l P
mark-then tags l P h = mark-by (behind (codes "/") l) tags l P refl h

-- a test of what there is
tested-then : (o : Option Rest) (f : Rest → Bool) → elim o as (λ _. Bool) [ None ↦ false | Some rest ↦ f rest ] ≡ true → Then o (λ rest. f rest ≡ true)
tested-then None f h = absurd (false≢true h)
tested-then (Some rest) f h = h

byte-by : (c : Bool) (n : ℕ) (tags : List Element) (b : ℕ) (l : List ℕ) → (b == 60) ≡ c
    → elim c as (λ _. Bool) [
      | false ↦ (is_said tags b && is_text_byte b l) && is_safe_below n tags l
      | true ↦ elim (behind_mark tags l) as (λ _. Bool) [ None ↦ false | Some rest ↦ is_safe_below n rest.0 rest.1 ]
    ] ≡ true
    → ((o : List Element) (r : List ℕ) → is_safe_below n o r ≡ true → IsSafeHtml o r) → IsSafeHtml tags (b ∷ l)
byte-by false n tags b l e h more =
    let both = and_parts (is_said tags b && is_text_byte b l) (is_safe_below n tags l) h in
    let here = and_parts (is_said tags b) (is_text_byte b l) both.0 in
    safe.IsSafeHtml.text tags b l refl here.0 here.1 (more tags l both.1)
byte-by true n tags b l e h more =
    let it = mark-then tags l (λ rest. is_safe_below n rest.0 rest.1 ≡ true) (tested-then (behind_mark tags l) (λ rest. is_safe_below n rest.0 rest.1) h) in
    subst (λ (x : ℕ). IsSafeHtml tags (x ∷ l)) (sym ((Decides-eqb b 60).0 e)) (it.safely (more it.rest.0 it.rest.1 it.holds))

tested-safe : (n : ℕ) (tags : List Element) (l : List ℕ) → is_safe_below n tags l ≡ true → IsSafeHtml tags l
tested-safe zero tags l h = absurd (false≢true h)
tested-safe (suc n) [] [] h = safe.IsSafeHtml.end
tested-safe (suc n) (e ∷ tags) [] h = absurd (false≢true h)
tested-safe (suc n) tags (b ∷ l) h = byte-by (b == 60) n tags b l refl h (λ o r k. tested-safe n o r k)

-- ---- and what is safe passes

-- the first byte of a name is no slash
name-no-close : (e : Element) (r : List ℕ) → behind (codes "/") (name_of e ++ r) ≡ None
name-no-close Anchor r = refl
name-no-close BlockQuote r = refl
name-no-close Break r = refl
name-no-close Checkbox r = refl
name-no-close Code r = refl
name-no-close DataCell r = refl
name-no-close Deleted r = refl
name-no-close Emphasis r = refl
name-no-close HeaderCell r = refl
name-no-close Heading1 r = refl
name-no-close Heading2 r = refl
name-no-close Heading3 r = refl
name-no-close Heading4 r = refl
name-no-close Heading5 r = refl
name-no-close Heading6 r = refl
name-no-close Image r = refl
name-no-close ListItem r = refl
name-no-close OrderedList r = refl
name-no-close Paragraph r = refl
name-no-close Preformatted r = refl
name-no-close Section r = refl
name-no-close Superscript r = refl
name-no-close Strong r = refl
name-no-close Table r = refl
name-no-close TableBody r = refl
name-no-close TableHead r = refl
name-no-close TableRow r = refl
name-no-close ThematicBreak r = refl
name-no-close UnorderedList r = refl

mark-open : (v : Bool) (e : Element) (tags : List Element) (attributes h : List ℕ) → is_void e ≡ v → stands_in e tags ≡ true → AreAttributes (attributes_of e) attributes
    → behind_mark tags (name_of e ++ (attributes ++ (cond v (codes " />") (codes ">") ++ h))) ≡ Some (cond v tags (e ∷ tags), h)
mark-open v e tags attributes h is st a =
    let tail : List ℕ = attributes ++ (tag_end e ++ h) in
    let l : List ℕ = name_of e ++ tail in
    let stops : prefix_len is_ascii_alphanumeric tail ≡ 0 = name-stops (attributes_of e) attributes (is_void e) h a in
    let read : behind_mark tags l ≡ Some (cond (is_void e) tags (e ∷ tags), h) =
    ap (λ o. elim o as (λ _. Option Rest) [
      | Some rest ↦ behind_close tags rest
      | None ↦ behind_element tags (named elements (take_while is_ascii_alphanumeric l)) (drop (prefix_len is_ascii_alphanumeric l) l)
    ]) (name-no-close e tail)
    ∙ ap (λ x. behind_element tags (named elements x) (drop (prefix_len is_ascii_alphanumeric l) l)) (take-front is_ascii_alphanumeric (name_of e) tail (name-letters e) stops)
    ∙ ap (λ x. behind_element tags x (drop (prefix_len is_ascii_alphanumeric l) l)) (named-read e)
    ∙ ap (λ c. cond c (option_map (λ (rest : List ℕ). (cond (is_void e) tags (e ∷ tags), rest)) (behind_name e (drop (prefix_len is_ascii_alphanumeric l) l))) None) st
    ∙ ap (λ x. option_map (λ (rest : List ℕ). (cond (is_void e) tags (e ∷ tags), rest)) (behind_name e x)) (drop-front is_ascii_alphanumeric (name_of e) tail (name-letters e) stops)
    ∙ ap (option_map (λ (rest : List ℕ). (cond (is_void e) tags (e ∷ tags), rest))) (name-read e attributes h a) in
    subst (λ x. behind_mark tags (name_of e ++ (attributes ++ (cond x (codes " />") (codes ">") ++ h))) ≡ Some (cond x tags (e ∷ tags), h)) is read

mark-close : (e : Element) (tags : List Element) (h : List ℕ) → behind_mark (e ∷ tags) (47 ∷ (name_of e ++ (62 ∷ h))) ≡ Some (tags, h)
mark-close e tags h = ap (λ o. option_map (λ (rest : List ℕ). (tags, rest)) (option_and_then (behind (codes ">")) o)) (behind-front (name_of e) (62 ∷ h))

mark-passes : (n : ℕ) (tags o : List Element) (l h : List ℕ) → behind_mark tags l ≡ Some (o, h) → is_safe_below n o h ≡ true → is_safe_below (suc n) tags (60 ∷ l) ≡ true
mark-passes n tags o l h e k = ap (λ x. elim x as (λ _. Bool) [ None ↦ false | Some rest ↦ is_safe_below n rest.0 rest.1 ]) e ∙ k

text-passes : (n : ℕ) (tags : List Element) (b : ℕ) (h : List ℕ) → is_said tags b ≡ true → is_text_byte b h ≡ true → is_safe_below n tags h ≡ true → is_safe_below (suc n) tags (b ∷ h) ≡ true
text-passes n tags b h s e k =
    let other : (b == 60) ≡ false = other-by (b == 60) (is_text_byte b h) (is_text_byte 60 h) (λ is. ap (λ x. is_text_byte x h) ((Decides-eqb b 60).0 is)) refl e in
    ap (λ c. elim c as (λ _. Bool) [
      | false ↦ (is_said tags b && is_text_byte b h) && is_safe_below n tags h
      | true ↦ elim (behind_mark tags h) as (λ _. Bool) [ None ↦ false | Some rest ↦ is_safe_below n rest.0 rest.1 ]
    ]) other ∙ and_from (is_said tags b && is_text_byte b h) (is_safe_below n tags h) (and_from (is_said tags b) (is_text_byte b h) s e) k

safe-tested : (n : ℕ) (tags : List Element) (l : List ℕ) → IsSafeHtml tags l → length l < n → is_safe_below n tags l ≡ true
safe-tested zero tags l s k = absurd (omega (arith, k))
safe-tested (suc n) tags l safe.IsSafeHtml.end k = refl
safe-tested (suc n) tags l (safe.IsSafeHtml.text o b h e i t s) k =
    ap (is_safe_below (suc n) tags) e ∙ text-passes n tags b h i t (safe-tested n tags h s (omega (arith, ap (λ (x : List ℕ). length x) e, k)))
safe-tested (suc n) tags l (safe.IsSafeHtml.opened o e attributes h is v st a s) k =
    let same = is ∙ tag-bytes e attributes (codes ">") h in
    let lengths = longer (name_of e) (attributes ++ (codes ">" ++ h)) in
    let more = longer attributes (codes ">" ++ h) in
    ap (is_safe_below (suc n) tags) same
    ∙ mark-passes n tags (e ∷ tags) (name_of e ++ (attributes ++ (codes ">" ++ h))) h (mark-open false e tags attributes h v st a)
    (safe-tested n (e ∷ tags) h s (omega (arith, ap (λ (x : List ℕ). length x) same, lengths, more, longer (codes ">") h, k)))
safe-tested (suc n) tags l (safe.IsSafeHtml.void o e attributes h is v st a s) k =
    let same = is ∙ tag-bytes e attributes (codes " />") h in
    let lengths = longer (name_of e) (attributes ++ (codes " />" ++ h)) in
    let more = longer attributes (codes " />" ++ h) in
    ap (is_safe_below (suc n) tags) same
    ∙ mark-passes n tags tags (name_of e ++ (attributes ++ (codes " />" ++ h))) h (mark-open true e tags attributes h v st a)
    (safe-tested n tags h s (omega (arith, ap (λ (x : List ℕ). length x) same, lengths, more, longer (codes " />") h, k)))
safe-tested (suc n) tags l (safe.IsSafeHtml.closed rest e h is s) k =
    let same = is ∙ sym (close-bytes e h) in
    ap (is_safe_below (suc n) (e ∷ rest)) same
    ∙ mark-passes n (e ∷ rest) rest (47 ∷ (name_of e ++ (62 ∷ h))) h (mark-close e rest h)
    (safe-tested n rest h s (omega (arith, ap (λ (x : List ℕ). length x) same, longer (name_of e) (62 ∷ h), longer (codes ">") h, k)))

pub safe-html-tested : SafeHtmlIsTested
safe-html-tested tags h = (λ k. tested-safe (suc (length h)) tags h k, λ s. safe-tested (suc (length h)) tags h s (omega arith))

-- ---- a step of the test

-- any limit that is high enough serves
enough : (n m : ℕ) (tags : List Element) (l : List ℕ) → length l < n → length l < m → is_safe_below n tags l ≡ is_safe_below m tags l
enough n m tags l h k =
    same_from_decides (is_safe_below n tags l) (is_safe_below m tags l) (λ e. tested-safe n tags l e, λ s. safe-tested n tags l s h)
    (λ e. tested-safe m tags l e, λ s. safe-tested m tags l s k)

pub mark-shorter : (tags : List Element) (l : List ℕ) (o : List Element) (r : List ℕ) → behind_mark tags l ≡ Some (o, r) → length r ≤ length l
mark-shorter tags l o r e =
    let it = mark-then tags l (λ rest. length rest.1 ≡ length r) (subst (λ x. Then x (λ rest. length rest.1 ≡ length r)) (sym e) refl) in
    omega (arith, it.holds, it.shorter)

abbrev byte_step : (c : Bool) (tags : List Element) (b : ℕ) (l : List ℕ) → Bool
byte_step c tags b l =
    elim c as (λ _. Bool) [
      | false ↦ (is_said tags b && is_text_byte b l) && is_safe_behind tags l
      | true ↦ elim (behind_mark tags l) as (λ _. Bool) [ None ↦ false | Some rest ↦ is_safe_below (suc (length l)) rest.0 rest.1 ]
    ]

pub text-step : (tags : List Element) (b : ℕ) (l : List ℕ) → (b == 60) ≡ false → is_safe_behind tags (b ∷ l) ≡ ((is_said tags b && is_text_byte b l) && is_safe_behind tags l)
text-step tags b l e = ap (λ c. byte_step c tags b l) e

pub mark-step : (tags : List Element) (b : ℕ) (l : List ℕ) (o : List Element) (r : List ℕ) → (b == 60) ≡ true → behind_mark tags l ≡ Some (o, r)
    → is_safe_behind tags (b ∷ l) ≡ is_safe_behind o r
mark-step tags b l o r e k =
    let shorter = mark-shorter tags l o r k in
    ap (λ c. byte_step c tags b l) e ∙ ap (λ x. elim x as (λ _. Bool) [ None ↦ false | Some rest ↦ is_safe_below (suc (length l)) rest.0 rest.1 ]) k
    ∙ enough (suc (length l)) (suc (length r)) o r (omega (arith, shorter)) (omega arith)
