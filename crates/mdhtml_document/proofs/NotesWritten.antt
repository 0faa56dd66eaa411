-- What is written of calls and of links back, in more than one step.
use Rattle.std.proofs.Common.{◌≡◌, ℕ, suc, ◌+◌, ◌-◌, ◌<◌, arith, List, [], ◌∷◌, ◌++◌, ap, sym, refl, ◌∙◌, append_assoc}
use Rattle.std.proofs.lemmas.Bool.{eqb-true}
use Rattle.std.specs.Fmt.{decimal}
use Rattle.std.specs.Prelude.{◌==◌, Bool, true, false, cond, codes}
use Rattle.mdhtml_document.specs.declared.notes.Called.{Called}
use Rattle.mdhtml_document.specs.Notes.{back_link, back_links_from, call_id, call_pieces, classed, note_id, repeated}
use Rattle.mdhtml_document.specs.Written.{after}
use Rattle.mdhtml_document.proofs.NoteIds.{call-address, decimal-escaped, note-address}
use Rattle.mdhtml_document.proofs.Written.{after-append}
use Rattle.mdhtml_markup.specs.declared.elements.Element.TheVariants.{Anchor, Superscript}
use Rattle.mdhtml_markup.specs.Addresses.{written_address}
use Rattle.mdhtml_markup.specs.Pieces.{Close, Open, Text}

-- a call, whose address is written so, and its number so
regroup-call : (old a b c : List ℕ)
    → ((((((old ++ codes "<sup class=\"footnote-ref\"><a href=\"#") ++ a) ++ codes "\" id=\"") ++ b) ++ codes "\" data-footnote-ref=\"\">") ++ c) ++ codes "</a></sup>"
    ≡ ((((old ++ codes "<sup class=\"footnote-ref\">") ++ (codes "<a href=\"#" ++ (a ++ (codes "\" id=\"" ++ (b ++ codes "\" data-footnote-ref=\"\">"))))) ++ c) ++ codes "</a>") ++ codes "</sup>"
regroup-call old a b c = simp append_assoc

two : (a q r g : List ℕ) → ((a ++ q) ++ r) ++ g ≡ a ++ (q ++ (r ++ g))
two a q r g = append_assoc (a ++ q) r g ∙ append_assoc a q (r ++ g)

-- its tag
call-tag : (a b : List ℕ) → codes "<a href=\"#" ++ (a ++ (codes "\" id=\"" ++ (b ++ codes "\" data-footnote-ref=\"\">")))
    ≡ codes "<a" ++ (((codes " href" ++ (codes "=\"" ++ ((codes "#" ++ a) ++ codes "\""))) ++ ((codes " id" ++ (codes "=\"" ++ (b ++ codes "\""))) ++ ((codes " data-footnote-ref" ++ (codes "=\"" ++ ([] ++ codes "\""))) ++ []))) ++ codes ">")
call-tag a b =
    let z = (codes " data-footnote-ref" ++ (codes "=\"" ++ ([] ++ codes "\""))) ++ [] in
    let r = (codes " id" ++ (codes "=\"" ++ (b ++ codes "\""))) ++ z in
    sym
    (ap (λ (x : List ℕ). codes "<a href=\"#" ++ x) (two a (codes "\"") r (codes ">"))
    ∙ ap (λ (x : List ℕ). codes "<a href=\"#" ++ (a ++ (codes "\" id=\"" ++ x))) (two b (codes "\"") z (codes ">")))

abbrev tag_of : (href id : List ℕ) → List ℕ
tag_of href id =
    codes "<a" ++ (((codes " href" ++ (codes "=\"" ++ (href ++ codes "\""))) ++ ((codes " id" ++ (codes "=\"" ++ (id ++ codes "\""))) ++ ((codes " data-footnote-ref" ++ (codes "=\"" ++ ([] ++ codes "\""))) ++ []))) ++ codes ">")

abbrev around : (old tag number : List ℕ) → List ℕ
around old tag number = ((((old ++ codes "<sup class=\"footnote-ref\">") ++ tag) ++ number) ++ codes "</a>") ++ codes "</sup>"

pub call-written : (old : List ℕ) (c : Called)
    → ((((((old ++ codes "<sup class=\"footnote-ref\"><a href=\"#") ++ note_id c.number) ++ codes "\" id=\"") ++ call_id c.number c.repeat) ++ codes "\" data-footnote-ref=\"\">") ++ decimal c.number)
    ++ codes "</a></sup>"
    ≡ after old (call_pieces c)
call-written old c =
    let n = note_id c.number in
    let i = call_id c.number c.repeat in
    regroup-call old n i (decimal c.number) ∙ ap (λ (x : List ℕ). around old x (decimal c.number)) (call-tag n i)
    ∙ ap (λ (x : List ℕ). around old (tag_of x i) (decimal c.number)) (sym (note-address c.number))
    ∙ ap (λ (x : List ℕ). around old (tag_of (written_address (codes "#" ++ n)) i) x) (sym (decimal-escaped c.number))

no-one : (r : ℕ) (b : Bool) → (r == 1) ≡ b → (r ≡ 1 → ⊥) → (r == 1) ≡ false
no-one r true e h = absurd (h (eqb-true r 1 e))
no-one r false e h = e

-- how many calls there are up to one
pub repeat-written : (old : List ℕ) (r : ℕ) → (r ≡ 1 → ⊥) → ((old ++ codes "<sup class=\"footnote-ref\">") ++ decimal r) ++ codes "</sup>" ≡ after old (repeated r)
repeat-written old r h =
    ap (λ (x : List ℕ). ((old ++ codes "<sup class=\"footnote-ref\">") ++ x) ++ codes "</sup>") (sym (decimal-escaped r))
    ∙ ap (λ b. after old (cond b [] (Open Superscript (classed (codes "footnote-ref")) ∷ Text (decimal r) ∷ Close Superscript ∷ []))) (sym (no-one r (r == 1) refl h))

-- a link back
back-tag : (old b : List ℕ)
    → ((old ++ codes "<a href=\"#") ++ b) ++ codes "\" class=\"footnote-backref\" data-footnote-backref=\"\" aria-label=\"Back to content\">"
    ≡ old ++ (codes "<a" ++ (((codes " href" ++ (codes "=\"" ++ ((codes "#" ++ b) ++ codes "\""))) ++ ((codes " class" ++ (codes "=\"" ++ (codes "footnote-backref" ++ codes "\""))) ++ ((codes " data-footnote-backref" ++ (codes "=\"" ++ ([] ++ codes "\""))) ++ ((codes " aria-label" ++ (codes "=\"" ++ (codes "Back to content" ++ codes "\""))) ++ [])))) ++ codes ">"))
back-tag old b =
    let p = codes "<a href=\"#" in
    let tail = codes "\" class=\"footnote-backref\" data-footnote-backref=\"\" aria-label=\"Back to content\">" in
    let r = (codes " class" ++ (codes "=\"" ++ (codes "footnote-backref" ++ codes "\""))) ++ ((codes " data-footnote-backref" ++ (codes "=\"" ++ ([] ++ codes "\""))) ++ ((codes " aria-label" ++ (codes "=\"" ++ (codes "Back to content" ++ codes "\""))) ++ [])) in
    append_assoc (old ++ p) b tail ∙ append_assoc old p (b ++ tail) ∙ ap (λ (x : List ℕ). old ++ (p ++ x)) (sym (two b (codes "\"") r (codes ">")))

abbrev back_tag_of : (href : List ℕ) → List ℕ
back_tag_of href =
    codes "<a" ++ (((codes " href" ++ (codes "=\"" ++ (href ++ codes "\""))) ++ ((codes " class" ++ (codes "=\"" ++ (codes "footnote-backref" ++ codes "\""))) ++ ((codes " data-footnote-backref" ++ (codes "=\"" ++ ([] ++ codes "\""))) ++ ((codes " aria-label" ++ (codes "=\"" ++ (codes "Back to content" ++ codes "\""))) ++ [])))) ++ codes ">")

pub back-written : (old : List ℕ) (n r : ℕ)
    → after (((old ++ codes "<a href=\"#") ++ call_id n r) ++ (codes "\" class=\"footnote-backref\" data-footnote-backref=\"\" aria-label=\"Back to content\">" ++ (226 ∷ 134 ∷ 169 ∷ []))) (repeated r) ++ codes "</a>"
    ≡ after old (back_link n r)
back-written old n r =
    let i = call_id n r in
    let arrow = 226 ∷ 134 ∷ 169 ∷ [] in
    let tail = codes "\" class=\"footnote-backref\" data-footnote-backref=\"\" aria-label=\"Back to content\">" in
    ap (λ (x : List ℕ). after x (repeated r) ++ codes "</a>")
    (sym (append_assoc ((old ++ codes "<a href=\"#") ++ i) tail arrow) ∙ ap (λ (x : List ℕ). x ++ arrow) (back-tag old i ∙ ap (λ (x : List ℕ). old ++ back_tag_of x) (sym (call-address n r))))
    ∙ sym (after-append ((old ++ back_tag_of (written_address (codes "#" ++ i))) ++ arrow) (repeated r) (Close Anchor ∷ []))

-- a space, by whether a link is the first one
pub space-written : (old : List ℕ) (r : ℕ) → (r ≡ 1 → ⊥) → old ++ (32 ∷ []) ≡ after old (cond (r == 1) [] (Text (codes " ") ∷ []))
space-written old r h = ap (λ b. after old (cond b [] (Text (codes " ") ∷ []))) (sym (no-one r (r == 1) refl h))

-- one more link back
links-by : (out : List ℕ) (number first m : ℕ) (x y : List ℕ) → x ≡ after out (cond (first == 1) [] (Text (codes " ") ∷ [])) → y ≡ after x (back_link number first)
    → after y (back_links_from number (suc first) m) ≡ after out (back_links_from number first (suc m))
links-by out number first m x y h k =
    let space = cond (first == 1) [] (Text (codes " ") ∷ []) in
    let rest = back_links_from number (suc first) m in
    ap (λ (z : List ℕ). after z rest) (k ∙ ap (λ (z : List ℕ). after z (back_link number first)) h)
    ∙ sym (after-append out space (back_link number first ++ rest) ∙ after-append (after out space) (back_link number first) rest)

pub links-step : (out : List ℕ) (number next many : ℕ) (x y : List ℕ) → next < many → x ≡ after out (cond (next + 1 == 1) [] (Text (codes " ") ∷ [])) → y ≡ after x (back_link number (next + 1))
    → after y (back_links_from number (suc (next + 1)) (many - (next + 1))) ≡ after out (back_links_from number (suc next) (many - next))
links-step out number next many x y less h k =
    let one : next + 1 ≡ suc next = omega arith in
    let m = many - (next + 1) in
    let left : suc m ≡ many - next = omega (arith, less) in
    links-by out number (next + 1) m x y h k ∙ ap (λ n. after out (back_links_from number n (suc m))) one ∙ ap (λ n. after out (back_links_from number (suc next) n)) left
