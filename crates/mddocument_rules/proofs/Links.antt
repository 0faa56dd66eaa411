-- Links, images and emphasis stand in texts, and so does all that is in them: a label and a tail stand in a link, and the text of a label is a text.
use Rattle.mddocument_rules.proofs.Prelude.{◌≡◌, ℕ, true, false, List, [], ◌∷◌, ◌++◌, None, refl, sym, subst, cond_both, or_left, or_right, AllByRecursion, ◌||◌, Event, Exit, Name, Point, IsBalanced, empty, IsBalanced-append, is_wanted, Run, unlinked_event, list_names, all_stand, is_in, may_stand, text_names, IsPiece, LinksStand, StandApart, StandInTexts}
use Rattle.markdown_base.specs.declared.event.Name.TheVariants.{Data, Image, Label, LabelEnd, LabelImage, LabelText, Link}
use Rattle.mdinline_emphasis.specs.LawStatements.{AreFresh}
use Rattle.mdinline_emphasis.specs.Runs.{runs_in}
use Rattle.mdinline_links.proofs.Leaves.{around-balanced, runs-fresh}
use Rattle.mdinline_links.specs.Kept.{IsFresh}
use Rattle.mdinline_links.specs.Linked.{Part, around as spanned, as_data, emphasised_parts, events, is_bracket, is_named, is_run, is_tail, label_text, last_place, linked_parts, made, part_of, run, runs_of_parts, spanning, text_before, text_behind}
use Rattle.mddocument_laws.proofs.LinkWalk.{AreParts, IsPart, IsWalk, before-is, behind-is, parts-are, runs-of}
use Rattle.mddocument_rules.proofs.Emphasised.{May, emphasis-stands}
use Rattle.mddocument_rules.proofs.Places.{free-inside, free-may, is_free, texts-apart}
use Rattle.mddocument_rules.proofs.Walk.{Walks, all-walks, behind-balanced, walks-all, walks-both}

-- ---- lists and spans
stand-both : (around : List Name) (xs ys : List Event) → IsBalanced xs → all_stand may_stand around xs ≡ true → all_stand may_stand around ys ≡ true → all_stand may_stand around (xs ++ ys) ≡ true
stand-both around xs ys b h k =
    walks-all may_stand around (xs ++ ys) (walks-both May around xs ys (all-walks may_stand around xs h) (subst (λ (a : List Name). Walks May a ys) (sym (behind-balanced b around)) (all-walks may_stand around ys k)))

stand-span : (around : List Name) (n : Name) (start end : Point) (es : List Event) → IsBalanced es → may_stand around n ≡ true → all_stand may_stand (n ∷ around) es ≡ true
    → all_stand may_stand around (spanning n start end es) ≡ true
stand-span around n start end es b m h =
    let exit : Event = unlinked_event Exit n end in
    let last : Walks May (n ∷ around) (exit ∷ []) = (tt, tt) in
    let inside : Walks May (n ∷ around) (es ++ exit ∷ []) = walks-both May (n ∷ around) es (exit ∷ []) (all-walks may_stand (n ∷ around) es h) (subst (λ (a : List Name). Walks May a (exit ∷ [])) (sym (behind-balanced b (n ∷ around))) last) in
    walks-all may_stand around (spanning n start end es) (m, inside)

texts-none : StandInTexts []
texts-none = (empty, λ around is. refl)

pub texts-both : (xs ys : List Event) → StandInTexts xs → StandInTexts ys → StandInTexts (xs ++ ys)
texts-both xs ys h k = (IsBalanced-append xs ys h.0 k.0, λ around is. stand-both around xs ys h.0 (h.1 around is) (k.1 around is))

apart-none : StandApart []
apart-none = (empty, λ around ok. refl)

pub apart-both : (xs ys : List Event) → StandApart xs → StandApart ys → StandApart (xs ++ ys)
apart-both xs ys h k = (IsBalanced-append xs ys h.0 k.0, λ around ok. stand-both around xs ys h.0 (h.1 around ok) (k.1 around ok))

pub apart-in-texts : (es : List Event) → StandApart es → StandInTexts es
apart-in-texts es h = (h.0, λ around is. h.1 around (texts-apart around is))

apart-span : (n : Name) (start end : Point) (es : List Event) → is_free n ≡ true → IsBalanced es → ((around : List Name) → all_stand may_stand (n ∷ around) es ≡ true) → StandApart (spanning n start end es)
apart-span n start end es f b h = (around-balanced n start end es b, λ around ok. stand-span around n start end es b (free-may around n f ok) (h around))

data-apart : (es : List Event) → StandApart (as_data es)
data-apart [] = apart-none
data-apart (e ∷ es) = apart-span Data e.point (last_place e.point es) [] refl empty (λ around. refl)

spanned-apart : (n : Name) (es : List Event) → is_free n ≡ true → StandApart es → StandApart (spanned n es)
spanned-apart n [] f h = h
spanned-apart n (e ∷ es) f h = apart-span n e.point (last_place e.point es) (e ∷ es) f h.0 (λ around. h.1 (n ∷ around) (free-inside n f))

-- a span that stands in texts, around what stands in each span but a list
spanned-in-texts : (n : Name) (es : List Event) → ((around : List Name) → is_in text_names around ≡ true → may_stand around n ≡ true) → is_wanted list_names n ≡ false → StandApart es → StandInTexts (spanned n es)
spanned-in-texts n [] m other h = apart-in-texts [] h
spanned-in-texts n (e ∷ es) m other h =
    let start = e.point in
    let end = last_place e.point es in
    (around-balanced n start end (e ∷ es) h.0, λ around is. stand-span around n start end (e ∷ es) h.0 (m around is) (h.1 (n ∷ around) other))

-- ---- parts
abbrev ArePieces : List Part → Type 0
ArePieces ps = AreParts StandInTexts IsFresh ps

are-fresh : (texts : ℕ → List Event) (rs : List Run) → ((k : ℕ) → StandInTexts (texts k)) → AllByRecursion IsFresh rs → AreFresh texts rs
are-fresh texts [] t h = tt
are-fresh texts (r ∷ rs) t h = (h.0.0, h.0.1, (t r.index).0, are-fresh texts rs t h.1)

parts-stand : (ps : List Part) → ArePieces ps → StandInTexts (emphasised_parts ps)
parts-stand ps h =
    let texts : (k : ℕ) → StandInTexts (text_before [] ps k) = λ k. before-is StandInTexts IsFresh texts-none texts-both [] ps k texts-none h in
    emphasis-stands (text_before [] ps) (runs_of_parts ps) (text_behind [] ps) (are-fresh (text_before [] ps) (runs_of_parts ps) texts (runs-of StandInTexts IsFresh ps h)) texts (behind-is StandInTexts IsFresh texts-none texts-both [] ps texts-none h)

-- ---- links and images
label-text-apart : (opener close : List Event) (ps : List Part) → ArePieces ps → StandApart (label_text opener close ps)
label-text-apart [] close ps h = apart-none
label-text-apart (e ∷ es) [] ps h = apart-none
label-text-apart (e ∷ es) (f ∷ fs) [] h = apart-none
label-text-apart (e ∷ es) (f ∷ fs) (p ∷ ps) h =
    let text = parts-stand (p ∷ ps) h in
    apart-span LabelText (last_place e.point es) (last_place (last_place e.point es) (emphasised_parts (p ∷ ps))) (emphasised_parts (p ∷ ps)) refl text.0 (λ around. text.1 (LabelText ∷ around) refl)

is-made : (opener : List Event) (ps : List Part) (close tail : List Event) → StandApart opener → ArePieces ps → StandApart close → StandApart tail → StandInTexts (made opener ps close tail)
is-made opener ps close tail o t c l =
    let text = label_text opener close ps in
    let inside = opener ++ (text ++ close) in
    let label = spanned-apart Label inside refl (apart-both opener (text ++ close) o (apart-both text close (label-text-apart opener close ps t) c)) in
    let whole = spanned Label inside ++ tail in
    let all : StandApart whole = apart-both (spanned Label inside) tail label l in
    cond_both (is_named LabelImage opener) Image Link (λ n. StandInTexts (spanned n whole)) (λ e. spanned-in-texts Image whole (λ around is. is) refl all) (λ e. spanned-in-texts Link whole (λ around is. is) refl all)

-- ---- the walk over spans
data-part : (es : List Event) → StandInTexts (as_data es)
data-part es = apart-in-texts (as_data es) (data-apart es)

is-part : (span : List Event) (rs : List Run) → StandInTexts span → AllByRecursion IsFresh rs → IsPart StandInTexts IsFresh (part_of span rs).0 × AllByRecursion IsFresh (part_of span rs).1
is-part span [] b h = (b, tt)
is-part span (r ∷ rs) b h = cond_both (is_run span) (run r, rs) (events span, r ∷ rs) (λ (p : Part × List Run). IsPart StandInTexts IsFresh p.0 × AllByRecursion IsFresh p.1) (λ e. h) (λ e. (b, h))

bracket-apart : (span : List Event) → IsPiece span → is_bracket span ≡ true → StandApart span
bracket-apart span p e = p.apart (or_left (is_bracket span) (is_named LabelEnd span || is_tail span) e)

end-apart : (span : List Event) → IsPiece span → is_named LabelEnd span ≡ true → StandApart span
end-apart span p e = p.apart (or_right (is_bracket span) (is_named LabelEnd span || is_tail span) (or_left (is_named LabelEnd span) (is_tail span) e))

tail-apart : (span : List Event) → IsPiece span → is_tail span ≡ true → StandApart span
tail-apart span p e = p.apart (or_right (is_bracket span) (is_named LabelEnd span || is_tail span) (or_right (is_named LabelEnd span) (is_tail span) e))

walk : IsWalk StandInTexts StandApart StandApart StandApart IsPiece IsFresh (λ spans rs. AllByRecursion IsFresh rs)
walk = record {
  data_of_it = data-part;
  no_tail = apart-none;
  alone = λ close tail c l. apart-in-texts (close ++ tail) (apart-both close tail c l);
  is_made = is-made;
  opens = bracket-apart;
  closes = end-apart;
  follows = tail-apart;
  is_part = λ span spans rs p o h. is-part span rs p.in_texts h;
  goes_on = λ span spans rs h. h;
}

pub links-stand : LinksStand
links-stand one bytes es pieces = parts-stand (linked_parts (runs_in one bytes es) es) (parts-are walk (runs_in one bytes es) es pieces (runs-fresh one bytes 0 0 None es))
