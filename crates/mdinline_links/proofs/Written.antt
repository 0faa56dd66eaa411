-- What the code writes of spans.
use Rattle.std.proofs.Common.{◌≡◌, ◌+◌, ◌-◌, ◌<◌, ◌≤◌, ◌∙◌, ℕ, suc, List, [], ◌∷◌, ◌++◌, Some, ap, append-nil, append_assoc, arith, drop, get_or, length, sym, take}
use Rattle.std.proofs.Math.Seq.{take-add, take-suc}
use Rattle.std.proofs.lemmas.List.{drop-drop}
use Rattle.std.specs.List.{between}
use Rattle.std.specs.Prelude.{slice_get}
use Rattle.std.proofs.lemmas.Option.{same_Some}
use Rattle.markdown_base.specs.declared.event.Event.{Event}
use Rattle.markdown_base.specs.declared.event.Point.{Point}
use Rattle.mdinline_links.specs.declared.pieces.Fate.TheVariants.{Same}
use Rattle.mdinline_links.specs.declared.pieces.Piece.{Piece}
use Rattle.mdinline_links.specs.Linked.{last_place}
use Rattle.mdinline_links.specs.Pieces.{in_fate, put, written_from}

-- events end where the last one stands
pub last-is : (p : Point) (es : List Event) (e : Event) → slice_get es (length es - 1) ≡ Some e → last_place p es ≡ e.point
last-is p [] e h = cc
last-is p (x ∷ []) e h = ap (λ (y : Event). y.point) (same_Some x e h)
last-is p (x ∷ y ∷ es) e h =
    let long : length (x ∷ y ∷ es) - 1 ≡ suc (length es) = omega arith in
    let less : length (y ∷ es) - 1 ≡ length es = omega arith in
    last-is x.point (y ∷ es) e (ap (slice_get (y ∷ es)) less ∙ sym (ap (slice_get (x ∷ y ∷ es)) long) ∙ h)

-- ---- events that stay are copied at once

between-join : (es : List Event) (a b c : ℕ) → a ≤ b → b ≤ c → between a b es ++ between b c es ≡ between a c es
between-join es a b c one two =
    let there : a + (b - a) ≡ b = omega (arith, one) in
    let whole : (b - a) + (c - b) ≡ c - a = omega (arith, one, two) in
    ap (λ xs. take (b - a) (drop a es) ++ take (c - b) xs) (sym (drop-drop (b - a) a es ∙ ap (λ n. drop n es) there))
    ∙ sym (take-add (b - a) (c - b) (drop a es))
    ∙ ap (λ n. take n (drop a es)) whole

-- a piece that stays goes on with events that are not written yet
pub stays-held : (es out : List Event) (from upto : ℕ) (p : Piece) → from ≤ upto → p.start ≤ p.end → p.start ≡ upto → p.fate ≡ Same
    → out ++ between from p.end es ≡ (out ++ between from upto es) ++ put es (out ++ between from upto es) p
stays-held es out from upto p order runs at same =
    let before = out ++ between from upto es in
    let here : put es before p ≡ between upto p.end es = ap (λ f. in_fate before f (between p.start p.end es)) same ∙ ap (λ n. between n p.end es) at in
    sym (append_assoc out (between from upto es) (put es before p) ∙ ap (λ xs. out ++ (between from upto es ++ xs)) here ∙ ap (λ xs. out ++ xs) (between-join es from upto p.end order (omega (arith, runs, at))))

-- what is written of two lists of pieces
pub written-append : (es before : List Event) (ps qs : List Piece) → written_from es before (ps ++ qs) ≡ written_from es before ps ++ written_from es (before ++ written_from es before ps) qs
written-append es before [] qs = ap (λ xs. written_from es xs qs) (sym (append-nil before))
written-append es before (p ∷ ps) qs =
    let here = put es before p in
    let more = written_from es (before ++ here) ps in
    ap (λ xs. here ++ xs) (written-append es (before ++ here) ps qs)
    ∙ sym (append_assoc here more (written_from es ((before ++ here) ++ more) qs))
    ∙ ap (λ xs. (here ++ more) ++ written_from es xs qs) (append_assoc before here more)

-- what is written of one piece more
pub written-more : (es : List Event) (ps : List Piece) (i : ℕ) (p : Piece) → i < length ps → p ≡ get_or ps i p
    → written_from es [] (take i ps) ++ put es (written_from es [] (take i ps)) p ≡ written_from es [] (take (i + 1) ps)
written-more es ps i p inside is =
    let same : i + 1 ≡ suc i = omega arith in
    let so_far = written_from es [] (take i ps) in
    ap (λ xs. so_far ++ xs) (sym (append-nil (put es so_far p)) ∙ ap (λ q. written_from es so_far (q ∷ [])) is)
    ∙ sym (written-append es [] (take i ps) (get_or ps i p ∷ []))
    ∙ ap (written_from es []) (sym (take-suc ps i p inside) ∙ ap (λ n. take n ps) (sym same))
