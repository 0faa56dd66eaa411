-- Emphasis stands in texts. Its list is balanced, so each span that closings end is the last one that is open: behind each run only spans of emphasis are
-- open, each with its text, and what comes next stands in a text.
use Rattle.mddocument_rules.proofs.Prelude.{◌≡◌, ◌∙◌, ℕ, zero, suc, true, List, [], ◌∷◌, ◌++◌, Some, Option, append_assoc, refl, sym, ap, subst, Event, Name, Point, names_after_all-append, names_after_balanced, names_after_all, Run, closings, data_of, emphasised, events_of_runs, inner_name, later, markers_of_all, openings, outer_name, paired, is_in, may_stand, text_names, EmphasisStands, StandInTexts}
use Rattle.markdown_base.specs.declared.event.Name.TheVariants as name
use Rattle.mdinline_emphasis.proofs.Balance.{leaves-balanced}
use Rattle.mdinline_emphasis.specs.declared.pairs.Style.{Style}
use Rattle.mdinline_emphasis.specs.declared.pairs.Style.TheVariants.{Emphasis as OfEmphasis, Strong as OfStrong, Struck, StruckTwice}
use Rattle.mdinline_emphasis.specs.Emphasis.{Run, closings, data_of, emphasised, events_of_runs, inner_name, later, markers_of_all, openings, outer_name, paired}
use Rattle.mddocument_rules.specs.Standing.{is_in, may_stand, text_names}
use Rattle.mddocument_rules.specs.TextLaws.{EmphasisStands, StandInTexts}
use Rattle.mddocument_rules.proofs.Places.{free-may, texts-apart}
use Rattle.mddocument_rules.proofs.Walk.{MayBe, Walks, all-walks, behind-balanced, walks-all, walks-both}

abbrev pub May : List Name → Event → Type 0
May = MayBe may_stand

-- the spans that are open where emphasis of these styles is, the innermost first
abbrev open_names : List Style → List Name
open_names [] = []
open_names (s ∷ st) = inner_name s ∷ outer_name s ∷ open_names st

module _ (around : List Name) (is : is_in text_names around ≡ true) where
  abbrev there : List Style → List Name
  there st = open_names st ++ around

  in-text : (st : List Style) → is_in text_names (there st) ≡ true
  in-text [] = is
  in-text (OfEmphasis ∷ st) = refl
  in-text (OfStrong ∷ st) = refl
  in-text (Struck ∷ st) = refl
  in-text (StruckTwice ∷ st) = refl

  -- what comes next closes all that is open; and it stands there
  abbrev Closes : List Style → List Event → Type 0
  Closes st es = names_after_all (Some (open_names st)) es ≡ Some []

  abbrev Goes : List Style → List Event → Type 0
  Goes st es = Walks May (there st) es

  abbrev Next : List Event → Type 0
  Next ys = (st : List Style) → Closes st ys → Goes st ys

  closing-walks : (p : Point) (ss st : List Style) (ys : List Event) → Next ys → Closes st (closings p ss ++ ys) → Goes st (closings p ss ++ ys)
  closing-walks p [] st ys k e = k st e
  closing-walks p (s ∷ ss) [] ys k e = absurd (cc)
  closing-walks p (OfEmphasis ∷ ss) (OfEmphasis ∷ st) ys k e = (tt, (refl, (tt, (tt, closing-walks (later 1 p) ss st ys k e))))
  closing-walks p (OfEmphasis ∷ ss) (OfStrong ∷ st) ys k e = absurd (cc)
  closing-walks p (OfEmphasis ∷ ss) (Struck ∷ st) ys k e = absurd (cc)
  closing-walks p (OfEmphasis ∷ ss) (StruckTwice ∷ st) ys k e = absurd (cc)
  closing-walks p (OfStrong ∷ ss) (OfEmphasis ∷ st) ys k e = absurd (cc)
  closing-walks p (OfStrong ∷ ss) (OfStrong ∷ st) ys k e = (tt, (refl, (tt, (tt, closing-walks (later 2 p) ss st ys k e))))
  closing-walks p (OfStrong ∷ ss) (Struck ∷ st) ys k e = absurd (cc)
  closing-walks p (OfStrong ∷ ss) (StruckTwice ∷ st) ys k e = absurd (cc)
  closing-walks p (Struck ∷ ss) (OfEmphasis ∷ st) ys k e = absurd (cc)
  closing-walks p (Struck ∷ ss) (OfStrong ∷ st) ys k e = absurd (cc)
  closing-walks p (Struck ∷ ss) (Struck ∷ st) ys k e = (tt, (refl, (tt, (tt, closing-walks (later 1 p) ss st ys k e))))
  closing-walks p (Struck ∷ ss) (StruckTwice ∷ st) ys k e = (tt, (refl, (tt, (tt, closing-walks (later 1 p) ss st ys k e))))
  closing-walks p (StruckTwice ∷ ss) (OfEmphasis ∷ st) ys k e = absurd (cc)
  closing-walks p (StruckTwice ∷ ss) (OfStrong ∷ st) ys k e = absurd (cc)
  closing-walks p (StruckTwice ∷ ss) (Struck ∷ st) ys k e = (tt, (refl, (tt, (tt, closing-walks (later 2 p) ss st ys k e))))
  closing-walks p (StruckTwice ∷ ss) (StruckTwice ∷ st) ys k e = (tt, (refl, (tt, (tt, closing-walks (later 2 p) ss st ys k e))))

  opening-walks : (p : Point) (ss st : List Style) (ys : List Event) → Next ys → Closes st (openings p ss ++ ys) → Goes st (openings p ss ++ ys)
  opening-walks p [] st ys k e = k st e
  opening-walks p (OfEmphasis ∷ ss) st ys k e = (in-text st, (refl, (tt, (refl, opening-walks (later 1 p) ss (OfEmphasis ∷ st) ys k e))))
  opening-walks p (OfStrong ∷ ss) st ys k e = (in-text st, (refl, (tt, (refl, opening-walks (later 2 p) ss (OfStrong ∷ st) ys k e))))
  opening-walks p (Struck ∷ ss) st ys k e = (in-text st, (refl, (tt, (refl, opening-walks (later 1 p) ss (Struck ∷ st) ys k e))))
  opening-walks p (StruckTwice ∷ ss) st ys k e = (in-text st, (refl, (tt, (refl, opening-walks (later 2 p) ss (StruckTwice ∷ st) ys k e))))

  data-walks : (p : Point) (n : ℕ) (st : List Style) (ys : List Event) → Next ys → Closes st (data_of p n ++ ys) → Goes st (data_of p n ++ ys)
  data-walks p zero st ys k e = k st e
  data-walks p (suc n) st ys k e = (free-may (there st) name.Data refl (texts-apart (there st) (in-text st)), (tt, k st e))

  text-walks : (es : List Event) → StandInTexts es → (st : List Style) (ys : List Event) → Next ys → Closes st (es ++ ys) → Goes st (es ++ ys)
  text-walks es t st ys k e =
      let left : Closes st ys = sym (names_after_all-append (Some (open_names st)) es ys ∙ ap (λ (o : Option (List Name)). names_after_all o ys) (names_after_balanced t.0 (open_names st))) ∙ e in
      walks-both May (there st) es ys (all-walks may_stand (there st) es (t.1 (there st) (in-text st))) (subst (λ (a : List Name). Walks May a ys) (sym (behind-balanced t.0 (there st))) (k st left))

  module _ (texts : ℕ → List Event) (stand : (k : ℕ) → StandInTexts (texts k)) (rest : List Event) (last : StandInTexts rest) where
    runs-walk : (rs : List Run) → Next (events_of_runs texts rs ++ rest)
    runs-walk [] st e = all-walks may_stand (there st) rest (last.1 (there st) (in-text st))
    runs-walk (r ∷ rs) st e =
        let p = later (markers_of_all r.closed) r.start in
        let text = texts r.index in
        let closed = closings r.start r.closed in
        let plain = data_of p r.left in
        let opened = openings (later r.left p) r.opened in
        let more = events_of_runs texts rs in
        let same : (((text ++ closed) ++ (plain ++ opened)) ++ more) ++ rest ≡ text ++ (closed ++ (plain ++ (opened ++ (more ++ rest)))) =
        append_assoc ((text ++ closed) ++ (plain ++ opened)) more rest ∙ append_assoc (text ++ closed) (plain ++ opened) (more ++ rest)
        ∙ append_assoc text closed ((plain ++ opened) ++ (more ++ rest)) ∙ ap (λ (l : List Event). text ++ (closed ++ l)) (append_assoc plain opened (more ++ rest)) in
        let opening : Next (opened ++ (more ++ rest)) = λ st. opening-walks (later r.left p) r.opened st (more ++ rest) (runs-walk rs) in
        let left : Next (plain ++ (opened ++ (more ++ rest))) = λ st. data-walks p r.left st (opened ++ (more ++ rest)) opening in
        let closing : Next (closed ++ (plain ++ (opened ++ (more ++ rest)))) = λ st. closing-walks r.start r.closed st (plain ++ (opened ++ (more ++ rest))) left in
        subst (Goes st) (sym same) (text-walks text (stand r.index) st (closed ++ (plain ++ (opened ++ (more ++ rest)))) closing (subst (Closes st) same e))

pub emphasis-stands : EmphasisStands
emphasis-stands texts rs rest fresh stand last =
    let balanced = leaves-balanced texts rs rest fresh last.0 in
    (balanced, λ around is. walks-all may_stand around (emphasised texts rs rest) (runs-walk around is texts stand rest last (paired rs) [] (names_after_balanced balanced [])))
