-- Labels that sections touch: which definitions of others are asked for, and that no more labels can lead elsewhere.
use Rattle.mddocument_editing.proofs.Prelude.{◌≡◌, ℕ, ◌+◌, Bool, true, false, cond, List, [], ◌∷◌, ◌++◌, Option, Some, None, refl, inl, inr, subst, sym, ap, ◌∙◌, append-nil, false≢true, is_some, map-append, AllByRecursion, Event, bytes_of_sections, AreReread, Reread, Section}
use Rattle.std.proofs.lemmas.Grind.{flat_map-append}
use Rattle.std.proofs.lemmas.Slice.Eq.{bytes_eq-Decides}
use Rattle.std.specs.Option.{option_or}
use Rattle.std.specs.Prelude.{bytes_eq, ◌↔◌}
use Rattle.mddocument_link_targets.specs.declared.targets.Parts.{Parts}
use Rattle.mddocument_editing.specs.Leading.{first_said}
use Rattle.mddocument_editing.specs.Said.{said_of, saids}
use Rattle.mddocument_editing.specs.Told.{AreNear, ArePushed, Goes, IsAgain, IsUntouched, all_saids, left_behind, own_saids, read_next, saids_again, saids_now, visits}
use Rattle.mddocument_editing.specs.declared.said.Said.{Said}
use Rattle.mddocument_editing.specs.declared.told.Saids.{Saids}
use Rattle.mddocument_editing.proofs.SaidFirst.{all-append, first-said, said-append}
use Rattle.mddocument_editing.proofs.Visits.{IsNext, next-is, read-now, was_not, was_read}

-- ---- one of two

or-none : (p : Option Parts) → option_or p None ≡ p
or-none None = refl
or-none (Some x) = refl

or-assoc : (p q r : Option Parts) → option_or (option_or p q) r ≡ option_or p (option_or q r)
or-assoc None q r = refl
or-assoc (Some x) q r = refl

-- if there is neither
pub neither-said : (p q : Option Parts) → option_or p q ≡ None → (p ≡ None) × (q ≡ None)
neither-said None q none = (refl, none)
neither-said (Some x) q none = absurd (cc none)

-- so of definitions behind others
pub neither-defined : (label : List ℕ) (xs ys : List Said) → said_of (xs ++ ys) label ≡ None → (said_of xs label ≡ None) × (said_of ys label ≡ None)
neither-defined label xs ys none = neither-said (said_of xs label) (said_of ys label) (sym (said-append label xs ys) ∙ none)

-- ---- a definition of a label that is not touched

skipped : (t : List ℕ → Option Parts) (label : List ℕ) (s : Said) (more : List Said) (b : Bool) → b ≡ bytes_eq label s.label → is_some (t s.label) ≡ false → is_some (t label) ≡ true
    → cond b (Some s.parts) (said_of more label) ≡ said_of more label
skipped t label s more true is untouched touched =
    absurd (false≢true (sym untouched ∙ ap (λ l. is_some (t l)) (sym ((bytes_eq-Decides label s.label).0 (sym is))) ∙ touched))
skipped t label s more false is untouched touched = refl

pub skip-one : (t : List ℕ → Option Parts) (label : List ℕ) (s : Said) (more : List Said) → is_some (t s.label) ≡ false → is_some (t label) ≡ true → said_of (s ∷ more) label ≡ said_of more label
skip-one t label s more untouched touched = skipped t label s more (bytes_eq label s.label) refl untouched touched

-- ---- definitions that sections have

module _ (read : List ℕ → List Event) where
  -- those that they have are those by how they are read, if none was read again
  pub own-are : (n : ℕ) (ss : List Section) (rs : List Reread) → rs ≡ [] → AreReread read n ss rs → own_saids ss ≡ all_saids read (bytes_of_sections ss)
  own-are n [] rs none are = refl
  own-are n (s ∷ ss) rs none (inl is) =
      ap (λ ds. ds ++ own_saids ss) (ap (λ l. l.saids) is.0.1 ∙ ap (saids s.part.bytes.items) (sym is.0.0))
      ∙ ap (λ ds. saids s.part.bytes.items (read s.part.bytes.items) ++ ds) (own-are (n + 1) ss rs none is.1)
  own-are n (s ∷ ss) rs none (inr is) = absurd (cc (none, is.1.0))

  -- of a label that is not touched they say now what they said
  now-own : (label : List ℕ) (s : Section) (ss : List Section) → said_of (saids s.part.bytes.items (read s.part.bytes.items)) label ≡ said_of s.linking.saids label
      → said_of (all_saids read (bytes_of_sections ss)) label ≡ said_of (own_saids ss) label → said_of (all_saids read (bytes_of_sections (s ∷ ss))) label ≡ said_of (own_saids (s ∷ ss)) label
  now-own label s ss here more =
      let now = saids s.part.bytes.items (read s.part.bytes.items) in
      let rest = all_saids read (bytes_of_sections ss) in
      said-append label now rest
      ∙ ap (λ p. option_or p (said_of rest label)) here
      ∙ ap (option_or (said_of s.linking.saids label)) more
      ∙ sym (said-append label s.linking.saids (own_saids ss))

  pub untouched-same : (label : List ℕ) (n : ℕ) (ss : List Section) (rs : List Reread) → AreReread read n ss rs → AllByRecursion (IsUntouched read label) ss
      → said_of (all_saids read (bytes_of_sections ss)) label ≡ said_of (own_saids ss) label
  untouched-same label n [] rs are all = refl
  untouched-same label n (s ∷ ss) rs (inl is) all =
      now-own label s ss (ap (λ ds. said_of ds label) (ap (saids s.part.bytes.items) is.0.0 ∙ sym (ap (λ l. l.saids) is.0.1))) (untouched-same label (n + 1) ss rs is.1 all.1)
  untouched-same label n (s ∷ ss) rs (inr is) all =
      let none = all.0 is.1.1.0 in
      now-own label s ss (none.1 ∙ sym none.0) (untouched-same label (n + 1) ss is.0 is.1.1.1 all.1)

  -- a section that has its events is not touched, and neither is one that was read again if it defined and defines no such label
  untouched-one : (label : List ℕ) (n : ℕ) (s : Section) (rs : List Reread) (before after : List Said) → IsNext read n s rs → after ≡ before ++ saids_again s (read_next n rs) → said_of after label ≡ None
      → (said_of before label ≡ None) × IsUntouched read label s
  untouched-one label n s rs before after (was_not found has knows) is none =
      let both = neither-defined label before (saids_again s (read_next n rs)) (ap (λ ds. said_of ds label) (sym is) ∙ none) in
      (both.0, (λ differs. absurd (differs has)))
  untouched-one label n s rs before after (was_read found differs) is none =
      let both = neither-defined label before (saids_again s (read_next n rs)) (ap (λ ds. said_of ds label) (sym is) ∙ none) in
      let again = neither-defined label s.linking.saids (saids s.part.bytes.items (read s.part.bytes.items)) (ap (λ f. said_of (saids_again s f) label) (sym found) ∙ both.1) in
      (both.0, (λ _. again))

  -- sections that are gone over
  pub untouched-all : (label : List ℕ) (n : ℕ) (ss : List Section) (rs : List Reread) (before after : List Said) → AreReread read n ss rs → Goes IsAgain (visits n ss rs) before after → said_of after label ≡ None
      → (said_of before label ≡ None) × AllByRecursion (IsUntouched read label) ss
  untouched-all label n [] rs before after are goes none = (ap (λ ds. said_of ds label) (sym goes) ∙ none, tt)
  untouched-all label n (s ∷ ss) rs before after are goes none =
      let next = next-is read n s ss rs are in
      let more = untouched-all label (n + 1) ss (left_behind (read_next n rs) rs) goes.0 after next.1 goes.1.1 none in
      let here = untouched-one label n s rs before goes.0 next.0 goes.1.0 more.0 in
      (here.0, (here.1, more.1))

-- ---- definitions that are appended

module _ (t : List ℕ → Option Parts) (read : List ℕ → List Event) where
  near-none : (a : Saids) → AreNear t read [] a a
  near-none a = record {
    old = λ label _. sym (or-none (said_of a.olds.items label));
    new = λ label _. sym (or-none (said_of a.news.items label));
    same = λ label _ same. same;
  }

  -- one list of sections behind another
  near-append : (xs ys : List Section) (a b c : Saids) → AreNear t read xs a b → AreNear t read ys b c → AreNear t read (xs ++ ys) a c
  near-append xs ys a b c one more = record {
    old = λ label is.
        more.old label is
        ∙ ap (λ p. option_or p (said_of (own_saids ys) label)) (one.old label is)
        ∙ or-assoc (said_of a.olds.items label) (said_of (own_saids xs) label) (said_of (own_saids ys) label)
        ∙ ap (option_or (said_of a.olds.items label)) (sym (said-append label (own_saids xs) (own_saids ys)) ∙ ap (λ ds. said_of ds label) (sym (flat_map-append (λ section. section.linking.saids) xs ys)));
    new = λ label is.
        let first = all_saids read (bytes_of_sections xs) in
        let last = all_saids read (bytes_of_sections ys) in
        more.new label is
        ∙ ap (λ p. option_or p (said_of last label)) (one.new label is)
        ∙ or-assoc (said_of a.news.items label) (said_of first label) (said_of last label)
        ∙ ap (option_or (said_of a.news.items label))
        (sym (said-append label first last)
        ∙ ap (λ ds. said_of ds label) (sym (ap (all_saids read) (map-append (λ section. section.part.bytes.items) xs ys) ∙ all-append read (bytes_of_sections xs) (bytes_of_sections ys))));
    same = λ label none equal. more.same label none (one.same label none equal);
  }

  -- what is appended of one section
  module _ (n : ℕ) (s : Section) (rs : List Reread) (next : IsNext read n s rs) (untouched : (label : List ℕ) → t label ≡ None → IsUntouched read label s) (a b : Saids) where
    abbrev now : List Said
    now = saids s.part.bytes.items (read s.part.bytes.items)

    alone-own : (label : List ℕ) → said_of (own_saids (s ∷ [])) label ≡ said_of s.linking.saids label
    alone-own label = ap (λ ds. said_of ds label) (append-nil s.linking.saids)

    alone-now : (label : List ℕ) → said_of (all_saids read (bytes_of_sections (s ∷ []))) label ≡ said_of now label
    alone-now label = ap (λ ds. said_of ds label) (append-nil now)

    -- of labels that are not touched it says now what it said
    equal-here : (label : List ℕ) → t label ≡ None → said_of now label ≡ said_of s.linking.saids label
    equal-here label none = by next
      where
        by : IsNext read n s rs → said_of now label ≡ said_of s.linking.saids label
        by (was_not found has knows) = ap (λ ds. said_of ds label) (ap (saids s.part.bytes.items) has ∙ sym (ap (λ l. l.saids) knows))
        by (was_read found differs) = let both = untouched label none differs in both.1 ∙ sym both.0

    near-one : ArePushed t (record { number = n; section = s; found = read_next n rs }) a b → AreNear t read (s ∷ []) a b
    near-one (inl is) =
        let same_now : s.linking.saids ≡ now = sym (ap (saids_now s) is.1.0) ∙ read-now read n s rs next in
        record {
          old = λ label touched.
              ap (λ ds. said_of ds label) is.0.0
              ∙ sym (ap (option_or (said_of a.olds.items label)) (alone-own label ∙ is.1.1 label touched) ∙ or-none (said_of a.olds.items label));
          new = λ label touched.
              ap (λ ds. said_of ds label) is.0.1
              ∙ sym (ap (option_or (said_of a.news.items label)) (alone-now label ∙ ap (λ ds. said_of ds label) (sym same_now) ∙ is.1.1 label touched) ∙ or-none (said_of a.news.items label));
          same = λ label none equal. ap (λ ds. said_of ds label) is.0.1 ∙ equal ∙ sym (ap (λ ds. said_of ds label) is.0.0);
        }
    near-one (inr is) =
        let new_is : b.news.items ≡ a.news.items ++ now = is.1 ∙ ap (λ ds. a.news.items ++ ds) (read-now read n s rs next) in
        let old_said : (label : List ℕ) → said_of b.olds.items label ≡ option_or (said_of a.olds.items label) (said_of s.linking.saids label) = λ label. ap (λ ds. said_of ds label) is.0 ∙ said-append label a.olds.items s.linking.saids in
        let new_said : (label : List ℕ) → said_of b.news.items label ≡ option_or (said_of a.news.items label) (said_of now label) = λ label. ap (λ ds. said_of ds label) new_is ∙ said-append label a.news.items now in
        record {
          old = λ label touched. old_said label ∙ ap (option_or (said_of a.olds.items label)) (sym (alone-own label));
          new = λ label touched. new_said label ∙ ap (option_or (said_of a.news.items label)) (sym (alone-now label));
          same = λ label none equal.
              new_said label
              ∙ ap (λ p. option_or p (said_of now label)) equal
              ∙ ap (option_or (said_of a.olds.items label)) (equal-here label none)
              ∙ sym (old_said label);
        }

  -- what is appended of sections that are gone over
  pub near-all : (n : ℕ) (ss : List Section) (rs : List Reread) (a b : Saids) → AreReread read n ss rs → ((label : List ℕ) → t label ≡ None → AllByRecursion (IsUntouched read label) ss)
      → Goes (ArePushed t) (visits n ss rs) a b → AreNear t read ss a b
  near-all n [] rs a b are untouched goes = subst (AreNear t read [] a) (sym goes) (near-none a)
  near-all n (s ∷ ss) rs a b are untouched goes =
      let next = next-is read n s ss rs are in
      near-append (s ∷ []) ss a goes.0 b (near-one n s rs next.0 (λ label none. (untouched label none).0) a goes.0 goes.1.0)
      (near-all (n + 1) ss (left_behind (read_next n rs) rs) goes.0 b next.1 (λ label none. (untouched label none).1) goes.1.1)

-- ---- so labels lead elsewhere by these exactly if they do

abbrev pub chosen : (t : List ℕ → Option Parts) → List ℕ → Bool
chosen t label = is_some (t label)

module _ (t : List ℕ → Option Parts) (old new : List ℕ → List Event) (front behind : List Section) (gone come : List (List ℕ)) (zero one two three : Saids) where
  abbrev pub firsts_old : List ℕ → Option Parts
  firsts_old = first_said old (bytes_of_sections front ++ (gone ++ bytes_of_sections behind))

  abbrev pub firsts_new : List ℕ → Option Parts
  firsts_new = first_said new (bytes_of_sections front ++ (come ++ bytes_of_sections behind))

  -- What was appended in order: those of the sections in front, of those that are replaced or in their place, and of those behind
  pub record AreAppended : Type 0 where
    pub none_old : zero.olds.items ≡ []
    pub none_new : zero.news.items ≡ []
    pub front_near : AreNear t new front zero one
    pub gone_added : two.olds.items ≡ one.olds.items ++ all_saids old gone
    pub come_added : two.news.items ≡ one.news.items ++ all_saids new come
    pub behind_near : AreNear t new behind two three
    pub front_own : own_saids front ≡ all_saids old (bytes_of_sections front)
    pub behind_own : own_saids behind ≡ all_saids old (bytes_of_sections behind)
    pub gone_none : (label : List ℕ) → t label ≡ None → said_of (all_saids old gone) label ≡ None
    pub come_none : (label : List ℕ) → t label ≡ None → said_of (all_saids new come) label ≡ None
    pub front_same : (label : List ℕ) → t label ≡ None → said_of (all_saids new (bytes_of_sections front)) label ≡ said_of (own_saids front) label
    pub behind_same : (label : List ℕ) → t label ≡ None → said_of (all_saids new (bytes_of_sections behind)) label ≡ said_of (own_saids behind) label

  -- the first definition in three lists of sections
  firsts : (read : List ℕ → List Event) (between : List (List ℕ)) (label : List ℕ) → first_said read (bytes_of_sections front ++ (between ++ bytes_of_sections behind)) label
      ≡ option_or (said_of (all_saids read (bytes_of_sections front)) label) (option_or (said_of (all_saids read between) label) (said_of (all_saids read (bytes_of_sections behind)) label))
  firsts read between label =
      let f = bytes_of_sections front in
      let b = bytes_of_sections behind in
      sym (first-said read label (f ++ (between ++ b)))
      ∙ ap (λ ds. said_of ds label) (all-append read f (between ++ b))
      ∙ said-append label (all_saids read f) (all_saids read (between ++ b))
      ∙ ap (option_or (said_of (all_saids read f) label)) (ap (λ ds. said_of ds label) (all-append read between b) ∙ said-append label (all_saids read between) (all_saids read b))

  module _ (are : AreAppended) (label : List ℕ) where
    old-is : chosen t label ≡ true → said_of three.olds.items label ≡ firsts_old label
    old-is touched =
        let f = said_of (all_saids old (bytes_of_sections front)) label in
        let g = said_of (all_saids old gone) label in
        let b = said_of (all_saids old (bytes_of_sections behind)) label in
        let one_is : said_of one.olds.items label ≡ f = are.front_near.old label touched ∙ ap (λ ds. option_or (said_of ds label) (said_of (own_saids front) label)) are.none_old ∙ ap (λ ds. said_of ds label) are.front_own in
        let two_is : said_of two.olds.items label ≡ option_or f g = ap (λ ds. said_of ds label) are.gone_added ∙ said-append label one.olds.items (all_saids old gone) ∙ ap (λ p. option_or p g) one_is in
        are.behind_near.old label touched
        ∙ ap (λ p. option_or p (said_of (own_saids behind) label)) two_is
        ∙ ap (λ ds. option_or (option_or f g) (said_of ds label)) are.behind_own
        ∙ or-assoc f g b
        ∙ sym (firsts old gone label)

    new-is : chosen t label ≡ true → said_of three.news.items label ≡ firsts_new label
    new-is touched =
        let f = said_of (all_saids new (bytes_of_sections front)) label in
        let g = said_of (all_saids new come) label in
        let b = said_of (all_saids new (bytes_of_sections behind)) label in
        let one_is : said_of one.news.items label ≡ f = are.front_near.new label touched ∙ ap (λ ds. option_or (said_of ds label) f) are.none_new in
        let two_is : said_of two.news.items label ≡ option_or f g = ap (λ ds. said_of ds label) are.come_added ∙ said-append label one.news.items (all_saids new come) ∙ ap (λ p. option_or p g) one_is in
        are.behind_near.new label touched ∙ ap (λ p. option_or p b) two_is ∙ or-assoc f g b ∙ sym (firsts new come label)

    -- a label that is not touched is the same in both
    lists-same : t label ≡ None → said_of three.news.items label ≡ said_of three.olds.items label
    lists-same none =
        let first = are.front_near.same label none (ap (λ ds. said_of ds label) (are.none_new ∙ sym are.none_old)) in
        let added : (xs ys zs : List Said) → zs ≡ xs ++ ys → said_of ys label ≡ None → said_of zs label ≡ said_of xs label = λ xs ys zs is nothing.
        ap (λ ds. said_of ds label) is ∙ said-append label xs ys ∙ ap (option_or (said_of xs label)) nothing ∙ or-none (said_of xs label)
        in
        are.behind_near.same label none
        (added one.news.items (all_saids new come) two.news.items are.come_added (are.come_none label none) ∙ first
        ∙ sym (added one.olds.items (all_saids old gone) two.olds.items are.gone_added (are.gone_none label none)))

    firsts-same : t label ≡ None → firsts_new label ≡ firsts_old label
    firsts-same none =
        let f = said_of (all_saids old (bytes_of_sections front)) label in
        let b = said_of (all_saids old (bytes_of_sections behind)) label in
        let b_new = said_of (all_saids new (bytes_of_sections behind)) label in
        firsts new come label
        ∙ ap (λ p. option_or p (option_or (said_of (all_saids new come) label) b_new)) (are.front_same label none ∙ ap (λ ds. said_of ds label) are.front_own)
        ∙ ap (λ p. option_or f (option_or p b_new)) (are.come_none label none ∙ sym (are.gone_none label none))
        ∙ ap (λ p. option_or f (option_or (said_of (all_saids old gone) label) p)) (are.behind_same label none ∙ ap (λ ds. said_of ds label) are.behind_own)
        ∙ sym (firsts old gone label)

    by : (p : Option Parts) → p ≡ t label → (said_of three.news.items label ≡ said_of three.olds.items label) ↔ (firsts_new label ≡ firsts_old label)
    by None is = ((λ _. firsts-same (sym is)), (λ _. lists-same (sym is)))
    by (Some x) is =
        let touched : chosen t label ≡ true = ap is_some (sym is) in
        ((λ same. sym (new-is touched) ∙ same ∙ old-is touched), (λ same. new-is touched ∙ same ∙ sym (old-is touched)))

    pub leads-iff : (said_of three.news.items label ≡ said_of three.olds.items label) ↔ (firsts_new label ≡ firsts_old label)
    leads-iff = by (t label) refl
