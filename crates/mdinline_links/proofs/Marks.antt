-- Events behind the first mark, and events without any.
use Rattle.std.proofs.Common.{◌≡◌, ◌∙◌, ◌+◌, ◌-◌, ◌≤◌, ◌&&◌, ◌||◌, ℕ, suc, List, [], ◌∷◌, Bool, true, false, cond, not, Option, None, Some, ap, arith, drop, length, length-drop, refl, sym, take}
use Rattle.std.proofs.lemmas.Bool.{or_parts}
use Rattle.std.proofs.lemmas.List.{drop_all}
use Rattle.std.proofs.Math.Seq.{take-length}
use Rattle.std.specs.List.{position_or_len}
use Rattle.std.specs.Prelude.{◌==◌, slice_get}
use Rattle.markdown_base.specs.declared.event.Event.{Event}
use Rattle.markdown_base.specs.declared.event.Name.TheVariants.{AttentionSequence}
use Rattle.markdown_base.specs.Events.{is_enter, same_name}
use Rattle.markdown_edits.specs.Edits.{edit_at}
use Rattle.mdinline_emphasis.specs.Emphasis.{paired}
use Rattle.mdinline_emphasis.specs.RunEdits.{edits_of}
use Rattle.mdinline_emphasis.specs.Runs.{depth_after, index_of_event, is_sequence, run_at, runs_from, runs_in}
use Rattle.mdinline_links.specs.LinkEdits.{has_brackets, is_mark, is_of_bracket, link_edits}
use Rattle.mdinline_links.specs.Linked.{with_links}

-- brackets are behind the first mark
pub marked-brackets : (es : List Event) → has_brackets (drop (position_or_len is_mark es) es) ≡ has_brackets es
marked-brackets [] = refl
marked-brackets (e ∷ es) = cases (is_mark e) refl (marked-brackets es)
  where
    cases : (b : Bool) → is_mark e ≡ b → has_brackets (drop (position_or_len is_mark es) es) ≡ has_brackets es
        → has_brackets (drop (cond (not b) (1 + position_or_len is_mark es) 0) (e ∷ es)) ≡ has_brackets (e ∷ es)
    cases true h more = refl
    cases false h more =
        let one : 1 + position_or_len is_mark es ≡ suc (position_or_len is_mark es) = omega arith in
        ap (λ n. has_brackets (drop n (e ∷ es))) one ∙ more ∙ sym (ap (λ b. b || has_brackets es) (or_parts (same_name e.name AttentionSequence) (is_of_bracket e.name) h).1)

no-other : (a b c : Bool) → (a && ((b && false) && c)) ≡ false
no-other false b c = refl
no-other true false c = refl
no-other true true c = refl

-- an event that is no mark begins no run
no-sequence : (depth : ℕ) (e f : Event) → is_mark e ≡ false → (depth == 0 && is_sequence e f) ≡ false
no-sequence depth e f h =
    ap (λ b. depth == 0 && ((is_enter e.kind && b) && (not (is_enter f.kind) && same_name f.name AttentionSequence))) (or_parts (same_name e.name AttentionSequence) (is_of_bracket e.name) h).0
    ∙ no-other (depth == 0) (is_enter e.kind) (not (is_enter f.kind) && same_name f.name AttentionSequence)

-- where no mark is, no run is
no-runs : (one : Bool) (bytes : List ℕ) (i depth : ℕ) (before : Option ℕ) (es : List Event) → length es ≤ position_or_len is_mark es → runs_from one bytes i depth before es ≡ []
no-runs one bytes i depth before [] h = refl
no-runs one bytes i depth before (e ∷ []) h = refl
no-runs one bytes i depth before (e ∷ f ∷ es) h = cases (is_mark e) refl h (no-runs one bytes (i + 1) (depth_after e.kind depth) (Some e.point.index) (f ∷ es))
  where
    cases : (b : Bool) → is_mark e ≡ b → length (e ∷ f ∷ es) ≤ cond (not b) (1 + position_or_len is_mark (f ∷ es)) 0
        → (length (f ∷ es) ≤ position_or_len is_mark (f ∷ es) → runs_from one bytes (i + 1) (depth_after e.kind depth) (Some e.point.index) (f ∷ es) ≡ [])
        → runs_from one bytes i depth before (e ∷ f ∷ es) ≡ []
    cases true m k more = absurd (omega (arith, k))
    cases false m k more =
        ap (λ b. cond b (run_at one bytes i e f before (index_of_event (slice_get es 0)) ∷ runs_from one bytes (i + 2) depth (Some f.point.index) es) (runs_from one bytes (i + 1) (depth_after e.kind depth) (Some e.point.index) (f ∷ es))) (no-sequence depth e f m)
        ∙ more (omega (arith, k))

pub from-first : (es : List Event) (n : ℕ) → n ≡ position_or_len is_mark es → has_brackets (take (length es - n) (drop n es)) ≡ has_brackets es
from-first es n h =
    ap (λ m. has_brackets (take m (drop n es))) (sym (length-drop n es)) ∙ ap has_brackets (take-length (drop n es))
    ∙ ap (λ m. has_brackets (drop m es)) h ∙ marked-brackets es

-- where no mark is, nothing is edited
pub no-edits : (one : Bool) (bytes : List ℕ) (es : List Event) (n : ℕ) → n ≡ position_or_len is_mark es → length es ≤ n → link_edits one bytes es ≡ []
no-edits one bytes es n is all =
    let none : has_brackets es ≡ false = sym (ap (λ m. has_brackets (drop m es)) is ∙ marked-brackets es) ∙ ap has_brackets (drop_all n es all) in
    let runs : runs_in one bytes es ≡ [] = no-runs one bytes 0 0 None es (omega (arith, is, all)) in
    ap (λ b. cond b (edit_at 0 (length es) (with_links one bytes es) ∷ []) (edits_of (paired (runs_in one bytes es)))) none ∙ ap (λ rs. edits_of (paired rs)) runs
