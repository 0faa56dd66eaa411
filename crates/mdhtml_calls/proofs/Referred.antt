-- What links and images refer to, by two sizes of labels: if one is in proportion to the other, so are all together, but for so much for each event.
use Rattle.std.proofs.Common.{◌≡◌, ℕ, suc, ◌+◌, ◌*◌, ◌≤◌, List, ◌∷◌, length, arith, length-append}
use native.Mathlib.Nat.{add-mul, suc-mul}
use Rattle.markdown_base.specs.declared.event.Event.{Event}
use Rattle.mddocument_link_targets.specs.declared.targets.Target.{Target}
use Rattle.mddocument_link_targets.specs.declared.targets.Target.TheVariants as target
use Rattle.mddocument_link_targets.specs.Targets.{target_in}
use Rattle.mdhtml_document.specs.declared.names.Inline.{Inline}
use Rattle.mdhtml_document.specs.declared.names.Inline.TheVariants as inline
use Rattle.mdhtml_document.specs.Html.{referred, references, size_of_target}
use Rattle.mdhtml_document.specs.Names.{inline_of}
use Rattle.mdhtml_document.specs.Spans.{Nothing, Span, Spans, events_of}

module _ (bytes : List ℕ) (size more : (label : List ℕ) → ℕ) (c d : ℕ) (less : (label : List ℕ) → size label ≤ more label * c + d) where
  target-less : (t : Target) → size_of_target size t ≤ size_of_target more t * c + d
  target-less (target.Parts p) = omega arith
  target-less (target.Label label) = less label

  one-more : (n : ℕ) → suc n * d ≡ n * d + d
  one-more n = suc-mul n d

  referred-less : (i : Inline) (es : List Event) (a b n : ℕ) → a ≤ b * c + n * d → referred bytes size i es a ≤ referred bytes more i es b * c + suc n * d
  referred-less inline.Ending es a b n h = let k = one-more n in omega (arith, h, k)
  referred-less inline.Break es a b n h = let k = one-more n in omega (arith, h, k)
  referred-less inline.Emphasis es a b n h = let k = one-more n in omega (arith, h, k)
  referred-less inline.Strong es a b n h = let k = one-more n in omega (arith, h, k)
  referred-less inline.Struck es a b n h = let k = one-more n in omega (arith, h, k)
  referred-less inline.Code es a b n h = let k = one-more n in omega (arith, h, k)
  referred-less inline.Html es a b n h = let k = one-more n in omega (arith, h, k)
  referred-less inline.Autolink es a b n h = let k = one-more n in omega (arith, h, k)
  referred-less inline.Www es a b n h = let k = one-more n in omega (arith, h, k)
  referred-less inline.Email es a b n h = let k = one-more n in omega (arith, h, k)
  referred-less inline.Address es a b n h = let k = one-more n in omega (arith, h, k)
  referred-less inline.Check es a b n h = let k = one-more n in omega (arith, h, k)
  referred-less inline.Call es a b n h = let k = one-more n in omega (arith, h, k)
  referred-less inline.Link es a b n h =
      let t = target-less (target_in bytes es) in
      let k = one-more n in
      let both = add-mul (size_of_target more (target_in bytes es)) b c in
      omega (arith, t, h, k, both)
  referred-less inline.Image es a b n h =
      let t = target-less (target_in bytes es) in
      let k = one-more n in
      omega (arith, t, k)
  referred-less inline.Tail es a b n h = let k = one-more n in omega (arith, h, k)
  referred-less inline.Other es a b n h = let k = one-more n in omega (arith, h, k)

  pub references-in-proportion : (s : Spans) → references bytes size s ≤ references bytes more s * c + length (events_of s) * d
  references-in-proportion Nothing = omega arith
  references-in-proportion (Span e f s behind) =
      let n = length (events_of s) in
      let m = length (events_of behind) in
      let here = referred-less (inline_of e.name) (events_of s) (references bytes size s) (references bytes more s) n (references-in-proportion s) in
      let rest = references-in-proportion behind in
      let both = add-mul (referred bytes more (inline_of e.name) (events_of s) (references bytes more s)) (references bytes more behind) c in
      let long : length (events_of (Span e f s behind)) ≡ suc n + suc m = let l = length-append (events_of s) (f ∷ events_of behind) in omega (arith, l) in
      let events = count _ (suc n) (suc m) long in
      let last = one-more m in
      omega (arith, here, rest, both, events, last)
    where
      count : (k a b : ℕ) → k ≡ a + b → k * d ≡ a * d + b * d
      count k a b h = rw h (add-mul a b d)
