use Rattle.std.proofs.Common.{◌≡◌, ◌∙◌, ◌+◌, ◌≤◌, ◌++◌, ap, arith, drop, length, take}
use Rattle.std.proofs.lemmas.List.{length-drop}
use Rattle.mdinline_link_strings.proofs.Rewritten.{kept-moved, kept-there}
use Rattle.mdinline_link_strings.proofs.rewriting.Rewriting.keep.Goals as goal
use Rattle.mdinline_link_strings.proofs.rewriting.Rewriting.keep.Goals.{then-self, else-self}

pub returns : goal.returns
returns c =
    let i = c.self.inside in
    let count = c.args.count in
    let es = i.events.items in
    let before = c.self.invariant.0 in
    let inside = c.self.invariant.1 in
    let long = length-drop i.left es in
    let all = ap (λ v. length v.1) c.self.view_is in
    let few = c.requires.within in
    let fits : i.left + count ≤ length es = omega (arith, inside, long, all, few) in
    let there : i.left ≤ i.gap → i.gap ≡ i.left = λ past. omega (arith, before, past) in
    let is : (take i.gap es ++ take count (drop i.left es), drop count (drop i.left es)) ≡ (c.args.self.now.0 ++ take count c.args.self.now.1, drop count c.args.self.now.1) = ap (λ v. (v.0 ++ take count v.1, drop count v.1)) c.self.view_is in
    elim c.if-self.branch [
      | then-self w ↦
          ap (λ s. (take (s.gap + count) s.events.items, drop (i.left + count) s.events.items)) w.self-inside-is
          ∙ ap (λ xs. (take (i.gap + count) xs, drop (i.left + count) xs)) w.copy_within.ensures.items
          ∙ kept-moved es i.gap i.left count before fits ∙ is
      | else-self w ↦
          ap (λ s. (take (s.gap + count) s.events.items, drop (i.left + count) s.events.items)) w.self-inside-is
          ∙ kept-there es i.gap i.left count (there w.if-self.false) ∙ is
    ]
