-- What the proofs of this crate cite from below them: words of std, of the crates below and of specs.
pub use Rattle.std.proofs.Common.{All, Bool, List, None, [], ap, arith, cond, false, get_or, length, refl, rules, subst, sym, true, ℕ, ⊎_elim, ◌*◌, ◌++◌, ◌+◌, ◌-◌, ◌<◌, ◌∙◌, ◌∷◌, ◌≡◌, ◌≤◌}
pub use Rattle.std.proofs.lemmas.Bool.{cases_eq}
pub use Rattle.std.proofs.lemmas.List.Elements.{All-push}
pub use Rattle.std.specs.Option.{IfSome}
pub use Rattle.markdown.proofs.Balanced.{IsBalanced-pair}
pub use Rattle.markdown.proofs.ChainOrder.Forward.{ends-inside, forward-chain, one-chain-disjoint, within}
pub use Rattle.markdown.proofs.Edits.Puts.{put-less}
pub use Rattle.markdown.proofs.Positions.Points.{found-passes}
pub use Rattle.markdown.proofs.Runs.Whole.{start-is-point}
pub use Rattle.markdown.specs.ChildrenLawStatements.{HasEndsWithin}
pub use Rattle.markdown.specs.Edits.{AreDisjoint, Edit, edit_at, put_after}
pub use Rattle.markdown.specs.Engine.{given_of}
pub use Rattle.markdown.specs.Events.{EachEnd, EndsBelow, empty, span}
pub use Rattle.markdown.specs.Parts.{chain_edits, divided}
pub use Rattle.markdown.specs.Virtual.{IsWithinLimit}
pub use Rattle.markdown.specs.declared.event.Event.{Event}
