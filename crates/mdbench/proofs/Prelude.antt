-- What the proofs of this crate cite from below them: words of std, of the crates below and of specs.
pub use Rattle.std.proofs.Common.{List, None, [], ap, arith, cond, false, length, refl, rules, subst, sym, true, ℕ, ◌*◌, ◌++◌, ◌+◌, ◌<◌, ◌∙◌, ◌∷◌, ◌≡◌, ◌≤◌}
pub use Rattle.std.proofs.lemmas.List.Elements.{All-push}
pub use Rattle.std.specs.Prelude.{All}
pub use Rattle.markdown.proofs.ChainOrder.Forward.{forward-chain, one-chain-disjoint, within}
pub use Rattle.markdown.specs.Edits.{AreDisjoint, Edit, added_after, edit_at, is_no_edit, put_after}
pub use Rattle.markdown.specs.Events.{EndsBelow}
pub use Rattle.markdown.specs.Parts.{chain_edits, divided}
pub use Rattle.markdown.specs.Virtual.{IsWithinLimit}
pub use Rattle.markdown.specs.declared.event.Event.{Event}
