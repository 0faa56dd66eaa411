-- The machine values of a list that is kept as its pointer. Assumes `Logic`.
use Rattle.std.proofs.Common.{◌≡◌, List, [], ◌∷◌, ◌++◌, ℕ, refl, subst, Option, Some, None, IsSome, Vec, Global}
use mathlib.Core.Bool.{Bool, not}
use lib.Dec.{T}
use seplogic.Ra.Ura.{Ura}
use mir.Raw.{raw as bare}
use mir.Val.{Val, vstruct, vcons, vnil, of_list}
use base.Logic.{fst∗, never}
use types.Logic.{Logic, sem}
use types.Kit.{Item, Goal, Seq, Step, step, ‵, ◌$◌, drop, fsplit, fjoin, fpick, fpack, feq_i, feq_l}
use denote.RattleType.{RattleType, Valss}
use denote.Builtin.{RawPtr}
use denote.Memory.{lone}
use denote.RawPtr.{Ptr, block_ptr, null_ptr, ptr_val, in_a_block}
use denote.Steps.{nothing}
use denote.Struct.Struct.{within}
use denote.Struct.Owning.{shape}
use Rattle.std.specs.Box.Ownership.{box_owns}
use Rattle.std.specs.contracts.impls.GlobalAllocator.TheImpl.{ghosts}
use Rattle.limecove.specs.Kept.{kept_owns, list_row, global}
use Rattle.markdown.specs.declared.event.Event.{Event}
use Rattle.limecove.specs.contracts.kept.Kept as kept

abbrev pub only_of : Val → Val
only_of v = vstruct (vcons v vnil)

abbrev pub Kept : RattleType
Kept = kept.the_row

module _ {M : Type 1} {𝓤 : Ura M} {𝓛 : Logic 𝓤} {K : Type 0} {Γ : List (Item 𝓤)} {G : Goal 𝓤 𝓛.H} where
  pub kept_in : K → (p : Ptr) (list : Option (Vec Event Global))
      → Step K 𝓛 (‵ (Kept.own_val (record { at = p; list = list }) (only_of (ptr_val p) ∷ [])) ∷ Γ) G (‵ (kept_owns list_row p list) ∷ Γ) G
  kept_in t p list = step (λ s. let v : Val = ptr_val p in
      nothing t $ feq_i t (List Val) (v ∷ []) (v ∷ []) refl $ fjoin t $ feq_i t (List Val) (only_of v ∷ []) (only_of v ∷ []) refl $ fjoin t $
      fpack t (Valss (RawPtr ∷ [])) (within (shape kept.the_type) (p, tt) (only_of v ∷ [])) (v ∷ [], tt) $ fjoin t $ s)

  pub kept_out : K → (d : Kept.Denot) (vs : List Val) → (vs ≡ only_of (ptr_val d.at) ∷ [] → Seq K 𝓛 (‵ (kept_owns list_row d.at d.list) ∷ Γ) G)
      → Seq K 𝓛 (‵ (Kept.own_val d vs) ∷ Γ) G
  kept_out t d vs k = fsplit t $ fpick t (λ vss. fsplit t $ feq_l t (λ ev. fsplit t $ feq_l t (λ ep. drop t $
      k (subst (λ (ps : List Val). vs ≡ vstruct (of_list (ps ++ [])) ∷ []) ep ev))))

  pub kept_some : K → (R : RattleType) (p : Ptr) (kept : Option R.Denot) → IsSome kept
      → ((b o : ℕ) (x : R.Denot) → p ≡ block_ptr b o → kept ≡ Some x → Seq K 𝓛 (‵ (box_owns (ghosts.dealloc_token global) R (block_ptr b o) x) ∷ Γ) G)
      → Seq K 𝓛 (‵ (kept_owns R p kept) ∷ Γ) G
  kept_some t R p None is k = absurd (subst (λ (y : Bool). T (not y)) is tt)
  kept_some t R p (Some x) is k =
      in_a_block t p (λ q. box_owns (ghosts.dealloc_token global) R q x) (fst∗ 𝓤 (never 𝓤) (sem 𝓛 (ghosts.dealloc_token global (bare (lone R.mir)) null_ptr))) (λ b o e. k b o x e refl)
