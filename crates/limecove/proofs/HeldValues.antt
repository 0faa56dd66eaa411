-- The machine values of a document that is kept as its pointer. Assumes `Logic`.
use Rattle.std.proofs.Common.{◌≡◌, List, [], ◌∷◌, ◌++◌, refl, subst, Option}
use seplogic.Ra.Ura.{Ura}
use mir.Val.{Val, vstruct, of_list}
use types.Logic.{Logic}
use types.Kit.{Item, Goal, Seq, Step, step, ‵, ◌$◌, drop, fsplit, fjoin, fpick, fpack, feq_i, feq_l}
use denote.RattleType.{RattleType, Valss}
use denote.Builtin.{RawPtr}
use denote.RawPtr.{Ptr, ptr_val}
use denote.Steps.{nothing}
use denote.Struct.Struct.{within}
use denote.Struct.Owning.{shape}
use Rattle.limecove.specs.Kept.{kept_owns}
use Rattle.limecove.specs.Holding.{held_row}
use Rattle.limecove.specs.declared.held.Held.{Held}
use Rattle.limecove.specs.contracts.document.KeptDocument as kept
use Rattle.limecove.proofs.KeptValues.{only_of}

abbrev pub Kept : RattleType
Kept = kept.the_row

module _ {M : Type 1} {𝓤 : Ura M} {𝓛 : Logic 𝓤} {K : Type 0} {Γ : List (Item 𝓤)} {G : Goal 𝓤 𝓛.H} where
  pub kept_in : K → (p : Ptr) (held : Option Held)
      → Step K 𝓛 (‵ (Kept.own_val (record { at = p; held = held }) (only_of (ptr_val p) ∷ [])) ∷ Γ) G (‵ (kept_owns held_row p held) ∷ Γ) G
  kept_in t p held = step (λ s. let v : Val = ptr_val p in
      nothing t $ feq_i t (List Val) (v ∷ []) (v ∷ []) refl $ fjoin t $ feq_i t (List Val) (only_of v ∷ []) (only_of v ∷ []) refl $ fjoin t $
      fpack t (Valss (RawPtr ∷ [])) (within (shape kept.the_type) (p, tt) (only_of v ∷ [])) (v ∷ [], tt) $ fjoin t $ s)

  pub kept_out : K → (d : Kept.Denot) (vs : List Val) → (vs ≡ only_of (ptr_val d.at) ∷ [] → Seq K 𝓛 (‵ (kept_owns held_row d.at d.held) ∷ Γ) G)
      → Seq K 𝓛 (‵ (Kept.own_val d vs) ∷ Γ) G
  kept_out t d vs k = fsplit t $ fpick t (λ vss. fsplit t $ feq_l t (λ ev. fsplit t $ feq_l t (λ ep. drop t $
      k (subst (λ (ps : List Val). vs ≡ vstruct (of_list (ps ++ [])) ∷ []) ep ev))))
