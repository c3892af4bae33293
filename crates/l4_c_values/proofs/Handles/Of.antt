-- `of` keeps the pointer.
use Rattle.std.proofs.Common.{◌≡◌, List, [], ◌∷◌, ◌++◌, refl, sym, subst}
use seplogic.Ra.Ura.{Ura}
use mir.Syntax.{Fn, ty_ptr, assign, place, field, aggregate, rv_opd, copy, seq, return}
use mir.Val.{Val, vptr}
use base.Logic.{SProp, ent, emp, id⊢}
use base.Fml.{ftrue}
use prog.Wp.{WpFn}
use types.Logic.{Logic}
use types.Kit.{‵, raw, ◌⊛◌, ◌$◌, ◌∵◌, !, qed, by, move, keep, split, fsplit, fjoin, use0, suffices}
use types.Run.{stop, fld, of_opd, no_more, and_then, returns, enter}
use types.ByLocal.{alloc_all, pass_all, free_all, look_at, get, get_in, sets}
use types.Part.{agg, sub, whole}
use contract.Monad.{fact, fact_i}
use contract.Notation.{connectives}
use contract.Running.{tables}
use denote.Exit.{yes}
use denote.Param.{layout}
use denote.RattleType.{RattleType, owns}
use denote.Signature.{types_at, plain}
use denote.RawPtr.{block_ptr}
use denote.Steps.{nothing}
use denote.Triple.Clauses.{Ended, Clauses}
use denote.Triple.Walked.{Stays, stay_dropped, walk_of, Goes-dropped}
use Rattle.std.specs.Prelude.{Some}
use Rattle.std.specs.contracts.alloc.Global as heap
use Rattle.std.proofs.alloc.Global.TheLaws as heap_laws
use Rattle.std.specs.contracts.impls.GlobalAllocator.TheImpl.{ghosts}
use Rattle.std.proofs.raw_atomic.Walks.{proved_at, leaves}
use Rattle.l4_c_values.proofs.Handles.{Form, Handle, Unboxed, code_of, CodeMeets, handle_in}
use Rattle.l4_c_values.proofs.Holding.{one}
use Rattle.l4_c_values.proofs.Values.{both, loose_good, loose_out}

module _ (F : Form) where
  abbrev ended : Ended
  ended = record { signature = record { lifetimes = 0; outlives = []; params = plain (λ κs. Unboxed F) ∷ []; result = plain (λ κs. Handle F) }; kept = (yes, tt) }

  abbrev function : Fn
  function = code_of 1 (layout (Handle F) ∷ layout (Unboxed F) ∷ ty_ptr ∷ ty_ptr ∷ [])
      (seq (assign (place 2 []) (rv_opd (copy (place 1 (field 0 ∷ [])))))
      (seq (assign (place 3 []) (rv_opd (copy (place 2 []))))
      (seq (assign (place 0 []) (aggregate (copy (place 3 []) ∷ []))) return)))

  module _ {M : Type 1} {𝓤 : Ura M} (𝓛 : Logic 𝓤) where
    abbrev clauses : Clauses 𝓤 ended
    clauses κs a = record { ghost = Unit {0}; requires = λ g. (connectives 𝓤).⊤ₛ; ensures = λ g r e. fact 𝓤 (F.value r ≡ Some a.0.value) }

    pub makes_of : CodeMeets 𝓛 ended clauses function
    makes_of 𝓜 𝓡 k closed =
        let H = 𝓛.H in let 𝓣 = tables 𝓤 H 𝓜 𝓡 𝓡.env in let c : Clauses 𝓤 ended = clauses in let Z : RattleType = heap.the_row in let L = heap_laws.the_row_laws in
        let hs : Stays ended.signature.params ended.kept = (stay_dropped (plain (λ _. Unboxed F)) yes, tt) in
        proved_at 𝓛 ended hs c 𝓜 𝓡 (Goes-dropped 𝓛 0 (plain (λ _. Unboxed F)) yes (λ κs x f. refl), tt) k function closed (λ z are.
        let v = z.0.3.0 in let Post : Val → SProp 𝓤 = (walk_of 𝓛 ended hs c).post z in let Run : List Val → SProp 𝓤 = λ ws. WpFn 𝓤 H 𝓣.C 𝓣.Λ function ws Post in
        qed 𝓛 ((‵ ftrue ⊛ ‵ (owns (types_at ended.signature.params z.0.0) z.0.3 z.0.4)) ∷ raw ((c z.0.0 z.0.3).requires z.1) ∷ []) ∵ split ! $ move ! (1 ∷ []) $ fsplit ! $
        loose_out F.Held Z L ghosts ! v z.0.4.0 (λ b o h e ws fits.
        let w : Val = both (vptr b o) h in let typed = loose_good F.Held Z L ghosts b o h fits in let d : F.Denot = F.make (block_ptr b o) (Some v.value) in
        suffices ! (Run (w ∷ [])) (subst (λ (us : List Val). ent 𝓤 (Run (w ∷ [])) (Run us)) (sym (λ i. ws i ++ [])) (id⊢ 𝓤 (Run (w ∷ [])))) $
        enter ! 𝓣.C 𝓣.Λ function (w ∷ []) Post $ alloc_all ! (λ l. pass_all ! refl (typed, tt) $
        sets ! (of_opd ! (get_in ! (fld ! refl (stop !)) (sub ! 0 refl (whole !)))) refl (tt, tt) $
        sets ! (of_opd ! (get ! refl)) refl (tt, tt) $
        sets ! (agg ! (and_then ! (get ! refl) (no_more !))) refl (tt, (tt, tt)) $
        handle_in F ! (block_ptr b o) (Some v.value) $
        use0 𝓛 (raw (fact 𝓤 (F.value d ≡ Some v.value))) (fact_i 𝓤 (F.value d ≡ Some v.value) (emp 𝓤) (F.holds (block_ptr b o) (Some v.value))) $ move ! (1 ∷ 0 ∷ []) $
        nothing ! $ nothing ! $ fjoin ! $ nothing ! $
        returns ! (look_at ! 0 refl) $ free_all ! refl $ keep ! (0 ∷ 1 ∷ 2 ∷ 3 ∷ []) $
        by ! (leaves 𝓛 ended hs c z (one (block_ptr b o)) d (tt, tt) (tt, tt)))))
