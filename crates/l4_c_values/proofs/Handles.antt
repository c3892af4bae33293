-- A handle: a struct of one pointer that C sees, with what it holds as a ghost field. C takes no generic struct, so there is one for each type that is held,
-- and what is proved of their functions is proved here once, over their form. Assumes `Logic`.
use Rattle.std.proofs.Common.{◌≡◌, ℕ, List, [], ◌∷◌, ◌++◌, refl, sym, ap, subst}
use seplogic.Ra.Ura.{Ura}
use mir.Syntax.{Sym, Ty, Local, local, value_local, Body, Fn, Callee}
use mir.Val.{Val, vstruct, of_list}
use base.Stored.{Coded}
use prog.Model.{Model}
use prog.Wp.{Closed}
use contract.Running.{Running, tables}
use types.Logic.{Logic}
use types.Kit.{Item, Goal, Seq, Step, step, ‵, ◌$◌, drop, fsplit, fjoin, fpick, fpack, feq_i, feq_l, rewrite}
use denote.RattleType.{RattleType, Valss}
use denote.Builtin.{RawPtr}
use denote.RawPtr.{Ptr, ptr_val}
use denote.Steps.{nothing}
use denote.Triple.Clauses.{Ended, Clauses, closing}
use denote.Triple.Spec.{Meets}
use denote.Struct.Struct.{within}
use denote.Struct.Field.{RawPtr-field}
use denote.Struct.Record.{Record, Also, Done}
use denote.Struct.Owning.{Owning, owning, row, shape}
use Rattle.std.specs.Prelude.{Option}
use Rattle.l4_c_values.specs.Inside.Held.{held}
use Rattle.std.specs.contracts.alloc.Global as heap
use Rattle.std.proofs.alloc.Global.TheLaws as heap_laws
use Rattle.std.specs.contracts.impls.GlobalAllocator.TheImpl.{ghosts}
use Rattle.l4_c_values.proofs.Holding.{one}
use Rattle.l4_c_values.proofs.Values.{Loose}
pub mod Empty
pub mod Of
pub mod IntoLoose

-- what the handles differ in
pub record Form : Type 1 where
  pub Held : RattleType
  pub name : Sym
  pub Denot : Type 0
  pub hidden : Denot → Ptr
  pub value : Denot → Option Held.Denot
  pub make : Ptr → Option Held.Denot → Denot
  pub eta : (d : Denot) → make (hidden d) (value d) ≡ d
  pub hides : (p : Ptr) (x : Option Held.Denot) → hidden (make p x) ≡ p
  pub holds : (p : Ptr) (x : Option Held.Denot) → value (make p x) ≡ x
  pub codes : Ptr × Unit {0} → Coded (Also (Option Held.Denot) (λ x. Done))

abbrev locals_of : List Ty → List Local
locals_of [] = []
locals_of (τ ∷ τs) = local τ value_local ∷ locals_of τs

-- the code of a function with n parameters: its locals' types and its body
abbrev pub code_of : ℕ → List Ty → Body → Fn
code_of n τs body = record { lifetimes = 0; outlives = []; ty_params = []; givens = 0; params = n; locals = locals_of τs; body = body }

-- what runs as the code does meets the clauses
abbrev pub CodeMeets : {M : Type 1} {𝓤 : Ura M} (𝓛 : Logic 𝓤) (T : Ended) → Clauses 𝓤 T → Fn → Type 2
CodeMeets {𝓤 = 𝓤} 𝓛 T c e = (𝓜 : Model 𝓤 𝓛.H) (𝓡 : Running 𝓤 𝓛.H 𝓜) (k : Callee)
    → Closed 𝓤 𝓛.H (tables 𝓤 𝓛.H 𝓜 𝓡 𝓡.env).C (tables 𝓤 𝓛.H 𝓜 𝓡 𝓡.env).Λ k e → Meets 𝓛 T.signature ((tables 𝓤 𝓛.H 𝓜 𝓡 𝓡.env).C k) (closing 𝓛 T c)

module _ (F : Form) where
  -- a box of what is held, as its pointer
  abbrev pub Unboxed : RattleType
  Unboxed = Loose F.Held heap.the_row heap_laws.the_row_laws ghosts

  abbrev struct : Record
  struct = record {
    name = F.name;
    args = [];
    types = [];
    parts = RawPtr-field ∷ [];
    D = F.Denot;
    as_values = λ d. (F.hidden d, tt);
    Ghost = λ v. Also (Option F.Held.Denot) (λ x. Done);
    ghosts = λ d. (F.value d, tt);
    make = λ v g. F.make v.0 g.0;
    eta = F.eta;
    beta = λ v g i. (F.hides v.0 g.0 i, tt);
  }

  abbrev the_type : Owning
  the_type = owning struct F.codes (λ d. held F.Held (F.hidden d) (F.value d))

  abbrev pub Handle : RattleType
  Handle = row the_type

  module _ {M : Type 1} {𝓤 : Ura M} {𝓛 : Logic 𝓤} {K : Type 0} {Γ : List (Item 𝓤)} {G : Goal 𝓤 𝓛.H} where
    pub handle_in : K → (p : Ptr) (x : Option F.Held.Denot)
        → Step K 𝓛 (‵ (Handle.own_val (F.make p x) (one p ∷ [])) ∷ Γ) G (‵ (held F.Held p x) ∷ Γ) G
    handle_in t p x = step (λ s. let v : Val = one p in let d : F.Denot = F.make p x in
        rewrite t 0 (λ (q : Ptr). ‵ (held F.Held q x)) (sym (F.hides p x)) refl $
        rewrite t 0 (λ (y : Option F.Held.Denot). ‵ (held F.Held (F.hidden d) y)) (sym (F.holds p x)) refl $
        nothing t $ feq_i t (List Val) (ptr_val p ∷ []) (ptr_val (F.hidden d) ∷ []) (ap (λ (q : Ptr). ptr_val q ∷ []) (sym (F.hides p x))) $ fjoin t $
        feq_i t (List Val) (v ∷ []) (v ∷ []) refl $ fjoin t $
        fpack t (Valss (RawPtr ∷ [])) (within (shape the_type) (F.hidden d, tt) (v ∷ [])) (ptr_val p ∷ [], tt) $ fjoin t $ s)

    pub handle_out : K → (d : F.Denot) (vs : List Val)
        → (vs ≡ one (F.hidden d) ∷ [] → Seq K 𝓛 (‵ (held F.Held (F.hidden d) (F.value d)) ∷ Γ) G)
        → Seq K 𝓛 (‵ (Handle.own_val d vs) ∷ Γ) G
    handle_out t d vs k =
        fsplit t $ fpick t (λ vss. fsplit t $ feq_l t (λ ev. fsplit t $ feq_l t (λ ep. drop t $ k
        (subst (λ (ps : List Val). vs ≡ vstruct (of_list (ps ++ [])) ∷ []) ep ev))))
