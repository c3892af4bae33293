-- What is found and judged of a page, as it is told.
use Rattle.std.proofs.Common.{◌≡◌, ◌↔◌, ℕ, Bool, true, false, List, length, map, IsTrue, codes, ap, ◌∙◌, refl, sym, subst, inl, inr}
use Rattle.std.proofs.lemmas.Bool.{false≢true}
use Rattle.l4_mapdb.specs.declared.Place.{Place}
use Rattle.l4_ipc.specs.Machine.{Machine}
use Rattle.l4_record.specs.declared.links.ChainLink.{ChainLink}
use Rattle.l4_record.specs.Chains.{IsProvenance, IsAbsent}
use Rattle.l4_record.specs.Replays.{IsBootWith, IsReplayed}
use Rattle.l4_lock.specs.Locked.{Lock}
use Rattle.l4_refusals.specs.Texts.{spelled}
use Rattle.l4_c_values.specs.Linked.{link_result, link_given, chain_result}
use Rattle.l4_c_values.specs.declared.links.ChainResult.{ChainResult}
use Rattle.l4_c_values.specs.declared.links.Link.{Link}
use Rattle.l4_c_queries.specs.Traced.{verdict_of}
use Rattle.l4_c_queries.specs.Placed.{placed}
use Rattle.l4_c_queries.specs.Traced.{TracesPage, ProvesLinks}
use Rattle.l4_c_queries.specs.declared.tracing.Verdict.{Verdict}

module _ (l : Lock) (place : Place) where
  pub traced_chain : (links seen : List ChainLink) (count : ℕ) (r : ChainResult) (old new : List Link)
      → (boot : Machine) × IsBootWith l.frames l.kernel.size boot × IsProvenance boot l.history place links
      → seen ≡ links → count ≡ length links → r ≡ chain_result 0 0 1 count → new ≡ placed (map link_result seen) old → TracesPage l place old r new
  traced_chain links seen count r old new found same counted told written =
      inl (found.0, links, found.1, found.2, told ∙ ap (λ (n : ℕ). chain_result 0 0 1 n) counted, written ∙ ap (λ (ls : List ChainLink). placed (map link_result ls) old) same)

  pub traced_none : (r : ChainResult) (old : List Link) → (boot : Machine) × IsBootWith l.frames l.kernel.size boot × IsAbsent boot l.history place
      → r ≡ chain_result 0 0 0 0 → TracesPage l place old r old
  traced_none r old found told = inr (inl (found.0, found.1, found.2, told, refl))

  module _ (given : List Link) (seen : List ChainLink) (same : seen ≡ map link_given given) (says : Bool) (v : Verdict)
      (judged : (boot : Machine) × IsBootWith l.frames l.kernel.size boot × IsReplayed boot l.history × (IsTrue says ↔ IsProvenance boot l.history place seen)) where
    pub judged_right : says ≡ true → v ≡ verdict_of 0 0 → ProvesLinks l place given v
    judged_right right told =
        inl (judged.0, judged.1, subst (λ (ls : List ChainLink). IsProvenance judged.0 l.history place ls) same (judged.3.0 right), told)

    pub judged_wrong : says ≡ false → v ≡ verdict_of (spelled (codes "L7")) 0 → ProvesLinks l place given v
    judged_wrong wrong told =
        inr (inl (judged.0, judged.1, judged.2, (λ is. false≢true (sym wrong ∙ judged.3.1 (subst (λ (ls : List ChainLink). IsProvenance judged.0 l.history place ls) (sym same) is))), told))
