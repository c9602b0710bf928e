-- `into_raw_box` gives the pointer back.
use Rattle.std.proofs.Common.{◌≡◌, List, [], ◌∷◌, ◌++◌, refl, sym, subst}
use mir.Raw.{raw as bare}
use mir.Val.{Val, vptr, vstruct, vcons, vnil, of_list}
use base.Logic.{SProp, ent, emp, id⊢, never, fst∗}
use prog.Wp.{WpFn}
use types.Logic.{sem}
use types.Kit.{‵, raw, ◌⊛◌, ◌$◌, ◌∵◌, !, qed, by, move, keep, drop, split, suffices, fsplit, fpick, feq_l, fjoin, use0, rewrite}
use types.Run.{stop, fld, of_opd, no_more, and_then, returns, enter}
use types.ByLocal.{alloc_all, pass_all, free_all, look_at, get, get_in, sets}
use types.Part.{agg, sub, whole}
use contract.Monad.{fact, fact_i}
use contract.Running.{tables}
use denote.Memory.{lone}
use denote.RattleType.{RattleType, owns}
use denote.RawPtr.{Ptr, block_ptr, null_ptr, ptr_val, in_a_block}
use denote.Signature.{types_at, plain}
use denote.Steps.{nothing, heard}
use denote.Triple.Entry.{alive}
use denote.Triple.Walked.{Stays, stay_dropped, walk_of, Goes-dropped}
use Rattle.std.specs.Prelude.{Option, Some}
use Rattle.std.specs.Box.Ownership.{box_owns}
use Rattle.std.proofs.alloc.Calls.{handle_tells}
use Rattle.std.specs.contracts.alloc.Global as heap
use Rattle.std.proofs.alloc.Global.TheLaws as heap_laws
use Rattle.std.specs.contracts.impls.GlobalAllocator.TheImpl.{ghosts}
use Rattle.oer_c.specs.contracts.shared.Shared as known
use Rattle.oer_c.specs.declared.shared.Shared.{Shared}
use Rattle.std.proofs.raw_atomic.Walks.{proved_at, leaves}
use Rattle.oer_c.specs.Held.{flag, holds}
use Rattle.oer_c.proofs.Flags.{one_held}
use Rattle.oer_c.proofs.Values.{both, al, raw_box_good, raw_box_in}
use Rattle.oer_c.specs.contracts.held.Held as held
use Rattle.oer_c.specs.contracts.held.Held.into_raw_box as f
use Rattle.oer_c.proofs.held.Held.into_raw_box.Statement.{statement}
use Rattle.oer_c.proofs.held.Held.into_raw_box.Code as code

pub into_raw_box_spec : {M : Type 1} → statement M
into_raw_box_spec 𝓤 𝓛 𝓜 𝓡 wired =
    let c = f.clauses 𝓛 𝓜.mem 𝓡.returns in let 𝓣 = tables 𝓤 𝓛.H 𝓜 𝓡 𝓡.env in
    let R : RattleType = known.the_row in let Z : RattleType = heap.the_row in let L = heap_laws.the_row_laws in
    let hs : Stays f.ended.signature.params f.ended.kept = (stay_dropped (plain (λ _. held.the_row)) f.ended.kept.0, (stay_dropped (plain (λ _. Z)) f.ended.kept.1.0, tt)) in
    proved_at 𝓛 f.ended hs c 𝓜 𝓡 (Goes-dropped 𝓛 0 (plain (λ _. held.the_row)) f.ended.kept.0 (λ κs x w. refl), (Goes-dropped 𝓛 0 (plain (λ _. Z)) f.ended.kept.1.0 (λ κs x w. refl), tt)) f.Key.name code.function (code.unfolded 𝓤 𝓛.H 𝓜 𝓡 wired) (λ z are.
    let Post : Val → SProp 𝓤 = (walk_of 𝓛 f.ended hs c).post z in let Run : List Val → SProp 𝓤 = λ ws. WpFn 𝓤 𝓛.H 𝓣.C 𝓣.Λ code.function ws Post in
    let d = z.0.3.0 in let a = z.0.3.1.0 in let vs = z.0.4.0 in
    qed 𝓛 ((raw (alive 𝓛 f.signature z.0.0 z.0.1) ⊛ ‵ (owns (types_at f.signature.params z.0.0) z.0.3 z.0.4)) ∷ raw (fact 𝓤 (flag d.shared ≡ 0 → ⊥)) ∷ []) ∵ move ! (1 ∷ []) $ heard ! (flag d.shared ≡ 0 → ⊥) (λ some. let is_one = one_held d.shared some in let t = is_one.0 in let es = is_one.1 in split ! $ move ! (1 ∷ []) $ fsplit ! $
    fsplit ! $ fpick ! (λ vss. fsplit ! $ feq_l ! (λ ev. fsplit ! $ feq_l ! (λ ep. drop ! $
    rewrite ! 0 (λ (x : Option Shared). ‵ (holds d.at x)) es refl $
    in_a_block ! d.at (λ p. box_owns (ghosts.dealloc_token a) R p t) (fst∗ 𝓤 (never 𝓤) (sem 𝓛 (ghosts.dealloc_token a (bare (lone R.mir)) null_ptr))) (λ b o e.
    move ! (1 ∷ []) $ fsplit ! $ handle_tells (al R Z L ghosts) ! a z.0.4.1.0 (λ h eh fits.
    let w : Val = vstruct (vcons (vptr b o) vnil) in let v : Val = both (vptr b o) h in
    let is : vs ≡ w ∷ [] = subst (λ (p : Ptr). vs ≡ vstruct (of_list (ptr_val p ∷ [])) ∷ []) e (subst (λ (ps : List Val). vs ≡ vstruct (of_list (ps ++ [])) ∷ []) ep ev) in
    suffices ! (Run (w ∷ h ∷ [])) (subst (λ (us : List Val). ent 𝓤 (Run (w ∷ h ∷ [])) (Run us)) (sym (λ i. is i ++ (eh i ++ []))) (id⊢ 𝓤 (Run (w ∷ h ∷ [])))) $
    enter ! 𝓣.C 𝓣.Λ code.function (w ∷ h ∷ []) Post $ alloc_all ! (λ l. pass_all ! refl ((tt, (tt, tt)), (fits, tt)) $
    sets ! (of_opd ! (get_in ! (fld ! refl (stop !)) (sub ! 0 refl (whole !)))) refl (tt, tt) $ sets ! (of_opd ! (get ! refl)) refl (tt, tt) $
    sets ! (agg ! (and_then ! (get ! refl) (and_then ! (get ! refl) (no_more !)))) refl (raw_box_good R Z L ghosts b o h fits) $
    returns ! (look_at ! 0 refl) $ free_all ! refl $
    move ! (2 ∷ 0 ∷ []) $ raw_box_in R Z L ghosts ! b o h a t $
    use0 𝓛 (raw (fact 𝓤 (d.shared ≡ Some t))) (fact_i 𝓤 (d.shared ≡ Some t) (emp 𝓤) es) $ nothing ! $ nothing ! $ fjoin ! $ nothing ! $ fjoin ! $ keep ! (4 ∷ 0 ∷ 2 ∷ 1 ∷ []) $
    by ! (leaves 𝓛 f.ended hs c z v (record { at = block_ptr b o; alloc = a; value = t }) _ (tt, (tt, tt)))))))))))
