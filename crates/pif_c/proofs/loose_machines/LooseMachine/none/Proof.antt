-- `none` makes a loose machine of the null pointer, which owns nothing but the handle of the heap.
use Rattle.pif_c.proofs.Words.{[], ◌∷◌, ◌++◌, List, Val, vnull, vstruct, of_list, refl, false, emp, ftrue, fsep, tables, WpFn, ‵, raw, ◌⊛◌, prop, ◌$◌, ◌∵◌, !, qed, move, drop, join, split, fsplit, fjoin, fpack, feq_i, suffices, regoal, done, agg, lit, lit<, no_more, and_then, returns, enter, alloc_all, pass_all, free_all, look_at, get, sets, yes, nothing, Stays, says, stay_dropped, walk_of, ends_at, Goes-dropped, proved_at, handle_tells, Valss, null_ptr, ptr_val, within, shape, fields, to}
use Rattle.std_alloc.proofs.ResultValues.{and_tt}
use Rattle.pif_c.proofs.HandedMachine.{the_box, heap_slot, heap_row, loose_row}
use Rattle.pif_c.specs.LooseMachines.{no_running}
use Rattle.pif_c.specs.contracts.loose_machines.LooseMachine.{the_type}
use Rattle.pif_c.specs.contracts.loose_machines.LooseMachine.none as f
use Rattle.pif_c.proofs.loose_machines.LooseMachine.none.Statement.{statement}
use Rattle.pif_c.proofs.loose_machines.LooseMachine.none.Code as code

abbrev stayed : Stays f.ended.signature.params f.ended.kept
stayed = (stay_dropped heap_slot yes, tt)

pub none_spec : {M : Type 1} → statement M
none_spec 𝓤 𝓛 𝓜 𝓡 wired =
    let c = f.clauses 𝓛 𝓜.mem 𝓡.returns in let W = walk_of 𝓛 f.ended stayed c in let 𝓣 = tables 𝓤 𝓛.H 𝓜 𝓡 𝓡.env in
    proved_at 𝓛 f.ended stayed c 𝓜 𝓡 (Goes-dropped 𝓛 0 heap_slot yes (λ κs x w. refl), tt)
    f.Key.name code.function (code.unfolded 𝓤 𝓛.H 𝓜 𝓡 wired) (λ y are.
    let alloc = y.0.3.0 in
    let made : loose_row.Denot = record { at = null_ptr; alloc = alloc; holds = false; running = no_running } in
    qed 𝓛 ((‵ ftrue ⊛ ‵ (fsep (heap_row.own_val alloc y.0.4.0) ftrue)) ∷ raw (emp 𝓤) ∷ []) ∵ split ! $ drop ! $ fsplit ! $
    handle_tells the_box.al ! alloc y.0.4.0 (λ hv eh fits. move ! (1 ∷ 2 ∷ []) $ drop ! $ drop ! $
    let w : Val = vstruct (of_list (vnull ∷ hv ∷ [])) in
    regoal ! (λ vs. prop (WpFn 𝓤 𝓛.H 𝓣.C 𝓣.Λ code.function (vs ++ []) (W.post y))) eh refl $
    -- [the handle of the heap]
    enter ! _ _ _ _ _ $ alloc_all ! (λ l. pass_all ! refl (fits, tt) $
    sets ! (agg ! (and_then ! (lit ! tt) (and_then ! (get ! refl) (no_more !)))) refl (and_tt _ fits.0, (record { fits = lit< tt }, (fits.1, tt))) $
    returns ! (look_at ! 0 refl) $ free_all ! refl $
    nothing ! $ nothing ! $ move ! (2 ∷ 0 ∷ []) $ fjoin ! $ feq_i ! (List Val) (vnull ∷ []) (ptr_val null_ptr ∷ []) refl $ fjoin ! $
    feq_i ! (List Val) (w ∷ []) (w ∷ []) refl $ fjoin ! $
    fpack ! (Valss (fields the_type)) (within (shape the_type) (to the_type made) (w ∷ [])) (vnull ∷ [], (hv ∷ [], tt)) $ fjoin ! $
    suffices ! _ (ends_at 𝓛 f.ended stayed c y w made (tt, tt) (tt, tt)) $ says ! refl $
    nothing ! $ nothing ! $ fjoin ! $ join ! $ nothing ! $ join ! $ done !)))
