-- `of` hands the two fields of an opened box on, and what they own goes along.
use Rattle.pif_c.proofs.Words.{[], ◌∷◌, ◌++◌, refl, true, emp, id⊢, ftrue, fsep, tables, WpFn, ‵, raw, ◌⊛◌, prop, ◌$◌, ◌∵◌, !, qed, move, drop, use1, join, split, fsplit, fjoin, suffices, regoal, done, whole, sub, agg, stop, fld, no_more, and_then, of_opd, returns, enter, alloc_all, pass_all, free_all, look_at, get, get_in, sets, yes, nothing, Stays, says, stay_dropped, walk_of, ends_at, Goes-dropped, proved_at, D, B, word, box_typed, box_out, box_in}
use Rattle.pif_c.proofs.HandedMachine.{the_box, opened, loose_row}
use Rattle.pif_c.specs.contracts.loose_machines.LooseMachine.of as f
use Rattle.pif_c.proofs.loose_machines.LooseMachine.of.Statement.{statement}
use Rattle.pif_c.proofs.loose_machines.LooseMachine.of.Code as code

abbrev stayed : Stays f.ended.signature.params f.ended.kept
stayed = (stay_dropped opened yes, tt)

pub of_spec : {M : Type 1} → statement M
of_spec 𝓤 𝓛 𝓜 𝓡 wired =
    let c = f.clauses 𝓛 𝓜.mem 𝓡.returns in let W = walk_of 𝓛 f.ended stayed c in let 𝓣 = tables 𝓤 𝓛.H 𝓜 𝓡 𝓡.env in
    proved_at 𝓛 f.ended stayed c 𝓜 𝓡 (Goes-dropped 𝓛 0 opened yes (λ κs x w. refl), tt)
    f.Key.name code.function (code.unfolded 𝓤 𝓛.H 𝓜 𝓡 wired) (λ y are.
    let given : D the_box = record { ptr = y.0.3.0.at; alloc = y.0.3.0.alloc; value = y.0.3.0.value } in
    let made : loose_row.Denot = record { at = given.ptr; alloc = given.alloc; holds = true; running = given.value } in
    qed 𝓛 ((‵ ftrue ⊛ ‵ (fsep ((B the_box).own_val given y.0.4.0) ftrue)) ∷ raw (emp 𝓤) ∷ []) ∵ split ! $ drop ! $ fsplit ! $
    box_out the_box ! given y.0.4.0 (λ b o hv e ws fits. box_in the_box ! given b o given.value e refl $
    use1 𝓛 (‵ (loose_row.own_val made (word the_box hv b o ∷ []))) (id⊢ 𝓤 _) $ move ! (1 ∷ 2 ∷ []) $ drop ! $ drop ! $
    regoal ! (λ vs. prop (WpFn 𝓤 𝓛.H 𝓣.C 𝓣.Λ code.function (vs ++ []) (W.post y))) ws refl $
    -- [the loose machine]
    enter ! _ _ _ _ _ $ alloc_all ! (λ l. pass_all ! refl (box_typed the_box hv b o fits, tt) $
    sets ! (of_opd ! (get_in ! (fld ! refl (stop !)) (sub ! 0 refl (whole !)))) refl (tt, tt) $
    sets ! (of_opd ! (get_in ! (fld ! refl (stop !)) (sub ! 1 refl (whole !)))) refl fits $
    sets ! (of_opd ! (get ! refl)) refl (tt, tt) $
    sets ! (agg ! (and_then ! (get ! refl) (and_then ! (get ! refl) (no_more !)))) refl (box_typed the_box hv b o fits) $
    returns ! (look_at ! 0 refl) $ free_all ! refl $
    suffices ! _ (ends_at 𝓛 f.ended stayed c y (word the_box hv b o) made (tt, tt) (tt, tt)) $ says ! (refl, refl) $
    nothing ! $ nothing ! $ fjoin ! $ join ! $ nothing ! $ join ! $ done !)))
