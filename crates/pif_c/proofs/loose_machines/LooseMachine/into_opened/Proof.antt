-- `into_opened` hands the two fields of a loose machine on, which holds one, and what they own goes along.
use Rattle.pif_c.proofs.Words.{◌≡◌, [], ◌∷◌, ◌++◌, refl, true, Bool, fact, id⊢, ftrue, fsep, tables, WpFn, ‵, raw, ◌⊛◌, prop, ◌$◌, ◌∵◌, !, qed, move, drop, use1, join, split, rewrite, fsplit, fjoin, suffices, regoal, done, whole, sub, agg, stop, fld, no_more, and_then, of_opd, returns, enter, alloc_all, pass_all, free_all, look_at, get, get_in, sets, yes, heard, nothing, Stays, says, stay_dropped, walk_of, ends_at, Goes-dropped, proved_at, D, B, word, box_typed, box_out, box_in}
use Rattle.pif_c.proofs.HandedMachine.{the_box, loose, loose_row, opened_row}
use Rattle.pif_c.specs.contracts.loose_machines.LooseMachine.into_opened as f
use Rattle.pif_c.proofs.loose_machines.LooseMachine.into_opened.Statement.{statement}
use Rattle.pif_c.proofs.loose_machines.LooseMachine.into_opened.Code as code

abbrev stayed : Stays f.ended.signature.params f.ended.kept
stayed = (stay_dropped loose yes, tt)

pub into_opened_spec : {M : Type 1} → statement M
into_opened_spec 𝓤 𝓛 𝓜 𝓡 wired =
    let c = f.clauses 𝓛 𝓜.mem 𝓡.returns in let W = walk_of 𝓛 f.ended stayed c in let 𝓣 = tables 𝓤 𝓛.H 𝓜 𝓡 𝓡.env in
    proved_at 𝓛 f.ended stayed c 𝓜 𝓡 (Goes-dropped 𝓛 0 loose yes (λ κs x w. refl), tt)
    f.Key.name code.function (code.unfolded 𝓤 𝓛.H 𝓜 𝓡 wired) (λ y are.
    let l = y.0.3.0 in
    let boxed : D the_box = record { ptr = l.at; alloc = l.alloc; value = l.running } in
    let made : opened_row.Denot = record { at = l.at; alloc = l.alloc; value = l.running } in
    qed 𝓛 ((‵ ftrue ⊛ ‵ (fsep (loose_row.own_val l y.0.4.0) ftrue)) ∷ raw (fact 𝓤 (l.holds ≡ true)) ∷ []) ∵ move ! (1 ∷ []) $ heard ! _ (λ holds.
    split ! $ drop ! $ fsplit ! $
    rewrite ! 0 (λ (x : Bool). ‵ (loose_row.own_val (record l { holds = x }) y.0.4.0)) holds refl $
    use1 𝓛 (‵ ((B the_box).own_val boxed y.0.4.0)) (id⊢ 𝓤 _) $
    box_out the_box ! boxed y.0.4.0 (λ b o hv e ws fits. box_in the_box ! boxed b o boxed.value e refl $
    use1 𝓛 (‵ (opened_row.own_val made (word the_box hv b o ∷ []))) (id⊢ 𝓤 _) $ move ! (1 ∷ []) $ drop ! $
    regoal ! (λ vs. prop (WpFn 𝓤 𝓛.H 𝓣.C 𝓣.Λ code.function (vs ++ []) (W.post y))) ws refl $
    -- [the opened box]
    enter ! _ _ _ _ _ $ alloc_all ! (λ ls. pass_all ! refl (box_typed the_box hv b o fits, tt) $
    sets ! (of_opd ! (get_in ! (fld ! refl (stop !)) (sub ! 0 refl (whole !)))) refl (tt, tt) $
    sets ! (of_opd ! (get_in ! (fld ! refl (stop !)) (sub ! 1 refl (whole !)))) refl fits $
    sets ! (of_opd ! (get ! refl)) refl (tt, tt) $
    sets ! (agg ! (and_then ! (get ! refl) (and_then ! (get ! refl) (no_more !)))) refl (box_typed the_box hv b o fits) $
    returns ! (look_at ! 0 refl) $ free_all ! refl $
    suffices ! _ (ends_at 𝓛 f.ended stayed c y (word the_box hv b o) made (tt, tt) (tt, tt)) $ says ! refl $
    nothing ! $ nothing ! $ fjoin ! $ join ! $ nothing ! $ join ! $ done !))))
