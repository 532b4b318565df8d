-- `close` hands what the fields own to the box that `from_raw` makes.
use Rattle.pif_c.proofs.Words.{◌≡◌, refl, sym, subst, ap, [], ◌∷◌, ◌++◌, List, Val, T, WT, has_ty, vptr, Fn, Args, a_type, dcons, dnil, inst_fn, id⊢, ftrue, fsep, flft, ◌⊑◌, fact, tables, WpFn, framed, ‵, raw, ◌⊛◌, some, later, at_ret, prop, ◌$◌, ◌∵◌, !, qed, move, drop, use1, join, split, split3, pick, rewrite, fsplit, fjoin, feq_i, suffices, regoal, await, done, whole, sub, stop, fld, no_more, and_then, of_opd, returns, enter, first, blocks, exec, alloc_all, pass_all, free_all, look_at, get, get_in, sets, lands_last, env, no, bounded, block_ptr, plain, heard, nothing, only, calls_at_last, Ended, triple_of, Stays, says, stay_dropped, walk_of, ends_at, proved_at, Goes-blank, Bx, D, R, P, B, box_ty, box_typed, box_out, box_in, RattleType}
use Rattle.std.proofs.VecSteps.Shapes.{after}
use Rattle.pif_c.specs.contracts.loose.Opened as opened
use Rattle.std_alloc.specs.contracts.boxed.Box.from_raw as g
use Rattle.std_alloc.proofs.boxed.Box.from_raw.Met.{met}
use Rattle.pif_c.specs.contracts.loose.Opened.close as f
use Rattle.pif_c.proofs.loose.Opened.close.Statement.{statement}
use Rattle.pif_c.proofs.loose.Opened.close.Code as code

module _ (E : Bx) where
  abbrev types : Args
  types = bounded (a_type ∷ a_type ∷ []) (E.row, (E.al.row, tt)) (dcons E.al.d (dcons E.al.drops dnil))

  abbrev here : Fn
  here = inst_fn types code.function

  abbrev ended : Ended
  ended = f.ended E.row E.al.row E.al.g E.al.d E.al.drops

  abbrev given_row : RattleType
  given_row = opened.the_row (R E) (P E) E.al.g

  abbrev stayed : Stays ended.signature.params ended.kept
  stayed = (stay_dropped (plain (λ _. given_row)) no, tt)

pub close_spec : {M : Type 1} → statement M
close_spec 𝓤 𝓛 𝓜 𝓡 wired X A X-laws A-laws ghosts dict drops meets drops-meets =
    let E : Bx = record { row = X; laws = X-laws; al = record { row = A; laws = A-laws; g = ghosts; d = dict; drops = drops } } in
    let c = f.clauses X A ghosts dict drops 𝓛 𝓜.mem 𝓡.returns in let W = walk_of 𝓛 (ended E) (stayed E) c in
    let 𝓣 = tables 𝓤 𝓛.H 𝓜 𝓡 𝓡.env in let fn = here E in
    proved_at 𝓛 (ended E) (stayed E) c 𝓜 𝓡 (Goes-blank 𝓛 2 (plain (λ _. given_row E)) no (λ κs x w. tt), tt)
    (f.Key.name (types E)) fn (code.unfolded 𝓤 𝓛.H 𝓜 𝓡 wired (X, (A, tt)) dict drops) (λ y are.
    let κs = y.0.0 in let qs = y.0.1 in let alloc = y.0.3.0.alloc in let value = y.0.3.0.value in
    let boxed : D E = record { ptr = y.0.3.0.at; alloc = alloc; value = value } in
    let alive = ‵ (flft κs.0 qs.0) ⊛ ‵ (flft κs.1.0 qs.1.0) ⊛ ‵ ftrue in
    let in_x = raw (fact 𝓤 (κs.0 ⊑ X.lives)) in let in_a = raw (fact 𝓤 (κs.1.0 ⊑ A.lives)) in
    qed 𝓛 ((alive ⊛ ‵ (fsep ((B E).own_val boxed y.0.4.0) ftrue)) ∷ (in_x ⊛ in_a ⊛ ‵ ftrue) ∷ []) ∵ split ! $ move ! (1 ∷ []) $ fsplit ! $
    box_out E ! boxed y.0.4.0 (λ b o hv e ws fits. fjoin ! $
    regoal ! (λ vs. prop (WpFn 𝓤 𝓛.H 𝓣.C 𝓣.Λ fn (vs ++ []) (W.post y))) ws refl $
    -- [what the box owned; the handle; true; the tokens; the facts on lifetimes]
    enter ! _ _ _ _ _ $ alloc_all ! (λ ls. pass_all ! refl (box_typed E hv b o fits, tt) $
    sets ! (of_opd ! (get_in ! (fld ! refl (stop !)) (sub ! 0 refl (whole !)))) refl (tt, tt) $
    sets ! (of_opd ! (get_in ! (fld ! refl (stop !)) (sub ! 1 refl (whole !)))) refl fits $
    first ! $ blocks ! $ sets ! (of_opd ! (get ! refl)) refl fits $
    let G = triple_of 𝓛 (g.signature X A ghosts dict drops) (g.spec X A ghosts dict drops 𝓛 𝓜.mem 𝓡.returns) in
    let z : G.Ghost = ((κs, qs, tt, (alloc, (block_ptr b o, tt)), (hv ∷ [], (vptr b o ∷ [], tt))), value) in
    move ! (4 ∷ []) $ split3 ! $ move ! (2 ∷ []) $ drop ! $ move ! (1 ∷ 2 ∷ []) $ join ! $ move ! (1 ∷ 0 ∷ []) $ join ! $
    -- [what the call requires; the handle; true; the tokens]
    move ! (2 ∷ []) $ feq_i ! (List Val) (vptr b o ∷ []) (vptr b o ∷ []) refl $ fjoin ! $ move ! (2 ∷ 0 ∷ []) $ fjoin ! $ move ! (2 ∷ 0 ∷ []) $ join ! $ join ! $
    use1 𝓛 (raw (G.pre z)) (id⊢ 𝓤 _) $
    calls_at_last ! (framed 𝓤 𝓛.H 𝓜 𝓣) G (met 𝓤 𝓛 𝓜 𝓡 (code.calls-std_alloc::boxed::Box::from_raw 𝓡.env wired) X A X-laws A-laws ghosts dict drops meets drops-meets) z
    (and_then ! (get ! refl) (and_then ! (get ! refl) (no_more !))) (λ v.
    use1 𝓛 (later (some (λ (r : D E). (alive ⊛ ‵ ((B E).own_val r (v ∷ []))) ⊛
    some (λ (_ : Unit {0} × (Unit {0} × Unit {0})). ‵ (fsep ftrue (fsep ftrue ftrue)) ⊛ (raw (fact 𝓤 (r.value ≡ value)) ⊛ raw (fact 𝓤 (r.alloc ≡ alloc))))))) (id⊢ 𝓤 _) $
    await ! tt $ pick ! (λ r. split ! $ move ! (1 ∷ []) $ pick ! (λ _. split3 ! $ drop ! $ heard ! (r.value ≡ value) (λ same. drop ! $ split ! $ move ! (1 ∷ []) $
    -- the box that came back is one machine value, of its type
    box_out E ! r (v ∷ []) (λ b' o' hw e' wv fits'. box_in E ! r b' o' r.value e' refl $
    rewrite ! 0 (λ (vs : List Val). ‵ ((B E).own_val r vs)) (sym wv) refl $
    let typed : T (has_ty (box_ty E) v) × WT v = subst (λ (u : Val). T (has_ty (box_ty E) u) × WT u) (sym (ap only wv)) (box_typed E hw b' o' fits') in
    lands_last ! refl typed $ exec ! 𝓣.C 𝓣.Λ (env fn.locals ls) (after 3 fn.body) (at_ret (env fn.locals ls) (W.post y)) $
    sets ! (of_opd ! (get ! refl)) refl typed $ returns ! (look_at ! 0 refl) $ free_all ! refl $
    suffices ! _ (ends_at 𝓛 (ended E) (stayed E) c y v r ((tt, (tt, tt)), tt) (tt, tt)) $ says ! same $
    nothing ! $ nothing ! $ fjoin ! $ join ! $ move ! (1 ∷ 0 ∷ []) $ join ! $ done !))))))))
