-- `open` takes a box apart, and the fields own what the box owned.
use Rattle.pif_c.proofs.Words.{◌≡◌, refl, ap, ◌∙◌, [], ◌∷◌, ◌++◌, Fn, Args, Dict, a_type, dcons, dnil, inst_fn, vstruct, of_list, never, fst∗, id⊢, ftrue, fsep, flft, ◌⊑◌, fact, tables, WpFn, framed, sem, ‵, raw, ◌⊛◌, some, later, prop, ◌$◌, ◌∵◌, !, qed, move, drop, use1, join, split, split3, pick, rewrite, fsplit, fjoin, fpick, feq_l, suffices, regoal, await, done, whole, sub, agg, stop, fld, no_more, and_then, of_opd, returns, enter, alloc_all, pass_all, free_all, look_at, get, get_in, sets, lands_as, no, bounded, Ptr, RawPtr, block_ptr, null_ptr, ptr_val, in_a_block, plain, heard, nothing, only, Tuple, calls_at, Ended, triple_of, Stays, says, stay_dropped, walk_of, ends_at, proved_at, token, handle_tells, Goes-blank, box_owns, Bx, D, R, P, B, word, box_typed, box_out, box_in, RattleType}
use mir.Raw.{raw as bare}
use Rattle.std_alloc.proofs.BoxSteps.Form.{τ}
use Rattle.pif_c.specs.contracts.loose.Opened as opened
use Rattle.std_alloc.specs.contracts.boxed.Box.into_raw_with_allocator as g
use Rattle.std_alloc.proofs.boxed.Box.into_raw_with_allocator.Met.{met}
use Rattle.pif_c.specs.contracts.loose.Opened.open as f
use Rattle.pif_c.proofs.loose.Opened.open.Statement.{statement}
use Rattle.pif_c.proofs.loose.Opened.open.Code as code

module _ (E : Bx) (glue : Dict) where
  abbrev types : Args
  types = bounded (a_type ∷ a_type ∷ []) (E.row, (E.al.row, tt)) (dcons E.al.d (dcons E.al.drops (dcons glue dnil)))

  abbrev here : Fn
  here = inst_fn types code.function

  abbrev ended : Ended
  ended = f.ended E.row E.al.row E.al.g E.al.d E.al.drops glue

  abbrev stayed : Stays ended.signature.params ended.kept
  stayed = (stay_dropped (plain (λ _. B E)) no, tt)

  abbrev made_row : RattleType
  made_row = opened.the_row (R E) (P E) E.al.g

pub open_spec : {M : Type 1} → statement M
open_spec 𝓤 𝓛 𝓜 𝓡 wired X A X-laws A-laws ghosts dict drops glue meets drops-meets glue-meets =
    let E : Bx = record { row = X; laws = X-laws; al = record { row = A; laws = A-laws; g = ghosts; d = dict; drops = drops } } in
    let c = f.clauses X A ghosts dict drops glue 𝓛 𝓜.mem 𝓡.returns in let W = walk_of 𝓛 (ended E glue) (stayed E glue) c in
    let 𝓣 = tables 𝓤 𝓛.H 𝓜 𝓡 𝓡.env in let fn = here E glue in
    proved_at 𝓛 (ended E glue) (stayed E glue) c 𝓜 𝓡 (Goes-blank 𝓛 2 (plain (λ _. B E)) no (λ κs x w. tt), tt)
    (f.Key.name (types E glue)) fn (code.unfolded 𝓤 𝓛.H 𝓜 𝓡 wired (X, (A, tt)) dict drops glue) (λ y are.
    let κs = y.0.0 in let qs = y.0.1 in let given = y.0.3.0 in let alloc = given.alloc in
    let alive = ‵ (flft κs.0 qs.0) ⊛ ‵ (flft κs.1.0 qs.1.0) ⊛ ‵ ftrue in
    let within = raw (fact 𝓤 (κs.0 ⊑ X.lives)) ⊛ raw (fact 𝓤 (κs.1.0 ⊑ A.lives)) ⊛ ‵ ftrue in
    qed 𝓛 ((alive ⊛ ‵ (fsep ((B E).own_val given y.0.4.0) ftrue)) ∷ within ∷ []) ∵ split ! $ move ! (1 ∷ []) $ fsplit ! $
    box_out E ! given y.0.4.0 (λ b o hv e ws fits. box_in E ! given b o given.value e refl $
    regoal ! (λ vs. prop (WpFn 𝓤 𝓛.H 𝓣.C 𝓣.Λ fn (vs ++ []) (W.post y))) ws refl $
    -- [the box; true; the tokens; the facts on lifetimes]
    enter ! _ _ _ _ _ $ alloc_all ! (λ ls. pass_all ! refl (box_typed E hv b o fits, tt) $
    sets ! (of_opd ! (get ! refl)) refl (box_typed E hv b o fits) $
    let G = triple_of 𝓛 (g.signature X A ghosts dict drops glue) (g.spec X A ghosts dict drops glue 𝓛 𝓜.mem 𝓡.returns) in
    let z : G.Ghost = ((κs, qs, tt, (given, tt), (word E hv b o ∷ [], tt)), tt) in
    fjoin ! $ move ! (1 ∷ 0 ∷ []) $ join ! $ join ! $ use1 𝓛 (raw (G.pre z)) (id⊢ 𝓤 _) $
    calls_at ! (framed 𝓤 𝓛.H 𝓜 𝓣) G (met 𝓤 𝓛 𝓜 𝓡 (code.calls-std_alloc::boxed::Box::into_raw_with_allocator 𝓡.env wired) X A X-laws A-laws ghosts dict drops glue meets drops-meets glue-meets) z
    (and_then ! (get ! refl) (no_more !)) (λ v.
    use1 𝓛 (later (some (λ (r : Ptr × A.Denot). (alive ⊛ ‵ ((Tuple (RawPtr ∷ P E ∷ [])).own_val r (v ∷ []))) ⊛
    some (λ (_ : (Unit {0} × (Unit {0} × Unit {0})) × Unit {0}). ‵ (fsep (fsep ftrue (fsep ftrue ftrue)) ftrue) ⊛ (raw (fact 𝓤 (r.1 ≡ alloc)) ⊛ ‵ (box_owns (token E.al alloc) (R E) r.0 given.value)))))) (id⊢ 𝓤 _) $
    await ! tt $ pick ! (λ r. split ! $ move ! (1 ∷ []) $ pick ! (λ _. split3 ! $ drop ! $ heard ! (r.1 ≡ alloc) (λ same.
    in_a_block ! r.0 (λ p. box_owns (token E.al alloc) (R E) p given.value) (fst∗ 𝓤 (never 𝓤) (sem 𝓛 (token E.al alloc (bare (τ E)) null_ptr))) (λ b' o' at.
    -- the pair that came back: a pointer and the handle
    move ! (1 ∷ []) $ split ! $ move ! (1 ∷ []) $ fpick ! (λ vss. fsplit ! $ feq_l ! (λ pair. fsplit ! $ feq_l ! (λ first. fsplit ! $
    rewrite ! 0 (λ (h : A.Denot). ‵ (A.own_val h vss.1.0)) same refl $ handle_tells E.al ! alloc vss.1.0 (λ hw eh fits'.
    let typed = box_typed E hw b' o' fits' in
    lands_as ! (ap only (pair ∙ (λ i. vstruct (of_list ((first ∙ ap (λ (p : Ptr). ptr_val p ∷ []) at) i ++ (eh i ++ []))) ∷ []))) refl typed $
    sets ! (of_opd ! (get_in ! (fld ! refl (stop !)) (sub ! 0 refl (whole !)))) refl (tt, tt) $
    sets ! (of_opd ! (get_in ! (fld ! refl (stop !)) (sub ! 1 refl (whole !)))) refl fits' $
    sets ! (of_opd ! (get ! refl)) refl fits' $
    sets ! (agg ! (and_then ! (get ! refl) (and_then ! (get ! refl) (no_more !)))) refl typed $
    returns ! (look_at ! 0 refl) $ free_all ! refl $
    -- [the handle; true; the tokens; what the box owned]
    let boxed : D E = record { ptr = block_ptr b' o'; alloc = alloc; value = given.value } in
    let made : (made_row E glue).Denot = record { at = block_ptr b' o'; alloc = alloc; value = given.value } in
    move ! (3 ∷ []) $ fsplit ! $ box_in E ! boxed b' o' given.value refl refl $
    use1 𝓛 (‵ ((made_row E glue).own_val made (word E hw b' o' ∷ []))) (id⊢ 𝓤 _) $ move ! (1 ∷ []) $ drop ! $
    suffices ! _ (ends_at 𝓛 (ended E glue) (stayed E glue) c y (word E hw b' o') made ((tt, (tt, tt)), tt) (tt, tt)) $ says ! refl $
    nothing ! $ nothing ! $ fjoin ! $ join ! $ move ! (1 ∷ 0 ∷ []) $ join ! $ done !))))))))))))
