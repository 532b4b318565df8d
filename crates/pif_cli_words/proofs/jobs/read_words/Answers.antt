use Rattle.std.proofs.Common.{◌∙◌, ℕ, List, None, Some, ap, map, sym, subst}
use Rattle.std.specs.Borrow.{Bor}
use Rattle.clap.specs.Words.{HasKind, Kinds, app_of, found_of}
use Rattle.clap.proofs.FaultLemmas.{failed_up}
use Rattle.pif_cli_words.specs.Words.{refusals_of}
use Rattle.pif_cli_words.proofs.WordsLemmas.{aside_read, clash_read, files_read, job_read, refusals-told, rewrites_read, room-filled, unrefused}
use Rattle.pif_cli_words.proofs.jobs.read_words.Goals as goal

pub returns-in_err-matches-clause-refusals : goal.returns-in_err-matches-clause-refusals
returns-in_err-matches-clause-refusals g c =
    failed_up c.from_residual-in_err-matches.result c.in_err-matches.field-0.0 _
    (refusals_of (map g.S.AsStr.text c.args.words.now)) c.from_residual-in_err-matches.ensures.1
    (refusals-told _ _ (map g.S.AsStr.text c.args.words.now) c.in_err-matches.field-0.0
    (room-filled (λ (word : Bor (List ℕ)). word.now) c.args.room.now.items c.complete.new.out.items c.as_slice.result.now
    (map g.S.AsStr.text c.args.words.now) c.requires c.in_ok-complete.ensures c.as_slice.ensures.value)
    (ap app_of c.into_inner-pif.ensures ∙ c.in_ok-program.ensures.0) c.in_err-matches.ensures.kinds)

pub returns-in-Some-clause-refusals : goal.returns-in-Some-clause-refusals
returns-in-Some-clause-refusals g c =
    clash_read _ _ (map g.S.AsStr.text c.args.words.now) c.in_ok-matches.matches c.in-Some.name.now (found_of c.in-Some.given.now)
    (room-filled (λ (word : Bor (List ℕ)). word.now) c.args.room.now.items c.complete.new.out.items c.as_slice.result.now
    (map g.S.AsStr.text c.args.words.now) c.requires c.in_ok-complete.ensures c.as_slice.ensures.value)
    (ap app_of c.into_inner-pif.ensures ∙ c.in_ok-program.ensures.0)
    c.in_ok-matches.ensures.matches c.in-Some.ensures.name c.in-Some.ensures.rows None
    (sym c.in-None-clash_in.is ∙ c.clash_in.ensures) (unrefused _ _ (ap app_of c.into_inner-pif.ensures ∙ c.in_ok-program.ensures.0) c.in_ok-matches.ensures.kinds)

pub returns-in-Some-clash_in-clause-refusals : goal.returns-in-Some-clash_in-clause-refusals
returns-in-Some-clash_in-clause-refusals g c =
    subst (λ (k : Kinds). HasKind k c.error.result)
    (sym (clash_read _ _ (map g.S.AsStr.text c.args.words.now) c.in_ok-matches.matches c.in-Some.name.now (found_of c.in-Some.given.now)
    (room-filled (λ (word : Bor (List ℕ)). word.now) c.args.room.now.items c.complete.new.out.items c.as_slice.result.now
    (map g.S.AsStr.text c.args.words.now) c.requires c.in_ok-complete.ensures c.as_slice.ensures.value)
    (ap app_of c.into_inner-pif.ensures ∙ c.in_ok-program.ensures.0)
    c.in_ok-matches.ensures.matches c.in-Some.ensures.name c.in-Some.ensures.rows (Some c.in-Some-clash_in.clash)
    (sym c.in-Some-clash_in.is ∙ c.clash_in.ensures) (unrefused _ _ (ap app_of c.into_inner-pif.ensures ∙ c.in_ok-program.ensures.0) c.in_ok-matches.ensures.kinds)))
    c.error.ensures

pub returns-in-Some-clause-job : goal.returns-in-Some-clause-job
returns-in-Some-clause-job g c =
    job_read _ _ (map g.S.AsStr.text c.args.words.now) c.in_ok-matches.matches c.in-Some.name.now (found_of c.in-Some.given.now)
    (room-filled (λ (word : Bor (List ℕ)). word.now) c.args.room.now.items c.complete.new.out.items c.as_slice.result.now
    (map g.S.AsStr.text c.args.words.now) c.requires c.in_ok-complete.ensures c.as_slice.ensures.value)
    (ap app_of c.into_inner-pif.ensures ∙ c.in_ok-program.ensures.0)
    c.in_ok-matches.ensures.matches c.in-Some.ensures.name c.in-Some.ensures.rows _ c.job_named.ensures

pub returns-in-Some-clause-files : goal.returns-in-Some-clause-files
returns-in-Some-clause-files g c =
    files_read _ _ (map g.S.AsStr.text c.args.words.now) c.in_ok-matches.matches c.in-Some.name.now (found_of c.in-Some.given.now)
    (room-filled (λ (word : Bor (List ℕ)). word.now) c.args.room.now.items c.complete.new.out.items c.as_slice.result.now
    (map g.S.AsStr.text c.args.words.now) c.requires c.in_ok-complete.ensures c.as_slice.ensures.value)
    (ap app_of c.into_inner-pif.ensures ∙ c.in_ok-program.ensures.0)
    c.in_ok-matches.ensures.matches c.in-Some.ensures.name c.in-Some.ensures.rows _
    c.in_ok-files_in-in-None-clash_in.ensures

pub returns-in-Some-clause-rewrites : goal.returns-in-Some-clause-rewrites
returns-in-Some-clause-rewrites g c =
    rewrites_read _ _ (map g.S.AsStr.text c.args.words.now) c.in_ok-matches.matches c.in-Some.name.now (found_of c.in-Some.given.now)
    (room-filled (λ (word : Bor (List ℕ)). word.now) c.args.room.now.items c.complete.new.out.items c.as_slice.result.now
    (map g.S.AsStr.text c.args.words.now) c.requires c.in_ok-complete.ensures c.as_slice.ensures.value)
    (ap app_of c.into_inner-pif.ensures ∙ c.in_ok-program.ensures.0)
    c.in_ok-matches.ensures.matches c.in-Some.ensures.name c.in-Some.ensures.rows _ c.rewrites.ensures

pub returns-in-Some-clause-aside : goal.returns-in-Some-clause-aside
returns-in-Some-clause-aside g c =
    aside_read _ _ (map g.S.AsStr.text c.args.words.now) c.in_ok-matches.matches c.in-Some.name.now (found_of c.in-Some.given.now)
    (room-filled (λ (word : Bor (List ℕ)). word.now) c.args.room.now.items c.complete.new.out.items c.as_slice.result.now
    (map g.S.AsStr.text c.args.words.now) c.requires c.in_ok-complete.ensures c.as_slice.ensures.value)
    (ap app_of c.into_inner-pif.ensures ∙ c.in_ok-program.ensures.0)
    c.in_ok-matches.ensures.matches c.in-Some.ensures.name c.in-Some.ensures.rows _ c.aside_in.ensures
