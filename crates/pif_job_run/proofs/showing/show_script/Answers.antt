use Rattle.std.proofs.Common.{ap, map, subst, sym}
use Rattle.std.specs.Io.KnownBytes.{Appends}
use Rattle.std.proofs.KnownBytes.{Keeps-trans}
use Rattle.std.proofs.lemmas.Result.{err_from_is_err_and, on_ok_weaker}
use Rattle.pif_script_model.specs.Scripts.{reading_of}
use Rattle.pif_script_model.specs.Showing.{Silent}
use Rattle.pif_script.specs.Scanners.{scan_of}
use Rattle.pif_job_run.specs.Shows.{core_scan, shown_text, showing}
use Rattle.pif_job_run.proofs.ShowLemmas.{ended_shown, fed_shown}
use Rattle.pif_job_run.proofs.showing.show_script.Goals as goal

pub returns-in_err-feed-clause-ends : goal.returns-in_err-feed-clause-ends
returns-in_err-feed-clause-ends g c =
    let p = err_from_is_err_and c.from_residual.result c.from_residual.ensures.1 in
    let s = scan_of c.new-scanner.result in
    let t = scan_of c.feed.new.scanner in
    rw (p.1, p.2) (
      fed_shown (core_scan s) (core_scan t) c.args.text.now c.in_err-feed.field-0.0 (ap core_scan c.new-scanner.ensures)
          c.in_err-feed.ensures.answer,
      c.feed.ensures.stays,
      λ e. (
          subst (Silent {A = Unit {0}} s t (g.W.Write.contents c.args.writer.now)
          (g.W.Write.contents c.feed.new.writer)) e c.in_err-feed.ensures.silent
          ).1,
    )

pub returns-clause-ends : goal.returns-clause-ends
returns-clause-ends g c =
    let s = scan_of c.new-scanner.result in
    let t = scan_of c.feed.new.scanner in (
      ended_shown (core_scan s) (core_scan t) c.args.text.now c.in_ok-feed.field-0 c.close.result (ap core_scan c.new-scanner.ensures)
          c.in_ok-feed.ensures.answer c.close.ensures.answer,
      λ front p. c.close.ensures.stays front (c.feed.ensures.stays front p),
      λ e. (
          let last = subst (Silent {A = Unit {0}} t t (g.W.Write.contents c.feed.new.writer)
          (g.W.Write.contents c.close.new.writer)) e c.close.ensures.silent in
          Keeps-trans _ _ _ (c.in_ok-feed.ensures.silent last.0).1 last.1
          ),
    )

pub returns-clause-told : goal.returns-clause-told
unfolding shown_text
returns-clause-told g c =
    let names = map (λ name. name.now) c.args.look.now.names.now in
    let hearing = showing c.args.look.now.detail names in
    let text = c.args.text.now in
    let held = g.W.Write.contents c.args.writer.now in
    let told = subst (λ s. Appends held (g.W.Write.contents c.feed.new.writer) (reading_of hearing s text).text)
    c.new-scanner.ensures c.in_ok-feed.ensures.told.1 in
    on_ok_weaker c.close.result (λ same. subst (λ k. Appends held k (shown_text c.args.look.now.detail names text)) (sym same) told)
    c.close.ensures.told
