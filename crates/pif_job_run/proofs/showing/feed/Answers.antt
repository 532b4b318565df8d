use Rattle.std.proofs.Common.{◌++◌, ◌∙◌, ap, length, length-drop, map, subst, sym, arith, [], None, Ok, refl}
use Rattle.std.specs.Io.KnownBytes.{Appends}
use Rattle.std.specs.Prelude.{◌==◌}
use Rattle.std.proofs.KnownBytes.{Appends-nil, Keeps-refl, Keeps-trans}
use Rattle.std.proofs.lemmas.Bool.Decides.{Decides-eqb}
use Rattle.std.proofs.lemmas.List.{nil_from_length, take_rest}
use Rattle.pif_script_model.specs.Running.{script}
use Rattle.pif_script.specs.Scanners.{scan_of}
use Rattle.pif_script_model.proofs.FeedLemmas.{Feeding-start, Feeds-end, Feeds-unheard}
use Rattle.pif_script_model.proofs.ShowingLemmas.{Feeding-told, Feeds-shown, SilentAt-stopped, Stays-stopped, unheard-before}
use Rattle.pif_job_run.specs.Shows.{behind_part, core_scan, named, showing}
use Rattle.pif_job_run.proofs.HearingLemmas.{core_ended, core_needs, core_took, needs_nobody, told_part}
use Rattle.pif_job_run.proofs.showing.feed.Goals as goal

pub loop-rest-init : goal.loop-rest-init
loop-rest-init g c =
    let names = map (λ name. name.now) c.args.look.now.names.now in (
      Feeding-start script (core_scan (scan_of c.args.scanner.now)) c.args.bytes.now [] None refl,
      Feeding-start (showing c.args.look.now.detail names) (scan_of c.args.scanner.now) c.args.bytes.now []
          (g.W.Write.contents c.args.writer.now) refl,
      λ front p. p,
      λ n. (n, Keeps-refl (g.W.Write.contents c.args.writer.now)),
    )

pub loop-rest-preserved : goal.loop-rest-preserved
loop-rest-preserved g c =
    let s = c.args.bytes.now in
    let rest = c.loop-rest.rest.now in
    let t = scan_of c.loop-rest.scanner in
    let u = scan_of c.read_part.new.scanner in
    let n = c.in-Ok.count in
    let detail = c.args.look.now.detail in
    let names = map (λ name. name.now) c.args.look.now.names.now in
    let answer = c.in-Ok.ensures.answer in
    let told = told_part detail names t rest c.before_feed-plain.result n c.read_part.new.output.items u
    c.before_feed-plain.ensures.before c.before_feed-plain.ensures.found c.in-Ok.ensures.within c.in-Ok.ensures.part answer in
    rw take_rest (
      Feeding-told script (core_scan (scan_of c.args.scanner.now)) s None (core_scan t) rest _ None None (core_scan u) n
          c.loop-rest.invariant.0 (core_took t rest _ _ u n answer) tt,
      Feeding-told (showing detail names) (scan_of c.args.scanner.now) s (g.W.Write.contents c.args.writer.now) t rest _
          (g.W.Write.contents c.loop-rest.writer) (g.W.Write.contents c.end_part.new.writer) u n
          c.loop-rest.invariant.1 told c.in-Ok-end_part.ensures.told,
      λ front p. c.end_part.ensures.stays front (c.loop-rest.invariant.2 front p),
      λ n.
          let q = c.loop-rest.invariant.3 (unheard-before named t u rest _ _ _ answer n) in
          (q.0, Keeps-trans _ _ _ q.1 (c.end_part.ensures.silent n)),
    )

pub returns-in-Err-Ended-clause-answer : goal.returns-in-Err-Ended-clause-answer
returns-in-Err-Ended-clause-answer g c =
    let s = c.args.bytes.now in
    let t = scan_of c.loop-rest.scanner in
    let u = scan_of c.read_part.new.scanner in
    let rest = c.loop-rest.rest.now in
    let answer = rw c.in-Err-Ended.field-0-is at c.in-Err-Ended.ensures.answer in
    let stopped = rw c.in-Err-Ended.field-0-is at c.stop_showing.ensures.1 in
    Feeds-shown script (core_scan (scan_of c.args.scanner.now)) s (core_scan t) rest _ c.stop_showing.ensures.0 _ _
    (core_scan u) (core_scan u) c.in-Err-Ended.end c.stop_showing.result c.loop-rest.invariant.0
    (core_ended t rest _ _ u c.in-Err-Ended.end answer) stopped

pub returns-in-Err-Ended-clause-stays : goal.returns-in-Err-Ended-clause-stays
returns-in-Err-Ended-clause-stays g c =
    let stopped = rw c.in-Err-Ended.field-0-is at c.stop_showing.ensures.1 in
    λ front p. Stays-stopped _ _ c.stop_showing.ensures.0 _ c.in-Err-Ended.end c.stop_showing.result stopped front
    (c.loop-rest.invariant.2 front p)

pub returns-in-Err-Ended-clause-silent : goal.returns-in-Err-Ended-clause-silent
returns-in-Err-Ended-clause-silent g c =
    let stopped = rw c.in-Err-Ended.field-0-is at c.stop_showing.ensures.1 in
    SilentAt-stopped (scan_of c.args.scanner.now) _ _ _ _ c.stop_showing.ensures.0 _ c.in-Err-Ended.end
    c.stop_showing.result stopped

pub returns-in-Err-NoMemory-clause-answer : goal.returns-in-Err-NoMemory-clause-answer
returns-in-Err-NoMemory-clause-answer g c =
    let t = scan_of c.loop-rest.scanner in
    let u = scan_of c.read_part.new.scanner in
    let rest = c.loop-rest.rest.now in
    let answer = rw c.in-Err-NoMemory.field-0-is at c.in-Err-NoMemory.ensures.answer in
    Feeds-unheard script (core_scan (scan_of c.args.scanner.now)) c.args.bytes.now None (core_scan t) rest [] [] None
    (core_scan u) (core_scan u) c.loop-rest.invariant.0 (core_needs t rest _ _ u answer)

pub returns-in-Err-NoMemory-clause-silent : goal.returns-in-Err-NoMemory-clause-silent
returns-in-Err-NoMemory-clause-silent g c =
    let answer = rw c.in-Err-NoMemory.field-0-is at c.in-Err-NoMemory.ensures.answer in
    c.loop-rest.invariant.3 (needs_nobody (scan_of c.loop-rest.scanner) c.loop-rest.rest.now answer.0)

pub returns-clause-answer : goal.returns-clause-answer
returns-clause-answer g c =
    Feeds-end script (core_scan (scan_of c.args.scanner.now)) c.args.bytes.now None (core_scan (scan_of c.loop-rest.scanner))
    c.loop-rest.rest.now [] [] None None (Ok tt) c.loop-rest.invariant.0
    (nil_from_length c.loop-rest.rest.now ((Decides-eqb (length c.loop-rest.rest.now) 0).0
    (sym c.is_empty.ensures ∙ c.loop-rest-test.false))) refl tt

pub returns-clause-told : goal.returns-clause-told
returns-clause-told g c =
    let names = map (λ name. name.now) c.args.look.now.names.now in
    let k = g.W.Write.contents c.loop-rest.writer in
    Feeds-end (showing c.args.look.now.detail names) (scan_of c.args.scanner.now) c.args.bytes.now
    (g.W.Write.contents c.args.writer.now) (scan_of c.loop-rest.scanner) c.loop-rest.rest.now [] [] k k (Ok tt)
    c.loop-rest.invariant.1 (nil_from_length c.loop-rest.rest.now ((Decides-eqb (length c.loop-rest.rest.now) 0).0
    (sym c.is_empty.ensures ∙ c.loop-rest-test.false))) refl (Appends-nil k)
