use Rattle.std.proofs.Common.{◌≡◌, ◌∙◌, None, Some, ap, map, subst, sym}
use Rattle.std.specs.Io.KnownBytes.{Appends}
use Rattle.std.specs.Prelude.{OnOk, option_copied}
use Rattle.std.proofs.KnownBytes.{Appends-nil, Keeps-refl}
use Rattle.std.proofs.lemmas.Option.{none-some}
use Rattle.pif_script.specs.Scanners.{scan_of}
use Rattle.pif_job_run.specs.Shows.{behind_part}
use Rattle.pif_job_run.proofs.showing.end_part.Goals as goal

pub returns-in-Some-clause-told : goal.returns-in-Some-clause-told
returns-in-Some-clause-told g c =
    let is : (scan_of c.args.scanner.now).listener ≡ Some c.in-Some.shown.now = sym c.listener.ensures ∙ ap option_copied c.in-Some.is in
    subst (λ l. OnOk c.write_if_ended.result (Appends (g.W.Write.contents c.args.writer.now) (g.W.Write.contents c.write_if_ended.new.writer)
    (behind_part c.args.look.now.detail (map (λ name. name.now) c.args.look.now.names.now) c.args.ends_line c.args.output.now.items l)))
    (sym is) c.write_if_ended.ensures.told

pub returns-in-Some-clause-silent : goal.returns-in-Some-clause-silent
returns-in-Some-clause-silent g c =
    λ n. absurd (none-some _ (sym n ∙ sym c.listener.ensures ∙ ap option_copied c.in-Some.is))

pub returns-in-None-clause-told : goal.returns-in-None-clause-told
returns-in-None-clause-told g c =
    let is : (scan_of c.args.scanner.now).listener ≡ None = sym c.listener.ensures ∙ ap option_copied c.in-None.is in
    let held = g.W.Write.contents c.args.writer.now in
    subst (λ l. Appends held held
    (behind_part c.args.look.now.detail (map (λ name. name.now) c.args.look.now.names.now) c.args.ends_line c.args.output.now.items l))
    (sym is) (Appends-nil held)

pub returns-in-None-clause-silent : goal.returns-in-None-clause-silent
returns-in-None-clause-silent g c = λ n. Keeps-refl (g.W.Write.contents c.args.writer.now)
