use Rattle.std.proofs.Common.{◌++◌, [], cond, map, subst, sym}
use Rattle.std.specs.Io.KnownBytes.{Appends}
use Rattle.std.specs.Prelude.{OnOk}
use Rattle.std.proofs.KnownBytes.{Appends-nil}
use Rattle.pif_job_run.specs.Shows.{core_told}
use Rattle.pif_job_run.proofs.showing.write_if_ended.Goals as goal

pub returns-then-ends_line-clause-told : goal.returns-then-ends_line-clause-told
returns-then-ends_line-clause-told g c =
    let told = c.args.output.now.items ++ core_told c.args.look.now.detail (map (λ name. name.now) c.args.look.now.names.now) c.args.shown.now in
    subst (λ b. OnOk c.write_line.result (Appends (g.W.Write.contents c.args.writer.now) (g.W.Write.contents c.write_line.new.writer) (cond b told [])))
    (sym c.if-ends_line.true) c.write_line.ensures.told

pub returns-else-ends_line-clause-told : goal.returns-else-ends_line-clause-told
returns-else-ends_line-clause-told g c =
    let told = c.args.output.now.items ++ core_told c.args.look.now.detail (map (λ name. name.now) c.args.look.now.names.now) c.args.shown.now in
    let held = g.W.Write.contents c.args.writer.now in
    subst (λ b. Appends held held (cond b told [])) (sym c.if-ends_line.false) (Appends-nil held)
