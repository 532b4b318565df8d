use Rattle.pif_cli.proofs.Driving.{answers_written, threads_said, unsettled_said}
use Rattle.pif_cli.proofs.drive.drive.Goals as goal

pub returns-in-Ok : goal.returns-in-Ok
returns-in-Ok g c =
    answers_written c.args.clients c.in-Ok.book.answered _ _ c.write_count.result c.in-Ok.ensures.count
    c.write_count.ensures

pub returns-in-Err-Threads : goal.returns-in-Err-Threads
returns-in-Err-Threads g c = threads_said c.args.clients _ _ c.say.result c.say.ensures

pub returns-in-Err-Unsettled : goal.returns-in-Err-Unsettled
returns-in-Err-Unsettled g c =
    unsettled_said c.args.clients _ _ c.say-in-Err-Unsettled.result c.say-in-Err-Unsettled.ensures
