-- A client that had made no call has made these alone.
use Rattle.pif_job_drive.proofs.Driving.{served_from}
use Rattle.pif_job_drive.proofs.drives.serve.Goals as goal

pub end_of-requires : goal.end_of-requires
end_of-requires g c =
    served_from c.make_calls-made.result c.args.mutex c.args.fresh.client.log c.make_calls-made.new.client.log
    c.args.fresh.fresh c.make_calls-made.ensures.answered c.make_calls-made.ensures.requests
