-- The receipt is that of the open call.
use Rattle.std.proofs.Common.{◌∙◌, sym}
use Rattle.pif_desk.proofs.Closings.{closes_last}
use Rattle.pif_desk.proofs.client.Client.resume.Goals as goal

pub returns-clause-closes : goal.returns-clause-closes
returns-clause-closes g c =
    closes_last c.args.self.now c.finish.new.self c.self-2.inside.t c.in_ok-reply.reply.answer c.in_ok-reply.reply.at
    c.in-Some.request (sym c.open_request.ensures ∙ c.in-Some.is) c.in_ok-reply.ensures.answered
