-- The call that is begun, and that a receipt names, is the one that was asked for.
use Rattle.std.proofs.Common.{rules}
use Rattle.pif_desk.proofs.client.Client.call.Goals as goal

pub returns-in_err-reply-clause-left : goal.returns-in_err-reply-clause-left
returns-in_err-reply-clause-left g c = search rules

pub returns-clause-request : goal.returns-clause-request
returns-clause-request g c = search rules
