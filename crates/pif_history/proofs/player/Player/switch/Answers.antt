use Rattle.pif_history.proofs.Playing.{plays_hidden}
use Rattle.pif_history.proofs.player.Player.switch.Goals as goal

pub returns : goal.returns
returns c = λ h. plays_hidden c.args.machine.now.rules c.args.machine.now.limits c.args.self.now _ c.args.label.now (c.in_ok-went.ensures c.if-not-went.false) c.in_ok-push.ensures c.requires
