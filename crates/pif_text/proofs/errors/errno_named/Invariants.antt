use Rattle.std.proofs.Common.{◌≡◌, drop, bytes_eq}
use Rattle.std.specs.Prelude.{find}
use Rattle.pif_text_model.specs.Errors.{errno_name, error_named, errors}
use Rattle.pif_text.proofs.errors.errno_named.Given as goal

abbrev pub invariant-loop-errno : goal.invariant-loop-errno
invariant-loop-errno l =
    error_named l.name ≡ find (λ errno. bytes_eq l.name (errno_name errno)) (drop l.errno-index errors)
