use Rattle.std.proofs.Common.{◌≡◌, map, take}
use Rattle.pif_job_parts.specs.Splitting.{part_text}
use Rattle.pif_job_parts.proofs.splitting.texts_of.Given as goal

abbrev pub invariant-loop-part : goal.invariant-loop-part
invariant-loop-part l =
    map (λ text. text.items) l.texts.items ≡ map (part_text l.limits l.lines) (take l.part-index l.parts)
