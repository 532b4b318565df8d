use Rattle.pif_job_draw.proofs.PictureLemmas.{holds_joined}
use Rattle.pif_job_draw.proofs.pages.page_of.Goals as goal

pub returns : goal.returns
returns c =
    holds_joined (λ page. page.items) c.as_bytes.result.now c.args.drawing.now c.as_bytes-2.result.now c.args.states.now
    c.as_bytes-3.result.now c.joined.result c.joined.ensures
