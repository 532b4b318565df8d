-- The writer was empty before.
use Rattle.std.proofs.Common.{ℕ, Some, List, subst}
use Rattle.pif_job_draw.specs.Pictures.{PicturesTo}
use Rattle.pif_c.proofs.shows.picture_whole.Goals as goal

pub returns : goal.returns
returns c = (Some c.write_picture-done.new.reader.now, subst (λ (held : List ℕ). PicturesTo c.args.picture (Some c.args.story.now) (Some c.write_picture-done.new.reader.now) (Some held) (Some c.write_picture-done.new.writer.items) c.write_picture-done.result) c.new-text.ensures.items c.write_picture-done.ensures.pictures)
