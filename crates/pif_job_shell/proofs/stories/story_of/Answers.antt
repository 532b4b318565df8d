use Rattle.pif_script_model.specs.CommandLines.{script_lines}
use Rattle.pif_job_shell.proofs.StoryLemmas.{story_filled}
use Rattle.pif_job_shell.proofs.stories.story_of.Goals as goal

pub returns-in-Ok-fill : goal.returns-in-Ok-fill
returns-in-Ok-fill c =
    let told = rw (c.new-story.ensures.items, c.as_slice.ensures.value, c.in-Ok.ensures.lines) at c.in-Ok-fill.ensures in
    let short = rw c.in-Ok.ensures.lines at c.in-Ok.ensures.within in
    story_filled (script_lines c.args.session.now.commands) _ _ _ short told
