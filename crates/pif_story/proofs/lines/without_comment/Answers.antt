use Rattle.pif_script_model.proofs.LinesLemmas.{comment_cut}
use Rattle.pif_story.proofs.lines.without_comment.Goals as goal

pub returns-clause-text : goal.returns-clause-text
returns-clause-text c =
    comment_cut c.args.text.now c.first_of-end.result c.first_of-end.ensures.within c.first_of-end.ensures.before
    c.first_of-end.ensures.found
