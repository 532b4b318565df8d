use Rattle.pif_cli_words.proofs.commands.program.Goals as goal

pub returns : goal.returns
returns c =
    c.with_command.ensures _
    (c.with_command-random.ensures _
    (c.with_command-migrate.ensures _
    (c.with_command-trace.ensures _
    (c.with_command-replay.ensures _
    (c.with_command-explore.ensures _
    (c.with_command-judge.ensures _
    (c.with_command-check.ensures _
    (c.with_command-shell.ensures _
    (c.with_command-draw.ensures _
    (c.with_command-show.ensures _ (c.with_command-run.ensures _ c.bare_program-bare.ensures)))))))))))
