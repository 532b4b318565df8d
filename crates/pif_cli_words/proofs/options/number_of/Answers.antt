use Rattle.pif_cli_words.proofs.OptionsLemmas.{number_read, number_refused}
use Rattle.pif_cli_words.proofs.options.number_of.Goals as goal

pub returns-then-number-high-clause-value : goal.returns-then-number-high-clause-value
returns-then-number-high-clause-value c =
    let read = c.in-Ok.ensures.value.0 in
    number_read c.args.low c.args.high c.args.text.now c.in-Ok.number read.0.0 read.0.1 read.1 c.if-number-low.true
    c.if-number-high.true

pub returns-in-Err-clause-value : goal.returns-in-Err-clause-value
returns-in-Err-clause-value c = number_refused c.args.low c.args.high c.args.text.now c.in-Err.ensures.value.0
