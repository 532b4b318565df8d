-- The bits of the word are those that its parts give.
use Rattle.std.proofs.Common.{◌≡◌, ◌<◌, length, true, refl, sym, ap, ◌∙◌, arith}
use Rattle.pif_model.specs.Word.{bits_of}
use Rattle.pif_model.specs.Table.{has_mutex, cell_at}
use Rattle.pif_model_lemmas.proofs.WordBits.{bits_of-word_of}
use Rattle.pif_model_lemmas.proofs.Numbers.{from_within}
use Rattle.pif_mutex.proofs.parts.Parts.word.Goals as goal

pub returns-then-get-mutex_count-clause-value : goal.returns-then-get-mutex_count-clause-value
returns-then-get-mutex_count-clause-value g c =
    let s = c.self.inside.state in
    let below : c.args.m < length s.mutexes = omega
    (arith, c.get.ensures.value, c.mutex_count.ensures.value, c.if-get-mutex_count.true) in
    let known : has_mutex s c.args.m ≡ true = from_within c.args.m (length s.mutexes)
    (omega (arith, c.get.ensures.value, c.get.ensures.range)) below in
    let bits : bits_of (cell_at s c.args.m).word ≡ c.word.result = ap bits_of (sym c.word.ensures)
    ∙ bits_of-word_of c.word.result c.word.type_inv in
    rw (← c.self.view_is, known, bits) refl
