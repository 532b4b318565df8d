-- The bit that is taken out of the word is OWNER_DIED.
use Rattle.std.proofs.Common.{◌<◌, ◌≡◌, length, true, arith, subst, sym}
use Rattle.std.proofs.lemmas.List.{length-map}
use Rattle.pif_model.specs.Word.{word_of}
use Rattle.pif_model.specs.Table.{Table, has_mutex}
use Rattle.pif_word.specs.WordMap.{words_of}
use Rattle.pif_mutex.proofs.Assembly.{added_has_word}
use Rattle.pif_mutex.proofs.Exchanges.{settled_words, settled_table}
use Rattle.pif_mutex.proofs.state.State.settle_word.Goals as goal

pub returns : goal.returns
returns g c =
    let ws = c.self.inside.words in
    let known = subst (λ (s : Table). has_mutex s c.args.m ≡ true) (sym c.self.view_is) c.requires in
    let short : c.args.m < length ws.mutexes =
    subst (λ n. c.args.m < n) (length-map ws.mutexes word_of)
    (added_has_word c.self.invariant.assembled c.args.m known) in
    rw (← c.self.view_is)
    (settled_table _ c.args.m (words_of c.fetch_and.new.self)
    (settled_words ws c.fetch_and.new.self c.args.m short
    (omega (arith, c.fetch_and.ensures.value, c.fetch_and.type_inv)) c.fetch_and.ensures.stored))
