-- A write of bits is one of the word that they are, and the lines of the calls that make an exchange.
use Rattle.std.proofs.Common.{◌≡◌, ℕ, ◌<◌, Bool, true, false, Some, None, Result, Ok, Err, List, length, bit_and, if◌then◌else◌, refl, sym, ap, ◌∙◌}
use Rattle.std.specs.Result.{is_ok}
use Rattle.std.proofs.lemmas.List.{get_or-map, map-set}
use Rattle.pif_types.specs.declared.requests.Request.{Request}
use Rattle.pif_model.specs.declared.lines.Place.TheVariants.{CallKernel, Take, Give}
use Rattle.pif_model.specs.declared.lines.TakeStep.TheVariants.{LoadHealth}
use Rattle.pif_model.specs.declared.lines.GiveStep.TheVariants.{CallUnlock}
use Rattle.pif_model.specs.declared.lines.Purpose.{Purpose}
use Rattle.pif_model.specs.Word.{Word, Words, free_word, held_by, is_bare, word_of, word_at, set_word, set_cond_word}
use Rattle.pif_model.specs.Table.{Table, cell_at, with_word}
use Rattle.pif_model.specs.Lines.{Outcome, goes_to, ends_by, after_exchange, own_exchange, given_up, give_exchange}
use Rattle.pif_word.specs.declared.cells.Cell.TheVariants.{Mutex, Cond}
use Rattle.pif_word.specs.WordMap.{WordMap, words_of, bits_at, with_bits}
use Rattle.pif_model_lemmas.proofs.WordBits.{word_of-without_died}

-- to write bits is to write the word that they are
write_bits : (ws : WordMap) (m bits : ℕ)
    → words_of (with_bits (Mutex m) bits ws) ≡ set_word (words_of ws) m (word_of bits)
write_bits ws m bits =
    ap (λ (xs : List Word). record { mutexes = xs; healths = ws.healths; conds = ws.conds })
    (map-set word_of ws.mutexes m bits)

-- the words after an exchange by this answer
pub exchanged_words : (b : Bool) (x : ℕ) (r : Result ℕ ℕ) (ws vs : WordMap) (m bits : ℕ)
    → r ≡ (if b then Ok x else Err x)
    → vs ≡ (if b then with_bits (Mutex m) bits ws else ws)
    → words_of vs ≡ (if is_ok r then set_word (words_of ws) m (word_of bits) else words_of ws)
exchanged_words true x r ws vs m bits answer stored = rw (answer, stored) (write_bits ws m bits)
exchanged_words false x r ws vs m bits answer stored = rw (answer, stored) refl

-- the words after an exchange of a condition word
pub exchanged_uses : (b : Bool) (ws vs : WordMap) (c n : ℕ) → vs ≡ (if b then with_bits (Cond c) n ws else ws)
    → words_of vs ≡ (if b then set_cond_word (words_of ws) c n else words_of ws)
exchanged_uses true ws vs c n stored = ap words_of stored
exchanged_uses false ws vs c n stored = ap words_of stored

-- the words after OWNER_DIED was taken out of one
pub settled_words : (ws vs : WordMap) (m : ℕ) → m < length ws.mutexes → bits_at ws (Mutex m) < 4294967296
    → vs ≡ with_bits (Mutex m) (bit_and (bits_at ws (Mutex m)) 3221225471) ws
    → words_of vs ≡ set_word (words_of ws) m (record (word_at (words_of ws) m) { died = false })
settled_words ws vs m short fits stored =
    ap words_of stored ∙ write_bits ws m (bit_and (bits_at ws (Mutex m)) 3221225471)
    ∙ ap (set_word (words_of ws) m)
    (word_of-without_died (bits_at ws (Mutex m)) fits
    ∙ ap (λ (w : Word). record w { died = false }) (sym (get_or-map word_of ws.mutexes m 0 free_word short)))

-- the table after that
pub settled_table : (s : Table) (m : ℕ) (ws : Words)
    → ws ≡ set_word s.words m (record (word_at s.words m) { died = false })
    → record s { words = ws } ≡ with_word m (record (cell_at s m).word { died = false }) s
settled_table s m ws e = ap (λ (v : Words). record s { words = v }) e

-- the table after an exchange that wrote these words, if it did
pub exchanged_table : (b : Bool) (s : Table) (us ws : Words) → ws ≡ (if b then us else s.words)
    → record s { words = ws } ≡ (if b then record s { words = us } else s)
exchanged_table true s us ws e = ap (λ (v : Words). record s { words = v }) e
exchanged_table false s us ws e = ap (λ (v : Words). record s { words = v }) e

-- THE LINES

-- the outcome o is that of the line of an exchange from a bare number n to the word x, which was done and wrote y
exchanged_done : (done failed : Table → Outcome) (m n : ℕ) (x y : Word) (s v : Table) (b : Bool) (o : Outcome) → y ≡ x
    → b ≡ true → b ≡ is_bare (cell_at s m).word n
    → v ≡ (if b then with_word m y s else s) → o ≡ done v
    → o ≡ after_exchange (if is_bare (cell_at s m).word n then Some x else None) m done failed s
unfolding after_exchange
exchanged_done done failed m n x y s v b o is hit bare after ends =
    ends
    ∙ ap done (after ∙ ap (λ (c : Bool). if c then with_word m y s else s) hit ∙ ap (λ (w : Word). with_word m w s) is)
    ∙ ap (λ (c : Bool). after_exchange (if c then Some x else None) m done failed s) (sym hit ∙ bare)

-- and which failed
exchanged_failed : (done failed : Table → Outcome) (m n : ℕ) (x y : Word) (s v : Table) (b : Bool) (o : Outcome)
    → b ≡ false → b ≡ is_bare (cell_at s m).word n
    → v ≡ (if b then with_word m y s else s) → o ≡ failed v
    → o ≡ after_exchange (if is_bare (cell_at s m).word n then Some x else None) m done failed s
unfolding after_exchange
exchanged_failed done failed m n x y s v b o miss bare after ends =
    ends
    ∙ ap failed (after ∙ ap (λ (c : Bool). if c then with_word m y s else s) miss)
    ∙ ap (λ (c : Bool). after_exchange (if c then Some x else None) m done failed s) (sym miss ∙ bare)

-- lock and trylock, done
pub own_exchange_done : (q : Request) (t m : ℕ) (x : Word) (s v : Table) (b : Bool) (o : Outcome) → x ≡ held_by t
    → b ≡ true → b ≡ is_bare (cell_at s m).word 0
    → v ≡ (if b then with_word m x s else s) → o ≡ ends_by t q m (Take (LoadHealth false)) 0 v
    → o ≡ own_exchange q t m s
unfolding own_exchange
own_exchange_done q t m x s v b o =
    exchanged_done (ends_by t q m (Take (LoadHealth false)) 0) (goes_to t q CallKernel) m 0 (held_by t) x s v b o

-- and failed
pub own_exchange_failed : (q : Request) (t m : ℕ) (x : Word) (s v : Table) (b : Bool) (o : Outcome) → b ≡ false
    → b ≡ is_bare (cell_at s m).word 0
    → v ≡ (if b then with_word m x s else s) → o ≡ goes_to t q CallKernel v → o ≡ own_exchange q t m s
unfolding own_exchange
own_exchange_failed q t m x s v b o =
    exchanged_failed (ends_by t q m (Take (LoadHealth false)) 0) (goes_to t q CallKernel) m 0 (held_by t) x s v b o

-- giving up, done
pub give_exchange_done : (q : Request) (y : Purpose) (t m : ℕ) (x : Word) (s v : Table) (b : Bool) (o : Outcome)
    → x ≡ free_word → b ≡ true → b ≡ is_bare (cell_at s m).word t
    → v ≡ (if b then with_word m x s else s) → o ≡ given_up q y t m v → o ≡ give_exchange q y t m s
unfolding give_exchange
give_exchange_done q y t m x s v b o =
    exchanged_done (given_up q y t m) (goes_to t q (Give CallUnlock y)) m t free_word x s v b o

-- and failed
pub give_exchange_failed : (q : Request) (y : Purpose) (t m : ℕ) (x : Word) (s v : Table) (b : Bool) (o : Outcome)
    → b ≡ false → b ≡ is_bare (cell_at s m).word t
    → v ≡ (if b then with_word m x s else s) → o ≡ goes_to t q (Give CallUnlock y) v → o ≡ give_exchange q y t m s
unfolding give_exchange
give_exchange_failed q y t m x s v b o =
    exchanged_failed (given_up q y t m) (goes_to t q (Give CallUnlock y)) m t free_word x s v b o
