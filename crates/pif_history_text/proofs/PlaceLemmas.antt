-- How bytes bring a text from one place to another, and what it comes to at its end.
use Rattle.std.proofs.Common.{◌≡◌, ◌≢◌, ℕ, ◌+◌, ◌-◌, ◌<◌, ◌≤◌, List, [], ◌∷◌, ◌++◌, Bool, true, false, cond, Option, Some, None, Result, Ok, Err, inl, inr, length, get_or, take, drop, refl, sym, ap, ◌∙◌, subst, arith, append_assoc, append-nil, length-append, length-take, take_all, take-append-drop, zero, suc}
use Rattle.std.specs.Prelude.{nat_le}
use Rattle.std.specs.Io.KnownBytes.{Consumes, IsAtEnd, Keeps}
use Rattle.std.proofs.Math.Seq.{take-append-add}
use Rattle.std.proofs.KnownBytes.{Consumes-kept, Consumes-trans}
use Rattle.std.proofs.lemmas.Bool.Decides.{nat_tests}
use Rattle.std.proofs.lemmas.Grind.{take_at_read}
use Rattle.pif_text_model.specs.declared.replies.Cause.{Cause}
use Rattle.pif_text_model.specs.declared.replies.Cause.TheVariants.{Long}
use Rattle.pif_script_model.specs.declared.faults.CliFault.{CliFault}
use Rattle.pif_script_model.specs.declared.faults.CliFault.TheVariants.{Differs, NoMemory, Read, Script, Write}
use Rattle.pif_script_model.specs.Lines.{lines}
use Rattle.pif_history_text.specs.Lines.{is_long}
use Rattle.pif_history_text.specs.Histories.{Heard, after_line, at_end, cut_off, goes_behind, heard_from, history_of, most_bytes, next_number, numbered, unheard}
use Rattle.pif_history_text.specs.Reading.{Brings, Closes, Comes, Gives, HasNoFeed, HasRead, IsCutOff, Place, ReadsHistory, TakesPart, goes_on, start, with_heard}
use Rattle.pif_history_text.proofs.SplitLemmas.{some_lines, lines-ended, lines-one, lines-begun, long_line}

-- ---- one line

by_long : (b : Bool) (h : Heard) (cause : Cause) (other : Result Heard Cause) → b ≡ true
    → ◌≡◌ {A = Result Heard Cause} (cond b (Err cause) other) (Err cause)
by_long true h cause other e = refl
by_long false h cause other e = cc

-- a line that is too long
after_line-long : (h : Heard) (bytes : List ℕ) → is_long (next_number h) bytes ≡ true → after_line h bytes ≡ Err Long
unfolding after_line
after_line-long h bytes e = by_long (is_long (next_number h) bytes) h Long _ e

cut_off-long : (h : Heard) (bytes : List ℕ) → is_long (next_number h) bytes ≡ true
    → cut_off h bytes ≡ Err (next_number h, Long)
cut_off-long h bytes e = rw e refl

-- lines of which the first is too long
heard_from-long : (is_all : Bool) (h : Heard) (b : ℕ) (bs : List ℕ) (more : List (List ℕ))
    → is_long (next_number h) (b ∷ bs) ≡ true → heard_from is_all h ((b ∷ bs) ∷ more) ≡ Err (next_number h, Long)
unfolding heard_from
heard_from-long true h b bs [] e = ap (numbered h) (after_line-long h (b ∷ bs) e)
heard_from-long false h b bs [] e = cut_off-long h (b ∷ bs) e
heard_from-long is_all h b bs (next ∷ more) e =
    ap (λ (r : Result Heard Cause). goes_behind (λ m. heard_from is_all m (next ∷ more)) (numbered h r))
    (after_line-long h (b ∷ bs) e)

-- lines of which the first is not the last
heard_from-ok : (is_all : Bool) (h m : Heard) (bytes next : List ℕ) (more : List (List ℕ)) → after_line h bytes ≡ Ok m
    → heard_from is_all h (bytes ∷ next ∷ more) ≡ heard_from is_all m (next ∷ more)
unfolding heard_from
heard_from-ok is_all h m bytes next more e =
    ap (λ (r : Result Heard Cause). goes_behind (λ m. heard_from is_all m (next ∷ more)) (numbered h r)) e

heard_from-err : (is_all : Bool) (h : Heard) (cause : Cause) (bytes next : List ℕ) (more : List (List ℕ))
    → after_line h bytes ≡ Err cause → heard_from is_all h (bytes ∷ next ∷ more) ≡ Err (next_number h, cause)
unfolding heard_from
heard_from-err is_all h cause bytes next more e =
    ap (λ (r : Result Heard Cause). goes_behind (λ m. heard_from is_all m (next ∷ more)) (numbered h r)) e

heard_from-all : (h : Heard) (bytes : List ℕ) → heard_from true h (bytes ∷ []) ≡ at_end h bytes
unfolding heard_from
heard_from-all h bytes = refl

heard_from-cut : (h : Heard) (bytes : List ℕ) → heard_from false h (bytes ∷ []) ≡ cut_off h bytes
unfolding heard_from
heard_from-cut h bytes = refl

-- ---- places

-- bytes, and further ones
pub Brings-more : (p q r : Place) (a b : List ℕ) (result : Result (Unit {0}) CliFault) → Brings p a q (Ok tt)
    → Brings q b r result → Brings p (a ++ b) r result
Brings-more p q r a b (Ok x) first second = λ is_all rest.
    ap (goes_on is_all p) (append_assoc a b rest) ∙ first is_all (b ++ rest) ∙ second is_all rest
Brings-more p q r a b (Err (Script line cause)) first second = λ is_all rest.
    ap (goes_on is_all p) (append_assoc a b rest) ∙ first is_all (b ++ rest) ∙ second is_all rest
Brings-more p q r a b (Err NoMemory) first second = tt
Brings-more p q r a b (Err Read) first second = second
Brings-more p q r a b (Err Write) first second = second
Brings-more p q r a b (Err (Differs line)) first second = second

-- a fault stands before further bytes, too
pub Brings-fault : (p q r : Place) (a b : List ℕ) (fault : CliFault) → Brings p a q (Err fault)
    → Brings p (a ++ b) r (Err fault)
Brings-fault p q r a b (Script line cause) h = λ is_all rest.
    ap (goes_on is_all p) (append_assoc a b rest) ∙ h is_all (b ++ rest)
Brings-fault p q r a b NoMemory h = tt
Brings-fault p q r a b Read h = h
Brings-fault p q r a b Write h = h
Brings-fault p q r a b (Differs line) h = h

-- some of the bytes are taken, and the rest are not yet
pub record IsTaking (p : Place) (bytes : List ℕ) (q : Place) (rest : List ℕ) : Type 0 where
  pub done : List ℕ
  pub split : bytes ≡ done ++ rest
  pub brings : Brings p done q (Ok tt)

pub IsTaking-more : (p : Place) (bytes : List ℕ) (q r : Place) (rest : List ℕ) (count : ℕ) → IsTaking p bytes q rest
    → Brings q (take count rest) r (Ok tt) → IsTaking p bytes r (drop count rest)
IsTaking-more p bytes q r rest count t b = record {
  done = t.done ++ take count rest;
  split = t.split ∙ ap (λ l. t.done ++ l) (sym (take-append-drop count rest)) ∙ sym (append_assoc t.done (take count rest) (drop count rest));
  brings = Brings-more p q r t.done (take count rest) (Ok tt) t.brings b;
}

pub IsTaking-fault : (p : Place) (bytes : List ℕ) (q r : Place) (rest : List ℕ) (fault : CliFault) → IsTaking p bytes q rest
    → Brings q rest r (Err fault) → Brings p bytes r (Err fault)
IsTaking-fault p bytes q r rest fault t b =
    subst (λ (l : List ℕ). Brings p l r (Err fault)) (sym t.split) (Brings-more p q r t.done rest (Err fault) t.brings b)

HasNoFeed-cons : (x : ℕ) (xs : List ℕ) → x ≢ 10 → HasNoFeed xs → HasNoFeed (x ∷ xs)
HasNoFeed-cons x xs h f zero lt = h
HasNoFeed-cons x xs h f (suc k) lt = f k (omega arith)

HasNoFeed-append : (xs ys : List ℕ) → HasNoFeed xs → HasNoFeed ys → HasNoFeed (xs ++ ys)
HasNoFeed-append [] ys f g = g
HasNoFeed-append (x ∷ xs) ys f g =
    HasNoFeed-cons x (xs ++ ys) (f 0 (omega arith))
    (HasNoFeed-append xs ys (λ k lt. f (suc k) (omega arith)) g)

first-long : (is_all : Bool) (h : Heard) (whole : List ℕ) (more : List (List ℕ)) → is_long (next_number h) whole ≡ true
    → 0 < length whole → heard_from is_all h (whole ∷ more) ≡ Err (next_number h, Long)
first-long is_all h [] more e lt = absurd (omega arith)
first-long is_all h (b ∷ bs) more e lt = heard_from-long is_all h b bs more e

-- bytes that are too many for a line
pub Brings-long : (h : Heard) (line bytes : List ℕ) (q : Place) → HasNoFeed line → HasNoFeed bytes
    → 124 < length line + length bytes
    → Brings (record { heard = h; line = line }) bytes q (Err (Script (next_number h) Long))
Brings-long h line bytes q f g lt is_all rest =
    let begun = lines-begun (line ++ bytes) rest (HasNoFeed-append line bytes f g) in
    let whole = (line ++ bytes) ++ begun.tail in
    let front = length-append line bytes in
    let all = length-append (line ++ bytes) begun.tail in
    ap (λ l. heard_from is_all h (lines l)) (sym (append_assoc line bytes rest)) ∙ ap (heard_from is_all h) begun.is
    ∙ first-long is_all h whole begun.more (long_line (next_number h) whole (omega arith)) (omega arith)

-- an LF that ends a line
pub Brings-ended : (h m : Heard) (line after : List ℕ) → HasNoFeed line → after ≡ [] → after_line h line ≡ Ok m
    → Brings (record { heard = h; line = line }) (10 ∷ []) (record { heard = m; line = after }) (Ok tt)
Brings-ended h m line after f none e = λ is_all rest.
    let ls = some_lines rest in
    ap (heard_from is_all h) (lines-ended line rest f ∙ ap (λ l. line ∷ l) ls.is)
    ∙ heard_from-ok is_all h m line ls.first ls.more e ∙ ap (heard_from is_all m) (sym ls.is)
    ∙ ap (λ (l : List ℕ). heard_from is_all m (lines (l ++ rest))) (sym none)

-- an LF that ends a line which is a fault
pub Brings-ended_fault : (h m : Heard) (line : List ℕ) (q : Place) (fault : CliFault) → HasNoFeed line
    → Comes h (after_line h line) m (Err fault) → Brings (record { heard = h; line = line }) (10 ∷ []) q (Err fault)
Brings-ended_fault h m line q (Script number cause) f e = λ is_all rest.
    let ls = some_lines rest in
    ap (heard_from is_all h) (lines-ended line rest f ∙ ap (λ l. line ∷ l) ls.is)
    ∙ heard_from-err is_all h cause line ls.first ls.more e.1 ∙ ap (λ n. Err (n, cause)) (sym e.0)
Brings-ended_fault h m line q NoMemory f e = tt
Brings-ended_fault h m line q Read f e = absurd e
Brings-ended_fault h m line q Write f e = absurd e
Brings-ended_fault h m line q (Differs number) f e = absurd e

-- a fault among the first of some bytes
pub Brings-front : (p q r : Place) (bytes : List ℕ) (n : ℕ) (fault : CliFault) → Brings p (take n bytes) q (Err fault)
    → Brings p bytes r (Err fault)
Brings-front p q r bytes n fault b =
    subst (λ (l : List ℕ). Brings p l r (Err fault)) (take-append-drop n bytes)
    (Brings-fault p q r (take n bytes) (drop n bytes) fault b)

feed_taken : (bytes : List ℕ) (i : ℕ) → i < length bytes → get_or bytes i 0 ≡ 10
    → take (i + 1) bytes ≡ take i bytes ++ 10 ∷ []
feed_taken bytes i lt e = (take_at_read bytes i 0 lt).1 ∙ ap (λ (b : ℕ). take i bytes ++ b ∷ []) e

pub Brings-line_fault : (p q r s : Place) (bytes : List ℕ) (plain : ℕ) (fault : CliFault) → plain < length bytes
    → get_or bytes plain 0 ≡ 10 → Brings p (take plain bytes) q (Ok tt) → Brings q (10 ∷ []) r (Err fault)
    → Brings p bytes s (Err fault)
Brings-line_fault p q r s bytes plain fault lt e first second =
    Brings-front p r s bytes (plain + 1) fault
    (subst (λ (l : List ℕ). Brings p l r (Err fault)) (sym (feed_taken bytes plain lt e))
    (Brings-more p q r (take plain bytes) (10 ∷ []) (Err fault) first second))

-- ---- the end

history_of-fits : (read : List ℕ) → length read ≤ most_bytes → history_of read ≡ heard_from true unheard (lines read)
unfolding history_of
history_of-fits read le =
    let fits : nat_le (length read) most_bytes ≡ true = grind (arith, nat_tests) in
    rw (fits, take_all most_bytes read le) refl

history_of-whole : (read : List ℕ) (p : Place) → length read ≤ most_bytes → Brings start read p (Ok tt)
    → HasNoFeed p.line → history_of read ≡ at_end p.heard p.line
history_of-whole read p le b f =
    history_of-fits read le ∙ ap (λ l. heard_from true unheard (lines l)) (sym (append-nil read)) ∙ b true []
    ∙ ap (λ l. heard_from true p.heard (lines l)) (append-nil p.line) ∙ ap (heard_from true p.heard) (lines-one p.line f)
    ∙ heard_from-all p.heard p.line

-- all was read
pub reads_to_end : (a b : Option (List ℕ)) (read : List ℕ) (p : Place) (m : Heard) (result : Result (Unit {0}) CliFault)
    → Consumes a b read → IsAtEnd b → length read ≤ most_bytes → Brings start read p (Ok tt) → HasNoFeed p.line
    → Closes p m result → ReadsHistory a b (with_heard m result)
reads_to_end a b read p m (Ok x) c end le brings f closes =
    (read, c, end, history_of-whole read p le brings f ∙ closes)
reads_to_end a b read p m (Err (Script line cause)) c end le brings f closes =
    (read, (c, omega arith), inr (end, history_of-whole read p le brings f ∙ closes))
reads_to_end a b read p m (Err NoMemory) c end le brings f closes = (read, (c, omega arith))
reads_to_end a b read p m (Err Read) c end le brings f closes = absurd closes
reads_to_end a b read p m (Err Write) c end le brings f closes = closes
reads_to_end a b read p m (Err (Differs number)) c end le brings f closes = closes

take-front : (most : ℕ) (read more : List ℕ) → length read ≤ most
    → take most (read ++ more) ≡ read ++ take (most - length read) more
take-front most read more le =
    let parts : most ≡ length read + (most - length read) = omega arith in
    ap (λ n. take n (read ++ more)) parts ∙ take-append-add read more (most - length read)

history_of-stopped : (read more : List ℕ) (p : Place) (line : ℕ) (cause : Cause) → length read ≤ most_bytes
    → Brings start read p (Err (Script line cause)) → history_of (read ++ more) ≡ Err (line, cause)
unfolding history_of
history_of-stopped read more p line cause le b =
    ap (λ l. heard_from (nat_le (length (read ++ more)) most_bytes) unheard (lines l)) (take-front most_bytes read more le)
    ∙ b (nat_le (length (read ++ more)) most_bytes) (take (most_bytes - length read) more)

-- a line was a fault
reads_to_fault : (a b : Option (List ℕ)) (read : List ℕ) (p : Place) (line : ℕ) (cause : Cause) → Consumes a b read
    → length read ≤ most_bytes → Brings start read p (Err (Script line cause)) → ReadsHistory a b (Err (Script line cause))
reads_to_fault a b read p line cause c le brings =
    (read, (c, omega arith), inl (λ more. history_of-stopped read more p line cause le brings))

history_of-large : (read more : List ℕ) (p : Place) → length read ≡ most_bytes → 0 < length more
    → Brings start read p (Ok tt) → HasNoFeed p.line → history_of (read ++ more) ≡ cut_off p.heard p.line
unfolding history_of
history_of-large read more p e lt b f =
    let large : nat_le (length (read ++ more)) most_bytes ≡ false =
    let l = length-append read more in grind (arith, nat_tests) in
    let front : take most_bytes (read ++ more) ≡ read =
    take-front most_bytes read more (omega arith)
    ∙ ap (λ n. read ++ take n more) (let none : most_bytes - length read ≡ 0 = omega arith in none) ∙ append-nil read in
    ap (λ l. heard_from (nat_le (length (read ++ more)) most_bytes) unheard (lines l)) front
    ∙ ap (λ is_all. heard_from is_all unheard (lines read)) large
    ∙ ap (λ l. heard_from false unheard (lines l)) (sym (append-nil read)) ∙ b false []
    ∙ ap (λ l. heard_from false p.heard (lines l)) (append-nil p.line)
    ∙ ap (heard_from false p.heard) (lines-one p.line f) ∙ heard_from-cut p.heard p.line

-- there is one byte more than a history may have
reads_too_much : (a b c : Option (List ℕ)) (read bytes : List ℕ) (p : Place) (fault : CliFault) → Consumes a b read
    → Consumes b c bytes → length read ≡ most_bytes → length bytes ≡ 1 → Brings start read p (Ok tt)
    → HasNoFeed p.line → IsCutOff p fault → ReadsHistory a c (Err fault)
reads_too_much a b c read bytes p (Script line cause) x y e one brings f cut =
    let all = length-append read bytes in (
      read ++ bytes,
      (Consumes-trans a b c read bytes x y, omega arith),
      inl (λ more. ap history_of (append_assoc read bytes more)
          ∙ history_of-large read (bytes ++ more) p e (let l = length-append bytes more in omega arith) brings f ∙ cut),
    )
reads_too_much a b c read bytes p NoMemory x y e one brings f cut = absurd cut
reads_too_much a b c read bytes p Read x y e one brings f cut = absurd cut
reads_too_much a b c read bytes p Write x y e one brings f cut = absurd cut
reads_too_much a b c read bytes p (Differs line) x y e one brings f cut = absurd cut

-- ---- reads

-- a read failed, and nothing was read
failed : (a b c : Option (List ℕ)) (taken : ℕ) (p : Place) → HasRead a b taken p → taken ≤ most_bytes → HasNoFeed p.line
    → Keeps b c → ReadsHistory a c (Err Read)
failed a b c taken p h le f k =
    let same : HasRead a c taken p =
    record { read = h.read; consumes = Consumes-kept a b c h.read h.consumes k; fits = h.fits; brings = h.brings } in
    (taken, p, same, f, le)

-- as much was read as a history may have, and the next read failed
pub full_failed : (a b c : Option (List ℕ)) (chunk : List ℕ) (p : Place) (fault : CliFault) → HasRead a b most_bytes p
    → HasNoFeed p.line → Gives b c chunk (Err fault) → ReadsHistory a c (Err fault)
full_failed a b c chunk p Read h f g = failed a b c most_bytes p h (omega arith) f g
full_failed a b c chunk p NoMemory h f g = absurd g
full_failed a b c chunk p Write h f g = absurd g
full_failed a b c chunk p (Script line cause) h f g = absurd g
full_failed a b c chunk p (Differs line) h f g = absurd g

-- as much was read as a history may have, and there is no more
pub full_closed : (a b c : Option (List ℕ)) (chunk : List ℕ) (count : ℕ) (p : Place) (m : Heard)
    (result : Result (Unit {0}) CliFault) → HasRead a b most_bytes p → Gives b c chunk (Ok count) → count ≡ 0
    → 0 < length chunk → HasNoFeed p.line → Closes p m result → ReadsHistory a c (with_heard m result)
full_closed a b c chunk count p m result h g none lt f closes =
    let front : Consumes b c [] = subst (λ (n : ℕ). Consumes b c (take n chunk)) none g.0 in
    let all : Consumes a c h.read =
    subst (λ (l : List ℕ). Consumes a c l) (append-nil h.read) (Consumes-trans a b c h.read [] h.consumes front) in
    reads_to_end a c h.read p m result all (g.2 none lt) (omega arith) h.brings f closes

-- as much was read, and there is more
pub full_cut : (a b c : Option (List ℕ)) (chunk : List ℕ) (count : ℕ) (p : Place) (fault : CliFault)
    → HasRead a b most_bytes p → Gives b c chunk (Ok count) → 0 < count → length chunk ≡ 1 → HasNoFeed p.line
    → IsCutOff p fault → ReadsHistory a c (Err fault)
full_cut a b c chunk count p fault h g lt one f cut =
    reads_too_much a b c h.read (take count chunk) p fault h.consumes g.0 h.fits
    (let l = length-take count chunk in let le = g.1 in omega arith) h.brings f cut

-- a part more was read
pub part_more : (a b c : Option (List ℕ)) (taken room count : ℕ) (p q : Place) → HasRead a b taken p
    → TakesPart b c room p q (Ok count) → HasRead a c (taken + count) q
part_more a b c taken room count p q h t = record {
  read = h.read ++ t.0;
  consumes = Consumes-trans a b c h.read t.0 h.consumes t.1;
  fits = let l = length-append h.read t.0 in let f = h.fits in let k = t.2 in omega arith;
  brings = Brings-more start p q h.read t.0 (Ok tt) h.brings t.5;
}

-- a part had a fault, or was not read
pub part_failed : (a b c : Option (List ℕ)) (taken room : ℕ) (p q : Place) (fault : CliFault) → HasRead a b taken p
    → taken + room ≤ most_bytes → HasNoFeed p.line → TakesPart b c room p q (Err fault) → ReadsHistory a c (Err fault)
part_failed a b c taken room p q (Script line cause) h le f t =
    reads_to_fault a c (h.read ++ t.0) q line cause (Consumes-trans a b c h.read t.0 h.consumes t.1)
    (let l = length-append h.read t.0 in let f = h.fits in let k = t.2 in omega arith)
    (Brings-more start p q h.read t.0 (Err (Script line cause)) h.brings t.3)
part_failed a b c taken room p q Read h le f t = failed a b c taken p h (omega arith) f t
part_failed a b c taken room p q NoMemory h le f t =
    let l = length-append h.read t.0 in
    let fits = h.fits in
    let k = t.2 in
    (h.read ++ t.0, (Consumes-trans a b c h.read t.0 h.consumes t.1, omega arith))
part_failed a b c taken room p q Write h le f t = absurd t.3
part_failed a b c taken room p q (Differs line) h le f t = absurd t.3

-- a part had no bytes, so that all was read before
pub part_closed : (a b c : Option (List ℕ)) (taken room count : ℕ) (p q : Place) (m : Heard)
    (result : Result (Unit {0}) CliFault) → HasRead a b taken p → taken ≤ most_bytes
    → TakesPart b c room p q (Ok count) → count ≡ 0 → HasNoFeed q.line → Closes q m result
    → ReadsHistory a c (with_heard m result)
part_closed a b c taken room count p q m result h le t none f closes =
    let more = part_more a b c taken room count p q h t in
    reads_to_end a c more.read q m result more.consumes (t.4 none) (let k = more.fits in omega arith) more.brings f closes
