-- The owner states of words once one has come or gone.
use Rattle.std.proofs.Common.{◌≡◌, ◌≢◌, ◌⊎◌, ℕ, ◌+◌, ◌%◌, ◌<◌, ◌≤◌, true, eqb, cond, List, ◌∷◌, length, set, Option, Some, None, IsSome, option_map, refl, sym, ◌∙◌, ap, subst, inl, inr, arith}
use Rattle.std.proofs.lemmas.Bool.{cases_eq, eq-eqb, ne_eqb, false≢true}
use Rattle.std.proofs.lemmas.List.{get_or-set_same, get_or-set_other, length-set}
use Rattle.std.proofs.lemmas.Option.{same_Some}
use Rattle.pif_nodes_model.specs.Lists.{has, list_without}
use Rattle.pif_nodes_model.specs.Table.{NodeLists, list_at, key_at, holder, with_list, IsApart}
use Rattle.pif_nodes_model.proofs.InsertLemmas.{list_at-other}
use Rattle.pif_kernel_model.specs.Frames.{IsBeyond}
use Rattle.pif_kernel_model.specs.QueueFrames.{KeepsOthers}
use Rattle.pif_kernel_model.specs.Entries.{Entry, Entries, Found, no_entry, entry_at, bucket_of, node_of, row_of, word_of_node, node_with, found_at, found_in, IsRow, IsEntered, HoldsEntries}
use Rattle.pif_kernel_model.proofs.Firsts.{options-same, option-cases}
use Rattle.pif_kernel_model.proofs.EntryLemmas.{bucket-below, is-some, with-stands, stands-with, row-free, no-node}

-- a change of the list of a bucket and of a row's node leaves all that is of others
pub others-kept : (e : Entries) (t now : NodeLists) (w n : ℕ) (xs : List ℕ) → e.first_node ≤ n
    → n < e.first_node + length e.items
    → now ≡ with_list t (bucket_of e w) xs → ((m : ℕ) → m ≢ n → holder now m ≡ holder t m)
    → KeepsOthers e.first_list 64 e.first_node (length e.items) t now
others-kept e t now w n xs low high put holders =
    record {
      lists = λ l beyond. ap (λ (x : NodeLists). list_at x l) put
          ∙ list_at-other t (bucket_of e w) l xs (λ same. out l beyond same);
      keys = λ l m beyond there. ap (λ (x : NodeLists). key_at x m) put;
      holders = λ m beyond. holders m (λ same. out_node m beyond same);
      list_count = ap (λ (x : NodeLists). length x.lists) put ∙ length-set t.lists (bucket_of e w) xs;
      node_count = ap (λ (x : NodeLists). length x.keys) put;
    }
  where
    out : (l : ℕ) → IsBeyond e.first_list 64 l → l ≡ bucket_of e w → ⊥
    out l (inl before) same = absurd (omega (arith, before, same))
    out l (inr behind) same = absurd (omega (arith, behind, same, bucket-below w))

    out_node : (m : ℕ) → IsBeyond e.first_node (length e.items) m → m ≡ n → ⊥
    out_node m (inl before) same = absurd (omega (arith, before, same, low))
    out_node m (inr behind) same = absurd (omega (arith, behind, same, high))

-- the node of the row at which the owner state of a word was found is the node of the word
pub found-node : (e : Entries) (t : NodeLists) → HoldsEntries e t → (w : ℕ) (f : Found) → found_in e t w ≡ Some f
    → node_with e t w ≡ Some (node_of e f.row)
found-node e t h w f found = by_node (option-cases (node_with e t w))
  where
    by_node : ((node_with e t w ≡ None) ⊎ ((n : ℕ) × (node_with e t w ≡ Some n)))
        → node_with e t w ≡ Some (node_of e f.row)
    by_node (inl none) = let wrong : None ≡ Some f = sym (ap (option_map (found_at e)) none) ∙ found in absurd cc
    by_node (inr some) =
        let same : found_at e some.0 ≡ f = same_Some (found_at e some.0) f (sym (ap (option_map (found_at e)) some.1) ∙ found) in
        let row : row_of e some.0 ≡ f.row = ap (λ (x : Found). x.row) same in
        some.1 ∙ ap Some (omega (arith, (with-stands e t h w some.0 some.1).2.low, row))

-- a word gets an owner state, of a row that no word has
module _ (e : Entries) (t now : NodeLists) (w key r : ℕ) (h : HoldsEntries e t) (row : IsRow e r)
    (free : (v : ℕ) (f : Found) → found_in e t v ≡ Some f → f.row ≢ r) (none : found_in e t w ≡ None)
    (put : now ≡ with_list t (bucket_of e w) (node_of e r ∷ list_at t (bucket_of e w)))
    (holders : (m : ℕ) → holder now m ≡ cond (eqb m (node_of e r)) (Some (bucket_of e w)) (holder t m))
    (apart : IsApart now) where
  abbrev entry : Entry
  entry = record { word = w; key = key }

  abbrev next : Entries
  next = record e { items = set e.items r entry }

  at-row : entry_at next r ≡ entry
  at-row = get_or-set_same e.items r entry no_entry row

  at-other : (s : ℕ) → s ≢ r → entry_at next s ≡ entry_at e s
  at-other s ne = get_or-set_other e.items r s entry no_entry ne

  at-node : entry_at next (row_of e (node_of e r)) ≡ entry
  at-node = ap (entry_at next) (omega arith) ∙ at-row

  was-free : holder t (node_of e r) ≡ None
  was-free = row-free e t h r row free

  held-here : holder now (node_of e r) ≡ Some (bucket_of e w)
  held-here = holders (node_of e r)
      ∙ ap (λ b. cond b (Some (bucket_of e w)) (holder t (node_of e r))) (eq-eqb (node_of e r) (node_of e r) refl)

  held-other : (m : ℕ) → m ≢ node_of e r → holder now m ≡ holder t m
  held-other m ne = holders m ∙ ap (λ b. cond b (Some (bucket_of e w)) (holder t m)) (ne_eqb m (node_of e r) ne)

  -- a node that was in a list is another one
  was-other : (m l : ℕ) → holder t m ≡ Some l → m ≢ node_of e r
  was-other m l held same = let wrong : Some l ≡ None = sym held ∙ ap (holder t) same ∙ was-free in absurd cc

  row-other : (m : ℕ) → e.first_node ≤ m → m ≢ node_of e r → row_of e m ≢ r
  row-other m low ne same = ne (omega (arith, low, same))

  pub put-outside : KeepsOthers e.first_list 64 e.first_node (length e.items) t now
  put-outside =
      others-kept e t now w (node_of e r) (node_of e r ∷ list_at t (bucket_of e w)) (omega arith) (omega (arith, row)) put
      held-other

  entered : (b m : ℕ) → b < 64 → has m (list_at now (e.first_list + b)) ≡ true
      → ((m ≡ node_of e r) ⊎ (m ≡ node_of e r → ⊥)) → IsEntered next b m
  entered b m l there (inl same) =
      let held : holder now m ≡ Some (e.first_list + b) = apart.alone (e.first_list + b) m there in
      let list : bucket_of e w ≡ e.first_list + b =
      same_Some (bucket_of e w) (e.first_list + b) (sym held-here ∙ ap (holder now) (sym same) ∙ held) in
      record {
        low = omega (arith, same);
        row = omega (arith, same, row, length-set e.items r entry);
        bucket = ap (λ x. (entry_at next (row_of e x)).word % 64) same ∙ ap (λ (x : Entry). x.word % 64) at-node
            ∙ omega (arith, list);
      }
  entered b m l there (inr ne) =
      let held : holder t m ≡ Some (e.first_list + b) = sym (held-other m ne)
      ∙ apart.alone (e.first_list + b) m there in
      let was : IsEntered e b m = h.entered b m l (h.apart.listed (e.first_list + b) m held) in
      record {
        low = was.low;
        row = omega (arith, was.row, length-set e.items r entry);
        bucket = ap (λ (x : Entry). x.word % 64) (at-other (row_of e m) (row-other m was.low ne)) ∙ was.bucket;
      }

  alone : (s l : ℕ) → IsRow e s → holder now (node_of e s) ≡ Some l
      → ((node_of e s ≡ node_of e r) ⊎ (node_of e s ≡ node_of e r → ⊥))
      → (b : ℕ) × (b < 64) × (l ≡ e.first_list + b)
  alone s l other held (inl same) = (
    w % 64,
    bucket-below w,
    same_Some l (bucket_of e w) (sym held ∙ ap (holder now) same ∙ held-here),
  )
  alone s l other held (inr ne) = h.alone s l other (sym (held-other (node_of e s) ne) ∙ held)

  -- no other row has the word
  no-other : (s : ℕ) → IsRow e s → IsSome (holder t (node_of e s)) → (entry_at e s).word ≡ w → ⊥
  no-other s other held word = by_holder (option-cases (holder t (node_of e s)))
    where
      by_holder : ((holder t (node_of e s) ≡ None) ⊎ ((l : ℕ) × (holder t (node_of e s) ≡ Some l))) → ⊥
      by_holder (inl nowhere) =
          let wrong : IsSome {T = ℕ} None = subst IsSome nowhere held in absurd (false≢true wrong)
      by_holder (inr some) =
          let at : (b : ℕ) × (b < 64) × (some.0 ≡ e.first_list + b) = h.alone s some.0 other some.1 in
          let list : holder t (node_of e s) ≡ Some (e.first_list + at.0) = some.1 ∙ ap Some at.2 in
          let is : IsEntered e at.0 (node_of e s) =
          h.entered at.0 (node_of e s) at.1 (h.apart.listed (e.first_list + at.0) (node_of e s) list) in
          let mine : word_of_node e (node_of e s) ≡ w = ap (λ x. (entry_at e x).word) (omega arith) ∙ word in
          let bucket : e.first_list + at.0 ≡ bucket_of e w = ap (λ b. e.first_list + b) (sym is.bucket
          ∙ ap (λ x. x % 64) mine) in
          let found : node_with e t w ≡ Some (node_of e s) =
          stands-with e t h w (node_of e s) (list ∙ ap Some bucket) mine in
          let wrong : Some (node_of e s) ≡ None = sym found ∙ no-node e t w none in absurd cc

  once : (s u : ℕ) → IsRow e s → IsRow e u → IsSome (holder now (node_of e s)) → IsSome (holder now (node_of e u))
      → (entry_at next s).word ≡ (entry_at next u).word → ((s ≡ r) ⊎ (s ≡ r → ⊥)) → ((u ≡ r) ⊎ (u ≡ r → ⊥)) → s ≡ u
  once s u one two held-s held-u word (inl a) (inl b) = a ∙ sym b
  once s u one two held-s held-u word (inl a) (inr b) =
      absurd
      (no-other u two (subst IsSome (held-other (node_of e u) (λ same. b (omega (arith, same)))) held-u)
      (ap (λ (x : Entry). x.word) (sym (at-other u b)) ∙ sym word ∙ ap (λ x. (entry_at next x).word) a
      ∙ ap (λ (x : Entry). x.word) at-row))
  once s u one two held-s held-u word (inr a) (inl b) =
      absurd
      (no-other s one (subst IsSome (held-other (node_of e s) (λ same. a (omega (arith, same)))) held-s)
      (ap (λ (x : Entry). x.word) (sym (at-other s a)) ∙ word ∙ ap (λ x. (entry_at next x).word) b
      ∙ ap (λ (x : Entry). x.word) at-row))
  once s u one two held-s held-u word (inr a) (inr b) =
      h.once s u one two (subst IsSome (held-other (node_of e s) (λ same. a (omega (arith, same)))) held-s)
      (subst IsSome (held-other (node_of e u) (λ same. b (omega (arith, same)))) held-u)
      (ap (λ (x : Entry). x.word) (sym (at-other s a)) ∙ word ∙ ap (λ (x : Entry). x.word) (at-other u b))

  as-row : (s : ℕ) → IsRow next s → IsRow e s
  as-row s l = omega (arith, l, length-set e.items r entry)

  pub put-holds : HoldsEntries next now
  put-holds =
      record {
        apart = apart;
        lists = omega (arith, h.lists, put-outside.list_count);
        nodes = omega (arith, h.nodes, put-outside.node_count, length-set e.items r entry);
        entered = λ b m l there. entered b m l there (cases_eq m (node_of e r));
        alone = λ s l other held. alone s l (as-row s other) held (cases_eq (node_of e s) (node_of e r));
        once = λ s u one two held-s held-u word.
            once s u (as-row s one) (as-row u two) held-s held-u word (cases_eq s r) (cases_eq u r);
      }

  -- another word has the node that it had
  node-other : (v : ℕ) → v ≢ w → node_with next now v ≡ node_with e t v
  node-other v ne = options-same (node_with next now v) (node_with e t v) to from
    where
      to : (n : ℕ) → node_with next now v ≡ Some n → node_with e t v ≡ Some n
      to n at =
          let is : (holder now n ≡ Some (bucket_of e v)) × (word_of_node next n ≡ v) × IsEntered next (v % 64) n =
          with-stands next now put-holds v n at in
          let other : n ≢ node_of e r = λ same. ne (sym is.1 ∙ ap (word_of_node next) same
          ∙ ap (λ (x : Entry). x.word) at-node) in
          stands-with e t h v n (sym (held-other n other) ∙ is.0)
          (ap (λ (x : Entry). x.word) (sym (at-other (row_of e n) (row-other n is.2.low other))) ∙ is.1)

      from : (n : ℕ) → node_with e t v ≡ Some n → node_with next now v ≡ Some n
      from n at =
          let is : (holder t n ≡ Some (bucket_of e v)) × (word_of_node e n ≡ v) × IsEntered e (v % 64) n =
          with-stands e t h v n at in
          let other : n ≢ node_of e r = was-other n (bucket_of e v) is.0 in
          stands-with next now put-holds v n (held-other n other ∙ is.0)
          (ap (λ (x : Entry). x.word) (at-other (row_of e n) (row-other n is.2.low other)) ∙ is.1)

  pub put-found : (v : ℕ) → found_in next now v
      ≡ cond (eqb v w) (Some (record { key = key; row = r })) (found_in e t v)
  put-found v = by_word (cases_eq v w)
    where
      same_found : (o : Option ℕ) → node_with e t v ≡ o → option_map (found_at next) o ≡ option_map (found_at e) o
      same_found None at = refl
      same_found (Some n) at =
          let is : (holder t n ≡ Some (bucket_of e v)) × (word_of_node e n ≡ v) × IsEntered e (v % 64) n =
          with-stands e t h v n at in
          ap (λ (x : Entry). Some (record { key = x.key; row = row_of e n }))
          (at-other (row_of e n) (row-other n is.2.low (was-other n (bucket_of e v) is.0)))

      by_word : ((v ≡ w) ⊎ (v ≡ w → ⊥))
          → found_in next now v ≡ cond (eqb v w) (Some (record { key = key; row = r })) (found_in e t v)
      by_word (inl same) =
          ap (option_map (found_at next))
          (stands-with next now put-holds v (node_of e r) (held-here ∙ ap (λ x. Some (bucket_of e x)) (sym same))
          (ap (λ (x : Entry). x.word) at-node ∙ sym same))
          ∙ (λ i. Some (record { key = (at-node i).key; row = (let back : row_of e (node_of e r) ≡ r = omega arith in back) i }))
          ∙ ap (λ b. cond b (Some (record { key = key; row = r })) (found_in e t v)) (sym (eq-eqb v w same))
      by_word (inr ne) =
          ap (option_map (found_at next)) (node-other v ne) ∙ same_found (node_with e t v) refl
          ∙ ap (λ b. cond b (Some (record { key = key; row = r })) (found_in e t v)) (sym (ne_eqb v w ne))

-- the owner state of a word goes
module _ (e : Entries) (t now : NodeLists) (w n : ℕ) (h : HoldsEntries e t) (at : node_with e t w ≡ Some n)
    (taken : now ≡ with_list t (bucket_of e w) (list_without n (list_at t (bucket_of e w))))
    (holders : (m : ℕ) → holder now m ≡ cond (eqb m n) None (holder t m)) (apart : IsApart now) where
  is-here : (holder t n ≡ Some (bucket_of e w)) × (word_of_node e n ≡ w) × IsEntered e (w % 64) n
  is-here = with-stands e t h w n at

  gone : holder now n ≡ None
  gone = holders n ∙ ap (λ b. cond b None (holder t n)) (eq-eqb n n refl)

  kept : (m : ℕ) → m ≢ n → holder now m ≡ holder t m
  kept m ne = holders m ∙ ap (λ b. cond b None (holder t m)) (ne_eqb m n ne)

  -- a node that is in a list is another one, and was there
  was : (m l : ℕ) → holder now m ≡ Some l → holder t m ≡ Some l
  was m l held = sym (kept m (λ same. none m l held same)) ∙ held
    where
      none : (m l : ℕ) → holder now m ≡ Some l → m ≡ n → ⊥
      none m l held same = let wrong : Some l ≡ None = sym held ∙ ap (holder now) same ∙ gone in absurd cc

  was-some : (m : ℕ) → IsSome (holder now m) → IsSome (holder t m)
  was-some m held = by_holder (option-cases (holder now m))
    where
      by_holder : ((holder now m ≡ None) ⊎ ((l : ℕ) × (holder now m ≡ Some l))) → IsSome (holder t m)
      by_holder (inl none) = let wrong : IsSome {T = ℕ} None = subst IsSome none held in absurd (false≢true wrong)
      by_holder (inr some) = is-some (holder t m) some.0 (was m some.0 some.1)

  pub forgot-outside : KeepsOthers e.first_list 64 e.first_node (length e.items) t now
  forgot-outside =
      others-kept e t now w n (list_without n (list_at t (bucket_of e w))) is-here.2.low
      (omega (arith, is-here.2.low, is-here.2.row)) taken kept

  pub forgot-holds : HoldsEntries e now
  forgot-holds =
      record {
        apart = apart;
        lists = omega (arith, h.lists, forgot-outside.list_count);
        nodes = omega (arith, h.nodes, forgot-outside.node_count);
        entered = λ b m l there.
            h.entered b m l
            (h.apart.listed (e.first_list + b) m (was m (e.first_list + b) (apart.alone (e.first_list + b) m there)));
        alone = λ s l row held. h.alone s l row (was (node_of e s) l held);
        once = λ s u one two held-s held-u word.
            h.once s u one two (was-some (node_of e s) held-s) (was-some (node_of e u) held-u) word;
      }

  pub forgot-found : (v : ℕ) → found_in e now v ≡ cond (eqb v w) None (found_in e t v)
  forgot-found v = by_word (cases_eq v w)
    where
      to : v ≢ w → (m : ℕ) → node_with e now v ≡ Some m → node_with e t v ≡ Some m
      to ne m there =
          let is : (holder now m ≡ Some (bucket_of e v)) × (word_of_node e m ≡ v) × IsEntered e (v % 64) m =
          with-stands e now forgot-holds v m there in
          stands-with e t h v m (was m (bucket_of e v) is.0) is.1

      from : v ≢ w → (m : ℕ) → node_with e t v ≡ Some m → node_with e now v ≡ Some m
      from ne m there =
          let is : (holder t m ≡ Some (bucket_of e v)) × (word_of_node e m ≡ v) × IsEntered e (v % 64) m =
          with-stands e t h v m there in
          stands-with e now forgot-holds v m
          (kept m (λ same. ne (sym is.1 ∙ ap (word_of_node e) same ∙ is-here.1)) ∙ is.0) is.1

      none : node_with e now w ≡ None
      none = by_node (option-cases (node_with e now w))
        where
          by_node : ((node_with e now w ≡ None) ⊎ ((m : ℕ) × (node_with e now w ≡ Some m))) → node_with e now w ≡ None
          by_node (inl is) = is
          by_node (inr some) =
              let is : (holder now some.0 ≡ Some (bucket_of e w)) × (word_of_node e some.0 ≡ w)
              × IsEntered e (w % 64) some.0 =
              with-stands e now forgot-holds w some.0 some.1 in
              let other : node_with e t w ≡ Some some.0 =
              stands-with e t h w some.0 (was some.0 (bucket_of e w) is.0) is.1 in
              let same : some.0 ≡ n = same_Some some.0 n (sym other ∙ at) in
              let wrong : Some (bucket_of e w) ≡ None = sym is.0 ∙ ap (holder now) same ∙ gone in absurd cc

      by_word : ((v ≡ w) ⊎ (v ≡ w → ⊥)) → found_in e now v ≡ cond (eqb v w) None (found_in e t v)
      by_word (inl same) =
          ap (found_in e now) same ∙ ap (option_map (found_at e)) none
          ∙ ap (λ b. cond b None (found_in e t v)) (sym (eq-eqb v w same))
      by_word (inr ne) =
          ap (option_map (found_at e))
          (options-same (node_with e now v) (node_with e t v) (to ne) (from ne))
          ∙ ap (λ b. cond b None (found_in e t v)) (sym (ne_eqb v w ne))
