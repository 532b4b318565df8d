-- Lemmas on the levels of a queue: threads and their nodes, and what a change of one level's list makes of the others.
use Rattle.std.proofs.Common.{◌≡◌, ℕ, ◌+◌, ◌-◌, ◌≤◌, ◌↔◌, true, false, eqb, ◌||◌, List, [], ◌∷◌, ◌++◌, Option, Some, None, length, map, refl, sym, ◌∙◌, ap, subst, ⊎_elim, arith, append_assoc, length-set, get_or-set_other}
use Rattle.std.proofs.lemmas.List.{get_or-set_same, map-append}
use Rattle.std.proofs.lemmas.Bool.{or_left, or_right, or_cases, eq-eqb, ne_eqb, eqb-true, cases_Bool, cases_eq, false_from_ne_true}
use Rattle.std.proofs.lemmas.Nat.Bits.{bit_at-lt}
use Rattle.std.proofs.lemmas.Option.{same_Some}
use Rattle.std.specs.Int.{bit_at}
use Rattle.std.specs.Option.{is_some}
use Rattle.pif_nodes_model.specs.Lists.{has, first_of, last_or, last_of, put_after, insert_after, list_without, HasNoRepeats}
use Rattle.pif_nodes_model.specs.Table.{NodeLists, list_at, holder, with_list, IsApart}
use Rattle.pif_nodes_model.proofs.ListLemmas.{has-head, has-append, last_some, last_split, first_of-has, put_after-split, HasNoRepeats-taken, without_absent}
use Rattle.pif_nodes_model.specs.Levels.{Queue, IsLevel, list_for, node_for, thread_for, IsThreadNode, level_of, Holds, IsQueued, IsOnLevel, IsFirstOfGreatest, level_after_add, level_after_move}
use Rattle.pif_nodes_model.specs.Masks.{ChangesBit, IsGreatestBit}

-- whether a node is that of u is whether its thread is u
pub same_thread : (q : Queue) (u n : ℕ) → 1 ≤ u → q.first_node ≤ n → eqb (node_for q u) n ≡ eqb u (thread_for q n)
same_thread q u n some low = ⊎_elim
    (λ e. eq-eqb (node_for q u) n (omega arith) ∙ sym (eq-eqb u (thread_for q n) e))
    (λ ne. ne_eqb (node_for q u) n (λ e. ne (omega arith)) ∙ sym (ne_eqb u (thread_for q n) ne))
    (cases_eq u (thread_for q n))

-- whether some nodes have that of u is whether their threads have u
pub has-threads : (q : Queue) (u : ℕ) (xs : List ℕ) → 1 ≤ u → ((n : ℕ) → has n xs ≡ true → q.first_node ≤ n) → has u (map (thread_for q) xs) ≡ has (node_for q u) xs
has-threads q u [] some low = refl
has-threads q u (x ∷ xs) some low =
    ap (λ b. eqb u (thread_for q x) || b) (has-threads q u xs some (λ n h. low n (or_right (eqb n x) (has n xs) h)))
    ∙ ap (λ b. b || has (node_for q u) xs) (sym (same_thread q u x some (low x (has-head x xs))))

-- the threads of some nodes without that of u
pub list_without-threads : (q : Queue) (u : ℕ) (xs : List ℕ) → 1 ≤ u → ((n : ℕ) → has n xs ≡ true → q.first_node ≤ n) → map (thread_for q) (list_without (node_for q u) xs) ≡ list_without u (map (thread_for q) xs)
list_without-threads q u [] some low = refl
list_without-threads q u (x ∷ xs) some low =
    let rest = list_without-threads q u xs some (λ n h. low n (or_right (eqb n x) (has n xs) h)) in
    let same = same_thread q u x some (low x (has-head x xs)) in
    ⊎_elim
    (λ e. let f : eqb u (thread_for q x) ≡ true = sym same ∙ e in rw (e, f) rest)
    (λ e. let f : eqb u (thread_for q x) ≡ false = sym same ∙ e in rw (e, f) (ap (λ ts. thread_for q x ∷ ts) rest))
    (cases_Bool (eqb (node_for q u) x))

-- the threads of some nodes and of that of u at their end
pub joined-threads : (q : Queue) (u : ℕ) (xs : List ℕ) → 1 ≤ u → map (thread_for q) (xs ++ node_for q u ∷ []) ≡ map (thread_for q) xs ++ u ∷ []
joined-threads q u xs some =
    let e : thread_for q (node_for q u) ≡ u = omega arith in
    map-append (thread_for q) xs (node_for q u ∷ []) ∙ ap (λ t. map (thread_for q) xs ++ t ∷ []) e

-- the threads of nodes are numbered from 1
pub threads-some : (q : Queue) (u : ℕ) (xs : List ℕ) → has u (map (thread_for q) xs) ≡ true → 1 ≤ u
threads-some q u [] h = absurd cc
threads-some q u (x ∷ xs) h = ⊎_elim
    (λ e. omega (arith, eqb-true u (thread_for q x) e))
    (λ e. threads-some q u xs e)
    (or_cases (eqb u (thread_for q x)) (has u (map (thread_for q) xs)) h)

-- what is put in after the last stands at the end
insert_after-found : (x : ℕ) (xs : List ℕ) (n : ℕ) (last : Option ℕ) → HasNoRepeats (x ∷ xs) → last_or None (x ∷ xs) ≡ last → insert_after last n (x ∷ xs) ≡ (x ∷ xs) ++ n ∷ []
insert_after-found x xs n None once e = absurd (last_some None x xs e)
insert_after-found x xs n (Some m) once e =
    let split = last_split None x xs m e in
    let free = HasNoRepeats-taken split.0 [] m (subst HasNoRepeats split.1 once) in
    ap (put_after m n) split.1 ∙ put_after-split split.0 [] m n free.1
    ∙ sym (append_assoc split.0 (m ∷ []) (n ∷ [])) ∙ ap (λ zs. zs ++ n ∷ []) (sym split.1)

pub insert_after-last : (xs : List ℕ) (n : ℕ) → HasNoRepeats xs → insert_after (last_of xs) n xs ≡ xs ++ n ∷ []
insert_after-last [] n once = refl
insert_after-last (x ∷ xs) n once = insert_after-found x xs n (last_of (x ∷ xs)) once refl

-- two levels with one list are one
pub same_level : (q : Queue) (p r : ℕ) → IsLevel p → IsLevel r → list_for q p ≡ list_for q r → p ≡ r
same_level q p r lp lr e = omega arith

-- the list of a level, after that of a level was changed
pub list_at-changed : (q : Queue) (t : NodeLists) (r : ℕ) (xs : List ℕ) → IsLevel r → q.first_list + 99 ≤ length t.lists → list_at (with_list t (list_for q r) xs) (list_for q r) ≡ xs
list_at-changed q t r xs lr fits = get_or-set_same t.lists (list_for q r) xs [] (omega arith)

pub list_at-other : (q : Queue) (t : NodeLists) (r p : ℕ) (xs : List ℕ) → IsLevel r → IsLevel p → (p ≡ r → ⊥) → list_at (with_list t (list_for q r) xs) (list_for q p) ≡ list_at t (list_for q p)
list_at-other q t r p xs lr lp ne = get_or-set_other t.lists (list_for q r) (list_for q p) xs [] (λ e. ne (same_level q p r lp lr e))

-- if the list of a level becomes xs, and the bit of the level says whether that has a node, the queue stands
Holds-masked : (q : Queue) (m : ℕ) (t : NodeLists) (r bit : ℕ) (xs : List ℕ) → Holds q t → IsLevel r → ChangesBit q.mask m r bit →
    IsApart (with_list t (list_for q r) xs) → ((n : ℕ) → has n xs ≡ true → IsThreadNode q n) → ((bit ≡ 0) ↔ (xs ≡ [])) →
    Holds (record q { mask = m }) (with_list t (list_for q r) xs)
Holds-masked q m t r bit xs holds lr change apart threads bits =
    let now : NodeLists = with_list t (list_for q r) xs in
    record {
      apart = apart;
      lists = omega (arith, holds.lists, length-set t.lists (list_for q r) xs);
      nodes = holds.nodes;
      threads = λ p n lp h. ⊎_elim
          (λ e. let mine : list_at now (list_for q p) ≡ xs = subst (λ (k : ℕ). list_at now (list_for q k) ≡ xs) (sym e) (list_at-changed q t r xs lr holds.lists) in
          threads n (subst (λ (zs : List ℕ). has n zs ≡ true) mine h))
          (λ ne. holds.threads p n lp (subst (λ (zs : List ℕ). has n zs ≡ true) (list_at-other q t r p xs lr lp ne) h))
          (cases_eq p r);
      alone = λ n l mine held. ⊎_elim
          (λ e. (omega (arith, e, lr.0), omega (arith, e, lr.0, lr.1)))
          (λ ne. holds.alone n l mine (holds.apart.alone l n
          (ap (has n) (sym (get_or-set_other t.lists (list_for q r) l xs [] ne)) ∙ apart.listed l n held)))
          (cases_eq l (list_for q r));
      bits = λ p lp. ⊎_elim
          (λ e. subst (λ (k : ℕ). (bit_at m k ≡ 0) ↔ (list_at now (list_for q k) ≡ [])) (sym e)
          (rw (change.changed, list_at-changed q t r xs lr holds.lists) bits))
          (λ ne. rw (change.others p ne, list_at-other q t r p xs lr lp ne) (holds.bits p lp))
          (cases_eq p r);
      no_more = λ p h. ⊎_elim
          (λ e. subst IsLevel (sym e) lr)
          (λ ne. holds.no_more p (sym (change.others p ne) ∙ h))
          (cases_eq p r);
    }

pub Holds-changed : (q changed : Queue) (t now : NodeLists) (r bit : ℕ) (xs : List ℕ) → Holds q t → IsLevel r → changed ≡ record q { mask = changed.mask } → ChangesBit q.mask changed.mask r bit →
    now ≡ with_list t (list_for q r) xs → IsApart now → ((n : ℕ) → has n xs ≡ true → IsThreadNode q n) → ((bit ≡ 0) ↔ (xs ≡ [])) → Holds changed now
Holds-changed q changed t now r bit xs holds lr place change e apart threads bits =
    let masked = Holds-masked q changed.mask t r bit xs holds lr change (subst IsApart e apart) threads bits in
    subst (λ (k : Queue). Holds k now) (sym place) (subst (Holds (record q { mask = changed.mask })) (sym e) masked)

-- a list with one more at its end is not empty
joined_some : (xs : List ℕ) (n : ℕ) → xs ++ n ∷ [] ≡ [] → ⊥
joined_some [] n e = cc
joined_some (x ∷ xs) n e = cc

-- the table once the node of u was put in after the last of the list of level r
pub appended : (q : Queue) (t now : NodeLists) (u r list node : ℕ) (last : Option ℕ) → Holds q t → list ≡ list_for q r → last ≡ last_of (list_at t list) → node ≡ node_for q u →
    now ≡ with_list t list (insert_after last node (list_at t list)) → now ≡ with_list t (list_for q r) (list_at t (list_for q r) ++ node_for q u ∷ [])
appended q t now u r list node last holds at_list at_last at_node e =
    let same : last ≡ last_of (list_at t (list_for q r)) = at_last ∙ ap (λ l. last_of (list_at t l)) at_list in
    e ∙ (λ i. with_list t (at_list i) (insert_after (same i) (at_node i) (list_at t (at_list i))))
    ∙ ap (with_list t (list_for q r)) (insert_after-last (list_at t (list_for q r)) (node_for q u) (holds.apart.once (list_for q r)))

-- the levels once u joined the end of level r
pub levels-joined : (q changed : Queue) (t now : NodeLists) (u r : ℕ) → Holds q t → IsLevel r → 1 ≤ u → changed ≡ record q { mask = changed.mask } →
    now ≡ with_list t (list_for q r) (list_at t (list_for q r) ++ node_for q u ∷ []) → (p : ℕ) → IsLevel p
    → level_of changed now p ≡ level_after_add u r p (level_of q t p)
levels-joined q changed t now u r holds lr some place e p lp =
    let xs : List ℕ = list_at t (list_for q r) ++ node_for q u ∷ [] in
    (λ i. level_of (place i) (e i) p)
    ∙ ⊎_elim
    (λ at. ap (level_of q (with_list t (list_for q r) xs)) at ∙ ap (map (thread_for q)) (list_at-changed q t r xs lr holds.lists)
    ∙ joined-threads q u (list_at t (list_for q r)) some
    ∙ (let here : eqb p r ≡ true = eq-eqb p r at in rw here (ap (λ k. level_of q t k ++ u ∷ []) (sym at))))
    (λ ne. ap (map (thread_for q)) (list_at-other q t r p xs lr lp ne)
    ∙ (let other : eqb p r ≡ false = ne_eqb p r ne in rw other refl))
    (cases_eq p r)

-- the queue stands then
pub Holds-joined : (q changed : Queue) (t now : NodeLists) (u r : ℕ) → Holds q t → IsLevel r → 1 ≤ u → u ≤ q.threads → changed ≡ record q { mask = changed.mask } → ChangesBit q.mask changed.mask r 1 →
    now ≡ with_list t (list_for q r) (list_at t (list_for q r) ++ node_for q u ∷ []) → IsApart now → Holds changed now
Holds-joined q changed t now u r holds lr some within place change e apart =
    let before : List ℕ = list_at t (list_for q r) in
    let mine : IsThreadNode q (node_for q u) = (omega arith, omega arith) in
    Holds-changed q changed t now r 1 (before ++ node_for q u ∷ []) holds lr place change e apart
    (λ n h. ⊎_elim
    (λ k. holds.threads r n lr k)
    (λ k. ⊎_elim
    (λ same. subst (IsThreadNode q) (sym (eqb-true n (node_for q u) same)) mine)
    (λ never. absurd cc)
    (or_cases (eqb n (node_for q u)) false k))
    (or_cases (has n before) (has n (node_for q u ∷ [])) (sym (has-append n before (node_for q u ∷ [])) ∙ h)))
    (λ k. absurd (omega arith), λ k. absurd (joined_some before (node_for q u) k))

-- a thread that is on some level stands there, at the level that its place in the table names
pub queued_on : (q : Queue) (t : NodeLists) (u : ℕ) → Holds q t → (queued : IsQueued q t u) → IsOnLevel q t u queued.0
queued_on q t u holds queued =
    let p : ℕ = queued.0 in
    let xs : List ℕ = list_at t (list_for q p) in
    let some : 1 ≤ u = threads-some q u xs queued.2 in
    let listed : has (node_for q u) xs ≡ true = sym (has-threads q u xs some (λ n h. (holds.threads p n queued.1 h).0)) ∙ queued.2 in
    let node : IsThreadNode q (node_for q u) = holds.threads p (node_for q u) queued.1 listed in
    record {
      is_level = queued.1;
      some = some;
      within = omega (arith, node.0, node.1);
      listed = listed;
      held = holds.apart.alone (list_for q p) (node_for q u) listed;
    }

-- the level that the list of the node of u names
pub level_found : (q : Queue) (t : NodeLists) (u list node : ℕ) (found : Option ℕ) → Holds q t → IsQueued q t u → node ≡ node_for q u → found ≡ holder t node → found ≡ Some list →
    (q.first_list ≤ list) × IsOnLevel q t u (list - q.first_list + 1)
level_found q t u list node found holds queued at_node held e =
    let stands = queued_on q t u holds queued in
    let at : list ≡ list_for q queued.0 = same_Some list (list_for q queued.0) (sym e ∙ held ∙ ap (holder t) at_node ∙ stands.held) in
    let level : queued.0 ≡ list - q.first_list + 1 = omega (arith, stands.is_level.0) in
    (omega arith, subst (IsOnLevel q t u) level stands)

-- it is found
pub holder_some : (q : Queue) (t : NodeLists) (u node : ℕ) (found : Option ℕ) → Holds q t → IsQueued q t u → node ≡ node_for q u → found ≡ holder t node → is_some found ≡ true
holder_some q t u node found holds queued at_node held =
    ap is_some (held ∙ ap (holder t) at_node ∙ (queued_on q t u holds queued).held)

-- u is on no other level
pub absent_elsewhere : (q : Queue) (t : NodeLists) (u p r : ℕ) → Holds q t → IsOnLevel q t u p → IsLevel r → (r ≡ p → ⊥) → has u (level_of q t r) ≡ false
absent_elsewhere q t u p r holds stands lr ne =
    let xs : List ℕ = list_at t (list_for q r) in
    has-threads q u xs stands.some (λ n h. (holds.threads r n lr h).0)
    ∙ false_from_ne_true (has (node_for q u) xs) (λ h.
    let two = sym (holds.apart.alone (list_for q r) (node_for q u) h) ∙ stands.held in
    ne (same_level q r p lr stands.is_level (same_Some (list_for q r) (list_for q p) two)))

-- the table once the node of u was taken out
pub taken : (q : Queue) (t now : NodeLists) (u p list node : ℕ) → list ≡ list_for q p → node ≡ node_for q u →
    now ≡ with_list t list (list_without node (list_at t list)) → now ≡ with_list t (list_for q p) (list_without (node_for q u) (list_at t (list_for q p)))
taken q t now u p list node at_list at_node e = e ∙ (λ i. with_list t (at_list i) (list_without (at_node i) (list_at t (at_list i))))

-- the levels once u was taken out
pub levels-taken : (q changed : Queue) (t now : NodeLists) (u p : ℕ) → Holds q t → IsOnLevel q t u p → changed ≡ record q { mask = changed.mask } →
    now ≡ with_list t (list_for q p) (list_without (node_for q u) (list_at t (list_for q p))) → (r : ℕ) → IsLevel r → level_of changed now r ≡ list_without u (level_of q t r)
levels-taken q changed t now u p holds stands place e r lr =
    let before : List ℕ = list_at t (list_for q p) in
    let xs : List ℕ = list_without (node_for q u) before in
    (λ i. level_of (place i) (e i) r)
    ∙ ⊎_elim
    (λ at. ap (level_of q (with_list t (list_for q p) xs)) at ∙ ap (map (thread_for q)) (list_at-changed q t p xs stands.is_level holds.lists)
    ∙ list_without-threads q u before stands.some (λ n h. (holds.threads p n stands.is_level h).0)
    ∙ ap (λ k. list_without u (level_of q t k)) (sym at))
    (λ ne. ap (map (thread_for q)) (list_at-other q t p r xs stands.is_level lr ne)
    ∙ sym (without_absent u (level_of q t r) (absent_elsewhere q t u p r holds stands lr ne)))
    (cases_eq r p)

-- what a list without one of its numbers has
has_within : (m n : ℕ) (xs : List ℕ) → has m (list_without n xs) ≡ true → has m xs ≡ true
has_within m n [] h = absurd cc
has_within m n (x ∷ xs) h = ⊎_elim
    (λ e. let rest : has m (list_without n xs) ≡ true = rw e at h in or_right (eqb m x) (has m xs) (has_within m n xs rest))
    (λ e. let parts : (eqb m x || has m (list_without n xs)) ≡ true = rw e at h in
    ⊎_elim
    (λ k. or_left (eqb m x) (has m xs) k)
    (λ k. or_right (eqb m x) (has m xs) (has_within m n xs k))
    (or_cases (eqb m x) (has m (list_without n xs)) parts))
    (cases_Bool (eqb n x))

-- the queue stands once u was taken out and the bit of its level says whether another thread is left there
pub Holds-taken : (q changed : Queue) (t now : NodeLists) (u p bit : ℕ) → Holds q t → IsOnLevel q t u p → changed ≡ record q { mask = changed.mask } → ChangesBit q.mask changed.mask p bit →
    now ≡ with_list t (list_for q p) (list_without (node_for q u) (list_at t (list_for q p))) → IsApart now → ((bit ≡ 0) ↔ (list_at now (list_for q p) ≡ [])) → Holds changed now
Holds-taken q changed t now u p bit holds stands place change e apart bits =
    let before : List ℕ = list_at t (list_for q p) in
    let xs : List ℕ = list_without (node_for q u) before in
    let left : list_at now (list_for q p) ≡ xs = ap (λ k. list_at k (list_for q p)) e ∙ list_at-changed q t p xs stands.is_level holds.lists in
    Holds-changed q changed t now p bit xs holds stands.is_level place change e apart
    (λ n h. holds.threads p n stands.is_level (has_within n (node_for q u) before h))
    (λ k. sym left ∙ bits.0 k, λ k. bits.1 (left ∙ k))

-- the bit of a level on which a thread stands
pub bit_stands : (q : Queue) (t : NodeLists) (u p : ℕ) → Holds q t → IsOnLevel q t u p → ChangesBit q.mask q.mask p 1
bit_stands q t u p holds stands =
    record {
      changed = let some : bit_at q.mask p ≡ 0 → ⊥ = λ e.
          let never : false ≡ true = subst (λ (xs : List ℕ). has (node_for q u) xs ≡ true) ((holds.bits p stands.is_level).0 e) stands.listed in cc in
          omega (arith, some, bit_at-lt q.mask p);
      others = λ j ne. refl;
    }

pub some_by_first : (xs : List ℕ) (first : Option ℕ) → first ≡ first_of xs → is_some first ≡ true → xs ≡ [] → ⊥
some_by_first [] first e some none = let missing : is_some first ≡ false = ap is_some e in cc
some_by_first (x ∷ xs) first e some none = cc

-- the thread of the first of some nodes is the first of their threads
first_of-threads : (q : Queue) (xs : List ℕ) (n : ℕ) → first_of xs ≡ Some n → first_of (map (thread_for q) xs) ≡ Some (thread_for q n)
first_of-threads q [] n e = absurd cc
first_of-threads q (x ∷ xs) n e = ap (λ (k : ℕ). Some (thread_for q k)) (same_Some x n e)

-- the first node of the greatest level is that of a thread
pub first_node-thread : (q : Queue) (t : NodeLists) (level n : ℕ) → Holds q t → IsGreatestBit q.mask level → first_of (list_at t (list_for q level)) ≡ Some n → IsThreadNode q n
first_node-thread q t level n holds greatest first =
    holds.threads level n (holds.no_more level greatest.set) (first_of-has (list_at t (list_for q level)) n first)

-- its thread is the first of the greatest level
pub IsFirstOfGreatest-found : (q : Queue) (t : NodeLists) (level n : ℕ) → Holds q t → IsGreatestBit q.mask level → first_of (list_at t (list_for q level)) ≡ Some n → IsFirstOfGreatest q t (thread_for q n)
IsFirstOfGreatest-found q t level n holds greatest first =
    record {
      level = level;
      is_level = holds.no_more level greatest.set;
      first = first_of-threads q (list_at t (list_for q level)) n first;
      greatest = λ p lp above. ap (map (thread_for q)) ((holds.bits p lp).0 (greatest.greatest p above));
    }

-- what a thread that left its level leaves of each, once it joined another one
pub moved-away : (q : Queue) (t : NodeLists) (u p to r : ℕ) → Holds q t → IsOnLevel q t u p → (p ≡ to → ⊥) → IsLevel to
    → level_after_add u to r (list_without u (level_of q t r)) ≡ level_after_move u to r (level_of q t r)
moved-away q t u p to r holds stands ne lt =
    ⊎_elim
    (λ at. let here : eqb r to ≡ true = eq-eqb r to at in
    let absent : has u (level_of q t r) ≡ false = ap (λ k. has u (level_of q t k)) at ∙ absent_elsewhere q t u p to holds stands lt (λ e. ne (sym e)) in
    rw here (rw absent (ap (λ ts. ts ++ u ∷ []) (without_absent u (level_of q t r) absent))))
    (λ other. let elsewhere : eqb r to ≡ false = ne_eqb r to other in rw elsewhere refl)
    (cases_eq r to)

-- a thread that is where it should be leaves all levels as they are
pub moved-nowhere : (q : Queue) (t : NodeLists) (u p to r : ℕ) → Holds q t → IsOnLevel q t u p → p ≡ to → IsLevel r
    → level_of q t r ≡ level_after_move u to r (level_of q t r)
moved-nowhere q t u p to r holds stands same lr =
    ⊎_elim
    (λ at. let here : eqb r to ≡ true = eq-eqb r to at in
    let listed : has u (level_of q t r) ≡ true =
    ap (λ k. has u (level_of q t k)) (at ∙ sym same)
    ∙ has-threads q u (list_at t (list_for q p)) stands.some (λ n h. (holds.threads p n stands.is_level h).0) ∙ stands.listed in
    rw (here, listed) refl)
    (λ other. let elsewhere : eqb r to ≡ false = ne_eqb r to other in
    rw elsewhere (sym (without_absent u (level_of q t r) (absent_elsewhere q t u p r holds stands lr (λ e. other (e ∙ same))))))
    (cases_eq r to)
