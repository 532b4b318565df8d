-- Lemmas on links that hold some lists, when a node is put into a list or taken out of one.
use Rattle.std.proofs.Common.{◌≡◌, ℕ, ◌<◌, true, false, cond, eqb, List, [], ◌∷◌, ◌++◌, Option, Some, None, option_and_then, refl, sym, ◌∙◌, ap, subst, ⊎_elim, length, get_or, set}
use Rattle.std.proofs.lemmas.Bool.{cases_eq, eq-eqb, ne_eqb, both_ways, false_from_ne_true}
use Rattle.std.proofs.lemmas.Option.{same_Some}
use Rattle.std.proofs.lemmas.List.{append_assoc, get_or-set_same, get_or-set_other}
use Rattle.pif_nodes.specs.declared.slots.Slot.{Slot}
use Rattle.pif_nodes.specs.declared.slots.Ends.{Ends}
use Rattle.pif_nodes_model.specs.Lists.{has, first_of, last_of, next_in_list, prev_in_list, insert_after, list_without, HasNoRepeats}
use Rattle.pif_nodes_model.specs.Table.{list_with}
use Rattle.pif_nodes.specs.Links.{slot_at, follower_of, slots_after_link, ends_after_link, slots_after_unlink, ends_after_unlink, Ties}
use Rattle.pif_nodes_model.proofs.ListLemmas.{put_move, take_move, has_split, has-right, has-head, HasNoRepeats-put, HasNoRepeats-taken, has-neither, next_in_list-split, prev_from-split, put_after-split, list_without-split, last_or-append, has-put}
use Rattle.pif_nodes.proofs.HolderLemmas.{list_with-put, list_with-none, list_with-has, list_with-absent, list_with-within, list_with-same}
use Rattle.pif_nodes.proofs.TiesLemmas.{Ties-moved}

-- links hold the new lists, and each other node is in the list in which it was
pub record Holds (ns : List Slot) (es : List Ends) (was now : List (List ℕ)) (n : ℕ) (list : Option ℕ) : Type 0 where
  pub ties : Ties ns es now
  pub holders : (m : ℕ) → list_with now m ≡ cond (eqb m n) list (list_with was m)

-- who is in which list, from the node that moves and from the others
holders_from : (was now : List (List ℕ)) (n : ℕ) (list : Option ℕ) → list_with now n ≡ list → ((m : ℕ) → (m ≡ n → ⊥) → list_with now m ≡ list_with was m) → (m : ℕ) → list_with now m ≡ cond (eqb m n) list (list_with was m)
holders_from was now n list mine others m = ⊎_elim
    (λ e. rw (eq-eqb m n e) (ap (list_with now) e ∙ mine))
    (λ ne. rw (ne_eqb m n ne) (others m ne))
    (cases_eq m n)

-- a list that has a number which only list l can have is l
only_here : (ls : List (List ℕ)) (l n k : ℕ) (xs : List ℕ) (want : Option ℕ) → l < length ls → ((j : ℕ) → (j ≡ l → ⊥) → has n (get_or ls j []) ≡ true → want ≡ Some j) → (has n xs ≡ true → want ≡ Some l) → has n (get_or (set ls l xs) k []) ≡ true → want ≡ Some k
only_here ls l n k xs want l_in others here h = ⊎_elim
    (λ e. let mine : has n xs ≡ true = ap (has n) (sym (get_or-set_same ls l xs [] l_in)) ∙ ap (λ j. has n (get_or (set ls l xs) j [])) (sym e) ∙ h in
    here mine ∙ ap Some (sym e))
    (λ ne. others k ne (ap (has n) (sym (get_or-set_other ls l k xs [] ne)) ∙ h))
    (cases_eq k l)

-- a node that is in no list is put between a front and a back
put_between : (ns : List Slot) (es : List Ends) (ls : List (List ℕ)) (l n : ℕ) (front back : List ℕ) →
    Ties ns es ls → n < length ns → l < length ls → list_with ls n ≡ None → get_or ls l [] ≡ front ++ back →
    Holds (slots_after_link ns l (last_of front) (first_of back) n)
    (ends_after_link es l (last_of front) (first_of back) n) ls (set ls l (front ++ n ∷ back)) n (Some l)
put_between ns es ls l n front back t n_in l_in out at =
    let once : HasNoRepeats (front ++ back) = subst HasNoRepeats at (t.once l) in
    let absent : has n (front ++ back) ≡ false = ap (has n) (sym at) ∙ list_with-none ls n l out in
    let parts = HasNoRepeats-taken front back n (HasNoRepeats-put front back n once absent) in
    let mine : list_with (set ls l (front ++ n ∷ back)) n ≡ Some l = list_with-put ls n l (front ++ n ∷ back) out l_in (has-right n front (n ∷ back) (has-head n back)) in
    let now_at = get_or-set_same ls l (front ++ n ∷ back) [] l_in in
    record {
      ties = Ties-moved ns es ls l n (front ++ back) (front ++ n ∷ back) (last_of front) (first_of back) (Some n) (Some n) (Some l) (last_of front) (first_of back)
          t n_in l_in at (put_move front back n once absent) mine
          (ap (λ zs. next_in_list zs n) now_at ∙ next_in_list-split front back n parts.1)
          (ap (λ zs. prev_in_list zs n) now_at ∙ prev_from-split None front back n parts.1)
          (λ k h. only_here ls l n k (front ++ n ∷ back) (Some l) l_in (λ j ne g. absurd (both_ways (has n (get_or ls j [])) (list_with-none ls n j out) g)) (λ g. refl) h);
      holders = holders_from ls (set ls l (front ++ n ∷ back)) n (Some l) mine
          (λ m ne. list_with-same ls m l (front ++ n ∷ back) (has-put m n front back ne ∙ ap (has m) (sym at)));
    }

-- a node is put into a list after a place, or at its head
pub Holds-put : (ns : List Slot) (es : List Ends) (ls : List (List ℕ)) (l n : ℕ) (after next : Option ℕ) →
    Ties ns es ls → n < length ns → l < length ls → list_with ls n ≡ None → ((p : ℕ) → after ≡ Some p → list_with ls p ≡ Some l) → next ≡ follower_of ns es l after →
    Holds (slots_after_link ns l after next n) (ends_after_link es l after next n) ls
    (set ls l (insert_after after n (get_or ls l []))) n (Some l)
Holds-put ns es ls l n None next t n_in l_in out place next_is =
    let r = put_between ns es ls l n [] (get_or ls l []) t n_in l_in out refl in
    let e : next ≡ first_of (get_or ls l []) = next_is ∙ t.first l in
    subst (λ (o : Option ℕ). Holds (slots_after_link ns l None o n) (ends_after_link es l None o n) ls
    (set ls l (n ∷ get_or ls l [])) n (Some l)) (sym e) r
Holds-put ns es ls l n (Some p) next t n_in l_in out place next_is =
    let xs : List ℕ = get_or ls l [] in
    let mine = place p refl in
    let cut = has_split p xs (list_with-has ls p l mine) in
    let front = cut.0 in
    let back = cut.1 in
    let e : next ≡ first_of back = next_is ∙ t.next p ∙ ap (λ o. option_and_then (λ k. next_in_list (get_or ls k []) p) o) mine ∙ ap (λ zs. next_in_list zs p) cut.2 ∙ next_in_list-split front back p cut.3 in
    let at : xs ≡ (front ++ p ∷ []) ++ back = cut.2 ∙ sym (append_assoc front (p ∷ []) back) in
    let end : last_of (front ++ p ∷ []) ≡ Some p = last_or-append None front (p ∷ []) in
    let now : (front ++ p ∷ []) ++ n ∷ back ≡ insert_after (Some p) n xs =
    append_assoc front (p ∷ []) (n ∷ back) ∙ sym (put_after-split front back p n cut.3) ∙ ap (insert_after (Some p) n) (sym cut.2) in
    let r = put_between ns es ls l n (front ++ p ∷ []) back t n_in l_in out at in
    let r2 = subst (λ (o : Option ℕ). Holds (slots_after_link ns l o (first_of back) n)
    (ends_after_link es l o (first_of back) n) ls (set ls l ((front ++ p ∷ []) ++ n ∷ back)) n (Some l)) end r in
    let r3 = subst (λ (o : Option ℕ). Holds (slots_after_link ns l (Some p) o n) (ends_after_link es l (Some p) o n)
    ls (set ls l ((front ++ p ∷ []) ++ n ∷ back)) n (Some l)) (sym e) r2 in
    subst (λ (zs : List ℕ). Holds (slots_after_link ns l (Some p) next n) (ends_after_link es l (Some p) next n) ls
    (set ls l zs) n (Some l)) now r3

-- a node is taken out from between a front and a back
take_between : (ns : List Slot) (es : List Ends) (ls : List (List ℕ)) (l n : ℕ) (front back : List ℕ) →
    Ties ns es ls → n < length ns → list_with ls n ≡ Some l → get_or ls l [] ≡ front ++ n ∷ back →
    Holds (slots_after_unlink ns (last_of front) (first_of back) n)
    (ends_after_unlink es l (last_of front) (first_of back)) ls (set ls l (front ++ back)) n None
take_between ns es ls l n front back t n_in held at =
    let l_in = list_with-within ls n l held in
    let once : HasNoRepeats (front ++ n ∷ back) = subst HasNoRepeats at (t.once l) in
    let parts = HasNoRepeats-taken front back n once in
    let absent : has n (front ++ back) ≡ false = has-neither n front back parts.1 parts.2 in
    let nowhere : (k : ℕ) → has n (get_or (set ls l (front ++ back)) k []) ≡ false = λ k. false_from_ne_true (has n (get_or (set ls l (front ++ back)) k [])) (λ h.
    let wrong : None ≡ Some k = only_here ls l n k (front ++ back) None l_in
    (λ j ne g. absurd (ne (same_Some j l (sym (t.alone j n g) ∙ held)))) (λ g. absurd (both_ways (has n (front ++ back)) absent g)) h in cc) in
    let mine : list_with (set ls l (front ++ back)) n ≡ None = list_with-absent (set ls l (front ++ back)) n nowhere in
    record {
      ties = Ties-moved ns es ls l n (front ++ n ∷ back) (front ++ back) (last_of front) (first_of back) (first_of back) (last_of front) None None None
          t n_in l_in at (take_move front back n once) mine refl refl
          (λ k h. absurd (both_ways (has n (get_or (set ls l (front ++ back)) k [])) (nowhere k) h));
      holders = holders_from ls (set ls l (front ++ back)) n None mine
          (λ m ne. list_with-same ls m l (front ++ back) (sym (has-put m n front back ne) ∙ ap (has m) (sym at)));
    }

-- a node is taken out of its list
pub Holds-taken : (ns : List Slot) (es : List Ends) (ls : List (List ℕ)) (l n : ℕ) (prev next : Option ℕ) →
    Ties ns es ls → n < length ns → list_with ls n ≡ Some l → prev ≡ (slot_at ns n).prev → next ≡ (slot_at ns n).next →
    Holds (slots_after_unlink ns prev next n) (ends_after_unlink es l prev next) ls
    (set ls l (list_without n (get_or ls l []))) n None
Holds-taken ns es ls l n prev next t n_in held prev_is next_is =
    let xs : List ℕ = get_or ls l [] in
    let cut = has_split n xs (list_with-has ls n l held) in
    let front = cut.0 in
    let back = cut.1 in
    let parts = HasNoRepeats-taken front back n (subst HasNoRepeats cut.2 (t.once l)) in
    let before : prev ≡ last_of front = prev_is ∙ t.prev n ∙ ap (λ o. option_and_then (λ k. prev_in_list (get_or ls k []) n) o) held ∙ ap (λ zs. prev_in_list zs n) cut.2 ∙ prev_from-split None front back n cut.3 in
    let after : next ≡ first_of back = next_is ∙ t.next n ∙ ap (λ o. option_and_then (λ k. next_in_list (get_or ls k []) n) o) held ∙ ap (λ zs. next_in_list zs n) cut.2 ∙ next_in_list-split front back n cut.3 in
    let now : front ++ back ≡ list_without n xs = sym (list_without-split front back n parts.1 parts.2) ∙ ap (list_without n) (sym cut.2) in
    let r = take_between ns es ls l n front back t n_in held cut.2 in
    let r2 = subst (λ (o : Option ℕ). Holds (slots_after_unlink ns o (first_of back) n)
    (ends_after_unlink es l o (first_of back)) ls (set ls l (front ++ back)) n None) (sym before) r in
    let r3 = subst (λ (o : Option ℕ). Holds (slots_after_unlink ns prev o n) (ends_after_unlink es l prev o) ls
    (set ls l (front ++ back)) n None) (sym after) r2 in
    subst (λ (zs : List ℕ). Holds (slots_after_unlink ns prev next n) (ends_after_unlink es l prev next) ls
    (set ls l zs) n None) now r3
