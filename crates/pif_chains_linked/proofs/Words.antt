-- A word gets an owner state, or loses it, while a state is made, or ends.
use Rattle.std.proofs.Common.{◌≡◌, ◌≢◌, ◌⊎◌, ℕ, ◌<◌, ◌==◌, length, get_or, set, if◌then◌else◌, Option, Some, None, IsSome, refl, sym, ap, ◌∙◌, subst, inl, inr}
use Rattle.std.proofs.lemmas.Bool.{cases_eq, false≢true}
use Rattle.std.proofs.lemmas.Option.{same_Some}
use Rattle.std.specs.FinMap.{FinMap, get}
use Rattle.std.specs.Ordering.{nat_cmp}
use Rattle.pif_nodes_model.specs.Table.{NodeLists}
use Rattle.pif_nodes_model.specs.Levels.{Queue, KeepsQueue}
use Rattle.pif_kernel_model.specs.Owners.{owner_at}
use Rattle.pif_kernel_model.specs.States.{States, owners_in}
use Rattle.pif_kernel_model.specs.Holds.{HoldsStates}
use Rattle.pif_kernel_model.specs.Frames.{KeepsOwn}
use Rattle.pif_kernel_model.specs.Entries.{Found, entry_at, found_in}
use Rattle.pif_kernel_model.specs.QueueFrames.{KeepsOthers}
use Rattle.pif_kernel_model.specs.Parked.{parked_at}
use Rattle.pif_kernel_model.specs.Buckets.{Buckets, HoldsBuckets}
use Rattle.pif_kernel_model.specs.Chained.{KeepsLevels}
use Rattle.pif_chains_linked.specs.Parkings.{parkings_by}
use Rattle.pif_chains_linked.specs.Linked.{key_count, key_of, keys_in, IsWordOf, IsLaidOut, StandLinked, IsLinked}
use Rattle.pif_chains_linked.proofs.Keys.{at_same, at_other, keys_changed, keys_found, found_some, row_word}
use Rattle.pif_chains_linked.proofs.Fits.{fits_owned, fits_moved}
use Rattle.pif_chains_linked.proofs.Leaving.{words_leave_owners, words_leave_queue}
use Rattle.pif_kernel_model.proofs.SamePlace.{SamePlace}
use Rattle.pif_chains_linked.proofs.Standing.{linked, stand_made, owners_same, queue_same, levels_same, stand_same, laid_words}

module _ (m : States) (q : Queue) (b : Buckets) (t : NodeLists) (next : ℕ) (h : IsLinked m q b t next) where
  -- no word has the row of a state that is made
  pub row_free : (m' : States) (key row : ℕ) → owner_at (owners_in m t) key ≡ None
      → ((k r : ℕ) → get m.places k ≡ Some r → get m'.places k ≡ Some r)
      → ((other : ℕ) → get m'.places other ≡ Some row → other ≡ key)
      → (w : ℕ) (f : Found) → found_in b.entries t w ≡ Some f → f.row ≢ row
  row_free m' key row fresh rows alone w f is same =
      let old : get m.places f.key ≡ Some f.row = (h.words w f is).row in
      let one : f.key ≡ key = alone f.key (rows f.key f.row old ∙ ap Some same) in
      let some : IsSome (get m.owners f.key) = h.stand.owners.waiters.stated f.key f.row old in
      false≢true (subst IsSome (ap (get m.owners) one ∙ fresh) some)

  -- two words have two states
  pub one_word : (v w : ℕ) (f g : Found) → found_in b.entries t v ≡ Some f → found_in b.entries t w ≡ Some g
      → f.key ≡ g.key → v ≡ w
  one_word v w f g is it same =
      let rows : f.row ≡ g.row
      = same_Some f.row g.row (sym (h.words v f is).row ∙ ap (get m.places) same ∙ (h.words w g it).row) in
      sym (row_word b.entries t h.stand.buckets.entries v f is) ∙ ap (λ r. (entry_at b.entries r).word) rows
      ∙ row_word b.entries t h.stand.buckets.entries w g it

  -- the word of a mutex that has a key
  pub mutex_word : (w n k : ℕ) → w ≡ n → get_or (keys_in b.entries t) n None ≡ Some k
      → (f : Found) × (found_in b.entries t w ≡ Some f) × (f.key ≡ k) × (w < key_count)
  mutex_word w n k same e =
      let f = found_some b.entries t w k (ap (λ v. key_of (found_in b.entries t v)) same
      ∙ sym (keys_found b.entries t n (λ f is. (h.words n f is).mutex)) ∙ e) in
      (f.0, f.1, f.2, (h.words w f.0 f.1).mutex)

  -- a state was made, or ended, and then a word got one, or lost it
  module _ (m' : States) (place : SamePlace m m') (holds : HoldsStates m' t) (owners : FinMap nat_cmp ℕ)
      (made : owners_in m' t ≡ record (owners_in m t) { owners = owners }) (w : ℕ) (few : w < key_count)
      (x : Option Found) (own : (f : Found) → x ≡ Some f → get m'.places f.key ≡ Some f.row)
      (others : (v : ℕ) (f : Found) → v ≢ w → found_in b.entries t v ≡ Some f → get m'.places f.key ≡ Some f.row)
      (b' : Buckets) (t' : NodeLists)
      (change : (v : ℕ) → found_in b'.entries t' v ≡ (if v == w then x else found_in b.entries t v))
      (parked : (u : ℕ) → parked_at b'.parked t' u ≡ parked_at b.parked t u)
      (placed : b' ≡ record b { entries = record b.entries { items = b'.entries.items } })
      (counted : length b'.entries.items ≡ length b.entries.items)
      (outside : KeepsOthers b.entries.first_list 64 b.entries.first_node (length b.entries.items) t t')
      (held : HoldsBuckets b' t') where
    stand : StandLinked m' q b t
    stand = stand_made m q b t h.stand m' place holds

    laid : IsLaidOut m' q b'
    laid = laid_words m' q b b' placed counted stand.laid

    leaves : KeepsOwn m' t t'
    leaves = words_leave_owners m' q b t t' stand.laid outside

    leaves_queue : KeepsQueue q t t'
    leaves_queue = words_leave_queue m' q b t t' stand.laid outside

    threads : b'.parked.threads ≡ b.parked.threads
    threads = ap (λ (x : Buckets). x.parked.threads) placed

    pub worded_owners : owners_in m' t' ≡ record (owners_in m t) { owners = owners }
    worded_owners = owners_same m' q b t stand b' t' laid held leaves leaves_queue ∙ made

    pub linked_worded : IsLinked m' q b' t' next
    linked_worded = record {
      stand = stand_same m' q b t stand b' t' laid held leaves leaves_queue;
      words = λ v f is. by_word v f is (cases_eq v w);
      parked =
          fits_moved (record (owners_in m t) { owners = owners }) (owners_in m' t') (parked_at b.parked t)
          (parked_at b'.parked t') b.parked.threads b'.parked.threads next worded_owners parked threads
          (fits_owned (owners_in m t) (parked_at b.parked t) b.parked.threads next h.parked owners);
    }
      where
        by_word : (v : ℕ) (f : Found) → found_in b'.entries t' v ≡ Some f → ((v ≡ w) ⊎ (v ≡ w → ⊥)) → IsWordOf m' v f
        by_word v f is (inl same) = record {
          mutex = subst (λ y. y < key_count) (sym same) few;
          row = own f (sym (change v ∙ at_same v w x (found_in b.entries t v) same) ∙ is);
        }
        by_word v f is (inr ne) =
            let old : found_in b.entries t v ≡ Some f
            = sym (change v ∙ at_other v w x (found_in b.entries t v) ne) ∙ is in
            record { mutex = (h.words v f old).mutex; row = others v f ne old }

    pub worded_kept : KeepsLevels (record (linked m q b t) { keys = set (keys_in b.entries t) w (key_of x) })
        (linked m' q b' t')
    worded_kept = record {
      levels = levels_same m' q b t stand b' t' laid held leaves leaves_queue;
      queue = refl;
      holds = queue_same m' q b t stand b' t' laid held leaves leaves_queue;
      keys = keys_changed b.entries b'.entries t t' w x few change;
      parked = λ i. parkings_by (λ u. parked u i) (threads i);
    }
