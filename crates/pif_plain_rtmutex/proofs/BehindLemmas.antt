-- The waiter right behind another, by a look at one thread after another.
use Rattle.std.proofs.Common.{◌≡◌, ◌⊎◌, ℕ, ◌<◌, ◌≤◌, Bool, true, false, if◌then◌else◌, length, Option, Some, None, IsSome, IfSome, IfNone, ◌+◌, ◌↔◌, option_map, option_and_then, refl, sym, ◌∙◌, ap, subst, inl, inr, arith}
use Rattle.std.proofs.lemmas.Bool.{false≢true, true≢false, cases_lt}
use Rattle.std.proofs.lemmas.Bool.Decides.{nat_tests}
use Rattle.pif_nodes_model.specs.declared.keys.Key.{Key}
use Rattle.pif_nodes_model.specs.Order.{comes_before}
use Rattle.pif_nodes_model.proofs.OrderLemmas.{not_before-past, not_before-self}
use Rattle.pif_kernel_model.specs.Owners.{Wait, Task, Owners, task_at, waits_on, rank_of, AreSoundOwners}
use Rattle.pif_kernel_model.specs.Behind.{IsLast, IsBehind}
use Rattle.pif_plain_rtmutex.specs.Standing.{rank_on, standing, leads, later, standing_behind}
use Rattle.pif_plain_rtmutex.proofs.TopLemmas.{standing-from, standing-some, waits-within}

-- of the threads below n, none leads this one, which stands behind t, or is 0
pub record IsFirstBehind (v : Owners) (t n first : ℕ) : Type 0 where
  pub ahead : (u : ℕ) → u < n → leads (standing_behind v t u) (standing_behind v t first) ≡ false
  pub stands : (first ≡ 0) ⊎ IsSome (standing_behind v t first)

not_after : (a b : Key) → comes_before a b ≡ true → comes_before b a ≡ false
not_after a b h = grind (arith, nat_tests)

-- what t waits for
waits-some : (v : Owners) (t : ℕ) → IsSome (waits_on v t) → (w : Wait) × ((task_at v t).wait ≡ Some w)
waits-some v t h = by_wait (task_at v t).wait h refl
  where
    by_wait : (o : Option Wait) → IsSome (option_map (λ (w : Wait). w.state) o) → (task_at v t).wait ≡ o
        → (w : Wait) × ((task_at v t).wait ≡ Some w)
    by_wait None h e = absurd (false≢true h)
    by_wait (Some w) h e = (w, e)

module _ (v : Owners) (t : ℕ) (w : Wait) (at : (task_at v t).wait ≡ Some w) where
  waits-is : waits_on v t ≡ Some w.state
  waits-is = ap (option_map (λ (x : Wait). x.state)) at

  rank-is : (r : Key) → rank_of v t ≡ Some r → w.rank ≡ r
  rank-is r e = let same : Some w.rank ≡ Some r = sym (ap (option_map (λ (x : Wait). x.rank)) at) ∙ e in cc

  -- by what t waits for
  behind-is : (u : ℕ) → standing_behind v t u ≡ option_and_then (later w.rank) (standing v w.state u)
  behind-is u =
      ap (λ (o : Option Wait). option_and_then
      (λ (x : Wait). option_and_then (later x.rank) (standing v x.state u)) o) at

  -- who comes after it stands behind it
  behind-from : (u : ℕ) (r : Key) → waits_on v u ≡ Some w.state → rank_of v u ≡ Some r → comes_before w.rank r ≡ true
      → standing_behind v t u ≡ Some r
  behind-from u r on rank after =
      behind-is u ∙ ap (option_and_then (later w.rank)) (standing-from v w.state u r on rank)
      ∙ ap (λ (b : Bool). if b then Some r else None) after

  -- and who stands behind it comes after it
  behind-at : (u : ℕ) → IsSome (standing_behind v t u)
      → (r : Key) × (waits_on v u ≡ Some w.state) × (rank_of v u ≡ Some r) × (comes_before w.rank r ≡ true)
  behind-at u h = by_standing (standing v w.state u) refl (subst IsSome (behind-is u) h)
    where
      by_test : (r : Key) → IsSome (later w.rank r) → comes_before w.rank r ≡ true
      by_test r h = go (comes_before w.rank r) h
        where
          go : (b : Bool) → IsSome (if b then Some r else None) → b ≡ true
          go true h = refl
          go false h = absurd (false≢true h)

      by_standing : (o : Option Key) → standing v w.state u ≡ o → IsSome (option_and_then (later w.rank) o)
          → (r : Key) × (waits_on v u ≡ Some w.state) × (rank_of v u ≡ Some r) × (comes_before w.rank r ≡ true)
      by_standing None e h = absurd (false≢true h)
      by_standing (Some r) e h =
          let s = standing-some v w.state u (subst IsSome (sym e) refl) in
          let same : Some s.1.0 ≡ Some r = sym (standing-from v w.state u s.1.0 s.0 s.1.1) ∙ e in
          let is : s.1.0 ≡ r = cc in
          (r, s.0, s.1.1 ∙ ap Some is, by_test r h)

-- nobody stands behind anybody
zero-behind : (v : Owners) (t : ℕ) → AreSoundOwners v → standing_behind v t 0 ≡ None
zero-behind v t s = by_wait (task_at v t).wait
  where
    none : (k : ℕ) → standing v k 0 ≡ None
    none k = ap (λ (x : Task). option_and_then (rank_on k) x.wait) s.nobody

    by_wait : (o : Option Wait)
        → option_and_then (λ (x : Wait). option_and_then (later x.rank) (standing v x.state 0)) o ≡ None
    by_wait None = refl
    by_wait (Some w) = ap (option_and_then (later w.rank)) (none w.state)

-- if nobody was found, t is the last
last-zero : (v : Owners) (t n first : ℕ) → AreSoundOwners v → n ≡ length v.seats → IsSome (waits_on v t) → first ≡ 0
    → IsFirstBehind v t n first → IsLast v t
last-zero v t n first s all some zero f x mine other on rank ranked =
    let w = waits-some v t some in
    by_test (comes_before mine other) refl w
  where
    by_test : (b : Bool) → comes_before mine other ≡ b → (w : Wait) × ((task_at v t).wait ≡ Some w)
        → comes_before mine other ≡ false
    by_test false e w = e
    by_test true e w =
        let on_state : waits_on v x ≡ Some w.0.state = on ∙ waits-is v t w.0 w.1 in
        let within : x < length v.seats = waits-within v w.0.state x on_state in
        let after : comes_before w.0.rank other ≡ true
        = ap (λ (r : Key). comes_before r other) (rank-is v t w.0 w.1 mine rank) ∙ e in
        let stands : standing_behind v t x ≡ Some other = behind-from v t w.0 w.1 x other on_state ranked after in
        let nobody : standing_behind v t first ≡ None = ap (standing_behind v t) zero ∙ zero-behind v t s in
        absurd (true≢false ((λ i. leads (sym stands i) (sym nobody i)) ∙ f.ahead x (omega (arith, within, all))))

-- if somebody was, that one stands right behind it
behind-first : (v : Owners) (t n first : ℕ) → n ≡ length v.seats → IsSome (waits_on v t) → 1 ≤ first
    → IsFirstBehind v t n first → IsBehind v t first
behind-first v t n first all some one f = by_stands f.stands
  where
    by_parts : (w : Wait) → (at : (task_at v t).wait ≡ Some w) → (r : Key)
        → waits_on v first ≡ Some w.state → rank_of v first ≡ Some r → comes_before w.rank r ≡ true → IsBehind v t first
    by_parts w at r on ranked after =
        record {
          waits = on ∙ sym (waits-is v t w at);
          other = λ e. same e;
          rank = r;
          ranked = ranked;
          behind = λ mine rank. ap (comes_before r) (sym (rank-is v t w at mine rank)) ∙ not_after w.rank r after;
          next = λ x mine other same rank rank_x before.
              let on_state : waits_on v x ≡ Some w.state = same ∙ waits-is v t w at in
              let within : x < length v.seats = waits-within v w.state x on_state in
              let stands : standing_behind v t x ≡ Some other
              = behind-from v t w at x other on_state rank_x
              (ap (λ (k : Key). comes_before k other) (rank-is v t w at mine rank) ∙ before) in
              let here : standing_behind v t first ≡ Some r = behind-from v t w at first r on ranked after in
              (λ i. leads (sym stands i) (sym here i)) ∙ f.ahead x (omega (arith, within, all));
        }
      where
        same : first ≡ t → ⊥
        same e =
            true≢false (sym after
            ∙ ap (comes_before w.rank) (sym (rank-is v t w at r (ap (rank_of v) (sym e) ∙ ranked)))
            ∙ not_before-self w.rank)

    by_stands : (first ≡ 0) ⊎ IsSome (standing_behind v t first) → IsBehind v t first
    by_stands (inl z) = absurd (omega (arith, z, one))
    by_stands (inr h) =
        let w = waits-some v t some in
        let a = behind-at v t w.0 w.1 first h in by_parts w.0 w.1 a.0 a.1 a.2 a.3

-- the same of a thread that is there if its number is not 0
pub behind-some : (o : Option ℕ) (v : Owners) (t n first : ℕ) → n ≡ length v.seats → IsSome (waits_on v t)
    → (IsSome o ↔ (1 ≤ first)) → IfSome o (λ u. u ≡ first) → IsFirstBehind v t n first
    → IfSome o (λ u. IsBehind v t u)
behind-some None v t n first all some valid value f = tt
behind-some (Some u) v t n first all some valid value f =
    subst (IsBehind v t) (sym value) (behind-first v t n first all some (valid.0 refl) f)

pub behind-none : (o : Option ℕ) (v : Owners) (t n first : ℕ) → AreSoundOwners v → n ≡ length v.seats
    → IsSome (waits_on v t) → (IsSome o ↔ (1 ≤ first)) → IsFirstBehind v t n first → IfNone o (IsLast v t)
behind-none (Some u) v t n first s all some valid f = tt
behind-none None v t n first s all some valid f = last-zero v t n first s all some (by_zero (cases_lt 0 first)) f
  where
    by_zero : ((0 < first) ⊎ (first ≤ 0)) → first ≡ 0
    by_zero (inl l) = absurd (false≢true (valid.1 (omega (arith, l))))
    by_zero (inr z) = omega (arith, z)

-- ---- one more thread is looked at

leads-self : (o : Option Key) → leads o o ≡ false
leads-self None = refl
leads-self (Some a) = not_before-self a

-- who doesn't lead one doesn't lead one that leads it
leads-past : (a b c : Option Key) → leads a b ≡ true → leads c b ≡ false → leads c a ≡ false
leads-past a b None h k = refl
leads-past None b (Some z) h k = absurd (false≢true h)
leads-past (Some x) None (Some z) h k = absurd (true≢false k)
leads-past (Some x) (Some y) (Some z) h k = not_before-past x y z h k

leads-some : (a b : Option Key) → leads a b ≡ true → IsSome a
leads-some None b h = absurd (false≢true h)
leads-some (Some x) b h = refl

-- no thread so far leads this one, nor does the next one
one-more : (v : Owners) (t n first : ℕ)
    → ((u : ℕ) → u < n → leads (standing_behind v t u) (standing_behind v t first) ≡ false)
    → leads (standing_behind v t n) (standing_behind v t first) ≡ false
    → (u : ℕ) → u < n + 1 → leads (standing_behind v t u) (standing_behind v t first) ≡ false
one-more v t n first ahead last u l = by_number (cases_lt u n)
  where
    by_number : ((u < n) ⊎ (n ≤ u)) → leads (standing_behind v t u) (standing_behind v t first) ≡ false
    by_number (inl less) = ahead u less
    by_number (inr most) =
        let same : n ≡ u = omega (arith, l, most) in
        subst (λ (x : ℕ). leads (standing_behind v t x) (standing_behind v t first) ≡ false) same last

-- the next one leads
pub next-first : (v : Owners) (t n first : ℕ) → IsFirstBehind v t n first
    → leads (standing_behind v t n) (standing_behind v t first) ≡ true → IsFirstBehind v t (n + 1) n
next-first v t n first f h =
    record {
      ahead = one-more v t n n
          (λ u l. leads-past (standing_behind v t n) (standing_behind v t first) (standing_behind v t u) h (f.ahead u l))
          (leads-self (standing_behind v t n));
      stands = inr (leads-some (standing_behind v t n) (standing_behind v t first) h);
    }

-- or it doesn't
pub same-first : (v : Owners) (t n first : ℕ) → IsFirstBehind v t n first
    → leads (standing_behind v t n) (standing_behind v t first) ≡ false → IsFirstBehind v t (n + 1) first
same-first v t n first f h = record { ahead = one-more v t n first f.ahead h; stands = f.stands }

-- whether it does, as it was asked
pub asked : (v : Owners) (t n first : ℕ) (mine other : Option Key) (answer : Bool) → answer ≡ leads mine other
    → mine ≡ standing_behind v t n → other ≡ standing_behind v t first
    → leads (standing_behind v t n) (standing_behind v t first) ≡ answer
asked v t n first mine other answer e f g =
    ap (λ (x : Option Key). leads x (standing_behind v t first)) (sym f) ∙ ap (leads mine) (sym g) ∙ sym e
