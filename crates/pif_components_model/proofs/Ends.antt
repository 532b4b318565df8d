-- The end of a thread stays on its side, depends on it alone, and keeps the sides apart.
use Rattle.std.proofs.Common.{ℕ, ◌≡◌, ◌≢◌, ◌∙◌, ◌==◌, Bool, true, false, length, nat_lt, None, refl, sym, ap, subst, if◌then◌else◌}
use Rattle.std.proofs.lemmas.Bool.{true≢false}
use Rattle.pif_model.specs.Refusals.{end_refused}
use Rattle.pif_model.specs.Posix.{World, Mutex, thread_at, mutex_at, is_thread, with_thread, after_end, after_owner_death, on_death, IsOwner, Releases, Ends}
use Rattle.pif_model.specs.Posix.Releases.{none_left, one_more}
use Rattle.pif_components_model.specs.Components.{Side}
use Rattle.pif_components_model.specs.Components.Name.{OfThread, OfMutex}
use Rattle.pif_components_model.specs.Sides.{Agrees, IsSplit}
use Rattle.pif_components_model.proofs.Frames.{Passed, passed_first, passed_then, passed_mutex, passed_without, passed_on}
use Rattle.pif_components_model.proofs.Changes.{same_thread, same_mutex, same_without}
use Rattle.pif_components_model.proofs.Echoes.{Echo, passes_too}
use Rattle.pif_components_model.proofs.Entries.{passed_newly, end_same}

-- who ends has a number
known : (b c : Bool) → end_refused b c ≡ None → b ≡ true
known true c e = refl
known false c e = absurd (cc)

numbered : (w : World) (t : ℕ) → is_thread w t ≡ true → t ≢ 0
numbered w t h e = absurd (true≢false (sym h ∙ ap (λ n. if n == 0 then false else nat_lt n (length w.threads)) e))

module _ (x : Side) (t : ℕ) (some : t ≢ 0) where
  -- a mutex that t owns is on its side
  own_side : (w : World) → IsSplit x w → (m : ℕ) → IsOwner w t m → (x (OfMutex m) ≡ x (OfThread t)) × (m ≢ 0)
  own_side w s m own =
      let k = s.owners m (λ e. some (sym own ∙ e)) in
      (sym k.0 ∙ ap (λ n. x (OfThread n)) own, k.1)

  -- its health changes
  passed_death : (w : World) → IsSplit x w → (m : ℕ) → IsOwner w t m → Passed x t w (after_owner_death m w)
  passed_death w s m own =
      passed_mutex x t m (record (mutex_at w m) { health = on_death (mutex_at w m).health }) w s (λ z. (own_side w s m own).0) (λ z. s.owners m z)

  passed_releases : {w v : World} → Releases t w v → IsSplit x w → Passed x t w v
  passed_releases {w} {v} (none_left none e) s = subst (Passed x t w) (sym e) (passed_first x t w s)
  passed_releases {w} {v} (one_more {u = z} m own robust passes more) s =
      let f = passed_death w s m own in
      let g = passed_on x t m (after_owner_death m w) f.split (λ k. (own_side w s m own).0) passes in
      passed_then x t f (passed_then x t g (passed_releases more g.split))

  passed_left : (w : World) → IsSplit x w → Passed x t w (after_end t w)
  passed_left w s =
      let f = passed_newly x t t (record (thread_at w t) { living = false; call = None }) w s refl (λ q e. absurd (cc)) in
      passed_then x t f (passed_without x t t (with_thread t (record (thread_at w t) { living = false; call = None }) w) f.split refl)

  module _ (on : x (OfThread t) ≡ true) where
    echo_releases : {w u : World} → Releases t w u → (v : World) → IsSplit x w → IsSplit x v → Agrees x w v → Echo x (Releases t v) u
    echo_releases {w} {u} (none_left none e) v s r a = record {
      after = v;
      step = none_left (λ m own.
          let k = own_side v r m own in
          let is = a.mutex m k.1 (k.0 ∙ on) in
          ap (λ (z : Mutex). z.robust) is ∙ none m (sym (ap (λ (z : Mutex). z.owner) is) ∙ own)) refl;
      agrees = subst (λ (z : World). Agrees x z v) (sym e) a;
    }
    echo_releases {w} {u} (one_more {u = z} m own robust passes more) v s r a =
        let k = own_side w s m own in
        let its : x (OfMutex m) ≡ true = k.0 ∙ on in
        let is : mutex_at v m ≡ mutex_at w m = a.mutex m k.1 its in
        let own' : IsOwner v t m = ap (λ (y : Mutex). y.owner) is ∙ own in
        let f = passed_death w s m own in
        let f' = passed_death v r m own' in
        let p = passes_too x (after_owner_death m w) (after_owner_death m v) f.split f'.split
        (same_mutex x w v a m _ _ (λ y i. record (is i) { health = on_death (is i).health })) m (λ y. its) passes in
        let g = passed_on x t m (after_owner_death m w) f.split (λ y. k.0) passes in
        let g' = passed_on x t m (after_owner_death m v) f'.split (λ y. k.0) p.step in
        let h = echo_releases more p.after g.split g'.split p.agrees in
        record {
          after = h.after;
          step = one_more m own' (ap (λ (y : Mutex). y.robust) is ∙ robust) p.step h.step;
          agrees = h.agrees;
        }

    same_left : (w v : World) → Agrees x w v → Agrees x (after_end t w) (after_end t v)
    same_left w v a =
        same_without x (with_thread t (record (thread_at w t) { living = false; call = None }) w)
        (with_thread t (record (thread_at v t) { living = false; call = None }) v)
        (same_thread x w v a t _ _ (λ i. record (a.thread t on i) { living = false; call = None })) t

-- who ends has a number
pub ends_number : (t : ℕ) {w u : World} → Ends t w u → t ≢ 0
ends_number t {w} y = numbered w t (known (is_thread w t) _ y.allowed)

pub passes_end : (x : Side) (t : ℕ) (w : World) → IsSplit x w → {u : World} → Ends t w u → Passed x t w u
passes_end x t w s y =
    let f = passed_left x t (ends_number t y) w s in
    passed_then x t f (passed_releases x t (ends_number t y) y.releases f.split)

pub echo_end : (x : Side) (w v : World) → IsSplit x w → IsSplit x v → Agrees x w v → (t : ℕ) → x (OfThread t) ≡ true → {u : World}
    → Ends t w u → Echo x (Ends t v) u
echo_end x w v s r a t on y =
    let some = ends_number t y in
    let h = echo_releases x t some on y.releases (after_end t v) (passed_left x t some w s).split (passed_left x t some v r).split
    (same_left x t some on w v a) in
    record {
      after = h.after;
      step = record { allowed = end_same x w v s r a t on ∙ y.allowed; releases = h.step };
      agrees = h.agrees;
    }
