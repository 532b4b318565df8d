-- Who is parked, by what is kept: one who is not parked doesn't stand among the parked.
use Rattle.std.proofs.Common.{◌≡◌, ℕ, ◌≤◌, Bool, true, false, length, List, refl, ap, ◌∙◌}
use Rattle.std.proofs.lemmas.List.{get_or_past}
use Rattle.pif_model.specs.declared.lines.Status.TheVariants.{Ready}
use Rattle.pif_model.specs.declared.lines.Woken.TheVariants.{Fresh}
use Rattle.pif_model.specs.PiKernel.{seat_at as kernel_seat_at, is_parked, parked_pairs, parkings_without}
use Rattle.pif_model_lemmas.proofs.kernel.Statuses.{not_parked}
use Rattle.pif_model_lemmas.proofs.Waiting.{names, pair-from_named}
use Rattle.pif_kernel_model.specs.Inside.{Inside, IsSoundInside, kernel_of}
use Rattle.pif_kernel_model.proofs.Seats.{parked_seen, status_seen}
use Rattle.pif_kernel_model.proofs.Standing.{fits}
use Rattle.pif_kernel_model.proofs.Parked.{parkings_without-unnamed}

-- pairs of a parked thread and its variable
abbrev pub pairs_of : Inside → List (ℕ × ℕ)
pairs_of p = parked_pairs p.parked

module _ (p : Inside) (h : IsSoundInside p) (t : ℕ) where
  -- the same in the kernel by itself
  pairs_seen : parked_pairs (kernel_of p).parked ≡ pairs_of p
  pairs_seen = ap parked_pairs (parked_seen p)

  -- who is not parked doesn't stand among the parked
  pub unparked_unnamed : is_parked (kernel_seat_at (kernel_of p) t).status ≡ false → names t (pairs_of p) ≡ false
  unparked_unnamed e = by_name (names t (pairs_of p)) refl
    where
      by_name : (b : Bool) → names t (pairs_of p) ≡ b → names t (pairs_of p) ≡ false
      by_name false y = y
      by_name true y =
          let r = pair-from_named (parked_pairs (kernel_of p).parked) t (ap (names t) pairs_seen ∙ y) in
          absurd (not_parked (kernel_seat_at (kernel_of p) t).status r.0 e (h.kernel.parking.status t r.0 r.1))

  -- nor does one who was never added
  pub unadded_unnamed : length p.statuses ≤ t → names t (pairs_of p) ≡ false
  unadded_unnamed past =
      unparked_unnamed (ap is_parked (status_seen p (fits p h) t ∙ get_or_past p.statuses t (Ready Fresh) past))

  -- taking it off changes nothing
  pub unparked_absent : is_parked (kernel_seat_at (kernel_of p) t).status ≡ false → p.parked ≡ parkings_without p.parked t
  unparked_absent e = parkings_without-unnamed p.parked t (unparked_unnamed e)
