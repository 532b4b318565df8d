-- The lines of each side of a legal history are legal.
use Rattle.std.proofs.Common.{ℕ, zero, suc, ◌≡◌, ◌≢◌, List, [], ◌∷◌, get_or, Some, refl}
use Rattle.pif_types.specs.Bounds.{Bounds}
use Rattle.pif_types.specs.declared.requests.Request.{Request}
use Rattle.pif_model.specs.Posix.{nobody, no_mutex, empty_world}
use Rattle.pif_history_model.specs.declared.lines.Line.{Line}
use Rattle.pif_history_model.specs.Plain.{plain_start_of}
use Rattle.pif_history_model.specs.Shown.{IsShown}
use Rattle.pif_history_model.proofs.Completeness.{reached-from_shown}
use Rattle.pif_history_model.proofs.Soundness.{shown-from_search}
use Rattle.pif_components_model.specs.Components.{Side, IsClosed, lines_of}
use Rattle.pif_components_model.specs.Components.Name.{OfThread, OfMutex}
use Rattle.pif_components_model.specs.Sides.{IsSplit, IsBeside, IsPart, AreBeside, request_of}
use Rattle.pif_components_model.proofs.Frames.{agrees_first}
use Rattle.pif_components_model.proofs.Runs.{beside_all, run_projects}

module _ (x : Side) where
  -- nothing was added: nobody calls, and nobody owns a mutex
  no_call : (t : ℕ) (q : Request) → request_of (get_or (nobody ∷ []) t nobody).call ≡ Some q → IsBeside x t q
  no_call zero q e = absurd (cc)
  no_call (suc t) q e = absurd (cc)

  no_owner : (m : ℕ) → (get_or (no_mutex ∷ []) m no_mutex).owner ≢ 0
      → (x (OfThread (get_or (no_mutex ∷ []) m no_mutex).owner) ≡ x (OfMutex m)) × (m ≢ 0)
  no_owner zero some = absurd (some refl)
  no_owner (suc m) some = absurd (some refl)

  split_start : (n : ℕ) → IsSplit x (empty_world n)
  split_start n = record { calls = no_call; waiters = λ u m h. absurd (cc); owners = no_owner }

  -- the start is a part of itself
  pub part_of_start : (l : Bounds) → IsPart x (plain_start_of l) (plain_start_of l)
  part_of_start l = record {
    agrees = agrees_first x (empty_world l.signals);
    split = split_start l.signals;
    apart = split_start l.signals;
    dying = λ t on. refl;
  }

  pub legal_beside : (l : Bounds) (lines : List Line) → AreBeside x lines → IsShown l lines → IsShown l (lines_of x lines)
  legal_beside l lines named legal =
      let r = reached-from_shown l lines legal in
      let p = run_projects x l (plain_start_of l) (plain_start_of l) (part_of_start l) r.1.history lines r.0 named r.1.run r.1.shows in
      shown-from_search l (lines_of x lines) p.last (record { history = _; run = p.run; shows = p.shows })

  pub legal_on_side : (l : Bounds) (lines : List Line) → IsClosed lines x → IsShown l lines → IsShown l (lines_of x lines)
  legal_on_side l lines closed = legal_beside l lines (beside_all x lines closed)
