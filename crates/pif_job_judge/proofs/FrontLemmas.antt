-- How far a history is legal for certain.
use Rattle.std.proofs.Common.{◌≡◌, ℕ, Option, IfSome, None, Some, refl, sym, subst}
use Rattle.pif_history_text.specs.Histories.{Heard}
use Rattle.pif_history_told.specs.Why.{IsNumbered}
use Rattle.pif_judge_reasons.specs.declared.fronts.Front.{Front}
use Rattle.pif_job_judge.specs.Fronts.{IsFront, IsUpTo}

pub front_is : (h : Heard) (front : Option Front) (f : Front) → front ≡ Some f → IfSome front (IsFront h) → IsFront h f
front_is h front f is known = subst (λ (o : Option Front). IfSome o (IsFront h)) is known

pub up_to_some : (h : Heard) (front : Option Front) (f : Front) (number : ℕ) → front ≡ Some f → IsNumbered h f.count number
    → IsUpTo h front (Some number)
up_to_some h front f number is there = subst (λ (o : Option Front). IsUpTo h o (Some number)) (sym is) (number, refl, there)

pub up_to_none : (h : Heard) (front : Option Front) → front ≡ None → IsUpTo h front None
up_to_none h front is = subst (λ (o : Option Front). IsUpTo h o None) (sym is) refl
