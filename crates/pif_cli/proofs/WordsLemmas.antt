-- How words that are refused end the program.
use Rattle.std.proofs.Common.{◌≡◌, ◌⊎◌, inl, inr, ℕ, List, [], ◌∷◌, Option, Some, None, arith, append-nil, sym, ◌∙◌}
use Rattle.std.specs.Io.KnownBytes.{Keeps}
use Rattle.std.proofs.KnownBytes.{Keeps-refl}
use Rattle.clap.specs.Words.{IsAmong, Kinds}
use Rattle.clap.specs.declared.error.kind.ErrorKind.{ErrorKind}
use Rattle.clap.specs.declared.error.kind.ErrorKind.TheVariants.{DisplayHelp, DisplayVersion, OutOfMemory}
use Rattle.pif_cli_messages.specs.Messages.{TellsAt, TellsNotes}
use Rattle.pif_cli.specs.Words.{EndsIf, HadNoMemory, Refused, RefusedFor, ShowedHelp}

pub EndsIf-refused : (kinds : Kinds) (done : Type 0) (k : ErrorKind)
    (read held holds errors_held errors_hold : Option (List ℕ)) (status : ℕ)
    → (k ≡ OutOfMemory) ⊎ IsAmong k kinds
    → HadNoMemory held holds errors_held errors_hold status ⊎ ((k ≡ OutOfMemory → ⊥) × RefusedFor k held holds errors_held errors_hold status)
    → EndsIf kinds done read read held holds errors_held errors_hold status
EndsIf-refused [] done k read held holds errors_held errors_hold status why shown =
    elim shown [
      | inl w ↦ inr (Keeps-refl read, w)
      | inr w ↦ elim why [ inl o ↦ absurd (w.0 o) | inr m ↦ absurd m ]
    ]
EndsIf-refused (x ∷ xs) done k read held holds errors_held errors_hold status why shown = (
  Keeps-refl read,
  elim shown [
    | inl w ↦ inr w
    | inr w ↦ elim why [ inl o ↦ absurd (w.0 o) | inr m ↦ inl (k, m, w.1) ]
  ],
)

-- nothing was told, which are no notes
no_notes : (held holds : Option (List ℕ)) → Keeps held holds → (notes : List ℕ) × TellsNotes notes held holds
no_notes None holds kept = ([], inl tt)
no_notes (Some xs) None kept = absurd kept
no_notes (Some xs) (Some ys) kept = ([], inl (kept ∙ sym (append-nil xs)))

-- what help tells the errors
help_tells : (held holds errors_held errors_hold : Option (List ℕ)) (status : ℕ)
    → ShowedHelp held holds errors_held errors_hold status → TellsAt status errors_held errors_hold
help_tells held holds errors_held errors_hold status shown =
    elim shown.1 [
      | inl s ↦ inl (s.0, no_notes errors_held errors_hold s.2)
      | inr s ↦ inr (inr (inl (omega (arith, s.0), omega (arith, s.0), s.2)))
    ]

-- what other refusals tell them
reason_tells : (held holds errors_held errors_hold : Option (List ℕ)) (status : ℕ)
    → Refused held holds errors_held errors_hold status → TellsAt status errors_held errors_hold
reason_tells held holds errors_held errors_hold status shown =
    elim shown.1.1 [
      | inl s ↦ inr (inl (s.0, (shown.1.0, s.1)))
      | inr s ↦ inr (inr (inr (inl (s.0, (shown.1.0, s.1)))))
    ]

-- a refusal is help or another one
help_or_reason : (k : ErrorKind) (held holds errors_held errors_hold : Option (List ℕ)) (status : ℕ)
    → RefusedFor k held holds errors_held errors_hold status
    → ShowedHelp held holds errors_held errors_hold status ⊎ Refused held holds errors_held errors_hold status
help_or_reason DisplayHelp held holds errors_held errors_hold status r = inl r
help_or_reason DisplayVersion held holds errors_held errors_hold status r = inl r
help_or_reason k held holds errors_held errors_hold status r = inr r

-- what words that are refused tell the errors
pub refusal_tells : (k : ErrorKind) (held holds errors_held errors_hold : Option (List ℕ)) (status : ℕ)
    → HadNoMemory held holds errors_held errors_hold status ⊎ ((k ≡ OutOfMemory → ⊥) × RefusedFor k held holds errors_held errors_hold status)
    → TellsAt status errors_held errors_hold
refusal_tells k held holds errors_held errors_hold status shown =
    elim shown [
      | inl w ↦ inr (inr (inl (omega (arith, w.0), omega (arith, w.0), w.2)))
      | inr w ↦ elim (help_or_reason k held holds errors_held errors_hold status w.1) [
        | inl h ↦ help_tells held holds errors_held errors_hold status h
        | inr r ↦ reason_tells held holds errors_held errors_hold status r
      ]
    ]
