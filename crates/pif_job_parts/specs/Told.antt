-- What is told of the parts of a history, in a text of verdicts.
use Rattle.std.specs.Prelude.{ℕ, ◌≡◌, ◌⊎◌, ◌+◌, Bool, List, [], ◌∷◌, ◌++◌, codes, decimal, if◌then◌else◌}
use Rattle.pif_parts.specs.declared.joining.PartVerdict.{PartVerdict}
use Rattle.pif_parts.specs.declared.joining.PartVerdict.TheVariants as part
use Rattle.pif_parts.specs.declared.parts.Span.{Span}
use Rattle.pif_job_parts.specs.declared.told.Told.{Told}
use Rattle.pif_job_parts.specs.declared.told.Word.{Word}
use Rattle.pif_job_parts.specs.declared.told.Word.TheVariants as word
use Rattle.pif_job_parts.specs.Indexes.{file_name}

-- the word of a verdict, before the number of its line
abbrev pub word_text : Word → List ℕ
word_text word.Legal = codes "legal "
word_text word.Illegal = codes "illegal at "
word_text word.Log = codes "log "
word_text word.Undecided = codes "undecided from "

-- what stands behind that number
abbrev pub mark_of : Word → List ℕ
mark_of word.Legal = codes ","
mark_of w = codes ":"

-- what stands behind the name of a file: a tab, as tools put it there, or what `pif judge` puts there
abbrev pub between : (tab : Bool) → List ℕ
between tab = if tab then codes "\t" else codes ": "

-- the front of the line that tells the verdict on a part
abbrev pub told_text : Told → List ℕ
told_text t =
    file_name t.part ++ between t.tab ++ word_text t.word ++ decimal t.number ++ mark_of t.word

-- that part of a text
abbrev pub Stands : List ℕ → List ℕ → Type 0
Stands text told = (front : List ℕ) × (rest : List ℕ) × (text ≡ front ++ (told ++ rest))

-- the verdict is that a line of the part isn't legal, or is a mistake of the log
abbrev pub IsAgainst : Word → Type 0
IsAgainst w = (w ≡ word.Illegal) ⊎ (w ≡ word.Log)

-- this is told of a part with this verdict: that all of its lines are legal, or the number of one that isn't. In its file
-- stands one line more, before all others: the limits. Nothing is claimed of what is undecided
abbrev pub IsBy : Told → Span → PartVerdict → Type 0
IsBy t s part.Legal = (t.word ≡ word.Legal) × (t.number ≡ s.before + s.count + 1)
IsBy t s (part.Illegal n) = IsAgainst t.word × (t.number ≡ n + 1)
IsBy t s part.Undecided = Unit {0}

-- the text tells this verdict on the kth part, from 1
abbrev pub IsTold : List ℕ → (k : ℕ) → Span → PartVerdict → Type 0
IsTold text k s part.Legal = (t : Told) × (t.part ≡ k) × IsBy t s part.Legal × Stands text (told_text t)
IsTold text k s (part.Illegal n) = (t : Told) × (t.part ≡ k) × IsBy t s (part.Illegal n) × Stands text (told_text t)
IsTold text k s part.Undecided = Unit {0}

-- it tells these verdicts on these parts, of which the first is the kth, from 0
abbrev pub AreTold : List ℕ → (k : ℕ) → List Span → List PartVerdict → Type 0
AreTold text k [] [] = Unit {0}
AreTold text k [] (v ∷ vs) = ⊥
AreTold text k (s ∷ ss) [] = ⊥
AreTold text k (s ∷ ss) (v ∷ vs) = IsTold text (k + 1) s v × AreTold text (k + 1) ss vs
