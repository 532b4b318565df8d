-- The answers that are written in a story. That of a call that is the number of an error has three forms.
use Rattle.std.specs.Prelude.{ℕ, ◌≡◌, ◌⊎◌, Bool, false, ◌||◌, List, ◌++◌, Option, Some, None, is_some, if◌then◌else◌, bytes_eq, codes, decimal, find}
use Rattle.pif_types.specs.Numbers.{number_of}
use Rattle.pif_types.specs.declared.errors.Errno.{Errno}
use Rattle.pif_text_model.specs.Errors.{errno_name, errors}
use Rattle.pif_script_model.specs.declared.forms.Form.{Form}
use Rattle.pif_script_model.specs.declared.forms.Form.TheVariants.{Number, Name, Both}

-- the answer of a call that is this error, in this form; that by its number is what `run` prints
abbrev pub error_answer : Form → Errno → List ℕ
error_answer Number errno = codes "answer " ++ decimal (number_of errno)
error_answer Name errno = codes "answer " ++ errno_name errno
error_answer Both errno = codes "answer " ++ decimal (number_of errno) ++ codes " " ++ errno_name errno

-- an answer that is written says what `run` prints: it is the same text, or it is the answer of an error in some form,
-- and `run` prints that of the same error
abbrev pub Says : (written given : List ℕ) → Type 0
Says written given =
    (written ≡ given)
    ⊎ ((form : Form) × (errno : Errno) × (written ≡ error_answer form errno) × (given ≡ error_answer Number errno))

-- ---- the same as tests

-- the error whose answer in this form a text is
unfoldable pub error_in : Form → List ℕ → Option Errno
error_in form text = find (λ errno. bytes_eq text (error_answer form errno)) errors

-- whether a text is the answer of this error with its name, if there is an error
abbrev pub is_named : List ℕ → Option Errno → Bool
is_named text None = false
is_named text (Some errno) = bytes_eq text (error_answer Name errno) || bytes_eq text (error_answer Both errno)

-- whether an answer that is written says what `run` prints
unfoldable pub says : (written given : List ℕ) → Bool
says written given = bytes_eq written given || is_named written (error_in Number given)

-- ---- forms

-- the form of an answer that is that of an error
unfoldable pub form_in : List ℕ → Option Form
form_in text =
    if is_some (error_in Number text) then Some Number
    else if is_some (error_in Name text) then Some Name
    else if is_some (error_in Both text) then Some Both
    else None

-- an answer, which is another one than that of an error, or that of this error in a form
abbrev pub answer_by : Form → List ℕ → Option Errno → List ℕ
answer_by form given None = given
answer_by form given (Some errno) = error_answer form errno

-- what `run` prints, in a form
unfoldable pub in_form : Form → (given : List ℕ) → List ℕ
in_form form given = answer_by form given (error_in Number given)
