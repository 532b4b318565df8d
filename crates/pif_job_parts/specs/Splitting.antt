-- A history in parts, as texts: each is a history of its own.
use Rattle.std.specs.Prelude.{ℕ, ◌≡◌, false, List, ◌++◌, codes, flat_map, map, Option, Result, Ok, Err}
use Rattle.pif_types.specs.Bounds.{Bounds}
use Rattle.pif_text_model.specs.CommandTexts.{command_text}
use Rattle.pif_text_model.specs.declared.commands.Command.TheVariants as command
use Rattle.pif_rules.specs.Sets.{is_any}
use Rattle.pif_rules_model.specs.declared.rules.Rules.{Rules}
use Rattle.pif_script_model.specs.declared.faults.CliFault.{CliFault}
use Rattle.pif_history_model.specs.declared.lines.Line.{Line}
use Rattle.pif_history_text.specs.Histories.{Heard, limits_of}
use Rattle.pif_history_text.specs.Reading.{ReadsHistory}
use Rattle.pif_history_text.specs.Texts.{line_text}
use Rattle.pif_parts.specs.declared.parts.Part.{Part}
use Rattle.pif_parts.specs.Parts.{ArePartsOf, alone, span_of}
use Rattle.pif_job_parts.specs.declared.faults.PartsFault.{PartsFault}
use Rattle.pif_job_parts.specs.declared.indexes.Index.{Index}
use Rattle.pif_job_parts.specs.declared.splitting.Parts.{Parts}
use Rattle.pif_job_parts.specs.Indexes.{index_text, numbers_of}

-- the lines of a history as a text
abbrev pub lines_text : List Line → List ℕ
lines_text lines = flat_map (λ x. line_text x ++ codes "\n") lines

-- the text of a part as it stands alone: the limits of the whole, and its lines
abbrev pub part_text : Bounds → List Line → Part → List ℕ
part_text l lines p =
    command_text (command.Limits l.threads l.mutexes l.conds l.signals) ++ codes "\n" ++ lines_text (alone lines p)

-- no rule is allowed, there is no mutex of PTHREAD_PRIO_NONE, and no line is `process`, `halted` or `resumed`
pub record HasNoRules (r : Rules) : Type 0 where
  pub none : is_any r ≡ false
  pub inherits : r.prio_none ≡ false
  pub plain : r.extra_lines ≡ false

-- this is the text of the index of these parts of a history
pub record IsIndexOf (h : Heard) (cuts : List Part) (text : List ℕ) : Type 0 where
  pub index : Index
  pub written : text ≡ index_text index
  pub lines : index.lines ≡ h.count
  pub spans : index.spans.items ≡ map span_of cuts
  pub numbers : numbers_of index.runs.items ≡ h.numbers

-- a history was written in parts: they are its parts, each as a text, and they have their index
pub record IsSplit (h : Heard) (parts : Parts) : Type 0 where
  pub rules : HasNoRules h.allowed
  pub cuts : List Part
  pub of_history : ArePartsOf (limits_of h) h.shown cuts
  pub texts : map (λ text. text.items) parts.texts.items ≡ map (part_text (limits_of h) h.shown) cuts
  pub index : IsIndexOf h cuts parts.index.items

-- splitting the history that a reader gives came to this: its parts; or the fault of its bytes or of a read; or it can't
-- be split. Of out of memory nothing is claimed
abbrev pub SplitsTo : (before after : Option (List ℕ)) → Result Parts PartsFault → Type 0
SplitsTo before after (Ok parts) = (h : Heard) × ReadsHistory before after (Ok h) × IsSplit h parts
SplitsTo before after (Err e) = (read : Result Heard CliFault) × ReadsHistory before after read
