-- Texts that are written part by part.
use Rattle.std.specs.Prelude.{ℕ, List, [], ◌∷◌, ◌++◌, map, replicate, decimal}
use Rattle.pif_script_model.specs.Verdicts.{printable, shown, shown_quoted}
use Rattle.pif_story.specs.declared.parts.Part.{Part}
use Rattle.pif_story.specs.declared.parts.Part.TheVariants.{Bytes, Number, Spaces, Printable, Shown, Quoted}

-- the text of a part
abbrev pub part_text : Part → List ℕ
part_text (Bytes bytes) = bytes.now
part_text (Number number) = decimal number
part_text (Spaces count) = replicate count 32
part_text (Printable bytes) = map printable bytes.now
part_text (Shown bytes) = shown bytes.now
part_text (Quoted quoted bytes) = shown_quoted quoted bytes.now

-- a text, and behind it those of parts
abbrev pub text_and_parts : List ℕ → List Part → List ℕ
text_and_parts text [] = text
text_and_parts text (part ∷ more) = text_and_parts (text ++ part_text part) more

-- the texts of parts, one behind the other
abbrev pub parts_text : List Part → List ℕ
parts_text parts = text_and_parts [] parts
