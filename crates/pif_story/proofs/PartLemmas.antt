-- Texts that are written part by part.
use Rattle.std.proofs.Common.{◌≡◌, ℕ, List, [], ◌∷◌, ◌++◌, append_assoc, sym, ◌∙◌}
use Rattle.std.specs.Prelude.{flat_map}
use Rattle.std.proofs.lemmas.List.{append-nil}
use Rattle.pif_story.specs.declared.parts.Part.{Part}
use Rattle.pif_story.specs.Parts.{part_text, text_and_parts}

pub parts_joined : (text : List ℕ) (parts : List Part) → text_and_parts text parts ≡ text ++ flat_map part_text parts
parts_joined text [] = sym (append-nil text)
parts_joined text (part ∷ more) =
    parts_joined (text ++ part_text part) more ∙ append_assoc text (part_text part) (flat_map part_text more)
