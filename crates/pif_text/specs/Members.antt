-- Members of objects, by RFC 8259: each is a name and a value.
use Rattle.std.specs.Prelude.{ℕ, List, [], ◌∷◌, ◌++◌, codes, decimal, option_copied}
use Rattle.pif_text.specs.Json.{bool_text, name_or_null, name_text, number_or_null, or_null, quoted, separated}
use Rattle.pif_text.specs.declared.members.Member.{Member}
use Rattle.pif_text.specs.declared.members.Member.TheVariants as member

-- the name of a member
abbrev pub member_name : Member → List ℕ
member_name (member.Null name) = name.now
member_name (member.Bool name b) = name.now
member_name (member.BoolOrNull name b) = name.now
member_name (member.Number name n) = name.now
member_name (member.NumberOrNull name n) = name.now
member_name (member.Name name letter n) = name.now
member_name (member.NameOrNull name letter n) = name.now
member_name (member.Quoted name text) = name.now
member_name (member.QuotedOrNull name text) = name.now
member_name (member.Array name elements) = name.now

-- its value
abbrev pub value_text : Member → List ℕ
value_text (member.Null name) = codes "null"
value_text (member.Bool name b) = bool_text b
value_text (member.BoolOrNull name b) = or_null bool_text b
value_text (member.Number name n) = decimal n
value_text (member.NumberOrNull name n) = number_or_null n
value_text (member.Name name letter n) = name_text letter n
value_text (member.NameOrNull name letter n) = name_or_null letter n
value_text (member.Quoted name text) = quoted text.now
value_text (member.QuotedOrNull name text) = or_null quoted (option_copied text)
value_text (member.Array name elements) = codes "[" ++ elements.now ++ codes "]"

-- a member
abbrev pub member_text : Member → List ℕ
member_text m = quoted (member_name m) ++ codes ":" ++ value_text m

-- members with a comma, the byte 44, between them
abbrev pub members_text : List Member → List ℕ
members_text [] = []
members_text (m ∷ []) = member_text m
members_text (m ∷ n ∷ more) = member_text m ++ 44 ∷ members_text (n ∷ more)

-- an object
abbrev pub object_text : List Member → List ℕ
object_text members = codes "{" ++ members_text members ++ codes "}"

-- the begin of a member that stands behind others and is an array
abbrev pub array_begin : (name : List ℕ) → List ℕ
array_begin name = codes "," ++ quoted name ++ codes ":["

-- such a member, with these elements
abbrev pub array_member : (name : List ℕ) → (texts : List (List ℕ)) → List ℕ
array_member name texts = array_begin name ++ separated texts ++ codes "]"
