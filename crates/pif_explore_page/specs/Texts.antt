-- Texts as strings of JSON (RFC 8259, section 7) that may stand in a page.
use Rattle.std.specs.Prelude.{ℕ, Bool, ◌-◌, ◌==◌, ◌||◌, ◌&&◌, nat_le, List, [], ◌∷◌, codes, flat_map, length, take, if◌then◌else◌}

-- whether a byte is a printable one of ASCII: from a blank to `~`
abbrev pub is_plain : ℕ → Bool
is_plain b = nat_le 32 b && nat_le b 126

-- a byte of a string. Quotation marks, reverse solidi and control characters have to be escaped (RFC 8259, section 7).
-- Among control characters, ends of lines and tabs are. `<` is escaped, too, since it may end the script of a page
-- ('script data' of HTML). For any other byte that isn't printable stands `?`, which is a rule of our own
abbrev pub escaped_byte : ℕ → List ℕ
escaped_byte b =
    if b == 34 || b == 92 then 92 ∷ b ∷ []
    else (if b == 60 then codes "\\u003c"
    else (if b == 10 then codes "\\n"
    else (if b == 9 then codes "\\t"
    else (if is_plain b then b ∷ [] else codes "?"))))

-- a text
abbrev pub escaped : List ℕ → List ℕ
escaped text = flat_map escaped_byte text

-- A line of a schedule and that of an outcome are defined with the blanks before them and the end of line behind them
-- (pif_explore_told). A string has what stands between these.

-- a line without the end of line behind it
abbrev pub without_end : List ℕ → List ℕ
without_end line = take (length line - 1) line

-- a line behind its first two bytes
abbrev pub behind_two : List ℕ → List ℕ
behind_two [] = []
behind_two (a ∷ []) = []
behind_two (a ∷ b ∷ more) = more

-- a line of a schedule, without the two blanks before it and the end of line behind it
abbrev pub trimmed : List ℕ → List ℕ
trimmed line = behind_two (without_end line)
