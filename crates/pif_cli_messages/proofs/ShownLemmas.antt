-- Printable texts, one character at a time.
use Rattle.std.proofs.Common.{◌≡◌, ℕ, ◌&&◌, Bool, true, false, List, [], ◌∷◌, ◌++◌, append-nil, length, refl, sym, ap, ◌∙◌}
use Rattle.std.specs.Char.{IsScalar, encode_utf8}
use Rattle.std.specs.List.{list_all}
use Rattle.std.specs.Str.{IsUtf8, chars, is_utf8}
use Rattle.std.proofs.lemmas.List.Folds.{list_all-append}
use Rattle.std.proofs.lemmas.Str.{IsUtf8-append, IsUtf8-encode, IsUtf8-from_is_utf8, IsUtf8-nil, chars-append, chars-encodes, chars-nil, is_utf8-from_IsUtf8}
use Rattle.pif_cli_messages.specs.Messages.{are_printable, is_printable, is_shown}

-- the characters of the bytes of one
of_one : (c : ℕ) → IsScalar c → chars (encode_utf8 c) ≡ c ∷ []
of_one c s = ap chars (sym (append-nil (encode_utf8 c))) ∙ chars-encodes (c ∷ []) (rw s refl)

both : (a b : Bool) → (a && b) ≡ true → (a ≡ true) × (b ≡ true)
both true b e = (refl, e)
both false b e = absurd (cc)

-- an empty text
pub nothing_shown : (text : List ℕ) → text ≡ [] → is_shown text ≡ true
nothing_shown text e = rw (e, is_utf8-from_IsUtf8 [] IsUtf8-nil, chars-nil) refl

-- a printable character after a printable text
pub shown_behind : (before text : List ℕ) (c : ℕ) → IsScalar c → is_printable c ≡ true → is_shown before ≡ true
    → text ≡ before ++ encode_utf8 c → is_shown text ≡ true
shown_behind before text c s p shown e =
    let parts = both (is_utf8 before) (are_printable before) shown in
    let utf8 : IsUtf8 before = IsUtf8-from_is_utf8 before parts.0 in
    let whole : is_utf8 (before ++ encode_utf8 c) ≡ true =
    is_utf8-from_IsUtf8 (before ++ encode_utf8 c) (IsUtf8-append before (encode_utf8 c) utf8 (IsUtf8-encode c s)) in
    let each : are_printable (before ++ encode_utf8 c) ≡ true =
    ap (list_all is_printable) (chars-append before (encode_utf8 c) utf8)
    ∙ list_all-append is_printable (chars before) (chars (encode_utf8 c))
    ∙ rw (parts.1, ap (list_all is_printable) (of_one c s), p) refl in
    rw (e, whole, each) refl

-- the characters of no byte
pub none_in : (text : List ℕ) → length text ≡ 0 → chars text ≡ []
none_in [] e = chars-nil
none_in (b ∷ more) e = absurd (cc)
