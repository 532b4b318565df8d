-- Sets of rules, one by one, and lines that name one.
use Rattle.std.proofs.Common.{◌≡◌, ◌∙◌, ℕ, zero, suc, ◌+◌, ◌-◌, ◌<◌, ◌≤◌, List, [], ◌∷◌, ◌++◌, take, drop, length, get_or, Result, Ok, Err, OnOk, refl, sym, ap, arith, append_assoc}
use Rattle.std.proofs.lemmas.List.{drop_more, take_rest, append-nil}
use Rattle.pif_rules_model.specs.declared.rules.Rules.{Rules}
use Rattle.pif_rules_model.specs.declared.rules.Rule.{Rule}
use Rattle.pif_rules_model.specs.Sets.{no_rules}
use Rattle.pif_rules.specs.Sets.{both, only}
use Rattle.pif_history_told.specs.Sets.{sets_below, sets_but_all, sets_in_order, sets_of_size}
use Rattle.pif_history_told.specs.Texts.{with_names}

-- the sets of one size more
pub below_more : (a : Rules) (k : ℕ) (held : Rules) (rules : List Rule) (old new : List Rules) → old ≡ sets_below a k held rules
    → new ≡ old ++ sets_of_size a k held rules → new ≡ sets_below a (k + 1) held rules
unfolding sets_below
below_more a k held rules old new e f =
    let next : suc k ≡ k + 1 = omega arith in
    f ∙ (ap (λ (ys : List Rules). ys ++ sets_of_size a k held rules) e ∙ ap (λ (n : ℕ). sets_below a n held rules) next)

pub below_none : (a held : Rules) (rules : List Rule) → sets_below a 0 held rules ≡ []
unfolding sets_below
below_none a held rules = refl

-- all sets, if no rule holds in any case
pub all_in_order : (base other a last : Rules) (sets new : List Rules) → sets ≡ sets_but_all base a → base ≡ no_rules → other ≡ no_rules
    → last ≡ both a other → new ≡ sets ++ last ∷ [] → new ≡ sets_in_order no_rules a
all_in_order base other a last sets new are none others is grown =
    grown
    ∙ (ap (λ (ys : List Rules). ys ++ last ∷ []) (are ∙ ap (λ (q : Rules). sets_but_all q a) none)
    ∙ ap (λ (q : Rules). sets_but_all no_rules a ++ q ∷ []) (is ∙ ap (λ (q : Rules). both a q) others))

-- the sets of no rule
of_none : (a : Rules) (size : ℕ) (held : Rules) (rules : List Rule) → size ≡ 0 → sets_of_size a size held rules ≡ held ∷ []
unfolding sets_of_size
of_none a zero held rules e = refl
of_none a (suc k) held rules e = absurd (cc)

-- the sets of some rules if there is none
of_some : (a : Rules) (size : ℕ) (held : Rules) → 0 < size → sets_of_size a size held [] ≡ []
unfolding sets_of_size
of_some a zero held some = absurd (omega (arith, some))
of_some a (suc k) held some = refl

-- the sets of some rules, with the first one and without it
of_more : (a : Rules) (size : ℕ) (held : Rules) (x : Rule) (rules : List Rule) → 0 < size
    → sets_of_size a size held (x ∷ rules) ≡ sets_of_size a (size - 1) (both (only a x) held) rules ++ sets_of_size a size held rules
unfolding sets_of_size
of_more a zero held x rules some = absurd (omega (arith, some))
of_more a (suc k) held x rules some =
    let one_less : k ≡ suc k - 1 = omega arith in
    ap (λ (n : ℕ). sets_of_size a n (both (only a x) held) rules ++ sets_of_size a (suc k) held rules) one_less

-- the set of no rule was added
pub none_pushed : {T E : Type 0} (r : Result T E) (a : Rules) (size : ℕ) (held : Rules) (rules : List Rule) (old new : List Rules)
    → size ≡ 0 → OnOk r (new ≡ old ++ held ∷ []) → OnOk r (new ≡ old ++ sets_of_size a size held rules)
none_pushed (Ok x) a size held rules old new e f =
    f ∙ ap (λ (ys : List Rules). old ++ ys) (sym (of_none a size held rules e))
none_pushed (Err x) a size held rules old new e f = tt

-- of no rules there is no set of some
pub some_pushed : (a : Rules) (size : ℕ) (held : Rules) (rules : List Rule) (old : List Rules) → 0 < size → length rules ≡ 0
    → old ≡ old ++ sets_of_size a size held rules
some_pushed a size held [] old some none =
    sym (append-nil old) ∙ ap (λ (ys : List Rules). old ++ ys) (sym (of_some a size held some))
some_pushed a size held (x ∷ rules) old some none = absurd (omega (arith, none))

-- those with the first rule were added, and then those without it
pub more_pushed : {T E : Type 0} (r : Result T E) (a : Rules) (size : ℕ) (held : Rules) (rules rest : List Rule) (x : Rule)
    (one more : Rules) (old mid new : List Rules) → 0 < size → rules ≡ x ∷ rest → one ≡ only a x → more ≡ both one held
    → mid ≡ old ++ sets_of_size a (size - 1) more rest → OnOk r (new ≡ mid ++ sets_of_size a size held rest)
    → OnOk r (new ≡ old ++ sets_of_size a size held rules)
more_pushed (Ok t) a size held rules rest x one more old mid new some are is is_more first second =
    let with_it : List Rules = sets_of_size a (size - 1) (both (only a x) held) rest in
    let without : List Rules = sets_of_size a size held rest in
    let added = first
    ∙ (ap (λ (r : Rules). old ++ sets_of_size a (size - 1) r rest) is_more
    ∙ ap (λ (r : Rules). old ++ sets_of_size a (size - 1) (both r held) rest) is) in
    second
    ∙ (ap (λ (ys : List Rules). ys ++ without) added
    ∙ (append_assoc old with_it without
    ∙ (ap (λ (ys : List Rules). old ++ ys) (sym (of_more a size held x rest some))
    ∙ ap (λ (rs : List Rule). old ++ sets_of_size a size held rs) (sym are))))
more_pushed (Err t) a size held rules rest x one more old mid new some are is is_more first second = tt

-- the first of some rules, and the rest
pub first_of : (rules : List Rule) (d : Rule) → 1 ≤ length rules
    → rules ≡ get_or rules 0 d ∷ take (length rules - 1) (drop 1 rules)
first_of rules d some =
    drop_more rules 0 d (omega (arith, some)) ∙ ap (λ (rs : List Rule). get_or rules 0 d ∷ rs) (sym (take_rest rules 1))

-- the line of a verdict, put together
pub line_told : {T E : Type 0} (r : Result T E) (old one two new head number word given names : List ℕ) → one ≡ old ++ head
    → two ≡ one ++ number → given ≡ names → OnOk r (new ≡ two ++ with_names word given)
    → OnOk r (new ≡ old ++ (head ++ (number ++ with_names word names)))
line_told (Ok x) old one two new head number word given names first second same e =
    e ∙ (ap (λ (ys : List ℕ). two ++ with_names word ys) same
    ∙ (ap (λ (ys : List ℕ). ys ++ with_names word names) (second ∙ ap (λ (ys : List ℕ). ys ++ number) first)
    ∙ (append_assoc (old ++ head) number (with_names word names) ∙ append_assoc old head (number ++ with_names word names))))
line_told (Err f) old one two new head number word given names first second same e = tt
