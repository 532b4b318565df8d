-- A chain with one link more.
use Rattle.std.proofs.Common.{◌≡◌, ◌∙◌, ℕ, ◌+◌, ◌<◌, List, [], ◌∷◌, ◌++◌, length, take, set, refl, sym, subst, ap, inl, inr, arith}
use Rattle.std.proofs.lemmas.List.{take_more_set, length_push, length-take-le}
use Rattle.pif_choose.specs.declared.standing.Standing.{Standing}
use Rattle.pif_choose.specs.declared.standing.Link.{Link}
use Rattle.pif_choose.specs.Standstills.{IsLink, IsChain, IsWholeChain, WaitsForNobody, end_of}

chain-push : (standings : List Standing) (first : ℕ) (links : List Link) (link : Link) → IsChain standings first links
    → link.thread ≡ end_of first links → IsLink standings link → IsChain standings first (links ++ link ∷ [])
chain-push standings first [] link c e l = (e, l, tt)
chain-push standings first (x ∷ links) link c e l = (c.0, c.1, chain-push standings x.owner links link c.2 e l)

end-push : (first : ℕ) (links : List Link) (link : Link) → end_of first (links ++ link ∷ []) ≡ link.owner
end-push first [] link = refl
end-push first (x ∷ links) link = end-push x.owner links link

-- a link put into a room behind the links of a chain
pub chain-put : (standings : List Standing) (first at : ℕ) (room : List Link) (place : ℕ) (link : Link) → place < length room
    → IsChain standings first (take place room) → end_of first (take place room) ≡ at → link.thread ≡ at → IsLink standings link
    → IsChain standings first (take (place + 1) (set room place link))
chain-put standings first at room place link lt c e t l =
    subst (λ (links : List Link). IsChain standings first links) (sym (take_more_set room place link lt))
    (chain-push standings first (take place room) link c (t ∙ sym e) l)

pub end-put : (first : ℕ) (room : List Link) (place : ℕ) (link : Link) → place < length room
    → end_of first (take (place + 1) (set room place link)) ≡ link.owner
end-put first room place link lt =
    ap (end_of first) (take_more_set room place link lt) ∙ end-push first (take place room) link

-- WHOLE CHAINS

-- up to a thread that waits for nobody
pub whole-nobody : (standings : List Standing) (first at : ℕ) (room : List Link) (place size : ℕ) → place < length room → length room ≡ size
    → IsChain standings first (take place room) → end_of first (take place room) ≡ at → WaitsForNobody standings at
    → IsWholeChain standings first (take place room) size
whole-nobody standings first at room place size lt e c t nobody =
    let l : length (take place room) ≡ place = length-take-le place room (omega arith) in
    record {
      chain = c;
      within = omega arith;
      ends = λ less. inl (subst (λ (thread : ℕ). WaitsForNobody standings thread) (sym t) nobody);
    }

-- back to where it began
pub whole-back : (standings : List Standing) (first at : ℕ) (room : List Link) (place size : ℕ) (link : Link) → place < length room
    → length room ≡ size → IsChain standings first (take place room) → end_of first (take place room) ≡ at → link.thread ≡ at
    → IsLink standings link → link.owner ≡ first → IsWholeChain standings first (take (place + 1) (set room place link)) size
whole-back standings first at room place size link lt e c t f l back =
    let n : length (take (place + 1) (set room place link)) ≡ place + 1 = ap length (take_more_set room place link lt) ∙ length_push (take place room) link
    ∙ ap (λ (k : ℕ). k + 1) (length-take-le place room (omega arith)) in
    record {
      chain = chain-put standings first at room place link lt c t f l;
      within = omega arith;
      ends = λ less. inr (end-put first room place link lt ∙ back);
    }

-- until the room is full
pub whole-full : (standings : List Standing) (first : ℕ) (room : List Link) (place size : ℕ) → length room ≡ size → place ≡ size
    → IsChain standings first (take place room) → IsWholeChain standings first (take size room) size
whole-full standings first room place size e f c =
    let l : length (take size room) ≡ size = length-take-le size room (omega arith) in
    record {
      chain = subst (λ (n : ℕ). IsChain standings first (take n room)) f c;
      within = omega arith;
      ends = λ less. absurd (omega arith);
    }
