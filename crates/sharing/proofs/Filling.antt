-- One turn of the loop that fills shares in listed order, and its end.
use Rattle.std.proofs.Common.{◌≡◌, ℕ, ◌+◌, ◌-◌, ◌<◌, ◌≤◌, min, List, [], ◌∷◌, ◌++◌, length, get_or, take, drop, set, ap, arith}
use Rattle.std.proofs.lemmas.List.{take_more_set, drop_more, append_assoc, append-nil, take_all, drop_all}
use Rattle.sharing.specs.declared.claim.Claim.{Claim}
use Rattle.sharing.specs.Claims.{nobody}
use Rattle.sharing.specs.TimeOrder.{in_turn}

pub step :
    (cs : List Claim) (shares : List ℕ) (i left part : ℕ) →
    i < length shares →
    i < length cs →
    part ≡ min (get_or cs i nobody).lots left →
    take (i + 1) (set shares i part) ++ in_turn (drop (i + 1) cs) (left - part) ≡ take i shares ++ in_turn (drop i cs) left
step cs shares i left part hs hc is =
    let c = get_or cs i nobody in
    let front : take (i + 1) (set shares i part) ≡ take i shares ++ part ∷ [] = take_more_set shares i part hs in
    let rest : left - part ≡ left - c.lots = omega arith in
    let back : in_turn (drop i cs) left ≡ min c.lots left ∷ in_turn (drop (i + 1) cs) (left - c.lots) = ap (λ (l : List Claim). in_turn l left) (drop_more cs i nobody hc) in
    let joined = append_assoc (take i shares) (part ∷ []) (in_turn (drop (i + 1) cs) (left - part)) in
    cc

pub done :
    (cs : List Claim) (shares : List ℕ) (i left : ℕ) →
    length shares ≤ i →
    length cs ≤ i →
    take i shares ++ in_turn (drop i cs) left ≡ shares
done cs shares i left hs hc =
    let front = take_all i shares hs in
    let back : in_turn (drop i cs) left ≡ [] = ap (λ (l : List Claim). in_turn l left) (drop_all i cs hc) in
    let joined = append-nil shares in
    cc
