-- The lines of the offers and of the buyers, one more at a time.
use Rattle.std.proofs.Common.{◌≡◌, ℕ, ◌+◌, ◌<◌, zero, suc, min, List, [], ◌∷◌, ◌++◌, length, get_or, take, sym, refl, ap, ◌∙◌, arith}
use Rattle.std.proofs.lemmas.List.{append_assoc, append-nil, take_more}
use Rattle.stages.specs.declared.terms.Buyer.{Buyer}
use Rattle.book.specs.declared.offer.Offer.{Offer}
use Rattle.allotment.specs.declared.pay.BuyerRow.{BuyerRow}
use Rattle.lines.specs.Statement.{buyer_line, buyer_lines, offer_line, offer_lines}

offers_push : (fills : List ℕ) (offers : List Offer) (o : Offer) → offer_lines fills (offers ++ o ∷ []) ≡ offer_lines fills offers ++ offer_line o (get_or fills o.number 0)
offers_push fills [] o = append-nil (offer_line o (get_or fills o.number 0))
offers_push fills (x ∷ offers) o =
    ap (λ (l : List ℕ). offer_line x (get_or fills x.number 0) ++ l) (offers_push fills offers o)
    ∙ sym (append_assoc (offer_line x (get_or fills x.number 0)) (offer_lines fills offers) (offer_line o (get_or fills o.number 0)))

-- the text with one more offer's line
pub offers_more :
    (text fills : List ℕ) (offers : List Offer) (i : ℕ) (d : Offer) →
    i < length offers →
    (text ++ offer_lines fills (take i offers)) ++ offer_line (get_or offers i d) (get_or fills (get_or offers i d).number 0) ≡ text ++ offer_lines fills (take (i + 1) offers)
offers_more text fills offers i d lt =
    let o = get_or offers i d in
    append_assoc text (offer_lines fills (take i offers)) (offer_line o (get_or fills o.number 0))
    ∙ ap (λ (l : List ℕ). text ++ l) (sym (offers_push fills (take i offers) o) ∙ ap (offer_lines fills) (sym (take_more offers i d lt)))

-- one more buyer's line, where there is a row for it
buyers_next :
    (buyers : List Buyer) (rows : List BuyerRow) (i : ℕ) (d : Buyer) (e : BuyerRow) →
    i < length buyers → i < length rows →
    buyer_lines (take i buyers) (take i rows) ++ buyer_line (get_or buyers i d) (get_or rows i e) ≡ buyer_lines (take (suc i) buyers) (take (suc i) rows)
buyers_next [] rows i d e lt lt' = absurd (omega (arith, lt))
buyers_next (b ∷ buyers) [] i d e lt lt' = absurd (omega (arith, lt'))
buyers_next (b ∷ buyers) (row ∷ rows) zero d e lt lt' = sym (append-nil (buyer_line b row))
buyers_next (b ∷ buyers) (row ∷ rows) (suc i) d e lt lt' =
    append_assoc (buyer_line b row) (buyer_lines (take i buyers) (take i rows)) (buyer_line (get_or buyers i d) (get_or rows i e))
    ∙ ap (λ (l : List ℕ). buyer_line b row ++ l) (buyers_next buyers rows i d e (omega (arith, lt)) (omega (arith, lt')))

-- the text with it
pub buyers_more :
    (text : List ℕ) (buyers : List Buyer) (rows : List BuyerRow) (i j : ℕ) (d : Buyer) (e : BuyerRow) →
    i < length buyers → i < length rows → j ≡ suc i →
    (text ++ buyer_lines (take i buyers) (take i rows)) ++ buyer_line (get_or buyers i d) (get_or rows i e) ≡ text ++ buyer_lines (take j buyers) (take j rows)
buyers_more text buyers rows i j d e lt lt' is =
    append_assoc text (buyer_lines (take i buyers) (take i rows)) (buyer_line (get_or buyers i d) (get_or rows i e))
    ∙ ap (λ (l : List ℕ). text ++ l) (buyers_next buyers rows i d e lt lt' ∙ ap (λ n. buyer_lines (take n buyers) (take n rows)) (sym is))

-- the lines end where the buyers or the rows do
pub buyers_end :
    (buyers : List Buyer) (rows : List BuyerRow) (i : ℕ) → i ≡ min (length buyers) (length rows) → buyer_lines (take i buyers) (take i rows) ≡ buyer_lines buyers rows
buyers_end [] rows zero is = refl
buyers_end [] rows (suc i) is = absurd (omega (arith, is))
buyers_end (b ∷ buyers) [] zero is = refl
buyers_end (b ∷ buyers) [] (suc i) is = absurd (omega (arith, is))
buyers_end (b ∷ buyers) (row ∷ rows) zero is = absurd (omega (arith, is))
buyers_end (b ∷ buyers) (row ∷ rows) (suc i) is = ap (λ (l : List ℕ). buyer_line b row ++ l) (buyers_end buyers rows i (omega (arith, is)))
