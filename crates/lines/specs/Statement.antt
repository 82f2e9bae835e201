-- The statement of a report.
use Rattle.std.specs.Prelude.{ℕ, cond, List, [], ◌∷◌, ◌++◌, codes, decimal, slice_index}
use Rattle.stages.specs.declared.terms.Buyer.{Buyer}
use Rattle.book.specs.declared.offer.Offer.{Offer}
use Rattle.allotment.specs.declared.pay.BuyerRow.{BuyerRow}
use Rattle.replay.specs.declared.report.Report.{Report}
use Rattle.lines.specs.Parts.{member_text}
use Rattle.lines.specs.Log.{line_of}

-- offer NUMBER MEMBER account ACCOUNT price PRICE lots LOTS filled LOTS
abbrev pub offer_line : Offer → ℕ → List ℕ
offer_line o filled =
    codes "offer " ++ (decimal o.number ++ (codes " " ++ (member_text o.member ++ (codes " account " ++ (decimal o.account
    ++ (codes " price " ++ (decimal o.price ++ (codes " lots " ++ (decimal o.lots ++ (codes " filled " ++ (decimal filled ++ codes "\n")))))))))))

-- a line for each offer, with the fill that stands at its number
abbrev pub offer_lines : List ℕ → List Offer → List ℕ
offer_lines fills [] = []
offer_lines fills (o ∷ offers) = offer_line o (slice_index fills o.number) ++ offer_lines fills offers

-- buyer ACCOUNT lots LOTS gets LOTS pays CENTS, and whether it is billed
abbrev pub buyer_line : Buyer → BuyerRow → List ℕ
buyer_line b row =
    codes "buyer " ++ (decimal b.account ++ (codes " lots " ++ (decimal b.lots ++ (codes " gets " ++ (decimal row.lots
    ++ (codes " pays " ++ (decimal row.payment ++ (cond row.billed (codes " billed") [] ++ codes "\n"))))))))

-- a line for each buyer, with its row
abbrev pub buyer_lines : List Buyer → List BuyerRow → List ℕ
buyer_lines [] rows = []
buyer_lines (b ∷ buyers) [] = []
buyer_lines (b ∷ buyers) (row ∷ rows) = buyer_line b row ++ buyer_lines buyers rows

-- The log line, a line for each standing offer in order, and one for each buyer as filed.
abbrev pub statement_of : Report → List ℕ
statement_of r =
    line_of r ++ (offer_lines r.fills r.offers.items ++ buyer_lines r.buyers.items r.rows)
