-- Numbers and codes in bytes, there and back.
use Rattle.std.proofs.Common.{◌≡◌, ℕ, zero, suc, ◌+◌, ◌*◌, ◌/◌, ◌%◌, ◌<◌, ◌≤◌, List, [], ◌∷◌, ◌++◌, length, get_or, drop, sym, refl, ap, ◌∙◌, arith}
use Rattle.std.proofs.lemmas.List.{drop_more, drop_all}
use Rattle.values.specs.Fields.{two_bytes, four_bytes, two_at, four_at, code_at, Narrow, Half, Word, Bytes, Code}

-- a number that its width can say is read back from its bytes
pub two_there : (n : ℕ) → Half n → n / 256 % 256 * 256 + n % 256 ≡ n
two_there n small = omega arith

pub four_there : (n : ℕ) → Word n → n / 16777216 % 256 * 16777216 + n / 65536 % 256 * 65536 + n / 256 % 256 * 256 + n % 256 ≡ n
four_there n small =
    let fourth : n ≡ n / 256 * 256 + n % 256 = omega arith in
    let third : n / 256 ≡ n / 65536 * 256 + n / 256 % 256 = omega arith in
    let second : n / 65536 ≡ n / 16777216 * 256 + n / 65536 % 256 = omega arith in
    let first : n / 16777216 % 256 ≡ n / 16777216 = omega arith in
    omega arith

-- the bytes of the number that bytes say are those bytes
two_back : (a b : ℕ) → Narrow a → Narrow b → two_bytes (a * 256 + b) ≡ a ∷ b ∷ []
two_back a b fa fb =
    let high : (a * 256 + b) / 256 % 256 ≡ a = omega arith in
    let low : (a * 256 + b) % 256 ≡ b = omega arith in
    cc

four_back : (a b c d : ℕ) → Narrow a → Narrow b → Narrow c → Narrow d → four_bytes (a * 16777216 + b * 65536 + c * 256 + d) ≡ a ∷ b ∷ c ∷ d ∷ []
four_back a b c d fa fb fc fd =
    let first : (a * 16777216 + b * 65536 + c * 256 + d) / 16777216 % 256 ≡ a = omega arith in
    let second : (a * 16777216 + b * 65536 + c * 256 + d) / 65536 % 256 ≡ b = omega arith in
    let third : (a * 16777216 + b * 65536 + c * 256 + d) / 256 % 256 ≡ c = omega arith in
    let fourth : (a * 16777216 + b * 65536 + c * 256 + d) % 256 ≡ d = omega arith in
    cc

-- what stands at a place, and behind it
pub one_step : (bs : List ℕ) (at : ℕ) (rest : List ℕ) → at < length bs → rest ≡ drop (at + 1) bs → get_or bs at 0 ∷ rest ≡ drop at bs
one_step bs at rest lt e = ap (λ (l : List ℕ). get_or bs at 0 ∷ l) e ∙ sym (drop_more bs at 0 lt)

-- two bytes at a place, and what is behind them
pub pair_step :
    (bs : List ℕ) (at : ℕ) (rest : List ℕ) →
    at + 2 ≤ length bs →
    rest ≡ drop (at + 2) bs →
    get_or bs at 0 ∷ get_or bs (at + 1) 0 ∷ rest ≡ drop at bs
pair_step bs at rest le e =
    one_step bs at (get_or bs (at + 1) 0 ∷ rest) (omega arith)
    (one_step bs (at + 1) rest (omega arith) (e ∙ ap (λ (k : ℕ). drop k bs) (omega arith)))

pub code_step :
    (bs : List ℕ) (at : ℕ) (rest : List ℕ) →
    at + 4 ≤ length bs →
    rest ≡ drop (at + 4) bs →
    code_at bs at ++ rest ≡ drop at bs
code_step bs at rest le e =
    let second : get_or bs (at + 2) 0 ∷ get_or bs (at + 3) 0 ∷ rest ≡ drop (at + 2) bs =
    one_step bs (at + 2) (get_or bs (at + 3) 0 ∷ rest) (omega arith)
    (one_step bs (at + 3) rest (omega arith) (e ∙ ap (λ (k : ℕ). drop k bs) (omega arith)) ∙ ap (λ (k : ℕ). drop k bs) (omega arith)) in
    pair_step bs at (get_or bs (at + 2) 0 ∷ get_or bs (at + 3) 0 ∷ rest) (omega arith) second

-- a number at a place, and what is behind it
pub half_step :
    (bs : List ℕ) (at : ℕ) (rest : List ℕ) →
    Bytes bs →
    at + 2 ≤ length bs →
    rest ≡ drop (at + 2) bs →
    two_bytes (two_at bs at) ++ rest ≡ drop at bs
half_step bs at rest bytes le e =
    ap (λ (l : List ℕ). l ++ rest) (two_back (get_or bs at 0) (get_or bs (at + 1) 0) (bytes at) (bytes (at + 1))) ∙ pair_step bs at rest le e

pub word_step :
    (bs : List ℕ) (at : ℕ) (rest : List ℕ) →
    Bytes bs →
    at + 4 ≤ length bs →
    rest ≡ drop (at + 4) bs →
    four_bytes (four_at bs at) ++ rest ≡ drop at bs
word_step bs at rest bytes le e =
    ap (λ (l : List ℕ). l ++ rest)
    (four_back (get_or bs at 0) (get_or bs (at + 1) 0) (get_or bs (at + 2) 0) (get_or bs (at + 3) 0) (bytes at) (bytes (at + 1)) (bytes (at + 2)) (bytes (at + 3)))
    ∙ code_step bs at rest le e

-- nothing is left
pub none_left : (bs : List ℕ) (n : ℕ) → length bs ≡ n → [] ≡ drop n bs
none_left bs n long = sym (drop_all n bs (omega arith))

-- what bytes say is in the range of its width
pub half_fits : (bs : List ℕ) (at : ℕ) → Bytes bs → Half (two_at bs at)
half_fits bs at bytes = omega (arith, bytes at, bytes (at + 1))

pub word_fits : (bs : List ℕ) (at : ℕ) → Bytes bs → Word (four_at bs at)
word_fits bs at bytes = omega (arith, bytes at, bytes (at + 1), bytes (at + 2), bytes (at + 3))

bytes_none : Bytes []
bytes_none i = omega arith

bytes_more : (b : ℕ) (bs : List ℕ) → Narrow b → Bytes bs → Bytes (b ∷ bs)
bytes_more b bs first rest zero = first
bytes_more b bs first rest (suc i) = rest i

pub code_fits : (bs : List ℕ) (at : ℕ) → Bytes bs → Code (code_at bs at)
code_fits bs at bytes =
    let fourth = bytes_more (get_or bs (at + 3) 0) [] (bytes (at + 3)) bytes_none in
    let third = bytes_more (get_or bs (at + 2) 0) (get_or bs (at + 3) 0 ∷ []) (bytes (at + 2)) fourth in
    let second = bytes_more (get_or bs (at + 1) 0) (get_or bs (at + 2) 0 ∷ get_or bs (at + 3) 0 ∷ []) (bytes (at + 1)) third in
    (refl, bytes_more (get_or bs at 0) (get_or bs (at + 1) 0 ∷ get_or bs (at + 2) 0 ∷ get_or bs (at + 3) 0 ∷ []) (bytes at) second)

-- a code is its four bytes
pub code_spelt : (bs : List ℕ) → length bs ≡ 4 → code_at bs 0 ≡ bs
code_spelt bs long = code_step bs 0 [] (omega arith) (none_left bs 4 long)
