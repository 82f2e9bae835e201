-- Characters as the bytes that show them.
use Rattle.std.proofs.Common.{◌≡◌, ℕ, ◌/◌, ◌%◌, ◌^◌, ◌-◌, ◌<◌, zero, suc, true, false, ◌&&◌, List, [], ◌∷◌, ◌++◌, length, get_or, codes, Some, option_map, ap, sym, refl, ◌∙◌, arith}
use lib.Utf8.{encode}
use Rattle.std.proofs.lemmas.Bool.{and_parts, cond-false, cond-true}
use Rattle.std.proofs.lemmas.Fmt.{hex_byte}
use Rattle.std.proofs.lemmas.Str.{encode_ascii}
use Rattle.std.proofs.lemmas.Bool.Decides.{nat_tests}
use Rattle.std.specs.Fmt.{digit_glyph, digits, digits_output, format_spec, padded_integral, radix_prefix, shown_prefix, styled_digits_output}
use Rattle.lines.specs.Parts.{all_hex, all_printable, digit, hex_of, is_printable, member_text}

-- the library's digit is the one of the table
glyph : (n : ℕ) → n < 16 → digit_glyph false n ≡ digit n
glyph zero lt = refl
glyph (suc zero) lt = refl
glyph (suc (suc zero)) lt = refl
glyph (suc (suc (suc zero))) lt = refl
glyph (suc (suc (suc (suc zero)))) lt = refl
glyph (suc (suc (suc (suc (suc zero))))) lt = refl
glyph (suc (suc (suc (suc (suc (suc zero)))))) lt = refl
glyph (suc (suc (suc (suc (suc (suc (suc zero))))))) lt = refl
glyph (suc (suc (suc (suc (suc (suc (suc (suc zero)))))))) lt = refl
glyph (suc (suc (suc (suc (suc (suc (suc (suc (suc zero))))))))) lt = refl
glyph (suc (suc (suc (suc (suc (suc (suc (suc (suc (suc zero)))))))))) lt = refl
glyph (suc (suc (suc (suc (suc (suc (suc (suc (suc (suc (suc zero))))))))))) lt = refl
glyph (suc (suc (suc (suc (suc (suc (suc (suc (suc (suc (suc (suc zero)))))))))))) lt = refl
glyph (suc (suc (suc (suc (suc (suc (suc (suc (suc (suc (suc (suc (suc zero))))))))))))) lt = refl
glyph (suc (suc (suc (suc (suc (suc (suc (suc (suc (suc (suc (suc (suc (suc zero)))))))))))))) lt = refl
glyph (suc (suc (suc (suc (suc (suc (suc (suc (suc (suc (suc (suc (suc (suc (suc zero))))))))))))))) lt = refl
glyph (suc (suc (suc (suc (suc (suc (suc (suc (suc (suc (suc (suc (suc (suc (suc (suc n)))))))))))))))) lt = absurd (omega (arith, lt))

-- a byte is written as two hexadecimal digits
pub hex_shown : (b : ℕ) (d : _) (s : _) → b < 256 → digits_output d ≡ Some (digits 16 false b) → s ≡ format_spec 32 0 4 2 (2 ^ 64 - 1) →
    styled_digits_output d s ≡ Some (hex_of b)
hex_shown b d s lt has is =
    (λ i. option_map (padded_integral (is i) false (shown_prefix (is i) (radix_prefix d.base))) (has i))
    ∙ ap Some (hex_byte false b lt ∙ (λ k. glyph (b / 16) (omega (arith, lt)) k ∷ glyph (b % 16) (omega arith) k ∷ []))

printable_shown : (b : ℕ) → is_printable b ≡ true → encode b ≡ b ∷ []
printable_shown b e = encode_ascii b (grind (arith, nat_tests))

-- the characters of a code are its bytes
pub text_shown :
    (m : List ℕ) → length m ≡ 4 → all_printable m ≡ true →
    encode (get_or m 0 0) ++ (encode (get_or m 1 0) ++ (encode (get_or m 2 0) ++ encode (get_or m 3 0))) ≡ member_text m
text_shown [] is e = absurd (omega arith)
text_shown (a ∷ []) is e = absurd (omega arith)
text_shown (a ∷ b ∷ []) is e = absurd (omega arith)
text_shown (a ∷ b ∷ c ∷ []) is e = absurd (omega arith)
text_shown (a ∷ b ∷ c ∷ d ∷ []) is e =
    let one = and_parts (is_printable a) (is_printable b && (is_printable c && (is_printable d && true))) e in
    let two = and_parts (is_printable b) (is_printable c && (is_printable d && true)) one.1 in
    let three = and_parts (is_printable c) (is_printable d && true) two.1 in
    let last = and_parts (is_printable d) true three.1 in
    (λ k. printable_shown a one.0 k ++ (printable_shown b two.0 k ++ (printable_shown c three.0 k ++ printable_shown d last.0 k)))
    ∙ sym (cond-true (all_printable (a ∷ b ∷ c ∷ d ∷ [])) _ _ e)
text_shown (a ∷ b ∷ c ∷ d ∷ e ∷ m) is p = absurd (omega arith)

-- else its bytes are shown by their digits
pub digits_shown :
    (m : List ℕ) → length m ≡ 4 → all_printable m ≡ false → codes "#" ++ all_hex (get_or m 0 0 ∷ get_or m 1 0 ∷ get_or m 2 0 ∷ get_or m 3 0 ∷ []) ≡ member_text m
digits_shown [] is e = absurd (omega arith)
digits_shown (a ∷ []) is e = absurd (omega arith)
digits_shown (a ∷ b ∷ []) is e = absurd (omega arith)
digits_shown (a ∷ b ∷ c ∷ []) is e = absurd (omega arith)
digits_shown (a ∷ b ∷ c ∷ d ∷ []) is e = sym (cond-false (all_printable (a ∷ b ∷ c ∷ d ∷ [])) _ _ e)
digits_shown (a ∷ b ∷ c ∷ d ∷ e ∷ m) is p = absurd (omega arith)
