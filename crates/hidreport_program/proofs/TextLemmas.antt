-- What a number with zeros before it is printed as.
use Rattle.std.proofs.Common.{◌≡◌, ℕ, ◌-◌, List, [], ◌++◌, length, replicate, ap, ◌∙◌, append-nil}
use Rattle.std.proofs.Common.{false, arith}
use Rattle.std.specs.Fmt.{padded_integral, format_spec, char_count}

-- a numeral with zeros before it, up to a width
pub padded_with_zeros : (count : ℕ) (digits : List ℕ)
    → padded_integral (format_spec 32 0 4 count 18446744073709551615) false [] digits ≡ replicate
    (count - length digits) 48 ++ digits
unfolding padded_integral char_count
padded_with_zeros count digits =
    ap (λ n. replicate n 48 ++ (digits ++ []))
    (let e : count - length digits - 0 - char_count [] ≡ count - length digits = omega arith in
    e)
    ∙ ap (λ l. replicate (count - length digits) 48 ++ l) (append-nil digits)
