-- What `{:06b}` writes.
use Rattle.std.proofs.Common.{◌≡◌, ℕ, ◌-◌, List, [], ◌++◌, length, replicate, ap, ◌∙◌, append-nil}
use Rattle.std.proofs.Common.{false, arith}
use Rattle.std.specs.Fmt.{padded_integral, format_spec, char_count}

-- a numeral with zeros before it, up to a width of six
pub padded_to_six : (digits : List ℕ)
    → padded_integral (format_spec 32 0 4 6 18446744073709551615) false [] digits ≡ replicate
    (6 - length digits) 48 ++ digits
unfolding padded_integral char_count
padded_to_six digits = ap (λ n. replicate n 48 ++ (digits ++ []))
    (let e : 6 - length digits - 0 - char_count [] ≡ 6 - length digits = omega arith in e)
    ∙ ap (λ l. replicate (6 - length digits) 48 ++ l) (append-nil digits)
