-- Bits of a word that is made of more bytes than they touch.
use Rattle.std.proofs.Common.{◌≡◌, ℕ, ◌+◌, ◌*◌, ◌/◌, ◌%◌, ◌^◌, ◌-◌, ◌<◌, ◌≤◌, List, length, take, drop}
use Rattle.std.proofs.Common.{length-drop, sym, ap, ◌∙◌, arith, bit_and}
use Rattle.std.proofs.lemmas.List.{length-take-le}
use Rattle.std.proofs.lemmas.List.Elements.{All-take, All-drop}
use Rattle.hidreport_items.specs.Numbers.{word}
use Rattle.hidreport_items.specs.Spelling.{AreBytes}
use Rattle.hidreport_fields.specs.BitValue.{sum_of_bits}
use Rattle.hidreport_fields.proofs.WordLemmas.{masked, sum-from, sum-word}

-- bits that lie in so many bytes from some place on
pub window-bits : (bytes : List ℕ) → AreBytes bytes → (place count first width : ℕ)
    → place + count ≤ length bytes → 8 * place ≤ first → first + width ≤ 8 * (place + count)
    → word (take count (drop place bytes)) / 2 ^ (first - 8 * place) % 2 ^ width
    ≡ sum_of_bits bytes first width
window-bits bytes are place count first width room from upto =
    let touched = take count (drop place bytes) in
    let left : length (drop place bytes) ≡ length bytes - place = length-drop place bytes in
    let size : length touched ≡ count =
    length-take-le count (drop place bytes) (omega (arith, left, room)) in
    let touched-are : AreBytes touched =
    All-take (λ b. b < 256) count (drop place bytes) (All-drop (λ b. b < 256) place bytes are) in
    let within : first - 8 * place + width ≤ 8 * count = omega (arith, from, upto) in
    let here : first - 8 * place + width ≤ 8 * length touched = omega (arith, within, size) in
    let at : 8 * place + (first - 8 * place) ≡ first = omega (arith, from) in
    sym (sum-word touched touched-are (first - 8 * place) width here)
    ∙ sym (sum-from bytes place count (first - 8 * place) width within)
    ∙ ap (λ n. sum_of_bits bytes n width) at

-- the same by a mask
pub window-masked : (bytes : List ℕ) → AreBytes bytes → (place count first width n : ℕ)
    → place + count ≤ length bytes → 8 * place ≤ first → first + width ≤ 8 * (place + count)
    → width ≤ 32 → n ≡ word (take count (drop place bytes))
    → bit_and (n / 2 ^ (first - 8 * place)) (1 * 2 ^ width % 18446744073709551616 - 1)
    ≡ sum_of_bits bytes first width
window-masked bytes are place count first width n room from upto narrow e =
    masked (n / 2 ^ (first - 8 * place)) width narrow
    ∙ ap (λ m. m / 2 ^ (first - 8 * place) % 2 ^ width) e
    ∙ window-bits bytes are place count first width room from upto

-- where all bytes are one word
pub short-masked : (bytes : List ℕ) → AreBytes bytes → (first width n : ℕ)
    → first + width ≤ 8 * length bytes → width ≤ 32 → n ≡ word bytes
    → bit_and (n / 2 ^ first) (1 * 2 ^ width % 18446744073709551616 - 1)
    ≡ sum_of_bits bytes first width
short-masked bytes are first width n within narrow e =
    masked (n / 2 ^ first) width narrow ∙ ap (λ m. m / 2 ^ first % 2 ^ width) e
    ∙ sym (sum-word bytes are first width within)
