-- Items counted by what follows their headers, one after the other.
use Rattle.std.proofs.Common.{◌≡◌, ℕ, zero, suc, ◌+◌, ◌<◌, ◌≤◌, List, [], ◌∷◌, length, get_or, take}
use Rattle.std.proofs.Common.{drop, ◌-◌, refl, ap, ◌∙◌, subst, arith, length-drop}
use Rattle.std.proofs.Math.Seq.{take-length}
use Rattle.std.proofs.lemmas.List.{drop-drop, drop_more}
use Rattle.hidreport_items.specs.Spelling.{following_length}
use Rattle.hidreport_lists.specs.Headers.{headers_from}

headers-inside : (inside : ℕ) (bs : List ℕ)
    → headers_from inside bs ≡ headers_from 0 (drop inside bs)
headers-inside zero bs = refl
headers-inside (suc inside) [] = refl
headers-inside (suc inside) (b ∷ bs) = headers-inside inside bs

headers-first : (bytes : List ℕ) (i : ℕ) → i < length bytes
    → headers_from 0 (drop i bytes) ≡ 1 + headers_from 0
    (drop (i + (1 + following_length (get_or bytes i 0) (drop (i + 1) bytes))) bytes)
headers-first bytes i lt =
    let a = following_length (get_or bytes i 0) (drop (i + 1) bytes) in
    ap (headers_from 0) (drop_more bytes i 0 lt)
    ∙ ap (λ n. 1 + n) (headers-inside a (drop (i + 1) bytes)
    ∙ ap (headers_from 0) (drop-drop a (i + 1) bytes
    ∙ ap (λ n. drop n bytes) (let e : i + 1 + a ≡ i + (1 + a) = omega arith in e)))

-- the bytes from a place to the end
pub behind : (bytes : List ℕ) (i : ℕ) → take (length bytes - i) (drop i bytes) ≡ drop i bytes
behind bytes i = subst (λ n. take n (drop i bytes) ≡ drop i bytes) (length-drop i bytes)
    (take-length (drop i bytes))

-- one header more
pub headers-step : (bytes : List ℕ) (count i a : ℕ) → i < length bytes
    → a ≡ following_length (get_or bytes i 0) (drop (i + 1) bytes)
    → count + headers_from 0 (drop i bytes) ≡ headers_from 0 bytes
    → count + 1 + headers_from 0 (drop (i + (1 + a)) bytes) ≡ headers_from 0 bytes
headers-step bytes count i a lt is so_far =
    let first = headers-first bytes i lt in
    let same : headers_from 0 (drop (i + (1 + a)) bytes) ≡ headers_from 0
    (drop (i + (1 + following_length (get_or bytes i 0) (drop (i + 1) bytes))) bytes) =
    ap (λ n. headers_from 0 (drop (i + (1 + n)) bytes)) is in
    omega (arith, first, same, so_far)

none-left : (bytes : List ℕ) (i : ℕ) → length bytes ≤ i → headers_from 0 (drop i bytes) ≡ 0
none-left [] zero le = refl
none-left [] (suc i) le = refl
none-left (b ∷ bytes) zero le = let bad : length (b ∷ bytes) ≤ 0 = le in absurd (omega arith)
none-left (b ∷ bytes) (suc i) le = none-left bytes i (omega arith)

pub headers-all : (bytes : List ℕ) (count i : ℕ) → length bytes ≤ i
    → count + headers_from 0 (drop i bytes) ≡ headers_from 0 bytes → count ≡ headers_from 0 bytes
headers-all bytes count i le so_far = omega (arith, none-left bytes i le, so_far)
