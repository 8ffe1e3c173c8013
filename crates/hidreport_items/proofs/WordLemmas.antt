-- Data of one, two or four bytes, and the numbers in it.
use Rattle.std.proofs.Common.{◌≡◌, ◌≢◌, ℕ, suc, ◌+◌, ◌-◌, ◌/◌, ◌%◌, ◌^◌, ◌<◌, ◌≤◌, Bool, true}
use Rattle.std.proofs.Common.{false, nat_lt, nat_le, cond, List, [], ◌∷◌, length, refl, sym, ap}
use Rattle.std.proofs.Common.{arith}
use Rattle.std.specs.Prelude.{ℤ, pos, negsuc, ◌-ℤ◌, ◌==◌}
use Rattle.std.proofs.lemmas.Bool.{cond_both, cond-true, ltb-true, ltb-false, leb-true, leb-false}
use Rattle.std.proofs.lemmas.Bool.{lt-ltb, le-leb, lt-leb, eqb-false}
use Rattle.std.proofs.lemmas.Int.{ints}
use Rattle.std.proofs.lemmas.List.Elements.{All-from_recursion}
use Rattle.hidreport_items.specs.Numbers.{word, signed}
use Rattle.hidreport_items.specs.Spelling.{data_length, AreBytes}
use Rattle.hidreport_items.specs.Writing.{two_bytes, four_bytes, unsigned_data, signed_data}

-- a header announces 0, 1, 2 or 4 bytes
pub announced-four : (h : ℕ) → (data_length h ≤ 4) × (data_length h ≢ 3)
announced-four h = cond_both (h % 4 == 3) 4 (h % 4) (λ n. (n ≤ 4) × (n ≢ 3))
    (λ e. (omega arith, λ e3. omega arith))
    (λ e. (omega arith, λ e3. eqb-false (h % 4) 3 e e3))

-- data that is there has one of three shapes
pub by-shape : (P : List ℕ → Type 0) (bs : List ℕ) → 0 < length bs → length bs ≤ 4 → length bs ≢ 3
    → ((a : ℕ) → P (a ∷ [])) → ((a b : ℕ) → P (a ∷ b ∷ []))
    → ((a b c d : ℕ) → P (a ∷ b ∷ c ∷ d ∷ [])) → P bs
by-shape P [] some short known one two four = absurd (omega arith)
by-shape P (a ∷ []) some short known one two four = one a
by-shape P (a ∷ b ∷ []) some short known one two four = two a b
by-shape P (a ∷ b ∷ c ∷ []) some short known one two four = absurd (known refl)
by-shape P (a ∷ b ∷ c ∷ d ∷ []) some short known one two four = four a b c d
by-shape P (a ∷ b ∷ c ∷ d ∷ e ∷ bs) some short known one two four = absurd (omega arith)

pub bytes-one : (a : ℕ) → AreBytes (a ∷ []) → a < 256
bytes-one a are = are 0 0 (omega arith)

pub bytes-two : (a b : ℕ) → AreBytes (a ∷ b ∷ []) → (a < 256) × (b < 256)
bytes-two a b are = (are 0 0 (omega arith), are 1 0 (omega arith))

pub bytes-four : (a b c d : ℕ) → AreBytes (a ∷ b ∷ c ∷ d ∷ [])
    → (a < 256) × (b < 256) × (c < 256) × (d < 256)
bytes-four a b c d are = (
  are 0 0 (omega arith),
  are 1 0 (omega arith),
  are 2 0 (omega arith),
  are 3
      0 (omega arith),
)

-- the bytes behind a header are bytes
pub bytes-behind : (h : ℕ) (bs : List ℕ) → AreBytes (h ∷ bs) → AreBytes bs
bytes-behind h bs are k d lt = are (suc k) d (omega arith)

-- unsigned data holds its number, in the fewest bytes
pub word-unsigned : (n : ℕ) → n < 2 ^ 32 → word (unsigned_data n) ≡ n
word-unsigned n small =
    cond_both (nat_lt n 256) (n ∷ []) (cond (nat_lt n 65536) (two_bytes n) (four_bytes n))
    (λ bs. word bs ≡ n)
    (λ e. omega arith)
    (λ e. cond_both (nat_lt n 65536) (two_bytes n) (four_bytes n) (λ bs. word bs ≡ n)
    (λ e2. let lt : n < 65536 = ltb-true n 65536 e2 in omega arith)
    (λ e2. omega arith))

pub word-four : (n : ℕ) → n < 2 ^ 32 → word (four_bytes n) ≡ n
word-four n small = omega arith

pub unsigned-one : (n : ℕ) → n < 256 → unsigned_data n ≡ n ∷ []
unsigned-one n small = cond-true (nat_lt n 256) (n ∷ [])
    (cond (nat_lt n 65536) (two_bytes n) (four_bytes n)) (lt-ltb n 256 small)

pub length-unsigned : (n : ℕ)
    → (0 < length (unsigned_data n)) × (length (unsigned_data n) ≤ 4) ×
    (length (unsigned_data n) ≢ 3)
length-unsigned n =
    cond_both (nat_lt n 256) (n ∷ []) (cond (nat_lt n 65536) (two_bytes n) (four_bytes n))
    (λ bs. (0 < length bs) × (length bs ≤ 4) × (length bs ≢ 3))
    (λ e. (omega arith, omega arith, λ e3. omega arith))
    (λ e. cond_both (nat_lt n 65536) (two_bytes n) (four_bytes n)
    (λ bs. (0 < length bs) × (length bs ≤ 4) × (length bs ≢ 3))
    (λ e2. (omega arith, omega arith, λ e3. omega arith))
    (λ e2. (omega arith, omega arith, λ e3. omega arith)))

pub unsigned-two : (n : ℕ) → n < 65536 → length (unsigned_data n) ≤ 2
unsigned-two n small =
    cond_both (nat_lt n 256) (n ∷ []) (cond (nat_lt n 65536) (two_bytes n) (four_bytes n))
    (λ bs. length bs ≤ 2)
    (λ e. omega arith)
    (λ e. cond_both (nat_lt n 65536) (two_bytes n) (four_bytes n) (λ bs. length bs ≤ 2)
    (λ e2. omega arith)
    (λ e2. let ge : 65536 ≤ n = ltb-false n 65536 e2 in absurd (omega arith)))

-- data is no longer than other data, and as long as it no greater
pub record IsLeast (data_bytes bs : List ℕ) : Type 0 where
  pub short : length data_bytes ≤ length bs
  pub small : length bs ≡ length data_bytes → word data_bytes ≤ word bs

-- data with at least this number is no shorter and no smaller
pub unsigned-least : (n : ℕ) (bs : List ℕ) → AreBytes bs → 0 < length bs → length bs ≤ 4
    → length bs ≢ 3 → n ≤ word bs → IsLeast (unsigned_data n) bs
unsigned-least n bs are some short known low =
    by-shape (λ bs. AreBytes bs → n ≤ word bs → IsLeast (unsigned_data n) bs) bs some short known
    (λ a are low. let small : a < 256 = bytes-one a are in
    let few : n < 256 = omega arith in
    let is : unsigned_data n ≡ n ∷ [] = unsigned-one n few in
    record {
      short = omega (arith, ap length is);
      small =
          λ e. omega (arith, word-unsigned n (omega arith));
    })
    (λ a b are low. let small : (a < 256) × (b < 256) = bytes-two a b are in
    let few : n < 65536 = omega arith in
    record {
      short = unsigned-two n few;
      small =
          λ e. omega (arith, word-unsigned n (omega arith));
    })
    (λ a b c d are low.
    let small : (a < 256) × (b < 256) × (c < 256) × (d < 256) = bytes-four a b c d are in
    let all = length-unsigned n in
    record {
      short = omega (arith, all.1);
      small =
          λ e. omega (arith, word-unsigned n (omega arith));
    })
    are low

-- the word of a signed number in so many bytes
abbrev pub complement : ℤ → ℕ → ℕ
complement (pos n) l = n
complement (negsuc n) l = 256 ^ l - 1 - n

-- a number that fits 32 bits with its sign
abbrev pub fits : ℤ → ℕ → Type 0
fits (pos n) limit = n < limit
fits (negsuc n) limit = n < limit

word-small : (z : ℤ) → fits z 128
    → (length (signed_data z) ≡ 1) × (word (signed_data z) ≡ complement z 1)
word-small (pos n) h = rw (lt-ltb n 128 h) (refl, omega arith)
word-small (negsuc n) h = rw (lt-ltb n 128 h) (refl, omega arith)

word-middle : (z : ℤ) → fits z 32768
    → (length (signed_data z) ≤ 2) ×
    (length (signed_data z) ≡ 2 → word (signed_data z) ≡ complement z 2)
word-middle (pos n) h =
    cond_both (nat_lt n 128) (n ∷ []) (cond (nat_lt n 32768) (two_bytes n) (four_bytes n))
    (λ bs. (length bs ≤ 2) × (length bs ≡ 2 → word bs ≡ n))
    (λ e. (omega arith, λ e2. omega arith))
    (λ e. rw (lt-ltb n 32768 h) (omega arith, λ e2. omega arith))
word-middle (negsuc n) h =
    cond_both (nat_lt n 128) ((255 - n) ∷ [])
    (cond (nat_lt n 32768) (two_bytes (65535 - n)) (four_bytes (4294967295 - n)))
    (λ bs. (length bs ≤ 2) × (length bs ≡ 2 → word bs ≡ 65536 - 1 - n))
    (λ e. (omega arith, λ e2. omega arith))
    (λ e. rw (lt-ltb n 32768 h) (omega arith, λ e2. omega arith))

word-large : (z : ℤ) → fits z 2147483648
    → (length (signed_data z) ≤ 4) ×
    (length (signed_data z) ≡ 4 → word (signed_data z) ≡ complement z 4)
word-large (pos n) h =
    cond_both (nat_lt n 128) (n ∷ []) (cond (nat_lt n 32768) (two_bytes n) (four_bytes n))
    (λ bs. (length bs ≤ 4) × (length bs ≡ 4 → word bs ≡ n))
    (λ e. (omega arith, λ e2. omega arith))
    (λ e. cond_both (nat_lt n 32768) (two_bytes n) (four_bytes n)
    (λ bs. (length bs ≤ 4) × (length bs ≡ 4 → word bs ≡ n))
    (λ e3. (omega arith, λ e2. omega arith))
    (λ e3. (omega arith, λ e2. omega arith)))
word-large (negsuc n) h =
    cond_both (nat_lt n 128) ((255 - n) ∷ [])
    (cond (nat_lt n 32768) (two_bytes (65535 - n)) (four_bytes (4294967295 - n)))
    (λ bs. (length bs ≤ 4) × (length bs ≡ 4 → word bs ≡ 4294967296 - 1 - n))
    (λ e. (omega arith, λ e2. omega arith))
    (λ e. cond_both (nat_lt n 32768) (two_bytes (65535 - n)) (four_bytes (4294967295 - n))
    (λ bs. (length bs ≤ 4) × (length bs ≡ 4 → word bs ≡ 4294967296 - 1 - n))
    (λ e3. (omega arith, λ e2. omega arith))
    (λ e3. (omega arith, λ e2. omega arith)))

-- a word with the sign that its top bit gives it
below-half : (w half : ℕ) (z : ℤ) → pos w ≡ z → w < half
    → fits z half × ((l : ℕ) → complement z l ≡ w)
below-half w half (pos n) e lt = let same : w ≡ n = cc in (rw (sym same) lt, λ l. sym same)
below-half w half (negsuc n) e lt = cc

above-half : (w half l : ℕ) (z : ℤ) → pos w -ℤ pos (256 ^ l) ≡ z → 256 ^ l ≡ half + half → half ≤ w
    → w < half + half → fits z half × (complement z l ≡ w)
above-half w half l (pos n) e whole ge lt = absurd (omega (arith, ints, e))
above-half w half l (negsuc n) e whole ge lt = (omega (arith, ints, e), omega (arith, ints, e))

signed-shape : (top : Bool) (w half l : ℕ) (z : ℤ) → cond top (pos w -ℤ pos (256 ^ l)) (pos w) ≡ z
    → (top ≡ true → half ≤ w) → (top ≡ false → w < half)
    → 256 ^ l ≡ half + half → w < half + half → fits z half × (complement z l ≡ w)
signed-shape true w half l z e above below whole lt = above-half w half l z e whole (above refl) lt
signed-shape false w half l z e above below whole lt =
    let both = below-half w half z e (below refl) in (both.0, both.1 l)

own-one : (z : ℤ) (a : ℕ) → AreBytes (a ∷ []) → signed (a ∷ []) ≡ z
    → fits z 128 × (complement z 1 ≡ word (a ∷ []))
own-one z a are says =
    let small : a < 256 = bytes-one a are in
    signed-shape (nat_le 128 a) (word (a ∷ [])) 128 1 z says
    (λ t. let ge : 128 ≤ a = leb-true 128 a t in omega arith)
    (λ t. let lt : a < 128 = leb-false 128 a t in omega arith) refl (omega arith)

own-two : (z : ℤ) (a b : ℕ) → AreBytes (a ∷ b ∷ []) → signed (a ∷ b ∷ []) ≡ z
    → fits z 32768 × (complement z 2 ≡ word (a ∷ b ∷ []))
own-two z a b are says =
    let small : (a < 256) × (b < 256) = bytes-two a b are in
    signed-shape (nat_le 128 b) (word (a ∷ b ∷ [])) 32768 2 z says
    (λ t. let ge : 128 ≤ b = leb-true 128 b t in omega arith)
    (λ t. let lt : b < 128 = leb-false 128 b t in omega arith) refl (omega arith)

own-four : (z : ℤ) (a b c d : ℕ) → AreBytes (a ∷ b ∷ c ∷ d ∷ []) → signed (a ∷ b ∷ c ∷ d ∷ []) ≡ z
    → fits z 2147483648 × (complement z 4 ≡ word (a ∷ b ∷ c ∷ d ∷ []))
own-four z a b c d are says =
    let small : (a < 256) × (b < 256) × (c < 256) × (d < 256) = bytes-four a b c d are in
    signed-shape (nat_le 128 d) (word (a ∷ b ∷ c ∷ d ∷ [])) 2147483648 4 z says
    (λ t. let ge : 128 ≤ d = leb-true 128 d t in omega arith)
    (λ t. let lt : d < 128 = leb-false 128 d t in omega arith) refl (omega arith)

-- data that says a signed number is no shorter and no smaller than what is written for it
pub signed-least : (z : ℤ) (bs : List ℕ) → AreBytes bs → 0 < length bs → length bs ≤ 4
    → length bs ≢ 3 → signed bs ≡ z → IsLeast (signed_data z) bs
signed-least z bs are some short known says =
    by-shape (λ bs. AreBytes bs → signed bs ≡ z → IsLeast (signed_data z) bs) bs some short known
    (λ a are says. let own = own-one z a are says in
    let written = word-small z own.0 in
    record { short = omega (arith, written.0); small = λ e. omega (arith, written.1, own.1) })
    (λ a b are says. let own = own-two z a b are says in
    let written = word-middle z own.0 in
    record {
      short = written.0;
      small =
          λ e. let same = written.1 (sym e) in omega (arith, same, own.1);
    })
    (λ a b c d are says. let own = own-four z a b c d are says in
    let written = word-large z own.0 in
    record {
      short = written.0;
      small =
          λ e. let same = written.1 (sym e) in omega (arith, same, own.1);
    })
    are says

fits-more : (z : ℤ) (a b : ℕ) → a ≤ b → fits z a → fits z b
fits-more (pos n) a b le h = omega arith
fits-more (negsuc n) a b le h = omega arith

pub signed-fits : (z : ℤ) (bs : List ℕ) → AreBytes bs → 0 < length bs → length bs ≤ 4
    → length bs ≢ 3 → signed bs ≡ z → fits z 2147483648
signed-fits z bs are some short known says =
    by-shape (λ bs. AreBytes bs → signed bs ≡ z → fits z 2147483648) bs some short known
    (λ a are says. fits-more z 128 2147483648 (omega arith) (own-one z a are says).0)
    (λ a b are says. fits-more z 32768 2147483648 (omega arith) (own-two z a b are says).0)
    (λ a b c d are says. (own-four z a b c d are says).0)
    are says

-- a signed number of 32 bits is what its data says
pub signed-again : (z : ℤ) → fits z 2147483648 → signed (signed_data z) ≡ z
signed-again (pos n) h =
    cond_both (nat_lt n 128) (n ∷ []) (cond (nat_lt n 32768) (two_bytes n) (four_bytes n))
    (λ bs. signed bs ≡ pos n)
    (λ e. let lt : n < 128 = ltb-true n 128 e in rw (lt-leb 128 n lt) (ap pos (omega arith)))
    (λ e. cond_both (nat_lt n 32768) (two_bytes n) (four_bytes n) (λ bs. signed bs ≡ pos n)
    (λ e2. let lt : n < 32768 = ltb-true n 32768 e2 in
    let low : n / 256 % 256 < 128 =
    omega arith in rw (lt-leb 128 (n / 256 % 256) low) (ap pos (omega arith)))
    (λ e2. let low : n / 16777216 % 256 < 128 = omega arith in rw
    (lt-leb 128 (n / 16777216 % 256) low) (ap pos (omega arith))))
signed-again (negsuc n) h =
    cond_both (nat_lt n 128) ((255 - n) ∷ [])
    (cond (nat_lt n 32768) (two_bytes (65535 - n)) (four_bytes (4294967295 - n)))
    (λ bs. signed bs ≡ negsuc n)
    (λ e. let lt : n < 128 = ltb-true n 128 e in let top : 128 ≤ 255 - n = omega arith in rw
    (le-leb 128 (255 - n) top) (omega (arith, ints)))
    (λ e. cond_both (nat_lt n 32768) (two_bytes (65535 - n)) (four_bytes (4294967295 - n))
    (λ bs. signed bs ≡ negsuc n)
    (λ e2. let lt : n < 32768 = ltb-true n 32768 e2 in
    let top : 128 ≤ (65535 - n) / 256 % 256 =
    omega arith in rw (le-leb 128 ((65535 - n) / 256 % 256) top) (omega (arith, ints)))
    (λ e2. let top : 128 ≤ (4294967295 - n) / 16777216 % 256 = omega arith in rw
    (le-leb 128 ((4294967295 - n) / 16777216 % 256) top) (omega (arith, ints))))

-- a word of at most four bytes fits 32 bits
pub word-fits : (bs : List ℕ) → AreBytes bs → length bs ≤ 4 → length bs ≢ 3 → word bs < 2 ^ 32
word-fits [] are short known = omega arith
word-fits (x ∷ xs) are short known =
    by-shape (λ bs. AreBytes bs → word bs < 4294967296) (x ∷ xs) (omega arith) short known
    (λ a are. let small : a < 256 = bytes-one a are in omega arith)
    (λ a b are. let small : (a < 256) × (b < 256) = bytes-two a b are in omega arith)
    (λ a b c d are.
    let small : (a < 256) × (b < 256) × (c < 256) × (d < 256) =
    bytes-four a b c d are in omega arith)
    are

pub signed-fits-any : (z : ℤ) (bs : List ℕ) → AreBytes bs → length bs ≤ 4 → length bs ≢ 3
    → signed bs ≡ z → fits z 2147483648
signed-fits-any (pos n) [] are short known says = let zero_is : 0 ≡ n = cc in omega arith
signed-fits-any (negsuc n) [] are short known says = cc
signed-fits-any z (x ∷ xs) are short known says =
    signed-fits z (x ∷ xs) are (omega arith) short known says

-- what is written is bytes
pub are-one : (a : ℕ) → a < 256 → AreBytes (a ∷ [])
are-one a ha = All-from_recursion (λ b. b < 256) (a ∷ []) (ha, tt)

pub are-two : (n : ℕ) → AreBytes (two_bytes n)
are-two n = All-from_recursion (λ b. b < 256) (two_bytes n) (omega arith, (omega arith, tt))

pub are-four : (n : ℕ) → AreBytes (four_bytes n)
are-four n = All-from_recursion (λ b. b < 256) (four_bytes n)
    (omega arith, (omega arith, (omega arith, (omega arith, tt))))

pub are-unsigned : (n : ℕ) → AreBytes (unsigned_data n)
are-unsigned n =
    cond_both (nat_lt n 256) (n ∷ []) (cond (nat_lt n 65536) (two_bytes n) (four_bytes n)) AreBytes
    (λ e. are-one n (ltb-true n 256 e))
    (λ e. cond_both (nat_lt n 65536) (two_bytes n) (four_bytes n) AreBytes (λ e2. are-two n)
    (λ e2. are-four n))

pub are-signed : (z : ℤ) → AreBytes (signed_data z)
are-signed (pos n) =
    cond_both (nat_lt n 128) (n ∷ []) (cond (nat_lt n 32768) (two_bytes n) (four_bytes n)) AreBytes
    (λ e. are-one n (let lt : n < 128 = ltb-true n 128 e in omega arith))
    (λ e. cond_both (nat_lt n 32768) (two_bytes n) (four_bytes n) AreBytes (λ e2. are-two n)
    (λ e2. are-four n))
are-signed (negsuc n) =
    cond_both (nat_lt n 128) ((255 - n) ∷ [])
    (cond (nat_lt n 32768) (two_bytes (65535 - n)) (four_bytes (4294967295 - n))) AreBytes
    (λ e. are-one (255 - n) (omega arith))
    (λ e. cond_both (nat_lt n 32768) (two_bytes (65535 - n)) (four_bytes (4294967295 - n)) AreBytes
    (λ e2. are-two (65535 - n)) (λ e2. are-four (4294967295 - n)))

-- how long signed data is
abbrev pub HasShape : List ℕ → Type 0
HasShape bs = (0 < length bs) × (length bs ≤ 4) × (length bs ≢ 3)

pub shape-signed : (z : ℤ) → HasShape (signed_data z)
shape-signed (pos n) =
    cond_both (nat_lt n 128) (n ∷ []) (cond (nat_lt n 32768) (two_bytes n) (four_bytes n)) HasShape
    (λ e. (omega arith, omega arith, λ e3. omega arith))
    (λ e. cond_both (nat_lt n 32768) (two_bytes n) (four_bytes n) HasShape
    (λ e2. (omega arith, omega arith, λ e3. omega arith))
    (λ e2. (omega arith, omega arith, λ e3. omega arith)))
shape-signed (negsuc n) =
    cond_both (nat_lt n 128) ((255 - n) ∷ [])
    (cond (nat_lt n 32768) (two_bytes (65535 - n)) (four_bytes (4294967295 - n))) HasShape
    (λ e. (omega arith, omega arith, λ e3. omega arith))
    (λ e. cond_both (nat_lt n 32768) (two_bytes (65535 - n)) (four_bytes (4294967295 - n)) HasShape
    (λ e2. (omega arith, omega arith, λ e3. omega arith))
    (λ e2. (omega arith, omega arith, λ e3. omega arith)))
