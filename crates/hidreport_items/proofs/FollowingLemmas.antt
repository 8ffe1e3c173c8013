-- How many bytes follow a header: for a short item by the header alone, for a long one by the byte
-- behind it.
use Rattle.std.proofs.Common.{◌≡◌, ℕ, zero, suc, ◌+◌, ◌<◌, ◌≤◌, Bool, true, false, cond, List, []}
use Rattle.std.proofs.Common.{◌∷◌, ◌++◌, length, take, Result, Ok, refl, sym, subst, arith}
use Rattle.std.proofs.lemmas.Bool.{cond-false, eqb-true, ne_eqb}
use Rattle.hidreport_items.specs.Answer.{GrammarFault}
use Rattle.hidreport_items.specs.Kept.{is_kept}
use Rattle.hidreport_items.specs.Spelling.{data_length, first_or_zero, following_length}
use Rattle.hidreport_items.specs.Spelling.{is_long_header}
use Rattle.hidreport_items.specs.Spelling.{item_of}
use Rattle.hidreport_items.specs.declared.item.ItemType.{ItemType}
use Rattle.hidreport_items.specs.declared.item.ItemType.TheVariants as item

-- a header that isn't a long item's
pub short-follow : (h : ℕ) (bs : List ℕ) → is_long_header h ≡ false
    → following_length h bs ≡ data_length h
short-follow h bs e = cond-false (is_long_header h) (2 + first_or_zero bs) (data_length h) e

pub small-short : (h : ℕ) (bs : List ℕ) → h < 0xfe → following_length h bs ≡ data_length h
small-short h bs small = short-follow h bs (ne_eqb h 0xfe (λ e. omega arith))

long-not-kept : (x : ItemType) → item.Long ≡ x → is_kept x ≡ true → ⊥
long-not-kept x e kept = let bad : false ≡ true = subst (λ y. is_kept y ≡ true) (sym e) kept in cc

abbrev read-is : ItemType → Result ItemType GrammarFault
read-is x = Ok x

ok-long : (x : ItemType) → read-is item.Long ≡ read-is x → item.Long ≡ x
ok-long x e = cc

-- an item that is kept is a short one
pub kept-short : (h : ℕ) (bs : List ℕ) (x : ItemType) → item_of h bs ≡ Ok x → is_kept x ≡ true
    → following_length h bs ≡ data_length h
kept-short h bs x is kept = kept-by (is_long_header h) refl
  where
    kept-by : (b : Bool) → is_long_header h ≡ b → following_length h bs ≡ data_length h
    kept-by true e =
        let same : read-is item.Long ≡ read-is x =
        subst (λ n. item_of n bs ≡ Ok x) (eqb-true h 0xfe e) is in
        absurd (long-not-kept x (ok-long x same) kept)
    kept-by false e = short-follow h bs e

-- a beginning that has all that follows the header says the same
pub following-cut : (h n : ℕ) (bs : List ℕ) → following_length h bs ≤ n
    → following_length h (take n bs) ≡ following_length h bs
following-cut h zero bs le = cut-by (is_long_header h) (data_length h) le
  where
    cut-by : (b : Bool) (a : ℕ) → cond b (2 + first_or_zero bs) a ≤ 0
        → cond b (2 + first_or_zero []) a ≡ cond b (2 + first_or_zero bs) a
    cut-by true a le = absurd (omega arith)
    cut-by false a le = refl
following-cut h (suc n) [] le = refl
following-cut h (suc n) (b ∷ bs) le = refl

-- what stands behind all that follows the header isn't looked at
pub following-more : (h : ℕ) (bs rest : List ℕ) → following_length h bs ≤ length bs
    → following_length h (bs ++ rest) ≡ following_length h bs
following-more h [] rest le = more-by (is_long_header h) (data_length h) le
  where
    more-by : (b : Bool) (a : ℕ) → cond b 2 a ≤ 0 → cond b (2 + first_or_zero rest) a ≡ cond b 2 a
    more-by true a le = absurd (omega arith)
    more-by false a le = refl
following-more h (b ∷ bs) rest le = refl

-- a beginning that is all that follows the header by what it says
pub following-within : (h n : ℕ) (bs : List ℕ) → length (take n bs) ≡ following_length h (take n bs)
    → following_length h (take n bs) ≡ following_length h bs
following-within h zero bs is = within-by (is_long_header h) (data_length h) is
  where
    within-by : (b : Bool) (a : ℕ) → 0 ≡ cond b 2 a → cond b 2 a ≡ cond b (2 + first_or_zero bs) a
    within-by true a is = absurd (omega arith)
    within-by false a is = refl
following-within h (suc n) [] is = refl
following-within h (suc n) (b ∷ bs) is = refl
